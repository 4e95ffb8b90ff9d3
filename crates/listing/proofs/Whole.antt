-- Laws of the whole listing, one for each way out of a function that makes it.
use Prim.Native.Nat.{ℕ, ◌*◌, ◌≤◌, ◌<◌}
use mathlib.Core.Path.{◌≡◌, sym, ap, ◌∙◌, subst}
use mathlib.Core.Bool.{Bool, true, false}
use mathlib.Core.List.{List, ◌++◌}
use native.Mathlib.Decide.{dec_lt}
use native.Mathlib.Omega.{arith}
use borrow.Author.Tests.{le-leb, lt-leb}
use lib.Dec.{leb}
use lib.ListN.{length, take}
use lib.Seq.{length-take-le}
use Rattle.octets.specs.Bytes.{put}
use Rattle.octets.proofs.Bool.{and_right}
use Rattle.octets.proofs.Parts.{length_put}
use Rattle.cipher.specs.Key.{key_bytes}
use Rattle.layout.specs.declared.Shape.{Shape}
use Rattle.layout.specs.Layout.{last_write, fit, edition_of}
use Rattle.layout.specs.Shape.{shape_of, SheetOf}
use Rattle.layout.proofs.Fits.{Fits, fit_facts, fits_sheet, fits_header, fits_class_small}
use Rattle.listing.specs.Ascii.{ascii}
use Rattle.listing.specs.Listing.{line_feed, ended, line, head_line, slot_lines, key_bits, listable, listing, listed}

-- ---- whether a sheet is listed

module _ (s : List ℕ) where
  pub listable_long : 53264 < length s → leb (length s) 53264 ≡ listable s
  unfolding listable
  listable_long h = rw (lt-leb (length s) 53264 h)

  pub listable_fit : length s ≤ 53264 → (r : Bool) → r ≡ fit s → r ≡ listable s
  unfolding listable
  listable_fit h r e = rw (le-leb (length s) 53264 h) e

  -- r is what was found of it
  module _ (r : Bool) (e : r ≡ listable s) where
    pub unfit_put : r ≡ false → (m : List ℕ) → m ≡ ended (ascii "unfit") line_feed → m ≡ listing s
    unfolding listing line
    unfit_put t m p = p ∙ rw (← e, t)

    module _ (t : r ≡ true) where
      listable_fits : Fits s
      unfolding listable
      listable_fits = fit_facts s (and_right (leb (length s) 53264) (fit s) (sym e ∙ t))

      pub sheet_long : 8 ≤ length s
      sheet_long = listable_fits.long

      pub sheet_header : (edition_of s).header ≤ length s
      sheet_header = fits_header s listable_fits

      -- h is the shape that was read
      module _ (h : Shape) (q : h ≡ shape_of s) where
        pub sheet_of : SheetOf s h
        sheet_of = rw q (fits_sheet s listable_fits)

        pub class_small : h.class < 256
        unfolding shape_of
        class_small = rw q (fits_class_small s listable_fits)

        pub slots_small : h.slots < 10000000000
        slots_small = omega (arith, sheet_of.small.1)

        pub listing_put : (k w : ℕ) → k ≡ 8 * key_bytes h.class → w ≡ last_write s → (l m : List ℕ)
            → l ≡ head_line h.slots k w → m ≡ l ++ slot_lines s h.slots → m ≡ listing s
        unfolding listing key_bits shape_of
        listing_put k w f g l m p v = v ∙ rw (p, ← e, t, f, g, q)

-- ---- the listing m copied to the output

module _ (s out m : List ℕ) (p : m ≡ listing s) where
  pub listed_none : length out < length m → ◌≡◌ {A = ℕ × List ℕ} (0, out) (listed s out)
  unfolding listed
  listed_none h = rw (← p, lt-leb (length m) (length out) h)

  pub fits_not : length out < length m → length (listing s) ≤ length out → ⊥
  fits_not h g = omega (arith, ap length p)

  pub listed_all : length m ≤ length out → (x : List ℕ) → x ≡ put out 0 m → ◌≡◌ {A = ℕ × List ℕ} (length m, x) (listed s out)
  unfolding listed
  listed_all h x e = rw (← p, le-leb (length m) (length out) h, e)

  pub fits_all : length m ≤ length out → (length (listing s) ≤ length out) × (length m ≡ length (listing s))
  fits_all h = (omega (arith, ap length p), ap length p)

-- what is listed is within the output
listed_fits : (s out : List ℕ) → (listed s out).0 ≤ length (listed s out).1
unfolding listed
listed_fits s out =
    elim (dec_lt (length out) (length (listing s))) [
      | yes l ↦ rw (lt-leb (length (listing s)) (length out) l) (omega arith)
      | no l ↦
          let g : length (listing s) ≤ length out = omega arith in
          rw (le-leb (length (listing s)) (length out) g, length_put out (listing s) 0 (omega arith)) g
    ]

module _ (s out x : List ℕ) (n : ℕ) (e : ◌≡◌ {A = ℕ × List ℕ} (n, x) (listed s out)) where
  pub listed_within : n ≤ length x
  listed_within = subst (λ (y : ℕ × List ℕ). y.0 ≤ length y.1) (sym e) (listed_fits s out)

  pub listed_count : n ≡ length (take n x)
  listed_count = sym (length-take-le n x listed_within)
