-- Laws of the key mark, one for each function and each way out.
use Prim.Native.Nat.{ℕ, ◌%◌, ◌≤◌, ◌<◌}
use mathlib.Core.Path.{◌≡◌, refl, sym, ◌∙◌}
use mathlib.Core.Bool.{Bool, true, false, not, ◌&&◌}
use mathlib.Core.List.{List, [], ◌∷◌}
use native.Mathlib.Nat.{div-one}
use native.Mathlib.Omega.{arith}
use lib.ListN.{length, get_or}
use Rattle.octets.specs.Bytes.{be, part, same}
use Rattle.octets.proofs.Parts.{tab_part}
use Rattle.modes.specs.Cmac.{cmac}
use Rattle.cipher.specs.Key.{loaded, encrypted}
use Rattle.cipher.specs.declared.Key.{Key}
use Rattle.layout.specs.Layout.{edition3, edition_of, key_class, edition_byte, stored_mark, fit}
use Rattle.layout.specs.Shape.{shape_of}
use Rattle.layout.specs.declared.Shape.{Shape}
use Rattle.layout.proofs.Header.{edition_cases, edition_three, edition_read, header_holds, header_long}
use Rattle.layout.proofs.Fits.{fit_facts, fits_header}
use Rattle.captions.specs.Captions.{Ciphers, pair, loaded_for, mark_block, key_mark, mark_for, other_keys}

pub mark_block_lem : (n t v : ℕ) (x y : List ℕ) → x ≡ be 2 n → y ≡ be 2 v
    → get_or x 0 0 ∷ get_or x 1 0 ∷ t % 256 ∷ 3 ∷ get_or y 0 0 ∷ get_or y 1 0 ∷ 0 ∷ 0 ∷ [] ≡ mark_block n t v
unfolding mark_block be
mark_block_lem n t v x y e f = rw (e, f, div-one t)

-- k and m are the loaded keys, b the block, c its check
pub mark_made : (a b : List ℕ) (n t v : ℕ) (k m : Key) (x y c : List ℕ) → k ≡ loaded t a → m ≡ loaded t b → x ≡ mark_block n t v → y ≡ encrypted k x → c ≡ cmac (encrypted m) y → length c ≡ 8
    → get_or c 0 0 ∷ get_or c 1 0 ∷ get_or c 2 0 ∷ get_or c 3 0 ∷ get_or c 4 0 ∷ get_or c 5 0 ∷ [] ≡ key_mark (loaded_for t (pair a b)) n t v
unfolding key_mark loaded_for
mark_made a b n t v k m x y c e f g h i l = tab_part 6 0 c (omega (arith, l)) ∙ rw (i, h, g, f, e)

-- ---- the mark of a sheet that meets the layout

module _ (s : List ℕ) (t : fit s ≡ true) where
  pub fit_inside : (edition_of s).header ≤ length s
  fit_inside = fits_header s (fit_facts s t)

  pub fit_long : 3 < length s
  fit_long = omega (arith, fit_inside, header_holds s)

  -- y is what was read of byte 3
  module _ (y : ℕ) (e : y ≡ get_or s 3 0) where
    byte_is : y ≡ edition_byte s
    byte_is = edition_read s y (header_long s fit_inside) e

    pub mark_none : (y ≡ 3 → ⊥) → (x : Ciphers) → false ≡ other_keys x (edition_of s) s
    unfolding other_keys
    mark_none n x =
        edition_cases (λ e. false ≡ e.keyed && not (same (mark_for x s) (stored_mark s))) s (λ f g. refl) (λ h. refl) (λ h. absurd (n (byte_is ∙ h)))

    module _ (q : y ≡ 3) where
      is_three : edition_of s ≡ edition3
      is_three = edition_three s (sym byte_is ∙ q)

      pub mark_inside : 16 ≤ length s
      mark_inside = rw is_three at fit_inside

      pub mark_found : (a b : List ℕ) (h : Shape) → h ≡ shape_of s → (m : List ℕ) → m ≡ key_mark (loaded_for h.class (pair a b)) h.slots h.class h.tail
          → (r : Bool) → r ≡ same m (part s 10 6) → not r ≡ other_keys (loaded_for (key_class s) (pair a b)) (edition_of s) s
      unfolding other_keys mark_for stored_mark shape_of
      mark_found a b h g m f r i = rw (i, f, g, is_three)
