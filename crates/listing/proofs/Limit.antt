-- The listing's limit holds.
use Prim.Native.Nat.{ℕ, ◌+◌, ◌*◌, ◌≤◌, ◌<◌}
use mathlib.Core.Path.{◌≡◌, ap, ◌∙◌}
use mathlib.Core.Bool.{true}
use mathlib.Core.List.{List}
use mathlib.Core.Logic.{◌⊎◌, ⊎_elim}
use native.Mathlib.Omega.{arith}
use borrow.Author.Tests.{leb-true, le-leb, lt-leb}
use lib.Dec.{leb}
use lib.ListN.{length}
use Rattle.octets.proofs.Bool.{and_left, and_both}
use Rattle.layout.specs.Layout.{Edition, edition1, edition2, edition3, edition_of, slots, edition_byte, sheet_size, fit}
use Rattle.layout.proofs.Header.{edition_one, edition_two, edition_three, header_small}
use Rattle.layout.proofs.Fits.{fit_facts, fits_few}
use Rattle.listing.specs.Listing.{line, listable, listing}
use Rattle.listing.specs.Ascii.{ascii}
use Rattle.listing.specs.Limit.{Limit}

most : (s : List ℕ) → fit s ≡ true → length s ≤ 53264
unfolding sheet_size
most s h =
    let f = fit_facts s h in
    omega (arith, f.size, header_small s, fits_few (edition_of s) s f)

-- the size of a fit sheet, with the header of its edition
sized : (s : List ℕ) (e : Edition) → fit s ≡ true → edition_of s ≡ e → length s ≡ e.header + 208 * slots s
unfolding sheet_size
sized s e h q = (fit_facts s h).size ∙ ap (λ (d : Edition). d.header + 208 * slots s) q

size_1 : (s : List ℕ) → fit s ≡ true → edition_byte s ≡ 1 → length s ≡ 8 + 208 * slots s
size_1 s h e = sized s edition1 h (edition_one s (λ f. omega (arith, e, f)) (λ f. omega (arith, e, f)))

size_2 : (s : List ℕ) → fit s ≡ true → (edition_byte s ≡ 2) ⊎ (edition_byte s ≡ 3) → length s ≡ 16 + 208 * slots s
size_2 s h = ⊎_elim (λ e. sized s edition2 h (edition_two s e)) (λ e. sized s edition3 h (edition_three s e))

all_listed : (s : List ℕ) → fit s ≡ true → listable s ≡ true
unfolding listable
all_listed s h = and_both (leb (length s) 53264) (fit s) (le-leb (length s) 53264 (most s h)) h

at_most : (s : List ℕ) → listable s ≡ true → length s ≤ 53264
unfolding listable
at_most s h = leb-true (length s) 53264 (and_left (leb (length s) 53264) (fit s) h)

above : (s : List ℕ) → 53264 < length s → listing s ≡ ascii "unfit\n"
unfolding listing listable line
above s h = rw (lt-leb (length s) 53264 h)

pub limit : Limit
limit =
    record {
      all_listed = all_listed;
      at_most = at_most;
      size_1 = size_1;
      size_2 = size_2;
      smallest_1 = λ s h e n. omega (arith, size_1 s h e, n);
      largest_1 = λ s h e n. omega (arith, size_1 s h e, n);
      smallest_2 = λ s h e n. omega (arith, size_2 s h e, n);
      largest_2 = λ s h e n. omega (arith, size_2 s h e, n);
      above = above;
    }
