-- The listing takes up to 53264 bytes (document 02, request 3): every sheet that meets the layout is listed, and nothing longer.
use Rattle.std.specs.Prelude.{ℕ, ◌+◌, ◌*◌, ◌≤◌, ◌<◌, ◌≡◌, true, List, ◌⊎◌, length}
use Rattle.layout.specs.Layout.{slots, edition_byte, fit}
use Rattle.listing.specs.Ascii.{ascii}
use Rattle.listing.specs.Listing.{listable, listing}

pub record Limit : Type 0 where
  pub all_listed : (s : List ℕ) → fit s ≡ true → listable s ≡ true
  pub at_most : (s : List ℕ) → listable s ≡ true → length s ≤ 53264
  -- the sizes that the documents give, of n = 1 and n = 256: 216 and 53256 in edition 1, 8 bytes more in editions 2 and 3
  pub size_1 : (s : List ℕ) → fit s ≡ true → edition_byte s ≡ 1 → length s ≡ 8 + 208 * slots s
  pub size_2 : (s : List ℕ) → fit s ≡ true → (edition_byte s ≡ 2) ⊎ (edition_byte s ≡ 3) → length s ≡ 16 + 208 * slots s
  pub smallest_1 : (s : List ℕ) → fit s ≡ true → edition_byte s ≡ 1 → slots s ≡ 1 → length s ≡ 216
  pub largest_1 : (s : List ℕ) → fit s ≡ true → edition_byte s ≡ 1 → slots s ≡ 256 → length s ≡ 53256
  pub smallest_2 : (s : List ℕ) → fit s ≡ true → (edition_byte s ≡ 2) ⊎ (edition_byte s ≡ 3) → slots s ≡ 1 → length s ≡ 224
  pub largest_2 : (s : List ℕ) → fit s ≡ true → (edition_byte s ≡ 2) ⊎ (edition_byte s ≡ 3) → slots s ≡ 256 → length s ≡ 53264
  -- one byte more prints "unfit"
  pub above : (s : List ℕ) → 53264 < length s → listing s ≡ ascii "unfit\n"
