-- An accepted write or clear of any sheet: what the slot's bytes then are, and that every other byte is as it was.
use Prim.Native.Nat.{ℕ, ◌+◌, ◌^◌, ◌≤◌, ◌<◌}
use mathlib.Core.Path.{◌≡◌, refl, ◌∙◌}
use mathlib.Core.Logic.{◌≢◌, ◌⊎◌, inl, inr}
use mathlib.Core.Bool.{true, false}
use mathlib.Core.List.{List}
use native.Mathlib.Omega.{arith}
use lib.ListN.{length, get_or}
use borrow.Author.Tests.{eqb-false, leb-false, ltb-false, not-false}
use Rattle.octets.specs.Bytes.{Bytes, be, zeros, part, put}
use Rattle.octets.proofs.Numbers.{length_be, number_part_lt}
use Rattle.octets.proofs.Parts.{length_put, part_put, get_or_put_before, get_or_put_after}
use Rattle.octets.proofs.Zeros.{length_zeros}
use Rattle.modes.specs.Laws.{ByteBlocks}
use Rattle.layout.specs.Layout.{Edition, slots, last_write, mark_at, field_at, mark, field, fit_in, store_slot, store_last}
use Rattle.layout.proofs.Fits.{Rules, fit_rules, mark_end, field_end}
use Rattle.captions.specs.Captions.{Keys, Ciphers, sealed_field, slot_mark, stored_as, written, cleared}
use Rattle.captions.specs.Calls.{key_tests, other_class, class_tests, sheet_tests, caption_tests, write_tests, clear_tests, writing_with, clearing_with}
use Rattle.captions.specs.Claim.{SameHeader, Regular, Sound}
use Rattle.captions.proofs.Tables.{Unmet, end, next}
use Rattle.captions.proofs.Accepted.{accepted_unmet}
use Rattle.captions.proofs.Store.{Stored, store_slot_lem, store_last_lem}
use Rattle.captions.proofs.Slot.{sealed_blocks, slot_mark_block}

-- ---- a byte that is none of those stored

-- byte j is none of the n bytes from place a
abbrev pub Beside : ℕ → ℕ → ℕ → Type 0
Beside a n j = (j < a) ⊎ (a + n ≤ j)

put_beside : (s xs : List ℕ) (a n : ℕ) → length xs ≡ n → a + n ≤ length s → (j : ℕ) → Beside a n j → get_or (put s a xs) j 0 ≡ get_or s j 0
put_beside s xs a n l h j (inl p) = get_or_put_before s xs a (omega arith) j p
put_beside s xs a n l h j (inr p) = get_or_put_after s xs a (omega arith) j (omega arith)

module _ (e : Edition) (s : List ℕ) (r : Rules e s) (i : ℕ) (below : i < slots s) (m f : List ℕ) (lm : length m ≡ 16) (lf : length f ≡ 192) where
  field_put : length (put s (field_at e.header (slots s) i) f) ≡ length s
  field_put = length_put s f (field_at e.header (slots s) i) (omega (arith, lf, field_end e s r i below))

  mark_fits : mark_at e.header i + 16 ≤ length (put s (field_at e.header (slots s) i) f)
  unfolding field_at
  mark_fits = omega (arith, field_put, mark_end e s r i below, field_end e s r i below)

  slot_beside : (j : ℕ) → Beside (mark_at e.header i) 16 j → Beside (field_at e.header (slots s) i) 192 j → get_or (store_slot e s i m f) j 0 ≡ get_or s j 0
  unfolding store_slot
  slot_beside j off-mark off-field =
      put_beside (put s (field_at e.header (slots s) i) f) m (mark_at e.header i) 16 lm mark_fits j off-mark
      ∙ put_beside s f (field_at e.header (slots s) i) 192 lf (field_end e s r i below) j off-field

-- ---- a write

-- what an accepted write has found
pub record Wrote (e : Edition) (x : Ciphers) (k : Keys) (s : List ℕ) (i : ℕ) (c : List ℕ) : Type 0 where
  pub keys : Unmet (key_tests k)
  pub fits : fit_in e s ≡ true
  pub class : other_class k s ≡ false
  pub slot : i < slots s
  pub short : length c ≤ 192
  pub unworn : last_write s ≢ 4294967295

pub accepted_write : (e : Edition) (x : Ciphers) (k : Keys) (s : List ℕ) (i : ℕ) (c : List ℕ) → (writing_with e x k s i c).number ≡ 0 → Wrote e x k s i c
unfolding writing_with write_tests key_tests sheet_tests class_tests caption_tests
accepted_write e x k s i c h = go (accepted_unmet _ _ _ (write_tests e x k s i c) h)
  where
    go : Unmet (write_tests e x k s i c) → Wrote e x k s i c
    go (next t₁ (next t₂ (next t₄ (next t₅ (next t₁₄ (next t₆ (next t₇ (next t₁₅ (next t₈ end))))))))) =
        record {
          keys = next t₁ (next t₂ end);
          fits = not-false (fit_in e s) t₄;
          class = t₅;
          slot = leb-false (slots s) i t₆;
          short = ltb-false 192 (length c) t₇;
          unworn = eqb-false (last_write s) 4294967295 t₈;
        }

pub record WriteLeaves (e : Edition) (x : Ciphers) (s : List ℕ) (i : ℕ) (c s' : List ℕ) : Type 0 where
  pub header : SameHeader e.header s s'
  pub size : length s' ≡ length s
  pub last : part s' 4 4 ≡ be 4 (last_write s + 1)
  pub field_is : field e s' i ≡ sealed_field x (e.tail s') (last_write s + 1) i c
  pub mark_is : mark e s' i ≡ slot_mark x (last_write s + 1) i c (field e s' i)
  pub others : (j : ℕ) → Beside 4 4 j → Beside (mark_at e.header i) 16 j → Beside (field_at e.header (slots s) i) 192 j → get_or s' j 0 ≡ get_or s j 0

module _ (e : Edition) (x : Ciphers) (s : List ℕ) (i : ℕ) (c : List ℕ) where
  w : ℕ
  w = last_write s + 1

  f : List ℕ
  f = sealed_field x (e.tail s) w i c

  m : List ℕ
  m = slot_mark x w i c f

  written_is : written x e s i c ≡ store_last (store_slot e s i m f) w
  unfolding w f m written stored_as
  written_is = refl

  module _ (reg : Regular e) (ok : Sound x) (k : Keys) (b : Bytes s) (bc : Bytes c) (wrote : Wrote e x k s i c) where
    s' : List ℕ
    s' = written x e s i c

    rules : Rules e s
    rules = fit_rules e s wrote.fits

    small : w < 256 ^ 4
    unfolding w last_write
    small = let h : 4 + 4 ≤ length s = omega (arith, rules.long) in omega (arith, number_part_lt s 4 4 h b, wrote.unworn)

    field_blocks : ByteBlocks 24 f
    unfolding f
    field_blocks = sealed_blocks x ok (e.tail s) w i c wrote.short bc

    mark_blocks : ByteBlocks 2 m
    unfolding m
    mark_blocks = slot_mark_block x ok w i c f wrote.short field_blocks.bytes small

    slotted : Stored e i (last_write s) m f s (store_slot e s i m f)
    slotted = store_slot_lem e s reg.header_size rules.size i m f wrote.slot mark_blocks.size field_blocks.size

    stored : Stored e i w m f s s'
    unfolding s'
    stored =
        rw written_is
        (store_last_lem e s reg.header_size rules.size i (last_write s) w m f (store_slot e s i m f) slotted small)

    field_is : field e s' i ≡ sealed_field x (e.tail s') (last_write s + 1) i c
    unfolding w f
    field_is = stored.field_at_lem ∙ rw (reg.tail_kept s s' stored.header)

    mark_is : mark e s' i ≡ slot_mark x (last_write s + 1) i c (field e s' i)
    unfolding w m
    mark_is = stored.mark_at_lem ∙ rw stored.field_at_lem

    others : (j : ℕ) → Beside 4 4 j → Beside (mark_at e.header i) 16 j → Beside (field_at e.header (slots s) i) 192 j → get_or s' j 0 ≡ get_or s j 0
    unfolding s' store_last
    others j last off-mark off-field =
        rw written_is
        (put_beside (store_slot e s i m f) (be 4 w) 4 4 (length_be 4 w) (omega (arith, slotted.size, rules.long)) j last
        ∙ slot_beside e s rules i wrote.slot m f mark_blocks.size field_blocks.size j off-mark off-field)

    last : part s' 4 4 ≡ be 4 w
    unfolding s' store_last
    last = rw written_is (part_put (store_slot e s i m f) (be 4 w) 4 4 (length_be 4 w) (omega (arith, slotted.size, rules.long)))

    pub write_back : WriteLeaves e x s i c (written x e s i c)
    unfolding w s'
    write_back = record { header = stored.header; size = stored.size; last = last; field_is = field_is; mark_is = mark_is; others = others }

-- ---- a clear

-- what an accepted clear has found
pub record Emptied (e : Edition) (s : List ℕ) (i : ℕ) : Type 0 where
  pub fits : fit_in e s ≡ true
  pub slot : i < slots s

pub accepted_clear : (e : Edition) (s : List ℕ) (i : ℕ) → (clearing_with e s i).number ≡ 0 → Emptied e s i
unfolding clearing_with clear_tests
accepted_clear e s i h = go (accepted_unmet _ _ _ (clear_tests e s i) h)
  where
    go : Unmet (clear_tests e s i) → Emptied e s i
    go (next t₄ (next t₆ end)) = record { fits = not-false (fit_in e s) t₄; slot = leb-false (slots s) i t₆ }

pub record ClearLeaves (e : Edition) (s : List ℕ) (i : ℕ) (s' : List ℕ) : Type 0 where
  pub header : SameHeader e.header s s'
  pub size : length s' ≡ length s
  pub mark_is : mark e s' i ≡ zeros 16
  pub field_is : field e s' i ≡ zeros 192
  pub others : (j : ℕ) → Beside (mark_at e.header i) 16 j → Beside (field_at e.header (slots s) i) 192 j → get_or s' j 0 ≡ get_or s j 0

pub clear_back : (e : Edition) → Regular e → (s : List ℕ) (i : ℕ) → Emptied e s i → ClearLeaves e s i (cleared e s i)
unfolding cleared
clear_back e reg s i emptied =
    record {
      header = stored.header;
      size = stored.size;
      mark_is = stored.mark_at_lem;
      field_is = stored.field_at_lem;
      others = slot_beside e s rules i emptied.slot (zeros 16) (zeros 192) (length_zeros 16) (length_zeros 192);
    }
  where
    rules : Rules e s
    rules = fit_rules e s emptied.fits

    stored : Stored e i (last_write s) (zeros 16) (zeros 192) s (store_slot e s i (zeros 16) (zeros 192))
    stored = store_slot_lem e s reg.header_size rules.size i (zeros 16) (zeros 192) emptied.slot (length_zeros 16) (length_zeros 192)
