-- A slot and a last write number stored in a sheet: that slot's mark and field are new, all else is as it was.
use Prim.Native.Nat.{ℕ, ◌+◌, ◌^◌, ◌≤◌, ◌<◌}
use mathlib.Core.Path.{◌≡◌, refl, sym, ap, ◌∙◌}
use mathlib.Core.Logic.{◌≢◌}
use mathlib.Core.List.{List}
use native.Mathlib.Decide.{dec_lt}
use native.Mathlib.Omega.{arith}
use lib.ListN.{length}
use Rattle.octets.specs.Bytes.{Bytes, be, number, part, put}
use Rattle.octets.proofs.EveryByte.{put_bytes}
use Rattle.octets.proofs.Parts.{length_put, part_put, part_put_before, part_put_after}
use Rattle.octets.proofs.Numbers.{length_be, be_bytes, number_be}
use Rattle.layout.specs.Layout.{Edition, slots, key_class, last_write, sheet_size, mark_at, field_at, mark, field, store_slot, store_last}
use Rattle.captions.specs.Claim.{SameHeader}

-- ---- the same header

pub header_refl : (h : ℕ) (s : List ℕ) → SameHeader h s s
header_refl h s = record { low = λ a n l. refl; high = λ a n g l. refl }

pub header_trans : {h : ℕ} {s s' s'' : List ℕ} → SameHeader h s s' → SameHeader h s' s'' → SameHeader h s s''
header_trans p q = record { low = λ a n l. p.low a n l ∙ q.low a n l; high = λ a n g l. p.high a n g l ∙ q.high a n g l }

pub slots_kept : {h : ℕ} {s s' : List ℕ} → SameHeader h s s' → slots s ≡ slots s'
unfolding slots
slots_kept k = ap number (k.low 0 2 (omega arith))

pub key_class_kept : {h : ℕ} {s s' : List ℕ} → SameHeader h s s' → key_class s ≡ key_class s'
unfolding key_class
key_class_kept k = ap number (k.low 2 1 (omega arith))

-- ---- what is stored

-- s' is s with m and f at slot j, and with last write number w
pub record Stored (e : Edition) (j w : ℕ) (m f s s' : List ℕ) : Type 0 where
  pub size : length s' ≡ length s
  pub header : SameHeader e.header s s'
  pub last : last_write s' ≡ w
  pub mark_at_lem : mark e s' j ≡ m
  pub field_at_lem : field e s' j ≡ f
  pub mark_other : (i : ℕ) → i < slots s → i ≢ j → mark e s' i ≡ mark e s i
  pub field_other : (i : ℕ) → i < slots s → i ≢ j → field e s' i ≡ field e s i

-- a part that ends before the new one, or else starts behind it
part_put_beside : (s xs : List ℕ) (a k : ℕ) → length xs ≡ k → a + k ≤ length s → (b n : ℕ) → (a < b + n → a + k ≤ b) → part (put s a xs) b n ≡ part s b n
part_put_beside s xs a k l h b n g =
    elim (dec_lt a (b + n)) [
      | yes p ↦ part_put_after s xs a (omega arith) b n (omega (arith, g p))
      | no p ↦ part_put_before s xs a (omega arith) b n (omega arith)
    ]

pub store_slot_bytes : (e : Edition) (i : ℕ) {s m f : List ℕ} → Bytes s → Bytes m → Bytes f → Bytes (store_slot e s i m f)
unfolding store_slot
store_slot_bytes e i {s} b c d = put_bytes (mark_at e.header i) (put_bytes (field_at e.header (slots s) i) b d) c

pub store_last_bytes : (w : ℕ) {s : List ℕ} → Bytes s → Bytes (store_last s w)
unfolding store_last
store_last_bytes w b = put_bytes 4 b (be_bytes 4 w)

module _ (e : Edition) (s : List ℕ) (low : 8 ≤ e.header) (size : length s ≡ sheet_size e.header (slots s)) where
  module _ (j : ℕ) (m f : List ℕ) (in_range : j < slots s) (lm : length m ≡ 16) (lf : length f ≡ 192) where
    field_fits : field_at e.header (slots s) j + 192 ≤ length s
    unfolding sheet_size field_at
    field_fits = omega arith

    field_put : length (put s (field_at e.header (slots s) j) f) ≡ length s
    field_put = length_put s f (field_at e.header (slots s) j) (omega (arith, field_fits))

    mark_fits : mark_at e.header j + 16 ≤ length (put s (field_at e.header (slots s) j) f)
    unfolding sheet_size mark_at
    mark_fits = omega (arith, field_put)

    stored_length : length (store_slot e s j m f) ≡ length s
    unfolding store_slot
    stored_length = length_put (put s (field_at e.header (slots s) j) f) m (mark_at e.header j) (omega (arith, mark_fits)) ∙ field_put

    -- a part that meets neither the mark nor the field of slot j
    stored_part : (a n : ℕ) → (mark_at e.header j < a + n → mark_at e.header j + 16 ≤ a)
        → (field_at e.header (slots s) j < a + n → field_at e.header (slots s) j + 192 ≤ a)
        → part (store_slot e s j m f) a n ≡ part s a n
    unfolding store_slot
    stored_part a n p q =
        part_put_beside (put s (field_at e.header (slots s) j) f) m (mark_at e.header j) 16 lm mark_fits a n p
        ∙ part_put_beside s f (field_at e.header (slots s) j) 192 lf field_fits a n q

    stored_header : (a n : ℕ) → a + n ≤ e.header → part (store_slot e s j m f) a n ≡ part s a n
    unfolding mark_at field_at
    stored_header a n h = stored_part a n (λ l. omega arith) (λ l. omega arith)

    stored_slots : slots (store_slot e s j m f) ≡ slots s
    unfolding slots
    stored_slots = ap number (stored_header 0 2 (omega arith))

    stored_mark_lem : mark e (store_slot e s j m f) j ≡ m
    unfolding mark store_slot
    stored_mark_lem = part_put (put s (field_at e.header (slots s) j) f) m (mark_at e.header j) 16 lm mark_fits

    stored_mark_other : (i : ℕ) → i < slots s → i ≢ j → mark e (store_slot e s j m f) i ≡ mark e s i
    unfolding mark mark_at field_at
    stored_mark_other i h d = stored_part (mark_at e.header i) 16 (λ l. omega arith) (λ l. omega arith)

    -- a field of the new sheet lies where it lay
    stored_fields : (i : ℕ) → field e (store_slot e s j m f) i ≡ part (store_slot e s j m f) (field_at e.header (slots s) i) 192
    unfolding field
    stored_fields i = rw stored_slots

    stored_field : field e (store_slot e s j m f) j ≡ f
    unfolding store_slot mark_at field_at
    stored_field =
        stored_fields j
        ∙ part_put_beside (put s (field_at e.header (slots s) j) f) m (mark_at e.header j) 16 lm mark_fits (field_at e.header (slots s) j) 192 (λ l. omega arith)
        ∙ part_put s f (field_at e.header (slots s) j) 192 lf field_fits

    stored_field_other : (i : ℕ) → i < slots s → i ≢ j → field e (store_slot e s j m f) i ≡ field e s i
    unfolding field mark_at field_at
    stored_field_other i h d = stored_fields i ∙ stored_part (field_at e.header (slots s) i) 192 (λ l. omega arith) (λ l. omega arith)

    pub store_slot_lem : Stored e j (last_write s) m f s (store_slot e s j m f)
    unfolding last_write
    store_slot_lem =
        record {
          size = stored_length;
          header = record { low = λ a n h. sym (stored_header a n (omega arith)); high = λ a n g h. sym (stored_header a n h) };
          last = ap number (stored_header 4 4 (omega arith));
          mark_at_lem = stored_mark_lem;
          field_at_lem = stored_field;
          mark_other = stored_mark_other;
          field_other = stored_field_other;
        }

  -- a last write number stored after that
  module _ (j w v : ℕ) (m f s' : List ℕ) (st : Stored e j w m f s s') (small : v < 256 ^ 4) where
    last_fits : 4 + 4 ≤ length s'
    unfolding sheet_size
    last_fits = omega (arith, st.size)

    kept : (a n : ℕ) → (4 < a + n → 8 ≤ a) → part (store_last s' v) a n ≡ part s' a n
    unfolding store_last
    kept a n h = part_put_beside s' (be 4 v) 4 4 (length_be 4 v) last_fits a n h

    kept_mark : (i : ℕ) → mark e (store_last s' v) i ≡ mark e s' i
    unfolding mark mark_at
    kept_mark i = kept (mark_at e.header i) 16 (λ l. omega arith)

    kept_field : (i : ℕ) → field e (store_last s' v) i ≡ field e s' i
    unfolding field slots field_at
    kept_field i = rw (kept 0 2 (λ l. omega arith)) (kept (field_at e.header (number (part s' 0 2)) i) 192 (λ l. omega arith))

    pub store_last_lem : Stored e j v m f s (store_last s' v)
    unfolding last_write store_last
    store_last_lem =
        record {
          size = length_put s' (be 4 v) 4 (omega (arith, last_fits, length_be 4 v)) ∙ st.size;
          header = record {
            low = λ a n h. st.header.low a n h ∙ sym (kept a n (λ l. omega arith));
            high = λ a n g h. st.header.high a n g h ∙ sym (kept a n (λ l. g));
          };
          last = ap number (part_put s' (be 4 v) 4 4 (length_be 4 v) last_fits) ∙ number_be 4 v small;
          mark_at_lem = kept_mark j ∙ st.mark_at_lem;
          field_at_lem = kept_field j ∙ st.field_at_lem;
          mark_other = λ i h d. kept_mark i ∙ st.mark_other i h d;
          field_other = λ i h d. kept_field i ∙ st.field_other i h d;
        }
