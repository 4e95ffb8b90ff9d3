-- The premises of demand 3 can be met, and ask for no more than they seem to: each is pinned both ways.
use Rattle.std.specs.Prelude.{ℕ, ◌*◌, ◌≤◌, ◌<◌, ◌≡◌, ◌≢◌, ◌↔◌, true, List, [], ◌∷◌, ◌++◌, length}
use Rattle.octets.specs.Bytes.{Bytes, be, zeros}
use Rattle.octets.specs.Clauses.{OneOf}
use Rattle.mcrypton.specs.Claims.{FirstAsks}
use Rattle.cipher.specs.Key.{mcrypton_class, class_known, key_bytes}
use Rattle.layout.specs.Layout.{Edition, edition1, edition2, edition3, edition_of, slots, key_class, serial, slot_count, stored_mark, fit, blank_slot, blank_sheet1, blank_sheet2, blank_sheet}
use Rattle.captions.specs.Captions.{Keys, mark_for}
use Rattle.captions.specs.Calls.{blanking}
use Rattle.captions.specs.Model.{Call, Page, blank, holds}
use Rattle.captions.specs.Turns.{Turn, own, stranger, EachStranger}
use Rattle.captions.specs.Claim.{AskedOfCalls}
use Rattle.demands.specs.Ciphers.{by_paths}
use Rattle.demands.specs.Steps.{Gives, key_refusal, Stranger, Serves, BlankSheet}

-- the blank sheets of each edition, with n slots and keys of class t, which is one of mCrypton's in editions 1 and 2; in editions 2 and 3 with a serial x, and in edition 3 with a key mark m of six bytes, too
pub data Blanked : Edition → ℕ → ℕ → List ℕ → Type 0 where
  one : (n t : ℕ) → slot_count n ≡ true → mcrypton_class t ≡ true → Blanked edition1 n t (blank_sheet1 n t)
  two : (n t x : ℕ) → slot_count n ≡ true → mcrypton_class t ≡ true → x < 65536 → Blanked edition2 n t (blank_sheet2 n t x)
  three : (n t x : ℕ) (m : List ℕ) → slot_count n ≡ true → class_known t ≡ true → x < 65536 → Bytes m → length m ≡ 6 → Blanked edition3 n t (blank_sheet n t x m)

-- unlike keys of class t: bytes, as many as the class has, and not equal
pub record UnlikeKeys (t : ℕ) (k : Keys) : Type 0 where
  pub sealing : Bytes k.sealing
  pub checking : Bytes k.checking
  pub sealing_size : length k.sealing ≡ key_bytes t
  pub checking_size : length k.checking ≡ key_bytes t
  pub unlike : k.sealing ≡ k.checking → ⊥

-- a blank sheet of edition 3 that the pair serves
pub record ByBlanking (k : Keys) (s : List ℕ) : Type 0 where
  pub blank : BlankSheet s
  pub edition : edition_of s ≡ edition3
  pub serves : Serves k s

pub record Premises : Type 0 where
  -- n from 1 to 256, and t = 4, 6 or 8 with keys of 8, 12 or 16 bytes, or 21 or 24 with keys of 10 or 16
  pub counts : (n : ℕ) → 1 ≤ n → n ≤ 256 → slot_count n ≡ true
  pub class_4 : (class_known 4 ≡ true) × (key_bytes 4 ≡ 8)
  pub class_6 : (class_known 6 ≡ true) × (key_bytes 6 ≡ 12)
  pub class_8 : (class_known 8 ≡ true) × (key_bytes 8 ≡ 16)
  pub class_21 : (class_known 21 ≡ true) × (key_bytes 21 ≡ 10)
  pub class_24 : (class_known 24 ≡ true) × (key_bytes 24 ≡ 16)
  -- mCrypton's, which editions 1 and 2 have, are the first three
  pub mcryptons : (t : ℕ) → (mcrypton_class t ≡ true) ↔ OneOf (4 ∷ 6 ∷ 8 ∷ []) t
  -- a blank sheet is exactly one of these, in each edition
  pub made : {e : Edition} {n t : ℕ} {s : List ℕ} → Blanked e n t s → BlankSheet s
  pub only : (s : List ℕ) → BlankSheet s → Blanked (edition_of s) (slots s) (key_class s) s
  -- it is a sheet of its edition, with n slots and keys of class t, and its slots are all blank
  pub of_edition : {e : Edition} {n t : ℕ} {s : List ℕ} → Blanked e n t s → edition_of s ≡ e
  pub count : {e : Edition} {n t : ℕ} {s : List ℕ} → Blanked e n t s → slots s ≡ n
  pub class : {e : Edition} {n t : ℕ} {s : List ℕ} → Blanked e n t s → key_class s ≡ t
  pub blanks : (s : List ℕ) → BlankSheet s → (i : ℕ) → i < slots s → blank_slot (edition_of s) s i ≡ true
  -- the pairs that serve a sheet that meets the layout, blank or not, are unlike keys of its class: in editions 1 and 2 exactly those, in edition 3 those with its key mark
  pub unlike_serves : (k : Keys) (s : List ℕ) → fit s ≡ true → (edition_of s ≡ edition3 → ⊥) → UnlikeKeys (key_class s) k → Serves k s
  pub marked_serves : (k : Keys) (s : List ℕ) → fit s ≡ true → UnlikeKeys (key_class s) k → mark_for (by_paths (key_class s) 0 0 k) s ≡ stored_mark s → Serves k s
  pub serves_unlike : (k : Keys) (s : List ℕ) → fit s ≡ true → Serves k s → UnlikeKeys (key_class s) k
  -- every blank sheet of editions 1 and 2, byte by byte
  pub ask_1 : (n t : ℕ) → 1 ≤ n → n ≤ 256 → OneOf (4 ∷ 6 ∷ 8 ∷ []) t → BlankSheet ((be 2 n ++ (be 1 t ++ (be 1 1 ++ be 4 0))) ++ zeros (208 * n))
  pub ask_2 : (n t x : ℕ) → 1 ≤ n → n ≤ 256 → OneOf (4 ∷ 6 ∷ 8 ∷ []) t → x < 65536
      → BlankSheet (((be 2 n ++ (be 1 t ++ (be 1 2 ++ be 4 0))) ++ (be 2 x ++ zeros 6)) ++ zeros (208 * n))
  -- a page is blank or holds a caption
  pub page_is : (p : Page) → (p ≡ blank → ⊥) → ((c : List ℕ) → p ≡ holds c → ⊥) → ⊥
  -- in edition 3 the sheet and the pair are exactly those of a blanking: b is the buffer that it is given
  pub blanking_serves : (k : Keys) (b : List ℕ) (n t x : ℕ) → Bytes k.sealing → Bytes k.checking → x < 65536
      → (blanking k b n t x).number ≡ 0 → ByBlanking k (blanking k b n t x).bytes
  pub serves_blanking : (k : Keys) (b s : List ℕ) → ByBlanking k s → length b ≡ length s
      → Gives (blanking k b (slots s) (key_class s) (serial s)) 0 0 s
  -- unlike keys are asked for no more than that, and every class has some
  pub ask_keys : (t : ℕ) (k : Keys) → Bytes k.sealing → Bytes k.checking → length k.sealing ≡ key_bytes t → length k.checking ≡ key_bytes t → k.sealing ≢ k.checking
      → UnlikeKeys t k
  pub pair : (t : ℕ) → class_known t ≡ true → Keys
  pub unlike : (t : ℕ) (h : class_known t ≡ true) → UnlikeKeys t (pair t h)
  -- of the calls nothing is asked but that captions are bytes
  pub calls : AskedOfCalls
  -- and of strangers nothing but that their keys meet 1, 2, 5 or 14 with the sheet
  pub ask_none : (s : List ℕ) → EachStranger (Stranger s) []
  pub ask_own : (s : List ℕ) (c : Call) (turns : List Turn) → EachStranger (Stranger s) turns → EachStranger (Stranger s) (own c ∷ turns)
  pub ask_stranger : (s : List ℕ) (k : Keys) (i : ℕ) (c : List ℕ) (turns : List Turn) → key_refusal k s ≢ 0 → EachStranger (Stranger s) turns → EachStranger (Stranger s) (stranger k i c ∷ turns)
  -- of the first half: a key and a block are any words
  pub first : FirstAsks
