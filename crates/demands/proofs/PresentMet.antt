-- Sheets for PRESENT that blanking makes: their key marks by computing.
use Prim.Native.Nat.{ℕ}
use mathlib.Core.Path.{◌≡◌, refl, sym, ap, ◌∙◌}
use mathlib.Core.List.{List, [], ◌∷◌}
use lib.Dec.{lit<}
use Rattle.std.specs.Prelude.{Ok}
use Rattle.octets.specs.Bytes.{Bytes, none, more, be, number, zeros, same}
use Rattle.octets.specs.Outcome.{decided}
use Rattle.octets.proofs.EveryByte.{take_bytes}
use Rattle.present_rounds.specs.Digits.{sum}
use Rattle.present_rounds.specs.Layers.{boxes, sbox, s_box_layer, place, p_layer}
use Rattle.present.specs.Present.{round, after, encrypt}
use Rattle.present_schedule.specs.Schedule.{rotated, boxed, update80, update128, register, round_key80, round_key128}
use Rattle.present.specs.Bytes.{round_keys, encrypt_bytes}
use Rattle.modes.specs.Xor.{xor_bytes}
use Rattle.modes.specs.Cmac.{shift_left, double, block_count, last_block, message_block, chain, cmac}
use Rattle.cipher.specs.Key.{mcrypton_class, present_class, class_known, key_bytes, sheet_key_length, encrypt_by}
use Rattle.layout.specs.Layout.{slot_count, sheet_size, blank_sheet}
use Rattle.captions.specs.Answers.{answer_number, answer_length, outcome}
use Rattle.captions.specs.Captions.{mark_block, key_mark}
use Rattle.captions.specs.Calls.{wrong_keys, blank_tests, blanking_with}
use Rattle.demands.specs.Ciphers.{by_paths, blanking_by}
use Rattle.demands.specs.Witnesses.{rising_pair, PresentMet}
use Rattle.demands.proofs.Ciphers.{code_blanks}
use Rattle.demands.proofs.Gives.{gives}
use Rattle.demands.proofs.Premises.{by_blanking}

rising_bytes : (n : ℕ) → Bytes (rising_pair n).sealing × Bytes (rising_pair n).checking
rising_bytes n = (
  take_bytes n
      (more (lit< tt) (more (lit< tt) (more (lit< tt) (more (lit< tt) (more (lit< tt) (more (lit< tt) (more (lit< tt) (more (lit< tt)
      (more (lit< tt) (more (lit< tt) (more (lit< tt) (more (lit< tt) (more (lit< tt) (more (lit< tt) (more (lit< tt) (more (lit< tt) none)))))))))))))))),
  take_bytes n
      (more (lit< tt) (more (lit< tt) (more (lit< tt) (more (lit< tt) (more (lit< tt) (more (lit< tt) (more (lit< tt) (more (lit< tt)
      (more (lit< tt) (more (lit< tt) (more (lit< tt) (more (lit< tt) (more (lit< tt) (more (lit< tt) (more (lit< tt) (more (lit< tt) none)))))))))))))))),
)

mark_80 : key_mark (by_paths 21 0 0 (rising_pair 10)) 2 21 0x5a04 ≡ 0x48 ∷ 0x66 ∷ 0x69 ∷ 0x8a ∷ 0x92 ∷ 0xf4 ∷ []
unfolding be number zeros sum boxes sbox s_box_layer place p_layer round after encrypt rotated boxed update80 register round_key80 round_keys encrypt_bytes present_class encrypt_by by_paths xor_bytes shift_left double block_count last_block message_block chain cmac mark_block key_mark
mark_80 = refl

mark_128 : key_mark (by_paths 24 0 0 (rising_pair 16)) 2 24 0x5a04 ≡ 0xe1 ∷ 0xc0 ∷ 0x00 ∷ 0x76 ∷ 0x23 ∷ 0x38 ∷ []
unfolding be number zeros sum boxes sbox s_box_layer place p_layer round after encrypt rotated boxed update128 register round_key128 round_keys encrypt_bytes present_class encrypt_by by_paths xor_bytes shift_left double block_count last_block message_block chain cmac mark_block key_mark
mark_128 = refl

-- blanking accepts the pair for t
Accepts : ℕ → ℕ → Type 0
Accepts t n = blanking_by 0 (rising_pair n) (zeros 432) 2 t 0x5a04 ≡ outcome (Ok 0) (blank_sheet 2 t 0x5a04 (key_mark (by_paths t 0 0 (rising_pair n)) 2 t 0x5a04))

accepts_80 : Accepts 21 10
unfolding Accepts blanking_by blanking_with blank_tests decided wrong_keys sheet_key_length key_bytes same class_known mcrypton_class present_class slot_count sheet_size zeros
accepts_80 = refl

accepts_128 : Accepts 24 16
unfolding Accepts blanking_by blanking_with blank_tests decided wrong_keys sheet_key_length key_bytes same class_known mcrypton_class present_class slot_count sheet_size zeros
accepts_128 = refl

met : (t n : ℕ) (m : List ℕ) → key_mark (by_paths t 0 0 (rising_pair n)) 2 t 0x5a04 ≡ m → Accepts t n → PresentMet t n m
unfolding Accepts answer_number answer_length
met t n m mark a =
    let b = sym (code_blanks 0 (rising_pair n) (zeros 432) 2 t 0x5a04) ∙ a ∙ ap (λ (m : List ℕ). outcome (Ok 0) (blank_sheet 2 t 0x5a04 m)) mark in
    record { blanked = gives (Ok 0) _ b; sheet = by_blanking (rising_pair n) t _ b (rising_bytes n).0 (rising_bytes n).1 }

pub present_met_80 : PresentMet 21 10 (0x48 ∷ 0x66 ∷ 0x69 ∷ 0x8a ∷ 0x92 ∷ 0xf4 ∷ [])
present_met_80 = met 21 10 _ mark_80 accepts_80

pub present_met_128 : PresentMet 24 16 (0xe1 ∷ 0xc0 ∷ 0x00 ∷ 0x76 ∷ 0x23 ∷ 0x38 ∷ [])
present_met_128 = met 24 16 _ mark_128 accepts_128
