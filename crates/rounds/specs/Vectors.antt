-- Twelve rounds in a row, as the second program prints them: `reference rounds 54718eabc8e5021f 6398cd02376ca1d6`, with the round keys that
-- `reference vectors keys` prints. Every entry of every S-box is looked up on the way.
use Rattle.std.specs.Prelude.{ℕ, ◌≡◌, List, [], ◌∷◌}
use Rattle.rounds.specs.Array.{nibble_round}
use Rattle.rounds.specs.declared.Direction.TheVariants.{Encrypt}

-- rounds with these keys, one after the other, from the array a
unfoldable pub rounds_with : List (List ℕ) → List ℕ → List ℕ
rounds_with [] a = a
rounds_with (k ∷ keys) a = rounds_with keys (nibble_round Encrypt k a)

pub record RoundVectors : Type 0 where
  -- from the array after the first key addition to that after round 12
  pub twelve :
      rounds_with
      ((0x58e5 ∷ 0x011f ∷ 0xa3da ∷ 0x8ea7 ∷ [])
      ∷ (0x621f ∷ 0xac8a ∷ 0x750c ∷ 0xc8eb ∷ [])
      ∷ (0x638a ∷ 0x7e5c ∷ 0x475e ∷ 0x021e ∷ [])
      ∷ (0x355c ∷ 0x4c2e ∷ 0x1078 ∷ 0xa38e ∷ [])
      ∷ (0x272e ∷ 0x1cf8 ∷ 0x1c95 ∷ 0x7558 ∷ [])
      ∷ (0x00f8 ∷ 0x1055 ∷ 0xaa13 ∷ 0x4723 ∷ [])
      ∷ (0x5c55 ∷ 0xa5e3 ∷ 0x3952 ∷ 0x10f8 ∷ [])
      ∷ (0x0ae3 ∷ 0x3e72 ∷ 0x8730 ∷ 0x1c5a ∷ [])
      ∷ (0xe972 ∷ 0x8ac0 ∷ 0xe218 ∷ 0xaae1 ∷ [])
      ∷ (0x77c0 ∷ 0xe0a8 ∷ 0x576d ∷ 0x3976 ∷ [])
      ∷ (0xb2a8 ∷ 0x591d ∷ 0xcb51 ∷ 0x87ca ∷ [])
      ∷ (0xb71d ∷ 0xc791 ∷ 0x3e84 ∷ 0xe2ac ∷ [])
      ∷ [])
      (0x5d33 ∷ 0x09e7 ∷ 0x3563 ∷ 0xf5a9 ∷ [])
      ≡ 0xd4cd ∷ 0xfc8b ∷ 0xfe44 ∷ 0xbdd3 ∷ []
