-- Cases A to M of document 01 as one table, of the definitions themselves.
use Rattle.std.specs.Prelude.{ℕ, ◌≡◌, List, [], ◌∷◌, replicate}
use Rattle.rounds.specs.Array.{sbox, π, φ, nibble_round, word_round}
use Rattle.rounds.specs.declared.Direction.TheVariants.{Encrypt}
use Rattle.schedule.specs.Schedule.{Count, sub_word, register, back_register, encryption_key, decryption_key}

abbrev zero_words : ℕ → List ℕ
zero_words t = replicate t 0

pub record Cases : Type 0 where
  pub a : sbox 0 7 ≡ 0
  pub b : sbox 2 0 ≡ 7
  pub c : sub_word 0x1234 ≡ 0xf38d
  -- column 0 of the array, with zeros in the other columns
  pub d : π (0x1000 ∷ 0x0000 ∷ 0x0000 ∷ 0x0000 ∷ []) ≡ 0x0000 ∷ 0x1000 ∷ 0x1000 ∷ 0x1000 ∷ []
  pub e : π (0x0000 ∷ 0x1000 ∷ 0x1000 ∷ 0x1000 ∷ []) ≡ 0x1000 ∷ 0x0000 ∷ 0x0000 ∷ 0x0000 ∷ []
  -- the all-zero key, t = 4, 6 and 8
  pub f : {t : ℕ} → Count t → encryption_key (zero_words t) 0 ≡ 0x5000 ∷ 0x0500 ∷ 0x0050 ∷ 0x0005 ∷ []
  pub g : {t : ℕ} → Count t → encryption_key (zero_words t) 12 ≡ 0xb000 ∷ 0x0b00 ∷ 0x00b0 ∷ 0x000b ∷ []
  pub h : {t : ℕ} → Count t → decryption_key (zero_words t) 0 ≡ 0xa9b3 ∷ 0xb3a9 ∷ 0xa9b3 ∷ 0xb3a9 ∷ []
  -- one round of the zero block with the zero round key, by both meanings of a round, and followed by φ
  pub i : nibble_round Encrypt (zero_words 4) (zero_words 4) ≡ 0x58ea ∷ 0x58ea ∷ 0x58ea ∷ 0x58ea ∷ []
  pub i' : word_round Encrypt (zero_words 4) (zero_words 4) ≡ 0x58ea ∷ 0x58ea ∷ 0x58ea ∷ 0x58ea ∷ []
  pub j : φ (nibble_round Encrypt (zero_words 4) (zero_words 4)) ≡ 0x417b ∷ 0x17b4 ∷ 0x7b41 ∷ 0xb417 ∷ []
  pub j' : φ (word_round Encrypt (zero_words 4) (zero_words 4)) ≡ 0x417b ∷ 0x17b4 ∷ 0x7b41 ∷ 0xb417 ∷ []
  -- one forward step, and the backward start; words past the count are 0
  pub k : (register (1 ∷ 2 ∷ 3 ∷ 4 ∷ []) 1).words ≡ 0x0002 ∷ 0x0003 ∷ 0x0004 ∷ 0x0008 ∷ 0 ∷ 0 ∷ 0 ∷ 0 ∷ []
  pub k' : (back_register (1 ∷ 2 ∷ 3 ∷ 4 ∷ []) 0).words ≡ 0x0200 ∷ 0x0400 ∷ 0x0600 ∷ 0x0800 ∷ 0 ∷ 0 ∷ 0 ∷ 0 ∷ []
  pub l : (register (1 ∷ 2 ∷ 3 ∷ 4 ∷ 5 ∷ 6 ∷ []) 1).words ≡ 0x0006 ∷ 0x0008 ∷ 0x0002 ∷ 0x0003 ∷ 0x0400 ∷ 0x0005 ∷ 0 ∷ 0 ∷ []
  pub l' : (back_register (1 ∷ 2 ∷ 3 ∷ 4 ∷ 5 ∷ 6 ∷ []) 0).words ≡ 0x0040 ∷ 0x0080 ∷ 0x00c0 ∷ 0x0100 ∷ 0x0140 ∷ 0x0180 ∷ 0 ∷ 0 ∷ []
  pub m : (register (1 ∷ 2 ∷ 3 ∷ 4 ∷ 5 ∷ 6 ∷ 7 ∷ 8 ∷ []) 1).words ≡ 0x0006 ∷ 0x0007 ∷ 0x0008 ∷ 0x0008 ∷ 0x0002 ∷ 0x0003 ∷ 0x0004 ∷ 0x0500 ∷ []
  pub m' : (back_register (1 ∷ 2 ∷ 3 ∷ 4 ∷ 5 ∷ 6 ∷ 7 ∷ 8 ∷ []) 0).words ≡ 0x0028 ∷ 0x8001 ∷ 0x0038 ∷ 0x0002 ∷ 0x4000 ∷ 0x0010 ∷ 0xc000 ∷ 0x0020 ∷ []
