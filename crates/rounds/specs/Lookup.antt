-- What the lookup of the word path gives, in both directions.
use Rattle.std.specs.Prelude.{ℕ, ◌+◌, ◌<◌, ◌≡◌}
use Rattle.std.specs.Int.Bits.{bit_and}
use Rattle.rounds.specs.Word.{rotate, row}
use Rattle.rounds.specs.Array.{sbox, mask, entry}
use Rattle.rounds.specs.declared.Direction.{Direction}
use Rattle.rounds.specs.declared.Direction.TheVariants.{Encrypt, Decrypt}

-- the rule of the tables (document 000, 4.1, whose index j is x here and ends at 15): S_s(x) masked by m_s, m_(s+1), m_(s+2) and m_(s+3);
-- turned by 8 bits, as decryption takes it, it is masked from m_(s+2) on
abbrev pub first_mask : Direction → ℕ
first_mask Encrypt = 0
first_mask Decrypt = 2

abbrev pub rule_entry : Direction → ℕ → ℕ → ℕ
rule_entry d s x = row (λ j. bit_and (sbox s x) (mask (s + j + first_mask d)))

pub record Lookup : Type 0 where
  -- every entry, in both directions
  pub rule : (d : Direction) (s x : ℕ) → x < 16 → entry d s x ≡ rule_entry d s x
  -- the one set serves decryption: it takes the entry turned by 8 bits
  pub turn : (s x : ℕ) → entry Decrypt s x ≡ rotate 8 (entry Encrypt s x)
