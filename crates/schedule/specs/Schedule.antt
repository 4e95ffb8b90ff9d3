-- The key schedule of mCrypton (document 000, 2.3). A key is a list of 4, 6 or 8 words.
use Rattle.std.specs.Prelude.{ℕ, zero, suc, ◌+◌, ◌*◌, ◌-◌, ◌^◌, ◌<◌, List, [], ◌∷◌, eqb, get_or, length}
use Rattle.std.specs.Int.Bits.{bit_xor}
use Rattle.octets.specs.Bytes.{if◌then◌otherwise◌}
use Rattle.rounds.specs.Word.{rotate, row, nibble}
use Rattle.rounds.specs.Array.{sbox, φ}
use Rattle.schedule.specs.declared.Register.{Register}

-- the word counts of a key
pub data Count : ℕ → Type 0 where
  four : Count 4
  six : Count 6
  eight : Count 8

-- every entry is a word of 16 bits
pub record Words (u : List ℕ) : Type 0 where
  pub at : (j : ℕ) → get_or u j 0 < 65536

-- a key: 4, 6 or 8 words
pub record Key (k : List ℕ) : Type 0 where
  pub count : Count (length k)
  pub words : Words k

-- a is for 4 words, b for 6, c for 8 (and for any other count, which no key has)
unfoldable pub by_count {ℓ} : {A : Type ℓ} → ℕ → A → A → A → A
by_count t a b c = if eqb t 4 then a otherwise if eqb t 6 then b otherwise c

-- ---- the forward register

-- one step, on the words ("U0 by 3" of document 01 is a rotation by 3 bits)
unfoldable pub forward4 : List ℕ → List ℕ
forward4 u =
    get_or u 1 0 ∷ get_or u 2 0 ∷ get_or u 3 0 ∷ rotate 3 (get_or u 0 0) ∷ 0 ∷ 0 ∷ 0 ∷ 0 ∷ []

unfoldable pub forward6 : List ℕ → List ℕ
forward6 u =
    get_or u 5 0 ∷ rotate 3 (get_or u 0 0) ∷ get_or u 1 0 ∷ get_or u 2 0 ∷ rotate 8 (get_or u 3 0) ∷ get_or u 4 0 ∷ 0 ∷ 0 ∷ []

unfoldable pub forward8 : List ℕ → List ℕ
forward8 u =
    get_or u 5 0 ∷ get_or u 6 0 ∷ get_or u 7 0 ∷ rotate 3 (get_or u 0 0) ∷ get_or u 1 0 ∷ get_or u 2 0 ∷ get_or u 3 0 ∷ rotate 8 (get_or u 4 0) ∷ []

unfoldable pub forward_words : ℕ → List ℕ → List ℕ
forward_words t u = by_count t (forward4 u) (forward6 u) (forward8 u)

unfoldable pub forward : Register → Register
forward r =
    record {
      words = forward_words r.count r.words;
      count = r.count;
      round = r.round + 1;
    }

-- ---- the backward register

-- one step back, on the words
unfoldable pub backward4 : List ℕ → List ℕ
backward4 u =
    rotate 13 (get_or u 3 0) ∷ get_or u 0 0 ∷ get_or u 1 0 ∷ get_or u 2 0 ∷ 0 ∷ 0 ∷ 0 ∷ 0 ∷ []

unfoldable pub backward6 : List ℕ → List ℕ
backward6 u =
    rotate 13 (get_or u 1 0) ∷ get_or u 2 0 ∷ get_or u 3 0 ∷ rotate 8 (get_or u 4 0) ∷ get_or u 5 0 ∷ get_or u 0 0 ∷ 0 ∷ 0 ∷ []

unfoldable pub backward8 : List ℕ → List ℕ
backward8 u =
    rotate 13 (get_or u 3 0) ∷ get_or u 4 0 ∷ get_or u 5 0 ∷ get_or u 6 0 ∷ rotate 8 (get_or u 7 0) ∷ get_or u 0 0 ∷ get_or u 1 0 ∷ get_or u 2 0 ∷ []

unfoldable pub backward_words : ℕ → List ℕ → List ℕ
backward_words t u = by_count t (backward4 u) (backward6 u) (backward8 u)

unfoldable pub backward : Register → Register
backward r =
    record {
      words = backward_words r.count r.words;
      count = r.count;
      round = r.round - 1;
    }

-- the words of k, and zeros up to eight
unfoldable pub eight_words : List ℕ → List ℕ
eight_words k =
    get_or k 0 0 ∷ get_or k 1 0 ∷ get_or k 2 0 ∷ get_or k 3 0 ∷ get_or k 4 0 ∷ get_or k 5 0 ∷ get_or k 6 0 ∷ get_or k 7 0 ∷ []

-- the forward register of round 0
unfoldable pub start : List ℕ → Register
start k = record { words = eight_words k; count = length k; round = 0 }

-- the words from which the backward register starts, from those of the forward one at round 0
unfoldable pub start4 : List ℕ → List ℕ
start4 k =
    rotate 9 (get_or k 0 0) ∷ rotate 9 (get_or k 1 0) ∷ rotate 9 (get_or k 2 0) ∷ rotate 9 (get_or k 3 0) ∷ 0 ∷ 0 ∷ 0 ∷ 0 ∷ []

unfoldable pub start6 : List ℕ → List ℕ
start6 k =
    rotate 6 (get_or k 0 0) ∷ rotate 6 (get_or k 1 0) ∷ rotate 6 (get_or k 2 0)
    ∷ rotate 6 (get_or k 3 0) ∷ rotate 6 (get_or k 4 0) ∷ rotate 6 (get_or k 5 0) ∷ 0 ∷ 0 ∷ []

unfoldable pub start8 : List ℕ → List ℕ
start8 k =
    rotate 3 (get_or k 4 0) ∷ rotate 14 (get_or k 5 0) ∷ rotate 3 (get_or k 6 0) ∷ rotate 14 (get_or k 7 0)
    ∷ rotate 14 (get_or k 0 0) ∷ rotate 3 (get_or k 1 0) ∷ rotate 14 (get_or k 2 0) ∷ rotate 3 (get_or k 3 0) ∷ []

unfoldable pub start_words : ℕ → List ℕ → List ℕ
start_words t k = by_count t (start4 k) (start6 k) (start8 k)

unfoldable pub back_start : Register → Register
back_start r = record { words = start_words r.count r.words; count = r.count; round = 12 }

-- n steps
unfoldable pub times {ℓ} : {A : Type ℓ} → ℕ → (A → A) → A → A
times zero f a = a
times (suc n) f a = f (times n f a)

-- the register at round r, and the backward register after r steps back
unfoldable pub register : List ℕ → ℕ → Register
register k r = times r forward (start k)

unfoldable pub back_register : List ℕ → ℕ → Register
back_register k r = times r backward (back_start (start k))

-- c_0 to c_12
unfoldable pub constants : List ℕ
constants = 1 ∷ 2 ∷ 4 ∷ 8 ∷ 3 ∷ 6 ∷ 12 ∷ 11 ∷ 5 ∷ 10 ∷ 7 ∷ 14 ∷ 15 ∷ []

-- S0 on each nibble of a word
abbrev pub sub_word : ℕ → ℕ
sub_word w = row (λ i. sbox 0 (nibble w i))

-- T of a register: S0 on each nibble of word 0, exclusive or with the round's constant written four times
unfoldable pub register_t : Register → ℕ
register_t r = bit_xor (sub_word (get_or r.words 0 0)) (get_or constants r.round 0 * 0x1111)

-- T_i: nibble i of a word alone, at its place
abbrev pub kept : ℕ → ℕ → ℕ
kept w i = nibble w i * 2 ^ (12 - 4 * i)

-- the word that the last round key word is made from
unfoldable pub last_word : Register → ℕ
last_word r = get_or r.words (if eqb r.count 4 then 0 otherwise 4) 0

-- the round key of a register
unfoldable pub round_key : Register → List ℕ
round_key r =
    bit_xor (get_or r.words 1 0) (kept (register_t r) 0)
    ∷ bit_xor (get_or r.words 2 0) (kept (register_t r) 1)
    ∷ bit_xor (get_or r.words 3 0) (kept (register_t r) 2)
    ∷ bit_xor (last_word r) (kept (register_t r) 3)
    ∷ []

-- the round keys of round r (document 01: sealing key r and opening key r; document 000: K_e^r and K_d^r)
unfoldable pub encryption_key : List ℕ → ℕ → List ℕ
encryption_key k r = round_key (register k r)

unfoldable pub decryption_key : List ℕ → ℕ → List ℕ
decryption_key k r = φ (round_key (back_register k r))
