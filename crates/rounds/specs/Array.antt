-- The 4 by 4 array of nibbles, held as its four row words, and one round of mCrypton (document 000, 2.1, 2.2 and 4.1).
use Rattle.std.specs.Prelude.{ℕ, ◌+◌, ◌%◌, ◌<◌, List, [], ◌∷◌, get_or}
use Rattle.std.specs.Int.Bits.{bit_and, bit_xor}
use Rattle.rounds.specs.Word.{rotate, row, nibble, xor4}
use Rattle.rounds.specs.declared.Direction.{Direction}
use Rattle.rounds.specs.declared.Direction.TheVariants.{Encrypt, Decrypt}

-- the array whose nibble in row j, column i is f j i
abbrev pub array : (ℕ → ℕ → ℕ) → List ℕ
array f = row (f 0) ∷ row (f 1) ∷ row (f 2) ∷ row (f 3) ∷ []

-- the nibble in row j, column i of the array a
abbrev pub cell : List ℕ → ℕ → ℕ → ℕ
cell a j i = nibble (get_or a j 0) i

-- four words of 16 bits: a block, an array or a round key
pub data Block : List ℕ → Type 0 where
  words : {a b c d : ℕ} → a < 65536 → b < 65536 → c < 65536 → d < 65536 → Block (a ∷ b ∷ c ∷ d ∷ [])

-- ---- document 000, 2.1

-- S-boxes S0 to S3 (document 000, table 1)
unfoldable pub sboxes : List (List ℕ)
sboxes =
    (4 ∷ 15 ∷ 3 ∷ 8 ∷ 13 ∷ 10 ∷ 12 ∷ 0 ∷ 11 ∷ 5 ∷ 7 ∷ 14 ∷ 2 ∷ 6 ∷ 1 ∷ 9 ∷ [])
    ∷ (1 ∷ 12 ∷ 7 ∷ 10 ∷ 6 ∷ 13 ∷ 5 ∷ 3 ∷ 15 ∷ 11 ∷ 2 ∷ 0 ∷ 8 ∷ 4 ∷ 9 ∷ 14 ∷ [])
    ∷ (7 ∷ 14 ∷ 12 ∷ 2 ∷ 0 ∷ 9 ∷ 13 ∷ 10 ∷ 3 ∷ 15 ∷ 5 ∷ 8 ∷ 6 ∷ 4 ∷ 11 ∷ 1 ∷ [])
    ∷ (11 ∷ 0 ∷ 10 ∷ 7 ∷ 13 ∷ 6 ∷ 4 ∷ 2 ∷ 12 ∷ 14 ∷ 3 ∷ 9 ∷ 1 ∷ 5 ∷ 15 ∷ 8 ∷ [])
    ∷ []

-- entry x of S-box s, s taken modulo 4
unfoldable pub sbox : ℕ → ℕ → ℕ
sbox s x = get_or (get_or sboxes (s % 4) []) x 0

-- what a direction adds to the index of an S-box: S2 inverts S0 and S3 inverts S1
abbrev pub offset : Direction → ℕ
offset Encrypt = 0
offset Decrypt = 2

abbrev pub opposite : Direction → Direction
opposite Encrypt = Decrypt
opposite Decrypt = Encrypt

-- γ, and for decryption its inverse: the nibble in row j, column i goes through the S-box with index i + j, or i + j + 2
unfoldable pub γ : Direction → List ℕ → List ℕ
γ d a = array (λ j i. sbox (i + j + offset d) (cell a j i))

-- mask s of m0 to m3, s taken modulo 4
abbrev pub mask : ℕ → ℕ
mask s = get_or (0xe ∷ 0xd ∷ 0xb ∷ 0x7 ∷ []) (s % 4) 0

-- π: in column i, new nibble j is the exclusive or over k of nibble k masked by m with index i + j + k
unfoldable pub π : List ℕ → List ℕ
π a = array (λ j i. xor4 (λ k. bit_and (cell a k i) (mask (i + j + k))))

-- τ exchanges rows and columns
unfoldable pub τ : List ℕ → List ℕ
τ a = array (λ j i. cell a i j)

-- σ adds round key word i to row i by exclusive or
abbrev pub σ : List ℕ → List ℕ → List ℕ
σ k a =
    bit_xor (get_or a 0 0) (get_or k 0 0) ∷ bit_xor (get_or a 1 0) (get_or k 1 0)
    ∷ bit_xor (get_or a 2 0) (get_or k 2 0) ∷ bit_xor (get_or a 3 0) (get_or k 3 0) ∷ []

-- ---- document 000, 2.2: a round is γ, π, τ, σ, and φ is τ, π, τ

-- one round by nibbles (document 000: ρ for encryption, ρ' for decryption)
abbrev pub nibble_round : Direction → List ℕ → List ℕ → List ℕ
nibble_round d k a = σ k (τ (π (γ d a)))

-- a round of a direction taken back: σ, τ, π, and γ of the other direction
abbrev pub inverse_round : Direction → List ℕ → List ℕ → List ℕ
inverse_round d k a = γ (opposite d) (π (τ (σ k a)))

abbrev pub φ : List ℕ → List ℕ
φ a = τ (π (τ a))

-- ---- document 000, 4.1

-- the word tables SS0 to SS3
unfoldable pub tables : List (List ℕ)
tables =
    (0x4404 ∷ 0xedb7 ∷ 0x2133 ∷ 0x8880 ∷ 0xcd95 ∷ 0xa8a2 ∷ 0xcc84 ∷ 0x0000
    ∷ 0xa9b3 ∷ 0x4515 ∷ 0x6537 ∷ 0xeca6 ∷ 0x2022 ∷ 0x6426 ∷ 0x0111 ∷ 0x8991 ∷ [])
    ∷ (0x1110 ∷ 0xc84c ∷ 0x5376 ∷ 0x8a2a ∷ 0x4266 ∷ 0xd95c ∷ 0x5154 ∷ 0x1332
    ∷ 0xdb7e ∷ 0x9b3a ∷ 0x0222 ∷ 0x0000 ∷ 0x8808 ∷ 0x4044 ∷ 0x9918 ∷ 0xca6e ∷ [])
    ∷ (0x3765 ∷ 0xa6ec ∷ 0x84cc ∷ 0x2220 ∷ 0x0000 ∷ 0x9189 ∷ 0x95cd ∷ 0xa2a8
    ∷ 0x3321 ∷ 0xb7ed ∷ 0x1545 ∷ 0x8088 ∷ 0x2664 ∷ 0x0444 ∷ 0xb3a9 ∷ 0x1101 ∷ [])
    ∷ (0x3a9b ∷ 0x0000 ∷ 0x2a8a ∷ 0x7653 ∷ 0x5cd9 ∷ 0x6642 ∷ 0x4440 ∷ 0x2202
    ∷ 0x4cc8 ∷ 0x6eca ∷ 0x3213 ∷ 0x1899 ∷ 0x1011 ∷ 0x5451 ∷ 0x7edb ∷ 0x0888 ∷ [])
    ∷ []

-- what a direction makes of an entry: for decryption it is turned by 8 bits
abbrev pub turned : Direction → ℕ → ℕ
turned Encrypt w = w
turned Decrypt w = rotate 8 w

-- the lookup: entry x of table s, s taken modulo 4, as the direction takes it
unfoldable pub entry : Direction → ℕ → ℕ → ℕ
entry d s x = turned d (get_or (get_or tables (s % 4) []) x 0)

-- one round by words: new row i is the exclusive or over k of an entry for the nibble in row k, column i, and of key word i
unfoldable pub word_row : Direction → List ℕ → ℕ → ℕ
word_row d a i = xor4 (λ k. entry d (i + k + offset d) (cell a k i))

abbrev pub word_round : Direction → List ℕ → List ℕ → List ℕ
word_round d k a = σ k (word_row d a 0 ∷ word_row d a 1 ∷ word_row d a 2 ∷ word_row d a 3 ∷ [])
