-- What is said of a panel holds.
use Rattle.std.specs.Prelude.{Ok}
use Rattle.std.proofs.Common.{◌≡◌, ℕ, zero, suc, ◌+◌, ◌-◌, ◌*◌, ◌/◌, ◌%◌, ◌^◌, ◌<◌, ◌≤◌, true, ◌≢◌, List, [], ◌∷◌, length, get_or, replicate, sym, refl, ap, ◌∙◌, mul-zero, mul-suc, div-one, arith}
use lib.Bits.{bit_xor}
use lib.ListN.{length-replicate}
use Rattle.octets.specs.Bytes.{Bytes, be, zeros}
use Rattle.octets.specs.Outcome.{Outcome, decided}
use Rattle.octets.specs.Clauses.{Exactly, OneOf}
use Rattle.octets.proofs.Numbers.{length_be, be_bytes, be_inj}
use Rattle.octets.proofs.Zeros.{length_zeros}
use Rattle.octets.proofs.Clauses.{reflects_yes, reflects_not, reflects_eqb, reflects_ltb, Means, decided_exactly, decided_refused}
use Rattle.rounds.specs.Word.{rotate1, rotate}
use Rattle.rounds.specs.Array.{sboxes, sbox, γ, π, τ}
use Rattle.rounds.specs.declared.Direction.TheVariants.{Encrypt}
use Rattle.schedule.specs.Schedule.{by_count, forward_words, forward4, forward6, forward8, forward, start, eight_words, times, register, constants, register_t, last_word, round_key, encryption_key}
use Rattle.mcrypton.specs.Cipher.{by_words, after_by, steps, encrypt_block}
use Rattle.mcrypton.specs.Bytes.{key_length, words_of, bytes_of, encrypt_bytes, decrypt_bytes}
use Rattle.octets.specs.BlockCalls.{Leaves}
use Rattle.mcrypton.specs.Vectors.{key4}
use Rattle.mcrypton.proofs.Paths.{same_steps}
use Rattle.mcrypton.proofs.ByteBlocks.{length_bytes, bytes_bytes, block_encrypted}
use Rattle.mcrypton.proofs.KeyLengths.{reflects_length}
use Rattle.octets.specs.Block.{ByteBlock}
use Rattle.cipher.proofs.Promise.{mcrypton_invertible}
use Rattle.modes.specs.Xor.{xor_bytes}
use Rattle.panels.specs.Ctr.{T, O, C, joined, ctr}
use Rattle.panels.specs.Calls.{error_number, panel_outcome, panel_tests, panelling}
use Rattle.panels.specs.Laws.{counter_block, key_block, Sealed, panel_clauses, PanelCalls, PanelAnswers, Panels}
use Rattle.panels.proofs.Stream.{ctr_bytes, size, byte, twice}
use Rattle.panels.proofs.Calls.{wrong_span, overlong, accepts}

-- ---- counter blocks

block_is : (x : ℕ) → be 8 x ≡ counter_block x
unfolding be
block_is x = rw div-one

once : (first i j : ℕ) → i < 2 ^ 64 → j < 2 ^ 64 → counter_block ((first + i) % 2 ^ 64) ≡ counter_block ((first + j) % 2 ^ 64) → i ≡ j
once first i j h g e =
    omega (arith, be_inj 8 ((first + i) % 2 ^ 64) ((first + j) % 2 ^ 64) (omega arith) (omega arith) (block_is ((first + i) % 2 ^ 64) ∙ e ∙ sym (block_is ((first + j) % 2 ^ 64))))

advances : (d first n : ℕ) → first < 2 ^ 64 → times n (λ c. (c + d) % 2 ^ 64) first ≡ (first + d * n) % 2 ^ 64
unfolding times
advances d first zero h = omega (arith, mul-zero d)
advances d first (suc n) h = omega (arith, advances d first n h, mul-suc d n)

-- the same of the adds in the code, each of which is this equation to its caller: c is first after i adds of 1
pub data Advanced (first : ℕ) : ℕ → ℕ → Type 0 where
  none : Advanced first 0 first
  one_more : {i c r : ℕ} → Advanced first i c → r ≡ (c + 1) % 2 ^ 64 → Advanced first (i + 1) r

pub advanced : (first i c : ℕ) → first < 2 ^ 64 → Advanced first i c → c ≡ (first + i) % 2 ^ 64
advanced first i c h none = omega arith
advanced first i c h (one_more {i = j} {c = b} a e) = omega (arith, advanced first j b h a, e)

-- ---- key blocks, by any path number

by_path : (p : ℕ) (k b : List ℕ) → encrypt_bytes p k b ≡ encrypt_bytes 0 k b
unfolding encrypt_bytes encrypt_block
by_path p k b = ap bytes_of (same_steps Encrypt p 0 (encryption_key (words_of k)) (words_of b))

eight : (k b : List ℕ) → length (encrypt_bytes 0 k b) ≡ 8
unfolding encrypt_bytes
eight k b = length_bytes (block_encrypted 0 (words_of k) (words_of b))

key_bytes_lem : (k b : List ℕ) → Bytes (encrypt_bytes 0 k b)
unfolding encrypt_bytes
key_bytes_lem k b = bytes_bytes (block_encrypted 0 (words_of k) (words_of b))

key_block_lem : (p : ℕ) (k : List ℕ) (first i : ℕ) → O (encrypt_bytes 0 k) first i ≡ key_block p k first i
unfolding O T
key_block_lem p k first i = ap (encrypt_bytes 0 k) (block_is ((first + i) % 2 ^ 64)) ∙ sym (by_path p k _)

apart : (p q : ℕ) (k : List ℕ) (first first' i j : ℕ) → Bytes k → OneOf (8 ∷ 12 ∷ 16 ∷ []) (length k)
    → (first + i) % 2 ^ 64 ≢ (first' + j) % 2 ^ 64 → key_block p k first i ≢ key_block q k first' j
unfolding O T
apart p q k first first' i j tk hk h e =
    let undo = (mcrypton_invertible 0 0 tk (reflects_yes (reflects_length (length k)) hk)).decrypt_encrypt in
    let x : ℕ = (first + i) % 2 ^ 64 in
    let y : ℕ = (first' + j) % 2 ^ 64 in
    let b : (z : ℕ) → ByteBlock (be 8 z) = λ z. record { size = length_be 8 z; bytes = be_bytes 8 z } in
    h (be_inj 8 x y (omega arith) (omega arith) (sym (undo (be 8 x) (b x)) ∙ ap (decrypt_bytes 0 k) (key_block_lem p k first i ∙ e ∙ sym (key_block_lem q k first' j)) ∙ undo (be 8 y) (b y)))

next : (p q : ℕ) (k : List ℕ) (first : ℕ) (x y : List ℕ) → Bytes k → OneOf (8 ∷ 12 ∷ 16 ∷ []) (length k) → length x ≤ 65536 → length y ≤ 65536
    → (i j : ℕ) → i < length x → j < length y → key_block p k first (i / 8) ≢ key_block q k ((first + (length x + 7) / 8) % 2 ^ 64) (j / 8)
next p q k first x y tk hk lx ly i j li lj = apart p q k first _ (i / 8) (j / 8) tk hk (λ e. omega (arith, e, lx, ly, li, lj))

sooner : (p : ℕ) (k : List ℕ) (first : ℕ) (x : List ℕ) → 0 < length x
    → key_block p k first ((length x - 1) / 8) ≡ key_block p k ((first + ((length x + 7) / 8 - 1)) % 2 ^ 64) 0
sooner p k first x h =
    ap (λ (z : ℕ). encrypt_bytes p k (counter_block z)) {x = (first + (length x - 1) / 8) % 2 ^ 64} {y = ((first + ((length x + 7) / 8 - 1)) % 2 ^ 64 + 0) % 2 ^ 64}
    (omega (arith, h))

-- ---- the sealed panel

module _ (k : List ℕ) (first : ℕ) (hk : OneOf (8 ∷ 12 ∷ 16 ∷ []) (length k)) where
  answer : (x out : List ℕ) → length out ≡ length x → length x ≤ 65536 → panelling k first x out ≡ panel_outcome (Ok tt) (ctr (encrypt_bytes 0 k) first x)
  answer x out n l = sym (accepts k first x out true (sym (reflects_yes (reflects_length (length k)) hk)) refl n (omega (arith, l)))

  sealed : (p : ℕ) (x out : List ℕ) → length out ≡ length x → length x ≤ 65536 → Sealed p k first x out
  unfolding panel_outcome
  sealed p x out n l =
      let E : List ℕ → List ℕ = encrypt_bytes 0 k in
      let e : (y : ℕ) → length (encrypt_bytes 0 k (T y)) ≡ 8 = λ y. eight k (T y) in
      let s : length (ctr (encrypt_bytes 0 k) first x) ≡ length x = size E e first x in
      record {
        accepted = ap (λ (o : Outcome). o.number) (answer x out n l);
        len = ap (λ (o : Outcome). o.len) (answer x out n l);
        size = rw (answer x out n l) s;
        bytes = λ b. rw (answer x out n l) (ctr_bytes E e first x (λ y. key_bytes_lem k (T y)) b);
        byte = λ i h. rw (answer x out n l) (byte E e first x i h ∙ ap (λ (b : List ℕ). bit_xor (get_or x i 0) (get_or b (i % 8) 0)) (key_block_lem p k first (i / 8)));
        twice = λ out' n'. rw (answer x out n l) (answer (ctr E first x) out' (n' ∙ sym s) (omega (arith, s)) ∙ ap (panel_outcome (Ok tt)) (twice E e first x));
      }

-- ---- which calls are refused

module _ (k : List ℕ) (first : ℕ) (x out : List ℕ) where
  call_exactly : Exactly (panelling k first x out).number (panel_clauses k x out)
  unfolding panelling panel_outcome panel_tests panel_clauses Means
  call_exactly =
      decided_exactly error_number (λ (o : Outcome). o.number) _ _ refl (λ a. refl) _ _ (
        reflects_not (reflects_length (length k)),
        refl,
        λ t₁. (reflects_not (reflects_eqb (length out) (length x)), refl, λ t₃. (reflects_ltb 65536 (length x), refl, λ t₇. tt)),
      )

  call_refused : ((panelling k first x out).number ≡ 0 → ⊥) → Leaves (panelling k first x out) out
  unfolding panelling panel_outcome
  call_refused = decided_refused error_number (λ (o : Outcome). o.number) _ _ refl (λ a. refl) (λ o. Leaves o out) (λ a h. record { len = refl; bytes_are = refl }) _

-- by computing, and where a panel is long by its length alone
panel_calls : PanelCalls
unfolding rotate1 rotate sboxes sbox γ π τ by_count forward_words forward4 forward6 forward8 forward start eight_words times register constants register_t last_word round_key encryption_key by_words after_by steps encrypt_block words_of bytes_of encrypt_bytes xor_bytes be T O C joined ctr zeros panelling panel_outcome panel_tests decided key_length
panel_calls =
    record {
      wraps_4 = refl;
      carries_6 = refl;
      counts_8 = refl;
      empty = λ first. refl;
      longest = λ first. ap (λ (o : Outcome). o.number) (sym (accepts key4 first (zeros 65536) (zeros 65536) true refl refl refl (omega (arith, length_zeros 65536))));
      wrong_key_lem = λ first. refl;
      wrong_span = λ first. sym (wrong_span key4 first (zeros 65537) (replicate 65536 5) true refl refl (λ e. omega (arith, e, length_zeros 65537, length-replicate {A = ℕ} 65536 5)));
      overlong = λ first. sym (overlong key4 first (zeros 65537) (replicate 65537 5) true refl refl (length-replicate {A = ℕ} 65537 5 ∙ sym (length_zeros 65537)) (omega (arith, length_zeros 65537)));
    }

panel_answers : PanelAnswers
unfolding panel_outcome
panel_answers = record { accepted = λ bytes. refl; wrong_key_lem = λ bytes. refl; wrong_span = λ bytes. refl; overlong = λ bytes. refl }

pub panels : Panels
panels =
    record {
      seals = λ p k first x out hk. sealed k first hk p x out;
      exactly = call_exactly;
      refused = call_refused;
      answers = panel_answers;
      advances = advances;
      once = once;
      apart = apart;
      next = next;
      sooner = sooner;
      calls = panel_calls;
    }
