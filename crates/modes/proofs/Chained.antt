-- CBC block by block, for any invertible cipher.
use mathlib.Core.Path.{◌≡◌, sym, ap, ap₂, ◌∙◌}
use mathlib.Core.List.{List, ◌++◌}
use Prim.Native.Nat.{ℕ, zero, suc, ◌+◌, ◌*◌, ◌<◌}
use native.Mathlib.Numerals.{add-one}
use native.Mathlib.Omega.{arith}
use lib.ListN.{length, take, drop, take-append-drop}
use lib.Seq.{drop-drop}
use Rattle.octets.specs.Bytes.{part}
use Rattle.octets.proofs.Parts.{part_append_head, part_append_right}
use Rattle.octets.specs.Block.{ByteBlock, Invertible}
use Rattle.modes.specs.Xor.{xor_bytes}
use Rattle.modes.specs.Cbc.{cbc_encrypt, cbc_decrypt}
use Rattle.modes.specs.Laws.{ByteBlocks}
use Rattle.modes.specs.Chained.{CbcSteps}
use Rattle.modes.proofs.Chaining.{first_block, other_blocks, encrypted_first, decrypted_first, encrypted_blocks, decrypted_blocks}

-- block j + 1 of a text is block j of the text without its first
next_block : (x : List ℕ) (j : ℕ) → part (drop 8 x) (8 * j) 8 ≡ part x (8 * suc j) 8
next_block x j = ap (take 8) (drop-drop (8 * j) 8 x ∙ ap (λ (a : ℕ). drop a x) {x = 8 + 8 * j} {y = 8 * suc j} (omega arith))

-- the same behind a block c
behind : (c x : List ℕ) (j : ℕ) → length c ≡ 8 → part (c ++ x) (8 * suc j) 8 ≡ part x (8 * j) 8
behind c x j h = part_append_right c x (8 * suc j) (8 * j) 8 (omega (arith, h))

module _ {E D : List ℕ → List ℕ} (promise : Invertible E D) where
  encrypt_step : (n : ℕ) (c p : List ℕ) → ByteBlock c → ByteBlocks n p → (j : ℕ) → j < n
      → part (c ++ cbc_encrypt E n c p) (8 * suc j) 8 ≡ E (xor_bytes (part p (8 * j) 8) (part (c ++ cbc_encrypt E n c p) (8 * j) 8))
  unfolding cbc_encrypt
  encrypt_step zero c p hc hp j l = absurd (omega (arith, l))
  encrypt_step (suc n) c p hc hp zero l =
      let c' : List ℕ = E (xor_bytes (take 8 p) c) in
      behind c (c' ++ cbc_encrypt E n c' (drop 8 p)) 0 hc.size
      ∙ part_append_head c' (cbc_encrypt E n c' (drop 8 p)) 8 (encrypted_first promise hc hp).size
      ∙ ap (λ (y : List ℕ). E (xor_bytes (take 8 p) y)) (sym (part_append_head c (c' ++ cbc_encrypt E n c' (drop 8 p)) 8 hc.size))
  encrypt_step (suc n) c p hc hp (suc j) l =
      let c' : List ℕ = E (xor_bytes (take 8 p) c) in
      let s : List ℕ = c' ++ cbc_encrypt E n c' (drop 8 p) in
      behind c s (suc j) hc.size
      ∙ encrypt_step n c' (drop 8 p) (encrypted_first promise hc hp) (other_blocks hp) j (omega (arith, l))
      ∙ ap₂ (λ (y z : List ℕ). E (xor_bytes y z)) (next_block p j) (sym (behind c s j hc.size))

  decrypt_step : (n : ℕ) (c s : List ℕ) → ByteBlock c → ByteBlocks n s → (j : ℕ) → j < n
      → part (cbc_decrypt D n c s) (8 * j) 8 ≡ xor_bytes (D (part s (8 * j) 8)) (part (c ++ s) (8 * j) 8)
  unfolding cbc_decrypt
  decrypt_step zero c s hc hs j l = absurd (omega (arith, l))
  decrypt_step (suc n) c s hc hs zero l =
      part_append_head (xor_bytes (D (take 8 s)) c) (cbc_decrypt D n (take 8 s) (drop 8 s)) 8 (decrypted_first promise hc hs).size
      ∙ ap (xor_bytes (D (take 8 s))) (sym (part_append_head c s 8 hc.size))
  decrypt_step (suc n) c s hc hs (suc j) l =
      behind (xor_bytes (D (take 8 s)) c) (cbc_decrypt D n (take 8 s) (drop 8 s)) j (decrypted_first promise hc hs).size
      ∙ decrypt_step n (take 8 s) (drop 8 s) (first_block hs) (other_blocks hs) j (omega (arith, l))
      ∙ ap₂ (λ (y z : List ℕ). xor_bytes (D y) z) (next_block s j)
      (ap (λ (y : List ℕ). part y (8 * j) 8) (take-append-drop 8 s) ∙ sym (behind c s j hc.size))

  pub cbc_steps : (n : ℕ) (c x : List ℕ) → ByteBlock c → ByteBlocks n x → CbcSteps E D n c x
  cbc_steps n c x hc hx =
      record {
        encrypted_size = (encrypted_blocks promise n c x hc hx).size;
        decrypted_size = (decrypted_blocks promise n c x hc hx).size;
        encrypts = λ j l. rw add-one (encrypt_step n c x hc hx j l);
        decrypts = decrypt_step n c x hc hx;
      }
