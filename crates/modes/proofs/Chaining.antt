-- Laws of CBC: the code's loops, whole blocks in and out, each direction undoes the other, and a text cut in two.
use mathlib.Core.Path.{◌≡◌, refl, sym, ap, ap₂, ◌∙◌}
use mathlib.Core.List.{List, [], ◌∷◌, ◌++◌, append_assoc, append-nil}
use Prim.Native.Nat.{ℕ, zero, suc, ◌+◌, ◌-◌, ◌*◌, ◌≤◌, ◌<◌}
use native.Mathlib.Nat.{sub-zero, zero-add, suc-add}
use native.Mathlib.Omega.{arith}
use lib.ListN.{length, take, drop, length-append, length-drop, take-append-drop}
use lib.Seq.{drop-drop, take_all, take_at, drop_at, length-take-le}
use Rattle.octets.specs.Bytes.{none, part, put}
use Rattle.octets.proofs.EveryByte.{append_bytes, take_bytes, drop_bytes}
use Rattle.octets.proofs.Parts.{take_put, part_append_head, part_append_right}
use Rattle.octets.specs.Block.{ByteBlock, Invertible}
use Rattle.modes.specs.Xor.{xor_bytes}
use Rattle.modes.specs.Cbc.{cbc_encrypt, cbc_decrypt}
use Rattle.modes.specs.Laws.{ByteBlocks, Cbc}
use Rattle.modes.proofs.Xor.{xor_xor, xor_block}

-- the code's loops: F is one of the two directions, of n blocks of p the first j are done, they are the first 8 * j bytes of out, and c is their chaining value
module _ (F : ℕ → List ℕ → List ℕ → List ℕ) (n : ℕ) (start p : List ℕ) where
  pub ChainedTo : List ℕ → ℕ → List ℕ → Type 0
  ChainedTo c j out = F n start p ≡ take (8 * j) out ++ F (n - j) c (drop (8 * j) p)

  pub chained_none : (out : List ℕ) → ChainedTo start 0 out
  unfolding ChainedTo
  chained_none out = rw sub-zero

  -- m blocks more, which are b
  chained_more : (m : ℕ) (c c' b out out' : List ℕ) (j : ℕ) → ChainedTo c j out → j + m ≤ n → ((k : ℕ) → F (m + k) c (drop (8 * j) p) ≡ b ++ F k c' (drop (8 * m) (drop (8 * j) p)))
      → length b ≡ 8 * m → out' ≡ put out (8 * j) b → length out ≡ 8 * n → ChainedTo c' (j + m) out'
  unfolding ChainedTo
  chained_more m c c' b out out' j v l f s o h =
      let e : n - j ≡ m + (n - (j + m)) = omega arith in
      let q : 8 * (j + m) ≡ 8 * j + length b = omega arith in
      let t : take (8 * (j + m)) out' ≡ take (8 * j) out ++ b = rw (o, q) (take_put out b (8 * j) (omega arith)) in
      v ∙ rw (e, f (n - (j + m)), t, q, s, ← drop-drop (8 * m) (8 * j) p, append_assoc)

  chained_end : (c out : List ℕ) (j : ℕ) → ChainedTo c j out → j ≤ n → n ≤ j → length out ≡ 8 * n → ((d s : List ℕ) → F 0 d s ≡ []) → out ≡ F n start p
  unfolding ChainedTo
  chained_end c out j v l g h f =
      let z : n - j ≡ 0 = omega arith in
      sym (v ∙ rw (z, f c (drop (8 * j) p), append-nil) (take_all (8 * j) out (omega arith)))

-- a part that goes to the end
to_end : (s : List ℕ) (a : ℕ) → take (length s - a) (drop a s) ≡ drop a s
to_end s a = take_all (length s - a) (drop a s) (omega (arith, length-drop a s))

one_add : (k : ℕ) → 1 + k ≡ suc k
one_add k = omega arith

module _ (E : List ℕ → List ℕ) where
  pub encrypt_more : (n : ℕ) (start p c b x c' out out' : List ℕ) (j : ℕ) → ChainedTo (cbc_encrypt E) n start p c j out → j < n → b ≡ part p (8 * j) 8 → x ≡ xor_bytes b c → c' ≡ E x
      → length c' ≡ 8 → out' ≡ put out (8 * j) c' → length out ≡ 8 * n → ChainedTo (cbc_encrypt E) n start p c' (j + 1) out'
  unfolding cbc_encrypt
  encrypt_more n start p c b x c' out out' j v l e f g = chained_more (cbc_encrypt E) n start p 1 c c' c' out out' j v (omega arith) (λ k. rw (one_add k, ← e, ← f, ← g))

  pub encrypt_end : (n : ℕ) (start p c out : List ℕ) (j : ℕ) → ChainedTo (cbc_encrypt E) n start p c j out → j ≤ n → n ≤ j → length out ≡ 8 * n → out ≡ cbc_encrypt E n start p
  unfolding cbc_encrypt
  encrypt_end n start p c out j v l g h = chained_end (cbc_encrypt E) n start p c out j v l g h (λ d t. refl)

module _ (D : List ℕ → List ℕ) where
  pub decrypt_more : (n : ℕ) (start s c b x y out out' : List ℕ) (j : ℕ) → ChainedTo (cbc_decrypt D) n start s c j out → j < n → b ≡ part s (8 * j) 8 → x ≡ D b → y ≡ xor_bytes x c
      → length y ≡ 8 → out' ≡ put out (8 * j) y → length out ≡ 8 * n → ChainedTo (cbc_decrypt D) n start s b (j + 1) out'
  unfolding cbc_decrypt
  decrypt_more n start s c b x y out out' j v l e f g = chained_more (cbc_decrypt D) n start s 1 c b y out out' j v (omega arith) (λ k. rw (one_add k, ← e, ← f, ← g))

  pub decrypt_end : (n : ℕ) (start s c out : List ℕ) (j : ℕ) → ChainedTo (cbc_decrypt D) n start s c j out → j ≤ n → n ≤ j → length out ≡ 8 * n → out ≡ cbc_decrypt D n start s
  unfolding cbc_decrypt
  decrypt_end n start s c out j v l g h = chained_end (cbc_decrypt D) n start s c out j v l g h (λ d t. refl)

  -- the first m blocks, and n more: the block between them is the last of the m
  decrypt_cut : (m n : ℕ) (c s : List ℕ) → length c ≡ 8 → 8 * m ≤ length s
      → cbc_decrypt D (m + n) c s ≡ cbc_decrypt D m c s ++ cbc_decrypt D n (part (c ++ s) (8 * m) 8) (drop (8 * m) s)
  unfolding cbc_decrypt
  decrypt_cut zero n c s hc hs = rw (zero-add n, part_append_head c s 8 hc)
  decrypt_cut (suc m) n c s hc hs =
      let q : 8 * suc m ≡ 8 + 8 * m = omega arith in
      let i : cbc_decrypt D (m + n) (take 8 s) (drop 8 s) ≡ cbc_decrypt D m (take 8 s) (drop 8 s) ++ cbc_decrypt D n (part s (8 * m) 8) (drop (8 * m) (drop 8 s)) =
      decrypt_cut m n (take 8 s) (drop 8 s) (length-take-le 8 s (omega arith)) (omega (arith, length-drop 8 s))
      ∙ rw take-append-drop in
      rw (suc-add m n, part_append_right c s (8 * suc m) (8 * m) 8 (omega arith), q, ← drop-drop (8 * m) 8 s, append_assoc)
      (ap (λ (t : List ℕ). xor_bytes (D (take 8 s)) c ++ t) i)

  -- m blocks at a time: they are q, and b at place i is the last of them
  decrypt_blocks : (m n : ℕ) (start s c b q out out' : List ℕ) (j i : ℕ) → ChainedTo (cbc_decrypt D) n start s c j out → j + m ≤ n → 8 * n ≤ length s → length c ≡ 8
      → q ≡ cbc_decrypt D m c (take (length s - 8 * j) (drop (8 * j) s)) → length q ≡ 8 * m → i + 8 ≡ 8 * j + 8 * m → 8 * j ≤ i → b ≡ part s i 8 → out' ≡ put out (8 * j) q → length out ≡ 8 * n
      → ChainedTo (cbc_decrypt D) n start s b (j + m) out'
  decrypt_blocks m n start s c b q out out' j i v l g h e z r w f o =
      chained_more (cbc_decrypt D) n start s m c b q out out' j v l
      (λ k. decrypt_cut m k c (drop (8 * j) s) h (omega (arith, length-drop (8 * j) s)) ∙ ap₂ (λ (x y : List ℕ). x ++ cbc_decrypt D k y (drop (8 * m) (drop (8 * j) s))) (sym (e ∙ ap (cbc_decrypt D m c) (to_end s (8 * j)))) last)
      z o
    where
      last : part (c ++ drop (8 * j) s) (8 * m) 8 ≡ b
      last = part_append_right c (drop (8 * j) s) (8 * m) (i - 8 * j) 8 (omega arith) ∙ ap (take 8) (drop-drop (i - 8 * j) (8 * j) s ∙ ap (λ (x : ℕ). drop x s) {x = 8 * j + (i - 8 * j)} {y = i} (omega arith)) ∙ sym f

  -- the same, where the place of the first of them is a, and k blocks are done then
  pub decrypt_blocks_at : (m n : ℕ) (start s c b q out out' : List ℕ) (j a i k : ℕ) → a ≡ 8 * j → k ≡ j + m → ChainedTo (cbc_decrypt D) n start s c j out → j + m ≤ n → 8 * n ≤ length s → length c ≡ 8
      → q ≡ cbc_decrypt D m c (take (length s - a) (drop a s)) → length q ≡ 8 * m → i + 8 ≡ a + 8 * m → a ≤ i → b ≡ part s i 8 → out' ≡ put out a q → length out ≡ 8 * n
      → ChainedTo (cbc_decrypt D) n start s b k out'
  decrypt_blocks_at m n start s c b q out out' j a i k e f v l g h x z r w y p o =
      rw f
      (decrypt_blocks m n start s c b q out out' j i v l g h (x ∙ ap (λ (a : ℕ). cbc_decrypt D m c (take (length s - a) (drop a s))) e) z (omega arith) (omega arith) y (p ∙ ap (λ (a : ℕ). put out a q) e) o)

-- texts of whole blocks
no_blocks : ByteBlocks 0 []
no_blocks = record { size = refl; bytes = none }

pub first_block : {n : ℕ} {p : List ℕ} → ByteBlocks (suc n) p → ByteBlock (take 8 p)
first_block {n} {p} h = record { size = length-take-le 8 p (omega (arith, h.size)); bytes = take_bytes 8 h.bytes }

pub other_blocks : {n : ℕ} {p : List ℕ} → ByteBlocks (suc n) p → ByteBlocks n (drop 8 p)
other_blocks {n} {p} h = record { size = length-drop 8 p ∙ omega (arith, h.size); bytes = drop_bytes 8 h.bytes }

join_block : {n : ℕ} {x p : List ℕ} → ByteBlock x → ByteBlocks n p → ByteBlocks (suc n) (x ++ p)
join_block {n} {x} {p} h g =
    record { size = length-append x p ∙ omega (arith, h.size, g.size); bytes = append_bytes h.bytes g.bytes }

zero_blocks : {p : List ℕ} → ByteBlocks 0 p → [] ≡ p
zero_blocks {p = []} h = refl
zero_blocks {p = x ∷ p} h = absurd (omega (arith, h.size))

module _ {E D : List ℕ → List ℕ} (promise : Invertible E D) where
  -- the first block of each direction is a block
  pub encrypted_first : {n : ℕ} {c p : List ℕ} → ByteBlock c → ByteBlocks (suc n) p → ByteBlock (E (xor_bytes (take 8 p) c))
  encrypted_first hc hp = promise.encrypts _ (xor_block (first_block hp) hc)

  pub decrypted_first : {n : ℕ} {c s : List ℕ} → ByteBlock c → ByteBlocks (suc n) s → ByteBlock (xor_bytes (D (take 8 s)) c)
  decrypted_first hc hs = xor_block (promise.decrypts _ (first_block hs)) hc

  pub encrypted_blocks : (n : ℕ) (c p : List ℕ) → ByteBlock c → ByteBlocks n p → ByteBlocks n (cbc_encrypt E n c p)
  unfolding cbc_encrypt
  encrypted_blocks zero c p hc hp = no_blocks
  encrypted_blocks (suc n) c p hc hp =
      let b : ByteBlock (E (xor_bytes (take 8 p) c)) = encrypted_first hc hp in
      join_block b (encrypted_blocks n (E (xor_bytes (take 8 p) c)) (drop 8 p) b (other_blocks hp))

  pub decrypted_blocks : (n : ℕ) (c s : List ℕ) → ByteBlock c → ByteBlocks n s → ByteBlocks n (cbc_decrypt D n c s)
  unfolding cbc_decrypt
  decrypted_blocks zero c s hc hs = no_blocks
  decrypted_blocks (suc n) c s hc hs =
      join_block (decrypted_first hc hs) (decrypted_blocks n (take 8 s) (drop 8 s) (first_block hs) (other_blocks hs))

  encrypt_first : (n : ℕ) (c x r : List ℕ) → length x ≡ 8 → cbc_encrypt E (suc n) c (x ++ r) ≡ E (xor_bytes x c) ++ cbc_encrypt E n (E (xor_bytes x c)) r
  unfolding cbc_encrypt
  encrypt_first n c x r h = rw (take_at x r 8 h, drop_at x r 8 h)

  decrypt_first : (n : ℕ) (c x r : List ℕ) → length x ≡ 8 → cbc_decrypt D (suc n) c (x ++ r) ≡ xor_bytes (D x) c ++ cbc_decrypt D n x r
  unfolding cbc_decrypt
  decrypt_first n c x r h = rw (take_at x r 8 h, drop_at x r 8 h)

  decrypt_encrypt : (n : ℕ) (c p : List ℕ) → ByteBlock c → ByteBlocks n p → cbc_decrypt D n c (cbc_encrypt E n c p) ≡ p
  unfolding cbc_encrypt cbc_decrypt
  decrypt_encrypt zero c p hc hp = zero_blocks hp
  decrypt_encrypt (suc n) c p hc hp =
      let x : List ℕ = xor_bytes (take 8 p) c in
      let b : ByteBlock (E (xor_bytes (take 8 p) c)) = encrypted_first hc hp in
      decrypt_first n c (E x) (cbc_encrypt E n (E x) (drop 8 p)) b.size
      ∙ ap₂ (λ (y z : List ℕ). y ++ z)
      (ap (λ (y : List ℕ). xor_bytes y c) (promise.decrypt_encrypt x (xor_block (first_block hp) hc)) ∙ xor_xor (take 8 p) c ((first_block hp).size ∙ sym hc.size))
      (decrypt_encrypt n (E x) (drop 8 p) b (other_blocks hp))
      ∙ take-append-drop 8 p

  encrypt_decrypt : (n : ℕ) (c s : List ℕ) → ByteBlock c → ByteBlocks n s → cbc_encrypt E n c (cbc_decrypt D n c s) ≡ s
  unfolding cbc_encrypt cbc_decrypt
  encrypt_decrypt zero c s hc hs = zero_blocks hs
  encrypt_decrypt (suc n) c s hc hs =
      let x : List ℕ = D (take 8 s) in
      let d : ByteBlock (D (take 8 s)) = promise.decrypts _ (first_block hs) in
      let q : E (xor_bytes (xor_bytes (D (take 8 s)) c) c) ≡ take 8 s = ap E (xor_xor x c (d.size ∙ sym hc.size)) ∙ promise.encrypt_decrypt (take 8 s) (first_block hs) in
      encrypt_first n c (xor_bytes x c) (cbc_decrypt D n (take 8 s) (drop 8 s)) (decrypted_first hc hs).size
      ∙ ap (λ (y : List ℕ). y ++ cbc_encrypt E n y (cbc_decrypt D n (take 8 s) (drop 8 s))) q
      ∙ ap (λ (z : List ℕ). take 8 s ++ z) (encrypt_decrypt n (take 8 s) (drop 8 s) (first_block hs) (other_blocks hs))
      ∙ take-append-drop 8 s

  encrypt_split : (m n : ℕ) (c p : List ℕ) → ByteBlock c → ByteBlocks (m + n) p
      → cbc_encrypt E (m + n) c p ≡ cbc_encrypt E m c p ++ cbc_encrypt E n (part (c ++ cbc_encrypt E m c p) (8 * m) 8) (drop (8 * m) p)
  unfolding cbc_encrypt
  encrypt_split zero n c p hc hp = rw (zero-add n, part_append_head c [] 8 hc.size)
  encrypt_split (suc m) n c p hc hp =
      let c' : List ℕ = E (xor_bytes (take 8 p) c) in
      let hp' : ByteBlocks (suc (m + n)) p = rw suc-add at hp in
      let b : ByteBlock (E (xor_bytes (take 8 p) c)) = encrypted_first hc hp' in
      let q : 8 * suc m ≡ 8 + 8 * m = omega arith in
      rw (suc-add m n, part_append_right c (c' ++ cbc_encrypt E m c' (drop 8 p)) (8 * suc m) (8 * m) 8 (omega (arith, hc.size)), q, ← drop-drop (8 * m) 8 p, append_assoc)
      (ap (λ (s : List ℕ). c' ++ s) (encrypt_split m n c' (drop 8 p) b (other_blocks hp')))

  decrypt_split : (m n : ℕ) (c s : List ℕ) → ByteBlock c → ByteBlocks (m + n) s
      → cbc_decrypt D (m + n) c s ≡ cbc_decrypt D m c s ++ cbc_decrypt D n (part (c ++ s) (8 * m) 8) (drop (8 * m) s)
  decrypt_split m n c s hc hs = decrypt_cut D m n c s hc.size (omega (arith, hs.size))

  pub cbc_laws : Cbc E D
  cbc_laws =
      record {
        encrypts = encrypted_blocks;
        decrypts = decrypted_blocks;
        decrypt_encrypt = decrypt_encrypt;
        encrypt_decrypt = encrypt_decrypt;
        encrypt_split = encrypt_split;
        decrypt_split = decrypt_split;
      }
