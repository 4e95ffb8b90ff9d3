-- Laws of the steps: counter blocks as words, one after the other, and the panel added to what they are encrypted to.
use Rattle.std.proofs.Common.{◌≡◌, ℕ, ◌+◌, ◌-◌, ◌*◌, ◌/◌, ◌%◌, ◌^◌, ◌<◌, ◌≤◌, List, [], ◌++◌, map, length, get_or, take, drop, set, sym, refl, ap, ◌∙◌, ap₂, append_assoc, append-nil, add-one, arith, length-drop, drop_of_length-le, length-take-le, take_all, get_or-set_other, get_or-take, get_or-set_same, drop-drop, take-suc-set}
use native.Mathlib.Decide.{dec_lt}
use lib.Bits.{bit_xor}
use lib.ListN.{length-map, get_or-append}
use Rattle.std.specs.Int.{w64, to_be_bytes}
use Rattle.octets.specs.Bytes.{be, put}
use Rattle.octets.proofs.Parts.{drop_next, take_put, part_span, length_part}
use Rattle.rounds.proofs.Blocks.{block_φ}
use Rattle.schedule.specs.declared.Register.{Register}
use Rattle.present.proofs.EightBytes.{eight_bytes}
use Rattle.mcrypton.specs.Cipher.{steps}
use Rattle.mcrypton.specs.Bytes.{words_of, bytes_of}
use Rattle.mcrypton.specs.Registers.{encrypt_from}
use Rattle.mcrypton.proofs.WordsOf.{words_bytes}
use Rattle.mcrypton.proofs.ByteBlocks.{length_bytes}
use Rattle.octets.proofs.Each.{map_at}
use Rattle.modes.specs.Xor.{xor_bytes}
use Rattle.panels.specs.Ctr.{T, O, joined, ctr}
use Rattle.panels.specs.Steps.{Counters, encrypted_from, block_of}
use Rattle.panels.proofs.Stream.{T_same, xor_take, joined_same, ctr_wraps, ctr_stream, ctr_block, size, split}

pub counter_bytes : (x : ℕ) → x < 2 ^ 64 → to_be_bytes w64 x ≡ T x
unfolding T
counter_bytes x h = eight_bytes x ∙ ap (be 8) (omega (arith, h))

-- the loop of `counter_blocks`
pub counters_none : (c : ℕ) (a : List (List ℕ)) → Counters c 0 a
counters_none c a = record { at = λ i h. absurd (omega (arith, h)) }

pub counters_more : (c i t : ℕ) (a : List (List ℕ)) (y : List ℕ) → Counters c i a → i < length a → t ≡ (c + i) % 2 ^ 64 → y ≡ words_of (T t) → Counters c (i + 1) (set a i y)
counters_more c i t a y h l e f = record { at = λ j g. go j g (dec_lt j i) }
  where
    go : (j : ℕ) → j < i + 1 → Dec (j < i) → get_or (set a i y) j [] ≡ words_of (T (c + j))
    go j g (yes q) = get_or-set_other a i j y [] (λ z. omega (arith, z, q)) ∙ h.at j q
    go j g (no q) = let z : j ≡ i = omega arith in rw z (get_or-set_same a i y [] l ∙ f ∙ ap words_of (T_same t (c + i) (omega (arith, e))))

pub counters_front : (c n i : ℕ) (a rest : List (List ℕ)) → Counters c i a → n ≤ i → n ≤ length a → Counters c n (a ++ rest)
counters_front c n i a rest h l m = record { at = λ j g. get_or-append a rest [] j (omega arith) ∙ h.at j (omega arith) }

-- the loop of `joined_blocks`: y is the bytes of array i
pub joined_none : (a : List (List ℕ)) (s : List ℕ) → take (8 * 0) s ≡ joined (block_of a) 0
unfolding joined
joined_none a s = refl

pub joined_all : (a : List (List ℕ)) (n i : ℕ) (s : List ℕ) → take (8 * i) s ≡ joined (block_of a) i → n ≤ i → i ≤ n → take (8 * n) s ≡ joined (block_of a) n
joined_all a n i s h l g = let e : n ≡ i = omega arith in rw e h

pub joined_more : (a : List (List ℕ)) (i : ℕ) (s y s' : List ℕ) → take (8 * i) s ≡ joined (block_of a) i → y ≡ bytes_of (get_or a i []) → length y ≡ 8
    → s' ≡ put s (8 * i) y → 8 * i + 8 ≤ length s → take (8 * (i + 1)) s' ≡ joined (block_of a) (i + 1)
unfolding joined block_of
joined_more a i s y s' h e l f g =
    let q : 8 * (i + 1) ≡ 8 * i + length y = omega arith in
    rw (q, f, add-one) (take_put s y (8 * i) (omega arith) ∙ ap₂ ◌++◌ h e)

-- the loop of `add_bytes`: i bytes are done, and they are the first of out
pub Added : List ℕ → List ℕ → ℕ → List ℕ → Type 0
Added p s i out = xor_bytes p s ≡ take i out ++ xor_bytes (drop i p) (drop i s)

pub added_none : (p s out : List ℕ) → Added p s 0 out
unfolding Added
added_none p s out = refl

pub added_more : (p s : List ℕ) (i : ℕ) (out : List ℕ) → Added p s i out → i < length p → length p ≤ length s → length out ≡ length p
    → Added p s (i + 1) (set out i (bit_xor (get_or p i 0) (get_or s i 0)))
unfolding Added xor_bytes
added_more p s i out h l g e =
    let v : ℕ = bit_xor (get_or p i 0) (get_or s i 0) in
    h
    ∙ ap₂ (λ (x y : List ℕ). take i out ++ xor_bytes x y) (drop_next p i l) (drop_next s i (omega arith))
    ∙ sym (rw (add-one, take-suc-set out i v (omega arith), append_assoc))

pub added_all : (p s : List ℕ) (i : ℕ) (out : List ℕ) → Added p s i out → length p ≤ i → length out ≡ length p → out ≡ xor_bytes p s
unfolding Added xor_bytes
added_all p s i out h l e = sym (h ∙ rw (drop_of_length-le p l, append-nil) (take_all i out (omega arith)))

-- ---- at most 32 blocks

pub eight : (u : Register) (x : ℕ) → length (encrypted_from u (T x)) ≡ 8
unfolding encrypted_from encrypt_from steps
eight u x = length_bytes (block_φ _)

pub block_sealed : (u : Register) (c : ℕ) (p t a o out : List ℕ) → length p ≤ 8 → t ≡ words_of (T c) → a ≡ bytes_of t → o ≡ bytes_of (encrypt_from 0 u (words_of a)) → out ≡ xor_bytes p o
    → out ≡ ctr (encrypted_from u) c p
unfolding encrypted_from
block_sealed u c p t a o out l e f g h =
    h
    ∙ ap (xor_bytes p) (g ∙ ap (λ (x : List ℕ). bytes_of (encrypt_from 0 u x)) (ap words_of f ∙ words_bytes t ∙ e))
    ∙ sym (ctr_block (encrypted_from u) (eight u) c p l)

-- of the arrays a the first n have been encrypted
encrypted_at : (u : Register) (c n : ℕ) (a rest : List (List ℕ)) (i : ℕ) → Counters c n a → n ≤ length a → i < n → block_of (map (encrypt_from 0 u) (take n a) ++ rest) i ≡ O (encrypted_from u) c i
unfolding block_of O encrypted_from
encrypted_at u c n a rest i e l h =
    let lt : length (take n a) ≡ n = length-take-le n a l in
    ap bytes_of
    (get_or-append (map (encrypt_from 0 u) (take n a)) rest [] i (omega (arith, length-map (take n a) (encrypt_from 0 u), lt))
    ∙ map_at [] [] (encrypt_from 0 u) (take n a) i (omega (arith, lt))
    ∙ ap (encrypt_from 0 u) (get_or-take n a i [] h ∙ e.at i h))

pub part_sealed : (u : Register) (c n : ℕ) (p : List ℕ) (a x rest : List (List ℕ)) (s out : List ℕ) → n ≡ (length p + 7) / 8 → n ≤ length a → Counters c n a
    → x ≡ map (encrypt_from 0 u) (take n a) → take (8 * n) s ≡ joined (block_of (x ++ rest)) n → out ≡ xor_bytes p s → out ≡ ctr (encrypted_from u) c p
part_sealed u c n p a x rest s out l m e f g h =
    h
    ∙ sym (xor_take (8 * n) p s (omega arith))
    ∙ ap (xor_bytes p) (g ∙ joined_same _ _ n (λ i j. ap (λ (y : List (List ℕ)). block_of (y ++ rest) i) f ∙ encrypted_at u c n a rest i e m j) ∙ ap (joined (O (encrypted_from u) c)) l)
    ∙ sym (ctr_stream (encrypted_from u) (eight u) c p)

-- ---- the walk: a bytes of the panel are done, and the rest is to be done from the counter c

module _ (u : Register) (first : ℕ) (p : List ℕ) (a c : ℕ) (out : List ℕ) (done : ctr (encrypted_from u) first p ≡ take a out ++ ctr (encrypted_from u) c (drop a p)) (same : length out ≡ length p) where
  -- 32 blocks more, which are y
  pub walk_more : (y out' : List ℕ) (c' : ℕ) → 256 ≤ length p - a → a ≤ length p → y ≡ ctr (encrypted_from u) c (take ((a + 256) - a) (drop a p)) → out' ≡ put out a y → c' ≡ (c + 32) % 2 ^ 64
      → ctr (encrypted_from u) first p ≡ take (a + 256) out' ++ ctr (encrypted_from u) c' (drop (a + 256) p)
  walk_more y out' c' l m e f g =
      let E : List ℕ → List ℕ = encrypted_from u in
      let q : y ≡ ctr (encrypted_from u) c (take 256 (drop a p)) = e ∙ ap (ctr (encrypted_from u) c) (part_span p a 256) in
      let n : length y ≡ 256 = ap length q ∙ size E (eight u) c (take 256 (drop a p)) ∙ length_part p a 256 (omega arith) in
      let t : take (a + 256) out' ≡ take a out ++ y = rw (f, ← n) (take_put out y a (omega arith)) in
      done
      ∙ ap (λ (s : List ℕ). take a out ++ s) (split E (eight u) 32 c (drop a p) (omega (arith, length-drop a p)))
      ∙ sym (append_assoc (take a out) _ _)
      ∙ ap₂ ◌++◌ (ap (λ (s : List ℕ). take a out ++ s) (sym q) ∙ sym t) (ap (ctr E (c + 32)) (drop-drop 256 a p) ∙ sym (ctr_wraps E c' (c + 32) (drop (a + 256) p) g))

  -- the rest, which is y
  pub walk_end : (y : List ℕ) → y ≡ ctr (encrypted_from u) c (take (length p - a) (drop a p)) → take a out ++ (y ++ drop (length out - a) (drop a out)) ≡ ctr (encrypted_from u) first p
  walk_end y e =
      let n : drop (length out - a) (drop a out) ≡ [] = drop_of_length-le (drop a out) {i = length out - a} (omega (arith, length-drop a out)) in
      let r : take (length p - a) (drop a p) ≡ drop a p = take_all (length p - a) (drop a p) (omega (arith, length-drop a p)) in
      rw (n, append-nil, e, r) (sym done)
