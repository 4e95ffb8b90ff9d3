-- Laws of the blocks of a text.
use mathlib.Core.Path.{◌≡◌, refl, ap, ◌∙◌}
use mathlib.Core.List.{List, [], map}
use Prim.Native.Nat.{ℕ, zero, suc, ◌+◌, ◌*◌, ◌<◌}
use native.Mathlib.Omega.{arith}
use lib.ListN.{get_or, length}
use lib.Seq.{drop-drop}
use Rattle.octets.specs.Bytes.{part}
use Rattle.octets.proofs.Each.{map_at}
use Rattle.cipher.specs.Field.{blocks}

pub length_blocks : (n : ℕ) (s : List ℕ) → length (blocks n s) ≡ n
unfolding blocks
length_blocks zero s = refl
length_blocks (suc n) s = ap suc (length_blocks n _)

pub blocks_at : (n : ℕ) (s : List ℕ) (i : ℕ) → i < n → get_or (blocks n s) i [] ≡ part s (8 * i) 8
unfolding blocks
blocks_at zero s i h = absurd (omega arith)
blocks_at (suc n) s zero h = refl
blocks_at (suc n) s (suc i) h = let q : 8 * suc i ≡ 8 + 8 * i = omega arith in rw (q, ← drop-drop (8 * i) 8 s) (blocks_at n _ i (omega arith))

pub map_blocks_at : (f : List ℕ → List ℕ) (n : ℕ) (s : List ℕ) (i : ℕ) → i < n → get_or (map f (blocks n s)) i [] ≡ f (part s (8 * i) 8)
map_blocks_at f n s i h = map_at [] [] f (blocks n s) i (omega (arith, length_blocks n s)) ∙ ap f (blocks_at n s i h)
