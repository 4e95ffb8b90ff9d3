-- Lists of which every element is a byte: joined, cut, changed in part, and read at a place.
use mathlib.Core.List.{List, [], ◌∷◌, ◌++◌}
use Prim.Native.Nat.{ℕ, zero, suc, ◌+◌, ◌<◌}
use native.Mathlib.Omega.{arith}
use lib.Dec.{lit<}
use lib.ListN.{length, get_or, take, drop, set}
use Rattle.octets.specs.Bytes.{Bytes, none, more, part, put}

pub head_byte : {x : ℕ} {s : List ℕ} → Bytes (x ∷ s) → x < 256
head_byte (more h b) = h

pub tail_bytes : {x : ℕ} {s : List ℕ} → Bytes (x ∷ s) → Bytes s
tail_bytes (more h b) = b

pub append_bytes : {s t : List ℕ} → Bytes s → Bytes t → Bytes (s ++ t)
append_bytes none c = c
append_bytes (more h b) c = more h (append_bytes b c)

pub take_bytes : (n : ℕ) {s : List ℕ} → Bytes s → Bytes (take n s)
take_bytes zero b = none
take_bytes (suc n) none = none
take_bytes (suc n) (more h b) = more h (take_bytes n b)

pub drop_bytes : (n : ℕ) {s : List ℕ} → Bytes s → Bytes (drop n s)
drop_bytes zero b = b
drop_bytes (suc n) none = none
drop_bytes (suc n) (more h b) = drop_bytes n b

pub part_bytes : (a n : ℕ) {s : List ℕ} → Bytes s → Bytes (part s a n)
part_bytes a n b = take_bytes n (drop_bytes a b)

pub put_bytes : (a : ℕ) {s xs : List ℕ} → Bytes s → Bytes xs → Bytes (put s a xs)
unfolding put
put_bytes a {s} {xs} b c = append_bytes (take_bytes a b) (append_bytes c (drop_bytes (a + length xs) b))

pub set_bytes : (i v : ℕ) {s : List ℕ} → v < 256 → Bytes s → Bytes (set s i v)
set_bytes i v l none = none
set_bytes zero v l (more h b) = more l b
set_bytes (suc i) v l (more h b) = more h (set_bytes i v l b)

-- also past the end, where the element read is 0
pub bytes_at : (s : List ℕ) (i : ℕ) → Bytes s → get_or s i 0 < 256
bytes_at [] i b = lit< tt
bytes_at (x ∷ s) zero (more h b) = h
bytes_at (x ∷ s) (suc i) (more h b) = bytes_at s i b

-- a list is bytes if each element is below 256
pub bytes_of : (s : List ℕ) → ((i : ℕ) → i < length s → get_or s i 0 < 256) → Bytes s
bytes_of [] h = none
bytes_of (x ∷ s) h = more (h 0 (omega arith)) (bytes_of s (λ i l. h (suc i) (omega arith)))
