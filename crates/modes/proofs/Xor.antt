-- Laws of the exclusive or of bytes.
use mathlib.Core.Path.{◌≡◌, refl, sym, ap, ap₂, ◌∙◌}
use mathlib.Core.List.{List, [], ◌∷◌}
use Prim.Native.Nat.{ℕ, zero, suc, ◌<◌}
use native.Mathlib.Omega.{arith}
use lib.Bits.{bit_xor, xor_lt}
use lib.ListN.{length, get_or}
use Rattle.octets.specs.Bytes.{Bytes, none, more}
use Rattle.std.proofs.lemmas.List.{ext_get_or}
use Rattle.octets.proofs.Xor.{xor_cancel}
use Rattle.octets.specs.Block.{ByteBlock}
use Rattle.modes.specs.Xor.{xor_bytes}

pub length_xor : (x y : List ℕ) → length x ≡ length y → length (xor_bytes x y) ≡ length x
unfolding xor_bytes
length_xor [] y h = refl
length_xor (a ∷ x) [] h = sym h
length_xor (a ∷ x) (b ∷ y) h = ap suc (length_xor x y (omega arith))

xor_at : (x y : List ℕ) (i : ℕ) → i < length x → i < length y → get_or (xor_bytes x y) i 0 ≡ bit_xor (get_or x i 0) (get_or y i 0)
unfolding xor_bytes
xor_at [] y i h g = absurd (omega arith)
xor_at (a ∷ x) [] i h g = absurd (omega arith)
xor_at (a ∷ x) (b ∷ y) zero h g = refl
xor_at (a ∷ x) (b ∷ y) (suc i) h g = xor_at x y i (omega arith) (omega arith)

-- two blocks, byte by byte
pub xor_eight : (x y z : List ℕ) → length x ≡ 8 → length y ≡ 8 → length z ≡ 8 → ((i : ℕ) → i < 8 → get_or z i 0 ≡ bit_xor (get_or x i 0) (get_or y i 0)) → z ≡ xor_bytes x y
xor_eight x y z e f g h =
    ext_get_or 0 z (xor_bytes x y) (g ∙ sym (length_xor x y (e ∙ sym f) ∙ e)) (λ i l. h i (omega arith) ∙ sym (xor_at x y i (omega arith) (omega arith)))

pub xor_bytes_lem : {x y : List ℕ} → Bytes x → Bytes y → Bytes (xor_bytes x y)
unfolding xor_bytes
xor_bytes_lem none c = none
xor_bytes_lem (more h b) none = none
xor_bytes_lem (more {x} h b) (more {x = y} g c) = more (xor_lt 8 x y h g) (xor_bytes_lem b c)

-- bytes added twice are gone
pub xor_xor : (x y : List ℕ) → length x ≡ length y → xor_bytes (xor_bytes x y) y ≡ x
unfolding xor_bytes
xor_xor [] y h = refl
xor_xor (a ∷ x) [] h = absurd (omega arith)
xor_xor (a ∷ x) (b ∷ y) h = ap₂ (λ (z : ℕ) (s : List ℕ). z ∷ s) (xor_cancel a b) (xor_xor x y (omega arith))

pub xor_block : {x y : List ℕ} → ByteBlock x → ByteBlock y → ByteBlock (xor_bytes x y)
xor_block {x} {y} h g = record { size = length_xor x y (h.size ∙ sym g.size) ∙ h.size; bytes = xor_bytes_lem h.bytes g.bytes }
