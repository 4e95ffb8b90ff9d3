-- The vectors hold: encryption by computing, decryption since it undoes encryption.
use mathlib.Core.Path.{◌≡◌, refl, sym, ap, ◌∙◌}
use mathlib.Core.List.{List, [], ◌∷◌}
use mathlib.Core.Logic.{inl, inr}
use Prim.Native.Nat.{ℕ, zero, suc}
use lib.Dec.{lit<}
use lib.ListN.{length}
use Rattle.octets.specs.Bytes.{Bytes, none, more, be, number, zeros}
use Rattle.octets.specs.Block.{ByteBlock}
use Rattle.octets.specs.Clauses.{OneOf}
use Rattle.octets.proofs.EveryByte.{take_bytes}
use Rattle.octets.proofs.Zeros.{zeros_bytes}
use Rattle.present_rounds.specs.Digits.{sum}
use Rattle.present_rounds.specs.Layers.{boxes, sbox, s_box_layer, place, p_layer}
use Rattle.present_schedule.specs.Schedule.{rotated, boxed, update80, update128, register, round_key80, round_key128}
use Rattle.present.specs.Present.{round, after, encrypt}
use Rattle.present.specs.Bytes.{round_keys, encrypt_bytes, decrypt_bytes}
use Rattle.present.specs.Vectors.{ones, rising, Vector, Vectors}
use Rattle.present.proofs.ByteBlocks.{present}

ones_bytes : (n : ℕ) → Bytes (ones n)
ones_bytes zero = none
ones_bytes (suc n) = more (lit< tt) (ones_bytes n)

zero_block : ByteBlock (zeros 8)
unfolding zeros
zero_block = record { size = refl; bytes = unfold zeros in zeros_bytes 8 }

ones_block : ByteBlock (ones 8)
ones_block = record { size = refl; bytes = ones_bytes 8 }

sixteen_bytes : Bytes (rising 16)
sixteen_bytes =
    more (lit< tt) (more (lit< tt) (more (lit< tt) (more (lit< tt) (more (lit< tt) (more (lit< tt) (more (lit< tt) (more (lit< tt)
    (more (lit< tt) (more (lit< tt) (more (lit< tt) (more (lit< tt) (more (lit< tt) (more (lit< tt) (more (lit< tt) (more (lit< tt)
    none)))))))))))))))

rising_block : ByteBlock (0x01 ∷ 0x23 ∷ 0x45 ∷ 0x67 ∷ 0x89 ∷ 0xAB ∷ 0xCD ∷ 0xEF ∷ [])
rising_block =
    record {
      size = refl;
      bytes = more (lit< tt) (more (lit< tt) (more (lit< tt) (more (lit< tt) (more (lit< tt) (more (lit< tt) (more (lit< tt) (more (lit< tt) none)))))));
    }

vector : {k b : List ℕ} (c : List ℕ) → Bytes k → OneOf (10 ∷ 16 ∷ []) (length k) → ByteBlock b → encrypt_bytes k b ≡ c → Vector k b c
vector {k} {b} c t h l e = record { encrypts = e; decrypts = ap (decrypt_bytes k) (sym e) ∙ (present.claims k t h).decrypt_encrypt b l }

pub vectors : Vectors
unfolding be number zeros sum boxes sbox s_box_layer place p_layer round after encrypt rotated boxed update80 update128 register round_key80 round_key128 OneOf round_keys encrypt_bytes
vectors =
    record {
      zero_zero_80 = vector _ (zeros_bytes 10) (inl refl) zero_block refl;
      ones_zero_80 = vector _ (ones_bytes 10) (inl refl) zero_block refl;
      zero_ones_80 = vector _ (zeros_bytes 10) (inl refl) ones_block refl;
      ones_ones_80 = vector _ (ones_bytes 10) (inl refl) ones_block refl;
      zero_zero_128 = vector _ (zeros_bytes 16) (inr refl) zero_block refl;
      ones_zero_128 = vector _ (ones_bytes 16) (inr refl) zero_block refl;
      zero_ones_128 = vector _ (zeros_bytes 16) (inr refl) ones_block refl;
      ones_ones_128 = vector _ (ones_bytes 16) (inr refl) ones_block refl;
      rising_80 = vector _ (take_bytes 10 sixteen_bytes) (inl refl) rising_block refl;
      rising_128 = vector _ sixteen_bytes (inr refl) rising_block refl;
    }
