-- A key mark is six bytes.
use Prim.Native.Nat.{ℕ}
use mathlib.Core.Path.{◌≡◌}
use native.Mathlib.Omega.{arith}
use lib.ListN.{length, length-append}
use Rattle.octets.specs.Bytes.{Bytes}
use Rattle.octets.proofs.EveryByte.{append_bytes, part_bytes}
use Rattle.octets.proofs.Numbers.{length_be, be_bytes}
use Rattle.octets.proofs.Parts.{length_part}
use Rattle.octets.specs.Block.{ByteBlock}
use Rattle.modes.specs.Cmac.{cmac}
use Rattle.modes.proofs.Authentication.{cmac_laws}
use Rattle.captions.specs.Captions.{Ciphers, mark_block, key_mark}
use Rattle.captions.specs.Claim.{Sound}

block : (n t v : ℕ) → ByteBlock (mark_block n t v)
unfolding mark_block
block n t v =
    record {
      size = simp (length-append, length_be);
      bytes = append_bytes (be_bytes 2 n) (append_bytes (be_bytes 1 t) (append_bytes (be_bytes 1 3) (append_bytes (be_bytes 2 v) (be_bytes 2 0))));
    }

module _ (x : Ciphers) (ok : Sound x) (n t v : ℕ) where
  tag : ByteBlock (cmac x.M (x.E (mark_block n t v)))
  tag = (cmac_laws x.M ok.checks).authenticates (x.E (mark_block n t v)) (ok.seals.encrypts (mark_block n t v) (block n t v)).bytes

  pub mark_six : length (key_mark x n t v) ≡ 6
  unfolding key_mark
  mark_six = length_part (cmac x.M (x.E (mark_block n t v))) 0 6 (omega (arith, tag.size))

  pub mark_bytes : Bytes (key_mark x n t v)
  unfolding key_mark
  mark_bytes = part_bytes 0 6 tag.bytes
