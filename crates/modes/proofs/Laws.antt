-- The modes keep what they promise over any invertible cipher.
use Prim.Native.Nat.{ℕ}
use mathlib.Core.List.{List}
use Rattle.octets.specs.Block.{Invertible}
use Rattle.modes.specs.Laws.{Modes}
use Rattle.modes.proofs.Chaining.{cbc_laws}
use Rattle.modes.proofs.Authentication.{cmac_laws}

pub modes_laws : (E D : List ℕ → List ℕ) → Invertible E D → Modes E D
modes_laws E D promise = record { cbc = cbc_laws promise; authentication = cmac_laws E promise.encrypts }
