-- `listing::Text::number` meets its contract.
use Prim.Native.Nat.{ℕ}
use mathlib.Core.Path.{ap}
use lib.ListN.{length, length-append}
use native.Mathlib.Omega.{arith}
use borrow.Author.Rules.{rules}
use Rattle.listing.proofs.Decimal.{length_decimal}
use Rattle.listing.proofs.Text.number.Goals as goal

pub decimal-requires : goal.decimal-requires
decimal-requires g c = (search rules, omega (arith, length_decimal 9 c.args.x c.requires.x_bound))

pub byte-requires : goal.byte-requires
byte-requires g c = (search rules, omega (arith, length_decimal 9 c.args.x c.requires.x_bound, ap length c.decimal.ensures, length-append {A = ℕ}))

pub returns-clause-short : goal.returns-clause-short
returns-clause-short g c =
    omega (arith, length_decimal 9 c.args.x c.requires.x_bound, ap length c.decimal.ensures, ap length c.byte.ensures, length-append {A = ℕ})
