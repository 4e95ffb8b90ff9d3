-- `running_order::put_short` meets its contract. A number below 100000 has at most five digits.
use Prim.Native.Nat.{ℕ}
use mathlib.Core.Path.{ap}
use native.Mathlib.Omega.{arith}
use borrow.Author.Rules.{rules}
use lib.ListN.{length, length-append}
use Rattle.listing.proofs.Decimal.{length_decimal}
use Rattle.running_order.proofs.put_short.Goals as goal
use Rattle.running_order.proofs.put_short.Goals.{then-x-lt1000, else-x-lt1000}

pub decimal-requires : goal.decimal-requires
decimal-requires c = (search rules, omega (arith, length_decimal 4 c.args.x c.requires.x_bound))

pub byte-requires : goal.byte-requires
byte-requires c =
    elim c.if-x-lt1000.branch [
      | then-x-lt1000 w ↦ (search rules, omega (arith, length_decimal 4 c.args.x c.requires.x_bound, ap length w.text-is, ap length w.put_three.ensures, length-append {A = ℕ}))
      | else-x-lt1000 w ↦ (search rules, omega (arith, length_decimal 4 c.args.x c.requires.x_bound, ap length w.text-is, ap length w.decimal.ensures, length-append {A = ℕ}))
    ]

pub returns-clause-short : goal.returns-clause-short
returns-clause-short c =
    elim c.if-x-lt1000.branch [
      | then-x-lt1000 w ↦ omega (arith, length_decimal 4 c.args.x c.requires.x_bound, ap length w.text-is, ap length w.put_three.ensures, ap length c.byte.ensures, length-append {A = ℕ})
      | else-x-lt1000 w ↦ omega (arith, length_decimal 4 c.args.x c.requires.x_bound, ap length w.text-is, ap length w.decimal.ensures, ap length c.byte.ensures, length-append {A = ℕ})
    ]
