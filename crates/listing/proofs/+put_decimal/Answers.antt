-- `listing::put_decimal` meets its contract: x has one digit below ten, and one more than x / 10 from there on.
use native.Mathlib.Omega.{arith}
use borrow.Author.Rules.{rules}
use Rattle.listing.proofs.Decimal.{length_decimal_pos, length_decimal_more}
use Rattle.listing.proofs.Appending.{append_digit, append_digits}
use Rattle.listing.proofs.+put_decimal.Goals as goal

pub bounds-text-at : goal.bounds-text-at
bounds-text-at t c = omega (arith, length_decimal_pos c.args.x)

pub returns-then-x-lt10 : goal.returns-then-x-lt10
returns-then-x-lt10 t c = search (append_digit, rules)

pub put_decimal-last-requires : goal.put_decimal-last-requires
put_decimal-last-requires t c = (search rules, omega (arith, length_decimal_more c.args.x c.if-x-lt10.false))

pub bounds-text-last : goal.bounds-text-last
bounds-text-last t c = omega (arith, length_decimal_more c.args.x c.if-x-lt10.false)

pub overflow_add-result-2 : goal.overflow_add-result-2
overflow_add-result-2 t c = record { fits = omega (arith, length_decimal_more c.args.x c.if-x-lt10.false) }

pub returns : goal.returns
returns t c = search (append_digits, rules)
