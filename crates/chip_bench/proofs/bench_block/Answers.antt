use borrow.Author.Tests.{not-false}
use Rattle.chip_bench.proofs.Calls.{wrong_key_lem, wrong_array, wrong_output, no_round, accepted}
use borrow.Author.Rules.{rules}
use Rattle.chip_bench.proofs.bench_block.Goals as goal

pub returns-then-not-key_length : goal.returns-then-not-key_length
returns-then-not-key_length c = search (wrong_key_lem)

pub returns-then-wanted-ne8 : goal.returns-then-wanted-ne8
returns-then-wanted-ne8 c = search (wrong_array)

pub returns-then-out-ne8 : goal.returns-then-out-ne8
returns-then-out-ne8 c = search (wrong_output)

pub returns-then-round-gt12 : goal.returns-then-round-gt12
returns-then-round-gt12 c = search (no_round)

pub returns : goal.returns
returns c = search (accepted, not-false, rules)
