-- `part` hands `chain_next` what it requires. The loop's invariant: c is C_j.
use borrow.Author.Rules.{rules}
use Rattle.modes.proofs.Authentication.{block_inside, block_in_part, chain_again, chain_end}
use Rattle.show_steps.proofs.part.Goals as goal

pub block_at-requires : goal.block_at-requires
block_at-requires g c = search (block_inside, rules)

pub chain_next-next-requires : goal.chain_next-next-requires
chain_next-next-requires g c = record { i_nonzero = (search rules, search (block_in_part, rules)); c_value = search (chain_again, rules) }

pub returns : goal.returns
returns g c = search (chain_end, rules)
