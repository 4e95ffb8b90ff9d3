-- `slots::seal::put_mark` meets its contract.
use borrow.Author.Rules.{rules}
use Rattle.layout.specs.Layout.{sheet_size, mark_at}
use Rattle.slots.proofs.Sealing.{mark_put}
use Rattle.slots.proofs.seal.put_mark.Goals as goal

pub copy_part-requires : goal.copy_part-requires
copy_part-requires c = unfold sheet_size mark_at in search rules

pub overflow_add-a : goal.overflow_add-a
overflow_add-a c = unfold sheet_size mark_at in search rules

pub copy_part-requires-2 : goal.copy_part-requires-2
copy_part-requires-2 c = unfold sheet_size mark_at in search rules

pub returns : goal.returns
returns c = search (mark_put, rules)
