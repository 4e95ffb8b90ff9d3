-- `panels::seal_part` meets its contract.
use Rattle.std.proofs.Common.{◌+◌, ◌/◌, length, sym, refl, arith, length-take-le, rules}
use Rattle.panels.proofs.Blocks.{part_sealed}
use Rattle.panels.proofs.seal_part.Goals as goal

pub slice_bounds-encrypt_all-end : goal.slice_bounds-encrypt_all-end
slice_bounds-encrypt_all-end c = let n = length c.args.p.now in sym (length-take-le ((n + 7) / 8) c.counter_blocks-a.result (omega arith))

pub returns : goal.returns
returns c =
    part_sealed _ _ _ _ _ _ _ _ _ refl (search rules) c.counter_blocks-a.ensures c.encrypt_all.ensures c.joined_blocks-s.ensures c.add_bytes.ensures
