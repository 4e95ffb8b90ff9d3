use Prim.Native.Nat.{◌+◌, ◌*◌, ◌/◌}
use mathlib.Core.Path.{◌≡◌, refl}
use native.Mathlib.Omega.{arith}
use lib.ListN.{length}
use Rattle.octets.proofs.Parts.{put_span}
use borrow.Author.Rules.{rules}
use Rattle.modes.proofs.Chaining.{chained_none, decrypt_blocks_at, decrypt_end}
use Rattle.modes.proofs.cbc_decrypt.Goals as goal

pub loop-i-init : goal.loop-i-init
loop-i-init c = search (chained_none, rules)

pub loop-i-preserved : goal.loop-i-preserved
loop-i-preserved c =
    let l = c.loop-i in (
      decrypt_blocks_at _ 24 _ _ _ _ _ _ _ _ (24 * l.i) (192 * l.i) (192 * l.i + 184) _ (omega arith) (omega arith) l.invariant.0 (omega arith) (search rules) l.invariant.2 c.decrypt_field.ensures (search rules) (omega arith) (omega arith) c.block_at-last.ensures (put_span l.out _ _ (192 * l.i) 192 refl (search rules)) l.invariant.1,
      search rules,
      search rules,
    )

pub loop-j-init : goal.loop-j-init
loop-j-init c =
    let l = c.loop-i in
    let e : length c.args.s.now / 8 / 24 ≡ l.i = omega arith in
    rw e (l.invariant.0, l.invariant.1, l.invariant.2)

pub loop-j-preserved : goal.loop-j-preserved
loop-j-preserved c =
    let l = c.loop-j in (
      decrypt_blocks_at _ 1 _ _ _ _ _ _ _ _ l.j (8 * l.j) (8 * l.j) _ refl refl l.invariant.0 (omega arith) (search rules) l.invariant.2 c.decrypt_one.ensures (search rules) (omega arith) (omega arith) c.block_at-last-in-loop-j.ensures (put_span l.out _ _ (8 * l.j) 8 refl (search rules)) l.invariant.1,
      search rules,
      search rules,
    )

pub returns : goal.returns
returns c = let l = c.loop-j in decrypt_end _ _ _ _ _ _ l.j l.invariant.0 (omega arith) (omega arith) l.invariant.1
