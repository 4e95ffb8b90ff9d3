-- `modes::decrypt_field` meets its contract. The loop's invariant: i blocks are decrypted, whatever cipher made d.
use mathlib.Core.Path.{refl, sym, ap, ◌∙◌}
use mathlib.Core.List.{[], List}
use Prim.Native.Nat.{ℕ}
use lib.ListN.{get_or}
use Rattle.cipher.proofs.Field.{map_blocks_at}
use Rattle.modes.specs.Cbc.{cbc_decrypt}
use Rattle.modes.proofs.Chaining.{chained_none, decrypt_more, decrypt_end}
use borrow.Author.Rules.{rules}
use Rattle.modes.proofs.decrypt_field.Goals as goal

pub loop-i-init : goal.loop-i-init
loop-i-init c = (λ D e. chained_none (cbc_decrypt D) 24 _ _ _, search rules, search rules)

pub loop-i-preserved : goal.loop-i-preserved
loop-i-preserved c =
    let l = c.loop-i in (
      λ D e. decrypt_more D 24 _ _ _ _ _ _ _ _ l.i (l.invariant.0 D e) (search rules) c.block_at-next.ensures (ap (λ (x : List (List ℕ)). get_or x l.i []) e ∙ map_blocks_at D 24 _ l.i (search rules) ∙ ap D (sym c.block_at-next.ensures)) refl c.put_plain.ensures.size c.put_plain.ensures.text l.invariant.2,
      l.invariant.1,
      search rules,
    )

pub returns : goal.returns
returns c = let l = c.loop-i in decrypt_end _ 24 _ _ _ _ l.i (l.invariant.0 _ c.decrypt_blocks-d.ensures) (search rules) c.loop-i-test.false l.invariant.2
