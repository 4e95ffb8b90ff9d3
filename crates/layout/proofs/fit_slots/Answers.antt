-- `layout::fit_slots` meets its contract.
use mathlib.Core.Path.{refl, ap, ◌∙◌}
use Prim.Native.Nat.{ℕ}
use native.Mathlib.Nat.{sub-zero}
use borrow.Author.Rules.{rules}
use Rattle.std.proofs.lemmas.Iterator.{YieldsList-from_range}
use Rattle.std.proofs.lemmas.Iterator.Search.{all_from_yields_List}
use Rattle.octets.specs.Bytes.{all_below}
use Rattle.layout.specs.Layout.{edition_of, fit_slot}
use Rattle.layout.proofs.Slots.{range_all, sheet_slots}
use Rattle.layout.proofs.fit_slots.Goals as goal

pub returns : goal.returns
returns c = all_from_yields_List (fit_slot (edition_of c.args.s.now) c.args.s.now) _ _ _ c.all.ensures.ran (YieldsList-from_range 0 c.args.h.slots c.args.h.slots refl (sub-zero _)) (λ x b q k. search rules) ∙ range_all _ c.args.h.slots ∙ ap (λ (n : ℕ). all_below n (fit_slot (edition_of c.args.s.now) c.args.s.now)) (sheet_slots c.args.s.now c.args.h c.requires.sheet_of)
