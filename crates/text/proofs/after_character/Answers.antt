-- `text::after_character` meets its contract.
use Rattle.std.proofs.Common.{◌<◌, arith}
use Rattle.std.proofs.lemmas.Grind.{common_steps}
use borrow.Author.Rules.{rules}
use Rattle.text.proofs.Ways.{by_none, cut_off, second_outside, third_outside, fourth_outside, no_other, passes_two, passes_three, passes_four}
use Rattle.text.proofs.after_character.Goals as goal
use Rattle.text.proofs.after_character.Goals.{in_default-via-in-1+then-ahead-lt1, in_default-via-in-1-len1-up+else-is_second, in_default-via-in-2+then-this-lt2, in_default-via-in-2-len2-up+then-is_second-2+else-is_tail, in_default-via-in-2-len2-up+else-is_second-2, in_default-via-in-3+then-this-lt3, in_default-via-in-3-len3-up+then-is_second-3+then-is_tail-2+else-is_tail-3, in_default-via-in-3-len3-up+then-is_second-3+else-is_tail-2, in_default-via-in-3-len3-up+else-is_second-3, in_default-via-in_default}

pub returns-in_err-following : goal.returns-in_err-following
returns-in_err-following c = search (by_none, rules)

pub returns-in_default : goal.returns-in_default
returns-in_default c =
    let h : c.args.x < 256 = search rules in
    let e = c.in_ok-following.ensures in
    elim c.in_default.branch [
      | in_default-via-in-1+then-ahead-lt1 w ↦ cut_off _ _ h _ e (grind (arith, common_steps))
      | in_default-via-in-1-len1-up+else-is_second w ↦ second_outside _ _ h _ e (omega arith) (omega arith) w.if-is_second.ensures
      | in_default-via-in-2+then-this-lt2 w ↦ cut_off _ _ h _ e (grind (arith, common_steps))
      | in_default-via-in-2-len2-up+then-is_second-2+else-is_tail w ↦ third_outside _ _ h _ e (omega arith) (omega arith) w.if-is_tail.ensures
      | in_default-via-in-2-len2-up+else-is_second-2 w ↦ second_outside _ _ h _ e (omega arith) (omega arith) w.if-is_second-2.ensures
      | in_default-via-in-3+then-this-lt3 w ↦ cut_off _ _ h _ e (grind (arith, common_steps))
      | in_default-via-in-3-len3-up+then-is_second-3+then-is_tail-2+else-is_tail-3 w ↦ fourth_outside _ _ h _ e (omega arith) (omega arith) w.if-is_tail-3.ensures
      | in_default-via-in-3-len3-up+then-is_second-3+else-is_tail-2 w ↦ third_outside _ _ h _ e (omega arith) (omega arith) w.if-is_tail-2.ensures
      | in_default-via-in-3-len3-up+else-is_second-3 w ↦ second_outside _ _ h _ e (omega arith) (omega arith) w.if-is_second-3.ensures
      | in_default-via-in_default w ↦ no_other _ _ _ c.requires e (λ q. omega arith) (λ q. omega arith) (λ q. omega arith)
    ]

pub returns-in-1-len1-up : goal.returns-in-1-len1-up
returns-in-1-len1-up c =
    passes_two _ _ (search rules) _ c.in_ok-following.ensures c.if-is_second.ensures c.in-1-len1-up.is-0 c.in-1-len1-up.len_at_least

pub returns-in-2-len2-up : goal.returns-in-2-len2-up
returns-in-2-len2-up c =
    passes_three _ _ (search rules) _ c.in_ok-following.ensures c.if-is_second-2.ensures c.if-is_tail.ensures c.in-2-len2-up.is-0 c.in-2-len2-up.len_at_least

pub returns-in-3-len3-up : goal.returns-in-3-len3-up
returns-in-3-len3-up c =
    passes_four _ _ (search rules) _ c.in_ok-following.ensures c.if-is_second-3.ensures c.if-is_tail-2.ensures c.if-is_tail-3.ensures c.in-3-len3-up.is-0 c.in-3-len3-up.len_at_least
