-- `panels::panel` meets its contract.
use borrow.Author.Tests.{not-false}
use Rattle.std.proofs.Common.{rules}
use Rattle.panels.proofs.Calls.{round_0, wrong_key_lem, wrong_span, overlong, accepted}
use Rattle.panels.proofs.panel.Goals as goal

pub returns-then-not-key_length : goal.returns-then-not-key_length
returns-then-not-key_length c = search (wrong_key_lem)

pub returns-then-out-panel : goal.returns-then-out-panel
returns-then-out-panel c = search (wrong_span)

pub returns-then-panel-gt65536 : goal.returns-then-panel-gt65536
returns-then-panel-gt65536 c = search (overlong)

pub counter_mode-requires : goal.counter_mode-requires
counter_mode-requires c = search (round_0, rules)

pub returns : goal.returns
returns c = search (accepted, not-false, rules)
