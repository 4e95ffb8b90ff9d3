-- `running_order::put_order` meets its contract.
use borrow.Author.Rules.{rules}
use borrow.Author.Tests.{not-false}
use Rattle.running_order.proofs.Whole.{unfit_put, sheet_header, sheet_of, unfit_terms_put, terms_of, open_days, no_date_put, order_made}
use Rattle.running_order.proofs.put_order.Goals as goal

pub returns-then-not-fit_sheet : goal.returns-then-not-fit_sheet
returns-then-not-fit_sheet c = search (unfit_put, rules)

pub sheet_shape-h-requires : goal.sheet_shape-h-requires
sheet_shape-h-requires c = search (sheet_header, not-false, rules)

pub returns-then-not-fit_terms : goal.returns-then-not-fit_terms
returns-then-not-fit_terms c = search (unfit_terms_put, rules)

pub returns-in_default : goal.returns-in_default
returns-in_default c = search (no_date_put, rules)

pub put_shown-requires : goal.put_shown-requires
put_shown-requires c = record { sheet_of = search (sheet_of, not-false, rules); terms_of = search (terms_of, not-false, rules); open_days = search (open_days, not-false, rules); start = search rules }

pub returns : goal.returns
returns c = search (order_made, rules)
