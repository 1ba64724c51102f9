use Rattle.prolog_terms.proofs.Ordered.{is_order, has_kinds}
use Rattle.prolog_terms.proofs.law.standard_order.Goals as goal

pub returns-clause-order : goal.returns-clause-order
returns-clause-order c = is_order

pub returns-clause-kinds : goal.returns-clause-kinds
returns-clause-kinds c = has_kinds
