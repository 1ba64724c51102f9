use Rattle.std.proofs.Common.{sym, ap, ◌∙◌}
use Rattle.prolog_clauses.specs.Renaming as spec
use Rattle.prolog_clauses.proofs.Numberings.{place_is_position}
use Rattle.prolog_clauses.proofs.numbers.Numbers.number_of.Goals as goal

pub returns-clause-number : goal.returns-clause-number
returns-clause-number c = c.in_ok-number.ensures.index ∙ (sym (place_is_position c.args.variable c.self.inside.met.keys) ∙ ap (spec.place_of c.args.variable) c.self.view_is)
