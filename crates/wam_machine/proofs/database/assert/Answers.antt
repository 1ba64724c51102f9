use Rattle.std.proofs.Common.{sym, ap, ◌∙◌}
use Rattle.std.proofs.lemmas.Result.{on_ok_weaker}
use Rattle.prolog_terms.specs.Tree.{Tree}
use Rattle.prolog_terms.specs.Faults.{fault_tree}
use Rattle.prolog_terms.specs.declared.entry.Indicator.{Indicator}
use Rattle.prolog_clauses.specs.Formed.{clause_of}
use Rattle.prolog_clauses.proofs.Laws.{made_clause}
use Rattle.wam_machine.specs.Terms.{IsBuilt, built}
use Rattle.wam_machine.proofs.Begins.{grows_refl}
use Rattle.wam_machine.proofs.Adding.{formed_refused, formed_adds}
use Rattle.wam_machine.proofs.database.assert.Goals as goal

pub read_back-requires-clause-valid : goal.read_back-requires-clause-valid
unfolding IsBuilt
read_back-requires-clause-valid g c = c.requires.term

pub add_clause-requires-clause-clause : goal.add_clause-requires-clause-clause
add_clause-requires-clause-clause g c = made_clause c.in_ok-copy.copy c.in-Clause.clause (sym c.in_ok-clause.ensures ∙ c.in-Clause.is)

pub returns-in-Clause-clause-asks : goal.returns-in-Clause-clause-asks
unfolding built
returns-in-Clause-clause-asks g c =
    on_ok_weaker c.add_clause.result
    (formed_adds (g.B.Base.view c.args.base.now) (g.B.Base.view c.add_clause.new.base) c.args.host.now c.args.machine.now c.add_clause.new.machine c.args.end
    (built c.args.machine.now.terms c.args.term) c.in-Clause.clause
    (ap (λ (t : Tree). clause_of t) (sym c.in_ok-copy.ensures) ∙ (sym c.in_ok-clause.ensures ∙ c.in-Clause.is)))
    c.add_clause.ensures.asks

pub returns-in_err-at-in-Refused-clause-seen : goal.returns-in_err-at-in-Refused-clause-seen
returns-in_err-at-in-Refused-clause-seen g c = grows_refl _ c.requires.sound

pub returns-in_err-fault_term-in-Refused-clause-seen : goal.returns-in_err-fault_term-in-Refused-clause-seen
returns-in_err-fault_term-in-Refused-clause-seen g c = grows_refl _ c.requires.sound

pub returns-clause-seen : goal.returns-clause-seen
returns-clause-seen g c = grows_refl _ c.requires.sound

pub returns-clause-asks : goal.returns-clause-asks
unfolding built
returns-clause-asks g c =
    formed_refused (g.B.Base.view c.args.base.now) c.args.host.now c.args.machine.now c.args.end (built c.args.machine.now.terms c.args.term) c.in-Refused.fault c.in_ok-fault_term-in-Refused.field-0
    (ap (λ (t : Tree). clause_of t) (sym c.in_ok-copy.ensures) ∙ (sym c.in_ok-clause.ensures ∙ c.in-Refused.is))
    (c.in_ok-fault_term-in-Refused.ensures ∙ ap (λ (i : Indicator). fault_tree c.in-Refused.fault i) c.in_ok-at-in-Refused.ensures) c.requires.front
