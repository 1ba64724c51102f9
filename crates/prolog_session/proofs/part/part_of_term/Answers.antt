use Rattle.std.proofs.Common.{sym, ◌∙◌, subst}
use Rattle.std.proofs.lemmas.Result.{IfOk-weaker}
use Rattle.prolog_clauses.specs.declared.clause.Formed.TheVariants.{Clause as Made}
use Rattle.prolog_session.specs.Load.{IsReadyPart}
use Rattle.prolog_session.proofs.Loads.{ready-formed}
use Rattle.prolog_session.proofs.part.part_of_term.Goals as goal

pub returns-in-Clause-clause-ready : goal.returns-in-Clause-clause-ready
returns-in-Clause-clause-ready c =
    let ready = ready-formed c.args.line c.args.term.now (Made c.in-Clause.clause) (sym c.in_ok-clause.ensures ∙ c.in-Clause.is) in
    IfOk-weaker c.part_of_clause.result _ _ (λ p h. subst IsReadyPart (sym h) ready) c.part_of_clause.ensures
