use Rattle.std.proofs.Common.{refl, sym, subst, true, Option}
use Rattle.std.specs.Prelude.{option_map}
use Rattle.term_store.specs.declared.cell.Cell.{Cell}
use Rattle.term_store.proofs.Laws.{longer-itself}
use Rattle.wam_machine.specs.Sweeps.{IsSwept, IsMeant}
use Rattle.wam_machine.specs.Terms.{IsBuilt, said, built}
use Rattle.wam_machine.proofs.sweeping.is_meant.Goals as goal

pub compare-requires-clause-goal : goal.compare-requires-clause-goal
compare-requires-clause-goal g c = subst (IsSwept (IsBuilt c.args.terms.now)) c.in-Some.is c.requires.goal

pub returns-in_ok-met-in-Some-clause-meant : goal.returns-in_ok-met-in-Some-clause-meant
returns-in_ok-met-in-Some-clause-meant g c =
    let t = c.args.terms.now in
    subst (λ (o : Option Cell). IsMeant (option_map (built t) o) c.args.clause.now (said t) (said c.compare.new.terms) c.in_ok-met-in-Some.met) (sym c.in-Some.is) c.in_ok-met-in-Some.ensures.compared

pub returns-in-None-clause-names : goal.returns-in-None-clause-names
returns-in-None-clause-names g c = longer-itself c.args.terms.now.names

pub returns-in-None-clause-cells : goal.returns-in-None-clause-cells
returns-in-None-clause-cells g c = λ d k. (k, refl)

pub returns-in-None-clause-meant : goal.returns-in-None-clause-meant
returns-in-None-clause-meant g c =
    let t = c.args.terms.now in
    subst (λ (o : Option Cell). IsMeant (option_map (built t) o) c.args.clause.now (said t) (said t) true) (sym c.in-None.is) (refl, refl)
