use Rattle.std.proofs.Common.{◌≡◌, sym, ap, ◌∙◌, true, false, Option}
use Rattle.std.specs.Prelude.{is_some}
use Rattle.prolog_terms.specs.declared.entry.Indicator.{Indicator}
use Rattle.wam_machine.proofs.Adding.{reserved_stays}
use Rattle.wam_machine.proofs.database.add_clause.Goals as goal

pub unreachable-requires : goal.unreachable-requires
unreachable-requires g c =
    let h : false ≡ true = sym (ap (λ (o : Option Indicator). is_some o) (sym c.in_ok-term_indicator.ensures ∙ c.in-None.is)) ∙ c.requires.clause.head in
    absurd (cc)

pub add_named-requires-clause-headed : goal.add_named-requires-clause-headed
add_named-requires-clause-headed g c = sym c.in_ok-term_indicator.ensures ∙ c.in-Some.is

pub returns-then-is_reserved-clause-asks : goal.returns-then-is_reserved-clause-asks
returns-then-is_reserved-clause-asks g c =
    reserved_stays (g.B.Base.view c.args.base.now) c.args.host.now c.args.machine.now c.args.end c.args.clause.now c.in-Some.indicator c.in_ok-unchangeable-in-Some.field-0
    (sym c.in_ok-term_indicator.ensures ∙ c.in-Some.is) (sym c.is_reserved.ensures ∙ c.if-is_reserved.true) c.in_ok-unchangeable-in-Some.ensures c.requires.front
