use Rattle.std.proofs.Common.{◌∙◌, ap, sym, subst, All, List}
use Rattle.std.specs.Prelude.{IsTrue}
use Rattle.prolog_terms.specs.Substitutions.{occurs}
use Rattle.prolog_terms.specs.declared.shown.Shown.{Shown}
use Rattle.wam_machine.specs.Terms.{Said}
use Rattle.wam_machine.specs.Machine.{shown_list}
use Rattle.wam_machine.proofs.BeyondNodes.{shown_below}
use Rattle.wam_machine.proofs.FirstTerms.{as_wide, still_free, goal_stays, cell_stays, begun_built, begun_stands, said_first, none_kept}
use Rattle.wam_machine.proofs.shown.begin.Goals as goal

pub list_of-requires-clause-shown : goal.list_of-requires-clause-shown
list_of-requires-clause-shown g c =
    shown_below c.args.goal.now.term c.items.result.now c.put.new.self.variables
    (as_wide c.new-store.result c.fresh.new.self c.put.new.self c.in_ok-beyond.beyond c.new-store.ensures c.in_ok-_first.ensures.ok c.in_ok-first.ensures.variables ∙ c.in_ok-beyond.ensures)
    (subst (λ (shown : List Shown). All (λ (s : Shown). IsTrue (occurs s.var c.args.goal.now.term)) shown) (sym c.items.ensures) c.requires.shown)

pub begin_with-requires-clause-goal : goal.begin_with-requires-clause-goal
begin_with-requires-clause-goal g c =
    begun_built c.begun-terms.result c.list_of.new.names c.list_of.new.store c.in_ok-first.first c.begun-terms.ensures.store c.begun-terms.ensures.names
    (cell_stays c.put.new.self c.list_of.new.store c.put.new.names c.list_of.new.names c.in_ok-first.first c.in_ok-shown.ensures.later c.in_ok-shown.ensures.texts c.in_ok-first.ensures.cell)

pub let_go-requires : goal.let_go-requires
let_go-requires g c = none_kept c.begin_with.new.terms (c.in-Err.ensures.err ∙ ap (λ (t : Said g.row.C.Denot). t.stack) c.begun-terms.ensures.said)

pub returns-in-Ok-clause-said : goal.returns-in-Ok-clause-said
returns-in-Ok-clause-said g c =
    let free = c.in_ok-shown.ensures.bindings ∙ still_free c.new-store.result c.fresh.new.self c.put.new.self c.in_ok-beyond.beyond c.new-store.ensures c.in_ok-_first.ensures.ok c.in_ok-first.ensures.bindings in
    said_first c.args.goal.now c.list_of.new.names c.list_of.new.store c.in_ok-shown.shown _ _ _ c.begun-terms.ensures.said c.in-Ok.ensures.said
    (begun_stands c.begun-terms.result c.list_of.new.names c.list_of.new.store c.in_ok-first.first c.begun-terms.ensures.store c.begun-terms.ensures.names c.args.goal.now.term
    (goal_stays c.args.goal.now.term c.put.new.self c.list_of.new.store c.put.new.names c.list_of.new.names c.in_ok-first.first c.known.ensures c.in_ok-first.ensures.named
    c.in_ok-shown.ensures.later c.in_ok-shown.ensures.texts c.in_ok-first.ensures.cell c.in_ok-first.ensures.term)
    free)
    free
    (c.in_ok-shown.ensures.variables
    ∙ as_wide c.new-store.result c.fresh.new.self c.put.new.self c.in_ok-beyond.beyond c.new-store.ensures c.in_ok-_first.ensures.ok c.in_ok-first.ensures.variables ∙ c.in_ok-beyond.ensures)
    (c.in_ok-shown.ensures.term ∙ ap shown_list c.items.ensures)
