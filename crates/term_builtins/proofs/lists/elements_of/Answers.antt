use Rattle.std.proofs.Common.{List, sym, subst}
use Rattle.term_store.specs.declared.cell.Cell.{Cell}
use Rattle.term_store.specs.Terms.{term_of}
use Rattle.term_builtins.specs.Answers.{AreParts}
use Rattle.term_builtins.proofs.Listed.{IsPartlyTaken, taken-start, taken-more, taken-smaller, taken-end}
use Rattle.term_builtins.proofs.lists.elements_of.Goals as goal

pub loop-first-init : goal.loop-first-init
loop-first-init c =
    let s = c.args.store.now in let texts = c.args.names.now in
    subst (λ (cs : List Cell). IsPartlyTaken texts s (term_of texts s c.args.list) cs c.args.list) (sym c.new-cells.ensures.items) (taken-start texts s c.args.list c.requires.valid)

pub loop-first-smaller : goal.loop-first-smaller
loop-first-smaller c = taken-smaller c.args.names.now c.args.store.now c.loop-first.end c.in-Some.first c.in-Some.rest c.in-Some.ensures

pub loop-first-preserved : goal.loop-first-preserved
loop-first-preserved c =
    taken-more c.args.names.now c.args.store.now (term_of c.args.names.now c.args.store.now c.args.list) c.loop-first.cells.items c.push.new.self.items c.loop-first.end c.in-Some.first c.in-Some.rest
    c.loop-first.invariant c.in-Some.ensures c.in_ok-push.ensures.items

pub returns-clause-list : goal.returns-clause-list
returns-clause-list c =
    let s = c.args.store.now in let texts = c.args.names.now in
    taken-end texts s (term_of texts s c.args.list) c.loop-first.cells.items c.loop-first.end c.loop-first.invariant
    (subst (AreParts texts s (term_of texts s c.loop-first.end)) c.in_default.is c.parts.ensures)
