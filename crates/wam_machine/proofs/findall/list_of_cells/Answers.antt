use Rattle.std.proofs.Common.{refl, ap, ◌∙◌, ◌-◌, ◌<◌, length, arith}
use Rattle.prolog_terms.specs.Tree.{atom}
use Rattle.term_store.specs.declared.cell.Cell.TheVariants.{Atom}
use Rattle.wam_machine.proofs.Built.{atom-built, atom-term}
use Rattle.wam_machine.proofs.Gathered.{same_place, listing-first, pair_built, listing-next, listing-done}
use Rattle.wam_machine.proofs.findall.list_of_cells.Goals as goal

pub loop-left-init : goal.loop-left-init
loop-left-init g c =
    listing-first c.args.terms.now c.args.cells.now c.word.new.terms (Atom c.in_ok-end.end) (length c.args.cells.now) refl c.in_ok-end.ensures.grown (atom-built c.word.new.terms c.in_ok-end.end c.in_ok-end.ensures.inside)
    (atom-term c.word.new.terms c.in_ok-end.end ∙ ap atom c.in_ok-end.ensures.text)

pub loop-left-preserved : goal.loop-left-preserved
loop-left-preserved g c =
    let cells = c.args.cells.now in
    let a = c.loop-left.invariant.within in
    let b = c.loop-left-test.true in
    let low : c.loop-left.left - 1 < length cells = omega (arith, a, b) in
    listing-next c.args.terms.now cells c.loop-left.terms c.build.new.terms c.loop-left.list c.in_ok-list.list c.loop-left.left (c.loop-left.left - 1) _ c.loop-left.invariant c.requires.cells b refl
    (same_place cells (c.loop-left.left - 1) _ low) c.in_ok-list.ensures.grown c.in_ok-list.ensures.cell c.in_ok-list.ensures.term

pub build-requires-clause-valid : goal.build-requires-clause-valid
build-requires-clause-valid g c =
    let cells = c.args.cells.now in
    let a = c.loop-left.invariant.within in
    let b = c.loop-left-test.true in
    let low : c.loop-left.left - 1 < length cells = omega (arith, a, b) in
    pair_built c.args.terms.now cells c.loop-left.terms c.loop-left.list c.loop-left.left (c.loop-left.left - 1) _ c.loop-left.invariant c.requires.cells low (same_place cells (c.loop-left.left - 1) _ low)

pub returns-clause-term : goal.returns-clause-term
returns-clause-term g c = listing-done c.args.terms.now c.args.cells.now c.loop-left.terms c.loop-left.list c.loop-left.left c.loop-left.invariant (let b = c.loop-left-test.false in omega (arith, b))
