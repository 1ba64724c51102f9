use Rattle.std.proofs.Common.{◌≡◌, ◌-◌, length, refl, ap, arith, slice_index_or}
use Rattle.term_store.specs.declared.cell.Cell.TheVariants.{Variable}
use Rattle.term_store.specs.Shape.{Shape}
use Rattle.term_store.specs.Copies.{behind}
use Rattle.term_store.proofs.Laws.{later-further}
use Rattle.term_store.proofs.Rebuilds.{rebuilding-first, rebuilding-cell, rebuilding-enough, rebuilding-step, rebuilding-end, rebuilding-some, rebuilding-met}
use Rattle.term_store.proofs.store.Store.rebuild.Goals as goal

pub loop-at-init : goal.loop-at-init
loop-at-init c = record {
  low = omega arith;
  going = rebuilding-first (behind c.args.from c.args.seen.now) c.args.self.now c.args.cells.now c.new-stack.result.items _ (omega arith) c.new-stack.ensures.items;
}

pub rebuild_cell-requires-clause-fits : goal.rebuild_cell-requires-clause-fits
rebuild_cell-requires-clause-fits c =
    let e = ap (λ (s : Shape). s.variables) c.loop-at.invariant.going.same in let fits = c.requires.fits in omega (arith, e, fits)

pub rebuild_cell-requires-clause-valid : goal.rebuild_cell-requires-clause-valid
rebuild_cell-requires-clause-valid c =
    rebuilding-cell (behind c.args.from c.args.seen.now) c.args.self.now c.loop-at.self c.args.cells.now c.loop-at.stack.items c.loop-at.at
    (slice_index_or c.args.cells.now (c.loop-at.at - 1) (Variable 0)) (Variable 0) c.requires.valid c.loop-at-test.true c.loop-at.invariant.low refl c.loop-at.invariant.going

pub rebuild_cell-requires-clause-enough : goal.rebuild_cell-requires-clause-enough
rebuild_cell-requires-clause-enough c =
    rebuilding-enough (behind c.args.from c.args.seen.now) c.args.self.now c.loop-at.self c.args.cells.now c.loop-at.stack.items c.loop-at.at
    (slice_index_or c.args.cells.now (c.loop-at.at - 1) (Variable 0)) (Variable 0) c.requires.valid c.loop-at-test.true c.loop-at.invariant.low refl c.loop-at.invariant.going c.requires.enough

pub rebuild_cell-requires-clause-cells : goal.rebuild_cell-requires-clause-cells
rebuild_cell-requires-clause-cells c = c.loop-at.invariant.going.valid

pub returns-in_err-rebuild_cell-clause-later : goal.returns-in_err-rebuild_cell-clause-later
returns-in_err-rebuild_cell-clause-later c =
    later-further c.args.self.now c.loop-at.self c.rebuild_cell.new.self c.loop-at.invariant.going.later c.in_err-rebuild_cell.ensures.later

pub loop-at-preserved : goal.loop-at-preserved
loop-at-preserved c = record {
  low = let low = c.loop-at.invariant.low in omega (arith, low);
  going = rebuilding-step (behind c.args.from c.args.seen.now) c.args.self.now c.loop-at.self c.args.cells.now c.loop-at.stack.items c.loop-at.at
      (slice_index_or c.args.cells.now (c.loop-at.at - 1) (Variable 0)) (Variable 0) c.requires.valid c.loop-at-test.true c.loop-at.invariant.low refl c.loop-at.invariant.going
      c.rebuild_cell.new.self c.rebuild_cell.new.stack.items c.in_ok-rebuild_cell.ensures.later c.in_ok-rebuild_cell.ensures.rebuilt;
}

pub returns-clause-cell : goal.returns-clause-cell
returns-clause-cell c =
    let t = c.loop-at-test.false in let none_left : c.loop-at.at ≡ 0 = omega (arith, t) in
    rebuilding-end (behind c.args.from c.args.seen.now) c.args.self.now c.loop-at.self c.args.cells.now c.loop-at.stack.items c.pop.new.self.items c.in-Some.cell c.loop-at.at none_left
    c.loop-at.invariant.going c.in-Some.ensures.items

pub rebuild_cell-requires-clause-met : goal.rebuild_cell-requires-clause-met
rebuild_cell-requires-clause-met c =
    rebuilding-met c.args.seen.now c.args.cells.now c.loop-at.at (slice_index_or c.args.cells.now (c.loop-at.at - 1) (Variable 0)) (Variable 0) c.requires.met c.loop-at-test.true c.loop-at.invariant.low refl

-- there was a cell, and so there is one
pub unreachable-requires : goal.unreachable-requires
unreachable-requires c =
    let t = c.loop-at-test.false in let none_left : c.loop-at.at ≡ 0 = omega (arith, t) in
    let some = rebuilding-some (behind c.args.from c.args.seen.now) c.args.self.now c.loop-at.self c.args.cells.now c.loop-at.stack.items c.loop-at.at none_left c.requires.some c.loop-at.invariant.going in
    let q = c.in-None.ensures.cases in let none : length c.loop-at.stack.items ≡ 0 = omega arith in
    omega (arith, some, none)
