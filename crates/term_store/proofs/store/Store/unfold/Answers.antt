use Rattle.std.proofs.Common.{◌≡◌, List, ℕ, [], ◌∷◌, ◌++◌, length, sym, ap, ◌∙◌, subst, arith}
use Rattle.term_store.specs.declared.cell.Cell.{Cell}
use Rattle.term_store.specs.Copies.{IsUnfolding}
use Rattle.term_store.proofs.Unfolds.{unfolding-start, unfolding-cell, unfolding-step, unfolding-smaller, unfolding-end}
use Rattle.term_store.proofs.store.Store.unfold.Goals as goal

pub loop-next-init : goal.loop-next-init
loop-next-init c =
    subst (λ (ns : List ℕ). IsUnfolding c.args.self.now c.args.cell c.push.new.self.items c.new-cells.result.items ns) (sym c.requires.none)
    (subst (λ (cs : List Cell). IsUnfolding c.args.self.now c.args.cell cs c.new-cells.result.items []) (sym (c.in_ok-push.ensures.items ∙ ap (λ (cs : List Cell). cs ++ c.args.cell ∷ []) c.new-todo.ensures.items))
    (subst (λ (cs : List Cell). IsUnfolding c.args.self.now c.args.cell (c.args.cell ∷ []) cs []) (sym c.new-cells.ensures.items) (unfolding-start c.args.self.now c.args.cell c.requires.valid)))

pub unfold_cell-requires : goal.unfold_cell-requires
unfold_cell-requires c =
    unfolding-cell c.args.self.now c.args.cell c.loop-next.todo.items c.pop.new.self.items c.pop.new.self.items c.loop-next.cells.items c.loop-next.cells.items c.loop-next.seen c.loop-next.seen
    c.in-Some.next c.in-Some.ensures.items c.loop-next.invariant

pub loop-next-smaller : goal.loop-next-smaller
loop-next-smaller c =
    unfolding-smaller c.args.self.now c.args.cell c.loop-next.todo.items c.pop.new.self.items c.unfold_cell.new.todo.items c.loop-next.cells.items c.unfold_cell.new.cells.items c.loop-next.seen c.unfold_cell.new.seen
    c.in-Some.next c.in-Some.ensures.items c.loop-next.invariant c.in_ok-unfold_cell.ensures

pub loop-next-preserved : goal.loop-next-preserved
loop-next-preserved c =
    unfolding-step c.args.self.now c.args.cell c.loop-next.todo.items c.pop.new.self.items c.unfold_cell.new.todo.items c.loop-next.cells.items c.unfold_cell.new.cells.items c.loop-next.seen c.unfold_cell.new.seen
    c.in-Some.next c.in-Some.ensures.items c.loop-next.invariant c.in_ok-unfold_cell.ensures

pub returns : goal.returns
returns c =
    unfolding-end c.args.self.now c.args.cell c.loop-next.todo.items c.loop-next.cells.items c.loop-next.seen
    (let q = c.in_default.ensures.cases in let none : length c.loop-next.todo.items ≡ 0 = omega arith in none) c.loop-next.invariant
