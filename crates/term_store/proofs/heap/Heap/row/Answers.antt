use Rattle.std.proofs.Common.{◌<◌, ◌≤◌, ◌+◌, ℕ, ap, ◌∙◌, sym, length, arith, slice_range, List, subst}
use Rattle.term_store.specs.declared.cell.Cell.{Cell}
use Rattle.term_store.specs.Terms.{row_at}
use Rattle.term_store.specs.Inside.{row_of}
use Rattle.term_store.specs.declared.heap.Row.{Row}
use Rattle.term_store.proofs.Laid.{rows-length, laid-room, row-read}
use Rattle.term_store.proofs.heap.Heap.row.Goals as goal
use Rattle.term_store.proofs.heap.Heap.row.Goals.{After-self, After-index-row}

inside : (c : After-self) → c.args.at < length c.self.inside.rows.items
inside c = let a = ap length c.self.view_is in let b = rows-length c.self.inside.args.items c.self.inside.rows.items in
    let low = c.requires in omega (arith, a, b, low)

pub index-row-requires : goal.index-row-requires
index-row-requires c = let low = inside c in let k = c.self.inside.rows.ok.0 in omega (arith, low, k)

pub part-requires : goal.part-requires
part-requires c =
    subst (λ (row : Row). row.first + row.arity ≤ length c.as_slice.result.now) (sym c.index-row.ensures)
    (let k = laid-room 0 (length c.self.inside.args.items) c.self.inside.rows.items c.self.invariant c.args.at c.index-row.result.now (inside (goal.at.part-requires c).After-self) in
    let e = ap length c.as_slice.ensures.value in omega (arith, k, e))

pub returns : goal.returns
returns c =
    ap (λ (rs : List (ℕ × List Cell)). row_at rs c.args.at) (sym c.self.view_is)
    ∙ row-read c.self.inside.args.items c.self.inside.rows.items c.args.at c.index-row.result.now (inside (goal.at.returns c).After-self)
    ∙ ap (row_of c.self.inside.args.items) (sym c.index-row.ensures)
    ∙ ap (λ (cs : List Cell). (c.index-row.result.now.name, cs)) (ap (λ (cs : List Cell). slice_range cs c.index-row.result.now.first (c.index-row.result.now.first + c.index-row.result.now.arity)) (sym c.as_slice.ensures.value) ∙ sym c.part.ensures)
