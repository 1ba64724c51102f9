use Rattle.std.proofs.Common.{◌≡◌, ℕ, ◌≤◌, ◌<◌, ◌^◌, ap, ap₂, ◌∙◌, sym, length, arith, subst, take, drop, List}
use Rattle.std.proofs.lemmas.List.{take-append-drop, length-take}
use Rattle.term_store.specs.declared.cell.Cell.{Cell}
use Rattle.term_store.specs.declared.heap.Row.{Row}
use Rattle.term_store.specs.Inside.{AreLaidFrom, rows_of, end_of}
use Rattle.term_store.proofs.Laid.{laid-take, end-le, rows-take, rows-left}
use Rattle.term_store.proofs.heap.Heap.cut.Goals as goal
use Rattle.term_store.proofs.heap.Heap.cut.Goals.{After-as_slice, After-truncate-2}

rows_are : (c : After-as_slice) → c.as_slice.result.now ≡ take c.args.count c.self.inside.rows.items
rows_are c = c.as_slice.ensures.value ∙ c.truncate.ensures.items

pub end_of-end-requires-clause-laid : goal.end_of-end-requires-clause-laid
end_of-end-requires-clause-laid c =
    subst (λ (rows : List Row). AreLaidFrom 0 (end_of 0 rows) rows) (sym (rows_are c))
    (laid-take 0 (length c.self.inside.args.items) c.args.count c.self.inside.rows.items c.self.invariant)

pub end_of-end-requires-clause-fits : goal.end_of-end-requires-clause-fits
end_of-end-requires-clause-fits c =
    subst (λ (rows : List Row). end_of 0 rows < 2 ^ 64) (sym (rows_are c))
    (let k = end-le 0 (length c.self.inside.args.items) c.args.count c.self.inside.rows.items c.self.invariant in
    let e = c.self.inside.args.ok in omega (arith, k, e.0, e.1))

end_is : (c : After-truncate-2) → c.end_of-end.result ≡ end_of 0 (take c.args.count c.self.inside.rows.items)
end_is c = c.end_of-end.ensures ∙ ap (end_of 0) (c.as_slice.ensures.value ∙ c.truncate.ensures.items)

low : (c : After-truncate-2) → end_of 0 (take c.args.count c.self.inside.rows.items) ≤ length c.self.inside.args.items
low c = end-le 0 (length c.self.inside.args.items) c.args.count c.self.inside.rows.items c.self.invariant

args_are : (c : After-truncate-2) → c.truncate-2.new.self.items ≡ take (end_of 0 (take c.args.count c.self.inside.rows.items)) c.self.inside.args.items
args_are c = c.truncate-2.ensures.items ∙ ap (λ (n : ℕ). take n c.self.inside.args.items) (end_is c)

args_long : (c : After-truncate-2) → length c.truncate-2.new.self.items ≡ end_of 0 (take c.args.count c.self.inside.rows.items)
args_long c =
    let k = low c in let n = length-take (end_of 0 (take c.args.count c.self.inside.rows.items)) c.self.inside.args.items in
    ap length (args_are c) ∙ omega (arith, k, n)

laid : (c : After-truncate-2) → AreLaidFrom 0 (end_of 0 (take c.args.count c.self.inside.rows.items)) (take c.args.count c.self.inside.rows.items)
laid c = laid-take 0 (length c.self.inside.args.items) c.args.count c.self.inside.rows.items c.self.invariant

pub invariant_of-self : goal.invariant_of-self
invariant_of-self c = rw (c.truncate.ensures.items, args_long (goal.at.invariant_of-self c).After-truncate-2) (laid (goal.at.invariant_of-self c).After-truncate-2)

pub returns : goal.returns
returns c =
    let d = (goal.at.returns c).After-truncate-2 in
    let n = end_of 0 (take c.args.count c.self.inside.rows.items) in
    let k = low d in
    ap₂ rows_of (args_are d) c.truncate.ensures.items
    ∙ sym (rows-left (take n c.self.inside.args.items) (drop n c.self.inside.args.items) (take c.args.count c.self.inside.rows.items) 0 n (laid d)
    (let l = length-take n c.self.inside.args.items in omega (arith, k, l)))
    ∙ ap (λ (cs : List Cell). rows_of cs (take c.args.count c.self.inside.rows.items)) (take-append-drop n c.self.inside.args.items)
    ∙ rows-take c.self.inside.args.items c.args.count c.self.inside.rows.items
    ∙ ap (take c.args.count) c.self.view_is
