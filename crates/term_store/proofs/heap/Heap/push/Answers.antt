use Rattle.std.proofs.Common.{◌≡◌, ℕ, ap, ap₂, ◌∙◌, length, arith, ◌++◌, ◌∷◌, [], List, length-append}
use Rattle.term_store.specs.declared.cell.Cell.{Cell}
use Rattle.term_store.specs.declared.heap.Row.{Row}
use Rattle.term_store.specs.Inside.{rows_of}
use Rattle.term_store.proofs.Laid.{laid-more, rows-more}
use Rattle.term_store.proofs.heap.Heap.push.Goals as goal
use Rattle.term_store.proofs.heap.Heap.push.Goals.{In_ok-push}

args_are : (c : In_ok-push) → c.extend_from_slice.new.self.items ≡ c.self.inside.args.items ++ c.args.args.now
args_are c = c.in_ok-extend_from_slice.ensures.items

rows_are : (c : In_ok-push) → c.push.new.self.items
    ≡ c.self.inside.rows.items ++ record { name = c.args.name; first = length c.self.inside.args.items; arity = length c.args.args.now } ∷ []
rows_are c =
    let e = c.len-first.ensures in let k = c.self.inside.args.ok.0 in
    let first : c.len-first.result ≡ length c.self.inside.args.items = omega (arith, e, k) in
    c.in_ok-push.ensures.items
    ∙ ap₂ (λ (rows : List Row) (n : ℕ). rows ++ record { name = c.args.name; first = n; arity = length c.args.args.now } ∷ []) c.in_ok-reserve.ensures.items first

pub invariant_of-self-2 : goal.invariant_of-self-2
invariant_of-self-2 c =
    rw (rows_are c, args_are c, length-append c.self.inside.args.items c.args.args.now)
    (laid-more 0 (length c.self.inside.args.items) (length c.args.args.now) c.args.name c.self.inside.rows.items c.self.invariant)

pub returns-clause-ok : goal.returns-clause-ok
returns-clause-ok c =
    ap₂ rows_of (args_are c) (rows_are c)
    ∙ rows-more c.self.inside.args.items c.args.args.now c.self.inside.rows.items c.args.name c.self.invariant
    ∙ ap (λ (rs : List (ℕ × List Cell)). rs ++ (c.args.name, c.args.args.now) ∷ []) c.self.view_is
