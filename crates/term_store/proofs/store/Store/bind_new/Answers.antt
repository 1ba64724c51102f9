use Rattle.std.proofs.Common.{◌<◌, ap, ◌∙◌, subst, arith}
use Rattle.term_store.specs.Shape.{Shape}
use Rattle.term_store.specs.Terms.{lookup, value}
use Rattle.term_store.specs.Work.{Occurs}
use Rattle.term_store.proofs.Trees.{Occurs-test}
use Rattle.term_store.proofs.Laws.{new-free}
use Rattle.term_store.proofs.Leaves.{value-variables}
use Rattle.term_store.proofs.store.Store.bind_new.Goals as goal

pub bind-requires-clause-free : goal.bind-requires-clause-free
bind-requires-clause-free c =
    ap (λ (s : Shape). lookup s.bindings c.in_ok-number.number) c.in_ok-number.ensures.ok
    ∙ new-free c.args.self.now c.in_ok-number.number c.known.ensures (let e = c.in_ok-number.ensures.first in omega (arith, e))

pub bind-requires-clause-absent : goal.bind-requires-clause-absent
bind-requires-clause-absent c = λ name o.
    let e = c.in_ok-number.ensures.first in
    let low : c.in_ok-number.number < c.args.self.now.variables = value-variables name c.args.self.now c.args.cell c.known.ensures c.requires c.in_ok-number.number
    (subst (λ (s : Shape). Occurs c.in_ok-number.number (value name s c.args.cell)) c.in_ok-number.ensures.ok (Occurs-test c.in_ok-number.number _ o)) in
    omega (arith, e, low)
