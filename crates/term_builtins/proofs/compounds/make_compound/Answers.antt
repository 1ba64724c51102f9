use Rattle.std.proofs.Common.{◌≡◌, ◌∙◌, ◌-◌, sym, ap, subst, arith}
use Rattle.term_store.specs.Shape.{Shape}
use Rattle.term_store.specs.Heads.{IsFurther}
use Rattle.term_builtins.proofs.Grown.{further-itself}
use Rattle.term_builtins.proofs.NewCells.{cells_from, cells_from-step}
use Rattle.term_builtins.proofs.NewCompounds.{counted, made-variables, new-cells, new-some, new-few, new-further, new-made}
use Rattle.term_builtins.proofs.compounds.make_compound.Goals as goal

pub returns-in_err-first-clause-further : goal.returns-in_err-first-clause-further
returns-in_err-first-clause-further c = λ texts named low.
    subst (λ (s : Shape). IsFurther c.args.store.now texts s texts) (sym c.in_err-first.ensures.err) (further-itself c.args.store.now texts named)

pub loop-number-init : goal.loop-number-init
loop-number-init c =
    let e : 0 ≡ c.in_ok-first.first - c.args.store.now.variables = let is = c.in_ok-first.ensures.first in omega (arith, is) in
    c.new-cells.ensures.items ∙ ap (cells_from c.args.store.now.variables) e

pub returns-in_err-push-clause-further : goal.returns-in_err-push-clause-further
returns-in_err-push-clause-further c = λ texts named low. made-variables c.args.store.now c.fresh.new.self c.args.count texts c.in_ok-first.ensures.ok named

pub loop-number-preserved : goal.loop-number-preserved
loop-number-preserved c =
    cells_from-step c.args.store.now.variables c.loop-number.number c.loop-number.cells.items c.push.new.self.items (let is = c.in_ok-first.ensures.first in let low = c.loop-number.auto.number in omega (arith, is, low))
    c.loop-number.invariant c.in_ok-push.ensures.items

pub compound-requires-clause-some : goal.compound-requires-clause-some
compound-requires-clause-some c =
    new-some c.args.store.now c.fresh.new.self c.args.count c.as_slice.result.now c.requires.some c.requires.few c.known.ensures c.in_ok-first.ensures.ok
    (counted c.args.store.now c.fresh.new.self c.args.count c.in_ok-first.first c.variables-end.result c.loop-number.number c.loop-number.cells.items c.as_slice.result.now
    c.as_slice.ensures.value c.loop-number.invariant c.in_ok-first.ensures.first c.in_ok-first.ensures.ok c.variables-end.ensures c.loop-number-test.false c.loop-number.auto.number-end)

pub compound-requires-clause-few : goal.compound-requires-clause-few
compound-requires-clause-few c =
    new-few c.args.store.now c.fresh.new.self c.args.count c.as_slice.result.now c.requires.some c.requires.few c.known.ensures c.in_ok-first.ensures.ok
    (counted c.args.store.now c.fresh.new.self c.args.count c.in_ok-first.first c.variables-end.result c.loop-number.number c.loop-number.cells.items c.as_slice.result.now
    c.as_slice.ensures.value c.loop-number.invariant c.in_ok-first.ensures.first c.in_ok-first.ensures.ok c.variables-end.ensures c.loop-number-test.false c.loop-number.auto.number-end)

pub compound-requires-clause-valid : goal.compound-requires-clause-valid
compound-requires-clause-valid c =
    new-cells c.args.store.now c.fresh.new.self c.args.count c.as_slice.result.now c.requires.some c.requires.few c.known.ensures c.in_ok-first.ensures.ok
    (counted c.args.store.now c.fresh.new.self c.args.count c.in_ok-first.first c.variables-end.result c.loop-number.number c.loop-number.cells.items c.as_slice.result.now
    c.as_slice.ensures.value c.loop-number.invariant c.in_ok-first.ensures.first c.in_ok-first.ensures.ok c.variables-end.ensures c.loop-number-test.false c.loop-number.auto.number-end)

pub returns-in_err-made-clause-further : goal.returns-in_err-made-clause-further
returns-in_err-made-clause-further c = λ texts named low.
    made-variables c.args.store.now c.compound.new.self c.args.count texts (c.in_err-made.ensures.err ∙ c.in_ok-first.ensures.ok) named

pub returns-clause-further : goal.returns-clause-further
returns-clause-further c = λ texts named low.
    new-further c.args.store.now c.fresh.new.self c.args.count c.as_slice.result.now c.requires.some c.requires.few c.known.ensures c.in_ok-first.ensures.ok
    (counted c.args.store.now c.fresh.new.self c.args.count c.in_ok-first.first c.variables-end.result c.loop-number.number c.loop-number.cells.items c.as_slice.result.now
    c.as_slice.ensures.value c.loop-number.invariant c.in_ok-first.ensures.first c.in_ok-first.ensures.ok c.variables-end.ensures c.loop-number-test.false c.loop-number.auto.number-end)
    c.compound.new.self c.args.name c.in_ok-made.made c.in_ok-made.ensures.ok texts named low

pub returns-clause-made : goal.returns-clause-made
returns-clause-made c = λ texts named low.
    new-made c.args.store.now c.fresh.new.self c.args.count c.as_slice.result.now c.requires.some c.requires.few c.known.ensures c.in_ok-first.ensures.ok
    (counted c.args.store.now c.fresh.new.self c.args.count c.in_ok-first.first c.variables-end.result c.loop-number.number c.loop-number.cells.items c.as_slice.result.now
    c.as_slice.ensures.value c.loop-number.invariant c.in_ok-first.ensures.first c.in_ok-first.ensures.ok c.variables-end.ensures c.loop-number-test.false c.loop-number.auto.number-end)
    c.compound.new.self c.args.name c.in_ok-made.made c.in_ok-made.ensures.ok texts named low c.in_ok-made.ensures.cell
