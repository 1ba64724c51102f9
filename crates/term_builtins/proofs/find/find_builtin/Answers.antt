use Rattle.std.proofs.Common.{◌≡◌, ◌∙◌, ℕ, ◌+◌, ◌-◌, ◌/◌, ◌<◌, List, length, refl, sym, ap₂, arith}
use Rattle.std.specs.Ordering.{ordering_then, nat_cmp}
use Rattle.prolog_terms.specs.Order.{name_order}
use Rattle.term_builtins.specs.Table.{builtins, row_order}
use Rattle.term_builtins.specs.Answers.{row_at}
use Rattle.term_builtins.proofs.Halved.{key, all_between, middle_within, not_there, found, above_middle, below_middle}
use Rattle.term_builtins.proofs.find.find_builtin.Goals as goal
use Rattle.term_builtins.proofs.find.find_builtin.Goals.{After-order_of}

pub loop-low-init : goal.loop-low-init
loop-low-init c = all_between builtins c.args.name.now c.args.arity

pub row_of-row-requires : goal.row_of-row-requires
row_of-row-requires c = middle_within builtins c.args.name.now c.args.arity c.loop-low.low c.loop-low.high c.loop-low.invariant c.loop-low-test.true

middle : (c : After-order_of) → c.loop-low.low + (c.loop-low.high - c.loop-low.low) / 2 < length builtins
middle c = middle_within builtins c.args.name.now c.args.arity c.loop-low.low c.loop-low.high c.loop-low.invariant c.loop-low-test.true

-- how the middle row stands to the name and arity
stands : (c : After-order_of) → c.order_of.result ≡ row_order (row_at builtins (c.loop-low.low + (c.loop-low.high - c.loop-low.low) / 2)) (key c.args.name.now c.args.arity)
stands c =
    c.order_of.ensures
    ∙ ap₂ (λ (n : List ℕ) (a : ℕ). ordering_then (name_order n c.args.name.now) (nat_cmp a c.args.arity)) c.row_of-row.ensures.name c.row_of-row.ensures.arity

pub returns-in-Equal : goal.returns-in-Equal
returns-in-Equal c =
    let m = (goal.at.returns-in-Equal c).After-order_of in
    sym (found builtins c.args.name.now c.args.arity refl (c.loop-low.low + (c.loop-low.high - c.loop-low.low) / 2) (middle m) (sym (stands m) ∙ c.in-Equal.is))

pub loop-low-preserved-in-Less : goal.loop-low-preserved-in-Less
loop-low-preserved-in-Less c =
    let m = (goal.at.loop-low-preserved-in-Less c).After-order_of in
    let t = c.loop-low-test.true in
    above_middle builtins c.args.name.now c.args.arity refl (c.loop-low.low + (c.loop-low.high - c.loop-low.low) / 2) (middle m) c.loop-low.low c.loop-low.high c.loop-low.invariant
    (omega (arith, t)) (sym (stands m) ∙ c.in-Less.is)

pub loop-low-preserved : goal.loop-low-preserved
loop-low-preserved c =
    let m = (goal.at.loop-low-preserved c).After-order_of in
    below_middle builtins c.args.name.now c.args.arity refl (c.loop-low.low + (c.loop-low.high - c.loop-low.low) / 2) (middle m) c.loop-low.low c.loop-low.high c.loop-low.invariant
    (omega arith) (sym (stands m) ∙ c.in-Greater.is)

pub returns : goal.returns
returns c =
    let t = c.loop-low-test.false in
    sym (not_there builtins c.args.name.now c.args.arity c.loop-low.low c.loop-low.high c.loop-low.invariant (omega (arith, t)))
