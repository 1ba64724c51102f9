use Rattle.std.proofs.Common.{◌≡◌, ℕ, List, ◌-◌, get_or, drop, sym, ap, ◌∙◌, subst, codes, arith}
use Rattle.std.proofs.Math.Seq.{drop-length}
use Rattle.term_store.specs.declared.cell.Cell.{Cell}
use Rattle.term_store.specs.declared.cell.Cell.TheVariants.{Variable, Atom}
use Rattle.term_store.specs.Shape.{Shape}
use Rattle.term_store.specs.Heads.{IsFurther}
use Rattle.term_builtins.proofs.Grown.{further-itself, further-names, intern-longer, intern-twice, number-low, number-text}
use Rattle.term_builtins.proofs.Listed.{IsPartlyPut, drop-step, put-start, put-step, row-cells}
use Rattle.term_builtins.proofs.lists.put_list.Goals as goal

pub returns-in_err-dot-clause-further : goal.returns-in_err-dot-clause-further
returns-in_err-dot-clause-further c =
    subst (λ (ts : List (List ℕ)). IsFurther c.args.store.now c.args.names.now c.args.store.now ts) (sym c.in_err-dot.ensures.err)
    (further-itself c.args.store.now c.args.names.now c.requires.named)

pub returns-in_err-nil-clause-further : goal.returns-in_err-nil-clause-further
returns-in_err-nil-clause-further c =
    subst (λ (ts : List (List ℕ)). IsFurther c.args.store.now c.args.names.now c.args.store.now ts) (sym c.in_err-nil.ensures.err)
    (further-names c.args.store.now c.args.names.now c.intern.new.self
    (intern-longer c.args.names.now c.intern.new.self (codes ".") c.in_ok-dot.ensures.texts) (λ _. c.intern.ensures.distinct) c.requires.named)

pub loop-at-init : goal.loop-at-init
loop-at-init c = record {
  low = omega arith;
  put = subst (λ (cs : List Cell). IsPartlyPut c.args.store.now c.args.names.now c.args.store.now c.intern-2.new.self cs (Atom c.in_ok-nil.nil)) (sym (drop-length c.args.cells.now))
      (put-start c.args.store.now c.args.names.now c.intern-2.new.self c.in_ok-nil.nil
      (intern-twice c.args.names.now c.intern.new.self c.intern-2.new.self (codes ".") (codes "[]") c.in_ok-dot.ensures.texts c.in_ok-nil.ensures.texts)
      (λ _. c.intern-2.ensures.distinct) c.requires.named c.in_ok-nil.ensures.number);
}

pub compound-requires-clause-valid : goal.compound-requires-clause-valid
compound-requires-clause-valid c =
    let longer = intern-longer c.intern.new.self c.intern-2.new.self (codes "[]") c.in_ok-nil.ensures.texts in
    let t = c.loop-at-test.true in let low = c.loop-at.invariant.low in
    row-cells c.args.store.now c.args.names.now c.loop-at.store c.loop-at.store c.intern-2.new.self (drop c.loop-at.at c.args.cells.now) c.loop-at.list
    (get_or c.args.cells.now (c.loop-at.at - 1) (Variable 0)) c.loop-at.list c.in_ok-dot.dot
    c.known.ensures c.requires.named c.known-in-loop-at.ensures c.loop-at.invariant.put (c.requires.valid (c.loop-at.at - 1) (Variable 0) (omega (arith, t, low)))
    (number-low c.intern.new.self c.intern-2.new.self c.in_ok-dot.dot (codes ".") longer c.in_ok-dot.ensures.number)
    (number-text c.intern.new.self c.intern-2.new.self c.in_ok-dot.dot (codes ".") longer c.in_ok-dot.ensures.number)

pub returns-in_err-made-clause-further : goal.returns-in_err-made-clause-further
returns-in_err-made-clause-further c =
    subst (λ (s : Shape). IsFurther c.args.store.now c.args.names.now s c.intern-2.new.self) (sym c.in_err-made.ensures.err) c.loop-at.invariant.put.further

pub returns-in_err-made-clause-bindings : goal.returns-in_err-made-clause-bindings
returns-in_err-made-clause-bindings c = ap (λ (s : Shape). s.bindings) c.in_err-made.ensures.err ∙ c.loop-at.invariant.put.bindings

pub returns-in_err-made-clause-variables : goal.returns-in_err-made-clause-variables
returns-in_err-made-clause-variables c = ap (λ (s : Shape). s.variables) c.in_err-made.ensures.err ∙ c.loop-at.invariant.put.variables

pub loop-at-preserved : goal.loop-at-preserved
loop-at-preserved c =
    let longer = intern-longer c.intern.new.self c.intern-2.new.self (codes "[]") c.in_ok-nil.ensures.texts in
    let t = c.loop-at-test.true in let low = c.loop-at.invariant.low in record {
      low = omega (arith, t, low);
      put = subst (λ (cs : List Cell). IsPartlyPut c.args.store.now c.args.names.now c.compound.new.self c.intern-2.new.self cs c.in_ok-made.made)
          (drop-step c.args.cells.now c.loop-at.at (Variable 0) (omega (arith, t)) low)
          (put-step c.args.store.now c.args.names.now c.loop-at.store c.compound.new.self c.intern-2.new.self (drop c.loop-at.at c.args.cells.now) c.loop-at.list
          (get_or c.args.cells.now (c.loop-at.at - 1) (Variable 0)) c.in_ok-made.made c.in_ok-dot.dot
          c.known.ensures c.requires.named c.known-in-loop-at.ensures c.loop-at.invariant.put (c.requires.valid (c.loop-at.at - 1) (Variable 0) (omega (arith, t, low)))
          (number-low c.intern.new.self c.intern-2.new.self c.in_ok-dot.dot (codes ".") longer c.in_ok-dot.ensures.number)
          (number-text c.intern.new.self c.intern-2.new.self c.in_ok-dot.dot (codes ".") longer c.in_ok-dot.ensures.number)
          c.in_ok-made.ensures.ok c.in_ok-made.ensures.cell);
    }

pub returns-clause-further : goal.returns-clause-further
returns-clause-further c = c.loop-at.invariant.put.further

pub returns-clause-list : goal.returns-clause-list
returns-clause-list c =
    let t = c.loop-at-test.false in let zero_at : c.loop-at.at ≡ 0 = omega (arith, t) in
    (subst (λ (n : ℕ). IsPartlyPut c.args.store.now c.args.names.now c.loop-at.store c.intern-2.new.self (drop n c.args.cells.now) c.loop-at.list) zero_at c.loop-at.invariant.put).is
