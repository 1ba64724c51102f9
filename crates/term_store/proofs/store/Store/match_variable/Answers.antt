use Rattle.std.proofs.Common.{◌≡◌, ℕ, ◌≤◌, ◌+◌, ◌∷◌, List, length, Bool, true, false, refl, sym, ap, ◌∙◌, subst, arith}
use Rattle.std.specs.Prelude.{IsTrue, IsFalse}
use Rattle.prolog_terms.specs.Tree.{variable}
use Rattle.term_store.specs.declared.cell.Cell.TheVariants.{Variable}
use Rattle.term_store.specs.Shape.{Shape}
use Rattle.term_store.specs.Terms.{HasTerm, AreNamed, IsUnified, HaveNoUnifier}
use Rattle.term_store.specs.Later.{AreDistinct}
use Rattle.term_store.specs.Heads.{IsFurther, Matches}
use Rattle.term_store.proofs.Laws.{longer-itself}
use Rattle.term_store.proofs.Leaves.{further-itself, further-variables, further-bound, matches-new, matches-unified, matches-refused}
use Rattle.term_store.proofs.store.Store.match_variable.Goals as goal
use Rattle.term_store.proofs.store.Store.match_variable.Goals.{In_ok-bind_new}

pub returns-in_err-is_one-clause-further : goal.returns-in_err-is_one-clause-further
returns-in_err-is_one-clause-further c = λ texts named has.
    let e = c.variables.ensures in let low = c.if-number-variables.true in record {
      later = c.unify.ensures.later;
      longer = longer-itself texts;
      distinct = λ d. d;
      named = c.unify.ensures.named (length texts) named (omega (arith, e, low), tt) has;
    }

pub returns-then-number-variables-clause-further : goal.returns-then-number-variables-clause-further
returns-then-number-variables-clause-further c = λ texts named has.
    let e = c.variables.ensures in let low = c.if-number-variables.true in record {
      later = c.unify.ensures.later;
      longer = longer-itself texts;
      distinct = λ d. d;
      named = c.unify.ensures.named (length texts) named (omega (arith, e, low), tt) has;
    }

pub returns-then-number-variables-clause-matches : goal.returns-then-number-variables-clause-matches
returns-then-number-variables-clause-matches c = λ texts distinct named has.
    go texts distinct named has c.in_ok-is_one.is_one c.in_ok-is_one.ensures.unified c.in_ok-is_one.ensures.refused
  where
    go : (texts : List (List ℕ)) → AreDistinct texts → AreNamed (length texts) c.args.self.now → HasTerm (length texts) c.args.self.now c.args.cell → (t : Bool)
        → (IsTrue t → (names : List (List ℕ)) → IsUnified names c.args.self.now c.unify.new.self (Variable c.args.number) c.args.cell)
        → (IsFalse t → (names : List (List ℕ)) → AreDistinct names → AreNamed (length names) c.args.self.now → HasTerm (length names) c.args.self.now (Variable c.args.number)
        → HasTerm (length names) c.args.self.now c.args.cell → HaveNoUnifier names c.args.self.now (Variable c.args.number) c.args.cell)
        → Matches c.args.self.now texts c.unify.new.self texts (variable c.args.number) c.args.cell t
    go texts distinct named has true u n =
        matches-unified c.args.self.now c.unify.new.self c.args.number c.args.cell texts c.known.ensures c.known-then-number-variables.ensures c.unify.ensures.later (u refl)
    go texts distinct named has false u n =
        let e = c.variables.ensures in let low = c.if-number-variables.true in
        matches-refused c.args.self.now c.unify.new.self c.args.number c.args.cell texts (n refl texts distinct named (omega (arith, e, low), tt) has)

pub returns-in_err-fresh-clause-further : goal.returns-in_err-fresh-clause-further
returns-in_err-fresh-clause-further c = λ texts named has.
    subst (λ (s : Shape). IsFurther c.args.self.now texts s texts) (sym c.in_err-fresh.ensures.err) (further-itself c.args.self.now texts named)

pub returns-in_err-bind_new-clause-further : goal.returns-in_err-bind_new-clause-further
returns-in_err-bind_new-clause-further c = λ texts named has.
    let e : c.bind_new.new.self ≡ record c.args.self.now { variables = c.bind_new.new.self.variables } =
    c.in_err-bind_new.ensures.err ∙ ap (λ (s : Shape). record s { variables = c.bind_new.new.self.variables }) c.in_ok-fresh.ensures.ok in
    let up = ap (λ (s : Shape). s.variables) c.in_ok-fresh.ensures.ok in
    let more = c.bind_new.ensures.within.0 in
    subst (λ (s : Shape). IsFurther c.args.self.now texts s texts) (sym e)
    (further-variables c.args.self.now c.bind_new.new.self.variables texts (omega (arith, up, more)) named)

new_is : (c : In_ok-bind_new) → c.bind_new.new.self ≡ record c.args.self.now { variables = c.fresh.new.self.variables + 1; bindings = (c.args.number, c.deref-end.result) ∷ c.args.self.now.bindings }
new_is c =
    let up = ap (λ (s : Shape). s.variables) c.in_ok-fresh.ensures.ok in
    let a = c.variables.ensures in let b = c.variables-2.ensures in let not = c.if-number-variables.false in
    let same : c.fresh.new.self.variables ≡ c.args.number = omega (arith, up, a, b, not) in
    c.in_ok-bind_new.ensures.ok
    ∙ ap (λ (s : Shape). record s { variables = c.fresh.new.self.variables + 1; bindings = (c.fresh.new.self.variables, c.deref-end.result) ∷ s.bindings }) c.in_ok-fresh.ensures.ok
    ∙ ap (λ (x : ℕ). record c.args.self.now { variables = c.fresh.new.self.variables + 1; bindings = (x, c.deref-end.result) ∷ c.args.self.now.bindings }) same

more_are : (c : In_ok-bind_new) → c.args.self.now.variables ≤ c.fresh.new.self.variables + 1
more_are c = let up = ap (λ (s : Shape). s.variables) c.in_ok-fresh.ensures.ok in omega (arith, up)

pub returns-clause-further : goal.returns-clause-further
returns-clause-further c = λ texts named has.
    let at = (goal.at.returns-clause-further c).In_ok-bind_new in
    subst (λ (s : Shape). IsFurther c.args.self.now texts s texts) (sym (new_is at))
    (further-bound c.args.self.now (c.fresh.new.self.variables + 1) c.args.number c.deref-end.result texts texts (more_are at) (longer-itself texts) (λ d. d) named (c.deref-end.ensures.named (length texts) named has.1))

pub returns-clause-matches : goal.returns-clause-matches
returns-clause-matches c = λ texts distinct named has.
    let at = (goal.at.returns-clause-matches c).In_ok-bind_new in
    subst (λ (s : Shape). Matches c.args.self.now texts s texts (variable c.args.number) c.args.cell true) (sym (new_is at))
    (matches-new c.args.self.now (c.fresh.new.self.variables + 1) c.args.number c.deref-end.result c.args.cell texts c.known.ensures (more_are at) c.deref-end.ensures.term)
