-- One cell that is evaluated.
use Rattle.std.proofs.Common.{◌≡◌, ℕ, ◌+◌, ◌*◌, List, [], ◌∷◌, ◌++◌, length, reverse, All, Option, Some, None, refl, sym, ap, ◌∙◌, arith, subst, append_assoc}
use Rattle.std.specs.Prelude.{ℤ}
use Rattle.std.proofs.lemmas.List.{reverse-append}
use Rattle.std.proofs.lemmas.List.Elements.{All-head, All-tail, All-nil, All-cons}
use Rattle.prolog_terms.specs.Tree.{Tree, integer, atom, compound, count}
use Rattle.prolog_terms.specs.declared.fault.Fault.TheVariants.{Instantiation}
use Rattle.term_store.specs.declared.cell.Cell.{Cell}
use Rattle.term_store.specs.declared.cell.View.{View}
use Rattle.term_store.specs.declared.cell.View.TheVariants as of_view
use Rattle.term_store.specs.Shape.{Shape}
use Rattle.term_store.specs.Terms.{text, term_of, trees_of, HasTerm}
use Rattle.term_store.specs.Views.{tree_of}
use Rattle.term_store.specs.Work.{size, size_all}
use Rattle.prolog_arith.specs.declared.operation.Operation.{Operation}
use Rattle.prolog_arith.specs.declared.faults.EvalFault.{EvalFault}
use Rattle.prolog_arith.specs.declared.evaluation.Task.{Task}
use Rattle.prolog_arith.specs.declared.evaluation.Task.TheVariants.{Evaluate, Apply}
use Rattle.prolog_arith.specs.Arithmetic.{Value, Is, Raises, operation_of, not_evaluable, evaluated}
use Rattle.prolog_arith.specs.Work.{go_on, finished, value_at, opened, tasks_size, HasCell, IsCause, IsEvaluated}
use Rattle.prolog_arith.proofs.Views.{count-trees}
use Rattle.prolog_arith.proofs.Named.{in_turn, evaluated-none, evaluated-some}

go_on-same : (v : Value) (f g : ℤ → Option Value) → ((z : ℤ) → f z ≡ g z) → go_on v f ≡ go_on v g
go_on-same (Is z) f g e = e z
go_on-same (Raises r) f g e = refl

-- the operands that were opened come one after the other
opened-comes : (texts : List (List ℕ)) (s : Shape) (cs : List Cell) (o : Operation) (rest : List Task) (xs : List ℤ)
    → finished (value_at texts s) ((opened cs ++ Apply o ∷ []) ++ rest) xs ≡ in_turn (trees_of (term_of texts s) cs) o xs (finished (value_at texts s) rest)
opened-comes texts s [] o rest xs = refl
opened-comes texts s (c ∷ cs) o rest xs = go_on-same (value_at texts s c) _ _ (λ z. opened-comes texts s cs o rest (z ∷ xs))

opened-valid : (count' : ℕ) (s : Shape) (cs : List Cell) (o : Operation) → All (HasTerm count' s) cs → All (HasCell count' s) (opened cs ++ Apply o ∷ [])
opened-valid count' s [] o h = All-cons (HasCell count' s) (Apply o) [] tt (All-nil (HasCell count' s))
opened-valid count' s (c ∷ cs) o h =
    All-cons (HasCell count' s) (Evaluate c) (opened cs ++ Apply o ∷ []) (All-head (HasTerm count' s) c cs h) (opened-valid count' s cs o (All-tail (HasTerm count' s) c cs h))

opened-size : (tree : Cell → Tree) (cs : List Cell) (o : Operation) → tasks_size tree (opened cs ++ Apply o ∷ []) ≡ 2 * size_all (trees_of tree cs) + 1
opened-size tree [] o = omega arith
opened-size tree (c ∷ cs) o = let h = opened-size tree cs o in omega (arith, h)

module _ (texts : List (List ℕ)) (s : Shape) (c : Cell) (view : View) (term : term_of texts s c ≡ tree_of (text texts) (term_of texts s) view) where
  pub at-variable : (v : ℕ) → view ≡ of_view.Variable v → value_at texts s c ≡ Raises Instantiation
  unfolding evaluated
  at-variable v e = ap evaluated (term ∙ ap (tree_of (text texts) (term_of texts s)) e)

  pub at-integer : (z : ℤ) (tasks : List Task) (values longer : List ℤ) → view ≡ of_view.Integer z → longer ≡ values ++ z ∷ [] → IsEvaluated texts s c tasks tasks values longer
  unfolding evaluated
  at-integer z tasks values longer e pushed =
      let it : term_of texts s c ≡ integer z = term ∙ ap (tree_of (text texts) (term_of texts s)) e in
      let is : value_at texts s c ≡ Is z = ap evaluated it in
      record {
        added = [];
        after_is = refl;
        valid = All-nil (HasCell (length texts) s);
        comes = λ rest.
            ap (finished (value_at texts s) rest) (ap reverse pushed ∙ reverse-append values (z ∷ []))
            ∙ sym (ap (λ (v : Value). go_on v (λ y. finished (value_at texts s) rest (y ∷ reverse values))) is);
        smaller = let k = ap size it in omega (arith, k);
      }

  pub at-atom : (n : ℕ) (name : List ℕ) (e : EvalFault) → view ≡ of_view.Atom n → text texts n ≡ name → IsCause e (not_evaluable name 0) → IsCause e (value_at texts s c)
  unfolding evaluated
  at-atom n name e is named cause =
      subst (IsCause e) (sym (ap evaluated (term ∙ ap (tree_of (text texts) (term_of texts s)) is ∙ ap atom named))) cause

  module _ (f : ℕ) (args : _) (name : List ℕ) (is : view ≡ of_view.Compound f args) (named : text texts f ≡ name) where
    it : term_of texts s c ≡ compound name (trees_of (term_of texts s) args.now)
    it = term ∙ ap (tree_of (text texts) (term_of texts s)) is ∙ ap (λ (a : List ℕ). compound a (trees_of (term_of texts s) args.now)) named

    many : count (trees_of (term_of texts s) args.now) ≡ length args.now
    many = count-trees (term_of texts s) args.now

    pub at-none : (e : EvalFault) → operation_of name (length args.now) ≡ None → IsCause e (not_evaluable name (length args.now)) → IsCause e (value_at texts s c)
    at-none e absent cause =
        subst (IsCause e)
        (sym (ap evaluated it ∙ evaluated-none name (trees_of (term_of texts s) args.now) (ap (operation_of name) many ∙ absent) ∙ ap (not_evaluable name) many)) cause

    pub at-some : (o : Operation) (tasks after : List Task) (values : List ℤ) → operation_of name (length args.now) ≡ Some o → All (HasTerm (length texts) s) args.now
        → reverse after ≡ opened args.now ++ Apply o ∷ reverse tasks → IsEvaluated texts s c tasks after values values
    at-some o tasks after values found valid pushed = record {
      added = opened args.now ++ Apply o ∷ [];
      after_is = pushed ∙ sym (append_assoc (opened args.now) (Apply o ∷ []) (reverse tasks));
      valid = opened-valid (length texts) s args.now o valid;
      comes = λ rest.
          opened-comes texts s args.now o rest (reverse values)
          ∙ evaluated-some name (trees_of (term_of texts s) args.now) o (reverse values) (finished (value_at texts s) rest) (ap (operation_of name) many ∙ found)
          ∙ sym (ap (λ (t : Tree). go_on (evaluated t) (λ z. finished (value_at texts s) rest (z ∷ reverse values))) it);
      smaller = let k = ap size it in let j = opened-size (term_of texts s) args.now o in omega (arith, k, j);
    }
