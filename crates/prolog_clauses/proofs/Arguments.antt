-- The argument of a term that has one, by the term's nodes, and the nodes of the term `once(G)`.
use Rattle.std.proofs.Common.{◌≡◌, ℕ, ◌&&◌, ◌||◌, List, [], ◌∷◌, ◌++◌, Bool, true, false, Option, Some, None, if◌then◌else◌, codes, drop, refl, sym, ap, ◌∙◌, subst, append-nil, arith}
use Rattle.std.specs.Prelude.{IfOk, IfSome, Result, Ok, Err}
use Rattle.prolog_terms.specs.declared.want.Want.{Want}
use Rattle.prolog_clauses.specs.declared.operators.Declaring.{Declaring}
use Rattle.prolog_clauses.specs.Declarations.{declaring_of}
use Rattle.prolog_terms.specs.Tree.{Tree, Trees, variable, integer, atom, compound, none, more, count, HasArities, AllHaveArities}
use Rattle.prolog_terms.specs.Flat.{nodes, nodes_all, tree, tree-nodes, HasPrefixOrder, IsPrefixOrder}
use Rattle.prolog_terms.specs.Clauses.{is_named}
use Rattle.prolog_terms.specs.declared.node.Node.{Node}
use Rattle.prolog_terms.specs.declared.node.Node.TheVariants.{Functor}
use Rattle.prolog_clauses.specs.Flat.{begins_with}
use Rattle.prolog_terms.specs.Substitutions.{occurs}
use Rattle.prolog_clauses.specs.declared.directive.Directive.{Directive}
use Rattle.prolog_clauses.specs.declared.directive.Directive.TheVariants.{Nothing}
use Rattle.prolog_clauses.specs.Directives.{argument, once, says_nothing, kept_or_run, dynamic_or_goal, of_query, of_directive, by_declaring, directive_of, IsGoalOf, IsReady}
use Rattle.prolog_clauses.proofs.Lists.{is_prefix, prefix_tree, opened}

pub record ArgumentOf (name : List ℕ) (ns : List Node) : Type 0 where
  pub value : Tree
  pub same : argument name (tree ns) ≡ Some value
  pub spelled : nodes value ≡ drop 1 ns
  pub arities : HasArities value

chosen : (b : Bool) (x y : Option Tree) → b ≡ true → (if b then x else y) ≡ x
chosen b x y e = rw e refl

argument_opened : (name : List ℕ) (ns : List Node) (f : List ℕ) (us : Trees) → is_named name f ≡ true → count us ≡ 1 → tree ns ≡ compound f us → nodes_all us ≡ drop 1 ns → AllHaveArities us
    → ArgumentOf name ns
argument_opened name ns f none named c same spelled h = absurd (omega arith)
argument_opened name ns f (more a none) named c same spelled h =
    record {
      value = a;
      same = ap (argument name) same ∙ chosen (is_named name f) (Some a) None named;
      spelled = sym (append-nil (nodes a)) ∙ spelled;
      arities = h.0;
    }
argument_opened name ns f (more a (more x us)) named c same spelled h = absurd (omega arith)

pub argument_in : (name : List ℕ) (ns : List Node) → HasPrefixOrder ns → begins_with name 1 ns ≡ true → ArgumentOf name ns
argument_in name ns h e =
    let o = opened name 1 ns h e in
    argument_opened name ns o.text o.arguments o.named o.counted o.same o.spelled o.bounded

pub argument_some : (name : List ℕ) (ns back : List Node) → (k : ArgumentOf name ns) → back ≡ drop 1 ns → argument name (tree ns) ≡ Some (tree back)
argument_some name ns back k e = k.same ∙ ap Some (sym (prefix_tree k.value back (e ∙ sym k.spelled)))

pub argument_prefix : (name : List ℕ) (ns back : List Node) → (k : ArgumentOf name ns) → back ≡ drop 1 ns → HasPrefixOrder back
argument_prefix name ns back k e = is_prefix k.value back k.arities (e ∙ sym k.spelled)

-- ---- no such term

unnamed : (b : Bool) (a : Tree) → (b && true) ≡ false → (if b then Some a else None) ≡ None
unnamed true a e = absurd cc
unnamed false a e = refl

no_argument : (name : List ℕ) (t : Tree) → begins_with name 1 (nodes t) ≡ false → argument name t ≡ None
no_argument name (variable n) e = refl
no_argument name (integer z) e = refl
no_argument name (atom a) e = refl
no_argument name (compound f none) e = refl
no_argument name (compound f (more a none)) e = unnamed (is_named name f) a e
no_argument name (compound f (more a (more b ts))) e = refl

pub argument_none : (name : List ℕ) (ns : List Node) → HasPrefixOrder ns → begins_with name 1 ns ≡ false → argument name (tree ns) ≡ None
argument_none name ns h e = no_argument name (tree ns) (ap (begins_with name 1) h.spelled ∙ e)

-- ---- once

once_items : (ns : List Node) → HasPrefixOrder ns → nodes (once (tree ns)) ≡ Functor (codes "once") 1 ∷ ns
once_items ns h = ap (λ (l : List Node). Functor (codes "once") 1 ∷ l) (append-nil (nodes (tree ns)) ∙ h.spelled)

pub once_put : (f : List ℕ) (first named all ns : List Node) → first ≡ [] → named ≡ first ++ Functor f 1 ∷ [] → f ≡ codes "once" → all ≡ named ++ ns → all ≡ Functor (codes "once") 1 ∷ ns
once_put f first named all ns empty put is further =
    further ∙ ap (λ (l : List Node). l ++ ns) (put ∙ (ap (λ (l : List Node). l ++ Functor f 1 ∷ []) empty ∙ ap (λ (g : List ℕ). Functor g 1 ∷ []) is))

pub once_prefix : (ns xs : List Node) → HasPrefixOrder ns → xs ≡ Functor (codes "once") 1 ∷ ns → IsPrefixOrder xs
once_prefix ns xs h e = (once (tree ns), ((omega arith, omega arith, (h.arities, tt)), once_items ns h ∙ sym e))

pub once_is : (ns xs : List Node) (t : Tree) → HasPrefixOrder ns → xs ≡ Functor (codes "once") 1 ∷ ns → nodes t ≡ xs → t ≡ once (tree ns)
once_is ns xs t h e made = sym (tree-nodes t) ∙ ap tree (made ∙ e ∙ sym (once_items ns h)) ∙ tree-nodes (once (tree ns))

-- ---- the goals of directives

-- the argument's variables are those of the term
named_some : (b : Bool) (a g : Tree) → (if b then Some a else None) ≡ Some g → a ≡ g
named_some true a g e = cc
named_some false a g e = absurd cc

argument_occurs : (name : List ℕ) (t g : Tree) (v : ℕ) → argument name t ≡ Some g → occurs v t ≡ (occurs v g || false)
argument_occurs name (variable n) g v e = absurd cc
argument_occurs name (integer z) g v e = absurd cc
argument_occurs name (atom a) g v e = absurd cc
argument_occurs name (compound f none) g v e = absurd cc
argument_occurs name (compound f (more a none)) g v e = ap (λ (u : Tree). occurs v u || false) (named_some (is_named name f) a g e)
argument_occurs name (compound f (more a (more b ts))) g v e = absurd cc

once_goal : (name : List ℕ) (t g : Tree) → argument name t ≡ Some g → IsGoalOf t (once g)
once_goal name t g e = record { variables = λ v h. sym (argument_occurs name t g v e) ∙ h }

or_false : (a : Bool) → (a || false) ≡ a
or_false true = refl
or_false false = refl

-- a goal of the argument is one of the term
goal_further : (name : List ℕ) (t a g : Tree) → argument name t ≡ Some a → IsGoalOf a g → IsGoalOf t g
goal_further name t a g e h =
    record { variables = λ v k. h.variables v (sym (or_false (occurs v a)) ∙ (sym (argument_occurs name t a v e) ∙ k)) }

once_whole : (t a : Tree) → argument (codes ":-") t ≡ Some a → IsGoalOf t (once a)
once_whole t a e = once_goal (codes ":-") t a e

kept_ready : (t a : Tree) → argument (codes ":-") t ≡ Some a → (o : Option Tree) → argument (codes "initialization") a ≡ o → IsReady t (kept_or_run o a)
kept_ready t a e (Some g) f = goal_further (codes ":-") t a (once g) e (once_goal (codes "initialization") a g f)
kept_ready t a e None f = once_whole t a e

dynamic_ready : (t a : Tree) → argument (codes ":-") t ≡ Some a → (o : Option Tree) → IsReady t (dynamic_or_goal o a)
dynamic_ready t a e (Some specs) = tt
dynamic_ready t a e None = kept_ready t a e (argument (codes "initialization") a) refl

goal_ready : (t a : Tree) → argument (codes ":-") t ≡ Some a → (b : Bool) → IsReady t (if b then Nothing else dynamic_or_goal (argument (codes "dynamic") a) a)
goal_ready t a e true = tt
goal_ready t a e false = dynamic_ready t a e (argument (codes "dynamic") a)

query_ready : (t : Tree) (o : Option Tree) → argument (codes "?-") t ≡ o → IfSome (of_query o) (IsReady t)
query_ready t None e = tt
query_ready t (Some g) e = once_goal (codes "?-") t g e

directive_ready : (t : Tree) (o : Option Tree) → argument (codes ":-") t ≡ o → IfSome (of_directive o t) (IsReady t)
directive_ready t None e = query_ready t (argument (codes "?-") t) refl
directive_ready t (Some a) e = goal_ready t a e (says_nothing a)

-- what declares no operators is ready
pub ready : (t : Tree) (d : Option Directive) → d ≡ by_declaring None t → IfSome d (IsReady t)
ready t d e = subst (λ (o : Option Directive). IfSome o (IsReady t)) (sym e) (directive_ready t (argument (codes ":-") t) refl)

pub ready_result : (t : Tree) (r : Result (Option Directive) Want) → IfOk r (λ d. d ≡ by_declaring None t) → IfOk r (λ d. IfSome d (IsReady t))
ready_result t (Ok d) e = ready t d e
ready_result t (Err w) e = tt

pub none_declared : (t : Tree) (r : Result (Option Directive) Want) → declaring_of t ≡ None → IfOk r (λ d. d ≡ by_declaring None t) → IfOk r (λ d. d ≡ directive_of t)
none_declared t (Ok d) h e = e ∙ ap (λ (o : Option Declaring). by_declaring o t) (sym h)
none_declared t (Err w) h e = tt
