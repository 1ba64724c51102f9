-- The terms that conjunctions join, by nodes in prefix order.
use Rattle.std.proofs.Common.{◌≡◌, ℕ, zero, suc, ◌<◌, List, [], ◌∷◌, ◌++◌, length, Bool, true, false, ◌&&◌, ◌==◌, codes, drop, refl, sym, ap, ◌∙◌, subst, length-append, append_assoc, append-nil, arith}
use Rattle.std.proofs.lemmas.Bool.{and_parts, eqb-true, true≢false}
use Rattle.prolog_terms.specs.Tree.{Tree, Trees, variable, integer, atom, compound, none, more, count, HasArities, AllHaveArities}
use Rattle.prolog_terms.specs.Flat.{nodes, nodes_all, forest, forest-nodes_all, chained, tree, HasPrefixOrder}
use Rattle.prolog_terms.specs.Clauses.{is_named}
use Rattle.prolog_terms.specs.declared.node.Node.{Node}
use Rattle.prolog_clauses.specs.Flat.{begins_with}
use Rattle.prolog_clauses.specs.Dynamics.{conjuncts}
use Rattle.prolog_clauses.specs.Procedures.{all_conjuncts, ArePrefixOrders}
use Rattle.prolog_clauses.proofs.Lists.{is_prefix, prefix_tree}

-- ---- trees and their nodes

chained-none : (ts : Trees) → chained ts none ≡ ts
chained-none none = refl
chained-none (more t ts) = ap (more t) (chained-none ts)

forest_of : (ts : Trees) → forest (nodes_all ts) ≡ ts
forest_of ts = ap forest (sym (append-nil (nodes_all ts))) ∙ (forest-nodes_all ts [] ∙ chained-none ts)

pub are_prefix : (ts : Trees) (ns : List Node) → AllHaveArities ts → ns ≡ nodes_all ts → ArePrefixOrders ns
are_prefix ts ns h e =
    subst ArePrefixOrders (sym e) (record { arities = subst AllHaveArities (sym (forest_of ts)) h; spelled = ap nodes_all (forest_of ts) })

pub forest_is : (ts : Trees) (ns : List Node) → ns ≡ nodes_all ts → forest ns ≡ ts
forest_is ts ns e = ap forest e ∙ forest_of ts

pub one_tree : (ns : List Node) → HasPrefixOrder ns → ArePrefixOrders ns
one_tree ns h = are_prefix (more (tree ns) none) ns (h.arities, tt) (sym (append-nil (nodes (tree ns)) ∙ h.spelled))

pub conjuncts_one : (ns : List Node) → HasPrefixOrder ns → all_conjuncts (forest ns) ≡ conjuncts (tree ns)
conjuncts_one ns h =
    ap all_conjuncts (forest_is (more (tree ns) none) ns (sym (append-nil (nodes (tree ns)) ∙ h.spelled))) ∙ append-nil (conjuncts (tree ns))

-- ---- a comma is passed

-- the trees behind it join the same
pub record Passed (all : Trees) : Type 0 where
  pub trees : Trees
  pub spelled : drop 1 (nodes_all all) ≡ nodes_all trees
  pub arities : AllHaveArities trees
  pub same : all_conjuncts trees ≡ all_conjuncts all

joined : (f : List ℕ) (a b : Tree) (x : Bool) → is_named (codes ",") f ≡ x → x ≡ true → conjuncts (compound f (more a (more b none))) ≡ conjuncts a ++ conjuncts b
joined f a b x e h = rw (e ∙ h) refl

comma_passed : (f : List ℕ) (us ts : Trees) → is_named (codes ",") f ≡ true → count us ≡ 2 → AllHaveArities us → AllHaveArities ts → Passed (more (compound f us) ts)
comma_passed f none ts named c h k = absurd (omega arith)
comma_passed f (more a none) ts named c h k = absurd (omega arith)
comma_passed f (more a (more b none)) ts named c h k =
    record {
      trees = more a (more b ts);
      spelled = ap (λ l. (nodes a ++ l) ++ nodes_all ts) (append-nil (nodes b)) ∙ append_assoc (nodes a) (nodes b) (nodes_all ts);
      arities = (h.0, (h.1.0, k));
      same = sym (append_assoc (conjuncts a) (conjuncts b) (all_conjuncts ts)) ∙ ap (λ l. l ++ all_conjuncts ts) (sym (joined f a b true named refl));
    }
comma_passed f (more a (more b (more x us))) ts named c h k = absurd (omega arith)

first_passed : (ts : Trees) → AllHaveArities ts → begins_with (codes ",") 2 (nodes_all ts) ≡ true → Passed ts
first_passed none h e = absurd (true≢false (sym e))
first_passed (more (variable n) ts) h e = absurd (true≢false (sym e))
first_passed (more (integer z) ts) h e = absurd (true≢false (sym e))
first_passed (more (atom a) ts) h e = absurd (true≢false (sym e))
first_passed (more (compound f us) ts) h e =
    let p = and_parts (is_named (codes ",") f) (count us == 2) e in
    comma_passed f us ts p.0 (eqb-true (count us) 2 p.1) h.0.2 h.1

passed : (ns : List Node) → ArePrefixOrders ns → begins_with (codes ",") 2 ns ≡ true → Passed (forest ns)
passed ns h e = first_passed (forest ns) h.arities (ap (begins_with (codes ",") 2) h.spelled ∙ e)

pub passed_prefix : (ns : List Node) → ArePrefixOrders ns → begins_with (codes ",") 2 ns ≡ true → ArePrefixOrders (drop 1 ns)
passed_prefix ns h e =
    let p = passed ns h e in
    are_prefix p.trees (drop 1 ns) p.arities (ap (drop 1) (sym h.spelled) ∙ p.spelled)

pub passed_same : (ns : List Node) → ArePrefixOrders ns → begins_with (codes ",") 2 ns ≡ true → all_conjuncts (forest (drop 1 ns)) ≡ all_conjuncts (forest ns)
passed_same ns h e =
    let p = passed ns h e in
    ap all_conjuncts (forest_is p.trees (drop 1 ns) (ap (drop 1) (sym h.spelled) ∙ p.spelled)) ∙ p.same

-- ---- any other tree is a term

-- the first term and the trees behind it
pub record Next (ns : List Node) : Type 0 where
  pub term : Tree
  pub behind : Trees
  pub spelled : nodes_all (more term behind) ≡ ns
  pub term_arities : HasArities term
  pub behind_arities : AllHaveArities behind
  pub same : all_conjuncts (forest ns) ≡ term ∷ all_conjuncts behind
  pub some : 0 < length (nodes term)

and_second : (b : Bool) → (b && true) ≡ false → b ≡ false
and_second true e = e
and_second false e = refl

alone : (f : List ℕ) (a b : Tree) (x : Bool) → is_named (codes ",") f ≡ x → x ≡ false → conjuncts (compound f (more a (more b none))) ≡ compound f (more a (more b none)) ∷ []
alone f a b x e h = rw (e ∙ h) refl

no_comma : (t : Tree) (ns : List Node) → begins_with (codes ",") 2 (nodes t ++ ns) ≡ false → conjuncts t ≡ t ∷ []
no_comma (variable n) ns e = refl
no_comma (integer z) ns e = refl
no_comma (atom a) ns e = refl
no_comma (compound f none) ns e = refl
no_comma (compound f (more a none)) ns e = refl
no_comma (compound f (more a (more b none))) ns e = alone f a b (is_named (codes ",") f) refl (and_second (is_named (codes ",") f) e)
no_comma (compound f (more a (more b (more x us)))) ns e = refl

some_nodes : (t : Tree) → 0 < length (nodes t)
some_nodes (variable n) = omega arith
some_nodes (integer z) = omega arith
some_nodes (atom a) = omega arith
some_nodes (compound f ts) = omega arith

next_of : (ns : List Node) (ts : Trees) → forest ns ≡ ts → AllHaveArities ts → nodes_all ts ≡ ns → 0 < length ns → begins_with (codes ",") 2 ns ≡ false → Next ns
next_of ns none e h s low f = absurd (omega (arith, ap length s, low))
next_of ns (more t ts) e h s low f =
    record {
      term = t;
      behind = ts;
      spelled = s;
      term_arities = h.0;
      behind_arities = h.1;
      same = ap all_conjuncts e ∙ ap (λ l. l ++ all_conjuncts ts) (no_comma t (nodes_all ts) (ap (begins_with (codes ",") 2) s ∙ f));
      some = some_nodes t;
    }

some_left : (n : ℕ) → (n == 0) ≡ false → 0 < n
some_left zero e = absurd (true≢false e)
some_left (suc n) e = omega arith

pub next : (ns : List Node) → ArePrefixOrders ns → (length ns == 0) ≡ false → begins_with (codes ",") 2 ns ≡ false → Next ns
next ns h low f = next_of ns (forest ns) refl h.arities h.spelled (some_left (length ns) low) f

pub next_same : (ns front back : List Node) (k : Next ns) → front ≡ nodes k.term → back ≡ nodes_all k.behind → all_conjuncts (forest ns) ≡ tree front ∷ all_conjuncts (forest back)
next_same ns front back k e f =
    k.same ∙ (ap (λ t. t ∷ all_conjuncts k.behind) (sym (prefix_tree k.term front e)) ∙ ap (λ ts. tree front ∷ all_conjuncts ts) (sym (forest_is k.behind back f)))

pub next_prefix : (ns front : List Node) (k : Next ns) → front ≡ nodes k.term → HasPrefixOrder front
next_prefix ns front k e = is_prefix k.term front k.term_arities e

pub next_behind : (ns back : List Node) (k : Next ns) → back ≡ nodes_all k.behind → ArePrefixOrders back
next_behind ns back k f = are_prefix k.behind back k.behind_arities f

pub next_shorter : (ns back : List Node) (k : Next ns) → back ≡ nodes_all k.behind → length back < length ns
next_shorter ns back k f = omega (arith, ap length f, ap length k.spelled, length-append (nodes k.term) (nodes_all k.behind), k.some)
