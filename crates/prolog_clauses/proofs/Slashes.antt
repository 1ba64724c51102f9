-- The term N/A, by its nodes.
use Rattle.std.proofs.Common.{◌≡◌, ℕ, pos, negsuc, List, Bool, true, false, ◌&&◌, ◌||◌, nat_le, Some, None, if◌then◌else◌, codes, drop, refl, sym, ap, ◌∙◌, subst, append-nil, arith}
use Rattle.std.proofs.lemmas.Bool.{and_left}
use Rattle.prolog_terms.specs.Tree.{Tree, Trees, variable, integer, atom, compound, none, more, count, HasArities, AllHaveArities}
use Rattle.prolog_terms.specs.Flat.{nodes, nodes_all, tree, HasPrefixOrder}
use Rattle.prolog_terms.specs.Clauses.{is_named}
use Rattle.prolog_terms.specs.declared.node.Node.{Node}
use Rattle.prolog_terms.specs.declared.entry.Indicator.{Indicator}
use Rattle.prolog_clauses.specs.Flat.{begins_with}
use Rattle.prolog_clauses.specs.Declarations.{is_variable}
use Rattle.prolog_clauses.specs.Dynamics.{is_unbound, spec_indicator, indicator_named}
use Rattle.prolog_clauses.specs.Procedures.{IsSlash, IsNoSlash}
use Rattle.prolog_clauses.proofs.Lists.{prefix_tree, opened}

-- ---- the term is one

-- the nodes of N and of A
pub record SlashOf (ns : List Node) : Type 0 where
  pub name : Tree
  pub arity : Tree
  pub slash : IsSlash (tree ns) name arity
  pub spelled : nodes_all (more name (more arity none)) ≡ drop 1 ns
  pub name_arities : HasArities name
  pub arity_arities : HasArities arity

bound_so : (b x : Bool) → b ≡ true → (b && x) ≡ x
bound_so b x e = rw e refl

some_named : (b c x : Bool) (i : Indicator) → b ≡ true → c ≡ true → (if b && x then Some i else None) ≡ (if c && x then Some i else None)
some_named b c x i e f = rw (e, f) refl

slash_named : is_named (codes "/") (codes "/") ≡ true
slash_named = refl

same_indicator : (f : List ℕ) (n a : Tree) → is_named (codes "/") f ≡ true → indicator_named f n a ≡ indicator_named (codes "/") n a
same_indicator f (atom n) (integer (pos a)) e = some_named (is_named (codes "/") f) true (nat_le a 255) (record { name = n; arity = a }) e refl
same_indicator f (atom n) (integer (negsuc a)) e = refl
same_indicator f (atom n) (variable a) e = refl
same_indicator f (atom n) (atom a) e = refl
same_indicator f (atom n) (compound g ts) e = refl
same_indicator f (variable n) a e = refl
same_indicator f (integer n) a e = refl
same_indicator f (compound g ts) a e = refl

slash_opened : (ns : List Node) (f : List ℕ) (us : Trees) → is_named (codes "/") f ≡ true → count us ≡ 2 → tree ns ≡ compound f us → nodes_all us ≡ drop 1 ns → AllHaveArities us → SlashOf ns
slash_opened ns f none named c same spelled h = absurd (omega arith)
slash_opened ns f (more n none) named c same spelled h = absurd (omega arith)
slash_opened ns f (more n (more a none)) named c same spelled h =
    record {
      name = n;
      arity = a;
      slash = record {
        unbound = ap is_unbound same ∙ bound_so (is_named (codes "/") f) (is_variable n || is_variable a) named;
        indicator = ap spec_indicator same ∙ same_indicator f n a named;
      };
      spelled = spelled;
      name_arities = h.0;
      arity_arities = h.1.0;
    }
slash_opened ns f (more n (more a (more x us))) named c same spelled h = absurd (omega arith)

pub slash_of : (ns : List Node) → HasPrefixOrder ns → begins_with (codes "/") 2 ns ≡ true → SlashOf ns
slash_of ns h e =
    let o = opened (codes "/") 2 ns h e in
    slash_opened ns o.text o.arguments o.named o.counted o.same o.spelled o.bounded

pub slash_parts : (ns front back : List Node) (k : SlashOf ns) → front ≡ nodes k.name → back ≡ nodes_all (more k.arity none) → IsSlash (tree ns) (tree front) (tree back)
slash_parts ns front back k e f =
    let name : k.name ≡ tree front = sym (prefix_tree k.name front e) in
    let arity : k.arity ≡ tree back = sym (prefix_tree k.arity back (f ∙ append-nil (nodes k.arity))) in
    subst (λ a. IsSlash (tree ns) (tree front) a) arity (subst (λ n. IsSlash (tree ns) n k.arity) name k.slash)

-- ---- the term is none

no_slash_name : (f : List ℕ) (n a : Tree) → is_named (codes "/") f ≡ false → indicator_named f n a ≡ None
no_slash_name f (atom n) (integer (pos a)) e = rw e refl
no_slash_name f (atom n) (integer (negsuc a)) e = refl
no_slash_name f (atom n) (variable a) e = refl
no_slash_name f (atom n) (atom a) e = refl
no_slash_name f (atom n) (compound g ts) e = refl
no_slash_name f (variable n) a e = refl
no_slash_name f (integer n) a e = refl
no_slash_name f (compound g ts) a e = refl

and_second : (b : Bool) → (b && true) ≡ false → b ≡ false
and_second true e = e
and_second false e = refl

no_slash_tree : (t : Tree) → begins_with (codes "/") 2 (nodes t) ≡ false → IsNoSlash t
no_slash_tree (variable n) e = record { unbound = refl; indicator = refl }
no_slash_tree (integer z) e = record { unbound = refl; indicator = refl }
no_slash_tree (atom a) e = record { unbound = refl; indicator = refl }
no_slash_tree (compound f none) e = record { unbound = refl; indicator = refl }
no_slash_tree (compound f (more n none)) e = record { unbound = refl; indicator = refl }
no_slash_tree (compound f (more n (more a none))) e =
    let named : is_named (codes "/") f ≡ false = and_second (is_named (codes "/") f) e in
    record {
      unbound = and_left (is_named (codes "/") f) (is_variable n || is_variable a) named;
      indicator = no_slash_name f n a named;
    }
no_slash_tree (compound f (more n (more a (more x us)))) e = record { unbound = refl; indicator = refl }

pub no_slash : (ns : List Node) → HasPrefixOrder ns → begins_with (codes "/") 2 ns ≡ false → IsNoSlash (tree ns)
no_slash ns h e = no_slash_tree (tree ns) (ap (begins_with (codes "/") 2) h.spelled ∙ e)
