-- The terms that stand for procedures, by their nodes, and what each says.
use Rattle.std.specs.Prelude.{◌≡◌, ℕ, ℤ, pos, negsuc, ◌||◌, List, [], ◌++◌, nat_le, codes, Option, Some, None, if◌then◌else◌}
use Rattle.prolog_terms.specs.Tree.{Tree, Trees, none, more, AllHaveArities}
use Rattle.prolog_terms.specs.Flat.{tree, forest, nodes_all, HasPrefixOrder}
use Rattle.prolog_terms.specs.declared.node.Node.{Node}
use Rattle.prolog_clauses.specs.Declarations.{is_variable, elements}
use Rattle.prolog_clauses.specs.Dynamics.{conjuncts, is_unbound, spec_indicator, indicator_named}
use Rattle.prolog_clauses.specs.declared.terms.Form.{Form}
use Rattle.prolog_clauses.specs.declared.terms.Form.TheVariants.{Listed, Joined}

-- ---- those that are left

-- the list is the prefix order of the trees that it gives
pub record ArePrefixOrders (ns : List Node) : Type 0 where
  pub arities : AllHaveArities (forest ns)
  pub spelled : nodes_all (forest ns) ≡ ns

-- the terms that conjunctions join, in order
abbrev pub all_conjuncts : Trees → List Tree
all_conjuncts none = []
all_conjuncts (more t ts) = conjuncts t ++ all_conjuncts ts

-- the elements of the list, or the terms that the conjunctions that are left join
abbrev pub terms_left : Form → List Node → List Tree
terms_left Listed ns = elements (tree ns)
terms_left Joined ns = all_conjuncts (forest ns)

-- the nodes are those of a list, or of the conjunctions that are left
abbrev pub AreLeft : Form → List Node → Type 0
AreLeft Listed ns = HasPrefixOrder ns
AreLeft Joined ns = ArePrefixOrders ns

-- ---- what a term says

-- the term is N/A
pub record IsSlash (t name arity : Tree) : Type 0 where
  pub unbound : is_unbound t ≡ (is_variable name || is_variable arity)
  pub indicator : spec_indicator t ≡ indicator_named (codes "/") name arity

-- the term is none
pub record IsNoSlash (t : Tree) : Type 0 where
  pub unbound : is_unbound t ≡ is_variable t
  pub indicator : spec_indicator t ≡ None

-- the arity that an integer is
abbrev pub arity_of : ℤ → Option ℕ
arity_of (pos n) = if nat_le n 255 then Some n else None
arity_of (negsuc n) = None
