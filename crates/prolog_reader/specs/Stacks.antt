-- Terms that are kept as their nodes, with the newest last.
use Rattle.std.specs.Prelude.{◌≡◌, List, []}
use Rattle.std.proofs.Common.{refl, ap, ◌∙◌, subst, append-nil}
use Rattle.std.specs.Coded.{Coded, code_by, coded_list}
use Rattle.prolog_terms.specs.Tree.{Trees, none, more}
use Rattle.prolog_terms.specs.Flat.{forest, nodes_all, chained, forest-nodes_all, node_code}
use Rattle.prolog_terms.specs.declared.node.Node.{Node}
use Rattle.prolog_reader.specs.Grammar.{stack}

chained-none : (ts : Trees) → chained ts none ≡ ts
chained-none none = refl
chained-none (more t ts) = ap (more t) (chained-none ts)

pub forest-all : (ts : Trees) → forest (nodes_all ts) ≡ ts
forest-all ts = subst (λ l. forest l ≡ ts) (append-nil (nodes_all ts)) (forest-nodes_all ts [] ∙ chained-none ts)

abbrev pub trees_code : Coded Trees
trees_code = code_by (List Node) (coded_list node_code) nodes_all forest forest-all

abbrev pub the_stack : List Node → Trees
the_stack ns = stack none ns
