-- Compounds, cells and lists, by their nodes.
use Rattle.std.proofs.Common.{◌≡◌, ℕ, List, ◌∷◌, ◌++◌, Bool, true, ◌==◌, codes, take, drop, refl, sym, ap, ◌∙◌, subst, append-nil, arith}
use Rattle.std.proofs.Math.Seq.{drop-append_seam, take-append_seam}
use Rattle.std.proofs.lemmas.Bool.{and_parts, eqb-true, true≢false}
use Rattle.prolog_terms.specs.Tree.{Tree, Trees, variable, integer, atom, compound, none, more, count, HasArities, AllHaveArities}
use Rattle.prolog_terms.specs.Flat.{nodes, nodes_all, tree, tree-nodes, HasPrefixOrder, IsPrefixOrder-tree}
use Rattle.prolog_terms.specs.Clauses.{is_named}
use Rattle.prolog_terms.specs.declared.node.Node.{Node}
use Rattle.prolog_clauses.specs.Flat.{span, begins_with}
use Rattle.prolog_clauses.specs.Declarations.{is_cell, elements, list_end}
use Rattle.prolog_clauses.specs.Cells.{IsCell}
use Rattle.prolog_clauses.proofs.Spans.{span_one}

pub is_prefix : (t : Tree) (ns : List Node) → HasArities t → ns ≡ nodes t → HasPrefixOrder ns
is_prefix t ns h e = IsPrefixOrder-tree ns (t, (h, sym e))

pub prefix_tree : (t : Tree) (ns : List Node) → ns ≡ nodes t → tree ns ≡ t
prefix_tree t ns e = ap tree e ∙ tree-nodes t

-- ---- the first tree

pub front_is : (t : Tree) (ts : Trees) (ns : List Node) → nodes_all (more t ts) ≡ ns → take (span 1 ns) ns ≡ nodes t
front_is t ts ns e =
    subst (λ l. take (span 1 l) l ≡ nodes t) e (ap (λ k. take k (nodes t ++ nodes_all ts)) (span_one t (nodes_all ts)) ∙ take-append_seam (nodes t) (nodes_all ts))

pub back_is : (t : Tree) (ts : Trees) (ns : List Node) → nodes_all (more t ts) ≡ ns → drop (span 1 ns) ns ≡ nodes_all ts
back_is t ts ns e =
    subst (λ l. drop (span 1 l) l ≡ nodes_all ts) e (ap (λ k. drop k (nodes t ++ nodes_all ts)) (span_one t (nodes_all ts)) ∙ drop-append_seam (nodes t) (nodes_all ts))

-- ---- a compound of a name and so many arguments

pub record Opened (name : List ℕ) (k : ℕ) (ns : List Node) : Type 0 where
  pub text : List ℕ
  pub arguments : Trees
  pub named : is_named name text ≡ true
  pub counted : count arguments ≡ k
  pub same : tree ns ≡ compound text arguments
  pub spelled : nodes_all arguments ≡ drop 1 ns
  pub bounded : AllHaveArities arguments

opened_tree : (name : List ℕ) (k : ℕ) (t : Tree) → HasArities t → begins_with name k (nodes t) ≡ true → Opened name k (nodes t)
opened_tree name k (variable n) h e = absurd (true≢false (sym e))
opened_tree name k (integer z) h e = absurd (true≢false (sym e))
opened_tree name k (atom a) h e = absurd (true≢false (sym e))
opened_tree name k (compound f ts) h e =
    let p = and_parts (is_named name f) (count ts == k) e in
    record {
      text = f;
      arguments = ts;
      named = p.0;
      counted = eqb-true (count ts) k p.1;
      same = tree-nodes (compound f ts);
      spelled = refl;
      bounded = h.2;
    }

pub opened : (name : List ℕ) (k : ℕ) (ns : List Node) → HasPrefixOrder ns → begins_with name k ns ≡ true → Opened name k ns
opened name k ns h e = subst (Opened name k) h.spelled (opened_tree name k (tree ns) h.arities (ap (begins_with name k) h.spelled ∙ e))

-- ---- a cell

cell_elements : (f : List ℕ) (a r : Tree) (b : Bool) → is_cell f ≡ b → b ≡ true → elements (compound f (more a (more r none))) ≡ a ∷ elements r
cell_elements f a r b e h = rw (e ∙ h) refl

cell_end : (f : List ℕ) (a r : Tree) (b : Bool) → is_cell f ≡ b → b ≡ true → list_end (compound f (more a (more r none))) ≡ list_end r
cell_end f a r b e h = rw (e ∙ h) refl

-- the nodes of a cell's element and of its rest
pub record CellOf (ns : List Node) : Type 0 where
  pub element : Tree
  pub rest : Tree
  pub cell : IsCell (tree ns) element rest
  pub spelled : nodes_all (more element (more rest none)) ≡ drop 1 ns
  pub element_arities : HasArities element
  pub rest_arities : HasArities rest

cell_opened : (ns : List Node) (f : List ℕ) (us : Trees) → is_cell f ≡ true → count us ≡ 2 → tree ns ≡ compound f us → nodes_all us ≡ drop 1 ns → AllHaveArities us → CellOf ns
cell_opened ns f none named c same spelled h = absurd (omega arith)
cell_opened ns f (more a none) named c same spelled h = absurd (omega arith)
cell_opened ns f (more a (more r none)) named c same spelled h =
    record {
      element = a;
      rest = r;
      cell = record { elements = ap elements same ∙ cell_elements f a r true named refl; ends = ap list_end same ∙ cell_end f a r true named refl };
      spelled = spelled;
      element_arities = h.0;
      rest_arities = h.1.0;
    }
cell_opened ns f (more a (more r (more x us))) named c same spelled h = absurd (omega arith)

pub cell_of : (ns : List Node) → HasPrefixOrder ns → begins_with (codes ".") 2 ns ≡ true → CellOf ns
cell_of ns h e =
    let o = opened (codes ".") 2 ns h e in
    cell_opened ns o.text o.arguments o.named o.counted o.same o.spelled o.bounded

pub cell_parts : (ns front back : List Node) (k : CellOf ns) → front ≡ nodes k.element → back ≡ nodes_all (more k.rest none) → IsCell (tree ns) (tree front) (tree back)
cell_parts ns front back k e f =
    let first : tree front ≡ k.element = prefix_tree k.element front e in
    let rest : tree back ≡ k.rest = prefix_tree k.rest back (f ∙ append-nil (nodes k.rest)) in
    record {
      elements = k.cell.elements ∙ (ap (λ t. t ∷ elements k.rest) (sym first) ∙ ap (λ t. tree front ∷ elements t) (sym rest));
      ends = k.cell.ends ∙ ap list_end (sym rest);
    }
