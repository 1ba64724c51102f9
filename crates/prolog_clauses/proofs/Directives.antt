-- The arguments of a directive, by its nodes.
use Rattle.std.proofs.Common.{◌≡◌, ℕ, List, [], ◌∷◌, Bool, true, Some, None, if◌then◌else◌, codes, drop, refl, sym, ap, ◌∙◌, append-nil, arith}
use Rattle.prolog_terms.specs.Tree.{Tree, Trees, compound, none, more, count, HasArities, AllHaveArities}
use Rattle.prolog_terms.specs.Flat.{nodes, nodes_all, tree, tree-nodes, HasPrefixOrder}
use Rattle.prolog_terms.specs.Clauses.{is_named}
use Rattle.prolog_terms.specs.declared.node.Node.{Node}
use Rattle.prolog_clauses.specs.Flat.{begins_with}
use Rattle.prolog_clauses.specs.Declarations.{arguments, op_arguments, directive_arguments, declaring, declaring_with, declaring_of}
use Rattle.prolog_clauses.specs.declared.operators.Declaring.{Declaring}
use Rattle.prolog_clauses.proofs.Lists.{is_prefix, prefix_tree, opened}

-- the nodes of the directive's arguments
pub record Directive (ns : List Node) : Type 0 where
  pub priority : Tree
  pub kind : Tree
  pub names : Tree
  pub spelled : nodes_all (more priority (more kind (more names none))) ≡ drop 2 ns
  pub same : directive_arguments (tree ns) ≡ Some (arguments priority kind names)
  pub priority_arities : HasArities priority
  pub kind_arities : HasArities kind
  pub names_arities : HasArities names

chosen : {A : Type 0} (b : Bool) (x y : A) → b ≡ true → (if b then x else y) ≡ x
chosen b x y e = rw e refl

-- ---- the goal is `op` of three arguments

record Goal (ns : List Node) : Type 0 where
  priority : Tree
  kind : Tree
  names : Tree
  spelled : nodes_all (more priority (more kind (more names none))) ≡ drop 1 ns
  same : op_arguments (tree ns) ≡ Some (arguments priority kind names)
  priority_arities : HasArities priority
  kind_arities : HasArities kind
  names_arities : HasArities names

goal_opened : (ns : List Node) (f : List ℕ) (us : Trees) → is_named (codes "op") f ≡ true → count us ≡ 3 → tree ns ≡ compound f us → nodes_all us ≡ drop 1 ns → AllHaveArities us → Goal ns
goal_opened ns f none named c same spelled h = absurd (omega arith)
goal_opened ns f (more p none) named c same spelled h = absurd (omega arith)
goal_opened ns f (more p (more t none)) named c same spelled h = absurd (omega arith)
goal_opened ns f (more p (more t (more n none))) named c same spelled h =
    record {
      priority = p;
      kind = t;
      names = n;
      spelled = spelled;
      same = ap op_arguments same ∙ chosen (is_named (codes "op") f) (Some (arguments p t n)) None named;
      priority_arities = h.0;
      kind_arities = h.1.0;
      names_arities = h.1.1.0;
    }
goal_opened ns f (more p (more t (more n (more x us)))) named c same spelled h = absurd (omega arith)

-- ---- the directive

drop-two : (ns : List Node) → drop 1 (drop 1 ns) ≡ drop 2 ns
drop-two [] = refl
drop-two (n ∷ ns) = refl

directive_opened : (ns : List Node) (f : List ℕ) (us : Trees) → is_named (codes ":-") f ≡ true → count us ≡ 1 → tree ns ≡ compound f us → nodes_all us ≡ drop 1 ns → AllHaveArities us
    → begins_with (codes "op") 3 (drop 1 ns) ≡ true → Directive ns
directive_opened ns f none named c same spelled h e = absurd (omega arith)
directive_opened ns f (more g none) named c same spelled h e =
    let spelt : nodes g ≡ drop 1 ns = sym (append-nil (nodes g)) ∙ spelled in
    let o = opened (codes "op") 3 (nodes g) (is_prefix g (nodes g) h.0 refl) (ap (begins_with (codes "op") 3) spelt ∙ e) in
    let inner = goal_opened (nodes g) o.text o.arguments o.named o.counted o.same o.spelled o.bounded in
    record {
      priority = inner.priority;
      kind = inner.kind;
      names = inner.names;
      spelled = inner.spelled ∙ (ap (drop 1) spelt ∙ drop-two ns);
      same = ap directive_arguments same ∙ (chosen (is_named (codes ":-") f) (op_arguments g) None named ∙ (ap op_arguments (sym (tree-nodes g)) ∙ inner.same));
      priority_arities = inner.priority_arities;
      kind_arities = inner.kind_arities;
      names_arities = inner.names_arities;
    }
directive_opened ns f (more g (more x us)) named c same spelled h e = absurd (omega arith)

pub directive : (ns : List Node) → HasPrefixOrder ns → begins_with (codes ":-") 1 ns ≡ true → begins_with (codes "op") 3 (drop 1 ns) ≡ true → Directive ns
directive ns h e g =
    let o = opened (codes ":-") 1 ns h e in
    directive_opened ns o.text o.arguments o.named o.counted o.same o.spelled o.bounded g

-- the nodes of its arguments give what is declared
pub declared_by : (ns : List Node) (t : Tree) (d : Directive ns) (p k n : List Node) (x : Declaring) → tree ns ≡ t → p ≡ nodes d.priority → k ≡ nodes d.kind → n ≡ nodes d.names
    → x ≡ declaring (arguments (tree p) (tree k) (tree n)) → Some x ≡ declaring_of t
declared_by ns t d p k n x same e f g h =
    let first = ap (λ u. arguments u (tree k) (tree n)) (prefix_tree d.priority p e) in
    let second = ap (λ u. arguments d.priority u (tree n)) (prefix_tree d.kind k f) in
    let third = ap (λ u. arguments d.priority d.kind u) (prefix_tree d.names n g) in
    ap Some (h ∙ ap declaring (first ∙ (second ∙ third))) ∙ sym (ap declaring_with (ap directive_arguments (sym same) ∙ d.same))
