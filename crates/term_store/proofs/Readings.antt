-- A term that is read out of a store.
use Rattle.std.proofs.Common.{◌≡◌, ℕ, ℤ, ◌+◌, ◌<◌, ◌≤◌, List, [], ◌∷◌, ◌++◌, length, reverse, All, true, refl, sym, ap, ap₂, ◌∙◌, arith, subst, append_assoc, append-nil}
use Rattle.std.proofs.lemmas.List.{reverse-append}
use Rattle.std.proofs.lemmas.List.Elements.{All-append, All-head, All-tail, All-nil, All-cons}
use Rattle.prolog_terms.specs.Tree.{Tree, variable, integer, atom, compound, count}
use Rattle.prolog_terms.specs.Substitutions.{substituted, all_substituted, variables, variables_after, all_variables_after, place_of, contains}
use Rattle.prolog_terms.specs.Flat.{nodes, nodes_all, tree, tree-nodes}
use Rattle.prolog_terms.specs.declared.node.Node.{Node}
use Rattle.prolog_terms.specs.declared.node.Node.TheVariants.{Var, Int, Atom, Functor}
use Rattle.term_store.specs.declared.cell.Cell.{Cell}
use Rattle.term_store.specs.declared.cell.View.{View}
use Rattle.term_store.specs.declared.cell.View.TheVariants as of_view
use Rattle.term_store.specs.Shape.{Shape}
use Rattle.term_store.specs.Terms.{text, value, term_of, trees_of, IsNamed, HasTerm, AreNamed, IsShape}
use Rattle.term_store.specs.Views.{Looks, tree_of}
use Rattle.term_store.specs.Work.{size, size_all, plain}
use Rattle.term_store.specs.Reads.{numbered, IsRead, IsPartlyRead}
use Rattle.term_store.proofs.Trees.{size_pos}
use Rattle.term_store.proofs.Seen.{looks-value, looks-args}
use Rattle.term_store.proofs.Orders.{front-all_after, place-old, met-variable}

-- ---- one cell

module _ (s : Shape) (texts : List (List ℕ)) (c : Cell) (view : View) (h : IsShape s) (looks : Looks s c view) (todo : List Cell) where
  is : term_of texts s c ≡ tree_of (text texts) (term_of texts s) view
  is = looks-value s c view h looks (text texts)

  -- what is no compound
  leaf : (after : List Cell) (seen met : List ℕ) (written longer : List Node) (node : Node) (t : Tree) → term_of texts s c ≡ t → after ≡ todo → longer ≡ written ++ node ∷ []
      → ((later : List ℕ) → nodes (substituted (numbered (met ++ later)) t) ≡ node ∷ []) → met ≡ variables_after seen t → IsRead texts s c todo after seen met written longer
  leaf after seen met written longer node t e same pushed spelled found = record {
    node = node;
    args = [];
    todo_is = ap reverse same;
    longer_is = pushed;
    valid = All-nil (HasTerm (length texts) s);
    spelled = λ later. ap (λ (u : Tree). nodes (substituted (numbered (met ++ later)) u)) e ∙ spelled later;
    found = found ∙ sym (ap (variables_after seen) e);
    smaller = size_pos (value plain s c);
  }

  pub read-variable : (v place : ℕ) (seen met : List ℕ) (written longer : List Node) → view ≡ of_view.Variable v → place ≡ place_of v met → met ≡ variables_after seen (variable v)
      → longer ≡ written ++ Var place ∷ [] → IsRead texts s c todo todo seen met written longer
  read-variable v place seen met written longer e at found pushed =
      leaf todo seen met written longer (Var place) (variable v) (is ∙ ap (tree_of (text texts) (term_of texts s)) e) refl pushed
      (λ later. ap (λ (n : ℕ). Var n ∷ []) (place-old v met later (subst (λ (ns : List ℕ). contains v ns ≡ true) (sym found) (met-variable seen v)) ∙ sym at)) found

  pub read-integer : (z : ℤ) (seen : List ℕ) (written longer : List Node) → view ≡ of_view.Integer z → longer ≡ written ++ Int z ∷ [] → IsRead texts s c todo todo seen seen written longer
  read-integer z seen written longer e pushed =
      leaf todo seen seen written longer (Int z) (integer z) (is ∙ ap (tree_of (text texts) (term_of texts s)) e) refl pushed (λ later. refl) refl

  pub read-atom : (n : ℕ) (name : List ℕ) (seen : List ℕ) (written longer : List Node) → view ≡ of_view.Atom n → text texts n ≡ name → longer ≡ written ++ Atom name ∷ []
      → IsRead texts s c todo todo seen seen written longer
  read-atom n name seen written longer e named pushed =
      leaf todo seen seen written longer (Atom name) (atom name) (is ∙ ap (tree_of (text texts) (term_of texts s)) e ∙ ap atom named) refl pushed (λ later. refl) refl

  -- a compound
  count-args : (r : ℕ → Tree) (f : Cell → Tree) (cs : List Cell) → count (all_substituted r (trees_of f cs)) ≡ length cs
  count-args r f [] = refl
  count-args r f (d ∷ cs) = let k = count-args r f cs in omega (arith, k)

  pub read-compound : (f : ℕ) (args : _) (name : List ℕ) (arity : ℕ) (after : List Cell) (seen : List ℕ) (written longer : List Node) → view ≡ of_view.Compound f args → text texts f ≡ name
      → arity ≡ length args.now → reverse after ≡ args.now ++ reverse todo → longer ≡ written ++ Functor name arity ∷ [] → All (HasTerm (length texts) s) args.now
      → IsRead texts s c todo after seen seen written longer
  read-compound f args name arity after seen written longer e named long pushed written_is valid =
      let it : term_of texts s c ≡ compound name (trees_of (term_of texts s) args.now) = is ∙ ap (tree_of (text texts) (term_of texts s)) e ∙ ap (λ (a : List ℕ). compound a (trees_of (term_of texts s) args.now)) named in
      record {
        node = Functor name arity;
        args = args.now;
        todo_is = pushed;
        longer_is = written_is;
        valid = valid;
        spelled = λ later. ap (λ (u : Tree). nodes (substituted (numbered (seen ++ later)) u)) it
            ∙ ap (λ (n : ℕ). Functor name n ∷ nodes_all (all_substituted (numbered (seen ++ later)) (trees_of (term_of texts s) args.now)))
            (count-args (numbered (seen ++ later)) (term_of texts s) args.now ∙ sym long);
        found = sym (ap (variables_after seen) it);
        smaller =
            let k = ap size (looks-value s c view h looks plain ∙ ap (tree_of plain (value plain s)) e) in omega (arith, k);
      }

-- names and arguments of what is seen
pub looks-atom : (s : Shape) (count' n : ℕ) (c : Cell) → AreNamed count' s → IsNamed count' c → Looks s c (of_view.Atom n) → n < count'
looks-atom s count' n c named has l = subst (IsNamed count') l.sees (l.named count' named has)

pub looks-functor : (s : Shape) (count' f : ℕ) (c : Cell) (args : _) → IsShape s → AreNamed count' s → Looks s c (of_view.Compound f args) → (f < count') × All (HasTerm count' s) args.now
looks-functor s count' f c args h named l =
    let row = named.compounds l.sees.0 l.sees.2 in
    let it = subst (λ (r : ℕ × List Cell). (r.0 < count') × All (IsNamed count') r.1) l.sees.3 row in
    let cells = looks-args s c f args h l in
    (it.0, λ k d lt. (cells k d lt, it.1 k d lt))

-- ---- the whole

nodes-append : (r : ℕ → Tree) (f : Cell → Tree) (cs ds : List Cell)
    → nodes_all (all_substituted r (trees_of f (cs ++ ds))) ≡ nodes_all (all_substituted r (trees_of f cs)) ++ nodes_all (all_substituted r (trees_of f ds))
nodes-append r f [] ds = refl
nodes-append r f (c ∷ cs) ds =
    ap (λ (ns : List Node). nodes (substituted r (f c)) ++ ns) (nodes-append r f cs ds)
    ∙ sym (append_assoc (nodes (substituted r (f c))) (nodes_all (all_substituted r (trees_of f cs))) (nodes_all (all_substituted r (trees_of f ds))))

pub after-append : (seen : List ℕ) (f : Cell → Tree) (cs ds : List Cell) → all_variables_after seen (trees_of f (cs ++ ds)) ≡ all_variables_after (all_variables_after seen (trees_of f cs)) (trees_of f ds)
after-append seen f [] ds = refl
after-append seen f (c ∷ cs) ds = after-append (variables_after seen (f c)) f cs ds

size-append : (f : Cell → Tree) (cs ds : List Cell) → size_all (trees_of f (cs ++ ds)) ≡ size_all (trees_of f cs) + size_all (trees_of f ds)
size-append f [] ds = omega arith
size-append f (c ∷ cs) ds = let h = size-append f cs ds in omega (arith, h)

pub partly-start : (texts : List (List ℕ)) (s : Shape) (c : Cell) → HasTerm (length texts) s c → IsPartlyRead texts s (term_of texts s c) (c ∷ []) [] []
partly-start texts s c has = record {
  valid = All-cons (HasTerm (length texts) s) c [] has (All-nil (HasTerm (length texts) s));
  spelled = sym (append-nil (nodes (substituted (numbered (variables (term_of texts s c))) (term_of texts s c))));
  found = refl;
}

module _ (texts : List (List ℕ)) (s : Shape) (t : Tree) (old todo after : List Cell) (seen met : List ℕ) (written longer : List Node) (c : Cell)
    (popped : old ≡ todo ++ c ∷ []) (partly : IsPartlyRead texts s t old seen written) where
  turned : reverse old ≡ c ∷ reverse todo
  turned = ap reverse popped ∙ reverse-append todo (c ∷ [])

  pub partly-cell : HasTerm (length texts) s c
  partly-cell = All-head (HasTerm (length texts) s) c (reverse todo) (subst (All (HasTerm (length texts) s)) turned partly.valid)

  pub partly-step : IsRead texts s c todo after seen met written longer → IsPartlyRead texts s t after met longer
  partly-step read =
      let all = variables t in
      let found : all_variables_after met (trees_of (term_of texts s) (reverse after)) ≡ all =
      ap (λ (cs : List Cell). all_variables_after met (trees_of (term_of texts s) cs)) read.todo_is
      ∙ after-append met (term_of texts s) read.args (reverse todo)
      ∙ ap (λ (ns : List ℕ). all_variables_after ns (trees_of (term_of texts s) (reverse todo))) read.found
      ∙ sym (ap (λ (cs : List Cell). all_variables_after seen (trees_of (term_of texts s) cs)) turned) ∙ partly.found in
      let front = front-all_after met (trees_of (term_of texts s) (reverse after)) in
      let all_is : all ≡ met ++ front.later = sym found ∙ front.all_is in
      let r = numbered all in
      let here : nodes (substituted r (term_of texts s c)) ≡ read.node ∷ nodes_all (all_substituted r (trees_of (term_of texts s) read.args)) =
      subst (λ (ns : List ℕ). nodes (substituted (numbered ns) (term_of texts s c)) ≡ read.node ∷ nodes_all (all_substituted (numbered ns) (trees_of (term_of texts s) read.args))) (sym all_is) (read.spelled front.later) in
      record {
        valid = subst (All (HasTerm (length texts) s)) (sym read.todo_is)
            (All-append (HasTerm (length texts) s) read.args (reverse todo) read.valid (All-tail (HasTerm (length texts) s) c (reverse todo) (subst (All (HasTerm (length texts) s)) turned partly.valid)));
        spelled = partly.spelled
            ∙ ap (λ (cs : List Cell). written ++ nodes_all (all_substituted r (trees_of (term_of texts s) cs))) turned
            ∙ ap (λ (ns : List Node). written ++ (ns ++ nodes_all (all_substituted r (trees_of (term_of texts s) (reverse todo))))) here
            ∙ sym (append_assoc written (read.node ∷ []) _)
            ∙ ap₂ (λ (ns ms : List Node). ns ++ ms) (sym read.longer_is) (sym (nodes-append r (term_of texts s) read.args (reverse todo)))
            ∙ ap (λ (cs : List Cell). longer ++ nodes_all (all_substituted r (trees_of (term_of texts s) cs))) (sym read.todo_is);
        found = found;
      }

  pub partly-smaller : IsRead texts s c todo after seen met written longer
      → size_all (trees_of (value plain s) (reverse after)) < size_all (trees_of (value plain s) (reverse old))
  partly-smaller read =
      let a = ap (λ (cs : List Cell). size_all (trees_of (value plain s) cs)) turned in
      let b = ap (λ (cs : List Cell). size_all (trees_of (value plain s) cs)) read.todo_is ∙ size-append (value plain s) read.args (reverse todo) in
      let k = read.smaller in omega (arith, a, b, k)

pub no_cells : (cs : List Cell) → length cs ≡ 0 → cs ≡ []
no_cells [] e = refl
no_cells (c ∷ cs) e = absurd (omega arith)

pub partly-end : (texts : List (List ℕ)) (s : Shape) (t : Tree) (todo : List Cell) (seen : List ℕ) (written : List Node) → length todo ≡ 0 → IsPartlyRead texts s t todo seen written
    → nodes (substituted (numbered (variables t)) t) ≡ written
partly-end texts s t todo seen written none_left partly =
    partly.spelled ∙ ap (λ (cs : List Cell). written ++ nodes_all (all_substituted (numbered (variables t)) (trees_of (term_of texts s) (reverse cs)))) (no_cells todo none_left) ∙ append-nil written

-- trees with the same nodes are one
pub same-nodes : (t u : Tree) → nodes t ≡ nodes u → t ≡ u
same-nodes t u e = sym (tree-nodes t) ∙ ap tree e ∙ tree-nodes u

pub looks-few : (s : Shape) (c : Cell) (f : ℕ) (args : _) → IsShape s → Looks s c (of_view.Compound f args) → (1 ≤ length args.now) × (length args.now ≤ 255)
looks-few s c f args h l =
    let row = h.compounds l.sees.0 l.sees.2 in
    subst (λ (r : ℕ × List Cell). (1 ≤ length r.1) × (length r.1 ≤ 255)) l.sees.3 (row.some, row.few)
