-- The cells of a term in prefix order.
use Rattle.std.proofs.Common.{◌≡◌, ℕ, ℤ, ◌<◌, ◌≤◌, List, [], ◌∷◌, ◌++◌, length, reverse, All, true, refl, sym, ap, ap₂, ◌∙◌, arith, subst, append_assoc, append-nil}
use Rattle.std.proofs.lemmas.List.{reverse-append}
use Rattle.std.proofs.lemmas.List.Elements.{All-append, All-head, All-tail, All-nil, All-cons}
use Rattle.prolog_terms.specs.Tree.{Tree, variable, integer, atom, compound}
use Rattle.prolog_terms.specs.Substitutions.{variables_after, all_variables_after, contains, beyond}
use Rattle.prolog_terms.specs.Flat.{nodes, nodes_all}
use Rattle.prolog_terms.specs.declared.node.Node.{Node}
use Rattle.prolog_terms.specs.declared.node.Node.TheVariants.{Functor}
use Rattle.term_store.specs.declared.cell.Cell.{Cell}
use Rattle.term_store.specs.declared.cell.Cell.TheVariants as of_cell
use Rattle.term_store.specs.declared.cell.View.{View}
use Rattle.term_store.specs.declared.cell.View.TheVariants as of_view
use Rattle.term_store.specs.Shape.{Shape}
use Rattle.term_store.specs.Terms.{value, trees_of, IsCell, IsNamed, AreNamed, IsShape}
use Rattle.term_store.specs.Views.{Sees, Looks, tree_of}
use Rattle.term_store.specs.Work.{size, size_all, plain}
use Rattle.term_store.specs.Puts.{AreFit}
use Rattle.term_store.specs.Compares.{args_of}
use Rattle.term_store.specs.Copies.{node_at, nodes_at, IsUnfolded, IsUnfolding, IsMet, AreEnough}
use Rattle.term_store.proofs.Arities.{count-trees, terms-arities}
use Rattle.term_store.proofs.Seen.{looks-value, looks-args}
use Rattle.term_store.proofs.Steps.{size-append}
use Rattle.term_store.proofs.Puts.{fit-term}
use Rattle.term_store.proofs.Readings.{after-append, no_cells}
use Rattle.term_store.proofs.Compared.{looks-named, size-args}
use Rattle.term_store.proofs.Orders.{IsFront, front-after, stays-met, met-variable}

-- ---- one cell

looks-cells : (s : Shape) (c : Cell) (view : View) → IsShape s → Looks s c view → All (IsCell s) (args_of view)
looks-cells s c (of_view.Variable v) h l = All-nil (IsCell s)
looks-cells s c (of_view.Integer z) h l = All-nil (IsCell s)
looks-cells s c (of_view.Atom n) h l = All-nil (IsCell s)
looks-cells s c (of_view.Compound f args) h l = looks-args s c f args h l

spelled-view : (s : Shape) (c end : Cell) (view : View) → IsShape s → Looks s c view → Sees s end view → (name : ℕ → List ℕ)
    → nodes (value name s c) ≡ node_at name s.compounds end ∷ nodes_all (trees_of (value name s) (args_of view))
spelled-view s c end (of_view.Variable v) h l e name = ap nodes (looks-value s c (of_view.Variable v) h l name) ∙ ap (λ (d : Cell). node_at name s.compounds d ∷ []) (sym e)
spelled-view s c end (of_view.Integer z) h l e name = ap nodes (looks-value s c (of_view.Integer z) h l name) ∙ ap (λ (d : Cell). node_at name s.compounds d ∷ []) (sym e)
spelled-view s c end (of_view.Atom n) h l e name = ap nodes (looks-value s c (of_view.Atom n) h l name) ∙ ap (λ (d : Cell). node_at name s.compounds d ∷ []) (sym e)
spelled-view s c end (of_view.Compound f args) h l e name =
    let below = nodes_all (trees_of (value name s) args.now) in
    ap nodes (looks-value s c (of_view.Compound f args) h l name)
    ∙ ap (λ (n : ℕ). Functor (name f) n ∷ below) (count-trees (value name s) args.now)
    ∙ sym (ap (λ (d : Cell). node_at name s.compounds d ∷ below) e.1 ∙ ap (λ (row : ℕ × List Cell). Functor (name row.0) (length row.1) ∷ below) e.3)

module _ (s : Shape) (c end : Cell) (view : View) (h : IsShape s) (looks : Looks s c view) (sees : Sees s end view) (ended : IsCell s end)
    (end_named : (most : ℕ) → AreNamed most s → IsNamed most c → IsNamed most end) (todo : List Cell) where
  unfolded : (after : List Cell) (seen met : List ℕ) (written longer : List Cell) → reverse after ≡ args_of view ++ reverse todo → longer ≡ written ++ end ∷ []
      → ((name : ℕ → List ℕ) → all_variables_after met (trees_of (value name s) (args_of view)) ≡ variables_after seen (tree_of name (value name s) view))
      → IsMet met end → ((v : ℕ) → contains v seen ≡ true → contains v met ≡ true) → IsUnfolded s c todo after seen met written longer
  unfolded after seen met written longer pushed written_is found met_is stays = record {
    end = end;
    args = args_of view;
    todo_is = pushed;
    longer_is = written_is;
    valid = (ended, looks-cells s c view h looks);
    named = λ most n has. (end_named most n has, (λ k d lt. ((looks-named s most c view h n has looks).1 k d lt).1));
    spelled = spelled-view s c end view h looks sees;
    met_is = met_is;
    stays = stays;
    found = λ name. found name ∙ sym (ap (variables_after seen) (looks-value s c view h looks name));
    smaller = let a = ap size (looks-value s c view h looks plain) in let b = size-args (value plain s) view in omega (arith, a, b);
  }

  -- the view as it is known in a case
  found-in : (seen met : List ℕ) (w : View) → view ≡ w → ((name : ℕ → List ℕ) → all_variables_after met (trees_of (value name s) (args_of w)) ≡ variables_after seen (tree_of name (value name s) w))
      → (name : ℕ → List ℕ) → all_variables_after met (trees_of (value name s) (args_of view)) ≡ variables_after seen (tree_of name (value name s) view)
  found-in seen met w e f =
      subst (λ (x : View). (name : ℕ → List ℕ) → all_variables_after met (trees_of (value name s) (args_of x)) ≡ variables_after seen (tree_of name (value name s) x)) (sym e) f

  pub unfolded-variable : (v : ℕ) (seen met : List ℕ) (written longer : List Cell) → view ≡ of_view.Variable v → met ≡ variables_after seen (variable v) → longer ≡ written ++ end ∷ []
      → IsUnfolded s c todo todo seen met written longer
  unfolded-variable v seen met written longer e is written_is =
      unfolded todo seen met written longer (ap (λ (x : View). args_of x ++ reverse todo) (sym e)) written_is (found-in seen met (of_view.Variable v) e (λ name. is))
      (subst (IsMet met) (sym (subst (Sees s end) e sees)) (subst (λ (ns : List ℕ). contains v ns ≡ true) (sym is) (met-variable seen v)))
      (λ w k. stays-met seen met (subst (IsFront seen) (sym is) (front-after seen (variable v))) w k)

  pub unfolded-integer : (z : ℤ) (seen : List ℕ) (written longer : List Cell) → view ≡ of_view.Integer z → longer ≡ written ++ end ∷ [] → IsUnfolded s c todo todo seen seen written longer
  unfolded-integer z seen written longer e written_is =
      unfolded todo seen seen written longer (ap (λ (x : View). args_of x ++ reverse todo) (sym e)) written_is (found-in seen seen (of_view.Integer z) e (λ name. refl))
      (subst (IsMet seen) (sym (subst (Sees s end) e sees)) tt) (λ w k. k)

  pub unfolded-atom : (n : ℕ) (seen : List ℕ) (written longer : List Cell) → view ≡ of_view.Atom n → longer ≡ written ++ end ∷ [] → IsUnfolded s c todo todo seen seen written longer
  unfolded-atom n seen written longer e written_is =
      unfolded todo seen seen written longer (ap (λ (x : View). args_of x ++ reverse todo) (sym e)) written_is (found-in seen seen (of_view.Atom n) e (λ name. refl))
      (subst (IsMet seen) (sym (subst (Sees s end) e sees)) tt) (λ w k. k)

  pub unfolded-compound : (f : ℕ) (args : _) (after : List Cell) (seen : List ℕ) (written longer : List Cell) → view ≡ of_view.Compound f args → reverse after ≡ args.now ++ reverse todo
      → longer ≡ written ++ end ∷ [] → IsUnfolded s c todo after seen seen written longer
  unfolded-compound f args after seen written longer e pushed written_is =
      unfolded after seen seen written longer (pushed ∙ ap (λ (x : View). args_of x ++ reverse todo) (sym e)) written_is (found-in seen seen (of_view.Compound f args) e (λ name. refl))
      (let at = subst (Sees s end) e sees in subst (IsMet seen) (sym at.1) tt) (λ w k. k)

-- ---- the whole

nodes_at-append : (name : ℕ → List ℕ) (rows : List (ℕ × List Cell)) (cs ds : List Cell) → nodes_at name rows (cs ++ ds) ≡ nodes_at name rows cs ++ nodes_at name rows ds
nodes_at-append name rows [] ds = refl
nodes_at-append name rows (c ∷ cs) ds = ap (λ (ns : List Node). node_at name rows c ∷ ns) (nodes_at-append name rows cs ds)

below-append : (f : Cell → Tree) (cs ds : List Cell) → nodes_all (trees_of f (cs ++ ds)) ≡ nodes_all (trees_of f cs) ++ nodes_all (trees_of f ds)
below-append f [] ds = refl
below-append f (c ∷ cs) ds = ap (λ (ns : List Node). nodes (f c) ++ ns) (below-append f cs ds) ∙ sym (append_assoc (nodes (f c)) (nodes_all (trees_of f cs)) (nodes_all (trees_of f ds)))

pub unfolding-start : (s : Shape) (c : Cell) → IsCell s c → IsUnfolding s c (c ∷ []) [] []
unfolding-start s c w = record {
  valid = All-cons (IsCell s) c [] w (All-nil (IsCell s));
  cells = All-nil (IsCell s);
  met = All-nil (IsMet []);
  named = λ most n has. (All-cons (IsNamed most) c [] has (All-nil (IsNamed most)), All-nil (IsNamed most));
  spelled = λ name. sym (append-nil (nodes (value name s c)));
  found = λ name. refl;
}

module _ (s : Shape) (c : Cell) (old todo after written longer : List Cell) (seen met : List ℕ) (d : Cell) (popped : old ≡ todo ++ d ∷ []) (going : IsUnfolding s c old written seen) where
  turned : reverse old ≡ d ∷ reverse todo
  turned = ap reverse popped ∙ reverse-append todo (d ∷ [])

  pub unfolding-cell : IsCell s d
  unfolding-cell = All-head (IsCell s) d (reverse todo) (subst (All (IsCell s)) turned going.valid)

  -- what was met stays met
  met-later : IsUnfolded s d todo after seen met written longer → (e : Cell) → IsMet seen e → IsMet met e
  met-later u (of_cell.Variable v) h = u.stays v h
  met-later u (of_cell.Integer z) h = tt
  met-later u (of_cell.Atom n) h = tt
  met-later u (of_cell.Compound i) h = tt

  pub unfolding-step : IsUnfolded s d todo after seen met written longer → IsUnfolding s c after longer met
  unfolding-step u = record {
    valid = subst (All (IsCell s)) (sym u.todo_is) (All-append (IsCell s) u.args (reverse todo) u.valid.1 (All-tail (IsCell s) d (reverse todo) (subst (All (IsCell s)) turned going.valid)));
    met = subst (All (IsMet met)) (sym u.longer_is)
        (All-append (IsMet met) written (u.end ∷ []) (λ k e lt. met-later u _ (going.met k e lt)) (All-cons (IsMet met) u.end [] u.met_is (All-nil (IsMet met))));
    cells = subst (All (IsCell s)) (sym u.longer_is) (All-append (IsCell s) written (u.end ∷ []) going.cells (All-cons (IsCell s) u.end [] u.valid.0 (All-nil (IsCell s))));
    named = λ most n has.
        let all = going.named most n has in
        let left = subst (All (IsNamed most)) turned all.0 in
        let here = u.named most n (All-head (IsNamed most) d (reverse todo) left) in (
          subst (All (IsNamed most)) (sym u.todo_is) (All-append (IsNamed most) u.args (reverse todo) here.1 (All-tail (IsNamed most) d (reverse todo) left)),
          subst (All (IsNamed most)) (sym u.longer_is) (All-append (IsNamed most) written (u.end ∷ []) all.1 (All-cons (IsNamed most) u.end [] here.0 (All-nil (IsNamed most)))),
        );
    spelled = λ name.
        let rows = s.compounds in let f = value name s in
        going.spelled name
        ∙ ap (λ (cs : List Cell). nodes_at name rows written ++ nodes_all (trees_of f cs)) turned
        ∙ ap (λ (ns : List Node). nodes_at name rows written ++ (ns ++ nodes_all (trees_of f (reverse todo)))) (u.spelled name)
        ∙ sym (append_assoc (nodes_at name rows written) (node_at name rows u.end ∷ []) _)
        ∙ ap₂ (λ (ns ms : List Node). ns ++ ms) (sym (nodes_at-append name rows written (u.end ∷ [])) ∙ ap (nodes_at name rows) (sym u.longer_is)) (sym (below-append f u.args (reverse todo)))
        ∙ ap (λ (cs : List Cell). nodes_at name rows longer ++ nodes_all (trees_of f cs)) (sym u.todo_is);
    found = λ name.
        let f = value name s in
        ap (λ (cs : List Cell). all_variables_after met (trees_of f cs)) u.todo_is
        ∙ after-append met f u.args (reverse todo)
        ∙ ap (λ (ns : List ℕ). all_variables_after ns (trees_of f (reverse todo))) (u.found name)
        ∙ sym (ap (λ (cs : List Cell). all_variables_after seen (trees_of f cs)) turned) ∙ going.found name;
  }

  pub unfolding-smaller : IsUnfolded s d todo after seen met written longer → size_all (trees_of (value plain s) (reverse after)) < size_all (trees_of (value plain s) (reverse old))
  unfolding-smaller u =
      let a = ap (λ (cs : List Cell). size_all (trees_of (value plain s) cs)) turned in
      let b = ap (λ (cs : List Cell). size_all (trees_of (value plain s) cs)) u.todo_is ∙ size-append (value plain s) u.args (reverse todo) in
      let k = u.smaller in omega (arith, a, b, k)

pub unfolding-end : (s : Shape) (c : Cell) (todo written : List Cell) (seen : List ℕ) → length todo ≡ 0 → IsUnfolding s c todo written seen → IsUnfolding s c [] written seen
unfolding-end s c todo written seen e going = subst (λ (cs : List Cell). IsUnfolding s c cs written seen) (no_cells todo e) going

-- something is written
no-nodes : (t : Tree) → nodes t ≡ [] → ⊥
no-nodes (variable v) e = cc
no-nodes (integer z) e = cc
no-nodes (atom a) e = cc
no-nodes (compound f ts) e = cc

pub unfolding-some : (s : Shape) (c : Cell) (written : List Cell) (seen : List ℕ) → IsUnfolding s c [] written seen → 1 ≤ length written
unfolding-some s c [] seen going = absurd (no-nodes (value plain s c) (going.spelled plain))
unfolding-some s c (d ∷ ds) seen going = omega arith

-- what is written has enough cells behind each compound
enough-fit : (m : ℕ) (rows : List (ℕ × List Cell)) (cs : List Cell) → AreFit m 0 (nodes_at plain rows cs) → AreEnough rows cs
enough-fit m rows [] h = tt
enough-fit m rows (of_cell.Variable v ∷ cs) h = (omega arith, enough-fit m rows cs h.1)
enough-fit m rows (of_cell.Integer z ∷ cs) h = (omega arith, enough-fit m rows cs h.1)
enough-fit m rows (of_cell.Atom n ∷ cs) h = (omega arith, enough-fit m rows cs h.1)
enough-fit m rows (of_cell.Compound i ∷ cs) h = (h.0.2, enough-fit m rows cs h.1)

pub unfolding-enough : (s : Shape) (c : Cell) (written : List Cell) (seen : List ℕ) → IsShape s → IsCell s c → IsUnfolding s c [] written seen → AreEnough s.compounds written
unfolding-enough s c written seen h w going =
    let t = value plain s c in
    let fit : AreFit (beyond t) 0 (nodes t) = fit-term (beyond t) 0 t (omega arith) (terms-arities s plain c h w).1 in
    enough-fit (beyond t) s.compounds written (subst (AreFit (beyond t) 0) (going.spelled plain ∙ append-nil (nodes_at plain s.compounds written)) fit)
