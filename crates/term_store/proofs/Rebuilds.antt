-- New cells of a term's cells, from the last to the first, and the copy that they are.
use Rattle.std.proofs.Common.{◌≡◌, ℕ, ℤ, zero, suc, ◌+◌, ◌-◌, ◌<◌, ◌≤◌, List, [], ◌∷◌, ◌++◌, length, reverse, drop, All, Bool, true, false, Option, Some, None, refl, sym, ap, ap₂, ◌∙◌, arith, subst, append-nil, length-append, slice_index_or}
use Rattle.std.specs.Prelude.{◌||◌, ◌==◌, if◌then◌else◌, IfSome, IsNone}
use Rattle.std.specs.BTreeMap.{get, BTreeMap}
use Rattle.std.specs.Ordering.{nat_cmp}
use Rattle.std.proofs.lemmas.List.{reverse-append, length-reverse}
use Rattle.std.proofs.lemmas.List.Elements.{All-head, All-tail, All-nil, All-cons}
use Rattle.std.proofs.Math.Seq.{get_or-append_seam, drop-cons}
use Rattle.prolog_terms.specs.Tree.{Tree, Trees, variable, integer, atom, compound, none, more, count}
use Rattle.prolog_terms.specs.Substitutions.{substituted, all_substituted, variables, variables_after, all_variables_after, contains, place_of, numbered, renamed}
use Rattle.prolog_terms.specs.Flat.{nodes, forest, forest-nodes}
use Rattle.prolog_terms.specs.declared.node.Node.{Node}
use Rattle.prolog_terms.specs.declared.node.Node.TheVariants.{Var, Int, Atom, Functor}
use Rattle.term_store.specs.declared.cell.Cell.{Cell}
use Rattle.term_store.specs.declared.cell.Cell.TheVariants as of_cell
use Rattle.term_store.specs.Inside.{ArePlaced}
use Rattle.term_store.specs.Shape.{Shape}
use Rattle.term_store.specs.Terms.{text, value, term_of, trees_of, row_at, raw_by, bindings_by, resolved, lookup, IsCell, IsNamed, IsShape}
use Rattle.term_store.specs.Later.{IsLater, mark_of, back}
use Rattle.term_store.specs.Work.{plain}
use Rattle.term_store.specs.Copies.{IsCopy, node_at, nodes_at, IsUnfolding, arity_at, behind, placed_at, IsRebuilt, IsRebuilding, AreEnough, IsMade, IsMet}
use Rattle.term_store.proofs.Trees.{substituted-substituted, substituted-same, same_first}
use Rattle.term_store.proofs.Bindings.{resolved_unbound}
use Rattle.term_store.proofs.Rows.{trees_of-same, row-left, raw-variable, raw-integer, raw-atom, raw-compound, raw-later}
use Rattle.term_store.proofs.Shapes.{shape-compound}
use Rattle.term_store.proofs.Steps.{All-front}
use Rattle.term_store.proofs.Values.{free-unbound}
use Rattle.term_store.proofs.Arities.{count-trees}
use Rattle.term_store.proofs.Laws.{later-itself, later-further, later-variables, later-compound, cell-later, named-compound, are_named-variables, new-free, back-at-mark}
use Rattle.term_store.proofs.Puts.{all-right, first-row, past-row, first-substituted, past-substituted, count-substituted}
use Rattle.term_store.proofs.Orders.{front-all_after, not-met}
use Rattle.term_store.proofs.Fronts.{some-tree}

-- ---- places

place-low : (v : ℕ) (ns : List ℕ) → contains v ns ≡ true → place_of v ns < length ns
place-low v [] h = cc
place-low v (n ∷ ns) h = go (v == n) h (place-low v ns)
  where
    go : (b : Bool) → (b || contains v ns) ≡ true → (contains v ns ≡ true → place_of v ns < length ns) → (if b then 0 else suc (place_of v ns)) < suc (length ns)
    go true e f = omega arith
    go false e f = let low = f e in omega (arith, low)

found-place : (order : List ℕ) (places : BTreeMap ℕ ℕ) (v n : ℕ) → ArePlaced order places → get nat_cmp places v ≡ Some n → (n ≡ place_of v order) × (n < length order)
found-place order places v n h e = go (contains v order) refl (sym (h v) ∙ e)
  where
    go : (b : Bool) → contains v order ≡ b → (if b then Some (place_of v order) else None) ≡ Some n → (n ≡ place_of v order) × (n < length order)
    go true q k = let same : n ≡ place_of v order = cc in (same, subst (λ (m : ℕ). m < length order) (sym same) (place-low v order q))
    go false q k = cc

pub found-option : (order : List ℕ) (places : BTreeMap ℕ ℕ) (v : ℕ) (o : Option ℕ) → ArePlaced order places → o ≡ get nat_cmp places v
    → IfSome o (λ n. n ≡ place_of v order) × IfSome o (λ n. n < length order)
found-option order places v None h e = (tt, tt)
found-option order places v (Some n) h e = found-place order places v n h (sym e)

pub found-none : (order : List ℕ) (places : BTreeMap ℕ ℕ) (v : ℕ) (o : Option ℕ) → ArePlaced order places → o ≡ get nat_cmp places v → IsNone o → contains v order ≡ false
found-none order places v None h e is = not-met order places v h (sym e)
found-none order places v (Some n) h e is = cc

-- ---- a cell on a stack

turned : (rest stack : List Cell) (c : Cell) → stack ≡ rest ++ c ∷ [] → reverse stack ≡ c ∷ reverse rest
turned rest stack c e = ap reverse e ∙ reverse-append rest (c ∷ [])

all-push : (P : Cell → Type 0) (stack after : List Cell) (c : Cell) → after ≡ stack ++ c ∷ [] → P c → All P (reverse stack) → All P (reverse after)
all-push P stack after c e p ps = subst (All P) (sym (turned stack after c e)) (All-cons P c (reverse stack) p ps)

-- ---- a cell that is no compound

rebuilt-leaf : (r : ℕ → Tree) (s : Shape) (c d : Cell) (stack after : List Cell) → IsCell s d → ((most : ℕ) → IsNamed most c → IsNamed most d)
    → ((name : ℕ → List ℕ) (ts : Trees) → more (raw_by name s.compounds d) ts ≡ placed_at r (node_at name s.compounds c) ts)
    → All (IsCell s) (reverse stack) → after ≡ stack ++ d ∷ [] → IsRebuilt r s s c stack after
rebuilt-leaf r s c d stack after w has is valid pushed = record {
  same = refl;
  valid = all-push (IsCell s) stack after d pushed w valid;
  named = λ most n own all. (n, all-push (IsNamed most) stack after d pushed (has most own) all);
  trees = λ name. ap (trees_of (raw_by name s.compounds)) (turned stack after d pushed) ∙ is name (trees_of (raw_by name s.compounds) (reverse stack));
}

pub rebuilt-variable : (s : Shape) (c : Cell) (v place from : ℕ) (seen : List ℕ) (stack after : List Cell) → c ≡ of_cell.Variable v → place ≡ place_of v seen → place < length seen
    → from + length seen ≤ s.variables → All (IsCell s) (reverse stack) → after ≡ stack ++ of_cell.Variable (from + place) ∷ [] → IsRebuilt (behind from seen) s s c stack after
rebuilt-variable s c v place from seen stack after e at low fits valid pushed =
    subst (λ (d : Cell). IsRebuilt (behind from seen) s s d stack after) (sym e)
    (rebuilt-leaf (behind from seen) s (of_cell.Variable v) (of_cell.Variable (from + place)) stack after (let w : from + place < s.variables = omega (arith, low, fits) in w) (λ most h. tt)
    (λ name ts. ap (λ (t : Tree). more t ts) (raw-variable name s.compounds (from + place) ∙ ap (λ (n : ℕ). variable (from + n)) at)) valid pushed)

pub rebuilt-integer : (r : ℕ → Tree) (s : Shape) (c : Cell) (z : ℤ) (stack after : List Cell) → c ≡ of_cell.Integer z → All (IsCell s) (reverse stack) → after ≡ stack ++ c ∷ []
    → IsRebuilt r s s c stack after
rebuilt-integer r s c z stack after e valid pushed =
    subst (λ (d : Cell). IsRebuilt r s s d stack after) (sym e)
    (rebuilt-leaf r s (of_cell.Integer z) (of_cell.Integer z) stack after tt (λ most h. tt) (λ name ts. ap (λ (t : Tree). more t ts) (raw-integer name s.compounds z)) valid
    (pushed ∙ ap (λ (d : Cell). stack ++ d ∷ []) e))

pub rebuilt-atom : (r : ℕ → Tree) (s : Shape) (c : Cell) (n : ℕ) (stack after : List Cell) → c ≡ of_cell.Atom n → All (IsCell s) (reverse stack) → after ≡ stack ++ c ∷ []
    → IsRebuilt r s s c stack after
rebuilt-atom r s c n stack after e valid pushed =
    subst (λ (d : Cell). IsRebuilt r s s d stack after) (sym e)
    (rebuilt-leaf r s (of_cell.Atom n) (of_cell.Atom n) stack after tt (λ most h. h) (λ name ts. ap (λ (t : Tree). more t ts) (raw-atom name s.compounds n)) valid
    (pushed ∙ ap (λ (d : Cell). stack ++ d ∷ []) e))

-- ---- a compound

pub few-there : (s : Shape) (i f : ℕ) (args : List Cell) → IsShape s → i < length s.compounds → row_at s.compounds i ≡ (f, args) → (1 ≤ length args) × (length args ≤ 255)
few-there s i f args h low is =
    let row = h.compounds i low in subst (λ (r : ℕ × List Cell). (1 ≤ length r.1) × (length r.1 ≤ 255)) is (row.some, row.few)

pub row-valid : (s : Shape) (stack row rest : List Cell) → All (IsCell s) (reverse stack) → reverse stack ≡ row ++ reverse rest → All (IsCell s) row
row-valid s stack row rest valid taken = All-front (IsCell s) (reverse stack) row (reverse rest) taken valid

module _ (s : Shape) (i f : ℕ) (args stack row rest after : List Cell) (h : IsShape s) (low : i < length s.compounds) (is : row_at s.compounds i ≡ (f, args))
    (taken : reverse stack ≡ row ++ reverse rest) (long : length row ≡ length args) (valid : All (IsCell s) (reverse stack))
    (pushed : after ≡ rest ++ of_cell.Compound (length s.compounds) ∷ []) where
  abbrev new : Shape
  new = record s { compounds = s.compounds ++ (f, row) ∷ [] }

  row_cells : All (IsCell s) row
  row_cells = row-valid s stack row rest valid taken

  few : (1 ≤ length row) × (length row ≤ 255)
  few = subst (λ (n : ℕ). (1 ≤ n) × (n ≤ 255)) (sym long) (few-there s i f args h low is)

  rest_cells : All (IsCell s) (reverse rest)
  rest_cells = all-right (IsCell s) row (reverse rest) (subst (All (IsCell s)) taken valid)

  raw-stays : (name : ℕ → List ℕ) (c : Cell) → IsCell s c → raw_by name new.compounds c ≡ raw_by name s.compounds c
  raw-stays name c w = raw-later name s.compounds ((f, row) ∷ []) s.variables h.compounds c w

  inside : length s.compounds < length new.compounds
  inside = let e = length-append s.compounds ((f, row) ∷ []) in omega (arith, e)

  raw-made : (name : ℕ → List ℕ) → raw_by name new.compounds (of_cell.Compound (length s.compounds)) ≡ compound (name f) (trees_of (raw_by name s.compounds) row)
  raw-made name =
      raw-compound name new.compounds new.variables (shape-compound s f row h few.0 few.1 row_cells).compounds (length s.compounds) inside
      ∙ ap (λ (r : ℕ × List Cell). compound (name r.0) (trees_of (raw_by name new.compounds) r.1)) (get_or-append_seam s.compounds (f, row) [] (0, []))
      ∙ ap (compound (name f)) (trees_of-same (raw_by name new.compounds) (raw_by name s.compounds) (IsCell s) row row_cells (raw-stays name))

  pub rebuilt-compound : (r : ℕ → Tree) → IsRebuilt r s new (of_cell.Compound i) stack after
  rebuilt-compound r = record {
    same = refl;
    valid = all-push (IsCell new) rest after (of_cell.Compound (length s.compounds)) pushed inside
        (λ k d lt. cell-later s new _ (later-compound s (f, row)) (rest_cells k d lt));
    named = λ most n own all.
        let named_row = subst (λ (x : ℕ × List Cell). (x.0 < most) × All (IsNamed most) x.1) is (n.compounds i low) in (
          named-compound most s f row n named_row.0 (All-front (IsNamed most) (reverse stack) row (reverse rest) taken all),
          all-push (IsNamed most) rest after (of_cell.Compound (length s.compounds)) pushed tt
              (all-right (IsNamed most) row (reverse rest) (subst (All (IsNamed most)) taken all)),
        );
    trees = λ name.
        let g = raw_by name s.compounds in
        ap (trees_of (raw_by name new.compounds)) (turned rest after (of_cell.Compound (length s.compounds)) pushed)
        ∙ ap₂ more (raw-made name) (trees_of-same (raw_by name new.compounds) g (IsCell s) (reverse rest) rest_cells (raw-stays name))
        ∙ sym (ap (λ (x : ℕ × List Cell). placed_at r (Functor (name x.0) (length x.1)) (trees_of g (reverse stack))) is
        ∙ ap₂ (λ (n : ℕ) (cs : List Cell). placed_at r (Functor (name f) n) (trees_of g cs)) (sym long) taken
        ∙ ap₂ (λ (ts us : Trees). more (compound (name f) ts) us) (first-row g row (reverse rest)) (past-row g row (reverse rest)));
  }

-- ---- the whole

forest-placed_at : (r : ℕ → Tree) (n : Node) (ns : List Node) → placed_at r n (all_substituted r (forest ns)) ≡ all_substituted r (forest (n ∷ ns))
forest-placed_at r (Var n) ns = refl
forest-placed_at r (Int z) ns = refl
forest-placed_at r (Atom a) ns = refl
forest-placed_at r (Functor f n) ns = ap₂ (λ (ts us : Trees). more (compound f ts) us) (sym (first-substituted r n (forest ns))) (sym (past-substituted r n (forest ns)))

row-later : (s t : Shape) (i : ℕ) → IsLater s t → i < length s.compounds → row_at t.compounds i ≡ row_at s.compounds i
row-later s t i later low = ap (λ (rows : List (ℕ × List Cell)). row_at rows i) later.compounds ∙ row-left s.compounds later.rows i low

node-later : (s t : Shape) (c : Cell) → IsLater s t → IsCell s c → (name : ℕ → List ℕ) → node_at name t.compounds c ≡ node_at name s.compounds c
node-later s t (of_cell.Variable v) later w name = refl
node-later s t (of_cell.Integer z) later w name = refl
node-later s t (of_cell.Atom n) later w name = refl
node-later s t (of_cell.Compound i) later w name = ap (λ (row : ℕ × List Cell). Functor (name row.0) (length row.1)) (row-later s t i later w)

arity-later : (s t : Shape) (c : Cell) → IsLater s t → IsCell s c → arity_at t.compounds c ≡ arity_at s.compounds c
arity-later s t (of_cell.Variable v) later w = refl
arity-later s t (of_cell.Integer z) later w = refl
arity-later s t (of_cell.Atom n) later w = refl
arity-later s t (of_cell.Compound i) later w = ap (λ (row : ℕ × List Cell). length row.1) (row-later s t i later w)

rebuilding-start : (r : ℕ → Tree) (s : Shape) → IsRebuilding r s s [] []
rebuilding-start r s = record {
  later = later-itself s;
  same = refl;
  valid = All-nil (IsCell s);
  named = λ most n all. (n, All-nil (IsNamed most));
  trees = λ name. refl;
}

drop-all : (cs : List Cell) (n : ℕ) → length cs ≤ n → drop n cs ≡ []
drop-all [] zero h = refl
drop-all [] (suc n) h = refl
drop-all (c ∷ cs) zero h = absurd (omega (arith, h))
drop-all (c ∷ cs) (suc n) h = drop-all cs n (omega (arith, h))

pub rebuilding-first : (r : ℕ → Tree) (s : Shape) (cells stack : List Cell) (n : ℕ) → length cells ≤ n → stack ≡ [] → IsRebuilding r s s (drop n cells) stack
rebuilding-first r s cells stack n le e =
    subst (λ (cs : List Cell). IsRebuilding r s s cs stack) (sym (drop-all cells n le)) (subst (IsRebuilding r s s []) (sym e) (rebuilding-start r s))

enough-drop : (rows : List (ℕ × List Cell)) (cs : List Cell) (i : ℕ) → AreEnough rows cs → AreEnough rows (drop i cs)
enough-drop rows cs zero h = h
enough-drop rows [] (suc i) h = h
enough-drop rows (c ∷ cs) (suc i) h = enough-drop rows cs i h.1

module _ (r : ℕ → Tree) (s t : Shape) (cells stack : List Cell) (at : ℕ) (c d : Cell) (h : All (IsCell s) cells) (some : 0 < at) (low : at ≤ length cells)
    (is : c ≡ slice_index_or cells (at - 1) d) (going : IsRebuilding r s t (drop at cells) stack) where
  one : suc (at - 1) ≡ at
  one = omega (arith, some)

  here : drop (at - 1) cells ≡ c ∷ drop at cells
  here =
      drop-cons cells (at - 1) d (let k : at - 1 < length cells = omega (arith, some, low) in k)
      ∙ ap₂ (λ (e : Cell) (n : ℕ). e ∷ drop n cells) (sym is) one

  cell-here : IsCell s c
  cell-here = subst (IsCell s) (sym is) (h (at - 1) d (omega (arith, some, low)))

  pub rebuilding-cell : IsCell t c
  rebuilding-cell = cell-later s t c going.later cell-here

  pub rebuilding-enough : AreEnough s.compounds cells → arity_at t.compounds c ≤ length stack
  rebuilding-enough enough =
      let k = (subst (AreEnough s.compounds) here (enough-drop s.compounds cells (at - 1) enough)).0 in
      let e = sym (count-substituted r (forest (nodes_at plain s.compounds (drop at cells)))) ∙ sym (ap count (going.trees plain)) ∙ count-trees (raw_by plain t.compounds) (reverse stack) ∙ length-reverse stack in
      let a = arity-later s t c going.later cell-here in omega (arith, k, e, a)

  pub rebuilding-step : (u : Shape) (after : List Cell) → IsLater t u → IsRebuilt r t u c stack after → IsRebuilding r s u (drop (at - 1) cells) after
  rebuilding-step u after later b = subst (λ (cs : List Cell). IsRebuilding r s u cs after) (sym here) (record {
    later = later-further s t u going.later later;
    same = b.same ∙ ap (λ (x : Shape). record x { compounds = u.compounds }) going.same;
    valid = b.valid;
    named = λ most n all.
        let x = going.named most n (All-tail (IsNamed most) c (drop at cells) all) in
        b.named most x.0 (All-head (IsNamed most) c (drop at cells) all) x.1;
    trees = λ name.
        b.trees name ∙ ap (placed_at r (node_at name t.compounds c)) (going.trees name)
        ∙ ap (λ (m : Node). placed_at r m (all_substituted r (forest (nodes_at name s.compounds (drop at cells))))) (node-later s t c going.later cell-here name)
        ∙ forest-placed_at r (node_at name s.compounds c) (nodes_at name s.compounds (drop at cells));
  })

pub rebuilding-end : (r : ℕ → Tree) (s t : Shape) (cells stack rest : List Cell) (c : Cell) (at : ℕ) → at ≡ 0 → IsRebuilding r s t (drop at cells) stack → stack ≡ rest ++ c ∷ [] → IsMade r s t cells c
rebuilding-end r s t cells stack rest c at e going popped =
    let e' = turned rest stack c popped in
    let all : IsRebuilding r s t cells stack = subst (λ (n : ℕ). IsRebuilding r s t (drop n cells) stack) e going in record {
      same = all.same;
      valid = All-head (IsCell t) c (reverse rest) (subst (All (IsCell t)) e' all.valid);
      named = λ most n own. let x = all.named most n own in (x.0, All-head (IsNamed most) c (reverse rest) (subst (All (IsNamed most)) e' x.1));
      tree = λ name u spelled.
          let one : forest (nodes u) ≡ more u none = ap forest (sym (append-nil (nodes u))) ∙ forest-nodes u [] in
          same_first _ _ _ _ (sym (ap (trees_of (raw_by name t.compounds)) e') ∙ all.trees name ∙ ap (λ (ns : List Node). all_substituted r (forest ns)) (sym spelled) ∙ ap (all_substituted r) one);
    }

-- the stack has a cell, where there was one
pub rebuilding-some : (r : ℕ → Tree) (s t : Shape) (cells stack : List Cell) (at : ℕ) → at ≡ 0 → 1 ≤ length cells → IsRebuilding r s t (drop at cells) stack → 1 ≤ length stack
rebuilding-some r s t cells stack at e some going =
    let all : IsRebuilding r s t cells stack = subst (λ (n : ℕ). IsRebuilding r s t (drop n cells) stack) e going in
    let a = sym (count-trees (raw_by plain t.compounds) (reverse stack)) ∙ ap count (all.trees plain) ∙ count-substituted r (forest (nodes_at plain s.compounds cells)) in
    let b = length-reverse stack in
    let few = some-forest cells some in omega (arith, a, b, few)
  where
    some-forest : (cs : List Cell) → 1 ≤ length cs → 1 ≤ count (forest (nodes_at plain s.compounds cs))
    some-forest [] h = absurd (omega arith)
    some-forest (c ∷ cs) h = some-tree (node_at plain s.compounds c) (nodes_at plain s.compounds cs)

-- the next cell has been met
pub rebuilding-met : (seen : List ℕ) (cells : List Cell) (at : ℕ) (c d : Cell) → All (IsMet seen) cells → 0 < at → at ≤ length cells → c ≡ slice_index_or cells (at - 1) d → IsMet seen c
rebuilding-met seen cells at c d all some low e = subst (IsMet seen) (sym e) (all (at - 1) d (omega arith))

-- ---- the copy

no_more : (ns ms : List ℕ) → ns ++ ms ≡ [] → ns ≡ []
no_more [] ms e = refl
no_more (n ∷ ns) ms e = cc

-- a term without variables is the same under each substitution
mutual
  same-ground : (r : ℕ → Tree) (t : Tree) → variables_after [] t ≡ [] → substituted r t ≡ t
  same-ground r (variable n) e = cc
  same-ground r (integer z) e = refl
  same-ground r (atom a) e = refl
  same-ground r (compound f ts) e = ap (compound f) (all_same-ground r ts e)

  all_same-ground : (r : ℕ → Tree) (ts : Trees) → all_variables_after [] ts ≡ [] → all_substituted r ts ≡ ts
  all_same-ground r none e = refl
  all_same-ground r (more t ts) e =
      let front = front-all_after (variables_after [] t) ts in
      let here : variables_after [] t ≡ [] = no_more _ front.later (sym front.all_is ∙ e) in
      ap₂ more (same-ground r t here) (all_same-ground r ts (sym (ap (λ (ns : List ℕ). all_variables_after ns ts) here) ∙ e))

renamed-numbered : (from : ℕ) (t : Tree) → renamed from (numbered t) ≡ substituted (behind from (variables t)) t
renamed-numbered from t = substituted-substituted (λ v. variable (from + v)) (λ v. variable (place_of v (variables t))) t

no_seen : (ns : List ℕ) → length ns ≡ 0 → ns ≡ []
no_seen [] e = refl
no_seen (n ∷ ns) e = absurd (omega arith)

pub copied-ground : (s : Shape) (c : Cell) (cells : List Cell) (seen : List ℕ) → IsCell s c → IsUnfolding s c [] cells seen → length seen ≡ 0 → IsCopy s s c c
copied-ground s c cells seen w going e = record {
  later = later-itself s;
  bindings = refl;
  variables = λ texts. let k = sym (ap length (going.found (text texts))) ∙ e in omega (arith, k);
  valid = w;
  named = λ most n has. (n, has);
  term = λ texts.
      let t = term_of texts s c in
      sym (renamed-numbered s.variables t ∙ same-ground (behind s.variables (variables t)) t (sym (going.found (text texts)) ∙ no_seen seen e));
}

module _ (s t : Shape) (c copy : Cell) (cells : List Cell) (seen : List ℕ) (h : IsShape s) (going : IsUnfolding s c [] cells seen)
    (later : IsLater (record s { variables = s.variables + length seen }) t)
    (made : IsMade (behind s.variables seen) (record s { variables = s.variables + length seen }) t cells copy) where
  free : (name : ℕ → List ℕ) (v : ℕ) → s.variables ≤ v → resolved (bindings_by name t.compounds t.bindings) v ≡ variable v
  free name v le =
      resolved_unbound v (bindings_by name t.compounds t.bindings) (free-unbound name t.compounds t.bindings v
      (ap (λ (x : Shape). lookup x.bindings v) made.same ∙ new-free s v h le))

  value-made : (name : ℕ → List ℕ) → value name t copy ≡ renamed s.variables (numbered (value name s c))
  value-made name =
      let u = value name s c in
      let r = behind s.variables seen in
      ap (substituted (resolved (bindings_by name t.compounds t.bindings))) (made.tree name u (going.spelled name ∙ append-nil (nodes_at name s.compounds cells)))
      ∙ substituted-substituted (resolved (bindings_by name t.compounds t.bindings)) r u
      ∙ substituted-same (λ v. substituted (resolved (bindings_by name t.compounds t.bindings)) (r v)) r (λ v. free name (s.variables + place_of v seen) (omega arith)) u
      ∙ ap (λ (ns : List ℕ). substituted (behind s.variables ns) u) (going.found name)
      ∙ sym (renamed-numbered s.variables u)

  pub copied : IsCopy s t c copy
  copied = record {
    later = later-further s (record s { variables = s.variables + length seen }) t (later-variables s (s.variables + length seen) (omega arith)) later;
    bindings = ap (λ (x : Shape). x.bindings) made.same;
    variables = λ texts. ap (λ (x : Shape). x.variables) made.same ∙ ap (λ (ns : List ℕ). s.variables + length ns) (going.found (text texts));
    valid = made.valid;
    named = λ most n has. made.named most (are_named-variables most (s.variables + length seen) s n) (going.named most n has).1;
    term = λ texts. value-made (text texts);
  }

-- back where it was
pub restored : (s t : Shape) → IsShape s → IsLater s t → record (back (mark_of s) t) { variables = s.variables } ≡ s
restored s t h later = ap (λ (x : Shape). record x { variables = s.variables }) (back-at-mark s t h later)
