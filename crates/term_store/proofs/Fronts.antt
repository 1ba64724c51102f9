-- The term that stands at a place of nodes.
use Rattle.std.proofs.Common.{◌≡◌, ℕ, zero, suc, ◌+◌, ◌-◌, ◌<◌, ◌≤◌, List, [], ◌∷◌, ◌++◌, length, take, drop, refl, sym, ap, ap₂, ◌∙◌, arith, subst, append_assoc, append-nil, slice_index_or}
use Rattle.std.specs.Prelude.{slice_range}
use Rattle.std.proofs.Math.Seq.{drop-cons}
use Rattle.std.proofs.lemmas.List.{take_more, get_or-drop, length-drop}
use Rattle.std.proofs.lemmas.List.Folds.{drop_split}
use Rattle.prolog_terms.specs.Tree.{Tree, Trees, variable, integer, atom, compound, none, more, count}
use Rattle.prolog_terms.specs.Substitutions.{all_substituted}
use Rattle.prolog_terms.specs.Flat.{nodes, nodes_all, forest, front, first, past, count-first, forest-nodes, forest-nodes_all}
use Rattle.prolog_terms.specs.declared.node.Node.{Node}
use Rattle.prolog_terms.specs.declared.node.Node.TheVariants.{Var, Int, Atom, Functor}
use Rattle.term_store.specs.Shape.{Shape}
use Rattle.term_store.specs.Terms.{AreNamed}
use Rattle.term_store.specs.Later.{IsLater}
use Rattle.term_store.specs.Puts.{shifted, IsFit, AreFit, Grows}
use Rattle.term_store.specs.Heads.{IsFront, IsFurther, left_at}
use Rattle.term_store.proofs.Laws.{later-variables, longer-itself}
use Rattle.term_store.proofs.Puts.{fit-at, count-chained, forest-term, forest-only}

count-past : (n : ℕ) (ts : Trees) → count (past n ts) ≡ count ts - n
count-past zero ts = omega arith
count-past (suc n) none = omega arith
count-past (suc n) (more t ts) = let h = count-past n ts in omega (arith, h)

pub some-tree : (n : Node) (ns : List Node) → 1 ≤ count (forest (n ∷ ns))
some-tree (Var n) ns = omega arith
some-tree (Int z) ns = omega arith
some-tree (Atom a) ns = omega arith
some-tree (Functor f n) ns = omega arith

-- no more trees than nodes
pub count-length : (ns : List Node) → count (forest ns) ≤ length ns
count-length [] = omega arith
count-length (Var n ∷ ns) = let h = count-length ns in omega (arith, h)
count-length (Int z ∷ ns) = let h = count-length ns in omega (arith, h)
count-length (Atom a ∷ ns) = let h = count-length ns in omega (arith, h)
count-length (Functor f n ∷ ns) = let h = count-length ns in let p = count-past n (forest ns) in omega (arith, h, p)

-- ---- one node is passed

-- how many trees are to be passed behind a node, where so many are to be passed behind its tree
abbrev pub still : ℕ → Node → ℕ
still k (Var n) = k
still k (Int z) = k
still k (Atom a) = k
still k (Functor f n) = k + n

pub still-leaf : (k : ℕ) (n : Node) → ((f : List ℕ) (a : ℕ) → n ≡ Functor f a → ⊥) → k ≡ still k n
still-leaf k (Var n) h = refl
still-leaf k (Int z) h = refl
still-leaf k (Atom a) h = refl
still-leaf k (Functor f n) h = absurd (h f n refl)

first-none : (k : ℕ) → first k none ≡ none
first-none zero = refl
first-none (suc k) = refl

nodes_all-further : (n k : ℕ) (ts : Trees) → nodes_all (first n ts) ++ nodes_all (first k (past n ts)) ≡ nodes_all (first (n + k) ts)
nodes_all-further zero k ts = let e : k ≡ 0 + k = omega arith in ap (λ (m : ℕ). nodes_all (first m ts)) e
nodes_all-further (suc n) k none = ap nodes_all (first-none k) ∙ sym (ap nodes_all (first-none (suc n + k)))
nodes_all-further (suc n) k (more t ts) =
    let e : suc (n + k) ≡ suc n + k = omega arith in
    append_assoc (nodes t) (nodes_all (first n ts)) (nodes_all (first k (past n ts))) ∙ ap (λ (ns : List Node). nodes t ++ ns) (nodes_all-further n k ts)
    ∙ ap (λ (m : ℕ). nodes_all (first m (more t ts))) e

spelled-step : (m from k : ℕ) (n : Node) (ns : List Node) → IsFit m from (count (forest ns)) n
    → nodes_all (first (suc k) (forest (n ∷ ns))) ≡ n ∷ nodes_all (first (still k n) (forest ns))
spelled-step m from k (Var n) ns fit = refl
spelled-step m from k (Int z) ns fit = refl
spelled-step m from k (Atom a) ns fit = refl
spelled-step m from k (Functor f n) ns fit =
    let e : n + k ≡ k + n = omega arith in
    ap₂ (λ (i : ℕ) (ms : List Node). Functor f i ∷ ms) (count-first n (forest ns) fit.2)
    (nodes_all-further n k (forest ns) ∙ ap (λ (i : ℕ). nodes_all (first i (forest ns))) e)

enough-step : (m from k : ℕ) (n : Node) (ns : List Node) → IsFit m from (count (forest ns)) n → suc k ≤ count (forest (n ∷ ns)) → still k n ≤ count (forest ns)
enough-step m from k (Var n) ns fit low = omega (arith, low)
enough-step m from k (Int z) ns fit low = omega (arith, low)
enough-step m from k (Atom a) ns fit low = omega (arith, low)
enough-step m from k (Functor f n) ns fit low = let p = count-past n (forest ns) in let few = fit.2 in omega (arith, low, p, few)

-- ---- nodes are passed, one after the other

-- the nodes before `end` were passed, and so many trees are left to be passed
pub record IsPassing (ns : List Node) (at left end : ℕ) : Type 0 where
  pub above : at ≤ end
  pub further : at < end + left
  pub upper : end ≤ length ns
  pub enough : left ≤ count (forest (drop end ns))
  pub fit : (m : ℕ) × ((from : ℕ) × AreFit m from (drop end ns))
  pub spelled : nodes_all (first 1 (forest (drop at ns))) ≡ slice_range ns at end ++ nodes_all (first left (forest (drop end ns)))

some-trees : (ns : List Node) (at : ℕ) → at < length ns → 1 ≤ count (forest (drop at ns))
some-trees ns at low = subst (λ (ms : List Node). 1 ≤ count (forest ms)) (sym (drop-cons ns at (Atom []) low)) (some-tree _ _)

pub passing-start : (ns : List Node) (at : ℕ) → at < length ns → (m : ℕ) × ((from : ℕ) × AreFit m from (drop at ns)) → IsPassing ns at 1 at
passing-start ns at low fit = record {
  above = omega arith;
  further = omega arith;
  upper = omega (arith, low);
  enough = some-trees ns at low;
  fit = fit;
  spelled = let e : 0 ≡ at - at = omega arith in ap (λ (k : ℕ). take k (drop at ns) ++ nodes_all (first 1 (forest (drop at ns)))) e;
}

pub passing-inside : (ns : List Node) (at left end : ℕ) → IsPassing ns at left end → 0 < left → end < length ns
passing-inside ns at left end h low =
    let a = h.enough in let b = count-length (drop end ns) in let c = length-drop end ns in omega (arith, a, b, c, low)

-- there are as many trees to be passed as nodes at most
pub passing-few : (ns : List Node) (at left end : ℕ) → IsPassing ns at left end → left ≤ length ns
passing-few ns at left end h =
    let a = h.enough in let b = count-length (drop end ns) in let c = length-drop end ns in omega (arith, a, b, c)

range-more : (ns : List Node) (at end : ℕ) (n : Node) → at ≤ end → end < length ns → n ≡ slice_index_or ns end n → slice_range ns at (end + 1) ≡ slice_range ns at end ++ n ∷ []
range-more ns at end n above low is =
    let e : end + 1 - at ≡ end - at + 1 = omega (arith, above) in
    let there : at + (end - at) ≡ end = omega (arith, above) in
    let long = length-drop at ns in
    ap (λ (k : ℕ). take k (drop at ns)) e ∙ take_more (drop at ns) (end - at) n (omega (arith, long, above, low))
    ∙ ap (λ (d : Node). slice_range ns at end ++ d ∷ []) (get_or-drop at ns (end - at) n ∙ ap (λ (k : ℕ). slice_index_or ns k n) there ∙ sym is)

module _ (ns : List Node) (at left end : ℕ) (n : Node) (h : IsPassing ns at left end) (low : 0 < left) (is : n ≡ slice_index_or ns end n) where
  inside : end < length ns
  inside = passing-inside ns at left end h low

  abbrev behind : List Node
  behind = drop (end + 1) ns

  parts : drop end ns ≡ n ∷ behind
  parts =
      let one : suc end ≡ end + 1 = omega arith in
      drop-cons ns end n inside ∙ ap₂ (λ (d : Node) (k : ℕ). d ∷ drop k ns) (sym is) one

  fits : AreFit h.fit.0 h.fit.1.0 (n ∷ behind)
  fits = subst (AreFit h.fit.0 h.fit.1.0) parts h.fit.1.1

  one_left : suc (left - 1) ≡ left
  one_left = omega (arith, low)

  pub passing-step : IsPassing ns at (still (left - 1) n) (end + 1)
  passing-step = record {
    above = let a = h.above in omega (arith, a);
    further = let a = h.above in omega (arith, a);
    upper = let a = inside in omega (arith, a);
    enough = enough-step h.fit.0 h.fit.1.0 (left - 1) n behind fits.0 (subst (λ (k : ℕ). k ≤ count (forest (n ∷ behind))) (sym one_left) (subst (λ (ms : List Node). left ≤ count (forest ms)) parts h.enough));
    fit = (h.fit.0, (h.fit.1.0, fits.1));
    spelled = h.spelled ∙ ap₂ (λ (k : ℕ) (ms : List Node). slice_range ns at end ++ nodes_all (first k (forest ms))) (sym one_left) parts
        ∙ ap (λ (ms : List Node). slice_range ns at end ++ ms) (spelled-step h.fit.0 h.fit.1.0 (left - 1) n behind fits.0)
        ∙ sym (append_assoc (slice_range ns at end) (n ∷ []) (nodes_all (first (still (left - 1) n) (forest behind))))
        ∙ ap (λ (ms : List Node). ms ++ nodes_all (first (still (left - 1) n) (forest behind))) (sym (range-more ns at end n h.above inside is));
  }

the-first : (ts : Trees) → 1 ≤ count ts → nodes_all (first 1 ts) ≡ nodes (front ts)
the-first none low = absurd (omega (arith, low))
the-first (more t ts) low = append-nil (nodes t)

pub passing-end : (ns : List Node) (at left end : ℕ) → at < length ns → left ≡ 0 → IsPassing ns at left end → IsFront ns at end
passing-end ns at left end low e h = record {
  tree = front (forest (drop at ns));
  lower = let a = h.further in omega (arith, a, e);
  upper = h.upper;
  spelled = sym (append-nil (slice_range ns at end)) ∙ ap (λ (k : ℕ). slice_range ns at end ++ nodes_all (first k (forest (drop end ns)))) (sym e) ∙ sym h.spelled
      ∙ the-first (forest (drop at ns)) (some-trees ns at low);
}

-- ---- variables that are not there yet are made

-- the variables of the nodes before `at` are there
pub record IsMaking (old new : Shape) (from : ℕ) (ns : List Node) (at : ℕ) : Type 0 where
  pub same : new ≡ record old { variables = new.variables }
  pub wider : old.variables ≤ new.variables
  pub within : (m : ℕ) → AreFit m from ns → old.variables ≤ m → new.variables ≤ m
  pub fit : (m : ℕ) → new.variables ≤ m → AreFit m from (drop at ns) → AreFit m from ns

pub making-start : (s : Shape) (from : ℕ) (ns : List Node) → IsMaking s s from ns 0
making-start s from ns = record {
  same = refl;
  wider = omega arith;
  within = λ m h low. low;
  fit = λ m low h. h;
}

fit-wider : (m k from trees : ℕ) (n : Node) → IsFit m from trees n → ((v : ℕ) → n ≡ Var v → from + v < k) → IsFit k from trees n
fit-wider m k from trees (Var n) h there = there n refl
fit-wider m k from trees (Int z) h there = tt
fit-wider m k from trees (Atom a) h there = tt
fit-wider m k from trees (Functor f n) h there = h

pub var-same : (m n : ℕ) → Var m ≡ Var n → m ≡ n
var-same m n e = cc e

-- a variable among nodes that fit is below the bound
pub fit-variable : (m from : ℕ) (ns : List Node) (at : ℕ) (n : Node) (v : ℕ) → AreFit m from ns → at < length ns → n ≡ slice_index_or ns at n → n ≡ Var v → from + v < m
fit-variable m from ns at n v fit low is e = subst (IsFit m from (count (forest (drop (suc at) ns)))) (sym is ∙ e) (fit-at m from ns at n low fit)

module _ (old now new : Shape) (m from : ℕ) (ns : List Node) (at : ℕ) (n : Node) (h : IsMaking old now from ns at) (fit : AreFit m from ns) (low : at < length ns)
    (is : n ≡ slice_index_or ns at n) where
  after_one : suc at ≡ at + 1
  after_one = omega arith

  here : (k : ℕ) → AreFit k from ns → IsFit k from (count (forest (drop (suc at) ns))) n
  here k f = subst (IsFit k from _) (sym is) (fit-at k from ns at n low f)

  pub making-step : new ≡ record now { variables = new.variables } → now.variables ≤ new.variables
      → ((k : ℕ) → ((v : ℕ) → n ≡ Var v → from + v < k) → now.variables ≤ k → new.variables ≤ k) → ((v : ℕ) → n ≡ Var v → from + v < new.variables)
      → IsMaking old new from ns (at + 1)
  making-step same wider within there = record {
    same = same ∙ ap (λ (s : Shape). record s { variables = new.variables }) h.same;
    wider = let a = h.wider in omega (arith, a, wider);
    within = λ k f below. within k (λ v e. subst (IsFit k from _) e (here k f)) (h.within k f below);
    fit = λ k below f. h.fit k (omega (arith, below, wider))
        (subst (AreFit k from) (sym (drop-cons ns at n low ∙ ap (λ (d : Node). d ∷ drop (suc at) ns) (sym is)))
        (fit-wider m k from _ n (here m fit) (λ v e. let t = there v e in omega (arith, t, below)), subst (λ (i : ℕ). AreFit k from (drop i ns)) (sym after_one) f));
  }

pub making-end : (old new : Shape) (from : ℕ) (ns : List Node) (at : ℕ) → length ns ≤ at → IsMaking old new from ns at → AreFit new.variables from ns
making-end old new from ns at low h = h.fit new.variables (omega arith) (subst (AreFit new.variables from) (sym (none-left ns at low)) tt)
  where
    none-left : (ms : List Node) (i : ℕ) → length ms ≤ i → drop i ms ≡ []
    none-left [] zero le = refl
    none-left [] (suc i) le = refl
    none-left (m ∷ ms) zero le = absurd (omega (arith, le))
    none-left (m ∷ ms) (suc i) le = none-left ms i (omega (arith, le))

-- ---- the nodes of a term alone

fit-behind : (m from : ℕ) (ns rest : List Node) → AreFit m from (ns ++ rest) → AreFit m from rest
fit-behind m from [] rest h = h
fit-behind m from (n ∷ ns) rest h = fit-behind m from ns rest h.1

mutual
  -- nodes of a term fit whatever stands behind them
  fit-front : (m from : ℕ) (t : Tree) (rest tail : List Node) → AreFit m from (nodes t ++ rest) → AreFit m from tail → AreFit m from (nodes t ++ tail)
  fit-front m from (variable n) rest tail h k = (h.0, k)
  fit-front m from (integer z) rest tail h k = (tt, k)
  fit-front m from (atom a) rest tail h k = (tt, k)
  fit-front m from (compound f ts) rest tail h k =
      let e = ap count (forest-nodes_all ts tail) ∙ count-chained ts (forest tail) in
      ((h.0.0, h.0.1, omega (arith, e)), all_fit-front m from ts rest tail h.1 k)

  all_fit-front : (m from : ℕ) (ts : Trees) (rest tail : List Node) → AreFit m from (nodes_all ts ++ rest) → AreFit m from tail → AreFit m from (nodes_all ts ++ tail)
  all_fit-front m from none rest tail h k = k
  all_fit-front m from (more t ts) rest tail h k =
      let a : AreFit m from (nodes t ++ (nodes_all ts ++ rest)) = subst (AreFit m from) (append_assoc (nodes t) (nodes_all ts) rest) h in
      subst (AreFit m from) (sym (append_assoc (nodes t) (nodes_all ts) tail))
      (fit-front m from t (nodes_all ts ++ rest) (nodes_all ts ++ tail) a (all_fit-front m from ts rest tail (fit-behind m from (nodes t) (nodes_all ts ++ rest) a) k))

module _ (ns : List Node) (at end : ℕ) (h : IsFront ns at end) where
  pub front-parts : drop at ns ≡ nodes h.tree ++ drop end ns
  front-parts = let low = h.lower in drop_split ns at end (omega (arith, low)) ∙ ap (λ (ms : List Node). ms ++ drop end ns) h.spelled

  pub front-fits : (m from : ℕ) → AreFit m from (drop at ns) → AreFit m from (slice_range ns at end)
  front-fits m from fit =
      subst (AreFit m from) (sym h.spelled)
      (subst (AreFit m from) (append-nil (nodes h.tree)) (fit-front m from h.tree (drop end ns) [] (subst (AreFit m from) front-parts fit) tt))

  pub front-one : count (forest (slice_range ns at end)) ≡ 1
  front-one = ap (λ (ms : List Node). count (forest ms)) h.spelled ∙ ap count (forest-term h.tree)

  pub front-term : (from : ℕ) (u : Tree) → more u none ≡ all_substituted (shifted from) (forest (slice_range ns at end)) → left_at from ns at ≡ more u (left_at from ns end)
  front-term from u e =
      ap (λ (ms : List Node). all_substituted (shifted from) (forest ms)) front-parts ∙ ap (all_substituted (shifted from)) (forest-nodes h.tree (drop end ns))
      ∙ ap (λ (t : Tree). more t (left_at from ns end)) (sym (forest-only (shifted from) h.tree u (slice_range ns at end) h.spelled e))

-- ---- more variables, and what was put over them

pub named-wider : (count : ℕ) (s t : Shape) → t ≡ record s { variables = t.variables } → AreNamed count s → AreNamed count t
named-wider count s t same named = subst (AreNamed count) (sym same) (record { compounds = named.compounds; bindings = named.bindings })

pub further-wider : (s t : Shape) (texts : List (List ℕ)) → t ≡ record s { variables = t.variables } → s.variables ≤ t.variables → AreNamed (length texts) s → IsFurther s texts t texts
further-wider s t texts same wider named = record {
  later = subst (IsLater s) (sym same) (later-variables s t.variables wider);
  longer = longer-itself texts;
  distinct = λ d. d;
  named = named-wider (length texts) s t same named;
}

pub grown-variables : (t u : Shape) (texts after : List (List ℕ)) → Grows t texts u after → u.variables ≡ t.variables
grown-variables t u texts after grows = ap (λ (s : Shape). s.variables) grows.same
