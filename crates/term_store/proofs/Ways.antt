-- Unification on its way, and at its end.
use Rattle.std.proofs.Common.{◌≡◌, ℕ, ◌+◌, ◌<◌, List, [], ◌∷◌, ◌++◌, length, refl, sym, ap, ap₂, ◌∙◌, arith, subst, append_assoc, append-nil}
use Rattle.prolog_terms.specs.Tree.{Tree}
use Rattle.prolog_terms.specs.Substitutions.{substituted}
use Rattle.term_unifier.specs.Unifier.{Unifies}
use Rattle.term_store.specs.declared.cell.Cell.{Cell}
use Rattle.term_store.specs.declared.solve.Pair.{Pair}
use Rattle.term_store.specs.Shape.{Shape}
use Rattle.term_store.specs.Terms.{value, raw_by, bindings_by, resolved, text, IsCell, IsNamed, AreNamed, HasTerm, IsShape, IsUnified, HaveNoUnifier}
use Rattle.term_store.specs.Later.{IsLater, AreDistinct}
use Rattle.term_store.specs.Work.{size, Solves, IsSolved, IsInjective, ArePairs, work_size, free_count, potential, plain, IsStep, Clash, IsUnderWay}
use Rattle.term_store.proofs.Trees.{substituted-substituted}
use Rattle.term_store.proofs.Bindings.{Solves-after, Solves-resolved, IsMostGeneral-added, resolved-append, added}
use Rattle.term_store.proofs.Rows.{raw-names, bindings-names}
use Rattle.term_store.proofs.Values.{shape-solved}
use Rattle.term_store.proofs.Sizes.{work_size-append}
use Rattle.term_store.proofs.Pairs.{AllEqual-append, AllEqual-left, AllEqual-right, ArePairs-left, ArePairs-right}
use Rattle.term_store.proofs.Naming.{naming, naming-low, naming-injective}

pub way-start : (s : Shape) (a b : Cell) → IsCell s a → IsCell s b → IsUnderWay s s a b (record { left = a; right = b } ∷ [])
way-start s a b l r = record {
  same = refl;
  added = [];
  bindings = refl;
  valid = (l, r, tt);
  named = λ count named m n. (named, (m, n, tt));
  forth = λ name σ k e. (k, (e, tt));
  back = λ name σ k all. all.0;
}

-- over the same compounds
go-on : (s : Shape) (bs cs : List (ℕ × Cell)) (a b : Cell) (rest after : List Pair) (pair : Pair)
    → IsUnderWay s (record s { bindings = bs }) a b (rest ++ pair ∷ []) → IsStep (record s { bindings = bs }) (record s { bindings = cs }) rest after pair.left pair.right
    → IsUnderWay s (record s { bindings = cs }) a b after
go-on s bs cs a b rest after pair way step = record {
  same = refl;
  added = step.added ++ way.added;
  bindings = step.bindings ∙ ap (λ (ds : List (ℕ × Cell)). step.added ++ ds) way.bindings ∙ sym (append_assoc step.added way.added s.bindings);
  valid = step.valid (ArePairs-left (IsCell s) rest (pair ∷ []) way.valid);
  named = λ count named m n.
      let now = way.named count named m n in let last = ArePairs-right (IsNamed count) rest (pair ∷ []) now.1 in
      step.named count now.0 last.0 last.1 (ArePairs-left (IsNamed count) rest (pair ∷ []) now.1);
  forth = λ name σ k e.
      let q = way.forth name σ k e in
      step.forth name σ q.0 (AllEqual-right σ (raw_by name s.compounds) rest (pair ∷ []) q.1).0 (AllEqual-left σ (raw_by name s.compounds) rest (pair ∷ []) q.1);
  back = λ name σ k all.
      let q = step.back name σ k all in
      way.back name σ q.0 (AllEqual-append σ (raw_by name s.compounds) rest (pair ∷ []) q.2 (q.1, tt));
}

pub way-step : (s now new : Shape) (a b : Cell) (work rest after : List Pair) (pair : Pair) → work ≡ rest ++ pair ∷ []
    → IsUnderWay s now a b work → IsStep now new rest after pair.left pair.right → IsUnderWay s new a b after
way-step s now new a b work rest after pair popped way step =
    let now_is : now ≡ record s { bindings = now.bindings } = way.same in
    let new_is : new ≡ record s { bindings = new.bindings } = step.same ∙ ap (λ (t : Shape). record t { bindings = new.bindings }) now_is in
    subst (λ (t : Shape). IsUnderWay s t a b after) (sym new_is)
    (go-on s now.bindings new.bindings a b rest after pair
    (subst (λ (t : Shape). IsUnderWay s t a b (rest ++ pair ∷ [])) now_is (subst (IsUnderWay s now a b) popped way))
    (subst (λ (t : Shape). IsStep (record s { bindings = now.bindings }) t rest after pair.left pair.right) new_is
    (subst (λ (t : Shape). IsStep t new rest after pair.left pair.right) now_is step)))

pub way-smaller : (now new : Shape) (work rest after : List Pair) (pair : Pair) → work ≡ rest ++ pair ∷ [] → IsStep now new rest after pair.left pair.right
    → potential (free_count new) (work_size (value plain new) after) < potential (free_count now) (work_size (value plain now) work)
way-smaller now new work rest after pair popped step =
    subst (λ (n : ℕ). potential (free_count new) (work_size (value plain new) after) < potential (free_count now) n)
    (let p = ap (work_size (value plain now)) popped ∙ work_size-append (value plain now) rest (pair ∷ []) in
    let e : size (value plain now pair.left) + size (value plain now pair.right) + work_size (value plain now) rest ≡ work_size (value plain now) work = omega (arith, p) in e)
    step.smaller

pub way-later : (s now : Shape) (a b : Cell) (work : List Pair) → IsUnderWay s now a b work → IsLater s now
way-later s now a b work way =
    subst (IsLater s) (sym way.same) (record {
      rows = [];
      compounds = sym (append-nil s.compounds);
      added = way.added;
      bindings = way.bindings;
      variables = omega arith;
    })

-- ---- the end

pub bindings_by-append : (name : ℕ → List ℕ) (rows : List (ℕ × List Cell)) (bs cs : List (ℕ × Cell)) → bindings_by name rows (bs ++ cs) ≡ bindings_by name rows bs ++ bindings_by name rows cs
bindings_by-append name rows [] cs = refl
bindings_by-append name rows (b ∷ bs) cs = ap (λ (ds : List (ℕ × Tree)). (b.0, raw_by name rows b.1) ∷ ds) (bindings_by-append name rows bs cs)

ended : (s : Shape) (bs : List (ℕ × Cell)) (a b : Cell) → IsUnderWay s (record s { bindings = bs }) a b [] → IsShape (record s { bindings = bs })
    → (texts : List (List ℕ)) → IsUnified texts s (record s { bindings = bs }) a b
ended s bs a b way shape texts =
    let name = text texts in
    let old = bindings_by name s.compounds s.bindings in
    let new = bindings_by name s.compounds way.added in
    let all : bindings_by name s.compounds bs ≡ new ++ old = ap (bindings_by name s.compounds) way.bindings ∙ bindings_by-append name s.compounds way.added s.bindings in
    let solved : IsSolved (new ++ old) = subst IsSolved all (shape-solved name (record s { bindings = bs }) shape) in (
      added new old,
      IsMostGeneral-added (raw_by name s.compounds a) (raw_by name s.compounds b) new old solved
          (λ r k. way.back name r (subst (Solves r) (sym all) k) tt)
          (λ r k e. subst (Solves r) all (way.forth name r k e).0),
      λ v. ap (λ (cs : List (ℕ × Tree)). resolved cs v) all ∙ resolved-append new old v,
    )

no_pairs : (work : List Pair) → length work ≡ 0 → work ≡ []
no_pairs [] e = refl
no_pairs (p ∷ ps) e = absurd (omega arith)

pub way-end : (s now : Shape) (a b : Cell) (work : List Pair) → length work ≡ 0 → IsUnderWay s now a b work → IsShape now
    → (texts : List (List ℕ)) → IsUnified texts s now a b
way-end s now a b work none way shape texts =
    subst (λ (t : Shape). IsUnified texts s t a b) (sym way.same)
    (ended s now.bindings a b
    (subst (λ (t : Shape). IsUnderWay s t a b []) way.same (subst (IsUnderWay s now a b) (no_pairs work none) way))
    (subst IsShape way.same shape) texts)

-- ---- a clash on the way

clash-over : (s : Shape) (bs : List (ℕ × Cell)) (a b : Cell) (rest : List Pair) (pair : Pair)
    → IsUnderWay s (record s { bindings = bs }) a b (rest ++ pair ∷ []) → Clash (record s { bindings = bs }) pair.left pair.right
    → Clash s a b
clash-over s bs a b rest pair way clash name inj r k e =
    let q = way.forth name r k e in
    clash name inj r q.0 (AllEqual-right r (raw_by name s.compounds) rest (pair ∷ []) q.1).0

-- no substitution makes two terms equal that no solution of the bindings makes equal
no_unifier : (s : Shape) (a b : Cell) → IsShape s → Clash s a b → (name : ℕ → List ℕ) → IsInjective name → (r : ℕ → Tree) → ¬ Unifies r (value name s a) (value name s b)
no_unifier s a b shape clash name inj r e =
    let bs = bindings_by name s.compounds s.bindings in
    clash name inj (λ v. substituted r (resolved bs v))
    (Solves-after r (resolved bs) bs (Solves-resolved bs (shape-solved name s shape)))
    (sym (substituted-substituted r (resolved bs) (raw_by name s.compounds a)) ∙ e ∙ substituted-substituted r (resolved bs) (raw_by name s.compounds b))

-- names that are told apart by every other number too
same-value : (s : Shape) (c : Cell) (texts : List (List ℕ)) → IsShape s → AreNamed (length texts) s → HasTerm (length texts) s c → value (text texts) s c ≡ value (naming texts) s c
same-value s c texts shape named has =
    ap₂ (λ (bs : List (ℕ × Tree)) (t : Tree). substituted (resolved bs) t)
    (bindings-names (text texts) (naming texts) s.compounds s.variables (length texts) (naming-low texts) shape.compounds named.compounds s.bindings (λ k d lt. (shape.bindings k d lt).1) named.bindings)
    (raw-names (text texts) (naming texts) s.compounds s.variables (length texts) (naming-low texts) shape.compounds named.compounds (length s.compounds) c (omega arith) has.0 has.1)

pub way-clash : (s now : Shape) (a b : Cell) (work rest : List Pair) (pair : Pair) → work ≡ rest ++ pair ∷ [] → IsUnderWay s now a b work → Clash now pair.left pair.right → IsShape s
    → (texts : List (List ℕ)) → AreDistinct texts → AreNamed (length texts) s → HasTerm (length texts) s a → HasTerm (length texts) s b → HaveNoUnifier texts s a b
way-clash s now a b work rest pair popped way clash shape texts distinct named l r u e =
    let over : Clash s a b = clash-over s now.bindings a b rest pair
    (subst (λ (t : Shape). IsUnderWay s t a b (rest ++ pair ∷ [])) way.same (subst (IsUnderWay s now a b) popped way))
    (subst (λ (t : Shape). Clash t pair.left pair.right) way.same clash) in
    no_unifier s a b shape over (naming texts) (naming-injective texts distinct) u
    (ap (substituted u) (sym (same-value s a texts shape named l)) ∙ e ∙ ap (substituted u) (same-value s b texts shape named r))

pub way-named : (s now : Shape) (a b : Cell) (work : List Pair) → IsUnderWay s now a b work
    → (count : ℕ) → AreNamed count s → HasTerm count s a → HasTerm count s b → AreNamed count now
way-named s now a b work way count named l r = (way.named count named l.1 r.1).0

pub way-pair : (s now : Shape) (a b : Cell) (work rest : List Pair) (pair : Pair) → work ≡ rest ++ pair ∷ [] → IsUnderWay s now a b work → IsCell now pair.left × IsCell now pair.right
way-pair s now a b work rest pair popped way =
    let last = ArePairs-right (IsCell s) rest (pair ∷ []) (subst (ArePairs (IsCell s)) popped way.valid) in
    subst (λ (t : Shape). IsCell t pair.left × IsCell t pair.right) (sym way.same) (last.0, last.1)

pub later-itself : (s : Shape) → IsLater s s
later-itself s = record {
  rows = [];
  compounds = sym (append-nil s.compounds);
  added = [];
  bindings = refl;
  variables = omega arith;
}
