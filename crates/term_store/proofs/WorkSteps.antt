-- One step of unification.
use Rattle.std.proofs.Common.{◌≡◌, ◌≢◌, ℕ, ℤ, zero, suc, ◌+◌, ◌*◌, ◌<◌, ◌≤◌, List, [], ◌∷◌, ◌++◌, length, All, Bool, true, false, nat_eq, refl, sym, ap, ap₂, ◌∙◌, arith, subst, None, Result, Ok, Err, IfOk, le_trans, mul-le-mul}
use Rattle.std.specs.Ordering.{int_eq}
use Rattle.std.proofs.lemmas.Bool.Decides.{Decides-int_eq}
use Rattle.prolog_terms.specs.Tree.{Tree, variable, atom, compound}
use Rattle.prolog_terms.specs.Substitutions.{substituted, all_substituted}
use Rattle.term_unifier.specs.Unifier.{only}
use Rattle.term_store.specs.declared.cell.Cell.{Cell}
use Rattle.term_store.specs.declared.cell.Cell.TheVariants.{Variable, Integer, Atom, Compound}
use Rattle.term_store.specs.declared.solve.Pair.{Pair}
use Rattle.term_store.specs.Shape.{Shape}
use Rattle.term_store.specs.Terms.{value, trees_of, row_at, raw_at, raw_by, bindings_by, lookup, IsCell, IsNamed, AreNamed, IsOlder, IsShape}
use Rattle.term_store.specs.Work.{Occurs, size, Solves, IsFreeIfVariable, work_size, pairs_of, free_count, potential, plain, IsStep, Clash, Outcome}
use Rattle.term_store.proofs.Trees.{size_pos, no_cycle, same_trees, same_name}
use Rattle.term_store.proofs.Bindings.{substituted-resolved, substituted-resolved-more}
use Rattle.term_store.proofs.Rows.{raw-compound, all_within-more}
use Rattle.term_store.proofs.Values.{value-free, value-compound, value-same}
use Rattle.term_store.proofs.Steps.{occurs-same}
use Rattle.term_store.proofs.Sizes.{work_size-bind, work_size-append, potential-lt, potential-bind, free_below-bind}
use Rattle.term_store.proofs.Pairs.{AllEqual-append, AllEqual-left, AllEqual-right, ArePairs-append, AllEqual-pairs_of, pairs_of-AllEqual, same_length, work_size-pairs_of, ArePairs-pairs_of}

-- ---- a binding

all-one : (P : ℕ × Cell → Type 0) (b : ℕ × Cell) (bs : List (ℕ × Cell)) → P b → All P bs → All P (b ∷ bs)
all-one P b bs p ps zero d lt = p
all-one P b bs p ps (suc k) d lt = ps k d (omega arith)

pub value-bind : (name : ℕ → List ℕ) (s : Shape) (x : ℕ) (c d : Cell)
    → value name (record s { bindings = (x, c) ∷ s.bindings }) d ≡ substituted (only x (value name s c)) (value name s d)
value-bind name s x c d = substituted-resolved-more (x, raw_by name s.compounds c) (bindings_by name s.compounds s.bindings) (raw_by name s.compounds d)

pub step-bind : (s : Shape) (x : ℕ) (c : Cell) → x < s.variables → lookup s.bindings x ≡ None → (work : List Pair)
    → IsStep s (record s { bindings = (x, c) ∷ s.bindings }) work work (Variable x) c
unfolding raw_at
step-bind s x c inside free work = record {
  same = refl;
  added = (x, c) ∷ [];
  bindings = refl;
  valid = λ h. h;
  named = λ count named l r pairs. (record { compounds = named.compounds; bindings = all-one (λ b. IsNamed count b.1) (x, c) s.bindings r named.bindings }, pairs);
  forth = λ name r h same all. ((same, h), all);
  back = λ name r h all. (h.1, h.0, all);
  smaller =
      let new : Shape = record s { bindings = (x, c) ∷ s.bindings } in
      let u = value plain s c in
      let w = work_size (value plain s) work in
      let total = size (value plain s (Variable x)) + size u + w in
      let grown : work_size (value plain new) work ≤ w * size u = work_size-bind (value plain s) (value plain new) x u work (size_pos u) (value-bind plain s x c) in
      let a : w ≤ total = omega arith in
      let b : size u ≤ total = omega arith in
      subst (λ (k : ℕ). potential (free_count new) (work_size (value plain new) work) < potential k total) (free_below-bind s.bindings x c s.variables inside free)
      (potential-bind (free_count new) total _ (le_trans grown (mul-le-mul a b)));
}

-- the occurs check
pub clash-occurs : (s : Shape) (x : ℕ) (c : Cell) → IsShape s → IsCell s c → IsFreeIfVariable s c → IsOlder x c
    → ((name : ℕ → List ℕ) → Occurs x (value name s c)) → Clash s (Variable x) c
unfolding raw_at
clash-occurs s x (Variable w) h valid free older o name inj r k e =
    let same : x ≡ w = occurs-same x _ (variable w) (value-free name s w free) (o name) in absurd (omega (arith, same, older))
clash-occurs s x (Integer z) h valid free older o name inj r k e = absurd (o name)
clash-occurs s x (Atom a) h valid free older o name inj r k e = absurd (o name)
clash-occurs s x (Compound i) h valid free older o name inj r k e =
    no_cycle r x _ _ (occurs-same x _ _ (value-compound name s i h valid) (o name))
    (e ∙ sym (substituted-resolved r (bindings_by name s.compounds s.bindings) k (raw_by name s.compounds (Compound i))) ∙ ap (substituted r) (value-compound name s i h valid))

-- ---- two compounds

module _ (s : Shape) (i j : ℕ) (h : IsShape s) (li : i < length s.compounds) (lj : j < length s.compounds) where
  at_i : (name : ℕ → List ℕ) → raw_by name s.compounds (Compound i) ≡ compound (name (row_at s.compounds i).0) (trees_of (raw_by name s.compounds) (row_at s.compounds i).1)
  at_i name = raw-compound name s.compounds s.variables h.compounds i li

  at_j : (name : ℕ → List ℕ) → raw_by name s.compounds (Compound j) ≡ compound (name (row_at s.compounds j).0) (trees_of (raw_by name s.compounds) (row_at s.compounds j).1)
  at_j name = raw-compound name s.compounds s.variables h.compounds j lj

  both_at : (name : ℕ → List ℕ) (r : ℕ → Tree) → substituted r (raw_by name s.compounds (Compound i)) ≡ substituted r (raw_by name s.compounds (Compound j))
      → compound (name (row_at s.compounds i).0) (all_substituted r (trees_of (raw_by name s.compounds) (row_at s.compounds i).1))
      ≡ compound (name (row_at s.compounds j).0) (all_substituted r (trees_of (raw_by name s.compounds) (row_at s.compounds j).1))
  both_at name r e = sym (ap (substituted r) (at_i name)) ∙ e ∙ ap (substituted r) (at_j name)

  valid_i : All (IsCell s) (row_at s.compounds i).1
  valid_i = all_within-more i (length s.compounds) s.variables s.variables _ (omega (arith, li)) (omega arith) (h.compounds i li).before

  valid_j : All (IsCell s) (row_at s.compounds j).1
  valid_j = all_within-more j (length s.compounds) s.variables s.variables _ (omega (arith, lj)) (omega arith) (h.compounds j lj).before

  pub step-compounds : (row_at s.compounds i).0 ≡ (row_at s.compounds j).0 → length (row_at s.compounds i).1 ≡ length (row_at s.compounds j).1
      → (work : List Pair) → IsStep s s work (work ++ pairs_of (row_at s.compounds i).1 (row_at s.compounds j).1) (Compound i) (Compound j)
  step-compounds same long work = record {
    same = refl;
    added = [];
    bindings = refl;
    valid = λ w. ArePairs-append (IsCell s) work _ w (ArePairs-pairs_of (IsCell s) _ _ valid_i valid_j);
    named = λ count named l r pairs. (named, ArePairs-append (IsNamed count) work _ pairs (ArePairs-pairs_of (IsNamed count) _ _ (named.compounds i li).1 (named.compounds j lj).1));
    forth = λ name r k e all. (
      k,
      AllEqual-append r (raw_by name s.compounds) work _ all (AllEqual-pairs_of r (raw_by name s.compounds) _ _ (same_trees _ _ _ _ (both_at name r e))),
    );
    back = λ name r k all. (
      k,
      ap (substituted r) (at_i name)
          ∙ ap₂ compound (ap name same) (pairs_of-AllEqual r (raw_by name s.compounds) _ _ long (AllEqual-right r (raw_by name s.compounds) work _ all))
          ∙ sym (ap (substituted r) (at_j name)),
      AllEqual-left r (raw_by name s.compounds) work _ all,
    );
    smaller = potential-lt (free_count s) _ _
        (let p = work_size-append (value plain s) work (pairs_of (row_at s.compounds i).1 (row_at s.compounds j).1) in
        let q = work_size-pairs_of (value plain s) _ _ long in
        let r = ap size (value-compound plain s i h li) in
        let t = ap size (value-compound plain s j h lj) in omega (arith, p, q, r, t));
  }

  pub clash-name : (row_at s.compounds i).0 ≢ (row_at s.compounds j).0 → Clash s (Compound i) (Compound j)
  clash-name ne name inj r k e = ne (inj _ _ (same_name _ _ _ _ (both_at name r e)))

  pub clash-arity : length (row_at s.compounds i).1 ≢ length (row_at s.compounds j).1 → Clash s (Compound i) (Compound j)
  clash-arity ne name inj r k e = ne (same_length r (raw_by name s.compounds) _ _ (same_trees _ _ _ _ (both_at name r e)))

-- ---- the same on both sides, and what is never equal

pub step-delete : (s : Shape) (c d : Cell) → c ≡ d → (work : List Pair) → IsStep s s work work c d
step-delete s c d e work = record {
  same = refl;
  added = [];
  bindings = refl;
  valid = λ w. w;
  named = λ count named l r pairs. (named, pairs);
  forth = λ name r k q all. (k, all);
  back = λ name r k all. (k, ap (λ (x : Cell). substituted r (raw_by name s.compounds x)) e, all);
  smaller = potential-lt (free_count s) _ _ (let p = size_pos (value plain s c) in omega (arith, p));
}

clash-integers : (s : Shape) (m n : ℤ) → m ≢ n → Clash s (Integer m) (Integer n)
unfolding raw_at
clash-integers s m n ne name inj r k e = ne cc

atoms_name : (f g : List ℕ) → atom f ≡ atom g → f ≡ g
atoms_name f g e = cc e

clash-atoms : (s : Shape) (m n : ℕ) → m ≢ n → Clash s (Atom m) (Atom n)
unfolding raw_at
clash-atoms s m n ne name inj r k e = ne (inj m n (atoms_name _ _ e))

pub outcome-integers : (s : Shape) (work : List Pair) (m n : ℤ) → Outcome s s work work (Integer m) (Integer n) (int_eq m n)
outcome-integers s work m n = go (int_eq m n) refl
  where
    go : (t : Bool) → int_eq m n ≡ t → Outcome s s work work (Integer m) (Integer n) t
    go true e = step-delete s (Integer m) (Integer n) (ap Integer ((Decides-int_eq m n).0 e)) work
    go false e = (refl, clash-integers s m n (λ same. let it = (Decides-int_eq m n).1 same in cc))

pub outcome-atoms : (s : Shape) (work : List Pair) (m n : ℕ) → Outcome s s work work (Atom m) (Atom n) (nat_eq m n)
outcome-atoms s work m n = go (nat_eq m n) refl
  where
    go : (t : Bool) → nat_eq m n ≡ t → Outcome s s work work (Atom m) (Atom n) t
    go true e = step-delete s (Atom m) (Atom n) (let same : m ≡ n = grind arith in ap Atom same) work
    go false e = (refl, clash-atoms s m n (λ same. grind arith))

pub clash-integer_atom : (s : Shape) (z : ℤ) (n : ℕ) → Clash s (Integer z) (Atom n)
unfolding raw_at
clash-integer_atom s z n name inj r k e = cc

pub clash-integer_compound : (s : Shape) (z : ℤ) (j : ℕ) → IsShape s → j < length s.compounds → Clash s (Integer z) (Compound j)
unfolding raw_at
clash-integer_compound s z j h low name inj r k e = let q = e ∙ ap (substituted r) (raw-compound name s.compounds s.variables h.compounds j low) in cc q

pub clash-atom_compound : (s : Shape) (n j : ℕ) → IsShape s → j < length s.compounds → Clash s (Atom n) (Compound j)
unfolding raw_at
clash-atom_compound s n j h low name inj r k e = let q = e ∙ ap (substituted r) (raw-compound name s.compounds s.variables h.compounds j low) in cc q

-- ---- the other way round, and through bindings

pub outcome-sym : (old new : Shape) (before after : List Pair) (l r : Cell) (t : Bool) → Outcome old new before after l r t → Outcome old new before after r l t
outcome-sym old new before after l r true h = record {
  same = h.same;
  added = h.added;
  bindings = h.bindings;
  valid = h.valid;
  named = λ count named a b pairs. h.named count named b a pairs;
  forth = λ name s k e all. h.forth name s k (sym e) all;
  back = λ name s k all. let q = h.back name s k all in (q.0, sym q.1, q.2);
  smaller = subst (λ (n : ℕ). potential (free_count new) (work_size (value plain new) after) < potential (free_count old) n)
      (let e : size (value plain old l) + size (value plain old r) + work_size (value plain old) before
      ≡ size (value plain old r) + size (value plain old l) + work_size (value plain old) before = omega arith in e) h.smaller;
}
outcome-sym old new before after l r false h = (h.0, λ name inj s k e. h.1 name inj s k (sym e))

module _ (old new : Shape) (before after : List Pair) (l r l' r' : Cell) (shape : IsShape old)
    (left_named : (count : ℕ) → AreNamed count old → IsNamed count l → IsNamed count l')
    (right_named : (count : ℕ) → AreNamed count old → IsNamed count r → IsNamed count r')
    (left : (name : ℕ → List ℕ) (s : ℕ → Tree) → Solves s (bindings_by name old.compounds old.bindings) → substituted s (raw_by name old.compounds l') ≡ substituted s (raw_by name old.compounds l))
    (right : (name : ℕ → List ℕ) (s : ℕ → Tree) → Solves s (bindings_by name old.compounds old.bindings) → substituted s (raw_by name old.compounds r') ≡ substituted s (raw_by name old.compounds r)) where
  pub outcome-follow : (t : Bool) → Outcome old new before after l' r' t → Outcome old new before after l r t
  outcome-follow true h = record {
    same = h.same;
    added = h.added;
    bindings = h.bindings;
    valid = h.valid;
    named = λ count named a b pairs. h.named count named (left_named count named a) (right_named count named b) pairs;
    forth = λ name s k e all. h.forth name s k (left name s k ∙ e ∙ sym (right name s k)) all;
    back = λ name s k all. let q = h.back name s k all in (q.0, sym (left name s q.0) ∙ q.1 ∙ right name s q.0, q.2);
    smaller = subst (λ (n : ℕ). potential (free_count new) (work_size (value plain new) after) < potential (free_count old) n)
        (let p = ap size (value-same plain old l' l shape (left plain)) in
        let q = ap size (value-same plain old r' r shape (right plain)) in
        let e : size (value plain old l') + size (value plain old r') + work_size (value plain old) before
        ≡ size (value plain old l) + size (value plain old r) + work_size (value plain old) before = omega (arith, p, q) in e) h.smaller;
  }
  outcome-follow false h = (h.0, λ name inj s k e. h.1 name inj s k (left name s k ∙ e ∙ sym (right name s k)))

-- ---- cells that are known by an equation

pub outcome-at : (old new : Shape) (before after : List Pair) (l r c d : Cell) (t : Bool) → l ≡ c → r ≡ d → Outcome old new before after c d t → Outcome old new before after l r t
outcome-at old new before after l r c d t e f h =
    subst (λ (x : Cell). Outcome old new before after l x t) (sym f) (subst (λ (x : Cell). Outcome old new before after x d t) (sym e) h)

pub outcome-right : (old new : Shape) (work : List Pair) (l r c d : Cell) (t : Bool) → l ≡ c → r ≡ d → Outcome old new work work d c t → Outcome old new work work l r t
outcome-right old new work l r c d t e f h = outcome-at old new work work l r c d t e f (outcome-sym old new work work d c t h)

pub clash-at : (s : Shape) (l r c d : Cell) → l ≡ c → r ≡ d → Clash s c d → Clash s l r
clash-at s l r c d e f h = subst (λ (x : Cell). Clash s l x) (sym f) (subst (λ (x : Cell). Clash s x d) (sym e) h)

pub clash-sym : (s : Shape) (l r : Cell) → Clash s l r → Clash s r l
clash-sym s l r h name inj r' k e = h name inj r' k (sym e)

pub IfOk-more : {A E : Type 0} (r : Result A E) (P Q : A → Type 0) → ((a : A) → P a → Q a) → IfOk r P → IfOk r Q
IfOk-more (Ok a) P Q f h = f a h
IfOk-more (Err e) P Q f h = tt

pub is-compound : (s : Shape) (j : ℕ) (c : Cell) → c ≡ Compound j → IsCell s c → j < length s.compounds
is-compound s j c e h = subst (IsCell s) e h
