-- A variable, an integer, an atom or a compound of a term that is made one with a cell: what is bound, and what that leaves.
use Rattle.std.proofs.Common.{◌≡◌, ◌≢◌, ℕ, ℤ, zero, suc, ◌<◌, ◌≤◌, List, [], ◌∷◌, ◌++◌, length, All, Bool, true, false, cond, nat_eq, Some, inl, inr, refl, sym, ap, ap₂, ◌∙◌, arith, subst, append-nil, Result, Ok, Err, IfOk, OnErr}
use Rattle.prolog_terms.specs.Tree.{Tree, Trees, variable, integer, atom, compound, none, more, count}
use Rattle.std.specs.Prelude.{IsTrue, slice_get}
use Rattle.std.specs.Cmp.Lexicographic.{pointwise, bytes_decides}
use Rattle.std.proofs.lemmas.Option.{slice_get_within}
use Rattle.std.proofs.lemmas.List.Elements.{All-cons}
use Rattle.prolog_terms.specs.Substitutions.{substituted, all_substituted, occurs}
use Rattle.term_unifier.specs.Unifier.{only, Unifies}
use Rattle.term_unifier.specs.Resolved.{Follows}
use Rattle.term_store.specs.declared.cell.Cell.{Cell}
use Rattle.term_store.specs.declared.cell.Cell.TheVariants.{Variable, Integer, Atom, Compound}
use Rattle.term_store.specs.declared.solve.Pair.{Pair}
use Rattle.term_store.specs.Shape.{Shape}
use Rattle.term_store.specs.Terms.{text, value, trees_of, row_at, raw, raw_at, raw_by, bindings_by, bindings_of, resolved, meaning, term_of, IsWithin, IsCell, IsNamed, HasTerm, AreNamed, IsOlder, IsRow, IsShape, IsUnified, HaveNoUnifier}
use Rattle.term_store.specs.Later.{IsLater, AreLonger, AreDistinct}
use Rattle.term_store.specs.Work.{Occurs, OccursIn, IsSolved, Solves, IsFreeIfVariable, Outcome}
use Rattle.term_store.specs.Heads.{IsFurther, AllMatch, Fits, Comes, Matches}
use Rattle.term_store.proofs.Trees.{substituted-substituted, substituted-same, same_first}
use Rattle.term_store.proofs.Bindings.{resolved_solved, substituted-resolved, Solves-after, Solves-resolved}
use Rattle.term_store.proofs.Rows.{within-more, raw-compound, raw-variable, raw-integer, raw-atom, raw-names, bindings-names, bindings-later}
use Rattle.term_store.proofs.Values.{shape-solved}
use Rattle.term_store.proofs.Laws.{later-itself, later-further, longer-itself, longer-further, longer-length, has_term-later, are_named-more, raw-same, raw-stays, later-variables, are_named-variables, text-longer}
use Rattle.term_store.proofs.Puts.{number-text}
use Rattle.term_store.proofs.Naming.{naming, naming-low, naming-injective}

-- ---- the variables of what a cell stands for

mutual
  occurs-through : (s : ℕ → Tree) (x : ℕ) (t : Tree) → Occurs x (substituted s t) → (v : ℕ) × (Occurs v t × Occurs x (s v))
  occurs-through s x (variable v) o = (v, (refl, o))
  occurs-through s x (integer z) o = absurd o
  occurs-through s x (atom a) o = absurd o
  occurs-through s x (compound f ts) o = occurs_in-through s x ts o

  occurs_in-through : (s : ℕ → Tree) (x : ℕ) (ts : Trees) → OccursIn x (all_substituted s ts) → (v : ℕ) × (OccursIn v ts × Occurs x (s v))
  occurs_in-through s x none o = absurd o
  occurs_in-through s x (more t ts) o = elim o [
    | inl p ↦ let h = occurs-through s x t p in (h.0, (inl h.1.0, h.1.1))
    | inr p ↦ let h = occurs_in-through s x ts p in (h.0, (inr h.1.0, h.1.1))
  ]

trees-variables : (f : Cell → Tree) (P : Cell → Type 0) (m : ℕ) (cs : List Cell) → All P cs → ((c : Cell) → P c → (x : ℕ) → Occurs x (f c) → x < m)
    → (x : ℕ) → OccursIn x (trees_of f cs) → x < m
trees-variables f P m [] h e x o = absurd o
trees-variables f P m (c ∷ cs) h e x o = elim o [
  | inl p ↦ e c (h 0 c (omega arith)) x p
  | inr p ↦ trees-variables f P m cs (λ k d lt. h (suc k) d (omega arith)) e x p
]

raw-variables : (name : ℕ → List ℕ) (rows : List (ℕ × List Cell)) (m n : ℕ) → ((i : ℕ) → i < n → IsRow m i (row_at rows i))
    → (k : ℕ) (c : Cell) → k ≤ n → IsWithin k m c → (x : ℕ) → Occurs x (raw_at (suc k) name rows c) → x < m
unfolding raw_at
raw-variables name rows m n h k (Variable v) low w x o = omega (arith, o, w)
raw-variables name rows m n h k (Integer z) low w x o = absurd o
raw-variables name rows m n h k (Atom a) low w x o = absurd o
raw-variables name rows m n h zero (Compound i) low w x o = absurd (omega arith)
raw-variables name rows m n h (suc k) (Compound i) low w x o =
    trees-variables (raw_at (suc k) name rows) (IsWithin i m) m (row_at rows i).1 (h i (omega arith)).before
    (λ c v y p. raw-variables name rows m n h k c (omega arith) (within-more i k m m c (omega arith) (omega arith) v) y p) x o

resolved-variables : (name : ℕ → List ℕ) (rows : List (ℕ × List Cell)) (m : ℕ) → ((i : ℕ) → i < length rows → IsRow m i (row_at rows i))
    → (bs : List (ℕ × Cell)) → All (λ b. IsWithin (length rows) m b.1) bs → (v : ℕ) → v < m → (x : ℕ) → Occurs x (resolved (bindings_by name rows bs) v) → x < m
resolved-variables name rows m h [] w v low x o = omega (arith, o, low)
resolved-variables name rows m h (b ∷ bs) w v low x o =
    let older : (y : ℕ) → y < m → (z : ℕ) → Occurs z (resolved (bindings_by name rows bs) y) → z < m = resolved-variables name rows m h bs (λ k d lt. w (suc k) d (omega arith)) in
    let u = substituted (resolved (bindings_by name rows bs)) (raw_by name rows b.1) in
    let p = occurs-through (only b.0 u) x (resolved (bindings_by name rows bs) v) o in
    go older p.0 (older v low p.0 p.1.0) (nat_eq p.0 b.0) refl p.1.1
  where
    go : ((y : ℕ) → y < m → (z : ℕ) → Occurs z (resolved (bindings_by name rows bs) y) → z < m) → (y : ℕ) → y < m → (t : Bool) → nat_eq y b.0 ≡ t
        → Occurs x (cond t (substituted (resolved (bindings_by name rows bs)) (raw_by name rows b.1)) (variable y)) → x < m
    go older y less true e q =
        let r = occurs-through (resolved (bindings_by name rows bs)) x (raw_by name rows b.1) q in
        older r.0 (raw-variables name rows m (length rows) h (length rows) b.1 (omega arith) (w 0 b (omega arith)) r.0 r.1.0) x r.1.1
    go older y less false e q = omega (arith, q, less)

-- each is one of the store's
pub value-variables : (name : ℕ → List ℕ) (s : Shape) (c : Cell) → IsShape s → IsCell s c → (x : ℕ) → Occurs x (value name s c) → x < s.variables
value-variables name s c h w x o =
    let p = occurs-through (resolved (bindings_by name s.compounds s.bindings)) x (raw_by name s.compounds c) o in
    resolved-variables name s.compounds s.variables h.compounds s.bindings (λ k d lt. (h.bindings k d lt).1) p.0
    (raw-variables name s.compounds s.variables (length s.compounds) h.compounds (length s.compounds) c (omega arith) w p.0 p.1.0) x p.1.1

-- ---- solutions

Solves-same : (s r : ℕ → Tree) (bs : List (ℕ × Tree)) → ((v : ℕ) → s v ≡ r v) → Solves s bs → Solves r bs
Solves-same s r [] e h = tt
Solves-same s r (b ∷ bs) e h = (sym (e b.0) ∙ h.0 ∙ substituted-same s r e b.1, Solves-same s r bs e h.1)

-- what doesn't see the bindings solves them
follows-solves : (r : ℕ → Tree) (bs : List (ℕ × Tree)) → IsSolved bs → Follows (resolved bs) r → Solves r bs
follows-solves r bs h f = Solves-same (λ v. substituted r (resolved bs v)) r bs f (Solves-after r (resolved bs) bs (Solves-resolved bs h))

-- two cells were unified: the solutions are those that were solutions and make the cells equal as they were built
module _ (texts : List (List ℕ)) (old new : Shape) (a b : Cell) (shape : IsShape old) (after : IsShape new) (u : IsUnified texts old new a b) where
  pub unified-forth : (r : ℕ → Tree) → Solves r (bindings_of texts old) → substituted r (raw texts old a) ≡ substituted r (raw texts old b) → Solves r (bindings_of texts new)
  unified-forth r k e =
      let both : Unifies r (term_of texts old a) (term_of texts old b) =
      substituted-resolved r (bindings_of texts old) k (raw texts old a) ∙ e ∙ sym (substituted-resolved r (bindings_of texts old) k (raw texts old b)) in
      follows-solves r (bindings_of texts new) (shape-solved (text texts) new after) (λ v.
      ap (substituted r) (u.2 v) ∙ substituted-substituted r u.0 (meaning texts old v)
      ∙ substituted-same (λ w. substituted r (u.0 w)) r (u.1.factors r both) (meaning texts old v)
      ∙ resolved_solved r (bindings_of texts old) k v)

  module _ (r : ℕ → Tree) (k : Solves r (bindings_of texts new)) where
    over : (v : ℕ) → r v ≡ substituted (λ w. substituted r (u.0 w)) (meaning texts old v)
    over v = sym (resolved_solved r (bindings_of texts new) k v) ∙ ap (substituted r) (u.2 v) ∙ substituted-substituted r u.0 (meaning texts old v)

    over-term : (t : Tree) → substituted r t ≡ substituted (λ w. substituted r (u.0 w)) (substituted (meaning texts old) t)
    over-term t = substituted-same r (λ v. substituted (λ w. substituted r (u.0 w)) (meaning texts old v)) over t ∙ sym (substituted-substituted (λ w. substituted r (u.0 w)) (meaning texts old) t)

    pub unified-before : Solves r (bindings_of texts old)
    unified-before = follows-solves r (bindings_of texts old) (shape-solved (text texts) old shape) (λ v.
        over-term (meaning texts old v)
        ∙ ap (substituted (λ w. substituted r (u.0 w)))
        (resolved_solved (resolved (bindings_of texts old)) (bindings_of texts old) (Solves-resolved (bindings_of texts old) (shape-solved (text texts) old shape)) v)
        ∙ sym (over v))

    pub unified-equal : substituted r (raw texts old a) ≡ substituted r (raw texts old b)
    unified-equal =
        over-term (raw texts old a) ∙ sym (substituted-substituted r u.0 (term_of texts old a))
        ∙ ap (substituted r) u.1.unifies
        ∙ substituted-substituted r u.0 (term_of texts old b) ∙ sym (over-term (raw texts old b))

-- no solution makes equal what no substitution makes equal
pub refused-solved : (texts : List (List ℕ)) (s : Shape) (a b : Cell) → HaveNoUnifier texts s a b → (r : ℕ → Tree) → Solves r (bindings_of texts s)
    → substituted r (raw texts s a) ≡ substituted r (raw texts s b) → ⊥
refused-solved texts s a b never r k e =
    never r (substituted-resolved r (bindings_of texts s) k (raw texts s a) ∙ e ∙ sym (substituted-resolved r (bindings_of texts s) k (raw texts s b)))

-- ---- what was added

pub further-names : (s : Shape) (texts after : List (List ℕ)) → AreLonger texts after → (AreDistinct texts → AreDistinct after) → AreNamed (length texts) s → IsFurther s texts s after
further-names s texts after longer distinct named = record {
  later = later-itself s;
  longer = longer;
  distinct = distinct;
  named = are_named-more (length texts) (length after) s (longer-length texts after longer) named;
}

pub further-itself : (s : Shape) (texts : List (List ℕ)) → AreNamed (length texts) s → IsFurther s texts s texts
further-itself s texts named = further-names s texts texts (longer-itself texts) (λ d. d) named

pub further-variables : (s : Shape) (n : ℕ) (texts : List (List ℕ)) → s.variables ≤ n → AreNamed (length texts) s → IsFurther s texts (record s { variables = n }) texts
further-variables s n texts le named = record {
  later = later-variables s n le;
  longer = longer-itself texts;
  distinct = λ d. d;
  named = are_named-variables (length texts) n s named;
}

later-bound : (s : Shape) (n x : ℕ) (c : Cell) → s.variables ≤ n → IsLater s (record s { variables = n; bindings = (x, c) ∷ s.bindings })
later-bound s n x c le = record {
  rows = [];
  compounds = sym (append-nil s.compounds);
  added = (x, c) ∷ [];
  bindings = refl;
  variables = le;
}

named-one : (count : ℕ) (b : ℕ × Cell) (bs : List (ℕ × Cell)) → IsNamed count b.1 → All (λ d. IsNamed count d.1) bs → All (λ d. IsNamed count d.1) (b ∷ bs)
named-one count b bs p ps zero d lt = p
named-one count b bs p ps (suc k) d lt = ps k d (omega arith)

pub further-bound : (s : Shape) (n x : ℕ) (c : Cell) (texts after : List (List ℕ)) → s.variables ≤ n → AreLonger texts after → (AreDistinct texts → AreDistinct after)
    → AreNamed (length texts) s → IsNamed (length after) c → IsFurther s texts (record s { variables = n; bindings = (x, c) ∷ s.bindings }) after
further-bound s n x c texts after le longer distinct named is =
    let more = are_named-more (length texts) (length after) s (longer-length texts after longer) named in record {
      later = later-bound s n x c le;
      longer = longer;
      distinct = distinct;
      named = record { compounds = more.compounds; bindings = named-one (length after) (x, c) s.bindings is more.bindings };
    }

-- ---- one term and one cell

AllMatch-same : (r : ℕ → Tree) (f g : Cell → Tree) (P : Cell → Type 0) (ts : Trees) (cs : List Cell) → All P cs → ((c : Cell) → P c → f c ≡ g c) → AllMatch r f ts cs → AllMatch r g ts cs
AllMatch-same r f g P none [] h e m = tt
AllMatch-same r f g P none (c ∷ cs) h e m = absurd m
AllMatch-same r f g P (more t ts) [] h e m = absurd m
AllMatch-same r f g P (more t ts) (c ∷ cs) h e m =
    (m.0 ∙ ap (substituted r) (e c (h 0 c (omega arith))), AllMatch-same r f g P ts cs (λ k d lt. h (suc k) d (omega arith)) e m.1)

pub matches-some : (old new : Shape) (texts after : List (List ℕ)) (t : Tree) (c : Cell) → IsShape old → IsLater old new → AreLonger texts after
    → ((names : List (List ℕ)) (r : ℕ → Tree) → Solves r (bindings_of (after ++ names) old) → substituted r t ≡ substituted r (raw (after ++ names) old c)
    → Solves r (bindings_of (after ++ names) new))
    → ((names : List (List ℕ)) (r : ℕ → Tree) → Solves r (bindings_of (after ++ names) new)
    → Solves r (bindings_of (after ++ names) old) × (substituted r t ≡ substituted r (raw (after ++ names) old c)))
    → Matches old texts new after t c true
matches-some old new texts after t c shape later longer forth back ts cs valid = record {
  valid = λ k d lt. has_term-later old new (length texts) (length after) _ later (longer-length texts after longer) (valid k d lt);
  counted = λ e. omega (arith, e);
  forth = λ names r h. (
    forth names r h.0 h.1.0,
    AllMatch-same r (raw (after ++ names) old) (raw (after ++ names) new) (HasTerm (length texts) old) ts cs valid
        (λ d w. sym (raw-same old new (after ++ names) d shape later w.0)) h.1.1,
  );
  back = λ names r h. let q = back names r h.0 in (
    q.0,
    (
      q.1,
      AllMatch-same r (raw (after ++ names) new) (raw (after ++ names) old) (HasTerm (length texts) old) ts cs valid
          (λ d w. raw-same old new (after ++ names) d shape later w.0) h.1,
    ),
  );
}

pub matches-never : (old new : Shape) (texts after : List (List ℕ)) (t : Tree) (c : Cell)
    → ((r : ℕ → Tree) → Solves r (bindings_of after old) → substituted r t ≡ substituted r (raw after old c) → ⊥) → Matches old texts new after t c false
matches-never old new texts after t c never ts cs valid r h = never r h.0 h.1.0

-- a variable was bound: to be equal to what it is bound to, and the term to the cell, are the same
pub matches-bound : (old : Shape) (n x : ℕ) (c d : Cell) (t : Tree) (texts after : List (List ℕ)) → IsShape old → old.variables ≤ n → AreLonger texts after
    → ((names : List (List ℕ)) (r : ℕ → Tree) → Solves r (bindings_of (after ++ names) old)
    → substituted r t ≡ substituted r (raw (after ++ names) old d) → r x ≡ substituted r (raw (after ++ names) old c))
    → ((names : List (List ℕ)) (r : ℕ → Tree) → Solves r (bindings_of (after ++ names) old)
    → r x ≡ substituted r (raw (after ++ names) old c) → substituted r t ≡ substituted r (raw (after ++ names) old d))
    → Matches old texts (record old { variables = n; bindings = (x, c) ∷ old.bindings }) after t d true
matches-bound old n x c d t texts after shape le longer forth back =
    matches-some old (record old { variables = n; bindings = (x, c) ∷ old.bindings }) texts after t d shape (later-bound old n x c le) longer
    (λ names r k e. (forth names r k e, k))
    (λ names r k. (k.1, back names r k.1 k.0))

-- two cells were unified, or can't be
pub matches-unified : (old new : Shape) (x : ℕ) (c : Cell) (texts : List (List ℕ)) → IsShape old → IsShape new → IsLater old new
    → ((names : List (List ℕ)) → IsUnified names old new (Variable x) c) → Matches old texts new texts (variable x) c true
matches-unified old new x c texts shape after later u =
    matches-some old new texts texts (variable x) c shape later (longer-itself texts)
    (λ names r k e. unified-forth (texts ++ names) old new (Variable x) c shape after (u (texts ++ names)) r k
    (ap (substituted r) (raw-variable (text (texts ++ names)) old.compounds x) ∙ e))
    (λ names r k. (
      unified-before (texts ++ names) old new (Variable x) c shape after (u (texts ++ names)) r k,
      sym (ap (substituted r) (raw-variable (text (texts ++ names)) old.compounds x)) ∙ unified-equal (texts ++ names) old new (Variable x) c shape after (u (texts ++ names)) r k,
    ))

pub matches-refused : (old new : Shape) (x : ℕ) (c : Cell) (texts : List (List ℕ)) → HaveNoUnifier texts old (Variable x) c → Matches old texts new texts (variable x) c false
matches-refused old new x c texts never =
    matches-never old new texts texts (variable x) c
    (λ r k e. refused-solved texts old (Variable x) c never r k (ap (substituted r) (raw-variable (text texts) old.compounds x) ∙ e))

-- ---- a term and what stands at the end of a cell's bindings

-- a solution doesn't tell cells apart that stand for the same
pub end-raw : (texts : List (List ℕ)) (s : Shape) (end d : Cell) → term_of texts s end ≡ term_of texts s d → (r : ℕ → Tree) → Solves r (bindings_of texts s)
    → substituted r (raw texts s end) ≡ substituted r (raw texts s d)
end-raw texts s end d e r k =
    sym (substituted-resolved r (bindings_of texts s) k (raw texts s end)) ∙ ap (substituted r) e ∙ substituted-resolved r (bindings_of texts s) k (raw texts s d)

-- a new variable, which was bound to the end of the cell's bindings
pub matches-new : (old : Shape) (n x : ℕ) (end d : Cell) (texts : List (List ℕ)) → IsShape old → old.variables ≤ n
    → ((names : List (List ℕ)) → term_of names old end ≡ term_of names old d)
    → Matches old texts (record old { variables = n; bindings = (x, end) ∷ old.bindings }) texts (variable x) d true
matches-new old n x end d texts shape le same =
    matches-bound old n x end d (variable x) texts texts shape le (longer-itself texts)
    (λ names r k e. e ∙ sym (end-raw (texts ++ names) old end d (same (texts ++ names)) r k))
    (λ names r k e. e ∙ end-raw (texts ++ names) old end d (same (texts ++ names)) r k)

-- a free variable, which was bound to a cell of the term
pub matches-free : (old : Shape) (x : ℕ) (c end d : Cell) (t : Tree) (texts after : List (List ℕ)) → IsShape old → AreLonger texts after → end ≡ Variable x
    → ((names : List (List ℕ)) → term_of names old end ≡ term_of names old d)
    → ((names : List (List ℕ)) → raw (after ++ names) old c ≡ t)
    → Matches old texts (record old { bindings = (x, c) ∷ old.bindings }) after t d true
matches-free old x c end d t texts after shape longer at same is =
    matches-bound old old.variables x c d t texts after shape (omega arith) longer
    (λ names r k e. it names r k ∙ sym e ∙ ap (substituted r) (sym (is names)))
    (λ names r k e. ap (substituted r) (sym (is names)) ∙ sym e ∙ it names r k)
  where
    it : (names : List (List ℕ)) (r : ℕ → Tree) → Solves r (bindings_of (after ++ names) old) → r x ≡ substituted r (raw (after ++ names) old d)
    it names r k =
        sym (ap (substituted r) (ap (raw (after ++ names) old) at ∙ raw-variable (text (after ++ names)) old.compounds x))
        ∙ end-raw (after ++ names) old end d (same (after ++ names)) r k

-- the term itself: nothing is to be done
pub matches-same : (old : Shape) (end d : Cell) (t : Tree) (texts : List (List ℕ)) → IsShape old
    → ((names : List (List ℕ)) → term_of names old end ≡ term_of names old d)
    → ((names : List (List ℕ)) → raw (texts ++ names) old end ≡ t)
    → Matches old texts old texts t d true
matches-same old end d t texts shape same is =
    matches-some old old texts texts t d shape (later-itself old) (longer-itself texts)
    (λ names r k e. k)
    (λ names r k. (k, ap (substituted r) (sym (is names)) ∙ end-raw (texts ++ names) old end d (same (texts ++ names)) r k))

-- another term, which no substitution makes the same
pub matches-other : (old new : Shape) (end d : Cell) (t u : Tree) (texts after : List (List ℕ))
    → ((names : List (List ℕ)) → term_of names old end ≡ term_of names old d)
    → raw after old end ≡ u → ((r : ℕ → Tree) → substituted r t ≡ substituted r u → ⊥)
    → Matches old texts new after t d false
matches-other old new end d t u texts after same is never =
    matches-never old new texts after t d (λ r k e. never r (e ∙ sym (end-raw after old end d (same after) r k) ∙ ap (substituted r) is))

-- ---- integers and atoms

pub raw-integer_at : (texts : List (List ℕ)) (s : Shape) (end : Cell) (z : ℤ) → end ≡ Integer z → raw texts s end ≡ integer z
raw-integer_at texts s end z e = ap (raw texts s) e ∙ raw-integer (text texts) s.compounds z

pub raw-atom_at : (texts : List (List ℕ)) (s : Shape) (end : Cell) (n : ℕ) → end ≡ Atom n → raw texts s end ≡ atom (text texts n)
raw-atom_at texts s end n e = ap (raw texts s) e ∙ raw-atom (text texts) s.compounds n

pub raw-compound_at : (texts : List (List ℕ)) (s : Shape) (end : Cell) (i : ℕ) → IsShape s → IsCell s end → end ≡ Compound i
    → raw texts s end ≡ compound (text texts (row_at s.compounds i).0) (trees_of (raw texts s) (row_at s.compounds i).1)
raw-compound_at texts s end i h w e = ap (raw texts s) e ∙ raw-compound (text texts) s.compounds s.variables h.compounds i (subst (IsCell s) e w)

pub integer-integer : (y z : ℤ) → y ≢ z → (r : ℕ → Tree) → substituted r (integer y) ≡ substituted r (integer z) → ⊥
integer-integer y z ne r e = ne cc

pub integer-atom : (z : ℤ) (a : List ℕ) (r : ℕ → Tree) → substituted r (integer z) ≡ substituted r (atom a) → ⊥
integer-atom z a r e = cc e

pub integer-compound : (z : ℤ) (f : List ℕ) (ts : Trees) (r : ℕ → Tree) → substituted r (integer z) ≡ substituted r (compound f ts) → ⊥
integer-compound z f ts r e = cc e

pub atom-atom : (a b : List ℕ) → a ≢ b → (r : ℕ → Tree) → substituted r (atom a) ≡ substituted r (atom b) → ⊥
atom-atom a b ne r e = ne (same a b e)
  where
    same : (f g : List ℕ) → atom f ≡ atom g → f ≡ g
    same f g q = cc q

pub atom-compound : (a f : List ℕ) (ts : Trees) (r : ℕ → Tree) → substituted r (atom a) ≡ substituted r (compound f ts) → ⊥
atom-compound a f ts r e = cc e

pub integer-absent : (name : ℕ → List ℕ) (s : Shape) (x : ℕ) (z : ℤ) → IsTrue (occurs x (value name s (Integer z))) → ⊥
unfolding raw_at
integer-absent name s x z h = cc h

pub atom-absent : (name : ℕ → List ℕ) (s : Shape) (x n : ℕ) → IsTrue (occurs x (value name s (Atom n))) → ⊥
unfolding raw_at
atom-absent name s x n h = cc h

-- the text of a number stays, whatever names are added
pub name-stays : (texts names : List (List ℕ)) (n : ℕ) (t : List ℕ) → slice_get texts n ≡ Some t → text (texts ++ names) n ≡ t
name-stays texts names n t e =
    text-longer texts (texts ++ names) (record { added = names; texts = refl }) n (slice_get_within texts n t e) ∙ number-text texts n t e

-- two atoms, whose texts were compared
pub matches-texts : (s : Shape) (end d : Cell) (n : ℕ) (name found bytes : List ℕ) (texts : List (List ℕ)) (same : Bool) → IsShape s → end ≡ Atom n
    → ((names : List (List ℕ)) → term_of names s end ≡ term_of names s d)
    → slice_get texts n ≡ Some found → bytes ≡ name → same ≡ pointwise nat_eq found bytes → Matches s texts s texts (atom name) d same
matches-texts s end d n name found bytes texts same shape at term got is e =
    subst (Matches s texts s texts (atom name) d) (sym e) (go (pointwise nat_eq found bytes) refl)
  where
    go : (b : Bool) → pointwise nat_eq found bytes ≡ b → Matches s texts s texts (atom name) d b
    go true q =
        matches-same s end d (atom name) texts shape term
        (λ names. raw-atom_at (texts ++ names) s end n at ∙ ap atom (name-stays texts names n found got ∙ (bytes_decides found bytes).0 q ∙ is))
    go false q =
        let other : name ≢ found = λ k. let yes_same = (bytes_decides found bytes).1 (sym (is ∙ k)) in cc in
        matches-other s s end d (atom name) (atom found) texts texts term
        (raw-atom_at texts s end n at ∙ ap atom (number-text texts n found got)) (atom-atom name found other)

-- ---- a compound of the term, which was built, and to which a free variable is bound

-- what is built for a compound is no variable
compound-free : (texts : List (List ℕ)) (s : Shape) (c : Cell) (f : List ℕ) (us : Trees) → raw texts s c ≡ compound f us → IsFreeIfVariable s c
unfolding raw_at
compound-free texts s (Variable v) f us e = cc e
compound-free texts s (Integer z) f us e = tt
compound-free texts s (Atom n) f us e = tt
compound-free texts s (Compound i) f us e = tt

compound-older : (texts : List (List ℕ)) (s : Shape) (x : ℕ) (c : Cell) (f : List ℕ) (us : Trees) → raw texts s c ≡ compound f us → IsOlder x c
unfolding raw_at
compound-older texts s x (Variable v) f us e = cc e
compound-older texts s x (Integer z) f us e = tt
compound-older texts s x (Atom n) f us e = tt
compound-older texts s x (Compound i) f us e = tt

-- the first of these terms is a compound, and is the one that was built
module _ (texts : List (List ℕ)) (s : Shape) (c : Cell) (r : ℕ → Tree) (all rest : Trees) (first_is : (f : List ℕ) × ((us : Trees) × ((ts : Trees) × (all ≡ more (compound f us) ts))))
    (built : all_substituted r all ≡ more (raw texts s c) rest) where
  built_is : raw texts s c ≡ compound first_is.0 (all_substituted r first_is.1.0)
  built_is = sym (same_first (compound first_is.0 (all_substituted r first_is.1.0)) (raw texts s c) (all_substituted r first_is.1.1.0) rest (sym (ap (all_substituted r) first_is.1.1.1) ∙ built))

  pub built-free : IsFreeIfVariable s c
  built-free = compound-free texts s c first_is.0 (all_substituted r first_is.1.0) built_is

  pub built-older : (x : ℕ) → IsOlder x c
  built-older x = compound-older texts s x c first_is.0 (all_substituted r first_is.1.0) built_is

pub further-further : (s t u : Shape) (a b c : List (List ℕ)) → IsFurther s a t b → IsFurther t b u c → IsFurther s a u c
further-further s t u a b c h k = record {
  later = later-further s t u h.later k.later;
  longer = longer-further a b c h.longer k.longer;
  distinct = λ d. k.distinct (h.distinct d);
  named = k.named;
}

-- after a free variable was bound, or found to stand in the cell, or memory was wanted
module _ (s new : Shape) (x : ℕ) (c : Cell) where
  step-further : (texts : List (List ℕ)) (t : Bool) → AreNamed (length texts) s → IsNamed (length texts) c → Outcome s new [] [] (Variable x) c t → IsFurther s texts new texts
  step-further texts true named is h =
      let now = h.named (length texts) named tt is tt in record {
        later = subst (IsLater s) (sym h.same) (record {
          rows = [];
          compounds = sym (append-nil s.compounds);
          added = h.added;
          bindings = h.bindings;
          variables = omega arith;
        });
        longer = longer-itself texts;
        distinct = λ d. d;
        named = now.0;
      }
  step-further texts false named is h = subst (λ (u : Shape). IsFurther s texts u texts) (sym h.0) (further-itself s texts named)

  pub further-solved : {E : Type 0} (texts : List (List ℕ)) (r : Result Bool E) → AreNamed (length texts) s → IsNamed (length texts) c → OnErr r (new ≡ s)
      → IfOk r (λ t. (work : List Pair) → Outcome s new work work (Variable x) c t) → IsFurther s texts new texts
  further-solved texts (Ok t) named is e h = step-further texts t named is (h [])
  further-solved texts (Err w) named is e h = subst (λ (u : Shape). IsFurther s texts u texts) (sym e) (further-itself s texts named)

  step-variables : (t : Bool) → Outcome s new [] [] (Variable x) c t → new.variables ≡ s.variables
  step-variables true h = ap (λ (u : Shape). u.variables) h.same
  step-variables false h = ap (λ (u : Shape). u.variables) h.0

  pub variables-solved : {E : Type 0} (r : Result Bool E) → OnErr r (new ≡ s) → IfOk r (λ t. (work : List Pair) → Outcome s new work work (Variable x) c t) → new.variables ≡ s.variables
  variables-solved (Ok t) e h = step-variables t (h [])
  variables-solved (Err w) e h = ap (λ (u : Shape). u.variables) e

  -- the variable and the cell's term are made one
  module _ (texts : List (List ℕ)) (shape : IsShape s) (named : AreNamed (length texts) s) (has : HasTerm (length texts) s c) (distinct : AreDistinct texts) where
    built-stays : (names : List (List ℕ)) → raw (texts ++ names) s c ≡ raw texts s c
    built-stays names = raw-stays s s texts (texts ++ names) c shape named (later-itself s) (record { added = names; texts = refl }) has

    pub matches-built : (t : Bool) → Outcome s new [] [] (Variable x) c t → Matches s texts new texts (raw texts s c) (Variable x) t
    matches-built true h =
        let rows : new.compounds ≡ s.compounds = ap (λ (u : Shape). u.compounds) h.same in
        matches-some s new texts texts (raw texts s c) (Variable x) shape (step-further texts true named has.1 h).later (longer-itself texts)
        (λ names r k e. subst (λ (cs : List (ℕ × List Cell)). Solves r (bindings_by (text (texts ++ names)) cs new.bindings)) (sym rows)
        (h.forth (text (texts ++ names)) r k (sym e ∙ ap (substituted r) (sym (built-stays names))) tt).0)
        (λ names r k.
        let q = h.back (text (texts ++ names)) r (subst (λ (cs : List (ℕ × List Cell)). Solves r (bindings_by (text (texts ++ names)) cs new.bindings)) rows k) tt in
        (q.0, ap (substituted r) (sym (built-stays names)) ∙ sym q.1))
    matches-built false h =
        matches-never s new texts texts (raw texts s c) (Variable x) (λ r k e. h.1 (naming texts) (naming-injective texts distinct) r
        (subst (Solves r)
        (bindings-names (text texts) (naming texts) s.compounds s.variables (length texts) (naming-low texts) shape.compounds named.compounds s.bindings (λ i d lt. (shape.bindings i d lt).1) named.bindings) k)
        (ap (substituted r) (raw-variable (naming texts) s.compounds x ∙ sym (raw-variable (text texts) s.compounds x)) ∙ sym e
        ∙ ap (substituted r)
        (raw-names (text texts) (naming texts) s.compounds s.variables (length texts) (naming-low texts) shape.compounds named.compounds (length s.compounds) c (omega arith) has.0 has.1)))

-- compounds were added before that
module _ (old mid new : Shape) (texts after : List (List ℕ)) (ts us : Trees) (cs ds : List Cell) (shape : IsShape old) (later : IsLater old mid)
    (same : mid.bindings ≡ old.bindings) (valid : All (IsCell old) cs) where
  bindings-kept : (names : List (List ℕ)) → bindings_of names mid ≡ bindings_of names old
  bindings-kept names =
      ap₂ (λ (rows : List (ℕ × List Cell)) (bs : List (ℕ × Cell)). bindings_by (text names) rows bs) later.compounds same
      ∙ bindings-later (text names) old.compounds later.rows old.variables shape.compounds old.bindings (λ k d lt. (shape.bindings k d lt).1)

  fits-mid : (names : List (List ℕ)) (r : ℕ → Tree) → Fits names r (record { store = old; texts = texts; terms = ts; cells = cs })
      → Fits names r (record { store = mid; texts = after; terms = ts; cells = cs })
  fits-mid names r h = (
    subst (Solves r) (sym (bindings-kept names)) h.0,
    AllMatch-same r (raw names old) (raw names mid) (IsCell old) ts cs valid (λ c w. sym (raw-same old mid names c shape later w)) h.1,
  )

  fits-old : (names : List (List ℕ)) (r : ℕ → Tree) → Fits names r (record { store = mid; texts = after; terms = ts; cells = cs })
      → Fits names r (record { store = old; texts = texts; terms = ts; cells = cs })
  fits-old names r h = (
    subst (Solves r) (bindings-kept names) h.0,
    AllMatch-same r (raw names mid) (raw names old) (IsCell old) ts cs valid (λ c w. raw-same old mid names c shape later w) h.1,
  )

  comes-grown : (t : Bool) → Comes (record { store = mid; texts = after; terms = ts; cells = cs }) (record { store = new; texts = after; terms = us; cells = ds }) t
      → Comes (record { store = old; texts = texts; terms = ts; cells = cs }) (record { store = new; texts = after; terms = us; cells = ds }) t
  comes-grown true h = record {
    valid = h.valid;
    counted = h.counted;
    forth = λ names r k. h.forth names r (fits-mid (after ++ names) r k);
    back = λ names r k. fits-old (after ++ names) r (h.back names r k);
  }
  comes-grown false h = λ r k. h r (fits-mid after r k)

-- the first of the terms is built, and the variable is bound to it
pub comes-built : (old mid new : Shape) (texts after : List (List ℕ)) (x : ℕ) (c : Cell) (all ts : Trees) (cs : List Cell) → IsShape old → IsShape mid → IsFurther old texts mid after
    → mid.bindings ≡ old.bindings → HasTerm (length after) mid c → AreDistinct texts → x < old.variables → All (HasTerm (length texts) old) cs
    → all ≡ more (raw after mid c) ts → (t : Bool) → Outcome mid new [] [] (Variable x) c t
    → Comes (record { store = old; texts = texts; terms = all; cells = Variable x ∷ cs }) (record { store = new; texts = after; terms = ts; cells = cs }) t
comes-built old mid new texts after x c all ts cs shape grown further same has distinct low valid is t h =
    subst (λ (us : Trees). Comes (record { store = old; texts = texts; terms = us; cells = Variable x ∷ cs }) (record { store = new; texts = after; terms = ts; cells = cs }) t) (sym is)
    (comes-grown old mid new texts after (more (raw after mid c) ts) ts (Variable x ∷ cs) cs shape further.later same (All-cons (IsCell old) (Variable x) cs low (λ k d lt. (valid k d lt).0)) t
    (matches-built mid new x c after grown further.named has (further.distinct distinct) t h ts cs
    (λ k d lt. has_term-later old mid (length texts) (length after) _ further.later (longer-length texts after further.longer) (valid k d lt))))
