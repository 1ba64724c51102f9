-- A term of new variables is made one with a cell, node by node.
use Rattle.std.proofs.Common.{◌≡◌, ℕ, ℤ, zero, suc, ◌+◌, ◌-◌, ◌^◌, ◌<◌, ◌≤◌, List, [], ◌∷◌, ◌++◌, length, reverse, drop, All, Bool, true, false, not, refl, sym, ap, ap₂, ◌∙◌, arith, subst, append_assoc, append-nil, length-append, slice_index_or, Result, Ok, Err, IfOk, IsTrue, IsFalse}
use Rattle.std.proofs.Math.Seq.{drop-cons}
use Rattle.std.proofs.lemmas.List.{reverse-append}
use Rattle.std.proofs.lemmas.List.Elements.{All-append, All-cons, All-nil}
use Rattle.prolog_terms.specs.Tree.{Tree, Trees, variable, integer, atom, compound, none, more, count}
use Rattle.prolog_terms.specs.Substitutions.{substituted, all_substituted, renamed}
use Rattle.prolog_terms.specs.Flat.{forest, joined, first, past, count-first, nodes, forest-nodes}
use Rattle.prolog_terms.specs.declared.node.Node.{Node}
use Rattle.prolog_terms.specs.declared.node.Node.TheVariants.{Functor}
use Rattle.term_unifier.specs.Unifier.{IsMostGeneral}
use Rattle.term_store.specs.declared.cell.Cell.{Cell}
use Rattle.term_store.specs.declared.cell.Cell.TheVariants as cell
use Rattle.term_store.specs.declared.heads.Matching.{Matching}
use Rattle.term_store.specs.Shape.{Shape}
use Rattle.term_store.specs.Terms.{text, trees_of, row_at, raw, bindings_by, bindings_of, resolved, meaning, term_of, IsCell, IsNamed, HasTerm, AreNamed, IsShape}
use Rattle.term_store.specs.Later.{AreLonger, IsLater}
use Rattle.term_store.specs.Puts.{shifted, placed, IsFit, AreFit}
use Rattle.term_store.specs.Work.{Solves, IsSolved}
use Rattle.term_store.specs.Heads.{IsMadeOne, CannotBeOne, IsFurther, Stage, AllMatch, Fits, Goes, Comes, Matches, left_at, stage, stage_with}
use Rattle.term_store.proofs.Trees.{substituted-substituted, substituted-same, same_name, same_trees, same_first, same_rest}
use Rattle.term_store.proofs.Bindings.{substituted-resolved, Solves-after, Solves-resolved, IsMostGeneral-added, resolved-append, added}
use Rattle.term_store.proofs.Rows.{raw-compound, raw-integer, raw-atom, all_within-more, bindings-later}
use Rattle.term_store.proofs.Values.{shape-solved}
use Rattle.term_store.proofs.Ways.{bindings_by-append}
use Rattle.term_store.proofs.Puts.{count-substituted, count-trees_of, next-placed, fit-drop}
use Rattle.term_store.proofs.Laws.{later-itself, later-further, longer-itself, longer-further, text-longer, free-meaning, new-free}
use Rattle.term_store.proofs.Readings.{no_cells}

-- ---- a compound of the term and one of the store

count-behind : (n : ℕ) (ts : Trees) → count (past n ts) ≡ count ts - n
count-behind zero ts = omega arith
count-behind (suc n) none = omega arith
count-behind (suc n) (more t ts) = omega (arith, count-behind n ts)

-- the terms of a row are made equal where its arguments are
match-row : (r : ℕ → Tree) (tree : Cell → Tree) (args cells : List Cell) (ts : Trees) → length args ≤ count ts
    → all_substituted r (first (length args) ts) ≡ all_substituted r (trees_of tree args) → AllMatch r tree (past (length args) ts) cells
    → AllMatch r tree ts (args ++ cells)
match-row r tree [] cells ts le e h = h
match-row r tree (c ∷ cs) cells none le e h = absurd (omega (arith, le))
match-row r tree (c ∷ cs) cells (more t ts) le e h =
    (same_first _ _ _ _ e, match-row r tree cs cells ts (omega (arith, le)) (same_rest _ _ _ _ e) h)

row-match : (r : ℕ → Tree) (tree : Cell → Tree) (args cells : List Cell) (ts : Trees) → AllMatch r tree ts (args ++ cells)
    → (all_substituted r (first (length args) ts) ≡ all_substituted r (trees_of tree args)) × AllMatch r tree (past (length args) ts) cells
row-match r tree [] cells ts h = (refl, h)
row-match r tree (c ∷ cs) cells none h = absurd h
row-match r tree (c ∷ cs) cells (more t ts) h = let q = row-match r tree cs cells ts h.1 in (ap₂ more h.0 q.0, q.1)

module _ (s : Shape) (texts : List (List ℕ)) (place found arity : ℕ) (name : List ℕ) (args cells : List Cell) (ts : Trees) (shape : IsShape s)
    (low : place < length s.compounds) (row : row_at s.compounds place ≡ (found, args)) (enough : arity ≤ count ts) where
  abbrev before : Stage
  before = record { store = s; texts = texts; terms = joined name arity ts; cells = cell.Compound place ∷ cells }

  place-is : (names : List (List ℕ)) → raw names s (cell.Compound place) ≡ compound (text names found) (trees_of (raw names s) args)
  place-is names =
      raw-compound (text names) s.compounds s.variables shape.compounds place low
      ∙ ap (λ (d : ℕ × List Cell). compound (text names d.0) (trees_of (raw names s) d.1)) row

  equal-is : (names : List (List ℕ)) (r : ℕ → Tree) → Fits names r before
      → compound name (all_substituted r (first arity ts)) ≡ compound (text names found) (all_substituted r (trees_of (raw names s) args))
  equal-is names r f = f.1.0 ∙ ap (substituted r) (place-is names)

  pub other-name : (name ≡ text texts found → ⊥) → (r : ℕ → Tree) → Fits texts r before → ⊥
  other-name other r f = other (same_name _ _ _ _ (equal-is texts r f))

  pub other-arity : (length args ≡ arity → ⊥) → (r : ℕ → Tree) → Fits texts r before → ⊥
  other-arity other r f =
      let e = ap count (same_trees _ _ _ _ (equal-is texts r f)) in
      let a = count-substituted r (first arity ts) in
      let b = count-first arity ts enough in
      let d = count-substituted r (trees_of (raw texts s) args) in
      let k = count-trees_of (raw texts s) args in
      other (omega (arith, e, a, b, d, k))

  module _ (same : name ≡ text texts found) (long : length args ≡ arity) (named : AreNamed (length texts) s) where
    row-named : (found < length texts) × All (HasTerm (length texts) s) args
    row-named =
        let d = named.compounds place low in
        let w = subst (λ (x : ℕ × List Cell). All (IsCell s) x.1) row
        (all_within-more place (length s.compounds) s.variables s.variables _ (omega (arith, low)) (omega arith) (shape.compounds place low).before) in
        let n = subst (λ (x : ℕ × List Cell). (x.0 < length texts) × All (IsNamed (length texts)) x.1) row d in
        (n.0, λ k c lt. (w k c lt, n.1 k c lt))

    name-is : (names : List (List ℕ)) → text (texts ++ names) found ≡ name
    name-is names = text-longer texts (texts ++ names) (record { added = names; texts = refl }) found row-named.0 ∙ sym same

    pub goes-row : (after : List Cell) → after ≡ args ++ cells → All (HasTerm (length texts) s) cells
        → Goes before (record { store = s; texts = texts; terms = ts; cells = after })
    goes-row after pushed valid = record {
      valid = subst (All (HasTerm (length texts) s)) (sym pushed) (All-append (HasTerm (length texts) s) args cells row-named.1 valid);
      counted = λ e. let p = count-behind arity ts in let l = ap length pushed ∙ length-append args cells in omega (arith, e, p, l, long, enough);
      forth = λ names r f. (
        f.0,
        subst (AllMatch r (raw (texts ++ names) s) ts) (sym pushed)
            (match-row r (raw (texts ++ names) s) args cells ts (omega (arith, enough, long))
            (ap (λ (n : ℕ). all_substituted r (first n ts)) long ∙ same_trees _ _ _ _ (equal-is (texts ++ names) r f))
            (subst (λ (n : ℕ). AllMatch r (raw (texts ++ names) s) (past n ts) cells) (sym long) f.1.1)),
      );
      back = λ names r f.
          let q = row-match r (raw (texts ++ names) s) args cells ts (subst (AllMatch r (raw (texts ++ names) s) ts) pushed f.1) in (
            f.0,
            (
              ap₂ compound (sym (name-is names)) (ap (λ (n : ℕ). all_substituted r (first n ts)) (sym long) ∙ q.0)
                  ∙ sym (ap (substituted r) (place-is (texts ++ names))),
              subst (λ (n : ℕ). AllMatch r (raw (texts ++ names) s) (past n ts) cells) long q.1,
            ),
          );
    }

-- ---- tests of names

pub not-false : (a b : Bool) → a ≡ not b → a ≡ false → b ≡ true
not-false a true e f = refl
not-false a false e f = cc

pub not-true : (a b : Bool) → a ≡ not b → a ≡ true → b ≡ true → ⊥
not-true a true e f g = cc
not-true a false e f g = cc

-- ---- further on

pub further-itself : (s : Shape) (texts : List (List ℕ)) → AreNamed (length texts) s → IsFurther s texts s texts
further-itself s texts named = record { later = later-itself s; longer = longer-itself texts; distinct = λ d. d; named = named }

pub further-further : (s t u : Shape) (a b c : List (List ℕ)) → IsFurther s a t b → IsFurther t b u c → IsFurther s a u c
further-further s t u a b c h k = record {
  later = later-further s t u h.later k.later;
  longer = longer-further a b c h.longer k.longer;
  distinct = λ d. k.distinct (h.distinct d);
  named = k.named;
}

pub goes-itself : (s : Stage) → All (HasTerm (length s.texts) s.store) s.cells → Goes s s
goes-itself s valid = record { valid = valid; counted = λ e. e; forth = λ names r f. f; back = λ names r f. f }

module _ (a b c : Stage) (longer : AreLonger b.texts c.texts) (h : Goes a b) where
  texts-are : (names : List (List ℕ)) → c.texts ++ names ≡ b.texts ++ (longer.added ++ names)
  texts-are names = ap (λ (ts : List (List ℕ)). ts ++ names) longer.texts ∙ append_assoc b.texts longer.added names

  forth-longer : (names : List (List ℕ)) (r : ℕ → Tree) → Fits (c.texts ++ names) r a → Fits (c.texts ++ names) r b
  forth-longer names r f =
      subst (λ (ts : List (List ℕ)). Fits ts r b) (sym (texts-are names))
      (h.forth (longer.added ++ names) r (subst (λ (ts : List (List ℕ)). Fits ts r a) (texts-are names) f))

  back-longer : (names : List (List ℕ)) (r : ℕ → Tree) → Fits (c.texts ++ names) r b → Fits (c.texts ++ names) r a
  back-longer names r f =
      subst (λ (ts : List (List ℕ)). Fits ts r a) (sym (texts-are names))
      (h.back (longer.added ++ names) r (subst (λ (ts : List (List ℕ)). Fits ts r b) (texts-are names) f))

  pub goes-further : Goes b c → Goes a c
  goes-further k = record {
    valid = k.valid;
    counted = λ e. k.counted (h.counted e);
    forth = λ names r f. k.forth names r (forth-longer names r f);
    back = λ names r f. back-longer names r (k.back names r f);
  }

  pub comes-false : Comes b c false → Comes a c false
  comes-false k r f =
      k r (subst (λ (ts : List (List ℕ)). Fits ts r b) (append-nil c.texts) (forth-longer [] r (subst (λ (ts : List (List ℕ)). Fits ts r a) (sym (append-nil c.texts)) f)))

-- ---- a cell that stands for the same

same-cell : (texts : List (List ℕ)) (s : Shape) (r : ℕ → Tree) (c d : Cell) → Solves r (bindings_of texts s) → term_of texts s c ≡ term_of texts s d
    → substituted r (raw texts s c) ≡ substituted r (raw texts s d)
same-cell texts s r c d h e =
    sym (substituted-resolved r (bindings_of texts s) h (raw texts s c)) ∙ ap (substituted r) e ∙ substituted-resolved r (bindings_of texts s) h (raw texts s d)

other-cell : (r : ℕ → Tree) (tree : Cell → Tree) (ts : Trees) (c d : Cell) (cells : List Cell) → substituted r (tree c) ≡ substituted r (tree d)
    → AllMatch r tree ts (c ∷ cells) → AllMatch r tree ts (d ∷ cells)
other-cell r tree none c d cells e h = h
other-cell r tree (more t ts) c d cells e h = (h.0 ∙ e, h.1)

module _ (s : Shape) (texts : List (List ℕ)) (ts : Trees) (c d : Cell) (cells : List Cell) (same : (names : List (List ℕ)) → term_of names s d ≡ term_of names s c) where
  to-cell : (names : List (List ℕ)) (r : ℕ → Tree) → Fits names r (record { store = s; texts = texts; terms = ts; cells = c ∷ cells })
      → Fits names r (record { store = s; texts = texts; terms = ts; cells = d ∷ cells })
  to-cell names r f = (f.0, other-cell r (raw names s) ts c d cells (same-cell names s r c d f.0 (sym (same names))) f.1)

  from-cell : (names : List (List ℕ)) (r : ℕ → Tree) → Fits names r (record { store = s; texts = texts; terms = ts; cells = d ∷ cells })
      → Fits names r (record { store = s; texts = texts; terms = ts; cells = c ∷ cells })
  from-cell names r f = (f.0, other-cell r (raw names s) ts d c cells (same-cell names s r d c f.0 (same names)) f.1)

  pub comes-cell : (new : Stage) (t : Bool) → Comes (record { store = s; texts = texts; terms = ts; cells = d ∷ cells }) new t
      → Comes (record { store = s; texts = texts; terms = ts; cells = c ∷ cells }) new t
  comes-cell new true h = record {
    valid = h.valid;
    counted = h.counted;
    forth = λ names r f. h.forth names r (to-cell (new.texts ++ names) r f);
    back = λ names r f. from-cell (new.texts ++ names) r (h.back names r f);
  }
  comes-cell new false h = λ r f. h r (to-cell new.texts r f)

-- nothing fits, whichever of the two cells stands there
pub refused-cell : (s : Shape) (texts : List (List ℕ)) (ts : Trees) (c d : Cell) (cells : List Cell) → ((names : List (List ℕ)) → term_of names s d ≡ term_of names s c)
    → ((r : ℕ → Tree) → Fits texts r (record { store = s; texts = texts; terms = ts; cells = d ∷ cells }) → ⊥)
    → (r : ℕ → Tree) → Fits texts r (record { store = s; texts = texts; terms = ts; cells = c ∷ cells }) → ⊥
refused-cell s texts ts c d cells same h = comes-cell s texts ts c d cells same (record { store = s; texts = texts; terms = ts; cells = cells }) false h

-- ---- one node

pub left-here : (from : ℕ) (ns : List Node) (at next : ℕ) (d node : Node) → at < length ns → slice_index_or ns at d ≡ node → next ≡ at + 1
    → left_at from ns at ≡ placed from node (left_at from ns next)
left-here from ns at next d node low is step =
    let e : suc at ≡ next = omega (arith, step) in
    sym (next-placed from ns at d low) ∙ ap₂ (λ (n : Node) (k : ℕ). placed from n (left_at from ns k)) is e

pub fit-here : (m from : ℕ) (ns : List Node) (at : ℕ) (d node : Node) → at < length ns → slice_index_or ns at d ≡ node → AreFit m from (drop at ns)
    → IsFit m from (count (forest (drop (suc at) ns))) node
fit-here m from ns at d node low is fit =
    subst (IsFit m from _) is (subst (AreFit m from) (drop-cons ns at d low) fit).0

pub forest-here : (ns : List Node) (at : ℕ) (d node : Node) → at < length ns → slice_index_or ns at d ≡ node → forest (drop at ns) ≡ forest (node ∷ drop (suc at) ns)
forest-here ns at d node low is = ap forest (drop-cons ns at d low) ∙ ap (λ (n : Node). forest (n ∷ drop (suc at) ns)) is

-- as many terms come behind a functor as it has arguments
pub enough-here : (m from : ℕ) (ns : List Node) (at next arity : ℕ) (f : List ℕ) (d : Node) → at < length ns → slice_index_or ns at d ≡ Functor f arity → AreFit m from (drop at ns)
    → next ≡ at + 1 → arity ≤ count (left_at from ns next)
enough-here m from ns at next arity f d low is fit step =
    let e : suc at ≡ next = omega (arith, step) in
    let a = (fit-here m from ns at d (Functor f arity) low is fit).2 in
    let b = count-substituted (shifted from) (forest (drop next ns)) in
    let k = ap (λ (i : ℕ). count (forest (drop i ns))) e in
    omega (arith, a, b, k)

-- a variable, an integer or an atom
pub comes-leaf : (s new : Shape) (texts after : List (List ℕ)) (ts rest : Trees) (t : Tree) (c : Cell) (cells : List Cell) (b : Bool) → ts ≡ more t rest
    → All (HasTerm (length texts) s) cells → Matches s texts new after t c b
    → Comes (record { store = s; texts = texts; terms = ts; cells = c ∷ cells }) (record { store = new; texts = after; terms = rest; cells = cells }) b
comes-leaf s new texts after ts rest t c cells b e valid h =
    subst (λ (us : Trees). Comes (record { store = s; texts = texts; terms = us; cells = c ∷ cells }) (record { store = new; texts = after; terms = rest; cells = cells }) b)
    (sym e) (h rest cells valid)

no_integer : (f : List ℕ) (ts : Trees) (z : ℤ) → compound f ts ≡ integer z → ⊥
no_integer f ts z e = cc e

no_atom : (f a : List ℕ) (ts : Trees) → compound f ts ≡ atom a → ⊥
no_atom f a ts e = cc e

-- a compound and an integer or an atom
module _ (s : Shape) (texts : List (List ℕ)) (ts us rest : Trees) (f : List ℕ) (c : Cell) (cells : List Cell) (is : ts ≡ more (compound f us) rest) where
  pub not-integer : (z : ℤ) → c ≡ cell.Integer z → (r : ℕ → Tree) → Fits texts r (record { store = s; texts = texts; terms = ts; cells = c ∷ cells }) → ⊥
  not-integer z e r fits =
      let all = subst (λ (d : Cell). AllMatch r (raw texts s) (more (compound f us) rest) (d ∷ cells)) e (subst (λ (vs : Trees). AllMatch r (raw texts s) vs (c ∷ cells)) is fits.1) in
      no_integer f _ z (all.0 ∙ ap (substituted r) (raw-integer (text texts) s.compounds z))

  pub not-atom : (n : ℕ) → c ≡ cell.Atom n → (r : ℕ → Tree) → Fits texts r (record { store = s; texts = texts; terms = ts; cells = c ∷ cells }) → ⊥
  not-atom n e r fits =
      let all = subst (λ (d : Cell). AllMatch r (raw texts s) (more (compound f us) rest) (d ∷ cells)) e (subst (λ (vs : Trees). AllMatch r (raw texts s) vs (c ∷ cells)) is fits.1) in
      no_atom f (text texts n) _ (all.0 ∙ ap (substituted r) (raw-atom (text texts) s.compounds n))

-- a compound that was gone into
module _ (s : Shape) (texts : List (List ℕ)) (ns : List Node) (m w : Matching) (c : Cell) (place arity : ℕ) (name : List ℕ) (d : Node)
    (low : m.at < length ns) (is : slice_index_or ns m.at d ≡ Functor name arity) (fit : AreFit (2 ^ 64) m.from (drop m.at ns))
    (valid : All (HasTerm (length texts) s) (reverse m.todo.items)) (same : (names : List (List ℕ)) → term_of names s (cell.Compound place) ≡ term_of names s c)
    (first : w.from ≡ m.from) where
  abbrev rest : Trees
  rest = left_at m.from ns (m.at + 1)

  row-comes : (b : Bool) (new : Stage) → Comes (record { store = s; texts = texts; terms = joined name arity rest; cells = cell.Compound place ∷ reverse m.todo.items }) new b
      → Comes (stage_with s texts ns m c) new b
  row-comes b new h =
      comes-cell s texts (left_at m.from ns m.at) c (cell.Compound place) (reverse m.todo.items) same new b
      (subst (λ (ts : Trees). Comes (record { store = s; texts = texts; terms = ts; cells = cell.Compound place ∷ reverse m.todo.items }) new b)
      (sym (left-here m.from ns m.at (m.at + 1) d (Functor name arity) low is refl)) h)

  pub comes-row : (b : Bool) → (IsTrue b → w.at ≡ m.at + 1)
      → ((ts : Trees) → arity ≤ count ts → All (HasTerm (length texts) s) (reverse m.todo.items)
      → Comes (record { store = s; texts = texts; terms = joined name arity ts; cells = cell.Compound place ∷ reverse m.todo.items })
      (record { store = s; texts = texts; terms = ts; cells = reverse w.todo.items }) b)
      → Comes (stage_with s texts ns m c) (stage s texts ns w) b
  comes-row true at h =
      subst (λ (ts : Trees). Comes (stage_with s texts ns m c) (record { store = s; texts = texts; terms = ts; cells = reverse w.todo.items }) true)
      (sym (ap₂ (λ (f k : ℕ). left_at f ns k) first (at refl)))
      (row-comes true _ (h rest (enough-here (2 ^ 64) m.from ns m.at (m.at + 1) arity name d low is fit refl) valid))
  comes-row false at h = row-comes false (record { store = s; texts = texts; terms = rest; cells = reverse w.todo.items }) (h rest (enough-here (2 ^ 64) m.from ns m.at (m.at + 1) arity name d low is fit refl) valid)

-- two facts of one answer
pub both-ok : {A E : Type 0} (r : Result A E) (P Q R : A → Type 0) → ((a : A) → P a → Q a → R a) → IfOk r P → IfOk r Q → IfOk r R
both-ok (Ok a) P Q R f p q = f a p q
both-ok (Err e) P Q R f p q = tt

-- ---- node by node

some-left : (ns : List Node) (i : ℕ) → 1 ≤ count (forest (drop i ns)) → i < length ns
some-left [] zero h = absurd (omega (arith, h))
some-left [] (suc i) h = absurd (omega (arith, h))
some-left (n ∷ ns) zero h = omega arith
some-left (n ∷ ns) (suc i) h = let k = some-left ns i h in omega (arith, k)

no_trees : (ts : Trees) → count ts ≡ 0 → ts ≡ none
no_trees none e = refl
no_trees (more t ts) e = absurd (omega (arith, e))

abbrev pub begun : Shape → List (List ℕ) → List Node → ℕ → Cell → Stage
begun s texts ns from c = record { store = s; texts = texts; terms = left_at from ns 0; cells = c ∷ [] }

-- the work that is left fits what the work at first fits
pub record IsMatching (old : Shape) (olds : List (List ℕ)) (ns : List Node) (first : ℕ) (c : Cell) (s : Shape) (texts : List (List ℕ)) (m : Matching) : Type 0 where
  pub further : IsFurther old olds s texts
  pub within : (k : ℕ) → AreFit k first ns → old.variables ≤ k → s.variables ≤ k
  pub same_first : m.from ≡ first
  pub upper : m.at ≤ length ns
  pub goes : Goes (begun old olds ns first c) (stage s texts ns m)

module _ (old : Shape) (olds : List (List ℕ)) (ns : List Node) (from : ℕ) (c : Cell) where
  pub matching-start : (m : Matching) → m.from ≡ from → m.at ≡ 0 → m.todo.items ≡ c ∷ [] → AreNamed (length olds) old → HasTerm (length olds) old c → IsMatching old olds ns from c old olds m
  matching-start m first at todo named has = record {
    further = further-itself old olds named;
    within = λ k fit le. le;
    same_first = first;
    upper = omega (arith, at);
    goes = subst (Goes (begun old olds ns from c)) (sym (stage-is at))
        (goes-itself (begun old olds ns from c) (All-cons (HasTerm (length olds) old) c [] has (All-nil (HasTerm (length olds) old))));
  }
    where
      stage-is : m.at ≡ 0 → stage old olds ns m ≡ begun old olds ns from c
      stage-is at = ap₂ (λ (ts : Trees) (cs : List Cell). record { store = old; texts = olds; terms = ts; cells = cs })
          (ap₂ (λ (f k : ℕ). left_at f ns k) first at) (ap reverse todo)

  module _ (one : count (forest ns) ≡ 1) (s : Shape) (texts : List (List ℕ)) (m : Matching) (h : IsMatching old olds ns from c s texts m) where
    counted : count (left_at m.from ns m.at) ≡ length (reverse m.todo.items)
    counted = h.goes.counted (count-substituted (shifted from) (forest ns) ∙ one)

    pub matching-end : length m.todo.items ≡ 0 → Goes (begun old olds ns from c) (record { store = s; texts = texts; terms = none; cells = [] })
    matching-end empty =
        let cells : reverse m.todo.items ≡ [] = ap reverse (no_cells m.todo.items empty) in
        let terms : left_at m.from ns m.at ≡ none = no_trees _ (counted ∙ ap length cells) in
        subst (Goes (begun old olds ns from c))
        (ap₂ (λ (ts : Trees) (cs : List Cell). record { store = s; texts = texts; terms = ts; cells = cs }) terms cells) h.goes

    module _ (next : Cell) (rest : List Cell) (popped : m.todo.items ≡ rest ++ next ∷ []) where
      turned : reverse m.todo.items ≡ next ∷ reverse rest
      turned = ap reverse popped ∙ reverse-append rest (next ∷ [])

      pub matching-there : m.at < length ns
      matching-there =
          let a = counted in let b = ap length turned in let d = count-substituted (shifted m.from) (forest (drop m.at ns)) in
          some-left ns m.at (omega (arith, a, b, d))

      pub matching-fit : (k : ℕ) → AreFit k from ns → AreFit k m.from (drop m.at ns)
      matching-fit k fit = subst (λ (f : ℕ). AreFit k f (drop m.at ns)) (sym h.same_first) (fit-drop k from ns m.at fit)

      pub matching-valid : All (HasTerm (length texts) s) (next ∷ reverse rest)
      matching-valid = subst (All (HasTerm (length texts) s)) turned h.goes.valid

      goes-now : Goes (begun old olds ns from c) (record { store = s; texts = texts; terms = left_at m.from ns m.at; cells = next ∷ reverse rest })
      goes-now = subst (λ (cs : List Cell). Goes (begun old olds ns from c) (record { store = s; texts = texts; terms = left_at m.from ns m.at; cells = cs })) turned h.goes

      pub matching-step : (new : Shape) (after : List (List ℕ)) (w : Matching) → IsFurther s texts new after
          → ((k : ℕ) → AreFit k m.from (drop m.at ns) → s.variables ≤ k → new.variables ≤ k)
          → w.from ≡ m.from → w.at ≤ length ns
          → Comes (record { store = s; texts = texts; terms = left_at m.from ns m.at; cells = next ∷ reverse rest }) (stage new after ns w) true
          → IsMatching old olds ns from c new after w
      matching-step new after w further within first upper comes = record {
        further = further-further old s new olds texts after h.further further;
        within = λ k fit le. within k (matching-fit k fit) (h.within k fit le);
        same_first = first ∙ h.same_first;
        upper = upper;
        goes = goes-further _ _ _ further.longer goes-now comes;
      }

      pub matching-refused : (new : Shape) (after : List (List ℕ)) (w : Matching) → IsFurther s texts new after
          → Comes (record { store = s; texts = texts; terms = left_at m.from ns m.at; cells = next ∷ reverse rest }) (stage new after ns w) false
          → (r : ℕ → Tree) → Fits after r (begun old olds ns from c) → ⊥
      matching-refused new after w further comes = comes-false _ (record { store = s; texts = texts; terms = left_at m.from ns m.at; cells = next ∷ reverse rest }) (stage new after ns w) further.longer goes-now comes

-- ---- the whole

pub one-term : (ns : List Node) (t : Tree) → ns ≡ nodes t → forest ns ≡ more t none
one-term ns t e = ap forest (e ∙ sym (append-nil (nodes t))) ∙ forest-nodes t []

module _ (texts : List (List ℕ)) (old : Shape) (shape : IsShape old) where
  -- the new variables stand for themselves
  new-itself : (t : Tree) → substituted (meaning texts old) (renamed old.variables t) ≡ renamed old.variables t
  new-itself t =
      substituted-substituted (meaning texts old) (λ v. variable (old.variables + v)) t
      ∙ substituted-same (λ v. meaning texts old (old.variables + v)) (λ v. variable (old.variables + v))
      (λ v. free-meaning old texts (old.variables + v) (new-free old (old.variables + v) shape (omega arith))) t

  cannot-be : (t : Tree) (c : Cell) → substituted (meaning texts old) t ≡ t
      → ((r : ℕ → Tree) → Solves r (bindings_of texts old) → substituted r t ≡ substituted r (raw texts old c) → ⊥) → CannotBeOne texts old t c
  cannot-be t c itself clash r e =
      clash (λ v. substituted r (meaning texts old v))
      (Solves-after r (resolved (bindings_of texts old)) (bindings_of texts old) (Solves-resolved (bindings_of texts old) (shape-solved (text texts) old shape)))
      (sym (substituted-substituted r (meaning texts old) t) ∙ ap (substituted r) itself ∙ e ∙ substituted-substituted r (meaning texts old) (raw texts old c))

  module _ (new : Shape) (now : IsShape new) (later : IsLater old new) where
    abbrev older : List (ℕ × Tree)
    older = bindings_of texts old

    abbrev newer : List (ℕ × Tree)
    newer = bindings_by (text texts) new.compounds later.added

    bindings-are : bindings_of texts new ≡ newer ++ older
    bindings-are =
        ap (bindings_by (text texts) new.compounds) later.bindings
        ∙ bindings_by-append (text texts) new.compounds later.added old.bindings
        ∙ ap (λ (bs : List (ℕ × Tree)). newer ++ bs)
        (ap (λ (rows : List (ℕ × List Cell)). bindings_by (text texts) rows old.bindings) later.compounds
        ∙ bindings-later (text texts) old.compounds later.rows old.variables shape.compounds old.bindings (λ k d lt. (shape.bindings k d lt).1))

    is-made : (t : Tree) (c : Cell) → substituted (meaning texts old) t ≡ t
        → ((r : ℕ → Tree) → Solves r (bindings_of texts new) → substituted r t ≡ substituted r (raw texts old c))
        → ((r : ℕ → Tree) → Solves r older → substituted r t ≡ substituted r (raw texts old c) → Solves r (bindings_of texts new))
        → IsMadeOne texts old new t c
    is-made t c itself sound complete = (
      added newer older,
      subst (λ (u : Tree). IsMostGeneral (added newer older) u (term_of texts old c)) itself
          (IsMostGeneral-added t (raw texts old c) newer older (subst IsSolved bindings-are (shape-solved (text texts) new now))
          (λ r k. sound r (subst (Solves r) (sym bindings-are) k))
          (λ r k e. subst (Solves r) bindings-are (complete r k e))),
      λ v. ap (λ (bs : List (ℕ × Tree)). resolved bs v) bindings-are ∙ resolved-append newer older v,
    )

module _ (texts olds : List (List ℕ)) (old new : Shape) (shape : IsShape old) (t : Tree) (ns : List Node) (c : Cell) (spelled : ns ≡ nodes t) where
  abbrev ended : Stage
  ended = record { store = new; texts = texts; terms = none; cells = [] }

  terms-are : left_at old.variables ns 0 ≡ more (renamed old.variables t) none
  terms-are = ap (all_substituted (shifted old.variables)) (one-term ns t spelled)

  to-begin : (names : List (List ℕ)) (r : ℕ → Tree) → Solves r (bindings_of names old) → substituted r (renamed old.variables t) ≡ substituted r (raw names old c)
      → Fits names r (begun old olds ns old.variables c)
  to-begin names r k e = (k, subst (λ (ts : Trees). AllMatch r (raw names old) ts (c ∷ [])) (sym terms-are) (e, tt))

  from-begin : (names : List (List ℕ)) (r : ℕ → Tree) → Fits names r (begun old olds ns old.variables c) → substituted r (renamed old.variables t) ≡ substituted r (raw names old c)
  from-begin names r f = (subst (λ (ts : Trees). AllMatch r (raw names old) ts (c ∷ [])) terms-are f.1).0

  fits-is : (r : ℕ → Tree) (s : Stage) → Fits (texts ++ []) r s → Fits texts r s
  fits-is r s f = subst (λ (ts : List (List ℕ)). Fits ts r s) (append-nil texts) f

  is-fits : (r : ℕ → Tree) (s : Stage) → Fits texts r s → Fits (texts ++ []) r s
  is-fits r s f = subst (λ (ts : List (List ℕ)). Fits ts r s) (sym (append-nil texts)) f

  pub all-made : (b : Bool) → Comes (begun old olds ns old.variables c) ended b → IsShape new → IsLater old new → IsTrue b → IsMadeOne texts old new (renamed old.variables t) c
  all-made true goes now later e =
      is-made texts old shape new now later (renamed old.variables t) c (new-itself texts old shape t)
      (λ r k. from-begin texts r (fits-is r (begun old olds ns old.variables c) (goes.back [] r (is-fits r ended (k, tt)))))
      (λ r k same. (fits-is r ended (goes.forth [] r (is-fits r (begun old olds ns old.variables c) (to-begin texts r k same)))).0)
  all-made false goes now later e = absurd (cc e)

  pub all-refused : (b : Bool) → Comes (begun old olds ns old.variables c) ended b → IsFalse b → CannotBeOne texts old (renamed old.variables t) c
  all-refused true goes e = absurd (cc e)
  all-refused false goes e = cannot-be texts old shape (renamed old.variables t) c (new-itself texts old shape t) (λ r k same. goes r (to-begin texts r k same))
