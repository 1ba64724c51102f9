-- Laws of a store, over what it shows, for the crates above.
use Rattle.std.proofs.Common.{◌≡◌, ℕ, suc, ◌-◌, ◌<◌, ◌≤◌, List, [], ◌∷◌, ◌++◌, length, take, drop, All, refl, sym, ap, ap₂, ◌∙◌, arith, subst, append_assoc, append-nil, length-append, nat_eq, Bool, true, false, None, ◌≢◌}
use Rattle.std.specs.Prelude.{OnErr, Result, Ok, Err}
use Rattle.std.proofs.lemmas.Bool.Decides.{nat_tests}
use Rattle.std.proofs.Math.Seq.{get_or-append_seam}
use Rattle.std.proofs.lemmas.List.{get_or_append_left, take-append-le}
use Rattle.prolog_terms.specs.Tree.{Tree, variable, compound}
use Rattle.prolog_terms.specs.Substitutions.{substituted}
use Rattle.term_store.specs.declared.cell.Cell.{Cell}
use Rattle.term_store.specs.declared.cell.Cell.TheVariants.{Variable, Integer, Atom, Compound}
use Rattle.term_store.specs.declared.cell.Trailed.{Trailed}
use Rattle.term_store.specs.Shape.{Shape}
use Rattle.term_store.specs.Terms.{text, trees_of, row_at, raw, raw_by, bindings_by, bindings_of, resolved, meaning, term_of, lookup, IsCell, IsNamed, HasTerm, AreNamed, IsShape, IsUnified}
use Rattle.term_store.specs.Later.{IsLater, IsTakenBack, AreLonger, mark_of, back, CanGoBack}
use Rattle.term_store.proofs.Trees.{substituted-substituted, substituted-same}
use Rattle.term_store.proofs.Bindings.{resolved_unbound}
use Rattle.term_store.proofs.Rows.{within-more, all_within-more, row-left, raw-compound, trees_of-same, raw-later, raw-names, bindings-later, bindings-names}
use Rattle.term_store.proofs.Values.{free-unbound}
use Rattle.term_store.proofs.Shapes.{shape-compound, back-mark}

-- ---- growing

pub later-itself : (s : Shape) → IsLater s s
later-itself s = record {
  rows = [];
  compounds = sym (append-nil s.compounds);
  added = [];
  bindings = refl;
  variables = omega arith;
}

pub later-further : (s t u : Shape) → IsLater s t → IsLater t u → IsLater s u
later-further s t u h k = record {
  rows = h.rows ++ k.rows;
  compounds = k.compounds ∙ ap (λ (rows : List (ℕ × List Cell)). rows ++ k.rows) h.compounds ∙ append_assoc s.compounds h.rows k.rows;
  added = k.added ++ h.added;
  bindings = k.bindings ∙ ap (λ (bs : List (ℕ × Cell)). k.added ++ bs) h.bindings ∙ sym (append_assoc k.added h.added s.bindings);
  variables = let a = h.variables in let b = k.variables in omega (arith, a, b);
}

pub longer-itself : (texts : List (List ℕ)) → AreLonger texts texts
longer-itself texts = record { added = []; texts = sym (append-nil texts) }

pub longer-further : (a b c : List (List ℕ)) → AreLonger a b → AreLonger b c → AreLonger a c
longer-further a b c h k = record {
  added = h.added ++ k.added;
  texts = k.texts ∙ ap (λ (ts : List (List ℕ)). ts ++ k.added) h.texts ∙ append_assoc a h.added k.added;
}

pub longer-length : (a b : List (List ℕ)) → AreLonger a b → length a ≤ length b
longer-length a b h = let e = ap length h.texts ∙ length-append a h.added in omega (arith, e)

-- ---- cells stay cells

pub cell-later : (s t : Shape) (c : Cell) → IsLater s t → IsCell s c → IsCell t c
cell-later s t c h w =
    let e = ap length h.compounds ∙ length-append s.compounds h.rows in
    within-more (length s.compounds) (length t.compounds) s.variables t.variables c (omega (arith, e)) h.variables w

pub named-more : (n k : ℕ) (c : Cell) → n ≤ k → IsNamed n c → IsNamed k c
named-more n k (Variable v) le h = tt
named-more n k (Integer z) le h = tt
named-more n k (Atom a) le h = omega (arith, h, le)
named-more n k (Compound i) le h = tt

pub has_term-later : (s t : Shape) (n k : ℕ) (c : Cell) → IsLater s t → n ≤ k → HasTerm n s c → HasTerm k t c
has_term-later s t n k c h le w = (cell-later s t c h w.0, named-more n k c le w.1)

-- ---- names stay names

pub are_named-more : (n k : ℕ) (s : Shape) → n ≤ k → AreNamed n s → AreNamed k s
are_named-more n k s le h = record {
  compounds = λ i low. let row = h.compounds i low in let f = row.0 in (omega (arith, f, le), λ j d lt. named-more n k _ le (row.1 j d lt));
  bindings = λ j d lt. named-more n k _ le (h.bindings j d lt);
}

pub are_named-variables : (n m : ℕ) (s : Shape) → AreNamed n s → AreNamed n (record s { variables = m })
are_named-variables n m s h = record { compounds = h.compounds; bindings = h.bindings }

-- ---- terms stay

-- as they were built, over the same names
pub raw-same : (s t : Shape) (texts : List (List ℕ)) (c : Cell) → IsShape s → IsLater s t → IsCell s c → raw texts t c ≡ raw texts s c
raw-same s t texts c h later w =
    ap (λ (rows : List (ℕ × List Cell)). raw_by (text texts) rows c) later.compounds
    ∙ raw-later (text texts) s.compounds later.rows s.variables h.compounds c w

pub text-longer : (a b : List (List ℕ)) → AreLonger a b → (n : ℕ) → n < length a → text b n ≡ text a n
text-longer a b h n low = ap (λ (ts : List (List ℕ)). text ts n) h.texts ∙ get_or_append_left a h.added [] n low

-- as they were built, with further names
pub raw-stays : (s t : Shape) (texts longer : List (List ℕ)) (c : Cell) → IsShape s → AreNamed (length texts) s → IsLater s t → AreLonger texts longer
    → HasTerm (length texts) s c → raw longer t c ≡ raw texts s c
raw-stays s t texts longer c h named later more has =
    raw-same s t longer c h later has.0
    ∙ raw-names (text longer) (text texts) s.compounds s.variables (length texts) (text-longer texts longer more) h.compounds named.compounds (length s.compounds) c (omega arith) has.0 has.1

-- with what is bound, where nothing was bound
pub term-stays : (s t : Shape) (texts longer : List (List ℕ)) (c : Cell) → IsShape s → AreNamed (length texts) s → IsLater s t → AreLonger texts longer
    → t.bindings ≡ s.bindings → HasTerm (length texts) s c → term_of longer t c ≡ term_of texts s c
term-stays s t texts longer c h named later more same has =
    ap₂ (λ (bs : List (ℕ × Tree)) (u : Tree). substituted (resolved bs) u)
    (ap₂ (λ (rows : List (ℕ × List Cell)) (bs : List (ℕ × Cell)). bindings_by (text longer) rows bs) later.compounds same
    ∙ bindings-later (text longer) s.compounds later.rows s.variables h.compounds s.bindings (λ k d lt. (h.bindings k d lt).1)
    ∙ bindings-names (text longer) (text texts) s.compounds s.variables (length texts) (text-longer texts longer more) h.compounds named.compounds s.bindings (λ k d lt. (h.bindings k d lt).1) named.bindings)
    (raw-stays s t texts longer c h named later more has)

-- ---- one more compound

pub named-compound : (count : ℕ) (s : Shape) (f : ℕ) (cs : List Cell) → AreNamed count s → f < count → All (IsNamed count) cs
    → AreNamed count (record s { compounds = s.compounds ++ (f, cs) ∷ [] })
named-compound count s f cs h low named = record {
  compounds = λ i lt. go i lt (nat_eq i (length s.compounds)) refl;
  bindings = h.bindings;
}
  where
    go : (i : ℕ) → i < length (s.compounds ++ (f, cs) ∷ []) → (b : Bool) → nat_eq i (length s.compounds) ≡ b
        → ((row_at (s.compounds ++ (f, cs) ∷ []) i).0 < count) × All (IsNamed count) (row_at (s.compounds ++ (f, cs) ∷ []) i).1
    go i lt true q =
        let same : length s.compounds ≡ i = grind arith in
        subst (λ (k : ℕ). ((row_at (s.compounds ++ (f, cs) ∷ []) k).0 < count) × All (IsNamed count) (row_at (s.compounds ++ (f, cs) ∷ []) k).1) same
        (subst (λ (row : ℕ × List Cell). (row.0 < count) × All (IsNamed count) row.1) (sym (get_or-append_seam s.compounds (f, cs) [] (0, []))) (low, named))
    go i lt false q =
        let other : i ≢ length s.compounds = grind arith in
        let e = length-append s.compounds ((f, cs) ∷ []) in
        let less : i < length s.compounds = omega (arith, other, lt, e) in
        subst (λ (row : ℕ × List Cell). (row.0 < count) × All (IsNamed count) row.1) (sym (row-left s.compounds ((f, cs) ∷ []) i less)) (h.compounds i less)

pub later-compound : (s : Shape) (row : ℕ × List Cell) → IsLater s (record s { compounds = s.compounds ++ row ∷ [] })
later-compound s row = record {
  rows = row ∷ [];
  compounds = refl;
  added = [];
  bindings = refl;
  variables = omega arith;
}

-- the term of a new compound
pub raw-new : (s : Shape) (texts : List (List ℕ)) (f : ℕ) (cs : List Cell) → IsShape s → 1 ≤ length cs → length cs ≤ 255 → All (IsCell s) cs
    → raw texts (record s { compounds = s.compounds ++ (f, cs) ∷ [] }) (Compound (length s.compounds)) ≡ compound (text texts f) (trees_of (raw texts s) cs)
raw-new s texts f cs h some few valid =
    let new : Shape = record s { compounds = s.compounds ++ (f, cs) ∷ [] } in
    let e = length-append s.compounds ((f, cs) ∷ []) in
    raw-compound (text texts) new.compounds new.variables (shape-compound s f cs h some few valid).compounds (length s.compounds) (omega (arith, e))
    ∙ ap (λ (row : ℕ × List Cell). compound (text texts row.0) (trees_of (raw texts new) row.1)) (get_or-append_seam s.compounds (f, cs) [] (0, []))
    ∙ ap (compound (text texts f)) (trees_of-same (raw texts new) (raw texts s) (IsCell s) cs valid (λ c w. raw-same s new texts c h (later-compound s (f, cs)) w))

-- ---- what is bound

-- a free variable stands for itself
pub free-meaning : (s : Shape) (texts : List (List ℕ)) (v : ℕ) → lookup s.bindings v ≡ None → meaning texts s v ≡ variable v
free-meaning s texts v e = resolved_unbound v (bindings_of texts s) (free-unbound (text texts) s.compounds s.bindings v e)

unbound-above : (bs : List (ℕ × Cell)) (m v : ℕ) → All (λ b. b.0 < m) bs → m ≤ v → lookup bs v ≡ None
unbound-above [] m v h le = refl
unbound-above (b ∷ bs) m v h le =
    let low : b.0 < m = h 0 b (omega arith) in
    let other : nat_eq v b.0 ≡ false = grind (arith, nat_tests) in
    rw other (unbound-above bs m v (λ k d lt. h (suc k) d (omega arith)) le)

-- a number that no variable has yet is free
pub new-free : (s : Shape) (v : ℕ) → IsShape s → s.variables ≤ v → lookup s.bindings v ≡ None
new-free s v h le = unbound-above s.bindings s.variables v (λ k d lt. (h.bindings k d lt).0) le

-- after unification, each term is the older one under the unifier
pub unified-term : (texts : List (List ℕ)) (old new : Shape) (a b c : Cell) → new.compounds ≡ old.compounds → (u : IsUnified texts old new a b)
    → term_of texts new c ≡ substituted u.0 (term_of texts old c)
unified-term texts old new a b c same u =
    substituted-same (meaning texts new) (λ v. substituted u.0 (meaning texts old v)) u.2 (raw texts new c)
    ∙ ap (λ (rows : List (ℕ × List Cell)). substituted (λ v. substituted u.0 (meaning texts old v)) (raw_by (text texts) rows c)) same
    ∙ sym (substituted-substituted u.0 (meaning texts old) (raw texts old c))

-- and the two that were unified are one
pub unified-equal : (texts : List (List ℕ)) (old new : Shape) (a b : Cell) → new.compounds ≡ old.compounds → IsUnified texts old new a b → term_of texts new a ≡ term_of texts new b
unified-equal texts old new a b same u =
    unified-term texts old new a b a same u ∙ u.1.unifies ∙ sym (unified-term texts old new a b b same u)

-- ---- going back

drop-suffix : {A : Type 0} (added old : List A) (n : ℕ) → n ≤ length old → drop (length (added ++ old) - n) (added ++ old) ≡ drop (length old - n) old
drop-suffix [] old n le = refl
drop-suffix (a ∷ added) old n le =
    let long = length-append added old in
    let e : length (a ∷ added ++ old) - n ≡ suc (length (added ++ old) - n) = omega (arith, long, le) in
    ap (λ (k : ℕ). drop k (a ∷ added ++ old)) e ∙ drop-suffix added old n le

-- what is later goes back to what the older one goes back to, but for the count of variables
pub back-later : (m : Trailed) (s t : Shape) → IsLater s t → CanGoBack m s → back m t ≡ record (back m s) { variables = t.variables }
back-later m s t later can =
    ap₂ (λ (rows : List (ℕ × List Cell)) (bs : List (ℕ × Cell)). record t { compounds = rows; bindings = bs })
    (ap (take m.compounds) later.compounds ∙ take-append-le m.compounds s.compounds later.rows can.compounds)
    (ap (λ (bs : List (ℕ × Cell)). drop (length bs - m.bindings) bs) later.bindings ∙ drop-suffix later.added s.bindings m.bindings can.bindings)

-- more variables keep a store well formed
pub shape-wider : (s : Shape) (n : ℕ) → IsShape s → s.variables ≤ n → IsShape (record s { variables = n })
shape-wider s n h le = record {
  compounds = λ i low. record {
    some = (h.compounds i low).some;
    few = (h.compounds i low).few;
    before = all_within-more i i s.variables n _ (omega arith) le (h.compounds i low).before;
  };
  bindings = λ k d lt. let b = h.bindings k d lt in let low = b.0 in
      (omega (arith, low, le), within-more (length s.compounds) (length s.compounds) s.variables n _ (omega arith) le b.1);
  triangular = h.triangular;
}

-- a mark stays good
pub can-go-back-later : (m : Trailed) (s t : Shape) → IsLater s t → CanGoBack m s → CanGoBack m t
can-go-back-later m s t later can = record {
  compounds = let e = ap length later.compounds ∙ length-append s.compounds later.rows in let low = can.compounds in omega (arith, e, low);
  bindings = let e = ap length later.bindings ∙ length-append later.added s.bindings in let low = can.bindings in omega (arith, e, low);
  formed = subst IsShape (sym (back-later m s t later can)) (shape-wider (back m s) t.variables can.formed later.variables);
}

-- a mark of the store can be gone back to
pub can-mark : (s : Shape) → IsShape s → CanGoBack (mark_of s) s
can-mark s h = record { compounds = omega arith; bindings = omega arith; formed = subst IsShape (sym (back-mark s)) h }

-- more variables
pub later-variables : (s : Shape) (n : ℕ) → s.variables ≤ n → IsLater s (record s { variables = n })
later-variables s n le = record {
  rows = [];
  compounds = sym (append-nil s.compounds);
  added = [];
  bindings = refl;
  variables = le;
}

-- back at a mark, the store is as it was then, but for the count of variables
pub back-at-mark : (s t : Shape) → IsShape s → IsLater s t → back (mark_of s) t ≡ record s { variables = t.variables }
back-at-mark s t h later =
    back-later (mark_of s) s t later (can-mark s h) ∙ ap (λ (u : Shape). record u { variables = t.variables }) (back-mark s)

-- what holds in any case holds at an error
pub at-want : {A E : Type 0} (r : Result A E) (P : Type 0) → P → OnErr r P
at-want (Ok a) P p = tt
at-want (Err e) P p = p

-- what was added is taken back by each mark
pub taken-back : (s t : Shape) → IsLater s t → IsTakenBack s t
taken-back s t later = λ m can. (can-go-back-later m s t later can, back-later m s t later can)

-- an older mark stays good where a younger one was gone back to
pub can-go-back-back : (m : Trailed) (s t : Shape) → IsShape s → IsLater s t → CanGoBack m s → CanGoBack m (back (mark_of s) t)
can-go-back-back m s t h later can =
    subst (CanGoBack m) (sym (back-at-mark s t h later))
    (can-go-back-later m s (record s { variables = t.variables }) (later-variables s t.variables later.variables) can)

-- an empty store has no names
pub named-empty : (count : ℕ) (s : Shape) → s.compounds ≡ [] → s.bindings ≡ [] → AreNamed count s
named-empty count s no_rows no_bindings = record {
  compounds = λ i low. let none = ap length no_rows in absurd (omega (arith, none, low));
  bindings = subst (All (λ b. IsNamed count b.1)) (sym no_bindings) (λ k d lt. absurd (omega arith));
}
