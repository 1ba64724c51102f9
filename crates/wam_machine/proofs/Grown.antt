-- What a store that has grown shows of the cells that it had.
use Rattle.std.proofs.Common.{◌≡◌, ℕ, ◌+◌, ◌-◌, ◌<◌, ◌≤◌, List, [], ◌++◌, length, take, drop, All, refl, sym, ap, ap₂, ◌∙◌, arith, subst, slice_index_or, length-append, append-nil}
use Rattle.std.proofs.lemmas.List.{get_or_append_left, get_or-append-add, take-append-drop, take-append-le}
use Rattle.std.proofs.Math.Seq.{drop-append-add}
use Rattle.prolog_terms.specs.Tree.{Tree}
use Rattle.term_store.specs.declared.cell.Cell.{Cell}
use Rattle.term_store.specs.declared.cell.Trailed.{Trailed}
use Rattle.term_store.specs.Shape.{Shape}
use Rattle.term_store.specs.Terms.{text, raw, bindings_by, bindings_of, resolved, meaning, row_at, HasTerm, AreNamed, IsNamed, IsWithin, IsShape}
use Rattle.term_store.specs.Later.{IsLater, AreLonger, back, CanGoBack}
use Rattle.term_store.proofs.Rows.{within-more, all_within-more, row-left, bindings-later, bindings-names}
use Rattle.term_store.proofs.Laws.{has_term-later, raw-stays, longer-length}

-- what grows: a well formed store, and the names that it has
pub record Grows (texts more : List (List ℕ)) (s u : Shape) : Type 0 where
  pub formed : IsShape s
  pub named : AreNamed (length texts) s
  pub later : IsLater s u
  pub longer : AreLonger texts more

module _ (texts more : List (List ℕ)) (s u : Shape) (g : Grows texts more s u) where
  -- a cell has the term that it had
  pub raw-grown : (c : Cell) → HasTerm (length texts) s c → raw more u c ≡ raw texts s c
  raw-grown c t = raw-stays s u texts more c g.formed g.named g.later g.longer t

  pub has_term-grown : (c : Cell) → HasTerm (length texts) s c → HasTerm (length more) u c
  has_term-grown c t = has_term-later s u (length texts) (length more) c g.later (longer-length texts more g.longer) t

  text-grown : (n : ℕ) → n < length texts → text more n ≡ text texts n
  text-grown n low = ap (λ (ts : List (List ℕ)). text ts n) g.longer.texts ∙ get_or_append_left texts g.longer.added [] n low

  bindings-grown : u.bindings ≡ s.bindings → bindings_of more u ≡ bindings_of texts s
  bindings-grown e =
      let w : All (λ (b : ℕ × Cell). IsWithin (length s.compounds) s.variables b.1) s.bindings = λ k d lt. (g.formed.bindings k d lt).1 in
      ap₂ (λ (rows : List (ℕ × List Cell)) (bs : List (ℕ × Cell)). bindings_by (text more) rows bs) g.later.compounds e
      ∙ bindings-later (text more) s.compounds g.later.rows s.variables g.formed.compounds s.bindings w
      ∙ bindings-names (text more) (text texts) s.compounds s.variables (length texts) text-grown g.formed.compounds g.named.compounds
      s.bindings w g.named.bindings

  -- where no binding was made, variables stand for what they stood for
  pub meaning-grown : u.bindings ≡ s.bindings → meaning more u ≡ meaning texts s
  meaning-grown e = ap (λ (bs : List (ℕ × Tree)). resolved bs) (bindings-grown e)

-- ---- more variables alone

pub shape-wider : (s : Shape) (n : ℕ) → IsShape s → s.variables ≤ n → IsShape (record s { variables = n })
shape-wider s n h le = record {
  compounds = λ i low. let r = h.compounds i low in record { some = r.some; few = r.few; before = all_within-more i i s.variables n _ (omega arith) le r.before };
  bindings = λ k d lt. let b = h.bindings k d lt in let c = b.0 in (omega (arith, c, le), within-more (length s.compounds) (length s.compounds) s.variables n _ (omega arith) le b.1);
  triangular = h.triangular;
}

-- ---- back to a mark

drop-back : {A : Type 0} (added old : List A) (k : ℕ) → k ≤ length old → drop (length (added ++ old) - k) (added ++ old) ≡ drop (length old - k) old
drop-back added old k low =
    let e = length-append added old in
    let f : length (added ++ old) - k ≡ length added + (length old - k) = omega (arith, e) in
    ap (λ n. drop n (added ++ old)) f ∙ drop-append-add added old (length old - k)

pub back-later : (m : Trailed) (s u : Shape) → CanGoBack m s → IsLater s u → back m u ≡ record (back m s) { variables = u.variables }
back-later m s u c h =
    ap₂ (λ (rows : List (ℕ × List Cell)) (bs : List (ℕ × Cell)). record (back m s) { compounds = rows; bindings = bs; variables = u.variables })
    (ap (take m.compounds) h.compounds ∙ take-append-le m.compounds s.compounds h.rows c.compounds)
    (ap (λ (bs : List (ℕ × Cell)). drop (length bs - m.bindings) bs) h.bindings ∙ drop-back h.added s.bindings m.bindings c.bindings)

pub can-later : (m : Trailed) (s u : Shape) → CanGoBack m s → IsLater s u → CanGoBack m u
can-later m s u c h = record {
  compounds = let a = c.compounds in let e = ap length h.compounds ∙ length-append s.compounds h.rows in omega (arith, a, e);
  bindings = let a = c.bindings in let e = ap length h.bindings ∙ length-append h.added s.bindings in omega (arith, a, e);
  formed = subst IsShape (sym (back-later m s u c h)) (shape-wider (back m s) u.variables c.formed h.variables);
}

-- a store at a mark grew to what it is
pub later-back : (m : Trailed) (s : Shape) → IsLater (back m s) s
later-back m s = record {
  rows = drop m.compounds s.compounds;
  compounds = sym (take-append-drop m.compounds s.compounds);
  added = take (length s.bindings - m.bindings) s.bindings;
  bindings = sym (take-append-drop (length s.bindings - m.bindings) s.bindings);
  variables = omega arith;
}

-- and back at the mark it has no other names
pub named-earlier : (count : ℕ) (s u : Shape) → IsLater s u → AreNamed count u → AreNamed count s
named-earlier count s u h a = record {
  compounds = λ i low.
      let e : row_at u.compounds i ≡ row_at s.compounds i = ap (λ (rows : List (ℕ × List Cell)). row_at rows i) h.compounds ∙ row-left s.compounds h.rows i low in
      let le = ap length h.compounds ∙ length-append s.compounds h.rows in
      subst (λ (row : ℕ × List Cell). (row.0 < count) × All (IsNamed count) row.1) e (a.compounds i (omega (arith, le, low)));
  bindings = λ k d low.
      let e = ap length h.bindings ∙ length-append h.added s.bindings in
      subst (λ (b : ℕ × Cell). IsNamed count b.1)
      (ap (λ (bs : List (ℕ × Cell)). slice_index_or bs (length h.added + k) d) h.bindings ∙ get_or-append-add h.added s.bindings k d)
      (a.bindings (length h.added + k) d (omega (arith, e, low)));
}

-- the two stores, both at a mark of the first
pub grows-back : (texts more : List (List ℕ)) (m : Trailed) (s u : Shape) → Grows texts more s u → CanGoBack m s → Grows texts more (back m s) (back m u)
grows-back texts more m s u g c = record {
  formed = c.formed;
  named = named-earlier (length texts) (back m s) s (later-back m s) g.named;
  later = subst (λ (w : Shape). IsLater (back m s) w) (sym (back-later m s u c g.later))
      (record { rows = []; compounds = sym (append-nil _); added = []; bindings = refl; variables = g.later.variables });
  longer = g.longer;
}

pub back_bindings-later : (m : Trailed) (s u : Shape) → CanGoBack m s → IsLater s u → (back m u).bindings ≡ (back m s).bindings
back_bindings-later m s u c h = ap (λ (w : Shape). w.bindings) (back-later m s u c h)
