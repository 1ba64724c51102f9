-- A store stays well formed: one more compound, one more binding, and back to a mark.
use Rattle.std.proofs.Common.{◌≡◌, ◌≢◌, ℕ, zero, suc, ◌-◌, ◌<◌, ◌≤◌, List, [], ◌∷◌, ◌++◌, length, drop, All, Bool, true, false, nat_eq, None, refl, sym, ap, ap₂, arith, subst, length-append}
use Rattle.std.specs.Prelude.{IsTrue}
use Rattle.std.proofs.Math.Seq.{get_or-append_seam, take-length}
use Rattle.prolog_terms.specs.Tree.{Tree}
use Rattle.prolog_terms.specs.Substitutions.{substituted, occurs}
use Rattle.term_store.specs.declared.cell.Cell.{Cell}
use Rattle.term_store.specs.Shape.{Shape}
use Rattle.term_store.specs.Terms.{row_at, raw_by, bindings_by, resolved, lookup, IsWithin, IsCell, IsRow, IsOlder, IsTriangular, IsShape}
use Rattle.term_store.specs.Later.{mark_of, back}
use Rattle.term_store.proofs.Rows.{within-more, row-left, raw-later, bindings-later}

triangular-later : (name : ℕ → List ℕ) (rows added : List (ℕ × List Cell)) (m : ℕ) → ((i : ℕ) → i < length rows → IsRow m i (row_at rows i))
    → (bs : List (ℕ × Cell)) → All (λ b. IsWithin (length rows) m b.1) bs → IsTriangular name rows bs → IsTriangular name (rows ++ added) bs
triangular-later name rows added m h [] w t = tt
triangular-later name rows added m h (b ∷ bs) w t =
    let rest : All (λ d. IsWithin (length rows) m d.1) bs = λ k d lt. w (suc k) d (omega arith) in (
      t.0,
      subst (λ (u : Tree). ¬ IsTrue (occurs b.0 u))
          (sym (ap₂ (λ (cs : List (ℕ × Tree)) (u : Tree). substituted (resolved cs) u) (bindings-later name rows added m h bs rest) (raw-later name rows added m h b.1 (w 0 b (omega arith)))))
          t.1,
      t.2,
      triangular-later name rows added m h bs rest t.3,
    )

module _ (s : Shape) (f : ℕ) (cs : List Cell) (h : IsShape s) (some : 1 ≤ length cs) (few : length cs ≤ 255) (valid : All (IsCell s) cs) where
  row_added : (i : ℕ) → i < length (s.compounds ++ (f, cs) ∷ []) → IsRow s.variables i (row_at (s.compounds ++ (f, cs) ∷ []) i)
  row_added i low = go (nat_eq i (length s.compounds)) refl
    where
      go : (b : Bool) → nat_eq i (length s.compounds) ≡ b → IsRow s.variables i (row_at (s.compounds ++ (f, cs) ∷ []) i)
      go true q =
          let same : length s.compounds ≡ i = grind arith in
          subst (λ (k : ℕ). IsRow s.variables k (row_at (s.compounds ++ (f, cs) ∷ []) k)) same
          (subst (IsRow s.variables (length s.compounds)) (sym (get_or-append_seam s.compounds (f, cs) [] (0, [])))
          (record { some = some; few = few; before = valid }))
      go false q =
          let other : i ≢ length s.compounds = grind arith in
          let e = length-append s.compounds ((f, cs) ∷ []) in
          let less : i < length s.compounds = omega (arith, other, low, e) in
          subst (IsRow s.variables i) (sym (row-left s.compounds ((f, cs) ∷ []) i less)) (h.compounds i less)

  pub shape-compound : IsShape (record s { compounds = s.compounds ++ (f, cs) ∷ [] })
  shape-compound = record {
    compounds = row_added;
    bindings = λ k d lt.
        let e = length-append s.compounds ((f, cs) ∷ []) in let old = h.bindings k d lt in
        (old.0, within-more (length s.compounds) (length (s.compounds ++ (f, cs) ∷ [])) s.variables s.variables _ (omega (arith, e)) (omega arith) old.1);
    triangular = λ name. triangular-later name s.compounds ((f, cs) ∷ []) s.variables h.compounds s.bindings (λ k d lt. (h.bindings k d lt).1) (h.triangular name);
  }

pub shape-bind : (s : Shape) (x : ℕ) (c : Cell) → IsShape s → x < s.variables → IsCell s c → lookup s.bindings x ≡ None → IsOlder x c
    → ((name : ℕ → List ℕ) → ¬ IsTrue (occurs x (substituted (resolved (bindings_by name s.compounds s.bindings)) (raw_by name s.compounds c))))
    → IsShape (record s { bindings = (x, c) ∷ s.bindings })
shape-bind s x c h inside valid free older absent = record {
  compounds = h.compounds;
  bindings = all-more (λ b. (b.0 < s.variables) × IsCell s b.1) (x, c) s.bindings (inside, valid) h.bindings;
  triangular = λ name. (free, absent name, older, h.triangular name);
}
  where
    all-more : (P : ℕ × Cell → Type 0) (b : ℕ × Cell) (bs : List (ℕ × Cell)) → P b → All P bs → All P (b ∷ bs)
    all-more P b bs p ps zero d lt = p
    all-more P b bs p ps (suc k) d lt = ps k d (omega arith)

pub back-mark : (s : Shape) → back (mark_of s) s ≡ s
back-mark s =
    let none : length s.bindings - length s.bindings ≡ zero = omega arith in
    ap₂ (λ (rows : List (ℕ × List Cell)) (bs : List (ℕ × Cell)). record s { compounds = rows; bindings = bs })
    (take-length s.compounds) (ap (λ (n : ℕ). drop n s.bindings) none)
