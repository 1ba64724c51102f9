-- What is seen at a cell whose names are those of a list.
use Rattle.std.proofs.Common.{◌≡◌, ℕ, ◌<◌, ◌≤◌, List, [], ◌∷◌, length, All, refl, sym, ap, ◌∙◌, arith, subst, slice_get, Some, unwrap_or}
use Rattle.std.proofs.lemmas.Option.{unwrap_or-slice_get}
use Rattle.prolog_terms.specs.Tree.{Tree, count}
use Rattle.term_store.specs.declared.cell.Cell.{Cell}
use Rattle.term_store.specs.declared.cell.Cell.TheVariants as is
use Rattle.term_store.specs.declared.cell.View.TheVariants.{Atom, Compound}
use Rattle.term_store.specs.Shape.{Shape}
use Rattle.term_store.specs.Terms.{text, trees_of, row_at, IsWithin, IsNamed, HasTerm, AreNamed, IsShape, IsRow}
use Rattle.term_store.specs.Views.{Looks}

wider : (n k m : ℕ) (c : Cell) → n ≤ k → IsWithin n m c → IsWithin k m c
wider n k m (is.Variable v) le h = h
wider n k m (is.Integer z) le h = tt
wider n k m (is.Atom a) le h = tt
wider n k m (is.Compound i) le h = omega (arith, h, le)

-- a compound of the store
pub record IsKept (names : ℕ) (s : Shape) (f : ℕ) (cs : List Cell) : Type 0 where
  pub name : f < names
  pub few : length cs ≤ 255
  pub args : All (HasTerm names s) cs

kept_row : (names : ℕ) (s : Shape) (i : ℕ) → IsShape s → AreNamed names s → i < length s.compounds
    → IsKept names s (row_at s.compounds i).0 (row_at s.compounds i).1
kept_row names s i h named low =
    let row : IsRow s.variables i (row_at s.compounds i) = h.compounds i low in
    record {
      name = (named.compounds i low).0;
      few = row.few;
      args = λ k d lt. (wider i (length s.compounds) s.variables _ (omega arith) (row.before k d lt), (named.compounds i low).1 k d lt);
    }

pub kept : (names : ℕ) (s : Shape) (c : Cell) (f : ℕ) (args : _) → IsShape s → AreNamed names s → Looks s c (Compound f args) → IsKept names s f args.now
kept names s c f args h named looks =
    let e = looks.sees in
    subst (λ (row : ℕ × List Cell). IsKept names s row.0 row.1) e.3 (kept_row names s e.0 h named e.2)

pub named-atom : (names : ℕ) (s : Shape) (c : Cell) (n : ℕ) → AreNamed names s → IsNamed names c → Looks s c (Atom n) → n < names
named-atom names s c n named a looks = subst (IsNamed names) looks.sees (looks.named names named a)

pub text-read : (texts : List (List ℕ)) (n : ℕ) (t : List ℕ) → slice_get texts n ≡ Some t → text texts n ≡ t
text-read texts n t e = sym (unwrap_or-slice_get texts n []) ∙ ap (λ o. unwrap_or o []) e

pub count-trees : (tree : Cell → Tree) (cs : List Cell) → count (trees_of tree cs) ≡ length cs
count-trees tree [] = refl
count-trees tree (c ∷ cs) = let e : count (trees_of tree cs) ≡ length cs = count-trees tree cs in omega arith
