-- What is seen at a cell whose names are those of a list, and texts that were compared.
use Rattle.std.proofs.Common.{◌≡◌, ℕ, ◌<◌, ◌≤◌, List, [], ◌∷◌, length, All, Bool, true, false, refl, sym, ap, ◌∙◌, arith, subst, slice_get, Some, unwrap_or}
use Rattle.std.specs.Prelude.{nat_eq, ◌==◌}
use Rattle.std.proofs.lemmas.Bool.Decides.{nat_tests}
use Rattle.std.specs.Cmp.Lexicographic.{pointwise, same_text}
use Rattle.std.proofs.lemmas.Cmp.{nat_list_eq_equiv}
use Rattle.std.proofs.lemmas.Option.{unwrap_or-slice_get}
use Rattle.prolog_terms.specs.Tree.{Tree, count}
use Rattle.prolog_terms.specs.Clauses.{is_named}
use Rattle.term_store.specs.declared.cell.Cell.{Cell}
use Rattle.term_store.specs.declared.cell.View.TheVariants.{Atom, Compound}
use Rattle.term_store.specs.Shape.{Shape}
use Rattle.term_store.specs.Terms.{text, trees_of, row_at, IsNamed, HasTerm, AreNamed, IsShape, IsRow}
use Rattle.term_store.specs.Views.{Looks}
use Rattle.term_store.proofs.Rows.{within-more}

-- a compound of the store
pub record IsKept (names : ℕ) (s : Shape) (f : ℕ) (cs : List Cell) : Type 0 where
  pub name : f < names
  pub some : 1 ≤ length cs
  pub few : length cs ≤ 255
  pub args : All (HasTerm names s) cs

kept_row : (names : ℕ) (s : Shape) (i : ℕ) → IsShape s → AreNamed names s → i < length s.compounds
    → IsKept names s (row_at s.compounds i).0 (row_at s.compounds i).1
kept_row names s i h named low =
    let row : IsRow s.variables i (row_at s.compounds i) = h.compounds i low in
    record {
      name = (named.compounds i low).0;
      some = row.some;
      few = row.few;
      args = λ k d lt. (within-more i (length s.compounds) s.variables s.variables _ (omega arith) (omega arith) (row.before k d lt), (named.compounds i low).1 k d lt);
    }

pub kept : (names : ℕ) (s : Shape) (c : Cell) (f : ℕ) (args : _) → IsShape s → AreNamed names s → Looks s c (Compound f args) → IsKept names s f args.now
kept names s c f args h named looks =
    let e = looks.sees in
    subst (λ (row : ℕ × List Cell). IsKept names s row.0 row.1) e.3 (kept_row names s e.0 h named e.2)

pub named-atom : (names : ℕ) (s : Shape) (c : Cell) (n : ℕ) → AreNamed names s → IsNamed names c → Looks s c (Atom n) → n < names
named-atom names s c n named a looks = subst (IsNamed names) looks.sees (looks.named names named a)

pub text-read : (texts : List (List ℕ)) (n : ℕ) (t : List ℕ) → slice_get texts n ≡ Some t → text texts n ≡ t
text-read texts n t e = sym (unwrap_or-slice_get texts n []) ∙ ap (λ o. unwrap_or o []) e

pub count-trees : (tree : Cell → Tree) (cs : List Cell) → count (trees_of tree cs) ≡ length cs
count-trees tree [] = refl
count-trees tree (c ∷ cs) = let e : count (trees_of tree cs) ≡ length cs = count-trees tree cs in omega arith

-- ---- texts that were compared

pub tested : (a x name : List ℕ) (b : Bool) → b ≡ pointwise nat_eq a x → x ≡ name → is_named name a ≡ b
tested a x name b e is = nat_list_eq_equiv.symm name a ∙ sym (ap (pointwise nat_eq a) is) ∙ sym e

pub tested-text : (texts : List (List ℕ)) (n : ℕ) (a x name : List ℕ) (b : Bool) → slice_get texts n ≡ Some a → b ≡ pointwise nat_eq a x → x ≡ name → is_named name (text texts n) ≡ b
tested-text texts n a x name b s e is = ap (is_named name) (text-read texts n a s) ∙ tested a x name b e is

pub named-same : (name a : List ℕ) → is_named name a ≡ true → name ≡ a
named-same name a e = same_text name a (sym e)

-- ---- lists that were asked whether they are empty

pub no-more : (b : Bool) (n : ℕ) → b ≡ true → b ≡ (n == 0) → n ≡ 0
no-more b n e d = grind (arith, nat_tests)

pub some-more : (b : Bool) (n : ℕ) → b ≡ false → b ≡ (n == 0) → 1 ≤ n
some-more b n e d = grind (arith, nat_tests)
