-- How a store changes: it grows, or goes back to a mark.
use Rattle.std.specs.Prelude.{◌≡◌, ℕ, ◌≤◌, ◌-◌, List, ◌++◌, length, take, drop, nat_eq}
use Rattle.std.specs.List.{IsDistinct}
use Rattle.std.specs.Cmp.Lexicographic.{pointwise}
use Rattle.term_store.specs.declared.cell.Cell.{Cell}
use Rattle.term_store.specs.declared.cell.Trailed.{Trailed}
use Rattle.term_store.specs.Shape.{Shape}
use Rattle.term_store.specs.Terms.{IsShape}

-- compounds and bindings were added, and variables
pub record IsLater (old new : Shape) : Type 0 where
  pub rows : List (ℕ × List Cell)
  pub compounds : new.compounds ≡ old.compounds ++ rows
  pub added : List (ℕ × Cell)
  pub bindings : new.bindings ≡ added ++ old.bindings
  pub variables : old.variables ≤ new.variables

-- names were added
pub record AreLonger (old new : List (List ℕ)) : Type 0 where
  pub added : List (List ℕ)
  pub texts : new ≡ old ++ added

-- no two names have one text
abbrev pub AreDistinct : List (List ℕ) → Type 0
AreDistinct texts = IsDistinct (pointwise nat_eq) texts

abbrev pub mark_of : Shape → Trailed
mark_of s = record { bindings = length s.bindings; compounds = length s.compounds }

-- as many compounds and bindings as at the mark. The numbers of variables are never given again
abbrev pub back : Trailed → Shape → Shape
back m s = record {
  compounds = take m.compounds s.compounds;
  bindings = drop (length s.bindings - m.bindings) s.bindings;
  variables = s.variables;
}

-- the store has grown from one of this mark
pub record CanGoBack (m : Trailed) (s : Shape) : Type 0 where
  pub compounds : m.compounds ≤ length s.compounds
  pub bindings : m.bindings ≤ length s.bindings
  pub formed : IsShape (back m s)

-- each mark of the old store can be gone back to from the new one, and gives what it gave, but for the count of variables
abbrev pub IsTakenBack : Shape → Shape → Type 0
IsTakenBack old new = (m : Trailed) → CanGoBack m old → CanGoBack m new × (back m new ≡ record (back m old) { variables = new.variables })
