-- Laws of what stores show.
use Rattle.std.specs.Prelude.{◌≡◌, ℕ, ◌≤◌, List, length, None}
use Rattle.prolog_terms.specs.Tree.{variable, HasArities}
use Rattle.prolog_terms.specs.Substitutions.{substituted}
use Rattle.term_store.specs.declared.cell.Cell.{Cell}
use Rattle.term_store.specs.declared.cell.Trailed.{Trailed}
use Rattle.term_store.specs.Shape.{Shape}
use Rattle.term_store.specs.Terms.{raw, term_of, meaning, lookup, IsCell, HasTerm, AreNamed, IsShape, IsUnified}
use Rattle.term_store.specs.Later.{IsLater, AreLonger, mark_of, back, CanGoBack}

-- a cell keeps the term as which it was built, whatever is added to the store and to the names
abbrev pub BuiltStays : Type 0
BuiltStays = (s t : Shape) (texts longer : List (List ℕ)) (c : Cell) → IsShape s → AreNamed (length texts) s → IsLater s t → AreLonger texts longer
    → HasTerm (length texts) s c → HasTerm (length longer) t c × (raw longer t c ≡ raw texts s c)

-- and what it stands for, where nothing is bound
abbrev pub TermStays : Type 0
TermStays = (s t : Shape) (texts longer : List (List ℕ)) (c : Cell) → IsShape s → AreNamed (length texts) s → IsLater s t → AreLonger texts longer
    → t.bindings ≡ s.bindings → HasTerm (length texts) s c → term_of longer t c ≡ term_of texts s c

-- a variable that isn't bound stands for itself, and a new one isn't bound
abbrev pub FreeIsItself : Type 0
FreeIsItself = (s : Shape) (texts : List (List ℕ)) (v : ℕ) → lookup s.bindings v ≡ None → meaning texts s v ≡ variable v

abbrev pub NewIsFree : Type 0
NewIsFree = (s : Shape) (v : ℕ) → IsShape s → s.variables ≤ v → lookup s.bindings v ≡ None

-- after unification each cell stands for what it stood for under the unifier, and the two cells for one term
abbrev pub UnifiedTerms : Type 0
UnifiedTerms = (texts : List (List ℕ)) (old new : Shape) (a b : Cell) → new.compounds ≡ old.compounds → (u : IsUnified texts old new a b)
    → ((c : Cell) → term_of texts new c ≡ substituted u.0 (term_of texts old c)) × (term_of texts new a ≡ term_of texts new b)

-- a mark can be gone back to from whatever was added since, and an older mark stays good when a younger one was gone back to
abbrev pub MarkStays : Type 0
MarkStays = (m : Trailed) (s t : Shape) → IsShape s → IsLater s t → CanGoBack m s → CanGoBack m t × CanGoBack m (back (mark_of s) t)

-- going back from what is later is going back, but for the count of variables
abbrev pub BackIsBack : Type 0
BackIsBack = (m : Trailed) (s t : Shape) → IsLater s t → CanGoBack m s → back m t ≡ record (back m s) { variables = t.variables }

-- back at a mark the store is as it was at the mark, but for the count of variables
abbrev pub MarkIsRestored : Type 0
MarkIsRestored = (s t : Shape) → IsShape s → IsLater s t → back (mark_of s) t ≡ record s { variables = t.variables }

-- what a cell stands for has compounds of 1 to 255 arguments alone
abbrev pub TermsHaveArities : Type 0
TermsHaveArities = (s : Shape) (texts : List (List ℕ)) (c : Cell) → IsShape s → IsCell s c → HasArities (raw texts s c) × HasArities (term_of texts s c)
