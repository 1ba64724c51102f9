-- Laws of a journal's procedures, with one entry more.
use Rattle.std.specs.Prelude.{◌≡◌, ◌↔◌, ℕ, [], ◌∷◌, ◌++◌, length, true, Some, None, if◌then◌else◌}
use Rattle.prolog_terms.specs.declared.entry.Entry.{Entry}
use Rattle.prolog_terms.specs.declared.entry.Indicator.{Indicator}
use Rattle.prolog_terms.specs.declared.entry.Kind.{Kind}
use Rattle.prolog_terms.specs.declared.entry.What.TheVariants.{Declare}
use Rattle.journals.specs.Journal.{Journal, number_of, procedures, same_indicator}

-- a procedure keeps its number
abbrev pub NumbersStay : Type 0
NumbersStay = (J : Journal) (e : Entry) (i : Indicator) (p : ℕ) → number_of J i ≡ Some p → number_of (J ++ e ∷ []) i ≡ Some p

-- a procedure that is declared gets the number of those before it, and no other indicator gets one
abbrev pub NewNumber : Type 0
NewNumber = (J : Journal) (e : Entry) (i : Indicator) (k : Kind) (q : Indicator) → e.what ≡ Declare i k → number_of J i ≡ None
    → number_of (J ++ e ∷ []) q ≡ (if same_indicator i q then Some (length (procedures J)) else number_of J q)

abbrev pub IndicatorsAreEqual : Type 0
IndicatorsAreEqual = (i j : Indicator) → same_indicator i j ≡ true ↔ i ≡ j
