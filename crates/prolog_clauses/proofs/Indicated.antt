-- What comes of terms, by those that are behind indicators.
use Rattle.std.proofs.Common.{◌≡◌, List, [], ◌∷◌, ◌++◌, Some, None, codes, refl, sym, ap, ◌∙◌}
use Rattle.prolog_terms.specs.Tree.{Tree}
use Rattle.prolog_terms.specs.declared.entry.Indicator.{Indicator}
use Rattle.prolog_terms.specs.declared.fault.Fault.{Fault}
use Rattle.prolog_clauses.specs.declared.dynamics.Dynamics.{Dynamics}
use Rattle.prolog_clauses.specs.declared.dynamics.Dynamics.TheVariants.{Declares, Raises}
use Rattle.prolog_clauses.specs.Declarations.{type_error}
use Rattle.prolog_clauses.specs.Dynamics.{with_indicator, by_spec, by_specs, spec_indicator}

-- the same with indicators before its own
abbrev pub with_indicators : List Indicator → Dynamics → Dynamics
with_indicators [] d = d
with_indicators (i ∷ is) d = with_indicator i (with_indicators is d)

with_indicators-push : (is : List Indicator) (i : Indicator) (d : Dynamics) → with_indicators (is ++ i ∷ []) d ≡ with_indicators is (with_indicator i d)
with_indicators-push [] i d = refl
with_indicators-push (j ∷ is) i d = ap (with_indicator j) (with_indicators-push is i d)

with_indicators-error : (is : List Indicator) (fault : Fault) → with_indicators is (Raises fault) ≡ Raises fault
with_indicators-error [] fault = refl
with_indicators-error (i ∷ is) fault = ap (with_indicator i) (with_indicators-error is fault)

with_indicators-end : (is : List Indicator) → with_indicators is (Declares []) ≡ Declares is
with_indicators-end [] = refl
with_indicators-end (i ∷ is) = ap (with_indicator i) (with_indicators-end is)

-- one more indicator
pub indicated : (is js : List Indicator) (i : Indicator) (t : Tree) (ts all : List Tree) (d : Dynamics) → js ≡ is ++ i ∷ [] → Some i ≡ spec_indicator t → all ≡ t ∷ ts
    → with_indicators is (by_specs all) ≡ d → with_indicators js (by_specs ts) ≡ d
indicated is js i t ts all d e f g h =
    ap (λ l. with_indicators l (by_specs ts)) e
    ∙ (with_indicators-push is i (by_specs ts)
    ∙ (ap (λ o. with_indicators is (by_spec t o (by_specs ts))) f
    ∙ (ap (λ l. with_indicators is (by_specs l)) (sym g) ∙ h)))

-- the first that is none
pub refused : (is : List Indicator) (t : Tree) (ts all : List Tree) (d : Dynamics) (fault : Fault) → None ≡ spec_indicator t → all ≡ t ∷ ts → fault ≡ type_error (codes "predicate_indicator") t
    → with_indicators is (by_specs all) ≡ d → Raises fault ≡ d
refused is t ts all d fault f g e h =
    ap Raises e
    ∙ (sym (with_indicators-error is (type_error (codes "predicate_indicator") t))
    ∙ (ap (λ o. with_indicators is (by_spec t o (by_specs ts))) f
    ∙ (ap (λ l. with_indicators is (by_specs l)) (sym g) ∙ h)))

-- no term is left
pub all_indicated : (is : List Indicator) (all : List Tree) (d : Dynamics) → all ≡ [] → with_indicators is (by_specs all) ≡ d → Declares is ≡ d
all_indicated is all d e h = sym (with_indicators-end is) ∙ (ap (λ l. with_indicators is (by_specs l)) (sym e) ∙ h)
