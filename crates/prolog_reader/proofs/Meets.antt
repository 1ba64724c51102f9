-- A variable that is met for the first time.
use Rattle.std.proofs.Common.{◌≡◌, ℕ, ◌+◌, Bool, true, false, cond, List, [], ◌∷◌, ◌++◌, None, Some, refl, sym, ap, ◌∙◌}
use Rattle.std.specs.Map.{lookup}
use Rattle.indexmap.specs.IndexMap.{insert_entry}
use Rattle.prolog_terms.specs.Operators.{same_text}
use Rattle.prolog_reader.specs.Numberings.{Numbering, met, is_anonymous}

put_new : (es : List (List ℕ × ℕ)) (v : List ℕ) (k : ℕ) → lookup (same_text v) es ≡ None → insert_entry same_text es v k ≡ es ++ (v, k) ∷ []
put_new [] v k h = refl
put_new (e ∷ es) v k h = by (same_text v e.0) refl (put_new es v k)
  where
    by : (b : Bool) → same_text v e.0 ≡ b → (lookup (same_text v) es ≡ None → insert_entry same_text es v k ≡ es ++ (v, k) ∷ []) → insert_entry same_text (e ∷ es) v k ≡ (e ∷ es) ++ (v, k) ∷ []
    by true q rest = let n : Some e.1 ≡ None = sym (ap (λ b. cond b (Some e.1) (lookup (same_text v) es)) q) ∙ h in cc
    by false q rest = rw q (ap (λ xs. e ∷ xs) (rest (sym (ap (λ b. cond b (Some e.1) (lookup (same_text v) es)) q) ∙ h)))

pub met_new : (v text key : List ℕ) (vs new : Numbering) (es fs : List (List ℕ × ℕ)) (k : ℕ) → record { known = es; count = k } ≡ vs → text ≡ v → key ≡ v → is_anonymous text ≡ false
    → lookup (same_text text) es ≡ None → fs ≡ insert_entry same_text es key k → new ≡ record { known = fs; count = k + 1 } → new ≡ met v vs
met_new v text key vs new es fs k e t q a n i m =
    let x : fs ≡ es ++ (v, k) ∷ [] = i ∙ ap (λ w. insert_entry same_text es w k) q ∙ put_new es v k (sym (ap (λ w. lookup (same_text w) es) t) ∙ n) in
    let y : lookup (same_text v) es ≡ None = sym (ap (λ w. lookup (same_text w) es) t) ∙ n in
    let z : is_anonymous v ≡ false = sym (ap is_anonymous t) ∙ a in
    m ∙ ap (λ ys. record { known = ys; count = k + 1 }) x ∙ sym (ap (met v) (sym e) ∙ rw (z, y) refl)
