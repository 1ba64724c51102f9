-- A stack on which nothing stands.
use Rattle.std.proofs.Common.{◌≡◌, List, [], ◌∷◌, map, refl}
use Rattle.wam_machine.specs.Terms.{said}
use Rattle.wam_machine.specs.declared.terms.Terms.{Terms}

no_more : {A B : Type 0} (f : A → B) (xs : List A) → map f xs ≡ [] → xs ≡ []
no_more f [] e = refl
no_more f (x ∷ xs) e = absurd (cc e)

-- no moment is kept where none is said
pub none_left : {C : Type 0} (t : Terms C) → (said t).stack ≡ [] → t.choices.items ≡ []
unfolding said
none_left t e = no_more _ t.choices.items e
