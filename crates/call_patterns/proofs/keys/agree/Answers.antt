use Rattle.std.proofs.Common.{◌≡◌, sym, ap, ◌∙◌, subst, Some, Option}
use Rattle.std.specs.Prelude.{option_map}
use Rattle.call_patterns.specs.Keys.{keys_agree}
use Rattle.call_patterns.specs.Calls.{key_of, IsKeyOf}
use Rattle.call_patterns.specs.declared.key.Key.{Key}
use Rattle.call_patterns.proofs.NumberedKeys.{same}
use Rattle.call_patterns.proofs.keys.agree.Goals as goal

pub returns-in-Some-Some : goal.returns-in-Some-Some
returns-in-Some-Some c = λ names distinct h g.
    let first : c.args.head ≡ Some c.in-Some-Some.a = c.in-Some-Some.is-0 in
    let second : c.args.goal ≡ Some c.in-Some-Some.b = c.in-Some-Some.is-1 in
    c.eq.ensures
    ∙ same names distinct c.in-Some-Some.a c.in-Some-Some.b (subst (IsKeyOf names) first h) (subst (IsKeyOf names) second g)
    ∙ sym (ap (λ (x : Option Key). keys_agree (option_map (key_of names) x) (option_map (key_of names) c.args.goal)) first
    ∙ ap (λ (y : Option Key). keys_agree (Some (key_of names c.in-Some-Some.a)) (option_map (key_of names) y)) second)
