use Rattle.std.proofs.Common.{◌≡◌, ℕ, List, ◌++◌, ◌∷◌, [], length, sym, ap, ◌∙◌, subst, arith, false, Some}
use Rattle.prolog_terms.specs.Substitutions.{contains, place_of}
use Rattle.term_store.specs.Inside.{ArePlaced}
use Rattle.term_store.proofs.Trails.{apart}
use Rattle.term_store.proofs.Orders.{not-met, place-new, placed-more}
use Rattle.term_store.proofs.order.Seen.place.Goals as goal
use Rattle.term_store.proofs.order.Seen.place.Goals.{In_ok-push}

free : (c : In_ok-push) → contains c.args.number c.self.inside.order.items ≡ false
free c = not-met c.self.inside.order.items c.self.inside.places c.args.number c.self.invariant (sym c.in_default.ensures.value)

place_is : (c : In_ok-push) → c.len-place.result ≡ length c.self.inside.order.items
place_is c = let e = c.len-place.ensures in let k = c.self.inside.order.ok.0 in omega (arith, e, k)

order_is : (c : In_ok-push) → c.push.new.self.items ≡ c.self.inside.order.items ++ c.args.number ∷ []
order_is c = c.in_ok-push.ensures.items ∙ ap (λ (ns : List ℕ). ns ++ c.args.number ∷ []) c.in_ok-reserve.ensures.items

pub invariant_of-self-2 : goal.invariant_of-self-2
invariant_of-self-2 c =
    subst (λ (ns : List ℕ). ArePlaced ns c.insert.new.self) (sym (order_is c))
    (placed-more c.self.inside.order.items c.self.inside.places c.insert.new.self c.args.number c.self.invariant (free c)
    (c.in_ok-insert.ensures.updates.1 ∙ ap Some (place_is c)) (λ y ne. c.in_ok-insert.ensures.updates.2 y (apart c.args.number y ne)))

pub returns-clause-place : goal.returns-clause-place
returns-clause-place c =
    let d = (goal.at.returns-clause-place c).In_ok-push in
    place_is d ∙ sym (ap (place_of c.args.number) (order_is d) ∙ place-new c.args.number c.self.inside.order.items (free d))
