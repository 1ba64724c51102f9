use Rattle.std.proofs.Common.{◌≡◌, ◌<◌, List, ℕ, length, subst, ◌∙◌}
use Rattle.std.specs.Prelude.{IfSome, IsNone, false}
use Rattle.prolog_terms.specs.Substitutions.{contains, place_of}
use Rattle.term_store.proofs.Rebuilds.{found-option, found-none}
use Rattle.term_store.proofs.order.Seen.find.Goals as goal

pub returns-clause-place : goal.returns-clause-place
returns-clause-place c =
    subst (λ (ns : List ℕ). IfSome c.copied.result (λ n. n ≡ place_of c.args.number ns)) c.self.view_is
    (found-option c.self.inside.order.items c.self.inside.places c.args.number c.copied.result c.self.invariant (c.copied.ensures ∙ c.get.ensures.value)).0

pub returns-clause-low : goal.returns-clause-low
returns-clause-low c =
    subst (λ (ns : List ℕ). IfSome c.copied.result (λ n. n < length ns)) c.self.view_is
    (found-option c.self.inside.order.items c.self.inside.places c.args.number c.copied.result c.self.invariant (c.copied.ensures ∙ c.get.ensures.value)).1

pub returns-clause-none : goal.returns-clause-none
returns-clause-none c =
    subst (λ (ns : List ℕ). IsNone c.copied.result → contains c.args.number ns ≡ false) c.self.view_is
    (found-none c.self.inside.order.items c.self.inside.places c.args.number c.copied.result c.self.invariant (c.copied.ensures ∙ c.get.ensures.value))
