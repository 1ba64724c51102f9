-- The variables of a term stay where it becomes a body.
use Rattle.std.proofs.Common.{◌≡◌, ℕ, ◌==◌, List, Bool, true, false, ◌||◌, if◌then◌else◌, Option, None, Some, refl, ap, ◌∙◌, subst}
use Rattle.std.specs.Prelude.{IfSome}
use Rattle.std.proofs.Math.Bool.{or-false}
use Rattle.prolog_terms.specs.Tree.{Tree, variable, integer, atom, compound, none, more}
use Rattle.prolog_terms.specs.Clauses.{is_connective, body_of, joined_bodies}
use Rattle.prolog_terms.specs.Faults.{two}
use Rattle.prolog_clauses.specs.Renaming.{occurs}

occurs_two : (v : ℕ) (f : List ℕ) (a b : Tree) (c : Bool) (oa ob : Option Tree) → IfSome oa (λ t. occurs v t ≡ occurs v a) → IfSome ob (λ t. occurs v t ≡ occurs v b)
    → IfSome (if c then joined_bodies f oa ob else Some (two f a b)) (λ t. occurs v t ≡ occurs v (two f a b))
occurs_two v f a b false oa ob ha hb = refl
occurs_two v f a b true None ob ha hb = tt
occurs_two v f a b true (Some t) None ha hb = tt
occurs_two v f a b true (Some t) (Some u) ha hb = ap (λ x. x || (occurs v u || false)) ha ∙ ap (λ y. occurs v a || (y || false)) hb

occurs_if_some : (v : ℕ) (t : Tree) → IfSome (body_of t) (λ b. occurs v b ≡ occurs v t)
occurs_if_some v (variable n) = or-false (v == n)
occurs_if_some v (integer z) = tt
occurs_if_some v (atom a) = refl
occurs_if_some v (compound f none) = refl
occurs_if_some v (compound f (more a none)) = refl
occurs_if_some v (compound f (more a (more b none))) = occurs_two v f a b (is_connective f) (body_of a) (body_of b) (occurs_if_some v a) (occurs_if_some v b)
occurs_if_some v (compound f (more a (more b (more c ts)))) = refl

pub occurs_in_body : (v : ℕ) (t b : Tree) → body_of t ≡ Some b → occurs v b ≡ occurs v t
occurs_in_body v t b e = subst (λ o. IfSome o (λ u. occurs v u ≡ occurs v t)) e (occurs_if_some v t)
