-- Clauses (docs/LANGUAGE.md, "Clauses").
use Rattle.std.specs.Prelude.{◌≡◌, ℕ, List, Bool, true, false, ◌&&◌, ◌||◌, is_some, IsTrue, nat_eq, codes, if◌then◌else◌, Option, Some, None, IfSome}
use Rattle.std.specs.Cmp.Lexicographic.{pointwise}
use Rattle.prolog_terms.specs.Tree.{Tree, Trees, variable, integer, atom, compound, none, more, count}
use Rattle.prolog_terms.specs.Variables.{AreNumbered}
use Rattle.prolog_terms.specs.Faults.{one, two}
use Rattle.prolog_terms.specs.declared.entry.Clause.{Clause}
use Rattle.prolog_terms.specs.Indicators.{indicator_of}

abbrev pub is_named : List ℕ → List ℕ → Bool
is_named text name = pointwise nat_eq text name

abbrev pub is_connective : List ℕ → Bool
is_connective f = is_named (codes ",") f || (is_named (codes ";") f || is_named (codes "->") f)

-- no variable and no number stands as a goal of `,`, `;` or `->`
abbrev pub is_body : Tree → Bool
is_body (variable n) = false
is_body (integer z) = false
is_body (atom a) = true
is_body (compound f (more a (more b none))) = if is_connective f then is_body a && is_body b else true
is_body (compound f none) = true
is_body (compound f (more a none)) = true
is_body (compound f (more a (more b (more c ts)))) = true

abbrev pub call_term : Tree → Tree
call_term goal = one (codes "call") goal

abbrev pub joined_bodies : List ℕ → Option Tree → Option Tree → Option Tree
joined_bodies f None b = None
joined_bodies f (Some a) None = None
joined_bodies f (Some a) (Some b) = Some (two f a b)

-- A term as a body: each variable that stands as a goal becomes `call` of it. None where an integer stands as a goal.
abbrev pub body_of : Tree → Option Tree
body_of (variable n) = Some (call_term (variable n))
body_of (integer z) = None
body_of (atom a) = Some (atom a)
body_of (compound f (more a (more b none))) = if is_connective f then joined_bodies f (body_of a) (body_of b) else Some (two f a b)
body_of (compound f none) = Some (compound f none)
body_of (compound f (more a none)) = Some (one f a)
body_of (compound f (more a (more b (more c ts)))) = Some (compound f (more a (more b (more c ts))))

-- what a term is converted to is a body, and a body is converted to itself
pub record BodiesAreBodies : Type 0 where
  pub converted : (t : Tree) → IfSome (body_of t) (λ b. IsTrue (is_body b))
  pub same : (t : Tree) → IsTrue (is_body t) → body_of t ≡ Some t

-- a head that is an atom or a compound, a body, and the variables of both numbered from 0 by first occurrence
pub record IsClause (c : Clause) : Type 0 where
  pub head : IsTrue (is_some (indicator_of c.head))
  pub body : IsTrue (is_body c.body)
  pub numbered : AreNumbered c.head c.body c.vars
