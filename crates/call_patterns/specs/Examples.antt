-- Keys and candidates, worked by hand over a worked journal.
use Rattle.std.specs.Prelude.{◌≡◌, ℕ, zero, suc, ◌+◌, pos, [], ◌∷◌, length, map, Some, None, codes}
use Rattle.prolog_terms.specs.Tree.{Tree, Trees, variable, integer, atom, compound, none, more}
use Rattle.journals.specs.Examples.{journal, p}
use Rattle.call_patterns.specs.Keys.{integer_key, atom_key, functor_key, key_at, keys}
use Rattle.call_patterns.specs.Candidates.{candidates}
use Rattle.call_patterns.specs.Agreement.{agreeing}

-- r(a, f(7))
abbrev inner : Tree
inner = compound (codes "r") (more (atom (codes "a")) (more (compound (codes "f") (more (integer (pos 7)) none)) none))

-- so many integers from one on
abbrev counted : ℕ → ℕ → Trees
counted from zero = none
counted from (suc n) = more (integer (pos from)) (counted (from + 1) n)

abbrev copies : ℕ → Tree → Trees
copies zero t = none
copies (suc n) t = more t (copies n t)

-- p(0, .., 8)
abbrev flat : Tree
flat = compound (codes "p") (counted 0 9)

-- p of nine f(0, .., 4)
abbrev nested : Tree
nested = compound (codes "p") (copies 9 (compound (codes "f") (counted 0 5)))

pub record HasRows : Type 0 where
  -- the variable agrees with every key
  pub some_a : candidates journal 0 (keys (p (atom (codes "a")))) ≡ 3 ∷ 1 ∷ []
  -- an integer is no atom
  pub no_atom : candidates journal 0 (keys (p (integer (pos 1)))) ≡ 3 ∷ []
  -- a goal's variable has no key
  pub all_of_p : candidates journal 0 (keys (p (variable 0))) ≡ 3 ∷ 1 ∷ 6 ∷ []
  -- positions: argument 2 and its own argument 1
  pub first_argument : key_at inner 0 ≡ Some (atom_key (codes "a"))
  pub second_argument : key_at inner 5 ≡ Some (functor_key (codes "f") 1)
  pub its_argument : key_at inner 6 ≡ Some (integer_key (pos 7))
  pub no_position : key_at inner 7 ≡ None
  -- eight arguments have positions, and four arguments of each
  pub forty : length (keys nested) ≡ 40
  pub each_argument : map (key_at flat) (0 ∷ 5 ∷ 10 ∷ 15 ∷ 20 ∷ 25 ∷ 30 ∷ 35 ∷ []) ≡ map (λ n. Some (integer_key (pos n))) (0 ∷ 1 ∷ 2 ∷ 3 ∷ 4 ∷ 5 ∷ 6 ∷ 7 ∷ [])
  pub each_inner : map (key_at nested) (1 ∷ 2 ∷ 3 ∷ 4 ∷ 16 ∷ 19 ∷ 31 ∷ 34 ∷ 36 ∷ 39 ∷ []) ≡ map (λ n. Some (integer_key (pos n))) (0 ∷ 1 ∷ 2 ∷ 3 ∷ 0 ∷ 3 ∷ 0 ∷ 3 ∷ 0 ∷ 3 ∷ [])
  -- p(a) and p(X) agree with the goal p(a) at its pattern, and all three clauses alive with p(X), whose pattern is empty
  pub agreeing_a : agreeing journal 0 (keys (p (atom (codes "a")))) ≡ 2
  pub agreeing_all : agreeing journal 0 (keys (p (variable 0))) ≡ 3
