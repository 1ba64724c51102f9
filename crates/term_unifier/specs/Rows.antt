-- Worked rows of the most general unifier. The variables X, Y and Z have the numbers 0, 1 and 2: X is the oldest.
use Rattle.std.specs.Prelude.{◌≡◌, pos, List, [], ◌∷◌, codes, Option, Some, None, option_map}
use Rattle.prolog_terms.specs.Tree.{Tree, variable, integer, atom, compound, none, more}
use Rattle.term_unifier.specs.Unifier.{unifier}

abbrev x : Tree
x = variable 0

abbrev y : Tree
y = variable 1

abbrev z : Tree
z = variable 2

abbrev a : Tree
a = atom (codes "a")

abbrev b : Tree
b = atom (codes "b")

abbrev f : Tree → Tree
f t = compound (codes "f") (more t none)

abbrev g : Tree → Tree
g t = compound (codes "g") (more t none)

abbrev f2 : Tree → Tree → Tree
f2 t u = compound (codes "f") (more t (more u none))

abbrev f3 : Tree → Tree → Tree → Tree
f3 t u v = compound (codes "f") (more t (more u (more v none)))

-- what X, Y and Z become where the two terms unify
abbrev values : Tree → Tree → Option (List Tree)
values t u = option_map (λ s. s 0 ∷ s 1 ∷ s 2 ∷ []) (unifier t u)

pub record HasRows : Type 0 where
  -- f(X,b) = f(a,Y)
  pub both_sides : values (f2 x b) (f2 a y) ≡ Some (a ∷ b ∷ z ∷ [])
  -- Y = Z and Z = Y: the younger is bound to the older
  pub younger_right : values y z ≡ Some (x ∷ y ∷ y ∷ [])
  pub younger_left : values z y ≡ Some (x ∷ y ∷ y ∷ [])
  -- f(X,Y,Z) = f(Y,Z,a): bindings reach on
  pub chain : values (f3 x y z) (f3 y z a) ≡ Some (a ∷ a ∷ a ∷ [])
  -- f(Z,Z) = f(g(Y),g(X))
  pub inside : values (f2 z z) (f2 (g y) (g x)) ≡ Some (x ∷ x ∷ g x ∷ [])
  -- f(X,Y) = f(g(Z),Z)
  pub free : values (f2 x y) (f2 (g z) z) ≡ Some (g y ∷ y ∷ y ∷ [])
  -- f(X) = f(X)
  pub itself : values (f x) (f x) ≡ Some (x ∷ y ∷ z ∷ [])
  -- X = f(X)
  pub occurring : unifier x (f x) ≡ None
  -- f(X,X) = f(Y,g(Y)): it occurs under the first binding
  pub occurring_later : unifier (f2 x x) (f2 y (g y)) ≡ None
  -- f(X,X) = f(a,b)
  pub two_values : unifier (f2 x x) (f2 a b) ≡ None
  -- f(a) = g(a)
  pub two_names : unifier (f a) (g a) ≡ None
  -- f(a) = f(a,a)
  pub two_numbers : unifier (f a) (f2 a a) ≡ None
  -- a = b
  pub two_atoms : unifier a b ≡ None
  -- 1 = 2
  pub two_integers : unifier (integer (pos 1)) (integer (pos 2)) ≡ None
  -- 1 = '1'
  pub two_kinds : unifier (integer (pos 1)) (atom (codes "1")) ≡ None
