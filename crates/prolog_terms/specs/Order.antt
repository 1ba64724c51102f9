-- The standard order of terms (ISO/IEC 13211-1, 7.2), where all numbers are integers and variables go by their numbers.
use Rattle.std.specs.Prelude.{◌≡◌, ℕ, ◌<◌, ℤ, ◌<ℤ◌, pos, negsuc, List, [], ◌∷◌, ◌++◌, codes}
use Rattle.std.specs.declared.cmp.Ordering.{Ordering}
use Rattle.std.specs.declared.cmp.Ordering.TheVariants.{Less, Equal, Greater}
use Rattle.std.specs.Ordering.{ordering_reverse, ordering_then, nat_cmp, int_cmp}
use Rattle.std.specs.Cmp.{IsTotalOrder}
use Rattle.std.specs.Cmp.Lexicographic.{slice_cmp}
use Rattle.prolog_terms.specs.Tree.{Tree, Trees, variable, integer, atom, compound, none, more, count}
use Rattle.prolog_terms.specs.Flat.{chained}
use Rattle.prolog_terms.specs.declared.node.Node.{Node}
use Rattle.prolog_terms.specs.declared.node.Node.TheVariants.{Var, Int, Atom, Functor}

-- variables come first, then integers, then atoms, then compounds
abbrev pub rank : Tree → ℕ
rank (variable n) = 0
rank (integer z) = 1
rank (atom a) = 2
rank (compound f ts) = 3

-- names go by their bytes from the left, and a name comes before those that go on from it
abbrev pub name_order : List ℕ → List ℕ → Ordering
name_order a b = slice_cmp nat_cmp a b

-- Less where the first term comes before the second, Equal where they are one term. Compounds go by how many arguments
-- they have, then by name, then by the arguments from the left
abbrev mutual
  pub standard_order : Tree → Tree → Ordering
  standard_order (variable n) (variable m) = nat_cmp n m
  standard_order (integer z) (integer w) = int_cmp z w
  standard_order (atom a) (atom b) = name_order a b
  standard_order (compound f ts) (compound g us) = ordering_then (nat_cmp (count ts) (count us)) (ordering_then (name_order f g) (arguments_order ts us))
  standard_order t u = nat_cmp (rank t) (rank u)

  pub arguments_order : Trees → Trees → Ordering
  arguments_order (more t ts) (more u us) = ordering_then (standard_order t u) (arguments_order ts us)
  arguments_order ts us = nat_cmp (count ts) (count us)

-- ---- what two nodes at the same place of two terms say

abbrev pub node_rank : Node → ℕ
node_rank (Var n) = 0
node_rank (Int z) = 1
node_rank (Atom a) = 2
node_rank (Functor f n) = 3

abbrev pub node_order : Node → Node → Ordering
node_order (Var n) (Var m) = nat_cmp n m
node_order (Int z) (Int w) = int_cmp z w
node_order (Atom a) (Atom b) = name_order a b
node_order (Functor f n) (Functor g m) = ordering_then (nat_cmp n m) (name_order f g)
node_order x y = nat_cmp (node_rank x) (node_rank y)

-- ---- laws

-- each two terms are in one order: equal only where they are one term, turned round from the other side, and before
-- whatever comes after what they are before
pub record IsOrder : Type 0 where
  pub itself : (t : Tree) → standard_order t t ≡ Equal
  pub same : (t u : Tree) → standard_order t u ≡ Equal → t ≡ u
  pub turned : (t u : Tree) → standard_order u t ≡ ordering_reverse (standard_order t u)
  pub chain : (s t u : Tree) → standard_order s t ≡ Less → standard_order t u ≡ Less → standard_order s u ≡ Less
  -- the same, as std has it
  pub total : IsTotalOrder standard_order

-- the first comes before the second
abbrev pub IsBefore : Tree → Tree → Type 0
IsBefore t u = standard_order t u ≡ Less

-- which terms come before which
pub record HasKinds : Type 0 where
  pub variables : (n : ℕ) (z : ℤ) → IsBefore (variable n) (integer z)
  pub integers : (z : ℤ) (a : List ℕ) → IsBefore (integer z) (atom a)
  pub atoms : (a f : List ℕ) (ts : Trees) → IsBefore (atom a) (compound f ts)
  pub numbers : (n m : ℕ) → n < m → IsBefore (variable n) (variable m)
  pub values : (z w : ℤ) → z <ℤ w → IsBefore (integer z) (integer w)
  -- at the first byte that differs, the lesser
  pub bytes : (front a b : List ℕ) (x y : ℕ) → x < y → IsBefore (atom (front ++ x ∷ a)) (atom (front ++ y ∷ b))
  -- a name before those that go on from it
  pub prefix : (a b : List ℕ) (x : ℕ) → IsBefore (atom a) (atom (a ++ x ∷ b))
  -- compounds of fewer arguments, whatever their names
  pub arities : (f g : List ℕ) (ts us : Trees) → count ts < count us → IsBefore (compound f ts) (compound g us)
  -- of as many arguments, the names decide as those of atoms
  pub names : (f g : List ℕ) (ts us : Trees) → count ts ≡ count us → IsBefore (atom f) (atom g) → IsBefore (compound f ts) (compound g us)
  -- of one name, the first arguments that differ
  pub arguments : (f : List ℕ) (front ts us : Trees) (t u : Tree) → count ts ≡ count us → IsBefore t u → IsBefore (compound f (chained front (more t ts))) (compound f (chained front (more u us)))

-- ---- worked rows, X and Y being the variables 0 and 1

abbrev one : List ℕ → Tree → Tree
one f t = compound f (more t none)

abbrev two : List ℕ → Tree → Tree → Tree
two f t u = compound f (more t (more u none))

abbrev a : Tree
a = atom (codes "a")

abbrev b : Tree
b = atom (codes "b")

abbrev c : Tree
c = atom (codes "c")

pub record HasRows : Type 0 where
  -- X, 1: variables before integers
  pub variable_integer : standard_order (variable 0) (integer (pos 1)) ≡ Less
  -- X, Y
  pub older : standard_order (variable 0) (variable 1) ≡ Less
  -- -1, 1
  pub negative : standard_order (integer (negsuc 0)) (integer (pos 1)) ≡ Less
  -- -2, -1
  pub both_negative : standard_order (integer (negsuc 1)) (integer (negsuc 0)) ≡ Less
  -- 1, a
  pub integer_atom : standard_order (integer (pos 1)) a ≡ Less
  -- 2, '1'
  pub digits : standard_order (integer (pos 2)) (atom (codes "1")) ≡ Less
  -- a, ab
  pub longer : standard_order a (atom (codes "ab")) ≡ Less
  -- ab, b
  pub first_byte : standard_order (atom (codes "ab")) b ≡ Less
  -- a, 'B': small letters have greater bytes than capitals
  pub capital : standard_order a (atom (codes "B")) ≡ Greater
  -- '', a
  pub empty_name : standard_order (atom []) a ≡ Less
  -- f(1), g(a): the name before the arguments
  pub name : standard_order (one (codes "f") (integer (pos 1))) (one (codes "g") a) ≡ Less
  -- f(b), f(a,a): the count of arguments before these
  pub arity : standard_order (one (codes "f") b) (two (codes "f") a a) ≡ Less
  -- z(b), a(b,b): and before the name
  pub arity_name : standard_order (one (codes "z") b) (two (codes "a") b b) ≡ Less
  -- z, a(a): atoms before compounds
  pub atom_compound : standard_order (atom (codes "z")) (one (codes "a") a) ≡ Less
  -- f(a,b), f(a,c)
  pub second : standard_order (two (codes "f") a b) (two (codes "f") a c) ≡ Less
  -- f(b,a), f(a,c): the arguments from the left
  pub left : standard_order (two (codes "f") b a) (two (codes "f") a c) ≡ Greater
  -- f(1), f(2)
  pub inside : standard_order (one (codes "f") (integer (pos 1))) (one (codes "f") (integer (pos 2))) ≡ Less
  -- [], [a]
  pub empty_list : standard_order (atom (codes "[]")) (two (codes ".") a (atom (codes "[]"))) ≡ Less
  -- [a], [a,b]
  pub longer_list : standard_order (two (codes ".") a (atom (codes "[]"))) (two (codes ".") a (two (codes ".") b (atom (codes "[]")))) ≡ Less
  -- f(X,b), f(X,b)
  pub one_term : standard_order (two (codes "f") (variable 0) b) (two (codes "f") (variable 0) b) ≡ Equal
