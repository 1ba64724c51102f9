-- What the builtins on terms mean (docs/LANGUAGE.md, "Builtins"): what a call comes to, by what its arguments stand for and by the
-- number of the next variable.
use Rattle.std.specs.Prelude.{ℕ, ◌++◌, zero, suc, ℤ, pos, negsuc, Bool, true, false, ◌||◌, not, List, [], ◌∷◌, map, length, if◌then◌else◌, nat_lt, nat_le, is_none, Option, Some, None, codes}
use Rattle.std.specs.declared.cmp.Ordering.{Ordering}
use Rattle.std.specs.declared.cmp.Ordering.TheVariants.{Less, Equal, Greater}
use Rattle.std.specs.Ordering.{int_cmp}
use Rattle.prolog_terms.specs.Tree.{Tree, Trees, variable, integer, atom, compound, none, more, count}
use Rattle.prolog_terms.specs.Substitutions.{numbered, renamed, variable_count}
use Rattle.prolog_terms.specs.Clauses.{is_named}
use Rattle.prolog_terms.specs.Faults.{two}
use Rattle.prolog_terms.specs.Order.{standard_order}
use Rattle.prolog_terms.specs.declared.fault.Fault.{Fault}
use Rattle.prolog_terms.specs.declared.fault.Fault.TheVariants.{Instantiation, OfType, Domain, Representation}
use Rattle.term_unifier.specs.Unifier.{unifier}
use Rattle.term_builtins.specs.declared.table.Relation.{Relation}
use Rattle.term_builtins.specs.declared.table.Relation.TheVariants as relation
use Rattle.term_builtins.specs.declared.table.Kind.{Kind}
use Rattle.term_builtins.specs.declared.table.Kind.TheVariants as kind
use Rattle.term_builtins.specs.declared.table.What.{What}
use Rattle.term_builtins.specs.declared.table.What.TheVariants.{Unify, Differ, Order, Compare, Test, Functor, Argument, Univ, Copy, AtomLength, AtomCodes, AtomChars, CharCode, Evaluate, Numbers, Write, NewLine, PutChar}
use Rattle.prolog_writer.specs.declared.style.Style.{Style}
use Rattle.prolog_arith.specs.Arithmetic.{Value, Is, Raises as Fails, evaluated}

pub data Meaning : Type 0 where
  -- it holds, or fails, and binds nothing
  Holds : Bool → Meaning
  -- so many new variables are made, and then two terms are made one
  Equates : (added : ℕ) (left right : Tree) → Meaning
  -- it holds, and a term is written in a style
  Writes : Style → Tree → Meaning
  -- it holds, and bytes are written
  Puts : List ℕ → Meaning
  -- an error, at the builtin's own name and arity
  Raises : Fault → Meaning

-- ---- errors; a culprit's variables are numbered from 0

abbrev pub unbound : Meaning
unbound = Raises Instantiation

abbrev pub type_error : List ℕ → Tree → Meaning
type_error type culprit = Raises (OfType type (numbered culprit))

abbrev pub domain_error : List ℕ → Tree → Meaning
domain_error domain culprit = Raises (Domain domain (numbered culprit))

abbrev pub too_many : Meaning
too_many = Raises (Representation (codes "max_arity"))

abbrev pub no_code : Meaning
no_code = Raises (Representation (codes "character_code"))

abbrev pub negative : Tree → Meaning
negative t = domain_error (codes "not_less_than_zero") t

-- ---- what a term is

abbrev pub is_variable : Tree → Bool
is_variable (variable n) = true
is_variable _ = false

abbrev pub is_integer : Tree → Bool
is_integer (integer z) = true
is_integer _ = false

abbrev pub is_atom : Tree → Bool
is_atom (atom a) = true
is_atom _ = false

abbrev pub is_compound : Tree → Bool
is_compound (compound f ts) = true
is_compound _ = false

abbrev pub is_bound : Tree → Bool
is_bound t = not (is_variable t)

abbrev pub is_atomic : Tree → Bool
is_atomic t = is_integer t || is_atom t

abbrev pub is_callable : Tree → Bool
is_callable t = is_atom t || is_compound t

abbrev pub is_of_kind : Kind → Tree → Bool
is_of_kind kind.Variable t = is_variable t
is_of_kind kind.Bound t = is_bound t
is_of_kind kind.Atom t = is_atom t
is_of_kind kind.Integer t = is_integer t
is_of_kind kind.Atomic t = is_atomic t
is_of_kind kind.Compound t = is_compound t
is_of_kind kind.Callable t = is_callable t

-- ---- terms that are made one

abbrev pub equal : Tree → Tree → Meaning
equal a b = Equates 0 a b

-- two pairs at once
abbrev pub both_equal : Tree → Tree → Tree → Tree → Meaning
both_equal a b c d = Equates 0 (two (codes ",") a c) (two (codes ",") b d)

abbrev pub different : Tree → Tree → Meaning
different a b = Holds (is_none (unifier a b))

-- ---- the standard order

abbrev pub is_less : Ordering → Bool
is_less Less = true
is_less Equal = false
is_less Greater = false

abbrev pub is_equal : Ordering → Bool
is_equal Less = false
is_equal Equal = true
is_equal Greater = false

abbrev pub is_greater : Ordering → Bool
is_greater Less = false
is_greater Equal = false
is_greater Greater = true

-- whether an order is in a relation
abbrev pub relates : Relation → Ordering → Bool
relates relation.Less o = is_less o
relates relation.AtMost o = not (is_greater o)
relates relation.Greater o = is_greater o
relates relation.AtLeast o = not (is_less o)
relates relation.Equal o = is_equal o
relates relation.Different o = not (is_equal o)

abbrev pub ordered : Relation → Tree → Tree → Meaning
ordered r a b = Holds (relates r (standard_order a b))

abbrev pub sign_of : Ordering → Tree
sign_of Less = atom (codes "<")
sign_of Equal = atom (codes "=")
sign_of Greater = atom (codes ">")

abbrev pub is_sign : List ℕ → Bool
is_sign a = is_named (codes "<") a || (is_named (codes "=") a || is_named (codes ">") a)

-- compare(O, A, B)
abbrev pub comparing : Tree → Tree → Tree → Meaning
comparing (variable n) a b = equal (variable n) (sign_of (standard_order a b))
comparing (integer z) a b = type_error (codes "atom") (integer z)
comparing (atom o) a b = if is_sign o then equal (atom o) (sign_of (standard_order a b)) else domain_error (codes "order") (atom o)
comparing (compound f ts) a b = type_error (codes "atom") (compound f ts)

-- ---- functor(T, N, A)

-- so many variables, from a number on
abbrev pub variables_from : ℕ → ℕ → Trees
variables_from from zero = none
variables_from from (suc k) = more (variable from) (variables_from (suc from) k)

-- a term of a name and an arity that is known to be a number up to 255
abbrev pub made : ℕ → Tree → Tree → ℕ → Meaning
made fresh t name zero = equal t name
made fresh t (atom a) (suc k) = Equates (suc k) t (compound a (variables_from fresh (suc k)))
made fresh t name (suc k) = type_error (codes "atom") name

abbrev pub made_sized : ℕ → Tree → Tree → ℤ → Meaning
made_sized fresh t name (negsuc k) = negative (integer (negsuc k))
made_sized fresh t name (pos k) = if nat_lt 255 k then too_many else made fresh t name k

abbrev pub made_named : ℕ → Tree → Tree → Tree → Meaning
made_named fresh t name (integer z) = if is_compound name then type_error (codes "atomic") name else made_sized fresh t name z
made_named fresh t name arity = type_error (codes "integer") arity

abbrev pub made_bound : ℕ → Tree → Tree → Tree → Meaning
made_bound fresh t name arity = if is_variable name || is_variable arity then unbound else made_named fresh t name arity

abbrev pub functor_of : ℕ → Tree → Tree → Tree → Meaning
functor_of fresh (variable n) name arity = made_bound fresh (variable n) name arity
functor_of fresh (integer z) name arity = both_equal name (integer z) arity (integer (pos 0))
functor_of fresh (atom a) name arity = both_equal name (atom a) arity (integer (pos 0))
functor_of fresh (compound f ts) name arity = both_equal name (atom f) arity (integer (pos (count ts)))

-- ---- arg(N, T, A)

-- the term at a place, from 1; none elsewhere
abbrev pub at_place : ℕ → Trees → Option Tree
at_place n none = None
at_place zero (more t ts) = None
at_place (suc zero) (more t ts) = Some t
at_place (suc (suc n)) (more t ts) = at_place (suc n) ts

abbrev pub equal_some : Option Tree → Tree → Meaning
equal_some None t = Holds false
equal_some (Some u) t = equal u t

abbrev pub argument_at : ℤ → Trees → Tree → Meaning
argument_at (negsuc k) ts t = negative (integer (negsuc k))
argument_at (pos k) ts t = equal_some (at_place k ts) t

abbrev pub argument_in : ℤ → Tree → Tree → Meaning
argument_in z (compound f ts) t = argument_at z ts t
argument_in z other t = type_error (codes "compound") other

abbrev pub argument_numbered : Tree → Tree → Tree → Meaning
argument_numbered (integer z) whole t = argument_in z whole t
argument_numbered n whole t = type_error (codes "integer") n

abbrev pub argument_of : Tree → Tree → Tree → Meaning
argument_of n whole t = if is_variable n || is_variable whole then unbound else argument_numbered n whole t

-- ---- lists

abbrev pub is_cell : List ℕ → Bool
is_cell f = is_named (codes ".") f

-- the elements of a list, and what it ends with
abbrev pub elements : Tree → List Tree
elements (compound f (more t (more rest none))) = if is_cell f then t ∷ elements rest else []
elements _ = []

abbrev pub list_end : Tree → Tree
list_end (compound f (more t (more rest none))) = if is_cell f then list_end rest else compound f (more t (more rest none))
list_end t = t

abbrev pub is_nil : Tree → Bool
is_nil (atom a) = is_named (codes "[]") a
is_nil _ = false

abbrev pub list_tree : List Tree → Tree
list_tree [] = atom (codes "[]")
list_tree (t ∷ ts) = two (codes ".") t (list_tree ts)

-- a list whole: a partial one, which ends unbound, and what is no list are errors
abbrev pub of_list : Tree → (List Tree → Meaning) → Meaning
of_list l then_ =
    if is_variable (list_end l) then unbound
    else if is_nil (list_end l) then then_ (elements l)
    else type_error (codes "list") l

-- ---- T =.. L

abbrev pub trees_in : Trees → List Tree
trees_in none = []
trees_in (more t ts) = t ∷ trees_in ts

abbrev pub as_trees : List Tree → Trees
as_trees [] = none
as_trees (t ∷ ts) = more t (as_trees ts)

-- a term of a first element and those behind it
abbrev pub put_together : Tree → Tree → List Tree → Meaning
put_together t (variable n) ts = unbound
put_together t (compound f us) ts = type_error (codes "atomic") (compound f us)
put_together t (integer z) [] = equal t (integer z)
put_together t (integer z) (u ∷ us) = type_error (codes "atom") (integer z)
put_together t (atom a) [] = equal t (atom a)
put_together t (atom a) (u ∷ us) = if nat_lt 255 (length (u ∷ us)) then too_many else equal t (compound a (as_trees (u ∷ us)))

abbrev pub from_elements : Tree → List Tree → Meaning
from_elements t [] = domain_error (codes "non_empty_list") (atom (codes "[]"))
from_elements t (u ∷ us) = put_together t u us

abbrev pub univ : Tree → Tree → Meaning
univ (variable n) l = of_list l (from_elements (variable n))
univ (integer z) l = equal l (list_tree (integer z ∷ []))
univ (atom a) l = equal l (list_tree (atom a ∷ []))
univ (compound f ts) l = equal l (list_tree (atom f ∷ trees_in ts))

-- ---- copies

-- a copy with new variables, which are numbered by first occurrence
abbrev pub copied : ℕ → Tree → Tree → Meaning
copied fresh t copy = Equates (variable_count t) copy (renamed fresh (numbered t))

-- ---- atoms and their bytes

abbrev pub length_checked : List ℕ → Tree → Meaning
length_checked a (variable n) = equal (variable n) (integer (pos (length a)))
length_checked a (integer (pos k)) = equal (integer (pos k)) (integer (pos (length a)))
length_checked a (integer (negsuc k)) = negative (integer (negsuc k))
length_checked a n = type_error (codes "integer") n

abbrev pub atom_length : Tree → Tree → Meaning
atom_length (variable n) l = unbound
atom_length (atom a) l = length_checked a l
atom_length t l = type_error (codes "atom") t

abbrev pub code_tree : ℕ → Tree
code_tree c = integer (pos c)

-- an atom of one byte
abbrev pub char_tree : ℕ → Tree
char_tree c = atom (c ∷ [])

-- a code from 0 to 255
abbrev pub code_in : ℤ → Option ℕ
code_in (pos c) = if nat_le c 255 then Some c else None
code_in (negsuc k) = None

abbrev pub char_in : List ℕ → Option ℕ
char_in (c ∷ []) = Some c
char_in _ = None

-- what an element is: a byte, or an error
pub data Byte : Type 0 where
  OfByte : ℕ → Byte
  NoByte : Meaning → Byte

abbrev pub or_no : Meaning → Option ℕ → Byte
or_no error None = NoByte error
or_no error (Some c) = OfByte c

abbrev pub code_element : Tree → Byte
code_element (variable n) = NoByte unbound
code_element (integer z) = or_no no_code (code_in z)
code_element _ = NoByte no_code

abbrev pub char_element : Tree → Byte
char_element (variable n) = NoByte unbound
char_element (atom a) = or_no (type_error (codes "character") (atom a)) (char_in a)
char_element t = NoByte (type_error (codes "character") t)

abbrev pub by_byte : Byte → (ℕ → Meaning) → Meaning
by_byte (OfByte c) then_ = then_ c
by_byte (NoByte error) then_ = error

-- an atom of the elements' bytes, or the error of the first that is none
abbrev pub spelled : (Tree → Byte) → Tree → List ℕ → List Tree → Meaning
spelled element a front [] = equal a (atom front)
spelled element a front (t ∷ ts) = by_byte (element t) (λ c. spelled element a (front ++ c ∷ []) ts)

abbrev pub bytes_of_atom : (ℕ → Tree) → (Tree → Byte) → Tree → Tree → Meaning
bytes_of_atom tree element (variable n) l = of_list l (spelled element (variable n) [])
bytes_of_atom tree element (atom a) l = equal l (list_tree (map tree a))
bytes_of_atom tree element t l = type_error (codes "atom") t

-- char_code(C, N), C unbound
abbrev pub from_code : Tree → Tree → Meaning
from_code c (variable n) = unbound
from_code c (integer z) = by_byte (or_no no_code (code_in z)) (λ code. equal c (char_tree code))
from_code c t = type_error (codes "integer") t

-- and with the byte of C
abbrev pub to_code : ℕ → Tree → Meaning
to_code code (variable n) = equal (variable n) (code_tree code)
to_code code (integer z) = by_byte (or_no no_code (code_in z)) (λ found. equal (integer z) (code_tree code))
to_code code t = type_error (codes "integer") t

abbrev pub char_code : Tree → Tree → Meaning
char_code (variable n) t = from_code (variable n) t
char_code (atom a) t = by_byte (or_no (type_error (codes "character") (atom a)) (char_in a)) (λ code. to_code code t)
char_code c t = type_error (codes "character") c

-- ---- what is written

-- put_char(C)
abbrev pub putting : Tree → Meaning
putting t = by_byte (char_element t) (λ c. Puts (c ∷ []))

-- ---- arithmetic

abbrev pub valued : Tree → Value → Meaning
valued t (Is z) = equal t (integer z)
valued t (Fails fault) = Raises fault

-- the left side first
abbrev pub compared_values : Relation → Value → Value → Meaning
compared_values r (Fails fault) w = Raises fault
compared_values r (Is z) (Fails fault) = Raises fault
compared_values r (Is z) (Is w) = Holds (relates r (int_cmp z w))

abbrev pub compared_numbers : Relation → Tree → Tree → Meaning
compared_numbers r a b = compared_values r (evaluated a) (evaluated b)

-- ---- all of them

-- by so many arguments; no builtin has others
abbrev pub with_none : Meaning → Trees → Meaning
with_none m none = m
with_none m (more t ts) = Holds false

abbrev pub with_one : (Tree → Meaning) → Trees → Meaning
with_one f none = Holds false
with_one f (more t none) = f t
with_one f (more t (more u ts)) = Holds false

abbrev pub with_two : (Tree → Tree → Meaning) → Trees → Meaning
with_two f none = Holds false
with_two f (more t none) = Holds false
with_two f (more t (more u none)) = f t u
with_two f (more t (more u (more v ts))) = Holds false

abbrev pub with_three : (Tree → Tree → Tree → Meaning) → Trees → Meaning
with_three f none = Holds false
with_three f (more t none) = Holds false
with_three f (more t (more u none)) = Holds false
with_three f (more t (more u (more v none))) = f t u v
with_three f (more t (more u (more v (more w ts)))) = Holds false

-- what a call comes to, by what its arguments stand for and the number of the next variable
abbrev pub meaning : What → ℕ → Trees → Meaning
meaning Unify fresh ts = with_two equal ts
meaning Differ fresh ts = with_two different ts
meaning (Order r) fresh ts = with_two (ordered r) ts
meaning Compare fresh ts = with_three comparing ts
meaning (Test k) fresh ts = with_one (λ t. Holds (is_of_kind k t)) ts
meaning Functor fresh ts = with_three (functor_of fresh) ts
meaning Argument fresh ts = with_three argument_of ts
meaning Univ fresh ts = with_two univ ts
meaning Copy fresh ts = with_two (copied fresh) ts
meaning AtomLength fresh ts = with_two atom_length ts
meaning AtomCodes fresh ts = with_two (bytes_of_atom code_tree code_element) ts
meaning AtomChars fresh ts = with_two (bytes_of_atom char_tree char_element) ts
meaning CharCode fresh ts = with_two char_code ts
meaning (Write style) fresh ts = with_one (λ t. Writes style (numbered t)) ts
meaning NewLine fresh ts = with_none (Puts (10 ∷ [])) ts
meaning PutChar fresh ts = with_one putting ts
meaning Evaluate fresh ts = with_two (λ t u. valued t (evaluated u)) ts
meaning (Numbers r) fresh ts = with_two (compared_numbers r) ts
