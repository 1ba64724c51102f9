-- Worked rows of texts.
use Rattle.std.specs.Prelude.{◌≡◌, ℕ, pos, ◌-ℤ◌, List, [], ◌∷◌, codes}
use Rattle.prolog_terms.specs.Tree.{Tree, variable, integer, atom, compound, none, more}
use Rattle.prolog_terms.specs.Operators.{Table, initial_operators, declared}
use Rattle.prolog_terms.specs.declared.ops.OpKind.TheVariants.{Xfx, Fy, Xf, Yf}
use Rattle.prolog_writer.specs.declared.style.Style.TheVariants.{Plain, Quoted, Canonical}
use Rattle.prolog_writer.specs.Pieces.{written}

abbrev int : ℕ → Tree
int n = integer (pos n)

abbrev minus_one : Tree
minus_one = integer (pos 0 -ℤ pos 1)

abbrev a : Tree
a = atom (codes "a")

abbrev b : Tree
b = atom (codes "b")

abbrev c : Tree
c = atom (codes "c")

abbrev d : Tree
d = atom (codes "d")

abbrev e : Tree
e = atom (codes "e")

abbrev one : List ℕ → Tree → Tree
one f t = compound f (more t none)

abbrev two : List ℕ → Tree → Tree → Tree
two f t u = compound f (more t (more u none))

abbrev cell : Tree → Tree → Tree
cell t u = two (codes ".") t u

abbrev nil : Tree
nil = atom (codes "[]")

-- under the operators that a load begins with, where at most 699 is allowed, as in the line of an answer
abbrev value : Tree → List ℕ
value t = written initial_operators Quoted 699 t

abbrev whole : Tree → List ℕ
whole t = written initial_operators Quoted 1200 t

abbrev plain : Tree → List ℕ
plain t = written initial_operators Plain 699 t

abbrev canonical : Tree → List ℕ
canonical t = written initial_operators Canonical 699 t

pub record HasSpaces : Type 0 where
  pub minus_a_minus : value (two (codes "-") (int 1) minus_one) ≡ codes "1- -1"
  pub minus_of_one : value (one (codes "-") (int 1)) ≡ codes "- 1"
  pub minus_of_minus : value (one (codes "-") (one (codes "-") (int 1))) ≡ codes "- - 1"
  pub minus_of_a_name : value (one (codes "-") a) ≡ codes "-a"
  pub minus_of_a_variable : value (one (codes "-") (variable 0)) ≡ codes "-_1"
  pub words : value (two (codes "mod") a b) ≡ codes "a mod b"
  pub numbers : value (two (codes "mod") (int 7) (int 2)) ≡ codes "7 mod 2"
  pub variables : whole (two (codes "is") (variable 0) (two (codes "+") (int 1) (variable 1))) ≡ codes "_1 is 1+_2"
  pub parenthesis : whole (two (codes "=") a (two (codes ":-") b c)) ≡ codes "a= (b:-c)"
  pub comma : whole (two (codes ",") a (two (codes ":-") b c)) ≡ codes "a, (b:-c)"
  pub no_operator_comma : value (compound (codes "f") (more a (more (two (codes ":-") b c) none))) ≡ codes "f(a,(b:-c))"
  pub quote_before_a_letter : value (two (codes "mod") (atom (codes "A")) b) ≡ codes "'A' mod b"
  pub quotes : value (two (codes "=..") (atom (codes "A")) (atom (codes "B"))) ≡ codes "('A'=..'B')"

pub record HasParentheses : Type 0 where
  pub clause : value (two (codes ":-") a b) ≡ codes "(a:-b)"
  pub whole_clause : whole (two (codes ":-") a b) ≡ codes "a:-b"
  pub directive : value (one (codes ":-") a) ≡ codes "(:-a)"
  pub negation : value (one (codes "\\+") a) ≡ codes "(\\+a)"
  pub negated_pair : whole (one (codes "\\+") (two (codes ",") a b)) ≡ codes "\\+ (a,b)"
  pub left_nested : value (two (codes "-") (two (codes "-") (int 1) (int 2)) (int 3)) ≡ codes "1-2-3"
  pub right_nested : value (two (codes "-") (int 1) (two (codes "-") (int 2) (int 3))) ≡ codes "1- (2-3)"
  pub powers : value (two (codes "^") a (two (codes "^") b c)) ≡ codes "a^b^c"
  pub power_of_power : value (two (codes "^") (two (codes "^") a b) c) ≡ codes "(a^b)^c"
  pub power_of_minus : value (two (codes "^") (one (codes "-") (int 1)) (int 2)) ≡ codes "(- 1)^2"
  pub minus_of_power : value (one (codes "-") (two (codes "^") (int 1) (int 2))) ≡ codes "- 1^2"
  pub power_of_integer : value (two (codes "^") minus_one (int 2)) ≡ codes "-1^2"
  pub pair : value (two (codes ",") a b) ≡ codes "(a,b)"
  pub pair_as_argument : value (one (codes "f") (two (codes ",") a b)) ≡ codes "f((a,b))"
  pub body : value (two (codes ":-") a (two (codes ";") (two (codes ",") b c) (two (codes "->") d e))) ≡ codes "(a:-b,c;d->e)"
  pub word : value (one (codes "dynamic") a) ≡ codes "(dynamic a)"
  pub operator_as_argument : value (one (codes "f") (atom (codes ":-"))) ≡ codes "f(:-)"
  pub operator_as_element : value (cell (atom (codes "-")) nil) ≡ codes "[-]"
  pub operator_as_operand : value (one (codes "-") (atom (codes "-"))) ≡ codes "- (-)"
  pub indicator : value (two (codes "/") (atom (codes "is")) (int 2)) ≡ codes "(is)/2"
  pub operator_alone : value (atom (codes "=")) ≡ codes "="

pub record HasBrackets : Type 0 where
  pub codes_of_text : value (cell (int 97) (cell (int 98) nil)) ≡ codes "[97,98]"
  pub codes_of_accent : value (cell (int 195) (cell (int 169) nil)) ≡ codes "[195,169]"
  pub tail : value (cell a b) ≡ codes "[a|b]"
  pub variable_tail : value (cell a (cell b (variable 0))) ≡ codes "[a,b|_1]"
  pub clause_as_element : value (cell (two (codes ":-") a b) nil) ≡ codes "[(a:-b)]"
  pub clause_as_tail : value (cell a (two (codes ":-") b c)) ≡ codes "[a|(b:-c)]"
  pub empty : value nil ≡ codes "[]"
  pub braces : value (one (codes "{}") a) ≡ codes "{a}"
  pub clause_in_braces : value (one (codes "{}") (two (codes ":-") a b)) ≡ codes "{a:-b}"
  pub two_in_braces : value (two (codes "{}") a b) ≡ codes "'{}'(a,b)"
  pub brackets_as_name : value (one (codes "[]") a) ≡ codes "'[]'(a)"

pub record HasNames : Type 0 where
  pub quote : value (atom (codes "it's")) ≡ codes "'it\\'s'"
  pub blank : value (atom (codes "hello world")) ≡ codes "'hello world'"
  pub line : value (atom (97 ∷ 10 ∷ 98 ∷ [])) ≡ codes "'a\\nb'"
  pub tab : value (atom (9 ∷ [])) ≡ codes "'\\t'"
  pub control : value (atom (1 ∷ 127 ∷ [])) ≡ codes "'\\x01\\\\x7f\\'"
  pub backslash : value (atom (codes "a\\")) ≡ codes "'a\\\\'"
  pub accent : value (atom (195 ∷ 169 ∷ [])) ≡ 195 ∷ 169 ∷ []
  pub capital : value (atom (codes "A")) ≡ codes "'A'"
  pub no_bytes : value (atom []) ≡ codes "''"
  pub symbols : value (atom (codes "+/")) ≡ codes "+/"
  pub comment : value (atom (codes "/*")) ≡ codes "'/*'"
  pub point : value (atom (codes ".")) ≡ codes "'.'"
  pub comma : value (atom (codes ",")) ≡ codes "','"
  pub cut : value (atom (codes "!")) ≡ codes "!"
  -- letters, digits and _ behind a small letter, and each symbol byte, stand without quotes; so do .. and what has /* in it
  pub mixed : value (atom (codes "aB_9")) ≡ codes "aB_9"
  pub symbols_all : value (atom (codes "+-*/\\^<>=~:.?@#&$")) ≡ codes "+-*/\\^<>=~:.?@#&$"
  pub points : value (atom (codes "..")) ≡ codes ".."
  pub comment_behind : value (atom (codes "+/*")) ≡ codes "+/*"
  -- the bytes of a letter beyond 127 stand between quotes as they are
  pub accent_in_quotes : value (atom (195 ∷ 169 ∷ 32 ∷ [])) ≡ 39 ∷ 195 ∷ 169 ∷ 32 ∷ 39 ∷ []
  pub last_control : value (atom (31 ∷ [])) ≡ codes "'\\x1f\\'"
  pub last_letters : value (atom (122 ∷ 128 ∷ 255 ∷ [])) ≡ 122 ∷ 128 ∷ 255 ∷ []

pub record HasStyles : Type 0 where
  pub plain_name : plain (atom (codes "it's")) ≡ codes "it's"
  pub plain_operator : plain (two (codes "-") (int 1) (atom (codes "A b"))) ≡ codes "1-A b"
  pub plain_nothing : plain (two (codes "mod") (atom []) a) ≡ codes "mod a"
  pub canonical_minus : canonical (two (codes "-") (int 1) minus_one) ≡ codes "-(1,-1)"
  pub canonical_clause : canonical (two (codes ":-") a (two (codes ",") b c)) ≡ codes ":-(a,','(b,c))"
  pub canonical_list : canonical (cell a (cell b (variable 1))) ≡ codes "[a,b|_2]"
  pub canonical_operand : canonical (one (codes "-") (atom (codes "-"))) ≡ codes "-(-)"
  pub canonical_name : canonical (one (codes "A") (one (codes "[]") a)) ≡ codes "'A'('[]'(a))"

-- u is both a prefix and a postfix operator, p is xf, q is yf, and # is xfx, as great as -
abbrev table : Table
table = declared 500 Xfx (codes "#") (declared 200 Yf (codes "q") (declared 200 Xf (codes "p") (declared 300 Xf (codes "u") (declared 300 Fy (codes "u") initial_operators))))

abbrev under : Tree → List ℕ
under t = written table Quoted 699 t

pub record HasDeclared : Type 0 where
  pub both : under (one (codes "u") a) ≡ codes "u a"
  pub postfix_of_one : under (one (codes "p") a) ≡ codes "a p"
  pub postfix_twice : under (one (codes "p") (one (codes "p") a)) ≡ codes "(a p)p"
  pub postfix_of_another : under (one (codes "q") (one (codes "p") a)) ≡ codes "(a p)q"
  pub postfix_nested : under (one (codes "q") (one (codes "q") a)) ≡ codes "a q q"
  pub prefix_inside : under (one (codes "q") (one (codes "-") a)) ≡ codes "(-a)q"
  pub equal_on_the_left : under (two (codes "-") (two (codes "#") a b) c) ≡ codes "(a#b)-c"
  pub postfix_alone : under (two (codes "-") a (atom (codes "p"))) ≡ codes "a- (p)"

pub record HasRows : Type 0 where
  pub spaces : HasSpaces
  pub parentheses : HasParentheses
  pub brackets : HasBrackets
  pub names : HasNames
  pub styles : HasStyles
  pub declarations : HasDeclared
