-- The grammar as rules: tokens are read left to right, by one rule at a time.
use Rattle.std.specs.Prelude.{ℕ, zero, suc, pos, ◌-ℤ◌, ◌+◌, List, [], ◌∷◌, length, Bool, true, false, not, ◌&&◌, ◌||◌, ◌==◌, nat_le, nat_lt, cond, Option, Some, None, is_some, Result, Ok, Err, codes}
use Rattle.prolog_terms.specs.Tree.{Trees, variable, integer, atom, compound, none, more}
use Rattle.prolog_terms.specs.Flat.{past}
use Rattle.prolog_terms.specs.declared.node.Node.{Node}
use Rattle.prolog_terms.specs.declared.node.Node.TheVariants.{Var, Int, Atom, Functor}
use Rattle.prolog_lexer.specs.declared.token.Token.{Token}
use Rattle.prolog_lexer.specs.declared.token.TokenKind.{TokenKind}
use Rattle.prolog_lexer.specs.declared.token.TokenKind.TheVariants.{Name, Quoted, Variable, Integer, Codes, Punct, Stop}
use Rattle.prolog_terms.specs.declared.ops.Prefix.{Prefix}
use Rattle.prolog_terms.specs.declared.ops.Infix.{Infix}
use Rattle.prolog_terms.specs.declared.ops.Postfix.{Postfix}
use Rattle.prolog_terms.specs.declared.ops.Definitions.{Definitions}
use Rattle.prolog_terms.specs.Operators.{Table, definitions, no_operator, prefix_op, same_text}
use Rattle.prolog_reader.specs.Numberings.{Numbering, no_variables, numbered, met}
use Rattle.prolog_reader.specs.declared.rule.Frame.{Frame}
use Rattle.prolog_reader.specs.declared.rule.Frame.TheVariants.{Arguments, Items, Tail, Paren, Braces, Prefixed, Infixed}
use Rattle.prolog_reader.specs.declared.rule.Mode.{Mode}
use Rattle.prolog_reader.specs.declared.rule.Mode.TheVariants.{Wants, Has}
use Rattle.prolog_reader.specs.declared.rule.Extension.{Extension}
use Rattle.prolog_reader.specs.declared.rule.Extension.TheVariants.{OverTwo, OverOne}
use Rattle.prolog_reader.specs.declared.rule.Fault.{Fault}
use Rattle.prolog_reader.specs.declared.rule.Fault.TheVariants.{TooLarge, Unexpected, Priority, Arity}

-- ---- terms that are complete so far, the newest first

-- The n newest, in their order, before these; a state of the rules has that many.
abbrev pub gathered : ℕ → Trees → Trees → Trees
gathered zero args ts = args
gathered (suc n) args none = none
gathered (suc n) args (more t ts) = gathered n (more t args) ts

-- a compound of the n newest
abbrev pub made : List ℕ → ℕ → Trees → Trees
made f n ts = more (compound f (gathered n none ts)) (past n ts)

-- a node after its arguments
abbrev pub pushed : Node → Trees → Trees
pushed (Var n) ts = more (variable n) ts
pushed (Int z) ts = more (integer z) ts
pushed (Atom a) ts = more (atom a) ts
pushed (Functor f n) ts = made f n ts

-- the terms of nodes in postfix order
abbrev pub stack : Trees → List Node → Trees
stack ts [] = ts
stack ts (n ∷ ns) = stack (pushed n ts) ns

-- n list cells, the newest term being the last tail
abbrev pub cells : ℕ → Trees → Trees
cells zero ts = ts
cells (suc n) ts = cells n (made (codes ".") 2 ts)

abbrev pub pushed_codes : List ℕ → Trees → Trees
pushed_codes [] ts = ts
pushed_codes (b ∷ bs) ts = pushed_codes bs (more (integer (pos b)) ts)

-- ---- what has been read

pub record State : Type 0 where
  pub mode : Mode
  pub frames : List Frame
  pub terms : Trees
  pub variables : Numbering

pub data Step : Type 0 where
  goes : State → Step  -- the token is taken
  goes_two : State → Step  -- the token and the next one are
  stops : Fault → Step

-- ---- one token, and what may follow it

abbrev pub touches : Token → Token → Bool
touches a b = a.to == b.from

abbrev pub opens : TokenKind → Bool
opens (Punct b) = b == 40
opens _ = false

-- the token is directly followed by (
abbrev pub calls : Token → List Token → Bool
calls a [] = false
calls a (b ∷ rest) = touches a b && opens b.kind

abbrev pub is_integer : TokenKind → Bool
is_integer (Integer n) = true
is_integer _ = false

abbrev pub is_minus : TokenKind → Bool
is_minus (Name f) = same_text f (codes "-")
is_minus _ = false

-- the unquoted name - directly followed by an integer
abbrev pub negates : Token → List Token → Bool
negates a [] = false
negates a (b ∷ rest) = (touches a b && is_integer b.kind) && is_minus a.kind

abbrev pub value_of : TokenKind → ℕ
value_of (Integer n) = n
value_of _ = 0

abbrev pub next_value : List Token → ℕ
next_value [] = 0
next_value (b ∷ rest) = value_of b.kind

abbrev pub is_punct : ℕ → TokenKind → Bool
is_punct p (Punct b) = b == p
is_punct p _ = false

abbrev pub next_is : ℕ → List Token → Bool
next_is p [] = false
next_is p (b ∷ rest) = is_punct p b.kind

-- ) ] } , |
abbrev pub begins : TokenKind → Bool
begins (Punct b) = not (b == 41 || b == 93 || b == 125 || b == 44 || b == 124)
begins Stop = false
begins _ = true

abbrev pub operator_name : TokenKind → Option (List ℕ)
operator_name (Name f) = Some f
operator_name (Quoted f) = Some f
operator_name (Punct b) = cond (b == 44) (Some (codes ",")) None
operator_name _ = None

-- what a token is as an operator
abbrev pub found_of : Table → Option (List ℕ) → Definitions
found_of ops None = no_operator
found_of ops (Some f) = definitions ops f

-- an infix or postfix operator
abbrev pub follows : Definitions → Bool
follows d = is_some d.as_infix || is_some d.as_postfix

-- a name that is an infix or postfix operator and no prefix operator
abbrev pub bars : Table → TokenKind → Bool
bars ops (Name f) = follows (definitions ops f) && not (is_some (definitions ops f).as_prefix)
bars ops _ = false

-- the tokens begin an operand of a prefix operator
abbrev pub takes_operand : Table → List Token → Bool
takes_operand ops [] = false
takes_operand ops (n ∷ rest) = begins n.kind && not (bars ops n.kind && not (calls n rest || negates n rest))

-- ---- a primary

abbrev pub with_term : State → ℕ → Trees → State
with_term s m ts = record s { mode = Has 0 m; terms = ts }

abbrev pub has : State → ℕ → Trees → Step
has s m ts = goes (with_term s m ts)

abbrev pub has_two : State → ℕ → Trees → Step
has_two s m ts = goes_two (with_term s m ts)

abbrev pub opened : State → Frame → ℕ → State
opened s f m = record s { mode = Wants m; frames = f ∷ s.frames }

abbrev pub prefixed : Option Prefix → List ℕ → ℕ → State → Bool → Step
prefixed None f m s operand = has s m (more (atom f) s.terms)
prefixed (Some b) f m s false = has s m (more (atom f) s.terms)
prefixed (Some b) f m s true = cond (nat_le b.priority m) (goes (opened s (Prefixed f b.priority m) b.operand)) (stops Priority)

abbrev pub negated : ℕ → ℕ → State → Step
negated n m s = cond (nat_le n 0x8000_0000_0000_0000) (has_two s m (more (integer (pos 0 -ℤ pos n)) s.terms)) (stops TooLarge)

unfoldable pub named : Table → List ℕ → ℕ → State → Token → List Token → Step
named ops f m s t rest =
    cond (calls t rest) (goes_two (opened s (Arguments f 0 m) 999))
    (cond (negates t rest) (negated (next_value rest) m s)
    (prefixed (prefix_op ops f) f m s (takes_operand ops rest)))

unfoldable pub bracket : ℕ → ℕ → State → List Token → Step
bracket b m s rest =
    cond (b == 40) (goes (opened s (Paren m) 1200))
    (cond (b == 91) (cond (next_is 93 rest) (has_two s m (more (atom (codes "[]")) s.terms)) (goes (opened s (Items 0 m) 999)))
    (cond (b == 123) (cond (next_is 125 rest) (has_two s m (more (atom (codes "{}")) s.terms)) (goes (opened s (Braces m) 1200)))
    (stops Unexpected)))

abbrev pub an_integer : ℕ → ℕ → State → Step
an_integer n m s = cond (nat_lt n 0x8000_0000_0000_0000) (has s m (more (integer (pos n)) s.terms)) (stops TooLarge)

abbrev pub a_variable : List ℕ → ℕ → State → State
a_variable v m s = record s { mode = Has 0 m; terms = more (variable (numbered v s.variables)) s.terms; variables = met v s.variables }

abbrev pub text_codes : List ℕ → Trees → Trees
text_codes bs ts = cells (length bs) (more (atom (codes "[]")) (pushed_codes bs ts))

unfoldable pub primary : Table → ℕ → State → Token → List Token → TokenKind → Step
primary ops m s t rest (Name f) = named ops f m s t rest
primary ops m s t rest (Quoted f) = named ops f m s t rest
primary ops m s t rest (Variable v) = goes (a_variable v m s)
primary ops m s t rest (Integer n) = an_integer n m s
primary ops m s t rest (Codes bs) = has s m (text_codes bs s.terms)
primary ops m s t rest Stop = stops Unexpected
primary ops m s t rest (Punct b) = bracket b m s rest

-- ---- what comes after a term

-- what an operator makes of a term of priority q where at most m is allowed: as infix operator, else as postfix operator
abbrev pub as_infix : Option Infix → List ℕ → ℕ → ℕ → Option Extension
as_infix None f q m = None
as_infix (Some b) f q m = cond (nat_le b.priority m && nat_le q b.left) (Some (OverTwo f b.priority b.right)) None

abbrev pub as_postfix : Option Postfix → List ℕ → ℕ → ℕ → Option Extension
as_postfix None f q m = None
as_postfix (Some a) f q m = cond (nat_le a.priority m && nat_le q a.operand) (Some (OverOne f a.priority)) None

abbrev pub or_else : {X : Type 0} → Option X → Option X → Option X
or_else None y = y
or_else (Some x) y = Some x

abbrev pub extended : Option (List ℕ) → Definitions → ℕ → ℕ → Option Extension
extended None d q m = None
extended (Some f) d q m = or_else (as_infix d.as_infix f q m) (as_postfix d.as_postfix f q m)

unfoldable pub extension : Table → Option (List ℕ) → ℕ → ℕ → Option Extension
extension ops name q m = extended name (found_of ops name) q m

-- the state after an extension
abbrev pub grown : Extension → ℕ → List Frame → Trees → Numbering → State
grown (OverTwo f p right) m fs ts vs = record { mode = Wants right; frames = Infixed f p m ∷ fs; terms = ts; variables = vs }
grown (OverOne f p) m fs ts vs = record { mode = Has p m; frames = fs; terms = made f 1 ts; variables = vs }

unfoldable pub refusal : Table → Token → Step
refusal ops t = stops (cond (follows (found_of ops (operator_name t.kind))) Priority Unexpected)

-- the innermost open frame takes the token, where it is no operator frame
abbrev pub taken : Table → Frame → List Frame → Trees → Numbering → Token → Step
taken ops (Arguments f k n) fs ts vs t =
    cond (is_punct 44 t.kind) (cond (nat_lt k 254) (goes (record { mode = Wants 999; frames = Arguments f (k + 1) n ∷ fs; terms = ts; variables = vs })) (stops Arity))
    (cond (is_punct 41 t.kind) (goes (record { mode = Has 0 n; frames = fs; terms = made f (k + 1) ts; variables = vs }))
    (refusal ops t))
taken ops (Items k n) fs ts vs t =
    cond (is_punct 44 t.kind) (goes (record { mode = Wants 999; frames = Items (k + 1) n ∷ fs; terms = ts; variables = vs }))
    (cond (is_punct 124 t.kind) (goes (record { mode = Wants 999; frames = Tail (k + 1) n ∷ fs; terms = ts; variables = vs }))
    (cond (is_punct 93 t.kind) (goes (record { mode = Has 0 n; frames = fs; terms = cells (k + 1) (more (atom (codes "[]")) ts); variables = vs }))
    (refusal ops t)))
taken ops (Tail k n) fs ts vs t =
    cond (is_punct 93 t.kind) (goes (record { mode = Has 0 n; frames = fs; terms = cells k ts; variables = vs })) (refusal ops t)
taken ops (Paren n) fs ts vs t =
    cond (is_punct 41 t.kind) (goes (record { mode = Has 0 n; frames = fs; terms = ts; variables = vs })) (refusal ops t)
taken ops (Braces n) fs ts vs t =
    cond (is_punct 125 t.kind) (goes (record { mode = Has 0 n; frames = fs; terms = made (codes "{}") 1 ts; variables = vs })) (refusal ops t)
taken ops (Prefixed f p n) fs ts vs t = refusal ops t
taken ops (Infixed f p n) fs ts vs t = refusal ops t

abbrev pub or_grown : Option Extension → ℕ → List Frame → Trees → Numbering → Step → Step
or_grown None m fs ts vs y = y
or_grown (Some x) m fs ts vs y = goes (grown x m fs ts vs)

-- the token after a complete term of priority q: an operator over it, or else what the innermost open frame takes
unfoldable pub continued : Table → ℕ → ℕ → List Frame → Trees → Numbering → Token → Step
continued ops q m [] ts vs t = or_grown (extension ops (operator_name t.kind) q m) m [] ts vs (refusal ops t)
continued ops q m (Prefixed f p n ∷ fs) ts vs t = or_grown (extension ops (operator_name t.kind) q m) m (Prefixed f p n ∷ fs) ts vs (continued ops p n fs (made f 1 ts) vs t)
continued ops q m (Infixed f p n ∷ fs) ts vs t = or_grown (extension ops (operator_name t.kind) q m) m (Infixed f p n ∷ fs) ts vs (continued ops p n fs (made f 2 ts) vs t)
continued ops q m (f ∷ fs) ts vs t = or_grown (extension ops (operator_name t.kind) q m) m (f ∷ fs) ts vs (taken ops f fs ts vs t)

-- ---- whole token lists

unfoldable pub rule : Table → State → Token → List Token → Step
rule ops s t rest = elim s.mode [ Wants m ↦ primary ops m s t rest t.kind | Has q m ↦ continued ops q m s.frames s.terms s.variables t ]

-- a term that was read, and its variables
pub record Found : Type 0 where
  pub terms : Trees
  pub variables : Numbering

abbrev pub closing : List Frame → Trees → Numbering → Result Found Fault
closing [] ts vs = Ok (record { terms = ts; variables = vs })
closing (Prefixed f p n ∷ fs) ts vs = closing fs (made f 1 ts) vs
closing (Infixed f p n ∷ fs) ts vs = closing fs (made f 2 ts) vs
closing (f ∷ fs) ts vs = Err Unexpected

unfoldable pub at_end : State → Result Found Fault
at_end s = elim s.mode [ Wants m ↦ Err Unexpected | Has q m ↦ closing s.frames s.terms s.variables ]

abbrev pub after_step : Step → (State → Result Found Fault) → (State → Result Found Fault) → Result Found Fault
after_step (goes u) one two = one u
after_step (goes_two u) one two = two u
after_step (stops f) one two = Err f

-- The tokens after a state. The first is passed over where it was taken with the one before it.
abbrev pub run : Table → Bool → State → List Token → Result Found Fault
run ops skip s [] = at_end s
run ops true s (t ∷ ts) = run ops false s ts
run ops false s (t ∷ ts) = after_step (rule ops s t ts) (λ u. run ops false u ts) (λ u. run ops true u ts)

abbrev pub start : State
start = record { mode = Wants 1200; frames = []; terms = none; variables = no_variables }

abbrev pub read : Table → List Token → Result Found Fault
read ops ts = run ops false start ts
