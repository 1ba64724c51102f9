-- The read-terms of a text, and what is answered of each (docs/LANGUAGE.md, "Terms").
use Rattle.std.specs.Prelude.{◌≡◌, ℕ, ◌+◌, List, [], ◌∷◌, Bool, true, false, cond, map, Option, Some, None, Result, Ok, Err, IsTrue, All}
use Rattle.prolog_terms.specs.Tree.{Tree}
use Rattle.prolog_terms.specs.Flat.{front}
use Rattle.prolog_terms.specs.Variables.{met_after}
use Rattle.prolog_terms.specs.Substitutions.{occurs}
use Rattle.prolog_terms.specs.Operators.{Table}
use Rattle.prolog_terms.specs.declared.shown.Shown.{Shown}
use Rattle.prolog_lexer.specs.Streams.{Stream, ended, refused, token}
use Rattle.prolog_lexer.specs.declared.token.Token.{Token}
use Rattle.prolog_lexer.specs.declared.token.TokenKind.{TokenKind}
use Rattle.prolog_lexer.specs.declared.token.TokenKind.TheVariants.{Stop}
use Rattle.prolog_reader.specs.declared.rule.Fault.{Fault}
use Rattle.prolog_reader.specs.declared.rule.Fault.TheVariants.{TooLarge, Unexpected, Priority, Arity}
use Rattle.prolog_reader.specs.declared.reader.Ended.{Ended}
use Rattle.prolog_reader.specs.declared.reader.Ended.TheVariants.{Stopped, Out, Faulty}
use Rattle.prolog_reader.specs.declared.reader.Read.{Read}
use Rattle.prolog_reader.specs.declared.reader.Read.TheVariants.{Term, End, Refused}
use Rattle.prolog_reader.specs.declared.reader.ReadTerm.{ReadTerm}
use Rattle.prolog_reader.specs.Numberings.{Numbering, no_variables, shown_of}
use Rattle.prolog_reader.specs.Grammar.{Found, read}
use Rattle.prolog_reader.specs.Reads.{Reads}
use Rattle.prolog_reader.specs.Stops.{StopsAt}

abbrev pub is_stop : TokenKind → Bool
is_stop Stop = true
is_stop _ = false

-- the tokens up to the first End, fault or the end of the text
abbrev pub upto : Stream → List Token
upto ended = []
upto (refused f) = []
upto (token t rest) = cond (is_stop t.kind) [] (t ∷ upto rest)

-- what comes there, and what comes after it
pub record Tail : Type 0 where
  pub how : Ended
  pub rest : Stream

abbrev pub tail : Stream → Tail
tail ended = record { how = Out; rest = ended }
tail (refused f) = record { how = Faulty f; rest = refused f }
tail (token t rest) = cond (is_stop t.kind) (record { how = Stopped t.line; rest = rest }) (tail rest)

-- how many tokens a stream has
abbrev pub size : Stream → ℕ
size ended = 0
size (refused f) = 0
size (token t rest) = 1 + size rest

-- the line of the first token or, where there is none, of what comes
abbrev pub line_of : List Token → Ended → ℕ
line_of (t ∷ ts) e = t.line
line_of [] (Stopped line) = line
line_of [] (Faulty f) = f.line
line_of [] Out = 0

abbrev pub number : Fault → ℕ
number TooLarge = 5
number Unexpected = 7
number Priority = 8
number Arity = 9

-- a term, its named variables that are shown, and how many variables it has
pub record Reading : Type 0 where
  pub term : Tree
  pub shown : List Shown
  pub vars : ℕ

-- the line of a term and the term, nothing more, or the line of a fault and its number
pub data Answer : Type 0 where
  a_term : ℕ → Reading → Answer
  nothing : Answer
  refusal : ℕ → ℕ → Answer

abbrev pub reading_of : Tree → Numbering → Reading
reading_of t vs = record { term = t; shown = shown_of vs.known; vars = vs.count }

abbrev pub by_grammar : ℕ → Result Found Fault → Answer
by_grammar line (Ok found) = a_term line (reading_of (front found.terms) found.variables)
by_grammar line (Err f) = refusal line (number f)

-- The lexer's fault comes first, then 6 where the text ends, and then a fault of the grammar.
abbrev pub answer : Table → List Token → Ended → Answer
answer ops ts (Faulty f) = refusal (line_of ts (Faulty f)) f.number
answer ops [] Out = nothing
answer ops (t ∷ ts) Out = refusal t.line 6
answer ops ts (Stopped line) = by_grammar (line_of ts (Stopped line)) (read ops ts)

-- what a text gives at its front
unfoldable pub read_of : Table → Stream → Answer
read_of ops s = answer ops (upto s) (tail s).how

-- ---- what a call of read_term says

abbrev pub read_reading : ReadTerm → Reading
read_reading r = record { term = r.term; shown = r.shown; vars = r.vars }

abbrev pub Says : Answer → Read → Type 0
Says x (Term r) = x ≡ a_term r.line (read_reading r)
Says x End = x ≡ nothing
Says x (Refused line fault) = x ≡ refusal line fault

-- the tokens read as the term by the cases of the grammar, with these variables
pub record ReadsAs (ops : Table) (ts : List Token) (r : Reading) : Type 0 where
  pub priority : ℕ
  pub variables : Numbering
  pub reads : Reads ops 1200 ts no_variables priority r.term [] variables
  pub shown : r.shown ≡ shown_of variables.known
  pub vars : r.vars ≡ variables.count

-- the tokens read as no term by the cases of the grammar
abbrev pub ReadsAsNone : Table → List Token → Type 0
ReadsAsNone ops ts = (q : ℕ) (t : Tree) (ws : Numbering) → Reads ops 1200 ts no_variables q t [] ws → ⊥

-- the term that the tokens read as, or a refusal where they read as none
abbrev pub IsTheirReading : Table → List Token → Read → Type 0
IsTheirReading ops ts (Term r) = ReadsAs ops ts (read_reading r)
IsTheirReading ops ts End = ⊥
IsTheirReading ops ts (Refused line fault) = ReadsAsNone ops ts

abbrev pub IsNothing : Read → Type 0
IsNothing (Term r) = ⊥
IsNothing End = Unit {0}
IsNothing (Refused line fault) = ⊥

abbrev pub IsRefusal : Read → Type 0
IsRefusal (Term r) = ⊥
IsRefusal End = ⊥
IsRefusal (Refused line fault) = Unit {0}

-- What is answered of tokens that end so: a term exactly where an End comes and the cases of the grammar have one, and it is
-- that; the end of the text exactly where the text ends and no token is left; a refusal in all other cases.
abbrev pub ByCases : Table → List Token → Ended → Read → Type 0
ByCases ops ts (Stopped line) r = IsTheirReading ops ts r
ByCases ops [] Out r = IsNothing r
ByCases ops (t ∷ ts) Out r = IsRefusal r
ByCases ops ts (Faulty f) r = IsRefusal r

-- the tokens before an End stop being read, by the cases of the grammar, with the fault of this number
pub record IsTheirFault (ops : Table) (ts : List Token) (fault : ℕ) : Type 0 where
  pub kind : Fault
  pub left : List Token  -- from the first token on at which no rule applies
  pub stops : StopsAt ops ts kind left
  pub is : fault ≡ number kind

abbrev pub IsFaultOf : Table → List Token → Ended → ℕ → Type 0
IsFaultOf ops ts (Stopped line) fault = IsTheirFault ops ts fault
IsFaultOf ops ts Out fault = fault ≡ 6
IsFaultOf ops ts (Faulty f) fault = fault ≡ f.number

-- What is refused of tokens that end so: before an End for the fault with which they stop being read, at the end of the text for
-- 6, and at a fault of the lexer for that; in the line of the first token or, where there is none, of what comes.
abbrev pub HasFault : Table → List Token → Ended → Read → Type 0
HasFault ops ts how (Term r) = Unit {0}
HasFault ops ts how End = Unit {0}
HasFault ops ts how (Refused line fault) = (line ≡ line_of ts how) × IsFaultOf ops ts how fault

-- The variables are numbered from 0 by first occurrence, and each that is shown stands in the term.
pub record HasItsVariables (r : Reading) : Type 0 where
  pub numbered : met_after r.term 0 ≡ Some r.vars
  pub stand : All (λ s. IsTrue (occurs s.var r.term)) r.shown

abbrev pub Numbers : Read → Type 0
Numbers (Term r) = HasItsVariables (read_reading r)
Numbers End = Unit {0}
Numbers (Refused line fault) = Unit {0}

-- ---- all of a text, under one table

-- the tokens of a read-term, and how they end
pub record Sentence : Type 0 where
  pub tokens : List Token
  pub how : Ended

abbrev pub answer_of : Table → Sentence → Answer
answer_of ops s = answer ops s.tokens s.how

abbrev pub without_tokens : Ended → Sentence
without_tokens how = record { tokens = []; how = how }

-- a token before the first of the sentences, or an End
abbrev pub before : Bool → Token → List Sentence → List Sentence
before true t ss = without_tokens (Stopped t.line) ∷ ss
before false t [] = []
before false t (s ∷ ss) = record { tokens = t ∷ s.tokens; how = s.how } ∷ ss

-- the read-terms of a text in their order, split at the Ends; the last ends with the text or at a fault
abbrev pub sentences : Stream → List Sentence
sentences ended = without_tokens Out ∷ []
sentences (refused f) = without_tokens (Faulty f) ∷ []
sentences (token t rest) = before (is_stop t.kind) t (sentences rest)

-- the terms of a text with their lines, or those before the first read-term that is refused; its line and fault then
pub record Program : Type 0 where
  pub terms : List (ℕ × Reading)
  pub refused : Option (ℕ × ℕ)

abbrev pub with_term : ℕ → Reading → Program → Program
with_term line r p = record p { terms = (line, r) ∷ p.terms }

abbrev pub to_refusal : List Answer → Program
to_refusal [] = record { terms = []; refused = None }
to_refusal (a_term line r ∷ xs) = with_term line r (to_refusal xs)
to_refusal (nothing ∷ xs) = record { terms = []; refused = None }
to_refusal (refusal line fault ∷ xs) = record { terms = []; refused = Some (line, fault) }

abbrev pub program : Table → Stream → Program
program ops s = to_refusal (map (answer_of ops) (sentences s))

-- the same, one read-term after the other
abbrev pub after_answer : Answer → Program → Program
after_answer (a_term line r) rest = with_term line r rest
after_answer nothing rest = record { terms = []; refused = None }
after_answer (refusal line fault) rest = record { terms = []; refused = Some (line, fault) }
