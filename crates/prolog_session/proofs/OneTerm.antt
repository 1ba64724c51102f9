-- A text that is one read-term.
use Rattle.std.proofs.Common.{◌≡◌, ℕ, List, Option, Some, None, sym, ◌∙◌, ap, subst}
use Rattle.prolog_terms.specs.Operators.{Table, initial_operators}
use Rattle.prolog_lexer.specs.Streams.{Stream, tokens}
use Rattle.prolog_reader.specs.Texts.{Reading, Answer, a_term, nothing, refusal, read_of, read_reading, tail, Says, Program, program, after_answer}
use Rattle.prolog_reader.specs.declared.reader.Read.{Read}
use Rattle.prolog_reader.specs.declared.reader.Read.TheVariants.{Term, End, Refused}
use Rattle.prolog_reader.specs.declared.reader.ReadTerm.{ReadTerm}
use Rattle.prolog_session.specs.Words.{only, term_of}
use Rattle.prolog_reader.proofs.Sentences.{program_parts}

-- ---- what the two calls of a reading tell

pub said-nothing : (a : Answer) (r : Read) → Says a r → r ≡ End → a ≡ nothing
said-nothing a r h e = subst (λ (x : Read). Says a x) e h

pub said-refused : (a : Answer) (r : Read) (n m : ℕ) → Says a r → r ≡ Refused n m → a ≡ refusal n m
said-refused a r n m h e = subst (λ (x : Read). Says a x) e h

pub said-term : (a : Answer) (r : Read) (q : ReadTerm) → Says a r → r ≡ Term q → a ≡ a_term q.line (read_reading q)
said-term a r q h e = subst (λ (x : Read). Says a x) e h

-- ---- the terms of a text, by what is at its front

front : (ops : Table) (s : Stream) (a : Answer) → read_of ops s ≡ a → program ops s ≡ after_answer a (program ops (tail s).rest)
front ops s a e = program_parts ops s ∙ ap (λ (b : Answer). after_answer b (program ops (tail s).rest)) e

abbrev only_of : Program → Option Reading
only_of p = only p.terms p.refused

the_text : (ops : Table) (s : Stream) (text : List ℕ) → ops ≡ initial_operators → s ≡ tokens text → term_of text ≡ only_of (program ops s)
unfolding term_of
the_text ops s text o e = sym (ap (λ (t : Table). only_of (program t s)) o ∙ ap (λ (x : Stream). only_of (program initial_operators x)) e)

-- the first read-term is no term
pub first-nothing : (ops : Table) (s : Stream) (text : List ℕ) → ops ≡ initial_operators → s ≡ tokens text → read_of ops s ≡ nothing → term_of text ≡ None
first-nothing ops s text o e h = the_text ops s text o e ∙ ap only_of (front ops s nothing h)

pub first-refused : (ops : Table) (s : Stream) (text : List ℕ) (n m : ℕ) → ops ≡ initial_operators → s ≡ tokens text → read_of ops s ≡ refusal n m
    → term_of text ≡ None
first-refused ops s text n m o e h = the_text ops s text o e ∙ ap only_of (front ops s (refusal n m) h)

-- the second one, behind a term
second : (ops : Table) (s rest : Stream) (text : List ℕ) (n : ℕ) (r : Reading) (a : Answer) → ops ≡ initial_operators → s ≡ tokens text
    → read_of ops s ≡ a_term n r → rest ≡ (tail s).rest → read_of ops rest ≡ a
    → term_of text ≡ only_of (after_answer (a_term n r) (after_answer a (program ops (tail rest).rest)))
second ops s rest text n r a o e h f k =
    the_text ops s text o e
    ∙ ap only_of (front ops s (a_term n r) h)
    ∙ ap (λ (x : Stream). only_of (after_answer (a_term n r) (program ops x))) (sym f)
    ∙ ap (λ (p : Program). only_of (after_answer (a_term n r) p)) (front ops rest a k)

pub second-nothing : (ops : Table) (s rest : Stream) (text : List ℕ) (n : ℕ) (r : Reading) → ops ≡ initial_operators → s ≡ tokens text
    → read_of ops s ≡ a_term n r → rest ≡ (tail s).rest → read_of ops rest ≡ nothing → term_of text ≡ Some r
second-nothing ops s rest text n r o e h f k = second ops s rest text n r nothing o e h f k

pub second-term : (ops : Table) (s rest : Stream) (text : List ℕ) (n m : ℕ) (r q : Reading) → ops ≡ initial_operators → s ≡ tokens text
    → read_of ops s ≡ a_term n r → rest ≡ (tail s).rest → read_of ops rest ≡ a_term m q → term_of text ≡ None
second-term ops s rest text n m r q o e h f k = second ops s rest text n r (a_term m q) o e h f k

pub second-refused : (ops : Table) (s rest : Stream) (text : List ℕ) (n m k : ℕ) (r : Reading) → ops ≡ initial_operators → s ≡ tokens text
    → read_of ops s ≡ a_term n r → rest ≡ (tail s).rest → read_of ops rest ≡ refusal m k → term_of text ≡ None
second-refused ops s rest text n m k r o e h f x = second ops s rest text n r (refusal m k) o e h f x
