-- The read-terms of a text, one after the other.
use Rattle.std.proofs.Common.{◌≡◌, ℕ, ◌+◌, ◌<◌, List, [], ◌∷◌, Bool, true, false, cond, map, refl, ap, ◌∙◌, arith}
use Rattle.prolog_terms.specs.Operators.{Table}
use Rattle.prolog_lexer.specs.Streams.{Stream, ended, refused, token}
use Rattle.prolog_reader.specs.Texts.{Sentence, is_stop, upto, tail, size, sentences, before, read_of, answer, answer_of, Answer, Reading, a_term, nothing, refusal, program, to_refusal, after_answer}
use Rattle.prolog_lexer.specs.declared.token.Token.{Token}
use Rattle.prolog_reader.specs.declared.reader.Ended.{Ended}
use Rattle.prolog_reader.specs.declared.reader.Ended.TheVariants.{Stopped, Out, Faulty}

-- the read-term at the front of a text
abbrev pub first_of : Stream → Sentence
first_of s = record { tokens = upto s; how = (tail s).how }

-- the read-terms after one that ends so: those of the rest, where an End was met
abbrev pub later : Ended → Stream → List Sentence
later (Stopped line) rest = sentences rest
later Out rest = []
later (Faulty f) rest = []

unfold_token : (b : Bool) (t : Token) (rest : Stream) → sentences rest ≡ first_of rest ∷ later (tail rest).how (tail rest).rest
    → before b t (sentences rest) ≡ record { tokens = cond b [] (t ∷ upto rest); how = (cond b (record { how = Stopped t.line; rest = rest }) (tail rest)).how }
    ∷ later (cond b (record { how = Stopped t.line; rest = rest }) (tail rest)).how (cond b (record { how = Stopped t.line; rest = rest }) (tail rest)).rest
unfold_token true t rest e = refl
unfold_token false t rest e = ap (before false t) e

-- the read-terms of a text are the first, and those after it
pub sentences-unfold : (s : Stream) → sentences s ≡ first_of s ∷ later (tail s).how (tail s).rest
sentences-unfold ended = refl
sentences-unfold (refused f) = refl
sentences-unfold (token t rest) = unfold_token (is_stop t.kind) t rest (sentences-unfold rest)

-- what the first is answered
pub read_of-first : (ops : Table) (s : Stream) → read_of ops s ≡ answer_of ops (first_of s)
unfolding read_of
read_of-first ops s = refl

shorter_token : (b : Bool) (t : Token) (rest : Stream) (line : ℕ) → ((n : ℕ) → (tail rest).how ≡ Stopped n → size (tail rest).rest < size rest)
    → (cond b (record { how = Stopped t.line; rest = rest }) (tail rest)).how ≡ Stopped line
    → size (cond b (record { how = Stopped t.line; rest = rest }) (tail rest)).rest < 1 + size rest
shorter_token true t rest line shorter e = omega arith
shorter_token false t rest line shorter e = omega (arith, shorter line e)

-- an End makes the rest shorter
pub size-rest : (s : Stream) (line : ℕ) → (tail s).how ≡ Stopped line → size (tail s).rest < size s
size-rest ended line e = cc
size-rest (refused f) line e = cc
size-rest (token t rest) line e = shorter_token (is_stop t.kind) t rest line (size-rest rest) e

-- ---- the terms of a text

front_refused : (x : Answer) (xs : List Answer) → to_refusal (x ∷ xs) ≡ after_answer x (to_refusal xs)
front_refused (a_term line r) xs = refl
front_refused nothing xs = refl
front_refused (refusal line fault) xs = refl

parts : (ops : Table) (ts : List Token) (how : Ended) (rest : Stream)
    → to_refusal (answer ops ts how ∷ map (answer_of ops) (later how rest)) ≡ after_answer (answer ops ts how) (program ops rest)
parts ops ts (Stopped line) rest = front_refused (answer ops ts (Stopped line)) (map (answer_of ops) (sentences rest))
parts ops [] Out rest = refl
parts ops (t ∷ ts) Out rest = refl
parts ops ts (Faulty f) rest = refl

-- the read-terms of a text are that at its front and those of the rest
pub program_parts : (ops : Table) (s : Stream) → program ops s ≡ after_answer (read_of ops s) (program ops (tail s).rest)
unfolding read_of
program_parts ops s = ap (λ ss. to_refusal (map (answer_of ops) ss)) (sentences-unfold s) ∙ parts ops (upto s) (tail s).how (tail s).rest

-- behind a term that was read the rest is shorter
shorter_by : (ops : Table) (s : Stream) (ts : List Token) (how : Ended) (line : ℕ) (r : Reading) → (tail s).how ≡ how → answer ops ts how ≡ a_term line r
    → size (tail s).rest < size s
shorter_by ops s ts (Stopped n) line r h e = size-rest s n h
shorter_by ops s [] Out line r h e = absurd cc
shorter_by ops s (t ∷ ts) Out line r h e = absurd cc
shorter_by ops s ts (Faulty f) line r h e = absurd cc

pub shorter_after : (ops : Table) (s : Stream) (line : ℕ) (r : Reading) → read_of ops s ≡ a_term line r → size (tail s).rest < size s
unfolding read_of
shorter_after ops s line r e = shorter_by ops s (upto s) (tail s).how line r refl e

-- behind a term that was read are the read-terms of the rest
rest_by : (ops : Table) (s : Stream) (ts : List Token) (how : Ended) (line : ℕ) (r : Reading) → answer ops ts how ≡ a_term line r
    → later how (tail s).rest ≡ sentences (tail s).rest
rest_by ops s ts (Stopped n) line r e = refl
rest_by ops s [] Out line r e = absurd cc
rest_by ops s (t ∷ ts) Out line r e = absurd cc
rest_by ops s ts (Faulty f) line r e = absurd cc

pub sentences-after : (ops : Table) (s : Stream) (line : ℕ) (r : Reading) → read_of ops s ≡ a_term line r → later (tail s).how (tail s).rest ≡ sentences (tail s).rest
unfolding read_of
sentences-after ops s line r e = rest_by ops s (upto s) (tail s).how line r e
