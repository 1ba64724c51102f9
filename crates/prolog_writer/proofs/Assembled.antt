-- What is answered at a place of a text where the text of a term stands.
use Rattle.std.proofs.Common.{◌≡◌, ℕ, ◌+◌, List, [], ◌∷◌, ◌++◌, length, Ok, Option, drop, refl, sym, ◌∙◌, ap, ap₂, append_assoc, length-append, arith}
use Rattle.std.specs.Prelude.{codes}
use Rattle.std.proofs.lemmas.List.{drop-drop}
use Rattle.std.proofs.Math.Seq.{drop-append_seam}
use Rattle.prolog_terms.specs.Tree.{Tree, none, more}
use Rattle.prolog_terms.specs.Operators.{Table}
use Rattle.prolog_terms.specs.declared.shown.Shown.{Shown}
use Rattle.prolog_lexer.specs.Streams.{Stream, ended, refused, token, stream, Place, ahead, rest_of}
use Rattle.prolog_lexer.specs.Tokens.{stream_of, listed, ending}
use Rattle.prolog_lexer.specs.declared.token.Token.{Token}
use Rattle.prolog_reader.specs.Grammar.{read}
use Rattle.prolog_reader.specs.Numberings.{Numbering, shown_of}
use Rattle.prolog_writer.proofs.Laid.{stopped}
use Rattle.prolog_reader.specs.Texts.{a_term, Reading, by_grammar, answer, Tail, upto, tail, line_of, read_of}
use Rattle.prolog_writer.specs.declared.kind.Edge.{Edge}
use Rattle.prolog_writer.specs.Spaces.{Piece, gap, edge_of}
use Rattle.prolog_writer.specs.Again.{moved}
use Rattle.prolog_writer.specs.Lexemes.{Lexeme, tokens_from, tokens_of, followed}

-- ---- tokens, and what a stream has behind them

listed-stream : (s : Stream) → stream_of (listed s) (ending s) ≡ s
listed-stream ended = refl
listed-stream (refused f) = refl
listed-stream (token t s) = ap (token t) (listed-stream s)

followed_from : (line at : ℕ) (xs : List Lexeme) (ts us : List Token) (s : Stream) → stream_of ts (ending s) ≡ followed us s → stream_of (tokens_from line at xs ++ ts) (ending s) ≡ followed (tokens_from line at xs ++ us) s
followed_from line at [] ts us s h = h
followed_from line at (x ∷ xs) ts us s h = ap (token (token_at_first)) (followed_from line (at + x.bytes) xs ts us s h)
  where
    token_at_first : Token
    token_at_first = record { kind = x.kind; from = at; to = at + x.bytes; line = line }

pub stream_followed : (line : ℕ) (before : Option Edge) (at : ℕ) (ps : List Piece) (xss : List (List Lexeme)) (end : Token) (s : Stream)
    → stream_of (tokens_of line before at ps xss (end ∷ listed s)) (ending s) ≡ followed (tokens_of line before at ps xss (end ∷ [])) s
stream_followed line before at [] xss end s = ap (token end) (listed-stream s)
stream_followed line before at (p ∷ ps) [] end s = ap (token end) (listed-stream s)
stream_followed line before at (p ∷ ps) (xs ∷ xss) end s =
    followed_from line (at + length (gap before p)) xs
    (tokens_of line (edge_of p) (at + length (gap before p) + length p.text) ps xss (end ∷ listed s))
    (tokens_of line (edge_of p) (at + length (gap before p) + length p.text) ps xss (end ∷ [])) s
    (stream_followed line (edge_of p) (at + length (gap before p) + length p.text) ps xss end s)

-- ---- what is behind

pub ahead_is : (p : Place) (bytes : List ℕ) → rest_of p ≡ bytes → ahead p ≡ stream 0 p.at p.line bytes
unfolding ahead rest_of
ahead_is p bytes e = ap (stream 0 p.at p.line) e

pub behind_is : (p : Place) (bytes later : List ℕ) → rest_of p ≡ bytes ++ (codes " ." ++ later) → ahead (moved p (length bytes + 2)) ≡ stream 0 (p.at + length bytes + 2) p.line later
unfolding ahead rest_of
behind_is p bytes later e =
    let n : length (bytes ++ codes " .") ≡ length bytes + 2 = length-append bytes (codes " .") in
    let k : p.at + (length bytes + 2) ≡ p.at + length bytes + 2 = omega arith in
    let l : drop (p.at + (length bytes + 2)) p.text ≡ later =
    sym (drop-drop (length bytes + 2) p.at p.text) ∙ ap (λ (x : List ℕ). drop (length bytes + 2) x) (e ∙ sym (append_assoc bytes (codes " .") later))
    ∙ ap (λ (i : ℕ). drop i ((bytes ++ codes " .") ++ later)) (sym n) ∙ drop-append_seam (bytes ++ codes " .") later in
    ap₂ (λ (i : ℕ) (x : List ℕ). stream 0 i p.line x) k l

-- ---- the answer

abbrev reading : Tree → List Shown → ℕ → Reading
reading t shown vars = record { term = t; shown = shown; vars = vars }

module _ (ops : Table) (ts : List Token) (t u : Tree) (vs : Numbering) (vars line : ℕ) where
  -- what reads as a term is answered
  pub answered : (s rest : Stream) → upto s ≡ ts → tail s ≡ tail (stopped line rest) → line_of ts (tail (stopped line rest)).how ≡ line → read ops ts ≡ Ok (record { terms = more t none; variables = vs })
      → t ≡ u → shown_of vs.known ≡ [] → vs.count ≡ vars → read_of ops s ≡ a_term line (reading u [] vars)
  unfolding read_of
  answered s rest e end first r same shown count =
      ap (λ (x : List Token). answer ops x (tail s).how) e
      ∙ ap (λ (x : Tail). answer ops ts x.how) end
      ∙ ap₂ by_grammar first r
      ∙ ap (λ (x : Tree). a_term line (reading x (shown_of vs.known) vs.count)) same
      ∙ ap₂ (λ (x : List Shown) (n : ℕ). a_term line (reading u x n)) shown count
