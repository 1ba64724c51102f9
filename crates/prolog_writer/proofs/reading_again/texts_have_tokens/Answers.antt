use Rattle.std.proofs.Common.{ℕ, ◌+◌, ◌∷◌, ◌++◌, ◌∙◌, length, None, refl}
use Rattle.std.specs.Prelude.{codes}
use Rattle.prolog_lexer.specs.Streams.{Stream, stream}
use Rattle.prolog_lexer.specs.Tokens.{listed, ending}
use Rattle.prolog_writer.specs.Spaces.{text_of}
use Rattle.prolog_writer.specs.Lexemes.{tokens_of, end_at}
use Rattle.prolog_writer.proofs.Joining.{joined}
use Rattle.prolog_writer.proofs.Assembled.{stream_followed}
use Rattle.prolog_writer.proofs.reading_again.texts_have_tokens.Goals as goal

pub returns : goal.returns
returns c = λ ps xss h at line later b.
    let place : ℕ = at + length (text_of ps) in
    let s : Stream = stream 0 (place + 2) line later in
    let had = c.tokens_by_cases.ensures.had (place + 2) line later in
    c.tokens_by_cases.ensures.given at line (text_of ps ++ (codes " ." ++ later)) (tokens_of line None at ps xss (end_at (place + 1) line ∷ listed s)) (ending s)
    (joined ps xss h None at place refl b had)
    ∙ stream_followed line None at ps xss (end_at (place + 1) line) s
