use Rattle.std.proofs.Common.{ℕ, ◌+◌, List, [], ◌++◌, ◌∙◌, length, None, ap, sym}
use Rattle.std.specs.Prelude.{codes}
use Rattle.prolog_lexer.specs.Streams.{Stream, stream, ahead}
use Rattle.prolog_terms.specs.Substitutions.{numbered, variable_count}
use Rattle.prolog_reader.specs.Numberings.{no_variables}
use Rattle.prolog_reader.specs.Texts.{Tail, upto, tail}
use Rattle.prolog_writer.specs.declared.shape.Place.TheVariants.{Within}
use Rattle.prolog_writer.specs.Pieces.{pieces, written}
use Rattle.prolog_writer.specs.Lexemes.{tokens_of}
use Rattle.prolog_writer.specs.Tokens.{lexemes}
use Rattle.prolog_writer.specs.Told.{told, as_told}
use Rattle.prolog_writer.proofs.Assembled.{ahead_is, behind_is, answered}
use Rattle.prolog_writer.proofs.Laid.{upto_end, tail_end, line_is}
use Rattle.prolog_writer.proofs.Spelled.{term_spelled}
use Rattle.prolog_writer.proofs.reading_again.written_is_read_again.Goals as goal

pub returns : goal.returns
returns c = λ ops style max t table quotes arities wholes p later is b.
    let ps = pieces ops style (Within max) t in
    let xss = lexemes ops style (Within max) t in
    let bytes : List ℕ = written ops style max t in
    let place : ℕ = p.at + length bytes in
    let ts = tokens_of p.line None p.at ps xss [] in
    let spelled = term_spelled ops style (Within max) t quotes wholes in
    let s : Stream = stream 0 (place + 2) p.line later in
    let reads = c.terms_read.ensures ops style max t no_variables (c.tables_are_lawful.ensures ops table) quotes arities wholes p.at p.line in
    let found = c.reads_by_cases.ensures.found ops ts reads.0 (as_told t no_variables) (told t no_variables) reads.1 in
    let e = ahead_is p (bytes ++ (codes " ." ++ later)) is ∙ c.terms_have_tokens.ensures ops style max t quotes wholes p.at p.line later b in
    let end = ap tail e ∙ tail_end p.line (place + 1) s None p.at spelled in
    record {
      read = answered ops ts (as_told t no_variables) (numbered t) (told t no_variables) (variable_count t) p.line (ahead p) s
          (ap upto e ∙ upto_end p.line (place + 1) s None p.at spelled) end (line_is p.line s None p.at spelled) found
          (c.variables_are_numbered.ensures.terms t wholes) (c.variables_are_numbered.ensures.shown t wholes) (c.variables_are_numbered.ensures.count t wholes);
      rest = ap (λ (x : Tail). x.rest) end ∙ sym (behind_is p bytes later is);
    }
