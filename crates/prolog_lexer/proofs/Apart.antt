-- The tokens that a text has by cases stand in order and apart.
use Rattle.std.proofs.Common.{◌≡◌, ℕ, ◌+◌, ◌≤◌, ◌<◌, List, [], ◌∷◌, ◌++◌, length, sym, arith, length-append}
use Rattle.prolog_lexer.specs.Tokens.{Tokens, Ending, AreApart, token_at, quoting, text_ends, layout, line_comment, closed_comment, open_comment, name, variable, solo, symbols, stop, punctuation, decimal, decimal_too_large, based, based_too_large, character, no_character, quoted, open_quote, bad_escape, no_token}
use Rattle.prolog_lexer.proofs.Sound.{some_length}
use Rattle.prolog_lexer.specs.declared.token.Token.{Token}
use Rattle.prolog_lexer.specs.declared.token.TokenKind.{TokenKind}
use Rattle.prolog_lexer.specs.declared.token.TokenKind.TheVariants.{Name, Variable, Integer, Punct, Stop}
use Rattle.prolog_lexer.specs.Digits.{value}

-- from an earlier place on, to the same end
moved : (a b c d : ℕ) (ts : List Token) → a ≤ b → c ≡ d → AreApart b c ts → AreApart a d ts
moved a b c d [] le e p = omega arith
moved a b c d (t ∷ ts) le e (h, k, r) = (omega arith, k, rw (sym e) r)

-- a token of n bytes before others
before : (at line n c d : ℕ) (kind : TokenKind) (ts : List Token) → 0 < n → c ≡ d → AreApart (at + n) c ts → AreApart at d (token_at at line n kind ∷ ts)
before at line n c d kind ts some e r = (omega arith, omega arith, rw (sym e) r)

pub tokens_apart : (at line : ℕ) (bytes : List ℕ) (ts : List Token) (e : Ending) → Tokens at line bytes ts e → AreApart at (at + length bytes) ts
tokens_apart at line bytes ts e text_ends = omega arith
tokens_apart at line bytes ts e (layout {rest = rest} b k t) = moved at (at + 1) (at + 1 + length rest) (at + length (b ∷ rest)) ts (omega arith) (omega arith) (tokens_apart _ _ _ _ _ t)
tokens_apart at line bytes ts e (line_comment comment rest h k t) =
    moved at (at + length (37 ∷ comment)) (at + length (37 ∷ comment) + length rest) (at + length (37 ∷ (comment ++ rest))) ts (omega arith) (omega (arith, length-append comment rest)) (tokens_apart _ _ _ _ _ t)
tokens_apart at line bytes ts e (closed_comment comment rest h t) =
    moved at (at + (2 + length comment + 2)) (at + (2 + length comment + 2) + length rest) (at + length (47 ∷ 42 ∷ (comment ++ 42 ∷ 47 ∷ rest))) ts (omega arith) (omega (arith, length-append comment (42 ∷ 47 ∷ rest))) (tokens_apart _ _ _ _ _ t)
tokens_apart at line bytes ts e (open_comment rest h) = omega arith
tokens_apart at line bytes us e (name {ts = ts} b word rest k h r t) =
    before at line (length (b ∷ word)) (at + length (b ∷ word) + length rest) (at + length (b ∷ (word ++ rest))) (Name (b ∷ word)) ts (omega arith) (omega (arith, length-append word rest)) (tokens_apart _ _ _ _ _ t)
tokens_apart at line bytes us e (variable {ts = ts} b word rest k h r t) =
    before at line (length (b ∷ word)) (at + length (b ∷ word) + length rest) (at + length (b ∷ (word ++ rest))) (Variable (b ∷ word)) ts (omega arith) (omega (arith, length-append word rest)) (tokens_apart _ _ _ _ _ t)
tokens_apart at line bytes us e (solo {rest = rest} {ts = ts} b k t) =
    before at line 1 (at + 1 + length rest) (at + length (b ∷ rest)) (Name (b ∷ [])) ts (omega arith) (omega arith) (tokens_apart _ _ _ _ _ t)
tokens_apart at line bytes us e (symbols {ts = ts} b run rest h r c n t) =
    before at line (length (b ∷ run)) (at + length (b ∷ run) + length rest) (at + length (b ∷ (run ++ rest))) (Name (b ∷ run)) ts (omega arith) (omega (arith, length-append run rest)) (tokens_apart _ _ _ _ _ t)
tokens_apart at line bytes us e (stop {rest = rest} {ts = ts} h t) =
    before at line 1 (at + 1 + length rest) (at + length (46 ∷ rest)) Stop ts (omega arith) (omega arith) (tokens_apart _ _ _ _ _ t)
tokens_apart at line bytes us e (punctuation {rest = rest} {ts = ts} b k t) =
    before at line 1 (at + 1 + length rest) (at + length (b ∷ rest)) (Punct b) ts (omega arith) (omega arith) (tokens_apart _ _ _ _ _ t)
tokens_apart at line bytes us e (decimal {ts = ts} digits rest h r g few t) =
    before at line (length digits) (at + length digits + length rest) (at + length (digits ++ rest)) (Integer (value 10 digits)) ts (some_length 10 digits h) (omega (arith, length-append digits rest)) (tokens_apart _ _ _ _ _ t)
tokens_apart at line bytes us e (decimal_too_large digits rest h r g big) = omega arith
tokens_apart at line bytes us e (based {base = base} {ts = ts} letter digits rest x h r few t) =
    before at line (2 + length digits) (at + (2 + length digits) + length rest) (at + length (48 ∷ letter ∷ (digits ++ rest))) (Integer (value base digits)) ts (omega arith) (omega (arith, length-append digits rest)) (tokens_apart _ _ _ _ _ t)
tokens_apart at line bytes us e (based_too_large letter digits rest x h r big) = omega arith
tokens_apart at line bytes us e (character {v = v} {ts = ts} spelling rest c t) =
    before at line (2 + length spelling) (at + (2 + length spelling) + length rest) (at + length (48 ∷ 39 ∷ (spelling ++ rest))) (Integer v) ts (omega arith) (omega (arith, length-append spelling rest)) (tokens_apart _ _ _ _ _ t)
tokens_apart at line bytes us e (no_character rest c) = omega arith
tokens_apart at line bytes us e (quoted {quote = q} {meaning = meaning} {ts = ts} spelling rest k i n t) =
    before at line (1 + length spelling + 1) (at + (1 + length spelling + 1) + length rest) (at + length (q ∷ (spelling ++ q ∷ rest))) (quoting k meaning) ts (omega arith) (omega (arith, length-append spelling (q ∷ rest))) (tokens_apart _ _ _ _ _ t)
tokens_apart at line bytes us e (open_quote spelling rest k i n) = omega arith
tokens_apart at line bytes us e (bad_escape spelling rest k i n) = omega arith
tokens_apart at line bytes us e (no_token b k) = omega arith
