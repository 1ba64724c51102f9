-- Texts, and their tokens.
use Rattle.prolog_lexer.specs.Classes.{class}
use Rattle.prolog_lexer.specs.Pieces.{piece, symbolic, decimal, number, character, based, comment, before_close}
use Rattle.prolog_lexer.specs.Digits.{digit}
use Rattle.prolog_lexer.specs.Quotes.{bit, escape, letter, coded_by}
use Rattle.std.specs.Prelude.{◌≡◌, refl, codes}
use Rattle.prolog_lexer.specs.Streams.{ended, refused, token, tokens}
use Rattle.prolog_lexer.specs.declared.token.TokenKind.TheVariants.{Name, Quoted, Codes, Variable, Integer, Punct, Stop}

first : tokens (codes "f(X1,12) .") ≡
    token (record { kind = Name (codes "f"); from = 0; to = 1; line = 1 })
    (token (record { kind = Punct 40; from = 1; to = 2; line = 1 })
    (token (record { kind = Variable (codes "X1"); from = 2; to = 4; line = 1 })
    (token (record { kind = Punct 44; from = 4; to = 5; line = 1 })
    (token (record { kind = Integer 12; from = 5; to = 7; line = 1 })
    (token (record { kind = Punct 41; from = 7; to = 8; line = 1 })
    (token (record { kind = Stop; from = 9; to = 10; line = 1 }) ended))))))
unfolding class piece symbolic decimal number character based comment before_close bit escape letter coded_by digit
first = refl

fault : tokens (codes "a% b\n /* c") ≡ token (record { kind = Name (codes "a"); from = 0; to = 1; line = 1 }) (refused (record { number = 4; line = 2 }))
unfolding class piece symbolic decimal number character based comment before_close bit escape letter coded_by digit
fault = refl

quote_twice : tokens (codes "'it''s'") ≡ token (record { kind = Quoted (codes "it's"); from = 0; to = 7; line = 1 }) ended
unfolding class piece symbolic decimal number character based comment before_close bit escape letter coded_by digit
quote_twice = refl

hex_escape : tokens (codes "'\\x41\\b'") ≡ token (record { kind = Quoted (codes "Ab"); from = 0; to = 8; line = 1 }) ended
unfolding class piece symbolic decimal number character based comment before_close bit escape letter coded_by digit
hex_escape = refl

octal_escape : tokens (codes "'\\101\\'") ≡ token (record { kind = Quoted (codes "A"); from = 0; to = 7; line = 1 }) ended
unfolding class piece symbolic decimal number character based comment before_close bit escape letter coded_by digit
octal_escape = refl

line_escape : tokens (codes "'a\\\nb'") ≡ token (record { kind = Quoted (codes "ab"); from = 0; to = 6; line = 1 }) ended
unfolding class piece symbolic decimal number character based comment before_close bit escape letter coded_by digit
line_escape = refl

not_closed : tokens (codes "'ab") ≡ refused (record { number = 2; line = 1 })
unfolding class piece symbolic decimal number character based comment before_close bit escape letter coded_by digit
not_closed = refl

too_high : tokens (codes "'\\x141\\'") ≡ refused (record { number = 3; line = 1 })
unfolding class piece symbolic decimal number character based comment before_close bit escape letter coded_by digit
too_high = refl

char_code : tokens (codes "0'a") ≡ token (record { kind = Integer 97; from = 0; to = 3; line = 1 }) ended
unfolding class piece symbolic decimal number character based comment before_close bit escape letter coded_by digit
char_code = refl

char_quote : tokens (codes "0'''") ≡ token (record { kind = Integer 39; from = 0; to = 4; line = 1 }) ended
unfolding class piece symbolic decimal number character based comment before_close bit escape letter coded_by digit
char_quote = refl

char_escape : tokens (codes "0'\\n") ≡ token (record { kind = Integer 10; from = 0; to = 4; line = 1 }) ended
unfolding class piece symbolic decimal number character based comment before_close bit escape letter coded_by digit
char_escape = refl

char_bad : tokens (codes "0''") ≡ refused (record { number = 3; line = 1 })
unfolding class piece symbolic decimal number character based comment before_close bit escape letter coded_by digit
char_bad = refl

hex : tokens (codes "0xfF") ≡ token (record { kind = Integer 255; from = 0; to = 4; line = 1 }) ended
unfolding class piece symbolic decimal number character based comment before_close bit escape letter coded_by digit
hex = refl

hex_none : tokens (codes "0xg") ≡ token (record { kind = Integer 0; from = 0; to = 1; line = 1 }) (token (record { kind = Name (codes "xg"); from = 1; to = 3; line = 1 }) ended)
unfolding class piece symbolic decimal number character based comment before_close bit escape letter coded_by digit
hex_none = refl

large : tokens (codes "9223372036854775809") ≡ refused (record { number = 5; line = 1 })
unfolding class piece symbolic decimal number character based comment before_close bit escape letter coded_by digit
large = refl

text : tokens (codes "\"ab\"") ≡ token (record { kind = Codes (codes "ab"); from = 0; to = 4; line = 1 }) ended
unfolding class piece symbolic decimal number character based comment before_close bit escape letter coded_by digit
text = refl

foreign : tokens (codes "`") ≡ refused (record { number = 1; line = 1 })
unfolding class piece symbolic decimal number character based comment before_close bit escape letter coded_by digit
foreign = refl

comment_in_symbols : tokens (codes "+/**/b") ≡ token (record { kind = Name (codes "+/**/"); from = 0; to = 5; line = 1 }) (token (record { kind = Name (codes "b"); from = 5; to = 6; line = 1 }) (ended))
unfolding class piece symbolic decimal number character based comment before_close bit escape letter coded_by digit
comment_in_symbols = refl

shared_star : tokens (codes "\n/*/") ≡ refused (record { number = 4; line = 2 })
unfolding class piece symbolic decimal number character based comment before_close bit escape letter coded_by digit
shared_star = refl

end_before_percent : tokens (codes "a.%") ≡ token (record { kind = Name (codes "a"); from = 0; to = 1; line = 1 }) (token (record { kind = Stop; from = 1; to = 2; line = 1 }) (ended))
unfolding class piece symbolic decimal number character based comment before_close bit escape letter coded_by digit
end_before_percent = refl

no_end : tokens (codes "a.b") ≡ token (record { kind = Name (codes "a"); from = 0; to = 1; line = 1 }) (token (record { kind = Name (codes "."); from = 1; to = 2; line = 1 }) (token (record { kind = Name (codes "b"); from = 2; to = 3; line = 1 }) (ended)))
unfolding class piece symbolic decimal number character based comment before_close bit escape letter coded_by digit
no_end = refl

greatest : tokens (codes "9223372036854775808") ≡ token (record { kind = Integer 0x8000_0000_0000_0000; from = 0; to = 19; line = 1 }) (ended)
unfolding class piece symbolic decimal number character based comment before_close bit escape letter coded_by digit
greatest = refl

cut_escape : tokens (codes "'\\12\n\\'") ≡ refused (record { number = 3; line = 1 })
unfolding class piece symbolic decimal number character based comment before_close bit escape letter coded_by digit
cut_escape = refl

whole_escape : tokens (codes "'\\12\\") ≡ refused (record { number = 2; line = 1 })
unfolding class piece symbolic decimal number character based comment before_close bit escape letter coded_by digit
whole_escape = refl

three_lines : tokens (codes "'a\\\nb'\nc") ≡ token (record { kind = Quoted (codes "ab"); from = 0; to = 6; line = 1 }) (token (record { kind = Name (codes "c"); from = 7; to = 8; line = 3 }) (ended))
unfolding class piece symbolic decimal number character based comment before_close bit escape letter coded_by digit
three_lines = refl
