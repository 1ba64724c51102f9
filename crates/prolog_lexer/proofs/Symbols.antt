-- Comments, names of symbol bytes and Ends by cases are those of the function.
use Rattle.std.proofs.Common.{◌≡◌, ℕ, ◌+◌, ◌≤◌, ◌==◌, ◌&&◌, ◌||◌, List, [], ◌∷◌, ◌++◌, drop, length, refl, sym, ap, subst, ◌∙◌, arith, cond, Bool, true, false, Some, None}
use Rattle.std.specs.List.{prefix_len}
use Rattle.std.proofs.lemmas.Bool.{eqb-true, ne_eqb, and_parts}
use Rattle.prolog_lexer.specs.Classes.{class, is_symbol, is_layout, in_line}
use Rattle.prolog_lexer.specs.Pieces as pieces
use Rattle.prolog_lexer.specs.Pieces.{piece, before_close, later, closed, ends_comment, begins_comment, is_break, is_stop, cut}
use Rattle.prolog_lexer.specs.Escapes.{AreAll, EndsRun}
use Rattle.prolog_lexer.specs.Tokens.{NeverCloses, is_end}
use Rattle.prolog_lexer.proofs.Runs.{prefix_len-run, take-run, symbol_is, layout_no_symbol}
use Rattle.prolog_lexer.proofs.Numbers.{piece-class}
use Rattle.prolog_lexer.specs.declared.class.Class.TheVariants.{Symbol, Percent}
use Rattle.prolog_lexer.specs.declared.piece.Piece.TheVariants.{Blank, Lexeme, Refused}
use Rattle.prolog_lexer.specs.declared.token.TokenKind.TheVariants.{Name, Stop}

-- ---- comments

and_false : (x y : Bool) → y ≡ false → x && y ≡ false
and_false true y e = e
and_false false y e = refl

still_open : (b : ℕ) (bs rest : List ℕ) → ends_comment (b ∷ bs) ≡ false → ends_comment (b ∷ (bs ++ 42 ∷ 47 ∷ rest)) ≡ false
still_open b [] rest e = and_false (b == 42) (42 == 47) refl
still_open b (c ∷ bs) rest e = e

closes_at : (comment rest : List ℕ) → NeverCloses comment → before_close (comment ++ 42 ∷ 47 ∷ rest) ≡ Some (length comment)
unfolding before_close
closes_at [] rest h = refl
closes_at (b ∷ bs) rest h =
    let e : 1 + length bs ≡ length (b ∷ bs) = omega arith in
    rw (still_open b bs rest h.0, closes_at bs rest h.1, e) refl

never_closes : (bytes : List ℕ) → NeverCloses bytes → before_close bytes ≡ None
unfolding before_close
never_closes [] h = refl
never_closes (b ∷ bs) h = rw (h.0, never_closes bs h.1) refl

class_slash : class 47 ≡ Symbol
unfolding class
class_slash = refl

class_dot : class 46 ≡ Symbol
unfolding class
class_dot = refl

class_percent : class 37 ≡ Percent
unfolding class
class_percent = refl

comment_piece : (bs : List ℕ) → piece (47 ∷ 42 ∷ bs) ≡ closed (before_close bs)
unfolding pieces.symbolic pieces.comment
comment_piece bs = piece-class 47 (42 ∷ bs) Symbol class_slash

pub closed_piece : (comment rest : List ℕ) → NeverCloses comment → piece (47 ∷ 42 ∷ (comment ++ 42 ∷ 47 ∷ rest)) ≡ Blank (2 + length comment + 2)
closed_piece comment rest h = comment_piece (comment ++ 42 ∷ 47 ∷ rest) ∙ ap closed (closes_at comment rest h)

pub open_piece : (rest : List ℕ) → NeverCloses rest → piece (47 ∷ 42 ∷ rest) ≡ Refused 4
open_piece rest h = comment_piece rest ∙ ap closed (never_closes rest h)

pub line_piece : (comment rest : List ℕ) → AreAll in_line comment → EndsRun in_line rest → piece (37 ∷ (comment ++ rest)) ≡ Blank (length (37 ∷ comment))
line_piece comment rest h k =
    piece-class 37 (comment ++ rest) Percent class_percent ∙ ap Blank (prefix_len-run in_line (37 ∷ comment) rest (refl, h) k)

-- ---- runs of symbol bytes

no_star : (b : ℕ) → is_symbol b ≡ false → b == 42 ≡ false
unfolding class
no_star b e = elim (b == 42) as (λ v. b == 42 ≡ v → v ≡ false)
    [ true ↦ λ f. let g : is_symbol 42 ≡ false = subst (λ x. is_symbol x ≡ false) (eqb-true b 42 f) e in cc | false ↦ λ f. refl ] refl

no_comment : (b : ℕ) (run rest : List ℕ) → EndsRun is_symbol rest → begins_comment (b ∷ run) ≡ false → begins_comment (b ∷ (run ++ rest)) ≡ false
no_comment b [] [] k e = refl
no_comment b [] (c ∷ rest) k e = and_false (b == 47) (c == 42) (no_star c k)
no_comment b (c ∷ run) rest k e = e

is_stop-end : (b : ℕ) (run rest : List ℕ) → (length (b ∷ run) == 1 && is_stop (b ∷ (run ++ rest))) ≡ is_end (b ∷ run) rest
is_stop-end b [] rest = refl
is_stop-end b (c ∷ run) rest = let e : (length (b ∷ c ∷ run) == 1) ≡ false = ne_eqb (length (b ∷ c ∷ run)) 1 (λ f. omega arith) in rw e refl

symbolic_is : (b : ℕ) (run rest : List ℕ) → AreAll is_symbol (b ∷ run) → EndsRun is_symbol rest → begins_comment (b ∷ (run ++ rest)) ≡ false
    → pieces.symbolic (b ∷ (run ++ rest)) ≡ cond (is_end (b ∷ run) rest) (Lexeme Stop 1) (Lexeme (Name (b ∷ run)) (length (b ∷ run)))
unfolding pieces.symbolic
symbolic_is b run rest h k e =
    let n : prefix_len is_symbol (b ∷ (run ++ rest)) ≡ length (b ∷ run) = prefix_len-run is_symbol (b ∷ run) rest h k in
    ap (λ t. cond t (pieces.comment (drop 2 (b ∷ (run ++ rest)))) (cond (prefix_len is_symbol (b ∷ (run ++ rest)) == 1 && is_stop (b ∷ (run ++ rest))) (Lexeme Stop 1) (cut Name (prefix_len is_symbol (b ∷ (run ++ rest))) (b ∷ (run ++ rest))))) e
    ∙ ap (λ m. cond (m == 1 && is_stop (b ∷ (run ++ rest))) (Lexeme Stop 1) (cut Name m (b ∷ (run ++ rest)))) n
    ∙ ap (λ t. cond t (Lexeme Stop 1) (cut Name (length (b ∷ run)) (b ∷ (run ++ rest)))) (is_stop-end b run rest)
    ∙ ap (λ l. cond (is_end (b ∷ run) rest) (Lexeme Stop 1) (Lexeme (Name l) (length (b ∷ run)))) (take-run (b ∷ run) rest)

pub symbols_piece : (b : ℕ) (run rest : List ℕ) → AreAll is_symbol (b ∷ run) → EndsRun is_symbol rest → begins_comment (b ∷ run) ≡ false → is_end (b ∷ run) rest ≡ false
    → piece (b ∷ (run ++ rest)) ≡ Lexeme (Name (b ∷ run)) (length (b ∷ run))
symbols_piece b run rest h k c e =
    piece-class b (run ++ rest) Symbol (symbol_is b h.0)
    ∙ symbolic_is b run rest h k (no_comment b run rest k c)
    ∙ ap (λ t. cond t (Lexeme Stop 1) (Lexeme (Name (b ∷ run)) (length (b ∷ run)))) e

break_byte : (b : ℕ) → (b == 37 || is_layout b) ≡ true → is_symbol b ≡ false
unfolding class
break_byte b e = elim (b == 37) as (λ v. b == 37 ≡ v → v || is_layout b ≡ true → is_symbol b ≡ false)
    [ true ↦ λ f g. subst (λ x. is_symbol x ≡ false) (sym (eqb-true b 37 f)) refl | false ↦ λ f g. layout_no_symbol (class b) g ] refl e

pub break_ends : (rest : List ℕ) → is_break rest ≡ true → EndsRun is_symbol rest
break_ends [] e = tt
break_ends (b ∷ bs) e = break_byte b e

dot_symbol : is_symbol 46 ≡ true
unfolding class
dot_symbol = refl

pub stop_piece : (rest : List ℕ) → is_break rest ≡ true → piece (46 ∷ rest) ≡ Lexeme Stop 1
stop_piece rest e =
    piece-class 46 rest Symbol class_dot
    ∙ symbolic_is 46 [] rest (dot_symbol, tt) (break_ends rest e) (no_comment 46 [] rest (break_ends rest e) refl)
    ∙ ap (λ t. cond t (Lexeme Stop 1) (Lexeme (Name (46 ∷ [])) 1)) e

-- ---- every text closes a comment or does not

pub data Comment : List ℕ → Type 0 where
  shut : (comment rest : List ℕ) → NeverCloses comment → Comment (comment ++ 42 ∷ 47 ∷ rest)
  unshut : (bytes : List ℕ) → NeverCloses bytes → Comment bytes

open_before : (b : ℕ) (comment rest : List ℕ) → ends_comment (b ∷ (comment ++ 42 ∷ 47 ∷ rest)) ≡ false → ends_comment (b ∷ comment) ≡ false
open_before b [] rest e = refl
open_before b (c ∷ comment) rest e = e

longer_comment : (b : ℕ) (bs : List ℕ) → ends_comment (b ∷ bs) ≡ false → Comment bs → Comment (b ∷ bs)
longer_comment b _ e (shut comment rest h) = shut (b ∷ comment) rest (open_before b comment rest e, h)
longer_comment b _ e (unshut bytes h) = unshut (b ∷ bytes) (e, h)

here : (b : ℕ) (bs : List ℕ) → ends_comment (b ∷ bs) ≡ true → Comment (b ∷ bs)
here b [] e = cc
here b (c ∷ bs) e =
    let p : (b == 42 ≡ true) × (c == 47 ≡ true) = and_parts (b == 42) (c == 47) e in
    subst (λ x. Comment (x ∷ c ∷ bs)) (sym (eqb-true b 42 p.0)) (subst (λ x. Comment (42 ∷ x ∷ bs)) (sym (eqb-true c 47 p.1)) (shut [] bs tt))

pub comment_of : (bs : List ℕ) → Comment bs
comment_of [] = unshut [] tt
comment_of (b ∷ bs) = elim (ends_comment (b ∷ bs)) as (λ v. ends_comment (b ∷ bs) ≡ v → Comment (b ∷ bs))
    [ true ↦ λ e. here b bs e | false ↦ λ e. longer_comment b bs e (comment_of bs) ] refl

pub begins_parts : (b : ℕ) (bs : List ℕ) → begins_comment (b ∷ bs) ≡ true → (P : List ℕ → Type 0) → ((cs : List ℕ) → length cs ≤ length bs → P (47 ∷ 42 ∷ cs)) → P (b ∷ bs)
begins_parts b [] e P f = cc
begins_parts b (c ∷ cs) e P f =
    let p : (b == 47 ≡ true) × (c == 42 ≡ true) = and_parts (b == 47) (c == 42) e in
    subst (λ x. P (x ∷ c ∷ cs)) (sym (eqb-true b 47 p.0)) (subst (λ x. P (47 ∷ x ∷ cs)) (sym (eqb-true c 42 p.1)) (f cs (omega arith)))
