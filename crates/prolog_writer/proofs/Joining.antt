-- Pieces one behind the other have their tokens.
use Rattle.std.proofs.Common.{◌≡◌, ℕ, ◌+◌, ◌-◌, length, List, [], ◌∷◌, ◌++◌, Bool, true, false, Option, Some, refl, sym, ◌∙◌, ap, subst, append_assoc, arith, length-append}
use Rattle.std.specs.Prelude.{codes, ◌&&◌, ◌||◌, if◌then◌else◌, option_map, slice_get}
use Rattle.std.proofs.lemmas.Bool.{true≢false}
use Rattle.prolog_lexer.specs.Classes.{class}
use Rattle.prolog_lexer.specs.Escapes.{AreDigits}
use Rattle.prolog_lexer.specs.Pieces.{is_break}
use Rattle.prolog_lexer.specs.Tokens.{Tokens, Ending, layout, stop}
use Rattle.prolog_lexer.specs.declared.token.Token.{Token}
use Rattle.prolog_writer.specs.declared.kind.Kind.{Kind}
use Rattle.prolog_writer.specs.declared.kind.Edge.{Edge}
use Rattle.prolog_writer.specs.Spelling as writer
use Rattle.prolog_writer.specs.Spaces.{Piece, piece, is_wordy, is_named, is_paren, is_minus, parts, edge_of, needs_space, gap, spaced}
use Rattle.prolog_writer.specs.Lexemes.{Lexeme, Spells, word, symbols as symbolic, solo as alone, quoted, named, digits, negative, mark, pair, AllSpell, nothing, further, tokens_of, end_at}
use Rattle.prolog_writer.proofs.Bytes.{blank-wordy, blank_is_no_symbol, symbol_both, no_symbol_both}
use Rattle.prolog_writer.proofs.Lexing.{last_of, Apart, one_piece}

-- ---- what ends a piece

last_get : (b : ℕ) (bs : List ℕ) → slice_get (b ∷ bs) (length bs) ≡ Some (last_of (b ∷ bs))
last_get b [] = refl
last_get b (c ∷ cs) = last_get c cs

edge_last : (k : Kind) (b : ℕ) (bs : List ℕ) → edge_of (piece k (b ∷ bs)) ≡ Some (record { kind = k; byte = last_of (b ∷ bs) })
edge_last k b bs =
    let e : length (b ∷ bs) - 1 ≡ length bs = omega arith in
    ap (λ n. option_map (λ z. record { kind = k; byte = z }) (slice_get (b ∷ bs) n)) e ∙ ap (option_map (λ z. record { kind = k; byte = z })) (last_get b bs)

-- ---- what stands behind a piece

behind_blank : (z : ℕ) (rest : List ℕ) → Apart z (32 ∷ rest)
behind_blank z rest = record { words = λ e. blank-wordy; runs = λ e. blank_is_no_symbol }

both_false : (a b c : Bool) → ((a && b) || c) ≡ false → a ≡ true → b ≡ false
both_false true true c e h = e
both_false true false c e h = refl
both_false false b c e h = absurd (true≢false (sym h))

rest_false : (a b : Bool) → (a || b) ≡ false → b ≡ false
rest_false true true e = e
rest_false true false e = refl
rest_false false b e = e

not_parted : (k l : Kind) (z b : ℕ) (bs : List ℕ) → parts (record { kind = k; byte = z }) l b ≡ false → Apart z (b ∷ bs)
not_parted k l z b bs e = record {
  words = λ h. both_false (is_wordy z) (is_wordy b) (writer.is_symbol z && writer.is_symbol b || (is_named k && is_paren l || is_minus k && writer.is_digit b)) e h;
  runs = λ h. no_symbol_both b (both_false (writer.is_symbol z) (writer.is_symbol b) (is_named k && is_paren l || is_minus k && writer.is_digit b)
      (rest_false (is_wordy z && is_wordy b) (writer.is_symbol z && writer.is_symbol b || (is_named k && is_paren l || is_minus k && writer.is_digit b)) e) (symbol_both z h));
}

-- a text that is spelled has a first byte
pub record Begins (text : List ℕ) : Type 0 where
  pub first : ℕ
  pub others : List ℕ
  pub is : text ≡ first ∷ others

digits_begin : (ds : List ℕ) → AreDigits 10 ds → Begins ds
digits_begin [] c = absurd c
digits_begin (d ∷ ds) c = record { first = d; others = ds; is = refl }

pub begins : (text : List ℕ) (xs : List Lexeme) → Spells text xs → Begins text
begins text xs (word b bs c w) = record { first = b; others = bs; is = refl }
begins text xs (symbolic b bs c plain point) = record { first = b; others = bs; is = refl }
begins text xs (alone b c) = record { first = b; others = []; is = refl }
begins text xs (quoted spelling meaning i lines) = record { first = 39; others = spelling ++ 39 ∷ []; is = refl }
begins text xs (named b bs c w) = record { first = b; others = bs; is = refl }
begins text xs (digits ds c few) = digits_begin ds c
begins text xs (negative ds c few) = record { first = 45; others = ds; is = refl }
begins text xs (mark b c) = record { first = b; others = []; is = refl }
begins text xs (pair a b c d) = record { first = a; others = b ∷ []; is = refl }

pub edge_is : (p : Piece) → Begins p.text → edge_of p ≡ Some (record { kind = p.kind; byte = last_of p.text })
edge_is p g =
    ap (λ (t : List ℕ). edge_of (piece p.kind t)) g.is ∙ edge_last p.kind g.first g.others
    ∙ ap (λ (t : List ℕ). Some (record { kind = p.kind; byte = last_of t })) (sym g.is)

step : (k : Kind) (z : ℕ) (q : Piece) (c : ℕ) (cs : List ℕ) → q.text ≡ c ∷ cs → (rest later : List ℕ) (b : Bool) → needs_space (Some (record { kind = k; byte = z })) q.kind q.text ≡ b
    → Apart z (((gap (Some (record { kind = k; byte = z })) q ++ q.text) ++ rest) ++ later)
step k z q c cs is rest later true e = rw e (behind_blank z ((q.text ++ rest) ++ later))
step k z q c cs is rest later false e =
    let f : parts (record { kind = k; byte = z }) q.kind c ≡ false = ap (λ (t : List ℕ). needs_space (Some (record { kind = k; byte = z })) q.kind t) (sym is) ∙ e in
    rw e (subst (λ (t : List ℕ). Apart z ((t ++ rest) ++ later)) (sym is) (not_parted k q.kind z c ((cs ++ rest) ++ later) f))

apart_some : (k : Kind) (z : ℕ) (later : List ℕ) (ps : List Piece) (xss : List (List Lexeme)) → AllSpell ps xss → Apart z (spaced (Some (record { kind = k; byte = z })) ps ++ (codes " ." ++ later))
apart_some k z later ps xss nothing = behind_blank z (46 ∷ later)
apart_some k z later ps xss (further {ps = qs} {xss = yss} q xs h hs) =
    let g = begins q.text xs h in
    step k z q g.first g.others g.is (spaced (edge_of q) qs) (codes " ." ++ later) (needs_space (Some (record { kind = k; byte = z })) q.kind q.text) refl

-- ---- all of them

abbrev blank : Bool → List ℕ
blank b = if b then codes " " else []

one_gap : {at line : ℕ} {ts : List Token} {e : Ending} (b : Bool) (body : List ℕ) → Tokens (at + length (blank b)) line body ts e → Tokens at line (blank b ++ body) ts e
unfolding class
one_gap {at} {line} {ts} {e} true body t = let l : line ≡ line + 0 = omega arith in layout 32 refl (subst (λ k. Tokens (at + 1) k body ts e) l t)
one_gap {at} {line} {ts} {e} false body t = let n : at + 0 ≡ at = omega arith in subst (λ k. Tokens k line body ts e) n t

the_end : {line : ℕ} {later : List ℕ} {ts : List Token} {e : Ending} (at : ℕ) → is_break later ≡ true → Tokens (at + 2) line later ts e → Tokens at line (codes " ." ++ later) (end_at (at + 1) line ∷ ts) e
unfolding class
the_end {line} {later} {ts} {e} at b h =
    let n : at + 2 ≡ at + 1 + 1 = omega arith in
    let l : line ≡ line + 0 = omega arith in
    layout 32 refl (subst (λ k. Tokens (at + 1) k (46 ∷ later) (end_at (at + 1) line ∷ ts) e) l (stop b (subst (λ k. Tokens k line later ts e) n h)))

-- behind the pieces, at a place, an End behind a space
pub joined : {line : ℕ} {later : List ℕ} {ts : List Token} {e : Ending} (ps : List Piece) (xss : List (List Lexeme)) → AllSpell ps xss → (before : Option Edge) (at place : ℕ)
    → place ≡ at + length (spaced before ps) → is_break later ≡ true → Tokens (place + 2) line later ts e
    → Tokens at line (spaced before ps ++ (codes " ." ++ later)) (tokens_of line before at ps xss (end_at (place + 1) line ∷ ts)) e
joined {line} {later} {ts} {e} ps xss nothing before at place is b t =
    let n : place ≡ at = omega (arith, is) in
    subst (λ k. Tokens k line (codes " ." ++ later) (end_at (place + 1) line ∷ ts) e) n (the_end place b t)
joined {line} {later} {ts} {e} ps xss (further {ps = qs} {xss = yss} p xs h hs) before at place n b t =
    let body : List ℕ = spaced (edge_of p) qs ++ (codes " ." ++ later) in
    let end : List Token = end_at (place + 1) line ∷ ts in
    let apart : Apart (last_of p.text) body =
    subst (λ (x : Option Edge). Apart (last_of p.text) (spaced x qs ++ (codes " ." ++ later))) (sym (edge_is p (begins p.text xs h))) (apart_some p.kind (last_of p.text) later qs yss hs) in
    let start : ℕ = at + length (gap before p) in
    let m : place ≡ (start + length p.text) + length (spaced (edge_of p) qs) =
    omega (arith, n, length-append (gap before p ++ p.text) (spaced (edge_of p) qs), length-append (gap before p) p.text) in
    let is : gap before p ++ (p.text ++ body) ≡ spaced before (p ∷ qs) ++ (codes " ." ++ later) =
    sym (append_assoc (gap before p ++ p.text) (spaced (edge_of p) qs) (codes " ." ++ later) ∙ append_assoc (gap before p) p.text body) in
    subst (λ (l : List ℕ). Tokens at line l (tokens_of line before at (p ∷ qs) (xs ∷ yss) end) e) is
    (one_gap (needs_space before p.kind p.text) (p.text ++ body) (one_piece p.text xs body h apart (joined qs yss hs (edge_of p) (start + length p.text) place m b t)))
