-- Terms at their places: as they are, or in a parenthesis.
use Rattle.std.proofs.Common.{◌≡◌, ℕ, ◌+◌, ◌≤◌, ◌⊎◌, inl, inr, length, List, [], ◌∷◌, ◌++◌, Bool, true, false, Option, Some, None, refl, sym, ◌∙◌, ap, subst, arith}
use Rattle.std.specs.Prelude.{codes, not, is_some, ◌&&◌, ◌||◌}
use Rattle.std.proofs.lemmas.Bool.{true≢false}
use Rattle.prolog_terms.specs.Tree.{Tree, Trees, atom, compound, count}
use Rattle.prolog_terms.specs.Operators.{Table, definitions, prefix_op, infix_op, postfix_op}
use Rattle.prolog_lexer.specs.declared.token.Token.{Token}
use Rattle.prolog_lexer.specs.declared.token.TokenKind.TheVariants.{Name, Quoted, Punct}
use Rattle.prolog_lexer.specs.Tokens.{token_at}
use Rattle.prolog_reader.specs.Numberings.{Numbering}
use Rattle.prolog_reader.specs.Grammar.{calls, negates, bars, follows, takes_operand}
use Rattle.prolog_reader.specs.Reads.{Reads, Primary, plain, paren, empty_list, empty_braces}
use Rattle.prolog_writer.specs.declared.kind.Kind.TheVariants.{Paren}
use Rattle.prolog_writer.specs.declared.kind.Edge.{Edge}
use Rattle.prolog_writer.specs.declared.style.Style.{Style}
use Rattle.prolog_writer.specs.declared.shape.Shape.{Shape}
use Rattle.prolog_writer.specs.declared.shape.Place.{Place}
use Rattle.prolog_writer.specs.declared.shape.Place.TheVariants.{Left}
use Rattle.prolog_writer.specs.Spelling.{same_text, has_quotes, is_brackets, quotes_atom}
use Rattle.prolog_writer.specs.Spaces.{Piece, piece, gap, edge_of}
use Rattle.prolog_writer.specs.Shapes.{shape_of, priority, is_operand, has_operators, is_operator, is_enclosed, is_atom_enclosed}
use Rattle.prolog_writer.specs.Pieces.{enclosed, mark, atom_piece}
use Rattle.prolog_writer.specs.Lexemes.{Lexeme, tokens_from, AllSpell, nothing, further, lexemes_of_name}
use Rattle.prolog_writer.specs.Tokens.{mark_lexemes, enclosed_lexemes}
use Rattle.prolog_writer.specs.Told.{all_told, all_as_told}
use Rattle.prolog_writer.proofs.Spelled.{form, form_lexemes, atom_spelled}
use Rattle.prolog_writer.proofs.Behind.{both_no, no_and, ends_name, no_call, no_sign, Follows, Ends, less, closing}
use Rattle.prolog_writer.proofs.Tokened.{same}
use Rattle.prolog_writer.proofs.Grown.{Grows, whole, alone}
use Rattle.prolog_writer.proofs.Laid.{laid, parted}
use Rattle.prolog_writer.proofs.Starts.{Starts, plain_starts, paren_starts, begins_term, operand-begins}
use Rattle.prolog_writer.proofs.Fitting.{Fits, reach, seen, seen_low, seen_under, seen_within, seen_left}
use Rattle.prolog_writer.proofs.Facts.{TermReads}
use Rattle.prolog_writer.proofs.Forms.{FormReads, unbarred}

-- ---- in a parenthesis

pub in_paren : {ops : Table} {q : ℕ} {t : Tree} {vs ws : Numbering} (ps : List Piece) (xss : List (List Lexeme)) → AllSpell ps xss
    → ((e : Option Edge) (n : ℕ) (rest : List Token) → Ends ops 1201 rest → Reads ops 1200 (laid e n ps xss rest) vs q t rest ws)
    → (e : Option Edge) (n : ℕ) (rest : List Token) (m : ℕ) → Primary ops m (laid e n (enclosed true ps) (enclosed_lexemes true xss) rest) vs 0 t rest ws
in_paren {ops} {q} {t} {vs} {ws} ps xss spelled inside e n rest m =
    let at : ℕ = n + length (gap e (piece Paren (codes "("))) in
    let edge : Option Edge = edge_of (piece Paren (codes "(")) in
    let a : Token = token_at at 1 1 (Punct 40) in
    let p = parted edge (at + 1) spelled (mark (codes ")") ∷ []) (mark_lexemes 41 ∷ []) rest in
    let c : Token = token_at (p.place + length (gap p.edge (mark (codes ")")))) 1 1 (Punct 41) in
    subst (λ (l : List Token). Primary ops m (a ∷ l) vs 0 t rest ws) (sym p.is)
    (paren a c refl (inside edge (at + 1) (c ∷ rest) (closing ops 1201 c rest refl refl refl)) refl)

-- ---- the tokens of an atom

no_some : {X : Type 0} (o : Option X) → is_some o ≡ false → o ≡ None
no_some None e = refl
no_some (Some x) e = absurd (true≢false e)

-- a name without quotes: brackets or braces, or one token
abbrev by_name : (List ℕ → Type 0) → Type 0
by_name P = (name : List ℕ) → (P (codes "[]")) → (P (codes "{}")) → (is_brackets name ≡ false → P name) → P name

cases_of : (P : List ℕ → Type 0) → by_name P
cases_of P name left braces other = by (same_text name (codes "[]")) (same_text name (codes "{}")) refl refl
  where
    by : (a b : Bool) → same_text name (codes "[]") ≡ a → same_text name (codes "{}") ≡ b → P name
    by true b e h = subst P (sym (same name (codes "[]") e)) left
    by false true e h = subst P (sym (same name (codes "{}") h)) braces
    by false false e h = other (ap (λ x. x || same_text name (codes "{}")) e ∙ h)

pub token_primary : {ops : Table} {m : ℕ} {vs : Numbering} (b : Bool) (name : List ℕ) (at : ℕ) (rest : List Token) → ends_name rest ≡ true
    → (prefix_op ops name ≡ None) ⊎ (takes_operand ops rest ≡ false) → Primary ops m (tokens_from 1 at (lexemes_of_name b name) ++ rest) vs 0 (atom name) rest vs
token_primary true name at rest e h =
    let a : Token = token_at at 1 _ (Quoted name) in plain a name refl (no_call a rest e) (no_sign a rest e) h
token_primary {ops} {m} {vs} false name at rest e h =
    cases_of (λ n. Primary ops m (tokens_from 1 at (lexemes_of_name false n) ++ rest) vs 0 (atom n) rest vs) name
    (empty_list (token_at at 1 1 (Punct 91)) (token_at (at + 1) 1 1 (Punct 93)) refl refl)
    (empty_braces (token_at at 1 1 (Punct 123)) (token_at (at + 1) 1 1 (Punct 125)) refl refl)
    (λ k. let a : Token = token_at at 1 (length name) (Name name) in rw k (plain a name refl (no_call a rest e) (no_sign a rest e) h))

pub token_begins : (b : Bool) (name : List ℕ) (at : ℕ) (rest : List Token) → begins_term (tokens_from 1 at (lexemes_of_name b name) ++ rest) ≡ true
token_begins true name at rest = refl
token_begins false name at rest = cases_of (λ n. begins_term (tokens_from 1 at (lexemes_of_name false n) ++ rest) ≡ true) name refl refl (λ k. rw k refl)

pub token_starts : {ops : Table} {e : Option Edge} {n : ℕ} (b : Bool) (name : List ℕ) (at : ℕ) (rest : List Token) → follows (definitions ops name) ≡ false
    → Starts ops e n (tokens_from 1 at (lexemes_of_name b name) ++ rest)
token_starts true name at rest k = plain_starts (token_at at 1 _ (Quoted name) ∷ rest) refl refl
token_starts {ops} {e} {n} false name at rest k =
    cases_of (λ x. Starts ops e n (tokens_from 1 at (lexemes_of_name false x) ++ rest)) name
    (plain_starts (token_at at 1 1 (Punct 91) ∷ token_at (at + 1) 1 1 (Punct 93) ∷ rest) refl refl)
    (plain_starts (token_at at 1 1 (Punct 123) ∷ token_at (at + 1) 1 1 (Punct 125) ∷ rest) refl refl)
    (λ plain_name.
    let a : Token = token_at at 1 (length name) (Name name) in
    rw plain_name (plain_starts (a ∷ rest) (unbarred true (bars ops (Name name)) (not (calls a rest || negates a rest)) refl (no_and (follows (definitions ops name)) (not (is_some (definitions ops name).as_prefix)) k)) refl))

-- ---- an atom at a place

abbrev atom_lists : Bool → Style → List ℕ → Option Edge → ℕ → List Token → List Token
atom_lists b style name e n rest = laid e n (enclosed b (atom_piece style name ∷ [])) (enclosed_lexemes b (lexemes_of_name (quotes_atom style name) name ∷ [])) rest

atom_placed : {ops : Table} (b : Bool) (style : Style) (name : List ℕ) → has_quotes style ≡ true → (e : Option Edge) (n : ℕ) (rest : List Token) (vs : Numbering) (m : ℕ) → ends_name rest ≡ true
    → (b ≡ false → (prefix_op ops name ≡ None) ⊎ (takes_operand ops rest ≡ false)) → Primary ops m (atom_lists b style name e n rest) vs 0 (atom name) rest vs
atom_placed {ops} true style name q e n rest vs m ends h =
    in_paren (atom_piece style name ∷ []) (lexemes_of_name (quotes_atom style name) name ∷ []) (further (atom_piece style name) (lexemes_of_name (quotes_atom style name) name) (atom_spelled style name q) nothing)
    (λ f k more_tokens stop.
    whole (alone (token_primary (quotes_atom style name) name (k + length (gap f (atom_piece style name))) more_tokens stop.follows.ends (inr stop.stops))) (stop.follows.closes 0 1200 (omega arith))) e n rest m
atom_placed false style name q e n rest vs m ends h = token_primary (quotes_atom style name) name (n + length (gap e (atom_piece style name))) rest ends (h refl)

atom_begins : (b : Bool) (style : Style) (name : List ℕ) (e : Option Edge) (n : ℕ) (rest : List Token) → begins_term (atom_lists b style name e n rest) ≡ true
atom_begins true style name e n rest = refl
atom_begins false style name e n rest = token_begins (quotes_atom style name) name (n + length (gap e (atom_piece style name))) rest

atom_starts : {ops : Table} (b : Bool) (style : Style) (name : List ℕ) (e : Option Edge) (n : ℕ) (rest : List Token) → (b ≡ false → follows (definitions ops name) ≡ false)
    → Starts ops e n (atom_lists b style name e n rest)
atom_starts {ops} true style name e n rest h =
    paren_starts ops e n (atom_piece style name ∷ mark (codes ")") ∷ []) (lexemes_of_name (quotes_atom style name) name ∷ mark_lexemes 41 ∷ []) rest
atom_starts false style name e n rest h = token_starts (quotes_atom style name) name (n + length (gap e (atom_piece style name))) rest (h refl)

choice : {X Y : Type 0} (a b c : Bool) → (a && (b && c)) ≡ false → ((a && b) ≡ false → X) → (c ≡ false → Y) → Y ⊎ X
choice true true c e f g = inl (g e)
choice true false c e f g = inr (f refl)
choice false b c e f g = inr (f refl)

last_no : (a b c : Bool) → (a && (b && c)) ≡ false → a ≡ true → b ≡ true → c ≡ false
last_no true true c e f g = e
last_no true false c e f g = absurd (true≢false (sym g))
last_no false b c e f g = absurd (true≢false (sym f))

pub atom_reads : {ops : Table} (style : Style) (name : List ℕ) → has_quotes style ≡ true → ((at : Place) → AllSpell (enclosed (is_atom_enclosed ops style at name) (atom_piece style name ∷ []))
    (enclosed_lexemes (is_atom_enclosed ops style at name) (lexemes_of_name (quotes_atom style name) name ∷ []))) → TermReads ops style (atom name)
unfolding is_atom_enclosed
atom_reads {ops} style name q spelled = record {
  level = λ at. 0;
  reach = λ at. 0;
  low = λ at. omega arith;
  under = λ at. omega arith;
  within = λ at. omega arith;
  left = λ n own h. omega arith;
  spelled = spelled;
  reads = λ at e n rest vs m high h stop.
      alone (atom_placed (is_atom_enclosed ops style at name) style name q e n rest vs m h.ends
      (λ k. choice (is_operand at) (has_operators style) (is_operator ops name) k stop
      (λ none_is. no_some (prefix_op ops name) (both_no (is_some (prefix_op ops name)) (is_some (infix_op ops name) || is_some (postfix_op ops name)) none_is).0)));
  begins = λ at e n rest. atom_begins (is_atom_enclosed ops style at name) style name e n rest;
  starts = λ at here o e n rest.
      atom_starts (is_atom_enclosed ops style at name) style name e n rest
      (λ k. (both_no (is_some (prefix_op ops name)) (is_some (infix_op ops name) || is_some (postfix_op ops name)) (last_no (is_operand at) (has_operators style) (is_operator ops name) k here o)).1);
}

-- ---- a compound at a place

compound_placed : {ops : Table} {style : Style} {f : List ℕ} {ts : Trees} {sh : Shape} (b : Bool) → FormReads ops style sh f ts → Fits sh → AllSpell (form ops style sh f ts) (form_lexemes ops style sh f ts)
    → (e : Option Edge) (n : ℕ) (rest : List Token) (vs : Numbering) (m : ℕ) → priority (seen b sh) ≤ m → Follows ops (reach (seen b sh)) rest
    → Grows ops m (laid e n (enclosed b (form ops style sh f ts)) (enclosed_lexemes b (form_lexemes ops style sh f ts)) rest) vs (priority (seen b sh)) (compound f (all_as_told ts vs)) rest (all_told ts vs)
compound_placed {ops} {style} {f} {ts} {sh} true r fit spelled e n rest vs m high h =
    let near : reach sh ≤ 1201 = let a = fit.near in let b = fit.low in omega (arith, a, b) in
    alone (in_paren (form ops style sh f ts) (form_lexemes ops style sh f ts) spelled
    (λ g k more_tokens stop. whole (r.reads g k more_tokens vs 1200 fit.low (less (reach sh) near stop.follows)) (stop.follows.closes (priority sh) 1200 (omega arith))) e n rest m)
compound_placed false r fit spelled e n rest vs m high h = r.reads e n rest vs m high h

compound_starts : {ops : Table} {style : Style} {f : List ℕ} {ts : Trees} {sh : Shape} (b : Bool) → FormReads ops style sh f ts → (e : Option Edge) (n : ℕ) (rest : List Token)
    → Starts ops e n (laid e n (enclosed b (form ops style sh f ts)) (enclosed_lexemes b (form_lexemes ops style sh f ts)) rest)
compound_starts {ops} {style} {f} {ts} {sh} true r e n rest = paren_starts ops e n (form ops style sh f ts ++ mark (codes ")") ∷ []) (form_lexemes ops style sh f ts ++ mark_lexemes 41 ∷ []) rest
compound_starts false r e n rest = r.starts e n rest

compound_begins : {ops : Table} {style : Style} {f : List ℕ} {ts : Trees} {sh : Shape} (b : Bool) → FormReads ops style sh f ts → (e : Option Edge) (n : ℕ) (rest : List Token)
    → begins_term (laid e n (enclosed b (form ops style sh f ts)) (enclosed_lexemes b (form_lexemes ops style sh f ts)) rest) ≡ true
compound_begins {ops} {style} {f} {ts} {sh} b r e n rest =
    operand-begins ops (laid e n (enclosed b (form ops style sh f ts)) (enclosed_lexemes b (form_lexemes ops style sh f ts)) rest) (compound_starts b r e n rest).operand

pub compound_reads : {ops : Table} {style : Style} (f : List ℕ) (ts : Trees) → Fits (shape_of ops style f (count ts)) → FormReads ops style (shape_of ops style f (count ts)) f ts
    → AllSpell (form ops style (shape_of ops style f (count ts)) f ts) (form_lexemes ops style (shape_of ops style f (count ts)) f ts)
    → ((at : Place) → AllSpell (enclosed (is_enclosed at (shape_of ops style f (count ts))) (form ops style (shape_of ops style f (count ts)) f ts))
    (enclosed_lexemes (is_enclosed at (shape_of ops style f (count ts))) (form_lexemes ops style (shape_of ops style f (count ts)) f ts)))
    → TermReads ops style (compound f ts)
compound_reads {ops} {style} f ts fit r inner spelled = record {
  level = λ at. priority (seen (is_enclosed at (shape_of ops style f (count ts))) (shape_of ops style f (count ts)));
  reach = λ at. reach (seen (is_enclosed at (shape_of ops style f (count ts))) (shape_of ops style f (count ts)));
  low = λ at. seen_low (is_enclosed at (shape_of ops style f (count ts))) (shape_of ops style f (count ts)) fit;
  under = λ at. seen_under at (shape_of ops style f (count ts)) (is_enclosed at (shape_of ops style f (count ts))) refl;
  within = λ at. seen_within at (shape_of ops style f (count ts)) (is_enclosed at (shape_of ops style f (count ts))) fit refl;
  left = λ n own h. seen_left n own (shape_of ops style f (count ts)) (is_enclosed (Left n own) (shape_of ops style f (count ts))) fit h refl;
  spelled = spelled;
  reads = λ at e n rest vs m high h stop. compound_placed (is_enclosed at (shape_of ops style f (count ts))) r fit inner e n rest vs m high h;
  begins = λ at e n rest. compound_begins (is_enclosed at (shape_of ops style f (count ts))) r e n rest;
  starts = λ at here o e n rest. compound_starts (is_enclosed at (shape_of ops style f (count ts))) r e n rest;
}
