-- The pieces of a term are spelled as the tokens of each.
use Rattle.std.proofs.Common.{◌≡◌, ℕ, ℤ, suc, List, [], ◌∷◌, ◌++◌, Bool, true, false, refl, sym, subst, arith}
use Rattle.std.specs.Prelude.{codes, pos, negsuc, ◌&&◌, ◌||◌, not, if◌then◌else◌}
use Rattle.std.specs.Fmt.{signed_decimal}
use Rattle.std.specs.Cmp.Lexicographic.{bytes_decides}
use Rattle.std.proofs.lemmas.Bool.{true≢false}
use Rattle.prolog_terms.specs.Tree.{Tree, Trees, variable, integer, atom, compound, none, more, count, IsWhole, HasWholes, AllHaveWholes}
use Rattle.prolog_terms.specs.Operators.{Table}
use Rattle.prolog_writer.specs.declared.kind.Kind.TheVariants.{Paren}
use Rattle.prolog_writer.specs.declared.style.Style.{Style}
use Rattle.prolog_writer.specs.declared.shape.Shape.{Shape}
use Rattle.prolog_writer.specs.declared.shape.Shape.TheVariants.{Cell, Braced, Prefixed, Infixed, Postfixed, Call}
use Rattle.prolog_writer.specs.declared.shape.Place.{Place}
use Rattle.prolog_writer.specs.declared.shape.Place.TheVariants.{Operand, Left}
use Rattle.prolog_writer.specs.Spelling.{same_text, has_quotes, stands_alone, is_brackets, quotes_atom, quotes_functor, quotes_operator, name_text, variable_text}
use Rattle.prolog_writer.specs.Spaces.{Piece, piece}
use Rattle.prolog_writer.specs.Shapes.{shape_of, is_enclosed, is_atom_enclosed, is_cell, is_nil}
use Rattle.prolog_writer.specs.Pieces.{pieces, separated, joined, items, further_items, shaped, enclosed, mark, atom_piece, atom_pieces, operator_piece, prefix_piece, functor_piece, argument_place, braces_place}
use Rattle.prolog_writer.specs.Lexemes.{Lexeme, Spells, mark as one_mark, AllSpell, nothing, further, lexemes_of_name, IsPunctuation}
use Rattle.prolog_writer.specs.Tokens.{mark_lexemes, enclosed_lexemes, integer_lexemes, variable_lexemes, operator_lexemes, functor_lexemes, atom_lexemes, shaped_lexemes, lexemes, separated_lexemes, joined_lexemes, items_lexemes, further_lexemes}
use Rattle.prolog_writer.proofs.Bytes.{mark_open, mark_close, mark_left, mark_right, mark_paren, mark_unparen, mark_comma, mark_bar}
use Rattle.prolog_writer.proofs.Names.{name_spelled, number_spelled, negative_spelled, variable_spelled}

-- ---- lists of pieces

both : {ps qs : List Piece} {xss yss : List (List Lexeme)} → AllSpell ps xss → AllSpell qs yss → AllSpell (ps ++ qs) (xss ++ yss)
both nothing g = g
both (further p xs h hs) g = further p xs h (both hs g)

marked : (b : ℕ) → IsPunctuation b → {ps : List Piece} {xss : List (List Lexeme)} → AllSpell ps xss → AllSpell (mark (b ∷ []) ∷ ps) (mark_lexemes b ∷ xss)
marked b c h = further (mark (b ∷ [])) (mark_lexemes b) (one_mark b c) h

in_parenthesis : (b : Bool) {ps : List Piece} {xss : List (List Lexeme)} → AllSpell ps xss → AllSpell (enclosed b ps) (enclosed_lexemes b xss)
in_parenthesis true h = further (piece Paren (codes "(")) (mark_lexemes 40) (one_mark 40 mark_paren) (both h (marked 41 mark_unparen nothing))
in_parenthesis false h = h

-- ---- names

alone_if : (a b : Bool) → a ≡ true → (a && not b) ≡ false → b ≡ true
alone_if true true e h = refl
alone_if true false e h = absurd (true≢false h)
alone_if false b e h = absurd (true≢false (sym e))

alone_or : (a b c : Bool) → a ≡ true → (a && (b || not c)) ≡ false → c ≡ true
alone_or true true c e h = absurd (true≢false h)
alone_or true false true e h = refl
alone_or true false false e h = absurd (true≢false h)
alone_or false b c e h = absurd (true≢false (sym e))

pub atom_spelled : (s : Style) (name : List ℕ) → has_quotes s ≡ true → Spells (name_text (quotes_atom s name) name) (lexemes_of_name (quotes_atom s name) name)
atom_spelled s name q = name_spelled (quotes_atom s name) name (alone_if (has_quotes s) (stands_alone name) q)

pub functor_spelled : (s : Style) (name : List ℕ) → has_quotes s ≡ true → Spells (name_text (quotes_functor s name) name) (functor_lexemes s name)
functor_spelled s name q = name_spelled (quotes_functor s name) name (alone_or (has_quotes s) (is_brackets name) (stands_alone name) q)

comma_text : name_text false (codes ",") ≡ codes ","
unfolding name_text
comma_text = refl

operator_by : (s : Style) (name : List ℕ) (b : Bool) → has_quotes s ≡ true → same_text name (codes ",") ≡ b
    → Spells (name_text (not b && quotes_atom s name) name) (if b then mark_lexemes 44 else lexemes_of_name (not b && quotes_atom s name) name)
operator_by s name true q e =
    let n : codes "," ≡ name = sym ((bytes_decides name (codes ",")).0 e) in
    subst (λ k. Spells (name_text false k) (mark_lexemes 44)) n (subst (λ k. Spells k (mark_lexemes 44)) (sym comma_text) (one_mark 44 mark_comma))
operator_by s name false q e = atom_spelled s name q

pub operator_spelled : (s : Style) (name : List ℕ) → has_quotes s ≡ true → Spells (name_text (quotes_operator s name) name) (operator_lexemes s name)
operator_spelled s name q = rw_operator s name (same_text name (codes ",")) refl (operator_by s name (same_text name (codes ",")) q refl)
  where
    rw_operator : (s : Style) (name : List ℕ) (b : Bool) → same_text name (codes ",") ≡ b
        → Spells (name_text (not b && quotes_atom s name) name) (if b then mark_lexemes 44 else lexemes_of_name (not b && quotes_atom s name) name)
        → Spells (name_text (not (same_text name (codes ",")) && quotes_atom s name) name)
        (if same_text name (codes ",") then mark_lexemes 44 else lexemes_of_name (not (same_text name (codes ",")) && quotes_atom s name) name)
    rw_operator s name b e h = rw e h

integer_spelled : (z : ℤ) → IsWhole z → Spells (signed_decimal z) (integer_lexemes z)
integer_spelled (pos n) h = number_spelled n (omega arith)
integer_spelled (negsuc n) h = negative_spelled (suc n) (omega arith)

-- ---- terms

one_atom : (o : Table) (s : Style) (at : Place) (name : List ℕ) → has_quotes s ≡ true → AllSpell (atom_pieces o s at name) (atom_lexemes o s at name)
one_atom o s at name q = in_parenthesis (is_atom_enclosed o s at name) (further (atom_piece s name) (lexemes_of_name (quotes_atom s name) name) (atom_spelled s name q) nothing)

-- what arguments give is spelled, in each of the three ways
pub record Arguments (o : Table) (s : Style) (ts : Trees) : Type 0 where
  pub alone : (at : Place) → AllSpell (separated o s at ts) (separated_lexemes o s at ts)
  pub operands : (left right : Place) (p : Piece) (xs : List Lexeme) → Spells p.text xs → AllSpell (joined o s left p right ts) (joined_lexemes o s left xs right ts)
  pub elements : AllSpell (items o s ts) (items_lexemes o s ts)

abbrev pub form : Table → Style → Shape → List ℕ → Trees → List Piece
form o s sh f ts = shaped s sh f (λ place. separated o s place ts) (λ left g right. joined o s left g right ts) (items o s ts)

abbrev pub form_lexemes : Table → Style → Shape → List ℕ → Trees → List (List Lexeme)
form_lexemes o s sh f ts = shaped_lexemes s sh f (λ place. separated_lexemes o s place ts) (λ left g right. joined_lexemes o s left g right ts) (items_lexemes o s ts)

pub one_form : (o : Table) (s : Style) (sh : Shape) (f : List ℕ) (ts : Trees) → has_quotes s ≡ true → Arguments o s ts → AllSpell (form o s sh f ts) (form_lexemes o s sh f ts)
one_form o s Cell f ts q h = marked 91 mark_open (both h.elements (marked 93 mark_close nothing))
one_form o s Braced f ts q h = marked 123 mark_left (both (h.alone braces_place) (marked 125 mark_right nothing))
one_form o s (Prefixed p) f ts q h = further (prefix_piece s f) (operator_lexemes s f) (operator_spelled s f q) (h.alone (Operand p.operand))
one_form o s (Infixed i) f ts q h = h.operands (Left i.left i.priority) (Operand i.right) (operator_piece s f) (operator_lexemes s f) (operator_spelled s f q)
one_form o s (Postfixed p) f ts q h = both (h.alone (Left p.operand p.priority)) (further (operator_piece s f) (operator_lexemes s f) (operator_spelled s f q) nothing)
one_form o s Call f ts q h = further (functor_piece s f) (functor_lexemes s f) (functor_spelled s f q) (marked 40 mark_paren (both (h.alone argument_place) (marked 41 mark_unparen nothing)))

further_by : (b : Bool) {ps qs : List Piece} {xss yss : List (List Lexeme)} → AllSpell ps xss → AllSpell qs yss
    → AllSpell (if b then ps else qs) (if b then xss else yss)
further_by true h g = h
further_by false h g = g

mutual
  pub term_spelled : (o : Table) (s : Style) (at : Place) (t : Tree) → has_quotes s ≡ true → HasWholes t → AllSpell (pieces o s at t) (lexemes o s at t)
  term_spelled o s at (variable n) q h = further (mark (variable_text n)) (variable_lexemes n) (variable_spelled n h) nothing
  term_spelled o s at (integer z) q h = further (mark (signed_decimal z)) (integer_lexemes z) (integer_spelled z h) nothing
  term_spelled o s at (atom name) q h = one_atom o s at name q
  term_spelled o s at (compound f ts) q h =
      in_parenthesis (is_enclosed at (shape_of o s f (count ts))) (one_form o s (shape_of o s f (count ts)) f ts q
      (record { alone = λ place. separated_spelled o s place ts q h; operands = λ left right p xs g. joined_spelled o s left right p xs ts q g h; elements = items_spelled o s ts q h }))

  pub separated_spelled : (o : Table) (s : Style) (at : Place) (ts : Trees) → has_quotes s ≡ true → AllHaveWholes ts → AllSpell (separated o s at ts) (separated_lexemes o s at ts)
  separated_spelled o s at none q h = nothing
  separated_spelled o s at (more t none) q h = term_spelled o s at t q h.0
  separated_spelled o s at (more t (more u us)) q h = both (term_spelled o s at t q h.0) (marked 44 mark_comma (separated_spelled o s at (more u us) q h.1))

  pub joined_spelled : (o : Table) (s : Style) (left right : Place) (p : Piece) (xs : List Lexeme) (ts : Trees) → has_quotes s ≡ true → Spells p.text xs → AllHaveWholes ts
      → AllSpell (joined o s left p right ts) (joined_lexemes o s left xs right ts)
  joined_spelled o s left right p xs none q g h = nothing
  joined_spelled o s left right p xs (more t none) q g h = term_spelled o s left t q h.0
  joined_spelled o s left right p xs (more t (more u us)) q g h = both (term_spelled o s left t q h.0) (further p xs g (term_spelled o s right u q h.1.0))

  pub items_spelled : (o : Table) (s : Style) (ts : Trees) → has_quotes s ≡ true → AllHaveWholes ts → AllSpell (items o s ts) (items_lexemes o s ts)
  items_spelled o s none q h = nothing
  items_spelled o s (more t none) q h = term_spelled o s argument_place t q h.0
  items_spelled o s (more t (more u us)) q h = both (term_spelled o s argument_place t q h.0) (further_spelled o s u q h.1.0)

  pub further_spelled : (o : Table) (s : Style) (t : Tree) → has_quotes s ≡ true → HasWholes t → AllSpell (further_items o s t) (further_lexemes o s t)
  further_spelled o s (variable n) q h = marked 124 mark_bar (further (mark (variable_text n)) (variable_lexemes n) (variable_spelled n h) nothing)
  further_spelled o s (integer z) q h = marked 124 mark_bar (further (mark (signed_decimal z)) (integer_lexemes z) (integer_spelled z h) nothing)
  further_spelled o s (atom name) q h = further_by (is_nil name) nothing (marked 124 mark_bar (one_atom o s argument_place name q))
  further_spelled o s (compound f ts) q h =
      further_by (is_cell f (count ts)) (marked 44 mark_comma (items_spelled o s ts q h))
      (marked 124 mark_bar (in_parenthesis (is_enclosed argument_place (shape_of o s f (count ts))) (one_form o s (shape_of o s f (count ts)) f ts q
      (record { alone = λ place. separated_spelled o s place ts q h; operands = λ left right p xs g. joined_spelled o s left right p xs ts q g h; elements = items_spelled o s ts q h }))))
