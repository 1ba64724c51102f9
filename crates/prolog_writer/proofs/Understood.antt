-- The tokens of a term's text read as the term.
use Rattle.std.proofs.Common.{◌≡◌, ℕ, suc, ◌+◌, ◌-◌, ◌≤◌, ◌<◌, length, List, [], ◌∷◌, Bool, true, false, Option, None, refl, sym, ap, subst, arith}
use Rattle.std.specs.Prelude.{codes, pos, negsuc, ◌-ℤ◌, nat_le, if◌then◌else◌}
use Rattle.std.specs.Fmt.{decimal, signed_decimal}
use Rattle.std.proofs.lemmas.Bool.Decides.{nat_tests}
use Rattle.prolog_terms.specs.Tree.{Tree, Trees, variable, integer, atom, compound, none, more, count, HasArities, AllHaveArities, IsWhole, HasWholes, AllHaveWholes}
use Rattle.prolog_terms.specs.Operators.{Table}
use Rattle.prolog_lexer.specs.declared.token.Token.{Token}
use Rattle.prolog_lexer.specs.declared.token.TokenKind.TheVariants.{Name, Variable, Integer, Punct}
use Rattle.prolog_lexer.specs.Tokens.{token_at}
use Rattle.prolog_reader.specs.Numberings.{Numbering}
use Rattle.prolog_reader.specs.Grammar.{touches, negates}
use Rattle.prolog_reader.specs.Reads.{Reads, named, number, negative}
use Rattle.prolog_writer.specs.declared.kind.Edge.{Edge}
use Rattle.prolog_writer.specs.declared.style.Style.{Style}
use Rattle.prolog_writer.specs.declared.shape.Shape.{Shape}
use Rattle.prolog_writer.specs.declared.shape.Shape.TheVariants.{Cell, Braced, Prefixed, Infixed, Postfixed}
use Rattle.prolog_writer.specs.declared.shape.Place.TheVariants.{Within}
use Rattle.prolog_writer.specs.Spelling.{has_quotes, variable_text}
use Rattle.prolog_writer.specs.Spaces.{gap, edge_of}
use Rattle.prolog_writer.specs.Shapes.{is_cell, is_nil, shape_of}
use Rattle.prolog_writer.specs.Pieces.{pieces, items, mark, argument_place}
use Rattle.prolog_writer.specs.Again.{IsLawful}
use Rattle.prolog_writer.specs.Lexemes.{AllSpell, tokens_of}
use Rattle.prolog_writer.specs.Tokens.{mark_lexemes, lexemes, items_lexemes}
use Rattle.prolog_writer.specs.Told.{told, as_told, all_told, all_as_told}
use Rattle.prolog_writer.proofs.Spelled.{one_form, term_spelled, separated_spelled, joined_spelled, items_spelled}
use Rattle.prolog_writer.proofs.Behind.{and_no, Ends, comma}
use Rattle.prolog_writer.proofs.Behind as behind
use Rattle.prolog_writer.proofs.Tokened.{same}
use Rattle.prolog_writer.proofs.Grown.{Grows, alone}
use Rattle.prolog_writer.proofs.Laid.{laid, laid_lined}
use Rattle.prolog_writer.proofs.Lined.{reads_lined}
use Rattle.prolog_writer.proofs.Starts.{plain_starts, digits_starts, negative_starts, same_number}
use Rattle.prolog_writer.proofs.Fitting.{Formed, cell, braced, prefixed, infixed, postfixed, call, formed, fits, cell_is}
use Rattle.prolog_writer.proofs.Facts.{Tail, over, TermReads, TailReads, AllRead, one_term, behind_bar}
use Rattle.prolog_writer.proofs.Facts as facts
use Rattle.prolog_writer.proofs.Forms.{FormReads, call_form, prefixed_form, infixed_form, postfixed_form, braced_form, cell_form, elements}
use Rattle.prolog_writer.proofs.Placed.{atom_reads, compound_reads}

-- ---- variables and integers

variable_reads : {ops : Table} {style : Style} (v : ℕ) → has_quotes style ≡ true → HasWholes (variable v) → TermReads ops style (variable v)
variable_reads {ops} {style} v q h = record {
  level = λ at. 0;
  reach = λ at. 0;
  low = λ at. omega arith;
  under = λ at. omega arith;
  within = λ at. omega arith;
  left = λ n own few. omega arith;
  spelled = λ at. term_spelled ops style at (variable v) q h;
  reads = λ at e n rest vs m high f stop. alone (named (a e n) (variable_text v) refl);
  begins = λ at e n rest. refl;
  starts = λ at here o e n rest. plain_starts (a e n ∷ rest) refl refl;
}
  where
    a : Option Edge → ℕ → Token
    a e n = token_at (n + length (gap e (mark (variable_text v)))) 1 (length (variable_text v)) (Variable (variable_text v))

positive_reads : {ops : Table} {style : Style} (k : ℕ) → has_quotes style ≡ true → IsWhole (pos k) → TermReads ops style (integer (pos k))
positive_reads {ops} {style} k q h = record {
  level = λ at. 0;
  reach = λ at. 0;
  low = λ at. omega arith;
  under = λ at. omega arith;
  within = λ at. omega arith;
  left = λ n own few. omega arith;
  spelled = λ at. term_spelled ops style at (integer (pos k)) q h;
  reads = λ at e n rest vs m high f stop. alone (number (a e n) k refl h);
  begins = λ at e n rest. refl;
  starts = λ at here o e n rest. digits_starts ops e n k rest (omega (arith, h));
}
  where
    a : Option Edge → ℕ → Token
    a e n = token_at (n + length (gap e (mark (decimal k)))) 1 (length (decimal k)) (Integer k)

minus_of : (k : ℕ) → pos 0 -ℤ pos (suc k) ≡ negsuc k
minus_of k =
    let e : nat_le 1 (suc k) ≡ true = grind (arith, nat_tests) in
    let n : suc k - 1 ≡ k = omega arith in
    rw e (ap negsuc n)

negative_reads : {ops : Table} {style : Style} (k : ℕ) → has_quotes style ≡ true → IsWhole (negsuc k) → TermReads ops style (integer (negsuc k))
negative_reads {ops} {style} k q h = record {
  level = λ at. 0;
  reach = λ at. 0;
  low = λ at. omega arith;
  under = λ at. omega arith;
  within = λ at. omega arith;
  left = λ n own few. omega arith;
  spelled = λ at. term_spelled ops style at (integer (negsuc k)) q h;
  reads = λ at e n rest vs m high f stop.
      subst (λ z. Grows ops m (a e n ∷ b e n ∷ rest) vs 0 (integer z) rest vs) (minus_of k) (alone (negative (a e n) (b e n) (codes "-") refl (and_no (touches (a e n) (b e n)) false refl) (signs e n rest) (omega (arith, h))));
  begins = λ at e n rest. refl;
  starts = λ at here o e n rest. negative_starts ops e n (suc k) (signed_decimal (negsuc k)) rest;
}
  where
    at_place : Option Edge → ℕ → ℕ
    at_place e n = n + length (gap e (mark (signed_decimal (negsuc k))))

    a : Option Edge → ℕ → Token
    a e n = token_at (at_place e n) 1 1 (Name (codes "-"))

    b : Option Edge → ℕ → Token
    b e n = token_at (at_place e n + 1) 1 (length (decimal (suc k))) (Integer (suc k))

    signs : (e : Option Edge) (n : ℕ) (rest : List Token) → negates (a e n) (b e n ∷ rest) ≡ true
    signs e n rest = let t = same_number (at_place e n + 1) (at_place e n + 1) refl in rw t refl

-- ---- compounds

cell_of : {ops : Table} {style : Style} (f : List ℕ) (ts : Trees) → f ≡ codes "." → count ts ≡ 2 → AllRead ops style ts → AllSpell (items ops style ts) (items_lexemes ops style ts) → FormReads ops style Cell f ts
cell_of f none e n all h = absurd (omega (arith, n))
cell_of f (more t none) e n all h = absurd (omega (arith, n))
cell_of {ops} {style} f (more t (more u none)) e n all h = cell_form style f e t u all.0 all.2.1 h
cell_of f (more t (more u (more w ws))) e n all h = absurd (omega (arith, n))

braced_of : {ops : Table} {style : Style} (f : List ℕ) (ts : Trees) → f ≡ codes "{}" → count ts ≡ 1 → AllRead ops style ts → FormReads ops style Braced f ts
braced_of f none e n all = absurd (omega (arith, n))
braced_of {ops} {style} f (more t none) e n all = braced_form style f e t all.0
braced_of f (more t (more u us)) e n all = absurd (omega (arith, n))

form_reads : {ops : Table} → IsLawful ops → (style : Style) (f : List ℕ) (ts : Trees) (sh : Shape) → has_quotes style ≡ true → Formed ops style f (count ts) sh → 1 ≤ count ts → count ts ≤ 255
    → AllHaveWholes ts → AllRead ops style ts → FormReads ops style sh f ts
form_reads {ops} law style f ts sh q (cell e n) some few wholes all = cell_of f ts e n all (items_spelled ops style ts q wholes)
form_reads law style f ts sh q (braced e n) some few wholes all = braced_of f ts e n all
form_reads {ops} law style f ts sh q (prefixed p o e n) some few wholes all = by ts n all
  where
    by : (us : Trees) → count us ≡ 1 → AllRead ops style us → FormReads ops style (Prefixed p) f us
    by none n all = absurd (omega (arith, n))
    by (more t none) n all = prefixed_form law style f p q o e t all.0
    by (more t (more u us)) n all = absurd (omega (arith, n))
form_reads {ops} law style f ts sh q (infixed i o e n) some few wholes all = by ts n all
  where
    by : (us : Trees) → count us ≡ 2 → AllRead ops style us → FormReads ops style (Infixed i) f us
    by none n all = absurd (omega (arith, n))
    by (more t none) n all = absurd (omega (arith, n))
    by (more t (more u none)) n all = infixed_form law style f i o e t u all.0 all.2.0
    by (more t (more u (more w ws))) n all = absurd (omega (arith, n))
form_reads {ops} law style f ts sh q (postfixed p o e n) some few wholes all = by ts n all
  where
    by : (us : Trees) → count us ≡ 1 → AllRead ops style us → FormReads ops style (Postfixed p) f us
    by none n all = absurd (omega (arith, n))
    by (more t none) n all = postfixed_form law style f p o e t all.0
    by (more t (more u us)) n all = absurd (omega (arith, n))
form_reads law style f ts sh q call some few wholes all = call_form law style f ts q some few wholes all

compound_known : {ops : Table} → IsLawful ops → (style : Style) (f : List ℕ) (ts : Trees) → has_quotes style ≡ true → HasArities (compound f ts) → AllHaveWholes ts → AllRead ops style ts
    → TermReads ops style (compound f ts)
compound_known {ops} law style f ts q a h all =
    compound_reads f ts (fits law (formed ops style f (count ts))) (form_reads law style f ts (shape_of ops style f (count ts)) q (formed ops style f (count ts)) a.0 a.1 h all)
    (one_form ops style (shape_of ops style f (count ts)) f ts q
    (record { alone = λ place. separated_spelled ops style place ts q h; operands = λ left right p xs g. joined_spelled ops style left right p xs ts q g h; elements = items_spelled ops style ts q h }))
    (λ at. term_spelled ops style at (compound f ts) q h)

-- ---- behind an element

nil_tail : {ops : Table} {style : Style} (name : List ℕ) → TermReads ops style (atom name) → TailReads ops style (atom name)
nil_tail {ops} {style} name r e n rest vs h = by (is_nil name) refl
  where
    by : (b : Bool) → is_nil name ≡ b
        → Tail ops (laid e n (if b then [] else mark (codes "|") ∷ pieces ops style argument_place (atom name)) (if b then [] else mark_lexemes 124 ∷ lexemes ops style argument_place (atom name)) rest) vs (atom name) rest vs
    by true k = over (ap atom (same name (codes "[]") k))
    by false k = behind_bar r e n rest vs h

cell_tail : {ops : Table} → IsLawful ops → (style : Style) (f : List ℕ) (ts : Trees) → f ≡ codes "." → count ts ≡ 2 → AllRead ops style ts → (e : Option Edge) (n : ℕ) (rest : List Token) (vs : Numbering) → Ends ops 1000 rest
    → Tail ops (laid e n (mark (codes ",") ∷ items ops style ts) (mark_lexemes 44 ∷ items_lexemes ops style ts) rest) vs (compound f (all_as_told ts vs)) rest (all_told ts vs)
cell_tail law style f none e n all g k rest vs h = absurd (omega (arith, n))
cell_tail law style f (more t none) e n all g k rest vs h = absurd (omega (arith, n))
cell_tail {ops} law style f (more t (more u none)) e n all g k rest vs h =
    let at : ℕ = k + length (gap g (mark (codes ","))) in
    let edge : Option Edge = edge_of (mark (codes ",")) in
    let c : Token = token_at at 1 1 (Punct 44) in
    let inner : List Token = laid edge (at + 1) (items ops style (more t (more u none))) (items_lexemes ops style (more t (more u none))) rest in
    subst (λ x. Tail ops (c ∷ inner) vs (compound x (more (as_told t vs) (more (as_told u (told t vs)) none))) rest (told u (told t vs))) (sym e)
    (facts.comma c (comma law c inner refl) refl (elements style t u all.0 all.2.1 edge (at + 1) rest vs h))
cell_tail law style f (more t (more u (more w ws))) e n all g k rest vs h = absurd (omega (arith, n))

compound_tail : {ops : Table} → IsLawful ops → (style : Style) (f : List ℕ) (ts : Trees) → AllRead ops style ts → TermReads ops style (compound f ts) → TailReads ops style (compound f ts)
compound_tail {ops} law style f ts all r e n rest vs h = by (is_cell f (count ts)) refl
  where
    by : (b : Bool) → is_cell f (count ts) ≡ b
        → Tail ops
        (laid e n (if b then mark (codes ",") ∷ items ops style ts else mark (codes "|") ∷ pieces ops style argument_place (compound f ts))
        (if b then mark_lexemes 44 ∷ items_lexemes ops style ts else mark_lexemes 124 ∷ lexemes ops style argument_place (compound f ts)) rest) vs (compound f (all_as_told ts vs)) rest (all_told ts vs)
    by true k = let c = cell_is f (count ts) k in cell_tail law style f ts c.0 c.1 all e n rest vs h
    by false k = behind_bar r e n rest vs h

-- ---- all terms

mutual
  term_known : {ops : Table} → IsLawful ops → (style : Style) (t : Tree) → has_quotes style ≡ true → HasArities t → HasWholes t → TermReads ops style t
  term_known law style (variable v) q a h = variable_reads v q h
  term_known law style (integer (pos k)) q a h = positive_reads k q h
  term_known law style (integer (negsuc k)) q a h = negative_reads k q h
  term_known {ops} law style (atom name) q a h = atom_reads style name q (λ at. term_spelled ops style at (atom name) q h)
  term_known law style (compound f ts) q a h = compound_known law style f ts q a h (all_known law style ts q a.2 h)

  tail_known : {ops : Table} → IsLawful ops → (style : Style) (t : Tree) → has_quotes style ≡ true → HasArities t → HasWholes t → TailReads ops style t
  tail_known law style (variable v) q a h = λ e n rest vs k. behind_bar (variable_reads v q h) e n rest vs k
  tail_known law style (integer (pos i)) q a h = λ e n rest vs k. behind_bar (positive_reads i q h) e n rest vs k
  tail_known law style (integer (negsuc i)) q a h = λ e n rest vs k. behind_bar (negative_reads i q h) e n rest vs k
  tail_known {ops} law style (atom name) q a h = nil_tail name (atom_reads style name q (λ at. term_spelled ops style at (atom name) q h))
  tail_known law style (compound f ts) q a h =
      compound_tail law style f ts (all_known law style ts q a.2 h) (compound_known law style f ts q a h (all_known law style ts q a.2 h))

  all_known : {ops : Table} → IsLawful ops → (style : Style) (ts : Trees) → has_quotes style ≡ true → AllHaveArities ts → AllHaveWholes ts → AllRead ops style ts
  all_known law style none q a h = tt
  all_known law style (more t ts) q a h = (term_known law style t q a.0 h.0, tail_known law style t q a.0 h.0, all_known law style ts q a.1 h.1)

pub term_read : (ops : Table) (style : Style) (max : ℕ) (t : Tree) (vs : Numbering) → IsLawful ops → has_quotes style ≡ true → HasArities t → HasWholes t → (at line : ℕ)
    → (q : ℕ) × Reads ops 1200 (tokens_of line None at (pieces ops style (Within max) t) (lexemes ops style (Within max) t) []) vs q (as_told t vs) [] (told t vs)
term_read ops style max t vs law q a h at line =
    let r = term_known law style t q a h in
    let near : r.reach (Within max) ≤ 1201 + r.reach (Within max) = omega arith in
    let high : 1200 < 1201 + r.reach (Within max) = omega arith in
    let k = reads_lined line (one_term r max 1200 (1201 + r.reach (Within max)) None at [] vs (r.low (Within max)) high near (behind.at_end ops (1201 + r.reach (Within max)))) in
    (r.level (Within max), subst (λ (l : List Token). Reads ops 1200 l vs (r.level (Within max)) (as_told t vs) [] (told t vs)) (laid_lined line None at (term_spelled ops style (Within max) t q h)) k)
