-- What is shown of a term: how its tokens are read, at each place.
use Rattle.std.proofs.Common.{◌≡◌, ℕ, suc, ◌+◌, length, ◌≤◌, ◌<◌, List, ◌∷◌, true, false, Option, refl, sym, ◌∙◌, ap, arith}
use Rattle.std.specs.Prelude.{codes, ◌&&◌}
use Rattle.std.proofs.lemmas.Bool.{true≢false}
use Rattle.prolog_terms.specs.Tree.{Tree, Trees, atom, compound, none, more}
use Rattle.prolog_terms.specs.Operators.{Table}
use Rattle.prolog_lexer.specs.declared.token.Token.{Token}
use Rattle.prolog_lexer.specs.declared.token.TokenKind.TheVariants.{Punct}
use Rattle.prolog_lexer.specs.Tokens.{token_at}
use Rattle.prolog_reader.specs.Numberings.{Numbering}
use Rattle.prolog_reader.specs.Grammar.{takes_operand, is_punct}
use Rattle.prolog_reader.specs.Reads.{Reads, Sequence, list_of, last, further}
use Rattle.prolog_writer.specs.declared.kind.Edge.{Edge}
use Rattle.prolog_writer.specs.declared.style.Style.{Style}
use Rattle.prolog_writer.specs.declared.shape.Place.{Place}
use Rattle.prolog_writer.specs.declared.shape.Place.TheVariants.{Within, Operand, Left}
use Rattle.prolog_writer.specs.Shapes.{is_operand, has_operators}
use Rattle.prolog_writer.specs.Spaces.{gap, edge_of}
use Rattle.prolog_writer.specs.Pieces.{pieces, further_items, argument_place, mark}
use Rattle.prolog_writer.specs.Lexemes.{AllSpell}
use Rattle.prolog_writer.specs.Tokens.{lexemes, further_lexemes, mark_lexemes}
use Rattle.prolog_writer.specs.Told.{told, as_told}
use Rattle.prolog_writer.proofs.Behind.{Follows, Ends, less, closing}
use Rattle.prolog_writer.proofs.Grown.{Grows, whole}
use Rattle.prolog_writer.proofs.Laid.{laid}
use Rattle.prolog_writer.proofs.Starts.{Starts, begins_term}

-- the greatest priority at a place
abbrev pub most : Place → ℕ
most (Within n) = n
most (Operand n) = n
most (Left n own) = n

-- what stands in the brackets of a list: elements, or elements, a bar and a term
pub data Elements (ops : Table) : List Token → Numbering → Tree → List Token → Numbering → Type 0 where
  closed : {ts us : List Token} {vs ws : Numbering} {t : Tree} (items : Trees)
      → Sequence ops ts vs items us ws → list_of items (atom (codes "[]")) ≡ t → Elements ops ts vs t us ws
  barred : {q : ℕ} {ts us xs : List Token} {vs ws ys : Numbering} {t u : Tree} (items : Trees) (b : Token)
      → Sequence ops ts vs items (b ∷ us) ws → is_punct 124 b.kind ≡ true → Reads ops 999 us ws q u xs ys → list_of items u ≡ t → Elements ops ts vs t xs ys

-- what stands behind an element: nothing, a comma and elements, or a bar and a term
pub data Tail (ops : Table) : List Token → Numbering → Tree → List Token → Numbering → Type 0 where
  over : {ts : List Token} {vs : Numbering} {t : Tree} → t ≡ atom (codes "[]") → Tail ops ts vs t ts vs
  comma : {ts us : List Token} {vs ws : Numbering} {t : Tree} (c : Token) → Ends ops 1000 (c ∷ ts) → is_punct 44 c.kind ≡ true → Elements ops ts vs t us ws → Tail ops (c ∷ ts) vs t us ws
  bar : {q : ℕ} {ts us : List Token} {vs ws : Numbering} {t : Tree} (b : Token) → Ends ops 1000 (b ∷ ts) → is_punct 124 b.kind ≡ true → Reads ops 999 ts vs q t us ws → Tail ops (b ∷ ts) vs t us ws

abbrev cell : Tree → Tree → Tree
cell t u = compound (codes ".") (more t (more u none))

in_cell : {ops : Table} {q : ℕ} {t u : Tree} {ts xs rest : List Token} {vs ws ys : Numbering} (c : Token)
    → Reads ops 999 ts vs q t (c ∷ xs) ws → is_punct 44 c.kind ≡ true → Elements ops xs ws u rest ys → Elements ops ts vs (cell t u) rest ys
in_cell {t = t} c r p (closed items s e) = closed (more t items) (further c r p s) (ap (cell t) e)
in_cell {t = t} c r p (barred items b s h g e) = barred (more t items) b (further c r p s) h g (ap (cell t) e)

-- an element, and what stands behind it
pub element : {ops : Table} {q : ℕ} {t u : Tree} {ts xs rest : List Token} {vs ws ys : Numbering}
    → Reads ops 999 ts vs q t xs ws → Tail ops xs ws u rest ys → Elements ops ts vs (cell t u) rest ys
element {t = t} r (over e) = closed (more t none) (last r) (ap (cell t) (sym e))
element r (comma c n p s) = in_cell c r p s
element {t = t} r (bar b n p g) = barred (more t none) b (last r) p g refl

pub tail_ends : {ops : Table} {u : Tree} {xs rest : List Token} {ws ys : Numbering} → Tail ops xs ws u rest ys → Ends ops 1000 rest → Ends ops 1000 xs
tail_ends (over e) h = h
tail_ends (comma c n p s) h = n
tail_ends (bar b n p g) h = n

-- A term's text reads as the term, at each place. Its level there is the priority of what stands there, 0 in a parenthesis; below
-- its reach are the priorities that operands at its right end may have.
pub record TermReads (ops : Table) (style : Style) (t : Tree) : Type 0 where
  pub level : Place → ℕ
  pub reach : Place → ℕ
  pub low : (at : Place) → level at ≤ 1200
  pub under : (at : Place) → level at ≤ most at
  pub within : (at : Place) → reach at ≤ suc (most at)
  pub left : (n own : ℕ) → n ≤ own → reach (Left n own) ≤ own
  pub spelled : (at : Place) → AllSpell (pieces ops style at t) (lexemes ops style at t)
  pub reads : (at : Place) (e : Option Edge) (n : ℕ) (rest : List Token) (vs : Numbering) (m : ℕ)
      → level at ≤ m → Follows ops (reach at) rest → ((is_operand at && has_operators style) ≡ false → takes_operand ops rest ≡ false)
      → Grows ops m (laid e n (pieces ops style at t) (lexemes ops style at t) rest) vs (level at) (as_told t vs) rest (told t vs)
  pub begins : (at : Place) (e : Option Edge) (n : ℕ) (rest : List Token) → begins_term (laid e n (pieces ops style at t) (lexemes ops style at t) rest) ≡ true
  pub starts : (at : Place) → is_operand at ≡ true → has_operators style ≡ true → (e : Option Edge) (n : ℕ) (rest : List Token)
      → Starts ops e n (laid e n (pieces ops style at t) (lexemes ops style at t) rest)

-- what stands behind an element, where the term is the list behind it
abbrev pub TailReads : Table → Style → Tree → Type 0
TailReads ops style t = (e : Option Edge) (n : ℕ) (rest : List Token) (vs : Numbering) → Ends ops 1000 rest
    → Tail ops (laid e n (further_items ops style t) (further_lexemes ops style t) rest) vs (as_told t vs) rest (told t vs)

abbrev pub AllRead : Table → Style → Trees → Type 0
AllRead ops style none = Unit {0}
AllRead ops style (more t ts) = TermReads ops style t × TailReads ops style t × AllRead ops style ts

-- where it is no operand and what stands behind it ends it
pub one_term : {ops : Table} {style : Style} {t : Tree} (r : TermReads ops style t) (most m edge : ℕ) (e : Option Edge) (n : ℕ) (rest : List Token) (vs : Numbering)
    → r.level (Within most) ≤ m → m < edge → r.reach (Within most) ≤ edge → Ends ops edge rest
    → Reads ops m (laid e n (pieces ops style (Within most) t) (lexemes ops style (Within most) t) rest) vs (r.level (Within most)) (as_told t vs) rest (told t vs)
one_term {ops} r most m edge e n rest vs low high near h =
    whole (r.reads (Within most) e n rest vs m low (less (r.reach (Within most)) near h.follows) (λ k. h.stops)) (h.follows.closes (r.level (Within most)) m high)

pub argument : {ops : Table} {style : Style} {t : Tree} (r : TermReads ops style t) (e : Option Edge) (n : ℕ) (rest : List Token) (vs : Numbering) → Ends ops 1000 rest
    → Reads ops 999 (laid e n (pieces ops style argument_place t) (lexemes ops style argument_place t) rest) vs (r.level argument_place) (as_told t vs) rest (told t vs)
argument r e n rest vs h = one_term r 999 999 1000 e n rest vs (r.under argument_place) (omega arith) (r.within argument_place) h

-- an operand: what stands behind it goes on with no operand at its right end
pub operand : {ops : Table} {style : Style} {t : Tree} (r : TermReads ops style t) → has_operators style ≡ true → (most : ℕ) (e : Option Edge) (n : ℕ) (rest : List Token) (vs : Numbering)
    → Follows ops (suc most) rest
    → Reads ops most (laid e n (pieces ops style (Operand most) t) (lexemes ops style (Operand most) t) rest) vs (r.level (Operand most)) (as_told t vs) rest (told t vs)
operand r o most e n rest vs h =
    whole (r.reads (Operand most) e n rest vs most (r.under (Operand most)) (less (r.reach (Operand most)) (r.within (Operand most)) h) (λ k. absurd (true≢false (sym o ∙ k))))
    (h.closes (r.level (Operand most)) most (omega arith))

-- behind a bar
pub behind_bar : {ops : Table} {style : Style} {t : Tree} (r : TermReads ops style t) (e : Option Edge) (n : ℕ) (rest : List Token) (vs : Numbering) → Ends ops 1000 rest
    → Tail ops (laid e n (mark (codes "|") ∷ pieces ops style argument_place t) (mark_lexemes 124 ∷ lexemes ops style argument_place t) rest) vs (as_told t vs) rest (told t vs)
behind_bar {ops} {style} {t} r e n rest vs h =
    let b : Token = token_at (n + length (gap e (mark (codes "|")))) 1 1 (Punct 124) in
    let place : ℕ = n + length (gap e (mark (codes "|"))) + 1 in
    let f : Option Edge = edge_of (mark (codes "|")) in
    bar b (closing ops 1000 b (laid f place (pieces ops style argument_place t) (lexemes ops style argument_place t) rest) refl refl refl) refl (argument r f place rest vs h)
