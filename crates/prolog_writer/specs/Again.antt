-- A term that is written Quoted or Canonical and followed by ` .` is read again as the same term, under the same table, wherever
-- it stands in a text.
use Rattle.std.specs.Prelude.{◌≡◌, ℕ, ◌<◌, ◌≤◌, ◌+◌, ◌++◌, List, [], length, true, Some, None, codes}
use Rattle.prolog_terms.specs.Tree.{Tree, HasArities, HasWholes}
use Rattle.prolog_terms.specs.Substitutions.{numbered, variable_count}
use Rattle.prolog_terms.specs.declared.ops.Prefix.{Prefix}
use Rattle.prolog_terms.specs.declared.ops.Infix.{Infix}
use Rattle.prolog_terms.specs.declared.ops.Postfix.{Postfix}
use Rattle.prolog_terms.specs.Operators.{Table, definitions, prefix_op, infix_op, postfix_op, no_operator, IsTable}
use Rattle.prolog_lexer.specs.Pieces.{is_break}
use Rattle.prolog_lexer.specs.Streams.{Place, ahead, rest_of}
use Rattle.prolog_reader.specs.Texts.{a_term, read_of, tail}
use Rattle.prolog_writer.specs.declared.style.Style.{Style}
use Rattle.prolog_writer.specs.Spelling.{has_quotes}
use Rattle.prolog_writer.specs.Pieces.{written}

-- ---- the tables that declarations make

-- what each of them has: the comma as it is at first, no operators [] and {}, no priority of an operand above the operator's
-- own, no infix operator whose two operands may both have it, and no name that is both infix and postfix
pub record IsLawful (ops : Table) : Type 0 where
  pub comma : definitions ops (codes ",") ≡ record { as_prefix = None; as_infix = Some (record { left = 999; priority = 1000; right = 1000 }); as_postfix = None }
  pub brackets : definitions ops (codes "[]") ≡ no_operator
  pub braces : definitions ops (codes "{}") ≡ no_operator
  pub prefixes : (name : List ℕ) (p : Prefix) → prefix_op ops name ≡ Some p → (p.priority ≤ 1200) × (p.operand ≤ p.priority)
  pub infixes : (name : List ℕ) (i : Infix) → infix_op ops name ≡ Some i
      → (i.priority ≤ 1200) × (i.left ≤ i.priority) × (i.right ≤ i.priority) × (i.left ≡ i.priority → i.right < i.priority) × (postfix_op ops name ≡ None)
  pub postfixes : (name : List ℕ) (q : Postfix) → postfix_op ops name ≡ Some q → (q.priority ≤ 1200) × (q.operand ≤ q.priority)

-- ---- the law

-- the place so many bytes on, in the same line
abbrev pub moved : Place → ℕ → Place
moved p n = record { text = p.text; at = p.at + n; line = p.line }

-- At a place of a text the term is read, in the place's line, with its variables numbered by first occurrence; as their names
-- begin with _, none is shown. So many bytes are taken: what is ahead then is what is ahead behind them, whatever it is.
pub record IsReadAt (ops : Table) (t : Tree) (bytes : ℕ) (p : Place) : Type 0 where
  pub read : read_of ops (ahead p) ≡ a_term p.line (record { term = numbered t; shown = []; vars = variable_count t })
  pub rest : (tail (ahead p)).rest ≡ ahead (moved p bytes)

-- The bytes, with ` .` behind them, are read under a table as the term: at each place of a text, in any line, where they stand
-- with ` .` behind them, and behind that the end of the text, layout or %.
abbrev pub IsReadAs : Table → List ℕ → Tree → Type 0
IsReadAs ops bytes t = (p : Place) (later : List ℕ) → rest_of p ≡ bytes ++ (codes " ." ++ later) → is_break later ≡ true → IsReadAt ops t (length bytes + 2) p

-- what is written is read as the term
abbrev pub ReadsAgain : Table → Style → ℕ → Tree → Type 0
ReadsAgain ops style max t = IsReadAs ops (written ops style max t) t

abbrev pub IsReadAgain : Type 0
IsReadAgain = (ops : Table) (style : Style) (max : ℕ) (t : Tree) → IsTable ops → has_quotes style ≡ true → HasArities t → HasWholes t → ReadsAgain ops style max t
