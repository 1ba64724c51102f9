-- How many words a journal needs (docs/LANGUAGE.md, "The database").
use Rattle.std.specs.Prelude.{ℕ, ◌+◌, ◌/◌, length, filter, is_some}
use Rattle.std.specs.List.{sum_by}
use Rattle.prolog_terms.specs.Tree.{Tree}
use Rattle.prolog_terms.specs.Flat.{nodes}
use Rattle.prolog_terms.specs.declared.node.Node.{Node}
use Rattle.prolog_terms.specs.declared.node.Node.TheVariants.{Var, Int, Atom, Functor}
use Rattle.prolog_terms.specs.declared.entry.Clause.{Clause}
use Rattle.prolog_terms.specs.declared.entry.What.{What}
use Rattle.prolog_terms.specs.declared.entry.What.TheVariants.{Declare, Add, Erase}
use Rattle.call_patterns.specs.Keys.{keys}
use Rattle.journals.specs.Journal.{Journal}

-- eight bytes of a text to a word
abbrev pub text_words : ℕ → ℕ
text_words n = (n + 7) / 8

abbrev pub node_words : Node → ℕ
node_words (Var n) = 1
node_words (Int z) = 2
node_words (Atom a) = 1 + text_words (length a)
node_words (Functor f n) = 1 + text_words (length f)

abbrev pub term_words : Tree → ℕ
term_words t = sum_by node_words (nodes t)

-- two words, one for each key of the head, and the nodes of head and body
unfoldable pub clause_words : Clause → ℕ
clause_words c = 2 + length (filter is_some (keys c.head)) + term_words c.head + term_words c.body

-- the words that an entry needs
unfoldable pub need : What → ℕ
need (Declare i k) = 16 + text_words (length i.name)
need (Add e p c) = 4 + clause_words c
need (Erase k) = 0

unfoldable pub used : Journal → ℕ
used J = sum_by (λ e. need e.what) J
