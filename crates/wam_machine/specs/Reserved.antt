-- The procedures that neither a text nor a goal may define: control constructs and builtins (docs/LANGUAGE.md, "Programs").
use Rattle.std.specs.Prelude.{ℕ, List, [], ◌∷◌, ◌||◌, Bool, codes}
use Rattle.std.specs.List.{list_any}
use Rattle.prolog_terms.specs.declared.entry.Indicator.{Indicator}
use Rattle.journals.specs.Journal.{same_indicator}

-- names of one arity
abbrev pub Row : Type 0
Row = ℕ × List (List ℕ)

unfoldable pub control : List Row
control =
    (0, codes "!" ∷ codes "true" ∷ codes "fail" ∷ codes "repeat" ∷ codes "halt" ∷ [])
    ∷ (1, codes "\\+" ∷ codes "call" ∷ codes "once" ∷ codes "throw" ∷ codes "halt" ∷ [])
    ∷ (2, codes "," ∷ codes ";" ∷ codes "->" ∷ codes "call" ∷ [])
    ∷ (3, codes "call" ∷ codes "catch" ∷ codes "findall" ∷ [])
    ∷ (4, codes "call" ∷ []) ∷ (5, codes "call" ∷ []) ∷ (6, codes "call" ∷ []) ∷ (7, codes "call" ∷ []) ∷ (8, codes "call" ∷ [])
    ∷ []

unfoldable pub of_terms : List Row
of_terms =
    (1, codes "var" ∷ codes "nonvar" ∷ codes "atom" ∷ codes "integer" ∷ codes "number" ∷ [])
    ∷ (1, codes "atomic" ∷ codes "compound" ∷ codes "callable" ∷ [])
    ∷ (2, codes "=" ∷ codes "unify_with_occurs_check" ∷ codes "\\=" ∷ [])
    ∷ (2, codes "==" ∷ codes "\\==" ∷ codes "@<" ∷ codes "@=<" ∷ codes "@>" ∷ codes "@>=" ∷ [])
    ∷ (2, codes "=.." ∷ codes "copy_term" ∷ [])
    ∷ (3, codes "compare" ∷ codes "functor" ∷ codes "arg" ∷ [])
    ∷ []

unfoldable pub of_texts : List Row
of_texts =
    (0, codes "nl" ∷ [])
    ∷ (1, codes "write" ∷ codes "writeq" ∷ codes "write_canonical" ∷ codes "put_char" ∷ [])
    ∷ (2, codes "atom_length" ∷ codes "atom_codes" ∷ codes "atom_chars" ∷ codes "char_code" ∷ [])
    ∷ []

unfoldable pub of_numbers : List Row
of_numbers = (2, codes "is" ∷ codes "=:=" ∷ codes "=\\=" ∷ codes "<" ∷ codes "=<" ∷ codes ">" ∷ codes ">=" ∷ []) ∷ []

unfoldable pub of_clauses : List Row
of_clauses =
    (1, codes "asserta" ∷ codes "assertz" ∷ codes "retract" ∷ codes "retractall" ∷ codes "abolish" ∷ [])
    ∷ (2, codes "clause" ∷ [])
    ∷ []

abbrev pub named : ℕ → List ℕ → Indicator
named arity name = record { name = name; arity = arity }

-- the indicator stands in one of these rows
abbrev pub is_in : List Row → Indicator → Bool
is_in rows i = list_any (λ row. list_any (λ name. same_indicator i (named row.0 name)) row.1) rows

-- ---- heads that no clause may have

-- the indicator is that of a control construct or of a builtin
unfoldable pub is_reserved : Indicator → Bool
is_reserved i = is_in control i || (is_in of_terms i || (is_in of_texts i || (is_in of_numbers i || is_in of_clauses i)))
