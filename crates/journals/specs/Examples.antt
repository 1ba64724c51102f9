-- A journal, worked by hand.
use Rattle.std.specs.Prelude.{◌≡◌, ℕ, List, [], ◌∷◌, ◌++◌, Some, None, codes}
use Rattle.prolog_terms.specs.Tree.{Tree, variable, atom, compound, none, more}
use Rattle.prolog_terms.specs.declared.entry.Clause.{Clause}
use Rattle.prolog_terms.specs.declared.entry.Entry.{Entry}
use Rattle.prolog_terms.specs.declared.entry.Indicator.{Indicator}
use Rattle.prolog_terms.specs.declared.entry.Kind.TheVariants.{Static, Dynamic}
use Rattle.prolog_terms.specs.declared.entry.End.TheVariants.{Front, Back}
use Rattle.prolog_terms.specs.declared.entry.What.{What}
use Rattle.prolog_terms.specs.declared.entry.What.TheVariants.{Declare, Add, Erase}
use Rattle.journals.specs.Journal.{Journal, alive, chain, number_of, procedure_named}
use Rattle.journals.specs.Updates.{first_of, last_of, updates_of}

abbrev pub p : Tree → Tree
p t = compound (codes "p") (more t none)

abbrev pub fact : Tree → Clause
fact t = record { head = t; body = atom (codes "true"); vars = 0 }

abbrev pub name : ℕ → List ℕ → Indicator
name n text = record { name = text; arity = n }

abbrev by : What → Entry
by w = record { by = 1; what = w }

-- p(a) behind, p(b) in front, p(X) in front, q(a) behind, p(c) behind; p(b) is erased
abbrev pub journal : Journal
journal =
    by (Declare (name 1 (codes "p")) Dynamic)
    ∷ by (Add Back 0 (fact (p (atom (codes "a")))))
    ∷ by (Add Front 0 (fact (p (atom (codes "b")))))
    ∷ by (Add Front 0 (record { head = p (variable 0); body = atom (codes "true"); vars = 1 }))
    ∷ by (Declare (name 1 (codes "q")) Static)
    ∷ by (Add Back 1 (fact (compound (codes "q") (more (atom (codes "a")) none))))
    ∷ by (Add Back 0 (fact (p (atom (codes "c")))))
    ∷ by (Erase 2)
    ∷ []

-- and then both ends of the chain of p are erased
abbrev end_erased : Journal
end_erased = journal ++ by (Erase 3) ∷ by (Erase 6) ∷ []

pub record HasRows : Type 0 where
  -- additions at the front come newest first, then those at the back
  pub chained : chain journal 0 ≡ 3 ∷ 2 ∷ 1 ∷ 6 ∷ []
  pub living : alive journal 0 ≡ 3 ∷ 1 ∷ 6 ∷ []
  -- four additions to p and one erasure
  pub updated : updates_of journal 0 ≡ 5
  pub first : first_of journal 0 ≡ Some 3
  pub last : last_of journal 0 ≡ Some 6
  -- one addition to q; the erasure is of p's
  pub updated_other : updates_of journal 1 ≡ 1
  -- an erased clause stays an end of the chain
  pub first_erased : first_of end_erased 0 ≡ Some 3
  pub last_erased : last_of end_erased 0 ≡ Some 6
  pub updated_twice : updates_of end_erased 0 ≡ 7
  pub second : procedure_named journal (name 1 (codes "q")) ≡ Some (1, Static)
  pub other_arity : number_of journal (name 2 (codes "q")) ≡ None
