-- A term that was found.
use Rattle.std.proofs.Common.{◌≡◌, List, Ok, refl, sym, ap, subst, ◌∙◌}
use Rattle.prolog_terms.specs.Tree.{Tree, Trees, none, more}
use Rattle.prolog_terms.specs.Flat.{front}
use Rattle.prolog_terms.specs.Operators.{Table}
use Rattle.prolog_lexer.specs.declared.token.Token.{Token}
use Rattle.prolog_reader.specs.Numberings.{Numbering}
use Rattle.prolog_reader.specs.Grammar.{read}
use Rattle.prolog_reader.specs.Orders.{IsOneTerm}
use Rattle.prolog_reader.specs.Texts.{Reading, ReadsAs, HasItsVariables, reading_of}
use Rattle.prolog_reader.proofs.Complete.{read_has}
use Rattle.prolog_reader.proofs.Facts.{has_its_variables, one_term}

module _ (ops : Table) (ts : List Token) (terms : Trees) (vs : Numbering) (e : read ops ts ≡ Ok (record { terms = terms; variables = vs })) where
  pub found_one : IsOneTerm terms
  found_one =
      let d = read_has ops ts (record { terms = terms; variables = vs }) e in
      subst IsOneTerm (sym d.3) (one_term ops ts d.0 d.1 vs d.2)

  module _ (r : Reading) (is : r ≡ reading_of (front terms) vs) where
    same : (t : Tree) → terms ≡ more t none → r ≡ reading_of t vs
    same t k = is ∙ ap (λ us. reading_of (front us) vs) k

    pub found_cases : ReadsAs ops ts r
    found_cases =
        let d = read_has ops ts (record { terms = terms; variables = vs }) e in
        subst (ReadsAs ops ts) (sym (same d.1 d.3)) (record { priority = d.0; variables = vs; reads = d.2; shown = refl; vars = refl })

    pub found_variables : HasItsVariables r
    found_variables =
        let d = read_has ops ts (record { terms = terms; variables = vs }) e in
        subst HasItsVariables (sym (same d.1 d.3)) (has_its_variables ops ts d.0 d.1 vs d.2)
