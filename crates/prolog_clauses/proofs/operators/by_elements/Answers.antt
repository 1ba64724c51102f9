use Rattle.std.proofs.Common.{◌≡◌, ◌∷◌, [], ◌++◌, sym, ap, ◌∙◌}
use Rattle.prolog_terms.specs.Tree.{atom}
use Rattle.prolog_terms.specs.Flat.{tree}
use Rattle.prolog_clauses.specs.declared.operators.Declaring.TheVariants.{Declares, Raises}
use Rattle.prolog_clauses.specs.Declarations.{elements, by_elements}
use Rattle.prolog_clauses.proofs.Firsts.{no_atom, atom_first}
use Rattle.prolog_clauses.proofs.Names.{with_names, with_names-push, with_names-error, with_names-end}
use Rattle.prolog_clauses.proofs.operators.by_elements.Goals as goal

pub returns-in-Var : goal.returns-in-Var
returns-in-Var c =
    let p = c.args.priority in
    let k = c.args.kind in
    let names = c.cells.names.items in
    let first = c.in-Some.element.now in
    ap Raises c.in_ok-type_error-in-Var.ensures
    ∙ (sym (with_names-error names _)
    ∙ (ap (with_names names) (sym (no_atom p k first c.index-element-0.result (elements (tree c.in-Some.rest.now)) c.in-Some.ensures.element c.index-element-0.is c.in-Var.is))
    ∙ (ap (λ ts. with_names names (by_elements p k ts)) (sym c.in-Some.ensures.cell.elements) ∙ c.cells.invariant.same)))

pub cells-preserved : goal.cells-preserved
cells-preserved c =
    let p = c.args.priority in
    let k = c.args.kind in
    let names = c.cells.names.items in
    let first = c.in-Some.element.now in
    let text = c.in-Atom.name in
    let after = elements (tree c.in-Some.rest.now) in
    let element : tree first ≡ atom text = atom_first first c.index-element-0.result text c.in-Some.ensures.element c.index-element-0.is c.in-Atom.is in
    record {
      prefix = c.in-Some.ensures.rest;
      same =
          ap (λ ns. with_names ns (by_elements p k after)) (c.in_ok-push-in-Atom.ensures.items ∙ ap (λ n. names ++ n ∷ []) c.in_ok-clone-in-Atom.ensures.cases)
          ∙ (with_names-push names text (by_elements p k after)
          ∙ (ap (λ t. with_names names (by_elements p k (t ∷ after))) (sym element)
          ∙ (ap (λ ts. with_names names (by_elements p k ts)) (sym c.in-Some.ensures.cell.elements) ∙ c.cells.invariant.same)));
    }

pub returns : goal.returns
returns c =
    let p = c.args.priority in
    let k = c.args.kind in
    let names = c.cells.names.items in
    ap (λ ns. Declares (record { priority = p; kind = k; names = ns })) c.from_vec.ensures
    ∙ (sym (with_names-end names p k)
    ∙ (ap (λ ts. with_names names (by_elements p k ts)) (sym c.in_default.ensures.cell.elements) ∙ c.cells.invariant.same))
