use Rattle.std.proofs.Common.{◌∙◌, subst, sym}
use Rattle.std.specs.Prelude.{All}
use Rattle.std.proofs.lemmas.List.Elements.{All-append}
use Rattle.term_store.specs.Terms.{text}
use Rattle.wam_machine.specs.Terms.{built, IsBuilt}
use Rattle.wam_machine.proofs.GoalSeen.{seen-cell, seen-leaf, seen-compound, seen-name, seen-parts}
use Rattle.wam_machine.proofs.AddedGoals.{no-more, some-more, unbound-added, integer-added, atom-alone, atom-added, many-added, compound-added, compound-alone}
use Rattle.wam_machine.proofs.build.add.Goals as goal

pub look-requires : goal.look-requires
look-requires g c = seen-cell c.args.terms.now c.args.goal c.requires.goal

pub returns-then-is_empty-clause-added : goal.returns-then-is_empty-clause-added
returns-then-is_empty-clause-added g c =
    let t = c.args.terms.now in (
      c.requires.goal,
      atom-alone (built t) (built t c.args.goal) c.args.added.now (text t.names c.in-Atom.name) (no-more _ _ c.if-is_empty.true c.is_empty.ensures)
          (seen-leaf t c.args.goal c.requires.goal _ (c.in-Atom.ensures.term t.names)),
    )

pub compound_of-requires-clause-name : goal.compound_of-requires-clause-name
compound_of-requires-clause-name g c = seen-name c.args.terms.now c.args.goal c.requires.goal c.in-Atom.name c.requires.terms c.in-Atom.ensures.looks

pub returns-then-arguments-added-gt255-clause-added : goal.returns-then-arguments-added-gt255-clause-added
returns-then-arguments-added-gt255-clause-added g c =
    let t = c.args.terms.now in
    many-added (built t) (built t c.args.goal) c.in-Compound.arguments.now c.args.added.now (text t.names c.in-Compound.name)
    (seen-compound t c.args.goal c.requires.goal c.in-Compound.name c.in-Compound.arguments.now (c.in-Compound.ensures.term t.names))
    c.if-arguments-added-gt255.true

pub returns-then-is_empty-2-clause-added : goal.returns-then-is_empty-2-clause-added
returns-then-is_empty-2-clause-added g c =
    let t = c.args.terms.now in (
      c.requires.goal,
      compound-alone (built t) (built t c.args.goal) c.in-Compound.arguments.now c.args.added.now (text t.names c.in-Compound.name)
          (seen-compound t c.args.goal c.requires.goal c.in-Compound.name c.in-Compound.arguments.now (c.in-Compound.ensures.term t.names))
          c.if-arguments-added-gt255.false (no-more _ _ c.if-is_empty-2.true c.is_empty-in-Compound.ensures),
    )

pub compound_of-requires-in-Compound-clause-valid : goal.compound_of-requires-in-Compound-clause-valid
compound_of-requires-in-Compound-clause-valid g c =
    let t = c.args.terms.now in
    subst (All (IsBuilt t)) (sym (c.as_slice.ensures.value ∙ c.in_ok-all-in-Compound.ensures))
    (All-append (IsBuilt t) c.in-Compound.arguments.now c.args.added.now
    (seen-parts t c.args.goal c.requires.goal c.in-Compound.name c.in-Compound.arguments c.requires.terms c.known.ensures c.in-Compound.ensures.looks).args c.requires.added)

pub compound_of-requires-in-Compound-clause-name : goal.compound_of-requires-in-Compound-clause-name
compound_of-requires-in-Compound-clause-name g c =
    (seen-parts c.args.terms.now c.args.goal c.requires.goal c.in-Compound.name c.in-Compound.arguments c.requires.terms c.known.ensures c.in-Compound.ensures.looks).name

pub returns-in-Variable-clause-added : goal.returns-in-Variable-clause-added
returns-in-Variable-clause-added g c =
    let t = c.args.terms.now in
    unbound-added (built t c.args.goal) _ c.in-Variable.field-0 (seen-leaf t c.args.goal c.requires.goal _ (c.in-Variable.ensures.term t.names))

pub returns-in-Integer-clause-added : goal.returns-in-Integer-clause-added
returns-in-Integer-clause-added g c =
    let t = c.args.terms.now in
    (c.requires.goal, integer-added (built t c.args.goal) _ c.in-Integer.field-0 (seen-leaf t c.args.goal c.requires.goal _ (c.in-Integer.ensures.term t.names)))

pub returns-in_ok-made-in-Atom-clause-added : goal.returns-in_ok-made-in-Atom-clause-added
returns-in_ok-made-in-Atom-clause-added g c =
    let t = c.args.terms.now in (
      c.in_ok-made-in-Atom.ensures.cell,
      atom-added (built t) (built t c.args.goal) _ c.args.added.now (text t.names c.in-Atom.name) (some-more _ _ c.if-is_empty.false c.is_empty.ensures)
          (seen-leaf t c.args.goal c.requires.goal _ (c.in-Atom.ensures.term t.names)) c.in_ok-made-in-Atom.ensures.term,
    )

pub returns-in_ok-made-in-Compound-clause-added : goal.returns-in_ok-made-in-Compound-clause-added
returns-in_ok-made-in-Compound-clause-added g c =
    let t = c.args.terms.now in (
      c.in_ok-made-in-Compound.ensures.cell,
      compound-added (built t) (built t c.args.goal) c.in-Compound.arguments.now c.args.added.now (text t.names c.in-Compound.name)
          (seen-compound t c.args.goal c.requires.goal c.in-Compound.name c.in-Compound.arguments.now (c.in-Compound.ensures.term t.names))
          _ c.as_slice.result.now c.if-arguments-added-gt255.false (c.as_slice.ensures.value ∙ c.in_ok-all-in-Compound.ensures) c.in_ok-made-in-Compound.ensures.term,
    )
