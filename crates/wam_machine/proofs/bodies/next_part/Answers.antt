use Rattle.std.proofs.Common.{arith}
use Rattle.term_store.specs.declared.cell.Cell.TheVariants.{Variable}
use Rattle.term_store.specs.Terms.{text}
use Rattle.wam_machine.specs.Terms.{built, IsBuilt}
use Rattle.wam_machine.proofs.GoalSeen.{seen-cell, seen-leaf, seen-compound, seen-parts}
use Rattle.wam_machine.proofs.SpineParts.{variable-leaf, integer-leaf, atom-leaf, atom-plain, compound-plain, compound-leaf, read-connective, joint-walk, all-last, two-trees}
use Rattle.wam_machine.proofs.bodies.next_part.Goals as goal

pub look-requires : goal.look-requires
look-requires g c = seen-cell c.args.terms.now c.args.cell c.requires.cell

pub text-requires : goal.text-requires
text-requires g c = (seen-parts c.args.terms.now c.args.cell c.requires.cell c.in-Compound.name c.in-Compound.arguments c.requires.terms c.known.ensures c.in-Compound.ensures.looks).name

pub returns-then-not-joins-clause-spine : goal.returns-then-not-joins-clause-spine
returns-then-not-joins-clause-spine g c =
    let t = c.args.terms.now in
    compound-leaf (built t) (built t c.args.cell) (text t.names c.in-Compound.name) c.in-Compound.arguments.now _
    (seen-compound t c.args.cell c.requires.cell c.in-Compound.name c.in-Compound.arguments.now (c.in-Compound.ensures.term t.names))
    (λ _ _. read-connective t.names c.in-Compound.name c.text.result.now _ _ c.text.ensures c.joins.ensures c.if-not-joins.true)

pub returns-then-not-joins-clause-is : goal.returns-then-not-joins-clause-is
returns-then-not-joins-clause-is g c =
    let t = c.args.terms.now in (
      c.requires.cell,
      compound-plain (built t c.args.cell) _ _ (seen-compound t c.args.cell c.requires.cell c.in-Compound.name c.in-Compound.arguments.now (c.in-Compound.ensures.term t.names)),
    )

pub returns-in-Variable-clause-spine : goal.returns-in-Variable-clause-spine
returns-in-Variable-clause-spine g c =
    let t = c.args.terms.now in
    variable-leaf (built t c.args.cell) c.in-Variable.field-0 _ (seen-leaf t c.args.cell c.requires.cell _ (c.in-Variable.ensures.term t.names))

pub returns-in-Variable-clause-is : goal.returns-in-Variable-clause-is
returns-in-Variable-clause-is g c =
    let t = c.args.terms.now in
    (c.requires.cell, (c.in-Variable.field-0, seen-leaf t c.args.cell c.requires.cell _ (c.in-Variable.ensures.term t.names)))

pub returns-in-Integer-clause-spine : goal.returns-in-Integer-clause-spine
returns-in-Integer-clause-spine g c =
    let t = c.args.terms.now in
    integer-leaf (built t c.args.cell) c.in-Integer.field-0 _ (seen-leaf t c.args.cell c.requires.cell _ (c.in-Integer.ensures.term t.names))

pub returns-in-Integer-clause-is : goal.returns-in-Integer-clause-is
returns-in-Integer-clause-is g c =
    let t = c.args.terms.now in
    (c.requires.cell, (c.in-Integer.field-0, seen-leaf t c.args.cell c.requires.cell _ (c.in-Integer.ensures.term t.names)))

pub returns-in-Atom-clause-spine : goal.returns-in-Atom-clause-spine
returns-in-Atom-clause-spine g c =
    let t = c.args.terms.now in
    atom-leaf (built t c.args.cell) _ _ (seen-leaf t c.args.cell c.requires.cell _ (c.in-Atom.ensures.term t.names))

pub returns-in-Atom-clause-is : goal.returns-in-Atom-clause-is
returns-in-Atom-clause-is g c =
    let t = c.args.terms.now in
    (c.requires.cell, atom-plain (built t c.args.cell) _ (seen-leaf t c.args.cell c.requires.cell _ (c.in-Atom.ensures.term t.names)))

pub returns-in_ok-push-in-len2-2-clause-todo : goal.returns-in_ok-push-in-len2-2-clause-todo
returns-in_ok-push-in-len2-2-clause-todo g c =
    let t = c.args.terms.now in
    let low = c.in-len2.len_at_least in
    let args = (seen-parts t c.args.cell c.requires.cell c.in-Compound.name c.in-Compound.arguments c.requires.terms c.known.ensures c.in-Compound.ensures.looks).args in
    all-last (IsBuilt t) c.push.new.self.items c.push-in-len2.new.self.items _ c.in_ok-push-in-len2-2.ensures.items
    (all-last (IsBuilt t) c.args.todo.now.items c.push.new.self.items _ c.in_ok-push-in-len2.ensures.items c.requires.todo (args 1 _ (omega (arith, low))))
    (args 0 _ (omega (arith, low)))

pub returns-in_ok-push-in-len2-2-clause-spine : goal.returns-in_ok-push-in-len2-2-clause-spine
returns-in_ok-push-in-len2-2-clause-spine g c =
    let t = c.args.terms.now in
    joint-walk (built t) (built t c.args.cell) (text t.names c.in-Compound.name) _ _ c.args.todo.now.items c.push.new.self.items c.push-in-len2.new.self.items
    (read-connective t.names c.in-Compound.name c.text.result.now _ _ c.text.ensures c.joins.ensures c.if-not-joins.false)
    (two-trees (built t) (built t c.args.cell) (text t.names c.in-Compound.name) c.in-Compound.arguments.now (Variable 0) c.in-len2.len_at_least c.in-len2.len_below
    (seen-compound t c.args.cell c.requires.cell c.in-Compound.name c.in-Compound.arguments.now (c.in-Compound.ensures.term t.names)))
    c.in_ok-push-in-len2.ensures.items c.in_ok-push-in-len2-2.ensures.items

pub returns-in_ok-push-in-len2-2-clause-is : goal.returns-in_ok-push-in-len2-2-clause-is
returns-in_ok-push-in-len2-2-clause-is g c =
    let t = c.args.terms.now in (
      (seen-parts c.args.terms.now c.args.cell c.requires.cell c.in-Compound.name c.in-Compound.arguments c.requires.terms c.known.ensures c.in-Compound.ensures.looks).name,
      read-connective t.names c.in-Compound.name c.text.result.now _ _ c.text.ensures c.joins.ensures c.if-not-joins.false,
    )

pub returns-in_default-clause-spine : goal.returns-in_default-clause-spine
returns-in_default-clause-spine g c =
    let t = c.args.terms.now in
    let few = c.in_default.len_below in
    compound-leaf (built t) (built t c.args.cell) (text t.names c.in-Compound.name) c.in-Compound.arguments.now _
    (seen-compound t c.args.cell c.requires.cell c.in-Compound.name c.in-Compound.arguments.now (c.in-Compound.ensures.term t.names))
    (λ p q. absurd (omega (arith, p, few)))

pub returns-in_default-clause-is : goal.returns-in_default-clause-is
returns-in_default-clause-is g c =
    let t = c.args.terms.now in (
      c.requires.cell,
      compound-plain (built t c.args.cell) _ _ (seen-compound t c.args.cell c.requires.cell c.in-Compound.name c.in-Compound.arguments.now (c.in-Compound.ensures.term t.names)),
    )

pub returns-in_default-2-clause-spine : goal.returns-in_default-2-clause-spine
returns-in_default-2-clause-spine g c =
    let t = c.args.terms.now in
    let many = c.in_default.len_at_least in
    compound-leaf (built t) (built t c.args.cell) (text t.names c.in-Compound.name) c.in-Compound.arguments.now _
    (seen-compound t c.args.cell c.requires.cell c.in-Compound.name c.in-Compound.arguments.now (c.in-Compound.ensures.term t.names))
    (λ p q. absurd (omega (arith, q, many)))

pub returns-in_default-2-clause-is : goal.returns-in_default-2-clause-is
returns-in_default-2-clause-is g c =
    let t = c.args.terms.now in (
      c.requires.cell,
      compound-plain (built t c.args.cell) _ _ (seen-compound t c.args.cell c.requires.cell c.in-Compound.name c.in-Compound.arguments.now (c.in-Compound.ensures.term t.names)),
    )
