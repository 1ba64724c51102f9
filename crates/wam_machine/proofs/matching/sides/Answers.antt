use Rattle.std.proofs.Common.{arith, codes}
use Rattle.term_store.specs.Terms.{text}
use Rattle.term_store.specs.declared.cell.Cell.TheVariants.{Variable}
use Rattle.wam_machine.specs.Terms.{built}
use Rattle.wam_machine.proofs.GoalSeen.{seen-cell, seen-compound, seen-parts, seen-view}
use Rattle.wam_machine.proofs.GoalParts.{tested-text}
use Rattle.wam_machine.proofs.HeadCells.{sides-rule, sides-other, sides-none, sides-leaf}
use Rattle.wam_machine.proofs.matching.sides.Goals as goal

pub look-requires : goal.look-requires
look-requires g c = seen-cell c.args.terms.now c.args.clause c.requires.clause

pub text-requires : goal.text-requires
text-requires g c =
    (seen-parts c.args.terms.now c.args.clause c.requires.clause c.in-Compound.name c.in-Compound.arguments c.requires.terms c.known.ensures c.in-Compound.ensures.looks).name

pub returns-then-eq : goal.returns-then-eq
returns-then-eq g c =
    let t = c.args.terms.now in
    let low = c.in-len2.len_at_least in
    let args = (seen-parts t c.args.clause c.requires.clause c.in-Compound.name c.in-Compound.arguments c.requires.terms c.known.ensures c.in-Compound.ensures.looks).args in (
      (args 0 _ (omega (arith, low)), args 1 _ (omega (arith, low))),
      sides-rule (built t) (built t c.args.clause) (text t.names c.in-Compound.name) c.in-Compound.arguments.now (Variable 0) c.in-len2.len_at_least c.in-len2.len_below
          (seen-compound t c.args.clause c.requires.clause c.in-Compound.name c.in-Compound.arguments.now (c.in-Compound.ensures.term t.names))
          (tested-text t.names c.in-Compound.name c.text.result.now _ (codes ":-") _ _ c.text.ensures c.eq.ensures c.as_slice.ensures c.if-eq.true),
    )

pub returns-else-eq : goal.returns-else-eq
returns-else-eq g c =
    let t = c.args.terms.now in
    sides-other (built t) (built t c.args.clause) (text t.names c.in-Compound.name) c.in-Compound.arguments.now (Variable 0) c.in-len2.len_at_least c.in-len2.len_below
    (seen-compound t c.args.clause c.requires.clause c.in-Compound.name c.in-Compound.arguments.now (c.in-Compound.ensures.term t.names))
    (tested-text t.names c.in-Compound.name c.text.result.now _ (codes ":-") _ _ c.text.ensures c.eq.ensures c.as_slice.ensures c.if-eq.false)

pub returns-in_default-arguments : goal.returns-in_default-arguments
returns-in_default-arguments g c =
    let t = c.args.terms.now in
    let few = c.in_default-arguments.len_below in
    sides-none (built t) (built t c.args.clause) (text t.names c.in-Compound.name) c.in-Compound.arguments.now
    (seen-compound t c.args.clause c.requires.clause c.in-Compound.name c.in-Compound.arguments.now (c.in-Compound.ensures.term t.names)) (λ p q. omega (arith, p, few))

pub returns-in_default-arguments-2 : goal.returns-in_default-arguments-2
returns-in_default-arguments-2 g c =
    let t = c.args.terms.now in
    let many = c.in_default-arguments.len_at_least in
    sides-none (built t) (built t c.args.clause) (text t.names c.in-Compound.name) c.in-Compound.arguments.now
    (seen-compound t c.args.clause c.requires.clause c.in-Compound.name c.in-Compound.arguments.now (c.in-Compound.ensures.term t.names)) (λ p q. omega (arith, q, many))

pub returns-in_default : goal.returns-in_default
returns-in_default g c =
    let t = c.args.terms.now in
    sides-leaf (text t.names) (built t) c.look.result (built t c.args.clause) (seen-view t c.args.clause c.look.result (c.look.ensures.term t.names)) (λ f args e. c.in_default.not-Compound f args e)
