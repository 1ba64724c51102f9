use Rattle.std.proofs.Common.{ℤ, sym, subst, rules, w64, SFits}
use Rattle.std.proofs.Math.Facts.{to_z-of_z}
use Rattle.wam_machine.specs.Balls.{IsCode}
use Rattle.wam_machine.specs.declared.balls.Code.TheVariants.{Number}
use Rattle.wam_machine.specs.Terms.{built}
use Rattle.wam_machine.proofs.GoalSeen.{seen-cell, seen-leaf}
use Rattle.wam_machine.proofs.Thrown.{code-variable, code-integer, code-atom, code-compound}
use Rattle.wam_machine.proofs.balls.as_code.Goals as goal

pub look-requires : goal.look-requires
look-requires g c = seen-cell c.args.terms.now c.args.cell c.requires.cell

pub returns-in-Variable : goal.returns-in-Variable
returns-in-Variable g c = let t = c.args.terms.now in code-variable (built t c.args.cell) _ (seen-leaf t c.args.cell c.requires.cell _ (c.in-Variable.ensures.term t.names))

pub returns-in-Integer : goal.returns-in-Integer
returns-in-Integer g c =
    let t = c.args.terms.now in
    let fits : SFits w64 c.in-Integer.number = search rules in
    subst (λ (z : ℤ). IsCode (built t c.args.cell) (Number z)) (sym (to_z-of_z fits))
    (code-integer (built t c.args.cell) _ (seen-leaf t c.args.cell c.requires.cell _ (c.in-Integer.ensures.term t.names)))

pub returns-in-Atom : goal.returns-in-Atom
returns-in-Atom g c = let t = c.args.terms.now in code-atom (built t c.args.cell) _ (seen-leaf t c.args.cell c.requires.cell _ (c.in-Atom.ensures.term t.names))

pub returns-in-Compound : goal.returns-in-Compound
returns-in-Compound g c = let t = c.args.terms.now in code-compound (built t c.args.cell) _ _ (seen-leaf t c.args.cell c.requires.cell _ (c.in-Compound.ensures.term t.names))
