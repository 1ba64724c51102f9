use Rattle.std.proofs.Common.{[], Bool, refl, subst}
use Rattle.term_builtins.specs.Meanings.{list_tree}
use Rattle.term_unifier.specs.Unifier.{unifier}
use Rattle.wam_machine.specs.Machine.{new_copies, behind_copies}
use Rattle.wam_machine.specs.Terms.{IsSolved, said, built}
use Rattle.wam_machine.specs.declared.state.Machine.{Machine}
use Rattle.wam_machine.specs.declared.state.Mode.TheVariants.{Going as IsGoing, Failing as IsFailing}
use Rattle.wam_machine.proofs.Gathered.{acts-gathered, acts-apart, solved-there}
use Rattle.wam_machine.proofs.findall.finish.Goals as goal

pub returns-then-branch-clause-acts : goal.returns-then-branch-clause-acts
returns-then-branch-clause-acts g c =
    let m = c.args.machine.now in
    let n : Machine _ = record m { mode = IsGoing; terms = c.equate.new.terms } in
    let found = c.args.found.now in
    let made = c.in_ok-made.ensures in
    let solved = solved-there m n c.list_found.new.terms c.args.list c.in_ok-made.made found c.in_ok-equate.field-0 made.said (made.cells c.args.list c.requires.list).1 made.term c.in_ok-equate.ensures.equated in
    let u = unifier (built m.terms c.args.list) (list_tree (new_copies (said m.terms).fresh found)) in
    acts-gathered m n (built m.terms c.args.list) found c.in_ok-equate.ensures.terms refl u refl
    (subst (λ (b : Bool). IsSolved [] (record (said m.terms) { fresh = behind_copies (said m.terms).fresh found }) (said n.terms) b u) c.if-branch.true solved)

pub returns-else-branch-clause-acts : goal.returns-else-branch-clause-acts
returns-else-branch-clause-acts g c =
    let m = c.args.machine.now in
    let n : Machine _ = record m { mode = IsFailing; terms = c.equate.new.terms } in
    let found = c.args.found.now in
    let made = c.in_ok-made.ensures in
    let solved = solved-there m n c.list_found.new.terms c.args.list c.in_ok-made.made found c.in_ok-equate.field-0 made.said (made.cells c.args.list c.requires.list).1 made.term c.in_ok-equate.ensures.equated in
    let u = unifier (built m.terms c.args.list) (list_tree (new_copies (said m.terms).fresh found)) in
    acts-apart m n (built m.terms c.args.list) found c.in_ok-equate.ensures.terms refl u refl
    (subst (λ (b : Bool). IsSolved [] (record (said m.terms) { fresh = behind_copies (said m.terms).fresh found }) (said n.terms) b u) c.if-branch.false solved)
