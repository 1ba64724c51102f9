use Rattle.std.proofs.Common.{◌≡◌, ℕ, suc, List, length, refl, sym, ap, ◌∙◌, subst}
use Rattle.std.specs.Prelude.{codes}
use Rattle.prolog_terms.specs.Tree.{Tree}
use Rattle.prolog_terms.specs.declared.entry.Indicator.{Indicator}
use Rattle.prolog_terms.specs.declared.fault.Fault.TheVariants.{Instantiation, Representation}
use Rattle.term_store.specs.Terms.{trees_of}
use Rattle.term_store.specs.declared.cell.Cell.{Cell}
use Rattle.prolog_terms.specs.Clauses.{body_of}
use Rattle.wam_machine.specs.States.{State, Outcome, raises}
use Rattle.wam_machine.specs.Machine.{running, call_with, calling_added}
use Rattle.wam_machine.specs.Goals.{IsAdded}
use Rattle.wam_machine.specs.Terms.{built}
use Rattle.wam_machine.specs.View.{Acts}
use Rattle.wam_machine.specs.declared.build.Added.{Added}
use Rattle.wam_machine.specs.declared.state.Machine.{Machine}
use Rattle.wam_machine.specs.declared.state.Mode.TheVariants.{Raising as RaisingBall}
use Rattle.wam_machine.proofs.Acted.{acts-from, acts-same, acts-raised, on_ok, count-trees}
use Rattle.wam_machine.proofs.constructs.call_added.Goals as goal

-- the indicator of `call` with these arguments added
call_is : (tree : Cell → Tree) (cs : List Cell) (i : Indicator) → i ≡ record { name = codes "call"; arity = suc (length cs) } → i ≡ call_with (trees_of tree cs)
call_is tree cs i e = e ∙ ap (λ (k : ℕ). let r : Indicator = record { name = codes "call"; arity = suc k } in r) (sym (count-trees tree cs))

pub returns-in-Unbound-clause-acts : goal.returns-in-Unbound-clause-acts
returns-in-Unbound-clause-acts g c =
    let m = c.args.machine.now in
    let t1 = c.add.new.terms in
    let n : Machine _ = record m { mode = RaisingBall c.in_ok-unbound-in-Unbound.field-0; terms = t1 } in
    let t = built m.terms c.args.goal in
    let ts = trees_of (built m.terms) c.args.added.now in
    let e = subst (λ (r : Added). IsAdded t ts t1 r) c.in-Unbound.is c.in_ok-add.ensures.added in
    acts-same m n (raises Instantiation (call_with ts)) (calling_added t ts) e
    (acts-raised m n Instantiation c.in_ok-at.at (call_with ts) c.in_ok-add.ensures.grown.terms refl (call_is (built m.terms) c.args.added.now c.in_ok-at.at c.in_ok-at.ensures)
    (ap RaisingBall c.in_ok-unbound-in-Unbound.ensures) c.in_ok-add.ensures.grown.said_is)

pub returns-in-TooMany-clause-acts : goal.returns-in-TooMany-clause-acts
returns-in-TooMany-clause-acts g c =
    let m = c.args.machine.now in
    let t1 = c.add.new.terms in
    let n : Machine _ = record m { mode = RaisingBall c.in_ok-too_many-in-TooMany.field-0; terms = t1 } in
    let t = built m.terms c.args.goal in
    let ts = trees_of (built m.terms) c.args.added.now in
    let e = subst (λ (r : Added). IsAdded t ts t1 r) c.in-TooMany.is c.in_ok-add.ensures.added in
    acts-same m n (raises (Representation (codes "max_arity")) (call_with ts)) (calling_added t ts) e
    (acts-raised m n (Representation (codes "max_arity")) c.in_ok-at.at (call_with ts) c.in_ok-add.ensures.grown.terms refl (call_is (built m.terms) c.args.added.now c.in_ok-at.at c.in_ok-at.ensures)
    (ap RaisingBall c.in_ok-too_many-in-TooMany.ensures) c.in_ok-add.ensures.grown.said_is)

pub returns-clause-acts : goal.returns-clause-acts
returns-clause-acts g c =
    let m = c.args.machine.now in
    let t1 = c.add.new.terms in
    let n = c.run_body.new.machine in
    let t = built m.terms c.args.goal in
    let ts = trees_of (built m.terms) c.args.added.now in
    let b = built t1 c.in-Made.whole in
    let e = (subst (λ (r : Added). IsAdded t ts t1 r) c.in-Made.is c.in_ok-add.ensures.added).1 in
    let f : State → Outcome = λ s. running b (call_with ts) s (body_of b) in
    on_ok c.run_body.result _ _
    (λ a. acts-same m n f (calling_added t ts) e (acts-from m n f t1 c.in_ok-add.ensures.grown.said_is
    (subst (λ (i : Indicator). Acts (λ s. running b i s (body_of b)) (record m { terms = t1 }) n) (call_is (built m.terms) c.args.added.now c.in_ok-at.at c.in_ok-at.ensures) a)))
    c.run_body.ensures.acts
