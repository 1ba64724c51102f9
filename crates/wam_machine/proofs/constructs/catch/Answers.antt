use Rattle.std.proofs.Common.{suc, [], ◌∷◌, sym, subst}
use Rattle.std.specs.Prelude.{Option}
use Rattle.prolog_terms.specs.Tree.{Tree}
use Rattle.term_store.specs.declared.cell.Cell.{Cell}
use Rattle.wam_machine.specs.States.{State, Outcome, Do, CatchEnd, CatchMark, onwards, pushed, height}
use Rattle.wam_machine.specs.Machine.{catching}
use Rattle.wam_machine.specs.Goals.{IsMadeBody}
use Rattle.wam_machine.specs.Terms.{built}
use Rattle.wam_machine.specs.View.{Acts}
use Rattle.wam_machine.specs.declared.state.Machine.{Machine}
use Rattle.wam_machine.proofs.Acted.{acts-from, on_ok}
use Rattle.wam_machine.proofs.constructs.catch.Goals as goal

pub returns-in-Some-clause-acts : goal.returns-in-Some-clause-acts
returns-in-Some-clause-acts g c =
    let m = c.args.machine.now in
    let t1 = c.body.new.terms in
    let n = c.catch_body.new.machine in
    let mid : Machine _ = record m { terms = t1 } in
    let t = built m.terms c.args.goal in
    let w = built m.terms c.args.catcher in
    let r = built m.terms c.args.recovery in
    let b = built t1 c.in-Some.made in
    let body = (subst (λ (k : Option Cell). IsMadeBody t t1 k) c.in-Some.is c.in_ok-made.ensures.body).0 in
    let f : Tree → Tree → State → Outcome = λ x y s. onwards (Do b (suc (height s)) ∷ CatchEnd (suc (height s)) ∷ []) (pushed (CatchMark x y) s) in
    let catcher = (c.in_ok-made.ensures.grown.cells c.args.catcher c.requires.catcher).1 in
    let recovery = (c.in_ok-made.ensures.grown.cells c.args.recovery c.requires.recovery).1 in
    on_ok c.catch_body.result _ _
    (λ a. subst (λ (k : Option Tree). Acts (λ s. catching t w r s k) m n) (sym body)
    (acts-from m n (f w r) t1 c.in_ok-made.ensures.grown.said_is
    (subst (λ (k : Tree). Acts (f w k) mid n) recovery (subst (λ (k : Tree). Acts (f k (built t1 c.args.recovery)) mid n) catcher a))))
    c.catch_body.ensures.acts
