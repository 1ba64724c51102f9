use Rattle.std.proofs.Common.{suc, [], ◌∷◌, sym, subst}
use Rattle.std.specs.Prelude.{Option}
use Rattle.prolog_terms.specs.Tree.{Tree}
use Rattle.term_store.specs.declared.cell.Cell.{Cell}
use Rattle.wam_machine.specs.States.{State, Outcome, Do, NotEnd, NotMark, onwards, pushed, height}
use Rattle.wam_machine.specs.Machine.{denying}
use Rattle.wam_machine.specs.Goals.{IsMadeBody}
use Rattle.wam_machine.specs.Terms.{built}
use Rattle.wam_machine.specs.View.{Acts}
use Rattle.wam_machine.proofs.Acted.{acts-from, on_ok}
use Rattle.wam_machine.proofs.constructs.deny.Goals as goal

pub returns-in-Some-clause-acts : goal.returns-in-Some-clause-acts
returns-in-Some-clause-acts g c =
    let m = c.args.machine.now in
    let t1 = c.body.new.terms in
    let n = c.deny_body.new.machine in
    let t = built m.terms c.args.goal in
    let b = built t1 c.in-Some.made in
    let body = (subst (λ (r : Option Cell). IsMadeBody t t1 r) c.in-Some.is c.in_ok-made.ensures.body).0 in
    let f : State → Outcome = λ s. onwards (Do b (suc (height s)) ∷ NotEnd (height s) ∷ []) (pushed NotMark s) in
    on_ok c.deny_body.result _ _
    (λ a. subst (λ (r : Option Tree). Acts (λ s. denying t s r) m n) (sym body) (acts-from m n f t1 c.in_ok-made.ensures.grown.said_is a))
    c.deny_body.ensures.acts
