use Rattle.std.proofs.Common.{length, [], ◌∷◌, refl, sym, ap, ◌∙◌, subst}
use Rattle.std.specs.Prelude.{Option}
use Rattle.prolog_terms.specs.Tree.{Tree}
use Rattle.term_store.specs.declared.cell.Cell.{Cell}
use Rattle.wam_machine.specs.States.{Do}
use Rattle.wam_machine.specs.Machine.{running}
use Rattle.wam_machine.specs.Goals.{IsMadeBody}
use Rattle.wam_machine.specs.Terms.{Said, said, built}
use Rattle.wam_machine.specs.View.{Acts}
use Rattle.wam_machine.specs.declared.state.Machine.{Machine}
use Rattle.wam_machine.proofs.Acted.{acts-onwards, said-put, on_ok}
use Rattle.wam_machine.proofs.constructs.run_body.Goals as goal

pub returns-in-Some-clause-acts : goal.returns-in-Some-clause-acts
returns-in-Some-clause-acts g c =
    let m = c.args.machine.now in
    let t1 = c.body.new.terms in
    let n : Machine _ = record m { terms = c.push_next.new.terms } in
    let t = built m.terms c.args.goal in
    let b = built t1 c.in-Some.made in
    let o = said m.terms in
    let is = c.in_ok-made.ensures.grown.said_is in
    let body = (subst (λ (r : Option Cell). IsMadeBody t t1 r) c.in-Some.is c.in_ok-made.ensures.body).0 in
    let h = c.height-before.ensures ∙ ap (λ (s : Said _). length s.stack) is in
    on_ok c.push_next.result _ _
    (λ e. subst (λ (r : Option Tree). Acts (λ s. running t c.args.at.now s r) m n) (sym body)
    (acts-onwards m n c.push_next.ensures.terms refl (λ k. Do b k ∷ []) refl
    (said-put (said t1) o (said n.terms) (Do b c.height-before.result) (Do b (length o.stack)) is (ap (Do b) h) e)))
    c.push_next.ensures.said
