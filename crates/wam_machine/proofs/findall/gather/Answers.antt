use Rattle.std.proofs.Common.{suc, [], ◌∷◌, sym, subst}
use Rattle.std.specs.Prelude.{Option}
use Rattle.prolog_terms.specs.Tree.{Tree}
use Rattle.term_store.specs.declared.cell.Cell.{Cell}
use Rattle.wam_machine.specs.States.{State, Outcome, Do, FindallEnd, FindallMark, onwards, pushed, height}
use Rattle.wam_machine.specs.Machine.{gathering}
use Rattle.wam_machine.specs.Goals.{IsMadeBody}
use Rattle.wam_machine.specs.Terms.{built}
use Rattle.wam_machine.specs.View.{Acts}
use Rattle.wam_machine.specs.declared.state.Machine.{Machine}
use Rattle.wam_machine.proofs.Acted.{acts-from, on_ok}
use Rattle.wam_machine.proofs.findall.gather.Goals as goal

pub returns-in-Some-clause-acts : goal.returns-in-Some-clause-acts
returns-in-Some-clause-acts g c =
    let m = c.args.machine.now in
    let t1 = c.body.new.terms in
    let n = c.gather_body.new.machine in
    let mid : Machine _ = record m { terms = t1 } in
    let t = built m.terms c.args.goal in
    let w = built m.terms c.args.template in
    let r = built m.terms c.args.list in
    let b = built t1 c.in-Some.made in
    let body = (subst (λ (k : Option Cell). IsMadeBody t t1 k) c.in-Some.is c.in_ok-made.ensures.body).0 in
    let f : Tree → Tree → State → Outcome = λ x y s. onwards (Do b (suc (height s)) ∷ FindallEnd x (suc (height s)) ∷ []) (pushed (FindallMark y []) s) in
    let template = (c.in_ok-made.ensures.grown.cells c.args.template c.requires.template).1 in
    let list = (c.in_ok-made.ensures.grown.cells c.args.list c.requires.list).1 in
    on_ok c.gather_body.result _ _
    (λ a. subst (λ (k : Option Tree). Acts (λ s. gathering w t r s k) m n) (sym body)
    (acts-from m n (f w r) t1 c.in_ok-made.ensures.grown.said_is
    (subst (λ (k : Tree). Acts (f w k) mid n) list (subst (λ (k : Tree). Acts (f k (built t1 c.args.list)) mid n) template a))))
    c.gather_body.ensures.acts
