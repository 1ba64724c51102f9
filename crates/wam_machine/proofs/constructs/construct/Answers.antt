use Rattle.std.proofs.Common.{sym, subst}
use Rattle.wam_machine.specs.Machine.{performing}
use Rattle.wam_machine.specs.Goals.{control_in}
use Rattle.wam_machine.specs.Terms.{built}
use Rattle.wam_machine.specs.View.{Acts}
use Rattle.wam_machine.specs.declared.control.Control.{Control}
use Rattle.wam_machine.proofs.Acted.{on_ok}
use Rattle.wam_machine.proofs.constructs.construct.Goals as goal

pub returns-in-Repeat-clause-acts : goal.returns-in-Repeat-clause-acts
returns-in-Repeat-clause-acts g c =
    let m = c.args.machine.now in
    let n = c.repeat.new.machine in
    on_ok c.repeat.result _ _ (λ h x t e. subst (λ (d : Control). Acts (performing x t c.args.cut (control_in (built m.terms) d)) m n) (sym c.in-Repeat.is) h) c.repeat.ensures.acts

pub returns-in-Either-clause-acts : goal.returns-in-Either-clause-acts
returns-in-Either-clause-acts g c =
    let m = c.args.machine.now in
    let n = c.either.new.machine in
    on_ok c.either.result _ _ (λ h x t e. subst (λ (d : Control). Acts (performing x t c.args.cut (control_in (built m.terms) d)) m n) (sym c.in-Either.is) h) c.either.ensures.acts

pub returns-in-IfElse-clause-acts : goal.returns-in-IfElse-clause-acts
returns-in-IfElse-clause-acts g c =
    let m = c.args.machine.now in
    let n = c.if_else.new.machine in
    on_ok c.if_else.result _ _ (λ h x t e. subst (λ (d : Control). Acts (performing x t c.args.cut (control_in (built m.terms) d)) m n) (sym c.in-IfElse.is) h) c.if_else.ensures.acts

pub returns-in-If-clause-acts : goal.returns-in-If-clause-acts
returns-in-If-clause-acts g c =
    let m = c.args.machine.now in
    let n = c.if_alone.new.machine in
    on_ok c.if_alone.result _ _ (λ h x t e. subst (λ (d : Control). Acts (performing x t c.args.cut (control_in (built m.terms) d)) m n) (sym c.in-If.is) h) c.if_alone.ensures.acts

pub returns-in-Not-clause-acts : goal.returns-in-Not-clause-acts
returns-in-Not-clause-acts g c =
    let m = c.args.machine.now in
    let n = c.deny.new.machine in
    on_ok c.deny.result _ _ (λ h x t e. subst (λ (d : Control). Acts (performing x t c.args.cut (control_in (built m.terms) d)) m n) (sym c.in-Not.is) h) c.deny.ensures.acts

pub returns-in-Once-clause-acts : goal.returns-in-Once-clause-acts
returns-in-Once-clause-acts g c =
    let m = c.args.machine.now in
    let n = c.once.new.machine in
    on_ok c.once.result _ _ (λ h x t e. subst (λ (d : Control). Acts (performing x t c.args.cut (control_in (built m.terms) d)) m n) (sym c.in-Once.is) h) c.once.ensures.acts

pub returns-in-Catch-clause-acts : goal.returns-in-Catch-clause-acts
returns-in-Catch-clause-acts g c =
    let m = c.args.machine.now in
    let n = c.catch.new.machine in
    on_ok c.catch.result _ _ (λ h x t e. subst (λ (d : Control). Acts (performing x t c.args.cut (control_in (built m.terms) d)) m n) (sym c.in-Catch.is) h) c.catch.ensures.acts

pub returns-in-Findall-clause-acts : goal.returns-in-Findall-clause-acts
returns-in-Findall-clause-acts g c =
    let m = c.args.machine.now in
    let n = c.gather.new.machine in
    on_ok c.gather.result _ _ (λ h x t e. subst (λ (d : Control). Acts (performing x t c.args.cut (control_in (built m.terms) d)) m n) (sym c.in-Findall.is) h) c.gather.ensures.acts

pub returns-in-Throw-clause-acts : goal.returns-in-Throw-clause-acts
returns-in-Throw-clause-acts g c =
    let m = c.args.machine.now in
    let n = c.throw.new.machine in
    on_ok c.throw.result _ _ (λ h x t e. subst (λ (d : Control). Acts (performing x t c.args.cut (control_in (built m.terms) d)) m n) (sym c.in-Throw.is) h) c.throw.ensures.acts
