use Rattle.std.proofs.Common.{ap, ◌∙◌, sym, subst, Option}
use Rattle.std.specs.Prelude.{option_map}
use Rattle.std.proofs.lemmas.Result.{on_ok_weaker}
use Rattle.prolog_terms.specs.Tree.{Tree}
use Rattle.wam_machine.specs.States.{Setting, taking}
use Rattle.wam_machine.specs.Procedures.{swept_keys}
use Rattle.wam_machine.specs.Sweeps.{IsSweep}
use Rattle.wam_machine.specs.Terms.{built}
use Rattle.wam_machine.specs.View.{setting, GoesOn}
use Rattle.wam_machine.proofs.AsksOn.{ready_said, left_said, goes_said, setting_said, kept_stack}
use Rattle.wam_machine.proofs.SweptKinds.{swept_kept, swept_trees}
use Rattle.wam_machine.proofs.sweeping.sweep.Goals as goal

pub returns-in_err-looked-clause-kept : goal.returns-in_err-looked-clause-kept
returns-in_err-looked-clause-kept g c =
    kept_stack (g.B.Base.serves c.args.base.now) g.B.Base.group (g.B.Base.out c.args.base.now) c.args.machine.now c.looked_for.new.terms c.requires.ready.kept c.in_err-looked.ensures.err

pub sweep_looked-requires-clause-goal : goal.sweep_looked-requires-clause-goal
sweep_looked-requires-clause-goal g c = swept_kept c.args.machine.now.terms c.looked_for.new.terms c.args.goal c.in_ok-looked.ensures.grown.cells c.requires.goal

pub sweep_looked-requires-clause-keys : goal.sweep_looked-requires-clause-keys
sweep_looked-requires-clause-keys g c =
    c.in_ok-looked.ensures.keys ∙ sym (ap (λ (o : Option Tree). swept_keys o) (swept_trees c.args.machine.now.terms c.looked_for.new.terms c.args.goal c.in_ok-looked.ensures.grown.cells c.requires.goal))

pub sweep_looked-requires-clause-ready : goal.sweep_looked-requires-clause-ready
sweep_looked-requires-clause-ready g c =
    let grown = c.in_ok-looked.ensures.grown in
    ready_said c.args.machine.now c.looked_for.new.terms grown.said_is (g.B.Base.view c.args.base.now) (g.B.Base.serves c.args.base.now) g.B.Base.group (g.B.Base.out c.args.base.now)
    g.B.Base.rest g.B.Base.may_visit g.B.Base.looked_at c.args.host.now.budget c.requires.ready grown.terms

pub returns-clause-left : goal.returns-clause-left
returns-clause-left g c =
    on_ok_weaker c.sweep_looked.result
    (λ l. left_said c.args.machine.now c.looked_for.new.terms c.in_ok-looked.ensures.grown.said_is c.args.host.now.budget (g.B.Base.view c.sweep_looked.new.base) c.sweep_looked.new.machine l)
    c.sweep_looked.ensures.left

pub returns-clause-goes : goal.returns-clause-goes
returns-clause-goes g c =
    let m = c.args.machine.now in
    let t = c.looked_for.new.terms in
    let same = c.in_ok-looked.ensures.grown.said_is in
    let n = c.sweep_looked.new.machine in
    let h = c.args.host.now in
    let v = g.B.Base.view c.args.base.now in
    let w = g.B.Base.view c.sweep_looked.new.base in
    let G = option_map (built m.terms) c.args.goal in
    let trees = swept_trees m.terms t c.args.goal c.in_ok-looked.ensures.grown.cells c.requires.goal in
    on_ok_weaker c.sweep_looked.result
    (λ r. record {
      made = r.made;
      own = r.own;
      so = λ j b with sweeps.
          goes_said m t same g.B.Base.rest g.B.Base.may_visit g.B.Base.looked_at g.B.Base.ahead w.causes r.made (λ s. taking (setting h m j) s (with s.front)) j n
          (subst (λ (x : Setting). GoesOn g.B.Base.rest g.B.Base.may_visit g.B.Base.looked_at g.B.Base.ahead w.causes r.made (λ s. taking x s (with s.front)) j (record m { terms = t }) n)
          (setting_said m t same h j)
          (r.so j b with
          (subst (λ (o : Option Tree). IsSweep (setting h (record m { terms = t }) j) o v.seen c.args.procedure with) (sym trees)
          (subst (λ (x : Setting). IsSweep x G v.seen c.args.procedure with) (sym (setting_said m t same h j)) sweeps))));
    })
    c.sweep_looked.ensures.goes
