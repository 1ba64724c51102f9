use Rattle.std.proofs.Common.{ap₂, ◌∙◌}
use Rattle.std.proofs.lemmas.Result.{IfOk-weaker, on_ok_weaker}
use Rattle.prolog_terms.specs.Tree.{compound}
use Rattle.wam_machine.proofs.Built.{all-kept, trees-kept, grown-further}
use Rattle.wam_machine.proofs.build.build.Goals as goal

pub compound_of-requires-clause-valid : goal.compound_of-requires-clause-valid
compound_of-requires-clause-valid g c = all-kept c.args.terms.now c.word.new.terms c.args.arguments.now c.in_ok-number.ensures.grown c.requires.valid

pub returns-clause-grown : goal.returns-clause-grown
returns-clause-grown g c =
    on_ok_weaker c.compound_of.result (λ h. grown-further c.args.terms.now c.word.new.terms c.compound_of.new.terms c.in_ok-number.ensures.grown h) c.compound_of.ensures.grown

pub returns-clause-term : goal.returns-clause-term
returns-clause-term g c =
    IfOk-weaker c.compound_of.result _ _
    (λ w e. e ∙ ap₂ compound c.in_ok-number.ensures.text (trees-kept c.args.terms.now c.word.new.terms c.args.arguments.now c.in_ok-number.ensures.grown c.requires.valid))
    c.compound_of.ensures.term
