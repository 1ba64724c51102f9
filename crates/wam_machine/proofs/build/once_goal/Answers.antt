use Rattle.std.proofs.Common.{ap, ap₂, ◌∙◌, codes, ◌∷◌, []}
use Rattle.std.proofs.lemmas.Result.{IfOk-weaker, on_ok_weaker}
use Rattle.std.proofs.lemmas.List.Elements.{All-nil, All-cons}
use Rattle.prolog_terms.specs.Tree.{compound, atom, more, none}
use Rattle.term_store.specs.declared.cell.Cell.TheVariants.{Atom}
use Rattle.wam_machine.specs.Terms.{IsBuilt}
use Rattle.wam_machine.proofs.Built.{grown-further, atom-built, atom-term}
use Rattle.wam_machine.proofs.build.once_goal.Goals as goal

pub build-requires-clause-valid : goal.build-requires-clause-valid
build-requires-clause-valid g c =
    All-cons (IsBuilt c.word.new.terms) c.in_ok-called.called (Atom c.in_ok-truth.truth ∷ []) (c.in_ok-truth.ensures.grown.cells c.in_ok-called.called c.in_ok-called.ensures.cell).0
    (All-cons (IsBuilt c.word.new.terms) (Atom c.in_ok-truth.truth) [] (atom-built c.word.new.terms c.in_ok-truth.truth c.in_ok-truth.ensures.inside) (All-nil (IsBuilt c.word.new.terms)))

pub returns-clause-grown : goal.returns-clause-grown
returns-clause-grown g c =
    on_ok_weaker c.build.result
    (λ h. grown-further c.args.terms.now c.call_goal.new.terms c.build.new.terms c.in_ok-called.ensures.grown
    (grown-further c.call_goal.new.terms c.word.new.terms c.build.new.terms c.in_ok-truth.ensures.grown h))
    c.build.ensures.grown

pub returns-clause-term : goal.returns-clause-term
returns-clause-term g c =
    IfOk-weaker c.build.result _ _
    (λ w e. e ∙ ap₂ (λ a b. compound (codes "->") (more a (more b none)))
    ((c.in_ok-truth.ensures.grown.cells c.in_ok-called.called c.in_ok-called.ensures.cell).1 ∙ c.in_ok-called.ensures.term)
    (atom-term c.word.new.terms c.in_ok-truth.truth ∙ ap atom c.in_ok-truth.ensures.text))
    c.build.ensures.term
