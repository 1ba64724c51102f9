use Rattle.std.proofs.Common.{ℕ, List, sym, subst, codes}
use Rattle.term_store.specs.Shape.{Shape}
use Rattle.term_store.specs.Heads.{IsFurther}
use Rattle.term_builtins.proofs.Grown.{further-itself, further-names, intern-longer}
use Rattle.term_builtins.proofs.Pairs.{first-further, second-further, pairs-answer}
use Rattle.term_builtins.proofs.compounds.both.Goals as goal

pub returns-in_err-comma-clause-further : goal.returns-in_err-comma-clause-further
returns-in_err-comma-clause-further c =
    subst (λ (texts : List (List ℕ)). IsFurther c.args.store.now c.args.names.now c.args.store.now texts) (sym c.in_err-comma.ensures.err) (further-itself c.args.store.now c.args.names.now c.requires.named)

pub returns-in_err-left-clause-further : goal.returns-in_err-left-clause-further
returns-in_err-left-clause-further c =
    subst (λ (s : Shape). IsFurther c.args.store.now c.args.names.now s c.intern.new.self) (sym c.in_err-left.ensures.err)
    (further-names c.args.store.now c.args.names.now c.intern.new.self (intern-longer c.args.names.now c.intern.new.self (codes ",") c.in_ok-comma.ensures.texts) (λ _. c.intern.ensures.distinct) c.requires.named)

pub returns-in_err-right-clause-further : goal.returns-in_err-right-clause-further
returns-in_err-right-clause-further c =
    subst (λ (s : Shape). IsFurther c.args.store.now c.args.names.now s c.intern.new.self) (sym c.in_err-right.ensures.err)
    (first-further c.args.store.now c.compound.new.self c.compound.new.self c.args.names.now c.intern.new.self c.in_ok-comma.comma c.args.first c.args.second c.args.third c.args.fourth c.in_ok-left.left c.in_ok-left.left
    c.known.ensures c.requires.named (intern-longer c.args.names.now c.intern.new.self (codes ",") c.in_ok-comma.ensures.texts) (λ _. c.intern.ensures.distinct) c.in_ok-comma.ensures.number
    c.requires.first c.requires.second c.requires.third c.requires.fourth c.in_ok-left.ensures.ok c.in_ok-left.ensures.cell)

pub returns-clause-further : goal.returns-clause-further
returns-clause-further c =
    second-further c.args.store.now c.compound.new.self c.compound-2.new.self c.args.names.now c.intern.new.self c.in_ok-comma.comma c.args.first c.args.second c.args.third c.args.fourth c.in_ok-left.left c.in_ok-right.right
    c.known.ensures c.requires.named (intern-longer c.args.names.now c.intern.new.self (codes ",") c.in_ok-comma.ensures.texts) (λ _. c.intern.ensures.distinct) c.in_ok-comma.ensures.number
    c.requires.first c.requires.second c.requires.third c.requires.fourth c.in_ok-left.ensures.ok c.in_ok-left.ensures.cell c.known-2.ensures c.in_ok-right.ensures.ok c.in_ok-right.ensures.cell

pub returns-clause-answer : goal.returns-clause-answer
returns-clause-answer c =
    pairs-answer c.args.store.now c.compound.new.self c.compound-2.new.self c.args.names.now c.intern.new.self c.in_ok-comma.comma c.args.first c.args.second c.args.third c.args.fourth c.in_ok-left.left c.in_ok-right.right
    c.known.ensures c.requires.named (intern-longer c.args.names.now c.intern.new.self (codes ",") c.in_ok-comma.ensures.texts) (λ _. c.intern.ensures.distinct) c.in_ok-comma.ensures.number
    c.requires.first c.requires.second c.requires.third c.requires.fourth c.in_ok-left.ensures.ok c.in_ok-left.ensures.cell c.known-2.ensures c.in_ok-right.ensures.ok c.in_ok-right.ensures.cell
