use Rattle.std.proofs.Common.{sym, subst}
use Rattle.term_store.specs.Shape.{Shape}
use Rattle.term_store.specs.Heads.{IsFurther}
use Rattle.term_builtins.proofs.Grown.{further-itself}
use Rattle.term_builtins.proofs.Copied.{copied-further, copied-answer}
use Rattle.term_builtins.proofs.compounds.copy.Goals as goal

pub returns-in_err-made-clause-further : goal.returns-in_err-made-clause-further
returns-in_err-made-clause-further c =
    subst (λ (s : Shape). IsFurther c.args.store.now c.args.names.now s c.args.names.now) (sym c.in_err-made.ensures.err) (further-itself c.args.store.now c.args.names.now c.requires.named)

pub returns-clause-further : goal.returns-clause-further
returns-clause-further c =
    copied-further c.args.store.now c.copy.new.self c.args.source c.in_ok-made.made c.args.names.now c.in_ok-made.ensures.copy c.requires.named c.requires.source

pub returns-clause-bindings : goal.returns-clause-bindings
returns-clause-bindings c = c.in_ok-made.ensures.copy.bindings

pub returns-clause-answer : goal.returns-clause-answer
returns-clause-answer c =
    copied-answer c.args.store.now c.copy.new.self c.args.source c.in_ok-made.made c.args.names.now c.in_ok-made.ensures.copy c.requires.named c.requires.source c.known.ensures c.args.target c.requires.target
