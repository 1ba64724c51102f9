use Rattle.std.proofs.Common.{false, IfOk, refl, sym, subst}
use Rattle.prolog_terms.specs.Tree.{none, more}
use Rattle.term_store.specs.Terms.{term_of}
use Rattle.term_builtins.specs.declared.answer.Answer.TheVariants as gives
use Rattle.term_builtins.specs.declared.table.What.{What}
use Rattle.term_builtins.specs.Meanings.{Meaning, meaning}
use Rattle.term_builtins.specs.Answers.{IsAnswer}
use Rattle.term_builtins.proofs.Grown.{further-itself}
use Rattle.term_builtins.proofs.Called.{three-other}
use Rattle.term_builtins.proofs.answer.answer_three.Goals as goal

pub returns-in-Compare-clause-further : goal.returns-in-Compare-clause-further
returns-in-Compare-clause-further c = c.compare.ensures.further

pub returns-in-Compare-clause-answer : goal.returns-in-Compare-clause-answer
returns-in-Compare-clause-answer c =
    let s = c.args.store.now in let texts = c.compare.new.names in
    subst (λ (w : What). IfOk c.compare.result (IsAnswer texts s s (meaning w s.variables (more (term_of texts s c.args.first) (more (term_of texts s c.args.second) (more (term_of texts s c.args.third) none)))))) (sym c.in-Compare.is) c.compare.ensures.answer

pub returns-in-Functor-clause-further : goal.returns-in-Functor-clause-further
returns-in-Functor-clause-further c = c.functor.ensures.further

pub returns-in-Functor-clause-answer : goal.returns-in-Functor-clause-answer
returns-in-Functor-clause-answer c =
    let s = c.args.store.now in let texts = c.functor.new.names in
    subst (λ (w : What). IfOk c.functor.result (IsAnswer texts s c.functor.new.store (meaning w s.variables (more (term_of texts s c.args.first) (more (term_of texts s c.args.second) (more (term_of texts s c.args.third) none)))))) (sym c.in-Functor.is) c.functor.ensures.answer

pub returns-in-Argument-clause-further : goal.returns-in-Argument-clause-further
returns-in-Argument-clause-further c = further-itself c.args.store.now c.args.names.now c.requires.named

pub returns-in-Argument-clause-answer : goal.returns-in-Argument-clause-answer
returns-in-Argument-clause-answer c =
    let s = c.args.store.now in let texts = c.args.names.now in
    subst (λ (w : What). IfOk c.argument.result (IsAnswer texts s s (meaning w s.variables (more (term_of texts s c.args.first) (more (term_of texts s c.args.second) (more (term_of texts s c.args.third) none)))))) (sym c.in-Argument.is) c.argument.ensures.answer

pub returns-in_default : goal.returns-in_default
returns-in_default c =
    let s = c.args.store.now in let texts = c.args.names.now in
    record {
      further = further-itself s texts c.requires.named;
      bindings = refl;
      answer = subst (λ (m : Meaning). IsAnswer texts s s m (gives.Holds false))
          (sym (three-other c.args.what s.variables (term_of texts s c.args.first) (term_of texts s c.args.second) (term_of texts s c.args.third) c.in_default.not-Compare c.in_default.not-Functor c.in_default.not-Argument))
          (refl, refl);
    }
