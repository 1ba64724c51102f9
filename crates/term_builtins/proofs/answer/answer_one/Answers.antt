use Rattle.std.proofs.Common.{false, refl, sym, subst}
use Rattle.prolog_terms.specs.Tree.{none, more}
use Rattle.term_store.specs.Terms.{term_of}
use Rattle.term_builtins.specs.declared.answer.Answer.TheVariants as gives
use Rattle.term_builtins.specs.declared.table.What.{What}
use Rattle.term_builtins.specs.Meanings.{Meaning, meaning}
use Rattle.term_builtins.specs.Answers.{IsAnswer}
use Rattle.term_builtins.proofs.Called.{one-other}
use Rattle.term_builtins.proofs.answer.answer_one.Goals as goal

pub returns-in-Test : goal.returns-in-Test
returns-in-Test c =
    let s = c.args.store.now in let texts = c.args.names.now in
    record {
      answer = subst (λ (w : What). IsAnswer texts s s (meaning w s.variables (more (term_of texts s c.args.only) none)) (gives.Holds c.is_of_kind.result)) (sym c.in-Test.is)
          (c.is_of_kind.ensures, refl);
    }

pub returns-in_default : goal.returns-in_default
returns-in_default c =
    let s = c.args.store.now in let texts = c.args.names.now in
    record { answer = subst (λ (m : Meaning). IsAnswer texts s s m (gives.Holds false)) (sym (one-other c.args.what s.variables (term_of texts s c.args.only) c.in_default.not-Test c.in_default.not-Write c.in_default.not-PutChar)) (refl, refl) }
