use Rattle.std.proofs.Common.{◌∙◌, ℤ, refl, sym, ap, subst, IfOk, codes, rules, w64, SFits}
use Rattle.std.proofs.Math.Facts.{to_z-of_z}
use Rattle.prolog_terms.specs.declared.fault.Fault.TheVariants.{Instantiation, OfType}
use Rattle.prolog_terms.specs.Substitutions.{numbered}
use Rattle.term_store.specs.Terms.{text, term_of}
use Rattle.term_builtins.specs.Meanings.{Meaning, argument_in}
use Rattle.term_builtins.specs.Answers.{IsAnswer}
use Rattle.term_builtins.proofs.Answered.{answer-raises}
use Rattle.term_builtins.proofs.Functors.{argument-open, argument-closed, numbered-integer, numbered-other}
use Rattle.term_builtins.proofs.compounds.argument.Goals as goal

pub returns-then-is_either_variable : goal.returns-then-is_either_variable
returns-then-is_either_variable c =
    let s = c.args.store.now in let texts = c.args.names.now in
    record {
      answer = answer-raises texts s s _ Instantiation Instantiation
          (argument-open (term_of texts s c.args.number) (term_of texts s c.args.whole) (term_of texts s c.args.part) c.is_either_variable.result c.is_either_variable.ensures c.if-is_either_variable.true) refl refl;
    }

pub returns-in-Integer : goal.returns-in-Integer
returns-in-Integer c =
    let s = c.args.store.now in let texts = c.args.names.now in
    let n = term_of texts s c.args.number in let w = term_of texts s c.args.whole in let t = term_of texts s c.args.part in
    let fits : SFits w64 c.in-Integer.place = search rules in
    record {
      answer = subst (λ (m : Meaning). IfOk c.argument_at.result (IsAnswer texts s s m))
          (ap (λ (z : ℤ). argument_in z w t) (to_z-of_z fits)
          ∙ sym (argument-closed n w t c.is_either_variable.result c.is_either_variable.ensures c.if-is_either_variable.false
          ∙ numbered-integer n w t c.in-Integer.place (c.in-Integer.ensures.term texts)))
          c.argument_at.ensures.answer;
    }

pub returns-in_ok-fault-in_default : goal.returns-in_ok-fault-in_default
returns-in_ok-fault-in_default c =
    let s = c.args.store.now in let texts = c.args.names.now in
    let n = term_of texts s c.args.number in let w = term_of texts s c.args.whole in let t = term_of texts s c.args.part in
    record {
      answer = answer-raises texts s s _ (OfType (codes "integer") (numbered n)) c.in_ok-fault-in_default.fault
          (argument-closed n w t c.is_either_variable.result c.is_either_variable.ensures c.if-is_either_variable.false
          ∙ numbered-other n w t (text texts) (term_of texts s) c.look.result (c.look.ensures.term texts) c.in_default.not-Integer)
          c.in_ok-fault-in_default.ensures refl;
    }
