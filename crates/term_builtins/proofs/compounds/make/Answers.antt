use Rattle.std.proofs.Common.{◌∙◌, refl, sym, ap, subst, IfOk, codes, rules, w64, SFits}
use Rattle.std.proofs.Math.Facts.{to_z-of_z}
use Rattle.prolog_terms.specs.declared.fault.Fault.TheVariants.{Instantiation, OfType}
use Rattle.prolog_terms.specs.Substitutions.{numbered}
use Rattle.term_store.specs.Terms.{text, term_of}
use Rattle.term_builtins.specs.Meanings.{Meaning, made_sized}
use Rattle.term_builtins.specs.Answers.{IsAnswer}
use Rattle.term_builtins.proofs.Answered.{answer-raises}
use Rattle.term_builtins.proofs.Grown.{further-itself}
use Rattle.term_builtins.proofs.Functors.{made-open, made-closed, named-compound, named-simple, named-other}
use Rattle.term_builtins.proofs.compounds.make.Goals as goal

pub returns-then-is_either_variable-clause-further : goal.returns-then-is_either_variable-clause-further
returns-then-is_either_variable-clause-further c = further-itself c.args.store.now c.args.names.now c.requires.named

pub returns-then-is_either_variable-clause-answer : goal.returns-then-is_either_variable-clause-answer
returns-then-is_either_variable-clause-answer c =
    let s = c.args.store.now in let texts = c.args.names.now in
    answer-raises texts s s _ Instantiation Instantiation
    (made-open s.variables (term_of texts s c.args.term) (term_of texts s c.args.name) (term_of texts s c.args.arity) c.is_either_variable.result c.is_either_variable.ensures c.if-is_either_variable.true) refl refl

pub returns-in_err-fault-in-Integer-clause-further : goal.returns-in_err-fault-in-Integer-clause-further
returns-in_err-fault-in-Integer-clause-further c = further-itself c.args.store.now c.args.names.now c.requires.named

pub returns-then-is_compound-clause-further : goal.returns-then-is_compound-clause-further
returns-then-is_compound-clause-further c = further-itself c.args.store.now c.args.names.now c.requires.named

pub returns-then-is_compound-clause-answer : goal.returns-then-is_compound-clause-answer
returns-then-is_compound-clause-answer c =
    let s = c.args.store.now in let texts = c.args.names.now in
    let t = term_of texts s c.args.term in let n = term_of texts s c.args.name in let a = term_of texts s c.args.arity in
    answer-raises texts s s _ (OfType (codes "atomic") (numbered n)) c.in_ok-fault-in-Integer.fault
    (made-closed s.variables t n a c.is_either_variable.result c.is_either_variable.ensures c.if-is_either_variable.false
    ∙ named-compound s.variables t n a c.in-Integer.count c.is_compound.result (c.in-Integer.ensures.term texts) c.is_compound.ensures c.if-is_compound.true)
    c.in_ok-fault-in-Integer.ensures refl

pub returns-in_err-fault-in_default : goal.returns-in_err-fault-in_default
returns-in_err-fault-in_default c = record { further = further-itself c.args.store.now c.args.names.now c.requires.named; bindings = search rules; answer = search rules }

pub returns-else-is_compound-clause-answer : goal.returns-else-is_compound-clause-answer
returns-else-is_compound-clause-answer c =
    let s = c.args.store.now in let texts = c.args.names.now in
    let t = term_of texts s c.args.term in let n = term_of texts s c.args.name in let a = term_of texts s c.args.arity in
    let fits : SFits w64 c.in-Integer.count = search rules in
    subst (λ (m : Meaning). IfOk c.make_sized.result (IsAnswer texts s c.make_sized.new.store m))
    (ap (made_sized s.variables t n) (to_z-of_z fits)
    ∙ sym (made-closed s.variables t n a c.is_either_variable.result c.is_either_variable.ensures c.if-is_either_variable.false
    ∙ named-simple s.variables t n a c.in-Integer.count c.is_compound.result (c.in-Integer.ensures.term texts) c.is_compound.ensures c.if-is_compound.false))
    c.make_sized.ensures.answer

pub returns-in_ok-fault-in_default : goal.returns-in_ok-fault-in_default
returns-in_ok-fault-in_default c =
    let s = c.args.store.now in let texts = c.args.names.now in
    let t = term_of texts s c.args.term in let n = term_of texts s c.args.name in let a = term_of texts s c.args.arity in
    record {
      further = further-itself s texts c.requires.named;
      bindings = refl;
      answer = answer-raises texts s s _ (OfType (codes "integer") (numbered a)) c.in_ok-fault-in_default.fault
          (made-closed s.variables t n a c.is_either_variable.result c.is_either_variable.ensures c.if-is_either_variable.false
          ∙ named-other s.variables t n a (text texts) (term_of texts s) c.look.result (c.look.ensures.term texts) c.in_default.not-Integer)
          c.in_ok-fault-in_default.ensures refl;
    }
