use Rattle.std.proofs.Common.{◌∙◌, sym, ap, subst, refl, IfOk}
use Rattle.term_store.specs.Terms.{term_of}
use Rattle.term_builtins.specs.Meanings.{Meaning, is_variable, char_element}
use Rattle.term_builtins.specs.Answers.{IsAnswer, IsByte}
use Rattle.term_builtins.proofs.Answered.{answer-raises}
use Rattle.term_builtins.proofs.Grown.{further-itself, term-names}
use Rattle.term_builtins.proofs.Bytewise.{byte-is, byte-not, coded-free, coded-bound}
use Rattle.term_builtins.proofs.atoms.char_code.Goals as goal

pub returns-then-is_variable-clause-further : goal.returns-then-is_variable-clause-further
returns-then-is_variable-clause-further c = c.from_code.ensures.further

pub returns-then-is_variable-clause-answer : goal.returns-then-is_variable-clause-answer
returns-then-is_variable-clause-answer c =
    let s = c.args.store.now in
    let new = c.from_code.new.names in
    let longer = c.from_code.ensures.further.longer in
    subst (λ (m : Meaning). IfOk c.from_code.result (IsAnswer new s s m))
    (sym (coded-free (term_of new s c.args.char) (term_of new s c.args.code)
    (ap is_variable (term-names s c.args.names.now new c.args.char c.known.ensures c.requires.named longer c.requires.char) ∙ sym c.is_variable.ensures ∙ c.if-is_variable.true)))
    c.from_code.ensures.answer

pub returns-in_err-fault-clause-further : goal.returns-in_err-fault-clause-further
returns-in_err-fault-clause-further c = further-itself c.args.store.now c.args.names.now c.requires.named

pub returns-in-Not-clause-further : goal.returns-in-Not-clause-further
returns-in-Not-clause-further c = further-itself c.args.store.now c.args.names.now c.requires.named

pub returns-in-Not-clause-answer : goal.returns-in-Not-clause-answer
returns-in-Not-clause-answer c =
    let s = c.args.store.now in
    let texts = c.args.names.now in
    let char = term_of texts s c.args.char in
    answer-raises texts s s _ c.in-Not.fault c.in-Not.fault
    (coded-bound char (term_of texts s c.args.code) (sym c.is_variable.ensures ∙ c.if-is_variable.false)
    ∙ byte-not (char_element char) c.in-Not.fault _ (subst (IsByte (char_element char)) c.in-Not.is c.in_ok-fault.ensures)) refl refl

pub returns-in-Of-clause-further : goal.returns-in-Of-clause-further
returns-in-Of-clause-further c = further-itself c.args.store.now c.args.names.now c.requires.named

pub returns-in-Of-clause-answer : goal.returns-in-Of-clause-answer
returns-in-Of-clause-answer c =
    let s = c.args.store.now in
    let texts = c.args.names.now in
    let char = term_of texts s c.args.char in
    subst (λ (m : Meaning). IfOk c.to_code.result (IsAnswer texts s s m))
    (sym (coded-bound char (term_of texts s c.args.code) (sym c.is_variable.ensures ∙ c.if-is_variable.false)
    ∙ byte-is (char_element char) c.in-Of.byte _ (subst (IsByte (char_element char)) c.in-Of.is c.in_ok-fault.ensures)))
    c.to_code.ensures.answer
