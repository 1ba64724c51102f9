use Rattle.std.proofs.Common.{ℕ, ℤ, w64, SFits, ◌∙◌, ◌∷◌, [], List, sym, subst, refl, rules, codes}
use Rattle.std.proofs.Math.Facts.{to_z-of_z}
use Rattle.term_store.specs.Terms.{text, term_of}
use Rattle.prolog_terms.specs.Substitutions.{numbered}
use Rattle.prolog_terms.specs.declared.fault.Fault.TheVariants.{Instantiation, OfType}
use Rattle.term_store.specs.declared.cell.Cell.TheVariants as cell
use Rattle.term_builtins.specs.Meanings.{or_no, no_code, code_in, char_tree}
use Rattle.term_store.specs.Heads.{IsFurther}
use Rattle.term_builtins.specs.Answers.{IsByte}
use Rattle.term_builtins.proofs.Answered.{answer-equal, answer-raises}
use Rattle.term_builtins.proofs.Grown.{further-itself, further-names, intern-longer, has-further}
use Rattle.term_builtins.proofs.Bytewise.{term-atom, has-atom, byte-is, byte-not, from-free, from-whole, from-other}
use Rattle.term_builtins.proofs.atoms.from_code.Goals as goal

pub returns-in_err-fault-in-Integer-clause-further :
    goal.returns-in_err-fault-in-Integer-clause-further
returns-in_err-fault-in-Integer-clause-further c = further-itself c.args.store.now c.args.names.now c.requires.named

pub returns-in_err-number-in-Of-clause-further : goal.returns-in_err-number-in-Of-clause-further
returns-in_err-number-in-Of-clause-further c =
    subst (λ (ts : List (List ℕ)). IsFurther c.args.store.now c.args.names.now c.args.store.now ts) (sym c.in_err-number-in-Of.ensures.err)
    (further-itself c.args.store.now c.args.names.now c.requires.named)

pub returns-in_err-fault-in_default-clause-further :
    goal.returns-in_err-fault-in_default-clause-further
returns-in_err-fault-in_default-clause-further c = further-itself c.args.store.now c.args.names.now c.requires.named

pub returns-in-Variable-clause-further : goal.returns-in-Variable-clause-further
returns-in-Variable-clause-further c = further-itself c.args.store.now c.args.names.now c.requires.named

pub returns-in-Variable-clause-answer : goal.returns-in-Variable-clause-answer
returns-in-Variable-clause-answer c =
    let s = c.args.store.now in
    let texts = c.args.names.now in
    answer-raises texts s s _ Instantiation Instantiation
    (from-free (term_of texts s c.args.char) (term_of texts s c.args.code) c.in-Variable.field-0 (c.in-Variable.ensures.term texts)) refl refl

pub returns-in-Not-clause-further : goal.returns-in-Not-clause-further
returns-in-Not-clause-further c = further-itself c.args.store.now c.args.names.now c.requires.named

pub returns-in-Not-clause-answer : goal.returns-in-Not-clause-answer
returns-in-Not-clause-answer c =
    let s = c.args.store.now in
    let texts = c.args.names.now in
    let whole : SFits w64 c.in-Integer.value = search rules in
    let found : IsByte (or_no no_code (code_in c.in-Integer.value)) c.in_ok-fault-in-Integer.field-0 =
    subst (λ (z : ℤ). IsByte (or_no no_code (code_in z)) c.in_ok-fault-in-Integer.field-0) (to_z-of_z whole) c.in_ok-fault-in-Integer.ensures in
    answer-raises texts s s _ c.in-Not.fault c.in-Not.fault
    (from-whole (term_of texts s c.args.char) (term_of texts s c.args.code) c.in-Integer.value (c.in-Integer.ensures.term texts)
    ∙ byte-not _ c.in-Not.fault _ (subst (IsByte (or_no no_code (code_in c.in-Integer.value))) c.in-Not.is found)) refl refl

pub returns-in_ok-number-in-Of-clause-further : goal.returns-in_ok-number-in-Of-clause-further
returns-in_ok-number-in-Of-clause-further c =
    further-names c.args.store.now c.args.names.now c.intern.new.self
    (intern-longer c.args.names.now c.intern.new.self (c.in-Of.byte ∷ []) c.in_ok-number-in-Of.ensures.texts) (λ _. c.intern.ensures.distinct) c.requires.named

pub returns-in_ok-number-in-Of-clause-answer : goal.returns-in_ok-number-in-Of-clause-answer
returns-in_ok-number-in-Of-clause-answer c =
    let s = c.args.store.now in
    let old = c.args.names.now in
    let new = c.intern.new.self in
    let longer = intern-longer old new (c.in-Of.byte ∷ []) c.in_ok-number-in-Of.ensures.texts in
    let further = further-names s old new longer (λ _. c.intern.ensures.distinct) c.requires.named in
    let char = term_of new s c.args.char in
    let whole : SFits w64 c.in-Integer.value = search rules in
    let found : IsByte (or_no no_code (code_in c.in-Integer.value)) c.in_ok-fault-in-Integer.field-0 =
    subst (λ (z : ℤ). IsByte (or_no no_code (code_in z)) c.in_ok-fault-in-Integer.field-0) (to_z-of_z whole) c.in_ok-fault-in-Integer.ensures in
    answer-equal new s s _ char (char_tree c.in-Of.byte) c.args.char (cell.Atom c.in_ok-number-in-Of.number)
    (from-whole char (term_of new s c.args.code) c.in-Integer.value (c.in-Integer.ensures.term new)
    ∙ byte-is _ c.in-Of.byte _ (subst (IsByte (or_no no_code (code_in c.in-Integer.value))) c.in-Of.is found))
    refl (has-further s s old new c.args.char further c.requires.char) (has-atom new s c.in_ok-number-in-Of.number (c.in-Of.byte ∷ []) c.in_ok-number-in-Of.ensures.number)
    refl (term-atom new s c.in_ok-number-in-Of.number (c.in-Of.byte ∷ []) c.in_ok-number-in-Of.ensures.number)

pub returns-in_ok-fault-in_default-clause-further :
    goal.returns-in_ok-fault-in_default-clause-further
returns-in_ok-fault-in_default-clause-further c = further-itself c.args.store.now c.args.names.now c.requires.named

pub returns-in_ok-fault-in_default-clause-answer :
    goal.returns-in_ok-fault-in_default-clause-answer
returns-in_ok-fault-in_default-clause-answer c =
    let s = c.args.store.now in
    let texts = c.args.names.now in
    let t = term_of texts s c.args.code in
    answer-raises texts s s _ (OfType (codes "integer") (numbered t)) c.in_ok-fault-in_default.fault
    (from-other (term_of texts s c.args.char) t (text texts) (term_of texts s) c.look.result (c.look.ensures.term texts) c.in_default.not-Variable c.in_default.not-Integer) c.in_ok-fault-in_default.ensures refl
