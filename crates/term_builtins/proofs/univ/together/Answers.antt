use Rattle.std.proofs.Common.{length, sym, subst, codes, refl}
use Rattle.prolog_terms.specs.Substitutions.{numbered}
use Rattle.prolog_terms.specs.declared.fault.Fault.TheVariants.{Instantiation, OfType, Representation}
use Rattle.term_store.specs.Shape.{Shape}
use Rattle.term_store.specs.Terms.{text, term_of, trees_of}
use Rattle.term_store.specs.Heads.{IsFurther}
use Rattle.term_builtins.proofs.Views.{named-atom, no-more, some-more}
use Rattle.term_builtins.proofs.Grown.{further-itself, further-compound}
use Rattle.term_builtins.proofs.Answered.{answer-equal, answer-raises, answer-compound}
use Rattle.term_builtins.proofs.Universal.{put-variable, put-compound, put-integer, put-integer-more, put-atom, put-many, put-row}
use Rattle.term_builtins.proofs.univ.together.Goals as goal

pub returns-in_err-fault-in-Compound-clause-further : goal.returns-in_err-fault-in-Compound-clause-further
returns-in_err-fault-in-Compound-clause-further c = further-itself c.args.store.now c.args.names.now c.requires.named

pub returns-then-is_empty-clause-further : goal.returns-then-is_empty-clause-further
returns-then-is_empty-clause-further c = further-itself c.args.store.now c.args.names.now c.requires.named

pub returns-in_err-fault-in-Integer-clause-further : goal.returns-in_err-fault-in-Integer-clause-further
returns-in_err-fault-in-Integer-clause-further c = further-itself c.args.store.now c.args.names.now c.requires.named

pub returns-then-is_empty-2-clause-further : goal.returns-then-is_empty-2-clause-further
returns-then-is_empty-2-clause-further c = further-itself c.args.store.now c.args.names.now c.requires.named

pub returns-in_err-fault-in-Atom-clause-further : goal.returns-in_err-fault-in-Atom-clause-further
returns-in_err-fault-in-Atom-clause-further c = further-itself c.args.store.now c.args.names.now c.requires.named

pub returns-then-rest-gt255-clause-further : goal.returns-then-rest-gt255-clause-further
returns-then-rest-gt255-clause-further c = further-itself c.args.store.now c.args.names.now c.requires.named

pub returns-in-Variable-clause-further : goal.returns-in-Variable-clause-further
returns-in-Variable-clause-further c = further-itself c.args.store.now c.args.names.now c.requires.named

pub returns-in_ok-fault-in-Compound-clause-further : goal.returns-in_ok-fault-in-Compound-clause-further
returns-in_ok-fault-in-Compound-clause-further c = further-itself c.args.store.now c.args.names.now c.requires.named

pub returns-in_ok-fault-in-Integer-clause-further : goal.returns-in_ok-fault-in-Integer-clause-further
returns-in_ok-fault-in-Integer-clause-further c = further-itself c.args.store.now c.args.names.now c.requires.named

pub returns-in_err-made-in-Atom-clause-further : goal.returns-in_err-made-in-Atom-clause-further
returns-in_err-made-in-Atom-clause-further c =
    subst (λ (s : Shape). IsFurther c.args.store.now c.args.names.now s c.args.names.now) (sym c.in_err-made-in-Atom.ensures.err)
    (further-itself c.args.store.now c.args.names.now c.requires.named)

pub returns-in_ok-made-in-Atom-clause-further : goal.returns-in_ok-made-in-Atom-clause-further
returns-in_ok-made-in-Atom-clause-further c =
    subst (λ (s : Shape). IsFurther c.args.store.now c.args.names.now s c.args.names.now) (sym c.in_ok-made-in-Atom.ensures.ok)
    (further-compound c.args.store.now c.args.names.now c.in-Atom.name c.args.rest.now c.requires.named
    (named-atom (length c.args.names.now) c.args.store.now c.args.first c.in-Atom.name c.requires.named c.requires.first.1 c.in-Atom.ensures.looks) c.requires.rest)

pub returns-in-Variable-clause-answer : goal.returns-in-Variable-clause-answer
returns-in-Variable-clause-answer c =
    let s = c.args.store.now in let texts = c.args.names.now in
    answer-raises texts s s _ Instantiation Instantiation (put-variable (term_of texts s c.args.term) (term_of texts s c.args.first) _ c.in-Variable.field-0 (c.in-Variable.ensures.term texts)) refl refl

pub returns-in_ok-fault-in-Compound-clause-answer : goal.returns-in_ok-fault-in-Compound-clause-answer
returns-in_ok-fault-in-Compound-clause-answer c =
    let s = c.args.store.now in let texts = c.args.names.now in
    answer-raises texts s s _ (OfType (codes "atomic") (numbered (term_of texts s c.args.first))) c.in_ok-fault-in-Compound.fault
    (put-compound (term_of texts s c.args.term) (term_of texts s c.args.first) _ (text texts c.in-Compound.field-0) (trees_of (term_of texts s) c.in-Compound.field-1.now) (c.in-Compound.ensures.term texts))
    c.in_ok-fault-in-Compound.ensures refl

pub returns-then-is_empty-clause-answer : goal.returns-then-is_empty-clause-answer
returns-then-is_empty-clause-answer c =
    let s = c.args.store.now in let texts = c.args.names.now in
    answer-equal texts s s _ (term_of texts s c.args.term) (term_of texts s c.args.first) c.args.term c.args.first
    (put-integer (term_of texts s c.args.term) (term_of texts s c.args.first) (term_of texts s) c.args.rest.now c.in-Integer.field-0 (c.in-Integer.ensures.term texts) (no-more _ _ c.if-is_empty.true c.is_empty.ensures))
    refl c.requires.term c.requires.first refl refl

pub returns-in_ok-fault-in-Integer-clause-answer : goal.returns-in_ok-fault-in-Integer-clause-answer
returns-in_ok-fault-in-Integer-clause-answer c =
    let s = c.args.store.now in let texts = c.args.names.now in
    answer-raises texts s s _ (OfType (codes "atom") (numbered (term_of texts s c.args.first))) c.in_ok-fault-in-Integer.fault
    (put-integer-more (term_of texts s c.args.term) (term_of texts s c.args.first) (term_of texts s) c.args.rest.now c.in-Integer.field-0 (c.in-Integer.ensures.term texts) (some-more _ _ c.if-is_empty.false c.is_empty.ensures))
    c.in_ok-fault-in-Integer.ensures refl

pub returns-then-is_empty-2-clause-answer : goal.returns-then-is_empty-2-clause-answer
returns-then-is_empty-2-clause-answer c =
    let s = c.args.store.now in let texts = c.args.names.now in
    answer-equal texts s s _ (term_of texts s c.args.term) (term_of texts s c.args.first) c.args.term c.args.first
    (put-atom (term_of texts s c.args.term) (term_of texts s c.args.first) (term_of texts s) c.args.rest.now (text texts c.in-Atom.name) (c.in-Atom.ensures.term texts) (no-more _ _ c.if-is_empty-2.true c.is_empty-in-Atom.ensures))
    refl c.requires.term c.requires.first refl refl

pub returns-then-rest-gt255-clause-answer : goal.returns-then-rest-gt255-clause-answer
returns-then-rest-gt255-clause-answer c =
    let s = c.args.store.now in let texts = c.args.names.now in
    answer-raises texts s s _ (Representation (codes "max_arity")) c.in_ok-fault-in-Atom.fault
    (put-many (term_of texts s c.args.term) (term_of texts s c.args.first) (term_of texts s) c.args.rest.now (text texts c.in-Atom.name) (c.in-Atom.ensures.term texts) c.if-rest-gt255.true)
    c.in_ok-fault-in-Atom.ensures refl

pub compound-requires-clause-some : goal.compound-requires-clause-some
compound-requires-clause-some c = some-more _ _ c.if-is_empty-2.false c.is_empty-in-Atom.ensures

pub compound-requires-clause-valid : goal.compound-requires-clause-valid
compound-requires-clause-valid c = λ k d lt. (c.requires.rest k d lt).0

pub returns-in_ok-made-in-Atom-clause-answer : goal.returns-in_ok-made-in-Atom-clause-answer
returns-in_ok-made-in-Atom-clause-answer c =
    let s = c.args.store.now in let texts = c.args.names.now in
    let some = some-more _ _ c.if-is_empty-2.false c.is_empty-in-Atom.ensures in
    answer-compound texts s c.compound.new.self _ c.args.term c.in_ok-made-in-Atom.made c.in-Atom.name c.args.rest.now c.known.ensures c.requires.named
    (named-atom (length texts) s c.args.first c.in-Atom.name c.requires.named c.requires.first.1 c.in-Atom.ensures.looks)
    some c.if-rest-gt255.false c.requires.rest c.requires.term
    (put-row (term_of texts s c.args.term) (term_of texts s c.args.first) (term_of texts s) c.args.rest.now (text texts c.in-Atom.name) (c.in-Atom.ensures.term texts) some c.if-rest-gt255.false)
    c.in_ok-made-in-Atom.ensures.ok c.in_ok-made-in-Atom.ensures.cell
