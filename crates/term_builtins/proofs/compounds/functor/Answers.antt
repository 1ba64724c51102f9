use Rattle.std.proofs.Common.{◌∙◌, pos, length, sym, ap, ap₂, subst, arith, IfOk, w64}
use mir.Val.{to_z}
use Rattle.std.proofs.lemmas.Int.{to_z_pos}
use Rattle.prolog_terms.specs.Tree.{Tree, integer}
use Rattle.term_store.specs.Terms.{text, term_of}
use Rattle.term_builtins.specs.Meanings.{Meaning, both_equal}
use Rattle.term_builtins.specs.Answers.{IsAnswer}
use Rattle.term_builtins.proofs.Views.{kept}
use Rattle.term_builtins.proofs.NewCells.{integer-term, atom-term}
use Rattle.term_builtins.proofs.Functors.{functor-variable, functor-compound, functor-other}
use Rattle.term_builtins.proofs.compounds.functor.Goals as goal

pub overflow_cast-count : goal.overflow_cast-count
overflow_cast-count c =
    let row = kept (length c.args.names.now) c.args.store.now c.args.term c.in-Compound.functor c.in-Compound.arguments c.known.ensures c.requires.named c.in-Compound.ensures.looks in
    let few = row.few in omega (arith, few)

pub both-requires-clause-second : goal.both-requires-clause-second
both-requires-clause-second c =
    (tt, (kept (length c.args.names.now) c.args.store.now c.args.term c.in-Compound.functor c.in-Compound.arguments c.known.ensures c.requires.named c.in-Compound.ensures.looks).name)

pub returns-in-Variable-clause-answer : goal.returns-in-Variable-clause-answer
returns-in-Variable-clause-answer c =
    let s = c.args.store.now in let texts = c.args.names.now in
    subst (λ (m : Meaning). IfOk c.make.result (IsAnswer texts s c.make.new.store m))
    (sym (functor-variable s.variables (term_of texts s c.args.name) (term_of texts s c.args.arity) (term_of texts s c.args.term) c.in-Variable.field-0 (c.in-Variable.ensures.term texts)))
    c.make.ensures.answer

pub returns-in-Compound-clause-answer : goal.returns-in-Compound-clause-answer
returns-in-Compound-clause-answer c =
    let s = c.args.store.now in let texts = c.both.new.names in
    let n = term_of texts s c.args.name in let a = term_of texts s c.args.arity in
    let row = kept (length c.args.names.now) c.args.store.now c.args.term c.in-Compound.functor c.in-Compound.arguments c.known.ensures c.requires.named c.in-Compound.ensures.looks in
    let few = row.few in
    subst (λ (m : Meaning). IfOk c.both.result (IsAnswer texts s c.both.new.store m))
    (sym (functor-compound s.variables n a (term_of texts s c.args.term) (text texts c.in-Compound.functor) (term_of texts s) c.in-Compound.arguments.now (c.in-Compound.ensures.term texts)
    ∙ ap₂ (λ (x y : Tree). both_equal n x a y) (sym (atom-term texts s c.in-Compound.functor)) (sym (integer-term texts s (to_z w64 (length c.in-Compound.arguments.now)) ∙ ap integer (to_z_pos w64 (length c.in-Compound.arguments.now) (omega (arith, few)))))))
    c.both.ensures.answer

pub returns-in_default-clause-answer : goal.returns-in_default-clause-answer
returns-in_default-clause-answer c =
    let s = c.args.store.now in let texts = c.both-in_default.new.names in
    let n = term_of texts s c.args.name in let a = term_of texts s c.args.arity in let t = term_of texts s c.args.term in
    subst (λ (m : Meaning). IfOk c.both-in_default.result (IsAnswer texts s c.both-in_default.new.store m))
    (sym (functor-other s.variables n a (text texts) (term_of texts s) c.look.result t (c.look.ensures.term texts) c.in_default.not-Variable c.in_default.not-Compound
    ∙ ap (λ (x : Tree). both_equal n t a x) (sym (integer-term texts s (pos 0)))))
    c.both-in_default.ensures.answer
