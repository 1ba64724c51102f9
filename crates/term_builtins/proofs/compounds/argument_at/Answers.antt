use Rattle.std.proofs.Common.{◌∙◌, false, Some, None, refl, sym, ap, subst, codes, length, w64}
use mir.Val.{to_z, of_z}
use Rattle.std.proofs.Math.Facts.{to_z-of_z}
use Rattle.prolog_terms.specs.Tree.{Tree, integer}
use Rattle.prolog_terms.specs.declared.fault.Fault.TheVariants.{OfType, Domain}
use Rattle.prolog_terms.specs.Substitutions.{numbered}
use Rattle.term_store.specs.Terms.{text, trees_of, term_of}
use Rattle.term_builtins.specs.declared.answer.Answer.TheVariants as gives
use Rattle.term_builtins.specs.Meanings.{Meaning}
use Rattle.term_builtins.specs.Answers.{IsAnswer}
use Rattle.term_builtins.proofs.Answered.{answer-equal, answer-raises}
use Rattle.term_builtins.proofs.Views.{kept}
use Rattle.term_builtins.proofs.NewCells.{integer-term}
use Rattle.term_builtins.proofs.Functors.{small-cast, in-compound, in-other, at-lower, at-zero, at-found, slice_has}
use Rattle.term_builtins.proofs.compounds.argument_at.Goals as goal

pub returns-then-place-lt0 : goal.returns-then-place-lt0
returns-then-place-lt0 c =
    let s = c.args.store.now in let texts = c.args.names.now in let t = term_of texts s c.args.part in
    record {
      answer = answer-raises texts s s _ (Domain (codes "not_less_than_zero") (integer c.args.place)) c.in_ok-fault-in-Compound.fault
          (in-compound (term_of texts s c.args.whole) t c.args.place _ (term_of texts s) c.in-Compound.arguments.now (c.in-Compound.ensures.term texts)
          ∙ at-lower (trees_of (term_of texts s) c.in-Compound.arguments.now) t c.args.place c.ranges.place c.if-place-lt0.true)
          (c.in_ok-fault-in-Compound.ensures
          ∙ ap (λ (u : Tree). Domain (codes "not_less_than_zero") (numbered u)) (integer-term texts s (to_z w64 (of_z w64 c.args.place)) ∙ ap integer (to_z-of_z c.ranges.place)))
          refl;
    }

pub returns-then-place-eq0 : goal.returns-then-place-eq0
returns-then-place-eq0 c =
    let s = c.args.store.now in let texts = c.args.names.now in let t = term_of texts s c.args.part in
    record {
      answer = subst (λ (m : Meaning). IsAnswer texts s s m (gives.Holds false))
          (sym (in-compound (term_of texts s c.args.whole) t c.args.place _ (term_of texts s) c.in-Compound.arguments.now (c.in-Compound.ensures.term texts)
          ∙ at-zero (trees_of (term_of texts s) c.in-Compound.arguments.now) t c.args.place c.ranges.place c.if-place-eq0.true))
          (refl, refl);
    }

pub overflow_cast-at : goal.overflow_cast-at
overflow_cast-at c = small-cast c.args.place c.ranges.place c.if-place-lt0.false

pub returns-in-Some : goal.returns-in-Some
returns-in-Some c =
    let s = c.args.store.now in let texts = c.args.names.now in let t = term_of texts s c.args.part in
    let row = kept (length texts) s c.args.whole c.in-Compound.field-0 c.in-Compound.arguments c.known.ensures c.requires.named c.in-Compound.ensures.looks in
    record {
      answer = answer-equal texts s s _ (term_of texts s c.in-Some.found) t c.in-Some.found c.args.part
          (in-compound (term_of texts s c.args.whole) t c.args.place _ (term_of texts s) c.in-Compound.arguments.now (c.in-Compound.ensures.term texts)
          ∙ at-found (term_of texts s) c.in-Compound.arguments.now t c.args.place (Some c.in-Some.found) c.ranges.place c.if-place-lt0.false c.if-place-eq0.false c.in-Some.ensures)
          refl (slice_has (length texts) s c.in-Compound.arguments.now _ c.in-Some.found row.args c.in-Some.ensures) c.requires.part refl refl;
    }

pub returns-in-None : goal.returns-in-None
returns-in-None c =
    let s = c.args.store.now in let texts = c.args.names.now in let t = term_of texts s c.args.part in
    record {
      answer = subst (λ (m : Meaning). IsAnswer texts s s m (gives.Holds false))
          (sym (in-compound (term_of texts s c.args.whole) t c.args.place _ (term_of texts s) c.in-Compound.arguments.now (c.in-Compound.ensures.term texts)
          ∙ at-found (term_of texts s) c.in-Compound.arguments.now t c.args.place None c.ranges.place c.if-place-lt0.false c.if-place-eq0.false c.in-None.ensures))
          (refl, refl);
    }

pub returns-in_ok-fault-in_default : goal.returns-in_ok-fault-in_default
returns-in_ok-fault-in_default c =
    let s = c.args.store.now in let texts = c.args.names.now in
    record {
      answer = answer-raises texts s s _ (OfType (codes "compound") (numbered (term_of texts s c.args.whole))) c.in_ok-fault-in_default.fault
          (in-other (term_of texts s c.args.whole) (term_of texts s c.args.part) c.args.place (text texts) (term_of texts s) c.look.result (c.look.ensures.term texts) c.in_default.not-Compound)
          c.in_ok-fault-in_default.ensures refl;
    }
