use Rattle.std.proofs.Common.{◌≡◌, ℤ, true, false, ◌∙◌, length, ap, subst, refl, rules, codes, pos, w64, SFits}
use Rattle.std.specs.Prelude.{int_lt}
use Rattle.std.proofs.Math.Facts.{to_z-of_z}
use Rattle.term_store.specs.Terms.{text, term_of}
use Rattle.prolog_terms.specs.Tree.{integer}
use Rattle.prolog_terms.specs.Substitutions.{numbered}
use Rattle.prolog_terms.specs.declared.fault.Fault.TheVariants.{OfType, Domain}
use Rattle.term_builtins.proofs.Answered.{answer-equal, answer-raises}
use Rattle.term_builtins.proofs.Bytewise.{term-integer, long-free, long-whole, long-negative, long-other}
use Rattle.term_builtins.proofs.atoms.checked_length.Goals as goal

pub returns-then-value-lt0 : goal.returns-then-value-lt0
returns-then-value-lt0 c = record {
  answer = λ a is.
      let s = c.args.store.now in
      let texts = c.args.names.now in
      let t = term_of texts s c.args.count in
      let value : SFits w64 c.in-Integer.value = search rules in
      answer-raises texts s s _ (Domain (codes "not_less_than_zero") (numbered t)) c.in_ok-fault-in-Integer.fault
      (long-negative a t c.in-Integer.value (c.in-Integer.ensures.term texts) (subst (λ (z : ℤ). int_lt z (pos 0) ≡ true) (to_z-of_z value) c.if-value-lt0.true)) c.in_ok-fault-in-Integer.ensures refl;
}

pub returns-in-Variable : goal.returns-in-Variable
returns-in-Variable c = record {
  answer = λ a is.
      let s = c.args.store.now in
      let texts = c.args.names.now in
      let t = term_of texts s c.args.count in
      let fits : SFits w64 c.args.long = search rules in
      answer-equal texts s s _ t (integer (pos (length a))) c.args.count _
      (long-free a t c.in-Variable.field-0 (c.in-Variable.ensures.term texts)) refl c.requires.count (tt, tt) refl (term-integer texts s _ ∙ ap integer (to_z-of_z fits ∙ is));
}

pub returns-else-value-lt0 : goal.returns-else-value-lt0
returns-else-value-lt0 c = record {
  answer = λ a is.
      let s = c.args.store.now in
      let texts = c.args.names.now in
      let t = term_of texts s c.args.count in
      let value : SFits w64 c.in-Integer.value = search rules in
      let fits : SFits w64 c.args.long = search rules in
      answer-equal texts s s _ t (integer (pos (length a))) c.args.count _
      (long-whole a t c.in-Integer.value (c.in-Integer.ensures.term texts) (subst (λ (z : ℤ). int_lt z (pos 0) ≡ false) (to_z-of_z value) c.if-value-lt0.false)) refl c.requires.count (tt, tt) refl (term-integer texts s _ ∙ ap integer (to_z-of_z fits ∙ is));
}

pub returns-in_ok-fault-in_default : goal.returns-in_ok-fault-in_default
returns-in_ok-fault-in_default c = record {
  answer = λ a is.
      let s = c.args.store.now in
      let texts = c.args.names.now in
      let t = term_of texts s c.args.count in
      answer-raises texts s s _ (OfType (codes "integer") (numbered t)) c.in_ok-fault-in_default.fault
      (long-other a t (text texts) (term_of texts s) c.look.result (c.look.ensures.term texts) c.in_default.not-Variable c.in_default.not-Integer) c.in_ok-fault-in_default.ensures refl;
}
