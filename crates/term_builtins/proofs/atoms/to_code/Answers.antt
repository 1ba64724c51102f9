use Rattle.std.proofs.Common.{ℤ, ◌∙◌, ap, subst, refl, rules, codes, pos, w64, SFits}
use Rattle.std.proofs.Math.Facts.{to_z-of_z}
use Rattle.term_store.specs.Terms.{text, term_of}
use Rattle.prolog_terms.specs.Tree.{integer}
use Rattle.prolog_terms.specs.Substitutions.{numbered}
use Rattle.prolog_terms.specs.declared.fault.Fault.TheVariants.{OfType}
use Rattle.term_builtins.specs.Meanings.{or_no, no_code, code_in}
use Rattle.term_builtins.specs.Answers.{IsByte}
use Rattle.term_builtins.proofs.Answered.{answer-equal, answer-raises}
use Rattle.term_builtins.proofs.Bytewise.{term-integer, byte-is, byte-not, to-free, to-whole, to-other}
use Rattle.term_builtins.proofs.atoms.to_code.Goals as goal

pub returns-in-Variable : goal.returns-in-Variable
returns-in-Variable c = record {
  answer =
      let s = c.args.store.now in
      let texts = c.args.names.now in
      let t = term_of texts s c.args.code in
      let fits : SFits w64 c.from.result = search rules in
      answer-equal texts s s _ t (integer (pos c.args.byte)) c.args.code _
      (to-free c.args.byte t c.in-Variable.field-0 (c.in-Variable.ensures.term texts)) refl c.requires.code (tt, tt) refl (term-integer texts s _ ∙ ap integer (to_z-of_z fits ∙ c.from.ensures));
}

pub returns-in-Not : goal.returns-in-Not
returns-in-Not c = record {
  answer =
      let s = c.args.store.now in
      let texts = c.args.names.now in
      let t = term_of texts s c.args.code in
      let whole : SFits w64 c.in-Integer.value = search rules in
      let found : IsByte (or_no no_code (code_in c.in-Integer.value)) c.in_ok-fault-in-Integer.field-0 =
      subst (λ (z : ℤ). IsByte (or_no no_code (code_in z)) c.in_ok-fault-in-Integer.field-0) (to_z-of_z whole) c.in_ok-fault-in-Integer.ensures in
      answer-raises texts s s _ c.in-Not.fault c.in-Not.fault
      (to-whole c.args.byte t c.in-Integer.value (c.in-Integer.ensures.term texts)
      ∙ byte-not _ c.in-Not.fault _ (subst (IsByte (or_no no_code (code_in c.in-Integer.value))) c.in-Not.is found)) refl refl;
}

pub returns-in-Of : goal.returns-in-Of
returns-in-Of c = record {
  answer =
      let s = c.args.store.now in
      let texts = c.args.names.now in
      let t = term_of texts s c.args.code in
      let fits : SFits w64 c.from-in-Of.result = search rules in
      let whole : SFits w64 c.in-Integer.value = search rules in
      let found : IsByte (or_no no_code (code_in c.in-Integer.value)) c.in_ok-fault-in-Integer.field-0 =
      subst (λ (z : ℤ). IsByte (or_no no_code (code_in z)) c.in_ok-fault-in-Integer.field-0) (to_z-of_z whole) c.in_ok-fault-in-Integer.ensures in
      answer-equal texts s s _ t (integer (pos c.args.byte)) c.args.code _
      (to-whole c.args.byte t c.in-Integer.value (c.in-Integer.ensures.term texts)
      ∙ byte-is _ c.in-Of.field-0 _ (subst (IsByte (or_no no_code (code_in c.in-Integer.value))) c.in-Of.is found))
      refl c.requires.code (tt, tt) refl (term-integer texts s _ ∙ ap integer (to_z-of_z fits ∙ c.from-in-Of.ensures));
}

pub returns-in_ok-fault-in_default : goal.returns-in_ok-fault-in_default
returns-in_ok-fault-in_default c = record {
  answer =
      let s = c.args.store.now in
      let texts = c.args.names.now in
      let t = term_of texts s c.args.code in
      answer-raises texts s s _ (OfType (codes "integer") (numbered t)) c.in_ok-fault-in_default.fault
      (to-other c.args.byte t (text texts) (term_of texts s) c.look.result (c.look.ensures.term texts) c.in_default.not-Variable c.in_default.not-Integer) c.in_ok-fault-in_default.ensures refl;
}
