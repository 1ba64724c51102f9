use Rattle.std.proofs.Common.{◌≡◌, ◌∙◌, length, sym, ap, subst, refl, rules, codes, pos, w64, SFits}
use Rattle.std.proofs.Math.Facts.{to_z_pos}
use Rattle.term_store.specs.Terms.{text, term_of}
use Rattle.prolog_terms.specs.Tree.{atom}
use Rattle.prolog_terms.specs.Substitutions.{numbered}
use Rattle.prolog_terms.specs.declared.fault.Fault.TheVariants.{Instantiation, OfType}
use Rattle.term_builtins.specs.Meanings.{Meaning}
use Rattle.term_builtins.specs.Answers.{IsAnswer}
use Rattle.term_builtins.proofs.Views.{named-atom, text-read}
use Rattle.term_builtins.proofs.Answered.{answer-raises}
use Rattle.std.proofs.lemmas.Result.{IfOk-weaker}
use Rattle.term_builtins.proofs.Bytewise.{length-free, length-atom, length-other}
use Rattle.term_builtins.proofs.atoms.atom_length.Goals as goal

pub text-requires : goal.text-requires
text-requires c =
    named-atom (length c.args.names.now) c.args.store.now c.args.atom c.in-Atom.name c.requires.named c.requires.atom.1 c.in-Atom.ensures.looks

pub returns-in-Variable : goal.returns-in-Variable
returns-in-Variable c = record {
  answer =
      let s = c.args.store.now in
      let texts = c.args.names.now in
      answer-raises texts s s _ Instantiation Instantiation
      (length-free (term_of texts s c.args.atom) (term_of texts s c.args.count) c.in-Variable.field-0 (c.in-Variable.ensures.term texts)) refl refl;
}

pub returns-in-Atom : goal.returns-in-Atom
returns-in-Atom c = record {
  answer =
      let s = c.args.store.now in
      let texts = c.args.names.now in
      let e : term_of texts s c.args.atom ≡ atom c.text.result.now = c.in-Atom.ensures.term texts ∙ ap atom (text-read texts c.in-Atom.name c.text.result.now c.text.ensures) in
      let fits : SFits w64 (pos (length c.text.result.now)) = search rules in
      IfOk-weaker c.checked_length.result _ _
      (λ answer h. subst (λ (m : Meaning). IsAnswer texts s s m answer) (sym (length-atom (term_of texts s c.args.atom) (term_of texts s c.args.count) c.text.result.now e)) (h c.text.result.now (to_z_pos w64 fits.sfits)))
      c.checked_length.ensures.answer;
}

pub returns-in_ok-fault-in_default : goal.returns-in_ok-fault-in_default
returns-in_ok-fault-in_default c = record {
  answer =
      let s = c.args.store.now in
      let texts = c.args.names.now in
      let t = term_of texts s c.args.atom in
      answer-raises texts s s _ (OfType (codes "atom") (numbered t)) c.in_ok-fault-in_default.fault
      (length-other (text texts) (term_of texts s) c.look.result t (term_of texts s c.args.count) (c.look.ensures.term texts) c.in_default.not-Variable c.in_default.not-Atom) c.in_ok-fault-in_default.ensures refl;
}
