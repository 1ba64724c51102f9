use Rattle.std.proofs.Common.{◌∙◌, refl, ap, rules, w64, SFits}
use Rattle.std.proofs.Math.Facts.{to_z-of_z}
use Rattle.prolog_terms.specs.Tree.{integer}
use Rattle.prolog_terms.specs.Substitutions.{substituted}
use Rattle.term_store.specs.Terms.{text, term_of, meaning as stands_for}
use Rattle.term_store.proofs.Rows.{raw-integer}
use Rattle.term_builtins.specs.Meanings.{valued}
use Rattle.term_builtins.proofs.Answered.{answer-equal}
use Rattle.term_builtins.proofs.numbers.evaluate.Goals as goal

pub returns-in-Ok : goal.returns-in-Ok
returns-in-Ok c =
    let s = c.args.store.now in
    let texts = c.args.names.now in
    let t = term_of texts s c.args.left in
    let fits : SFits w64 c.in-Ok.value = search rules in
    record {
      answer = answer-equal texts s s _ t (integer c.in-Ok.value) c.args.left _ (ap (valued t) c.in-Ok.ensures.value) refl c.requires.left (tt, tt) refl
          (ap (substituted (stands_for texts s)) (raw-integer (text texts) s.compounds _) ∙ ap integer (to_z-of_z fits));
    }
