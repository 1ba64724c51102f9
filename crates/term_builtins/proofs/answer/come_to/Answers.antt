use Rattle.std.proofs.Common.{IfOk, OnOk, Ok, Err, List, false, refl, sym, subst}
use Rattle.std.specs.declared.result.Result.{Result}
use Rattle.term_store.specs.declared.cell.Cell.{Cell}
use Rattle.term_store.specs.declared.cell.Cell.TheVariants.{Variable}
use Rattle.term_store.specs.Terms.{term_of, trees_of}
use Rattle.term_builtins.specs.declared.answer.Answer.TheVariants as gives
use Rattle.term_builtins.specs.Meanings.{Meaning, meaning}
use Rattle.term_builtins.specs.Answers.{IsAnswer}
use Rattle.term_builtins.proofs.Grown.{further-itself}
use Rattle.term_builtins.proofs.Listed.{two-cells}
use Rattle.term_builtins.proofs.Called.{no_cells, many-others, other-count, one-cell, three-cells}
use Rattle.term_builtins.proofs.answer.come_to.Goals as goal

same-bindings : {T E : Type 0} (r : Result T E) (P : Type 0) → P → OnOk r P
same-bindings (Ok t) P h = h
same-bindings (Err e) P h = tt

pub returns-in-empty-clause-further : goal.returns-in-empty-clause-further
returns-in-empty-clause-further c = further-itself c.args.store.now c.args.names.now c.requires.named

pub returns-in-empty-clause-bindings : goal.returns-in-empty-clause-bindings
returns-in-empty-clause-bindings c = same-bindings c.answer_none.result _ refl

pub returns-in-empty-clause-answer : goal.returns-in-empty-clause-answer
returns-in-empty-clause-answer c =
    let s = c.args.store.now in let texts = c.args.names.now in
    subst (λ (cs : List Cell). IfOk c.answer_none.result (IsAnswer texts s s (meaning c.args.what s.variables (trees_of (term_of texts s) cs))))
    (sym (no_cells c.args.args.now c.in-empty.len_below)) c.answer_none.ensures.answer

pub returns-in-len1-clause-further : goal.returns-in-len1-clause-further
returns-in-len1-clause-further c = further-itself c.args.store.now c.args.names.now c.requires.named

pub returns-in-len1-clause-bindings : goal.returns-in-len1-clause-bindings
returns-in-len1-clause-bindings c = same-bindings c.answer_one.result _ refl

pub returns-in-len1-clause-answer : goal.returns-in-len1-clause-answer
returns-in-len1-clause-answer c =
    let s = c.args.store.now in let texts = c.args.names.now in
    subst (λ (cs : List Cell). IfOk c.answer_one.result (IsAnswer texts s s (meaning c.args.what s.variables (trees_of (term_of texts s) cs))))
    (sym (one-cell c.args.args.now (Variable 0) c.in-len1.len_at_least c.in-len1.len_below)) c.answer_one.ensures.answer

pub returns-in-len2-clause-answer : goal.returns-in-len2-clause-answer
returns-in-len2-clause-answer c =
    let s = c.args.store.now in let texts = c.answer_two.new.names in
    subst (λ (cs : List Cell). IfOk c.answer_two.result (IsAnswer texts s c.answer_two.new.store (meaning c.args.what s.variables (trees_of (term_of texts s) cs))))
    (sym (two-cells c.args.args.now (Variable 0) c.in-len2.len_at_least c.in-len2.len_below)) c.answer_two.ensures.answer

pub returns-in-len3-clause-answer : goal.returns-in-len3-clause-answer
returns-in-len3-clause-answer c =
    let s = c.args.store.now in let texts = c.answer_three.new.names in
    subst (λ (cs : List Cell). IfOk c.answer_three.result (IsAnswer texts s c.answer_three.new.store (meaning c.args.what s.variables (trees_of (term_of texts s) cs))))
    (sym (three-cells c.args.args.now (Variable 0) c.in-len3.len_at_least c.in-len3.len_below)) c.answer_three.ensures.answer

pub returns-in-len4-up-clause-further : goal.returns-in-len4-up-clause-further
returns-in-len4-up-clause-further c = further-itself c.args.store.now c.args.names.now c.requires.named

pub returns-in-len4-up-clause-answer : goal.returns-in-len4-up-clause-answer
returns-in-len4-up-clause-answer c =
    let s = c.args.store.now in let texts = c.args.names.now in
    subst (λ (m : Meaning). IsAnswer texts s s m (gives.Holds false))
    (sym (other-count c.args.what s.variables (trees_of (term_of texts s) c.args.args.now) (many-others (term_of texts s) c.args.args.now c.in-len4-up.len_at_least))) (refl, refl)
