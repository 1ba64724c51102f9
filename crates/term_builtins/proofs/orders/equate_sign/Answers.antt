use Rattle.std.proofs.Common.{◌∙◌, ℕ, List, refl, sym, ap, ap₂, subst}
use Rattle.prolog_terms.specs.Tree.{atom}
use Rattle.prolog_terms.specs.Order.{standard_order}
use Rattle.term_store.specs.Terms.{term_of}
use Rattle.term_store.specs.Later.{AreLonger}
use Rattle.term_store.specs.Heads.{IsFurther}
use Rattle.term_store.proofs.Laws.{longer-itself}
use Rattle.term_builtins.specs.Meanings.{sign_of}
use Rattle.term_builtins.proofs.Views.{text-read}
use Rattle.term_builtins.proofs.Grown.{further-itself, further-names, intern-longer, number-low, has-further, term-names, term-atom}
use Rattle.term_builtins.proofs.Answered.{answer-equal}
use Rattle.term_builtins.proofs.orders.equate_sign.Goals as goal

pub returns-in_err-found-clause-further : goal.returns-in_err-found-clause-further
returns-in_err-found-clause-further c = further-itself c.args.store.now c.args.names.now c.requires.named

pub returns-in_err-sign-clause-further : goal.returns-in_err-sign-clause-further
returns-in_err-sign-clause-further c =
    subst (λ (texts : List (List ℕ)). IsFurther c.args.store.now c.args.names.now c.args.store.now texts) (sym c.in_err-sign.ensures.err)
    (further-itself c.args.store.now c.args.names.now c.requires.named)

pub returns-clause-further : goal.returns-clause-further
returns-clause-further c =
    further-names c.args.store.now c.args.names.now c.intern.new.self (intern-longer c.args.names.now c.intern.new.self _ c.in_ok-sign.ensures.texts)
    (λ _. c.intern.ensures.distinct) c.requires.named

pub returns-clause-answer : goal.returns-clause-answer
returns-clause-answer c =
    let s = c.args.store.now in
    let old = c.args.names.now in
    let new = c.intern.new.self in
    let longer : AreLonger old new = intern-longer old new _ c.in_ok-sign.ensures.texts in
    let number = c.in_ok-sign.ensures.number in
    answer-equal new s s _ (term_of new s c.args.order) (sign_of (standard_order (term_of new s c.args.left) (term_of new s c.args.right))) c.args.order _ refl refl
    (has-further s s old new c.args.order (further-names s old new longer (λ _. c.intern.ensures.distinct) c.requires.named) c.requires.order)
    (tt, number-low new new c.in_ok-sign.sign c.sign_of.result.now (longer-itself new) number)
    refl
    (term-atom s new c.in_ok-sign.sign ∙ ap atom (text-read new c.in_ok-sign.sign c.sign_of.result.now number) ∙ sym c.sign_of.ensures
    ∙ ap sign_of (c.in_ok-found.ensures
    ∙ ap₂ standard_order (sym (term-names s old new c.args.left c.known.ensures c.requires.named longer c.requires.left)) (sym (term-names s old new c.args.right c.known.ensures c.requires.named longer c.requires.right))))
