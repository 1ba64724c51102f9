use Rattle.std.proofs.Common.{◌≡◌, Option, IfOk, IfNone, sym, subst}
use Rattle.prolog_terms.specs.Tree.{Tree}
use Rattle.prolog_terms.specs.Order.{standard_order}
use Rattle.prolog_terms.specs.declared.fault.Fault.{Fault}
use Rattle.term_store.specs.Terms.{term_of}
use Rattle.term_builtins.specs.Meanings.{Meaning, comparing, equal, sign_of}
use Rattle.term_builtins.specs.Answers.{IsAnswer}
use Rattle.term_builtins.proofs.Grown.{further-itself, term-names}
use Rattle.term_builtins.proofs.orders.compare.Goals as goal

pub returns-in_err-fault-clause-further : goal.returns-in_err-fault-clause-further
returns-in_err-fault-clause-further c = further-itself c.args.store.now c.args.names.now c.requires.named

pub returns-in-Some-clause-further : goal.returns-in-Some-clause-further
returns-in-Some-clause-further c = further-itself c.args.store.now c.args.names.now c.requires.named

pub returns-in-None-clause-answer : goal.returns-in-None-clause-answer
returns-in-None-clause-answer c =
    let s = c.args.store.now in
    let old = c.args.names.now in
    let new = c.equate_sign.new.names in
    let l = term_of new s c.args.left in
    let r = term_of new s c.args.right in
    let free : (left right : Tree) → comparing (term_of old s c.args.order) left right ≡ equal (term_of old s c.args.order) (sign_of (standard_order left right)) =
    subst (λ (o : Option Fault). IfNone o ((left right : Tree) → comparing (term_of old s c.args.order) left right ≡ equal (term_of old s c.args.order) (sign_of (standard_order left right))))
    c.in-None.is c.in_ok-fault.ensures.free in
    let e : comparing (term_of new s c.args.order) l r ≡ equal (term_of new s c.args.order) (sign_of (standard_order l r)) =
    subst (λ (t : Tree). comparing t l r ≡ equal t (sign_of (standard_order l r)))
    (sym (term-names s old new c.args.order c.known.ensures c.requires.named c.equate_sign.ensures.further.longer c.requires.order)) (free l r) in
    subst (λ (m : Meaning). IfOk c.equate_sign.result (IsAnswer new s s m)) (sym e) c.equate_sign.ensures.answer
