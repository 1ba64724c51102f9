use Rattle.std.proofs.Common.{◌∙◌, length, sym, ap}
use Rattle.prolog_terms.specs.Tree.{atom}
use Rattle.term_store.specs.Terms.{term_of}
use Rattle.term_builtins.proofs.Views.{named-atom, text-read}
use Rattle.term_builtins.proofs.Signs.{sign-order, sign-other}
use Rattle.term_builtins.proofs.orders.order_fault.Goals as goal

pub text-requires : goal.text-requires
text-requires c = named-atom (length c.args.names.now) c.args.store.now c.args.order c.in-Atom.name c.requires.named c.requires.valid.1 c.in-Atom.ensures.looks

pub returns-then-is_order-clause-free : goal.returns-then-is_order-clause-free
returns-then-is_order-clause-free c = λ left right.
    let texts = c.args.names.now in
    sign-order (term_of texts c.args.store.now c.args.order) left right c.text.result.now
    (c.in-Atom.ensures.term texts ∙ ap atom (text-read texts c.in-Atom.name c.text.result.now c.text.ensures))
    (sym c.is_order.ensures ∙ c.if-is_order.true)

pub returns-in_ok-fault-in-Atom-clause-raised : goal.returns-in_ok-fault-in-Atom-clause-raised
returns-in_ok-fault-in-Atom-clause-raised c = λ left right.
    let texts = c.args.names.now in
    sign-other (term_of texts c.args.store.now c.args.order) left right c.text.result.now c.in_ok-fault-in-Atom.fault
    (c.in-Atom.ensures.term texts ∙ ap atom (text-read texts c.in-Atom.name c.text.result.now c.text.ensures))
    (sym c.is_order.ensures ∙ c.if-is_order.false) c.in_ok-fault-in-Atom.ensures
