use Rattle.std.proofs.Common.{length, sym, ◌∙◌, subst, codes, arith, None}
use Rattle.prolog_terms.specs.Tree.{Tree}
use Rattle.term_store.specs.declared.cell.Cell.TheVariants.{Variable}
use Rattle.term_store.specs.Terms.{text, term_of}
use Rattle.term_builtins.specs.Answers.{AreParts}
use Rattle.term_builtins.proofs.Views.{kept, tested-text}
use Rattle.term_builtins.proofs.Listed.{parts-cell, parts-other, bare-count, bare-view}
use Rattle.term_builtins.proofs.lists.parts.Goals as goal

pub text-requires : goal.text-requires
text-requires c =
    (kept (length c.args.names.now) c.args.store.now c.args.list c.in-Compound.name c.in-Compound.arguments c.known.ensures c.requires.named c.in-Compound.ensures.looks).name

pub returns-then-eq : goal.returns-then-eq
returns-then-eq c =
    let s = c.args.store.now in let texts = c.args.names.now in
    parts-cell texts s (term_of texts s c.args.list) (text texts c.in-Compound.name) c.in-Compound.arguments.now (Variable 0) c.in-len2.len_at_least c.in-len2.len_below
    (c.in-Compound.ensures.term texts)
    (tested-text texts c.in-Compound.name c.text.result.now c.as_slice.result.now (codes ".") c.eq.result c.text.ensures c.eq.ensures c.as_slice.ensures ∙ c.if-eq.true)
    (kept (length texts) s c.args.list c.in-Compound.name c.in-Compound.arguments c.known.ensures c.requires.named c.in-Compound.ensures.looks).args

pub returns-else-eq : goal.returns-else-eq
returns-else-eq c =
    let s = c.args.store.now in let texts = c.args.names.now in
    parts-other texts s (term_of texts s c.args.list) (text texts c.in-Compound.name) c.in-Compound.arguments.now (Variable 0) c.in-len2.len_at_least c.in-len2.len_below
    (c.in-Compound.ensures.term texts)
    (tested-text texts c.in-Compound.name c.text.result.now c.as_slice.result.now (codes ".") c.eq.result c.text.ensures c.eq.ensures c.as_slice.ensures ∙ c.if-eq.false)

pub returns-in_default-arguments : goal.returns-in_default-arguments
returns-in_default-arguments c =
    let s = c.args.store.now in let texts = c.args.names.now in let few = c.in_default-arguments.len_below in
    subst (λ (u : Tree). AreParts texts s u None) (sym (c.in-Compound.ensures.term texts))
    (bare-count texts s (text texts c.in-Compound.name) (term_of texts s) c.in-Compound.arguments.now (λ p q. omega (arith, p, few)))

pub returns-in_default-arguments-2 : goal.returns-in_default-arguments-2
returns-in_default-arguments-2 c =
    let s = c.args.store.now in let texts = c.args.names.now in let many = c.in_default-arguments.len_at_least in
    subst (λ (u : Tree). AreParts texts s u None) (sym (c.in-Compound.ensures.term texts))
    (bare-count texts s (text texts c.in-Compound.name) (term_of texts s) c.in-Compound.arguments.now (λ p q. omega (arith, q, many)))

pub returns-in_default : goal.returns-in_default
returns-in_default c =
    let s = c.args.store.now in let texts = c.args.names.now in
    subst (λ (u : Tree). AreParts texts s u None) (sym (c.look.ensures.term texts))
    (bare-view texts s (text texts) (term_of texts s) c.look.result (λ f args e. c.in_default.not-Compound f args e))
