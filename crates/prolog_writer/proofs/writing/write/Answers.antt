use Rattle.std.proofs.Common.{ℕ, List, ◌++◌, ◌∙◌, [], ap, sym, subst, append-nil}
use Rattle.prolog_terms.specs.Flat.{nodes as nodes_of}
use Rattle.prolog_writer.specs.Pieces.{written}
use Rattle.prolog_writer.specs.Again.{IsReadAs}
use Rattle.prolog_writer.proofs.writing.write.Goals as goal

pub returns-clause-text : goal.returns-clause-text
returns-clause-text c =
    let t = c.args.term.now in
    c.in_ok-write_front.ensures.text t [] c.nodes.ensures.arities (c.nodes.ensures.nodes ∙ sym (append-nil (nodes_of t)))
    ∙ ap (λ (l : List ℕ). l ++ written c.args.ops.now c.args.style c.args.max t) c.new-text.ensures.items

pub returns-clause-read_again : goal.returns-clause-read_again
returns-clause-read_again c = λ quotes.
    let t = c.args.term.now in
    let r = c.in_ok-write_front.ensures.read_again t [] c.nodes.ensures.arities c.nodes.ensures.wholes (c.nodes.ensures.nodes ∙ sym (append-nil (nodes_of t))) quotes in
    subst (λ (bytes : List ℕ). IsReadAs c.args.ops.now bytes t) (sym (r.1 ∙ ap (λ (l : List ℕ). l ++ r.0) c.new-text.ensures.items)) r.2
