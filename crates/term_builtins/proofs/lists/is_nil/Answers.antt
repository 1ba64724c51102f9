use Rattle.std.proofs.Common.{length, sym, ap, ◌∙◌, codes}
use Rattle.term_builtins.specs.Meanings.{is_nil as is_nil_tree}
use Rattle.term_builtins.proofs.Views.{named-atom, tested-text}
use Rattle.term_builtins.proofs.lists.is_nil.Goals as goal

pub text-requires : goal.text-requires
text-requires c =
    named-atom (length c.args.names.now) c.args.store.now c.args.cell c.in-Atom.name c.requires.named c.requires.valid.1 c.in-Atom.ensures.looks

pub returns-in-Atom : goal.returns-in-Atom
returns-in-Atom c =
    sym (tested-text c.args.names.now c.in-Atom.name c.text.result.now c.as_slice.result.now (codes "[]") c.eq.result c.text.ensures c.eq.ensures c.as_slice.ensures)
    ∙ sym (ap is_nil_tree (c.in-Atom.ensures.term c.args.names.now))
