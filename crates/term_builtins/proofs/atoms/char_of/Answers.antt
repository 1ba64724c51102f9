use Rattle.std.proofs.Common.{◌∙◌, length, ap, arith}
use Rattle.term_store.specs.Terms.{text, term_of}
use Rattle.prolog_terms.specs.Tree.{atom}
use Rattle.term_builtins.proofs.Views.{named-atom, text-read}
use Rattle.term_builtins.proofs.Bytewise.{char-one, char-long, char-other, char-raises}
use Rattle.term_builtins.proofs.atoms.char_of.Goals as goal

pub text-text-requires : goal.text-text-requires
text-text-requires c =
    named-atom (length c.args.names.now) c.args.store.now c.args.cell c.in-Atom.name c.requires.named c.requires.valid.1 c.in-Atom.ensures.looks

pub returns-then-text-eq1 : goal.returns-then-text-eq1
returns-then-text-eq1 c =
    let texts = c.args.names.now in
    char-one (term_of texts c.args.store.now c.args.cell) c.text-text.result.now
    (c.in-Atom.ensures.term texts ∙ ap atom (text-read texts c.in-Atom.name c.text-text.result.now c.text-text.ensures)) (omega arith) (omega arith)

pub returns-in_ok-fault-in-Atom : goal.returns-in_ok-fault-in-Atom
returns-in_ok-fault-in-Atom c =
    let s = c.args.store.now in
    let texts = c.args.names.now in
    let t = term_of texts s c.args.cell in
    char-raises t c.in_ok-fault-in-Atom.fault
    (char-long t c.text-text.result.now (c.in-Atom.ensures.term texts ∙ ap atom (text-read texts c.in-Atom.name c.text-text.result.now c.text-text.ensures)) (λ some few. omega arith))
    c.in_ok-fault-in-Atom.ensures

pub returns-in_ok-fault-in_default : goal.returns-in_ok-fault-in_default
returns-in_ok-fault-in_default c =
    let s = c.args.store.now in
    let texts = c.args.names.now in
    let t = term_of texts s c.args.cell in
    char-raises t c.in_ok-fault-in_default.fault
    (char-other (text texts) (term_of texts s) c.look.result t (c.look.ensures.term texts) c.in_default.not-Variable c.in_default.not-Atom) c.in_ok-fault-in_default.ensures
