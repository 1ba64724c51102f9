use Rattle.std.proofs.Common.{ℕ, ◌∙◌, List, length, sym, ap, subst, refl, codes, All, IfOk, map}
use Rattle.term_store.specs.Terms.{text, term_of, HasTerm}
use Rattle.prolog_terms.specs.Tree.{atom}
use Rattle.prolog_terms.specs.Substitutions.{numbered}
use Rattle.prolog_terms.specs.declared.fault.Fault.TheVariants.{OfType}
use Rattle.term_store.specs.declared.cell.Cell.{Cell}
use Rattle.term_builtins.specs.Answers.{IsAnswer, byte_element, byte_tree}
use Rattle.term_builtins.proofs.Views.{named-atom, text-read}
use Rattle.term_builtins.proofs.Answered.{answer-raises, answer-list}
use Rattle.term_builtins.specs.declared.answer.Answer.TheVariants as gives
use Rattle.term_store.proofs.Laws.{longer-itself, longer-length, are_named-more, text-longer}
use Rattle.term_builtins.specs.Meanings.{Meaning, list_tree}
use Rattle.term_builtins.proofs.Grown.{further-itself, further-names, further-further}
use Rattle.term_builtins.proofs.Bytewise.{bytes-free, bytes-atom, bytes-other}
use Rattle.term_builtins.proofs.atoms.atom_bytes.Goals as goal

pub text-requires : goal.text-requires
text-requires c =
    named-atom (length c.args.names.now) c.args.store.now c.args.atom c.in-Atom.name c.requires.named c.requires.atom.1 c.in-Atom.ensures.looks

pub returns-in_err-text-in-Atom-clause-further : goal.returns-in_err-text-in-Atom-clause-further
returns-in_err-text-in-Atom-clause-further c = further-itself c.args.store.now c.args.names.now c.requires.named

pub returns-in_err-cells-in-Atom-clause-further : goal.returns-in_err-cells-in-Atom-clause-further
returns-in_err-cells-in-Atom-clause-further c =
    further-names c.args.store.now c.args.names.now c.byte_cells.new.names c.byte_cells.ensures.texts (λ _. c.byte_cells.ensures.distinct) c.requires.named

pub put_list-requires-clause-named : goal.put_list-requires-clause-named
put_list-requires-clause-named c =
    are_named-more (length c.args.names.now) (length c.byte_cells.new.names) c.args.store.now (longer-length c.args.names.now c.byte_cells.new.names c.byte_cells.ensures.texts) c.requires.named

pub put_list-requires-clause-valid : goal.put_list-requires-clause-valid
put_list-requires-clause-valid c =
    let names = c.byte_cells.new.names in
    subst (All (HasTerm (length names) c.args.store.now)) (sym c.as_slice-in-Atom.ensures.value) (c.in_ok-cells-in-Atom.ensures.cells names c.args.store.now (longer-itself names)).0

pub returns-in_err-made-in-Atom-clause-further : goal.returns-in_err-made-in-Atom-clause-further
returns-in_err-made-in-Atom-clause-further c =
    further-further c.args.store.now c.args.store.now c.put_list.new.store c.args.names.now c.byte_cells.new.names c.put_list.new.names
    (further-names c.args.store.now c.args.names.now c.byte_cells.new.names c.byte_cells.ensures.texts (λ _. c.byte_cells.ensures.distinct) c.requires.named)
    c.put_list.ensures.further

pub returns-in_err-fault-in_default-clause-further :
    goal.returns-in_err-fault-in_default-clause-further
returns-in_err-fault-in_default-clause-further c = further-itself c.args.store.now c.args.names.now c.requires.named

pub returns-in-Variable-clause-further : goal.returns-in-Variable-clause-further
returns-in-Variable-clause-further c = c.from_bytes.ensures.further

pub returns-in-Variable-clause-answer : goal.returns-in-Variable-clause-answer
returns-in-Variable-clause-answer c =
    let s = c.args.store.now in
    let new = c.from_bytes.new.names in
    subst (λ (m : Meaning). IfOk c.from_bytes.result (IsAnswer new s s m))
    (sym (bytes-free (byte_tree c.args.form) (byte_element c.args.form) (term_of new s c.args.atom) (term_of new s c.args.list) c.in-Variable.field-0 (c.in-Variable.ensures.term new)))
    c.from_bytes.ensures.answer

pub returns-in_ok-made-in-Atom-clause-further : goal.returns-in_ok-made-in-Atom-clause-further
returns-in_ok-made-in-Atom-clause-further c =
    further-further c.args.store.now c.args.store.now c.put_list.new.store c.args.names.now c.byte_cells.new.names c.put_list.new.names
    (further-names c.args.store.now c.args.names.now c.byte_cells.new.names c.byte_cells.ensures.texts (λ _. c.byte_cells.ensures.distinct) c.requires.named)
    c.put_list.ensures.further

pub returns-in_ok-made-in-Atom-clause-answer : goal.returns-in_ok-made-in-Atom-clause-answer
returns-in_ok-made-in-Atom-clause-answer c =
    let s = c.args.store.now in
    let t = c.put_list.new.store in
    let old = c.args.names.now in
    let new = c.put_list.new.names in
    let further = further-further s s t old c.byte_cells.new.names new
    (further-names s old c.byte_cells.new.names c.byte_cells.ensures.texts (λ _. c.byte_cells.ensures.distinct) c.requires.named) c.put_list.ensures.further in
    let list = term_of new s c.args.list in
    let all = list_tree (map (byte_tree c.args.form) c.text.result.now) in
    subst (λ (m : Meaning). IsAnswer new s t m (gives.Equates c.args.list c.in_ok-made-in-Atom.made))
    (sym (bytes-atom (byte_tree c.args.form) (byte_element c.args.form) (term_of new s c.args.atom) list c.text.result.now
    (c.in-Atom.ensures.term new ∙ ap atom
    (text-longer old new further.longer c.in-Atom.name (named-atom (length old) s c.args.atom c.in-Atom.name c.requires.named c.requires.atom.1 c.in-Atom.ensures.looks)
    ∙ text-read old c.in-Atom.name c.text.result.now c.text.ensures))))
    (answer-list s t old new c.args.list c.in_ok-made-in-Atom.made all c.known.ensures c.requires.named further c.put_list.ensures.bindings c.put_list.ensures.variables c.requires.list
    c.in_ok-made-in-Atom.ensures.cell
    (c.in_ok-made-in-Atom.ensures.list ∙ ap (λ (cs : List Cell). list_tree (map (term_of new s) cs)) c.as_slice-in-Atom.ensures.value
    ∙ ap list_tree (c.in_ok-cells-in-Atom.ensures.cells new s c.put_list.ensures.further.longer).1
    ∙ ap (λ (xs : List ℕ). list_tree (map (byte_tree c.args.form) xs)) (c.as_slice.ensures.value ∙ c.in_ok-text-in-Atom.ensures.items)))

pub returns-in_ok-fault-in_default-clause-further :
    goal.returns-in_ok-fault-in_default-clause-further
returns-in_ok-fault-in_default-clause-further c = further-itself c.args.store.now c.args.names.now c.requires.named

pub returns-in_ok-fault-in_default-clause-answer :
    goal.returns-in_ok-fault-in_default-clause-answer
returns-in_ok-fault-in_default-clause-answer c =
    let s = c.args.store.now in
    let texts = c.args.names.now in
    let t = term_of texts s c.args.atom in
    answer-raises texts s s _ (OfType (codes "atom") (numbered t)) c.in_ok-fault-in_default.fault
    (bytes-other (byte_tree c.args.form) (byte_element c.args.form) t (term_of texts s c.args.list) (text texts) (term_of texts s) c.look.result (c.look.ensures.term texts) c.in_default.not-Variable c.in_default.not-Atom)
    c.in_ok-fault-in_default.ensures refl
