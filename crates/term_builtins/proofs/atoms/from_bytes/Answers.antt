use Rattle.std.proofs.Common.{ℕ, ◌∙◌, [], List, length, sym, ap, subst, refl, arith, codes, All, map, get_or}
use Rattle.term_store.specs.Terms.{term_of, HasTerm}
use Rattle.term_store.specs.Heads.{IsFurther}
use Rattle.prolog_terms.specs.Tree.{Tree, atom}
use Rattle.prolog_terms.specs.Substitutions.{numbered}
use Rattle.prolog_terms.specs.declared.fault.Fault.TheVariants.{Instantiation, OfType}
use Rattle.term_store.specs.declared.cell.Cell.{Cell}
use Rattle.term_store.specs.declared.cell.Cell.TheVariants as cell
use Rattle.term_builtins.specs.Answers.{IsByte, IsList, byte_element}
use Rattle.term_builtins.proofs.Answered.{answer-equal, answer-raises}
use Rattle.term_builtins.specs.Meanings.{spelled, Byte, Raises, equal}
use Rattle.term_builtins.proofs.Grown.{further-itself, further-names, intern-longer, has-further, term-names}
use Rattle.term_builtins.proofs.Bytewise.{term-atom, has-atom, list-unbound, list-other, spelled-more, spelled-not, spelled-end, of-spelled, of-names}
use Rattle.term_builtins.proofs.atoms.from_bytes.Goals as goal

pub returns-in_err-found-clause-further : goal.returns-in_err-found-clause-further
returns-in_err-found-clause-further c = further-itself c.args.store.now c.args.names.now c.requires.named

pub returns-then-is_variable-clause-further : goal.returns-then-is_variable-clause-further
returns-then-is_variable-clause-further c = further-itself c.args.store.now c.args.names.now c.requires.named

pub returns-then-is_variable-clause-answer : goal.returns-then-is_variable-clause-answer
returns-then-is_variable-clause-answer c =
    let s = c.args.store.now in
    let texts = c.args.names.now in
    answer-raises texts s s _ Instantiation Instantiation
    (list-unbound (term_of texts s c.args.list) (term_of texts s c.in_ok-found.found.end) (spelled (byte_element c.args.form) (term_of texts s c.args.atom) []) c.in_ok-found.ensures.list.end_is (sym c.is_variable.ensures ∙ c.if-is_variable.true)) refl refl

pub returns-in_err-fault-clause-further : goal.returns-in_err-fault-clause-further
returns-in_err-fault-clause-further c = further-itself c.args.store.now c.args.names.now c.requires.named

pub returns-then-not-is_nil-clause-further : goal.returns-then-not-is_nil-clause-further
returns-then-not-is_nil-clause-further c = further-itself c.args.store.now c.args.names.now c.requires.named

pub returns-then-not-is_nil-clause-answer : goal.returns-then-not-is_nil-clause-answer
returns-then-not-is_nil-clause-answer c =
    let s = c.args.store.now in
    let texts = c.args.names.now in
    answer-raises texts s s _ (OfType (codes "list") (numbered (term_of texts s c.args.list))) c.in_ok-fault.fault
    (list-other (term_of texts s c.args.list) (term_of texts s c.in_ok-found.found.end) (spelled (byte_element c.args.form) (term_of texts s c.args.atom) []) c.in_ok-found.ensures.list.end_is
    (sym c.is_variable.ensures ∙ c.if-is_variable.false) (sym c.is_nil.ensures ∙ c.if-not-is_nil.true)) c.in_ok-fault.ensures refl

pub loop-cell-init : goal.loop-cell-init
loop-cell-init c =
    let s = c.args.store.now in
    let texts = c.args.names.now in
    ap (λ (xs : List ℕ). spelled (byte_element c.args.form) (term_of texts s c.args.atom) xs (map (term_of texts s) c.deref-cell-items.result.now)) (sym c.new-text.ensures.items)

pub byte_of-requires-clause-valid : goal.byte_of-requires-clause-valid
byte_of-requires-clause-valid c =
    subst (All (HasTerm (length c.args.names.now) c.args.store.now)) (sym c.deref-cell-items.ensures.value) c.in_ok-found.ensures.cells c.loop-cell.cell-index (cell.Variable 0) c.loop-cell-test.true

pub returns-in_err-byte-clause-further : goal.returns-in_err-byte-clause-further
returns-in_err-byte-clause-further c = further-itself c.args.store.now c.args.names.now c.requires.named

pub returns-in_err-push-in-Of-clause-further : goal.returns-in_err-push-in-Of-clause-further
returns-in_err-push-in-Of-clause-further c = further-itself c.args.store.now c.args.names.now c.requires.named

pub returns-in-Not-clause-further : goal.returns-in-Not-clause-further
returns-in-Not-clause-further c = further-itself c.args.store.now c.args.names.now c.requires.named

pub returns-in-Not-clause-answer : goal.returns-in-Not-clause-answer
returns-in-Not-clause-answer c =
    let s = c.args.store.now in
    let texts = c.args.names.now in
    let tree : Cell → Tree = term_of texts s in
    let element : Tree → Byte = byte_element c.args.form in
    let cells = c.deref-cell-items.result.now in
    let at = c.loop-cell.cell-index in
    let list : IsList texts s (tree c.args.list) cells c.in_ok-found.found.end =
    subst (λ (cs : List Cell). IsList texts s (tree c.args.list) cs c.in_ok-found.found.end) (sym c.deref-cell-items.ensures.value) c.in_ok-found.ensures.list in
    answer-raises texts s s _ c.in-Not.fault c.in-Not.fault
    (of-spelled texts s element c.args.atom c.args.list c.in_ok-found.found.end cells list (sym c.is_variable.ensures ∙ c.if-is_variable.false) (sym c.is_nil.ensures ∙ c.if-not-is_nil.false)
    (Raises c.in-Not.fault)
    (c.loop-cell.invariant
    ∙ spelled-not element (tree c.args.atom) tree cells at (cell.Variable 0) c.loop-cell.text.items c.in-Not.fault c.loop-cell-test.true
    (subst (IsByte (element (tree (get_or cells at (cell.Variable 0))))) c.in-Not.is c.in_ok-byte.ensures))) refl refl

pub loop-cell-preserved : goal.loop-cell-preserved
loop-cell-preserved c =
    let s = c.args.store.now in
    let texts = c.args.names.now in
    let tree : Cell → Tree = term_of texts s in
    let element : Tree → Byte = byte_element c.args.form in
    let cells = c.deref-cell-items.result.now in
    let at = c.loop-cell.cell-index in
    c.loop-cell.invariant
    ∙ spelled-more element (tree c.args.atom) tree cells at (cell.Variable 0) c.loop-cell.text.items c.push.new.self.items c.in-Of.byte c.loop-cell-test.true
    (subst (IsByte (element (tree (get_or cells at (cell.Variable 0))))) c.in-Of.is c.in_ok-byte.ensures) c.in_ok-push-in-Of.ensures.items

pub returns-in_err-number-clause-further : goal.returns-in_err-number-clause-further
returns-in_err-number-clause-further c =
    subst (λ (ts : List (List ℕ)). IsFurther c.args.store.now c.args.names.now c.args.store.now ts) (sym c.in_err-number.ensures.err)
    (further-itself c.args.store.now c.args.names.now c.requires.named)

pub returns-clause-further : goal.returns-clause-further
returns-clause-further c =
    further-names c.args.store.now c.args.names.now c.intern.new.self
    (intern-longer c.args.names.now c.intern.new.self c.as_slice.result.now c.in_ok-number.ensures.texts) (λ _. c.intern.ensures.distinct) c.requires.named

pub returns-clause-answer : goal.returns-clause-answer
returns-clause-answer c =
    let s = c.args.store.now in
    let texts = c.args.names.now in
    let tree : Cell → Tree = term_of texts s in
    let element : Tree → Byte = byte_element c.args.form in
    let cells = c.deref-cell-items.result.now in
    let at = c.loop-cell.cell-index in
    let list : IsList texts s (tree c.args.list) cells c.in_ok-found.found.end =
    subst (λ (cs : List Cell). IsList texts s (tree c.args.list) cs c.in_ok-found.found.end) (sym c.deref-cell-items.ensures.value) c.in_ok-found.ensures.list in
    let new = c.intern.new.self in
    let longer = intern-longer texts new c.as_slice.result.now c.in_ok-number.ensures.texts in
    let further = further-names s texts new longer (λ _. c.intern.ensures.distinct) c.requires.named in
    answer-equal new s s _ (tree c.args.atom) (atom c.as_slice.result.now) c.args.atom (cell.Atom c.in_ok-number.number)
    (of-names s texts new element c.args.atom c.args.list c.known.ensures c.requires.named longer c.requires.atom c.requires.list
    ∙ of-spelled texts s element c.args.atom c.args.list c.in_ok-found.found.end cells list (sym c.is_variable.ensures ∙ c.if-is_variable.false) (sym c.is_nil.ensures ∙ c.if-not-is_nil.false)
    (equal (tree c.args.atom) (atom c.as_slice.result.now))
    (c.loop-cell.invariant ∙ spelled-end element (tree c.args.atom) tree cells at c.loop-cell.text.items (omega arith)
    ∙ ap (λ (xs : List ℕ). equal (tree c.args.atom) (atom xs)) (sym c.as_slice.ensures.value)))
    refl (has-further s s texts new c.args.atom further c.requires.atom) (has-atom new s c.in_ok-number.number c.as_slice.result.now c.in_ok-number.ensures.number)
    (term-names s texts new c.args.atom c.known.ensures c.requires.named longer c.requires.atom)
    (term-atom new s c.in_ok-number.number c.as_slice.result.now c.in_ok-number.ensures.number)
