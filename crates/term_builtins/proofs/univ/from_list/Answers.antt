use Rattle.std.proofs.Common.{◌≡◌, ◌-◌, All, IfOk, length, get_or, take, drop, sym, ap, ◌∙◌, subst, codes, refl, arith}
use Rattle.prolog_terms.specs.Substitutions.{numbered}
use Rattle.prolog_terms.specs.declared.fault.Fault.TheVariants.{Instantiation, OfType, Domain}
use Rattle.term_store.specs.declared.cell.Cell.TheVariants.{Variable}
use Rattle.term_store.specs.Terms.{term_of, HasTerm}
use Rattle.term_builtins.specs.Meanings.{Meaning}
use Rattle.term_builtins.specs.Answers.{IsAnswer}
use Rattle.term_builtins.proofs.Grown.{further-itself}
use Rattle.term_builtins.proofs.Answered.{answer-raises}
use Rattle.term_builtins.proofs.Universal.{list-unbound, list-other, from-none, from-some}
use Rattle.term_builtins.proofs.Listed.{first-rest, all-rest}
use Rattle.term_builtins.proofs.univ.from_list.Goals as goal

pub returns-in_err-found-clause-further : goal.returns-in_err-found-clause-further
returns-in_err-found-clause-further c = further-itself c.args.store.now c.args.names.now c.requires.named

pub returns-then-is_variable-clause-further : goal.returns-then-is_variable-clause-further
returns-then-is_variable-clause-further c = further-itself c.args.store.now c.args.names.now c.requires.named

pub returns-in_err-fault-clause-further : goal.returns-in_err-fault-clause-further
returns-in_err-fault-clause-further c = further-itself c.args.store.now c.args.names.now c.requires.named

pub returns-then-not-is_nil-clause-further : goal.returns-then-not-is_nil-clause-further
returns-then-not-is_nil-clause-further c = further-itself c.args.store.now c.args.names.now c.requires.named

pub returns-in_err-fault-in-empty-clause-further : goal.returns-in_err-fault-in-empty-clause-further
returns-in_err-fault-in-empty-clause-further c = further-itself c.args.store.now c.args.names.now c.requires.named

pub returns-in-empty-clause-further : goal.returns-in-empty-clause-further
returns-in-empty-clause-further c = further-itself c.args.store.now c.args.names.now c.requires.named

pub returns-then-is_variable-clause-answer : goal.returns-then-is_variable-clause-answer
returns-then-is_variable-clause-answer c =
    let s = c.args.store.now in let texts = c.args.names.now in
    answer-raises texts s s _ Instantiation Instantiation
    (list-unbound (term_of texts s c.args.term) (term_of texts s c.args.list) (term_of texts s c.in_ok-found.found.end) c.in_ok-found.ensures.list.end_is (sym c.is_variable.ensures ∙ c.if-is_variable.true)) refl refl

pub returns-then-not-is_nil-clause-answer : goal.returns-then-not-is_nil-clause-answer
returns-then-not-is_nil-clause-answer c =
    let s = c.args.store.now in let texts = c.args.names.now in
    answer-raises texts s s _ (OfType (codes "list") (numbered (term_of texts s c.args.list))) c.in_ok-fault.fault
    (list-other (term_of texts s c.args.term) (term_of texts s c.args.list) (term_of texts s c.in_ok-found.found.end) c.in_ok-found.ensures.list.end_is
    (sym c.is_variable.ensures ∙ c.if-is_variable.false) (sym c.is_nil.ensures ∙ c.if-not-is_nil.true))
    c.in_ok-fault.ensures refl

pub returns-in-empty-clause-answer : goal.returns-in-empty-clause-answer
returns-in-empty-clause-answer c =
    let s = c.args.store.now in let texts = c.args.names.now in
    let low = c.in-empty.len_below in let e = ap length c.as_slice.ensures.value in
    let empty : length c.in_ok-found.found.cells.items ≡ 0 = omega (arith, low, e) in
    answer-raises texts s s _ (Domain (codes "non_empty_list") (numbered (term_of texts s c.in_ok-found.found.end))) c.in_ok-fault-in-empty.fault
    (from-none (term_of texts s c.args.term) (term_of texts s c.args.list) (term_of texts s) c.in_ok-found.found.cells.items (term_of texts s c.in_ok-found.found.end)
    c.in_ok-found.ensures.list.end_is c.in_ok-found.ensures.list.elements_are (sym c.is_variable.ensures ∙ c.if-is_variable.false) (sym c.is_nil.ensures ∙ c.if-not-is_nil.false) empty)
    c.in_ok-fault-in-empty.ensures refl

pub together-requires-clause-first : goal.together-requires-clause-first
together-requires-clause-first c =
    let low = c.in-len1-up.len_at_least in
    let valid : All (HasTerm (length c.args.names.now) c.args.store.now) c.as_slice.result.now = subst (All (HasTerm (length c.args.names.now) c.args.store.now)) (sym c.as_slice.ensures.value) c.in_ok-found.ensures.cells in
    valid 0 (Variable 0) (omega (arith, low))

pub together-requires-clause-rest : goal.together-requires-clause-rest
together-requires-clause-rest c =
    all-rest (HasTerm (length c.args.names.now) c.args.store.now) c.as_slice.result.now (Variable 0) c.in-len1-up.len_at_least
    (subst (All (HasTerm (length c.args.names.now) c.args.store.now)) (sym c.as_slice.ensures.value) c.in_ok-found.ensures.cells)

pub returns-clause-further : goal.returns-clause-further
returns-clause-further c = c.together.ensures.further

pub returns-clause-answer : goal.returns-clause-answer
returns-clause-answer c =
    let s = c.args.store.now in let texts = c.args.names.now in let xs = c.as_slice.result.now in
    subst (λ (m : Meaning). IfOk c.together.result (IsAnswer texts s c.together.new.store m))
    (sym (from-some (term_of texts s c.args.term) (term_of texts s c.args.list) (term_of texts s) c.in_ok-found.found.cells.items (term_of texts s c.in_ok-found.found.end)
    c.in_ok-found.ensures.list.end_is c.in_ok-found.ensures.list.elements_are (sym c.is_variable.ensures ∙ c.if-is_variable.false) (sym c.is_nil.ensures ∙ c.if-not-is_nil.false)
    (get_or xs 0 (Variable 0)) (take (length xs - 1) (drop 1 xs)) (sym c.as_slice.ensures.value ∙ first-rest xs (Variable 0) c.in-len1-up.len_at_least)))
    c.together.ensures.answer
