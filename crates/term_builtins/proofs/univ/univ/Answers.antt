use Rattle.std.proofs.Common.{◌≡◌, List, [], ◌∷◌, ◌++◌, All, IfOk, Vec, Global, length, map, sym, ap, ◌∙◌, subst}
use Rattle.std.proofs.lemmas.List.Elements.{All-cons, All-nil}
use Rattle.term_store.specs.declared.cell.Cell.{Cell}
use Rattle.term_store.specs.declared.cell.Cell.TheVariants.{Atom}
use Rattle.term_store.specs.Terms.{text, term_of, HasTerm}
use Rattle.term_builtins.specs.Meanings as means
use Rattle.term_builtins.specs.Meanings.{Meaning, equal, list_tree}
use Rattle.term_builtins.specs.declared.answer.Answer.TheVariants as gives
use Rattle.term_builtins.specs.Answers.{IsAnswer}
use Rattle.term_builtins.proofs.Views.{kept}
use Rattle.term_builtins.proofs.Grown.{further-itself, term-atom}
use Rattle.term_builtins.proofs.Answered.{answer-list}
use Rattle.term_builtins.proofs.Universal.{univ-variable, univ-row, univ-single}
use Rattle.term_builtins.proofs.univ.univ.Goals as goal
use Rattle.term_builtins.proofs.univ.univ.Goals.{in-Compound+in_ok-push-in-Compound+in_ok-extend_from_slice-in-Compound, in_default+in_ok-push-in_default}

pub returns-in-Variable-clause-answer : goal.returns-in-Variable-clause-answer
returns-in-Variable-clause-answer c =
    let s = c.args.store.now in let texts = c.args.names.now in
    subst (λ (m : Meaning). IfOk c.from_list.result (IsAnswer texts s c.from_list.new.store m))
    (sym (univ-variable (term_of texts s c.args.term) (term_of texts s c.args.list) c.in-Variable.field-0 (c.in-Variable.ensures.term texts)))
    c.from_list.ensures.answer

pub returns-in_err-push-in-Compound-clause-further : goal.returns-in_err-push-in-Compound-clause-further
returns-in_err-push-in-Compound-clause-further c = further-itself c.args.store.now c.args.names.now c.requires.named

pub returns-in_err-extend_from_slice-in-Compound-clause-further : goal.returns-in_err-extend_from_slice-in-Compound-clause-further
returns-in_err-extend_from_slice-in-Compound-clause-further c = further-itself c.args.store.now c.args.names.now c.requires.named

pub returns-in_err-push-in_default-clause-further : goal.returns-in_err-push-in_default-clause-further
returns-in_err-push-in_default-clause-further c = further-itself c.args.store.now c.args.names.now c.requires.named

pub put_list-requires-clause-valid : goal.put_list-requires-clause-valid
put_list-requires-clause-valid c =
    let s = c.args.store.now in let texts = c.args.names.now in
    subst (All (HasTerm (length texts) s)) (sym c.as_slice.ensures.value) (elim c.match-look.branch [
      | in-Compound+in_ok-push-in-Compound+in_ok-extend_from_slice-in-Compound w ↦
          let row = kept (length texts) s c.args.term w.in-Compound.name w.in-Compound.arguments c.known.ensures c.requires.named w.in-Compound.ensures.looks in
          subst (All (HasTerm (length texts) s))
          (sym (ap (λ (v : Vec Cell Global). v.items) w.cells-is ∙ w.in_ok-extend_from_slice-in-Compound.ensures.items
          ∙ ap (λ (xs : List Cell). xs ++ w.in-Compound.arguments.now) (w.in_ok-push-in-Compound.ensures.items ∙ ap (λ (xs : List Cell). xs ++ Atom w.in-Compound.name ∷ []) c.new-cells.ensures.items)))
          (All-cons (HasTerm (length texts) s) (Atom w.in-Compound.name) w.in-Compound.arguments.now (tt, row.name) row.args)
      | in_default+in_ok-push-in_default w ↦
          subst (All (HasTerm (length texts) s))
          (sym (ap (λ (v : Vec Cell Global). v.items) w.cells-is ∙ w.in_ok-push-in_default.ensures.items ∙ ap (λ (xs : List Cell). xs ++ c.args.term ∷ []) c.new-cells.ensures.items))
          (All-cons (HasTerm (length texts) s) c.args.term [] c.requires.term (All-nil (HasTerm (length texts) s)))
    ])

pub returns-in_err-made-clause-further : goal.returns-in_err-made-clause-further
returns-in_err-made-clause-further c = c.put_list.ensures.further

pub returns-clause-further : goal.returns-clause-further
returns-clause-further c = c.put_list.ensures.further

pub returns-clause-answer : goal.returns-clause-answer
returns-clause-answer c =
    let s = c.args.store.now in let after = c.put_list.new.names in let l = term_of after s c.args.list in
    let is : means.univ (term_of after s c.args.term) l ≡ equal l (list_tree (map (term_of after s) c.as_slice.result.now)) = elim c.match-look.branch [
      | in-Compound+in_ok-push-in-Compound+in_ok-extend_from_slice-in-Compound w ↦
          univ-row (term_of after s c.args.term) l (text after w.in-Compound.name) (term_of after s) w.in-Compound.arguments.now c.as_slice.result.now (Atom w.in-Compound.name)
          (w.in-Compound.ensures.term after) (term-atom s after w.in-Compound.name)
          (c.as_slice.ensures.value ∙ ap (λ (v : Vec Cell Global). v.items) w.cells-is ∙ w.in_ok-extend_from_slice-in-Compound.ensures.items
          ∙ ap (λ (xs : List Cell). xs ++ w.in-Compound.arguments.now) (w.in_ok-push-in-Compound.ensures.items ∙ ap (λ (xs : List Cell). xs ++ Atom w.in-Compound.name ∷ []) c.new-cells.ensures.items))
      | in_default+in_ok-push-in_default w ↦
          univ-single (text after) (term_of after s) c.look.result c.args.term l c.as_slice.result.now (c.look.ensures.term after)
          (λ n e. w.in_default.not-Variable n e) (λ f args e. w.in_default.not-Compound f args e)
          (c.as_slice.ensures.value ∙ ap (λ (v : Vec Cell Global). v.items) w.cells-is ∙ w.in_ok-push-in_default.ensures.items ∙ ap (λ (xs : List Cell). xs ++ c.args.term ∷ []) c.new-cells.ensures.items)
    ] in
    subst (λ (m : Meaning). IsAnswer after s c.put_list.new.store m (gives.Equates c.args.list c.in_ok-made.made)) (sym is)
    (answer-list s c.put_list.new.store c.args.names.now after c.args.list c.in_ok-made.made (list_tree (map (term_of after s) c.as_slice.result.now))
    c.known.ensures c.requires.named c.put_list.ensures.further c.put_list.ensures.bindings c.put_list.ensures.variables c.requires.list c.in_ok-made.ensures.cell c.in_ok-made.ensures.list)
