-- A copy that was made.
use Rattle.std.proofs.Common.{ℕ, List, length}
use Rattle.term_store.specs.declared.cell.Cell.{Cell}
use Rattle.term_store.specs.Shape.{Shape}
use Rattle.term_store.specs.Terms.{term_of, HasTerm, AreNamed, IsShape}
use Rattle.term_store.specs.Heads.{IsFurther}
use Rattle.term_store.specs.Copies.{IsCopy}
use Rattle.term_store.proofs.Laws.{longer-itself}
use Rattle.term_builtins.specs.declared.answer.Answer.TheVariants as gives
use Rattle.term_builtins.specs.Meanings.{copied}
use Rattle.term_builtins.specs.Answers.{IsAnswer}
use Rattle.term_builtins.proofs.Grown.{has-further, term-further}

module _ (s t : Shape) (source made : Cell) (texts : List (List ℕ)) (h : IsCopy s t source made) (named : AreNamed (length texts) s) (has : HasTerm (length texts) s source) where
  pub copied-further : IsFurther s texts t texts
  copied-further = record { later = h.later; longer = longer-itself texts; distinct = λ d. d; named = (h.named (length texts) named has.1).0 }

  pub copied-answer : IsShape s → (target : Cell) → HasTerm (length texts) s target
      → IsAnswer texts s t (copied s.variables (term_of texts s source) (term_of texts s target)) (gives.Equates target made)
  copied-answer formed target there = (
    h.variables texts,
    has-further s t texts texts target copied-further there,
    (h.valid, (h.named (length texts) named has.1).1),
    term-further s t texts texts target formed named copied-further h.bindings there,
    h.term texts,
  )
