-- What was done is what a call comes to.
use Rattle.std.proofs.Common.{◌≡◌, ℕ, List, length, Bool, true, false, IsTrue, IsFalse, refl, sym, ap, ap₂, ◌∙◌, subst, true≢false, is_none, not}
use Rattle.prolog_terms.specs.Tree.{Tree}
use Rattle.prolog_terms.specs.Substitutions.{substituted}
use Rattle.prolog_terms.specs.Faults.{fault_tree}
use Rattle.prolog_terms.specs.declared.entry.Indicator.{Indicator}
use Rattle.prolog_terms.specs.declared.fault.Fault.{Fault}
use Rattle.term_unifier.specs.Unifier.{IsMostGeneral, Unifies, unifier}
use Rattle.term_unifier.proofs.Known.{known-some, known-none}
use Rattle.term_store.specs.declared.cell.Cell.{Cell}
use Rattle.term_store.specs.declared.cell.Trailed.{Trailed}
use Rattle.term_store.specs.Shape.{Shape}
use Rattle.term_store.specs.Terms.{text, term_of, meaning as stands_for, bindings_by, resolved, HasTerm, AreNamed, IsShape, IsUnified, HaveNoUnifier}
use Rattle.term_store.specs.Later.{IsLater, back, CanGoBack}
use Rattle.term_store.specs.Heads.{IsFurther}
use Rattle.term_store.proofs.Rows.{bindings-later}
use Rattle.term_store.proofs.Laws.{back-later, longer-itself}
use Rattle.prolog_writer.specs.declared.style.Style.{Style}
use Rattle.term_builtins.specs.declared.answer.Answer.TheVariants as gives
use Rattle.term_builtins.specs.declared.run.Did.TheVariants.{Yes, No, Wrote, Put, Ball}
use Rattle.term_builtins.specs.Meanings.{Meaning, Holds, Equates, Writes, Puts, Raises}
use Rattle.term_builtins.specs.Answers.{IsAnswer, IsDone}

-- ---- unification

-- back at a mark that was taken before
pub undone : (m : Trailed) (s u : Shape) → CanGoBack m s → back m s ≡ s → IsLater s u → u.variables ≡ s.variables → back m u ≡ s
undone m s u c e h v = back-later m s u h c ∙ ap₂ (λ (w : Shape) (k : ℕ). record w { variables = k }) e v

-- variables were bound
pub further-bound : (s t : Shape) (texts : List (List ℕ)) → IsLater s t → AreNamed (length texts) t → IsFurther s texts t texts
further-bound s t texts later named = record { later = later; longer = longer-itself texts; distinct = λ d. d; named = named }

-- whether two cells can't be made one
pub differ : (texts : List (List ℕ)) (s t : Shape) (a b : Cell) (found : Bool) → (IsTrue found → IsUnified texts s t a b) → (IsFalse found → HaveNoUnifier texts s a b)
    → not found ≡ is_none (unifier (term_of texts s a) (term_of texts s b))
differ texts s t a b true one other = let u = one refl in sym (ap is_none (known-some (term_of texts s a) (term_of texts s b) u.0 u.1))
differ texts s t a b false one other = sym (ap is_none (known-none (term_of texts s a) (term_of texts s b) (other refl)))

-- where nothing was bound a variable stands for what it stood for
pub meaning-later : (texts : List (List ℕ)) (s t : Shape) (v : ℕ) → IsShape s → IsLater s t → t.bindings ≡ s.bindings → stands_for texts t v ≡ stands_for texts s v
meaning-later texts s t v h later same =
    ap (λ (bs : List (ℕ × Tree)). resolved bs v)
    (ap₂ (λ (rows : List (ℕ × List Cell)) (bs : List (ℕ × Cell)). bindings_by (text texts) rows bs) later.compounds same
    ∙ bindings-later (text texts) s.compounds later.rows s.variables h.compounds s.bindings (λ k d lt. (h.bindings k d lt).1))

-- the cells that are to be made one are cells of the store
pub answer-cells : (texts : List (List ℕ)) (old new : Shape) (l r : Cell) (m : Meaning) → IsAnswer texts old new m (gives.Equates l r) → HasTerm (length texts) new l × HasTerm (length texts) new r
answer-cells texts old new l r (Holds b) a = absurd a
answer-cells texts old new l r (Equates k x y) a = (a.1, a.2)
answer-cells texts old new l r (Writes style t) a = absurd a
answer-cells texts old new l r (Puts bytes) a = absurd a
answer-cells texts old new l r (Raises f) a = absurd a

-- ---- what was done

module _ (texts : List (List ℕ)) (old : Shape) (at : Indicator) where
  pub done-true : (new : Shape) (m : Meaning) → IsAnswer texts old new m (gives.Holds true) → new.bindings ≡ old.bindings → IsDone texts old new at m Yes
  done-true new (Holds true) a e = (a.1, e)
  done-true new (Holds false) a e = absurd (true≢false a.0)
  done-true new (Equates k l r) a e = absurd a
  done-true new (Writes style t) a e = absurd a
  done-true new (Puts bytes) a e = absurd a
  done-true new (Raises f) a e = absurd a

  pub done-false : (new : Shape) (m : Meaning) → IsAnswer texts old new m (gives.Holds false) → new.bindings ≡ old.bindings → IsDone texts old new at m No
  done-false new (Holds true) a e = absurd (true≢false (sym a.0))
  done-false new (Holds false) a e = (a.1, e)
  done-false new (Equates k l r) a e = absurd a
  done-false new (Writes style t) a e = absurd a
  done-false new (Puts bytes) a e = absurd a
  done-false new (Raises f) a e = absurd a

  pub done-raises : (new : Shape) (m : Meaning) (f : Fault) (t : Tree) → IsAnswer texts old new m (gives.Raises f) → t ≡ fault_tree f at → new.bindings ≡ old.bindings
      → IsDone texts old new at m (Ball t)
  done-raises new (Holds b) f t a is e = absurd a
  done-raises new (Equates k l r) f t a is e = absurd a
  done-raises new (Writes style u) f t a is e = absurd a
  done-raises new (Puts bytes) f t a is e = absurd a
  done-raises new (Raises g) f t a is e = (is ∙ ap (λ (h : Fault). fault_tree h at) a.0, (a.1, e))

  pub done-writes : (new : Shape) (m : Meaning) (style : Style) (t : Tree) → IsAnswer texts old new m (gives.Writes style t) → new.bindings ≡ old.bindings
      → IsDone texts old new at m (Wrote style t)
  done-writes new (Holds b) style t a e = absurd a
  done-writes new (Equates k l r) style t a e = absurd a
  done-writes new (Writes s u) style t a e = (a.0, a.1, (a.2, e))
  done-writes new (Puts bytes) style t a e = absurd a
  done-writes new (Raises f) style t a e = absurd a

  pub done-puts : (new : Shape) (m : Meaning) (bytes : List ℕ) → IsAnswer texts old new m (gives.Puts bytes) → new.bindings ≡ old.bindings
      → IsDone texts old new at m (Put bytes)
  done-puts new (Holds b) bytes a e = absurd a
  done-puts new (Equates k l r) bytes a e = absurd a
  done-puts new (Writes s u) bytes a e = absurd a
  done-puts new (Puts bs) bytes a e = (a.0, (a.1, e))
  done-puts new (Raises f) bytes a e = absurd a

  module _ (mid : Shape) (l r : Cell) where
    -- two cells were made one
    pub done-one : (new : Shape) (m : Meaning) → IsShape old → IsLater old mid → mid.bindings ≡ old.bindings → IsAnswer texts old mid m (gives.Equates l r)
        → new.variables ≡ mid.variables → IsUnified texts mid new l r → IsDone texts old new at m Yes
    done-one new (Holds b) h later e a same u = absurd a
    done-one new (Equates k x y) h later e a same u = (
      same ∙ a.0,
      (
        u.0,
        subst (λ (t : Tree). IsMostGeneral u.0 t y) a.3 (subst (λ (t : Tree). IsMostGeneral u.0 (term_of texts mid l) t) a.4 u.1),
        λ v. u.2 v ∙ ap (substituted u.0) (meaning-later texts old mid v h later e),
      ),
    )
    done-one new (Writes style t) h later e a same u = absurd a
    done-one new (Puts bytes) h later e a same u = absurd a
    done-one new (Raises f) h later e a same u = absurd a

    -- and can't be made one
    pub done-apart : (new : Shape) (m : Meaning) → mid.bindings ≡ old.bindings → IsAnswer texts old mid m (gives.Equates l r)
        → new ≡ mid → HaveNoUnifier texts mid l r → IsDone texts old new at m No
    done-apart new (Holds b) e a same none = absurd a
    done-apart new (Equates k x y) e a same none = (
      ap (λ (s : Shape). s.variables) same ∙ a.0,
      ap (λ (s : Shape). s.bindings) same ∙ e,
      subst (λ (t : Tree). (s : ℕ → Tree) → ¬ Unifies s t y) a.3 (subst (λ (t : Tree). (s : ℕ → Tree) → ¬ Unifies s (term_of texts mid l) t) a.4 none),
    )
    done-apart new (Writes style t) e a same none = absurd a
    done-apart new (Puts bytes) e a same none = absurd a
    done-apart new (Raises f) e a same none = absurd a
