-- What an answer has to show.
use Rattle.std.proofs.Common.{◌≡◌, ℕ, ◌<◌, ◌≤◌, List, [], ◌∷◌, ◌++◌, length, All, refl, sym, arith, subst}
use Rattle.prolog_terms.specs.Tree.{Tree, compound}
use Rattle.prolog_terms.specs.declared.fault.Fault.{Fault}
use Rattle.term_store.specs.declared.cell.Cell.{Cell}
use Rattle.term_store.specs.declared.cell.Cell.TheVariants.{Compound}
use Rattle.term_store.specs.Shape.{Shape}
use Rattle.term_store.specs.Terms.{text, term_of, trees_of, HasTerm, AreNamed, IsShape}
use Rattle.term_store.specs.Heads.{IsFurther}
use Rattle.term_builtins.specs.declared.answer.Answer.TheVariants as gives
use Rattle.term_builtins.specs.Meanings.{Meaning, Raises, equal}
use Rattle.term_builtins.specs.Answers.{IsAnswer}
use Rattle.term_builtins.proofs.Grown.{further-compound, has-further, has-compound, term-further, term-between, term-compound}
use Rattle.term_store.proofs.Laws.{longer-length, named-more}

-- two cells that stand for the two terms
pub answer-equal : (texts : List (List ℕ)) (old new : Shape) (m : Meaning) (a b : Tree) (l r : Cell) → m ≡ equal a b → new.variables ≡ old.variables
    → HasTerm (length texts) new l → HasTerm (length texts) new r → term_of texts new l ≡ a → term_of texts new r ≡ b → IsAnswer texts old new m (gives.Equates l r)
answer-equal texts old new m a b l r e same left right left_is right_is =
    subst (λ (n : Meaning). IsAnswer texts old new n (gives.Equates l r)) (sym e) (omega (arith, same), left, right, left_is, right_is)

pub answer-raises : (texts : List (List ℕ)) (old new : Shape) (m : Meaning) (f g : Fault) → m ≡ Raises f → g ≡ f → new.variables ≡ old.variables → IsAnswer texts old new m (gives.Raises g)
answer-raises texts old new m f g e is same = subst (λ (n : Meaning). IsAnswer texts old new n (gives.Raises g)) (sym e) (is, same)

-- a new compound is to be made one with a cell
pub answer-compound : (texts : List (List ℕ)) (s u : Shape) (m : Meaning) (t made : Cell) (f : ℕ) (cs : List Cell) → IsShape s → AreNamed (length texts) s
    → f < length texts → 1 ≤ length cs → length cs ≤ 255 → All (HasTerm (length texts) s) cs → HasTerm (length texts) s t
    → m ≡ equal (term_of texts s t) (compound (text texts f) (trees_of (term_of texts s) cs))
    → u ≡ record s { compounds = s.compounds ++ (f, cs) ∷ [] } → made ≡ Compound (length s.compounds) → IsAnswer texts s u m (gives.Equates t made)
answer-compound texts s u m t made f cs h named low some few valid has e is here =
    let new : Shape = record s { compounds = s.compounds ++ (f, cs) ∷ [] } in
    let further : IsFurther s texts new texts = further-compound s texts f cs named low valid in
    subst (λ (v : Shape). IsAnswer texts s v m (gives.Equates t made)) (sym is)
    (subst (λ (c : Cell). IsAnswer texts s new m (gives.Equates t c)) (sym here)
    (answer-equal texts s new m _ _ t (Compound (length s.compounds)) e refl (has-further s new texts texts t further has) (has-compound (length texts) s f cs)
    (term-further s new texts texts t h named further refl has) (term-compound s texts f cs h some few (λ k d lt. (valid k d lt).0))))

-- a list that was put into the store is to be made one with a cell
pub answer-list : (old new : Shape) (texts after : List (List ℕ)) (l made : Cell) (a : Tree) → IsShape old → AreNamed (length texts) old → IsFurther old texts new after
    → new.bindings ≡ old.bindings → new.variables ≡ old.variables → HasTerm (length texts) old l → HasTerm (length after) new made → term_of after new made ≡ a
    → IsAnswer after old new (equal (term_of after old l) a) (gives.Equates l made)
answer-list old new texts after l made a h named further bound same has there is =
    answer-equal after old new _ (term_of after old l) a l made refl same (has-further old new texts after l further has) there
    (term-between old new texts after l h named further bound (has.0, named-more (length texts) (length after) l (longer-length texts after further.longer) has.1)) is
