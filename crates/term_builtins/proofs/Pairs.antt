-- A new compound of two cells, and two of them.
use Rattle.std.proofs.Common.{◌≡◌, ℕ, ◌<◌, List, [], ◌∷◌, ◌++◌, length, All, Some, refl, sym, ap, ap₂, ◌∙◌, arith, subst, codes, slice_get}
use Rattle.std.proofs.lemmas.List.Elements.{All-cons, All-nil}
use Rattle.std.proofs.lemmas.Option.{slice_get_within}
use Rattle.prolog_terms.specs.Tree.{Tree}
use Rattle.prolog_terms.specs.Faults.{two}
use Rattle.term_store.specs.declared.cell.Cell.{Cell}
use Rattle.term_store.specs.declared.cell.Cell.TheVariants.{Compound}
use Rattle.term_store.specs.Shape.{Shape}
use Rattle.term_store.specs.Terms.{text, term_of, HasTerm, IsCell, AreNamed, IsShape}
use Rattle.term_store.specs.Later.{AreLonger, AreDistinct}
use Rattle.term_store.specs.Heads.{IsFurther}
use Rattle.term_builtins.specs.declared.answer.Answer.TheVariants as gives
use Rattle.term_builtins.specs.Meanings.{both_equal}
use Rattle.term_builtins.specs.Answers.{IsAnswer}
use Rattle.term_builtins.proofs.Views.{text-read}
use Rattle.term_builtins.proofs.Grown.{further-names, further-further, further-compound, has-further, term-further, has-compound, term-compound}

-- a cell was made of this term, and nothing else
pub record IsPut (s t : Shape) (texts : List (List ℕ)) (made : Cell) (tree : Tree) : Type 0 where
  pub further : IsFurther s texts t texts
  pub bindings : t.bindings ≡ s.bindings
  pub variables : t.variables ≡ s.variables
  pub has : HasTerm (length texts) t made
  pub is : term_of texts t made ≡ tree

pub pair-cells : (P : Cell → Type 0) (a b : Cell) → P a → P b → All P (a ∷ b ∷ [])
pair-cells P a b p q = All-cons P a (b ∷ []) p (All-cons P b [] q (All-nil P))

pub put-pair : (s t : Shape) (texts : List (List ℕ)) (f : ℕ) (a b made : Cell) → IsShape s → AreNamed (length texts) s → f < length texts
    → HasTerm (length texts) s a → HasTerm (length texts) s b → t ≡ record s { compounds = s.compounds ++ (f, a ∷ b ∷ []) ∷ [] } → made ≡ Compound (length s.compounds)
    → IsPut s t texts made (two (text texts f) (term_of texts s a) (term_of texts s b))
put-pair s t texts f a b made formed named low ha hb grown at =
    subst (λ (u : Shape). IsPut s u texts made (two (text texts f) (term_of texts s a) (term_of texts s b))) (sym grown)
    (subst (λ (c : Cell). IsPut s (record s { compounds = s.compounds ++ (f, a ∷ b ∷ []) ∷ [] }) texts c (two (text texts f) (term_of texts s a) (term_of texts s b))) (sym at) record {
      further = further-compound s texts f (a ∷ b ∷ []) named low (pair-cells (HasTerm (length texts) s) a b ha hb);
      bindings = refl;
      variables = refl;
      has = has-compound (length texts) s f (a ∷ b ∷ []);
      is = term-compound s texts f (a ∷ b ∷ []) formed (omega arith) (omega arith) (pair-cells (IsCell s) a b ha.0 hb.0);
    })

-- a name was added, and two pairs of cells are to be made one
module _ (s t u : Shape) (texts after : List (List ℕ)) (comma : ℕ) (a x b y l r : Cell) (formed : IsShape s) (named : AreNamed (length texts) s)
    (longer : AreLonger texts after) (distinct : AreDistinct texts → AreDistinct after) (is : slice_get after comma ≡ Some (codes ","))
    (ha : HasTerm (length texts) s a) (hx : HasTerm (length texts) s x) (hb : HasTerm (length texts) s b) (hy : HasTerm (length texts) s y)
    (grown : t ≡ record s { compounds = s.compounds ++ (comma, a ∷ b ∷ []) ∷ [] }) (at : l ≡ Compound (length s.compounds)) where
  names-further : IsFurther s texts s after
  names-further = further-names s texts after longer distinct named

  low : comma < length after
  low = slice_get_within after comma (codes ",") is

  later-has : (c : Cell) → HasTerm (length texts) s c → HasTerm (length after) s c
  later-has c h = has-further s s texts after c names-further h

  first-put : IsPut s t after l (two (text after comma) (term_of after s a) (term_of after s b))
  first-put = put-pair s t after comma a b l formed names-further.named low (later-has a ha) (later-has b hb) grown at

  pub first-further : IsFurther s texts t after
  first-further = further-further s s t texts after after names-further first-put.further

  module _ (formed_now : IsShape t) (more_grown : u ≡ record t { compounds = t.compounds ++ (comma, x ∷ y ∷ []) ∷ [] }) (there : r ≡ Compound (length t.compounds)) where
    now-has : (c : Cell) → HasTerm (length texts) s c → HasTerm (length after) t c
    now-has c h = has-further s t after after c first-put.further (later-has c h)

    now-is : (c : Cell) → HasTerm (length texts) s c → term_of after t c ≡ term_of after s c
    now-is c h = term-further s t after after c formed names-further.named first-put.further first-put.bindings (later-has c h)

    second-put : IsPut t u after r (two (text after comma) (term_of after t x) (term_of after t y))
    second-put = put-pair t u after comma x y r formed_now first-put.further.named low (now-has x hx) (now-has y hy) more_grown there

    pub second-further : IsFurther s texts u after
    second-further = further-further s t u texts after after first-further second-put.further

    pub second-bindings : u.bindings ≡ s.bindings
    second-bindings = second-put.bindings ∙ first-put.bindings

    pub pairs-answer : IsAnswer after s u (both_equal (term_of after s a) (term_of after s x) (term_of after s b) (term_of after s y)) (gives.Equates l r)
    pairs-answer = (
      (let e = second-put.variables ∙ first-put.variables in omega (arith, e)),
      has-further t u after after l second-put.further first-put.has,
      second-put.has,
      term-further t u after after l formed_now first-put.further.named second-put.further second-put.bindings first-put.has ∙ first-put.is
          ∙ ap (λ (f : List ℕ). two f (term_of after s a) (term_of after s b)) (text-read after comma (codes ",") is),
      second-put.is ∙ ap (λ (f : List ℕ). two f (term_of after t x) (term_of after t y)) (text-read after comma (codes ",") is)
          ∙ ap₂ (two (codes ",")) (now-is x hx) (now-is y hy),
    )
