-- A new compound of new variables.
use Rattle.std.proofs.Common.{◌≡◌, ℕ, ◌+◌, ◌-◌, ◌<◌, ◌≤◌, List, [], ◌∷◌, ◌++◌, length, All, sym, ap, ◌∙◌, arith, subst}
use Rattle.prolog_terms.specs.Tree.{Tree, compound}
use Rattle.term_store.specs.declared.cell.Cell.{Cell}
use Rattle.term_store.specs.declared.cell.Cell.TheVariants.{Compound}
use Rattle.term_store.specs.Shape.{Shape}
use Rattle.term_store.specs.Terms.{text, term_of, IsCell, HasTerm, AreNamed, IsShape}
use Rattle.term_store.specs.Heads.{IsFurther}
use Rattle.term_store.proofs.Laws.{longer-itself, later-variables, are_named-variables, free-meaning, new-free, shape-wider}
use Rattle.term_builtins.specs.declared.answer.Answer.TheVariants as gives
use Rattle.term_builtins.specs.Meanings.{Meaning, Equates, variables_from}
use Rattle.term_builtins.specs.Answers.{IsAnswer}
use Rattle.term_builtins.proofs.Grown.{further-further, further-compound, has-compound, term-compound}
use Rattle.term_builtins.proofs.NewCells.{variable-term, cells_from, cells_from-length, cells_from-all, cells_from-trees}

-- so many variables were made, and these cells stand for the two terms
pub answer-made : (texts : List (List ℕ)) (old new : Shape) (m : Meaning) (k : ℕ) (a b : Tree) (l r : Cell) → m ≡ Equates k a b → new.variables ≡ old.variables + k
    → HasTerm (length texts) new l → HasTerm (length texts) new r → term_of texts new l ≡ a → term_of texts new r ≡ b → IsAnswer texts old new m (gives.Equates l r)
answer-made texts old new m k a b l r e variables left right left_is right_is =
    subst (λ (n : Meaning). IsAnswer texts old new n (gives.Equates l r)) (sym e) (variables, left, right, left_is, right_is)

pub further-variables : (s : Shape) (n : ℕ) (texts : List (List ℕ)) → s.variables ≤ n → AreNamed (length texts) s → IsFurther s texts (record s { variables = n }) texts
further-variables s n texts le named = record {
  later = later-variables s n le;
  longer = longer-itself texts;
  distinct = λ d. d;
  named = are_named-variables (length texts) n s named;
}

-- variables were made, and nothing else
pub made-variables : (s t : Shape) (k : ℕ) (texts : List (List ℕ)) → t ≡ record s { variables = s.variables + k } → AreNamed (length texts) s → IsFurther s texts t texts
made-variables s t k texts e named = subst (λ (u : Shape). IsFurther s texts u texts) (sym e) (further-variables s (s.variables + k) texts (omega arith) named)

-- at the end of a loop over their numbers
pub counted : (s t : Shape) (k first end at : ℕ) (cells slice : List Cell) → slice ≡ cells → cells ≡ cells_from s.variables (at - s.variables) → first ≡ s.variables
    → t ≡ record s { variables = s.variables + k } → end ≡ t.variables → end ≤ at → (first ≤ end → at ≤ end) → slice ≡ cells_from s.variables k
counted s t k first end at cells slice same is begins grown ends low high =
    let wide : t.variables ≡ s.variables + k = ap (λ (u : Shape). u.variables) grown in
    let top : at ≤ end = high (omega (arith, begins, ends, wide)) in
    let e : at - s.variables ≡ k = omega (arith, wide, ends, low, top) in
    same ∙ is ∙ ap (cells_from s.variables) e

module _ (s t : Shape) (k : ℕ) (cells : List Cell) (some : 1 ≤ k) (few : k ≤ 255) (formed : IsShape s) (grown : t ≡ record s { variables = s.variables + k })
    (cells_are : cells ≡ cells_from s.variables k) where
  wide-formed : IsShape (record s { variables = s.variables + k })
  wide-formed = shape-wider s (s.variables + k) formed (omega arith)

  cells-in : All (IsCell (record s { variables = s.variables + k })) (cells_from s.variables k)
  cells-in = cells_from-all (IsCell (record s { variables = s.variables + k })) s.variables k (λ v low high. high)

  -- they are cells of the store
  pub new-cells : All (IsCell t) cells
  new-cells =
      subst (λ (w : Shape). All (IsCell w) cells) (sym grown)
      (subst (All (IsCell (record s { variables = s.variables + k }))) (sym cells_are) cells-in)

  pub new-some : 1 ≤ length cells
  new-some = let e = ap length cells_are ∙ cells_from-length s.variables k in omega (arith, e, some)

  pub new-few : length cells ≤ 255
  new-few = let e = ap length cells_are ∙ cells_from-length s.variables k in omega (arith, e, few)

  module _ (u : Shape) (f : ℕ) (made : Cell) (put : u ≡ record t { compounds = t.compounds ++ (f, cells) ∷ [] }) (texts : List (List ℕ)) (named : AreNamed (length texts) s) (low : f < length texts) where
    u-is : u ≡ record s { variables = s.variables + k; compounds = s.compounds ++ (f, cells_from s.variables k) ∷ [] }
    u-is = put ∙ ap (λ (w : Shape). record w { compounds = w.compounds ++ (f, cells) ∷ [] }) grown
        ∙ ap (λ (cs : List Cell). record s { variables = s.variables + k; compounds = s.compounds ++ (f, cs) ∷ [] }) cells_are

    pub new-further : IsFurther s texts u texts
    new-further =
        subst (λ (w : Shape). IsFurther s texts w texts) (sym u-is)
        (further-further s (record s { variables = s.variables + k }) (record s { variables = s.variables + k; compounds = s.compounds ++ (f, cells_from s.variables k) ∷ [] }) texts texts texts
        (further-variables s (s.variables + k) texts (omega arith) named)
        (further-compound (record s { variables = s.variables + k }) texts f (cells_from s.variables k) (are_named-variables (length texts) (s.variables + k) s named) low
        (cells_from-all (HasTerm (length texts) (record s { variables = s.variables + k })) s.variables k (λ v above high. (high, tt)))))

    -- it stands for the name with these variables
    pub new-made : made ≡ Compound (length t.compounds) → HasTerm (length texts) u made × (term_of texts u made ≡ compound (text texts f) (variables_from s.variables k))
    new-made at =
        subst (λ (w : Shape). HasTerm (length texts) w made × (term_of texts w made ≡ compound (text texts f) (variables_from s.variables k))) (sym u-is)
        (subst (λ (c : Cell). HasTerm (length texts) (record s { variables = s.variables + k; compounds = s.compounds ++ (f, cells_from s.variables k) ∷ [] }) c
        × (term_of texts (record s { variables = s.variables + k; compounds = s.compounds ++ (f, cells_from s.variables k) ∷ [] }) c ≡ compound (text texts f) (variables_from s.variables k)))
        (sym (at ∙ ap (λ (w : Shape). Compound (length w.compounds)) grown)) (
          has-compound (length texts) (record s { variables = s.variables + k }) f (cells_from s.variables k),
          term-compound (record s { variables = s.variables + k }) texts f (cells_from s.variables k) wide-formed
              (let e = cells_from-length s.variables k in omega (arith, e, some)) (let e = cells_from-length s.variables k in omega (arith, e, few)) cells-in
              ∙ ap (compound (text texts f)) (cells_from-trees (term_of texts (record s { variables = s.variables + k })) s.variables k (λ v above.
              variable-term texts (record s { variables = s.variables + k }) v ∙ free-meaning (record s { variables = s.variables + k }) texts v (new-free s v formed above))),
        ))
