-- Lists in the store: one is taken apart, and one is made.
use Rattle.std.proofs.Common.{◌≡◌, ℕ, suc, ◌<◌, ◌≤◌, List, [], ◌∷◌, ◌++◌, length, map, get_or, take, drop, ◌-◌, All, true, false, Some, None, refl, sym, ap, ap₂, ◌∙◌, arith, subst, codes, append-nil, append_assoc, slice_get}
use Rattle.std.proofs.lemmas.List.Elements.{All-cons, All-nil, All-tail}
use Rattle.std.proofs.Math.Seq.{drop-cons, take-length}
use Rattle.std.proofs.lemmas.Option.{slice_get_within}
use Rattle.prolog_terms.specs.Tree.{Tree, atom, compound, none, more}
use Rattle.prolog_terms.specs.Substitutions.{substituted}
use Rattle.term_store.specs.declared.cell.Cell.{Cell}
use Rattle.term_store.specs.declared.cell.Cell.TheVariants as cell
use Rattle.term_store.specs.declared.cell.View.{View}
use Rattle.term_store.specs.declared.cell.View.TheVariants.{Variable, Integer, Atom, Compound}
use Rattle.term_store.specs.Shape.{Shape}
use Rattle.term_store.specs.Terms.{text, term_of, meaning, trees_of, IsCell, HasTerm, AreNamed, IsShape}
use Rattle.term_store.specs.Later.{AreLonger, AreDistinct}
use Rattle.term_store.specs.Heads.{IsFurther}
use Rattle.term_store.specs.Views.{tree_of}
use Rattle.term_store.proofs.Rows.{raw-atom}
use Rattle.term_store.proofs.Laws.{longer-length, named-more}
use Rattle.term_builtins.specs.Meanings.{is_cell, elements, list_end, list_tree}
use Rattle.term_builtins.specs.Answers.{IsList, AreParts}
use Rattle.term_builtins.proofs.Views.{text-read}
use Rattle.term_builtins.proofs.Grown.{further-names, further-further, further-compound, has-further, has-compound, term-between, term-compound}

-- ---- the front of a list

pub bare-name : (texts : List (List ℕ)) (s : Shape) (f : List ℕ) (t u : Tree) → is_cell f ≡ false → AreParts texts s (compound f (more t (more u none))) None
bare-name texts s f t u e = (rw e refl, rw e refl)

pub bare-count : (texts : List (List ℕ)) (s : Shape) (f : List ℕ) (tree : Cell → Tree) (cs : List Cell) → (2 ≤ length cs → length cs < 3 → ⊥) → AreParts texts s (compound f (trees_of tree cs)) None
bare-count texts s f tree [] n = (refl, refl)
bare-count texts s f tree (a ∷ []) n = (refl, refl)
bare-count texts s f tree (a ∷ b ∷ []) n = absurd (n (omega arith) (omega arith))
bare-count texts s f tree (a ∷ b ∷ c ∷ cs) n = (refl, refl)

pub bare-view : (texts : List (List ℕ)) (s : Shape) (name : ℕ → List ℕ) (tree : Cell → Tree) (v : View) → ((f : ℕ) (args : _) → v ≡ Compound f args → ⊥) → AreParts texts s (tree_of name tree v) None
bare-view texts s name tree (Variable n) h = (refl, refl)
bare-view texts s name tree (Integer z) h = (refl, refl)
bare-view texts s name tree (Atom a) h = (refl, refl)
bare-view texts s name tree (Compound f args) h = absurd (h f args refl)

pub two-cells : (cs : List Cell) (d : Cell) → 2 ≤ length cs → length cs < 3 → cs ≡ get_or cs 0 d ∷ get_or cs 1 d ∷ []
two-cells [] d h k = absurd (omega arith)
two-cells (a ∷ []) d h k = absurd (omega arith)
two-cells (a ∷ b ∷ []) d h k = refl
two-cells (a ∷ b ∷ c ∷ cs) d h k = absurd (omega arith)

module _ (texts : List (List ℕ)) (s : Shape) (t : Tree) (f : List ℕ) (cs : List Cell) (d : Cell) (some : 2 ≤ length cs) (few : length cs < 3)
    (e : t ≡ compound f (trees_of (term_of texts s) cs)) where
  at-two : t ≡ compound f (more (term_of texts s (get_or cs 0 d)) (more (term_of texts s (get_or cs 1 d)) none))
  at-two = e ∙ ap (λ (l : List Cell). compound f (trees_of (term_of texts s) l)) (two-cells cs d some few)

  pub parts-other : is_cell f ≡ false → AreParts texts s t None
  parts-other is = subst (λ (u : Tree). AreParts texts s u None) (sym at-two) (bare-name texts s f _ _ is)

  pub parts-cell : is_cell f ≡ true → All (HasTerm (length texts) s) cs → AreParts texts s t (Some (get_or cs 0 d, get_or cs 1 d))
  parts-cell is valid =
      subst (λ (u : Tree). AreParts texts s u (Some (get_or cs 0 d, get_or cs 1 d))) (sym at-two)
      (valid 0 d (omega (arith, some)), valid 1 d (omega (arith, some)), rw is refl, rw is refl)

-- the first cell and the others
pub first-rest : (cs : List Cell) (d : Cell) → 1 ≤ length cs → cs ≡ get_or cs 0 d ∷ take (length cs - 1) (drop 1 cs)
first-rest [] d some = absurd (omega arith)
first-rest (c ∷ cs) d some =
    let e : length cs ≡ length (c ∷ cs) - 1 = omega arith in
    ap (λ (ds : List Cell). c ∷ ds) (sym (take-length cs) ∙ ap (λ (n : ℕ). take n cs) e)

pub all-rest : (P : Cell → Type 0) (cs : List Cell) (d : Cell) → 1 ≤ length cs → All P cs → All P (take (length cs - 1) (drop 1 cs))
all-rest P cs d some h = All-tail P (get_or cs 0 d) (take (length cs - 1) (drop 1 cs)) (subst (All P) (first-rest cs d some) h)

-- ---- taking a list apart

-- these elements were taken from the front of a list, and the end is what is left
pub record IsPartlyTaken (texts : List (List ℕ)) (s : Shape) (t : Tree) (cells : List Cell) (end : Cell) : Type 0 where
  pub valid : All (HasTerm (length texts) s) cells
  pub left_valid : HasTerm (length texts) s end
  pub elements_are : map (term_of texts s) cells ++ elements (term_of texts s end) ≡ elements t
  pub end_is : list_end (term_of texts s end) ≡ list_end t

pub taken-start : (texts : List (List ℕ)) (s : Shape) (list : Cell) → HasTerm (length texts) s list → IsPartlyTaken texts s (term_of texts s list) [] list
taken-start texts s list h = record { valid = All-nil (HasTerm (length texts) s); left_valid = h; elements_are = refl; end_is = refl }

map-push : (f : Cell → Tree) (cs : List Cell) (c : Cell) → map f (cs ++ c ∷ []) ≡ map f cs ++ f c ∷ []
map-push f [] c = refl
map-push f (d ∷ cs) c = ap (λ (ts : List Tree). f d ∷ ts) (map-push f cs c)

all-push : (P : Cell → Type 0) (cs : List Cell) (c : Cell) → All P cs → P c → All P (cs ++ c ∷ [])
all-push P [] c h p = All-cons P c [] p (All-nil P)
all-push P (d ∷ cs) c h p = All-cons P d (cs ++ c ∷ []) (h 0 d (omega arith)) (all-push P cs c (λ k e lt. h (suc k) e (omega arith)) p)

pub taken-more : (texts : List (List ℕ)) (s : Shape) (t : Tree) (cells after : List Cell) (end first rest : Cell) → IsPartlyTaken texts s t cells end
    → AreParts texts s (term_of texts s end) (Some (first, rest)) → after ≡ cells ++ first ∷ [] → IsPartlyTaken texts s t after rest
taken-more texts s t cells after end first rest h parts e =
    subst (λ (cs : List Cell). IsPartlyTaken texts s t cs rest) (sym e) record {
      valid = all-push (HasTerm (length texts) s) cells first h.valid parts.0;
      left_valid = parts.1;
      elements_are =
          ap (λ (ts : List Tree). ts ++ elements (term_of texts s rest)) (map-push (term_of texts s) cells first)
          ∙ append_assoc (map (term_of texts s) cells) (term_of texts s first ∷ []) (elements (term_of texts s rest))
          ∙ ap (λ (ts : List Tree). map (term_of texts s) cells ++ ts) (sym parts.2) ∙ h.elements_are;
      end_is = sym parts.3 ∙ h.end_is;
    }

pub taken-smaller : (texts : List (List ℕ)) (s : Shape) (end first rest : Cell) → AreParts texts s (term_of texts s end) (Some (first, rest))
    → length (elements (term_of texts s rest)) < length (elements (term_of texts s end))
taken-smaller texts s end first rest parts = let e = ap length parts.2 in omega (arith, e)

pub taken-end : (texts : List (List ℕ)) (s : Shape) (t : Tree) (cells : List Cell) (end : Cell) → IsPartlyTaken texts s t cells end
    → AreParts texts s (term_of texts s end) None → IsList texts s t cells end
taken-end texts s t cells end h bare = record {
  elements_are = sym (append-nil (map (term_of texts s) cells)) ∙ ap (λ (ts : List Tree). map (term_of texts s) cells ++ ts) (sym bare.0) ∙ h.elements_are;
  end_is = sym bare.1 ∙ h.end_is;
}

-- ---- making a list

-- one step down
pub drop-step : (cs : List Cell) (n : ℕ) (d : Cell) → 0 < n → n ≤ length cs → get_or cs (n - 1) d ∷ drop n cs ≡ drop (n - 1) cs
drop-step cs n d some low =
    let one : suc (n - 1) ≡ n = omega arith in
    ap (λ (k : ℕ). get_or cs (n - 1) d ∷ drop k cs) (sym one) ∙ sym (drop-cons cs (n - 1) d (omega arith))

-- the list of these cells was made of what was added to the store
pub record IsPartlyPut (old : Shape) (texts : List (List ℕ)) (s : Shape) (after : List (List ℕ)) (cells : List Cell) (list : Cell) : Type 0 where
  pub further : IsFurther old texts s after
  pub bindings : s.bindings ≡ old.bindings
  pub variables : s.variables ≡ old.variables
  pub valid : HasTerm (length after) s list
  pub is : term_of after s list ≡ list_tree (map (term_of after old) cells)

pub put-start : (old : Shape) (texts after : List (List ℕ)) (n : ℕ) → AreLonger texts after → (AreDistinct texts → AreDistinct after) → AreNamed (length texts) old
    → slice_get after n ≡ Some (codes "[]") → IsPartlyPut old texts old after [] (cell.Atom n)
put-start old texts after n longer distinct named e = record {
  further = further-names old texts after longer distinct named;
  bindings = refl;
  variables = refl;
  valid = (tt, slice_get_within after n (codes "[]") e);
  is = ap (substituted (meaning after old)) (raw-atom (text after) old.compounds n) ∙ ap atom (text-read after n (codes "[]") e);
}

module _ (old : Shape) (texts : List (List ℕ)) (s new : Shape) (after : List (List ℕ)) (cells : List Cell) (list d made : Cell) (dot : ℕ)
    (formed : IsShape old) (named : AreNamed (length texts) old) (now : IsShape s) (h : IsPartlyPut old texts s after cells list)
    (has : HasTerm (length texts) old d) (low : dot < length after) (is_dot : text after dot ≡ codes ".") where
  d_has : HasTerm (length after) s d
  d_has = has-further old s texts after d h.further has

  pub row-valid : All (HasTerm (length after) s) (d ∷ list ∷ [])
  row-valid = All-cons (HasTerm (length after) s) d (list ∷ []) d_has (All-cons (HasTerm (length after) s) list [] h.valid (All-nil (HasTerm (length after) s)))

  pub row-cells : All (IsCell s) (d ∷ list ∷ [])
  row-cells k e lt = (row-valid k e lt).0

  d_is : term_of after s d ≡ term_of after old d
  d_is = term-between old s texts after d formed named h.further h.bindings (has.0, named-more (length texts) (length after) d (longer-length texts after h.further.longer) has.1)

  pub put-step : new ≡ record s { compounds = s.compounds ++ (dot, d ∷ list ∷ []) ∷ [] } → made ≡ cell.Compound (length s.compounds) → IsPartlyPut old texts new after (d ∷ cells) made
  put-step e here =
      subst (λ (u : Shape). IsPartlyPut old texts u after (d ∷ cells) made) (sym e)
      (subst (λ (c : Cell). IsPartlyPut old texts (record s { compounds = s.compounds ++ (dot, d ∷ list ∷ []) ∷ [] }) after (d ∷ cells) c) (sym here) record {
        further = further-further old s _ texts after after h.further (further-compound s after dot (d ∷ list ∷ []) h.further.named low row-valid);
        bindings = h.bindings;
        variables = h.variables;
        valid = has-compound (length after) s dot (d ∷ list ∷ []);
        is = term-compound s after dot (d ∷ list ∷ []) now (omega arith) (omega arith) row-cells
            ∙ ap (λ (f : List ℕ). compound f (more (term_of after s d) (more (term_of after s list) none))) is_dot
            ∙ ap₂ (λ (t u : Tree). compound (codes ".") (more t (more u none))) d_is h.is;
      })
