-- The shown variables as a list of cells, from the last to the first.
use Rattle.std.proofs.Common.{◌≡◌, ℕ, zero, suc, ◌-◌, ◌<◌, ◌≤◌, List, [], ◌∷◌, ◌++◌, length, drop, drop-cons, drop_of_length-le, refl, sym, ap, ap₂, ◌∙◌, arith, subst, All, Some, slice_get, get_or, length-append, append-nil, Bool, true, false}
use Rattle.std.specs.Prelude.{codes, if◌then◌else◌, nat_eq}
use Rattle.std.specs.List.{list_any}
use Rattle.std.specs.Cmp.Lexicographic.{pointwise}
use Rattle.indexmap.specs.IndexSet.{insert_key}
use Rattle.prolog_terms.specs.Tree.{Tree, variable, atom, compound, none, more}
use Rattle.prolog_terms.specs.declared.shown.Shown.{Shown}
use Rattle.term_store.specs.declared.cell.Cell.{Cell}
use Rattle.term_store.specs.declared.cell.Cell.TheVariants.{Variable, Atom, Compound}
use Rattle.term_store.specs.Shape.{Shape}
use Rattle.term_store.specs.Terms.{raw, raw_at, IsCell, IsNamed, IsShape, HasTerm, AreNamed}
use Rattle.term_store.specs.Later.{IsLater, AreLonger}
use Rattle.term_store.proofs.Laws.{later-itself, later-further, later-compound, named-compound, raw-new}
use Rattle.wam_machine.specs.Machine.{shown_list}
use Rattle.wam_machine.proofs.SeenCells.{text_read}

-- the cell is the list of these variables, in a store that has grown from the old one by compounds
pub record IsListed (names : List (List ℕ)) (old new : Shape) (c : Cell) (shown : List Shown) : Type 0 where
  pub later : IsLater old new
  pub bindings : new.bindings ≡ old.bindings
  pub variables : new.variables ≡ old.variables
  pub named : AreNamed (length names) new
  pub cell : HasTerm (length names) new c
  pub term : raw names new c ≡ shown_list shown

pub nothing_listed : (names : List (List ℕ)) (s : Shape) (c : Cell) (shown : List Shown) (n : ℕ) → AreNamed (length names) s → HasTerm (length names) s c
    → raw names s c ≡ atom (codes "[]") → n ≡ length shown → IsListed names s s c (drop n shown)
nothing_listed names s c shown n named has e whole =
    let past : length shown ≤ n = omega arith in
    record {
      later = later-itself s;
      bindings = refl;
      variables = refl;
      named = named;
      cell = has;
      term = e ∙ ap shown_list (sym (drop_of_length-le shown past));
    }

pub text_low : (names : List (List ℕ)) (n : ℕ) (t : List ℕ) → slice_get names n ≡ Some t → n < length names
text_low [] n t e = absurd (cc)
text_low (x ∷ xs) zero t e = omega arith
text_low (x ∷ xs) (suc n) t e = let low : n < length xs = text_low xs n t e in omega arith

raw_variable : (names : List (List ℕ)) (s : Shape) (v : ℕ) → raw names s (Variable v) ≡ variable v
unfolding raw_at
raw_variable names s v = refl

module _ (names : List (List ℕ)) (old s : Shape) (c : Cell) (dot v : ℕ) where
  both : (P : Cell → Type 0) → P (Variable v) → P c → All P (Variable v ∷ c ∷ [])
  both P a b zero d lt = a
  both P a b (suc zero) d lt = b
  both P a b (suc (suc k)) d lt = absurd (omega arith)

  pub pair_cells : (shown : List Shown) → IsListed names old s c shown → v < old.variables → All (IsCell s) (Variable v ∷ c ∷ [])
  pair_cells shown l low = let e = l.variables in both (IsCell s) (omega (arith, e, low)) l.cell.0

  listed_before : (one : Shown) (shown : List Shown) → IsListed names old s c shown → IsShape s → slice_get names dot ≡ Some (codes ".") → v < old.variables → v ≡ one.var
      → IsListed names old (record s { compounds = s.compounds ++ (dot, Variable v ∷ c ∷ []) ∷ [] }) (Compound (length s.compounds)) (one ∷ shown)
  listed_before one shown l h d low e =
      let row : ℕ × List Cell = (dot, Variable v ∷ c ∷ []) in
      let few : length (Variable v ∷ c ∷ []) ≤ 255 = omega arith in
      record {
        later = later-further old s (record s { compounds = s.compounds ++ row ∷ [] }) l.later (later-compound s row);
        bindings = l.bindings;
        variables = l.variables;
        named = named-compound (length names) s dot (Variable v ∷ c ∷ []) l.named (text_low names dot (codes ".") d) (both (IsNamed (length names)) tt l.cell.1);
        cell = (let more = length-append s.compounds (row ∷ []) in omega (arith, more), tt);
        term = raw-new s names dot (Variable v ∷ c ∷ []) h (omega arith) few (pair_cells shown l low)
            ∙ ap₂ (λ (f : List ℕ) (t : Tree). compound f (more (raw names s (Variable v)) (more t none))) (text_read names dot (codes ".") d) l.term
            ∙ ap (λ (t : Tree). compound (codes ".") (more t (more (shown_list shown) none))) (raw_variable names s v ∙ ap variable e);
      }

  -- one variable more
  pub one_listed : (shown : List Shown) (one : Shown) (left k : ℕ) (new : Shape) (d : Cell) → left ≤ length shown → 0 < left → k ≡ left - 1 → one ≡ get_or shown k one
      → IsListed names old s c (drop left shown) → IsShape s → slice_get names dot ≡ Some (codes ".") → v < old.variables → v ≡ one.var
      → new ≡ record s { compounds = s.compounds ++ (dot, Variable v ∷ c ∷ []) ∷ [] } → d ≡ Compound (length s.compounds) → IsListed names old new d (drop k shown)
  one_listed shown one left k new d some few less is l h dot_is low e grown at =
      let here : k < length shown = omega arith in
      let next : suc k ≡ left = omega arith in
      let cut : drop k shown ≡ one ∷ drop left shown = drop-cons shown k one here ∙ ap (λ (x : Shown). x ∷ drop (suc k) shown) (sym is) ∙ ap (λ (n : ℕ). one ∷ drop n shown) next in
      subst (λ (ss : List Shown). IsListed names old new d ss) (sym cut)
      (subst (λ (x : Cell). IsListed names old new x (one ∷ drop left shown)) (sym at)
      (subst (λ (u : Shape). IsListed names old u (Compound (length s.compounds)) (one ∷ drop left shown)) (sym grown) (listed_before one (drop left shown) l h dot_is low e)))

pub all_listed : (names : List (List ℕ)) (old s : Shape) (c : Cell) (shown : List Shown) (left : ℕ) → left ≤ 0 → IsListed names old s c (drop left shown) → raw names s c ≡ shown_list shown
all_listed names old s c shown left end l = let e : left ≡ 0 = omega arith in l.term ∙ ap (λ (n : ℕ). shown_list (drop n shown)) e

-- ---- the list's names

pub interned_longer : (old new : List (List ℕ)) (t : List ℕ) → new ≡ insert_key (pointwise nat_eq) old t → AreLonger old new
interned_longer old new t e = go (list_any (pointwise nat_eq t) old) e
  where
    go : (b : Bool) → new ≡ (if b then old else old ++ t ∷ []) → AreLonger old new
    go true k = record { added = []; texts = k ∙ sym (append-nil old) }
    go false k = record { added = t ∷ []; texts = k }

pub number_stays : (old new : List (List ℕ)) (n : ℕ) (t : List ℕ) → AreLonger old new → slice_get old n ≡ Some t → slice_get new n ≡ Some t
number_stays old new n t h e = ap (λ (xs : List (List ℕ)). slice_get xs n) h.texts ∙ go old n e
  where
    go : (xs : List (List ℕ)) (n : ℕ) → slice_get xs n ≡ Some t → slice_get (xs ++ h.added) n ≡ Some t
    go [] n e = absurd (cc)
    go (x ∷ xs) zero e = e
    go (x ∷ xs) (suc n) e = go xs n e

pub end_has : (names : List (List ℕ)) (s : Shape) (n : ℕ) (t : List ℕ) → slice_get names n ≡ Some t → HasTerm (length names) s (Atom n)
end_has names s n t e = (tt, text_low names n t e)

pub end_is : (names : List (List ℕ)) (s : Shape) (n : ℕ) (t : List ℕ) → slice_get names n ≡ Some t → raw names s (Atom n) ≡ atom t
unfolding raw_at
end_is names s n t e = ap atom (text_read names n t e)
