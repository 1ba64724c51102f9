-- The walk that looks for a variable.
use Rattle.std.proofs.Common.{◌≡◌, ◌≢◌, ℕ, ℤ, ◌<◌, List, [], ◌∷◌, ◌++◌, All, Bool, true, false, nat_eq, refl, append-nil, inl, sym, ap, ◌∙◌, arith, subst}
use Rattle.std.proofs.lemmas.List.Elements.{All-append}
use Rattle.prolog_terms.specs.Tree.{compound}
use Rattle.term_store.specs.declared.cell.Cell.{Cell}
use Rattle.term_store.specs.declared.cell.View.{View}
use Rattle.term_store.specs.declared.cell.View.TheVariants.{Variable, Integer, Atom, Compound}
use Rattle.term_store.specs.Shape.{Shape}
use Rattle.term_store.specs.Terms.{value, trees_of, IsCell, IsShape}
use Rattle.term_store.specs.Views.{Looks, tree_of}
use Rattle.term_store.specs.Work.{Occurs, OccursIn, size, size_all, plain, IsFound, AreFound, IsWalk}
use Rattle.term_store.proofs.Trees.{size_pos}
use Rattle.term_store.proofs.Seen.{looks-value, looks-args}
use Rattle.term_store.proofs.Steps.{All-front, occurs-forth, occurs-back, occurs-same, size-step, OccursIn-right}

module _ (s : Shape) (x : ℕ) (cells : List Cell) (old rest new : List Cell) (next : Cell) (view : View) (h : IsShape s) (walk : IsWalk s x cells old)
    (popped : old ≡ rest ++ next ∷ []) (looks : Looks s next view) where
  -- what is seen is no compound: nothing is to be done instead
  leaf : new ≡ rest → ((name : ℕ → List ℕ) → Occurs x (tree_of name (value name s) view) → ⊥) → IsWalk s x cells new
  leaf same absent =
      let pushed : new ≡ rest ++ [] = same ∙ sym (append-nil rest) in record {
        valid = subst (All (IsCell s)) (sym same) (All-front (IsCell s) old rest (next ∷ []) popped walk.valid);
        there = λ name o. occurs-forth x (value name s) old rest [] new next popped pushed
            (λ here. absent name (occurs-same x _ _ (looks-value s next view h looks name) here)) (walk.there name o);
        back = λ name o. walk.back name (occurs-back x (value name s) old rest [] new next popped pushed (λ none. absurd none) o);
      }

  pub smaller-leaf : new ≡ rest → size_all (trees_of (value plain s) new) < size_all (trees_of (value plain s) old)
  smaller-leaf same = size-step x (value plain s) old rest [] new next popped (same ∙ sym (append-nil rest)) (size_pos (value plain s next))

  pub walk-variable : (y : ℕ) → view ≡ Variable y → y ≢ x → new ≡ rest → IsWalk s x cells new
  walk-variable y e ne same = leaf same (λ name o. ne (sym (subst (λ (v : View). Occurs x (tree_of name (value name s) v)) e o)))

  pub walk-integer : (z : ℤ) → view ≡ Integer z → new ≡ rest → IsWalk s x cells new
  walk-integer z e same = leaf same (λ name o. subst (λ (v : View). Occurs x (tree_of name (value name s) v)) e o)

  pub walk-atom : (n : ℕ) → view ≡ Atom n → new ≡ rest → IsWalk s x cells new
  walk-atom n e same = leaf same (λ name o. subst (λ (v : View). Occurs x (tree_of name (value name s) v)) e o)

  compound_is : (f : ℕ) (args : _) → view ≡ Compound f args → (name : ℕ → List ℕ) → value name s next ≡ compound (name f) (trees_of (value name s) args.now)
  compound_is f args e name = looks-value s next view h looks name ∙ ap (tree_of name (value name s)) e

  pub walk-compound : (f : ℕ) (args : _) → view ≡ Compound f args → new ≡ rest ++ args.now → IsWalk s x cells new
  walk-compound f args e pushed = record {
    valid = subst (All (IsCell s)) (sym pushed)
        (All-append (IsCell s) rest args.now (All-front (IsCell s) old rest (next ∷ []) popped walk.valid) (looks-args s next f args h (subst (Looks s next) e looks)));
    there = λ name o. occurs-forth x (value name s) old rest args.now new next popped pushed
        (λ here. occurs-same x _ _ (compound_is f args e name) here) (walk.there name o);
    back = λ name o. walk.back name (occurs-back x (value name s) old rest args.now new next popped pushed
        (λ here. occurs-same x _ _ (sym (compound_is f args e name)) here) o);
  }

  pub smaller-compound : (f : ℕ) (args : _) → view ≡ Compound f args → new ≡ rest ++ args.now → size_all (trees_of (value plain s) new) < size_all (trees_of (value plain s) old)
  smaller-compound f args e pushed = size-step x (value plain s) old rest args.now new next popped pushed
      (let k = ap size (compound_is f args e plain) in omega (arith, k))

  pub found-here : (y : ℕ) → view ≡ Variable y → y ≡ x → (name : ℕ → List ℕ) → OccursIn x (trees_of (value name s) cells)
  found-here y e same name = walk.back name
      (subst (λ (cs : List Cell). OccursIn x (trees_of (value name s) cs)) (sym popped)
      (OccursIn-right x (value name s) rest (next ∷ []) (inl (occurs-same x _ _ (sym (looks-value s next view h looks name ∙ ap (tree_of name (value name s)) e)) (sym same)))))

pub walk-start : (s : Shape) (x : ℕ) (cells todo : List Cell) → All (IsCell s) cells → todo ≡ cells → IsWalk s x cells todo
walk-start s x cells todo valid e = subst (IsWalk s x cells) (sym e) (record {
  valid = valid;
  there = λ name o. o;
  back = λ name o. o;
})

-- ---- what one look tells

module _ (s : Shape) (x : ℕ) (c : Cell) (view : View) (h : IsShape s) (looks : Looks s c view) where
  seen_is : (v : View) → view ≡ v → (name : ℕ → List ℕ) → value name s c ≡ tree_of name (value name s) v
  seen_is v e name = looks-value s c view h looks name ∙ ap (tree_of name (value name s)) e

  pub found-variable : (y : ℕ) → view ≡ Variable y → IsFound s x c (nat_eq y x)
  found-variable y e = go (nat_eq y x) refl
    where
      go : (b : Bool) → nat_eq y x ≡ b → IsFound s x c b
      go true q = λ name. let same : x ≡ y = grind arith in occurs-same x _ _ (sym (seen_is (Variable y) e name)) same
      go false q = λ name o. let same : x ≡ y = occurs-same x _ _ (seen_is (Variable y) e name) o in grind arith

  pub found-integer : (z : ℤ) → view ≡ Integer z → IsFound s x c false
  found-integer z e = λ name o. occurs-same x _ _ (seen_is (Integer z) e name) o

  pub found-atom : (n : ℕ) → view ≡ Atom n → IsFound s x c false
  found-atom n e = λ name o. occurs-same x _ _ (seen_is (Atom n) e name) o

  pub found-compound : (f : ℕ) (args : _) → view ≡ Compound f args → (b : Bool) → AreFound s x args.now b → IsFound s x c b
  found-compound f args e true all = λ name. occurs-same x _ _ (sym (seen_is (Compound f args) e name)) (all name)
  found-compound f args e false all = λ name o. all name (occurs-same x _ _ (seen_is (Compound f args) e name) o)

  pub compound-cells : (f : ℕ) (args : _) → view ≡ Compound f args → All (IsCell s) args.now
  compound-cells f args e = looks-args s c f args h (subst (Looks s c) e looks)
