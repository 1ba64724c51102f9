-- The variables of a term in order of first occurrence.
use Rattle.std.proofs.Common.{◌≡◌, ◌≢◌, ℕ, suc, List, [], ◌∷◌, ◌++◌, length, Bool, true, false, nat_eq, nat_cmp, Some, None, refl, sym, ap, ap₂, ◌∙◌, arith, subst, append_assoc, append-nil}
use Rattle.std.specs.Prelude.{◌||◌, ◌==◌, if◌then◌else◌}
use Rattle.std.specs.BTreeMap.{get, BTreeMap}
use Rattle.prolog_terms.specs.Tree.{Tree, Trees, variable, integer, atom, compound, none, more}
use Rattle.prolog_terms.specs.Substitutions.{contains, place_of, variables_after, all_variables_after}
use Rattle.term_store.specs.Inside.{ArePlaced}

pub place-new : (x : ℕ) (ns : List ℕ) → contains x ns ≡ false → place_of x (ns ++ x ∷ []) ≡ length ns
place-new x [] h = go (x == x) (let r : x ≡ x = refl in grind arith)
  where
    go : (b : Bool) → b ≡ true → (if b then 0 else suc 0) ≡ 0
    go true e = refl
    go false e = cc
place-new x (n ∷ ns) h = go (x == n) h (place-new x ns)
  where
    go : (b : Bool) → (b || contains x ns) ≡ false → (contains x ns ≡ false → place_of x (ns ++ x ∷ []) ≡ length ns) → (if b then 0 else suc (place_of x (ns ++ x ∷ []))) ≡ suc (length ns)
    go true e f = cc
    go false e f = ap suc (f e)

pub place-old : (v : ℕ) (ns ms : List ℕ) → contains v ns ≡ true → place_of v (ns ++ ms) ≡ place_of v ns
place-old v [] ms h = cc
place-old v (n ∷ ns) ms h = go (v == n) h (place-old v ns ms)
  where
    go : (b : Bool) → (b || contains v ns) ≡ true → (contains v ns ≡ true → place_of v (ns ++ ms) ≡ place_of v ns) → (if b then 0 else suc (place_of v (ns ++ ms))) ≡ (if b then 0 else suc (place_of v ns))
    go true e f = refl
    go false e f = ap suc (f e)

pub contains-append : (v : ℕ) (ns ms : List ℕ) → contains v (ns ++ ms) ≡ (contains v ns || contains v ms)
contains-append v [] ms = refl
contains-append v (n ∷ ns) ms = go (v == n) (contains-append v ns ms)
  where
    go : (b : Bool) → contains v (ns ++ ms) ≡ (contains v ns || contains v ms) → (b || contains v (ns ++ ms)) ≡ ((b || contains v ns) || contains v ms)
    go true e = refl
    go false e = e

contains-last : (v : ℕ) (ns : List ℕ) → contains v (ns ++ v ∷ []) ≡ true
contains-last v [] = go (v == v) (let r : v ≡ v = refl in grind arith)
  where
    go : (b : Bool) → b ≡ true → (b || false) ≡ true
    go true e = refl
    go false e = cc
contains-last v (n ∷ ns) = go (v == n) (contains-last v ns)
  where
    go : (b : Bool) → contains v (ns ++ v ∷ []) ≡ true → (b || contains v (ns ++ v ∷ [])) ≡ true
    go true e = refl
    go false e = e

pub not-met : (order : List ℕ) (places : BTreeMap ℕ ℕ) (x : ℕ) → ArePlaced order places → get nat_cmp places x ≡ None → contains x order ≡ false
not-met order places x h e = go (contains x order) refl (sym (h x) ∙ e)
  where
    go : (b : Bool) → contains x order ≡ b → (if b then Some (place_of x order) else None) ≡ None → contains x order ≡ false
    go true q k = cc
    go false q k = q

pub placed-more : (order : List ℕ) (places after : BTreeMap ℕ ℕ) (x : ℕ) → ArePlaced order places → contains x order ≡ false → get nat_cmp after x ≡ Some (length order)
    → ((y : ℕ) → y ≢ x → get nat_cmp after y ≡ get nat_cmp places y) → ArePlaced (order ++ x ∷ []) after
placed-more order places after x h free here others v = go (nat_eq v x) refl
  where
    here_is : (if contains x (order ++ x ∷ []) then Some (place_of x (order ++ x ∷ [])) else None) ≡ Some (length order)
    here_is = ap (λ (b : Bool). if b then Some (place_of x (order ++ x ∷ [])) else None) (contains-last x order) ∙ ap Some (place-new x order free)

    other : (b : Bool) → contains v order ≡ b → v ≢ x → (if contains v order then Some (place_of v order) else None) ≡ (if contains v (order ++ x ∷ []) then Some (place_of v (order ++ x ∷ [])) else None)
    other true q ne =
        ap (λ (b : Bool). if b then Some (place_of v order) else None) q ∙ ap Some (sym (place-old v order (x ∷ []) q))
        ∙ sym (ap (λ (b : Bool). if b then Some (place_of v (order ++ x ∷ [])) else None) (contains-append v order (x ∷ []) ∙ ap (λ (b : Bool). b || contains v (x ∷ [])) q))
    other false q ne =
        let apart : (v == x) ≡ false = grind arith in
        ap (λ (b : Bool). if b then Some (place_of v order) else None) q
        ∙ sym (ap (λ (b : Bool). if b then Some (place_of v (order ++ x ∷ [])) else None) (contains-append v order (x ∷ []) ∙ ap₂ (λ (a b : Bool). a || (b || false)) q apart))

    go : (b : Bool) → nat_eq v x ≡ b → get nat_cmp after v ≡ (if contains v (order ++ x ∷ []) then Some (place_of v (order ++ x ∷ [])) else None)
    go true q =
        let same : x ≡ v = grind arith in
        subst (λ (w : ℕ). get nat_cmp after w ≡ (if contains w (order ++ x ∷ []) then Some (place_of w (order ++ x ∷ [])) else None)) same (here ∙ sym here_is)
    go false q = let ne : v ≢ x = grind arith in others v ne ∙ h v ∙ other (contains v order) refl ne

-- ---- what is met later goes behind

pub record IsFront (ns all : List ℕ) : Type 0 where
  pub later : List ℕ
  pub all_is : all ≡ ns ++ later

front-further : (a b c : List ℕ) → IsFront a b → IsFront b c → IsFront a c
front-further a b c h k = record {
  later = h.later ++ k.later;
  all_is = k.all_is ∙ ap (λ (ns : List ℕ). ns ++ k.later) h.all_is ∙ append_assoc a h.later k.later;
}

front-itself : (a : List ℕ) → IsFront a a
front-itself a = record { later = []; all_is = sym (append-nil a) }

front-variable : (seen : List ℕ) (n : ℕ) (b : Bool) → IsFront seen (if b then seen else seen ++ n ∷ [])
front-variable seen n true = front-itself seen
front-variable seen n false = record { later = n ∷ []; all_is = refl }

mutual
  pub front-after : (seen : List ℕ) (t : Tree) → IsFront seen (variables_after seen t)
  front-after seen (variable n) = front-variable seen n (contains n seen)
  front-after seen (integer z) = front-itself seen
  front-after seen (atom a) = front-itself seen
  front-after seen (compound f ts) = front-all_after seen ts

  pub front-all_after : (seen : List ℕ) (ts : Trees) → IsFront seen (all_variables_after seen ts)
  front-all_after seen none = front-itself seen
  front-all_after seen (more t ts) = front-further seen (variables_after seen t) _ (front-after seen t) (front-all_after (variables_after seen t) ts)

-- what was met stays met
pub stays-met : (seen all : List ℕ) → IsFront seen all → (v : ℕ) → contains v seen ≡ true → contains v all ≡ true
stays-met seen all h v e =
    ap (contains v) h.all_is ∙ contains-append v seen h.later ∙ ap (λ (b : Bool). b || contains v h.later) e

-- a variable that is met has been met
pub met-variable : (seen : List ℕ) (n : ℕ) → contains n (variables_after seen (variable n)) ≡ true
met-variable seen n = go (contains n seen) refl
  where
    go : (b : Bool) → contains n seen ≡ b → contains n (if b then seen else seen ++ n ∷ []) ≡ true
    go true e = e
    go false e = contains-last n seen
