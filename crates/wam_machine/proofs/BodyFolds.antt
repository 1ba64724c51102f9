-- Parts that are put on a stack of bodies, the last first.
use Rattle.std.proofs.Common.{◌≡◌, ℕ, suc, zero, ◌-◌, ◌<◌, ◌≤◌, List, [], ◌∷◌, ◌++◌, length, map, drop, get_or, refl, sym, ap, ◌∙◌, arith, subst, drop-cons, drop_of_length-le}
use Rattle.std.specs.Prelude.{reverse, All, Option, Some, None, IsSome, is_some}
use Rattle.std.proofs.lemmas.List.{get_or_append_left}
use Rattle.std.proofs.lemmas.List.Elements.{All-nil, All-pop}
use Rattle.prolog_terms.specs.Tree.{Tree}
use Rattle.prolog_terms.specs.Clauses.{is_connective}
use Rattle.term_store.specs.declared.cell.Cell.{Cell}
use Rattle.term_store.specs.Terms.{text}
use Rattle.term_store.proofs.Laws.{longer-length}
use Rattle.wam_machine.specs.Spine.{Part, Leaf, Joint, is_plain_goal, goal_body, body_on, part_on, folded}
use Rattle.wam_machine.specs.Goals.{IsPart, part_now}
use Rattle.wam_machine.specs.declared.bodies.Part.{Part as Met}
use Rattle.wam_machine.specs.declared.bodies.Part.TheVariants as met
use Rattle.wam_machine.specs.declared.terms.Terms.{Terms}
use Rattle.wam_machine.specs.Terms.{built, IsBuilt, IsGrown, AreTerms}
use Rattle.wam_machine.proofs.Built.{grown-itself, grown-further}
use Rattle.wam_machine.proofs.BodyStack.{last-first}

part-none : (p : Part) → part_on p None ≡ None
part-none (Leaf g) = go (goal_body g)
  where
    go : (o : Option Tree) → body_on o None ≡ None
    go None = refl
    go (Some b) = refl
part-none (Joint f) = refl

before-some : (p : Part) (o : Option (List Tree)) → IsSome (part_on p o) → IsSome o
before-some p None h = subst IsSome (part-none p) h
before-some p (Some st) h = refl

-- a stack that all parts make comes of stacks that the last of them make
pub rest-some : (f : Met → Part) (n : ℕ) (ps : List Met) → IsSome (folded (map f ps) []) → IsSome (folded (map f (drop n ps)) [])
rest-some f zero ps h = h
rest-some f (suc n) [] h = h
rest-some f (suc n) (p ∷ ps) h = rest-some f n ps (before-some (f p) (folded (map f ps) []) h)

module _ {C : Type 0} (a b : Terms C) (g : IsGrown a b) where
  text-kept : (n : ℕ) → n < length a.names → text b.names n ≡ text a.names n
  text-kept n low = ap (λ (ts : List (List ℕ)). text ts n) g.names.texts ∙ get_or_append_left a.names g.names.added [] n low

  pub part-kept : (p : Met) → IsPart a p → part_now b p ≡ part_now a p
  part-kept (met.Variable c) h = ap Leaf (g.cells c h.0).1
  part-kept (met.Integer c) h = ap Leaf (g.cells c h.0).1
  part-kept (met.Goal c) h = ap Leaf (g.cells c h.0).1
  part-kept (met.Joint f) h = ap Joint (text-kept f h.0)

  pub part-still : (p : Met) → IsPart a p → IsPart b p
  part-still (met.Variable c) h = let k = g.cells c h.0 in (k.0, (h.1.0, k.1 ∙ h.1.1))
  part-still (met.Integer c) h = let k = g.cells c h.0 in (k.0, (h.1.0, k.1 ∙ h.1.1))
  part-still (met.Goal c) h = let k = g.cells c h.0 in (k.0, ap is_plain_goal k.1 ∙ h.1)
  part-still (met.Joint f) h =
      let low = h.0 in
      let more = longer-length a.names b.names g.names in
      (omega (arith, low, more), ap is_connective (text-kept f h.0) ∙ h.1)

-- the parts from n on are put
pub record IsFolding {C : Type 0} (old t : Terms C) (ps : List Met) (n : ℕ) (stack : List Cell) : Type 0 where
  pub within : n ≤ length ps
  pub grown : IsGrown old t
  pub stack_is : All (IsBuilt t) stack
  pub put : folded (map (part_now old) (drop n ps)) [] ≡ Some (map (built t) (reverse stack))

module _ {C : Type 0} (old t : Terms C) (ps : List Met) where
  pub fold-start : (stack : List Cell) → AreTerms old → stack ≡ [] → IsFolding old old ps (length ps) stack
  fold-start stack h e =
      let none : IsFolding old old ps (length ps) [] = record {
        within = omega arith;
        grown = grown-itself old h;
        stack_is = All-nil (IsBuilt old);
        put = ap (λ (l : List Met). folded (map (part_now old) l) []) (drop_of_length-le ps (omega arith));
      } in
      subst (λ (l : List Cell). IsFolding old old ps (length ps) l) (sym e) none

  module _ (n : ℕ) (stack : List Cell) (d : Met) (some : 0 < n) (f : IsFolding old t ps n stack) (all : All (IsPart old) ps) where
    here : n - 1 < length ps
    here = let w = f.within in omega (arith, w, some)

    split : drop (n - 1) ps ≡ get_or ps (n - 1) d ∷ drop n ps
    split = let e : suc (n - 1) ≡ n = omega (arith, some) in drop-cons ps (n - 1) d here ∙ ap (λ (k : ℕ). get_or ps (n - 1) d ∷ drop k ps) e

    folds : folded (map (part_now old) (drop (n - 1) ps)) [] ≡ part_on (part_now t (get_or ps (n - 1) d)) (Some (map (built t) (reverse stack)))
    folds =
        ap (λ (l : List Met). folded (map (part_now old) l) []) split
        ∙ ap (part_on (part_now old (get_or ps (n - 1) d))) f.put
        ∙ sym (ap (λ (p : Part). part_on p (Some (map (built t) (reverse stack)))) (part-kept old t f.grown (get_or ps (n - 1) d) (all (n - 1) d here)))

    pub fold-part : IsPart t (get_or ps (n - 1) d)
    fold-part = part-still old t f.grown (get_or ps (n - 1) d) (all (n - 1) d here)

    pub fold-can : (whole : (body : Tree) × (folded (map (part_now old) ps) [] ≡ Some (body ∷ []))) → IsSome (part_on (part_now t (get_or ps (n - 1) d)) (Some (map (built t) (reverse stack))))
    fold-can whole = subst IsSome folds (rest-some (part_now old) (n - 1) ps (ap is_some whole.1))

    pub fold-step : (u : Terms C) (new : List Cell) → IsGrown t u → All (IsBuilt u) new
        → part_on (part_now t (get_or ps (n - 1) d)) (Some (map (built t) (reverse stack))) ≡ Some (map (built u) (reverse new)) → IsFolding old u ps (n - 1) new
    fold-step u new g all_new put = record {
      within = let w = f.within in omega (arith, w);
      grown = grown-further old t u f.grown g;
      stack_is = all_new;
      put = folds ∙ put;
    }

  one-left : (a b : Tree) (ts : List Tree) → Some (a ∷ ts) ≡ Some (b ∷ []) → ts ≡ []
  one-left a b ts e = cc

  -- all parts were put
  pub fold-done : (n : ℕ) (stack new : List Cell) (c : Cell) → n ≤ 0 → IsFolding old t ps n stack → stack ≡ new ++ c ∷ []
      → ((body : Tree) × (folded (map (part_now old) ps) [] ≡ Some (body ∷ []))) → folded (map (part_now old) ps) [] ≡ Some (built t c ∷ [])
  fold-done n stack new c none f e whole =
      let zero_is : n ≡ 0 = omega (arith, none) in
      let all : folded (map (part_now old) ps) [] ≡ Some (map (built t) (reverse stack)) = sym (ap (λ (k : ℕ). folded (map (part_now old) (drop k ps)) []) zero_is) ∙ f.put in
      let first : map (built t) (reverse stack) ≡ built t c ∷ map (built t) (reverse new) = last-first (built t) new stack c e in
      let both : folded (map (part_now old) ps) [] ≡ Some (built t c ∷ map (built t) (reverse new)) = all ∙ ap (λ (ts : List Tree). Some ts) first in
      both ∙ ap (λ (ts : List Tree). Some (built t c ∷ ts)) (one-left (built t c) whole.0 (map (built t) (reverse new)) (sym both ∙ whole.1))

  pub fold-cell : (n : ℕ) (stack new : List Cell) (c : Cell) → IsFolding old t ps n stack → stack ≡ new ++ c ∷ [] → IsBuilt t c
  fold-cell n stack new c f e = (All-pop (IsBuilt t) stack new (Some c) e f.stack_is).1
