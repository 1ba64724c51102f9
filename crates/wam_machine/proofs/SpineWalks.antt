-- A walk over the spine of a term: what is met, and what is still to be walked over.
use Rattle.std.proofs.Common.{◌≡◌, ◌<◌, List, [], ◌∷◌, ◌++◌, length, map, refl, sym, ap, ◌∙◌, arith, subst, true, false, append_assoc, append-nil}
use Rattle.std.specs.Prelude.{reverse, All, Option, Some, None, IfSome, IsSome}
use Rattle.std.specs.Option.{option_to_list}
use Rattle.std.proofs.lemmas.List.{reverse-append, map-append}
use Rattle.std.proofs.lemmas.List.Elements.{All-append, All-cons, All-nil, All-pop}
use Rattle.prolog_terms.specs.Tree.{Tree}
use Rattle.term_store.specs.declared.cell.Cell.{Cell}
use Rattle.wam_machine.specs.Spine.{Part, spine, spines}
use Rattle.wam_machine.specs.Goals.{IsPart, part_now}
use Rattle.wam_machine.specs.Terms.{built, IsBuilt}
use Rattle.wam_machine.specs.declared.bodies.Part.{Part as Met}
use Rattle.wam_machine.specs.declared.terms.Terms.{Terms}

-- what is still to be walked over
abbrev pub ahead : (Cell → Tree) → Option Cell → List Cell → List Part
ahead tree None todo = []
ahead tree (Some c) todo = spine (tree c) ++ spines (map tree (reverse todo))

pub not-some : (o : Option Cell) → ((c : Cell) → o ≡ Some c → ⊥) → o ≡ None
not-some None h = refl
not-some (Some c) h = absurd (h c refl)

pub is-some : (P : Cell → Type 0) (o : Option Cell) (c : Cell) → o ≡ Some c → IfSome o P → P c
is-some P o c e h = subst (λ (x : Option Cell). IfSome x P) e h

-- the last of what is still to be walked over is taken
pub ahead-taken : (tree : Cell → Tree) (old new : List Cell) (next : Option Cell) → old ≡ new ++ option_to_list next → (0 < length old → IsSome next)
    → spines (map tree (reverse old)) ≡ ahead tree next new
ahead-taken tree [] new None e h = refl
ahead-taken tree (c ∷ old) new None e h = let f : false ≡ true = h (omega arith) in absurd cc
ahead-taken tree old new (Some c) e h =
    ap (λ (l : List Cell). spines (map tree (reverse l))) e ∙ ap (λ (l : List Cell). spines (map tree l)) (reverse-append new (c ∷ []))

pub ahead-step : (tree : Cell → Tree) (next : Option Cell) (c : Cell) (todo mid new : List Cell) (further : Option Cell) (p : Part) → next ≡ Some c
    → spine (tree c) ++ spines (map tree (reverse todo)) ≡ p ∷ spines (map tree (reverse mid))
    → mid ≡ new ++ option_to_list further → (0 < length mid → IsSome further) → ahead tree next todo ≡ p ∷ ahead tree further new
ahead-step tree next c todo mid new further p e parts taken some =
    ap (λ (o : Option Cell). ahead tree o todo) e ∙ parts ∙ ap (λ (l : List Part). p ∷ l) (ahead-taken tree mid new further taken some)

pub ahead-less : (old new : List Part) (p : Part) → old ≡ p ∷ new → length new < length old
ahead-less old new p e = let k = ap length e in omega (arith, k)

pub record IsWalking {C : Type 0} (t : Terms C) (goal : Tree) (met : List Met) (next : Option Cell) (todo : List Cell) : Type 0 where
  pub parts : map (part_now t) met ++ ahead (built t) next todo ≡ spine goal
  pub are : All (IsPart t) met
  pub next_is : IfSome next (IsBuilt t)
  pub todo_is : All (IsBuilt t) todo

module _ {C : Type 0} (t : Terms C) where
  pub walk-start : (c : Cell) (met : List Met) (todo : List Cell) → met ≡ [] → todo ≡ [] → IsBuilt t c → IsWalking t (built t c) met (Some c) todo
  walk-start c met todo d e h =
      let empty : IsWalking t (built t c) [] (Some c) [] = record {
        parts = append-nil (spine (built t c));
        are = All-nil (IsPart t);
        next_is = h;
        todo_is = All-nil (IsBuilt t);
      } in
      subst (λ (l : List Met). IsWalking t (built t c) l (Some c) todo) (sym d) (subst (λ (l : List Cell). IsWalking t (built t c) [] (Some c) l) (sym e) empty)

  pub walk-step : (goal : Tree) (met more : List Met) (next : Option Cell) (todo mid new : List Cell) (further : Option Cell) (p : Met) → IsWalking t goal met next todo
      → ahead (built t) next todo ≡ part_now t p ∷ ahead (built t) further new → IsPart t p → more ≡ met ++ p ∷ []
      → All (IsBuilt t) mid → mid ≡ new ++ option_to_list further → IsWalking t goal more further new
  walk-step goal met more next todo mid new further p w step is added valid taken =
      let rest = All-pop (IsBuilt t) mid new further taken valid in
      record {
        parts =
            ap (λ (l : List Met). map (part_now t) l ++ ahead (built t) further new) added
            ∙ ap (λ (l : List Part). l ++ ahead (built t) further new) (map-append (part_now t) met (p ∷ []))
            ∙ append_assoc (map (part_now t) met) (part_now t p ∷ []) (ahead (built t) further new)
            ∙ sym (ap (λ (l : List Part). map (part_now t) met ++ l) step)
            ∙ w.parts;
        are = subst (All (IsPart t)) (sym added) (All-append (IsPart t) met (p ∷ []) w.are (All-cons (IsPart t) p [] is (All-nil (IsPart t))));
        next_is = rest.1;
        todo_is = rest.0;
      }

  pub walk-done : (goal : Tree) (met : List Met) (next : Option Cell) (todo : List Cell) → IsWalking t goal met next todo → next ≡ None → map (part_now t) met ≡ spine goal
  walk-done goal met next todo w e =
      sym (append-nil (map (part_now t) met)) ∙ sym (ap (λ (o : Option Cell). map (part_now t) met ++ ahead (built t) o todo) e) ∙ w.parts
