-- Whether a term is a body, by a walk over its spine.
use Rattle.std.proofs.Common.{◌≡◌, ℕ, List, [], ◌∷◌, ◌++◌, refl, sym, ap, ap₂, ◌∙◌, subst, Bool, true, false, append-nil}
use Rattle.std.specs.Prelude.{All, Option, Some, None, IfSome, IsSome, IsTrue, is_some, ◌&&◌, if◌then◌else◌}
use Rattle.std.specs.List.{list_all}
use Rattle.std.specs.Option.{option_to_list}
use Rattle.std.proofs.lemmas.List.Folds.{list_all-append}
use Rattle.std.proofs.lemmas.List.Elements.{All-pop, All-nil}
use Rattle.prolog_terms.specs.Tree.{Tree, variable, integer, atom, compound, none, more}
use Rattle.prolog_terms.specs.Clauses.{is_connective, is_body, body_of, joined_bodies}
use Rattle.prolog_terms.specs.Faults.{two}
use Rattle.term_store.specs.declared.cell.Cell.{Cell}
use Rattle.wam_machine.specs.Spine.{Part, Leaf, Joint, spine, is_plain, is_plain_goal, goal_body}
use Rattle.wam_machine.specs.Goals.{IsPart, part_now}
use Rattle.wam_machine.specs.Terms.{built, IsBuilt}
use Rattle.wam_machine.specs.declared.bodies.Part.{Part as Met}
use Rattle.wam_machine.specs.declared.bodies.Part.TheVariants as met
use Rattle.wam_machine.specs.declared.terms.Terms.{Terms}
use Rattle.wam_machine.proofs.Walked.{all_plain}
use Rattle.wam_machine.proofs.SpineWalks.{ahead}

-- no integer stands as a goal
abbrev pub is_bodily : Part → Bool
is_bodily (Leaf t) = is_some (goal_body t)
is_bodily (Joint f) = true

joined-some : (f : List ℕ) (a b : Option Tree) → is_some (joined_bodies f a b) ≡ (is_some a && is_some b)
joined-some f None b = refl
joined-some f (Some a) None = refl
joined-some f (Some a) (Some b) = refl

pub any_body : (t : Tree) → is_some (body_of t) ≡ list_all is_bodily (spine t)
any_body (variable n) = refl
any_body (integer z) = refl
any_body (atom a) = refl
any_body (compound f none) = refl
any_body (compound f (more a none)) = refl
any_body (compound f (more a (more b none))) = go (is_connective f) (any_body a) (any_body b)
  where
    go : (c : Bool) → is_some (body_of a) ≡ list_all is_bodily (spine a) → is_some (body_of b) ≡ list_all is_bodily (spine b)
        → is_some (if c then joined_bodies f (body_of a) (body_of b) else Some (two f a b)) ≡ list_all is_bodily (if c then Joint f ∷ (spine a ++ spine b) else Leaf (two f a b) ∷ [])
    go false h k = refl
    go true h k = joined-some f (body_of a) (body_of b) ∙ ap₂ (λ (p q : Bool). p && q) h k ∙ sym (list_all-append is_bodily (spine a) (spine b))
any_body (compound f (more a (more b (more c ts)))) = refl

-- what was met, as far as it matters
pub record IsSorting {C : Type 0} (t : Terms C) (goal : Tree) (unbound : Bool) (next : Option Cell) (todo : List Cell) : Type 0 where
  pub bodies : list_all is_bodily (spine goal) ≡ list_all is_bodily (ahead (built t) next todo)
  pub plain : list_all is_plain (spine goal) ≡ (if unbound then false else list_all is_plain (ahead (built t) next todo))
  pub next_is : IfSome next (IsBuilt t)
  pub todo_is : All (IsBuilt t) todo

abbrev pub opened : Bool → Met → Bool
opened b (met.Variable c) = true
opened b (met.Integer c) = b
opened b (met.Goal c) = b
opened b (met.Joint f) = b

abbrev pub IsNoInteger : Met → Type 0
IsNoInteger (met.Variable c) = Unit {0}
IsNoInteger (met.Integer c) = ⊥
IsNoInteger (met.Goal c) = Unit {0}
IsNoInteger (met.Joint f) = Unit {0}

-- a part that is no integer was met, and noted
pub record IsMet (old new : Bool) (p : Met) : Type 0 where
  pub is : new ≡ opened old p
  pub fine : IsNoInteger p

pub met-variable : (old new : Bool) (p : Met) (c : Cell) → p ≡ met.Variable c → new ≡ true → IsMet old new p
met-variable old new p c e h = subst (IsMet old new) (sym e) (record { is = h; fine = tt })

pub met-goal : (old new : Bool) (p : Met) (c : Cell) → p ≡ met.Goal c → new ≡ old → IsMet old new p
met-goal old new p c e h = subst (IsMet old new) (sym e) (record { is = h; fine = tt })

pub met-joint : (old new : Bool) (p : Met) (f : ℕ) → p ≡ met.Joint f → new ≡ old → IsMet old new p
met-joint old new p f e h = subst (IsMet old new) (sym e) (record { is = h; fine = tt })

plain-has : (g : Tree) → is_plain_goal g ≡ true → is_some (goal_body g) ≡ true
plain-has (variable n) e = absurd cc
plain-has (integer z) e = absurd cc
plain-has (atom a) e = refl
plain-has (compound f ts) e = refl

not-plain : (b p r : Bool) → p ≡ false → (if b then false else (p && r)) ≡ false
not-plain true p r e = refl
not-plain false p r e = rw e refl

is-plain : (b p r : Bool) → p ≡ true → (if b then false else (p && r)) ≡ (if b then false else r)
is-plain b p r e = rw e refl

no-some : (o : Option Tree) → is_some o ≡ false → o ≡ None
no-some None e = refl
no-some (Some x) e = absurd cc

module _ {C : Type 0} (t : Terms C) where
  bodily : (p : Met) → IsPart t p → IsNoInteger p → is_bodily (part_now t p) ≡ true
  bodily (met.Variable c) h fine = ap (λ (g : Tree). is_some (goal_body g)) h.1.1
  bodily (met.Integer c) h fine = absurd fine
  bodily (met.Goal c) h fine = plain-has (built t c) h.1
  bodily (met.Joint f) h fine = refl

  plainly : (b r : Bool) (p : Met) → IsPart t p → IsNoInteger p → (if b then false else (is_plain (part_now t p) && r)) ≡ (if opened b p then false else r)
  plainly b r (met.Variable c) h fine = not-plain b (is_plain_goal (built t c)) r (ap is_plain_goal h.1.1)
  plainly b r (met.Integer c) h fine = absurd fine
  plainly b r (met.Goal c) h fine = is-plain b (is_plain_goal (built t c)) r h.1
  plainly b r (met.Joint f) h fine = refl

  pub sort-start : (c : Cell) (todo : List Cell) → todo ≡ [] → IsBuilt t c → IsSorting t (built t c) false (Some c) todo
  sort-start c todo e h =
      let whole = sym (append-nil (spine (built t c))) in
      let empty : IsSorting t (built t c) false (Some c) [] = record {
        bodies = ap (list_all is_bodily) whole;
        plain = ap (list_all is_plain) whole;
        next_is = h;
        todo_is = All-nil (IsBuilt t);
      } in
      subst (λ (l : List Cell). IsSorting t (built t c) false (Some c) l) (sym e) empty

  pub sort-step : (goal : Tree) (old new : Bool) (next : Option Cell) (todo mid left : List Cell) (further : Option Cell) (p : Met) → IsSorting t goal old next todo
      → ahead (built t) next todo ≡ part_now t p ∷ ahead (built t) further left → IsPart t p → IsMet old new p
      → All (IsBuilt t) mid → mid ≡ left ++ option_to_list further → IsSorting t goal new further left
  sort-step goal old new next todo mid left further p w step is m valid taken =
      let rest = All-pop (IsBuilt t) mid left further taken valid in
      record {
        bodies =
            w.bodies ∙ ap (list_all is_bodily) step
            ∙ ap (λ (b : Bool). b && list_all is_bodily (ahead (built t) further left)) (bodily p is m.fine);
        plain =
            w.plain ∙ ap (λ (l : List Part). if old then false else list_all is_plain l) step
            ∙ plainly old (list_all is_plain (ahead (built t) further left)) p is m.fine
            ∙ sym (ap (λ (b : Bool). if b then false else list_all is_plain (ahead (built t) further left)) m.is);
        next_is = rest.1;
        todo_is = rest.0;
      }

  -- an integer
  pub sort-broken : (goal : Tree) (old : Bool) (next : Option Cell) (todo : List Cell) (rest : List Part) (p : Met) (c : Cell) → IsSorting t goal old next todo
      → ahead (built t) next todo ≡ part_now t p ∷ rest → IsPart t p → p ≡ met.Integer c → body_of goal ≡ None
  sort-broken goal old next todo rest p c w step is e =
      let here : IsPart t (met.Integer c) = subst (IsPart t) e is in
      no-some (body_of goal)
      (any_body goal ∙ w.bodies ∙ ap (list_all is_bodily) step
      ∙ ap (λ (q : Met). is_bodily (part_now t q) && list_all is_bodily rest) e
      ∙ ap (λ (g : Tree). is_some (goal_body g) && list_all is_bodily rest) here.1.1)

  pub sort-open : (goal : Tree) (old : Bool) (next : Option Cell) (todo : List Cell) → IsSorting t goal old next todo → next ≡ None → IsSome (body_of goal)
  sort-open goal old next todo w e = any_body goal ∙ w.bodies ∙ ap (λ (o : Option Cell). list_all is_bodily (ahead (built t) o todo)) e

  pub sort-body : (goal : Tree) (old : Bool) (next : Option Cell) (todo : List Cell) → IsSorting t goal old next todo → next ≡ None → old ≡ false → IsTrue (is_body goal)
  sort-body goal old next todo w e f =
      all_plain goal ∙ w.plain ∙ ap (λ (b : Bool). if b then false else list_all is_plain (ahead (built t) next todo)) f
      ∙ ap (λ (o : Option Cell). list_all is_plain (ahead (built t) o todo)) e
