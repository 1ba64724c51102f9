-- A clause that may be used when a call looks may be used later.
use Rattle.std.proofs.Common.{◌≡◌, ℕ, zero, suc, ◌≤◌, ◌<◌, List, [], ◌∷◌, ◌++◌, length, take, drop, min, Option, Some, None, refl, sym, ap, ◌∙◌, subst, arith}
use Rattle.std.specs.Prelude.{IsSome, is_some, slice_get, option_and_then}
use Rattle.std.proofs.lemmas.List.{length-take, take-take, take-append-drop}
use Rattle.std.proofs.lemmas.Option.{slice_get_within}
use Rattle.std.proofs.lemmas.Bool.{false≢true}
use Rattle.std.proofs.lemmas.Grind.{flat_map-append}
use Rattle.prolog_terms.specs.Tree.{Tree}
use Rattle.prolog_terms.specs.declared.entry.Entry.{Entry}
use Rattle.prolog_terms.specs.declared.entry.Indicator.{Indicator}
use Rattle.prolog_terms.specs.declared.entry.Kind.{Kind}
use Rattle.prolog_terms.specs.declared.entry.What.{What}
use Rattle.prolog_terms.specs.declared.entry.What.TheVariants.{Declare, Add, Erase}
use Rattle.journals.specs.Journal.{Journal, procedures, procedure_of, clause_named, declaration, added}
use Rattle.journal_base.specs.Legal.{MayChange, MayChangeClause, MayFollow}
use Rattle.journal_base.specs.View.{View, IsSound}
use Rattle.term_store.specs.declared.cell.Cell.{Cell}
use Rattle.wam_machine.specs.States.{Use, Enter, Match, Purpose, ToShow, ToErase}
use Rattle.wam_machine.specs.Cursors.{Begins, IsChangeable, MayServe, MayBeUsed, IsUsable}
use Rattle.wam_machine.specs.Terms.{use_of}
use Rattle.wam_machine.specs.declared.terms.Use.{Use as Used}
use Rattle.wam_machine.specs.declared.terms.Use.TheVariants as use_is
use Rattle.wam_machine.proofs.Named.{clause_stays}

-- ---- what a journal begins with

get_more : {A : Type 0} (xs ys : List A) (k : ℕ) (x : A) → slice_get xs k ≡ Some x → slice_get (xs ++ ys) k ≡ Some x
get_more [] ys k x h = absurd cc
get_more (y ∷ xs) ys zero x h = h
get_more (y ∷ xs) ys (suc k) x h = get_more xs ys k x h

get_later : {A : Type 0} (xs : List A) (a s k : ℕ) (x : A) → a ≤ s → slice_get (take a xs) k ≡ Some x → slice_get (take s xs) k ≡ Some x
get_later {A} xs a s k x le h =
    let e : take a (take s xs) ≡ take a xs = take-take a s xs le in
    subst (λ (l : List A). slice_get l k ≡ Some x) (take-append-drop a (take s xs))
    (get_more (take a (take s xs)) (drop a (take s xs)) k x (subst (λ (l : List A). slice_get l k ≡ Some x) (sym e) h))

get_whole : {A : Type 0} (xs : List A) (a k : ℕ) (x : A) → slice_get (take a xs) k ≡ Some x → slice_get xs k ≡ Some x
get_whole {A} xs a k x h = subst (λ (l : List A). slice_get l k ≡ Some x) (take-append-drop a xs) (get_more (take a xs) (drop a xs) k x h)

get_low : {A : Type 0} (xs : List A) (a k : ℕ) (x : A) → slice_get (take a xs) k ≡ Some x → k < a
get_low xs a k x h =
    let within : k < length (take a xs) = slice_get_within (take a xs) k x h in
    let long : length (take a xs) ≡ min a (length xs) = length-take a xs in
    omega (arith, within, long)

-- a procedure stays what it is
procedure_later : (J : Journal) (a s p : ℕ) (d : Indicator × Kind) → a ≤ s → slice_get (procedures (take a J)) p ≡ Some d → slice_get (procedures (take s J)) p ≡ Some d
procedure_later J a s p d le h =
    let e : take a (take s J) ≡ take a J = take-take a s J le in
    let parts : procedures (take a (take s J) ++ drop a (take s J)) ≡ procedures (take a (take s J)) ++ procedures (drop a (take s J)) =
    flat_map-append (λ (x : Entry). declaration x.what) (take a (take s J)) (drop a (take s J)) in
    subst (λ (l : Journal). slice_get (procedures l) p ≡ Some d) (take-append-drop a (take s J))
    (subst (λ (l : List (Indicator × Kind)). slice_get l p ≡ Some d) (sym parts)
    (get_more (procedures (take a (take s J))) (procedures (drop a (take s J))) p d (subst (λ (l : Journal). slice_get (procedures l) p ≡ Some d) (sym e) h)))

-- ---- clauses that may be changed

module _ (J : Journal) (follows : (n : ℕ) (e : Entry) → slice_get J n ≡ Some e → MayFollow (take n J) e.by e.what) (a s k : ℕ) (le : a ≤ s) where
  change_later : (engine : ℕ) (e : Entry) → slice_get (take a J) k ≡ Some e → MayChangeClause (take a J) engine k → MayChangeClause (take s J) engine k
  change_later engine e here may f d at of =
      let later : slice_get (take s J) k ≡ Some e = get_later J a s k e le here in
      let one : Some f ≡ Some e = sym at ∙ later in
      let same : f ≡ e = cc in
      go e.by e.what (follows k e (get_whole J a k e here)) (ap (λ (x : Entry). option_and_then (slice_get (procedures (take s J))) (procedure_of x.what)) (sym same) ∙ of) (λ q found. may e q here found)
    where
      low : k < a
      low = get_low J a k e here

      go : (by : ℕ) (w : What) → MayFollow (take k J) by w → option_and_then (slice_get (procedures (take s J))) (procedure_of w) ≡ Some d
          → ((q : Indicator × Kind) → option_and_then (slice_get (procedures (take a J))) (procedure_of w) ≡ Some q → MayChange q.1 engine) → MayChange d.1 engine
      go by (Declare i c) may is then_ = absurd cc
      go by (Erase n) may is then_ = absurd cc
      go by (Add end p c) may is then_ =
          let q : Indicator × Kind = may.procedure in
          let first : slice_get (procedures (take a J)) p ≡ Some q = procedure_later J k a p q (omega (arith, low)) may.declared in
          let last : slice_get (procedures (take s J)) p ≡ Some q = procedure_later J k s p q (omega (arith, low, le)) may.declared in
          let one : Some q ≡ Some d = sym last ∙ is in
          let same : q ≡ d = cc in
          then_ d (first ∙ ap Some same)

  changeable_later : IsSome (clause_named (take a J) k) → IsChangeable (take a J) k → IsChangeable (take s J) k
  unfolding IsChangeable
  changeable_later named may = go (slice_get (take a J) k) refl
    where
      go : (o : Option Entry) → slice_get (take a J) k ≡ o → (engine : ℕ) → MayChangeClause (take s J) engine k
      go None e engine = absurd (false≢true (sym (ap (λ (o : Option Entry). is_some (option_and_then (λ x. added x.what) o)) e) ∙ named))
      go (Some e) here engine = change_later engine e here (may engine)

  serves_later : (purpose : Purpose) → IsSome (clause_named (take a J) k) → MayServe purpose (take a J) k → MayServe purpose (take s J) k
  serves_later ToShow named may = tt
  serves_later ToErase named may = changeable_later named may

  used_later : (used : Use) → IsSome (clause_named (take a J) k) → MayBeUsed used (take a J) k → MayBeUsed used (take s J) k
  used_later Enter named may = tt
  used_later (Match purpose body) named may = serves_later purpose named may

  usable_later : (used : Use) → IsUsable used (take a J) k → IsUsable used (take s J) k
  usable_later used u = record { named = ap is_some (clause_stays J a s k le u.named) ∙ u.named; may = used_later used u.named u.may }

-- what may be used in a part of what is seen may be used in all that is seen
pub usable_seen : (v : View) (j : Journal) (a k : ℕ) (used : Use) → IsSound v → Begins v j → a ≤ v.seen → IsUsable used (take a j) k → IsUsable used (take v.seen j) k
usable_seen v j a k used sound b le u =
    let part : take a j ≡ take a b.journal = sym (take-take a v.seen j le) ∙ ap (take a) b.same ∙ take-take a v.seen b.journal le in
    subst (λ (J : Journal). IsUsable used J k) (sym b.same)
    (usable_later b.journal (sound.each b.journal b.stands).legal.follows a v.seen k le used (subst (λ (J : Journal). IsUsable used J k) part u))

-- ---- by a use alone

-- whatever terms its cell has
pub usable_alike : (tree other : Cell → Tree) (u : Used) (J : Journal) (k : ℕ) → IsUsable (use_of tree u) J k → IsUsable (use_of other u) J k
usable_alike tree other use_is.Enter J k h = h
usable_alike tree other (use_is.Match p body) J k h = record { named = h.named; may = h.may }
