-- The candidates of a call may be used as the call uses them.
use Rattle.std.proofs.Common.{◌≡◌, ℕ, zero, suc, ◌≤◌, List, [], ◌∷◌, ◌++◌, length, take, drop, reverse, All, Bool, true, false, Option, Some, None, sym, ap, ◌∙◌, subst}
use Rattle.std.specs.Prelude.{◌==◌, ◌&&◌, not, slice_get, option_and_then}
use Rattle.std.specs.Option.{option_map_or}
use Rattle.std.proofs.lemmas.Bool.{eqb-true, false≢true}
use Rattle.std.proofs.lemmas.Grind.{flat_map-append}
use Rattle.std.proofs.lemmas.List.{reverse-append, take-take, take-append-drop}
use Rattle.std.proofs.lemmas.List.Elements.{All-nil, All-cons, All-tail, All-head, All-append, All-weaker, All-filter, filter_passes}
use Rattle.prolog_terms.specs.declared.entry.Entry.{Entry}
use Rattle.prolog_terms.specs.declared.entry.Indicator.{Indicator}
use Rattle.prolog_terms.specs.declared.entry.Kind.{Kind}
use Rattle.prolog_terms.specs.declared.entry.Kind.TheVariants.{Dynamic}
use Rattle.prolog_terms.specs.declared.entry.End.{End}
use Rattle.prolog_terms.specs.declared.entry.End.TheVariants.{Front, Back}
use Rattle.prolog_terms.specs.declared.entry.What.{What}
use Rattle.prolog_terms.specs.declared.entry.What.TheVariants.{Declare, Add, Erase}
use Rattle.call_patterns.specs.Keys.{GoalKeys}
use Rattle.call_patterns.specs.Candidates.{candidates, head_agrees}
use Rattle.journals.specs.Numbers.{numbers_from}
use Rattle.journals.specs.Journal.{Journal, declaration, procedures, procedure_of, clause_named, adds_to, adds_at, same_end, additions, chain, alive, is_erased}
use Rattle.journal_base.specs.Legal.{MayChange}
use Rattle.wam_machine.specs.States.{Use, Enter, Match, Purpose, ToShow, ToErase}
use Rattle.wam_machine.specs.Cursors.{IsDynamic, IsFor, IsOpenTo, IsChangeable, MayServe, MayBeUsed, IsUsable}
use Rattle.wam_machine.proofs.Named.{candidates_named}

-- ---- lists

pub all-reverse : {A : Type 0} (P : A → Type 0) (xs : List A) → All P xs → All P (reverse xs)
all-reverse P [] h = All-nil P
all-reverse P (x ∷ xs) h =
    subst (All P) (sym (reverse-append (x ∷ []) xs))
    (All-append P (reverse xs) (x ∷ []) (all-reverse P xs (All-tail P x xs h)) (All-cons P x [] (All-head P x xs h) (All-nil P)))

got-longer : {A : Type 0} (xs ys : List A) (k : ℕ) (x : A) → slice_get xs k ≡ Some x → slice_get (xs ++ ys) k ≡ Some x
got-longer [] ys k x h = absurd (cc h)
got-longer (z ∷ zs) ys zero x h = h
got-longer (z ∷ zs) ys (suc k) x h = got-longer zs ys k x h

-- ---- what adds to a procedure

and-second : (a b : Bool) → (a && b) ≡ true → b ≡ true
and-second true b e = e
and-second false b e = absurd (false≢true e)

adds_to-procedure : (e : End) (p : ℕ) (w : What) → adds_to e p w ≡ true → procedure_of w ≡ Some p
adds_to-procedure e p (Declare i k) h = absurd (false≢true h)
adds_to-procedure e p (Add f q c) h = ap Some (sym (eqb-true p q (and-second (same_end e f) (p == q) h)))
adds_to-procedure e p (Erase k) h = absurd (false≢true h)

-- the entry of this name adds to the procedure
abbrev pub AddsTo : Journal → ℕ → ℕ → Type 0
AddsTo J p k = (e : Entry) → slice_get J k ≡ Some e → procedure_of e.what ≡ Some p

adds_at-procedure : (J : Journal) (e : End) (p k : ℕ) → adds_at J e p k ≡ true → AddsTo J p k
adds_at-procedure J e p k h x is =
    adds_to-procedure e p x.what (ap (λ (o : Option Entry). option_map_or (λ y. adds_to e p y.what) o false) (sym is) ∙ h)

additions_add : (J : Journal) (e : End) (p : ℕ) → All (AddsTo J p) (additions J e p)
additions_add J e p =
    All-weaker (λ k. adds_at J e p k ≡ true) (AddsTo J p) (λ k h. adds_at-procedure J e p k h) (additions J e p)
    (filter_passes (adds_at J e p) (numbers_from 0 (length J)))

pub candidates_add : (J : Journal) (p : ℕ) (goal : GoalKeys) → All (AddsTo J p) (candidates J p goal)
candidates_add J p goal =
    All-filter (λ k. head_agrees goal (clause_named J k)) (AddsTo J p) (alive J p)
    (All-filter (λ k. not (is_erased J k)) (AddsTo J p) (chain J p)
    (All-append (AddsTo J p) (reverse (additions J Front p)) (additions J Back p) (all-reverse (AddsTo J p) (additions J Front p) (additions_add J Front p)) (additions_add J Back p)))

-- ---- what may be changed

may-kind : (k : Kind) (engine : ℕ) → k ≡ Dynamic → MayChange k engine
may-kind k engine e = subst (λ x. MayChange x engine) (sym e) tt

-- what adds to a dynamic procedure may be changed by any engine
pub changeable : (J : Journal) (p k : ℕ) → IsDynamic J p → AddsTo J p k → IsChangeable J k
unfolding IsChangeable
changeable J p k dynamic adds engine e d at of =
    may-kind d.1 engine (ap (λ (o : Option (Indicator × Kind)). kind_of o) (sym of ∙ ap (option_and_then (slice_get (procedures J))) (adds e at) ∙ dynamic.1))
  where
    kind_of : Option (Indicator × Kind) → Kind
    kind_of None = Dynamic
    kind_of (Some x) = x.1

may_serve : (purpose : Purpose) (J : Journal) (p k : ℕ) → IsFor purpose J p → AddsTo J p k → MayServe purpose J k
may_serve ToShow J p k open_ adds = tt
may_serve ToErase J p k open_ adds = changeable J p k open_ adds

may_be_used : (used : Use) (J : Journal) (p k : ℕ) → IsOpenTo used J p → AddsTo J p k → MayBeUsed used J k
may_be_used Enter J p k open_ adds = tt
may_be_used (Match purpose body) J p k open_ adds = may_serve purpose J p k open_ adds

-- ---- as the journal grows

dynamic_later : (J : Journal) (a b p : ℕ) → a ≤ b → IsDynamic (take a J) p → IsDynamic (take b J) p
dynamic_later J a b p le h =
    let more : procedures (take b J) ≡ procedures (take a J) ++ procedures (drop a (take b J)) =
    ap procedures (sym (take-append-drop a (take b J)))
    ∙ flat_map-append (λ e. declaration e.what) (take a (take b J)) (drop a (take b J))
    ∙ ap (λ l. procedures l ++ procedures (drop a (take b J))) (take-take a b J le) in
    (h.0, ap (λ ds. slice_get ds p) more ∙ got-longer (procedures (take a J)) (procedures (drop a (take b J))) p (h.0, Dynamic) h.1)

for_later : (purpose : Purpose) (J : Journal) (a b p : ℕ) → a ≤ b → IsFor purpose (take a J) p → IsFor purpose (take b J) p
for_later ToShow J a b p le h = tt
for_later ToErase J a b p le h = dynamic_later J a b p le h

-- what may be used in a part may be used in a longer one
pub open_later : (used : Use) (J : Journal) (a b p : ℕ) → a ≤ b → IsOpenTo used (take a J) p → IsOpenTo used (take b J) p
open_later Enter J a b p le h = tt
open_later (Match purpose body) J a b p le h = for_later purpose J a b p le h

-- each candidate is a clause, and may be so used
pub candidates_usable : (used : Use) (J : Journal) (p : ℕ) (goal : GoalKeys) → IsOpenTo used J p → All (IsUsable used J) (candidates J p goal)
candidates_usable used J p goal open_ k d low = record {
  named = candidates_named J p goal k d low;
  may = may_be_used used J p _ open_ (candidates_add J p goal k d low);
}
