-- Clauses that are matched with a head and a body: what follows by what was found.
use Rattle.std.proofs.Common.{◌≡◌, ℕ, zero, suc, ◌<◌, ◌≤◌, List, [], ◌∷◌, ◌++◌, length, take, drop, refl, sym, ap, ◌∙◌, subst, Bool, true, false, Option, Some, None}
use Rattle.std.specs.Prelude.{if◌then◌else◌, option_and_then, option_map, slice_get, Result, Ok, Err, OnOk}
use Rattle.std.proofs.lemmas.List.{take-take, take-append-drop}
use Rattle.std.proofs.lemmas.Grind.{flat_map-append}
use Rattle.prolog_terms.specs.Tree.{Tree}
use Rattle.prolog_terms.specs.Faults.{fault_tree}
use Rattle.prolog_clauses.specs.Formed.{Parts}
use Rattle.prolog_terms.specs.declared.entry.Entry.{Entry}
use Rattle.prolog_terms.specs.declared.entry.Indicator.{Indicator}
use Rattle.prolog_terms.specs.declared.entry.Kind.{Kind}
use Rattle.prolog_terms.specs.declared.entry.Kind.TheVariants.{Static, Dynamic}
use Rattle.journals.specs.Journal.{Journal, declaration, procedures, number_of, procedure_named}
use Rattle.journal_base.proofs.Procedures.{named_there}
use Rattle.wam_machine.specs.Reserved.{is_reserved}
use Rattle.wam_machine.specs.Cursors.{IsDynamic, IsFor}
use Rattle.wam_machine.specs.States as spec
use Rattle.wam_machine.specs.States.{State, Setting, Outcome, Goes, Purpose, ToShow, ToErase, Match, taking, raises}
use Rattle.wam_machine.specs.Procedures.{refusal_for, call_for, headed, retract_at, matching, matching_where, matching_kind, retracting}
use Rattle.wam_machine.specs.View.{IsSearch}
use Rattle.wam_machine.proofs.Named.{procedure_stays, procedure_within}
use Rattle.wam_machine.proofs.Ready.{found_number}

-- what follows from what is so where it went well
pub on_ok_from : {T E P Q : Type 0} (r : Result T E) → OnOk r P → (P → Q) → OnOk r Q
on_ok_from (Ok x) p f = f p
on_ok_from (Err e) p f = tt

-- ---- procedures that were found

get_left : {X : Type 0} (xs ys : List X) (k : ℕ) (x : X) → slice_get xs k ≡ Some x → slice_get (xs ++ ys) k ≡ Some x
get_left [] ys k x h = absurd cc
get_left (a ∷ xs) ys zero x h = h
get_left (a ∷ xs) ys (suc k) x h = get_left xs ys k x h

-- an entry that is seen early
pub front_get : (J : Journal) (a k : ℕ) (e : Entry) → slice_get (take a J) k ≡ Some e → slice_get J k ≡ Some e
front_get J a k e h =
    ap (λ (l : Journal). slice_get l k) (sym (take-append-drop a J)) ∙ get_left (take a J) (drop a J) k e h

pub procedures_front : (J : Journal) (a p : ℕ) (d : Indicator × Kind) → slice_get (procedures (take a J)) p ≡ Some d → slice_get (procedures J) p ≡ Some d
procedures_front J a p d h =
    let e : procedures J ≡ procedures (take a J) ++ procedures (drop a J) =
    ap procedures (sym (take-append-drop a J)) ∙ flat_map-append (λ x. declaration x.what) (take a J) (drop a J) in
    ap (λ (ds : List (Indicator × Kind)). slice_get ds p) e ∙ get_left (procedures (take a J)) (procedures (drop a J)) p d h

stands_at : List (Indicator × Kind) → Option ℕ → Option (ℕ × Kind)
stands_at ds o = option_and_then (λ p. option_map (λ (d : Indicator × Kind). (p, d.1)) (slice_get ds p)) o

-- a procedure keeps its number and its kind
pub named_stays : (J : Journal) (a b : ℕ) (i : Indicator) (p : ℕ) (k : Kind) → a ≤ b → procedure_named (take a J) i ≡ Some (p, k) → procedure_named (take b J) i ≡ Some (p, k)
unfolding stands_at
named_stays J a b i p k le h =
    let number : number_of (take b J) i ≡ Some p = procedure_stays J a b i p le (found_number (take a J) i p k h) in
    let there : slice_get (procedures (take a (take b J))) p ≡ Some (i, k) =
    ap (λ (l : Journal). slice_get (procedures l) p) (take-take a b J le) ∙ named_there (take a J) i p k h in
    let now : slice_get (procedures (take b J)) p ≡ Some (i, k) = procedures_front (take b J) a p (i, k) there in
    ap (stands_at (procedures (take b J))) number ∙ ap (option_map (λ (d : Indicator × Kind). (p, d.1))) now

pub dynamic_found : (J : Journal) (i : Indicator) (p : ℕ) (k : Kind) → k ≡ Dynamic → procedure_named J i ≡ Some (p, k) → IsDynamic J p
dynamic_found J i p k e h = (i, named_there J i p Dynamic (subst (λ (d : Kind). procedure_named J i ≡ Some (p, d)) e h))

pub within_found : (J : Journal) (i : Indicator) (p : ℕ) (k : Kind) → procedure_named J i ≡ Some (p, k) → p < length (procedures J)
within_found J i p k h = procedure_within J i p (found_number J i p k h)

-- the clauses of a dynamic procedure may be shown and erased
pub for_any : (purpose : Purpose) (J : Journal) (p : ℕ) → IsDynamic J p → IsFor purpose J p
for_any ToShow J p h = tt
for_any ToErase J p h = h

-- ---- what follows

module _ (x : Setting) (purpose : Purpose) (h b : Tree) (i : Indicator) where
  pub match_reserved : (s : State) → is_reserved i ≡ true → matching x purpose h b s i ≡ raises (refusal_for purpose i) (call_for purpose) s
  match_reserved s e =
      ap (λ (t : Bool). if t then raises (refusal_for purpose i) (call_for purpose) s else taking x s (λ seen t. matching_where x purpose h b i s.front seen t (procedure_named seen i))) e

  pub match_free : (s : State) → is_reserved i ≡ false → matching x purpose h b s i ≡ taking x s (λ seen t. matching_where x purpose h b i s.front seen t (procedure_named seen i))
  match_free s e =
      ap (λ (t : Bool). if t then raises (refusal_for purpose i) (call_for purpose) s else taking x s (λ seen t. matching_where x purpose h b i s.front seen t (procedure_named seen i))) e

  pub match_absent : (before : ℕ) (seen : Journal) (s : State) → procedure_named seen i ≡ None → matching_where x purpose h b i before seen s (procedure_named seen i) ≡ Goes (record s { mode = spec.Failing })
  match_absent before seen s e = ap (matching_where x purpose h b i before seen s) e

  pub match_static : (before : ℕ) (seen : Journal) (s : State) (p : ℕ) (k : Kind) (ball : Tree) → procedure_named seen i ≡ Some (p, k) → k ≡ Static → ball ≡ fault_tree (refusal_for purpose i) (call_for purpose)
      → matching_where x purpose h b i before seen s (procedure_named seen i) ≡ Goes (record s { mode = spec.Raising ball })
  match_static before seen s p k ball e static is =
      ap (matching_where x purpose h b i before seen s) e ∙ ap (matching_kind x purpose h b i before seen s p) static
      ∙ ap (λ (t : Tree). Goes (record s { mode = spec.Raising t })) (sym is)

  pub match_search : (from p : ℕ) (k : Kind) → k ≡ Dynamic → procedure_named (take from x.journal) i ≡ Some (p, k)
      → IsSearch x (Match purpose b) h from p (λ before seen t. matching_where x purpose h b i before seen t (procedure_named seen i))
  match_search from p k dynamic e = λ before n s low high.
      ap (matching_where x purpose h b i before (take n x.journal) s) (named_stays x.journal from n i p k low e)
      ∙ ap (matching_kind x purpose h b i before (take n x.journal) s p) dynamic

-- a clause is erased by its parts
pub parts_retract : (x y : Setting) (p : Parts) (h b : Tree) (s : State) → x ≡ y → h ≡ p.head → b ≡ p.body
    → retracting y p s ≡ headed retract_at h s (λ i. matching x ToErase h b s i)
parts_retract x y p h b s same head body = rw (same, head, body) refl
