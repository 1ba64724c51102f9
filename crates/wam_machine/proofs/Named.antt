-- The clauses and procedures of a journal and of what it begins with.
use Rattle.std.proofs.Common.{◌≡◌, ℕ, zero, suc, ◌+◌, ◌≤◌, ◌<◌, List, [], ◌∷◌, ◌++◌, length, take, drop, Bool, true, false, Option, Some, None, refl, sym, ap, ◌∙◌, subst, arith, append_assoc, append-nil, inl, inr}
use Rattle.std.specs.Prelude.{IsSome, IsTrue, is_some, All, slice_get, if◌then◌else◌, option_and_then, ◌==◌, ◌≢◌, ◌⊎◌}
use Rattle.std.proofs.lemmas.List.{take-take, take-append-drop}
use Rattle.std.proofs.lemmas.List.Elements.{All-weaker, filter_passes}
use Rattle.std.proofs.lemmas.Option.{option_and_then_some}
use Rattle.std.proofs.lemmas.Bool.{false≢true}
use Rattle.std.proofs.lemmas.Bool.Decides.{eqb_tells}
use Rattle.std.proofs.lemmas.Grind.{not_there}
use Rattle.prolog_terms.specs.Clauses.{IsClause, is_body}
use Rattle.prolog_terms.specs.Variables.{met_after}
use Rattle.prolog_terms.specs.Indicators.{indicator_of}
use Rattle.prolog_terms.specs.declared.entry.Clause.{Clause}
use Rattle.prolog_terms.specs.declared.entry.Indicator.{Indicator}
use Rattle.prolog_terms.specs.declared.entry.Kind.{Kind}
use Rattle.prolog_terms.specs.declared.entry.What.{What}
use Rattle.prolog_terms.specs.declared.entry.What.TheVariants.{Declare, Add, Erase}
use Rattle.call_patterns.specs.Keys.{GoalKeys}
use Rattle.journals.specs.Journal.{Journal, procedures, numbered_from, number_of, same_indicator, clause_named, added, alive}
use Rattle.call_patterns.specs.Candidates.{candidates, head_agrees}
use Rattle.journal_base.specs.Legal.{Legal, MayFollow}
use Rattle.journal_base.specs.View.{View, IsSound, InSeen}
use Rattle.journals.proofs.Entries.{number_of-kept}

-- ---- clauses

pub clause_take : (J : Journal) (a k : ℕ) → IsSome (clause_named (take a J) k) → clause_named J k ≡ clause_named (take a J) k
clause_take J zero k h = absurd (false≢true h)
clause_take [] (suc a) k h = refl
clause_take (x ∷ J) (suc a) zero h = refl
clause_take (x ∷ J) (suc a) (suc k) h = clause_take J a k h

-- a clause's name stays its name
pub clause_stays : (J : Journal) (a b k : ℕ) → a ≤ b → IsSome (clause_named (take a J) k) → clause_named (take b J) k ≡ clause_named (take a J) k
clause_stays J a b k le h =
    let e : take a (take b J) ≡ take a J = take-take a b J le in
    clause_take (take b J) a k (subst (λ l. IsSome (clause_named l k)) (sym e) h) ∙ ap (λ l. clause_named l k) e

agrees_with : (goal : GoalKeys) (o : Option Clause) → head_agrees goal o ≡ true → IsSome o
agrees_with goal None h = h
agrees_with goal (Some c) h = refl

-- each candidate is a clause
pub candidates_named : (J : Journal) (p : ℕ) (goal : GoalKeys) → All (λ k. IsSome (clause_named J k)) (candidates J p goal)
candidates_named J p goal =
    All-weaker (λ k. head_agrees goal (clause_named J k) ≡ true) (λ k. IsSome (clause_named J k)) (λ k h. agrees_with goal (clause_named J k) h)
    (candidates J p goal) (filter_passes (λ k. head_agrees goal (clause_named J k)) (alive J p))

-- what a legal journal names is a clause
pub clause_legal : (words updates : ℕ) (J : Journal) (k : ℕ) (c : Clause) → Legal words updates J → clause_named J k ≡ Some c → IsClause c
clause_legal words updates J k c l h = option_and_then_some (λ e. added e.what) (slice_get J k) c h (λ e at is. go e.by e.what is (l.follows k e at))
  where
    go : (by : ℕ) (w : What) → added w ≡ Some c → MayFollow (take k J) by w → IsClause c
    go by (Declare i d) is may = absurd cc
    go by (Add e p d) is may = let same : d ≡ c = cc in subst IsClause same may.clause
    go by (Erase j) is may = absurd cc

-- the clause that is named in what is seen is one
pub clause_is : (v : View) (k : ℕ) (c : Clause) → IsSound v → InSeen v (λ J. clause_named J k ≡ Some c) → IsClause c
clause_is v k c sound named = record {
  head = told (is_some (indicator_of c.head)) (λ J s. (in_one J s).head);
  body = told (is_body c.body) (λ J s. (in_one J s).body);
  numbered = counted (option_and_then (met_after c.body) (met_after c.head 0)) (λ J s. (in_one J s).numbered);
}
  where
    in_one : (J : Journal) → v.stands_for J → IsClause c
    in_one J s =
        let e : clause_named (take v.seen J) k ≡ Some c = named J s in
        let f : clause_named J k ≡ Some c = clause_take J v.seen k (ap is_some e) ∙ e in
        clause_legal _ _ J k c (sound.each J s).legal f

    told : (b : Bool) → ((J : Journal) → v.stands_for J → IsTrue b) → IsTrue b
    told true h = refl
    told false h = absurd (not_there sound.some (λ w. false≢true (h w.0 w.1)))

    counted : (o : Option ℕ) → ((J : Journal) → v.stands_for J → o ≡ Some c.vars) → o ≡ Some c.vars
    counted None h = absurd (not_there sound.some (λ w. let t : ◌≡◌ {A = Option ℕ} None (Some c.vars) = h w.0 w.1 in absurd cc))
    counted (Some n) h = go (eqb_tells n c.vars)
      where
        go : ((n == c.vars) ≡ true) × (n ≡ c.vars) ⊎ ((n == c.vars) ≡ false) × (n ≢ c.vars) → Some n ≡ Some c.vars
        go (inl (d, e)) = ap Some e
        go (inr (d, e)) = absurd (not_there sound.some (λ w. e (let t : Some n ≡ Some c.vars = h w.0 w.1 in cc)))

-- ---- procedures

procedure_later : (J K : Journal) (i : Indicator) (p : ℕ) → number_of J i ≡ Some p → number_of (J ++ K) i ≡ Some p
procedure_later J [] i p h = subst (λ l. number_of l i ≡ Some p) (sym (append-nil J)) h
procedure_later J (e ∷ K) i p h =
    subst (λ l. number_of l i ≡ Some p) (append_assoc J (e ∷ []) K) (procedure_later (J ++ e ∷ []) K i p (number_of-kept J e i p h))

-- a procedure's number stays its number
pub procedure_stays : (J : Journal) (a b : ℕ) (i : Indicator) (p : ℕ) → a ≤ b → number_of (take a J) i ≡ Some p → number_of (take b J) i ≡ Some p
procedure_stays J a b i p le h =
    let e : take a (take b J) ≡ take a J = take-take a b J le in
    let f : take a (take b J) ++ drop a (take b J) ≡ take b J = take-append-drop a (take b J) in
    subst (λ l. number_of l i ≡ Some p) f (procedure_later (take a (take b J)) (drop a (take b J)) i p (subst (λ l. number_of l i ≡ Some p) (sym e) h))

numbered_within : (n : ℕ) (ds : List (Indicator × Kind)) (i : Indicator) (p : ℕ) → numbered_from n ds i ≡ Some p → p < n + length ds
numbered_within n [] i p h = absurd cc
numbered_within n (d ∷ ds) i p h = go (numbered_within (n + 1) ds i p) (same_indicator i d.0) h
  where
    go : (numbered_from (n + 1) ds i ≡ Some p → p < n + 1 + length ds) → (b : Bool) → ◌≡◌ {A = Option ℕ} (if b then Some n else numbered_from (n + 1) ds i) (Some p) → p < n + length (d ∷ ds)
    go later true k = let e : n ≡ p = cc in omega arith
    go later false k = let le : p < n + 1 + length ds = later k in omega arith

-- a procedure's number is below how many there are
pub procedure_within : (J : Journal) (i : Indicator) (p : ℕ) → number_of J i ≡ Some p → p < length (procedures J)
procedure_within J i p h = let le : p < 0 + length (procedures J) = numbered_within 0 (procedures J) i p h in omega arith
