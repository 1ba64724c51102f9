-- What the clause of a term is.
use Rattle.std.proofs.Common.{◌≡◌, ℕ, ◌+◌, ◌<◌, List, [], ◌∷◌, ◌++◌, Bool, true, false, ◌||◌, nat_eq, nat_lt, if◌then◌else◌, length, Option, None, Some, refl, sym, ap, ◌∙◌, subst, length-append, arith}
use Rattle.std.specs.Prelude.{IsTrue, is_some, option_and_then, option_map, IfSome}
use Rattle.std.specs.List.{list_any}
use Rattle.std.proofs.lemmas.Bool.{eqb-true, eq-eqb, lt-ltb, or_right, true≢false}
use Rattle.std.proofs.lemmas.Bool.Decides.{nat_tests}
use Rattle.prolog_terms.specs.Tree.{Tree, Trees, variable, integer, atom, compound, none, more}
use Rattle.prolog_terms.specs.Variables.{met_after, all_met_after, AreNumbered}
use Rattle.prolog_terms.specs.Indicators.{indicator_of}
use Rattle.prolog_terms.specs.Clauses.{IsClause, is_body, body_of}
use Rattle.prolog_terms.specs.declared.entry.Clause.{Clause}
use Rattle.prolog_clauses.specs.Renaming.{renamed, all_renamed, occurs, occurs_in_some, with_variable, variables_after, all_variables_after, place_of}
use Rattle.prolog_clauses.specs.Formed.{Parts, rule, parts_of, variables_of, number_in, numbered, with_body, by_head, clause_of, OccursIn, IsRenaming}
use Rattle.prolog_clauses.specs.declared.clause.Formed.TheVariants.{Clause as Made}
use Rattle.prolog_terms.proofs.Converted.{is_converted}
use Rattle.prolog_clauses.proofs.Converted.{occurs_in_body}
use Rattle.prolog_clauses.proofs.Numberings.{Begins, begins_itself, begins_later, begins_after, begins_after_all, place_kept, place_absent}

made_same : (c d : Clause) → Made c ≡ Made d → c ≡ d
made_same c d e = cc

-- ---- a term gives a clause only where its parts are right

pub made_head : (h : Tree) (p : Parts) (c : Clause) → by_head h p ≡ Made c → IsTrue (is_some (indicator_of h)) × (with_body p (body_of p.body) ≡ Made c)
made_head (variable n) p c e = absurd cc
made_head (integer z) p c e = absurd cc
made_head (atom a) p c e = (refl, e)
made_head (compound f ts) p c e = (refl, e)

pub made_body : (p : Parts) (o : Option Tree) (c : Clause) → with_body p o ≡ Made c → (b : Tree) × ((o ≡ Some b) × (c ≡ numbered (rule p.head b)))
made_body p None c e = absurd cc
made_body p (Some b) c e = (b, (refl, sym (made_same (numbered (rule p.head b)) c e)))

-- ---- other numbers change neither head nor body

indicator-renamed : (f : ℕ → ℕ) (t : Tree) → is_some (indicator_of (renamed f t)) ≡ is_some (indicator_of t)
indicator-renamed f (variable n) = refl
indicator-renamed f (integer z) = refl
indicator-renamed f (atom a) = refl
indicator-renamed f (compound g ts) = refl

body-renamed : (f : ℕ → ℕ) (t : Tree) → is_body (renamed f t) ≡ is_body t
body-renamed f (variable n) = refl
body-renamed f (integer z) = refl
body-renamed f (atom a) = refl
body-renamed f (compound g none) = refl
body-renamed f (compound g (more a none)) = refl
body-renamed f (compound g (more a (more b none))) = rw (body-renamed f a, body-renamed f b) refl
body-renamed f (compound g (more a (more b (more c ts)))) = refl

-- ---- the numbers are those of first occurrence

within_at : (v m : ℕ) (ms : List ℕ) (b : Bool) → nat_eq v m ≡ b → (list_any (nat_eq v) ms ≡ true → place_of v ms < length ms) → (nat_eq v m || list_any (nat_eq v) ms) ≡ true
    → (if nat_eq v m then 0 else 1 + place_of v ms) < length (m ∷ ms)
within_at v m ms true h later e = rw h (omega arith)
within_at v m ms false h later e = let l = later (sym (ap (λ b. b || list_any (nat_eq v) ms) h) ∙ e) in rw h (omega (arith, l))

pub place_within : (v : ℕ) (met : List ℕ) → list_any (nat_eq v) met ≡ true → place_of v met < length met
place_within v [] e = absurd (true≢false (sym e))
place_within v (m ∷ ms) e = within_at v m ms (nat_eq v m) refl (place_within v ms) e

pub met_old : (q k : ℕ) → q < k → met_after (variable q) k ≡ Some k
met_old q k l = rw (lt-ltb q k l) refl

met_new : (q k : ℕ) → q ≡ k → met_after (variable q) k ≡ Some (k + 1)
met_new q k e =
    let low : nat_lt q k ≡ false = grind (arith, nat_tests) in
    let same : nat_eq q k ≡ true = grind (arith, nat_tests) in
    rw (low, same) refl

met_variable : (n : ℕ) (met : List ℕ) (b : Bool) → list_any (nat_eq n) met ≡ b → met_after (variable (place_of n met)) (length met) ≡ Some (length (if b then met else met ++ n ∷ []))
met_variable n met true e = met_old (place_of n met) (length met) (place_within n met e)
met_variable n met false e = met_new (place_of n met) (length met) (place_absent n met e) ∙ ap Some (sym (length-append met (n ∷ [])))

mutual
  numbered_met : (t : Tree) (met all : List ℕ) → Begins (variables_after met t) all → met_after (renamed (λ v. place_of v all) t) (length met) ≡ Some (length (variables_after met t))
  numbered_met (variable n) met all h = ap (λ q. met_after (variable q) (length met)) (place_kept n met all h) ∙ met_variable n met (list_any (nat_eq n) met) refl
  numbered_met (integer z) met all h = refl
  numbered_met (atom a) met all h = refl
  numbered_met (compound g ts) met all h = all_numbered_met ts met all h

  all_numbered_met : (ts : Trees) (met all : List ℕ) → Begins (all_variables_after met ts) all → all_met_after (all_renamed (λ v. place_of v all) ts) (length met) ≡ Some (length (all_variables_after met ts))
  all_numbered_met none met all h = refl
  all_numbered_met (more t ts) met all h =
      let first = begins_later (variables_after met t) (all_variables_after met (more t ts)) all (begins_after_all ts (variables_after met t)) h in
      ap (option_and_then (all_met_after (all_renamed (λ v. place_of v all) ts))) (numbered_met t met all first) ∙ all_numbered_met ts (variables_after met t) all h

are_numbered : (p : Parts) → AreNumbered (renamed (number_in p) p.head) (renamed (number_in p) p.body) (length (variables_of p))
are_numbered p =
    ap (option_and_then (met_after (renamed (number_in p) p.body))) (numbered_met p.head [] (variables_of p) (begins_after p.body (variables_after [] p.head)))
    ∙ numbered_met p.body (variables_after [] p.head) (variables_of p) (begins_itself (variables_of p))

-- ---- no two variables get the same number

or_then : (x y z : Bool) → (y ≡ true → z ≡ true) → (x || y) ≡ true → (x || z) ≡ true
or_then true y z f e = refl
or_then false y z f e = f e

any_left : (p : ℕ → Bool) (xs ys : List ℕ) → list_any p xs ≡ true → list_any p (xs ++ ys) ≡ true
any_left p [] ys e = absurd (true≢false (sym e))
any_left p (x ∷ xs) ys e = or_then (p x) (list_any p xs) (list_any p (xs ++ ys)) (any_left p xs ys) e

any_right : (p : ℕ → Bool) (xs ys : List ℕ) → list_any p ys ≡ true → list_any p (xs ++ ys) ≡ true
any_right p [] ys e = e
any_right p (x ∷ xs) ys e = or_right (p x) (list_any p (xs ++ ys)) (any_right p xs ys e)

any_later : (p : ℕ → Bool) (met all : List ℕ) → Begins met all → list_any p met ≡ true → list_any p all ≡ true
any_later p met all h e = ap (list_any p) h.is ∙ any_left p met h.rest e

with_itself : (n : ℕ) (met : List ℕ) (b : Bool) → list_any (nat_eq n) met ≡ b → list_any (nat_eq n) (if b then met else met ++ n ∷ []) ≡ true
with_itself n met true e = e
with_itself n met false e = any_right (nat_eq n) met (n ∷ []) (rw (eq-eqb n n refl) refl)

pub or_either : (x y z : Bool) → (x ≡ true → z ≡ true) → (y ≡ true → z ≡ true) → (x || y) ≡ true → z ≡ true
or_either true y z f g e = f refl
or_either false y z f g e = g e

mutual
  met_occurs : (v : ℕ) (t : Tree) (met : List ℕ) → occurs v t ≡ true → list_any (nat_eq v) (variables_after met t) ≡ true
  met_occurs v (variable n) met e =
      subst (λ m. list_any (nat_eq m) (with_variable met n) ≡ true) (sym (eqb-true v n e)) (with_itself n met (list_any (nat_eq n) met) refl)
  met_occurs v (integer z) met e = absurd (true≢false (sym e))
  met_occurs v (atom a) met e = absurd (true≢false (sym e))
  met_occurs v (compound g ts) met e = met_occurs_all v ts met e

  met_occurs_all : (v : ℕ) (ts : Trees) (met : List ℕ) → occurs_in_some v ts ≡ true → list_any (nat_eq v) (all_variables_after met ts) ≡ true
  met_occurs_all v none met e = absurd (true≢false (sym e))
  met_occurs_all v (more t ts) met e =
      or_either (occurs v t) (occurs_in_some v ts) (list_any (nat_eq v) (all_variables_after met (more t ts)))
      (λ o. any_later (nat_eq v) (variables_after met t) (all_variables_after met (more t ts)) (begins_after_all ts (variables_after met t)) (met_occurs v t met o))
      (met_occurs_all v ts (variables_after met t)) e

pub met_in_parts : (v : ℕ) (p : Parts) → OccursIn v p → list_any (nat_eq v) (variables_of p) ≡ true
met_in_parts v p e =
    or_either (occurs v p.head) (occurs v p.body) (list_any (nat_eq v) (variables_of p))
    (λ o. any_later (nat_eq v) (variables_after [] p.head) (variables_of p) (begins_after p.body (variables_after [] p.head)) (met_occurs v p.head [] o))
    (met_occurs v p.body (variables_after [] p.head)) e

one_at : (v w m : ℕ) (ms : List ℕ) (b d : Bool) → nat_eq v m ≡ b → nat_eq w m ≡ d
    → (list_any (nat_eq v) ms ≡ true → list_any (nat_eq w) ms ≡ true → place_of v ms ≡ place_of w ms → v ≡ w)
    → (b || list_any (nat_eq v) ms) ≡ true → (d || list_any (nat_eq w) ms) ≡ true → (if b then 0 else 1 + place_of v ms) ≡ (if d then 0 else 1 + place_of w ms) → v ≡ w
one_at v w m ms true true h k later e f same = eqb-true v m h ∙ sym (eqb-true w m k)
one_at v w m ms true false h k later e f same = absurd (omega (arith, same))
one_at v w m ms false true h k later e f same = absurd (omega (arith, same))
one_at v w m ms false false h k later e f same = later e f (omega (arith, same))

place_one : (v w : ℕ) (ms : List ℕ) → list_any (nat_eq v) ms ≡ true → list_any (nat_eq w) ms ≡ true → place_of v ms ≡ place_of w ms → v ≡ w
place_one v w [] e f same = absurd (true≢false (sym e))
place_one v w (m ∷ ms) e f same = one_at v w m ms (nat_eq v m) (nat_eq w m) refl refl (place_one v w ms) e f same

-- ---- the laws

clause_numbered : (p : Parts) → IsTrue (is_some (indicator_of p.head)) → IsTrue (is_body p.body) → IsClause (numbered p)
clause_numbered p h b = record { head = indicator-renamed (number_in p) p.head ∙ h; body = body-renamed (number_in p) p.body ∙ b; numbered = are_numbered p }

-- the same of parts whose body stays as it is
pub record Renames (p : Parts) (c : Clause) : Type 0 where
  pub number : ℕ → ℕ
  pub head : c.head ≡ renamed number p.head
  pub body : c.body ≡ renamed number p.body
  pub one_to_one : (v w : ℕ) → OccursIn v p → OccursIn w p → number v ≡ number w → v ≡ w

renames_numbered : (p : Parts) → Renames p (numbered p)
renames_numbered p =
    record {
      number = number_in p;
      head = refl;
      body = refl;
      one_to_one = λ v w o q e. place_one v w (variables_of p) (met_in_parts v p o) (met_in_parts w p q) e;
    }

occurs_called : (v : ℕ) (p : Parts) (b : Tree) → body_of p.body ≡ Some b → OccursIn v p → OccursIn v (rule p.head b)
occurs_called v p b e o = ap (λ x. occurs v p.head || x) (occurs_in_body v p.body b e) ∙ o

occurs_before : (v : ℕ) (p : Parts) (b : Tree) → body_of p.body ≡ Some b → OccursIn v (rule p.head b) → OccursIn v p
occurs_before v p b e o = sym (ap (λ x. occurs v p.head || x) (occurs_in_body v p.body b e)) ∙ o

is_renaming : (p : Parts) (b : Tree) (c : Clause) → body_of p.body ≡ Some b → Renames (rule p.head b) c → IsRenaming p c
is_renaming p b c e r =
    record {
      number = r.number;
      head = r.head;
      body = ap Some r.body ∙ sym (ap (option_map (renamed r.number)) e);
      one_to_one = λ v w o q. r.one_to_one v w (occurs_called v p b e o) (occurs_called w p b e q);
    }

some_same : (t u : Tree) → Some t ≡ Some u → t ≡ u
some_same t u e = cc

pub renames : (p : Parts) (b : Tree) (c : Clause) → body_of p.body ≡ Some b → IsRenaming p c → Renames (rule p.head b) c
renames p b c e r =
    record {
      number = r.number;
      head = r.head;
      body = some_same c.body (renamed r.number b) (r.body ∙ ap (option_map (renamed r.number)) e);
      one_to_one = λ v w o q. r.one_to_one v w (occurs_before v p b e o) (occurs_before w p b e q);
    }

pub made_clause : (t : Tree) (c : Clause) → clause_of t ≡ Made c → IsClause c
made_clause t c e =
    let p = parts_of t in
    let h = made_head p.head p c e in
    let m = made_body p (body_of p.body) c h.1 in
    let body : IsTrue (is_body m.0) = subst (λ o. IfSome o (λ b. IsTrue (is_body b))) m.1.0 (is_converted p.body) in
    subst IsClause (sym m.1.1) (clause_numbered (rule p.head m.0) h.0 body)

pub made_renaming : (t : Tree) (c : Clause) → clause_of t ≡ Made c → IsRenaming (parts_of t) c
made_renaming t c e =
    let p = parts_of t in
    let m = made_body p (body_of p.body) c (made_head p.head p c e).1 in
    is_renaming p m.0 c m.1.0 (subst (Renames (rule p.head m.0)) (sym m.1.1) (renames_numbered (rule p.head m.0)))
