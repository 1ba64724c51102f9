-- A goal whose name and arity are not reserved is the call of a procedure.
use Rattle.std.proofs.Common.{◌≡◌, ℕ, ◌+◌, ◌≤◌, suc, Bool, true, false, List, [], ◌∷◌, Option, Some, None, refl, sym, ap, ap₂, ◌∙◌, arith, subst, codes}
use Rattle.std.specs.Prelude.{if◌then◌else◌, ◌&&◌, ◌==◌, nat_lt, option_map}
use Rattle.std.specs.Cmp.Lexicographic.{same_text}
use Rattle.std.proofs.lemmas.Bool.{eqb-true}
use Rattle.std.proofs.lemmas.Bool.Decides.{nat_tests}
use Rattle.prolog_terms.specs.Tree.{Tree, Trees, variable, integer, atom, compound, none, more, count}
use Rattle.prolog_terms.specs.Clauses.{is_named}
use Rattle.prolog_terms.specs.Indicators.{indicator_of}
use Rattle.prolog_terms.specs.declared.entry.Indicator.{Indicator}
use Rattle.term_builtins.specs.Table.{Row, builtins, indicator, place_in, place_when}
use Rattle.prolog_terms.specs.declared.entry.End.TheVariants.{Front, Back}
use Rattle.wam_machine.specs.Control.{Control, True, Fail, Cut, Repeat, Halt, Call, Once, Not, Throw, HaltWith, Both, If, Catch, Findall, Database, Assert, Inspect, Retract, RetractAll, Abolish, User, plain, builtin_or_user, access_with_one, control_of, control_of_either}
use Rattle.wam_machine.specs.Reserved.{is_reserved, control, of_terms, of_texts, of_numbers, of_clauses}

abbrev at : List ℕ → ℕ → Indicator
at name arity = record { name = name; arity = arity }

-- ---- the names of control constructs

no_name : (n a : List ℕ) (k : ℕ) → is_reserved (at n k) ≡ true → is_reserved (at a k) ≡ false → is_named n a ≡ false
no_name n a k r h = go (is_named n a) refl
  where
    go : (b : Bool) → is_named n a ≡ b → is_named n a ≡ false
    go true e =
        let same : is_reserved (at n k) ≡ is_reserved (at a k) = ap (λ (x : List ℕ). is_reserved (at x k)) (same_text n a (sym e)) in
        absurd (cc (r, h, same))
    go false e = e

zero_names : (is_reserved (at (codes "true") 0) ≡ true) × (is_reserved (at (codes "fail") 0) ≡ true) × (is_reserved (at (codes "!") 0) ≡ true) × (is_reserved (at (codes "repeat") 0) ≡ true) × (is_reserved (at (codes "halt") 0) ≡ true)
unfolding is_reserved control
zero_names = (refl, refl, refl, refl, refl)

one_names : (is_reserved (at (codes "call") 1) ≡ true) × (is_reserved (at (codes "once") 1) ≡ true) × (is_reserved (at (codes "\\+") 1) ≡ true) × (is_reserved (at (codes "throw") 1) ≡ true) × (is_reserved (at (codes "halt") 1) ≡ true)
unfolding is_reserved control
one_names = (refl, refl, refl, refl, refl)

-- what the database is asked by
access_names : (is_reserved (at (codes "asserta") 1) ≡ true) × (is_reserved (at (codes "assertz") 1) ≡ true) × (is_reserved (at (codes "retract") 1) ≡ true) × (is_reserved (at (codes "retractall") 1) ≡ true)
    × (is_reserved (at (codes "abolish") 1) ≡ true) × (is_reserved (at (codes "clause") 2) ≡ true)
unfolding is_reserved control of_terms of_texts of_numbers of_clauses
access_names = (refl, refl, refl, refl, refl, refl)

two_names : (is_reserved (at (codes ",") 2) ≡ true) × (is_reserved (at (codes ";") 2) ≡ true) × (is_reserved (at (codes "->") 2) ≡ true) × (is_reserved (at (codes "call") 2) ≡ true)
unfolding is_reserved control
two_names = (refl, refl, refl, refl)

three_names : (is_reserved (at (codes "catch") 3) ≡ true) × (is_reserved (at (codes "findall") 3) ≡ true) × (is_reserved (at (codes "call") 3) ≡ true)
unfolding is_reserved control
three_names = (refl, refl, refl)

more_names : (is_reserved (at (codes "call") 4) ≡ true) × (is_reserved (at (codes "call") 5) ≡ true) × (is_reserved (at (codes "call") 6) ≡ true) × (is_reserved (at (codes "call") 7) ≡ true) × (is_reserved (at (codes "call") 8) ≡ true)
unfolding is_reserved control
more_names = (refl, refl, refl, refl, refl)

-- ---- the names of builtins

abbrev are_reserved : List Row → Bool
are_reserved [] = true
are_reserved (r ∷ rs) = is_reserved (indicator r) && are_reserved rs

all_reserved : are_reserved builtins ≡ true
unfolding is_reserved control of_terms of_texts of_numbers of_clauses
all_reserved = refl

first : (b c : Bool) → (b && c) ≡ true → b ≡ true
first true c e = refl
first false c e = absurd (cc e)

second : (b c : Bool) → (b && c) ≡ true → c ≡ true
second true c e = e
second false c e = absurd (cc e)

not_placed-row : (row : Row) (f : List ℕ) (k : ℕ) (later : Option ℕ) → is_reserved (indicator row) ≡ true → is_reserved (at f k) ≡ false → later ≡ None
    → (b c : Bool) → is_named row.name f ≡ b → (row.arity == k) ≡ c → place_when (b && c) later ≡ None
not_placed-row row f k later here h e true true p q =
    let same : is_reserved (indicator row) ≡ is_reserved (at f k) = ap₂ (λ (x : List ℕ) (n : ℕ). is_reserved (at x n)) (same_text row.name f (sym p)) (eqb-true row.arity k q) in
    absurd (cc (here, h, same))
not_placed-row row f k later here h e true false p q = ap (option_map suc) e
not_placed-row row f k later here h e false c p q = ap (option_map suc) e

not_placed : (rs : List Row) (f : List ℕ) (k : ℕ) → are_reserved rs ≡ true → is_reserved (at f k) ≡ false → place_in rs f k ≡ None
not_placed [] f k r h = refl
not_placed (row ∷ rs) f k r h =
    not_placed-row row f k (place_in rs f k) (first (is_reserved (indicator row)) (are_reserved rs) r) h
    (not_placed rs f k (second (is_reserved (indicator row)) (are_reserved rs) r) h) (is_named row.name f) (row.arity == k) refl refl

plain_called : (f : List ℕ) (args : Trees) → is_reserved (at f (count args)) ≡ false → plain f args ≡ User (at f (count args))
unfolding plain
plain_called f args h = ap (λ (o : Option ℕ). builtin_or_user o f args) (not_placed builtins f (count args) all_reserved h)

-- ---- by the number of arguments

sixth : (c1 c2 c3 c4 c5 c6 : Control) (p q r s t : Bool) → p ≡ false → q ≡ false → r ≡ false → s ≡ false → t ≡ false
    → (if p then c1 else if q then c2 else if r then c3 else if s then c4 else if t then c5 else c6) ≡ c6
sixth c1 c2 c3 c4 c5 c6 p q r s t a b c d e = rw (a, b, c, d, e) refl

fourth : (c1 c2 c3 c4 : Control) (p q r : Bool) → p ≡ false → q ≡ false → r ≡ false → (if p then c1 else if q then c2 else if r then c3 else c4) ≡ c4
fourth c1 c2 c3 c4 p q r a b c = rw (a, b, c) refl

atom_called : (a : List ℕ) → is_reserved (at a 0) ≡ false → control_of (atom a) ≡ Some (User (at a 0))
atom_called a h =
    let n = zero_names in
    ap (λ (c : Control). Some c)
    (sixth True Fail Cut Repeat Halt (plain a none) (is_named (codes "true") a) (is_named (codes "fail") a) (is_named (codes "!") a) (is_named (codes "repeat") a) (is_named (codes "halt") a)
    (no_name _ a 0 n.0 h) (no_name _ a 0 n.1 h) (no_name _ a 0 n.2 h) (no_name _ a 0 n.3 h) (no_name _ a 0 n.4 h)
    ∙ plain_called a none h)

access_called : (f : List ℕ) (a : Tree) → is_reserved (at f 1) ≡ false → access_with_one f a ≡ User (at f 1)
access_called f a h =
    let n = access_names in
    sixth (Database (Assert Front a)) (Database (Assert Back a)) (Database (Retract a)) (Database (RetractAll a)) (Database (Abolish a)) (plain f (more a none))
    (is_named (codes "asserta") f) (is_named (codes "assertz") f) (is_named (codes "retract") f) (is_named (codes "retractall") f) (is_named (codes "abolish") f)
    (no_name _ f 1 n.0 h) (no_name _ f 1 n.1 h) (no_name _ f 1 n.2 h) (no_name _ f 1 n.3 h) (no_name _ f 1 n.4 h)
    ∙ plain_called f (more a none) h

one_called : (f : List ℕ) (a : Tree) → is_reserved (at f 1) ≡ false → control_of (compound f (more a none)) ≡ Some (User (at f 1))
one_called f a h =
    let n = one_names in
    ap (λ (c : Control). Some c)
    (sixth (Call a none) (Once a) (Not a) (Throw a) (HaltWith a) (access_with_one f a)
    (is_named (codes "call") f) (is_named (codes "once") f) (is_named (codes "\\+") f) (is_named (codes "throw") f) (is_named (codes "halt") f)
    (no_name _ f 1 n.0 h) (no_name _ f 1 n.1 h) (no_name _ f 1 n.2 h) (no_name _ f 1 n.3 h) (no_name _ f 1 n.4 h)
    ∙ access_called f a h)

two_called : (f : List ℕ) (a b : Tree) → is_reserved (at f 2) ≡ false → control_of (compound f (more a (more b none))) ≡ Some (User (at f 2))
two_called f a b h =
    let n = two_names in
    ap (λ (c : Control). Some c)
    (sixth (Both a b) (control_of_either a b) (If a b) (Call a (more b none)) (Database (Inspect a b)) (plain f (more a (more b none)))
    (is_named (codes ",") f) (is_named (codes ";") f) (is_named (codes "->") f) (is_named (codes "call") f) (is_named (codes "clause") f)
    (no_name _ f 2 n.0 h) (no_name _ f 2 n.1 h) (no_name _ f 2 n.2 h) (no_name _ f 2 n.3 h) (no_name _ f 2 access_names.5 h)
    ∙ plain_called f (more a (more b none)) h)

three_called : (f : List ℕ) (a b c : Tree) → is_reserved (at f 3) ≡ false → control_of (compound f (more a (more b (more c none)))) ≡ Some (User (at f 3))
three_called f a b c h =
    let n = three_names in
    ap (λ (d : Control). Some d)
    (fourth (Catch a b c) (Findall a b c) (Call a (more b (more c none))) (plain f (more a (more b (more c none)))) (is_named (codes "catch") f) (is_named (codes "findall") f) (is_named (codes "call") f)
    (no_name _ f 3 n.0 h) (no_name _ f 3 n.1 h) (no_name _ f 3 n.2 h)
    ∙ plain_called f (more a (more b (more c none))) h)

not-below : (n m : ℕ) → m ≤ n → nat_lt n m ≡ false
not-below n m h = grind (arith, nat_tests)

no_call : (k : ℕ) (f : List ℕ) → is_reserved (at (codes "call") k) ≡ true → is_named (codes "call") f ≡ true → is_reserved (at f k) ≡ false → ⊥
no_call k f r e h = let n = no_name (codes "call") f k r h in cc (n, e)

-- `call` with more than seven arguments beside its goal
call_of_more : (f : List ℕ) (ts : Trees) → is_named (codes "call") f ≡ true → is_reserved (at f (count ts + 1 + 1 + 1 + 1)) ≡ false → nat_lt (count ts + 1 + 1 + 1) 8 ≡ false
call_of_more f none e h = absurd (no_call 4 f more_names.0 e h)
call_of_more f (more a none) e h = absurd (no_call 5 f more_names.1 e h)
call_of_more f (more a (more b none)) e h = absurd (no_call 6 f more_names.2 e h)
call_of_more f (more a (more b (more c none))) e h = absurd (no_call 7 f more_names.3 e h)
call_of_more f (more a (more b (more c (more d none)))) e h = absurd (no_call 8 f more_names.4 e h)
call_of_more f (more a (more b (more c (more d (more g ts))))) e h = not-below _ 8 (omega arith)

more_called : (f : List ℕ) (a b c d : Tree) (ts : Trees) → is_reserved (at f (count ts + 1 + 1 + 1 + 1)) ≡ false
    → control_of (compound f (more a (more b (more c (more d ts))))) ≡ Some (User (at f (count ts + 1 + 1 + 1 + 1)))
more_called f a b c d ts h = ap (λ (k : Control). Some k) (go (is_named (codes "call") f) refl)
  where
    args : Trees
    args = more a (more b (more c (more d ts)))

    go : (x : Bool) → is_named (codes "call") f ≡ x → (if x && nat_lt (count ts + 1 + 1 + 1) 8 then Call a (more b (more c (more d ts))) else plain f (more a (more b (more c (more d ts))))) ≡ User (at f (count ts + 1 + 1 + 1 + 1))
    go true e = rw (call_of_more f ts e h) (plain_called f (more a (more b (more c (more d ts)))) h)
    go false e = plain_called f (more a (more b (more c (more d ts)))) h

-- ---- each goal

the_called : (f : List ℕ) (ts : Trees) → is_reserved (at f (count ts)) ≡ false → control_of (compound f ts) ≡ Some (User (at f (count ts)))
the_called f none h = ap (λ (c : Control). Some c) (plain_called f none h)
the_called f (more a none) h = one_called f a h
the_called f (more a (more b none)) h = two_called f a b h
the_called f (more a (more b (more c none))) h = three_called f a b c h
the_called f (more a (more b (more c (more d ts)))) h = more_called f a b c d ts h

some-same : (i j : Indicator) → Some i ≡ Some j → i ≡ j
some-same i j e = cc

pub others-are-called : (goal : Tree) (i : Indicator) → indicator_of goal ≡ Some i → is_reserved i ≡ false → control_of goal ≡ Some (User i)
others-are-called (variable n) i e h = absurd (cc e)
others-are-called (integer z) i e h = absurd (cc e)
others-are-called (atom a) i e h =
    let same = some-same (at a 0) i e in
    subst (λ (j : Indicator). control_of (atom a) ≡ Some (User j)) same (atom_called a (ap is_reserved same ∙ h))
others-are-called (compound f ts) i e h =
    let same = some-same (at f (count ts)) i e in
    subst (λ (j : Indicator). control_of (compound f ts) ≡ Some (User j)) same (the_called f ts (ap is_reserved same ∙ h))
