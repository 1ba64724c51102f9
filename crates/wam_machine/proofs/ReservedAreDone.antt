-- A goal whose name and arity are reserved is never the call of a procedure.
use Rattle.std.proofs.Common.{arith, ◌≡◌, ◌≢◌, ◌≤◌, ℕ, zero, suc, ◌+◌, Bool, true, false, List, [], ◌∷◌, Option, Some, None, refl, sym, ap, ap₂, ◌∙◌, codes}
use Rattle.std.specs.Prelude.{if◌then◌else◌, ◌&&◌, ◌||◌, nat_lt}
use Rattle.std.specs.List.{list_any}
use Rattle.std.specs.Cmp.Lexicographic.{same_text}
use Rattle.std.proofs.lemmas.Bool.{eqb-true}
use Rattle.prolog_terms.specs.Tree.{Tree, Trees, variable, integer, atom, compound, none, more, count, HasArities}
use Rattle.prolog_terms.specs.Clauses.{is_named}
use Rattle.prolog_terms.specs.Indicators.{indicator_of}
use Rattle.prolog_terms.specs.declared.entry.Indicator.{Indicator}
use Rattle.journals.specs.Journal.{same_indicator}
use Rattle.term_builtins.specs.Table.{builtins, place_in}
use Rattle.wam_machine.specs.Control.{Control, True, Fail, Cut, Repeat, Both, Either, IfElse, If, Not, Call, Once, Catch, Findall, Throw, Halt, HaltWith, Database, Builtin, User, plain, builtin_or_user, access_with_one, control_with_none, control_with_one, control_with_two, control_with_three, control_with_more, control_of, control_of_either}
use Rattle.wam_machine.specs.Reserved.{Row, is_reserved, is_in, named, control, of_terms, of_texts, of_numbers, of_clauses}

abbrev at : List ℕ → ℕ → Indicator
at name arity = record { name = name; arity = arity }

-- ---- which names and numbers of arguments are those of calls

abbrev is_user : Control → Bool
is_user True = false
is_user Fail = false
is_user Cut = false
is_user Repeat = false
is_user (Both a b) = false
is_user (Either a b) = false
is_user (IfElse c t e) = false
is_user (If c t) = false
is_user (Not g) = false
is_user (Call g ts) = false
is_user (Once g) = false
is_user (Catch g c r) = false
is_user (Findall t g l) = false
is_user (Throw b) = false
is_user Halt = false
is_user (HaltWith n) = false
is_user (Database d) = false
is_user (Builtin row args) = false
is_user (User i) = true

abbrev is_absent : Option ℕ → Bool
is_absent None = true
is_absent (Some n) = false

abbrev is_plain : List ℕ → ℕ → Bool
is_plain f k = is_absent (place_in builtins f k)

abbrev access_calls : List ℕ → Bool
access_calls f =
    if is_named (codes "asserta") f then false
    else if is_named (codes "assertz") f then false
    else if is_named (codes "retract") f then false
    else if is_named (codes "retractall") f then false
    else if is_named (codes "abolish") f then false
    else is_plain f 1

abbrev none_calls : List ℕ → Bool
none_calls f =
    if is_named (codes "true") f then false
    else if is_named (codes "fail") f then false
    else if is_named (codes "!") f then false
    else if is_named (codes "repeat") f then false
    else if is_named (codes "halt") f then false
    else is_plain f 0

abbrev one_calls : List ℕ → Bool
one_calls f =
    if is_named (codes "call") f then false
    else if is_named (codes "once") f then false
    else if is_named (codes "\\+") f then false
    else if is_named (codes "throw") f then false
    else if is_named (codes "halt") f then false
    else access_calls f

abbrev two_calls : List ℕ → Bool
two_calls f =
    if is_named (codes ",") f then false
    else if is_named (codes ";") f then false
    else if is_named (codes "->") f then false
    else if is_named (codes "call") f then false
    else if is_named (codes "clause") f then false
    else is_plain f 2

abbrev three_calls : List ℕ → Bool
three_calls f =
    if is_named (codes "catch") f then false
    else if is_named (codes "findall") f then false
    else if is_named (codes "call") f then false
    else is_plain f 3

-- four arguments and so many more
abbrev more_calls : List ℕ → ℕ → Bool
more_calls f n = if is_named (codes "call") f && nat_lt (n + 1 + 1 + 1) 8 then false else is_plain f (n + 1 + 1 + 1 + 1)

abbrev is_call : List ℕ → ℕ → Bool
is_call f zero = none_calls f
is_call f (suc zero) = one_calls f
is_call f (suc (suc zero)) = two_calls f
is_call f (suc (suc (suc zero))) = three_calls f
is_call f (suc (suc (suc (suc n)))) = more_calls f n

with_more : (f : List ℕ) (n : ℕ) → is_call f (n + 1 + 1 + 1 + 1) ≡ more_calls f n
with_more f n = let same : n + 1 + 1 + 1 + 1 ≡ suc (suc (suc (suc n))) = omega arith in ap (is_call f) same

-- ---- a goal is a call where its name and number of arguments are those of one

pick : (p : Bool) (c d : Control) (u v : Bool) → is_user c ≡ u → is_user d ≡ v → is_user (if p then c else d) ≡ (if p then u else v)
pick true c d u v h k = h
pick false c d u v h k = k

placed : (o : Option ℕ) (f : List ℕ) (args : Trees) → is_user (builtin_or_user o f args) ≡ is_absent o
placed None f args = refl
placed (Some row) f args = refl

plain_user : (f : List ℕ) (args : Trees) → is_user (plain f args) ≡ is_plain f (count args)
unfolding plain
plain_user f args = placed (place_in builtins f (count args)) f args

either_user : (a b : Tree) → is_user (control_of_either a b) ≡ false
either_user (variable n) b = refl
either_user (integer z) b = refl
either_user (atom a) b = refl
either_user (compound f none) b = refl
either_user (compound f (more c none)) b = refl
either_user (compound f (more c (more t none))) b = picked (is_named (codes "->") f)
  where
    picked : (p : Bool) → is_user (if p then IfElse c t b else Either (compound f (more c (more t none))) b) ≡ false
    picked true = refl
    picked false = refl
either_user (compound f (more c (more t (more u us)))) b = refl

none_user : (f : List ℕ) → is_user (control_with_none f) ≡ none_calls f
none_user f =
    pick (is_named (codes "true") f) _ _ _ _ refl
    (pick (is_named (codes "fail") f) _ _ _ _ refl
    (pick (is_named (codes "!") f) _ _ _ _ refl
    (pick (is_named (codes "repeat") f) _ _ _ _ refl
    (pick (is_named (codes "halt") f) _ _ _ _ refl (plain_user f none)))))

access_user : (f : List ℕ) (a : Tree) → is_user (access_with_one f a) ≡ access_calls f
access_user f a =
    pick (is_named (codes "asserta") f) _ _ _ _ refl
    (pick (is_named (codes "assertz") f) _ _ _ _ refl
    (pick (is_named (codes "retract") f) _ _ _ _ refl
    (pick (is_named (codes "retractall") f) _ _ _ _ refl
    (pick (is_named (codes "abolish") f) _ _ _ _ refl (plain_user f (more a none))))))

one_user : (f : List ℕ) (a : Tree) → is_user (control_with_one f a) ≡ one_calls f
one_user f a =
    pick (is_named (codes "call") f) _ _ _ _ refl
    (pick (is_named (codes "once") f) _ _ _ _ refl
    (pick (is_named (codes "\\+") f) _ _ _ _ refl
    (pick (is_named (codes "throw") f) _ _ _ _ refl
    (pick (is_named (codes "halt") f) _ _ _ _ refl (access_user f a)))))

two_user : (f : List ℕ) (a b : Tree) → is_user (control_with_two f a b) ≡ two_calls f
two_user f a b =
    pick (is_named (codes ",") f) _ _ _ _ refl
    (pick (is_named (codes ";") f) _ _ _ _ (either_user a b)
    (pick (is_named (codes "->") f) _ _ _ _ refl
    (pick (is_named (codes "call") f) _ _ _ _ refl
    (pick (is_named (codes "clause") f) _ _ _ _ refl (plain_user f (more a (more b none)))))))

three_user : (f : List ℕ) (a b c : Tree) → is_user (control_with_three f a b c) ≡ three_calls f
three_user f a b c =
    pick (is_named (codes "catch") f) _ _ _ _ refl
    (pick (is_named (codes "findall") f) _ _ _ _ refl
    (pick (is_named (codes "call") f) _ _ _ _ refl (plain_user f (more a (more b (more c none))))))

more_user : (f : List ℕ) (a b c d : Tree) (ts : Trees) → is_user (control_with_more f a (more b (more c (more d ts)))) ≡ more_calls f (count ts)
more_user f a b c d ts = pick (is_named (codes "call") f && nat_lt (count ts + 1 + 1 + 1) 8) _ _ _ _ refl (plain_user f (more a (more b (more c (more d ts)))))

-- ---- each reserved name is that of no call

abbrev are_done : ℕ → List (List ℕ) → Bool
are_done k [] = true
are_done k (n ∷ ns) = if is_call n k then false else are_done k ns

abbrev all_done : List Row → Bool
all_done [] = true
all_done (r ∷ rs) = are_done r.0 r.1 && all_done rs

first : (b c : Bool) → (b && c) ≡ true → b ≡ true
first true c e = refl
first false c e = absurd (cc e)

second : (b c : Bool) → (b && c) ≡ true → c ≡ true
second true c e = e
second false c e = absurd (cc e)

same_as : (i j : Indicator) → same_indicator i j ≡ true → i ≡ j
same_as i j e =
    ap₂ at
    (same_text i.name j.name (sym (first _ _ e))) (eqb-true i.arity j.arity (second _ _ e))

done_name : (i : Indicator) (k : ℕ) (n : List ℕ) (ns : List (List ℕ)) → (are_done k ns ≡ true → list_any (λ m. same_indicator i (named k m)) ns ≡ true → is_call i.name i.arity ≡ false)
    → (b c : Bool) → same_indicator i (named k n) ≡ b → is_call n k ≡ c → (if c then false else are_done k ns) ≡ true → (b || list_any (λ m. same_indicator i (named k m)) ns) ≡ true → is_call i.name i.arity ≡ false
done_name i k n ns later b true e f d h = absurd (cc d)
done_name i k n ns later true false e f d h = ap (λ (j : Indicator). is_call j.name j.arity) (same_as i (named k n) e) ∙ f
done_name i k n ns later false false e f d h = later d h

done_names : (i : Indicator) (k : ℕ) (ns : List (List ℕ)) → are_done k ns ≡ true → list_any (λ n. same_indicator i (named k n)) ns ≡ true → is_call i.name i.arity ≡ false
done_names i k [] d h = absurd (cc h)
done_names i k (n ∷ ns) d h = done_name i k n ns (done_names i k ns) (same_indicator i (named k n)) (is_call n k) refl refl d h

either : (b c : Bool) (A : Type 0) → (b || c) ≡ true → (b ≡ true → A) → (c ≡ true → A) → A
either true c A e f g = f refl
either false c A e f g = g e

done_rows : (i : Indicator) (rs : List Row) → all_done rs ≡ true → is_in rs i ≡ true → is_call i.name i.arity ≡ false
done_rows i [] d h = absurd (cc h)
done_rows i (r ∷ rs) d h =
    either (list_any (λ n. same_indicator i (named r.0 n)) r.1) (is_in rs i) _ h (done_names i r.0 r.1 (first _ _ d)) (done_rows i rs (second (are_done r.0 r.1) _ d))

control_done : all_done control ≡ true
unfolding control
control_done = refl

terms_done : all_done of_terms ≡ true
unfolding of_terms
terms_done = refl

texts_done : all_done of_texts ≡ true
unfolding of_texts
texts_done = refl

numbers_done : all_done of_numbers ≡ true
unfolding of_numbers
numbers_done = refl

clauses_done : all_done of_clauses ≡ true
unfolding of_clauses
clauses_done = refl

reserved_done : (i : Indicator) → is_reserved i ≡ true → is_call i.name i.arity ≡ false
unfolding is_reserved
reserved_done i h =
    either (is_in control i) _ _ h (done_rows i control control_done)
    (λ h. either (is_in of_terms i) _ _ h (done_rows i of_terms terms_done)
    (λ h. either (is_in of_texts i) _ _ h (done_rows i of_texts texts_done)
    (λ h. either (is_in of_numbers i) _ _ h (done_rows i of_numbers numbers_done) (done_rows i of_clauses clauses_done))))

-- ---- each goal

no_user : (c : Control) (i j : Indicator) (b : Bool) → is_user c ≡ b → b ≡ false → Some c ≡ Some (User i) → ⊥
no_user c i j b e h u =
    let same : is_user c ≡ true = ap is_user (inner c (User i) u) in
    cc (same, e, h)
  where
    inner : (c d : Control) → Some c ≡ Some d → c ≡ d
    inner c d e = cc

some-same : (i j : Indicator) → Some i ≡ Some j → i ≡ j
some-same i j e = cc

at_done : (f : List ℕ) (k : ℕ) (i : Indicator) → Some (at f k) ≡ Some i → is_reserved i ≡ true → is_call f k ≡ false
at_done f k i e h = reserved_done (at f k) (ap is_reserved (some-same (at f k) i e) ∙ h)

pub reserved-are-done : (goal : Tree) (i : Indicator) → HasArities goal → indicator_of goal ≡ Some i → is_reserved i ≡ true → control_of goal ≢ Some (User i)
reserved-are-done (variable n) i w e h = λ u. cc u
reserved-are-done (integer z) i w e h = λ u. cc u
reserved-are-done (atom a) i w e h = λ u. no_user _ i i _ (none_user a) (at_done a 0 i e h) u
reserved-are-done (compound f none) i w e h = let one : 1 ≤ 0 = w.0 in absurd (omega arith)
reserved-are-done (compound f (more a none)) i w e h = λ u. no_user _ i i _ (one_user f a) (at_done f 1 i e h) u
reserved-are-done (compound f (more a (more b none))) i w e h = λ u. no_user _ i i _ (two_user f a b) (at_done f 2 i e h) u
reserved-are-done (compound f (more a (more b (more c none)))) i w e h = λ u. no_user _ i i _ (three_user f a b c) (at_done f 3 i e h) u
reserved-are-done (compound f (more a (more b (more c (more d ts))))) i w e h = λ u. no_user _ i i _ (more_user f a b c d ts) (sym (with_more f (count ts)) ∙ at_done f (count ts + 1 + 1 + 1 + 1) i e h) u
