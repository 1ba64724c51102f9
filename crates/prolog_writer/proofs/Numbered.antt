-- Variables that are written by their numbers are numbered by first occurrence.
use Rattle.std.proofs.Common.{◌≡◌, ℕ, suc, ◌+◌, ◌^◌, ◌<◌, List, [], ◌∷◌, ◌++◌, length, Bool, true, false, Option, Some, None, refl, sym, ◌∙◌, ap, ap₂, subst, append_assoc, append-nil, arith}
use Rattle.std.specs.Prelude.{codes, drop, ◌==◌, ◌||◌, cond, if◌then◌else◌}
use Rattle.std.specs.Cmp.Lexicographic.{bytes_decides}
use Rattle.std.specs.Fmt.{decimal}
use Rattle.std.specs.Map.{lookup}
use Rattle.std.proofs.lemmas.Bool.{true≢false, eqb-true, eq-eqb, or_parts}
use Rattle.prolog_lexer.specs.Digits.{value}
use Rattle.prolog_lexer.specs.Escapes.{AreDigits}
use Rattle.prolog_terms.specs.Operators.{same_text}
use Rattle.prolog_terms.specs.Tree.{Tree, Trees, variable, integer, atom, compound, none, more, HasWholes, AllHaveWholes}
use Rattle.prolog_terms.specs.Substitutions.{substituted, all_substituted, contains, variables, variables_after, all_variables_after, place_of, variable_count, numbered as numbered_tree}
use Rattle.prolog_reader.specs.Numberings.{Numbering, no_variables, is_anonymous, or_next, numbered, unless_known, met, shown_of}
use Rattle.prolog_writer.specs.Spelling.{variable_text}
use Rattle.prolog_writer.specs.Told.{told, all_told, as_told, all_as_told}
use Rattle.prolog_writer.proofs.Names.{decimal_writes}

-- ---- the names of variables

abbrev pub IsFew : ℕ → Type 0
IsFew n = n < 0x1_0000_0000_0000_0000

digits_of_next : (n : ℕ) → IsFew n → AreDigits 10 (decimal (n + 1)) × (value 10 (decimal (n + 1)) ≡ n + 1)
digits_of_next n few = let low : n + 1 < 10 ^ 64 = omega arith in decimal_writes (n + 1) low

-- one name, one number
one_number : (m n : ℕ) → IsFew m → IsFew n → variable_text m ≡ variable_text n → m ≡ n
one_number m n a b e =
    let d : decimal (m + 1) ≡ decimal (n + 1) = ap (λ (xs : List ℕ). drop 1 xs) e in
    let v : m + 1 ≡ n + 1 = sym (digits_of_next m a).1 ∙ ap (value 10) d ∙ (digits_of_next n b).1 in
    omega arith

same_name : (m n : ℕ) → IsFew m → IsFew n → same_text (variable_text m) (variable_text n) ≡ (m == n)
same_name m n a b = by (m == n) (same_text (variable_text m) (variable_text n)) refl refl
  where
    by : (p q : Bool) → m == n ≡ p → same_text (variable_text m) (variable_text n) ≡ q → same_text (variable_text m) (variable_text n) ≡ (m == n)
    by true q e k = (bytes_decides (variable_text m) (variable_text n)).1 (ap variable_text (eqb-true m n e)) ∙ sym e
    by false true e k = absurd (true≢false (sym (eq-eqb m n (one_number m n a b ((bytes_decides (variable_text m) (variable_text n)).0 k))) ∙ e))
    by false false e k = k ∙ sym e

longer : (ds : List ℕ) → AreDigits 10 ds → same_text (codes "_" ++ ds) (codes "_") ≡ false
longer [] h = absurd h
longer (d ∷ ds) h = refl

not_anonymous : (n : ℕ) → IsFew n → is_anonymous (variable_text n) ≡ false
not_anonymous n few = longer (decimal (n + 1)) (digits_of_next n few).0

-- ---- the numbering of variables in their order

abbrev pub AreFew : List ℕ → Type 0
AreFew [] = Unit {0}
AreFew (n ∷ ns) = IsFew n × AreFew ns

abbrev pub known_from : ℕ → List ℕ → List (List ℕ × ℕ)
known_from k [] = []
known_from k (n ∷ ns) = (variable_text n, k) ∷ known_from (k + 1) ns

abbrev with_count : List (List ℕ × ℕ) → ℕ → Numbering
with_count known count = record { known = known; count = count }

abbrev pub numbering : List ℕ → Numbering
numbering ns = with_count (known_from 0 ns) (length ns)

found_first : (b c : Bool) (k p : ℕ) (rest : Option ℕ) → rest ≡ (if c then Some (k + 1 + p) else None)
    → cond b (Some k) rest ≡ (if b || c then Some (k + (if b then 0 else suc p)) else None)
found_first true c k p rest e = ap Some (omega arith)
found_first false true k p rest e = e ∙ ap Some (omega arith)
found_first false false k p rest e = e

-- a variable is found by its name at its place
found : (n : ℕ) (ns : List ℕ) (k : ℕ) → IsFew n → AreFew ns → lookup (same_text (variable_text n)) (known_from k ns) ≡ (if contains n ns then Some (k + place_of n ns) else None)
found n [] k few h = refl
found n (x ∷ ns) k few h =
    ap (λ (b : Bool). cond b (Some k) (lookup (same_text (variable_text n)) (known_from (k + 1) ns))) (same_name n x few h.0)
    ∙ found_first (n == x) (contains n ns) k (place_of n ns) (lookup (same_text (variable_text n)) (known_from (k + 1) ns)) (found n ns (k + 1) few h.1)

abbrev listed : List ℕ → ℕ → List (List ℕ × ℕ) → List (List ℕ × ℕ)
listed name k es = (name, k) ∷ es

known-last : (n : ℕ) (ns : List ℕ) (k : ℕ) → known_from k ns ++ (variable_text n, k + length ns) ∷ [] ≡ known_from k (ns ++ n ∷ [])
known-last n [] k = ap (λ (p : ℕ). listed (variable_text n) p []) (omega arith)
known-last n (x ∷ ns) k =
    ap (λ (p : ℕ). listed (variable_text x) k (known_from (k + 1) ns ++ listed (variable_text n) p [])) (omega arith)
    ∙ ap (λ (es : List (List ℕ × ℕ)). (variable_text x, k) ∷ es) (known-last n ns (k + 1))

length-last : (n : ℕ) (ns : List ℕ) → length ns + 1 ≡ length (ns ++ n ∷ [])
length-last n [] = refl
length-last n (x ∷ ns) = omega (arith, length-last n ns)

numbering-last : (n : ℕ) (ns : List ℕ) → with_count (known_from 0 ns ++ (variable_text n, length ns) ∷ []) (length ns + 1) ≡ numbering (ns ++ n ∷ [])
numbering-last n ns =
    let at : 0 + length ns ≡ length ns = omega arith in
    let e : known_from 0 ns ++ (variable_text n, length ns) ∷ [] ≡ known_from 0 (ns ++ n ∷ []) =
    subst (λ (p : ℕ). known_from 0 ns ++ (variable_text n, p) ∷ [] ≡ known_from 0 (ns ++ n ∷ [])) at (known-last n ns 0) in
    ap₂ with_count e (length-last n ns)

-- ---- places stay as the list goes on

pub record Begins (seen all : List ℕ) : Type 0 where
  pub rest : List ℕ
  pub is : all ≡ seen ++ rest

begins_itself : (seen : List ℕ) → Begins seen seen
begins_itself seen = record { rest = []; is = sym (append-nil seen) }

begins_later : (a b c : List ℕ) → Begins a b → Begins b c → Begins a c
begins_later a b c h k = record { rest = h.rest ++ k.rest; is = k.is ∙ (ap (λ (l : List ℕ). l ++ k.rest) h.is ∙ append_assoc a h.rest k.rest) }

begins_with_variable : (seen : List ℕ) (n : ℕ) (b : Bool) → Begins seen (if b then seen else seen ++ n ∷ [])
begins_with_variable seen n true = begins_itself seen
begins_with_variable seen n false = record { rest = n ∷ []; is = refl }

mutual
  begins_after : (seen : List ℕ) (t : Tree) → Begins seen (variables_after seen t)
  begins_after seen (variable n) = begins_with_variable seen n (contains n seen)
  begins_after seen (integer z) = begins_itself seen
  begins_after seen (atom a) = begins_itself seen
  begins_after seen (compound f ts) = begins_after_all seen ts

  begins_after_all : (seen : List ℕ) (ts : Trees) → Begins seen (all_variables_after seen ts)
  begins_after_all seen none = begins_itself seen
  begins_after_all seen (more t ts) =
      begins_later seen (variables_after seen t) (all_variables_after seen (more t ts)) (begins_after seen t) (begins_after_all (variables_after seen t) ts)

place_front : (v : ℕ) (ns rest : List ℕ) → contains v ns ≡ true → place_of v (ns ++ rest) ≡ place_of v ns
place_front v [] rest e = absurd (true≢false (sym e))
place_front v (n ∷ ns) rest e = by (v == n) e (place_front v ns rest)
  where
    by : (b : Bool) → (b || contains v ns) ≡ true → (contains v ns ≡ true → place_of v (ns ++ rest) ≡ place_of v ns)
        → (if b then 0 else suc (place_of v (ns ++ rest))) ≡ (if b then 0 else suc (place_of v ns))
    by true h later = refl
    by false h later = ap (λ (k : ℕ). suc k) (later h)

place_new : (v : ℕ) (ns rest : List ℕ) → contains v ns ≡ false → place_of v (ns ++ v ∷ rest) ≡ length ns
place_new v [] rest e = rw (eq-eqb v v refl) refl
place_new v (n ∷ ns) rest e =
    let p = or_parts (v == n) (contains v ns) e in
    rw p.0 (ap (λ (k : ℕ). suc k) (place_new v ns rest p.1) ∙ omega arith)

place_absent : (v : ℕ) (ns : List ℕ) → contains v ns ≡ false → place_of v ns ≡ length ns
place_absent v [] e = refl
place_absent v (n ∷ ns) e =
    let p = or_parts (v == n) (contains v ns) e in
    rw p.0 (ap (λ (k : ℕ). suc k) (place_absent v ns p.1) ∙ omega arith)

place_chosen : (v : ℕ) (seen rest : List ℕ) (b : Bool) → contains v seen ≡ b → place_of v ((if b then seen else seen ++ v ∷ []) ++ rest) ≡ place_of v seen
place_chosen v seen rest true e = place_front v seen rest e
place_chosen v seen rest false e = ap (place_of v) (append_assoc seen (v ∷ []) rest) ∙ (place_new v seen rest e ∙ sym (place_absent v seen e))

place_kept : (v : ℕ) (seen all : List ℕ) → Begins (variables_after seen (variable v)) all → place_of v all ≡ place_of v seen
place_kept v seen all h = ap (place_of v) h.is ∙ place_chosen v seen h.rest (contains v seen) refl

-- ---- one variable

numbered_by : (n : ℕ) (ns : List ℕ) (b : Bool) → contains n ns ≡ b → or_next (if b then Some (0 + place_of n ns) else None) (numbering ns) ≡ place_of n ns
numbered_by n ns true e = omega arith
numbered_by n ns false e = sym (place_absent n ns e)

number_is : (n : ℕ) (ns : List ℕ) → IsFew n → AreFew ns → numbered (variable_text n) (numbering ns) ≡ place_of n ns
number_is n ns few h =
    ap (λ (b : Bool). if b then length ns else or_next (lookup (same_text (variable_text n)) (known_from 0 ns)) (numbering ns)) (not_anonymous n few)
    ∙ ap (λ (o : Option ℕ). or_next o (numbering ns)) (found n ns 0 few h)
    ∙ numbered_by n ns (contains n ns) refl

met_by : (n : ℕ) (ns : List ℕ) (b : Bool) → unless_known (if b then Some (0 + place_of n ns) else None) (variable_text n) (numbering ns) ≡ numbering (if b then ns else ns ++ n ∷ [])
met_by n ns true = refl
met_by n ns false = numbering-last n ns

met_is : (n : ℕ) (ns : List ℕ) → IsFew n → AreFew ns → met (variable_text n) (numbering ns) ≡ numbering (variables_after ns (variable n))
met_is n ns few h =
    ap (λ (b : Bool). if b then with_count (known_from 0 ns) (length ns + 1) else unless_known (lookup (same_text (variable_text n)) (known_from 0 ns)) (variable_text n) (numbering ns)) (not_anonymous n few)
    ∙ ap (λ (o : Option ℕ). unless_known o (variable_text n) (numbering ns)) (found n ns 0 few h)
    ∙ met_by n ns (contains n ns)

-- ---- terms

few-last : (ns : List ℕ) (n : ℕ) → AreFew ns → IsFew n → AreFew (ns ++ n ∷ [])
few-last [] n h few = (few, tt)
few-last (x ∷ ns) n h few = (h.0, few-last ns n h.1 few)

few_by : (ns : List ℕ) (n : ℕ) (b : Bool) → AreFew ns → IsFew n → AreFew (if b then ns else ns ++ n ∷ [])
few_by ns n true h few = h
few_by ns n false h few = few-last ns n h few

mutual
  few_after : (ns : List ℕ) (t : Tree) → AreFew ns → HasWholes t → AreFew (variables_after ns t)
  few_after ns (variable n) h w = few_by ns n (contains n ns) h w
  few_after ns (integer z) h w = h
  few_after ns (atom a) h w = h
  few_after ns (compound f ts) h w = few_after_all ns ts h w

  few_after_all : (ns : List ℕ) (ts : Trees) → AreFew ns → AllHaveWholes ts → AreFew (all_variables_after ns ts)
  few_after_all ns none h w = h
  few_after_all ns (more t ts) h w = few_after_all (variables_after ns t) ts (few_after ns t h w.0) w.1

-- the variables met after a term are those of the list and of the term
mutual
  pub told_is : (ns : List ℕ) (t : Tree) → AreFew ns → HasWholes t → told t (numbering ns) ≡ numbering (variables_after ns t)
  told_is ns (variable n) h w = met_is n ns w h
  told_is ns (integer z) h w = refl
  told_is ns (atom a) h w = refl
  told_is ns (compound f ts) h w = all_told_is ns ts h w

  pub all_told_is : (ns : List ℕ) (ts : Trees) → AreFew ns → AllHaveWholes ts → all_told ts (numbering ns) ≡ numbering (all_variables_after ns ts)
  all_told_is ns none h w = refl
  all_told_is ns (more t ts) h w = ap (λ (vs : Numbering). all_told ts vs) (told_is ns t h w.0) ∙ all_told_is (variables_after ns t) ts (few_after ns t h w.0) w.1

abbrev place_in : List ℕ → ℕ → Tree
place_in all v = variable (place_of v all)

-- the term has the places of its variables in a list that goes on from them
mutual
  pub as_told_is : (ns all : List ℕ) (t : Tree) → AreFew ns → HasWholes t → Begins (variables_after ns t) all → as_told t (numbering ns) ≡ substituted (place_in all) t
  as_told_is ns all (variable n) h w b = ap (λ (k : ℕ). variable k) (number_is n ns w h ∙ sym (place_kept n ns all b))
  as_told_is ns all (integer z) h w b = refl
  as_told_is ns all (atom a) h w b = refl
  as_told_is ns all (compound f ts) h w b = ap (λ (us : Trees). compound f us) (all_as_told_is ns all ts h w b)

  pub all_as_told_is : (ns all : List ℕ) (ts : Trees) → AreFew ns → AllHaveWholes ts → Begins (all_variables_after ns ts) all
      → all_as_told ts (numbering ns) ≡ all_substituted (place_in all) ts
  all_as_told_is ns all none h w b = refl
  all_as_told_is ns all (more t ts) h w b =
      let now = begins_later (variables_after ns t) (all_variables_after ns (more t ts)) all (begins_after_all (variables_after ns t) ts) b in
      ap₂ (λ (u : Tree) (us : Trees). more u us) (as_told_is ns all t h w.0 now)
      (ap (λ (vs : Numbering). all_as_told ts vs) (told_is ns t h w.0) ∙ all_as_told_is (variables_after ns t) all ts (few_after ns t h w.0) w.1 b)

-- ---- the laws

pub term_numbered : (t : Tree) → HasWholes t → as_told t no_variables ≡ numbered_tree t
term_numbered t w = as_told_is [] (variables t) t tt w (begins_itself (variables t))

pub count_is : (t : Tree) → HasWholes t → (told t no_variables).count ≡ variable_count t
count_is t w = ap (λ (vs : Numbering). vs.count) (told_is [] t tt w)

none_shown : (ns : List ℕ) (k : ℕ) → shown_of (known_from k ns) ≡ []
none_shown [] k = refl
none_shown (n ∷ ns) k = none_shown ns (k + 1)

pub shown_is : (t : Tree) → HasWholes t → shown_of (told t no_variables).known ≡ []
shown_is t w = ap (λ (vs : Numbering). shown_of vs.known) (told_is [] t tt w) ∙ none_shown (variables t) 0
