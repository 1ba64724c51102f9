-- What the load's base holds after procedures were declared dynamic.
use Rattle.std.proofs.Common.{◌≡◌, ℕ, ◌+◌, ◌<◌, ◌≤◌, List, [], ◌∷◌, ◌++◌, length, take, drop, get_or, Bool, true, false, Option, Some, None, slice_get, refl, sym, ◌∙◌, ap, subst}
use Rattle.std.specs.Prelude.{OnOk, Ok, Err}
use Rattle.std.specs.declared.result.Result.{Result}
use Rattle.std.proofs.Math.Seq.{take-append_seam}
use Rattle.std.proofs.Math.ListN.{drop_of_length-le}
use Rattle.std.proofs.lemmas.List.{drop_more}
use Rattle.prolog_terms.specs.declared.entry.Entry.{Entry}
use Rattle.prolog_terms.specs.declared.entry.Indicator.{Indicator}
use Rattle.prolog_terms.specs.declared.entry.Kind.{Kind}
use Rattle.prolog_terms.specs.declared.entry.Kind.TheVariants.{Dynamic}
use Rattle.prolog_terms.specs.declared.entry.What.{What}
use Rattle.prolog_terms.specs.declared.entry.What.TheVariants.{Declare}
use Rattle.journals.specs.Journal.{Journal, number_of, procedure_named}
use Rattle.journal_base.specs.Legal.{Legal, MayFollow}
use Rattle.journal_base.specs.View.{Looks, InSeen}
use Rattle.journal_base.specs.Updates.{IsDeclared}
use Rattle.journal_base.specs.Plain.{Plain, plain_view, plain_out, IsContinued}
use Rattle.journal_base.specs.declared.sizes.Sizes.{Sizes}
use Rattle.journal_base.specs.declared.answers.Declared.TheVariants as declared
use Rattle.wam_machine.specs.declared.run.Run.{Run}
use Rattle.wam_machine.specs.Procedures.{no_change}
use Rattle.wam_machine.specs.Reserved.{is_reserved}
use Rattle.prolog_session.specs.Load.{by_load, has_room, Placed, with_dynamic, with_dynamics, first_fixed, is_fixed, is_static, dynamic, raised, run_unless, after_declaration, after_declaration_of}
use Rattle.prolog_session.specs.Bases.{sizes_of, loaded_in, Holds, HasDynamics}
use Rattle.prolog_session.proofs.Plains.{in_seen, same_after, more_after}
use Rattle.prolog_session.proofs.Placing.{full}
use Rattle.prolog_session.proofs.Facts.{room, number-unnamed, dynamic-before, dynamic-now, dynamics-full, dynamics-step, fixed-or, fixed-first}

-- ---- what is placed, and what the base holds

placed_holds : (b t : Plain) (p : Placed) (fits : Bool) → t ≡ record b { entries = t.entries } → p ≡ record { journal = t.entries; fits = fits } → Holds b t p fits
placed_holds b t p fits base is = record {
  base = base ∙ ap (λ (x : Placed). record b { entries = x.journal }) (sym is);
  room = ap (λ (x : Placed). x.fits) (sym is);
}

holds_placed : (b t : Plain) (p : Placed) (fits : Bool) → Holds b t p fits → p ≡ record { journal = t.entries; fits = fits }
holds_placed b t p fits h =
    ap (λ (J : Journal). record p { journal = J }) (sym (ap (λ (s : Plain). s.entries) h.base))
    ∙ ap (λ (f : Bool). record { journal = t.entries; fits = f }) (sym h.room)

pub same_but : (b t : Plain) (J : Journal) → t ≡ record b { entries = J } → t ≡ record b { entries = t.entries }
same_but b t J e = e ∙ ap (λ (l : Journal). record b { entries = l }) (sym (ap (λ (s : Plain). s.entries) e))

-- ---- one procedure

last_of : (J : Journal) (e : Entry) → slice_get (J ++ e ∷ []) (length J) ≡ Some e
last_of [] e = refl
last_of (x ∷ J) e = last_of J e

-- what a legal journal declares last was not declared before
absent-before : (words updates : ℕ) (J : Journal) (i : Indicator) (k : Kind) → Legal words updates (J ++ by_load (Declare i k) ∷ []) → number_of J i ≡ None
absent-before words updates J i k l =
    let e : Entry = by_load (Declare i k) in
    let may : MayFollow (take (length J) (J ++ e ∷ [])) 0 (Declare i k) = l.follows (length J) e (last_of J e) in
    subst (λ (K : Journal). number_of K i ≡ None) (take-append_seam J (e ∷ [])) may.0

-- it is declared now
pub dynamic_done : (m t : Plain) (i : Indicator) (p : ℕ) → m.number ≡ 0 → IsContinued m t → plain_out t.out ≡ plain_out m.out
    → IsDeclared (plain_view m) (plain_view t) i Dynamic (declared.Done p) → Holds m t (with_dynamic (sizes_of m) m.entries i) true
dynamic_done m t i p zero c o d =
    let what : What = Declare i Dynamic in
    let J' : Journal = m.entries ++ by_load what ∷ [] in
    let now : t ≡ record m { entries = J' } =
    more_after m t what c d.0 o ∙ ap (λ (n : ℕ). record m { entries = m.entries ++ record { by = n; what = what } ∷ [] }) zero in
    let legal : Legal m.words m.updates J' = subst (λ (b : Plain). Legal b.words b.updates b.entries) now (d.0.grows.sound.each t.entries refl).legal in
    let absent : procedure_named m.entries i ≡ None = number-unnamed m.entries i (absent-before m.words m.updates m.entries i Dynamic legal) in
    let w = dynamic-now (sizes_of m) m.entries i true absent (room (sizes_of m) m.entries what legal) in
    record {
      base = now ∙ ap (λ (x : Placed). record m { entries = x.journal }) (sym w);
      room = ap (λ (x : Placed). x.fits) (sym w);
    }

-- it is declared already
pub dynamic_already : (m t : Plain) (i : Indicator) (p : ℕ) (k : Kind) → IsContinued m t → plain_out t.out ≡ plain_out m.out
    → IsDeclared (plain_view m) (plain_view t) i Dynamic (declared.Already p k) → Holds m t (with_dynamic (sizes_of m) m.entries i) true
dynamic_already m t i p k c o d =
    let same : t ≡ m = same_after m t c d.0 o in
    let there : procedure_named t.entries i ≡ Some (p, k) = in_seen t (λ J. procedure_named J i ≡ Some (p, k)) d.1 in
    let w = dynamic-before (sizes_of m) m.entries i (p, k) (subst (λ (b : Plain). procedure_named b.entries i ≡ Some (p, k)) same there) in
    record {
      base = same ∙ ap (λ (x : Placed). record m { entries = x.journal }) (sym w);
      room = ap (λ (x : Placed). x.fits) (sym w);
    }

-- its declaration has no room
pub dynamic_full : (m t : Plain) (i : Indicator) (u n g : ℕ) → IsContinued m t → plain_out t.out ≡ plain_out m.out
    → IsDeclared (plain_view m) (plain_view t) i Dynamic (declared.Full u n g) → Holds m t (with_dynamic (sizes_of m) m.entries i) false
dynamic_full m t i u n g c o d =
    let same : t ≡ m = same_after m t c d.0 o in
    let absent : procedure_named m.entries i ≡ None = subst (λ (b : Plain). procedure_named b.entries i ≡ None) same (in_seen t (λ J. procedure_named J i ≡ None) d.1) in
    let none : has_room (sizes_of m) m.entries (Declare i Dynamic) ≡ false =
    subst (λ (b : Plain). has_room (sizes_of b) b.entries (Declare i Dynamic) ≡ false) same (full t (Declare i Dynamic) u n g d.2) in
    let w = dynamic-now (sizes_of m) m.entries i false absent none in
    record {
      base = same ∙ ap (λ (x : Placed). record m { entries = x.journal }) (sym w);
      room = ap (λ (x : Placed). x.fits) (sym w);
    }

-- ---- one after the other

-- what was declared so far, and these that are still to be declared, come to what all do
pub record IsDeclaring (b m : Plain) (is rest : List Indicator) : Type 0 where
  pub base : m ≡ record b { entries = m.entries }
  pub ahead : with_dynamics (sizes_of b) (record { journal = b.entries; fits = true }) is ≡ with_dynamics (sizes_of b) (record { journal = m.entries; fits = true }) rest

-- what the first of them comes to
first_declared : (b m t : Plain) (is rest : List Indicator) (i : Indicator) (fits : Bool) → IsDeclaring b m is (i ∷ rest) → Holds m t (with_dynamic (sizes_of m) m.entries i) fits
    → with_dynamics (sizes_of b) (record { journal = b.entries; fits = true }) is ≡ with_dynamics (sizes_of b) (record { journal = t.entries; fits = fits }) rest
first_declared b m t is rest i fits h d =
    let one : with_dynamic (sizes_of b) m.entries i ≡ record { journal = t.entries; fits = fits } =
    subst (λ (z : Sizes). with_dynamic z m.entries i ≡ record { journal = t.entries; fits = fits }) (ap sizes_of h.base) (holds_placed m t (with_dynamic (sizes_of m) m.entries i) fits d) in
    h.ahead ∙ dynamics-step (sizes_of b) m.entries i rest (record { journal = t.entries; fits = fits }) one

base_after : (b m t : Plain) (p : Placed) (fits : Bool) → m ≡ record b { entries = m.entries } → Holds m t p fits → t ≡ record b { entries = t.entries }
base_after b m t p fits h d = same_but b t p.journal (d.base ∙ ap (λ (s : Plain). record s { entries = p.journal }) h)

pub declaring_goes : (b m t : Plain) (is : List Indicator) (n : ℕ) (i : Indicator) → IsDeclaring b m is (drop n is) → n < length is → i ≡ get_or is n i
    → Holds m t (with_dynamic (sizes_of m) m.entries i) true → IsDeclaring b t is (drop (n + 1) is)
declaring_goes b m t is n i h low item d =
    let front : drop n is ≡ i ∷ drop (n + 1) is = drop_more is n i low ∙ ap (λ (x : Indicator). x ∷ drop (n + 1) is) (sym item) in
    record {
      base = base_after b m t (with_dynamic (sizes_of m) m.entries i) true h.base d;
      ahead = first_declared b m t is (drop (n + 1) is) i true (subst (IsDeclaring b m is) front h) d;
    }

pub declaring_full : (b m t : Plain) (is : List Indicator) (n : ℕ) (i : Indicator) → IsDeclaring b m is (drop n is) → n < length is → i ≡ get_or is n i
    → Holds m t (with_dynamic (sizes_of m) m.entries i) false → HasDynamics b t is false
declaring_full b m t is n i h low item d =
    let front : drop n is ≡ i ∷ drop (n + 1) is = drop_more is n i low ∙ ap (λ (x : Indicator). x ∷ drop (n + 1) is) (sym item) in
    let ahead = first_declared b m t is (drop (n + 1) is) i false (subst (IsDeclaring b m is) front h) d in
    placed_holds b t (with_dynamics (sizes_of b) (record { journal = b.entries; fits = true }) is) false (base_after b m t (with_dynamic (sizes_of m) m.entries i) false h.base d)
    (ahead ∙ dynamics-full (sizes_of b) t.entries (drop (n + 1) is))

pub declaring_end : (b m : Plain) (is : List Indicator) (n : ℕ) → IsDeclaring b m is (drop n is) → length is ≤ n → HasDynamics b m is true
declaring_end b m is n h long =
    placed_holds b m (with_dynamics (sizes_of b) (record { journal = b.entries; fits = true }) is) true h.base
    (h.ahead ∙ ap (with_dynamics (sizes_of b) (record { journal = m.entries; fits = true })) (drop_of_length-le is long))

-- it serves the same engine
pub declaring_number : (b m : Plain) (is rest : List Indicator) → IsDeclaring b m is rest → b.number ≡ 0 → m.number ≡ 0
declaring_number b m is rest h zero = ap (λ (s : Plain). s.number) h.base ∙ zero

pub declaring_first : (b : Plain) (is : List Indicator) → IsDeclaring b b is (drop 0 is)
declaring_first b is = record { base = refl; ahead = refl }

-- ---- the first that may not be

-- what is found of a procedure that is not reserved tells whether it may not be dynamic
pub fixed_told : (s t : Plain) (i : Indicator) (o : Option (ℕ × Kind)) → IsContinued s t → Looks (plain_view s) (plain_view t) → plain_out t.out ≡ plain_out s.out
    → InSeen (plain_view t) (λ J. o ≡ procedure_named J i) → is_reserved i ≡ false → is_static o ≡ is_fixed s.entries i
fixed_told s t i o c l out found reserved =
    let told : o ≡ procedure_named s.entries i = subst (λ (b : Plain). o ≡ procedure_named b.entries i) (same_after s t c l out) (in_seen t (λ J. o ≡ procedure_named J i) found) in
    ap is_static told ∙ sym (fixed-or s.entries i (is_static (procedure_named s.entries i)) reserved refl)

abbrev pub IsAhead : Journal → List Indicator → ℕ → Type 0
IsAhead J is n = first_fixed J is ≡ first_fixed J (drop n is)

pub fixed_goes : (J : Journal) (is : List Indicator) (n : ℕ) (i : Indicator) → IsAhead J is n → n < length is → i ≡ get_or is n i → is_fixed J i ≡ false → IsAhead J is (n + 1)
fixed_goes J is n i h low item free =
    let front : drop n is ≡ i ∷ drop (n + 1) is = drop_more is n i low ∙ ap (λ (x : Indicator). x ∷ drop (n + 1) is) (sym item) in
    h ∙ ap (first_fixed J) front ∙ fixed-first J i (drop (n + 1) is) false free

pub fixed_found : (J : Journal) (is : List Indicator) (n : ℕ) (i : Indicator) → IsAhead J is n → n < length is → i ≡ get_or is n i → is_fixed J i ≡ true → first_fixed J is ≡ Some i
fixed_found J is n i h low item fixed =
    let front : drop n is ≡ i ∷ drop (n + 1) is = drop_more is n i low ∙ ap (λ (x : Indicator). x ∷ drop (n + 1) is) (sym item) in
    h ∙ ap (first_fixed J) front ∙ fixed-first J i (drop (n + 1) is) true fixed

pub fixed_end : (J : Journal) (is : List Indicator) (n : ℕ) → IsAhead J is n → length is ≤ n → first_fixed J is ≡ None
fixed_end J is n h long = h ∙ ap (first_fixed J) (drop_of_length-le is long)

-- ---- a directive

-- one of them may not be dynamic
pub nothing_declared : (b t : Plain) (line : ℕ) (is : List Indicator) (i : Indicator) (runs more : List Run) (run : Run) → t ≡ b → first_fixed b.entries is ≡ Some i
    → run ≡ raised line (no_change i) dynamic → more ≡ runs ++ run ∷ [] → loaded_in t more ≡ after_declaration (sizes_of b) line is (loaded_in b runs)
nothing_declared b t line is i runs more run same first made adds =
    ap (λ (s : Plain). loaded_in s more) same
    ∙ ap (λ (l : List Run). loaded_in b l) (adds ∙ ap (λ (r : Run). runs ++ r ∷ []) made)
    ∙ ap (after_declaration_of (sizes_of b) line is (loaded_in b runs)) (sym first)

-- all are declared, or one had no room
pub all_declared : (b m t : Plain) (line : ℕ) (is : List Indicator) (runs more : List Run) (fits : Bool) (at : Indicator) → m ≡ b → first_fixed b.entries is ≡ None
    → HasDynamics m t is fits → at ≡ dynamic → more ≡ runs ++ run_unless fits line at → loaded_in t more ≡ after_declaration (sizes_of b) line is (loaded_in b runs)
all_declared b m t line is runs more fits at same first has call adds =
    let over : HasDynamics b t is fits = subst (λ (s : Plain). HasDynamics s t is fits) same has in
    let p : Placed = with_dynamics (sizes_of b) (record { journal = b.entries; fits = true }) is in
    let is_placed : p ≡ record { journal = t.entries; fits = fits } = holds_placed b t p fits over in
    ap (λ (l : List Run). loaded_in t l) (adds ∙ ap (λ (j : Indicator). runs ++ run_unless fits line j) call)
    ∙ ap (λ (x : Placed). record { journal = x.journal; runs = runs ++ run_unless x.fits line dynamic }) (sym is_placed)
    ∙ ap (after_declaration_of (sizes_of b) line is (loaded_in b runs)) (sym first)

pub declared_base : (b m t : Plain) (is : List Indicator) (fits : Bool) → m ≡ b → HasDynamics m t is fits → t ≡ record b { entries = t.entries }
declared_base b m t is fits same has =
    let over : HasDynamics b t is fits = subst (λ (s : Plain). HasDynamics s t is fits) same has in
    same_but b t (with_dynamics (sizes_of b) (record { journal = b.entries; fits = true }) is).journal over.base

-- ---- an answer that may be want of memory

pub ok_always : {T E : Type 0} (r : Result T E) (P : Type 0) → P → OnOk r P
ok_always (Ok x) P h = h
ok_always (Err e) P h = tt

pub ok_both : {T E : Type 0} (r : Result T E) (P Q S : Type 0) → OnOk r P → OnOk r Q → (P → Q → S) → OnOk r S
ok_both (Ok x) P Q S h k f = f h k
ok_both (Err e) P Q S h k f = tt
