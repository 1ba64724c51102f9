-- What a goal is, by its name and its arguments.
use Rattle.std.proofs.Common.{◌≡◌, ℕ, ◌-◌, ◌<◌, ◌≤◌, List, [], ◌∷◌, length, drop, get_or, All, refl, sym, ap, ◌∙◌, arith, subst, Bool, true, false, suc, Option, Some, None, codes, Vec, Global, slice_get}
use Rattle.std.specs.Prelude.{IsTrue, if◌then◌else◌, ◌&&◌, nat_lt, nat_eq}
use Rattle.std.specs.Cmp.Lexicographic.{pointwise, same_text}
use Rattle.std.proofs.lemmas.Cmp.{nat_list_eq_equiv}
use Rattle.std.proofs.lemmas.Bool.Decides.{nat_tests}
use Rattle.std.proofs.lemmas.List.Elements.{All-nil, All-cons, All-head, All-tail}
use Rattle.prolog_terms.specs.Tree.{Tree, atom, compound, none, more, count}
use Rattle.prolog_terms.specs.Clauses.{is_named, is_body}
use Rattle.prolog_terms.specs.Faults.{two}
use Rattle.prolog_terms.specs.declared.entry.End.TheVariants.{Front, Back}
use Rattle.term_store.specs.declared.cell.Cell.{Cell}
use Rattle.term_store.specs.declared.cell.View.{View}
use Rattle.term_store.specs.declared.cell.View.TheVariants as view
use Rattle.term_store.specs.Terms.{text, trees_of, HasTerm}
use Rattle.term_store.specs.Views.{tree_of}
use Rattle.wam_machine.specs.Terms.{IsBuilt, IsGoal, built}
use Rattle.wam_machine.specs.Goals.{IsFound, IsFoundNow, IsControl, IsPlain, IsAsked, AreAmong, AreGoals, control_in}
use Rattle.wam_machine.specs.Control as spec
use Rattle.term_builtins.specs.Table.{Row, builtins, place_in, place_when, is_row}
use Rattle.wam_machine.specs.Control.{control_of, control_of_either, access_with_one, plain, builtin_or_user}
use Rattle.wam_machine.specs.declared.control.Access.TheVariants.{Assert, Inspect, Retract, RetractAll, Abolish}
use Rattle.wam_machine.specs.declared.control.Control.{Control}
use Rattle.wam_machine.specs.declared.control.Control.TheVariants.{True, Fail, Cut, Repeat, Both, Either, IfElse, If, Not, Call, Once, Catch, Findall, Throw, Halt, HaltWith, Database, Builtin, User}
use Rattle.wam_machine.specs.declared.terms.Terms.{Terms}
use Rattle.wam_machine.proofs.SeenCells.{count_trees, text_read}
use Rattle.wam_machine.proofs.SpineParts.{two-cells, two-trees}
use Rattle.wam_machine.proofs.WellMade.{HasParts, parts}

-- ---- names that were compared

pub tested : (a x name : List ℕ) (b c : Bool) → b ≡ pointwise nat_eq a x → x ≡ name → b ≡ c → is_named name a ≡ c
tested a x name b c e is d = nat_list_eq_equiv.symm name a ∙ sym (ap (pointwise nat_eq a) is) ∙ sym e ∙ d

pub told : (a x name : List ℕ) (b : Bool) → b ≡ pointwise nat_eq a x → x ≡ name → b ≡ true → a ≡ name
told a x name b e is d = same_text a x (sym d ∙ e) ∙ is

pub tested-text : (texts : List (List ℕ)) (n : ℕ) (a x text_is : List ℕ) (b c : Bool) → slice_get texts n ≡ Some a → b ≡ pointwise nat_eq a x → x ≡ text_is → b ≡ c → is_named text_is (text texts n) ≡ c
tested-text texts n a x text_is b c s e is d = ap (is_named text_is) (text_read texts n a s) ∙ tested a x text_is b c e is d

-- ---- atoms

sixth : (c1 c2 c3 c4 c5 c6 : spec.Control) (p q r s t : Bool) → p ≡ false → q ≡ false → r ≡ false → s ≡ false → t ≡ false
    → (if p then c1 else if q then c2 else if r then c3 else if s then c4 else if t then c5 else c6) ≡ c6
sixth c1 c2 c3 c4 c5 c6 p q r s t a b c d e = rw (a, b, c, d, e) refl

pub atom-plain : (a : List ℕ) → is_named (codes "true") a ≡ false → is_named (codes "fail") a ≡ false → is_named (codes "!") a ≡ false → is_named (codes "repeat") a ≡ false
    → is_named (codes "halt") a ≡ false → (c : Control) → IsPlain a [] c → IsFound [] (λ tree. atom a) c
atom-plain a p q r s h c f = record {
  is = λ tree.
      ap (λ (d : spec.Control). Some d)
      (sixth spec.True spec.Fail spec.Cut spec.Repeat spec.Halt (plain a none) (is_named (codes "true") a) (is_named (codes "fail") a) (is_named (codes "!") a) (is_named (codes "repeat") a)
      (is_named (codes "halt") a) p q r s h ∙ f.is tree);
  among = λ n sh k. f.among n sh k;
}

-- ---- one argument

pub one-asked : (f : List ℕ) (only : Cell) → is_named (codes "call") f ≡ false → is_named (codes "once") f ≡ false → is_named (codes "\\+") f ≡ false → is_named (codes "throw") f ≡ false
    → is_named (codes "halt") f ≡ false → (c : Control) → IsAsked f only c → IsFound (only ∷ []) (λ tree. compound f (more (tree only) none)) c
one-asked f only p q r s h c g = record {
  is = λ tree.
      ap (λ (d : spec.Control). Some d)
      (sixth (spec.Call (tree only) none) (spec.Once (tree only)) (spec.Not (tree only)) (spec.Throw (tree only)) (spec.HaltWith (tree only)) (access_with_one f (tree only))
      (is_named (codes "call") f) (is_named (codes "once") f) (is_named (codes "\\+") f) (is_named (codes "throw") f) (is_named (codes "halt") f) p q r s h
      ∙ g.is tree);
  among = λ n sh k. g.among n sh k;
}

pub throw-found : (f : List ℕ) (only : Cell) → f ≡ codes "throw" → IsFound (only ∷ []) (λ tree. compound f (more (tree only) none)) (Throw only)
throw-found f only e =
    subst (λ (n : List ℕ). IsFound (only ∷ []) (λ tree. compound n (more (tree only) none)) (Throw only)) (sym e) (record { is = λ tree. refl; among = λ n s k. All-head (HasTerm n s) only [] k })

-- what is asked of the database by one argument
pub access-plain : (f : List ℕ) (only : Cell) → is_named (codes "asserta") f ≡ false → is_named (codes "assertz") f ≡ false → is_named (codes "retract") f ≡ false
    → is_named (codes "retractall") f ≡ false → is_named (codes "abolish") f ≡ false → (c : Control) → IsPlain f (only ∷ []) c → IsAsked f only c
access-plain f only p q r s h c g = record {
  is = λ tree.
      sixth (spec.Database (spec.Assert Front (tree only))) (spec.Database (spec.Assert Back (tree only))) (spec.Database (spec.Retract (tree only))) (spec.Database (spec.RetractAll (tree only)))
      (spec.Database (spec.Abolish (tree only))) (plain f (more (tree only) none))
      (is_named (codes "asserta") f) (is_named (codes "assertz") f) (is_named (codes "retract") f) (is_named (codes "retractall") f) (is_named (codes "abolish") f) p q r s h
      ∙ g.is tree;
  among = λ n sh k. g.among n sh k;
}

pub front-asked : (f : List ℕ) (only : Cell) → f ≡ codes "asserta" → IsAsked f only (Database (Assert Front only))
front-asked f only e =
    subst (λ (n : List ℕ). IsAsked n only (Database (Assert Front only))) (sym e) (record { is = λ tree. refl; among = λ n s k. All-head (HasTerm n s) only [] k })

pub back-asked : (f : List ℕ) (only : Cell) → f ≡ codes "assertz" → IsAsked f only (Database (Assert Back only))
back-asked f only e =
    subst (λ (n : List ℕ). IsAsked n only (Database (Assert Back only))) (sym e) (record { is = λ tree. refl; among = λ n s k. All-head (HasTerm n s) only [] k })

pub retract-asked : (f : List ℕ) (only : Cell) → f ≡ codes "retract" → IsAsked f only (Database (Retract only))
retract-asked f only e =
    subst (λ (n : List ℕ). IsAsked n only (Database (Retract only))) (sym e) (record { is = λ tree. refl; among = λ n s k. All-head (HasTerm n s) only [] k })

pub retract_all-asked : (f : List ℕ) (only : Cell) → f ≡ codes "retractall" → IsAsked f only (Database (RetractAll only))
retract_all-asked f only e =
    subst (λ (n : List ℕ). IsAsked n only (Database (RetractAll only))) (sym e) (record { is = λ tree. refl; among = λ n s k. All-head (HasTerm n s) only [] k })

pub abolish-asked : (f : List ℕ) (only : Cell) → f ≡ codes "abolish" → IsAsked f only (Database (Abolish only))
abolish-asked f only e =
    subst (λ (n : List ℕ). IsAsked n only (Database (Abolish only))) (sym e) (record { is = λ tree. refl; among = λ n s k. All-head (HasTerm n s) only [] k })

-- ---- two and three arguments

pub two-plain : (f : List ℕ) (left right : Cell) → is_named (codes ",") f ≡ false → is_named (codes ";") f ≡ false → is_named (codes "->") f ≡ false → is_named (codes "call") f ≡ false
    → is_named (codes "clause") f ≡ false → (c : Control) → IsPlain f (left ∷ right ∷ []) c → IsFound (left ∷ right ∷ []) (λ tree. compound f (more (tree left) (more (tree right) none))) c
two-plain f left right p q r s h c g = record {
  is = λ tree.
      ap (λ (d : spec.Control). Some d)
      (sixth (spec.Both (tree left) (tree right)) (control_of_either (tree left) (tree right)) (spec.If (tree left) (tree right)) (spec.Call (tree left) (more (tree right) none))
      (spec.Database (spec.Inspect (tree left) (tree right))) (plain f (more (tree left) (more (tree right) none)))
      (is_named (codes ",") f) (is_named (codes ";") f) (is_named (codes "->") f) (is_named (codes "call") f) (is_named (codes "clause") f) p q r s h ∙ g.is tree);
  among = λ n sh k. g.among n sh k;
}

-- what asks for the clauses of a head and a body
pub clause-found : (f : List ℕ) (left right : Cell) → f ≡ codes "clause" → IsFound (left ∷ right ∷ []) (λ tree. compound f (more (tree left) (more (tree right) none))) (Database (Inspect left right))
clause-found f left right e =
    subst (λ (n : List ℕ). IsFound (left ∷ right ∷ []) (λ tree. compound n (more (tree left) (more (tree right) none))) (Database (Inspect left right))) (sym e)
    (record { is = λ tree. refl; among = λ n s k. (All-head (HasTerm n s) left (right ∷ []) k, All-head (HasTerm n s) right [] (All-tail (HasTerm n s) left (right ∷ []) k)) })

fourth : (c1 c2 c3 c4 : spec.Control) (p q r : Bool) → p ≡ false → q ≡ false → r ≡ false → (if p then c1 else if q then c2 else if r then c3 else c4) ≡ c4
fourth c1 c2 c3 c4 p q r a b d = rw (a, b, d) refl

pub three-plain : (f : List ℕ) (first second last : Cell) → is_named (codes "catch") f ≡ false → is_named (codes "findall") f ≡ false → is_named (codes "call") f ≡ false
    → (c : Control) → IsPlain f (first ∷ second ∷ last ∷ []) c → IsFound (first ∷ second ∷ last ∷ []) (λ tree. compound f (more (tree first) (more (tree second) (more (tree last) none)))) c
three-plain f first second last p q r c g = record {
  is = λ tree.
      ap (λ (d : spec.Control). Some d)
      (fourth (spec.Catch (tree first) (tree second) (tree last)) (spec.Findall (tree first) (tree second) (tree last)) (spec.Call (tree first) (more (tree second) (more (tree last) none)))
      (plain f (more (tree first) (more (tree second) (more (tree last) none)))) (is_named (codes "catch") f) (is_named (codes "findall") f) (is_named (codes "call") f) p q r ∙ g.is tree);
  among = λ n sh k. g.among n sh k;
}

-- ---- four arguments or more

below : (n m : ℕ) → n < m → nat_lt n m ≡ true
below n m h = grind (arith, nat_tests)

not-below : (n m : ℕ) → m ≤ n → nat_lt n m ≡ false
not-below n m h = grind (arith, nat_tests)

pub many-arguments : (b : Bool) (n : ℕ) → 8 < n → (b && nat_lt (n - 1) 8) ≡ false
many-arguments true n h = not-below (n - 1) 8 (omega arith)
many-arguments false n h = refl

pub other-name : (b c : Bool) → b ≡ false → (b && c) ≡ false
other-name b c e = rw e refl

both-hold : (b c : Bool) (x y : spec.Control) → b ≡ true → c ≡ true → (if b && c then x else y) ≡ x
both-hold b c x y e h = rw (e, h) refl

pub more-call : (f : List ℕ) (args : List Cell) (d : Cell) (added : Vec Cell Global) → 4 ≤ length args → length args ≤ 8 → is_named (codes "call") f ≡ true → added.items ≡ drop 1 args
    → IsFound args (λ tree. compound f (trees_of tree args)) (Call (get_or args 0 d) added)
more-call f [] d added some few e is = absurd (omega arith)
more-call f (a ∷ []) d added some few e is = absurd (omega arith)
more-call f (a ∷ b ∷ []) d added some few e is = absurd (omega arith)
more-call f (a ∷ b ∷ c ∷ []) d added some few e is = absurd (omega arith)
more-call f (a ∷ b ∷ c ∷ x ∷ cs) d added some few e is = record {
  is = λ tree.
      let k = count_trees tree (b ∷ c ∷ x ∷ cs) in
      let low : count (trees_of tree (b ∷ c ∷ x ∷ cs)) < 8 = omega (arith, k, few) in
      ap (λ (k : spec.Control). Some k)
      (both-hold (is_named (codes "call") f) (nat_lt (count (trees_of tree (b ∷ c ∷ x ∷ cs))) 8) (spec.Call (tree a) (trees_of tree (b ∷ c ∷ x ∷ cs)))
      (plain f (more (tree a) (trees_of tree (b ∷ c ∷ x ∷ cs)))) e (below _ 8 low))
      ∙ sym (ap (λ (l : List Cell). Some (spec.Call (tree a) (trees_of tree l))) is);
  among = λ n sh h. (
    h 0 a (omega arith),
    subst (All (HasTerm n sh)) (sym is) (All-tail (HasTerm n sh) a (b ∷ c ∷ x ∷ cs) h),
    (let l = ap length is in omega (arith, l, few)),
  );
}

neither : (b : Bool) (x y : spec.Control) → b ≡ false → (if b then x else y) ≡ y
neither b x y e = rw e refl

pub more-plain : (f : List ℕ) (args : List Cell) → 4 ≤ length args → (is_named (codes "call") f && nat_lt (length args - 1) 8) ≡ false
    → (c : Control) → IsPlain f args c → IsFound args (λ tree. compound f (trees_of tree args)) c
more-plain f [] some e k g = absurd (omega arith)
more-plain f (a ∷ []) some e k g = absurd (omega arith)
more-plain f (a ∷ b ∷ []) some e k g = absurd (omega arith)
more-plain f (a ∷ b ∷ c ∷ []) some e k g = absurd (omega arith)
more-plain f (a ∷ b ∷ c ∷ x ∷ cs) some e k g = record {
  is = λ tree.
      let n = count_trees tree (b ∷ c ∷ x ∷ cs) in
      let fewer : count (trees_of tree (b ∷ c ∷ x ∷ cs)) ≡ length (a ∷ b ∷ c ∷ x ∷ cs) - 1 = omega (arith, n) in
      ap (λ (d : spec.Control). Some d)
      (neither (is_named (codes "call") f && nat_lt (count (trees_of tree (b ∷ c ∷ x ∷ cs))) 8) (spec.Call (tree a) (trees_of tree (b ∷ c ∷ x ∷ cs)))
      (plain f (more (tree a) (trees_of tree (b ∷ c ∷ x ∷ cs)))) (ap (λ (m : ℕ). is_named (codes "call") f && nat_lt m 8) fewer ∙ e) ∙ g.is tree);
  among = λ n sh h. g.among n sh h;
}

-- ---- what is no control construct

-- the place of a row that was found is one of the table
place-below-row : (b : Bool) (o : Option ℕ) (n k : ℕ) → ((i : ℕ) → o ≡ Some i → i < n) → place_when b o ≡ Some k → k < suc n
place-below-row true o n k low q = let z : 0 ≡ k = cc q in omega (arith, z)
place-below-row false None n k low q = absurd (cc q)
place-below-row false (Some i) n k low q = let l = low i refl in let z : suc i ≡ k = cc q in omega (arith, l, z)

pub place-below : (rs : List Row) (name : List ℕ) (arity k : ℕ) → place_in rs name arity ≡ Some k → k < length rs
place-below [] name arity k e = absurd (cc e)
place-below (r ∷ rs) name arity k e = place-below-row (is_row name arity r) (place_in rs name arity) (length rs) k (λ i p. place-below rs name arity i p) e

pub plain-builtin : (f : List ℕ) (cells : List Cell) (arity row : ℕ) (args : Vec Cell Global) → arity ≡ length cells → place_in builtins f arity ≡ Some row → args.items ≡ cells → IsPlain f cells (Builtin row args)
unfolding plain
plain-builtin f cells arity row args m e is = record {
  is = λ tree.
      ap (λ (o : Option ℕ). builtin_or_user o f (trees_of tree cells)) (ap (place_in builtins f) (count_trees tree cells ∙ sym m) ∙ e)
      ∙ sym (ap (λ (l : List Cell). spec.Builtin row (trees_of tree l)) is);
  among = λ n sh h. (place-below builtins f arity row e, subst (All (HasTerm n sh)) (sym is) h);
}

pub plain-user : (f : List ℕ) (cells : List Cell) (arity : ℕ) → arity ≡ length cells → place_in builtins f arity ≡ None → IsPlain f cells (User (record { name = f; arity = arity }))
unfolding plain
plain-user f cells arity n e = record {
  is = λ tree.
      ap (λ (o : Option ℕ). builtin_or_user o f (trees_of tree cells)) (ap (place_in builtins f) (count_trees tree cells ∙ sym n) ∙ e)
      ∙ ap (λ (k : ℕ). spec.User (record { name = f; arity = k })) (count_trees tree cells ∙ sym n);
  among = λ n sh h. tt;
}

-- ---- whether the left side of a `;` is a `->`

pub arrow-then : (tree : Cell → Tree) (g : Tree) (f : List ℕ) (cs : List Cell) (d : Cell) → 2 ≤ length cs → length cs < 3 → g ≡ compound f (trees_of tree cs) → is_named (codes "->") f ≡ true
    → (e : Tree) → control_of_either g e ≡ spec.IfElse (tree (get_or cs 0 d)) (tree (get_or cs 1 d)) e
arrow-then tree g f cs d h k is named e =
    ap (λ (x : Tree). control_of_either x e) (two-trees tree g f cs d h k is)
    ∙ ap (λ (b : Bool). if b then spec.IfElse (tree (get_or cs 0 d)) (tree (get_or cs 1 d)) e else spec.Either (two f (tree (get_or cs 0 d)) (tree (get_or cs 1 d))) e) named

pub arrow-other : (tree : Cell → Tree) (g : Tree) (f : List ℕ) (cs : List Cell) (d : Cell) → 2 ≤ length cs → length cs < 3 → g ≡ compound f (trees_of tree cs) → is_named (codes "->") f ≡ false
    → (e : Tree) → control_of_either g e ≡ spec.Either g e
arrow-other tree g f cs d h k is named e =
    let same = two-trees tree g f cs d h k is in
    ap (λ (x : Tree). control_of_either x e) same
    ∙ ap (λ (b : Bool). if b then spec.IfElse (tree (get_or cs 0 d)) (tree (get_or cs 1 d)) e else spec.Either (two f (tree (get_or cs 0 d)) (tree (get_or cs 1 d))) e) named
    ∙ sym (ap (λ (x : Tree). spec.Either x e) same)

row-none : (tree : Cell → Tree) (f : List ℕ) (cs : List Cell) → (2 ≤ length cs → length cs < 3 → ⊥) → (e : Tree) → control_of_either (compound f (trees_of tree cs)) e ≡ spec.Either (compound f (trees_of tree cs)) e
row-none tree f [] other e = refl
row-none tree f (a ∷ []) other e = refl
row-none tree f (a ∷ b ∷ []) other e = absurd (other (omega arith) (omega arith))
row-none tree f (a ∷ b ∷ c ∷ cs) other e = refl

pub arrow-none : (tree : Cell → Tree) (g : Tree) (f : List ℕ) (cs : List Cell) → g ≡ compound f (trees_of tree cs) → (2 ≤ length cs → length cs < 3 → ⊥)
    → (e : Tree) → control_of_either g e ≡ spec.Either g e
arrow-none tree g f cs is other e = subst (λ (x : Tree). control_of_either x e ≡ spec.Either x e) (sym is) (row-none tree f cs other e)

view-none : (name : ℕ → List ℕ) (tree : Cell → Tree) (v : View) → ((f : ℕ) (args : _) → v ≡ view.Compound f args → ⊥)
    → (e : Tree) → control_of_either (tree_of name tree v) e ≡ spec.Either (tree_of name tree v) e
view-none name tree (view.Variable n) other e = refl
view-none name tree (view.Integer z) other e = refl
view-none name tree (view.Atom n) other e = refl
view-none name tree (view.Compound f args) other e = absurd (other f args refl)

pub arrow-leaf : (name : ℕ → List ℕ) (tree : Cell → Tree) (v : View) (g : Tree) → g ≡ tree_of name tree v → ((f : ℕ) (args : _) → v ≡ view.Compound f args → ⊥)
    → (e : Tree) → control_of_either g e ≡ spec.Either g e
arrow-leaf name tree v g is other e = subst (λ (x : Tree). control_of_either x e ≡ spec.Either x e) (sym is) (view-none name tree v other e)

-- ---- by the terms of now

one-cell : (cs : List Cell) (d : Cell) → 1 ≤ length cs → length cs < 2 → cs ≡ get_or cs 0 d ∷ []
one-cell [] d h k = absurd (omega arith)
one-cell (a ∷ []) d h k = refl
one-cell (a ∷ b ∷ cs) d h k = absurd (omega arith)

pub one-tree : (tree : Cell → Tree) (f : List ℕ) (cs : List Cell) (d : Cell) → 1 ≤ length cs → length cs < 2 → compound f (more (tree (get_or cs 0 d)) none) ≡ compound f (trees_of tree cs)
one-tree tree f cs d h k = sym (ap (λ (l : List Cell). compound f (trees_of tree l)) (one-cell cs d h k))

pub pair-tree : (tree : Cell → Tree) (a f : List ℕ) (cs : List Cell) (d : Cell) → f ≡ a → 2 ≤ length cs → length cs < 3
    → compound a (more (tree (get_or cs 0 d)) (more (tree (get_or cs 1 d)) none)) ≡ compound f (trees_of tree cs)
pair-tree tree a f cs d e h k =
    sym (ap (λ (x : List ℕ). compound x (more (tree (get_or cs 0 d)) (more (tree (get_or cs 1 d)) none))) e)
    ∙ sym (ap (λ (l : List Cell). compound f (trees_of tree l)) (two-cells cs d h k))

pub one-all : (P : Cell → Type 0) (a : Cell) → P a → All P (a ∷ [])
one-all P a h = All-cons P a [] h (All-nil P)

pub two-all : (P : Cell → Type 0) (a b : Cell) → P a → P b → All P (a ∷ b ∷ [])
two-all P a b h k = All-cons P a (b ∷ []) h (All-cons P b [] k (All-nil P))

three-cells : (cs : List Cell) (d : Cell) → 3 ≤ length cs → length cs < 4 → cs ≡ get_or cs 0 d ∷ get_or cs 1 d ∷ get_or cs 2 d ∷ []
three-cells [] d h k = absurd (omega arith)
three-cells (a ∷ []) d h k = absurd (omega arith)
three-cells (a ∷ b ∷ []) d h k = absurd (omega arith)
three-cells (a ∷ b ∷ c ∷ []) d h k = refl
three-cells (a ∷ b ∷ c ∷ x ∷ cs) d h k = absurd (omega arith)

pub three-tree : (tree : Cell → Tree) (f : List ℕ) (cs : List Cell) (d : Cell) → 3 ≤ length cs → length cs < 4
    → compound f (more (tree (get_or cs 0 d)) (more (tree (get_or cs 1 d)) (more (tree (get_or cs 2 d)) none))) ≡ compound f (trees_of tree cs)
three-tree tree f cs d h k = sym (ap (λ (l : List Cell). compound f (trees_of tree l)) (three-cells cs d h k))

pub three-all : (P : Cell → Type 0) (a b c : Cell) → P a → P b → P c → All P (a ∷ b ∷ c ∷ [])
three-all P a b c h k l = All-cons P a (b ∷ c ∷ []) h (two-all P b c k l)

some-same : (a b : spec.Control) → Some a ≡ Some b → a ≡ b
some-same a b e = cc

module _ {C : Type 0} (t : Terms C) where
  pub found-now : (cells : List Cell) (goal : (Cell → Tree) → Tree) (x : Tree) (c : Control) → IsFound cells goal c → goal (built t) ≡ x → All (IsBuilt t) cells → IsFoundNow t x c
  unfolding IsBuilt
  found-now cells goal x c f e h = record { is = ap control_of (sym e) ∙ f.is (built t); among = f.among (length t.names) t.store h }

  found-goals : (c : Control) → AreAmong (IsBuilt t) c → HasParts (control_in (built t) c) → AreGoals (IsGoal t) c
  found-goals True h k = tt
  found-goals Fail h k = tt
  found-goals Cut h k = tt
  found-goals Repeat h k = tt
  found-goals (Both a b) h k = (record { built_is = h.0; body = k.0 }, record { built_is = h.1; body = k.1 })
  found-goals (Either a b) h k = (record { built_is = h.0; body = k.0 }, record { built_is = h.1; body = k.1 })
  found-goals (IfElse a b e) h k = (record { built_is = h.0; body = k.0 }, record { built_is = h.1; body = k.1 }, record { built_is = h.2; body = k.2 })
  found-goals (If a b) h k = (record { built_is = h.0; body = k.0 }, record { built_is = h.1; body = k.1 })
  found-goals (Not g) h k = tt
  found-goals (Call g added) h k = tt
  found-goals (Once g) h k = tt
  found-goals (Catch g c r) h k = tt
  found-goals (Findall t g l) h k = tt
  found-goals (Throw b) h k = tt
  found-goals Halt h k = tt
  found-goals (HaltWith n) h k = tt
  found-goals (Database a) h k = tt
  found-goals (Builtin row args) h k = tt
  found-goals (User i) h k = tt

  pub found-control : (g : Tree) (c : Control) → IsTrue (is_body g) → IsFoundNow t g c → IsControl t g c
  found-control g c body f =
      let p = parts g body in
      record {
        is = f.is;
        among = f.among;
        goals = found-goals c f.among (subst HasParts (some-same p.0 (control_in (built t) c) (sym p.1 ∙ f.is)) p.2);
      }
