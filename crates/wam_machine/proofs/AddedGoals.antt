-- A goal with arguments added behind its own.
use Rattle.std.proofs.Common.{◌≡◌, ℕ, ℤ, ◌+◌, ◌<◌, ◌≤◌, List, [], ◌∷◌, ◌++◌, length, refl, sym, ap, ◌∙◌, arith, subst, Bool, true, false, codes}
use Rattle.std.specs.Prelude.{nat_lt, ◌==◌}
use Rattle.std.proofs.lemmas.Bool.Decides.{nat_tests}
use Rattle.prolog_terms.specs.Tree.{Tree, Trees, variable, integer, atom, compound, none, more, count}
use Rattle.prolog_terms.specs.declared.fault.Fault.TheVariants.{Instantiation, Representation}
use Rattle.term_store.specs.declared.cell.Cell.{Cell}
use Rattle.term_store.specs.Terms.{trees_of}
use Rattle.prolog_terms.specs.Clauses.{body_of}
use Rattle.wam_machine.specs.Control.{joined, atom_with}
use Rattle.wam_machine.specs.States.{State, Outcome, raises}
use Rattle.wam_machine.specs.Machine.{calling_added, running, call_with}
use Rattle.wam_machine.proofs.SeenCells.{count_trees}

joined-none : (ts : Trees) → joined ts none ≡ ts
joined-none none = refl
joined-none (more t ts) = ap (more t) (joined-none ts)

trees-joined : (f : Cell → Tree) (cs ds : List Cell) → trees_of f (cs ++ ds) ≡ joined (trees_of f cs) (trees_of f ds)
trees-joined f [] ds = refl
trees-joined f (c ∷ cs) ds = ap (more (f c)) (trees-joined f cs ds)

trees-nothing : (f : Cell → Tree) (ds : List Cell) → length ds ≡ 0 → trees_of f ds ≡ none
trees-nothing f [] e = refl
trees-nothing f (d ∷ ds) e = absurd (omega arith)

pub no-more : (b : Bool) (n : ℕ) → b ≡ true → b ≡ (n == 0) → n ≡ 0
no-more b n e d = grind (arith, nat_tests)

pub some-more : (b : Bool) (n : ℕ) → b ≡ false → b ≡ (n == 0) → 1 ≤ n
some-more b n e d = grind (arith, nat_tests)

-- the goal to be done is m
abbrev pub IsCalledAs : Tree → Trees → Tree → Type 0
IsCalledAs g added m = (s : State) → calling_added g added s ≡ running m (call_with added) s (body_of m)

abbrev as_running : Trees → State → Tree → Outcome
as_running added s m = running m (call_with added) s (body_of m)

pub unbound-added : (g : Tree) (added : Trees) (n : ℕ) → g ≡ variable n → (s : State) → calling_added g added s ≡ raises Instantiation (call_with added) s
unbound-added g added n e s = ap (λ (t : Tree). calling_added t added s) e

pub integer-added : (g : Tree) (added : Trees) (z : ℤ) → g ≡ integer z → IsCalledAs g added g
integer-added g added z e = subst (λ (t : Tree). IsCalledAs t added t) (sym e) (λ s. refl)

pub atom-alone : (f : Cell → Tree) (g : Tree) (ds : List Cell) (a : List ℕ) → length ds ≡ 0 → g ≡ atom a → IsCalledAs g (trees_of f ds) g
atom-alone f g ds a z e =
    subst (λ (t : Tree). IsCalledAs t (trees_of f ds) t) (sym e)
    (subst (λ (ts : Trees). IsCalledAs (atom a) ts (atom a)) (sym (trees-nothing f ds z)) (λ s. refl))

atom-with-some : (f : Cell → Tree) (a : List ℕ) (ds : List Cell) → 1 ≤ length ds → atom_with a (trees_of f ds) ≡ compound a (trees_of f ds)
atom-with-some f a [] some = absurd (omega arith)
atom-with-some f a (d ∷ ds) some = refl

pub atom-added : (f : Cell → Tree) (g m : Tree) (ds : List Cell) (a : List ℕ) → 1 ≤ length ds → g ≡ atom a → m ≡ compound a (trees_of f ds) → IsCalledAs g (trees_of f ds) m
atom-added f g m ds a some e is =
    subst (λ (t : Tree). IsCalledAs t (trees_of f ds) m) (sym e)
    (subst (λ (t : Tree). IsCalledAs (atom a) (trees_of f ds) t) (atom-with-some f a ds some ∙ sym is) (λ s. refl))

module _ (f : Cell → Tree) (g : Tree) (cs ds : List Cell) (a : List ℕ) (e : g ≡ compound a (trees_of f cs)) where
  counted : count (trees_of f cs) + count (trees_of f ds) ≡ length cs + length ds
  counted = let x = count_trees f cs in let y = count_trees f ds in omega (arith, x, y)

  pub many-added : 255 < length cs + length ds → (s : State)
      → calling_added g (trees_of f ds) s ≡ raises (Representation (codes "max_arity")) (call_with (trees_of f ds)) s
  many-added many s =
      let k = counted in
      let t : nat_lt 255 (count (trees_of f cs) + count (trees_of f ds)) ≡ true = grind (arith, nat_tests) in
      ap (λ (t : Tree). calling_added t (trees_of f ds) s) e ∙ rw t refl

  few-added : (m : Tree) → length cs + length ds ≤ 255 → m ≡ compound a (joined (trees_of f cs) (trees_of f ds)) → IsCalledAs g (trees_of f ds) m
  few-added m few is s =
      let k = counted in
      let t : nat_lt 255 (count (trees_of f cs) + count (trees_of f ds)) ≡ false = grind (arith, nat_tests) in
      ap (λ (t : Tree). calling_added t (trees_of f ds) s) e ∙ rw t (ap (as_running (trees_of f ds) s) (sym is))

  pub compound-added : (m : Tree) (all : List Cell) → length cs + length ds ≤ 255 → all ≡ cs ++ ds → m ≡ compound a (trees_of f all) → IsCalledAs g (trees_of f ds) m
  compound-added m all few both is =
      few-added m few (is ∙ ap (λ (es : List Cell). compound a (trees_of f es)) both ∙ ap (compound a) (trees-joined f cs ds))

  pub compound-alone : length cs + length ds ≤ 255 → length ds ≡ 0 → IsCalledAs g (trees_of f ds) g
  compound-alone few z =
      few-added g few (e ∙ sym (ap (λ (ts : Trees). compound a (joined (trees_of f cs) ts)) (trees-nothing f ds z) ∙ ap (compound a) (joined-none (trees_of f cs))))
