-- The key and the arguments of what a cell stands for.
use Rattle.std.proofs.Common.{◌≡◌, ℕ, zero, suc, ◌+◌, ◌<◌, List, [], ◌∷◌, length, All, refl, sym, ap, ◌∙◌, arith, subst, Option, Some, slice_get, set}
use Rattle.std.specs.Prelude.{option_map, IfSome}
use Rattle.std.proofs.lemmas.List.{take_all}
use Rattle.std.proofs.lemmas.Option.{unwrap_or-slice_get}
use Rattle.prolog_terms.specs.Tree.{Tree, atom, compound}
use Rattle.call_patterns.specs.Keys.{key, argument, arguments, keys, atom_key, functor_key}
use Rattle.call_patterns.specs.Calls.{AreKeysOf, text_of, goal_keys}
use Rattle.call_patterns.specs.Filling.{IsKeyAt, Filled}
use Rattle.call_patterns.specs.declared.key.Key as Call
use Rattle.call_patterns.proofs.Filled.{one_more, numbered, all_keys}
use Rattle.term_store.specs.declared.cell.Cell.{Cell}
use Rattle.term_store.specs.declared.cell.View.TheVariants.{Atom, Compound}
use Rattle.term_store.specs.Shape.{Shape}
use Rattle.term_store.specs.Terms.{text, term_of, trees_of, IsShape, HasTerm, AreNamed}
use Rattle.term_store.specs.Views.{Looks}
use Rattle.wam_machine.specs.Terms.{IsBuilt, built}
use Rattle.wam_machine.specs.declared.terms.Terms.{Terms}
use Rattle.wam_machine.proofs.SeenCells.{IsKept, kept_seen, named_seen, count_trees}

pub argument_trees : (tree : Cell → Tree) (cs : List Cell) (i : ℕ) → option_map tree (slice_get cs i) ≡ argument (trees_of tree cs) i
argument_trees tree [] i = refl
argument_trees tree (c ∷ cs) zero = refl
argument_trees tree (c ∷ cs) (suc i) = argument_trees tree cs i

some_of_all : (P : Cell → Type 0) (cs : List Cell) (i : ℕ) → All P cs → IfSome (slice_get cs i) P
some_of_all P [] i h = tt
some_of_all P (c ∷ cs) zero h = h 0 c (omega arith)
some_of_all P (c ∷ cs) (suc i) h = some_of_all P cs i (λ k d lt. h (suc k) d (omega arith))

module _ (names : List (List ℕ)) (s : Shape) (c : Cell) (h : IsShape s) (named : AreNamed (length names) s) (valid : HasTerm (length names) s c) where
  pub kept_look : (f : ℕ) (args : _) → Looks s c (Compound f args) → IsKept (length names) s f args.now
  kept_look f args l = kept_seen (length names) s l.cell f args h named l.sees

  pub argument_valid : (f : ℕ) (args : _) (i : ℕ) → Looks s c (Compound f args) → IfSome (slice_get args.now i) (HasTerm (length names) s)
  argument_valid f args i l = some_of_all (HasTerm (length names) s) args.now i (kept_look f args l).args

  pub argument_seen : (f : ℕ) (cs : List Cell) (i : ℕ) → term_of names s c ≡ compound (text names f) (trees_of (term_of names s) cs)
      → option_map (term_of names s) (slice_get cs i) ≡ argument (arguments (term_of names s c)) i
  argument_seen f cs i e = argument_trees (term_of names s) cs i ∙ sym (ap (λ (t : Tree). argument (arguments t) i) e)

  pub atom_numbered : (n : ℕ) → Looks s c (Atom n) → n < length names
  atom_numbered n l = named_seen (length names) s l.cell n (l.named (length names) named valid.1) l.sees

  same_text : (n : ℕ) → text_of names n ≡ text names n
  same_text n = unwrap_or-slice_get names n []

  pub atom_seen : (n : ℕ) → term_of names s c ≡ atom (text names n) → Some (atom_key (text_of names n)) ≡ key (term_of names s c)
  atom_seen n e = ap (λ (x : List ℕ). Some (atom_key x)) (same_text n) ∙ sym (ap key e)

  pub functor_seen : (f : ℕ) (cs : List Cell) → term_of names s c ≡ compound (text names f) (trees_of (term_of names s) cs)
      → Some (functor_key (text_of names f) (length cs)) ≡ key (term_of names s c)
  functor_seen f cs e =
      ap (λ (x : List ℕ). Some (functor_key x (length cs))) (same_text f)
      ∙ ap (λ (n : ℕ). Some (functor_key (text names f) n)) (sym (count_trees (term_of names s) cs)) ∙ sym (ap key e)

-- ---- one position more

pub none_yet : (names : List (List ℕ)) (t : Tree) (at : List (Option Call.Key)) → length at ≡ 40 → Filled names t at 0
none_yet names t at whole = record { whole = whole; each = λ p lt. absurd (omega arith) }

pub next_key : (names : List (List ℕ)) (t : Tree) (at : List (Option Call.Key)) (n : ℕ) (k : Option Call.Key) → n < 40 → Filled names t at n → IsKeyAt names t n k → Filled names t (set at n k) (n + 1)
next_key names t at n k few f is = one_more names names t at n k few (take_all (length names) names (omega arith)) f is

pub goal_keys_are : (names : List (List ℕ)) (t : Tree) (at : List (Option Call.Key)) (n : ℕ) → n ≡ 40 → Filled names t at n → goal_keys names at ≡ keys t
goal_keys_are names t at n e f = all_keys names t at (subst (Filled names t at) e f)

pub keys_numbered : (names : List (List ℕ)) (t : Tree) (at : List (Option Call.Key)) (n : ℕ) → n ≡ 40 → Filled names t at n → AreKeysOf names at
keys_numbered names t at n e f = numbered names t at (subst (Filled names t at) e f)

-- what a goal stands for
module _ {C : Type 0} (t : Terms C) (c : Cell) where
  pub goal_has : IsBuilt t c → HasTerm (length t.names) t.store c
  unfolding IsBuilt
  goal_has g = g

  pub stands : term_of t.names t.store c ≡ built t c
  unfolding built
  stands = refl
