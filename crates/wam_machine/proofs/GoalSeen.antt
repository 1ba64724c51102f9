-- What a look at a cell shows of what it stands for.
use Rattle.std.proofs.Common.{◌≡◌, ℕ, ℤ, ◌<◌, ◌≤◌, List, length, All, subst, true, false}
use Rattle.std.specs.Prelude.{IsTrue}
use Rattle.prolog_terms.specs.Tree.{Tree, variable, integer, compound}
use Rattle.prolog_terms.specs.Clauses.{is_body}
use Rattle.term_store.specs.declared.cell.Cell.{Cell}
use Rattle.term_store.specs.declared.cell.View.{View}
use Rattle.term_store.specs.declared.cell.View.TheVariants.{Atom, Compound}
use Rattle.term_store.specs.Terms.{text, term_of, trees_of, IsCell, IsShape}
use Rattle.term_store.specs.Views.{Looks, tree_of}
use Rattle.wam_machine.specs.Terms.{AreTerms, IsGoal, IsBuilt, built}
use Rattle.wam_machine.specs.declared.terms.Terms.{Terms}
use Rattle.wam_machine.proofs.SeenCells.{IsKept, named_seen, kept_seen}

-- the name and the arguments of a compound
pub record IsSeen {C : Type 0} (t : Terms C) (f : ℕ) (cs : List Cell) : Type 0 where
  pub name : f < length t.names
  pub some : 1 ≤ length cs
  pub few : length cs ≤ 255
  pub args : All (IsBuilt t) cs

module _ {C : Type 0} (t : Terms C) (c : Cell) (b : IsBuilt t c) where
  pub seen-cell : IsCell t.store c
  unfolding IsBuilt
  seen-cell = b.0

  pub seen-leaf : (x : Tree) → term_of t.names t.store c ≡ x → built t c ≡ x
  unfolding built
  seen-leaf x e = e

  pub seen-compound : (f : ℕ) (cs : List Cell) → term_of t.names t.store c ≡ compound (text t.names f) (trees_of (term_of t.names t.store) cs)
      → built t c ≡ compound (text t.names f) (trees_of (built t) cs)
  unfolding built
  seen-compound f cs e = e

  pub seen-name : (n : ℕ) → AreTerms t → Looks t.store c (Atom n) → n < length t.names
  unfolding IsBuilt
  seen-name n h l = named_seen (length t.names) t.store l.cell n (l.named (length t.names) h.named b.1) l.sees

  pub seen-parts : (f : ℕ) (args : _) → AreTerms t → IsShape t.store → Looks t.store c (Compound f args) → IsSeen t f args.now
  unfolding IsBuilt
  seen-parts f args h formed l =
      let k : IsKept (length t.names) t.store f args.now = kept_seen (length t.names) t.store l.cell f args formed h.named l.sees in
      record { name = k.name; some = k.some; few = k.few; args = k.args }

-- a goal is no variable and no integer
module _ {C : Type 0} (t : Terms C) (c : Cell) (g : IsGoal t c) where
  pub no_variable : (n : ℕ) → built t c ≡ variable n → ⊥
  no_variable n e = let h : false ≡ true = subst (λ (u : Tree). IsTrue (is_body u)) e g.body in absurd (cc)

  pub no_integer : (z : ℤ) → built t c ≡ integer z → ⊥
  no_integer z e = let h : false ≡ true = subst (λ (u : Tree). IsTrue (is_body u)) e g.body in absurd (cc)

-- whatever is seen
pub seen-view : {C : Type 0} (t : Terms C) (c : Cell) (v : View) → term_of t.names t.store c ≡ tree_of (text t.names) (term_of t.names t.store) v → built t c ≡ tree_of (text t.names) (built t) v
unfolding built
seen-view t c v e = e
