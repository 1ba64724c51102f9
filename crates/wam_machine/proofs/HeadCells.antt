-- What the engine finds a head, a body and a clause to be, by what is seen of their cells.
use Rattle.std.proofs.Common.{◌≡◌, ℕ, ℤ, ◌<◌, ◌≤◌, List, [], ◌∷◌, length, get_or, refl, sym, ap, ◌∙◌, subst, arith, Bool, true, false, codes}
use Rattle.std.specs.Prelude.{if◌then◌else◌}
use Rattle.prolog_terms.specs.Tree.{Tree, Trees, variable, integer, atom, compound, count}
use Rattle.prolog_terms.specs.Clauses.{is_named}
use Rattle.prolog_terms.specs.Faults.{two}
use Rattle.prolog_clauses.specs.Formed.{Parts, parts_of, rule, fact}
use Rattle.term_store.specs.declared.cell.Cell.{Cell}
use Rattle.term_store.specs.declared.cell.Cell.TheVariants.{Atom}
use Rattle.term_store.specs.declared.cell.View.{View}
use Rattle.term_store.specs.declared.cell.View.TheVariants as view
use Rattle.term_store.specs.Terms.{text, trees_of}
use Rattle.term_store.specs.Views.{tree_of}
use Rattle.wam_machine.specs.Terms.{IsBuilt, IsGrown, built}
use Rattle.wam_machine.specs.Heads.{IsHead, IsNumber, AreParts}
use Rattle.wam_machine.specs.declared.matching.Head.{Head}
use Rattle.wam_machine.specs.declared.matching.Head.TheVariants as is
use Rattle.wam_machine.specs.declared.terms.Terms.{Terms}
use Rattle.wam_machine.proofs.SpineParts.{two-trees}
use Rattle.wam_machine.proofs.Built.{atom-built, atom-term}

-- ---- heads

module _ (t : Tree) where
  pub head-unbound : (n : ℕ) → t ≡ variable n → IsHead t is.Unbound
  head-unbound n e = subst (λ (x : Tree). IsHead x is.Unbound) (sym e) (λ at s with. refl)

  pub head-number : (z : ℤ) → t ≡ integer z → IsHead t is.Number
  head-number z e = subst (λ (x : Tree). IsHead x is.Number) (sym e) (λ at s with. refl)

  pub head-atom : (a : List ℕ) (h : Head) → t ≡ atom a → h ≡ is.Named (record { name = a; arity = 0 }) → IsHead t h
  head-atom a h e named = subst (IsHead t) (sym named) (subst (λ (x : Tree). IsHead x (is.Named (record { name = a; arity = 0 }))) (sym e) (λ at s with. refl))

  pub head-compound : (f : List ℕ) (ts : Trees) (n : ℕ) (h : Head) → t ≡ compound f ts → count ts ≡ n → h ≡ is.Named (record { name = f; arity = n }) → IsHead t h
  head-compound f ts n h e many named =
      subst (IsHead t) (sym named)
      (subst (λ (k : ℕ). IsHead t (is.Named (record { name = f; arity = k }))) many
      (subst (λ (x : Tree). IsHead x (is.Named (record { name = f; arity = count ts }))) (sym e) (λ at s with. refl)))

  -- ---- bodies

  pub number-integer : (z : ℤ) → t ≡ integer z → IsNumber t true
  number-integer z e = subst (λ (x : Tree). IsNumber x true) (sym e) (λ at s then_. refl)

  pub number-other : (name : ℕ → List ℕ) (tree : Cell → Tree) (v : View) → t ≡ tree_of name tree v → ((z : ℤ) → v ≡ view.Integer z → ⊥) → IsNumber t false
  number-other name tree v e other = subst (λ (x : Tree). IsNumber x false) (sym e) (go v other)
    where
      go : (w : View) → ((z : ℤ) → w ≡ view.Integer z → ⊥) → IsNumber (tree_of name tree w) false
      go (view.Variable n) p = λ at s then_. refl
      go (view.Integer z) p = absurd (p z refl)
      go (view.Atom n) p = λ at s then_. refl
      go (view.Compound f args) p = λ at s then_. refl

-- ---- the two sides of a rule

module _ (tree : Cell → Tree) (g : Tree) (f : List ℕ) (cs : List Cell) where
  pub sides-rule : (d : Cell) → 2 ≤ length cs → length cs < 3 → g ≡ compound f (trees_of tree cs) → is_named (codes ":-") f ≡ true
      → parts_of g ≡ rule (tree (get_or cs 0 d)) (tree (get_or cs 1 d))
  sides-rule d h k e named =
      ap parts_of (two-trees tree g f cs d h k e)
      ∙ ap (λ (b : Bool). if b then rule (tree (get_or cs 0 d)) (tree (get_or cs 1 d)) else fact (two f (tree (get_or cs 0 d)) (tree (get_or cs 1 d)))) named

  pub sides-other : (d : Cell) → 2 ≤ length cs → length cs < 3 → g ≡ compound f (trees_of tree cs) → is_named (codes ":-") f ≡ false → parts_of g ≡ fact g
  sides-other d h k e named =
      let same = two-trees tree g f cs d h k e in
      ap parts_of same
      ∙ ap (λ (b : Bool). if b then rule (tree (get_or cs 0 d)) (tree (get_or cs 1 d)) else fact (two f (tree (get_or cs 0 d)) (tree (get_or cs 1 d)))) named
      ∙ sym (ap fact same)

row-fact : (tree : Cell → Tree) (f : List ℕ) (cs : List Cell) → (2 ≤ length cs → length cs < 3 → ⊥) → parts_of (compound f (trees_of tree cs)) ≡ fact (compound f (trees_of tree cs))
row-fact tree f [] other = refl
row-fact tree f (a ∷ []) other = refl
row-fact tree f (a ∷ b ∷ []) other = absurd (other (omega arith) (omega arith))
row-fact tree f (a ∷ b ∷ c ∷ cs) other = refl

pub sides-none : (tree : Cell → Tree) (g : Tree) (f : List ℕ) (cs : List Cell) → g ≡ compound f (trees_of tree cs) → (2 ≤ length cs → length cs < 3 → ⊥) → parts_of g ≡ fact g
sides-none tree g f cs e other = subst (λ (x : Tree). parts_of x ≡ fact x) (sym e) (row-fact tree f cs other)

view-fact : (name : ℕ → List ℕ) (tree : Cell → Tree) (v : View) → ((f : ℕ) (args : _) → v ≡ view.Compound f args → ⊥) → parts_of (tree_of name tree v) ≡ fact (tree_of name tree v)
view-fact name tree (view.Variable n) other = refl
view-fact name tree (view.Integer z) other = refl
view-fact name tree (view.Atom n) other = refl
view-fact name tree (view.Compound f args) other = absurd (other f args refl)

pub sides-leaf : (name : ℕ → List ℕ) (tree : Cell → Tree) (v : View) (g : Tree) → g ≡ tree_of name tree v → ((f : ℕ) (args : _) → v ≡ view.Compound f args → ⊥) → parts_of g ≡ fact g
sides-leaf name tree v g e other = subst (λ (x : Tree). parts_of x ≡ fact x) (sym e) (view-fact name tree v other)

-- ---- the parts of a term

pub rule-parts : {C : Type 0} (t : Terms C) (g : Tree) (p : Cell × Cell) → (IsBuilt t p.0 × IsBuilt t p.1) × (parts_of g ≡ rule (built t p.0) (built t p.1)) → AreParts t (parts_of g) p
rule-parts t g p h = record {
  head = h.0.0;
  body = h.0.1;
  head_is = ap (λ (x : Parts). x.head) (sym h.1);
  body_is = ap (λ (x : Parts). x.body) (sym h.1);
}

pub fact-parts : {C : Type 0} (old new : Terms C) (c : Cell) (n : ℕ) → IsGrown old new → IsBuilt old c → n < length new.names → text new.names n ≡ codes "true" → parts_of (built old c) ≡ fact (built old c)
    → AreParts new (parts_of (built old c)) (c, Atom n)
fact-parts old new c n g b low reads same = record {
  head = (g.cells c b).0;
  body = atom-built new n low;
  head_is = (g.cells c b).1 ∙ ap (λ (x : Parts). x.head) (sym same);
  body_is = atom-term new n ∙ ap atom reads ∙ ap (λ (x : Parts). x.body) (sym same);
}
