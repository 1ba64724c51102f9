-- What a term is as a ball, and as the number of a `halt`; and a ball that is put.
use Rattle.std.proofs.Common.{◌≡◌, ℕ, ℤ, ◌+◌, List, length, refl, sym, ap, ◌∙◌, subst}
use Rattle.prolog_terms.specs.Tree.{Tree, Trees, variable, integer, atom, compound}
use Rattle.prolog_terms.specs.Substitutions.{numbered, renamed}
use Rattle.term_store.specs.Shape.{Shape}
use Rattle.term_store.specs.declared.cell.Cell.{Cell}
use Rattle.term_store.specs.declared.cell.View.{View}
use Rattle.term_store.specs.declared.cell.View.TheVariants as view
use Rattle.term_store.specs.Terms.{raw, HasTerm, AreNamed}
use Rattle.term_store.specs.Views.{tree_of}
use Rattle.wam_machine.specs.Balls.{IsThrown, IsCode}
use Rattle.wam_machine.specs.States.{State}
use Rattle.wam_machine.specs.Machine.{throwing, raise_it}
use Rattle.wam_machine.specs.declared.balls.Thrown.TheVariants as is
use Rattle.wam_machine.specs.declared.balls.Code.TheVariants as code
use Rattle.wam_machine.specs.declared.terms.Terms.{Terms}
use Rattle.wam_machine.specs.Terms.{said, built, IsBuilt, AreTerms, KeepsCells}
use Rattle.wam_machine.proofs.Told.{still-unbound, terms-later, said-wider, cells-later}
use Rattle.wam_machine.proofs.Entries.{IsPut, grows-put, bindings-put, head-term}

-- ---- balls

pub thrown-variable : (t : Tree) (n : ℕ) → t ≡ variable n → IsThrown t is.Unbound
thrown-variable t n e = subst (λ (u : Tree). IsThrown u is.Unbound) (sym e) (λ s. refl)

thrown-other : (name : ℕ → List ℕ) (tree : Cell → Tree) (v : View) → ((n : ℕ) → v ≡ view.Variable n → ⊥)
    → (s : State) → throwing (tree_of name tree v) s ≡ raise_it (numbered (tree_of name tree v)) s
thrown-other name tree (view.Variable n) other s = absurd (other n refl)
thrown-other name tree (view.Integer z) other s = refl
thrown-other name tree (view.Atom n) other s = refl
thrown-other name tree (view.Compound f args) other s = refl

pub thrown-ball : (name : ℕ → List ℕ) (tree : Cell → Tree) (v : View) (t ball : Tree) → t ≡ tree_of name tree v → ((n : ℕ) → v ≡ view.Variable n → ⊥) → ball ≡ numbered t
    → IsThrown t (is.Ball ball)
thrown-ball name tree v t ball seen other e = λ s.
    subst (λ (u : Tree). throwing u s ≡ raise_it (numbered u) s) (sym seen) (thrown-other name tree v other s) ∙ ap (λ (b : Tree). raise_it b s) (sym e)

-- ---- numbers

pub code-variable : (t : Tree) (n : ℕ) → t ≡ variable n → IsCode t code.Unbound
code-variable t n e = subst (λ (u : Tree). IsCode u code.Unbound) (sym e) (λ x s. refl)

pub code-integer : (t : Tree) (z : ℤ) → t ≡ integer z → IsCode t (code.Number z)
code-integer t z e = subst (λ (u : Tree). IsCode u (code.Number z)) (sym e) (λ x s. refl)

pub code-atom : (t : Tree) (a : List ℕ) → t ≡ atom a → IsCode t code.Other
code-atom t a e = subst (λ (u : Tree). IsCode u code.Other) (sym e) (λ x s. refl)

pub code-compound : (t : Tree) (f : List ℕ) (ts : Trees) → t ≡ compound f ts → IsCode t code.Other
code-compound t f ts e = subst (λ (u : Tree). IsCode u code.Other) (sym e) (λ x s. refl)

-- ---- a ball is put

module _ {C : Type 0} (t : Terms C) (more : List (List ℕ)) (f u : Shape) (vars : ℕ) (p : IsPut t more f u vars) where
  pub put-terms : AreNamed (length more) u → AreTerms (record t { store = u; names = more })
  put-terms named =
      let g = grows-put t more f u vars p in
      terms-later t more u p.terms g (still-unbound t.names more t.store u g (bindings-put t more f u vars p)) p.distinct named

  pub put-said : (n : ℕ) → vars ≡ n → said (record t { store = u; names = more }) ≡ record (said t) { fresh = (said t).fresh + n }
  unfolding said
  put-said n e =
      said-wider t more u p.terms (grows-put t more f u vars p) (bindings-put t more f u vars p)
      ∙ ap (λ (k : ℕ). record (said t) { fresh = k })
      (p.variables ∙ ap (λ (s : Shape). s.variables) p.fresh ∙ ap (λ (k : ℕ). t.store.variables + k) e)

  pub put-cells : KeepsCells t (record t { store = u; names = more })
  put-cells = cells-later t more u p.terms (grows-put t more f u vars p) (bindings-put t more f u vars p)

  pub put-cell : (c : Cell) → HasTerm (length more) u c → IsBuilt (record t { store = u; names = more }) c
  unfolding IsBuilt
  put-cell c h = h

  pub put-ball : (c : Cell) (from : ℕ) (ball : Tree) → from ≡ t.store.variables → raw more u c ≡ renamed from ball
      → built (record t { store = u; names = more }) c ≡ renamed (said t).fresh ball
  unfolding built
  put-ball c from ball e r = head-term t more f u vars p c from ball e r
