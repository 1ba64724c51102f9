-- The body that a term is made.
use Rattle.std.proofs.Common.{◌≡◌, List, [], ◌∷◌, map, refl, sym, ap, ◌∙◌, subst, append-nil}
use Rattle.std.specs.Prelude.{Option, Some, None, IfSome, IsSome, IsTrue}
use Rattle.prolog_terms.specs.Tree.{Tree}
use Rattle.prolog_terms.specs.Clauses.{is_body, body_of}
use Rattle.term_store.specs.declared.cell.Cell.{Cell}
use Rattle.wam_machine.specs.Spine.{Part, spine, body_on, folded}
use Rattle.wam_machine.specs.Goals.{part_now}
use Rattle.wam_machine.specs.Terms.{built, IsBuilt, IsGoal}
use Rattle.wam_machine.specs.declared.bodies.Part.{Part as Met}
use Rattle.wam_machine.specs.declared.terms.Terms.{Terms}
use Rattle.prolog_terms.proofs.Converted.{is_converted, is_same}
use Rattle.wam_machine.proofs.Walked.{folds}

spine-folds : (g : Tree) → folded (spine g) [] ≡ body_on (body_of g) (Some [])
spine-folds g = sym (ap (λ (ps : List Part). folded ps []) (append-nil (spine g))) ∙ folds g [] []

whole-of : (o : Option Tree) → IsSome o → (body : Tree) × (body_on o (Some []) ≡ Some (body ∷ []))
whole-of None h = absurd cc
whole-of (Some b) h = (b, refl)

made-of : (o : Option Tree) (b : Tree) → body_on o (Some []) ≡ Some (b ∷ []) → o ≡ Some b
made-of None b e = absurd cc
made-of (Some a) b e = cc

is-made : (g b : Tree) → body_of g ≡ Some b → IsTrue (is_body b)
is-made g b e = subst (λ (o : Option Tree). IfSome o (λ t. IsTrue (is_body t))) e (is_converted g)

module _ {C : Type 0} (t : Terms C) where
  pub body-itself : (c : Cell) → IsBuilt t c → IsTrue (is_body (built t c)) → (body_of (built t c) ≡ Some (built t c)) × IsGoal t c
  body-itself c b h = (is_same (built t c) h, record { built_is = b; body = h })

  pub body-whole : (g : Tree) (ps : List Met) → map (part_now t) ps ≡ spine g → IsSome (body_of g) → (body : Tree) × (folded (map (part_now t) ps) [] ≡ Some (body ∷ []))
  body-whole g ps e h = let w = whole-of (body_of g) h in (w.0, ap (λ (qs : List Part). folded qs []) e ∙ spine-folds g ∙ w.1)

  pub body-made : (u : Terms C) (g : Tree) (ps : List Met) (c : Cell) → map (part_now t) ps ≡ spine g → IsBuilt u c → folded (map (part_now t) ps) [] ≡ Some (built u c ∷ [])
      → (body_of g ≡ Some (built u c)) × IsGoal u c
  body-made u g ps c e b made =
      let is = made-of (body_of g) (built u c) (sym (spine-folds g) ∙ sym (ap (λ (qs : List Part). folded qs []) e) ∙ made) in
      (is, record { built_is = b; body = is-made g (built u c) is })
