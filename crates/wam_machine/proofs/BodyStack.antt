-- A stack of bodies, the newest last.
use Rattle.std.proofs.Common.{◌≡◌, ℕ, ℤ, suc, true, ◌≤◌, List, [], ◌∷◌, ◌++◌, length, map, refl, sym, ap, ap₂, ◌∙◌, arith, subst}
use Rattle.std.specs.Prelude.{reverse, All, Option, Some, IfSome, IsSome}
use Rattle.std.specs.Option.{option_to_list}
use Rattle.std.proofs.lemmas.List.{reverse-append, length-reverse, length-map}
use Rattle.std.proofs.lemmas.List.Elements.{All-cons, All-nil, All-pop, All-append}
use Rattle.indexmap.proofs.ReorderLemmas.{map-reverse}
use Rattle.prolog_terms.specs.Tree.{Tree, variable, integer, atom, compound}
use Rattle.prolog_terms.specs.Faults.{two}
use Rattle.term_store.specs.declared.cell.Cell.{Cell}
use Rattle.term_store.specs.Terms.{text}
use Rattle.prolog_terms.specs.Clauses.{call_term}
use Rattle.wam_machine.specs.Spine.{is_plain_goal, goal_body, body_on, joint_on, part_on}
use Rattle.wam_machine.specs.Goals.{IsPart, part_now}
use Rattle.wam_machine.specs.declared.bodies.Part.{Part as Met}
use Rattle.wam_machine.specs.declared.bodies.Part.TheVariants as met
use Rattle.wam_machine.specs.declared.terms.Terms.{Terms}
use Rattle.wam_machine.specs.Terms.{built, IsBuilt, IsGrown}
use Rattle.wam_machine.proofs.Built.{all-kept}

pub popped : (old new : List Cell) (o : Option Cell) (c : Cell) → old ≡ new ++ option_to_list o → o ≡ Some c → old ≡ new ++ c ∷ []
popped old new o c e is = e ∙ ap (λ (x : Option Cell). new ++ option_to_list x) is

pub popped-rest : (P : Cell → Type 0) (old new : List Cell) (o : Option Cell) → old ≡ new ++ option_to_list o → All P old → All P new
popped-rest P old new o e h = (All-pop P old new o e h).0

pub popped-here : (P : Cell → Type 0) (old new : List Cell) (o : Option Cell) (c : Cell) → old ≡ new ++ option_to_list o → o ≡ Some c → All P old → P c
popped-here P old new o c e is h = subst (λ (x : Option Cell). IfSome x P) is (All-pop P old new o e h).1

pub two-are : (P : Cell → Type 0) (a b : Cell) → P a → P b → All P (a ∷ b ∷ [])
two-are P a b h k = All-cons P a (b ∷ []) h (All-cons P b [] k (All-nil P))

pub last-first : (tree : Cell → Tree) (old new : List Cell) (c : Cell) → new ≡ old ++ c ∷ [] → map tree (reverse new) ≡ tree c ∷ map tree (reverse old)
last-first tree old new c e = ap (λ (l : List Cell). map tree (reverse l)) e ∙ ap (λ (l : List Cell). map tree l) (reverse-append old (c ∷ []))

map-kept : {C : Type 0} (a b : Terms C) (cs : List Cell) → IsGrown a b → All (IsBuilt a) cs → map (built b) cs ≡ map (built a) cs
map-kept a b [] g h = refl
map-kept a b (c ∷ cs) g h =
    ap₂ (λ (t : Tree) (ts : List Tree). t ∷ ts) (g.cells c (h 0 c (omega arith))).1 (map-kept a b cs g (λ k d lt. h (suc k) d (omega arith)))

pub stack-kept : {C : Type 0} (a b : Terms C) (cs : List Cell) → IsGrown a b → All (IsBuilt a) cs → map (built b) (reverse cs) ≡ map (built a) (reverse cs)
stack-kept a b cs g h = map-reverse (built b) cs ∙ ap reverse (map-kept a b cs g h) ∙ sym (map-reverse (built a) cs)

module _ {C : Type 0} (a b : Terms C) (g : IsGrown a b) where
  -- one more on the stack
  pub put-one : (old new : List Cell) (c : Cell) → new ≡ old ++ c ∷ [] → All (IsBuilt a) old → map (built b) (reverse new) ≡ built b c ∷ map (built a) (reverse old)
  put-one old new c e h = last-first (built b) old new c e ∙ ap (λ (l : List Tree). built b c ∷ l) (stack-kept a b old g h)

  pub put-all : (old new : List Cell) (c : Cell) → new ≡ old ++ c ∷ [] → All (IsBuilt a) old → IsBuilt b c → All (IsBuilt b) new
  put-all old new c e h k = subst (All (IsBuilt b)) (sym e) (All-append (IsBuilt b) old (c ∷ []) (all-kept a b old g h) (All-cons (IsBuilt b) c [] k (All-nil (IsBuilt b))))

  -- two were taken, and one was put
  pub put-joint : (old mid rest new : List Cell) (l r w : Cell) (f : List ℕ) → old ≡ mid ++ l ∷ [] → mid ≡ rest ++ r ∷ [] → new ≡ rest ++ w ∷ [] → All (IsBuilt a) rest
      → built b w ≡ two f (built a l) (built a r) → joint_on f (Some (map (built a) (reverse old))) ≡ Some (map (built b) (reverse new))
  put-joint old mid rest new l r w f first second put h e =
      ap (λ (ts : List Tree). joint_on f (Some ts))
      (last-first (built a) mid old l first ∙ ap (λ (ts : List Tree). built a l ∷ ts) (last-first (built a) rest mid r second))
      ∙ sym (ap (λ (ts : List Tree). Some ts) (put-one rest new w put h ∙ ap (λ (t : Tree). t ∷ map (built a) (reverse rest)) e))

-- ---- parts that are put

two-left : (f : List ℕ) (ts : List Tree) → IsSome (joint_on f (Some ts)) → 2 ≤ length ts
two-left f [] h = absurd cc
two-left f (a ∷ []) h = absurd cc
two-left f (a ∷ b ∷ ts) h = omega arith

pub two-there : (tree : Cell → Tree) (f : List ℕ) (cs : List Cell) → IsSome (joint_on f (Some (map tree (reverse cs)))) → 2 ≤ length cs
two-there tree f cs h =
    let low = two-left f (map tree (reverse cs)) h in
    let a = length-map (reverse cs) tree in
    let b = length-reverse cs in
    omega (arith, low, a, b)

body-there : (g : Tree) (st : List Tree) → is_plain_goal g ≡ true → body_on (goal_body g) (Some st) ≡ Some (g ∷ st)
body-there (variable n) st e = absurd cc
body-there (integer z) st e = absurd cc
body-there (atom a) st e = refl
body-there (compound f ts) st e = refl

called-there : (g : Tree) (n : ℕ) (st : List Tree) → g ≡ variable n → body_on (goal_body g) (Some st) ≡ Some (call_term g ∷ st)
called-there g n st e = subst (λ (t : Tree). body_on (goal_body t) (Some st) ≡ Some (call_term t ∷ st)) (sym e) refl

none-there : (g : Tree) (z : ℤ) (st : List Tree) → g ≡ integer z → IsSome (body_on (goal_body g) (Some st)) → ⊥
none-there g z st e h = let k : IsSome (body_on (goal_body (integer z)) (Some st)) = subst (λ (t : Tree). IsSome (body_on (goal_body t) (Some st))) e h in absurd cc

module _ {C : Type 0} (t : Terms C) (p : Met) (is : IsPart t p) where
  pub variable-part : (c : Cell) → p ≡ met.Variable c → IsPart t (met.Variable c)
  variable-part c e = subst (IsPart t) e is

  pub goal-part : (c : Cell) → p ≡ met.Goal c → IsPart t (met.Goal c)
  goal-part c e = subst (IsPart t) e is

  pub joint-part : (f : ℕ) → p ≡ met.Joint f → IsPart t (met.Joint f)
  joint-part f e = subst (IsPart t) e is

  pub no-integer : (c : Cell) (st : List Tree) → p ≡ met.Integer c → IsSome (part_on (part_now t p) (Some st)) → ⊥
  no-integer c st e h =
      let i : IsPart t (met.Integer c) = subst (IsPart t) e is in
      none-there (built t c) i.1.0 st i.1.1 (subst (λ (q : Met). IsSome (part_on (part_now t q) (Some st))) e h)

  pub goal-put : (c : Cell) (old new : List Cell) → p ≡ met.Goal c → new ≡ old ++ c ∷ []
      → part_on (part_now t p) (Some (map (built t) (reverse old))) ≡ Some (map (built t) (reverse new))
  goal-put c old new e put =
      ap (λ (q : Met). part_on (part_now t q) (Some (map (built t) (reverse old)))) e
      ∙ body-there (built t c) (map (built t) (reverse old)) (goal-part c e).1
      ∙ sym (ap (λ (ts : List Tree). Some ts) (last-first (built t) old new c put))

  pub variable-put : (u : Terms C) (g : IsGrown t u) (c d : Cell) (old new : List Cell) → p ≡ met.Variable c → new ≡ old ++ d ∷ [] → All (IsBuilt t) old → built u d ≡ call_term (built t c)
      → part_on (part_now t p) (Some (map (built t) (reverse old))) ≡ Some (map (built u) (reverse new))
  variable-put u g c d old new e put h called =
      let v = variable-part c e in
      ap (λ (q : Met). part_on (part_now t q) (Some (map (built t) (reverse old)))) e
      ∙ called-there (built t c) v.1.0 (map (built t) (reverse old)) v.1.1
      ∙ sym (ap (λ (ts : List Tree). Some ts) (put-one t u g old new d put h ∙ ap (λ (x : Tree). x ∷ map (built t) (reverse old)) called))

  pub joint-two : (f : ℕ) (cs : List Cell) → p ≡ met.Joint f → IsSome (part_on (part_now t p) (Some (map (built t) (reverse cs)))) → 2 ≤ length cs
  joint-two f cs e h = two-there (built t) (text t.names f) cs (subst (λ (q : Met). IsSome (part_on (part_now t q) (Some (map (built t) (reverse cs))))) e h)

  pub joint-put : (f : ℕ) (st : List Tree) (o : Option (List Tree)) → p ≡ met.Joint f → joint_on (text t.names f) (Some st) ≡ o → part_on (part_now t p) (Some st) ≡ o
  joint-put f st o e put = ap (λ (q : Met). part_on (part_now t q) (Some st)) e ∙ put
