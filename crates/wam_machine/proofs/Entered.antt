-- Terms that are made one, and clauses that are entered.
use Rattle.std.proofs.Common.{◌≡◌, ℕ, suc, ◌+◌, ◌≤◌, Bool, true, false, List, [], ◌∷◌, ◌++◌, Option, Some, None, refl, sym, ap, ap₂, ◌∙◌, arith, subst, if◌then◌else◌, ◌==◌, nat_lt, map, length}
use Rattle.std.proofs.Math.Path.{fun_ext}
use Rattle.std.specs.Prelude.{IsTrue, option_and_then, max}
use Rattle.std.proofs.lemmas.Bool.{ltb-true, eqb-true}
use Rattle.prolog_terms.specs.Tree.{Tree, Trees, variable, integer, atom, compound, none, more}
use Rattle.prolog_terms.specs.Substitutions.{substituted, renamed, beyond, beyond_all}
use Rattle.prolog_terms.specs.Variables.{met_after, all_met_after, AreNumbered}
use Rattle.prolog_terms.specs.Clauses.{is_body}
use Rattle.term_store.specs.declared.cell.Cell.{Cell}
use Rattle.term_store.specs.declared.cell.Trailed.{Trailed}
use Rattle.term_store.specs.Shape.{Shape}
use Rattle.term_store.specs.Terms.{raw, term_of, meaning, HasTerm, IsUnified, HaveNoUnifier}
use Rattle.term_store.proofs.Laws.{unified-term}
use Rattle.term_unifier.proofs.Trees.{substituted-after}
use Rattle.term_store.specs.Later.{IsLater, back, CanGoBack}
use Rattle.term_unifier.specs.Unifier.{Unifies, IsMostGeneral}
use Rattle.term_unifier.proofs.Known.{known-some, known-none}
use Rattle.wam_machine.specs.declared.terms.Terms.{Terms}
use Rattle.wam_machine.specs.States.{Next, Do, next_under}
use Rattle.wam_machine.specs.Terms.{Said, said, built, IsBuilt, IsGoal, AreTerms, IsSolved, AreEquated}
use Rattle.wam_machine.specs.Control.{is_true_atom, body_goals}
use Rattle.wam_machine.proofs.Grown.{Grows, has_term-grown, meaning-grown, back-later}
use Rattle.wam_machine.proofs.Heights.{unbound_same}
use Rattle.wam_machine.proofs.WellMade.{is_body-substituted}
use Rattle.wam_machine.proofs.Told.{StillGoals, said-under}

-- ---- by a unifier

module _ {C : Type 0} (goals : List Next) (a b : Tree) (old new : Said C) where
  pub equated-some : (m : ℕ → Tree) → IsMostGeneral m a b
      → new ≡ record old { goals = map (next_under m) (goals ++ old.goals); bindings = λ v. substituted m (old.bindings v) } → AreEquated a b goals old new true
  equated-some m h e = subst (IsSolved goals old new true) (sym (known-some _ _ m h)) (refl, e)

  pub equated-none : ((r : ℕ → Tree) → ¬ Unifies r a b) → new ≡ old → AreEquated a b goals old new false
  equated-none h e = subst (IsSolved goals old new false) (sym (known-none _ _ h)) (refl, e)

-- what may be done as a goal still may, whatever its variables stand for
pub body-substituted : (s : ℕ → Tree) (t : Tree) → IsTrue (is_body t) → IsTrue (is_body (substituted s t))
body-substituted s t h = is_body-substituted s t h

-- ---- by a store

-- what can be done still can, whatever is bound
pub still-under : (texts wide : List (List ℕ)) (s u : Shape) → Grows texts wide s u → (m : ℕ → Tree) → ((c : Cell) → HasTerm (length texts) s c → term_of wide u c ≡ substituted m (term_of texts s c))
    → StillGoals texts wide s u
still-under texts wide s u g m e = record {
  goal = λ c h. (has_term-grown texts wide s u g c h.0, subst (λ (x : Tree). IsTrue (is_body x)) (sym (e c h.0)) (body-substituted m (term_of texts s c) h.1));
}

pub equated-unified : {C : Type 0} (t : Terms C) (u : Shape) (a b : Cell) → AreTerms t → Grows t.names t.names t.store u
    → u.compounds ≡ t.store.compounds → u.variables ≡ t.store.variables → IsUnified t.names t.store u a b
    → AreEquated (built t a) (built t b) [] (said t) (said (record t { store = u })) true
unfolding said built
equated-unified {C} t u a b h g rows e (s, most, same) =
    equated-some [] _ _ (said t) _ s most
    (said-under t t.names u h g s (λ c _. unified-term t.names t.store u a b c rows (s, most, same)) (λ v. substituted s (meaning t.names t.store v)) (fun_ext same)
    ∙ ap (λ (n : ℕ). record (said t) { goals = map (next_under s) (said t).goals; bindings = λ v. substituted s (meaning t.names t.store v); fresh = n }) e)

pub equated-refused : {C : Type 0} (goals : List Next) (t : Terms C) (new : Said C) (a b : Cell) → HaveNoUnifier t.names t.store a b → new ≡ said t
    → AreEquated (built t a) (built t b) goals (said t) new false
unfolding built
equated-refused goals t new a b h e = equated-none goals _ _ (said t) new h e

pub still-unified : {C : Type 0} (t : Terms C) (u : Shape) (a b : Cell) → Grows t.names t.names t.store u
    → u.compounds ≡ t.store.compounds → IsUnified t.names t.store u a b → StillGoals t.names t.names t.store u
still-unified t u a b g rows e = still-under t.names t.names t.store u g e.0 (λ c _. unified-term t.names t.store u a b c rows e)

-- back at a mark that was taken before the store grew: all is as it was, but that the new variables stay
pub undone-wider : (m : Trailed) (s u : Shape) (n : ℕ) → CanGoBack m s → back m s ≡ s → IsLater s u → u.variables ≡ n → back m u ≡ record s { variables = n }
undone-wider m s u n c e h v = back-later m s u c h ∙ ap₂ (λ (w : Shape) (k : ℕ). record w { variables = k }) e v

pub undone : (m : Trailed) (s u : Shape) → CanGoBack m s → back m s ≡ s → IsLater s u → u.variables ≡ s.variables → back m u ≡ s
undone m s u c e h v = undone-wider m s u s.variables c e h v

-- ---- a clause's variables

met-variable : (n k j : ℕ) (b c : Bool) → nat_lt n k ≡ b → (n == k) ≡ c → (if b then Some k else (if c then Some (k + 1) else None)) ≡ Some j
    → (k ≤ j) × (suc n ≤ j)
met-variable n k j true c p q e = let low = ltb-true n k p in let f : k ≡ j = cc in (omega arith, omega arith)
met-variable n k j false true p q e = let same = eqb-true n k q in let f : k + 1 ≡ j = cc in (omega arith, omega arith)
met-variable n k j false false p q e = absurd (cc e)

met-both : (x y k j : ℕ) (o : Option ℕ) (f : ℕ → Option ℕ) → ((i : ℕ) → o ≡ Some i → (k ≤ i) × (x ≤ i)) → ((i : ℕ) → f i ≡ Some j → (i ≤ j) × (y ≤ j))
    → option_and_then f o ≡ Some j → (k ≤ j) × (max x y ≤ j)
met-both x y k j None f a b e = absurd (cc e)
met-both x y k j (Some i) f a b e =
    let h = a i refl in let l = b i e in
    let u = h.0 in let v = h.1 in let w = l.0 in let z = l.1 in (omega (arith, u, w), omega (arith, v, w, z))

mutual
  pub met-beyond : (t : Tree) (k j : ℕ) → met_after t k ≡ Some j → (k ≤ j) × (beyond t ≤ j)
  met-beyond (variable n) k j e = met-variable n k j (nat_lt n k) (n == k) refl refl e
  met-beyond (integer z) k j e = let f : k ≡ j = cc in (omega arith, omega arith)
  met-beyond (atom a) k j e = let f : k ≡ j = cc in (omega arith, omega arith)
  met-beyond (compound f ts) k j e = all-met-beyond ts k j e

  all-met-beyond : (ts : Trees) (k j : ℕ) → all_met_after ts k ≡ Some j → (k ≤ j) × (beyond_all ts ≤ j)
  all-met-beyond none k j e = let f : k ≡ j = cc in (omega arith, omega arith)
  all-met-beyond (more t ts) k j e =
      met-both (beyond t) (beyond_all ts) k j (met_after t k) (all_met_after ts) (λ i p. met-beyond t k i p) (λ i q. all-met-beyond ts i j q) e

-- the variables of head and body are numbered below the clause's count
pub numbered-below : (head body : Tree) (vars : ℕ) → AreNumbered head body vars → (beyond head ≤ vars) × (beyond body ≤ vars)
numbered-below head body vars e = go (met_after head 0) refl e
  where
    go : (o : Option ℕ) → met_after head 0 ≡ o → option_and_then (met_after body) o ≡ Some vars → (beyond head ≤ vars) × (beyond body ≤ vars)
    go None p q = absurd (cc q)
    go (Some k) p q =
        let a = met-beyond head 0 k p in let b = met-beyond body k vars q in
        let v = a.1 in let w = b.0 in (omega (arith, v, w), b.1)

-- ---- a clause's body

pub body_goals-one : (body : Tree) → is_true_atom body ≡ false → body_goals body ≡ body ∷ []
body_goals-one body e = ap (λ (b : Bool). if b then [] else body ∷ []) e

-- goals whose variables are new ones, under a unifier
pub new-under : (s b : ℕ → Tree) (from cut : ℕ) (gs : List Tree) → ((v : ℕ) → from ≤ v → b v ≡ variable v)
    → map (λ (g : Tree). Do (substituted (λ v. substituted s (b v)) (renamed from g)) cut) gs ≡ map (next_under s) (map (λ (g : Tree). Do (renamed from g) cut) gs)
new-under s b from cut [] free = refl
new-under s b from cut (g ∷ gs) free =
    ap₂ (λ (t : Tree) (ns : List Next). Do t cut ∷ ns)
    (sym (substituted-after s b (renamed from g)) ∙ ap (substituted s) (unbound_same b from g free))
    (new-under s b from cut gs free)

-- ---- the body that is put

pub body-is_goal : {C : Type 0} (t : Terms C) (cell : Cell) (from : ℕ) (body : Tree) → HasTerm (length t.names) t.store cell
    → raw t.names t.store cell ≡ renamed from body → IsTrue (is_body body) → IsGoal t cell
unfolding built IsBuilt
body-is_goal t cell from body h e b = record {
  built_is = h;
  body = subst (λ (x : Tree). IsTrue (is_body (substituted (meaning t.names t.store) x))) (sym e)
      (body-substituted (meaning t.names t.store) (renamed from body) (body-substituted (λ v. variable (from + v)) body b));
}

-- it stands for what it is under the bindings
pub body-built : {C : Type 0} (t : Terms C) (wide : List (List ℕ)) (u : Shape) → AreTerms t → Grows t.names wide t.store u → u.bindings ≡ t.store.bindings
    → (cell : Cell) (from : ℕ) (body : Tree) → raw wide u cell ≡ renamed from body
    → built (record t { store = u; names = wide }) cell ≡ substituted (said t).bindings (renamed from body)
unfolding said built
body-built t wide u h g e cell from body r = ap₂ (λ (m : ℕ → Tree) (x : Tree). substituted m x) (meaning-grown t.names wide t.store u g e) r

pub said-pushed : {C : Type 0} (old new next : Said C) (goal : Tree) (from cut : ℕ) (body : Tree) → is_true_atom body ≡ false → new ≡ old → goal ≡ substituted old.bindings (renamed from body)
    → next ≡ record new { goals = Do goal cut ∷ new.goals }
    → next ≡ record old { goals = map (λ (g : Tree). Do (substituted old.bindings (renamed from g)) cut) (body_goals body) ++ old.goals }
said-pushed {C} old new next goal from cut body f p q e =
    e ∙ ap₂ (λ (x : Said C) (b : Tree). record x { goals = Do b cut ∷ x.goals }) p q
    ∙ ap (λ (gs : List Tree). record old { goals = map (λ (g : Tree). Do (substituted old.bindings (renamed from g)) cut) gs ++ old.goals }) (sym (body_goals-one body f))
