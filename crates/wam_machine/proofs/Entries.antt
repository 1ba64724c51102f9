-- Terms whose variables are new ones: one that is put, and the head of a clause that is entered.
use Rattle.std.proofs.Common.{◌≡◌, ℕ, ◌+◌, ◌≤◌, Bool, true, false, List, [], ◌++◌, length, map, Option, Some, None, refl, sym, ap, ap₂, ◌∙◌, arith, subst}
use Rattle.std.specs.Prelude.{IsTrue, IsFalse, codes, is_some, option_map, option_and_then}
use Rattle.std.proofs.Math.Path.{fun_ext}
use Rattle.prolog_terms.specs.Tree.{Tree, variable}
use Rattle.prolog_terms.specs.Faults.{two}
use Rattle.prolog_terms.specs.Substitutions.{substituted, renamed}
use Rattle.prolog_terms.specs.declared.entry.Clause.{Clause}
use Rattle.term_store.specs.declared.cell.Cell.{Cell}
use Rattle.term_store.specs.Shape.{Shape}
use Rattle.term_store.specs.Terms.{raw, meaning, term_of, HasTerm, AreNamed, IsShape, IsUnified, HaveNoUnifier}
use Rattle.term_store.specs.Later.{IsLater, AreLonger, AreDistinct}
use Rattle.term_store.specs.Heads.{IsMadeOne, CannotBeOne}
use Rattle.term_unifier.specs.Unifier.{Unifies, IsMostGeneral, unifier}
use Rattle.term_unifier.proofs.Trees.{substituted-after}
use Rattle.term_unifier.proofs.Known.{known-some, known-none}
use Rattle.wam_machine.specs.declared.terms.Terms.{Terms}
use Rattle.wam_machine.specs.declared.terms.Use.{Use}
use Rattle.wam_machine.specs.declared.terms.Use.TheVariants as use_is
use Rattle.wam_machine.specs.Control.{body_goals}
use Rattle.wam_machine.specs.States as spec
use Rattle.wam_machine.specs.States.{Next, Do, next_under}
use Rattle.wam_machine.specs.Procedures.{body_from, side_of_clause, side_of_call, first_goals}
use Rattle.wam_machine.specs.Terms.{Said, said, built, use_of, IsBuilt, AreTerms, KeepsCells, IsSolved, AreEquated, IsEntered, IsCompared}
use Rattle.std.proofs.lemmas.List.{map-append}
use Rattle.term_store.proofs.Laws.{later-itself, later-further, later-variables, longer-itself, longer-length, are_named-more, are_named-variables, free-meaning, new-free}
use Rattle.wam_machine.proofs.Grown.{Grows, has_term-grown, raw-grown, meaning-grown}
use Rattle.wam_machine.proofs.Heights.{unbound_same, engine_laws}
use Rattle.term_unifier.proofs.Pairs.{in_turn, second-turn}
use Rattle.wam_machine.proofs.Told.{still-unbound, term-grown, terms-later, stack-later, said-wider, said-still, said-under, cells-later}
use Rattle.wam_machine.proofs.Entered.{equated-some, equated-unified, still-under, still-unified, new-under, body-built}

-- ---- a variable that isn't there yet stands for itself

free-new : (s : Shape) (texts : List (List ℕ)) → IsShape s → (v : ℕ) → s.variables ≤ v → meaning texts s v ≡ variable v
free-new s texts formed v le = free-meaning s texts v (new-free s v formed le)

-- ---- a term is put

-- what is known once it is put: `f` has the new variables, and `u` the term
pub record IsPut {C : Type 0} (t : Terms C) (more : List (List ℕ)) (f u : Shape) (vars : ℕ) : Type 0 where
  pub terms : AreTerms t
  pub formed : IsShape t.store
  pub fresh : f ≡ record t.store { variables = t.store.variables + vars }
  pub later : IsLater f u
  pub bindings : u.bindings ≡ f.bindings
  pub variables : u.variables ≡ f.variables
  pub longer : AreLonger t.names more
  pub distinct : AreDistinct more

module _ {C : Type 0} (t : Terms C) (more : List (List ℕ)) (f u : Shape) (vars : ℕ) (p : IsPut t more f u vars) where
  later-fresh : IsLater t.store f
  later-fresh = subst (λ (s : Shape). IsLater t.store s) (sym p.fresh) (later-variables t.store (t.store.variables + vars) (omega arith))

  pub grows-put : Grows t.names more t.store u
  grows-put = record { formed = p.formed; named = p.terms.named; later = later-further t.store f u later-fresh p.later; longer = p.longer }

  pub bindings-put : u.bindings ≡ t.store.bindings
  bindings-put = p.bindings ∙ ap (λ (s : Shape). s.bindings) p.fresh

  pub head-term : (head : Cell) (from : ℕ) (tree : Tree) → from ≡ t.store.variables → raw more u head ≡ renamed from tree
      → term_of more u head ≡ renamed (said t).fresh tree
  unfolding said
  head-term head from tree e r =
      ap₂ (λ (m : ℕ → Tree) (x : Tree). substituted m x) (meaning-grown t.names more t.store u grows-put bindings-put) (r ∙ ap (λ n. renamed n tree) e)
      ∙ unbound_same (meaning t.names t.store) t.store.variables tree (free-new t.store t.names p.formed)

-- ---- a clause's head and a goal are made one, or can't be

-- what is known once that was tried: `u` has the new variables, and what was bound
pub record IsMet {C : Type 0} (t : Terms C) (more : List (List ℕ)) (u : Shape) : Type 0 where
  pub terms : AreTerms t
  pub formed : IsShape t.store
  pub later : IsLater t.store u
  pub longer : AreLonger t.names more
  pub distinct : AreDistinct more
  pub named : AreNamed (length more) u

module _ {C : Type 0} (t : Terms C) (more : List (List ℕ)) (u : Shape) (p : IsMet t more u) where
  grows-met : Grows t.names more t.store u
  grows-met = record { formed = p.formed; named = p.terms.named; later = p.later; longer = p.longer }

  pub stack-met : (said (record t { store = u; names = more })).stack ≡ (said t).stack
  stack-met = stack-later t more u p.terms grows-met

  -- the new names change nothing of what was there
  grows-names : Grows t.names more t.store t.store
  grows-names = record { formed = p.formed; named = p.terms.named; later = later-itself t.store; longer = p.longer }

  meaning-names : meaning more t.store ≡ meaning t.names t.store
  meaning-names = meaning-grown t.names more t.store t.store grows-names refl

  goal-names : (goal : Cell) → IsBuilt t goal → term_of more t.store goal ≡ built t goal
  unfolding built IsBuilt
  goal-names goal b = term-grown t.names more t.store t.store grows-names refl goal b

  module _ (clause : Clause) (cut : ℕ) (goal : Cell) (goal_is : IsBuilt t goal) where
    -- ---- back as it was, but for the new variables

    module _ (w : Shape) (e : w ≡ record t.store { variables = t.store.variables + clause.vars }) where
      grows-undone : Grows t.names more t.store w
      grows-undone = record {
        formed = p.formed;
        named = p.terms.named;
        later = subst (λ (s : Shape). IsLater t.store s) (sym e) (later-variables t.store (t.store.variables + clause.vars) (omega arith));
        longer = p.longer;
      }

      bindings-undone : w.bindings ≡ t.store.bindings
      bindings-undone = ap (λ (s : Shape). s.bindings) e

      pub terms-refused : AreTerms (record t { store = w; names = more })
      terms-refused =
          terms-later t more w p.terms grows-undone (still-unbound t.names more t.store w grows-undone bindings-undone) p.distinct
          (subst (λ (s : Shape). AreNamed (length more) s) (sym e)
          (are_named-variables (length more) (t.store.variables + clause.vars) t.store (are_named-more (length t.names) (length more) t.store (longer-length t.names more p.longer) p.terms.named)))

      said-refused : said (record t { store = w; names = more }) ≡ record (said t) { fresh = (said t).fresh + clause.vars }
      unfolding said
      said-refused =
          said-wider t more w p.terms grows-undone bindings-undone
          ∙ ap (λ (n : ℕ). record (said t) { fresh = n }) (ap (λ (s : Shape). s.variables) e)

      pub cells-refused : KeepsCells t (record t { store = w; names = more })
      cells-refused = cells-later t more w p.terms grows-undone bindings-undone

      -- where the two sides have no unifier
      pub entered-refused : (used : spec.Use) → unifier (renamed (said t).fresh (side_of_clause used clause)) (side_of_call used (built t goal)) ≡ None
          → IsEntered used (built t goal) clause cut (said t) (said (record t { store = w; names = more })) false
      entered-refused used h =
          subst (IsSolved (first_goals used (said t).fresh cut clause) (record (said t) { fresh = (said t).fresh + clause.vars }) (said (record t { store = w; names = more })) false)
          (sym h) (refl, said-refused)

      pub compared-refused : (met : Bool) → met ≡ is_some (unifier (renamed (said t).fresh clause.head) (built t goal))
          → IsCompared (built t goal) clause (said t) (said (record t { store = w; names = more })) met
      compared-refused met h = (said-refused, h)

    -- ---- head and goal

    head-none : CannotBeOne more t.store (renamed t.store.variables clause.head) goal → unifier (renamed (said t).fresh clause.head) (built t goal) ≡ None
    unfolding said
    head-none h = known-none _ _ (λ k. subst (λ (x : Tree). ¬ Unifies k (renamed (said t).fresh clause.head) x) (goal-names goal goal_is) (h k))

    head-some : (one : IsMadeOne more t.store u (renamed t.store.variables clause.head) goal) → IsMostGeneral one.0 (renamed (said t).fresh clause.head) (built t goal)
    unfolding said
    head-some one = subst (λ (x : Tree). IsMostGeneral one.0 (renamed (said t).fresh clause.head) x) (goal-names goal goal_is) one.1

    pub head-met : (met : Bool) → (IsTrue met → IsMadeOne more t.store u (renamed t.store.variables clause.head) goal)
        → (IsFalse met → CannotBeOne more t.store (renamed t.store.variables clause.head) goal) → met ≡ is_some (unifier (renamed (said t).fresh clause.head) (built t goal))
    head-met true some none = sym (ap is_some (known-some _ _ (some refl).0 (head-some (some refl))))
    head-met false some none = sym (ap is_some (head-none (none refl)))

    -- where they have no unifier the two sides have none
    sides-none : (used : Use) → unifier (renamed (said t).fresh clause.head) (built t goal) ≡ None
        → unifier (renamed (said t).fresh (side_of_clause (use_of (built t) used) clause)) (side_of_call (use_of (built t) used) (built t goal)) ≡ None
    sides-none use_is.Enter h = h
    sides-none (use_is.Match purpose body) h =
        in_turn (codes ":-") (renamed (said t).fresh clause.head) (built t goal) (renamed (said t).fresh clause.body) (built t body)
        ∙ ap (λ (o : Option (ℕ → Tree)). option_and_then (λ m. option_map (λ n v. substituted n (m v)) (unifier (substituted m (renamed (said t).fresh clause.body)) (substituted m (built t body)))) o) h

    pub sides-refused : (used : Use) → CannotBeOne more t.store (renamed t.store.variables clause.head) goal
        → unifier (renamed (said t).fresh (side_of_clause (use_of (built t) used) clause)) (side_of_call (use_of (built t) used) (built t goal)) ≡ None
    sides-refused used h = sides-none used (head-none h)

    -- ---- and on with a unifier

    module _ (variables : u.variables ≡ t.store.variables + clause.vars) (one : IsMadeOne more t.store u (renamed t.store.variables clause.head) goal) where
      bindings-met : meaning more u ≡ (λ v. substituted one.0 (meaning t.names t.store v))
      bindings-met = fun_ext (λ (v : ℕ). one.2 v ∙ ap (λ (k : ℕ → Tree). substituted one.0 (k v)) meaning-names)

      cell-met : (c : Cell) → HasTerm (length t.names) t.store c → term_of more u c ≡ substituted one.0 (term_of t.names t.store c)
      cell-met c h =
          ap₂ (λ (m : ℕ → Tree) (x : Tree). substituted m x) bindings-met (raw-grown t.names more t.store u grows-met c h)
          ∙ sym (substituted-after one.0 (meaning t.names t.store) (raw t.names t.store c))

      pub terms-entered : AreTerms (record t { store = u; names = more })
      terms-entered = terms-later t more u p.terms grows-met (still-under t.names more t.store u grows-met one.0 cell-met) p.distinct p.named

      said-entered : said (record t { store = u; names = more }) ≡ record (said t) { goals = map (next_under one.0) (said t).goals; bindings = λ v. substituted one.0 ((said t).bindings v); fresh = (said t).fresh + clause.vars }
      unfolding said
      said-entered =
          said-under t more u p.terms grows-met one.0 cell-met (λ v. substituted one.0 (meaning t.names t.store v)) bindings-met
          ∙ ap (λ (n : ℕ). record (said t) { goals = map (next_under one.0) (said t).goals; bindings = λ v. substituted one.0 (meaning t.names t.store v); fresh = n }) variables

      free-said : (v : ℕ) → (said t).fresh ≤ v → (said t).bindings v ≡ variable v
      unfolding said
      free-said v le = free-new t.store t.names p.formed v le

      most-general : IsMostGeneral one.0 (renamed (said t).fresh clause.head) (built t goal)
      most-general = head-some one

      first-is : (from : ℕ) → from ≡ t.store.variables → from ≡ (said t).fresh
      unfolding said
      first-is from e = e

      pub entered-met : (from : ℕ) → from ≡ t.store.variables
          → (next : Said C) → next ≡ record (said (record t { store = u; names = more })) {
            goals = map (λ (g : Tree). Do (substituted (said (record t { store = u; names = more })).bindings (renamed from g)) cut) (body_goals clause.body) ++ (said (record t { store = u; names = more })).goals;
          }
          → IsEntered spec.Enter (built t goal) clause cut (said t) next true
      entered-met from first next e =
          let s = one.0 in
          let gs = body_from (said t).fresh cut clause in
          let put = λ (i : ℕ) (x : Said C). record x { goals = map (λ (g : Tree). Do (substituted x.bindings (renamed i g)) cut) (body_goals clause.body) ++ x.goals } in
          equated-some gs (renamed (said t).fresh clause.head) (built t goal) (record (said t) { fresh = (said t).fresh + clause.vars }) next s most-general
          (e ∙ ap₂ put (first-is from first) said-entered
          ∙ ap (λ (ns : List Next). record (said t) { goals = ns ++ map (next_under s) (said t).goals; bindings = λ v. substituted s ((said t).bindings v); fresh = (said t).fresh + clause.vars })
          (new-under s (said t).bindings (said t).fresh cut (body_goals clause.body) free-said)
          ∙ ap (λ (ns : List Next). record (said t) { goals = ns; bindings = λ v. substituted s ((said t).bindings v); fresh = (said t).fresh + clause.vars })
          (sym (map-append (next_under s) gs (said t).goals)))

      -- ---- then the bodies

      module _ (from : ℕ) (first : from ≡ t.store.variables) (body : Cell) (body_is : IsBuilt t body) where
        clause-body : substituted (said (record t { store = u; names = more })).bindings (renamed from clause.body) ≡ substituted one.0 (renamed (said t).fresh clause.body)
        clause-body =
            ap₂ (λ (m : ℕ → Tree) (n : ℕ). substituted m (renamed n clause.body)) (ap (λ (x : Said C). x.bindings) said-entered) (first-is from first)
            ∙ sym (substituted-after one.0 (said t).bindings (renamed (said t).fresh clause.body))
            ∙ ap (substituted one.0) (unbound_same (said t).bindings (said t).fresh clause.body free-said)

        call-body : built (record t { store = u; names = more }) body ≡ substituted one.0 (built t body)
        unfolding built IsBuilt
        call-body = cell-met body body_is

        bodies-are : unifier (substituted (said (record t { store = u; names = more })).bindings (renamed from clause.body)) (built (record t { store = u; names = more }) body)
            ≡ unifier (substituted one.0 (renamed (said t).fresh clause.body)) (substituted one.0 (built t body))
        bodies-are = ap₂ (λ (x y : Tree). unifier x y) clause-body call-body

        sides-are : (o : Option (ℕ → Tree))
            → unifier (substituted (said (record t { store = u; names = more })).bindings (renamed from clause.body)) (built (record t { store = u; names = more }) body) ≡ o
            → unifier (two (codes ":-") (renamed (said t).fresh clause.head) (renamed (said t).fresh clause.body)) (two (codes ":-") (built t goal) (built t body))
            ≡ option_map (λ n v. substituted n (one.0 v)) o
        sides-are o e =
            second-turn (codes ":-") (renamed (said t).fresh clause.head) (built t goal) (renamed (said t).fresh clause.body) (built t body) one.0 most-general
            ∙ ap (λ (x : Option (ℕ → Tree)). option_map (λ n v. substituted n (one.0 v)) x) (sym bodies-are ∙ e)

        pub bodies-refused : (purpose : spec.Purpose)
            → unifier (substituted (said (record t { store = u; names = more })).bindings (renamed from clause.body)) (built (record t { store = u; names = more }) body) ≡ None
            → unifier (renamed (said t).fresh (side_of_clause (spec.Match purpose (built t body)) clause)) (side_of_call (spec.Match purpose (built t body)) (built t goal)) ≡ None
        bodies-refused purpose h = sides-are None h

        twice : (n : ℕ → Tree)
            → record (said (record t { store = u; names = more })) {
              goals = map (next_under n) (said (record t { store = u; names = more })).goals;
              bindings = λ v. substituted n ((said (record t { store = u; names = more })).bindings v);
            }
            ≡ record (said t) {
              goals = map (next_under (λ v. substituted n (one.0 v))) (said t).goals;
              bindings = λ v. substituted (λ w. substituted n (one.0 w)) ((said t).bindings v);
              fresh = (said t).fresh + clause.vars;
            }
        twice n =
            ap (λ (x : Said C). record x { goals = map (next_under n) x.goals; bindings = λ v. substituted n (x.bindings v) }) said-entered
            ∙ ap₂ (λ (gs : List Next) (b : ℕ → Tree). record (said t) { goals = gs; bindings = b; fresh = (said t).fresh + clause.vars })
            (engine_laws.under n one.0 (said t).goals) (fun_ext (λ v. substituted-after n one.0 ((said t).bindings v)))

        pub bodies-met : (purpose : spec.Purpose) (next : Said C)
            → AreEquated (substituted (said (record t { store = u; names = more })).bindings (renamed from clause.body)) (built (record t { store = u; names = more }) body) []
            (said (record t { store = u; names = more })) next true
            → IsEntered (spec.Match purpose (built t body)) (built t goal) clause cut (said t) next true
        bodies-met purpose next e =
            go (unifier (substituted (said (record t { store = u; names = more })).bindings (renamed from clause.body)) (built (record t { store = u; names = more }) body)) refl e
          where
            go : (o : Option (ℕ → Tree))
                → unifier (substituted (said (record t { store = u; names = more })).bindings (renamed from clause.body)) (built (record t { store = u; names = more }) body) ≡ o
                → IsSolved [] (said (record t { store = u; names = more })) next true o
                → IsEntered (spec.Match purpose (built t body)) (built t goal) clause cut (said t) next true
            go None q h = absurd (let f : ◌≡◌ {A = Bool} true false = h.0 in cc f)
            go (Some n) q h =
                subst (IsSolved [] (record (said t) { fresh = (said t).fresh + clause.vars }) next true) (sym (sides-are (Some n) q)) (refl, h.1 ∙ twice n)

-- ---- a body that is put, and made one with a cell

-- what is known then: `u` has the body's term, and `w` what was bound
pub record IsBodied {C : Type 0} (t : Terms C) (wide : List (List ℕ)) (u w : Shape) : Type 0 where
  pub terms : AreTerms t
  pub formed : IsShape t.store
  pub later : IsLater t.store u
  pub bindings : u.bindings ≡ t.store.bindings
  pub variables : u.variables ≡ t.store.variables
  pub longer : AreLonger t.names wide
  pub distinct : AreDistinct wide
  pub named : AreNamed (length wide) u
  pub formed_then : IsShape u
  pub after : IsLater u w
  pub compounds : w.compounds ≡ u.compounds
  pub same : w.variables ≡ u.variables

module _ {C : Type 0} (t : Terms C) (wide : List (List ℕ)) (u w : Shape) (p : IsBodied t wide u w) where
  grows-body : Grows t.names wide t.store u
  grows-body = record { formed = p.formed; named = p.terms.named; later = p.later; longer = p.longer }

  grows-bound : Grows wide wide u w
  grows-bound = record { formed = p.formed_then; named = p.named; later = p.after; longer = longer-itself wide }

  terms-put : AreTerms (record t { store = u; names = wide })
  terms-put = terms-later t wide u p.terms grows-body (still-unbound t.names wide t.store u grows-body p.bindings) p.distinct p.named

  said-put : said (record t { store = u; names = wide }) ≡ said t
  said-put = said-still t wide u p.terms grows-body p.bindings p.variables

  module _ (cell : Cell) (cell_is : IsBuilt t cell) where
    pub cell-put : HasTerm (length wide) u cell
    unfolding IsBuilt
    cell-put = has_term-grown t.names wide t.store u grows-body cell cell_is

    cell-term : built (record t { store = u; names = wide }) cell ≡ built t cell
    cell-term = (cells-later t wide u p.terms grows-body p.bindings cell cell_is).1

    module _ (whole : Cell) (from : ℕ) (body : Tree) (is : raw wide u whole ≡ renamed from body) where
      whole-term : built (record t { store = u; names = wide }) whole ≡ substituted (said t).bindings (renamed from body)
      whole-term = body-built t wide u p.terms grows-body p.bindings whole from body is

      terms-none : HaveNoUnifier wide u whole cell → unifier (built (record t { store = u; names = wide }) whole) (built (record t { store = u; names = wide }) cell) ≡ None
      unfolding built
      terms-none h = known-none _ _ h

      pub body-refused : HaveNoUnifier wide u whole cell → unifier (substituted (said t).bindings (renamed from body)) (built t cell) ≡ None
      body-refused h = ap₂ (λ (x y : Tree). unifier x y) (sym whole-term) (sym cell-term) ∙ terms-none h

      module _ (one : IsUnified wide u w whole cell) where
        pub terms-body : AreNamed (length wide) w → AreTerms (record t { store = w; names = wide })
        terms-body named =
            terms-later (record t { store = u; names = wide }) wide w terms-put grows-bound
            (still-unified (record t { store = u; names = wide }) w whole cell grows-bound p.compounds one) p.distinct named

        pub body-met : AreEquated (substituted (said t).bindings (renamed from body)) (built t cell) [] (said t) (said (record t { store = w; names = wide })) true
        body-met =
            subst (λ (x : Said C). AreEquated (substituted (said t).bindings (renamed from body)) (built t cell) [] x (said (record t { store = w; names = wide })) true) said-put
            (subst (λ (x : Tree). AreEquated x (built t cell) [] (said (record t { store = u; names = wide })) (said (record t { store = w; names = wide })) true) whole-term
            (subst (λ (x : Tree). AreEquated (built (record t { store = u; names = wide }) whole) x [] (said (record t { store = u; names = wide })) (said (record t { store = w; names = wide })) true) cell-term
            (equated-unified (record t { store = u; names = wide }) w whole cell terms-put grows-bound p.compounds p.same one)))
