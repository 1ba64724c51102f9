-- What the call of a builtin on terms does to what the engine's terms say.
use Rattle.std.proofs.Common.{◌≡◌, ℕ, ◌+◌, true, false, List, [], ◌∷◌, All, length, map, refl, sym, ap, ap₂, ◌∙◌, subst}
use Rattle.std.proofs.Math.Path.{fun_ext}
use Rattle.std.proofs.lemmas.List.Elements.{All-head, All-tail}
use Rattle.prolog_terms.specs.Tree.{Tree, Trees, more}
use Rattle.prolog_terms.specs.Operators.{Table}
use Rattle.prolog_terms.specs.Substitutions.{substituted}
use Rattle.prolog_terms.specs.declared.entry.Indicator.{Indicator}
use Rattle.prolog_writer.specs.Pieces.{written}
use Rattle.prolog_writer.specs.declared.style.Style.{Style}
use Rattle.term_unifier.proofs.Trees.{substituted-after}
use Rattle.term_store.proofs.Laws.{later-itself}
use Rattle.term_store.specs.Shape.{Shape}
use Rattle.term_store.specs.Terms.{raw, term_of, trees_of, meaning as stands_for, HasTerm}
use Rattle.term_store.specs.declared.cell.Cell.{Cell}
use Rattle.term_builtins.specs.Answers.{IsDone, row_at}
use Rattle.term_builtins.specs.Meanings.{Meaning, Holds, Equates, Writes, Puts, Raises, meaning}
use Rattle.term_builtins.specs.Table.{builtins, indicator}
use Rattle.term_builtins.specs.declared.run.Did.TheVariants as did
use Rattle.wam_machine.specs.Called.{IsCalled, IsRowCalled}
use Rattle.wam_machine.specs.States.{next_under}
use Rattle.wam_machine.specs.Terms.{Said, said, built, IsBuilt, AreTerms}
use Rattle.wam_machine.specs.declared.builtins.Called.TheVariants as called
use Rattle.wam_machine.specs.declared.terms.Terms.{Terms}
use Rattle.wam_machine.proofs.Entered.{equated-some, equated-none, still-under}
use Rattle.wam_machine.proofs.Grown.{Grows, raw-grown, meaning-grown}
use Rattle.wam_machine.proofs.Told.{StillGoals, still-unbound, said-still, said-wider, said-under, term-grown}

module _ {C : Type 0} (t : Terms C) (wide : List (List ℕ)) (u : Shape) (h : AreTerms t) (g : Grows t.names wide t.store u) where
  -- the store that it was, under the names of now
  same-store : Grows t.names wide t.store t.store
  same-store = record { formed = g.formed; named = g.named; later = later-itself t.store; longer = g.longer }

  pub args-same : (args : List Cell) → All (IsBuilt t) args → trees_of (term_of wide t.store) args ≡ trees_of (built t) args
  unfolding built IsBuilt
  args-same [] k = refl
  args-same (c ∷ cs) k =
      ap₂ (λ (x : Tree) (xs : Trees). more x xs) (term-grown t.names wide t.store t.store same-store refl c (All-head (HasTerm (length t.names) t.store) c cs k))
      (args-same cs (All-tail (HasTerm (length t.names) t.store) c cs k))

  module _ (s : ℕ → Tree) (same : (v : ℕ) → stands_for wide u v ≡ substituted s (stands_for wide t.store v)) where
    bindings-are : stands_for wide u ≡ (λ v. substituted s (stands_for t.names t.store v))
    bindings-are = fun_ext (λ v. same v ∙ ap (λ (m : ℕ → Tree). substituted s (m v)) (meaning-grown t.names wide t.store t.store same-store refl))

    -- cells stand for what they stood for under the unifier
    pub cells-under : (c : Cell) → HasTerm (length t.names) t.store c → term_of wide u c ≡ substituted s (term_of t.names t.store c)
    cells-under c k =
        ap₂ (λ (m : ℕ → Tree) (x : Tree). substituted m x) bindings-are (raw-grown t.names wide t.store u g c k)
        ∙ sym (substituted-after s (stands_for t.names t.store) (raw t.names t.store c))

    pub still-equated : StillGoals t.names wide t.store u
    still-equated = still-under t.names wide t.store u g s cells-under

    pub said-equated : (added : ℕ) → u.variables ≡ t.store.variables + added
        → said (record t { store = u; names = wide }) ≡ record (said t) { goals = map (next_under s) (said t).goals; bindings = λ v. substituted s ((said t).bindings v); fresh = (said t).fresh + added }
    unfolding said
    said-equated added e =
        said-under t wide u h g s cells-under (λ v. substituted s (stands_for t.names t.store v)) bindings-are
        ∙ ap (λ (n : ℕ). let r : Said C = record (said t) { goals = map (next_under s) (said t).goals; bindings = λ v. substituted s ((said t).bindings v); fresh = n } in r) e

  module _ (at : Indicator) where
    -- the goals that are still to be done still can be
    pub still-yes : (m : Meaning) → IsDone wide t.store u at m did.Yes → StillGoals t.names wide t.store u
    still-yes (Holds true) d = still-unbound t.names wide t.store u g d.1
    still-yes (Holds false) d = absurd d
    still-yes (Equates added a b) d = still-equated d.1.0 d.1.2
    still-yes (Writes style w) d = absurd d
    still-yes (Puts bytes) d = absurd d
    still-yes (Raises fault) d = absurd d

    pub still-no : (m : Meaning) → IsDone wide t.store u at m did.No → StillGoals t.names wide t.store u
    still-no (Holds true) d = absurd d
    still-no (Holds false) d = still-unbound t.names wide t.store u g d.1
    still-no (Equates added a b) d = still-unbound t.names wide t.store u g d.1
    still-no (Writes style w) d = absurd d
    still-no (Puts bytes) d = absurd d
    still-no (Raises fault) d = absurd d

    pub still-ball : (ball : Tree) (m : Meaning) → IsDone wide t.store u at m (did.Ball ball) → StillGoals t.names wide t.store u
    still-ball ball (Holds b) d = absurd d
    still-ball ball (Equates added a b) d = absurd d
    still-ball ball (Writes style w) d = absurd d
    still-ball ball (Puts bytes) d = absurd d
    still-ball ball (Raises fault) d = still-unbound t.names wide t.store u g d.1.1

    pub still-wrote : (s : Style) (v : Tree) (m : Meaning) → IsDone wide t.store u at m (did.Wrote s v) → StillGoals t.names wide t.store u
    still-wrote s v (Holds b) d = absurd d
    still-wrote s v (Equates added a b) d = absurd d
    still-wrote s v (Writes style w) d = still-unbound t.names wide t.store u g d.2.1
    still-wrote s v (Puts bytes) d = absurd d
    still-wrote s v (Raises fault) d = absurd d

    pub still-put : (b : List ℕ) (m : Meaning) → IsDone wide t.store u at m (did.Put b) → StillGoals t.names wide t.store u
    still-put b (Holds c) d = absurd d
    still-put b (Equates added a c) d = absurd d
    still-put b (Writes style w) d = absurd d
    still-put b (Puts bytes) d = still-unbound t.names wide t.store u g d.1.1
    still-put b (Raises fault) d = absurd d

    module _ (ops : Table) where
      pub called-yes : (m : Meaning) → IsDone wide t.store u at m did.Yes → IsCalled ops at m (said t) (said (record t { store = u; names = wide })) called.Yes
      unfolding said
      called-yes (Holds true) d = (refl, said-still t wide u h g d.1 d.0)
      called-yes (Holds false) d = absurd d
      called-yes (Equates added a b) d = equated-some [] a b (record (said t) { fresh = (said t).fresh + added }) _ d.1.0 d.1.1 (said-equated d.1.0 d.1.2 added d.0)
      called-yes (Writes style w) d = absurd d
      called-yes (Puts bytes) d = absurd d
      called-yes (Raises fault) d = absurd d

      pub called-no : (m : Meaning) → IsDone wide t.store u at m did.No → IsCalled ops at m (said t) (said (record t { store = u; names = wide })) called.No
      unfolding said
      called-no (Holds true) d = absurd d
      called-no (Holds false) d = (refl, said-still t wide u h g d.1 d.0)
      called-no (Equates added a b) d = equated-none [] a b (record (said t) { fresh = (said t).fresh + added }) _ d.2
          (said-wider t wide u h g d.1 ∙ ap (λ (n : ℕ). let r : Said C = record (said t) { fresh = n } in r) d.0)
      called-no (Writes style w) d = absurd d
      called-no (Puts bytes) d = absurd d
      called-no (Raises fault) d = absurd d

      pub called-ball : (ball : Tree) (m : Meaning) → IsDone wide t.store u at m (did.Ball ball) → IsCalled ops at m (said t) (said (record t { store = u; names = wide })) (called.Ball ball)
      called-ball ball (Holds b) d = absurd d
      called-ball ball (Equates added a b) d = absurd d
      called-ball ball (Writes style w) d = absurd d
      called-ball ball (Puts bytes) d = absurd d
      called-ball ball (Raises fault) d = (d.0, said-still t wide u h g d.1.1 d.1.0)

      pub called-wrote : (s : Style) (v : Tree) (out : List ℕ) → out ≡ written ops s 1200 v → (m : Meaning) → IsDone wide t.store u at m (did.Wrote s v) → IsCalled ops at m (said t) (said (record t { store = u; names = wide })) (called.Wrote out)
      called-wrote s v out e (Holds b) d = absurd d
      called-wrote s v out e (Equates added a b) d = absurd d
      called-wrote s v out e (Writes style w) d = (e ∙ ap₂ (λ (x : Style) (y : Tree). written ops x 1200 y) d.0 d.1, said-still t wide u h g d.2.1 d.2.0)
      called-wrote s v out e (Puts bytes) d = absurd d
      called-wrote s v out e (Raises fault) d = absurd d

      pub called-put : (b : List ℕ) (m : Meaning) → IsDone wide t.store u at m (did.Put b) → IsCalled ops at m (said t) (said (record t { store = u; names = wide })) (called.Wrote b)
      called-put b (Holds c) d = absurd d
      called-put b (Equates added a c) d = absurd d
      called-put b (Writes style w) d = absurd d
      called-put b (Puts bytes) d = (d.0, said-still t wide u h g d.1.1 d.1.0)
      called-put b (Raises fault) d = absurd d

  module _ (ops : Table) (row : ℕ) (args : List Cell) (valid : All (IsBuilt t) args) where
    pub row-yes : IsDone wide t.store u (indicator (row_at builtins row)) (meaning (row_at builtins row).what t.store.variables (trees_of (term_of wide t.store) args)) did.Yes
        → IsRowCalled ops row (trees_of (built t) args) (said t) (said (record t { store = u; names = wide })) called.Yes
    unfolding IsRowCalled said
    row-yes d =
        called-yes _ ops (meaning (row_at builtins row).what t.store.variables (trees_of (built t) args))
        (subst (λ (ts : Trees). IsDone wide t.store u (indicator (row_at builtins row)) (meaning (row_at builtins row).what t.store.variables ts) did.Yes) (args-same args valid) d)

    pub row-no : IsDone wide t.store u (indicator (row_at builtins row)) (meaning (row_at builtins row).what t.store.variables (trees_of (term_of wide t.store) args)) did.No
        → IsRowCalled ops row (trees_of (built t) args) (said t) (said (record t { store = u; names = wide })) called.No
    unfolding IsRowCalled said
    row-no d =
        called-no _ ops (meaning (row_at builtins row).what t.store.variables (trees_of (built t) args))
        (subst (λ (ts : Trees). IsDone wide t.store u (indicator (row_at builtins row)) (meaning (row_at builtins row).what t.store.variables ts) did.No) (args-same args valid) d)

    pub row-ball : (ball : Tree) → IsDone wide t.store u (indicator (row_at builtins row)) (meaning (row_at builtins row).what t.store.variables (trees_of (term_of wide t.store) args)) (did.Ball ball)
        → IsRowCalled ops row (trees_of (built t) args) (said t) (said (record t { store = u; names = wide })) (called.Ball ball)
    unfolding IsRowCalled said
    row-ball ball d =
        called-ball _ ops ball (meaning (row_at builtins row).what t.store.variables (trees_of (built t) args))
        (subst (λ (ts : Trees). IsDone wide t.store u (indicator (row_at builtins row)) (meaning (row_at builtins row).what t.store.variables ts) (did.Ball ball)) (args-same args valid) d)

    pub row-wrote : (s : Style) (v : Tree) (out : List ℕ) → out ≡ written ops s 1200 v → IsDone wide t.store u (indicator (row_at builtins row)) (meaning (row_at builtins row).what t.store.variables (trees_of (term_of wide t.store) args)) (did.Wrote s v)
        → IsRowCalled ops row (trees_of (built t) args) (said t) (said (record t { store = u; names = wide })) (called.Wrote out)
    unfolding IsRowCalled said
    row-wrote s v out e d =
        called-wrote _ ops s v out e (meaning (row_at builtins row).what t.store.variables (trees_of (built t) args))
        (subst (λ (ts : Trees). IsDone wide t.store u (indicator (row_at builtins row)) (meaning (row_at builtins row).what t.store.variables ts) (did.Wrote s v)) (args-same args valid) d)

    pub row-put : (b : List ℕ) → IsDone wide t.store u (indicator (row_at builtins row)) (meaning (row_at builtins row).what t.store.variables (trees_of (term_of wide t.store) args)) (did.Put b)
        → IsRowCalled ops row (trees_of (built t) args) (said t) (said (record t { store = u; names = wide })) (called.Wrote b)
    unfolding IsRowCalled said
    row-put b d =
        called-put _ ops b (meaning (row_at builtins row).what t.store.variables (trees_of (built t) args))
        (subst (λ (ts : Trees). IsDone wide t.store u (indicator (row_at builtins row)) (meaning (row_at builtins row).what t.store.variables ts) (did.Put b)) (args-same args valid) d)
