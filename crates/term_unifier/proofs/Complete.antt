-- Where the function finds nothing, no substitution unifies.
use Rattle.std.proofs.Common.{◌≡◌, ℕ, zero, suc, ◌≤◌, ◌<◌, ◌+◌, List, [], ◌∷◌, ◌++◌, Bool, true, false, ◌||◌, length, refl, sym, ◌∙◌, ap, subst, arith, inl, inr}
use Rattle.std.specs.Prelude.{Option, Some, None, ◌==◌, ◌⊎◌, ◌≢◌, if◌then◌else◌, option_and_then, nat_lt, bytes_eq}
use Rattle.std.specs.Ordering.{int_eq}
use Rattle.std.proofs.lemmas.Bool.Decides.{eqb_tells, Decides-int_eq}
use Rattle.std.proofs.lemmas.Bool.{eq-eqb, eqb-true}
use Rattle.std.proofs.lemmas.Slice.Eq.{bytes_eq-Decides}
use Rattle.std.proofs.lemmas.Option.{option_and_then_some}
use Rattle.prolog_terms.specs.Tree.{Tree, Trees, variable, integer, atom, compound, none, more}
use Rattle.prolog_terms.specs.Substitutions.{substituted, all_substituted, occurs, occurs_in_some, contains, variables, variables_after, all_variables_after, variable_count}
use Rattle.term_unifier.specs.Unifier.{Unifies, only, under, bound, solved, all_solved, solved_within, mgu}
use Rattle.term_unifier.proofs.Trees.{or-cases, or-first, or-second, swapped, more-first, more-rest, occurs_never}
use Rattle.term_unifier.proofs.Solved.{Good, Through, within_sound, under-append, Through-append, same_if, Some-injective}

abbrev Covers : List ℕ → Tree → Type 0
Covers vs t = (w : ℕ) → occurs w t ≡ true → contains w vs ≡ true

abbrev CoversAll : List ℕ → Trees → Type 0
CoversAll vs ts = (w : ℕ) → occurs_in_some w ts ≡ true → contains w vs ≡ true

abbrev without : ℕ → List ℕ → List ℕ
without v [] = []
without v (n ∷ ns) = if v == n then without v ns else n ∷ without v ns

length-without_le : (v : ℕ) (vs : List ℕ) → length (without v vs) ≤ length vs
length-without_le v [] = omega arith
length-without_le v (n ∷ ns) = go (v == n) refl (length-without_le v ns)
  where
    go : (o : Bool) → (v == n) ≡ o → length (without v ns) ≤ length ns → length (without v (n ∷ ns)) ≤ length (n ∷ ns)
    go true e h = rw (e, without) (omega arith)
    go false e h = rw (e, without) (omega arith)

length-without : (v : ℕ) (vs : List ℕ) → contains v vs ≡ true → length (without v vs) < length vs
length-without v [] e = cc e
length-without v (n ∷ ns) e = go (v == n) refl (length-without_le v ns) (length-without v ns) e
  where
    go : (o : Bool) → (v == n) ≡ o → length (without v ns) ≤ length ns → (contains v ns ≡ true → length (without v ns) < length ns) →
        contains v (n ∷ ns) ≡ true → length (without v (n ∷ ns)) < length (n ∷ ns)
    go true d h i e = rw (d, without) (omega arith)
    go false d h i e = rw (d, without) (longer (i (other (or-cases (v == n) (contains v ns) e))))
      where
        other : (v == n) ≡ true ⊎ contains v ns ≡ true → contains v ns ≡ true
        other (inl x) = cc (sym d ∙ x)
        other (inr x) = x

        longer : length (without v ns) < length ns → length (n ∷ without v ns) < length (n ∷ ns)
        longer h = omega arith

contains-without : (w v : ℕ) (vs : List ℕ) → contains w vs ≡ true → w ≢ v → contains w (without v vs) ≡ true
contains-without w v [] e d = e
contains-without w v (n ∷ ns) e d = go (eqb_tells v n) (or-cases (w == n) (contains w ns) e) (λ h. contains-without w v ns h d)
  where
    go : ((v == n) ≡ true) × (v ≡ n) ⊎ ((v == n) ≡ false) × (v ≢ n) → (w == n) ≡ true ⊎ contains w ns ≡ true →
        (contains w ns ≡ true → contains w (without v ns) ≡ true) → contains w (without v (n ∷ ns)) ≡ true
    go (inl (x, same)) (inl y) i = absurd (d (eqb-true w n y ∙ sym same))
    go (inl (x, same)) (inr y) i = rw (x, without) (i y)
    go (inr (x, other)) (inl y) i = rw (x, without) (or-first (w == n) (contains w (without v ns)) y)
    go (inr (x, other)) (inr y) i = rw (x, without) (or-second (w == n) (contains w (without v ns)) (i y))

-- a variable of what one binding gives
mutual
  occurs-only : (w v : ℕ) (t u : Tree) → occurs w (substituted (only v t) u) ≡ true → (occurs w u ≡ true) × (w ≢ v) ⊎ occurs w t ≡ true
  occurs-only w v t (variable n) e = go (eqb_tells n v)
    where
      go : ((n == v) ≡ true) × (n ≡ v) ⊎ ((n == v) ≡ false) × (n ≢ v) → ((w == n) ≡ true) × (w ≢ v) ⊎ occurs w t ≡ true
      go (inl (d, same)) = inr (ap (occurs w) (sym (at_same d)) ∙ e)
        where
          at_same : (n == v) ≡ true → only v t n ≡ t
          at_same d = rw d refl
      go (inr (d, other)) = inl (found, λ h. other (sym (eqb-true w n found) ∙ h))
        where
          at_other : (n == v) ≡ false → only v t n ≡ variable n
          at_other d = rw d refl

          found : (w == n) ≡ true
          found = ap (occurs w) (sym (at_other d)) ∙ e
  occurs-only w v t (integer i) e = cc e
  occurs-only w v t (atom a) e = cc e
  occurs-only w v t (compound f us) e = occurs-only_all w v t us e

  occurs-only_all : (w v : ℕ) (t : Tree) (us : Trees) → occurs_in_some w (all_substituted (only v t) us) ≡ true → (occurs_in_some w us ≡ true) × (w ≢ v) ⊎ occurs w t ≡ true
  occurs-only_all w v t none e = cc e
  occurs-only_all w v t (more u us) e =
      both (or-cases (occurs w (substituted (only v t) u)) (occurs_in_some w (all_substituted (only v t) us)) e) (occurs-only w v t u) (occurs-only_all w v t us)
    where
      both : occurs w (substituted (only v t) u) ≡ true ⊎ occurs_in_some w (all_substituted (only v t) us) ≡ true →
          (occurs w (substituted (only v t) u) ≡ true → (occurs w u ≡ true) × (w ≢ v) ⊎ occurs w t ≡ true) →
          (occurs_in_some w (all_substituted (only v t) us) ≡ true → (occurs_in_some w us ≡ true) × (w ≢ v) ⊎ occurs w t ≡ true) →
          ((occurs w u || occurs_in_some w us) ≡ true) × (w ≢ v) ⊎ occurs w t ≡ true
      both (inl x) f g = left (f x)
        where
          left : (occurs w u ≡ true) × (w ≢ v) ⊎ occurs w t ≡ true → ((occurs w u || occurs_in_some w us) ≡ true) × (w ≢ v) ⊎ occurs w t ≡ true
          left (inl (a, b)) = inl (or-first (occurs w u) (occurs_in_some w us) a, b)
          left (inr c) = inr c
      both (inr x) f g = right (g x)
        where
          right : (occurs_in_some w us ≡ true) × (w ≢ v) ⊎ occurs w t ≡ true → ((occurs w u || occurs_in_some w us) ≡ true) × (w ≢ v) ⊎ occurs w t ≡ true
          right (inl (a, b)) = inl (or-second (occurs w u) (occurs_in_some w us) a, b)
          right (inr c) = inr c

-- bindings make do with fewer variables
abbrev Shrinks : List (ℕ × Tree) → List ℕ → Type 0
Shrinks bs vs = (bs ≡ []) ⊎ ((fewer : List ℕ) × (length fewer < length vs) × ((t : Tree) → Covers vs t → Covers fewer (under bs t)))

one_shrinks : (v : ℕ) (t : Tree) (vs : List ℕ) → contains v vs ≡ true → Covers vs t → occurs v t ≡ false → Shrinks ((v, t) ∷ []) vs
one_shrinks v t vs here c d = inr (without v vs, length-without v vs here, covered)
  where
    covered : (u : Tree) → Covers vs u → Covers (without v vs) (substituted (only v t) u)
    covered u cu w e = go (occurs-only w v t u e)
      where
        go : (occurs w u ≡ true) × (w ≢ v) ⊎ occurs w t ≡ true → contains w (without v vs) ≡ true
        go (inl (a, b)) = contains-without w v vs (cu w a) b
        go (inr a) = contains-without w v vs (c w a) (λ h. differ h)
          where
            differ : w ≡ v → ⊥
            differ h = cc (sym a ∙ (ap (λ x. occurs x t) h ∙ d))

Shrinks-at : (vs : List ℕ) {bs cs : List (ℕ × Tree)} → Shrinks bs vs → bs ≡ cs → Shrinks cs vs
Shrinks-at vs h e = let P : List (ℕ × Tree) → Type 0 = λ x. Shrinks x vs in subst P e h

bound_shrinks : (v : ℕ) (t : Tree) (bs : List (ℕ × Tree)) (vs : List ℕ) → Covers vs (variable v) → Covers vs t → bound v t ≡ Some bs → Shrinks bs vs
bound_shrinks v (variable w) bs vs cv ct e = go (v == w) refl (nat_lt v w) refl
  where
    go : (o : Bool) → (v == w) ≡ o → (l : Bool) → nat_lt v w ≡ l → Shrinks bs vs
    go true d l h = inl (sym (Some-injective (same d ∙ e)))
      where
        same : (v == w) ≡ true → ◌≡◌ {A = Option (List (ℕ × Tree))} (Some []) (bound v (variable w))
        same d = rw (d, bound) refl
    go false d true h = Shrinks-at vs (one_shrinks w (variable v) vs (ct w (eq-eqb w w refl)) cv (swapped w v d)) (Some-injective (younger d h ∙ e))
      where
        younger : (v == w) ≡ false → nat_lt v w ≡ true → ◌≡◌ {A = Option (List (ℕ × Tree))} (Some ((w, variable v) ∷ [])) (bound v (variable w))
        younger d h = rw (d, h, bound) refl
    go false d false h = Shrinks-at vs (one_shrinks v (variable w) vs (cv v (eq-eqb v v refl)) ct d) (Some-injective (older d h ∙ e))
      where
        older : (v == w) ≡ false → nat_lt v w ≡ false → ◌≡◌ {A = Option (List (ℕ × Tree))} (Some ((v, variable w) ∷ [])) (bound v (variable w))
        older d h = rw (d, h, bound) refl
bound_shrinks v (integer i) bs vs cv ct e = Shrinks-at vs (one_shrinks v (integer i) vs (cv v (eq-eqb v v refl)) ct refl) (Some-injective e)
bound_shrinks v (atom a) bs vs cv ct e = Shrinks-at vs (one_shrinks v (atom a) vs (cv v (eq-eqb v v refl)) ct refl) (Some-injective e)
bound_shrinks v (compound f ts) bs vs cv ct e = go (occurs v (compound f ts)) refl
  where
    go : (o : Bool) → occurs v (compound f ts) ≡ o → Shrinks bs vs
    go true d = cc (sym (occurring d) ∙ e)
      where
        occurring : occurs v (compound f ts) ≡ true → bound v (compound f ts) ≡ None
        occurring d = rw (d, bound) refl
    go false d = Shrinks-at vs (one_shrinks v (compound f ts) vs (cv v (eq-eqb v v refl)) ct d) (Some-injective (sym (free d) ∙ e))
      where
        free : occurs v (compound f ts) ≡ false → bound v (compound f ts) ≡ Some ((v, compound f ts) ∷ [])
        free d = rw (d, bound) refl

-- what comes after bindings that shrink
Shrinks-append : (acc new : List (ℕ × Tree)) (vs fewer : List ℕ) → length fewer < length vs → ((t : Tree) → Covers vs t → Covers fewer (under acc t)) →
    Shrinks new fewer → Shrinks (acc ++ new) vs
Shrinks-append acc new vs fewer lt c (inl e) = inr (fewer, lt, λ t ct. go t ct)
  where
    go : (t : Tree) → Covers vs t → Covers fewer (under (acc ++ new) t)
    go t ct w h = c t ct w (ap (occurs w) (sym (under-append acc new t ∙ ap (λ x. under x (under acc t)) e)) ∙ h)
Shrinks-append acc new vs fewer lt c (inr (least, less, d)) = inr (least, shorter less, λ t ct. go t ct)
  where
    shorter : length least < length fewer → length least < length vs
    shorter h = omega arith

    go : (t : Tree) → Covers vs t → Covers least (under (acc ++ new) t)
    go t ct w h = d (under acc t) (c t ct) w (ap (occurs w) (sym (under-append acc new t)) ∙ h)

Shrinking : (Tree → Tree → Option (List (ℕ × Tree))) → Type 0
Shrinking later = (vs : List ℕ) (a b : Tree) (bs : List (ℕ × Tree)) → Covers vs a → Covers vs b → later a b ≡ Some bs → Shrinks bs vs

covers_first : (vs : List ℕ) (t : Tree) (ts : Trees) → CoversAll vs (more t ts) → Covers vs t
covers_first vs t ts c w e = c w (or-first (occurs w t) (occurs_in_some w ts) e)

covers_rest : (vs : List ℕ) (t : Tree) (ts : Trees) → CoversAll vs (more t ts) → CoversAll vs ts
covers_rest vs t ts c w e = c w (or-second (occurs w t) (occurs_in_some w ts) e)

module _ (later : Tree → Tree → Option (List (ℕ × Tree))) (shrinking : (vs : List ℕ) (a b : Tree) (bs : List (ℕ × Tree)) → Covers vs a → Covers vs b → later a b ≡ Some bs → Shrinks bs vs) where
  later_shrinks : (acc new : List (ℕ × Tree)) (t u : Tree) (vs : List ℕ) → acc ≢ [] → Shrinks acc vs → Covers vs t → Covers vs u →
      later (under acc t) (under acc u) ≡ Some new → Shrinks (acc ++ new) vs
  later_shrinks acc new t u vs some (inl e) ct cu h = absurd (some e)
  later_shrinks acc new t u vs some (inr (fewer, lt, c)) ct cu h =
      Shrinks-append acc new vs fewer lt c (shrinking fewer (under acc t) (under acc u) new (c t ct) (c u cu) h)

  mutual
    solved_shrinks : (vs : List ℕ) (a b : Tree) (bs : List (ℕ × Tree)) → Covers vs a → Covers vs b → solved later a b ≡ Some bs → Shrinks bs vs
    solved_shrinks vs (variable v) b bs ca cb e = bound_shrinks v b bs vs ca cb e
    solved_shrinks vs (integer i) (variable w) bs ca cb e = bound_shrinks w (integer i) bs vs cb ca e
    solved_shrinks vs (integer i) (integer j) bs ca cb e = inl (sym (Some-injective (same_if (int_eq i j) (Some []) bs e).1))
    solved_shrinks vs (integer i) (atom b) bs ca cb e = cc e
    solved_shrinks vs (integer i) (compound g us) bs ca cb e = cc e
    solved_shrinks vs (atom a) (variable w) bs ca cb e = bound_shrinks w (atom a) bs vs cb ca e
    solved_shrinks vs (atom a) (integer j) bs ca cb e = cc e
    solved_shrinks vs (atom a) (atom b) bs ca cb e = inl (sym (Some-injective (same_if (bytes_eq a b) (Some []) bs e).1))
    solved_shrinks vs (atom a) (compound g us) bs ca cb e = cc e
    solved_shrinks vs (compound f ts) (variable w) bs ca cb e = bound_shrinks w (compound f ts) bs vs cb ca e
    solved_shrinks vs (compound f ts) (integer j) bs ca cb e = cc e
    solved_shrinks vs (compound f ts) (atom b) bs ca cb e = cc e
    solved_shrinks vs (compound f ts) (compound g us) bs ca cb e = all_shrinks vs ts us [] bs ca cb (inl refl) (same_if (bytes_eq f g) (all_solved later [] ts us) bs e).1

    all_shrinks : (vs : List ℕ) (ts us : Trees) (acc bs : List (ℕ × Tree)) → CoversAll vs ts → CoversAll vs us → Shrinks acc vs → all_solved later acc ts us ≡ Some bs → Shrinks bs vs
    all_shrinks vs none none [] bs ct cu s e = inl (sym (Some-injective e))
    all_shrinks vs none none (b ∷ acc) bs ct cu s e = Shrinks-at vs s (Some-injective e)
    all_shrinks vs none (more u us) [] bs ct cu s e = cc e
    all_shrinks vs none (more u us) (b ∷ acc) bs ct cu s e = cc e
    all_shrinks vs (more t ts) none [] bs ct cu s e = cc e
    all_shrinks vs (more t ts) none (b ∷ acc) bs ct cu s e = cc e
    all_shrinks vs (more t ts) (more u us) [] bs ct cu s e =
        option_and_then_some (λ new. all_solved later new ts us) (solved later t u) bs e
        (λ new h k. all_shrinks vs ts us new bs (covers_rest vs t ts ct) (covers_rest vs u us cu) (solved_shrinks vs t u new (covers_first vs t ts ct) (covers_first vs u us cu) h) k)
    all_shrinks vs (more t ts) (more u us) (b ∷ acc) bs ct cu s e =
        option_and_then_some (λ new. all_solved later ((b ∷ acc) ++ new) ts us) (later (under (b ∷ acc) t) (under (b ∷ acc) u)) bs e
        (λ new h k. all_shrinks vs ts us ((b ∷ acc) ++ new) bs (covers_rest vs t ts ct) (covers_rest vs u us cu)
        (later_shrinks (b ∷ acc) new t u vs (λ z. cc z) s (covers_first vs t ts ct) (covers_first vs u us cu) h) k)

within_shrinks : (n : ℕ) (vs : List ℕ) (a b : Tree) (bs : List (ℕ × Tree)) → Covers vs a → Covers vs b → solved_within n a b ≡ Some bs → Shrinks bs vs
within_shrinks zero = solved_shrinks (λ a b. None) (λ vs a b bs ca cb e. cc e)
within_shrinks (suc n) = solved_shrinks (solved_within n) (within_shrinks n)

either : {A B C : Type 0} → (A → C) → (B → C) → A ⊎ B → C
either f g (inl x) = f x
either f g (inr y) = g y

abbrev Never : Tree → Tree → Type 0
Never a b = (r : ℕ → Tree) → substituted r a ≢ substituted r b

bound_never : (v : ℕ) (t : Tree) → bound v t ≡ None → Never (variable v) t
bound_never v (variable w) e r = go (v == w) refl (nat_lt v w) refl
  where
    go : (o : Bool) → (v == w) ≡ o → (l : Bool) → nat_lt v w ≡ l → r v ≢ r w
    go true d l h = cc (sym (a d) ∙ e)
      where
        a : (v == w) ≡ true → bound v (variable w) ≡ Some []
        a d = rw (d, bound) refl
    go false d true h = cc (sym (a d h) ∙ e)
      where
        a : (v == w) ≡ false → nat_lt v w ≡ true → bound v (variable w) ≡ Some ((w, variable v) ∷ [])
        a d h = rw (d, h, bound) refl
    go false d false h = cc (sym (a d h) ∙ e)
      where
        a : (v == w) ≡ false → nat_lt v w ≡ false → bound v (variable w) ≡ Some ((v, variable w) ∷ [])
        a d h = rw (d, h, bound) refl
bound_never v (integer i) e r = cc e
bound_never v (atom a) e r = cc e
bound_never v (compound f ts) e r = go (occurs v (compound f ts)) refl
  where
    go : (o : Bool) → occurs v (compound f ts) ≡ o → r v ≢ substituted r (compound f ts)
    go true d = occurs_never r v f ts d
    go false d = cc (sym (free d) ∙ e)
      where
        free : occurs v (compound f ts) ≡ false → bound v (compound f ts) ≡ Some ((v, compound f ts) ∷ [])
        free d = rw (d, bound) refl

never_swap : (a b : Tree) → Never a b → Never b a
never_swap a b n r e = n r (sym e)

if_none : {A : Type 0} (b : Bool) (x : Option A) → ◌≡◌ {A = Option A} (if b then x else None) None → (b ≡ false) ⊎ (x ≡ None)
if_none true x e = inr e
if_none false x e = inl refl

then_none : {A B : Type 0} (f : A → Option B) (o : Option A) → option_and_then f o ≡ None → (o ≡ None) ⊎ ((x : A) × (o ≡ Some x) × (f x ≡ None))
then_none f None e = inl refl
then_none f (Some x) e = inr (x, refl, e)

module _ (later : Tree → Tree → Option (List (ℕ × Tree)))
    (sound : (a b : Tree) (bs : List (ℕ × Tree)) → later a b ≡ Some bs → Good bs a b)
    (shrinking : (vs : List ℕ) (a b : Tree) (bs : List (ℕ × Tree)) → Covers vs a → Covers vs b → later a b ≡ Some bs → Shrinks bs vs)
    (good : (a b : Tree) (bs : List (ℕ × Tree)) → solved later a b ≡ Some bs → Good bs a b)
    (n : ℕ)
    (complete : (vs : List ℕ) → length vs < n → (a b : Tree) → Covers vs a → Covers vs b → later a b ≡ None → Never a b)
  where
    -- what fails under bindings fails
    later_never : (acc : List (ℕ × Tree)) (t u : Tree) (vs : List ℕ) → length vs ≤ n → acc ≢ [] → Shrinks acc vs → Covers vs t → Covers vs u →
        later (under acc t) (under acc u) ≡ None → (r : ℕ → Tree) → Through r acc → substituted r t ≢ substituted r u
    later_never acc t u vs le some (inl e) ct cu h r th k = some e
    later_never acc t u vs le some (inr (fewer, lt, c)) ct cu h r th k =
        complete fewer (below lt) (under acc t) (under acc u) (c t ct) (c u cu) h r (th t ∙ (k ∙ sym (th u)))
      where
        below : length fewer < length vs → length fewer < n
        below lt = omega arith

    through_new : (acc new : List (ℕ × Tree)) (t u : Tree) (r : ℕ → Tree) → Good new (under acc t) (under acc u) → Through r acc → substituted r t ≡ substituted r u → Through r (acc ++ new)
    through_new acc new t u r g th k = Through-append r acc new th (g.through r (th t ∙ (k ∙ sym (th u))))

    mutual
      solved_complete : (vs : List ℕ) → length vs ≤ n → (a b : Tree) → Covers vs a → Covers vs b → solved later a b ≡ None → (r : ℕ → Tree) → substituted r a ≢ substituted r b
      solved_complete vs le (variable v) b ca cb e r = bound_never v b e r
      solved_complete vs le (integer i) (variable w) ca cb e r = never_swap (variable w) (integer i) (bound_never w (integer i) e) r
      solved_complete vs le (integer i) (integer j) ca cb e r = λ k. ints (if_none (int_eq i j) (Some []) e) k
        where
          ints : (int_eq i j ≡ false) ⊎ ◌≡◌ {A = Option (List (ℕ × Tree))} (Some []) None → integer i ≡ integer j → ⊥
          ints (inl d) k = cc (sym d ∙ (Decides-int_eq i j).1 (cc k))
          ints (inr d) k = cc d
      solved_complete vs le (integer i) (atom b) ca cb e r = λ k. cc k
      solved_complete vs le (integer i) (compound g us) ca cb e r = λ k. cc k
      solved_complete vs le (atom a) (variable w) ca cb e r = never_swap (variable w) (atom a) (bound_never w (atom a) e) r
      solved_complete vs le (atom a) (integer j) ca cb e r = λ k. cc k
      solved_complete vs le (atom a) (atom b) ca cb e r = λ k. atoms (if_none (bytes_eq a b) (Some []) e) k
        where
          atoms : (bytes_eq a b ≡ false) ⊎ ◌≡◌ {A = Option (List (ℕ × Tree))} (Some []) None → atom a ≡ atom b → ⊥
          atoms (inl d) k = cc (sym d ∙ (bytes_eq-Decides a b).1 (cc k))
          atoms (inr d) k = cc d
      solved_complete vs le (atom a) (compound g us) ca cb e r = λ k. cc k
      solved_complete vs le (compound f ts) (variable w) ca cb e r = never_swap (variable w) (compound f ts) (bound_never w (compound f ts) e) r
      solved_complete vs le (compound f ts) (integer j) ca cb e r = λ k. cc k
      solved_complete vs le (compound f ts) (atom b) ca cb e r = λ k. cc k
      solved_complete vs le (compound f ts) (compound g us) ca cb e r =
          λ k. nodes (if_none (bytes_eq f g) (all_solved later [] ts us) e) (λ h. all_complete vs le ts us [] ca cb (inl refl) h r (λ t. refl)) k
        where
          nodes : (bytes_eq f g ≡ false) ⊎ (all_solved later [] ts us ≡ None) → (all_solved later [] ts us ≡ None → all_substituted r ts ≢ all_substituted r us) →
              compound f (all_substituted r ts) ≡ compound g (all_substituted r us) → ⊥
          nodes (inl d) h k = cc (sym d ∙ (bytes_eq-Decides f g).1 (cc k))
          nodes (inr d) h k = h d (cc k)

      all_complete : (vs : List ℕ) → length vs ≤ n → (ts us : Trees) (acc : List (ℕ × Tree)) → CoversAll vs ts → CoversAll vs us → Shrinks acc vs →
          all_solved later acc ts us ≡ None → (r : ℕ → Tree) → Through r acc → all_substituted r ts ≢ all_substituted r us
      all_complete vs le none none [] ct cu s e r th = cc e
      all_complete vs le none none (b ∷ acc) ct cu s e r th = cc e
      all_complete vs le none (more u us) acc ct cu s e r th = λ k. cc k
      all_complete vs le (more t ts) none acc ct cu s e r th = λ k. cc k
      all_complete vs le (more t ts) (more u us) [] ct cu s e r th = λ k.
          either
          (λ x. solved_complete vs le t u (covers_first vs t ts ct) (covers_first vs u us cu) x r (more-first k))
          (λ p. all_complete vs le ts us p.0 (covers_rest vs t ts ct) (covers_rest vs u us cu)
          (solved_shrinks later shrinking vs t u p.0 (covers_first vs t ts ct) (covers_first vs u us cu) p.1) p.2 r
          (through_new [] p.0 t u r (good t u p.0 p.1) th (more-first k)) (more-rest k))
          (then_none (λ new. all_solved later new ts us) (solved later t u) e)
      all_complete vs le (more t ts) (more u us) (b ∷ acc) ct cu s e r th = λ k.
          either
          (λ x. later_never (b ∷ acc) t u vs le (λ z. cc z) s (covers_first vs t ts ct) (covers_first vs u us cu) x r th (more-first k))
          (λ p. all_complete vs le ts us ((b ∷ acc) ++ p.0) (covers_rest vs t ts ct) (covers_rest vs u us cu)
          (later_shrinks later shrinking (b ∷ acc) p.0 t u vs (λ z. cc z) s (covers_first vs t ts ct) (covers_first vs u us cu) p.1) p.2 r
          (through_new (b ∷ acc) p.0 t u r (sound (under (b ∷ acc) t) (under (b ∷ acc) u) p.0 p.1) th (more-first k)) (more-rest k))
          (then_none (λ new. all_solved later ((b ∷ acc) ++ new) ts us) (later (under (b ∷ acc) t) (under (b ∷ acc) u)) e)

-- the number of variables is enough
within_complete : (n : ℕ) (vs : List ℕ) → length vs ≤ n → (a b : Tree) → Covers vs a → Covers vs b → solved_within n a b ≡ None → Never a b
within_complete zero vs le a b ca cb e = solved_complete (λ a b. None) (λ a b bs e. cc e) (λ vs a b bs ca cb e. cc e) (within_sound zero) zero (λ vs lt a b ca cb e r h. nothing_below lt) vs le a b ca cb e
  where
    nothing_below : {m : ℕ} → m < 0 → ⊥
    nothing_below h = omega arith
within_complete (suc n) vs le a b ca cb e =
    solved_complete (solved_within n) (within_sound n) (within_shrinks n) (within_sound (suc n)) (suc n) (λ ws lt. within_complete n ws (less lt)) vs le a b ca cb e
  where
    less : {m : ℕ} → m < suc n → m ≤ n
    less h = omega arith

-- the variables of a term are in its list
contains-append_left : (w : ℕ) (xs ys : List ℕ) → contains w xs ≡ true → contains w (xs ++ ys) ≡ true
contains-append_left w [] ys e = cc e
contains-append_left w (x ∷ xs) ys e = either (λ h. or-first (w == x) (contains w (xs ++ ys)) h) (λ h. or-second (w == x) (contains w (xs ++ ys)) (contains-append_left w xs ys h)) (or-cases (w == x) (contains w xs) e)

contains-append_right : (w : ℕ) (xs ys : List ℕ) → contains w ys ≡ true → contains w (xs ++ ys) ≡ true
contains-append_right w [] ys e = e
contains-append_right w (x ∷ xs) ys e = or-second (w == x) (contains w (xs ++ ys)) (contains-append_right w xs ys e)

contains-seen : (w n : ℕ) (seen : List ℕ) → contains w seen ≡ true ⊎ (w == n) ≡ true → contains w (if contains n seen then seen else seen ++ n ∷ []) ≡ true
contains-seen w n seen h = go (contains n seen) refl h
  where
    go : (o : Bool) → contains n seen ≡ o → contains w seen ≡ true ⊎ (w == n) ≡ true → contains w (if o then seen else seen ++ n ∷ []) ≡ true
    go true d (inl x) = x
    go true d (inr x) = rw (eqb-true w n x) d
    go false d (inl x) = contains-append_left w seen (n ∷ []) x
    go false d (inr x) = contains-append_right w seen (n ∷ []) (or-first (w == n) false x)

mutual
  contains-variables : (w : ℕ) (seen : List ℕ) (t : Tree) → contains w seen ≡ true ⊎ occurs w t ≡ true → contains w (variables_after seen t) ≡ true
  contains-variables w seen (variable n) h = contains-seen w n seen h
  contains-variables w seen (integer i) h = either (λ x. x) (λ x. cc x) h
  contains-variables w seen (atom a) h = either (λ x. x) (λ x. cc x) h
  contains-variables w seen (compound f ts) h = contains-variables_all w seen ts h

  contains-variables_all : (w : ℕ) (seen : List ℕ) (ts : Trees) → contains w seen ≡ true ⊎ occurs_in_some w ts ≡ true → contains w (all_variables_after seen ts) ≡ true
  contains-variables_all w seen none h = either (λ x. x) (λ x. cc x) h
  contains-variables_all w seen (more t ts) h =
      contains-variables_all w (variables_after seen t) ts
      (either (λ x. inl (contains-variables w seen t (inl x))) (λ x. either (λ y. inl (contains-variables w seen t (inr y))) (λ y. inr y) (or-cases (occurs w t) (occurs_in_some w ts) x)) h)

length-append : (xs ys : List ℕ) → length (xs ++ ys) ≤ length xs + length ys
length-append [] ys = omega arith
length-append (x ∷ xs) ys = let h : length (xs ++ ys) ≤ length xs + length ys = length-append xs ys in omega arith

-- where the function finds nothing, nothing unifies
pub mgu-None : (a b : Tree) → mgu a b ≡ None → (r : ℕ → Tree) → ¬ Unifies r a b
mgu-None a b e = within_complete (variable_count a + variable_count b) (variables a ++ variables b) (length-append (variables a) (variables b)) a b
    (λ w h. contains-append_left w (variables a) (variables b) (contains-variables w [] a (inr h)))
    (λ w h. contains-append_right w (variables a) (variables b) (contains-variables w [] b (inr h))) e
