-- What the function finds is a most general unifier.
use Rattle.std.proofs.Common.{◌≡◌, ℕ, ℤ, zero, suc, ◌≤◌, ◌<◌, List, [], ◌∷◌, ◌++◌, Bool, true, false, refl, sym, ◌∙◌, ap, subst, arith, inl, inr}
use Rattle.std.specs.Prelude.{Option, Some, None, ◌==◌, ◌⊎◌, ◌≢◌, if◌then◌else◌, nat_lt, bytes_eq}
use Rattle.std.specs.Ordering.{int_eq}
use Rattle.std.proofs.lemmas.Bool.Decides.{eqb_tells, leb_tells, Decides-int_eq}
use Rattle.std.proofs.lemmas.Slice.Eq.{bytes_eq-Decides}
use Rattle.std.proofs.lemmas.Option.{option_and_then_some}
use Rattle.prolog_terms.specs.Tree.{Tree, Trees, variable, integer, atom, compound, none, more}
use Rattle.prolog_terms.specs.Substitutions.{substituted, all_substituted, occurs}
use Rattle.term_unifier.specs.Unifier.{IsMostGeneral, only, under, all_under, bound, solved, all_solved, solved_within, mgu}
use Rattle.term_unifier.proofs.Trees.{swapped, variable-injective, more-first, more-rest, substituted-only, at_same, at_other, only_same, only-absent}

-- bindings one after another
pub under-append : (xs ys : List (ℕ × Tree)) (t : Tree) → under (xs ++ ys) t ≡ under ys (under xs t)
under-append [] ys t = refl
under-append (x ∷ xs) ys t = under-append xs ys (substituted (only x.0 x.1) t)

all_under-more : (b : ℕ × Tree) (bs : List (ℕ × Tree)) (ts : Trees) → all_under (b ∷ bs) ts ≡ all_under bs (all_substituted (only b.0 b.1) ts)
all_under-more b bs none = refl
all_under-more b bs (more t ts) = ap (more (under bs (substituted (only b.0 b.1) t))) (all_under-more b bs ts)

under-compound : (bs : List (ℕ × Tree)) (f : List ℕ) (ts : Trees) → under bs (compound f ts) ≡ compound f (all_under bs ts)
under-compound [] f ts = ap (compound f) (nothing ts)
  where
    nothing : (ts : Trees) → ts ≡ all_under [] ts
    nothing none = refl
    nothing (more t ts) = ap (more t) (nothing ts)
under-compound (b ∷ bs) f ts = under-compound bs f (all_substituted (only b.0 b.1) ts) ∙ ap (compound f) (sym (all_under-more b bs ts))

under-integer : (bs : List (ℕ × Tree)) (i : ℤ) → under bs (integer i) ≡ integer i
under-integer [] i = refl
under-integer (b ∷ bs) i = under-integer bs i

under-atom : (bs : List (ℕ × Tree)) (a : List ℕ) → under bs (atom a) ≡ atom a
under-atom [] a = refl
under-atom (b ∷ bs) a = under-atom bs a

-- a substitution goes through bindings
abbrev pub Through : (ℕ → Tree) → List (ℕ × Tree) → Type 0
Through r bs = (t : Tree) → substituted r (under bs t) ≡ substituted r t

abbrev pub Ages : List (ℕ × Tree) → Type 0
Ages bs = (v w : ℕ) → under bs (variable v) ≡ variable w → w ≤ v

pub record Good (bs : List (ℕ × Tree)) (a b : Tree) : Type 0 where
  pub unified : under bs a ≡ under bs b
  pub through : (r : ℕ → Tree) → substituted r a ≡ substituted r b → Through r bs
  pub ages : Ages bs

pub record AllGood (acc bs : List (ℕ × Tree)) (ts us : Trees) : Type 0 where
  pub rest : List (ℕ × Tree)
  pub extends : bs ≡ acc ++ rest
  pub unified : all_under bs ts ≡ all_under bs us
  pub through : (r : ℕ → Tree) → all_substituted r ts ≡ all_substituted r us → Through r acc → Through r bs
  pub ages : Ages acc → Ages bs

Sound : (Tree → Tree → Option (List (ℕ × Tree))) → Type 0
Sound later = (a b : Tree) (bs : List (ℕ × Tree)) → later a b ≡ Some bs → Good bs a b

le_of : {v w : ℕ} → v ≡ w → w ≤ v
le_of e = omega arith

one_ages : (v : ℕ) (t : Tree) → ((w : ℕ) → t ≡ variable w → w ≤ v) → Ages ((v, t) ∷ [])
one_ages v t h n w e = go (eqb_tells n v)
  where
    go : ((n == v) ≡ true) × (n ≡ v) ⊎ ((n == v) ≡ false) × (n ≢ v) → w ≤ n
    go (inl (d, same)) = rw same (h w (sym (at_same n v t d) ∙ e))
    go (inr (d, other)) = le_of (variable-injective (sym (at_other n v t d) ∙ e))

pub one_good : (v : ℕ) (t : Tree) → occurs v t ≡ false → ((w : ℕ) → t ≡ variable w → w ≤ v) → Good ((v, t) ∷ []) (variable v) t
one_good v t h old = record {
  unified = only_same v t ∙ sym (only-absent v t t h);
  through = λ r e u. substituted-only r v t e u;
  ages = one_ages v t old;
}

pub none_good : (t u : Tree) → t ≡ u → Good [] t u
none_good t u e = record { unified = e; through = λ r h w. refl; ages = λ v w h. le_of (variable-injective h) }

good_swap : {bs : List (ℕ × Tree)} {a b : Tree} → Good bs a b → Good bs b a
good_swap g = record { unified = sym g.unified; through = λ r e. g.through r (sym e); ages = g.ages }

pub Some-injective : {A : Type 0} {x y : A} → ◌≡◌ {A = Option A} (Some x) (Some y) → x ≡ y
Some-injective e = cc e

good_at : {a b : Tree} {bs cs : List (ℕ × Tree)} → Good bs a b → bs ≡ cs → Good cs a b
good_at {a} {b} g e = let P : List (ℕ × Tree) → Type 0 = λ x. Good x a b in subst P e g

below_suc : {v w : ℕ} → w < suc v → w ≤ v
below_suc h = omega arith

le_of_lt : {v w : ℕ} → v < w → v ≤ w
le_of_lt h = omega arith

-- a variable against a variable
bound_same : (v w : ℕ) → (v == w) ≡ true → bound v (variable w) ≡ Some []
bound_same v w d = rw (d, bound) refl

bound_younger : (v w : ℕ) → (v == w) ≡ false → nat_lt v w ≡ true → bound v (variable w) ≡ Some ((w, variable v) ∷ [])
bound_younger v w d l = rw (d, l, bound) refl

bound_older : (v w : ℕ) → (v == w) ≡ false → nat_lt v w ≡ false → bound v (variable w) ≡ Some ((v, variable w) ∷ [])
bound_older v w d l = rw (d, l, bound) refl

bound-variable : (v w : ℕ) (bs : List (ℕ × Tree)) → bound v (variable w) ≡ Some bs → Good bs (variable v) (variable w)
bound-variable v w bs e = go (eqb_tells v w) (leb_tells (suc v) w)
  where
    go : ((v == w) ≡ true) × (v ≡ w) ⊎ ((v == w) ≡ false) × (v ≢ w) → ((nat_lt v w ≡ true) × (v < w)) ⊎ ((nat_lt v w ≡ false) × (w < suc v)) → Good bs (variable v) (variable w)
    go (inl (d, same)) l = good_at (none_good (variable v) (variable w) (ap variable same)) (Some-injective (sym (bound_same v w d) ∙ e))
    go (inr (d, other)) (inl (l, lt)) =
        good_at (good_swap (one_good w (variable v) (swapped w v d) (λ u h. rw (sym (variable-injective h)) (le_of_lt lt)))) (Some-injective (sym (bound_younger v w d l) ∙ e))
    go (inr (d, other)) (inr (l, le)) =
        good_at (one_good v (variable w) d (λ u h. rw (sym (variable-injective h)) (below_suc le))) (Some-injective (sym (bound_older v w d l) ∙ e))

bound-compound : (v : ℕ) (f : List ℕ) (ts : Trees) (bs : List (ℕ × Tree)) → bound v (compound f ts) ≡ Some bs → Good bs (variable v) (compound f ts)
bound-compound v f ts bs e = go (occurs v (compound f ts)) refl
  where
    go : (o : Bool) → occurs v (compound f ts) ≡ o → Good bs (variable v) (compound f ts)
    go true d = cc (sym (occurring d) ∙ e)
      where
        occurring : occurs v (compound f ts) ≡ true → bound v (compound f ts) ≡ None
        occurring d = rw (d, bound) refl
    go false d = good_at (one_good v (compound f ts) d (λ w h. cc h)) (Some-injective (sym (free d) ∙ e))
      where
        free : occurs v (compound f ts) ≡ false → bound v (compound f ts) ≡ Some ((v, compound f ts) ∷ [])
        free d = rw (d, bound) refl

bound_good : (v : ℕ) (t : Tree) (bs : List (ℕ × Tree)) → bound v t ≡ Some bs → Good bs (variable v) t
bound_good v (variable w) bs e = bound-variable v w bs e
bound_good v (integer i) bs e = good_at (one_good v (integer i) refl (λ w h. cc h)) (Some-injective e)
bound_good v (atom a) bs e = good_at (one_good v (atom a) refl (λ w h. cc h)) (Some-injective e)
bound_good v (compound f ts) bs e = bound-compound v f ts bs e

-- two terms that unify under bindings so far, and then the rest
under-variable_only : (xs : List (ℕ × Tree)) (t : Tree) (w : ℕ) → under xs t ≡ variable w → (v : ℕ) × (t ≡ variable v)
under-variable_only xs (variable v) w e = (v, refl)
under-variable_only xs (integer i) w e = cc (sym (under-integer xs i) ∙ e)
under-variable_only xs (atom a) w e = cc (sym (under-atom xs a) ∙ e)
under-variable_only xs (compound f ts) w e = cc (sym (under-compound xs f ts) ∙ e)

Ages-append : (xs ys : List (ℕ × Tree)) → Ages xs → Ages ys → Ages (xs ++ ys)
Ages-append xs ys ax ay v w e = go (under-variable_only ys (under xs (variable v)) w parts)
  where
    parts : under ys (under xs (variable v)) ≡ variable w
    parts = sym (under-append xs ys (variable v)) ∙ e

    go : (u : ℕ) × (under xs (variable v) ≡ variable u) → w ≤ v
    go (u, h) = chain (ax v u h) (ay u w (ap (under ys) (sym h) ∙ parts))
      where
        chain : {u : ℕ} → u ≤ v → w ≤ u → w ≤ v
        chain a b = omega arith

pub Through-append : (r : ℕ → Tree) (xs ys : List (ℕ × Tree)) → Through r xs → Through r ys → Through r (xs ++ ys)
Through-append r xs ys tx ty t = ap (substituted r) (under-append xs ys t) ∙ (ty (under xs t) ∙ tx t)

append-assoc : (xs ys zs : List (ℕ × Tree)) → (xs ++ ys) ++ zs ≡ xs ++ (ys ++ zs)
append-assoc [] ys zs = refl
append-assoc (x ∷ xs) ys zs = ap (λ r. x ∷ r) (append-assoc xs ys zs)

one_more : (acc new bs : List (ℕ × Tree)) (t u : Tree) (ts us : Trees) → Good new (under acc t) (under acc u) → AllGood (acc ++ new) bs ts us → AllGood acc bs (more t ts) (more u us)
one_more acc new bs t u ts us g h = record {
  rest = new ++ h.rest;
  extends = h.extends ∙ append-assoc acc new h.rest;
  unified = cc (first_unified, h.unified);
  through = λ r e through_acc. h.through r (more-rest e) (Through-append r acc new through_acc (through_new r (more-first e) through_acc));
  ages = λ a. h.ages (Ages-append acc new a g.ages);
}
  where
    parts : (z : Tree) → under bs z ≡ under h.rest (under new (under acc z))
    parts z = ap (λ y. under y z) h.extends ∙ (under-append (acc ++ new) h.rest z ∙ ap (under h.rest) (under-append acc new z))

    first_unified : under bs t ≡ under bs u
    first_unified = parts t ∙ (ap (under h.rest) g.unified ∙ sym (parts u))

    through_new : (r : ℕ → Tree) → substituted r t ≡ substituted r u → Through r acc → Through r new
    through_new r e a = g.through r (a t ∙ (e ∙ sym (a u)))

all_done : (acc : List (ℕ × Tree)) → AllGood acc acc none none
all_done acc = record { rest = []; extends = sym (append-none acc); unified = refl; through = λ r e a. a; ages = λ a. a }
  where
    append-none : (xs : List (ℕ × Tree)) → xs ++ [] ≡ xs
    append-none [] = refl
    append-none (x ∷ xs) = ap (λ r. x ∷ r) (append-none xs)

all_good_at : {acc bs cs : List (ℕ × Tree)} {ts us : Trees} → AllGood acc bs ts us → bs ≡ cs → AllGood acc cs ts us
all_good_at {acc} {ts = ts} {us = us} g e = let P : List (ℕ × Tree) → Type 0 = λ x. AllGood acc x ts us in subst P e g

pub same_if : {A : Type 0} (b : Bool) (x : Option A) (y : A) → ◌≡◌ {A = Option A} (if b then x else None) (Some y) → (b ≡ true) × (x ≡ Some y)
same_if true x y e = (refl, e)
same_if false x y e = cc e

node_good : (f g : List ℕ) (ts us : Trees) (bs : List (ℕ × Tree)) → f ≡ g → AllGood [] bs ts us → Good bs (compound f ts) (compound g us)
node_good f g ts us bs e h = record {
  unified = under-compound bs f ts ∙ (cc (e, h.unified) ∙ sym (under-compound bs g us));
  through = λ r k. h.through r (inside r k) (λ t. refl);
  ages = h.ages (λ v w k. le_of (variable-injective k));
}
  where
    inside : (r : ℕ → Tree) → compound f (all_substituted r ts) ≡ compound g (all_substituted r us) → all_substituted r ts ≡ all_substituted r us
    inside r k = cc k

module _ (later : Tree → Tree → Option (List (ℕ × Tree))) (sound : (a b : Tree) (bs : List (ℕ × Tree)) → later a b ≡ Some bs → Good bs a b) where
  mutual
    solved_sound : (a b : Tree) (bs : List (ℕ × Tree)) → solved later a b ≡ Some bs → Good bs a b
    solved_sound (variable v) b bs e = bound_good v b bs e
    solved_sound (integer i) (variable w) bs e = good_swap (bound_good w (integer i) bs e)
    solved_sound (integer i) (integer j) bs e = let h : (int_eq i j ≡ true) × (Some [] ≡ Some bs) = same_if _ _ _ e in good_at (none_good (integer i) (integer j) (ap integer ((Decides-int_eq i j).0 h.0))) (Some-injective h.1)
    solved_sound (integer i) (atom b) bs e = cc e
    solved_sound (integer i) (compound g us) bs e = cc e
    solved_sound (atom a) (variable w) bs e = good_swap (bound_good w (atom a) bs e)
    solved_sound (atom a) (integer j) bs e = cc e
    solved_sound (atom a) (atom b) bs e = let h : (bytes_eq a b ≡ true) × (Some [] ≡ Some bs) = same_if _ _ _ e in good_at (none_good (atom a) (atom b) (ap atom ((bytes_eq-Decides a b).0 h.0))) (Some-injective h.1)
    solved_sound (atom a) (compound g us) bs e = cc e
    solved_sound (compound f ts) (variable w) bs e = good_swap (bound_good w (compound f ts) bs e)
    solved_sound (compound f ts) (integer j) bs e = cc e
    solved_sound (compound f ts) (atom b) bs e = cc e
    solved_sound (compound f ts) (compound g us) bs e =
        let h : (bytes_eq f g ≡ true) × (all_solved later [] ts us ≡ Some bs) = same_if _ _ _ e in
        node_good f g ts us bs ((bytes_eq-Decides f g).0 h.0) (all_sound ts us [] bs h.1)

    all_sound : (ts us : Trees) (acc bs : List (ℕ × Tree)) → all_solved later acc ts us ≡ Some bs → AllGood acc bs ts us
    all_sound none none [] bs e = all_good_at (all_done []) (Some-injective e)
    all_sound none none (b ∷ acc) bs e = all_good_at (all_done (b ∷ acc)) (Some-injective e)
    all_sound none (more u us) [] bs e = cc e
    all_sound none (more u us) (b ∷ acc) bs e = cc e
    all_sound (more t ts) none [] bs e = cc e
    all_sound (more t ts) none (b ∷ acc) bs e = cc e
    all_sound (more t ts) (more u us) [] bs e =
        option_and_then_some (λ new. all_solved later new ts us) (solved later t u) bs e (λ new h k. one_more [] new bs t u ts us (solved_sound t u new h) (all_sound ts us new bs k))
    all_sound (more t ts) (more u us) (b ∷ acc) bs e =
        option_and_then_some (λ new. all_solved later ((b ∷ acc) ++ new) ts us) (later (under (b ∷ acc) t) (under (b ∷ acc) u)) bs e
        (λ new h k. one_more (b ∷ acc) new bs t u ts us (sound (under (b ∷ acc) t) (under (b ∷ acc) u) new h) (all_sound ts us ((b ∷ acc) ++ new) bs k))

pub within_sound : (n : ℕ) (a b : Tree) (bs : List (ℕ × Tree)) → solved_within n a b ≡ Some bs → Good bs a b
within_sound zero = solved_sound (λ a b. None) (λ a b bs e. cc e)
within_sound (suc n) = solved_sound (solved_within n) (within_sound n)

mutual
  under_is : (bs : List (ℕ × Tree)) (t : Tree) → under bs t ≡ substituted (λ v. under bs (variable v)) t
  under_is bs (variable v) = refl
  under_is bs (integer i) = under-integer bs i
  under_is bs (atom a) = under-atom bs a
  under_is bs (compound f ts) = under-compound bs f ts ∙ ap (compound f) (all_under_is bs ts)

  all_under_is : (bs : List (ℕ × Tree)) (ts : Trees) → all_under bs ts ≡ all_substituted (λ v. under bs (variable v)) ts
  all_under_is bs none = refl
  all_under_is bs (more t ts) = cc (under_is bs t, all_under_is bs ts)

-- bindings that unify and that every unifier goes through are a most general unifier
pub good-IsMostGeneral : {bs : List (ℕ × Tree)} {a b : Tree} → Good bs a b → IsMostGeneral (λ v. under bs (variable v)) a b
good-IsMostGeneral {bs} {a} {b} g = record {
  unifies = sym (under_is bs a) ∙ (g.unified ∙ under_is bs b);
  factors = λ r h v. g.through r h (variable v);
  older = g.ages;
}

-- what the function finds is most general
pub mgu-IsMostGeneral : (a b : Tree) (bs : List (ℕ × Tree)) → mgu a b ≡ Some bs → IsMostGeneral (λ v. under bs (variable v)) a b
mgu-IsMostGeneral a b bs e = good-IsMostGeneral (within_sound _ a b bs e)
