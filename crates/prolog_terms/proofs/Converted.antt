-- What a term is converted to is a body, and a body is converted to itself.
use Rattle.std.proofs.Common.{◌≡◌, ℕ, List, Bool, true, false, refl, sym, subst}
use Rattle.std.specs.Prelude.{◌&&◌, if◌then◌else◌, IsTrue, Option, Some, None, IfSome}
use Rattle.prolog_terms.specs.Tree.{Tree, Trees, variable, integer, atom, compound, none, more}
use Rattle.prolog_terms.specs.Clauses.{is_connective, is_body, body_of, joined_bodies}
use Rattle.prolog_terms.specs.Faults.{two}

pub both_true : (p q : Bool) → p ≡ true → q ≡ true → (p && q) ≡ true
both_true true q h k = k
both_true false q h k = h

pub first_true : (p q : Bool) → (p && q) ≡ true → p ≡ true
first_true true q h = refl
first_true false q h = h

pub second_true : (p q : Bool) → (p && q) ≡ true → q ≡ true
second_true true q h = h
second_true false q h = absurd cc

is_body_two : (f : List ℕ) (a b : Tree) (c : Bool) → is_connective f ≡ c → (if c then is_body a && is_body b else true) ≡ true → is_body (two f a b) ≡ true
is_body_two f a b c e h = let P : Bool → Type 0 = λ d. (if d then is_body a && is_body b else true) ≡ true in subst P (sym e) h

converted_two : (f : List ℕ) (a b : Tree) (c : Bool) → is_connective f ≡ c → (oa ob : Option Tree) → IfSome oa (λ t. IsTrue (is_body t)) → IfSome ob (λ t. IsTrue (is_body t))
    → IfSome (if c then joined_bodies f oa ob else Some (two f a b)) (λ t. IsTrue (is_body t))
converted_two f a b false e oa ob ha hb = is_body_two f a b false e refl
converted_two f a b true e None ob ha hb = tt
converted_two f a b true e (Some t) None ha hb = tt
converted_two f a b true e (Some t) (Some u) ha hb = is_body_two f t u true e (both_true (is_body t) (is_body u) ha hb)

pub is_converted : (t : Tree) → IfSome (body_of t) (λ b. IsTrue (is_body b))
is_converted (variable n) = refl
is_converted (integer z) = tt
is_converted (atom a) = refl
is_converted (compound f none) = refl
is_converted (compound f (more a none)) = refl
is_converted (compound f (more a (more b none))) = converted_two f a b (is_connective f) refl (body_of a) (body_of b) (is_converted a) (is_converted b)
is_converted (compound f (more a (more b (more c ts)))) = refl

same_two : (f : List ℕ) (a b : Tree) (c : Bool) → (is_body a ≡ true → body_of a ≡ Some a) → (is_body b ≡ true → body_of b ≡ Some b)
    → (if c then is_body a && is_body b else true) ≡ true → (if c then joined_bodies f (body_of a) (body_of b) else Some (two f a b)) ≡ Some (two f a b)
same_two f a b false ha hb h = refl
same_two f a b true ha hb h = go (body_of a) (body_of b) (ha (first_true (is_body a) (is_body b) h)) (hb (second_true (is_body a) (is_body b) h))
  where
    go : (oa ob : Option Tree) → oa ≡ Some a → ob ≡ Some b → joined_bodies f oa ob ≡ Some (two f a b)
    go oa ob ea eb = rw (ea, eb) refl

pub is_same : (t : Tree) → IsTrue (is_body t) → body_of t ≡ Some t
is_same (variable n) h = absurd cc
is_same (integer z) h = absurd cc
is_same (atom a) h = refl
is_same (compound f none) h = refl
is_same (compound f (more a none)) h = refl
is_same (compound f (more a (more b none))) h = same_two f a b (is_connective f) (is_same a) (is_same b) h
is_same (compound f (more a (more b (more c ts)))) h = refl
