-- A term as a body, by a walk.
use Rattle.std.proofs.Common.{◌≡◌, ℕ, List, [], ◌∷◌, ◌++◌, Bool, true, false, refl, sym, ◌∙◌, ap}
use Rattle.std.specs.Prelude.{◌&&◌, if◌then◌else◌, Option, Some, None}
use Rattle.std.specs.List.{list_all}
use Rattle.std.proofs.lemmas.List.Folds.{list_all-append}
use Rattle.std.proofs.lemmas.List.{append_assoc}
use Rattle.prolog_terms.specs.Tree.{Tree, variable, integer, atom, compound, none, more}
use Rattle.prolog_terms.specs.Clauses.{is_connective, is_body, body_of, joined_bodies}
use Rattle.prolog_terms.specs.Faults.{two}
use Rattle.wam_machine.specs.Spine.{Part, Leaf, Joint, spine, spines, is_plain, body_on, joint_on, folded, BodiesByWalk}

pub walks_joint : (f : List ℕ) (a b : Tree) (ts : List Tree) → is_connective f ≡ true → spines (two f a b ∷ ts) ≡ Joint f ∷ spines (a ∷ b ∷ ts)
walks_joint f a b ts e = rw e (ap (λ l. Joint f ∷ l) (append_assoc (spine a) (spine b) (spines ts)))

pub all_plain : (t : Tree) → is_body t ≡ list_all is_plain (spine t)
all_plain (variable n) = refl
all_plain (integer z) = refl
all_plain (atom a) = refl
all_plain (compound f none) = refl
all_plain (compound f (more a none)) = refl
all_plain (compound f (more a (more b none))) = go (is_connective f) (all_plain a) (all_plain b)
  where
    go : (c : Bool) → is_body a ≡ list_all is_plain (spine a) → is_body b ≡ list_all is_plain (spine b)
        → (if c then is_body a && is_body b else true) ≡ list_all is_plain (if c then Joint f ∷ (spine a ++ spine b) else Leaf (two f a b) ∷ [])
    go false h k = refl
    go true h k = rw (h, k) (sym (list_all-append is_plain (spine a) (spine b)))
all_plain (compound f (more a (more b (more c ts)))) = refl

joins : (f : List ℕ) (a b : Option Tree) (st : Option (List Tree)) → joint_on f (body_on a (body_on b st)) ≡ body_on (joined_bodies f a b) st
joins f None b st = refl
joins f (Some a) None st = refl
joins f (Some a) (Some b) None = refl
joins f (Some a) (Some b) (Some st) = refl

pub folds : (t : Tree) (ps : List Part) (st : List Tree) → folded (spine t ++ ps) st ≡ body_on (body_of t) (folded ps st)
folds (variable n) ps st = refl
folds (integer z) ps st = refl
folds (atom a) ps st = refl
folds (compound f none) ps st = refl
folds (compound f (more a none)) ps st = refl
folds (compound f (more a (more b none))) ps st = go (is_connective f) (folds a (spine b ++ ps) st) (folds b ps st)
  where
    go : (c : Bool) → folded (spine a ++ (spine b ++ ps)) st ≡ body_on (body_of a) (folded (spine b ++ ps) st) → folded (spine b ++ ps) st ≡ body_on (body_of b) (folded ps st)
        → folded ((if c then Joint f ∷ (spine a ++ spine b) else Leaf (two f a b) ∷ []) ++ ps) st ≡ body_on (if c then joined_bodies f (body_of a) (body_of b) else Some (two f a b)) (folded ps st)
    go false h k = refl
    go true h k =
        ap (λ l. joint_on f (folded l st)) (append_assoc (spine a) (spine b) ps)
        ∙ ap (joint_on f) (h ∙ ap (body_on (body_of a)) k)
        ∙ joins f (body_of a) (body_of b) (folded ps st)
folds (compound f (more a (more b (more c ts)))) ps st = refl

pub by_walk : BodiesByWalk
by_walk = record { joint = walks_joint; plain = all_plain; body = folds }
