-- An atom as the first argument of compare.
use Rattle.std.proofs.Common.{◌≡◌, ℕ, List, Bool, true, false, sym, subst, ap, ◌∙◌, codes}
use Rattle.std.specs.Prelude.{if◌then◌else◌}
use Rattle.prolog_terms.specs.Tree.{Tree, atom}
use Rattle.prolog_terms.specs.Substitutions.{numbered}
use Rattle.prolog_terms.specs.Order.{standard_order}
use Rattle.prolog_terms.specs.declared.fault.Fault.{Fault}
use Rattle.prolog_terms.specs.declared.fault.Fault.TheVariants.{Domain}
use Rattle.term_builtins.specs.Meanings.{Raises, comparing, equal, sign_of, is_sign, domain_error}

pub sign-order : (t l r : Tree) (a : List ℕ) → t ≡ atom a → is_sign a ≡ true → comparing t l r ≡ equal t (sign_of (standard_order l r))
sign-order t l r a e is =
    subst (λ (u : Tree). comparing u l r ≡ equal u (sign_of (standard_order l r))) (sym e)
    (ap (λ (b : Bool). if b then equal (atom a) (sign_of (standard_order l r)) else domain_error (codes "order") (atom a)) is)

pub sign-other : (t l r : Tree) (a : List ℕ) (f : Fault) → t ≡ atom a → is_sign a ≡ false → f ≡ Domain (codes "order") (numbered t) → comparing t l r ≡ Raises f
sign-other t l r a f e is raised =
    subst (λ (u : Tree). comparing u l r ≡ Raises (Domain (codes "order") (numbered u))) (sym e)
    (ap (λ (b : Bool). if b then equal (atom a) (sign_of (standard_order l r)) else domain_error (codes "order") (atom a)) is)
    ∙ ap Raises (sym raised)
