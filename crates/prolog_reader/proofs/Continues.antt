-- The cases of the token after a complete term.
use Rattle.std.proofs.Common.{◌≡◌, ℕ, List, [], ◌∷◌, refl, sym, ap, ◌∙◌, Option, None, Some}
use Rattle.prolog_terms.specs.Operators.{Table}
use Rattle.prolog_terms.specs.declared.ops.Definitions.{Definitions}
use Rattle.prolog_reader.specs.Numberings.{Numbering}
use Rattle.prolog_terms.specs.Tree.{Trees}
use Rattle.prolog_lexer.specs.declared.token.Token.{Token}
use Rattle.prolog_reader.specs.Grammar.{goes, continued, extension, operator_name, grown, refusal, taken, made, found_of, extended}
use Rattle.prolog_reader.specs.declared.rule.Extension.{Extension}
use Rattle.prolog_reader.specs.declared.rule.Frame.{Frame}
use Rattle.prolog_reader.specs.declared.rule.Frame.TheVariants.{Arguments, Items, Tail, Paren, Braces, Prefixed, Infixed}

module _ (ops : Table) (q m : ℕ) (ts : Trees) (vs : Numbering) (t : Token) where
  pub grows : (fs : List Frame) (x : Extension) → extension ops (operator_name t.kind) q m ≡ Some x → continued ops q m fs ts vs t ≡ goes (grown x m fs ts vs)
  unfolding continued
  grows [] x e = rw e refl
  grows (Prefixed f p n ∷ fs) x e = rw e refl
  grows (Infixed f p n ∷ fs) x e = rw e refl
  grows (Arguments f k n ∷ fs) x e = rw e refl
  grows (Items k n ∷ fs) x e = rw e refl
  grows (Tail k n ∷ fs) x e = rw e refl
  grows (Paren n ∷ fs) x e = rw e refl
  grows (Braces n ∷ fs) x e = rw e refl

  module _ (none_fits : extension ops (operator_name t.kind) q m ≡ None) where
    pub ends : (fs : List Frame) → fs ≡ [] → continued ops q m fs ts vs t ≡ refusal ops t
    unfolding continued
    ends fs e = rw (e, none_fits) refl

    pub closes_prefixed : (fs gs : List Frame) (f : List ℕ) (p n : ℕ) → fs ≡ Prefixed f p n ∷ gs → continued ops q m fs ts vs t ≡ continued ops p n gs (made f 1 ts) vs t
    unfolding continued
    closes_prefixed fs gs f p n e = rw (e, none_fits) refl

    pub closes_infixed : (fs gs : List Frame) (f : List ℕ) (p n : ℕ) → fs ≡ Infixed f p n ∷ gs → continued ops q m fs ts vs t ≡ continued ops p n gs (made f 2 ts) vs t
    unfolding continued
    closes_infixed fs gs f p n e = rw (e, none_fits) refl

    pub argument : (fs gs : List Frame) (f : List ℕ) (k n : ℕ) → fs ≡ Arguments f k n ∷ gs → continued ops q m fs ts vs t ≡ taken ops (Arguments f k n) gs ts vs t
    unfolding continued
    argument fs gs f k n e = rw (e, none_fits) refl

    pub item : (fs gs : List Frame) (k n : ℕ) → fs ≡ Items k n ∷ gs → continued ops q m fs ts vs t ≡ taken ops (Items k n) gs ts vs t
    unfolding continued
    item fs gs k n e = rw (e, none_fits) refl

    pub tail : (fs gs : List Frame) (k n : ℕ) → fs ≡ Tail k n ∷ gs → continued ops q m fs ts vs t ≡ taken ops (Tail k n) gs ts vs t
    unfolding continued
    tail fs gs k n e = rw (e, none_fits) refl

    pub paren : (fs gs : List Frame) (n : ℕ) → fs ≡ Paren n ∷ gs → continued ops q m fs ts vs t ≡ taken ops (Paren n) gs ts vs t
    unfolding continued
    paren fs gs n e = rw (e, none_fits) refl

    pub braces : (fs gs : List Frame) (n : ℕ) → fs ≡ Braces n ∷ gs → continued ops q m fs ts vs t ≡ taken ops (Braces n) gs ts vs t
    unfolding continued
    braces fs gs n e = rw (e, none_fits) refl

-- the extension, of what was found of the token's text
pub told : (ops : Table) (q m : ℕ) {name text : Option (List ℕ)} {d : Definitions} {x : Option Extension} → text ≡ name → d ≡ found_of ops text → x ≡ extended text d q m → extension ops name q m ≡ x
unfolding extension
told ops q m {name} {text} {d} {x} e f g = sym (g ∙ ap (λ z. extended text z q m) f ∙ ap (λ z. extended z (found_of ops z) q m) e)
