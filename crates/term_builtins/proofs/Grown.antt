-- A store to which compounds and names were added.
use Rattle.std.proofs.Common.{◌≡◌, ℕ, ◌<◌, ◌≤◌, List, [], ◌∷◌, ◌++◌, length, All, Bool, true, false, refl, sym, ap, ap₂, ◌∙◌, arith, append-nil, length-append, nat_eq, Some, slice_get}
use Rattle.std.specs.Prelude.{if◌then◌else◌}
use Rattle.std.specs.List.{list_any}
use Rattle.std.specs.Cmp.Lexicographic.{pointwise}
use Rattle.std.proofs.lemmas.Option.{slice_get_within}
use Rattle.prolog_terms.specs.Tree.{Tree, atom, compound}
use Rattle.prolog_terms.specs.Substitutions.{substituted}
use Rattle.term_store.specs.declared.cell.Cell.{Cell}
use Rattle.term_store.specs.declared.cell.Cell.TheVariants.{Atom, Compound}
use Rattle.term_store.specs.Shape.{Shape}
use Rattle.term_store.specs.Terms.{text, raw, resolved, meaning, term_of, trees_of, IsCell, HasTerm, AreNamed, IsShape}
use Rattle.term_store.specs.Later.{AreLonger, AreDistinct}
use Rattle.term_store.specs.Heads.{IsFurther}
use Rattle.term_store.proofs.Rows.{substituted-trees_of, bindings-later, raw-atom}
use Rattle.term_store.proofs.Laws.{later-itself, later-further, longer-itself, longer-further, longer-length, has_term-later, are_named-more, term-stays, later-compound, named-compound, raw-new, text-longer}
use Rattle.term_builtins.proofs.Views.{text-read}

-- ---- further

pub further-itself : (s : Shape) (texts : List (List ℕ)) → AreNamed (length texts) s → IsFurther s texts s texts
further-itself s texts named = record { later = later-itself s; longer = longer-itself texts; distinct = λ d. d; named = named }

pub further-further : (s t u : Shape) (a b c : List (List ℕ)) → IsFurther s a t b → IsFurther t b u c → IsFurther s a u c
further-further s t u a b c h k = record {
  later = later-further s t u h.later k.later;
  longer = longer-further a b c h.longer k.longer;
  distinct = λ d. k.distinct (h.distinct d);
  named = k.named;
}

-- names were added
pub further-names : (s : Shape) (texts after : List (List ℕ)) → AreLonger texts after → (AreDistinct texts → AreDistinct after) → AreNamed (length texts) s → IsFurther s texts s after
further-names s texts after longer distinct named = record {
  later = later-itself s;
  longer = longer;
  distinct = distinct;
  named = are_named-more (length texts) (length after) s (longer-length texts after longer) named;
}

-- one name was added, or none
pub intern-longer : (texts after : List (List ℕ)) (t : List ℕ) → after ≡ (if list_any (pointwise nat_eq t) texts then texts else texts ++ t ∷ []) → AreLonger texts after
intern-longer texts after t e = go (list_any (pointwise nat_eq t) texts) e
  where
    go : (b : Bool) → after ≡ (if b then texts else texts ++ t ∷ []) → AreLonger texts after
    go true k = record { added = []; texts = k ∙ sym (append-nil texts) }
    go false k = record { added = t ∷ []; texts = k }

-- two names were
pub intern-twice : (texts one after : List (List ℕ)) (a b : List ℕ) → one ≡ (if list_any (pointwise nat_eq a) texts then texts else texts ++ a ∷ [])
    → after ≡ (if list_any (pointwise nat_eq b) one then one else one ++ b ∷ []) → AreLonger texts after
intern-twice texts one after a b e k = longer-further texts one after (intern-longer texts one a e) (intern-longer one after b k)

-- a number that was given stays the text's
pub number-low : (one after : List (List ℕ)) (n : ℕ) (a : List ℕ) → AreLonger one after → slice_get one n ≡ Some a → n < length after
number-low one after n a longer e = let low = slice_get_within one n a e in let le = longer-length one after longer in omega (arith, low, le)

pub number-text : (one after : List (List ℕ)) (n : ℕ) (a : List ℕ) → AreLonger one after → slice_get one n ≡ Some a → text after n ≡ a
number-text one after n a longer e = text-longer one after longer n (slice_get_within one n a e) ∙ text-read one n a e

-- one compound was added
pub further-compound : (s : Shape) (texts : List (List ℕ)) (f : ℕ) (cs : List Cell) → AreNamed (length texts) s → f < length texts → All (HasTerm (length texts) s) cs
    → IsFurther s texts (record s { compounds = s.compounds ++ (f, cs) ∷ [] }) texts
further-compound s texts f cs named low valid = record {
  later = later-compound s (f, cs);
  longer = longer-itself texts;
  distinct = λ d. d;
  named = named-compound (length texts) s f cs named low (λ k d lt. (valid k d lt).1);
}

-- ---- cells

pub has-further : (s t : Shape) (a b : List (List ℕ)) (c : Cell) → IsFurther s a t b → HasTerm (length a) s c → HasTerm (length b) t c
has-further s t a b c h w = has_term-later s t (length a) (length b) c h.later (longer-length a b h.longer) w

-- where nothing was bound, a cell stands for what it stood for
pub term-further : (s t : Shape) (a b : List (List ℕ)) (c : Cell) → IsShape s → AreNamed (length a) s → IsFurther s a t b → t.bindings ≡ s.bindings → HasTerm (length a) s c
    → term_of b t c ≡ term_of a s c
term-further s t a b c shape named h same w = term-stays s t a b c shape named h.later h.longer same w

-- under more names too
pub term-names : (s : Shape) (a b : List (List ℕ)) (c : Cell) → IsShape s → AreNamed (length a) s → AreLonger a b → HasTerm (length a) s c → term_of b s c ≡ term_of a s c
term-names s a b c shape named longer w = term-stays s s a b c shape named (later-itself s) longer refl w

-- and where the names that it has to have are the later ones
pub term-between : (s t : Shape) (a b : List (List ℕ)) (c : Cell) → IsShape s → AreNamed (length a) s → IsFurther s a t b → t.bindings ≡ s.bindings → HasTerm (length b) s c
    → term_of b t c ≡ term_of b s c
term-between s t a b c shape named h same w =
    term-stays s t b b c shape (are_named-more (length a) (length b) s (longer-length a b h.longer) named) h.later (longer-itself b) same w

pub term-atom : (s : Shape) (texts : List (List ℕ)) (n : ℕ) → term_of texts s (Atom n) ≡ atom (text texts n)
term-atom s texts n = ap (substituted (meaning texts s)) (raw-atom (text texts) s.compounds n)

-- ---- a new compound

pub has-compound : (count : ℕ) (s : Shape) (f : ℕ) (cs : List Cell) → HasTerm count (record s { compounds = s.compounds ++ (f, cs) ∷ [] }) (Compound (length s.compounds))
has-compound count s f cs = (let e = length-append s.compounds ((f, cs) ∷ []) in omega (arith, e), tt)

pub term-compound : (s : Shape) (texts : List (List ℕ)) (f : ℕ) (cs : List Cell) → IsShape s → 1 ≤ length cs → length cs ≤ 255 → All (IsCell s) cs
    → term_of texts (record s { compounds = s.compounds ++ (f, cs) ∷ [] }) (Compound (length s.compounds)) ≡ compound (text texts f) (trees_of (term_of texts s) cs)
term-compound s texts f cs h some few valid =
    ap₂ (λ (bs : List (ℕ × Tree)) (t : Tree). substituted (resolved bs) t)
    (bindings-later (text texts) s.compounds ((f, cs) ∷ []) s.variables h.compounds s.bindings (λ k d lt. (h.bindings k d lt).1))
    (raw-new s texts f cs h some few valid)
    ∙ ap (compound (text texts f)) (substituted-trees_of (meaning texts s) (raw texts s) cs)
