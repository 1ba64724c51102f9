-- The form of a compound: what it says of its name, and the priorities at its place.
use Rattle.std.proofs.Common.{◌≡◌, ℕ, suc, ◌≤◌, Bool, true, false, List, Option, Some, None, refl, sym, arith}
use Rattle.std.specs.Prelude.{codes, not, ◌==◌, ◌&&◌, nat_lt, if◌then◌else◌}
use Rattle.std.proofs.lemmas.Bool.{true≢false, and_parts, eqb-true}
use Rattle.std.proofs.lemmas.Bool.Decides.{nat_tests}
use Rattle.prolog_terms.specs.Operators.{Table, prefix_op, infix_op, postfix_op}
use Rattle.prolog_terms.specs.declared.ops.Prefix.{Prefix}
use Rattle.prolog_terms.specs.declared.ops.Infix.{Infix}
use Rattle.prolog_terms.specs.declared.ops.Postfix.{Postfix}
use Rattle.prolog_writer.specs.declared.style.Style.{Style}
use Rattle.prolog_writer.specs.declared.shape.Shape.{Shape}
use Rattle.prolog_writer.specs.declared.shape.Shape.TheVariants.{Cell, Braced, Prefixed, Infixed, Postfixed, Call}
use Rattle.prolog_writer.specs.declared.shape.Place.{Place}
use Rattle.prolog_writer.specs.declared.shape.Place.TheVariants.{Within, Operand, Left}
use Rattle.prolog_writer.specs.Spelling.{same_text}
use Rattle.prolog_writer.specs.Shapes.{is_cell, is_braced, has_operators, unary, binary, operator_shape, shape_of, priority, nests_left, is_enclosed}
use Rattle.prolog_writer.specs.Again.{IsLawful}
use Rattle.prolog_writer.proofs.Behind.{both_no}
use Rattle.prolog_writer.proofs.Tokened.{same}
use Rattle.prolog_writer.proofs.Facts.{most}

-- ---- the forms

pub data Formed (ops : Table) (style : Style) (f : List ℕ) (n : ℕ) : Shape → Type 0 where
  cell : f ≡ codes "." → n ≡ 2 → Formed ops style f n Cell
  braced : f ≡ codes "{}" → n ≡ 1 → Formed ops style f n Braced
  prefixed : (p : Prefix) → has_operators style ≡ true → prefix_op ops f ≡ Some p → n ≡ 1 → Formed ops style f n (Prefixed p)
  infixed : (i : Infix) → has_operators style ≡ true → infix_op ops f ≡ Some i → n ≡ 2 → Formed ops style f n (Infixed i)
  postfixed : (p : Postfix) → has_operators style ≡ true → postfix_op ops f ≡ Some p → n ≡ 1 → Formed ops style f n (Postfixed p)
  call : Formed ops style f n Call

pub cell_is : (f : List ℕ) (n : ℕ) → is_cell f n ≡ true → (f ≡ codes ".") × (n ≡ 2)
cell_is f n e = let p = and_parts (n == 2) (same_text f (codes ".")) e in (same f (codes ".") p.1, eqb-true n 2 p.0)

braced_is : (f : List ℕ) (n : ℕ) → is_braced f n ≡ true → (f ≡ codes "{}") × (n ≡ 1)
braced_is f n e = let p = and_parts (n == 1) (same_text f (codes "{}")) e in (same f (codes "{}") p.1, eqb-true n 1 p.0)

formed_one : (ops : Table) (style : Style) (f : List ℕ) (n : ℕ) → has_operators style ≡ true → n ≡ 1 → (x : Option Prefix) (y : Option Postfix) → prefix_op ops f ≡ x → postfix_op ops f ≡ y
    → Formed ops style f n (unary x y)
formed_one ops style f n o e (Some p) y a b = prefixed p o a e
formed_one ops style f n o e None (Some q) a b = postfixed q o b e
formed_one ops style f n o e None None a b = call

formed_two : (ops : Table) (style : Style) (f : List ℕ) (n : ℕ) → has_operators style ≡ true → n ≡ 2 → (x : Option Infix) → infix_op ops f ≡ x → Formed ops style f n (binary x)
formed_two ops style f n o e (Some i) a = infixed i o a e
formed_two ops style f n o e None a = call

formed_operator : (ops : Table) (style : Style) (f : List ℕ) (n : ℕ) → has_operators style ≡ true → (a b : Bool) → n == 1 ≡ a → n == 2 ≡ b
    → Formed ops style f n (if a then unary (prefix_op ops f) (postfix_op ops f) else (if b then binary (infix_op ops f) else Call))
formed_operator ops style f n o true b e h = formed_one ops style f n o (eqb-true n 1 e) (prefix_op ops f) (postfix_op ops f) refl refl
formed_operator ops style f n o false true e h = formed_two ops style f n o (eqb-true n 2 h) (infix_op ops f) refl
formed_operator ops style f n o false false e h = call

formed_by : (ops : Table) (style : Style) (f : List ℕ) (n : ℕ) → (a b c : Bool) → is_cell f n ≡ a → is_braced f n ≡ b → has_operators style ≡ c
    → Formed ops style f n (if a then Cell else (if b then Braced else (if c then operator_shape ops f n else Call)))
formed_by ops style f n true b c e h o = let k = cell_is f n e in cell k.0 k.1
formed_by ops style f n false true c e h o = let k = braced_is f n h in braced k.0 k.1
formed_by ops style f n false false true e h o = formed_operator ops style f n o (n == 1) (n == 2) refl refl
formed_by ops style f n false false false e h o = call

pub formed : (ops : Table) (style : Style) (f : List ℕ) (n : ℕ) → Formed ops style f n (shape_of ops style f n)
unfolding shape_of
formed ops style f n = formed_by ops style f n (is_cell f n) (is_braced f n) (has_operators style) refl refl refl

-- ---- the priorities

-- below this are the priorities that an operand at the right end may have
abbrev pub reach : Shape → ℕ
reach Cell = 0
reach Braced = 0
reach (Prefixed p) = suc p.operand
reach (Infixed i) = suc i.right
reach (Postfixed q) = 0
reach Call = 0

pub record Fits (sh : Shape) : Type 0 where
  pub low : priority sh ≤ 1200
  pub near : reach sh ≤ suc (priority sh)
  pub nested : nests_left sh ≡ true → reach sh ≤ priority sh

pub fits : {ops : Table} → IsLawful ops → {style : Style} {f : List ℕ} {n : ℕ} {sh : Shape} → Formed ops style f n sh → Fits sh
fits law (cell e n) = record { low = omega arith; near = omega arith; nested = λ e. omega arith }
fits law (braced e n) = record { low = omega arith; near = omega arith; nested = λ e. omega arith }
fits law {f = f} (prefixed p o e n) =
    let h = law.prefixes f p e in
    record { low = h.0; near = omega (arith, h.1); nested = λ k. absurd (true≢false (sym k)) }
fits law {f = f} (infixed i o e n) =
    let h = law.infixes f i e in
    record { low = h.0; near = let r : i.right ≤ i.priority = h.2 in omega (arith, r); nested = λ k. h.3 (eqb-true i.left i.priority k) }
fits law {f = f} (postfixed q o e n) = let h = law.postfixes f q e in record { low = h.0; near = omega arith; nested = λ e. omega arith }
fits law call = record { low = omega arith; near = omega arith; nested = λ e. omega arith }

-- what stands at a place: the form, or a parenthesis
abbrev pub seen : Bool → Shape → Shape
seen b sh = if b then Call else sh

pub seen_low : (b : Bool) (sh : Shape) → Fits sh → priority (seen b sh) ≤ 1200
seen_low true sh h = omega arith
seen_low false sh h = h.low

not_above : (a b : ℕ) → nat_lt a b ≡ false → b ≤ a
not_above a b e = grind (arith, nat_tests)

open_under : (at : Place) (sh : Shape) → is_enclosed at sh ≡ false → priority sh ≤ most at
unfolding is_enclosed
open_under (Within n) sh e = not_above n (priority sh) e
open_under (Operand n) sh e = not_above n (priority sh) e
open_under (Left n own) sh e = not_above n (priority sh) (both_no (nat_lt n (priority sh)) (priority sh == own && not (nests_left sh)) e).0

pub seen_under : (at : Place) (sh : Shape) (b : Bool) → is_enclosed at sh ≡ b → priority (seen b sh) ≤ most at
seen_under at sh true e = omega arith
seen_under at sh false e = open_under at sh e

pub seen_within : (at : Place) (sh : Shape) (b : Bool) → Fits sh → is_enclosed at sh ≡ b → reach (seen b sh) ≤ suc (most at)
seen_within at sh true h e = omega arith
seen_within at sh false h e = let u = open_under at sh e in let k = h.near in omega (arith, u, k)

own_or_nested : (a b : Bool) → (a && not b) ≡ false → a ≡ true → b ≡ true
own_or_nested true true e h = refl
own_or_nested true false e h = absurd (true≢false e)
own_or_nested false b e h = absurd (true≢false (sym h))

below : (a b : ℕ) → a ≤ b → a == b ≡ false → suc a ≤ b
below a b h e = grind (arith, nat_tests)

pub seen_left : (n own : ℕ) (sh : Shape) (b : Bool) → Fits sh → n ≤ own → is_enclosed (Left n own) sh ≡ b → reach (seen b sh) ≤ own
unfolding is_enclosed
seen_left n own sh true h few e = omega arith
seen_left n own sh false h few e =
    let k = both_no (nat_lt n (priority sh)) (priority sh == own && not (nests_left sh)) e in
    let u = not_above n (priority sh) k.0 in
    by (priority sh == own) refl k.1 u
  where
    by : (c : Bool) → priority sh == own ≡ c → (priority sh == own && not (nests_left sh)) ≡ false → priority sh ≤ n → reach sh ≤ own
    by true c k u =
        let same : priority sh ≡ own = eqb-true (priority sh) own c in
        let r : reach sh ≤ priority sh = h.nested (own_or_nested (priority sh == own) (nests_left sh) k c) in
        omega (arith, same, r)
    by false c k u =
        let high : priority sh ≤ own = omega (arith, u, few) in
        let r = below (priority sh) own high c in
        let near = h.near in
        omega (arith, near, r)
