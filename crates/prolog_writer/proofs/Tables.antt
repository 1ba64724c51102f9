-- The tables that declarations make are lawful.
use Rattle.std.proofs.Common.{◌≡◌, ◌≢◌, ℕ, ◌-◌, ◌≤◌, ◌<◌, List, [], ◌∷◌, Bool, true, false, Option, Some, None, refl, sym, ◌∙◌, ap, subst, arith}
use Rattle.std.specs.Prelude.{codes, ◌==◌, ◌&&◌, not, nat_lt, nat_le, cond, is_some, if◌then◌else◌}
use Rattle.std.specs.Cmp.Lexicographic.{bytes_decides}
use Rattle.std.proofs.lemmas.Bool.{true≢false, and_parts}
use Rattle.std.proofs.lemmas.Bool.Decides.{nat_tests}
use Rattle.prolog_terms.specs.declared.ops.OpKind.{OpKind}
use Rattle.prolog_terms.specs.declared.ops.OpKind.TheVariants.{Xfx, Xfy, Yfx, Fy, Fx, Xf, Yf}
use Rattle.prolog_terms.specs.declared.ops.Prefix.{Prefix}
use Rattle.prolog_terms.specs.declared.ops.Infix.{Infix}
use Rattle.prolog_terms.specs.declared.ops.Postfix.{Postfix}
use Rattle.prolog_terms.specs.declared.ops.Definitions.{Definitions}
use Rattle.prolog_terms.specs.declared.ops.OpFault.{OpFault}
use Rattle.prolog_terms.specs.declared.ops.OpFault.TheVariants.{Comma, Reserved, Clash}
use Rattle.std.specs.List.{list_all}
use Rattle.std.specs.Map.{lookup}
use Rattle.prolog_terms.specs.Operators.{Table, same_text, definitions, defined, declared, unless_zero, clashes, no_operator, or_no_operator, initial_operators, is_comma, is_reserved, ChangesAlone, IsTable, first, after}
use Rattle.prolog_terms.proofs.Declares.{changes_alone}
use Rattle.prolog_writer.specs.Again.{IsLawful}

-- what IsLawful says of one name
pub record IsSound (d : Definitions) : Type 0 where
  pub prefixes : (p : Prefix) → d.as_prefix ≡ Some p → (p.priority ≤ 1200) × (p.operand ≤ p.priority)
  pub infixes : (i : Infix) → d.as_infix ≡ Some i
      → (i.priority ≤ 1200) × (i.left ≤ i.priority) × (i.right ≤ i.priority) × (i.left ≡ i.priority → i.right < i.priority) × (d.as_postfix ≡ None)
  pub postfixes : (q : Postfix) → d.as_postfix ≡ Some q → (q.priority ≤ 1200) × (q.operand ≤ q.priority)

none_is_not : {X : Type 0} (x : X) → ◌≡◌ {A = Option X} None (Some x) → ⊥
none_is_not x e = absurd cc

some_of : {X : Type 0} (p : ℕ) (x y : X) → unless_zero p x ≡ Some y → (x ≡ y) × (p ≢ 0)
some_of p x y e = go (p == 0) refl e
  where
    go : (b : Bool) → p == 0 ≡ b → cond b None (Some x) ≡ Some y → (x ≡ y) × (p ≢ 0)
    go true h e = absurd (none_is_not y e)
    go false h e = (cc, λ k. absurd (grind (arith, nat_tests)))

no_other : {X : Type 0} (o : Option X) → is_some o ≡ false → o ≡ None
no_other None e = refl
no_other (Some x) e = absurd (true≢false e)

prefix_of : (p most : ℕ) (x : Prefix) → p ≤ 1200 → most ≤ p → unless_zero p (record { priority = p; operand = most }) ≡ Some x → (x.priority ≤ 1200) × (x.operand ≤ x.priority)
prefix_of p most x few low e = subst (λ (y : Prefix). (y.priority ≤ 1200) × (y.operand ≤ y.priority)) (some_of p (record { priority = p; operand = most }) x e).0 (few, low)

postfix_of : (p most : ℕ) (x : Postfix) → p ≤ 1200 → most ≤ p → unless_zero p (record { operand = most; priority = p }) ≡ Some x → (x.priority ≤ 1200) × (x.operand ≤ x.priority)
postfix_of p most x few low e = subst (λ (y : Postfix). (y.priority ≤ 1200) × (y.operand ≤ y.priority)) (some_of p (record { operand = most; priority = p }) x e).0 (few, low)

abbrev IsSoundInfix : Infix → Option Postfix → Type 0
IsSoundInfix i post = (i.priority ≤ 1200) × (i.left ≤ i.priority) × (i.right ≤ i.priority) × (i.left ≡ i.priority → i.right < i.priority) × (post ≡ None)

infix_of : (p l r : ℕ) (post : Option Postfix) (i : Infix) → p ≤ 1200 → l ≤ p → r ≤ p → (p ≢ 0 → l ≡ p → r < p) → (p ≢ 0 → is_some post ≡ false)
    → unless_zero p (record { left = l; priority = p; right = r }) ≡ Some i → IsSoundInfix i post
infix_of p l r post i few a b c n e =
    let k = some_of p (record { left = l; priority = p; right = r }) i e in
    subst (λ (y : Infix). IsSoundInfix y post) k.0 (few, a, b, c k.1, no_other post (n k.1))

-- a postfix operator that is declared leaves a sound infix one only where it is none
still_none : (p most : ℕ) (d : Option Infix) (old : Option Postfix) (i : Infix) → (p ≢ 0 → is_some d ≡ false) → d ≡ Some i → IsSoundInfix i old
    → IsSoundInfix i (unless_zero p (record { operand = most; priority = p }))
still_none p most d old i n e h = go (p == 0) refl
  where
    go : (b : Bool) → p == 0 ≡ b → IsSoundInfix i (unless_zero p (record { operand = most; priority = p }))
    go true k = rw k (h.0, h.1, h.2, h.3, refl)
    go false k =
        let some : p ≢ 0 = λ z. absurd (grind (arith, nat_tests)) in
        absurd (none_is_not i (sym (no_other d (n some)) ∙ e))

pub sound_after : (kind : OpKind) (p : ℕ) (d : Definitions) → p ≤ 1200 → IsSound d → (p ≢ 0 → clashes kind d ≡ false) → IsSound (defined kind p d)
sound_after Fy p d few h n = record { prefixes = λ x e. prefix_of p p x few (omega arith) e; infixes = h.infixes; postfixes = h.postfixes }
sound_after Fx p d few h n = record { prefixes = λ x e. prefix_of p (p - 1) x few (omega arith) e; infixes = h.infixes; postfixes = h.postfixes }
sound_after Xfx p d few h n = record {
  prefixes = h.prefixes;
  infixes = λ i e. infix_of p (p - 1) (p - 1) d.as_postfix i few (omega arith) (omega arith) (λ z k. omega arith) n e;
  postfixes = h.postfixes;
}
sound_after Xfy p d few h n = record {
  prefixes = h.prefixes;
  infixes = λ i e. infix_of p (p - 1) p d.as_postfix i few (omega arith) (omega arith) (λ z k. absurd (omega arith)) n e;
  postfixes = h.postfixes;
}
sound_after Yfx p d few h n = record {
  prefixes = h.prefixes;
  infixes = λ i e. infix_of p p (p - 1) d.as_postfix i few (omega arith) (omega arith) (λ z k. omega arith) n e;
  postfixes = h.postfixes;
}
sound_after Xf p d few h n = record {
  prefixes = h.prefixes;
  infixes = λ i e. still_none p (p - 1) d.as_infix d.as_postfix i n e (h.infixes i e);
  postfixes = λ q e. postfix_of p (p - 1) q few (omega arith) e;
}
sound_after Yf p d few h n = record {
  prefixes = h.prefixes;
  infixes = λ i e. still_none p p d.as_infix d.as_postfix i n e (h.infixes i e);
  postfixes = λ q e. postfix_of p p q few (omega arith) e;
}

-- ---- the first table, by a test that is computed

abbrev prefix_ok : Option Prefix → Bool
prefix_ok None = true
prefix_ok (Some p) = nat_le p.priority 1200 && nat_le p.operand p.priority

abbrev infix_ok : Option Infix → Bool
infix_ok None = true
infix_ok (Some i) = nat_le i.priority 1200 && (nat_le i.left i.priority && (nat_le i.right i.priority && not (i.left == i.priority && i.right == i.priority)))

abbrev is_ok : Definitions → Bool
is_ok d = prefix_ok d.as_prefix && (infix_ok d.as_infix && not (is_some d.as_postfix))

prefix_test : (p : Prefix) → (nat_le p.priority 1200 && nat_le p.operand p.priority) ≡ true → (p.priority ≤ 1200) × (p.operand ≤ p.priority)
prefix_test p e = (grind (arith, nat_tests), grind (arith, nat_tests))

infix_test : (i : Infix) (post : Option Postfix) → (nat_le i.priority 1200 && (nat_le i.left i.priority && (nat_le i.right i.priority && not (i.left == i.priority && i.right == i.priority)))) ≡ true
    → post ≡ None → IsSoundInfix i post
infix_test i post e n = (grind (arith, nat_tests), grind (arith, nat_tests), grind (arith, nat_tests), (λ k. grind (arith, nat_tests)), n)

not_some : {X : Type 0} (o : Option X) → not (is_some o) ≡ true → o ≡ None
not_some None e = refl
not_some (Some x) e = absurd (true≢false (sym e))

sound_by_test : (d : Definitions) → is_ok d ≡ true → IsSound d
sound_by_test d e =
    let a = and_parts (prefix_ok d.as_prefix) (infix_ok d.as_infix && not (is_some d.as_postfix)) e in
    let b = and_parts (infix_ok d.as_infix) (not (is_some d.as_postfix)) a.1 in
    let n = not_some d.as_postfix b.1 in
    record {
      prefixes = λ p h. prefix_test p (sym (ap prefix_ok h) ∙ a.0);
      infixes = λ i h. infix_test i d.as_postfix (sym (ap infix_ok h) ∙ b.0) n;
      postfixes = λ q h. absurd (none_is_not q (sym n ∙ h));
    }

tested : (table : Table) (name : List ℕ) → list_all (λ e. is_ok e.1) table ≡ true → IsSound (or_no_operator (lookup (same_text name) table))
tested [] name h = sound_by_test no_operator refl
tested (e ∷ table) name h =
    let p = and_parts (is_ok e.1) (list_all (λ x. is_ok x.1) table) h in
    by (same_text name e.0) refl (sound_by_test e.1 p.0) (tested table name p.1)
  where
    by : (b : Bool) → same_text name e.0 ≡ b → IsSound e.1 → IsSound (or_no_operator (lookup (same_text name) table)) → IsSound (or_no_operator (lookup (same_text name) (e ∷ table)))
    by true k this rest = rw k this
    by false k this rest = rw k rest

first_passes : list_all (λ e. is_ok e.1) initial_operators ≡ true
unfolding initial_operators
first_passes = refl

first_sound : (name : List ℕ) → IsSound (definitions initial_operators name)
unfolding definitions
first_sound name = tested initial_operators name first_passes

-- ---- all tables

three : (a b c : Bool) (x y z : OpFault) → ◌≡◌ {A = Option OpFault} (if a then Some x else (if b then Some y else (if c then Some z else None))) None → (a ≡ false) × (b ≡ false) × (c ≡ false)
three true b c x y z e = absurd (none_is_not x (sym e))
three false true c x y z e = absurd (none_is_not y (sym e))
three false false true x y z e = absurd (none_is_not z (sym e))
three false false false x y z e = (refl, refl, refl)

no_clash : (p : ℕ) (c : Bool) → (nat_lt 0 p && c) ≡ false → p ≢ 0 → c ≡ false
no_clash p true e n = absurd (n (grind (arith, nat_tests)))
no_clash p false e n = refl

different : (a b : List ℕ) → same_text a b ≡ false → a ≢ b
different a b e h = true≢false (sym ((bytes_decides a b).1 h) ∙ e)

pub all_sound : (table : Table) → IsTable table → (name : List ℕ) → IsSound (definitions table name)
all_sound table first name = first_sound name
all_sound table (after {table = old} p kind n few r h) name =
    let bools = three (is_comma n) (is_reserved n) (nat_lt 0 p && clashes kind (definitions old n)) Comma Reserved Clash r in
    let sound = sound_after kind p (definitions old n) few (all_sound old h n) (no_clash p (clashes kind (definitions old n)) bools.2) in
    let change = changes_alone p kind n old (declared p kind n old) refl in
    by (same_text name n) refl (subst IsSound (sym change.operator) sound) (all_sound old h name) change
  where
    by : (b : Bool) → same_text name n ≡ b → IsSound (definitions (declared p kind n old) n) → IsSound (definitions old name) → ChangesAlone p kind n old (declared p kind n old)
        → IsSound (definitions (declared p kind n old) name)
    by true k this rest change = subst (λ m. IsSound (definitions (declared p kind n old) m)) (sym ((bytes_decides name n).0 k)) this
    by false k this rest change = subst IsSound (sym (change.names name (different name n k))) rest

-- a name that is never declared stays as it is in the first table
stays : (table : Table) (fixed : List ℕ) → ((n : List ℕ) → is_comma n ≡ false → is_reserved n ≡ false → fixed ≢ n) → IsTable table → definitions table fixed ≡ definitions initial_operators fixed
stays table fixed f first = refl
stays table fixed f (after {table = old} p kind n few r h) =
    let bools = three (is_comma n) (is_reserved n) (nat_lt 0 p && clashes kind (definitions old n)) Comma Reserved Clash r in
    (changes_alone p kind n old (declared p kind n old) refl).names fixed (f n bools.0 bools.1) ∙ stays old fixed f h

first_comma : definitions initial_operators (codes ",") ≡ record { as_prefix = None; as_infix = Some (record { left = 999; priority = 1000; right = 1000 }); as_postfix = None }
unfolding initial_operators definitions
first_comma = refl

first_brackets : definitions initial_operators (codes "[]") ≡ no_operator
unfolding initial_operators definitions
first_brackets = refl

first_braces : definitions initial_operators (codes "{}") ≡ no_operator
unfolding initial_operators definitions
first_braces = refl

is_not : (test : List ℕ → Bool) (fixed n : List ℕ) → test fixed ≡ true → test n ≡ false → fixed ≢ n
is_not test fixed n e h k = true≢false (sym e ∙ ap test k ∙ h)

pub lawful : (table : Table) → IsTable table → IsLawful table
lawful table h = record {
  comma = stays table (codes ",") (λ n a b. is_not is_comma (codes ",") n refl a) h ∙ first_comma;
  brackets = stays table (codes "[]") (λ n a b. is_not is_reserved (codes "[]") n refl b) h ∙ first_brackets;
  braces = stays table (codes "{}") (λ n a b. is_not is_reserved (codes "{}") n refl b) h ∙ first_braces;
  prefixes = λ name. (all_sound table h name).prefixes;
  infixes = λ name. (all_sound table h name).infixes;
  postfixes = λ name. (all_sound table h name).postfixes;
}
