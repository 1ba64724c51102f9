-- What stands behind a term, and which operators go on with it.
use Rattle.std.proofs.Common.{◌≡◌, ℕ, ◌≤◌, ◌<◌, List, [], ◌∷◌, Bool, true, false, Option, Some, None, refl, sym, ◌∙◌, ap, arith}
use Rattle.std.specs.Prelude.{codes, not, ◌&&◌, ◌||◌, nat_le}
use Rattle.std.proofs.lemmas.Bool.{true≢false}
use Rattle.std.proofs.lemmas.Bool.Decides.{nat_tests}
use Rattle.prolog_terms.specs.Operators.{Table, infix_op, postfix_op}
use Rattle.prolog_terms.specs.declared.ops.Infix.{Infix}
use Rattle.prolog_terms.specs.declared.ops.Postfix.{Postfix}
use Rattle.prolog_lexer.specs.declared.token.Token.{Token}
use Rattle.prolog_lexer.specs.declared.token.TokenKind.TheVariants.{Punct}
use Rattle.prolog_reader.specs.Grammar.{touches, opens, calls, is_integer, is_minus, negates, begins, takes_operand, operator_name, extension}
use Rattle.prolog_reader.specs.Reads.{Rests}
use Rattle.prolog_writer.specs.Again.{IsLawful}

-- ---- Bools

pub both_no : (x y : Bool) → (x || y) ≡ false → (x ≡ false) × (y ≡ false)
both_no true y e = (e, absurd (true≢false e))
both_no false y e = (refl, e)

pub and_no : (x y : Bool) → y ≡ false → (x && y) ≡ false
and_no true y e = e
and_no false y e = refl

pub no_and : (x y : Bool) → x ≡ false → (x && y) ≡ false
no_and true y e = absurd (true≢false e)
no_and false y e = refl

-- ---- a token behind another

-- neither ( nor an integer comes next
abbrev pub ends_name : List Token → Bool
ends_name [] = true
ends_name (n ∷ rest) = not (opens n.kind || is_integer n.kind)

not_true : (x : Bool) → not x ≡ true → x ≡ false
not_true true e = sym e
not_true false e = refl

pub no_call : (a : Token) (rest : List Token) → ends_name rest ≡ true → calls a rest ≡ false
no_call a [] e = refl
no_call a (b ∷ rest) e = and_no (touches a b) (opens b.kind) (both_no (opens b.kind) (is_integer b.kind) (not_true (opens b.kind || is_integer b.kind) e)).0

pub no_sign : (a : Token) (rest : List Token) → ends_name rest ≡ true → negates a rest ≡ false
no_sign a [] e = refl
no_sign a (b ∷ rest) e =
    no_and (touches a b && is_integer b.kind) (is_minus a.kind)
    (and_no (touches a b) (is_integer b.kind) (both_no (opens b.kind) (is_integer b.kind) (not_true (opens b.kind || is_integer b.kind) e)).1)

pub no_minus : (a : Token) (rest : List Token) → is_minus a.kind ≡ false → negates a rest ≡ false
no_minus a [] e = refl
no_minus a (b ∷ rest) e = and_no (touches a b && is_integer b.kind) (is_minus a.kind) e

-- ---- what an operator makes of a term

pub infix_rests : (ops : Table) (f : List ℕ) (i : Infix) → infix_op ops f ≡ Some i → postfix_op ops f ≡ None → (q m : ℕ) → m < i.priority → extension ops (Some f) q m ≡ None
unfolding extension
infix_rests ops f i e n q m low =
    let k : nat_le i.priority m ≡ false = grind (arith, nat_tests) in
    rw (e, n, k) refl

pub postfix_rests : (ops : Table) (f : List ℕ) (p : Postfix) → infix_op ops f ≡ None → postfix_op ops f ≡ Some p → (q m : ℕ) → m < p.priority → extension ops (Some f) q m ≡ None
unfolding extension
postfix_rests ops f p n e q m low =
    let k : nat_le p.priority m ≡ false = grind (arith, nat_tests) in
    rw (n, e, k) refl

pub some_none : {X : Type 0} (x : X) → ◌≡◌ {A = Option X} (Some x) None → ⊥
some_none x e = absurd cc

-- a postfix operator is no infix one
pub no_infix : {ops : Table} → IsLawful ops → (f : List ℕ) (p : Postfix) → postfix_op ops f ≡ Some p → infix_op ops f ≡ None
no_infix {ops} law f p e = by (infix_op ops f) refl
  where
    by : (o : Option Infix) → infix_op ops f ≡ o → o ≡ None
    by None k = refl
    by (Some i) k = absurd (some_none p (sym e ∙ (law.infixes f i k).4))

-- ---- what stands behind a term: nothing that goes on with an operand of a priority below this, and no ( or integer
pub record Follows (ops : Table) (edge : ℕ) (rest : List Token) : Type 0 where
  pub closes : (q m : ℕ) → m < edge → Rests ops q m rest
  pub ends : ends_name rest ≡ true

-- and nothing that begins an operand
pub record Ends (ops : Table) (edge : ℕ) (rest : List Token) : Type 0 where
  pub follows : Follows ops edge rest
  pub stops : takes_operand ops rest ≡ false

pub less : {ops : Table} {edge : ℕ} {rest : List Token} (few : ℕ) → few ≤ edge → Follows ops edge rest → Follows ops few rest
less few h f = record { closes = λ q m low. f.closes q m (omega arith); ends = f.ends }

pub at_end : (ops : Table) (edge : ℕ) → Ends ops edge []
at_end ops edge = record { follows = record { closes = λ q m low. tt; ends = refl }; stops = refl }

-- a bracket that closes, or the bar
pub closing : (ops : Table) (edge : ℕ) (c : Token) (rest : List Token) → operator_name c.kind ≡ None → (opens c.kind || is_integer c.kind) ≡ false → begins c.kind ≡ false → Ends ops edge (c ∷ rest)
unfolding extension
closing ops edge c rest n e b = record { follows = record { closes = λ q m low. rw n refl; ends = ap not e }; stops = rw b refl }

-- a comma between arguments or elements
pub comma : {ops : Table} → IsLawful ops → (c : Token) (rest : List Token) → c.kind ≡ Punct 44 → Ends ops 1000 (c ∷ rest)
comma {ops} law c rest e = record { follows = record { closes = rests; ends = rw e refl }; stops = rw e refl }
  where
    rests : (q m : ℕ) → m < 1000 → extension ops (operator_name c.kind) q m ≡ None
    rests q m low =
        rw e (infix_rests ops (codes ",") (record { left = 999; priority = 1000; right = 1000 }) (ap (λ d. d.as_infix) law.comma) (ap (λ d. d.as_postfix) law.comma) q m low)

-- an infix and a postfix operator
pub infix_follows : {ops : Table} → IsLawful ops → (f : List ℕ) (i : Infix) → infix_op ops f ≡ Some i → (c : Token) (rest : List Token) → operator_name c.kind ≡ Some f
    → (opens c.kind || is_integer c.kind) ≡ false → Follows ops i.priority (c ∷ rest)
infix_follows {ops} law f i e c rest n k =
    record { closes = λ q m low. rw n (infix_rests ops f i e (law.infixes f i e).4 q m low); ends = ap not k }

pub postfix_follows : {ops : Table} → IsLawful ops → (f : List ℕ) (p : Postfix) → postfix_op ops f ≡ Some p → (c : Token) (rest : List Token) → operator_name c.kind ≡ Some f
    → (opens c.kind || is_integer c.kind) ≡ false → Follows ops p.priority (c ∷ rest)
postfix_follows {ops} law f p e c rest n k =
    record { closes = λ q m low. rw n (postfix_rests ops f p (no_infix law f p e) e q m low); ends = ap not k }
