-- A term that grows from a primary by the operators behind it.
use Rattle.std.proofs.Common.{◌≡◌, ℕ, ◌≤◌, List, ◌∷◌, Some, None, true, refl, arith}
use Rattle.std.specs.Prelude.{nat_le}
use Rattle.std.proofs.lemmas.Bool.Decides.{nat_tests}
use Rattle.prolog_terms.specs.Tree.{Tree, compound, none, more}
use Rattle.prolog_terms.specs.Operators.{Table, infix_op, postfix_op}
use Rattle.prolog_terms.specs.declared.ops.Infix.{Infix}
use Rattle.prolog_terms.specs.declared.ops.Postfix.{Postfix}
use Rattle.prolog_lexer.specs.declared.token.Token.{Token}
use Rattle.prolog_reader.specs.Numberings.{Numbering}
use Rattle.prolog_reader.specs.Grammar.{operator_name, extension}
use Rattle.prolog_reader.specs.Reads.{Reads, Primary, Chain, Rests, term, stays, over_two, over_one}

-- one chain behind the other
chain_on : {ops : Table} {m q r s : ℕ} {t u w : Tree} {ts xs ys : List Token} {vs ws zs : Numbering}
    → Chain ops m ts vs q t r u xs ws → Chain ops m xs ws r u s w ys zs → Chain ops m ts vs q t s w ys zs
chain_on stays d = d
chain_on (over_two a f p right e h c) d = over_two a f p right e h (chain_on c d)
chain_on (over_one a f p e c) d = over_one a f p e (chain_on c d)

-- the front of the tokens is the term, where no operator that goes on is looked for behind it
pub record Grows (ops : Table) (m : ℕ) (ts : List Token) (vs : Numbering) (q : ℕ) (t : Tree) (rest : List Token) (ws : Numbering) : Type 0 where
  pub priority : ℕ
  pub first : Tree
  pub left : List Token
  pub variables : Numbering
  pub primary : Primary ops m ts vs priority first left variables
  pub chain : Chain ops m left variables priority first q t rest ws

pub whole : {ops : Table} {m q : ℕ} {t : Tree} {ts rest : List Token} {vs ws : Numbering} → Grows ops m ts vs q t rest ws → Rests ops q m rest → Reads ops m ts vs q t rest ws
whole g r = term g.primary g.chain r

pub alone : {ops : Table} {m q : ℕ} {t : Tree} {ts rest : List Token} {vs ws : Numbering} → Primary ops m ts vs q t rest ws → Grows ops m ts vs q t rest ws
alone {q = q} {t = t} {rest = rest} {ws = ws} p = record { priority = q; first = t; left = rest; variables = ws; primary = p; chain = stays }

-- an infix operator and its right operand behind it
pub by_two : {ops : Table} {m q r : ℕ} {t u : Tree} {ts us rest : List Token} {vs ws zs : Numbering} (a : Token) (f : List ℕ) (i : Infix)
    → Grows ops m ts vs q t (a ∷ us) ws → operator_name a.kind ≡ Some f → infix_op ops f ≡ Some i → i.priority ≤ m → q ≤ i.left → Reads ops i.right us ws r u rest zs
    → Grows ops m ts vs i.priority (compound f (more t (more u none))) rest zs
unfolding extension
by_two {m = m} {q = q} a f i g n e high low h =
    let k : nat_le i.priority m ≡ true = grind (arith, nat_tests) in
    let l : nat_le q i.left ≡ true = grind (arith, nat_tests) in
    record {
      priority = g.priority;
      first = g.first;
      left = g.left;
      variables = g.variables;
      primary = g.primary;
      chain = chain_on g.chain (over_two a f i.priority i.right (rw (n, e, k, l) refl) h stays);
    }

-- a postfix operator
pub by_one : {ops : Table} {m q : ℕ} {t : Tree} {ts rest : List Token} {vs ws : Numbering} (a : Token) (f : List ℕ) (p : Postfix)
    → Grows ops m ts vs q t (a ∷ rest) ws → operator_name a.kind ≡ Some f → infix_op ops f ≡ None → postfix_op ops f ≡ Some p → p.priority ≤ m → q ≤ p.operand
    → Grows ops m ts vs p.priority (compound f (more t none)) rest ws
unfolding extension
by_one {m = m} {q = q} a f p g n other e high low =
    let k : nat_le p.priority m ≡ true = grind (arith, nat_tests) in
    let l : nat_le q p.operand ≡ true = grind (arith, nat_tests) in
    record {
      priority = g.priority;
      first = g.first;
      left = g.left;
      variables = g.variables;
      primary = g.primary;
      chain = chain_on g.chain (over_one a f p.priority (rw (n, other, e, k, l) refl) stays);
    }
