-- Tokens read as a term at their front, or they stop being read.
use Rattle.std.proofs.Common.{◌≡◌, ℕ, zero, suc, ◌+◌, ◌<◌, ◌≤◌, ◌⊎◌, inl, inr, pos, ◌-ℤ◌, List, [], ◌∷◌, length, refl, sym, ap, subst, ◌∙◌, arith, true, false, Bool, Option, Some, None, Result, Ok, Err, nat_le, nat_lt}
use Rattle.std.specs.Prelude.{codes, ◌||◌}
use Rattle.std.proofs.lemmas.Bool.Decides.{nat_tests}
use Rattle.std.proofs.lemmas.Bool.{eqb-true, leb-true, ltb-true, true≢false}
use Rattle.std.proofs.Math.Dec.{eqb}
use Rattle.prolog_terms.specs.Tree.{Tree, Trees, variable, integer, atom, compound, none, more, count}
use Rattle.prolog_lexer.specs.declared.token.Token.{Token}
use Rattle.prolog_lexer.specs.declared.token.TokenKind.{TokenKind}
use Rattle.prolog_lexer.specs.declared.token.TokenKind.TheVariants.{Name, Quoted, Variable, Integer, Codes, Punct, Stop}
use Rattle.prolog_terms.specs.declared.ops.Prefix.{Prefix}
use Rattle.prolog_terms.specs.Operators.{Table, prefix_op}
use Rattle.prolog_reader.specs.Numberings.{Numbering, no_variables, numbered, met}
use Rattle.prolog_reader.specs.declared.rule.Extension.{Extension}
use Rattle.prolog_reader.specs.declared.rule.Extension.TheVariants.{OverTwo, OverOne}
use Rattle.prolog_reader.specs.declared.rule.Fault.{Fault}
use Rattle.prolog_reader.specs.declared.rule.Fault.TheVariants.{TooLarge, Unexpected, Priority, Arity}
use Rattle.prolog_reader.specs.Grammar as g
use Rattle.prolog_reader.specs.Grammar.{Found, extension, operator_name, is_punct, next_is, calls, negates, value_of, takes_operand}
use Rattle.prolog_reader.specs.Reads as r
use Rattle.prolog_reader.specs.Reads.{Reads, Primary, Sequence, Chain, Rests, name_of, list_of, code_list}
use Rattle.prolog_reader.specs.Stops as s
use Rattle.prolog_reader.specs.Stops.{Stops, PrimaryStops, Unclosed, SequenceStops, StopsAt, Between, begins_term, fault_behind, next_ends, is_full}
use Rattle.prolog_reader.proofs.Sound.{read_gives}
use Rattle.prolog_reader.proofs.Stopping.{stops_read}

record GotTerm (ops : Table) (m : ℕ) (ts : List Token) (vs : Numbering) : Type 0 where
  priority : ℕ
  tree : Tree
  left : List Token
  variables : Numbering
  reads : Reads ops m ts vs priority tree left variables
  shorter : length left < length ts

record Stopped (ops : Table) (m : ℕ) (ts : List Token) (vs : Numbering) : Type 0 where
  fault : Fault
  left : List Token
  stops : Stops ops m ts vs fault left

record GotPrimary (ops : Table) (m : ℕ) (ts : List Token) (vs : Numbering) : Type 0 where
  priority : ℕ
  tree : Tree
  left : List Token
  variables : Numbering
  primary : Primary ops m ts vs priority tree left variables
  shorter : length left < length ts

record PrimaryStopped (ops : Table) (m : ℕ) (ts : List Token) (vs : Numbering) : Type 0 where
  fault : Fault
  left : List Token
  stops : PrimaryStops ops m ts vs fault left

record GotChain (ops : Table) (m q : ℕ) (t : Tree) (ts : List Token) (vs : Numbering) : Type 0 where
  priority : ℕ
  tree : Tree
  left : List Token
  variables : Numbering
  chain : Chain ops m ts vs q t priority tree left variables
  rests : Rests ops priority m left
  shorter : length left ≤ length ts

-- an operator behind a chain whose right operand stops
record ChainStopped (ops : Table) (m q : ℕ) (t : Tree) (ts : List Token) (vs : Numbering) : Type 0 where
  before : ℕ
  tree : Tree
  operator : Token
  behind : List Token
  variables : Numbering
  name : List ℕ
  priority : ℕ
  right : ℕ
  fault : Fault
  left : List Token
  chain : Chain ops m ts vs q t before tree (operator ∷ behind) variables
  extends : extension ops (operator_name operator.kind) before m ≡ Some (OverTwo name priority right)
  stops : Stops ops right behind variables fault left

abbrev TermFrom : Table → ℕ → Type 0
TermFrom ops n = (m : ℕ) (vs : Numbering) (ts : List Token) → length ts ≤ n → GotTerm ops m ts vs ⊎ Stopped ops m ts vs

abbrev ChainFrom : Table → ℕ → Type 0
ChainFrom ops n = (m q : ℕ) (t : Tree) (vs : Numbering) (ts : List Token) → length ts ≤ n → GotChain ops m q t ts vs ⊎ ChainStopped ops m q t ts vs

-- ---- operators after a term

chain_step : (ops : Table) (n : ℕ) → TermFrom ops n → ChainFrom ops n → ChainFrom ops (suc n)
chain_step ops n terms chains m q t vs [] h = inl (record { priority = q; tree = t; left = []; variables = vs; chain = r.stays; rests = tt; shorter = omega arith })
chain_step ops n terms chains m q t vs (a ∷ ts) h = by (extension ops (operator_name a.kind) q m) refl
  where
    low : length ts ≤ n
    low = omega arith

    one : (f : List ℕ) (p : ℕ) → extension ops (operator_name a.kind) q m ≡ Some (OverOne f p) → GotChain ops m p (compound f (more t none)) ts vs ⊎ ChainStopped ops m p (compound f (more t none)) ts vs
        → GotChain ops m q t (a ∷ ts) vs ⊎ ChainStopped ops m q t (a ∷ ts) vs
    one f p k (inl c) =
        inl (record {
          priority = c.priority;
          tree = c.tree;
          left = c.left;
          variables = c.variables;
          chain = r.over_one a f p k c.chain;
          rests = c.rests;
          shorter = omega (arith, c.shorter);
        })
    one f p k (inr c) =
        inr (record {
          before = c.before;
          tree = c.tree;
          operator = c.operator;
          behind = c.behind;
          variables = c.variables;
          name = c.name;
          priority = c.priority;
          right = c.right;
          fault = c.fault;
          left = c.left;
          chain = r.over_one a f p k c.chain;
          extends = c.extends;
          stops = c.stops;
        })

    two : (f : List ℕ) (p right : ℕ) → extension ops (operator_name a.kind) q m ≡ Some (OverTwo f p right) → (d : GotTerm ops right ts vs)
        → GotChain ops m p (compound f (more t (more d.tree none))) d.left d.variables ⊎ ChainStopped ops m p (compound f (more t (more d.tree none))) d.left d.variables
        → GotChain ops m q t (a ∷ ts) vs ⊎ ChainStopped ops m q t (a ∷ ts) vs
    two f p right k d (inl c) =
        inl (record {
          priority = c.priority;
          tree = c.tree;
          left = c.left;
          variables = c.variables;
          chain = r.over_two a f p right k d.reads c.chain;
          rests = c.rests;
          shorter = omega (arith, d.shorter, c.shorter);
        })
    two f p right k d (inr c) =
        inr (record {
          before = c.before;
          tree = c.tree;
          operator = c.operator;
          behind = c.behind;
          variables = c.variables;
          name = c.name;
          priority = c.priority;
          right = c.right;
          fault = c.fault;
          left = c.left;
          chain = r.over_two a f p right k d.reads c.chain;
          extends = c.extends;
          stops = c.stops;
        })

    right_of : (f : List ℕ) (p right : ℕ) → extension ops (operator_name a.kind) q m ≡ Some (OverTwo f p right) → GotTerm ops right ts vs ⊎ Stopped ops right ts vs
        → GotChain ops m q t (a ∷ ts) vs ⊎ ChainStopped ops m q t (a ∷ ts) vs
    right_of f p right k (inl d) = two f p right k d (chains m p (compound f (more t (more d.tree none))) d.variables d.left (omega (arith, d.shorter)))
    right_of f p right k (inr d) =
        inr (record {
          before = q;
          tree = t;
          operator = a;
          behind = ts;
          variables = vs;
          name = f;
          priority = p;
          right = right;
          fault = d.fault;
          left = d.left;
          chain = r.stays;
          extends = k;
          stops = d.stops;
        })

    by : (y : Option Extension) → extension ops (operator_name a.kind) q m ≡ y → GotChain ops m q t (a ∷ ts) vs ⊎ ChainStopped ops m q t (a ∷ ts) vs
    by None k = inl (record { priority = q; tree = t; left = a ∷ ts; variables = vs; chain = r.stays; rests = k; shorter = omega arith })
    by (Some (OverTwo f p right)) k = right_of f p right k (terms right vs ts low)
    by (Some (OverOne f p)) k = one f p k (chains m p (compound f (more t none)) vs ts low)

-- ---- a term that a bracket closes

record Closed (ops : Table) (close m : ℕ) (ts : List Token) (vs : Numbering) : Type 0 where
  priority : ℕ
  tree : Tree
  bracket : Token
  left : List Token
  variables : Numbering
  reads : Reads ops m ts vs priority tree (bracket ∷ left) variables
  fits : is_punct close bracket.kind ≡ true
  shorter : length left < length ts

record NotClosed (ops : Table) (close m : ℕ) (ts : List Token) (vs : Numbering) : Type 0 where
  fault : Fault
  left : List Token
  stops : Unclosed ops close m ts vs fault left

closed : (ops : Table) (close m : ℕ) (ts : List Token) (vs : Numbering) → GotTerm ops m ts vs ⊎ Stopped ops m ts vs → Closed ops close m ts vs ⊎ NotClosed ops close m ts vs
closed ops close m ts vs (inr d) = inr (record { fault = d.fault; left = d.left; stops = s.in_term d.stops })
closed ops close m ts vs (inl d) = by d.left d.reads d.shorter
  where
    by : (us : List Token) → Reads ops m ts vs d.priority d.tree us d.variables → length us < length ts → Closed ops close m ts vs ⊎ NotClosed ops close m ts vs
    by [] e h = inr (record { fault = Unexpected; left = []; stops = s.behind_term e refl })
    by (c ∷ us) e h = with_test (is_punct close c.kind) refl
      where
        with_test : (b : Bool) → is_punct close c.kind ≡ b → Closed ops close m ts vs ⊎ NotClosed ops close m ts vs
        with_test true k = inl (record { priority = d.priority; tree = d.tree; bracket = c; left = us; variables = d.variables; reads = e; fits = k; shorter = omega arith })
        with_test false k = inr (record { fault = fault_behind ops (c ∷ us); left = c ∷ us; stops = s.behind_term e k })

-- ---- terms between commas

record GotSequence (ops : Table) (b : Between) (k : ℕ) (ts : List Token) (vs : Numbering) : Type 0 where
  list : Trees
  close : Token
  left : List Token
  variables : Numbering
  before : ℕ
  sequence : Sequence ops ts vs list (close ∷ left) variables
  closes : s.ends b close.kind ≡ true
  counts : before + 1 ≡ k + count list
  room : (before ≡ k) ⊎ ((j : ℕ) × (before ≡ j + 1) × (is_full b j ≡ false))
  shorter : length left < length ts

record SequenceStopped (ops : Table) (b : Between) (k : ℕ) (ts : List Token) (vs : Numbering) : Type 0 where
  fault : Fault
  left : List Token
  stops : SequenceStops ops b k ts vs fault left

module _ (ops : Table) (b : Between) where
  further : (k q : ℕ) (t : Tree) (c : Token) (ts us : List Token) (vs ws : Numbering) → Reads ops 999 ts vs q t (c ∷ us) ws → length (c ∷ us) < length ts → is_punct 44 c.kind ≡ true → is_full b k ≡ false
      → GotSequence ops b (k + 1) us ws ⊎ SequenceStopped ops b (k + 1) us ws → GotSequence ops b k ts vs ⊎ SequenceStopped ops b k ts vs
  further k q t c ts us vs ws d h comma full (inr e) = inr (record { fault = e.fault; left = e.left; stops = s.in_further c d comma full e.stops })
  further k q t c ts us vs ws d h comma full (inl e) =
      inl (record {
        list = more t e.list;
        close = e.close;
        left = e.left;
        variables = e.variables;
        before = e.before;
        sequence = r.further c d comma e.sequence;
        closes = e.closes;
        counts = omega (arith, e.counts);
        room = later e.room;
        shorter = omega (arith, e.shorter);
      })
    where
      later : (e.before ≡ k + 1) ⊎ ((j : ℕ) × (e.before ≡ j + 1) × (is_full b j ≡ false)) → (e.before ≡ k) ⊎ ((j : ℕ) × (e.before ≡ j + 1) × (is_full b j ≡ false))
      later (inl x) = inr (k, x, full)
      later (inr x) = inr x

  abbrev AtSequence : ℕ → List Token → Numbering → Type 0
  AtSequence k ts vs = GotSequence ops b k ts vs ⊎ SequenceStopped ops b k ts vs

  behind : (j k : ℕ) (vs : Numbering) (ts : List Token) (d : GotTerm ops 999 ts vs) → length ts ≤ suc j → (us : List Token) → Reads ops 999 ts vs d.priority d.tree us d.variables → length us < length ts
      → ((rest : List Token) (ws : Numbering) → length rest ≤ j → AtSequence (k + 1) rest ws) → AtSequence k ts vs
  behind j k vs ts d h [] e short more_of = inr (record { fault = Unexpected; left = []; stops = s.behind_one e refl refl })
  behind j k vs ts d h (c ∷ us) e short more_of = by (is_punct 44 c.kind) (is_full b k) (s.ends b c.kind) refl refl refl
    where
      by : (x y z : Bool) → is_punct 44 c.kind ≡ x → is_full b k ≡ y → s.ends b c.kind ≡ z → AtSequence k ts vs
      by true true z x1 y1 z1 = inr (record { fault = Arity; left = c ∷ us; stops = s.one_too_many c e x1 y1 })
      by true false z x1 y1 z1 = further k d.priority d.tree c ts us vs d.variables e short x1 y1 (more_of us d.variables (omega arith))
      by false y true x1 y1 z1 =
          inl (record {
            list = more d.tree none;
            close = c;
            left = us;
            variables = d.variables;
            before = k;
            sequence = r.last e;
            closes = z1;
            counts = omega arith;
            room = inl refl;
            shorter = omega arith;
          })
      by false y false x1 y1 z1 = inr (record { fault = fault_behind ops (c ∷ us); left = c ∷ us; stops = s.behind_one e x1 z1 })

  first_item : (j k : ℕ) (vs : Numbering) (ts : List Token) → length ts ≤ suc j → GotTerm ops 999 ts vs ⊎ Stopped ops 999 ts vs
      → ((rest : List Token) (ws : Numbering) → length rest ≤ j → AtSequence (k + 1) rest ws) → AtSequence k ts vs
  first_item j k vs ts h (inr d) more_of = inr (record { fault = d.fault; left = d.left; stops = s.in_one d.stops })
  first_item j k vs ts h (inl d) more_of = behind j k vs ts d h d.left d.reads d.shorter more_of

  no_item : (k : ℕ) (vs : Numbering) (ts : List Token) → length ts ≤ 0 → GotTerm ops 999 ts vs ⊎ Stopped ops 999 ts vs → AtSequence k ts vs
  no_item k vs ts h (inr d) = inr (record { fault = d.fault; left = d.left; stops = s.in_one d.stops })
  no_item k vs ts h (inl d) = absurd (omega (arith, d.shorter))

  sequence_from : (n : ℕ) → TermFrom ops n → (j k : ℕ) (vs : Numbering) (ts : List Token) → length ts ≤ j → j ≤ n → AtSequence k ts vs
  sequence_from n terms zero k vs ts h low = no_item k vs ts h (terms 999 vs ts (omega arith))
  sequence_from n terms (suc j) k vs ts h low = first_item j k vs ts h (terms 999 vs ts (omega arith)) (λ rest ws few. sequence_from n terms j (k + 1) ws rest few (omega arith))

-- ---- primaries

abbrev AtPrimary : Table → ℕ → List Token → Numbering → Type 0
AtPrimary ops m ts vs = GotPrimary ops m ts vs ⊎ PrimaryStopped ops m ts vs

fits : (before k : ℕ) (ts : Trees) → before + 1 ≡ 0 + count ts → (before ≡ 0) ⊎ ((j : ℕ) × (before ≡ j + 1) × (is_full s.arguments j ≡ false)) → count ts ≤ 255
fits before k ts e (inl z) = omega (arith, e, z)
fits before k ts e (inr z) = let l : z.0 < 254 = under z.0 z.2 in omega (arith, e, z.1, l)
  where
    under : (j : ℕ) → nat_le 254 j ≡ false → j < 254
    under j h = grind (arith, nat_tests)

module _ (ops : Table) (n : ℕ) (terms : TermFrom ops n) (m : ℕ) (vs : Numbering) (a : Token) where
  stop : (ts : List Token) (fault : Fault) (xs : List Token) → PrimaryStops ops m (a ∷ ts) vs fault xs → AtPrimary ops m (a ∷ ts) vs
  stop ts fault xs p = inr (record { fault = fault; left = xs; stops = p })

  call_case : (f : List ℕ) (ts : List Token) → length ts ≤ n → name_of a.kind ≡ Some f → calls a ts ≡ true → AtPrimary ops m (a ∷ ts) vs
  call_case f [] h p c = absurd (true≢false (sym c))
  call_case f (b ∷ ts) h p c = by (sequence_from ops s.arguments n terms n 0 vs ts (omega arith) (omega arith))
    where
      by : GotSequence ops s.arguments 0 ts vs ⊎ SequenceStopped ops s.arguments 0 ts vs → AtPrimary ops m (a ∷ b ∷ ts) vs
      by (inr d) = stop (b ∷ ts) d.fault d.left (s.in_arguments a b f p c d.stops)
      by (inl q) =
          inl (record {
            priority = 0;
            tree = compound f q.list;
            left = q.left;
            variables = q.variables;
            primary = r.call a b q.close f p c q.sequence q.closes (fits q.before 0 q.list q.counts q.room);
            shorter = omega (arith, q.shorter);
          })

  negative_case : (f : List ℕ) (ts : List Token) → name_of a.kind ≡ Some f → calls a ts ≡ false → negates a ts ≡ true → AtPrimary ops m (a ∷ ts) vs
  negative_case f [] p c k = absurd (true≢false (sym k))
  negative_case f (b ∷ ts) p c k = by (nat_le (value_of b.kind) 0x8000_0000_0000_0000) refl
    where
      above : nat_le (value_of b.kind) 0x8000_0000_0000_0000 ≡ false → 0x8000_0000_0000_0000 < value_of b.kind
      above l = grind (arith, nat_tests)

      by : (l : Bool) → nat_le (value_of b.kind) 0x8000_0000_0000_0000 ≡ l → AtPrimary ops m (a ∷ b ∷ ts) vs
      by true l =
          let few : value_of b.kind ≤ 0x8000_0000_0000_0000 = leb-true _ _ l in
          inl (record { priority = 0; tree = integer (pos 0 -ℤ pos (value_of b.kind)); left = ts; variables = vs; primary = r.negative a b f p c k few; shorter = omega arith })
      by false l = stop (b ∷ ts) TooLarge (a ∷ b ∷ ts) (s.negative_too_large a b f p c k (above l))

  plain_case : (f : List ℕ) (ts : List Token) → name_of a.kind ≡ Some f → calls a ts ≡ false → negates a ts ≡ false → (prefix_op ops f ≡ None) ⊎ (takes_operand ops ts ≡ false) → AtPrimary ops m (a ∷ ts) vs
  plain_case f ts p c k o = inl (record { priority = 0; tree = atom f; left = ts; variables = vs; primary = r.plain a f p c k o; shorter = omega arith })

  applied_case : (f : List ℕ) (ts : List Token) (b : Prefix) → length ts ≤ n → name_of a.kind ≡ Some f → calls a ts ≡ false → negates a ts ≡ false → prefix_op ops f ≡ Some b → takes_operand ops ts ≡ true
      → AtPrimary ops m (a ∷ ts) vs
  applied_case f ts b h p c k o w = by (nat_le b.priority m) refl
    where
      above : nat_le b.priority m ≡ false → m < b.priority
      above l = grind (arith, nat_tests)

      operand : b.priority ≤ m → GotTerm ops b.operand ts vs ⊎ Stopped ops b.operand ts vs → AtPrimary ops m (a ∷ ts) vs
      operand low (inl d) =
          inl (record {
            priority = b.priority;
            tree = compound f (more d.tree none);
            left = d.left;
            variables = d.variables;
            primary = r.applied a f b p c k o w low d.reads;
            shorter = omega (arith, d.shorter);
          })
      operand low (inr d) = stop ts d.fault d.left (s.in_operand a f b p c k o w low d.stops)

      by : (l : Bool) → nat_le b.priority m ≡ l → AtPrimary ops m (a ∷ ts) vs
      by true l = operand (leb-true _ _ l) (terms b.operand vs ts h)
      by false l = stop ts Priority (a ∷ ts) (s.too_high a f b p c k o w (above l))

  named_case : (f : List ℕ) (ts : List Token) → length ts ≤ n → name_of a.kind ≡ Some f → AtPrimary ops m (a ∷ ts) vs
  named_case f ts h p = by (calls a ts) (negates a ts) (prefix_op ops f) (takes_operand ops ts) refl refl refl refl
    where
      by : (c k : Bool) (o : Option Prefix) (w : Bool) → calls a ts ≡ c → negates a ts ≡ k → prefix_op ops f ≡ o → takes_operand ops ts ≡ w → AtPrimary ops m (a ∷ ts) vs
      by true k o w c1 k1 o1 w1 = call_case f ts h p c1
      by false true o w c1 k1 o1 w1 = negative_case f ts p c1 k1
      by false false None w c1 k1 o1 w1 = plain_case f ts p c1 k1 (inl o1)
      by false false (Some b) false c1 k1 o1 w1 = plain_case f ts p c1 k1 (inr w1)
      by false false (Some b) true c1 k1 o1 w1 = applied_case f ts b h p c1 k1 o1 w1

  number_case : (i : ℕ) (ts : List Token) → a.kind ≡ Integer i → AtPrimary ops m (a ∷ ts) vs
  number_case i ts p = by (nat_lt i 0x8000_0000_0000_0000) refl
    where
      from : nat_lt i 0x8000_0000_0000_0000 ≡ false → 0x8000_0000_0000_0000 ≤ i
      from l = grind (arith, nat_tests)

      by : (l : Bool) → nat_lt i 0x8000_0000_0000_0000 ≡ l → AtPrimary ops m (a ∷ ts) vs
      by true l =
          let few : i < 0x8000_0000_0000_0000 = ltb-true _ _ l in
          inl (record { priority = 0; tree = integer (pos i); left = ts; variables = vs; primary = r.number a i p few; shorter = omega arith })
      by false l = stop ts TooLarge (a ∷ ts) (s.too_large a i p (from l))

  paren_case : (ts : List Token) → length ts ≤ n → a.kind ≡ Punct 40 → AtPrimary ops m (a ∷ ts) vs
  paren_case ts h p = by (closed ops 41 1200 ts vs (terms 1200 vs ts h))
    where
      by : Closed ops 41 1200 ts vs ⊎ NotClosed ops 41 1200 ts vs → AtPrimary ops m (a ∷ ts) vs
      by (inl d) = inl (record { priority = 0; tree = d.tree; left = d.left; variables = d.variables; primary = r.paren a d.bracket p d.reads d.fits; shorter = omega (arith, d.shorter) })
      by (inr d) = stop ts d.fault d.left (s.in_paren a p d.stops)

  braces_case : (ts : List Token) → length ts ≤ n → a.kind ≡ Punct 123 → next_is 125 ts ≡ false → AtPrimary ops m (a ∷ ts) vs
  braces_case ts h p k = by (closed ops 125 1200 ts vs (terms 1200 vs ts h))
    where
      by : Closed ops 125 1200 ts vs ⊎ NotClosed ops 125 1200 ts vs → AtPrimary ops m (a ∷ ts) vs
      by (inl d) =
          inl (record { priority = 0; tree = compound (codes "{}") (more d.tree none); left = d.left; variables = d.variables; primary = r.braces a d.bracket p k d.reads d.fits; shorter = omega (arith, d.shorter) })
      by (inr d) = stop ts d.fault d.left (s.in_braces a p k d.stops)

  empty_list_case : (ts : List Token) → a.kind ≡ Punct 91 → next_is 93 ts ≡ true → AtPrimary ops m (a ∷ ts) vs
  empty_list_case [] p k = absurd (true≢false (sym k))
  empty_list_case (b ∷ ts) p k = inl (record { priority = 0; tree = atom (codes "[]"); left = ts; variables = vs; primary = r.empty_list a b p k; shorter = omega arith })

  empty_braces_case : (ts : List Token) → a.kind ≡ Punct 123 → next_is 125 ts ≡ true → AtPrimary ops m (a ∷ ts) vs
  empty_braces_case [] p k = absurd (true≢false (sym k))
  empty_braces_case (b ∷ ts) p k = inl (record { priority = 0; tree = atom (codes "{}"); left = ts; variables = vs; primary = r.empty_braces a b p k; shorter = omega arith })

  tail_case : (ts us : List Token) (ws : Numbering) (items : Trees) (b : Token) → length ts ≤ n → length us < length ts
      → a.kind ≡ Punct 91 → next_is 93 ts ≡ false → Sequence ops ts vs items (b ∷ us) ws → is_punct 124 b.kind ≡ true → AtPrimary ops m (a ∷ ts) vs
  tail_case ts us ws items b h short p k q bar = by (closed ops 93 999 us ws (terms 999 ws us (omega arith)))
    where
      by : Closed ops 93 999 us ws ⊎ NotClosed ops 93 999 us ws → AtPrimary ops m (a ∷ ts) vs
      by (inl d) =
          inl (record {
            priority = 0;
            tree = list_of items d.tree;
            left = d.left;
            variables = d.variables;
            primary = r.list_with_tail a b d.bracket p k q bar d.reads d.fits;
            shorter = omega (arith, d.shorter);
          })
      by (inr d) = stop ts d.fault d.left (s.in_tail a b p k q bar d.stops)

  list_case : (ts : List Token) → length ts ≤ n → a.kind ≡ Punct 91 → next_is 93 ts ≡ false → AtPrimary ops m (a ∷ ts) vs
  list_case ts h p k = by (sequence_from ops s.items n terms n 0 vs ts h (omega arith))
    where
      ended : (q : GotSequence ops s.items 0 ts vs) (x y : Bool) → is_punct 93 q.close.kind ≡ x → is_punct 124 q.close.kind ≡ y → (x || y) ≡ true → AtPrimary ops m (a ∷ ts) vs
      ended q true y x1 y1 e =
          inl (record {
            priority = 0;
            tree = list_of q.list (atom (codes "[]"));
            left = q.left;
            variables = q.variables;
            primary = r.list a q.close p k q.sequence x1;
            shorter = omega (arith, q.shorter);
          })
      ended q false true x1 y1 e = tail_case ts q.left q.variables q.list q.close h q.shorter p k q.sequence y1
      ended q false false x1 y1 e = absurd cc

      by : GotSequence ops s.items 0 ts vs ⊎ SequenceStopped ops s.items 0 ts vs → AtPrimary ops m (a ∷ ts) vs
      by (inl q) = ended q (is_punct 93 q.close.kind) (is_punct 124 q.close.kind) refl refl q.closes
      by (inr d) = stop ts d.fault d.left (s.in_items a p k d.stops)

  no_term : (ts : List Token) → begins_term a.kind ≡ false → AtPrimary ops m (a ∷ ts) vs
  no_term ts e = stop ts Unexpected (a ∷ ts) (s.no_term a e)

  bracket_case : (b : ℕ) (ts : List Token) → length ts ≤ n → a.kind ≡ Punct b → AtPrimary ops m (a ∷ ts) vs
  bracket_case b ts h p = by (eqb b 40) (eqb b 91) (eqb b 123) (next_is 93 ts) (next_is 125 ts) refl refl refl refl refl
    where
      by : (i j k l o : Bool) → eqb b 40 ≡ i → eqb b 91 ≡ j → eqb b 123 ≡ k → next_is 93 ts ≡ l → next_is 125 ts ≡ o → AtPrimary ops m (a ∷ ts) vs
      by true j k l o i1 j1 k1 l1 o1 = paren_case ts h (p ∙ ap Punct (eqb-true b 40 i1))
      by false true k true o i1 j1 k1 l1 o1 = empty_list_case ts (p ∙ ap Punct (eqb-true b 91 j1)) l1
      by false true k false o i1 j1 k1 l1 o1 = list_case ts h (p ∙ ap Punct (eqb-true b 91 j1)) l1
      by false false true l true i1 j1 k1 l1 o1 = empty_braces_case ts (p ∙ ap Punct (eqb-true b 123 k1)) o1
      by false false true l false i1 j1 k1 l1 o1 = braces_case ts h (p ∙ ap Punct (eqb-true b 123 k1)) o1
      by false false false l o i1 j1 k1 l1 o1 = no_term ts (ap begins_term p ∙ rw (i1, j1, k1) refl)

  primary_case : (ts : List Token) → length ts ≤ n → (k : TokenKind) → a.kind ≡ k → AtPrimary ops m (a ∷ ts) vs
  primary_case ts h (Name f) p = named_case f ts h (ap name_of p)
  primary_case ts h (Quoted f) p = named_case f ts h (ap name_of p)
  primary_case ts h (Variable v) p = inl (record { priority = 0; tree = variable (numbered v vs); left = ts; variables = met v vs; primary = r.named a v p; shorter = omega arith })
  primary_case ts h (Integer i) p = number_case i ts p
  primary_case ts h (Codes bs) p = inl (record { priority = 0; tree = code_list bs; left = ts; variables = vs; primary = r.text a bs p; shorter = omega arith })
  primary_case ts h (Punct b) p = bracket_case b ts h p
  primary_case ts h Stop p = no_term ts (ap begins_term p)

-- ---- whole terms

at_none : (ops : Table) (m : ℕ) (vs : Numbering) → GotTerm ops m [] vs ⊎ Stopped ops m [] vs
at_none ops m vs = inr (record { fault = Unexpected; left = []; stops = s.in_primary s.at_end })

term_step : (ops : Table) (n : ℕ) → TermFrom ops n → ChainFrom ops n → TermFrom ops (suc n)
term_step ops n terms chains m vs [] h = at_none ops m vs
term_step ops n terms chains m vs (a ∷ ts) h = by (primary_case ops n terms m vs a ts (omega arith) a.kind refl)
  where
    behind : (d : GotPrimary ops m (a ∷ ts) vs) → GotChain ops m d.priority d.tree d.left d.variables ⊎ ChainStopped ops m d.priority d.tree d.left d.variables
        → GotTerm ops m (a ∷ ts) vs ⊎ Stopped ops m (a ∷ ts) vs
    behind d (inl c) =
        inl (record {
          priority = c.priority;
          tree = c.tree;
          left = c.left;
          variables = c.variables;
          reads = r.term d.primary c.chain c.rests;
          shorter = omega (arith, d.shorter, c.shorter);
        })
    behind d (inr c) = inr (record { fault = c.fault; left = c.left; stops = s.in_right c.operator c.name c.priority c.right d.primary c.chain c.extends c.stops })

    by : AtPrimary ops m (a ∷ ts) vs → GotTerm ops m (a ∷ ts) vs ⊎ Stopped ops m (a ∷ ts) vs
    by (inr d) = inr (record { fault = d.fault; left = d.left; stops = s.in_primary d.stops })
    by (inl d) = behind d (chains m d.priority d.tree d.variables d.left (omega (arith, d.shorter)))

record Both (ops : Table) (n : ℕ) : Type 0 where
  terms : TermFrom ops n
  chains : ChainFrom ops n

no_terms : (ops : Table) → TermFrom ops 0
no_terms ops m vs [] h = at_none ops m vs
no_terms ops m vs (a ∷ ts) h = absurd (omega arith)

no_chains : (ops : Table) → ChainFrom ops 0
no_chains ops m q t vs [] h = inl (record { priority = q; tree = t; left = []; variables = vs; chain = r.stays; rests = tt; shorter = omega arith })
no_chains ops m q t vs (a ∷ ts) h = absurd (omega arith)

both : (ops : Table) (n : ℕ) → Both ops n
both ops zero = record { terms = no_terms ops; chains = no_chains ops }
both ops (suc n) =
    let b = both ops n in
    record { terms = term_step ops n b.terms b.chains; chains = chain_step ops n b.terms b.chains }

ok_err : (x : Found) (f : Fault) → ◌≡◌ {A = Result Found Fault} (Ok x) (Err f) → ⊥
ok_err x f e = cc

err_same : (f h : Fault) → ◌≡◌ {A = Result Found Fault} (Err f) (Err h) → f ≡ h
err_same f h e = cc

-- what is not read stops being read, with that fault
pub read_stops : (ops : Table) (ts : List Token) (f : Fault) → g.read ops ts ≡ Err f → (xs : List Token) × StopsAt ops ts f xs
read_stops ops ts f e = by ((both ops (length ts)).terms 1200 no_variables ts (omega arith))
  where
    at : (h : Fault) (xs : List Token) → StopsAt ops ts h xs → (xs : List Token) × StopsAt ops ts f xs
    at h xs d = (xs, subst (λ x. StopsAt ops ts x xs) (err_same h f (sym (stops_read ops ts h xs d) ∙ e)) d)

    left : (d : GotTerm ops 1200 ts no_variables) (us : List Token) → Reads ops 1200 ts no_variables d.priority d.tree us d.variables → (xs : List Token) × StopsAt ops ts f xs
    left d [] k = absurd (ok_err (record { terms = more d.tree none; variables = d.variables }) f (sym (read_gives ops ts d.priority d.tree d.variables k) ∙ e))
    left d (c ∷ us) k = at (fault_behind ops (c ∷ us)) (c ∷ us) (s.behind_it c k)

    by : GotTerm ops 1200 ts no_variables ⊎ Stopped ops 1200 ts no_variables → (xs : List Token) × StopsAt ops ts f xs
    by (inl d) = left d d.left d.reads
    by (inr d) = at d.fault d.left (s.in_it d.stops)
