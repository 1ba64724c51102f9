-- Where the tokens of a read-term stop being read, by cases: the first token at which no rule applies, and the fault there
-- (docs/LANGUAGE.md, "Terms"). No tokens are the End.
use Rattle.std.specs.Prelude.{◌≡◌, ℕ, ◌+◌, ◌<◌, ◌≤◌, List, [], ◌∷◌, Bool, true, false, ◌||◌, ◌==◌, nat_le, cond, Some}
use Rattle.prolog_terms.specs.Tree.{Tree, Trees}
use Rattle.prolog_lexer.specs.declared.token.Token.{Token}
use Rattle.prolog_lexer.specs.declared.token.TokenKind.{TokenKind}
use Rattle.prolog_lexer.specs.declared.token.TokenKind.TheVariants.{Integer, Punct, Stop}
use Rattle.prolog_terms.specs.declared.ops.Prefix.{Prefix}
use Rattle.prolog_terms.specs.Operators.{Table, prefix_op}
use Rattle.prolog_reader.specs.Numberings.{Numbering, no_variables}
use Rattle.prolog_reader.specs.declared.rule.Extension.TheVariants.{OverTwo}
use Rattle.prolog_reader.specs.declared.rule.Fault.{Fault}
use Rattle.prolog_reader.specs.declared.rule.Fault.TheVariants.{TooLarge, Unexpected, Priority, Arity}
use Rattle.prolog_reader.specs.Grammar.{calls, negates, value_of, next_is, is_punct, takes_operand, follows, found_of, operator_name, extension}
use Rattle.prolog_reader.specs.Reads.{Reads, Primary, Sequence, Chain, name_of}

-- a token with which a term can begin
abbrev pub begins_term : TokenKind → Bool
begins_term (Punct b) = b == 40 || (b == 91 || b == 123)
begins_term Stop = false
begins_term _ = true

-- The fault behind a whole term, where the next token doesn't go on with it and doesn't close what is open: 8 at an infix or
-- postfix operator, and else 7, so at the End.
abbrev pub fault_behind : Table → List Token → Fault
fault_behind ops [] = Unexpected
fault_behind ops (t ∷ ts) = cond (follows (found_of ops (operator_name t.kind))) Priority Unexpected

-- terms between commas: the arguments of a compound, or the items of a list
pub data Between : Type 0 where
  arguments : Between
  items : Between

-- what ends them: ) the arguments, ] and | the items
abbrev pub ends : Between → TokenKind → Bool
ends arguments k = is_punct 41 k
ends items k = is_punct 93 k || is_punct 124 k

-- the next token ends them
abbrev pub next_ends : Between → List Token → Bool
next_ends b [] = false
next_ends b (t ∷ ts) = ends b t.kind

-- behind so many and one more none may follow: there are at most 255 arguments, and any number of items
abbrev pub is_full : Between → ℕ → Bool
is_full arguments k = nat_le 254 k
is_full items k = false

-- Stops and PrimaryStops have, in this order: the greatest priority that is allowed, tokens and the variables met before them,
-- the fault, and the tokens from the one on at which no rule applies.
mutual
  -- in a term: in its primary, or in the right operand of an operator behind it
  pub data Stops (ops : Table) : ℕ → List Token → Numbering → Fault → List Token → Type 0 where
    in_primary : {m : ℕ} {ts xs : List Token} {vs : Numbering} {fault : Fault} → PrimaryStops ops m ts vs fault xs → Stops ops m ts vs fault xs
    in_right : {m p q : ℕ} {ts us ys xs : List Token} {vs ws zs : Numbering} {t u : Tree} {fault : Fault} (a : Token) (f : List ℕ) (priority right : ℕ)
        → Primary ops m ts vs p t us ws → Chain ops m us ws p t q u (a ∷ ys) zs → extension ops (operator_name a.kind) q m ≡ Some (OverTwo f priority right)
        → Stops ops right ys zs fault xs
        → Stops ops m ts vs fault xs

  pub data PrimaryStops (ops : Table) : ℕ → List Token → Numbering → Fault → List Token → Type 0 where
    -- 7: a token with which no term begins, or the End, where a term has to begin
    at_end : {m : ℕ} {vs : Numbering} → PrimaryStops ops m [] vs Unexpected []
    no_term : {m : ℕ} {ts : List Token} {vs : Numbering} (a : Token) → begins_term a.kind ≡ false → PrimaryStops ops m (a ∷ ts) vs Unexpected (a ∷ ts)
    -- 5: an integer from 2^63 on, or negated above 2^63
    too_large : {m : ℕ} {ts : List Token} {vs : Numbering} (a : Token) (n : ℕ) → a.kind ≡ Integer n → 0x8000_0000_0000_0000 ≤ n → PrimaryStops ops m (a ∷ ts) vs TooLarge (a ∷ ts)
    negative_too_large : {m : ℕ} {ts : List Token} {vs : Numbering} (a b : Token) (f : List ℕ)
        → name_of a.kind ≡ Some f → calls a (b ∷ ts) ≡ false → negates a (b ∷ ts) ≡ true → 0x8000_0000_0000_0000 < value_of b.kind
        → PrimaryStops ops m (a ∷ b ∷ ts) vs TooLarge (a ∷ b ∷ ts)
    -- 8: a prefix operator before an operand, with a priority above the one that is allowed
    too_high : {m : ℕ} {ts : List Token} {vs : Numbering} (a : Token) (f : List ℕ) (b : Prefix)
        → name_of a.kind ≡ Some f → calls a ts ≡ false → negates a ts ≡ false → prefix_op ops f ≡ Some b → takes_operand ops ts ≡ true → m < b.priority
        → PrimaryStops ops m (a ∷ ts) vs Priority (a ∷ ts)
    -- in the operand of a prefix operator, and in what stands in brackets
    in_operand : {m : ℕ} {ts xs : List Token} {vs : Numbering} {fault : Fault} (a : Token) (f : List ℕ) (b : Prefix)
        → name_of a.kind ≡ Some f → calls a ts ≡ false → negates a ts ≡ false → prefix_op ops f ≡ Some b → takes_operand ops ts ≡ true → b.priority ≤ m
        → Stops ops b.operand ts vs fault xs
        → PrimaryStops ops m (a ∷ ts) vs fault xs
    in_arguments : {m : ℕ} {ts xs : List Token} {vs : Numbering} {fault : Fault} (a b : Token) (f : List ℕ)
        → name_of a.kind ≡ Some f → calls a (b ∷ ts) ≡ true → SequenceStops ops arguments 0 ts vs fault xs
        → PrimaryStops ops m (a ∷ b ∷ ts) vs fault xs
    in_paren : {m : ℕ} {ts xs : List Token} {vs : Numbering} {fault : Fault} (a : Token)
        → a.kind ≡ Punct 40 → Unclosed ops 41 1200 ts vs fault xs
        → PrimaryStops ops m (a ∷ ts) vs fault xs
    in_braces : {m : ℕ} {ts xs : List Token} {vs : Numbering} {fault : Fault} (a : Token)
        → a.kind ≡ Punct 123 → next_is 125 ts ≡ false → Unclosed ops 125 1200 ts vs fault xs
        → PrimaryStops ops m (a ∷ ts) vs fault xs
    in_items : {m : ℕ} {ts xs : List Token} {vs : Numbering} {fault : Fault} (a : Token)
        → a.kind ≡ Punct 91 → next_is 93 ts ≡ false → SequenceStops ops items 0 ts vs fault xs
        → PrimaryStops ops m (a ∷ ts) vs fault xs
    in_tail : {m : ℕ} {ts us xs : List Token} {vs ws : Numbering} {list : Trees} {fault : Fault} (a b : Token)
        → a.kind ≡ Punct 91 → next_is 93 ts ≡ false → Sequence ops ts vs list (b ∷ us) ws → is_punct 124 b.kind ≡ true → Unclosed ops 93 999 us ws fault xs
        → PrimaryStops ops m (a ∷ ts) vs fault xs

  -- in a term that a bracket, the first number, has to close, or behind it, where the bracket doesn't come
  pub data Unclosed (ops : Table) : ℕ → ℕ → List Token → Numbering → Fault → List Token → Type 0 where
    in_term : {close m : ℕ} {ts xs : List Token} {vs : Numbering} {fault : Fault} → Stops ops m ts vs fault xs → Unclosed ops close m ts vs fault xs
    behind_term : {close m q : ℕ} {ts us : List Token} {vs ws : Numbering} {t : Tree} → Reads ops m ts vs q t us ws → next_is close us ≡ false → Unclosed ops close m ts vs (fault_behind ops us) us

  -- in terms of at most 999 between commas, of which so many stand before, or behind one of them, where neither a comma comes nor
  -- what ends them; and 9 at a comma behind which none may follow
  pub data SequenceStops (ops : Table) : Between → ℕ → List Token → Numbering → Fault → List Token → Type 0 where
    in_one : {b : Between} {k : ℕ} {ts xs : List Token} {vs : Numbering} {fault : Fault} → Stops ops 999 ts vs fault xs → SequenceStops ops b k ts vs fault xs
    behind_one : {b : Between} {k q : ℕ} {ts us : List Token} {vs ws : Numbering} {t : Tree} → Reads ops 999 ts vs q t us ws → next_is 44 us ≡ false → next_ends b us ≡ false
        → SequenceStops ops b k ts vs (fault_behind ops us) us
    one_too_many : {b : Between} {k q : ℕ} {ts us : List Token} {vs ws : Numbering} {t : Tree} (c : Token) → Reads ops 999 ts vs q t (c ∷ us) ws → is_punct 44 c.kind ≡ true → is_full b k ≡ true
        → SequenceStops ops b k ts vs Arity (c ∷ us)
    in_further : {b : Between} {k q : ℕ} {ts us xs : List Token} {vs ws : Numbering} {t : Tree} {fault : Fault} (c : Token) → Reads ops 999 ts vs q t (c ∷ us) ws → is_punct 44 c.kind ≡ true → is_full b k ≡ false
        → SequenceStops ops b (k + 1) us ws fault xs
        → SequenceStops ops b k ts vs fault xs

-- the tokens of a read-term: in its term, or behind it, where a token is left before the End
pub data StopsAt (ops : Table) (ts : List Token) : Fault → List Token → Type 0 where
  in_it : {xs : List Token} {fault : Fault} → Stops ops 1200 ts no_variables fault xs → StopsAt ops ts fault xs
  behind_it : {q : ℕ} {us : List Token} {ws : Numbering} {t : Tree} (c : Token) → Reads ops 1200 ts no_variables q t (c ∷ us) ws → StopsAt ops ts (fault_behind ops (c ∷ us)) (c ∷ us)
