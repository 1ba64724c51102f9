-- The grammar by cases: which tokens read as which term (docs/LANGUAGE.md, "Terms").
use Rattle.std.specs.Prelude.{◌≡◌, ℕ, pos, ◌-ℤ◌, ◌<◌, ◌≤◌, ◌⊎◌, List, [], ◌∷◌, true, false, Option, Some, None, codes}
use Rattle.prolog_terms.specs.Tree.{Tree, Trees, variable, integer, atom, compound, none, more, count}
use Rattle.prolog_lexer.specs.declared.token.Token.{Token}
use Rattle.prolog_lexer.specs.declared.token.TokenKind.{TokenKind}
use Rattle.prolog_lexer.specs.declared.token.TokenKind.TheVariants.{Name, Quoted, Variable, Integer, Codes, Punct}
use Rattle.prolog_terms.specs.declared.ops.Prefix.{Prefix}
use Rattle.prolog_terms.specs.Operators.{Table, prefix_op}
use Rattle.prolog_reader.specs.Numberings.{Numbering, numbered, met}
use Rattle.prolog_reader.specs.declared.rule.Extension.TheVariants.{OverTwo, OverOne}
use Rattle.prolog_reader.specs.Grammar.{calls, negates, value_of, next_is, is_punct, takes_operand, operator_name, extension}

abbrev pub name_of : TokenKind → Option (List ℕ)
name_of (Name f) = Some f
name_of (Quoted f) = Some f
name_of _ = None

abbrev pub list_of : Trees → Tree → Tree
list_of none last = last
list_of (more t ts) last = compound (codes ".") (more t (more (list_of ts last) none))

abbrev pub code_list : List ℕ → Tree
code_list [] = atom (codes "[]")
code_list (b ∷ bs) = compound (codes ".") (more (integer (pos b)) (more (code_list bs) none))

-- no operator goes on with a term of priority q where at most m is allowed
abbrev pub Rests : Table → ℕ → ℕ → List Token → Type 0
Rests ops q m [] = Unit {0}
Rests ops q m (t ∷ ts) = extension ops (operator_name t.kind) q m ≡ None

-- Reads and Primary have, in this order: the greatest priority that is allowed, tokens and the variables met before them,
-- the priority and the term that the front of the tokens reads as, the tokens left and the variables met by then.
mutual
  -- a primary, extended by operators as long as one goes on
  pub data Reads (ops : Table) : ℕ → List Token → Numbering → ℕ → Tree → List Token → Numbering → Type 0 where
    term : {m p q : ℕ} {ts us xs : List Token} {vs ws ys : Numbering} {t u : Tree}
        → Primary ops m ts vs p t us ws → Chain ops m us ws p t q u xs ys → Rests ops q m xs → Reads ops m ts vs q u xs ys

  -- a primary, by its first token
  pub data Primary (ops : Table) : ℕ → List Token → Numbering → ℕ → Tree → List Token → Numbering → Type 0 where
    -- a name directly followed by (, and its arguments
    call : {m : ℕ} {ts us : List Token} {vs ws : Numbering} {args : Trees} (a b c : Token) (f : List ℕ)
        → name_of a.kind ≡ Some f → calls a (b ∷ ts) ≡ true → Sequence ops ts vs args (c ∷ us) ws → is_punct 41 c.kind ≡ true → count args ≤ 255
        → Primary ops m (a ∷ b ∷ ts) vs 0 (compound f args) us ws
    -- the unquoted - directly followed by an integer
    negative : {m : ℕ} {ts : List Token} {vs : Numbering} (a b : Token) (f : List ℕ)
        → name_of a.kind ≡ Some f → calls a (b ∷ ts) ≡ false → negates a (b ∷ ts) ≡ true → value_of b.kind ≤ 0x8000_0000_0000_0000
        → Primary ops m (a ∷ b ∷ ts) vs 0 (integer (pos 0 -ℤ pos (value_of b.kind))) ts vs
    -- a prefix operator and its operand
    applied : {m q : ℕ} {ts us : List Token} {vs ws : Numbering} {t : Tree} (a : Token) (f : List ℕ) (b : Prefix)
        → name_of a.kind ≡ Some f → calls a ts ≡ false → negates a ts ≡ false → prefix_op ops f ≡ Some b → takes_operand ops ts ≡ true → b.priority ≤ m
        → Reads ops b.operand ts vs q t us ws
        → Primary ops m (a ∷ ts) vs b.priority (compound f (more t none)) us ws
    -- any other name
    plain : {m : ℕ} {ts : List Token} {vs : Numbering} (a : Token) (f : List ℕ)
        → name_of a.kind ≡ Some f → calls a ts ≡ false → negates a ts ≡ false → (prefix_op ops f ≡ None) ⊎ (takes_operand ops ts ≡ false)
        → Primary ops m (a ∷ ts) vs 0 (atom f) ts vs
    -- an integer, a variable and codes
    number : {m : ℕ} {ts : List Token} {vs : Numbering} (a : Token) (n : ℕ)
        → a.kind ≡ Integer n → n < 0x8000_0000_0000_0000 → Primary ops m (a ∷ ts) vs 0 (integer (pos n)) ts vs
    named : {m : ℕ} {ts : List Token} {vs : Numbering} (a : Token) (v : List ℕ)
        → a.kind ≡ Variable v → Primary ops m (a ∷ ts) vs 0 (variable (numbered v vs)) ts (met v vs)
    text : {m : ℕ} {ts : List Token} {vs : Numbering} (a : Token) (bs : List ℕ)
        → a.kind ≡ Codes bs → Primary ops m (a ∷ ts) vs 0 (code_list bs) ts vs
    -- what stands in brackets
    paren : {m q : ℕ} {ts us : List Token} {vs ws : Numbering} {t : Tree} (a c : Token)
        → a.kind ≡ Punct 40 → Reads ops 1200 ts vs q t (c ∷ us) ws → is_punct 41 c.kind ≡ true
        → Primary ops m (a ∷ ts) vs 0 t us ws
    empty_list : {m : ℕ} {ts : List Token} {vs : Numbering} (a b : Token)
        → a.kind ≡ Punct 91 → is_punct 93 b.kind ≡ true → Primary ops m (a ∷ b ∷ ts) vs 0 (atom (codes "[]")) ts vs
    empty_braces : {m : ℕ} {ts : List Token} {vs : Numbering} (a b : Token)
        → a.kind ≡ Punct 123 → is_punct 125 b.kind ≡ true → Primary ops m (a ∷ b ∷ ts) vs 0 (atom (codes "{}")) ts vs
    list : {m : ℕ} {ts us : List Token} {vs ws : Numbering} {items : Trees} (a c : Token)
        → a.kind ≡ Punct 91 → next_is 93 ts ≡ false → Sequence ops ts vs items (c ∷ us) ws → is_punct 93 c.kind ≡ true
        → Primary ops m (a ∷ ts) vs 0 (list_of items (atom (codes "[]"))) us ws
    list_with_tail : {m q : ℕ} {ts us xs : List Token} {vs ws ys : Numbering} {items : Trees} {t : Tree} (a b c : Token)
        → a.kind ≡ Punct 91 → next_is 93 ts ≡ false → Sequence ops ts vs items (b ∷ us) ws → is_punct 124 b.kind ≡ true
        → Reads ops 999 us ws q t (c ∷ xs) ys → is_punct 93 c.kind ≡ true
        → Primary ops m (a ∷ ts) vs 0 (list_of items t) xs ys
    braces : {m q : ℕ} {ts us : List Token} {vs ws : Numbering} {t : Tree} (a c : Token)
        → a.kind ≡ Punct 123 → next_is 125 ts ≡ false → Reads ops 1200 ts vs q t (c ∷ us) ws → is_punct 125 c.kind ≡ true
        → Primary ops m (a ∷ ts) vs 0 (compound (codes "{}") (more t none)) us ws

  -- terms of at most 999, separated by commas
  pub data Sequence (ops : Table) : List Token → Numbering → Trees → List Token → Numbering → Type 0 where
    last : {q : ℕ} {ts us : List Token} {vs ws : Numbering} {t : Tree} → Reads ops 999 ts vs q t us ws → Sequence ops ts vs (more t none) us ws
    further : {q : ℕ} {ts us xs : List Token} {vs ws ys : Numbering} {t : Tree} {rest : Trees} (c : Token)
        → Reads ops 999 ts vs q t (c ∷ us) ws → is_punct 44 c.kind ≡ true → Sequence ops us ws rest xs ys
        → Sequence ops ts vs (more t rest) xs ys

  -- from a left term of a priority to a longer one, by operators that follow
  pub data Chain (ops : Table) : ℕ → List Token → Numbering → ℕ → Tree → ℕ → Tree → List Token → Numbering → Type 0 where
    stays : {m q : ℕ} {ts : List Token} {vs : Numbering} {t : Tree} → Chain ops m ts vs q t q t ts vs
    over_two : {m q r s : ℕ} {ts us xs : List Token} {vs ws ys : Numbering} {t u w : Tree} (a : Token) (f : List ℕ) (p right : ℕ)
        → extension ops (operator_name a.kind) q m ≡ Some (OverTwo f p right)
        → Reads ops right ts vs r u us ws → Chain ops m us ws p (compound f (more t (more u none))) s w xs ys
        → Chain ops m (a ∷ ts) vs q t s w xs ys
    over_one : {m q s : ℕ} {ts xs : List Token} {vs ys : Numbering} {t w : Tree} (a : Token) (f : List ℕ) (p : ℕ)
        → extension ops (operator_name a.kind) q m ≡ Some (OverOne f p)
        → Chain ops m ts vs p (compound f (more t none)) s w xs ys
        → Chain ops m (a ∷ ts) vs q t s w xs ys
