-- In which lines tokens stand makes no difference to what they read as.
use Rattle.std.proofs.Common.{◌≡◌, ℕ, ◌⊎◌, inl, inr, List, [], ◌∷◌, Bool, false, None, refl, ◌∙◌, ap}
use Rattle.std.specs.Prelude.{◌&&◌, ◌||◌, not}
use Rattle.prolog_terms.specs.Tree.{Tree, Trees}
use Rattle.prolog_terms.specs.Operators.{Table, prefix_op}
use Rattle.prolog_lexer.specs.declared.token.Token.{Token}
use Rattle.prolog_reader.specs.Numberings.{Numbering}
use Rattle.prolog_reader.specs.Grammar.{calls, negates, next_is, begins, bars, takes_operand}
use Rattle.prolog_reader.specs.Reads.{Reads, Primary, Sequence, Chain, Rests, term, call, negative, applied, plain, number, named, text, paren, empty_list, empty_braces, list, list_with_tail, braces, last, further, stays, over_two, over_one}

-- the token in another line
abbrev pub in_line : ℕ → Token → Token
in_line line t = record { kind = t.kind; from = t.from; to = t.to; line = line }

abbrev pub lined : ℕ → List Token → List Token
lined line [] = []
lined line (t ∷ ts) = in_line line t ∷ lined line ts

calls_lined : (line : ℕ) (a : Token) (ts : List Token) → calls (in_line line a) (lined line ts) ≡ calls a ts
calls_lined line a [] = refl
calls_lined line a (b ∷ ts) = refl

negates_lined : (line : ℕ) (a : Token) (ts : List Token) → negates (in_line line a) (lined line ts) ≡ negates a ts
negates_lined line a [] = refl
negates_lined line a (b ∷ ts) = refl

next_lined : (line p : ℕ) (ts : List Token) → next_is p (lined line ts) ≡ next_is p ts
next_lined line p [] = refl
next_lined line p (b ∷ ts) = refl

takes_lined : (line : ℕ) (ops : Table) (ts : List Token) → takes_operand ops (lined line ts) ≡ takes_operand ops ts
takes_lined line ops [] = refl
takes_lined line ops (n ∷ ts) =
    ap (λ (x : Bool). begins n.kind && not (bars ops n.kind && not (x || negates (in_line line n) (lined line ts)))) (calls_lined line n ts)
    ∙ ap (λ (x : Bool). begins n.kind && not (bars ops n.kind && not (calls n ts || x))) (negates_lined line n ts)

rests_lined : (line : ℕ) (ops : Table) (q m : ℕ) (ts : List Token) → Rests ops q m ts → Rests ops q m (lined line ts)
rests_lined line ops q m [] h = tt
rests_lined line ops q m (t ∷ ts) h = h

no_operand : (line : ℕ) (ops : Table) (f : List ℕ) (ts : List Token) → (prefix_op ops f ≡ None) ⊎ (takes_operand ops ts ≡ false) → (prefix_op ops f ≡ None) ⊎ (takes_operand ops (lined line ts) ≡ false)
no_operand line ops f ts (inl e) = inl e
no_operand line ops f ts (inr e) = inr (takes_lined line ops ts ∙ e)

module _ (line : ℕ) {ops : Table} where
  mutual
    pub reads_lined : {m q : ℕ} {ts us : List Token} {vs ws : Numbering} {t : Tree} → Reads ops m ts vs q t us ws → Reads ops m (lined line ts) vs q t (lined line us) ws
    reads_lined (term {m = m} {q = q} {xs = xs} p c r) = term (primary_lined p) (chain_lined c) (rests_lined line ops q m xs r)

    primary_lined : {m q : ℕ} {ts us : List Token} {vs ws : Numbering} {t : Tree} → Primary ops m ts vs q t us ws → Primary ops m (lined line ts) vs q t (lined line us) ws
    primary_lined (call a b c f n k s e few) = call (in_line line a) (in_line line b) (in_line line c) f n k (sequence_lined s) e few
    primary_lined (negative a b f n k g few) = negative (in_line line a) (in_line line b) f n k g few
    primary_lined (applied {ts = ts} a f b n k g o x h r) =
        applied (in_line line a) f b n (calls_lined line a ts ∙ k) (negates_lined line a ts ∙ g) o (takes_lined line ops ts ∙ x) h (reads_lined r)
    primary_lined (plain {ts = ts} a f n k g o) = plain (in_line line a) f n (calls_lined line a ts ∙ k) (negates_lined line a ts ∙ g) (no_operand line ops f ts o)
    primary_lined (number a n k few) = number (in_line line a) n k few
    primary_lined (named a v k) = named (in_line line a) v k
    primary_lined (text a bs k) = text (in_line line a) bs k
    primary_lined (paren a c k r e) = paren (in_line line a) (in_line line c) k (reads_lined r) e
    primary_lined (empty_list a b k e) = empty_list (in_line line a) (in_line line b) k e
    primary_lined (empty_braces a b k e) = empty_braces (in_line line a) (in_line line b) k e
    primary_lined (list {ts = ts} a c k n s e) = list (in_line line a) (in_line line c) k (next_lined line 93 ts ∙ n) (sequence_lined s) e
    primary_lined (list_with_tail {ts = ts} a b c k n s e r g) = list_with_tail (in_line line a) (in_line line b) (in_line line c) k (next_lined line 93 ts ∙ n) (sequence_lined s) e (reads_lined r) g
    primary_lined (braces {ts = ts} a c k n r e) = braces (in_line line a) (in_line line c) k (next_lined line 125 ts ∙ n) (reads_lined r) e

    sequence_lined : {ts us : List Token} {vs ws : Numbering} {items : Trees} → Sequence ops ts vs items us ws → Sequence ops (lined line ts) vs items (lined line us) ws
    sequence_lined (last r) = last (reads_lined r)
    sequence_lined (further c r e s) = further (in_line line c) (reads_lined r) e (sequence_lined s)

    chain_lined : {m q p : ℕ} {ts us : List Token} {vs ws : Numbering} {t u : Tree} → Chain ops m ts vs q t p u us ws → Chain ops m (lined line ts) vs q t p u (lined line us) ws
    chain_lined stays = stays
    chain_lined (over_two a f p right e r c) = over_two (in_line line a) f p right e (reads_lined r) (chain_lined c)
    chain_lined (over_one a f p e c) = over_one (in_line line a) f p e (chain_lined c)
