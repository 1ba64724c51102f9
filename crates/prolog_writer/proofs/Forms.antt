-- A compound in each form reads as the compound, where its arguments do.
use Rattle.std.proofs.Common.{◌≡◌, ℕ, ◌+◌, ◌-◌, ◌≤◌, length, List, [], ◌∷◌, ◌++◌, Bool, true, false, Option, Some, None, refl, sym, ◌∙◌, ap, subst, arith}
use Rattle.std.specs.Prelude.{codes, not, is_some, ◌&&◌, ◌||◌, if◌then◌else◌, option_map, slice_get}
use Rattle.std.proofs.lemmas.Bool.{true≢false}
use Rattle.prolog_terms.specs.Tree.{Tree, Trees, compound, none, more, count, AllHaveWholes}
use Rattle.prolog_terms.specs.Operators.{Table, definitions, prefix_op, infix_op, postfix_op}
use Rattle.prolog_terms.specs.declared.ops.Prefix.{Prefix}
use Rattle.prolog_terms.specs.declared.ops.Infix.{Infix}
use Rattle.prolog_terms.specs.declared.ops.Postfix.{Postfix}
use Rattle.prolog_lexer.specs.declared.token.Token.{Token}
use Rattle.prolog_lexer.specs.declared.token.TokenKind.TheVariants.{Punct}
use Rattle.prolog_lexer.specs.Tokens.{token_at}
use Rattle.prolog_reader.specs.Numberings.{Numbering}
use Rattle.prolog_reader.specs.Grammar.{touches, calls, negates, begins, bars, follows, is_punct, next_is}
use Rattle.prolog_reader.specs.Reads.{Reads, Primary, Sequence, call, applied, braces, list, list_with_tail, last}
use Rattle.prolog_reader.specs.Reads as reader
use Rattle.prolog_writer.specs.declared.kind.Kind.{Kind}
use Rattle.prolog_writer.specs.declared.kind.Kind.TheVariants.{Named, Minus, Other}
use Rattle.prolog_writer.specs.declared.kind.Edge.{Edge}
use Rattle.prolog_writer.specs.declared.style.Style.{Style}
use Rattle.prolog_writer.specs.declared.shape.Shape.{Shape}
use Rattle.prolog_writer.specs.declared.shape.Shape.TheVariants.{Cell, Braced, Prefixed, Infixed, Postfixed, Call}
use Rattle.prolog_writer.specs.declared.shape.Place.{Place}
use Rattle.prolog_writer.specs.declared.shape.Place.TheVariants.{Operand, Left}
use Rattle.prolog_writer.specs.Spelling.{same_text, has_quotes, quotes_functor, quotes_operator, name_text}
use Rattle.prolog_writer.specs.Spelling as writer
use Rattle.prolog_writer.specs.Spaces.{is_wordy, is_named, needs_space, gap, edge_of}
use Rattle.prolog_writer.specs.Shapes.{priority, has_operators}
use Rattle.prolog_writer.specs.Pieces.{pieces, separated, items, further_items, mark, operator_piece, prefix_piece, prefix_kind, argument_place, braces_place}
use Rattle.prolog_writer.specs.Again.{IsLawful}
use Rattle.prolog_writer.specs.Lexemes.{tokens_from, AllSpell}
use Rattle.prolog_writer.specs.Tokens.{mark_lexemes, operator_lexemes, functor_lexemes, lexemes, separated_lexemes, items_lexemes, further_lexemes}
use Rattle.prolog_writer.specs.Told.{told, as_told, all_told, all_as_told}
use Rattle.prolog_writer.proofs.Joining as joining
use Rattle.prolog_writer.proofs.Joining.{edge_is}
use Rattle.prolog_writer.proofs.Lexing.{last_of}
use Rattle.prolog_writer.proofs.Spelled.{form, form_lexemes, operator_spelled, separated_spelled}
use Rattle.prolog_writer.proofs.Behind.{and_no, no_minus, Follows, Ends, less, closing, comma, infix_follows, postfix_follows, no_infix}
use Rattle.prolog_writer.proofs.Tokened.{name-begins, name-ends, name-bars, name-minus, OneName, functor_one, prefix_one, OneOperator, infix_operator, postfix_operator}
use Rattle.prolog_writer.proofs.Grown.{Grows, alone, by_two, by_one}
use Rattle.prolog_writer.proofs.Laid.{laid, Parted, parted}
use Rattle.prolog_writer.proofs.Starts.{Starts, plain_starts, begins_term, no_bracket_next, no_brace_next, same_number}
use Rattle.prolog_writer.proofs.Fitting.{reach}
use Rattle.prolog_writer.proofs.Facts.{Elements, closed, barred, element, tail_ends, TermReads, TailReads, AllRead, one_term, argument, operand}

-- a compound in a form, where no parenthesis stands round it
pub record FormReads (ops : Table) (style : Style) (sh : Shape) (f : List ℕ) (ts : Trees) : Type 0 where
  pub reads : (e : Option Edge) (n : ℕ) (rest : List Token) (vs : Numbering) (m : ℕ) → priority sh ≤ m → Follows ops (reach sh) rest
      → Grows ops m (laid e n (form ops style sh f ts) (form_lexemes ops style sh f ts) rest) vs (priority sh) (compound f (all_as_told ts vs)) rest (all_told ts vs)
  pub starts : (e : Option Edge) (n : ℕ) (rest : List Token) → Starts ops e n (laid e n (form ops style sh f ts) (form_lexemes ops style sh f ts) rest)

-- ---- a prefix operator takes what begins so

called : (x y c d : Bool) → x ≡ true → c ≡ true → (x && not (y && not (c || d))) ≡ true
called true true true d e h = refl
called true true false d e h = absurd (true≢false (sym h))
called true false c d e h = refl
called false y c d e h = absurd (true≢false (sym e))

pub unbarred : (x y z : Bool) → x ≡ true → y ≡ false → (x && not (y && z)) ≡ true
unbarred true true z e h = absurd (true≢false h)
unbarred true false z e h = refl
unbarred false y z e h = absurd (true≢false (sym e))

-- ---- arguments with commas between them

pub sequence : {ops : Table} → IsLawful ops → (style : Style) (ts : Trees) → 1 ≤ count ts → AllRead ops style ts → (e : Option Edge) (n : ℕ) (rest : List Token) (vs : Numbering) → Ends ops 1000 rest
    → Sequence ops (laid e n (separated ops style argument_place ts) (separated_lexemes ops style argument_place ts) rest) vs (all_as_told ts vs) rest (all_told ts vs)
sequence law style none some all e n rest vs h = absurd (omega (arith, some))
sequence law style (more t none) some all e n rest vs h = last (argument all.0 e n rest vs h)
sequence {ops} law style (more t (more u us)) some all e n rest vs h =
    let p = parted e n (all.0.spelled argument_place) (mark (codes ",") ∷ separated ops style argument_place (more u us)) (mark_lexemes 44 ∷ separated_lexemes ops style argument_place (more u us)) rest in
    let c : Token = token_at (p.place + length (gap p.edge (mark (codes ",")))) 1 1 (Punct 44) in
    let place : ℕ = p.place + length (gap p.edge (mark (codes ","))) + 1 in
    let f : Option Edge = edge_of (mark (codes ",")) in
    let behind : List Token = laid f place (separated ops style argument_place (more u us)) (separated_lexemes ops style argument_place (more u us)) rest in
    subst (λ (l : List Token). Sequence ops l vs (all_as_told (more t (more u us)) vs) rest (all_told (more t (more u us)) vs)) (sym p.is)
    (reader.further c (argument all.0 e n (c ∷ behind) vs (comma law c behind refl)) refl
    (sequence law style (more u us) (omega arith) all.2 f place rest (told t vs) h))

-- ---- a name and its arguments

told_count : (ts : Trees) (vs : Numbering) → count (all_as_told ts vs) ≡ count ts
told_count none vs = refl
told_count (more t ts) vs = ap (λ k. k + 1) (told_count ts (told t vs))

no_gap : (o : Option ℕ) → needs_space (option_map (λ b. record { kind = Other; byte = b }) o) Other (codes "(") ≡ false
no_gap None = refl
no_gap (Some z) = by (is_wordy z) (writer.is_symbol z)
  where
    by : (a b : Bool) → ((a && false) || ((b && false) || false)) ≡ false
    by true true = refl
    by true false = refl
    by false true = refl
    by false false = refl

functor_gap : (text : List ℕ) → gap (edge_of (mark text)) (mark (codes "(")) ≡ []
functor_gap text = ap (λ b. if b then codes " " else []) (no_gap (slice_get text (length text - 1)))

pub call_form : {ops : Table} → IsLawful ops → (style : Style) (f : List ℕ) (ts : Trees) → has_quotes style ≡ true → 1 ≤ count ts → count ts ≤ 255 → AllHaveWholes ts → AllRead ops style ts
    → FormReads ops style Call f ts
call_form {ops} law style f ts q some few wholes all = record {
  reads = λ e n rest vs m high h.
      subst (λ (l : List Token). Grows ops m l vs 0 (compound f (all_as_told ts vs)) rest (all_told ts vs)) (sym (is e n rest))
      (alone (call (a e n) (b e n) (c e n rest) f one.named (touch e n (inner e n rest))
      (sequence law style ts some all paren (from e n) (c e n rest ∷ rest) vs (closing ops 1000 (c e n rest) rest refl refl refl)) refl (few_told vs)));
  starts = λ e n rest.
      subst (λ (l : List Token). Starts ops e n l) (sym (is e n rest))
      (plain_starts (a e n ∷ b e n ∷ inner e n rest)
      (called (begins one.kind) (bars ops one.kind) (calls (a e n) (b e n ∷ inner e n rest)) (negates (a e n) (b e n ∷ inner e n rest)) (name-begins one.kind f one.named) (touch e n (inner e n rest)))
      (ap not (name-ends one.kind f one.named)));
}
  where
    one : OneName f (functor_lexemes style f) (length (name_text (quotes_functor style f) f))
    one = functor_one style f q

    text : List ℕ
    text = name_text (quotes_functor style f) f

    at : Option Edge → ℕ → ℕ
    at e n = n + length (gap e (mark text))

    from : Option Edge → ℕ → ℕ
    from e n = at e n + length text + length (gap (edge_of (mark text)) (mark (codes "("))) + 1

    paren : Option Edge
    paren = edge_of (mark (codes "("))

    a : Option Edge → ℕ → Token
    a e n = token_at (at e n) 1 (length text) one.kind

    b : Option Edge → ℕ → Token
    b e n = token_at (at e n + length text + length (gap (edge_of (mark text)) (mark (codes "(")))) 1 1 (Punct 40)

    p : (e : Option Edge) (n : ℕ) (rest : List Token) → Parted paren (from e n) (separated ops style argument_place ts) (mark (codes ")") ∷ []) (separated_lexemes ops style argument_place ts) (mark_lexemes 41 ∷ []) rest
    p e n rest = parted paren (from e n) (separated_spelled ops style argument_place ts q wholes) (mark (codes ")") ∷ []) (mark_lexemes 41 ∷ []) rest

    c : Option Edge → ℕ → List Token → Token
    c e n rest = token_at ((p e n rest).place + length (gap (p e n rest).edge (mark (codes ")")))) 1 1 (Punct 41)

    inner : Option Edge → ℕ → List Token → List Token
    inner e n rest = laid paren (from e n) (separated ops style argument_place ts) (separated_lexemes ops style argument_place ts) (c e n rest ∷ rest)

    is : (e : Option Edge) (n : ℕ) (rest : List Token) → laid e n (form ops style Call f ts) (form_lexemes ops style Call f ts) rest ≡ a e n ∷ b e n ∷ inner e n rest
    is e n rest =
        ap (λ xs. tokens_from 1 (at e n) xs ++ (b e n ∷ laid paren (from e n) (separated ops style argument_place ts ++ mark (codes ")") ∷ []) (separated_lexemes ops style argument_place ts ++ mark_lexemes 41 ∷ []) rest)) one.is
        ∙ ap (λ (l : List Token). a e n ∷ b e n ∷ l) (p e n rest).is

    touch : (e : Option Edge) (n : ℕ) (l : List Token) → calls (a e n) (b e n ∷ l) ≡ true
    touch e n l =
        let g : length (gap (edge_of (mark text)) (mark (codes "("))) ≡ 0 = ap length (functor_gap text) in
        let k : touches (a e n) (b e n) ≡ true = same_number (at e n + length text) (at e n + length text + length (gap (edge_of (mark text)) (mark (codes "(")))) (omega (arith, g)) in
        rw k refl

    few_told : (vs : Numbering) → count (all_as_told ts vs) ≤ 255
    few_told vs = let k = told_count ts vs in omega (arith, k, few)

-- ---- a prefix operator

minus_by : (b : Bool) → is_named (if b then Minus else Named) ≡ true
minus_by true = refl
minus_by false = refl

pub prefixed_form : {ops : Table} → IsLawful ops → (style : Style) (f : List ℕ) (p : Prefix) → has_quotes style ≡ true → has_operators style ≡ true → prefix_op ops f ≡ Some p
    → (t : Tree) → TermReads ops style t → FormReads ops style (Prefixed p) f (more t none)
prefixed_form {ops} law style f p q o is_op t r = record {
  reads = λ e n rest vs m high h.
      subst (λ (l : List Token). Grows ops m l vs p.priority (compound f (more (as_told t vs) none)) rest (told t vs)) (sym (is e n rest))
      (alone (applied (a e n) f p one.named (no_call e n rest) (no_sign e n rest) is_op (start e n rest).operand high (operand r o p.operand edge (from e n) rest vs h)));
  starts = λ e n rest.
      subst (λ (l : List Token). Starts ops e n l) (sym (is e n rest))
      (plain_starts (a e n ∷ inner e n rest)
      (unbarred (begins one.kind) (bars ops one.kind) (not (calls (a e n) (inner e n rest) || negates (a e n) (inner e n rest))) (name-begins one.kind f one.named)
      (name-bars ops one.kind f one.named (and_no (follows (definitions ops f)) (not (is_some (definitions ops f).as_prefix)) (ap (λ x. not (is_some x)) is_op))))
      (ap not (name-ends one.kind f one.named)));
}
  where
    one : OneName f (operator_lexemes style f) (length (name_text (quotes_operator style f) f))
    one = prefix_one law style f p is_op

    text : List ℕ
    text = name_text (quotes_operator style f) f

    at : Option Edge → ℕ → ℕ
    at e n = n + length (gap e (prefix_piece style f))

    from : Option Edge → ℕ → ℕ
    from e n = at e n + length text

    edge : Option Edge
    edge = edge_of (prefix_piece style f)

    a : Option Edge → ℕ → Token
    a e n = token_at (at e n) 1 (length text) one.kind

    inner : Option Edge → ℕ → List Token → List Token
    inner e n rest = laid edge (from e n) (pieces ops style (Operand p.operand) t) (lexemes ops style (Operand p.operand) t) rest

    is : (e : Option Edge) (n : ℕ) (rest : List Token) → laid e n (form ops style (Prefixed p) f (more t none)) (form_lexemes ops style (Prefixed p) f (more t none)) rest ≡ a e n ∷ inner e n rest
    is e n rest = ap (λ xs. tokens_from 1 (at e n) xs ++ inner e n rest) one.is

    start : (e : Option Edge) (n : ℕ) (rest : List Token) → Starts ops edge (from e n) (inner e n rest)
    start e n rest = r.starts (Operand p.operand) refl o edge (from e n) rest

    edge_known : edge ≡ Some (record { kind = prefix_kind f; byte = last_of text })
    edge_known = edge_is (prefix_piece style f) (joining.begins text (operator_lexemes style f) (operator_spelled style f q))

    no_call : (e : Option Edge) (n : ℕ) (rest : List Token) → calls (a e n) (inner e n rest) ≡ false
    no_call e n rest = (start e n rest).no_call (prefix_kind f) (last_of text) edge_known (minus_by (same_text f (codes "-"))) (a e n) refl

    no_sign : (e : Option Edge) (n : ℕ) (rest : List Token) → negates (a e n) (inner e n rest) ≡ false
    no_sign e n rest = by (same_text f (codes "-")) refl
      where
        by : (b : Bool) → same_text f (codes "-") ≡ b → negates (a e n) (inner e n rest) ≡ false
        by true k =
            let kind : prefix_kind f ≡ Minus = ap (λ b. if b then Minus else Named) k in
            (start e n rest).no_sign (last_of text) (edge_known ∙ ap (λ (x : Kind). Some (record { kind = x; byte = last_of text })) kind) (a e n) refl
        by false k = no_minus (a e n) (inner e n rest) (name-minus one.kind f one.named k)

-- ---- an infix operator

pub infixed_form : {ops : Table} → IsLawful ops → (style : Style) (f : List ℕ) (i : Infix) → has_operators style ≡ true → infix_op ops f ≡ Some i
    → (t u : Tree) → TermReads ops style t → TermReads ops style u → FormReads ops style (Infixed i) f (more t (more u none))
infixed_form {ops} law style f i o is_op t u r s = record {
  reads = λ e n rest vs m high h.
      subst (λ (l : List Token). Grows ops m l vs i.priority (compound f (more (as_told t vs) (more (as_told u (told t vs)) none))) rest (told u (told t vs))) (sym (is e n rest))
      (by_two (a e n rest) f i
      (r.reads left e n (a e n rest ∷ inner e n rest) vs m (below m high)
      (less (r.reach left) (r.left i.left i.priority few) (infix_follows law f i is_op (a e n rest) (inner e n rest) one.operator one.ends)) (λ k. absurd (true≢false (sym o ∙ k))))
      one.operator is_op high (r.under left) (operand s o i.right edge (from e n rest) rest (told t vs) h));
  starts = λ e n rest. subst (λ (l : List Token). Starts ops e n l) (sym (is e n rest)) (r.starts left refl o e n (a e n rest ∷ inner e n rest));
}
  where
    one : OneOperator f (operator_lexemes style f)
    one = infix_operator law style f i is_op

    left : Place
    left = Left i.left i.priority

    few : i.left ≤ i.priority
    few = (law.infixes f i is_op).1

    below : (m : ℕ) → i.priority ≤ m → r.level left ≤ m
    below m high = let u = r.under left in let l = few in omega (arith, u, l)

    edge : Option Edge
    edge = edge_of (operator_piece style f)

    p : (e : Option Edge) (n : ℕ) (rest : List Token)
        → Parted e n (pieces ops style left t) (operator_piece style f ∷ pieces ops style (Operand i.right) u) (lexemes ops style left t) (operator_lexemes style f ∷ lexemes ops style (Operand i.right) u) rest
    p e n rest = parted e n (r.spelled left) (operator_piece style f ∷ pieces ops style (Operand i.right) u) (operator_lexemes style f ∷ lexemes ops style (Operand i.right) u) rest

    at : Option Edge → ℕ → List Token → ℕ
    at e n rest = (p e n rest).place + length (gap (p e n rest).edge (operator_piece style f))

    from : Option Edge → ℕ → List Token → ℕ
    from e n rest = at e n rest + length (name_text (quotes_operator style f) f)

    a : Option Edge → ℕ → List Token → Token
    a e n rest = token_at (at e n rest) 1 one.bytes one.kind

    inner : Option Edge → ℕ → List Token → List Token
    inner e n rest = laid edge (from e n rest) (pieces ops style (Operand i.right) u) (lexemes ops style (Operand i.right) u) rest

    is : (e : Option Edge) (n : ℕ) (rest : List Token) → laid e n (form ops style (Infixed i) f (more t (more u none))) (form_lexemes ops style (Infixed i) f (more t (more u none))) rest
        ≡ laid e n (pieces ops style left t) (lexemes ops style left t) (a e n rest ∷ inner e n rest)
    is e n rest = (p e n rest).is ∙ ap (λ xs. laid e n (pieces ops style left t) (lexemes ops style left t) (tokens_from 1 (at e n rest) xs ++ inner e n rest)) one.is

-- ---- a postfix operator

pub postfixed_form : {ops : Table} → IsLawful ops → (style : Style) (f : List ℕ) (q : Postfix) → has_operators style ≡ true → postfix_op ops f ≡ Some q
    → (t : Tree) → TermReads ops style t → FormReads ops style (Postfixed q) f (more t none)
postfixed_form {ops} law style f q o is_op t r = record {
  reads = λ e n rest vs m high h.
      subst (λ (l : List Token). Grows ops m l vs q.priority (compound f (more (as_told t vs) none)) rest (told t vs)) (sym (is e n rest))
      (by_one (a e n rest) f q
      (r.reads left e n (a e n rest ∷ rest) vs m (below m high)
      (less (r.reach left) (r.left q.operand q.priority few) (postfix_follows law f q is_op (a e n rest) rest one.operator one.ends)) (λ k. absurd (true≢false (sym o ∙ k))))
      one.operator (no_infix law f q is_op) is_op high (r.under left));
  starts = λ e n rest. subst (λ (l : List Token). Starts ops e n l) (sym (is e n rest)) (r.starts left refl o e n (a e n rest ∷ rest));
}
  where
    one : OneOperator f (operator_lexemes style f)
    one = postfix_operator law style f q is_op

    left : Place
    left = Left q.operand q.priority

    few : q.operand ≤ q.priority
    few = (law.postfixes f q is_op).1

    below : (m : ℕ) → q.priority ≤ m → r.level left ≤ m
    below m high = let u = r.under left in let l = few in omega (arith, u, l)

    p : (e : Option Edge) (n : ℕ) (rest : List Token) → Parted e n (pieces ops style left t) (operator_piece style f ∷ []) (lexemes ops style left t) (operator_lexemes style f ∷ []) rest
    p e n rest = parted e n (r.spelled left) (operator_piece style f ∷ []) (operator_lexemes style f ∷ []) rest

    at : Option Edge → ℕ → List Token → ℕ
    at e n rest = (p e n rest).place + length (gap (p e n rest).edge (operator_piece style f))

    a : Option Edge → ℕ → List Token → Token
    a e n rest = token_at (at e n rest) 1 one.bytes one.kind

    is : (e : Option Edge) (n : ℕ) (rest : List Token) → laid e n (form ops style (Postfixed q) f (more t none)) (form_lexemes ops style (Postfixed q) f (more t none)) rest
        ≡ laid e n (pieces ops style left t) (lexemes ops style left t) (a e n rest ∷ rest)
    is e n rest = (p e n rest).is ∙ ap (λ xs. laid e n (pieces ops style left t) (lexemes ops style left t) (tokens_from 1 (at e n rest) xs ++ rest)) one.is

-- ---- braces

pub braced_form : {ops : Table} (style : Style) (f : List ℕ) → f ≡ codes "{}" → (t : Tree) → TermReads ops style t → FormReads ops style Braced f (more t none)
braced_form {ops} style f name t r = record {
  reads = λ e n rest vs m high h.
      subst (λ (l : List Token). Grows ops m l vs 0 (compound f (more (as_told t vs) none)) rest (told t vs)) (sym (is e n rest))
      (subst (λ g. Grows ops m (a e n ∷ inner e n rest) vs 0 (compound g (more (as_told t vs) none)) rest (told t vs)) (sym name)
      (alone (braces (a e n) (c e n rest) refl (no_brace_next (inner e n rest) (r.begins braces_place edge (from e n) (c e n rest ∷ rest)))
      (one_term r 1200 1200 1201 edge (from e n) (c e n rest ∷ rest) vs (r.under braces_place) (omega arith) (r.within braces_place) (closing ops 1201 (c e n rest) rest refl refl refl)) refl)));
  starts = λ e n rest. subst (λ (l : List Token). Starts ops e n l) (sym (is e n rest)) (plain_starts (a e n ∷ inner e n rest) refl refl);
}
  where
    at : Option Edge → ℕ → ℕ
    at e n = n + length (gap e (mark (codes "{")))

    from : Option Edge → ℕ → ℕ
    from e n = at e n + 1

    edge : Option Edge
    edge = edge_of (mark (codes "{"))

    a : Option Edge → ℕ → Token
    a e n = token_at (at e n) 1 1 (Punct 123)

    p : (e : Option Edge) (n : ℕ) (rest : List Token) → Parted edge (from e n) (pieces ops style braces_place t) (mark (codes "}") ∷ []) (lexemes ops style braces_place t) (mark_lexemes 125 ∷ []) rest
    p e n rest = parted edge (from e n) (r.spelled braces_place) (mark (codes "}") ∷ []) (mark_lexemes 125 ∷ []) rest

    c : Option Edge → ℕ → List Token → Token
    c e n rest = token_at ((p e n rest).place + length (gap (p e n rest).edge (mark (codes "}")))) 1 1 (Punct 125)

    inner : Option Edge → ℕ → List Token → List Token
    inner e n rest = laid edge (from e n) (pieces ops style braces_place t) (lexemes ops style braces_place t) (c e n rest ∷ rest)

    is : (e : Option Edge) (n : ℕ) (rest : List Token) → laid e n (form ops style Braced f (more t none)) (form_lexemes ops style Braced f (more t none)) rest ≡ a e n ∷ inner e n rest
    is e n rest = ap (λ (l : List Token). a e n ∷ l) (p e n rest).is

-- ---- lists

-- the first element and what stands behind it
pub elements : {ops : Table} (style : Style) (t u : Tree) → TermReads ops style t → TailReads ops style u → (e : Option Edge) (n : ℕ) (rest : List Token) (vs : Numbering) → Ends ops 1000 rest
    → Elements ops (laid e n (items ops style (more t (more u none))) (items_lexemes ops style (more t (more u none))) rest) vs
    (compound (codes ".") (more (as_told t vs) (more (as_told u (told t vs)) none))) rest (told u (told t vs))
elements {ops} style t u r s e n rest vs h =
    let p = parted e n (r.spelled argument_place) (further_items ops style u) (further_lexemes ops style u) rest in
    let k = s p.edge p.place rest (told t vs) h in
    subst (λ (l : List Token). Elements ops l vs (compound (codes ".") (more (as_told t vs) (more (as_told u (told t vs)) none))) rest (told u (told t vs))) (sym p.is)
    (element (argument r e n (laid p.edge p.place (further_items ops style u) (further_lexemes ops style u) rest) vs (tail_ends k h)) k)

listed : {ops : Table} {m : ℕ} {ts xs us : List Token} {vs ws : Numbering} {t : Tree} (a c : Token)
    → a.kind ≡ Punct 91 → next_is 93 ts ≡ false → is_punct 93 c.kind ≡ true → xs ≡ c ∷ us → Elements ops ts vs t xs ws → Primary ops m (a ∷ ts) vs 0 t us ws
listed {ops} {m} {ts} {us = us} {vs} {ws} a c open_ next close is (closed items s e) =
    subst (λ t. Primary ops m (a ∷ ts) vs 0 t us ws) e (list a c open_ next (subst (λ (l : List Token). Sequence ops ts vs items l ws) is s) close)
listed {ops} {m} {ts} {us = us} {vs} {ws} a c open_ next close is (barred {q = q} {us = ys} {ws = zs} {u = u} items b s bar g e) =
    subst (λ t. Primary ops m (a ∷ ts) vs 0 t us ws) e (list_with_tail a b c open_ next s bar (subst (λ (l : List Token). Reads ops 999 ys zs q u l ws) is g) close)

pub cell_form : {ops : Table} (style : Style) (f : List ℕ) → f ≡ codes "." → (t u : Tree) → TermReads ops style t → TailReads ops style u
    → AllSpell (items ops style (more t (more u none))) (items_lexemes ops style (more t (more u none))) → FormReads ops style Cell f (more t (more u none))
cell_form {ops} style f name t u r s spelled = record {
  reads = λ e n rest vs m high h.
      subst (λ (l : List Token). Grows ops m l vs 0 (compound f (more (as_told t vs) (more (as_told u (told t vs)) none))) rest (told u (told t vs))) (sym (is e n rest))
      (subst (λ g. Grows ops m (a e n ∷ inner e n rest) vs 0 (compound g (more (as_told t vs) (more (as_told u (told t vs)) none))) rest (told u (told t vs))) (sym name)
      (alone (listed (a e n) (c e n rest) refl (no_bracket_next (inner e n rest) (first e n rest)) refl refl
      (elements style t u r s edge (from e n) (c e n rest ∷ rest) vs (closing ops 1000 (c e n rest) rest refl refl refl)))));
  starts = λ e n rest. subst (λ (l : List Token). Starts ops e n l) (sym (is e n rest)) (plain_starts (a e n ∷ inner e n rest) refl refl);
}
  where
    ts : Trees
    ts = more t (more u none)

    at : Option Edge → ℕ → ℕ
    at e n = n + length (gap e (mark (codes "[")))

    from : Option Edge → ℕ → ℕ
    from e n = at e n + 1

    edge : Option Edge
    edge = edge_of (mark (codes "["))

    a : Option Edge → ℕ → Token
    a e n = token_at (at e n) 1 1 (Punct 91)

    p : (e : Option Edge) (n : ℕ) (rest : List Token) → Parted edge (from e n) (items ops style ts) (mark (codes "]") ∷ []) (items_lexemes ops style ts) (mark_lexemes 93 ∷ []) rest
    p e n rest = parted edge (from e n) spelled (mark (codes "]") ∷ []) (mark_lexemes 93 ∷ []) rest

    c : Option Edge → ℕ → List Token → Token
    c e n rest = token_at ((p e n rest).place + length (gap (p e n rest).edge (mark (codes "]")))) 1 1 (Punct 93)

    inner : Option Edge → ℕ → List Token → List Token
    inner e n rest = laid edge (from e n) (items ops style ts) (items_lexemes ops style ts) (c e n rest ∷ rest)

    is : (e : Option Edge) (n : ℕ) (rest : List Token) → laid e n (form ops style Cell f ts) (form_lexemes ops style Cell f ts) rest ≡ a e n ∷ inner e n rest
    is e n rest = ap (λ (l : List Token). a e n ∷ l) (p e n rest).is

    first : (e : Option Edge) (n : ℕ) (rest : List Token) → begins_term (inner e n rest) ≡ true
    first e n rest =
        let k = parted edge (from e n) (r.spelled argument_place) (further_items ops style u) (further_lexemes ops style u) (c e n rest ∷ rest) in
        subst (λ (l : List Token). begins_term l ≡ true) (sym k.is)
        (r.begins argument_place edge (from e n) (laid k.edge k.place (further_items ops style u) (further_lexemes ops style u) (c e n rest ∷ rest)))
