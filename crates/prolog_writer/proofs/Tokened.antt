-- The one token of a name that is a functor or an operator.
use Rattle.std.proofs.Common.{◌≡◌, ℕ, ◌+◌, length, List, [], ◌∷◌, ◌++◌, Bool, true, false, Option, Some, None, refl, sym, ◌∙◌, ap, subst, arith, length-append}
use Rattle.std.specs.Prelude.{codes, not, is_some, ◌&&◌, ◌||◌, if◌then◌else◌}
use Rattle.std.specs.List.{flat_map}
use Rattle.std.specs.Cmp.Lexicographic.{bytes_decides}
use Rattle.std.proofs.lemmas.Bool.{true≢false}
use Rattle.prolog_terms.specs.Operators.{Table, definitions, prefix_op, infix_op, postfix_op, no_operator}
use Rattle.prolog_terms.specs.declared.ops.Prefix.{Prefix}
use Rattle.prolog_terms.specs.declared.ops.Infix.{Infix}
use Rattle.prolog_terms.specs.declared.ops.Postfix.{Postfix}
use Rattle.prolog_lexer.specs.declared.token.TokenKind.{TokenKind}
use Rattle.prolog_lexer.specs.declared.token.TokenKind.TheVariants.{Name, Quoted, Variable, Integer, Codes, Punct, Stop}
use Rattle.prolog_reader.specs.Grammar.{opens, is_integer, is_minus, begins, bars, follows, operator_name}
use Rattle.prolog_reader.specs.Reads.{name_of}
use Rattle.prolog_writer.specs.declared.style.Style.{Style}
use Rattle.prolog_writer.specs.Spelling.{same_text, has_quotes, stands_alone, is_brackets, quotes_functor, quotes_operator, escaped, in_quotes, name_text}
use Rattle.prolog_writer.specs.Again.{IsLawful}
use Rattle.prolog_writer.specs.Lexemes.{Lexeme, lexeme, lexemes_of_name}
use Rattle.prolog_writer.specs.Tokens.{mark_lexemes, operator_lexemes, functor_lexemes}
use Rattle.prolog_writer.proofs.Behind.{both_no, some_none}

-- ---- a kind that is a name

no_name : (f : List ℕ) → ◌≡◌ {A = Option (List ℕ)} None (Some f) → ⊥
no_name f e = some_none f (sym e)

pub name-operator : (k : TokenKind) (f : List ℕ) → name_of k ≡ Some f → operator_name k ≡ Some f
name-operator (Name g) f e = e
name-operator (Quoted g) f e = e
name-operator (Variable v) f e = absurd (no_name f e)
name-operator (Integer n) f e = absurd (no_name f e)
name-operator (Codes bs) f e = absurd (no_name f e)
name-operator (Punct b) f e = absurd (no_name f e)
name-operator Stop f e = absurd (no_name f e)

pub name-ends : (k : TokenKind) (f : List ℕ) → name_of k ≡ Some f → (opens k || is_integer k) ≡ false
name-ends (Name g) f e = refl
name-ends (Quoted g) f e = refl
name-ends (Variable v) f e = absurd (no_name f e)
name-ends (Integer n) f e = absurd (no_name f e)
name-ends (Codes bs) f e = absurd (no_name f e)
name-ends (Punct b) f e = absurd (no_name f e)
name-ends Stop f e = absurd (no_name f e)

pub name-begins : (k : TokenKind) (f : List ℕ) → name_of k ≡ Some f → begins k ≡ true
name-begins (Name g) f e = refl
name-begins (Quoted g) f e = refl
name-begins (Variable v) f e = absurd (no_name f e)
name-begins (Integer n) f e = absurd (no_name f e)
name-begins (Codes bs) f e = absurd (no_name f e)
name-begins (Punct b) f e = absurd (no_name f e)
name-begins Stop f e = absurd (no_name f e)

-- a name that is no infix and no postfix operator, or a prefix operator, bars no prefix operator before it
pub name-bars : (ops : Table) (k : TokenKind) (f : List ℕ) → name_of k ≡ Some f → (follows (definitions ops f) && not (is_some (definitions ops f).as_prefix)) ≡ false → bars ops k ≡ false
name-bars ops (Name g) f e h =
    let same : g ≡ f = cc in
    subst (λ n. bars ops (Name n) ≡ false) (sym same) h
name-bars ops (Quoted g) f e h = refl
name-bars ops (Variable v) f e h = refl
name-bars ops (Integer n) f e h = refl
name-bars ops (Codes bs) f e h = refl
name-bars ops (Punct b) f e h = refl
name-bars ops Stop f e h = refl

pub name-minus : (k : TokenKind) (f : List ℕ) → name_of k ≡ Some f → same_text f (codes "-") ≡ false → is_minus k ≡ false
name-minus (Name g) f e h =
    let same : g ≡ f = cc in
    subst (λ n. is_minus (Name n) ≡ false) (sym same) h
name-minus (Quoted g) f e h = refl
name-minus (Variable v) f e h = refl
name-minus (Integer n) f e h = refl
name-minus (Codes bs) f e h = refl
name-minus (Punct b) f e h = refl
name-minus Stop f e h = refl

-- ---- one token that is a name, of so many bytes

pub record OneName (f : List ℕ) (xs : List Lexeme) (n : ℕ) : Type 0 where
  pub kind : TokenKind
  pub is : xs ≡ lexeme kind n ∷ []
  pub named : name_of kind ≡ Some f

quoted_length : (f : List ℕ) → 1 + length (flat_map escaped f) + 1 ≡ length (in_quotes f)
quoted_length f =
    let e : length (in_quotes f) ≡ length (codes "'" ++ flat_map escaped f) + 1 = length-append (codes "'" ++ flat_map escaped f) (codes "'") in
    let g : length (codes "'" ++ flat_map escaped f) ≡ 1 + length (flat_map escaped f) = length-append (codes "'") (flat_map escaped f) in
    omega (arith, e, g)

pub name_one : (q : Bool) (f : List ℕ) → (q ≡ false → is_brackets f ≡ false) → OneName f (lexemes_of_name q f) (length (name_text q f))
unfolding name_text
name_one true f h = record { kind = Quoted f; is = ap (λ k. lexeme (Quoted f) k ∷ []) (quoted_length f); named = refl }
name_one false f h = record { kind = Name f; is = let e = h refl in rw e refl; named = refl }

no_bracket : (a b c : Bool) → a ≡ true → (a && (b || c)) ≡ false → b ≡ false
no_bracket true b c e h = (both_no b c h).0
no_bracket false b c e h = absurd (true≢false (sym e))

pub functor_one : (s : Style) (f : List ℕ) → has_quotes s ≡ true → OneName f (functor_lexemes s f) (length (name_text (quotes_functor s f) f))
functor_one s f q = name_one (quotes_functor s f) f (no_bracket (has_quotes s) (is_brackets f) (not (stands_alone f)) q)

-- ---- names that are operators

pub same : (f g : List ℕ) → same_text f g ≡ true → f ≡ g
same f g e = (bytes_decides f g).0 e

-- a name with these definitions is not one with others
differs : (ops : Table) (f g : List ℕ) → (definitions ops f ≡ definitions ops g → ⊥) → same_text f g ≡ false
differs ops f g h = by (same_text f g) refl
  where
    by : (b : Bool) → same_text f g ≡ b → b ≡ false
    by true e = absurd (h (ap (definitions ops) (same f g e)))
    by false e = refl

-- an operator that is no comma is one token
plain_operator : (s : Style) (f : List ℕ) → same_text f (codes ",") ≡ false → is_brackets f ≡ false → OneName f (operator_lexemes s f) (length (name_text (quotes_operator s f) f))
plain_operator s f c b =
    let n = name_one (quotes_operator s f) f (λ e. b) in
    record { kind = n.kind; is = ap (λ (x : Bool). if x then mark_lexemes 44 else lexemes_of_name (quotes_operator s f) f) c ∙ n.is; named = n.named }

neither : (a b : Bool) → a ≡ false → b ≡ false → (a || b) ≡ false
neither true b e h = e
neither false b e h = h

no_brackets : {ops : Table} → IsLawful ops → (f : List ℕ) → (definitions ops f ≡ no_operator → ⊥) → is_brackets f ≡ false
no_brackets {ops} law f h =
    neither (same_text f (codes "[]")) (same_text f (codes "{}"))
    (differs ops f (codes "[]") (λ e. h (e ∙ law.brackets)))
    (differs ops f (codes "{}") (λ e. h (e ∙ law.braces)))

pub prefix_one : {ops : Table} → IsLawful ops → (s : Style) (f : List ℕ) (p : Prefix) → prefix_op ops f ≡ Some p → OneName f (operator_lexemes s f) (length (name_text (quotes_operator s f) f))
prefix_one {ops} law s f p e =
    plain_operator s f
    (differs ops f (codes ",") (λ d. some_none p (sym e ∙ ap (λ x. x.as_prefix) (d ∙ law.comma))))
    (no_brackets law f (λ d. some_none p (sym e ∙ ap (λ x. x.as_prefix) d)))

pub postfix_one : {ops : Table} → IsLawful ops → (s : Style) (f : List ℕ) (p : Postfix) → postfix_op ops f ≡ Some p → OneName f (operator_lexemes s f) (length (name_text (quotes_operator s f) f))
postfix_one {ops} law s f p e =
    plain_operator s f
    (differs ops f (codes ",") (λ d. some_none p (sym e ∙ ap (λ x. x.as_postfix) (d ∙ law.comma))))
    (no_brackets law f (λ d. some_none p (sym e ∙ ap (λ x. x.as_postfix) d)))

-- one token that is an operator
pub record OneOperator (f : List ℕ) (xs : List Lexeme) : Type 0 where
  pub kind : TokenKind
  pub bytes : ℕ
  pub is : xs ≡ lexeme kind bytes ∷ []
  pub operator : operator_name kind ≡ Some f
  pub ends : (opens kind || is_integer kind) ≡ false

as_operator : {f : List ℕ} {xs : List Lexeme} {n : ℕ} → OneName f xs n → OneOperator f xs
as_operator {f} {xs} {n} o = record { kind = o.kind; bytes = n; is = o.is; operator = name-operator o.kind f o.named; ends = name-ends o.kind f o.named }

pub postfix_operator : {ops : Table} → IsLawful ops → (s : Style) (f : List ℕ) (p : Postfix) → postfix_op ops f ≡ Some p → OneOperator f (operator_lexemes s f)
postfix_operator law s f p e = as_operator (postfix_one law s f p e)

pub infix_operator : {ops : Table} → IsLawful ops → (s : Style) (f : List ℕ) (i : Infix) → infix_op ops f ≡ Some i → OneOperator f (operator_lexemes s f)
infix_operator {ops} law s f i e = by (same_text f (codes ",")) refl
  where
    by : (b : Bool) → same_text f (codes ",") ≡ b → OneOperator f (operator_lexemes s f)
    by true k =
        record {
          kind = Punct 44;
          bytes = 1;
          is = ap (λ (x : Bool). if x then mark_lexemes 44 else lexemes_of_name (quotes_operator s f) f) k;
          operator = ap Some (sym (same f (codes ",") k));
          ends = refl;
        }
    by false k = as_operator (plain_operator s f k (no_brackets law f (λ d. some_none i (sym e ∙ ap (λ x. x.as_infix) d))))
