-- What a rule does in each case.
use Rattle.std.proofs.Common.{◌≡◌, ℕ, ◌+◌, ◌⊎◌, inl, inr, pos, ◌-ℤ◌, List, [], ◌∷◌, refl, sym, ap, subst, ◌∙◌, true, false, Bool, cond, Option, Some, None, nat_le, nat_lt}
use Rattle.std.specs.Prelude.{codes}
use Rattle.prolog_terms.specs.Tree.{Tree, Trees, variable, integer, atom, compound, none, more}
use Rattle.std.proofs.lemmas.Bool.{eqb-true}
use Rattle.std.proofs.Math.Dec.{eqb}
use Rattle.prolog_lexer.specs.declared.token.Token.{Token}
use Rattle.prolog_lexer.specs.declared.token.TokenKind.{TokenKind}
use Rattle.prolog_lexer.specs.declared.token.TokenKind.TheVariants.{Name, Quoted, Variable, Integer, Codes, Punct, Stop}
use Rattle.prolog_terms.specs.declared.ops.Prefix.{Prefix}
use Rattle.prolog_terms.specs.Operators.{Table, prefix_op}
use Rattle.prolog_reader.specs.Numberings.{Numbering, numbered, met}
use Rattle.prolog_reader.specs.declared.rule.Mode.{Mode}
use Rattle.prolog_reader.specs.declared.rule.Mode.TheVariants.{Wants, Has}
use Rattle.prolog_reader.specs.declared.rule.Frame.{Frame}
use Rattle.prolog_reader.specs.declared.rule.Frame.TheVariants.{Arguments, Items, Tail, Paren, Braces, Prefixed, Infixed}
use Rattle.prolog_reader.specs.Grammar as g
use Rattle.prolog_reader.specs.Grammar.{State, Found, Step, goes, goes_two, run, rule, at_end, continued, extension, operator_name, made, gathered, cells, is_punct, next_is, calls, negates, value_of, takes_operand, pushed_codes, text_codes, after_step}
use Rattle.prolog_reader.specs.Reads.{Rests, name_of}
use Rattle.prolog_reader.proofs.Continues.{closes_prefixed, closes_infixed, argument, item, tail, paren, braces}

abbrev pub st : Mode → List Frame → Trees → Numbering → State
st mode fs ts vs = record { mode = mode; frames = fs; terms = ts; variables = vs }

-- ---- a left term, and the token after it

pub has_rule : (ops : Table) (q m : ℕ) (fs : List Frame) (ts : Trees) (vs : Numbering) (t : Token) (rest : List Token)
    → rule ops (st (Has q m) fs ts vs) t rest ≡ continued ops q m fs ts vs t
unfolding rule
has_rule ops q m fs ts vs t rest = refl

-- where the rule is one step that takes the token
pub one_step : (ops : Table) (s u : State) (t : Token) (rest : List Token) → rule ops s t rest ≡ goes u → run ops false s (t ∷ rest) ≡ run ops false u rest
one_step ops s u t rest e = rw e refl

pub two_step : (ops : Table) (s u : State) (t b : Token) (rest : List Token) → rule ops s t (b ∷ rest) ≡ goes_two u → run ops false s (t ∷ b ∷ rest) ≡ run ops false u rest
two_step ops s u t b rest e = rw e refl

-- where two states have the same rule and the same end
pub same_run : (ops : Table) (s u : State) (ts : List Token) → ((t : Token) (rest : List Token) → ts ≡ t ∷ rest → rule ops s t rest ≡ rule ops u t rest) → at_end s ≡ at_end u
    → run ops false s ts ≡ run ops false u ts
same_run ops s u [] same ends = ends
same_run ops s u (t ∷ ts) same ends = rw (same t ts refl) refl

pub rests_at : (ops : Table) (q m : ℕ) (ts : List Token) (t : Token) (rest : List Token) → Rests ops q m ts → ts ≡ t ∷ rest → extension ops (operator_name t.kind) q m ≡ None
rests_at ops q m ts t rest h e = let k : Rests ops q m (t ∷ rest) = subst (λ x. Rests ops q m x) e h in k

module _ (ops : Table) (fs : List Frame) (base : Trees) where
  pub prefix_closes : (q m p n : ℕ) (f : List ℕ) (t : Tree) (vs : Numbering) (us : List Token) → Rests ops q n us
      → run ops false (st (Has q n) (Prefixed f p m ∷ fs) (more t base) vs) us ≡ run ops false (st (Has p m) fs (more (compound f (more t none)) base) vs) us
  unfolding at_end
  prefix_closes q m p n f t vs us h =
      same_run ops (st (Has q n) (Prefixed f p m ∷ fs) (more t base) vs) (st (Has p m) fs (more (compound f (more t none)) base) vs) us
      (λ a rest e. has_rule ops q n (Prefixed f p m ∷ fs) (more t base) vs a rest
      ∙ closes_prefixed ops q n (more t base) vs a (rests_at ops q n us a rest h e) (Prefixed f p m ∷ fs) fs f p m refl
      ∙ sym (has_rule ops p m fs (more (compound f (more t none)) base) vs a rest)) refl

  pub infix_closes : (q m p n : ℕ) (f : List ℕ) (t u : Tree) (vs : Numbering) (us : List Token) → Rests ops q n us
      → run ops false (st (Has q n) (Infixed f p m ∷ fs) (more u (more t base)) vs) us ≡ run ops false (st (Has p m) fs (more (compound f (more t (more u none))) base) vs) us
  unfolding at_end
  infix_closes q m p n f t u vs us h =
      same_run ops (st (Has q n) (Infixed f p m ∷ fs) (more u (more t base)) vs) (st (Has p m) fs (more (compound f (more t (more u none))) base) vs) us
      (λ a rest e. has_rule ops q n (Infixed f p m ∷ fs) (more u (more t base)) vs a rest
      ∙ closes_infixed ops q n (more u (more t base)) vs a (rests_at ops q n us a rest h e) (Infixed f p m ∷ fs) fs f p m refl
      ∙ sym (has_rule ops p m fs (more (compound f (more t (more u none))) base) vs a rest)) refl

-- ---- the rules of a primary

module _ (ops : Table) (m : ℕ) (fs : List Frame) (base : Trees) (vs : Numbering) (a : Token) (rest : List Token) where
  abbrev pub s : State
  s = st (Wants m) fs base vs

  pub wants : (k : TokenKind) → a.kind ≡ k → rule ops s a rest ≡ g.primary ops m s a rest k
  unfolding rule
  wants k e = ap (λ k. g.primary ops m s a rest k) e

  pub named_kind : (k : TokenKind) (f : List ℕ) → name_of k ≡ Some f → g.primary ops m s a rest k ≡ g.named ops f m s a rest
  unfolding g.primary
  named_kind (Name h) f e = let q : h ≡ f = cc in ap (λ x. g.named ops x m s a rest) q
  named_kind (Quoted h) f e = let q : h ≡ f = cc in ap (λ x. g.named ops x m s a rest) q
  named_kind (Variable v) f e = cc
  named_kind (Integer n) f e = cc
  named_kind (Codes b) f e = cc
  named_kind (Punct b) f e = cc
  named_kind Stop f e = cc

  pub a_name : (f : List ℕ) → name_of a.kind ≡ Some f → rule ops s a rest ≡ g.named ops f m s a rest
  a_name f e = wants a.kind refl ∙ named_kind a.kind f e

  pub call_rule : (f : List ℕ) → name_of a.kind ≡ Some f → calls a rest ≡ true → rule ops s a rest ≡ goes_two (st (Wants 999) (Arguments f 0 m ∷ fs) base vs)
  unfolding g.named
  call_rule f e c = a_name f e ∙ rw c refl

  pub not_call : (f : List ℕ) → calls a rest ≡ false → g.named ops f m s a rest ≡ cond (negates a rest) (g.negated (g.next_value rest) m s) (g.prefixed (prefix_op ops f) f m s (takes_operand ops rest))
  unfolding g.named
  not_call f c = rw c refl

  pub negative_rule : (f : List ℕ) → name_of a.kind ≡ Some f → calls a rest ≡ false → negates a rest ≡ true → nat_le (g.next_value rest) 0x8000_0000_0000_0000 ≡ true
      → rule ops s a rest ≡ goes_two (st (Has 0 m) fs (more (integer (pos 0 -ℤ pos (g.next_value rest))) base) vs)
  negative_rule f e c n l = a_name f e ∙ not_call f c ∙ rw (n, l) refl

  pub applied_rule : (f : List ℕ) (b : Prefix) → name_of a.kind ≡ Some f → calls a rest ≡ false → negates a rest ≡ false → prefix_op ops f ≡ Some b → takes_operand ops rest ≡ true
      → nat_le b.priority m ≡ true → rule ops s a rest ≡ goes (st (Wants b.operand) (Prefixed f b.priority m ∷ fs) base vs)
  applied_rule f b e c n p o l = a_name f e ∙ not_call f c ∙ rw (n, p, o, l) refl

  pub plain_prefixed : (x : Option Prefix) (o : Bool) (f : List ℕ) → (x ≡ None) ⊎ (o ≡ false) → g.prefixed x f m s o ≡ goes (st (Has 0 m) fs (more (atom f) base) vs)
  plain_prefixed None o f h = refl
  plain_prefixed (Some b) true f (inl h) = cc
  plain_prefixed (Some b) true f (inr h) = cc
  plain_prefixed (Some b) false f h = refl

  pub plain_rule : (f : List ℕ) → name_of a.kind ≡ Some f → calls a rest ≡ false → negates a rest ≡ false → (prefix_op ops f ≡ None) ⊎ (takes_operand ops rest ≡ false)
      → rule ops s a rest ≡ goes (st (Has 0 m) fs (more (atom f) base) vs)
  plain_rule f e c n h = a_name f e ∙ not_call f c ∙ rw n (plain_prefixed (prefix_op ops f) (takes_operand ops rest) f h)

  pub number_rule : (n : ℕ) → a.kind ≡ Integer n → nat_lt n 0x8000_0000_0000_0000 ≡ true → rule ops s a rest ≡ goes (st (Has 0 m) fs (more (integer (pos n)) base) vs)
  unfolding g.primary
  number_rule n e l = wants (Integer n) e ∙ rw l refl

  pub variable_rule : (v : List ℕ) → a.kind ≡ Variable v → rule ops s a rest ≡ goes (st (Has 0 m) fs (more (variable (numbered v vs)) base) (met v vs))
  unfolding g.primary
  variable_rule v e = wants (Variable v) e

  pub codes_rule : (bs : List ℕ) → a.kind ≡ Codes bs → rule ops s a rest ≡ goes (st (Has 0 m) fs (text_codes bs base) vs)
  unfolding g.primary
  codes_rule bs e = wants (Codes bs) e

  pub paren_rule : a.kind ≡ Punct 40 → rule ops s a rest ≡ goes (st (Wants 1200) (Paren m ∷ fs) base vs)
  unfolding g.primary g.bracket
  paren_rule e = wants (Punct 40) e

  pub empty_list_rule : a.kind ≡ Punct 91 → next_is 93 rest ≡ true → rule ops s a rest ≡ goes_two (st (Has 0 m) fs (more (atom (codes "[]")) base) vs)
  unfolding g.primary g.bracket
  empty_list_rule e n = wants (Punct 91) e ∙ rw n refl

  pub list_rule : a.kind ≡ Punct 91 → next_is 93 rest ≡ false → rule ops s a rest ≡ goes (st (Wants 999) (Items 0 m ∷ fs) base vs)
  unfolding g.primary g.bracket
  list_rule e n = wants (Punct 91) e ∙ rw n refl

  pub empty_braces_rule : a.kind ≡ Punct 123 → next_is 125 rest ≡ true → rule ops s a rest ≡ goes_two (st (Has 0 m) fs (more (atom (codes "{}")) base) vs)
  unfolding g.primary g.bracket
  empty_braces_rule e n = wants (Punct 123) e ∙ rw n refl

  pub braces_rule : a.kind ≡ Punct 123 → next_is 125 rest ≡ false → rule ops s a rest ≡ goes (st (Wants 1200) (Braces m ∷ fs) base vs)
  unfolding g.primary g.bracket
  braces_rule e n = wants (Punct 123) e ∙ rw n refl

-- ---- the rules of an open frame

module _ (ops : Table) (q n : ℕ) (fs : List Frame) (base : Trees) (vs : Numbering) (c : Token) (rest : List Token) (stays : extension ops (operator_name c.kind) q n ≡ None) where
  pub in_paren : (m : ℕ) → is_punct 41 c.kind ≡ true → rule ops (st (Has q n) (Paren m ∷ fs) base vs) c rest ≡ goes (st (Has 0 m) fs base vs)
  in_paren m e = has_rule ops q n (Paren m ∷ fs) base vs c rest ∙ paren ops q n base vs c stays (Paren m ∷ fs) fs m refl ∙ rw e refl

  pub in_braces : (m : ℕ) → is_punct 125 c.kind ≡ true → rule ops (st (Has q n) (Braces m ∷ fs) base vs) c rest ≡ goes (st (Has 0 m) fs (made (codes "{}") 1 base) vs)
  in_braces m e = has_rule ops q n (Braces m ∷ fs) base vs c rest ∙ braces ops q n base vs c stays (Braces m ∷ fs) fs m refl ∙ rw e refl

  pub in_tail : (k m : ℕ) → is_punct 93 c.kind ≡ true → rule ops (st (Has q n) (Tail k m ∷ fs) base vs) c rest ≡ goes (st (Has 0 m) fs (cells k base) vs)
  in_tail k m e = has_rule ops q n (Tail k m ∷ fs) base vs c rest ∙ tail ops q n base vs c stays (Tail k m ∷ fs) fs k m refl ∙ rw e refl

pub other_punct : (x y : ℕ) (k : TokenKind) → is_punct x k ≡ true → eqb x y ≡ false → is_punct y k ≡ false
other_punct x y (Punct b) e h = let p : b ≡ x = eqb-true b x e in rw p h
other_punct x y (Name f) e h = cc
other_punct x y (Quoted f) e h = cc
other_punct x y (Variable f) e h = cc
other_punct x y (Integer f) e h = cc
other_punct x y (Codes f) e h = cc
other_punct x y Stop e h = cc

module _ (ops : Table) (q : ℕ) (fs : List Frame) (base : Trees) (vs : Numbering) (c : Token) (rest : List Token) (stays : extension ops (operator_name c.kind) q 999 ≡ None) where
  pub argument_comma : (f : List ℕ) (k m : ℕ) → nat_lt k 254 ≡ true → is_punct 44 c.kind ≡ true
      → rule ops (st (Has q 999) (Arguments f k m ∷ fs) base vs) c rest ≡ goes (st (Wants 999) (Arguments f (k + 1) m ∷ fs) base vs)
  argument_comma f k m l e = has_rule ops q 999 (Arguments f k m ∷ fs) base vs c rest ∙ argument ops q 999 base vs c stays (Arguments f k m ∷ fs) fs f k m refl ∙ rw (e, l) refl

  pub argument_close : (f : List ℕ) (k m : ℕ) → is_punct 41 c.kind ≡ true
      → rule ops (st (Has q 999) (Arguments f k m ∷ fs) base vs) c rest ≡ goes (st (Has 0 m) fs (made f (k + 1) base) vs)
  argument_close f k m e =
      let no : is_punct 44 c.kind ≡ false = other_punct 41 44 c.kind e refl in
      has_rule ops q 999 (Arguments f k m ∷ fs) base vs c rest ∙ argument ops q 999 base vs c stays (Arguments f k m ∷ fs) fs f k m refl ∙ rw (no, e) refl

  pub item_comma : (k m : ℕ) → is_punct 44 c.kind ≡ true → rule ops (st (Has q 999) (Items k m ∷ fs) base vs) c rest ≡ goes (st (Wants 999) (Items (k + 1) m ∷ fs) base vs)
  item_comma k m e = has_rule ops q 999 (Items k m ∷ fs) base vs c rest ∙ item ops q 999 base vs c stays (Items k m ∷ fs) fs k m refl ∙ rw e refl

  pub item_bar : (k m : ℕ) → is_punct 124 c.kind ≡ true → rule ops (st (Has q 999) (Items k m ∷ fs) base vs) c rest ≡ goes (st (Wants 999) (Tail (k + 1) m ∷ fs) base vs)
  item_bar k m e =
      let no : is_punct 44 c.kind ≡ false = other_punct 124 44 c.kind e refl in
      has_rule ops q 999 (Items k m ∷ fs) base vs c rest ∙ item ops q 999 base vs c stays (Items k m ∷ fs) fs k m refl ∙ rw (no, e) refl

  pub item_close : (k m : ℕ) → is_punct 93 c.kind ≡ true → rule ops (st (Has q 999) (Items k m ∷ fs) base vs) c rest ≡ goes (st (Has 0 m) fs (cells (k + 1) (more (atom (codes "[]")) base)) vs)
  item_close k m e =
      let no : is_punct 44 c.kind ≡ false = other_punct 93 44 c.kind e refl in
      let bar : is_punct 124 c.kind ≡ false = other_punct 93 124 c.kind e refl in
      has_rule ops q 999 (Items k m ∷ fs) base vs c rest ∙ item ops q 999 base vs c stays (Items k m ∷ fs) fs k m refl ∙ rw (no, bar, e) refl
