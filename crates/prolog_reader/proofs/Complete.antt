-- What the rules read, the grammar has.
use Rattle.std.proofs.Common.{◌≡◌, ℕ, zero, suc, ◌+◌, ◌<◌, ◌≤◌, ◌⊎◌, inl, inr, pos, ◌-ℤ◌, List, [], ◌∷◌, length, refl, sym, ap, subst, ◌∙◌, arith, true, false, Bool, cond, Option, Some, None, Result, Ok, Err, nat_le, nat_lt}
use Rattle.std.specs.Prelude.{codes}
use Rattle.std.proofs.lemmas.Bool.Decides.{nat_tests}
use Rattle.prolog_terms.specs.Tree.{Tree, Trees, variable, integer, atom, compound, none, more, count}
use Rattle.std.proofs.lemmas.Bool.{eqb-true, leb-true, ltb-true}
use Rattle.std.proofs.Math.Dec.{eqb}
use Rattle.prolog_lexer.specs.declared.token.Token.{Token}
use Rattle.prolog_lexer.specs.declared.token.TokenKind.{TokenKind}
use Rattle.prolog_lexer.specs.declared.token.TokenKind.TheVariants.{Name, Quoted, Variable, Integer, Codes, Punct, Stop}
use Rattle.prolog_terms.specs.declared.ops.Prefix.{Prefix}
use Rattle.prolog_terms.specs.Operators.{Table, prefix_op}
use Rattle.prolog_reader.specs.Numberings.{Numbering, no_variables, numbered, met}
use Rattle.prolog_reader.specs.declared.rule.Extension.{Extension}
use Rattle.prolog_reader.specs.declared.rule.Extension.TheVariants.{OverTwo, OverOne}
use Rattle.prolog_reader.specs.declared.rule.Mode.TheVariants.{Wants, Has}
use Rattle.prolog_reader.specs.declared.rule.Frame.{Frame}
use Rattle.prolog_reader.specs.declared.rule.Frame.TheVariants.{Arguments, Items, Tail, Paren, Braces, Prefixed, Infixed}
use Rattle.prolog_reader.specs.declared.rule.Fault.{Fault}
use Rattle.prolog_reader.specs.declared.rule.Fault.TheVariants.{TooLarge, Unexpected, Priority, Arity}
use Rattle.prolog_reader.specs.Grammar as g
use Rattle.prolog_reader.specs.Grammar.{State, Found, Step, goes, goes_two, run, rule, at_end, continued, extension, operator_name, made, gathered, cells, is_punct, next_is, calls, negates, value_of, takes_operand, pushed_codes, text_codes, after_step}
use Rattle.prolog_reader.specs.Reads as r
use Rattle.prolog_reader.specs.Reads.{Reads, Primary, Sequence, Chain, Rests, name_of, list_of, code_list}
use Rattle.prolog_reader.proofs.Continues.{ends, argument, item, tail, paren, braces}
use Rattle.std.proofs.lemmas.Bool.{true≢false}
use Rattle.prolog_reader.proofs.Rules.{st, wants, has_rule, one_step, two_step, infix_closes, call_rule, not_call, a_name, applied_rule, paren_rule, list_rule, braces_rule, argument_comma, item_comma, item_bar}
use Rattle.prolog_reader.proofs.Sound.{all_over, reads_rests, reads_runs, primary_runs, sequence_runs, extension_rule}

-- ---- where a rule stops, nothing is found

err_ok : (f : Fault) (x : Found) → ◌≡◌ {A = Result Found Fault} (Err f) (Ok x) → ⊥
err_ok f x e = cc

stop_step : (ops : Table) (s : State) (f : Fault) (t : Token) (rest : List Token) → rule ops s t rest ≡ g.stops f → run ops false s (t ∷ rest) ≡ Err f
stop_step ops s f t rest e = rw e refl

stopped : (ops : Table) (s : State) (f : Fault) (t : Token) (rest : List Token) (x : Found) → rule ops s t rest ≡ g.stops f → run ops false s (t ∷ rest) ≡ Ok x → ⊥
stopped ops s f t rest x r e = err_ok f x (sym (stop_step ops s f t rest r) ∙ e)

refused : (ops : Table) (s : State) (t : Token) (rest : List Token) (x : Found) → rule ops s t rest ≡ g.refusal ops t → run ops false s (t ∷ rest) ≡ Ok x → ⊥
unfolding g.refusal
refused ops s t rest x r e = stopped ops s (cond (g.follows (g.found_of ops (operator_name t.kind))) Priority Unexpected) t rest x r e

wants_end : (ops : Table) (m : ℕ) (fs : List Frame) (base : Trees) (vs : Numbering) (x : Found) → run ops false (st (Wants m) fs base vs) [] ≡ Ok x → ⊥
unfolding at_end
wants_end ops m fs base vs x e = cc

-- ---- what is shown of a run that finds a term

record GotPrimary (ops : Table) (m : ℕ) (ts : List Token) (vs : Numbering) : Type 0 where
  priority : ℕ
  tree : Tree
  left : List Token
  variables : Numbering
  primary : Primary ops m ts vs priority tree left variables
  shorter : length left < length ts

record GotTerm (ops : Table) (m : ℕ) (ts : List Token) (vs : Numbering) : Type 0 where
  priority : ℕ
  tree : Tree
  left : List Token
  variables : Numbering
  reads : Reads ops m ts vs priority tree left variables
  shorter : length left < length ts

record GotChain (ops : Table) (m q : ℕ) (t : Tree) (ts : List Token) (vs : Numbering) : Type 0 where
  priority : ℕ
  tree : Tree
  left : List Token
  variables : Numbering
  chain : Chain ops m ts vs q t priority tree left variables
  rests : Rests ops priority m left
  shorter : length left ≤ length ts

abbrev TermFrom : Table → ℕ → Type 0
TermFrom ops n = (m : ℕ) (fs : List Frame) (base : Trees) (vs : Numbering) (ts : List Token) (x : Found) → length ts ≤ n → run ops false (st (Wants m) fs base vs) ts ≡ Ok x → GotTerm ops m ts vs

abbrev ChainFrom : Table → ℕ → Type 0
ChainFrom ops n = (m q : ℕ) (t : Tree) (fs : List Frame) (base : Trees) (vs : Numbering) (ts : List Token) (x : Found) → length ts ≤ n → run ops false (st (Has q m) fs (more t base) vs) ts ≡ Ok x → GotChain ops m q t ts vs

-- ---- operators after a term

chain_step : (ops : Table) (n : ℕ) → TermFrom ops n → ChainFrom ops n → ChainFrom ops (suc n)
chain_step ops n terms chains m q t fs base vs [] x h e = record { priority = q; tree = t; left = []; variables = vs; chain = r.stays; rests = tt; shorter = omega arith }
chain_step ops n terms chains m q t fs base vs (a ∷ ts) x h e = by (extension ops (operator_name a.kind) q m) refl
  where
    low : length ts ≤ n
    low = omega arith

    by : (y : Option Extension) → extension ops (operator_name a.kind) q m ≡ y → GotChain ops m q t (a ∷ ts) vs
    by None k = record { priority = q; tree = t; left = a ∷ ts; variables = vs; chain = r.stays; rests = k; shorter = omega arith }
    by (Some (OverTwo f p right)) k =
        let e1 : run ops false (st (Wants right) (Infixed f p m ∷ fs) (more t base) vs) ts ≡ Ok x =
        sym (one_step ops (st (Has q m) fs (more t base) vs) (st (Wants right) (Infixed f p m ∷ fs) (more t base) vs) a ts (extension_rule ops q m fs (more t base) vs a ts (OverTwo f p right) k)) ∙ e in
        let d = terms right (Infixed f p m ∷ fs) (more t base) vs ts x low e1 in
        let e2 : run ops false (st (Has p m) fs (more (compound f (more t (more d.tree none))) base) d.variables) d.left ≡ Ok x =
        sym (reads_runs d.reads (Infixed f p m ∷ fs) (more t base) ∙ infix_closes ops fs base d.priority m p right f t d.tree d.variables d.left (reads_rests d.reads)) ∙ e1 in
        let under : length d.left ≤ n = omega (arith, d.shorter) in
        let c = chains m p (compound f (more t (more d.tree none))) fs base d.variables d.left x under e2 in
        record {
          priority = c.priority;
          tree = c.tree;
          left = c.left;
          variables = c.variables;
          chain = r.over_two a f p right k d.reads c.chain;
          rests = c.rests;
          shorter = omega (arith, d.shorter, c.shorter);
        }
    by (Some (OverOne f p)) k =
        let e1 : run ops false (st (Has p m) fs (more (compound f (more t none)) base) vs) ts ≡ Ok x =
        sym (one_step ops (st (Has q m) fs (more t base) vs) (st (Has p m) fs (more (compound f (more t none)) base) vs) a ts (extension_rule ops q m fs (more t base) vs a ts (OverOne f p) k)) ∙ e in
        let c = chains m p (compound f (more t none)) fs base vs ts x low e1 in
        record {
          priority = c.priority;
          tree = c.tree;
          left = c.left;
          variables = c.variables;
          chain = r.over_one a f p k c.chain;
          rests = c.rests;
          shorter = omega (arith, c.shorter);
        }

-- ---- the token that closes what is open

record Closed (p : ℕ) (us : List Token) : Type 0 where
  close : Token
  rest : List Token
  is : us ≡ close ∷ rest
  fits : is_punct p close.kind ≡ true

module _ (ops : Table) (q n : ℕ) (fs : List Frame) (base : Trees) (vs : Numbering) (f : Frame) (p : ℕ)
    (ends : at_end (st (Has q n) (f ∷ fs) base vs) ≡ Err Unexpected)
    (takes : (c : Token) (rest : List Token) → extension ops (operator_name c.kind) q n ≡ None → is_punct p c.kind ≡ false → rule ops (st (Has q n) (f ∷ fs) base vs) c rest ≡ g.refusal ops c) where
  closed : (us : List Token) (x : Found) → Rests ops q n us → run ops false (st (Has q n) (f ∷ fs) base vs) us ≡ Ok x → Closed p us
  closed [] x h e = absurd (err_ok Unexpected x (sym ends ∙ e))
  closed (c ∷ rest) x h e = by (is_punct p c.kind) refl
    where
      by : (b : Bool) → is_punct p c.kind ≡ b → Closed p (c ∷ rest)
      by true k = record { close = c; rest = rest; is = refl; fits = k }
      by false k = absurd (refused ops (st (Has q n) (f ∷ fs) base vs) c rest x (takes c rest h k) e)

module _ (ops : Table) (q n : ℕ) (fs : List Frame) (base : Trees) (vs : Numbering) (m : ℕ) where
  paren_closed : (us : List Token) (x : Found) → Rests ops q n us → run ops false (st (Has q n) (Paren m ∷ fs) base vs) us ≡ Ok x → Closed 41 us
  unfolding at_end
  paren_closed = closed ops q n fs base vs (Paren m) 41 refl
      (λ c rest stays no. has_rule ops q n (Paren m ∷ fs) base vs c rest ∙ paren ops q n base vs c stays (Paren m ∷ fs) fs m refl ∙ rw no refl)

  braces_closed : (us : List Token) (x : Found) → Rests ops q n us → run ops false (st (Has q n) (Braces m ∷ fs) base vs) us ≡ Ok x → Closed 125 us
  unfolding at_end
  braces_closed = closed ops q n fs base vs (Braces m) 125 refl
      (λ c rest stays no. has_rule ops q n (Braces m ∷ fs) base vs c rest ∙ braces ops q n base vs c stays (Braces m ∷ fs) fs m refl ∙ rw no refl)

  tail_closed : (k : ℕ) (us : List Token) (x : Found) → Rests ops q n us → run ops false (st (Has q n) (Tail k m ∷ fs) base vs) us ≡ Ok x → Closed 93 us
  unfolding at_end
  tail_closed k = closed ops q n fs base vs (Tail k m) 93 refl
      (λ c rest stays no. has_rule ops q n (Tail k m ∷ fs) base vs c rest ∙ tail ops q n base vs c stays (Tail k m ∷ fs) fs k m refl ∙ rw no refl)

-- ---- terms between commas

record Comma (ops : Table) (fs : List Frame) (frame : ℕ → Frame) (Room : ℕ → Type 0) (k : ℕ) (base : Trees) (vs : Numbering) (c : Token) (rest : List Token) (x : Found) : Type 0 where
  comma : is_punct 44 c.kind ≡ true
  room : Room (k + 1)
  runs : run ops false (st (Wants 999) (frame (k + 1) ∷ fs) base vs) rest ≡ Ok x

abbrev Takes : Table → List Frame → (ℕ → Frame) → (ℕ → Type 0) → (Token → Type 0) → Type 0
Takes ops fs frame Room Closes = (k q : ℕ) (base : Trees) (vs : Numbering) (c : Token) (rest : List Token) (x : Found) → Room k → extension ops (operator_name c.kind) q 999 ≡ None
    → run ops false (st (Has q 999) (frame k ∷ fs) base vs) (c ∷ rest) ≡ Ok x → Comma ops fs frame Room k base vs c rest x ⊎ Closes c

abbrev NeverEnds : Table → List Frame → (ℕ → Frame) → Type 0
NeverEnds ops fs frame = (k q : ℕ) (base : Trees) (vs : Numbering) (x : Found) → run ops false (st (Has q 999) (frame k ∷ fs) base vs) [] ≡ Ok x → ⊥

record GotSequence (ops : Table) (Room : ℕ → Type 0) (Closes : Token → Type 0) (k : ℕ) (ts : List Token) (vs : Numbering) : Type 0 where
  items : Trees
  close : Token
  left : List Token
  variables : Numbering
  before : ℕ
  sequence : Sequence ops ts vs items (close ∷ left) variables
  closes : Closes close
  counts : before + 1 ≡ k + count items
  room : Room before
  shorter : length left < length ts

module _ (ops : Table) (fs : List Frame) (frame : ℕ → Frame) (Room : ℕ → Type 0) (Closes : Token → Type 0) (takes : Takes ops fs frame Room Closes) (never : NeverEnds ops fs frame) where
  next_item : (k q : ℕ) (t : Tree) (base : Trees) (vs ws : Numbering) (ts us : List Token) (x : Found) → Reads ops 999 ts vs q t us ws → length us < length ts → Room k
      → run ops false (st (Has q 999) (frame k ∷ fs) (more t base) ws) us ≡ Ok x
      → ((rest : List Token) → length rest < length us → Room (k + 1) → run ops false (st (Wants 999) (frame (k + 1) ∷ fs) (more t base) ws) rest ≡ Ok x → GotSequence ops Room Closes (k + 1) rest ws)
      → GotSequence ops Room Closes k ts vs
  next_item k q t base vs ws ts [] x d short room e further = absurd (never k q (more t base) ws x e)
  next_item k q t base vs ws ts (c ∷ rest) x d short room e further = by (takes k q (more t base) ws c rest x room (reads_rests d) e)
    where
      by : Comma ops fs frame Room k (more t base) ws c rest x ⊎ Closes c → GotSequence ops Room Closes k ts vs
      by (inl m) =
          let s = further rest (omega arith) m.room m.runs in
          record {
            items = more t s.items;
            close = s.close;
            left = s.left;
            variables = s.variables;
            before = s.before;
            sequence = r.further c d m.comma s.sequence;
            closes = s.closes;
            counts = omega (arith, s.counts);
            room = s.room;
            shorter = omega (arith, s.shorter);
          }
      by (inr closes) =
          record {
            items = more t none;
            close = c;
            left = rest;
            variables = ws;
            before = k;
            sequence = r.last d;
            closes = closes;
            counts = omega arith;
            room = room;
            shorter = omega arith;
          }

  sequence_from : (n : ℕ) → TermFrom ops n → (j k : ℕ) (base : Trees) (vs : Numbering) (ts : List Token) (x : Found) → length ts ≤ j → j ≤ n → Room k
      → run ops false (st (Wants 999) (frame k ∷ fs) base vs) ts ≡ Ok x → GotSequence ops Room Closes k ts vs
  sequence_from n terms zero k base vs ts x h low room e =
      let under : length ts ≤ n = omega arith in
      let d = terms 999 (frame k ∷ fs) base vs ts x under e in absurd (omega (arith, d.shorter))
  sequence_from n terms (suc j) k base vs ts x h low room e =
      let under : length ts ≤ n = omega arith in
      let d = terms 999 (frame k ∷ fs) base vs ts x under e in
      let below : j ≤ n = omega arith in
      next_item k d.priority d.tree base vs d.variables ts d.left x d.reads d.shorter room (sym (reads_runs d.reads (frame k ∷ fs) base) ∙ e)
      (λ rest short more_room runs. sequence_from n terms j (k + 1) (more d.tree base) d.variables rest x (omega (arith, d.shorter, short)) below more_room runs)

-- ---- arguments and items

module _ (ops : Table) (fs : List Frame) (m : ℕ) where
  module _ (f : List ℕ) where
    abbrev HasRoom : ℕ → Type 0
    HasRoom k = k ≤ 254

    abbrev IsParen : Token → Type 0
    IsParen c = is_punct 41 c.kind ≡ true

    arguments_never : NeverEnds ops fs (λ k. Arguments f k m)
    unfolding at_end
    arguments_never k q base vs x e = cc

    arguments_take : Takes ops fs (λ k. Arguments f k m) HasRoom IsParen
    arguments_take k q base vs c rest x room stays e = by (is_punct 44 c.kind) (is_punct 41 c.kind) (nat_lt k 254) refl refl refl
      where
        s : State
        s = st (Has q 999) (Arguments f k m ∷ fs) base vs

        at_rule : rule ops s c rest ≡ g.taken ops (Arguments f k m) fs base vs c
        at_rule = has_rule ops q 999 (Arguments f k m ∷ fs) base vs c rest ∙ argument ops q 999 base vs c stays (Arguments f k m ∷ fs) fs f k m refl

        by : (i j l : Bool) → is_punct 44 c.kind ≡ i → is_punct 41 c.kind ≡ j → nat_lt k 254 ≡ l → Comma ops fs (λ k. Arguments f k m) HasRoom k base vs c rest x ⊎ IsParen c
        by true j true p q1 l =
            let room2 : k + 1 ≤ 254 = grind (arith, nat_tests) in
            inl (record {
              comma = p;
              room = room2;
              runs = sym (one_step ops s (st (Wants 999) (Arguments f (k + 1) m ∷ fs) base vs) c rest (argument_comma ops q fs base vs c rest stays f k m l p)) ∙ e;
            })
        by true j false p q1 l = absurd (stopped ops s Arity c rest x (at_rule ∙ rw (p, l) refl) e)
        by false true l p q1 k1 = inr q1
        by false false l p q1 k1 = absurd (refused ops s c rest x (at_rule ∙ rw (p, q1) refl) e)

  abbrev AnyRoom : ℕ → Type 0
  AnyRoom k = Unit {0}

  abbrev EndsItems : Token → Type 0
  EndsItems c = (is_punct 93 c.kind ≡ true) ⊎ (is_punct 124 c.kind ≡ true)

  items_never : NeverEnds ops fs (λ k. Items k m)
  unfolding at_end
  items_never k q base vs x e = cc

  items_take : Takes ops fs (λ k. Items k m) AnyRoom EndsItems
  items_take k q base vs c rest x room stays e = by (is_punct 44 c.kind) (is_punct 124 c.kind) (is_punct 93 c.kind) refl refl refl
    where
      s : State
      s = st (Has q 999) (Items k m ∷ fs) base vs

      at_rule : rule ops s c rest ≡ g.taken ops (Items k m) fs base vs c
      at_rule = has_rule ops q 999 (Items k m ∷ fs) base vs c rest ∙ item ops q 999 base vs c stays (Items k m ∷ fs) fs k m refl

      by : (i j l : Bool) → is_punct 44 c.kind ≡ i → is_punct 124 c.kind ≡ j → is_punct 93 c.kind ≡ l → Comma ops fs (λ k. Items k m) AnyRoom k base vs c rest x ⊎ EndsItems c
      by true j l p q1 k1 =
          inl (record { comma = p; room = tt; runs = sym (one_step ops s (st (Wants 999) (Items (k + 1) m ∷ fs) base vs) c rest (item_comma ops q fs base vs c rest stays k m p)) ∙ e })
      by false true l p q1 k1 = inr (inr q1)
      by false false true p q1 k1 = inr (inl k1)
      by false false false p q1 k1 = absurd (refused ops s c rest x (at_rule ∙ rw (p, q1, k1) refl) e)

-- ---- primaries

module _ (ops : Table) (n : ℕ) (terms : TermFrom ops n) (m : ℕ) (fs : List Frame) (base : Trees) (vs : Numbering) (a : Token) (x : Found) where
  abbrev s : State
  s = st (Wants m) fs base vs

  call_case : (f : List ℕ) (ts : List Token) → length ts ≤ n → run ops false s (a ∷ ts) ≡ Ok x → name_of a.kind ≡ Some f → calls a ts ≡ true → GotPrimary ops m (a ∷ ts) vs
  call_case f [] h e p c = absurd (true≢false (sym c))
  call_case f (b ∷ ts) h e p c =
      let e1 : run ops false (st (Wants 999) (Arguments f 0 m ∷ fs) base vs) ts ≡ Ok x =
      sym (two_step ops s (st (Wants 999) (Arguments f 0 m ∷ fs) base vs) a b ts (call_rule ops m fs base vs a (b ∷ ts) f p c)) ∙ e in
      let q = sequence_from ops fs (λ k. Arguments f k m) (HasRoom ops fs m f) (IsParen ops fs m f) (arguments_take ops fs m f) (arguments_never ops fs m f) n terms n 0 base vs ts x (omega arith) (omega arith) (omega arith) e1 in
      let few : count q.items ≤ 255 = omega (arith, q.counts, q.room) in
      record {
        priority = 0;
        tree = compound f q.items;
        left = q.left;
        variables = q.variables;
        primary = r.call a b q.close f p c q.sequence q.closes few;
        shorter = omega (arith, q.shorter);
      }

  negative_stops : (f : List ℕ) (ts : List Token) → name_of a.kind ≡ Some f → calls a ts ≡ false → negates a ts ≡ true → nat_le (g.next_value ts) 0x8000_0000_0000_0000 ≡ false → rule ops s a ts ≡ g.stops TooLarge
  negative_stops f ts p c k l = a_name ops m fs base vs a ts f p ∙ not_call ops m fs base vs a ts f c ∙ rw (k, l) refl

  negative_case : (f : List ℕ) (ts : List Token) → run ops false s (a ∷ ts) ≡ Ok x → name_of a.kind ≡ Some f → calls a ts ≡ false → negates a ts ≡ true → GotPrimary ops m (a ∷ ts) vs
  negative_case f [] e p c k = absurd (true≢false (sym k))
  negative_case f (b ∷ ts) e p c k = by (nat_le (value_of b.kind) 0x8000_0000_0000_0000) refl
    where
      by : (l : Bool) → nat_le (value_of b.kind) 0x8000_0000_0000_0000 ≡ l → GotPrimary ops m (a ∷ b ∷ ts) vs
      by true l =
          let few : value_of b.kind ≤ 0x8000_0000_0000_0000 = leb-true _ _ l in
          record {
            priority = 0;
            tree = integer (pos 0 -ℤ pos (value_of b.kind));
            left = ts;
            variables = vs;
            primary = r.negative a b f p c k few;
            shorter = omega arith;
          }
      by false l = absurd (stopped ops s TooLarge a (b ∷ ts) x (negative_stops f (b ∷ ts) p c k l) e)

  plain_case : (f : List ℕ) (ts : List Token) → name_of a.kind ≡ Some f → calls a ts ≡ false → negates a ts ≡ false → (prefix_op ops f ≡ None) ⊎ (takes_operand ops ts ≡ false) → GotPrimary ops m (a ∷ ts) vs
  plain_case f ts p c k o =
      record { priority = 0; tree = atom f; left = ts; variables = vs; primary = r.plain a f p c k o; shorter = omega arith }

  applied_stops : (f : List ℕ) (ts : List Token) (b : Prefix) → name_of a.kind ≡ Some f → calls a ts ≡ false → negates a ts ≡ false → prefix_op ops f ≡ Some b → takes_operand ops ts ≡ true
      → nat_le b.priority m ≡ false → rule ops s a ts ≡ g.stops Priority
  applied_stops f ts b p c k o w l = a_name ops m fs base vs a ts f p ∙ not_call ops m fs base vs a ts f c ∙ rw (k, o, w, l) refl

  applied_case : (f : List ℕ) (ts : List Token) (b : Prefix) → length ts ≤ n → run ops false s (a ∷ ts) ≡ Ok x → name_of a.kind ≡ Some f → calls a ts ≡ false → negates a ts ≡ false
      → prefix_op ops f ≡ Some b → takes_operand ops ts ≡ true → GotPrimary ops m (a ∷ ts) vs
  applied_case f ts b h e p c k o w = by (nat_le b.priority m) refl
    where
      by : (l : Bool) → nat_le b.priority m ≡ l → GotPrimary ops m (a ∷ ts) vs
      by true l =
          let low : b.priority ≤ m = leb-true _ _ l in
          let e1 : run ops false (st (Wants b.operand) (Prefixed f b.priority m ∷ fs) base vs) ts ≡ Ok x =
          sym (one_step ops s (st (Wants b.operand) (Prefixed f b.priority m ∷ fs) base vs) a ts (applied_rule ops m fs base vs a ts f b p c k o w l)) ∙ e in
          let d = terms b.operand (Prefixed f b.priority m ∷ fs) base vs ts x h e1 in
          record {
            priority = b.priority;
            tree = compound f (more d.tree none);
            left = d.left;
            variables = d.variables;
            primary = r.applied a f b p c k o w low d.reads;
            shorter = omega (arith, d.shorter);
          }
      by false l = absurd (stopped ops s Priority a ts x (applied_stops f ts b p c k o w l) e)

  named_case : (f : List ℕ) (ts : List Token) → length ts ≤ n → run ops false s (a ∷ ts) ≡ Ok x → name_of a.kind ≡ Some f → GotPrimary ops m (a ∷ ts) vs
  named_case f ts h e p = by (calls a ts) (negates a ts) (prefix_op ops f) (takes_operand ops ts) refl refl refl refl
    where
      by : (c k : Bool) (o : Option Prefix) (w : Bool) → calls a ts ≡ c → negates a ts ≡ k → prefix_op ops f ≡ o → takes_operand ops ts ≡ w → GotPrimary ops m (a ∷ ts) vs
      by true k o w c1 k1 o1 w1 = call_case f ts h e p c1
      by false true o w c1 k1 o1 w1 = negative_case f ts e p c1 k1
      by false false None w c1 k1 o1 w1 = plain_case f ts p c1 k1 (inl o1)
      by false false (Some b) false c1 k1 o1 w1 = plain_case f ts p c1 k1 (inr w1)
      by false false (Some b) true c1 k1 o1 w1 = applied_case f ts b h e p c1 k1 o1 w1

  number_stops : (i : ℕ) (ts : List Token) → a.kind ≡ Integer i → nat_lt i 0x8000_0000_0000_0000 ≡ false → rule ops s a ts ≡ g.stops TooLarge
  unfolding g.primary
  number_stops i ts p l = wants ops m fs base vs a ts (Integer i) p ∙ rw l refl

  number_case : (i : ℕ) (ts : List Token) → run ops false s (a ∷ ts) ≡ Ok x → a.kind ≡ Integer i → GotPrimary ops m (a ∷ ts) vs
  number_case i ts e p = by (nat_lt i 0x8000_0000_0000_0000) refl
    where
      by : (l : Bool) → nat_lt i 0x8000_0000_0000_0000 ≡ l → GotPrimary ops m (a ∷ ts) vs
      by true l =
          let few : i < 0x8000_0000_0000_0000 = ltb-true _ _ l in
          record { priority = 0; tree = integer (pos i); left = ts; variables = vs; primary = r.number a i p few; shorter = omega arith }
      by false l = absurd (stopped ops s TooLarge a ts x (number_stops i ts p l) e)

  paren_case : (ts : List Token) → length ts ≤ n → run ops false s (a ∷ ts) ≡ Ok x → a.kind ≡ Punct 40 → GotPrimary ops m (a ∷ ts) vs
  paren_case ts h e p =
      let e1 : run ops false (st (Wants 1200) (Paren m ∷ fs) base vs) ts ≡ Ok x = sym (one_step ops s (st (Wants 1200) (Paren m ∷ fs) base vs) a ts (paren_rule ops m fs base vs a ts p)) ∙ e in
      let d = terms 1200 (Paren m ∷ fs) base vs ts x h e1 in
      let c = paren_closed ops d.priority 1200 fs (more d.tree base) d.variables m d.left x (reads_rests d.reads) (sym (reads_runs d.reads (Paren m ∷ fs) base) ∙ e1) in
      let l : length d.left ≡ length (c.close ∷ c.rest) = ap length c.is in
      record {
        priority = 0;
        tree = d.tree;
        left = c.rest;
        variables = d.variables;
        primary = r.paren a c.close p (subst (λ us. Reads ops 1200 ts vs d.priority d.tree us d.variables) c.is d.reads) c.fits;
        shorter = omega (arith, d.shorter, l);
      }

  braces_case : (ts : List Token) → length ts ≤ n → run ops false s (a ∷ ts) ≡ Ok x → a.kind ≡ Punct 123 → next_is 125 ts ≡ false → GotPrimary ops m (a ∷ ts) vs
  braces_case ts h e p k =
      let e1 : run ops false (st (Wants 1200) (Braces m ∷ fs) base vs) ts ≡ Ok x = sym (one_step ops s (st (Wants 1200) (Braces m ∷ fs) base vs) a ts (braces_rule ops m fs base vs a ts p k)) ∙ e in
      let d = terms 1200 (Braces m ∷ fs) base vs ts x h e1 in
      let c = braces_closed ops d.priority 1200 fs (more d.tree base) d.variables m d.left x (reads_rests d.reads) (sym (reads_runs d.reads (Braces m ∷ fs) base) ∙ e1) in
      let l : length d.left ≡ length (c.close ∷ c.rest) = ap length c.is in
      record {
        priority = 0;
        tree = compound (codes "{}") (more d.tree none);
        left = c.rest;
        variables = d.variables;
        primary = r.braces a c.close p k (subst (λ us. Reads ops 1200 ts vs d.priority d.tree us d.variables) c.is d.reads) c.fits;
        shorter = omega (arith, d.shorter, l);
      }

  empty_list_case : (ts : List Token) → a.kind ≡ Punct 91 → next_is 93 ts ≡ true → GotPrimary ops m (a ∷ ts) vs
  empty_list_case [] p k = absurd (true≢false (sym k))
  empty_list_case (b ∷ ts) p k = record { priority = 0; tree = atom (codes "[]"); left = ts; variables = vs; primary = r.empty_list a b p k; shorter = omega arith }

  empty_braces_case : (ts : List Token) → a.kind ≡ Punct 123 → next_is 125 ts ≡ true → GotPrimary ops m (a ∷ ts) vs
  empty_braces_case [] p k = absurd (true≢false (sym k))
  empty_braces_case (b ∷ ts) p k = record { priority = 0; tree = atom (codes "{}"); left = ts; variables = vs; primary = r.empty_braces a b p k; shorter = omega arith }

  tail_case : (ts us : List Token) (ws : Numbering) (items : Trees) (b : Token) → length ts ≤ n → length us < length ts → run ops false (st (Wants 999) (Items 0 m ∷ fs) base vs) ts ≡ Ok x
      → a.kind ≡ Punct 91 → next_is 93 ts ≡ false → Sequence ops ts vs items (b ∷ us) ws → is_punct 124 b.kind ≡ true → GotPrimary ops m (a ∷ ts) vs
  tail_case ts us ws items b h short e p k q bar =
      let i = sequence_runs q fs (λ k. Items k m) (count items) (λ q k base vs c rest low stays comma. item_comma ops q fs base vs c rest stays k m comma) 0 base (omega arith) in
      let e1 : run ops false (st (Wants 999) (Tail (i.before + 1) m ∷ fs) (all_over items base) ws) us ≡ Ok x =
      sym (i.runs ∙ one_step ops (st (Has i.priority 999) (Items i.before m ∷ fs) (all_over items base) ws) (st (Wants 999) (Tail (i.before + 1) m ∷ fs) (all_over items base) ws) b us
      (item_bar ops i.priority fs (all_over items base) ws b us i.stays i.before m bar)) ∙ e in
      let under : length us ≤ n = omega arith in
      let d = terms 999 (Tail (i.before + 1) m ∷ fs) (all_over items base) ws us x under e1 in
      let c = tail_closed ops d.priority 999 fs (more d.tree (all_over items base)) d.variables m (i.before + 1) d.left x (reads_rests d.reads) (sym (reads_runs d.reads (Tail (i.before + 1) m ∷ fs) (all_over items base)) ∙ e1) in
      let l : length d.left ≡ length (c.close ∷ c.rest) = ap length c.is in
      record {
        priority = 0;
        tree = list_of items d.tree;
        left = c.rest;
        variables = d.variables;
        primary = r.list_with_tail a b c.close p k q bar (subst (λ us1. Reads ops 999 us ws d.priority d.tree us1 d.variables) c.is d.reads) c.fits;
        shorter = omega (arith, d.shorter, l);
      }

  list_case : (ts : List Token) → length ts ≤ n → run ops false s (a ∷ ts) ≡ Ok x → a.kind ≡ Punct 91 → next_is 93 ts ≡ false → GotPrimary ops m (a ∷ ts) vs
  list_case ts h e p k =
      let e1 : run ops false (st (Wants 999) (Items 0 m ∷ fs) base vs) ts ≡ Ok x = sym (one_step ops s (st (Wants 999) (Items 0 m ∷ fs) base vs) a ts (list_rule ops m fs base vs a ts p k)) ∙ e in
      let q = sequence_from ops fs (λ k. Items k m) (AnyRoom ops fs m) (EndsItems ops fs m) (items_take ops fs m) (items_never ops fs m) n terms n 0 base vs ts x h (omega arith) tt e1 in
      by e1 q q.closes
    where
      by : run ops false (st (Wants 999) (Items 0 m ∷ fs) base vs) ts ≡ Ok x → (q : GotSequence ops (AnyRoom ops fs m) (EndsItems ops fs m) 0 ts vs) → EndsItems ops fs m q.close → GotPrimary ops m (a ∷ ts) vs
      by e1 q (inl close) =
          record {
            priority = 0;
            tree = list_of q.items (atom (codes "[]"));
            left = q.left;
            variables = q.variables;
            primary = r.list a q.close p k q.sequence close;
            shorter = omega (arith, q.shorter);
          }
      by e1 q (inr bar) = tail_case ts q.left q.variables q.items q.close h q.shorter e1 p k q.sequence bar

  bracket_stops : (b : ℕ) (ts : List Token) → a.kind ≡ Punct b → eqb b 40 ≡ false → eqb b 91 ≡ false → eqb b 123 ≡ false → rule ops s a ts ≡ g.stops Unexpected
  unfolding g.primary g.bracket
  bracket_stops b ts p i j k = wants ops m fs base vs a ts (Punct b) p ∙ rw (i, j, k) refl

  bracket_case : (b : ℕ) (ts : List Token) → length ts ≤ n → run ops false s (a ∷ ts) ≡ Ok x → a.kind ≡ Punct b → GotPrimary ops m (a ∷ ts) vs
  bracket_case b ts h e p = by (eqb b 40) (eqb b 91) (eqb b 123) (next_is 93 ts) (next_is 125 ts) refl refl refl refl refl
    where
      by : (i j k l o : Bool) → eqb b 40 ≡ i → eqb b 91 ≡ j → eqb b 123 ≡ k → next_is 93 ts ≡ l → next_is 125 ts ≡ o → GotPrimary ops m (a ∷ ts) vs
      by true j k l o i1 j1 k1 l1 o1 = paren_case ts h e (p ∙ ap Punct (eqb-true b 40 i1))
      by false true k true o i1 j1 k1 l1 o1 = empty_list_case ts (p ∙ ap Punct (eqb-true b 91 j1)) l1
      by false true k false o i1 j1 k1 l1 o1 = list_case ts h e (p ∙ ap Punct (eqb-true b 91 j1)) l1
      by false false true l true i1 j1 k1 l1 o1 = empty_braces_case ts (p ∙ ap Punct (eqb-true b 123 k1)) o1
      by false false true l false i1 j1 k1 l1 o1 = braces_case ts h e (p ∙ ap Punct (eqb-true b 123 k1)) o1
      by false false false l o i1 j1 k1 l1 o1 = absurd (stopped ops s Unexpected a ts x (bracket_stops b ts p i1 j1 k1) e)

  stop_stops : (ts : List Token) → a.kind ≡ Stop → rule ops s a ts ≡ g.stops Unexpected
  unfolding g.primary
  stop_stops ts p = wants ops m fs base vs a ts Stop p

  primary_case : (ts : List Token) → length ts ≤ n → run ops false s (a ∷ ts) ≡ Ok x → (k : TokenKind) → a.kind ≡ k → GotPrimary ops m (a ∷ ts) vs
  primary_case ts h e (Name f) p = named_case f ts h e (ap name_of p)
  primary_case ts h e (Quoted f) p = named_case f ts h e (ap name_of p)
  primary_case ts h e (Variable v) p = record { priority = 0; tree = variable (numbered v vs); left = ts; variables = met v vs; primary = r.named a v p; shorter = omega arith }
  primary_case ts h e (Integer i) p = number_case i ts e p
  primary_case ts h e (Codes bs) p = record { priority = 0; tree = code_list bs; left = ts; variables = vs; primary = r.text a bs p; shorter = omega arith }
  primary_case ts h e (Punct b) p = bracket_case b ts h e p
  primary_case ts h e Stop p = absurd (stopped ops s Unexpected a ts x (stop_stops ts p) e)

-- ---- whole terms

term_step : (ops : Table) (n : ℕ) → TermFrom ops n → ChainFrom ops n → TermFrom ops (suc n)
term_step ops n terms chains m fs base vs [] x h e = absurd (wants_end ops m fs base vs x e)
term_step ops n terms chains m fs base vs (a ∷ ts) x h e =
    let low : length ts ≤ n = omega arith in
    let d = primary_case ops n terms m fs base vs a x ts low e a.kind refl in
    let under : length d.left ≤ n = omega (arith, d.shorter) in
    let c = chains m d.priority d.tree fs base d.variables d.left x under (sym (primary_runs d.primary fs base) ∙ e) in
    record {
      priority = c.priority;
      tree = c.tree;
      left = c.left;
      variables = c.variables;
      reads = r.term d.primary c.chain c.rests;
      shorter = omega (arith, d.shorter, c.shorter);
    }

record Both (ops : Table) (n : ℕ) : Type 0 where
  terms : TermFrom ops n
  chains : ChainFrom ops n

no_terms : (ops : Table) → TermFrom ops 0
no_terms ops m fs base vs [] x h e = absurd (wants_end ops m fs base vs x e)
no_terms ops m fs base vs (a ∷ ts) x h e = absurd (omega arith)

no_chains : (ops : Table) → ChainFrom ops 0
no_chains ops m q t fs base vs [] x h e = record { priority = q; tree = t; left = []; variables = vs; chain = r.stays; rests = tt; shorter = omega arith }
no_chains ops m q t fs base vs (a ∷ ts) x h e = absurd (omega arith)

both : (ops : Table) (n : ℕ) → Both ops n
both ops zero = record { terms = no_terms ops; chains = no_chains ops }
both ops (suc n) =
    let b = both ops n in
    record { terms = term_step ops n b.terms b.chains; chains = chain_step ops n b.terms b.chains }

at_last : (ops : Table) (q : ℕ) (t : Tree) (ws : Numbering) (x : Found) → run ops false (st (Has q 1200) [] (more t none) ws) [] ≡ Ok x → x ≡ record { terms = more t none; variables = ws }
unfolding at_end
at_last ops q t ws x e = cc

record NoneLeft (t : Tree) (ws : Numbering) (us : List Token) (x : Found) : Type 0 where
  none_left : us ≡ []
  found : x ≡ record { terms = more t none; variables = ws }

nothing_left : (ops : Table) (q : ℕ) (t : Tree) (ws : Numbering) (us : List Token) (x : Found) → Rests ops q 1200 us → run ops false (st (Has q 1200) [] (more t none) ws) us ≡ Ok x → NoneLeft t ws us x
nothing_left ops q t ws [] x h e = record { none_left = refl; found = at_last ops q t ws x e }
nothing_left ops q t ws (c ∷ us) x h e =
    absurd (refused ops (st (Has q 1200) [] (more t none) ws) c us x (has_rule ops q 1200 [] (more t none) ws c us ∙ ends ops q 1200 (more t none) ws c h [] refl) e)

-- What read gives reads as a term by the cases.
pub read_has : (ops : Table) (ts : List Token) (x : Found) → g.read ops ts ≡ Ok x → (q : ℕ) × (t : Tree) × Reads ops 1200 ts no_variables q t [] x.variables × (x.terms ≡ more t none)
read_has ops ts x e =
    let d = (both ops (length ts)).terms 1200 [] none no_variables ts x (omega arith) e in
    let n = nothing_left ops d.priority d.tree d.variables d.left x (reads_rests d.reads) (sym (reads_runs d.reads [] none) ∙ e) in
    let vs : x.variables ≡ d.variables = ap (λ (z : Found). z.variables) n.found in (
      d.priority,
      d.tree,
      subst (λ ws. Reads ops 1200 ts no_variables d.priority d.tree [] ws) (sym vs) (subst (λ us. Reads ops 1200 ts no_variables d.priority d.tree us d.variables) n.none_left d.reads),
      ap (λ (z : Found). z.terms) n.found,
    )
