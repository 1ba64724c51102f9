-- Where tokens stop being read, the rules stop, and with the same fault.
use Rattle.std.proofs.Common.{◌≡◌, ℕ, ◌+◌, ◌<◌, ◌≤◌, List, [], ◌∷◌, refl, sym, ◌∙◌, arith, true, false, Bool, Result, Err, nat_le, nat_lt, None, Some}
use Rattle.std.specs.Prelude.{◌||◌}
use Rattle.std.proofs.lemmas.Bool.Decides.{nat_tests}
use Rattle.std.proofs.Math.Dec.{eqb}
use Rattle.prolog_terms.specs.Tree.{Trees, none, more, count}
use Rattle.prolog_lexer.specs.declared.token.Token.{Token}
use Rattle.prolog_lexer.specs.declared.token.TokenKind.{TokenKind}
use Rattle.prolog_lexer.specs.declared.token.TokenKind.TheVariants.{Name, Quoted, Variable, Integer, Codes, Punct, Stop}
use Rattle.prolog_terms.specs.declared.ops.Prefix.{Prefix}
use Rattle.prolog_terms.specs.Operators.{Table, prefix_op}
use Rattle.prolog_reader.specs.Numberings.{Numbering}
use Rattle.prolog_reader.specs.declared.rule.Extension.TheVariants.{OverTwo}
use Rattle.prolog_reader.specs.declared.rule.Mode.TheVariants.{Wants, Has}
use Rattle.prolog_reader.specs.declared.rule.Frame.{Frame}
use Rattle.prolog_reader.specs.declared.rule.Frame.TheVariants.{Arguments, Items, Tail, Paren, Braces, Prefixed, Infixed}
use Rattle.prolog_reader.specs.declared.rule.Fault.{Fault}
use Rattle.prolog_reader.specs.declared.rule.Fault.TheVariants.{TooLarge, Unexpected, Priority, Arity}
use Rattle.prolog_reader.specs.Grammar as g
use Rattle.prolog_reader.specs.Grammar.{State, Found, goes, run, rule, at_end, extension, operator_name, is_punct, next_is, calls, negates, takes_operand}
use Rattle.prolog_reader.specs.Reads.{Rests, name_of}
use Rattle.prolog_reader.specs.Stops as s
use Rattle.prolog_reader.specs.Stops.{Stops, PrimaryStops, Unclosed, SequenceStops, StopsAt, begins_term, fault_behind, Between, next_ends, is_full}
use Rattle.prolog_reader.proofs.Continues.{ends, argument, item, tail, paren, braces}
use Rattle.prolog_reader.proofs.Rules.{st, wants, has_rule, one_step, two_step, call_rule, not_call, a_name, applied_rule, paren_rule, list_rule, braces_rule, argument_comma, item_comma, item_bar}
use Rattle.prolog_reader.proofs.Sound.{all_over, reads_rests, reads_runs, primary_runs, chain_runs, sequence_runs, extension_rule, le-test}

-- ---- a rule that stops

stop_step : (ops : Table) (u : State) (f : Fault) (t : Token) (rest : List Token) → rule ops u t rest ≡ g.stops f → run ops false u (t ∷ rest) ≡ Err f
stop_step ops u f t rest e = rw e refl

refuse_step : (ops : Table) (u : State) (t : Token) (rest : List Token) → rule ops u t rest ≡ g.refusal ops t → run ops false u (t ∷ rest) ≡ Err (fault_behind ops (t ∷ rest))
unfolding g.refusal
refuse_step ops u t rest e = stop_step ops u (fault_behind ops (t ∷ rest)) t rest e

wants_end : (ops : Table) (m : ℕ) (fs : List Frame) (base : Trees) (vs : Numbering) → run ops false (st (Wants m) fs base vs) [] ≡ Err Unexpected
unfolding at_end
wants_end ops m fs base vs = refl

not_less : (a b : ℕ) → b ≤ a → nat_lt a b ≡ false
not_less a b h = grind (arith, nat_tests)

not_most : (a b : ℕ) → b < a → nat_le a b ≡ false
not_most a b h = grind (arith, nat_tests)

-- ---- a token with which no term begins

either : (a b c : Bool) → (a || (b || c)) ≡ false → (a ≡ false) × (b ≡ false) × (c ≡ false)
either false false false e = (refl, refl, refl)
either true b c e = absurd cc
either false true c e = absurd cc
either false false true e = absurd cc

module _ (ops : Table) (m : ℕ) (fs : List Frame) (base : Trees) (vs : Numbering) (a : Token) (ts : List Token) where
  abbrev here : State
  here = st (Wants m) fs base vs

  no_bracket : (b : ℕ) → a.kind ≡ Punct b → eqb b 40 ≡ false → eqb b 91 ≡ false → eqb b 123 ≡ false → rule ops here a ts ≡ g.stops Unexpected
  unfolding g.primary g.bracket
  no_bracket b p i j k = wants ops m fs base vs a ts (Punct b) p ∙ rw (i, j, k) refl

  no_term : (k : TokenKind) → a.kind ≡ k → begins_term k ≡ false → rule ops here a ts ≡ g.stops Unexpected
  unfolding g.primary
  no_term (Name f) p e = absurd cc
  no_term (Quoted f) p e = absurd cc
  no_term (Variable v) p e = absurd cc
  no_term (Integer n) p e = absurd cc
  no_term (Codes bs) p e = absurd cc
  no_term (Punct b) p e = let h = either (eqb b 40) (eqb b 91) (eqb b 123) e in no_bracket b p h.0 h.1 h.2
  no_term Stop p e = wants ops m fs base vs a ts Stop p

  too_large : (n : ℕ) → a.kind ≡ Integer n → nat_lt n 0x8000_0000_0000_0000 ≡ false → rule ops here a ts ≡ g.stops TooLarge
  unfolding g.primary
  too_large n p l = wants ops m fs base vs a ts (Integer n) p ∙ rw l refl

  negative_too_large : (f : List ℕ) → name_of a.kind ≡ Some f → calls a ts ≡ false → negates a ts ≡ true → nat_le (g.next_value ts) 0x8000_0000_0000_0000 ≡ false → rule ops here a ts ≡ g.stops TooLarge
  negative_too_large f p c k l = a_name ops m fs base vs a ts f p ∙ not_call ops m fs base vs a ts f c ∙ rw (k, l) refl

  too_high : (f : List ℕ) (b : Prefix) → name_of a.kind ≡ Some f → calls a ts ≡ false → negates a ts ≡ false → prefix_op ops f ≡ Some b → takes_operand ops ts ≡ true
      → nat_le b.priority m ≡ false → rule ops here a ts ≡ g.stops Priority
  too_high f b p c k o w l = a_name ops m fs base vs a ts f p ∙ not_call ops m fs base vs a ts f c ∙ rw (k, o, w, l) refl

-- ---- a bracket that has to close

-- what an open bracket does with what is behind its term
record Closing (ops : Table) (close : ℕ) (f : Frame) : Type 0 where
  never : (q n : ℕ) (fs : List Frame) (base : Trees) (vs : Numbering) → at_end (st (Has q n) (f ∷ fs) base vs) ≡ Err Unexpected
  refuses : (q n : ℕ) (fs : List Frame) (base : Trees) (vs : Numbering) (c : Token) (rest : List Token) → extension ops (operator_name c.kind) q n ≡ None → is_punct close c.kind ≡ false
      → rule ops (st (Has q n) (f ∷ fs) base vs) c rest ≡ g.refusal ops c

closing_paren : (ops : Table) (m : ℕ) → Closing ops 41 (Paren m)
unfolding at_end
closing_paren ops m = record {
  never = λ q n fs base vs. refl;
  refuses = λ q n fs base vs c rest stays no. has_rule ops q n (Paren m ∷ fs) base vs c rest ∙ paren ops q n base vs c stays (Paren m ∷ fs) fs m refl ∙ rw no refl;
}

closing_braces : (ops : Table) (m : ℕ) → Closing ops 125 (Braces m)
unfolding at_end
closing_braces ops m = record {
  never = λ q n fs base vs. refl;
  refuses = λ q n fs base vs c rest stays no. has_rule ops q n (Braces m ∷ fs) base vs c rest ∙ braces ops q n base vs c stays (Braces m ∷ fs) fs m refl ∙ rw no refl;
}

closing_tail : (ops : Table) (k m : ℕ) → Closing ops 93 (Tail k m)
unfolding at_end
closing_tail ops k m = record {
  never = λ q n fs base vs. refl;
  refuses = λ q n fs base vs c rest stays no. has_rule ops q n (Tail k m ∷ fs) base vs c rest ∙ tail ops q n base vs c stays (Tail k m ∷ fs) fs k m refl ∙ rw no refl;
}

not_closed : (ops : Table) (close : ℕ) (f : Frame) → Closing ops close f → (q n : ℕ) (fs : List Frame) (base : Trees) (vs : Numbering) (us : List Token) → Rests ops q n us → next_is close us ≡ false
    → run ops false (st (Has q n) (f ∷ fs) base vs) us ≡ Err (fault_behind ops us)
not_closed ops close f h q n fs base vs [] r e = h.never q n fs base vs
not_closed ops close f h q n fs base vs (c ∷ us) r e = refuse_step ops (st (Has q n) (f ∷ fs) base vs) c us (h.refuses q n fs base vs c us r e)

-- ---- terms between commas

-- what a frame that counts does with what is behind one of its terms
record Counts (ops : Table) (b : Between) (frame : ℕ → Frame) : Type 0 where
  never : (k q : ℕ) (fs : List Frame) (base : Trees) (vs : Numbering) → at_end (st (Has q 999) (frame k ∷ fs) base vs) ≡ Err Unexpected
  refuses : (k q : ℕ) (fs : List Frame) (base : Trees) (vs : Numbering) (c : Token) (rest : List Token) → extension ops (operator_name c.kind) q 999 ≡ None → is_punct 44 c.kind ≡ false → s.ends b c.kind ≡ false
      → rule ops (st (Has q 999) (frame k ∷ fs) base vs) c rest ≡ g.refusal ops c
  overflows : (k q : ℕ) (fs : List Frame) (base : Trees) (vs : Numbering) (c : Token) (rest : List Token) → extension ops (operator_name c.kind) q 999 ≡ None → is_punct 44 c.kind ≡ true → is_full b k ≡ true
      → rule ops (st (Has q 999) (frame k ∷ fs) base vs) c rest ≡ g.stops Arity
  goes_on : (k q : ℕ) (fs : List Frame) (base : Trees) (vs : Numbering) (c : Token) (rest : List Token) → extension ops (operator_name c.kind) q 999 ≡ None → is_punct 44 c.kind ≡ true → is_full b k ≡ false
      → rule ops (st (Has q 999) (frame k ∷ fs) base vs) c rest ≡ goes (st (Wants 999) (frame (k + 1) ∷ fs) base vs)

room : (k : ℕ) → nat_le 254 k ≡ false → nat_lt k 254 ≡ true
room k e = grind (arith, nat_tests)

no_room : (k : ℕ) → nat_le 254 k ≡ true → nat_lt k 254 ≡ false
no_room k e = grind (arith, nat_tests)

between_arguments : (ops : Table) (f : List ℕ) (m : ℕ) → Counts ops s.arguments (λ k. Arguments f k m)
unfolding at_end
between_arguments ops f m = record {
  never = λ k q fs base vs. refl;
  refuses = λ k q fs base vs c rest stays comma no. at_rule k q fs base vs c rest stays ∙ rw (comma, no) refl;
  overflows = λ k q fs base vs c rest stays comma full. let l = no_room k full in at_rule k q fs base vs c rest stays ∙ rw (comma, l) refl;
  goes_on = λ k q fs base vs c rest stays comma full. argument_comma ops q fs base vs c rest stays f k m (room k full) comma;
}
  where
    at_rule : (k q : ℕ) (fs : List Frame) (base : Trees) (vs : Numbering) (c : Token) (rest : List Token) → extension ops (operator_name c.kind) q 999 ≡ None
        → rule ops (st (Has q 999) (Arguments f k m ∷ fs) base vs) c rest ≡ g.taken ops (Arguments f k m) fs base vs c
    at_rule k q fs base vs c rest stays = has_rule ops q 999 (Arguments f k m ∷ fs) base vs c rest ∙ argument ops q 999 base vs c stays (Arguments f k m ∷ fs) fs f k m refl

neither : (a b : Bool) → (a || b) ≡ false → (a ≡ false) × (b ≡ false)
neither false false e = (refl, refl)
neither true b e = absurd cc
neither false true e = absurd cc

between_items : (ops : Table) (m : ℕ) → Counts ops s.items (λ k. Items k m)
unfolding at_end
between_items ops m = record {
  never = λ k q fs base vs. refl;
  refuses = λ k q fs base vs c rest stays comma no.
      let h = neither (is_punct 93 c.kind) (is_punct 124 c.kind) no in
      let close = h.0 in
      let bar = h.1 in
      has_rule ops q 999 (Items k m ∷ fs) base vs c rest ∙ item ops q 999 base vs c stays (Items k m ∷ fs) fs k m refl ∙ rw (comma, bar, close) refl;
  overflows = λ k q fs base vs c rest stays comma full. absurd cc;
  goes_on = λ k q fs base vs c rest stays comma full. item_comma ops q fs base vs c rest stays k m comma;
}

-- ---- the law

mutual
  pub stops_runs : {ops : Table} {m : ℕ} {ts xs : List Token} {vs : Numbering} {fault : Fault} → Stops ops m ts vs fault xs
      → (fs : List Frame) (base : Trees) → run ops false (st (Wants m) fs base vs) ts ≡ Err fault
  stops_runs (s.in_primary p) fs base = primary_stops p fs base
  stops_runs {ops} {m} (s.in_right {q = q} {ys = ys} {zs = zs} {u = u} a f priority right p c e r) fs base =
      primary_runs p fs base
      ∙ chain_runs c fs base
      ∙ one_step ops (st (Has q m) fs (more u base) zs) (st (Wants right) (Infixed f priority m ∷ fs) (more u base) zs) a ys (extension_rule ops q m fs (more u base) zs a ys (OverTwo f priority right) e)
      ∙ stops_runs r (Infixed f priority m ∷ fs) (more u base)

  primary_stops : {ops : Table} {m : ℕ} {ts xs : List Token} {vs : Numbering} {fault : Fault} → PrimaryStops ops m ts vs fault xs
      → (fs : List Frame) (base : Trees) → run ops false (st (Wants m) fs base vs) ts ≡ Err fault
  primary_stops {ops} {m} {vs = vs} s.at_end fs base = wants_end ops m fs base vs
  primary_stops {ops} {m} {vs = vs} (s.no_term {ts = ts} a e) fs base = stop_step ops (st (Wants m) fs base vs) Unexpected a ts (no_term ops m fs base vs a ts a.kind refl e)
  primary_stops {ops} {m} {vs = vs} (s.too_large {ts = ts} a n e h) fs base =
      stop_step ops (st (Wants m) fs base vs) TooLarge a ts (too_large ops m fs base vs a ts n e (not_less n 0x8000_0000_0000_0000 h))
  primary_stops {ops} {m} {vs = vs} (s.negative_too_large {ts = ts} a b f p c k h) fs base =
      stop_step ops (st (Wants m) fs base vs) TooLarge a (b ∷ ts) (negative_too_large ops m fs base vs a (b ∷ ts) f p c k (not_most (g.value_of b.kind) 0x8000_0000_0000_0000 h))
  primary_stops {ops} {m} {vs = vs} (s.too_high {ts = ts} a f b p c k o w h) fs base =
      stop_step ops (st (Wants m) fs base vs) Priority a ts (too_high ops m fs base vs a ts f b p c k o w (not_most b.priority m h))
  primary_stops {ops} {m} {vs = vs} (s.in_operand {ts = ts} a f b p c k o w low r) fs base =
      one_step ops (st (Wants m) fs base vs) (st (Wants b.operand) (Prefixed f b.priority m ∷ fs) base vs) a ts (applied_rule ops m fs base vs a ts f b p c k o w (le-test b.priority m low))
      ∙ stops_runs r (Prefixed f b.priority m ∷ fs) base
  primary_stops {ops} {m} {vs = vs} (s.in_arguments {ts = ts} a b f p c r) fs base =
      two_step ops (st (Wants m) fs base vs) (st (Wants 999) (Arguments f 0 m ∷ fs) base vs) a b ts (call_rule ops m fs base vs a (b ∷ ts) f p c)
      ∙ sequence_stops r (λ k. Arguments f k m) (between_arguments ops f m) fs base
  primary_stops {ops} {m} {vs = vs} (s.in_paren {ts = ts} a p r) fs base =
      one_step ops (st (Wants m) fs base vs) (st (Wants 1200) (Paren m ∷ fs) base vs) a ts (paren_rule ops m fs base vs a ts p)
      ∙ unclosed_stops r (Paren m) (closing_paren ops m) fs base
  primary_stops {ops} {m} {vs = vs} (s.in_braces {ts = ts} a p n r) fs base =
      one_step ops (st (Wants m) fs base vs) (st (Wants 1200) (Braces m ∷ fs) base vs) a ts (braces_rule ops m fs base vs a ts p n)
      ∙ unclosed_stops r (Braces m) (closing_braces ops m) fs base
  primary_stops {ops} {m} {vs = vs} (s.in_items {ts = ts} a p n r) fs base =
      one_step ops (st (Wants m) fs base vs) (st (Wants 999) (Items 0 m ∷ fs) base vs) a ts (list_rule ops m fs base vs a ts p n)
      ∙ sequence_stops r (λ k. Items k m) (between_items ops m) fs base
  primary_stops {ops} {m} {vs = vs} (s.in_tail {ts = ts} {us = us} {ws = ws} {list = items} a b p n q bar r) fs base =
      let i = sequence_runs q fs (λ k. Items k m) (count items) (λ q k base vs c rest low stays comma. item_comma ops q fs base vs c rest stays k m comma) 0 base (omega arith) in
      one_step ops (st (Wants m) fs base vs) (st (Wants 999) (Items 0 m ∷ fs) base vs) a ts (list_rule ops m fs base vs a ts p n)
      ∙ i.runs
      ∙ one_step ops (st (Has i.priority 999) (Items i.before m ∷ fs) (all_over items base) ws) (st (Wants 999) (Tail (i.before + 1) m ∷ fs) (all_over items base) ws) b us
      (item_bar ops i.priority fs (all_over items base) ws b us i.stays i.before m bar)
      ∙ unclosed_stops r (Tail (i.before + 1) m) (closing_tail ops (i.before + 1) m) fs (all_over items base)

  unclosed_stops : {ops : Table} {close m : ℕ} {ts xs : List Token} {vs : Numbering} {fault : Fault} → Unclosed ops close m ts vs fault xs
      → (f : Frame) → Closing ops close f → (fs : List Frame) (base : Trees) → run ops false (st (Wants m) (f ∷ fs) base vs) ts ≡ Err fault
  unclosed_stops (s.in_term r) f h fs base = stops_runs r (f ∷ fs) base
  unclosed_stops {ops} {close} (s.behind_term {m = m} {q = q} {us = us} {ws = ws} {t = t} d e) f h fs base =
      reads_runs d (f ∷ fs) base ∙ not_closed ops close f h q m fs (more t base) ws us (reads_rests d) e

  sequence_stops : {ops : Table} {b : Between} {k : ℕ} {ts xs : List Token} {vs : Numbering} {fault : Fault} → SequenceStops ops b k ts vs fault xs
      → (frame : ℕ → Frame) → Counts ops b frame → (fs : List Frame) (base : Trees) → run ops false (st (Wants 999) (frame k ∷ fs) base vs) ts ≡ Err fault
  sequence_stops {k = k} (s.in_one r) frame h fs base = stops_runs r (frame k ∷ fs) base
  sequence_stops {ops} {b} {k = k} (s.behind_one {q = q} {us = us} {ws = ws} {t = t} d comma none_ends) frame h fs base =
      reads_runs d (frame k ∷ fs) base ∙ by us (reads_rests d) comma none_ends
    where
      by : (xs : List Token) → Rests ops q 999 xs → next_is 44 xs ≡ false → next_ends b xs ≡ false → run ops false (st (Has q 999) (frame k ∷ fs) (more t base) ws) xs ≡ Err (fault_behind ops xs)
      by [] r i j = h.never k q fs (more t base) ws
      by (c ∷ xs) r i j = refuse_step ops (st (Has q 999) (frame k ∷ fs) (more t base) ws) c xs (h.refuses k q fs (more t base) ws c xs r i j)
  sequence_stops {ops} {k = k} (s.one_too_many {q = q} {us = us} {ws = ws} {t = t} c d comma full) frame h fs base =
      reads_runs d (frame k ∷ fs) base ∙ stop_step ops (st (Has q 999) (frame k ∷ fs) (more t base) ws) Arity c us (h.overflows k q fs (more t base) ws c us (reads_rests d) comma full)
  sequence_stops {ops} {k = k} (s.in_further {q = q} {us = us} {ws = ws} {t = t} c d comma full r) frame h fs base =
      reads_runs d (frame k ∷ fs) base
      ∙ one_step ops (st (Has q 999) (frame k ∷ fs) (more t base) ws) (st (Wants 999) (frame (k + 1) ∷ fs) (more t base) ws) c us (h.goes_on k q fs (more t base) ws c us (reads_rests d) comma full)
      ∙ sequence_stops r frame h fs (more t base)

-- what stops being read is not read, with that fault
pub stops_read : (ops : Table) (ts : List Token) (fault : Fault) (xs : List Token) → StopsAt ops ts fault xs → g.read ops ts ≡ Err fault
stops_read ops ts fault xs (s.in_it r) = stops_runs r [] none
stops_read ops ts fault xs (s.behind_it {q = q} {us = us} {ws = ws} {t = t} c d) =
    reads_runs d [] none
    ∙ refuse_step ops (st (Has q 1200) [] (more t none) ws) c us (has_rule ops q 1200 [] (more t none) ws c us ∙ ends ops q 1200 (more t none) ws c (reads_rests d) [] refl)

fault_same : (f h : Fault) → ◌≡◌ {A = Result Found Fault} (Err f) (Err h) → f ≡ h
fault_same f h e = cc

pub stops_once : (ops : Table) (ts : List Token) (f h : Fault) (xs ys : List Token) → StopsAt ops ts f xs → StopsAt ops ts h ys → f ≡ h
stops_once ops ts f h xs ys d e = fault_same f h (sym (stops_read ops ts f xs d) ∙ stops_read ops ts h ys e)
