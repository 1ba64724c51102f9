-- What is known of each term that is read: its arities, and how its variables are numbered.
use Rattle.std.proofs.Common.{◌≡◌, ℕ, ◌+◌, ◌<◌, ◌≤◌, pos, Bool, true, false, cond, if◌then◌else◌, nat_lt, List, [], ◌∷◌, ◌++◌, Option, None, Some, refl, sym, ap, subst, ◌∙◌, arith, ◌||◌}
use Rattle.std.specs.Prelude.{codes, IsTrue, All, option_and_then, nat_eq}
use Rattle.std.specs.Map.{lookup}
use Rattle.std.proofs.lemmas.Bool.Decides.{nat_tests}
use Rattle.std.proofs.lemmas.List.Elements.{All-nil, All-cons}
use Rattle.prolog_terms.specs.Tree.{Tree, Trees, variable, integer, atom, compound, none, more, count, HasArities, AllHaveArities}
use Rattle.prolog_terms.specs.Variables.{met_after, all_met_after}
use Rattle.prolog_terms.specs.Substitutions.{occurs, occurs_in_some}
use Rattle.prolog_terms.specs.Operators.{Table, same_text}
use Rattle.prolog_terms.specs.declared.shown.Shown.{Shown}
use Rattle.prolog_lexer.specs.declared.token.Token.{Token}
use Rattle.prolog_reader.specs.Numberings.{Numbering, no_variables, numbered, met, number_of, is_anonymous, is_hidden, shown_of}
use Rattle.prolog_reader.specs.Reads as r
use Rattle.prolog_reader.specs.Reads.{Reads, Primary, Sequence, Chain, list_of, code_list}
use Rattle.prolog_reader.specs.Orders.{IsOneTerm}
use Rattle.prolog_reader.specs.Texts.{HasItsVariables, reading_of}

-- ---- numbers below the count

abbrev AreBelow : List (List ℕ × ℕ) → ℕ → Type 0
AreBelow [] k = Unit {0}
AreBelow (e ∷ es) k = (e.1 < k) × AreBelow es k

below_more : (es : List (List ℕ × ℕ)) (k j : ℕ) → k ≤ j → AreBelow es k → AreBelow es j
below_more [] k j h b = tt
below_more (e ∷ es) k j h b = let low : e.1 < k = b.0 in (omega arith, below_more es k j h b.1)

below_push : (es : List (List ℕ × ℕ)) (v : List ℕ) (n k : ℕ) → n < k → AreBelow es k → AreBelow (es ++ (v, n) ∷ []) k
below_push [] v n k h b = (h, tt)
below_push (e ∷ es) v n k h b = (b.0, below_push es v n k h b.1)

below_lookup : (test : List ℕ → Bool) (es : List (List ℕ × ℕ)) (n k : ℕ) → AreBelow es k → lookup test es ≡ Some n → n < k
below_lookup test [] n k b e = cc
below_lookup test (f ∷ es) n k b e = by (test f.0) refl (below_lookup test es n k b.1)
  where
    by : (c : Bool) → test f.0 ≡ c → (lookup test es ≡ Some n → n < k) → n < k
    by true q rest =
        let s : Some f.1 ≡ Some n = sym (ap (λ c. cond c (Some f.1) (lookup test es)) q) ∙ e in
        let same : f.1 ≡ n = cc in
        let low : f.1 < k = b.0 in omega (arith, same, low)
    by false q rest = rest (sym (ap (λ c. cond c (Some f.1) (lookup test es)) q) ∙ e)

-- ---- terms whose variables go on from a number

record Fine (ws : Numbering) (k : ℕ) (t : Tree) : Type 0 where
  met : met_after t k ≡ Some ws.count
  below : AreBelow ws.known ws.count
  arities : HasArities t

record AllFine (ws : Numbering) (k : ℕ) (ts : Trees) : Type 0 where
  met : all_met_after ts k ≡ Some ws.count
  below : AreBelow ws.known ws.count
  arities : AllHaveArities ts
  some : 1 ≤ count ts

fine_variable : (v : List ℕ) (vs : Numbering) → AreBelow vs.known vs.count → Fine (met v vs) vs.count (variable (numbered v vs))
fine_variable v vs b = by (is_anonymous v) (number_of v vs) refl refl
  where
    lt : nat_lt vs.count vs.count ≡ false
    lt = grind (arith, nat_tests)

    eq : nat_eq vs.count vs.count ≡ true
    eq = grind (arith, nat_tests)

    next : met_after (variable vs.count) vs.count ≡ Some (vs.count + 1)
    next = rw (lt, eq) refl

    by : (a : Bool) (o : Option ℕ) → is_anonymous v ≡ a → number_of v vs ≡ o → Fine (met v vs) vs.count (variable (numbered v vs))
    by true o p q =
        let n : numbered v vs ≡ vs.count = rw p refl in
        let m : met v vs ≡ record { known = vs.known; count = vs.count + 1 } = rw p refl in
        rw (n, m) (record { met = next; below = below_more vs.known vs.count (vs.count + 1) (omega arith) b; arities = tt })
    by false None p q =
        let n : numbered v vs ≡ vs.count = rw (p, q) refl in
        let m : met v vs ≡ record { known = vs.known ++ (v, vs.count) ∷ []; count = vs.count + 1 } = rw (p, q) refl in
        rw (n, m) (record {
          met = next;
          below = below_push vs.known v vs.count (vs.count + 1) (omega arith) (below_more vs.known vs.count (vs.count + 1) (omega arith) b);
          arities = tt;
        })
    by false (Some i) p q =
        let n : numbered v vs ≡ i = rw (p, q) refl in
        let m : met v vs ≡ vs = rw (p, q) refl in
        let low : i < vs.count = below_lookup (same_text v) vs.known i vs.count b q in
        let l : nat_lt i vs.count ≡ true = grind (arith, nat_tests) in
        rw (n, m) (record { met = rw l refl; below = b; arities = tt })

one_met : (t : Tree) (k j : ℕ) → met_after t k ≡ Some j → all_met_after (more t none) k ≡ Some j
one_met t k j e = ap (λ o. option_and_then (all_met_after none) o) e

more_met : (t : Tree) (ts : Trees) (k j i : ℕ) → met_after t k ≡ Some j → all_met_after ts j ≡ Some i → all_met_after (more t ts) k ≡ Some i
more_met t ts k j i e f = ap (λ o. option_and_then (all_met_after ts) o) e ∙ f

two_met : (f : List ℕ) (t u : Tree) (k j i : ℕ) → met_after t k ≡ Some j → met_after u j ≡ Some i → met_after (compound f (more t (more u none))) k ≡ Some i
two_met f t u k j i e g = more_met t (more u none) k j i e (one_met u j i g)

record Parted (t : Tree) (ts : Trees) (k i : ℕ) : Type 0 where
  between : ℕ
  first : met_after t k ≡ Some between
  rest : all_met_after ts between ≡ Some i

parted : (t : Tree) (ts : Trees) (k i : ℕ) → all_met_after (more t ts) k ≡ Some i → Parted t ts k i
parted t ts k i e = by (met_after t k) refl
  where
    by : (o : Option ℕ) → met_after t k ≡ o → Parted t ts k i
    by None p = let n : ◌≡◌ {A = Option ℕ} None (Some i) = sym (ap (λ o. option_and_then (all_met_after ts) o) p) ∙ e in cc
    by (Some j) p = record { between = j; first = p; rest = sym (ap (λ o. option_and_then (all_met_after ts) o) p) ∙ e }

list_met : (items : Trees) (last : Tree) (k j i : ℕ) → all_met_after items k ≡ Some j → met_after last j ≡ Some i → met_after (list_of items last) k ≡ Some i
list_met none last k j i e f = let same : k ≡ j = cc in subst (λ n. met_after last n ≡ Some i) (sym same) f
list_met (more t ts) last k j i e f =
    let p = parted t ts k j e in
    two_met (codes ".") t (list_of ts last) k p.between i p.first (list_met ts last p.between j i p.rest f)

list_arities : (items : Trees) (last : Tree) → AllHaveArities items → HasArities last → HasArities (list_of items last)
list_arities none last a b = b
list_arities (more t ts) last a b = (omega arith, omega arith, (a.0, (list_arities ts last a.1 b, tt)))

codes_met : (bs : List ℕ) (k : ℕ) → met_after (code_list bs) k ≡ Some k
codes_met [] k = refl
codes_met (b ∷ bs) k = two_met (codes ".") (integer (pos b)) (code_list bs) k k k refl (codes_met bs k)

codes_arities : (bs : List ℕ) → HasArities (code_list bs)
codes_arities [] = tt
codes_arities (b ∷ bs) = (omega arith, omega arith, (tt, (codes_arities bs, tt)))

mutual
  reads_fine : {ops : Table} {m q : ℕ} {ts us : List Token} {vs ws : Numbering} {t : Tree} → Reads ops m ts vs q t us ws → AreBelow vs.known vs.count → Fine ws vs.count t
  reads_fine {vs = vs} (r.term p c h) b = chain_fine c vs.count (primary_fine p b)

  chain_fine : {ops : Table} {m q s : ℕ} {ts us : List Token} {vs ws : Numbering} {t w : Tree} → Chain ops m ts vs q t s w us ws → (k : ℕ) → Fine vs k t → Fine ws k w
  chain_fine r.stays k f = f
  chain_fine {vs = vs} {t = t} (r.over_two {ws = ws} {u = u} a f p right x d c) k g =
      let v = reads_fine d g.below in
      chain_fine c k (record { met = two_met f t u k vs.count ws.count g.met v.met; below = v.below; arities = (omega arith, omega arith, (g.arities, (v.arities, tt))) })
  chain_fine {vs = vs} {t = t} (r.over_one a f p x c) k g =
      chain_fine c k (record { met = one_met t k vs.count g.met; below = g.below; arities = (omega arith, omega arith, (g.arities, tt)) })

  sequence_fine : {ops : Table} {ts us : List Token} {vs ws : Numbering} {items : Trees} → Sequence ops ts vs items us ws → AreBelow vs.known vs.count → AllFine ws vs.count items
  sequence_fine {vs = vs} {ws = ws} (r.last {t = t} d) b =
      let f = reads_fine d b in
      record { met = one_met t vs.count ws.count f.met; below = f.below; arities = (f.arities, tt); some = omega arith }
  sequence_fine {vs = vs} (r.further {ws = ws} {ys = ys} {t = t} {rest = rest} c d e s) b =
      let f = reads_fine d b in
      let g = sequence_fine s f.below in
      record { met = more_met t rest vs.count ws.count ys.count f.met g.met; below = g.below; arities = (f.arities, g.arities); some = omega arith }

  primary_fine : {ops : Table} {m q : ℕ} {ts us : List Token} {vs ws : Numbering} {t : Tree} → Primary ops m ts vs q t us ws → AreBelow vs.known vs.count → Fine ws vs.count t
  primary_fine (r.call a b c f n k s e few) b1 =
      let g = sequence_fine s b1 in
      record { met = g.met; below = g.below; arities = (g.some, few, g.arities) }
  primary_fine (r.negative a b f n k l few) b1 = record { met = refl; below = b1; arities = tt }
  primary_fine {vs = vs} {ws = ws} (r.applied {t = t} a f b n k l o w low d) b1 =
      let g = reads_fine d b1 in
      record { met = one_met t vs.count ws.count g.met; below = g.below; arities = (omega arith, omega arith, (g.arities, tt)) }
  primary_fine (r.plain a f n k l o) b1 = record { met = refl; below = b1; arities = tt }
  primary_fine (r.number a n e few) b1 = record { met = refl; below = b1; arities = tt }
  primary_fine {vs = vs} (r.named a v e) b1 = fine_variable v vs b1
  primary_fine {vs = vs} (r.text a bs e) b1 = record { met = codes_met bs vs.count; below = b1; arities = codes_arities bs }
  primary_fine (r.paren a c e d k) b1 = reads_fine d b1
  primary_fine (r.empty_list a b e k) b1 = record { met = refl; below = b1; arities = tt }
  primary_fine (r.empty_braces a b e k) b1 = record { met = refl; below = b1; arities = tt }
  primary_fine {vs = vs} {ws = ws} (r.list {items = items} a c e n s k) b1 =
      let g = sequence_fine s b1 in
      record { met = list_met items (atom (codes "[]")) vs.count ws.count ws.count g.met refl; below = g.below; arities = list_arities items (atom (codes "[]")) g.arities tt }
  primary_fine {vs = vs} (r.list_with_tail {ws = ws} {ys = ys} {items = items} {t = t} a b c e n s k d l) b1 =
      let g = sequence_fine s b1 in
      let h = reads_fine d g.below in
      record { met = list_met items t vs.count ws.count ys.count g.met h.met; below = h.below; arities = list_arities items t g.arities h.arities }
  primary_fine {vs = vs} {ws = ws} (r.braces {t = t} a c e n d k) b1 =
      let g = reads_fine d b1 in
      record { met = one_met t vs.count ws.count g.met; below = g.below; arities = (omega arith, omega arith, (g.arities, tt)) }

-- ---- each number that is given stands in the term

or_true : (a b : Bool) → b ≡ true → (a || b) ≡ true
or_true true b h = refl
or_true false b h = h

or_first : (a b : Bool) → a ≡ true → (a || b) ≡ true
or_first true b h = refl
or_first false b h = cc

mutual
  stands : (t : Tree) (k c n : ℕ) → met_after t k ≡ Some c → k ≤ n → n < c → occurs n t ≡ true
  stands (variable m) k c n e low high = by (nat_lt m k) (nat_eq m k) refl refl
    where
      by : (l q : Bool) → nat_lt m k ≡ l → nat_eq m k ≡ q → occurs n (variable m) ≡ true
      by true q l1 q1 =
          let s : Some k ≡ Some c = sym (ap (λ b. if b then Some k else (if nat_eq m k then Some (k + 1) else None)) l1) ∙ e in
          let same : k ≡ c = cc in absurd (omega (arith, same))
      by false true l1 q1 =
          let s : Some (k + 1) ≡ Some c =
          sym (ap (λ b. if b then Some k else (if nat_eq m k then Some (k + 1) else None)) l1 ∙ ap (λ b. if b then Some (k + 1) else None) q1) ∙ e in
          let same : k + 1 ≡ c = cc in
          let place : m ≡ k = grind (arith, nat_tests) in
          let here : n ≡ m = omega (arith, same, place) in
          grind (arith, nat_tests)
      by false false l1 q1 =
          let s : ◌≡◌ {A = Option ℕ} None (Some c) =
          sym (ap (λ b. if b then Some k else (if nat_eq m k then Some (k + 1) else None)) l1 ∙ ap (λ b. if b then Some (k + 1) else None) q1) ∙ e in
          cc
  stands (integer z) k c n e low high = let same : k ≡ c = cc in absurd (omega (arith, same))
  stands (atom a) k c n e low high = let same : k ≡ c = cc in absurd (omega (arith, same))
  stands (compound f ts) k c n e low high = some_stands ts k c n e low high

  some_stands : (ts : Trees) (k c n : ℕ) → all_met_after ts k ≡ Some c → k ≤ n → n < c → occurs_in_some n ts ≡ true
  some_stands none k c n e low high = let same : k ≡ c = cc in absurd (omega (arith, same))
  some_stands (more t ts) k c n e low high =
      let p = parted t ts k c e in
      by p (nat_lt n p.between) refl (λ h. stands t k p.between n p.first low h) (λ h. some_stands ts p.between c n p.rest h high)
    where
      by : (p : Parted t ts k c) (b : Bool) → nat_lt n p.between ≡ b → (n < p.between → occurs n t ≡ true) → (p.between ≤ n → occurs_in_some n ts ≡ true) → occurs_in_some n (more t ts) ≡ true
      by p true h first rest = or_first (occurs n t) (occurs_in_some n ts) (first (grind (arith, nat_tests)))
      by p false h first rest = or_true (occurs n t) (occurs_in_some n ts) (rest (grind (arith, nat_tests)))

all_shown : (t : Tree) (es : List (List ℕ × ℕ)) (c : ℕ) → met_after t 0 ≡ Some c → AreBelow es c → All (λ (s : Shown). IsTrue (occurs s.var t)) (shown_of es)
all_shown t [] c e b = All-nil (λ (s : Shown). IsTrue (occurs s.var t))
all_shown t (f ∷ es) c e b = by (is_hidden f.0) refl (all_shown t es c e b.1)
  where
    by : (h : Bool) → is_hidden f.0 ≡ h → All (λ (s : Shown). IsTrue (occurs s.var t)) (shown_of es) → All (λ (s : Shown). IsTrue (occurs s.var t)) (shown_of (f ∷ es))
    by true h rest = rw h rest
    by false h rest =
        rw h (All-cons (λ (s : Shown). IsTrue (occurs s.var t)) (record { name = f.0; var = f.1 }) (shown_of es) (stands t 0 c f.1 e (omega arith) b.0) rest)

pub has_its_variables : (ops : Table) (ts : List Token) (q : ℕ) (t : Tree) (ws : Numbering) → Reads ops 1200 ts no_variables q t [] ws → HasItsVariables (reading_of t ws)
has_its_variables ops ts q t ws d =
    let f = reads_fine d tt in
    record { numbered = f.met; stand = all_shown t ws.known ws.count f.met f.below }

pub one_term : (ops : Table) (ts : List Token) (q : ℕ) (t : Tree) (ws : Numbering) → Reads ops 1200 ts no_variables q t [] ws → IsOneTerm (more t none)
one_term ops ts q t ws d = record { one = omega arith; arities = ((reads_fine d tt).arities, tt) }
