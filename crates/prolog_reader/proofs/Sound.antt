-- What the grammar has, the rules read.
use Rattle.std.proofs.Common.{◌≡◌, ℕ, suc, ◌+◌, ◌<◌, ◌≤◌, pos, ◌-ℤ◌, List, [], ◌∷◌, length, refl, sym, ap, ◌∙◌, arith, true, false, Some, None, Result, Ok, Err, nat_le, nat_lt}
use Rattle.std.specs.Prelude.{codes}
use Rattle.std.proofs.lemmas.Bool.Decides.{nat_tests}
use Rattle.prolog_terms.specs.Tree.{Tree, Trees, variable, integer, atom, compound, none, more, count}
use Rattle.prolog_terms.specs.Flat.{past, chained}
use Rattle.prolog_lexer.specs.declared.token.Token.{Token}
use Rattle.prolog_terms.specs.Operators.{Table}
use Rattle.prolog_reader.specs.Numberings.{Numbering, no_variables, numbered, met}
use Rattle.prolog_reader.specs.declared.rule.Extension.{Extension}
use Rattle.prolog_reader.specs.declared.rule.Extension.TheVariants.{OverTwo, OverOne}
use Rattle.prolog_reader.specs.declared.rule.Mode.TheVariants.{Wants, Has}
use Rattle.prolog_reader.specs.declared.rule.Frame.{Frame}
use Rattle.prolog_reader.specs.declared.rule.Frame.TheVariants.{Arguments, Items, Tail, Paren, Braces, Prefixed, Infixed}
use Rattle.prolog_reader.specs.declared.rule.Fault.{Fault}
use Rattle.prolog_reader.specs.Grammar as g
use Rattle.prolog_reader.specs.Grammar.{State, Found, Step, goes, goes_two, run, rule, at_end, continued, extension, operator_name, made, gathered, cells, is_punct, next_is, calls, negates, value_of, takes_operand, pushed_codes, text_codes, after_step}
use Rattle.prolog_reader.specs.Reads as r
use Rattle.prolog_reader.specs.Reads.{Reads, Primary, Sequence, Chain, Rests, name_of, list_of, code_list}
use Rattle.prolog_reader.proofs.Continues.{grows}
use Rattle.prolog_reader.proofs.Rules.{st, has_rule, one_step, two_step, prefix_closes, infix_closes, call_rule, negative_rule, applied_rule, plain_rule, number_rule, variable_rule, codes_rule, paren_rule, empty_list_rule, list_rule, empty_braces_rule, braces_rule, in_paren, in_braces, in_tail, argument_comma, argument_close, item_comma, item_bar, item_close}

-- ---- collected terms

abbrev pub all_over : Trees → Trees → Trees
all_over none ts = ts
all_over (more t ts) base = all_over ts (more t base)

-- ---- where the term ends

pub reads_rests : {ops : Table} {m q : ℕ} {ts us : List Token} {vs ws : Numbering} {t : Tree} → Reads ops m ts vs q t us ws → Rests ops q m us
reads_rests (r.term p c h) = h

-- ---- terms that are collected

gathered-all : (ts acc base : Trees) (k : ℕ) → gathered (count ts + k) acc (all_over ts base) ≡ gathered k (chained ts acc) base
gathered-all none acc base k = ap (λ n. gathered n acc base) (omega arith)
gathered-all (more t ts) acc base k =
    let e : count ts + 1 + k ≡ count ts + suc k = omega arith in
    ap (λ n. gathered n acc (all_over ts (more t base))) e ∙ gathered-all ts acc (more t base) (suc k)

past-all : (ts base : Trees) (k : ℕ) → past (count ts + k) (all_over ts base) ≡ past k base
past-all none base k = ap (λ n. past n base) (omega arith)
past-all (more t ts) base k =
    let e : count ts + 1 + k ≡ count ts + suc k = omega arith in
    ap (λ n. past n (all_over ts (more t base))) e ∙ past-all ts (more t base) (suc k)

chained-nil : (ts : Trees) → chained ts none ≡ ts
chained-nil none = refl
chained-nil (more t ts) = ap (more t) (chained-nil ts)

made-all : (f : List ℕ) (args base : Trees) → made f (count args) (all_over args base) ≡ more (compound f args) base
made-all f args base =
    let z : count args ≡ count args + 0 = omega arith in
    let a : gathered (count args) none (all_over args base) ≡ args = ap (λ n. gathered n none (all_over args base)) z ∙ gathered-all args none base 0 ∙ chained-nil args in
    let b : past (count args) (all_over args base) ≡ base = ap (λ n. past n (all_over args base)) z ∙ past-all args base 0 in
    rw (a, b) refl

cells-all : (items base : Trees) (last : Tree) (k : ℕ) → cells (count items + k) (more last (all_over items base)) ≡ cells k (more (list_of items last) base)
cells-all none base last k = let z : 0 + k ≡ k = omega arith in ap (λ n. cells n (more last base)) z
cells-all (more t ts) base last k =
    let e : count ts + 1 + k ≡ count ts + suc k = omega arith in
    ap (λ n. cells n (more last (all_over ts (more t base)))) e ∙ cells-all ts (more t base) last (suc k)

cells-items : (items base : Trees) (last : Tree) → cells (count items) (more last (all_over items base)) ≡ more (list_of items last) base
cells-items items base last =
    let z : count items ≡ count items + 0 = omega arith in
    ap (λ n. cells n (more last (all_over items base))) z ∙ cells-all items base last 0

codes-all : (bs : List ℕ) (base : Trees) (k : ℕ) → cells (length bs + k) (more (atom (codes "[]")) (pushed_codes bs base)) ≡ cells k (more (code_list bs) base)
codes-all [] base k = let z : 0 + k ≡ k = omega arith in ap (λ n. cells n (more (atom (codes "[]")) base)) z
codes-all (b ∷ bs) base k =
    let e : suc (length bs) + k ≡ length bs + suc k = omega arith in
    ap (λ n. cells n (more (atom (codes "[]")) (pushed_codes bs (more (integer (pos b)) base)))) e ∙ codes-all bs (more (integer (pos b)) base) (suc k)

codes-made : (bs : List ℕ) (base : Trees) → text_codes bs base ≡ more (code_list bs) base
codes-made bs base =
    let z : length bs ≡ length bs + 0 = omega arith in
    ap (λ n. cells n (more (atom (codes "[]")) (pushed_codes bs base))) z ∙ codes-all bs base 0

-- ---- the whole

pub lt-test : (a b : ℕ) → a < b → nat_lt a b ≡ true
lt-test a b h = grind (arith, nat_tests)

pub le-test : (a b : ℕ) → a ≤ b → nat_le a b ≡ true
le-test a b h = grind (arith, nat_tests)

pub next_closes : (p : ℕ) (b : Token) (rest : List Token) → is_punct p b.kind ≡ true → next_is p (b ∷ rest) ≡ true
next_closes p b rest e = e

pub extension_rule : (ops : Table) (q m : ℕ) (fs : List Frame) (base : Trees) (vs : Numbering) (a : Token) (rest : List Token) (x : Extension)
    → extension ops (operator_name a.kind) q m ≡ Some x → rule ops (st (Has q m) fs base vs) a rest ≡ goes (g.grown x m fs base vs)
extension_rule ops q m fs base vs a rest x e = has_rule ops q m fs base vs a rest ∙ grows ops q m base vs a fs x e

-- a frame that counts what stands before a comma
abbrev Commas : Table → List Frame → (ℕ → Frame) → ℕ → Type 0
Commas ops fs frame limit = (q k : ℕ) (base : Trees) (vs : Numbering) (c : Token) (rest : List Token) → k < limit → extension ops (operator_name c.kind) q 999 ≡ None
    → is_punct 44 c.kind ≡ true → rule ops (st (Has q 999) (frame k ∷ fs) base vs) c rest ≡ goes (st (Wants 999) (frame (k + 1) ∷ fs) base vs)

pub record Run (ops : Table) (fs : List Frame) (frame : ℕ → Frame) (k : ℕ) (base : Trees) (ts us : List Token) (vs ws : Numbering) (items : Trees) : Type 0 where
  pub priority : ℕ
  pub before : ℕ
  pub counts : before + 1 ≡ k + count items
  pub stays : Rests ops priority 999 us
  pub runs : run ops false (st (Wants 999) (frame k ∷ fs) base vs) ts ≡ run ops false (st (Has priority 999) (frame before ∷ fs) (all_over items base) ws) us

mutual
  pub reads_runs : {ops : Table} {m q : ℕ} {ts us : List Token} {vs ws : Numbering} {t : Tree} → Reads ops m ts vs q t us ws
      → (fs : List Frame) (base : Trees) → run ops false (st (Wants m) fs base vs) ts ≡ run ops false (st (Has q m) fs (more t base) ws) us
  reads_runs (r.term p c h) fs base = primary_runs p fs base ∙ chain_runs c fs base

  pub chain_runs : {ops : Table} {m q s : ℕ} {ts us : List Token} {vs ws : Numbering} {t w : Tree} → Chain ops m ts vs q t s w us ws
      → (fs : List Frame) (base : Trees) → run ops false (st (Has q m) fs (more t base) vs) ts ≡ run ops false (st (Has s m) fs (more w base) ws) us
  chain_runs r.stays fs base = refl
  chain_runs {ops} {m} {q} {t = t} (r.over_two {r = n} {ts = ts} {us = us} {vs = vs} {ws = ws} {u = u} a f p right x d e) fs base =
      one_step ops (st (Has q m) fs (more t base) vs) (st (Wants right) (Infixed f p m ∷ fs) (more t base) vs) a ts (extension_rule ops q m fs (more t base) vs a ts (OverTwo f p right) x)
      ∙ reads_runs d (Infixed f p m ∷ fs) (more t base)
      ∙ infix_closes ops fs base n m p right f t u ws us (reads_rests d)
      ∙ chain_runs e fs base
  chain_runs {ops} {m} {q} {t = t} (r.over_one {ts = ts} {vs = vs} a f p x e) fs base =
      one_step ops (st (Has q m) fs (more t base) vs) (st (Has p m) fs (more (compound f (more t none)) base) vs) a ts (extension_rule ops q m fs (more t base) vs a ts (OverOne f p) x)
      ∙ chain_runs e fs base

  pub sequence_runs : {ops : Table} {ts us : List Token} {vs ws : Numbering} {items : Trees} → Sequence ops ts vs items us ws
      → (fs : List Frame) (frame : ℕ → Frame) (limit : ℕ) → Commas ops fs frame limit → (k : ℕ) (base : Trees) → k + count items ≤ limit + 1
      → Run ops fs frame k base ts us vs ws items
  sequence_runs (r.last {q = q} d) fs frame limit commas k base h =
      record { priority = q; before = k; counts = omega arith; stays = reads_rests d; runs = reads_runs d (frame k ∷ fs) base }
  sequence_runs {ops} (r.further {q = q} {ts = ts} {us = us} {vs = vs} {ws = ws} {t = t} {rest = rest} c d e s) fs frame limit commas k base h =
      let some : 0 < count rest = sequence_some s in
      let low : k < limit = omega arith in
      let fits : k + 1 + count rest ≤ limit + 1 = omega arith in
      let i = sequence_runs s fs frame limit commas (k + 1) (more t base) fits in
      record {
        priority = i.priority;
        before = i.before;
        counts = omega (arith, i.counts);
        stays = i.stays;
        runs = reads_runs d (frame k ∷ fs) base
            ∙ one_step ops (st (Has q 999) (frame k ∷ fs) (more t base) ws) (st (Wants 999) (frame (k + 1) ∷ fs) (more t base) ws) c us (commas q k (more t base) ws c us low (reads_rests d) e)
            ∙ i.runs;
      }

  sequence_some : {ops : Table} {ts us : List Token} {vs ws : Numbering} {items : Trees} → Sequence ops ts vs items us ws → 0 < count items
  sequence_some (r.last d) = omega arith
  sequence_some (r.further c d e s) = omega arith

  pub primary_runs : {ops : Table} {m q : ℕ} {ts us : List Token} {vs ws : Numbering} {t : Tree} → Primary ops m ts vs q t us ws
      → (fs : List Frame) (base : Trees) → run ops false (st (Wants m) fs base vs) ts ≡ run ops false (st (Has q m) fs (more t base) ws) us
  primary_runs {ops} (r.call {m = m} {ts = ts} {us = us} {vs = vs} {ws = ws} {args = args} a b c f n k s e few) fs base =
      let i = sequence_runs s fs (λ k. Arguments f k m) 254 (λ q k base vs c rest low stays comma. argument_comma ops q fs base vs c rest stays f k m (lt-test k 254 low) comma) 0 base (omega arith) in
      let j : i.before + 1 ≡ count args = omega (arith, i.counts) in
      two_step ops (st (Wants m) fs base vs) (st (Wants 999) (Arguments f 0 m ∷ fs) base vs) a b ts (call_rule ops m fs base vs a (b ∷ ts) f n k)
      ∙ i.runs
      ∙ one_step ops (st (Has i.priority 999) (Arguments f i.before m ∷ fs) (all_over args base) ws) (st (Has 0 m) fs (made f (i.before + 1) (all_over args base)) ws) c us
      (argument_close ops i.priority fs (all_over args base) ws c us i.stays f i.before m e)
      ∙ ap (λ x. run ops false (st (Has 0 m) fs x ws) us) (ap (λ n. made f n (all_over args base)) j ∙ made-all f args base)
  primary_runs {ops} (r.negative {m = m} {ts = ts} {vs = vs} a b f n k l few) fs base =
      two_step ops (st (Wants m) fs base vs) (st (Has 0 m) fs (more (integer (pos 0 -ℤ pos (value_of b.kind))) base) vs) a b ts
      (negative_rule ops m fs base vs a (b ∷ ts) f n k l (le-test (value_of b.kind) 0x8000_0000_0000_0000 few))
  primary_runs {ops} (r.applied {m = m} {q = q} {ts = ts} {us = us} {vs = vs} {ws = ws} {t = t} a f b n k l o w low d) fs base =
      one_step ops (st (Wants m) fs base vs) (st (Wants b.operand) (Prefixed f b.priority m ∷ fs) base vs) a ts (applied_rule ops m fs base vs a ts f b n k l o w (le-test b.priority m low))
      ∙ reads_runs d (Prefixed f b.priority m ∷ fs) base
      ∙ prefix_closes ops fs base q m b.priority b.operand f t ws us (reads_rests d)
  primary_runs {ops} (r.plain {m = m} {ts = ts} {vs = vs} a f n k l o) fs base =
      one_step ops (st (Wants m) fs base vs) (st (Has 0 m) fs (more (atom f) base) vs) a ts (plain_rule ops m fs base vs a ts f n k l o)
  primary_runs {ops} (r.number {m = m} {ts = ts} {vs = vs} a n e few) fs base =
      one_step ops (st (Wants m) fs base vs) (st (Has 0 m) fs (more (integer (pos n)) base) vs) a ts (number_rule ops m fs base vs a ts n e (lt-test n 0x8000_0000_0000_0000 few))
  primary_runs {ops} (r.named {m = m} {ts = ts} {vs = vs} a v e) fs base =
      one_step ops (st (Wants m) fs base vs) (st (Has 0 m) fs (more (variable (numbered v vs)) base) (met v vs)) a ts (variable_rule ops m fs base vs a ts v e)
  primary_runs {ops} (r.text {m = m} {ts = ts} {vs = vs} a bs e) fs base =
      one_step ops (st (Wants m) fs base vs) (st (Has 0 m) fs (text_codes bs base) vs) a ts (codes_rule ops m fs base vs a ts bs e)
      ∙ ap (λ x. run ops false (st (Has 0 m) fs x vs) ts) (codes-made bs base)
  primary_runs {ops} (r.paren {m = m} {q = q} {ts = ts} {us = us} {vs = vs} {ws = ws} {t = t} a c e d k) fs base =
      one_step ops (st (Wants m) fs base vs) (st (Wants 1200) (Paren m ∷ fs) base vs) a ts (paren_rule ops m fs base vs a ts e)
      ∙ reads_runs d (Paren m ∷ fs) base
      ∙ one_step ops (st (Has q 1200) (Paren m ∷ fs) (more t base) ws) (st (Has 0 m) fs (more t base) ws) c us (in_paren ops q 1200 fs (more t base) ws c us (reads_rests d) m k)
  primary_runs {ops} (r.empty_list {m = m} {ts = ts} {vs = vs} a b e k) fs base =
      two_step ops (st (Wants m) fs base vs) (st (Has 0 m) fs (more (atom (codes "[]")) base) vs) a b ts (empty_list_rule ops m fs base vs a (b ∷ ts) e (next_closes 93 b ts k))
  primary_runs {ops} (r.empty_braces {m = m} {ts = ts} {vs = vs} a b e k) fs base =
      two_step ops (st (Wants m) fs base vs) (st (Has 0 m) fs (more (atom (codes "{}")) base) vs) a b ts (empty_braces_rule ops m fs base vs a (b ∷ ts) e (next_closes 125 b ts k))
  primary_runs {ops} (r.list {m = m} {ts = ts} {us = us} {vs = vs} {ws = ws} {items = items} a c e n s k) fs base =
      let i = sequence_runs s fs (λ k. Items k m) (count items) (λ q k base vs c rest low stays comma. item_comma ops q fs base vs c rest stays k m comma) 0 base (omega arith) in
      let j : i.before + 1 ≡ count items = omega (arith, i.counts) in
      one_step ops (st (Wants m) fs base vs) (st (Wants 999) (Items 0 m ∷ fs) base vs) a ts (list_rule ops m fs base vs a ts e n)
      ∙ i.runs
      ∙ one_step ops (st (Has i.priority 999) (Items i.before m ∷ fs) (all_over items base) ws) (st (Has 0 m) fs (cells (i.before + 1) (more (atom (codes "[]")) (all_over items base))) ws) c us
      (item_close ops i.priority fs (all_over items base) ws c us i.stays i.before m k)
      ∙ ap (λ x. run ops false (st (Has 0 m) fs x ws) us) (ap (λ n. cells n (more (atom (codes "[]")) (all_over items base))) j ∙ cells-items items base (atom (codes "[]")))
  primary_runs {ops} (r.list_with_tail {m = m} {q = q} {ts = ts} {us = us} {xs = xs} {vs = vs} {ws = ws} {ys = ys} {items = items} {t = t} a b c e n s k d l) fs base =
      let i = sequence_runs s fs (λ k. Items k m) (count items) (λ q k base vs c rest low stays comma. item_comma ops q fs base vs c rest stays k m comma) 0 base (omega arith) in
      let j : i.before + 1 ≡ count items = omega (arith, i.counts) in
      one_step ops (st (Wants m) fs base vs) (st (Wants 999) (Items 0 m ∷ fs) base vs) a ts (list_rule ops m fs base vs a ts e n)
      ∙ i.runs
      ∙ one_step ops (st (Has i.priority 999) (Items i.before m ∷ fs) (all_over items base) ws) (st (Wants 999) (Tail (i.before + 1) m ∷ fs) (all_over items base) ws) b us
      (item_bar ops i.priority fs (all_over items base) ws b us i.stays i.before m k)
      ∙ reads_runs d (Tail (i.before + 1) m ∷ fs) (all_over items base)
      ∙ one_step ops (st (Has q 999) (Tail (i.before + 1) m ∷ fs) (more t (all_over items base)) ys) (st (Has 0 m) fs (cells (i.before + 1) (more t (all_over items base))) ys) c xs
      (in_tail ops q 999 fs (more t (all_over items base)) ys c xs (reads_rests d) (i.before + 1) m l)
      ∙ ap (λ x. run ops false (st (Has 0 m) fs x ys) xs) (ap (λ n. cells n (more t (all_over items base))) j ∙ cells-items items base t)
  primary_runs {ops} (r.braces {m = m} {q = q} {ts = ts} {us = us} {vs = vs} {ws = ws} {t = t} a c e n d k) fs base =
      one_step ops (st (Wants m) fs base vs) (st (Wants 1200) (Braces m ∷ fs) base vs) a ts (braces_rule ops m fs base vs a ts e n)
      ∙ reads_runs d (Braces m ∷ fs) base
      ∙ one_step ops (st (Has q 1200) (Braces m ∷ fs) (more t base) ws) (st (Has 0 m) fs (more (compound (codes "{}") (more t none)) base) ws) c us (in_braces ops q 1200 fs (more t base) ws c us (reads_rests d) m k)

-- What reads as a term is what read gives.
pub read_gives : (ops : Table) (ts : List Token) (q : ℕ) (t : Tree) (ws : Numbering) → Reads ops 1200 ts no_variables q t [] ws
    → g.read ops ts ≡ Ok (record { terms = more t none; variables = ws })
unfolding at_end
read_gives ops ts q t ws d = reads_runs d [] none

found_same : (x y : Found) → ◌≡◌ {A = Result Found Fault} (Ok x) (Ok y) → x ≡ y
found_same x y e = cc

pub reads_once : (ops : Table) (ts : List Token) (p q : ℕ) (t u : Tree) (ws xs : Numbering) → Reads ops 1200 ts no_variables p t [] ws → Reads ops 1200 ts no_variables q u [] xs → t ≡ u
reads_once ops ts p q t u ws xs d e = let a = read_gives ops ts p t ws d in let b = read_gives ops ts q u xs e in
    let x : Found = record { terms = more t none; variables = ws } in
    let y : Found = record { terms = more u none; variables = xs } in
    let j : x ≡ y = found_same x y (sym a ∙ b) in
    let k : more t none ≡ more u none = ap (λ (z : Found). z.terms) j in cc

pub no_reading : (ops : Table) (ts : List Token) (f : Fault) (q : ℕ) (t : Tree) (ws : Numbering) → g.read ops ts ≡ Err f → Reads ops 1200 ts no_variables q t [] ws → ⊥
no_reading ops ts f q t ws e d = let a = read_gives ops ts q t ws d in cc
