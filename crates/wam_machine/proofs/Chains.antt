-- A longer journal has no shorter chains, and a look that is fair after a front is fair after an earlier one.
use Rattle.std.proofs.Common.{◌≡◌, ℕ, suc, ◌+◌, ◌≤◌, [], ◌∷◌, ◌++◌, length, take, drop, Bool, true, false, cond, refl, sym, ap, ◌∙◌, subst, arith}
use Rattle.std.specs.Prelude.{filter, reverse, slice_get}
use Rattle.std.specs.Option.{option_map_or}
use Rattle.std.proofs.lemmas.List.{take-take, take-append-drop, length-append, length-reverse}
use Rattle.std.proofs.lemmas.List.Elements.{filter-append}
use Rattle.prolog_terms.specs.declared.entry.Entry.{Entry}
use Rattle.prolog_terms.specs.declared.entry.End.{End}
use Rattle.prolog_terms.specs.declared.entry.End.TheVariants.{Front, Back}
use Rattle.journals.specs.Numbers.{numbers_from}
use Rattle.journals.specs.Journal.{Journal, adds_to, adds_at, additions, chain}
use Rattle.journal_base.specs.Goals.{Goal}
use Rattle.journal_base.specs.Looks.{IsFair, IsFairScan}
use Rattle.journal_base.specs.declared.cause.How.{How}
use Rattle.journal_base.specs.declared.cause.How.TheVariants.{Indexed, Scanned}
use Rattle.journal_base.specs.declared.cause.Cause.{Cause}
use Rattle.journal_base.specs.declared.cause.Cause.TheVariants.{Plain, Few, Crowded, Claimed, Barred, NoPlace, Passed, NoMemory, Built}

-- the numbers of the entries that pass are as many as the entries that pass
counted : (passes : Entry → Bool) (test : ℕ → Bool) (J : Journal) (s : ℕ) → ((k : ℕ) → test (s + k) ≡ option_map_or passes (slice_get J k) false)
    → length (filter test (numbers_from s (length J))) ≡ length (filter passes J)
counted passes test [] s h = refl
counted passes test (x ∷ J) s h =
    let here : test s ≡ passes x = ap test (let e : s ≡ s + 0 = omega arith in e) ∙ h 0 in
    one (test s) (passes x) here (counted passes test J (s + 1) (λ k. ap test (let e : s + 1 + k ≡ s + suc k = omega arith in e) ∙ h (suc k)))
  where
    one : (a b : Bool) → a ≡ b → length (filter test (numbers_from (s + 1) (length J))) ≡ length (filter passes J)
        → length (cond a (s ∷ filter test (numbers_from (s + 1) (length J))) (filter test (numbers_from (s + 1) (length J)))) ≡ length (cond b (x ∷ filter passes J) (filter passes J))
    one true true e later = ap suc later
    one false false e later = later
    one true false e later = absurd cc
    one false true e later = absurd cc

adding : (J : Journal) (e : End) (p : ℕ) → length (additions J e p) ≡ length (filter (λ x. adds_to e p x.what) J)
adding J e p = counted (λ x. adds_to e p x.what) (adds_at J e p) J 0 (λ k. ap (adds_at J e p) (let f : 0 + k ≡ k = omega arith in f))

fewer : (passes : Entry → Bool) (J : Journal) (n : ℕ) → length (filter passes (take n J)) ≤ length (filter passes J)
fewer passes J n =
    let e : filter passes J ≡ filter passes (take n J) ++ filter passes (drop n J) =
    ap (filter passes) (sym (take-append-drop n J)) ∙ filter-append passes (take n J) (drop n J) in
    omega (arith, ap length e, length-append (filter passes (take n J)) (filter passes (drop n J)))

chain_counted : (J : Journal) (p : ℕ) → length (chain J p) ≡ length (filter (λ x. adds_to Front p x.what) J) + length (filter (λ x. adds_to Back p x.what) J)
chain_counted J p =
    length-append (reverse (additions J Front p)) (additions J Back p)
    ∙ ap (λ n. n + length (additions J Back p)) (length-reverse (additions J Front p) ∙ adding J Front p)
    ∙ ap (λ n. length (filter (λ x. adds_to Front p x.what) J) + n) (adding J Back p)

-- a longer journal has no shorter chains
pub chain_grows : (J : Journal) (a b p : ℕ) → a ≤ b → length (chain (take a J) p) ≤ length (chain (take b J) p)
chain_grows J a b p le =
    subst (λ l. length (chain l p) ≤ length (chain (take b J) p)) (take-take a b J le)
    (let front : length (filter (λ x. adds_to Front p x.what) (take a (take b J))) ≤ length (filter (λ x. adds_to Front p x.what) (take b J)) = fewer _ (take b J) a in
    let back : length (filter (λ x. adds_to Back p x.what) (take a (take b J))) ≤ length (filter (λ x. adds_to Back p x.what) (take b J)) = fewer _ (take b J) a in
    omega (arith, front, back, chain_counted (take a (take b J)) p, chain_counted (take b J) p))

fair_scan : (J : Journal) (a b p : ℕ) (c : Cause) → a ≤ b → IsFairScan b p J c → IsFairScan a p J c
fair_scan J a b p Plain le h = tt
fair_scan J a b p Few le h = let fewer_here : length (chain (take a J) p) ≤ length (chain (take b J) p) = chain_grows J a b p le in omega arith
fair_scan J a b p Crowded le h = tt
fair_scan J a b p (Claimed w) le h = tt
fair_scan J a b p (Barred m) le h = tt
fair_scan J a b p NoPlace le h = tt
fair_scan J a b p (Passed w) le h = tt
fair_scan J a b p NoMemory le h = tt
fair_scan J a b p (Built m) le h = tt

-- what is fair after a front is fair after an earlier one
pub fair_before : (J : Journal) (a b : ℕ) (g : Goal) (how : How) → a ≤ b → IsFair b g how J → IsFair a g how J
fair_before J a b g (Indexed by) le h = h
fair_before J a b g (Scanned c) le h = fair_scan J a b g.procedure c le h
