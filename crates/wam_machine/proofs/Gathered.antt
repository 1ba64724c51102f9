-- What a `findall` does to the terms, and that it is what the definition does.
use Rattle.std.proofs.Common.{◌≡◌, ℕ, zero, suc, ◌+◌, ◌-◌, ◌<◌, ◌≤◌, List, [], ◌∷◌, ◌++◌, length, drop, drop-cons, drop_of_length-le, get_or, append_assoc, Bool, true, false, refl, sym, ap, ap₂, ◌∙◌, arith, subst, Option, Some, None}
use Rattle.std.specs.Prelude.{map, All, codes}
use Rattle.std.proofs.lemmas.List.{map-append}
use Rattle.std.proofs.lemmas.List.Elements.{All-nil, All-cons, All-head, All-tail, All-append}
use Rattle.prolog_terms.specs.Tree.{Tree, atom}
use Rattle.prolog_terms.specs.Substitutions.{substituted, numbered, renamed, beyond}
use Rattle.prolog_terms.specs.Faults.{two}
use Rattle.term_store.specs.declared.cell.Cell.{Cell}
use Rattle.term_builtins.specs.Meanings.{list_tree}
use Rattle.term_unifier.specs.Unifier.{unifier}
use Rattle.wam_machine.specs.States as spec
use Rattle.wam_machine.specs.States.{Setting, State, Outcome, Goes, Going, fails, solving, next_under}
use Rattle.wam_machine.specs.Machine.{gathered, found_at, new_copies, behind_copies, move}
use Rattle.wam_machine.specs.Terms.{Said, OfFindall, AreTerms, IsBuilt, IsGrown, KeepsCells, IsSolved, said, built, calls_in, found_in}
use Rattle.wam_machine.specs.View.{Acts, stack_of, state_from, state_with, mode_of}
use Rattle.wam_machine.specs.declared.state.Machine.{Machine}
use Rattle.wam_machine.specs.declared.state.Mode.{Mode}
use Rattle.wam_machine.specs.declared.state.Mode.TheVariants.{Going as IsGoing, Failing as IsFailing}
use Rattle.wam_machine.specs.declared.terms.Terms.{Terms}
use Rattle.wam_machine.proofs.Acted.{acts, cells-on, calls-beside}
use Rattle.wam_machine.proofs.Built.{grown-further}
use Rattle.wam_machine.proofs.FoundKept.{calls-found, found-newest}
use Rattle.wam_machine.proofs.Resumed.{moment, came_back}

-- ---- cells that stand for what they stood for

kept-all : {C : Type 0} (a b : Terms C) (cs : List Cell) → KeepsCells a b → All (IsBuilt a) cs → All (IsBuilt b) cs
kept-all a b [] k h = All-nil (IsBuilt b)
kept-all a b (c ∷ cs) k h = All-cons (IsBuilt b) c cs (k c (All-head (IsBuilt a) c cs h)).0 (kept-all a b cs k (All-tail (IsBuilt a) c cs h))

kept-map : {C : Type 0} (a b : Terms C) (cs : List Cell) → KeepsCells a b → All (IsBuilt a) cs → map (built b) cs ≡ map (built a) cs
kept-map a b [] k h = refl
kept-map a b (c ∷ cs) k h = ap₂ (λ (t : Tree) (ts : List Tree). t ∷ ts) (k c (All-head (IsBuilt a) c cs h)).1 (kept-map a b cs k (All-tail (IsBuilt a) c cs h))

-- ---- copies are put, one after the other

-- some copies are put, and these are left
pub record IsPutting {C : Type 0} (old now : Terms C) (cells : List Cell) (left found : List Tree) : Type 0 where
  pub terms : AreTerms now
  pub said_is : said now ≡ record (said old) { fresh = (said now).fresh }
  pub behind : behind_copies (said now).fresh left ≡ behind_copies (said old).fresh found
  pub kept : KeepsCells old now
  pub are : All (IsBuilt now) cells
  pub copies : map (built now) cells ++ new_copies (said now).fresh left ≡ new_copies (said old).fresh found

module _ {C : Type 0} (old : Terms C) (found : List Tree) where
  pub putting-first : (cells : List Cell) → cells ≡ [] → AreTerms old → IsPutting old old cells found found
  putting-first cells e terms = record {
    terms = terms;
    said_is = refl;
    behind = refl;
    kept = λ c h. (h, refl);
    are = subst (All (IsBuilt old)) (sym e) (All-nil (IsBuilt old));
    copies = ap (λ (cs : List Cell). map (built old) cs ++ new_copies (said old).fresh found) e;
  }

  pub putting-next : (now next : Terms C) (cells longer : List Cell) (cell : Cell) (copy : Tree) (left rest : List Tree) → IsPutting old now cells left found → left ≡ copy ∷ rest
      → AreTerms next → said next ≡ record (said now) { fresh = (said now).fresh + beyond copy } → KeepsCells now next → IsBuilt next cell → built next cell ≡ renamed (said now).fresh copy → longer ≡ cells ++ cell ∷ []
      → IsPutting old next longer rest found
  putting-next now next cells longer cell copy left rest p e terms is keeps has ball m =
      let fresh : (said next).fresh ≡ (said now).fresh + beyond copy = ap (λ (s : Said C). s.fresh) is in
      let at : map (built next) (cells ++ cell ∷ []) ++ new_copies (said next).fresh rest ≡ new_copies (said old).fresh found =
      ap (λ (ts : List Tree). ts ++ new_copies (said next).fresh rest) (map-append (built next) cells (cell ∷ []))
      ∙ append_assoc (map (built next) cells) (built next cell ∷ []) (new_copies (said next).fresh rest)
      ∙ ap₂ (λ (ts us : List Tree). ts ++ us) (kept-map now next cells keeps p.are)
      (ap₂ (λ (t : Tree) (n : ℕ). t ∷ new_copies n rest) ball fresh)
      ∙ ap (λ (ts : List Tree). map (built now) cells ++ new_copies (said now).fresh ts) (sym e)
      ∙ p.copies
      in
      record {
        terms = terms;
        said_is = is ∙ ap (λ (s : Said C). let r : Said C = record s { fresh = (said now).fresh + beyond copy } in r) p.said_is ∙ ap (λ (n : ℕ). let r : Said C = record (said old) { fresh = n } in r) (sym fresh);
        behind = ap (λ (n : ℕ). behind_copies n rest) fresh ∙ ap (behind_copies (said now).fresh) (sym e) ∙ p.behind;
        kept = cells-on old now next p.kept keeps;
        are = subst (All (IsBuilt next)) (sym m) (All-append (IsBuilt next) cells (cell ∷ []) (kept-all now next cells keeps p.are) (All-cons (IsBuilt next) cell [] has (All-nil (IsBuilt next))));
        copies = ap (λ (cs : List Cell). map (built next) cs ++ new_copies (said next).fresh rest) m ∙ at;
      }

  module _ (now : Terms C) (cells : List Cell) (left : List Tree) (p : IsPutting old now cells left found) (none_left : left ≡ []) where
    pub putting-said : said now ≡ record (said old) { fresh = behind_copies (said old).fresh found }
    putting-said = p.said_is ∙ ap (λ (n : ℕ). let r : Said C = record (said old) { fresh = n } in r) (sym (ap (behind_copies (said now).fresh) none_left) ∙ p.behind)

    pub putting-copies : map (built now) cells ≡ new_copies (said old).fresh found
    putting-copies = sym (ap (λ (ts : List Tree). map (built now) cells ++ new_copies (said now).fresh ts) none_left ∙ append_none (map (built now) cells)) ∙ p.copies
      where
        append_none : (ts : List Tree) → ts ++ [] ≡ ts
        append_none [] = refl
        append_none (t ∷ ts) = ap (λ l. t ∷ l) (append_none ts)

  pub putting-stack : (now : Terms C) (cells : List Cell) (left : List Tree) → IsPutting old now cells left found → (said now).stack ≡ (said old).stack
  putting-stack now cells left p = ap (λ (s : Said C). s.stack) p.said_is

-- ---- the list of cells, from the last

-- what stands at a place doesn't depend on what would stand behind the list
pub same_place : (cs : List Cell) (i : ℕ) (d : Cell) → i < length cs → get_or cs i d ≡ get_or cs i (get_or cs i d)
same_place [] i d low = absurd (omega arith)
same_place (c ∷ cs) zero d low = refl
same_place (c ∷ cs) (suc i) d low = same_place cs i d (omega arith)

-- the list of the cells from a place on
pub record IsListing {C : Type 0} (old now : Terms C) (list : Cell) (cells : List Cell) (left : ℕ) : Type 0 where
  pub within : left ≤ length cells
  pub grown : IsGrown old now
  pub cell : IsBuilt now list
  pub term : built now list ≡ list_tree (map (built old) (drop left cells))

module _ {C : Type 0} (old : Terms C) (cells : List Cell) where
  pub listing-first : (now : Terms C) (list : Cell) (n : ℕ) → n ≡ length cells → IsGrown old now → IsBuilt now list → built now list ≡ atom (codes "[]") → IsListing old now list cells n
  listing-first now list n e grown has is = record {
    within = omega (arith, e);
    grown = grown;
    cell = has;
    term = is ∙ ap (λ (cs : List Cell). list_tree (map (built old) cs)) (sym (drop_of_length-le cells (omega (arith, e))));
  }

  pub pair_built : (now : Terms C) (list : Cell) (left i : ℕ) (cell : Cell) → IsListing old now list cells left → All (IsBuilt old) cells → i < length cells → cell ≡ get_or cells i cell
      → All (IsBuilt now) (cell ∷ list ∷ [])
  pair_built now list left i cell p h low here =
      All-cons (IsBuilt now) cell (list ∷ []) (p.grown.cells cell (subst (IsBuilt old) (sym here) (h i cell low))).0 (All-cons (IsBuilt now) list [] p.cell (All-nil (IsBuilt now)))

  pub listing-next : (now next : Terms C) (list made : Cell) (left i : ℕ) (cell : Cell) → IsListing old now list cells left → All (IsBuilt old) cells → 0 < left → i ≡ left - 1 → cell ≡ get_or cells i cell
      → IsGrown now next → IsBuilt next made → built next made ≡ two (codes ".") (built now cell) (built now list) → IsListing old next made cells i
  listing-next now next list made left i cell p h some less here grown has is =
      let inside : i < length cells = let a = p.within in omega (arith, some, less, a) in
      let up : suc i ≡ left = omega (arith, some, less) in
      let cut : drop i cells ≡ cell ∷ drop left cells = drop-cons cells i cell inside ∙ ap (λ (c : Cell). c ∷ drop (suc i) cells) (sym here) ∙ ap (λ (n : ℕ). cell ∷ drop n cells) up in
      record {
        within = omega (arith, inside);
        grown = grown-further old now next p.grown grown;
        cell = has;
        term = is ∙ ap₂ (λ (t u : Tree). two (codes ".") t u) (p.grown.cells cell (subst (IsBuilt old) (sym here) (h i cell inside))).1 p.term
            ∙ ap (λ (cs : List Cell). list_tree (map (built old) cs)) (sym cut);
      }

  pub listing-done : (now : Terms C) (list : Cell) (left : ℕ) → IsListing old now list cells left → left ≤ 0 → built now list ≡ list_tree (map (built old) cells)
  listing-done now list left p low = p.term ∙ ap (λ (n : ℕ). list_tree (map (built old) (drop n cells))) (nothing low)
    where
      nothing : left ≤ 0 → left ≡ 0
      nothing l = omega (arith, l)

-- ---- as the definition does

module _ {C : Type 0} (m new : Machine C) where
  -- a copy is kept, and that is a failure
  pub acts-found : (h : ℕ) (copy x : Tree) → AreTerms new.terms → new ≡ record m { mode = IsFailing; terms = new.terms } → said new.terms ≡ record (said m.terms) { stack = found_in h copy (said m.terms).stack }
      → copy ≡ numbered x → Acts (λ s. fails (record s { stack = found_at h (numbered x) s.stack })) m new
  acts-found h copy x terms same is e =
      let o = said m.terms in
      let mode_is : new.mode ≡ IsFailing = ap (λ (k : Machine C). k.mode) same in
      acts m new terms (same ∙ ap (λ (md : Mode). let k : Machine C = record m { mode = md; terms = new.terms } in k) (sym mode_is))
      (λ s. fails (record s { stack = found_at h (numbered x) s.stack })) (record o { stack = found_in h copy o.stack }) is refl (calls-found h copy o.stack)
      (λ rest at j steps events front looks tried fronts.
      ap (λ (cs : List spec.Choice). Goes (state_from o.goals cs o.bindings o.fresh spec.Failing steps events front looks tried fronts))
      (ap (λ (t : Tree). found_at h t (stack_of rest at j o.stack)) (sym e) ∙ found-newest rest at j copy h o.stack)
      ∙ ap (λ (md : Mode). Goes (state_from o.goals (stack_of rest at j (found_in h copy o.stack)) o.bindings o.fresh (mode_of md) steps events front looks tried fronts)) (sym mode_is))

  -- what was made one, with what it stood for before
  pub solved-there : (t : Terms C) (list made : Cell) (found : List Tree) (done : Bool) → said t ≡ record (said m.terms) { fresh = behind_copies (said m.terms).fresh found }
      → built t list ≡ built m.terms list → built t made ≡ list_tree (new_copies (said m.terms).fresh found) → IsSolved [] (said t) (said new.terms) done (unifier (built t list) (built t made))
      → IsSolved [] (record (said m.terms) { fresh = behind_copies (said m.terms).fresh found }) (said new.terms) done (unifier (built m.terms list) (list_tree (new_copies (said m.terms).fresh found)))
  solved-there t list made found done is same_list e h =
      subst (λ (u : Tree). IsSolved [] (record (said m.terms) { fresh = behind_copies (said m.terms).fresh found }) (said new.terms) done (unifier (built m.terms list) u)) e
      (subst (λ (u : Tree). IsSolved [] (record (said m.terms) { fresh = behind_copies (said m.terms).fresh found }) (said new.terms) done (unifier u (built t made))) same_list
      (subst (λ (s : Said C). IsSolved [] s (said new.terms) done (unifier (built t list) (built t made))) is h))

  -- the lists are made one
  pub acts-gathered : (list : Tree) (found : List Tree) → AreTerms new.terms → new ≡ record m { mode = IsGoing; terms = new.terms }
      → (u : Option (ℕ → Tree)) → unifier list (list_tree (new_copies (said m.terms).fresh found)) ≡ u
      → IsSolved [] (record (said m.terms) { fresh = behind_copies (said m.terms).fresh found }) (said new.terms) true u
      → Acts (λ s. gathered list found (record s { mode = Going })) m new
  acts-gathered list found terms same None e h = let t : true ≡ false = h.0 in absurd cc
  acts-gathered list found terms same (Some b) e h =
      let o = said m.terms in
      let fresh : ℕ = behind_copies o.fresh found in
      let bound : Said C = record o { fresh = fresh; goals = map (next_under b) o.goals; bindings = λ v. substituted b (o.bindings v) } in
      let mode_is : new.mode ≡ IsGoing = ap (λ (k : Machine C). k.mode) same in
      acts m new terms (same ∙ ap (λ (md : Mode). let k : Machine C = record m { mode = md; terms = new.terms } in k) (sym mode_is))
      (λ s. gathered list found (record s { mode = Going })) bound h.1 refl refl
      (λ rest at j steps events front looks tried fronts.
      let s : State = state_from o.goals (stack_of rest at j o.stack) o.bindings fresh Going steps events front looks tried fronts in
      ap (λ (k : Option (ℕ → Tree)). solving [] s k) e
      ∙ ap (λ (md : Mode). Goes (state_with rest at j bound (mode_of md) steps events front looks tried fronts)) (sym mode_is))

  -- they have no unifier
  pub acts-apart : (list : Tree) (found : List Tree) → AreTerms new.terms → new ≡ record m { mode = IsFailing; terms = new.terms }
      → (u : Option (ℕ → Tree)) → unifier list (list_tree (new_copies (said m.terms).fresh found)) ≡ u
      → IsSolved [] (record (said m.terms) { fresh = behind_copies (said m.terms).fresh found }) (said new.terms) false u
      → Acts (λ s. gathered list found (record s { mode = Going })) m new
  acts-apart list found terms same None e h =
      let o = said m.terms in
      let fresh : ℕ = behind_copies o.fresh found in
      let mode_is : new.mode ≡ IsFailing = ap (λ (k : Machine C). k.mode) same in
      acts m new terms (same ∙ ap (λ (md : Mode). let k : Machine C = record m { mode = md; terms = new.terms } in k) (sym mode_is))
      (λ s. gathered list found (record s { mode = Going })) (record o { fresh = fresh }) h.1 refl refl
      (λ rest at j steps events front looks tried fronts.
      let s : State = state_from o.goals (stack_of rest at j o.stack) o.bindings fresh Going steps events front looks tried fronts in
      ap (λ (k : Option (ℕ → Tree)). solving [] s k) e
      ∙ ap (λ (md : Mode). Goes (state_from o.goals (stack_of rest at j o.stack) o.bindings fresh (mode_of md) steps events front looks tried fronts)) (sym mode_is))
  acts-apart list found terms same (Some b) e h = let t : false ≡ true = h.0 in absurd cc

  -- a failure came back to the mark
  pub passed-findall : (x : Setting) (t : Terms C) (list : Tree) (found : List Tree) → m.mode ≡ IsFailing → (said m.terms).stack ≡ (said t).stack ++ moment (OfFindall list found) (said t) ∷ []
      → (said t).fresh ≡ (said m.terms).fresh → (said t).shown ≡ (said m.terms).shown → Acts (λ s. gathered list found (record s { mode = Going })) (record m { terms = t }) new → Acts (move x) m new
  passed-findall x t list found failing is fresh shown a = record {
    terms = a.terms;
    same = a.same;
    shown = a.shown ∙ shown;
    calls_are = a.calls_are ∙ sym (ap calls_in is ∙ calls-beside (said t).stack (moment (OfFindall list found) (said t)) refl);
    goes = λ rest at j looks tried fronts.
        came_back x m failing rest at j looks tried fronts (said t).stack (moment (OfFindall list found) (said t)) is
        ∙ ap (λ (f : ℕ). gathered list found (state_from (said t).goals (stack_of rest at j (said t).stack) (said t).bindings f Going m.steps m.events.items m.front looks tried fronts)) (sym fresh)
        ∙ a.goes rest at j looks tried fronts;
  }
