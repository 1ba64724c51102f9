-- From the first move to the end.
use Rattle.std.proofs.Common.{◌≡◌, ℕ, ◌+◌, List, [], ◌∷◌, ◌++◌, length, take, drop, refl, sym, ap, ap₂, ◌∙◌, arith, subst, append-nil, append_assoc, length-append}
use Rattle.std.specs.List.{sum_by, AllZip}
use Rattle.std.proofs.lemmas.List.Elements.{filter_map-append}
use Rattle.std.proofs.lemmas.List.Sums.{sum_by-append}
use Rattle.prolog_terms.specs.Tree.{Tree}
use Rattle.prolog_terms.specs.declared.shown.Shown.{Shown}
use Rattle.journal_base.specs.Goals.{Goal}
use Rattle.journals.specs.Journal.{Journal}
use Rattle.journal_base.specs.Looks.{allowance, scans_of, kept_of, wants_of}
use Rattle.journal_base.specs.declared.cause.How.{How}
use Rattle.journal_base.specs.declared.tally.Tally.{Tally}
use Rattle.prolog_terms.specs.declared.entry.Entry.{Entry}
use Rattle.journal_base.specs.View.{entries_by}
use Rattle.wam_machine.specs.States.{Look, Setting, looks_in, look_in, entry_in}
use Rattle.wam_machine.specs.Machine.{Runs, ends, goes, move, beginning}
use Rattle.wam_machine.specs.Runs.{IsFairLook, allowances, report_of, IsTranscribed}
use Rattle.wam_machine.specs.View.{state_of, Works, GoesOn, ComesToEnd, IsLed, IsBeginning, no_tally, run_of, calls}
use Rattle.wam_machine.specs.declared.run.Goal.{Goal as Started}
use Rattle.wam_machine.specs.declared.run.RunEnd.{RunEnd}
use Rattle.wam_machine.specs.Terms.{Left, Said, calls_in}
use Rattle.wam_machine.specs.declared.state.Machine.{Machine}

-- ---- lists that go on

zip-append : {A B : Type 0} (R : A → B → Type 0) (xs xs' : List A) (ys ys' : List B) → AllZip R xs ys → AllZip R xs' ys' → AllZip R (xs ++ xs') (ys ++ ys')
zip-append R [] xs' [] ys' h k = k
zip-append R [] xs' (y ∷ ys) ys' h k = absurd h
zip-append R (x ∷ xs) xs' [] ys' h k = absurd h
zip-append R (x ∷ xs) xs' (y ∷ ys) ys' h k = (h.0, zip-append R xs xs' ys ys' h.1 k)

allowances-append : (R : Look → How → Type 0) (J : Journal) (ls ls' : List Look) (hs hs' : List How) → AllZip R ls hs → allowances J (ls ++ ls') (hs ++ hs') ≡ allowances J ls hs + allowances J ls' hs'
allowances-append R J [] ls' [] hs' h = zero_more (allowances J ls' hs')
  where
    zero_more : (n : ℕ) → n ≡ 0 + n
    zero_more n = omega arith
allowances-append R J [] ls' (y ∷ hs) hs' h = absurd h
allowances-append R J (l ∷ ls) ls' [] hs' h = absurd h
allowances-append R J (l ∷ ls) ls' (y ∷ hs) hs' h =
    ap (λ n. allowance (take l.front J) l.call y + n) (allowances-append R J ls ls' hs hs' h.1) ∙ regroup (allowance (take l.front J) l.call y) (allowances J ls hs) (allowances J ls' hs')
  where
    regroup : (a b c : ℕ) → a + (b + c) ≡ a + b + c
    regroup a b c = omega arith

module _ {C : Type 0} (rest : C → Goal → Journal → List ℕ) (may : C → Goal → Journal → ℕ) (at : C → ℕ) (ahead : C → ℕ) (causes : List ℕ) where
  works-on : (j : Journal) (a b c : Tally) (x y z : List (Left C)) (ls ls' : List Look) (hs hs' : List How) (n m : ℕ)
      → Works may at ahead causes j a b x y ls hs n → Works may at ahead causes j b c y z ls' hs' m → Works may at ahead causes j a c x z (ls ++ ls') (hs ++ hs') (n + m)
  works-on j a b c x y z ls ls' hs hs' n m f s = record {
    fair = zip-append (IsFairLook causes j) ls ls' hs hs' f.fair s.fair;
    looks = omega (arith, f.looks, s.looks, length-append ls ls');
    scans = omega (arith, f.scans, s.scans, sum_by-append scans_of hs hs');
    kept = omega (arith, f.kept, s.kept, sum_by-append kept_of hs hs');
    wants = omega (arith, f.wants, s.wants, sum_by-append wants_of hs hs');
    most = omega (arith, f.most, s.most, allowances-append (IsFairLook causes j) j ls ls' hs hs' f.fair);
    least = omega (arith, f.least, s.least);
    unbuilt = λ plain. ((s.unbuilt plain).0 ∙ (f.unbuilt plain).0, (s.unbuilt plain).1 ∙ (f.unbuilt plain).1);
  }

  pub leads_on : (made more : List Entry) (x : Setting) (goal : Tree) (m new : Machine C) → IsLed rest may at ahead causes made x goal m → GoesOn rest may at ahead causes more (move x) x.journal m new
      → IsLed rest may at ahead causes (made ++ more) x goal new
  leads_on made more x goal m new l c = record {
    deeds = l.deeds ++ c.deeds;
    hows = l.hows ++ c.hows;
    tried = l.tried + c.given;
    made_is = filter_map-append entry_in l.deeds c.deeds ∙ ap₂ (λ (es fs : List Entry). es ++ fs) l.made_is c.made_is;
    leads = λ fs r h.
        subst (λ taken. Runs x (beginning x goal taken) r)
        (sym (append_assoc m.fronts.items c.added fs) ∙ ap (λ taken. taken ++ fs) (sym c.fronts_are))
        (l.leads (c.added ++ fs) r (goes (c.goes l.deeds l.tried fs) h));
    works = subst (λ (ls : List Look). Works may at ahead causes x.journal no_tally new.tally [] (calls new) ls (l.hows ++ c.hows) (l.tried + c.given)) (sym (filter_map-append look_in l.deeds c.deeds))
        (works-on x.journal no_tally m.tally new.tally [] (calls m) (calls new) (looks_in l.deeds) (looks_in c.deeds) l.hows c.hows l.tried c.given l.works c.works);
  }

  pub led_at_first : (x : Setting) (goal : Started) (m : Machine C) → IsBeginning goal x.start m → IsLed rest may at ahead causes [] x goal.term m
  led_at_first x goal m b = record {
    deeds = [];
    hows = [];
    tried = 0;
    made_is = refl;
    leads = λ fs r h. subst (λ s. Runs x s r) (same fs) h;
    works = subst (λ t. Works may at ahead causes x.journal no_tally t [] (calls m) [] [] 0) (sym b.tally)
        (subst (λ cs. Works may at ahead causes x.journal no_tally no_tally [] cs [] [] 0) (sym (ap (λ (t : Said C). calls_in t.stack) b.said_is)) none);
  }
    where
      same : (fs : List ℕ) → state_of rest at x.journal m [] 0 fs ≡ beginning x goal.term (m.fronts.items ++ fs)
      same fs = rw (b.mode, b.said_is, b.steps, b.events, b.front, b.fronts) refl

      none : Works may at ahead causes x.journal no_tally no_tally [] [] [] [] 0
      none = record { fair = tt; looks = omega arith; scans = omega arith; kept = omega arith; wants = omega arith; most = omega arith; least = omega arith; unbuilt = λ _. (refl, refl) }

  pub leads_to_end : (made more : List Entry) (x : Setting) (goal : Tree) (shown : List Shown) (m new : Machine C) (end : RunEnd) → entries_by x.engine (drop x.start x.journal) ≡ made ++ more
      → IsLed rest may at ahead causes made x goal m → ComesToEnd rest at more (move x) x m new end → IsTranscribed x causes goal (run_of x.engine shown new end)
  leads_to_end made more x goal shown m new end all l c = record {
    deeds = l.deeds;
    tried = l.tried;
    transcript = record {
      runs =
          subst (λ taken. Runs x (beginning x goal taken) (report_of (run_of x.engine shown new end) l.deeds l.tried))
          (append-nil m.fronts.items ∙ sym c.fronts_are)
          (l.leads [] (report_of (run_of x.engine shown new end) l.deeds l.tried) (ends (c.ends l.deeds l.tried)));
      own = all ∙ ap (λ (es : List Entry). made ++ es) c.made_is ∙ append-nil made ∙ sym l.made_is;
    };
    hows = l.hows;
    fair = l.works.fair;
    counted = ap (λ (t : Tally). t.looks) c.tally_is ∙ l.works.looks ∙ none (length (looks_in l.deeds));
    scanned = ap (λ (t : Tally). t.scans) c.tally_is ∙ l.works.scans ∙ none (sum_by scans_of l.hows);
    kept = ap (λ (t : Tally). t.kept) c.tally_is ∙ l.works.kept ∙ none (sum_by kept_of l.hows);
    wanted = ap (λ (t : Tally). t.wants) c.tally_is ∙ l.works.wants ∙ none (sum_by wants_of l.hows);
    most = let v : new.tally.visits ≡ m.tally.visits = ap (λ (t : Tally). t.visits) c.tally_is in omega (arith, v, l.works.most);
    least = let v : new.tally.visits ≡ m.tally.visits = ap (λ (t : Tally). t.visits) c.tally_is in omega (arith, v, l.works.least);
    unbuilt = λ plain. (ap (λ (t : Tally). t.built) c.tally_is ∙ (l.works.unbuilt plain).0, ap (λ (t : Tally). t.indexes) c.tally_is ∙ (l.works.unbuilt plain).1);
  }
    where
      none : (n : ℕ) → 0 + n ≡ n
      none n = omega arith
