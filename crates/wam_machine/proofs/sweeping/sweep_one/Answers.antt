use Rattle.std.proofs.Common.{◌≡◌, ◌≤◌, ◌∙◌, ◌++◌, List, [], refl, sym, ap, subst, arith, append-nil}
use Rattle.std.specs.Prelude.{is_some, option_map}
use Rattle.prolog_terms.specs.declared.entry.Entry.{Entry}
use Rattle.term_store.specs.Later.{AreLonger}
use Rattle.wam_machine.specs.Terms.{AreTerms, KeepsCells, Said, said, built}
use Rattle.wam_machine.specs.declared.state.Machine.{Machine}
use Rattle.wam_machine.specs.declared.terms.Terms.{Terms}
use Rattle.wam_machine.proofs.Begins.{begins_before, grows_trans, host_on, fronted_on}
use Rattle.wam_machine.proofs.Named.{clause_stays}
use Rattle.wam_machine.proofs.SweptOn.{swept_asked, swept_trans}
use Rattle.wam_machine.proofs.SweptOne.{meant_said, passed_over, erased_one, changeable_stays}
use Rattle.wam_machine.proofs.sweeping.sweep_one.Goals as goal

pub erase_one-requires-clause-named : goal.erase_one-requires-clause-named
erase_one-requires-clause-named g c j b =
    let u = g.B.Base.view c.fetch.new.base in
    let low = g.met.B.Base.looked_seen _ _ _ c.requires.serves.1 in
    let le : g.B.Base.looked_at c.args.call.now.cursor ≤ u.seen = omega (arith, low, c.fetch.ensures.seen.grows.front) in
    let named = c.requires.named j (begins_before (g.B.Base.view c.args.base.now) u j c.fetch.ensures.seen.grows b) in
    ap is_some (clause_stays j _ _ _ le named) ∙ named

pub erase_one-requires-clause-changeable : goal.erase_one-requires-clause-changeable
erase_one-requires-clause-changeable g c j b =
    let u = g.B.Base.view c.fetch.new.base in
    let low = g.met.B.Base.looked_seen _ _ _ c.requires.serves.1 in
    let le : g.B.Base.looked_at c.args.call.now.cursor ≤ u.seen = omega (arith, low, c.fetch.ensures.seen.grows.front) in
    let before = begins_before (g.B.Base.view c.args.base.now) u j c.fetch.ensures.seen.grows b in
    changeable_stays u j (g.B.Base.looked_at c.args.call.now.cursor) c.args.name c.fetch.ensures.seen.grows.sound b le (c.requires.named j before) (c.requires.changeable j before)

pub erase_one-requires-clause-host : goal.erase_one-requires-clause-host
erase_one-requires-clause-host g c = host_on c.args.host.now (g.B.Base.view c.args.base.now) (g.B.Base.view c.fetch.new.base) c.fetch.ensures.seen.grows c.requires.host

pub erase_one-requires-clause-sound : goal.erase_one-requires-clause-sound
erase_one-requires-clause-sound g c = c.fetch.ensures.seen.grows.sound

pub erase_one-requires-clause-front : goal.erase_one-requires-clause-front
erase_one-requires-clause-front g c = fronted_on (g.B.Base.view c.args.base.now) (g.B.Base.view c.fetch.new.base) c.args.machine.now.front c.fetch.ensures.seen c.requires.front

pub returns-in_err-on-clause-seen : goal.returns-in_err-on-clause-seen
returns-in_err-on-clause-seen g c = grows_trans _ (g.B.Base.view c.fetch.new.base) _ c.fetch.ensures.seen.grows c.erase_one.ensures.seen

pub returns-in_err-on-clause-same : goal.returns-in_err-on-clause-same
returns-in_err-on-clause-same g c =
    let mid = record c.args.machine.now { terms = c.is_meant.new.terms } in
    swept_trans c.args.machine.now mid c.erase_one.new.machine refl (swept_asked mid c.erase_one.new.machine c.erase_one.ensures.same)

pub returns-in_err-on-clause-stack : goal.returns-in_err-on-clause-stack
returns-in_err-on-clause-stack g c =
    ap (λ (x : Machine g.row.B-Cursor.Denot). (said x.terms).stack) c.erase_one.ensures.same
    ∙ ap (λ (s : Said g.row.B-Cursor.Denot). s.stack)
    (meant_said c.args.machine.now c.is_meant.new.terms c.in_ok-clause.clause c.in_ok-meant.meant (option_map (built c.args.machine.now.terms) c.args.goal) c.in_ok-meant.ensures.meant)

pub returns-in_err-on-clause-tally : goal.returns-in_err-on-clause-tally
returns-in_err-on-clause-tally g c = ap (λ (x : Machine g.row.B-Cursor.Denot). x.tally) c.erase_one.ensures.same

pub returns-then-meant-clause-seen : goal.returns-then-meant-clause-seen
returns-then-meant-clause-seen g c = grows_trans _ (g.B.Base.view c.fetch.new.base) _ c.fetch.ensures.seen.grows c.erase_one.ensures.seen

pub returns-then-meant-clause-same : goal.returns-then-meant-clause-same
returns-then-meant-clause-same g c =
    let mid = record c.args.machine.now { terms = c.is_meant.new.terms } in
    swept_trans c.args.machine.now mid c.erase_one.new.machine refl (swept_asked mid c.erase_one.new.machine c.erase_one.ensures.same)

pub returns-then-meant-clause-stack : goal.returns-then-meant-clause-stack
returns-then-meant-clause-stack g c =
    ap (λ (x : Machine g.row.B-Cursor.Denot). (said x.terms).stack) c.erase_one.ensures.same
    ∙ ap (λ (s : Said g.row.B-Cursor.Denot). s.stack)
    (meant_said c.args.machine.now c.is_meant.new.terms c.in_ok-clause.clause c.in_ok-meant.meant (option_map (built c.args.machine.now.terms) c.args.goal) c.in_ok-meant.ensures.meant)

pub returns-then-meant-clause-tally : goal.returns-then-meant-clause-tally
returns-then-meant-clause-tally g c = ap (λ (x : Machine g.row.B-Cursor.Denot). x.tally) c.erase_one.ensures.same

pub returns-then-meant-clause-terms : goal.returns-then-meant-clause-terms
returns-then-meant-clause-terms g c =
    subst (λ (x : Terms g.row.B-Cursor.Denot). AreTerms x) (sym (ap (λ (x : Machine g.row.B-Cursor.Denot). x.terms) c.erase_one.ensures.same)) c.in_ok-meant.ensures.terms

pub returns-then-meant-clause-names : goal.returns-then-meant-clause-names
returns-then-meant-clause-names g c =
    subst (λ (x : Terms g.row.B-Cursor.Denot). AreLonger c.args.machine.now.terms.names x.names) (sym (ap (λ (x : Machine g.row.B-Cursor.Denot). x.terms) c.erase_one.ensures.same)) c.in_ok-meant.ensures.names

pub returns-then-meant-clause-cells : goal.returns-then-meant-clause-cells
returns-then-meant-clause-cells g c =
    subst (λ (x : Terms g.row.B-Cursor.Denot). KeepsCells c.args.machine.now.terms x) (sym (ap (λ (x : Machine g.row.B-Cursor.Denot). x.terms) c.erase_one.ensures.same)) c.in_ok-meant.ensures.cells

pub returns-then-meant-clause-said : goal.returns-then-meant-clause-said
returns-then-meant-clause-said g c =
    subst (λ (x : Terms g.row.B-Cursor.Denot). said x ≡ record (said c.args.machine.now.terms) { fresh = (said x).fresh }) (sym (ap (λ (x : Machine g.row.B-Cursor.Denot). x.terms) c.erase_one.ensures.same))
    (meant_said c.args.machine.now c.is_meant.new.terms c.in_ok-clause.clause c.in_ok-meant.meant (option_map (built c.args.machine.now.terms) c.args.goal) c.in_ok-meant.ensures.meant)

pub returns-then-meant-clause-front : goal.returns-then-meant-clause-front
returns-then-meant-clause-front g c = c.in_ok-on.ensures.swept.front

pub returns-then-meant-clause-sweeps : goal.returns-then-meant-clause-sweeps
returns-then-meant-clause-sweeps g c =
    let m = c.args.machine.now in
    let u = g.B.Base.view c.fetch.new.base in
    let w = g.B.Base.view c.erase_one.new.base in
    let e = c.in_ok-on.ensures.swept in
    record {
      made = e.made;
      own = e.own ∙ ap (λ (l : List Entry). l ++ e.made) c.fetch.ensures.seen.own;
      so = λ j b. erased_one m c.is_meant.new.terms c.in_ok-clause.clause c.in_ok-meant.meant (option_map (built m.terms) c.args.goal) c.in_ok-meant.ensures.meant
          g.B.Base.rest g.B.Base.looked_at c.args.host.now c.args.goal j _ c.args.name u w c.erase_one.new.machine c.in_ok-on.on c.if-meant.true
          (c.in_ok-clause.ensures.clause j (begins_before u w j c.erase_one.ensures.seen b)) refl e b;
    }

pub returns-clause-said : goal.returns-clause-said
returns-clause-said g c =
    meant_said c.args.machine.now c.is_meant.new.terms c.in_ok-clause.clause c.in_ok-meant.meant (option_map (built c.args.machine.now.terms) c.args.goal) c.in_ok-meant.ensures.meant

pub returns-clause-stack : goal.returns-clause-stack
returns-clause-stack g c =
    ap (λ (s : Said g.row.B-Cursor.Denot). s.stack)
    (meant_said c.args.machine.now c.is_meant.new.terms c.in_ok-clause.clause c.in_ok-meant.meant (option_map (built c.args.machine.now.terms) c.args.goal) c.in_ok-meant.ensures.meant)

pub returns-clause-front : goal.returns-clause-front
returns-clause-front g c = fronted_on (g.B.Base.view c.args.base.now) (g.B.Base.view c.fetch.new.base) c.args.machine.now.front c.fetch.ensures.seen c.requires.front

pub returns-clause-sweeps : goal.returns-clause-sweeps
returns-clause-sweeps g c =
    let m = c.args.machine.now in
    record {
      made = [];
      own = c.fetch.ensures.seen.own ∙ sym (append-nil (g.B.Base.view c.args.base.now).own);
      so = λ j b. passed_over m c.is_meant.new.terms c.in_ok-clause.clause c.in_ok-meant.meant (option_map (built m.terms) c.args.goal) c.in_ok-meant.ensures.meant
          g.B.Base.rest g.B.Base.looked_at c.args.host.now j _ c.args.name (c.in_ok-clause.ensures.clause j b) c.if-meant.false;
    }
