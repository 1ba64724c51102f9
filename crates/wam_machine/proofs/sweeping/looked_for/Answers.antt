use Rattle.std.proofs.Common.{ap, ◌∙◌, sym, subst, Option}
use Rattle.std.specs.Prelude.{option_map}
use Rattle.call_patterns.specs.Keys.{keys}
use Rattle.term_store.specs.declared.cell.Cell.{Cell}
use Rattle.term_store.specs.Terms.{text}
use Rattle.wam_machine.specs.Procedures.{swept_keys}
use Rattle.wam_machine.specs.Sweeps.{IsSwept}
use Rattle.wam_machine.specs.Terms.{IsBuilt, built}
use Rattle.wam_machine.proofs.Built.{grown-itself, atom-built, atom-term}
use Rattle.wam_machine.proofs.SweptKinds.{no_keys}
use Rattle.wam_machine.proofs.sweeping.looked_for.Goals as goal

pub returns-in-Some-clause-grown : goal.returns-in-Some-clause-grown
returns-in-Some-clause-grown g c = grown-itself c.args.terms.now c.requires.terms

pub returns-in-Some-clause-cell : goal.returns-in-Some-clause-cell
returns-in-Some-clause-cell g c = subst (IsSwept (IsBuilt c.args.terms.now)) c.in-Some.is c.requires.goal

pub returns-in-Some-clause-keys : goal.returns-in-Some-clause-keys
returns-in-Some-clause-keys g c = sym (ap (λ (o : Option Cell). swept_keys (option_map (built c.args.terms.now) o)) c.in-Some.is)

pub returns-in_ok-nil-in-None-clause-cell : goal.returns-in_ok-nil-in-None-clause-cell
returns-in_ok-nil-in-None-clause-cell g c = atom-built c.word.new.terms c.in_ok-nil-in-None.nil c.in_ok-nil-in-None.ensures.inside

pub returns-in_ok-nil-in-None-clause-keys : goal.returns-in_ok-nil-in-None-clause-keys
returns-in_ok-nil-in-None-clause-keys g c =
    let t = c.word.new.terms in
    let n = c.in_ok-nil-in-None.nil in
    ap keys (atom-term t n) ∙ no_keys (text t.names n) ∙ sym (ap (λ (o : Option Cell). swept_keys (option_map (built c.args.terms.now) o)) c.in-None.is)
