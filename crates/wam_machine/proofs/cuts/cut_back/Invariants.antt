use Rattle.std.proofs.Common.{◌≡◌, take, length}
use Rattle.journal_base.specs.View.{Looks}
use Rattle.wam_machine.specs.Terms.{AreTerms, said, calls_in}
use Rattle.wam_machine.specs.View.{AreKept}
use Rattle.wam_machine.proofs.cuts.cut_back.Given as goal

abbrev pub invariant-loop-terms : goal.invariant-loop-terms
invariant-loop-terms g l = record {
  seen : Looks (g.B.Base.view l.fn.base) (g.B.Base.view l.base);
  becomes : g.B.Base.becomes l.fn.base l.base;
  kept : AreKept (g.B.Base.serves l.base) g.B.Base.group (g.B.Base.out l.base) (calls_in (said l.terms).stack);
  terms : AreTerms l.fn.terms → AreTerms l.terms;
  said_is : said l.terms ≡ record (said l.fn.terms) { stack = (said l.terms).stack };
  stack : take l.height (said l.terms).stack ≡ take l.height (said l.fn.terms).stack;
}

abbrev pub decreases-loop-terms : goal.decreases-loop-terms
decreases-loop-terms g l = length (said l.terms).stack
