-- The cursor of a plain base: the next clause, and the place of the scan behind it.
use Rattle.std.specs.Prelude.{◌≡◌, ℕ, ◌*◌, ◌≤◌, List, [], ◌++◌, length, take, None}
use Rattle.std.proofs.Common.{ap}
use Rattle.journals.specs.Journal.{Journal}
use Rattle.journal_base.specs.Goals.{Goal}
use Rattle.journal_base.specs.Plain.{Plain}
use Rattle.journal_base.specs.Scan.{scan, left, listed}
use Rattle.journal_base.specs.declared.plain.PlainCursor.{PlainCursor}

abbrev pub plain_rest : PlainCursor → Goal → Journal → List ℕ
plain_rest c g J = listed c.next ++ scan (take c.front J) g c.at

abbrev pub plain_may_visit : PlainCursor → Goal → Journal → ℕ
plain_may_visit c g J = left (take c.front J) g.procedure c.at

pub record plain_serves (b : Plain) (c : PlainCursor) (g : Goal) : Type 0 where
  pub seen : c.front ≤ length b.entries
  pub at : c.at ≤ 2 * c.front
  pub end : c.next ≡ None → scan (take c.front b.entries) g c.at ≡ []

pub plain_rest_local : (c : PlainCursor) (g : Goal) (J K : Journal) → take c.front J ≡ take c.front K → plain_rest c g J ≡ plain_rest c g K
plain_rest_local c g J K e = ap (λ l. listed c.next ++ scan l g c.at) e

pub plain_visits_local : (c : PlainCursor) (g : Goal) (J K : Journal) → take c.front J ≡ take c.front K → plain_may_visit c g J ≡ plain_may_visit c g K
plain_visits_local c g J K e = ap (λ l. left l g.procedure c.at) e
