use Rattle.prolog_terms.proofs.Converted.{is_converted, is_same}
use Rattle.prolog_terms.proofs.law.bodies_are_bodies.Goals as goal

pub returns : goal.returns
returns c = record { converted = is_converted; same = is_same }
