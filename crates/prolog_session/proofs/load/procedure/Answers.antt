use Rattle.std.proofs.Common.{◌≡◌, ◌∙◌, sym}
use Rattle.journals.specs.Journal.{Journal, procedure_named}
use Rattle.prolog_session.proofs.Plains.{in_seen, same_after}
use Rattle.prolog_session.proofs.Placing.{found, declares_done, declares_already, declares_full}
use Rattle.prolog_session.proofs.load.procedure.Goals as goal

pub returns-in-Some : goal.returns-in-Some
returns-in-Some g c =
    let f = c.find.ensures in
    let told = in_seen c.find.new.self (λ (J : Journal). c.find.result ≡ procedure_named J c.args.indicator.now) f.found in
    found _ _ _ _ c.in-Some.field-0-1 (same_after _ _ f.becomes f.seen f.out) (sym told ∙ c.in-Some.is)

pub returns-in-Done : goal.returns-in-Done
returns-in-Done g c =
    let f = c.find.ensures in
    let d = c.in-Done.ensures in
    let told = in_seen c.find.new.self (λ (J : Journal). c.find.result ≡ procedure_named J c.args.indicator.now) f.found in
    declares_done _ _ _ _ _ (same_after _ _ f.becomes f.seen f.out) c.requires (sym told ∙ c.in_default.is) d.becomes d.out d.declared

pub returns-in-Already : goal.returns-in-Already
returns-in-Already g c =
    let f = c.find.ensures in
    let d = c.in-Already.ensures in
    declares_already _ _ _ _ _ _ (same_after _ _ f.becomes f.seen f.out) d.becomes d.out d.declared

pub returns-in-Full : goal.returns-in-Full
returns-in-Full g c =
    let f = c.find.ensures in
    let d = c.in-Full.ensures in
    let told = in_seen c.find.new.self (λ (J : Journal). c.find.result ≡ procedure_named J c.args.indicator.now) f.found in
    declares_full _ _ _ _ _ _ _ (same_after _ _ f.becomes f.seen f.out) (sym told ∙ c.in_default.is) d.becomes d.out d.declared
