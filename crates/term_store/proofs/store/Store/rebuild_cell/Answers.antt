use Rattle.std.specs.Prelude.{is_some}
use Rattle.std.proofs.Common.{sym, ap, subst, arith}
use Rattle.term_store.specs.declared.cell.Cell.{Cell}
use Rattle.term_store.specs.Copies.{behind, IsRebuilt, IsMet}
use Rattle.term_store.proofs.Laws.{later-itself}
use Rattle.term_store.proofs.Rebuilds.{rebuilt-variable, rebuilt-integer, rebuilt-atom}
use Rattle.term_store.proofs.store.Store.rebuild_cell.Goals as goal

pub overflow_add-from : goal.overflow_add-from
overflow_add-from c = let low = c.in-Some.ensures.low in let fits = c.requires.fits in let top = c.fits.ensures in omega (arith, low, fits, top)

pub returns-in_err-push-in-Variable-clause-later : goal.returns-in_err-push-in-Variable-clause-later
returns-in_err-push-in-Variable-clause-later c = later-itself c.args.self.now

pub returns-in_err-push-in-Integer-clause-later : goal.returns-in_err-push-in-Integer-clause-later
returns-in_err-push-in-Integer-clause-later c = later-itself c.args.self.now

pub returns-in_err-push-in-Atom-clause-later : goal.returns-in_err-push-in-Atom-clause-later
returns-in_err-push-in-Atom-clause-later c = later-itself c.args.self.now

pub returns-in_ok-push-in-Variable-clause-later : goal.returns-in_ok-push-in-Variable-clause-later
returns-in_ok-push-in-Variable-clause-later c = later-itself c.args.self.now

pub returns-in_ok-push-in-Integer-clause-later : goal.returns-in_ok-push-in-Integer-clause-later
returns-in_ok-push-in-Integer-clause-later c = later-itself c.args.self.now

pub returns-in_ok-push-in-Atom-clause-later : goal.returns-in_ok-push-in-Atom-clause-later
returns-in_ok-push-in-Atom-clause-later c = later-itself c.args.self.now

pub returns-in_ok-push-in-Variable-clause-rebuilt : goal.returns-in_ok-push-in-Variable-clause-rebuilt
returns-in_ok-push-in-Variable-clause-rebuilt c =
    rebuilt-variable c.args.self.now c.args.cell c.in-Variable.number c.in-Some.place c.args.from c.args.seen.now c.args.stack.now.items c.push.new.self.items c.in-Variable.is
    c.in-Some.ensures.place c.in-Some.ensures.low c.requires.fits c.requires.cells c.in_ok-push-in-Variable.ensures.items

pub returns-in_ok-push-in-Integer-clause-rebuilt : goal.returns-in_ok-push-in-Integer-clause-rebuilt
returns-in_ok-push-in-Integer-clause-rebuilt c =
    rebuilt-integer (behind c.args.from c.args.seen.now) c.args.self.now c.args.cell c.in-Integer.field-0 c.args.stack.now.items c.push-in-Integer.new.self.items c.in-Integer.is
    c.requires.cells c.in_ok-push-in-Integer.ensures.items

pub returns-in_ok-push-in-Atom-clause-rebuilt : goal.returns-in_ok-push-in-Atom-clause-rebuilt
returns-in_ok-push-in-Atom-clause-rebuilt c =
    rebuilt-atom (behind c.args.from c.args.seen.now) c.args.self.now c.args.cell c.in-Atom.field-0 c.args.stack.now.items c.push-in-Atom.new.self.items c.in-Atom.is
    c.requires.cells c.in_ok-push-in-Atom.ensures.items

pub returns-in_ok-rebuild_compound-in-Compound-clause-rebuilt : goal.returns-in_ok-rebuild_compound-in-Compound-clause-rebuilt
returns-in_ok-rebuild_compound-in-Compound-clause-rebuilt c =
    let r = behind c.args.from c.args.seen.now in
    subst (λ (d : Cell). IsRebuilt r c.args.self.now c.rebuild_compound.new.self d c.args.stack.now.items c.rebuild_compound.new.stack.items) (sym c.in-Compound.is)
    (c.in_ok-rebuild_compound-in-Compound.ensures.rebuilt r)

-- its variable has been met
pub unreachable-requires : goal.unreachable-requires
unreachable-requires c =
    let there = subst (IsMet c.args.seen.now) c.in-Variable.is c.requires.met in let gone = c.find.ensures.none (ap is_some c.in_default.is) in cc (there, gone)
