use Rattle.std.proofs.Common.{◌≡◌, ◌≤◌, ◌<◌, ℕ, List, ◌∷◌, ◌++◌, [], length, sym, ap, ◌∙◌, subst, All}
use Rattle.prolog_terms.specs.Tree.{compound}
use Rattle.prolog_terms.specs.Flat.{first, past, joined}
use Rattle.std.proofs.lemmas.Option.{slice_get_within}
use Rattle.term_store.specs.declared.cell.Cell.{Cell}
use Rattle.term_store.specs.declared.cell.Cell.TheVariants.{Compound}
use Rattle.term_store.specs.Shape.{Shape}
use Rattle.term_store.specs.Terms.{HasTerm, text}
use Rattle.term_store.specs.Later.{AreLonger}
use Rattle.term_store.specs.Puts.{Grows, AreCells}
use Rattle.term_store.proofs.Laws.{later-compound}
use Rattle.term_store.proofs.Puts.{intern-longer, number-text, grows-names, grows-compound, cells-stay, cells-push, all-row, cells-rest, trees-row, compound-is, compound-has}
use Rattle.term_store.proofs.store.Store.put_compound.Goals as goal
use Rattle.term_store.proofs.store.Store.put_compound.Goals.{In_ok-cell}

longer : (c : In_ok-cell) → AreLonger c.args.names.now c.intern.new.self
longer c = intern-longer c.args.names.now c.intern.new.self c.bytes.result.now c.in_ok-number.ensures.texts

pub returns-in_err-row-clause-grows : goal.returns-in_err-row-clause-grows
returns-in_err-row-clause-grows c =
    grows-names c.args.self.now c.args.names.now c.intern.new.self (intern-longer c.args.names.now c.intern.new.self c.bytes.result.now c.in_ok-number.ensures.texts) (λ _. c.intern.ensures.distinct) c.requires.named

pub returns-in_err-cell-clause-grows : goal.returns-in_err-cell-clause-grows
returns-in_err-cell-clause-grows c =
    subst (λ (s : Shape). Grows c.args.self.now c.args.names.now s c.intern.new.self) (sym c.in_err-cell.ensures.err)
    (grows-names c.args.self.now c.args.names.now c.intern.new.self (intern-longer c.args.names.now c.intern.new.self c.bytes.result.now c.in_ok-number.ensures.texts) (λ _. c.intern.ensures.distinct) c.requires.named)

valid : (c : In_ok-cell) → All (HasTerm (length c.args.names.now) c.args.self.now) c.in_ok-row.row.items
valid c = all-row c.args.self.now c.args.names.now c.args.stack.now.items c.in_ok-row.row.items c.take_row.new.stack.items c.requires.cells c.in_ok-row.ensures.row

some : (c : In_ok-cell) → 1 ≤ length c.in_ok-row.row.items
some c = subst (λ (n : ℕ). 1 ≤ n) (sym c.in_ok-row.ensures.count) c.requires.some

few : (c : In_ok-cell) → length c.in_ok-row.row.items ≤ 255
few c = subst (λ (n : ℕ). n ≤ 255) (sym c.in_ok-row.ensures.count) c.requires.few

named : (c : In_ok-cell) → text c.intern.new.self c.in_ok-number.number ≡ c.args.name.now
named c = number-text c.intern.new.self c.in_ok-number.number c.bytes.result.now c.in_ok-number.ensures.number ∙ c.bytes.ensures

new_is : (c : In_ok-cell) → c.compound.new.self ≡ record c.args.self.now { compounds = c.args.self.now.compounds ++ (c.in_ok-number.number, c.in_ok-row.row.items) ∷ [] }
new_is c = c.in_ok-cell.ensures.ok
    ∙ ap (λ (cs : List Cell). record c.args.self.now { compounds = c.args.self.now.compounds ++ (c.in_ok-number.number, cs) ∷ [] }) c.as_slice.ensures.value

low : (c : In_ok-cell) → c.in_ok-number.number < length c.intern.new.self
low c = slice_get_within c.intern.new.self c.in_ok-number.number c.bytes.result.now c.in_ok-number.ensures.number

grown : (c : In_ok-cell) → Grows c.args.self.now c.args.names.now c.compound.new.self c.intern.new.self
grown c =
    subst (λ (s : Shape). Grows c.args.self.now c.args.names.now s c.intern.new.self) (sym (new_is c))
    (grows-compound c.args.self.now c.args.names.now c.intern.new.self c.in_ok-number.number c.args.name.now c.in_ok-row.row.items c.known.ensures c.requires.named
    (longer c) (low c) (named c) (some c) (few c) (valid c) (λ _. c.intern.ensures.distinct))

pub returns-in_err-push-clause-grows : goal.returns-in_err-push-clause-grows
returns-in_err-push-clause-grows c = grown (goal.at.returns-in_err-push-clause-grows c).In_ok-cell

pub returns-clause-grows : goal.returns-clause-grows
returns-clause-grows c = grown (goal.at.returns-clause-grows c).In_ok-cell

pub returns-clause-cells : goal.returns-clause-cells
returns-clause-cells c = λ ts cells.
    let d = (goal.at.returns-clause-cells c).In_ok-cell in
    let new : Shape = record c.args.self.now { compounds = c.args.self.now.compounds ++ (c.in_ok-number.number, c.in_ok-row.row.items) ∷ [] } in
    let taken = c.in_ok-row.ensures.row in let long = c.in_ok-row.ensures.count in
    subst (λ (s : Shape). AreCells s c.intern.new.self c.push.new.self.items (joined c.args.name.now c.args.arity ts)) (sym (new_is d))
    (cells-push new c.intern.new.self c.take_row.new.stack.items c.push.new.self.items (past c.args.arity ts) (Compound (length c.args.self.now.compounds)) (compound c.args.name.now (first c.args.arity ts))
    (cells-stay c.args.self.now new c.args.names.now c.intern.new.self c.take_row.new.stack.items (past c.args.arity ts) c.known.ensures c.requires.named (later-compound c.args.self.now _) (longer d)
    (cells-rest c.args.self.now c.args.names.now c.args.stack.now.items c.in_ok-row.row.items c.take_row.new.stack.items ts c.args.arity cells taken long))
    (compound-has c.args.self.now c.args.names.now c.intern.new.self c.in_ok-number.number c.args.name.now c.in_ok-row.row.items c.known.ensures c.requires.named (longer d) (low d) (named d) (some d) (few d) (valid d))
    (compound-is c.args.self.now c.args.names.now c.intern.new.self c.in_ok-number.number c.args.name.now c.in_ok-row.row.items c.known.ensures c.requires.named (longer d) (low d) (named d) (some d) (few d) (valid d)
    ∙ ap (compound c.args.name.now) (trees-row c.args.self.now c.args.names.now c.args.stack.now.items c.in_ok-row.row.items c.take_row.new.stack.items ts c.args.arity cells taken long))
    (c.in_ok-push.ensures.items ∙ ap (λ (d : Cell). c.take_row.new.stack.items ++ d ∷ []) c.in_ok-cell.ensures.cell))
