use Rattle.std.proofs.Common.{◌≡◌, ℤ, ◌+◌, All, length, reverse, refl, sym, ◌∙◌, subst, rules, w64, SFits}
use Rattle.std.proofs.Math.Facts.{to_z-of_z}
use Rattle.std.proofs.lemmas.List.Elements.{All-head, All-tail}
use Rattle.prolog_terms.specs.Tree.{variable, integer, atom}
use Rattle.prolog_terms.specs.declared.node.Node.{Node}
use Rattle.prolog_terms.specs.declared.node.Node.TheVariants.{Var, Int, Atom, Functor}
use Rattle.term_store.specs.declared.cell.Cell.TheVariants as cell
use Rattle.term_store.specs.Terms.{HasTerm}
use Rattle.term_store.specs.Puts.{placed}
use Rattle.term_store.specs.Heads.{Matches, left_at}
use Rattle.term_store.proofs.WorkSteps.{IfOk-more}
use Rattle.term_store.proofs.Matched.{further-itself, left-here, fit-here, forest-here, comes-leaf, comes-cell, refused-cell, comes-row, not-integer, not-atom, both-ok}
use Rattle.term_store.proofs.store.Store.match_node.Goals as goal
use Rattle.term_store.proofs.store.Store.match_node.Goals.{After-index-nodes-matching}

has : (c : After-index-nodes-matching) → HasTerm (length c.args.names.now) c.args.self.now c.args.cell
has c = All-head (HasTerm (length c.args.names.now) c.args.self.now) c.args.cell (reverse c.args.matching.now.todo.items) c.requires.valid

valid : (c : After-index-nodes-matching) → All (HasTerm (length c.args.names.now) c.args.self.now) (reverse c.args.matching.now.todo.items)
valid c = All-tail (HasTerm (length c.args.names.now) c.args.self.now) c.args.cell (reverse c.args.matching.now.todo.items) c.requires.valid

left : (c : After-index-nodes-matching) (node : Node) → c.index-nodes-matching.result ≡ node
    → left_at c.args.matching.now.from c.args.nodes.now c.args.matching.now.at
    ≡ placed c.args.matching.now.from node (left_at c.args.matching.now.from c.args.nodes.now (c.args.matching.now.at + 1))
left c node is = left-here c.args.matching.now.from c.args.nodes.now c.args.matching.now.at (c.args.matching.now.at + 1) c.index-nodes-matching.result node c.requires.there (sym c.index-nodes-matching.is ∙ is) refl

pub match_free-requires-clause-compound : goal.match_free-requires-clause-compound
match_free-requires-clause-compound c =
    let e = forest-here c.args.nodes.now c.args.matching.now.at c.index-nodes-matching.result (Functor c.in-Functor.name c.in-Functor.arity) c.requires.there (sym c.index-nodes-matching.is ∙ c.in-Functor.is) in
    (c.in-Functor.name, (_, (_, e)))

pub match_free-requires-clause-valid : goal.match_free-requires-clause-valid
match_free-requires-clause-valid c = valid (goal.at.match_free-requires-clause-valid c).After-index-nodes-matching

pub returns-in-Var-clause-further : goal.returns-in-Var-clause-further
returns-in-Var-clause-further c = c.match_variable.ensures.further c.args.names.now c.requires.named (has (goal.at.returns-in-Var-clause-further c).After-index-nodes-matching)

pub returns-in-Var-clause-within : goal.returns-in-Var-clause-within
returns-in-Var-clause-within c = λ m fit le.
    c.match_variable.ensures.within m
    (fit-here m c.args.matching.now.from c.args.nodes.now c.args.matching.now.at c.index-nodes-matching.result (Var c.in-Var.number) c.requires.there (sym c.index-nodes-matching.is ∙ c.in-Var.is) fit) le

pub returns-in-Var-clause-comes : goal.returns-in-Var-clause-comes
returns-in-Var-clause-comes c =
    let d = (goal.at.returns-in-Var-clause-comes c).After-index-nodes-matching in
    IfOk-more c.match_variable.result _ _
    (λ b h. comes-leaf c.args.self.now c.match_variable.new.self c.args.names.now c.args.names.now _ _ (variable (c.args.matching.now.from + c.in-Var.number)) c.args.cell (reverse c.args.matching.now.todo.items) b
    (left d (Var c.in-Var.number) c.in-Var.is) (valid d) (h c.args.names.now c.count.ensures.distinct c.requires.named (has d)))
    c.match_variable.ensures.matches

pub returns-in-Int-clause-comes : goal.returns-in-Int-clause-comes
returns-in-Int-clause-comes c =
    let d = (goal.at.returns-in-Int-clause-comes c).After-index-nodes-matching in
    let fits : SFits w64 c.in-Int.value = search rules in
    IfOk-more c.match_integer.result _ _
    (λ b h. comes-leaf c.args.self.now c.match_integer.new.self c.args.names.now c.args.names.now _ _ (integer c.in-Int.value) c.args.cell (reverse c.args.matching.now.todo.items) b
    (left d (Int c.in-Int.value) c.in-Int.is) (valid d)
    (subst (λ (z : ℤ). Matches c.args.self.now c.args.names.now c.match_integer.new.self c.args.names.now (integer z) c.args.cell b) (to_z-of_z fits)
    (h c.args.names.now c.requires.named (has d))))
    c.match_integer.ensures.matches

pub returns-in-Atom-clause-comes : goal.returns-in-Atom-clause-comes
returns-in-Atom-clause-comes c =
    let d = (goal.at.returns-in-Atom-clause-comes c).After-index-nodes-matching in
    IfOk-more c.match_atom.result _ _
    (λ b h. comes-leaf c.args.self.now c.match_atom.new.self c.args.names.now c.match_atom.new.names _ _ (atom c.in-Atom.name) c.args.cell (reverse c.args.matching.now.todo.items) b
    (left d (Atom c.in-Atom.name) c.in-Atom.is) (valid d) h)
    c.match_atom.ensures.matches

pub returns-in-Variable-clause-comes : goal.returns-in-Variable-clause-comes
returns-in-Variable-clause-comes c =
    IfOk-more c.match_free.result _ _
    (λ b h. comes-cell c.args.self.now c.args.names.now _ c.args.cell (cell.Variable c.in-Variable.free) (reverse c.args.matching.now.todo.items) c.in-Variable.ensures.term _ b h)
    c.match_free.ensures.comes

pub returns-in-Integer-clause-further : goal.returns-in-Integer-clause-further
returns-in-Integer-clause-further c = further-itself c.args.self.now c.args.names.now c.requires.named

pub returns-in-Integer-clause-comes : goal.returns-in-Integer-clause-comes
returns-in-Integer-clause-comes c =
    let d = (goal.at.returns-in-Integer-clause-comes c).After-index-nodes-matching in
    refused-cell c.args.self.now c.args.names.now _ c.args.cell c.deref.result (reverse c.args.matching.now.todo.items) c.deref.ensures.term
    (not-integer c.args.self.now c.args.names.now _ _ _ c.in-Functor.name c.deref.result (reverse c.args.matching.now.todo.items)
    (left d (Functor c.in-Functor.name c.in-Functor.arity) c.in-Functor.is) _ c.in-Integer.is)

pub returns-in-Atom-deref-clause-further : goal.returns-in-Atom-deref-clause-further
returns-in-Atom-deref-clause-further c = further-itself c.args.self.now c.args.names.now c.requires.named

pub returns-in-Atom-deref-clause-comes : goal.returns-in-Atom-deref-clause-comes
returns-in-Atom-deref-clause-comes c =
    let d = (goal.at.returns-in-Atom-deref-clause-comes c).After-index-nodes-matching in
    refused-cell c.args.self.now c.args.names.now _ c.args.cell c.deref.result (reverse c.args.matching.now.todo.items) c.deref.ensures.term
    (not-atom c.args.self.now c.args.names.now _ _ _ c.in-Functor.name c.deref.result (reverse c.args.matching.now.todo.items)
    (left d (Functor c.in-Functor.name c.in-Functor.arity) c.in-Functor.is) _ c.in-Atom-deref.is)

pub returns-in-Compound-clause-further : goal.returns-in-Compound-clause-further
returns-in-Compound-clause-further c = further-itself c.args.self.now c.args.names.now c.requires.named

pub returns-in-Compound-clause-comes : goal.returns-in-Compound-clause-comes
returns-in-Compound-clause-comes c =
    let d = (goal.at.returns-in-Compound-clause-comes c).After-index-nodes-matching in
    both-ok c.match_row.result _ _ _
    (λ b at h. comes-row c.args.self.now c.args.names.now c.args.nodes.now c.args.matching.now c.match_row.new.matching c.args.cell c.in-Compound.place c.in-Functor.arity c.in-Functor.name
    c.index-nodes-matching.result c.requires.there (sym c.index-nodes-matching.is ∙ c.in-Functor.is) c.requires.fit (valid d) c.in-Compound.ensures.term c.match_row.ensures.from b at h)
    c.match_row.ensures.at c.match_row.ensures.matches
