use Rattle.std.proofs.Common.{◌∷◌, [], refl, subst, arith, codes, get_or}
use Rattle.std.proofs.lemmas.Result.{IfOk-weaker}
use Rattle.prolog_terms.specs.Tree.{Tree}
use Rattle.term_store.specs.declared.cell.Cell.TheVariants.{Variable}
use Rattle.wam_machine.specs.Terms.{built, IsBuilt}
use Rattle.wam_machine.specs.Goals.{IsFoundNow}
use Rattle.wam_machine.proofs.GoalParts.{tested, told, found-now, one-tree, pair-tree, three-tree, one-all, two-all, three-all}
use Rattle.wam_machine.proofs.control.row_control.Goals as goal

pub two_control-requires : goal.two_control-requires
two_control-requires g c = tested c.args.name.now _ (codes ";") _ _ c.eq.ensures c.as_slice.ensures c.if-eq.false

pub returns-in-len1 : goal.returns-in-len1
returns-in-len1 g c =
    let t = c.args.terms.now in
    let args = c.args.arguments.now in
    let some = c.in-len1.len_at_least in
    IfOk-weaker c.one_control.result _ _
    (λ x f. found-now t (get_or args 0 (Variable 0) ∷ []) _ _ x f (one-tree (built t) c.args.name.now args (Variable 0) c.in-len1.len_at_least c.in-len1.len_below)
    (one-all (IsBuilt t) _ (c.requires.valid 0 (Variable 0) (omega (arith, some)))))
    c.one_control.ensures

pub returns-then-eq : goal.returns-then-eq
returns-then-eq g c =
    let t = c.args.terms.now in
    let args = c.args.arguments.now in
    subst (λ (x : Tree). IsFoundNow t x c.either_control.result)
    (pair-tree (built t) (codes ";") c.args.name.now args (Variable 0) (told c.args.name.now _ (codes ";") _ c.eq.ensures c.as_slice.ensures c.if-eq.true) c.in-len2.len_at_least c.in-len2.len_below)
    c.either_control.ensures

pub returns-else-eq : goal.returns-else-eq
returns-else-eq g c =
    let t = c.args.terms.now in
    let args = c.args.arguments.now in
    let some = c.in-len2.len_at_least in
    IfOk-weaker c.two_control.result _ _
    (λ x f. found-now t (get_or args 0 (Variable 0) ∷ get_or args 1 (Variable 0) ∷ []) _ _ x f
    (pair-tree (built t) c.args.name.now c.args.name.now args (Variable 0) refl c.in-len2.len_at_least c.in-len2.len_below)
    (two-all (IsBuilt t) _ _ (c.requires.valid 0 (Variable 0) (omega (arith, some))) (c.requires.valid 1 (Variable 0) (omega (arith, some)))))
    c.two_control.ensures

pub returns-in-len3 : goal.returns-in-len3
returns-in-len3 g c =
    let t = c.args.terms.now in
    let args = c.args.arguments.now in
    let some = c.in-len3.len_at_least in
    IfOk-weaker c.three_control.result _ _
    (λ x f. found-now t (get_or args 0 (Variable 0) ∷ get_or args 1 (Variable 0) ∷ get_or args 2 (Variable 0) ∷ []) _ _ x f
    (three-tree (built t) c.args.name.now args (Variable 0) c.in-len3.len_at_least c.in-len3.len_below)
    (three-all (IsBuilt t) _ _ _ (c.requires.valid 0 (Variable 0) (omega (arith, some))) (c.requires.valid 1 (Variable 0) (omega (arith, some))) (c.requires.valid 2 (Variable 0) (omega (arith, some)))))
    c.three_control.ensures

pub returns-in_default : goal.returns-in_default
returns-in_default g c =
    let t = c.args.terms.now in
    IfOk-weaker c.more_control.result _ _ (λ x f. found-now t c.args.arguments.now _ _ x f refl c.requires.valid) c.more_control.ensures
