-- One more item at the end.
use Rattle.std.proofs.Common.{◌≡◌, ℕ, suc, ◌+◌, ◌-◌, ◌<◌, List, [], ◌∷◌, ◌++◌, refl, sym, ap, ◌∙◌, arith}
use Rattle.std.specs.Prelude.{codes, MatchOption, Option, Some, None, length}
use Rattle.std.specs.Option.{option_to_list}
use Rattle.std.specs.Prelude.{reverse}
use Rattle.std.proofs.lemmas.List.{reverse-append}
use Rattle.prolog_terms.specs.Tree.{Trees, none}
use Rattle.prolog_terms.specs.declared.node.Node.{Node}
use Rattle.prolog_reader.specs.Grammar.{stack, pushed, cells, made}
use Rattle.prolog_reader.specs.Stacks.{the_stack}

stack-more : (ns : List Node) (n : Node) (ts : Trees) → stack ts (ns ++ n ∷ []) ≡ pushed n (stack ts ns)
stack-more [] n ts = refl
stack-more (m ∷ ns) n ts = stack-more ns n (pushed m ts)

pub stack-push : (old new : List Node) (n : Node) → new ≡ old ++ n ∷ [] → the_stack new ≡ pushed n (the_stack old)
stack-push old new n e = rw e (stack-more old n none)

pub cells-more : (n k : ℕ) (ts : Trees) → k < n → cells (n - k) ts ≡ cells (n - (k + 1)) (made (codes ".") 2 ts)
cells-more n k ts h = let e : n - k ≡ suc (n - (k + 1)) = omega arith in rw e refl

pub push-newest : {X : Type 0} (old new : List X) (x : X) → new ≡ old ++ x ∷ [] → reverse new ≡ x ∷ reverse old
push-newest old new x e = rw e (reverse-append old (x ∷ []))

empty : {X : Type 0} (xs : List X) → length xs ≡ 0 → xs ≡ []
empty [] h = refl
empty (x ∷ xs) h = absurd (omega arith)

pub pop-newest : {X : Type 0} (value old new : List X) (x : Option X) → reverse old ≡ value → old ≡ new ++ option_to_list x → (x ≡ None → length new ≡ 0)
    → MatchOption x ((value ≡ []) × (reverse new ≡ [])) (λ f. value ≡ f ∷ reverse new)
pop-newest value old new None v e h =
    let n : new ≡ [] = empty new (h refl) in
    let o : old ≡ [] = e ∙ ap (λ xs. xs ++ []) n in
    (sym v ∙ ap reverse o, ap reverse n)
pop-newest value old new (Some f) v e h = sym v ∙ push-newest new old f e
