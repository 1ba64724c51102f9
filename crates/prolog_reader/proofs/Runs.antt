-- A rule that takes two tokens.
use Rattle.std.proofs.Common.{◌≡◌, ℕ, ◌+◌, ◌-◌, ◌<◌, List, [], ◌∷◌, take, drop, length, get_or, refl, sym, ap, ◌∙◌, arith, true, false}
use Rattle.std.proofs.lemmas.List.{drop_more, drop-drop, take_rest}
use Rattle.prolog_terms.specs.Operators.{Table}
use Rattle.prolog_lexer.specs.declared.token.Token.{Token}
use Rattle.prolog_reader.specs.Grammar.{State, goes_two, rule, run}

skip_one : (ops : Table) (u : State) (ts : List Token) → run ops true u ts ≡ run ops false u (drop 1 ts)
skip_one ops u [] = refl
skip_one ops u (t ∷ ts) = refl

pub two : (ops : Table) (tokens : List Token) (at : ℕ) (t : Token) (s u : State) → at < length tokens → t ≡ get_or tokens at t
    → rule ops s t (take (length tokens - (at + 1)) (drop (at + 1) tokens)) ≡ goes_two u
    → run ops false s (drop at tokens) ≡ run ops false u (drop (at + 2) tokens)
two ops tokens at t s u h e r =
    let d : drop at tokens ≡ t ∷ drop (at + 1) tokens = drop_more tokens at t h ∙ ap (λ x. x ∷ drop (at + 1) tokens) (sym e) in
    let q : rule ops s t (drop (at + 1) tokens) ≡ goes_two u = ap (rule ops s t) (sym (take_rest tokens (at + 1))) ∙ r in
    let n : at + 1 + 1 ≡ at + 2 = omega arith in
    rw (d, q) (skip_one ops u (drop (at + 1) tokens) ∙ ap (run ops false u) (drop-drop 1 (at + 1) tokens ∙ ap (λ k. drop k tokens) n))
