use Rattle.std.proofs.Common.{◌≡◌, ◌+◌, ◌-◌, ◌≤◌, ◌++◌, ℕ, List, length, take, drop, arith, ap, ◌∙◌, subst}
use Rattle.std.specs.Io.KnownBytes.{Appends}
use Rattle.std.proofs.lemmas.List.{take_rest, length-drop}
use Rattle.std.proofs.KnownBytes.{Appends-trans}
use Rattle.prolog_session.proofs.Pieces.{taken_twice}
use Rattle.prolog_session.proofs.writing.write_all.Goals as goal

-- what was taken of the rest, after what was taken before
taken_rest : (n k : ℕ) (xs : List ℕ) → take n xs ++ take k (take (length xs - n) (drop n xs)) ≡ take (n + k) xs
taken_rest n k xs = ap (λ (s : List ℕ). take n xs ++ take k s) (take_rest xs n) ∙ taken_twice n k xs

pub loop-at-preserved : goal.loop-at-preserved
loop-at-preserved g c =
    let at : ℕ = c.loop-at.at in
    let k : ℕ = c.in-Took.count in
    let bytes : List ℕ = c.args.bytes.now in
    let more = Appends-trans _ _ _ _ _ c.loop-at.invariant.2 c.in-Took.ensures.writes.2 in
    let rest : length (take (length bytes - at) (drop at bytes)) ≡ length bytes - at =
    ap (length {A = ℕ}) (take_rest bytes at) ∙ length-drop at bytes in
    let within : at + k ≤ length bytes = omega (arith, rest, c.in-Took.ensures.writes.1, c.loop-at.invariant.0) in
    let later : g.K.Sink.faults c.args.sink.now ≤ g.K.Sink.faults c.write.new.self = omega (arith, c.loop-at.invariant.1, c.in-Took.ensures.later) in (
      within,
      later,
      subst (λ (s : List ℕ). Appends (g.K.Sink.written c.args.sink.now) (g.K.Sink.written c.write.new.self) s) (taken_rest at k bytes) more,
    )
