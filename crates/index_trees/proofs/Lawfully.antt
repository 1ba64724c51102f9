-- What is built is lawful, and stays so.
use Rattle.std.proofs.Common.{◌≡◌, ℕ, ◌^◌, ◌<◌, ◌≤◌, zero, suc, List, [], ◌∷◌, ◌++◌, length, take, refl, sym, ap, ◌∙◌, arith, subst}
use Rattle.journals.specs.Journal.{Journal}
use Rattle.journals.specs.Updates.{first_of, last_of, plus_one, updates_of}
use Rattle.call_patterns.specs.Patterns.{IsPattern, positions}
use Rattle.call_patterns.specs.Rows.{bucket, rows}
use Rattle.call_patterns.specs.declared.pattern.Pattern.{Pattern}
use Rattle.index_trees.specs.Images.{HoldsBucket}
use Rattle.index_trees.specs.Lawful.{IsBuilt, Lawful, MarksAt}
use Rattle.index_trees.specs.declared.image.Mark.{Mark}

pub built_lawful : (words : List ℕ) (J : Journal) (m : ℕ) (pattern : Pattern) (made : Mark) → IsPattern pattern → made.proc < 2 ^ 32 → MarksAt J m made
    → IsBuilt words (rows (take m J) made.proc) pattern made → Lawful words J m
built_lawful words J m pattern made is small marks built = record {
  procedure = made.proc;
  pattern = pattern;
  within = marks.within;
  numbered = small;
  is_pattern = is;
  names = built.header.first;
  mark = built.header.mark ∙ marks.mark;
  covered = built.header.covered_is;
  updates = built.header.updates ∙ marks.updates;
  first = built.header.chain_first ∙ marks.first;
  last = built.header.chain_last ∙ marks.last;
  whole = built.header.size;
  empty = built.header.empty;
  buckets = built.buckets;
}

front-same : (J K : Journal) (m : ℕ) → m ≤ length J → take m (J ++ K) ≡ take m J
front-same J K zero le = refl
front-same [] K (suc m) le = absurd (omega arith)
front-same (e ∷ J) K (suc m) le = ap (λ (l : Journal). e ∷ l) (front-same J K m (omega arith))

longer : (J K : Journal) → length J ≤ length (J ++ K)
longer [] K = omega arith
longer (e ∷ J) K = let r = longer J K in omega (arith, r)

pub later : (words : List ℕ) (J K : Journal) (m : ℕ) → Lawful words J m → Lawful words (J ++ K) m
later words J K m l =
    let same : take m J ≡ take m (J ++ K) = sym (front-same J K m l.within) in
    record {
      procedure = l.procedure;
      pattern = l.pattern;
      within = omega (arith, l.within, longer J K);
      numbered = l.numbered;
      is_pattern = l.is_pattern;
      names = l.names;
      mark = l.mark;
      covered = l.covered ∙ ap (λ (F : Journal). length (rows F l.procedure)) same;
      updates = l.updates ∙ ap (λ (F : Journal). updates_of F l.procedure) same;
      first = l.first ∙ ap (λ (F : Journal). plus_one (first_of F l.procedure)) same;
      last = l.last ∙ ap (λ (F : Journal). plus_one (last_of F l.procedure)) same;
      whole = l.whole;
      empty = l.empty;
      buckets = λ codes many. subst (λ (F : Journal). HoldsBucket words codes (bucket (rows F l.procedure) (positions l.pattern) codes)) same (l.buckets codes many);
    }
