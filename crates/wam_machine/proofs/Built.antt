-- Cells of terms that have grown.
use Rattle.std.proofs.Common.{◌≡◌, ℕ, ◌<◌, List, length, refl, ◌∙◌}
use Rattle.std.specs.Prelude.{All}
use Rattle.prolog_terms.specs.Tree.{atom}
use Rattle.term_store.specs.declared.cell.Cell.{Cell}
use Rattle.term_store.specs.declared.cell.Cell.TheVariants.{Atom}
use Rattle.term_store.specs.Terms.{text, trees_of, raw_at}
use Rattle.term_store.proofs.Laws.{longer-itself, longer-further}
use Rattle.wam_machine.specs.declared.terms.Terms.{Terms}
use Rattle.wam_machine.specs.Terms.{built, IsBuilt, IsGrown, AreTerms}
use Rattle.wam_machine.proofs.Made.{trees-same}

pub all-kept : {C : Type 0} (a b : Terms C) (cs : List Cell) → IsGrown a b → All (IsBuilt a) cs → All (IsBuilt b) cs
all-kept a b cs g h = λ k d lt. (g.cells _ (h k d lt)).0

pub trees-kept : {C : Type 0} (a b : Terms C) (cs : List Cell) → IsGrown a b → All (IsBuilt a) cs → trees_of (built b) cs ≡ trees_of (built a) cs
trees-kept a b cs g h = trees-same (IsBuilt a) (built a) (built b) cs (λ c k. (g.cells c k).1) h

pub grown-further : {C : Type 0} (a b c : Terms C) → IsGrown a b → IsGrown b c → IsGrown a c
grown-further a b c g h = record {
  terms = h.terms;
  said_is = h.said_is ∙ g.said_is;
  names = longer-further a.names b.names c.names g.names h.names;
  cells = λ d k. let p = g.cells d k in let q = h.cells d p.0 in (q.0, q.1 ∙ p.1);
}

pub grown-itself : {C : Type 0} (a : Terms C) → AreTerms a → IsGrown a a
grown-itself a h = record { terms = h; said_is = refl; names = longer-itself a.names; cells = λ d k. (k, refl) }

-- ---- atoms and integers

pub atom-built : {C : Type 0} (a : Terms C) (n : ℕ) → n < length a.names → IsBuilt a (Atom n)
unfolding IsBuilt
atom-built a n low = (tt, low)

pub atom-term : {C : Type 0} (a : Terms C) (n : ℕ) → built a (Atom n) ≡ atom (text a.names n)
unfolding built raw_at
atom-term a n = refl
