-- The goals in frames: what they do not depend on.
use Rattle.std.proofs.Common.{◌≡◌, ℕ, zero, suc, ◌<◌, ◌≤◌, List, [], ◌∷◌, ◌++◌, length, take, nat_eq, Bool, true, false, refl, sym, ap, ap₂, ◌∙◌, arith, subst, length-append}
use Rattle.std.proofs.lemmas.List.{get_or_append_left, get_or-take, length-take-le}
use Rattle.std.proofs.Math.Seq.{get_or-append_seam}
use Rattle.prolog_terms.specs.Tree.{Tree}
use Rattle.term_store.specs.Shape.{Shape}
use Rattle.term_store.specs.declared.cell.Cell.{Cell}
use Rattle.wam_machine.specs.declared.terms.Frame.{Frame}
use Rattle.wam_machine.specs.States.{Next}
use Rattle.wam_machine.specs.Terms.{frame_at, goals_from, goals_at, next_of, IsFrame, AreFrames}

-- each of the first n frames leads on to one below it
abbrev pub AreLower : List Frame → ℕ → Type 0
AreLower frames n = (i : ℕ) → i < n → (frame_at frames i).next ≤ i

-- the first n frames are the same in both
abbrev pub AreSame : List Frame → List Frame → ℕ → Type 0
AreSame old new n = (i : ℕ) → i < n → frame_at new i ≡ frame_at old i

pub lower : (texts : List (List ℕ)) (s : Shape) (frames : List Frame) (n : ℕ) → AreFrames texts s frames n → AreLower frames n
lower texts s frames n h i less = (h i less).lower

pub same_more : (frames more : List Frame) → AreSame frames (frames ++ more) (length frames)
same_more frames more i less = get_or_append_left frames more (frame_at [] 0) i less

pub same_take : (n : ℕ) (frames : List Frame) → AreSame frames (take n frames) n
same_take n frames i less = get_or-take n frames i (frame_at [] 0) less

from_none : (k : ℕ) (tree : Cell → Tree) (frames : List Frame) → goals_from k tree frames zero ≡ []
from_none zero tree frames = refl
from_none (suc k) tree frames = refl

-- a number that is great enough is as good as a greater one
pub goals_from-far : (tree : Cell → Tree) (frames : List Frame) (m : ℕ) → AreLower frames m
    → (k j n : ℕ) → n ≤ m → n ≤ k → n ≤ j → goals_from k tree frames n ≡ goals_from j tree frames n
goals_from-far tree frames m low k j zero inside a b = from_none k tree frames ∙ sym (from_none j tree frames)
goals_from-far tree frames m low zero j (suc i) inside a b = absurd (omega arith)
goals_from-far tree frames m low (suc k) zero (suc i) inside a b = absurd (omega arith)
goals_from-far tree frames m low (suc k) (suc j) (suc i) inside a b =
    let less : i < m = omega arith in
    let here = low i less in
    ap (λ (ts : List Next). next_of tree (frame_at frames i).what ∷ ts)
    (goals_from-far tree frames m low k j (frame_at frames i).next (omega (arith, here, less)) (omega (arith, here, a)) (omega (arith, here, b)))

-- frames above those that are led to do not matter
pub goals_from-same : (f g : Cell → Tree) (old new : List Frame) (m : ℕ) → AreLower old m → AreSame old new m
    → ((i : ℕ) → i < m → next_of g (frame_at old i).what ≡ next_of f (frame_at old i).what)
    → (k n : ℕ) → n ≤ m → goals_from k g new n ≡ goals_from k f old n
goals_from-same f g old new m low same trees zero n inside = refl
goals_from-same f g old new m low same trees (suc k) zero inside = refl
goals_from-same f g old new m low same trees (suc k) (suc i) inside =
    let less : i < m = omega arith in
    let here = low i less in
    ap (λ (fr : Frame). next_of g fr.what ∷ goals_from k g new fr.next) (same i less)
    ∙ ap₂ (λ (t : Next) (ts : List Next). t ∷ ts) (trees i less)
    (goals_from-same f g old new m low same trees k (frame_at old i).next (omega (arith, here, less)))

pub goals_at-same : (f g : Cell → Tree) (old new : List Frame) (m : ℕ) → AreLower old m → AreSame old new m
    → ((i : ℕ) → i < m → next_of g (frame_at old i).what ≡ next_of f (frame_at old i).what)
    → (n : ℕ) → n ≤ m → goals_at g new n ≡ goals_at f old n
unfolding goals_at
goals_at-same f g old new m low same trees n inside = goals_from-same f g old new m low same trees n n inside

pub goals_at-none : (f : Cell → Tree) (frames : List Frame) → goals_at f frames zero ≡ []
unfolding goals_at
goals_at-none f frames = refl

-- the goal of a frame, and the goals that it leads on to
pub goals_at-next : (f : Cell → Tree) (frames : List Frame) (m i : ℕ) → AreLower frames m → i < m
    → goals_at f frames (suc i) ≡ next_of f (frame_at frames i).what ∷ goals_at f frames (frame_at frames i).next
unfolding goals_at
goals_at-next f frames m i low less =
    let here = low i less in
    ap (λ (ts : List Next). next_of f (frame_at frames i).what ∷ ts)
    (goals_from-far f frames m low i (frame_at frames i).next (frame_at frames i).next (omega (arith, here, less)) here (omega arith))

-- ---- as they are kept

pub frames-same : (texts : List (List ℕ)) (s : Shape) (old new : List Frame) (n : ℕ) → AreSame old new n → AreFrames texts s old n → AreFrames texts s new n
frames-same texts s old new n same h i less = subst (IsFrame texts s i) (sym (same i less)) (h i less)

pub frames-fewer : (texts : List (List ℕ)) (s : Shape) (frames : List Frame) (n m : ℕ) → m ≤ n → AreFrames texts s frames n → AreFrames texts s frames m
frames-fewer texts s frames n m le h i less = h i (omega (arith, less, le))

-- the first n frames alone
pub frames-take : (texts : List (List ℕ)) (s : Shape) (frames : List Frame) (n : ℕ) → n ≤ length frames → AreFrames texts s frames n
    → AreFrames texts s (take n frames) (length (take n frames))
frames-take texts s frames n le h =
    subst (AreFrames texts s (take n frames)) (sym (length-take-le n frames le)) (frames-same texts s frames (take n frames) n (same_take n frames) h)

-- one more
pub frames-more : (texts : List (List ℕ)) (s : Shape) (frames : List Frame) (f : Frame) → IsFrame texts s (length frames) f
    → AreFrames texts s frames (length frames) → AreFrames texts s (frames ++ f ∷ []) (length (frames ++ f ∷ []))
frames-more texts s frames f one h i less = go (nat_eq i (length frames)) refl
  where
    go : (b : Bool) → nat_eq i (length frames) ≡ b → IsFrame texts s i (frame_at (frames ++ f ∷ []) i)
    go true q =
        let here : length frames ≡ i = grind arith in
        subst (λ (k : ℕ). IsFrame texts s k (frame_at (frames ++ f ∷ []) k)) here
        (subst (IsFrame texts s (length frames)) (sym (get_or-append_seam frames f [] (frame_at [] 0))) one)
    go false q =
        let e = length-append frames (f ∷ []) in
        let below : i < length frames = grind (arith, e, less) in
        frames-same texts s frames (frames ++ f ∷ []) (length frames) (same_more frames (f ∷ [])) h i below
