-- A store that goes back to a mark.
use Rattle.std.proofs.Common.{◌≡◌, ℕ, ◌+◌, ◌-◌, ◌<◌, List, [], length, take, drop, All, sym, ap, ap₂, ◌∙◌, arith, subst, length-drop}
use Rattle.std.proofs.lemmas.List.{get_or-take, length-take-le, take-take, take-append-drop, drop-drop}
use Rattle.std.proofs.lemmas.List.Elements.{All-drop}
use Rattle.term_store.specs.Shape.{Shape}
use Rattle.term_store.specs.declared.cell.Cell.{Cell}
use Rattle.term_store.specs.declared.cell.Trailed.{Trailed}
use Rattle.term_store.specs.Terms.{raw, raw_by, text, row_at, IsCell, IsNamed, AreNamed, IsShape}
use Rattle.term_store.specs.Later.{back, CanGoBack}
use Rattle.term_store.proofs.Rows.{raw-later, within-more}

-- cells that were there keep their terms
pub raw-back : (texts : List (List ℕ)) (m : Trailed) (s : Shape) → CanGoBack m s → (c : Cell) → IsCell (back m s) c → raw texts (back m s) c ≡ raw texts s c
raw-back texts m s can c w =
    sym (raw-later (text texts) (take m.compounds s.compounds) (drop m.compounds s.compounds) s.variables can.formed.compounds c w)
    ∙ ap (λ (rows : List (ℕ × List Cell)). raw_by (text texts) rows c) (take-append-drop m.compounds s.compounds)

-- to an older mark by way of a younger one
pub back-back : (m n : Trailed) (s : Shape) → CanGoBack n s → CanGoBack m (back n s) → back m (back n s) ≡ back m s
back-back m n s far near =
    let rows = length-take-le n.compounds s.compounds far.compounds in
    let left : length (drop (length s.bindings - n.bindings) s.bindings) ≡ n.bindings =
    let e = length-drop (length s.bindings - n.bindings) s.bindings in let b = far.bindings in omega (arith, e, b)
    in
    let count : (length s.bindings - n.bindings) + (length (drop (length s.bindings - n.bindings) s.bindings) - m.bindings) ≡ length s.bindings - m.bindings =
    let a = far.bindings in let b = near.bindings in omega (arith, left, a, b)
    in
    ap₂ (λ (cs : List (ℕ × List Cell)) (bs : List (ℕ × Cell)). record s { compounds = cs; bindings = bs })
    (take-take m.compounds n.compounds s.compounds (let a = near.compounds in omega (arith, rows, a)))
    (drop-drop (length (drop (length s.bindings - n.bindings) s.bindings) - m.bindings) (length s.bindings - n.bindings) s.bindings
    ∙ ap (λ (k : ℕ). drop k s.bindings) count)

pub can_go-older : (m n : Trailed) (s : Shape) → CanGoBack n s → CanGoBack m (back n s) → CanGoBack m s
can_go-older m n s far near = record {
  compounds = let rows = length-take-le n.compounds s.compounds far.compounds in let a = near.compounds in let b = far.compounds in omega (arith, rows, a, b);
  bindings =
      let e = length-drop (length s.bindings - n.bindings) s.bindings in let a = near.bindings in let b = far.bindings in omega (arith, e, a, b);
  formed = subst IsShape (back-back m n s far near) near.formed;
}

pub cell-older : (m : Trailed) (s : Shape) → CanGoBack m s → (c : Cell) → IsCell (back m s) c → IsCell s c
cell-older m s can c w =
    within-more (length (take m.compounds s.compounds)) (length s.compounds) s.variables s.variables c
    (let e = length-take-le m.compounds s.compounds can.compounds in let a = can.compounds in omega (arith, e, a)) (omega arith) w

pub named-back : (count : ℕ) (m : Trailed) (s : Shape) → CanGoBack m s → AreNamed count s → AreNamed count (back m s)
named-back count m s can h = record {
  compounds = λ i less.
      let e = length-take-le m.compounds s.compounds can.compounds in
      let a = can.compounds in
      subst (λ (row : ℕ × List Cell). (row.0 < count) × All (IsNamed count) row.1)
      (sym (get_or-take m.compounds s.compounds i (row_at [] 0) (omega (arith, e, less))))
      (h.compounds i (omega (arith, e, less, a)));
  bindings = All-drop (λ (b : ℕ × Cell). IsNamed count b.1) (length s.bindings - m.bindings) s.bindings h.bindings;
}
