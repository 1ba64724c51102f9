-- Pieces that are added one by one.
use Rattle.std.proofs.Common.{◌≡◌, ℕ, List, [], ◌∷◌, ◌++◌, refl, sym, ap, ◌∙◌, append_assoc, append-nil}
use Rattle.prolog_writer.specs.Spaces.{Piece, Writing, added, all_added, gap, edge_of, spaced}

pub all_added-append : (w : Writing) (ps qs : List Piece) → all_added w (ps ++ qs) ≡ all_added (all_added w ps) qs
all_added-append w [] qs = refl
all_added-append w (p ∷ ps) qs = all_added-append (added w p) ps qs

together : (a b c d : List ℕ) → ((a ++ b) ++ c) ++ d ≡ a ++ ((b ++ c) ++ d)
together a b c d = append_assoc (a ++ b) c d ∙ append_assoc a b (c ++ d) ∙ ap (λ (t : List ℕ). a ++ t) (sym (append_assoc b c d))

pub all_added-text : (w : Writing) (ps : List Piece) → (all_added w ps).text ≡ w.text ++ spaced w.edge ps
all_added-text w [] = sym (append-nil w.text)
all_added-text w (p ∷ ps) =
    let first : (all_added (added w p) ps).text ≡ ((w.text ++ gap w.edge p) ++ p.text) ++ spaced (edge_of p) ps = all_added-text (added w p) ps in
    first ∙ together w.text (gap w.edge p) p.text (spaced (edge_of p) ps)
