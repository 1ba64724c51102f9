-- The terms that stand for procedures, by what a list ends with.
use Rattle.std.proofs.Common.{◌≡◌, ℕ, List, [], ◌∷◌, Bool, true, false, ◌||◌, if◌then◌else◌, codes, refl, sym, ap, ◌∙◌}
use Rattle.std.proofs.lemmas.Bool.{true≢false}
use Rattle.std.specs.Cmp.Lexicographic.{same_text}
use Rattle.prolog_terms.specs.Tree.{Tree, variable, integer, atom, compound, none, more}
use Rattle.prolog_terms.specs.Flat.{tree, forest, HasPrefixOrder}
use Rattle.prolog_terms.specs.Clauses.{is_named}
use Rattle.prolog_terms.specs.declared.node.Node.{Node}
use Rattle.prolog_clauses.specs.Declarations.{is_cell, is_nil, elements, list_end}
use Rattle.prolog_clauses.specs.Dynamics.{conjuncts, is_list_cell, specs_of}
use Rattle.prolog_clauses.specs.Procedures.{all_conjuncts}
use Rattle.prolog_clauses.proofs.Conjuncts.{conjuncts_one}

-- ---- a term that is no cell ends in itself

otherwise : {A : Type 0} (b : Bool) (x y : A) → b ≡ false → (if b then x else y) ≡ y
otherwise b x y e = rw e refl

end_itself : (t : Tree) → is_list_cell t ≡ false → list_end t ≡ t
end_itself (variable n) e = refl
end_itself (integer z) e = refl
end_itself (atom a) e = refl
end_itself (compound f none) e = refl
end_itself (compound f (more a none)) e = refl
end_itself (compound f (more a (more b none))) e = otherwise (is_cell f) (list_end b) (compound f (more a (more b none))) e
end_itself (compound f (more a (more b (more x us)))) e = refl

-- ---- a cell is no conjunction

dot_or_comma : (f : List ℕ) → is_named (codes ".") f ≡ true → is_named (codes ",") f ≡ false
dot_or_comma f e = ap (is_named (codes ",")) (sym (same_text (codes ".") f (sym e)))

cell_alone : (t : Tree) → is_list_cell t ≡ true → t ∷ [] ≡ conjuncts t
cell_alone (variable n) e = absurd (true≢false (sym e))
cell_alone (integer z) e = absurd (true≢false (sym e))
cell_alone (atom a) e = absurd (true≢false (sym e))
cell_alone (compound f none) e = absurd (true≢false (sym e))
cell_alone (compound f (more a none)) e = absurd (true≢false (sym e))
cell_alone (compound f (more a (more b none))) e =
    sym (otherwise (is_named (codes ",") f) _ (compound f (more a (more b none)) ∷ []) (dot_or_comma f e))
cell_alone (compound f (more a (more b (more x us)))) e = absurd (true≢false (sym e))

-- ---- which terms there are

-- the choice of the definition
chosen_first : {A : Type 0} (cell nil ends : Bool) (x y z : A) → ends ≡ true → (cell ≡ false → nil ≡ ends) → x ≡ (if cell || nil then (if ends then x else y) else z)
chosen_first true nil ends x y z e h = rw e refl
chosen_first false nil ends x y z e h = rw (h refl ∙ e, e) refl

chosen_last : {A : Type 0} (cell nil ends : Bool) (x y z : A) → ends ≡ false → (cell ≡ false → nil ≡ ends) → (cell ≡ true → y ≡ z) → z ≡ (if cell || nil then (if ends then x else y) else z)
chosen_last true nil ends x y z e h k = rw e (sym (k refl))
chosen_last false nil ends x y z e h k = rw (h refl ∙ e) refl

end_nil : (t : Tree) → is_list_cell t ≡ false → is_nil t ≡ is_nil (list_end t)
end_nil t e = ap is_nil (sym (end_itself t e))

pub listed_so : (t : Tree) → is_nil (list_end t) ≡ true → elements t ≡ specs_of t
listed_so t e = chosen_first (is_list_cell t) (is_nil t) (is_nil (list_end t)) (elements t) (t ∷ []) (conjuncts t) e (end_nil t)

pub joined_so : (ns : List Node) → HasPrefixOrder ns → is_nil (list_end (tree ns)) ≡ false → all_conjuncts (forest ns) ≡ specs_of (tree ns)
joined_so ns h e =
    let t = tree ns in
    conjuncts_one ns h ∙ chosen_last (is_list_cell t) (is_nil t) (is_nil (list_end t)) (elements t) (t ∷ []) (conjuncts t) e (end_nil t) (cell_alone t)
