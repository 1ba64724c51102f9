-- Atoms and their bytes: what a call means, by what is seen of its arguments.
use Rattle.std.proofs.Common.{◌≡◌, ℕ, zero, suc, ◌+◌, ◌<◌, ◌≤◌, List, [], ◌∷◌, ◌++◌, length, map, take, drop, get_or, All, true, false, Some, refl, sym, ap, ap₂, ◌∙◌, arith, subst, codes, slice_get, slice_index_or, true≢false}
use Rattle.std.specs.Prelude.{ℤ, pos, negsuc, int_lt, nat_lt}
use Rattle.std.proofs.lemmas.Bool.Decides.{nat_tests}
use Rattle.std.proofs.Math.Seq.{drop-cons, take-suc}
use Rattle.std.proofs.lemmas.List.{at_drop_all, take_all}
use Rattle.std.proofs.lemmas.List.Elements.{All-cons, All-nil}
use Rattle.std.proofs.lemmas.Option.{slice_get_within}
use Rattle.prolog_terms.specs.Tree.{Tree, Trees, variable, integer, atom, compound}
use Rattle.prolog_terms.specs.Substitutions.{substituted, numbered}
use Rattle.prolog_terms.specs.declared.fault.Fault.{Fault}
use Rattle.prolog_terms.specs.declared.fault.Fault.TheVariants.{OfType}
use Rattle.term_store.specs.declared.cell.Cell.{Cell}
use Rattle.term_store.specs.declared.cell.Cell.TheVariants as cell
use Rattle.term_store.specs.declared.cell.View.{View}
use Rattle.term_store.specs.declared.cell.View.TheVariants.{Variable, Integer, Atom, Compound}
use Rattle.term_store.specs.Shape.{Shape}
use Rattle.term_store.specs.Terms.{text, term_of, meaning as stands_for, trees_of, HasTerm, AreNamed, IsShape}
use Rattle.term_store.specs.Later.{AreLonger, AreDistinct}
use Rattle.term_store.specs.Views.{tree_of}
use Rattle.term_store.proofs.Rows.{raw-integer, raw-atom}
use Rattle.term_store.proofs.Laws.{longer-itself, longer-further}
use Rattle.term_builtins.specs.declared.atoms.Byte.TheVariants as given
use Rattle.term_builtins.specs.declared.atoms.Form.{Form}
use Rattle.term_builtins.specs.declared.atoms.Form.TheVariants as form
use Rattle.term_builtins.specs.Meanings.{Meaning, Raises, Byte, OfByte, NoByte, unbound, type_error, negative, no_code, equal, is_variable, is_nil, list_end, elements, of_list, list_tree, length_checked, atom_length, char_tree, code_in, or_no, char_element, by_byte, spelled, bytes_of_atom, from_code, to_code, char_code}
use Rattle.term_builtins.specs.Answers.{IsByte, IsList, byte_tree}
use Rattle.term_builtins.specs.Bytes.{IsByteCell, AreByteCells}
use Rattle.term_builtins.proofs.Views.{text-read}
use Rattle.term_builtins.proofs.Grown.{term-names}

-- ---- what is seen is neither of two kinds

module _ (P : Tree → Type 0) (name : ℕ → List ℕ) (tree : Cell → Tree) where
  pub seen-no_integer : (v : View) (t : Tree) → t ≡ tree_of name tree v → ((n : ℕ) → v ≡ Variable n → ⊥) → ((z : ℤ) → v ≡ Integer z → ⊥)
      → ((a : List ℕ) → P (atom a)) → ((f : List ℕ) (ts : Trees) → P (compound f ts)) → P t
  seen-no_integer v t e h k p q = subst P (sym e) (go v h k)
    where
      go : (w : View) → ((n : ℕ) → w ≡ Variable n → ⊥) → ((z : ℤ) → w ≡ Integer z → ⊥) → P (tree_of name tree w)
      go (Variable n) h k = absurd (h n refl)
      go (Integer z) h k = absurd (k z refl)
      go (Atom a) h k = p (name a)
      go (Compound f args) h k = q (name f) (trees_of tree args.now)

  pub seen-no_atom : (v : View) (t : Tree) → t ≡ tree_of name tree v → ((n : ℕ) → v ≡ Variable n → ⊥) → ((a : ℕ) → v ≡ Atom a → ⊥)
      → ((z : ℤ) → P (integer z)) → ((f : List ℕ) (ts : Trees) → P (compound f ts)) → P t
  seen-no_atom v t e h k p q = subst P (sym e) (go v h k)
    where
      go : (w : View) → ((n : ℕ) → w ≡ Variable n → ⊥) → ((a : ℕ) → w ≡ Atom a → ⊥) → P (tree_of name tree w)
      go (Variable n) h k = absurd (h n refl)
      go (Integer z) h k = p z
      go (Atom a) h k = absurd (k a refl)
      go (Compound f args) h k = q (name f) (trees_of tree args.now)

-- ---- cells that are no compounds

pub term-integer : (texts : List (List ℕ)) (s : Shape) (z : ℤ) → term_of texts s (cell.Integer z) ≡ integer z
term-integer texts s z = ap (substituted (stands_for texts s)) (raw-integer (text texts) s.compounds z)

pub has-integer : (texts : List (List ℕ)) (s : Shape) (z : ℤ) → HasTerm (length texts) s (cell.Integer z)
has-integer texts s z = (tt, tt)

pub term-atom : (texts : List (List ℕ)) (s : Shape) (n : ℕ) (a : List ℕ) → slice_get texts n ≡ Some a → term_of texts s (cell.Atom n) ≡ atom a
term-atom texts s n a e = ap (substituted (stands_for texts s)) (raw-atom (text texts) s.compounds n) ∙ ap atom (text-read texts n a e)

pub has-atom : (texts : List (List ℕ)) (s : Shape) (n : ℕ) (a : List ℕ) → slice_get texts n ≡ Some a → HasTerm (length texts) s (cell.Atom n)
has-atom texts s n a e = (tt, slice_get_within texts n a e)

-- ---- bytes

pub byte-is : (b : Byte) (x : ℕ) (then_ : ℕ → Meaning) → IsByte b (given.Of x) → by_byte b then_ ≡ then_ x
byte-is (OfByte c) x then_ e = ap then_ (sym e)
byte-is (NoByte m) x then_ e = absurd e

pub byte-not : (b : Byte) (f : Fault) (then_ : ℕ → Meaning) → IsByte b (given.Not f) → by_byte b then_ ≡ Raises f
byte-not (OfByte c) f then_ e = absurd e
byte-not (NoByte m) f then_ e = e

-- ---- the byte of an atom

pub char-one : (t : Tree) (a : List ℕ) → t ≡ atom a → 1 ≤ length a → length a < 2 → IsByte (char_element t) (given.Of (slice_index_or a 0 0))
char-one t a e some few = subst (λ (u : Tree). IsByte (char_element u) (given.Of (slice_index_or a 0 0))) (sym e) (go a some few)
  where
    go : (b : List ℕ) → 1 ≤ length b → length b < 2 → IsByte (char_element (atom b)) (given.Of (slice_index_or b 0 0))
    go [] some few = absurd (omega arith)
    go (c ∷ []) some few = refl
    go (c ∷ d ∷ ds) some few = absurd (omega arith)

pub char-long : (t : Tree) (a : List ℕ) → t ≡ atom a → (1 ≤ length a → length a < 2 → ⊥) → char_element t ≡ NoByte (type_error (codes "character") t)
char-long t a e h = subst (λ (u : Tree). char_element u ≡ NoByte (type_error (codes "character") u)) (sym e) (go a h)
  where
    go : (b : List ℕ) → (1 ≤ length b → length b < 2 → ⊥) → char_element (atom b) ≡ NoByte (type_error (codes "character") (atom b))
    go [] h = refl
    go (c ∷ []) h = absurd (h (omega arith) (omega arith))
    go (c ∷ d ∷ ds) h = refl

pub char-other : (name : ℕ → List ℕ) (tree : Cell → Tree) (v : View) (t : Tree) → t ≡ tree_of name tree v → ((n : ℕ) → v ≡ Variable n → ⊥) → ((a : ℕ) → v ≡ Atom a → ⊥)
    → char_element t ≡ NoByte (type_error (codes "character") t)
char-other name tree v t e h k = seen-no_atom (λ (u : Tree). char_element u ≡ NoByte (type_error (codes "character") u)) name tree v t e h k (λ z. refl) (λ f ts. refl)

pub char-raises : (t : Tree) (f : Fault) → char_element t ≡ NoByte (type_error (codes "character") t) → f ≡ OfType (codes "character") (numbered t) → IsByte (char_element t) (given.Not f)
char-raises t f e is = subst (λ (b : Byte). IsByte b (given.Not f)) (sym e) (ap Raises (sym is))

-- ---- lengths

pub length-free : (t l : Tree) (n : ℕ) → t ≡ variable n → atom_length t l ≡ unbound
length-free t l n e = ap (λ (u : Tree). atom_length u l) e

pub length-atom : (t l : Tree) (a : List ℕ) → t ≡ atom a → atom_length t l ≡ length_checked a l
length-atom t l a e = ap (λ (u : Tree). atom_length u l) e

pub length-other : (name : ℕ → List ℕ) (tree : Cell → Tree) (v : View) (t l : Tree) → t ≡ tree_of name tree v → ((n : ℕ) → v ≡ Variable n → ⊥) → ((a : ℕ) → v ≡ Atom a → ⊥)
    → atom_length t l ≡ type_error (codes "atom") t
length-other name tree v t l e h k = seen-no_atom (λ (u : Tree). atom_length u l ≡ type_error (codes "atom") u) name tree v t e h k (λ z. refl) (λ f ts. refl)

module _ (a : List ℕ) (t : Tree) where
  pub long-free : (n : ℕ) → t ≡ variable n → length_checked a t ≡ equal t (integer (pos (length a)))
  long-free n e = subst (λ (u : Tree). length_checked a u ≡ equal u (integer (pos (length a)))) (sym e) refl

  pub long-whole : (z : ℤ) → t ≡ integer z → int_lt z (pos 0) ≡ false → length_checked a t ≡ equal t (integer (pos (length a)))
  long-whole z e low = subst (λ (u : Tree). length_checked a u ≡ equal u (integer (pos (length a)))) (sym e) (go z low)
    where
      go : (y : ℤ) → int_lt y (pos 0) ≡ false → length_checked a (integer y) ≡ equal (integer y) (integer (pos (length a)))
      go (pos k) low = refl
      go (negsuc k) low = absurd cc

  pub long-negative : (z : ℤ) → t ≡ integer z → int_lt z (pos 0) ≡ true → length_checked a t ≡ negative t
  long-negative z e low = subst (λ (u : Tree). length_checked a u ≡ negative u) (sym e) (go z low)
    where
      go : (y : ℤ) → int_lt y (pos 0) ≡ true → length_checked a (integer y) ≡ negative (integer y)
      go (pos k) low = absurd (let no : nat_lt k 0 ≡ true = low in grind (arith, nat_tests))
      go (negsuc k) low = refl

  pub long-other : (name : ℕ → List ℕ) (tree : Cell → Tree) (v : View) → t ≡ tree_of name tree v → ((n : ℕ) → v ≡ Variable n → ⊥) → ((z : ℤ) → v ≡ Integer z → ⊥)
      → length_checked a t ≡ type_error (codes "integer") t
  long-other name tree v e h k = seen-no_integer (λ (u : Tree). length_checked a u ≡ type_error (codes "integer") u) name tree v t e h k (λ b. refl) (λ f ts. refl)

-- ---- codes

module _ (c t : Tree) where
  pub from-free : (n : ℕ) → t ≡ variable n → from_code c t ≡ unbound
  from-free n e = ap (from_code c) e

  pub from-whole : (z : ℤ) → t ≡ integer z → from_code c t ≡ by_byte (or_no no_code (code_in z)) (λ (code : ℕ). equal c (char_tree code))
  from-whole z e = ap (from_code c) e

  pub from-other : (name : ℕ → List ℕ) (tree : Cell → Tree) (v : View) → t ≡ tree_of name tree v → ((n : ℕ) → v ≡ Variable n → ⊥) → ((z : ℤ) → v ≡ Integer z → ⊥)
      → from_code c t ≡ type_error (codes "integer") t
  from-other name tree v e h k = seen-no_integer (λ (u : Tree). from_code c u ≡ type_error (codes "integer") u) name tree v t e h k (λ b. refl) (λ f ts. refl)

module _ (code : ℕ) (t : Tree) where
  pub to-free : (n : ℕ) → t ≡ variable n → to_code code t ≡ equal t (integer (pos code))
  to-free n e = subst (λ (u : Tree). to_code code u ≡ equal u (integer (pos code))) (sym e) refl

  pub to-whole : (z : ℤ) → t ≡ integer z → to_code code t ≡ by_byte (or_no no_code (code_in z)) (λ (found : ℕ). equal t (integer (pos code)))
  to-whole z e = subst (λ (u : Tree). to_code code u ≡ by_byte (or_no no_code (code_in z)) (λ (found : ℕ). equal u (integer (pos code)))) (sym e) refl

  pub to-other : (name : ℕ → List ℕ) (tree : Cell → Tree) (v : View) → t ≡ tree_of name tree v → ((n : ℕ) → v ≡ Variable n → ⊥) → ((z : ℤ) → v ≡ Integer z → ⊥)
      → to_code code t ≡ type_error (codes "integer") t
  to-other name tree v e h k = seen-no_integer (λ (u : Tree). to_code code u ≡ type_error (codes "integer") u) name tree v t e h k (λ b. refl) (λ f ts. refl)

pub coded-free : (c t : Tree) → is_variable c ≡ true → char_code c t ≡ from_code c t
coded-free (variable n) t e = refl
coded-free (integer z) t e = absurd (true≢false (sym e))
coded-free (atom a) t e = absurd (true≢false (sym e))
coded-free (compound f ts) t e = absurd (true≢false (sym e))

pub coded-bound : (c t : Tree) → is_variable c ≡ false → char_code c t ≡ by_byte (char_element c) (λ (code : ℕ). to_code code t)
coded-bound (variable n) t e = absurd (true≢false e)
coded-bound (integer z) t e = refl
coded-bound (atom a) t e = refl
coded-bound (compound f ts) t e = refl

-- ---- an atom as a list

module _ (tree : ℕ → Tree) (element : Tree → Byte) (t l : Tree) where
  pub bytes-free : (n : ℕ) → t ≡ variable n → bytes_of_atom tree element t l ≡ of_list l (spelled element t [])
  bytes-free n e = subst (λ (u : Tree). bytes_of_atom tree element u l ≡ of_list l (spelled element u [])) (sym e) refl

  pub bytes-atom : (a : List ℕ) → t ≡ atom a → bytes_of_atom tree element t l ≡ equal l (list_tree (map tree a))
  bytes-atom a e = ap (λ (u : Tree). bytes_of_atom tree element u l) e

  pub bytes-other : (name : ℕ → List ℕ) (cells : Cell → Tree) (v : View) → t ≡ tree_of name cells v → ((n : ℕ) → v ≡ Variable n → ⊥) → ((a : ℕ) → v ≡ Atom a → ⊥)
      → bytes_of_atom tree element t l ≡ type_error (codes "atom") t
  bytes-other name cells v e h k = seen-no_atom (λ (u : Tree). bytes_of_atom tree element u l ≡ type_error (codes "atom") u) name cells v t e h k (λ z. refl) (λ f ts. refl)

-- ---- a list whole

module _ (l e : Tree) (then_ : List Tree → Meaning) (is : e ≡ list_end l) where
  pub list-unbound : is_variable e ≡ true → of_list l then_ ≡ unbound
  list-unbound q = let k : is_variable (list_end l) ≡ true = ap is_variable (sym is) ∙ q in rw k refl

  pub list-other : is_variable e ≡ false → is_nil e ≡ false → of_list l then_ ≡ type_error (codes "list") l
  list-other q r =
      let k : is_variable (list_end l) ≡ false = ap is_variable (sym is) ∙ q in
      let j : is_nil (list_end l) ≡ false = ap is_nil (sym is) ∙ r in
      rw (k, j) refl

  pub list-whole : is_variable e ≡ false → is_nil e ≡ true → of_list l then_ ≡ then_ (elements l)
  list-whole q r =
      let k : is_variable (list_end l) ≡ false = ap is_variable (sym is) ∙ q in
      let j : is_nil (list_end l) ≡ true = ap is_nil (sym is) ∙ r in
      rw (k, j) refl

-- ---- the elements of a list, one by one

-- the front is what was found before this place
pub spelled-more : (element : Tree → Byte) (a : Tree) (tree : Cell → Tree) (cells : List Cell) (i : ℕ) (d : Cell) (front after : List ℕ) (x : ℕ) → i < length cells
    → IsByte (element (tree (get_or cells i d))) (given.Of x) → after ≡ front ++ x ∷ []
    → spelled element a front (map tree (drop i cells)) ≡ spelled element a after (map tree (drop (i + 1) cells))
spelled-more element a tree cells i d front after x low e pushed =
    let next : suc i ≡ i + 1 = omega arith in
    ap (λ (cs : List Cell). spelled element a front (map tree cs)) (drop-cons cells i d low)
    ∙ byte-is (element (tree (get_or cells i d))) x (λ (c : ℕ). spelled element a (front ++ c ∷ []) (map tree (drop (suc i) cells))) e
    ∙ ap₂ (λ (xs : List ℕ) (k : ℕ). spelled element a xs (map tree (drop k cells))) (sym pushed) next

pub spelled-not : (element : Tree → Byte) (a : Tree) (tree : Cell → Tree) (cells : List Cell) (i : ℕ) (d : Cell) (front : List ℕ) (f : Fault) → i < length cells
    → IsByte (element (tree (get_or cells i d))) (given.Not f) → spelled element a front (map tree (drop i cells)) ≡ Raises f
spelled-not element a tree cells i d front f low e =
    ap (λ (cs : List Cell). spelled element a front (map tree cs)) (drop-cons cells i d low)
    ∙ byte-not (element (tree (get_or cells i d))) f (λ (c : ℕ). spelled element a (front ++ c ∷ []) (map tree (drop (suc i) cells))) e

pub spelled-end : (element : Tree → Byte) (a : Tree) (tree : Cell → Tree) (cells : List Cell) (i : ℕ) (front : List ℕ) → length cells ≤ i
    → spelled element a front (map tree (drop i cells)) ≡ equal a (atom front)
spelled-end element a tree cells i front low = at_drop_all (λ (cs : List Cell). spelled element a front (map tree cs)) cells i low

-- ---- cells of bytes

number-stays : (texts later : List (List ℕ)) (n : ℕ) (t : List ℕ) → AreLonger texts later → slice_get texts n ≡ Some t → slice_get later n ≡ Some t
number-stays texts later n t h e = ap (λ (xs : List (List ℕ)). slice_get xs n) h.texts ∙ go texts n e
  where
    go : (xs : List (List ℕ)) (n : ℕ) → slice_get xs n ≡ Some t → slice_get (xs ++ h.added) n ≡ Some t
    go [] n e = absurd (cc)
    go (x ∷ xs) zero e = e
    go (x ∷ xs) (suc n) e = go xs n e

pub byte-code : (texts : List (List ℕ)) (f : Form) (b : ℕ) (z : ℤ) → f ≡ form.Codes → z ≡ pos b → IsByteCell texts f b (cell.Integer z)
byte-code texts f b z e k later s more = (has-integer later s z, term-integer later s z ∙ ap integer k ∙ ap (λ (g : Form). byte_tree g b) (sym e))

pub byte-char : (texts : List (List ℕ)) (f : Form) (b n : ℕ) → f ≡ form.Chars → slice_get texts n ≡ Some (b ∷ []) → IsByteCell texts f b (cell.Atom n)
byte-char texts f b n e k later s more =
    let there = number-stays texts later n (b ∷ []) more k in
    (has-atom later s n (b ∷ []) there, term-atom later s n (b ∷ []) there ∙ ap (λ (g : Form). byte_tree g b) (sym e))

map-push : {A B : Type 0} (f : A → B) (xs : List A) (x : A) → map f (xs ++ x ∷ []) ≡ map f xs ++ f x ∷ []
map-push f [] x = refl
map-push f (y ∷ xs) x = ap (λ (ys : List _). f y ∷ ys) (map-push f xs x)

all-push : {A : Type 0} (P : A → Type 0) (xs : List A) (x : A) → All P xs → P x → All P (xs ++ x ∷ [])
all-push P [] x h p = All-cons P x [] p (All-nil P)
all-push P (y ∷ xs) x h p = All-cons P y (xs ++ x ∷ []) (h 0 y (omega arith)) (all-push P xs x (λ k e lt. h (suc k) e (omega arith)) p)

-- cells were made of the bytes so far, and names were added
pub record AreMade (old texts : List (List ℕ)) (f : Form) (bytes : List ℕ) (cells : List Cell) : Type 0 where
  pub longer : AreLonger old texts
  pub distinct : AreDistinct texts
  pub are : AreByteCells texts f bytes cells

pub made-none : (texts : List (List ℕ)) (f : Form) → AreDistinct texts → AreMade texts texts f [] []
made-none texts f distinct = record {
  longer = longer-itself texts;
  distinct = distinct;
  are = λ later s more. (All-nil (HasTerm (length later) s), refl);
}

pub made-more : (old mid texts : List (List ℕ)) (f : Form) (bytes : List ℕ) (i : ℕ) (cells after : List Cell) (c : Cell) → AreMade old mid f (take i bytes) cells
    → AreLonger mid texts → (AreDistinct mid → AreDistinct texts) → IsByteCell texts f (get_or bytes i 0) c → i < length bytes → after ≡ cells ++ c ∷ []
    → AreMade old texts f (take (i + 1) bytes) after
made-more old mid texts f bytes i cells after c h longer distinct is low pushed = record {
  longer = longer-further old mid texts h.longer longer;
  distinct = distinct h.distinct;
  are = λ later s more.
      let all = h.are later s (longer-further mid texts later longer more) in
      let one = is later s more in
      let next : suc i ≡ i + 1 = omega arith in (
        subst (All (HasTerm (length later) s)) (sym pushed) (all-push (HasTerm (length later) s) cells c all.0 one.0),
        ap (map (term_of later s)) pushed ∙ map-push (term_of later s) cells c ∙ ap₂ (λ (xs : List Tree) (x : Tree). xs ++ x ∷ []) all.1 one.1
            ∙ sym (map-push (byte_tree f) (take i bytes) (get_or bytes i 0)) ∙ ap (map (byte_tree f)) (sym (take-suc bytes i 0 low) ∙ ap (λ (k : ℕ). take k bytes) next),
      );
}

pub made-all : (old texts : List (List ℕ)) (f : Form) (bytes : List ℕ) (i : ℕ) (cells : List Cell) → length bytes ≤ i → AreMade old texts f (take i bytes) cells → AreByteCells texts f bytes cells
made-all old texts f bytes i cells low h = subst (λ (xs : List ℕ). AreByteCells texts f xs cells) (take_all i bytes low) h.are

-- ---- an atom of a list, or the error

module _ (texts : List (List ℕ)) (s : Shape) (element : Tree → Byte) (atom_ list end : Cell) (cells : List Cell) (h : IsList texts s (term_of texts s list) cells end)
    (bound : is_variable (term_of texts s end) ≡ false) (whole : is_nil (term_of texts s end) ≡ true) where
  pub of-spelled : (m : Meaning) → spelled element (term_of texts s atom_) [] (map (term_of texts s) cells) ≡ m → of_list (term_of texts s list) (spelled element (term_of texts s atom_) []) ≡ m
  of-spelled m e =
      list-whole (term_of texts s list) (term_of texts s end) (spelled element (term_of texts s atom_) []) h.end_is bound whole
      ∙ ap (spelled element (term_of texts s atom_) []) (sym h.elements_are) ∙ e

-- under further names
pub of-names : (s : Shape) (a b : List (List ℕ)) (element : Tree → Byte) (atom_ list : Cell) → IsShape s → AreNamed (length a) s → AreLonger a b → HasTerm (length a) s atom_ → HasTerm (length a) s list
    → of_list (term_of b s list) (spelled element (term_of b s atom_) []) ≡ of_list (term_of a s list) (spelled element (term_of a s atom_) [])
of-names s a b element atom_ list shape named longer first second =
    ap₂ (λ (l t : Tree). of_list l (spelled element t [])) (term-names s a b list shape named longer second) (term-names s a b atom_ shape named longer first)
