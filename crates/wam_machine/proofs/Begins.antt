-- What is so in what a base has seen is so in each journal that begins with it, and stays so as the base sees more.
use Rattle.std.proofs.Common.{◌≡◌, ℕ, ◌≤◌, List, [], ◌++◌, length, take, drop, refl, sym, ap, ◌∙◌, subst, arith, min, append-nil}
use Rattle.std.specs.Prelude.{Result, Ok, Err, IfOk}
use Rattle.std.proofs.lemmas.List.{length-take, take-take, take-append-drop, append_cancel_left}
use Rattle.std.proofs.lemmas.List.Elements.{filter-append}
use Rattle.std.proofs.Math.Seq.{take-length}
use Rattle.prolog_terms.specs.declared.entry.Entry.{Entry}
use Rattle.journals.specs.Journal.{Journal}
use Rattle.journal_base.specs.View.{View, Grows, Looks, IsSound, InSeen, entries_by}
use Rattle.wam_machine.specs.Cursors.{Begins}
use Rattle.wam_machine.specs.View.{AreBelow, IsFronted, IsHostOf, Makes}
use Rattle.wam_machine.specs.declared.state.Host.{Host}

-- ---- journals that begin with what is seen

pub begins_self : (v : View) (J : Journal) → v.stands_for J → Begins v J
begins_self v J s = record { journal = J; stands = s; same = refl }

-- what is so in what is seen
pub seen_in : (v : View) (P : Journal → Type 0) (j : Journal) → InSeen v P → Begins v j → P (take v.seen j)
seen_in v P j h b = subst P (sym b.same) (h b.journal b.stands)

pub long : (v : View) (j : Journal) → IsSound v → Begins v j → v.seen ≤ length j
long v j s b =
    let whole : v.seen ≤ length b.journal = (s.each b.journal b.stands).long in
    let same : length (take v.seen j) ≡ length (take v.seen b.journal) = ap length b.same in
    let here : length (take v.seen j) ≡ min v.seen (length j) = length-take v.seen j in
    let there : length (take v.seen b.journal) ≡ min v.seen (length b.journal) = length-take v.seen b.journal in
    omega arith

pub begins_before : (a b : View) (j : Journal) → Grows a b → Begins b j → Begins a j
begins_before a b j g s = go (g.prefix s.journal s.stands)
  where
    go : (n : ℕ) × ((a.seen ≤ n) × ((n ≤ length s.journal) × a.stands_for (take n s.journal))) → Begins a j
    go (n, (low, (high, stands))) = record {
      journal = take n s.journal;
      stands = stands;
      same = sym (take-take a.seen b.seen j g.front) ∙ ap (take a.seen) s.same ∙ take-take a.seen b.seen s.journal g.front ∙ sym (take-take a.seen n s.journal low);
    }

-- ---- one call after another

pub grows_refl : (a : View) → IsSound a → Grows a a
grows_refl a s = record {
  front = omega arith;
  prefix = λ J h. let whole : a.seen ≤ length J = (s.each J h).long in (length J, (whole, (omega arith, subst a.stands_for (sym (take-length J)) h)));
  number = refl;
  words = refl;
  updates = refl;
  causes = refl;
  sound = s;
}

pub looks_refl : (a : View) → IsSound a → Looks a a
looks_refl a s = record { grows = grows_refl a s; own = refl }

pub grows_trans : (a b c : View) → Grows a b → Grows b c → Grows a c
grows_trans a b c p q = record {
  front = omega (arith, p.front, q.front);
  prefix = λ J s. go J (q.prefix J s);
  number = q.number ∙ p.number;
  words = q.words ∙ p.words;
  updates = q.updates ∙ p.updates;
  causes = q.causes ∙ p.causes;
  sound = q.sound;
}
  where
    more : (J : Journal) (n : ℕ) → b.seen ≤ n → n ≤ length J → (m : ℕ) × ((a.seen ≤ m) × ((m ≤ length (take n J)) × a.stands_for (take m (take n J))))
        → (m : ℕ) × ((a.seen ≤ m) × ((m ≤ length J) × a.stands_for (take m J)))
    more J n low high (m, (l, (h, s))) =
        let e : length (take n J) ≡ min n (length J) = length-take n J in
        let le : m ≤ n = omega arith in
        (m, (l, (omega arith, subst a.stands_for (take-take m n J le) s)))

    go : (J : Journal) → (n : ℕ) × ((b.seen ≤ n) × ((n ≤ length J) × b.stands_for (take n J))) → (m : ℕ) × ((a.seen ≤ m) × ((m ≤ length J) × a.stands_for (take m J)))
    go J (n, (l, (h, s))) = more J n l h (p.prefix (take n J) s)

pub looks_trans : (a b c : View) → Looks a b → Looks b c → Looks a c
looks_trans a b c p q = record { grows = grows_trans a b c p.grows q.grows; own = q.own ∙ p.own }

-- ---- entries of the base's engine

-- all that are seen are its own
pub own_in : (v : View) (j : Journal) → IsSound v → Begins v j → entries_by v.number (take v.seen j) ≡ v.own
own_in v j s b = ap (entries_by v.number) b.same ∙ (s.each b.journal b.stands).own_seen

-- they are below the front
pub below_seen : (v : View) (front : ℕ) → IsSound v → front ≡ v.seen → AreBelow v front
below_seen v front s e = λ j b. ap (λ (n : ℕ). entries_by v.number (take n j)) e ∙ own_in v j s b

-- and stay below a front while the base looks
pub below_on : (v w : View) (front : ℕ) → Looks v w → AreBelow v front → AreBelow w front
below_on v w front l h = λ j b. ap (λ (k : ℕ). entries_by k (take front j)) l.grows.number ∙ h j (begins_before v w j l.grows b) ∙ sym l.own

-- a front that was taken just now
pub fronted : (v : View) (front : ℕ) → IsSound v → front ≡ v.seen → IsFronted v front
fronted v front s e = record { reached = omega (arith, e); below = below_seen v front s e }

pub fronted_on : (v w : View) (front : ℕ) → Looks v w → IsFronted v front → IsFronted w front
fronted_on v w front l f = record { reached = omega (arith, f.reached, l.grows.front); below = below_on v w front l f.below }

-- what the base's engine made since
pub made_since : (u v : View) (J : Journal) (made : List Entry) → IsSound u → Grows u v → v.own ≡ u.own ++ made → v.stands_for J → entries_by v.number (drop u.seen J) ≡ made
made_since u v J made sound l own s = go (l.prefix J s)
  where
    go : (n : ℕ) × ((u.seen ≤ n) × ((n ≤ length J) × u.stands_for (take n J))) → entries_by v.number (drop u.seen J) ≡ made
    go (n, (low, (high, stands))) =
        let whole : entries_by v.number J ≡ v.own = (l.sound.each J s).own in
        let seen : entries_by u.number (take u.seen (take n J)) ≡ u.own = (sound.each (take n J) stands).own_seen in
        let first : entries_by v.number (take u.seen J) ≡ u.own = ap (λ k. entries_by k (take u.seen J)) l.number ∙ ap (entries_by u.number) (sym (take-take u.seen n J low)) ∙ seen in
        let parts : entries_by v.number (take u.seen J) ++ entries_by v.number (drop u.seen J) ≡ entries_by v.number J =
        sym (filter-append _ (take u.seen J) (drop u.seen J)) ∙ ap (entries_by v.number) (take-append-drop u.seen J) in
        append_cancel_left u.own (entries_by v.number (drop u.seen J)) made (ap (λ (es : List Entry). es ++ entries_by v.number (drop u.seen J)) (sym first) ∙ parts ∙ whole ∙ own)

-- a host knows its base as long as that grows
pub host_on : (h : Host) (v w : View) → Grows v w → IsHostOf h v → IsHostOf h w
host_on h v w l i = record { engine = i.engine ∙ sym l.number; words = i.words ∙ sym l.words; updates = i.updates ∙ sym l.updates }

-- ---- what a part makes

-- a part that only looks makes nothing
pub makes_none : (v w : View) (P : List Entry → Type 0) → Looks v w → P [] → Makes v w P
makes_none v w P l p = record { made = []; own = l.own ∙ sym (append-nil v.own); so = p }

pub makes_none_ok : {T E : Type 0} (r : Result T E) (v w : View) (P : T → List Entry → Type 0) → Looks v w → IfOk r (λ x. P x []) → IfOk r (λ x. Makes v w (P x))
makes_none_ok (Ok x) v w P l p = makes_none v w (P x) l p
makes_none_ok (Err e) v w P l p = tt

-- and what it makes is so in the whole
pub makes_as : (v w : View) (P Q : List Entry → Type 0) → ((made : List Entry) → P made → Q made) → Makes v w P → Makes v w Q
makes_as v w P Q f m = record { made = m.made; own = m.own; so = f m.made m.so }

pub makes_as_ok : {T E : Type 0} (r : Result T E) (v w : View) (P Q : T → List Entry → Type 0) → ((x : T) (made : List Entry) → P x made → Q x made) → IfOk r (λ x. Makes v w (P x)) → IfOk r (λ x. Makes v w (Q x))
makes_as_ok (Ok x) v w P Q f m = makes_as v w (P x) (Q x) (f x) m
makes_as_ok (Err e) v w P Q f m = tt
