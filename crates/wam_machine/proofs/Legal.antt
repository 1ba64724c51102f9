-- The clauses of a legal journal have bodies.
use Rattle.std.proofs.Common.{◌≡◌, ℕ, suc, List, [], ◌∷◌, take, refl}
use Rattle.std.specs.Prelude.{All, IfSome, Some, slice_get}
use Rattle.std.proofs.lemmas.List.Elements.{All-nil, All-cons}
use Rattle.prolog_terms.specs.declared.entry.What.{What}
use Rattle.prolog_terms.specs.declared.entry.What.TheVariants.{Declare, Add, Erase}
use Rattle.journals.specs.Journal.{Journal, added}
use Rattle.journal_base.specs.Legal.{MayFollow}
use Rattle.wam_machine.specs.Laws.{HasBody, LegalHasBodies}

each_all : {X : Type 0} (P : X → Type 0) (xs : List X) → ((k : ℕ) (x : X) → slice_get xs k ≡ Some x → P x) → All P xs
each_all P [] h = All-nil P
each_all P (x ∷ xs) h = All-cons P x xs (h 0 x refl) (each_all P xs (λ k. h (suc k)))

follows_body : (J : Journal) (engine : ℕ) (w : What) → MayFollow J engine w → IfSome (added w) HasBody
follows_body J engine (Declare i k) h = tt
follows_body J engine (Add end p c) h = h.clause.body
follows_body J engine (Erase k) h = tt

pub legal_bodies : LegalHasBodies
legal_bodies words updates J l = each_all (λ e. IfSome (added e.what) HasBody) J (λ k e q. follows_body (take k J) e.by e.what (l.follows k e q))
