use Rattle.term_store.specs.Terms.{text}
use Rattle.term_store.proofs.Laws.{longer-length, has_term-later, raw-stays, term-stays, free-meaning, new-free, unified-term, unified-equal, can-go-back-later, can-go-back-back, back-later, back-at-mark}
use Rattle.term_store.proofs.Arities.{terms-arities}
use Rattle.term_store.proofs.law.store_laws.Goals as goal

pub returns-clause-built : goal.returns-clause-built
returns-clause-built c = λ s t texts longer d h named later more has.
    (has_term-later s t _ _ d later (longer-length texts longer more) has, raw-stays s t texts longer d h named later more has)

pub returns-clause-term : goal.returns-clause-term
returns-clause-term c = term-stays

pub returns-clause-free : goal.returns-clause-free
returns-clause-free c = free-meaning

pub returns-clause-new_free : goal.returns-clause-new_free
returns-clause-new_free c = new-free

pub returns-clause-unified : goal.returns-clause-unified
returns-clause-unified c = λ texts old new a b same u. ((λ d. unified-term texts old new a b d same u), unified-equal texts old new a b same u)

pub returns-clause-mark : goal.returns-clause-mark
returns-clause-mark c = λ m s t h later can. (can-go-back-later m s t later can, can-go-back-back m s t h later can)

pub returns-clause-back : goal.returns-clause-back
returns-clause-back c = back-later

pub returns-clause-restored : goal.returns-clause-restored
returns-clause-restored c = back-at-mark

pub returns-clause-arities : goal.returns-clause-arities
returns-clause-arities c = λ s texts d h w. terms-arities s (text texts) d h w
