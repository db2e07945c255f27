use Rattle.std.proofs.Common.{⊎_elim, inl, refl, sym, arith}
use Rattle.std.proofs.lemmas.Option.{none-some, same_Some}
use Rattle.path_rule.proofs.trail_laws.what_a_trail_finds_of_memtables.Goals as goal

pub returns-clause-made : goal.returns-clause-made
returns-clause-made c = inl (refl, refl, refl)

pub returns-clause-made_alone : goal.returns-clause-made_alone
returns-clause-made_alone c = λ t m key F. ⊎_elim
    (λ f. let is = f.2 in (sym f.0, sym f.1, omega (arith, is))) (λ x. absurd x) F

pub returns-clause-looked : goal.returns-clause-looked
returns-clause-looked c = inl (refl, refl, refl)

pub returns-clause-looked_alone : goal.returns-clause-looked_alone
returns-clause-looked_alone c = λ t m key F. ⊎_elim
    (λ f. let is = f.2 in (sym f.0, sym f.1, omega (arith, is))) (λ x. absurd x) F

pub returns-clause-raised : goal.returns-clause-raised
returns-clause-raised c = λ t m key low F. ⊎_elim
    (λ f. let is = f.2 in absurd (omega (arith, is))) (λ x. absurd x) F

pub returns-clause-live : goal.returns-clause-live
returns-clause-live c = λ t m key F. ⊎_elim
    (λ f. let is = f.2 in absurd (omega (arith, is))) (λ x. absurd x) F

pub returns-clause-filed : goal.returns-clause-filed
returns-clause-filed c = inl (refl, refl, refl)

pub returns-clause-not_emptied : goal.returns-clause-not_emptied
returns-clause-not_emptied c = λ F. ⊎_elim (λ f. absurd (none-some 0 (sym f.2))) (λ x. absurd x) F

pub returns-clause-not_above : goal.returns-clause-not_above
returns-clause-not_above c = λ F. ⊎_elim
    (λ f. let is = same_Some 0 7 f.2 in absurd (omega (arith, is))) (λ x. absurd x) F

pub returns-clause-no_other : goal.returns-clause-no_other
returns-clause-no_other c = λ gave F. ⊎_elim (λ f. let is = f.1 in absurd (omega (arith, is)))
    (λ x. absurd x) F

pub returns-clause-least : goal.returns-clause-least
returns-clause-least c = inl (refl, refl)

pub returns-clause-emptied : goal.returns-clause-emptied
returns-clause-emptied c = inl (refl, refl, refl)

pub returns-clause-not_filed : goal.returns-clause-not_filed
returns-clause-not_filed c = λ lower F. ⊎_elim (λ f. absurd (none-some lower f.2)) (λ x. absurd x) F
