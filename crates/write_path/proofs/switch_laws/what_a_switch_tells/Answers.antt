use Rattle.std.proofs.Common.{⊎_elim, inl, inr, refl, arith}
use Rattle.write_path.proofs.switch_laws.what_a_switch_tells.Goals as goal

pub returns-clause-first : goal.returns-clause-first
returns-clause-first c = inl (refl, refl, refl, refl)

pub returns-clause-at_no_other : goal.returns-clause-at_no_other
returns-clause-at_no_other c = λ key F. ⊎_elim (λ f. let is = f.3 in omega (arith, is))
    (λ a. ⊎_elim (λ x. absurd x) (λ b. ⊎_elim (λ x. absurd x) (λ d. ⊎_elim (λ x. absurd x)
    (λ e. ⊎_elim (λ x. absurd x) (λ h. ⊎_elim (λ x. absurd x) (λ x. absurd x) h) e) d) b) a) F

pub returns-clause-second : goal.returns-clause-second
returns-clause-second c = inl (refl, refl, refl, refl)

pub returns-clause-list : goal.returns-clause-list
returns-clause-list c = λ before. (
  ((refl, refl), ((refl, refl), (refl, ((refl, refl), ((refl, refl), ((refl, refl), tt)))))),
  refl,
)

pub returns-clause-other : goal.returns-clause-other
returns-clause-other c = λ A. absurd (let q = A.0.1 in omega (arith, q))

pub returns-clause-looked : goal.returns-clause-looked
returns-clause-looked c = λ before. refl

pub returns-clause-acted : goal.returns-clause-acted
returns-clause-acted c = refl

pub returns-clause-unswitched : goal.returns-clause-unswitched
returns-clause-unswitched c = (tt, (tt, tt))

pub returns-clause-switched : goal.returns-clause-switched
returns-clause-switched c = λ S. S.0

pub returns-clause-opened : goal.returns-clause-opened
returns-clause-opened c = refl

pub returns-clause-opened_other : goal.returns-clause-opened_other
returns-clause-opened_other c = refl

pub returns-clause-found : goal.returns-clause-found
returns-clause-found c = refl

pub returns-clause-alone : goal.returns-clause-alone
returns-clause-alone c = (
  λ of. (
    inr (inr (inr (inr (inr (inl (refl, refl)))))),
    inr (inr (inr (inr (inr (inr (inl (refl, refl))))))),
  ),
  (tt, (tt, (tt, (tt, (tt, (tt, (tt, tt))))))),
)

pub returns-clause-unlooked : goal.returns-clause-unlooked
returns-clause-unlooked c = λ S. ⊎_elim (λ x. absurd x) (λ a. ⊎_elim (λ f. let q = f.0 in cc)
    (λ b. ⊎_elim (λ x. absurd x) (λ d. ⊎_elim (λ x. absurd x) (λ e. ⊎_elim (λ x. absurd x)
    (λ x. absurd x) e) d) b) a) (S.0 refl).0

pub returns-clause-passed_over : goal.returns-clause-passed_over
returns-clause-passed_over c = λ S. ⊎_elim (λ x. absurd x)
    (λ a. ⊎_elim (λ f. let q = f.0 in cc) (λ b. ⊎_elim (λ x. absurd x) (λ d.
    ⊎_elim (λ x. absurd x) (λ y. ⊎_elim (λ x. absurd x) (λ e. ⊎_elim (λ f. let q = f.1 in omega
    (arith, q)) (λ h. ⊎_elim (λ f. let q = f.0 in cc) (λ x. absurd x) h) e) y) d) b) a)
    (S.0 refl).0

pub returns-clause-left : goal.returns-clause-left
returns-clause-left c = λ S. ⊎_elim (λ x. absurd x)
    (λ a. ⊎_elim (λ f. let q = f.0 in cc) (λ b. ⊎_elim (λ x. absurd x) (λ d.
    ⊎_elim (λ x. absurd x) (λ y. ⊎_elim (λ x. absurd x) (λ e. ⊎_elim (λ f. let q = f.0 in cc)
    (λ h. ⊎_elim (λ f. let q = f.1 in omega (arith, q)) (λ x. absurd x) h) e) y) d) b) a)
    (S.0 refl).1

pub returns-clause-older : goal.returns-clause-older
returns-clause-older c = λ S. ⊎_elim (λ x. absurd x)
    (λ a. ⊎_elim (λ f. let q = f.0 in cc) (λ b. ⊎_elim (λ x. absurd x) (λ d.
    ⊎_elim (λ x. absurd x) (λ y. ⊎_elim (λ x. absurd x) (λ e. ⊎_elim (λ f. let q = f.1 in omega
    (arith, q)) (λ h. ⊎_elim (λ f. let q = f.0 in cc) (λ x. absurd x) h) e) y) d) b) a)
    (S.0 refl).0

pub returns-clause-late : goal.returns-clause-late
returns-clause-late c = λ S. ⊎_elim (λ x. absurd x) (λ a. ⊎_elim (λ f. let q = f.0 in cc)
    (λ b. ⊎_elim (λ x. absurd x) (λ d. ⊎_elim (λ x. absurd x) (λ e. ⊎_elim (λ x. absurd x)
    (λ x. absurd x) e) d) b) a) (S.1.1.0 refl).0

pub returns-clause-of_another : goal.returns-clause-of_another
returns-clause-of_another c = (
  λ of. absurd (omega (arith, of)),
  (tt, (tt, (tt, (tt, (tt, tt))))),
)
