-- That a seat has issued a barrier for each memtable that it made, behind the steps of a flush.
use Rattle.std.proofs.Common.{◌≡◌, ◌≤◌, ℕ, suc, Bool, true, false, cond, List, [], ◌∷◌, ◌++◌, refl}
use Rattle.std.proofs.Common.{sym, subst, arith}
use Rattle.std.proofs.lemmas.Bool.{true≢false}
use Rattle.path_core.specs.declared.event.Event.{Event}
use Rattle.path_core.specs.declared.event.Event.TheVariants.{Switch}
use Rattle.path_rule.specs.declared.view.OwnStep.{OwnStep}
use Rattle.path_rule.specs.declared.view.View.{View}
use Rattle.path_rule.specs.Issued.{is_open, issued_in, opened_in}
use Rattle.path_rule.specs.Rounds.{RoundSteps}
use Rattle.path_rule.proofs.log.Issues.{issued_both}
use Rattle.path_flush.specs.FlushSteps.{QuietSteps, SwitchesNo, SwitchesNone, UnswitchedSteps}
use Rattle.path_flush.proofs.SwitchGoes.{round_none}

-- steps of which none is one of a switch make no memtable

no_open : (e : Event) → SwitchesNo e → is_open e ≡ false
no_open (Switch by table memtable part) none = absurd none
no_open e none = refl

none_more : (b : Bool) (n m : ℕ) → b ≡ false → n ≡ m → cond b (suc n) n ≡ m
none_more true n m is same = absurd (true≢false is)
none_more false n m is same = same

opens_none : (ts us : List OwnStep) → SwitchesNone ts → opened_in (ts ++ us) ≡ opened_in us
opens_none [] us N = refl
opens_none (t ∷ ts) us N = none_more (is_open t.event) (opened_in (ts ++ us)) (opened_in us)
    (no_open t.event N.0) (opens_none ts us N.1)

-- what was issued, and made, does not fall

pub issued_up : (ts us : List OwnStep) → issued_in us ≤ issued_in (ts ++ us)
issued_up ts us = let all = issued_both ts us in omega (arith, all)

-- behind steps that switched nothing

paid_behind : (after : List OwnStep) (ts us : List OwnStep) → after ≡ ts ++ us → SwitchesNone ts
    → opened_in us ≤ issued_in us → opened_in after ≤ issued_in after
paid_behind after ts us is none paid = subst (λ (l : List OwnStep). opened_in l ≤ issued_in l)
    (sym is) (let same = opens_none ts us none in let up = issued_up ts us in
    omega (arith, same, up, paid))

pub paid_on : {t n : ℕ} (w : ℕ) (v after : View) → UnswitchedSteps w t n v after
    → opened_in v.trail ≤ issued_in v.trail → opened_in after.trail ≤ issued_in after.trail
paid_on w v after S paid =
    paid_behind after.trail S.made.steps v.trail S.made.trail S.none paid

pub paid_quiet : {t n : ℕ} (w : ℕ) (v after : View) → QuietSteps w t n v after
    → opened_in v.trail ≤ issued_in v.trail → opened_in after.trail ≤ issued_in after.trail
paid_quiet w v after S paid =
    paid_behind after.trail S.made.steps v.trail S.made.trail S.none paid

pub paid_round : {n : ℕ} (w : ℕ) (v after : View) → RoundSteps w n [] v after
    → opened_in v.trail ≤ issued_in v.trail → opened_in after.trail ≤ issued_in after.trail
paid_round w v after S paid =
    paid_behind after.trail S.steps v.trail S.trail (round_none w S.steps S.are) paid

-- how many were made, behind steps of barriers and syncs
pub opened_round : {n : ℕ} (w : ℕ) (v after : View) → RoundSteps w n [] v after
    → opened_in after.trail ≡ opened_in v.trail
opened_round w v after S = subst (λ (l : List OwnStep). opened_in l ≡ opened_in v.trail)
    (sym S.trail) (opens_none S.steps v.trail (round_none w S.steps S.are))
