-- How many memtables of a table steps open.
use Rattle.std.proofs.Common.{◌≡◌, ◌≢◌, ℕ, ◌+◌, ◌≤◌, Bool, true, false, cond, List, [], ◌∷◌, ◌++◌}
use Rattle.std.proofs.Common.{refl, sym, ap, ◌∙◌, arith, ne_eqb}
use Rattle.std.proofs.lemmas.List.Sums.{sum_by-append, sum_by-cons}
use Rattle.path_core.specs.declared.event.Event.{Event}
use Rattle.path_core.specs.declared.event.Event.TheVariants.{Switch}
use Rattle.path_core.specs.declared.event.SwitchPart.TheVariants.{Open, Mark}
use Rattle.path_rule.specs.declared.view.OwnStep.{OwnStep}
use Rattle.path_rule.specs.declared.view.View.{View}
use Rattle.path_rule.specs.Rounds.{AreRoundSteps}
use Rattle.path_flush.specs.FlushSteps.{AreFlushSteps, FlushSteps, IsFlushStep, SwitchesNo}
use Rattle.path_flush.specs.FlushSteps.{SwitchesNone}
use Rattle.path_flush.specs.Opens.{is_opening, opens}
use Rattle.path_flush.proofs.SwitchGoes.{round_none}

-- one for a step that opens one, else none
abbrev pub counted : ℕ → Event → ℕ
counted t e = cond (is_opening t e) 1 0

pub opens_more : (t : ℕ) (s : OwnStep) (ss : List OwnStep)
    → opens t (s ∷ ss) ≡ counted t s.event + opens t ss
opens_more t s ss = sum_by-cons (λ (z : OwnStep). counted t z.event) s ss

pub opens_both : (t : ℕ) (ts us : List OwnStep) → opens t (ts ++ us) ≡ opens t ts + opens t us
opens_both t ts us = sum_by-append (λ (z : OwnStep). counted t z.event) ts us

-- a step that opens none, in front of others
pub opens_no : (t : ℕ) (s : OwnStep) (ss : List OwnStep) → is_opening t s.event ≡ false
    → opens t (s ∷ ss) ≡ opens t ss
opens_no t s ss is = let more = opens_more t s ss in
    let none = ap (λ (b : Bool). cond {A = ℕ} b 1 0) is in omega (arith, more, none)

-- one step opens one at most, and one behind it that opens none adds none
pub opens_two : (t : ℕ) (s u : OwnStep) → is_opening t u.event ≡ false
    → opens t (s ∷ u ∷ []) ≤ 1
opens_two t s u is = let more = opens_more t s (u ∷ []) in let none = opens_no t u [] is in
    let most = by (is_opening t s.event) in omega (arith, more, none, most)
  where
    by : (b : Bool) → cond {A = ℕ} b 1 0 ≤ 1
    by true = omega arith
    by false = omega arith

-- ---- steps of which none is one of a switch

no_opening : (t : ℕ) (e : Event) → SwitchesNo e → is_opening t e ≡ false
no_opening t (Switch by table memtable part) none = absurd none
no_opening t e none = refl

pub none_opened : (t : ℕ) (ss : List OwnStep) → SwitchesNone ss → opens t ss ≡ 0
none_opened t [] N = refl
none_opened t (s ∷ ss) N = opens_no t s ss (no_opening t s.event N.0) ∙ none_opened t ss N.1

-- those of barriers and syncs
pub round_opens : (w t : ℕ) (ss : List OwnStep) → AreRoundSteps w ss → opens t ss ≡ 0
round_opens w t ss A = none_opened t ss (round_none w ss A)

-- ---- a flush of a table opens no memtable of another

other_table : (w t u : ℕ) (e : Event) → u ≢ t → IsFlushStep w t e → is_opening u e ≡ false
other_table w t u (Switch by table memtable Open) far is =
    ne_eqb table.0 u (λ same. far (sym same ∙ is.1))
other_table w t u (Switch by table memtable Mark) far is = refl
other_table w t u e far is = refl

none_of_others : (w t u : ℕ) (ss : List OwnStep) → u ≢ t → AreFlushSteps w t ss → opens u ss ≡ 0
none_of_others w t u [] far A = refl
none_of_others w t u (s ∷ ss) far A =
    opens_no u s ss (other_table w t u s.event far A.0) ∙ none_of_others w t u ss far A.1

pub others_open : {n : ℕ} (w t u : ℕ) (v after : View) (S : FlushSteps w t n v after) → u ≢ t
    → opens u S.steps ≡ 0
others_open w t u v after S far = none_of_others w t u S.steps far S.are
