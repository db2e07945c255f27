-- What steps leave of how many barriers their seat has issued: those of a write, and those of
-- barriers and syncs. So a seat that has issued one for each memtable that it made still has.
use Rattle.std.proofs.Common.{◌≡◌, ℕ, suc, ◌≤◌, Bool, true, false, cond, List, [], ◌∷◌, ◌++◌}
use Rattle.std.proofs.Common.{Option, Some, None, refl, sym, ap, ◌∙◌, subst, arith}
use Rattle.path_core.specs.declared.event.Event.{Event}
use Rattle.path_core.specs.declared.event.Event.TheVariants.{OpenGroup, Switch}
use Rattle.path_rule.specs.declared.answer.SyncAnswer.{SyncAnswer}
use Rattle.path_rule.specs.declared.view.OwnStep.{OwnStep}
use Rattle.path_rule.specs.declared.view.View.{View}
use Rattle.path_rule.specs.Issued.{is_issue, is_open, issued_in, opened_in}
use Rattle.path_rule.specs.Rounds.{AreRoundSteps, IsRoundStep, RoundSteps}
use Rattle.path_rule.specs.SyncAnswers.{MayAnswer}
use Rattle.path_table.specs.declared.table.Member.{Member}
use Rattle.write_path.specs.declared.deposited.Deposited.{Deposited}
use Rattle.write_path.specs.Commits.{IssuesNone}
use Rattle.write_path.specs.Ends.{AreTries, EndsWrite, IsTry}

-- a step of another kind adds none
pub one_more : (b : Bool) (n : ℕ) → b ≡ false → cond b (suc n) n ≡ n
one_more b n is = ap (λ (x : Bool). cond x (suc n) n) is

-- ---- a write issues none

try_issues : (w : ℕ) (e : Event) → IsTry w e → is_issue e ≡ false
try_issues w (OpenGroup by o g) is = absurd is
try_issues w e is = refl

tries_issue : (w : ℕ) (ts us : List OwnStep) → AreTries w ts → issued_in (ts ++ us) ≡ issued_in us
tries_issue w [] us A = refl
tries_issue w (t ∷ ts) us A =
    one_more (is_issue t.event) (issued_in (ts ++ us)) (try_issues w t.event A.0)
    ∙ tries_issue w ts us A.1

-- nor does it as it ends
pub ended_issues : {K : Type 0} (s : Deposited K) (after : Member K) → EndsWrite s after
    → IssuesNone s.member after
ended_issues s after E = ap (λ (v : View). issued_in v.trail) E.did.view
    ∙ (ap issued_in E.tried.trail
    ∙ tries_issue s.member.number E.tried.tries s.member.seat.me.0.trail E.tried.are)

-- ---- steps of barriers and syncs make no memtable

abbrev pub Paid : List OwnStep → Type 0
Paid trail = opened_in trail ≤ issued_in trail

round_opens : (w : ℕ) (e : Event) → IsRoundStep w e → is_open e ≡ false
round_opens w (Switch by t m part) is = absurd is
round_opens w e is = refl

no_fewer : (b : Bool) (n : ℕ) → n ≤ cond b (suc n) n
no_fewer true n = omega arith
no_fewer false n = omega arith

rounds_pay : (w : ℕ) (ts us : List OwnStep) → AreRoundSteps w ts → Paid us → Paid (ts ++ us)
rounds_pay w [] us A P = P
rounds_pay w (t ∷ ts) us A P = let before = rounds_pay w ts us A.1 P in
    let none = one_more (is_open t.event) (opened_in (ts ++ us)) (round_opens w t.event A.0) in
    let up = no_fewer (is_issue t.event) (issued_in (ts ++ us)) in
    omega (arith, before, none, up)

pub paid_by : {n : ℕ} (w : ℕ) (puts : List Event) (v after : View) → RoundSteps w n puts v after
    → Paid v.trail → Paid after.trail
paid_by w puts v after S P = subst Paid (sym S.trail) (rounds_pay w S.steps v.trail S.are P)

pub may_pay : (n w opened : ℕ) (a : Option SyncAnswer) (v after : View)
    → MayAnswer w n opened v a after → Paid v.trail → Paid after.trail
may_pay n w opened (Some a) v after A P = paid_by w A.puts v after A.steps P
may_pay n w opened None v after A P = paid_by w [] v after A P
