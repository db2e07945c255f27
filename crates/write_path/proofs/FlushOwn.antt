-- A flush, or a switch, of one table leaves the memtables of all others.
use Rattle.std.proofs.Common.{◌≡◌, ℕ, List, [], ◌∷◌, Option, sym, ap, ◌∙◌, ⊎_elim}
use Rattle.clog_base.specs.declared.cell.Table.{Table}
use Rattle.path_core.specs.declared.event.Cursor.TheVariants.{Synced, OldestLive, Stopped}
use Rattle.path_core.specs.declared.event.Event.{Event}
use Rattle.path_core.specs.declared.event.Event.TheVariants.{Look, Register, Close, OpenGroup}
use Rattle.path_core.specs.declared.event.Event.TheVariants.{MoveCurrent, Expire, Advance, Claim}
use Rattle.path_core.specs.declared.event.Event.TheVariants.{Switch, Raise, Finalise, TakeTurn}
use Rattle.path_core.specs.declared.event.Event.TheVariants.{GiveTurn, Put}
use Rattle.path_rule.specs.declared.view.OwnStep.{OwnStep}
use Rattle.path_rule.specs.declared.view.View.{View}
use Rattle.path_rule.specs.FindsBounds.{Retires, RetiresBy}
use Rattle.path_flush.specs.FlushSteps.{AreFlushSteps, Finalises, FinalisesBy, FlushSteps}
use Rattle.path_flush.specs.FlushSteps.{IsFlushStep}

-- ---- memtables that were made final

final_by : (w t u m key : ℕ) (e : Event) (n : ℕ) → IsFlushStep w t e → FinalisesBy w u m key e n
    → u ≡ t
final_by w t u m key (Finalise by table memtable) n is F = sym F.1 ∙ is.1
final_by w t u m key (Look by at) n is F = absurd F
final_by w t u m key (Register by o g) n is F = absurd F
final_by w t u m key (Close by o g carried) n is F = absurd F
final_by w t u m key (OpenGroup by o g) n is F = absurd F
final_by w t u m key (MoveCurrent by o g) n is F = absurd F
final_by w t u m key (Expire by o g) n is F = absurd F
final_by w t u m key (Advance by o g) n is F = absurd F
final_by w t u m key (Claim by from to what) n is F = absurd F
final_by w t u m key (Switch by table k part) n is F = absurd F
final_by w t u m key (Raise by table k to) n is F = absurd F
final_by w t u m key (TakeTurn by turn) n is F = absurd F
final_by w t u m key (GiveTurn by turn) n is F = absurd F
final_by w t u m key (Put by cursor value) n is F = absurd F

final_own : (w t u m key : ℕ) (ss : List OwnStep) → AreFlushSteps w t ss → Finalises w u m key ss
    → u ≡ t
final_own w t u m key [] A F = absurd F
final_own w t u m key (s ∷ ss) A F = ⊎_elim (λ now. final_by w t u m key s.event s.found A.0 now)
    (λ older. final_own w t u m key ss A.1 older) F

pub finalises_own : {n : ℕ} (w t u m key : ℕ) (v after : View) (S : FlushSteps w t n v after)
    → Finalises w u m key S.steps → u ≡ t
finalises_own w t u m key v after S F = final_own w t u m key S.steps S.are F

-- ---- memtables that were retired

same_table : (a b : Table) → OldestLive a ≡ OldestLive b → a ≡ b
same_table a b q = cc

retired_by : (w t : ℕ) (u : Table) (m : ℕ) (gave filed : Option ℕ) (e : Event) → IsFlushStep w t e
    → RetiresBy u m gave e filed → u.0 ≡ t
retired_by w t u m gave filed (Put by (OldestLive table) value) is R =
    ap (λ (k : Table). k.0) (sym (same_table table u R.0)) ∙ is.1
retired_by w t u m gave filed (Put by Synced value) is R = absurd (let q = R.0 in cc)
retired_by w t u m gave filed (Put by Stopped value) is R = absurd (let q = R.0 in cc)
retired_by w t u m gave filed (Look by at) is R = absurd R
retired_by w t u m gave filed (Register by o g) is R = absurd R
retired_by w t u m gave filed (Close by o g carried) is R = absurd R
retired_by w t u m gave filed (OpenGroup by o g) is R = absurd R
retired_by w t u m gave filed (MoveCurrent by o g) is R = absurd R
retired_by w t u m gave filed (Expire by o g) is R = absurd R
retired_by w t u m gave filed (Advance by o g) is R = absurd R
retired_by w t u m gave filed (Claim by from to what) is R = absurd R
retired_by w t u m gave filed (Switch by table k part) is R = absurd R
retired_by w t u m gave filed (Raise by table k to) is R = absurd R
retired_by w t u m gave filed (Finalise by table k) is R = absurd R
retired_by w t u m gave filed (TakeTurn by turn) is R = absurd R
retired_by w t u m gave filed (GiveTurn by turn) is R = absurd R

retired_own : (w t : ℕ) (u : Table) (m : ℕ) (gave : Option ℕ) (ss : List OwnStep)
    → AreFlushSteps w t ss → Retires u m gave ss → u.0 ≡ t
retired_own w t u m gave [] A R = absurd R
retired_own w t u m gave (s ∷ ss) A R =
    ⊎_elim (λ now. retired_by w t u m gave s.filed s.event A.0 now)
    (λ older. retired_own w t u m gave ss A.1 older) R

pub retires_own : {n : ℕ} (w t : ℕ) (u : Table) (m : ℕ) (gave : Option ℕ) (v after : View)
    (S : FlushSteps w t n v after) → Retires u m gave S.steps → u.0 ≡ t
retires_own w t u m gave v after S R = retired_own w t u m gave S.steps S.are R
