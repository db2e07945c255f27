-- A flush switches the memtable that it found alone.
use Rattle.std.proofs.Common.{ℕ, List, [], ◌∷◌, ◌++◌, sym, subst}
use Rattle.path_core.specs.declared.event.Cursor.TheVariants.{OldestLive}
use Rattle.path_core.specs.declared.event.Event.{Event}
use Rattle.path_core.specs.declared.event.Event.TheVariants.{Finalise}
use Rattle.path_core.specs.declared.event.Place.TheVariants.{CursorWord, Newest}
use Rattle.path_rule.specs.declared.view.OwnStep.{OwnStep}
use Rattle.path_rule.proofs.seats.Answering.{found_after, found_before}
use Rattle.path_flush.specs.FlushSteps.{
  FinalisesAlone,
  FinalisesOnly,
  FindsAlone,
  MakesFinalOnly,
  SwitchesAlone,
  SwitchesNo,
  SwitchesNone,
}

-- ---- the memtable that is made final

no_other : (t m : ℕ) (e : Event) → SwitchesNo e → MakesFinalOnly t m e
no_other t m (Finalise by table k) none = absurd none
no_other t m e none = tt

-- steps that switch none
pub only_none : (t m : ℕ) (ss : List OwnStep) → SwitchesNone ss → FinalisesOnly t m ss
only_none t m [] N = tt
only_none t m (s ∷ ss) N = (no_other t m s.event N.0, only_none t m ss N.1)

pub only_both : (t m : ℕ) (ts us : List OwnStep) → FinalisesOnly t m ts → FinalisesOnly t m us
    → FinalisesOnly t m (ts ++ us)
only_both t m [] us A B = B
only_both t m (s ∷ ss) us A B = (A.0, only_both t m ss us A.1 B)

-- ---- it was found alone before

none_alone : (t : ℕ) (e : Event) (older : List OwnStep) → SwitchesNo e → FinalisesAlone t e older
none_alone t (Finalise by table k) older none = absurd none
none_alone t e older none = tt

-- steps that switch none
pub alone_none : (t : ℕ) (ss : List OwnStep) → SwitchesNone ss → SwitchesAlone t ss
alone_none t [] N = tt
alone_none t (s ∷ ss) N = (none_alone t s.event ss N.0, alone_none t ss N.1)

still_alone : (t : ℕ) (e : Event) (newer older : List OwnStep) → FinalisesAlone t e newer
    → FinalisesAlone t e (newer ++ older)
still_alone t (Finalise by table m) newer older F = λ of. let A = F of in (
  found_after (Newest (record { 0 = t })) m newer older A.0,
  found_after (CursorWord (OldestLive (record { 0 = t }))) m newer older A.1,
)
still_alone t e newer older F = tt

-- behind further steps
pub alone_behind : (t : ℕ) (newer older : List OwnStep) → SwitchesAlone t newer
    → SwitchesAlone t older → SwitchesAlone t (newer ++ older)
alone_behind t [] older A B = B
alone_behind t (s ∷ ss) older A B =
    (still_alone t s.event ss older A.0, alone_behind t ss older A.1 B)

made_alone : (t m : ℕ) (e : Event) (newer older : List OwnStep) → MakesFinalOnly t m e
    → FindsAlone t m older → FinalisesAlone t e (newer ++ older)
made_alone t m (Finalise by table k) newer older O F = λ of.
    subst (λ (n : ℕ). FindsAlone t n (newer ++ older)) (sym (O of)) (
      found_before (Newest (record { 0 = t })) m newer older F.0,
      found_before (CursorWord (OldestLive (record { 0 = t }))) m newer older F.1,
    )
made_alone t m e newer older O F = tt

-- behind steps that found it so
pub alone_since : (t m : ℕ) (newer older : List OwnStep) → FinalisesOnly t m newer
    → FindsAlone t m older → SwitchesAlone t older → SwitchesAlone t (newer ++ older)
alone_since t m [] older O F A = A
alone_since t m (s ∷ ss) older O F A =
    (made_alone t m s.event ss older O.0 F, alone_since t m ss older O.1 F A)
