-- Which memtables wait still behind the steps of a flush: those that its steps made final, and that
-- none of the later ones retired.
use Rattle.std.proofs.Common.{ℕ, List, [], ◌∷◌, ◌++◌, inl, inr, ⊎_elim, subst}
use Rattle.path_core.specs.declared.event.Event.{Event}
use Rattle.path_core.specs.declared.event.Event.TheVariants.{
  Look,
  Register,
  Close,
  OpenGroup,
  MoveCurrent,
  Expire,
  Advance,
  Claim,
  Switch as SwitchStep,
  Raise,
  Finalise,
  TakeTurn,
  GiveTurn,
  Put,
}
use Rattle.path_rule.specs.declared.view.OwnStep.{OwnStep}
use Rattle.path_flush.specs.FlushSteps.{
  Finalises,
  FinalisesBy,
  RetiresNo,
  RetiresNone,
  SwitchesNo,
  SwitchesNone,
  WaitsStill,
}

-- steps of which none is one of a switch make no memtable final
none_final : (w t m key : ℕ) (e : Event) (n : ℕ) → SwitchesNo e → FinalisesBy w t m key e n → ⊥
none_final w t m key (Look by at) n out F = F
none_final w t m key (Register by o g) n out F = F
none_final w t m key (Close by o g carried) n out F = F
none_final w t m key (OpenGroup by o g) n out F = F
none_final w t m key (MoveCurrent by o g) n out F = F
none_final w t m key (Expire by o g) n out F = F
none_final w t m key (Advance by o g) n out F = F
none_final w t m key (Claim by from to what) n out F = F
none_final w t m key (TakeTurn by turn) n out F = F
none_final w t m key (GiveTurn by turn) n out F = F
none_final w t m key (Put by cursor value) n out F = F
none_final w t m key (Raise by u k to) n out F = F
none_final w t m key (SwitchStep by u k part) n out F = F
none_final w t m key (Finalise by u k) n out F = absurd out

pub final_apart : (w t m key : ℕ) (newer older : List OwnStep) → SwitchesNone older
    → Finalises w t m key (newer ++ older) → Finalises w t m key newer
final_apart w t m key [] [] N F = absurd F
final_apart w t m key [] (s ∷ ss) N F =
    ⊎_elim (λ now. absurd (none_final w t m key s.event s.found N.0 now))
    (λ older. final_apart w t m key [] ss N.1 older) F
final_apart w t m key (s ∷ ss) older N F =
    ⊎_elim (λ now. inl now) (λ rest. inr (final_apart w t m key ss older N rest)) F

-- so none of them waits
pub waits_none : (w t : ℕ) (ss : List OwnStep) → SwitchesNone ss → WaitsStill w t ss
waits_none w t [] N = tt
waits_none w t (s ∷ ss) N =
    (λ m key put F. final_apart w t m key [] ss N.1 F, waits_none w t ss N.1)

-- steps that retire none leave each waiting
pub waits_all : (w t : ℕ) (ss : List OwnStep) → RetiresNone ss → WaitsStill w t ss
waits_all w t [] K = tt
waits_all w t (s ∷ ss) K =
    (λ m key put F. subst (λ (e : Event). RetiresNo e) put K.0, waits_all w t ss K.1)

-- behind steps that switch nothing
pub waits_behind : (w t : ℕ) (newer older : List OwnStep) → SwitchesNone older
    → WaitsStill w t newer → WaitsStill w t (newer ++ older)
waits_behind w t [] older N W = waits_none w t older N
waits_behind w t (s ∷ ss) older N W = (
  λ m key put F. W.0 m key put (final_apart w t m key ss older N F),
  waits_behind w t ss older N W.1,
)
