-- What is so behind the answers of a sync.
use Rattle.std.proofs.Common.{◌+◌, ◌≡◌, ℕ, ◌<◌, ◌≤◌, List, [], ◌∷◌, ◌++◌, Option, Some, None}
use Rattle.std.proofs.Common.{is_some, false, Result, Ok, Err, refl, sym, ap, ◌∙◌, subst, ⊎_elim}
use Rattle.std.proofs.Common.{arith}
use Rattle.std.proofs.lemmas.Bool.{false≢true}
use Rattle.std.proofs.lemmas.List.{append-nil}
use mathlib.Core.Logic.{inl, inr}
use Rattle.path_core.specs.declared.event.Carried.TheVariants.{Nothing, Deposit, Applied}
use Rattle.path_core.specs.declared.event.Cursor.TheVariants.{Synced, Stopped as StoppedCursor}
use Rattle.path_core.specs.declared.event.Event.{Event}
use Rattle.path_core.specs.declared.event.Event.TheVariants.{Look, Register, Close, OpenGroup}
use Rattle.path_core.specs.declared.event.Event.TheVariants.{MoveCurrent, Expire, Advance, Claim}
use Rattle.path_core.specs.declared.event.Event.TheVariants.{Switch, Raise, Finalise, TakeTurn}
use Rattle.path_core.specs.declared.event.Event.TheVariants.{GiveTurn, Put}
use Rattle.path_core.specs.declared.event.Place.{Place}
use Rattle.path_core.specs.declared.event.Place.TheVariants.{CursorWord}
use Rattle.path_core.specs.declared.keeper.KeeperFault.{KeeperFault}
use Rattle.path_core.specs.declared.keeper.KeeperFault.TheVariants.{Stopped as KeeperStopped}
use Rattle.path_core.specs.declared.keeper.KeeperFault.TheVariants.{
  OutOfMemory as KeeperOutOfMemory,
}
use Rattle.path_core.specs.declared.seat.Found.{Found}
use Rattle.path_core.specs.Keeper.{HasRisen}
use Rattle.path_rule.specs.declared.answer.SyncAnswer.{SyncAnswer}
use Rattle.path_rule.specs.declared.answer.SyncAnswer.TheVariants.{Done, Stopped, OutOfMemory}
use Rattle.path_rule.specs.declared.view.OwnStep.{OwnStep}
use Rattle.path_rule.specs.declared.view.View.{View}
use Rattle.path_rule.specs.Calls.{Did}
use Rattle.path_rule.specs.Finds.{Finds}
use Rattle.path_rule.specs.Rounds.{RoundSteps, EndsBelow, WroteBelow, IsAtRest}
use Rattle.path_rule.specs.SyncAnswers.{FoundNow, IsAnswer, Answers, MayAnswer, IsHaltedBy, said_by}
use Rattle.path_rule.specs.SyncEnd.{HasSynced, EndsSync, TellsFaults}
use Rattle.path_rule.proofs.seats.RoundsGo.{at_most, one, one_as, both, renamed, still_wrote}

-- ---- what ends below a key ends below a later one

ends_more : (k l : ℕ) → k ≤ l → (e : Event) → EndsBelow k e → EndsBelow l e
ends_more k l up (Close by o g (Deposit note)) B = omega arith
ends_more k l up (Close by o g Nothing) B = tt
ends_more k l up (Close by o g (Applied places)) B = tt
ends_more k l up (Look by at) B = tt
ends_more k l up (Register by o g) B = tt
ends_more k l up (OpenGroup by o g) B = tt
ends_more k l up (MoveCurrent by o g) B = tt
ends_more k l up (Expire by o g) B = tt
ends_more k l up (Advance by o g) B = tt
ends_more k l up (Claim by from to what) B = tt
ends_more k l up (Switch by t m part) B = tt
ends_more k l up (Raise by t m to) B = tt
ends_more k l up (Finalise by t m) B = tt
ends_more k l up (TakeTurn by turn) B = tt
ends_more k l up (GiveTurn by turn) B = tt
ends_more k l up (Put by cursor value) B = tt

pub wrote_more : (k l : ℕ) → k ≤ l → (ts : List OwnStep) → WroteBelow k ts → WroteBelow l ts
wrote_more k l up [] B = tt
wrote_more k l up (t ∷ ts) B = (ends_more k l up t.event B.0, wrote_more k l up ts B.1)

-- ---- what was found stays found with further steps

pub found_before : (at : Place) (n : ℕ) (newer older : List OwnStep) → Finds at n older
    → Finds at n (newer ++ older)
found_before at n [] older F = F
found_before at n (t ∷ ts) older F = inr (found_before at n ts older F)

pub found_after : (at : Place) (n : ℕ) (newer older : List OwnStep) → Finds at n newer
    → Finds at n (newer ++ older)
found_after at n [] older F = absurd F
found_after at n (t ∷ ts) older F =
    ⊎_elim (λ now. inl now) (λ later. inr (found_after at n ts older later)) F

pub now_by : (a : SyncAnswer) (ts us : List OwnStep)
    → ((at : Place) (n : ℕ) → Finds at n ts → Finds at n us) → FoundNow a ts → FoundNow a us
now_by (Done s) ts us more F = more (CursorWord Synced) s F
now_by (Stopped at_open now) ts us more F = more (CursorWord StoppedCursor) now F
now_by OutOfMemory ts us more F = tt

-- ---- steps before an answer, and behind it

abbrev pub answers_after : {m k : ℕ} (w opened : ℕ) (a : SyncAnswer) (v u after : View)
    → RoundSteps w m [] v u → Answers w k opened u a after → Answers w (k + m) opened v a after
answers_after w opened a v u after S A = record {
  puts = A.puts;
  steps = renamed w (A.puts ++ []) A.puts v after (append-nil A.puts)
      (both w [] A.puts v u after S A.steps);
  is = A.is;
  now = now_by a A.steps.steps (A.steps.steps ++ S.steps)
      (λ at n F. found_after at n A.steps.steps S.steps F) A.now;
}

is_still : (w opened : ℕ) (a : SyncAnswer) (ps : List Event) (u after : View)
    → RoundSteps w 0 [] u after → after.part.found ≡ u.part.found → IsAnswer w opened a ps u
    → IsAnswer w opened a ps after
is_still w opened (Done s) ps u after S same I = (
  ap (λ (f : Found). f.synced) same ∙ I.0,
  still_wrote w s [] u after S I.1,
  I.2,
)
is_still w opened (Stopped at_open now) ps u after S same I =
    (I.0, I.1, ap (λ (f : Found). f.stopped) same ∙ I.2, I.3)
is_still w opened OutOfMemory ps u after S same I = I

pub answers_still : {n : ℕ} (w opened : ℕ) (a : SyncAnswer) (v u after : View)
    → Answers w n opened v a u
    → RoundSteps w 0 [] u after → after.part.found ≡ u.part.found → Answers w n opened v a after
answers_still w opened a v u after A S same = record {
  puts = A.puts;
  steps = at_most w A.puts v after (omega arith) (both w A.puts [] v u after A.steps S);
  is = is_still w opened a A.puts u after S same A.is;
  now = now_by a A.steps.steps (S.steps ++ A.steps.steps)
      (λ at n F. found_before at n S.steps A.steps.steps F) A.now;
}

-- ---- answers of a keeper

done_answers : (w opened upto s : ℕ) (v after : View) → WroteBelow upto v.trail
    → EndsSync w upto v (Ok s) after → Answers w 0 opened v (Done s) after
done_answers w opened upto s v after B E =
    let first = one w (Look w (CursorWord Synced)) E.found v E.seen refl E.looked in
    ⊎_elim (λ (old : (upto ≤ E.found) × (s ≡ E.found) × (after ≡ E.seen)).
    let steps = one w (Look w (CursorWord Synced)) E.found v after refl
    (record { view = old.2 ∙ E.looked.view; was = E.looked.was }) in record {
      puts = [];
      steps = steps;
      is = (
        ap (λ (u : View). u.part.found.synced) old.2
            ∙ (ap (λ (u : View). u.part.found.synced) E.looked.view
            ∙ ap (λ (k : ℕ). Some k) (sym old.1)),
        wrote_more upto s (let up = old.0 in let is = old.1 in omega arith) after.trail
            (still_wrote w upto [] v after steps B),
        inl refl,
      );
      now = inl (refl, sym old.1);
    })
    (λ (new : (E.found < upto) × (s ≡ upto) × HasSynced w upto E.seen after).
    let steps = both w [] (Put w Synced upto ∷ []) v E.seen after first
    (one_as w (Put w Synced upto) upto _ E.seen after refl new.2.did refl) in record {
      puts = Put w Synced upto ∷ [];
      steps = steps;
      is = (
        ap (λ (u : View). u.part.found.synced) new.2.did.view
            ∙ ap (λ (k : ℕ). Some k) (sym new.1),
        wrote_more upto s (let is = new.1 in omega arith) after.trail
            (still_wrote w upto (Put w Synced upto ∷ []) v after steps B),
        inr (ap (λ (k : ℕ). Put w Synced k ∷ []) (sym new.1)),
      );
      now = inl (refl, sym new.1);
    }) E.ended

stopped_answers : (w opened upto at_open now : ℕ) (v after : View) → at_open ≡ opened
    → HasRisen at_open now → EndsSync w upto v (Err (KeeperStopped at_open now)) after
    → Answers w 0 opened v (Stopped at_open now) after
stopped_answers w opened upto at_open now v after at risen E = record {
  puts = Put w StoppedCursor now ∷ [];
  steps = both w [] (Put w StoppedCursor now ∷ []) v E.seen after
      (one w (Look w (CursorWord Synced)) E.found v E.seen refl E.looked)
      (one_as w (Put w StoppedCursor now) now _ E.seen after refl E.ended.1.did refl);
  is = (at, risen, ap (λ (u : View). u.part.found.stopped) E.ended.1.did.view, inr refl);
  now = inl (refl, refl);
}

refused_answers : (w opened upto : ℕ) (v after : View)
    → EndsSync w upto v (Err KeeperOutOfMemory) after → Answers w 0 opened v OutOfMemory after
refused_answers w opened upto v after E = record {
  puts = [];
  steps = both w [] [] v E.seen after
      (one w (Look w (CursorWord Synced)) E.found v E.seen refl E.looked)
      (one_as w (Look w (CursorWord StoppedCursor)) E.ended.1.0 _ E.seen after refl
      E.ended.1.1.did refl);
  is = refl;
  now = tt;
}

pub ends_answers : (w opened upto : ℕ) (v after : View) (r : Result ℕ KeeperFault)
    → TellsFaults opened r → WroteBelow upto v.trail → EndsSync w upto v r after
    → Answers w 0 opened v (said_by r) after
ends_answers w opened upto v after (Ok s) T B E = done_answers w opened upto s v after B E
ends_answers w opened upto v after (Err (KeeperStopped at_open now)) T B E =
    stopped_answers w opened upto at_open now v after T.0 T.1 E
ends_answers w opened upto v after (Err KeeperOutOfMemory) T B E =
    refused_answers w opened upto v after E

-- the log was found stopped
pub halted_answers : (w opened now : ℕ) (v after : View) → HasRisen opened now
    → Did v w (Look w (CursorWord StoppedCursor)) now after
    → Answers w 0 opened v (Stopped opened now) after
halted_answers w opened now v after risen D = record {
  puts = [];
  steps = one w (Look w (CursorWord StoppedCursor)) now v after refl D;
  is = (refl, risen, ap (λ (u : View). u.part.found.stopped) D.view, inl refl);
  now = inl (refl, refl);
}

-- the synced key was found, at or above one below which all that the seat wrote ends
pub found_answers : (w opened upto s : ℕ) (v after : View) → upto ≤ s → WroteBelow upto v.trail
    → Did v w (Look w (CursorWord Synced)) s after → Answers w 0 opened v (Done s) after
found_answers w opened upto s v after up B D =
    let steps = one w (Look w (CursorWord Synced)) s v after refl D in record {
      puts = [];
      steps = steps;
      is = (
        ap (λ (u : View). u.part.found.synced) D.view,
        wrote_more upto s up after.trail (still_wrote w upto [] v after steps B),
        inl refl,
      );
      now = inl (refl, refl);
    }

-- the count with which the log is stopped was found
pub halted_may : (w opened now : ℕ) (a : Option SyncAnswer) (v after : View)
    → Did v w (Look w (CursorWord StoppedCursor)) now after → IsHaltedBy opened now a
    → MayAnswer w 0 opened v a after
halted_may w opened now None v after D is =
    one w (Look w (CursorWord StoppedCursor)) now v after refl D
halted_may w opened now (Some a) v after D is =
    subst (λ (x : SyncAnswer). Answers w 0 opened v x after) (sym is.0)
    (halted_answers w opened now v after is.1 D)

-- where that is no answer the log runs
pub runs_on : (opened now : ℕ) (a : Option SyncAnswer) → IsHaltedBy opened now a
    → is_some a ≡ false → now ≡ 0
runs_on opened now None is none = is
runs_on opened now (Some a) is none = absurd (false≢true (sym none))

pub may_after : (n w opened : ℕ) (a : Option SyncAnswer) (v u after : View) → RoundSteps w 0 [] v u
    → MayAnswer w n opened u a after → MayAnswer w n opened v a after
may_after n w opened (Some a) v u after S A = let B = answers_after w opened a v u after S A
    in record {
      puts = B.puts;
      steps = at_most w B.puts v after (omega arith) B.steps;
      is = B.is;
      now = B.now;
    }
may_after n w opened None v u after S A = both w [] [] v u after S A

pub may_still : (n w opened : ℕ) (a : Option SyncAnswer) (v u after : View)
    → MayAnswer w n opened v a u → RoundSteps w 0 [] u after → after.part.found ≡ u.part.found
    → MayAnswer w n opened v a after
may_still n w opened (Some a) v u after A S same = answers_still w opened a v u after A S same
may_still n w opened None v u after A S same = both w [] [] v u after A S

-- a seat at rest is so behind an answer
pub may_rest : (n w opened : ℕ) (a : Option SyncAnswer) (v after : View)
    → MayAnswer w n opened v a after → IsAtRest v.part → IsAtRest after.part
may_rest n w opened (Some a) v after A R = A.steps.rests R
may_rest n w opened None v after A R = A.rests R

-- and what it tells stays of one size
pub may_size : (n w opened : ℕ) (a : Option SyncAnswer) (v after : View)
    → MayAnswer w n opened v a after → after.size ≡ v.size
may_size n w opened (Some a) v after A = A.steps.size
may_size n w opened None v after A = A.size

-- an answer with which more barriers may have been issued
pub may_more : (n k w opened : ℕ) (a : Option SyncAnswer) (v after : View) → n ≤ k
    → MayAnswer w n opened v a after → MayAnswer w k opened v a after
may_more n k w opened (Some a) v after up A = record {
  puts = A.puts;
  steps = at_most w A.puts v after up A.steps;
  is = A.is;
  now = A.now;
}
may_more n k w opened None v after up A = A
