-- Steps of barriers and syncs leave a seat's list. A try to sync, put together.
use Rattle.std.proofs.Common.{◌≡◌, ℕ, List, [], ◌∷◌, ◌++◌, Option, Some, None, refl, ap, ◌∙◌}
use Rattle.std.proofs.Common.{subst}
use Rattle.std.proofs.lemmas.Option.{none-some, same_Some}
use Rattle.path_core.specs.declared.event.Event.{Event}
use Rattle.path_core.specs.declared.event.Event.TheVariants.{Look, Register, Close, OpenGroup}
use Rattle.path_core.specs.declared.event.Event.TheVariants.{MoveCurrent, Expire, Advance, Claim}
use Rattle.path_core.specs.declared.event.Event.TheVariants.{Switch, Raise, Finalise, TakeTurn}
use Rattle.path_core.specs.declared.event.Event.TheVariants.{GiveTurn, Put}
use Rattle.path_core.specs.declared.event.Turn.TheVariants.{Sync}
use Rattle.path_core.specs.declared.note.EntryNote.{EntryNote}
use Rattle.path_rule.specs.declared.answer.SyncAnswer.{SyncAnswer}
use Rattle.path_rule.specs.declared.answer.SyncAnswer.TheVariants.{Done, Stopped, OutOfMemory}
use Rattle.path_rule.specs.declared.view.Hands.{Hands}
use Rattle.path_rule.specs.declared.view.OwnStep.{OwnStep}
use Rattle.path_rule.specs.declared.view.View.{View}
use Rattle.path_rule.specs.Calls.{DidAs}
use Rattle.path_rule.specs.Rounds.{IsRoundStep, AreRoundSteps, RoundSteps}
use Rattle.path_rule.specs.SyncAnswers.{IsAnswer, Answers, MayAnswer}
use Rattle.path_rule.proofs.seats.Answering.{answers_after, may_after, may_still}
use Rattle.path_rule.proofs.seats.RoundsGo.{one_as}
use Rattle.path_flush.proofs.ListBelow.{list_below}
use Rattle.path_flush.specs.OwnWrites.{with_write, writes_of}
use Rattle.write_path.specs.Syncs.{CoversList, Syncs}

-- such a step deposits nothing
adds_none : (w : ℕ) (e : Event) (l : List EntryNote) → IsRoundStep w e → with_write e l ≡ l
adds_none w (Look by at) l is = refl
adds_none w (OpenGroup by o g) l is = refl
adds_none w (MoveCurrent by o g) l is = refl
adds_none w (Expire by o g) l is = refl
adds_none w (Advance by o g) l is = refl
adds_none w (Claim by from to what) l is = refl
adds_none w (TakeTurn by turn) l is = refl
adds_none w (GiveTurn by turn) l is = refl
adds_none w (Put by cursor value) l is = refl
adds_none w (Register by o g) l is = absurd is
adds_none w (Close by o g carried) l is = absurd is
adds_none w (Switch by t m part) l is = absurd is
adds_none w (Raise by t m to) l is = absurd is
adds_none w (Finalise by t m) l is = absurd is

list_stays : (w : ℕ) (ts us : List OwnStep) → AreRoundSteps w ts
    → writes_of (ts ++ us) ≡ writes_of us
list_stays w [] us A = refl
list_stays w (t ∷ ts) us A =
    adds_none w t.event (writes_of (ts ++ us)) A.0 ∙ list_stays w ts us A.1

covers : (w opened : ℕ) (a : SyncAnswer) (ps : List Event) (v : View) → IsAnswer w opened a ps v
    → CoversList a v
covers w opened (Done s) ps v I = list_below s v.trail I.1
covers w opened (Stopped at_open now) ps v I = tt
covers w opened OutOfMemory ps v I = tt

-- So an answer behind steps that gave none is that of a sync.
syncs : (w opened : ℕ) (v : View) (a : SyncAnswer) (after : View) → Answers w 1 opened v a after
    → Syncs w opened v a after
syncs w opened v a after A = record {
  answers = A;
  list = ap writes_of A.steps.trail ∙ list_stays w A.steps.steps v.trail A.steps.are;
  covers = covers w opened a A.puts after A.is;
}

-- an answer that there was
pub answered : (w opened : ℕ) (v u after : View) (r : Option SyncAnswer) (a : SyncAnswer)
    → r ≡ Some a → RoundSteps w 0 [] v u → MayAnswer w 1 opened u r after → Syncs w opened v a after
answered w opened v u after None a is S A = absurd (none-some a is)
answered w opened v u after (Some b) a is S A =
    subst (λ (x : SyncAnswer). Syncs w opened v x after) (same_Some b a is)
    (syncs w opened v b after (answers_after w opened b v u after S A))

-- A seat took the Sync turn, made a round of a sync, and gave the turn back.
pub tried : (w z y opened : ℕ) (h k : Hands) (a : Option SyncAnswer) (v u x after : View)
    → DidAs v w (TakeTurn w Sync) 1 h u → h.reading ≡ v.hands.reading → z ≡ w
    → MayAnswer z 1 opened u a x → y ≡ w
    → DidAs x y (GiveTurn y Sync) 0 k after → k.reading ≡ x.hands.reading
    → MayAnswer w 1 opened v a after
tried w z y opened h k a v u x after took reads same A again gave kept =
    may_still 1 w opened a v x after
    (may_after 1 w opened a v u x (one_as w (TakeTurn w Sync) 1 h v u refl took reads)
    (subst (λ i. MayAnswer i 1 opened u a x) same A))
    (subst (λ i. RoundSteps i 0 [] x after) again
    (one_as y (GiveTurn y Sync) 0 k x after refl gave kept))
    (ap (λ (q : View). q.part.found) gave.view)
