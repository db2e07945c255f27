-- What a flush knows behind a round of a sync, and behind looks at the log's cursors.
use Rattle.std.proofs.Common.{◌≡◌, ◌≤◌, ℕ, List, [], Option, Some, None, sym, ap, ◌∙◌, subst, arith}
use Rattle.std.proofs.lemmas.Option.{none-some, same_Some}
use Rattle.path_core.specs.declared.event.Cursor.TheVariants.{Synced}
use Rattle.path_core.specs.declared.event.Event.{Event}
use Rattle.path_core.specs.declared.event.Place.TheVariants.{CursorWord, Log}
use Rattle.path_core.specs.Keys.{after as after_key}
use Rattle.path_core.specs.Parts.{seat_table}
use Rattle.path_rule.specs.declared.answer.SyncAnswer.{SyncAnswer}
use Rattle.path_rule.specs.declared.answer.SyncAnswer.TheVariants.{Done, Stopped as SyncStopped}
use Rattle.path_rule.specs.declared.answer.SyncAnswer.TheVariants.{OutOfMemory as SyncOutOfMemory}
use Rattle.path_rule.specs.declared.view.FlushRead.{FlushRead}
use Rattle.path_rule.specs.declared.view.Hands.{Hands}
use Rattle.path_rule.specs.declared.view.OwnStep.{OwnStep}
use Rattle.path_rule.specs.declared.view.PathSize.{PathSize}
use Rattle.path_rule.specs.declared.view.View.{View}
use Rattle.path_rule.specs.FilingTold.{SeesAll}
use Rattle.path_rule.specs.Finds.{Finds}
use Rattle.path_rule.specs.Flushes.{TakesNone}
use Rattle.path_rule.specs.Reached.{ReachesFound}
use Rattle.path_rule.specs.Rounds.{IsQuiet, RoundSteps}
use Rattle.path_rule.specs.SyncAnswers.{MayAnswer}
use Rattle.path_rule.proofs.seats.Answering.{found_after, found_before}
use Rattle.path_flush.specs.declared.flush_answer.Flush.{Flush}
use Rattle.path_flush.specs.declared.flush_answer.Flush.TheVariants.{Flushed, Empty, Busy, Stopped}
use Rattle.path_flush.specs.declared.flush_answer.Flush.TheVariants.{OutOfMemory}
use Rattle.path_flush.specs.declared.flush_rounds.Round.{Round}
use Rattle.path_flush.specs.declared.flush_rounds.Round.TheVariants.{Lasts, Fails, Waits}
use Rattle.path_flush.specs.FlushFilings.{FilingSteps, IsFault, LastsTo, MakesLasting, MakesRound}
use Rattle.path_flush.specs.FlushFilings.{MayStop, Refused, round_of, unless_memory}
use Rattle.path_flush.specs.FlushGathers.{ReadsIt}
use Rattle.path_flush.proofs.FilingGoes.{of_quiet, refused_before, refused_behind, then_filing}
use Rattle.path_flush.proofs.SwitchGoes.{quiet_round}

-- ---- a round of a sync

-- the steps of a round, whatever it answered
pub round_made : (n w opened : ℕ) (v after : View) (a : Option SyncAnswer)
    → MayAnswer w n opened v a after
    → (m : ℕ) × (m ≤ n) × ((puts : List Event) × RoundSteps w m puts v after)
round_made n w opened v after (Some a) A = (n, omega arith, (A.puts, A.steps))
round_made n w opened v after None A = (0, omega arith, ([], A))

abbrev of_round : {n : ℕ} (w t : ℕ) (puts : List Event) (v after : View)
    → IsQuiet (seat_table v.part t) → RoundSteps w n puts v after → FilingSteps w t n v after
of_round w t puts v after quiet R =
    of_quiet w t v after (quiet_round w puts v after R) (R.tables t quiet)

-- what it is to a flush, which had found these log keys
pub makes_round : (w t opened : ℕ) (v after : View) (a : Option SyncAnswer)
    → opened ≡ v.size.at_open → IsQuiet (seat_table v.part t) → MayAnswer w 1 opened v a after
    → ReachesFound v.size.capacity v.trail a → MakesRound w t v (round_of a) after
makes_round w t opened v after (Some (Done s)) is quiet A R = (
  of_round w t A.puts v after quiet A.steps,
  λ key F. record {
    synced = s;
    found = subst (λ (l : List OwnStep). Finds (CursorWord Synced) s l) (sym A.steps.trail)
        (found_after (CursorWord Synced) s A.steps.steps v.trail A.now);
    reaches = R key F;
  },
)
makes_round w t opened v after (Some (SyncStopped at_open now)) is quiet A R = record {
  steps = of_round w t A.puts v after quiet A.steps;
  is = (A.is.0 ∙ is, A.is.1, A.now);
}
makes_round w t opened v after (Some SyncOutOfMemory) is quiet A R = record {
  steps = of_round w t A.puts v after quiet A.steps;
  is = tt;
}
makes_round w t opened v after None is quiet A R = of_round w t [] v after quiet A

-- ---- the log lasts, behind further steps and before some

pub lasts_on : {n : ℕ} (capacity key w t : ℕ) (v after : View) → FilingSteps w t n v after
    → LastsTo capacity key v.trail → LastsTo capacity key after.trail
lasts_on capacity key w t v after S L = record {
  synced = L.synced;
  found = subst (λ (l : List OwnStep). Finds (CursorWord Synced) L.synced l)
      (sym S.made.made.trail)
      (found_before (CursorWord Synced) L.synced S.made.made.steps v.trail L.found);
  reaches = L.reaches;
}

-- up to a key below
pub lasts_below : (capacity low high : ℕ) (steps : List OwnStep) → low ≤ high
    → LastsTo capacity high steps → LastsTo capacity low steps
lasts_below capacity low high steps le L = record {
  synced = L.synced;
  found = L.found;
  reaches = (let up = L.reaches in omega (arith, le, up));
}

pub round_behind : (w z t : ℕ) (v u after : View) (r : Round) → z ≡ w → FilingSteps w t 0 v u
    → MakesRound z t u r after → MakesRound w t v r after
round_behind w z t v u after Lasts same S R = (
  then_filing w z t v u after same S R.0,
  λ key F. let L = R.1 key (subst (λ (l : List OwnStep). Finds Log key l) (sym S.made.made.trail)
      (found_before Log key S.made.made.steps v.trail F)) in record {
        synced = L.synced;
        found = L.found;
        reaches = subst (λ (k : PathSize). key ≤ after_key k.capacity L.synced) S.made.made.size
            L.reaches;
      },
)
round_behind w z t v u after (Fails a) same S R = refused_behind w z t v u after a same S R
round_behind w z t v u after Waits same S R = then_filing w z t v u after same S R

pub round_before : (w z t : ℕ) (v u after : View) (r : Round) → z ≡ w → MakesRound w t v r u
    → FilingSteps z t 0 u after → MakesRound w t v r after
round_before w z t v u after Lasts same R S = (
  then_filing w z t v u after same R.0 S,
  λ key F. lasts_on v.size.capacity key z t u after S (R.1 key F),
)
round_before w z t v u after (Fails a) same R S = refused_before w z t v u after a same R S
round_before w z t v u after Waits same R S = then_filing w z t v u after same R S

pub lasting_behind : (w z t key : ℕ) (v u after : View) (a : Option Flush) → z ≡ w
    → FilingSteps w t 0 v u → MakesLasting z t key u a after → MakesLasting w t key v a after
lasting_behind w z t key v u after (Some a) same S R = refused_behind w z t v u after a same S R
lasting_behind w z t key v u after None same S R = (
  then_filing w z t v u after same S R.0,
  subst (λ (k : PathSize). LastsTo k.capacity key after.trail) S.made.made.size R.1,
)

-- ---- what was read

pub takes_none : (seats t m : ℕ) (h : Hands) (q : FlushRead) → SeesAll seats h t m q → TakesNone h
takes_none seats t m h q S r has =
    ap (λ (k : FlushRead). k.taken) (sym (same_Some q r (sym S.0 ∙ has))) ∙ S.3

pub it_takes_none : (t m : ℕ) (h : Hands) (q : FlushRead) → ReadsIt t m h q → TakesNone h
it_takes_none t m h q S r has =
    ap (λ (k : FlushRead). k.taken) (sym (same_Some q r (sym S.0 ∙ has))) ∙ S.3

pub reads_none : (h : Hands) → h.reading ≡ None → TakesNone h
reads_none h none q has = absurd (none-some q (sym none ∙ has))

-- ---- a drop of segments

-- one that the keeper wants memory for is not answered
pub dropped_is : (w t : ℕ) (v after : View) (a : Flush) → Refused w t 0 v a after → IsFault a
    → MayStop w t v (unless_memory a) after
dropped_is w t v after (Flushed lower upper) R fault = absurd fault
dropped_is w t v after (Empty key) R fault = absurd fault
dropped_is w t v after (Busy found) R fault = absurd fault
dropped_is w t v after (Stopped at_open now) R fault = R
dropped_is w t v after OutOfMemory R fault = R.steps
