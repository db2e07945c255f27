-- What the end of a sync tells: what its seat did and knows since, and the counts of faults of a
-- keeper that has stopped.
use Rattle.std.specs.Prelude.{
  ◌≡◌,
  ◌⊎◌,
  ℕ,
  ◌<◌,
  ◌≤◌,
  List,
  Option,
  Some,
  Result,
  Ok,
  Err,
  ⊤,
}
use Rattle.std.specs.List.Sorted.{IsPermutation}
use Rattle.path_core.specs.declared.event.Cursor.TheVariants.{Synced, Stopped as StoppedCursor}
use Rattle.path_core.specs.declared.event.Event.{Event}
use Rattle.path_core.specs.declared.event.Event.TheVariants.{Look, Put}
use Rattle.path_core.specs.declared.event.Place.TheVariants.{CursorWord}
use Rattle.path_core.specs.declared.keeper.KeeperFault.{KeeperFault}
use Rattle.path_core.specs.declared.keeper.KeeperFault.TheVariants.{Stopped, OutOfMemory}
use Rattle.path_core.specs.declared.note.EntryNote.{EntryNote}
use Rattle.path_core.specs.Keeper.{HasRisen, IsParted}
use Rattle.path_rule.specs.declared.view.View.{View}
use Rattle.path_rule.specs.Calls.{Did, DidAs}
use Rattle.path_rule.specs.HandsAfter.{with_desk}
use Rattle.path_rule.specs.Lasts.{more_lasting, refused_lasting}
use Rattle.path_rule.specs.TurnTold.{IsKeptNow}

-- the count with which a keeper has stopped, behind an answer
abbrev pub stopped_by : {T : Type 0} → Option ℕ → Result T KeeperFault → Option ℕ
stopped_by before (Ok answer) = before
stopped_by before (Err (Stopped at_open now)) = Some now
stopped_by before (Err OutOfMemory) = before

-- A keeper that has stopped tells the count of faults at its opening, which is this one, and the
-- count now, which has risen.
abbrev pub TellsFaults : {T : Type 0} → ℕ → Result T KeeperFault → Type 0
TellsFaults opened (Ok answer) = ⊤
TellsFaults opened (Err (Stopped at_open now)) = (at_open ≡ opened) × HasRisen at_open now
TellsFaults opened (Err OutOfMemory) = ⊤

-- After a sync up to a key seat w put the synced key there. The keeper on the desk made lasting
-- what was pending up to the key, and the rest is pending still.
pub record HasSynced (w upto : ℕ) (v after : View) : Type 0 where
  pub run : List EntryNote
  pub left : List EntryNote
  pub parted : IsParted upto v.hands.pending run left
  pub did : DidAs v w (Put w Synced upto) upto (with_desk (more_lasting run upto v.hands.lasting)
      left v.hands.progress v.hands) after

-- After one that was refused it made the step e. All is pending still, in some order; the keeper
-- may have kept a part, and may have stopped with a count.
pub record HasRefused (w upto : ℕ) (stopped : Option ℕ) (e : Event) (n : ℕ) (v after : View) :
    Type 0 where
  pub kept : List EntryNote
  pub pending : List EntryNote
  pub all : IsPermutation v.hands.pending pending
  pub keeps : IsKeptNow upto v.hands kept
  pub did : DidAs v w e n (with_desk (refused_lasting kept stopped v.hands.lasting) pending
      v.hands.progress v.hands) after

-- What seat w knows at the end of a sync up to a key, behind the look that found the synced key.
-- Where that is not below the key it is answered, and no further step is made; else the seat put it
-- there, or
-- stopped the log with the count that is answered, or looked once more.
abbrev pub EndedAs : ℕ → ℕ → ℕ → View → Result ℕ KeeperFault → View → Type 0
EndedAs w upto found v (Ok synced) after = ((upto ≤ found) × (synced ≡ found) × (after ≡ v))
    ⊎ ((found < upto) × (synced ≡ upto) × HasSynced w upto v after)
EndedAs w upto found v (Err (Stopped at_open now)) after =
    (found < upto) × HasRefused w upto (Some now) (Put w StoppedCursor now) now v after
EndedAs w upto found v (Err OutOfMemory) after = (found < upto) × ((n : ℕ)
    × HasRefused w upto v.hands.lasting.stopped (Look w (CursorWord StoppedCursor)) n v after)

-- Seat w ended a sync up to a key by these steps alone: what it knows is what it knew and they.
pub record EndsSync (w upto : ℕ) (before : View) (r : Result ℕ KeeperFault)
    (after : View) : Type 0 where
  pub found : ℕ
  pub seen : View
  pub looked : Did before w (Look w (CursorWord Synced)) found seen
  pub ended : EndedAs w upto found seen r after
