-- What a flush with both turns knows while it files a memtable, and what becomes of that.
use Rattle.std.specs.Prelude.{◌≡◌, ◌≢◌, ◌⊎◌, ◌≤◌, ℕ, List, [], Option, Some, None}
use Rattle.atomic_table.specs.Table.{Me, rest}
use Rattle.clog_base.specs.declared.cell.Cell.{Cell}
use Rattle.clog_base.specs.declared.cell.CellKey.{CellKey}
use Rattle.path_core.specs.declared.event.Cursor.TheVariants.{Stopped as StoppedCursor, Synced}
use Rattle.path_core.specs.declared.event.Place.TheVariants.{CursorWord, Log}
use Rattle.path_core.specs.declared.keeper.KeeperFault.{KeeperFault}
use Rattle.path_core.specs.declared.keeper.KeeperFault.TheVariants.{Stopped as KeeperStopped}
use Rattle.path_core.specs.declared.keeper.KeeperFault.TheVariants.{
  OutOfMemory as KeeperOutOfMemory,
}
use Rattle.path_core.specs.declared.seat.Issue.TheVariants.{Rest}
use Rattle.path_core.specs.declared.seat.Seat.{Seat}
use Rattle.path_core.specs.declared.seat.Switching.TheVariants.{Settled, WithBarrier}
use Rattle.path_core.specs.Keeper.{HasRisen}
use Rattle.path_core.specs.Keys.{after}
use Rattle.path_core.specs.Parts.{stage_of}
use Rattle.path_rule.specs.declared.answer.SyncAnswer.{SyncAnswer}
use Rattle.path_rule.specs.declared.answer.SyncAnswer.TheVariants.{Done, Stopped as SyncStopped}
use Rattle.path_rule.specs.declared.answer.SyncAnswer.TheVariants.{OutOfMemory as SyncOutOfMemory}
use Rattle.path_rule.specs.declared.lasting.Lasting.{Lasting}
use Rattle.path_rule.specs.declared.slot.Slot.{Slot}
use Rattle.path_rule.specs.declared.view.FlushRead.{FlushRead}
use Rattle.path_rule.specs.declared.view.OwnStep.{OwnStep}
use Rattle.path_rule.specs.declared.view.View.{View}
use Rattle.path_rule.specs.Calls.{Holds}
use Rattle.path_rule.specs.FilingTold.{AreSeen, FoundFinal, SeesAll}
use Rattle.path_rule.specs.Finds.{Finds}
use Rattle.path_rule.specs.TurnTold.{CarriesDesk}
use Rattle.path_flush.specs.declared.flush_answer.Flush.{Flush}
use Rattle.path_flush.specs.declared.flush_answer.Flush.TheVariants.{Flushed, Empty, Busy, Stopped}
use Rattle.path_flush.specs.declared.flush_answer.Flush.TheVariants.{OutOfMemory}
use Rattle.path_flush.specs.declared.flush_rounds.Round.{Round}
use Rattle.path_flush.specs.declared.flush_rounds.Round.TheVariants.{Lasts, Fails, Waits}
use Rattle.path_flush.specs.FlushSteps.{IsLeftOrFiled, QuietSteps, RetiresEmpty, RetiresFiled}
use Rattle.path_flush.specs.FlushSteps.{RetiresNone, UnswitchedSteps}
use Rattle.path_flush.specs.FlushTurns.{IsHolder}

module _ {K : Type 0} where
  -- It has the Sync turn beside that of a table, and one box, which is the desk. It may have filed
  -- a memtable.
  pub record HasTurns (t : ℕ) (m : Me (Slot K) View) : Type 0 where
    pub holder : IsHolder t m.0
    pub holds : Holds Rest m.0
    pub alone : rest m.1 ≡ []

  -- The desk is as it knows it.
  pub record HasBoth (shows : K → Lasting) (t : ℕ) (m : Me (Slot K) View) : Type 0 where
    pub turns : HasTurns t m
    pub desk : CarriesDesk shows m

-- No switch of the table is half done: the seat began none, or the barrier of the last one is
-- issued.
abbrev pub IsBarred : ℕ → Seat → Type 0
IsBarred t p = (stage_of p t ≡ Some Settled)
    ⊎ ((m g : ℕ) × (stage_of p t ≡ Some (WithBarrier m g)))

-- It has read memtable m of table t whole, found it final at a key, and has these cells of it.
pub record AwaitsFile (seats t m bound : ℕ) (cells : List (CellKey × Cell)) (v : View)
    : Type 0 where
  pub read : FlushRead
  pub sees : SeesAll seats v.hands t m read
  pub some : read.seen ≢ []
  pub are : AreSeen read t cells
  pub final : FoundFinal t v.part m bound
  pub barred : IsBarred t v.part
  pub opened : v.hands.lasting.at_open ≡ v.size.at_open

-- Seat w made steps by which no memtable is switched, and none is retired, and of which at most n
-- issued a barrier. The stage of its switch is as it was.
pub record FilingSteps (w t n : ℕ) (v after : View) : Type 0 where
  pub made : QuietSteps w t n v after
  pub stage : stage_of after.part t ≡ stage_of v.part t

-- The same where one may be retired.
pub record RetiringSteps (w t n : ℕ) (v after : View) : Type 0 where
  pub made : UnswitchedSteps w t n v after
  pub stage : stage_of after.part t ≡ stage_of v.part t

-- ---- what becomes of a memtable

-- A flush is refused so, over a keeper whose disk had counted so many faults when it was opened:
-- what is answered was found, or put, at one of these steps.
abbrev pub IsRefused : ℕ → Flush → List OwnStep → Type 0
IsRefused opened (Flushed lower upper) steps = ⊥
IsRefused opened (Empty key) steps = ⊥
IsRefused opened (Busy found) steps = ⊥
IsRefused opened (Stopped at_open now) steps =
    (at_open ≡ opened) × HasRisen at_open now × Finds (CursorWord StoppedCursor) now steps
IsRefused opened OutOfMemory steps = Unit {0}

-- Memtable m of table t, which seat w read, is retired, with a file of what was seen or without
-- one, and was found final at the key; or the flush is refused. Then no memtable is retired, unless
-- the keeper stopped behind its file.
abbrev pub IsRetired : ℕ → ℕ → ℕ → View → Flush → List OwnStep → View → Type 0
IsRetired w t m v (Flushed lower upper) steps after = RetiresFiled w t m lower.0 upper.0 v after
IsRetired w t m v (Empty key) steps after =
    (r : RetiresEmpty w t m v after) × FoundFinal t r.0.before.part m key.0
IsRetired w t m v (Busy found) steps after = ⊥
IsRetired w t m v (Stopped at_open now) steps after =
    IsRefused v.size.at_open (Stopped at_open now) steps × IsLeftOrFiled t m steps
IsRetired w t m v OutOfMemory steps after = RetiresNone steps

-- That was answered, and no memtable was switched. At most n of the steps issued a barrier.
pub record Retired (w t m n : ℕ) (v : View) (answer : Flush) (after : View) : Type 0 where
  pub steps : RetiringSteps w t n v after
  pub is : IsRetired w t m v answer steps.made.made.steps after

-- It was refused so, and no memtable was retired. At most n of the steps issued a barrier.
pub record Refused (w t n : ℕ) (v : View) (answer : Flush) (after : View) : Type 0 where
  pub steps : FilingSteps w t n v after
  pub is : IsRefused v.size.at_open answer steps.made.made.steps

-- The keeper stopped, and that is answered; or the flush goes on.
abbrev pub MayStop : ℕ → ℕ → View → Option Flush → View → Type 0
MayStop w t v None after = FilingSteps w t 0 v after
MayStop w t v (Some (Stopped at_open now)) after = Refused w t 0 v (Stopped at_open now) after
MayStop w t v (Some other) after = ⊥

-- what a keeper's fault is as an answer
abbrev pub IsFault : Flush → Type 0
IsFault (Stopped at_open now) = Unit {0}
IsFault OutOfMemory = Unit {0}
IsFault other = ⊥

-- what is answered behind a memtable that was left: nothing where it is retired
abbrev pub unless_retired : Flush → Option Flush
unless_retired (Flushed lower upper) = None
unless_retired (Empty key) = None
unless_retired (Busy found) = Some (Busy found)
unless_retired (Stopped at_open now) = Some (Stopped at_open now)
unless_retired OutOfMemory = Some OutOfMemory

-- Memtable m of table t, which was left, is retired, and nothing is answered; or that is answered
-- for which it was not, or not alone. One barrier was issued at most.
pub record PassesLeft (w t m : ℕ) (v : View) (answer : Option Flush) (after : View) :
    Type 0 where
  pub told : Flush
  pub is : answer ≡ unless_retired told
  pub retired : Retired w t m 1 v told after

-- ---- the log lasts

-- The log is lasting up to a key, as the seat found at these steps: it goes on at or above that key
-- behind a synced key that it found, or put.
pub record LastsTo (capacity key : ℕ) (steps : List OwnStep) : Type 0 where
  pub synced : ℕ
  pub found : Finds (CursorWord Synced) synced steps
  pub reaches : key ≤ after capacity synced

-- What a round of a sync is to a flush: by one barrier at most the log is lasting up to each log
-- key that the seat had found, or it fails; or no barrier was issued, and nothing is told.
abbrev pub MakesRound : ℕ → ℕ → View → Round → View → Type 0
MakesRound w t v Lasts after = FilingSteps w t 1 v after
    × ((key : ℕ) → Finds Log key v.trail → LastsTo v.size.capacity key after.trail)
MakesRound w t v (Fails answer) after = Refused w t 1 v answer after
MakesRound w t v Waits after = FilingSteps w t 0 v after

-- By one barrier at most the log is lasting up to a key, or the flush is refused.
abbrev pub MakesLasting : ℕ → ℕ → ℕ → View → Option Flush → View → Type 0
MakesLasting w t key v None after =
    FilingSteps w t 1 v after × LastsTo v.size.capacity key after.trail
MakesLasting w t key v (Some answer) after = Refused w t 1 v answer after

-- ---- what is to be answered

-- the answer of a round of a sync, to a flush
abbrev pub round_of : Option SyncAnswer → Round
round_of (Some (SyncStopped at_open now)) = Fails (Stopped at_open now)
round_of (Some SyncOutOfMemory) = Fails OutOfMemory
round_of (Some (Done key)) = Lasts
round_of None = Waits

-- what is answered where segments were not dropped: nothing where the keeper wants memory
abbrev pub unless_memory : Flush → Option Flush
unless_memory (Flushed lower upper) = Some (Flushed lower upper)
unless_memory (Empty key) = Some (Empty key)
unless_memory (Busy found) = Some (Busy found)
unless_memory (Stopped at_open now) = Some (Stopped at_open now)
unless_memory OutOfMemory = None

-- ---- a keeper's refusal of a file

-- the count with which it has stopped then
abbrev pub stopped_after : Option ℕ → KeeperFault → Option ℕ
stopped_after before (KeeperStopped at_open now) = Some now
stopped_after before KeeperOutOfMemory = before

-- Where it has stopped it tells the count at its opening, which is this one, and one that has
-- risen.
abbrev pub TellsFault : ℕ → KeeperFault → Type 0
TellsFault opened (KeeperStopped at_open now) = (at_open ≡ opened) × HasRisen at_open now
TellsFault opened KeeperOutOfMemory = Unit {0}
