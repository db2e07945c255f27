-- A writer's share of lines: its writes when they are prepared, and what it has logged of them.
use Rattle.std.specs.Prelude.{◌≡◌, ◌⊎◌, ℕ, ◌≤◌, List, [], ◌∷◌, ◌++◌, reverse, Option, Some, None}
use Rattle.std.specs.Prelude.{Bool, true, false, ⊤}
use Rattle.std.specs.List.{AllPairs}
use Rattle.clog_base.specs.declared.sizes.Sizes.{Sizes}
use Rattle.clog_mutation.specs.declared.mutation.Mutation.{Mutation}
use Rattle.clog_applied.specs.History.{Line}
use Rattle.path_core.specs.declared.note.EntryNote.{EntryNote}
use Rattle.path_rule.specs.declared.answer.SyncAnswer.{SyncAnswer}
use Rattle.path_rule.specs.declared.answer.SyncAnswer.TheVariants as sync
use Rattle.path_rule.specs.declared.view.OwnStep.{OwnStep}
use Rattle.path_table.specs.declared.table.Member.{Member}
use Rattle.path_table.specs.Members.{view_of}
use Rattle.write_path.specs.declared.commit.Commit.{Commit}
use Rattle.write_path.specs.declared.commit.Commit.TheVariants.{Logged, Durable, Unsynced}
use Rattle.write_path.specs.declared.commit.Commit.TheVariants.{Spent as NoRoom}
use Rattle.write_path.specs.declared.commit.SyncFault.{SyncFault}
use Rattle.write_path.specs.declared.commit.SyncFault.TheVariants.{Stopped as LogStopped}
use Rattle.write_path.specs.declared.commit.SyncFault.TheVariants.{OutOfMemory as NoMemory}
use Rattle.path_flush.specs.declared.flush_answer.Flush.{Flush}
use Rattle.path_flush.specs.declared.flush_answer.Flush.TheVariants as flush
use Rattle.write_path.specs.declared.prepared.Prepared.{Prepared}
use Rattle.write_path.specs.Commits.{WritesEndBelow}
use Rattle.path_flush.specs.OwnWrites.{writes_of}
use Rattle.write_path.specs.Writes.{IsNoteOf, IsPrepared}
use Rattle.clog_shares.specs.declared.fault.WriteFault.{WriteFault}
use Rattle.clog_shares.specs.declared.fault.WriteFault.TheVariants.{OutOfMemory, Spent, Stopped}

-- these are the writes of lines, one by one, with all of their memory
abbrev pub ArePrepared : Sizes → List Line → List Prepared → Type 0
ArePrepared sizes [] [] = ⊤
ArePrepared sizes [] (p ∷ ps) = ⊥
ArePrepared sizes (l ∷ ls) [] = ⊥
ArePrepared sizes (l ∷ ls) (p ∷ ps) =
    IsPrepared sizes l.number l.mutation p × ArePrepared sizes ls ps

-- The note is what a writer deposited for a line.
pub record IsWriteOf (writer : ℕ) (l : Line) (n : EntryNote) : Type 0 where
  pub by : n.writer.0 ≡ writer
  pub is : IsNoteOf l.number l.mutation n

-- these are a writer's notes of lines, one by one
abbrev pub AreWritesOf : ℕ → List Line → List EntryNote → Type 0
AreWritesOf writer [] [] = ⊤
AreWritesOf writer [] (n ∷ ns) = ⊥
AreWritesOf writer (l ∷ ls) [] = ⊥
AreWritesOf writer (l ∷ ls) (n ∷ ns) = IsWriteOf writer l n × AreWritesOf writer ls ns

-- A writer's notes are those of the first of its lines, in order.
pub record AreFirstWrites (writer : ℕ) (lines : List Line) (notes : List EntryNote) : Type 0 where
  pub done : List Line
  pub left : List Line
  pub parts : lines ≡ done ++ left
  pub are : AreWritesOf writer done notes

-- entries in the order of the log, none over another
abbrev pub Rise : List EntryNote → Type 0
Rise notes = AllPairs (λ (a b : EntryNote). a.end.0 ≤ b.start.0) notes

-- what a seat has logged, the oldest first
abbrev pub logged_by : {K : Type 0} → Member K → List EntryNote
logged_by m = reverse (writes_of (view_of m).trail)

-- A writer's list is what it was and one more write of what was prepared, behind all of it.
pub record AddsWrite (writer : ℕ) (p : Prepared) (before after : List OwnStep) : Type 0 where
  pub note : EntryNote
  pub list : writes_of after ≡ note ∷ writes_of before
  pub by : note.writer.0 ≡ writer
  pub behind : WritesEndBelow note.start.0 before
  pub of : (sizes : Sizes) (line : ℕ) (m : Mutation) → IsPrepared sizes line m p
      → IsNoteOf line m note

-- or it is what it was
abbrev pub MayAddWrite : ℕ → Prepared → List OwnStep → List OwnStep → Type 0
MayAddWrite writer p before after =
    AddsWrite writer p before after ⊎ (writes_of after ≡ writes_of before)

-- A writer logged the first of its lines, in order; and all of them, where nothing was refused.
pub record LogsShare (writer : ℕ) (lines : List Line) (notes : List EntryNote)
    (fault : Option WriteFault) : Type 0 where
  pub done : List Line
  pub left : List Line
  pub parts : lines ≡ done ++ left
  pub are : AreWritesOf writer done notes
  pub rise : Rise notes
  pub all : fault ≡ None → left ≡ []

-- why the sync that a write waited for was refused
abbrev pub fault_of : SyncFault → WriteFault
fault_of (LogStopped at_open now) = Stopped at_open now
fault_of NoMemory = OutOfMemory

-- why a write was not logged, or not made lasting where it waited for that, if it was not
abbrev pub refusal_in : Commit → Option WriteFault
refusal_in (Logged r) = None
refusal_in (Durable r) = None
refusal_in (Unsynced r fault) = Some (fault_of fault)
refusal_in (NoRoom back key) = Some Spent

-- why a sync was refused, if it was
abbrev pub refusal_of : SyncAnswer → Option WriteFault
refusal_of (sync.Done key) = None
refusal_of (sync.Stopped at_open now) = Some (Stopped at_open now)
refusal_of sync.OutOfMemory = Some OutOfMemory

-- why a flush was refused, if it was: not where another seat has the turn
abbrev pub refusal_by : Flush → Option WriteFault
refusal_by (flush.Flushed lower upper) = None
refusal_by (flush.Empty key) = None
refusal_by (flush.Busy found) = None
refusal_by (flush.Stopped at_open now) = Some (Stopped at_open now)
refusal_by flush.OutOfMemory = Some OutOfMemory

-- nothing was refused but memory, if anything
abbrev pub LacksMemoryAtMost : Option WriteFault → Type 0
LacksMemoryAtMost None = ⊤
LacksMemoryAtMost (Some OutOfMemory) = ⊤
LacksMemoryAtMost (Some Spent) = ⊥
LacksMemoryAtMost (Some (Stopped at_open now)) = ⊥

-- a flush is finished
abbrev pub is_finished : Flush → Bool
is_finished (flush.Flushed lower upper) = true
is_finished (flush.Empty key) = true
is_finished (flush.Busy found) = false
is_finished (flush.Stopped at_open now) = false
is_finished flush.OutOfMemory = false
