-- What a seat was promised by an answer, as it stands at that moment and at each later one.
use Rattle.std.specs.Prelude.{◌≡◌, ℕ, true, List}
use Rattle.std.specs.List.{Contains}
use Rattle.clog_base.specs.declared.cell.Table.{Table}
use Rattle.path_core.specs.declared.note.EntryNote.{EntryNote}
use Rattle.path_core.specs.declared.state.Bound.TheVariants.{Final}
use Rattle.path_core.specs.declared.state.PathState.{PathState}
use Rattle.path_core.specs.Keeper.{PutFile}
use Rattle.path_core.specs.Parts.{is_empty, memtable_of}
use Rattle.path_rule.specs.declared.answer.SyncAnswer.TheVariants.{Done}
use Rattle.path_rule.specs.declared.view.OwnStep.{OwnStep}
use Rattle.path_rule.specs.declared.view.PathSize.{PathSize}
use Rattle.path_rule.specs.declared.view.View.{View}
use Rattle.sync_core.specs.declared.SyncCore.TheVariants.{Batch}
use Rattle.write_path.specs.declared.commit.Commit.TheVariants.{Durable}
use Rattle.write_path.specs.declared.commit.Receipt.{Receipt}
use Rattle.path_flush.specs.declared.flush_answer.Flush.{Flush}
use Rattle.path_flush.specs.declared.flush_answer.Flush.TheVariants.{Flushed, Empty}
use Rattle.write_path.specs.declared.prepared.Prepared.{Prepared}
use Rattle.write_path.specs.Commits.{HasNoRoom}
use Rattle.path_flush.specs.OwnWrites.{writes_of}
use Rattle.path_flush.specs.Flushed.{Flushes}
use Rattle.path_flush.specs.Grown.{HasGrown}
use Rattle.write_path.specs.Receipts.{IsCommitted}
use Rattle.write_path.specs.Syncs.{Syncs}

-- A commit of seat w logged write n and answered it Durable, when this was the seat's trail, or
-- earlier.
pub record WasDurable (size : PathSize) (w : ℕ) (n : EntryNote) (trail : List OwnStep) :
    Type 0 where
  pub before : List OwnStep
  pub prepared : Prepared
  pub receipt : Receipt
  pub after : View
  pub committed : IsCommitted Batch size w before prepared (Durable receipt) after
  pub note : committed.0.logged.listed.note ≡ n
  pub since : HasGrown after.trail trail

-- A commit of seat w, or a try to claim, found that an entry of so many bytes has no segment, when
-- this was the seat's trail, or earlier.
pub record WasSpent (size : PathSize) (bytes key : ℕ) (trail : List OwnStep) : Type 0 where
  pub since : ℕ
  pub after : View
  pub spent : HasNoRoom size bytes since key after
  pub grown : HasGrown after.trail trail

-- A sync of seat w was answered Done with a key while its list had write n, when this was the
-- seat's trail, or earlier.
pub record WasDone (w key : ℕ) (n : EntryNote) (trail : List OwnStep) : Type 0 where
  pub opened : ℕ
  pub before : View
  pub after : View
  pub syncs : Syncs w opened before (Done key) after
  pub listed : Contains (writes_of after.trail) n
  pub since : HasGrown after.trail trail

-- Up to this key a flush with this answer has its table flushed.
abbrev pub IsUpTo : ℕ → Flush → Type 0
IsUpTo key (Flushed lower upper) = upper.0 ≡ key
IsUpTo key (Empty upper) = upper.0 ≡ key
IsUpTo key other = ⊥

-- A flush of table t by seat w was answered so, when this was the seat's trail, or earlier.
pub record WasFlushed (w : ℕ) (t : Table) (answer : Flush) (trail : List OwnStep) : Type 0 where
  pub before : View
  pub after : View
  pub flushes : Flushes w t.0 before answer after
  pub since : HasGrown after.trail trail

-- Among these files is one of table t, from one key to another.
pub record HasFileFrom (files : List PutFile) (t lower upper : ℕ) : Type 0 where
  pub file : PutFile
  pub among : Contains files file
  pub of_table : file.table ≡ t
  pub begins : file.lower ≡ lower
  pub ends : file.upper ≡ upper

-- A memtable of table t is final at the key, and nothing is placed in it.
pub record HasVoid (core : PathState) (t key : ℕ) : Type 0 where
  pub memtable : ℕ
  pub final : (memtable_of core t memtable).bound ≡ Final (record { 0 = key })
  pub empty : is_empty core t memtable ≡ true
