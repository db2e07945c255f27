-- What becomes of a keeper that is drained.
use Rattle.std.specs.Prelude.{◌≡◌, ℕ, false, List, [], ◌++◌, Contains, Result}
use base.Stored.{Gv}
use Rattle.clog_disk.specs.declared.disk.Disk.{Ghosts as DiskTells}
use Rattle.path_core.specs.declared.keeper.KeeperFault.{KeeperFault}
use Rattle.path_core.specs.Keeper.{Holding, PutFile, TellsCounts, is_stopped}
use Rattle.clog_memtable.specs.declared.flushing.Memtable.{Memtable}
use Rattle.clog_memtable.specs.Flushing.{file_of, files_of}
use Rattle.clog_segments.specs.Life.{Lives, LivesOn, State}
use Rattle.clog_segments.specs.StoreState.{StoreState, holding_of}
use Rattle.clog_closing.specs.Beside.{HasFinished, HasGoodDeeds, HoldsNote}

-- A call, or several, of a keeper that had not stopped ends so: it has stopped where that is
-- answered, and then its disk's counts are told.
pub record EndsAs {T : Type 0} (h : Holding) (result : Result T KeeperFault) : Type 0 where
  pub stopped : h.stopped ≡ is_stopped result
  pub counts : TellsCounts h result

-- nothing has changed but what a keeper has done beside its log, and what it tells of its disk
abbrev pub KeepsLog : Holding → Holding → Type 0
KeepsLog before now =
    now ≡ record before {
      faults = now.faults;
      stopped = now.stopped;
      files = now.files;
      refused = now.refused;
      dropped = now.dropped;
      archived = now.archived;
    }

-- It has put no file, and dropped and archived no segment.
pub record HasNoDeeds (h : Holding) : Type 0 where
  pub no_file : h.files ≡ []
  pub none_dropped : h.dropped ≡ []
  pub none_archived : h.archived ≡ []

-- A keeper is drained: table files were put for just these memtables, behind those that there were,
-- and no segment is left that may go.
pub record Drains (before now : Holding) (memtables : List Memtable) : Type 0 where
  pub finished : HasFinished false now
  pub files_are : now.files ≡ before.files ++ files_of memtables

-- However far a drain up to a key has come: each table file that was put has the whole log up to
-- the key in its interval, and where the keeper does not archive no segment has an archive name.
pub record HasBegun (h : Holding) (upper : ℕ) : Type 0 where
  pub wide : (put : PutFile) → Contains h.files put → (put.lower ≡ 0) × (put.upper ≡ upper)
  pub none_archived : h.opening.archives ≡ false → h.archived ≡ []

-- each of these memtables has the whole log up to a key
abbrev pub ReachTo : ℕ → List Memtable → Type 0
ReachTo upper memtables = (m : Memtable) → Contains memtables m
    → (m.interval.lower.0 ≡ 0) × (m.interval.upper.0 ≡ upper)

-- ---- the same of a store

-- what a store holds as a keeper, by what its disk tells and the code of the disk's type
abbrev pub held_in : {D : Type 0} → DiskTells D → (D → Gv) → StoreState D → Holding
held_in disk code s = holding_of disk.files disk.changes disk.moment disk.faults code s

-- its log of sections lives on
abbrev pub StaysAlive : {D : Type 0} → DiskTells D → State D → State D → Type 0
StaysAlive disk before now =
    Lives disk.files disk.moment disk.since disk.leaves disk.read_at disk.lasted_at before
    → LivesOn disk.files disk.moment disk.since disk.leaves disk.read_at disk.lasted_at before now

-- What a step of a drain makes of a store that runs, whatever it answers: with files for these
-- memtables, or for the first of them, a drain up to a key is one up to that key still; what the
-- store had done beside its log is good still where it was, and each memtable's file holds an
-- entry; the log is as it was and lives on; and the step ends as it answers.
pub record HasGoneOn {D : Type 0} (disk : DiskTells D) (code : D → Gv) (before now : StoreState D)
    (memtables : List Memtable) (result : Result (Unit {0}) KeeperFault) : Type 0 where
  pub begun : (upper : ℕ) → ReachTo upper memtables → HasBegun (held_in disk code before) upper
      → HasBegun (held_in disk code now) upper
  pub good : HasGoodDeeds (held_in disk code before) → ((m : Memtable) → Contains memtables m
      → HoldsNote (held_in disk code before) (file_of m)) → HasGoodDeeds (held_in disk code now)
  pub keeps : KeepsLog (held_in disk code before) (held_in disk code now)
  pub ends : EndsAs (held_in disk code now) result
  pub first : now.first ≡ before.first
  pub lives : StaysAlive disk before.notes.log now.notes.log
