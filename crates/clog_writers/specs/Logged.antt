-- What a keeper holds once writers have logged their shares.
use Rattle.std.specs.Prelude.{◌≡◌, ℕ, ◌+◌, ◌-◌, ◌*◌, ◌<◌, ◌≤◌, ◌==◌, Bool, true, List, [], ◌++◌}
use Rattle.std.specs.Prelude.{length, Option, Some, None, IsTrue, ⊤}
use Rattle.std.specs.List.{Contains, filter}
use Rattle.clog_spec.specs.Sizes.{most_tables}
use Rattle.clog_base.specs.declared.sizes.Sizes.{Sizes}
use Rattle.clog_mutation.specs.declared.mutation.Mutation.{Mutation}
use Rattle.clog_applied.specs.History.{Line, share_of}
use Rattle.path_core.specs.declared.note.EntryNote.{EntryNote}
use Rattle.path_core.specs.History.{IsHistory}
use Rattle.path_core.specs.Keeper.{Holding, IsFiledIn}
use Rattle.path_core.specs.Parts.{touches}
use Rattle.path_core.specs.Whole.{IsWhole}
use Rattle.path_rule.specs.Limits.{most_memtables}
use Rattle.clog_closing.specs.Beside.{HasGoodDeeds}
use Rattle.clog_closing.specs.Drained.{HasNoDeeds}
use Rattle.write_path.specs.Closed.{PassesNoSegment}
use Rattle.clog_shares.specs.declared.fault.WriteFault.{WriteFault}
use Rattle.clog_shares.specs.declared.fault.WriteFault.TheVariants.{Spent, Stopped}
use Rattle.clog_shares.specs.declared.worker.Worker.{Worker}
use Rattle.clog_shares.specs.Crews.{AreDealt}
use Rattle.clog_shares.specs.Shares.{AreFirstWrites, AreWritesOf}
use Rattle.clog_shares.specs.Tallied.{updates_for}

-- The keeper goes on from the disk of the one before. What it has done beside its log is good: it
-- has done nothing where writers do not flush, and has put few files where they do.
pub record GoesOnBeside (flush : Option ℕ) (before now : Holding) : Type 0 where
  pub disk_is : now.opening.disk ≡ before.opening.disk
  pub base_is : now.base ≡ before.base
  pub archives_are : now.opening.archives ≡ before.opening.archives
  pub tables_are : now.sizes.tables ≡ before.sizes.tables
  pub alone : flush ≡ None → HasNoDeeds now
  pub good : HasGoodDeeds now
  pub few : length now.files ≤ most_memtables

-- the entry is a writer's
abbrev pub is_note_of : ℕ → EntryNote → Bool
is_note_of writer n = n.writer.0 == writer

-- These are entries in the order of the log, none over another, and each writer's are its share of
-- the lines, in order.
pub record HoldShares (capacity writers : ℕ) (mutations : List Mutation) (notes : List EntryNote) :
    Type 0 where
  pub lawful : IsHistory capacity notes
  pub whole : (n : EntryNote) → Contains notes n → IsWhole n
  pub known : (n : EntryNote) → Contains notes n → n.writer.0 < writers
  pub shares : (writer : ℕ) → writer < writers
      → AreWritesOf writer (share_of writers writer mutations)
      (filter (is_note_of writer) notes)

-- Of these entries each writer's are the first of its share of the lines, in order.
pub record HoldFirsts (writers : ℕ) (mutations : List Mutation) (notes : List EntryNote) : Type 0
  where
    pub known : (n : EntryNote) → Contains notes n → n.writer.0 < writers
    pub firsts : (writer : ℕ) → writer < writers
        → AreFirstWrites writer (share_of writers writer mutations)
        (filter (is_note_of writer) notes)

-- The keeper has made lasting all shares, and nothing else, and passes over no segment.
pub record LogsShares (sizes : Sizes) (base : ℕ) (mutations : List Mutation) (now : Holding) :
    Type 0 where
  pub base_is : now.base ≡ base
  pub notes : HoldShares sizes.capacity sizes.writers mutations now.logged
  pub none_passed : PassesNoSegment now.logged
  pub none_kept : now.kept ≡ []

-- Of a writer's entries that are lasting the first lie in files of a table, where they touch it;
-- the others, which are of these lines, have fewer updates of it than a number.
pub record HasFlushedShare (most t writer : ℕ) (now : Holding) : Type 0 where
  pub early : List EntryNote
  pub late : List EntryNote
  pub parts : filter (is_note_of writer) now.logged ≡ early ++ late
  pub filed : (n : EntryNote) → Contains early n → IsTrue (touches n.tables t)
      → IsFiledIn now.files t n.end.0
  pub rest : List Line
  pub are_late : AreWritesOf writer rest late
  pub few : updates_for t rest < most

-- so it is of each writer, for each table, where writers flush
abbrev pub HaveFlushedShares : Option ℕ → ℕ → Holding → Type 0
HaveFlushedShares None writers now = ⊤
HaveFlushedShares (Some most) writers now = (t writer : ℕ) → t < most_tables → writer < writers
    → HasFlushedShare most t writer now

-- What became of the shares that were dealt out to workers: where nothing was refused all of them
-- are logged, and flushed where writers flush. Whatever was, what is lasting and what is kept are
-- the first of each.
pub record EndsShares {K : Type 0} (sizes : Sizes) (flush : Option ℕ) (base : ℕ)
    (before now : Holding) (workers : List (Worker K)) (fault : Option WriteFault) : Type 0 where
  pub beside : GoesOnBeside flush before now
  pub logs : (mutations : List Mutation) → AreDealt sizes flush mutations workers → fault ≡ None
      → LogsShares sizes base mutations now
  pub flushed : (mutations : List Mutation) → AreDealt sizes flush mutations workers
      → fault ≡ None → HaveFlushedShares flush sizes.writers now
  pub firsts : (mutations : List Mutation) → AreDealt sizes flush mutations workers
      → HoldFirsts sizes.writers mutations (now.logged ++ now.kept)
  -- which stand in the order of the log, none over another
  pub in_log : (mutations : List Mutation) → AreDealt sizes flush mutations workers
      → IsHistory sizes.capacity (now.logged ++ now.kept)
  -- the counts that are told are the keeper's
  pub stops : (at_open count : ℕ) → fault ≡ Some (Stopped at_open count)
      → (at_open ≡ now.at_open) × (count ≡ now.faults) × (now.stopped ≡ true)
  -- it has no room only for many lines
  pub spent : (mutations : List Mutation) → AreDealt sizes flush mutations workers
      → fault ≡ Some Spent → sizes.ordinals ≤ 1 + (2 * length mutations - 1)
