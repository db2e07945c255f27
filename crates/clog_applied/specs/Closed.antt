-- What is left when a run's path is closed: what the path tells, and what its store keeps.
use Rattle.std.specs.Prelude.{
  ◌≡◌,
  ◌↔◌,
  ◌⊎◌,
  ℕ,
  ◌<◌,
  ◌≤◌,
  Bool,
  true,
  false,
  List,
  [],
  ◌++◌,
  Contains,
  Some,
  None,
  ⊤,
}
use Rattle.std.specs.List.{AllPairs, filter, sum_by}
use Rattle.std.specs.FinMap as finmap
use Rattle.clog_spec.specs.Names.{segment_name_of, archive_name_of, IsSegmentName}
use Rattle.clog_base.specs.declared.cell.Table.{Table}
use Rattle.clog_disk.specs.declared.change.Change.{Change}
use Rattle.clog_disk.specs.Files.{Files, bytes_at}
use Rattle.clog_mutation.specs.declared.mutation.Mutation.{Mutation}
use Rattle.clog_scan.specs.Laws.{IsFile}
use Rattle.clog_table.specs.declared.table_file.TableFile.{TableFile}
use Rattle.clog_words.specs.declared.request.ApplyOptions.{ApplyOptions}
use Rattle.clog_crash.specs.Droppable.{IsDroppable, IsFiled, Touches}
use Rattle.clog_crash.specs.Folder.{IsHeld, Place, IsNameOf, IsGoodTable}
use Rattle.clog_crash.specs.Readings.{IsTableIn}
use Rattle.clog_applied.specs.Appended.{appended, entries_in, IsAppended}
use Rattle.clog_applied.specs.Asked.{IsBatch, capacity_of, flushes}
use Rattle.clog_applied.specs.Early.{AreInOrder, AreRunChanges}
use Rattle.clog_applied.specs.Filed.{
  BringsNoOther,
  FollowFrom,
  HoldsSome,
  IsTrueFor,
  KeepsOthers,
  StandsBefore,
  files_of,
  first_of,
}
use Rattle.clog_applied.specs.Flushed.{updates_at}
use Rattle.clog_applied.specs.History.{
  IsLawful,
  LoggedLine,
  entry_of,
  is_by,
  logged_at,
  share_of,
  written_by,
}
use Rattle.clog_applied.specs.Log.{AreSyncedApart}
use Rattle.clog_applied.specs.Opening.{IsOpening}

-- ---- what the path tells

-- A writer's entries up to its last finished flush of a table lie in files of the table; behind
-- them stand fewer updates of the table than the number at which it flushes.
pub record HasFlushed (most : ℕ) (table : Table) (writer : ℕ) (history : List LoggedLine)
    (files : List TableFile) : Type 0 where
  pub front : List LoggedLine
  pub rest : List LoggedLine
  pub parts : filter (is_by writer) history ≡ front ++ rest
  pub filed : (w : LoggedLine) → Contains front w → Touches (entry_of w) table
      → IsFiled files table (logged_at w)
  pub few : sum_by (updates_at table) rest < most

-- The seats' lists together are a lawful history, each of them the writer's share in order. Files
-- follow one another, are true for it, and each stands for an entry. Behind a drain each entry lies
-- in a file of each table that it touches, and with a flush limit each writer has flushed.
pub record IsClosedPath (options : ApplyOptions) (mutations : List Mutation) (base : ℕ)
    (history : List LoggedLine) (files : List TableFile) : Type 0 where
  pub lawful : IsLawful (capacity_of options) history
  pub from_base : (w : LoggedLine) → Contains history w → base ≤ w.id
  pub writers : 0 < options.writers
  pub known : (w : LoggedLine) → Contains history w → w.writer < options.writers
  pub shares : (writer : ℕ) → writer < options.writers
      → written_by writer history ≡ share_of options.writers writer mutations
  pub follow : (table : Table) → FollowFrom (first_of base) (files_of table files)
  pub are_true : (file : TableFile) → Contains files file → IsTrueFor history file
  pub for_some : (file : TableFile) → Contains files file → HoldsSome history file
  pub drained : options.drain ≡ true → (table : Table) (w : LoggedLine) → Contains history w
      → Touches (entry_of w) table → IsFiled files table (logged_at w)
  pub none : flushes options ≡ false → files ≡ []
  pub flushed : (most : ℕ) → options.flush_at ≡ Some most → (table : Table) (writer : ℕ)
      → writer < options.writers → HasFlushed most table writer history files

-- ---- what the store keeps

-- a segment's file has these bytes, and there is no archived one
pub record StaysAs (after : Files) (id : ℕ) (bytes : List ℕ) : Type 0 where
  pub segment : finmap.get after (segment_name_of 6 id) ≡ Some bytes
  pub archive : finmap.get after (archive_name_of id) ≡ None

-- what stands at the archive name of a segment that went, where archives are kept or not
abbrev pub IsArchivedAs : Bool → Files → ℕ → List ℕ → Type 0
IsArchivedAs true after id bytes = finmap.get after (archive_name_of id) ≡ Some bytes
IsArchivedAs false after id bytes = finmap.get after (archive_name_of id) ≡ None

-- the segment's file has gone, and its bytes are archived where archives are kept
pub record WentAs (archive : Bool) (after : Files) (id : ℕ) (bytes : List ℕ) : Type 0 where
  pub segment : finmap.get after (segment_name_of 6 id) ≡ None
  pub archived : IsArchivedAs archive after id bytes

-- a segment was dropped and went, or stays
abbrev pub StaysOrWent : Bool → Files → List ℕ → ℕ → List ℕ → Type 0
StaysOrWent archive after dropped id bytes =
    (Contains dropped id × WentAs archive after id bytes)
    ⊎ ((Contains dropped id → ⊥) × StaysAs after id bytes)

abbrev pub IsAnyFile : TableFile → Type 0
IsAnyFile file = ⊤

-- one of these files is there under the name of a place
pub record IsPut (files : List TableFile) (after : Files) (place : Place) (name : List ℕ)
    : Type 0 where
  pub file : TableFile
  pub listed : Contains files file
  pub good : IsGoodTable after place name file

-- What was appended since the opening is the history, and no other change was made than those of
-- the run's own segments and table files. Segments stand as they were appended, but for
-- those that were dropped, and these are exactly the droppable ones. Table files that were put are
-- there, and of the opening all else; no other name has come.
pub record IsStoreLeft (archive : Bool) (opened after : Files) (later : List Change)
    (ids dropped : List ℕ) (history : List LoggedLine) (files : List TableFile) : Type 0 where
  pub is_appended : IsAppended later ids history
  pub bytes : (id : ℕ) → Contains ids id → IsFile (appended later id)
  pub some : (id : ℕ) → Contains ids id → (w : LoggedLine) × Contains history w × (w.id ≡ id)
  pub order : AreInOrder IsAnyFile archive later ids history files
  pub only : AreRunChanges archive ids files later
  pub dropped_exactly : (id : ℕ) → Contains ids id
      → Contains dropped id ↔ IsDroppable files id (entries_in id history)
  pub segments : (id : ℕ) → Contains ids id
      → StaysOrWent archive after dropped id (appended later id)
  pub no_other : (name : List ℕ) (version id : ℕ) → IsSegmentName name version id
      → IsHeld after name → (version ≡ 6) × Contains ids id
  pub put : (file : TableFile) → Contains files file → IsTableIn (bytes_at after) file
  pub rise : (table : Table) → AllPairs (StandsBefore after) (files_of table files)
  pub tables : (place : Place) (name : List ℕ) → IsNameOf place name → IsHeld after name
      → (finmap.get after name ≡ finmap.get opened name) ⊎ IsPut files after place name
  pub others : KeepsOthers opened after
  pub no_stray : BringsNoOther ids opened after

-- ---- a run

-- A run whose path is closed, over the folder of before: an opening, and then what path and store
-- tell. In batch mode no section holds two entries of one writer.
pub record ClosedRun (options : ApplyOptions) (before after : Files) (changes : List Change)
    (mutations : List Mutation) : Type 0 where
  pub base : ℕ
  pub opened : Files
  pub recovery : List Change
  pub later : List Change
  pub ids : List ℕ
  pub dropped : List ℕ
  pub history : List LoggedLine
  pub files : List TableFile
  pub parts : changes ≡ recovery ++ later
  pub opening : IsOpening before opened recovery base
  pub path : IsClosedPath options mutations base history files
  pub store : IsStoreLeft options.archive opened after later ids dropped history files
  pub apart : IsBatch options → AreSyncedApart later history
