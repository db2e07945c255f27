-- What is left where lines were written to a store.
use Rattle.std.specs.Prelude.{
  ◌≡◌,
  ◌⊎◌,
  ◌<◌,
  ◌≤◌,
  ℕ,
  ◌++◌,
  List,
  [],
  ◌∷◌,
  length,
  map,
  take,
  Bool,
  true,
  false,
  Contains,
  Option,
  Some,
  option_map,
}
use Rattle.std.specs.List.{AllPairs, flat_map}
use Rattle.clog_spec.specs.Names.{segment_name_of}
use Rattle.clog_base.specs.declared.cell.Table.{Table}
use Rattle.clog_disk.specs.declared.change.Change.{Change}
use Rattle.clog_disk.specs.Files.{Files, bytes_at}
use Rattle.clog_mutation.specs.declared.mutation.Mutation.{Mutation}
use Rattle.clog_mutation.specs.Payload.{cells_of, payload_of}
use Rattle.clog_scan.specs.Cut.{Section}
use Rattle.clog_scan.specs.Segment.{Entry}
use Rattle.clog_table.specs.declared.table_file.TableFile.{TableFile}
use Rattle.clog_crash.specs.Covering.{Either, SameMerge}
use Rattle.clog_crash.specs.Grown.{Append, appends_of, grown}
use Rattle.clog_crash.specs.Log.{Write, entries_in}
use Rattle.clog_crash.specs.Readings.{IsTableIn, Reading, RestoresIn}
use Rattle.clog_crash.specs.Restore.{IsUndamaged}
use Rattle.clog_crash.specs.Sections.{segment_bytes}
use Rattle.clog_segments.specs.Grows.{AreAppends, IsAppend}
use Rattle.clog_applied.specs.Appended.{IsAppended}
use Rattle.clog_applied.specs.Closed.{IsAnyFile}
use Rattle.clog_applied.specs.Early.{AreInOrder, AreRunChanges, ComeLast}
use Rattle.clog_applied.specs.Filed.{
  BringsNoOther,
  FollowFrom,
  HoldsSome,
  IsTrueFor,
  files_of,
  first_of,
}
use Rattle.clog_applied.specs.History.{IsBefore, Line, LoggedLine, share_of, written_by}
use Rattle.clog_applied.specs.Onward.{EndsNear}
use Rattle.clog_closing.specs.Logs.{id_of}

-- The entries of a log are those of the first of these lines, in order.
pub record SaysFirst (log : List Write) (mutations : List Mutation) : Type 0 where
  pub count : ℕ
  pub says : map (λ (e : Entry). e.payload) (entries_in log)
      ≡ map payload_of (take count mutations)

-- The image restores what was restored before, and the first of these lines, at least so many. It
-- is not damaged.
pub record RestoresLines (r : Reading) (mutations : List Mutation) (least : ℕ) (image : Files)
    : Type 0 where
  pub n : ℕ
  pub enough : least ≤ n
  pub some : n ≤ length mutations
  pub restores :
      SameMerge (RestoresIn (bytes_at image))
      (Either (RestoresIn r) (Contains (flat_map cells_of (take n mutations))))
  pub undamaged : IsUndamaged image

-- These bytes are those of a segment of a log but for its last section, and no other segment of the
-- log has a greater id.
pub record LacksLast (log : List Write) (w : Write) (bytes : List ℕ) : Type 0 where
  pub front : List Section
  pub torn : Section
  pub sections_are : w.sections ≡ front ++ torn ∷ []
  pub bytes_are : bytes ≡ segment_bytes w.id front
  pub last : (other : Write) → Contains log other → other.id ≤ w.id

-- The appends have brought these segments, the last of them perhaps but for its last section, and
-- nothing else.
pub record IsWrittenBy (appends : List Append) (log : List Write) : Type 0 where
  pub each : (w : Write) → Contains log w
      → (grown appends (segment_name_of 6 w.id) ≡ segment_bytes w.id w.sections)
      ⊎ LacksLast log w (grown appends (segment_name_of 6 w.id))
  pub only : (a : Append) → Contains appends a
      → (w : Write) × Contains log w × (0 < length w.sections) × (a.0 ≡ segment_name_of 6 w.id)

-- Where a disk tells its files, each of these table files stands there.
abbrev pub AllStand : Option Files → List TableFile → Type 0
AllStand now files = (after : Files) → now ≡ Some after → (file : TableFile)
    → Contains files file → IsTableIn (bytes_at after) file

-- The changes of a run behind its opening, each in its turn. What they appended, to the segments
-- of these ids, is a history in the order of the log. They put no table file but these, which are
-- true for the history: a table's follow one another from the base on, each holds one of its
-- entries, comes behind those of its table up to its end, and ends at most one segment behind an
-- entry; and where the disk tells its files, each of them stands there. They remove no file but
-- segments, each behind all its bytes and files that were put and hold it; where archives are kept
-- behind its archive name too, and they give no name but these. The call with which a disk has
-- failed is not among them.
pub record AreInTurn (archives : Bool) (base : ℕ) (now : Option Files) (changes : List Change)
    (ids : List ℕ) (history : List LoggedLine) (files : List TableFile) : Type 0 where
  pub apart : AllPairs IsBefore history
  pub is_appended : IsAppended changes ids history
  pub order : AreInOrder IsAnyFile archives changes ids history files
  pub only : AreRunChanges archives ids files changes
  pub follow : (table : Table) → FollowFrom (first_of base) (files_of table files)
  pub are_true : (file : TableFile) → Contains files file → IsTrueFor history file
  pub for_some : (file : TableFile) → Contains files file → HoldsSome history file
  pub near : (file : TableFile) → Contains files file → EndsNear history file
  pub stand : AllStand now files

-- Changes by which a drain has begun: the entries of all lines were appended, each by its writer
-- and each writer's in order; behind all of them some table files have come, and segments gone.
pub record HasGoneInOrder (archives : Bool) (base writers : ℕ) (mutations : List Mutation)
    (now : Option Files) (changes : List Change) : Type 0 where
  pub ids : List ℕ
  pub history : List LoggedLine
  pub files : List TableFile
  pub turns : AreInTurn archives base now changes ids history files
  pub known : (w : LoggedLine) → Contains history w → w.writer < writers
  pub shares : (writer : ℕ) → writer < writers
      → written_by writer history ≡ share_of writers writer mutations
  pub last : ComeLast changes history

-- The first of these lines, in order.
pub record AreFirstLines (all first : List Line) : Type 0 where
  pub rest : List Line
  pub parts : all ≡ first ++ rest

-- Of a history each writer's lines are the first of its share, in order.
pub record HoldsFirsts (writers : ℕ) (mutations : List Mutation) (history : List LoggedLine)
    : Type 0 where
  pub known : (w : LoggedLine) → Contains history w → w.writer < writers
  pub firsts : (writer : ℕ) → writer < writers
      → AreFirstLines (share_of writers writer mutations) (written_by writer history)

-- Changes by which writers flush while they log, however far they have come: entries were
-- appended, of each writer those of the first lines of its share, in order; and among these appends
-- some table files have come, and segments gone.
pub record HasComeInOrder (archives : Bool) (base writers : ℕ) (mutations : List Mutation)
    (now : Option Files) (changes : List Change) : Type 0 where
  pub ids : List ℕ
  pub history : List LoggedLine
  pub files : List TableFile
  pub turns : AreInTurn archives base now changes ids history files
  pub holds : HoldsFirsts writers mutations history

-- Changes by which writers log lines: where they flush meanwhile, those of writers that have come
-- so far, also if a drain has begun behind them, which is not told apart then; else appends alone,
-- or those of a drain that has begun.
abbrev pub AreMadeFor : Bool → Bool → Bool → ℕ → ℕ → List Mutation → Option Files → List Change
    → Type 0
AreMadeFor true archives drain base writers mutations now changes =
    HasComeInOrder archives base writers mutations now changes
AreMadeFor false archives drain base writers mutations now changes =
    AreAppends changes
    ⊎ ((drain ≡ true) × HasGoneInOrder archives base writers mutations now changes)

-- The appends among a disk's further changes since it was so have brought these segments, listed
-- in the order of their ids, which begin at a base. The changes are those by which so many writers
-- log the lines.
pub record HasBrought {D : Type 0} (files : D → Option Files)
    (changes : D → Option (List Change)) (before now : D) (base : ℕ)
    (flushing archives drain : Bool) (writers : ℕ) (mutations : List Mutation) (log : List Write)
    : Type 0
  where
    pub added : List Change
    pub changes_are : changes now ≡ option_map (λ made. made ++ added) (changes before)
    pub made_for :
        AreMadeFor flushing archives drain base writers mutations (files now) added
    pub brought : IsWrittenBy (appends_of added) log
    pub rise : AllPairs (λ (a b : Write). a.id < b.id) log
    pub above : (w : Write) → Contains log w → base ≤ w.id

-- Where a disk tells its files, no other name has come since than those of these segments, their
-- archive names and table files.
abbrev pub BringsOnly : {D : Type 0} → (D → Option Files) → D → D → List Write → Type 0
BringsOnly files before now log = (opened after : Files) → files before ≡ Some opened
    → files now ≡ Some after → BringsNoOther (map id_of log) opened after

-- one of the changes is no append
pub record GoesBeyond (changes : List Change) : Type 0 where
  pub change : Change
  pub listed : Contains changes change
  pub other : IsAppend change → ⊥
