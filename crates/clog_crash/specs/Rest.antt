-- A folder to which a segment is written, between two calls: the old sections last, those that are
-- kept stand behind them, and a crash leaves them whole, torn, or not at all.
use Rattle.std.specs.Prelude.{
  ◌≡◌,
  ◌⊎◌,
  ℕ,
  ◌+◌,
  ◌<◌,
  ◌≤◌,
  List,
  ◌++◌,
  length,
  take,
  Option,
  Some,
  None,
}
use Rattle.std.specs.FinMap as finmap
use Rattle.clog_spec.specs.Names.{segment_name_of, IsSegmentName}
use Rattle.clog_spec.specs.Sizes.{header_size, marker_size, front_size}
use Rattle.clog_base.specs.declared.cell.Table.{Table}
use Rattle.clog_base.specs.declared.position.Position.{Position}
use Rattle.clog_disk.specs.Files.{Files, bytes_at}
use Rattle.clog_scan.specs.declared.answer.End.TheVariants.{Clean}
use Rattle.clog_scan.specs.Cut.{Section, last_until}
use Rattle.clog_scan.specs.Segment.{Entry}
use Rattle.clog_crash.specs.Folder.{AreGoodTables, IsHeld}
use Rattle.clog_crash.specs.Readings.{Reading, IsSkippedIn}
use Rattle.clog_crash.specs.Restore.{HoldsSegment, AreMutations}
use Rattle.clog_crash.specs.Sections.{segment_bytes, IsStored}

-- an older segment: of version 6, clean, and its payloads are mutations'
pub record IsOlder (files : Files) (name : List ℕ) (version other id : ℕ) : Type 0 where
  pub version_is : version ≡ 6
  pub below : other < id
  pub entries : List Entry
  pub at : ℕ
  pub holds : HoldsSegment files name other entries (Clean at)
  pub payloads : AreMutations entries

-- The position is one where a further entry may come to end: behind the sections that last, and
-- behind the marker of the next one, or in a later segment.
abbrev pub IsBeyond : ℕ → List Section → Position → Type 0
IsBeyond id old at =
    ((at.id ≡ id) × (last_until header_size old + marker_size < at.offset))
    ⊎ ((id < at.id) × (front_size < at.offset))

-- What the files are: the segment of the id holds the old sections and those that are kept. No
-- table file stands for what comes behind the old ones. All else is good, and each other segment is
-- older.
pub record IsInFiles (files : Files) (id : ℕ) (old kept : List Section) : Type 0 where
  pub reads : bytes_at files (segment_name_of 6 id) ≡ segment_bytes id (old ++ kept)
  pub live : (table : Table) (at : Position) → IsBeyond id old at
      → ¬ IsSkippedIn (bytes_at files) table at
  pub tables : AreGoodTables files
  pub segments : (name : List ℕ) (version other : ℕ) → IsSegmentName name version other
      → (name ≡ segment_name_of 6 id → ⊥) → IsHeld files name
      → IsOlder files name version other id

-- ---- what a crash leaves

-- the bytes up to a length are those that were written, and there are no more than were written
pub record Kept (k : ℕ) (written bytes : List ℕ) : Type 0 where
  pub front : take k bytes ≡ take k written
  pub no_shorter : k ≤ length bytes
  pub no_longer : length bytes ≤ length written

-- what a crash may leave of a file whose bytes last up to a length: a file of which nothing lasts
-- may be absent
abbrev pub Tail : ℕ → List ℕ → Option (List ℕ) → Type 0
Tail k written None = k ≡ 0
Tail k written (Some bytes) = Kept k written bytes

-- What a crash leaves: the segment's old sections and perhaps torn bytes behind them, and each
-- other name as it is.
pub record Lasting (files : Files) (leaves : List ℕ → Option (List ℕ) → Type 0) (id : ℕ)
    (old all : List Section) : Type 0 where
  pub others : (name : List ℕ) → (name ≡ segment_name_of 6 id → ⊥) → (left : Option (List ℕ))
      → leaves name left → left ≡ finmap.get files name
  pub tail : (left : Option (List ℕ)) → leaves (segment_name_of 6 id) left
      → Tail (length (segment_bytes id old)) (segment_bytes id all) left

-- Between two calls: the old sections last, and the kept ones stand behind them.
pub record IsAtRest (files : Files) (leaves : List ℕ → Option (List ℕ) → Type 0) (id : ℕ)
    (old kept : List Section) : Type 0 where
  pub stored : IsStored id (old ++ kept)
  pub in_files : IsInFiles files id old kept
  pub lasting : Lasting files leaves id old (old ++ kept)

-- how each name reads where of the segment the old sections alone stand
abbrev pub settled : Files → ℕ → List Section → Reading
settled files id old =
    bytes_at (finmap.insert files (segment_name_of 6 id) (segment_bytes id old))
