-- Table files: what each holds, which segments may go once they are put, and what the machine shows
-- of both.
use Rattle.std.specs.Prelude.{
  ◌≡◌,
  ◌⊎◌,
  ℕ,
  zero,
  suc,
  ◌+◌,
  ◌<◌,
  ◌≤◌,
  ◌==◌,
  true,
  false,
  List,
  [],
  ◌∷◌,
  ◌++◌,
  length,
  map,
  if◌then◌else◌,
  IsTrue,
}
use Rattle.std.specs.List.{Contains}
use Rattle.clog_base.specs.declared.cell.Cell.{Cell}
use Rattle.clog_base.specs.declared.cell.CellKey.{CellKey}
use Rattle.clog_cells.specs.Merge.{IsMergeOf}
use Rattle.clog_mutation.specs.Payload.{cells_of}
use Rattle.path_core.specs.declared.note.EntryNote.{EntryNote}
use Rattle.path_core.specs.declared.state.PathState.{PathState}
use Rattle.path_core.specs.declared.state.WrittenFile.{WrittenFile}
use Rattle.path_core.specs.Droppable.{IsDroppable, is_of}
use Rattle.path_core.specs.Keeper.{Holding, MayPublish}
use Rattle.path_core.specs.Keys.{ordinal_of}
use Rattle.path_core.specs.Next.{has_filed}
use Rattle.path_core.specs.Parts.{seat_of, table_of}
use Rattle.path_core.specs.Whole.{IsWhole}
use Rattle.path_rule.specs.declared.lasting.Beside.{Beside}
use Rattle.path_rule.specs.declared.lasting.Filed.{Filed}
use Rattle.path_rule.specs.declared.lasting.Lasting.{Lasting}
use Rattle.path_rule.specs.declared.lasting.PutTable.{PutTable}
use Rattle.path_rule.specs.declared.view.PathSize.{PathSize}
use Rattle.path_rule.specs.Lasts.{lasting_of, none_filed, put_file}

-- ---- what a file holds

-- A cell of a table in an entry among notes.
pub record IsCellIn (notes : List EntryNote) (t : ℕ) (pair : CellKey × Cell) : Type 0 where
  pub note : EntryNote
  pub among : Contains notes note
  pub whole : IsWhole note
  pub listed : Contains (cells_of whole.mutation) pair
  pub of_table : pair.0.table.0 ≡ t

-- In one that ends above one key and not above another.
pub record IsCellBetween (notes : List EntryNote) (t lower upper : ℕ) (pair : CellKey × Cell)
    : Type 0 where
  pub note : EntryNote
  pub among : Contains notes note
  pub whole : IsWhole note
  pub listed : Contains (cells_of whole.mutation) pair
  pub of_table : pair.0.table.0 ≡ t
  pub above : lower < note.end.0
  pub up_to : note.end.0 ≤ upper

-- its cells are the merge of what notes have in its interval
abbrev pub IsFileOf : List EntryNote → PutTable → Type 0
IsFileOf notes f = IsMergeOf (IsCellBetween notes f.table f.lower f.upper) f.cells

-- ---- which interval it stands for

-- the table of a file, and its interval
abbrev pub put_range : PutTable → ℕ × (ℕ × ℕ)
put_range f = (f.table, (f.lower, f.upper))

abbrev pub file_range : WrittenFile → ℕ × (ℕ × ℕ)
file_range f = (f.table, (f.lower, f.upper))

-- the upper key of a table's last file, a key where there is none
abbrev pub upper_after : ℕ → ℕ → List PutTable → ℕ
upper_after t key [] = key
upper_after t key (f ∷ fs) = upper_after t (if f.table == t then f.upper else key) fs

-- the same, 0 where there is none
abbrev pub upper_of : ℕ → List PutTable → ℕ
upper_of t files = upper_after t 0 files

-- ---- which segments may go

-- the key lies in the interval of a file of the table
pub record IsPutIn (files : List PutTable) (t key : ℕ) : Type 0 where
  pub file : PutTable
  pub among : Contains files file
  pub of_table : file.table ≡ t
  pub above : file.lower < key
  pub up_to : key ≤ file.upper

-- By what a keeper shows a segment may go: it has an entry that is lasting, none that is kept, and
-- for each table each key from one to another of the ends of its entries that touch the table lies
-- in the table's files.
pub record MayGo (l : Lasting) (o : ℕ) : Type 0 where
  pub note : EntryNote
  pub among : Contains l.logged note
  pub here : ordinal_of note.start.0 ≡ o
  pub none_kept : (n : EntryNote) → Contains l.kept n → ordinal_of n.start.0 ≡ o → ⊥
  pub filed : (t : ℕ) (a b : EntryNote) → Contains l.logged a → Contains l.logged b
      → IsTrue (is_of o t a) → IsTrue (is_of o t b)
      → (key : ℕ) → a.end.0 ≤ key → key ≤ b.end.0 → IsPutIn l.filed.files t key

-- The keeper of a seat that has filed a memtable while it holds the Sync turn may have dropped the
-- segment: it is droppable, and below that of the synced key.
pub record IsGoing (x : PathState) (o : ℕ) : Type 0 where
  pub by : ℕ
  pub filed : has_filed (seat_of x by) ≡ true
  pub droppable : IsDroppable x o
  pub below : o < ordinal_of x.synced

-- ---- the rule

-- how many memtables of the first tables are retired
abbrev pub retired_in : PathState → ℕ → ℕ
retired_in x zero = 0
retired_in x (suc t) = retired_in x t + (table_of x t).oldest_live

-- What a keeper that has this beside its log has filed and dropped is what the state has: its files
-- stand for the same intervals, each holds what the state's notes have in its own, and what it
-- dropped is dropped, or is when the Sync turn is given back. There are no more files than retired
-- memtables. Where memtables may not go to files, nothing is filed or dropped. A keeper that gives
-- no archive names has given none; one that gives them has given each segment that it dropped its
-- own. Each is of a segment that is droppable, below that of the synced key.
pub record HasFiled (o : Beside) (size : PathSize) (x : PathState) (filed : Filed)
    (dropped : List ℕ) : Type 0 where
  pub ranged : map put_range filed.files ≡ map file_range x.files
  pub merged : (f : PutTable) → Contains filed.files f → IsFileOf x.notes f
  pub gone : (n : ℕ) → Contains dropped n → Contains x.dropped n ⊎ IsGoing x n
  pub few : length x.files ≤ retired_in x 16
  pub plain : size.files ≡ false → (x.files ≡ []) × (filed ≡ none_filed) × (dropped ≡ [])
  pub none_archived : o.archives ≡ false → filed.archived ≡ []
  pub all_archived : o.archives ≡ true → (n : ℕ) → Contains dropped n → Contains filed.archived n
  pub archived_may : (n : ℕ) → Contains filed.archived n
      → IsDroppable x n × (n < ordinal_of x.synced)

-- ---- what a keeper may be asked

-- A keeper that shows this may put such a file.
abbrev pub MayPut : Lasting → PutTable → Type 0
MayPut lasting f = (h : Holding) → lasting_of h ≡ lasting → MayPublish h (put_file f)

-- ---- what a keeper shows then

-- The file is put behind the others.
abbrev pub more_filed : PutTable → Lasting → Lasting
more_filed f l = record l {
  filed = record l.filed { files = l.filed.files ++ f ∷ []; refused = false };
}
