-- What is read of a segment in pieces: its entries, one after another, as items.
use Rattle.std.specs.Prelude.{◌≡◌, ℕ, ◌≤◌, List, ◌++◌, length, map, Contains, Option, ⊤, IfSome}
use Rattle.std.specs.Prelude.{Some, Result}
use Rattle.std.specs.declared.result.Result.TheVariants as result
use Rattle.std.specs.FinMap as finmap
use Rattle.clog_spec.specs.Crc.{IsBytes}
use Rattle.clog_spec.specs.Sizes.{file_limit}
use Rattle.clog_io.specs.Causes.{Rose}
use Rattle.clog_disk.specs.Files.{Files}
use Rattle.clog_scan.specs.declared.answer.End.{End}
use Rattle.clog_scan.specs.declared.scanner.Scanner.{Scanner}
use Rattle.clog_scan.specs.declared.whole.Whole.{Whole}
use Rattle.clog_scan.specs.Laws.{IsFile}
use Rattle.clog_scan.specs.Segment.{Entry, IsSegment}
use Rattle.clog_scan.specs.Walks.{Feeds, HasScanned}
use Rattle.clog_folder.specs.declared.fault.OpenFault.{OpenFault}
use Rattle.clog_folder.specs.declared.fault.OpenFault.TheVariants.{Disk, OutOfMemory}
use Rattle.replay_merge.specs.Entries.{Entry as Item}

-- the entry of an item
abbrev pub entry_in : Item → Entry
entry_in e = record { start = e.start; end = e.end; payload = e.payload }

-- The file is there under the name, has no more bytes than a segment may have, and is the segment
-- of an id: its entries are these items, in their order, and it ends so.
pub record IsReadOf (files : Files) (name : List ℕ) (id : ℕ) (items : List Item) (end : End)
    : Type 0 where
  pub file : List ℕ
  pub there : finmap.get files name ≡ Some file
  pub short : length file ≤ file_limit
  pub is_file : IsFile file
  pub segment : IsSegment file id (map entry_in items) end
  pub ids : (e : Item) → Contains items e → e.id ≡ id

-- ---- for private clauses

-- what a segment's file gives, or why it is not read
abbrev pub Streams : Option Files → ℕ → ℕ → List ℕ → ℕ → List Item → Result End OpenFault → Type 0
Streams files faults now name id items (result.Ok end) =
    IfSome files (λ held. IsReadOf held name id items end)
Streams files faults now name id items (result.Err Disk) = Rose faults now
Streams files faults now name id items (result.Err OutOfMemory) = ⊤
Streams files faults now name id items (result.Err other) = ⊥

-- so far these bytes of the file were read, and these items were given
pub record StreamsSo (files : Files) (name : List ℕ) (len : ℕ) (scanner : Scanner)
    (items : List Item) : Type 0 where
  pub file : List ℕ
  pub front : List ℕ
  pub rest : List ℕ
  pub there : finmap.get files name ≡ Some file
  pub size : len ≡ length file
  pub parts : file ≡ front ++ rest
  pub are_bytes : IsBytes front
  pub fed : scanner.fed ≡ length front
  pub scanned : IsFile file → HasScanned file scanner (map entry_in items)
  pub ids : (e : Item) → Contains items e → e.id ≡ scanner.id

-- where the files are told
abbrev pub HasStreamed : Option Files → List ℕ → ℕ → Scanner → List Item → Type 0
HasStreamed files name len scanner items =
    IfSome files (λ held. StreamsSo held name len scanner items)

-- a piece of bytes was fed
pub record FeedsBytes (old new : Scanner) (piece : List ℕ) (wholes : List Whole) : Type 0 where
  pub feeds : Feeds old new piece wholes
  pub bytes : IsBytes piece
