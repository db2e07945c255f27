-- What archived segments hold. No opening reads them, and what a folder restores to takes no note
-- of them.
use Rattle.std.specs.Prelude.{◌≡◌, ℕ, List, Contains, Some}
use Rattle.std.specs.FinMap as finmap
use Rattle.clog_spec.specs.Names.{IsArchiveName}
use Rattle.clog_disk.specs.Files.{Files}
use Rattle.clog_scan.specs.declared.answer.End.{End}
use Rattle.clog_scan.specs.Segment.{Entry, IsSegment}

-- the entry is one of the archived segment of this id
pub record IsArchived (files : Files) (id : ℕ) (entry : Entry) : Type 0 where
  pub name : List ℕ
  pub named : IsArchiveName name id
  pub bytes : List ℕ
  pub there : finmap.get files name ≡ Some bytes
  pub entries : List Entry
  pub end : End
  pub holds : IsSegment bytes id entries end
  pub listed : Contains entries entry
