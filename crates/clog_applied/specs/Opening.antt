-- What a run's opening makes of a folder: no segment is left of it, it restores what it did, and
-- what came are table files of its own log.
use Rattle.std.specs.Prelude.{◌≡◌, ℕ, List, Contains, Some, None}
use Rattle.std.specs.FinMap as finmap
use Rattle.clog_spec.specs.Names.{segment_name_of}
use Rattle.clog_disk.specs.declared.change.Change.{Change}
use Rattle.clog_disk.specs.declared.change.Change.TheVariants as change
use Rattle.clog_disk.specs.Files.{Files, bytes_at}
use Rattle.clog_table.specs.declared.table_file.TableFile.{TableFile}
use Rattle.clog_crash.specs.Flush.{IsSameFolder}
use Rattle.clog_crash.specs.Folder.{HasSegmentFile, HasSegmentOf}
use Rattle.clog_crash.specs.Recovery.{IsRecoveryFile}
use Rattle.clog_applied.specs.Early.{SaysFile}
use Rattle.clog_applied.specs.Filed.{IsAbove, KeepsOthers}

-- these are a name and bytes of a table file that stands for the log of before
pub record SaysRecovered (before : Files) (name bytes : List ℕ) : Type 0 where
  pub file : TableFile
  pub says : SaysFile name bytes file
  pub recovers : IsRecoveryFile (bytes_at before) file

-- such a file comes, or a segment of before goes
abbrev pub IsRecoveryChange : Files → Change → Type 0
IsRecoveryChange before (change.Append name bytes) = ⊥
IsRecoveryChange before (change.Publish name bytes) = SaysRecovered before name bytes
IsRecoveryChange before (change.Link old new) = ⊥
IsRecoveryChange before (change.Remove name) =
    (id : ℕ) × (name ≡ segment_name_of 6 id) × HasSegmentOf before id

-- A folder was opened, by these changes, with the base of a run. It restores what it did, without
-- damage, and has no segment. All else stands, and what came stands for the log of before. The base
-- is above each id that the folder named.
pub record IsOpening (before opened : Files) (recovery : List Change) (base : ℕ) : Type 0 where
  pub same : IsSameFolder before opened
  pub no_segment : ¬ HasSegmentFile opened
  pub others : KeepsOthers before opened
  pub came : (name bytes : List ℕ) → finmap.get opened name ≡ Some bytes
      → finmap.get before name ≡ None → SaysRecovered before name bytes
  pub base_above : IsAbove before base
  pub changes : (c : Change) → Contains recovery c → IsRecoveryChange before c
