-- What is left where the lines of a file were logged by writers of a path over a store.
use Rattle.std.specs.Prelude.{
  ◌≡◌,
  ℕ,
  ◌<◌,
  ◌≤◌,
  ◌^◌,
  false,
  List,
  [],
  ◌∷◌,
  ◌++◌,
  length,
  map,
  Bool,
  Option,
  Some,
  Result,
  Ok,
  Err,
  ⊤,
}
use Rattle.clog_io.specs.Causes.{Rose}
use Rattle.clog_base.specs.declared.sizes.Sizes.{Sizes}
use Rattle.clog_disk.specs.declared.change.Change.{Change}
use Rattle.clog_disk.specs.Files.{Files}
use Rattle.clog_mutation.specs.declared.mutation.Mutation.{Mutation}
use Rattle.clog_table.specs.declared.table_file.TableFile.{TableFile}
use Rattle.clog_words.specs.declared.request.ApplyOptions.{ApplyOptions}
use Rattle.sync_core.specs.declared.SyncCore.{SyncCore}
use Rattle.path_core.specs.declared.keeper.KeeperFault.{KeeperFault}
use Rattle.path_core.specs.declared.keeper.KeeperFault.TheVariants as keeper
use Rattle.clog_applied.specs.Asked.{IsBatch, capacity_of, flushes}
use Rattle.clog_applied.specs.Closed.{IsClosedPath, IsStoreLeft}
use Rattle.clog_applied.specs.History.{LoggedLine, logged_at}
use Rattle.clog_applied.specs.Log.{AreSyncedApart}
use Rattle.clog_applied.specs.Onward.{ReachesNoFurther}
use Rattle.clog_applied.specs.Printed.{AreByLine}
use Rattle.clog_closing.specs.NextNames.{HaveNextNames}
use Rattle.path_core.specs.declared.note.EntryNote.{EntryNote}
use Rattle.write_path.specs.declared.commit.Receipt.{Receipt}
use Rattle.clog_shares.specs.declared.fault.WriteFault.{WriteFault}
use Rattle.clog_shares.specs.declared.fault.WriteFault.TheVariants.{OutOfMemory, Stopped}
use Rattle.clog_writers.specs.Logged.{HoldShares}
use Rattle.clog_writers.specs.Placed.{AreAtTheirLines}

-- The options ask that so many writers log all lines in this mode, and flush at this number of
-- updates or never; the log is synced at the end. Behind it all is drained or nothing, and what is
-- dropped gets its archive name or not.
pub record AsksFor (options : ApplyOptions) (sizes : Sizes) (mode : SyncCore) (flush : Option ℕ)
    (archives drain : Bool) : Type 0 where
  pub writers : options.writers ≡ sizes.writers
  pub sync : options.sync ≡ mode
  pub flush_is : options.flush_at ≡ flush
  pub capacity : capacity_of options ≡ sizes.capacity
  pub drain_is : options.drain ≡ drain
  pub archive_is : options.archive ≡ archives

-- the receipt of a line that is logged
abbrev pub line_receipt : LoggedLine → Receipt
line_receipt w = record { line = w.number; position = logged_at w }

-- the first line, where there is one, stands in the segment of an id
abbrev pub BeginsIn : ℕ → List LoggedLine → Type 0
BeginsIn id [] = ⊤
BeginsIn id (w ∷ ws) = w.id ≡ id

-- All lines were logged: what the path and the store of such a run tell, with the ids of the
-- segments that were dropped and the table files that were put, and the lines' receipts, in the
-- order of the lines.
pub record HasWrittenShares (options : ApplyOptions) (base : ℕ) (opened after : Files)
    (later : List Change) (mutations : List Mutation) (receipts : List Receipt) : Type 0 where
  pub ids : List ℕ
  pub dropped : List ℕ
  pub history : List LoggedLine
  pub files : List TableFile
  pub logged : List LoggedLine
  pub path : IsClosedPath options mutations base history files
  pub store : IsStoreLeft options.archive opened after later ids dropped history files
  pub unflushed : flushes options ≡ false → (dropped ≡ []) × (files ≡ [])
  -- where it begins, and how far it reaches, in ids and in sequences
  pub begins : BeginsIn base history
  pub reach : ReachesNoFurther options base later ids history files
  pub names : HaveNextNames opened after files
  -- in batch mode no section holds two entries of one writer
  pub apart : IsBatch options → AreSyncedApart later history
  pub by_line : AreByLine history (length mutations) logged
  pub receipts_are : receipts ≡ map line_receipt logged

-- All lines were logged in segments from the id of a base on, and these are their receipts, in the
-- order of the lines, whether or not the disk tells anything.
pub record HasReceipts (sizes : Sizes) (base : ℕ) (mutations : List Mutation)
    (receipts : List Receipt) : Type 0 where
  pub low : base < 2 ^ 62
  pub notes : List EntryNote
  pub holds : HoldShares sizes.capacity sizes.writers mutations notes
  pub placed : AreAtTheirLines base notes receipts
  pub long : length receipts ≡ length mutations

-- What the disk tells of it.
pub record TellsWrittenShares (options : ApplyOptions) (base : ℕ) (opened : Files)
    (made : List Change) (told : Option Files) (changes : Option (List Change))
    (mutations : List Mutation) (receipts : List Receipt) : Type 0 where
  pub after : Files
  pub later : List Change
  pub files_are : told ≡ Some after
  pub changes_are : changes ≡ Some (made ++ later)
  pub written : HasWrittenShares options base opened after later mutations receipts

-- Why lines were not all logged, by the disk's counts of faults before and now: it counts one only
-- where it has failed, and then that is told, with these two counts.
abbrev pub HasShareCause : {T : Type 0} → ℕ → ℕ → Result T WriteFault → Type 0
HasShareCause faults now (Ok done) = now ≡ faults
HasShareCause faults now (Err (Stopped at_open counted)) =
    (at_open ≡ faults) × (counted ≡ now) × (faults ≤ now) × Rose faults now
HasShareCause faults now (Err other) = now ≡ faults

-- a keeper's refusal, as one of the lines
abbrev pub refused_as : KeeperFault → WriteFault
refused_as (keeper.Stopped at_open now) = Stopped at_open now
refused_as keeper.OutOfMemory = OutOfMemory
