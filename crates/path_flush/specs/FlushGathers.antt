-- What a flush has gathered of a memtable.
use Rattle.std.specs.Prelude.{
  ◌≡◌,
  ◌≢◌,
  ℕ,
  Bool,
  true,
  false,
  List,
  [],
  Option,
  Some,
  None,
  Result,
  Ok,
  Err,
}
use Rattle.clog_base.specs.declared.cell.Cell.{Cell}
use Rattle.clog_base.specs.declared.cell.CellKey.{CellKey}
use Rattle.clog_base.specs.declared.cell.Table.{Table}
use Rattle.clog_cells.specs.Batches.{WerePut}
use Rattle.clog_cells.specs.Merge.{IsMerge}
use Rattle.clog_cells.specs.declared.batches.CellBatches.{CellBatches}
use Rattle.clog_memtable.specs.Gathering.{IsGathered}
use Rattle.path_core.specs.declared.note.EntryNote.{EntryNote}
use Rattle.path_rule.specs.declared.view.FlushRead.{FlushRead}
use Rattle.path_rule.specs.declared.view.Hands.{Hands}
use Rattle.path_rule.specs.FilingTold.{AreSeen, SeesAll}
use Rattle.path_rule.specs.Flushes.{SeesNone}
use Rattle.path_flush.specs.declared.flush_gathering.Gathered.{Gathered}
use Rattle.path_flush.specs.declared.flush_gathering.Gathered.TheVariants.{
  Nothing,
  Cells,
  OutOfMemory,
}

-- these are some entries, or none
abbrev pub AreSome : Bool → List EntryNote → Type 0
AreSome true notes = notes ≢ []
AreSome false notes = notes ≡ []

-- These are the cells of a table in what it has read, which is something, or nothing.
abbrev pub HoldsGathered : Table → CellBatches → Bool → Hands → Type 0
HoldsGathered table cells some h = (q : FlushRead) → h.reading ≡ Some q
    → IsGathered table q.seen cells × AreSome some q.seen

-- It reads memtable m of a table, which is not retired, and has no box in hand.
abbrev pub ReadsIt : ℕ → ℕ → Hands → FlushRead → Type 0
ReadsIt t m h q = (h.reading ≡ Some q) × (q.table ≡ t) × (q.memtable ≡ m) × (q.taken ≡ None)
    × (q.retired ≡ false)

-- The boxes of all seats of a memtable were seen: these are the cells in them, and something lay
-- there or not. Or memory was refused, and no box is in hand.
abbrev pub HasGatheredAll : ℕ → Table → ℕ → CellBatches → Option Bool → Hands → Type 0
HasGatheredAll seats table m cells None h = (q : FlushRead) × ReadsIt table.0 m h q
HasGatheredAll seats table m cells (Some some) h = (q : FlushRead) × SeesAll seats h table.0 m q
    × IsGathered table q.seen cells × AreSome some q.seen

-- the same by what is gathered
abbrev pub HasGathered : ℕ → Table → ℕ → Gathered → Hands → Type 0
HasGathered seats table m Nothing h = SeesNone seats h table.0 m
HasGathered seats table m (Cells cells) h = (q : FlushRead) × SeesAll seats h table.0 m q
    × (q.seen ≢ []) × AreSeen q table.0 cells
HasGathered seats table m OutOfMemory h = (q : FlushRead) × ReadsIt table.0 m h q

-- what is answered behind a box: whether something was found, unless memory was refused
abbrev pub told_some : {T E : Type 0} → Result T E → Bool → Option Bool
told_some (Ok done) some = Some some
told_some (Err fault) some = None

-- What is gathered, by whether something was found: the merge of the cells that were put, unless
-- memory is refused for it.
abbrev pub IsMadeOf : Option Bool → CellBatches → Gathered → Type 0
IsMadeOf (Some true) cells (Cells merged) =
    (put : List (CellKey × Cell)) → WerePut put cells → IsMerge put merged
IsMadeOf (Some true) cells Nothing = ⊥
IsMadeOf (Some true) cells OutOfMemory = Unit {0}
IsMadeOf (Some false) cells gathered = gathered ≡ Nothing
IsMadeOf None cells gathered = gathered ≡ OutOfMemory
