-- What the keeper shows of the machine.
use Rattle.std.specs.Prelude.{
  ◌≡◌,
  ℕ,
  zero,
  suc,
  Bool,
  true,
  false,
  List,
  [],
  ◌++◌,
  map,
  Option,
  Some,
  None,
  is_some,
}
use Rattle.std.specs.List.{filter}
use Rattle.clog_base.specs.declared.sizes.Sizes.{Sizes}
use Rattle.path_core.specs.declared.note.EntryNote.{EntryNote}
use Rattle.path_core.specs.declared.state.PathState.{PathState}
use Rattle.path_core.specs.Keeper.{Holding, IsFresh, PutFile}
use Rattle.path_core.specs.LawfulLog.{is_at_most}
use Rattle.path_core.specs.Next.{is_between}
use Rattle.path_rule.specs.declared.lasting.Beside.{Beside}
use Rattle.path_rule.specs.declared.lasting.Filed.{Filed}
use Rattle.path_rule.specs.declared.lasting.Lasting.{Lasting}
use Rattle.path_rule.specs.declared.lasting.PutTable.{PutTable}
use Rattle.path_rule.specs.declared.view.PathSize.{PathSize}

-- where entries end
abbrev pub ends : List EntryNote → List ℕ
ends l = map (λ (n : EntryNote). n.end.0) l

-- the count of faults with which a keeper has stopped
abbrev pub stopped_with : Bool → ℕ → Option ℕ
stopped_with true faults = Some faults
stopped_with false faults = None

-- what a keeper has beside its log
abbrev pub beside_of : Holding → Beside
beside_of h = record {
  tables = h.sizes.tables;
  writers = h.sizes.writers;
  archives = h.opening.archives;
  disk = h.opening.disk;
}

-- a table file as a keeper shows it, and as it holds it

abbrev pub put_table : PutFile → PutTable
put_table f = record { table = f.table; lower = f.lower; upper = f.upper; cells = f.cells }

abbrev pub put_file : PutTable → PutFile
put_file f = record { table = f.table; lower = f.lower; upper = f.upper; cells = f.cells }

-- what it has done beside its log
abbrev pub filed_of : Holding → Filed
filed_of h = record {
  files = map put_table h.files;
  refused = is_some h.refused;
  archived = h.archived;
}

-- of one that was just opened
abbrev pub none_filed : Filed
none_filed = record { files = []; refused = false; archived = [] }

-- what a keeper shows by what it holds
abbrev pub lasting_of : Holding → Lasting
lasting_of h = record {
  logged = h.logged;
  synced = h.synced;
  dropped = h.dropped;
  kept = h.kept;
  stopped = stopped_with h.stopped h.faults;
  at_open = h.at_open;
  capacity = h.sizes.capacity;
  ordinals = h.sizes.ordinals;
  base = h.base;
  filed = filed_of h;
  beside = beside_of h;
}

abbrev pub shows_of : {K : Type 0} → (K → Holding) → K → Lasting
shows_of holds k = lasting_of (holds k)

-- the count of faults that the cursor of a stopped log tells
abbrev pub fault_count : ℕ → Option ℕ
fault_count zero = None
fault_count (suc n) = Some (suc n)

-- What it is to show of a state, where it has this beside its log, and its disk had counted so many
-- faults when it was opened. It may have kept the entries of a sync up to a key, which was refused,
-- and it has done this beside its log, and dropped these segments.
abbrev pub shown : Beside → ℕ → ℕ → Filed → List ℕ → PathState → Lasting
shown o opened key filed dropped x = record {
  logged = filter (is_at_most x.synced) x.notes;
  synced = x.synced;
  dropped = dropped;
  kept = filter (is_between x.synced key) x.notes;
  stopped = fault_count x.stopped;
  at_open = opened;
  capacity = x.capacity;
  ordinals = x.ordinals;
  base = x.base;
  filed = filed;
  beside = o;
}

-- at the opening
abbrev pub none_lasting : Beside → PathSize → Lasting
none_lasting o size = record {
  logged = [];
  synced = 0;
  dropped = [];
  kept = [];
  stopped = None;
  at_open = size.at_open;
  capacity = size.capacity;
  ordinals = size.ordinals;
  base = size.base;
  filed = none_filed;
  beside = o;
}

-- a keeper that was just opened, of the table's sizes
abbrev pub IsNew : PathSize → Holding → Type 0
IsNew size h = (sizes : Sizes) × IsFresh size.base sizes h × (sizes.capacity ≡ size.capacity)
    × (sizes.ordinals ≡ size.ordinals) × (h.at_open ≡ size.at_open)
    × (sizes.tables ≡ size.tables)

-- More entries are lasting, up to a key, and none is kept.
abbrev pub more_lasting : List EntryNote → ℕ → Lasting → Lasting
more_lasting more upto l = record l { logged = l.logged ++ more; synced = upto; kept = [] }

-- A sync was refused: these entries are kept, and the keeper has stopped with a count, or not.
abbrev pub refused_lasting : List EntryNote → Option ℕ → Lasting → Lasting
refused_lasting kept stopped l = record l { kept = kept; stopped = stopped }
