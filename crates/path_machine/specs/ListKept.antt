-- What a keeper over lists holds.
use Rattle.std.specs.Prelude.{ℕ, List, [], map, None, false}
use base.Stored.{gnil}
use Rattle.clog_base.specs.declared.sizes.Sizes.{Sizes}
use Rattle.path_core.specs.declared.note.EntryNote.{EntryNote}
use Rattle.path_core.specs.Keeper.{Holding, PutFile}
use Rattle.path_machine.specs.declared.list_keeper.ListFile.{ListFile}

abbrev pub put_file : ListFile → PutFile
put_file f = record {
  table = f.table.0;
  lower = f.lower.0;
  upper = f.upper.0;
  cells = f.cells;
}

-- It has no disk: it counts no fault, and never stops.
abbrev pub listed : ℕ → Sizes → ℕ → List EntryNote → List ListFile → Holding
listed base sizes synced logged files = record {
  base = base;
  sizes = sizes;
  opening = record {
    archives = false;
    disk = gnil;
    moment = 0;
    reads = None;
    changes = None;
  };
  at_open = 0;
  faults = 0;
  stopped = false;
  synced = synced;
  logged = logged;
  kept = [];
  files = map put_file files;
  refused = None;
  dropped = [];
  archived = [];
}
