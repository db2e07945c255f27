-- Worked rows: what a keeper holds that has made one entry of table 0 lasting, which ends at 60.
-- Its log goes on at 68, behind the marker of the sync. It has put table files, and dropped its
-- segment.
use Rattle.std.specs.Prelude.{◌≡◌, ℕ, Bool, false, if◌then◌else◌, List, [], ◌∷◌, None}
use base.Stored.{Gv}
use Rattle.clog_base.specs.declared.sizes.Sizes.{Sizes}
use Rattle.clog_crash.specs.Worked.{logged}
use Rattle.path_core.specs.Keeper.{Holding, PutFile}
use Rattle.clog_segments.specs.Notes.{note_at}

-- What the rows leave open: its sizes, but that its segments have 4096 bytes; its disk; and whether
-- segments get an archive name.
pub record Setting : Type 0 where
  pub sizes : Sizes
  pub capacity_is : sizes.capacity ≡ 4096
  pub disk : Gv
  pub archives : Bool

-- with these files, and segments that were dropped and got their archive names
abbrev pub keeper_with : Setting → List PutFile → List ℕ → List ℕ → Holding
keeper_with at files dropped archived = record {
  base = 1000;
  sizes = at.sizes;
  opening = record {
    archives = at.archives;
    disk = at.disk;
    moment = 0;
    reads = None;
    changes = None;
  };
  at_open = 0;
  faults = 0;
  stopped = false;
  synced = 60;
  logged = note_at 28 ∷ [];
  kept = [];
  files = files;
  refused = None;
  dropped = dropped;
  archived = archived;
}

-- with these files, where its segment is there still
abbrev pub with_files : Setting → List PutFile → Holding
with_files at files = keeper_with at files [] []

-- and where it has gone, under its archive name where segments get one
abbrev pub once_gone : Setting → List PutFile → Holding
once_gone at files = keeper_with at files (0 ∷ []) (if at.archives then 0 ∷ [] else [])

-- a file of table 0 from one key to another, with the entry's cell
abbrev pub file_between : ℕ → ℕ → PutFile
file_between lower upper = record {
  table = 0;
  lower = lower;
  upper = upper;
  cells = logged ∷ [];
}

-- from the beginning of the log on
abbrev pub file_to : ℕ → PutFile
file_to upper = file_between 0 upper

-- a file of a table up to the entry's end that has no cells
abbrev pub file_without : ℕ → PutFile
file_without table = record { table = table; lower = 0; upper = 60; cells = [] }
