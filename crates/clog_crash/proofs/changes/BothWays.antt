-- What files restore is what their reading restores.
use Rattle.std.proofs.Common.{◌≡◌, ℕ, inl, inr, List, refl, sym, ◌∙◌, ap, subst}
use Rattle.std.specs.Prelude.{Contains, ◌↔◌}
use Rattle.clog_spec.specs.Names.{segment_name_of, table_name_of, IsTableName}
use Rattle.clog_base.specs.declared.cell.Cell.{Cell}
use Rattle.clog_base.specs.declared.cell.CellKey.{CellKey}
use Rattle.clog_base.specs.declared.cell.Table.{Table}
use Rattle.clog_base.specs.declared.position.Position.{Position}
use Rattle.clog_base.proofs.Members.{in_map, from_map}
use Rattle.clog_cells.specs.Merge.{IsMergeOf}
use Rattle.clog_cells.proofs.Merging.{of_same}
use Rattle.clog_disk.specs.Files.{Files, bytes_at}
use Rattle.clog_mutation.specs.Payload.{pair_of, cells_of}
use Rattle.clog_scan.specs.Segment.{Entry, IsSegment}
use Rattle.clog_table.specs.declared.table_file.TableFile.{TableFile}
use Rattle.clog_table.specs.Refusals.{IsFileOf}
use Rattle.clog_crash.specs.Folder.{TableRead, IsReadFrom}
use Rattle.clog_crash.specs.Readings.{
  IsLoggedIn,
  IsTableIn,
  IsSkippedIn,
  IsLoggedCellIn,
  RestoresIn,
}
use Rattle.clog_crash.specs.Restore.{
  IsLogged,
  IsInInterval,
  IsSkipped,
  IsLoggedCell,
  IsRestored,
  Restores,
  end_position,
}
use Rattle.clog_crash.proofs.changes.Names.{is_named}
use Rattle.clog_crash.proofs.changes.Nothing.{
  reads_as,
  there_or_nothing,
  none_logged,
  no_table,
}

-- ---- the log

pub logged_in : (files : Files) (id : ℕ) (entry : Entry) → IsLogged files id entry
    → IsLoggedIn (bytes_at files) id entry
logged_in files id entry l =
    let s = l.segment in
    let bytes : bytes_at files (segment_name_of 6 id) ≡ s.bytes =
    ap (bytes_at files) (sym s.named.form) ∙ reads_as files l.name s.bytes s.there in
    record {
      fits = s.named.id_fits;
      entries = l.entries;
      end = l.end;
      holds = subst (λ (b : List ℕ). IsSegment b id l.entries l.end) (sym bytes) s.holds;
      listed = l.listed;
    }

pub logged : (files : Files) (id : ℕ) (entry : Entry) → IsLoggedIn (bytes_at files) id entry
    → IsLogged files id entry
logged files id entry l = elim (there_or_nothing files (segment_name_of 6 id)) [
  | inr none ↦ absurd (none_logged id l.entries l.end (bytes_at files (segment_name_of 6 id)) none
      l.holds entry l.listed)
  | inl there ↦ record {
    name = segment_name_of 6 id;
    entries = l.entries;
    end = l.end;
    segment = record {
      named = is_named id l.fits;
      bytes = bytes_at files (segment_name_of 6 id);
      there = there;
      holds = l.holds;
    };
    listed = l.listed;
  }
]

-- ---- table files

table_in : (files : Files) (read : TableRead) → IsReadFrom files read
    → IsTableIn (bytes_at files) read.file
table_in files read t =
    let name = table_name_of read.file.table.0 read.sequence in
    let bytes : bytes_at files name ≡ t.good.bytes =
    ap (bytes_at files) (sym t.named.form) ∙ reads_as files t.name t.good.bytes t.good.there in
    record {
      sequence = read.sequence;
      named = subst (λ (n : List ℕ). IsTableName n read.file.table.0 read.sequence) t.named.form
          t.named;
      spelled = subst (λ (b : List ℕ). IsFileOf read.file.table b read.file) (sym bytes)
          t.good.spelled;
    }

table : (files : Files) (file : TableFile) → (t : IsTableIn (bytes_at files) file)
    → (read : TableRead) × IsReadFrom files read × (read.file ≡ file)
table files file t =
    let name = table_name_of file.table.0 t.sequence in
    elim (there_or_nothing files name) [
      | inr none ↦ absurd (no_table file.table file (bytes_at files name) none t.spelled)
      | inl there ↦ (
        record { sequence = t.sequence; file = file },
        record {
          name = name;
          named = t.named;
          good = record { bytes = bytes_at files name; there = there; spelled = t.spelled };
        },
        refl,
      )
    ]

pub skipped_in : (files : Files) (at_table : Table) (at : Position) → IsSkipped files at_table at
    → IsSkippedIn (bytes_at files) at_table at
skipped_in files at_table at s = record {
  file = s.read.file;
  there = table_in files s.read s.there;
  same_table = s.same_table;
  inside = s.inside;
}

pub skipped : (files : Files) (at_table : Table) (at : Position)
    → IsSkippedIn (bytes_at files) at_table at → IsSkipped files at_table at
skipped files at_table at s =
    let found = table files s.file s.there in
    record {
      read = found.0;
      there = found.1;
      same_table = ap (λ (f : TableFile). f.table) found.2 ∙ s.same_table;
      inside = subst (λ (f : TableFile). IsInInterval f at) (sym found.2) s.inside;
    }

-- ---- cells

pub cell_in : (files : Files) (pair : CellKey × Cell) → IsLoggedCell files pair
    → IsLoggedCellIn (bytes_at files) pair
cell_in files pair c = record {
  id = c.id;
  entry = c.entry;
  logged = logged_in files c.id c.entry c.logged;
  cell = record {
    mutation = c.mutation;
    said = c.said;
    listed = subst (λ (p : CellKey × Cell). Contains (cells_of c.mutation) p) (sym c.is)
        (in_map (pair_of c.mutation.key) c.mutation.updates c.update c.listed);
  };
  kept = λ s. c.kept (skipped files c.update.table (end_position c.id c.entry)
      (subst (λ (p : CellKey × Cell).
      IsSkippedIn (bytes_at files) p.0.table (end_position c.id c.entry)) c.is s));
}

pub cell : (files : Files) (pair : CellKey × Cell) → IsLoggedCellIn (bytes_at files) pair
    → IsLoggedCell files pair
cell files pair c =
    let m = c.cell.mutation in
    let update = from_map (pair_of m.key) m.updates pair c.cell.listed in
    record {
      id = c.id;
      entry = c.entry;
      logged = logged files c.id c.entry c.logged;
      mutation = m;
      said = c.cell.said;
      update = update.0;
      listed = update.1;
      kept = λ s. c.kept (subst (λ (p : CellKey × Cell).
          IsSkippedIn (bytes_at files) p.0.table (end_position c.id c.entry)) update.2
          (skipped_in files update.0.table (end_position c.id c.entry) s));
      is = sym update.2;
    }

pub cells : (files : Files) (pair : CellKey × Cell)
    → Restores files pair ↔ RestoresIn (bytes_at files) pair
cells files pair = (
  λ restored. elim restored [
    | inl c ↦ inl (record {
      file = c.read.file;
      there = table_in files c.read c.there;
      listed = c.listed;
    })
    | inr c ↦ inr (cell_in files pair c)
  ],
  λ restored. elim restored [
    | inl c ↦
        let found = table files c.file c.there in
        inl (record {
          read = found.0;
          there = found.1;
          listed = subst (λ (f : TableFile). Contains f.cells pair) (sym found.2) c.listed;
        })
    | inr c ↦ inr (cell files pair c)
  ],
)

-- rows are the merge of the one exactly where they are that of the other
pub rows_are : (files : Files) (rows : List (CellKey × Cell))
    → IsRestored files rows ↔ IsMergeOf (RestoresIn (bytes_at files)) rows
rows_are files rows = (
  of_same (Restores files) (RestoresIn (bytes_at files)) rows (cells files),
  of_same (RestoresIn (bytes_at files)) (Restores files) rows
      (λ pair. ((cells files pair).1, (cells files pair).0)),
)
