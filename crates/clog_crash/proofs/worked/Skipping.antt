-- Whether the interval of the table file holds the entry's end, in the folder of the worked row.
use Rattle.std.proofs.Common.{◌≡◌, ◌<◌, ℕ, [], ◌∷◌, inl, inr, refl, sym, ap, subst, ◌∙◌, arith}
use Rattle.std.specs.FinMap as finmap
use Rattle.clog_spec.specs.Sizes.{most_tables}
use Rattle.clog_base.proofs.NameLaws.{segment_is_no_other}
use Rattle.clog_base.specs.declared.cell.Cell.{Cell}
use Rattle.clog_base.specs.declared.cell.CellKey.{CellKey}
use Rattle.clog_base.specs.declared.cell.Table.{Table}
use Rattle.clog_base.specs.declared.position.Position.{Position}
use Rattle.clog_disk.specs.Files.{no_files}
use Rattle.clog_mutation.specs.declared.mutation.Update.{Update}
use Rattle.clog_scan.specs.declared.answer.End.TheVariants.{Clean}
use Rattle.clog_scan.specs.Segment.{Entry}
use Rattle.clog_table.specs.declared.table_file.TableFile.{TableFile}
use Rattle.clog_table.specs.Format.{table_file_bytes}
use Rattle.clog_crash.specs.Restore.{IsInInterval, IsLogged, IsLoggedCell, IsSkipped}
use Rattle.clog_crash.specs.Worked.{
  first_table,
  second_table,
  logged,
  the_file,
  the_folder,
  the_mutation,
  the_segment,
}
use Rattle.clog_base.proofs.Members.{here}
use Rattle.clog_disk.proofs.Named.{put_here}
use Rattle.clog_crash.proofs.OneMore.{stays}
use Rattle.clog_crash.proofs.worked.Files.{
  held,
  segment_name,
  stored,
  table_name,
  the_entry,
}
use Rattle.clog_crash.proofs.worked.Folder.{is_read, named_segment, named_table, read_is, the_read}
use Rattle.clog_crash.proofs.worked.Cells.{
  the_update,
  update_is,
}

-- ---- whether the interval holds its end

abbrev pub its_end : Position
its_end = record { id = 1000; offset = 60 }

pub is_skipped : IsSkipped (the_folder first_table 60) first_table its_end
is_skipped = record {
  read = the_read first_table 60;
  there = is_read first_table 60 (omega arith) (omega arith);
  same_table = refl;
  inside = record { above = inr (refl, omega arith); up_to = inr (refl, omega arith) };
}

pub not_kept : (pair : CellKey × Cell) → IsLoggedCell (the_folder first_table 60) pair → ⊥
not_kept pair c =
    let u = update_is first_table 60 pair (omega arith) c in
    c.kept
    (subst (λ (i : ℕ).
    IsSkipped (the_folder first_table 60) c.update.table
    (record { id = i; offset = c.entry.end })) u.0
    (subst (λ (e : Entry).
    IsSkipped (the_folder first_table 60) c.update.table
    (record { id = 1000; offset = e.end })) u.1
    (subst (λ (v : Update). IsSkipped (the_folder first_table 60) v.table its_end) u.3
    is_skipped)))

pub not_skipped : IsSkipped (the_folder first_table 59) first_table its_end → ⊥
not_skipped s =
    let inside : IsInInterval (the_file first_table 59) its_end =
    subst (λ (f : TableFile). IsInInterval f its_end)
    (sym (read_is first_table 59 (omega arith) (omega arith) s.read s.there)) s.inside in
    elim inside.up_to [
      | inl less ↦ omega (arith, less)
      | inr level ↦ omega (arith, level.1)
    ]

-- the one file that is there is of another table
pub not_skipped_by_another : IsSkipped (the_folder second_table 60) first_table its_end → ⊥
not_skipped_by_another s =
    let read = read_is second_table 60 (omega arith) (omega arith) s.read s.there in
    let tables : 1 ≡ 0 =
    ap (λ (f : TableFile). f.table.0) read ∙ ap (λ (t : Table). t.0) s.same_table in
    omega (arith, tables)

pub apart : (table : Table) → table.0 < most_tables → segment_name ≡ table_name table → ⊥
apart table few same =
    (segment_is_no_other segment_name 6 1000 named_segment).1 table.0 1
    (named_table table segment_name few same)

pub is_logged_entry : (table : Table) (upper : ℕ) → table.0 < most_tables
    → IsLogged (the_folder table upper) 1000 the_entry
is_logged_entry table upper few = record {
  name = segment_name;
  entries = the_entry ∷ [];
  end = Clean 60;
  segment = record {
    named = named_segment;
    bytes = the_segment;
    there = stays (finmap.insert no_files segment_name the_segment) (table_name table)
        (table_file_bytes (the_file table upper)) segment_name the_segment (apart table few)
        (put_here no_files segment_name the_segment);
    holds = held;
  };
  listed = here the_entry [];
}

pub is_logged : (table : Table) (upper : ℕ) → table.0 < most_tables
    → ¬ IsSkipped (the_folder table upper) first_table its_end
    → IsLoggedCell (the_folder table upper) logged
is_logged table upper few not_skipped = record {
  id = 1000;
  entry = the_entry;
  logged = is_logged_entry table upper few;
  mutation = the_mutation;
  said = record { stored = stored; spelled = refl };
  update = the_update;
  listed = here the_update [];
  kept = not_skipped;
  is = refl;
}
