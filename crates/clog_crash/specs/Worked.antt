-- A worked row: a folder with a segment that has one entry, and a table file whose interval ends
-- where the entry does, or one byte before. The file is of the entry's table, or of another.
use Rattle.std.specs.Prelude.{ℕ, pos, List, [], ◌∷◌, ◌++◌, codes}
use Rattle.std.specs.FinMap as finmap
use Rattle.clog_spec.specs.Names.{segment_name_of, table_name_of}
use Rattle.clog_spec.specs.Segment.{header_bytes, marker_bytes, entry_bytes}
use Rattle.clog_base.specs.declared.cell.Cell.{Cell}
use Rattle.clog_base.specs.declared.cell.CellKey.{CellKey}
use Rattle.clog_base.specs.declared.cell.Kind.TheVariants.{Deletion}
use Rattle.clog_base.specs.declared.cell.Table.{Table}
use Rattle.clog_disk.specs.Files.{Files, no_files}
use Rattle.clog_mutation.specs.declared.mutation.Mutation.{Mutation}
use Rattle.clog_mutation.specs.Payload.{payload_of}
use Rattle.clog_table.specs.declared.table_file.TableFile.{TableFile}
use Rattle.clog_table.specs.Format.{table_file_bytes}

abbrev pub first_table : Table
first_table = record { 0 = 0 }

abbrev pub second_table : Table
second_table = record { 0 = 1 }

abbrev pub a_deletion : Cell
a_deletion = record { ts = pos 5; kind = Deletion; value = [] }

-- the mutation of key `ab`: in table 0 the column `cd` is deleted
abbrev pub the_mutation : Mutation
the_mutation = record {
  key = codes "ab";
  updates = record { table = first_table; column = codes "cd"; cell = a_deletion } ∷ [];
}

-- The segment 1000. Its one entry, of 32 bytes, ends at 60.
abbrev pub the_segment : List ℕ
the_segment = header_bytes 1000 ++ marker_bytes 1000 20 60 ++ entry_bytes (payload_of the_mutation)

-- the cell that a file of this table has, and that of the log
abbrev pub filed : Table → CellKey × Cell
filed table = (record { table = table; key = codes "aa"; column = codes "cd" }, a_deletion)

abbrev pub logged : CellKey × Cell
logged = (record { table = first_table; key = codes "ab"; column = codes "cd" }, a_deletion)

-- a file of this table with a cell of key `aa`; it stands for all of the table's log up to this
-- offset of segment 1000
abbrev pub the_file : Table → ℕ → TableFile
the_file table upper = record {
  table = table;
  lower = record { id = 1000; offset = 0 };
  upper = record { id = 1000; offset = upper };
  cells = filed table ∷ [];
}

abbrev pub the_folder : Table → ℕ → Files
the_folder table upper =
    finmap.insert
    (finmap.insert no_files (segment_name_of 6 1000) the_segment)
    (table_name_of table.0 1) (table_file_bytes (the_file table upper))
