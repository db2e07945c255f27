-- A worked row: segment 1000 has an entry of table 0, which ends at 60, and one of table 1, which
-- ends at 92. Files of tables stand for the log from offset 0 to 92.
use Rattle.std.specs.Prelude.{List, [], ◌∷◌, codes}
use Rattle.clog_base.specs.declared.cell.Table.{Table}
use Rattle.clog_mutation.specs.declared.mutation.Mutation.{Mutation}
use Rattle.clog_mutation.specs.declared.mutation.Update.{Update}
use Rattle.clog_mutation.specs.Payload.{payload_of}
use Rattle.clog_scan.specs.Segment.{Entry, entry_from}
use Rattle.clog_table.specs.declared.table_file.TableFile.{TableFile}
use Rattle.clog_crash.specs.Worked.{a_deletion, second_table, the_mutation}

-- the mutation of key `ab`: in table 1 the column `cd` is deleted
abbrev pub the_other_update : Update
the_other_update = record { table = second_table; column = codes "cd"; cell = a_deletion }

abbrev pub the_other_mutation : Mutation
the_other_mutation = record { key = codes "ab"; updates = the_other_update ∷ [] }

abbrev pub the_first_entry : Entry
the_first_entry = entry_from 28 (payload_of the_mutation)

abbrev pub the_second_entry : Entry
the_second_entry = entry_from 60 (payload_of the_other_mutation)

abbrev pub both_entries : List Entry
both_entries = the_first_entry ∷ the_second_entry ∷ []

-- a file of this table from offset 0 to 92 of segment 1000
abbrev pub file_over : Table → TableFile
file_over table = record {
  table = table;
  lower = record { id = 1000; offset = 0 };
  upper = record { id = 1000; offset = 92 };
  cells = [];
}
