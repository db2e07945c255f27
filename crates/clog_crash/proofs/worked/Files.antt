-- The segment and the table file of the worked row.
use Rattle.std.proofs.Common.{◌<◌, ◌^◌, ℕ, List, [], ◌∷◌, ◌++◌, inr, refl, arith, codes}
use Rattle.std.specs.Prelude.{IsUtf8}
use Rattle.std.specs.List.Sorted.{IsStrictlySortedBy}
use Rattle.std.proofs.Math.Utf8.{encode}
use Rattle.clog_spec.specs.Names.{segment_name_of, table_name_of}
use Rattle.clog_spec.specs.Segment.{header_bytes, marker_bytes, entry_bytes}
use Rattle.clog_spec.specs.Sizes.{most_tables}
use Rattle.clog_base.specs.declared.cell.Cell.{Cell}
use Rattle.clog_base.specs.declared.cell.CellKey.{CellKey}
use Rattle.clog_base.specs.declared.cell.Table.{Table}
use Rattle.clog_cells.specs.Merge.{AreInOrder}
use Rattle.clog_spec.proofs.Bytes.{append-IsBytes}
use Rattle.clog_spec.proofs.StoredBytes.{header-IsBytes, marker-IsBytes, entry-IsBytes}
use Rattle.clog_mutation.specs.Payload.{payload_of}
use Rattle.clog_mutation.specs.Stored.{IsStored}
use Rattle.clog_scan.specs.declared.answer.End.TheVariants.{Clean}
use Rattle.clog_scan.specs.Laws.{IsFile}
use Rattle.clog_scan.specs.Segment.{Entry, entry_from, IsSegment}
use Rattle.clog_scan.proofs.Written.{written}
use Rattle.clog_table.specs.Limits.{IsTableFile}
use Rattle.clog_crash.specs.Worked.{
  filed,
  first_table,
  second_table,
  logged,
  the_file,
  the_mutation,
  the_segment,
}
use Rattle.clog_crash.proofs.Payloads.{of_payload}

abbrev pub segment_name : List ℕ
segment_name = segment_name_of 6 1000

-- the name of the first file of this table
abbrev pub table_name : Table → List ℕ
table_name table = table_name_of table.0 1

pub ab : IsUtf8 (codes "ab")
unfolding encode
ab = (97 ∷ 98 ∷ [], (refl, refl))

pub aa : IsUtf8 (codes "aa")
unfolding encode
aa = (97 ∷ 97 ∷ [], (refl, refl))

pub cd : IsUtf8 (codes "cd")
unfolding encode
cd = (99 ∷ 100 ∷ [], (refl, refl))

pub stored : IsStored the_mutation
stored = record {
  key = record { size = record { some = omega arith; few = omega arith }; utf8 = ab };
  some = omega arith;
  few = omega arith;
  updates = (
    record {
      table = omega arith;
      column = record { size = record { some = omega arith; few = omega arith }; utf8 = cd };
      ts = record { sfits = omega arith };
      value = refl;
    },
    tt,
  );
}

pub is_segment_file : IsFile the_segment
is_segment_file = record {
  are_bytes = append-IsBytes (header_bytes 1000 ++ marker_bytes 1000 20 60)
      (entry_bytes (payload_of the_mutation))
      (append-IsBytes (header_bytes 1000) (marker_bytes 1000 20 60) (header-IsBytes 1000)
      (marker-IsBytes 1000 20 60))
      (entry-IsBytes (payload_of the_mutation) (of_payload the_mutation stored));
  short = omega arith;
}

abbrev pub the_entry : Entry
the_entry = entry_from 28 (payload_of the_mutation)

pub held : IsSegment the_segment 1000 (the_entry ∷ []) (Clean 60)
held =
    written the_segment 1000
    (record { until = 60; payloads = payload_of the_mutation ∷ [] } ∷ []) is_segment_file refl (
      record {
        behind = omega arith;
        within = omega arith;
        fits = omega arith;
        least = (omega arith, tt);
      },
      refl,
      tt,
    )

pub one_in_order : (pair : CellKey × Cell) → AreInOrder (pair ∷ [])
unfolding IsStrictlySortedBy
one_in_order pair = (tt, tt)

pub filed_before_logged : AreInOrder (filed first_table ∷ logged ∷ [])
unfolding IsStrictlySortedBy
filed_before_logged = ((refl, tt), (tt, tt))

pub logged_before_filed : AreInOrder (logged ∷ filed second_table ∷ [])
unfolding IsStrictlySortedBy
logged_before_filed = ((refl, tt), (tt, tt))

pub is_file : (table : Table) (upper : ℕ) → table.0 < most_tables → upper < 2 ^ 32
    → IsTableFile (the_file table upper)
is_file table upper few fits = record {
  table = few;
  lower = record { id = omega arith; offset = omega arith };
  upper = record { id = omega arith; offset = omega (arith, fits) };
  interval = inr (refl, omega arith);
  stored = (
    record {
      same_table = refl;
      key = record { size = record { some = omega arith; few = omega arith }; utf8 = aa };
      column = record { size = record { some = omega arith; few = omega arith }; utf8 = cd };
      ts = record { sfits = omega arith };
      value = refl;
    },
    tt,
  );
  map = record { ordered = one_in_order (filed table); few = omega arith };
}
