-- What stands in the folder of the worked row, as a name and as a table file.
use Rattle.std.proofs.Common.{
  ◌≡◌,
  ◌⊎◌,
  ◌<◌,
  ◌^◌,
  ℕ,
  List,
  Some,
  inl,
  inr,
  refl,
  sym,
  ap,
  ◌∙◌,
  arith,
}
use Rattle.std.specs.FinMap as finmap
use Rattle.std.specs.FinMap.{get-empty}
use Rattle.std.specs.Cmp.Lexicographic.{slice_cmp}
use Rattle.std.specs.Ordering.{nat_cmp}
use Rattle.clog_spec.specs.Names.{IsSegmentName, IsTableName}
use Rattle.clog_spec.specs.Sizes.{most_tables}
use Rattle.clog_base.proofs.NameLaws.{one_table, segment_is_no_other}
use Rattle.clog_base.specs.declared.cell.Table.{Table}
use Rattle.clog_disk.specs.Files.{no_files}
use Rattle.clog_table.specs.Format.{table_file_bytes}
use Rattle.clog_crash.specs.Folder.{TableRead, IsReadFrom}
use Rattle.clog_crash.specs.Worked.{the_file, the_folder, the_segment}
use Rattle.clog_disk.proofs.Named.{put_here}
use Rattle.clog_crash.proofs.OneMore.{new_or_old, some_is}
use Rattle.clog_table.proofs.Again.{one_table_file}
use Rattle.clog_crash.proofs.worked.Files.{
  is_file,
  segment_name,
  table_name,
}
use Rattle.std.proofs.lemmas.Option.{none-some}

pub named_segment : IsSegmentName segment_name 6 1000
named_segment = record { form = refl; version_fits = omega arith; id_fits = omega arith }

-- what stands in the folder is one of the two files
pub stands : (table : Table) (upper : ℕ) (name bytes : List ℕ)
    → finmap.get (the_folder table upper) name ≡ Some bytes
    → ((name ≡ table_name table) × (table_file_bytes (the_file table upper) ≡ bytes))
    ⊎ ((name ≡ segment_name) × (the_segment ≡ bytes))
stands table upper name bytes there =
    elim (new_or_old (finmap.insert no_files segment_name the_segment) (table_name table)
    (table_file_bytes (the_file table upper)) name (Some bytes) there) [
      | inl new ↦ inl (new.0, some_is (table_file_bytes (the_file table upper)) bytes new.1)
      | inr old ↦ elim (new_or_old no_files segment_name the_segment name (Some bytes) old) [
        | inl new ↦ inr (new.0, some_is the_segment bytes new.1)
        | inr none ↦ absurd (none-some bytes (sym (get-empty (slice_cmp nat_cmp) name) ∙ none))
      ]
    ]

pub named_table : (table : Table) (name : List ℕ) → table.0 < most_tables → name ≡ table_name table
    → IsTableName name table.0 1
named_table table name few is = record {
  form = is;
  table_fits = few;
  sequence_starts = omega arith;
  sequence_fits = omega arith;
}

-- a name of a table file that is this one's is of its table
pub same_table : (table : Table) (name : List ℕ) (other : Table) (sequence : ℕ)
    → table.0 < most_tables → name ≡ table_name table → IsTableName name other.0 sequence
    → table ≡ other
same_table table name other sequence few is named =
    ap (λ (n : ℕ). record { 0 = n })
    (one_table name table.0 1 other.0 sequence (named_table table name few is) named).0

pub no_table : (name : List ℕ) (table sequence : ℕ) → name ≡ segment_name
    → IsTableName name table sequence → ⊥
no_table name table sequence is named =
    (segment_is_no_other name 6 1000 (record {
      form = is;
      version_fits = omega arith;
      id_fits = omega arith;
    })).1 table sequence named

-- the table file that is read is this one
pub read_is : (table : Table) (upper : ℕ) → table.0 < most_tables → upper < 2 ^ 32
    → (read : TableRead) → IsReadFrom (the_folder table upper) read
    → the_file table upper ≡ read.file
read_is table upper few fits read r =
    elim (stands table upper r.name r.good.bytes r.good.there) [
      | inl is ↦ one_table_file read.file.table r.good.bytes read.file (the_file table upper)
          r.good.spelled (record {
            is_file = is_file table upper few fits;
            same_table = same_table table r.name read.file.table read.sequence few is.0 r.named;
            spelled = sym is.1;
          })
      | inr is ↦ absurd (no_table r.name read.file.table.0 read.sequence is.0 r.named)
    ]

abbrev pub the_read : Table → ℕ → TableRead
the_read table upper = record { sequence = 1; file = the_file table upper }

pub is_read : (table : Table) (upper : ℕ) → table.0 < most_tables → upper < 2 ^ 32
    → IsReadFrom (the_folder table upper) (the_read table upper)
is_read table upper few fits = record {
  name = table_name table;
  named = named_table table (table_name table) few refl;
  good = record {
    bytes = table_file_bytes (the_file table upper);
    there = put_here (finmap.insert no_files segment_name the_segment) (table_name table)
        (table_file_bytes (the_file table upper));
    spelled = record {
      is_file = is_file table upper few fits;
      same_table = refl;
      spelled = refl;
    };
  };
}
