-- The names of the files in a commit log's folder. Numbers are decimal, without leading zeros.
use Rattle.std.specs.Prelude.{
  ◌≡◌,
  ℕ,
  ◌<◌,
  ◌^◌,
  List,
  ◌++◌,
  length,
  Bool,
  not,
  ◌&&◌,
  ◌==◌,
  nat_lt,
  nat_le,
  codes,
  decimal,
}
use Rattle.std.specs.List.{list_all}
use Rattle.clog_spec.specs.Sizes.{longest_file_name, most_tables}

-- ASCII, and neither `/` nor 0
abbrev pub is_name_byte : ℕ → Bool
is_name_byte b = nat_lt 0 b && nat_lt b 128 && not (b == 47)

-- 1 to 64 such bytes
abbrev pub is_name : List ℕ → Bool
is_name bytes =
    nat_lt 0 (length bytes) && nat_le (length bytes) longest_file_name
    && list_all is_name_byte bytes

-- a segment's name
abbrev pub segment_name_of : ℕ → ℕ → List ℕ
segment_name_of version id =
    codes "CommitLog-" ++ decimal version ++ codes "-" ++ decimal id ++ codes ".log"

-- an archived segment's name
abbrev pub archive_name_of : ℕ → List ℕ
archive_name_of id = codes "Archive-CommitLog-6-" ++ decimal id ++ codes ".log"

-- a table file's name
abbrev pub table_name_of : ℕ → ℕ → List ℕ
table_name_of table sequence =
    codes "Table-" ++ decimal table ++ codes "-" ++ decimal sequence ++ codes ".tbl"

-- The name is that of a segment of this version and id.
pub record IsSegmentName (name : List ℕ) (version id : ℕ) : Type 0 where
  pub form : name ≡ segment_name_of version id
  pub version_fits : version < 2 ^ 32
  pub id_fits : id < 2 ^ 63

-- The name is that of an archived segment of this id.
pub record IsArchiveName (name : List ℕ) (id : ℕ) : Type 0 where
  pub form : name ≡ archive_name_of id
  pub id_fits : id < 2 ^ 63

-- The name is that of a table file of this table and sequence.
pub record IsTableName (name : List ℕ) (table sequence : ℕ) : Type 0 where
  pub form : name ≡ table_name_of table sequence
  pub table_fits : table < most_tables
  pub sequence_starts : 0 < sequence
  pub sequence_fits : sequence < 2 ^ 63

-- The name is that of no segment, of no archived segment, and of no table file.
abbrev pub IsNoSegmentName : List ℕ → Type 0
IsNoSegmentName name = (version id : ℕ) → ¬ IsSegmentName name version id

abbrev pub IsNoArchiveName : List ℕ → Type 0
IsNoArchiveName name = (id : ℕ) → ¬ IsArchiveName name id

abbrev pub IsNoTableName : List ℕ → Type 0
IsNoTableName name = (table sequence : ℕ) → ¬ IsTableName name table sequence
