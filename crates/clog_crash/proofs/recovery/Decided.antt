-- Whether a table file stands for a position can be decided where all table files are told.
use Rattle.std.proofs.Common.{◌≡◌, ◌⊎◌, inl, inr, List, [], ◌∷◌, sym, ◌∙◌, ap, subst}
use Rattle.std.specs.Prelude.{Contains}
use Rattle.std.proofs.lemmas.List.Elements.{All-contains}
use Rattle.clog_base.specs.declared.cell.Table.{Table}
use Rattle.clog_base.specs.declared.position.Position.{Position}
use Rattle.clog_base.proofs.Members.{nothing_there, here, further, first_or_further}
use Rattle.clog_disk.specs.Files.{Files, bytes_at}
use Rattle.clog_table.specs.declared.table_file.TableFile.{TableFile}
use Rattle.clog_crash.specs.Folder.{AreTables, IsReadFrom, TableRead}
use Rattle.clog_crash.specs.Readings.{IsSkippedIn}
use Rattle.clog_crash.specs.Restore.{IsInInterval, IsSkipped}
use Rattle.clog_crash.proofs.TableFiles.{known_read}
use Rattle.clog_crash.proofs.changes.BothWays.{skipped, skipped_in}
use Rattle.clog_crash.proofs.changes.Intervals.{inside_or_not, table_or_not}

-- one of these reads is of the table and has the position in its interval
pub record Stands (reads : List TableRead) (table : Table) (at : Position) : Type 0 where
  pub read : TableRead
  pub listed : Contains reads read
  pub same_table : read.file.table ≡ table
  pub inside : IsInInterval read.file at

this_stands : (read : TableRead) (table : Table) (at : Position)
    → ((read.file.table ≡ table) × IsInInterval read.file at)
    ⊎ ((read.file.table ≡ table) × IsInInterval read.file at → ⊥)
this_stands read table at = elim (table_or_not read.file.table table) [
  | inr apart ↦ inr (λ is. apart is.0)
  | inl same ↦ elim (inside_or_not read.file at) [
    | inl inside ↦ inl (same, inside)
    | inr outside ↦ inr (λ is. outside is.1)
  ]
]

stands_or_not : (reads : List TableRead) (table : Table) (at : Position)
    → Stands reads table at ⊎ (Stands reads table at → ⊥)
stands_or_not [] table at = inr (λ s. nothing_there s.read s.listed)
stands_or_not (read ∷ reads) table at = elim (this_stands read table at) [
  | inl is ↦ inl (record {
    read = read;
    listed = here read reads;
    same_table = is.0;
    inside = is.1;
  })
  | inr not ↦ elim (stands_or_not reads table at) [
    | inl s ↦ inl (record {
      read = s.read;
      listed = further read reads s.read s.listed;
      same_table = s.same_table;
      inside = s.inside;
    })
    | inr none ↦ inr (λ s. elim (first_or_further read reads s.read s.listed) [
      | inl same ↦ not (
        ap (λ (r : TableRead). r.file.table) same ∙ s.same_table,
        subst (λ (r : TableRead). IsInInterval r.file at) (sym same) s.inside,
      )
      | inr later ↦ none (record {
        read = s.read;
        listed = later;
        same_table = s.same_table;
        inside = s.inside;
      })
    ])
  ]
]

pub skipped_or_not : (files : Files) (reads : List TableRead) → AreTables files reads
    → (table : Table) (at : Position)
    → IsSkipped files table at ⊎ (IsSkipped files table at → ⊥)
skipped_or_not files reads tables table at = elim (stands_or_not reads table at) [
  | inl s ↦ inl (record {
    read = s.read;
    there = All-contains (IsReadFrom files) reads s.read tables.each s.listed;
    same_table = s.same_table;
    inside = s.inside;
  })
  | inr none ↦ inr (λ s.
      let known = known_read files reads tables s.read s.there in
      none (record {
        read = known.0;
        listed = known.1;
        same_table = ap (λ (f : TableFile). f.table) known.2 ∙ s.same_table;
        inside = subst (λ (f : TableFile). IsInInterval f at) (sym known.2) s.inside;
      }))
]

-- the same by readings
pub skipped_in_or_not : (files : Files) (reads : List TableRead) → AreTables files reads
    → (table : Table) (at : Position)
    → IsSkippedIn (bytes_at files) table at ⊎ (IsSkippedIn (bytes_at files) table at → ⊥)
skipped_in_or_not files reads tables table at =
    elim (skipped_or_not files reads tables table at) [
      | inl s ↦ inl (skipped_in files table at s)
      | inr none ↦ inr (λ s. none (skipped files table at s))
    ]
