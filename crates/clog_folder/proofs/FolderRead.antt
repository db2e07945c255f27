-- The whole folder is read: table files, and then segments.
use Rattle.std.proofs.Common.{◌≡◌, ℕ, ◌≤◌, ◌==◌, List, map, Bool, Option, Some, None, Contains}
use Rattle.std.proofs.Common.{refl, sym, ap, subst, ◌∙◌, inl, inr, arith}
use Rattle.std.specs.Prelude.{IfSome, is_some}
use Rattle.std.specs.FinMap as finmap
use Rattle.std.specs.declared.cmp.Ordering.{Ordering}
use Rattle.clog_base.specs.declared.cell.Table.{Table}
use Rattle.clog_base.specs.declared.fault.Quantity.TheVariants.{SegmentBytes}
use Rattle.clog_spec.specs.Names.{IsSegmentName}
use Rattle.clog_disk.specs.Files.{Files, Lists}
use Rattle.clog_scan.specs.Laws.{IsFile}
use Rattle.clog_crash.specs.Counts.{IsLog, IsLoggedMutation, LoggedMutation}
use Rattle.clog_crash.specs.Damage.{AreSegmentFiles}
use Rattle.clog_crash.specs.Folder.{AreGoodTables, IsFirstBad, IsHeld, IsNameOf, place_cmp}
use Rattle.clog_crash.proofs.OneMore.{some_is}
use Rattle.clog_crash.proofs.TableFiles.{tables_are_good}
use Rattle.clog_folder.specs.declared.fault.OpenFault.{OpenFault}
use Rattle.clog_folder.specs.declared.fault.OpenFault.TheVariants.{Disk, Damaged, BadTable, Limit}
use Rattle.clog_folder.specs.declared.fault.OpenFault.TheVariants.{OutOfMemory}
use Rattle.clog_folder.specs.declared.tables.TableHeld.{TableHeld}
use Rattle.clog_folder.specs.Folder.{FolderRefused, HasDamage, HasLongSegment, IsReadAs}
use Rattle.clog_folder.specs.Listing.{AreRows, IsSegmentAt, segment_cmp}
use Rattle.clog_folder.specs.Segments.{HaveHeld, IsDamagedFirst, IsFirstLong, IsHeldAt, IsRead, Row}
use Rattle.clog_folder.specs.Segments.{SegmentHeld, SegmentsRefused}
use Rattle.clog_folder.specs.Tables.{HaveRead, TablesRefused, read_of}
use Rattle.clog_folder.proofs.Listed.{held_of, listed_of}
use Rattle.clog_folder.proofs.RowsHeld.{IsLogOfRows, find_held, log_of_rows, row_is_read}
use Rattle.clog_folder.proofs.SegmentsHeld.{at}
use Rattle.clog_folder.proofs.SegmentsRead.{last_of}
use Rattle.clog_folder.proofs.TablesRead.{are_tables}

-- ---- what is listed is there

rows_held : {K : Type 0} (cmp : K → K → Ordering) (IsNamed : K → List ℕ → Type 0) (files : Files)
    (names : List (List ℕ)) (rows : List (K × List ℕ)) → names ≡ finmap.keys files
    → AreRows cmp IsNamed (Contains names) rows → AreRows cmp IsNamed (IsHeld files) rows
rows_held cmp IsNamed files names rows lists places = record {
  ordered = places.ordered;
  each = λ place name there. let old = places.each place name there in
      (held_of files names lists name old.0, old.1);
  every = λ place name held named.
      places.every place name (listed_of files names lists name held) named;
}

-- where the files are told, the rows are those of the names that are there
pub told_rows : {K : Type 0} (cmp : K → K → Ordering) (IsNamed : K → List ℕ → Type 0)
    (files now : Option Files) (names : List (List ℕ)) (rows : List (K × List ℕ)) → now ≡ files
    → Lists files names → AreRows cmp IsNamed (Contains names) rows
    → IfSome now (λ held. AreRows cmp IsNamed (IsHeld held) rows)
told_rows cmp IsNamed None now names rows same lists places =
    subst (λ (f : Option Files). IfSome f (λ held. AreRows cmp IsNamed (IsHeld held) rows))
    (sym same) tt
told_rows cmp IsNamed (Some files) now names rows same lists places =
    subst (λ (f : Option Files). IfSome f (λ held. AreRows cmp IsNamed (IsHeld held) rows))
    (sym same) (rows_held cmp IsNamed files names rows lists places)

-- ---- why it is refused

pub tables_refused : (ignore : Bool) (files now : Option Files) (f g k : ℕ) (refusal : OpenFault)
    → now ≡ files → f ≤ g → TablesRefused now g k refusal → FolderRefused ignore files f k refusal
tables_refused ignore files now f g k Disk same later refused = omega (arith, later, refused)
tables_refused ignore files now f g k OutOfMemory same later refused = tt
tables_refused ignore files now f g k (BadTable name fault) same later refused =
    subst (λ (o : Option Files). IfSome o (λ held. IsFirstBad held name fault)) same refused
tables_refused ignore files now f g k other same later refused = absurd refused

-- the table files are good, in front of a segment that is refused
with_good : (files : Option Files) (rows : List ((Table × ℕ) × List ℕ)) (tables : List TableHeld)
    (P Q : Files → Type 0) → ((held : Files) → AreGoodTables held → P held → Q held)
    → IfSome files (λ held. AreRows place_cmp IsNameOf (IsHeld held) rows)
    → HaveRead files rows tables → IfSome files P → IfSome files Q
with_good None rows tables P Q join places read is = tt
with_good (Some held) rows tables P Q join places read is =
    join held (tables_are_good held (map read_of tables)
    (are_tables held rows (map read_of tables) places read)) is

pub segments_refused : (ignore : Bool) (files now : Option Files) (f g k : ℕ)
    (rows : List ((Table × ℕ) × List ℕ)) (tables : List TableHeld) (refusal : OpenFault)
    → now ≡ files → f ≤ g
    → IfSome files (λ held. AreRows place_cmp IsNameOf (IsHeld held) rows)
    → HaveRead files rows tables → SegmentsRefused ignore now g k refusal
    → FolderRefused ignore files f k refusal
segments_refused ignore files now f g k rows tables Disk same later places read refused =
    omega (arith, later, refused)
segments_refused ignore files now f g k rows tables OutOfMemory same later places read refused = tt
segments_refused ignore files now f g k rows tables (Limit SegmentBytes n) same later places read
    refused = (
      refused.0,
      with_good files rows tables (λ held. IsFirstLong ignore held) (HasLongSegment ignore)
          (λ held good first. record { tables = good; first = first }) places read
          (subst (λ (o : Option Files). IfSome o (λ held. IsFirstLong ignore held)) same refused.1),
    )
segments_refused ignore files now f g k rows tables (Damaged name place cause) same later places
    read refused = (
      refused.0,
      with_good files rows tables (λ held. IsDamagedFirst held name place cause)
          (λ held. HasDamage held name place cause)
          (λ held good first. record { tables = good; first = first }) places read
          (subst (λ (o : Option Files). IfSome o (λ held.
          IsDamagedFirst held name place cause)) same
          refused.1),
    )
segments_refused ignore files now f g k rows tables other same later places read refused =
    absurd refused

-- ---- what it holds

bytes_there : (held : Files) (name bytes : List ℕ) → finmap.get held name ≡ Some bytes
    → IsHeld held name
bytes_there held name bytes there = ap is_some there

same_at : (held : Files) (l : LoggedMutation) (logged : IsLoggedMutation held l)
    → record { at = at l.at.id logged.entry.end; mutation = l.mutation } ≡ l
same_at held l logged = λ i. record { at = logged.place i; mutation = l.mutation }

module _ (ignore : Bool) (held : Files) (rows : List Row) (helds : List SegmentHeld)
    (places : AreRows segment_cmp IsSegmentAt (IsHeld held) rows)
    (have : HaveHeld ignore (Some held) rows helds) where
  log_found : (log : List LoggedMutation) × IsLogOfRows held ignore have.greatest rows helds log
  log_found = log_of_rows held ignore have.greatest rows helds have.held places.ordered
      (λ row there. (places.each row.0 row.1 there).1)

  is_log : IsLog held log_found.0
  is_log = record {
    ordered = log_found.1.ordered;
    are = λ l. (
      λ logged.
          let seg = logged.logged.segment in
          let there = bytes_there held logged.logged.name seg.bytes seg.there in
          let inside = places.every (l.at.id, 6) logged.logged.name there seg.named in
          subst (Contains log_found.0) (same_at held l logged)
          (log_found.1.every ((l.at.id, 6), logged.logged.name) logged.entry l.mutation inside refl
          logged.logged logged.said),
      λ listed. log_found.1.each l listed,
    );
  }

  all_read : (name : List ℕ) (version id : ℕ) → IsSegmentName name version id → IsHeld held name
      → IsRead ignore held name version id
  all_read name version id named is_held =
      let row : Row = ((id, version), name) in
      let inside = places.every (id, version) name is_held named in
      let found = find_held held ignore have.greatest rows helds have.held row inside in
      row_is_read held ignore have.greatest row found.0 (id == have.greatest) named found.1
      (last_of held ignore have.greatest rows places have.top row)

  pub is_read_as : (tables : List TableHeld) (table_rows : List ((Table × ℕ) × List ℕ))
      → AreRows place_cmp IsNameOf (IsHeld held) table_rows
      → HaveRead (Some held) table_rows tables
      → IsReadAs ignore held (map read_of tables) helds
  is_read_as tables table_rows table_places read =
      let are = are_tables held table_rows (map read_of tables) table_places read in
      record {
        are_tables = are;
        log = log_found.0;
        say = log_found.1.say;
        is_log = is_log;
        readable = record {
          tables = tables_are_good held (map read_of tables) are;
          short = λ name id named long.
              (all_read name 6 id named (bytes_there held name long.bytes long.there)).short refl
              long;
          undamaged = λ strict. record {
            tables = tables_are_good held (map read_of tables) are;
            segments = λ name version id named is_held.
                (all_read name version id named is_held).good strict;
          };
        };
      }

  file_of : (row : Row) (last : Bool) (s : SegmentHeld) (bytes : List ℕ) → row.0.1 ≡ 6
      → finmap.get held row.1 ≡ Some bytes → IsHeldAt ignore last (Some held) row s
      → IsFile bytes
  file_of row last s bytes six there (inl other) = absurd (other.0 six)
  file_of row last s bytes six there (inr this) =
      let whole : finmap.get held row.1 ≡ Some s.bytes = this.2 in
      subst IsFile (some_is s.bytes bytes (sym whole ∙ there)) this.4.file

  pub segment_files : AreSegmentFiles held
  segment_files name bytes id named there =
      let row : Row = ((id, 6), name) in
      let inside = places.every (id, 6) name (bytes_there held name bytes there) named in
      let found = find_held held ignore have.greatest rows helds have.held row inside in
      file_of row (id == have.greatest) found.0 bytes refl there found.1
