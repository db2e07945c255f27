-- What is known of a folder that can be opened, and why one is refused.
use Rattle.std.proofs.Common.{
  ◌≡◌,
  ℕ,
  ◌<◌,
  ◌≤◌,
  List,
  map,
  Option,
  Some,
  None,
  IfSome,
  refl,
  sym,
  ap,
  subst,
  ◌∙◌,
  inl,
  inr,
  arith,
}
use Rattle.std.specs.Prelude.{Bool, true, false, IsTrue, ◌↔◌, Result}
use Rattle.std.proofs.lemmas.Bool.{true≢false}
use Rattle.std.specs.List.{Any}
use Rattle.std.specs.FinMap as finmap
use Rattle.std.proofs.lemmas.List.Elements.{All-contains}
use Rattle.clog_spec.specs.Names.{IsTableName, table_name_of}
use Rattle.clog_base.specs.declared.fault.Quantity.TheVariants.{Ids, SegmentBytes}
use Rattle.clog_base.proofs.Members.{from_map, in_map}
use Rattle.clog_disk.specs.Files.{Files, Lists, bytes_at}
use Rattle.clog_table.specs.declared.table_file.TableFile.{TableFile}
use Rattle.clog_table.specs.Refusals.{IsFileOf}
use Rattle.clog_crash.specs.Folder.{AreTables, HoldsName, IsBase, IsFirstBad, IsReadFrom, TableRead}
use Rattle.clog_crash.specs.Readings.{IsTableIn}
use Rattle.clog_crash.specs.Recovery.{NamesAny}
use Rattle.clog_crash.proofs.TableFiles.{known_read}
use Rattle.clog_crash.proofs.changes.Nothing.{no_table, reads_as, there_or_nothing}
use Rattle.clog_folder.specs.declared.fault.OpenFault.{OpenFault}
use Rattle.clog_folder.specs.declared.fault.OpenFault.TheVariants.{
  BadTable,
  Damaged,
  Disk,
  Limit,
  OutOfMemory,
}
use Rattle.clog_folder.specs.declared.tables.TableHeld.{TableHeld}
use Rattle.clog_folder.specs.Folder.{FolderRefused, HasDamage, HasLongSegment, PlacedPayload}
use Rattle.clog_folder.specs.Tables.{read_of}
use Rattle.clog_folder.proofs.Listed.{held_of, listed_of}
use Rattle.clog_segments.specs.Live.{HasLog}
use Rattle.clog_segments.specs.Named.{GivesBase, IsIdBase, IsLateTable, NamesOne, id_limit}
use Rattle.clog_segments.specs.Opened.{
  HasGreatId,
  HasManyTables,
  CanBeOpened,
  OpenRefused,
}
use Rattle.clog_segments.proofs.Ids.{same_base}

-- ---- table files, by what was read and by how names read

pub in_reading : (files : Files) (read : TableRead) → IsReadFrom files read
    → IsTableIn (bytes_at files) read.file
in_reading files read t =
    let name = table_name_of read.file.table.0 read.sequence in
    let bytes : bytes_at files name ≡ t.good.bytes =
    ap (bytes_at files) (sym t.named.form) ∙ reads_as files t.name t.good.bytes t.good.there in
    record {
      sequence = read.sequence;
      named = subst (λ (n : List ℕ). IsTableName n read.file.table.0 read.sequence) t.named.form
          t.named;
      spelled = subst (λ (b : List ℕ). IsFileOf read.file.table b read.file) (sym bytes)
          t.good.spelled;
    }

pub was_read : (files : Files) (file : TableFile) → IsTableIn (bytes_at files) file
    → (read : TableRead) × IsReadFrom files read × (read.file ≡ file)
was_read files file t =
    let name = table_name_of file.table.0 t.sequence in
    elim (there_or_nothing files name) [
      | inr none ↦ absurd (no_table file.table file (bytes_at files name) none t.spelled)
      | inl there ↦ (
        record { sequence = t.sequence; file = file },
        record {
          name = name;
          named = t.named;
          good = record { bytes = bytes_at files name; there = there; spelled = t.spelled };
        },
        refl,
      )
    ]

-- ---- ids

module _ (files : Files) (names : List (List ℕ)) (lists : names ≡ finmap.keys files)
    (tables : List TableHeld) (are : AreTables files (map read_of tables)) where
  named_any : (id : ℕ) → NamesOne names tables id → NamesAny files id
  named_any id (inl h) = elim h.2 [
    | inl s ↦ inl (h.0, (s.0, s.1, held_of files names lists h.0 h.1))
    | inr a ↦ inr (inl (h.0, held_of files names lists h.0 h.1, a))
  ]
  named_any id (inr h) =
      let there = in_map read_of tables h.0 h.1 in
      inr (inr (
        h.0.file,
        in_reading files (read_of h.0)
            (All-contains (IsReadFrom files) (map read_of tables) (read_of h.0) are.each there),
        sym h.2,
      ))

  any_named : (id : ℕ) → NamesAny files id → NamesOne names tables id
  any_named id (inl s) =
      inl (s.0, listed_of files names lists s.0 s.1.2, inl (s.1.0, s.1.1))
  any_named id (inr (inl a)) = inl (a.0, listed_of files names lists a.0 a.1, inr a.2)
  any_named id (inr (inr f)) =
      let read = was_read files f.0 f.1 in
      let known = known_read files (map read_of tables) are read.0 read.1 in
      let from = from_map read_of tables known.0 known.1 in
      let same : from.0.file ≡ f.0 =
      ap (λ (r : TableRead). r.file) from.2 ∙ known.2 ∙ read.2 in
      inr (from.0, from.1, ap (λ (t : TableFile). t.upper.id) same ∙ sym f.2)

  pub id_base : (now base : ℕ) → IsIdBase (NamesOne names tables) now base
      → IsBase (NamesAny files) now base
  id_base now base is =
      same_base (NamesOne names tables) (NamesAny files) now base named_any any_named is.base

  pub low_ids : (now base : ℕ) → IsIdBase (NamesOne names tables) now base
      → (id : ℕ) → NamesAny files id → id < id_limit
  low_ids now base is id named = is.few id (any_named id named)

  pub great_id : (id : ℕ) → NamesOne names tables id → NamesAny files id
  great_id = named_any

-- ---- sequences

late_held : (files : Files) (names : List (List ℕ)) → names ≡ finmap.keys files
    → Any IsLateTable names → HoldsName files IsLateTable
late_held files names lists late =
    (late.1, held_of files names lists late.1 (late.0, late.2, late.3), late.4)

none_late : (files : Files) (names : List (List ℕ)) → names ≡ finmap.keys files
    → (Any IsLateTable names → ⊥) → HoldsName files IsLateTable → ⊥
none_late files names lists few late =
    let there = listed_of files names lists late.0 late.1 in
    few (there.0, late.0, there.1, there.2, late.2)

-- ---- what is known

pub within : (files : Files) {tables : List TableHeld} {ps : List PlacedPayload}
    → HasLog tables ps files → (names : List (List ℕ)) (now base : ℕ)
    → names ≡ finmap.keys files → (Any IsLateTable names → ⊥)
    → IsIdBase (NamesOne names tables) now base → CanBeOpened files
within files {tables} has names now base lists few is = record {
  readable = has.read.readable;
  few = none_late files names lists few;
  low = low_ids files names lists tables has.read.are_tables now base is;
}

-- ---- why it is refused

-- by the disk as it was before its names were listed
pub from_folder : (files mid : Option Files) (faults later now : ℕ) (refusal : OpenFault)
    → mid ≡ files → faults ≤ later → FolderRefused false mid later now refusal
    → OpenRefused files faults now refusal
from_folder files mid faults later now Disk same on refused = omega (arith, on, refused)
from_folder files mid faults later now OutOfMemory same on refused = tt
from_folder files mid faults later now (BadTable name fault) same on refused =
    subst (λ (o : Option Files). IfSome o (λ held. IsFirstBad held name fault)) same refused
from_folder files mid faults later now (Damaged name at cause) same on refused =
    subst (λ (o : Option Files). IfSome o (λ held. HasDamage held name at cause)) same refused.1
from_folder files mid faults later now (Limit SegmentBytes most) same on refused =
    (refused.0, subst (λ (o : Option Files). IfSome o (HasLongSegment false)) same refused.1)
from_folder files mid faults later now (Limit other most) same on refused = absurd refused

module _ (tables : List TableHeld) (ps : List PlacedPayload) where
  pub many_tables : (files : Option Files) (names : List (List ℕ))
      → IfSome files (HasLog tables ps) → Lists files names → Any IsLateTable names
      → IfSome files HasManyTables
  many_tables None names has lists late = tt
  many_tables (Some files) names has lists late = record {
    readable = has.read.readable;
    late = late_held files names lists late;
  }

  great_ids : (files : Option Files) (names : List (List ℕ)) (id : ℕ)
      → IfSome files (HasLog tables ps) → Lists files names → (Any IsLateTable names → ⊥)
      → NamesOne names tables id → id_limit ≤ id → IfSome files HasGreatId
  great_ids None names id has lists few named high = tt
  great_ids (Some files) names id has lists few named high = record {
    readable = has.read.readable;
    few = none_late files names lists few;
    id = id;
    named = great_id files names lists tables has.read.are_tables id named;
    great = high;
  }

  pub limit_refused : (files : Option Files) (names : List (List ℕ)) (faults now : ℕ)
      (refusal : OpenFault) → IfSome files (HasLog tables ps) → Lists files names
      → (Any IsLateTable names → ⊥)
      → (refusal ≡ Limit Ids id_limit) × ((n : ℕ) × NamesOne names tables n × (id_limit ≤ n))
      → OpenRefused files faults now refusal
  limit_refused files names faults now refusal has lists few h =
      subst (OpenRefused files faults now) (sym h.0)
      (refl, great_ids files names h.1.0 has lists few h.1.1 h.1.2)

-- ---- by the slices that were handed on

pub few_of : (names slice : List (List ℕ)) (b : Bool) → slice ≡ names
    → IsTrue b ↔ Any IsLateTable slice → b ≡ false → Any IsLateTable names → ⊥
few_of names slice b is decides not late =
    true≢false (sym (decides.1 (subst (Any IsLateTable) (sym is) late)) ∙ not)

pub late_of : (names slice : List (List ℕ)) (b : Bool) → slice ≡ names
    → IsTrue b ↔ Any IsLateTable slice → b ≡ true → Any IsLateTable names
late_of names slice b is decides so = subst (Any IsLateTable) is (decides.0 so)

pub gives_for : (names slice : List (List ℕ)) (tables held : List TableHeld) → slice ≡ names
    → held ≡ tables → (moment : ℕ) (r : Result ℕ OpenFault)
    → GivesBase (NamesOne slice held) moment r → GivesBase (NamesOne names tables) moment r
gives_for names slice tables held is are moment r gives =
    subst (λ (ts : List TableHeld). GivesBase (NamesOne names ts) moment r) are
    (subst (λ (ns : List (List ℕ)). GivesBase (NamesOne ns held) moment r) is gives)
