-- What a crash leaves of a folder that is being opened can be opened again.
use Rattle.std.proofs.Common.{
  ◌≡◌,
  ◌⊎◌,
  ℕ,
  ◌<◌,
  inl,
  inr,
  List,
  Some,
  refl,
  sym,
  ◌∙◌,
  ap,
  subst,
  arith,
}
use Rattle.std.specs.Prelude.{is_some}
use Rattle.std.specs.FinMap as finmap
use Rattle.clog_spec.specs.Names.{
  IsArchiveName,
  IsSegmentName,
  IsTableName,
  table_name_of,
}
use Rattle.clog_base.specs.declared.cell.Table.{Table}
use Rattle.clog_base.specs.declared.position.Position.{Position}
use Rattle.clog_base.proofs.NameLaws.{archive_is_no_table, one_table, segment_is_no_other}
use Rattle.clog_disk.specs.Files.{Files, bytes_at}
use Rattle.clog_table.specs.declared.table_file.TableFile.{TableFile}
use Rattle.clog_table.specs.Refusals.{IsFileOf}
use Rattle.clog_table.proofs.Again.{one_table_file}
use Rattle.clog_crash.specs.Folder.{AreGoodTables, HoldsName, IsHeld}
use Rattle.clog_crash.specs.Readings.{IsTableIn}
use Rattle.clog_crash.specs.Recovery.{IsRecoveryFile, NamesAny}
use Rattle.clog_crash.proofs.OneMore.{bytes_of}
use Rattle.clog_crash.proofs.changes.BothWays.{logged}
use Rattle.clog_crash.proofs.changes.Nothing.{no_table, reads_as, there_or_nothing}
use Rattle.clog_crash.proofs.flush.NewFile.{one_place}
use Rattle.clog_folder.specs.Segments.{IsTooLong}
use Rattle.clog_folder.proofs.Listed.{held_of}
use Rattle.clog_segments.specs.Filing.{ComesFrom, IsRecoveryPut}
use Rattle.clog_segments.specs.Named.{IsLateTable, id_limit, sequence_limit}
use Rattle.clog_segments.specs.Opened.{CanBeOpened, KeepsFolder, SequencesAreBelow}
use Rattle.clog_segments.proofs.GoodTables.{good_same, good_spelled}

-- what stands for a log ends in a segment of it
upper_named : (first : Files) (file : TableFile) → IsRecoveryFile (bytes_at first) file
    → NamesAny first file.upper.id
upper_named first file is =
    let last = is.to_end in
    let segment = logged first last.id last.entry last.logged in
    subst (NamesAny first) (ap (λ (p : Position). p.id) last.is)
    (inl (segment.name, (6, segment.segment.named, ap is_some segment.segment.there)))

module _ (first image : Files) (can : CanBeOpened first) (few : SequencesAreBelow first)
    (keeps : KeepsFolder first image) (from : ComesFrom first image) where
  -- a file of the image is one of before, or was put
  abbrev Comes : List ℕ → List ℕ → Type 0
  Comes name bytes = (finmap.get first name ≡ Some bytes) ⊎ IsRecoveryPut first name bytes

  come : (name : List ℕ) → IsHeld image name
      → (bytes : List ℕ) × (finmap.get image name ≡ Some bytes) × Comes name bytes
  come name held =
      let there = bytes_of (finmap.get image name) held in
      (there.0, there.1, from name there.0 there.1)

  tables : AreGoodTables image
  tables place name named held =
      let is = come name held in
      elim is.2 [
        | inl same ↦ good_same first image place name can.readable.tables named (is.1 ∙ sym same)
            held
        | inr put ↦ good_spelled image place name is.0 put.file put.sequence named put.named is.1
            put.spelled
      ]

  none_long : (name : List ℕ) (id : ℕ) → IsSegmentName name 6 id → ¬ IsTooLong image name
  none_long name id named long = elim (from name long.bytes long.there) [
    | inl same ↦
        can.readable.short name id named (record {
          bytes = long.bytes;
          there = same;
          long = long.long;
        })
    | inr put ↦
        (segment_is_no_other name 6 id named).1 put.file.table.0 put.sequence put.named
  ]

  -- ---- sequences

  not_late : (name bytes : List ℕ) (table sequence : ℕ) → IsTableName name table sequence
      → sequence_limit < sequence → IsRecoveryPut first name bytes → ⊥
  not_late name bytes table sequence named late put =
      let same : sequence ≡ put.sequence =
      (one_table name table sequence put.file.table.0 put.sequence named put.named).1 in
      elim put.next.one [
        | inl least ↦ omega (arith, same, least, late)
        | inr next ↦
            let one = next.1 in
            let low = few one.0 put.file.table.0 next.0 one.2
            (held_of first (finmap.keys first) refl one.0 one.1) in
            let is = next.2 in
            omega (arith, same, is, low, late)
      ]

  none_late : ¬ HoldsName image IsLateTable
  none_late late =
      let is = come late.0 late.1 in
      elim is.2 [
        | inl same ↦ can.few (late.0, ap is_some same, late.2)
        | inr put ↦ not_late late.0 is.0 late.2.0 late.2.1.0 late.2.1.1 late.2.1.2 put
      ]

  -- ---- ids

  in_segment : (name : List ℕ) (version id : ℕ) → IsSegmentName name version id
      → IsHeld image name → id < id_limit
  in_segment name version id named held =
      let is = come name held in
      elim is.2 [
        | inl same ↦ can.low id (inl (name, (version, named, ap is_some same)))
        | inr put ↦ absurd ((segment_is_no_other name version id named).1 put.file.table.0
            put.sequence put.named)
      ]

  in_archive : (name : List ℕ) (id : ℕ) → IsArchiveName name id → IsHeld image name
      → id < id_limit
  in_archive name id named held =
      let is = come name held in
      elim is.2 [
        | inl same ↦ can.low id (inr (inl (name, ap is_some same, named)))
        | inr put ↦
            absurd (archive_is_no_table name id named put.file.table.0 put.sequence put.named)
      ]

  in_table : (file : TableFile) → IsTableIn (bytes_at image) file → file.upper.id < id_limit
  in_table file t =
      let name = table_name_of file.table.0 t.sequence in
      elim (there_or_nothing image name) [
        | inr none ↦ absurd (no_table file.table file (bytes_at image name) none t.spelled)
        | inl there ↦ elim (from name (bytes_at image name) there) [
          | inl same ↦
              can.low file.upper.id (inr (inr (
                file,
                record {
                  sequence = t.sequence;
                  named = t.named;
                  spelled = subst (λ (b : List ℕ). IsFileOf file.table b file)
                      (sym (reads_as first name (bytes_at image name) same)) t.spelled;
                },
                refl,
              )))
          | inr put ↦
              let its = one_place name file.table put.file.table t.sequence put.sequence t.named
              put.named in
              let same : put.file ≡ file =
              one_table_file file.table (bytes_at image name) file put.file t.spelled
              (subst (λ (x : Table). IsFileOf x (bytes_at image name) put.file) (sym its)
              put.spelled) in
              subst (λ (x : TableFile). x.upper.id < id_limit) same
              (can.low put.file.upper.id (upper_named first put.file put.is_recovery_file))
        ]
      ]

  low : (id : ℕ) → NamesAny image id → id < id_limit
  low id any = elim any [
    | inl segment ↦ in_segment segment.0 segment.1.0 id segment.1.1 segment.1.2
    | inr other ↦ elim other [
      | inl archive ↦ in_archive archive.0 id archive.2 archive.1
      | inr table ↦
          subst (λ (n : ℕ). n < id_limit) (sym table.2) (in_table table.0 table.1)
    ]
  ]

  pub opens : CanBeOpened image
  opens = record {
    readable = record {
      tables = tables;
      short = none_long;
      undamaged = λ read. keeps.undamaged (can.readable.undamaged read);
    };
    few = none_late;
    low = low;
  }
