-- An undamaged image that holds at most what a store brought can be opened.
use Rattle.std.proofs.Common.{
  ◌≡◌,
  ◌⊎◌,
  ℕ,
  ◌+◌,
  ◌<◌,
  ◌≤◌,
  ◌^◌,
  inl,
  inr,
  List,
  length,
  Some,
  Contains,
  refl,
  sym,
  ◌∙◌,
  ap,
  subst,
  arith,
}
use Rattle.std.specs.Prelude.{is_some}
use Rattle.std.specs.FinMap as finmap
use Rattle.std.proofs.lemmas.List.Elements.{Contains-push_cases}
use Rattle.clog_spec.specs.Names.{IsArchiveName, IsSegmentName, IsTableName, table_name_of}
use Rattle.clog_base.specs.declared.cell.Table.{Table}
use Rattle.clog_base.proofs.NameLaws.{
  archive_is_no_table,
  one_archive,
  one_segment,
  one_table,
  segment_is_no_other,
}
use Rattle.clog_disk.specs.Files.{Files, bytes_at}
use Rattle.clog_table.specs.declared.table_file.TableFile.{TableFile}
use Rattle.clog_table.specs.Refusals.{IsFileOf}
use Rattle.clog_table.proofs.Again.{one_table_file}
use Rattle.clog_crash.specs.Folder.{AreGoodTables, HoldsName, IsHeld}
use Rattle.clog_crash.specs.Log.{Write}
use Rattle.clog_crash.specs.Readings.{IsTableIn}
use Rattle.clog_crash.specs.Recovery.{NamesAny}
use Rattle.clog_crash.specs.Restore.{IsUndamaged}
use Rattle.clog_crash.proofs.OneMore.{bytes_of}
use Rattle.clog_crash.proofs.changes.Names.{is_named}
use Rattle.clog_crash.proofs.changes.Nothing.{no_table, reads_as, there_or_nothing}
use Rattle.clog_crash.proofs.flush.NewFile.{one_place}
use Rattle.clog_folder.specs.Segments.{IsTooLong}
use Rattle.clog_segments.specs.AtMost.{IsArchiveBelow, IsPartOf, IsTableWithin}
use Rattle.clog_segments.specs.Grows.{segments_with}
use Rattle.clog_segments.specs.Named.{IsLateTable, id_limit, sequence_limit}
use Rattle.clog_segments.specs.Opened.{CanBeOpened, HasRoomFor}
use Rattle.clog_segments.specs.StoreFolder.{Deeds, StoreLog}
use Rattle.clog_segments.specs.StoreImages.{HoldsAtMost, IsBroughtAtMost, IsWithinLimits}
use Rattle.clog_segments.proofs.AllGo.{archive_named}
use Rattle.clog_segments.proofs.GoodTables.{good_same, good_spelled}

module _ (first image : Files) (log : StoreLog) (deeds : Deeds) (can : CanBeOpened first)
    (room : HasRoomFor first (length deeds.files + 2)) (limits : IsWithinLimits log)
    (undamaged : IsUndamaged image) (most : HoldsAtMost first log deeds image) where
  abbrev segments : List Write
  segments = segments_with log.past log.id log.sections

  abbrev more : ℕ
  more = length deeds.files + 2

  abbrev Comes : List ℕ → List ℕ → Type 0
  Comes name bytes =
      (finmap.get first name ≡ Some bytes) ⊎ IsBroughtAtMost first more segments log.id name bytes

  come : (name : List ℕ) → IsHeld image name
      → (bytes : List ℕ) × (finmap.get image name ≡ Some bytes) × Comes name bytes
  come name held =
      let there = bytes_of (finmap.get image name) held in
      (there.0, there.1, most name there.0 there.1)

  up_to : (w : Write) → Contains segments w → w.id ≤ log.id
  up_to w among =
      elim (Contains-push_cases log.past (record { id = log.id; sections = log.sections }) w
      among) [
        | inl before ↦ let low = limits.below w before in omega (arith, low)
        | inr same ↦ let is = ap (λ (x : Write). x.id) same in omega (arith, is)
      ]

  fits : (id : ℕ) → id ≤ log.id → id < 2 ^ 63
  fits id on = let low = limits.low in omega (arith, on, low)

  -- ---- the kinds of files have different names

  part_named : (name bytes : List ℕ) → IsPartOf segments name bytes
      → (id : ℕ) × (id ≤ log.id) × IsSegmentName name 6 id
  part_named name bytes part =
      let id = part.segment.id in
      let on = up_to part.segment part.among in (
        id,
        on,
        subst (λ (n : List ℕ). IsSegmentName n 6 id) (sym part.name_is) (is_named id (fits id on)),
      )

  archive_is : (name bytes : List ℕ) → IsArchiveBelow (IsPartOf segments) log.id name bytes
      → (id : ℕ) × (id < log.id) × IsArchiveName name id
  archive_is name bytes archive =
      let id = archive.0 in
      let low = archive.1 in (
        id,
        low,
        subst (λ (n : List ℕ). IsArchiveName n id) (sym archive.2)
            (archive_named id (fits id (omega (arith, low)))),
      )

  -- of a table's name only a table file was brought
  table_brought : (name bytes : List ℕ) (table sequence : ℕ) → IsTableName name table sequence
      → IsBroughtAtMost first more segments log.id name bytes
      → IsTableWithin first more log.id name bytes
  table_brought name bytes table sequence named is = elim is [
    | inl part ↦
        let its = part_named name bytes part in
        absurd ((segment_is_no_other name 6 its.0 its.2).1 table sequence named)
    | inr other ↦ elim other [
      | inl archive ↦
          let its = archive_is name _ archive in
          absurd (archive_is_no_table name its.0 its.2 table sequence named)
      | inr file ↦ file
    ]
  ]

  -- of a segment's, a part of a segment
  segment_brought : (name bytes : List ℕ) (version id : ℕ) → IsSegmentName name version id
      → IsBroughtAtMost first more segments log.id name bytes → IsPartOf segments
      name bytes
  segment_brought name bytes version id named is = elim is [
    | inl part ↦ part
    | inr other ↦ elim other [
      | inl archive ↦
          let its = archive_is name _ archive in
          absurd ((segment_is_no_other name version id named).0 its.0 its.2)
      | inr file ↦
          absurd ((segment_is_no_other name version id named).1 file.file.table.0 file.sequence
          file.named)
    ]
  ]

  -- ---- it can be read

  tables : AreGoodTables image
  tables place name named held =
      let is = come name held in
      elim is.2 [
        | inl same ↦ good_same first image place name can.readable.tables named (is.1 ∙ sym same)
            held
        | inr brought ↦
            let put = table_brought name is.0 place.0.0 place.1 named brought in
            good_spelled image place name is.0 put.file put.sequence named put.named is.1
            put.spelled
      ]

  none_long : (name : List ℕ) (id : ℕ) → IsSegmentName name 6 id → ¬ IsTooLong image name
  none_long name id named long = elim (most name long.bytes long.there) [
    | inl same ↦
        can.readable.short name id named (record {
          bytes = long.bytes;
          there = same;
          long = long.long;
        })
    | inr brought ↦
        let part = segment_brought name long.bytes 6 id named brought in
        let few = limits.short part.segment part.among in
        omega (arith, part.short, few, long.long)
  ]

  -- ---- sequences

  not_late : (name bytes : List ℕ) (table sequence : ℕ) → IsTableName name table sequence
      → sequence_limit < sequence → IsTableWithin first more log.id name bytes → ⊥
  not_late name bytes table sequence named late put =
      let same : sequence ≡ put.sequence =
      (one_table name table sequence put.file.table.0 put.sequence named put.named).1 in
      elim put.few [
        | inl least ↦ let fit = room.least in omega (arith, same, least, late, fit)
        | inr above ↦
            let low = room.each above.0 put.file.table.0 above.1.0 above.1.2 above.1.1 in
            let is = above.1.3 in
            omega (arith, same, is, low, late)
      ]

  none_late : ¬ HoldsName image IsLateTable
  none_late late =
      let is = come late.0 late.1 in
      let table = late.2.0 in
      let sequence = late.2.1.0 in
      let named = late.2.1.1 in
      elim is.2 [
        | inl same ↦ can.few (late.0, ap is_some same, late.2)
        | inr brought ↦
            not_late late.0 is.0 table sequence named late.2.1.2
            (table_brought late.0 is.0 table sequence named brought)
      ]

  -- ---- ids

  in_segment : (name : List ℕ) (version id : ℕ) → IsSegmentName name version id
      → IsHeld image name → id < id_limit
  in_segment name version id named held =
      let is = come name held in
      elim is.2 [
        | inl same ↦ can.low id (inl (name, (version, named, ap is_some same)))
        | inr brought ↦
            let its = part_named name is.0 (segment_brought name is.0 version id named brought) in
            let one = (one_segment name version id 6 its.0 named its.2).1 in
            let low = limits.low in
            omega (arith, one, its.1, low)
      ]

  in_archive : (name : List ℕ) (id : ℕ) → IsArchiveName name id → IsHeld image name
      → id < id_limit
  in_archive name id named held =
      let is = come name held in
      elim is.2 [
        | inl same ↦ can.low id (inr (inl (name, ap is_some same, named)))
        | inr brought ↦ elim brought [
          | inl part ↦
              let its = part_named name is.0 part in
              absurd ((segment_is_no_other name 6 its.0 its.2).0 id named)
          | inr other ↦ elim other [
            | inl archive ↦
                let its = archive_is name _ archive in
                let one = one_archive name id its.0 named its.2 in
                let low = limits.low in
                omega (arith, one, its.1, low)
            | inr file ↦
                absurd (archive_is_no_table name id named file.file.table.0 file.sequence
                file.named)
          ]
        ]
      ]

  in_table : (file : TableFile) → IsTableIn (bytes_at image) file → file.upper.id < id_limit
  in_table file t =
      let name = table_name_of file.table.0 t.sequence in
      elim (there_or_nothing image name) [
        | inr none ↦ absurd (no_table file.table file (bytes_at image name) none t.spelled)
        | inl there ↦ elim (most name (bytes_at image name) there) [
          | inl same ↦
              can.low file.upper.id (inr (inr (
                file,
                record {
                  sequence = t.sequence;
                  named = t.named;
                  spelled = subst (λ (b : List ℕ). IsFileOf file.table b file)
                      (sym (reads_as first name (bytes_at image name) same)) t.spelled;
                },
                refl,
              )))
          | inr brought ↦
              let put = table_brought name (bytes_at image name) file.table.0 t.sequence t.named
              brought in
              let its = one_place name file.table put.file.table t.sequence put.sequence t.named
              put.named in
              let same : put.file ≡ file =
              one_table_file file.table (bytes_at image name) file put.file t.spelled
              (subst (λ (x : Table). IsFileOf x (bytes_at image name) put.file) (sym its)
              put.spelled) in
              let low = limits.low in
              let within = put.within in
              let upper = ap (λ (x : TableFile). x.upper.id) same in
              omega (arith, low, within, upper)
        ]
      ]

  low : (id : ℕ) → NamesAny image id → id < id_limit
  low id any = elim any [
    | inl segment ↦ in_segment segment.0 segment.1.0 id segment.1.1 segment.1.2
    | inr other ↦ elim other [
      | inl archive ↦ in_archive archive.0 id archive.2 archive.1
      | inr table ↦
          subst (λ (n : ℕ). n < id_limit) (sym table.2) (in_table table.0 table.1)
    ]
  ]

  pub most_opens : CanBeOpened image
  most_opens = record {
    readable = record {
      tables = tables;
      short = none_long;
      undamaged = λ read. undamaged;
    };
    few = none_late;
    low = low;
  }
