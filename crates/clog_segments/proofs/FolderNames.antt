-- What stands under the names of a store's folder.
use Rattle.std.proofs.Common.{
  ◌≡◌,
  ℕ,
  ◌+◌,
  ◌<◌,
  ◌^◌,
  List,
  [],
  ◌∷◌,
  length,
  Some,
  None,
  Contains,
  sym,
  ap,
  subst,
  ◌∙◌,
  inl,
  inr,
  arith,
  length-append,
}
use Rattle.std.specs.FinMap as finmap
use Rattle.std.proofs.lemmas.List.Elements.{Contains-push_cases}
use Rattle.clog_spec.specs.Names.{IsTableName, archive_name_of, segment_name_of}
use Rattle.clog_spec.specs.Segment.{header_bytes}
use Rattle.clog_spec.specs.Sizes.{header_size}
use Rattle.clog_base.proofs.NameLaws.{archive_is_no_table}
use Rattle.clog_disk.specs.Files.{Files, bytes_at}
use Rattle.clog_scan.specs.Cut.{Section, sections_bytes}
use Rattle.clog_crash.specs.Log.{Write}
use Rattle.clog_crash.specs.Sections.{segment_bytes}
use Rattle.clog_crash.proofs.changes.Names.{is_named, not_segment, one_id}
use Rattle.clog_crash.proofs.changes.Nothing.{there_or_nothing}
use Rattle.clog_segments.specs.Grows.{segments_with}
use Rattle.clog_segments.specs.StoreFolder.{Deeds, HoldsStore, PlacedFile, StoreLog, name_of}
use Rattle.clog_segments.proofs.AllGo.{not_archived}
use Rattle.clog_segments.proofs.FolderReads.{absent_or_held}

pub has_bytes : (id : ℕ) (sections : List Section) → 0 < length sections
    → 0 < length (segment_bytes id sections)
has_bytes id [] some = absurd (omega (arith, some))
has_bytes id (x ∷ xs) some =
    omega (arith, length-append (header_bytes id) (sections_bytes id header_size (x ∷ xs)))

-- a name that reads as some bytes holds them
pub held_as : (f : Files) (name bytes : List ℕ) → bytes_at f name ≡ bytes → 0 < length bytes
    → finmap.get f name ≡ Some bytes
held_as f name bytes reads some = elim (there_or_nothing f name) [
  | inl there ↦ there ∙ ap Some reads
  | inr nothing ↦ absurd (omega (arith, some, ap length (sym reads ∙ nothing)))
]

abbrev pub AreBelow : StoreLog → Type 0
AreBelow log = (w : Write) → Contains log.past w → w.id < log.id

-- ---- names

-- the name of an earlier segment's archive is no segment's
pub archive_apart : (id other : ℕ) → id < 2 ^ 63 → other < 2 ^ 63
    → archive_name_of id ≡ segment_name_of 6 other → ⊥
archive_apart id other fits limit same = not_archived id other fits limit (sym same)

-- a table file's name is that of no segment and of no archive
module _ (first f : Files) (log : StoreLog) (deeds : Deeds)
    (holds : HoldsStore first log deeds f) (low : AreBelow log) (fits : log.id < 2 ^ 63) where
  pub id_below : (w : Write) → Contains (segments_with log.past log.id log.sections) w
      → w.id < 2 ^ 63
  id_below w among =
      elim (Contains-push_cases log.past (record { id = log.id; sections = log.sections }) w
      among) [
        | inl before ↦ omega (arith, low w before, fits)
        | inr same ↦ subst (λ (x : Write). x.id < 2 ^ 63) same fits
      ]

  -- a table file that was not put is as it was at the opening
  pub table_elsewhere : (name : List ℕ) (table sequence : ℕ) → IsTableName name table sequence
      → ((p : PlacedFile) → Contains holds.placed p → name ≡ name_of p → ⊥)
      → finmap.get f name ≡ finmap.get first name
  table_elsewhere name table sequence named none =
      holds.stands.others name (λ bytes row. elim row [
        | inl segment ↦
            not_segment segment.segment.id name table sequence
            (id_below segment.segment segment.among) named segment.name_is
        | inr other ↦ elim other [
          | inl archive ↦
              let in_past = low archive.segment archive.among in
              archive_is_no_table name archive.segment.id (record {
                form = archive.name_is;
                id_fits = omega (arith, in_past, fits);
              }) table sequence named
          | inr file ↦ none file.file file.among file.name_is
        ]
      ])

  -- no segment of the log that stays has this id
  pub segment_absent : (id : ℕ) → id < 2 ^ 63
      → ((w : Write) → Contains (segments_with log.past log.id log.sections) w → w.id ≡ id
      → 0 < length w.sections
      → ((o : ℕ) → Contains deeds.dropped o → id ≡ log.base + o → ⊥) → ⊥)
      → finmap.get f (segment_name_of 6 id) ≡ None
  segment_absent id limit none =
      let name = segment_name_of 6 id in
      holds.stands.others name (λ bytes row. elim row [
        | inl segment ↦
            let same : segment.segment.id ≡ id =
            one_id id segment.segment.id limit (id_below segment.segment segment.among)
            (sym segment.name_is) in
            none segment.segment segment.among same segment.some
            (λ o listed is. segment.stays o listed (same ∙ is))
        | inr other ↦ elim other [
          | inl archive ↦
              let in_past = low archive.segment archive.among in
              not_archived archive.segment.id id (omega (arith, in_past, fits)) limit
              archive.name_is
          | inr table ↦
              let p = table.file in
              not_segment id (name_of p) p.put.table p.sequence limit
              (holds.are_placed.each p table.among).named (sym table.name_is)
        ]
      ]) ∙ first_absent
    where
      first_absent : finmap.get first (segment_name_of 6 id) ≡ None
      first_absent = elim (absent_or_held (finmap.get first (segment_name_of 6 id))) [
        | inl none ↦ none
        | inr held ↦ absurd (holds.begun.no_segment
            (segment_name_of 6 id, held, (6, (id, is_named id limit))))
      ]
