-- What a store leaves whose run has ended: segments as they were appended, those that were dropped
-- gone, the table files that were put, and all else as it was.
use Rattle.std.proofs.Common.{
  ◌≡◌,
  ◌⊎◌,
  ℕ,
  ◌+◌,
  ◌^◌,
  ◌<◌,
  ◌≤◌,
  inl,
  inr,
  Bool,
  true,
  false,
  List,
  [],
  ◌∷◌,
  length,
  Option,
  Some,
  None,
  refl,
  sym,
  ◌∙◌,
  ap,
  subst,
  arith,
}
use Rattle.std.specs.Prelude.{Contains, IsSome}
use Rattle.std.specs.FinMap as finmap
use Rattle.std.proofs.lemmas.Bool.{cases_eq, cases_lt}
use Rattle.std.proofs.lemmas.List.Elements.{Contains-append_left}
use Rattle.std.proofs.lemmas.Option.{none-some}
use Rattle.clog_spec.specs.Names.{
  IsArchiveName,
  IsSegmentName,
  IsTableName,
  archive_name_of,
  segment_name_of,
}
use Rattle.clog_base.specs.declared.sizes.Sizes.{Sizes}
use Rattle.clog_base.proofs.Members.{from_map, in_map, nothing_there}
use Rattle.clog_base.proofs.NameLaws.{
  archive_is_no_table,
  one_archive,
  one_segment,
  segment_is_no_other,
}
use Rattle.clog_disk.specs.declared.change.Change.{Change}
use Rattle.clog_disk.specs.Files.{Files}
use Rattle.clog_disk.proofs.Named.{same_or_other}
use Rattle.clog_crash.specs.Folder.{IsHeld}
use Rattle.clog_crash.specs.Log.{Write}
use Rattle.clog_crash.specs.Sections.{segment_bytes}
use Rattle.clog_crash.proofs.OneMore.{bytes_of}
use Rattle.clog_crash.proofs.changes.Names.{is_named, not_segment, one_id}
use Rattle.clog_segments.specs.StoreFolder.{
  Deeds,
  IsRow,
  IsSegmentRow,
  PlacedFile,
  StoreLog,
  name_of,
}
use Rattle.clog_segments.proofs.FolderReads.{absent_or_held, one_or_none}
use Rattle.clog_applied.specs.Appended.{appended}
use Rattle.clog_applied.specs.Closed.{IsArchivedAs, StaysAs, StaysOrWent, WentAs}
use Rattle.clog_applied.specs.Filed.{BringsNoOther, KeepsOthers}
use Rattle.clog_applied.specs.History.{LoggedLine}
use Rattle.clog_closing.specs.Stores.{HasEnded, dropped_ids, ids_in, segments_in}
use Rattle.clog_closing.proofs.Entries.{above_base}
use Rattle.clog_closing.proofs.Logs.{of_log, written}

-- the names of a segment and of an archive
apart_from_archive : (id other : ℕ) → id < 2 ^ 63 → other < 2 ^ 63
    → segment_name_of 6 id ≡ archive_name_of other → ⊥
apart_from_archive id other fits fits' same =
    (segment_is_no_other (segment_name_of 6 id) 6 id (is_named id fits)).0 other
    (record { form = same; id_fits = fits' })

module _ (sizes : Sizes) (opened after : Files) (later : List Change) (log : StoreLog)
    (deeds : Deeds) (history : List LoggedLine)
    (e : HasEnded sizes opened after later log deeds history) where
  abbrev ws : List Write
  ws = segments_in log

  abbrev ids : List ℕ
  ids = ids_in log

  pub fits : (w : Write) → Contains ws w → w.id < 2 ^ 63
  fits w h = (e.goes.stored.stored w h).fits

  pub of_past : (w : Write) → Contains log.past w → Contains ws w
  of_past w h =
      Contains-append_left log.past (record { id = log.id; sections = log.sections } ∷ []) w h

  id_fits : (id : ℕ) → Contains ids id → id < 2 ^ 63
  id_fits id listed =
      let o = of_log ws id listed in
      subst (λ (k : ℕ). k < 2 ^ 63) o.is (fits o.write o.listed)

  pub from_base : (id : ℕ) → Contains ids id → log.base ≤ id
  from_base =
      above_base later log.base log.past log.id log.sections log.logged history e.goes.grown
      e.goes.stored e.goes.places e.goes.notes

  table_named : (p : PlacedFile) → Contains e.folder.placed p
      → IsTableName (name_of p) p.put.table p.sequence
  table_named p among = (e.folder.are_placed.each p among).named

  -- ---- which names are no rows

  -- a segment's name is that of a segment row alone
  segment_alone : (id : ℕ) → id < 2 ^ 63
      → ((bytes : List ℕ) → IsSegmentRow log deeds.dropped (segment_name_of 6 id) bytes → ⊥)
      → finmap.get after (segment_name_of 6 id) ≡ finmap.get opened (segment_name_of 6 id)
  segment_alone id low none =
      e.folder.stands.others (segment_name_of 6 id) (λ bytes row. elim row [
        | inl segment ↦ none bytes segment
        | inr other ↦ elim other [
          | inl archive ↦ apart_from_archive id archive.segment.id low
              (fits archive.segment (of_past archive.segment archive.among)) archive.name_is
          | inr table ↦ not_segment id (name_of table.file) table.file.put.table
              table.file.sequence low (table_named table.file table.among) (sym table.name_is)
        ]
      ])

  -- an archive's is that of an archive row alone
  archive_alone : (id : ℕ) → id < 2 ^ 63
      → ((o : ℕ) → Contains deeds.archived o → id ≡ log.base + o → ⊥)
      → finmap.get after (archive_name_of id) ≡ finmap.get opened (archive_name_of id)
  archive_alone id low none =
      e.folder.stands.others (archive_name_of id) (λ bytes row. elim row [
        | inl segment ↦ apart_from_archive segment.segment.id id
            (fits segment.segment segment.among) low (sym segment.name_is)
        | inr other ↦ elim other [
          | inl archive ↦
              let w = archive.segment in
              let same : id ≡ w.id = one_archive (archive_name_of id) id w.id
              (record { form = refl; id_fits = low })
              (record { form = archive.name_is; id_fits = fits w (of_past w archive.among) }) in
              none archive.ordinal archive.listed (same ∙ archive.id_is)
          | inr table ↦ archive_is_no_table (archive_name_of id) id
              (record { form = refl; id_fits = low }) table.file.put.table table.file.sequence
              (subst (λ (n : List ℕ). IsTableName n table.file.put.table table.file.sequence)
              (sym table.name_is) (table_named table.file table.among))
        ]
      ])

  no_segment_first : (id : ℕ) → id < 2 ^ 63 → finmap.get opened (segment_name_of 6 id) ≡ None
  no_segment_first id low = elim (absent_or_held (finmap.get opened (segment_name_of 6 id))) [
    | inl none ↦ none
    | inr held ↦ absurd (e.folder.begun.no_segment
        (segment_name_of 6 id, held, (6, (id, is_named id low))))
  ]

  no_archive_first : (id : ℕ) → id < 2 ^ 63 → log.base ≤ id
      → finmap.get opened (archive_name_of id) ≡ None
  no_archive_first id low base = elim (absent_or_held (finmap.get opened (archive_name_of id))) [
    | inl none ↦ none
    | inr held ↦
        let less = e.folder.begun.archives id
        (archive_name_of id, held, record { form = refl; id_fits = low }) in
        absurd (omega (arith, less, base))
  ]

  -- ---- a segment that went

  module _ (id : ℕ) (listed : Contains ids id) (o : ℕ) (gone : Contains deeds.dropped o)
      (is : id ≡ log.base + o) where
    went_segment : finmap.get after (segment_name_of 6 id) ≡ None
    went_segment =
        segment_alone id (id_fits id listed) (λ bytes row.
        let same = one_id id row.segment.id (id_fits id listed)
        (fits row.segment row.among) (sym row.name_is) in
        row.stays o gone (same ∙ is))
        ∙ no_segment_first id (id_fits id listed)

    archived_by : (b : Bool) → deeds.archives ≡ b → IsArchivedAs b after id (appended later id)
    archived_by true archive =
        let a = e.folder.done.all_archived archive o gone in
        let p = e.folder.done.archived o a in
        let w = p.segment in
        let same : w.id ≡ id = p.id_is ∙ sym is in
        subst (λ (k : ℕ). finmap.get after (archive_name_of k) ≡ Some (appended later k)) same
        (e.folder.stands.rows (archive_name_of w.id) (segment_bytes w.id w.sections)
        (inr (inl (record {
          segment = w;
          among = p.among;
          some = p.some;
          ordinal = o;
          listed = a;
          id_is = p.id_is;
          name_is = refl;
          bytes_are = refl;
        })))
        ∙ ap Some (sym (e.goes.grown.each w (of_past w p.among))))
    archived_by false no_archive =
        archive_alone id (id_fits id listed) (λ k a same.
        nothing_there k (subst (λ (l : List ℕ). Contains l k)
        (e.folder.done.none_archived no_archive) a))
        ∙ no_archive_first id (id_fits id listed) (from_base id listed)

    went : WentAs deeds.archives after id (appended later id)
    went = record { segment = went_segment; archived = archived_by deeds.archives refl }

  -- ---- a segment that stays

  stays : (id : ℕ) → Contains ids id
      → ((o : ℕ) → Contains deeds.dropped o → id ≡ log.base + o → ⊥)
      → StaysAs after id (appended later id)
  stays id listed kept =
      let o = of_log ws id listed in
      let v = o.write in
      record {
        segment = subst
            (λ (k : ℕ). finmap.get after (segment_name_of 6 k) ≡ Some (appended later k)) o.is
            (e.folder.stands.rows (segment_name_of 6 v.id) (segment_bytes v.id v.sections)
            (inl (record {
              segment = v;
              among = o.listed;
              some = o.some;
              stays = λ k gone same. kept k gone (sym o.is ∙ same);
              name_is = refl;
              bytes_are = refl;
            })) ∙ ap Some (sym (e.goes.grown.each v o.listed)));
        archive = archive_alone id (id_fits id listed) (λ k a same.
            kept k (e.whole.archived k a) same)
            ∙ no_archive_first id (id_fits id listed) (from_base id listed);
      }

  dropped_or_not : (id : ℕ)
      → ((o : ℕ) × Contains deeds.dropped o × (id ≡ log.base + o))
      ⊎ ((o : ℕ) → Contains deeds.dropped o → id ≡ log.base + o → ⊥)
  dropped_or_not id =
      one_or_none (λ (o : ℕ). id ≡ log.base + o) (λ o. cases_eq id (log.base + o)) deeds.dropped

  pub segments : (id : ℕ) → Contains ids id
      → StaysOrWent deeds.archives after (dropped_ids log deeds) id (appended later id)
  segments id listed = elim (dropped_or_not id) [
    | inl gone ↦ inl (
      subst (λ (k : ℕ). Contains (dropped_ids log deeds) k) (sym gone.2)
          (in_map (λ (o : ℕ). log.base + o) deeds.dropped gone.0 gone.1),
      went id listed gone.0 gone.1 gone.2,
    )
    | inr kept ↦ inr (
      λ among.
          let found = from_map (λ (o : ℕ). log.base + o) deeds.dropped id among in
          kept found.0 found.1 (sym found.2),
      stays id listed kept,
    )
  ]

  -- ---- no other segment

  its_segment : (name : List ℕ) (version id : ℕ) → IsSegmentName name version id
      → IsHeld after name → (w : Write) × Contains ws w × (0 < length w.sections)
      × (name ≡ segment_name_of 6 w.id)
  its_segment name version id named held =
      elim (one_or_none (λ (w : Write). (0 < length w.sections) × (name ≡ segment_name_of 6 w.id))
      decides ws) [
        | inl found ↦ (found.0, found.1, found.2.0, found.2.1)
        | inr none ↦
            let same = e.folder.stands.others name (λ bytes row. no_row none bytes row) in
            absurd (e.folder.begun.no_segment
            (name, subst (λ (o : Option (List ℕ)). IsSome o) same held, (version, (id, named))))
      ]
    where
      decides : (w : Write)
          → ((0 < length w.sections) × (name ≡ segment_name_of 6 w.id))
          ⊎ ((0 < length w.sections) × (name ≡ segment_name_of 6 w.id) → ⊥)
      decides w = elim (cases_lt 0 (length w.sections)) [
        | inl some ↦ elim (same_or_other name (segment_name_of 6 w.id)) [
          | inl same ↦ inl (some, same)
          | inr other ↦ inr (λ both. other both.1)
        ]
        | inr none ↦ inr (λ both. omega (arith, none, both.0))
      ]

      no_row : ((w : Write) → Contains ws w
          → (0 < length w.sections) × (name ≡ segment_name_of 6 w.id) → ⊥)
          → (bytes : List ℕ) → IsRow log deeds e.folder.placed name bytes → ⊥
      no_row none bytes row = elim row [
        | inl segment ↦ none segment.segment segment.among (segment.some, segment.name_is)
        | inr other ↦ elim other [
          | inl archive ↦ (segment_is_no_other name version id named).0 archive.segment.id (record {
            form = archive.name_is;
            id_fits = fits archive.segment (of_past archive.segment archive.among);
          })
          | inr table ↦ (segment_is_no_other name version id named).1 table.file.put.table
              table.file.sequence
              (subst (λ (n : List ℕ). IsTableName n table.file.put.table table.file.sequence)
              (sym table.name_is) (table_named table.file table.among))
        ]
      ]

  pub no_other : (name : List ℕ) (version id : ℕ) → IsSegmentName name version id
      → IsHeld after name → (version ≡ 6) × Contains ids id
  no_other name version id named held =
      let s = its_segment name version id named held in
      let one = one_segment name version id 6 s.0.id named
      (subst (λ (n : List ℕ). IsSegmentName n 6 s.0.id) (sym s.3) (is_named s.0.id
      (fits s.0 s.1))) in (
        one.0,
        subst (λ (k : ℕ). Contains ids k) (sym one.1) (written ws s.0 s.1 s.2),
      )

  -- ---- names that have come

  -- the name of a segment that has sections, and the archive name of one
  abbrev IsOf : (ℕ → List ℕ) → List ℕ → Write → Type 0
  IsOf name_at name w = (0 < length w.sections) × (name ≡ name_at w.id)

  is_or_not : (name_at : ℕ → List ℕ) (name : List ℕ) (w : Write)
      → IsOf name_at name w ⊎ (IsOf name_at name w → ⊥)
  is_or_not name_at name w = elim (cases_lt 0 (length w.sections)) [
    | inl some ↦ elim (same_or_other name (name_at w.id)) [
      | inl same ↦ inl (some, same)
      | inr other ↦ inr (λ both. other both.1)
    ]
    | inr none ↦ inr (λ both. omega (arith, none, both.0))
  ]

  -- a name that is no segment's, no archive's and no table file's is no row
  no_row_of : (name : List ℕ) → ((w : Write) → Contains ws w → IsOf (segment_name_of 6) name w → ⊥)
      → ((w : Write) → Contains ws w → IsOf archive_name_of name w → ⊥)
      → ((p : PlacedFile) → Contains e.folder.placed p → name ≡ name_of p → ⊥)
      → (bytes : List ℕ) → IsRow log deeds e.folder.placed name bytes → ⊥
  no_row_of name no_segment no_archive no_table bytes row = elim row [
    | inl segment ↦ no_segment segment.segment segment.among (segment.some, segment.name_is)
    | inr other ↦ elim other [
      | inl archive ↦ no_archive archive.segment (of_past archive.segment archive.among)
          (archive.some, archive.name_is)
      | inr table ↦ no_table table.file table.among table.name_is
    ]
  ]

  pub no_stray : BringsNoOther ids opened after
  no_stray name absent held =
      elim (one_or_none (IsOf (segment_name_of 6) name) (is_or_not (segment_name_of 6) name) ws) [
        | inl found ↦ inl (found.0.id, written ws found.0 found.1 found.2.0, found.2.1)
        | inr no_segment ↦
            elim (one_or_none (IsOf archive_name_of name) (is_or_not archive_name_of name) ws) [
              | inl found ↦
                  inr (inl (found.0.id, written ws found.0 found.1 found.2.0, found.2.1))
              | inr no_archive ↦ elim (one_or_none (λ (p : PlacedFile). name ≡ name_of p)
                  (λ (p : PlacedFile). same_or_other name (name_of p)) e.folder.placed) [
                    | inl found ↦ inr (inr (
                      found.0.put.table,
                      found.0.sequence,
                      subst (λ (n : List ℕ).
                          IsTableName n found.0.put.table found.0.sequence) (sym found.2)
                          (table_named found.0 found.1),
                    ))
                    | inr no_table ↦
                        let same = e.folder.stands.others name
                        (no_row_of name (λ w h is. no_segment w h is)
                        (λ w h is. no_archive w h is) (λ p h is. no_table p h is)) in
                        absurd (none_is_none (finmap.get after name) (same ∙ absent) held)
                  ]
            ]
      ]
    where
      none_is_none : (o : Option (List ℕ)) → o ≡ None → IsSome o → ⊥
      none_is_none o none some = let b = bytes_of o some in none-some b.0 (sym none ∙ b.1)

  -- ---- all else

  -- what was there at the opening, and is no segment's, is no row
  pub others : KeepsOthers opened after
  others name bytes apart there =
      e.folder.stands.others name (λ now row. elim row [
        | inl segment ↦ apart (
          6,
          (
            segment.segment.id,
            subst (λ (n : List ℕ). IsSegmentName n 6 segment.segment.id) (sym segment.name_is)
                (is_named segment.segment.id (fits segment.segment segment.among)),
          ),
        )
        | inr other ↦ elim other [
          | inl archive ↦
              let w = archive.segment in
              let named : IsArchiveName name w.id =
              record { form = archive.name_is; id_fits = fits w (of_past w archive.among) } in
              let less = e.folder.begun.archives w.id (
                name,
                subst (λ (o : Option (List ℕ)). IsSome o) (sym there) refl,
                named,
              ) in
              omega (arith, less, archive.id_is)
          | inr table ↦
              let free = (e.folder.are_placed.each table.file table.among).free in
              none-some bytes (sym free ∙ ap (finmap.get opened) (sym table.name_is) ∙ there)
        ]
      ]) ∙ there
