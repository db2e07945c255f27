-- A folder of a store holds what its keeper has in mind: its log's entries, but for those that were
-- dropped with all their cells in table files, and the files that were put.
use Rattle.std.proofs.Common.{
  ◌≡◌,
  ℕ,
  ◌+◌,
  ◌<◌,
  ◌^◌,
  List,
  [],
  ◌∷◌,
  ◌++◌,
  length,
  take,
  drop,
  Option,
  Some,
  None,
  Contains,
  refl,
  sym,
  ap,
  subst,
  ◌∙◌,
  inl,
  inr,
  arith,
}
use Rattle.std.specs.Prelude.{◌⊎◌, IsSome, unwrap_or}
use Rattle.std.specs.FinMap as finmap
use Rattle.std.specs.List.{flat_map}
use Rattle.std.proofs.lemmas.Bool.{cases_eq, cases_lt}
use Rattle.std.proofs.lemmas.List.{take-append-drop}
use Rattle.std.proofs.lemmas.List.Elements.{
  Contains-append_cases,
  Contains-append_left,
  Contains-append_right,
  Contains-push_cases,
}
use Rattle.clog_spec.specs.Names.{IsTableName, segment_name_of, table_name_of}
use Rattle.clog_spec.specs.Sizes.{header_size}
use Rattle.clog_base.specs.declared.cell.Table.{Table}
use Rattle.clog_base.specs.Positions.{IsBelow, IsUpTo, offset_of, ordinal_of, position_of}
use Rattle.clog_base.proofs.Members.{
  first_or_further,
  from_flat,
  from_map,
  further,
  here,
  in_flat,
  in_map,
  nothing_there,
}
use Rattle.clog_base.proofs.NameLaws.{archive_is_no_table}
use Rattle.clog_disk.specs.Files.{Files, bytes_at}
use Rattle.clog_disk.proofs.Named.{same_or_other}
use Rattle.clog_mutation.specs.Payload.{payload_of}
use Rattle.clog_scan.specs.Cut.{Section}
use Rattle.clog_scan.specs.Segment.{Entry, entries_of}
use Rattle.clog_table.specs.declared.table_file.TableFile.{TableFile}
use Rattle.clog_table.specs.Refusals.{IsFileOf}
use Rattle.clog_table.proofs.Again.{one_table_file}
use Rattle.clog_crash.specs.Log.{Write}
use Rattle.clog_crash.specs.Readings.{IsLoggedIn, IsSkippedIn, IsTableIn, Reading}
use Rattle.clog_crash.specs.Rest.{settled}
use Rattle.clog_crash.specs.Runs.{Placed, placed, placed_log, placed_of}
use Rattle.clog_crash.specs.Sections.{IsStored, segment_bytes}
use Rattle.clog_crash.proofs.changes.Names.{is_named, not_segment, one_id}
use Rattle.clog_crash.proofs.changes.Nothing.{reads_as}
use Rattle.clog_crash.proofs.flush.NewFile.{one_place}
use Rattle.clog_crash.proofs.rest.Sectioned.{logged_of, nothing_logged_in, stored_front}
use Rattle.clog_crash.proofs.rest.Settled.{settled_here, settled_there}
use Rattle.path_core.specs.declared.note.EntryNote.{EntryNote}
use Rattle.path_core.specs.Keeper.{Holding, IsFiledIn, PutFile}
use Rattle.clog_segments.specs.Grows.{segments_with}
use Rattle.clog_segments.specs.NoteLog.{HasLog, IsGood, IsNoteLog, NoteState}
use Rattle.clog_segments.specs.Notes.{payload_in, place_of}
use Rattle.clog_segments.specs.OnDisk.{
  IsAllFiled,
  IsAllOnDisk,
  IsEntryOf,
  IsFileOn,
  IsOnIt,
  file_on,
}
use Rattle.clog_segments.specs.StoreFolder.{
  Deeds,
  HoldsStore,
  PlacedFile,
  deeds_of,
  log_of,
  name_of,
}
use Rattle.clog_segments.proofs.AllGo.{not_archived}
use Rattle.clog_segments.proofs.Noted.{payload_is}
use Rattle.clog_segments.proofs.NoteRuns.{placed_good}
use Rattle.clog_segments.proofs.OnDisk.{below_key_from, up_to_key_from}

-- ---- one of a list, or none

pub one_or_none : {A : Type 0} (P : A → Type 0) → ((x : A) → P x ⊎ (P x → ⊥)) → (xs : List A)
    → ((x : A) × Contains xs x × P x) ⊎ ((x : A) → Contains xs x → P x → ⊥)
one_or_none P decides [] = inr (λ x h p. nothing_there x h)
one_or_none P decides (x ∷ xs) = elim (decides x) [
  | inl is ↦ inl (x, here x xs, is)
  | inr not ↦ elim (one_or_none P decides xs) [
    | inl found ↦ inl (found.0, further x xs found.0 found.1, found.2)
    | inr none ↦ inr (λ y h p. elim (first_or_further x xs y h) [
      | inl same ↦ not (subst P (sym same) p)
      | inr more ↦ none y more p
    ])
  ]
]

pub absent_or_held : {A : Type 0} (o : Option A) → (o ≡ None) ⊎ IsSome o
absent_or_held None = inl refl
absent_or_held (Some x) = inr refl

-- ---- the entry of a note

-- the entry that stands at a note's place is the note's
pub entry_is : {D : Type 0} (s : NoteState D) (n : EntryNote) (id : ℕ) (entry : Entry)
    → IsGood s.sizes n → place_of s.base n ≡ (id, entry) → IsEntryOf s.base id entry n
entry_is s n id entry good same =
    let p = placed_good s.base s.sizes n good in
    let ids : s.base + ordinal_of n.start.0 ≡ id = ap (λ (x : Placed). x.0) same in
    let ends : (place_of s.base n).1.end ≡ entry.end = ap (λ (x : Placed). x.1.end) same in
    let long = good.in_segment.long in
    let inside = p.inside in
    let end = p.end in
    let id_is : s.base + ordinal_of n.end.0 ≡ id = omega (arith, ids, long, inside) in
    let offset_is : offset_of n.end.0 ≡ entry.end = omega (arith, ends, end, long, inside) in
    record {
      segment = sym ids;
      place = λ i. record { id = id_is i; offset = offset_is i };
      whole = good.whole;
      said = record {
        stored = good.whole.stored;
        spelled = sym (ap (λ (x : Placed). x.1.payload) same) ∙ ap payload_in good.whole.bytes
            ∙ payload_is (payload_of good.whole.mutation);
      };
    }

-- a segment with an entry has a section
pub has_section : (sections : List Section) (entry : Entry)
    → Contains (entries_of header_size sections) entry → 0 < length sections
has_section [] entry h = absurd (nothing_there entry h)
has_section (x ∷ xs) entry h = omega arith

module _ {D : Type 0} (first now : Files) (s : NoteState D) (deeds : Deeds)
    (holds : HoldsStore first (log_of s) deeds now)
    (below : (w : Write) → Contains s.log.past w → w.id < s.log.id) (fits : s.log.id < 2 ^ 63) where
  abbrev hand : Write
  hand = record { id = s.log.id; sections = s.log.sections }

  abbrev segments : List Write
  segments = segments_with s.log.past s.log.id s.log.sections

  -- ---- segments

  pub id_fits : (w : Write) → Contains segments w → w.id < 2 ^ 63
  id_fits w among = elim (Contains-push_cases s.log.past hand w among) [
    | inl before ↦ omega (arith, below w before, fits)
    | inr same ↦ subst (λ (x : Write). x.id < 2 ^ 63) same fits
  ]

  dropped_or_not : (id : ℕ)
      → ((o : ℕ) × Contains deeds.dropped o × (id ≡ s.base + o))
      ⊎ ((o : ℕ) → Contains deeds.dropped o → id ≡ s.base + o → ⊥)
  dropped_or_not id =
      one_or_none (λ (o : ℕ). id ≡ s.base + o) (λ o. cases_eq id (s.base + o)) deeds.dropped

  pub record IsIt (id : ℕ) (w : Write) : Type 0 where
    pub same : w.id ≡ id
    pub some : 0 < length w.sections

  is_or_not : (id : ℕ) (w : Write) → IsIt id w ⊎ (IsIt id w → ⊥)
  is_or_not id w = elim (cases_eq w.id id) [
    | inr apart ↦ inr (λ is. apart is.same)
    | inl same ↦ elim (cases_lt 0 (length w.sections)) [
      | inl some ↦ inl (record { same = same; some = some })
      | inr none ↦ inr (λ is. omega (arith, none, is.some))
    ]
  ]

  absent_first : (id : ℕ) → id < 2 ^ 63
      → finmap.get first (segment_name_of 6 id) ≡ None
  absent_first id limit = elim (absent_or_held (finmap.get first (segment_name_of 6 id))) [
    | inl none ↦ none
    | inr held ↦ absurd (holds.begun.no_segment
        (segment_name_of 6 id, held, (6, (id, is_named id limit))))
  ]

  -- no segment of the log that stays has this id
  pub absent_now : (id : ℕ) → id < 2 ^ 63
      → ((w : Write) → Contains segments w → IsIt id w
      → ((o : ℕ) → Contains deeds.dropped o → id ≡ s.base + o → ⊥) → ⊥)
      → finmap.get now (segment_name_of 6 id) ≡ None
  absent_now id limit none =
      let name = segment_name_of 6 id in
      holds.stands.others name (λ bytes row. elim row [
        | inl segment ↦
            let same : segment.segment.id ≡ id =
            one_id id segment.segment.id limit (id_fits segment.segment segment.among)
            (sym segment.name_is) in
            none segment.segment segment.among (record { same = same; some = segment.some })
            (λ o listed is. segment.stays o listed (same ∙ is))
        | inr other ↦ elim other [
          | inl archive ↦
              let in_past = below archive.segment archive.among in
              not_archived archive.segment.id id (omega (arith, in_past, fits)) limit
              archive.name_is
          | inr table ↦
              let p = table.file in
              not_segment id (name_of p) p.put.table p.sequence limit
              (holds.are_placed.each p table.among).named (sym table.name_is)
        ]
      ]) ∙ absent_first id limit

  pub stays_reads : (w : Write) → Contains segments w → 0 < length w.sections
      → ((o : ℕ) → Contains deeds.dropped o → w.id ≡ s.base + o → ⊥)
      → bytes_at now (segment_name_of 6 w.id) ≡ segment_bytes w.id w.sections
  stays_reads w among some stays =
      reads_as now (segment_name_of 6 w.id) (segment_bytes w.id w.sections)
      (holds.stands.rows (segment_name_of 6 w.id) (segment_bytes w.id w.sections) (inl (record {
        segment = w;
        among = among;
        some = some;
        stays = stays;
        name_is = refl;
        bytes_are = refl;
      })))

  -- an earlier segment's name reads as its sections, or as nothing
  past_reads : (id : ℕ) → id < 2 ^ 63 → (id ≡ s.log.id → ⊥)
      → ((w : Write) × Contains s.log.past w × (w.id ≡ id)
      × (bytes_at now (segment_name_of 6 id) ≡ segment_bytes id w.sections))
      ⊎ (bytes_at now (segment_name_of 6 id) ≡ [])
  past_reads id limit apart = elim (one_or_none (IsIt id) (is_or_not id) s.log.past) [
    | inl found ↦ elim (dropped_or_not id) [
      | inl gone ↦ inr (ap (λ (o : Option (List ℕ)). unwrap_or o []) (absent_now id limit
          (λ w among is stays. stays gone.0 gone.1 gone.2)))
      | inr stays ↦
          let w = found.0 in
          let is = found.2 in
          inl (
            w,
            found.1,
            is.same,
            subst (λ (k : ℕ).
                bytes_at now (segment_name_of 6 k) ≡ segment_bytes k w.sections) is.same
                (stays_reads w (Contains-append_left s.log.past (hand ∷ []) w found.1) is.some
                (λ o listed same. stays o listed (sym is.same ∙ same))),
          )
    ]
    | inr none ↦ inr (ap (λ (o : Option (List ℕ)). unwrap_or o []) (absent_now id limit
        (λ w among is stays. elim (Contains-push_cases s.log.past hand w among) [
          | inl before ↦ none w before is
          | inr same ↦ apart (sym is.same ∙ ap (λ (x : Write). x.id) (sym same))
        ])))
  ]

  module _ (past_stored : (w : Write) → Contains s.log.past w → IsStored w.id w.sections)
      (stored : IsStored s.log.id s.log.sections) where
    abbrev old : List Section
    old = take s.log.synced s.log.sections

    abbrev r : Reading
    r = settled now s.log.id old

    old_stored : IsStored s.log.id old
    old_stored =
        stored_front s.log.id old (drop s.log.synced s.log.sections)
        (subst (IsStored s.log.id) (sym (take-append-drop s.log.synced s.log.sections)) stored)

    elsewhere : (id : ℕ) → id < 2 ^ 63 → (id ≡ s.log.id → ⊥)
        → r (segment_name_of 6 id) ≡ bytes_at now (segment_name_of 6 id)
    elsewhere id limit apart =
        settled_there now s.log.id old (segment_name_of 6 id)
        (λ same. apart (one_id s.log.id id fits limit same))

    -- ---- entries

    -- what is logged stands in the sections
    pub logged_placed : (id : ℕ) (entry : Entry) → IsLoggedIn r id entry
        → Contains (placed_log s.log.past s.log.id old) (id, entry)
    logged_placed id entry l =
        let earlier = flat_map placed_of s.log.past in
        let last = placed s.log.id (entries_of header_size old) in
        elim (cases_eq id s.log.id) [
          | inl same ↦
              let at_hand = subst (λ (k : ℕ). IsLoggedIn r k entry) same l in
              subst (λ (k : ℕ). Contains (earlier ++ last) (k, entry)) (sym same)
              (Contains-append_right earlier last (s.log.id, entry)
              (in_map (λ (e : Entry). (s.log.id, e)) (entries_of header_size old) entry
              ((logged_of r s.log.id old old_stored (settled_here now s.log.id old) entry).0
              at_hand)))
          | inr apart ↦ elim (past_reads id l.fits apart) [
            | inr nothing ↦ absurd (nothing_logged_in r id entry
                (elsewhere id l.fits apart ∙ nothing) l)
            | inl found ↦
                let w = found.0 in
                let st = subst (λ (k : ℕ). IsStored k w.sections) found.2
                (past_stored w found.1) in
                let listed = (logged_of r id w.sections st
                (elsewhere id l.fits apart ∙ found.3) entry).0 l in
                Contains-append_left earlier last (id, entry)
                (in_flat placed_of s.log.past w (id, entry) found.1
                (subst (λ (k : ℕ). Contains (placed_of w) (k, entry)) found.2
                (in_map (λ (e : Entry). (w.id, e)) (entries_of header_size w.sections) entry
                listed)))
          ]
        ]

    -- what stands in them is logged, unless it was dropped
    pub placed_logged : (id : ℕ) (entry : Entry)
        → Contains (placed_log s.log.past s.log.id old) (id, entry)
        → ((o : ℕ) → Contains deeds.dropped o → id ≡ s.base + o → ⊥) → IsLoggedIn r id entry
    placed_logged id entry there stays =
        let earlier = flat_map placed_of s.log.past in
        let last = placed s.log.id (entries_of header_size old) in
        elim (Contains-append_cases earlier last (id, entry) there) [
          | inr at_hand ↦
              let found = from_map (λ (e : Entry). (s.log.id, e)) (entries_of header_size old)
              (id, entry) at_hand in
              let ids : s.log.id ≡ id = ap (λ (p : Placed). p.0) found.2 in
              let entries : found.0 ≡ entry = ap (λ (p : Placed). p.1) found.2 in
              subst (λ (k : ℕ). IsLoggedIn r k entry) ids
              ((logged_of r s.log.id old old_stored (settled_here now s.log.id old) entry).1
              (subst (Contains (entries_of header_size old)) entries found.1))
          | inl before ↦
              let in_one = from_flat placed_of s.log.past (id, entry) before in
              let w = in_one.0 in
              let found = from_map (λ (e : Entry). (w.id, e)) (entries_of header_size w.sections)
              (id, entry) in_one.2 in
              let ids : w.id ≡ id = ap (λ (p : Placed). p.0) found.2 in
              let entries : found.0 ≡ entry = ap (λ (p : Placed). p.1) found.2 in
              let listed = subst (Contains (entries_of header_size w.sections)) entries found.1 in
              let low = below w in_one.1 in
              subst (λ (k : ℕ). IsLoggedIn r k entry) ids
              ((logged_of r w.id w.sections (past_stored w in_one.1)
              (elsewhere w.id (omega (arith, low, fits)) (λ same. omega (arith, low, same))
              ∙ stays_reads w (Contains-append_left s.log.past (hand ∷ []) w in_one.1)
              (has_section w.sections entry listed)
              (λ o gone is. stays o gone (sym ids ∙ is))) entry).1 listed)
        ]

    -- ---- table files

    table_apart : (name : List ℕ) (table sequence : ℕ) → IsTableName name table sequence
        → r name ≡ bytes_at now name
    table_apart name table sequence named =
        settled_there now s.log.id old name
        (not_segment s.log.id name table sequence fits named)

    placed_in : (p : PlacedFile) → Contains holds.placed p → IsTableIn r (file_on s.base p.put)
    placed_in p among =
        let is = holds.are_placed.each p among in
        record {
          sequence = p.sequence;
          named = is.named;
          spelled = subst
              (λ (b : List ℕ). IsFileOf (file_on s.base p.put).table b (file_on s.base p.put))
              (sym (table_apart (name_of p) p.put.table p.sequence is.named
              ∙ reads_as now (name_of p) p.bytes (holds.stands.rows (name_of p) p.bytes
              (inr (inr (record {
                file = p;
                among = among;
                name_is = refl;
                bytes_are = refl;
              })))))) is.spelled;
        }

    -- a table file was put, or was there at the opening
    pub table_in : (file : TableFile) → IsTableIn r file
        → ((p : PlacedFile) × Contains holds.placed p × (file ≡ file_on s.base p.put))
        ⊎ IsTableIn (bytes_at first) file
    table_in file t =
        let name = table_name_of file.table.0 t.sequence in
        let reads = table_apart name file.table.0 t.sequence t.named in
        elim (one_or_none (λ (p : PlacedFile). name ≡ name_of p)
        (λ p. same_or_other name (name_of p)) holds.placed) [
          | inl found ↦
              let p = found.0 in
              let is = holds.are_placed.each p found.1 in
              let put = file_on s.base p.put in
              let bytes : r name ≡ p.bytes =
              reads ∙ reads_as now name p.bytes (holds.stands.rows name p.bytes
              (inr (inr (record {
                file = p;
                among = found.1;
                name_is = found.2;
                bytes_are = refl;
              })))) in
              let tables : file.table ≡ put.table =
              one_place name file.table put.table t.sequence p.sequence t.named
              (subst (λ (n : List ℕ). IsTableName n p.put.table p.sequence) (sym found.2)
              is.named) in
              inl (
                p,
                found.1,
                one_table_file put.table p.bytes put file is.spelled
                    (subst (λ (b : List ℕ). IsFileOf put.table b file) bytes
                    (subst (λ (k : Table). IsFileOf k (r name) file) tables t.spelled)),
              )
          | inr none ↦
              let still : finmap.get now name ≡ finmap.get first name =
              holds.stands.others name (λ bytes row. elim row [
                | inl segment ↦
                    not_segment segment.segment.id name file.table.0 t.sequence
                    (id_fits segment.segment segment.among) t.named segment.name_is
                | inr other ↦ elim other [
                  | inl archive ↦
                      let low = below archive.segment archive.among in
                      archive_is_no_table name archive.segment.id (record {
                        form = archive.name_is;
                        id_fits = omega (arith, low, fits);
                      }) file.table.0 t.sequence t.named
                  | inr table ↦ none table.file table.among table.name_is
                ]
              ]) in
              inr (record {
                sequence = t.sequence;
                named = t.named;
                spelled = subst (λ (b : List ℕ). IsFileOf file.table b file)
                    (reads ∙ ap (λ (o : Option (List ℕ)). unwrap_or o []) still) t.spelled;
              })
        ]

    -- a file that was put is one of those in mind
    put_of : (p : PlacedFile) → Contains holds.placed p → Contains deeds.files p.put
    put_of p among =
        subst (λ (l : List PutFile). Contains l p.put) holds.are_placed.are
        (in_map (λ (q : PlacedFile). q.put) holds.placed p among)

    skips : (table : Table) (key : ℕ) → IsSkippedIn r table (position_of s.base key)
        → IsFiledIn deeds.files table.0 key
    skips table key skipped = elim (table_in skipped.file skipped.there) [
      | inl found ↦
          let p = found.0 in
          let same = found.2 in
          record {
            file = p.put;
            among = put_of p found.1;
            of_table = ap (λ (f : TableFile). f.table.0) (sym same)
                ∙ ap (λ (t : Table). t.0) skipped.same_table;
            above = below_key_from s.base p.put.lower key
                (subst (λ (f : TableFile). IsBelow f.lower (position_of s.base key)) same
                skipped.inside.above);
            up_to = up_to_key_from s.base key p.put.upper
                (subst (λ (f : TableFile). IsUpTo (position_of s.base key) f.upper) same
                skipped.inside.up_to);
          }
      | inr before ↦
          let low = holds.begun.tables skipped.file before in
          absurd (elim skipped.inside.up_to [
            | inl lower ↦ omega (arith, lower, low)
            | inr same ↦ omega (arith, same.0, low)
          ])
    ]

    file_there : (put : PutFile) → Contains deeds.files put
        → (file : TableFile) × IsTableIn r file × IsFileOn s.base put file
    file_there put among =
        let found = from_map (λ (q : PlacedFile). q.put) holds.placed put
        (subst (λ (l : List PutFile). Contains l put) (sym holds.are_placed.are) among) in
        let p = found.0 in (
          file_on s.base put,
          subst (λ (f : PutFile). IsTableIn r (file_on s.base f)) found.2
              (placed_in p found.1),
          record { table = refl; lower = refl; upper = refl },
        )

    -- ---- notes

    module _ (is : IsNoteLog s) where
      abbrev shown : List EntryNote
      shown = s.logged ++ take is.stands.lasting s.kept

      among_all : (n : EntryNote) → Contains shown n → Contains (s.logged ++ s.kept) n
      among_all n among =
          let front = take is.stands.lasting s.kept in
          elim (Contains-append_cases s.logged front n among) [
            | inl logged ↦ Contains-append_left s.logged s.kept n logged
            | inr kept ↦ Contains-append_right s.logged s.kept n
                (subst (λ (l : List EntryNote). Contains l n)
                (take-append-drop is.stands.lasting s.kept)
                (Contains-append_left front (drop is.stands.lasting s.kept) n kept))
          ]

      note_of : (id : ℕ) (entry : Entry) → IsLoggedIn r id entry
          → (n : EntryNote) × Contains (s.logged ++ s.kept) n × IsEntryOf s.base id entry n
      note_of id entry l =
          let found = from_map (place_of s.base) shown (id, entry)
          (subst (λ (ps : List Placed). Contains ps (id, entry)) is.stands.lasts
          (logged_placed id entry l)) in
          let n = found.0 in
          let among = among_all n found.1 in
          (n, among, entry_is s n id entry (is.good n among) found.2)

      on_it : (n : EntryNote) → Contains s.logged n
          → ((o : ℕ) → Contains deeds.dropped o → s.base + ordinal_of n.start.0 ≡ s.base + o → ⊥)
          → (entry : Entry) × IsLoggedIn r (s.base + ordinal_of n.start.0) entry
          × IsEntryOf s.base (s.base + ordinal_of n.start.0) entry n
      on_it n among stays =
          let at = place_of s.base n in
          let kept = take is.stands.lasting s.kept in
          let there = subst (λ (ps : List Placed). Contains ps at) (sym is.stands.lasts)
          (in_map (place_of s.base) shown n (Contains-append_left s.logged kept n among)) in (
            at.1,
            placed_logged at.0 at.1 there stays,
            entry_is s n at.0 at.1 (is.good n (Contains-append_left s.logged s.kept n among)) refl,
          )

      module _ (h : Holding) (has : HasLog s h) (are : deeds_of h ≡ deeds) where
        -- the keeper with the log's own fields
        abbrev k : Holding
        k = record h {
          base = s.base;
          sizes = s.sizes;
          synced = s.synced;
          logged = s.logged;
          kept = s.kept;
          files = deeds.files;
        }

        logged_or_filed : (n : EntryNote) → Contains s.logged n → IsOnIt k r n ⊎ IsAllFiled k n
        logged_or_filed n among = elim (dropped_or_not (s.base + ordinal_of n.start.0)) [
          | inr stays ↦ inl (on_it n among stays)
          | inl gone ↦
              let same : gone.0 ≡ ordinal_of n.start.0 = omega (arith, gone.2) in
              inr (holds.done.filed n among (subst (Contains deeds.dropped) same gone.1))
        ]

        on_disk : IsAllOnDisk k r
        on_disk = record {
          on_disk = record { entries = note_of; files = file_there };
          logged = logged_or_filed;
          skips = skips;
          tiled = holds.done.tiled;
          kept_beyond = is.above;
        }

        same_keeper : k ≡ h
        same_keeper = λ i. record h {
          base = sym has.base_is i;
          sizes = sym has.sizes_are i;
          synced = sym has.synced_is i;
          logged = sym has.logged_are i;
          kept = sym has.kept_are i;
          files = sym (ap (λ (d : Deeds). d.files) are) i;
        }

        pub all_on_disk : IsAllOnDisk h r
        all_on_disk = subst (λ (x : Holding). IsAllOnDisk x r) same_keeper on_disk
