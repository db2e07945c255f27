-- A folder is a store's still once a sync has written further segments.
use Rattle.std.proofs.Common.{
  ◌≡◌,
  ℕ,
  ◌+◌,
  ◌<◌,
  ◌≤◌,
  ◌^◌,
  List,
  [],
  ◌∷◌,
  ◌++◌,
  length,
  Some,
  Contains,
  refl,
  sym,
  ap,
  subst,
  ◌∙◌,
  inl,
  inr,
  arith,
  Option,
  append-nil,
}
use Rattle.std.specs.Prelude.{◌⊎◌, unwrap_or}
use Rattle.std.specs.FinMap as finmap
use Rattle.std.proofs.lemmas.List.Elements.{
  Contains-append_cases,
  Contains-append_left,
  Contains-append_right,
  Contains-push,
  Contains-push_cases,
}
use Rattle.clog_spec.specs.Names.{archive_name_of, segment_name_of}
use Rattle.clog_base.specs.Positions.{ordinal_of}
use Rattle.clog_base.proofs.Members.{nothing_there}
use Rattle.clog_disk.specs.Files.{Files, bytes_at}
use Rattle.clog_scan.specs.Cut.{Section}
use Rattle.clog_crash.specs.Log.{Write}
use Rattle.clog_crash.specs.Sections.{segment_bytes}
use Rattle.clog_crash.proofs.changes.Names.{not_segment, one_id}
use Rattle.path_core.specs.declared.note.EntryNote.{EntryNote}
use Rattle.clog_segments.specs.Grows.{segments_with}
use Rattle.clog_segments.specs.Life.{past_with}
use Rattle.clog_segments.specs.NoteLog.{HasWritten, IsNotOf, LeavesOthers, NoteState}
use Rattle.clog_segments.specs.StoreFolder.{
  Deeds,
  HoldsStore,
  IsPast,
  IsRow,
  IsSound,
  StoreLog,
  log_of,
  name_of,
}
use Rattle.clog_segments.proofs.FolderNames.{
  AreBelow,
  archive_apart,
  has_bytes,
  held_as,
  segment_absent,
}
use Rattle.clog_store.proofs.NoteLeaves.{
  behind_are,
  behind_grown,
  behind_one,
  behind_or_on,
  left_behind,
}

module _ (first f g : Files) (log : StoreLog) (deeds : Deeds)
    (holds : HoldsStore first log deeds f) (low : AreBelow log) (more : List Write) (id : ℕ)
    (sections : List Section) (run : List EntryNote) (fits : id < 2 ^ 63)
    (below : (w : Write) → Contains more w → w.id < id)
    (later : (w : Write) → Contains (segments_with more id sections) w → log.id ≤ w.id)
    (grown : 0 < length log.sections → HasWritten log.id (segments_with more id sections))
    (others : (name : List ℕ) → IsNotOf (segments_with more id sections) name
    → finmap.get g name ≡ finmap.get f name)
    (left : (w : Write) → Contains more w
    → bytes_at g (segment_name_of 6 w.id) ≡ segment_bytes w.id w.sections)
    (reads : bytes_at g (segment_name_of 6 id) ≡ segment_bytes id sections)
    (stay : (n : EntryNote) → Contains run n → Contains deeds.dropped (ordinal_of n.start.0) → ⊥)
  where
    abbrev hand : Write
    hand = record { id = id; sections = sections }

    abbrev written : List Write
    written = segments_with more id sections

    abbrev pub synced : StoreLog
    synced = record log {
      past = log.past ++ more;
      id = id;
      sections = sections;
      logged = log.logged ++ run;
    }

    abbrev segments : List Write
    segments = segments_with synced.past id sections

    forward : log.id ≤ id
    forward = later hand (Contains-push more hand)

    parts : (w : Write) → Contains segments w → Contains log.past w ⊎ Contains written w
    parts w among = elim (Contains-push_cases (log.past ++ more) hand w among) [
      | inr same ↦ inr (subst (Contains written) same (Contains-push more hand))
      | inl past ↦ elim (Contains-append_cases log.past more w past) [
        | inl before ↦ inl before
        | inr new ↦ inr (Contains-append_left more (hand ∷ []) w new)
      ]
    ]

    from_past : (w : Write) → Contains log.past w → Contains segments w
    from_past w among =
        Contains-append_left (log.past ++ more) (hand ∷ []) w
        (Contains-append_left log.past more w among)

    from_written : (w : Write) → Contains written w → Contains segments w
    from_written w among = elim (Contains-push_cases more hand w among) [
      | inl new ↦ Contains-append_left (log.past ++ more) (hand ∷ []) w
          (Contains-append_right log.past more w new)
      | inr same ↦ subst (Contains segments) same (Contains-push (log.past ++ more) hand)
    ]

    reads_written : (w : Write) → Contains written w
        → bytes_at g (segment_name_of 6 w.id) ≡ segment_bytes w.id w.sections
    reads_written w among = elim (Contains-push_cases more hand w among) [
      | inl new ↦ left w new
      | inr same ↦ subst
          (λ (x : Write). bytes_at g (segment_name_of 6 x.id) ≡ segment_bytes x.id x.sections) same
          reads
    ]

    past_limit : (w : Write) → Contains log.past w → w.id < 2 ^ 63
    past_limit w among = omega (arith, low w among, forward, fits)

    apart_past : (w : Write) → Contains log.past w → IsNotOf written (segment_name_of 6 w.id)
    apart_past w among v new some limit same =
        let one = one_id v.id w.id limit (past_limit w among) same in
        omega (arith, one, low w among, later v new)

    -- what was dropped or archived is no segment that was written
    not_new : (o : ℕ) → IsPast log o → (w : Write) → Contains written w → w.id ≡ log.base + o → ⊥
    not_new o past w new is =
        omega (arith, low past.segment past.among, past.id_is, later w new, is)

    rows_synced : (name bytes : List ℕ) → IsRow synced deeds holds.placed name bytes
        → finmap.get g name ≡ Some bytes
    rows_synced name bytes row = elim row [
      | inl r ↦
          let w = r.segment in
          let n = segment_name_of 6 w.id in
          subst (λ (m : List ℕ). finmap.get g m ≡ Some bytes) (sym r.name_is)
          (elim (parts w r.among) [
            | inl before ↦ others n (apart_past w before) ∙ holds.stands.rows n bytes (inl (record {
              segment = w;
              among = Contains-append_left log.past
                  (record { id = log.id; sections = log.sections } ∷ []) w before;
              some = r.some;
              stays = r.stays;
              name_is = refl;
              bytes_are = r.bytes_are;
            }))
            | inr new ↦ held_as g n (segment_bytes w.id w.sections) (reads_written w new)
                (has_bytes w.id w.sections r.some) ∙ ap Some (sym r.bytes_are)
          ])
      | inr more_rows ↦ elim more_rows [
        | inl r ↦
            let w = r.segment in
            let n = archive_name_of w.id in
            elim (Contains-append_cases log.past more w r.among) [
              | inl before ↦ subst (λ (m : List ℕ). finmap.get g m ≡ Some bytes) (sym r.name_is)
                  (others n (λ v new some limit same.
                  archive_apart w.id v.id (past_limit w before) limit same)
                  ∙ holds.stands.rows n bytes (inr (inl (record {
                    segment = w;
                    among = before;
                    some = r.some;
                    ordinal = r.ordinal;
                    listed = r.listed;
                    id_is = r.id_is;
                    name_is = refl;
                    bytes_are = r.bytes_are;
                  }))))
              | inr new ↦ absurd (not_new r.ordinal (holds.done.archived r.ordinal r.listed) w
                  (Contains-append_left more (hand ∷ []) w new) r.id_is)
            ]
        | inr r ↦
            let p = r.file in
            let is = holds.are_placed.each p r.among in
            subst (λ (m : List ℕ). finmap.get g m ≡ Some bytes) (sym r.name_is)
            (others (name_of p) (λ v new some limit same.
            not_segment v.id (name_of p) p.put.table p.sequence limit is.named same)
            ∙ holds.stands.rows (name_of p) bytes (inr (inr (record {
              file = p;
              among = r.among;
              name_is = refl;
              bytes_are = r.bytes_are;
            }))))
      ]
    ]

    -- what stood by no row still does
    others_synced : (name : List ℕ)
        → ((bytes : List ℕ) → IsRow synced deeds holds.placed name bytes → ⊥)
        → finmap.get g name ≡ finmap.get first name
    others_synced name none =
        others name (λ v new some limit same. none (segment_bytes v.id v.sections) (inl (record {
          segment = v;
          among = from_written v new;
          some = some;
          stays = λ o listed is. not_new o (holds.done.dropped o listed) v new is;
          name_is = same;
          bytes_are = refl;
        })))
        ∙ holds.stands.others name (λ bytes row. elim row [
          | inl r ↦ elim (Contains-push_cases log.past
              (record { id = log.id; sections = log.sections }) r.segment r.among) [
                | inl before ↦ none bytes (inl (record {
                  segment = r.segment;
                  among = from_past r.segment before;
                  some = r.some;
                  stays = r.stays;
                  name_is = r.name_is;
                  bytes_are = r.bytes_are;
                }))
                | inr same ↦
                    let has = grown (subst (λ (x : Write). 0 < length x.sections) (sym same)
                    r.some) in
                    let ids : has.segment.id ≡ r.segment.id =
                    has.id_is ∙ ap (λ (x : Write). x.id) same in
                    none (segment_bytes has.segment.id has.segment.sections) (inl (record {
                      segment = has.segment;
                      among = from_written has.segment has.among;
                      some = has.some;
                      stays = λ o listed is. r.stays o listed (sym ids ∙ is);
                      name_is = r.name_is ∙ ap (segment_name_of 6) (sym ids);
                      bytes_are = refl;
                    }))
              ]
          | inr rest ↦ elim rest [
            | inl r ↦ none bytes (inr (inl (record {
              segment = r.segment;
              among = Contains-append_left log.past more r.segment r.among;
              some = r.some;
              ordinal = r.ordinal;
              listed = r.listed;
              id_is = r.id_is;
              name_is = r.name_is;
              bytes_are = r.bytes_are;
            })))
            | inr r ↦ none bytes (inr (inr r))
          ]
        ])

    past_still : (o : ℕ) → IsPast log o → IsPast synced o
    past_still o past = record {
      segment = past.segment;
      among = Contains-append_left log.past more past.segment past.among;
      some = past.some;
      id_is = past.id_is;
    }

    pub holds_synced : HoldsStore first synced deeds g
    holds_synced = record {
      begun = holds.begun;
      done = record {
        dropped = λ o listed. past_still o (holds.done.dropped o listed);
        archived = λ o listed. past_still o (holds.done.archived o listed);
        all_archived = holds.done.all_archived;
        none_archived = holds.done.none_archived;
        filed = λ n among gone. elim (Contains-append_cases log.logged run n among) [
          | inl before ↦ holds.done.filed n before gone
          | inr new ↦ absurd (stay n new gone)
        ];
        tiled = holds.done.tiled;
      };
      placed = holds.placed;
      are_placed = holds.are_placed;
      stands = record { rows = rows_synced; others = others_synced };
    }

-- the same over a log of notes
pub holds_notes_synced : {D : Type 0} (first f g : Files) (before now : NoteState D)
    (deeds : Deeds) (run : List EntryNote) → HoldsStore first (log_of before) deeds f
    → IsSound before.log → IsSound now.log → LeavesOthers before.log now.log (Some f) (Some g)
    → bytes_at g (segment_name_of 6 now.log.id) ≡ segment_bytes now.log.id now.log.sections
    → now.base ≡ before.base → now.logged ≡ before.logged ++ run
    → ((n : EntryNote) → Contains run n → Contains deeds.dropped (ordinal_of n.start.0) → ⊥)
    → HoldsStore first (log_of now) deeds g
holds_notes_synced first f g before now deeds run holds sound sound_now rest reads base logged
    stay =
    subst (λ (l : StoreLog). HoldsStore first l deeds g) (λ i. record {
      base = sym base i;
      past = sym rest.past i;
      id = now.log.id;
      sections = now.log.sections;
      logged = sym logged i;
    })
    (holds_synced first f g (log_of before) deeds holds sound.below rest.more now.log.id
    now.log.sections run sound_now.stored.fits
    (λ w among. sound_now.below w (subst (λ (l : List Write). Contains l w) (sym rest.past)
    (Contains-append_right before.log.past rest.more w among)))
    rest.later rest.grown (rest.others f refl) (rest.left g refl) reads stay)

-- the log goes on in a later segment
module _ (first f : Files) (log : StoreLog) (deeds : Deeds)
    (holds : HoldsStore first log deeds f) (low : AreBelow log) (next : ℕ) (above : log.id < next)
    (fits : next < 2 ^ 63)
    (reads : bytes_at f (segment_name_of 6 log.id) ≡ segment_bytes log.id log.sections) where
  abbrev behind : List Write
  behind = left_behind log.past log.id log.sections

  abbrev further : Write
  further = record { id = next; sections = [] }

  -- nothing stands there yet
  nothing_next : bytes_at f (segment_name_of 6 next) ≡ []
  nothing_next =
      ap (λ (o : Option (List ℕ)). unwrap_or o [])
      (segment_absent first f log deeds holds low (omega (arith, above, fits)) next fits
      (λ w among same some stays. elim (Contains-push_cases log.past
      (record { id = log.id; sections = log.sections }) w among) [
        | inl before ↦ omega (arith, low w before, same, above)
        | inr last ↦ omega (arith, ap (λ (x : Write). x.id) last, same, above)
      ]))

  pub holds_rolled : HoldsStore first (record log {
    past = past_with log.past log.id log.sections;
    id = next;
    sections = [];
  }) deeds f
  holds_rolled =
      subst (λ (l : StoreLog). HoldsStore first l deeds f) (λ i. record log {
        past = sym (behind_are log.past log.id log.sections) i;
        id = next;
        sections = [];
        logged = append-nil log.logged i;
      })
      (holds_synced first f f log deeds holds low behind next [] [] fits
      (behind_one log.past log.id log.sections (λ (x : Write). x.id < next) above)
      (behind_or_on log.past log.id log.sections further (λ (x : Write). log.id ≤ x.id)
      (omega arith) (omega (arith, above)))
      (behind_grown log.past log.id log.sections further) (λ name apart. refl)
      (behind_one log.past log.id log.sections
      (λ (x : Write). bytes_at f (segment_name_of 6 x.id) ≡ segment_bytes x.id x.sections) reads)
      nothing_next (λ n none. absurd (nothing_there n none)))
