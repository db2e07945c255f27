-- But for one name a folder is a store's still once its disk has failed in a call of its log, and
-- what was there at the opening stays.
use Rattle.std.proofs.Common.{
  ◌≡◌,
  ℕ,
  ◌+◌,
  ◌<◌,
  ◌≤◌,
  ◌^◌,
  inl,
  inr,
  List,
  [],
  ◌∷◌,
  ◌++◌,
  length,
  Option,
  Some,
  None,
  Contains,
  refl,
  sym,
  ◌∙◌,
  ap,
  subst,
  arith,
}
use Rattle.std.specs.Prelude.{unwrap_or}
use Rattle.std.proofs.lemmas.Option.{none-some}
use Rattle.std.specs.FinMap as finmap
use Rattle.std.proofs.lemmas.List.Elements.{
  Contains-append_right,
  Contains-push,
  Contains-push_cases,
}
use Rattle.clog_spec.specs.Names.{archive_name_of, segment_name_of}
use Rattle.clog_base.specs.Positions.{ordinal_of}
use Rattle.clog_disk.specs.Files.{Files}
use Rattle.clog_disk.proofs.Named.{put_here, put_there, same_or_other}
use Rattle.clog_scan.specs.Cut.{Section}
use Rattle.clog_crash.specs.Folder.{IsHeld}
use Rattle.clog_crash.specs.Log.{Write}
use Rattle.clog_crash.specs.Sections.{segment_bytes}
use Rattle.clog_crash.proofs.changes.Names.{is_named, one_id}
use Rattle.path_core.specs.declared.note.EntryNote.{EntryNote}
use Rattle.clog_segments.specs.Grows.{segments_with}
use Rattle.clog_segments.specs.NoteLog.{IsNotOf, LeavesOthers, NoteState}
use Rattle.clog_segments.specs.StoreFailed.{AllStay, HoldsButOne}
use Rattle.clog_segments.specs.StoreFolder.{
  Deeds,
  HoldsStore,
  IsRow,
  IsSound,
  StoreLog,
  log_of,
}
use Rattle.clog_segments.specs.Torn.{StandsTorn}
use Rattle.clog_segments.proofs.AllGo.{archive_named}
use Rattle.clog_segments.proofs.FolderNames.{AreBelow, id_below, segment_absent}
use Rattle.clog_segments.proofs.FolderReads.{absent_or_held}
use Rattle.clog_store.proofs.FolderSyncs.{holds_notes_synced}
use Rattle.clog_segments.proofs.Torn.{stands_fewer}

-- a store's folder is so
pub but_none : (first f : Files) (log : StoreLog) (deeds : Deeds) → HoldsStore first log deeds f
    → HoldsButOne first log deeds f
but_none first f log deeds holds = record {
  last = f;
  holds = holds;
  name = segment_name_of 6 log.id;
  failing = inl refl;
  others = λ other apart. refl;
  stands = inl refl;
}

same_some : (f g : Files) → Some f ≡ Some g → f ≡ g
same_some f g same = ap (λ (o : Option Files). unwrap_or o f) same

-- ---- a log of notes has failed

module _ {D : Type 0} (first f g : Files) (before now : NoteState D) (deeds : Deeds)
    (run : List EntryNote) (holds : HoldsStore first (log_of before) deeds f)
    (sound : IsSound before.log) (sound_now : IsSound now.log)
    (rest : LeavesOthers before.log now.log (Some f) (Some g)) (base_is : now.base ≡ before.base)
    (logged_is : now.logged ≡ before.logged ++ run)
    (stay : (n : EntryNote) → Contains run n → Contains deeds.dropped (ordinal_of n.start.0) → ⊥)
    (torn : StandsTorn now.log.id now.log.synced now.log.sections
    (finmap.get g (segment_name_of 6 now.log.id))) where
  abbrev own : List ℕ
  own = segment_name_of 6 now.log.id

  abbrev hand : Write
  hand = record { id = now.log.id; sections = now.log.sections }

  fits : now.log.id < 2 ^ 63
  fits = sound_now.stored.fits

  below : (w : Write) → Contains rest.more w → w.id < now.log.id
  below w among =
      sound_now.below w (subst (λ (l : List Write). Contains l w) (sym rest.past)
      (Contains-append_right before.log.past rest.more w among))

  -- a segment that the log has left has another name
  apart : (w : Write) → Contains rest.more w → segment_name_of 6 w.id ≡ own → ⊥
  apart w among same =
      let low = below w among in
      let one = one_id now.log.id w.id fits (omega (arith, low, fits)) same in
      omega (arith, one, low)

  -- the segment at hand may have got less than its sections
  module _ (some : 0 < length now.log.sections) where
    abbrev last : Files
    last = finmap.insert g own (segment_bytes now.log.id now.log.sections)

    rest_with : LeavesOthers before.log now.log (Some f) (Some last)
    rest_with = record {
      more = rest.more;
      past = rest.past;
      later = rest.later;
      grown = rest.grown;
      others = λ h is name none.
          put_there g own (segment_bytes now.log.id now.log.sections) name
          (λ same. none hand (Contains-push rest.more hand) some fits same)
          ∙ rest.others h is name none;
      left = λ h is w among.
          subst (λ (x : Files). unwrap_or (finmap.get x (segment_name_of 6 w.id)) []
          ≡ segment_bytes w.id w.sections) (same_some last h is)
          (ap (λ (o : Option (List ℕ)). unwrap_or o [])
          (put_there g own (segment_bytes now.log.id now.log.sections)
          (segment_name_of 6 w.id) (apart w among)) ∙ rest.left g refl w among);
    }

    with_sections : HoldsButOne first (log_of now) deeds g
    with_sections = record {
      last = last;
      holds = holds_notes_synced first f last before now deeds run holds sound sound_now
          rest_with (ap (λ (o : Option (List ℕ)). unwrap_or o [])
          (put_here g own (segment_bytes now.log.id now.log.sections))) base_is logged_is stay;
      name = own;
      failing = inl refl;
      others = λ other apart.
          sym (put_there g own (segment_bytes now.log.id now.log.sections) other apart);
      stands = inr (inl (record {
        name_is = refl;
        torn = stands_fewer now.log.id now.log.synced now.log.sections (finmap.get g own) torn;
      }));
    }

  -- where it has none, nothing stands there
  module _ (none : now.log.sections ≡ []) where
    own_is_new : IsNotOf (segments_with rest.more now.log.id now.log.sections) own
    own_is_new w among some limit same = elim (Contains-push_cases rest.more hand w among) [
      | inl left ↦ apart w left (sym same)
      | inr is ↦
          let len = ap (λ (x : Write). length x.sections) is in
          let zero_len = ap (λ (l : List Section). length l) none in
          omega (arith, some, len, zero_len)
    ]

    forward : before.log.id ≤ now.log.id
    forward = rest.later hand (Contains-push rest.more hand)

    absent : finmap.get f own ≡ None
    absent =
        segment_absent first f (log_of before) deeds holds sound.below sound.stored.fits
        now.log.id fits (λ w among same some stays.
        elim (Contains-push_cases before.log.past
        (record { id = before.log.id; sections = before.log.sections }) w among) [
          | inl past ↦ omega (arith, sound.below w past, same, forward)
          | inr is ↦
              let has = rest.grown (subst (λ (x : Write). 0 < length x.sections) (sym is) some)
              in
              let ids = ap (λ (x : Write). x.id) is in
              elim (Contains-push_cases rest.more hand has.segment has.among) [
                | inl left ↦ omega (arith, below has.segment left, has.id_is, ids, same)
                | inr at ↦
                    let len = ap (λ (x : Write). length x.sections) at in
                    let zero_len = ap (λ (l : List Section). length l) none in
                    omega (arith, has.some, len, zero_len)
              ]
        ])

    without : HoldsButOne first (log_of now) deeds g
    without =
        but_none first g (log_of now) deeds
        (holds_notes_synced first f g before now deeds run holds sound sound_now rest
        (ap (λ (o : Option (List ℕ)). unwrap_or o []) (rest.others f refl own own_is_new ∙ absent)
        ∙ ap (segment_bytes now.log.id) (sym none)) base_is logged_is stay)

  pub fails_synced : HoldsButOne first (log_of now) deeds g
  fails_synced = by now.log.sections refl
    where
      by : (ss : List Section) → now.log.sections ≡ ss → HoldsButOne first (log_of now) deeds g
      by [] is = without is
      by (x ∷ xs) is =
          with_sections (let len = ap (λ (l : List Section). length l) is in omega (arith, len))

-- ---- what was there at the opening

module _ (first f : Files) (log : StoreLog) (deeds : Deeds) (low : AreBelow log)
    (fits : log.id < 2 ^ 63) where
  held : (name bytes : List ℕ) → finmap.get first name ≡ Some bytes → IsHeld first name
  held name bytes there = elim (absent_or_held (finmap.get first name)) [
    | inl none ↦ absurd (none-some bytes (sym none ∙ there))
    | inr is ↦ is
  ]

  module _ (holds : HoldsStore first log deeds f) where
    no_segment : (name bytes : List ℕ) → finmap.get first name ≡ Some bytes → (id : ℕ)
        → id < 2 ^ 63 → name ≡ segment_name_of 6 id → ⊥
    no_segment name bytes there id limit same =
        holds.begun.no_segment (
          segment_name_of 6 id,
          subst (IsHeld first) same (held name bytes there),
          (6, (id, is_named id limit)),
        )

    no_archive : (name bytes : List ℕ) → finmap.get first name ≡ Some bytes → (id : ℕ)
        → id < 2 ^ 63 → log.base ≤ id → name ≡ archive_name_of id → ⊥
    no_archive name bytes there id limit above same =
        let before = holds.begun.archives id (
          archive_name_of id,
          subst (IsHeld first) same (held name bytes there),
          archive_named id limit,
        ) in
        omega (arith, before, above)

    -- no name that was there has come since
    pub no_row : (name bytes : List ℕ) → finmap.get first name ≡ Some bytes → (other : List ℕ)
        → IsRow log deeds holds.placed name other → ⊥
    no_row name bytes there other row = elim row [
      | inl r ↦ no_segment name bytes there r.segment.id
          (id_below first f log deeds holds low fits r.segment r.among) r.name_is
      | inr more ↦ elim more [
        | inl r ↦ no_archive name bytes there r.segment.id
            (omega (arith, low r.segment r.among, fits)) (omega (arith, r.id_is)) r.name_is
        | inr r ↦ none-some bytes (sym (holds.are_placed.each r.file r.among).free
            ∙ ap (finmap.get first) (sym r.name_is) ∙ there)
      ]
    ]

    pub all_stay_held : AllStay first f
    all_stay_held name bytes there =
        holds.stands.others name (no_row name bytes there) ∙ there

-- whether or not the disk has failed
pub all_stay : (first g : Files) (log : StoreLog) (deeds : Deeds) → AreBelow log
    → log.id < 2 ^ 63 → HoldsButOne first log deeds g → AllStay first g
all_stay first g log deeds low fits b name bytes there =
    let before = all_stay_held first b.last log deeds low fits b.holds name bytes there in
    elim (same_or_other name b.name) [
      | inr apart ↦ b.others name apart ∙ before
      | inl same ↦ absurd (elim b.failing [
        | inl hand ↦ no_segment first b.last log deeds low fits b.holds name bytes there log.id
            fits (same ∙ hand)
        | inr other ↦ elim other [
          | inl table ↦ none-some bytes (sym table.free
              ∙ ap (finmap.get b.last) (sym same) ∙ before)
          | inr goes ↦
              let id_is = goes.past.id_is in
              let limit : log.base + goes.ordinal < 2 ^ 63 =
              omega (arith, low goes.past.segment goes.past.among, id_is, fits) in
              elim goes.name_is [
                | inl its ↦ no_segment first b.last log deeds low fits b.holds name bytes there
                    (log.base + goes.ordinal) limit (same ∙ its)
                | inr archive ↦ no_archive first b.last log deeds low fits b.holds name bytes there
                    (log.base + goes.ordinal) limit (omega arith) (same ∙ archive.1)
              ]
        ]
      ])
    ]
