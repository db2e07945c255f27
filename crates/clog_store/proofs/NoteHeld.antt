-- What is said of a log of notes stays true from step to step.
use Rattle.std.proofs.Common.{
  ◌≡◌,
  ℕ,
  ◌+◌,
  ◌<◌,
  ◌≤◌,
  inl,
  inr,
  Bool,
  true,
  false,
  List,
  [],
  ◌∷◌,
  ◌++◌,
  length,
  take,
  drop,
  refl,
  sym,
  ◌∙◌,
  ap,
  subst,
  arith,
  length-append,
  append_assoc,
}
use Rattle.std.specs.Prelude.{Ok, Err}
use Rattle.std.proofs.Math.Seq.{take-add}
use Rattle.std.proofs.lemmas.List.{drop-drop, map-append, take-append-le, take_all}
use Rattle.clog_spec.specs.Sizes.{front_size, header_size, marker_size}
use Rattle.clog_base.specs.declared.sizes.Sizes.{Sizes}
use Rattle.clog_base.specs.Positions.{ordinal_of, offset_of}
use Rattle.clog_scan.specs.Cut.{Section, last_until}
use Rattle.clog_crash.specs.Log.{Write}
use Rattle.clog_crash.specs.Runs.{Placed, placed_log}
use Rattle.clog_crash.specs.Sections.{next_section}
use Rattle.clog_crash.proofs.life.RunLog.{log_rolled}
use Rattle.path_core.specs.declared.note.EntryNote.{EntryNote}
use Rattle.clog_segments.specs.declared.written.StoreFault.{StoreFault}
use Rattle.clog_segments.specs.declared.written.StoreFault.TheVariants.{Stopped, OutOfMemory}
use Rattle.clog_segments.specs.Life.{State, past_with}
use Rattle.clog_segments.specs.NoteLog.{BeginsFrom, IsApart, IsHeld, end_behind}
use Rattle.clog_segments.specs.NoteSections.{
  AreOneSection,
  MayBeNext,
  bytes_in,
  first_start,
  payloads_in,
}
use Rattle.clog_segments.specs.Notes.{place_of, places_of}
use Rattle.clog_store.specs.NoteSteps.{
  Enters,
  StartsBehind,
  gone_on,
  standing,
  with_all_lasting,
}
use Rattle.clog_segments.specs.Stepped.{Keeps}
use Rattle.clog_store.proofs.NoteCuts.{cut_of, end_behind-append, same_start}
use Rattle.clog_segments.proofs.NoteRuns.{
  Reach,
  log_with,
  low_start,
  reach,
  some_bytes,
  spelled,
}

pub last_until-push : (at : ℕ) (ss : List Section) (s : Section)
    → last_until at (ss ++ s ∷ []) ≡ s.until
last_until-push at [] s = refl
last_until-push at (x ∷ ss) s = last_until-push x.until ss s

-- in a further segment, behind the one at hand, or in its place, where it has no section
past_rolled : (past : List Write) (id next : ℕ) (ss : List Section)
    → placed_log (past_with past id ss) next [] ≡ placed_log past id ss
past_rolled past id next [] = refl
past_rolled past id next (s ∷ ss) = log_rolled past id next (s ∷ ss)

module _ {D : Type 0} (base : ℕ) (notes : List EntryNote) (sizes : Sizes) (synced : ℕ)
    (logged : List EntryNote) where
  abbrev Held : State D → ℕ → Type 0
  Held log written = IsHeld (standing sizes synced logged base log notes written)

  -- ---- the disk was called

  pub held_same : (log now : State D) (written : ℕ)
      → now ≡ record log { disk = now.disk; is_stopped = now.is_stopped } → Held log written
      → Held now written
  held_same log now written is h =
      let s : State D = record log { disk = now.disk; is_stopped = now.is_stopped } in
      let held : Held s written = record {
        all = h.all;
        lasting = h.lasting;
        no_more = h.no_more;
        lasts = h.lasts;
        settled = h.settled;
        reaches = h.reaches;
        forward = h.forward;
        ends = h.ends;
        apart = h.apart;
        begins = h.begins;
        last_here = h.last_here;
      } in
      subst (λ (x : State D). Held x written) (sym is) held

  -- ---- all sections last

  pub held_settled : (log now : State D) (written : ℕ) → now ≡ with_all_lasting log now
      → Held log written → Held now written
  held_settled log now written is h =
      let s : State D = with_all_lasting log now in
      let ss = log.sections in
      let whole : take (length ss) ss ≡ ss = take_all (length ss) ss (omega arith) in
      let until = ap (last_until header_size) whole in
      let held : Held s written = record {
        all = h.all;
        lasting = written;
        no_more = omega arith;
        lasts = ap (λ (l : List Section). placed_log log.past log.id l) whole ∙ h.all;
        settled = λ e. refl;
        reaches = elim h.reaches [
          | inl below ↦ inl below
          | inr here ↦ inr (
            here.0,
            elim h.ends [
              | inl e ↦ omega (arith, e.0, e.1, here.0, h.forward, until)
              | inr none ↦ omega (
                arith,
                here.1,
                until,
                ap (last_until header_size)
                    (take_all log.synced ss (omega (arith, ap length none.0))),
              )
            ],
          )
        ];
        forward = h.forward;
        ends = h.ends;
        apart = h.apart;
        begins = h.begins;
        last_here = h.last_here;
      } in
      subst (λ (x : State D). Held x written) (sym is) held

  -- ---- in a further segment

  pub held_rolled : (log now : State D) (written id : ℕ) (disk : D)
      → now ≡ gone_on log (past_with log.past log.id log.sections) id disk → log.id < id
      → BeginsFrom base id (drop written notes)
      → (0 < written → written ≡ length notes → ⊥) → Held log written → Held now written
  held_rolled log now written id disk is above begins more h =
      let s : State D = gone_on log (past_with log.past log.id log.sections) id disk in
      let all = past_rolled log.past log.id id log.sections ∙ h.all in
      let held : Held s written = record {
        all = all;
        lasting = written;
        no_more = omega arith;
        lasts = all;
        settled = λ e. refl;
        reaches = elim h.reaches [
          | inl below ↦ inl (omega (arith, below, above))
          | inr here ↦ inl (omega (arith, here.0, above))
        ];
        forward = h.forward;
        ends = inr (
          refl,
          inr (elim h.ends [
            | inl e ↦ omega (arith, e.0, above)
            | inr none ↦ elim none.1 [
              | inl first ↦ omega (arith, first.0, first.1, above)
              | inr later ↦ omega (arith, later, above)
            ]
          ]),
        );
        apart = h.apart;
        begins = λ none later. begins;
        last_here = λ some all. absurd (more some all);
      } in
      subst (λ (x : State D). Held x written) (sym is) held

  -- ---- one section more

  module _ (log : State D) (written count : ℕ) (one : AreOneSection (drop written notes) count)
      (may : MayBeNext base log (take count (drop written notes)))
      (begun : StartsBehind (end_behind synced (take written notes))
      (first_start (drop written notes))) where
    abbrev rest : List EntryNote
    rest = drop written notes

    abbrev first : List EntryNote
    first = take count rest

    abbrev key : ℕ
    key = end_behind synced (take written notes)

    abbrev start : ℕ
    start = first_start first

    abbrev section : Section
    section = next_section log.sections (payloads_in first)

    all_first : take (written + count) notes ≡ take written notes ++ first
    all_first = take-add written count notes

    behind_first : drop (written + count) notes ≡ drop count rest
    behind_first = sym (drop-drop count written notes)

    ends_then : end_behind synced (take (written + count) notes) ≡ end_behind key first
    ends_then =
        ap (end_behind synced) all_first
        ∙ end_behind-append synced (take written notes) first

    -- the notes of the section, one by one
    ends_at_start : (ns : List EntryNote) → 0 < length ns → end_behind key ns ≡ end_behind start ns
    ends_at_start [] some = absurd (omega (arith, some))
    ends_at_start (n ∷ ns) some = refl

    low : offset_of start ≤ 33554432
    low = low_start base log first may

    reached : Reach base may.sizes start first
    reached = reach base may.sizes first start may.joined may.good low

    long : 0 < length (bytes_in first)
    long = some_bytes base log first may

    starts_here : StartsBehind key start
    starts_here = subst (StartsBehind key) (sym (same_start rest count one.some)) begun

    pub goes_up : key ≤ start
    goes_up = elim starts_here [
      | inl e ↦ omega (arith, e.0)
      | inr more ↦ elim more [
        | inl e ↦ omega (arith, e.1)
        | inr e ↦ omega (arith, e.0)
      ]
    ]

    pub last_key : end_behind synced (take (written + count) notes)
        ≡ start + length (bytes_in first)
    last_key =
        ends_then ∙ ends_at_start first may.some
        ∙ omega (arith, reached.same, reached.offset, reached.inside)

    pub last_above : 0 < end_behind synced (take (written + count) notes)
    last_above = omega (arith, last_key, long)

    pub last_low : offset_of (end_behind synced (take (written + count) notes)) ≤ 33554432
    last_low = omega (
      arith,
      ap offset_of (ends_then ∙ ends_at_start first may.some),
      reached.offset,
      reached.inside,
    )

    pub last_apart : IsApart (end_behind synced (take (written + count) notes))
        (drop (written + count) notes)
    last_apart =
        let cut = cut_of rest count one in
        let ends : end_behind (first_start rest) first
        ≡ end_behind synced (take (written + count) notes) =
        ap (λ (k : ℕ). end_behind k first) (sym (same_start rest count one.some))
        ∙ sym (ends_at_start first may.some) ∙ sym ends_then in
        subst (λ (k : ℕ). IsApart k (drop (written + count) notes)) ends
        (subst (IsApart (end_behind (first_start rest) first)) (sym behind_first) cut.apart)

    pub held_kept : (now : State D) (disk : D) (stopped : Bool) → now ≡ record log {
      disk = disk;
      sections = log.sections ++ section ∷ [];
      is_stopped = stopped;
    } → log.synced ≤ length log.sections → Held log written → Held now (written + count)
    held_kept now disk stopped is few h =
        let more = log.sections ++ section ∷ [] in
        let s : State D = record log { disk = disk; sections = more; is_stopped = stopped } in
        let front : take log.synced more ≡ take log.synced log.sections =
        take-append-le log.synced log.sections (section ∷ []) few in
        let longer : length more ≡ length log.sections + 1 =
        length-append log.sections (section ∷ []) in
        let until : last_until header_size more ≡ section.until =
        last_until-push header_size log.sections section in
        let notes_now : logged ++ take (written + count) notes
        ≡ (logged ++ take written notes) ++ first =
        ap (λ (l : List EntryNote). logged ++ l) all_first
        ∙ sym (append_assoc logged (take written notes) first) in
        let held : Held s (written + count) = record {
          all = log_with base may.sizes log.past log.id log.sections first may.joined may.good
              may.segment_is may.behind
              ∙ ap (λ (l : List Placed). l ++ places_of base first) h.all
              ∙ sym (map-append (place_of base) (logged ++ take written notes) first)
              ∙ ap (places_of base) (sym notes_now);
          lasting = h.lasting;
          no_more = omega (arith, h.no_more);
          lasts = ap (λ (l : List Section). placed_log log.past log.id l) front ∙ h.lasts;
          settled = λ e. absurd (omega (arith, e, h.no_more, one.some));
          reaches = elim h.reaches [
            | inl below ↦ inl below
            | inr here ↦ inr (
              here.0,
              omega (arith, here.1, ap (last_until header_size) front),
            )
          ];
          forward = omega (arith, h.forward, goes_up, last_key);
          ends = inl (
            omega (arith, may.segment_is, last_key, reached.inside),
            omega (
              arith,
              until,
              may.behind,
              last_key,
              reached.inside,
              ap length (spelled base may.sizes first may.good),
            ),
            omega (arith, longer),
            last_above,
          );
          apart = last_apart;
          begins = λ none later. absurd (omega (arith, longer, ap length none));
          last_here = λ some all. omega (arith, longer);
        } in
        subst (λ (x : State D). Held x (written + count)) (sym is) held

  -- ---- the segment of the next note is entered

  module _ (log : State D) (written : ℕ) (h : Held log written) (start : ℕ)
      (begun : StartsBehind (end_behind synced (take written notes)) start)
      (begins : log.sections ≡ []
      → base + ordinal_of (end_behind synced (take written notes)) < log.id
      → log.id ≤ base + ordinal_of start) where
    abbrev at : ℕ
    at = end_behind synced (take written notes)

    not_back : ordinal_of at ≤ ordinal_of start
    not_back = elim begun [
      | inl e ↦ omega (arith, e.0)
      | inr more ↦ elim more [
        | inl e ↦ omega (arith, e.1)
        | inr e ↦ omega (arith, e.0)
      ]
    ]

    pub enters_on : log.id ≤ base + ordinal_of start
    enters_on = elim h.ends [
      | inl e ↦ omega (arith, e.0, not_back)
      | inr none ↦ elim none.1 [
        | inl first ↦ omega (arith, first.1)
        | inr later ↦ omega (arith, begins none.0 later)
      ]
    ]

    -- in a later segment than the key's the note stands behind the front
    in_front : ordinal_of at < ordinal_of start → offset_of start ≡ front_size
    in_front later = elim begun [
      | inl e ↦ e.1
      | inr more ↦ elim more [
        | inl e ↦ absurd (omega (arith, e.1, e.2, later))
        | inr e ↦ e.1
      ]
    ]

    -- in the key's segment, behind its last section
    in_line : 0 < at → ordinal_of at ≡ ordinal_of start
        → offset_of start ≡ offset_of at + marker_size
    in_line above same = elim begun [
      | inl e ↦ absurd (omega (arith, above, e.0))
      | inr more ↦ elim more [
        | inl e ↦ omega (arith, e.1, e.2)
        | inr e ↦ absurd (omega (arith, same, e.0))
      ]
    ]

    -- where the segment is the first one
    at_first : at ≡ 0 → offset_of start ≡ front_size
    at_first none = elim begun [
      | inl e ↦ e.1
      | inr more ↦ elim more [
        | inl e ↦ absurd (omega (arith, none, e.0))
        | inr e ↦ e.1
      ]
    ]

    stays_behind : log.id ≡ base + ordinal_of start
        → offset_of start ≡ last_until header_size log.sections + marker_size
    stays_behind here = elim h.ends [
      | inl e ↦ in_line e.3 (omega (arith, e.0, here)) ∙ ap (λ k. k + marker_size) (sym e.1)
      | inr none ↦
          let until = ap (last_until header_size) none.0 in
          let front : offset_of start ≡ front_size = elim none.1 [
            | inl first ↦ at_first first.0
            | inr later ↦ in_front (omega (arith, here, later))
          ] in
          omega (arith, front, until)
    ]

    pub enters_behind : (now : State D) (done : Unit {0}) → Enters log now (base + ordinal_of start)
        (Ok done) → (now.id ≡ base + ordinal_of start)
        × (offset_of start ≡ last_until header_size now.sections + marker_size)
    enters_behind now done enters = elim enters [
      | inl same ↦ (
        ap (λ (s : State D). s.id) same.1 ∙ sym same.0,
        stays_behind (sym same.0)
            ∙ ap (λ (s : State D). last_until header_size s.sections + marker_size) (sym same.1),
      )
      | inr rolls ↦ (
        ap (λ (s : State D). s.id) rolls.1,
        (elim h.ends [
          | inl e ↦ in_front (omega (arith, e.0, rolls.0))
          | inr none ↦ elim none.1 [
            | inl first ↦ at_first first.0
            | inr later ↦ in_front (omega (arith, later, rolls.0))
          ]
        ])
            ∙ sym (ap (λ (s : State D). last_until header_size s.sections + marker_size) rolls.1),
      )
    ]

    pub held_entered : (now : State D) (done : Unit {0}) → Enters log now (base + ordinal_of start)
        (Ok done) → BeginsFrom base (base + ordinal_of start) (drop written notes)
        → (0 < written → written ≡ length notes → ⊥) → Held now written
    held_entered now done enters next more = elim enters [
      | inl same ↦ subst (λ (s : State D). Held s written) (sym same.1) h
      | inr rolls ↦ held_rolled log now written (base + ordinal_of start) now.disk rolls.1
          rolls.0 next more h
    ]

  -- ---- where a step is refused

  pub held_unentered : (log now : State D) (written id : ℕ) (fault : StoreFault)
      → Enters {T = Unit {0}} log now id (Err fault) → Held log written → Held now written
  held_unentered log now written id fault enters h = elim enters [
    | inl same ↦ held_same log now written same h
    | inr settled ↦ held_settled log now written settled h
  ]

  pub held_unkept : (log now : State D) (written : ℕ) (section : Section) (fault : StoreFault)
      → Keeps {T = Unit {0}} log now section (Err fault) → log.is_stopped ≡ false
      → now.is_stopped ≡ false → Held log written → Held now written
  held_unkept log now written section OutOfMemory keeps runs still h =
      held_same log now written
      (keeps ∙ (λ i. record log {
        disk = now.disk;
        is_stopped = sym (ap (λ (s : State D). s.is_stopped) keeps) i;
      })) h
  held_unkept log now written section Stopped keeps runs still h = elim keeps [
    | inl before ↦ let no : true ≡ false = sym before.0 ∙ runs in cc
    | inr torn ↦
        let no : true ≡ false = sym (ap (λ (s : State D). s.is_stopped) torn) ∙ still in cc
  ]
