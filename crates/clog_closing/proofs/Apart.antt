-- Entries that a marker parts stand in two sections: those of one section stand end to end.
use Rattle.std.proofs.Common.{
  ◌≡◌,
  ◌⊎◌,
  ℕ,
  ◌+◌,
  ◌*◌,
  ◌^◌,
  ◌<◌,
  ◌≤◌,
  ◌==◌,
  inl,
  inr,
  Bool,
  true,
  false,
  if◌then◌else◌,
  List,
  [],
  ◌∷◌,
  ◌++◌,
  Some,
  drop,
  length,
  refl,
  sym,
  ap,
  ◌∙◌,
  subst,
  arith,
}
use Rattle.std.specs.Prelude.{Contains}
use Rattle.std.specs.List.{filter}
use Rattle.std.proofs.lemmas.Bool.{cases_lt, eq-eqb, eqb-true}
use Rattle.std.proofs.lemmas.List.{append-nil, drop_all, length-append}
use Rattle.std.proofs.lemmas.List.Elements.{
  Contains-append_cases,
  Contains-append_left,
  Contains-append_right,
}
use Rattle.clog_spec.specs.Segment.{entry_bytes}
use Rattle.clog_spec.specs.Sizes.{
  frame_size,
  greatest_capacity,
  header_size,
  marker_size,
}
use Rattle.clog_spec.proofs.Lengths.{length-entry_bytes}
use Rattle.clog_base.proofs.Members.{
  first_or_further,
  from_map,
  further,
  here,
  in_map,
  nothing_there,
  only_one,
}
use Rattle.clog_disk.specs.declared.change.Change.{Change}
use Rattle.clog_mutation.specs.Payload.{payload_of}
use Rattle.clog_scan.specs.Cut.{IsFront, Section, entries_bytes, front_bytes}
use Rattle.clog_scan.specs.Laws.{AreWhole}
use Rattle.clog_scan.specs.Segment.{Entry, entries_from, entries_of, entry_from}
use Rattle.clog_scan.proofs.Written.{whole_sections}
use Rattle.clog_crash.specs.Chance.{marks_of}
use Rattle.clog_crash.specs.Grown.{appends_of}
use Rattle.clog_crash.specs.Log.{Write}
use Rattle.clog_crash.specs.Runs.{placed_log}
use Rattle.clog_crash.specs.Sections.{segment_bytes}
use Rattle.path_core.specs.declared.note.EntryNote.{EntryNote}
use Rattle.path_core.specs.History.{IsHistory}
use Rattle.path_core.specs.Keys.{
  after,
  behind_marker,
  first_offset,
  fits,
  next_segment,
  offset_of,
  ordinal_of,
}
use Rattle.clog_segments.specs.Grows.{IsGrown, segments_with}
use Rattle.clog_segments.specs.Notes.{places_of}
use Rattle.clog_applied.specs.Appended.{appended, entries_in, is_in}
use Rattle.clog_applied.specs.History.{LoggedLine, entry_of}
use Rattle.clog_applied.specs.Log.{AreSyncedApart}
use Rattle.clog_applied.proofs.Lists.{from_filter, in_filter}
use Rattle.clog_layout.specs.Logged.{AreNotesOf, IsNoteOf}
use Rattle.clog_closing.specs.Gaps.{HasGap, StandApart}
use Rattle.clog_closing.specs.Logs.{AreStoredInOrder}
use Rattle.clog_closing.proofs.Logs.{entries_are, is_appended, of_log}
use Rattle.clog_closing.proofs.Tables.{note_of_line}

-- ---- entries of sections

-- each entry ends at or below an offset, or starts behind a marker there
abbrev Leave : ℕ → List Entry → Type 0
Leave at es = (e : Entry) → Contains es e → (e.end ≤ at) ⊎ (at + marker_size ≤ e.start)

-- The entry lies between two offsets, and is not empty.
record LiesIn (from to : ℕ) (e : Entry) : Type 0 where
  low : from ≤ e.start
  high : e.end ≤ to
  some : e.start < e.end

lies_in : (at : ℕ) (ps : List (List ℕ)) (e : Entry) → Contains (entries_from at ps) e
    → LiesIn at (at + length (entries_bytes ps)) e
lies_in at [] e h = absurd (nothing_there e h)
lies_in at (p ∷ ps) e h =
    let next = at + frame_size + length p in
    let to = at + length (entries_bytes (p ∷ ps)) in
    let long = length-append (entry_bytes p) (entries_bytes ps) in
    let first = length-entry_bytes p in
    elim (first_or_further (entry_from at p) (entries_from next ps) e h) [
      | inl same ↦ subst (LiesIn at to) same (record {
        low = omega arith;
        high = omega (arith, long, first);
        some = omega arith;
      })
      | inr more ↦
          let l = lies_in next ps e more in
          let low = l.low in
          let high = l.high in
          record {
            low = omega (arith, low);
            high = omega (arith, high, long, first);
            some = l.some;
          }
    ]

-- entries that stand end to end from an offset on end at or below a mark that they leave behind it
below_it : (mark at : ℕ) (ps : List (List ℕ)) → at ≤ mark → Leave mark (entries_from at ps)
    → (e : Entry) → Contains (entries_from at ps) e → e.end ≤ mark
below_it mark at [] low leave e h = absurd (nothing_there e h)
below_it mark at (p ∷ ps) low leave e h =
    let next = at + frame_size + length p in
    let first = entry_from at p in
    let rest = entries_from next ps in
    let ends : next ≤ mark = elim (leave first (here first rest)) [
      | inl below ↦ below
      | inr above ↦ absurd (omega (arith, above, low))
    ] in
    elim (first_or_further first rest e h) [
      | inl same ↦ subst (λ (x : Entry). x.end ≤ mark) same ends
      | inr more ↦
          below_it mark next ps ends (λ x g. leave x (further first rest x g)) e more
    ]

-- so two that a mark parts are not both of one section
not_both : (mark at : ℕ) (ps : List (List ℕ)) → Leave mark (entries_from at ps) → (a b : Entry)
    → Contains (entries_from at ps) a → Contains (entries_from at ps) b → a.end ≤ mark
    → mark + marker_size ≤ b.start → ⊥
not_both mark at ps leave a b in_a in_b low high =
    let la = lies_in at ps a in_a in
    let lb = lies_in at ps b in_b in
    let from = la.low in
    let some_a = la.some in
    let some_b = lb.some in
    elim (cases_lt mark at) [
      | inl above ↦ omega (arith, above, from, some_a, low)
      | inr not ↦
          let ends = below_it mark at ps (omega (arith, not)) leave b in_b in
          omega (arith, ends, high, some_b)
    ]

-- each entry of sections stands behind the first marker
behind_first : (len at : ℕ) (ss : List Section) → AreWhole len at ss → (e : Entry)
    → Contains (entries_of at ss) e → (at + marker_size ≤ e.start) × (e.start < e.end)
behind_first len at [] whole e h = absurd (nothing_there e h)
behind_first len at (s ∷ ss) whole e h =
    elim (Contains-append_cases (entries_from (at + marker_size) s.payloads)
    (entries_of s.until ss) e h) [
      | inl first ↦ let l = lies_in (at + marker_size) s.payloads e first in (l.low, l.some)
      | inr more ↦
          let r = behind_first len s.until ss whole.2 e more in
          let low = r.0 in
          let full = whole.1 in
          (omega (arith, low, full), r.1)
    ]

-- The marker of a later section stands between two entries.
record HasMark (marks : List ℕ) (from to : ℕ) : Type 0 where
  mark : ℕ
  listed : Contains marks mark
  behind : from ≤ mark
  before : mark + marker_size ≤ to

one_further : (at : ℕ) (marks : List ℕ) (from to : ℕ) → HasMark marks from to
    → HasMark (at ∷ marks) from to
one_further at marks from to m = record {
  mark = m.mark;
  listed = further at marks m.mark m.listed;
  behind = m.behind;
  before = m.before;
}

mark_between : (len mark at : ℕ) (ss : List Section) → AreWhole len at ss
    → Leave mark (entries_of at ss) → (a b : Entry) → Contains (entries_of at ss) a
    → Contains (entries_of at ss) b → a.end ≤ mark → mark + marker_size ≤ b.start
    → HasMark (marks_of at ss) a.end b.start
mark_between len mark at [] whole leave a b in_a in_b low high = absurd (nothing_there a in_a)
mark_between len mark at (s ∷ ss) whole leave a b in_a in_b low high =
    let own = entries_from (at + marker_size) s.payloads in
    let rest = entries_of s.until ss in
    let full = whole.1 in
    elim (Contains-append_cases own rest a in_a) [
      | inl first_a ↦ elim (Contains-append_cases own rest b in_b) [
        | inl first_b ↦ absurd (not_both mark (at + marker_size) s.payloads
            (λ e h. leave e (Contains-append_left own rest e h)) a b first_a first_b low high)
        | inr later_b ↦
            let l = lies_in (at + marker_size) s.payloads a first_a in
            let ends = l.high in
            let up = (behind_first len s.until ss whole.2 b later_b).0 in
            next_mark ss later_b (omega (arith, ends, full)) up
      ]
      | inr later_a ↦ elim (Contains-append_cases own rest b in_b) [
        | inl first_b ↦
            let l = lies_in (at + marker_size) s.payloads b first_b in
            let ends = l.high in
            let some = l.some in
            let up = behind_first len s.until ss whole.2 a later_a in
            let from = up.0 in
            let long = up.1 in
            absurd (omega (arith, ends, some, from, long, low, high, full))
        | inr later_b ↦
            one_further at (marks_of s.until ss) a.end b.start
            (mark_between len mark s.until ss whole.2
            (λ e h. leave e (Contains-append_right own rest e h)) a b later_a later_b low high)
      ]
    ]
  where
    next_mark : (more : List Section) → Contains (entries_of s.until more) b → a.end ≤ s.until
        → s.until + marker_size ≤ b.start
        → HasMark (at ∷ marks_of s.until more) a.end b.start
    next_mark [] h behind before = absurd (nothing_there b h)
    next_mark (t ∷ more) h behind before = record {
      mark = s.until;
      listed = further at (s.until ∷ marks_of t.until more) s.until
          (here s.until (marks_of t.until more));
      behind = behind;
      before = before;
    }

-- what is written to a segment begins with its sections
is_front : (i : ℕ) (ss : List Section) → 0 < length ss
    → AreWhole (length (segment_bytes i ss)) header_size ss
    → IsFront (segment_bytes i ss) i (Some ss)
is_front i [] some whole = absurd (omega (arith, some))
is_front i (s ∷ ss) some whole =
    let text = front_bytes i (Some (s ∷ ss)) in
    let none : drop (length text) text ≡ [] = drop_all (length text) text (omega arith) in
    record {
      cut = sym (append-nil text) ∙ ap (λ (l : List ℕ). text ++ l) (sym none);
      sections = whole_sections (length text) header_size (s ∷ ss) whole;
    }

-- ---- keys of one segment

rolled : (key to x : ℕ) → x ≡ next_segment key → x ≤ to → ordinal_of to ≤ ordinal_of key → ⊥
rolled key to x is high low = omega (arith, is, high, low)

higher : (key x y : ℕ) → x ≡ y → key < y → key < x
higher key x y is up = omega (arith, is, up)

between : (key x at : ℕ) → at ≤ key → key < x → x ≤ at → ⊥
between key x at low up high = omega (arith, low, up, high)

-- behind a key above 0 the log goes on behind a marker, unless it leaves the segment
goes_on : (capacity key to : ℕ) → 0 < key → after capacity key ≤ to
    → ordinal_of to ≤ ordinal_of key → after capacity key ≡ key + marker_size
goes_on capacity key to some up low =
    by (key == 0) (fits capacity key marker_size) refl refl
  where
    by : (z f : Bool) → (key == 0) ≡ z → fits capacity key marker_size ≡ f
        → after capacity key ≡ key + marker_size
    by true f zero fit =
        let none : key ≡ 0 = eqb-true key 0 zero in
        absurd (omega (arith, none, some))
    by false true zero fit =
        ap (λ (b : Bool). if b then first_offset else behind_marker capacity key) zero
        ∙ ap (λ (b : Bool). if b then key + marker_size else next_segment key) fit
    by false false zero fit = absurd (rolled key to (after capacity key)
        (ap (λ (b : Bool). if b then first_offset else behind_marker capacity key) zero
        ∙ ap (λ (b : Bool). if b then key + marker_size else next_segment key) fit) up low)

-- it goes on above it
above_it : (capacity key : ℕ) → 0 < key → key < after capacity key
above_it capacity key some = by (key == 0) (fits capacity key marker_size) refl refl
  where
    by : (z f : Bool) → (key == 0) ≡ z → fits capacity key marker_size ≡ f
        → key < after capacity key
    by true f zero fit =
        let none : key ≡ 0 = eqb-true key 0 zero in
        absurd (omega (arith, none, some))
    by false true zero fit =
        higher key (after capacity key) (key + marker_size)
        (ap (λ (b : Bool). if b then first_offset else behind_marker capacity key) zero
        ∙ ap (λ (b : Bool). if b then key + marker_size else next_segment key) fit) (omega arith)
    by false false zero fit =
        higher key (after capacity key) (next_segment key)
        (ap (λ (b : Bool). if b then first_offset else behind_marker capacity key) zero
        ∙ ap (λ (b : Bool). if b then key + marker_size else next_segment key) fit) (omega arith)

-- ---- worked rows

-- a marker of 8 bytes fits between an entry that ends at 60 and one that starts at 68
pub gap_row : (a b : EntryNote) → a.end.0 ≡ 60 → b.start.0 ≡ 68 → HasGap 4096 (a ∷ b ∷ []) 60 68
gap_row a b end start = record {
  key = 60;
  behind = omega arith;
  before = omega arith;
  bare = λ n h. elim (first_or_further a (b ∷ []) n h) [
    | inl same ↦ inl (subst (λ (x : EntryNote). x.end.0 ≤ 60) same (omega (arith, end)))
    | inr more ↦
        inr (subst (λ (x : EntryNote). 68 ≤ x.start.0) (only_one b n more) (omega (arith, start)))
  ];
}

-- an entry that fills the log between two others is none
pub filled_row : (a b c : EntryNote) → a.end.0 ≡ 60 → b.start.0 ≡ 60 → b.end.0 ≡ 92
    → c.start.0 ≡ 92 → HasGap 4096 (a ∷ b ∷ c ∷ []) 60 92 → ⊥
filled_row a b c end_a start_b end_b start_c g =
    let low = g.behind in
    let key = g.key in
    let up = above_it 4096 key (omega (arith, low)) in
    let most = g.before in
    elim (g.bare b (further a (b ∷ c ∷ []) b (here b (c ∷ [])))) [
      | inl below ↦ between key (after 4096 key) 92 (omega (arith, below, end_b)) up most
      | inr above ↦ between key (after 4096 key) 60 low up (omega (arith, above, start_b))
    ]

-- where an entry stands in the segment of an ordinal
record StandsIn (ordinal : ℕ) (n : EntryNote) (w : LoggedLine) : Type 0 where
  start : n.start.0 ≡ ordinal * 2 ^ 31 + w.start
  end : n.end.0 ≡ ordinal * 2 ^ 31 + w.end
  low : w.start < w.end
  high : w.end < 2 ^ 31

-- ---- a log

module _ (changes : List Change) (base : ℕ) (past : List Write) (id : ℕ)
    (sections : List Section) (notes : List EntryNote) (history : List LoggedLine)
    (grows : IsGrown (appends_of changes) past id sections)
    (stands : AreStoredInOrder (segments_with past id sections))
    (holds : placed_log past id sections ≡ places_of base notes)
    (are : AreNotesOf base notes history) (capacity : ℕ) (few : capacity ≤ greatest_capacity)
    (lawful : IsHistory capacity notes) (apart : StandApart capacity notes) where
  abbrev ws : List Write
  ws = segments_with past id sections

  stands_in : (n : EntryNote) (w : LoggedLine) → Contains notes n → IsNoteOf base n w
      → StandsIn (ordinal_of n.start.0) n w
  stands_in n w among is =
      let s = lawful.each n among in
      let inside = s.inside in
      let long = s.long in
      let starts = is.start in
      let ends = is.end in
      let bytes = ap length is.bytes in
      let some = length-entry_bytes (payload_of w.mutation) in
      record {
        start = omega (arith, starts);
        end = omega (arith, starts, ends, long);
        low = omega (arith, ends, bytes, some);
        high = omega (arith, starts, ends, inside, few);
      }

  -- the entries of a segment leave a gap that lies in it
  leaves : (ordinal key : ℕ) → ordinal_of key ≡ ordinal → (gap : (n : EntryNote)
      → Contains notes n → (n.end.0 ≤ key) ⊎ (key + marker_size ≤ n.start.0))
      → Leave (offset_of key) (entries_in (base + ordinal) history)
  leaves ordinal key there gap e h =
      let found = from_map entry_of (filter (is_in (base + ordinal)) history) e h in
      let w = found.0 in
      let kept = from_filter (is_in (base + ordinal)) history w found.1 in
      let n = note_of_line base notes history are w kept.0 in
      let its : w.id ≡ base + ordinal = eqb-true w.id (base + ordinal) kept.1 in
      let own = n.is.id in
      let same : ordinal_of n.note.start.0 ≡ ordinal = omega (arith, its, own) in
      let s = subst (λ (o : ℕ). StandsIn o n.note w) same (stands_in n.note w n.listed n.is) in
      let start = s.start in
      let end = s.end in
      subst (λ (x : Entry). (x.end ≤ offset_of key) ⊎ (offset_of key + marker_size ≤ x.start))
      found.2 (elim (gap n.note n.listed) [
        | inl below ↦ inl (omega (arith, below, end, there))
        | inr above ↦ inr (omega (arith, above, start, there))
      ])

  -- a line's entry in the sections of its segment
  in_sections : (w : LoggedLine) → Contains history w → (v : Write) → Contains ws v → v.id ≡ w.id
      → Contains (entries_of header_size v.sections) (entry_of w)
  in_sections w h v listed same =
      subst (λ (es : List Entry). Contains es (entry_of w))
      (sym (entries_are changes base past id sections notes history grows stands holds are v
      listed))
      (in_map entry_of (filter (is_in v.id) history) w
      (in_filter (is_in v.id) history w h (eq-eqb w.id v.id (sym same))))

  pub synced_apart : AreSyncedApart changes history
  synced_apart a b in_a in_b by same_id behind =
      let n = note_of_line base notes history are a in_a in
      let m = note_of_line base notes history are b in_b in
      let ordinal = ordinal_of n.note.start.0 in
      let id_n = n.is.id in
      let id_m = m.is.id in
      let same : ordinal_of m.note.start.0 ≡ ordinal = omega (arith, id_n, id_m, same_id) in
      let sn = stands_in n.note a n.listed n.is in
      let sm = subst (λ (o : ℕ). StandsIn o m.note b) same (stands_in m.note b m.listed m.is) in
      let end_n = sn.end in
      let start_m = sm.start in
      let low_n = sn.low in
      let low_m = sm.low in
      let high_n = sn.high in
      let high_m = sm.high in
      let gap = apart n.note m.note n.listed m.listed
      (sym n.is.writer ∙ by ∙ m.is.writer) (omega (arith, end_n, start_m, behind)) in
      let key = gap.key in
      let from = gap.behind in
      let some : 0 < key = omega (arith, from, end_n, low_n) in
      let ordered : ordinal ≤ ordinal_of key = omega (arith, from, end_n) in
      let on : after capacity key ≡ key + marker_size =
      goes_on capacity key m.note.start.0 some gap.before (omega (arith, same, ordered)) in
      let up = gap.before in
      let to : key + marker_size ≤ m.note.start.0 =
      subst (λ (x : ℕ). x ≤ m.note.start.0) on gap.before in
      let there : ordinal_of key ≡ ordinal =
      omega (arith, to, start_m, ordered, low_m, high_m) in
      let o = of_log ws a.id ((is_appended changes base past id sections notes history grows stands
      holds are).no_other a in_a) in
      let v = o.write in
      let stored = stands.stored v o.listed in
      let leave = subst (λ (es : List Entry). Leave (offset_of key) es)
      (sym (entries_are changes base past id sections notes history grows stands holds are v
      o.listed))
      (subst (λ (i : ℕ). Leave (offset_of key) (entries_in i history)) (sym (o.is ∙ id_n))
      (leaves ordinal key there (λ x among. elim (gap.bare x among) [
        | inl below ↦ inl below
        | inr above ↦ inr (subst (λ (y : ℕ). y ≤ x.start.0) on above)
      ]))) in
      let found = mark_between (length (segment_bytes v.id v.sections)) (offset_of key) header_size
      v.sections stored.whole leave (entry_of a) (entry_of b)
      (in_sections a in_a v o.listed o.is)
      (in_sections b in_b v o.listed (o.is ∙ same_id))
      (omega (arith, from, end_n, there)) (omega (arith, to, start_m, there)) in
      record {
        sections = v.sections;
        front = subst (λ (i : ℕ). IsFront (appended changes i) i (Some v.sections)) o.is
            (subst (λ (bytes : List ℕ). IsFront bytes v.id (Some v.sections))
            (sym (grows.each v o.listed)) (is_front v.id v.sections o.some stored.whole));
        mark = found.mark;
        listed = found.listed;
        behind = found.behind;
        before = found.before;
      }
