-- Notes that stand end to end are the next section of a segment.
use Rattle.std.proofs.Common.{
  ◌≡◌,
  ℕ,
  ◌+◌,
  ◌-◌,
  ◌<◌,
  ◌≤◌,
  ◌==◌,
  inl,
  inr,
  Bool,
  true,
  false,
  List,
  [],
  ◌∷◌,
  ◌++◌,
  length,
  None,
  if◌then◌else◌,
  refl,
  sym,
  ◌∙◌,
  ap,
  subst,
  arith,
  length-append,
  take,
  drop,
  take-append-drop,
  get_or,
}
use base.Stored.{gnil}
use Rattle.std.specs.List.{Contains}
use Rattle.std.proofs.lemmas.Bool.Decides.{nat_tests}
use Rattle.clog_spec.specs.Crc.{IsBytes}
use Rattle.clog_spec.specs.Sizes.{frame_size, front_size, header_size, marker_size}
use Rattle.clog_spec.proofs.Bytes.{append-IsBytes, bytes-nil}
use Rattle.clog_spec.proofs.StoredBytes.{entry-IsBytes}
use Rattle.clog_base.specs.declared.sizes.Sizes.{Sizes}
use Rattle.clog_base.specs.Positions.{ordinal_of, offset_of}
use Rattle.clog_base.proofs.Members.{further, here, nothing_there}
use Rattle.clog_mutation.specs.declared.mutation.Mutation.{Mutation}
use Rattle.clog_mutation.specs.Payload.{payload_of}
use Rattle.clog_mutation.specs.Stored.{IsPayload}
use Rattle.clog_scan.specs.Cut.{AreLong, Section, entries_bytes, last_until}
use Rattle.clog_scan.specs.Segment.{entries_from, entry_from}
use Rattle.clog_crash.specs.Log.{Write}
use Rattle.clog_crash.specs.Runs.{Placed, placed, placed_log}
use Rattle.clog_crash.specs.Sections.{
  Brings,
  IsNext,
  IsStored,
  next_bytes,
  next_section,
  segment_bytes,
}
use Rattle.clog_crash.proofs.Payloads.{of_payload}
use Rattle.clog_crash.proofs.life.RunLog.{log_more}
use Rattle.clog_crash.proofs.rest.Nexts.{brings_next, next-IsBytes}
use Rattle.clog_crash.proofs.rest.Sectioned.{ends_at}
use Rattle.clog_crash.proofs.torn.Whole.{until_grows}
use Rattle.path_core.specs.declared.note.EntryNote.{EntryNote}
use Rattle.path_core.specs.Keeper.{Holding}
use Rattle.path_core.proofs.lists.Heads.{first_or_later}
use Rattle.clog_segments.specs.Life.{State}
use Rattle.clog_segments.specs.NoteLog.{IsGood, end_behind}
use Rattle.clog_segments.specs.NoteSections.{
  EndToEnd,
  MayBeNext,
  bytes_in,
  first_start,
  payloads_in,
  size_before,
}
use Rattle.clog_segments.specs.Notes.{payload_in, places_of}
use Rattle.clog_segments.proofs.Noted.{IsPlaced, is_placed, payload_is}

-- a keeper that has nothing but these sizes
abbrev pub bare : ℕ → Sizes → Holding
bare base sizes = record {
  base = base;
  sizes = sizes;
  opening = record {
    archives = false;
    disk = gnil;
    moment = 0;
    reads = None;
    changes = None;
  };
  at_open = 0;
  faults = 0;
  stopped = false;
  synced = 0;
  logged = [];
  kept = [];
  files = [];
  refused = None;
  dropped = [];
  archived = [];
}

module _ (base : ℕ) (sizes : Sizes) where
  pub placed_good : (n : EntryNote) → IsGood sizes n → IsPlaced (bare base sizes) n
  placed_good n good = is_placed (bare base sizes) n (record {
    whole = good.whole;
    in_segment = good.in_segment;
    segment_is = good.segment_is;
    not_dropped = λ among. nothing_there (ordinal_of n.start.0) among;
  })

  abbrev pub AllGood : List EntryNote → Type 0
  AllGood ns = (n : EntryNote) → Contains ns n → IsGood sizes n

  later : (n : EntryNote) (ns : List EntryNote) → AllGood (n ∷ ns) → AllGood ns
  later n ns all m among = all m (further n ns m among)

  -- ---- their places

  pub stand : (notes : List EntryNote) (id at key : ℕ) → EndToEnd key notes → AllGood notes
      → id ≡ base + ordinal_of key → at ≡ offset_of key
      → placed id (entries_from at (payloads_in notes)) ≡ places_of base notes
  stand [] id at key joined good ids offset = refl
  stand (n ∷ ns) id at key joined good ids offset =
      let g = good n (here n ns) in
      let p = placed_good n g in
      let start = joined.0 in
      let long = g.in_segment.long in
      let inside = p.inside in
      let end = p.end in
      let ids' : id ≡ base + ordinal_of n.start.0 = omega (arith, ids, start) in
      let at' : at ≡ offset_of n.start.0 = omega (arith, offset, start) in
      let rest = stand ns id (at + frame_size + length (payload_in n.bytes)) n.end.0 joined.1
      (later n ns good) (omega (arith, ids', long, inside))
      (omega (arith, at', long, inside, end)) in
      λ i. (ids' i, entry_from (at' i) (payload_in n.bytes)) ∷ rest i

  -- where they end
  pub record Reach (key : ℕ) (notes : List EntryNote) : Type 0 where
    pub same : ordinal_of (end_behind key notes) ≡ ordinal_of key
    pub offset : offset_of (end_behind key notes) ≡ offset_of key + length (bytes_in notes)
    pub inside : offset_of key + length (bytes_in notes) ≤ 33554432

  pub reach : (notes : List EntryNote) (key : ℕ) → EndToEnd key notes → AllGood notes
      → offset_of key ≤ 33554432 → Reach key notes
  reach [] key joined good low = record {
    same = refl;
    offset = omega arith;
    inside = omega (arith, low);
  }
  reach (n ∷ ns) key joined good low =
      let g = good n (here n ns) in
      let p = placed_good n g in
      let start = joined.0 in
      let long = g.in_segment.long in
      let inside = p.inside in
      let same : ordinal_of n.end.0 ≡ ordinal_of key = omega (arith, start, long, inside) in
      let off : offset_of n.end.0 ≡ offset_of key + length n.bytes =
      omega (arith, start, long, inside) in
      let r = reach ns n.end.0 joined.1 (later n ns good) (omega (arith, off, start, inside)) in
      let all = length-append n.bytes (bytes_in ns) in
      record {
        same = r.same ∙ same;
        offset = omega (arith, r.offset, off, all);
        inside = omega (arith, r.inside, off, all);
      }

  -- ---- their bytes

  pub spelled : (notes : List EntryNote) → AllGood notes
      → bytes_in notes ≡ entries_bytes (payloads_in notes)
  spelled [] good = refl
  spelled (n ∷ ns) good =
      let entry = (placed_good n (good n (here n ns))).entry in
      let rest = spelled ns (later n ns good) in
      λ i. entry i ++ rest i

  pub all_long : (notes : List EntryNote) → AllGood notes → AreLong (payloads_in notes)
  all_long [] good = tt
  all_long (n ∷ ns) good =
      ((placed_good n (good n (here n ns))).whole.long, all_long ns (later n ns good))

  says : (n : EntryNote) → IsGood sizes n
      → (mutation : Mutation) × IsPayload (payload_in n.bytes) mutation
  says n good =
      let m = good.whole.mutation in (
        m,
        record {
          stored = good.whole.stored;
          spelled = ap payload_in good.whole.bytes ∙ payload_is (payload_of m);
        },
      )

  pub all_said : (notes : List EntryNote) → AllGood notes → (payload : List ℕ)
      → Contains (payloads_in notes) payload → (mutation : Mutation) × IsPayload payload mutation
  all_said [] good payload among = absurd (nothing_there payload among)
  all_said (n ∷ ns) good payload among =
      elim (first_or_later (payload_in n.bytes) payload (payloads_in ns) among) [
        | inl is ↦ subst (λ (p : List ℕ). (mutation : Mutation) × IsPayload p mutation) is
            (says n (good n (here n ns)))
        | inr more ↦ all_said ns (later n ns good) payload more
      ]

  pub are_bytes : (notes : List EntryNote) → AllGood notes → IsBytes (bytes_in notes)
  are_bytes [] good = bytes-nil
  are_bytes (n ∷ ns) good =
      let w = (good n (here n ns)).whole in
      append-IsBytes n.bytes (bytes_in ns)
      (subst IsBytes (sym w.bytes)
      (entry-IsBytes (payload_of w.mutation) (of_payload w.mutation w.stored)))
      (are_bytes ns (later n ns good))

  -- ---- the next section

  pub log_with : (past : List Write) (id : ℕ) (sections : List Section) (notes : List EntryNote)
      → EndToEnd (first_start notes) notes → AllGood notes
      → id ≡ base + ordinal_of (first_start notes)
      → offset_of (first_start notes) ≡ last_until header_size sections + marker_size
      → placed_log past id (sections ++ next_section sections (payloads_in notes) ∷ [])
      ≡ placed_log past id sections ++ places_of base notes
  log_with past id sections notes joined good ids behind =
      log_more past id sections (payloads_in notes)
      ∙ ap (λ (l : List Placed). placed_log past id sections ++ l)
      (stand notes id (last_until header_size sections + marker_size) (first_start notes) joined
      good ids (sym behind))

-- ---- the length of the file in front of it

size_of : (at : ℕ) (b : Bool) → (at == front_size) ≡ b
    → size_before at ≡ (if b then 0 else at - marker_size)
size_of at b is = ap (λ (c : Bool). if c then 0 else at - marker_size) is

before_if : (at : ℕ) (b : Bool) → (if b then 0 else at - marker_size) ≤ at
before_if at true = omega arith
before_if at false = omega arith

pub before_at : (at : ℕ) → size_before at ≤ at
before_at at = before_if at (at == front_size)

pub size_is : (id : ℕ) (ss : List Section) (at : ℕ) → IsStored id ss
    → at ≡ last_until header_size ss + marker_size
    → size_before at ≡ length (segment_bytes id ss)
size_is id [] at stored behind =
    size_of at true (let test : (at == 28) ≡ true = grind (arith, nat_tests) in test)
size_is id (s ∷ ss) at stored behind =
    let len = length (segment_bytes id (s ∷ ss)) in
    let ends = ends_at id len s ss stored.whole in
    let grows = until_grows len s.until ss stored.whole.2 in
    let first = stored.whole.0.behind in
    let test : (at == 28) ≡ false = grind (arith, nat_tests) in
    size_of at false test ∙ omega (arith, ends, behind)

-- ---- what brings them

pub first_is : (notes : List EntryNote) (n : EntryNote) → 0 < length notes
    → (get_or notes 0 n).start.0 ≡ first_start notes
first_is [] n some = absurd (omega (arith, some))
first_is (m ∷ ms) n some = refl

pub low_start : {D : Type 0} (base : ℕ) (log : State D) (notes : List EntryNote)
    → MayBeNext base log notes → offset_of (first_start notes) ≤ 33554432
low_start base log notes may = by notes may.some may.good
  where
    by : (ns : List EntryNote) → 0 < length ns
        → ((n : EntryNote) → Contains ns n → IsGood may.sizes n)
        → offset_of (first_start ns) ≤ 33554432
    by [] some good = absurd (omega (arith, some))
    by (n ∷ ns) some good =
        omega (arith, (placed_good base may.sizes n (good n (here n ns))).inside)

pub some_bytes : {D : Type 0} (base : ℕ) (log : State D) (notes : List EntryNote)
    → MayBeNext base log notes → 0 < length (bytes_in notes)
some_bytes base log notes may = by notes may.some may.good
  where
    by : (ns : List EntryNote) → 0 < length ns
        → ((n : EntryNote) → Contains ns n → IsGood may.sizes n) → 0 < length (bytes_in ns)
    by [] some good = absurd (omega (arith, some))
    by (n ∷ ns) some good =
        let p = placed_good base may.sizes n (good n (here n ns)) in
        let end = p.end in
        omega (arith, end, length-append n.bytes (bytes_in ns))

module _ {D : Type 0} (base : ℕ) (log : State D) (notes : List EntryNote)
    (may : MayBeNext base log notes) (at : ℕ) (starts : at ≡ offset_of (first_start notes)) where
  low : offset_of (first_start notes) ≤ 33554432
  low = low_start base log notes may

  pub room : at + length (bytes_in notes) ≤ 33554432
  room = omega (
    arith,
    starts,
    (reach base may.sizes notes (first_start notes) may.joined may.good low).inside,
  )

  module _ (section : Section) (is : section ≡ record {
    until = at + length (bytes_in notes);
    payloads = payloads_in notes;
  }) where
    pub next_is : section ≡ next_section log.sections (payloads_in notes)
    next_is =
        let until : at + length (bytes_in notes)
        ≡ last_until header_size log.sections + marker_size
        + length (entries_bytes (payloads_in notes)) =
        omega (arith, starts, may.behind, ap length (spelled base may.sizes notes may.good)) in
        is ∙ (λ i. record { until = until i; payloads = payloads_in notes })

    pub brings : IsStored log.id log.sections → (bytes : List ℕ)
        → bytes ≡ next_bytes log.id (size_before at) (bytes_in notes)
        → Brings log.id (take log.synced log.sections) (drop log.synced log.sections)
        (section ∷ []) bytes
    brings stored bytes are =
        let old = take log.synced log.sections in
        let kept = drop log.synced log.sections in
        let all : old ++ kept ≡ log.sections = take-append-drop log.synced log.sections in
        let spells = spelled base may.sizes notes may.good in
        let size = size_is log.id log.sections at stored (starts ∙ may.behind) in
        let bytes_are : bytes ≡ next_bytes log.id (size_before at)
        (entries_bytes (payloads_in notes)) =
        are ∙ ap (λ (l : List ℕ). next_bytes log.id (size_before at) l) spells in
        let fits : IsBytes bytes =
        subst IsBytes (sym are) (next-IsBytes log.id (size_before at) (bytes_in notes)
        (are_bytes base may.sizes notes may.good)) in
        let next : IsNext log.id old kept (payloads_in notes) (size_before at) bytes = record {
          size_is = size ∙ ap (λ (l : List Section). length (segment_bytes log.id l)) (sym all);
          bytes_are = bytes_are;
          long = all_long base may.sizes notes may.good;
          said = all_said base may.sizes notes may.good;
          room = omega (arith, before_at at, room, ap length spells);
        } in
        subst (λ (s : Section). Brings log.id old kept (s ∷ []) bytes)
        (ap (λ (l : List Section). next_section l (payloads_in notes)) all ∙ sym next_is)
        (brings_next log.id old kept (payloads_in notes) (size_before at) bytes
        (subst (IsStored log.id) (sym all) stored) fits next)

-- a section of notes has their payloads
pub some_payloads : (notes : List EntryNote) (section : Section)
    → section.payloads ≡ payloads_in notes → 0 < length notes → 0 < length section.payloads
some_payloads [] section is some = absurd (omega (arith, some))
some_payloads (n ∷ ns) section is some =
    subst (λ (l : List (List ℕ)). 0 < length l) (sym is) (omega arith)
