-- What is held of all segments is the folder's log, and each segment before the next is read.
use Rattle.std.proofs.Common.{◌≡◌, ℕ, ◌≤◌, ◌==◌, List, [], ◌∷◌, ◌++◌, length, map, Bool, true}
use Rattle.std.proofs.Common.{false, Some, Contains, refl, sym, ap, subst, ◌∙◌, inl, inr, arith}
use Rattle.std.specs.FinMap as finmap
use Rattle.std.specs.List.{AllByRecursion, flat_map}
use Rattle.std.specs.List.Sorted.{IsStrictlySortedBy}
use Rattle.std.specs.Map.{keys_of}
use Rattle.std.proofs.lemmas.Bool.{true≢false}
use Rattle.std.proofs.lemmas.Map.Keys.{sorted_tail}
use Rattle.std.proofs.lemmas.List.Elements.{Contains-append_cases, Contains-append_left}
use Rattle.std.proofs.lemmas.List.Elements.{Contains-append_right}
use Rattle.clog_spec.specs.Names.{IsSegmentName}
use Rattle.clog_spec.specs.Sizes.{file_limit}
use Rattle.clog_base.specs.declared.position.Position.{Position}
use Rattle.clog_base.proofs.Members.{all_from, first_or_further, further, here, nothing_there}
use Rattle.clog_disk.specs.Files.{Files}
use Rattle.clog_mutation.specs.declared.mutation.Mutation.{Mutation}
use Rattle.clog_mutation.specs.Stored.{IsPayload}
use Rattle.clog_scan.specs.declared.answer.End.{End}
use Rattle.clog_scan.specs.declared.answer.End.TheVariants.{Clean, Torn}
use Rattle.clog_scan.specs.declared.answer.Found.{Found}
use Rattle.clog_scan.specs.Laws.{IsFile, place_of}
use Rattle.clog_scan.specs.Segment.{Entry, IsSegment}
use Rattle.clog_scan.proofs.Order.{laid}
use Rattle.clog_scan.proofs.Theorems.{one_segment}
use Rattle.clog_crash.specs.Counts.{LoggedMutation, IsLoggedMutation}
use Rattle.clog_crash.specs.Restore.{HoldsSegment, IsGoodSegment, IsLastId, IsLogged, MayEnd}
use Rattle.clog_folder.specs.Entries.{EndsWell, payload_in}
use Rattle.clog_folder.specs.Folder.{PlacedPayload, Say, payloads_of}
use Rattle.clog_folder.specs.Listing.{IsSegmentAt, segment_cmp}
use Rattle.clog_folder.specs.Segments.{AreHeld, HoldsEntries, IsHeldAt, IsRead, IsTooLong, Row}
use Rattle.clog_folder.specs.Segments.{SegmentHeld}
use Rattle.clog_folder.proofs.PairOrder.{AreOrdered, IsLess, StandsBefore, less_pair}
use Rattle.clog_folder.proofs.PairOrder.{nothing_ordered, ordered_both}
use Rattle.clog_folder.proofs.Rows.{is_above_first, segment_places}
use Rattle.clog_folder.proofs.SegmentsHeld.{IsLogOf, all_mutations, at, log_of}

-- ---- lists

say_both : (ps qs : List PlacedPayload) (log more : List LoggedMutation) → Say ps log
    → Say qs more → Say (ps ++ qs) (log ++ more)
say_both [] qs log more first second =
    subst (λ (l : List LoggedMutation). Say qs (l ++ more)) (sym first) second
say_both (p ∷ ps) qs log more first second = (
  first.0,
  (
    first.1.0 ++ more,
    ap (λ (l : List LoggedMutation). l ++ more) first.1.1,
    first.1.2,
    first.1.3,
    say_both ps qs first.1.0 more first.1.4 second,
  ),
)

-- ---- one file

some_same : (a b : List ℕ) → Some a ≡ Some b → a ≡ b
some_same a b e = cc

module _ (held : Files) (ignore : Bool) (greatest : ℕ) where
  -- what is read of a segment that is there, by its bytes
  holds_segment : (row : Row) (s : SegmentHeld) (last : Bool) → IsSegmentAt row.0 row.1
      → row.0.1 ≡ 6 → finmap.get held row.1 ≡ Some s.bytes
      → (h : HoldsEntries ignore last row.0.0 s.bytes s.entries)
      → HoldsSegment held row.1 row.0.0 h.entries h.end
  holds_segment row s last named six there h = record {
    named = subst (λ (v : ℕ). IsSegmentName row.1 v row.0.0) six named;
    bytes = s.bytes;
    there = there;
    holds = h.segment;
  }

  -- a segment that is there is read as one thing
  one_holding : (name other : List ℕ) (id : ℕ) (bytes : List ℕ) (entries entries' : List Entry)
      (end end' : End) → IsSegmentName name 6 id → finmap.get held name ≡ Some bytes
      → IsSegment bytes id entries end → IsFile bytes → HoldsSegment held other id entries' end'
      → entries' ≡ entries
  one_holding name other id bytes entries entries' end end' named there is file h =
      let names : other ≡ name = h.named.form ∙ sym named.form in
      let same : h.bytes ≡ bytes =
      some_same h.bytes bytes (sym h.there ∙ ap (finmap.get held) names ∙ there) in
      (one_segment bytes id entries' end' entries end file (omega (arith, named.id_fits))
      (subst (λ (b : List ℕ). IsSegment b id entries' end') same h.holds) is).entries_are

  -- ---- a row is read

  may_end : (last : Bool) (id : ℕ) (end : End) → (last ≡ true → IsLastId held id)
      → EndsWell last end → MayEnd held id end
  may_end last id (Clean place) is_last ends = tt
  may_end last id (Torn place cause) is_last ends = (ends.0, is_last ends.1)

  good_segment : (row : Row) (s : SegmentHeld) (last : Bool) → IsSegmentAt row.0 row.1
      → row.0.1 ≡ 6 → finmap.get held row.1 ≡ Some s.bytes
      → HoldsEntries ignore last row.0.0 s.bytes s.entries
      → (last ≡ true → IsLastId held row.0.0) → ignore ≡ false
      → IsGoodSegment held row.1 row.0.0
  good_segment row s last named six there h is_last strict = record {
    entries = h.entries;
    end = h.end;
    holds = holds_segment row s last named six there h;
    may_end = may_end last row.0.0 h.end is_last (h.ends strict);
    payloads = all_mutations s.bytes row.0.0 0 h.entries (place_of h.end)
        (laid s.bytes row.0.0 h.entries h.end h.segment) (h.counted.all strict);
  }

  pub not_long : (name bytes : List ℕ) → finmap.get held name ≡ Some bytes
      → length bytes ≤ file_limit → ¬ IsTooLong held name
  not_long name bytes there short long =
      let same : long.bytes ≡ bytes = some_same long.bytes bytes (sym long.there ∙ there) in
      omega (arith, short, long.long, ap length same)

  pub row_is_read : (row : Row) (s : SegmentHeld) (last : Bool) → IsSegmentAt row.0 row.1
      → IsHeldAt ignore last (Some held) row s → (last ≡ true → IsLastId held row.0.0)
      → IsRead ignore held row.1 row.0.1 row.0.0
  row_is_read row s last named (inl other) is_last = record {
    short = λ six. absurd (other.0 six);
    good = λ strict. absurd (true≢false (sym other.1 ∙ strict));
  }
  row_is_read row s last named (inr this) is_last = record {
    short = λ six. not_long row.1 s.bytes this.2 this.3;
    good = λ strict. (
      this.0,
      good_segment row s last named this.0 this.2 this.4 is_last strict,
    );
  }

  pub find_held : (rows : List Row) (helds : List SegmentHeld)
      → AreHeld ignore greatest (Some held) rows helds → (row : Row) → Contains rows row
      → (s : SegmentHeld) × IsHeldAt ignore (row.0.0 == greatest) (Some held) row s
  find_held [] helds all row there = absurd (nothing_there row there)
  find_held (first ∷ rows) [] all row there = absurd all
  find_held (first ∷ rows) (s ∷ helds) all row there =
      elim (first_or_further first rows row there) [
        | inl same ↦ (
          s,
          subst (λ (r : Row). IsHeldAt ignore (r.0.0 == greatest) (Some held) r s) same all.0,
        )
        | inr more ↦ find_held rows helds all.1 row more
      ]

  -- ---- the log

  -- These payloads are those of all segments of these places.
  pub record IsLogOfRows (rows : List Row) (helds : List SegmentHeld) (log : List LoggedMutation)
      : Type 0 where
    pub say : Say (flat_map payloads_of helds) log
    pub ordered : AreOrdered log
    pub each : (l : LoggedMutation) → Contains log l → IsLoggedMutation held l
    pub within : (l : LoggedMutation) → Contains log l
        → (row : Row) × Contains rows row × (row.0.1 ≡ 6) × (row.0.0 ≡ l.at.id)
    pub every : (row : Row) (entry : Entry) (m : Mutation) → Contains rows row → row.0.1 ≡ 6
        → IsLogged held row.0.0 entry → IsPayload entry.payload m
        → Contains log (record { at = at row.0.0 entry.end; mutation = m })

  no_rows : IsLogOfRows [] [] []
  no_rows = record {
    say = refl;
    ordered = nothing_ordered;
    each = λ l there. absurd (nothing_there l there);
    within = λ l there. absurd (nothing_there l there);
    every = λ row entry m there six logged said. absurd (nothing_there row there);
  }

  -- nothing of a segment of another version
  other_first : (row : Row) (rows : List Row) (s : SegmentHeld) (helds : List SegmentHeld)
      (log : List LoggedMutation) → (row.0.1 ≡ 6 → ⊥) → s.entries ≡ []
      → IsLogOfRows rows helds log → IsLogOfRows (row ∷ rows) (s ∷ helds) log
  other_first row rows s helds log other none so_far = record {
    say = subst (λ (ps : List PlacedPayload). Say (ps ++ flat_map payloads_of helds) log)
        (sym (ap (map (λ (f : Found). (at s.id f.end, payload_in s.bytes f))) none)) so_far.say;
    ordered = so_far.ordered;
    each = so_far.each;
    within = λ l there.
        let old = so_far.within l there in (old.0, further row rows old.0 old.1, old.2, old.3);
    every = λ r entry m there six logged said. elim (first_or_further row rows r there) [
      | inl same ↦ absurd (other (ap (λ (x : Row). x.0.1) same ∙ six))
      | inr more ↦ so_far.every r entry m more six logged said
    ];
  }

  module _ (row : Row) (s : SegmentHeld) (named : IsSegmentAt row.0 row.1) (six : row.0.1 ≡ 6)
      (there : finmap.get held row.1 ≡ Some s.bytes)
      (id_is : s.id ≡ row.0.0)
      (h : HoldsEntries ignore (row.0.0 == greatest) row.0.0 s.bytes s.entries) where
    abbrev Own : List LoggedMutation → Type 0
    Own log = IsLogOf s.bytes row.0.0 0 h.entries s.entries log

    named_six : IsSegmentName row.1 6 row.0.0
    named_six = subst (λ (v : ℕ). IsSegmentName row.1 v row.0.0) six named

    own_say : (own : List LoggedMutation) → Own own → Say (payloads_of s) own
    own_say own is =
        subst (λ (n : ℕ). Say (map (λ (f : Found). (at n f.end, payload_in s.bytes f)) s.entries)
        own) (sym id_is) is.say

    own_id : (own : List LoggedMutation) (l : LoggedMutation) → Own own → Contains own l
        → row.0.0 ≡ l.at.id
    own_id own l is inside =
        ap (λ (p : Position). p.id) (is.each l inside).2

    own_logged : (own : List LoggedMutation) (l : LoggedMutation) → Own own → Contains own l
        → IsLoggedMutation held l
    own_logged own l is inside =
        let found = is.each l inside in
        let ids : row.0.0 ≡ l.at.id = own_id own l is inside in
        record {
          entry = found.0;
          logged = subst (λ (n : ℕ). IsLogged held n found.0) ids (record {
            name = row.1;
            entries = h.entries;
            end = h.end;
            segment = holds_segment row s (row.0.0 == greatest) named six there h;
            listed = found.1;
          });
          place = subst (λ (n : ℕ). at n found.0.end ≡ l.at) ids found.2;
          said = found.3;
        }

    own_every : (own : List LoggedMutation) (entry : Entry) (m : Mutation) → Own own
        → IsLogged held row.0.0 entry → IsPayload entry.payload m
        → Contains own (record { at = at row.0.0 entry.end; mutation = m })
    own_every own entry m is logged said =
        is.every entry m
        (subst (λ (es : List Entry). Contains es entry)
        (one_holding row.1 logged.name row.0.0 s.bytes h.entries logged.entries h.end logged.end
        named_six there h.segment h.file logged.segment) logged.listed) said

    in_order : (own : List LoggedMutation) (rows : List Row) (helds : List SegmentHeld)
        (log : List LoggedMutation) → Own own → IsLogOfRows rows helds log
        → IsStrictlySortedBy segment_cmp (keys_of (row ∷ rows))
        → AllByRecursion (λ (a : LoggedMutation). AllByRecursion (StandsBefore a) log) own
    in_order own rows helds log is so_far sorted =
        all_from (λ (a : LoggedMutation). AllByRecursion (StandsBefore a) log) own (λ a inside.
        all_from (StandsBefore a) log (λ b behind.
        let from = so_far.within b behind in
        let less : IsLess row.0.0 row.0.1 from.0.0.0 from.0.0.1 =
        less_pair row.0.0 row.0.1 from.0.0.0 from.0.0.1
        (is_above_first segment_cmp IsSegmentAt segment_places row rows sorted from.0 from.1) in
        let ids = own_id own a is inside in
        elim less [
          | inl below ↦ inl (omega (arith, below, ids, from.3))
          | inr level ↦ absurd (omega (arith, level.1, six, from.2))
        ]))

    this_first : (rows : List Row) (helds : List SegmentHeld) (log : List LoggedMutation)
        → IsStrictlySortedBy segment_cmp (keys_of (row ∷ rows)) → IsLogOfRows rows helds log
        → (all : List LoggedMutation) × IsLogOfRows (row ∷ rows) (s ∷ helds) all
    this_first rows helds log sorted so_far =
        let found = log_of s.bytes row.0.0 0 h.entries s.entries (place_of h.end)
        (laid s.bytes row.0.0 h.entries h.end h.segment) h.counted.picked in
        let own = found.0 in (
          own ++ log,
          record {
            say = say_both (payloads_of s) (flat_map payloads_of helds) own log
                (own_say own found.1) so_far.say;
            ordered = ordered_both own log found.1.ordered so_far.ordered
                (in_order own rows helds log found.1 so_far sorted);
            each = λ l inside. elim (Contains-append_cases own log l inside) [
              | inl mine ↦ own_logged own l found.1 mine
              | inr more ↦ so_far.each l more
            ];
            within = λ l inside. elim (Contains-append_cases own log l inside) [
              | inl mine ↦ (row, here row rows, six, own_id own l found.1 mine)
              | inr more ↦
                  let old = so_far.within l more in
                  (old.0, further row rows old.0 old.1, old.2, old.3)
            ];
            every = λ r entry m inside is_six logged said.
                elim (first_or_further row rows r inside) [
                  | inl same ↦
                      let ids : row.0.0 ≡ r.0.0 = ap (λ (x : Row). x.0.0) same in
                      Contains-append_left own log _
                      (subst (λ (n : ℕ).
                      Contains own (record { at = at n entry.end; mutation = m }))
                      ids (own_every own entry m found.1
                      (subst (λ (n : ℕ). IsLogged held n entry) (sym ids) logged) said))
                  | inr more ↦ Contains-append_right own log _
                      (so_far.every r entry m more is_six logged said)
                ];
          },
        )

  pub log_of_rows : (rows : List Row) (helds : List SegmentHeld)
      → AreHeld ignore greatest (Some held) rows helds
      → IsStrictlySortedBy segment_cmp (keys_of rows)
      → ((row : Row) → Contains rows row → IsSegmentAt row.0 row.1)
      → (log : List LoggedMutation) × IsLogOfRows rows helds log
  log_of_rows [] [] all sorted named = ([], no_rows)
  log_of_rows [] (s ∷ helds) all sorted named = absurd all
  log_of_rows (row ∷ rows) [] all sorted named = absurd all
  log_of_rows (row ∷ rows) (s ∷ helds) all sorted named =
      let rest = log_of_rows rows helds all.1 (sorted_tail segment_cmp row.0 (keys_of rows) sorted)
      (λ r there. named r (further row rows r there)) in
      elim all.0 [
        | inl other ↦ (rest.0, other_first row rows s helds rest.0 other.0 other.2 rest.1)
        | inr this ↦ this_first row s (named row (here row rows)) this.0 this.2 this.1 this.4
            rows helds
            rest.0 sorted rest.1
      ]
