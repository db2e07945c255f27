-- Reading stops at a place, or a payload in front of it is refused: which is the first damage.
use Rattle.std.proofs.Common.{◌≡◌, ℕ, ◌<◌, ◌≤◌, ◌⊎◌, ◌==◌, List, [], ◌∷◌, ◌++◌, map, Bool}
use Rattle.std.proofs.Common.{false, Some, Contains, refl, sym, ap, subst, ◌∙◌, inl, inr, arith}
use Rattle.std.proofs.Common.{append_assoc}
use Rattle.std.specs.List.Sorted.{IsStrictlySortedBy}
use Rattle.std.specs.Map.{keys_of}
use Rattle.std.specs.declared.cmp.Ordering.TheVariants.{Less}
use Rattle.std.proofs.lemmas.Bool.{true≢false}
use Rattle.std.proofs.lemmas.Map.Keys.{sorted_tail}
use Rattle.std.proofs.lemmas.List.Elements.{Contains-append_cases, Contains-append_left}
use Rattle.std.proofs.lemmas.List.Elements.{Contains-append_right}
use Rattle.clog_spec.specs.Names.{segment_name_of}
use Rattle.clog_base.proofs.Members.{first_or_further, from_map, further, here, nothing_there}
use Rattle.clog_disk.specs.Files.{Files}
use Rattle.clog_entry.specs.declared.cause.Cause.{Cause}
use Rattle.clog_entry.specs.declared.cause.Cause.TheVariants.{Payload}
use Rattle.clog_mutation.specs.Refusals.{IsRefused}
use Rattle.clog_mutation.specs.Stored.{IsPayload}
use Rattle.clog_scan.specs.declared.answer.End.{End}
use Rattle.clog_scan.specs.declared.answer.End.TheVariants.{Torn}
use Rattle.clog_scan.specs.Laws.{AreLaidOut, place_of}
use Rattle.clog_scan.specs.Segment.{Entry}
use Rattle.clog_scan.proofs.Order.{laid}
use Rattle.clog_crash.specs.Damage.{IsFirstRefused}
use Rattle.clog_crash.specs.Folder.{IsHeld}
use Rattle.clog_crash.specs.Restore.{AreMutations}
use Rattle.clog_folder.specs.Listing.{AreRows, IsSegmentAt, segment_cmp}
use Rattle.clog_folder.specs.Segments.{IsDamagedAt, IsDamagedFirst, IsGreatestId, Row}
use Rattle.clog_folder.proofs.PairOrder.{IsLess, less_pair}
use Rattle.clog_folder.proofs.Rows.{is_above_first, row_of, segment_places}
use Rattle.clog_folder.proofs.SegmentsRead.{damaged_first}
use Rattle.replay_merge.specs.Entries.{Entry as Item}
use Rattle.replay_merge.specs.declared.piped.Refused.{Refused}
use Rattle.replay_merge.specs.Piped.{IsGood, IsGoodOrBehind, IsRefusedAs}
use Rattle.replay_merge.specs.Places.{AreGiven, IsGivenAt, IsTornBehind}
use Rattle.replay_merge.specs.Streaming.{IsReadOf, entry_in}
use Rattle.replay_merge.proofs.Kept.{AllGood, KeepsPlaces, all_picked, keeps_places}

-- ---- the first refused payload of a file

module _ (file : List ℕ) (id : ℕ) where
  abbrev Lays : ℕ → List Item → ℕ → Type 0
  Lays from items place = AreLaidOut file id from (map entry_in items) place

  starts_behind : (from place : ℕ) (items : List Item) (e : Item) → Lays from items place
      → Contains items e → from ≤ e.start
  starts_behind from place [] e lays there = absurd (nothing_there e there)
  starts_behind from place (x ∷ xs) e lays there = elim (first_or_further x xs e there) [
    | inl same ↦ subst (λ (y : Item). from ≤ y.start) same lays.0
    | inr more ↦
        let rest = starts_behind x.end place xs e lays.2 more in
        omega (arith, rest, lays.0, lays.1.range)
  ]

  first_in : (from place : ℕ) (items : List Item) (e : Item) (r : Refused) → Lays from items place
      → Contains items e → IsRefusedAs e r
      → ((x : Item) → Contains items x → IsGood x ⊎ (r.start ≤ x.start))
      → IsFirstRefused (map entry_in items) r.start r.fault
  first_in from place [] e r lays there is least = absurd (nothing_there e there)
  first_in from place (x ∷ xs) e r lays there is least = elim (first_or_further x xs e there) [
    | inl same ↦ inl (
      is.start ∙ sym (ap (λ (y : Item). y.start) same),
      subst (λ (y : Item). IsRefused y.payload r.fault) (sym same) is.fault,
    )
    | inr more ↦ elim (least x (here x xs)) [
      | inl good ↦ inr (
        good,
        first_in x.end place xs e r lays.2 more is (λ y inside. least y (further x xs y inside)),
      )
      | inr behind ↦
          let rest = starts_behind x.end place xs e lays.2 more in
          absurd (omega (arith, rest, behind, is.start, lays.1.range))
    ]
  ]

-- ---- the place of an item

-- The item is of a place: those in front gave some items, and it gave these.
pub record StandsAt (ignore : Bool) (greatest : ℕ) (files : Files) (rows : List Row)
    (items : List Item) (e : Item) : Type 0 where
  pub row : Row
  pub front : List Row
  pub rest : List Row
  pub parts : rows ≡ front ++ row ∷ rest
  pub before : List Item
  pub own : List Item
  pub after : List Item
  pub items_are : items ≡ before ++ (own ++ after)
  pub given : AreGiven ignore greatest files front before
  pub gives : IsGivenAt ignore (row.0.0 == greatest) files row own
  pub there : Contains own e

pub stands_at : (ignore : Bool) (greatest : ℕ) (files : Files) (rows : List Row) (items : List Item)
    (e : Item) → AreGiven ignore greatest files rows items → Contains items e
    → StandsAt ignore greatest files rows items e
stands_at ignore greatest files [] items e none there =
    absurd (nothing_there e (subst (λ (xs : List Item). Contains xs e) none there))
stands_at ignore greatest files (row ∷ rows) items e given there =
    let first = given.0 in
    let rest = given.1.0 in
    elim (Contains-append_cases first rest e
    (subst (λ (xs : List Item). Contains xs e) given.1.1 there)) [
      | inl mine ↦ record {
        row = row;
        front = [];
        rest = rows;
        parts = refl;
        before = [];
        own = first;
        after = rest;
        items_are = given.1.1;
        given = refl;
        gives = given.1.2;
        there = mine;
      }
      | inr other ↦
          let s = stands_at ignore greatest files rows rest e given.1.3 other in
          record {
            row = s.row;
            front = row ∷ s.front;
            rest = s.rest;
            parts = ap (λ (rs : List Row). row ∷ rs) s.parts;
            before = first ++ s.before;
            own = s.own;
            after = s.after;
            items_are = given.1.1 ∙ ap (λ (xs : List Item). first ++ xs) s.items_are
                ∙ sym (append_assoc first s.before (s.own ++ s.after));
            given = (first, (s.before, refl, given.1.2, s.given));
            gives = s.gives;
            there = s.there;
          }
    ]

-- rows in front are below
is_below : (front rest : List Row) (row other : Row)
    → IsStrictlySortedBy segment_cmp (keys_of (front ++ row ∷ rest)) → Contains front other
    → segment_cmp other.0 row.0 ≡ Less
is_below [] rest row other sorted there = absurd (nothing_there other there)
is_below (f ∷ front) rest row other sorted there = elim (first_or_further f front other there) [
  | inl same ↦ subst (λ (r : Row). segment_cmp r.0 row.0 ≡ Less) same
      (is_above_first segment_cmp IsSegmentAt segment_places f (front ++ row ∷ rest) sorted row
      (Contains-append_right front (row ∷ rest) row (here row rest)))
  | inr more ↦ is_below front rest row other
      (sorted_tail segment_cmp f.0 (keys_of (front ++ row ∷ rest)) sorted) more
]

-- the id of what a place gave, without damage passed over
is_of : (last : Bool) (files : Files) (row : Row) (items : List Item) (e : Item)
    → IsGivenAt false last files row items → Contains items e
    → (row.0.1 ≡ 6) × (e.id ≡ row.0.0)
is_of last files row items e (inl other) there = absurd (true≢false (sym other.1))
is_of last files row items e (inr this) there = (this.0, this.1.1.ids e there)

module _ (files : Files) (greatest : ℕ) (rows : List Row)
    (places : AreRows segment_cmp IsSegmentAt (IsHeld files) rows)
    (top : IsGreatestId rows greatest) where
  module _ (row : Row) (front rest : List Row) (parts : rows ≡ front ++ row ∷ rest) where
    abbrev last : Bool
    last = row.0.0 == greatest

    sorted : IsStrictlySortedBy segment_cmp (keys_of (front ++ row ∷ rest))
    sorted = subst (λ (rs : List Row). IsStrictlySortedBy segment_cmp (keys_of rs)) parts
        places.ordered

    -- what a place in front gave is of a lesser id
    below_it : (before : List Item) (x : Item) → AreGiven false greatest files front before
        → Contains before x → row.0.1 ≡ 6 → x.id < row.0.0
    below_it before x given there six =
        let s = stands_at false greatest files front before x given there in
        let of = is_of (s.row.0.0 == greatest) files s.row s.own x s.gives s.there in
        let inside : Contains front s.row = subst (λ (rs : List Row). Contains rs s.row)
        (sym s.parts) (Contains-append_right s.front (s.row ∷ s.rest) s.row (here s.row s.rest)) in
        let less : IsLess s.row.0.0 s.row.0.1 row.0.0 row.0.1 =
        less_pair s.row.0.0 s.row.0.1 row.0.0 row.0.1
        (is_below front rest row s.row sorted inside) in
        elim less [
          | inl below ↦ omega (arith, below, of.1)
          | inr level ↦ absurd (omega (arith, level.1, of.0, six))
        ]

    held_before : (before : List Item) → AreGiven false greatest files front before
        → AllGood before → KeepsPlaces files false greatest front before
    held_before before given good =
        keeps_places files false greatest front before before given (all_picked before good)
        (λ strict. good)

    -- the least refused payload is the first damage
    pub payload_first : (before own : List Item) (end : End) (e : Item) (r : Refused)
        → row.0.1 ≡ 6 → AreGiven false greatest files front before
        → IsReadOf files row.1 row.0.0 own end → Contains own e → IsRefusedAs e r
        → ((x : Item) → Contains (before ++ own) x → IsGoodOrBehind r x)
        → IsDamagedFirst files (segment_name_of 6 r.id) r.start (Payload r.fault)
    payload_first before own end e r six given read there is least =
        let id = row.0.0 in
        let ids : r.id ≡ id = is.id ∙ read.ids e there in
        let good : AllGood before = λ x inside.
        elim (least x (Contains-append_left before own x inside)) [
          | inl counts ↦ counts
          | inr behind ↦
              let low = below_it before x given inside six in
              elim behind [
                | inl above ↦ absurd (omega (arith, above, low, ids))
                | inr level ↦ absurd (omega (arith, level.0, low, ids))
              ]
        ] in
        let helds = held_before before given good in
        let first = first_in read.file id 0 (place_of end) own e r
        (laid read.file id (map entry_in own) end read.segment) there is (λ x inside.
        elim (least x (Contains-append_right before own x inside)) [
          | inl counts ↦ inl counts
          | inr behind ↦ elim behind [
            | inl above ↦
                let same = read.ids x inside in absurd (omega (arith, above, ids, same))
            | inr level ↦ inr level.1
          ]
        ]) in
        let torn : IsDamagedAt (Some files) last row r.start (Payload r.fault) = inr (
          six,
          record {
            bytes = read.file;
            whole = read.there;
            short = read.short;
            torn = record {
              file = read.is_file;
              entries = map entry_in own;
              end = end;
              segment = read.segment;
              tears = inl (r.fault, first, refl);
              no_tail = λ soft. absurd soft;
            };
          },
        ) in
        let named = (places.each row.0 row.1
        (row_of segment_cmp IsSegmentAt segment_places rows front rest row parts)).1 in
        let name : row.1 ≡ segment_name_of 6 r.id =
        named.form ∙ (λ i. segment_name_of (six i) (sym ids i)) in
        subst (λ (n : List ℕ). IsDamagedFirst files n r.start (Payload r.fault)) name
        (damaged_first files false greatest rows places top front rest row helds.helds parts
        helds.are_held r.start (Payload r.fault) refl torn)

    -- a place is damaged behind its entries, which all count
    torn_is : (own : List Item) (at : ℕ) (cause : Cause) → AllGood own
        → IsTornBehind last files row own at cause → IsDamagedAt (Some files) last row at cause
    torn_is own at cause good (inl other) = inl (other.0, other.2, other.3)
    torn_is own at cause good (inr this) =
        let read = this.1 in
        let all : AreMutations (map entry_in own) = λ x inside.
        let from = from_map entry_in own x inside in
        subst (λ (y : Entry). (m : _) × IsPayload y.payload m) from.2 (good from.0 from.1) in
        inr (
          this.0,
          record {
            bytes = read.file;
            whole = read.there;
            short = read.short;
            torn = record {
              file = read.is_file;
              entries = map entry_in own;
              end = Torn at cause;
              segment = read.segment;
              tears = inr (all, refl);
              no_tail = this.2;
            };
          },
        )

    pub torn_first : (before own : List Item) (at : ℕ) (cause : Cause) → AllGood before
        → AllGood own → AreGiven false greatest files front before
        → IsTornBehind last files row own at cause → IsDamagedFirst files row.1 at cause
    torn_first before own at cause good good' given torn =
        let helds = held_before before given good in
        damaged_first files false greatest rows places top front rest row helds.helds parts
        helds.are_held at cause refl (torn_is own at cause good' torn)
