-- What a log of notes is lent may be written behind what stands in it.
use Rattle.std.proofs.Common.{
  ◌≡◌,
  ℕ,
  zero,
  suc,
  ◌+◌,
  ◌<◌,
  ◌≤◌,
  ◌==◌,
  inl,
  inr,
  Bool,
  true,
  false,
  List,
  [],
  ◌∷◌,
  length,
  take,
  drop,
  if◌then◌else◌,
  refl,
  sym,
  ◌∙◌,
  subst,
  arith,
}
use Rattle.std.specs.Prelude.{◌⊎◌}
use Rattle.std.specs.List.{AllPairs, Contains}
use Rattle.std.proofs.lemmas.Bool.Decides.{nat_tests}
use Rattle.clog_spec.specs.Sizes.{front_size, marker_size}
use Rattle.clog_base.specs.declared.sizes.Sizes.{Sizes}
use Rattle.clog_base.specs.Positions.{offset_of}
use Rattle.clog_base.proofs.Members.{further, here, nothing_there}
use Rattle.path_core.specs.declared.note.EntryNote.{EntryNote}
use Rattle.path_core.specs.Keeper.{FollowTo, GoOnBehind, Tile, last_end}
use Rattle.path_core.specs.Keys.{after, behind_marker, fits, next_segment}
use Rattle.path_core.proofs.lists.Heads.{first_or_later}
use Rattle.clog_segments.specs.NoteLog.{IsApart, IsGood, end_behind}
use Rattle.clog_store.specs.NoteSteps.{StandAhead, StartsBehind}
use Rattle.clog_store.proofs.NoteCuts.{ahead_from, follow_rest}
use Rattle.clog_segments.proofs.NoteRuns.{placed_good}
use Rattle.clog_store.proofs.NoteNext.{in_take}
use Rattle.clog_store.proofs.NoteParts.{Below, pairs_more}

-- ---- behind a marker, or the front

either_behind : (capacity key start : ℕ) (b : Bool) → fits capacity key marker_size ≡ b
    → start ≡ (if b then key + marker_size else next_segment key) → capacity ≤ 33554432 → 0 < key
    → StartsBehind key start
either_behind capacity key start true is same low some =
    let room : offset_of key + marker_size < capacity = grind (arith, nat_tests) in
    inr (inl (some, same, omega (arith, room, low)))
either_behind capacity key start false is same low some =
    inr (inr (omega (arith, same), omega (arith, same)))

pub behind_starts : (capacity key start : ℕ) → start ≡ behind_marker capacity key
    → capacity ≤ 33554432 → 0 < key → StartsBehind key start
behind_starts capacity key start same low some =
    either_behind capacity key start (fits capacity key marker_size) refl same low some

pub next_starts : (key start : ℕ) → start ≡ next_segment key → StartsBehind key start
next_starts key start same = inr (inr (omega (arith, same), omega (arith, same)))

-- in a still later segment
later_starts : (key mid start : ℕ) → StartsBehind key mid → start ≡ next_segment mid
    → StartsBehind key start
later_starts key mid start begun same = elim begun [
  | inl e ↦ inl (e.0, omega (arith, same))
  | inr more ↦ elim more [
    | inl e ↦ inr (inr (omega (arith, same, e.1, e.2), omega (arith, same)))
    | inr e ↦ inr (inr (omega (arith, same, e.0), omega (arith, same)))
  ]
]

after_starts : (capacity key : ℕ) (b : Bool) → (key == 0) ≡ b → capacity ≤ 33554432
    → StartsBehind key (if b then front_size else behind_marker capacity key)
after_starts capacity key true is low =
    let none : key ≡ 0 = grind (arith, nat_tests) in
    inl (none, omega arith)
after_starts capacity key false is low =
    let some : 0 < key = grind (arith, nat_tests) in
    behind_starts capacity key (behind_marker capacity key) refl low some

pub tile_starts : (capacity synced start : ℕ) → capacity ≤ 33554432
    → (start ≡ after capacity synced) ⊎ (start ≡ next_segment (after capacity synced))
    → StartsBehind synced start
tile_starts capacity synced start low begins =
    let first : StartsBehind synced (after capacity synced) =
    after_starts capacity synced (synced == 0) refl low in
    elim begins [
      | inl same ↦ subst (StartsBehind synced) (sym same) first
      | inr next ↦ later_starts synced (after capacity synced) start first next
    ]

pub starts_apart : (key start : ℕ) → StartsBehind key start → start ≡ key → ⊥
starts_apart key start begun same = elim begun [
  | inl e ↦ omega (arith, e.0, e.1, same)
  | inr more ↦ elim more [
    | inl e ↦ omega (arith, e.1, same)
    | inr e ↦ omega (arith, e.0, same)
  ]
]

pub starts_above : (key start : ℕ) → StartsBehind key start → key ≤ start
starts_above key start begun = elim begun [
  | inl e ↦ omega (arith, e.0)
  | inr more ↦ elim more [ inl e ↦ omega (arith, e.1) | inr e ↦ omega (arith, e.0) ]
]

-- ---- where entries end

pub last_is : (key : ℕ) (k : EntryNote) (ks : List EntryNote)
    → end_behind key (k ∷ ks) ≡ last_end k ks
last_is key k [] = refl
last_is key k (m ∷ ms) = last_is k.end.0 m ms

module _ (sizes : Sizes) where
  abbrev AllGood : List EntryNote → Type 0
  AllGood ns = (n : EntryNote) → Contains ns n → IsGood sizes n

  bytes_some : (n : EntryNote) → IsGood sizes n → 0 < length n.bytes
  bytes_some n good =
      let end = (placed_good 0 sizes n good).end in omega (arith, end)

  pub end_some : (n : EntryNote) → IsGood sizes n → n.start.0 < n.end.0
  end_some n good = omega (arith, good.in_segment.long, bytes_some n good)

  pub end_low : (n : EntryNote) → IsGood sizes n → offset_of n.end.0 ≤ 33554432
  end_low n good =
      let long = good.in_segment.long in
      let inside = good.in_segment.inside in
      let most = sizes.within.greatest_capacity in
      omega (arith, long, inside, most)

  ends_some : (key : ℕ) (ns : List EntryNote) → AllGood ns → 0 < key → 0 < end_behind key ns
  ends_some key [] good some = some
  ends_some key (n ∷ ns) good some =
      ends_some n.end.0 ns (λ m among. good m (further n ns m among))
      (omega (arith, end_some n (good n (here n ns))))

  pub end_above : (key : ℕ) (ns : List EntryNote) → AllGood ns → 0 < length ns
      → 0 < end_behind key ns
  end_above key [] good some = absurd (omega (arith, some))
  end_above key (n ∷ ns) good some =
      ends_some n.end.0 ns (λ m among. good m (further n ns m among))
      (omega (arith, end_some n (good n (here n ns))))

  ends_low : (key : ℕ) (ns : List EntryNote) → AllGood ns → offset_of key ≤ 33554432
      → offset_of (end_behind key ns) ≤ 33554432
  ends_low key [] good low = low
  ends_low key (n ∷ ns) good low =
      ends_low n.end.0 ns (λ m among. good m (further n ns m among))
      (end_low n (good n (here n ns)))

  -- ---- the notes of a run

  module _ (synced upto : ℕ) (run : List EntryNote) (good : AllGood run)
      (tiled : Tile sizes.capacity synced upto run) where
    most : sizes.capacity ≤ 33554432
    most = sizes.within.greatest_capacity

    tile_ahead : (w : ℕ) (ns : List EntryNote) → AllGood ns → Tile sizes.capacity synced upto ns
        → IsApart (end_behind synced (take w ns)) (drop w ns)
        → StandAhead upto (end_behind synced (take w ns)) (drop w ns)
    tile_ahead zero [] all tile apart = sym tile
    tile_ahead (suc w) [] all tile apart = sym tile
    tile_ahead zero (n ∷ ns) all tile apart =
        (tile_starts sizes.capacity synced n.start.0 most tile.0, tile.1)
    tile_ahead (suc w) (n ∷ ns) all tile apart =
        let first = all n (here n ns) in
        let more = λ (m : EntryNote) (among : Contains (take w ns) m).
        all m (further n ns m (in_take w ns m among)) in
        ahead_from upto (end_behind n.end.0 (take w ns)) (drop w ns)
        (ends_some n.end.0 (take w ns) more (omega (arith, end_some n first)))
        (ends_low n.end.0 (take w ns) more (end_low n first))
        (follow_rest upto n.end.0 w ns tile.1) apart

    pub run_ahead : (w : ℕ) → IsApart (end_behind synced (take w run)) (drop w run)
        → StandAhead upto (end_behind synced (take w run)) (drop w run)
    run_ahead w apart = tile_ahead w run good tiled apart

    -- the first note of the run begins apart from what was synced
    pub first_apart : IsApart synced run
    first_apart = by run tiled
      where
        by : (ns : List EntryNote) → Tile sizes.capacity synced upto ns → IsApart synced ns
        by [] tile = tt
        by (n ∷ ns) tile =
            starts_apart synced n.start.0
            (tile_starts sizes.capacity synced n.start.0 most tile.0)

    -- its notes end one above the other, and the last at the key
    rises : (key : ℕ) (ns : List EntryNote) → AllGood ns → FollowTo upto key ns
        → (key ≤ upto) × ((n : EntryNote) → Contains ns n → (key < n.end.0) × (n.end.0 ≤ upto))
    rises key [] all follow = (omega (arith, follow), λ n among. absurd (nothing_there n among))
    rises key (n ∷ ns) all follow =
        let first = end_some n (all n (here n ns)) in
        let rest = rises n.end.0 ns (λ m among. all m (further n ns m among)) follow.1 in
        let up : key ≤ n.start.0 = elim follow.0 [
          | inl e ↦ omega (arith, e)
          | inr more ↦ elim more [ inl e ↦ omega (arith, e) | inr e ↦ omega (arith, e) ]
        ] in (
          omega (arith, first, up, rest.0),
          λ m among. elim (first_or_later n m ns among) [
            | inl e ↦ subst (λ (x : EntryNote). (key < x.end.0) × (x.end.0 ≤ upto)) e
                (omega (arith, first, up), rest.0)
            | inr later ↦
                let r = rest.1 m later in (omega (arith, first, up, r.0), r.1)
          ],
        )

    follow_ascend : (key : ℕ) (ns : List EntryNote) → AllGood ns → FollowTo upto key ns
        → AllPairs Below ns
    follow_ascend key [] all follow = λ i j d l h. absurd (omega (arith, h))
    follow_ascend key (n ∷ ns) all follow =
        let later = λ (m : EntryNote) (among : Contains ns m). all m (further n ns m among) in
        pairs_more n ns (λ m among. ((rises n.end.0 ns later follow.1).1 m among).0)
        (follow_ascend n.end.0 ns later follow.1)

    pub ascending : AllPairs Below run
    ascending = by run good tiled
      where
        by : (ns : List EntryNote) → AllGood ns → Tile sizes.capacity synced upto ns
            → AllPairs Below ns
        by [] all tile = λ i j d l h. absurd (omega (arith, h))
        by (n ∷ ns) all tile =
            let later = λ (m : EntryNote) (among : Contains ns m). all m (further n ns m among) in
            pairs_more n ns (λ m among. ((rises n.end.0 ns later tile.1).1 m among).0)
            (follow_ascend n.end.0 ns later tile.1)

    behind_all : (ns : List EntryNote) → AllGood ns → Tile sizes.capacity synced upto ns
        → (synced ≤ upto) × ((n : EntryNote) → Contains ns n
        → (after sizes.capacity synced < n.end.0) × (n.end.0 ≤ upto))
    behind_all [] all tile = (omega (arith, tile), λ n among. absurd (nothing_there n among))
    behind_all (n ∷ ns) all tile =
        let first = end_some n (all n (here n ns)) in
        let rest = rises n.end.0 ns (λ m among. all m (further n ns m among)) tile.1 in
        let low = starts_above synced n.start.0
        (tile_starts sizes.capacity synced n.start.0 most tile.0) in
        let up : after sizes.capacity synced ≤ n.start.0 = elim tile.0 [
          | inl e ↦ omega (arith, e)
          | inr e ↦ omega (arith, e)
        ] in (
          omega (arith, low, first, rest.0),
          λ m among. elim (first_or_later n m ns among) [
            | inl e ↦ subst
                (λ (x : EntryNote). (after sizes.capacity synced < x.end.0) × (x.end.0 ≤ upto)) e
                (omega (arith, up, first), rest.0)
            | inr later ↦
                let r = rest.1 m later in (omega (arith, up, first, r.0), r.1)
          ],
        )

    pub goes_up_to : synced ≤ upto
    goes_up_to = (behind_all run good tiled).0

    pub run_above : (n : EntryNote) → Contains run n → after sizes.capacity synced < n.end.0
    run_above n among = ((behind_all run good tiled).1 n among).0

    pub run_below : (n : EntryNote) → Contains run n → n.end.0 ≤ upto
    run_below n among = ((behind_all run good tiled).1 n among).1

-- what comes behind notes that were kept is apart from them
pub kept_apart : (capacity synced : ℕ) (kept more : List EntryNote)
    → GoOnBehind capacity kept more → (kept ≡ [] → IsApart synced more) → capacity ≤ 33554432
    → (0 < length kept → 0 < end_behind synced kept) → IsApart (end_behind synced kept) more
kept_apart capacity synced [] more go_on apart low some = apart refl
kept_apart capacity synced (k ∷ ks) [] go_on apart low some = tt
kept_apart capacity synced (k ∷ ks) (n ∷ ns) go_on apart low some =
    let last = last_is synced k ks in
    let above : 0 < last_end k ks = omega (arith, last, some (omega arith)) in
    let begun : StartsBehind (last_end k ks) n.start.0 = elim go_on [
      | inl e ↦ behind_starts capacity (last_end k ks) n.start.0 e low above
      | inr e ↦ next_starts (last_end k ks) n.start.0 e
    ] in
    λ is. starts_apart (last_end k ks) n.start.0 begun (is ∙ last)
