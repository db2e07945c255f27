-- What places gave is what would be held of them, read whole.
use Rattle.std.proofs.Common.{◌≡◌, ℕ, ◌==◌, List, [], ◌∷◌, ◌++◌, map, Bool, true}
use Rattle.std.proofs.Common.{false}
use Rattle.std.proofs.Common.{Some, Contains, refl, sym, ap, subst, ◌∙◌, inl, inr}
use Rattle.std.specs.List.{AllByRecursion, flat_map}
use Rattle.std.proofs.lemmas.List.{map-append}
use Rattle.std.proofs.lemmas.List.Elements.{Contains-append_left, Contains-append_right}
use Rattle.clog_base.proofs.Members.{further, here}
use Rattle.clog_disk.specs.Files.{Files}
use Rattle.clog_mutation.specs.Stored.{IsPayload}
use Rattle.clog_scan.specs.declared.answer.End.{End}
use Rattle.clog_scan.specs.declared.answer.Found.{Found}
use Rattle.clog_scan.specs.Laws.{AreLaidOut, place_of}
use Rattle.clog_scan.specs.Segment.{found_of}
use Rattle.clog_scan.proofs.Order.{laid}
use Rattle.clog_folder.specs.Entries.{EndsWell, IsGoodIn}
use Rattle.clog_folder.specs.Folder.{payloads_of, placed}
use Rattle.clog_folder.specs.Listing.{Picks}
use Rattle.clog_folder.specs.Segments.{AreHeld, IsHeldAt, Row, SegmentHeld}
use Rattle.replay_merge.specs.Entries.{Entry as Item}
use Rattle.replay_merge.specs.Piped.{IsGood, placed_of}
use Rattle.replay_merge.specs.Places.{AreGiven, IsGivenAt}
use Rattle.replay_merge.specs.Streaming.{IsReadOf, entry_in}
use Rattle.replay_merge.proofs.Picked.{picks_split}

abbrev pub AllGood : List Item → Type 0
AllGood items = (e : Item) → Contains items e → IsGood e

abbrev found_in : Item → Found
found_in e = record { start = e.start; end = e.end }

-- ---- one file

module _ (file : List ℕ) (id : ℕ) where
  abbrev Lays : ℕ → List Item → ℕ → Type 0
  Lays from items place = AreLaidOut file id from (map entry_in items) place

  -- entries that count by their ranges
  kept_of : (from place : ℕ) (items good : List Item) → Lays from items place
      → Picks IsGood items good
      → Picks (IsGoodIn file) (map found_of (map entry_in items)) (map found_in good)
  kept_of from place [] good lays none = ap (map found_in) none
  kept_of from place (e ∷ es) good lays (inl has) = inl (
    (
      has.0.0,
      subst (λ (p : List ℕ). IsPayload p has.0.0) (sym lays.1.payload_is) has.0.1,
    ),
    (
      map found_in has.1.0,
      ap (map found_in) has.1.1,
      kept_of e.end place es has.1.0 lays.2 has.1.2,
    ),
  )
  kept_of from place (e ∷ es) good lays (inr lacks) = inr (
    (λ is. lacks.0 (is.0, subst (λ (p : List ℕ). IsPayload p is.0) lays.1.payload_is is.1)),
    kept_of e.end place es good lays.2 lacks.1,
  )

  all_kept : (from place : ℕ) (items : List Item) → Lays from items place → AllGood items
      → AllByRecursion (IsGoodIn file) (map found_of (map entry_in items))
  all_kept from place [] lays good = tt
  all_kept from place (e ∷ es) lays good =
      let is = good e (here e es) in (
        (is.0, subst (λ (p : List ℕ). IsPayload p is.0) (sym lays.1.payload_is) is.1),
        all_kept e.end place es lays.2 (λ x there. good x (further e es x there)),
      )

  abbrev held_as : List Found → SegmentHeld
  held_as kept = record { id = id; bytes = file; entries = kept }

  one_payload : (from : ℕ) (e : Item) (es : List Item) (place : ℕ) (kept : List Found)
      → Lays from (e ∷ es) place → e.id ≡ id
      → placed (held_as kept) (found_in e) ≡ placed_of e
  one_payload from e es place kept lays id_is = λ i. (
    record { id = sym id_is i; offset = e.end },
    lays.1.payload_is i,
  )

  -- their payloads are the items'
  payloads_are : (from place : ℕ) (items good : List Item) (kept : List Found)
      → Lays from items place → Picks IsGood items good
      → ((e : Item) → Contains items e → e.id ≡ id)
      → map (placed (held_as kept)) (map found_in good) ≡ map placed_of good
  payloads_are from place [] good kept lays none ids =
      subst (λ (g : List Item).
      map (placed (held_as kept)) (map found_in g) ≡ map placed_of g) (sym none) refl
  payloads_are from place (e ∷ es) good kept lays (inl has) ids =
      let first = one_payload from e es place kept lays (ids e (here e es)) in
      let more = payloads_are e.end place es has.1.0 kept lays.2 has.1.2
      (λ x there. ids x (further e es x there)) in
      subst (λ (g : List Item).
      map (placed (held_as kept)) (map found_in g) ≡ map placed_of g) (sym has.1.1)
      (λ i. first i ∷ more i)
  payloads_are from place (e ∷ es) good kept lays (inr lacks) ids =
      payloads_are e.end place es good kept lays.2 lacks.1
      (λ x there. ids x (further e es x there))

-- ---- all places

module _ (files : Files) (ignore : Bool) where
  -- What is held of a place, and its payloads are those of the items that count.
  record KeepsPlace (last : Bool) (row : Row) (good : List Item) : Type 0 where
    pub held : SegmentHeld
    pub is_held : IsHeldAt ignore last (Some files) row held
    pub payloads : payloads_of held ≡ map placed_of good

  no_place : (last : Bool) (row : Row) (items good : List Item) → (row.0.1 ≡ 6 → ⊥)
      → ignore ≡ true → items ≡ [] → Picks IsGood items good → KeepsPlace last row good
  no_place last row items good other passes none picks = record {
    held = record { id = row.0.0; bytes = []; entries = [] };
    is_held = inl (other, passes, refl);
    payloads = sym (ap (map placed_of)
        (subst (λ (xs : List Item). Picks IsGood xs good) none picks));
  }

  one_place : (last : Bool) (row : Row) (items good : List Item) (end : End) → row.0.1 ≡ 6
      → IsReadOf files row.1 row.0.0 items end → (ignore ≡ false → EndsWell last end)
      → Picks IsGood items good → (ignore ≡ false → AllGood items) → KeepsPlace last row good
  one_place last row items good end six read ends picks all =
      let id = row.0.0 in
      let lays = laid read.file id (map entry_in items) end read.segment in
      let kept = map found_in good in
      record {
        held = record { id = id; bytes = read.file; entries = kept };
        is_held = inr (
          six,
          refl,
          read.there,
          read.short,
          record {
            file = read.is_file;
            entries = map entry_in items;
            end = end;
            segment = read.segment;
            counted = record {
              picked = kept_of read.file id 0 (place_of end) items good lays picks;
              all = λ strict. all_kept read.file id 0 (place_of end) items lays (all strict);
            };
            ends = ends;
          },
        );
        payloads = payloads_are read.file id 0 (place_of end) items good kept lays picks read.ids;
      }

  keeps_place : (last : Bool) (row : Row) (items good : List Item)
      → IsGivenAt ignore last files row items → Picks IsGood items good
      → (ignore ≡ false → AllGood items) → KeepsPlace last row good
  keeps_place last row items good (inl other) picks all =
      no_place last row items good other.0 other.1 other.2 picks
  keeps_place last row items good (inr this) picks all =
      one_place last row items good this.1.0 this.0 this.1.1 this.1.2 picks all

  -- What is held of all places.
  pub record KeepsPlaces (greatest : ℕ) (rows : List Row) (good : List Item) : Type 0 where
    pub helds : List SegmentHeld
    pub are_held : AreHeld ignore greatest (Some files) rows helds
    pub payloads : flat_map payloads_of helds ≡ map placed_of good

  pub keeps_places : (greatest : ℕ) (rows : List Row) (items good : List Item)
      → AreGiven ignore greatest files rows items → Picks IsGood items good
      → (ignore ≡ false → AllGood items) → KeepsPlaces greatest rows good
  keeps_places greatest [] items good none picks all = record {
    helds = [];
    are_held = tt;
    payloads = sym (ap (map placed_of)
        (subst (λ (xs : List Item). Picks IsGood xs good) none picks));
  }
  keeps_places greatest (row ∷ rows) items good given picks all =
      let first = given.0 in
      let rest = given.1.0 in
      let is = given.1.1 in
      let parts = picks_split IsGood first rest good
      (subst (λ (xs : List Item). Picks IsGood xs good) is picks) in
      let one = keeps_place (row.0.0 == greatest) row first parts.0 given.1.2 parts.3
      (λ strict e there. all strict e (subst (λ (xs : List Item). Contains xs e) (sym is)
      (Contains-append_left first rest e there))) in
      let more = keeps_places greatest rows rest parts.1 given.1.3 parts.4
      (λ strict e there. all strict e (subst (λ (xs : List Item). Contains xs e) (sym is)
      (Contains-append_right first rest e there))) in
      record {
        helds = one.held ∷ more.helds;
        are_held = (one.is_held, more.are_held);
        payloads = (λ i. one.payloads i ++ more.payloads i)
            ∙ sym (map-append placed_of parts.0 parts.1)
            ∙ sym (ap (map placed_of) parts.2);
      }

-- what all count is picked whole
pub all_picked : (items : List Item) → AllGood items → Picks IsGood items items
all_picked [] good = refl
all_picked (e ∷ es) good = inl (
  good e (here e es),
  (es, refl, all_picked es (λ x there. good x (further e es x there))),
)
