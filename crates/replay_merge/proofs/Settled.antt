-- What is answered of a folder whose segments were read and merged is the first refusal.
use Rattle.std.proofs.Common.{◌≡◌, ℕ, List, [], ◌∷◌, ◌++◌, Bool, false, Option, Some, None}
use Rattle.std.proofs.Common.{Ok}
use Rattle.std.proofs.Common.{Err, IfSome, Contains, Result, sym, ap, subst, ◌∙◌, inl, inr}
use Rattle.std.proofs.Common.{append_assoc}
use Rattle.std.proofs.lemmas.Bool.{true≢false}
use Rattle.std.proofs.lemmas.List.{append-nil}
use Rattle.std.proofs.lemmas.List.Elements.{Contains-append_cases, Contains-append_left}
use Rattle.std.proofs.lemmas.List.Elements.{Contains-append_right}
use Rattle.clog_spec.specs.Names.{segment_name_of}
use Rattle.clog_base.specs.declared.fault.Quantity.TheVariants.{SegmentBytes}
use Rattle.clog_base.proofs.Members.{nothing_there}
use Rattle.clog_disk.specs.Files.{Files}
use Rattle.clog_entry.specs.declared.cause.Cause.{Cause}
use Rattle.clog_entry.specs.declared.cause.Cause.TheVariants.{Payload}
use Rattle.clog_crash.specs.Folder.{IsHeld}
use Rattle.clog_folder.specs.declared.fault.OpenFault.{OpenFault}
use Rattle.clog_folder.specs.declared.fault.OpenFault.TheVariants as fault
use Rattle.clog_folder.specs.declared.tables.TableHeld.{TableHeld}
use Rattle.clog_folder.specs.Listing.{AreRows, IsSegmentAt, Picks, segment_cmp}
use Rattle.clog_folder.specs.Segments.{IsDamagedFirst, IsFirstLong, IsGreatestId, Row}
use Rattle.clog_folder.specs.Segments.{SegmentsRefused}
use Rattle.clog_folder.proofs.SegmentsRead.{long_first}
use Rattle.replay_merge.specs.Entries.{Entry as Item}
use Rattle.replay_merge.specs.declared.piped.Piped.{Piped}
use Rattle.replay_merge.specs.declared.piped.Refused.{Refused}
use Rattle.replay_merge.specs.Piped.{IsDone, IsGood, IsGoodOrBehind, IsLeastRefused, IsRefusedAs}
use Rattle.replay_merge.specs.Places.{AreGiven, GivesPlaces, HaveGiven, IsTornBehind, StopsAt}
use Rattle.replay_merge.specs.Places.{StopsLong, StopsTorn}
use Rattle.replay_merge.specs.Settling.{ChecksPiped, IsFirstFault, IsPayloadDamage, PipesFolder}
use Rattle.replay_merge.specs.Settling.{SettlesTo}
use Rattle.replay_merge.proofs.Picked.{picks_split}
use Rattle.replay_merge.proofs.Kept.{AllGood, keeps_places}
use Rattle.replay_merge.proofs.Stopped.{payload_first, stands_at, torn_first}

-- a member of the first two of three parts
in_parts : (items a b c : List Item) (x : Item) → items ≡ a ++ (b ++ c) → Contains (a ++ b) x
    → Contains items x
in_parts items a b c x is there =
    subst (λ (xs : List Item). Contains xs x) (sym is) (elim (Contains-append_cases a b x there) [
      | inl first ↦ Contains-append_left a (b ++ c) x first
      | inr second ↦ Contains-append_right a (b ++ c) x (Contains-append_left b c x second)
    ])

abbrev IsFirst : Files → Refused → Type 0
IsFirst files r = IsDamagedFirst files (segment_name_of 6 r.id) r.start (Payload r.fault)

module _ (files : Files) (rows : List Row)
    (places : AreRows segment_cmp IsSegmentAt (IsHeld files) rows) where
  -- ---- a payload is refused

  module _ (items : List Item) (e : Item) (r : Refused) (is : IsRefusedAs e r)
      (least : (x : Item) → Contains items x → IsGoodOrBehind r x) where
    -- in a segment that is read to its end
    in_front : (greatest : ℕ) → IsGreatestId rows greatest → (front rest : List Row)
        → rows ≡ front ++ rest → (before : List Item)
        → ((x : Item) → Contains before x → Contains items x)
        → AreGiven false greatest files front before → Contains before e → IsFirst files r
    in_front greatest top front rest parts before inside given there =
        let s = stands_at false greatest files front before e given there in
        let whole : rows ≡ s.front ++ s.row ∷ (s.rest ++ rest) =
        parts ∙ ap (λ (f : List Row). f ++ rest) s.parts
        ∙ append_assoc s.front (s.row ∷ s.rest) rest in
        elim s.gives [
          | inl other ↦ absurd (true≢false (sym other.1))
          | inr this ↦ payload_first files greatest rows places top s.row s.front (s.rest ++ rest)
              whole s.before s.own this.1.0 e r this.0 s.given this.1.1 s.there is
              (λ x own. least x (inside x (in_parts before s.before s.own s.after x s.items_are
              own)))
        ]

    in_given : HaveGiven false files rows items → Contains items e → IsFirst files r
    in_given have there =
        in_front have.greatest have.top rows [] (sym (append-nil rows)) items (λ x inside. inside)
        have.given there

    -- in the segment at which reading stops, or in front of it
    in_stopped : (row : Row) (here : List Item) (last : Bool) (at : ℕ) (cause : Cause)
        → StopsAt false files rows items row here last → IsTornBehind last files row here at cause
        → Contains items e → IsFirst files r
    in_stopped row here last at cause stops torn there =
        let all = stops.items_are in
        elim (Contains-append_cases stops.before here e
        (subst (λ (xs : List Item). Contains xs e) all there)) [
          | inl earlier ↦ in_front stops.greatest stops.top stops.front (row ∷ stops.rest)
              stops.parts stops.before (λ x inside. subst (λ (xs : List Item). Contains xs x)
              (sym all) (Contains-append_left stops.before here x inside)) stops.given earlier
          | inr own ↦ elim torn [
            | inl other ↦ absurd (nothing_there e
                (subst (λ (xs : List Item). Contains xs e) other.1 own))
            | inr this ↦ payload_first files stops.greatest rows places stops.top row stops.front
                stops.rest stops.parts stops.before here _ e r this.0 stops.given this.1 own is
                (λ x inside. least x (subst (λ (xs : List Item). Contains xs x) (sym all) inside))
          ]
        ]

    in_long : StopsLong false files rows items → Contains items e → IsFirst files r
    in_long long there =
        let stops = long.stops in
        let all : items ≡ stops.before =
        stops.items_are ∙ ap (λ (xs : List Item). stops.before ++ xs) long.long.2
        ∙ append-nil stops.before in
        in_front stops.greatest stops.top stops.front (long.row ∷ stops.rest) stops.parts
        stops.before (λ x inside. subst (λ (xs : List Item). Contains xs x) (sym all) inside)
        stops.given (subst (λ (xs : List Item). Contains xs e) all there)

  -- ---- none is

  module _ (items : List Item) (good : List Item) (picks : Picks IsGood items good) where
    long_is : (ignore : Bool) → StopsLong ignore files rows items
        → (ignore ≡ false → AllGood items) → IsFirstLong ignore files
    long_is ignore long all =
        let stops = long.stops in
        let is = stops.items_are in
        let parts = picks_split IsGood stops.before long.here good
        (subst (λ (xs : List Item). Picks IsGood xs good) is picks) in
        let helds = keeps_places files ignore stops.greatest stops.front stops.before parts.0
        stops.given parts.3 (λ strict x there. all strict x
        (subst (λ (xs : List Item). Contains xs x) (sym is)
        (Contains-append_left stops.before long.here x there))) in
        long_first files ignore stops.greatest rows places stops.top stops.front stops.rest long.row
        helds.helds stops.parts helds.are_held long.long.0 long.long.1

    torn_is : (name : List ℕ) (at : ℕ) (cause : Cause) → StopsTorn files rows items name at cause
        → AllGood items → IsDamagedFirst files name at cause
    torn_is name at cause torn all =
        let stops = torn.stops in
        let is = stops.items_are in
        let own : AllGood torn.here = λ x there. all x
        (subst (λ (xs : List Item). Contains xs x) (sym is)
        (Contains-append_right stops.before torn.here x there)) in
        let before : AllGood stops.before = λ x there. all x
        (subst (λ (xs : List Item). Contains xs x) (sym is)
        (Contains-append_left stops.before torn.here x there)) in
        subst (λ (n : List ℕ). IsDamagedFirst files n at cause) (sym torn.name_is)
        (torn_first files stops.greatest rows places stops.top torn.row stops.front stops.rest
        stops.parts stops.before torn.here at cause before own stops.given
        (subst (λ (l : Bool). IsTornBehind l files torn.row torn.here at cause) stops.is_last
        torn.torn))

-- ---- where the files may be told

abbrev Placed : Option Files → List Row → Type 0
Placed files rows = IfSome files (λ held. AreRows segment_cmp IsSegmentAt (IsHeld held) rows)

-- the least refused payload, whatever reading stopped at
least_is : (files : Option Files) (f n : ℕ) (rows : List Row) (items : List Item)
    (streamed : Result Unit OpenFault) (r : Refused) → Placed files rows
    → GivesPlaces false files f n rows items streamed → IsFirstFault streamed None
    → IsLeastRefused items (Some r) → IfSome files (λ held. IsFirst held r)
least_is None f n rows items streamed r places given not_first least = tt
least_is (Some files) f n rows items (Ok done) r places given not_first least =
    in_given files rows places items least.0.0 r least.0.2 least.1 given least.0.1
least_is (Some files) f n rows items (Err fault.Disk) r places given not_first least = absurd cc
least_is (Some files) f n rows items (Err fault.OutOfMemory) r places given not_first least =
    absurd cc
least_is (Some files) f n rows items (Err (fault.Limit SegmentBytes most)) r places given not_first
    least =
    in_long files rows places items least.0.0 r least.0.2 least.1 given.1 least.0.1
least_is (Some files) f n rows items (Err (fault.Damaged name at cause)) r places given not_first
    least =
    let torn = given.1 in
    in_stopped files rows places items least.0.0 r least.0.2 least.1 torn.row torn.here torn.last
    at cause torn.stops torn.torn least.0.1
least_is (Some files) f n rows items (Err other) r places given not_first least = absurd given

-- the place at which reading stopped, where none of the payloads that count is refused
stopped_is : (ignore : Bool) (files : Option Files) (f n : ℕ) (rows : List Row) (items : List Item)
    → Placed files rows → (good : List Item) → Picks IsGood items good
    → (ignore ≡ false → AllGood items) → (refusal : OpenFault)
    → GivesPlaces ignore files f n rows items (Err refusal)
    → SegmentsRefused ignore files f n refusal
stopped_is ignore files f n rows items places good picks all fault.Disk given = given
stopped_is ignore files f n rows items places good picks all fault.OutOfMemory given = tt
stopped_is ignore None f n rows items places good picks all (fault.Limit SegmentBytes most) given =
    (given.0, tt)
stopped_is ignore (Some files) f n rows items places good picks all (fault.Limit SegmentBytes most)
    given =
    (given.0, long_is files rows places items good picks ignore given.1 all)
stopped_is ignore None f n rows items places good picks all (fault.Damaged name at cause) given =
    (given.0, tt)
stopped_is ignore (Some files) f n rows items places good picks all (fault.Damaged name at cause)
    given = (
      given.0,
      torn_is files rows places items good picks name at cause given.1 (all given.0),
    )
stopped_is ignore files f n rows items places good picks all other given = absurd given

module _ (ignore : Bool) (files : Option Files) (f n : ℕ) (rows : List Row) (items : List Item)
    (tables : List TableHeld) (places : Placed files rows) where
  -- a payload is refused
  payload_refused : (streamed : Result Unit OpenFault) (piped : Option Piped)
      (refusal : OpenFault) → GivesPlaces ignore files f n rows items streamed
      → IsFirstFault streamed None → IfSome piped (IsDone tables items)
      → ChecksPiped ignore piped (Err refusal) → SegmentsRefused ignore files f n refusal
  payload_refused streamed piped fault.OutOfMemory given not_first done checks = tt
  payload_refused streamed piped (fault.Damaged name at cause) given not_first done checks =
      let strict = checks.0 in
      let s = checks.1.0 in
      let r = checks.1.1.0 in
      let so : IsDone tables items s =
      subst (λ (p : Option Piped). IfSome p (IsDone tables items)) checks.1.1.1 done in
      let is : IsPayloadDamage r name at cause = checks.1.1.3 in
      let least : IsLeastRefused items (Some r) =
      subst (IsLeastRefused items) checks.1.1.2 so.first in
      let first = least_is files f n rows items streamed r places
      (subst (λ (i : Bool). GivesPlaces i files f n rows items streamed) strict given) not_first
      least in (
        strict,
        subst (λ (c : Cause). IfSome files (λ held. IsDamagedFirst held name at c))
            (sym is.cause_is)
            (subst (λ (k : ℕ). IfSome files (λ held.
            IsDamagedFirst held name k (Payload r.fault))) (sym is.at_is)
            (subst (λ (l : List ℕ). IfSome files (λ held.
            IsDamagedFirst held l r.start (Payload r.fault))) (sym is.name_is) first)),
      )
  payload_refused streamed piped other given not_first done checks = absurd checks

  all_good : (s : Piped) → IsDone tables items s → (ignore ≡ false → s.refused ≡ None)
      → ignore ≡ false → AllGood items
  all_good s done none strict = subst (IsLeastRefused items) (none strict) done.first

  -- the place at which reading stopped
  reading_refused : (refusal : OpenFault) (s : Piped)
      → GivesPlaces ignore files f n rows items (Err refusal) → IsDone tables items s
      → (ignore ≡ false → s.refused ≡ None) → SegmentsRefused ignore files f n refusal
  reading_refused refusal s given done none =
      stopped_is ignore files f n rows items places done.good done.picks
      (all_good s done none) refusal given

  -- a fault of the disk, or want of memory
  first_refused : (streamed : Result Unit OpenFault) (refusal : OpenFault)
      → GivesPlaces ignore files f n rows items streamed
      → IsFirstFault streamed (Some refusal) → SegmentsRefused ignore files f n refusal
  first_refused (Err fault.Disk) refusal given first =
      let same : refusal ≡ fault.Disk = cc in
      subst (SegmentsRefused ignore files f n) (sym same) given
  first_refused (Err fault.OutOfMemory) refusal given first =
      let same : refusal ≡ fault.OutOfMemory = cc in
      subst (SegmentsRefused ignore files f n) (sym same) tt
  first_refused (Ok done) refusal given first = absurd cc
  first_refused (Err (fault.Limit quantity most)) refusal given first = absurd cc
  first_refused (Err (fault.Damaged name at cause)) refusal given first = absurd cc
  first_refused (Err (fault.BadTable name why)) refusal given first = absurd cc

  -- what is answered
  pub settles : (streamed : Result Unit OpenFault) (piped : Option Piped)
      (r : Result Piped OpenFault) → GivesPlaces ignore files f n rows items streamed
      → IfSome piped (IsDone tables items) → SettlesTo ignore streamed piped r
      → PipesFolder ignore files f n tables rows r
  settles streamed piped (Ok s) given done is = record {
    items = items;
    given = subst (GivesPlaces ignore files f n rows items) is.0 given;
    done = subst (λ (p : Option Piped). IfSome p (IsDone tables items)) is.1.0 done;
    none = is.1.1;
  }
  settles streamed piped (Err refusal) given done (inl first) =
      first_refused streamed refusal given first
  settles streamed piped (Err refusal) given done (inr (inl found)) =
      payload_refused streamed piped refusal given found.0 done found.1
  settles streamed piped (Err refusal) given done (inr (inr stopped)) =
      reading_refused refusal stopped.1.0
      (subst (GivesPlaces ignore files f n rows items) stopped.0 given)
      (subst (λ (p : Option Piped). IfSome p (IsDone tables items)) stopped.1.1.0 done)
      stopped.1.1.1
