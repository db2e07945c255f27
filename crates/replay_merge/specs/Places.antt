-- What is read of a folder's segments in pieces, place by place, and where reading stops.
use Rattle.std.specs.Prelude.{◌≡◌, ◌≢◌, ◌⊎◌, ◌==◌, ℕ, ◌≤◌, List, [], ◌∷◌, ◌++◌, Bool, true, false}
use Rattle.std.specs.Prelude.{Option, IfSome, ⊤, Result}
use Rattle.std.specs.declared.result.Result.TheVariants as result
use Rattle.clog_spec.specs.Sizes.{file_limit}
use Rattle.clog_base.specs.declared.fault.Quantity.TheVariants.{SegmentBytes}
use Rattle.clog_io.specs.Causes.{Rose}
use Rattle.clog_disk.specs.Files.{Files, IsLength}
use Rattle.clog_entry.specs.declared.cause.Cause.{Cause}
use Rattle.clog_entry.specs.declared.cause.Cause.TheVariants.{Version}
use Rattle.clog_entry.specs.Soft.{IsSoft}
use Rattle.clog_scan.specs.declared.answer.End.{End}
use Rattle.clog_scan.specs.declared.answer.End.TheVariants.{Torn}
use Rattle.clog_folder.specs.declared.fault.OpenFault.{OpenFault}
use Rattle.clog_folder.specs.declared.fault.OpenFault.TheVariants as fault
use Rattle.clog_folder.specs.Entries.{EndsWell}
use Rattle.clog_folder.specs.Listing.{SegmentPlace}
use Rattle.clog_folder.specs.Segments.{BytesRefused, IsGreatestId, IsTooLong, Row}
use Rattle.replay_merge.specs.Entries.{Entry as Item}
use Rattle.replay_merge.specs.Streaming.{IsReadOf}

-- ---- one place

-- The items of a place that is read to its end: none of a segment of another version, which is
-- passed over. Where damage is not passed over, the segment ends as it may.
abbrev pub IsGivenAt : Bool → Bool → Files → Row → List Item → Type 0
IsGivenAt ignore last files row items =
    ((row.0.1 ≢ 6) × (ignore ≡ true) × (items ≡ []))
    ⊎ ((row.0.1 ≡ 6) × ((end : End) × IsReadOf files row.1 row.0.0 items end
    × (ignore ≡ false → EndsWell last end)))

-- A place is damaged before any payload is looked at: by its version, or where its framing ends.
-- These of its entries stand in front.
abbrev pub IsTornBehind : Bool → Files → Row → List Item → ℕ → Cause → Type 0
IsTornBehind last files row items at cause =
    ((row.0.1 ≢ 6) × (items ≡ []) × (at ≡ 0) × (cause ≡ Version row.0.1))
    ⊎ ((row.0.1 ≡ 6) × IsReadOf files row.1 row.0.0 items (Torn at cause)
    × (IsSoft cause → ¬ (last ≡ true)))

-- a place has more bytes than a segment may have, and nothing of it is read
abbrev pub IsLongAt : Files → Row → List Item → Type 0
IsLongAt files row items = (row.0.1 ≡ 6) × IsTooLong files row.1 × (items ≡ [])

-- ---- all places

-- These items are those of the places, one place after another; the last segments are those of the
-- greatest id.
abbrev pub AreGiven : Bool → ℕ → Files → List Row → List Item → Type 0
AreGiven ignore greatest files [] items = items ≡ []
AreGiven ignore greatest files (row ∷ rows) items =
    (here : List Item) × ((rest : List Item) × (items ≡ here ++ rest)
    × IsGivenAt ignore (row.0.0 == greatest) files row here
    × AreGiven ignore greatest files rows rest)

-- What the places give.
pub record HaveGiven (ignore : Bool) (files : Files) (rows : List Row) (items : List Item)
    : Type 0 where
  pub greatest : ℕ
  pub top : IsGreatestId rows greatest
  pub given : AreGiven ignore greatest files rows items

-- Reading stops at a place: those in front of it gave some of the items, and it gave the others.
pub record StopsAt (ignore : Bool) (files : Files) (rows : List Row) (items : List Item) (row : Row)
    (here : List Item) (last : Bool) : Type 0 where
  pub greatest : ℕ
  pub top : IsGreatestId rows greatest
  pub is_last : last ≡ (row.0.0 == greatest)
  pub front : List Row
  pub rest : List Row
  pub parts : rows ≡ front ++ row ∷ rest
  pub before : List Item
  pub items_are : items ≡ before ++ here
  pub given : AreGiven ignore greatest files front before

-- it stops since a segment is too long
pub record StopsLong (ignore : Bool) (files : Files) (rows : List Row) (items : List Item)
    : Type 0 where
  pub row : Row
  pub here : List Item
  pub last : Bool
  pub stops : StopsAt ignore files rows items row here last
  pub long : IsLongAt files row here

-- it stops since a segment is damaged
pub record StopsTorn (files : Files) (rows : List Row) (items : List Item) (name : List ℕ) (at : ℕ)
    (cause : Cause) : Type 0 where
  pub row : Row
  pub here : List Item
  pub last : Bool
  pub stops : StopsAt false files rows items row here last
  pub name_is : name ≡ row.1
  pub torn : IsTornBehind last files row here at cause

-- ---- what calls answer

-- what a place gives, or why it is not read
abbrev pub GivesPlace : Bool → Bool → Option Files → ℕ → ℕ → Row → List Item → Result Unit OpenFault
    → Type 0
GivesPlace ignore last files faults now row items (result.Ok done) =
    IfSome files (λ held. IsGivenAt ignore last held row items)
GivesPlace ignore last files faults now row items (result.Err fault.Disk) = Rose faults now
GivesPlace ignore last files faults now row items (result.Err fault.OutOfMemory) = ⊤
GivesPlace ignore last files faults now row items (result.Err (fault.Limit SegmentBytes most)) =
    (most ≡ file_limit) × IfSome files (λ held. IsLongAt held row items)
GivesPlace ignore last files faults now row items (result.Err (fault.Damaged other at cause)) =
    (ignore ≡ false) × (other ≡ row.1)
    × IfSome files (λ held. IsTornBehind last held row items at cause)
GivesPlace ignore last files faults now row items (result.Err other) = ⊥

-- a segment of another version is passed over, or is damage
abbrev pub PassesOther : Bool → SegmentPlace → List ℕ → Result Unit OpenFault → Type 0
PassesOther ignore place name (result.Ok done) = ignore ≡ true
PassesOther ignore place name (result.Err (fault.Damaged other at cause)) =
    (ignore ≡ false) × (other ≡ name) × (at ≡ 0) × (cause ≡ Version place.1)
PassesOther ignore place name (result.Err other) = ⊥

-- what all places give, or why they are not read
abbrev pub GivesPlaces : Bool → Option Files → ℕ → ℕ → List Row → List Item → Result Unit OpenFault
    → Type 0
GivesPlaces ignore files faults now rows items (result.Ok done) =
    IfSome files (λ held. HaveGiven ignore held rows items)
GivesPlaces ignore files faults now rows items (result.Err fault.Disk) = Rose faults now
GivesPlaces ignore files faults now rows items (result.Err fault.OutOfMemory) = ⊤
GivesPlaces ignore files faults now rows items (result.Err (fault.Limit SegmentBytes most)) =
    (most ≡ file_limit) × IfSome files (λ held. StopsLong ignore held rows items)
GivesPlaces ignore files faults now rows items (result.Err (fault.Damaged name at cause)) =
    (ignore ≡ false) × IfSome files (λ held. StopsTorn held rows items name at cause)
GivesPlaces ignore files faults now rows items (result.Err other) = ⊥

-- how many bytes a segment's file has, which are not too many, or why it is not read
abbrev pub GivesLength : Option Files → ℕ → ℕ → List ℕ → Result ℕ OpenFault → Type 0
GivesLength files faults now name (result.Ok len) =
    IsLength files name len × (len ≤ file_limit)
GivesLength files faults now name (result.Err refusal) = BytesRefused files faults now name refusal
