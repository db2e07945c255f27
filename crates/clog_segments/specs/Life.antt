-- A store over its whole life: what each image since its opening restores, and that what lasts
-- stays in each later one.
use Rattle.std.specs.Prelude.{
  ◌≡◌,
  ◌⊎◌,
  ◌<◌,
  ◌≤◌,
  ◌^◌,
  ℕ,
  List,
  [],
  ◌∷◌,
  ◌++◌,
  length,
  take,
  drop,
  Option,
  Contains,
  IfSome,
  Bool,
  false,
}
use Rattle.clog_spec.specs.Names.{segment_name_of}
use Rattle.clog_disk.specs.Files.{Files, IsEnd, SameTold, bytes_at}
use Rattle.clog_disk.specs.Images.{IsImage, IsLater, Lasts, LeavesOnly}
use Rattle.clog_scan.specs.Cut.{Section}
use Rattle.clog_crash.specs.Log.{Write, HasShown, IsResting, logged_in}
use Rattle.clog_crash.specs.Readings.{Reading}
use Rattle.clog_crash.specs.Sections.{IsStored, segment_bytes}
use Rattle.clog_segments.specs.declared.sequences.Sequences.{Sequences}
use Rattle.clog_segments.specs.Numbering.{KeepsSequences}
use Rattle.clog_segments.specs.Torn.{HandStands}

-- A store: its disk, the moment of its opening and the disk then, the segments that it has written,
-- each of which lasts, the one that it writes with the sections that it was handed, how many of
-- them last, and whether the disk has failed.
pub record State (D : Type 0) : Type 0 where
  pub disk : D
  pub opened : ℕ
  pub first : D
  pub past : List Write
  pub id : ℕ
  pub sections : List Section
  pub synced : ℕ
  pub is_stopped : Bool

-- where the files are told, the name reads so
abbrev pub ReadsAs : Option Files → List ℕ → List ℕ → Type 0
ReadsAs told name bytes = IfSome told (λ f. bytes_at f name ≡ bytes)

-- A segment can hold the log's sections. Where the disk tells its files, it holds just these, and
-- no later segment is there.
pub record HasEnd (told : Option Files) (id size : ℕ) (sections : List Section) : Type 0 where
  pub stored : IsStored id sections
  pub size_is : size ≡ length (segment_bytes id sections)
  pub here : IsEnd told (segment_name_of 6 id) size
  pub reads : ReadsAs told (segment_name_of 6 id) (segment_bytes id sections)
  pub above : (other : ℕ) → id < other → other < 2 ^ 63 → IsEnd told (segment_name_of 6 other) 0

-- how many entries of its log last
abbrev pub lasting_in : {D : Type 0} → State D → ℕ
lasting_in s = length (logged_in s.past (take s.synced s.sections))

-- where the disk tells its files and how they read at a moment, they have P
abbrev pub BothTold : Option Files → Option Reading → (Files → Reading → Type 0) → Type 0
BothTold told read P = IfSome told (λ f. IfSome read (λ r. P f r))

-- Where a log may go on: in the segment at hand, and where this has no section, in each later one.
abbrev pub MayGoOnIn : ℕ → List Section → ℕ → Type 0
MayGoOnIn id sections at = (at ≡ id) ⊎ ((sections ≡ []) × (id < at) × (at < 2 ^ 63))

-- the segments behind a log that goes on in a later one: a segment without sections is not there
abbrev pub past_with : List Write → ℕ → List Section → List Write
past_with past id [] = past
past_with past id (s ∷ ss) = past ++ record { id = id; sections = s ∷ ss } ∷ []

-- Each image since the opening, of a disk as it was then, shows what the folder restored then, and
-- the first of the entries of the log, wherever and however it goes on.
abbrev pub ShownSince : {D : Type 0} → (D → Option Files) → (D → ℕ) → (D → ℕ → Files → Type 0)
    → (D → ℕ → Option Reading) → (D → ℕ → Type 0) → D → D → ℕ → List Write → ℕ → List Section
    → Type 0
ShownSince files moment since read_at lasted_at first disk opened past id sections =
    BothTold (files disk) (read_at disk opened) (λ f r. (at : ℕ) → MayGoOnIn id sections at
    → LeavesOnly moment since first disk (HasShown r 0 past at sections))

-- the disk's files are at rest, with what the folder restored at the opening
abbrev pub RestsNow : {D : Type 0} → (D → Option Files)
    → (D → List ℕ → Option (List ℕ) → Type 0) → (D → ℕ → Option Reading) → (D → ℕ → Type 0) → State
    D → Type 0
RestsNow files leaves read_at lasted_at s =
    BothTold (files s.disk) (read_at s.disk s.opened) (λ f r. (at : ℕ)
    → MayGoOnIn s.id s.sections at
    → IsResting f (leaves s.disk) r s.past at (take s.synced s.sections)
    (drop s.synced s.sections))

-- Each image of now shows all that lasts.
abbrev pub LastsNow : {D : Type 0} → (D → Option Files)
    → (D → List ℕ → Option (List ℕ) → Type 0) → (D → ℕ → Option Reading) → (D → ℕ → Type 0) → State
    D → Type 0
LastsNow files leaves read_at lasted_at s =
    BothTold (files s.disk) (read_at s.disk s.opened) (λ f r. (at : ℕ)
    → MayGoOnIn s.id s.sections at → (image : Files) → IsImage (leaves s.disk) image
    → HasShown r (lasting_in s) s.past at s.sections image)

-- What a store keeps true from its opening on, where all that was there before lasted.
pub record Lives {D : Type 0} (files : D → Option Files) (moment : D → ℕ)
    (since : D → ℕ → Files → Type 0) (leaves : D → List ℕ → Option (List ℕ) → Type 0)
    (read_at : D → ℕ → Option Reading) (lasted_at : D → ℕ → Type 0) (s : State D) : Type 0 where
  pub began : s.opened ≤ moment s.disk
  pub few : s.synced ≤ length s.sections
  pub shown : ShownSince files moment since read_at lasted_at s.first s.disk s.opened s.past s.id
      s.sections
  pub lasts : LastsNow files leaves read_at lasted_at s
  -- until the disk has failed
  pub rests : s.is_stopped ≡ false → RestsNow files leaves read_at lasted_at s

-- Where all sections of the segment at hand last, a crash leaves of its name just what is read
-- there, whatever lasted at the opening.
abbrev pub LastsHere : {D : Type 0} → (D → Option Files)
    → (D → List ℕ → Option (List ℕ) → Type 0) → State D → Type 0
LastsHere files leaves s =
    0 < length s.sections → s.synced ≡ length s.sections
    → Lasts (files s.disk) (leaves s.disk) (segment_name_of 6 s.id)

-- All sections of the log last, and the segment at hand does under its name.
abbrev pub AllLasts : {D : Type 0} → (D → Option Files)
    → (D → List ℕ → Option (List ℕ) → Type 0) → State D → Type 0
AllLasts files leaves s =
    (s.synced ≡ length s.sections)
    × (0 < length s.sections → Lasts (files s.disk) (leaves s.disk) (segment_name_of 6 s.id))

-- What stands under the name of the segment at hand, whether or not the disk has failed: each
-- section that lasts, and of the others all, or all but the last and some bytes in its place.
abbrev pub StandsHere : {D : Type 0} → (D → Option Files) → State D → Type 0
StandsHere files s = HandStands (files s.disk) s.id s.synced s.sections

-- what stands from the opening on
pub record HasBegun {D : Type 0} (files : D → Option Files) (moment : D → ℕ)
    (since : D → ℕ → Files → Type 0) (leaves : D → List ℕ → Option (List ℕ) → Type 0)
    (read_at : D → ℕ → Option Reading) (lasted_at : D → ℕ → Type 0) (s : State D) (size : ℕ)
    (known : Option Sequences) : Type 0 where
  pub began : s.opened ≤ moment s.disk
  pub few : s.synced ≤ length s.sections
  pub past_below : (w : Write) → Contains s.past w → w.id < s.id
  pub past_stored : (w : Write) → Contains s.past w → IsStored w.id w.sections
  pub stored : IsStored s.id s.sections
  pub stands : StandsHere files s
  -- until the disk has failed
  pub ends : s.is_stopped ≡ false → HasEnd (files s.disk) s.id size s.sections
  pub here : s.is_stopped ≡ false → LastsHere files leaves s
  pub sequences : s.is_stopped ≡ false → KeepsSequences (files s.disk) known
  -- where all lasted at the opening
  pub lives : lasted_at s.disk s.opened → Lives files moment since leaves read_at lasted_at s

-- What an image has shown of the one log, where it may go on in some segment, it shows of the
-- other, which goes on from it.
pub record ShowsOn (r : Reading) (past : List Write) (id : ℕ) (sections : List Section)
    (past_now : List Write) (at : ℕ) (sections_now : List Section) : Type 0 where
  pub from : ℕ
  pub may : MayGoOnIn id sections from
  pub on : (least : ℕ) (image : Files) → HasShown r least past from sections image
      → HasShown r least past_now at sections_now image

-- From a state of a store to a later one: what lasted lasts, and each image since then restores it,
-- with what the folder restored at the opening, and the first of the log's further entries.
pub record Outlives {D : Type 0} (files : D → Option Files) (moment : D → ℕ)
    (since : D → ℕ → Files → Type 0) (read_at : D → ℕ → Option Reading) (lasted_at : D → ℕ → Type 0)
    (before now : State D)
    : Type 0 where
  pub opened : now.opened ≡ before.opened
  pub first : now.first ≡ before.first
  pub told : SameTold (files before.disk) (files now.disk)
  pub later : IsLater moment read_at lasted_at before.disk now.disk
  pub no_fewer : lasting_in before ≤ lasting_in now
  pub shown : BothTold (files now.disk) (read_at now.disk now.opened) (λ f r. (at : ℕ)
      → MayGoOnIn now.id now.sections at
      → ShowsOn r before.past before.id before.sections now.past at now.sections
      × LeavesOnly moment since before.disk now.disk
      (HasShown r (lasting_in before) now.past at now.sections))

-- a call of a store that lives: it lives on, and what lasted before is in each image since
pub record LivesOn {D : Type 0} (files : D → Option Files) (moment : D → ℕ)
    (since : D → ℕ → Files → Type 0) (leaves : D → List ℕ → Option (List ℕ) → Type 0)
    (read_at : D → ℕ → Option Reading) (lasted_at : D → ℕ → Type 0) (before now : State D) : Type 0
  where
    pub lives : Lives files moment since leaves read_at lasted_at now
    pub outlives : Outlives files moment since read_at lasted_at before now
