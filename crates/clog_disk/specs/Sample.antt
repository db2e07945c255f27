-- A sample of what a crash may leave of files in memory: each image of it is made file by file.
use Rattle.std.specs.Prelude.{
  ◌≡◌,
  ◌⊎◌,
  ◌<◌,
  ◌≤◌,
  ℕ,
  ◌-◌,
  List,
  [],
  ◌∷◌,
  ◌++◌,
  length,
  take,
  drop,
  replicate,
  Option,
  Some,
  None,
  option_map,
  cond,
  nat_lt,
}
use Rattle.std.specs.List.{flat_map, AllZip}
use Rattle.std.specs.Ordering.{nat_cmp}
use Rattle.std.specs.Cmp.Lexicographic.{slice_cmp}
use Rattle.std.specs.Str.{bytes_eq}
use Rattle.std.specs.Map.{keys_of}
use Rattle.std.specs.List.Sorted.{IsStrictlySortedBy}
use Rattle.clog_disk.specs.declared.memory.MemDisk.{MemDisk}
use Rattle.clog_disk.specs.declared.stored.Undo.{Undo}
use Rattle.clog_disk.specs.declared.stored.sample.Left.{Left}
use Rattle.clog_disk.specs.InMemory.{state_of, back}
use Rattle.clog_disk.specs.declared.stored.sample.Left.TheVariants.{Written, Lasting, Cut, Zeroed}
use Rattle.clog_disk.specs.Stored.{Stored, lasting_of}

-- what lasts of a file
abbrev pub lasting_part : Stored → List ℕ
lasting_part file = take file.synced file.bytes

-- the same, and zeros in the place of what does not last
abbrev pub zeroed : Stored → List ℕ
zeroed file = lasting_part file ++ replicate (length file.bytes - length (lasting_part file)) 0

-- what is left of a file of this name
abbrev pub left_of : Left → List ℕ → Stored → Option (List ℕ)
left_of Written name file = Some file.bytes
left_of Lasting name file = cond file.sure (Some (lasting_part file)) None
left_of (Cut at) name file = Some (cond (bytes_eq at name) (lasting_part file) file.bytes)
left_of (Zeroed at) name file = Some (cond (bytes_eq at name) (zeroed file) file.bytes)

-- what stands at a name in the image, of which all lasts
abbrev pub left_at : Left → List ℕ → Option Stored → Option Stored
left_at left name None = None
left_at left name (Some file) = option_map lasting_of (left_of left name file)

-- the images that spoil one file: it has bytes that do not last
abbrev pub spoils : List ℕ × Stored → List Left
spoils entry = cond (nat_lt entry.1.synced (length entry.1.bytes))
    (Cut entry.0 ∷ Zeroed entry.0 ∷ []) []

-- the sample: all as it was written, what lasts of all, and then each file spoilt by itself, in the
-- order of names
abbrev pub sample_of : List (List ℕ × Stored) → List Left
sample_of entries = Written ∷ Lasting ∷ flat_map spoils entries

-- A disk that was started again on one image of the sample. It has no past and no change, and none
-- of its calls fails.
pub record IsMadeFrom (past : List (List ℕ × Stored)) (left : Left) (image : MemDisk) : Type 0 where
  pub files : (name : List ℕ)
      → state_of image.files.entries name ≡ left_at left name (state_of past name)
  pub undos : image.undos.items ≡ []
  pub changes : image.changes.items ≡ []
  pub failing : image.calls.failing ≡ []

-- The disks of the sample of a moment: none where it has not come, and else one for each image, in
-- order, of the files as they were then.
pub record IsSampleThen (state : List ℕ → Option Stored) (undos : List Undo) (t : ℕ)
    (images : List MemDisk) : Type 0 where
  pub past : List (List ℕ × Stored)
  pub then : state_of past ≡ back (drop t undos) state
  pub ordered : IsStrictlySortedBy (slice_cmp nat_cmp) (keys_of past)
  pub each : AllZip (IsMadeFrom past) (sample_of past) images

abbrev pub IsSampleAt : (List ℕ → Option Stored) → List Undo → ℕ → List MemDisk → Type 0
IsSampleAt state undos t images = ((length undos < t) × (images ≡ []))
    ⊎ ((t ≤ length undos) × IsSampleThen state undos t images)
