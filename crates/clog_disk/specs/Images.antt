-- What a crash may leave: of each name nothing, or some bytes. An image is a whole directory that a
-- crash may leave.
use Rattle.std.specs.Prelude.{
  ◌≡◌,
  ◌⊎◌,
  ◌↔◌,
  ℕ,
  ◌+◌,
  ◌≤◌,
  List,
  length,
  take,
  Option,
  Some,
  None,
  ⊤,
}
use Rattle.std.specs.FinMap as map
use Rattle.clog_disk.specs.Files.{Files, at_name, bytes_at, Told}

-- an image is, at each name by itself, what may be left of it
abbrev pub IsImage : (List ℕ → Option (List ℕ) → Type 0) → Files → Type 0
IsImage leaves image = (name : List ℕ) → leaves name (map.get image name)

-- a crash leaves no more than before
abbrev pub Within : (List ℕ → Option (List ℕ) → Type 0)
    → (List ℕ → Option (List ℕ) → Type 0) → Type 0
Within old new = (name : List ℕ) (left : Option (List ℕ)) → new name left → old name left

-- A crash leaves just what it left before.
pub record SameImages (old new : List ℕ → Option (List ℕ) → Type 0) : Type 0 where
  pub fewer : Within old new
  pub more : Within new old

-- No file and no image has changed.
pub record Unchanged (files_old files_new : Option Files)
    (old new : List ℕ → Option (List ℕ) → Type 0) : Type 0 where
  pub files : files_new ≡ files_old
  pub images : SameImages old new

-- a crash leaves just this at the name
abbrev pub LastsAs : (List ℕ → Option (List ℕ) → Type 0) → List ℕ → Option (List ℕ) → Type 0
LastsAs new name what = (left : Option (List ℕ)) → new name left → left ≡ what

-- where the files are told, a crash leaves at the name what is read there
abbrev pub Lasts : Option Files → (List ℕ → Option (List ℕ) → Type 0) → List ℕ → Type 0
Lasts None new name = ⊤
Lasts (Some files) new name = LastsAs new name (map.get files name)

-- a crash leaves just the files
abbrev pub LastsAll : Files → (List ℕ → Option (List ℕ) → Type 0) → Type 0
LastsAll files leaves = (name : List ℕ) → LastsAs leaves name (map.get files name)

-- where the files are told, a crash leaves at the second name just what stands at the first
abbrev pub LastsLike : Option Files → (List ℕ → Option (List ℕ) → Type 0) → List ℕ → List ℕ
    → Type 0
LastsLike None new name second = ⊤
LastsLike (Some files) new name second = LastsAs new second (map.get files name)

-- a crash leaves what it left before, or this at the name
abbrev pub TurnsTo : (List ℕ → Option (List ℕ) → Type 0)
    → (List ℕ → Option (List ℕ) → Type 0) → List ℕ → Option (List ℕ) → Type 0
TurnsTo old new name what = (other : List ℕ) (left : Option (List ℕ)) → new other left
    → old other left ⊎ ((other ≡ name) × (left ≡ what))

-- A crash leaves what it left before, or at the second name what stands at the first; where the
-- files are not told, no other name has changed.
abbrev pub TurnsLike : Option Files → (List ℕ → Option (List ℕ) → Type 0)
    → (List ℕ → Option (List ℕ) → Type 0) → List ℕ → List ℕ → Type 0
TurnsLike None old new name second = (other : List ℕ) (left : Option (List ℕ)) → new other left
    → old other left ⊎ (other ≡ second)
TurnsLike (Some files) old new name second = TurnsTo old new second (map.get files name)

-- After n bytes were written behind the end, all or some or others in their place: up to the old
-- end there is what there was before.
pub record Torn (files : Files) (old : List ℕ → Option (List ℕ) → Type 0) (name : List ℕ) (n : ℕ)
    (bytes : List ℕ) : Type 0 where
  pub size : length bytes ≤ length (bytes_at files name) + n
  pub front : old name (Some (take (length (bytes_at files name)) bytes))
      ⊎ (map.get files name ≡ None)

-- a crash leaves what it left before, or the named file torn behind its old end
abbrev pub Tears : Option Files → (List ℕ → Option (List ℕ) → Type 0)
    → (List ℕ → Option (List ℕ) → Type 0) → List ℕ → ℕ → Type 0
Tears None old new name n = ⊤
Tears (Some files) old new name n = (other : List ℕ) (left : Option (List ℕ)) → new other left
    → old other left
    ⊎ ((other ≡ name) × ((bytes : List ℕ) × (left ≡ Some bytes) × Torn files old name n bytes))

-- A later state of a disk: the moment is none before, and how the names read at each moment up to
-- the earlier one stays known, and whether all lasted then. A function of several calls hands this
-- on whatever else it says.
pub record IsLater {D : Type 0} (moment : D → ℕ) (read_at : D → ℕ → Option (List ℕ → List ℕ))
    (lasted_at : D → ℕ → Type 0) (old new : D) : Type 0 where
  pub no_sooner : moment old ≤ moment new
  pub remembers : (t : ℕ) → t ≤ moment old → read_at new t ≡ read_at old t
  pub lasted_then : (t : ℕ) → t ≤ moment old → lasted_at new t ↔ lasted_at old t

-- Time goes on by one call. What a crash since a moment might have left is what it might have left
-- before the call, or what it may leave now.
pub record Elapses {D : Type 0} (moment : D → ℕ) (since : D → ℕ → Files → Type 0)
    (leaves : D → List ℕ → Option (List ℕ) → Type 0)
    (read_at : D → ℕ → Option (List ℕ → List ℕ)) (lasted_at : D → ℕ → Type 0) (old new : D)
    : Type 0 where
  pub later : IsLater moment read_at lasted_at old new
  pub nothing_else : (t : ℕ) (image : Files) → t ≤ moment old → since new t image
      → since old t image ⊎ IsImage (leaves new) image
  pub keeps : (t : ℕ) (image : Files) → t ≤ moment old → since old t image → since new t image

-- A crash at any moment since old leaves files that have P: what a function of several calls says.
pub record LeavesOnly {D : Type 0} (moment : D → ℕ) (since : D → ℕ → Files → Type 0) (old new : D)
    (P : Files → Type 0) : Type 0 where
  pub later : moment old ≤ moment new
  pub each : (image : Files) → since new (moment old) image → P image
  -- for a run that began earlier
  pub before : (t : ℕ) (image : Files) → t ≤ moment old → since new t image
      → since old t image ⊎ P image

-- A crash at any moment from t on leaves files that have P: what an object keeps that was opened
-- at t.
pub record SinceThen {D : Type 0} (moment : D → ℕ) (since : D → ℕ → Files → Type 0) (t : ℕ)
    (now : D) (P : Files → Type 0) : Type 0 where
  pub later : t ≤ moment now
  pub each : (image : Files) → since now t image → P image

-- A disk that was started again on one of these images: its files are the image, and all that is
-- there lasts.
pub record IsRestarted (images : Files → Type 0) (files : Option Files)
    (leaves : List ℕ → Option (List ℕ) → Type 0) : Type 0 where
  pub image : Told files images
  pub lasts : (name : List ℕ) → LastsAs leaves name (at_name files name)
