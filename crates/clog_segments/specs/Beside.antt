-- What a call of a disk leaves of the files beside those that it names, and of what a crash may
-- leave of them, whatever it answers.
use Rattle.std.specs.Prelude.{◌≡◌, ◌⊎◌, ℕ, ◌+◌, Bool, true, List, Option, Some, None, Contains}
use Rattle.std.specs.FinMap as finmap
use Rattle.clog_spec.specs.Names.{archive_name_of, segment_name_of}
use Rattle.clog_disk.specs.Files.{Files, Told}

-- Where the disk tells its files, each name but one reads as before.
abbrev pub StayButOne : List ℕ → Option Files → Option Files → Type 0
StayButOne own told now =
    (f : Files) → told ≡ Some f → Told now (λ g. (name : List ℕ) → (name ≡ own → ⊥)
    → finmap.get g name ≡ finmap.get f name)

-- Where the disk tells its files, each name but those of these segments reads as before.
abbrev pub StayButSegments : List ℕ → Option Files → Option Files → Type 0
StayButSegments ids told now =
    (f : Files) → told ≡ Some f → Told now (λ g. (name : List ℕ)
    → ((id : ℕ) → Contains ids id → name ≡ segment_name_of 6 id → ⊥)
    → finmap.get g name ≡ finmap.get f name)

-- A crash leaves of each name but these only what it left before.
abbrev pub ImagesBut : (List ℕ → Type 0) → (List ℕ → Option (List ℕ) → Type 0)
    → (List ℕ → Option (List ℕ) → Type 0) → Type 0
ImagesBut Own old new =
    (name : List ℕ) (left : Option (List ℕ)) → (Own name → ⊥) → new name left → old name left

-- of each name but one
abbrev pub ImagesButOne : List ℕ → (List ℕ → Option (List ℕ) → Type 0)
    → (List ℕ → Option (List ℕ) → Type 0) → Type 0
ImagesButOne own old new = ImagesBut (λ (name : List ℕ). name ≡ own) old new

-- the name of a segment, or its archive name
abbrev pub IsEitherName : ℕ → List ℕ → Type 0
IsEitherName id name = (name ≡ segment_name_of 6 id) ⊎ (name ≡ archive_name_of id)

-- of one of these segments
abbrev pub IsOfGone : ℕ → List ℕ → List ℕ → Type 0
IsOfGone base ordinals name = (o : ℕ) × Contains ordinals o × IsEitherName (base + o) name

-- the name of a segment, or its archive name where segments get one
abbrev pub NamesSegment : Bool → ℕ → List ℕ → Type 0
NamesSegment archives id name =
    (name ≡ segment_name_of 6 id) ⊎ ((archives ≡ true) × (name ≡ archive_name_of id))

-- Where the disk tells its files, what stands at the name has P, by the files of before.
abbrev pub StandsAs : List ℕ → (Files → Option (List ℕ) → Type 0) → Option Files → Option Files
    → Type 0
StandsAs name P told now =
    (f : Files) → told ≡ Some f → Told now (λ g. P f (finmap.get g name))

-- Of a segment that was to go there stands at the name what did, or nothing at its own name, or at
-- its archive name what stands at its own.
abbrev pub MayBeGoing : ℕ → List ℕ → Files → Option (List ℕ) → Type 0
MayBeGoing id name files what =
    (what ≡ finmap.get files name)
    ⊎ (((name ≡ segment_name_of 6 id) × (what ≡ None))
    ⊎ ((name ≡ archive_name_of id) × (what ≡ finmap.get files (segment_name_of 6 id))))
