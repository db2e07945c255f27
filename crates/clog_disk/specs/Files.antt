-- The files of a disk: a finite map from names to bytes.
use Rattle.std.specs.Prelude.{
  ◌≡◌,
  ◌⊎◌,
  ℕ,
  ◌≤◌,
  List,
  [],
  ◌++◌,
  length,
  take,
  drop,
  Option,
  Some,
  None,
  IsSome,
  ⊤,
  unwrap_or,
}
use Rattle.std.specs.FinMap as map
use Rattle.std.specs.FinMap.{FinMap}
use Rattle.std.specs.Ordering.{nat_cmp}
use Rattle.std.specs.Cmp.Lexicographic.{slice_cmp}

abbrev pub Files : Type 0
Files = FinMap (slice_cmp nat_cmp) (List ℕ)

-- no file
abbrev pub no_files : Files
no_files = map.empty

-- the bytes of a name, none where it is absent
abbrev pub bytes_at : Files → List ℕ → List ℕ
bytes_at files name = unwrap_or (map.get files name) []

-- what stands at a name, and none too where no files are told
abbrev pub at_name : Option Files → List ℕ → Option (List ℕ)
at_name None name = None
at_name (Some files) name = map.get files name

-- where the files are told, the place is the file's end
abbrev pub IsEnd : Option Files → List ℕ → ℕ → Type 0
IsEnd None name at = ⊤
IsEnd (Some files) name at = at ≡ length (bytes_at files name)

-- the bytes stand at the file's end, and all other files stay; an absent file is made
abbrev pub AppendsTo : Option Files → Option Files → List ℕ → List ℕ → Type 0
AppendsTo None new name bytes = new ≡ None
AppendsTo (Some old) new name bytes =
    new ≡ Some (map.insert old name (bytes_at old name ++ bytes))

-- nothing has changed, or some bytes, at most n, stand behind the file's end
abbrev pub MayAppend : Option Files → Option Files → List ℕ → ℕ → Type 0
MayAppend None new name n = new ≡ None
MayAppend (Some old) new name n = (new ≡ Some old)
    ⊎ ((bytes : List ℕ) × (length bytes ≤ n)
    × (new ≡ Some (map.insert old name (bytes_at old name ++ bytes))))

-- the names, in order
abbrev pub Lists : Option Files → List (List ℕ) → Type 0
Lists None names = ⊤
Lists (Some files) names = names ≡ map.keys files

-- where the files are told, the file is there and has this length
abbrev pub IsLength : Option Files → List ℕ → ℕ → Type 0
IsLength None name n = ⊤
IsLength (Some files) name n =
    (bytes : List ℕ) × (map.get files name ≡ Some bytes) × (n ≡ length bytes)

-- where the files are told, the file is there, and these are its bytes from `at` on, `count` of
-- them, or fewer where it ends before
abbrev pub Reads : Option Files → List ℕ → ℕ → ℕ → List ℕ → Type 0
Reads None name at count bytes = ⊤
Reads (Some files) name at count bytes =
    (held : List ℕ) × (map.get files name ≡ Some held) × (bytes ≡ take count (drop at held))

-- the files are told, and the name is not there
abbrev pub IsAbsent : Option Files → List ℕ → Type 0
IsAbsent None name = ⊥
IsAbsent (Some files) name = map.get files name ≡ None

-- where the files are told, the name is there
abbrev pub IsThere : Option Files → List ℕ → Type 0
IsThere None name = ⊤
IsThere (Some files) name = IsSome (map.get files name)

-- the files are told, and have P
abbrev pub Told : Option Files → (Files → Type 0) → Type 0
Told None P = ⊥
Told (Some files) P = P files

-- a disk tells its files exactly where it told them before
abbrev pub SameTold : Option Files → Option Files → Type 0
SameTold None new = new ≡ None
SameTold (Some files) new = Told new (λ now. ⊤)

-- these files, with this at the name, or with nothing there
abbrev pub with_at : Files → List ℕ → Option (List ℕ) → Files
with_at files name None = map.remove files name
with_at files name (Some bytes) = map.insert files name bytes

-- this stands at the name, and all other files stay
abbrev pub PutsAt : Option Files → Option Files → List ℕ → Option (List ℕ) → Type 0
PutsAt None new name what = new ≡ None
PutsAt (Some old) new name what = new ≡ Some (with_at old name what)

-- nothing has changed, or this stands at the name
abbrev pub MayPutAt : Option Files → Option Files → List ℕ → Option (List ℕ) → Type 0
MayPutAt None new name what = new ≡ None
MayPutAt (Some old) new name what = (new ≡ Some old) ⊎ (new ≡ Some (with_at old name what))
