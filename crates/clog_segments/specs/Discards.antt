-- How segments go: each gets its archive name first, where it is to have one, and then loses its
-- own, one after another.
use Rattle.std.specs.Prelude.{
  ◌≡◌,
  ℕ,
  ◌+◌,
  ◌<◌,
  ◌^◌,
  Bool,
  true,
  false,
  List,
  [],
  ◌∷◌,
  ◌++◌,
  length,
  take,
  drop,
  get_or,
  Option,
  option_map,
  Contains,
  IfSome,
  Result,
  Ok,
  Err,
  ⊤,
}
use Rattle.std.specs.FinMap as finmap
use Rattle.std.specs.List.{AllPairs, flat_map}
use Rattle.clog_spec.specs.Names.{archive_name_of, segment_name_of}
use Rattle.clog_disk.specs.declared.change.Change.{Change}
use Rattle.clog_disk.specs.declared.change.Change.TheVariants as change
use Rattle.clog_disk.specs.declared.disk.DiskFault.{DiskFault}
use Rattle.clog_disk.specs.Files.{Files, Told, with_at}
use Rattle.clog_scan.specs.Cut.{Section}
use Rattle.clog_crash.specs.Flush.{IsCovered}
use Rattle.clog_crash.specs.Folder.{IsHeld}
use Rattle.clog_crash.specs.Log.{Write, IsResting}
use Rattle.clog_crash.specs.Readings.{Reading}
use Rattle.clog_segments.specs.Beside.{MayBeGoing, NamesSegment, StandsAs, StayButOne}
use Rattle.clog_segments.specs.declared.discarding.Halt.{Halt}
use Rattle.clog_segments.specs.declared.discarding.Refusal.{Refusal}

-- ---- which may go

-- Segments from a base on that are there, in the order of their ids.
pub record AreDroppable (told : Option Files) (base : ℕ) (ordinals : List ℕ) : Type 0 where
  pub fits : (o : ℕ) → Contains ordinals o → base + o < 2 ^ 63
  pub ascending : AllPairs (λ (a b : ℕ). a < b) ordinals
  pub there : (o : ℕ) → Contains ordinals o
      → IfSome told (λ f. IsHeld f (segment_name_of 6 (base + o)))

-- The disk tells its files, which are at rest, and table files stand for all cells of these older
-- segments.
abbrev pub MayAllGo : Option Files → (List ℕ → Option (List ℕ) → Type 0) → Reading → List Write → ℕ
    → List Section → List Section → ℕ → List ℕ → Type 0
MayAllGo told leaves r past id old kept base ordinals =
    Told told (λ f. IsResting f leaves r past id old kept
    × ((o : ℕ) → Contains ordinals o → IsCovered f id old (base + o)))

-- ---- what becomes of the files

-- with the archive name of a segment too, where it gets one
abbrev pub named_at : Bool → ℕ → Files → Files
named_at false id files = files
named_at true id files =
    with_at files (archive_name_of id) (finmap.get files (segment_name_of 6 id))

-- and without its own
abbrev pub gone_at : Bool → ℕ → Files → Files
gone_at archives id files = finmap.remove (named_at archives id files) (segment_name_of 6 id)

abbrev pub all_gone_at : Bool → ℕ → List ℕ → Files → Files
all_gone_at archives base [] files = files
all_gone_at archives base (o ∷ ordinals) files =
    all_gone_at archives base ordinals (gone_at archives (base + o) files)

-- the next one has its archive name too, where it has got it
abbrev pub next_named_at : Bool → ℕ → List ℕ → Files → Files
next_named_at is_named base [] files = files
next_named_at is_named base (o ∷ ordinals) files = named_at is_named (base + o) files

-- so many of them have gone, and the next one has perhaps its archive name
abbrev pub first_gone_at : Bool → ℕ → List ℕ → ℕ → Bool → Files → Files
first_gone_at archives base ordinals n is_named files =
    next_named_at is_named base (drop n ordinals)
    (all_gone_at archives base (take n ordinals) files)

-- Where a segment did not go, and got its archive name or not, all but one of its names read so,
-- whatever the disk answered, and of that one it stands as of a segment that was to go.
abbrev pub LeftButOne : {T : Type 0} → Bool → ℕ → Option Files → Option Files → Result T Refusal
    → Type 0
LeftButOne archives id told now (Ok x) = ⊤
LeftButOne archives id told now (Err refusal) =
    (name : List ℕ) × NamesSegment archives id name
    × StayButOne name (option_map (named_at refusal.is_named id) told) now
    × StandsAs name (MayBeGoing id name) (option_map (named_at refusal.is_named id) told) now

-- The same of the next one, where the first of them have gone.
abbrev pub NextLeftButOne : {T : Type 0} → Bool → ℕ → List ℕ → Option Files → Option Files
    → Result T Halt → Type 0
NextLeftButOne archives base ordinals told now (Ok x) = ⊤
NextLeftButOne archives base ordinals told now (Err halt) =
    (name : List ℕ) × NamesSegment archives (base + get_or ordinals halt.dropped 0) name
    × StayButOne name
    (option_map (first_gone_at archives base ordinals halt.dropped halt.is_named) told) now
    × StandsAs name (MayBeGoing (base + get_or ordinals halt.dropped 0) name)
    (option_map (first_gone_at archives base ordinals halt.dropped halt.is_named) told) now

-- ---- by which changes

-- a segment gets its archive name
abbrev pub names_by : Bool → ℕ → List Change
names_by false id = []
names_by true id = change.Link (segment_name_of 6 id) (archive_name_of id) ∷ []

-- and loses its own
abbrev pub goes_by : Bool → ℕ → List Change
goes_by archives id = names_by archives id ++ change.Remove (segment_name_of 6 id) ∷ []

abbrev pub all_go_by : Bool → ℕ → List ℕ → List Change
all_go_by archives base ordinals = flat_map (λ (o : ℕ). goes_by archives (base + o)) ordinals

-- these changes are behind those that there were
abbrev pub AreBehind : List Change → Option (List Change) → Option (List Change) → Type 0
AreBehind more before now = now ≡ option_map (λ changes. changes ++ more) before

-- a segment's archive name, where a call answered Ok, and else nothing
abbrev pub NamesBy : {T E : Type 0} → Bool → ℕ → Option (List Change) → Option (List Change)
    → Result T E → Type 0
NamesBy archives id before now (Ok x) = AreBehind (names_by archives id) before now
NamesBy archives id before now (Err e) = now ≡ before

-- a segment has gone, or has perhaps its archive name
abbrev pub GoesBy : {T : Type 0} → Bool → ℕ → Option (List Change) → Option (List Change)
    → Result T Refusal → Type 0
GoesBy archives id before now (Ok x) = AreBehind (goes_by archives id) before now
GoesBy archives id before now (Err refusal) = AreBehind (names_by refusal.is_named id) before now

-- the archive name of the next segment, where it has got it
abbrev pub next_by : Bool → ℕ → List ℕ → List Change
next_by archives base [] = []
next_by archives base (o ∷ ordinals) = names_by archives (base + o)

-- all have gone, or the first of them, and the next one has perhaps its archive name
abbrev pub AllGoBy : {T : Type 0} → Bool → ℕ → List ℕ → Option (List Change)
    → Option (List Change) → Result T Halt → Type 0
AllGoBy archives base ordinals before now (Ok x) =
    AreBehind (all_go_by archives base ordinals) before now
AllGoBy archives base ordinals before now (Err halt) =
    (halt.dropped < length ordinals)
    × AreBehind (all_go_by archives base (take halt.dropped ordinals)
    ++ next_by halt.is_named base (drop halt.dropped ordinals)) before now

-- ---- faults

-- what a disk answered where segments were to go
abbrev pub refused_by : {T : Type 0} → Result T Refusal → Result T DiskFault
refused_by (Ok x) = Ok x
refused_by (Err refusal) = Err refusal.fault

abbrev pub halted_by : {T : Type 0} → Result T Halt → Result T DiskFault
halted_by (Ok x) = Ok x
halted_by (Err halt) = Err halt.fault

-- a segment has perhaps its archive name where segments get one, and else not
abbrev pub MayBeNamed : Bool → Bool → Type 0
MayBeNamed archives is_named = is_named ≡ true → archives ≡ true

abbrev pub NamesOnly : {T : Type 0} → Bool → Result T Refusal → Type 0
NamesOnly archives (Ok x) = ⊤
NamesOnly archives (Err refusal) = MayBeNamed archives refusal.is_named

abbrev pub NamesNext : {T : Type 0} → Bool → Result T Halt → Type 0
NamesNext archives (Ok x) = ⊤
NamesNext archives (Err halt) = MayBeNamed archives halt.is_named
