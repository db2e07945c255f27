-- A disk in memory: the files at each moment, and what a crash then leaves. A call that changes a
-- file notes how to undo it, so a moment is the number of calls noted, and the files at a moment
-- are those of now with the later calls undone.
use Rattle.std.specs.Prelude.{
  ◌≡◌,
  ◌⊎◌,
  ℕ,
  ◌≤◌,
  List,
  [],
  ◌∷◌,
  ◌++◌,
  length,
  drop,
  map,
  Option,
  Some,
  None,
  option_map,
  unwrap_or,
  cond,
}
use Rattle.std.specs.FinMap as finmap
use Rattle.std.specs.FinMap.{from_entries}
use Rattle.std.specs.BTreeMap.{is_at}
use Rattle.std.specs.Map.{lookup}
use Rattle.std.specs.Ordering.{nat_cmp}
use Rattle.std.specs.Cmp.Lexicographic.{slice_cmp}
use Rattle.clog_disk.specs.declared.stored.Undo.{Undo}
use Rattle.clog_disk.specs.declared.stored.Undo.TheVariants.{Cut, Absent, Was, Were}
use Rattle.clog_disk.specs.Files.{Files}
use Rattle.clog_disk.specs.Stored.{Stored, may_leave, cut_to, settled}

abbrev pub files_of : List (List ℕ × Stored) → Files
files_of entries = from_entries (map (λ entry. (entry.0, entry.1.bytes)) entries)

abbrev pub state_of : List (List ℕ × Stored) → List ℕ → Option Stored
state_of entries name = lookup (is_at (slice_cmp nat_cmp name)) entries

abbrev pub with_file : (List ℕ → Option Stored) → List ℕ → Option Stored → List ℕ → Option Stored
with_file state name file other = cond (is_at (slice_cmp nat_cmp name) other) file (state other)

-- how a call that changes what stands at a name is undone
abbrev pub undo_at : List ℕ → Option Stored → Undo
undo_at name None = Absent name
undo_at name (Some file) = Cut name (
    record { size = length file.bytes; synced = file.synced; sure = file.sure }
    )

-- how a call is undone that takes away what stands at a name, or puts something else there
abbrev pub moved_at : List ℕ → Option Stored → Undo
moved_at name None = Absent name
moved_at name (Some file) = Was name file

-- the state before one call
abbrev pub undone : Undo → (List ℕ → Option Stored) → List ℕ → Option Stored
undone (Cut name was) state =
    with_file state name (cut_to (state name) was.size was.synced was.sure)
undone (Absent name) state = with_file state name None
undone (Was name file) state = with_file state name (Some file)
undone (Were files) state = state_of files.entries

-- the state before these calls, of which the first is the earliest
abbrev pub back : List Undo → (List ℕ → Option Stored) → List ℕ → Option Stored
back [] state = state
back (u ∷ us) state = undone u (back us state)

-- what a crash since a moment might have left
abbrev pub Since : (List ℕ → Option Stored) → List Undo → ℕ → Files → Type 0
Since state undos t image = (k : ℕ) × (t ≤ k) × (k ≤ length undos)
    × ((name : List ℕ) → may_leave (back (drop k undos) state name) (finmap.get image name))

-- how the names read at a moment
abbrev pub reading_at : (List ℕ → Option Stored) → List Undo → ℕ → List ℕ → List ℕ
reading_at state undos t name =
    unwrap_or (option_map (λ (file : Stored). file.bytes) (back (drop t undos) state name)) []

-- a crash leaves just the file
abbrev pub LastsWhole : Option Stored → Type 0
LastsWhole file = (left : Option (List ℕ)) → may_leave file left
    → left ≡ option_map (λ (f : Stored). f.bytes) file

-- all lasted at a moment
abbrev pub LastedAt : (List ℕ → Option Stored) → List Undo → ℕ → Type 0
LastedAt state undos t = (name : List ℕ) → LastsWhole (back (drop t undos) state name)

-- all of each file lasts
abbrev pub AllSettled : (List ℕ → Option Stored) → (List ℕ → Option Stored) → Type 0
AllSettled old new = (name : List ℕ) → new name ≡ option_map settled (old name)

-- one more call was noted, or none, and what was noted leads back
abbrev pub Steps : (List ℕ → Option Stored) → (List ℕ → Option Stored) → List Undo → List Undo
    → Type 0
Steps old new undos undos_now = ((new ≡ old) × (undos_now ≡ undos))
    ⊎ ((u : Undo) × (undos_now ≡ undos ++ u ∷ []) × (undone u new ≡ old))
