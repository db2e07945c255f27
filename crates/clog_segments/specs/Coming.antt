-- What may be done to a folder beside the log: a table file comes, and a segment goes.
use Rattle.std.specs.Prelude.{
  ◌≡◌,
  ℕ,
  List,
  [],
  ◌∷◌,
  ◌++◌,
  map,
  take,
  Option,
  Some,
  None,
  option_map,
  ⊤,
  Result,
  Ok,
  Err,
}
use Rattle.std.specs.FinMap as finmap
use Rattle.clog_spec.specs.Names.{segment_name_of}
use Rattle.clog_disk.specs.declared.change.Change.{Change}
use Rattle.clog_disk.specs.declared.change.Change.TheVariants as change
use Rattle.clog_disk.specs.Files.{Files, Told, bytes_at}
use Rattle.clog_scan.specs.Cut.{Section}
use Rattle.clog_table.specs.declared.table_file.TableFile.{TableFile}
use Rattle.clog_crash.specs.Flush.{
  IsTrueFile,
  IsCovered,
  IsSettled,
  IsSameFolder,
  IsNewFile,
  AllCovered,
}
use Rattle.clog_crash.specs.Folder.{IsHeld}
use Rattle.clog_crash.specs.Log.{Write, IsResting}
use Rattle.clog_crash.specs.Readings.{Reading}

-- ---- while a segment is written

-- The disk tells its files, which are at rest, and the bytes are a new table file that is true of
-- what lasts.
abbrev pub MayCome : Option Files → (List ℕ → Option (List ℕ) → Type 0) → Reading → List Write → ℕ
    → List Section → List Section → TableFile → ℕ → List ℕ → Type 0
MayCome told leaves r past id old kept file sequence bytes =
    Told told (λ f. IsResting f leaves r past id old kept
    × IsTrueFile f id old file sequence bytes)

-- The disk tells its files, which are at rest, and table files stand for all cells of an older
-- segment.
abbrev pub MayGo : Option Files → (List ℕ → Option (List ℕ) → Type 0) → Reading → List Write → ℕ
    → List Section → List Section → ℕ → Type 0
MayGo told leaves r past id old kept other =
    Told told (λ f. IsResting f leaves r past id old kept × IsCovered f id old other)

-- ---- where everything lasts

-- The disk tells its files, all of which last, and nothing is damaged; they restore what these
-- files do, and table files stand for all cells of these segments.
abbrev pub IsRecovering : Files → Option Files → (List ℕ → Option (List ℕ) → Type 0) → List ℕ
    → Type 0
IsRecovering first told leaves segments =
    Told told (λ f. IsSettled f leaves × IsSameFolder first f × AllCovered f segments)

-- The same of the files alone, whether or not they last.
abbrev pub Recovers : Files → Option Files → List ℕ → Type 0
Recovers first told segments = Told told (λ f. IsSameFolder first f × AllCovered f segments)

-- The disk tells its files, all of which last, and nothing is damaged; they restore what these
-- files do, and the bytes are a new table file that is true of them.
abbrev pub MayComeHere : Files → Option Files → (List ℕ → Option (List ℕ) → Type 0) → TableFile → ℕ
    → List ℕ → Type 0
MayComeHere first told leaves file sequence bytes =
    Told told (λ f. IsSettled f leaves × IsSameFolder first f
    × IsNewFile f (bytes_at f) file sequence bytes)

-- The same of the files alone, whether or not they last.
abbrev pub MayComeTo : Files → Option Files → TableFile → ℕ → List ℕ → Type 0
MayComeTo first told file sequence bytes =
    Told told (λ f. IsSameFolder first f × IsNewFile f (bytes_at f) file sequence bytes)

-- these files without these segments
abbrev pub without : Files → List ℕ → Files
without files [] = files
without files (id ∷ ids) = without (finmap.remove files (segment_name_of 6 id)) ids

-- each of these segments is there when its turn comes to be removed
abbrev pub AreThere : Files → List ℕ → Type 0
AreThere files [] = ⊤
AreThere files (id ∷ ids) =
    IsHeld files (segment_name_of 6 id) × AreThere (finmap.remove files (segment_name_of 6 id)) ids

-- the removal of a segment, as a change of a disk
abbrev pub removal : ℕ → Change
removal id = change.Remove (segment_name_of 6 id)

-- these removals are behind the changes that there were
abbrev pub HaveRemoved : List ℕ → Option (List Change) → Option (List Change) → Type 0
HaveRemoved segments before now =
    now ≡ option_map (λ changes. changes ++ map removal segments) before

-- all were removed, or the first of them
abbrev pub RemovesFirst : {T E : Type 0} → List ℕ → Option (List Change) → Option (List Change)
    → Result T E → Type 0
RemovesFirst segments before now (Ok x) = HaveRemoved segments before now
RemovesFirst segments before now (Err e) = (n : ℕ) × HaveRemoved (take n segments) before now

-- the segments are gone, and all other files stay
abbrev pub AreGone : Option Files → Option Files → List ℕ → Type 0
AreGone None now segments = now ≡ None
AreGone (Some files) now segments = now ≡ Some (without files segments)
