-- What a crash leaves while writers log the lines of a file, and once they have.
use Rattle.std.specs.Prelude.{
  ◌≡◌,
  ℕ,
  List,
  length,
  map,
  Bool,
  false,
  Option,
  Result,
  Ok,
  Err,
}
use Rattle.std.specs.List.{flat_map}
use Rattle.clog_disk.specs.declared.change.Change.{Change}
use Rattle.clog_disk.specs.Files.{Files}
use Rattle.clog_disk.specs.Images.{IsImage, LeavesOnly}
use Rattle.clog_mutation.specs.declared.mutation.Mutation.{Mutation}
use Rattle.clog_crash.specs.Log.{NoChances, Write}
use Rattle.clog_crash.specs.Readings.{Reading}
use Rattle.clog_crash.specs.Runs.{placed_of}
use Rattle.clog_applied.specs.History.{LoggedLine, entry_of}
use Rattle.clog_closing.specs.Written.{
  BringsOnly,
  GoesBeyond,
  HasBrought,
  HoldsFirsts,
  RestoresLines,
}
use Rattle.clog_shares.specs.declared.fault.WriteFault.{WriteFault}

-- The entries of a log are those of a history of which each writer's lines are the first of its
-- share, in order, each at its place.
pub record SaysShares (writers : ℕ) (mutations : List Mutation) (log : List Write)
    (history : List LoggedLine) : Type 0 where
  pub holds : HoldsFirsts writers mutations history
  pub says : flat_map placed_of log ≡ map (λ (w : LoggedLine). (w.id, entry_of w)) history

-- what the lines of a history say, in order
abbrev pub said_by : List LoggedLine → List Mutation
said_by history = map (λ (w : LoggedLine). w.mutation) history

-- The image restores what was restored before, and the first of a history, at least so many lines.
-- It is not damaged.
abbrev pub RestoresShares : Reading → List LoggedLine → ℕ → Files → Type 0
RestoresShares r history least image = RestoresLines r (said_by history) least image

-- The segments that were appended since a disk was so, which say the first of each writer's share,
-- whatever was answered. No other names have come.
pub record WritesShares {D : Type 0} (files : D → Option Files)
    (changes : D → Option (List Change)) (before now : D) (base : ℕ)
    (flushing archives drain : Bool) (writers : ℕ) (mutations : List Mutation) : Type 0 where
  pub log : List Write
  pub history : List LoggedLine
  pub wrote :
      HasBrought files changes before now base flushing archives drain writers mutations log
  pub says : SaysShares writers mutations log history
  pub only : BringsOnly files before now log

-- The segments that were appended, which say the first of each writer's share. What a crash leaves
-- since a disk was so, and what it leaves of it now, where nothing passes by chance for what was
-- written. Where writers do not flush and the changes go beyond appends, all lines last.
pub record LeavesShares {D : Type 0} (files : D → Option Files)
    (changes : D → Option (List Change)) (moment : D → ℕ) (since : D → ℕ → Files → Type 0)
    (leaves : D → List ℕ → Option (List ℕ) → Type 0)
    (before now : D) (r : Reading) (base : ℕ) (flushing archives drain : Bool) (writers : ℕ)
    (mutations : List Mutation) (least : ℕ) : Type 0
  where
    pub log : List Write
    pub history : List LoggedLine
    pub wrote :
        HasBrought files changes before now base flushing archives drain writers mutations log
    pub says : SaysShares writers mutations log history
    pub meanwhile : LeavesOnly moment since before now
        (λ image. NoChances log image → RestoresShares r history 0 image)
    pub at_last : (image : Files) → IsImage (leaves now) image → NoChances log image
        → RestoresShares r history least image
    pub at_drain : flushing ≡ false → GoesBeyond wrote.added → (image : Files)
        → IsImage (leaves now) image → NoChances log image
        → RestoresShares r history (length mutations) image

-- so many lines last for sure
abbrev pub least_of : {T : Type 0} → Result T WriteFault → List Mutation → ℕ
least_of (Ok done) mutations = length mutations
least_of (Err fault) mutations = 0
