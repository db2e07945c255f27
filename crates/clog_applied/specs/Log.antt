-- What the log of a run is: each line once, and each segment as it was appended.
use Rattle.std.specs.Prelude.{
  ◌≡◌,
  ◌⊎◌,
  ℕ,
  ◌+◌,
  ◌≤◌,
  Bool,
  true,
  false,
  List,
  Contains,
  Some,
  None,
}
use Rattle.std.specs.FinMap as finmap
use Rattle.clog_spec.specs.Names.{segment_name_of, archive_name_of}
use Rattle.clog_spec.specs.Sizes.{header_size, marker_size}
use Rattle.clog_disk.specs.declared.change.Change.{Change}
use Rattle.clog_disk.specs.Files.{Files}
use Rattle.clog_mutation.specs.declared.mutation.Mutation.{Mutation}
use Rattle.clog_scan.specs.Cut.{Section, IsFront}
use Rattle.clog_words.specs.declared.request.ApplyOptions.{ApplyOptions}
use Rattle.clog_crash.specs.Chance.{marks_of}
use Rattle.clog_applied.specs.Appended.{appended, IsAppended}
use Rattle.clog_applied.specs.Asked.{IsBatch, capacity_of}
use Rattle.clog_applied.specs.Filed.{IsAbove}
use Rattle.clog_applied.specs.History.{LoggedLine, IsLawful, HoldsShares}

-- ---- what is left of a segment

-- the file of this name is not there, or has these bytes
abbrev pub IsAbsentOr : Files → List ℕ → List ℕ → Type 0
IsAbsentOr files name bytes =
    (finmap.get files name ≡ None) ⊎ (finmap.get files name ≡ Some bytes)

-- the file of one of two names has these bytes, and that of the other is not there
abbrev pub IsUnderOne : Files → List ℕ → List ℕ → List ℕ → Type 0
IsUnderOne files one other bytes =
    ((finmap.get files one ≡ Some bytes) × (finmap.get files other ≡ None))
    ⊎ ((finmap.get files one ≡ None) × (finmap.get files other ≡ Some bytes))

-- A segment of the run is left as it was appended, or has gone. Where archives are kept, one that
-- went is under its archive name, and where not, there is no such name.
abbrev pub IsLeft : Bool → Files → List Change → ℕ → Type 0
IsLeft true after changes id =
    IsUnderOne after (segment_name_of 6 id) (archive_name_of id) (appended changes id)
IsLeft false after changes id =
    IsAbsentOr after (segment_name_of 6 id) (appended changes id)
    × (finmap.get after (archive_name_of id) ≡ None)

-- ---- sections

-- a marker stands between two offsets of a segment
pub record HasMarkBetween (bytes : List ℕ) (id from to : ℕ) : Type 0 where
  pub sections : List Section
  pub front : IsFront bytes id (Some sections)
  pub mark : ℕ
  pub listed : Contains (marks_of header_size sections) mark
  pub behind : from ≤ mark
  pub before : mark + marker_size ≤ to

-- no section holds two entries of one writer
abbrev pub AreSyncedApart : List Change → List LoggedLine → Type 0
AreSyncedApart changes history = (a b : LoggedLine) → Contains history a → Contains history b
    → a.writer ≡ b.writer → a.id ≡ b.id → a.end ≤ b.start
    → HasMarkBetween (appended changes a.id) a.id a.end b.start

-- ---- the log of a run

-- The run appended to new segments alone. What it appended is a lawful history of all lines, and
-- stands in the segments and archives that are left. In batch mode each entry of a writer is in a
-- section of its own.
pub record LogHoldsEachLineOnce (options : ApplyOptions) (before after : Files)
    (changes : List Change) (mutations : List Mutation) (ids : List ℕ)
    (history : List LoggedLine) : Type 0 where
  pub is_appended : IsAppended changes ids history
  pub new : (id : ℕ) → Contains ids id → IsAbove before id
  pub lawful : IsLawful (capacity_of options) history
  pub shares : HoldsShares options.writers mutations history
  pub left : (id : ℕ) → Contains ids id → IsLeft options.archive after changes id
  pub apart : IsBatch options → AreSyncedApart changes history
