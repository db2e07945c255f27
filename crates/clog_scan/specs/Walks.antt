-- How far a file that is read in pieces was read.
use Rattle.std.specs.Prelude.{◌≡◌, ℕ, ◌+◌, ◌-◌, ◌<◌, ◌≤◌, List, [], ◌++◌, length, drop, map, Bool}
use Rattle.std.specs.Prelude.{true, false, Option, Some, None}
use Rattle.std.specs.List.{AllByRecursion}
use Rattle.clog_spec.specs.Sizes.{header_size}
use Rattle.clog_entry.specs.Spelled.{IsHeaderAt}
use Rattle.clog_scan.specs.declared.answer.End.{End}
use Rattle.clog_scan.specs.declared.scanner.Scanner.{Scanner}
use Rattle.clog_scan.specs.declared.walking.Walked.{Walked}
use Rattle.clog_scan.specs.declared.whole.Whole.{Whole}
use Rattle.clog_scan.specs.Cut.{Section, IsFront, front_bytes, last_until}
use Rattle.clog_scan.specs.Laws.{IsFile}
use Rattle.clog_scan.specs.Pieces.{IsStuck, IsWindow, entry_of}
use Rattle.clog_scan.specs.Segment.{Entry, IsSegment, front_entries}

-- Reading has come to a place in a section that ends at another: a front ends there, and these are
-- its entries.
pub record HasCome (file : List ℕ) (id at until : ℕ) (given : List Entry) : Type 0 where
  pub header : IsHeaderAt file id
  pub sections : List Section
  pub front : IsFront file id (Some sections)
  pub place : at ≡ length (front_bytes id (Some sections))
  pub end : until ≡ last_until header_size sections
  pub given_are : given ≡ front_entries (Some sections)
  pub order : at ≤ until
  pub within : until ≤ length file

-- it goes on to a place, and waits, or comes to the end
abbrev pub WalksTo : List ℕ → ℕ → ℕ → ℕ → Option End → ℕ → List Entry → Type 0
WalksTo file id at until None fed given =
    HasCome file id at until given × IsStuck file at until fed × (fed < length file)
WalksTo file id at until (Some end) fed given = IsSegment file id given end

-- what is given of a window, and how far it is read
pub record HasWalked (len id : ℕ) (window : List ℕ) (from until : ℕ) (w : Walked) : Type 0 where
  pub forward : from ≤ w.at
  pub inside : w.at ≤ from + length window
  pub order : w.at ≤ w.until
  pub within : w.until ≤ len
  pub walks : (file : List ℕ) (given : List Entry) → IsWindow file len window from
      → HasCome file id from until given
      → WalksTo file id w.at w.until w.end (from + length window)
      (given ++ map entry_of w.wholes.items)

-- nothing was read yet, or the header was and what stands behind it
abbrev pub ScannedTo : List ℕ → ℕ → ℕ → ℕ → Bool → Option End → ℕ → List Entry → Type 0
ScannedTo file id at until begun (Some end) fed given = IsSegment file id given end
ScannedTo file id at until false None fed given =
    (at ≡ 0) × (given ≡ []) × (IsHeaderAt file id → fed < header_size) × (fed < length file)
ScannedTo file id at until true None fed given =
    HasCome file id at until given × IsStuck file at until fed × (fed < length file)

-- where a scanner stands that has not come to the end
abbrev pub Begins : List ℕ → ℕ → ℕ → ℕ → Bool → List Entry → Type 0
Begins file id at until true given = HasCome file id at until given
Begins file id at until false given = (at ≡ 0) × (given ≡ [])

-- what is read of a window from there
pub record Reads (len id : ℕ) (window : List ℕ) (from until : ℕ) (begun : Bool)
    (r : Walked × Bool) : Type 0 where
  pub forward : from ≤ r.0.at
  pub inside : r.0.at ≤ from + length window
  pub order : r.0.at ≤ r.0.until
  pub within : r.0.until ≤ len
  pub reads : (file : List ℕ) (given : List Entry) → IsWindow file len window from
      → Begins file id from until begun given
      → ScannedTo file id r.0.at r.0.until r.1 r.0.end (from + length window)
      (given ++ map entry_of r.0.wholes.items)

-- the end of a file that is too short for a header
abbrev pub FirstIs : ℕ → ℕ → Option End → Type 0
FirstIs len id (Some end) =
    (file : List ℕ) → IsFile file → length file ≡ len → IsSegment file id [] end
FirstIs len id None = 0 < len

-- what was held and a piece are read, and what was not read is held
pub record ReadsHeld (len id : ℕ) (held : List ℕ) (fed until : ℕ) (begun : Bool)
    (piece left : List ℕ) (r : Walked × Bool) : Type 0 where
  pub reads : Reads len id (held ++ piece) (fed - length held) until begun r
  pub left_is : left ≡ drop (r.0.at - (fed - length held)) (held ++ piece)

-- The scanner was fed the front of this file, and has given these entries.
pub record HasScanned (file : List ℕ) (s : Scanner) (given : List Entry) : Type 0 where
  pub is_file : IsFile file
  pub len_is : length file ≡ s.len
  pub held : drop (s.fed - length s.held.items) file ≡ s.held.items ++ drop s.fed file
  pub state :
      ScannedTo file s.id (s.fed - length s.held.items) s.until s.begun s.end s.fed given

-- Of the entries of the segment these are all that end at or below so many bytes.
pub record AreUpTo (entries given : List Entry) (fed : ℕ) : Type 0 where
  pub more : List Entry
  pub are : entries ≡ given ++ more
  pub behind : AllByRecursion (λ e. fed < e.end) more

-- A piece was fed, and these entries are given.
pub record Feeds (old new : Scanner) (piece : List ℕ) (wholes : List Whole) : Type 0 where
  pub same_id : new.id ≡ old.id
  pub same_len : new.len ≡ old.len
  pub fed : new.fed ≡ old.fed + length piece
  pub scans : (file : List ℕ) (given : List Entry) → HasScanned file old given
      → drop old.fed file ≡ piece ++ drop new.fed file
      → HasScanned file new (given ++ map entry_of wholes)

-- nothing but room has changed
pub record IsAsBefore (old new : Scanner) : Type 0 where
  pub id : new.id ≡ old.id
  pub len : new.len ≡ old.len
  pub fed : new.fed ≡ old.fed
  pub until : new.until ≡ old.until
  pub begun : new.begun ≡ old.begun
  pub end : new.end ≡ old.end
  pub held : new.held.items ≡ old.held.items
