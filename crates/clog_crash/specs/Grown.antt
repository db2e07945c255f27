-- What a list of appends brings to segments, and the log that it holds.
use Rattle.std.specs.Prelude.{
  ℕ,
  ◌<◌,
  ◌^◌,
  List,
  [],
  ◌∷◌,
  ◌++◌,
  length,
  map,
  if◌then◌else◌,
  Contains,
}
use Rattle.std.specs.Str.{bytes_eq}
use Rattle.std.specs.List.Sorted.{IsStrictlySortedBy}
use Rattle.std.specs.Ordering.{nat_cmp}
use Rattle.clog_spec.specs.Names.{segment_name_of}
use Rattle.clog_disk.specs.declared.change.Change.{Change}
use Rattle.clog_disk.specs.declared.change.Change.TheVariants.{Append as Appended}
use Rattle.clog_scan.specs.declared.answer.End.TheVariants.{Clean}
use Rattle.clog_scan.specs.Segment.{Entry, IsSegment}

-- an append: the name, and the bytes
abbrev pub Append : Type 0
Append = List ℕ × List ℕ

-- the appends among a disk's changes
abbrev pub appends_of : List Change → List Append
appends_of [] = []
appends_of (Appended name bytes ∷ more) = (name, bytes) ∷ appends_of more
appends_of (other ∷ more) = appends_of more

-- the bytes that were appended to a name, laid end to end
abbrev pub grown : List Append → List ℕ → List ℕ
grown [] name = []
grown (a ∷ more) name = (if bytes_eq a.0 name then a.1 else []) ++ grown more name

-- bytes were appended to the segment of this id
pub record HasGrown (appends : List Append) (id : ℕ) : Type 0 where
  pub fits : id < 2 ^ 63
  pub bytes : List ℕ
  pub listed : Contains appends (segment_name_of 6 id, bytes)

-- the segment that was made by the appends, whole: these are its entries
abbrev pub HoldsGrown : List Append → ℕ → List Entry → Type 0
HoldsGrown appends id entries =
    IsSegment (grown appends (segment_name_of 6 id)) id entries
    (Clean (length (grown appends (segment_name_of 6 id))))

-- a segment that has grown, and its entries
abbrev pub GrownSegment : Type 0
GrownSegment = ℕ × List Entry

-- These are all segments that have grown, in ascending order, and each of them ends clean.
pub record IsKept (appends : List Append) (segments : List GrownSegment) : Type 0 where
  pub ordered : IsStrictlySortedBy nat_cmp (map (λ (s : GrownSegment). s.0) segments)
  pub each : (s : GrownSegment) → Contains segments s
      → HasGrown appends s.0 × HoldsGrown appends s.0 s.1
  pub every : (id : ℕ) → HasGrown appends id
      → (entries : List Entry) × Contains segments (id, entries)
