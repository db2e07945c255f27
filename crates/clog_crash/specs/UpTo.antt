-- The log up to damage, as an opening reads it: what a segment holds in front of its first payload
-- that is no mutation's.
use Rattle.std.specs.Prelude.{◌≡◌, ℕ, List, [], ◌∷◌, ◌++◌}
use Rattle.clog_disk.specs.Files.{Files}
use Rattle.clog_scan.specs.declared.answer.End.{End}
use Rattle.clog_scan.specs.Segment.{Entry}
use Rattle.clog_crash.specs.Restore.{AreMutations, HoldsSegment}

-- The entry is one of the segment of this id; its payload, and that of each entry in front of it,
-- is a mutation's.
pub record IsLoggedUpTo (files : Files) (id : ℕ) (entry : Entry) : Type 0 where
  pub name : List ℕ
  pub entries : List Entry
  pub end : End
  pub segment : HoldsSegment files name id entries end
  pub front : List Entry
  pub behind : List Entry
  pub parted : entries ≡ front ++ entry ∷ behind
  pub said : AreMutations (front ++ entry ∷ [])
