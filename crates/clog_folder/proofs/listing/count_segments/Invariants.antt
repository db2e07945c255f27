use Rattle.std.proofs.Common.{take}
use Rattle.clog_crash.specs.Folder.{IsNameOfSegment}
use Rattle.clog_folder.specs.Listing.{IsCount}
use Rattle.clog_folder.proofs.listing.count_segments.Given as goal

-- of the names seen
abbrev pub invariant-loop-name : goal.invariant-loop-name
invariant-loop-name l = IsCount IsNameOfSegment (take l.name-index l.names) l.count
