use Rattle.std.proofs.Common.{take, Contains}
use Rattle.clog_folder.specs.Listing.{AreRows, IsSegmentAt, segment_cmp}
use Rattle.clog_folder.proofs.listing.segment_names.Given as goal

-- of the names seen
abbrev pub invariant-loop-name : goal.invariant-loop-name
invariant-loop-name l =
    AreRows segment_cmp IsSegmentAt (Contains (take l.name-index l.names)) l.segments.entries
