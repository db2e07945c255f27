use Rattle.std.proofs.Common.{take, Contains}
use Rattle.clog_crash.specs.Folder.{IsNameOf, place_cmp}
use Rattle.clog_folder.specs.Listing.{AreRows}
use Rattle.clog_folder.proofs.listing.table_names.Given as goal

-- of the names seen
abbrev pub invariant-loop-name : goal.invariant-loop-name
invariant-loop-name l =
    AreRows place_cmp IsNameOf (Contains (take l.name-index l.names)) l.tables.entries
