-- Reading comes to no place behind the end.
use Rattle.std.proofs.Common.{◌≡◌, ℕ, ◌≤◌, List, Option, Some, None, length, ap, arith}
use Rattle.clog_scan.specs.declared.answer.End.{End}
use Rattle.clog_scan.specs.declared.answer.End.TheVariants.{Clean, Torn}
use Rattle.clog_scan.specs.Cut.{Section, front_bytes}
use Rattle.clog_scan.specs.Laws.{Reaches, place_of}
use Rattle.clog_scan.specs.Segment.{Entry, EndsBy, IsSegment}

-- a segment ends where its longest front ends
ends_there : (bytes : List ℕ) (id : ℕ) (front : Option (List Section)) (end : End)
    → EndsBy bytes id front end → place_of end ≡ length (front_bytes id front)
ends_there bytes id None end ends = ap place_of ends.2
ends_there bytes id (Some ss) (Clean place) ends = ends.0
ends_there bytes id (Some ss) (Torn place cause) ends = ends.0

pub not_behind : (bytes : List ℕ) (id at until : ℕ) (entries : List Entry) (end : End)
    → Reaches bytes id at until → IsSegment bytes id entries end → at ≤ place_of end
not_behind bytes id at until entries end reached is =
    let longest = is.longest (Some reached.sections) reached.front in
    let place = ends_there bytes id is.front end is.ends in
    let here = reached.place in
    omega arith
