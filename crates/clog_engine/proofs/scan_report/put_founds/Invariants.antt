use Rattle.std.proofs.Common.{◌≡◌, ◌++◌, drop}
use Rattle.std.specs.List.{flat_map}
use Rattle.clog_engine.specs.ScanReport.{found_line}
use Rattle.clog_engine.proofs.scan_report.put_founds.Given as goal

-- what is put and what is left are the whole
abbrev pub invariant-loop-found : goal.invariant-loop-found
invariant-loop-found l =
    l.out.items ++ flat_map found_line (drop l.found-index l.founds)
    ≡ l.fn.out.items ++ flat_map found_line l.founds
