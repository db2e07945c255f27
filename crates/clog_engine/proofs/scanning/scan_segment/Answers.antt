use Rattle.std.proofs.Common.{List, ℕ, subst, ◌∙◌}
use Rattle.clog_scan.specs.Segment.{Scans}
use Rattle.clog_engine.proofs.ScanReports.{report_same}
use Rattle.clog_engine.proofs.scanning.scan_segment.Goals as goal

pub returns-clause-scans : goal.returns-clause-scans
returns-clause-scans g c =
    let found = c.in_ok-found.found in
    let held = subst (λ (l : List ℕ). Scans l c.args.id found) c.deref.ensures.value
    c.in_ok-found.ensures.held in
    record {
      bytes = c.in_ok-bytes.bytes.items;
      file = c.in_ok-bytes.ensures.gives.0;
      few = c.in_ok-bytes.ensures.gives.1;
      entries = held.0;
      end = found.end;
      segment = held.1;
      text = c.in_ok-scan_report.ensures
          ∙ report_same c.in_ok-bytes.bytes.items c.args.id held.0 found.end found.entries
          held.1 held.2;
    }
