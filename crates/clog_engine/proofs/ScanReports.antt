-- A report by ranges is the report of the entries.
use Rattle.std.proofs.Common.{
  ◌≡◌,
  ℕ,
  ◌-◌,
  List,
  [],
  ◌∷◌,
  ◌++◌,
  length,
  map,
  ap,
  ap₂,
  ◌∙◌,
  refl,
  arith,
}
use Rattle.std.specs.List.{flat_map}
use Rattle.clog_spec.specs.Sizes.{frame_size}
use Rattle.clog_scan.specs.declared.answer.End.{End}
use Rattle.clog_scan.specs.declared.answer.Found.{Found}
use Rattle.clog_scan.specs.Laws.{AreLaidOut, place_of}
use Rattle.clog_scan.specs.Segment.{Entry, IsSegment, found_of}
use Rattle.clog_scan.proofs.Order.{laid}
use Rattle.clog_engine.specs.ScanReport.{
  segment_line,
  range_line,
  entry_line,
  found_line,
  end_line,
  scan_report,
  found_report,
}

lines_same : (bytes : List ℕ) (id from place : ℕ) (entries : List Entry)
    → AreLaidOut bytes id from entries place
    → flat_map found_line (map found_of entries) ≡ flat_map entry_line entries
lines_same bytes id from place [] laid_out = refl
lines_same bytes id from place (e ∷ es) laid_out =
    let size : e.end - e.start - frame_size ≡ length e.payload = omega (arith, laid_out.1.range) in
    ap₂ (λ (a b : List ℕ). a ++ b) (ap (range_line e.start e.end) size)
    (lines_same bytes id e.end place es laid_out.2)

-- the report of a segment by the ranges of its entries
pub report_same : (bytes : List ℕ) (id : ℕ) (entries : List Entry) (end : End)
    (founds : List Found) → IsSegment bytes id entries end → founds ≡ map found_of entries
    → found_report id founds end ≡ scan_report id entries end
report_same bytes id entries end founds segment is =
    ap (λ (l : List ℕ). segment_line id ++ l ++ end_line end)
    (ap (λ (f : List Found). flat_map found_line f) is
    ∙ lines_same bytes id 0 (place_of end) entries (laid bytes id entries end segment))
