-- What `scan` prints.
use Rattle.std.specs.Prelude.{ℕ, ◌-◌, List, ◌++◌, length, codes, decimal}
use Rattle.std.specs.List.{flat_map}
use Rattle.clog_spec.specs.Sizes.{frame_size}
use Rattle.clog_entry.specs.CauseText.{cause_text}
use Rattle.clog_scan.specs.declared.answer.End.{End}
use Rattle.clog_scan.specs.declared.answer.End.TheVariants.{Clean, Torn}
use Rattle.clog_scan.specs.declared.answer.Found.{Found}
use Rattle.clog_scan.specs.Segment.{Entry}
use Rattle.clog_applied.specs.Printed.{line}

abbrev pub segment_line : ℕ → List ℕ
segment_line id = line (codes "segment " ++ decimal id)

-- the range of an entry, and the length of its payload
abbrev pub range_line : ℕ → ℕ → ℕ → List ℕ
range_line start end size =
    line (codes "entry " ++ decimal start ++ codes " " ++ decimal end ++ codes " " ++ decimal size)

abbrev pub entry_line : Entry → List ℕ
entry_line e = range_line e.start e.end (length e.payload)

-- the same by the range alone
abbrev pub found_line : Found → List ℕ
found_line f = range_line f.start f.end (f.end - f.start - frame_size)

abbrev pub end_line : End → List ℕ
end_line (Clean at) = line (codes "end clean " ++ decimal at)
end_line (Torn at cause) =
    line (codes "end torn " ++ decimal at ++ codes " " ++ cause_text cause)

-- the segment, its entries in order, and where and why it ends
abbrev pub scan_report : ℕ → List Entry → End → List ℕ
scan_report id entries end = segment_line id ++ flat_map entry_line entries ++ end_line end

-- the same by the ranges
abbrev pub found_report : ℕ → List Found → End → List ℕ
found_report id founds end = segment_line id ++ flat_map found_line founds ++ end_line end
