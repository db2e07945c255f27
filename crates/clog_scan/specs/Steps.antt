-- One step of the cursor, between the offset that it has reached and the end of its section.
use Rattle.std.specs.Prelude.{◌≡◌, ℕ, ◌<◌, List}
use Rattle.clog_entry.specs.Spelled.{IsMarkerAt, IsEntryAt, payload_at}
use Rattle.clog_scan.specs.declared.step.Step.{Step}
use Rattle.clog_scan.specs.declared.step.Step.TheVariants as steps
use Rattle.clog_scan.specs.Segment.{StopsAt}

abbrev pub StepsTo : List ℕ → ℕ → ℕ → ℕ → Step → Type 0
StepsTo bytes id at until (steps.Section next) = (at ≡ until) × IsMarkerAt bytes id at next
StepsTo bytes id at until (steps.Entry size) =
    (at < until) × IsEntryAt bytes at until (payload_at bytes at size)
StepsTo bytes id at until (steps.End end) = StopsAt bytes id at until end
