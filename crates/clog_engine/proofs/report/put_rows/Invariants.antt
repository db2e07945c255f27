use Rattle.std.proofs.Common.{◌≡◌, ◌++◌}
use Rattle.std.specs.List.{flat_map}
use Rattle.clog_text.specs.CellTexts.{row_line}
use Rattle.clog_engine.proofs.report.put_rows.Given as goal

-- what is put and what is left are the whole
abbrev pub invariant-loop-key : goal.invariant-loop-key
invariant-loop-key l =
    l.out.items ++ flat_map row_line l.key-iterator
    ≡ l.fn.out.items ++ flat_map row_line l.rows.entries
