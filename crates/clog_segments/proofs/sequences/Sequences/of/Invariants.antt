use Rattle.std.proofs.Common.{◌≡◌, ◌+◌, ◌<◌, get_or, length}
use Rattle.clog_spec.specs.Sizes.{most_tables}
use Rattle.clog_base.specs.declared.cell.Table.{Table}
use Rattle.clog_crash.specs.Folder.{IsBase}
use Rattle.clog_segments.specs.Named.{HasSequence, OneHas}
use Rattle.clog_segments.proofs.sequences.Sequences.of.Given as goal

-- those of the tables below this one
abbrev pub invariant-loop-number : goal.invariant-loop-number
invariant-loop-number l = record {
  all : length l.greatest ≡ most_tables;
  each : (table : Table) → table.0 < l.number
      → IsBase (OneHas (HasSequence table) l.names) 1 (get_or l.greatest table.0 0 + 1);
}
