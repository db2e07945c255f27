use Rattle.std.proofs.Common.{◌≡◌, drop}
use Rattle.clog_notes.specs.Entries.{with_tables}
use Rattle.clog_notes.proofs.entry.joined_tables.Given as goal

-- what is joined and what is left are the whole
abbrev pub invariant-loop-update : goal.invariant-loop-update
invariant-loop-update l =
    with_tables l.tables (drop l.update-index l.updates) ≡ with_tables 0 l.updates
