use Rattle.std.proofs.Common.{◌∙◌, ap}
use Rattle.clog_notes.specs.Entries.{with_tables}
use Rattle.clog_notes.proofs.TableSets.{joined_holds}
use Rattle.clog_notes.proofs.entry.tables_of.Goals as goal

pub returns : goal.returns
returns c =
    joined_holds c.args.mutation.now c.joined_tables.result c.requires.updates
    (c.joined_tables.ensures ∙ ap (with_tables 0) c.as_slice.ensures)
