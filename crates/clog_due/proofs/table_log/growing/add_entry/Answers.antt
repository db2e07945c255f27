use Rattle.std.proofs.Common.{sym, ◌∙◌}
use Rattle.clog_segments.proofs.Outcomes.{ok_both}
use Rattle.clog_due.proofs.TableLogs.{touching_at}
use Rattle.clog_due.proofs.table_log.growing.add_entry.Goals as goal

pub returns-then-is_touching : goal.returns-then-is_touching
returns-then-is_touching c =
    ok_both c.add_end.result c.add_end.ensures.here c.add_end.ensures.others (λ here others.
    touching_at c.args.table.0 c.args.note.now c.args.hulls.now c.add_end.new.hulls
    c.place_of.result c.place_of.ensures c.requires.placed
    (sym c.is_touching.ensures ∙ c.if-is_touching.true) here others)
