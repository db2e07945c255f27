use Rattle.clog_closing.proofs.Logs.{are_files, is_appended}
use Rattle.clog_closing.proofs.Entries.{an_entry}
use Rattle.clog_closing.proofs.StoreLeft.{no_other, no_stray, others, segments}
use Rattle.clog_closing.proofs.StoreOnly.{only}
use Rattle.clog_closing.proofs.StoreOrdered.{in_order}
use Rattle.clog_closing.proofs.StoreTables.{exactly, is_put, rise, tables}
use Rattle.clog_closing.proofs.laws.stores_are_left.Goals as goal

pub returns : goal.returns
returns c sizes opened after later log deeds history e =
    let g = e.goes in
    record {
      is_appended = is_appended later log.base log.past log.id log.sections log.logged history
          g.grown g.stored g.places g.notes;
      bytes = are_files later log.base log.past log.id log.sections log.logged history g.grown
          g.stored g.places g.notes;
      some = an_entry later log.base log.past log.id log.sections log.logged history g.grown
          g.stored g.places g.notes;
      order = in_order sizes later log deeds history g;
      only = only sizes later log deeds history g e.folder.done.none_archived;
      dropped_exactly = exactly sizes opened after later log deeds history e;
      segments = segments sizes opened after later log deeds history e;
      no_other = no_other sizes opened after later log deeds history e;
      put = is_put sizes opened after later log deeds history e;
      rise = rise sizes opened after later log deeds history e;
      tables = tables sizes opened after later log deeds history e;
      others = others sizes opened after later log deeds history e;
      no_stray = no_stray sizes opened after later log deeds history e;
    }
