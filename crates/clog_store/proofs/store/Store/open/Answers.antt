use Rattle.std.proofs.Common.{sym, subst}
use Rattle.clog_segments.specs.Opened.{RecoversAll}
use Rattle.clog_segments.specs.StoreState.{StoreState}
use Rattle.clog_store.specs.StoreTakes.{TakesNext}
use Rattle.clog_store.proofs.StoreFolds.{opened_folder}
use Rattle.clog_store.proofs.StoreTaking.{takes_opened}
use Rattle.clog_store.proofs.store.Store.open.Goals as goal

pub begin-requires-clause-folder : goal.begin-requires-clause-folder
begin-requires-clause-folder g c =
    let D = g.D.Disk in
    opened_folder (D.files c.args.disk) (D.files c.in-Ok.log.disk) c.args.moment c.in-Ok.log.id
    c.args.archives c.in-Ok.ensures.told c.in-Ok.ensures.opens

pub returns-in-Ok-clause-recovers : goal.returns-in-Ok-clause-recovers
returns-in-Ok-clause-recovers g c first is =
    let D = g.D.Disk in
    subst (λ (x : StoreState g.row.D.Denot).
    RecoversAll first (D.changes c.args.disk) (D.changes x.notes.log.disk)) (sym c.begin.ensures)
    (c.in-Ok.ensures.recovers first is)

pub returns-in-Ok-clause-takes : goal.returns-in-Ok-clause-takes
returns-in-Ok-clause-takes g c =
    subst (λ (x : StoreState g.row.D.Denot). TakesNext x) (sym c.begin.ensures)
    (takes_opened c.in-Ok.log c.args.sizes c.args.archives)
