use Rattle.std.proofs.Common.{refl, sym, ap, ◌∙◌}
use Rattle.std.proofs.lemmas.Bool.{true≢false}
use Rattle.clog_segments.specs.StoreState.{StoreState}
use Rattle.clog_segments.proofs.Lived.{lives_still}
use Rattle.clog_due.proofs.StoreDropped.{none_dropped}
use Rattle.clog_store.proofs.store.Store.try_drop.Goals as goal

pub returns-then-is_stopped-clause-drops : goal.returns-then-is_stopped-clause-drops
returns-then-is_stopped-clause-drops g c =
    let D = g.D.Disk in
    none_dropped D.files D.changes D.moment D.faults g.row.D.coded.code c.args.self.now
    c.args.self.now c.args.closed refl

pub returns-then-is_stopped-clause-lives : goal.returns-then-is_stopped-clause-lives
returns-then-is_stopped-clause-lives g c lives =
    let D = g.D.Disk in
    let log = c.args.self.now.notes.log in
    lives_still D.files D.moment D.since D.leaves D.read_at D.lasted_at log
    (g.met.D.Disk.only_now log.disk) lives

pub returns-clause-stays : goal.returns-clause-stays
returns-clause-stays g c was =
    absurd (true≢false (sym was
    ∙ sym (ap (λ (x : StoreState g.row.D.Denot). x.notes.log.is_stopped) c.self.view_is)
    ∙ sym c.is_stopped.ensures ∙ c.if-is_stopped.false))
