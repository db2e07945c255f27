use Rattle.std.proofs.Common.{ap, ◌∙◌, subst}
use Rattle.path_core.specs.Keeper.{Holding}
use Rattle.path_rule.specs.declared.lasting.Lasting.{Lasting}
use Rattle.path_rule.specs.declared.view.PathSize.{PathSize}
use Rattle.path_table.specs.declared.table.PathTable.{PathTable}
use Rattle.write_path.specs.Closed.{StaysBeside}
use Rattle.clog_writers.proofs.Apart.{none_apart}
use Rattle.clog_writers.proofs.FirstLogged.{none_written}
use Rattle.clog_writers.proofs.Firsts.{first_none}
use Rattle.clog_writers.proofs.Running.{unopened, unseated}
use Rattle.clog_writers.proofs.logging.log_shares.Goals as goal

pub returns-in-Err-clause-ends : goal.returns-in-Err-clause-ends
returns-in-Err-clause-ends g c =
    unopened c.args.sizes c.args.flush_at c.args.base (g.K.Keeper.holds c.args.keeper)
    (g.K.Keeper.holds c.in-Err.keeper) c.requires.fresh c.args.workers.items c.in-Err.ensures.back

pub returns-in-Err-seats-clause-ends : goal.returns-in-Err-seats-clause-ends
returns-in-Err-seats-clause-ends g c =
    let now = g.K.Keeper.holds c.close-keeper.result.0 in
    let closed = c.close-keeper in
    unseated c.args.sizes c.args.flush_at c.args.base (g.K.Keeper.holds c.args.keeper) now
    c.requires.fresh _
    (ap (λ (t : PathTable g.row.K.Denot _). t.size.base) c.seats.ensures.path.0
    ∙ ap (λ (z : PathSize). z.base) c.in-Ok.ensures.opened.1)
    (ap (λ (t : PathTable g.row.K.Denot _). t.size.files) c.seats.ensures.path.0
    ∙ ap (λ (z : PathSize). z.files) c.in-Ok.ensures.opened.1)
    c.args.room.items _ closed.ensures.outcome.0
    (subst (λ (h : Holding). StaysBeside c.seats.new.self.table.size h now)
    (ap (λ (t : PathTable g.row.K.Denot _). g.K.Keeper.holds t.table.shared.key.first.value)
    c.seats.ensures.path.0 ∙ ap g.K.Keeper.holds c.in-Ok.ensures.first) closed.ensures.beside)
    c.requires.void c.args.workers.items

pub returns-in-Ok-seats-clause-ends : goal.returns-in-Ok-seats-clause-ends
returns-in-Ok-seats-clause-ends g c =
    let same = c.seats.ensures.path in
    let opened = c.in-Ok.ensures.opened in
    c.run_crew.ensures.ends c.args.base (g.K.Keeper.holds c.args.keeper)
    (record {
      at_open = (g.K.Keeper.holds c.args.keeper).at_open;
      size_is = ap (λ (t : PathTable g.row.K.Denot _). t.size) same.0 ∙ opened.1;
    })
    (ap (λ (t : PathTable g.row.K.Denot _). g.K.Keeper.holds t.table.shared.key.first.value) same.0
    ∙ ap g.K.Keeper.holds c.in-Ok.ensures.first)
    c.requires.fresh

pub returns-in-Err-clause-apart : goal.returns-in-Err-clause-apart
returns-in-Err-clause-apart g c = λ batch.
    none_apart c.args.sizes.capacity (g.K.Keeper.holds c.in-Err.keeper).logged
    (ap (λ (l : Lasting). l.logged) c.in-Err.ensures.back ∙ c.requires.fresh.nothing_logged)

pub returns-in-Err-seats-clause-apart : goal.returns-in-Err-seats-clause-apart
returns-in-Err-seats-clause-apart g c = λ batch.
    let now = g.K.Keeper.holds c.close-keeper.result.0 in
    none_apart c.args.sizes.capacity now.logged
    (first_none now.logged now.kept
    (none_written _ c.args.room.items _ now c.close-keeper.ensures.outcome.0 c.requires.void))

pub returns-in-Ok-seats-clause-apart : goal.returns-in-Ok-seats-clause-apart
returns-in-Ok-seats-clause-apart g c = λ batch.
    c.run_crew.ensures.apart (c.seats.ensures.path.1 ∙ c.in-Ok.ensures.opened.2 ∙ batch)
