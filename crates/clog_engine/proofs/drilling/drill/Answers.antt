use Rattle.std.proofs.Common.{Bool, ap, subst, sym}
use Rattle.clog_text.specs.Made.{made_lines}
use Rattle.clog_words.specs.declared.request.ApplyOptions.{ApplyOptions}
use Rattle.clog_engine.specs.Drill.{drill_options}
use Rattle.clog_engine.specs.Outside.{outside_with}
use Rattle.clog_engine.specs.Planning.{ArePlanned}
use Rattle.clog_engine.proofs.Drilled.{applied_at, drilled, lines_refused, quiet_at, told_calls}
use Rattle.clog_engine.proofs.MadeLines.{made_many}
use Rattle.clog_engine.proofs.Onward.{looked_behind}
use Rattle.clog_engine.proofs.drilling.drill.Goals as goal

pub returns-in-Err-outcome-clause-drills : goal.returns-in-Err-outcome-clause-drills
returns-in-Err-outcome-clause-drills g c left left_now f h =
    let ms = made_lines c.args.seed c.args.count in
    let flush = c.drill_options-options.result.flush_at in
    let planned : ArePlanned c.drill_options-options.result.dump c.sizes_of-sizes.result flush ms
    c.in-Ok.made.0 =
    subst (λ (dump : Bool). ArePlanned dump c.sizes_of-sizes.result flush ms c.in-Ok.made.0)
    (sym (ap (λ (a : ApplyOptions). a.dump) c.drill_options-options.ensures.are)) c.in-Ok.ensures.0
    in lines_refused ms (outside_with left left_now f h g.D.Disk g.C.Clock c.args.disk
    c.apply_shares-disk.result.0 c.args.clock.now) c.drill_options-options.result
    c.apply_shares-disk.result.1 c.in-Err-outcome.status c.drill_options-options.ensures.are
    c.in-Err-outcome.is (c.apply_shares-disk.ensures.applies left left_now f h ms planned)

pub returns-in-Ok-outcome-clause-drills : goal.returns-in-Ok-outcome-clause-drills
returns-in-Ok-outcome-clause-drills g c left left_now f h =
    let ms = made_lines c.args.seed c.args.count in
    let start = c.args.disk in
    let then = c.apply_shares-disk.result.0 in
    let now = c.tell_folder-told.new.disk in
    let text = c.in-Ok-outcome._applied in
    let at = c.args.clock.now in
    let still = c.tell_folder-told.ensures.keeps in
    let flush = c.drill_options-options.result.flush_at in
    let planned : ArePlanned c.drill_options-options.result.dump c.sizes_of-sizes.result flush ms
    c.in-Ok.made.0 =
    subst (λ (dump : Bool). ArePlanned dump c.sizes_of-sizes.result flush ms c.in-Ok.made.0)
    (sym (ap (λ (a : ApplyOptions). a.dump) c.drill_options-options.ensures.are)) c.in-Ok.ensures.0
    in drilled ms (outside_with left left_now f h g.D.Disk g.C.Clock start now at) text
    (g.D.Disk.files then) (g.D.Disk.faults then) c.tell_folder-told.result
    (looked_behind g.D.Disk g.C.Clock left left_now f h start then now at
    c.apply_shares-disk.ensures.later still drill_options ms text
    (applied_at ms (outside_with left left_now f h g.D.Disk g.C.Clock start then at)
    c.drill_options-options.result c.apply_shares-disk.result.1 text
    c.drill_options-options.ensures.are c.in-Ok-outcome.is
    (c.apply_shares-disk.ensures.applies left left_now f h ms planned)))
    (c.disks_tell_both.ensures start) still.same.files
    (quiet_at c.apply_shares-disk.result.1 text (g.D.Disk.faults start) (g.D.Disk.faults then)
    c.in-Ok-outcome.is c.apply_shares-disk.ensures.quiet)
    (c.tell_folder-told.ensures.tells ms (sym (made_many c.args.seed c.args.count))
    c.in-Ok.ensures.1)

pub returns-in-Ok-outcome-clause-called : goal.returns-in-Ok-outcome-clause-called
returns-in-Ok-outcome-clause-called g c =
    let ms = made_lines c.args.seed c.args.count in
    told_calls ms (g.D.Disk.files c.apply_shares-disk.result.0)
    (g.D.Disk.faults c.apply_shares-disk.result.0) (g.D.Disk.faults c.tell_folder-told.new.disk)
    c.tell_folder-told.result
    (c.tell_folder-told.ensures.tells ms (sym (made_many c.args.seed c.args.count))
    c.in-Ok.ensures.1)
