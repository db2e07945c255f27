use Rattle.std.proofs.Common.{ap, ◌∙◌}
use Rattle.op_core.specs.declared.count.Order.TheVariants.{Append}
use Rattle.path_core.specs.declared.event.Carried.TheVariants.{Deposit}
use Rattle.path_core.specs.declared.event.Event.TheVariants.{Close}
use Rattle.path_rule.specs.declared.view.View.{View}
use Rattle.path_rule.specs.Issued.{issued_in}
use Rattle.write_path.proofs.Growing.{ended, one_step, then_kept}
use Rattle.write_path.proofs.Paying.{ended_issues}
use Rattle.write_path.proofs.Sealing.{ends_last}
use Rattle.write_path.proofs.seats.WritePath.log_claimed.Goals as goal

pub returns-clause-logged : goal.returns-clause-logged
returns-clause-logged g c = let L = c.deposit-deposited.ensures.listed in
    let m = c.args.seat.member in let D = c.deposit-deposited in let step = D.ensures.step in
    let G = then_kept m.seat.me.0.trail D.result.0.member.seat.me.0.trail
    c.end_write-seat.result.member.seat.me.0.trail
    (one_step m.seat.me.0 m.number (Close m.number Append c.args.seat.group (Deposit step.0))
    step.1 D.result.0.member.seat.me.0 tt tt step.2)
    (ended D.result.0 c.end_write-seat.result.member c.end_write-seat.ensures.ends) in record {
      behind = c.requires.behind;
      tables = c.deposit-deposited.result.0.tables;
      listed = record {
        note = L.note;
        list = c.end_write-seat.ensures.ends.list ∙ L.list;
        last = ends_last L.note c.deposit-deposited.result.0 c.end_write-seat.result.member
            c.end_write-seat.ensures.ends L.last;
        writer = L.writer;
        starts = L.starts;
        ends = L.ends;
        tables_are = L.tables_are;
        of = L.of;
      };
      grown = G.0;
      kept = G.1;
      unswitched = G.2;
    }

pub returns-clause-issued : goal.returns-clause-issued
returns-clause-issued g c = let D = c.deposit-deposited in
    ended_issues D.result.0 c.end_write-seat.result.member c.end_write-seat.ensures.ends
    ∙ ap (λ (v : View). issued_in v.trail) D.ensures.step.2.view
