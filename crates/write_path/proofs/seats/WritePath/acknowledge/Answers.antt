use Rattle.std.proofs.Common.{sym, subst}
use Rattle.sync_core.specs.declared.SyncCore.{SyncCore}
use Rattle.write_path.specs.declared.commit.Commit.TheVariants.{Logged}
use Rattle.write_path.specs.declared.writing.Written.{Written}
use Rattle.write_path.specs.Commits.{IsWritten}
use Rattle.write_path.specs.Receipts.{IsCommitted}
use Rattle.write_path.proofs.Acknowledged.{acknowledged, receipted}
use Rattle.write_path.proofs.seats.WritePath.acknowledge.Goals as goal

pub returns-in-Periodic-clause-answer : goal.returns-in-Periodic-clause-answer
returns-in-Periodic-clause-answer g c = λ before p of written.
    let size = c.args.self.now.table.size in let w = c.args.seat.member.number in
    let v = c.args.seat.member.seat.me.0 in let r = c.receipt-receipt in
    let L = subst (λ (x : Written). IsWritten size w before p x v) c.in-Logged.is written in
    subst (λ (mode : SyncCore). IsCommitted mode size w before p
    (Logged r.result) v) (sym c.in-Periodic.is)
    (receipted size.base w c.args.line c.in-Logged.start.0 c.in-Logged.end.0 before v.trail p
    r.result of L r.ensures.line r.ensures.position)

pub returns-in-Batch-clause-answer : goal.returns-in-Batch-clause-answer
returns-in-Batch-clause-answer g c = λ before p of written.
    let size = c.args.self.now.table.size in let w = c.args.seat.member.number in
    let v = c.args.seat.member.seat.me.0 in let r = c.receipt-receipt in
    let after = c.sync_write.result.0.member.seat.me.0 in
    let L = subst (λ (x : Written). IsWritten size w before p x v) c.in-Logged.is written in
    subst (λ (mode : SyncCore). IsCommitted mode size w before p c.sync_write.result.1 after)
    (sym c.in-Batch.is)
    (acknowledged size w before p r.result c.sync_write.result.1 v after
    (receipted size.base w c.args.line c.in-Logged.start.0 c.in-Logged.end.0 before v.trail p
    r.result of L r.ensures.line r.ensures.position) c.sync_write.ensures.acknowledges)
