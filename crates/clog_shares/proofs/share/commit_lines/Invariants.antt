use Rattle.std.proofs.Common.{◌≡◌, ℕ, ◌+◌, ◌*◌, ◌≤◌, List, length}
use Rattle.clog_applied.specs.History.{Line}
use Rattle.path_rule.specs.Issued.{issued_in}
use Rattle.path_table.specs.Members.{view_of}
use Rattle.sync_core.specs.declared.SyncCore.TheVariants.{Batch, Periodic}
use Rattle.path_flush.specs.OwnWrites.{writes_of}
use Rattle.path_flush.specs.Seats.{Stays}
use Rattle.clog_shares.specs.Sealing.{HasSealed}
use Rattle.clog_shares.specs.Shares.{ArePrepared, logged_by}
use Rattle.clog_shares.specs.Timed.{AreTimed}
use Rattle.clog_shares.proofs.Committing.{GoesOn}
use Rattle.clog_shares.proofs.NextLines.{GoesCounted}
use Rattle.clog_shares.proofs.share.commit_lines.Given as goal

-- The first of the lines are logged, with at most 66 barriers each, and the writes of the others
-- are left, with their counts.
abbrev pub invariant-loop-prepared : goal.invariant-loop-prepared
invariant-loop-prepared g l = let t = l.run.path.now.table in record {
  same : Stays t.table.shared.table_id t.size l.fn.seat.member l.seat.member;
  goes : (lines : List Line) → ArePrepared l.run.sizes lines l.fn.writes.items
      → GoesOn l.run.sizes l.fn.seat.member.number lines l.prepared-iterator.rest.items
      (logged_by l.seat.member);
  sealed : l.run.syncing.mode ≡ Batch → HasSealed l.seat;
  timed : (period : ℕ) → l.run.syncing.mode ≡ Periodic period
      → AreTimed (g.C.Clock.tells l.run.clock.now) l.run.syncing.mode l.run.syncing.since_ms
      (writes_of (view_of l.seat.member).trail) (view_of l.seat.member).trail l.last_ms;
  counted : GoesCounted l.run.sizes l.fn.seat.member.number l.run.flush_at
      l.prepared-iterator.rest.items l.counts.rest.items l.tally (view_of l.seat.member).trail;
  issued : issued_in (view_of l.seat.member).trail + 66 * length l.prepared-iterator.rest.items
      ≤ 66 * length l.fn.writes.items;
  left : l.counts.rest.len ≡ length l.counts.rest.items;
  count : l.prepared-iterator.rest.len ≡ length l.prepared-iterator.rest.items;
}
