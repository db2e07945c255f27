use Rattle.std.proofs.Common.{◌≡◌, ◌++◌, ◌∷◌, List, ℕ, [], length, refl, sym, ap, subst, ◌∙◌, arith}
use Rattle.clog_folder.proofs.Passing.{both, no_call, one_call}
use Rattle.clog_folder.proofs.WholeFiles.{read_before}
use Rattle.replay_merge.specs.declared.piped.Batch.{Batch}
use Rattle.replay_merge.specs.Entries.{all_items}
use Rattle.replay_merge.specs.Streaming.{FeedsBytes}
use Rattle.replay_merge.proofs.Streamed.{ends_so, starts_so, batch_streams}
use Rattle.replay_merge.proofs.streaming.stream_file.Goals as goal

pub loop-fed-init : goal.loop-fed-init
loop-fed-init g c =
    let s = c.new-scanner.ensures in
    record {
      keeps = no_call g.D.Disk.files g.D.Disk.changes g.D.Disk.leaves g.D.Disk.moment
          g.D.Disk.since g.D.Disk.read_at g.D.Disk.lasted_at g.D.Disk.faults c.args.disk.now;
      quiet = refl;
      fed = sym s.fed;
      id = s.same_id;
      len = s.same_len;
      most = omega arith;
      can_put = c.requires.sink;
      given = (
        [],
        g.met.P.Sink.put_none c.args.to.now,
        starts_so (g.D.Disk.files c.args.disk.now) c.args.name.now c.args.len
            c.new-scanner.result c.requires.length s.fed s.none,
      );
    }

pub loop-fed-preserved : goal.loop-fed-preserved
loop-fed-preserved g c =
    let files = g.D.Disk.files c.args.disk.now in
    let l = c.loop-fed in
    let given = c.in-Ok-feed_bytes.ensures in
    let piece = c.in-Ok.piece in
    let slice : c.as_slice.result.now ≡ piece.items = c.as_slice.ensures.value in
    let size : c.len.result ≡ length piece.items = omega (arith, c.len.ensures, piece.ok) in
    let long = ap length slice in
    let few = c.in-Ok.ensures.few in
    let least = c.min.ensures in
    let at : c.from.result ≡ l.scanner.fed = c.from.ensures ∙ l.invariant.fed in
    let feeds = subst (λ (b : List ℕ). FeedsBytes l.scanner c.feed_bytes.new.scanner b
    c.in-Ok-feed_bytes.wholes.items) slice given in
    let batch : Batch = record { id = c.args.id; wholes = c.in-Ok-feed_bytes.wholes } in
    record {
      keeps = both g.D.Disk.files g.D.Disk.changes g.D.Disk.leaves g.D.Disk.moment
          g.D.Disk.since g.D.Disk.read_at g.D.Disk.lasted_at g.D.Disk.faults c.args.disk.now l.disk
          c.read.new.self l.invariant.keeps
          (one_call g.D.Disk.files g.D.Disk.changes g.D.Disk.leaves g.D.Disk.moment
          g.D.Disk.since g.D.Disk.read_at g.D.Disk.lasted_at g.D.Disk.faults l.disk c.read.new.self
          c.in-Ok.ensures.same c.in-Ok.ensures.quiet
          c.in-Ok.ensures.time c.in-Ok.ensures.cause.later);
      quiet = c.in-Ok.ensures.cause.quiet (λ e. cc) ∙ l.invariant.quiet;
      fed = omega (arith, l.invariant.fed, size, feeds.feeds.fed);
      id = feeds.feeds.same_id ∙ l.invariant.id;
      len = feeds.feeds.same_len ∙ l.invariant.len;
      most = omega (arith, l.invariant.most, size, few, least, c.loop-fed-test.true);
      can_put = c.push.ensures.0;
      given = (
        l.invariant.given.0 ++ batch ∷ [],
        g.met.P.Sink.put_more c.args.to.now l.to c.push.new.self l.invariant.given.0 (batch ∷ [])
            l.invariant.given.1 c.push.ensures.1,
        batch_streams files c.args.name.now c.args.len l.scanner c.feed_bytes.new.scanner
            l.invariant.given.0 batch c.from.result c.min.result piece.items l.invariant.given.2 (sym l.invariant.id) at
            (read_before files (g.D.Disk.files l.disk) c.args.name.now c.from.result c.from.result
            c.min.result piece.items l.invariant.keeps.same.files refl c.in-Ok.ensures.bytes)
            feeds.bytes feeds.feeds,
      );
    }

pub returns-clause-streams : goal.returns-clause-streams
returns-clause-streams g c =
    let l = c.loop-fed in
    let stop = c.loop-fed-test.false in (
      l.invariant.given.0,
      l.invariant.can_put,
      l.invariant.given.1,
      ends_so (g.D.Disk.files c.args.disk.now) c.args.name.now c.args.len c.args.id l.scanner
          (all_items l.invariant.given.0) c.end_of-2.result l.invariant.given.2 c.requires.short
          (omega (arith, l.invariant.fed, l.invariant.most, stop)) l.invariant.len l.invariant.id
          c.end_of-2.ensures c.told_at_the_end.ensures.told c.told_at_the_end.ensures.all,
    )
