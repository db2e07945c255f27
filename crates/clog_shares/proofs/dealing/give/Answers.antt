use Rattle.std.proofs.Common.{◌%◌, ap, arith}
use Rattle.clog_shares.proofs.Dealt.{one_dealt}
use Rattle.clog_shares.proofs.dealing.give.Goals as goal

pub returns : goal.returns
returns g c = λ flush lines m dealt is prepared counted.
    let at = c.args.line % c.from.result in
    let same = c.from.ensures in
    let some = c.args.sizes.within.some_writer in
    let count = dealt.count in
    let added = c.in_ok-add.ensures in
    one_dealt c.args.sizes flush lines m c.args.line at c.args.workers.now c.args.write
    c.args.counts c.add.new.worker c.index-workers-number.result dealt is (omega arith) prepared
    counted
    (ap (λ (k : _). c.args.line % k) same) (omega (arith, same, some, count)) added.0 added.1
