use Rattle.std.proofs.Common.{◌≡◌, List, [], length, sym, ap, ◌∙◌, subst, arith}
use Rattle.std.specs.List.{All}
use Rattle.std.proofs.lemmas.List.{length_push}
use Rattle.std.proofs.lemmas.List.Elements.{All-nil, All-push}
use Rattle.clog_shares.specs.declared.worker.Worker.{Worker}
use Rattle.clog_shares.proofs.Dealt.{none_dealt}
use Rattle.clog_shares.proofs.dealing.idle_crew.Goals as goal

pub loop-init : goal.loop-init
loop-init g c =
    let P : Worker g.row.K.Denot → Type 0 =
    λ w. (w.writes.items ≡ []) × (w.counts.items ≡ []) in
    let none = c.new-workers.ensures.items in record {
      count = ap length none;
      idle = subst (λ (l : List (Worker g.row.K.Denot)). All P l) (sym none) (All-nil P);
    }

pub loop-preserved : goal.loop-preserved
loop-preserved g c =
    let P : Worker g.row.K.Denot → Type 0 =
    λ w. (w.writes.items ≡ []) × (w.counts.items ≡ []) in
    let I = c.loop.invariant in
    let pushed = c.in_ok-push.ensures.items in
    let count = I.count in
    let long = ap length pushed ∙ length_push c.loop.workers.items c.in_ok-worker.worker in record {
      count = omega (arith, long, count);
      idle = subst (λ (l : List (Worker g.row.K.Denot)). All P l) (sym pushed)
          (All-push P c.loop.workers.items c.in_ok-worker.worker I.idle c.in_ok-worker.ensures);
    }

pub returns : goal.returns
returns g c =
    let I = c.loop.invariant in
    let count = I.count in
    let end = c.loop.auto.counter-end in
    let all = c.loop-test.false in
    none_dealt c.args.sizes c.loop.workers.items (omega (arith, count, end, all)) I.idle
