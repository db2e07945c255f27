use Rattle.std.proofs.Common.{◌≡◌, ◌+◌, List, [], ◌∷◌, ◌++◌, length, sym, ap, subst, arith}
use Rattle.std.proofs.lemmas.List.{nil_from_length}
use Rattle.clog_shares.specs.declared.preparing.LineWrite.{LineWrite}
use Rattle.clog_shares.specs.Crews.{AreDealt}
use Rattle.clog_shares.specs.LineWrites.{HasWriteOf}
use Rattle.clog_shares.proofs.WrittenBack.{written_back}
use Rattle.clog_shares.proofs.Dealt.{all_out, begins_dealing, deals_one, refused_at}
use Rattle.clog_shares.proofs.LineWrites.{DealsWrites, deals_last, deals_next}
use Rattle.clog_shares.proofs.dealing.deal.Goals as goal

pub loop-line_write-init : goal.loop-line_write-init
loop-line_write-init g c =
    let sizes = c.args.sizes in let flush = c.args.flush_at in
    let all = c.args.mutations.items in
    let workers = c.in_ok-workers.workers.items in
    let gives = c.into_iter-line_write-iterator.ensures.into_iter_gives in record {
      goes = subst (λ (l : List LineWrite). DealsWrites sizes flush all l 0 workers)
          (sym gives.0) (record {
            rest = all;
            deals = begins_dealing sizes flush all workers (c.in_ok-workers.ensures flush);
            have = c.in_ok-line_writes.ensures;
          });
      count = let items = ap length gives.0 in
          omega (arith, items, gives.1, c.in_ok-line_writes.line_writes.ok);
    }

pub loop-line_write-preserved : goal.loop-line_write-preserved
loop-line_write-preserved g c =
    let l = c.loop-line_write in let I = l.invariant in
    let sizes = c.args.sizes in let flush = c.args.flush_at in
    let all = c.args.mutations.items in
    let steps = c.in-Some.ensures.steps in
    let next = deals_next sizes flush all c.in-Some.line_write l.line_write-iterator.rest.items
    c.next.new.self.rest.items l.line l.workers.items steps.0 I.goes in
    let m = next.next in
    let has = subst (HasWriteOf sizes flush (l.line + 1) m) c.in-Made.is next.has in record {
      goes = record {
        rest = next.rest;
        deals = deals_one sizes flush all next.rest m l.line l.workers.items _ next.deals
            has.0.fits
            (λ done dealt is.
            let more = c.in_ok-give-in-Made.ensures flush done m
            (subst (AreDealt sizes flush done) (sym c.as_mut_slice.ensures.value) dealt) is
            has.0 has.1 in
            let a = more.count in
            let b = dealt.count in
            subst (AreDealt sizes flush (done ++ m ∷ []))
            (sym (written_back l.workers.len c.give.new.workers _
            (omega (arith, a, b, l.workers.ok)))) more);
        have = next.have;
      };
      count = let short = ap length steps.0 in omega (arith, short, steps.1, I.count);
    }

pub returns-in-Refused : goal.returns-in-Refused
returns-in-Refused g c =
    let l = c.loop-line_write in let I = l.invariant in
    let sizes = c.args.sizes in let flush = c.args.flush_at in
    let all = c.args.mutations.items in
    let steps = c.in-Some.ensures.steps in
    let next = deals_next sizes flush all c.in-Some.line_write l.line_write-iterator.rest.items
    c.next.new.self.rest.items l.line l.workers.items steps.0 I.goes in
    refused_at sizes flush all next.rest next.next l.line l.workers.items c.in-Refused.fault
    next.deals (subst (HasWriteOf sizes flush (l.line + 1) next.next) c.in-Refused.is next.has)

pub unreachable-requires : goal.unreachable-requires
unreachable-requires g c =
    let l = c.loop-line_write in let I = l.invariant in
    let sizes = c.args.sizes in let flush = c.args.flush_at in
    let all = c.args.mutations.items in
    let steps = c.in-Some.ensures.steps in
    let next = deals_next sizes flush all c.in-Some.line_write l.line_write-iterator.rest.items
    c.next.new.self.rest.items l.line l.workers.items steps.0 I.goes in
    subst (HasWriteOf sizes flush (l.line + 1) next.next) c.in-Waiting.is next.has

pub returns : goal.returns
returns g c =
    let l = c.loop-line_write in let I = l.invariant in
    let rest = l.line_write-iterator.rest.items in
    let none_left : rest ≡ [] = nil_from_length rest
    (omega (arith, c.in-None.ensures.steps.0, I.count)) in
    let sizes = c.args.sizes in let flush = c.args.flush_at in
    let all = c.args.mutations.items in
    all_out sizes flush all l.line l.workers.items
    (deals_last sizes flush all l.line l.workers.items
    (subst (λ (r : List LineWrite). DealsWrites sizes flush all r l.line l.workers.items) none_left
    I.goes))
