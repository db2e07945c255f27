use Rattle.std.proofs.Common.{◌≡◌, ◌+◌, List, [], ◌∷◌, ◌++◌, inl, inr, length, None, if◌then◌else◌}
use Rattle.std.proofs.Common.{sym, ap, subst, arith}
use Rattle.std.specs.Prelude.{Contains}
use Rattle.std.proofs.lemmas.List.{nil_from_length}
use Rattle.std.proofs.lemmas.List.Elements.{Contains-append_cases}
use Rattle.std.specs.Vec.{vec_len}
use Rattle.clog_base.proofs.Members.{first_or_further, further, here, nothing_there, only_one}
use Rattle.clog_applied.specs.History.{share_of}
use Rattle.path_table.specs.declared.trying.PathSeat.{PathSeat}
use Rattle.clog_shares.specs.declared.worker.Worker.{Worker}
use Rattle.clog_shares.specs.Sealing.{HasWaited}
use Rattle.clog_shares.specs.Shares.{LacksMemoryAtMost}
use Rattle.clog_shares.proofs.Gathering.{Gathers, all_gathered, next_logged, none_gathered}
use Rattle.clog_shares.proofs.Gathering.{one_gathered}
use Rattle.clog_shares.proofs.returning.end_all.Goals as goal

pub loop-worker-init : goal.loop-worker-init
loop-worker-init g c =
    let t = c.args.path.now.table in
    let gives = c.into_iter-worker-iterator.ensures.into_iter_gives in
    let items = ap length gives.0 in record {
      goes = λ flush mutations logged.
          subst (λ (l : List (Worker g.row.K.Denot)).
          Gathers t.table.shared.table_id t.size flush mutations l c.args.seats.now.items None)
          (sym gives.0)
          (subst (λ (l : List (PathSeat g.row.K.Denot)). Gathers t.table.shared.table_id t.size
          flush mutations c.args.workers.items l None) (sym c.requires.none)
          (none_gathered t.table.shared.table_id t.size flush mutations c.args.workers.items
          logged));
      waited = λ all. (
        λ w h. all w (subst (λ (l : List (Worker g.row.K.Denot)). Contains l w) gives.0 h),
        λ s h. absurd (nothing_there s
            (subst (λ (l : List (PathSeat g.row.K.Denot)). Contains l s) c.requires.none h)),
      );
      cause = λ w h. inl
          (subst (λ (l : List (Worker g.row.K.Denot)). Contains l w) (sym gives.0) h);
      room = let none = ap length c.requires.none in
          omega (arith, items, none, c.args.seats.now.ok, c.requires.room);
      count = omega (arith, items, gives.1, c.args.workers.ok);
    }

pub end_share-seat-requires : goal.end_share-seat-requires
end_share-seat-requires g c =
    let t = c.args.path.now.table in
    let l = c.loop-worker in
    let logged = c.requires.logged in
    let rest = c.next.new.self.rest.items in (
      logged.0,
      length l.seats.items,
      share_of t.size.seats (length l.seats.items) logged.1,
      next_logged t.table.shared.table_id t.size logged.0 logged.1 c.in-Some.worker rest
          l.seats.items l.first
          (subst (λ (ws : List (Worker g.row.K.Denot)). Gathers t.table.shared.table_id t.size
          logged.0 logged.1 ws l.seats.items l.first) c.in-Some.ensures.steps.0
          (l.invariant.goes logged.0 logged.1 logged.2)),
    )

pub loop-worker-preserved : goal.loop-worker-preserved
loop-worker-preserved g c =
    let t = c.args.path.now.table in
    let id = t.table.shared.table_id in
    let l = c.loop-worker in let I = l.invariant in
    let w = c.in-Some.worker in
    let rest = c.next.new.self.rest.items in
    let s = c.end_share-seat.result.0 in
    let now = c.first_of-first.result in
    let p = c.push.ensures in
    let ok = c.if-is_err.ensures.negation in
    let steps = c.in-Some.ensures.steps in
    let xs = l.seats.items in
    let pushed : c.push.new.self.items ≡ xs ++ s ∷ [] =
    subst (λ b. c.push.new.self.items ≡ (if b then xs ++ s ∷ [] else xs)) ok p.items in
    let short = ap length steps.0 in record {
      goes = λ flush ms logged.
          let before = subst (λ (ws : List (Worker g.row.K.Denot)). Gathers id t.size flush ms ws xs
          l.first) steps.0 (I.goes flush ms logged) in
          let its = next_logged id t.size flush ms w rest xs l.first before in
          let lines = share_of t.size.seats (length xs) ms in
          let why = c.end_share-seat.ensures.why flush (length xs) lines its in
          subst (λ (ss : List (PathSeat g.row.K.Denot)). Gathers id t.size flush ms rest ss now)
          (sym pushed)
          (one_gathered id t.size flush ms w rest xs l.first c.end_share-seat.result.1 now s before
          (c.end_share-seat.ensures.ends flush (length xs) lines its) why
          c.first_of-first.ensures.none c.first_of-first.ensures.one);
      waited = λ all.
          let before = I.waited all in (
            λ x h. before.0 x (subst (λ (ws : List (Worker g.row.K.Denot)). Contains ws x)
                (sym steps.0) (further w rest x h)),
            λ x h. elim (Contains-append_cases xs (s ∷ []) x
                (subst (λ (ss : List (PathSeat g.row.K.Denot)). Contains ss x) pushed h)) [
                  | inl old ↦ before.1 x old
                  | inr new ↦ subst (λ (y : PathSeat g.row.K.Denot). HasWaited y)
                      (only_one s x new)
                      (c.end_share-seat.ensures.waited
                      (before.0 w (subst (λ (ws : List (Worker g.row.K.Denot)). Contains ws w)
                      (sym steps.0) (here w rest))))
                ],
          );
      cause = λ x h.
          let memory = c.first_of-first.ensures.memory in
          elim (I.cause x h) [
            | inl left ↦ elim (first_or_further w rest x
                (subst (λ (ws : List (Worker g.row.K.Denot)). Contains ws x) steps.0 left)) [
                  | inl same ↦ inr (λ none. subst (λ (y : Worker g.row.K.Denot).
                      LacksMemoryAtMost y.fault) same
                      (c.end_share-seat.ensures.cause (memory none).1))
                  | inr more ↦ inl more
                ]
            | inr told ↦ inr (λ none. told (memory none).0)
          ];
      room =
          let len = subst (λ b. vec_len c.push.new.self
          ≡ (if b then vec_len l.seats + 1 else vec_len l.seats)) ok p.len in
          omega (arith, len, short, p.capacity, I.room);
      count = omega (arith, short, steps.1, I.count);
    }

pub returns-clause-waited : goal.returns-clause-waited
returns-clause-waited g c = λ all. (c.loop-worker.invariant.waited all).1

pub returns-clause-cause : goal.returns-clause-cause
returns-clause-cause g c = λ memory w h.
    let l = c.loop-worker in let I = l.invariant in
    let rest = l.worker-iterator.rest.items in
    let none_left : rest ≡ [] = nil_from_length rest
    (omega (arith, c.in-None.ensures.steps.0, I.count)) in
    elim (I.cause w h) [
      | inl left ↦ absurd (nothing_there w
          (subst (λ (ws : List (Worker g.row.K.Denot)). Contains ws w) none_left left))
      | inr told ↦ told memory
    ]

pub returns-clause-ended : goal.returns-clause-ended
returns-clause-ended g c = λ flush ms logged.
    let t = c.args.path.now.table in
    let l = c.loop-worker in let I = l.invariant in
    let rest = l.worker-iterator.rest.items in
    let none_left : rest ≡ [] = nil_from_length rest
    (omega (arith, c.in-None.ensures.steps.0, I.count)) in
    all_gathered t.table.shared.table_id t.size flush ms l.seats.items l.first
    (subst (λ (ws : List (Worker g.row.K.Denot)). Gathers t.table.shared.table_id t.size flush ms ws
    l.seats.items l.first) none_left (I.goes flush ms logged))
