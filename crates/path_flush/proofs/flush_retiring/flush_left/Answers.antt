use Rattle.std.proofs.Common.{◌≢◌, ℕ, ◌<◌, ◌≤◌, [], inr, refl, sym, ap, ◌∙◌, subst, arith}
use Rattle.path_core.specs.declared.event.Event.TheVariants.{Look}
use Rattle.path_core.specs.declared.event.Place.TheVariants.{TurnWord}
use Rattle.path_core.specs.declared.event.Turn.TheVariants.{Sync}
use Rattle.path_core.specs.Parts.{seat_table}
use Rattle.path_rule.specs.declared.view.View.{View}
use Rattle.path_rule.specs.Issued.{issued_in, most_issued}
use Rattle.path_rule.proofs.seats.RoundsGo.{one}
use Rattle.path_flush.proofs.FilingGoes.{of_quiet, retired_before, retired_behind}
use Rattle.path_flush.proofs.FlushTaking.{holds_still, of_table, oldest_below}
use Rattle.path_flush.proofs.SwitchGoes.{newest_same, oldest_same, quiet_round, stage_same}
use Rattle.path_flush.proofs.flush_retiring.flush_left.Goals as goal

below : (m n : ℕ) → m ≤ n → m ≢ n → m < n
below m n low other = omega (arith, low, other)

pub retire_memtable-member-requires-clause-table : goal.retire_memtable-member-requires-clause-table
retire_memtable-member-requires-clause-table g c = let L = c.look_turn-turn.ensures in
    (L.same.0 ∙ c.requires.table.0, ap (λ (u : View). u.size) L.step.view ∙ c.requires.table.1)

pub retire_memtable-member-requires-clause-holds : goal.retire_memtable-member-requires-clause-holds
retire_memtable-member-requires-clause-holds g c = let m = c.args.member in
    let L = c.look_turn-turn in let t = c.args.table.0 in
    holds_still m.seat.me L.new.member.seat.me m.number t L.result L.ensures.step
    L.ensures.same.2 (of_table t m.seat.me c.requires.holds)

pub retire_memtable-member-requires-clause-stage : goal.retire_memtable-member-requires-clause-stage
retire_memtable-member-requires-clause-stage g c = let t = c.args.table.0 in
    let m = c.args.memtable in let v = c.args.member.seat.me.0 in let L = c.look_turn-turn in
    let q = L.new.member.seat.me.0.part in
    let same = ap (λ (u : View). seat_table u.part t) L.ensures.step.view in
    let F = c.requires.left in
    let low = oldest_below v c.args.member.number _ t m F.1.0 L.ensures.step.was F.0 F.1.1 in
    let other = F.1.2 in inr (
      F.1.0,
      stage_same t v.part q same ∙ c.requires.settled,
      newest_same t F.1.0 v.part q same F.1.1,
      below m F.1.0 low other,
    )

pub retire_memtable-member-requires-clause-oldest :
    goal.retire_memtable-member-requires-clause-oldest
retire_memtable-member-requires-clause-oldest g c = let t = c.args.table.0 in
    let L = c.look_turn-turn in
    oldest_same t c.args.memtable c.args.member.seat.me.0.part L.new.member.seat.me.0.part
    (ap (λ (u : View). seat_table u.part t) L.ensures.step.view) c.requires.left.0

pub retire_memtable-member-requires-clause-unread :
    goal.retire_memtable-member-requires-clause-unread
retire_memtable-member-requires-clause-unread g c =
    ap (λ (u : View). u.hands.reading) c.look_turn-turn.ensures.step.view ∙ c.requires.holds.unread

pub retire_memtable-member-requires-clause-spends :
    goal.retire_memtable-member-requires-clause-spends
retire_memtable-member-requires-clause-spends g c =
    subst (λ (v : View). issued_in v.trail < most_issued)
    (sym c.look_turn-turn.ensures.step.view) c.requires.spends

pub returns-clause-same : goal.returns-clause-same
returns-clause-same g c = let L = c.look_turn-turn.ensures in
    let M = c.retire_memtable-member.ensures in let G = c.give_sync_beside.ensures in
    (G.same.0, G.same.1 ∙ (M.same.1 ∙ L.same.1))

pub returns-clause-holds : goal.returns-clause-holds
returns-clause-holds g c = let M = c.retire_memtable-member.ensures in
    let G = c.give_sync_beside.ensures in record {
      holder = G.holds.holder;
      unsynced = G.holds.unsynced;
      bare = G.holds.bare;
      unread = G.reading ∙ M.unread;
    }

pub returns-clause-settled : goal.returns-clause-settled
returns-clause-settled g c = let t = c.args.table.0 in let L = c.look_turn-turn in
    let M = c.retire_memtable-member in let G = c.give_sync_beside in
    stage_same t M.result.0.seat.me.0.part G.result.seat.me.0.part (G.ensures.tables t)
    ∙ (M.ensures.retired.steps.stage
    ∙ (stage_same t c.args.member.seat.me.0.part L.new.member.seat.me.0.part
    (ap (λ (u : View). seat_table u.part t) L.ensures.step.view) ∙ c.requires.settled))

pub returns-clause-passed : goal.returns-clause-passed
returns-clause-passed g c = let t = c.args.table.0 in let L = c.look_turn-turn in
    let M = c.retire_memtable-member in let G = c.give_sync_beside in let k = c.args.memtable in
    let w = c.args.member.number in let z = L.new.member.number in let y = M.result.0.number in
    let v = c.args.member.seat.me.0 in let u = L.new.member.seat.me.0 in
    let x = M.result.0.seat.me.0 in let after = G.result.seat.me.0 in record {
      told = M.result.1;
      is = c.unless_retired.ensures;
      retired = retired_before w y t k v x after M.result.1 (M.ensures.same.1 ∙ L.ensures.same.1)
          (retired_behind w z t k v u x M.result.1 L.ensures.same.1 (of_quiet w t v u
          (quiet_round w [] v u (one w (Look w (TurnWord Sync)) L.result v u refl L.ensures.step))
          (ap (λ (s : View). seat_table s.part t) L.ensures.step.view)) M.ensures.retired)
          (of_quiet y t x after G.ensures.steps (G.ensures.tables t));
    }
