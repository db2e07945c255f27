use Rattle.std.proofs.Common.{refl, ap, ◌∙◌}
use Rattle.path_core.specs.declared.event.Event.TheVariants.{GiveTurn}
use Rattle.path_core.specs.declared.event.Turn.TheVariants.{Sync}
use Rattle.path_core.specs.Parts.{seat_table}
use Rattle.path_rule.specs.declared.view.View.{View}
use Rattle.path_flush.proofs.FilingGoes.{holder_same, quiet_one}
use Rattle.path_flush.proofs.flush_ending.give_sync_beside.Goals as goal

pub give_sync-requires-clause-rest : goal.give_sync-requires-clause-rest
give_sync-requires-clause-rest g c = let H = c.requires.holds.turns.holds in
    (H.held, H.issue, H.empty)

pub returns-clause-same : goal.returns-clause-same
returns-clause-same g c = let G = c.give_sync.ensures in (
  (G.same.0 ∙ c.requires.table.0, ap (λ (u : View). u.size) G.step.view ∙ c.requires.table.1),
  G.same.1,
)

pub returns-clause-steps : goal.returns-clause-steps
returns-clause-steps g c = let w = c.args.member.number in
    quiet_one w (GiveTurn w Sync) 0 _ _ _ refl tt tt c.give_sync.ensures.step

pub returns-clause-holds : goal.returns-clause-holds
returns-clause-holds g c = let G = c.give_sync.ensures in let d = G.step in
    let H = c.requires.holds.turns in record {
      holder = holder_same c.args.table.0 c.args.member.seat.me.0
          c.give_sync.new.member.seat.me.0 (ap (λ (u : View). u.size) d.view)
          (λ t. ap (λ (u : View). (seat_table u.part t).flush) d.view)
          (ap (λ (u : View). u.part.write) d.view) (ap (λ (u : View). u.part.append) d.view)
          (ap (λ (u : View). u.part.claim) d.view) H.holder;
      unsynced = ap (λ (u : View). u.part.sync) d.view;
      bare = G.same.2 ∙ H.alone;
    }

pub returns-clause-tables : goal.returns-clause-tables
returns-clause-tables g c =
    λ t. ap (λ (u : View). seat_table u.part t) c.give_sync.ensures.step.view

pub returns-clause-reading : goal.returns-clause-reading
returns-clause-reading g c = ap (λ (u : View). u.hands.reading) c.give_sync.ensures.step.view
