use Rattle.std.proofs.Common.{[], refl, ap, ◌∙◌}
use Rattle.path_core.specs.declared.event.Event.TheVariants.{Look, TakeTurn}
use Rattle.path_core.specs.declared.event.Place.TheVariants.{TurnWord}
use Rattle.path_core.specs.declared.event.Turn.TheVariants.{Sync}
use Rattle.path_core.specs.Parts.{seat_table}
use Rattle.path_rule.specs.declared.view.View.{View}
use Rattle.path_rule.specs.Lasts.{shows_of}
use Rattle.path_rule.proofs.seats.RoundsGo.{next, one, one_as}
use Rattle.path_rule.proofs.seats.SyncTaken.{taken_gives, taken_knows, taken_unswept}
use Rattle.path_flush.proofs.FlushTaking.{holds_both, holds_still}
use Rattle.path_flush.proofs.flush_turn.try_sync_beside.Goals as goal

-- the turn was found taken

pub returns-then-look_turn-ne0-clause-same : goal.returns-then-look_turn-ne0-clause-same
returns-then-look_turn-ne0-clause-same g c = let L = c.look_turn.ensures in (
  (L.same.0 ∙ c.requires.table.0, ap (λ (u : View). u.size) L.step.view ∙ c.requires.table.1),
  L.same.1,
)

pub returns-then-look_turn-ne0-clause-steps : goal.returns-then-look_turn-ne0-clause-steps
returns-then-look_turn-ne0-clause-steps g c = let w = c.args.member.number in
    one w (Look w (TurnWord Sync)) c.look_turn.result _ _ refl c.look_turn.ensures.step

pub returns-then-look_turn-ne0-clause-holds : goal.returns-then-look_turn-ne0-clause-holds
returns-then-look_turn-ne0-clause-holds g c = let m = c.args.member in let L = c.look_turn in
    holds_still m.seat.me L.new.member.seat.me m.number c.args.table.0 L.result L.ensures.step
    L.ensures.same.2 c.requires.holds

pub returns-then-look_turn-ne0-clause-tables : goal.returns-then-look_turn-ne0-clause-tables
returns-then-look_turn-ne0-clause-tables g c =
    λ t. ap (λ (u : View). seat_table u.part t) c.look_turn.ensures.step.view

-- it was found free

pub take_sync-requires-clause-table : goal.take_sync-requires-clause-table
take_sync-requires-clause-table g c = let L = c.look_turn.ensures in
    (L.same.0 ∙ c.requires.table.0, ap (λ (u : View). u.size) L.step.view ∙ c.requires.table.1)

pub take_sync-requires-clause-idle : goal.take_sync-requires-clause-idle
take_sync-requires-clause-idle g c = let m = c.args.member in let L = c.look_turn in
    let H = holds_still m.seat.me L.new.member.seat.me m.number c.args.table.0 L.result
    L.ensures.step L.ensures.same.2 c.requires.holds in (H.holder.idle, H.unsynced)

pub returns-then-take_sync-eq0-clause-same : goal.returns-then-take_sync-eq0-clause-same
returns-then-take_sync-eq0-clause-same g c = let L = c.look_turn.ensures in
    let T = c.take_sync.ensures in let h = (T.hit c.if-take_sync-eq0.true).0 in (
      (
        T.same.0 ∙ (L.same.0 ∙ c.requires.table.0),
        ap (λ (u : View). u.size) h.3.view
            ∙ (ap (λ (u : View). u.size) L.step.view ∙ c.requires.table.1),
      ),
      T.same.1 ∙ L.same.1,
    )

pub returns-then-take_sync-eq0-clause-steps : goal.returns-then-take_sync-eq0-clause-steps
returns-then-take_sync-eq0-clause-steps g c = let w = c.args.member.number in
    let L = c.look_turn in let z = L.new.member.number in
    let h = (c.take_sync.ensures.hit c.if-take_sync-eq0.true).0 in
    next w z [] [] _ _ _ L.ensures.same.1
    (one w (Look w (TurnWord Sync)) L.result _ _ refl L.ensures.step)
    (one_as z (TakeTurn z Sync) 1 _ _ _ refl h.3 refl)

pub returns-then-take_sync-eq0-clause-holds : goal.returns-then-take_sync-eq0-clause-holds
returns-then-take_sync-eq0-clause-holds g c = let m = c.args.member in let L = c.look_turn in
    let T = c.take_sync in let hit = T.ensures.hit c.if-take_sync-eq0.true in let h = hit.0 in
    let u = L.new.member in let t = c.args.table.0 in
    holds_both (shows_of g.K.Keeper.holds) u.seat.me T.new.member.seat.me u.number t _ h.3
    (holds_still m.seat.me u.seat.me m.number t L.result L.ensures.step L.ensures.same.2
    c.requires.holds) (taken_gives u.seat.me.0 _ u.number h.0 h.1 h.2 h.3 T.ensures.empty) hit.1

pub returns-then-take_sync-eq0-clause-tables : goal.returns-then-take_sync-eq0-clause-tables
returns-then-take_sync-eq0-clause-tables g c =
    let h = (c.take_sync.ensures.hit c.if-take_sync-eq0.true).0 in
    λ t. ap (λ (u : View). seat_table u.part t) h.3.view
    ∙ ap (λ (u : View). seat_table u.part t) c.look_turn.ensures.step.view

pub returns-then-take_sync-eq0-clause-knows : goal.returns-then-take_sync-eq0-clause-knows
returns-then-take_sync-eq0-clause-knows g c =
    let h = (c.take_sync.ensures.hit c.if-take_sync-eq0.true).0 in
    let v = c.look_turn.new.member.seat.me.0 in let z = c.look_turn.new.member.number in (
      taken_knows v _ z h.0 h.1 h.2 h.3,
      taken_unswept v _ z h.0 h.1 h.2 h.3,
      ap (λ (u : View). u.hands.lasting.at_open) h.3.view ∙ h.4,
    )

-- another seat took it meanwhile

pub returns-else-take_sync-eq0-clause-same : goal.returns-else-take_sync-eq0-clause-same
returns-else-take_sync-eq0-clause-same g c = let L = c.look_turn.ensures in
    let T = c.take_sync.ensures in let D = T.miss c.if-take_sync-eq0.false in (
      (
        T.same.0 ∙ (L.same.0 ∙ c.requires.table.0),
        ap (λ (u : View). u.size) D.0.view
            ∙ (ap (λ (u : View). u.size) L.step.view ∙ c.requires.table.1),
      ),
      T.same.1 ∙ L.same.1,
    )

pub returns-else-take_sync-eq0-clause-steps : goal.returns-else-take_sync-eq0-clause-steps
returns-else-take_sync-eq0-clause-steps g c = let w = c.args.member.number in
    let L = c.look_turn in let z = L.new.member.number in let T = c.take_sync in
    let D = T.ensures.miss c.if-take_sync-eq0.false in
    next w z [] [] _ _ _ L.ensures.same.1
    (one w (Look w (TurnWord Sync)) L.result _ _ refl L.ensures.step)
    (one z (Look z (TurnWord Sync)) T.result _ _ refl D.0)

pub returns-else-take_sync-eq0-clause-holds : goal.returns-else-take_sync-eq0-clause-holds
returns-else-take_sync-eq0-clause-holds g c = let m = c.args.member in let L = c.look_turn in
    let T = c.take_sync in let D = T.ensures.miss c.if-take_sync-eq0.false in
    let u = L.new.member in let t = c.args.table.0 in
    holds_still u.seat.me T.new.member.seat.me u.number t T.result D.0 D.1
    (holds_still m.seat.me u.seat.me m.number t L.result L.ensures.step L.ensures.same.2
    c.requires.holds)

pub returns-else-take_sync-eq0-clause-tables : goal.returns-else-take_sync-eq0-clause-tables
returns-else-take_sync-eq0-clause-tables g c =
    let D = c.take_sync.ensures.miss c.if-take_sync-eq0.false in
    λ t. ap (λ (u : View). seat_table u.part t) D.0.view
    ∙ ap (λ (u : View). seat_table u.part t) c.look_turn.ensures.step.view
