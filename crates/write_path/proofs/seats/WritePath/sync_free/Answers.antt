use Rattle.std.proofs.Common.{[], refl, ap, ◌∙◌, arith}
use Rattle.atomic_table.specs.Table.{rest}
use Rattle.path_core.specs.declared.event.Event.TheVariants.{Look, TakeTurn}
use Rattle.path_core.specs.declared.event.Place.TheVariants.{TurnWord}
use Rattle.path_core.specs.declared.event.Turn.TheVariants.{Sync}
use Rattle.path_rule.specs.declared.view.View.{View}
use Rattle.path_rule.specs.Issued.{issued_in}
use Rattle.path_rule.proofs.seats.Answering.{may_rest, may_size}
use Rattle.path_rule.proofs.seats.RoundsGo.{one, one_as}
use Rattle.path_rule.proofs.seats.SyncTaken.{taken_gives, taken_knows, taken_unswept}
use Rattle.write_path.proofs.Paying.{may_pay}
use Rattle.write_path.proofs.SyncLists.{tried}
use Rattle.write_path.proofs.seats.WritePath.sync_free.Goals as goal

pub returns-then-take_sync-ne0-clause-answer : goal.returns-then-take_sync-ne0-clause-answer
returns-then-take_sync-ne0-clause-answer g c = let w = c.args.seat.member.number in
    one w (Look w (TurnWord Sync)) c.take_sync.result _ _ refl
    (c.take_sync.ensures.miss c.if-take_sync-ne0.true).0

pub sync_round-member-requires-clause-turn : goal.sync_round-member-requires-clause-turn
sync_round-member-requires-clause-turn g c =
    let h = (c.take_sync.ensures.hit c.if-take_sync-ne0.false).0 in
    let v = c.args.seat.member.seat.me.0 in let w = c.args.seat.member.number in (
      taken_gives v _ w h.0 h.1 h.2 h.3 c.take_sync.ensures.empty,
      taken_knows v _ w h.0 h.1 h.2 h.3,
      taken_unswept v _ w h.0 h.1 h.2 h.3,
    )

pub invariant_of-result-2 : goal.invariant_of-result-2
invariant_of-result-2 g c =
    let h = (c.take_sync.ensures.hit c.if-take_sync-ne0.false).0 in
    let T = c.take_sync.ensures in let S = c.sync_round-member in let G = c.give_sync.ensures in
    let seat = c.args.seat in let opened = c.args.self.now.table.size.at_open in
    let R = may_rest 1 seat.member.number opened S.result.1 seat.member.seat.me.0 _
    (tried seat.member.number _ _ opened _ _ S.result.1 _ _ _ _ h.3 refl T.same.1 S.ensures.answer
    (S.ensures.same.1 ∙ T.same.1) G.step refl) (record {
      idle = seat.idle;
      unclaimed = seat.unclaimed;
      flush = seat.free.flush;
    }) in record {
      idle = R.idle;
      unclaimed = R.unclaimed;
      free = record {
        sync = ap (λ (u : View). u.part.sync) G.step.view;
        flush = R.flush;
      };
      bare = G.same.2 ∙ ap (λ l. rest l) S.ensures.desk.1;
      paid = may_pay 1 seat.member.number opened S.result.1 seat.member.seat.me.0 _
          (tried seat.member.number _ _ opened _ _ S.result.1 _ _ _ _ h.3 refl T.same.1
          S.ensures.answer (S.ensures.same.1 ∙ T.same.1) G.step refl) seat.paid;
    }

pub returns-clause-same : goal.returns-clause-same
returns-clause-same g c =
    let h = (c.take_sync.ensures.hit c.if-take_sync-ne0.false).0 in
    let T = c.take_sync.ensures in let S = c.sync_round-member in let G = c.give_sync.ensures in
    let seat = c.args.seat in let opened = c.args.self.now.table.size.at_open in (
      (
        G.same.0 ∙ (S.ensures.same.0 ∙ (T.same.0 ∙ c.requires.table.0)),
        may_size 1 seat.member.number opened S.result.1 seat.member.seat.me.0 _
            (tried seat.member.number _ _ opened _ _ S.result.1 _ _ _ _ h.3 refl T.same.1
            S.ensures.answer (S.ensures.same.1 ∙ T.same.1) G.step refl) ∙ c.requires.table.1,
      ),
      G.same.1 ∙ (S.ensures.same.1 ∙ T.same.1),
    )

pub returns-clause-answer : goal.returns-clause-answer
returns-clause-answer g c =
    let h = (c.take_sync.ensures.hit c.if-take_sync-ne0.false).0 in
    let T = c.take_sync.ensures in let S = c.sync_round-member in
    tried c.args.seat.member.number _ _ c.args.self.now.table.size.at_open _ _ S.result.1 _ _ _ _
    h.3 refl T.same.1 S.ensures.answer (S.ensures.same.1 ∙ T.same.1) c.give_sync.ensures.step refl

pub give_sync-requires-clause-table : goal.give_sync-requires-clause-table
give_sync-requires-clause-table g c =
    let h = (c.take_sync.ensures.hit c.if-take_sync-ne0.false).0 in
    let T = c.take_sync.ensures in let S = c.sync_round-member in
    let opened = c.args.self.now.table.size.at_open in (
      S.ensures.same.0 ∙ (T.same.0 ∙ c.requires.table.0),
      may_size 1 _ opened S.result.1 _ _ S.ensures.answer
          ∙ (ap (λ (v : View). v.size) h.3.view ∙ c.requires.table.1),
    )

pub sync_round-member-requires-clause-spends : goal.sync_round-member-requires-clause-spends
sync_round-member-requires-clause-spends g c =
    let h = (c.take_sync.ensures.hit c.if-take_sync-ne0.false).0 in
    let same = ap (λ (v : View). issued_in v.trail) h.3.view in let low = c.requires.spends in
    omega (arith, same, low)
