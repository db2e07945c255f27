use Rattle.std.proofs.Common.{Some, refl, sym, ap, ◌∙◌, subst, arith}
use Rattle.std.specs.Option.{option_map}
use Rattle.path_core.specs.declared.seat.Issue.TheVariants.{Rest}
use Rattle.path_core.specs.declared.seat.SyncTurn.{SyncTurn}
use Rattle.path_core.specs.Next.{has_filed}
use Rattle.path_rule.specs.declared.view.PathSize.{PathSize}
use Rattle.path_rule.specs.declared.view.View.{View}
use Rattle.path_rule.specs.Calls.{Holds, IsSyncedTo}
use Rattle.path_rule.specs.FilingTold.{noted}
use Rattle.path_rule.specs.Lasts.{beside_of, shows_of}
use Rattle.path_rule.proofs.moves.NotedSteps.{halts_filing}
use Rattle.path_rule.proofs.seats.MayGives.{carries_on, filed_as, hands_as, holds_still}
use Rattle.path_rule.specs.Issued.{issued_in}
use Rattle.path_table.specs.LastEnds.{last_end_in}
use Rattle.path_table.proofs.table.PathTable.stop_filing.Goals as goal

pub store-requires : goal.store-requires
store-requires g c = let t = c.args.self.now in let m = c.args.member.now in
    let k = t.table.shared.key.size in
    let o = beside_of (g.K.Keeper.holds t.table.shared.key.first.value) in let wide = t.wide in
    let d = c.requires.desk in let T = c.requires.turn in (
      c.requires.table.0,
      omega arith,
      halts_filing (shows_of g.K.Keeper.holds) o k t.table.shared.table_id.slots
          m.seat.id m.seat.me m.number m.role T.0.0 T.0.1 T.0.2 T.1
          (ap (λ (z : PathSize). z.files) t.keyed ∙ c.requires.files) d.0 d.1 d.2 d.3 c.args.value
          c.requires.value d.4,
    )

pub invariant_of-member : goal.invariant_of-member
invariant_of-member g c = let m = c.args.member.now in
    let d = c.store.ensures.2 m.number m.role in
    record {
      role = ap (λ (v : View). v.role) d.0.4.0 ∙ m.role;
      counted = m.counted ∙ sym (ap (λ (v : View). issued_in v.trail) d.0.4.0);
      ended = m.ended ∙ sym (ap (λ (v : View). last_end_in v.trail) d.0.4.0);
    }

pub returns-clause-same : goal.returns-clause-same
returns-clause-same g c = let m = c.args.member.now in
    let d = c.store.ensures.2 m.number m.role in (c.store.ensures.0, refl, d.1)

pub returns-clause-step : goal.returns-clause-step
returns-clause-step g c = let m = c.args.member.now in
    let d = c.store.ensures.2 m.number m.role in
    (d.0.0, d.0.1, d.0.2, d.0.3, record { view = d.0.4.0; was = d.0.4.1 })

pub returns-clause-give : goal.returns-clause-give
returns-clause-give g c = let m = c.args.member.now in
    let d = c.store.ensures.2 m.number m.role in
    λ may. subst (Holds Rest) (sym d.0.4.0) (holds_still (λ (t : SyncTurn).
    record t { stopped = Some c.args.value }) (λ t. refl) m.seat.me.0 _ refl refl may)

pub returns-clause-desk : goal.returns-clause-desk
returns-clause-desk g c = let m = c.args.member.now in
    let d = c.store.ensures.2 m.number m.role in
    carries_on (shows_of g.K.Keeper.holds) m.seat.me c.store.new.seat.me
    (noted d.0.0 d.0.1 d.0.2 (Some c.args.value) m.seat.me.0.hands.lasting)
    m.seat.me.0.hands.pending m.seat.me.0.hands.progress
    m.seat.me.0.hands (ap (λ (v : View). v.hands) d.0.4.0) d.1 d.0.5

pub returns-clause-shown : goal.returns-clause-shown
returns-clause-shown g c = let m = c.args.member.now in let h = m.seat.me.0.hands in
    let d = c.store.ensures.2 m.number m.role in
    λ lasting pending C. ap (λ (v : View). v.hands) d.0.4.0
    ∙ hands_as (shows_of g.K.Keeper.holds) m.seat.me
    (noted d.0.0 d.0.1 d.0.2 (Some c.args.value) h.lasting) lasting h.pending pending h d.0.5 C

pub returns-clause-synced : goal.returns-clause-synced
returns-clause-synced g c = let m = c.args.member.now in
    let d = c.store.ensures.2 m.number m.role in
    λ upto S. subst (λ (v : View). IsSyncedTo v upto) (sym d.0.4.0) (
      record S.0 { stopped = Some c.args.value },
      S.1,
      ap (option_map (λ (t : SyncTurn). record t { stopped = Some c.args.value })) S.2,
      S.3,
      S.4,
    )

pub returns-clause-filed : goal.returns-clause-filed
returns-clause-filed g c = let m = c.args.member.now in
    let d = c.store.ensures.2 m.number m.role in
    ap (λ (v : View). has_filed v.part) d.0.4.0
    ∙ filed_as (λ (t : SyncTurn). record t { stopped = Some c.args.value }) (λ t. refl)
    m.seat.me.0.part.sync
