use Rattle.std.proofs.Common.{ℕ, Some, refl, sym, ap, ◌∙◌, subst, arith}
use Rattle.std.specs.Option.{option_map}
use Rattle.path_core.specs.declared.seat.Issue.TheVariants.{Rest}
use Rattle.path_core.specs.declared.seat.SyncTurn.{SyncTurn}
use Rattle.path_core.specs.Next.{has_filed}
use Rattle.path_rule.specs.declared.view.PathSize.{PathSize}
use Rattle.path_rule.specs.declared.view.View.{View}
use Rattle.path_rule.specs.Calls.{Holds}
use Rattle.path_rule.specs.FilingTold.{TurnSynced, noted}
use Rattle.path_rule.specs.Lasts.{beside_of, shows_of}
use Rattle.path_rule.specs.Turns.{FoundRunning}
use Rattle.path_rule.proofs.moves.NotedSteps.{notes_filing}
use Rattle.path_rule.proofs.seats.MayGives.{carries_on, filed_as, hands_as, holds_still}
use Rattle.path_rule.specs.Issued.{issued_in}
use Rattle.path_table.specs.LastEnds.{last_end_in}
use Rattle.path_table.proofs.table.PathTable.note_filing.Goals as goal

pub load-requires : goal.load-requires
load-requires g c = let t = c.args.self.now in let m = c.args.member.now in
    let k = t.table.shared.key.size in
    let o = beside_of (g.K.Keeper.holds t.table.shared.key.first.value) in let wide = t.wide in
    let d = c.requires.desk in let T = c.requires.turn in (
      c.requires.table.0,
      omega arith,
      notes_filing (shows_of g.K.Keeper.holds) o k t.table.shared.table_id.slots
          m.seat.id m.seat.me m.number m.role T.0.0 T.0.1 T.0.2 T.1
          (ap (λ (z : PathSize). z.files) t.keyed ∙ c.requires.files) d.0 d.1 d.2 d.3 d.4,
    )

pub invariant_of-member : goal.invariant_of-member
invariant_of-member g c = let m = c.args.member.now in
    let D = c.load.ensures.2 m.number m.role in
    record {
      role = ap (λ (v : View). v.role) D.0.0.4.0 ∙ m.role;
      counted = m.counted ∙ sym (ap (λ (v : View). issued_in v.trail) D.0.0.4.0);
      ended = m.ended ∙ sym (ap (λ (v : View). last_end_in v.trail) D.0.0.4.0);
    }

pub returns-clause-same : goal.returns-clause-same
returns-clause-same g c = let m = c.args.member.now in
    let D = c.load.ensures.2 m.number m.role in (c.load.ensures.0, refl, D.0.1)

pub returns-clause-step : goal.returns-clause-step
returns-clause-step g c = let m = c.args.member.now in
    let D = c.load.ensures.2 m.number m.role in
    (D.0.0.0, D.0.0.1, D.0.0.2, D.0.0.3, record { view = D.0.0.4.0; was = D.0.0.4.1 })

pub returns-clause-give : goal.returns-clause-give
returns-clause-give g c = let m = c.args.member.now in
    let D = c.load.ensures.2 m.number m.role in
    λ may. subst (Holds Rest) (sym D.0.0.4.0) (holds_still (λ (t : SyncTurn).
    record t { stopped = Some c.load.result }) (λ t. refl) m.seat.me.0 _ refl refl may)

pub returns-clause-desk : goal.returns-clause-desk
returns-clause-desk g c = let m = c.args.member.now in
    let D = c.load.ensures.2 m.number m.role in
    carries_on (shows_of g.K.Keeper.holds) m.seat.me c.load.new.seat.me
    (noted D.0.0.0 D.0.0.1 D.0.0.2 m.seat.me.0.hands.lasting.stopped m.seat.me.0.hands.lasting)
    m.seat.me.0.hands.pending m.seat.me.0.hands.progress
    m.seat.me.0.hands (ap (λ (v : View). v.hands) D.0.0.4.0) D.0.1 D.0.0.5

pub returns-clause-shown : goal.returns-clause-shown
returns-clause-shown g c = let m = c.args.member.now in let h = m.seat.me.0.hands in
    let D = c.load.ensures.2 m.number m.role in
    λ lasting pending C. ap (λ (v : View). v.hands) D.0.0.4.0
    ∙ hands_as (shows_of g.K.Keeper.holds) m.seat.me
    (noted D.0.0.0 D.0.0.1 D.0.0.2 h.lasting.stopped h.lasting) lasting h.pending pending h D.0.0.5
    C

pub returns-clause-runs : goal.returns-clause-runs
returns-clause-runs g c = let m = c.args.member.now in
    let D = c.load.ensures.2 m.number m.role in let T = c.requires.turn.0 in (
      D.1,
      subst (λ (v : View). FoundRunning v.part) (sym D.0.0.4.0) (
        record T.0 { stopped = Some c.load.result },
        ap (option_map (λ (t : SyncTurn). record t { stopped = Some c.load.result })) T.1,
        ap (λ (n : ℕ). Some n) D.1,
      ),
    )

pub returns-clause-turn : goal.returns-clause-turn
returns-clause-turn g c = let m = c.args.member.now in
    let D = c.load.ensures.2 m.number m.role in
    λ key T. subst (λ (v : View). TurnSynced v.part key) (sym D.0.0.4.0) (
      record T.0 { stopped = Some c.load.result },
      ap (option_map (λ (t : SyncTurn). record t { stopped = Some c.load.result })) T.1,
      ap (λ (n : ℕ). Some n) D.1,
      T.3,
    )

pub returns-clause-filed : goal.returns-clause-filed
returns-clause-filed g c = let m = c.args.member.now in
    let D = c.load.ensures.2 m.number m.role in
    ap (λ (v : View). has_filed v.part) D.0.0.4.0
    ∙ filed_as (λ (t : SyncTurn). record t { stopped = Some c.load.result }) (λ t. refl)
    m.seat.me.0.part.sync
