use Rattle.std.proofs.Common.{ℕ, ◌<◌, ◌≤◌, List, Some, inl, inr, refl, sym, ap, ◌∙◌, subst, arith}
use Rattle.path_core.specs.declared.event.Cursor.TheVariants.{Stopped, Synced}
use Rattle.path_core.specs.declared.event.Event.TheVariants.{Look}
use Rattle.path_core.specs.declared.event.Place.TheVariants.{CursorWord}
use Rattle.path_core.specs.Keeper.{HasRisen}
use Rattle.path_core.specs.Parts.{seat_table, stage_of}
use Rattle.path_rule.specs.declared.view.Hands.{Hands}
use Rattle.path_rule.specs.declared.view.OwnStep.{OwnStep}
use Rattle.path_rule.specs.declared.view.PathSize.{PathSize}
use Rattle.path_rule.specs.declared.view.View.{View}
use Rattle.path_rule.specs.Filing.{MayPut}
use Rattle.path_rule.specs.FilingTold.{next_file}
use Rattle.path_rule.specs.Finds.{Finds}
use Rattle.path_rule.specs.Lasts.{shows_of}
use Rattle.path_flush.proofs.FilingGoes.{may_retire, of_quiet, quiet_one, retired_behind}
use Rattle.path_flush.proofs.FilingGoes.{then_filing}
use Rattle.path_flush.proofs.FilingRounds.{takes_none}
use Rattle.path_flush.proofs.FilingTurns.{awaits_still, both_stopped, both_synced}
use Rattle.path_flush.proofs.flush_lasting.put_lasting.Goals as goal

reaches_more : {a b c : ℕ} → b ≤ c → a ≤ b → a ≤ c
reaches_more up low = omega (arith, up, low)

pub look_stopped-now-requires-clause-turn : goal.look_stopped-now-requires-clause-turn
look_stopped-now-requires-clause-turn g c = c.requires.holds.turns.holds.held

pub returns-then-now-gt0-clause-same : goal.returns-then-now-gt0-clause-same
returns-then-now-gt0-clause-same g c = let L = c.look_stopped-now.ensures in (
  (L.same.0 ∙ c.requires.table.0, ap (λ (u : View). u.size) L.step.view ∙ c.requires.table.1),
  L.same.1,
)

pub returns-then-now-gt0-clause-holds : goal.returns-then-now-gt0-clause-holds
returns-then-now-gt0-clause-holds g c = let L = c.look_stopped-now in let m = c.args.member in
    both_stopped (shows_of g.K.Keeper.holds) m.seat.me L.new.member.seat.me m.number
    c.args.table.0 L.result L.ensures.step L.ensures.same.2 c.requires.holds

pub returns-then-now-gt0-clause-retired : goal.returns-then-now-gt0-clause-retired
returns-then-now-gt0-clause-retired g c = let L = c.look_stopped-now in let d = L.ensures.step in
    let w = c.args.member.number in let t = c.args.table.0 in
    let same = sym c.size-at_open.ensures in let v = c.args.member.seat.me.0 in
    let u = L.new.member.seat.me.0 in record {
      steps = may_retire w t v u (record {
        made = quiet_one w (Look w (CursorWord Stopped)) L.result _ v u refl tt tt
            (record { view = d.view; was = d.was });
        stage = ap (λ (x : View). stage_of x.part t) d.view;
      });
      is = (
        (
          ap (λ (k : PathSize). k.at_open) (c.size-at_open.ensures ∙ sym c.requires.table.1),
          subst (λ (k : PathSize). HasRisen k.at_open L.result) same
              (L.ensures.risen c.if-now-gt0.true),
          inl (refl, refl),
        ),
        inl (tt, tt),
      );
    }

pub returns-then-now-gt0-clause-unread : goal.returns-then-now-gt0-clause-unread
returns-then-now-gt0-clause-unread g c = let L = c.look_stopped-now in let d = L.ensures.step in
    let A = c.requires.awaits in
    takes_none c.args.path.now.size.seats c.args.table.0 c.args.memtable
    L.new.member.seat.me.0.hands A.read (
      ap (λ (u : View). u.hands.reading) d.view ∙ A.sees.0,
      A.sees.1,
      A.sees.2,
      A.sees.3,
      A.sees.4,
      A.sees.5,
    )

pub look_filed-synced-requires-clause-table : goal.look_filed-synced-requires-clause-table
look_filed-synced-requires-clause-table g c = let L = c.look_stopped-now.ensures in
    (L.same.0 ∙ c.requires.table.0, ap (λ (u : View). u.size) L.step.view ∙ c.requires.table.1)

pub look_filed-synced-requires-clause-there : goal.look_filed-synced-requires-clause-there
look_filed-synced-requires-clause-there g c = subst (λ (z : PathSize). c.args.table.0 < z.tables)
    c.requires.table.1 c.requires.holds.turns.holder.there

pub look_filed-synced-requires-clause-turn : goal.look_filed-synced-requires-clause-turn
look_filed-synced-requires-clause-turn g c = let T = c.look_stopped-now.ensures.turn in
    (T.0, T.1, T.2 ∙ ap Some (let none = c.if-now-gt0.false in omega (arith, none)))

pub look_filed-synced-requires-clause-sees : goal.look_filed-synced-requires-clause-sees
look_filed-synced-requires-clause-sees g c = let d = c.look_stopped-now.ensures.step in
    let A = c.requires.awaits in (
      A.read,
      (
        ap (λ (u : View). u.hands.reading) d.view ∙ A.sees.0,
        A.sees.1,
        A.sees.2,
        A.sees.3,
        A.sees.4,
        A.sees.5,
      ),
      A.some,
    )

pub look_filed-synced-requires-clause-bound : goal.look_filed-synced-requires-clause-bound
look_filed-synced-requires-clause-bound g c =
    ap (λ (u : View). (seat_table u.part c.args.table.0).bound) c.look_stopped-now.ensures.step.view
    ∙ c.requires.awaits.final

pub put_file-requires-clause-holds : goal.put_file-requires-clause-holds
put_file-requires-clause-holds g c = let L = c.look_stopped-now in
    let F = c.look_filed-synced in let m = c.args.member in let t = c.args.table.0 in
    let shows = shows_of g.K.Keeper.holds in
    both_synced shows L.new.member.seat.me F.new.member.seat.me L.new.member.number t F.result
    F.ensures.step F.ensures.same.2 (both_stopped shows m.seat.me L.new.member.seat.me m.number t
    L.result L.ensures.step L.ensures.same.2 c.requires.holds)

pub put_file-requires-clause-awaits : goal.put_file-requires-clause-awaits
put_file-requires-clause-awaits g c = let d = c.look_stopped-now.ensures.step in
    let e = c.look_filed-synced.ensures.step in let A = c.requires.awaits in
    let t = c.args.table.0 in
    awaits_still c.args.path.now.size.seats t c.args.memtable c.args.bound.0
    c.args.cells.now c.args.member.seat.me.0 c.look_filed-synced.new.member.seat.me.0
    (ap (λ (u : View). u.hands.reading) e.view ∙ ap (λ (u : View). u.hands.reading) d.view)
    (ap (λ (u : View). seat_table u.part t) e.view ∙ ap (λ (u : View). seat_table u.part t) d.view)
    (ap (λ (u : View). u.hands.lasting.at_open) e.view
    ∙ (ap (λ (u : View). u.hands.lasting.at_open) d.view ∙ (A.opened
    ∙ sym (ap (λ (u : View). u.size.at_open) e.view ∙ ap (λ (u : View). u.size.at_open) d.view))))
    A

-- the log is lasting up to the bound still
pub put_file-requires-clause-turn : goal.put_file-requires-clause-turn
put_file-requires-clause-turn g c = let d = c.look_stopped-now.ensures.step in
    let F = c.look_filed-synced in (
      F.ensures.found,
      F.ensures.small,
      (reaches_more (F.ensures.rises c.requires.lasts.synced (subst (λ (l : List OwnStep).
          Finds (CursorWord Synced) c.requires.lasts.synced l)
          (sym (ap (λ (u : View). u.trail) d.view)) (inr c.requires.lasts.found)))
          c.requires.lasts.reaches),
    )

pub put_file-requires-clause-put : goal.put_file-requires-clause-put
put_file-requires-clause-put g c = let d = c.look_stopped-now.ensures.step in
    let F = c.look_filed-synced in let A = c.requires.awaits in let t = c.args.table.0 in
    let b = c.args.bound.0 in let cells = c.args.cells.now in
    subst (λ (h : Hands). MayPut h.lasting (next_file h.lasting t b cells))
    (sym (ap (λ (u : View). u.hands) F.ensures.step.view))
    (F.ensures.put A.read cells (ap (λ (u : View). u.hands.reading) d.view ∙ A.sees.0)
    (reaches_more (F.ensures.rises c.requires.lasts.synced (subst (λ (l : List OwnStep).
    Finds (CursorWord Synced) c.requires.lasts.synced l)
    (sym (ap (λ (u : View). u.trail) d.view)) (inr c.requires.lasts.found)))
    c.requires.lasts.reaches) A.are)

pub returns-clause-retired : goal.returns-clause-retired
returns-clause-retired g c = let L = c.look_stopped-now in
    let F = c.look_filed-synced in let P = c.put_file in let m = c.args.member in
    let w = m.number in let z = L.new.member.number in let y = F.new.member.number in
    let t = c.args.table.0 in let v = m.seat.me.0 in let u = L.new.member.seat.me.0 in
    let x = F.new.member.seat.me.0 in let d = L.ensures.step in let e = F.ensures.step in
    retired_behind w y t c.args.memtable v x P.result.0.seat.me.0 P.result.1
    (F.ensures.same.1 ∙ L.ensures.same.1)
    (then_filing w z t v u x L.ensures.same.1
    (of_quiet w t v u (quiet_one w (Look w (CursorWord Stopped)) L.result _ v u refl tt tt
    (record { view = d.view; was = d.was })) (ap (λ (k : View). seat_table k.part t) d.view))
    (of_quiet z t u x (quiet_one z (Look z (CursorWord Synced)) F.result _ u x refl tt tt
    (record { view = e.view; was = e.was }))
    (ap (λ (k : View). seat_table k.part t) e.view)))
    P.ensures.retired
