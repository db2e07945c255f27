use Rattle.std.proofs.Common.{◌<◌, ◌≤◌, [], inl, inr, refl, sym, ap, ◌∙◌, subst, arith}
use Rattle.path_core.specs.declared.event.Cursor.TheVariants.{Synced}
use Rattle.path_core.specs.declared.event.Event.TheVariants.{Look}
use Rattle.path_core.specs.declared.event.Place.TheVariants.{CursorWord, Log}
use Rattle.path_core.specs.Keys.{after as after_key}
use Rattle.path_core.specs.Parts.{seat_table}
use Rattle.path_rule.specs.declared.view.PathSize.{PathSize}
use Rattle.path_rule.specs.declared.view.View.{View}
use Rattle.path_rule.specs.Finds.{Finds}
use Rattle.path_rule.specs.Issued.{issued_in, most_issued}
use Rattle.path_rule.specs.Lasts.{shows_of}
use Rattle.path_rule.proofs.places.ReadBack.{log_small}
use Rattle.path_rule.proofs.seats.RoundsGo.{one}
use Rattle.path_flush.proofs.FilingGoes.{more_filing, of_quiet, quiet_one, then_filing}
use Rattle.path_flush.proofs.FilingRounds.{lasting_behind}
use Rattle.path_flush.proofs.FilingTurns.{barred_quiet, barred_same, both_log, both_synced}
use Rattle.path_flush.proofs.FinalKeys.{final_below}
use Rattle.path_flush.proofs.SwitchGoes.{quiet_round, stage_same}
use Rattle.path_flush.proofs.flush_rounds.await_lasting.Goals as goal

-- what the looks at the log key and at the synced key leave
pub returns-then-bound-key_behind-clause-same : goal.returns-then-bound-key_behind-clause-same
returns-then-bound-key_behind-clause-same g c = let L = c.look_log-end.ensures in
    let S = c.look_synced-synced.ensures in (
      (
        S.same.0 ∙ (L.same.0 ∙ c.requires.table.0),
        ap (λ (u : View). u.size) S.step.view
            ∙ (ap (λ (u : View). u.size) L.step.view ∙ c.requires.table.1),
      ),
      S.same.1 ∙ L.same.1,
    )

pub look_synced-synced-requires : goal.look_synced-synced-requires
look_synced-synced-requires g c = let L = c.look_log-end.ensures in
    (L.same.0 ∙ c.requires.table.0, ap (λ (u : View). u.size) L.step.view ∙ c.requires.table.1)

pub key_behind-requires : goal.key_behind-requires
key_behind-requires g c = let F = c.look_synced-synced.ensures.found in
    let small = log_small F.0.core F.0.lawful in
    let low = F.0.lawful.synced_below_the_log.below_log in let is = F.1 in
    omega (arith, small, low, is)

pub returns-then-bound-key_behind-clause-holds : goal.returns-then-bound-key_behind-clause-holds
returns-then-bound-key_behind-clause-holds g c = let L = c.look_log-end in
    let S = c.look_synced-synced in let m = c.args.member in let t = c.args.table.0 in
    let shows = shows_of g.K.Keeper.holds in
    both_synced shows L.new.member.seat.me S.new.member.seat.me L.new.member.number t S.result
    S.ensures.step S.ensures.same.2 (both_log shows m.seat.me L.new.member.seat.me m.number t
    L.result L.ensures.step L.ensures.same.2 (barred_quiet t m.seat.me.0.part c.requires.barred)
    c.requires.holds)

pub returns-then-bound-key_behind-clause-tables : goal.returns-then-bound-key_behind-clause-tables
returns-then-bound-key_behind-clause-tables g c = let L = c.look_log-end in
    let S = c.look_synced-synced in let m = c.args.member in let t = c.args.table.0 in
    ap (λ (u : View). seat_table u.part t) S.ensures.step.view
    ∙ (one m.number (Look m.number Log) L.result m.seat.me.0 L.new.member.seat.me.0 refl
    L.ensures.step).tables t (barred_quiet t m.seat.me.0.part c.requires.barred)

pub returns-then-bound-key_behind-clause-reading : goal.returns-then-bound-key_behind-clause-reading
returns-then-bound-key_behind-clause-reading g c =
    ap (λ (u : View). u.hands.reading) c.look_synced-synced.ensures.step.view
    ∙ ap (λ (u : View). u.hands.reading) c.look_log-end.ensures.step.view

pub returns-then-bound-key_behind-clause-opened : goal.returns-then-bound-key_behind-clause-opened
returns-then-bound-key_behind-clause-opened g c =
    ap (λ (u : View). u.hands.lasting.at_open) c.look_synced-synced.ensures.step.view
    ∙ (ap (λ (u : View). u.hands.lasting.at_open) c.look_log-end.ensures.step.view
    ∙ c.requires.opened)

pub returns-then-bound-key_behind-clause-lasts : goal.returns-then-bound-key_behind-clause-lasts
returns-then-bound-key_behind-clause-lasts g c = let L = c.look_log-end in
    let S = c.look_synced-synced in let m = c.args.member in let t = c.args.table.0 in
    let w = m.number in let z = L.new.member.number in let v = m.seat.me.0 in
    let u = L.new.member.seat.me.0 in let x = S.new.member.seat.me.0 in
    let d = S.ensures.step in let R = one w (Look w Log) L.result v u refl L.ensures.step in
    let low = c.if-bound-key_behind.true in let is = c.key_behind.ensures in (
      more_filing w t v x (omega arith) (then_filing w z t v u x L.ensures.same.1
          (of_quiet w t v u (quiet_round w [] v u R)
          (R.tables t (barred_quiet t v.part c.requires.barred)))
          (of_quiet z t u x (quiet_one z (Look z (CursorWord Synced)) S.result _ u x refl tt tt
          (record { view = d.view; was = d.was }))
          (ap (λ (k : View). seat_table k.part t) d.view))),
      record {
        synced = S.result;
        found = subst (λ (k : View). Finds (CursorWord Synced) S.result k.trail) (sym d.view)
            (inl (refl, refl));
        reaches = subst (λ (k : PathSize). c.args.bound.0 ≤ after_key k.capacity S.result)
            (c.size.ensures ∙ sym c.requires.table.1) (omega (arith, low, is));
      },
    )

pub make_lasting-requires-clause-table : goal.make_lasting-requires-clause-table
make_lasting-requires-clause-table g c = let L = c.look_log-end.ensures in
    let S = c.look_synced-synced.ensures in (
      S.same.0 ∙ (L.same.0 ∙ c.requires.table.0),
      ap (λ (u : View). u.size) S.step.view
          ∙ (ap (λ (u : View). u.size) L.step.view ∙ c.requires.table.1),
    )

pub make_lasting-requires-clause-holds : goal.make_lasting-requires-clause-holds
make_lasting-requires-clause-holds g c = let L = c.look_log-end in
    let S = c.look_synced-synced in let m = c.args.member in let t = c.args.table.0 in
    let shows = shows_of g.K.Keeper.holds in
    both_synced shows L.new.member.seat.me S.new.member.seat.me L.new.member.number t S.result
    S.ensures.step S.ensures.same.2 (both_log shows m.seat.me L.new.member.seat.me m.number t
    L.result L.ensures.step L.ensures.same.2 (barred_quiet t m.seat.me.0.part c.requires.barred)
    c.requires.holds)

pub make_lasting-requires-clause-barred : goal.make_lasting-requires-clause-barred
make_lasting-requires-clause-barred g c = let L = c.look_log-end in
    let S = c.look_synced-synced in let m = c.args.member in let t = c.args.table.0 in
    let p = m.seat.me.0.part in let q = S.new.member.seat.me.0.part in
    barred_same t p q (stage_same t p q (ap (λ (u : View). seat_table u.part t) S.ensures.step.view
    ∙ (one m.number (Look m.number Log) L.result m.seat.me.0 L.new.member.seat.me.0 refl
    L.ensures.step).tables t (barred_quiet t p c.requires.barred))) c.requires.barred

pub make_lasting-requires-clause-opened : goal.make_lasting-requires-clause-opened
make_lasting-requires-clause-opened g c =
    ap (λ (u : View). u.hands.lasting.at_open) c.look_synced-synced.ensures.step.view
    ∙ (ap (λ (u : View). u.hands.lasting.at_open) c.look_log-end.ensures.step.view
    ∙ c.requires.opened)

-- the bound lies at or below the log's end
pub make_lasting-requires-clause-found : goal.make_lasting-requires-clause-found
make_lasting-requires-clause-found g c = let L = c.look_log-end in
    let S = c.look_synced-synced in let w = c.args.member.number in let B = c.requires.bound in
    let F = L.ensures.found in (
      L.result,
      subst (λ (k : View). Finds Log L.result k.trail) (sym S.ensures.step.view)
          (inr (subst (λ (k : View). Finds Log L.result k.trail) (sym L.ensures.step.view)
          (inl (refl, refl)))),
      let low = final_below c.args.member.seat.me.0 w (Look w Log) c.args.table.0 B.0
          c.args.bound.0 F.0 B.1 in let is = F.1 in omega (arith, low, is),
    )

pub make_lasting-requires-clause-spends : goal.make_lasting-requires-clause-spends
make_lasting-requires-clause-spends g c =
    let d = c.look_log-end.ensures.step in let e = c.look_synced-synced.ensures.step in
    subst (λ (k : View). issued_in k.trail < most_issued) (sym e.view)
    (subst (λ (k : View). issued_in k.trail < most_issued) (sym d.view) c.requires.spends)

pub returns-clause-same : goal.returns-clause-same
returns-clause-same g c = let L = c.look_log-end.ensures in
    let S = c.look_synced-synced.ensures in let M = c.make_lasting.ensures in
    (M.same.0, M.same.1 ∙ (S.same.1 ∙ L.same.1))

pub returns-clause-tables : goal.returns-clause-tables
returns-clause-tables g c = let L = c.look_log-end in
    let S = c.look_synced-synced in let m = c.args.member in let t = c.args.table.0 in
    c.make_lasting.ensures.tables ∙ (ap (λ (u : View). seat_table u.part t) S.ensures.step.view
    ∙ (one m.number (Look m.number Log) L.result m.seat.me.0 L.new.member.seat.me.0 refl
    L.ensures.step).tables t (barred_quiet t m.seat.me.0.part c.requires.barred))

pub returns-clause-reading : goal.returns-clause-reading
returns-clause-reading g c = c.make_lasting.ensures.reading
    ∙ (ap (λ (u : View). u.hands.reading) c.look_synced-synced.ensures.step.view
    ∙ ap (λ (u : View). u.hands.reading) c.look_log-end.ensures.step.view)

pub returns-clause-lasts : goal.returns-clause-lasts
returns-clause-lasts g c = let L = c.look_log-end in
    let S = c.look_synced-synced in let M = c.make_lasting in let m = c.args.member in
    let t = c.args.table.0 in
    let w = m.number in let z = L.new.member.number in let v = m.seat.me.0 in
    let u = L.new.member.seat.me.0 in let x = S.new.member.seat.me.0 in
    let d = S.ensures.step in let R = one w (Look w Log) L.result v u refl L.ensures.step in
    lasting_behind w S.new.member.number t c.args.bound.0 v x M.result.0.seat.me.0 M.result.1
    (S.ensures.same.1 ∙ L.ensures.same.1) (then_filing w z t v u x L.ensures.same.1
    (of_quiet w t v u (quiet_round w [] v u R)
    (R.tables t (barred_quiet t v.part c.requires.barred)))
    (of_quiet z t u x (quiet_one z (Look z (CursorWord Synced)) S.result _ u x refl tt tt
    (record { view = d.view; was = d.was }))
    (ap (λ (k : View). seat_table k.part t) d.view))) M.ensures.lasts
