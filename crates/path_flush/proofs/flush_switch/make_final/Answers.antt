use Rattle.std.proofs.Common.{◌+◌, ◌≤◌, ◌^◌, inl, refl, sym, ap, ◌∙◌, subst, arith, None, false}
use Rattle.path_core.specs.declared.event.Event.TheVariants.{Look, Switch, Raise, Finalise}
use Rattle.path_core.specs.declared.event.Place.TheVariants.{Log}
use Rattle.path_core.specs.declared.event.SwitchPart.TheVariants.{Clear, Open, Mark}
use Rattle.path_core.specs.Parts.{stage_of}
use Rattle.path_rule.specs.declared.view.View.{View}
use Rattle.path_rule.specs.Issued.{issued_in, opened_in}
use Rattle.path_rule.proofs.seats.Answering.{wrote_more}
use Rattle.path_rule.proofs.seats.SwitchStages.{found_stage}
use Rattle.path_table.proofs.seats.UnderLog.{under_log}
use Rattle.path_flush.proofs.FlushGoes.{still_wrote}
use Rattle.path_flush.proofs.FlushTables.{on_table, then_table}
use Rattle.path_flush.proofs.FlushSwitching.{clear_keeps, final_keeps, from_oldest, look_keeps}
use Rattle.path_flush.proofs.FlushSwitching.{mark_keeps, open_keeps, raise_keeps, to_oldest}
use Rattle.path_flush.proofs.StepsOpen.{opens_two}
use Rattle.path_flush.proofs.flush_switch.make_final.Goals as goal

pub clear_place-requires-clause-turn : goal.clear_place-requires-clause-turn
clear_place-requires-clause-turn g c = let turn = c.requires.turn in
    (c.args.newest, turn.0, turn.1, omega arith, (let low = turn.2 in omega (arith, low)))

pub open_memtable-requires-clause-turn : goal.open_memtable-requires-clause-turn
open_memtable-requires-clause-turn g c = let turn = c.requires.turn in
    let keeps = c.clear_place.ensures.keeps in (
      c.args.newest,
      keeps.newest c.args.newest turn.0,
      keeps.oldest c.args.newest turn.1,
      omega arith,
      subst (λ (v : View). opened_in v.trail ≤ issued_in v.trail)
          (sym c.clear_place.ensures.step.view) c.requires.paid,
    )

pub raise_marked-requires-clause-stage : goal.raise_marked-requires-clause-stage
raise_marked-requires-clause-stage g c =
    let L = c.look_log-key in let M = c.mark_memtable in let v = M.new.member.seat.me.0 in
    let few = c.args.path.now.fits.few_tables in let H = c.requires.holder.there in (
      false,
      ap (λ (u : View). stage_of u.part c.args.table.0) L.ensures.step.view
          ∙ found_stage v M.new.member.number c.args.table (omega arith) c.args.newest L.result
          None false M.ensures.stage,
    )

pub returns-clause-made : goal.returns-clause-made
returns-clause-made g c =
    let m = c.args.member.now in let w = m.number in let t = c.args.table in
    let k = c.args.newest in
    let O = c.open_memtable in let M = c.mark_memtable in let L = c.look_log-key in
    let R = c.raise_marked in let F = c.finalise_memtable in
    let C = c.clear_place in let n0 = C.ensures.same.1 in
    let n1 = O.ensures.same.1 ∙ n0 in let n2 = M.ensures.same.1 ∙ n1 in
    let n3 = L.ensures.same.1 ∙ n2 in let n4 = R.ensures.same.1 ∙ n3 in
    let zero = on_table w t.0 (Switch w t (k + 1) Clear) 0 _ _ tt (refl, refl) C.ensures.step in
    let one = on_table _ t.0 (Switch _ t (k + 1) Open) (k + 1) _ _ tt (refl, refl)
    O.ensures.step in
    let two = on_table _ t.0 (Switch _ t k Mark) (2 ^ 62) _ _ tt (refl, refl) M.ensures.step in
    let three = on_table _ t.0 (Look _ Log) L.result _ _ tt refl L.ensures.step in
    let four = on_table _ t.0 (Raise _ t k (record { 0 = L.result })) R.ensures.step.0 _ _ tt
    (refl, refl)
    R.ensures.step.1 in
    let five = on_table _ t.0 (Finalise _ t k) (F.result.0 + 2 ^ 62) _ _ tt (refl, refl)
    F.ensures.step in
    let all = then_table w _ t.0 _ _ _ n4 (then_table w _ t.0 _ _ _ n3
    (then_table w _ t.0 _ _ _ n2 (then_table w _ t.0 _ _ _ n1 (then_table w _ t.0 _ _ _ n0 zero one)
    two) three) four) five in
    let z = M.new.member.number in
    let last = then_table z _ t.0 _ _ _ (R.ensures.same.1 ∙ L.ensures.same.1)
    (then_table z _ t.0 _ _ _ L.ensures.same.1 three four) five in record {
      made = all.made;
      set = inl (n4, refl, refl, refl);
      only = (λ of. refl, (tt, (tt, (tt, (tt, (tt, tt))))));
      kept = (tt, (tt, (tt, (tt, (tt, (tt, tt))))));
      opened = opens_two t.0
          (record {
            event = Switch C.new.member.number t (k + 1) Open;
            found = k + 1;
            filed = None;
          })
          (record { event = Switch w t (k + 1) Clear; found = 0; filed = None }) refl;
      counts = (let is = ap opened_in all.made.trail in omega (arith, is));
      wrote = wrote_more L.result F.result.0 (F.ensures.above L.result R.ensures.raised) _
          (still_wrote z L.result _ _ last.made
          (under_log M.new.member.seat.me.0 z L.result L.ensures.found.0 L.ensures.found.1));
      holder = all.holder c.requires.holder;
      sync = all.sync;
      hands = all.hands;
      stage = F.ensures.stage;
      bound = F.ensures.bound;
      oldest = from_oldest t.0 k F.new.member.seat.me.0.part
          (final_keeps _ _ _ t.0 t k _ F.ensures.step
          ∙ (raise_keeps _ _ _ t.0 t k _ (record { 0 = L.result }) R.ensures.step.1
          ∙ (look_keeps _ _ _ t.0 _ L.ensures.step ∙ (mark_keeps _ _ _ t.0 t k _ M.ensures.step
          ∙ (open_keeps _ _ _ t.0 t (k + 1) _ O.ensures.step
          ∙ (clear_keeps _ _ _ t.0 t (k + 1) _ C.ensures.step
          ∙ to_oldest t.0 k m.seat.me.0.part c.requires.turn.1))))));
    }
