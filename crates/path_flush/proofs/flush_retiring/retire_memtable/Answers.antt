use Rattle.std.proofs.Common.{◌<◌, inl, inr, sym, ap, ◌∙◌, subst, ⊎_elim, arith}
use Rattle.path_core.specs.declared.state.Bound.TheVariants.{Final}
use Rattle.path_rule.specs.declared.view.Hands.{Hands}
use Rattle.path_rule.specs.declared.view.PathSize.{PathSize}
use Rattle.path_rule.specs.declared.view.View.{View}
use Rattle.path_rule.specs.Flushes.{SeesNone, TakesNone}
use Rattle.path_rule.specs.Issued.{issued_in, most_issued}
use Rattle.path_rule.specs.Lasts.{shows_of}
use Rattle.path_rule.specs.Layout.{bound_word}
use Rattle.path_flush.specs.declared.flush_gathering.Gathered.{Gathered}
use Rattle.path_flush.specs.FlushGathers.{HasGathered}
use Rattle.path_flush.proofs.FilingGathers.{reads_it}
use Rattle.path_flush.proofs.FilingGoes.{may_retire, more_filing, more_retired, of_read}
use Rattle.path_flush.proofs.FilingGoes.{retired_behind, then_filing}
use Rattle.path_flush.proofs.FilingRounds.{it_takes_none}
use Rattle.path_flush.proofs.FilingTurns.{barred_same, both_reads, of_both}
use Rattle.path_flush.proofs.FlushGoes.{issued_by}
use Rattle.path_flush.proofs.FlushReadSteps.{on_looked}
use Rattle.path_flush.proofs.SwitchGoes.{both_read}
use Rattle.path_flush.proofs.flush_retiring.retire_memtable.Goals as goal

pub look_read_bound-bound-requires-clause-there : goal.look_read_bound-bound-requires-clause-there
look_read_bound-bound-requires-clause-there g c = (
  subst (λ (z : PathSize). c.args.table.0 < z.tables) c.requires.table.1
      c.requires.holds.holder.there,
  c.requires.there,
)

pub look_read_bound-bound-requires-clause-reads : goal.look_read_bound-bound-requires-clause-reads
look_read_bound-bound-requires-clause-reads g c = let R = c.read_whole-member in
    let q = reads_it c.args.path.now.size.seats c.args.table c.args.memtable R.result.1
    R.result.0.seat.me.0.hands R.ensures.gathered in (q.0, q.1.0, q.1.1, q.1.2, q.1.4)

pub retire_void-requires-clause-table : goal.retire_void-requires-clause-table
retire_void-requires-clause-table g c = let R = c.read_whole-member.ensures in
    let L = c.look_read_bound-bound.ensures in
    (L.same.0 ∙ R.same.0.0, ap (λ (u : View). u.size) L.step.view ∙ R.same.0.1)

pub retire_void-requires-clause-holds : goal.retire_void-requires-clause-holds
retire_void-requires-clause-holds g c = let R = c.read_whole-member in
    let L = c.look_read_bound-bound in let z = R.result.0.number in let t = c.args.table.0 in
    let u = R.result.0.seat.me.0 in let x = L.new.member.seat.me.0 in
    both_read (shows_of g.K.Keeper.holds) R.result.0.seat.me L.new.member.seat.me z t
    (on_looked z t (bound_word (Final L.result)) c.args.table
    c.args.memtable u x L.ensures.step) L.ensures.same.2 R.ensures.holds

pub retire_void-requires-clause-sees : goal.retire_void-requires-clause-sees
retire_void-requires-clause-sees g c = let R = c.read_whole-member in
    let L = c.look_read_bound-bound in let seats = c.args.path.now.size.seats in
    subst (λ (h : Hands). SeesNone seats h c.args.table.0 c.args.memtable)
    (sym (ap (λ (u : View). u.hands) L.ensures.step.view))
    (subst (λ (k : Gathered). HasGathered seats c.args.table c.args.memtable k
    R.result.0.seat.me.0.hands) c.in-Nothing.is R.ensures.gathered)

pub returns-in-Nothing-clause-same : goal.returns-in-Nothing-clause-same
returns-in-Nothing-clause-same g c = let R = c.read_whole-member.ensures in
    let L = c.look_read_bound-bound.ensures in let V = c.retire_void.ensures in
    (V.same.0, V.same.1 ∙ (L.same.1 ∙ R.same.1))

pub returns-in-Nothing-clause-retired : goal.returns-in-Nothing-clause-retired
returns-in-Nothing-clause-retired g c = let R = c.read_whole-member in
    let L = c.look_read_bound-bound in let m = c.args.member in let w = m.number in
    let z = R.result.0.number in let y = L.new.member.number in let t = c.args.table.0 in
    let u = R.result.0.seat.me.0 in let x = L.new.member.seat.me.0 in let V = c.retire_void in
    more_retired w t c.args.memtable m.seat.me.0 V.result.0.seat.me.0 V.result.1 (omega arith)
    (retired_behind w y t c.args.memtable m.seat.me.0 x V.result.0.seat.me.0 V.result.1
    (L.ensures.same.1 ∙ R.ensures.same.1) (then_filing w z t m.seat.me.0 u x R.ensures.same.1
    R.ensures.steps (of_read z t u x (on_looked z t (bound_word (Final L.result)) c.args.table
    c.args.memtable u x L.ensures.step))) V.ensures.retired)

pub file_memtable-requires-clause-spends : goal.file_memtable-requires-clause-spends
file_memtable-requires-clause-spends g c = let R = c.read_whole-member in
    let few = issued_by c.args.member.number _ _ R.ensures.steps.made.made in
    let low = c.requires.spends in
    subst (λ (k : View). issued_in k.trail < most_issued)
    (sym c.look_read_bound-bound.ensures.step.view) (omega (arith, few, low))

pub file_memtable-requires-clause-table : goal.file_memtable-requires-clause-table
file_memtable-requires-clause-table g c = let R = c.read_whole-member.ensures in
    let L = c.look_read_bound-bound.ensures in
    (L.same.0 ∙ R.same.0.0, ap (λ (u : View). u.size) L.step.view ∙ R.same.0.1)

pub file_memtable-requires-clause-holds : goal.file_memtable-requires-clause-holds
file_memtable-requires-clause-holds g c = let R = c.read_whole-member in
    let L = c.look_read_bound-bound in let z = R.result.0.number in let t = c.args.table.0 in
    let shows = shows_of g.K.Keeper.holds in let u = R.result.0.seat.me.0 in
    let x = L.new.member.seat.me.0 in of_both shows t L.new.member.seat.me
    (both_read shows R.result.0.seat.me L.new.member.seat.me z t
    (on_looked z t (bound_word (Final L.result)) c.args.table
    c.args.memtable u x L.ensures.step) L.ensures.same.2 R.ensures.holds)

pub file_memtable-requires-clause-awaits : goal.file_memtable-requires-clause-awaits
file_memtable-requires-clause-awaits g c = let R = c.read_whole-member in
    let L = c.look_read_bound-bound in let d = L.ensures.step in let m = c.args.member in
    let z = R.result.0.number in let t = c.args.table.0 in
    let u = R.result.0.seat.me.0 in let x = L.new.member.seat.me.0 in
    let seats = c.args.path.now.size.seats in let look = on_looked z t (bound_word (Final L.result))
    c.args.table c.args.memtable u x L.ensures.step in
    let G = subst (λ (k : Gathered). HasGathered seats c.args.table c.args.memtable k u.hands)
    c.in-Cells.is R.ensures.gathered in record {
      read = G.0;
      sees = (
        ap (λ (v : View). v.hands.reading) d.view ∙ G.1.0,
        G.1.1,
        G.1.2,
        G.1.3,
        G.1.4,
        G.1.5,
      );
      some = G.2;
      are = G.3;
      final = L.ensures.bound;
      barred = barred_same t m.seat.me.0.part x.part (look.stage ∙ R.ensures.steps.stage)
          (⊎_elim (λ issued. inr (c.args.memtable, issued.0, issued.1)) (λ left. inl left.1)
          c.requires.stage);
      opened = ap (λ (h : Hands). h.lasting.at_open) look.hands
          ∙ (R.ensures.opened
          ∙ sym (ap (λ (k : PathSize). k.at_open) (look.made.size ∙ R.ensures.same.0.1)));
    }

pub returns-in-Cells-clause-same : goal.returns-in-Cells-clause-same
returns-in-Cells-clause-same g c = let R = c.read_whole-member.ensures in
    let L = c.look_read_bound-bound.ensures in let V = c.file_memtable.ensures in
    (V.same.0, V.same.1 ∙ (L.same.1 ∙ R.same.1))

pub returns-in-Cells-clause-retired : goal.returns-in-Cells-clause-retired
returns-in-Cells-clause-retired g c = let R = c.read_whole-member in
    let L = c.look_read_bound-bound in let m = c.args.member in let w = m.number in
    let z = R.result.0.number in let y = L.new.member.number in let t = c.args.table.0 in
    let u = R.result.0.seat.me.0 in let x = L.new.member.seat.me.0 in let V = c.file_memtable in
    retired_behind w y t c.args.memtable m.seat.me.0 x V.result.0.seat.me.0 V.result.1
    (L.ensures.same.1 ∙ R.ensures.same.1) (then_filing w z t m.seat.me.0 u x R.ensures.same.1
    R.ensures.steps (of_read z t u x (on_looked z t (bound_word (Final L.result)) c.args.table
    c.args.memtable u x L.ensures.step))) V.ensures.retired

pub end_reading-requires-clause-table : goal.end_reading-requires-clause-table
end_reading-requires-clause-table g c = let R = c.read_whole-member.ensures in
    let L = c.look_read_bound-bound.ensures in
    (L.same.0 ∙ R.same.0.0, ap (λ (u : View). u.size) L.step.view ∙ R.same.0.1)

pub end_reading-requires-clause-there : goal.end_reading-requires-clause-there
end_reading-requires-clause-there g c = subst (λ (z : PathSize). c.args.table.0 < z.tables)
    c.requires.table.1 c.requires.holds.holder.there

pub end_reading-requires-clause-unread : goal.end_reading-requires-clause-unread
end_reading-requires-clause-unread g c = let R = c.read_whole-member in
    let L = c.look_read_bound-bound in let seats = c.args.path.now.size.seats in
    let G = subst (λ (k : Gathered). HasGathered seats c.args.table c.args.memtable k
    R.result.0.seat.me.0.hands) c.in-OutOfMemory.is R.ensures.gathered in
    subst (λ (h : Hands). TakesNone h) (sym (ap (λ (u : View). u.hands) L.ensures.step.view))
    (it_takes_none c.args.table.0 c.args.memtable R.result.0.seat.me.0.hands G.0 G.1)

pub returns-in-OutOfMemory-clause-same : goal.returns-in-OutOfMemory-clause-same
returns-in-OutOfMemory-clause-same g c = let R = c.read_whole-member.ensures in
    let L = c.look_read_bound-bound.ensures in let V = c.end_reading.ensures in
    (V.same.0.0, V.same.0.1 ∙ (L.same.1 ∙ R.same.1))

pub returns-in-OutOfMemory-clause-holds : goal.returns-in-OutOfMemory-clause-holds
returns-in-OutOfMemory-clause-holds g c = let R = c.read_whole-member in
    let L = c.look_read_bound-bound in let z = R.result.0.number in let t = c.args.table.0 in
    let shows = shows_of g.K.Keeper.holds in let V = c.end_reading in
    let u = R.result.0.seat.me.0 in let x = L.new.member.seat.me.0 in
    both_reads shows L.new.member.seat.me V.result.seat.me L.new.member.number t V.ensures.steps
    V.ensures.same.1 (of_both shows t L.new.member.seat.me (both_read shows R.result.0.seat.me
    L.new.member.seat.me z t (on_looked z t (bound_word (Final L.result)) c.args.table
    c.args.memtable u x L.ensures.step) L.ensures.same.2 R.ensures.holds))

pub returns-in-OutOfMemory-clause-retired : goal.returns-in-OutOfMemory-clause-retired
returns-in-OutOfMemory-clause-retired g c = let R = c.read_whole-member in
    let L = c.look_read_bound-bound in let m = c.args.member in let w = m.number in
    let z = R.result.0.number in let y = L.new.member.number in let t = c.args.table.0 in
    let u = R.result.0.seat.me.0 in let x = L.new.member.seat.me.0 in let V = c.end_reading in
    let S = then_filing w y t m.seat.me.0 x V.result.seat.me.0
    (L.ensures.same.1 ∙ R.ensures.same.1) (then_filing w z t m.seat.me.0 u x R.ensures.same.1
    R.ensures.steps (of_read z t u x (on_looked z t (bound_word (Final L.result)) c.args.table
    c.args.memtable u x L.ensures.step)))
    (of_read y t x V.result.seat.me.0 V.ensures.steps) in record {
      steps = may_retire w t m.seat.me.0 V.result.seat.me.0
          (more_filing w t m.seat.me.0 V.result.seat.me.0 (omega arith) S);
      is = S.made.kept;
    }
