use Rattle.std.proofs.Common.{◌≡◌, ◌+◌, ◌-◌, ◌^◌, ◌<◌, ℕ, refl, sym, ap, ◌∙◌, subst, arith}
use Rattle.path_core.specs.declared.event.Event.TheVariants.{Look}
use Rattle.path_core.specs.declared.event.Place.TheVariants.{Bound}
use Rattle.path_rule.specs.declared.view.PathSize.{PathSize}
use Rattle.path_rule.specs.declared.view.View.{View}
use Rattle.path_rule.specs.Calls.{Did}
use Rattle.path_rule.specs.FilingTold.{FoundFinal}
use Rattle.path_rule.specs.Lasts.{beside_of, shows_of}
use Rattle.path_rule.proofs.moves.ReadBounds.{looks_read}
use Rattle.path_rule.proofs.seats.ReadBounds.{bound_after}
use Rattle.path_rule.specs.Issued.{issued_in}
use Rattle.path_table.specs.LastEnds.{last_end_in}
use Rattle.path_table.proofs.table.PathTable.look_read_bound.Goals as goal

pub load-word-requires : goal.load-word-requires
load-word-requires g c = let t = c.args.self.now in let m = c.args.member.now in
    let k = t.table.shared.key.size in
    let o = beside_of (g.K.Keeper.holds t.table.shared.key.first.value) in let wide = t.wide in
    let few = t.fits.few_tables in let there = c.requires.there.0 in
    let low = c.requires.there.1 in let R = c.requires.reads in (
      c.requires.table.0,
      omega arith,
      looks_read (shows_of g.K.Keeper.holds) o k t.table.shared.table_id.slots m.seat.id
          m.seat.me m.number m.role c.args.table c.args.memtable R.0 R.1 R.2 R.3 R.4 (omega arith)
          (subst (λ (z : PathSize). c.args.table.0 < z.tables) (sym c.requires.table.1) there),
    )

pub overflow_sub-key : goal.overflow_sub-key
overflow_sub-key g c = let m = c.args.member.now in
    let few = c.args.self.now.fits.few_tables in let there = c.requires.there.0 in
    let d = c.load-word.ensures.2 m.number c.args.memtable c.args.table m.role (omega arith)
    c.requires.reads.0 c.requires.reads.1 c.requires.reads.2 c.requires.reads.3 refl in
    let found = d.1 in omega arith

pub invariant_of-member : goal.invariant_of-member
invariant_of-member g c = let m = c.args.member.now in
    let few = c.args.self.now.fits.few_tables in let there = c.requires.there.0 in
    let d = c.load-word.ensures.2 m.number c.args.memtable c.args.table m.role (omega arith)
    c.requires.reads.0 c.requires.reads.1 c.requires.reads.2 c.requires.reads.3 refl in
    record {
      role = ap (λ (v : View). v.role) d.2.0.0 ∙ m.role;
      counted = m.counted ∙ sym (ap (λ (v : View). issued_in v.trail) d.2.0.0);
      ended = m.ended ∙ sym (ap (λ (v : View). last_end_in v.trail) d.2.0.0);
    }

pub returns-clause-same : goal.returns-clause-same
returns-clause-same g c = let m = c.args.member.now in
    let few = c.args.self.now.fits.few_tables in let there = c.requires.there.0 in
    let d = c.load-word.ensures.2 m.number c.args.memtable c.args.table m.role (omega arith)
    c.requires.reads.0 c.requires.reads.1 c.requires.reads.2 c.requires.reads.3 refl
    in (c.load-word.ensures.0, refl, d.2.1)

pub returns-clause-step : goal.returns-clause-step
returns-clause-step g c = let m = c.args.member.now in
    let few = c.args.self.now.fits.few_tables in let there = c.requires.there.0 in
    let n = c.load-word.result in
    let d = c.load-word.ensures.2 m.number c.args.memtable c.args.table m.role (omega arith)
    c.requires.reads.0 c.requires.reads.1 c.requires.reads.2 c.requires.reads.3 refl in
    let found = d.1 in
    let word : n ≡ n - 2 ^ 63 + 2 ^ 63 = omega arith in
    subst (λ (k : ℕ). Did m.seat.me.0 m.number (Look m.number (Bound c.args.table
    c.args.memtable)) k c.load-word.new.seat.me.0) word (record { view = d.2.0.0; was = d.2.0.1 })

pub returns-clause-bound : goal.returns-clause-bound
returns-clause-bound g c = let m = c.args.member.now in
    let few = c.args.self.now.fits.few_tables in let there = c.requires.there.0 in
    let n = c.load-word.result in
    let d = c.load-word.ensures.2 m.number c.args.memtable c.args.table m.role (omega arith)
    c.requires.reads.0 c.requires.reads.1 c.requires.reads.2 c.requires.reads.3 refl in
    let found = d.1 in
    subst (λ (v : View). FoundFinal c.args.table.0 v.part c.args.memtable (n - 2 ^ 63))
    (sym d.2.0.0) (bound_after m.seat.me.0 m.number c.args.table c.args.memtable n (n - 2 ^ 63)
    d.2.0.1 (omega arith) (omega arith))
