use mathlib.Core.Logic.{inl}
use Rattle.std.proofs.Common.{◌<◌, refl, sym, ap, ◌∙◌, subst, arith}
use Rattle.path_core.specs.declared.event.Event.TheVariants.{Raise}
use Rattle.path_core.specs.declared.state.Bound.{Bound as BoundKind}
use Rattle.path_core.specs.Parts.{seat_table}
use Rattle.path_rule.specs.declared.view.PathSize.{PathSize}
use Rattle.path_rule.specs.declared.view.View.{View}
use Rattle.path_rule.specs.Accepted.{RaisesBound}
use Rattle.path_rule.specs.Calls.{Did}
use Rattle.path_rule.specs.Lasts.{beside_of, shows_of}
use Rattle.path_rule.specs.Layout.{bound_in, bound_word}
use Rattle.path_rule.proofs.moves.BoundSteps.{raises, writer_raises}
use Rattle.path_rule.proofs.seats.Accepting.{bound_words, raised_leaves, raised_tries}
use Rattle.path_rule.specs.Issued.{issued_in}
use Rattle.path_table.specs.LastEnds.{last_end_in}
use Rattle.path_table.proofs.table.PathTable.raise_bound.Goals as goal

pub fetch_max-word-requires : goal.fetch_max-word-requires
fetch_max-word-requires g c = let t = c.args.self.now in let m = c.args.member.now in
    let k = t.table.shared.key.size in
    let o = beside_of (g.K.Keeper.holds t.table.shared.key.first.value) in let wide = t.wide in
    let few = t.fits.few_tables in let there = c.requires.there in
    let low = there.0 in let small = there.1 in let found = c.requires.found in (
      c.requires.table.0,
      omega arith,
      raises (shows_of g.K.Keeper.holds) o k t.table.shared.table_id.slots m.seat.id
          m.seat.me m.number m.role c.args.table c.args.memtable c.args.end.0 (omega arith)
          (subst (λ (z : PathSize). c.args.table.0 < z.tables) (sym c.requires.table.1) low)
          (writer_raises (shows_of g.K.Keeper.holds) o k t.table.shared.table_id.slots m.seat.id
          m.seat.me m.number m.role c.args.table.0 c.args.memtable c.args.end.0 c.requires.writer
          found.0 found.1 found.2),
    )

pub invariant_of-member : goal.invariant_of-member
invariant_of-member g c = let m = c.args.member.now in
    let few = c.args.self.now.fits.few_tables in let low = c.requires.there.0 in
    let q = c.fetch_max-word.ensures.2 m.number c.args.memtable c.args.end.0 c.args.table m.role
    (omega arith)
    (inl c.requires.writer.trying) refl refl in
    record {
      role = ap (λ (v : View). v.role) q.0.0.0 ∙ m.role;
      counted = m.counted ∙ sym (ap (λ (v : View). issued_in v.trail) q.0.0.0);
      ended = m.ended ∙ sym (ap (λ (v : View). last_end_in v.trail) q.0.0.0);
    }

pub returns-clause-same : goal.returns-clause-same
returns-clause-same g c = let m = c.args.member.now in
    let few = c.args.self.now.fits.few_tables in let low = c.requires.there.0 in
    let q = c.fetch_max-word.ensures.2 m.number c.args.memtable c.args.end.0 c.args.table m.role
    (omega arith)
    (inl c.requires.writer.trying) refl refl in
    (c.fetch_max-word.ensures.0, refl, q.0.1)

pub returns-clause-step : goal.returns-clause-step
returns-clause-step g c = let m = c.args.member.now in
    let few = c.args.self.now.fits.few_tables in let low = c.requires.there.0 in
    let q = c.fetch_max-word.ensures.2 m.number c.args.memtable c.args.end.0 c.args.table m.role
    (omega arith)
    (inl c.requires.writer.trying) refl refl in
    subst (λ n. Did m.seat.me.0 m.number
    (Raise m.number c.args.table c.args.memtable c.args.end) n c.fetch_max-word.new.seat.me.0)
    (sym (ap bound_word c.bound_of.ensures
    ∙ bound_words m.seat.me.0 m.number c.args.table c.args.memtable c.fetch_max-word.result _ q.1.0
    q.1.1))
    (record { view = q.0.0.0; was = q.0.0.1 })

pub returns-clause-raises : goal.returns-clause-raises
returns-clause-raises g c = let m = c.args.member.now in
    let few = c.args.self.now.fits.few_tables in let low = c.requires.there.0 in
    let q = c.fetch_max-word.ensures.2 m.number c.args.memtable c.args.end.0 c.args.table m.role
    (omega arith)
    (inl c.requires.writer.trying) refl refl in
    subst (λ (b : BoundKind). RaisesBound c.args.memtable b
    (seat_table c.fetch_max-word.new.seat.me.0.part c.args.table.0)) (sym c.bound_of.ensures)
    (subst (λ (v : View). RaisesBound c.args.memtable (bound_in c.fetch_max-word.result)
    (seat_table v.part c.args.table.0))
    (sym q.0.0.0) (raised_tries m.seat.me.0 m.number c.args.table c.args.memtable
    c.fetch_max-word.result c.args.end q.1.0 (omega arith) q.1.1 c.requires.writer))

pub returns-clause-others : goal.returns-clause-others
returns-clause-others g c = let m = c.args.member.now in
    let few = c.args.self.now.fits.few_tables in let low = c.requires.there.0 in
    let q = c.fetch_max-word.ensures.2 m.number c.args.memtable c.args.end.0 c.args.table m.role
    (omega arith)
    (inl c.requires.writer.trying) refl refl in
    λ u apart. ap (λ (v : View). seat_table v.part u) q.0.0.0
    ∙ raised_leaves m.seat.me.0 m.number c.args.table c.args.memtable c.fetch_max-word.result
    c.args.end u apart
