use Rattle.std.proofs.Common.{◌%◌, ◌+◌, ◌*◌, ◌<◌, refl, sym, ap, ◌∙◌, subst, arith}
use Rattle.path_core.specs.declared.event.Event.TheVariants.{Look}
use Rattle.path_core.specs.declared.event.Place.TheVariants.{Bound}
use Rattle.path_core.specs.declared.state.Bound.{Bound as BoundKind}
use Rattle.path_core.specs.LawfulSeats.{BoundStays}
use Rattle.path_core.specs.Parts.{seat_table}
use Rattle.path_rule.specs.declared.view.PathSize.{PathSize}
use Rattle.path_rule.specs.declared.view.View.{View}
use Rattle.path_rule.specs.Accepted.{TriesBound}
use Rattle.path_rule.specs.Calls.{Did}
use Rattle.path_rule.specs.Lasts.{beside_of, shows_of}
use Rattle.path_rule.specs.Layout.{bound_in, bound_word}
use Rattle.path_rule.proofs.moves.Looks.{looks_at}
use Rattle.path_rule.proofs.seats.Accepting.{bound_goes, bound_leaves, bound_words, end_small}
use Rattle.path_rule.proofs.seats.Accepting.{looked_tries}
use Rattle.path_rule.specs.Issued.{issued_in}
use Rattle.path_table.specs.LastEnds.{last_end_in}
use Rattle.path_table.proofs.table.PathTable.look_bound.Goals as goal

pub load-word-requires : goal.load-word-requires
load-word-requires g c = let t = c.args.self.now in let m = c.args.member.now in
    let k = t.table.shared.key.size in
    let o = beside_of (g.K.Keeper.holds t.table.shared.key.first.value) in let wide = t.wide in
    let few = t.fits.few_tables in let there = c.requires.there in
    let known = c.requires.known in let small = known.0 in (
      c.requires.table.0,
      omega arith,
      looks_at (shows_of g.K.Keeper.holds) o k t.table.shared.table_id.slots m.seat.id
          m.seat.me m.number m.role (Bound c.args.table c.args.memtable) (omega arith) (
            subst (λ (z : PathSize). c.args.table.0 < z.tables) (sym c.requires.table.1) there,
            known.1,
          ) (640 + 16 * (c.args.memtable % 4) + c.args.table.0) refl,
    )

pub invariant_of-member : goal.invariant_of-member
invariant_of-member g c = let m = c.args.member.now in
    let few = c.args.self.now.fits.few_tables in let there = c.requires.there in
    let q = c.load-word.ensures.2 m.number (Bound c.args.table c.args.memtable) m.role
    (omega arith) c.requires.known.1 refl in
    record {
      role = ap (λ (v : View). v.role) q.0.0.0 ∙ m.role;
      counted = m.counted ∙ sym (ap (λ (v : View). issued_in v.trail) q.0.0.0);
      ended = m.ended ∙ sym (ap (λ (v : View). last_end_in v.trail) q.0.0.0);
    }

pub returns-clause-same : goal.returns-clause-same
returns-clause-same g c = let m = c.args.member.now in
    let few = c.args.self.now.fits.few_tables in let there = c.requires.there in
    let q = c.load-word.ensures.2 m.number (Bound c.args.table c.args.memtable) m.role
    (omega arith) c.requires.known.1 refl in
    (c.load-word.ensures.0, refl, q.0.1)

pub returns-clause-step : goal.returns-clause-step
returns-clause-step g c = let m = c.args.member.now in
    let few = c.args.self.now.fits.few_tables in let there = c.requires.there in
    let q = c.load-word.ensures.2 m.number (Bound c.args.table c.args.memtable) m.role
    (omega arith) c.requires.known.1 refl in
    subst (λ n. Did m.seat.me.0 m.number (Look m.number (Bound c.args.table c.args.memtable)) n
    c.load-word.new.seat.me.0)
    (sym (ap bound_word c.bound_of.ensures
    ∙ bound_words m.seat.me.0 m.number c.args.table c.args.memtable c.load-word.result _ q.1.0
    q.1.1))
    (record { view = q.0.0.0; was = q.0.0.1 })

pub returns-clause-tries : goal.returns-clause-tries
returns-clause-tries g c = let m = c.args.member.now in
    let few = c.args.self.now.fits.few_tables in let there = c.requires.there in
    let q = c.load-word.ensures.2 m.number (Bound c.args.table c.args.memtable) m.role
    (omega arith) c.requires.known.1 refl in
    λ end ends trying. subst (λ (b : BoundKind). TriesBound end c.args.memtable b
    (seat_table c.load-word.new.seat.me.0.part c.args.table.0)) (sym c.bound_of.ensures)
    (subst (λ (v : View). TriesBound end c.args.memtable (bound_in c.load-word.result)
    (seat_table v.part c.args.table.0))
    (sym q.0.0.0) (looked_tries m.seat.me.0 m.number c.args.table c.args.memtable
    c.load-word.result end q.1.0 (omega arith) q.1.1 ends trying))

pub returns-clause-small : goal.returns-clause-small
returns-clause-small g c = let m = c.args.member.now in
    let few = c.args.self.now.fits.few_tables in let there = c.requires.there in
    let q = c.load-word.ensures.2 m.number (Bound c.args.table c.args.memtable) m.role
    (omega arith) c.requires.known.1 refl in
    λ end ends. end_small m.seat.me.0 m.number _ q.1.0 end ends

pub returns-clause-stays : goal.returns-clause-stays
returns-clause-stays g c = let m = c.args.member.now in
    let few = c.args.self.now.fits.few_tables in let there = c.requires.there in
    let q = c.load-word.ensures.2 m.number (Bound c.args.table c.args.memtable) m.role
    (omega arith) c.requires.known.1 refl in
    λ b before. subst (BoundStays b) (sym c.bound_of.ensures)
    (bound_goes m.seat.me.0 m.number c.args.table c.args.memtable c.load-word.result _ q.1.0 q.1.1
    b before)

pub returns-clause-others : goal.returns-clause-others
returns-clause-others g c = let m = c.args.member.now in
    let few = c.args.self.now.fits.few_tables in let there = c.requires.there in
    let q = c.load-word.ensures.2 m.number (Bound c.args.table c.args.memtable) m.role
    (omega arith) c.requires.known.1 refl in
    λ u apart. ap (λ (v : View). seat_table v.part u) q.0.0.0
    ∙ bound_leaves m.seat.me.0 m.number c.args.table c.args.memtable c.load-word.result u apart
