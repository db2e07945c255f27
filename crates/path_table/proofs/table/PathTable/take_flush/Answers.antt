use Rattle.std.proofs.Common.{◌<◌, refl, sym, ap, ◌∙◌, subst, arith, get_or-set_same}
use Rattle.std.proofs.Common.{get_or-set_other}
use mathlib.Core.Logic.{dite}
use native.Mathlib.Decide.{ℕ_discrete}
use Rattle.path_core.specs.Parts.{seat_table, untouched}
use Rattle.path_rule.specs.declared.view.PathSize.{PathSize}
use Rattle.path_rule.specs.declared.view.View.{View}
use Rattle.path_rule.specs.Lasts.{beside_of, shows_of}
use Rattle.path_rule.proofs.moves.TableTurns.{takes_flush}
use Rattle.path_rule.proofs.seats.Accepting.{table_inside}
use Rattle.path_rule.specs.Issued.{issued_in}
use Rattle.path_table.specs.LastEnds.{last_end_in}
use Rattle.path_table.proofs.table.PathTable.take_flush.Goals as goal

pub compare_exchange-requires : goal.compare_exchange-requires
compare_exchange-requires g c = let t = c.args.self.now in let m = c.args.member.now in
    let k = t.table.shared.key.size in
    let o = beside_of (g.K.Keeper.holds t.table.shared.key.first.value) in let wide = t.wide in
    let few = t.fits.few_tables in let there = c.requires.there in (
      c.requires.table.0,
      omega arith,
      takes_flush (shows_of g.K.Keeper.holds) o k t.table.shared.table_id.slots
          m.seat.id m.seat.me m.number m.role c.args.table (omega arith)
          (subst (λ (z : PathSize). c.args.table.0 < z.tables) (sym c.requires.table.1) there)
          c.requires.idle,
    )

pub invariant_of-member : goal.invariant_of-member
invariant_of-member g c = let m = c.args.member.now in
    let few = c.args.self.now.fits.few_tables in let there = c.requires.there in
    let e = c.compare_exchange.ensures.2 m.number c.args.table m.role (omega arith) refl in
    dite (ℕ_discrete c.compare_exchange.result 0)
    (λ hit. record {
      role = ap (λ (v : View). v.role) (e.0 hit).0.0.0 ∙ m.role;
      counted = m.counted ∙ sym (ap (λ (v : View). issued_in v.trail) (e.0 hit).0.0.0);
      ended = m.ended ∙ sym (ap (λ (v : View). last_end_in v.trail) (e.0 hit).0.0.0);
    })
    (λ miss. record {
      role = ap (λ (v : View). v.role) (e.1 miss).0.0.0 ∙ m.role;
      counted = m.counted ∙ sym (ap (λ (v : View). issued_in v.trail) (e.1 miss).0.0.0);
      ended = m.ended ∙ sym (ap (λ (v : View). last_end_in v.trail) (e.1 miss).0.0.0);
    })

pub returns-clause-same : goal.returns-clause-same
returns-clause-same g c = let m = c.args.member.now in
    let few = c.args.self.now.fits.few_tables in let there = c.requires.there in
    let e = c.compare_exchange.ensures.2 m.number c.args.table m.role (omega arith) refl in
    dite (ℕ_discrete c.compare_exchange.result 0)
    (λ hit. (c.compare_exchange.ensures.0, refl, (e.0 hit).0.1))
    (λ miss. (c.compare_exchange.ensures.0, refl, (e.1 miss).0.1))

pub returns-clause-hit : goal.returns-clause-hit
returns-clause-hit g c = let m = c.args.member.now in
    let few = c.args.self.now.fits.few_tables in let there = c.requires.there in
    let e = c.compare_exchange.ensures.2 m.number c.args.table m.role (omega arith) refl in
    λ hit. record { view = (e.0 hit).0.0.0; was = (e.0 hit).0.0.1 }

pub returns-clause-holds : goal.returns-clause-holds
returns-clause-holds g c = let m = c.args.member.now in
    let few = c.args.self.now.fits.few_tables in let there = c.requires.there in
    let e = c.compare_exchange.ensures.2 m.number c.args.table m.role (omega arith) refl in
    λ hit. let d = (e.0 hit).0 in
    ap (λ (v : View). (seat_table v.part c.args.table.0).flush) d.0.0
    ∙ ap (λ st. st.flush) (get_or-set_same m.seat.me.0.part.tables c.args.table.0 _ untouched
    (table_inside m.seat.me.0 m.number _ d.0.1 c.args.table.0 (omega arith)))

pub returns-clause-miss : goal.returns-clause-miss
returns-clause-miss g c = let m = c.args.member.now in
    let few = c.args.self.now.fits.few_tables in let there = c.requires.there in
    let e = c.compare_exchange.ensures.2 m.number c.args.table m.role (omega arith) refl in
    λ miss. let d = e.1 miss in (record { view = d.0.0.0; was = d.0.0.1 }, d.1)

pub returns-clause-others : goal.returns-clause-others
returns-clause-others g c = let m = c.args.member.now in
    let few = c.args.self.now.fits.few_tables in let there = c.requires.there in
    let e = c.compare_exchange.ensures.2 m.number c.args.table m.role (omega arith) refl in
    λ u apart. dite (ℕ_discrete c.compare_exchange.result 0)
    (λ hit. ap (λ (v : View). seat_table v.part u) (e.0 hit).0.0.0
    ∙ get_or-set_other m.seat.me.0.part.tables c.args.table.0 u _ untouched apart)
    (λ miss. ap (λ (v : View). seat_table v.part u) (e.1 miss).0.0.0)

pub returns-clause-reads : goal.returns-clause-reads
returns-clause-reads g c = let m = c.args.member.now in
    let few = c.args.self.now.fits.few_tables in let there = c.requires.there in
    let e = c.compare_exchange.ensures.2 m.number c.args.table m.role (omega arith) refl in
    λ hit q has. (e.0 hit).1 q (sym (ap (λ (v : View). v.hands.reading) (e.0 hit).0.0.0) ∙ has)
