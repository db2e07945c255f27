use Rattle.std.proofs.Common.{◌≡◌, ℕ, inl, inr, refl, sym, subst, Option, is_some, IsTrue, arith}
use Rattle.clog_base.specs.declared.cell.Table.{Table}
use Rattle.path_core.specs.declared.event.Cursor.TheVariants.{OldestLive}
use Rattle.path_core.specs.declared.event.Event.TheVariants.{Look}
use Rattle.path_core.specs.declared.event.Place.TheVariants.{CursorWord, Newest}
use Rattle.path_core.specs.declared.seat.FlushTurn.{FlushTurn}
use Rattle.path_rule.specs.declared.view.View.{View}
use Rattle.path_rule.specs.Calls.{Did}
use Rattle.path_rule.specs.Switches.{FlushOldest}
use Rattle.path_flush.specs.FlushSteps.{QuietSteps}
use Rattle.path_flush.proofs.FlushGoes.{next, one}
use Rattle.path_flush.proofs.flush_turn.look_memtables.Goals as goal

abbrev looked : (w z o n : ℕ) (t : Table) (v u after : View) → z ≡ w
    → Did v w (Look w (CursorWord (OldestLive t))) o u → Did u z (Look z (Newest t)) n after
    → QuietSteps w t.0 0 v after
looked w z o n t v u after same a b = record {
  made = next w z v u after same (one w (Look w (CursorWord (OldestLive t))) o _ v u refl
      (record { view = a.view; was = a.was }))
      (one z (Look z (Newest t)) n _ u after refl (record { view = b.view; was = b.was }));
  none = (tt, (tt, tt));
  kept = (tt, (tt, tt));
}

pub returns-then-oldest-newest-clause-steps : goal.returns-then-oldest-newest-clause-steps
returns-then-oldest-newest-clause-steps g c =
    let O = c.look_oldest_live-oldest in let N = c.look_newest-newest in
    looked c.args.member.now.number _ O.result N.result c.args.table _ _ _ O.ensures.same.1
    O.ensures.step N.ensures.step

pub returns-then-oldest-newest-clause-found : goal.returns-then-oldest-newest-clause-found
returns-then-oldest-newest-clause-found g c =
    let O = c.look_oldest_live-oldest in let N = c.look_newest-newest in (
      looked c.args.member.now.number _ O.result N.result c.args.table _ _ _ O.ensures.same.1
          O.ensures.step N.ensures.step,
      inr (inl (refl, refl)),
      (N.result, inl (refl, refl), c.if-oldest-newest.true),
    )

pub returns-else-oldest-newest-clause-steps : goal.returns-else-oldest-newest-clause-steps
returns-else-oldest-newest-clause-steps g c =
    let O = c.look_oldest_live-oldest in let N = c.look_newest-newest in
    looked c.args.member.now.number _ O.result N.result c.args.table _ _ _ O.ensures.same.1
    O.ensures.step N.ensures.step

pub returns-else-oldest-newest-clause-found : goal.returns-else-oldest-newest-clause-found
returns-else-oldest-newest-clause-found g c =
    let O = c.look_oldest_live-oldest in let N = c.look_newest-newest in
    let other = c.if-oldest-newest.false in
    let same : O.result ≡ N.result = omega (arith, other) in (
      looked c.args.member.now.number _ O.result N.result c.args.table _ _ _ O.ensures.same.1
          O.ensures.step N.ensures.step,
      (inl (refl, refl), inr (inl (refl, same))),
    )

pub returns-else-oldest-newest-clause-known : goal.returns-else-oldest-newest-clause-known
returns-else-oldest-newest-clause-known g c =
    let O = c.look_oldest_live-oldest in let N = c.look_newest-newest in
    let other = c.if-oldest-newest.false in let same : O.result ≡ N.result = omega (arith, other) in
    let t = c.args.table.0 in let oldest = O.ensures.turn c.requires.holds.holder.held in (
      N.ensures.below,
      subst (λ (n : ℕ). FlushOldest t N.new.member.seat.me.0.part n) same
          (N.ensures.keeps O.result oldest),
      N.ensures.turn (subst (λ (o : Option FlushTurn). IsTrue (is_some o)) (sym oldest.1) refl),
    )
