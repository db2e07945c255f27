use Rattle.std.proofs.Common.{◌≡◌, ◌+◌, ℕ, suc, [], ◌∷◌, None, refl, sym, ap, ◌∙◌, subst, arith}
use Rattle.path_core.specs.declared.event.Cursor.TheVariants.{OldestLive}
use Rattle.path_core.specs.declared.event.Event.TheVariants.{Put}
use Rattle.path_rule.specs.declared.view.View.{View}
use Rattle.path_rule.specs.Lasts.{shows_of}
use Rattle.path_rule.specs.Retires.{RetiresEmptyIn}
use Rattle.path_rule.specs.Rule.{Was}
use Rattle.path_flush.proofs.FilingGoes.{unswitched_one}
use Rattle.path_flush.proofs.FilingTurns.{of_both}
use Rattle.path_flush.proofs.FlushRetires.{both_put, stage_put}
use Rattle.path_flush.proofs.flush_filing.retire_void.Goals as goal

pub retire_empty-requires-clause-there : goal.retire_empty-requires-clause-there
retire_empty-requires-clause-there g c = let there = c.requires.holds.holder.there in
    let of = ap (λ z. z.tables) c.requires.table.1 in (omega (arith, there, of), c.requires.there)

pub returns-clause-same : goal.returns-clause-same
returns-clause-same g c = let R = c.retire_empty.ensures in let d = R.step in (
  (R.same.0 ∙ c.requires.table.0, ap (λ (u : View). u.size) d.view ∙ c.requires.table.1),
  R.same.1,
)

pub returns-clause-holds : goal.returns-clause-holds
returns-clause-holds g c = let m = c.args.member in let R = c.retire_empty in
    let shows = shows_of g.K.Keeper.holds in
    of_both shows c.args.table.0 R.new.member.seat.me
    (both_put shows m.seat.me R.new.member.seat.me m.number
    (c.args.memtable + 1) c.args.table (c.args.memtable + 1) _ R.ensures.step R.ensures.same.2
    c.requires.holds)

pub returns-clause-unread : goal.returns-clause-unread
returns-clause-unread g c = ap (λ (u : View). u.hands.reading) c.retire_empty.ensures.step.view

pub returns-clause-retired : goal.returns-clause-retired
returns-clause-retired g c = let m = c.args.member in let S = c.requires.sees in
    let w = m.number in let t = c.args.table in let k = c.args.memtable in
    let R = c.retire_empty in let more : k + 1 ≡ suc k = omega arith in
    let W = subst (λ (n : ℕ). (was : Was m.seat.me.0 w (Put w (OldestLive t) n))
    × RetiresEmptyIn was.core t.0 k) more R.ensures.was in record {
      steps = record {
        made = unswitched_one w (Put w (OldestLive t) (k + 1)) (k + 1) _ _ _ (refl, refl) tt
            R.ensures.step;
        stage = stage_put m.seat.me.0 R.new.member.seat.me.0 w (k + 1) t (k + 1) _
            R.ensures.step t.0;
      };
      is = (
        (
          record {
            before = m.seat.me.0;
            since = record { newer = []; is = refl };
            read = S.0;
            sees = (
              S.1,
              S.2,
              S.3,
              S.4,
              S.5 ∙ sym (ap (λ z. z.seats) c.requires.table.1),
              S.7,
            );
            was = W.0;
            put = record {
              newer = [];
              is = ap (λ (u : View). u.trail) R.ensures.step.view
                  ∙ ap (λ (n : ℕ). record {
                    event = Put w (OldestLive t) n;
                    found = n;
                    filed = None;
                  } ∷ m.seat.me.0.trail) more;
            };
          },
          S.6,
          W.1,
        ),
        c.requires.bound,
      );
    }
