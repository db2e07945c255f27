use Rattle.std.proofs.Common.{inl, refl, ap, ◌∙◌}
use Rattle.atomic_table.specs.Table.{rest}
use Rattle.path_core.specs.declared.event.Cursor.TheVariants.{Stopped}
use Rattle.path_core.specs.declared.event.Event.TheVariants.{Put}
use Rattle.path_core.specs.Parts.{seat_table, stage_of}
use Rattle.path_rule.specs.declared.view.View.{View}
use Rattle.path_flush.proofs.FilingGoes.{holder_same, quiet_one}
use Rattle.path_flush.proofs.flush_noting.stop_log.Goals as goal

pub stop_filing-requires-clause-turn : goal.stop_filing-requires-clause-turn
stop_filing-requires-clause-turn g c = let T = c.requires.turns in (T.1, T.0.holds.empty)

pub returns-clause-same : goal.returns-clause-same
returns-clause-same g c = let F = c.stop_filing.ensures in (
  (F.same.0 ∙ c.requires.table.0, ap (λ (u : View). u.size) F.step.4.view ∙ c.requires.table.1),
  F.same.1,
)

pub returns-clause-holds : goal.returns-clause-holds
returns-clause-holds g c = let F = c.stop_filing in let d = F.ensures.step.4 in
    let T = c.requires.turns.0 in record {
      turns = record {
        holder = holder_same c.args.table.0 c.args.member.seat.me.0 F.new.member.seat.me.0
            (ap (λ (u : View). u.size) d.view)
            (λ t. ap (λ (u : View). (seat_table u.part t).flush) d.view)
            (ap (λ (u : View). u.part.write) d.view) (ap (λ (u : View). u.part.append) d.view)
            (ap (λ (u : View). u.part.claim) d.view) T.holder;
        holds = F.ensures.give T.holds;
        alone = ap (λ l. rest l) F.ensures.same.2 ∙ T.alone;
      };
      desk = F.ensures.desk;
    }

pub returns-clause-reading : goal.returns-clause-reading
returns-clause-reading g c = ap (λ (u : View). u.hands.reading) c.stop_filing.ensures.step.4.view

pub returns-clause-told : goal.returns-clause-told
returns-clause-told g c = let d = c.stop_filing.ensures.step.4 in let w = c.args.member.number in (
  record {
    made = quiet_one w (Put w Stopped c.args.now) c.args.now _ _ _ refl tt tt d;
    stage = ap (λ (u : View). stage_of u.part c.args.table.0) d.view;
  },
  inl (refl, refl),
)
