use Rattle.std.proofs.Common.{false, refl, sym, ap, ◌∙◌}
use Rattle.std.proofs.lemmas.Option.{same_Some}
use Rattle.path_rule.specs.declared.view.FlushRead.{FlushRead}
use Rattle.path_rule.specs.declared.view.View.{View}
use Rattle.path_rule.specs.HandsAfter.{first_read}
use Rattle.path_flush.proofs.FlushReadSteps.{on_read, then_read}
use Rattle.path_flush.proofs.flush_reading.start_read.Goals as goal

pub begin_read-requires-clause-oldest : goal.begin_read-requires-clause-oldest
begin_read-requires-clause-oldest g c =
    c.empty_below-member.ensures.steps.oldest c.args.memtable c.requires.oldest

pub returns-clause-same : goal.returns-clause-same
returns-clause-same g c = let E = c.empty_below-member.ensures in let B = c.begin_read.ensures in (
  (
    (B.same.0 ∙ E.same.0.0.0, ap (λ (u : View). u.size) B.step.view ∙ E.same.0.0.1),
    B.same.1 ∙ E.same.0.1,
  ),
  B.same.2 ∙ E.same.1,
)

pub returns-clause-steps : goal.returns-clause-steps
returns-clause-steps g c = let E = c.empty_below-member in let B = c.begin_read in
    let t = c.args.table.0 in
    then_read c.args.member.number E.result.number t _ _ _ E.ensures.same.0.1 E.ensures.steps
    (on_read E.result.number t B.result c.args.table _ _ _ B.ensures.step)

pub returns-clause-reads : goal.returns-clause-reads
returns-clause-reads g c = record {
  read = first_read c.args.table.0 c.args.memtable false;
  reads = ap (λ (u : View). u.hands.reading) c.begin_read.ensures.step.view;
  of_table = refl;
  of_memtable = refl;
  kind = refl;
  none_taken = refl;
  seen_to = refl;
}

pub returns-clause-void : goal.returns-clause-void
returns-clause-void g c = λ q has. sym (ap (λ (r : FlushRead). r.seen)
    (same_Some (first_read c.args.table.0 c.args.memtable false) q
    (sym (ap (λ (u : View). u.hands.reading) c.begin_read.ensures.step.view) ∙ has)))
