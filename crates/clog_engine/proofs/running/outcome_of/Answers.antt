use Rattle.std.proofs.Common.{◌≡◌, Option, Some, inl, refl, subst}
use Rattle.clog_words.specs.declared.built.Built.{Built}
use Rattle.clog_words.specs.declared.built.Built.TheVariants.{Drill}
use Rattle.clog_engine.specs.Request.{Asks}
use Rattle.clog_engine.proofs.running.outcome_of.Goals as goal

pub returns-in-Ok-Some-Drill-clause-done : goal.returns-in-Ok-Some-Drill-clause-done
returns-in-Ok-Some-Drill-clause-done g c =
    let drill = c.in-Ok-Some-Drill in
    let some = drill.field-0-is in
    let which = drill.field-0-0-is in
    let request : Option Built = Some (Drill drill.seed drill.count) in
    let same : drill.field-0 ≡ request = cc in
    inl (record {
      request = request;
      asked = subst (Asks c.args.words.now) same drill.ensures;
      done = (c.drill.ensures.drills _ _ _ _, record { left = refl; faults = refl });
    })
