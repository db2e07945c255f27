-- A step keeps the limits of a path's numbers.
use Rattle.std.proofs.Common.{◌≤◌, sym, subst, Ok, Err}
use Rattle.std.specs.declared.result.Result.{Result}
use Rattle.clog_base.specs.declared.fault.OutOfMemory.{OutOfMemory}
use Rattle.path_core.specs.declared.event.Event.{Event}
use Rattle.path_core.specs.declared.state.PathState.{PathState}
use Rattle.path_core.specs.Next.{next_of}
use Rattle.path_core.proofs.runs.Sizes.{as_many_tables}
use Rattle.path_machine.specs.Steps.{IsWithin, Makes}
use Rattle.path_machine.proofs.steps.Joining.{notes_stay_in_order}

stays_within : (x : PathState) (e : Event) → IsWithin x → IsWithin (next_of x e)
stays_within x e within = record {
  few_tables = subst (λ n. n ≤ 16) (sym (as_many_tables x e)) within.few_tables;
  capacity = within.capacity;
  notes = notes_stay_in_order x.notes e within.notes;
}

pub made_within : (r : Result (Unit {0}) OutOfMemory) (old new : PathState) (e : Event)
    → IsWithin old → Makes r old new e → IsWithin new
made_within (Ok u) old new e within is = subst IsWithin (sym is) (stays_within old e within)
made_within (Err f) old new e within is = subst IsWithin (sym is.0) within
