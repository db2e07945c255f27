-- A line whose note touches a table has an update of it.
use Rattle.std.proofs.Common.{ℕ, ◌≤◌, arith, eq-eqb}
use Rattle.std.proofs.lemmas.List.Sums.{length-filter}
use Rattle.clog_mutation.specs.declared.mutation.Mutation.{Mutation}
use Rattle.clog_applied.specs.Flushed.{is_update_of, updates_of}
use Rattle.clog_applied.proofs.Lists.{in_filter}
use Rattle.path_core.specs.Whole.{Updates}

pub some_update : (m : Mutation) (t : ℕ) → Updates m t → 1 ≤ updates_of (record { 0 = t }) m
some_update m t U =
    let p = is_update_of (record { 0 = t }) in
    let among = in_filter p m.updates U.update U.among (eq-eqb U.update.table.0 t U.table) in
    let inside = among.1 in
    let count = length-filter p m.updates in
    omega (arith, inside, count)
