use Rattle.std.proofs.Common.{ℕ, sym, ap, ◌∙◌, subst}
use Rattle.std.specs.Prelude.{is_some}
use Rattle.clog_closing.specs.Gaps.{StandApart}
use Rattle.path_core.specs.Keeper.{Holding}
use Rattle.path_rule.specs.declared.view.PathSize.{PathSize}
use Rattle.write_path.specs.Closed.{AreAll, StaysBeside}
use Rattle.write_path.specs.Opened.{numbers_of}
use Rattle.clog_shares.specs.Crews.{AreDealt}
use Rattle.clog_writers.proofs.Apart.{stand_apart}
use Rattle.clog_writers.proofs.Running.{
  all_numbers,
  back_logged,
  back_waited,
  lent_ready,
  ran,
  sized_as,
}
use Rattle.clog_writers.proofs.logging.run_crew.Goals as goal

pub commit_all-requires-clause-ready : goal.commit_all-requires-clause-ready
commit_all-requires-clause-ready g c κs within =
    let t = c.args.path.table in
    let f = c.args.flush_at in
    let d = c.requires.dealt in
    let open_for = c.requires.open in
    let sized = sized_as t.size c.args.sizes open_for.0 open_for.1.at_open (is_some f)
    open_for.1.size_is in (
      d.0,
      lent_ready t.table.shared.table_id t.size c.args.sizes sized f d.0 c.args.workers.len
          c.args.workers.items c.seat_all.new.workers c.as_mut_slice-2.result.now _ d.1
          c.args.workers.ok.0 c.as_mut_slice-2.ensures.value
          (c.seat_all.ensures f d.0
          (subst (AreDealt c.args.sizes f d.0) (sym c.as_mut_slice.ensures.value) d.1)),
    )

pub commit_all-requires-clause-files : goal.commit_all-requires-clause-files
commit_all-requires-clause-files g c κs within = λ flushes.
    ap (λ (z : PathSize). z.files) c.requires.open.1.size_is ∙ flushes

pub end_all-fault-requires-clause-logged : goal.end_all-fault-requires-clause-logged
end_all-fault-requires-clause-logged g c =
    let t = c.args.path.table in
    let f = c.args.flush_at in
    let id = t.table.shared.table_id in
    let d = c.requires.dealt in
    let open_for = c.requires.open in
    let sized = sized_as t.size c.args.sizes open_for.0 open_for.1.at_open (is_some f)
    open_for.1.size_is in (
      f,
      d.0,
      back_logged id t.size c.args.sizes sized f d.0 c.args.workers.len c.args.workers.items
          c.commit_all.new.workers _ d.1 c.args.workers.ok.0
          (c.commit_all.ensures.logged d.0
          (lent_ready id t.size c.args.sizes sized f d.0 c.args.workers.len c.args.workers.items
          c.seat_all.new.workers c.as_mut_slice-2.result.now _ d.1 c.args.workers.ok.0
          c.as_mut_slice-2.ensures.value
          (c.seat_all.ensures f d.0
          (subst (AreDealt c.args.sizes f d.0) (sym c.as_mut_slice.ensures.value) d.1)))),
    )

pub close-keeper-requires-clause-seats : goal.close-keeper-requires-clause-seats
close-keeper-requires-clause-seats g c =
    let t = c.args.path.table in
    let f = c.args.flush_at in
    let id = t.table.shared.table_id in
    let d = c.requires.dealt in
    let open_for = c.requires.open in
    let sized = sized_as t.size c.args.sizes open_for.0 open_for.1.at_open (is_some f)
    open_for.1.size_is in
    let ended = c.end_all-fault.ensures.ended f d.0
    (back_logged id t.size c.args.sizes sized f d.0 c.args.workers.len c.args.workers.items
    c.commit_all.new.workers _ d.1 c.args.workers.ok.0
    (c.commit_all.ensures.logged d.0
    (lent_ready id t.size c.args.sizes sized f d.0 c.args.workers.len c.args.workers.items
    c.seat_all.new.workers c.as_mut_slice-2.result.now _ d.1 c.args.workers.ok.0
    c.as_mut_slice-2.ensures.value
    (c.seat_all.ensures f d.0
    (subst (AreDealt c.args.sizes f d.0) (sym c.as_mut_slice.ensures.value) d.1))))) in
    λ i e inside. (ended.each i e inside).of_path

pub close-keeper-requires-clause-all : goal.close-keeper-requires-clause-all
close-keeper-requires-clause-all g c =
    let t = c.args.path.table in
    let f = c.args.flush_at in
    let id = t.table.shared.table_id in
    let d = c.requires.dealt in
    let open_for = c.requires.open in
    let sized = sized_as t.size c.args.sizes open_for.0 open_for.1.at_open (is_some f)
    open_for.1.size_is in
    let seats = c.end_all-fault.new.seats.items in
    let ended = c.end_all-fault.ensures.ended f d.0
    (back_logged id t.size c.args.sizes sized f d.0 c.args.workers.len c.args.workers.items
    c.commit_all.new.workers _ d.1 c.args.workers.ok.0
    (c.commit_all.ensures.logged d.0
    (lent_ready id t.size c.args.sizes sized f d.0 c.args.workers.len c.args.workers.items
    c.seat_all.new.workers c.as_mut_slice-2.result.now _ d.1 c.args.workers.ok.0
    c.as_mut_slice-2.ensures.value
    (c.seat_all.ensures f d.0
    (subst (AreDealt c.args.sizes f d.0) (sym c.as_mut_slice.ensures.value) d.1))))) in
    subst (λ o. AreAll o t.size.seats (numbers_of seats)) (sym c.requires.made)
    (all_numbers id t.size f d.0 c.end_all-fault.result seats ended)

pub returns-clause-ends : goal.returns-clause-ends
returns-clause-ends g c = λ base before open_for is fresh.
    let t = c.args.path.table in
    let f = c.args.flush_at in
    let id = t.table.shared.table_id in
    let d = c.requires.dealt in
    let sized = sized_as t.size c.args.sizes base open_for.at_open (is_some f)
    open_for.size_is in
    let closed = c.close-keeper in
    ran c.args.sizes f base before (g.K.Keeper.holds closed.result.0) fresh t.size
    (ap (λ (z : PathSize). z.base) open_for.size_is)
    (ap (λ (z : PathSize). z.files) open_for.size_is) c.end_all-fault.new.seats.items
    closed.result.1.end.0 closed.ensures.outcome.0
    (subst (λ (h : Holding). StaysBeside t.size h (g.K.Keeper.holds closed.result.0)) is
    closed.ensures.beside)
    id open_for.at_open open_for.size_is c.args.workers.items c.end_all-fault.result d.0 d.1
    (λ ms dealt. c.end_all-fault.ensures.ended f ms
    (back_logged id t.size c.args.sizes sized f ms c.args.workers.len c.args.workers.items
    c.commit_all.new.workers _ dealt c.args.workers.ok.0
    (c.commit_all.ensures.logged ms
    (lent_ready id t.size c.args.sizes sized f ms c.args.workers.len c.args.workers.items
    c.seat_all.new.workers c.as_mut_slice-2.result.now _ dealt c.args.workers.ok.0
    c.as_mut_slice-2.ensures.value
    (c.seat_all.ensures f ms
    (subst (AreDealt c.args.sizes f ms) (sym c.as_mut_slice.ensures.value) dealt))))))

pub returns-clause-apart : goal.returns-clause-apart
returns-clause-apart g c = λ batch.
    let t = c.args.path.table in
    let f = c.args.flush_at in
    let id = t.table.shared.table_id in
    let d = c.requires.dealt in
    let open_for = c.requires.open in
    let sized = sized_as t.size c.args.sizes open_for.0 open_for.1.at_open (is_some f)
    open_for.1.size_is in
    let seats = c.end_all-fault.new.seats.items in
    let logged = c.commit_all.ensures.logged d.0
    (lent_ready id t.size c.args.sizes sized f d.0 c.args.workers.len c.args.workers.items
    c.seat_all.new.workers c.as_mut_slice-2.result.now _ d.1 c.args.workers.ok.0
    c.as_mut_slice-2.ensures.value
    (c.seat_all.ensures f d.0
    (subst (AreDealt c.args.sizes f d.0) (sym c.as_mut_slice.ensures.value) d.1))) in
    let ended = c.end_all-fault.ensures.ended f d.0
    (back_logged id t.size c.args.sizes sized f d.0 c.args.workers.len c.args.workers.items
    c.commit_all.new.workers _ d.1 c.args.workers.ok.0 logged) in
    let waited = c.end_all-fault.ensures.waited
    (back_waited id t.size c.args.sizes sized f d.0 c.args.workers.len c.args.workers.items
    c.commit_all.new.workers _ d.1 c.args.workers.ok.0 logged (c.commit_all.ensures.waited batch))
    in
    let held = g.K.Keeper.holds c.close-keeper.result.0 in
    subst (λ (k : ℕ). StandApart k held.logged) (sym sized.capacity)
    (stand_apart id t.size f d.0 c.end_all-fault.result seats ended
    c.close-keeper.result.1.end.0 held c.close-keeper.ensures.outcome.0 waited)
