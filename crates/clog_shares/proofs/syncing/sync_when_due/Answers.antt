use Rattle.std.proofs.Common.{[], inl, inr, refl}
use Rattle.clog_shares.proofs.Timing.{none_due}
use Rattle.clog_shares.proofs.syncing.sync_when_due.Goals as goal

-- ---- a sync is due

pub returns-in-Some-clause-due : goal.returns-in-Some-clause-due
returns-in-Some-clause-due g c = λ period periodic.
    let told = c.in-Some.ensures in
    let done = c.sync_seat-seat.ensures in (
      c.in-Some.now_ms,
      told.0,
      inl (told.1, record { next_is = refl; synced = done.synced; seals = done.seals }),
    )

pub returns-in-Some-clause-batch : goal.returns-in-Some-clause-batch
returns-in-Some-clause-batch g c = λ batch.
    absurd (none_due c.args.mode c.in-Some.now_ms c.args.last_ms batch c.in-Some.ensures.1)

-- ---- none is

pub returns-in-None-clause-keeps : goal.returns-in-None-clause-keeps
returns-in-None-clause-keeps g c =
    ((c.requires.table, refl), refl, record { newer = []; is = refl })

pub returns-in-None-clause-opened : goal.returns-in-None-clause-opened
returns-in-None-clause-opened g c = λ t. refl

pub returns-in-None-clause-due : goal.returns-in-None-clause-due
returns-in-None-clause-due g c = λ period periodic.
    let told = c.in-None.ensures period periodic in (
      told.0,
      told.1,
      inr (told.2, record { next_is = refl; seat_is = refl; none_refused = refl }),
    )

pub returns-in-None-clause-batch : goal.returns-in-None-clause-batch
returns-in-None-clause-batch g c = λ batch.
    record { next_is = refl; seat_is = refl; none_refused = refl }
