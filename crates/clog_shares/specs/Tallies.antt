-- What a writer's tally tells of its seat while it logs.
use Rattle.std.specs.Prelude.{◌≡◌, ◌⊎◌, ℕ, zero, suc, ◌+◌, ◌<◌, ◌≤◌, List, cond, min, nat_le}
use Rattle.std.specs.Prelude.{reverse, slice_index, Option, Some, None, ⊤}
use Rattle.clog_spec.specs.Sizes.{most_tables}
use Rattle.path_core.specs.declared.event.Place.TheVariants.{TurnWord}
use Rattle.path_core.specs.declared.event.Turn.TheVariants.{Flush as FlushTurn}
use Rattle.path_rule.specs.declared.view.OwnStep.{OwnStep}
use Rattle.path_rule.specs.Calls.{FoundSince}
use Rattle.path_flush.specs.OwnWrites.{writes_of}
use Rattle.clog_shares.specs.declared.tally.LineCounts.{LineCounts}
use Rattle.clog_shares.specs.declared.tally.UpdateTally.{UpdateTally}
use Rattle.clog_shares.specs.Tallied.{IsTallied}

-- at how many updates a writer with this tally flushes, if it does
abbrev pub limit_of : Option UpdateTally → Option ℕ
limit_of None = None
limit_of (Some tally) = Some tally.most

-- Of a table the tally has the number of the updates that are not known to be flushed, or the
-- number at which the writer flushes, where that is less.
pub record IsTallyFor (writer : ℕ) (tally : UpdateTally) (trail : List OwnStep) (t : ℕ) :
    Type 0 where
  pub count : ℕ
  pub tallied : IsTallied tally.most writer t count (reverse (writes_of trail)) trail
  pub is : slice_index tally.counts t ≡ min tally.most count

-- so it has of each table
abbrev pub Tallies : ℕ → UpdateTally → List OwnStep → Type 0
Tallies writer tally trail = (t : ℕ) → t < most_tables → IsTallyFor writer tally trail t

-- where there is one
abbrev pub MayTally : ℕ → Option UpdateTally → List OwnStep → Type 0
MayTally writer None trail = ⊤
MayTally writer (Some tally) trail = Tallies writer tally trail

-- nothing is counted yet
abbrev pub HasNone : Option UpdateTally → Type 0
HasNone None = ⊤
HasNone (Some tally) = (t : ℕ) → slice_index tally.counts t ≡ 0

-- The counts of a line are added, up to the number at which the writer flushes.
abbrev pub AddsCounts : Option UpdateTally → Option LineCounts → Option UpdateTally → Type 0
AddsCounts (Some tally) (Some line) (Some now) = (t : ℕ) → t < most_tables
    → slice_index now.counts t
    ≡ min tally.most (slice_index tally.counts t + slice_index line.of_tables t)
AddsCounts (Some tally) (Some line) None = ⊥
AddsCounts None counts now = ⊤
AddsCounts (Some tally) None now = ⊤

-- ---- when it flushes

-- no flush of a table is due
abbrev pub IsNotDue : UpdateTally → ℕ → Type 0
IsNotDue tally t = slice_index tally.counts t < tally.most

-- nor of any, where the writer flushes
abbrev pub AreNotDue : Option UpdateTally → Type 0
AreNotDue None = ⊤
AreNotDue (Some tally) = (t : ℕ) → t < most_tables → IsNotDue tally t

-- one where a flush of the table is due, else none
abbrev pub due_at : UpdateTally → ℕ → ℕ
due_at tally t = cond (nat_le tally.most (slice_index tally.counts t)) 1 0

-- of how many of the first tables one is
abbrev pub due_below : ℕ → UpdateTally → ℕ
due_below zero tally = 0
due_below (suc n) tally = due_below n tally + due_at tally n

-- Or it was tried: another seat was found to have the table's turn, at a step whose number is above
-- this.
abbrev pub IsTried : ℕ → UpdateTally → List OwnStep → ℕ → Type 0
IsTried before tally trail t = IsNotDue tally t
    ⊎ FoundSince before (TurnWord (FlushTurn (record { 0 = t }))) 1 trail

-- so it was of each table, where the writer flushes
abbrev pub AreTried : ℕ → UpdateTally → List OwnStep → Type 0
AreTried before tally trail =
    1 ≤ tally.most → (t : ℕ) → t < most_tables → IsTried before tally trail t

abbrev pub MayTry : ℕ → Option UpdateTally → List OwnStep → Type 0
MayTry before None trail = ⊤
MayTry before (Some tally) trail = AreTried before tally trail
