-- Writers that flush: how many updates of each table a writer has logged since its last finished
-- flush of it, and what its seat knows of the writes before. Each memtable that it has opened is
-- paid for by updates.
use Rattle.std.specs.Prelude.{
  ◌≡◌,
  ◌⊎◌,
  ℕ,
  ◌*◌,
  ◌<◌,
  ◌≤◌,
  List,
  [],
  ◌∷◌,
  ◌++◌,
  reverse,
  slice_index,
  Option,
  Some,
  None,
  ⊤,
}
use Rattle.std.specs.List.{Contains, count_by, sum_by}
use Rattle.clog_spec.specs.Sizes.{most_tables}
use Rattle.clog_mutation.specs.declared.mutation.Mutation.{Mutation}
use Rattle.clog_mutation.specs.declared.mutation.Update.{Update}
use Rattle.clog_applied.specs.Flushed.{is_update_of, updates_in}
use Rattle.clog_applied.specs.History.{Line}
use Rattle.path_core.specs.declared.note.EntryNote.{EntryNote}
use Rattle.path_rule.specs.declared.view.OwnStep.{OwnStep}
use Rattle.path_table.specs.declared.trying.PathSeat.{PathSeat}
use Rattle.path_table.specs.Members.{view_of}
use Rattle.write_path.specs.ClosedFiles.{HasRetired}
use Rattle.path_flush.specs.OwnWrites.{writes_of}
use Rattle.path_flush.specs.Opens.{opens}
use Rattle.clog_shares.specs.declared.tally.LineCounts.{LineCounts}
use Rattle.clog_shares.specs.Shares.{AreWritesOf, logged_by}

-- ---- lines

-- how many updates of a table, by its number, these lines have
abbrev pub updates_for : ℕ → List Line → ℕ
updates_for t lines = sum_by (updates_in (record { 0 = t })) lines

-- these are the numbers of updates of each table among some
abbrev pub HasCounts : List Update → List ℕ → Type 0
HasCounts updates counts = (t : ℕ) → t < most_tables
    → slice_index counts t ≡ count_by (is_update_of (record { 0 = t })) updates

-- the updates of a mutation are counted, table by table
abbrev pub IsCountOf : Mutation → LineCounts → Type 0
IsCountOf m counts = HasCounts m.updates counts.of_tables

-- those of lines, one by one
abbrev pub AreCountsOf : List Line → List LineCounts → Type 0
AreCountsOf [] [] = ⊤
AreCountsOf [] (c ∷ cs) = ⊥
AreCountsOf (l ∷ ls) [] = ⊥
AreCountsOf (l ∷ ls) (c ∷ cs) = IsCountOf l.mutation c × AreCountsOf ls cs

-- counts are there where writers flush, and only there
abbrev pub AreCountedFor : Option ℕ → List Line → List LineCounts → Type 0
AreCountedFor None lines counts = counts ≡ []
AreCountedFor (Some most) lines counts = AreCountsOf lines counts

-- those of one line, likewise
abbrev pub IsCountedFor : Option ℕ → Mutation → Option LineCounts → Type 0
IsCountedFor None m counts = counts ≡ None
IsCountedFor (Some most) m None = ⊥
IsCountedFor (Some most) m (Some c) = IsCountOf m c

-- the counts of lines, with those of one more where they were taken
abbrev pub with_counts : List LineCounts → Option LineCounts → List LineCounts
with_counts counts None = counts
with_counts counts (Some c) = counts ++ c ∷ []

-- ---- a seat

-- A seat with this trail knows that these writes are flushed of a table: a memtable that was final
-- at or above the end of each is retired.
pub record IsFlushedOver (t : ℕ) (writes : List EntryNote) (trail : List OwnStep) : Type 0 where
  pub key : ℕ
  pub flushed : HasRetired (record { 0 = t }) key trail
  pub covers : (n : EntryNote) → Contains writes n → n.end.0 ≤ key

-- A writer's writes, the oldest first, are those of lines. It knows that the first of them are
-- flushed of a table, or there are none of these, and they have at least `most` updates of it for
-- each of its memtables that the writer has opened; the others have so many updates of it.
pub record IsTallied (most writer t count : ℕ) (writes : List EntryNote) (trail : List OwnStep)
    : Type 0 where
  pub early : List EntryNote
  pub late : List EntryNote
  pub parts : writes ≡ early ++ late
  pub flushed : (early ≡ []) ⊎ IsFlushedOver t early trail
  pub front : List Line
  pub are_early : AreWritesOf writer front early
  pub opened : most * opens t trail ≤ updates_for t front
  pub rest : List Line
  pub are_late : AreWritesOf writer rest late
  pub counted : count ≡ updates_for t rest

-- A writer's writes are those of lines which have at least `most` updates of a table for each of
-- its memtables that the writer has opened.
pub record IsPaid (most writer t : ℕ) (writes : List EntryNote) (trail : List OwnStep) : Type 0
  where
    pub lines : List Line
    pub are : AreWritesOf writer lines writes
    pub opened : most * opens t trail ≤ updates_for t lines

-- so it is of each table, where it flushes
abbrev pub ArePaid : Option ℕ → ℕ → List OwnStep → Type 0
ArePaid None writer trail = ⊤
ArePaid (Some most) writer trail = (t : ℕ) → t < most_tables
    → IsPaid most writer t (reverse (writes_of trail)) trail

-- it has opened no memtable more
abbrev pub OpensNone : List OwnStep → List OwnStep → Type 0
OpensNone before after = (t : ℕ) → opens t after ≡ opens t before

module _ {K : Type 0} where
  -- So a seat's writes are, with fewer updates left than the number at which it flushes.
  pub record IsFlushedOf (most t : ℕ) (s : PathSeat K) : Type 0 where
    pub count : ℕ
    pub few : count < most
    pub tallied : IsTallied most s.member.number t count (logged_by s.member)
        (view_of s.member).trail

  -- so they are for each table, where it flushes
  abbrev pub HasFlushedAll : Option ℕ → PathSeat K → Type 0
  HasFlushedAll None s = ⊤
  HasFlushedAll (Some most) s = (t : ℕ) → t < most_tables → IsFlushedOf most t s

  -- These lines of a seat have at least so many updates of a table as it flushes at for each of the
  -- table's memtables that it has opened.
  abbrev pub HasOpened : Option ℕ → List Line → PathSeat K → Type 0
  HasOpened flush lines s = (most : ℕ) → flush ≡ Some most → (t : ℕ) → t < most_tables
      → most * opens t (view_of s.member).trail ≤ updates_for t lines
