-- What a seat knows that flushes a table, with the table's Flush turn and beside it the Sync turn.
use Rattle.std.specs.Prelude.{◌≡◌, ◌≢◌, ℕ, ◌<◌, [], Some, None, IsTrue, is_some}
use Rattle.atomic_table.specs.Table.{Me}
use Rattle.path_core.specs.declared.event.Cursor.TheVariants.{OldestLive}
use Rattle.path_core.specs.declared.event.Place.TheVariants.{CursorWord, Newest}
use Rattle.path_core.specs.declared.seat.Switching.TheVariants.{WithBarrier}
use Rattle.path_core.specs.Parts.{seat_table, stage_of, IsIdle}
use Rattle.path_rule.specs.declared.lasting.Lasting.{Lasting}
use Rattle.path_rule.specs.declared.slot.Slot.{Slot}
use Rattle.path_rule.specs.declared.view.View.{View}
use Rattle.path_rule.specs.Calls.{MayGive}
use Rattle.path_rule.specs.Desks.{HasDesk}
use Rattle.path_rule.specs.Finds.{Finds}
use Rattle.path_rule.specs.Layout.{numbers_end}
use Rattle.path_rule.specs.Switches.{FlushNewest, FlushOldest}
use Rattle.path_rule.specs.Turns.{FoundPast}
use Rattle.path_flush.specs.declared.flush_turn.Memtables.{Memtables}
use Rattle.path_flush.specs.declared.flush_turn.Memtables.TheVariants.{Left, Free}
use Rattle.path_flush.specs.FlushSteps.{FindsAlone, QuietSteps}

-- It has the Flush turn of a table that there is, and that of no other. It runs no write.
pub record IsHolder (t : ℕ) (v : View) : Type 0 where
  pub there : t < v.size.tables
  pub held : IsTrue (is_some (seat_table v.part t).flush)
  pub others : (u : ℕ) → u ≢ t → (seat_table v.part u).flush ≡ None
  pub idle : IsIdle v.part
  pub unclaimed : v.part.claim ≡ None

module _ {K : Type 0} where
  -- It has that turn alone, and no box, and reads no memtable.
  pub record HoldsTable (t : ℕ) (m : Me (Slot K) View) : Type 0 where
    pub holder : IsHolder t m.0
    pub unsynced : m.0.part.sync ≡ None
    pub bare : m.1 ≡ []
    pub unread : m.0.hands.reading ≡ None

  -- The same where it may have read a memtable.
  pub record HasTable (t : ℕ) (m : Me (Slot K) View) : Type 0 where
    pub holder : IsHolder t m.0
    pub unsynced : m.0.part.sync ≡ None
    pub bare : m.1 ≡ []

  -- It has the Sync turn beside it, with the desk as its only box.
  pub record HoldsBoth (shows : K → Lasting) (t : ℕ) (m : Me (Slot K) View) : Type 0 where
    pub holder : IsHolder t m.0
    pub gives : MayGive m.0
    pub desk : HasDesk shows m.0.hands.lasting m.0.hands.pending m.0.hands.progress m.1

-- Which memtables of the table there are, as it found at these steps: the least one that is not
-- retired lies below the newest; or they are the same one.
abbrev pub FindsMemtables : ℕ → Memtables → View → View → ℕ → Type 0
FindsMemtables t (Left m) v after w = (s : QuietSteps w t 0 v after)
    × Finds (CursorWord (OldestLive (record { 0 = t }))) m s.made.steps
    × ((n : ℕ) × Finds (Newest (record { 0 = t })) n s.made.steps × (m ≢ n))
FindsMemtables t (Free n) v after w = (s : QuietSteps w t 0 v after) × FindsAlone t n s.made.steps

-- It knows the least that is not retired, and the newest: the same one, or another.
abbrev pub KnowsMemtables : ℕ → Memtables → View → Type 0
KnowsMemtables t (Left m) v = (m < numbers_end) × FlushOldest t v.part m
    × ((n : ℕ) × FlushNewest t v.part n × (m ≢ n))
KnowsMemtables t (Free n) v = (n < numbers_end) × FlushOldest t v.part n × FlushNewest t v.part n

-- The barrier of a memtable of the table is that of this group, and passed: nothing more is placed
-- in it.
pub record IsDrained (t m group : ℕ) (v : View) : Type 0 where
  pub stage : stage_of v.part t ≡ Some (WithBarrier m group)
  pub past : FoundPast v.part group
  pub oldest : FlushOldest t v.part m
