-- What a seat that has a turn knows, and what taking and giving it back says of a seat before and
-- after.
use Rattle.std.specs.Prelude.{◌≡◌, ◌≢◌, ℕ, ◌<◌, false, List, [], Some, None}
use Rattle.atomic_table.specs.Table.{Me}
use Rattle.path_core.specs.declared.event.Event.TheVariants.{TakeTurn, GiveTurn}
use Rattle.path_core.specs.declared.event.Turn.{Turn}
use Rattle.path_core.specs.declared.event.Turn.TheVariants.{Sync, Flush}
use Rattle.path_core.specs.declared.note.EntryNote.{EntryNote}
use Rattle.path_core.specs.declared.seat.Issue.TheVariants.{Rest}
use Rattle.path_core.specs.declared.seat.Switching.TheVariants.{Settled}
use Rattle.path_core.specs.Next.{has_filed}
use Rattle.path_core.specs.Parts.{seat_table, stage_of, IsIdle}
use Rattle.path_rule.specs.declared.lasting.Lasting.{Lasting}
use Rattle.path_rule.specs.declared.slot.Slot.{Slot}
use Rattle.path_rule.specs.declared.view.Progress.{Progress}
use Rattle.path_rule.specs.declared.view.View.{View}
use Rattle.path_rule.specs.Calls.{Holds}
use Rattle.path_rule.specs.Desks.{HasDesk}
use Rattle.path_rule.specs.HandsAfter.{unswept_hands, with_desk}
use Rattle.path_rule.specs.Rounds.{IsAtRest}
use Rattle.path_rule.specs.Switches.{ReadsNone}
use Rattle.path_table.specs.declared.table.Member.{Member}
use Rattle.path_table.specs.Members.{hands_of, boxes_of, Stepped, SteppedAs}

-- It has the Sync turn, with no barrier under way and no box of another seat. It runs no write, and
-- filed nothing.
pub record HoldsSync (v : View) : Type 0 where
  pub holds : Holds Rest v
  pub unfiled : has_filed v.part ≡ false
  pub rests : IsAtRest v.part

module _ {K : Type 0} where
  -- It has the Flush turn of a table that there is, no other turn and no box. It runs no write,
  -- began no switch, and reads no memtable of the table.
  pub record HoldsFlush (t : ℕ) (m : Me (Slot K) View) : Type 0 where
    pub there : t < m.0.size.tables
    pub settled : stage_of m.0.part t ≡ Some Settled
    pub unread : ReadsNone t m.0.hands
    pub others : (u : ℕ) → u ≢ t → (seat_table m.0.part u).flush ≡ None
    pub unsynced : m.0.part.sync ≡ None
    pub idle : IsIdle m.0.part
    pub unclaimed : m.0.part.claim ≡ None
    pub bare : m.1 ≡ []

  -- It took the Sync turn, and knows what lies on the desk. The keeper on the desk was opened at
  -- this count of faults.
  pub record TookSync (at_open : ℕ) (m m' : Member K) : Type 0 where
    pub lasting : Lasting
    pub pending : List EntryNote
    pub progress : Progress
    pub step : SteppedAs m (TakeTurn m.number Sync) 1 (with_desk lasting pending progress
        (hands_of m)) m'
    pub opened : lasting.at_open ≡ at_open

  -- It took a turn: a table's brings no box.
  abbrev pub TookTurn : ℕ → Turn → Member K → Member K → Type 0
  TookTurn at_open Sync m m' = TookSync at_open m m'
  TookTurn at_open (Flush t) m m' = Stepped m (TakeTurn m.number (Flush t)) 1 m'

  -- It gave a turn back.
  abbrev pub GaveTurn : Turn → Member K → Member K → Type 0
  GaveTurn Sync m m' = SteppedAs m (GiveTurn m.number Sync) 0 (unswept_hands (hands_of m)) m'
  GaveTurn (Flush t) m m' = Stepped m (GiveTurn m.number (Flush t)) 0 m'

  -- the desk is its only box, with what it knows on it
  abbrev pub HoldsDesk : (K → Lasting) → Member K → Type 0
  HoldsDesk shows m = HasDesk shows (hands_of m).lasting (hands_of m).pending (hands_of m).progress
      (boxes_of m)
