-- What the contracts say of the members of a table.
use Rattle.std.specs.Prelude.{◌≡◌, ℕ, Bool, List, [], ◌∷◌, ◌++◌, Option}
use Rattle.std.specs.List.Sorted.{IsPermutation}
use Rattle.atomic_table.specs.Seated.{TableId}
use Rattle.atomic_table.specs.Table.{rest}
use Rattle.clog_base.specs.declared.cell.Table.{Table}
use Rattle.path_core.specs.declared.event.Event.{Event}
use Rattle.path_core.specs.declared.note.EntryNote.{EntryNote}
use Rattle.path_core.specs.declared.seat.Seat.{Seat}
use Rattle.path_rule.specs.declared.slot.Slot.{Slot}
use Rattle.path_rule.specs.declared.slot.Slot.TheVariants.{Notes}
use Rattle.path_rule.specs.declared.view.Hands.{Hands}
use Rattle.path_rule.specs.declared.view.PathSize.{PathSize}
use Rattle.path_rule.specs.declared.view.Returned.{Returned}
use Rattle.path_rule.specs.declared.view.View.{View}
use Rattle.path_rule.specs.Boxes.{box_of, memtable_box}
use Rattle.path_rule.specs.Calls.{Did, DidAs, FiledAs}
use Rattle.path_rule.specs.FilingTold.{AreArchived, MayBeGone, noted}
use Rattle.path_rule.specs.HandsAfter.{with_desk}
use Rattle.path_rule.specs.Lasts.{refused_lasting}
use Rattle.path_rule.specs.TurnTold.{IsKeptNow}
use Rattle.path_table.specs.declared.table.Member.{Member}

module _ {K : Type 0} where
  -- what a member knows, and the boxes that it has, the one that it took last in front
  abbrev pub view_of : Member K → View
  view_of m = m.seat.me.0

  abbrev pub boxes_of : Member K → List (ℕ × Slot K)
  boxes_of m = m.seat.me.1

  abbrev pub part_of : Member K → Seat
  part_of m = (view_of m).part

  abbrev pub hands_of : Member K → Hands
  hands_of m = (view_of m).hands

  -- It is a member of the table with this id, which has these sizes.
  abbrev pub IsOf : TableId → PathSize → Member K → Type 0
  IsOf id size m = (m.seat.table_id ≡ id) × (m.seat.me.0.size ≡ size)

  -- It is the same member of the same table.
  abbrev pub IsSame : Member K → Member K → Type 0
  IsSame m m' = (m'.seat.table_id ≡ m.seat.table_id) × (m'.number ≡ m.number)

  -- the same with the same boxes
  abbrev pub KeepsBoxes : Member K → Member K → Type 0
  KeepsBoxes m m' = (m'.seat.table_id ≡ m.seat.table_id) × (m'.number ≡ m.number)
      × (m'.seat.me.1 ≡ m.seat.me.1)

  -- and of a table with the same sizes
  abbrev pub KeepsSizes : Member K → Member K → Type 0
  KeepsSizes m m' = (m'.seat.table_id ≡ m.seat.table_id) × (m'.number ≡ m.number)
      × (m'.seat.me.1 ≡ m.seat.me.1) × (m'.seat.me.0.size ≡ m.seat.me.0.size)

  -- the same, and the box that it took last is at home again
  abbrev pub PutsBack : Member K → Member K → Type 0
  PutsBack m m' = (m'.seat.table_id ≡ m.seat.table_id) × (m'.number ≡ m.number)
      × (m'.seat.me.1 ≡ rest m.seat.me.1)

  -- It made the step e, at which n was found or stored, and knows of its boxes what it knew.
  abbrev pub Stepped : Member K → Event → ℕ → Member K → Type 0
  Stepped m e n m' = Did m.seat.me.0 m.number e n m'.seat.me.0

  -- It made that step, and knows h of its boxes since.
  abbrev pub SteppedAs : Member K → Event → ℕ → Hands → Member K → Type 0
  SteppedAs m e n h m' = DidAs m.seat.me.0 m.number e n h m'.seat.me.0

  -- It made that step, which gave a table file that begins above a key.
  abbrev pub SteppedFiled : Member K → Event → ℕ → ℕ → Hands → Member K → Type 0
  SteppedFiled m e n lower h m' = FiledAs m.seat.me.0 m.number e n lower h m'.seat.me.0

  -- It made that step after the keeper refused a table file, or dropped segments, and may have
  -- stopped with a count of faults. It knows since what the keeper shows.
  abbrev pub SteppedNoted : Option ℕ → Member K → Event → ℕ → Member K → Type 0
  SteppedNoted stopped m e n m' = (refused : Bool) × (archived : List ℕ) × (dropped : List ℕ)
      × (MayBeGone m.seat.me.0 dropped × AreArchived m.seat.me.0 dropped archived)
      × SteppedAs m e n (with_desk (noted refused archived dropped stopped
      m.seat.me.0.hands.lasting) m.seat.me.0.hands.pending m.seat.me.0.hands.progress
      m.seat.me.0.hands) m'

  -- It made that step after a sync up to a key that was refused. It knows since what lies on the
  -- desk: all is pending still, in some order, and the keeper may have kept a part, and may have
  -- stopped with a count of faults.
  abbrev pub SteppedRefused : ℕ → Option ℕ → Member K → Event → ℕ → Member K → Type 0
  SteppedRefused upto stopped m e n m' = (kept : List EntryNote) × (pending : List EntryNote)
      × IsPermutation m.seat.me.0.hands.pending pending × IsKeptNow upto m.seat.me.0.hands kept
      × SteppedAs m e n (with_desk (refused_lasting kept stopped m.seat.me.0.hands.lasting) pending
      m.seat.me.0.hands.progress m.seat.me.0.hands) m'

  -- its box for the group, which it took last, holds this note behind what was there
  abbrev pub HasDeposit : Member K → ℕ → EntryNote → Type 0
  HasDeposit m group note = m.seat.me.1
      ≡ (box_of m.number group, Notes (m.seat.me.0.hands.notes ++ note ∷ [])) ∷ rest m.seat.me.1

  -- its box of the memtable of a table, which it took last, holds this note behind what was there
  abbrev pub HoldsNote : ℕ → Member K → Table → ℕ → EntryNote → Type 0
  HoldsNote seats m table memtable note = m.seat.me.1
      ≡ (
        memtable_box seats m.number table.0 memtable,
        Notes (m.seat.me.0.hands.held ++ note ∷ []),
      ) ∷ rest m.seat.me.1

  -- what it knows, for the seat that takes it in
  abbrev pub returned_of : Member K → Returned
  returned_of m = record {
    number = m.number;
    part = m.seat.me.0.part;
    trail = m.seat.me.0.trail;
  }
