-- How a write ends, and what it adds to its seat's list.
use Rattle.std.specs.Prelude.{◌≡◌, ℕ, ◌+◌, ◌<◌, ◌≤◌, nat_le, if◌then◌else◌, List, [], ◌∷◌}
use Rattle.std.specs.Prelude.{◌++◌, map, Some, None}
use Rattle.atomic_table.specs.Seated.{TableId}
use Rattle.clog_base.specs.declared.cell.Table.{Table}
use Rattle.clog_base.specs.declared.sizes.Sizes.{Sizes}
use Rattle.clog_mutation.specs.declared.mutation.Mutation.{Mutation}
use Rattle.op_core.specs.declared.count.Order.TheVariants.{Write}
use Rattle.path_core.specs.declared.event.Carried.TheVariants.{Deposit, Applied}
use Rattle.path_core.specs.declared.event.Event.{Event}
use Rattle.path_core.specs.declared.event.Cursor.TheVariants.{OldestLive}
use Rattle.path_core.specs.declared.event.ClaimKind.TheVariants.{Entry}
use Rattle.path_core.specs.declared.event.Event.TheVariants.{Look, Claim, Close, Raise}
use Rattle.path_core.specs.declared.event.Place.TheVariants.{Bound, CursorWord, Newest}
use Rattle.path_core.specs.declared.note.EntryNote.{EntryNote}
use Rattle.path_core.specs.declared.seat.SeatTable.{SeatTable}
use Rattle.path_core.specs.declared.state.Placed.{Placed}
use Rattle.path_core.specs.declared.state.Bound.{Bound as BoundOf}
use Rattle.path_core.specs.declared.state.Bound.TheVariants.{Live, Raising, Final}
use Rattle.path_core.specs.Allowed.{IsItsPlaces}
use Rattle.path_core.specs.Parts.{seat_table}
use Rattle.path_rule.specs.declared.view.Hands.{Hands}
use Rattle.path_rule.specs.declared.view.OwnStep.{OwnStep}
use Rattle.path_rule.specs.declared.view.PathSize.{PathSize}
use Rattle.path_rule.specs.declared.view.View.{View}
use Rattle.path_rule.specs.Applying.{AreApplied}
use Rattle.path_rule.specs.Calls.{Did}
use Rattle.path_rule.specs.Layout.{numbers_end}
use Rattle.path_rule.specs.Rule.{event_of}
use Rattle.path_table.specs.declared.table.Member.{Member}
use Rattle.path_table.specs.Members.{part_of}
use Rattle.write_path.specs.declared.deposited.Deposited.{Deposited}
use Rattle.write_path.specs.declared.accepting.Accept.{Accept}
use Rattle.write_path.specs.declared.accepting.Accept.TheVariants.{Yes, Later}
use Rattle.write_path.specs.declared.prepared.Prepared.{Prepared}
use Rattle.path_flush.specs.OwnWrites.{writes_of}
use Rattle.path_flush.specs.Seats.{Stays}
use Rattle.write_path.specs.Writes.{IsPrepared, IsNoteOf}

-- Write n is the last that these steps logged, the newest one first, and no entry was claimed
-- since.
abbrev pub LastBy : EntryNote → Event → Type 0 → Type 0
LastBy n (Close by order group (Deposit note)) older = note ≡ n
LastBy n (Claim by from to Entry) older = ⊥
LastBy n _ older = older

abbrev pub IsLast : EntryNote → List Event → Type 0
IsLast n [] = ⊥
IsLast n (e ∷ es) = LastBy n e (IsLast n es)

-- The list is the old one and this write, the seat's last: its note is by this seat, has this range
-- and these tables, and says what was prepared.
pub record IsListed (before after : List OwnStep) (by start end tables : ℕ)
    (prepared : Prepared) : Type 0 where
  pub note : EntryNote
  pub list : writes_of after ≡ note ∷ writes_of before
  pub last : IsLast note (map event_of after)
  pub writer : note.writer.0 ≡ by
  pub starts : note.start.0 ≡ start
  pub ends : note.end.0 ≡ end
  pub tables_are : note.tables ≡ tables
  pub of : (sizes : Sizes) (line : ℕ) (m : Mutation) → IsPrepared sizes line m prepared
      → IsNoteOf line m note

-- A try of seat w at a memtable: a look at the oldest live or the newest one of a table, or at the
-- bound of one, or a raise of a bound.
abbrev pub IsTry : ℕ → Event → Type 0
IsTry w (Look by (CursorWord (OldestLive t))) = by ≡ w
IsTry w (Look by (Newest t)) = by ≡ w
IsTry w (Look by (Bound t m)) = by ≡ w
IsTry w (Raise by t m to) = by ≡ w
IsTry w _ = ⊥

abbrev pub AreTries : ℕ → List OwnStep → Type 0
AreTries w [] = Unit {0}
AreTries w (t ∷ ts) = IsTry w t.event × AreTries w ts

-- Seat w made such tries alone.
pub record OnlyTried (w : ℕ) (v after : View) : Type 0 where
  pub tries : List OwnStep
  pub are : AreTries w tries
  pub trail : after.trail ≡ tries ++ v.trail
  pub hands : after.hands ≡ v.hands
  pub returned : after.returned ≡ v.returned

-- what a seat knows of its boxes, with those of memtables as it knows them later
abbrev pub put_since : Hands → Hands → Hands
put_since h later = record h {
  memtable_box = later.memtable_box;
  held = later.held;
  applied = later.applied;
}

-- Seat w made such tries alone, and may have put its entry into memtables.
pub record OnlyPlaced (w : ℕ) (v after : View) : Type 0 where
  pub tries : List OwnStep
  pub are : AreTries w tries
  pub trail : after.trail ≡ tries ++ v.trail
  pub hands : after.hands ≡ put_since v.hands after.hands
  pub put : List Placed
  pub applied : after.hands.applied ≡ put ++ v.hands.applied
  pub returned : after.returned ≡ v.returned

-- What a memtable answers to a write with this end that tries it: it took it, and is its place; or
-- it was found to be final at a key below that end, and the write tries the next one.
abbrev pub HasTried : ℕ → ℕ → Accept → SeatTable → Type 0
HasTried end m Yes after = after.place ≡ Some m
HasTried end m (Later key) after =
    (after.bound ≡ Some (record { memtable = m; bound = Final key })) × (key.0 < end)
    × (after.trying ≡ Some (m + 1)) × (m + 1 < numbers_end)

-- what a bound that is not raising answers
abbrev pub answered : ℕ → BoundOf → Accept
answered end Live = Yes
answered end (Raising key) = Yes
answered end (Final key) = if nat_le end key.0 then Yes else Later key

module _ {K : Type 0} where
  -- It is the same write of the same seat, whose list is as it was.
  pub record IsSameWrite (id : TableId) (size : PathSize) (s s' : Deposited K) : Type 0 where
    pub member : Stays id size s.member s'.member
    pub writing : s'.writing ≡ s.writing
    pub start : s'.start ≡ s.start
    pub end : s'.end ≡ s.end
    pub tables : s'.tables ≡ s.tables
    pub list : writes_of s'.member.seat.me.0.trail ≡ writes_of s.member.seat.me.0.trail
    pub tried : OnlyTried s.member.number s.member.seat.me.0 s'.member.seat.me.0

  -- The same where the seat may have put its entry into memtables.
  pub record IsWriteStill (id : TableId) (size : PathSize) (s s' : Deposited K) : Type 0 where
    pub member : Stays id size s.member s'.member
    pub writing : s'.writing ≡ s.writing
    pub start : s'.start ≡ s.start
    pub end : s'.end ≡ s.end
    pub tables : s'.tables ≡ s.tables
    pub list : writes_of s'.member.seat.me.0.trail ≡ writes_of s.member.seat.me.0.trail
    pub tried : OnlyPlaced s.member.number s.member.seat.me.0 s'.member.seat.me.0

  -- It tries no memtable of the tables from a number on.
  abbrev pub IsUntriedFrom : ℕ → Deposited K → Type 0
  IsUntriedFrom k s = (t : ℕ) → k ≤ t → (seat_table (part_of s.member) t).trying ≡ None

  -- The write is closed with one place for each of its tables, into which its entry was put, and
  -- the seat's list is as it was.
  pub record EndsWrite (s : Deposited K) (after : Member K) : Type 0 where
    -- what the seat knew before its last step, behind its tries at the memtables
    pub before : View
    pub tried : OnlyPlaced s.member.number s.member.seat.me.0 before
    pub tables : before.part.note ≡ Some s.tables
    pub claim : before.part.claim ≡ Some (record { start = s.start.0; end = s.end.0 })
    pub places : List (Table × ℕ)
    pub are : IsItsPlaces before.part places
    pub applied : AreApplied before.part before.hands
    pub found : ℕ
    pub did : Did before s.member.number (Close s.member.number Write s.writing (Applied places))
        found after.seat.me.0
    pub list : writes_of after.seat.me.0.trail ≡ writes_of s.member.seat.me.0.trail
