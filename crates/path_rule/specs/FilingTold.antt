-- What the holder of the Sync turn and of a table's Flush turn knows where it files a memtable, and
-- what its steps tell then.
use Rattle.std.specs.Prelude.{◌≡◌, ◌≢◌, ◌⊎◌, [], ℕ, suc, ◌+◌, ◌*◌, ◌^◌, ◌<◌, ◌≤◌, ◌++◌, Bool, true}
use Rattle.std.specs.Prelude.{false, List, Option, Some, None}
use Rattle.std.specs.List.{AllPairs, Contains}
use Rattle.atomic_table.specs.Table.{Me, Step}
use Rattle.clog_base.specs.declared.cell.Cell.{Cell}
use Rattle.clog_base.specs.declared.cell.CellKey.{CellKey}
use Rattle.clog_base.specs.declared.cell.Table.{Table}
use Rattle.clog_cells.specs.Merge.{IsMergeOf}
use Rattle.path_core.specs.declared.event.Cursor.TheVariants.{OldestLive, Stopped as StoppedCursor}
use Rattle.path_core.specs.declared.event.Cursor.TheVariants.{Synced}
use Rattle.path_core.specs.declared.event.Event.{Event}
use Rattle.path_core.specs.declared.event.Event.TheVariants.{Look, Put}
use Rattle.path_core.specs.declared.event.Place.TheVariants.{CursorWord}
use Rattle.path_core.specs.declared.note.EntryNote.{EntryNote}
use Rattle.path_core.specs.declared.seat.Seat.{Seat}
use Rattle.path_core.specs.declared.seat.SyncTurn.{SyncTurn}
use Rattle.path_core.specs.declared.state.Bound.TheVariants.{Final}
use Rattle.path_core.specs.Keys.{after, ordinal_of}
use Rattle.path_core.specs.Next.{has_filed}
use Rattle.path_core.specs.Parts.{seat_table}
use Rattle.path_rule.specs.declared.lasting.Lasting.{Lasting}
use Rattle.path_rule.specs.declared.lasting.PutTable.{PutTable}
use Rattle.path_rule.specs.declared.slot.Slot.{Slot}
use Rattle.path_rule.specs.declared.view.FlushRead.{FlushRead}
use Rattle.path_rule.specs.declared.view.Hands.{Hands}
use Rattle.path_rule.specs.declared.view.Role.TheVariants.{Steps}
use Rattle.path_rule.specs.declared.view.View.{View}
use Rattle.path_rule.specs.Filing.{IsCellIn, MayGo, MayPut, more_filed, upper_of}
use Rattle.path_rule.specs.Finds.{Finds}
use Rattle.path_rule.specs.HandsAfter.{with_desk, with_reading}
use Rattle.path_rule.specs.Retires.{RetiresFiledIn}
use Rattle.path_rule.specs.Rule.{view_filed, with_hands, Was}
use Rattle.path_rule.specs.Told.{Made, MadeAs}
use Rattle.path_rule.specs.TurnTold.{CarriesAs}

-- ---- what it knows

-- It found the log running, and the synced key here, or put it here.
abbrev pub TurnSynced : Seat → ℕ → Type 0
TurnSynced p key = (t : SyncTurn) × (p.sync ≡ Some t) × (t.stopped ≡ Some 0)
    × (t.synced ≡ Some key)

-- it found a memtable of the table final at a key, or made it so
abbrev pub FoundFinal : ℕ → Seat → ℕ → ℕ → Type 0
FoundFinal t p m bound = (seat_table p t).bound
    ≡ Some (record { memtable = m; bound = Final (record { 0 = bound }) })

-- It has seen the boxes of all seats of a memtable that is not retired, and has none of them in
-- hand.
abbrev pub SeesAll : ℕ → Hands → ℕ → ℕ → FlushRead → Type 0
SeesAll seats h t m q = (h.reading ≡ Some q) × (q.table ≡ t) × (q.memtable ≡ m)
    × (q.taken ≡ None) × (q.seen_to ≡ seats) × (q.retired ≡ false)

-- these are the newest cells of a table in what it has seen
abbrev pub AreSeen : FlushRead → ℕ → List (CellKey × Cell) → Type 0
AreSeen q t cells = IsMergeOf (IsCellIn q.seen t) cells

-- ---- what it asks of the keeper

-- The file of a memtable with these cells: it goes on where the table's last file ended, up to the
-- memtable's bound.
abbrev pub next_file : Lasting → ℕ → ℕ → List (CellKey × Cell) → PutTable
next_file l t bound cells = record {
  table = t;
  lower = upper_of t l.filed.files;
  upper = bound;
  cells = cells;
}

-- A segment may go now: by what the keeper shows, and below that of the synced key. The holder has
-- filed a memtable.
pub record GoesNow (v : View) (o : ℕ) : Type 0 where
  pub filed : has_filed v.part ≡ true
  pub may : MayGo v.hands.lasting o
  pub key : ℕ
  pub synced : TurnSynced v.part key
  pub below : o < ordinal_of key

-- ---- what the keeper shows then

-- A file was refused or not, these segments have their archive names, these were dropped, and the
-- keeper has stopped with a count, or not.
abbrev pub noted : Bool → List ℕ → List ℕ → Option ℕ → Lasting → Lasting
noted refused archived dropped stopped l = record l {
  dropped = dropped;
  stopped = stopped;
  filed = record l.filed { refused = refused; archived = archived };
}

-- These segments may go now, of which none was dropped before: in the order of their ordinals, and
-- each that may go below one of them is among them. They go up to that of a key.
pub record AreGone (v : View) (key : ℕ) (ordinals : List ℕ) : Type 0 where
  pub ascending : AllPairs (λ (a b : ℕ). a < b) ordinals
  pub each : (o : ℕ) → Contains ordinals o → GoesNow v o
  pub once : (o : ℕ) → Contains ordinals o → ¬ Contains v.hands.lasting.dropped o
  pub first : (o p : ℕ) → o < ordinal_of key → MayGo v.hands.lasting o
      → ¬ Contains v.hands.lasting.dropped o → Contains ordinals p → o < p → Contains ordinals o

-- Which archive names came, where these segments are dropped since, and these have their names:
-- none where the keeper gives none. Where it gives them, each segment that was dropped since has
-- its own. Each is of a segment that may go now, and was not dropped before. It was dropped since,
-- but for one, whose removal was refused.
pub record AreArchived (v : View) (dropped archived : List ℕ) : Type 0 where
  pub names : List ℕ
  pub behind : archived ≡ v.hands.lasting.filed.archived ++ names
  pub none_given : v.hands.lasting.beside.archives ≡ false → names ≡ []
  pub all_named : v.hands.lasting.beside.archives ≡ true → (n : ℕ) → Contains dropped n
      → Contains v.hands.lasting.dropped n ⊎ Contains names n
  pub each : (n : ℕ) → Contains names n → GoesNow v n × (¬ Contains v.hands.lasting.dropped n)
  pub one_stays : (n k : ℕ) → Contains names n → Contains names k → ¬ Contains dropped n
      → ¬ Contains dropped k → n ≡ k

-- each of these was dropped before, or may go now
abbrev pub MayBeGone : View → List ℕ → Type 0
MayBeGone v dropped = (o : ℕ) → Contains dropped o
    → Contains v.hands.lasting.dropped o ⊎ GoesNow v o

-- ---- what its steps tell

-- the seat w made the step e, which gave a table file that begins above a key
abbrev pub MadeFiled : ℕ → Event → ℕ → ℕ → Hands → View → View → Type 0
MadeFiled w e n lower h v v' = (v' ≡ view_filed (with_hands h v) e n lower) × Was v w e

module _ {K : Type 0} where
  -- The synced key was found: the log goes on behind it at or above where it does behind each one
  -- that the seat had found. Where it is lasting up to the bound of a memtable that was seen whole,
  -- the file of what was seen may be put.
  abbrev pub FiledFound : Step (Slot K) → Me (Slot K) View → ℕ → Me (Slot K) View → Type 0
  FiledFound st m n m' = (w : ℕ) → m.0.role ≡ Steps w
      → Made w (Look w (CursorWord Synced)) n m m'
      × ((t k bound : ℕ) (q : FlushRead) (cells : List (CellKey × Cell)) → t < m.0.size.tables
      → SeesAll m.0.size.seats m.0.hands t k q → q.seen ≢ [] → FoundFinal t m.0.part k bound
      → bound ≤ after m.0.size.capacity n → AreSeen q t cells
      → MayPut m.0.hands.lasting (next_file m.0.hands.lasting t bound cells))
      × (n < 2 ^ 62)
      × ((key : ℕ) → Finds (CursorWord Synced) key m.0.trail
      → after m.0.size.capacity key ≤ after m.0.size.capacity n)

module _ {K : Type 0} (shows : K → Lasting) where
  -- The keeper on the desk has put this file behind the others.
  abbrev pub CarriesFiled : PutTable → Me (Slot K) View → Type 0
  CarriesFiled f m = CarriesAs shows (more_filed f m.0.hands.lasting) m.0.hands.pending
      m.0.hands.progress m

  -- It shows that it refused a file, or has dropped segments, or has stopped with a count.
  abbrev pub CarriesNoted : Option ℕ → Me (Slot K) View → Type 0
  CarriesNoted stopped m = (refused : Bool) × (archived : List ℕ) × (dropped : List ℕ)
      × (MayBeGone m.0 dropped × AreArchived m.0 dropped archived)
      × CarriesAs shows (noted refused archived dropped stopped m.0.hands.lasting)
      m.0.hands.pending m.0.hands.progress m

  -- It has refused a file, and has stopped with a count, or not. Nothing was dropped.
  abbrev pub CarriesUndropped : Option ℕ → Me (Slot K) View → Type 0
  CarriesUndropped stopped m = (refused : Bool)
      × CarriesAs shows (noted refused m.0.hands.lasting.filed.archived m.0.hands.lasting.dropped
      stopped m.0.hands.lasting) m.0.hands.pending m.0.hands.progress m

  -- It has dropped these segments behind those that had gone, and has stopped with a count, or not.
  abbrev pub CarriesDropped : Option ℕ → ℕ → List ℕ → Me (Slot K) View → Type 0
  CarriesDropped stopped key ordinals m = (archived : List ℕ)
      × AreArchived m.0 (m.0.hands.lasting.dropped ++ ordinals) archived
      × AreGone m.0 key ordinals
      × CarriesAs shows (noted m.0.hands.lasting.filed.refused archived
      (m.0.hands.lasting.dropped ++ ordinals) stopped m.0.hands.lasting) m.0.hands.pending
      m.0.hands.progress m

  -- each segment that may go is dropped, of those below a key's
  abbrev pub HasDropped : ℕ → View → Me (Slot K) View → Type 0
  HasDropped key v m = (lasting : Lasting) → CarriesAs shows lasting v.hands.pending
      v.hands.progress m → (o : ℕ) → o < ordinal_of key → MayGo v.hands.lasting o
      → Contains lasting.dropped o

  -- The seat made a step, and knows since what the keeper shows.
  abbrev pub MadeNoted : Option ℕ → ℕ → Event → ℕ → Me (Slot K) View → Me (Slot K) View → Type 0
  MadeNoted stopped w e n m m' = ((refused : Bool) × (archived : List ℕ) × (dropped : List ℕ)
      × (MayBeGone m.0 dropped × AreArchived m.0 dropped archived)
      × MadeAs w e n (with_desk (noted refused archived dropped stopped m.0.hands.lasting)
      m.0.hands.pending m.0.hands.progress m.0.hands) m.0 m'.0
      × CarriesAs shows (noted refused archived dropped stopped m.0.hands.lasting)
      m.0.hands.pending m.0.hands.progress m) × (m'.1 ≡ m.1)

  -- a look, which found the log running
  abbrev pub FilingNoted : Step (Slot K) → Me (Slot K) View → ℕ → Me (Slot K) View → Type 0
  FilingNoted st m n m' = (w : ℕ) → m.0.role ≡ Steps w
      → MadeNoted m.0.hands.lasting.stopped w (Look w (CursorWord StoppedCursor)) n m m'
      × (n ≡ 0)

  -- the log is stopped with the count with which the keeper is
  abbrev pub FilingStopped : Step (Slot K) → Me (Slot K) View → ℕ → Me (Slot K) View → Type 0
  FilingStopped st m n m' = (w : ℕ) → m.0.role ≡ Steps w
      → MadeNoted (Some st.first) w (Put w StoppedCursor st.first) n m m'

  -- The least memtable of the table is retired with the file that the keeper on the desk has put,
  -- which begins where the table's last file ended. None is read any more.
  abbrev pub RetiredFiled : Step (Slot K) → Me (Slot K) View → ℕ → Me (Slot K) View → Type 0
  RetiredFiled st m n m' = (w : ℕ) (t : Table) (lasting : Lasting) (pending : List EntryNote)
      → m.0.role ≡ Steps w → t.0 < 16 → st.word ≡ 66 + 4 * t.0
      → CarriesAs shows lasting pending m.0.hands.progress m
      → MadeFiled w (Put w (OldestLive t) n) n (upper_of t.0 m.0.hands.lasting.filed.files)
      (with_reading None (with_desk lasting pending m.0.hands.progress m.0.hands)) m.0 m'.0
      × (m'.1 ≡ m.1)
      × ((f : PutTable) (k : ℕ) → n ≡ suc k → CarriesFiled f m
      → (was : Was m.0 w (Put w (OldestLive t) n))
      × RetiresFiledIn was.core (Put w (OldestLive t) n) t.0 k f)
