-- What the steps of the holder of the Sync turn tell of it, before and after.
use Rattle.std.specs.Prelude.{◌≡◌, ◌≢◌, ◌⊎◌, ℕ, suc, ◌+◌, ◌^◌, ◌<◌, ◌≤◌, List, ◌∷◌, length, Option}
use Rattle.std.specs.Prelude.{Some, None}
use Rattle.std.specs.List.Sorted.{IsPermutation}
use Rattle.atomic_table.specs.Table.{Me, Step, rest}
use Rattle.op_core.specs.declared.count.Order.TheVariants.{Write, Append}
use Rattle.path_core.specs.declared.event.ClaimKind.TheVariants.{Marker}
use Rattle.path_core.specs.declared.event.Cursor.TheVariants.{Synced, Stopped as StoppedCursor}
use Rattle.path_core.specs.declared.event.Event.TheVariants.{Look, Claim, TakeTurn, GiveTurn}
use Rattle.path_core.specs.declared.event.Event.TheVariants.{MoveCurrent, Expire, Advance}
use Rattle.path_core.specs.declared.event.Event.TheVariants.{OpenGroup, Put}
use Rattle.path_core.specs.declared.event.Place.TheVariants.{Oldest, Log, TurnWord, CursorWord}
use Rattle.path_core.specs.declared.event.Turn.TheVariants.{Sync}
use Rattle.path_core.specs.declared.event.Event.{Event}
use Rattle.path_core.specs.declared.note.EntryNote.{EntryNote}
use Rattle.path_core.specs.Allowed.{IsAllowed}
use Rattle.path_core.specs.Keeper.{Holding, IsParted, MayWrite}
use Rattle.path_core.specs.Lent.{run_to}
use Rattle.path_core.specs.Next.{next_of}
use Rattle.path_rule.specs.declared.lasting.Lasting.{Lasting}
use Rattle.path_rule.specs.declared.slot.Slot.{Slot}
use Rattle.path_rule.specs.declared.view.Hands.{Hands}
use Rattle.path_rule.specs.declared.view.Progress.{Progress}
use Rattle.path_rule.specs.declared.view.Role.TheVariants.{Steps}
use Rattle.path_rule.specs.declared.view.View.{View}
use Rattle.path_rule.specs.Boxes.{box_of, desk_box, NotesAre, DeskIs}
use Rattle.path_rule.specs.HandsAfter.{with_desk, with_taken, with_swept, unswept_hands, barred}
use Rattle.path_rule.specs.HandsAfter.{with_marker}
use Rattle.path_rule.specs.Lasts.{lasting_of, shown, more_lasting, refused_lasting}
use Rattle.path_rule.specs.Rule.{Was}
use Rattle.path_rule.specs.Trails.{GoesOnBehind}
use Rattle.path_rule.specs.Told.{MadeAs, Made}
use Rattle.path_rule.specs.Turns.{TurnSaw, IsBarred}

-- A keeper that shows this may write such entries up to a key.
abbrev pub MayLend : Lasting → ℕ → List EntryNote → Type 0
MayLend lasting upto run = (h : Holding) → lasting_of h ≡ lasting → MayWrite h upto run

-- In the state that the look at the synced key found, what was pending up to a key is exactly what
-- the machine would make lasting up to it, and the synced key may be put there. So the keeper on
-- the desk may be lent it.
abbrev pub IsLent : View → ℕ → ℕ → ℕ → List EntryNote → Type 0
IsLent v w synced upto run = (was : Was v w (Look w (CursorWord Synced)))
    × (was.core.synced ≡ synced) × (run_to was.core upto ≡ run)
    × IsAllowed was.core (Put w Synced upto) × MayLend v.hands.lasting upto run

-- What is kept of a refused sync up to a key: what was, or the pending entries up to it.
abbrev pub IsKeptNow : ℕ → Hands → List EntryNote → Type 0
IsKeptNow upto h kept = (kept ≡ h.lasting.kept)
    ⊎ ((left : List EntryNote) × IsParted upto h.pending kept left)

module _ {K : Type 0} where
  -- The box of another seat came, with what the seat knows. What lies in it and on the desk is less
  -- than the log has bytes.
  abbrev pub TookBox : ℕ → Me (Slot K) View → Me (Slot K) View → Type 0
  TookBox b m m' = (y : Slot K) × (m'.1 ≡ (b, y) ∷ m.1) × NotesAre y m'.0.hands.taken
      × (length m'.0.hands.pending + length m'.0.hands.taken ≤ 2 ^ 62)

  -- where the oldest group was found to be the current one, c, the next box of the other parity
  -- came
  abbrev pub Gathered : Step (Slot K) → Me (Slot K) View → ℕ → Me (Slot K) View → Type 0
  Gathered st m n m' = (w c : ℕ) → m.0.role ≡ Steps w → TurnSaw Append m.0.part c
      → (n ≡ c → ((taken : List EntryNote)
      × MadeAs w (Look w (Oldest Append)) n
      (with_taken (Some (box_of m.0.hands.swept (suc c))) taken m.0.hands) m.0 m'.0)
      × TookBox (box_of m.0.hands.swept (suc c)) m m')
      × (n ≢ c → Made w (Look w (Oldest Append)) n m m')

  -- the box went home empty, and what was in it is pending
  abbrev pub GaveBack : Step (Slot K) → Me (Slot K) View → ℕ → Me (Slot K) View → Type 0
  GaveBack st m n m' = (w : ℕ) → m.0.role ≡ Steps w
      → MadeAs w (Look w (Oldest Append)) n (with_swept m.0.size.seats m.0.hands) m.0 m'.0
      × (m'.1 ≡ rest m.1)

  -- the seat gave the Sync turn back, and the desk is at home
  abbrev pub SyncGiven : Step (Slot K) → Me (Slot K) View → ℕ → Me (Slot K) View → Type 0
  SyncGiven st m n m' = (w : ℕ) → m.0.role ≡ Steps w
      → MadeAs w (GiveTurn w Sync) n (unswept_hands m.0.hands) m.0 m'.0 × (m'.1 ≡ rest m.1)

  -- A barrier is issued: the next group is made, where a switched memtable waits for it.
  abbrev pub WriteOpened : Step (Slot K) → Me (Slot K) View → ℕ → Me (Slot K) View → Type 0
  WriteOpened st m n m' = (w g c : ℕ) → m.0.role ≡ Steps w → TurnSaw Write m.0.part c → g ≡ suc c
      → Made w (OpenGroup w Write g) n m m'
      × ((was : Was m.0 w (OpenGroup w Write g)) × IsAllowed was.core (OpenGroup w Write g))

  -- A barrier of the write order goes on.
  abbrev pub WriteMoved : Step (Slot K) → Me (Slot K) View → ℕ → Me (Slot K) View → Type 0
  WriteMoved st m n m' = (w c : ℕ) → m.0.role ≡ Steps w → TurnSaw Write m.0.part c
      → Made w (MoveCurrent w Write n) c m m'

  abbrev pub WriteExpired : Step (Slot K) → Me (Slot K) View → ℕ → Me (Slot K) View → Type 0
  WriteExpired st m n m' = (w g c : ℕ) → m.0.role ≡ Steps w → TurnSaw Write m.0.part c → suc g ≡ c
      → Made w (Expire w Write g) n m m'

  abbrev pub WriteAdvanced : Step (Slot K) → Me (Slot K) View → ℕ → Me (Slot K) View → Type 0
  WriteAdvanced st m n m' = (w : ℕ) → m.0.role ≡ Steps w → Made w (Advance w Write n) n m m'

  -- One of the append order, where a marker of the seat waits for it.
  abbrev pub AppendOpened : Step (Slot K) → Me (Slot K) View → ℕ → Me (Slot K) View → Type 0
  AppendOpened st m n m' = (w g c : ℕ) → m.0.role ≡ Steps w → TurnSaw Append m.0.part c → g ≡ suc c
      → Made w (OpenGroup w Append g) n m m'
      × ((was : Was m.0 w (OpenGroup w Append g)) × IsAllowed was.core (OpenGroup w Append g))

  -- A barrier of the append order goes on.
  abbrev pub AppendMoved : Step (Slot K) → Me (Slot K) View → ℕ → Me (Slot K) View → Type 0
  AppendMoved st m n m' = (w c : ℕ) → m.0.role ≡ Steps w → TurnSaw Append m.0.part c
      → MadeAs w (MoveCurrent w Append n) c (with_desk m.0.hands.lasting m.0.hands.pending
      (barred c m.0.hands.progress) m.0.hands) m.0 m'.0 × (m'.1 ≡ m.1)

  abbrev pub AppendExpired : Step (Slot K) → Me (Slot K) View → ℕ → Me (Slot K) View → Type 0
  AppendExpired st m n m' = (w g c : ℕ) → m.0.role ≡ Steps w → TurnSaw Append m.0.part c → suc g ≡ c
      → Made w (Expire w Append g) n m m'

  abbrev pub AppendAdvanced : Step (Slot K) → Me (Slot K) View → ℕ → Me (Slot K) View → Type 0
  AppendAdvanced st m n m' = (w : ℕ) → m.0.role ≡ Steps w → Made w (Advance w Append n) n m m'

  -- The same for a marker: the desk is to tell where it starts.
  abbrev pub MarkerClaimed : Step (Slot K) → Me (Slot K) View → ℕ → Me (Slot K) View → Type 0
  MarkerClaimed st m n m' = (w : ℕ) → m.0.role ≡ Steps w
      → (n ≡ st.first → MadeAs w (Claim w (record { 0 = st.first })
      (record { 0 = st.second }) Marker) st.second (with_marker w st.first m.0.hands) m.0 m'.0
      × (m'.1 ≡ m.1)) × (n ≢ st.first → Made w (Look w Log) n m m')

  -- The synced key was found, and what is pending up to the last marker, behind whose barrier all
  -- boxes were gathered, may be lent to the keeper. The log goes on behind it, and behind each
  -- marker at or below it.
  abbrev pub LentFound : Step (Slot K) → Me (Slot K) View → ℕ → Me (Slot K) View → Type 0
  LentFound st m n m' = (w : ℕ) → m.0.role ≡ Steps w → Made w (Look w (CursorWord Synced)) n m m'
      × ((value : ℕ) (run left : List EntryNote) → n < value → IsBarred m.0.hands value
      → IsParted value m.0.hands.pending run left → IsLent m.0 w n value run)
      × GoesOnBehind m.0.size.capacity n

module _ {K : Type 0} (shows : K → Lasting) where
  -- the desk came, with what the seat knows
  abbrev pub TookDesk : Me (Slot K) View → Me (Slot K) View → Type 0
  TookDesk m m' = (y : Slot K) × (m'.1 ≡ (desk_box, y) ∷ m.1)
      × DeskIs shows y m'.0.hands.lasting m'.0.hands.pending m'.0.hands.progress

  -- The seat has the Sync turn, with the desk; or another had it, and this was a look. It had no
  -- box of another seat.
  abbrev pub SyncTaken : Step (Slot K) → Me (Slot K) View → ℕ → Me (Slot K) View → Type 0
  SyncTaken st m n m' = (w : ℕ) → m.0.role ≡ Steps w → (m.0.hands.box_taken ≡ None)
      × (n ≡ 0 → ((lasting : Lasting) × (pending : List EntryNote) × (progress : Progress)
      × MadeAs w (TakeTurn w Sync) 1 (with_desk lasting pending progress m.0.hands) m.0 m'.0
      × (lasting.at_open ≡ m.0.size.at_open)) × TookDesk m m')
      × (n ≢ 0 → Made w (Look w (TurnWord Sync)) n m m' × (n ≡ 1))

  -- the desk was taken last, with what the seat knows in it
  abbrev pub CarriesDesk : Me (Slot K) View → Type 0
  CarriesDesk m = (y : Slot K) × (m.1 ≡ (desk_box, y) ∷ rest m.1)
      × DeskIs shows y m.0.hands.lasting m.0.hands.pending m.0.hands.progress

  -- the desk was taken last, with this in it
  abbrev pub CarriesAs : Lasting → List EntryNote → Progress → Me (Slot K) View → Type 0
  CarriesAs lasting pending progress m =
      (y : Slot K) × (m.1 ≡ (desk_box, y) ∷ rest m.1) × DeskIs shows y lasting pending progress

  -- the keeper on it made lasting what was pending up to a key, and the rest is pending still
  abbrev pub CarriesSynced : ℕ → Me (Slot K) View → Type 0
  CarriesSynced upto m = (run : List EntryNote) × (left : List EntryNote)
      × IsParted upto m.0.hands.pending run left
      × CarriesAs (more_lasting run upto m.0.hands.lasting) left m.0.hands.progress m

  -- The synced key is put, and what the keeper made lasting is what the machine has now.
  abbrev pub SyncedPut : Step (Slot K) → Me (Slot K) View → ℕ → Me (Slot K) View → Type 0
  SyncedPut st m n m' = (w : ℕ) (lasting : Lasting) (pending : List EntryNote) → m.0.role ≡ Steps w
      → CarriesAs lasting pending m.0.hands.progress m
      → MadeAs w (Put w Synced st.first) n
      (with_desk lasting pending m.0.hands.progress m.0.hands) m.0 m'.0 × (m'.1 ≡ m.1)
      × ((was : Was m.0 w (Put w Synced st.first))
      × (shown lasting.beside m.0.size.at_open st.first lasting.filed lasting.dropped
      (next_of was.core (Put w Synced st.first)) ≡ lasting))

  -- A sync up to a key was refused: on the desk lies what was pending, in some order, and the
  -- keeper shows what it did, but for what it has kept, and the count with which it has stopped.
  abbrev pub CarriesRefused : ℕ → Option ℕ → Me (Slot K) View → Type 0
  CarriesRefused upto stopped m = (kept : List EntryNote) × (pending : List EntryNote)
      × IsPermutation m.0.hands.pending pending × IsKeptNow upto m.0.hands kept
      × CarriesAs (refused_lasting kept stopped m.0.hands.lasting) pending m.0.hands.progress m

  -- After a sync up to a key that was refused the seat made a step, and knows what lies on the desk
  -- since.
  abbrev pub MadeRefused : ℕ → Option ℕ → ℕ → Event → ℕ → Me (Slot K) View → Me (Slot K) View
      → Type 0
  MadeRefused upto stopped w e n m m' = ((kept : List EntryNote) × (pending : List EntryNote)
      × IsPermutation m.0.hands.pending pending × IsKeptNow upto m.0.hands kept
      × MadeAs w e n (with_desk (refused_lasting kept stopped m.0.hands.lasting) pending
      m.0.hands.progress m.0.hands) m.0 m'.0
      × CarriesAs (refused_lasting kept stopped m.0.hands.lasting) pending m.0.hands.progress m)
      × (m'.1 ≡ m.1)

  -- a look, after a sync up to the last marker that was refused
  abbrev pub RefusedKept : Step (Slot K) → Me (Slot K) View → ℕ → Me (Slot K) View → Type 0
  RefusedKept st m n m' = (w upto : ℕ) → m.0.role ≡ Steps w → IsBarred m.0.hands upto
      → MadeRefused upto m.0.hands.lasting.stopped w (Look w (CursorWord StoppedCursor)) n m m'

  -- the log is stopped with the count with which the keeper is
  abbrev pub StoppedPut : Step (Slot K) → Me (Slot K) View → ℕ → Me (Slot K) View → Type 0
  StoppedPut st m n m' = (w upto : ℕ) → m.0.role ≡ Steps w → IsBarred m.0.hands upto
      → MadeRefused upto (Some st.first) w (Put w StoppedCursor st.first) n m m'
