-- The invariant of the write path: what is true of each state that allowed steps lead to.
use Rattle.std.specs.Prelude.{◌≡◌, ℕ, length}
use Rattle.clog_base.specs.Sizes.{IsWithinLimits}
use Rattle.path_core.specs.declared.state.PathState.{PathState}
use Rattle.path_core.specs.Parts.{seat_of}
use Rattle.path_core.specs.LawfulLog.{
  ClaimsTile,
  EachClaimNoted,
  OwnClaims,
  NotesAreClaims,
  LoggedAreNotes,
  LoggedIsSynced,
  SyncedIsMarker,
  DroppedWas,
}
use Rattle.path_core.specs.LawfulOrders.{GroupsAreFew, IsOrderly, SwitchesHeld}
use Rattle.path_core.specs.LawfulTables.{
  SwitchesAre,
  LaterGroupsAbove,
  BarriersBelow,
  RetiredAreFiled,
  LastFiles,
  FilesBegin,
  FilesAreTrue,
}
use Rattle.path_core.specs.LawfulPlaces.{
  PlacesAre,
  PlacedOnce,
  ClosedIsPlaced,
  LaterTries,
  RunningAreUnplaced,
}
use Rattle.path_core.specs.LawfulSeats.{SeatKnows}

-- How long the lists are.
pub record IsSized (x : PathState) : Type 0 where
  pub limits : IsWithinLimits (length x.tables) (length x.seats) x.capacity x.ordinals
  pub seats : (w : ℕ) → length (seat_of x w).tables ≡ 16

-- What is true of the log's claims, notes and segments, and of groups and turns.
pub record IsLawfulLog (x : PathState) : Type 0 where
  pub sized : IsSized x
  -- each claim stands where the rule of allocation puts it
  pub claims_tile_the_log : ClaimsTile x
  -- counts stand for the seats in their groups, and each turn has one holder
  pub orders : IsOrderly x
  pub own_claim : OwnClaims x
  pub notes_are_claims : NotesAreClaims x
  pub each_claim_noted_once : EachClaimNoted x
  pub logged_are_notes : LoggedAreNotes x
  pub dropped_was_droppable : DroppedWas x

-- What is true of the log and of memtables.
pub record IsLawfulCore (x : PathState) : Type 0 where
  pub log : IsLawfulLog x
  -- final bounds rise, a barrier means final, and the one that is marked is raising
  pub switches : SwitchesAre x

-- What is true of the log, of memtables, and of what is placed in them.
pub record IsLawfulPlacing (x : PathState) : Type 0 where
  pub core : IsLawfulCore x
  pub places : PlacesAre x

-- What is true of all that, of what is made lasting, and of what seats found.
pub record IsLawfulLogged (x : PathState) : Type 0 where
  pub placing : IsLawfulPlacing x
  pub barriers_below_current : BarriersBelow x
  pub groups_are_few : GroupsAreFew x
  -- writes of the groups behind a memtable's barrier try it, or a later one
  pub no_try_below_the_grace : LaterTries x
  pub a_switch_has_a_holder : SwitchesHeld x
  -- writes of the groups behind a marker's barrier are logged above the marker
  pub later_groups_log_above : LaterGroupsAbove x
  -- the synced key is the start of a marker
  pub synced_below_the_log : SyncedIsMarker x
  pub logged_is_the_synced_part : LoggedIsSynced x
  -- what each seat found or put still stands
  pub seats_know : (w : ℕ) → SeatKnows x w

-- What is true of the log, of memtables, of what is placed in them, and of files.
pub record IsLawfulFiling (x : PathState) : Type 0 where
  pub placing : IsLawfulPlacing x
  pub last_file_is_retired : LastFiles x
  pub files_begin : FilesBegin x
  pub retired_is_filed : RetiredAreFiled x
  pub running_is_unplaced : RunningAreUnplaced x
  pub placed_once : PlacedOnce x
  pub closed_is_placed : ClosedIsPlaced x
  pub files_are_true : FilesAreTrue x

-- The whole invariant: what is true of each state that allowed steps lead to.
pub record IsLawfulPath (x : PathState) : Type 0 where
  -- lists are as long as the sizes say
  pub sized : IsSized x
  -- The promises of the path.
  -- each claim stands where the rule of allocation puts it
  pub claims_tile_the_log : ClaimsTile x
  -- counts stand for the seats in their groups, each turn has one holder, and orders nest
  pub orders : IsOrderly x
  -- each entry claim is a seat's that has not deposited it, or is in notes once
  pub each_claim_noted_once : EachClaimNoted x
  -- while the newest switch of a table is not through, a seat holds the table's turn
  pub a_switch_has_a_holder : SwitchesHeld x
  -- final bounds rise, a barrier means final, and the one that is marked is raising
  pub switches : SwitchesAre x
  -- writes are placed where they were accepted, and try only what lies above earlier final bounds
  pub places : PlacesAre x
  -- each entry has at most one place at a table, those of running writes among them
  pub placed_once : PlacedOnce x
  -- writes of the groups behind a memtable's barrier try it, or a later one
  pub no_try_below_the_grace : LaterTries x
  -- writes of the groups behind a marker's barrier are logged above the marker
  pub later_groups_log_above : LaterGroupsAbove x
  -- a retired memtable is final, its barrier is passed, and what was placed in it is in its file;
  -- the files of a table follow one another
  pub retired_is_filed : RetiredAreFiled x
  -- logged is the part of the notes up to the synced key, and misses no entry claimed up to there
  pub logged_is_the_synced_part : LoggedIsSynced x
  -- a dropped segment is droppable, and below the synced key's
  pub dropped_was_droppable : DroppedWas x
  -- a closed write has exactly one place at each of its tables
  pub closed_is_placed : ClosedIsPlaced x
  -- What is needed beside them for each step to keep them.
  -- a seat's claim is an entry claim of the list, and names the seat
  pub own_claim : OwnClaims x
  -- a note is the entry claim of its writer, and is whole
  pub notes_are_claims : NotesAreClaims x
  -- the synced key is 0 or the start of a marker, and at most the log key
  pub synced_below_the_log : SyncedIsMarker x
  -- the groups of barriers are below the current one
  pub barriers_below_current : BarriersBelow x
  -- from the oldest group of an order on at most 32 were made
  pub groups_are_few : GroupsAreFew x
  -- a table's last file ends at or below the bound of its last retired memtable
  pub last_file_is_retired : LastFiles x
  -- a file begins at or below the log interval of its memtable
  pub files_begin : FilesBegin x
  -- the entry of a write that is not closed is placed nowhere yet
  pub running_is_unplaced : RunningAreUnplaced x
  -- a file holds exactly the entries that touch its table within its interval
  pub files_are_true : FilesAreTrue x
  -- What running seats rely on.
  -- what each seat found or put still stands
  pub seats_know : (w : ℕ) → SeatKnows x w
