-- Writers that each have a seat of one path, and a share of the lines of a file.
use Rattle.std.specs.Prelude.{◌≡◌, ℕ, ◌/◌, ◌<◌, ◌≤◌, ◌^◌, List, [], length, slice_index_or, Option}
use Rattle.std.specs.Prelude.{Some, None, is_some, ⊤}
use Rattle.std.specs.List.{Contains}
use Rattle.atomic_table.specs.Seated.{TableId}
use Rattle.clog_base.specs.declared.sizes.Sizes.{Sizes}
use Rattle.clog_mutation.specs.declared.mutation.Mutation.{Mutation}
use Rattle.clog_applied.specs.History.{Line, share_of}
use Rattle.path_core.specs.declared.event.Cursor.TheVariants.{Stopped as StoppedCursor}
use Rattle.path_core.specs.declared.event.Place.TheVariants.{CursorWord}
use Rattle.path_rule.specs.declared.view.PathSize.{PathSize}
use Rattle.path_rule.specs.Finds.{Finds}
use Rattle.path_rule.specs.Issued.{issued_in}
use Rattle.path_table.specs.declared.trying.PathSeat.{PathSeat}
use Rattle.path_table.specs.Members.{IsOf, view_of}
use Rattle.write_path.specs.Opened.{sized_for}
use Rattle.write_path.specs.Promised.{WasSpent}
use Rattle.clog_shares.specs.declared.fault.WriteFault.{WriteFault}
use Rattle.clog_shares.specs.declared.fault.WriteFault.TheVariants.{OutOfMemory, Spent, Stopped}
use Rattle.clog_shares.specs.declared.worker.Worker.{Worker}
use Rattle.clog_shares.specs.Shares.{ArePrepared, LogsShare, logged_by}
use Rattle.clog_shares.specs.Tallied.{AreCountedFor, HasFlushedAll, HasOpened}
use Rattle.clog_shares.specs.Timed.{KnowsSynced}

-- each of a list is so for its place in it
abbrev pub Each : {A : Type 0} → (ℕ → A → Type 0) → List A → Type 0
Each {A} P xs = (i : ℕ) (d : A) → i < length xs → P i (slice_index_or xs i d)

-- A path has these sizes.
pub record IsSizedAs (size : PathSize) (sizes : Sizes) : Type 0 where
  pub tables : sizes.tables ≡ size.tables
  pub writers : sizes.writers ≡ size.seats
  pub capacity : sizes.capacity ≡ size.capacity

module _ {K : Type 0} where
  -- The worker has the writes of its lines, all of them prepared, and where writers flush how many
  -- updates of each table they have.
  pub record IsDealt (sizes : Sizes) (flush : Option ℕ) (lines : List Line) (w : Worker K) :
      Type 0 where
    pub prepared : ArePrepared sizes lines w.writes.items
    pub counted : AreCountedFor flush lines w.counts.items

  -- Each worker has the writes of its share, of lines whose numbers fit 32 bits.
  pub record AreDealt (sizes : Sizes) (flush : Option ℕ) (mutations : List Mutation)
      (workers : List (Worker K)) : Type 0 where
    pub few : length mutations < 2 ^ 32
    pub count : length workers ≡ sizes.writers
    pub each : Each (λ (i : ℕ) (w : Worker K).
        IsDealt sizes flush (share_of sizes.writers i mutations) w) workers

  -- The worker has the seat of this number, which has made no step.
  pub record IsSeated (id : TableId) (size : PathSize) (number : ℕ) (w : Worker K) : Type 0 where
    pub seat : PathSeat K
    pub has : w.seat ≡ Some seat
    pub of_path : IsOf id size seat.member
    pub number_is : seat.member.number ≡ number
    pub unused : (view_of seat.member).trail ≡ []

  -- it is ready to log its lines, fewer than 2^32
  abbrev pub IsReady : TableId → PathSize → Sizes → Option ℕ → ℕ → List Line → Worker K → Type 0
  IsReady id size sizes flush number lines w =
      IsSeated id size number w × IsDealt sizes flush lines w × (length lines < 2 ^ 32)

  -- the seat found, or put, the count of faults with which the log is stopped; the other one is
  -- that of the path's opening
  abbrev pub KnowsStopped : PathSize → ℕ → ℕ → PathSeat K → Type 0
  KnowsStopped size at_open now s = (at_open ≡ size.at_open)
      × Finds (CursorWord StoppedCursor) now (view_of s.member).trail × (0 < now)

  -- the seat found that an entry, of a size that may be, has no segment
  abbrev pub KnowsSpent : PathSize → PathSeat K → Type 0
  KnowsSpent size s = (bytes key : ℕ) × (bytes ≤ size.capacity / 2)
      × WasSpent size bytes key (view_of s.member).trail

  -- the seat found why its lines were not all logged, and the numbers are those of what it found;
  -- of want of memory there is nothing to find
  abbrev pub KnowsWhy : PathSize → Option WriteFault → PathSeat K → Type 0
  KnowsWhy size None s = ⊤
  KnowsWhy size (Some OutOfMemory) s = ⊤
  KnowsWhy size (Some Spent) s = KnowsSpent size s
  KnowsWhy size (Some (Stopped at_open now)) s = KnowsStopped size at_open now s

  -- The seat has issued so few barriers that it may sync, and flush, once more.
  abbrev pub HasIssuedFew : PathSeat K → Type 0
  HasIssuedFew s = issued_in (view_of s.member).trail ≤ 2 ^ 40

  -- The worker has logged its lines, or the first of them, and its seat knows why no more. Where it
  -- flushes it has opened few memtables, and where nothing was refused it has flushed all but the
  -- newest of each table.
  pub record HasLogged (id : TableId) (size : PathSize) (flush : Option ℕ) (number : ℕ)
      (lines : List Line) (w : Worker K) : Type 0 where
    pub seat : PathSeat K
    pub has : w.seat ≡ Some seat
    pub of_path : IsOf id size seat.member
    pub number_is : seat.member.number ≡ number
    pub logs : LogsShare number lines (logged_by seat.member) w.fault
    pub why : KnowsWhy size w.fault seat
    pub flushed : w.fault ≡ None → HasFlushedAll flush seat
    pub opened : HasOpened flush lines seat
    pub issued : HasIssuedFew seat

  -- each worker is ready to log its share
  pub record AreReady (id : TableId) (size : PathSize) (sizes : Sizes) (flush : Option ℕ)
      (mutations : List Mutation) (workers : List (Worker K)) : Type 0 where
    pub count : length workers ≡ size.seats
    pub each : Each (λ (i : ℕ) (w : Worker K).
        IsReady id size sizes flush i (share_of size.seats i mutations) w) workers

  -- each worker has logged its share, or the first of it
  pub record HaveLogged (id : TableId) (size : PathSize) (flush : Option ℕ)
      (mutations : List Mutation) (workers : List (Worker K)) : Type 0 where
    pub count : length workers ≡ size.seats
    pub each : Each (λ (i : ℕ) (w : Worker K).
        HasLogged id size flush i (share_of size.seats i mutations) w) workers

  -- A seat has logged its share, and knows that it is synced where nothing was refused; and that
  -- it is flushed, where it flushes. It has opened few memtables.
  pub record HasEnded (id : TableId) (size : PathSize) (flush : Option ℕ) (number : ℕ)
      (lines : List Line) (fault : Option WriteFault) (s : PathSeat K) : Type 0 where
    pub of_path : IsOf id size s.member
    pub number_is : s.member.number ≡ number
    pub logs : LogsShare number lines (logged_by s.member) fault
    pub synced : fault ≡ None → KnowsSynced s
    pub flushed : fault ≡ None → HasFlushedAll flush s
    pub opened : HasOpened flush lines s

  -- So has each of these seats. Where the log has stopped, or has no room, one of them knows that.
  pub record HaveEnded (id : TableId) (size : PathSize) (flush : Option ℕ)
      (mutations : List Mutation) (fault : Option WriteFault) (seats : List (PathSeat K)) :
      Type 0 where
    pub count : length seats ≡ size.seats
    pub each : Each (λ (i : ℕ) (s : PathSeat K).
        HasEnded id size flush i (share_of size.seats i mutations) fault s) seats
    pub stops : (at_open now : ℕ) → fault ≡ Some (Stopped at_open now)
        → (s : PathSeat K) × Contains seats s × KnowsStopped size at_open now s
    pub spent : fault ≡ Some Spent → (s : PathSeat K) × Contains seats s × KnowsSpent size s

-- The path was opened with these sizes over a keeper of this base, for table files where writers
-- flush.
pub record IsOpenFor (sizes : Sizes) (flush : Option ℕ) (base : ℕ) (size : PathSize) : Type 0 where
  pub at_open : ℕ
  pub size_is : size ≡ sized_for (is_some flush) sizes base at_open
