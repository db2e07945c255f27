-- Writers that each have a seat of one path, and their writes.
use Rattle.std.specs.Prelude.{◌≡◌, ℕ, List, map, Some}
use Rattle.std.specs.List.{All, range_with_len}
use Rattle.std.specs.Option.{option_map_or}
use Rattle.atomic_table.specs.Seated.{TableId}
use Rattle.clog_base.specs.declared.sizes.Sizes.{Sizes}
use Rattle.clog_mutation.specs.declared.mutation.Mutation.{Mutation}
use Rattle.path_rule.specs.declared.view.PathSize.{PathSize}
use Rattle.path_table.specs.declared.trying.PathSeat.{PathSeat}
use Rattle.path_table.specs.Members.{IsOf}
use Rattle.write_path.specs.declared.prepared.Prepared.{Prepared}
use Rattle.write_path.specs.Writes.{IsPrepared}
use Rattle.path_threads.specs.declared.worker.Worker.{Worker}

-- The write of a line takes no more memory, on a path of these sizes.
abbrev pub IsWrite : Sizes → Prepared → Type 0
IsWrite sizes p = (line : ℕ) × (m : Mutation) × IsPrepared sizes line m p

abbrev pub AreWrites : Sizes → List Prepared → Type 0
AreWrites sizes writes = All (IsWrite sizes) writes

module _ {K : Type 0} where
  -- The worker has a seat of the path.
  abbrev pub IsSeated : TableId → PathSize → Worker K → Type 0
  IsSeated id size w = (s : PathSeat K) × (w.seat ≡ Some s) × IsOf id size s.member

  -- its number, 0 where it has none
  abbrev pub number_of : Worker K → ℕ
  number_of w = option_map_or (λ (s : PathSeat K). s.member.number) w.seat 0

  -- Each has a seat of the path, and their numbers are those of all seats, in order.
  pub record AreCrew (id : TableId) (size : PathSize) (workers : List (Worker K)) : Type 0 where
    pub each : All (IsSeated id size) workers
    pub numbers : map number_of workers ≡ range_with_len 0 size.seats

  -- And the writes of each take no more memory.
  pub record AreReady (id : TableId) (size : PathSize) (sizes : Sizes)
      (workers : List (Worker K)) : Type 0 where
    pub crew : AreCrew id size workers
    pub writes : All (λ (w : Worker K). AreWrites sizes w.writes.items) workers

-- A path has these sizes.
abbrev pub IsSizedAs : PathSize → Sizes → Type 0
IsSizedAs size sizes = (sizes.tables ≡ size.tables) × (sizes.capacity ≡ size.capacity)
