-- How a path ends by all of its seats.
use Rattle.std.specs.Prelude.{◌≡◌, ℕ, List, map}
use Rattle.std.specs.List.{All}
use Rattle.path_core.specs.Keeper.{Holding}
use Rattle.path_core.specs.Parts.{seat_of}
use Rattle.path_rule.specs.declared.lasting.Beside.{Beside}
use Rattle.path_rule.specs.declared.view.PathSize.{PathSize}
use Rattle.path_rule.specs.declared.view.Returned.{Returned}
use Rattle.path_rule.specs.Rule.{event_of, steps_by}
use Rattle.path_rule.specs.Sharing.{Ended}
use Rattle.path_rule.specs.Trails.{TrailTells}
use Rattle.path_table.specs.declared.trying.PathSeat.{PathSeat}
use Rattle.path_table.specs.Members.{view_of, part_of}

-- The path ended in one run of the machine, in which each of these seats' steps are its own.
pub record EndsBy {K : Type 0} (beside : Beside) (size : PathSize) (seats : List (PathSeat K))
    (end : ℕ) (h : Holding) : Type 0 where
  pub returned : List Returned
  pub ended : Ended beside size returned end h
  pub own : All (λ (s : PathSeat K). map event_of (view_of s.member).trail
      ≡ steps_by s.member.number ended.events) seats
  -- and tell what is so of the state that it ended in
  pub tell : All (λ (s : PathSeat K). TrailTells size.capacity ended.core
      (view_of s.member).trail) seats
  -- and each seat's part is the machine's
  pub parts : All (λ (s : PathSeat K). part_of s.member
      ≡ seat_of ended.core s.member.number) seats
