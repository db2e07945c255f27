-- A path whose seat found no room has at most two segments for each of its writes.
use Rattle.std.proofs.Common.{ℕ, ◌+◌, ◌-◌, ◌*◌, ◌/◌, ◌^◌, ◌<◌, ◌≤◌, Bool, true, false, cond, List}
use Rattle.std.proofs.Common.{[], ◌∷◌, length, sym, subst, arith}
use Rattle.std.specs.List.{All, Contains}
use Rattle.std.proofs.lemmas.List.{length-append}
use Rattle.std.proofs.lemmas.List.Elements.{All-contains, All-head, All-tail}
use Rattle.std.proofs.lemmas.List.Sorted.{length_permutation}
use Rattle.path_core.specs.declared.event.Place.TheVariants.{Log}
use Rattle.path_core.specs.Keeper.{Holding}
use Rattle.path_core.specs.Keys.{entry_end, fits, next_segment, ordinal_of}
use Rattle.path_rule.specs.declared.view.OwnStep.{OwnStep}
use Rattle.path_rule.specs.declared.view.PathSize.{PathSize}
use Rattle.path_rule.specs.Finds.{Finds}
use Rattle.path_rule.proofs.seats.Answering.{found_before}
use Rattle.path_table.specs.declared.trying.PathSeat.{PathSeat}
use Rattle.path_table.specs.Members.{view_of}
use Rattle.write_path.specs.Closed.{HasComeFor, IsOutcome, all_writes}
use Rattle.path_flush.specs.OwnWrites.{writes_of}
use Rattle.write_path.specs.Promised.{WasSpent}

-- an entry that is claimed at a key ends in its segment, or in the next one
ends_near : (capacity key bytes : ℕ) → capacity ≤ 33554432 → bytes ≤ capacity / 2
    → ordinal_of (entry_end capacity key bytes) ≤ ordinal_of key + 1
ends_near capacity key bytes small few = by (fits capacity key bytes)
  where
    by : (b : Bool) → ordinal_of (cond b key (next_segment key) + bytes) ≤ ordinal_of key + 1
    by true = omega (arith, small, few)
    by false = omega (arith, small, few)

-- seats that each log at most so many writes
logged_together : {K : Type 0} (seats : List (PathSeat K))
    → All (λ (s : PathSeat K). length (writes_of (view_of s.member).trail) ≤ 8388608) seats
    → length (all_writes seats) ≤ length seats * 8388608
logged_together [] each = omega arith
logged_together {K} (s ∷ seats) each =
    let P = λ (p : PathSeat K). length (writes_of (view_of p.member).trail) ≤ 8388608 in
    let one = All-head P s seats each in
    let rest = logged_together seats (All-tail P s seats each) in
    let long = length-append (writes_of (view_of s.member).trail) (all_writes seats) in
    omega (arith, long, one, rest)

module _ {K : Type 0} (size : PathSize) (seats : List (PathSeat K)) (end : ℕ) (h : Holding)
    (O : IsOutcome size seats end h) where
  pub segments_spent : (s : PathSeat K) → Contains seats s → (bytes key : ℕ)
      → bytes ≤ size.capacity / 2 → WasSpent size bytes key (view_of s.member).trail
      → size.ordinals ≤ 1 + (2 * length (all_writes seats) - 1)
  segments_spent s one bytes key few S =
      let come = All-contains (HasComeFor end) seats s O.found_log one key
      (subst (λ (l : List OwnStep). Finds Log key l) (sym S.grown.is)
      (found_before Log key S.grown.newer S.after.trail S.spent.looked)) in
      let none = S.spent.none in
      let near = ends_near size.capacity key bytes O.fit.greatest_capacity few in
      let long = length_permutation (all_writes seats) O.core.notes O.of_writes in
      let most = O.few_segments in
      omega (arith, come, none, near, long, most)

  pub never_spent : length seats ≤ 64
      → All (λ (s : PathSeat K). length (writes_of (view_of s.member).trail) ≤ 8388608) seats
      → 2 ^ 30 < size.ordinals → (s : PathSeat K) → Contains seats s → (bytes key : ℕ)
      → bytes ≤ size.capacity / 2 → ¬ WasSpent size bytes key (view_of s.member).trail
  never_spent few each wide s one bytes key small S =
      let most = segments_spent s one bytes key small S in
      let all = logged_together seats each in absurd (omega (arith, few, wide, most, all))
