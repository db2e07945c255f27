-- Intervals that stand apart rise at both ends, so a search by halves finds where a test turns.
use Rattle.std.proofs.Common.{
  ℕ,
  zero,
  suc,
  ◌<◌,
  ◌≤◌,
  List,
  [],
  ◌∷◌,
  length,
  take,
  drop,
  get_or,
  not,
  arith,
}
use Rattle.std.specs.List.{AllByRecursion, AllWithin}
use Rattle.std.specs.List.Sorted.{IsPartitionedBy}
use Rattle.clog_base.specs.declared.position.Position.{Position}
use Rattle.clog_intervals.specs.declared.interval.Interval.{Interval}
use Rattle.clog_base.specs.Positions.{IsBelow, IsUpTo, is_below}
use Rattle.clog_intervals.specs.Union.{AreApart}
use Rattle.clog_intervals.specs.Joined.{BeginAbove}
use Rattle.clog_base.proofs.PositionOrder.{
  below_trans,
  below_is_up_to,
  up_to_below,
  up_to_trans,
  up_to_itself,
  is_below-true,
  below-is_below,
  not_below-up_to,
  up_to-not_below,
}
use Rattle.clog_intervals.proofs.Unions.{apart_behind}

begins_above_at : (at : Position) (xs : List Interval) (k : ℕ) (d : Interval) → k < length xs
    → BeginAbove at xs → IsBelow at (get_or xs k d).lower
begins_above_at at [] k d h b = absurd (omega arith)
begins_above_at at (x ∷ xs) zero d h b = b.0
begins_above_at at (x ∷ xs) (suc k) d h b =
    let h' : k < length xs = omega arith in begins_above_at at xs k d h' b.1

some_at : (xs : List Interval) (k : ℕ) (d : Interval) → k < length xs → AreApart xs
    → IsBelow (get_or xs k d).lower (get_or xs k d).upper
some_at [] k d h a = absurd (omega arith)
some_at (x ∷ xs) zero d h a = a.0
some_at (x ∷ xs) (suc k) d h a = let h' : k < length xs = omega arith in some_at xs k d h' a.2

uppers_rise : (xs : List Interval) (i j : ℕ) (d : Interval) → AreApart xs → i ≤ j → j < length xs
    → IsUpTo (get_or xs i d).upper (get_or xs j d).upper
uppers_rise [] i j d a h k = absurd (omega arith)
uppers_rise (x ∷ xs) zero zero d a h k = up_to_itself x.upper
uppers_rise (x ∷ xs) (suc i) zero d a h k = absurd (omega arith)
uppers_rise (x ∷ xs) zero (suc j) d a h k =
    let k' : j < length xs = omega arith in
    below_is_up_to x.upper (get_or xs j d).upper
    (below_trans x.upper (get_or xs j d).lower (get_or xs j d).upper
    (begins_above_at x.upper xs j d k' (apart_behind x xs a)) (some_at xs j d k' a.2))
uppers_rise (x ∷ xs) (suc i) (suc j) d a h k =
    let h' : i ≤ j = omega arith in
    let k' : j < length xs = omega arith in
    uppers_rise xs i j d a.2 h' k'

lowers_rise : (xs : List Interval) (i j : ℕ) (d : Interval) → AreApart xs → i ≤ j → j < length xs
    → IsUpTo (get_or xs i d).lower (get_or xs j d).lower
lowers_rise [] i j d a h k = absurd (omega arith)
lowers_rise (x ∷ xs) zero zero d a h k = up_to_itself x.lower
lowers_rise (x ∷ xs) (suc i) zero d a h k = absurd (omega arith)
lowers_rise (x ∷ xs) zero (suc j) d a h k =
    let k' : j < length xs = omega arith in
    below_is_up_to x.lower (get_or xs j d).lower
    (below_trans x.lower x.upper (get_or xs j d).lower a.0
    (begins_above_at x.upper xs j d k' (apart_behind x xs a)))
lowers_rise (x ∷ xs) (suc i) (suc j) d a h k =
    let h' : i ≤ j = omega arith in
    let k' : j < length xs = omega arith in
    lowers_rise xs i j d a.2 h' k'

pub ends_parted : (xs : List Interval) (at : Position) → AreApart xs
    → IsPartitionedBy (λ i. is_below i.upper at) xs
ends_parted xs at a i j d h k e =
    below-is_below (get_or xs i d).upper at
    (up_to_below (get_or xs i d).upper (get_or xs j d).upper at (uppers_rise xs i j d a h k)
    (is_below-true (get_or xs j d).upper at e))

pub begins_parted : (xs : List Interval) (at : Position) → AreApart xs
    → IsPartitionedBy (λ i. not (is_below at i.lower)) xs
begins_parted xs at a i j d h k e =
    up_to-not_below at (get_or xs i d).lower
    (up_to_trans (get_or xs i d).lower (get_or xs j d).lower at (lowers_rise xs i j d a h k)
    (not_below-up_to at (get_or xs j d).lower e))

-- what holds at each index below k holds of the first k
pub all_in_front : (P : Interval → Type 0) (xs : List Interval) (k : ℕ) → k ≤ length xs
    → AllWithin P xs 0 k → AllByRecursion P (take k xs)
all_in_front P xs zero h all = tt
all_in_front P [] (suc k) h all = absurd (omega arith)
all_in_front P (x ∷ xs) (suc k) h all = (
  all zero x (omega arith) (omega arith),
  all_in_front P xs k (omega arith) (λ i d l r. all (suc i) d (omega arith) (omega arith)),
)

-- what holds at each index from k on holds of the rest
pub all_in_back : (P : Interval → Type 0) (xs : List Interval) (k : ℕ)
    → AllWithin P xs k (length xs) → AllByRecursion P (drop k xs)
all_in_back P [] zero all = tt
all_in_back P [] (suc k) all = tt
all_in_back P (x ∷ xs) zero all = (
  all zero x (omega arith) (omega arith),
  all_in_back P xs zero (λ i d l r. all (suc i) d (omega arith) (omega arith)),
)
all_in_back P (x ∷ xs) (suc k) all =
    all_in_back P xs k (λ i d l r. all (suc i) d (omega arith) (omega arith))
