-- A step changes one word of an order's groups: the one at its place.
use Rattle.std.proofs.Common.{
  ◌≡◌,
  ◌≢◌,
  ℕ,
  ◌≤◌,
  List,
  [],
  ◌∷◌,
  ◌++◌,
  length,
  set,
  refl,
  ◌∙◌,
  get_or-set_same,
  get_or-set_other,
  ◌<◌,
}
use Rattle.std.specs.Prelude.{if◌then◌else◌}
use Rattle.std.proofs.lemmas.List.{get_or_past}
use Rattle.op_core.specs.declared.count.Order.{Order}
use Rattle.op_core.specs.declared.count.Order.TheVariants.{Write, Append}
use Rattle.op_core.specs.declared.count.Tally.{Tally}
use Rattle.op_core.specs.declared.count.Tally.TheVariants.{Open as OpenTally}
use Rattle.op_core.specs.Tallies.{is_same_order, tally_at, one_more, one_less, expired}
use Rattle.path_core.specs.declared.event.Event.{Event}
use Rattle.path_core.specs.declared.event.Event.TheVariants.{
  Register,
  Close,
  OpenGroup,
  MoveCurrent,
  Expire,
  Advance,
}
use Rattle.path_core.specs.declared.event.Place.TheVariants.{Count, Current, Oldest}
use Rattle.path_core.specs.declared.state.OrderGroups.{OrderGroups}
use Rattle.path_core.specs.Words.{place_of}
use Rattle.path_core.specs.Next.{groups_after, with_tally}
use Rattle.path_core.proofs.lists.Replaced.{default_put}

-- A step on the groups of an order leaves the others.
by_order : {A : Type 0} (o p : Order) (read : OrderGroups → A) (x y : OrderGroups)
    → (o ≡ p → read y ≡ read x) → read (if is_same_order o p then y else x) ≡ read x
by_order Write Write read x y same = same refl
by_order Append Append read x y same = same refl
by_order Write Append read x y same = refl
by_order Append Write read x y same = refl

other_count : (o p : Order) (l : List Tally) (g h : ℕ) (k : Tally) → Count o h ≢ Count p g
    → o ≡ p → tally_at (set l g k) h ≡ tally_at l h
other_count o p l g h k apart same =
    get_or-set_other l g h k (OpenTally 0) (λ e. apart (λ i. Count (same i) (e i)))

pub count_left : (o : Order) (x : OrderGroups) (e : Event) (h : ℕ) → Count o h ≢ place_of e
    → tally_at (groups_after o x e).tallies h ≡ tally_at x.tallies h
count_left o x (Register by p g) h n =
    by_order o p (λ y. tally_at y.tallies h) x (with_tally x g one_more)
    (other_count o p x.tallies g h (one_more (tally_at x.tallies g)) n)
count_left o x (Close by p g c) h n =
    by_order o p (λ y. tally_at y.tallies h) x (with_tally x g one_less)
    (other_count o p x.tallies g h (one_less (tally_at x.tallies g)) n)
count_left o x (Expire by p g) h n =
    by_order o p (λ y. tally_at y.tallies h) x (with_tally x g expired)
    (other_count o p x.tallies g h (expired (tally_at x.tallies g)) n)
count_left o x (OpenGroup by p g) h n =
    by_order o p (λ y. tally_at y.tallies h) x
    (record x { tallies = x.tallies ++ OpenTally 0 ∷ [] })
    (λ same. default_put x.tallies (OpenTally 0) h)
count_left o x (MoveCurrent by p g) h n =
    by_order o p (λ y. tally_at y.tallies h) x (record x { current = g }) (λ same. refl)
count_left o x (Advance by p g) h n =
    by_order o p (λ y. tally_at y.tallies h) x (record x { oldest = g }) (λ same. refl)
count_left o x e h n = refl

pub current_left : (o : Order) (x : OrderGroups) (e : Event) → Current o ≢ place_of e
    → (groups_after o x e).current ≡ x.current
current_left o x (Register by p g) n =
    by_order o p (λ y. y.current) x (with_tally x g one_more) (λ same. refl)
current_left o x (Close by p g c) n =
    by_order o p (λ y. y.current) x (with_tally x g one_less) (λ same. refl)
current_left o x (Expire by p g) n =
    by_order o p (λ y. y.current) x (with_tally x g expired) (λ same. refl)
current_left o x (OpenGroup by p g) n =
    by_order o p (λ y. y.current) x (record x { tallies = x.tallies ++ OpenTally 0 ∷ [] })
    (λ same. refl)
current_left o x (MoveCurrent by p g) n =
    by_order o p (λ y. y.current) x (record x { current = g })
    (λ same. absurd (n (λ i. Current (same i))))
current_left o x (Advance by p g) n =
    by_order o p (λ y. y.current) x (record x { oldest = g }) (λ same. refl)
current_left o x e n = refl

pub oldest_left : (o : Order) (x : OrderGroups) (e : Event) → Oldest o ≢ place_of e
    → (groups_after o x e).oldest ≡ x.oldest
oldest_left o x (Register by p g) n =
    by_order o p (λ y. y.oldest) x (with_tally x g one_more) (λ same. refl)
oldest_left o x (Close by p g c) n =
    by_order o p (λ y. y.oldest) x (with_tally x g one_less) (λ same. refl)
oldest_left o x (Expire by p g) n =
    by_order o p (λ y. y.oldest) x (with_tally x g expired) (λ same. refl)
oldest_left o x (OpenGroup by p g) n =
    by_order o p (λ y. y.oldest) x (record x { tallies = x.tallies ++ OpenTally 0 ∷ [] })
    (λ same. refl)
oldest_left o x (MoveCurrent by p g) n =
    by_order o p (λ y. y.oldest) x (record x { current = g }) (λ same. refl)
oldest_left o x (Advance by p g) n =
    by_order o p (λ y. y.oldest) x (record x { oldest = g })
    (λ same. absurd (n (λ i. Oldest (same i))))
oldest_left o x e n = refl

-- At its own place.

pub count_here : (l : List Tally) (g : ℕ) (k : Tally) → g < length l → tally_at (set l g k) g ≡ k
count_here l g k inside = get_or-set_same l g k (OpenTally 0) inside

pub opened_here : (l : List Tally) (g : ℕ) → length l ≤ g
    → tally_at (l ++ OpenTally 0 ∷ []) g ≡ OpenTally 0
opened_here l g past = default_put l (OpenTally 0) g ∙ get_or_past l g (OpenTally 0) past
