-- Where a seat's group stands among the groups of its order.
use Rattle.std.proofs.Common.{
  ◌≡◌,
  ℕ,
  ◌<◌,
  ◌≤◌,
  Option,
  Some,
  None,
  is_some,
  length,
  IsTrue,
  refl,
  sym,
  ap,
  ◌∙◌,
  arith,
}
use Rattle.std.specs.Option.{option_map_or}
use Rattle.std.proofs.lemmas.Bool.{false≢true}
use Rattle.std.proofs.lemmas.List.{get_or_past}
use mathlib.Core.Logic.{dite}
use native.Mathlib.Decide.{dec_lt, ℕ_discrete}
use Rattle.op_core.specs.declared.count.Order.{Order}
use Rattle.op_core.specs.declared.count.Order.TheVariants.{Write, Append}
use Rattle.op_core.specs.declared.count.Tally.TheVariants.{Open}
use Rattle.op_core.specs.Tallies.{IsOpen, running_of}
use Rattle.path_core.specs.declared.event.Turn.TheVariants.{Sync}
use Rattle.path_core.specs.declared.seat.Issue.{Issue}
use Rattle.path_core.specs.declared.seat.Issue.TheVariants.{Rest, Opened, Moved}
use Rattle.path_core.specs.declared.seat.Seat.{Seat}
use Rattle.path_core.specs.declared.seat.SyncTurn.{SyncTurn}
use Rattle.path_core.specs.declared.state.PathState.{PathState}
use Rattle.path_core.specs.Parts.{
  groups_of,
  tally_of,
  seat_of,
  group_in,
  issue_of,
  HoldsTurn,
}
use Rattle.path_core.specs.Lawful.{IsLawfulPath}
use Rattle.path_core.specs.LawfulOrders.{made_at}
use Rattle.path_core.proofs.orders.NobodyAbove.{in_group}

-- The current group of an order is made.

current_made : (i : Issue) (o : Order) (c : ℕ) → c < made_at i o c
current_made Rest o c = omega arith
current_made (Moved p) o c = omega arith
current_made (Opened Write) Write c = omega arith
current_made (Opened Write) Append c = omega arith
current_made (Opened Append) Write c = omega arith
current_made (Opened Append) Append c = omega arith

pub current_is_made : (x : PathState) → IsLawfulPath x → (o : Order)
    → (groups_of x o).current < length (groups_of x o).tallies
current_is_made x L o =
    let made = (L.orders.made_groups o).made in
    let below = current_made L.orders.issue o (groups_of x o).current in omega arith

-- So is the group in which a seat is, and its count stands for somebody.

pub some_left : (x : PathState) → IsLawfulPath x → (o : Order) (w g : ℕ)
    → group_in o (seat_of x w) ≡ Some g → 0 < running_of (tally_of x o g)
some_left x L o w g is = in_group x L.orders o w g is

pub group_made : (x : PathState) → IsLawfulPath x → (o : Order) (w g : ℕ)
    → group_in o (seat_of x w) ≡ Some g → g < length (groups_of x o).tallies
group_made x L o w g is = dite (dec_lt g (length (groups_of x o).tallies)) (λ l. l)
    (λ past. absurd (let some = some_left x L o w g is in
    let none = ap running_of (get_or_past (groups_of x o).tallies g (Open 0) (omega arith)) in
    omega arith))

-- the turn of a holder that is at no issue
pub at_rest : (s : Seat) → IsTrue (is_some s.sync) → issue_of s ≡ Rest
    → (turn : SyncTurn) × (s.sync ≡ Some turn) × (turn.issue ≡ Rest)
at_rest s = by s.sync
  where
    by : (o : Option SyncTurn) → IsTrue (is_some o)
        → option_map_or (λ (turn : SyncTurn). turn.issue) o Rest ≡ Rest
        → (turn : SyncTurn) × (o ≡ Some turn) × (turn.issue ≡ Rest)
    by None h e = absurd (false≢true h)
    by (Some turn) h e = (turn, refl, e)

-- While the holder of the Sync turn is at no issue, no barrier is under way.
pub rests : (x : PathState) (L : IsLawfulPath x) (w : ℕ) → HoldsTurn (seat_of x w) Sync
    → issue_of (seat_of x w) ≡ Rest → L.orders.issue ≡ Rest
rests x L w held rest =
    let R = at_rest (seat_of x w) held rest in
    sym (L.orders.one_holder_a_turn.issue_is w R.0 R.1) ∙ R.2

-- While no barrier is under way, an open group is the current one.
pub open_is_current : (x : PathState) (L : IsLawfulPath x) → L.orders.issue ≡ Rest → (o : Order)
    (g : ℕ) → g ≤ (groups_of x o).current → IsOpen (tally_of x o g)
    → g ≡ (groups_of x o).current
open_is_current x L rest o g low up = dite (ℕ_discrete g (groups_of x o).current) (λ e. e)
    (λ n. absurd (
    let below = ((L.orders.counts_stand_for_seats o).each g).below_current (omega arith) up in
    let moved : Rest ≡ Moved o = sym rest ∙ below.1 in
    cc
    ))
