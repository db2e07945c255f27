-- What a change of its turn leaves of what the holder of the Sync turn knows.
use Rattle.std.proofs.Common.{◌<◌, ◌+◌, ◌*◌, arith, ◌≡◌, ℕ, ◌^◌, true, Option, Some, None, is_some}
use Rattle.std.proofs.Common.{IsTrue, refl, ap, ◌∙◌}
use Rattle.std.proofs.lemmas.Bool.{false≢true}
use Rattle.std.specs.Option.{option_and_then, option_map, option_map_or}
use Rattle.op_core.specs.Tallies.{is_finished}
use Rattle.op_core.specs.declared.count.Order.{Order}
use Rattle.path_core.specs.declared.seat.Issue.{Issue}
use Rattle.path_core.specs.declared.seat.Issue.TheVariants.{Rest}
use Rattle.path_core.specs.declared.seat.Seat.{Seat}
use Rattle.path_core.specs.declared.seat.SyncTurn.{SyncTurn}
use Rattle.path_rule.specs.declared.view.View.{View}
use Rattle.path_rule.specs.Calls.{Holds}
use Rattle.op_core.proofs.CountWords.{tally_back}
use Rattle.op_core.specs.CountWords.{count_word, tally_in}
use Rattle.op_core.specs.declared.count.Tally.TheVariants.{Expired}
use Rattle.path_rule.specs.Turns.{FoundRunning, TurnSaw, TurnOld, turn_groups}

pub the_turn : (p : Seat) → IsTrue (is_some p.sync) → (t : SyncTurn) × (p.sync ≡ Some t)
the_turn p = by p.sync
  where
    by : (o : Option SyncTurn) → IsTrue (is_some o) → (t : SyncTurn) × (o ≡ Some t)
    by None h = absurd (false≢true h)
    by (Some t) h = (t, refl)

-- a change of the turn that leaves the last marker
pub marker_stays : (f : SyncTurn → SyncTurn) (o : Option SyncTurn)
    → ((t : SyncTurn) → (f t).marker ≡ t.marker)
    → option_and_then (λ (t : SyncTurn). t.marker) (option_map f o)
    ≡ option_and_then (λ (t : SyncTurn). t.marker) o
marker_stays f None same = refl
marker_stays f (Some t) same = same t

-- a change of the turn that leaves its issue
module _ (f : SyncTurn → SyncTurn) (o : Option SyncTurn) where
  pub still : IsTrue (is_some o) → IsTrue (is_some (option_map f o))
  still h = by o h
    where
      by : (o : Option SyncTurn) → IsTrue (is_some o) → IsTrue (is_some (option_map f o))
      by None h = h
      by (Some t) h = refl

  pub becomes : (i j : Issue) → ((t : SyncTurn) → t.issue ≡ i → (f t).issue ≡ j) → IsTrue (is_some
      o)
      → option_map_or (λ (t : SyncTurn). t.issue) o Rest ≡ i
      → option_map_or (λ (t : SyncTurn). t.issue) (option_map f o) Rest ≡ j
  becomes i j g h e = by o h e
    where
      by : (o : Option SyncTurn) → IsTrue (is_some o)
          → option_map_or (λ (t : SyncTurn). t.issue) o Rest ≡ i
          → option_map_or (λ (t : SyncTurn). t.issue) (option_map f o) Rest ≡ j
      by None h e = absurd (false≢true h)
      by (Some t) h e = g t e

pub changes : (f : SyncTurn → SyncTurn) (i j : Issue)
    → ((t : SyncTurn) → t.issue ≡ i → (f t).issue ≡ j) → (v v' : View)
    → v'.part.sync ≡ option_map f v.part.sync → v'.hands ≡ v.hands → Holds i v → Holds j v'
changes f i j g v v' sync hands H = record {
  held = ap (λ o. is_some o) sync ∙ still f v.part.sync H.held;
  issue = ap (λ o. option_map_or (λ (t : SyncTurn). t.issue) o Rest) sync
      ∙ becomes f v.part.sync i j g H.held H.issue;
  empty = ap (λ h. h.box_taken) hands ∙ H.empty;
}

-- the word of a finished count
pub is_gone : (n g : ℕ) → g < 2 ^ 47 → n ≡ 65536 * g + 2 ^ 63 → is_finished (tally_in n) ≡ true
is_gone n g low e = let is : n ≡ count_word g (Expired 0) = omega arith in
    ap (λ m. is_finished (tally_in m)) is
    ∙ ap is_finished (tally_back g (Expired 0) low (omega arith))

pub saw_after : (f : SyncTurn → SyncTurn) (o : Order) (p q : Seat) (c : ℕ)
    → ((t : SyncTurn) → (turn_groups o (f t)).current ≡ (turn_groups o t).current)
    → q.sync ≡ option_map f p.sync → TurnSaw o p c → TurnSaw o q c
saw_after f o p q c g sync (t, e, saw) = (f t, sync ∙ ap (option_map f) e, g t ∙ saw)

pub runs_after : (f : SyncTurn → SyncTurn) (p q : Seat)
    → ((t : SyncTurn) → (f t).stopped ≡ t.stopped) → q.sync ≡ option_map f p.sync
    → FoundRunning p → FoundRunning q
runs_after f p q g sync (t, e, runs) = (f t, sync ∙ ap (option_map f) e, g t ∙ runs)

pub old_after : (f : SyncTurn → SyncTurn) (o : Order) (p q : Seat) (c : ℕ)
    → ((t : SyncTurn) → (turn_groups o (f t)).oldest ≡ (turn_groups o t).oldest)
    → q.sync ≡ option_map f p.sync → TurnOld o p c → TurnOld o q c
old_after f o p q c g sync (t, e, saw) = (f t, sync ∙ ap (option_map f) e, g t ∙ saw)
