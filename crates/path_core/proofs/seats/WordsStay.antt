-- What was found of the words of no table stays known in each allowed step.
use Rattle.std.proofs.Common.{◌≡◌, ◌≢◌, ℕ, ◌<◌, is_some, refl, sym, ap, ◌∙◌, arith}
use Rattle.std.proofs.lemmas.Bool.{cond_both}
use Rattle.op_core.specs.declared.count.Order.{Order}
use Rattle.op_core.specs.declared.count.Order.TheVariants.{Write, Append}
use Rattle.op_core.specs.Tallies.{is_same_order}
use Rattle.path_core.specs.declared.event.Cursor.TheVariants.{Synced, OldestLive, Stopped}
use Rattle.path_core.specs.declared.event.Event.{Event}
use Rattle.path_core.specs.declared.event.Event.TheVariants.{
  Register,
  Close,
  OpenGroup,
  MoveCurrent,
  Expire,
  Advance,
  Put,
}
use Rattle.path_core.specs.declared.event.Turn.TheVariants.{Sync}
use Rattle.path_core.specs.declared.seat.Found.{Found}
use Rattle.path_core.specs.declared.seat.FoundGroups.{FoundGroups}
use Rattle.path_core.specs.declared.seat.Issue.TheVariants.{Rest, Opened}
use Rattle.path_core.specs.declared.seat.Seat.{Seat}
use Rattle.path_core.specs.declared.seat.SyncTurn.{SyncTurn}
use Rattle.path_core.specs.declared.state.OrderGroups.{OrderGroups}
use Rattle.path_core.specs.declared.state.PathState.{PathState}
use Rattle.path_core.specs.Parts.{groups_of, seat_of, HoldsTurn}
use Rattle.path_core.specs.Words.{by_of}
use Rattle.path_core.specs.Allowed.{IsStep}
use Rattle.path_core.specs.Next.{next_of, groups_after}
use Rattle.path_core.specs.Lawful.{IsLawfulLog}
use Rattle.path_core.specs.LawfulOrders.{IsOrderly}
use Rattle.path_core.specs.LawfulSeats.{GroupsKnown, GroupsExact, WordsKnown}
use Rattle.path_core.proofs.orders.HeldTurns.{begun_is_held, held_holds}
use Rattle.path_core.proofs.orders.GroupsMove.{groups_move}
use Rattle.path_core.proofs.log.LogGrows.{synced_grows, log_grows}
use Rattle.path_core.proofs.seats.KnownWords.{SyncIs, KnowsWords}

-- A step that changes a word of no table that is guarded by the Sync turn.
abbrev pub ChangesWord : Event → Type 0
ChangesWord (MoveCurrent by order group) = Unit {0}
ChangesWord (Advance by order group) = Unit {0}
ChangesWord (Put by Synced value) = Unit {0}
ChangesWord (Put by Stopped value) = Unit {0}
ChangesWord _ = ⊥

-- The words of an order's groups stay.
pub record SameGroups (groups after : OrderGroups) : Type 0 where
  pub current : after.current ≡ groups.current
  pub oldest : after.oldest ≡ groups.oldest

-- groups that a step leaves
abbrev same : (groups : OrderGroups) → SameGroups groups groups
same groups = record { current = refl; oldest = refl }

module _ (x : PathState) (L : IsLawfulLog x) where
  abbrev O : IsOrderly x
  O = L.orders

  -- What was found still stands.

  -- what was found of an order's groups
  groups_stay : (o : Order) (e : Event) → IsStep x e → (f : FoundGroups) → GroupsKnown x o f
      → GroupsKnown (next_of x e) o f
  groups_stay o e a f K = let M = groups_move x O o e a in record {
    current = λ g h. let l = K.current g h in let m = M.current in omega arith;
    oldest = λ g h. let l = K.oldest g h in let m = M.oldest in omega arith;
    finished = λ g h. M.finished g (K.finished g h);
  }

  -- a stopped log stays stopped, with the same number
  stopped_stays : (e : Event) → IsStep x e → 0 < x.stopped → x.stopped ≡ (next_of x e).stopped
  stopped_stays (Put by Synced value) a some = refl
  stopped_stays (Put by (OldestLive table) value) a some = refl
  stopped_stays (Put by Stopped value) a some = absurd (let z = a.row.2 in omega arith)
  stopped_stays e a some = refl

  -- what was found of all words
  pub words_stay : (e : Event) → IsStep x e → (f : Found) → WordsKnown x f
      → WordsKnown (next_of x e) f
  words_stay e a f K = record {
    write = groups_stay Write e a f.write K.write;
    append = groups_stay Append e a f.append K.append;
    log = λ key h. let l = K.log key h in
        let g = log_grows x L.sized L.claims_tile_the_log e a in omega arith;
    synced = λ key h. let l = K.synced key h in let g = synced_grows x e a in omega arith;
    stopped = λ n h some. let is = K.stopped n h some in is ∙ stopped_stays e a (omega arith);
  }

  -- The words that the Sync turn guards stay, where a step changes none.

  -- the groups of an order, as a step of any order leaves them
  groups_left : (o : Order) (e : Event) → (ChangesWord e → ⊥)
      → SameGroups (groups_of x o) (groups_after o (groups_of x o) e)
  groups_left o (Register by order group) other = cond_both (is_same_order o order) _
      (groups_of x o) (SameGroups (groups_of x o)) (λ _. record { current = refl; oldest = refl })
      (λ _. same (groups_of x o))
  groups_left o (Close by order group carried) other = cond_both (is_same_order o order) _
      (groups_of x o) (SameGroups (groups_of x o)) (λ _. record { current = refl; oldest = refl })
      (λ _. same (groups_of x o))
  groups_left o (OpenGroup by order group) other = cond_both (is_same_order o order) _
      (groups_of x o) (SameGroups (groups_of x o)) (λ _. record { current = refl; oldest = refl })
      (λ _. same (groups_of x o))
  groups_left o (Expire by order group) other = cond_both (is_same_order o order) _
      (groups_of x o) (SameGroups (groups_of x o)) (λ _. record { current = refl; oldest = refl })
      (λ _. same (groups_of x o))
  groups_left o (MoveCurrent by order group) other = absurd (other tt)
  groups_left o (Advance by order group) other = absurd (other tt)
  groups_left o e other = same (groups_of x o)

  -- the same of the state after it
  pub groups_same : (o : Order) (e : Event) → (ChangesWord e → ⊥)
      → SameGroups (groups_of x o) (groups_of (next_of x e) o)
  groups_same Write e other = groups_left Write e other
  groups_same Append e other = groups_left Append e other

  -- what is known exactly of an order's groups
  exact_stays : (o : Order) (e : Event) → IsStep x e → (ChangesWord e → ⊥) → (f : FoundGroups)
      → GroupsExact x o f → GroupsExact (next_of x e) o f
  exact_stays o e a other f E =
      let S = groups_same o e other in let M = groups_move x O o e a in record {
        current = λ g h. E.current g h ∙ sym S.current;
        oldest = λ g h. E.oldest g h ∙ sym S.oldest;
        finished = λ g h. M.finished g (E.finished g h);
      }

  -- what is known exactly of all guarded words
  sync_stays : (e : Event) → IsStep x e → (ChangesWord e → ⊥) → (turn : SyncTurn)
      → SyncIs x turn → SyncIs (next_of x e) turn
  sync_stays e a other turn E = record {
    write = exact_stays Write e a other turn.write E.write;
    append = exact_stays Append e a other turn.append E.append;
    synced = λ key h. E.synced key h ∙ synced_same e other;
    stopped = λ n h. E.stopped n h ∙ stopped_same e other;
  }
    where
      synced_same : (e : Event) → (ChangesWord e → ⊥) → x.synced ≡ (next_of x e).synced
      synced_same (Put by Synced value) other = absurd (other tt)
      synced_same (Put by (OldestLive table) value) other = refl
      synced_same (Put by Stopped value) other = refl
      synced_same e other = refl

      stopped_same : (e : Event) → (ChangesWord e → ⊥) → x.stopped ≡ (next_of x e).stopped
      stopped_same (Put by Synced value) other = refl
      stopped_same (Put by (OldestLive table) value) other = refl
      stopped_same (Put by Stopped value) other = absurd (other tt)
      stopped_same e other = refl

  -- who changes such a word holds the Sync turn
  changer_holds : (e : Event) → IsStep x e → ChangesWord e → HoldsTurn (seat_of x (by_of e)) Sync
  changer_holds (MoveCurrent by order group) a c = held_holds (seat_of x by) (Opened order)
      (begun_is_held (seat_of x by) (Opened order)
      (λ q. let r : Opened order ≡ Rest = q in cc) a.row.0)
  changer_holds (Advance by order group) a c = a.row.0
  changer_holds (Put by Synced value) a c = a.row.0
  changer_holds (Put by (OldestLive table) value) a c = absurd c
  changer_holds (Put by Stopped value) a c = a.row.0
  changer_holds e a c = absurd c

  -- what a seat knew before such a step, it knows after it
  pub known_left : (e : Event) → IsStep x e → (ChangesWord e → ⊥) → (s : Seat) → KnowsWords x s
      → KnowsWords (next_of x e) s
  known_left e a other s K = record {
    words = words_stay e a s.found K.words;
    sync = λ turn h. sync_stays e a other turn (K.sync turn h);
  }

  -- another seat knows what it knew
  pub others_know : (e : Event) → IsStep x e → (w : ℕ) → w ≢ by_of e
      → KnowsWords x (seat_of x w) → KnowsWords (next_of x e) (seat_of x w)
  others_know e a w apart K = record {
    words = words_stay e a (seat_of x w).found K.words;
    sync = λ turn h. sync_stays e a (λ c. apart (O.one_holder_a_turn.one Sync w (by_of e)
        (ap (λ o. is_some o) h) (changer_holds e a c))) turn (K.sync turn h);
  }
