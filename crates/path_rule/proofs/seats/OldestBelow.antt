-- An oldest group whose count is finished is below the current one.
use Rattle.std.proofs.Common.{◌*◌, ◌+◌, ◌≡◌, ◌≢◌, ℕ, ◌<◌, ◌^◌, Some, sym, ap, ◌∙◌, subst, arith}
use Rattle.op_core.specs.declared.count.Order.{Order}
use Rattle.op_core.specs.declared.count.Order.TheVariants.{Write, Append}
use Rattle.op_core.specs.Tallies.{IsOpen}
use Rattle.path_core.specs.declared.event.Place.TheVariants.{Count}
use Rattle.path_core.specs.declared.seat.Seat.{Seat}
use Rattle.path_core.specs.declared.seat.SyncTurn.{SyncTurn}
use Rattle.path_core.specs.declared.state.PathState.{PathState}
use Rattle.path_core.specs.Lawful.{IsLawfulPath}
use Rattle.path_core.specs.LawfulSeats.{GroupsExact, SyncExact}
use Rattle.path_core.specs.Parts.{seat_of, groups_of, tally_of}
use Rattle.path_core.specs.Words.{reading}
use Rattle.path_rule.specs.Layout.{word_for}
use Rattle.path_rule.specs.Turns.{TurnSaw, TurnOld, turn_groups}
use Rattle.op_core.proofs.CountWords.{finished_word}
use Rattle.path_rule.proofs.places.ReadBack.{count_small}

module _ (x : PathState) (L : IsLawfulPath x) (w : ℕ) (p : Seat) (mine : p ≡ seat_of x w) where
  exact_at : (o : Order) (t : SyncTurn) → SyncExact x t → GroupsExact x o (turn_groups o t)
  exact_at Write t E = E.write
  exact_at Append t E = E.append

  exact : (o : Order) (t : SyncTurn) → p.sync ≡ Some t → GroupsExact x o (turn_groups o t)
  exact o t e = exact_at o t ((L.seats_know w).sync t (ap (λ (q : Seat). q.sync) (sym mine) ∙ e))

  pub gone_below : (o : Order) (g c : ℕ)
      → word_for (Count o g) (reading x (Count o g)) ≡ 65536 * g + 2 ^ 63
      → TurnOld o p g → TurnSaw o p c → g < c
  gone_below o g c full old saw =
      let c_is : c ≡ (groups_of x o).current = (exact o saw.0 saw.1).current c saw.2 in
      let g_is : g ≡ (groups_of x o).oldest = (exact o old.0 old.1).oldest g old.2 in
      let low = (L.orders.made_groups o).oldest in
      let small = count_small x L o g in
      let above : g ≢ (groups_of x o).current =
      λ now. subst IsOpen (finished_word g (tally_of x o g) (omega arith) full)
      (((L.orders.counts_stand_for_seats o).each g).now now) in omega arith
