-- Once all boxes behind the barrier of the last marker are gathered, the log may be synced up to
-- it, and what is pending up to there is what the machine would make lasting.
use Rattle.std.proofs.Common.{◌≡◌, ℕ, ◌<◌, true, List, Some, sym, ap, ◌∙◌, subst, arith}
use Rattle.std.specs.List.{Contains, filter}
use mathlib.Core.Logic.{inl}
use mathlib.Core.Option.{some}
use lib.ListN.{get_elem?}
use Rattle.atomic_table.specs.Table.{State, Me}
use Rattle.op_core.specs.Tallies.{IsPassed}
use Rattle.op_core.specs.declared.count.Order.TheVariants.{Append}
use Rattle.path_core.specs.declared.event.Cursor.TheVariants.{Synced}
use Rattle.path_core.specs.declared.event.Event.TheVariants.{Put}
use Rattle.path_core.specs.declared.note.EntryNote.{EntryNote}
use Rattle.path_core.specs.declared.seat.LastMarker.{LastMarker}
use Rattle.path_core.specs.declared.seat.Seat.{Seat}
use Rattle.path_core.specs.declared.seat.SyncTurn.{SyncTurn}
use Rattle.path_core.specs.declared.state.Claim.{Claim}
use Rattle.path_core.specs.Allowed.{IsStep, IsSyncPoint}
use Rattle.path_core.specs.Keeper.{IsParted}
use Rattle.path_core.specs.LawfulLog.{claim_in}
use Rattle.path_core.specs.LawfulSeats.{SyncExact}
use Rattle.path_core.specs.Next.{is_between}
use Rattle.path_core.specs.Parts.{last_marker}
use Rattle.path_core.proofs.frame.Seats.{current_is_made}
use Rattle.path_core.proofs.log.MarkerTells.{last_synced, claim_of_kept}
use Rattle.path_rule.specs.declared.lasting.Beside.{Beside}
use Rattle.path_rule.specs.declared.lasting.Lasting.{Lasting}
use Rattle.path_rule.specs.declared.slot.Slot.{Slot}
use Rattle.path_rule.specs.declared.view.PathSize.{PathSize}
use Rattle.path_rule.specs.declared.view.Progress.{Progress}
use Rattle.path_rule.specs.declared.view.Role.TheVariants.{Steps}
use Rattle.path_rule.specs.declared.view.View.{View}
use Rattle.path_rule.specs.Lasts.{shown}
use Rattle.path_rule.specs.Rule.{Ruled}
use Rattle.path_rule.specs.Turns.{IsBarred}
use Rattle.path_rule.proofs.boxes.AllGathered.{gathered_all, marker_at}
use Rattle.path_rule.proofs.log.Lending.{run_is}
use Rattle.path_rule.proofs.moves.HolderFacts.{has, is_held, hands_now}
use Rattle.path_rule.proofs.moves.Looks.{within, own_part}
use Rattle.path_rule.proofs.moves.Moving.{core_lawful}

module _ {K : Type 0} (shows : K → Lasting) (o : Beside) (size : PathSize) (slots id : ℕ) (m : Me
    (Slot K) View)
    (w : ℕ) (mine : m.0.role ≡ Steps w) where
  module _ (s : State (Slot K) View) (r : Ruled shows o size s)
      (there : get_elem? s.views id ≡ some m.0) where
    -- what the holder found of the cursors while it holds the turn is exact
    pub turn_exact : (t : SyncTurn) → m.0.part.sync ≡ Some t → SyncExact r.core t
    turn_exact t e = ((core_lawful shows o size s r).seats_know w).sync t
        (own_part shows o size slots id m w mine s r there (λ (p : Seat). p.sync) (Some t) e)

  -- What the holder of the turn has gathered is what the machine would make lasting.
  module _ (s : State (Slot K) View) (r : Ruled shows o size s)
      (there : get_elem? s.views id ≡ some m.0) (t : SyncTurn) (sync : m.0.part.sync ≡ Some t)
      (runs : t.stopped ≡ Some 0) (all : m.0.hands.progress.gathered ≡ true)
      (value : ℕ) (run left : List EntryNote) (low : r.core.synced < value)
      (barred : IsBarred m.0.hands value)
      (parted : IsParted value m.0.hands.pending run left) where
    pub settled : IsStep r.core (Put w Synced value)
        × (filter (is_between r.core.synced value) r.core.notes ≡ run)
        × ((b : ℕ) (n : EntryNote) → Contains (r.boxed.contents b) n → value < n.end.0)
    settled = let x = r.core in let B = r.boxed in let law = core_lawful shows o size s r in
        let held = is_held m.0.part.sync t sync in
        let X = turn_exact s r there t sync in
        let H = hands_now shows o size slots id m w mine s r there in let D = H.desk held in
        let whole : B.progress.gathered ≡ true =
        ap (λ (k : Progress). k.gathered) (sym D.2) ∙ all in
        let by : ℕ = barred.0 in let group : ℕ = barred.1 in
        let C = claim_of_kept (last_marker x)
        (record { by = by; start = value; barrier = Some group })
        (B.marked ∙ (ap (λ (k : Progress). k.marker) (sym D.2) ∙ barred.2)) in
        let c : Claim = C.0 in let start = ap (λ (k : LastMarker). k.start) C.2 in
        let issued = ap (λ (k : LastMarker). k.barrier) C.2 in
        let M = marker_at x law c C.1 group issued in
        let starts : (claim_in x.claims M.number).start ≡ value =
        ap (λ (d : Claim). d.start) M.is ∙ start in
        let below = M.below in let passed = B.all whole in
        let more = current_is_made x law Append in
        let gone : IsPassed x.append.tallies group =
        record {
          made = (omega arith);
          finished = λ h le.
              ((law.orders.counts_stand_for_seats Append).each h).below_oldest (omega arith);
        } in
        let point : IsSyncPoint x value =
        subst (λ k. IsSyncPoint x k) start (last_synced x c C.1 group issued gone) in (
          record {
            seat = within shows o size slots id m w mine s r there;
            is_there = tt;
            row = (
              has shows o size slots id m w mine s r there held,
              sym
                  (X.stopped 0 runs),
              low,
              point,
            );
          },
          run_is x law value B.pending run left (subst (λ p. IsParted value p run left) D.1 parted)
              (λ n h. B.sound n (inl h)) (λ n h. B.unlogged n (inl h))
              (λ k. let a = B.alone k 0 1 (λ q. absurd (omega arith)) in omega arith)
              (λ n h le. gathered_all shows size.seats x.notes
              (shown o size.at_open r.kept_to r.filed r.dropped x) x.claims x.append s.homes s.views
              B whole M.number group M.inside
              M.marker
              M.barrier below n h
              (omega arith)),
          (λ b n q. let S = B.stamped b n q in let c = S.gathered whole in
              let u = S.above M.number group M.inside M.marker M.barrier (omega arith) in
              omega arith),
        )
