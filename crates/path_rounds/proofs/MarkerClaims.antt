-- What the looks at the log and the claim of a marker tell of what a seat wrote.
use Rattle.std.proofs.Common.{
  ◌≡◌,
  ℕ,
  ◌≤◌,
  true,
  Option,
  Some,
  None,
  is_some,
  IsTrue,
  refl,
  sym,
  ap,
  ◌∙◌,
  subst,
  arith,
}
use Rattle.std.proofs.lemmas.Bool.{false≢true}
use Rattle.std.specs.List.{Contains}
use Rattle.std.specs.Option.{option_and_then, option_map}
use Rattle.op_core.specs.declared.count.Order.TheVariants.{Append}
use Rattle.path_core.specs.declared.event.ClaimKind.TheVariants.{Marker}
use Rattle.path_core.specs.declared.event.Event.TheVariants.{Look, Claim}
use Rattle.path_core.specs.declared.event.Place.TheVariants.{Log}
use Rattle.path_core.specs.declared.note.EntryNote.{EntryNote}
use Rattle.path_core.specs.declared.seat.LastMarker.{LastMarker}
use Rattle.path_core.specs.declared.seat.Seat.{Seat}
use Rattle.path_core.specs.declared.seat.SyncTurn.{SyncTurn}
use Rattle.path_core.specs.Holders.{behind_last}
use Rattle.path_core.specs.SeatAfter.{marker_claimed}
use Rattle.path_core.proofs.frame.Runs.{past_sizes}
use Rattle.path_rule.specs.declared.view.Hands.{Hands}
use Rattle.path_rule.specs.declared.view.View.{View}
use Rattle.path_rule.specs.Calls.{Did, DidAs}
use Rattle.path_rule.specs.Finds.{Finds}
use Rattle.path_rule.specs.HandsAfter.{with_marker}
use Rattle.path_rule.specs.Rounds.{WroteBelow}
use Rattle.path_rule.specs.Rule.{Was, start_of, view_after, with_hands}
use Rattle.path_rule.specs.SyncAnswers.{marker_start}
use Rattle.path_rule.specs.Turns.{FoundRunning, KeepsCurrent, MarkerWaits, IsBarred, TurnSaw}
use Rattle.path_rule.proofs.log.OwnWrites.{wrote_below, below_log, below_marker}
use Rattle.path_rule.proofs.seats.HolderKnows.{runs_after, saw_after, the_turn}
use Rattle.path_rule.proofs.seats.RoundsGo.{one_as, still_wrote}
use Rattle.path_rounds.specs.Marks.{HasMarked}

-- where the log does not stand above the key behind the last marker
pub none_since : (v : View) (w n : ℕ) (t : SyncTurn) (kept : Option LastMarker)
    (was : Was v w (Look w Log)) → v.part.sync ≡ Some t → t.marker ≡ kept
    → n ≤ behind_last v.size.capacity kept → was.core.log ≡ n
    → WroteBelow (marker_start kept) v.trail
none_since v w n t kept was sync marker low log =
    let known = (was.lawful.seats_know w).sync t
    (ap (λ (s : Seat). s.sync) (sym was.part) ∙ sync) in
    let sizes = past_sizes was.events (start_of v.size) was.core was.run in
    wrote_below v w (Look w Log) was (marker_start kept)
    (below_marker was.core was.lawful kept (sym marker ∙ known.marker)
    (subst (λ k. was.core.log ≤ behind_last k kept) (sym sizes.capacity)
    (subst (λ k. k ≤ behind_last v.size.capacity kept) (sym log) low)))

-- A look at the log, and the claim of a marker, leave what the holder of the Sync turn found of the
-- current group.
pub log_keeps : (v after : View) (w n : ℕ) → Did v w (Look w Log) n after
    → KeepsCurrent Append v.part after.part
log_keeps v after w n D =
    λ k saw. subst (λ (z : View). TurnSaw Append z.part k) (sym D.view) saw

pub marked_keeps : (u after : View) (w from to : ℕ) → DidAs u w (Claim w (record { 0 = from })
    (record { 0 = to }) Marker) to (with_marker w from u.hands) after
    → KeepsCurrent Append u.part after.part
marked_keeps u after w from to D =
    let v = view_after (with_hands (with_marker w from u.hands) u)
    (Claim w (record { 0 = from }) (record { 0 = to }) Marker) to in
    λ k saw. subst (λ (z : View). TurnSaw Append z.part k) (sym D.view)
    (saw_after (marker_claimed w from) Append u.part v.part k (λ t. refl) refl saw)

-- and that the log runs
pub marked_runs : (u after : View) (w from to : ℕ) → DidAs u w (Claim w (record { 0 = from })
    (record { 0 = to }) Marker) to (with_marker w from u.hands) after
    → FoundRunning u.part → FoundRunning after.part
marked_runs u after w from to D runs =
    let v = view_after (with_hands (with_marker w from u.hands) u)
    (Claim w (record { 0 = from }) (record { 0 = to }) Marker) to in
    subst (λ (z : View). FoundRunning z.part) (sym D.view)
    (runs_after (marker_claimed w from) u.part v.part (λ t. refl) refl runs)

-- Each log key that a seat had found lies at or below one that it finds.
pub rises_to : (v : View) (w n : ℕ) (was : Was v w (Look w Log)) → was.core.log ≡ n → (key : ℕ)
    → Finds Log key v.trail → key ≤ n
rises_to v w n was log key F = let low = was.tells.come key F in omega (arith, low, log)

-- behind its own claim
pub marked : (u after : View) (w from to : ℕ) → DidAs u w (Claim w (record { 0 = from })
    (record { 0 = to }) Marker) to (with_marker w from u.hands) after
    → IsTrue (is_some u.part.sync) → HasMarked w u from after
marked u after w from to D held = record {
  hands = ap (λ (v : View). v.hands) D.view;
  waits = subst (λ (v : View). MarkerWaits w v.part from) (sym D.view)
      (ap (λ (o : Option SyncTurn). option_and_then (λ (t : SyncTurn). t.marker)
      (option_map (marker_claimed w from) o)) (the_turn u.part held).1);
  wrote = still_wrote w from _ u after (one_as w _ to _ u after refl D refl)
      (wrote_below u w _ D.was from (λ (n : EntryNote) (h : Contains D.was.core.notes n).
      let low = below_log D.was.core D.was.lawful n h in let at = D.was.allowed.row.2 in
      omega arith));
  rises = λ key F. let low = D.was.tells.come key F in let at = D.was.allowed.row.2 in
      omega (arith, low, at);
}

-- a marker that has a barrier
pub is_barred : (h : Hands) (m : LastMarker) → h.progress.marker ≡ Some m
    → is_some m.barrier ≡ true → IsBarred h m.start
is_barred h m e b = by m.barrier refl b
  where
    by : (o : Option ℕ) → m.barrier ≡ o → is_some o ≡ true → IsBarred h m.start
    by None q b = absurd (false≢true b)
    by (Some g) q b = (m.by, g, e ∙ (λ j. Some (record m { barrier = q j })))
