-- What was dropped was droppable, and lies below the synced key: each allowed step keeps it.
use Rattle.std.proofs.Common.{
  ◌≡◌,
  ℕ,
  ◌<◌,
  ◌≤◌,
  ◌==◌,
  Bool,
  true,
  false,
  not,
  ◌&&◌,
  ◌||◌,
  cond,
  List,
  ◌++◌,
  length,
  sym,
  ◌∙◌,
  subst,
  arith,
}
use Rattle.std.specs.List.{Contains, list_all, filter, range_with_len}
use Rattle.std.proofs.lemmas.List.FromFn.{length-range_with_len, get_or-range_with_len}
use Rattle.std.proofs.lemmas.Bool.{
  false≢true,
  ltb-true,
  eqb-true,
  and_parts,
  or_cases,
  not_from_true,
}
use Rattle.std.proofs.lemmas.List.Elements.{Contains-append_cases}
use mathlib.Core.Logic.{inl, inr}
use Rattle.path_core.specs.declared.event.Event.{Event}
use Rattle.path_core.specs.declared.event.Event.TheVariants.{GiveTurn}
use Rattle.path_core.specs.declared.event.Turn.TheVariants.{Sync, Flush}
use Rattle.path_core.specs.declared.state.PathState.{PathState}
use Rattle.path_core.specs.Parts.{seat_of, is_entry_in}
use Rattle.path_core.specs.Allowed.{IsStep}
use Rattle.path_core.specs.Next.{next_of, newly_dropped, has_filed}
use Rattle.path_core.specs.Lawful.{IsSized}
use Rattle.path_core.specs.LawfulOrders.{IsOrderly}
use Rattle.path_core.specs.declared.note.EntryNote.{EntryNote}
use Rattle.path_core.specs.declared.state.Claim.{Claim as ClaimOf}
use Rattle.path_core.specs.LawfulLog.{
  ClaimsTile,
  EachClaimNoted,
  OwnClaims,
  NotesAreClaims,
  LoggedAreNotes,
  DroppedWas,
}
use Rattle.path_core.specs.Droppable.{
  IsDroppable,
  is_filed,
  is_of,
  is_logged,
  are_filed,
  is_table_filed,
  is_droppable,
}
use Rattle.path_core.specs.Keys.{ordinal_of}
use Rattle.path_core.proofs.lists.Passing.{any_to, all_to, kept_in, filter_from}
use Rattle.path_core.proofs.lists.Ranges.{in_range}
use Rattle.path_core.proofs.log.LogGrows.{synced_grows}
use Rattle.path_core.proofs.log.StaysDroppable.{stays_droppable}

is_logged_to : (logged : List ℕ) (p : ℕ) → is_logged logged p ≡ true → Contains logged p
is_logged_to logged p t = let r = any_to (λ (q : ℕ). q == p) logged t in
    subst (λ k. Contains logged k) (eqb-true r.0 p r.2) r.1

-- the test of a droppable segment
droppable_to : (x : PathState) (o : ℕ) → is_droppable x o ≡ true → IsDroppable x o
droppable_to x o t =
    let third = and_parts _ _ t in
    let second = and_parts _ _ third.0 in
    let first = and_parts _ _ second.0 in
    record {
      closed = ltb-true o (ordinal_of x.log) first.0;
      has_entry = first.1;
      logged = λ c h entry. is_logged_to x.logged c.end (elim (or_cases _ _ (all_to
          (λ (c : ClaimOf). not (is_entry_in o c) || is_logged x.logged c.end) x.claims c second.1
          h)) [
            | inl out ↦ absurd (false≢true (sym (not_from_true (is_entry_in o c) entry) ∙ out))
            | inr l ↦ l
          ]);
      filed = λ t a b below ha hb ia ib key low high.
          in_range (is_filed x.files t) a.end.0 b.end.0 key
          (all_to (λ (b : EntryNote). are_filed x.files t a.end.0 b.end.0)
          (filter (is_of o t) x.notes) b
          (all_to (λ (a : EntryNote). list_all (λ (b : EntryNote).
          are_filed x.files t a.end.0 b.end.0) (filter (is_of o t) x.notes))
          (filter (is_of o t) x.notes) a
          (all_to (is_table_filed x o) (range_with_len 0 (length x.tables)) t third.1 (
            t,
            (let l = length-range_with_len 0 (length x.tables) in omega arith),
            get_or-range_with_len 0 (length x.tables) t t below ∙ omega arith,
          ))
          (kept_in (is_of o t) x.notes a ha ia)) (kept_in (is_of o t) x.notes b hb ib)) low high;
    }

module _ (x : PathState) (sized : IsSized x) (T : ClaimsTile x) (O : IsOrderly x)
    (owned : OwnClaims x) (noted : EachClaimNoted x) (notes : NotesAreClaims x)
    (logged : LoggedAreNotes x) where
  -- What was dropped was droppable.
  pub keeps_dropped : DroppedWas x → (e : Event) → IsStep x e → DroppedWas (next_of x e)
  keeps_dropped D e a = record {
    droppable = λ o h. stays_droppable x sized T O owned noted notes logged e a o (was e o h);
    below_synced = λ o h. let g = synced_grows x e a in let l = below e o h in higher _ _ g l;
  }
    where
      higher : {o : ℕ} (synced after : ℕ) → synced ≤ after → o < ordinal_of synced
          → o < ordinal_of after
      higher synced after g c = omega arith

      new : (o : ℕ) → Contains (newly_dropped x) o → IsDroppable x o × (o < ordinal_of x.synced)
      new o h = let r = filter_from (λ (o : ℕ). not (is_logged x.dropped o) && is_droppable x o)
          (range_with_len 0 (ordinal_of x.synced)) o h in (
            droppable_to x o (and_parts (not (is_logged x.dropped o)) (is_droppable x o) r.1).1,
            in_it o r.0,
          )
        where
          in_it : (o : ℕ) → Contains (range_with_len 0 (ordinal_of x.synced)) o
              → o < ordinal_of x.synced
          in_it o h =
              let long = length-range_with_len 0 (ordinal_of x.synced) in
              let inside : h.0 < ordinal_of x.synced = let l = h.1 in omega arith in
              let e = get_or-range_with_len 0 (ordinal_of x.synced) h.0 o inside in
              let is = h.2 in
              omega arith

      both_of : (e : Event) (o : ℕ) → Contains (next_of x e).dropped o
          → IsDroppable x o × (o < ordinal_of x.synced)
      both_of (GiveTurn by Sync) o h = choose (has_filed (seat_of x by)) h
        where
          choose : (b : Bool) → Contains (cond b (x.dropped ++ newly_dropped x) x.dropped) o
              → IsDroppable x o × (o < ordinal_of x.synced)
          choose true h = elim (Contains-append_cases x.dropped (newly_dropped x) o h) [
            | inl old ↦ (D.droppable o old, D.below_synced o old)
            | inr n ↦ new o n
          ]
          choose false h = (D.droppable o h, D.below_synced o h)
      both_of (GiveTurn by (Flush table)) o h = (D.droppable o h, D.below_synced o h)
      both_of e o h = (D.droppable o h, D.below_synced o h)

      was : (e : Event) (o : ℕ) → Contains (next_of x e).dropped o → IsDroppable x o
      was e o h = (both_of e o h).0

      below : (e : Event) (o : ℕ) → Contains (next_of x e).dropped o → o < ordinal_of x.synced
      below e o h = (both_of e o h).1
