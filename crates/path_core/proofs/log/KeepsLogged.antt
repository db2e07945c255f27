-- What is logged is the part of the notes up to the synced key: each allowed step keeps it.
use Rattle.std.proofs.Common.{
  ◌≡◌,
  ℕ,
  ◌≤◌,
  false,
  nat_lt,
  List,
  ◌++◌,
  map,
  IsTrue,
  refl,
  sym,
  ap,
  ◌∙◌,
  subst,
  arith,
}
use Rattle.std.specs.List.{count_by, filter, Contains, position_or_len}
use Rattle.std.proofs.lemmas.Bool.{false≢true, eqb-true, lt-leb}
use Rattle.std.proofs.lemmas.List.{map-append}
use Rattle.std.proofs.lemmas.List.Elements.{Contains-push_cases}
use mathlib.Core.Logic.{dite, inl, inr}
use native.Mathlib.Decide.{dec_le}
use Rattle.op_core.specs.declared.count.Order.TheVariants.{Write, Append}
use Rattle.path_core.specs.declared.event.Carried.TheVariants.{Nothing, Deposit, Applied}
use Rattle.path_core.specs.declared.event.ClaimKind.TheVariants.{Entry}
use Rattle.path_core.specs.declared.event.Cursor.TheVariants.{Synced, OldestLive, Stopped}
use Rattle.path_core.specs.declared.event.Event.{Event}
use Rattle.path_core.specs.declared.event.Event.TheVariants.{Close, Claim, Put}
use Rattle.path_core.specs.declared.note.EntryNote.{EntryNote}
use Rattle.path_core.specs.declared.state.Claim.{Claim as ClaimOf}
use Rattle.path_core.specs.declared.state.PathState.{PathState}
use Rattle.path_core.specs.declared.state.WrittenFile.{WrittenFile}
use Rattle.path_core.specs.Keys.{offset_of, first_offset, after}
use Rattle.path_core.specs.Parts.{is_entry, key_of_bound}
use Rattle.path_core.specs.Allowed.{IsStep, IsSyncPoint}
use Rattle.path_core.specs.Markers.{HasPassedMarker}
use Rattle.path_core.specs.Next.{next_of, is_between}
use Rattle.path_core.specs.Lawful.{IsLawfulLog}
use Rattle.path_core.specs.LawfulLog.{
  is_note_at,
  is_at_most,
  LoggedIsSynced,
  SyncedIsMarker,
  ClaimsTile,
  entry_claim,
}
use Rattle.path_core.specs.LawfulTables.{LaterGroupsAbove}
use Rattle.path_core.proofs.lists.Replaced.{counted_in, counted_from}
use Rattle.path_core.proofs.log.KeepsNotes.{not_noted, own_range, note_long}
use Rattle.path_core.proofs.log.KeepsOwned.{claims_were, claims_stay, ClaimedNow}
use Rattle.path_core.proofs.log.OwnNotes.{notes_stay}
use Rattle.path_core.proofs.log.KeepsNotedOnce.{keeps_noted}
use Rattle.path_core.proofs.files.Retires.{next_file, files_retired}
use Rattle.path_core.proofs.log.Between.{filter_insert, between, after_grows}
use Rattle.path_core.proofs.log.LogGrows.{claimed_above}
use Rattle.path_core.proofs.log.Deposited.{behind_front, all_deposited}

module _ (x : PathState) (L : IsLawfulLog x) where
  abbrev T : ClaimsTile x
  T = L.claims_tile_the_log

  -- A state in which what is logged is the part of the notes up to the synced key.
  module _ (A : LaterGroupsAbove x) (S : SyncedIsMarker x) (G : LoggedIsSynced x) where
    -- the marker of a sync
    passed_marker : (key : ℕ) → IsSyncPoint x key → HasPassedMarker x.claims x.append.tallies key
    passed_marker key P = record {
      marker = P.above;
      among = P.above_claimed;
      passed = record {
        is = P.above_is;
        start = P.above_start;
        group = P.group;
        issued = P.issued;
        passed = P.passed;
      };
    }

    -- an entry claim that is noted once stays so
    noted_still : (e : Event) → IsStep x e → (c : ClaimOf) → Contains x.claims c
        → IsTrue (is_entry c) → count_by (is_note_at c.end) x.notes ≡ 1
        → count_by (is_note_at c.end) (next_of x e).notes ≡ 1
    noted_still e a c h entry one =
        let n = counted_from (is_note_at c.end) x.notes (omega arith) in
        let some = counted_in (is_note_at c.end) (next_of x e).notes n.0
        (notes_stay x
        e n.0 n.1) n.2 in
        let once = (keeps_noted x L.sized T L.orders L.own_claim L.each_claim_noted_once
        L.notes_are_claims e a).once c
        (claims_stay x
        e c entry h) entry in
        omega arith

    -- what ends at or below the synced key after a step was noted before it
    noted_below : (e : Event) → IsStep x e → (c : ClaimOf) → Contains x.claims c
        → IsTrue (is_entry c) → c.end ≤ (next_of x e).synced
        → count_by (is_note_at c.end) x.notes ≡ 1
    noted_below (Put by Synced value) a c h entry low =
        let d = all_deposited x L A value (passed_marker value a.row.3) c.end low in
        let once = L.each_claim_noted_once.once c h entry in
        omega arith
    noted_below (Put by (OldestLive table) value) a c h entry low = G.gathered c h entry low
    noted_below (Put by Stopped value) a c h entry low = G.gathered c h entry low
    noted_below e a c h entry low = G.gathered c h entry low

    -- what a step claims ends above the synced key
    not_claimed_now : (e : Event) → IsStep x e → (c : ClaimOf)
        → ClaimedNow x e c
        → c.end ≤ (next_of x e).synced → ⊥
    not_claimed_now (Claim by from to Entry) a c is low =
        let high = claimed_above x L.sized T by from to a in
        let end = ap (λ (d : ClaimOf). d.end) is in
        let s = S.below_log in
        omega arith
    not_claimed_now e a c is low = is

    -- a note that is deposited ends above the synced key
    deposits_above : (by g : ℕ) (note : EntryNote) → IsStep x (Close by Append g (Deposit note))
        → is_at_most x.synced note ≡ false
    deposits_above by g note a = dite (dec_le note.end.0 x.synced)
        (λ low. absurd (
        let one = G.gathered (entry_claim note.writer.0 note.start.0 note.end.0)
        (own_range x L.sized T L.orders L.own_claim L.each_claim_noted_once L.notes_are_claims
        by g note a) refl low in
        let n = counted_from (is_note_at note.end.0) x.notes (omega arith) in
        not_noted x L.sized T L.orders L.own_claim L.each_claim_noted_once L.notes_are_claims
        by g note a n.0 n.1 (eqb-true n.0.end.0 note.end.0 n.2)))
        (λ n. lt-leb note.end.0 x.synced (omega arith))

    -- the positions of notes
    abbrev ends : List EntryNote → List ℕ
    ends l = map (λ (n : EntryNote). n.end.0) l

    -- what is logged after a step
    logged_now : (e : Event) → IsStep x e
        → (next_of x e).logged ≡ ends (filter (is_at_most (next_of x e).synced) (next_of x e).notes)
    logged_now (Put by Synced value) a =
        ap (λ l. l ++ ends (filter (is_between x.synced value) x.notes)) G.logged
        ∙ sym (map-append (λ (n : EntryNote). n.end.0) (filter (is_at_most x.synced) x.notes)
        (filter (is_between x.synced value) x.notes))
        ∙ ap ends (between x.synced value (let l = a.row.2 in omega arith) x.notes
        L.notes_are_claims.in_order (λ n h. note_long x L.sized T L.orders L.own_claim
        L.each_claim_noted_once L.notes_are_claims n h))
    logged_now (Put by (OldestLive table) value) a = G.logged
    logged_now (Put by Stopped value) a = G.logged
    logged_now (Close by Append g (Deposit note)) a = G.logged
        ∙ ap ends (sym (filter_insert (is_at_most x.synced) x.notes
        (position_or_len (λ (n : EntryNote). nat_lt note.start.0 n.start.0) x.notes) note
        (deposits_above by g note a)))
    logged_now (Close by Write g (Deposit note)) a = absurd a.row.1
    logged_now (Close by order g Nothing) a = G.logged
    logged_now (Close by order g (Applied places)) a = G.logged
    logged_now e a = G.logged

    -- files end where the log is lasting
    files_below : (e : Event) → IsStep x e → (f : WrittenFile) → Contains (next_of x e).files f
        → f.upper ≤ after x.capacity (next_of x e).synced
    files_below (Put by Synced value) a f h =
        let u = G.files_are_below f h in
        let P = a.row.3 in
        let front = subst (λ k. first_offset ≤ offset_of k) P.start
        (behind_front x L P.marker P.claimed P.is) in
        let g = after_grows x.capacity x.synced value L.sized.limits.greatest_capacity a.row.2
        front in
        at_least f.upper (after x.capacity x.synced) (after x.capacity value) u g
      where
        at_least : (u p q : ℕ) → u ≤ p → p ≤ q → u ≤ q
        at_least u p q a b = omega arith
    files_below (Put by (OldestLive table) value) a f h = files_retired x by table value
        (λ fs. Contains fs f → f.upper ≤ after x.capacity x.synced)
        (λ _. G.files_are_below f)
        (λ full h. elim (Contains-push_cases x.files (next_file x table.0) f h) [
          | inl old ↦ G.files_are_below f old
          | inr is ↦ subst (λ (f : WrittenFile). f.upper ≤ after x.capacity x.synced) is
              (elim a.row.3 [
                | inl empty ↦ absurd (false≢true (sym full ∙ empty))
                | inr M ↦ subst (λ b. key_of_bound b ≤ after x.capacity x.synced) (sym M.final)
                    M.lasting
              ])
        ]) h
    files_below (Put by Stopped value) a f h = G.files_are_below f h
    files_below e a f h = G.files_are_below f h

    -- Each allowed step keeps it.
    pub keeps_logged_synced : (e : Event) → IsStep x e → LoggedIsSynced (next_of x e)
    keeps_logged_synced e a = record {
      gathered = λ c h entry low. elim (claims_were x e c entry h) [
        | inl old ↦ noted_still e a c old entry (noted_below e a c old entry low)
        | inr new ↦ absurd (not_claimed_now e a c new low)
      ];
      logged = logged_now e a;
      files_are_below = files_below e a;
    }
