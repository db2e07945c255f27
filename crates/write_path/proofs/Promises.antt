-- What answers promised is so when the path is closed, whatever the seats did between.
use Rattle.std.proofs.Common.{
  ◌≡◌,
  ℕ,
  ◌≤◌,
  List,
  [],
  ◌∷◌,
  ◌++◌,
  refl,
  sym,
  subst,
  arith,
}
use Rattle.std.specs.List.{Contains}
use Rattle.std.proofs.lemmas.Bool.{le-leb}
use Rattle.std.proofs.lemmas.List.Elements.{All-contains, Contains-append_right}
use Rattle.std.proofs.lemmas.List.Sorted.{Contains-permutation}
use Rattle.clog_base.proofs.Members.{in_flat}
use Rattle.path_core.specs.declared.event.Carried.TheVariants.{Deposit, Nothing, Applied}
use Rattle.path_core.specs.declared.event.Cursor.TheVariants.{Synced}
use Rattle.path_core.specs.declared.event.Event.{Event}
use Rattle.path_core.specs.declared.event.Event.TheVariants.{Close}
use Rattle.path_core.specs.declared.event.Place.TheVariants.{CursorWord}
use Rattle.path_core.specs.declared.note.EntryNote.{EntryNote}
use Rattle.path_core.specs.Keeper.{Holding}
use Rattle.path_core.specs.LawfulLog.{is_at_most}
use Rattle.path_core.proofs.lists.Passing.{kept_in}
use Rattle.path_rule.specs.declared.view.OwnStep.{OwnStep}
use Rattle.path_rule.specs.declared.view.PathSize.{PathSize}
use Rattle.path_rule.specs.Finds.{Finds}
use Rattle.path_rule.proofs.seats.Answering.{found_after, found_before}
use Rattle.path_table.specs.declared.trying.PathSeat.{PathSeat}
use Rattle.path_table.specs.Members.{view_of}
use Rattle.write_path.specs.declared.prepared.Prepared.{Prepared}
use Rattle.write_path.specs.Closed.{AreSyncedFor, IsOutcome}
use Rattle.write_path.specs.Commits.{IsLogged}
use Rattle.path_flush.specs.OwnWrites.{with_write, writes_of}
use Rattle.path_flush.specs.Grown.{HasGrown}
use Rattle.write_path.specs.Promised.{WasDone, WasDurable}
use Rattle.write_path.specs.Sealed.{
  AreSealed,
  AreSealedApart,
  HasMarkBehind,
  HasMarkBetween,
  IsSealed,
}
use Rattle.write_path.proofs.Growing.{both}
use Rattle.write_path.proofs.SealedApart.{key_found}
use Rattle.write_path.proofs.Sealing.{still_sealed}

-- ---- on a trail that has grown

-- a list keeps what it has
with_more : (e : Event) (ns : List EntryNote) (n : EntryNote) → Contains ns n
    → Contains (with_write e ns) n
with_more (Close by o g (Deposit note)) ns n h = Contains-append_right (note ∷ []) ns n h
with_more (Close by o g Nothing) ns n h = h
with_more (Close by o g (Applied places)) ns n h = h
with_more e ns n h = h

still_listed_by : (newer before : List OwnStep) (n : EntryNote) → Contains (writes_of before) n
    → Contains (writes_of (newer ++ before)) n
still_listed_by [] before n h = h
still_listed_by (t ∷ ts) before n h =
    with_more t.event (writes_of (ts ++ before)) n (still_listed_by ts before n h)

still_listed : (before after : List OwnStep) (n : EntryNote) → HasGrown before after
    → Contains (writes_of before) n → Contains (writes_of after) n
still_listed before after n G h =
    subst (λ (l : List OwnStep). Contains (writes_of l) n) (sym G.is)
    (still_listed_by G.newer before n h)

-- the newest write of a list is in it
newest : (n : EntryNote) (ns all : List EntryNote) → all ≡ n ∷ ns → Contains all n
newest n ns all is = subst (λ (l : List EntryNote). Contains l n) (sym is) (0, omega arith, refl)

module _ (size : PathSize) (w : ℕ) (n : EntryNote) (trail : List OwnStep)
    (D : WasDurable size w n trail) where
  pub durable_listed : Contains (writes_of trail) n
  durable_listed = let L = D.committed.0.logged.listed in
      still_listed D.after.trail trail n D.since
      (newest n (writes_of D.before) (writes_of D.after.trail)
      (subst (λ (m : EntryNote). writes_of D.after.trail ≡ m ∷ writes_of D.before) D.note L.list))

  pub durable_sealed : IsSealed n trail
  durable_sealed = subst (λ (l : List OwnStep). IsSealed n l) (sym D.since.is)
      (still_sealed n D.since.newer D.after.trail
      (subst (λ (m : EntryNote). IsSealed m D.after.trail) D.note D.committed.2))

  pub durable_later : (later : List OwnStep) → HasGrown trail later → WasDurable size w n later
  durable_later later G = record {
    before = D.before;
    prepared = D.prepared;
    receipt = D.receipt;
    after = D.after;
    committed = D.committed;
    note = D.note;
    since = both D.after.trail trail later D.since G;
  }

-- a sealed write ends at or below a synced key that its seat found or put
key_of_sealed : (n : EntryNote) (trail : List OwnStep) (S : IsSealed n trail)
    → Finds (CursorWord Synced) S.0 trail
key_of_sealed n trail S = let F = S.2 in
    subst (λ (l : List OwnStep). Finds (CursorWord Synced) S.0 l) (sym F.cut)
    (key_found S.0 F.later F.step F.before F.found)

-- ---- when the path is closed

module _ {K : Type 0} (size : PathSize) (seats : List (PathSeat K)) (end : ℕ) (h : Holding)
    (O : IsOutcome size seats end h) (s : PathSeat K) (one : Contains seats s) where
  -- the keeper has each write of the seat's list up to the synced key
  is_logged : (n : EntryNote) → Contains (writes_of (view_of s.member).trail) n
      → n.end.0 ≤ h.synced → Contains h.logged n
  is_logged n among low = subst (λ (l : List EntryNote). Contains l n) (sym O.logged)
      (kept_in (is_at_most h.synced) O.core.notes n
      (Contains-permutation _ _ n O.of_writes
      (in_flat (λ (s : PathSeat K). writes_of (view_of s.member).trail) seats s n one among))
      (le-leb n.end.0 h.synced low))

  has_key : (key : ℕ) → Finds (CursorWord Synced) key (view_of s.member).trail → key ≤ h.synced
  has_key = All-contains (AreSyncedFor h) seats s O.all_synced one

  pub durable_logged : (n : EntryNote)
      → WasDurable size s.member.number n (view_of s.member).trail → Contains h.logged n
  durable_logged n D = let w = s.member.number in let t = (view_of s.member).trail in
      let S = durable_sealed size w n t D in
      is_logged n (durable_listed size w n t D)
      (let up = S.1 in let low = has_key S.0 (key_of_sealed n t S) in omega arith)

  pub done_logged : (key : ℕ) (n : EntryNote)
      → WasDone s.member.number key n (view_of s.member).trail
      → (key ≤ h.synced) × Contains h.logged n
  done_logged key n D = let t = (view_of s.member).trail in let A = D.syncs.answers in
      let at_answer = subst (λ (l : List OwnStep). Finds (CursorWord Synced) key l)
      (sym A.steps.trail)
      (found_after (CursorWord Synced) key A.steps.steps D.before.trail A.now) in
      let low = has_key key (subst (λ (l : List OwnStep). Finds (CursorWord Synced) key l)
      (sym D.since.is)
      (found_before (CursorWord Synced) key D.since.newer D.after.trail at_answer)) in (
        low,
        is_logged n (still_listed D.after.trail t n D.since D.listed)
            (let up = D.syncs.covers n D.listed in omega arith),
      )

  -- a marker stands behind it
  pub durable_marked : (n : EntryNote)
      → WasDurable size s.member.number n (view_of s.member).trail
      → HasMarkBehind size.capacity O.core.notes h.synced n.end.0
  durable_marked n D = let w = s.member.number in let t = (view_of s.member).trail in
      All-contains (λ (s : PathSeat K). AreSealed size.capacity O.core.notes h.synced
      (view_of s.member).trail) seats s O.sealed one n (durable_sealed size w n t D)

  -- a marker stands between a durable write and one that its seat logged later
  pub durable_apart : (n : EntryNote) (before after : List OwnStep) (start to : ℕ) (p : Prepared)
      → WasDurable size s.member.number n before
      → (l : IsLogged before s.member.number start to p after)
      → HasGrown after (view_of s.member).trail
      → HasMarkBetween size.capacity O.core.notes h.synced n.end.0 l.listed.note.start.0
  durable_apart n before after start to p D l G = let w = s.member.number in
      let t = (view_of s.member).trail in let m = l.listed.note in
      All-contains (λ (s : PathSeat K). AreSealedApart size.capacity O.core.notes h.synced
      (view_of s.member).trail) seats s O.apart one n m
      (durable_sealed size w n t
      (durable_later size w n before D t (both before after t l.grown G)))
      (still_listed after t m G
      (newest m (writes_of before) (writes_of after) l.listed.list))
      (let low = l.behind n (durable_listed size w n before D) in let starts = l.listed.starts in
      omega arith)
