-- What a holder of a Flush turn has read of a memtable stays so while the machine goes on.
use Rattle.std.proofs.Common.{◌≡◌, ℕ, suc, ◌<◌, ◌≤◌, Bool, true, false, cond, Some, is_some, sym}
use Rattle.std.proofs.Common.{ap, ◌∙◌, subst, ⊎_elim, arith}
use Rattle.std.specs.Prelude.{◌%◌}
use mathlib.Core.Logic.{dite}
use native.Mathlib.Decide.{dec_lt}
use Rattle.std.specs.List.{Contains}
use Rattle.path_core.specs.declared.event.Event.{Event}
use Rattle.path_core.specs.declared.note.EntryNote.{EntryNote}
use Rattle.path_core.specs.declared.seat.Seat.{Seat}
use Rattle.path_core.specs.declared.state.PathState.{PathState}
use Rattle.path_core.specs.Allowed.{IsStep}
use Rattle.path_core.specs.Lawful.{IsLawfulPath, IsLawfulPlacing}
use Rattle.path_core.specs.Next.{next_of}
use Rattle.path_core.specs.Parts.{seat_of, seat_table, table_of, HasPassedBarrier}
use Rattle.path_core.proofs.log.OwnNotes.{notes_stay}
use Rattle.path_core.proofs.orders.GroupsMove.{passed_stays}
use Rattle.path_core.proofs.places.AtRest.{leaves_placed, none_runs}
use Rattle.path_core.proofs.places.Closing.{own_at}
use Rattle.path_core.proofs.places.KeepsPlaces.{same_note}
use Rattle.path_core.proofs.runs.EveryRun.{placing_of}
use Rattle.path_rule.specs.declared.view.FlushRead.{FlushRead}
use Rattle.path_rule.specs.Memtables.{IsEmptied}
use Rattle.path_rule.specs.Reads.{placed_at, ReadsAre}

module _ (x : PathState) (L : IsLawfulPath x) (e : Event) (may : IsStep x e)
    (N : IsLawfulPath (next_of x e)) where
  abbrev Z : IsLawfulPlacing x
  Z = placing_of x L

  abbrev Y : IsLawfulPlacing (next_of x e)
  Y = placing_of (next_of x e) N

  pub reads_on : (seats : ℕ) (p p' : Seat) (q : FlushRead) → ReadsAre seats x p q
      → is_some (seat_table p' q.table).flush ≡ true
      → (table_of (next_of x e) q.table).oldest_live ≡ (table_of x q.table).oldest_live
      → ReadsAre seats (next_of x e) p' q
  reads_on seats p p' q R held live = record {
    few = R.few;
    held = held;
    passed = passed_stays x L.orders e may q.table q.memtable R.passed;
    next_passed = λ drops. passed_stays x L.orders e may q.table (suc q.memtable)
        (R.next_passed drops);
    live = live ∙ R.live;
    next = R.next;
    sound = λ n h. let S = R.sound n h in
        (notes_stay x e n S.0, (leaves_placed x Z q.table q.memtable R.passed e n.end.0).1 S.1);
    all = λ unretired n noted low placed.
        let before = (leaves_placed x Z q.table q.memtable R.passed e n.end.0).0 placed in
        let K = (L.places.placed (placed_at q.table q.memtable n) before).noted in
        let same : K.note ≡ n = same_note (next_of x e) Y.core Y.places K.note n
        (notes_stay x e K.note K.among) noted K.position in
        subst (λ (z : EntryNote). Contains q.seen z) same (R.all unretired K.note
        K.among
        (subst (λ (z : EntryNote). z.writer.0 < q.seen_to) (sym same) low)
        (subst (λ (z : EntryNote). Contains x.placed (placed_at q.table q.memtable z)) (sym same)
        before));
  }

-- The least memtable that is not retired is the one that is read, or the next.
pub near_reads : (seats : ℕ) (x : PathState) (p : Seat) (q : FlushRead) → ReadsAre seats x p q
    → (q.memtable ≤ (table_of x q.table).oldest_live)
    × ((table_of x q.table).oldest_live ≤ suc q.memtable)
near_reads seats x p q R = by q.retired (table_of x q.table).oldest_live R.live
  where
    by : (b : Bool) (n : ℕ) → n ≡ cond b (suc q.memtable) q.memtable
        → (q.memtable ≤ n) × (n ≤ suc q.memtable)
    by true n e = (omega arith, omega arith)
    by false n e = (omega arith, omega arith)

-- it is the one that is read, where that is not retired
pub read_live : (seats : ℕ) (x : PathState) (p : Seat) (q : FlushRead) → ReadsAre seats x p q
    → q.retired ≡ false → (table_of x q.table).oldest_live ≡ q.memtable
read_live seats x p q R unretired =
    R.live ∙ ap (λ (b : Bool). cond b (suc q.memtable) q.memtable) unretired

-- A box that was emptied is of the last retired memtable.
pub emptied_retired : (seats : ℕ) (x : PathState) (p : Seat) (q : FlushRead) → ReadsAre seats x p q
    → (z k : ℕ) → IsEmptied seats q z k → (table_of x q.table).oldest_live ≡ suc k
emptied_retired seats x p q R z k E = ⊎_elim
    (λ drops. R.live ∙ (ap (λ (b : Bool). cond b (suc q.memtable) q.memtable) drops.0
    ∙ ap suc drops.1))
    (λ reads. read_live seats x p q R reads.0 ∙ reads.1) E

-- A write has its place in a memtable that is made.
pub place_made : (x : PathState) → IsLawfulPath x → (w t k : ℕ)
    → (seat_table (seat_of x w) t).place ≡ Some k → k ≤ (table_of x t).newest
place_made x L w t k place = let T = L.places.tries w t in
    let O = own_at x (placing_of x L) w t k place in (T.accepted k O.range place O.claim).made

-- It is not retired, and is one of the last two.
pub place_live : (x : PathState) → IsLawfulPath x → (w t k : ℕ)
    → (seat_table (seat_of x w) t).place ≡ Some k
    → ((table_of x t).oldest_live ≤ k) × (k ≤ suc (table_of x t).oldest_live)
place_live x L w t k place = let T = L.places.tries w t in
    let tried = T.place_is_tried k place in let made = place_made x L w t k place in
    let near = (L.switches.tables t).bounds_rise.one_behind in
    dite (dec_lt k (table_of x t).oldest_live)
    (λ low. absurd (none_runs x (placing_of x L) t k
    (L.retired_is_filed.each t k (T.of_note k tried).3 low).passed w place))
    (λ high. (omega arith, omega arith))

-- No write has its place in a memtable that is read, nor in another that has its place of the ring.
pub none_reads : (x : PathState) → IsLawfulPath x → (w t k m : ℕ)
    → (seat_table (seat_of x w) t).place ≡ Some k → HasPassedBarrier x t m
    → (m ≤ (table_of x t).oldest_live) × ((table_of x t).oldest_live ≤ suc m) → k % 4 ≡ m % 4 → ⊥
none_reads x L w t k m place passed near ring = let live = place_live x L w t k place in
    let low = near.0 in let high = near.1 in let least = live.0 in let most = live.1 in
    let same : m ≡ k = omega arith in
    none_runs x (placing_of x L) t k (subst (λ (n : ℕ). HasPassedBarrier x t n) same passed) w place
