-- What trails tell stays so at each step, and a further step of the seat tells the like.
use Rattle.std.proofs.Common.{
  ◌≡◌,
  ℕ,
  suc,
  ◌<◌,
  ◌≤◌,
  Option,
  None,
  List,
  [],
  ◌∷◌,
  sym,
  ap,
  ◌∙◌,
  subst,
  ⊎_elim,
  arith,
}
use Rattle.std.proofs.lemmas.Option.{same_Some}
use mathlib.Core.Option.{some, some-ne-none}
use lib.ListN.{get_elem?}
use Rattle.op_core.specs.declared.count.Order.{Order}
use Rattle.op_core.specs.declared.count.Order.TheVariants.{Append, Write}
use Rattle.path_core.specs.declared.event.ClaimKind.TheVariants.{Entry, Marker}
use Rattle.path_core.specs.declared.event.Cursor.{Cursor}
use Rattle.path_core.specs.declared.event.Cursor.TheVariants.{Synced, OldestLive, Stopped}
use Rattle.path_core.specs.declared.event.Event.{Event}
use Rattle.path_core.specs.declared.event.Event.TheVariants.{
  Look,
  Register,
  Close,
  OpenGroup,
  MoveCurrent,
  Expire,
  Advance,
  Claim,
  Switch,
  Raise,
  Finalise,
  TakeTurn,
  GiveTurn,
  Put,
}
use Rattle.path_core.specs.declared.event.Place.{Place}
use Rattle.path_core.specs.declared.event.Place.TheVariants.{
  Bound,
  Count,
  Current,
  CursorWord,
  Log,
  Newest,
  Oldest,
  TurnWord,
}
use Rattle.path_core.specs.declared.seat.Seat.{Seat}
use Rattle.path_core.specs.declared.state.PathState.{PathState}
use Rattle.path_core.specs.Allowed.{IsStep}
use Rattle.path_core.specs.Keys.{after}
use Rattle.path_core.specs.Lawful.{IsLawfulPath}
use Rattle.path_core.specs.Next.{next_of}
use Rattle.path_core.specs.Parts.{groups_of}
use Rattle.path_core.specs.SeatAfter.{Told, seat_after}
use Rattle.path_core.specs.Words.{reading, place_of}
use Rattle.path_core.proofs.log.LogGrows.{log_grows}
use Rattle.path_core.proofs.orders.GroupsMove.{groups_move}
use Rattle.path_rule.specs.declared.view.OwnStep.{OwnStep}
use Rattle.path_rule.specs.declared.view.Returned.{Returned}
use Rattle.path_rule.specs.declared.view.View.{View}
use Rattle.path_rule.specs.Finds.{FindsBy}
use Rattle.path_rule.specs.Layout.{reading_at}
use Rattle.path_rule.specs.Trails.{IsMark, ClaimsPast, TrailTells, ViewTells}
use Rattle.path_rule.proofs.log.TrailMemtables.{
  ToldTrue,
  emptied_still,
  filed_still,
  filled_still,
  final_still,
  finds_next,
  new_emptied,
  new_filed,
  new_filled,
  new_final,
  new_newest,
  new_retired,
  newest_still,
  retired_still,
}
use Rattle.path_rule.proofs.log.Marks.{mark_stays, synced_mark, log_past}

pub nothing_tells : (capacity : ℕ) (x : PathState) → TrailTells capacity x []
nothing_tells capacity x = record {
  synced = λ key F. absurd F;
  come = λ key F. absurd F;
  stopped = λ n F above. absurd F;
  current = λ o g F. absurd F;
  newest = λ t m F. absurd F;
  past = tt;
  final = λ t m key F. absurd F;
  retired = λ t n F. absurd F;
  filed = λ t m lower F. absurd F;
  filled = λ t m lower F. absurd F;
  emptied = λ t m F. absurd F;
}

-- a view with no step that took in no seat
pub none_tells : (capacity : ℕ) (x : PathState) (v : View) → v.trail ≡ [] → v.returned ≡ []
    → ViewTells capacity x v
none_tells capacity x v trail returned = record {
  own = subst (λ ts. TrailTells capacity x ts) (sym trail) (nothing_tells capacity x);
  returned = λ n b h. absurd (none_there n b
      (subst (λ (l : List Returned). get_elem? l n ≡ some b) returned h));
  free = λ n b h. absurd (none_there n b
      (subst (λ (l : List Returned). get_elem? l n ≡ some b) returned h));
}
  where
    none_there : (n : ℕ) (b : Returned) → get_elem? [] n ≡ some b → ⊥
    none_there n b e = some-ne-none b (sym e)

-- At a look the seat found what stood there.
abbrev pub Saw : PathState → Event → ℕ → Type 0
Saw x (Look by (CursorWord Synced)) found = found ≡ x.synced
Saw x (Look by (CursorWord Stopped)) found = found ≡ x.stopped
Saw x _ found = Unit {0}

-- Its part tells so.
pub saw : (x : PathState) (p : Seat) (by : ℕ) (at : Place) (found : ℕ) (told u : Told)
    → seat_after p (Look by at) (reading_at at found) told
    ≡ seat_after p (Look by at) (reading x at) u → (c : Cursor) → at ≡ CursorWord c
    → Saw x (Look by (CursorWord c)) found
saw x p by at found told u same c is = by_cursor c (subst (λ (q : Place).
    seat_after p (Look by q) (reading_at q found) told
    ≡ seat_after p (Look by q) (reading x q) u) is same)
  where
    by_cursor : (c : Cursor)
        → seat_after p (Look by (CursorWord c)) (reading_at (CursorWord c) found) told
        ≡ seat_after p (Look by (CursorWord c)) (reading x (CursorWord c)) u
        → Saw x (Look by (CursorWord c)) found
    by_cursor Synced e = same_Some found x.synced (ap (λ (s : Seat). s.found.synced) e)
    by_cursor Stopped e = same_Some found x.stopped (ap (λ (s : Seat). s.found.stopped) e)
    by_cursor (OldestLive t) e = tt

module _ (capacity : ℕ) (x : PathState) (L : IsLawfulPath x) (fits : x.capacity ≡ capacity)
    (e : Event) (a : IsStep x e) where
  -- a stopped log stays so, with its count
  stays_stopped : (e : Event) → IsStep x e → (n : ℕ) → 0 < n → n ≡ x.stopped
      → n ≡ (next_of x e).stopped
  stays_stopped (Put by Stopped value) a n above is = absurd (let z = a.row.2 in omega arith)
  stays_stopped (Put by Synced value) a n above is = is
  stays_stopped (Put by (OldestLive t) value) a n above is = is
  stays_stopped e a n above is = is

  pub tells_still : IsLawfulPath (next_of x e) → (ts : List OwnStep) → TrailTells capacity x ts
      → TrailTells capacity (next_of x e) ts
  tells_still N ts T = record {
    synced = λ key F. mark_stays x e a key (T.synced key F);
    come = λ key F. let low = T.come key F in
        let up = log_grows x L.sized L.claims_tile_the_log e a in omega arith;
    stopped = λ n F above. stays_stopped e a n above (T.stopped n F above);
    current = λ o g F. let low = T.current o g F in
        let up = (groups_move x L.orders o e a).current in omega arith;
    newest = λ t m F. newest_still x L e a t.0 m (T.newest t m F);
    past = T.past;
    final = λ t m key F. final_still x L e a t m key (T.final t m key F);
    retired = λ t n F. retired_still x L e a t.0 n (T.retired t n F);
    filed = λ t m lower F. filed_still x L e a t.0 m lower (T.filed t m lower F);
    filled = λ t m lower F. filled_still x L e a t.0 m (T.filled t m lower F);
    emptied = λ t m F. emptied_still x L e a N t.0 m
        (T.retired t (suc m) (finds_next t m None ts F)) (T.emptied t m F);
  }

  pub view_still : IsLawfulPath (next_of x e) → (v : View) → ViewTells capacity x v
      → ViewTells capacity (next_of x e) v
  view_still N v V = record {
    own = tells_still N v.trail V.own;
    returned = λ n b h. tells_still N b.trail (V.returned n b h);
    free = V.free;
  }

  module _ (N : IsLawfulPath (next_of x e)) (p : Seat) (found : ℕ) (told u : Told)
      (same : seat_after p e (reading_at (place_of e) found) told
      ≡ seat_after p e (reading x (place_of e)) u) where
    abbrev Same : Event → Type 0
    Same e = seat_after p e (reading_at (place_of e) found) told
        ≡ seat_after p e (reading x (place_of e)) u

    new_synced : (e : Event) → IsStep x e → IsLawfulPath (next_of x e) → Same e → (key : ℕ)
        → FindsBy (CursorWord Synced) key e found → IsMark (next_of x e) key
    new_synced (Look by at) a N same key F = mark_stays x (Look by at) a key
        (subst (IsMark x) (sym (saw x p by at found told u same Synced F.0) ∙ F.1)
        (synced_mark x L))
    new_synced (Put by Synced value) a N same key F =
        subst (IsMark (next_of x (Put by Synced value))) F.1
        (synced_mark (next_of x (Put by Synced value)) N)
    new_synced (Put by (OldestLive t) value) a N same key F = absurd (let q = F.0 in cc)
    new_synced (Put by Stopped value) a N same key F = absurd (let q = F.0 in cc)
    new_synced (Register by o g) a N same key F = absurd F
    new_synced (Close by o g carried) a N same key F = absurd F
    new_synced (OpenGroup by o g) a N same key F = absurd F
    new_synced (MoveCurrent by o g) a N same key F = absurd F
    new_synced (Expire by o g) a N same key F = absurd F
    new_synced (Advance by o g) a N same key F = absurd F
    new_synced (Claim by from to what) a N same key F = absurd F
    new_synced (Switch by t m part) a N same key F = absurd F
    new_synced (Raise by t m to) a N same key F = absurd F
    new_synced (Finalise by t m) a N same key F = absurd F
    new_synced (TakeTurn by turn) a N same key F = absurd F
    new_synced (GiveTurn by turn) a N same key F = absurd F

    new_come : (e : Event) → Same e → (key : ℕ) → FindsBy Log key e found
        → key ≤ (next_of x e).log
    new_come (Look by Log) same key F =
        let is = same_Some found x.log (ap (λ (s : Seat). s.found.log) same) in
        let n = F.1 in omega arith
    new_come (Look by (CursorWord c)) same key F = absurd (let q = F.0 in cc)
    new_come (Look by (Count o g)) same key F = absurd (let q = F.0 in cc)
    new_come (Look by (Current o)) same key F = absurd (let q = F.0 in cc)
    new_come (Look by (Oldest o)) same key F = absurd (let q = F.0 in cc)
    new_come (Look by (Newest t)) same key F = absurd (let q = F.0 in cc)
    new_come (Look by (Bound t m)) same key F = absurd (let q = F.0 in cc)
    new_come (Look by (TurnWord turn)) same key F = absurd (let q = F.0 in cc)
    new_come (Put by cursor value) same key F = absurd (let q = F.0 in cc)
    new_come (Register by o g) same key F = absurd F
    new_come (Close by o g carried) same key F = absurd F
    new_come (OpenGroup by o g) same key F = absurd F
    new_come (MoveCurrent by o g) same key F = absurd F
    new_come (Expire by o g) same key F = absurd F
    new_come (Advance by o g) same key F = absurd F
    new_come (Claim by from to what) same key F = absurd F
    new_come (Switch by t m part) same key F = absurd F
    new_come (Raise by t m to) same key F = absurd F
    new_come (Finalise by t m) same key F = absurd F
    new_come (TakeTurn by turn) same key F = absurd F
    new_come (GiveTurn by turn) same key F = absurd F

    new_current : (o : Order) (e : Event) → Same e → (g : ℕ) → FindsBy (Current o) g e found
        → g ≤ (groups_of (next_of x e) o).current
    new_current Append (Look by (Current Append)) same g F =
        let is = same_Some found x.append.current
        (ap (λ (s : Seat). s.found.append.current) same) in let n = F.1 in omega arith
    new_current Write (Look by (Current Write)) same g F =
        let is = same_Some found x.write.current
        (ap (λ (s : Seat). s.found.write.current) same) in let n = F.1 in omega arith
    new_current Append (Look by (Current Write)) same g F = absurd (let q = F.0 in cc)
    new_current Write (Look by (Current Append)) same g F = absurd (let q = F.0 in cc)
    new_current o (Look by Log) same g F = absurd (let q = F.0 in cc)
    new_current o (Look by (CursorWord c)) same g F = absurd (let q = F.0 in cc)
    new_current o (Look by (Count p h)) same g F = absurd (let q = F.0 in cc)
    new_current o (Look by (Oldest p)) same g F = absurd (let q = F.0 in cc)
    new_current o (Look by (Newest t)) same g F = absurd (let q = F.0 in cc)
    new_current o (Look by (Bound t m)) same g F = absurd (let q = F.0 in cc)
    new_current o (Look by (TurnWord turn)) same g F = absurd (let q = F.0 in cc)
    new_current o (Put by cursor value) same g F = absurd (let q = F.0 in cc)
    new_current o (Register by p h) same g F = absurd F
    new_current o (Close by p h carried) same g F = absurd F
    new_current o (OpenGroup by p h) same g F = absurd F
    new_current o (MoveCurrent by p h) same g F = absurd F
    new_current o (Expire by p h) same g F = absurd F
    new_current o (Advance by p h) same g F = absurd F
    new_current o (Claim by from to what) same g F = absurd F
    new_current o (Switch by t m part) same g F = absurd F
    new_current o (Raise by t m to) same g F = absurd F
    new_current o (Finalise by t m) same g F = absurd F
    new_current o (TakeTurn by turn) same g F = absurd F
    new_current o (GiveTurn by turn) same g F = absurd F

    new_stopped : (e : Event) → Same e → (n : ℕ) → FindsBy (CursorWord Stopped) n e found
        → n ≡ (next_of x e).stopped
    new_stopped (Look by at) same n F =
        sym F.1 ∙ saw x p by at found told u same Stopped F.0
    new_stopped (Put by Stopped value) same n F = sym F.1
    new_stopped (Put by (OldestLive t) value) same n F = absurd (let q = F.0 in cc)
    new_stopped (Put by Synced value) same n F = absurd (let q = F.0 in cc)
    new_stopped (Register by o g) same n F = absurd F
    new_stopped (Close by o g carried) same n F = absurd F
    new_stopped (OpenGroup by o g) same n F = absurd F
    new_stopped (MoveCurrent by o g) same n F = absurd F
    new_stopped (Expire by o g) same n F = absurd F
    new_stopped (Advance by o g) same n F = absurd F
    new_stopped (Claim by from to what) same n F = absurd F
    new_stopped (Switch by t m part) same n F = absurd F
    new_stopped (Raise by t m to) same n F = absurd F
    new_stopped (Finalise by t m) same n F = absurd F
    new_stopped (TakeTurn by turn) same n F = absurd F
    new_stopped (GiveTurn by turn) same n F = absurd F

    -- an entry is claimed at the log key, which no marker found is behind
    new_past : (e : Event) → IsStep x e → (ts : List OwnStep) → TrailTells capacity x ts
        → ClaimsPast capacity e ts
    new_past (Claim by from to Entry) a ts T = λ key F.
        let low = log_past x L key (T.synced key F) in let at = a.row.3 in
        subst (λ k. after k key ≤ from.0) fits (omega arith)
    new_past (Claim by from to Marker) a ts T = tt
    new_past e a ts T = tt

    pub tells_more : (filed : Option ℕ) → ToldTrue x e found filed → (ts : List OwnStep)
        → TrailTells capacity x ts → TrailTells capacity (next_of x e)
        (record { event = e; found = found; filed = filed } ∷ ts)
    tells_more filed true_told ts T = let S = tells_still N ts T in record {
      synced = λ key F. ⊎_elim (λ now. new_synced e a N same key now) (λ old. S.synced key old) F;
      come = λ key F. ⊎_elim (λ now. new_come e same key now) (λ old. S.come key old) F;
      stopped = λ n F above. ⊎_elim (λ now. new_stopped e same n now)
          (λ old. S.stopped n old above) F;
      current = λ o g F. ⊎_elim (λ now. new_current o e same g now) (λ old. S.current o g old) F;
      newest = λ t m F. ⊎_elim (λ now. new_newest x L found filed e a true_told t m now)
          (λ old. S.newest t m old) F;
      past = (new_past e a ts T, T.past);
      final = λ t m key F. ⊎_elim
          (λ now. new_final x L found filed e a true_told t m key now)
          (λ old. S.final t m key old) F;
      retired = λ t n F. ⊎_elim (λ now. new_retired x L found filed e a true_told t n now)
          (λ old. S.retired t n old) F;
      filed = λ t m lower F. ⊎_elim
          (λ now. new_filed x L found filed e a true_told t m lower now)
          (λ old. S.filed t m lower old) F;
      filled = λ t m lower F. ⊎_elim
          (λ now. new_filled x L found filed e a true_told t m lower now)
          (λ old. S.filled t m lower old) F;
      emptied = λ t m F. ⊎_elim (λ now. new_emptied x L found filed e a N true_told t m now)
          (λ old. S.emptied t m old) F;
    }
