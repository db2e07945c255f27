-- What a keeper has filed and dropped stays what the state has, at each step that gives no file.
use Rattle.std.proofs.Common.{
  ◌≡◌,
  ◌||◌,
  ◌&&◌,
  ℕ,
  zero,
  suc,
  ◌+◌,
  ◌<◌,
  ◌≤◌,
  not,
  Bool,
  true,
  false,
  cond,
  List,
  ◌++◌,
  length,
  map,
  Option,
  Some,
  None,
  is_some,
  refl,
  sym,
  ap,
  ◌∙◌,
  subst,
  ⊎_elim,
  arith,
}
use Rattle.std.specs.Prelude.{◌==◌, ◌-◌, ◌⊎◌, get_or}
use Rattle.std.specs.List.{Contains, filter, list_all, range_with_len}
use Rattle.std.specs.Option.{option_map_or}
use Rattle.std.proofs.lemmas.Bool.{and_from, eq-eqb, eqb-true, false≢true, lt-ltb}
use Rattle.std.proofs.lemmas.List.Elements.{
  Contains-append_left,
  Contains-append_right,
  Contains-get_or,
}
use Rattle.std.proofs.lemmas.List.FromFn.{length-range_with_len, get_or-range_with_len}
use Rattle.std.proofs.lemmas.List.Sums.{list_all-from_AllPass}
use mathlib.Core.Logic.{inl, inr}
use Rattle.clog_cells.proofs.Merging.{of_same}
use Rattle.op_core.specs.declared.count.Order.TheVariants.{Write, Append}
use Rattle.path_core.specs.declared.event.Carried.TheVariants.{Nothing, Deposit, Applied}
use Rattle.path_core.specs.declared.event.Event.{Event}
use Rattle.path_core.specs.declared.event.Event.TheVariants.{Close, GiveTurn, TakeTurn}
use Rattle.path_core.specs.declared.event.Turn.TheVariants.{Sync, Flush}
use Rattle.path_core.specs.declared.note.EntryNote.{EntryNote}
use Rattle.path_core.specs.declared.seat.SyncTurn.{SyncTurn}
use Rattle.path_core.specs.declared.state.Claim.{Claim}
use Rattle.path_core.specs.declared.state.PathState.{PathState}
use Rattle.path_core.specs.declared.state.WrittenFile.{WrittenFile}
use Rattle.path_core.specs.Allowed.{IsStep}
use Rattle.path_core.specs.Droppable.{
  IsDroppable,
  are_filed,
  is_droppable,
  is_filed,
  is_logged,
  is_of,
  is_table_filed,
}
use Rattle.path_core.specs.Keys.{ordinal_of}
use Rattle.path_core.specs.Lawful.{IsLawfulPath}
use Rattle.path_core.specs.Next.{has_filed, newly_dropped, next_of}
use Rattle.path_core.specs.Parts.{is_entry_in, key_of_bound, seat_of, touches}
use Rattle.path_core.specs.Words.{by_of}
use Rattle.path_core.proofs.files.LastFile.{oldest_grows}
use Rattle.path_core.proofs.lists.Inserted.{insert_cases, map_from, map_old}
use Rattle.path_core.proofs.lists.Passing.{any_from, any_to, filter_from, kept_in}
use Rattle.path_core.proofs.log.LogGrows.{synced_grows}
use Rattle.path_core.proofs.log.OwnNotes.{not_yet, notes_stay}
use Rattle.path_core.proofs.log.StaysDroppable.{stays_droppable}
use Rattle.path_core.proofs.runs.EveryRun.{log_of, placing_of}
use Rattle.path_core.proofs.seats.Columns.{each_seat}
use Rattle.path_rule.specs.declared.lasting.Beside.{Beside}
use Rattle.path_rule.specs.declared.lasting.Filed.{Filed}
use Rattle.path_rule.specs.declared.lasting.PutTable.{PutTable}
use Rattle.path_rule.specs.declared.view.PathSize.{PathSize}
use Rattle.path_rule.specs.Filing.{
  HasFiled,
  IsCellBetween,
  IsFileOf,
  IsGoing,
  file_range,
  put_range,
  retired_in,
}
use Rattle.path_rule.proofs.log.TurnFiled.{LeavesTurn, filed_stays}

-- a file that was put is one of the state's
pub written_of : (files : List PutTable) (written : List WrittenFile)
    → map put_range files ≡ map file_range written → (f : PutTable) → Contains files f
    → (g : WrittenFile) × Contains written g × (file_range g ≡ put_range f)
written_of files written same f h = map_from file_range written (put_range f)
    (subst (λ (l : List (ℕ × (ℕ × ℕ))). Contains l (put_range f)) same (map_old put_range files f
    h))

-- the test of a droppable segment passes
logged_from : (logged : List ℕ) (p : ℕ) → Contains logged p → is_logged logged p ≡ true
logged_from logged p h = any_from (λ (q : ℕ). q == p) logged p h (eq-eqb p p refl)

all_of : {A : Type 0} (p : A → Bool) (l : List A) → ((a : A) → Contains l a → p a ≡ true)
    → list_all p l ≡ true
all_of p l each = list_all-from_AllPass p l (λ k d inside. each (get_or l k d) (Contains-get_or l k
    d inside))

in_range : (n o : ℕ) → o < n → Contains (range_with_len 0 n) o
in_range n o low = (
  o,
  (let l = length-range_with_len 0 n in omega arith),
  get_or-range_with_len 0 n o o low ∙ omega arith,
)

pub droppable_from : (x : PathState) (o : ℕ) → IsDroppable x o → is_droppable x o ≡ true
droppable_from x o D = and_from _ _ (and_from _ _ (and_from _ _
    (lt-ltb o (ordinal_of x.log) D.closed) D.has_entry)
    (all_of (λ (c : Claim). not (is_entry_in o c) || is_logged x.logged c.end) x.claims
    (λ c h. by c h (is_entry_in o c) refl)))
    (all_of (is_table_filed x o) (range_with_len 0 (length x.tables)) (λ t h.
    all_of (λ (a : EntryNote). list_all (λ (b : EntryNote). are_filed x.files t a.end.0 b.end.0)
    (filter (is_of o t) x.notes)) (filter (is_of o t) x.notes) (λ a ha.
    all_of (λ (b : EntryNote). are_filed x.files t a.end.0 b.end.0) (filter (is_of o t) x.notes)
    (λ b hb. all_of (is_filed x.files t) (range_with_len a.end.0 (b.end.0 + 1 - a.end.0))
    (λ key hk. let fa = filter_from (is_of o t) x.notes a ha in
    let fb = filter_from (is_of o t) x.notes b hb in
    let long = length-range_with_len a.end.0 (b.end.0 + 1 - a.end.0) in
    let inside : hk.0 < b.end.0 + 1 - a.end.0 = (let l = hk.1 in omega arith) in
    let is = sym (get_or-range_with_len a.end.0 (b.end.0 + 1 - a.end.0) hk.0 key inside) ∙ hk.2 in
    D.filed t a b (table_in t h) fa.0 fb.0 fa.1 fb.1 key (omega arith) (omega arith))))))
  where
    by : (c : Claim) → Contains x.claims c → (b : Bool) → is_entry_in o c ≡ b
        → (not (is_entry_in o c) || is_logged x.logged c.end) ≡ true
    by c h true e = ap (λ (b : Bool). not b || is_logged x.logged c.end) e
        ∙ logged_from x.logged c.end (D.logged c h e)
    by c h false e = ap (λ (b : Bool). not b || is_logged x.logged c.end) e

    table_in : (t : ℕ) → Contains (range_with_len 0 (length x.tables)) t → t < length x.tables
    table_in t h = let long = length-range_with_len 0 (length x.tables) in
        let inside : h.0 < length x.tables = (let l = h.1 in omega arith) in
        let is = sym (get_or-range_with_len 0 (length x.tables) h.0 t inside) ∙ h.2 in omega arith

holds_filed : (o : Option SyncTurn) → option_map_or (λ (t : SyncTurn). t.filed) o false ≡ true
    → is_some o ≡ true
holds_filed None h = absurd (false≢true h)
holds_filed (Some t) h = refl

module _ (x : PathState) (L : IsLawfulPath x) where
  -- an entry that is deposited now ends above each file of its tables
  above_files : (f : WrittenFile) → Contains x.files f → (by g : ℕ) (note : EntryNote)
      → IsStep x (Close by Append g (Deposit note)) → f.upper < note.end.0
  above_files f h by g note a = let F = L.last_file_is_retired.each f h in
      let R = L.retired_is_filed.each f.table f.memtable F.table F.retired in
      subst (λ b. key_of_bound b < note.end.0) F.upper
      (R.none_below by (record { start = note.start.0; end = note.end.0 }) a.row.1.range
      (ap (λ n. option_map_or (λ (tables : ℕ). touches tables f.table) n true)
      (not_yet x L.orders by g a.row.0)))

  -- so what notes have in the interval of a file is what they had
  notes_were : (upper : ℕ) → ((by g : ℕ) (note : EntryNote)
      → IsStep x (Close by Append g (Deposit note)) → upper < note.end.0)
      → (e : Event) → IsStep x e → (n : EntryNote) → n.end.0 ≤ upper
      → Contains (next_of x e).notes n → Contains x.notes n
  notes_were upper above (Close by Append g (Deposit note)) a n low h = elim
      (insert_cases x.notes _ note n h) [
        | inl old ↦ old
        | inr new ↦ absurd (let l = above by g note a in
            let is = ap (λ (m : EntryNote). m.end.0) new in omega arith)
      ]
  notes_were upper above (Close by Write g (Deposit note)) a n low h = absurd a.row.1
  notes_were upper above (Close by order g Nothing) a n low h = h
  notes_were upper above (Close by order g (Applied places)) a n low h = h
  notes_were upper above e a n low h = h

  pub file_stays : (e : Event) → IsStep x e → (f : PutTable) → (g : WrittenFile)
      → Contains x.files g → file_range g ≡ put_range f → IsFileOf x.notes f
      → IsFileOf (next_of x e).notes f
  file_stays e a f g h same merged = of_same (IsCellBetween x.notes f.table f.lower f.upper)
      (IsCellBetween (next_of x e).notes f.table f.lower f.upper) f.cells (λ pair. (
        (λ c. record {
          note = c.note;
          among = notes_stay x e c.note c.among;
          whole = c.whole;
          listed = c.listed;
          of_table = c.of_table;
          above = c.above;
          up_to = c.up_to;
        }),
        (λ c. record {
          note = c.note;
          among = notes_were f.upper (λ by k note b. subst (λ (u : ℕ). u < note.end.0)
              (ap (λ (q : ℕ × (ℕ × ℕ)). q.1.1) same) (above_files g h by k note b)) e a c.note
              c.up_to c.among;
          whole = c.whole;
          listed = c.listed;
          of_table = c.of_table;
          above = c.above;
          up_to = c.up_to;
        }),
      )) merged

  -- a segment that may go may go still
  pub may_still : (e : Event) → IsStep x e → (o : ℕ) → IsDroppable x o → o < ordinal_of x.synced
      → IsDroppable (next_of x e) o × (o < ordinal_of (next_of x e).synced)
  may_still e a o droppable below = (
    stays_droppable x L.sized L.claims_tile_the_log L.orders L.own_claim L.each_claim_noted_once
        L.notes_are_claims (log_of x L).logged_are_notes e a o droppable,
    higher x.synced (next_of x e).synced (synced_grows x e a) below,
  )
    where
      higher : (low high : ℕ) → low ≤ high → o < ordinal_of low → o < ordinal_of high
      higher low high le l = omega arith

  -- it goes with the Sync turn, or may go still
  pub still_going : (e : Event) → IsStep x e → (o : ℕ) → Contains x.dropped o ⊎ IsGoing x o
      → Contains (next_of x e).dropped o ⊎ IsGoing (next_of x e) o
  still_going e a o (inl gone) = inl (dropped_stays e gone)
    where
      dropped_stays : (e : Event) → Contains x.dropped o → Contains (next_of x e).dropped o
      dropped_stays (GiveTurn by Sync) h = choose (has_filed (seat_of x by))
        where
          choose : (b : Bool) → Contains (cond b (x.dropped ++ newly_dropped x) x.dropped) o
          choose true = Contains-append_left x.dropped (newly_dropped x) o h
          choose false = h
      dropped_stays (GiveTurn by (Flush t)) h = h
      dropped_stays e h = h
  still_going e a o (inr G) = by e a
    where
      goes_on : (e : Event) → IsStep x e → LeavesTurn e → IsGoing (next_of x e) o
      goes_on e a leaves = record {
        by = G.by;
        filed = each_seat x e a.seat (λ z p. z ≡ G.by → has_filed p ≡ true)
            (λ is. filed_stays e (seat_of x (by_of e)) _ _ leaves
            (subst (λ (z : ℕ). has_filed (seat_of x z) ≡ true) (sym is) G.filed))
            (λ z apart is. subst (λ (k : ℕ). has_filed (seat_of x k) ≡ true) (sym is) G.filed)
            G.by refl;
        droppable = (may_still e a o G.droppable G.below).0;
        below = (may_still e a o G.droppable G.below).1;
      }

      held : is_some (seat_of x G.by).sync ≡ true
      held = holds_filed (seat_of x G.by).sync G.filed

      leaves_now : (already : Bool) → is_logged x.dropped o ≡ already
          → Contains (x.dropped ++ newly_dropped x) o
      leaves_now true was = let r = any_to _ x.dropped was in
          Contains-append_left x.dropped (newly_dropped x) o
          (subst (λ (k : ℕ). Contains x.dropped k) (eqb-true r.0 o r.2) r.1)
      leaves_now false was = Contains-append_right x.dropped (newly_dropped x) o
          (kept_in (λ (k : ℕ). not (is_logged x.dropped k) && is_droppable x k)
          (range_with_len 0 (ordinal_of x.synced)) o (in_range (ordinal_of x.synced) o G.below)
          (and_from (not (is_logged x.dropped o)) (is_droppable x o)
          (ap (λ (b : Bool). not b) was) (droppable_from x o G.droppable)))

      by : (e : Event) → IsStep x e → Contains (next_of x e).dropped o ⊎ IsGoing (next_of x e) o
      by (GiveTurn w Sync) a =
          let one = L.orders.one_holder_a_turn.one Sync G.by w held a.row.0 in
          inl (subst (λ (b : Bool). Contains (cond b (x.dropped ++ newly_dropped x) x.dropped) o)
          (sym (subst (λ (z : ℕ). has_filed (seat_of x z) ≡ true) one G.filed))
          (leaves_now (is_logged x.dropped o) refl))
      by (TakeTurn w Sync) a = absurd (false≢true (sym (a.row.1 G.by) ∙ held))
      by (GiveTurn w (Flush t)) a = inr (goes_on (GiveTurn w (Flush t)) a tt)
      by (TakeTurn w (Flush t)) a = inr (goes_on (TakeTurn w (Flush t)) a tt)
      by e a = inr (goes_on e a tt)

  -- no memtable comes back
  pub retired_grows : (e : Event) → IsStep x e → (n : ℕ)
      → retired_in x n ≤ retired_in (next_of x e) n
  retired_grows e a zero = omega arith
  retired_grows e a (suc n) = let more = retired_grows e a n in
      let up = oldest_grows x (placing_of x L) e a n in omega arith

  pub filing_stays : {b : Beside} (size : PathSize) (filed : Filed) (dropped : List ℕ) (e : Event)
      → IsStep x e → (next_of x e).files ≡ x.files → HasFiled b size x filed dropped
      → HasFiled b size (next_of x e) filed dropped
  filing_stays size filed dropped e a same F = record {
    ranged = F.ranged ∙ ap (λ (l : List WrittenFile). map file_range l) (sym same);
    merged = λ f h. let g = written_of filed.files x.files F.ranged f h in
        file_stays e a f g.0 g.1 g.2 (F.merged f h);
    gone = λ o h. still_going e a o (F.gone o h);
    few = let more = retired_grows e a 16 in let few = F.few in
        let long = ap (λ (l : List WrittenFile). length l) same in omega arith;
    plain = λ is. let P = F.plain is in (same ∙ P.0, P.1, P.2);
    none_archived = F.none_archived;
    all_archived = F.all_archived;
    archived_may = λ o h. let M = F.archived_may o h in may_still e a o M.0 M.1;
  }

-- what was dropped lies below the segment of the synced key
pub dropped_below : {b : Beside} (x : PathState) → IsLawfulPath x → (size : PathSize)
    (filed : Filed) (dropped : List ℕ) → HasFiled b size x filed dropped → (o : ℕ)
    → Contains dropped o → o < ordinal_of x.synced
dropped_below x L size filed dropped F o h = ⊎_elim
    (λ gone. L.dropped_was_droppable.below_synced o gone) (λ G. G.below) (F.gone o h)

-- and is droppable
pub dropped_is_droppable : {b : Beside} (x : PathState) → IsLawfulPath x → (size : PathSize)
    (filed : Filed) (dropped : List ℕ) → HasFiled b size x filed dropped → (o : ℕ)
    → Contains dropped o → IsDroppable x o
dropped_is_droppable x L size filed dropped F o h = ⊎_elim
    (λ gone. L.dropped_was_droppable.droppable o gone) (λ G. G.droppable) (F.gone o h)

-- While nobody holds the Sync turn, it is dropped in the machine.
pub dropped_at_home : {b : Beside} (x : PathState) (size : PathSize) (filed : Filed)
    (dropped : List ℕ) → HasFiled b size x filed dropped → ((w : ℕ) → is_some (seat_of x w).sync
    ≡ false)
    → (o : ℕ) → Contains dropped o → Contains x.dropped o
dropped_at_home x size filed dropped F free o h = ⊎_elim (λ gone. gone)
    (λ G. absurd (false≢true (sym (free G.by) ∙ holds_filed (seat_of x G.by).sync G.filed)))
    (F.gone o h)
