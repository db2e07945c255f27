-- Changes of a seat that leave its operation, and which turns it holds.
use Rattle.std.proofs.Common.{
  ◌≡◌,
  ℕ,
  ◌<◌,
  ◌==◌,
  Bool,
  ◌&&◌,
  true,
  false,
  cond,
  length,
  Option,
  Some,
  None,
  is_some,
  refl,
  sym,
  ap,
  ◌∙◌,
  subst,
  length-set,
}
use Rattle.std.specs.Option.{option_map}
use Rattle.std.proofs.lemmas.Bool.{ne_eqb, eq-eqb, cond-true, cond-false}
use mathlib.Core.Logic.{dite}
use native.Mathlib.Decide.{ℕ_discrete}
use Rattle.path_core.specs.declared.event.Event.{Event}
use Rattle.path_core.specs.declared.seat.FlushTurn.{FlushTurn}
use Rattle.path_core.specs.declared.seat.Found.{Found}
use Rattle.path_core.specs.declared.seat.Issue.{Issue}
use Rattle.path_core.specs.declared.seat.Seat.{Seat}
use Rattle.path_core.specs.declared.seat.SeatTable.{SeatTable}
use Rattle.path_core.specs.declared.seat.SyncTurn.{SyncTurn}
use Rattle.path_core.specs.Parts.{seat_table, is_at}
use Rattle.path_core.specs.declared.state.Bound.{Bound as BoundOf}
use Rattle.path_core.specs.SeatAfter.{raised_as_writer, raised_as_holder}
use Rattle.path_core.specs.SeatParts.{
  at_table,
  in_flush,
  in_sync,
  bound_found,
  is_raising,
  raised_to,
}
use Rattle.std.proofs.lemmas.Iterator.Adapters.{option_map_id}
use Rattle.path_core.proofs.lists.Options.{still_some}
use Rattle.path_core.proofs.seats.Columns.{
  write_after,
  append_after,
  claim_after,
  note_after,
  issue_held,
  issue_after,
  flush_after,
  Columns,
  Leaves,
  at_table_same,
  at_table_other,
  at_table_keeps,
}

pub leaves_itself : (s : Seat) → Leaves s s
leaves_itself s = record {
  write = refl;
  append = refl;
  claim = refl;
  note = refl;
  issue = refl;
  flush = λ t. refl;
  tables = refl;
}

pub leaves_twice : (r s t : Seat) → Leaves r s → Leaves s t → Leaves r t
leaves_twice r s t a b = record {
  write = b.write ∙ a.write;
  append = b.append ∙ a.append;
  claim = b.claim ∙ a.claim;
  note = b.note ∙ a.note;
  issue = b.issue ∙ a.issue;
  flush = λ u. b.flush u ∙ a.flush u;
  tables = b.tables ∙ a.tables;
}

abbrev pub holds_flush : SeatTable → Bool
holds_flush st = is_some st.flush

pub leaves_at_table : (t : ℕ) (f : SeatTable → SeatTable) (s : Seat)
    → is_some (f (seat_table s t)).flush ≡ is_some (seat_table s t).flush
    → Leaves s (at_table t f s)
leaves_at_table t f s same = record {
  write = refl;
  append = refl;
  claim = refl;
  note = refl;
  issue = refl;
  flush = λ u. at_table_keeps t u f s (λ (st : SeatTable). is_some st.flush) same;
  tables = length-set s.tables t (f (seat_table s t));
}

pub leaves_flush : (t : ℕ) (f : FlushTurn → FlushTurn) (s : Seat)
    → Leaves s (at_table t (in_flush f) s)
leaves_flush t f s = leaves_at_table t (in_flush f) s (still_some (seat_table s t).flush f)

pub issue_kept : (o : Option SyncTurn) (g : SyncTurn → SyncTurn) (issue : Issue → Issue)
    → ((turn : SyncTurn) → (g turn).issue ≡ issue turn.issue)
    → option_map (λ (turn : SyncTurn). turn.issue) (option_map g o)
    ≡ option_map issue (option_map (λ (turn : SyncTurn). turn.issue) o)
issue_kept None g issue same = refl
issue_kept (Some turn) g issue same = ap Some (same turn)

pub leaves_in_sync : (g : SyncTurn → SyncTurn) (s : Seat) → ((turn : SyncTurn)
    → (g turn).issue ≡ turn.issue)
    → Leaves s (in_sync g s)
leaves_in_sync g s same = record {
  write = refl;
  append = refl;
  claim = refl;
  note = refl;
  issue = issue_kept s.sync g (λ i. i) same ∙ option_map_id (issue_held s);
  flush = λ t. refl;
  tables = refl;
}

-- what it found, and whether a marker waits, change as well
pub finds_in_sync : (g : SyncTurn → SyncTurn) (found : Found) (waits : Bool) (s : Seat)
    → ((turn : SyncTurn) → (g turn).issue ≡ turn.issue)
    → Leaves s (in_sync g (record s { found = found; marker_waits = waits }))
finds_in_sync g found waits s same = record {
  write = refl;
  append = refl;
  claim = refl;
  note = refl;
  issue = issue_kept s.sync g (λ i. i) same ∙ option_map_id (issue_held s);
  flush = λ t. refl;
  tables = refl;
}

-- the columns, one by one
pub columns_are : (e : Event) (s after : Seat) → after.write ≡ write_after s.write e
    → after.append ≡ append_after s.append e → after.claim ≡ claim_after s.claim e
    → after.note ≡ note_after s.note e → issue_held after ≡ issue_after (issue_held s) e
    → ((t : ℕ) → is_some (seat_table after t).flush
    ≡ flush_after t (is_some (seat_table s t).flush) e)
    → length after.tables ≡ length s.tables → Columns e s after
columns_are e s after w a c n i f t = record {
  write = w;
  append = a;
  claim = c;
  note = n;
  issue = i;
  flush = f;
  tables = t;
}

pub columns_left : (e : Event) (s after : Seat) → Leaves s after
    → write_after s.write e ≡ s.write → append_after s.append e ≡ s.append
    → claim_after s.claim e ≡ s.claim → note_after s.note e ≡ s.note
    → issue_after (issue_held s) e ≡ issue_held s
    → ((t : ℕ) → flush_after t (is_some (seat_table s t).flush) e
    ≡ is_some (seat_table s t).flush)
    → Columns e s after
columns_left e s after L w a c n i f = record {
  write = L.write ∙ sym w;
  append = L.append ∙ sym a;
  claim = L.claim ∙ sym c;
  note = L.note ∙ sym n;
  issue = L.issue ∙ sym i;
  flush = λ t. L.flush t ∙ sym (f t);
  tables = L.tables;
}

pub raises_keep : (deposited : Bool) (m to : ℕ) (b : BoundOf) (st : SeatTable)
    → is_some (raised_as_holder m to (raised_as_writer deposited m b (bound_found m
    (raised_to to b) st))).flush ≡ is_some st.flush
raises_keep deposited m to b st = choose (deposited && is_at st.trying m && is_raising b)
  where
    found : SeatTable
    found = bound_found m (raised_to to b) st

    choose : (c : Bool) → is_some (raised_as_holder m to (cond c (record (bound_found m
        (raised_to to b) st) { place = Some m }) (bound_found m (raised_to to b) st))).flush
        ≡ is_some st.flush
    choose true = still_some _ _ ∙ still_some st.flush _
    choose false = still_some _ _ ∙ still_some st.flush _

-- a table's turn is taken or given
pub turned : (t u : ℕ) (f : SeatTable → SeatTable) (s : Seat) (held : Bool) → t < length s.tables
    → is_some (f (seat_table s t)).flush ≡ held
    → is_some (seat_table (at_table t f s) u).flush
    ≡ cond (t == u) held (is_some (seat_table s u).flush)
turned t u f s held inside is = dite (ℕ_discrete u t)
    (λ e. subst (λ k. is_some (seat_table (at_table t f s) k).flush
    ≡ cond (t == k) held (is_some (seat_table s k).flush)) (sym e)
    (ap holds_flush (at_table_same t f s inside) ∙ is ∙ sym (cond-true (t == t) held _
    (eq-eqb t t refl))))
    (λ n. ap holds_flush (at_table_other t u f s n)
    ∙ sym (cond-false (t == u) held _ (ne_eqb t u (λ e. n (sym e)))))
