-- What the steps by which a memtable is read leave of its reader.
use Rattle.std.proofs.Common.{◌≡◌, ℕ, ◌+◌, Bool, true, false, if◌then◌else◌, [], Option}
use Rattle.std.proofs.Common.{Some, None, refl, sym, ap, ◌∙◌, subst, arith}
use Rattle.std.proofs.lemmas.Option.{none-some, same_Some}
use Rattle.std.specs.Option.{option_map}
use Rattle.clog_base.specs.declared.cell.Table.{Table}
use Rattle.path_core.specs.declared.event.Event.TheVariants.{Look}
use Rattle.path_core.specs.declared.event.Place.TheVariants.{Newest, Bound as BoundOf}
use Rattle.path_core.specs.declared.seat.FlushTurn.{FlushTurn}
use Rattle.path_core.specs.declared.seat.Seat.{Seat}
use Rattle.path_core.specs.declared.seat.SeatTable.{SeatTable}
use Rattle.path_core.specs.declared.seat.Switching.{Switching}
use Rattle.path_core.specs.declared.state.Bound.{Bound}
use Rattle.path_core.specs.Parts.{is_at, seat_table, stage_of}
use Rattle.path_core.specs.SeatAfter.{Told, seat_after}
use Rattle.path_core.specs.SeatParts.{bound_found, deposited_end, in_flush, is_final_below, takes}
use Rattle.path_core.specs.SeatParts.{tried, tries_bound}
use Rattle.path_core.specs.Words.{place_of}
use Rattle.path_core.proofs.seats.Columns.{at_table_keeps, Columns}
use Rattle.path_core.proofs.seats.StepColumns.{columns}
use Rattle.path_rule.specs.declared.view.FlushRead.{FlushRead}
use Rattle.path_rule.specs.declared.view.Hands.{Hands}
use Rattle.path_rule.specs.declared.view.View.{View}
use Rattle.path_rule.specs.Calls.{Did, DidAs}
use Rattle.path_rule.specs.HandsAfter.{with_reading}
use Rattle.path_rule.specs.Layout.{bound_in, reading_at}
use Rattle.path_rule.specs.Rule.{told_by}
use Rattle.path_rule.specs.Switches.{FlushOldest}
use Rattle.path_flush.specs.FlushReads.{ReadSteps}
use Rattle.path_flush.proofs.FlushGoes.{next, one}
use Rattle.path_flush.proofs.FlushTables.{holder_still, is_small}
use Rattle.path_flush.proofs.SwitchGoes.{kept_both, none_both}

-- the stage of a switch behind a look at the newest memtable
pub staged : (f : FlushTurn → FlushTurn) → ((turn : FlushTurn) → (f turn).stage ≡ turn.stage)
    → (o : Option FlushTurn) → option_map (λ (turn : FlushTurn). turn.stage) (option_map f o)
    ≡ option_map (λ (turn : FlushTurn). turn.stage) o
staged f same None = refl
staged f same (Some turn) = ap (λ (k : Switching). Some k) (same turn)

abbrev pub stage_in : SeatTable → Option Switching
stage_in st = option_map (λ (turn : FlushTurn). turn.stage) st.flush

pub newest_leaves : (s : Seat) (u n : ℕ) (t : Table) (told : Told)
    → stage_of (seat_after s (Look 0 (Newest t)) (reading_at (Newest t) n) told) u ≡ stage_of s u
newest_leaves s u n t told = at_table_keeps t.0 u
    (in_flush (λ (turn : FlushTurn). record turn { newest = Some n })) s stage_in
    (staged (λ (turn : FlushTurn). record turn { newest = Some n }) (λ turn. refl)
    (seat_table s t.0).flush)

-- it leaves the least memtable that is not retired too
abbrev pub oldest_in : SeatTable → Option (Option ℕ)
oldest_in st = option_map (λ (turn : FlushTurn). turn.oldest_live) st.flush

pub older : (f : FlushTurn → FlushTurn) → ((turn : FlushTurn) → (f turn).oldest_live
    ≡ turn.oldest_live) → (o : Option FlushTurn)
    → option_map (λ (turn : FlushTurn). turn.oldest_live) (option_map f o)
    ≡ option_map (λ (turn : FlushTurn). turn.oldest_live) o
older f same None = refl
older f same (Some turn) = ap (λ (k : Option ℕ). Some k) (same turn)

pub oldest_found : (o : Option FlushTurn) (n : ℕ)
    → option_map (λ (turn : FlushTurn). turn.oldest_live) o ≡ Some (Some n)
    → (turn : FlushTurn) × (o ≡ Some turn) × (turn.oldest_live ≡ Some n)
oldest_found None n e = absurd (none-some (Some n) e)
oldest_found (Some turn) n e = (turn, refl, same_Some turn.oldest_live (Some n) e)

pub oldest_stays : (p q : Seat) (t n : ℕ) → oldest_in (seat_table q t) ≡ oldest_in (seat_table p t)
    → FlushOldest t p n → FlushOldest t q n
oldest_stays p q t n same F = oldest_found (seat_table q t).flush n (same
    ∙ (ap (λ (o : Option FlushTurn). option_map (λ (turn : FlushTurn). turn.oldest_live) o) F.1
    ∙ ap (λ (k : Option ℕ). Some k) F.2))

pub newest_leaves_oldest : (s : Seat) (u n : ℕ) (t : Table) (told : Told)
    → oldest_in (seat_table (seat_after s (Look 0 (Newest t)) (reading_at (Newest t) n) told) u)
    ≡ oldest_in (seat_table s u)
newest_leaves_oldest s u n t told = at_table_keeps t.0 u
    (in_flush (λ (turn : FlushTurn). record turn { newest = Some n })) s oldest_in
    (older (λ (turn : FlushTurn). record turn { newest = Some n }) (λ turn. refl)
    (seat_table s t.0).flush)

-- a look at the newest memtable, by which what was read changes
abbrev pub on_read : (w t n : ℕ) (u : Table) (q : Option FlushRead) (v after : View)
    → DidAs v w (Look w (Newest u)) n (with_reading q v.hands) after → ReadSteps w t v after
on_read w t n u q v after d = let e = Look w (Newest u) in let P = is_small e tt in
    let told = told_by None (with_reading q v.hands) in
    let same = ap (λ (x : View). x.hands) d.view in record {
      made = one w e n (with_reading q v.hands) v after refl d;
      none = (tt, tt);
      kept = (tt, tt);
      sync = ap (λ (x : View). x.part.sync) d.view ∙ P.sync v.part n told;
      holder = holder_still t e v after P
          (subst (λ (x : View). Columns e v.part x.part) (sym d.view)
          (columns e v.part (reading_at (place_of e) n) told (P.fits v.part)))
          (ap (λ (x : View). x.size) d.view);
      stage = ap (λ (x : View). stage_of x.part t) d.view ∙ newest_leaves v.part t n u told;
      oldest = λ m. oldest_stays v.part after.part t m
          (ap (λ (x : View). oldest_in (seat_table x.part t)) d.view
          ∙ newest_leaves_oldest v.part t n u told);
      hands = same ∙ ap (λ (r : Option FlushRead). with_reading r v.hands)
          (sym (ap (λ (h : Hands). h.reading) same));
    }

-- a look at a memtable's bound leaves the stage too
tries_left : (end : Option ℕ) (m : ℕ) (b : Bound) (st : SeatTable)
    → (tries_bound end m b st).flush ≡ st.flush
tries_left None m b st = refl
tries_left (Some end) m b st = by (is_at st.trying m)
  where
    tried_left : (c d : Bool) → (if c then record st { place = Some m }
        else (if d then record st { trying = Some (m + 1) } else st)).flush ≡ st.flush
    tried_left true d = refl
    tried_left false true = refl
    tried_left false false = refl

    by : (c : Bool) → (if c then tried end m b st else st).flush ≡ st.flush
    by true = tried_left (takes end b) (is_final_below end b)
    by false = refl

pub bound_leaves : (s : Seat) (u n m : ℕ) (t : Table) (told : Told)
    → stage_of (seat_after s (Look 0 (BoundOf t m)) (reading_at (BoundOf t m) n) told) u
    ≡ stage_of s u
bound_leaves s u n m t told = let b = bound_in n in let st = seat_table s t.0 in
    let set : FlushTurn → FlushTurn = λ turn. record turn {
      bound = Some (record { memtable = m; bound = b });
    } in at_table_keeps t.0 u
    (λ (st : SeatTable). tries_bound (deposited_end s) m b (bound_found m b st)) s stage_in
    (ap (λ (o : Option FlushTurn). option_map (λ (turn : FlushTurn). turn.stage) o)
    (tries_left (deposited_end s) m b (bound_found m b st)) ∙ staged set (λ turn. refl) st.flush)

pub bound_leaves_oldest : (s : Seat) (u n m : ℕ) (t : Table) (told : Told)
    → oldest_in (seat_table (seat_after s (Look 0 (BoundOf t m)) (reading_at (BoundOf t m) n) told)
    u) ≡ oldest_in (seat_table s u)
bound_leaves_oldest s u n m t told = let b = bound_in n in let st = seat_table s t.0 in
    let set : FlushTurn → FlushTurn = λ turn. record turn {
      bound = Some (record { memtable = m; bound = b });
    } in at_table_keeps t.0 u
    (λ (st : SeatTable). tries_bound (deposited_end s) m b (bound_found m b st)) s oldest_in
    (ap (λ (o : Option FlushTurn). option_map (λ (turn : FlushTurn). turn.oldest_live) o)
    (tries_left (deposited_end s) m b (bound_found m b st)) ∙ older set (λ turn. refl) st.flush)

abbrev pub on_bound : (w t n : ℕ) (u : Table) (k : ℕ) (q : Option FlushRead) (v after : View)
    → DidAs v w (Look w (BoundOf u k)) n (with_reading q v.hands) after → ReadSteps w t v after
on_bound w t n u k q v after d = let e = Look w (BoundOf u k) in let P = is_small e tt in
    let told = told_by None (with_reading q v.hands) in
    let same = ap (λ (x : View). x.hands) d.view in record {
      made = one w e n (with_reading q v.hands) v after refl d;
      none = (tt, tt);
      kept = (tt, tt);
      sync = ap (λ (x : View). x.part.sync) d.view ∙ P.sync v.part n told;
      holder = holder_still t e v after P
          (subst (λ (x : View). Columns e v.part x.part) (sym d.view)
          (columns e v.part (reading_at (place_of e) n) told (P.fits v.part)))
          (ap (λ (x : View). x.size) d.view);
      stage = ap (λ (x : View). stage_of x.part t) d.view ∙ bound_leaves v.part t n k u told;
      oldest = λ m. oldest_stays v.part after.part t m
          (ap (λ (x : View). oldest_in (seat_table x.part t)) d.view
          ∙ bound_leaves_oldest v.part t n k u told);
      hands = same ∙ ap (λ (r : Option FlushRead). with_reading r v.hands)
          (sym (ap (λ (h : Hands). h.reading) same));
    }

-- the same where what was read stays
abbrev pub on_looked : (w t n : ℕ) (u : Table) (k : ℕ) (v after : View)
    → Did v w (Look w (BoundOf u k)) n after → ReadSteps w t v after
on_looked w t n u k v after d =
    on_bound w t n u k v.hands.reading v after (record { view = d.view; was = d.was })

abbrev pub then_read : (w z t : ℕ) (v u after : View) → z ≡ w → ReadSteps w t v u
    → ReadSteps z t u after → ReadSteps w t v after
then_read w z t v u after same A B = record {
  made = next w z v u after same A.made B.made;
  none = none_both B.made.steps A.made.steps B.none A.none;
  kept = kept_both B.made.steps A.made.steps B.kept A.kept;
  sync = B.sync ∙ A.sync;
  holder = λ H. B.holder (A.holder H);
  stage = B.stage ∙ A.stage;
  oldest = λ m F. B.oldest m (A.oldest m F);
  hands = B.hands ∙ ap (λ (h : Hands). with_reading after.hands.reading h) A.hands;
}

pub none_read_yet : (w t : ℕ) (v : View) → ReadSteps w t v v
none_read_yet w t v = record {
  made = record {
    steps = [];
    trail = refl;
    are = tt;
    issues = omega arith;
    returned = refl;
    size = refl;
  };
  none = tt;
  kept = tt;
  sync = refl;
  holder = λ H. H;
  stage = refl;
  oldest = λ m F. F;
  hands = refl;
}
