-- What words tell: how large the numbers that they stand for are, and what is read back from one.
use Rattle.std.proofs.Common.{suc, zero, ◌≡◌, ℕ, ◌+◌, ◌<◌, ◌≤◌, ◌-◌, ◌^◌, Bool, length, get_or}
use Rattle.std.proofs.Common.{Option, Some, None, is_some, refl, sym, ap, ◌∙◌, subst, arith}
use Rattle.std.proofs.Common.{length-set, lt-ltb, le-ltb}
use Rattle.std.specs.Prelude.{if◌then◌else◌, nat_lt}
use Rattle.std.proofs.lemmas.Bool.{ne_eqb}
use Rattle.std.proofs.lemmas.List.{length-map}
use Rattle.std.proofs.lemmas.List.Sums.{count_by-le-length}
use Rattle.std.specs.Option.{option_map}
use Rattle.clog_base.specs.declared.cell.Table.{Table}
use Rattle.op_core.specs.Tallies.{running_of}
use Rattle.op_core.specs.declared.count.Order.{Order}
use Rattle.op_core.specs.declared.count.Order.TheVariants.{Write, Append}
use Rattle.path_core.specs.declared.event.Cursor.TheVariants.{Synced, OldestLive, Stopped}
use Rattle.path_core.specs.declared.event.Event.{Event}
use Rattle.path_core.specs.declared.event.Event.TheVariants.{Register, Close, OpenGroup}
use Rattle.path_core.specs.declared.event.Event.TheVariants.{MoveCurrent, Expire, Advance, Switch}
use Rattle.path_core.specs.declared.event.Event.TheVariants.{Raise, Finalise, Put}
use Rattle.path_core.specs.declared.event.Place.{Place}
use Rattle.path_core.specs.declared.event.Place.TheVariants.{Count, Current, Oldest, Log, Newest}
use Rattle.path_core.specs.declared.event.Place.TheVariants.{Bound, TurnWord, CursorWord}
use Rattle.path_core.specs.declared.event.Reading.TheVariants.{Operations, Limit}
use Rattle.path_core.specs.declared.event.SwitchPart.TheVariants.{Open, Mark}
use Rattle.path_core.specs.declared.seat.Seat.{Seat}
use Rattle.path_core.specs.declared.seat.SyncTurn.{SyncTurn}
use Rattle.path_core.specs.declared.state.Bound.{Bound as BoundOf}
use Rattle.path_core.specs.declared.state.Bound.TheVariants.{Live, Raising, Final}
use Rattle.path_core.specs.declared.state.OrderGroups.{OrderGroups}
use Rattle.path_core.specs.declared.state.PathState.{PathState}
use Rattle.path_core.specs.Allowed.{IsStep}
use Rattle.path_core.specs.Lawful.{IsLawfulPath}
use Rattle.path_core.specs.LawfulOrders.{is_in}
use Rattle.path_core.specs.Next.{next_of, barred, groups_after, tables_after}
use Rattle.path_core.specs.Parts.{fresh_table, groups_of, tally_of, seat_of, table_of, memtable_of}
use Rattle.path_core.specs.Parts.{key_of_bound}
use Rattle.path_core.specs.Words.{reading}
use Rattle.path_core.proofs.frame.Tables.{same_at, barred_reads}
use Rattle.path_core.proofs.seats.Columns.{issue_held}
use Rattle.op_core.proofs.CountWords.{tally_back}
use Rattle.path_rule.specs.Layout.{bound_word, bound_in, word_for, reading_at, IsShown}
use Rattle.path_rule.specs.Limits.{made_below}
use Rattle.path_rule.specs.Rule.{HasRows}

-- a seat holds the Sync turn exactly where it is at an issue of it
pub is_some_held : (s : Seat) → is_some (issue_held s) ≡ is_some s.sync
is_some_held s = by s.sync
  where
    by : (o : Option SyncTurn) → is_some (option_map (λ (t : SyncTurn). t.issue) o) ≡ is_some o
    by None = refl
    by (Some t) = refl

-- A step that makes a group.
abbrev pub GroupMade : Event → Type 0
GroupMade (OpenGroup by o g) = Unit {0}
GroupMade _ = ⊥

-- A step that makes a memtable.
abbrev pub MemtableMade : Event → Type 0
MemtableMade (Switch by t m Open) = Unit {0}
MemtableMade _ = ⊥

-- A step that makes neither a group nor a memtable.
abbrev pub MakesRow : Event → Type 0
MakesRow (OpenGroup by o g) = Unit {0}
MakesRow (Switch by t m Open) = Unit {0}
MakesRow _ = ⊥

pub as_many_tallies : (o : Order) (x : OrderGroups) (e : Event) → (GroupMade e → ⊥)
    → length (groups_after o x e).tallies ≡ length x.tallies
as_many_tallies o x (OpenGroup by p g) n = absurd (n tt)
as_many_tallies Write x (Register by Write g) n = length-set x.tallies g _
as_many_tallies Append x (Register by Append g) n = length-set x.tallies g _
as_many_tallies Write x (Close by Write g c) n = length-set x.tallies g _
as_many_tallies Append x (Close by Append g c) n = length-set x.tallies g _
as_many_tallies Write x (Expire by Write g) n = length-set x.tallies g _
as_many_tallies Append x (Expire by Append g) n = length-set x.tallies g _
as_many_tallies Write x (Register by Append g) n = refl
as_many_tallies Append x (Register by Write g) n = refl
as_many_tallies Write x (Close by Append g c) n = refl
as_many_tallies Append x (Close by Write g c) n = refl
as_many_tallies Write x (Expire by Append g) n = refl
as_many_tallies Append x (Expire by Write g) n = refl
as_many_tallies Write x (MoveCurrent by Write g) n = refl
as_many_tallies Append x (MoveCurrent by Append g) n = refl
as_many_tallies Write x (MoveCurrent by Append g) n = refl
as_many_tallies Append x (MoveCurrent by Write g) n = refl
as_many_tallies Write x (Advance by Write g) n = refl
as_many_tallies Append x (Advance by Append g) n = refl
as_many_tallies Write x (Advance by Append g) n = refl
as_many_tallies Append x (Advance by Write g) n = refl
as_many_tallies o x e n = refl

pub as_many_memtables : (x : PathState) (e : Event) → IsStep x e → (MemtableMade e → ⊥) → (u : ℕ)
    → length (table_of (next_of x e) u).memtables ≡ length (table_of x u).memtables
as_many_memtables x e a n u = by e a n
  where
    by : (e : Event) → IsStep x e → (MemtableMade e → ⊥)
        → length (get_or (tables_after x e) u fresh_table).memtables
        ≡ length (table_of x u).memtables
    by (MoveCurrent y Write g) a n = barred_reads (λ t. length t.memtables) x.write.current
        (seat_of x y).tables x.tables u (λ t. length-map t.memtables (barred x.write.current))
    by (MoveCurrent y Append g) a n = refl
    by (Switch y t m Open) a n = absurd (n tt)
    by (Switch y t m Mark) a n = same_at x.tables t.0 _ u (λ t. length t.memtables)
        (length-set (table_of x t.0).memtables m _) a.is_there.0
    by (Raise y t m to) a n = same_at x.tables t.0 _ u (λ t. length t.memtables)
        (length-set (table_of x t.0).memtables m _) a.is_there.0
    by (Finalise y t m) a n = same_at x.tables t.0 _ u (λ t. length t.memtables)
        (length-set (table_of x t.0).memtables m _) a.is_there.0
    by (Put y (OldestLive t) v) a n = same_at x.tables t.0 _ u
        (λ t. length t.memtables) refl a.is_there
    by (Put y Synced v) a n = refl
    by (Put y Stopped v) a n = refl
    by e a n = refl

no_group : (e : Event) → (MakesRow e → ⊥) → GroupMade e → ⊥
no_group (OpenGroup by o g) n q = n q
no_group e n q = q

no_memtable : (e : Event) → (MakesRow e → ⊥) → MemtableMade e → ⊥
no_memtable (Switch by t m Open) n q = n q
no_memtable e n q = q

-- where each table has as many memtables
pub kept_below : (x y : PathState)
    → ((u : ℕ) → length (table_of y u).memtables ≡ length (table_of x u).memtables) → (n : ℕ)
    → made_below n y ≡ made_below n x
unfolding made_below
kept_below x y same zero = refl
kept_below x y same (suc n) = let rest = kept_below x y same n in let one = same n in
    omega (arith, rest, one)

pub rows_stay : (x : PathState) (e : Event) → IsStep x e → (MakesRow e → ⊥) → HasRows x
    → HasRows (next_of x e)
rows_stay x e a n h = record {
  groups = λ o. by o;
  memtables = λ t. subst (λ k. k ≤ 2 ^ 47)
      (sym (as_many_memtables x e a (no_memtable e n) t)) (h.memtables t);
  all = (let same = kept_below x (next_of x e) (as_many_memtables x e a (no_memtable e n)) 16 in
      let low = h.all in omega (arith, same, low));
}
  where
    by : (o : Order) → length (groups_of (next_of x e) o).tallies ≤ 2 ^ 47
    by Write = subst (λ k. k ≤ 2 ^ 47) (sym (as_many_tallies Write x.write e (no_group e n)))
        (h.groups Write)
    by Append = subst (λ k. k ≤ 2 ^ 47) (sym (as_many_tallies Append x.append e (no_group e n)))
        (h.groups Append)

-- A word tells what stands there.

bound_back : (b : BoundOf) → key_of_bound b < 2 ^ 62 → bound_in (bound_word b) ≡ b
bound_back Live l = refl
bound_back (Raising k) l = let n : ℕ = k.0 + 2 ^ 62 in
    let r : BoundOf = Raising (record { 0 = n - 2 ^ 62 }) in
    let f : BoundOf = Final (record { 0 = n - 2 ^ 63 }) in
    ap (λ (b : Bool). if b then Live else (if nat_lt n (2 ^ 63) then r else f))
    (ne_eqb n 0 (λ e. absurd (omega arith)))
    ∙ (ap (λ (b : Bool). if b then r else f) (lt-ltb n (2 ^ 63) (omega arith))
    ∙ ap (λ (m : ℕ). Raising (record { 0 = m })) (omega arith))
bound_back (Final k) l = let n : ℕ = k.0 + 2 ^ 63 in
    let r : BoundOf = Raising (record { 0 = n - 2 ^ 62 }) in
    let f : BoundOf = Final (record { 0 = n - 2 ^ 63 }) in
    ap (λ (b : Bool). if b then Live else (if nat_lt n (2 ^ 63) then r else f))
    (ne_eqb n 0 (λ e. absurd (omega arith)))
    ∙ (ap (λ (b : Bool). if b then r else f) (le-ltb n (2 ^ 63) (omega arith))
    ∙ ap (λ (m : ℕ). Final (record { 0 = m })) (omega arith))

-- how large the log key and the counts are
pub log_small : (x : PathState) → IsLawfulPath x → x.log < 2 ^ 62
log_small x L = let o = L.claims_tile_the_log.within_ordinals in
    let f = L.sized.limits.few_segments in omega arith

pub count_small : (x : PathState) → IsLawfulPath x → (o : Order) (g : ℕ)
    → running_of (tally_of x o g) ≤ 64
count_small x L o g = let c = (L.orders.counts_stand_for_seats o).counted g in
    let n = count_by-le-length (is_in o g) x.seats in let f = L.sized.limits.few_writers in
    omega arith

pub bound_read : (x : PathState) → IsLawfulPath x → (t : Table) (m : ℕ)
    → reading_at (Bound t m) (word_for (Bound t m) (reading x (Bound t m)))
    ≡ reading x (Bound t m)
bound_read x L t m = ap Limit
    (bound_back (memtable_of x t.0 m).bound
    (let b = (L.switches.tables t.0).bounds_rise.below_log m in let l = log_small x L in
    omega arith))

-- what is read at a place that is shown, from its word
pub read_back : (x : PathState) → IsLawfulPath x → HasRows x → (at : Place) → IsShown x at
    → reading_at at (word_for at (reading x at)) ≡ reading x at
read_back x L R (Count o g) l = let c = count_small x L o g in let few = R.groups o in
    let low = l.0 in
    ap Operations (tally_back g (tally_of x o g) (omega arith) (omega arith))
read_back x L R (Bound t m) l = bound_read x L t m
read_back x L R (Current o) l = refl
read_back x L R (Oldest o) l = refl
read_back x L R Log l = refl
read_back x L R (Newest t) l = refl
read_back x L R (TurnWord turn) l = refl
read_back x L R (CursorWord Synced) l = refl
read_back x L R (CursorWord Stopped) l = refl
read_back x L R (CursorWord (OldestLive t)) l = refl
