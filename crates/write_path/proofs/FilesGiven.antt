-- Each table file of a run came by a step that retired its memtable, where something was placed.
use Rattle.std.proofs.Common.{
  ◌≡◌,
  ◌==◌,
  ◌&&◌,
  ℕ,
  suc,
  ◌<◌,
  Bool,
  true,
  false,
  not,
  List,
  [],
  ◌∷◌,
  length,
  Option,
  Some,
  None,
  refl,
  sym,
  ap,
  ◌∙◌,
  subst,
  arith,
}
use Rattle.std.specs.List.{Contains, list_any}
use Rattle.std.proofs.lemmas.Bool.{and_parts, eqb-true, false≢true}
use Rattle.std.proofs.lemmas.List.{get_or_default}
use Rattle.std.proofs.lemmas.List.Elements.{Contains-append_right, Contains-push_cases}
use mathlib.Core.Logic.{inl, inr}
use Rattle.clog_base.specs.declared.cell.Table.{Table}
use Rattle.path_core.specs.declared.event.Cursor.TheVariants.{Synced, OldestLive, Stopped}
use Rattle.path_core.specs.declared.event.Event.{Event}
use Rattle.path_core.specs.declared.event.Event.TheVariants.{Put}
use Rattle.path_core.specs.declared.seat.Seat.{Seat}
use Rattle.path_core.specs.declared.state.PathState.{PathState}
use Rattle.path_core.specs.declared.state.Placed.{Placed}
use Rattle.path_core.specs.declared.state.WrittenFile.{WrittenFile}
use Rattle.path_core.specs.Allowed.{IsStep}
use Rattle.path_core.specs.Lawful.{IsLawfulPath}
use Rattle.path_core.specs.Next.{next_of}
use Rattle.path_core.specs.Parts.{
  HasPassedBarrier,
  fresh_seat,
  has_place,
  is_at,
  is_empty,
  is_placed_in,
  seat_of,
  seat_table,
  table_of,
}
use Rattle.path_core.specs.Runs.{Past}
use Rattle.path_core.proofs.files.Retires.{files_retired, next_file}
use Rattle.path_core.proofs.frame.Runs.{past_sizes}
use Rattle.path_core.proofs.lists.Passing.{any_to}
use Rattle.path_core.proofs.places.AtRest.{none_runs}
use Rattle.path_core.proofs.places.KeepsPlaces.{placed_stays}
use Rattle.path_core.proofs.runs.EveryRun.{core_of, past_lawful, placing_of}

-- ---- in a memtable that gets a file something is placed

at_some : (o : Option ℕ) (m : ℕ) → is_at o m ≡ true → o ≡ Some m
at_some None m is = absurd (false≢true is)
at_some (Some k) m is = ap Some (eqb-true k m is)

-- an entry is placed there
abbrev IsPlacedOne : PathState → ℕ → ℕ → Type 0
IsPlacedOne x t m =
    (entry : ℕ) × Contains x.placed (record { table = t; entry = entry; memtable = m })

module _ (x : PathState) (L : IsLawfulPath x) (t m : ℕ) (B : HasPassedBarrier x t m) where
  by_seats : (b : Bool) → list_any (has_place t m) x.seats ≡ b
      → list_any (is_placed_in t m) x.placed ≡ false → is_empty x t m ≡ false
      → IsPlacedOne x t m
  by_seats true is none filled = absurd (let s = any_to (has_place t m) x.seats is in
      let w = s.1.0 in
      let reads : seat_of x w ≡ s.0 = get_or_default x.seats w fresh_seat s.0 s.1.1 ∙ s.1.2 in
      none_runs x (placing_of x L) t m B w
      (ap (λ (z : Seat). (seat_table z t).place) reads ∙ at_some (seat_table s.0 t).place m s.2))
  by_seats false is none filled = absurd (false≢true (sym filled
      ∙ (λ i. not (none i) && not (is i))))

  by_placed : (b : Bool) → list_any (is_placed_in t m) x.placed ≡ b → is_empty x t m ≡ false
      → IsPlacedOne x t m
  by_placed true is filled = let p = any_to (is_placed_in t m) x.placed is in
      let q = and_parts (p.0.table == t) (p.0.memtable == m) p.2 in
      let table = eqb-true p.0.table t q.0 in let memtable = eqb-true p.0.memtable m q.1 in (
        p.0.entry,
        subst (λ (z : Placed). Contains x.placed z) (λ i. record {
          table = table i;
          entry = p.0.entry;
          memtable = memtable i;
        }) p.1,
      )
  by_placed false is filled = by_seats (list_any (has_place t m) x.seats) refl is filled

  one_placed : is_empty x t m ≡ false → IsPlacedOne x t m
  one_placed = by_placed (list_any (is_placed_in t m) x.placed) refl

-- ---- each file came by a step that retired its memtable

-- Of so many seats one made the step, and an entry is placed in the memtable.
pub record CameBy (count : ℕ) (events : List Event) (x : PathState) (f : WrittenFile) :
    Type 0 where
  pub by : ℕ
  pub inside : by < count
  pub table : Table
  pub of_table : table.0 ≡ f.table
  pub among : Contains events (Put by (OldestLive table) (suc f.memtable))
  pub entry : ℕ
  pub placed : Contains x.placed (record {
    table = table.0;
    entry = entry;
    memtable = f.memtable;
  })

module _ (x : PathState) (L : IsLawfulPath x) (es : List Event) (count : ℕ)
    (long : length x.seats ≡ count) where
  still_given : (e : Event) (f : WrittenFile) → CameBy count es x f
      → CameBy count (e ∷ es) (next_of x e) f
  still_given e f G = record {
    by = G.by;
    inside = G.inside;
    table = G.table;
    of_table = G.of_table;
    among = Contains-append_right (e ∷ []) es _ G.among;
    entry = G.entry;
    placed = placed_stays x (core_of x L) L.places e _ G.placed;
  }

  given_now : (by : ℕ) (table : Table) (value : ℕ)
      → IsStep x (Put by (OldestLive table) value)
      → is_empty x table.0 (table_of x table.0).oldest_live ≡ false
      → CameBy count (Put by (OldestLive table) value ∷ es)
      (next_of x (Put by (OldestLive table) value)) (next_file x table.0)
  given_now by table value a filled =
      let p = one_placed x L table.0 (table_of x table.0).oldest_live a.row.2 filled in record {
        by = by;
        inside = (let low = a.seat in omega arith);
        table = table;
        of_table = refl;
        among = (0, omega arith, ap (λ (n : ℕ). Put by (OldestLive table) n) a.row.1);
        entry = p.0;
        placed = placed_stays x (core_of x L) L.places (Put by (OldestLive table) value) _ p.1;
      }

  step_gives : (e : Event) → IsStep x e → (f : WrittenFile)
      → (Contains x.files f → CameBy count es x f) → Contains (next_of x e).files f
      → CameBy count (e ∷ es) (next_of x e) f
  step_gives (Put by (OldestLive table) value) a f old h =
      let e = Put by (OldestLive table) value in
      files_retired x by table value
      (λ fs. Contains fs f → CameBy count (e ∷ es) (next_of x e) f)
      (λ empty h. still_given e f (old h))
      (λ filled h. elim (Contains-push_cases x.files (next_file x table.0) f h) [
        | inl was ↦ still_given e f (old was)
        | inr new ↦ subst (λ (g : WrittenFile). CameBy count (e ∷ es) (next_of x e) g) new
            (given_now by table value a filled)
      ]) h
  step_gives (Put by Synced value) a f old h = still_given (Put by Synced value) f (old h)
  step_gives (Put by Stopped value) a f old h = still_given (Put by Stopped value) f (old h)
  step_gives e a f old h = still_given e f (old h)

pub files_given : (es : List Event) (start x : PathState) → IsLawfulPath start → start.files ≡ []
    → Past start es x → (f : WrittenFile) → Contains x.files f
    → CameBy (length start.seats) es x f
files_given [] start x law none past f h = absurd (let l = (subst
    (λ (fs : List WrittenFile). Contains fs f) (ap (λ (y : PathState). y.files) (sym past) ∙ none)
    h).1 in omega arith)
files_given (e ∷ es) start x law none past f h =
    subst (λ (y : PathState). Contains y.files f
    → CameBy (length start.seats) (e ∷ es) y f) past.4
    (step_gives past.0 (past_lawful es start past.0 law past.1) es (length start.seats)
    (past_sizes es start past.0 past.1).seats e past.3 f
    (files_given es start past.0 law none past.1 f)) h
