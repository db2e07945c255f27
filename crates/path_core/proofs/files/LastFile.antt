-- A table's last file, and where the interval of a retired memtable begins: what a step leaves.
use Rattle.std.proofs.Common.{
  ◌≡◌,
  ◌≢◌,
  ℕ,
  zero,
  suc,
  ◌≤◌,
  ◌==◌,
  List,
  ◌++◌,
  [],
  ◌∷◌,
  refl,
  sym,
  ap,
  ◌∙◌,
  subst,
  arith,
}
use Rattle.std.proofs.lemmas.Bool.{ne_eqb, eq-eqb, cond-true, cond-false}
use Rattle.std.proofs.lemmas.List.Sums.{fold_push}
use Rattle.clog_base.specs.declared.position.Key.{Key}
use Rattle.op_core.specs.declared.count.Order.TheVariants.{Write, Append}
use Rattle.path_core.specs.declared.event.Cursor.TheVariants.{Synced, OldestLive, Stopped}
use Rattle.path_core.specs.declared.event.Event.{Event}
use Rattle.path_core.specs.declared.event.Event.TheVariants.{
  MoveCurrent,
  Switch,
  Raise,
  Finalise,
  Put,
}
use Rattle.path_core.specs.declared.event.SwitchPart.TheVariants.{Clear, Open, Mark}
use Rattle.path_core.specs.declared.state.Bound.TheVariants.{Final}
use Rattle.path_core.specs.declared.state.PathState.{PathState}
use Rattle.path_core.specs.declared.state.WrittenFile.{WrittenFile}
use Rattle.path_core.specs.Parts.{
  fresh_table,
  seat_of,
  table_of,
  memtable_of,
  key_of_bound,
  last_upper,
}
use Rattle.path_core.specs.Allowed.{IsStep}
use Rattle.path_core.specs.Next.{next_of}
use Rattle.path_core.specs.History.{bound_before}
use Rattle.path_core.specs.Lawful.{IsLawfulPlacing, IsLawfulLog}
use Rattle.path_core.specs.LawfulTables.{MemtablesAre}
use Rattle.path_core.proofs.lists.Replaced.{put_at}
use Rattle.path_core.proofs.files.Retires.{Retires}
use Rattle.path_core.proofs.tables.TableBounds.{final_at}
use Rattle.path_core.proofs.tables.WithBarriers.{barred_at}
use Rattle.path_core.proofs.places.TableMoves.{table_moves}

-- a step that retires no memtable leaves each table's oldest live one
pub oldest_same : (x : PathState) (e : Event) → IsStep x e → (Retires e → ⊥) → (t : ℕ)
    → (table_of (next_of x e) t).oldest_live ≡ (table_of x t).oldest_live
oldest_same x (MoveCurrent by Write group) a other t =
    barred_at x.write.current (seat_of x by).tables x.tables
    (λ tb. tb.oldest_live ≡ (table_of x t).oldest_live) t refl refl
oldest_same x (MoveCurrent by Append group) a other t = refl
oldest_same x (Switch by table m Clear) a other t = refl
oldest_same x (Switch by table m Open) a other t =
    put_at x.tables table.0 _ fresh_table a.is_there
    (λ u tb. tb.oldest_live ≡ (table_of x u).oldest_live) refl (λ _ _. refl) t
oldest_same x (Switch by table m Mark) a other t =
    put_at x.tables table.0 _ fresh_table a.is_there.0
    (λ u tb. tb.oldest_live ≡ (table_of x u).oldest_live) refl (λ _ _. refl) t
oldest_same x (Raise by table m to) a other t =
    put_at x.tables table.0 _ fresh_table a.is_there.0
    (λ u tb. tb.oldest_live ≡ (table_of x u).oldest_live) refl (λ _ _. refl) t
oldest_same x (Finalise by table m) a other t =
    put_at x.tables table.0 _ fresh_table a.is_there.0
    (λ u tb. tb.oldest_live ≡ (table_of x u).oldest_live) refl (λ _ _. refl) t
oldest_same x (Put by (OldestLive table) value) a other t = absurd (other tt)
oldest_same x (Put by Synced value) a other t = refl
oldest_same x (Put by Stopped value) a other t = refl
oldest_same x e a other t = refl

-- a new file is its table's last one
pub last_is_new : (files : List WrittenFile) (f : WrittenFile)
    → last_upper (files ++ f ∷ []) f.table ≡ f.upper
last_is_new files f = fold_push _ 0 files f ∙ cond-true (f.table == f.table) _ _
    (eq-eqb f.table f.table refl)

-- it leaves the last ones of the other tables
pub last_is_old : (files : List WrittenFile) (f : WrittenFile) (t : ℕ) → f.table ≢ t
    → last_upper (files ++ f ∷ []) t ≡ last_upper files t
last_is_old files f t other = fold_push _ 0 files f ∙ cond-false (f.table == t) _ _
    (ne_eqb f.table t other)

module _ (x : PathState) (Z : IsLawfulPlacing x) where
  abbrev L : IsLawfulLog x
  L = Z.core.log

  -- what is known of a table's memtables
  abbrev memtables : (t : ℕ) → MemtablesAre x.log (table_of x t)
  memtables t = Z.core.switches.tables t

  -- a final bound stays
  pub final_stays : (e : Event) → IsStep x e → (t m : ℕ) (u : Key)
      → (memtable_of x t m).bound ≡ Final u → (memtable_of (next_of x e) t m).bound ≡ Final u
  final_stays e a t m u is =
      (table_moves x L.sized L.claims_tile_the_log L.orders Z.core.switches e a t).finals m u is

  -- the oldest live memtable of a table never falls
  pub oldest_grows : (e : Event) → IsStep x e → (t : ℕ)
      → (table_of x t).oldest_live ≤ (table_of (next_of x e) t).oldest_live
  oldest_grows (Put by (OldestLive table) value) a t = put_at x.tables table.0 _ fresh_table
      a.is_there (λ u tb. (table_of x u).oldest_live ≤ tb.oldest_live)
      (let v = a.row.1 in omega arith) (λ _ _. omega arith) t
  oldest_grows (Put by Synced value) a t = omega arith
  oldest_grows (Put by Stopped value) a t = omega arith
  oldest_grows e a t = let s = oldest_same x e a (λ b. b) t in omega arith

  -- the interval of a retired memtable, and of the next one, begins where it did
  pub before_stays : (e : Event) → IsStep x e → (t m : ℕ) → m ≤ (table_of x t).oldest_live
      → bound_before (next_of x e) t m ≡ bound_before x t m
  before_stays e a t zero low = refl
  before_stays e a t (suc k) low =
      let f = final_at _ ((memtables t).retired_is_final k (omega arith)) in
      ap key_of_bound (final_stays e a t k f.0 f.1) ∙ sym (ap key_of_bound f.1)

  -- the interval of a final memtable begins at or below its bound
  pub before_below : (t m : ℕ) (u : Key) → m ≤ (table_of x t).oldest_live
      → (memtable_of x t m).bound ≡ Final u → bound_before x t m ≤ u.0
  before_below t zero u low is = omega arith
  before_below t (suc k) u low is =
      let f = final_at _ ((memtables t).retired_is_final k (omega arith)) in
      subst (λ b. key_of_bound b ≤ u.0) (sym f.1)
      ((memtables t).bounds_rise.rise k (suc k) f.0 u (omega arith) f.1 is)
