-- What a seat found of memtables, and what it retired, stays so at each step, and a further step of
-- the seat tells the like.
use Rattle.std.proofs.Common.{◌≡◌, ℕ, suc, ◌+◌, ◌*◌, ◌<◌, ◌≤◌, ◌^◌, Bool, true, false, not, List}
use Rattle.std.proofs.Common.{Option, Some, None, is_some, [], ◌∷◌, sym, ap, ◌∙◌, subst, refl}
use Rattle.std.proofs.Common.{⊎_elim, arith, get_or-set_same}
use Rattle.std.specs.List.{Contains}
use Rattle.std.proofs.lemmas.Bool.{false≢true}
use Rattle.std.proofs.lemmas.List.Elements.{Contains-push}
use mathlib.Core.Logic.{inl, inr}
use Rattle.clog_base.specs.declared.cell.Table.{Table}
use Rattle.clog_base.specs.declared.position.Key.{Key}
use Rattle.path_core.specs.declared.event.Cursor.{Cursor}
use Rattle.path_core.specs.declared.event.Cursor.TheVariants.{Synced, OldestLive, Stopped}
use Rattle.path_core.specs.declared.event.Event.{Event}
use Rattle.path_core.specs.declared.event.Event.TheVariants.{Look, Finalise, Put}
use Rattle.path_core.specs.declared.event.Place.{Place}
use Rattle.path_core.specs.declared.event.Place.TheVariants.{Bound, Count, Current, CursorWord, Log}
use Rattle.path_core.specs.declared.event.Place.TheVariants.{Newest, Oldest, TurnWord}
use Rattle.path_core.specs.declared.state.Bound.{Bound as BoundOf}
use Rattle.path_core.specs.declared.state.Bound.TheVariants.{Live, Raising, Final}
use Rattle.path_core.specs.declared.state.Memtable.{Memtable}
use Rattle.path_core.specs.declared.state.PathState.{PathState}
use Rattle.path_core.specs.declared.state.TableState.{TableState}
use Rattle.path_core.specs.declared.state.WrittenFile.{WrittenFile}
use Rattle.path_core.specs.Allowed.{IsStep}
use Rattle.path_core.specs.Lawful.{IsLawfulPath, IsLawfulPlacing}
use Rattle.path_core.specs.Next.{gives_file, next_of, with_bound, with_memtable}
use Rattle.path_core.specs.Parts.{fresh_memtable, fresh_table, is_empty, key_of_bound, last_upper}
use Rattle.path_core.specs.Parts.{memtable_at, memtable_of, table_of}
use Rattle.path_core.specs.SeatParts.{made_final}
use Rattle.path_core.specs.Words.{reading}
use Rattle.path_core.proofs.files.KeepsLast.{new_is_retired}
use Rattle.path_core.proofs.files.LastFile.{final_stays, oldest_grows}
use Rattle.path_core.proofs.files.RetiredStay.{not_empty, placed_before}
use Rattle.path_core.proofs.files.Retires.{files_retired, next_file}
use Rattle.path_core.proofs.log.LoggedStay.{files_stay}
use Rattle.path_core.proofs.places.TableMoves.{table_moves}
use Rattle.path_core.proofs.runs.EveryRun.{placing_of}
use Rattle.path_rule.specs.declared.view.OwnStep.{OwnStep}
use Rattle.path_rule.specs.Finds.{Finds, FindsBy}
use Rattle.path_rule.specs.FindsBounds.{FindsFinalBy, Retires, RetiresBy}
use Rattle.path_rule.specs.Layout.{bound_word, word_at, word_for}
use Rattle.path_rule.specs.Trails.{HasFileFrom, HoldsSome}
use Rattle.path_rule.proofs.log.RestsEmpty.{holds_some, rests_empty, retired_passed}
use Rattle.path_rule.proofs.moves.LeavesWrites.{placed_stays}
use Rattle.path_rule.proofs.places.ReadBack.{log_small}

-- A seat gave a table file of a table's least memtable exactly where that is not empty, and the
-- file begins where the table's last file ends.
abbrev pub GaveTrue : PathState → Event → ℕ → Option ℕ → Type 0
GaveTrue x e t filed = (is_some filed ≡ gives_file x e)
    × ((lower : ℕ) → filed ≡ Some lower → lower ≡ last_upper x.files t)

-- What a seat was told at a step is so: at a look, and where it makes a memtable final, what stood
-- there; where it retires one, whether that gives a table file, and above which key that begins.
abbrev pub ToldTrue : PathState → Event → ℕ → Option ℕ → Type 0
ToldTrue x (Look by at) found filed = found ≡ word_for at (reading x at)
ToldTrue x (Finalise by t m) found filed = found ≡ bound_word (memtable_of x t.0 m).bound
ToldTrue x (Put by (OldestLive t) value) found filed =
    GaveTrue x (Put by (OldestLive t) value) t.0 filed
ToldTrue x _ found filed = Unit {0}

-- A word of a final bound stands for that one alone, among bounds below the marks.
final_is : (b : BoundOf) (key : ℕ) → key_of_bound b < 2 ^ 62
    → bound_word b ≡ bound_word (Final (record { 0 = key })) → b ≡ Final (record { 0 = key })
final_is Live key small e = let is : 0 ≡ key + 2 ^ 63 = e in absurd (omega arith)
final_is (Raising k) key small e = let is : k.0 + 2 ^ 62 ≡ key + 2 ^ 63 = e in
    absurd (omega arith)
final_is (Final k) key small e = let is : k.0 + 2 ^ 63 ≡ key + 2 ^ 63 = e in
    ap (λ (n : ℕ). Final (record { 0 = n })) (omega arith)

-- a memtable that the seat retired is one that it put the next one behind
pub finds_next : (t : Table) (m : ℕ) (gave : Option ℕ) (ts : List OwnStep) → Retires t m gave ts
    → Finds (CursorWord (OldestLive t)) (suc m) ts
finds_next t m gave [] R = absurd R
finds_next t m gave (s ∷ ss) R = ⊎_elim (λ now. inl (by s.event s.found s.filed now))
    (λ old. inr (finds_next t m gave ss old)) R
  where
    by : (e : Event) (found : ℕ) (filed : Option ℕ) → RetiresBy t m gave e filed
        → FindsBy (CursorWord (OldestLive t)) (suc m) e found
    by (Put w cursor value) found filed F = (ap (λ (c : Cursor). CursorWord c) F.0, F.1)
    by e found filed F = absurd F

-- the word of the least memtable that is not retired tells its table
same_table : (u t : Table) → CursorWord (OldestLive u) ≡ CursorWord (OldestLive t) → u.0 ≡ t.0
same_table u t e = let is : 66 + 4 * u.0 ≡ 66 + 4 * t.0 = ap word_at e in omega arith

module _ (x : PathState) (L : IsLawfulPath x) where
  abbrev Z : IsLawfulPlacing x
  Z = placing_of x L

  bound_small : (t m : ℕ) → key_of_bound (memtable_of x t m).bound < 2 ^ 62
  bound_small t m = let b = (L.switches.tables t).bounds_rise.below_log m in
      let l = log_small x L in omega arith

  -- ---- what stays

  module _ (e : Event) (a : IsStep x e) where
    pub final_still : (t m key : ℕ) → (memtable_of x t m).bound ≡ Final (record { 0 = key })
        → (memtable_of (next_of x e) t m).bound ≡ Final (record { 0 = key })
    final_still t m key is = final_stays x Z e a t m (record { 0 = key }) is

    pub retired_still : (t n : ℕ) → n ≤ (table_of x t).oldest_live
        → n ≤ (table_of (next_of x e) t).oldest_live
    retired_still t n low = let up = oldest_grows x Z e a t in omega arith

    pub newest_still : (t m : ℕ) → m ≤ (table_of x t).newest → m ≤ (table_of (next_of x e) t).newest
    newest_still t m low = let up =
        (table_moves x L.sized L.claims_tile_the_log L.orders L.switches e a t).newest in
        omega (arith, low, up)

    pub filed_still : (t m from : ℕ) → HasFileFrom x t m from → HasFileFrom (next_of x e) t m from
    filed_still t m from H = record {
      file = H.file;
      among = files_stay x e H.file H.among;
      table = H.table;
      memtable = H.memtable;
      lower = H.lower;
      upper = final_stays x Z e a t m _ H.upper;
    }

    pub filled_still : (t m : ℕ) → HoldsSome x t m → HoldsSome (next_of x e) t m
    filled_still t m H = record {
      entry = H.entry;
      placed = placed_stays x e (record { table = t; entry = H.entry; memtable = m }) H.placed;
    }

    -- a memtable that is retired stays empty, since nothing is placed in it any more
    pub emptied_still : IsLawfulPath (next_of x e) → (t m : ℕ)
        → suc m ≤ (table_of x t).oldest_live → is_empty x t m ≡ true
        → is_empty (next_of x e) t m ≡ true
    emptied_still N t m low empty = let still = retired_still t (suc m) low in
        rests_empty (next_of x e) N t m (retired_passed (next_of x e) N t m (omega arith))
        (λ entry h. not_empty x Z t m entry (placed_before x Z e t m entry (omega arith) h) empty)

  -- ---- what a step tells

  -- a memtable that is made final was raising, and has the bound that it had
  was_raising : (by : ℕ) (u : Table) (k : ℕ) → IsStep x (Finalise by u k)
      → (b : Key) × ((memtable_of x u.0 k).bound ≡ Raising b)
  was_raising by u k a = let M = L.switches.marked by u.0 _ a.row.marked in (M.bound, M.raising)

  now_final : (by : ℕ) (u : Table) (k : ℕ) → IsStep x (Finalise by u k)
      → (memtable_of (next_of x (Finalise by u k)) u.0 k).bound
      ≡ made_final (memtable_of x u.0 k).bound
  now_final by u k a = ap (λ (tb : TableState). (memtable_at tb k).bound)
      (get_or-set_same x.tables u.0
      (with_memtable (table_of x u.0) k (with_bound made_final)) fresh_table a.is_there.0)
      ∙ ap (λ (mt : Memtable). mt.bound) (get_or-set_same (table_of x u.0).memtables k
      (with_bound made_final (memtable_of x u.0 k)) fresh_memtable a.is_there.1)

  module _ (found : ℕ) (filed : Option ℕ) where
    pub new_final : (e : Event) → IsStep x e → ToldTrue x e found filed → (t m key : ℕ)
        → FindsFinalBy t m key e found
        → (memtable_of (next_of x e) t m).bound ≡ Final (record { 0 = key })
    new_final (Look by (Bound u k)) a told t m key F = subst
        (λ (y : ℕ × ℕ). (memtable_of x y.0 y.1).bound ≡ Final (record { 0 = key }))
        (λ i. (F.0 i, F.1 i))
        (final_is (memtable_of x u.0 k).bound key (bound_small u.0 k) (sym told ∙ F.2))
    new_final (Finalise by u k) a told t m key F = subst
        (λ (y : ℕ × ℕ).
        (memtable_of (next_of x (Finalise by u k)) y.0 y.1).bound ≡ Final (record { 0 = key }))
        (λ i. (F.0 i, F.1 i))
        (let R = was_raising by u k a in
        let is : R.0.0 + 2 ^ 62 ≡ key + 2 ^ 62 = sym (ap bound_word R.1) ∙ (sym told ∙ F.2) in
        now_final by u k a ∙ (ap made_final R.1
        ∙ ap (λ (n : ℕ). Final (record { 0 = n })) (omega arith)))
    new_final (Look by (Count o g)) a told t m key F = absurd F
    new_final (Look by (Current o)) a told t m key F = absurd F
    new_final (Look by (Oldest o)) a told t m key F = absurd F
    new_final (Look by Log) a told t m key F = absurd F
    new_final (Look by (Newest u)) a told t m key F = absurd F
    new_final (Look by (TurnWord turn)) a told t m key F = absurd F
    new_final (Look by (CursorWord c)) a told t m key F = absurd F
    new_final e a told t m key F = absurd F

    pub new_retired : (e : Event) → IsStep x e → ToldTrue x e found filed → (t : Table) (n : ℕ)
        → FindsBy (CursorWord (OldestLive t)) n e found
        → n ≤ (table_of (next_of x e) t.0).oldest_live
    new_retired (Look by at) a told t n F =
        let is : found ≡ (table_of x t.0).oldest_live =
        told ∙ ap (λ (q : Place). word_for q (reading x q)) F.0 in
        let same = F.1 in omega arith
    new_retired (Put by (OldestLive u) value) a told t n F = subst
        (λ (k : ℕ). n ≤ (table_of (next_of x (Put by (OldestLive u) value)) k).oldest_live)
        (same_table u t F.0)
        (let up : (table_of (next_of x (Put by (OldestLive u) value)) u.0).oldest_live ≡ value =
        ap (λ (tb : TableState). tb.oldest_live) (get_or-set_same x.tables u.0
        (record (table_of x u.0) { oldest_live = value }) fresh_table a.is_there) in
        let same = F.1 in omega arith)
    new_retired (Put by Synced value) a told t n F = absurd (let q = F.0 in cc)
    new_retired (Put by Stopped value) a told t n F = absurd (let q = F.0 in cc)
    new_retired e a told t n F = absurd F

    pub new_newest : (e : Event) → IsStep x e → ToldTrue x e found filed → (t : Table) (m : ℕ)
        → FindsBy (Newest t) m e found → m ≤ (table_of (next_of x e) t.0).newest
    new_newest (Look by at) a told t m F =
        let is : found ≡ (table_of x t.0).newest =
        told ∙ ap (λ (q : Place). word_for q (reading x q)) F.0 in
        let same = F.1 in omega arith
    new_newest (Put by cursor value) a told t m F = absurd (let q = F.0 in cc)
    new_newest e a told t m F = absurd F

    -- the retired memtable is the least that was not
    was_least : (by : ℕ) (u : Table) (value : ℕ) → IsStep x (Put by (OldestLive u) value)
        → (m : ℕ) → value ≡ suc m → (table_of x u.0).oldest_live ≡ m
    was_least by u value a m is = let up = a.row.1 in omega arith

    pub new_filed : (e : Event) → IsStep x e → ToldTrue x e found filed → (t : Table) (m : ℕ)
        (lower : ℕ) → RetiresBy t m (Some lower) e filed → HasFileFrom (next_of x e) t.0 m lower
    new_filed (Put by (OldestLive u) value) a told t m lower F = subst
        (λ (y : ℕ × ℕ). HasFileFrom (next_of x (Put by (OldestLive u) value)) y.0 y.1 lower)
        (λ i. (
          same_table u t (ap (λ (c : Cursor). CursorWord c) F.0) i,
          was_least by u value a m F.1 i,
        )) (record {
          file = next_file x u.0;
          among = files_retired x by u value (λ (fs : List WrittenFile).
              Contains fs (next_file x u.0))
              (λ empty. absurd (false≢true (sym (ap not empty) ∙ (sym told.0 ∙ ap is_some F.2))))
              (λ _. Contains-push x.files (next_file x u.0));
          table = refl;
          memtable = refl;
          lower = sym (told.1 lower F.2);
          upper = (new_is_retired x Z L.last_file_is_retired by u value a).upper;
        })
    new_filed (Put by Synced value) a told t m lower F = absurd (let q = F.0 in cc)
    new_filed (Put by Stopped value) a told t m lower F = absurd (let q = F.0 in cc)
    new_filed e a told t m lower F = absurd F

    pub new_filled : (e : Event) → IsStep x e → ToldTrue x e found filed → (t : Table) (m : ℕ)
        (lower : ℕ) → RetiresBy t m (Some lower) e filed → HoldsSome (next_of x e) t.0 m
    new_filled (Put by (OldestLive u) value) a told t m lower F = subst
        (λ (y : ℕ × ℕ). HoldsSome (next_of x (Put by (OldestLive u) value)) y.0 y.1)
        (λ i. (
          same_table u t (ap (λ (c : Cursor). CursorWord c) F.0) i,
          was_least by u value a m F.1 i,
        ))
        (let some_there = holds_some x L u.0 (table_of x u.0).oldest_live a.row.2
        (is_false (is_empty x u.0 (table_of x u.0).oldest_live) (sym told.0 ∙ ap is_some F.2)) in
        record { entry = some_there.entry; placed = some_there.placed })
      where
        is_false : (b : Bool) → not b ≡ true → b ≡ false
        is_false true e = absurd (false≢true e)
        is_false false e = refl
    new_filled (Put by Synced value) a told t m lower F = absurd (let q = F.0 in cc)
    new_filled (Put by Stopped value) a told t m lower F = absurd (let q = F.0 in cc)
    new_filled e a told t m lower F = absurd F

    pub new_emptied : (e : Event) → IsStep x e → IsLawfulPath (next_of x e)
        → ToldTrue x e found filed → (t : Table) (m : ℕ) → RetiresBy t m None e filed
        → is_empty (next_of x e) t.0 m ≡ true
    new_emptied (Put by (OldestLive u) value) a N told t m F =
        let y = next_of x (Put by (OldestLive u) value) in
        let up : suc m ≤ (table_of y t.0).oldest_live =
        new_retired (Put by (OldestLive u) value) a told t (suc m)
        (ap (λ (c : Cursor). CursorWord c) F.0, F.1) in
        rests_empty y N t.0 m (retired_passed y N t.0 m (omega arith))
        (subst (λ (q : ℕ × ℕ). (entry : ℕ)
        → Contains x.placed (record { table = q.0; entry = entry; memtable = q.1 }) → ⊥)
        (λ i. (
          same_table u t (ap (λ (c : Cursor). CursorWord c) F.0) i,
          was_least by u value a m F.1 i,
        ))
        (λ entry h. not_empty x Z u.0 (table_of x u.0).oldest_live entry h
        (is_true (is_empty x u.0 (table_of x u.0).oldest_live) (sym told.0 ∙ ap is_some F.2))))
      where
        is_true : (b : Bool) → not b ≡ false → b ≡ true
        is_true true e = refl
        is_true false e = absurd (false≢true (sym e))
    new_emptied (Put by Synced value) a N told t m F = absurd (let q = F.0 in cc)
    new_emptied (Put by Stopped value) a N told t m F = absurd (let q = F.0 in cc)
    new_emptied e a N told t m F = absurd F
