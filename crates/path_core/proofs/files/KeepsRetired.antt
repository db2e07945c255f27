-- A retired memtable has a passed barrier, and what was placed in it is in its file; the files of a
-- table follow one another. Each allowed step keeps it.
use Rattle.std.proofs.Common.{ℕ, ◌<◌, ◌≤◌, length, refl, sym, ap, subst, arith}
use Rattle.std.specs.List.{Contains, filter}
use Rattle.std.proofs.lemmas.List.Elements.{Contains-push}
use mathlib.Core.Logic.{inl, inr}
use Rattle.clog_base.specs.declared.cell.Table.{Table}
use Rattle.path_core.specs.declared.event.Cursor.TheVariants.{Synced, OldestLive, Stopped}
use Rattle.path_core.specs.declared.event.Event.{Event}
use Rattle.path_core.specs.declared.event.Event.TheVariants.{Put}
use Rattle.path_core.specs.declared.state.PathState.{PathState}
use Rattle.path_core.specs.Parts.{table_of, last_upper, HasPassedBarrier}
use Rattle.path_core.specs.Allowed.{IsStep}
use Rattle.path_core.specs.Next.{next_of}
use Rattle.path_core.specs.Lawful.{IsLawfulLog, IsLawfulPlacing}
use Rattle.path_core.specs.LawfulTables.{
  is_file_of,
  FollowFrom,
  HasFile,
  RetiredAreFiled,
  LastFiles,
}
use Rattle.path_core.proofs.runs.Sizes.{as_many_tables}
use Rattle.path_core.proofs.orders.GroupsMove.{passed_stays}
use Rattle.path_core.proofs.files.Retires.{files_same, next_file, files_retired}
use Rattle.path_core.proofs.files.LastFile.{oldest_same, before_stays}
use Rattle.path_core.proofs.files.KeepsLast.{next_rises, new_is_retired}
use Rattle.path_core.proofs.files.RetiredStay.{
  follow_push,
  retired_by,
  not_empty,
  file_stays,
  placed_before,
}

module _ (x : PathState) (Z : IsLawfulPlacing x) where
  abbrev L : IsLawfulLog x
  L = Z.core.log

  module _ (F : LastFiles x) (R : RetiredAreFiled x) where
    -- what was placed in a memtable that was retired before has its file still
    old_filed : (e : Event) → IsStep x e → (t m entry : ℕ) → t < length x.tables
        → m < (table_of x t).oldest_live
        → Contains (next_of x e).placed (record { table = t; entry = entry; memtable = m })
        → HasFile (next_of x e) t m
    old_filed e a t m entry inside old h = file_stays x Z e a t m old
        ((R.each t m inside old).filed entry (placed_before x Z e t m entry old h))

    -- a memtable that is retired with something in it has its file now
    new_filed : (by : ℕ) (table : Table) (value : ℕ) → (a : IsStep x
        (Put by (OldestLive table) value)) → (entry : ℕ)
        → Contains x.placed (record {
          table = table.0;
          entry = entry;
          memtable = (table_of x table.0).oldest_live;
        })
        → HasFile (next_of x (Put by (OldestLive table) value)) table.0
        (table_of x table.0).oldest_live
    new_filed by table value a entry h = let m = (table_of x table.0).oldest_live in record {
      file = next_file x table.0;
      among = files_retired x by table value (λ fs. Contains fs (next_file x table.0))
          (λ empty. absurd (not_empty x Z table.0 m entry h empty))
          (λ _. Contains-push x.files (next_file x table.0));
      table = refl;
      memtable = refl;
      lower = subst (λ k. (next_file x table.0).lower ≤ k)
          (sym (before_stays x Z (Put by (OldestLive table) value) a table.0 m (omega arith)))
          (F.below table.0 a.is_there);
      upper = (new_is_retired x Z F by table value a).upper;
    }

    -- what was placed in a retired memtable has its file
    filed : (e : Event) → IsStep x e → (t m : ℕ) → t < length x.tables
        → m < (table_of (next_of x e) t).oldest_live → (entry : ℕ)
        → Contains (next_of x e).placed (record { table = t; entry = entry; memtable = m })
        → HasFile (next_of x e) t m
    filed (Put by (OldestLive table) value) a t m inside l entry h =
        elim (retired_by x Z by table value a t m l) [
          | inl old ↦ old_filed (Put by (OldestLive table) value) a t m entry inside old h
          | inr now ↦ subst (λ k. HasFile (next_of x (Put by (OldestLive table) value)) k m)
              (sym now.0) (subst (λ k. HasFile (next_of x (Put by (OldestLive table) value))
              table.0 k) (sym now.1) (new_filed by table value a entry
              (subst (λ k. Contains x.placed (record {
                table = table.0;
                entry = entry;
                memtable = k;
              })) now.1 (subst (λ k. Contains x.placed (record {
                table = k;
                entry = entry;
                memtable = m;
              })) now.0 h))))
        ]
    filed (Put by Synced value) a t m inside l entry h =
        old_filed (Put by Synced value) a t m entry inside l h
    filed (Put by Stopped value) a t m inside l entry h =
        old_filed (Put by Stopped value) a t m entry inside l h
    filed e a t m inside l entry h = old_filed e a t m entry inside
        (subst (λ k. m < k) (oldest_same x e a (λ b. b) t) l) h

    -- a retired memtable's barrier is passed
    passed : (e : Event) → IsStep x e → (t m : ℕ) → t < length x.tables
        → m < (table_of (next_of x e) t).oldest_live → HasPassedBarrier (next_of x e) t m
    passed (Put by (OldestLive table) value) a t m inside l =
        passed_stays x L.orders (Put by (OldestLive table) value) a t m
        (elim (retired_by x Z by table value a t m l) [
          | inl old ↦ (R.each t m inside old).passed
          | inr now ↦ subst (λ k. HasPassedBarrier x k m) (sym now.0)
              (subst (λ k. HasPassedBarrier x table.0 k) (sym now.1) a.row.2)
        ])
    passed (Put by Synced value) a t m inside l =
        passed_stays x L.orders (Put by Synced value) a t m (R.each t m inside l).passed
    passed (Put by Stopped value) a t m inside l =
        passed_stays x L.orders (Put by Stopped value) a t m (R.each t m inside l).passed
    passed e a t m inside l = passed_stays x L.orders e a t m
        (R.each t m inside (subst (λ k. m < k) (oldest_same x e a (λ b. b) t) l)).passed

    -- the files follow one another
    follows : (e : Event) → IsStep x e → (t : ℕ)
        → FollowFrom 0 (filter (is_file_of t) (next_of x e).files)
    follows (Put by (OldestLive table) value) a t = files_retired x by table value
        (λ fs. FollowFrom 0 (filter (is_file_of t) fs)) (λ _. R.follow t)
        (λ _. follow_push t 0 x.files (next_file x table.0) (R.follow t)
        (λ is. (ap (last_upper x.files) is, next_rises x Z F by table value a)))
    follows (Put by Synced value) a t = R.follow t
    follows (Put by Stopped value) a t = R.follow t
    follows e a t = subst (λ fs. FollowFrom 0 (filter (is_file_of t) fs))
        (sym (files_same x e (λ b. b))) (R.follow t)

    -- Each allowed step keeps that retired memtables are filed.
    pub keeps_retired : (e : Event) → IsStep x e → IsLawfulPlacing (next_of x e)
        → RetiredAreFiled (next_of x e)
    keeps_retired e a N = record {
      each = λ t m inside l. let here = subst (λ k. t < k) (as_many_tables x e) inside in record {
        final = (N.core.switches.tables t).retired_is_final m l;
        passed = passed e a t m here l;
        none_below = N.places.none_below t m l;
        filed = filed e a t m here l;
      };
      follow = follows e a;
    }
