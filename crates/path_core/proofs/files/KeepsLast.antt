-- Each file ends at the bound of a retired memtable, and begins at or below its interval: each
-- allowed step keeps it.
use Rattle.std.proofs.Common.{◌≡◌, ◌≢◌, ℕ, ◌<◌, ◌≤◌, length, refl, sym, ap, ◌∙◌, subst, arith}
use Rattle.std.specs.List.{Contains}
use Rattle.std.proofs.lemmas.List.Elements.{Contains-push_cases}
use mathlib.Core.Logic.{inl, inr}
use Rattle.clog_base.specs.declared.cell.Table.{Table}
use Rattle.clog_base.specs.declared.position.Key.{Key}
use Rattle.path_core.specs.declared.event.Cursor.TheVariants.{Synced, OldestLive, Stopped}
use Rattle.path_core.specs.declared.event.Event.{Event}
use Rattle.path_core.specs.declared.event.Event.TheVariants.{Put}
use Rattle.path_core.specs.declared.state.Bound.TheVariants.{Final}
use Rattle.path_core.specs.declared.state.PathState.{PathState}
use Rattle.path_core.specs.declared.state.WrittenFile.{WrittenFile}
use Rattle.path_core.specs.Parts.{fresh_table, table_of, memtable_of, key_of_bound, last_upper}
use Rattle.path_core.specs.Allowed.{IsStep}
use Rattle.path_core.specs.Next.{next_of}
use Rattle.path_core.specs.History.{bound_below, bound_before}
use Rattle.path_core.specs.Lawful.{IsLawfulPlacing, IsLawfulLog}
use Rattle.path_core.specs.LawfulTables.{MemtablesAre, FileIsOfRetired, LastFiles, FilesBegin}
use Rattle.path_core.proofs.lists.Replaced.{put_at}
use Rattle.path_core.proofs.files.Retires.{Retires, files_same, next_file, files_retired}
use Rattle.path_core.proofs.tables.TableBounds.{final_at}
use Rattle.path_core.proofs.runs.Sizes.{as_many_tables}
use Rattle.path_core.proofs.files.LastFile.{
  oldest_same,
  last_is_new,
  last_is_old,
  final_stays,
  oldest_grows,
  before_stays,
  before_below,
}

module _ (x : PathState) (Z : IsLawfulPlacing x) where
  abbrev L : IsLawfulLog x
  L = Z.core.log

  -- what is known of a table's memtables
  abbrev memtables : (t : ℕ) → MemtablesAre x.log (table_of x t)
  memtables t = Z.core.switches.tables t

  module _ (F : LastFiles x) where
    -- the memtable of a file stays retired
    still_retired : (e : Event) → IsStep x e → (f : WrittenFile) → FileIsOfRetired x f
        → FileIsOfRetired (next_of x e) f
    still_retired e a f I = record {
      table = subst (λ k. f.table < k) (sym (as_many_tables x e)) I.table;
      retired = let g = oldest_grows x Z e a f.table in let l = I.retired in omega arith;
      upper = final_stays x Z e a f.table f.memtable _ I.upper;
    }

    -- a step that retires no memtable leaves where files end
    still : (e : Event) → IsStep x e → (Retires e → ⊥) → LastFiles (next_of x e)
    still e a other = record {
      below = λ t inside.
          subst (λ fs. last_upper fs t ≤ bound_before (next_of x e) t
          (table_of (next_of x e) t).oldest_live) (sym (files_same x e other))
          (subst (λ k. last_upper x.files t ≤ bound_before (next_of x e) t k)
          (sym (oldest_same x e a other t))
          (subst (λ k. last_upper x.files t ≤ k)
          (sym (before_stays x Z e a t (table_of x t).oldest_live (omega arith)))
          (F.below t (subst (λ k. t < k) (as_many_tables x e) inside))));
      each = λ f h. still_retired e a f
          (F.each f (subst (λ fs. Contains fs f) (files_same x e other) h));
    }

    module _ (by : ℕ) (table : Table) (value : ℕ)
        (a : IsStep x (Put by (OldestLive table) value)) where
      abbrev e : Event
      e = Put by (OldestLive table) value

      abbrev m : ℕ
      m = (table_of x table.0).oldest_live

      -- the memtable is final
      final : (u : Key) × ((memtable_of x table.0 m).bound ≡ Final u)
      final = final_at _ ((memtables table.0).barrier_means_final m a.row.2.group a.row.2.issued)

      -- it is retired now, and a file that it gets ends at its bound
      pub new_is_retired : FileIsOfRetired (next_of x e) (next_file x table.0)
      new_is_retired = record {
        table = subst (λ k. table.0 < k) (sym (as_many_tables x e)) a.is_there;
        retired = put_at x.tables table.0 (record (table_of x table.0) { oldest_live = value })
            fresh_table a.is_there (λ u tb. u ≡ table.0 → m < tb.oldest_live)
            (λ _. let v = a.row.1 in omega arith) (λ u n is. absurd (n is)) table.0 refl;
        upper = final_stays x Z e a table.0 m _
            (final.1 ∙ ap (λ (k : ℕ). Final (record { 0 = k })) (sym (ap key_of_bound final.1)));
      }

      -- the file begins at or below its end
      pub next_rises : (next_file x table.0).lower ≤ (next_file x table.0).upper
      next_rises = let l = F.below table.0 a.is_there in
          let b = before_below x Z table.0 m final.0 (omega arith) final.1 in
          subst (λ b. last_upper x.files table.0 ≤ key_of_bound b) (sym final.1) (omega arith)

      -- the last file ends at or below its bound, be it the new one or the one before
      last_below : last_upper (next_of x e).files table.0
          ≤ key_of_bound (memtable_of x table.0 m).bound
      last_below = files_retired x by table value
          (λ fs. last_upper fs table.0 ≤ key_of_bound (memtable_of x table.0 m).bound)
          (λ _. next_rises)
          (λ _. let n = last_is_new x.files (next_file x table.0) in omega arith)

      -- the last files of the other tables stay
      last_other : (t : ℕ) → table.0 ≢ t → last_upper (next_of x e).files t
          ≡ last_upper x.files t
      last_other t other = files_retired x by table value
          (λ fs. last_upper fs t ≡ last_upper x.files t) (λ _. refl)
          (λ _. last_is_old x.files (next_file x table.0) t other)

      -- a step that retires a memtable keeps where files end
      retires : LastFiles (next_of x e)
      retires = record {
        below = λ t inside. put_at x.tables table.0
            (record (table_of x table.0) { oldest_live = value }) fresh_table a.is_there
            (λ u tb. u < length x.tables
            → last_upper (next_of x e).files u ≤ bound_below tb tb.oldest_live)
            (λ _. subst (λ k. last_upper (next_of x e).files table.0
            ≤ bound_below (record (table_of x table.0) { oldest_live = k }) k) (sym a.row.1)
            last_below)
            (λ u n l. subst (λ k. k ≤ bound_before x u (table_of x u).oldest_live)
            (sym (last_other u (λ is. n (sym is)))) (F.below u l))
            t (subst (λ k. t < k) (as_many_tables x e) inside);
        each = λ f. files_retired x by table value
            (λ fs. Contains fs f → FileIsOfRetired (next_of x e) f)
            (λ _ h. still_retired e a f (F.each f h))
            (λ _ h. elim (Contains-push_cases x.files (next_file x table.0) f h) [
              | inl old ↦ still_retired e a f (F.each f old)
              | inr new ↦ subst (λ g. FileIsOfRetired (next_of x e) g) new new_is_retired
            ]);
      }

    -- Each allowed step keeps where files end.
    pub keeps_last : (e : Event) → IsStep x e → LastFiles (next_of x e)
    keeps_last (Put by (OldestLive table) value) a = retires by table value a
    keeps_last (Put by Synced value) a = still (Put by Synced value) a (λ b. b)
    keeps_last (Put by Stopped value) a = still (Put by Stopped value) a (λ b. b)
    keeps_last e a = still e a (λ b. b)

    -- Each allowed step keeps where files begin.
    pub keeps_begin : FilesBegin x → (e : Event) → IsStep x e → FilesBegin (next_of x e)
    keeps_begin B e a f h = was e a h
      where
        -- a file that was there begins where it did
        old : (e : Event) → IsStep x e → Contains x.files f
            → f.lower ≤ bound_before (next_of x e) f.table f.memtable
        old e a h = subst (λ k. f.lower ≤ k)
            (sym (before_stays x Z e a f.table f.memtable
            (let l = (F.each f h).retired in omega arith)))
            (B f h)

        -- a new file begins where the last one ended
        was : (e : Event) → IsStep x e → Contains (next_of x e).files f
            → f.lower ≤ bound_before (next_of x e) f.table f.memtable
        was (Put by (OldestLive table) value) a h = files_retired x by table value
            (λ fs. Contains fs f → f.lower ≤ bound_before (next_of x (Put by (OldestLive table)
            value)) f.table f.memtable) (λ _. old (Put by (OldestLive table) value) a)
            (λ _ h. elim (Contains-push_cases x.files (next_file x table.0) f h) [
              | inl before ↦ old (Put by (OldestLive table) value) a before
              | inr new ↦ subst (λ (g : WrittenFile). g.lower ≤ bound_before (next_of x
                  (Put by (OldestLive table) value)) g.table g.memtable) new
                  (subst (λ k. last_upper x.files table.0 ≤ k)
                  (sym (before_stays x Z (Put by (OldestLive table) value) a table.0
                  (table_of x table.0).oldest_live (omega arith)))
                  (F.below table.0 a.is_there))
            ]) h
        was (Put by Synced value) a h = old (Put by Synced value) a h
        was (Put by Stopped value) a h = old (Put by Stopped value) a h
        was e a h = old e a h
