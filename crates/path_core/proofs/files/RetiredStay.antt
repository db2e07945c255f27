-- What was retired stays so, with its file; nothing is placed newly in it.
use Rattle.std.proofs.Common.{
  ◌≡◌,
  ℕ,
  ◌<◌,
  ◌≤◌,
  ◌==◌,
  Bool,
  ◌&&◌,
  true,
  false,
  not,
  cond,
  List,
  ◌++◌,
  [],
  ◌∷◌,
  refl,
  sym,
  ap,
  ◌∙◌,
  subst,
  arith,
  ◌⊎◌,
}
use Rattle.std.specs.List.{Contains, filter, fold, list_any}
use Rattle.std.proofs.lemmas.Bool.{false≢true, and_from, eq-eqb, eqb-true}
use mathlib.Core.Logic.{dite, inl, inr}
use native.Mathlib.Decide.{dec_lt}
use Rattle.clog_base.specs.declared.cell.Table.{Table}
use Rattle.path_core.specs.declared.event.Cursor.TheVariants.{OldestLive}
use Rattle.path_core.specs.declared.event.Event.{Event}
use Rattle.path_core.specs.declared.event.Event.TheVariants.{Put}
use Rattle.path_core.specs.declared.state.PathState.{PathState}
use Rattle.path_core.specs.declared.state.WrittenFile.{WrittenFile}
use Rattle.path_core.specs.Parts.{fresh_table, table_of, is_placed_in, has_place, is_empty}
use Rattle.path_core.specs.Allowed.{IsStep}
use Rattle.path_core.specs.Words.{by_of}
use Rattle.path_core.specs.Next.{next_of}
use Rattle.path_core.specs.Lawful.{IsLawfulLog, IsLawfulPlacing}
use Rattle.path_core.specs.LawfulTables.{is_file_of, FollowFrom, HasFile}
use Rattle.path_core.proofs.lists.Replaced.{put_at}
use Rattle.path_core.proofs.lists.Passing.{any_from}
use Rattle.path_core.proofs.log.LoggedStay.{files_stay}
use Rattle.path_core.proofs.places.Closing.{placed_was, own_place, none_in_retired}
use Rattle.path_core.proofs.files.LastFile.{final_stays, before_stays}

-- the upper bound of a table's last file, a key where there is none
abbrev last_from : ℕ → List WrittenFile → ℕ → ℕ
last_from key files t =
    fold (λ (k : ℕ) (f : WrittenFile). cond (f.table == t) f.upper k) key files

-- One file more follows the others, where it begins at the end of the last one of its table.
pub follow_push : (t key : ℕ) (files : List WrittenFile) (f : WrittenFile)
    → FollowFrom key (filter (is_file_of t) files)
    → (f.table ≡ t → (f.lower ≡ last_from key files t) × (f.lower ≤ f.upper))
    → FollowFrom key (filter (is_file_of t) (files ++ f ∷ []))
follow_push t key [] f follow next = choose (f.table == t) refl
  where
    choose : (b : Bool) → (f.table == t) ≡ b → FollowFrom key (cond b (f ∷ []) [])
    choose true e = let r = next (eqb-true f.table t e) in (r.0, r.1, tt)
    choose false e = tt
follow_push t key (g ∷ gs) f follow next =
    choose (g.table == t) (λ k h n. follow_push t k gs f h n) follow next
  where
    choose : (b : Bool) → ((k : ℕ) → FollowFrom k (filter (is_file_of t) gs)
        → (f.table ≡ t → (f.lower ≡ last_from k gs t) × (f.lower ≤ f.upper))
        → FollowFrom k (filter (is_file_of t) (gs ++ f ∷ [])))
        → FollowFrom key (cond b (g ∷ filter (is_file_of t) gs) (filter (is_file_of t) gs))
        → (f.table ≡ t
        → (f.lower ≡ last_from (cond b g.upper key) gs t) × (f.lower ≤ f.upper))
        → FollowFrom key (cond b (g ∷ filter (is_file_of t) (gs ++ f ∷ []))
        (filter (is_file_of t) (gs ++ f ∷ [])))
    choose true later h n = (h.0, h.1, later g.upper h.2 n)
    choose false later h n = later key h n

module _ (x : PathState) (Z : IsLawfulPlacing x) where
  abbrev L : IsLawfulLog x
  L = Z.core.log

  -- what was retired was so before, or is the table's oldest live memtable of this step
  pub retired_by : (by : ℕ) (table : Table) (value : ℕ)
      → IsStep x (Put by (OldestLive table) value) → (t m : ℕ)
      → m < (table_of (next_of x (Put by (OldestLive table) value)) t).oldest_live
      → (m < (table_of x t).oldest_live)
      ⊎ ((t ≡ table.0) × (m ≡ (table_of x table.0).oldest_live))
  retired_by by table value a t m = put_at x.tables table.0 _ fresh_table a.is_there
      (λ u tb. m < tb.oldest_live → (m < (table_of x u).oldest_live)
      ⊎ ((u ≡ table.0) × (m ≡ (table_of x table.0).oldest_live)))
      (λ l. let v = a.row.1 in dite (dec_lt m (table_of x table.0).oldest_live) (λ old. inl old)
      (λ new. inr (refl, omega arith)))
      (λ _ _ l. inl l) t

  -- a memtable in which something was placed is not empty
  pub not_empty : (t m entry : ℕ)
      → Contains x.placed (record { table = t; entry = entry; memtable = m })
      → is_empty x t m ≡ true → ⊥
  not_empty t m entry h empty = false≢true (sym (ap (λ b. not b
      && not (list_any (has_place t m) x.seats))
      (any_from (is_placed_in t m) x.placed (record { table = t; entry = entry; memtable = m }) h
      (and_from (t == t) (m == m) (eq-eqb t t refl) (eq-eqb m m refl)))) ∙ empty)

  -- the file of a retired memtable stays
  pub file_stays : (e : Event) → IsStep x e → (t m : ℕ) → m < (table_of x t).oldest_live
      → HasFile x t m → HasFile (next_of x e) t m
  file_stays e a t m old H = record {
    file = H.file;
    among = files_stay x e H.file H.among;
    table = H.table;
    memtable = H.memtable;
    lower = subst (λ k. H.file.lower ≤ k) (sym (before_stays x Z e a t m (omega arith))) H.lower;
    upper = final_stays x Z e a t m _ H.upper;
  }

  -- nothing is placed newly in a retired memtable
  pub placed_before : (e : Event) (t m entry : ℕ) → m < (table_of x t).oldest_live
      → Contains (next_of x e).placed (record { table = t; entry = entry; memtable = m })
      → Contains x.placed (record { table = t; entry = entry; memtable = m })
  placed_before e t m entry old h =
      elim (placed_was x e (record { table = t; entry = entry; memtable = m }) h) [
        | inl before ↦ before
        | inr now ↦ absurd (none_in_retired x Z (by_of e) _ (own_place x Z (by_of e) _ now) old)
      ]
