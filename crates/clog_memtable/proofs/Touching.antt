-- Memtables of notes, table by table; and that they may be flushed once the notes are synced.
use Rattle.std.proofs.Common.{
  ◌≡◌,
  ℕ,
  ◌+◌,
  ◌<◌,
  ◌≤◌,
  inl,
  inr,
  List,
  [],
  ◌∷◌,
  ◌++◌,
  length,
  get_or,
  sym,
  ap,
  subst,
  arith,
  refl,
  eqb-true,
}
use Rattle.std.specs.Prelude.{◌==◌, ◌^◌, Bool, Contains, true, false, if◌then◌else◌}
use Rattle.std.proofs.lemmas.Bool.{cases_lt}
use Rattle.std.proofs.lemmas.List.{get_or_default, length-append}
use Rattle.std.proofs.lemmas.List.Elements.{
  Contains-append_left,
  Contains-push,
  Contains-push_cases,
}
use Rattle.std.proofs.lemmas.List.Quantifiers.{all_pairs_push}
use Rattle.clog_spec.specs.Sizes.{most_tables}
use Rattle.clog_base.proofs.Members.{nothing_there}
use Rattle.path_core.specs.declared.note.EntryNote.{EntryNote}
use Rattle.path_core.specs.Keeper.{Holding, upper_from}
use Rattle.path_core.specs.Keys.{
  after,
  behind_marker,
  first_offset,
  fits,
  marker_size,
  next_segment,
}
use Rattle.clog_memtable.specs.declared.flushing.Memtable.{Memtable}
use Rattle.clog_memtable.specs.Flushing.{MayFlush}
use Rattle.clog_memtable.specs.Touched.{AreMemtablesOf, IsMemtableOf, IsTouchedAbove}

abbrev Below : Memtable → Memtable → Type 0
Below a b = a.interval.table.0 < b.interval.table.0

-- ---- table by table

module _ (notes : List EntryNote) (lowers : ℕ → ℕ) (upper : ℕ) where
  pub none_yet : AreMemtablesOf notes lowers upper 0 []
  none_yet = record {
    each = λ m h. absurd (nothing_there m h);
    tables = λ m h. absurd (nothing_there m h);
    every = λ t low touched. absurd (omega (arith, low));
    ascending = λ i j d low inside. absurd (omega (arith, inside));
    few = omega arith;
  }

  module _ (t : ℕ) (ms : List Memtable) (are : AreMemtablesOf notes lowers upper t ms) where
    -- a table that no note touches above its lower key
    pub passed : (IsTouchedAbove notes t (lowers t) → ⊥)
        → AreMemtablesOf notes lowers upper (t + 1) ms
    passed none = record {
      each = are.each;
      tables = λ m h. let low = are.tables m h in omega (arith, low);
      every = λ k low touched. elim (cases_lt k t) [
        | inl less ↦ are.every k less touched
        | inr high ↦
            let same : k ≡ t = omega (arith, low, high) in
            absurd (none (subst (λ (k : ℕ). IsTouchedAbove notes k (lowers k)) same touched))
      ];
      ascending = are.ascending;
      few = let low = are.few in omega (arith, low);
    }

    -- one that some note touches
    pub one_more : (m : Memtable) → IsMemtableOf notes (lowers t) upper m
        → m.interval.table.0 ≡ t → AreMemtablesOf notes lowers upper (t + 1) (ms ++ m ∷ [])
    one_more m is table = record {
      each = λ n h. elim (Contains-push_cases ms m n h) [
        | inl before ↦ are.each n before
        | inr same ↦
            subst (λ (x : Memtable). IsMemtableOf notes (lowers x.interval.table.0) upper x) same
            (subst (λ (k : ℕ). IsMemtableOf notes (lowers k) upper m) (sym table) is)
      ];
      tables = λ n h. elim (Contains-push_cases ms m n h) [
        | inl before ↦ let low = are.tables n before in omega (arith, low)
        | inr same ↦
            let number : m.interval.table.0 ≡ n.interval.table.0 =
            ap (λ (x : Memtable). x.interval.table.0) same in omega (arith, number, table)
      ];
      every = λ k low touched. elim (cases_lt k t) [
        | inl less ↦
            let has = are.every k less touched in
            record {
              memtable = has.memtable;
              among = Contains-append_left ms (m ∷ []) has.memtable has.among;
              table_is = has.table_is;
            }
        | inr high ↦ record {
          memtable = m;
          among = Contains-push ms m;
          table_is = omega (arith, table, low, high);
        }
      ];
      ascending = all_pairs_push Below ms m are.ascending (λ k d inside.
          let v = get_or ms k d in
          let low = are.tables v (k, inside, get_or_default ms k v d inside) in
          omega (arith, low, table));
      few = let low = are.few in let long = length-append ms (m ∷ []) in omega (arith, low, long);
    }

-- ---- that they may be flushed

-- the log goes on behind the synced key
pub up_to_after : (capacity synced : ℕ) → synced ≤ after capacity synced
up_to_after capacity synced = by_case (synced == 0) refl
  where
    further : (b : Bool) → synced ≤ (if b then synced + marker_size else next_segment synced)
    further true = omega arith
    further false = omega arith

    by_case : (b : Bool) → (synced == 0) ≡ b
        → synced ≤ (if b then first_offset else behind_marker capacity synced)
    by_case true is = let zero = eqb-true synced 0 is in omega (arith, zero)
    by_case false is = further (fits capacity synced marker_size)

-- by a keeper that has logged these notes, and is synced to the key or above it
pub may_flush : (h : Holding) (upper : ℕ) (ms : List Memtable) → upper ≤ h.synced
    → ((n : EntryNote) → Contains h.logged n → n.end.0 ≤ upper)
    → AreMemtablesOf h.logged (λ (t : ℕ). upper_from t 0 h.files) upper most_tables ms
    → h.sizes.tables ≡ most_tables → length h.files + most_tables < 2 ^ 47 → MayFlush h ms
may_flush h upper ms low ends are tables few = record {
  each = λ m among.
      let is = are.each m among in
      let less = are.tables m among in
      let up = up_to_after h.sizes.capacity h.synced in
      let upper_is = is.upper_is in
      let from = upper_from m.interval.table.0 0 h.files in
      let lower_is : m.interval.lower.0 ≡ from = is.lower_is in
      let above : from < is.touched.note.end.0 = is.touched.above in
      let end = ends is.touched.note is.touched.among in
      record {
        table_is = omega (arith, less, tables);
        lasting = omega (arith, up, upper_is, low);
        goes_on = lower_is;
        forward = omega (arith, lower_is, upper_is, above, end);
        merged = is.merged h refl;
      };
  apart = λ i j d less inside same.
      let low = are.ascending i j d less inside in omega (arith, low, same);
  few = let most = are.few in omega (arith, most, few);
}
