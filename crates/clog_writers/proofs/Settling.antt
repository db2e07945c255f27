-- A keeper is drained at the end of a run, or what may go is dropped alone, or nothing is done.
use Rattle.std.proofs.Common.{
  ◌≡◌,
  ℕ,
  ◌<◌,
  ◌≤◌,
  Bool,
  true,
  false,
  List,
  [],
  length,
  refl,
  sym,
  ap,
  subst,
  arith,
}
use Rattle.std.specs.Prelude.{Contains}
use Rattle.std.proofs.lemmas.List.Elements.{Contains-append_left}
use Rattle.clog_spec.specs.Sizes.{most_tables}
use Rattle.clog_base.proofs.Members.{nothing_there}
use Rattle.path_core.specs.declared.note.EntryNote.{EntryNote}
use Rattle.path_core.specs.History.{IsHistory}
use Rattle.path_core.specs.Keeper.{Holding, PutFile, upper_from}
use Rattle.path_core.specs.Whole.{IsWhole}
use Rattle.path_rule.specs.Limits.{most_memtables}
use Rattle.clog_memtable.specs.declared.flushing.Memtable.{Memtable}
use Rattle.clog_memtable.specs.Flushing.{MayFlush, file_of, files_of}
use Rattle.clog_memtable.specs.Touched.{AreMemtablesOf, IsMemtableOf, IsTouchedAbove}
use Rattle.clog_layout.specs.Ends.{synced_to}
use Rattle.clog_closing.specs.Beside.{HasFinished, HoldsNote}
use Rattle.clog_closing.specs.Drained.{Drains, HasNoDeeds, KeepsLog, ReachTo}
use Rattle.clog_closing.proofs.Begins.{reach_of}
use Rattle.clog_closing.proofs.Finished.{drained, nothing_done}
use Rattle.clog_closing.proofs.MayFlush.{holds_note, may_flush}
use Rattle.clog_writers.specs.Settled.{Settles}

-- ---- memtables

-- by the lower keys of the tables that there are
pub same_lowers : (notes : List EntryNote) (lowers others : ℕ → ℕ) (upper below : ℕ)
    (ms : List Memtable) → ((t : ℕ) → t < below → lowers t ≡ others t)
    → AreMemtablesOf notes lowers upper below ms → AreMemtablesOf notes others upper below ms
same_lowers notes lowers others upper below ms same are = record {
  each = λ m among.
      subst (λ (k : ℕ). IsMemtableOf notes k upper m)
      (same m.interval.table.0 (are.tables m among)) (are.each m among);
  tables = are.tables;
  every = λ t low touched.
      are.every t low (subst (IsTouchedAbove notes t) (sym (same t low)) touched);
  ascending = are.ascending;
  few = are.few;
}

-- ---- a keeper that is drained, or not

module _ (h : Holding) (capacity : ℕ) (in_log : IsHistory capacity h.logged)
    (few : length h.files ≤ most_memtables) (tables : h.sizes.tables ≡ most_tables)
    (below : (n : EntryNote) → Contains h.logged n → n.end.0 ≤ h.synced) (drain : Bool)
    (ms : List Memtable) (none : drain ≡ false → ms ≡ [])
    (all : drain ≡ true → AreMemtablesOf h.logged (λ (t : ℕ). upper_from t 0 h.files)
    (synced_to h.logged) most_tables ms) where
  -- what holds of memtables of all that is logged, and of none, holds of these
  either : (P : List Memtable → Type 0)
      → (AreMemtablesOf h.logged (λ (t : ℕ). upper_from t 0 h.files) (synced_to h.logged)
      most_tables ms → P ms) → P [] → P ms
  either P full empty = by drain refl
    where
      by : (b : Bool) → drain ≡ b → P ms
      by true is = full (all is)
      by false is = subst P (sym (none is)) empty

  pub may_put : MayFlush h ms
  may_put = either (MayFlush h)
      (λ are. may_flush h capacity in_log ms are below tables (omega (arith, few)))
      (record {
        each = λ m among. absurd (nothing_there m among);
        apart = λ i j d less inside. absurd (omega (arith, inside));
        few = omega (arith, few);
      })

  pub hold_notes : (m : Memtable) → Contains ms m → HoldsNote h (file_of m)
  hold_notes = either (λ (l : List Memtable). (m : Memtable) → Contains l m
      → HoldsNote h (file_of m)) (λ are. holds_note h capacity in_log ms are)
      (λ m among. absurd (nothing_there m among))

  pub reach_there : HasNoDeeds h → ReachTo (synced_to h.logged) ms
  reach_there none = either (ReachTo (synced_to h.logged))
      (λ are. reach_of h.logged (λ (t : ℕ). upper_from t 0 h.files) (synced_to h.logged)
      most_tables ms (λ t. ap (upper_from t 0) none.no_file) are)
      (λ m among. absurd (nothing_there m among))

  pub settles : (now : Holding) → KeepsLog h now → Drains h now ms → Settles drain h now
  settles now keeps drains = record {
    finished = by drain refl;
    keeps = λ f there.
        subst (λ (l : List PutFile). Contains l f) (sym drains.files_are)
        (Contains-append_left h.files (files_of ms) f there);
  }
    where
      by : (b : Bool) → drain ≡ b → HasFinished drain now
      by true is =
          subst (λ (b : Bool). HasFinished b now) (sym is)
          (drained h capacity in_log ms (all is) now keeps drains)
      by false is =
          subst (λ (b : Bool). HasFinished b now) (sym is) drains.finished

-- where nothing is asked
pub unasked : (h : Holding) (drain : Bool) → drain ≡ false → HasNoDeeds h
    → ((n : EntryNote) → Contains h.logged n → IsWhole n) → Settles drain h h
unasked h drain is none whole = record {
  finished = subst (λ (b : Bool). HasFinished b h) (sym is) (nothing_done h none whole);
  keeps = λ f there. there;
}
