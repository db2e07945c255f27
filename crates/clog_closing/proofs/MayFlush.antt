-- Memtables of all that a keeper has logged, each from where its table's last file ends: they may
-- be flushed, and each holds an entry.
use Rattle.std.proofs.Common.{◌≡◌, ℕ, ◌+◌, ◌<◌, ◌≤◌, ◌^◌, List, length, arith}
use Rattle.std.specs.Prelude.{Contains}
use Rattle.clog_spec.specs.Sizes.{most_tables}
use Rattle.path_core.specs.declared.note.EntryNote.{EntryNote}
use Rattle.path_core.specs.History.{IsHistory}
use Rattle.path_core.specs.Keeper.{Holding, upper_from}
use Rattle.clog_memtable.specs.declared.flushing.Memtable.{Memtable}
use Rattle.clog_memtable.specs.Flushing.{MayFlush, file_of}
use Rattle.clog_memtable.specs.Touched.{AreMemtablesOf}
use Rattle.clog_memtable.proofs.Touching.{may_flush as may_flush_to}
use Rattle.clog_layout.specs.Ends.{synced_to}
use Rattle.clog_closing.specs.Beside.{HoldsNote}
use Rattle.clog_closing.proofs.LastEnd.{last_below, up_to_last}

-- the memtables of all that is logged
abbrev pub AreMemtablesFor : Holding → List Memtable → Type 0
AreMemtablesFor h ms =
    AreMemtablesOf h.logged (λ (t : ℕ). upper_from t 0 h.files) (synced_to h.logged) most_tables ms

module _ (h : Holding) (capacity : ℕ) (in_log : IsHistory capacity h.logged) (ms : List Memtable)
    (are : AreMemtablesFor h ms) where
  pub may_flush : ((n : EntryNote) → Contains h.logged n → n.end.0 ≤ h.synced)
      → h.sizes.tables ≡ most_tables → length h.files + most_tables < 2 ^ 47 → MayFlush h ms
  may_flush below tables few =
      may_flush_to h (synced_to h.logged) ms (last_below h.synced h.logged below)
      (up_to_last capacity h.logged in_log) are tables few

  pub holds_note : (m : Memtable) → Contains ms m → HoldsNote h (file_of m)
  holds_note m among =
      let is = are.each m among in
      let touched = is.touched in
      let lower : m.interval.lower.0 ≡ upper_from m.interval.table.0 0 h.files = is.lower_is in
      let upper = is.upper_is in
      let above : upper_from m.interval.table.0 0 h.files < touched.note.end.0 = touched.above in
      let end = up_to_last capacity h.logged in_log touched.note touched.among in
      record {
        note = touched.note;
        among = touched.among;
        bit = touched.bit;
        above = omega (arith, lower, above);
        up_to = omega (arith, upper, end);
      }
