use Rattle.std.proofs.Common.{◌≡◌, ◌+◌, ◌+ℤ◌, ℕ, ℤ, cond}
use Rattle.std.specs.Prelude.{count_by}
use Rattle.std.specs.List.{fold}
use Rattle.clog_base.specs.declared.cell.Cell.{Cell}
use Rattle.clog_base.specs.declared.cell.CellKey.{CellKey}
use Rattle.clog_engine.specs.Drill.{is_deletion, is_live, timestamps_of}
use Rattle.clog_engine.proofs.summary.tally_of.Given as goal

-- what is counted, with what is left, is the whole
abbrev pub invariant-loop-key : goal.invariant-loop-key
invariant-loop-key l = record {
  live : fold (λ (n : ℕ) (row : CellKey × Cell). n + cond (is_live row) 1 0) l.tally.live
      l._key-iterator ≡ count_by is_live l.rows.entries;
  deletions : fold (λ (n : ℕ) (row : CellKey × Cell). n + cond (is_deletion row) 1 0)
      l.tally.deletions l._key-iterator ≡ count_by is_deletion l.rows.entries;
  timestamps : fold (λ (sum : ℤ) (row : CellKey × Cell). sum +ℤ row.1.ts) l.tally.timestamps
      l._key-iterator ≡ timestamps_of l.rows.entries;
}
