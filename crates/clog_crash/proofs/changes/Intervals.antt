-- A position is inside a table file's interval or not, and a table is this one or another.
use Rattle.std.proofs.Common.{◌≡◌, ◌⊎◌, inl, inr, ap}
use Rattle.std.proofs.lemmas.Bool.{cases_eq}
use Rattle.clog_base.specs.declared.cell.Table.{Table}
use Rattle.clog_base.specs.declared.position.Position.{Position}
use Rattle.clog_base.proofs.PositionOrder.{below_or_up_to, not_both}
use Rattle.clog_table.specs.declared.table_file.TableFile.{TableFile}
use Rattle.clog_crash.specs.Restore.{IsInInterval}

pub inside_or_not : (file : TableFile) (at : Position)
    → IsInInterval file at ⊎ (IsInInterval file at → ⊥)
inside_or_not file at = elim (below_or_up_to file.lower at) [
  | inr not ↦ inr (λ is. not_both file.lower at is.above not)
  | inl above ↦ elim (below_or_up_to file.upper at) [
    | inl behind ↦ inr (λ is. not_both file.upper at behind is.up_to)
    | inr up_to ↦ inl (record { above = above; up_to = up_to })
  ]
]

pub table_or_not : (a b : Table) → (a ≡ b) ⊎ (a ≡ b → ⊥)
table_or_not a b = elim (cases_eq a.0 b.0) [
  | inl same ↦ inl (λ i. record { 0 = same i })
  | inr apart ↦ inr (λ is. apart (ap (λ (t : Table). t.0) is))
]
