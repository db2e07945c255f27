-- A column and what stands there: its name, a timestamp, and a value behind its tag. So a payload's
-- update and a table file's cell end.
use Rattle.std.proofs.Common.{ℕ, List, ◌++◌}
use Rattle.std.specs.Prelude.{ℤ}
use Rattle.clog_base.specs.declared.cell.Kind.{Kind}
use Rattle.clog_fields.specs.Fields.{short_text, timestamp_bytes}
use Rattle.clog_fields.specs.Limits.{IsNameText}
use Rattle.clog_fields.specs.Refusals.{Refusing, Either, IsRefusedBehind, IsShort, IsTimestamp}
use Rattle.clog_fields.specs.Refusals.{NameIsRefused, TaggedIsRefused}
use Rattle.clog_fields.specs.Reading.{both_of, name_at, ts_at, tagged_at}
use Rattle.clog_fields.proofs.Readers.{IsReader, both_reader}
use Rattle.clog_fields.proofs.Grammar.{name_reader, ts_reader, tagged_reader, tagged_bytes}
use Rattle.clog_fields.proofs.Grammar.{IsTagged}

abbrev Stamped : Type 0
Stamped = ℤ × (Kind × List ℕ)

abbrev spell_stamped : Stamped → List ℕ
spell_stamped x = timestamp_bytes x.0 ++ tagged_bytes x.1

abbrev good_stamped : Stamped → Type 0
good_stamped x = IsTimestamp x.0 × IsTagged x.1

abbrev refuses_stamped : ℕ → Refusing
refuses_stamped end =
    Either (IsShort end 8)
    (IsRefusedBehind timestamp_bytes IsTimestamp (λ ts. TaggedIsRefused end))

stamped_reader : (end : ℕ)
    → IsReader (both_of (ts_at end) (λ ts. tagged_at end)) spell_stamped good_stamped
    (refuses_stamped end)
stamped_reader end =
    both_reader (ts_at end) timestamp_bytes IsTimestamp (IsShort end 8)
    (λ ts. tagged_at end) (λ ts. tagged_bytes) (λ ts. IsTagged) (λ ts. TaggedIsRefused end)
    (ts_reader end) (λ ts h. tagged_reader end)

abbrev pub Column : Type 0
Column = List ℕ × Stamped

abbrev pub spell_column : Column → List ℕ
spell_column x = short_text x.0 ++ spell_stamped x.1

abbrev pub good_column : Column → Type 0
good_column x = IsNameText x.0 × good_stamped x.1

abbrev pub refuses_column : ℕ → Refusing
refuses_column end =
    Either (NameIsRefused end)
    (IsRefusedBehind short_text IsNameText (λ column. refuses_stamped end))

pub column_reader : (end : ℕ)
    → IsReader (both_of (name_at end) (λ column. both_of (ts_at end) (λ ts. tagged_at end)))
    spell_column good_column (refuses_column end)
column_reader end =
    both_reader (name_at end) short_text IsNameText (NameIsRefused end)
    (λ column. both_of (ts_at end) (λ ts. tagged_at end)) (λ column. spell_stamped)
    (λ column. good_stamped) (λ column. refuses_stamped end)
    (name_reader end) (λ column h. stamped_reader end)
