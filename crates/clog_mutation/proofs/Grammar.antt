-- The readers of the fields of a payload alone and their grammars.
use Rattle.std.proofs.Common.{ℕ, ◌^◌}
use Rattle.std.specs.Int.{w16, to_be_bytes}
use Rattle.clog_base.specs.declared.fault.PayloadFault.TheVariants.{BadTable}
use Rattle.clog_fields.specs.Refusals.{one_byte, IsByte, IsShortNumber, IsShort}
use Rattle.clog_fields.specs.Reading.{number_at, byte_at}
use Rattle.clog_fields.proofs.Readers.{IsReader, checked_reader}
use Rattle.clog_fields.proofs.Grammar.{number_reader, wide16, byte_reader}
use Rattle.clog_mutation.specs.Refusals.{is_count, is_table, count_fault, IsCount, IsTable}
use Rattle.clog_mutation.specs.Refusals.{CountIsRefused, TableIsRefused}
use Rattle.clog_mutation.specs.Reading.{count_at, table_at}

pub count_reader : (end : ℕ)
    → IsReader (count_at end) (to_be_bytes w16) IsCount (CountIsRefused end)
unfolding count_at
count_reader end =
    checked_reader end is_count count_fault (number_at w16 end) (to_be_bytes w16) IsShortNumber
    (IsShort end 2) (number_reader w16 (2 ^ 16) wide16 end)

pub table_reader : (end : ℕ) → IsReader (table_at end) one_byte IsTable (TableIsRefused end)
unfolding table_at
table_reader end =
    checked_reader end is_table BadTable (byte_at end) one_byte IsByte (IsShort end 1)
    (byte_reader end)
