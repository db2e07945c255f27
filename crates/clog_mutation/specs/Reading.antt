-- Reading a payload from left to right: a reader gives a value and the rest, or the first refusal.
-- The bytes end `end` bytes, so that offsets are known.
use Rattle.std.specs.Prelude.{◌≡◌, ℕ, ℤ, zero, suc, List, [], ◌∷◌, length, if◌then◌else◌}
use Rattle.std.specs.Prelude.{Result, Ok, Err, ◌==◌}
use Rattle.std.specs.Int.{w16}
use Rattle.clog_base.specs.declared.fault.PayloadFault.{PayloadFault}
use Rattle.clog_base.specs.declared.fault.PayloadFault.TheVariants.{Short, BadTag, Count, NotUtf8}
use Rattle.clog_base.specs.declared.fault.PayloadFault.TheVariants.{Trailing, NameLength, BadTable}
use Rattle.clog_base.specs.declared.fault.PayloadFault.TheVariants.{OutOfMemory}
use Rattle.clog_base.specs.declared.cell.Kind.{Kind}
use Rattle.clog_fields.specs.Refusals.{place}
use Rattle.clog_fields.specs.Reading.{◌>>=◌, Reader, mapped, checked, both_of, number_at, byte_at}
use Rattle.clog_fields.specs.Reading.{name_at, ts_at, tagged_at}
use Rattle.clog_mutation.specs.declared.mutation.Update.{Update}
use Rattle.clog_mutation.specs.declared.mutation.Mutation.{Mutation}
use Rattle.clog_mutation.specs.Refusals.{is_count, is_table, count_fault}

-- what a function returned, seen by view, is what reading gives, unless memory ran out
abbrev pub Fails : {Y : Type 0} → PayloadFault → Result Y PayloadFault → Type 0
Fails OutOfMemory read = Unit {0}
Fails (Short at) read = read ≡ Err (Short at)
Fails (BadTag at) read = read ≡ Err (BadTag at)
Fails Count read = read ≡ Err Count
Fails (NotUtf8 at) read = read ≡ Err (NotUtf8 at)
Fails (Trailing at) read = read ≡ Err (Trailing at)
Fails (NameLength at) read = read ≡ Err (NameLength at)
Fails (BadTable at) read = read ≡ Err (BadTable at)

abbrev pub Gives : {X Y : Type 0} → (X → Y) → Result X PayloadFault → Result Y PayloadFault → Type 0
Gives view (Ok x) read = read ≡ Ok (view x)
Gives view (Err e) read = Fails e read

-- ---- the fields of a payload alone

unfoldable pub count_at : ℕ → Reader ℕ
count_at end = checked end is_count count_fault (number_at w16 end)

unfoldable pub table_at : ℕ → Reader ℕ
table_at end = checked end is_table BadTable (byte_at end)

-- ---- what they make up

abbrev pub update_of : ℕ × (List ℕ × (ℤ × (Kind × List ℕ))) → Update
update_of x = record {
  table = record { 0 = x.0 };
  column = x.1.0;
  cell = record { ts = x.1.1.0; kind = x.1.1.1.0; value = x.1.1.1.1 };
}

unfoldable pub update_at : ℕ → Reader Update
update_at end = mapped update_of (both_of (table_at end) (λ table.
    both_of (name_at end) (λ column. both_of (ts_at end) (λ ts. tagged_at end))))

abbrev pub in_front : Update × List Update → List Update
in_front x = x.0 ∷ x.1

unfoldable pub updates_at : ℕ → ℕ → Reader (List Update)
updates_at end zero bytes = Ok ([], bytes)
updates_at end (suc n) bytes =
    mapped in_front (both_of (update_at end) (λ first. updates_at end n)) bytes

abbrev pub mutation_of : List ℕ × (ℕ × List Update) → Mutation
mutation_of x = record { key = x.0; updates = x.1.1 }

unfoldable pub mutation_at : ℕ → Reader Mutation
mutation_at end =
    mapped mutation_of (both_of (name_at end) (λ key. both_of (count_at end) (updates_at end)))

abbrev pub ended : ℕ → Mutation × List ℕ → Result Mutation PayloadFault
ended end x = if length x.1 == 0 then Ok x.0 else Err (Trailing (place end x.1))

-- all of the bytes
unfoldable pub all_of : List ℕ → Result Mutation PayloadFault
all_of bytes = mutation_at (length bytes) bytes >>= ended (length bytes)

-- ---- without what is read

-- what is left behind it
abbrev pub passed : {X : Type 0} → Result (X × List ℕ) PayloadFault → Result (List ℕ) PayloadFault
passed read = read >>= λ x. Ok x.1

-- whether it is read
abbrev pub judged : {X : Type 0} → Result X PayloadFault → Result (Unit {0}) PayloadFault
judged read = read >>= λ x. Ok tt
