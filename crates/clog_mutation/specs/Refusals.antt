-- Bytes that are no payload: what they begin with is well formed up to a field, and what stands in
-- the field's place is refused. A field stands where `rest` begins, which ends `end` bytes.
use Rattle.std.specs.Prelude.{◌≡◌, ℕ, ◌<◌, List, ◌++◌, length, Bool, true, nat_lt}
use Rattle.std.specs.Prelude.{Result, Ok, Err, ⊤}
use Rattle.std.specs.List.{flat_map, AllByRecursion}
use Rattle.std.specs.Int.{w16, to_be_bytes}
use Rattle.clog_spec.specs.Sizes.{most_tables}
use Rattle.clog_base.specs.declared.fault.PayloadFault.{PayloadFault}
use Rattle.clog_base.specs.declared.fault.PayloadFault.TheVariants.{Short, BadTag, Count, NotUtf8}
use Rattle.clog_base.specs.declared.fault.PayloadFault.TheVariants.{Trailing, NameLength, BadTable}
use Rattle.clog_base.specs.declared.fault.PayloadFault.TheVariants.{OutOfMemory}
use Rattle.clog_fields.specs.Refusals.{place, Refusing, Either, IsRefusedBehind, IsShort, IsBad}
use Rattle.clog_fields.specs.Refusals.{one_byte, IsByte, IsShortNumber, IsTimestamp}
use Rattle.clog_fields.specs.Refusals.{NameIsRefused, TaggedIsRefused}
use Rattle.clog_mutation.specs.declared.mutation.Update.{Update}
use Rattle.clog_mutation.specs.declared.mutation.Mutation.{Mutation}
use Rattle.clog_mutation.specs.Payload.{short_text, timestamp_bytes, update_bytes, payload_of}
use Rattle.clog_mutation.specs.Stored.{IsNameText, IsStoredUpdate, IsStored, IsPayload}

-- ---- the fields of a payload alone

abbrev pub is_count : ℕ → Bool
is_count n = nat_lt 0 n

abbrev pub is_table : ℕ → Bool
is_table n = nat_lt n most_tables

abbrev pub count_fault : ℕ → PayloadFault
count_fault at = Count

-- a number of two bytes, or a byte, that passes
abbrev pub IsCount : ℕ → Type 0
IsCount n = IsShortNumber n × (is_count n ≡ true)

abbrev pub IsTable : ℕ → Type 0
IsTable n = IsByte n × (is_table n ≡ true)

-- a count of 0
abbrev pub CountIsRefused : ℕ → Refusing
CountIsRefused end =
    Either (IsShort end 2) (IsBad end (to_be_bytes w16) IsShortNumber is_count count_fault)

-- a table above the last one
abbrev pub TableIsRefused : ℕ → Refusing
TableIsRefused end = Either (IsShort end 1) (IsBad end one_byte IsByte is_table BadTable)

-- ---- what they make up

abbrev pub UpdateIsRefused : ℕ → Refusing
UpdateIsRefused end =
    Either (TableIsRefused end) (IsRefusedBehind one_byte IsTable (λ table.
    Either (NameIsRefused end) (IsRefusedBehind short_text IsNameText (λ column.
    Either (IsShort end 8)
    (IsRefusedBehind timestamp_bytes IsTimestamp (λ ts. TaggedIsRefused end))))))

-- of n updates some are well formed, and the next is refused
pub record UpdatesAreRefused (end n : ℕ) (bytes : List ℕ) (fault : PayloadFault) : Type 0 where
  pub read : List Update
  pub rest : List ℕ
  pub more : length read < n
  pub are_good : AllByRecursion IsStoredUpdate read
  pub parts : bytes ≡ flat_map update_bytes read ++ rest
  pub refused : UpdateIsRefused end rest fault

abbrev pub MutationIsRefused : ℕ → Refusing
MutationIsRefused end =
    Either (NameIsRefused end) (IsRefusedBehind short_text IsNameText (λ key.
    Either (CountIsRefused end)
    (IsRefusedBehind (to_be_bytes w16) IsCount (UpdatesAreRefused end))))

-- bytes behind a whole payload
pub record IsTrailing (end : ℕ) (bytes : List ℕ) (fault : PayloadFault) : Type 0 where
  pub read : Mutation
  pub rest : List ℕ
  pub is_good : IsStored read
  pub parts : bytes ≡ payload_of read ++ rest
  pub some : 0 < length rest
  pub fault_is : fault ≡ Trailing (place end rest)

-- The first refusal of bytes that are no payload.
abbrev pub IsRefused : Refusing
IsRefused bytes = Either (MutationIsRefused (length bytes)) (IsTrailing (length bytes)) bytes

-- what decoding gives: the mutation whose payload the bytes are, or their first refusal
abbrev pub Decodes : List ℕ → Result Mutation PayloadFault → Type 0
Decodes bytes (Ok m) = IsPayload bytes m
Decodes bytes (Err OutOfMemory) = ⊤
Decodes bytes (Err (Short at)) = IsRefused bytes (Short at)
Decodes bytes (Err (BadTag at)) = IsRefused bytes (BadTag at)
Decodes bytes (Err Count) = IsRefused bytes Count
Decodes bytes (Err (NotUtf8 at)) = IsRefused bytes (NotUtf8 at)
Decodes bytes (Err (Trailing at)) = IsRefused bytes (Trailing at)
Decodes bytes (Err (NameLength at)) = IsRefused bytes (NameLength at)
Decodes bytes (Err (BadTable at)) = IsRefused bytes (BadTable at)

-- what checking gives: that the bytes are some mutation's payload, or their first refusal
abbrev pub Checks : {T : Type 0} → List ℕ → Result T PayloadFault → Type 0
Checks bytes (Ok done) = (m : Mutation) × IsPayload bytes m
Checks bytes (Err fault) = IsRefused bytes fault
