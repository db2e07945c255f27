-- What a line of a mutation file says, or why it is refused: the table of refusals in its order, on
-- the JSON value that `serde_json` reads. Of a name that is repeated in an object the last counts.
use Rattle.std.specs.Prelude.{ℕ, ℤ, ◌+◌, ◌==◌, ◌||◌, List, [], ◌∷◌, length, codes, Bool, false}
use Rattle.std.specs.Prelude.{nat_lt, if◌then◌else◌, Option, Some, None, Result, Ok, Err, is_some}
use Rattle.std.specs.Prelude.{option_and_then}
use Rattle.std.specs.Str.Lossy.{utf8_valid_len}
use Rattle.serde_json.specs.Data.{Data, null, boolean, number, string, array, object, Items}
use Rattle.serde_json.specs.Data.{no_items, item, Members, no_members, member}
use Rattle.serde_json.specs.Read.{read}
use Rattle.serde_json.specs.Find.{get, as_number, as_str, as_u64, as_i64, as_array}
use Rattle.clog_spec.specs.Sizes.{longest_name, most_tables, most_updates}
use Rattle.clog_base.specs.declared.cell.Table.{Table}
use Rattle.clog_base.specs.declared.cell.Kind.TheVariants.{Deletion, Live}
use Rattle.clog_base.specs.declared.cell.Cell.{Cell}
use Rattle.clog_mutation.specs.declared.mutation.Update.{Update}
use Rattle.clog_mutation.specs.declared.mutation.Mutation.{Mutation}
use Rattle.clog_text.specs.declared.refusal.Part.{Part}
use Rattle.clog_text.specs.declared.refusal.Part.TheVariants.{Line, Key, Updates}
use Rattle.clog_text.specs.declared.refusal.Part.TheVariants.{Update as InUpdate, Table as InTable}
use Rattle.clog_text.specs.declared.refusal.Part.TheVariants.{Column, Ts, Value}
use Rattle.clog_text.specs.declared.refusal.BadLine.{BadLine}
use Rattle.clog_text.specs.declared.refusal.BadLine.TheVariants.{NotJson, Field, Range, NoUpdates}
use Rattle.clog_text.specs.declared.refusal.BadLine.TheVariants.{UnknownTable}

-- the first refusal counts
infixl 10 ◌>>=◌
abbrev pub ◌>>=◌ : {A B : Type 0} → Result A BadLine → (A → Result B BadLine) → Result B BadLine
(Ok x) >>= f = f x
(Err cause) >>= f = Err cause

-- what is there, or else this refusal
abbrev pub or_refuse : {A : Type 0} → BadLine → Option A → Result A BadLine
or_refuse cause None = Err cause
or_refuse cause (Some x) = Ok x

-- ---- single values

-- a string of 1 to 255 bytes
abbrev pub name_of : Part → Data → Result (List ℕ) BadLine
name_of part d = do
  text ← or_refuse (Field part) (as_str d)
  if (length text == 0) || nat_lt longest_name (length text) then Err (Range part) else Ok text

-- a whole number of `u64`, and at most 15
abbrev pub table_of : Data → Result Table BadLine
table_of d = do
  n ← or_refuse (Field InTable) (option_and_then as_u64 (as_number d))
  if nat_lt n most_tables then Ok (record { 0 = n }) else Err UnknownTable

-- a whole number of `i64`; another one of `u64` is out of range
abbrev pub ts_of : Data → Result ℤ BadLine
ts_of d =
    or_refuse (if is_some (option_and_then as_u64 (as_number d)) then Range Ts else Field Ts)
    (option_and_then as_i64 (as_number d))

-- null is a deletion, a string a live value
abbrev pub cell_of : ℤ → Data → Result Cell BadLine
cell_of ts null = Ok (record { ts = ts; kind = Deletion; value = [] })
cell_of ts (string text) = Ok (record { ts = ts; kind = Live; value = text })
cell_of ts (boolean b) = Err (Field Value)
cell_of ts (number n) = Err (Field Value)
cell_of ts (array ds) = Err (Field Value)
cell_of ts (object ms) = Err (Field Value)

-- ---- objects

abbrev pub members_len : Members → ℕ
members_len no_members = 0
members_len (member k d ms) = members_len ms + 1

-- an object with so many different names
abbrev pub has_members : ℕ → Data → Bool
has_members n null = false
has_members n (boolean b) = false
has_members n (number x) = false
has_members n (string s) = false
has_members n (array ds) = false
has_members n (object ms) = members_len ms == n

-- The member of that name in an object of so many names. Where each of so many names is asked for,
-- the object has exactly these.
abbrev pub field : Part → ℕ → List ℕ → Data → Result Data BadLine
field part n name d =
    if has_members n d then or_refuse (Field part) (get name d) else Err (Field part)

unfoldable pub update_of : Data → Result Update BadLine
update_of d = do
  table ← field InUpdate 4 (codes "table") d
  column ← field InUpdate 4 (codes "column") d
  ts ← field InUpdate 4 (codes "ts") d
  value ← field InUpdate 4 (codes "value") d
  t ← table_of table
  c ← name_of Column column
  n ← ts_of ts
  cell ← cell_of n value
  Ok (record { table = t; column = c; cell = cell })

-- each update in order
unfoldable pub updates_of : Items → Result (List Update) BadLine
updates_of no_items = Ok []
updates_of (item d ds) = do
  u ← update_of d
  us ← updates_of ds
  Ok (u ∷ us)

abbrev pub items_len : Items → ℕ
items_len no_items = 0
items_len (item d ds) = items_len ds + 1

-- 1 to 65535 updates
abbrev pub counted : Items → Result (List Update) BadLine
counted items =
    if items_len items == 0 then Err NoUpdates
    else (if nat_lt most_updates (items_len items) then Err (Range Updates) else updates_of items)

unfoldable pub list_of : Data → Result (List Update) BadLine
list_of d = or_refuse (Field Updates) (as_array d) >>= counted

unfoldable pub mutation_of : Data → Result Mutation BadLine
mutation_of d = do
  key ← field Line 2 (codes "key") d
  updates ← field Line 2 (codes "updates") d
  k ← name_of Key key
  us ← list_of updates
  Ok (record { key = k; updates = us })

-- ---- a line

-- UTF-8
abbrev pub is_text : List ℕ → Bool
is_text bytes = utf8_valid_len bytes == length bytes

unfoldable pub value_of : List ℕ → Result Data BadLine
value_of bytes = if is_text bytes then or_refuse NotJson (read bytes) else Err NotJson

unfoldable pub line_mutation : List ℕ → Result Mutation BadLine
line_mutation bytes = value_of bytes >>= mutation_of
