-- For private clauses: lines whose names stand in their usual order, as their tokens.
use Rattle.std.specs.Prelude.{◌≡◌, ℕ, ◌<◌, ◌≤◌, List, [], ◌∷◌, length, codes, Option, Some, None}
use Rattle.std.specs.Prelude.{Ok, option_and_then, ⊤}
use Rattle.json.specs.Token.{Token, begin_object, end_object, begin_array, end_array, string}
use Rattle.json.specs.Token.{number, key as name_token, null}
use Rattle.serde_json.specs.Data as datum
use Rattle.serde_json.specs.Read.{number_of}
use Rattle.serde_json.specs.Find.{as_i64}
use Rattle.clog_spec.specs.Sizes.{longest_name, most_tables}
use Rattle.clog_mutation.specs.declared.mutation.Update.{Update}
use Rattle.clog_text.specs.LineMutation.{cell_of}

-- an update as it is spelled: the texts of its numbers, and its strings, where None is null
pub record Spelled : Type 0 where
  pub table : List ℕ
  pub column : List ℕ
  pub ts : List ℕ
  pub value : Option (List ℕ)

abbrev pub spelled_value : Option (List ℕ) → Token
spelled_value None = null
spelled_value (Some text) = string text

-- the tokens of an update's object behind its brace, and then the rest
abbrev pub update_tokens : Spelled → List Token → List Token
update_tokens u rest =
    name_token (codes "table") ∷ number u.table ∷ name_token (codes "column") ∷ string u.column
    ∷ name_token (codes "ts") ∷ number u.ts ∷ name_token (codes "value") ∷ spelled_value u.value
    ∷ end_object ∷ rest

-- the tokens of an array's updates behind its bracket, and then the rest
abbrev pub updates_tokens : List Spelled → List Token → List Token
updates_tokens [] rest = rest
updates_tokens (u ∷ us) rest = begin_object ∷ update_tokens u (updates_tokens us rest)

abbrev pub line_tokens : List ℕ → List Spelled → List Token
line_tokens key us =
    begin_object ∷ name_token (codes "key") ∷ string key ∷ name_token (codes "updates")
    ∷ begin_array ∷ updates_tokens us (end_array ∷ end_object ∷ [])

abbrev pub value_data : Option (List ℕ) → datum.Data
value_data None = datum.null
value_data (Some text) = datum.string text

-- the spelled update says this one
pub record Says (u : Spelled) (x : Update) : Type 0 where
  pub table : number_of u.table ≡ Some (datum.unsigned x.table.0)
  pub known : x.table.0 < most_tables
  pub column : u.column ≡ x.column
  pub some : 1 ≤ length x.column
  pub short : length x.column ≤ longest_name
  pub ts : option_and_then as_i64 (number_of u.ts) ≡ Some x.cell.ts
  pub cell : cell_of x.cell.ts (value_data u.value) ≡ Ok x.cell

-- each spelled update says the one at its place
abbrev pub AllSay : List Spelled → List Update → Type 0
AllSay [] [] = ⊤
AllSay [] (x ∷ xs) = ⊥
AllSay (u ∷ us) [] = ⊥
AllSay (u ∷ us) (x ∷ xs) = Says u x × AllSay us xs
