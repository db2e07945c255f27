-- Why a line is refused, as an answer and as a text.
use Rattle.std.specs.Prelude.{◌≡◌, ℕ, List, [], ◌∷◌, ◌++◌, codes, Option, Some, None, Result, Ok}
use Rattle.std.specs.Prelude.{Err, ⊤}
use Rattle.clog_text.specs.declared.refusal.Part.{Part}
use Rattle.clog_text.specs.declared.refusal.Part.TheVariants.{Line, Key, Updates, Update, Table}
use Rattle.clog_text.specs.declared.refusal.Part.TheVariants.{Column, Ts, Value}
use Rattle.clog_text.specs.declared.refusal.BadLine.{BadLine}
use Rattle.clog_text.specs.declared.refusal.BadLine.TheVariants.{NotJson, Field, Range, NoUpdates}
use Rattle.clog_text.specs.declared.refusal.BadLine.TheVariants.{UnknownTable, OutOfMemory}

abbrev pub part_name : Part → List ℕ
part_name Line = codes "line"
part_name Key = codes "key"
part_name Updates = codes "updates"
part_name Update = codes "update"
part_name Table = codes "table"
part_name Column = codes "column"
part_name Ts = codes "ts"
part_name Value = codes "value"

abbrev pub refusal_name : BadLine → List ℕ
refusal_name NotJson = codes "NotJson"
refusal_name (Field part) = codes "Field"
refusal_name (Range part) = codes "Range"
refusal_name NoUpdates = codes "NoUpdates"
refusal_name UnknownTable = codes "UnknownTable"
refusal_name OutOfMemory = codes "OutOfMemory"

abbrev pub part_of : BadLine → Option Part
part_of NotJson = None
part_of (Field part) = Some part
part_of (Range part) = Some part
part_of NoUpdates = None
part_of UnknownTable = None
part_of OutOfMemory = None

abbrev pub behind_space : Option Part → List ℕ
behind_space None = []
behind_space (Some part) = 32 ∷ part_name part

-- the refusal's name, and behind a space its part where it has one
abbrev pub refusal_text : BadLine → List ℕ
refusal_text cause = refusal_name cause ++ behind_space (part_of cause)

-- the reading was refused for this cause, unless memory ran out
abbrev pub Fails : {A : Type 0} → BadLine → Result A BadLine → Type 0
Fails NotJson reading = reading ≡ Err NotJson
Fails (Field part) reading = reading ≡ Err (Field part)
Fails (Range part) reading = reading ≡ Err (Range part)
Fails NoUpdates reading = reading ≡ Err NoUpdates
Fails UnknownTable reading = reading ≡ Err UnknownTable
Fails OutOfMemory reading = ⊤

-- the answer is the reading, unless memory ran out
abbrev pub Gives : {A : Type 0} → Result A BadLine → Result A BadLine → Type 0
Gives (Ok x) reading = reading ≡ Ok x
Gives (Err cause) reading = Fails cause reading

-- the same of an answer that is seen by a view
abbrev pub GivesAs : {A B : Type 0} → (A → B) → Result A BadLine → Result B BadLine → Type 0
GivesAs view (Ok x) reading = reading ≡ Ok (view x)
GivesAs view (Err cause) reading = Fails cause reading
