-- What the calls of readers answer and leave.
use Rattle.std.specs.Prelude.{◌≡◌, ◌≢◌, ◌⊎◌, ℕ, ◌^◌, ◌/◌, ◌<◌, ◌≤◌, List, Ok, Err, Some, None}
use Rattle.std.specs.List.{All, count_by}
use Rattle.std.specs.declared.result.Result.{Result}
use Rattle.atomic_table.specs.Seated.{TableId}
use Rattle.op_core.specs.CountWords.{number_in}
use Rattle.op_order.specs.declared.view.ReaderPart.{ReaderPart}
use Rattle.op_order.specs.declared.view.WordStep.{WordStep}
use Rattle.op_order.specs.declared.seats.Reader.{Reader}
use Rattle.op_order.specs.declared.seats.Running.{Running}
use Rattle.op_order.specs.declared.seats.Seen.{Seen}
use Rattle.op_order.specs.Parts.{read_of}
use Rattle.op_order.specs.Rule.{value_at, count_at}
use Rattle.op_order.specs.Told.{with_current, with_step, with_group, with_look, without_group}

-- all are readers of this order
abbrev pub AreOf : TableId → List Reader → Type 0
AreOf z readers = All (λ (r : Reader). r.seat.table_id ≡ z) readers

-- how many of its steps changed a word
abbrev pub acts_of : ReaderPart → ℕ
acts_of r = count_by (λ (t : WordStep). t.act) r.trail

-- It looked at the current group, and then at the word of that group.
abbrev pub looking : ℕ → ℕ → ℕ → ReaderPart → ReaderPart
looking places current looked r =
    with_step (count_at places current) looked (with_current current r)

-- The word was that of an open group of this number, and was still the same when the operation
-- registered in it.
pub record Registers (places : ℕ) (r r' : ReaderPart) : Type 0 where
  pub group : ℕ
  pub word : ℕ
  pub unmarked : word < 2 ^ 63
  pub number : number_in word ≡ group
  pub now : r' ≡ with_group (count_at places group) word (looking places group word r)

-- The word was that of an expired group, or another group's.
pub record IsShut (places looked found current : ℕ) (r r' : ReaderPart) : Type 0 where
  pub shut : (2 ^ 63 ≤ looked) ⊎ (number_in looked ≢ current)
  pub same : found ≡ looked
  pub now : r' ≡ looking places current looked r

-- The word was another when the operation was to register, which was one look more.
pub record IsOther (places looked found current : ℕ) (r r' : ReaderPart) : Type 0 where
  pub other : found ≢ looked
  pub now : r' ≡ with_step (count_at places current) found (looking places current looked r)

-- Why a start is refused, and that it made looks alone.
pub record Refuses (places looked found : ℕ) (r r' : ReaderPart) : Type 0 where
  pub current : ℕ
  pub cause : IsShut places looked found current r r' ⊎ IsOther places looked found current r r'
  pub looks_alone : acts_of r' ≡ acts_of r

-- What a start answers.
abbrev pub Starts : Result Running (Reader × Seen) → TableId → ℕ → Reader → Type 0
Starts (Ok op) z places reader = (op.seat.table_id ≡ z) × (op.sequence ≡ None)
    × Registers places (read_of reader.seat) (read_of op.seat)
Starts (Err (reader', seen)) z places reader = (reader'.seat.table_id ≡ z)
    × Refuses places seen.looked seen.found (read_of reader.seat) (read_of reader'.seat)

-- A look finds the root of this sequence, which is not below one that the reader found before.
pub record Looks (sequence : ℕ) (op op' : Running) : Type 0 where
  pub table : op'.seat.table_id ≡ op.seat.table_id
  pub looked : op'.sequence ≡ Some sequence
  pub later : (read_of op.seat).seen ≤ sequence
  pub word : ℕ
  pub root : word / 1024 ≡ sequence
  pub now : read_of op'.seat ≡ with_look word sequence (read_of op.seat)

-- The value is found in the place of the sequence at which the operation looked, and fits that.
pub record Finds (fits : ℕ → ℕ → Type 0) (places value : ℕ) (op op' : Running) : Type 0 where
  pub table : op'.seat.table_id ≡ op.seat.table_id
  pub same : op'.sequence ≡ op.sequence
  pub sequence : ℕ
  pub looked : op.sequence ≡ Some sequence
  pub fit : fits sequence value
  pub now : read_of op'.seat ≡ with_step (value_at places sequence) value (read_of op.seat)

-- The operation leaves its group.
pub record Ends (places : ℕ) (op : Running) (reader : Reader) : Type 0 where
  pub table : reader.seat.table_id ≡ op.seat.table_id
  pub group : ℕ
  pub own : (read_of op.seat).group ≡ Some group
  pub word : ℕ
  pub now : read_of reader.seat ≡ without_group (count_at places group) word (read_of op.seat)
