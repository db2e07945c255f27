-- What the words after the program's name ask for: a list of words asks for one request at most.
use Rattle.std.specs.Prelude.{◌≡◌, ℕ, List, [], ◌∷◌, Bool, true, false, Option, Some, None, codes}
use Rattle.std.specs.Option.{IsSomeAnd}
use Rattle.clog_spec.specs.Names.{IsSegmentName}
use Rattle.sync_core.specs.declared.SyncCore.{SyncCore}
use Rattle.sync_core.specs.declared.SyncCore.TheVariants.{Batch, Periodic}
use Rattle.clog_words.specs.Given.{Setting, GivesOf, said}
use Rattle.clog_words.specs.Numbers.{IsNumberWithin}
use Rattle.clog_words.specs.Orders.{AsksOrders}
use Rattle.clog_words.specs.declared.choices.Mode.{Mode}
use Rattle.clog_words.specs.declared.choices.Mode.TheVariants.{Batch as BatchMode}
use Rattle.clog_words.specs.declared.choices.Mode.TheVariants.{Periodic as PeriodicMode}
use Rattle.clog_words.specs.declared.request.ApplyOptions.{ApplyOptions}
use Rattle.clog_words.specs.declared.request.ReplayOptions.{ReplayOptions}
use Rattle.clog_words.specs.declared.request.Request.{Request}
use Rattle.clog_words.specs.declared.request.Request.TheVariants.{Apply, Replay, Scan, Drill}
use Rattle.clog_words.specs.declared.request.Request.TheVariants.{Orders}
use Rattle.clog_words.specs.declared.request.WordsFault.{WordsFault}
use Rattle.clog_words.specs.declared.request.WordsFault.TheVariants.{Usage, OutOfMemory}

-- ---- what one option says: first where it is not given, then where it is

-- a mark
abbrev pub IsMark : Option Setting → Bool → Type 0
IsMark None given = given ≡ false
IsMark (Some setting) given = (setting.value ≡ None) × (given ≡ true)

abbrev pub IsValueWithin : ℕ → ℕ → Option (List ℕ) → ℕ → Type 0
IsValueWithin least most None number = ⊥
IsValueWithin least most (Some text) number = IsNumberWithin least most text number

-- a number that has a default
abbrev pub IsNumberOr : ℕ → ℕ → ℕ → Option Setting → ℕ → Type 0
IsNumberOr default least most None number = number ≡ default
IsNumberOr default least most (Some setting) number =
    IsValueWithin least most setting.value number

-- a number that has none
abbrev pub IsNumberIfSaid : ℕ → ℕ → Option Setting → Option ℕ → Type 0
IsNumberIfSaid least most None number = number ≡ None
IsNumberIfSaid least most (Some setting) number =
    IsSomeAnd number (IsValueWithin least most setting.value)

-- the word for the mode of syncing
abbrev pub IsMode : Option Setting → List ℕ → Type 0
IsMode None mode = mode ≡ codes "periodic"
IsMode (Some setting) mode = setting.value ≡ Some mode

-- a period is from 1 to 3600000 ms, and 10000 ms where none is given
abbrev pub IsPeriod : Option Setting → ℕ → Type 0
IsPeriod said_period period = IsNumberOr 10000 1 3600000 said_period period

-- the mode and the period; a period is allowed in batch mode, which has none
abbrev pub IsSync : Option Setting → Option Setting → SyncCore → Type 0
IsSync said_mode said_period Batch =
    IsMode said_mode (codes "batch") × ((period : ℕ) × IsPeriod said_period period)
IsSync said_mode said_period (Periodic period) =
    IsMode said_mode (codes "periodic") × IsPeriod said_period period

-- ---- the commands, by the words behind the command's own

abbrev pub apply_names : List (List ℕ)
apply_names =
    codes "writers" ∷ codes "sync" ∷ codes "period" ∷ codes "segment-kib" ∷ codes "flush-at"
    ∷ codes "archive" ∷ codes "receipts" ∷ codes "drain" ∷ codes "dump" ∷ []

pub record SaysApply (settings : List Setting) (options : ApplyOptions) : Type 0 where
  pub writers : IsNumberOr 1 1 64 (said (codes "writers") settings) options.writers
  pub sync :
      IsSync (said (codes "sync") settings) (said (codes "period") settings) options.sync
  pub segment_kib :
      IsNumberOr 32768 4 32768 (said (codes "segment-kib") settings) options.segment_kib
  pub flush_at : IsNumberIfSaid 1 1000000 (said (codes "flush-at") settings) options.flush_at
  pub archive : IsMark (said (codes "archive") settings) options.archive
  pub receipts : IsMark (said (codes "receipts") settings) options.receipts
  pub drain : IsMark (said (codes "drain") settings) options.drain
  pub dump : IsMark (said (codes "dump") settings) options.dump

-- `apply` and its options in any order
pub record AsksApply (words : List (List ℕ)) (options : ApplyOptions) : Type 0 where
  pub settings : List Setting
  pub given : GivesOf apply_names settings words
  pub says : SaysApply settings options

abbrev pub replay_names : List (List ℕ)
replay_names = codes "workers" ∷ codes "ignore-errors" ∷ []

pub record SaysReplay (settings : List Setting) (options : ReplayOptions) : Type 0 where
  pub workers : IsNumberOr 1 1 64 (said (codes "workers") settings) options.workers
  pub ignore_errors : IsMark (said (codes "ignore-errors") settings) options.ignore_errors

-- `replay` and its options in any order
pub record AsksReplay (words : List (List ℕ)) (options : ReplayOptions) : Type 0 where
  pub settings : List Setting
  pub given : GivesOf replay_names settings words
  pub says : SaysReplay settings options

-- `scan` and one word, the name of a segment of version 6
pub record AsksScan (words : List (List ℕ)) (name : List ℕ) : Type 0 where
  pub words_are : words ≡ name ∷ []
  pub id : ℕ
  pub segment : IsSegmentName name 6 id

-- `drill` and two words, the seed and the count
pub record AsksDrill (words : List (List ℕ)) (seed count : ℕ) : Type 0 where
  pub seed_text : List ℕ
  pub count_text : List ℕ
  pub words_are : words ≡ seed_text ∷ count_text ∷ []
  pub seed_is : IsNumberWithin 0 4294967295 seed_text seed
  pub count_is : IsNumberWithin 0 1000000 count_text count

-- The words, of which the first is the command, ask for this request.
abbrev pub Asks : List (List ℕ) → Request → Type 0
Asks [] request = ⊥
Asks (command ∷ words) (Apply options) = (command ≡ codes "apply") × AsksApply words options
Asks (command ∷ words) (Replay options) = (command ≡ codes "replay") × AsksReplay words options
Asks (command ∷ words) (Scan name) = (command ≡ codes "scan") × AsksScan words name
Asks (command ∷ words) (Drill seed count) =
    (command ≡ codes "drill") × AsksDrill words seed count
Asks (command ∷ words) (Orders readers rounds) =
    (command ≡ codes "orders") × AsksOrders words readers rounds

-- Want of memory says nothing of the words.
abbrev pub OnUsage : WordsFault → Type 0 → Type 0
OnUsage Usage P = P
OnUsage OutOfMemory P = Unit {0}

-- ---- for private clauses

abbrev pub letters_of : Mode → List ℕ
letters_of BatchMode = codes "batch"
letters_of PeriodicMode = codes "periodic"
