-- What the words of the command line ask for, of what the program does.
use Rattle.std.specs.Prelude.{◌≡◌, ◌≤◌, List, ℕ, Option, Some, MatchOption, String}
use Rattle.std.specs.declared.alloc.Global.{Global}
use Rattle.clog_spec.specs.Sizes.{most_segments, most_tables}
use Rattle.clog_base.specs.declared.sizes.Sizes.{Sizes}
use Rattle.clog_words.specs.declared.built.Built.{Built}
use Rattle.clog_words.specs.declared.request.ApplyOptions.{ApplyOptions}
use Rattle.clog_words.specs.Built.{AsksBuilt}
use Rattle.clog_words.specs.Given.{texts}
use Rattle.clog_applied.specs.Asked.{capacity_of}

-- The counts of writers and of updates, and the capacity, are within their limits.
pub record IsDoable (options : ApplyOptions) : Type 0 where
  pub some_writer : 1 ≤ options.writers
  pub few_writers : options.writers ≤ 64
  pub least : 4 ≤ options.segment_kib
  pub most : options.segment_kib ≤ 32768
  pub some_updates : (count : ℕ) → options.flush_at ≡ Some count → 1 ≤ count
  pub few_updates : (count : ℕ) → options.flush_at ≡ Some count → count ≤ 1000000

-- How large a log is that has as many writers as are asked for, and whose segments have the
-- capacity that is asked for, and are as many as there may be, of as many tables.
pub record AreSizesOf (options : ApplyOptions) (sizes : Sizes) : Type 0 where
  pub writers : sizes.writers ≡ options.writers
  pub capacity : sizes.capacity ≡ capacity_of options
  pub ordinals : sizes.ordinals ≡ most_segments
  pub tables : sizes.tables ≡ most_tables

-- The words, as their letters, ask for this, or for nothing that the program does.
abbrev pub GivesRequest : List (List ℕ) → Option Built → Type 0
GivesRequest words request =
    MatchOption request ((other : Built) → ¬ AsksBuilt words other) (AsksBuilt words)

-- the same of words as they are given
abbrev pub Asks : List (String Global) → Option Built → Type 0
Asks words request = GivesRequest (texts words) request
