-- Where the words stand, and what number stands for what is read there.
use Rattle.std.specs.Prelude.{◌≡◌, ◌⊎◌, Some, ℕ, ◌%◌, ◌≤◌, length, ◌+◌, ◌-◌, ◌*◌, ◌^◌, ◌<◌, ◌==◌}
use Rattle.std.specs.Prelude.{nat_lt, List, set, replicate, if◌then◌else◌}
use Rattle.op_core.specs.declared.count.Order.TheVariants.{Write, Append}
use Rattle.op_core.specs.declared.count.Tally.{Tally}
use Rattle.op_core.specs.CountWords.{count_word, number_in, tally_in}
use Rattle.path_core.specs.declared.event.Cursor.TheVariants.{Synced, OldestLive, Stopped}
use Rattle.path_core.specs.declared.event.Event.{Event}
use Rattle.path_core.specs.declared.event.Event.TheVariants.{OpenGroup, Switch}
use Rattle.path_core.specs.declared.event.Place.{Place}
use Rattle.path_core.specs.declared.event.Place.TheVariants.{Count, Current, Oldest, Log, Newest}
use Rattle.path_core.specs.declared.event.Place.TheVariants.{Bound, TurnWord, CursorWord}
use Rattle.path_core.specs.declared.event.Reading.{Reading}
use Rattle.path_core.specs.declared.event.Reading.TheVariants.{Operations, Number, Limit}
use Rattle.path_core.specs.declared.event.SwitchPart.TheVariants.{Clear}
use Rattle.path_core.specs.declared.event.Turn.TheVariants.{Sync, Flush}
use Rattle.path_core.specs.declared.state.Bound.{Bound as BoundOf}
use Rattle.path_core.specs.declared.state.Bound.TheVariants.{Live, Raising, Final}
use Rattle.path_core.specs.declared.state.PathState.{PathState}
use Rattle.path_core.specs.Parts.{cleared_of, groups_of, seat_of, table_of}
use Rattle.path_core.specs.Words.{place_of}

-- The numbers of groups and of memtables are below this one: a count's word has room for so many.
abbrev pub numbers_end : ℕ
numbers_end = 2 ^ 47

-- and the words in all
abbrev pub word_rows : ℕ
word_rows = 704

-- Where the word of a place stands. Those that all seats share, the counts too, are eight apart, so
-- that each has a cache line of its own.
abbrev pub word_at : Place → ℕ
word_at (Current Write) = 0
word_at (Current Append) = 8
word_at (Oldest Write) = 16
word_at (Oldest Append) = 24
word_at Log = 32
word_at (CursorWord Synced) = 40
word_at (CursorWord Stopped) = 48
word_at (TurnWord Sync) = 56
word_at (Newest t) = 64 + 4 * t.0
word_at (TurnWord (Flush t)) = 65 + 4 * t.0
word_at (CursorWord (OldestLive t)) = 66 + 4 * t.0
word_at (Count Write g) = 128 + 16 * (g % 32)
word_at (Count Append g) = 136 + 16 * (g % 32)
word_at (Bound t m) = 640 + 16 * (m % 4) + t.0

-- there is a word for the place, which that of a group or of a memtable shares with others
abbrev pub IsWord : Place → Type 0
IsWord (Count order g) = Unit {0}
IsWord (Newest t) = t.0 < 16
IsWord (TurnWord (Flush t)) = t.0 < 16
IsWord (CursorWord (OldestLive t)) = t.0 < 16
IsWord (Bound t m) = t.0 < 16
IsWord _ = Unit {0}

-- One of the last 32 groups of an order.
abbrev pub IsLate : List Tally → ℕ → Type 0
IsLate tallies g = (g < length tallies) × (length tallies ≤ g + 32)

-- One of the last three memtables of a table, or the one to come, once a seat has cleared its
-- place.
abbrev pub IsNear : PathState → ℕ → ℕ → Type 0
IsNear x t m = ((m ≤ (table_of x t).newest) × ((table_of x t).newest ≤ m + 2))
    ⊎ ((w : ℕ) × (cleared_of (seat_of x w) t ≡ Some m))

-- The word at a place's number shows this place: of those that share one, the last.
abbrev pub IsShown : PathState → Place → Type 0
IsShown x (Count order g) = IsLate (groups_of x order).tallies g
IsShown x (Bound t m) = (t.0 < 16) × IsNear x t.0 m
IsShown x p = IsWord p

-- A step of those that run: at a place that is shown, or one that makes it so.
abbrev pub ActsShown : PathState → Event → Type 0
ActsShown x (OpenGroup by order g) = Unit {0}
ActsShown x (Switch by t n Clear) = Unit {0}
ActsShown x e = IsShown x (place_of e)

-- The word of a bound: the marks lie above all keys.
abbrev pub bound_word : BoundOf → ℕ
bound_word Live = 0
bound_word (Raising k) = k.0 + 2 ^ 62
bound_word (Final k) = k.0 + 2 ^ 63

-- The word of what is read at a place.
abbrev pub word_of : Reading → ℕ
word_of (Operations k) = count_word 0 k
word_of (Number n) = n
word_of (Limit b) = bound_word b

-- The word at a place: that of a count tells its group too.
abbrev pub word_for : Place → Reading → ℕ
word_for (Count order g) (Operations k) = count_word g k
word_for (Count order g) (Number n) = n
word_for (Count order g) (Limit b) = bound_word b
word_for p r = word_of r

-- The place that a look found: of a count that of the group whose number stands in the word.
abbrev pub seen_at : Place → ℕ → Place
seen_at (Count order g) n = Count order (number_in n)
seen_at p n = p

-- and back
abbrev pub bound_in : ℕ → BoundOf
bound_in n = if n == 0 then Live
    else (if nat_lt n (2 ^ 63) then Raising (record { 0 = n - 2 ^ 62 }) else Final
    (record { 0 = n - 2 ^ 63 }))

abbrev pub reading_at : Place → ℕ → Reading
reading_at (Count order g) n = Operations (tally_in n)
reading_at (Bound t m) n = Limit (bound_in n)
reading_at _ n = Number n

-- the words of a new table: the log is at its first key, and all else is 0
abbrev pub first_words : List ℕ
first_words = set (replicate 704 0) 32 28
