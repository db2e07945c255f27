-- Histories: the lines that a run logged, who wrote each, and where it stands in the log.
use Rattle.std.specs.Prelude.{
  ◌≡◌,
  ◌⊎◌,
  ℕ,
  ◌+◌,
  ◌%◌,
  ◌<◌,
  ◌≤◌,
  ◌==◌,
  Bool,
  List,
  [],
  ◌∷◌,
  length,
  map,
  Contains,
}
use Rattle.std.specs.List.{filter, AllPairs, count_by}
use Rattle.clog_spec.specs.Sizes.{front_size, frame_size}
use Rattle.clog_base.specs.declared.position.Position.{Position}
use Rattle.clog_mutation.specs.declared.mutation.Mutation.{Mutation}
use Rattle.clog_mutation.specs.Payload.{payload_of}
use Rattle.clog_mutation.specs.Stored.{IsStored}
use Rattle.clog_scan.specs.Segment.{Entry}
use Rattle.clog_crash.specs.Restore.{end_position}

-- A line of the mutation file as it is logged: its writer, its number, from 1, the id of the
-- segment and the range in it that its entry has, and what it says.
pub record LoggedLine : Type 0 where
  pub writer : ℕ
  pub number : ℕ
  pub id : ℕ
  pub start : ℕ
  pub end : ℕ
  pub mutation : Mutation

-- its entry
abbrev pub entry_of : LoggedLine → Entry
entry_of w = record { start = w.start; end = w.end; payload = payload_of w.mutation }

-- its position in the log: where its entry ends
abbrev pub logged_at : LoggedLine → Position
logged_at w = end_position w.id (entry_of w)

-- ---- where entries stand

-- The entry stands behind its segment's front and below its capacity, and its range is as long as
-- its payload with the frame around it.
pub record IsPlaced (capacity : ℕ) (w : LoggedLine) : Type 0 where
  pub behind_front : front_size ≤ w.start
  pub long : w.end ≡ w.start + frame_size + length (payload_of w.mutation)
  pub inside : w.end ≤ capacity
  pub stored : IsStored w.mutation

-- one range ends before another begins
abbrev pub IsBefore : LoggedLine → LoggedLine → Type 0
IsBefore a b = (a.id < b.id) ⊎ ((a.id ≡ b.id) × (a.end ≤ b.start))

-- entries in the order of the log, none over another
pub record IsLawful (capacity : ℕ) (history : List LoggedLine) : Type 0 where
  pub each : (w : LoggedLine) → Contains history w → IsPlaced capacity w
  pub apart : AllPairs IsBefore history

-- ---- whose lines they are

-- a line of the mutation file: its number, and what it says
pub record Line : Type 0 where
  pub number : ℕ
  pub mutation : Mutation

abbrev pub line_of : LoggedLine → Line
line_of w = record { number = w.number; mutation = w.mutation }

-- lines, numbered from n on
abbrev pub numbered : ℕ → List Mutation → List Line
numbered n [] = []
numbered n (m ∷ ms) = record { number = n; mutation = m } ∷ numbered (n + 1) ms

abbrev pub is_for : ℕ → ℕ → Line → Bool
is_for writers writer line = line.number % writers == writer

-- a writer's share of the lines: those whose number, divided by the count of writers, leaves its
-- own
abbrev pub share_of : ℕ → ℕ → List Mutation → List Line
share_of writers writer mutations = filter (is_for writers writer) (numbered 1 mutations)

abbrev pub is_by : ℕ → LoggedLine → Bool
is_by writer w = w.writer == writer

abbrev pub is_line : ℕ → LoggedLine → Bool
is_line n w = w.number == n

-- what a writer logged, in order
abbrev pub written_by : ℕ → List LoggedLine → List Line
written_by writer history = map line_of (filter (is_by writer) history)

-- Each writer logged its share, in order; so each line is logged once, and nothing else is.
pub record HoldsShares (writers : ℕ) (mutations : List Mutation) (history : List LoggedLine)
    : Type 0 where
  pub known : (w : LoggedLine) → Contains history w → w.writer < writers
  pub shares : (writer : ℕ) → writer < writers
      → written_by writer history ≡ share_of writers writer mutations
  pub once : (n : ℕ) → 1 ≤ n → n ≤ length mutations → count_by (is_line n) history ≡ 1
  pub no_other : (w : LoggedLine) → Contains history w
      → Contains (numbered 1 mutations) (line_of w)
