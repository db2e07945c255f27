-- The writes of a file's lines, each in a place of its own.
use Rattle.std.specs.Prelude.{ℕ, ◌+◌, List, [], ◌∷◌, Option, Err, ⊤}
use Rattle.clog_base.specs.declared.sizes.Sizes.{Sizes}
use Rattle.clog_mutation.specs.declared.mutation.Mutation.{Mutation}
use Rattle.clog_mutation.specs.Limits.{IsWithinLimits}
use Rattle.write_path.specs.Writes.{IsPrepared}
use Rattle.clog_shares.specs.declared.preparing.LineWrite.{LineWrite}
use Rattle.clog_shares.specs.declared.preparing.LineWrite.TheVariants.{
  Made,
  Refused,
  Waiting,
}
use Rattle.clog_shares.specs.Planned.{PreparesLine}
use Rattle.clog_shares.specs.Tallied.{IsCountedFor}

-- a line within its limits is there, and its write is to come
abbrev pub WaitsWithin : LineWrite → Type 0
WaitsWithin (Waiting m) = IsWithinLimits m
WaitsWithin (Made write counts) = ⊥
WaitsWithin (Refused fault) = ⊥

-- the write of a line is there, with the counts of its updates; or why it is not
abbrev pub HasWriteOf : Sizes → Option ℕ → ℕ → Mutation → LineWrite → Type 0
HasWriteOf sizes flush line m (Waiting other) = ⊥
HasWriteOf sizes flush line m (Made write counts) =
    IsPrepared sizes line m write × IsCountedFor flush m counts
HasWriteOf sizes flush line m (Refused fault) = PreparesLine sizes line m (Err fault)

-- the line that was there before has its write there now
abbrev pub PreparesPlace : Sizes → Option ℕ → ℕ → LineWrite → LineWrite → Type 0
PreparesPlace sizes flush line (Waiting m) now = HasWriteOf sizes flush line m now
PreparesPlace sizes flush line (Made write counts) now = ⊥
PreparesPlace sizes flush line (Refused fault) now = ⊥

-- each of these lines, which stand behind so many others, has its write in its place
abbrev pub HaveWritesOf : Sizes → Option ℕ → ℕ → List Mutation → List LineWrite → Type 0
HaveWritesOf sizes flush before [] [] = ⊤
HaveWritesOf sizes flush before [] (place ∷ places) = ⊥
HaveWritesOf sizes flush before (m ∷ ms) [] = ⊥
HaveWritesOf sizes flush before (m ∷ ms) (place ∷ places) =
    HasWriteOf sizes flush (before + 1) m place
    × HaveWritesOf sizes flush (before + 1) ms places
