-- What a crash leaves, by what a store tells that goes on from one that was just opened.
use Rattle.std.proofs.Common.{
  ◌≡◌,
  ℕ,
  ◌≤◌,
  Bool,
  false,
  List,
  ◌++◌,
  Option,
  Some,
  length,
  sym,
  ◌∙◌,
  ap,
  subst,
  arith,
}
use Rattle.std.specs.Prelude.{Err, IfOk, Ok, Result, option_map}
use Rattle.clog_base.specs.declared.sizes.Sizes.{Sizes}
use Rattle.clog_disk.specs.declared.change.Change.{Change}
use Rattle.clog_disk.specs.Files.{Files, SameTold, bytes_at}
use Rattle.clog_disk.specs.Images.{IsLater}
use Rattle.clog_mutation.specs.declared.mutation.Mutation.{Mutation}
use Rattle.clog_crash.specs.Readings.{Reading}
use Rattle.clog_crash.specs.Sections.{IsStored}
use Rattle.clog_segments.specs.Grows.{segments_with}
use Rattle.clog_segments.specs.Life.{LastsNow, ShownSince, lasting_in}
use Rattle.clog_segments.specs.NoteLog.{IsNoteLog, NoteState}
use Rattle.clog_segments.specs.StoreState.{StoreState}
use Rattle.clog_closing.specs.Written.{GoesBeyond, HasBrought}
use Rattle.clog_shares.specs.declared.fault.WriteFault.{WriteFault}
use Rattle.clog_writers.specs.Left.{LeavesShares, least_of}
use Rattle.clog_writers.specs.Logged.{HoldFirsts, HoldShares}
use Rattle.clog_writers.proofs.Counted.{as_many_lines}
use Rattle.clog_writers.proofs.Crashing.{lasting, leaves_shares}

-- how many lines last for sure, by the answer
pub least_reached : {T : Type 0} (r : Result T WriteFault) (ms : List Mutation) (k : ℕ)
    → IfOk r (λ done. length ms ≤ k) → least_of r ms ≤ k
least_reached (Ok done) ms k all = all
least_reached (Err fault) ms k all = omega arith

-- where all shares are logged, all lines last
pub all_last : {D : Type 0} (s : NoteState D) (is : IsNoteLog s)
    (stored : IsStored s.log.id s.log.sections) (sizes : Sizes) (ms : List Mutation)
    → HoldFirsts sizes.writers ms (s.logged ++ s.kept)
    → HoldShares sizes.capacity sizes.writers ms s.logged → length ms ≤ lasting_in s.log
all_last s is stored sizes ms held shares =
    let some = sizes.within.some_writer in
    let many = as_many_lines sizes.capacity sizes.writers ms s.logged (omega (arith, some)) shares
    in
    let all = lasting s is stored sizes.writers ms held in
    omega (arith, many, all)

module _ {D : Type 0} (files : D → Option Files) (changes : D → Option (List Change))
    (moment : D → ℕ) (since : D → ℕ → Files → Type 0)
    (leaves : D → List ℕ → Option (List ℕ) → Type 0) (read_at : D → ℕ → Option Reading)
    (lasted_at : D → ℕ → Type 0)
    (reads_now : (d : D) → read_at d (moment d) ≡ option_map bytes_at (files d)) (start : D)
    (b : StoreState D) (its : b.first ≡ start) where
  -- what it tells when it gives its disk back
  pub record TellsLife (given : D) : Type 0 where
    pub disk : given ≡ b.notes.log.disk
    pub opened : b.notes.log.opened ≡ moment b.first
    pub later : IsLater moment read_at lasted_at b.first given
    pub notes : IsNoteLog b.notes
    pub stored : IsStored b.notes.log.id b.notes.log.sections
    pub shown : lasted_at given b.notes.log.opened
        → ShownSince files moment since read_at lasted_at b.first given b.notes.log.opened
        b.notes.log.past b.notes.log.id b.notes.log.sections
    pub lasts : lasted_at given b.notes.log.opened
        → LastsNow files leaves read_at lasted_at b.notes.log

  pub left_by : (given : D) → TellsLife given → SameTold (files start) (files b.notes.log.disk)
      → (base : ℕ) (flushing archives drain : Bool) (writers least : ℕ) (ms : List Mutation)
      → HoldFirsts writers ms (b.notes.logged ++ b.notes.kept) → least ≤ lasting_in b.notes.log
      → (brought : HasBrought files changes start b.notes.log.disk base flushing archives drain
      writers ms (segments_with b.notes.log.past b.notes.log.id b.notes.log.sections))
      → (flushing ≡ false → GoesBeyond brought.added → length ms ≤ lasting_in b.notes.log)
      → (opened : Files) → files start ≡ Some opened → lasted_at start (moment start)
      → LeavesShares files changes moment since leaves start given (bytes_at opened) base flushing
      archives drain writers ms least
  left_by given told same base flushing archives drain writers least ms held le brought full
      opened is lasted =
      let log = b.notes.log in
      subst (λ (d : D). LeavesShares files changes moment since leaves start d (bytes_at opened)
      base flushing archives drain writers ms least) (sym told.disk)
      (leaves_shares b.notes told.notes told.stored writers ms held files changes moment since
      leaves read_at lasted_at reads_now start (told.opened ∙ ap moment its)
      (subst (λ (f : D). IsLater moment read_at lasted_at f log.disk) its
      (subst (λ (d : D). IsLater moment read_at lasted_at b.first d) told.disk told.later))
      same opened is lasted
      (subst (λ (f : D). lasted_at log.disk log.opened → ShownSince files moment since read_at
      lasted_at f log.disk log.opened log.past log.id log.sections) its
      (subst (λ (d : D). lasted_at d log.opened → ShownSince files moment since read_at lasted_at
      b.first d log.opened log.past log.id log.sections) told.disk told.shown))
      (subst (λ (d : D). lasted_at d log.opened → LastsNow files leaves read_at lasted_at log)
      told.disk told.lasts) base flushing archives drain least le brought full)
