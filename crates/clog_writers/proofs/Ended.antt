-- What a store tells where all lines were logged, flushed and drained as it was asked for.
use Rattle.std.proofs.Common.{
  ◌≡◌,
  ◌⊎◌,
  ℕ,
  inl,
  inr,
  Bool,
  true,
  false,
  List,
  Option,
  Some,
  length,
  sym,
  ◌∙◌,
  subst,
}
use Rattle.std.specs.Prelude.{is_some}
use Rattle.std.proofs.lemmas.Bool.{true≢false}
use base.Stored.{Gv}
use Rattle.clog_base.specs.declared.sizes.Sizes.{Sizes}
use Rattle.clog_disk.specs.declared.change.Change.{Change}
use Rattle.clog_disk.specs.Files.{Files}
use Rattle.clog_mutation.specs.declared.mutation.Mutation.{Mutation}
use Rattle.clog_words.specs.declared.request.ApplyOptions.{ApplyOptions}
use Rattle.sync_core.specs.declared.SyncCore.{SyncCore}
use Rattle.sync_core.specs.declared.SyncCore.TheVariants.{Batch}
use Rattle.path_core.specs.Keeper.{Holding}
use Rattle.clog_segments.specs.NoteLog.{IsNoteLog}
use Rattle.clog_segments.specs.StoreFolder.{IsSound}
use Rattle.clog_segments.specs.StoreState.{HasOrdered, HoldsIt, StoreState, holding_of}
use Rattle.clog_layout.specs.Ends.{synced_to}
use Rattle.clog_closing.specs.Beside.{HasFinished}
use Rattle.clog_closing.specs.Drained.{HasBegun, HasNoDeeds}
use Rattle.clog_closing.specs.Gaps.{StandApart}
use Rattle.clog_closing.proofs.Begins.{begun_of_none}
use Rattle.clog_closing.proofs.Dropped.{StoresAreLeft}
use Rattle.write_path.specs.declared.commit.Receipt.{Receipt}
use Rattle.clog_writers.specs.Logged.{HaveFlushedShares, LogsShares}
use Rattle.clog_writers.specs.Placed.{AreAtTheirLines}
use Rattle.clog_writers.specs.Written.{AsksFor, TellsWrittenShares}
use Rattle.clog_writers.proofs.Leaving.{written as written_in}

module _ {D : Type 0} (files : D → Option Files) (changes : D → Option (List Change))
    (moment faults : D → ℕ) (code : D → Gv)
    (tells : (d : D) → is_some (changes d) ≡ is_some (files d)) (e : StoreState D)
    (runs : e.notes.log.is_stopped ≡ false) (notes : IsNoteLog e.notes)
    (sound : IsSound e.notes.log) (folder : HoldsIt files e) (ordered : HasOrdered changes e)
    (law : StoresAreLeft) (sizes : Sizes) (base : ℕ) (ms : List Mutation)
    (logs : LogsShares sizes base ms (holding_of files changes moment faults code e))
    (flush : Option ℕ) (drain : Bool)
    (finished : HasFinished drain (holding_of files changes moment faults code e))
    (flushed : HaveFlushedShares flush sizes.writers
    (holding_of files changes moment faults code e)) (P : Type 0)
    (begun : is_some flush ≡ false
    → HasNoDeeds (holding_of files changes moment faults code e)
    ⊎ ((drain ≡ true) × P
    × HasBegun (holding_of files changes moment faults code e) (synced_to e.notes.logged))) where
  abbrev Held : Holding
  Held = holding_of files changes moment faults code e

  none : is_some flush ≡ false → drain ≡ false → HasNoDeeds Held
  none plain not = elim (begun plain) [
    | inl so ↦ so
    | inr part ↦ absurd (true≢false (sym part.0 ∙ not))
  ]

  so_far : is_some flush ≡ false → HasBegun Held (synced_to e.notes.logged)
  so_far plain = elim (begun plain) [
    | inl so ↦ begun_of_none Held (synced_to e.notes.logged) so
    | inr part ↦ part.2
  ]

  pub written : (mode : SyncCore) → (mode ≡ Batch → StandApart sizes.capacity e.notes.logged)
      → (options : ApplyOptions) → AsksFor options sizes mode flush e.archives drain
      → (receipts : List Receipt) → AreAtTheirLines base e.notes.logged receipts
      → length receipts ≡ length ms → (opened : Files) (made : List Change)
      → files e.first ≡ Some opened → changes e.first ≡ Some made
      → TellsWrittenShares options base opened made (files e.notes.log.disk)
      (changes e.notes.log.disk) ms receipts
  written mode apart options asked receipts placed long opened made is made_is =
      subst (λ (k : ℕ). TellsWrittenShares options k opened made (files e.notes.log.disk)
      (changes e.notes.log.disk) ms receipts) logs.base_is
      (written_in files changes moment faults code tells e runs notes sound folder ordered law
      sizes ms logs.notes logs.none_passed logs.none_kept options mode flush drain asked
      (record { finished = finished; flushed = flushed; none = none; begun = so_far }) apart
      receipts
      (subst (λ (k : ℕ). AreAtTheirLines k e.notes.logged receipts) (sym logs.base_is) placed)
      long opened made is made_is)
