-- What a store holds as a keeper that was just opened, or that did nothing beside its log.
use Rattle.std.proofs.Common.{◌≡◌, ℕ, List, Option, refl, ap}
use Rattle.std.specs.Prelude.{false}
use base.Stored.{Gv}
use Rattle.clog_disk.specs.declared.change.Change.{Change}
use Rattle.clog_disk.specs.Files.{Files}
use Rattle.path_core.specs.Keeper.{Holding, IsFresh}
use Rattle.clog_segments.specs.StoreFolder.{no_deeds}
use Rattle.clog_segments.specs.StoreState.{StoreState, deeds_by, holding_of, store_over}
use Rattle.clog_closing.specs.Drained.{HasNoDeeds}

module _ {D : Type 0} (files : D → Option Files) (changes : D → Option (List Change))
    (moment faults : D → ℕ) (code : D → Gv) where
  abbrev Held : StoreState D → Holding
  Held x = holding_of files changes moment faults code x

  pub is_fresh : (a : StoreState D) → a ≡ store_over a.notes.log a.notes.sizes a.archives
      → a.notes.log.is_stopped ≡ false → IsFresh a.notes.base a.notes.sizes (Held a)
  is_fresh a is runs = record {
    base_is = refl;
    sizes_are = refl;
    runs = runs;
    nothing_synced = ap (λ (s : StoreState D). s.notes.synced) is;
    nothing_logged = ap (λ (s : StoreState D). s.notes.logged) is;
    nothing_kept = ap (λ (s : StoreState D). s.notes.kept) is;
    no_file = ap (λ (s : StoreState D). s.files) is;
    none_refused = refl;
    none_dropped = ap (λ (s : StoreState D). s.dropped) is;
    none_archived = ap (λ (s : StoreState D). s.archived) is;
  }

  -- what it has done beside its log is nothing
  pub none_done : (b : StoreState D) → HasNoDeeds (Held b) → deeds_by b ≡ no_deeds b.archives
  none_done b none = λ i. record {
    archives = b.archives;
    files = none.no_file i;
    dropped = none.none_dropped i;
    archived = none.none_archived i;
  }
