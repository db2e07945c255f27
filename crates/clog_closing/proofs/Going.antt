-- A keeper goes on beside its log, which stays: table files are put, and segments go. So does a
-- store, step by step.
use Rattle.std.proofs.Common.{◌≡◌, ℕ, List, [], ◌++◌, Err, refl, ◌∙◌, ap}
use Rattle.std.specs.Prelude.{Bool, Result, false, ◌||◌}
use base.Stored.{Gv}
use Rattle.clog_base.proofs.Members.{nothing_there}
use Rattle.clog_disk.specs.declared.disk.Disk.{Ghosts as DiskTells}
use Rattle.path_core.specs.declared.keeper.KeeperFault.{KeeperFault}
use Rattle.path_core.specs.declared.keeper.KeeperFault.TheVariants.{OutOfMemory, Stopped}
use Rattle.path_core.specs.Keeper.{
  DropRefused,
  Drops,
  HasKeeperCause,
  Holding,
  PutFile,
  is_stopped,
}
use Rattle.clog_memtable.specs.declared.flushing.Memtable.{Memtable}
use Rattle.clog_memtable.specs.Flushing.{HasPutFiles}
use Rattle.clog_segments.specs.StoreState.{StoreState}
use Rattle.clog_segments.proofs.Lived.{lives_further}
use Rattle.clog_closing.specs.Drained.{EndsAs, HasGoneOn, KeepsLog, held_in}

-- ---- the log stays

-- from its parts
keeps_as : (before now : Holding) → now.base ≡ before.base → now.sizes ≡ before.sizes
    → now.opening ≡ before.opening → now.at_open ≡ before.at_open → now.synced ≡ before.synced
    → now.logged ≡ before.logged → now.kept ≡ before.kept → KeepsLog before now
keeps_as before now base sizes opening at_open synced logged kept i = record now {
  base = base i;
  sizes = sizes i;
  opening = opening i;
  at_open = at_open i;
  synced = synced i;
  logged = logged i;
  kept = kept i;
}

-- where a keeper is another with the same log
keeps_from : (before mid now : Holding) → now ≡ mid → mid.base ≡ before.base
    → mid.sizes ≡ before.sizes → mid.opening ≡ before.opening → mid.at_open ≡ before.at_open
    → mid.synced ≡ before.synced → mid.logged ≡ before.logged → mid.kept ≡ before.kept
    → KeepsLog before now
keeps_from before mid now is base sizes opening at_open synced logged kept =
    keeps_as before now (ap (λ (h : Holding). h.base) is ∙ base)
    (ap (λ (h : Holding). h.sizes) is ∙ sizes) (ap (λ (h : Holding). h.opening) is ∙ opening)
    (ap (λ (h : Holding). h.at_open) is ∙ at_open)
    (ap (λ (h : Holding). h.synced) is ∙ synced) (ap (λ (h : Holding). h.logged) is ∙ logged)
    (ap (λ (h : Holding). h.kept) is ∙ kept)

pub keeps_on : (before mid now : Holding) → KeepsLog before mid → KeepsLog mid now
    → KeepsLog before now
keeps_on before mid now first next =
    keeps_as before now
    (ap (λ (h : Holding). h.base) next ∙ ap (λ (h : Holding). h.base) first)
    (ap (λ (h : Holding). h.sizes) next ∙ ap (λ (h : Holding). h.sizes) first)
    (ap (λ (h : Holding). h.opening) next ∙ ap (λ (h : Holding). h.opening) first)
    (ap (λ (h : Holding). h.at_open) next ∙ ap (λ (h : Holding). h.at_open) first)
    (ap (λ (h : Holding). h.synced) next ∙ ap (λ (h : Holding). h.synced) first)
    (ap (λ (h : Holding). h.logged) next ∙ ap (λ (h : Holding). h.logged) first)
    (ap (λ (h : Holding). h.kept) next ∙ ap (λ (h : Holding). h.kept) first)

pub keeps_put : (before now : Holding) (files : List PutFile) → HasPutFiles before now files
    → KeepsLog before now
keeps_put before now files put =
    keeps_from before (record before {
      faults = now.faults;
      stopped = now.stopped;
      files = before.files ++ files;
      refused = now.refused;
    }) now put refl refl refl refl refl refl refl

pub keeps_drop : (before now : Holding) (closed count : ℕ) → Drops before now closed count
    → KeepsLog before now
keeps_drop before now closed count drops =
    keeps_as before now (ap (λ (h : Holding). h.base) drops.holds)
    (ap (λ (h : Holding). h.sizes) drops.holds) (ap (λ (h : Holding). h.opening) drops.holds)
    (ap (λ (h : Holding). h.at_open) drops.holds) (ap (λ (h : Holding). h.synced) drops.holds)
    (ap (λ (h : Holding). h.logged) drops.holds) (ap (λ (h : Holding). h.kept) drops.holds)

pub keeps_refused : (before now : Holding) (closed : ℕ) → DropRefused before now closed
    → KeepsLog before now
keeps_refused before now closed drops =
    keeps_as before now (ap (λ (h : Holding). h.base) drops.holds)
    (ap (λ (h : Holding). h.sizes) drops.holds) (ap (λ (h : Holding). h.opening) drops.holds)
    (ap (λ (h : Holding). h.at_open) drops.holds) (ap (λ (h : Holding). h.synced) drops.holds)
    (ap (λ (h : Holding). h.logged) drops.holds) (ap (λ (h : Holding). h.kept) drops.holds)

-- ---- how a call ends

-- a call of a keeper that had not stopped
pub ends_by : {T : Type 0} (before now : Holding) (r : Result T KeeperFault)
    → before.stopped ≡ false → HasKeeperCause before now r → EndsAs now r
ends_by before now r runs cause = record {
  stopped = cause.kept_in_mind ∙ ap (λ (x : Bool). x || is_stopped r) runs;
  counts = cause.counts;
}

-- a fault is told alike, whatever else might have been answered
pub same_end : {S T : Type 0} (h : Holding) (fault : KeeperFault)
    → EndsAs {T = S} h (Err fault) → EndsAs {T = T} h (Err fault)
same_end h (Stopped at_open now) ends = record { stopped = ends.stopped; counts = ends.counts }
same_end h OutOfMemory ends = record { stopped = ends.stopped; counts = tt }

-- ---- a store

-- a step that puts no file comes behind another
pub gone_on : {D : Type 0} (disk : DiskTells D) (code : D → Gv) (a b c : StoreState D)
    (ms : List Memtable) (r q : Result (Unit {0}) KeeperFault)
    → HasGoneOn disk code a b ms r → HasGoneOn disk code b c [] q → HasGoneOn disk code a c ms q
gone_on disk code a b c ms r q first next = record {
  begun = λ upper reach begun.
      next.begun upper (λ m none. absurd (nothing_there m none)) (first.begun upper reach begun);
  good = λ good holds.
      next.good (first.good good holds) (λ m none. absurd (nothing_there m none));
  keeps = keeps_on (held_in disk code a) (held_in disk code b) (held_in disk code c) first.keeps
      next.keeps;
  ends = next.ends;
  first = next.first ∙ first.first;
  lives = λ lives.
      let on = first.lives lives in
      lives_further disk.files disk.moment disk.since disk.leaves disk.read_at disk.lasted_at
      a.notes.log b.notes.log c.notes.log lives.began on (next.lives on.lives);
}
