use Rattle.std.proofs.Common.{◌≡◌, ℕ, ◌<◌, get_or, take}
use Rattle.clog_spec.specs.Sizes.{most_tables}
use Rattle.path_core.specs.Keeper.{upper_from}
use Rattle.clog_store.proofs.store.telling.uppers_of.Given as goal

-- those of the files that were seen
abbrev pub invariant-loop-file : goal.invariant-loop-file
invariant-loop-file l = (t : ℕ) → t < most_tables
    → (get_or l.uppers t (record { 0 = 0 })).0 ≡ upper_from t 0 (take l.file-index l.files)
