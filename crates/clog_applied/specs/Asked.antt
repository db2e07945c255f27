-- What the options of `apply` ask of a run.
use Rattle.std.specs.Prelude.{◌≡◌, ℕ, ◌*◌, Bool, ◌||◌, is_some}
use Rattle.sync_core.specs.declared.SyncCore.TheVariants.{Batch}
use Rattle.clog_words.specs.declared.request.ApplyOptions.{ApplyOptions}

-- the most bytes that a segment has
abbrev pub capacity_of : ApplyOptions → ℕ
capacity_of options = 1024 * options.segment_kib

-- each commit waits for the sync of its entry
abbrev pub IsBatch : ApplyOptions → Type 0
IsBatch options = options.sync ≡ Batch

-- table files may come
abbrev pub flushes : ApplyOptions → Bool
flushes options = is_some options.flush_at || options.drain
