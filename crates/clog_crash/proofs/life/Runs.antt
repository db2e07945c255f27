-- A run comes behind others, or one entry more behind a run.
use Rattle.std.proofs.Common.{
  ◌≡◌,
  ℕ,
  ◌+◌,
  ◌<◌,
  ◌≤◌,
  List,
  [],
  ◌∷◌,
  ◌++◌,
  length,
  refl,
  sym,
  ◌∙◌,
  ap,
  arith,
  append_assoc,
}
use Rattle.std.specs.List.{flat_map}
use Rattle.std.proofs.lemmas.List.{append-nil, length-append}
use Rattle.clog_spec.specs.Sizes.{frame_size}
use Rattle.clog_spec.specs.Segment.{entry_bytes}
use Rattle.clog_spec.proofs.Lengths.{length-entry_bytes}
use Rattle.clog_scan.specs.Cut.{AreLong, entries_bytes}
use Rattle.clog_scan.specs.Segment.{Entry, entry_from, entries_from}
use Rattle.clog_crash.specs.Log.{Write}
use Rattle.clog_crash.specs.Runs.{
  AreRuns,
  BeginsAt,
  Placed,
  Run,
  placed,
  placed_in,
  placed_in_all,
  placed_of,
  run_end,
}

-- ---- lists joined

pub placed-append : (id : ℕ) (es more : List Entry)
    → placed id (es ++ more) ≡ placed id es ++ placed id more
placed-append id [] more = refl
placed-append id (e ∷ es) more = ap (λ (l : List Placed). (id, e) ∷ l) (placed-append id es more)

all_placed-append : (runs more : List Run)
    → placed_in_all (runs ++ more) ≡ placed_in_all runs ++ placed_in_all more
all_placed-append [] more = refl
all_placed-append (run ∷ runs) more =
    ap (λ (l : List Placed). placed_in run ++ l) (all_placed-append runs more)
    ∙ sym (append_assoc (placed_in run) (placed_in_all runs) (placed_in_all more))

pub past-append : (past more : List Write)
    → flat_map placed_of (past ++ more) ≡ flat_map placed_of past ++ flat_map placed_of more
past-append [] more = refl
past-append (w ∷ past) more =
    ap (λ (l : List Placed). placed_of w ++ l) (past-append past more)
    ∙ sym (append_assoc (placed_of w) (flat_map placed_of past) (flat_map placed_of more))

-- ---- one entry more behind a run

bytes-append : (ps more : List (List ℕ))
    → entries_bytes (ps ++ more) ≡ entries_bytes ps ++ entries_bytes more
bytes-append [] more = refl
bytes-append (p ∷ ps) more =
    ap (λ (l : List ℕ). entry_bytes p ++ l) (bytes-append ps more)
    ∙ sym (append_assoc (entry_bytes p) (entries_bytes ps) (entries_bytes more))

entries_from-append : (at : ℕ) (ps more : List (List ℕ))
    → entries_from at (ps ++ more)
    ≡ entries_from at ps ++ entries_from (at + length (entries_bytes ps)) more
entries_from-append at [] more =
    let same : at ≡ at + 0 = omega arith in ap (λ k. entries_from k more) same
entries_from-append at (p ∷ ps) more =
    let e = entry_from at p in
    let behind : at + frame_size + length p + length (entries_bytes ps)
    ≡ at + length (entries_bytes (p ∷ ps)) =
    omega (arith, length-append (entry_bytes p) (entries_bytes ps), length-entry_bytes p) in
    ap (λ (l : List Entry). e ∷ l) (entries_from-append (at + frame_size + length p) ps more
    ∙ ap (λ k. entries_from (at + frame_size + length p) ps ++ entries_from k more) behind)

abbrev pub longer : Run → List ℕ → Run
longer run payload = record {
  id = run.id;
  start = run.start;
  payloads = run.payloads ++ payload ∷ [];
}

pub longer_placed : (run : Run) (payload : List ℕ)
    → placed_in (longer run payload)
    ≡ placed_in run ++ (run.id, entry_from (run_end run) payload) ∷ []
longer_placed run payload =
    ap (placed run.id) (entries_from-append run.start run.payloads (payload ∷ []))
    ∙ placed-append run.id (entries_from run.start run.payloads)
    (entries_from (run_end run) (payload ∷ []))

pub longer_end : (run : Run) (payload : List ℕ)
    → run_end (longer run payload) ≡ run_end run + frame_size + length payload
longer_end run payload = omega (
  arith,
  ap length (bytes-append run.payloads (payload ∷ [])),
  length-append (entries_bytes run.payloads) (entries_bytes (payload ∷ [])),
  length-append (entry_bytes payload) [],
  length-entry_bytes payload,
)

long-append : (ps : List (List ℕ)) (payload : List ℕ) → AreLong ps → 10 ≤ length payload
    → AreLong (ps ++ payload ∷ [])
long-append [] payload long enough = (enough, tt)
long-append (p ∷ ps) payload long enough = (long.0, long-append ps payload long.1 enough)

-- ---- a run behind others

-- where a log ends behind these runs
abbrev pub last_id : ℕ → List Run → ℕ
last_id id [] = id
last_id id (run ∷ runs) = last_id run.id runs

abbrev pub last_end : ℕ → List Run → ℕ
last_end until [] = until
last_end until (run ∷ runs) = last_end (run_end run) runs

pub runs_push : (id until : ℕ) (runs : List Run) (run : Run) → AreRuns id until runs
    → BeginsAt (last_id id runs) (last_end until runs) run → 0 < length run.payloads
    → AreLong run.payloads → AreRuns id until (runs ++ run ∷ [])
runs_push id until [] run are begins some long = (begins, some, long, tt)
runs_push id until (r ∷ runs) run are begins some long =
    (are.0, are.1, are.2, runs_push r.id (run_end r) runs run are.3 begins some long)

pub last_id_push : (id : ℕ) (runs : List Run) (run : Run)
    → last_id id (runs ++ run ∷ []) ≡ run.id
last_id_push id [] run = refl
last_id_push id (r ∷ runs) run = last_id_push r.id runs run

pub last_end_push : (until : ℕ) (runs : List Run) (run : Run)
    → last_end until (runs ++ run ∷ []) ≡ run_end run
last_end_push until [] run = refl
last_end_push until (r ∷ runs) run = last_end_push (run_end r) runs run

-- the last run of these may be longer
pub runs_longer : (id until : ℕ) (runs : List Run) (run : Run) (payload : List ℕ)
    → AreRuns id until (runs ++ run ∷ []) → 10 ≤ length payload
    → AreRuns id until (runs ++ longer run payload ∷ [])
runs_longer id until [] run payload are enough = (
  are.0,
  omega (arith, length-append run.payloads (payload ∷ [])),
  long-append run.payloads payload are.2 enough,
  tt,
)
runs_longer id until (r ∷ runs) run payload are enough =
    (are.0, are.1, are.2, runs_longer r.id (run_end r) runs run payload are.3 enough)

pub placed_push : (runs : List Run) (run : Run)
    → placed_in_all (runs ++ run ∷ []) ≡ placed_in_all runs ++ placed_in run
placed_push runs run =
    all_placed-append runs (run ∷ [])
    ∙ ap (λ (l : List Placed). placed_in_all runs ++ l) (append-nil (placed_in run))
