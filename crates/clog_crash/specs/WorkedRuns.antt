-- A worked row: two entries stand end to end, then a marker and a third one, and a fourth in the
-- next segment. Each has 32 bytes.
use Rattle.std.specs.Prelude.{ℕ, List, [], ◌∷◌}
use Rattle.clog_mutation.specs.Payload.{payload_of}
use Rattle.clog_crash.specs.Runs.{Placed, Run}
use Rattle.clog_crash.specs.Worked.{the_mutation}
use Rattle.clog_crash.specs.WorkedGrown.{entry_at}

abbrev pub run_of : ℕ → ℕ → List (List ℕ) → Run
run_of id start payloads = record { id = id; start = start; payloads = payloads }

abbrev pub the_payload : List ℕ
the_payload = payload_of the_mutation

abbrev pub the_runs : List Run
the_runs =
    run_of 1000 28 (the_payload ∷ the_payload ∷ []) ∷ run_of 1000 100 (the_payload ∷ [])
    ∷ run_of 1001 28 (the_payload ∷ []) ∷ []

abbrev pub the_places : List Placed
the_places =
    (1000, entry_at 28) ∷ (1000, entry_at 60) ∷ (1000, entry_at 100) ∷ (1001, entry_at 28) ∷ []
