-- Entries that follow one another are cut into runs, one by one.
use Rattle.std.proofs.Common.{
  ◌≡◌,
  ℕ,
  ◌+◌,
  List,
  [],
  ◌∷◌,
  ◌++◌,
  length,
  refl,
  sym,
  ◌∙◌,
  ap,
  arith,
  append_assoc,
  inl,
  inr,
  subst,
}
use Rattle.std.specs.List.{AllByRecursion}
use Rattle.std.proofs.lemmas.List.{append-nil, length-append}
use Rattle.clog_spec.specs.Sizes.{frame_size}
use Rattle.clog_spec.specs.Segment.{entry_bytes}
use Rattle.clog_spec.proofs.Lengths.{length-entry_bytes}
use Rattle.clog_scan.specs.Segment.{Entry, entry_from}
use Rattle.clog_crash.specs.Runs.{AreRuns, BeginsAt, Placed, Run, placed_in, placed_in_all, run_end}
use Rattle.clog_crash.specs.Runs.{FollowOn, IsWhole, run_from}
use Rattle.clog_crash.proofs.life.Runs.{
  last_end,
  last_end_push,
  last_id,
  last_id_push,
  longer,
  longer_end,
  longer_placed,
  placed_push,
  runs_longer,
  runs_push,
}

is_entry : (e : Entry) (start : ℕ) → IsWhole e → e.start ≡ start → entry_from start e.payload ≡ e
is_entry e start whole same =
    let ends : start + frame_size + length e.payload ≡ e.end = omega (arith, whole.end, same) in
    λ i. record { start = sym same i; end = ends i; payload = e.payload }

-- an entry that stands end to end behind a run makes it longer
pub end_to_end : (run : Run) (p : Placed) → IsWhole p.1 → p.0 ≡ run.id
    → p.1.start ≡ run_end run
    → placed_in (longer run p.1.payload) ≡ placed_in run ++ p ∷ []
end_to_end run p whole ids start =
    let entry = is_entry p.1 (run_end run) whole start in
    longer_placed run p.1.payload
    ∙ ap (λ (e : Entry). placed_in run ++ (run.id, e) ∷ []) entry
    ∙ ap (λ (k : ℕ). placed_in run ++ (k, p.1) ∷ []) (sym ids)

-- any other begins a run of its own
pub its_own_run : (p : Placed) → IsWhole p.1 → placed_in (run_from p) ≡ p ∷ []
its_own_run p whole =
    ap (λ (e : Entry). (p.0, e) ∷ []) (is_entry p.1 p.1.start whole refl)

pub its_end : (p : Placed) → IsWhole p.1 → run_end (run_from p) ≡ p.1.end
its_end p whole = omega (
  arith,
  whole.end,
  length-append (entry_bytes p.1.payload) [],
  length-entry_bytes p.1.payload,
)

-- ---- all of them

abbrev AllWhole : List Placed → Type 0
AllWhole ps = AllByRecursion (λ (p : Placed). IsWhole p.1) ps

-- runs behind a log that are these entries
record AreCut (id until : ℕ) (ps : List Placed) : Type 0 where
  runs : List Run
  are : AreRuns id until runs
  places : placed_in_all runs ≡ ps

goes_on : (id until : ℕ) (runs : List Run) (run : Run) (ps : List Placed)
    → AreRuns id until (runs ++ run ∷ []) → FollowOn run.id (run_end run) ps → AllWhole ps
    → AreCut id until (placed_in_all (runs ++ run ∷ []) ++ ps)
goes_on id until runs run [] are follow whole = record {
  runs = runs ++ run ∷ [];
  are = are;
  places = sym (append-nil (placed_in_all (runs ++ run ∷ [])));
}
goes_on id until runs run (p ∷ ps) are follow whole = elim follow.0 [
  | inl here ↦
      let run' = longer run p.1.payload in
      let ends : p.1.end ≡ run_end run' =
      omega (arith, whole.0.end, here.1, longer_end run p.1.payload) in
      let on : FollowOn run'.id (run_end run') ps =
      subst (λ (k : ℕ). FollowOn run.id k ps) ends
      (subst (λ (k : ℕ). FollowOn k p.1.end ps) here.0 follow.1) in
      let all = goes_on id until runs run' ps
      (runs_longer id until runs run p.1.payload are whole.0.long) on whole.1 in
      let places : placed_in_all (runs ++ run' ∷ []) ≡ placed_in_all (runs ++ run ∷ []) ++ p ∷ [] =
      placed_push runs run'
      ∙ ap (λ (l : List Placed). placed_in_all runs ++ l)
      (end_to_end run p whole.0 here.0 here.1)
      ∙ sym (append_assoc (placed_in_all runs) (placed_in run) (p ∷ []))
      ∙ ap (λ (l : List Placed). l ++ p ∷ []) (sym (placed_push runs run)) in
      record {
        runs = all.runs;
        are = all.are;
        places = all.places ∙ ap (λ (l : List Placed). l ++ ps) places
            ∙ append_assoc (placed_in_all (runs ++ run ∷ [])) (p ∷ []) ps;
      }
  | inr apart ↦
      let before = runs ++ run ∷ [] in
      let run' = run_from p in
      let begins : BeginsAt (last_id id before) (last_end until before) run' =
      subst (λ (k : ℕ). BeginsAt k (last_end until before) run') (sym (last_id_push id runs run))
      (subst (λ (k : ℕ). BeginsAt run.id k run') (sym (last_end_push until runs run)) apart) in
      let on : FollowOn run'.id (run_end run') ps =
      subst (λ (k : ℕ). FollowOn p.0 k ps) (sym (its_end p whole.0)) follow.1 in
      let all = goes_on id until before run' ps
      (runs_push id until before run' are begins (omega arith) (whole.0.long, tt)) on whole.1 in
      let places : placed_in_all (before ++ run' ∷ []) ≡ placed_in_all before ++ p ∷ [] =
      placed_push before run'
      ∙ ap (λ (l : List Placed). placed_in_all before ++ l) (its_own_run p whole.0) in
      record {
        runs = all.runs;
        are = all.are;
        places = all.places ∙ ap (λ (l : List Placed). l ++ ps) places
            ∙ append_assoc (placed_in_all before) (p ∷ []) ps;
      }
]

-- behind a log entries that follow one another are runs
pub cut : (id until : ℕ) (p : Placed) (ps : List Placed) → BeginsAt id until (run_from p)
    → IsWhole p.1 → FollowOn p.0 p.1.end ps → AllByRecursion (λ (q : Placed). IsWhole q.1) ps
    → (runs : List Run) × AreRuns id until runs × (placed_in_all runs ≡ p ∷ ps)
cut id until p ps begins whole follow all =
    let run = run_from p in
    let on : FollowOn run.id (run_end run) ps =
    subst (λ (k : ℕ). FollowOn p.0 k ps) (sym (its_end p whole)) follow in
    let found = goes_on id until [] run ps (begins, omega arith, (whole.long, tt), tt) on all in (
      found.runs,
      found.are,
      found.places ∙ ap (λ (l : List Placed). l ++ ps)
          (append-nil (placed_in run) ∙ its_own_run p whole),
    )
