-- What a crash leaves of a run: over the opening of its folder, and the lines that are written.
use Rattle.std.proofs.Common.{ℕ, inl, inr, ⊎_elim, List, [], take, Option, arith}
use Rattle.std.specs.Prelude.{Bool, Contains}
use Rattle.std.specs.List.{flat_map}
use Rattle.clog_base.proofs.Members.{nothing_there}
use Rattle.clog_disk.specs.declared.change.Change.{Change}
use Rattle.clog_disk.specs.Files.{Files, bytes_at}
use Rattle.clog_disk.specs.Images.{LeavesOnly}
use Rattle.clog_disk.proofs.Moments.{goes_on_by, weakened}
use Rattle.clog_mutation.specs.declared.mutation.Mutation.{Mutation}
use Rattle.clog_mutation.specs.Payload.{cells_of}
use Rattle.clog_crash.specs.Covering.{Either}
use Rattle.clog_crash.specs.Log.{NoChances}
use Rattle.clog_crash.specs.Readings.{RestoresIn}
use Rattle.clog_crash.proofs.changes.Covering.{either_same, exactly, merge_then}
use Rattle.clog_segments.specs.Opened.{KeepsFolder, WasLeftOr}
use Rattle.clog_closing.specs.Written.{RestoresLines}
use Rattle.clog_writers.specs.Left.{LeavesShares, said_by}
use Rattle.clog_engine.specs.Logged.{AddsFirst}

-- ---- one image

-- one that restores what the folder did has the first none of the lines
pub adds_none : (first image : Files) (ms : List Mutation) → KeepsFolder first image
    → AddsFirst first ms 0 image
adds_none first image ms kept =
    let before = RestoresIn (bytes_at first) in
    record {
      n = 0;
      enough = omega arith;
      some = omega arith;
      restores = merge_then (RestoresIn (bytes_at image)) before (Either before (Contains []))
          kept.same (exactly before (Either before (Contains [])) (λ pair. (
            inl,
            λ either. elim either [
              | inl has ↦ has
              | inr none ↦ absurd (nothing_there pair none)
            ],
          )));
      undamaged = kept.undamaged;
    }

-- one that restores what the opened folder did and the first of the lines
pub adds_lines : (first opened image : Files) (ms : List Mutation) (least : ℕ)
    → KeepsFolder first opened → RestoresLines (bytes_at opened) ms least image
    → AddsFirst first ms least image
adds_lines first opened image ms least kept lines =
    let more = Contains (flat_map cells_of (take lines.n ms)) in
    let then = RestoresIn (bytes_at opened) in
    let before = RestoresIn (bytes_at first) in
    record {
      n = lines.n;
      enough = lines.enough;
      some = lines.some;
      restores = merge_then (RestoresIn (bytes_at image)) (Either then more) (Either before more)
          lines.restores (either_same then before more kept.same);
      undamaged = λ was. lines.undamaged;
    }

-- ---- all of them

module _ {D : Type 0} (changes : D → Option (List Change)) (moment : D → ℕ)
    (since : D → ℕ → Files → Type 0)
    (leaves : D → List ℕ → Option (List ℕ) → Type 0) where
  -- while lines are written to a folder that was opened
  pub while_written : (files : D → Option Files) (start opened now : D) (first then : Files)
      (base : ℕ)
      (flushing archives drain : Bool) (writers : ℕ) (ms : List Mutation) (least : ℕ)
      → KeepsFolder first then
      → LeavesOnly moment since start opened (WasLeftOr (leaves start) (KeepsFolder first))
      → (lines : LeavesShares files changes moment since leaves opened now (bytes_at then) base
      flushing archives drain writers ms least)
      → (image : Files) → since now (moment start) image → WasLeftOr (leaves start)
      (λ left. NoChances lines.log left → AddsFirst first (said_by lines.history) 0 left) image
  while_written files start opened now first then base flushing archives drain writers ms least
      kept opening lines =
      let said = said_by lines.history in
      let has = WasLeftOr (leaves start) (λ (left : Files).
      NoChances lines.log left → AddsFirst first said 0 left) in
      let before = weakened moment since start opened
      (WasLeftOr (leaves start) (KeepsFolder first)) has opening
      (λ image. ⊎_elim inl (λ keeps. inr (λ chance. adds_none first image said keeps))) in
      let after = weakened moment since opened now (λ image.
      NoChances lines.log image → RestoresLines (bytes_at then) said 0 image) has lines.meanwhile
      (λ image restores. inr (λ chance.
      adds_lines first then image said 0 kept (restores chance))) in
      (goes_on_by moment since start opened now has before after).each
