-- How a run of calls of a disk goes on.
use Rattle.std.proofs.Common.{inl, inr, ⊎_elim, ℕ, List, Option, refl, ◌∙◌, arith}
use Rattle.clog_disk.specs.Files.{Files}
use Rattle.clog_disk.specs.Images.{IsLater, Elapses, LeavesOnly, IsImage, SinceThen}

-- what is later than a later state is later
pub later_still : {D : Type 0} (moment : D → ℕ) (read_at : D → ℕ → Option (List ℕ → List ℕ))
    (lasted_at : D → ℕ → Type 0) (old mid new : D) → IsLater moment read_at lasted_at old mid
    → IsLater moment read_at lasted_at mid new → IsLater moment read_at lasted_at old new
later_still moment read_at lasted_at old mid new first next = record {
  no_sooner = omega (arith, first.no_sooner, next.no_sooner);
  remembers = λ t le.
      next.remembers t (omega (arith, le, first.no_sooner)) ∙ first.remembers t le;
  lasted_then = λ t le.
      let then_ = next.lasted_then t (omega (arith, le, first.no_sooner)) in
      let before = first.lasted_then t le in
      (λ now. before.0 (then_.0 now), λ old. then_.1 (before.1 old));
}

-- where nothing has happened
pub still_now : {D : Type 0} (moment : D → ℕ) (read_at : D → ℕ → Option (List ℕ → List ℕ))
    (lasted_at : D → ℕ → Type 0) (now : D) → IsLater moment read_at lasted_at now now
still_now moment read_at lasted_at now = record {
  no_sooner = omega arith;
  remembers = λ t le. refl;
  lasted_then = λ t le. (λ has. has, λ has. has);
}

module _ {D : Type 0} (moment : D → ℕ) (since : D → ℕ → Files → Type 0) where
  -- before the first call
  pub started : (old : D) (P : Files → Type 0)
      → ((image : Files) → since old (moment old) image → P image)
      → LeavesOnly moment since old old P
  started old P here = record {
    later = omega arith;
    each = here;
    before = λ t image le left. inl left;
  }

  -- one call more, after which a crash leaves what has P
  pub goes_on : (leaves : D → List ℕ → Option (List ℕ) → Type 0)
      (read_at : D → ℕ → Option (List ℕ → List ℕ)) (lasted_at : D → ℕ → Type 0)
      (old mid new : D) (P : Files → Type 0)
      → LeavesOnly moment since old mid P → Elapses moment since leaves read_at lasted_at mid new
      → ((image : Files) → IsImage (leaves new) image → P image) → LeavesOnly moment since old new P
  goes_on leaves read_at lasted_at old mid new P so_far time here = record {
    later = omega (arith, so_far.later, time.later.no_sooner);
    each = λ image left.
        ⊎_elim (so_far.each image) (here image) (
        time.nothing_else (moment old) image so_far.later left
        );
    before = λ t image le left.
        ⊎_elim (so_far.before t image le) (λ now. inr (here image now)) (
        time.nothing_else t image (omega (arith, le, so_far.later)) left
        );
  }

  -- a whole function more
  pub goes_on_by : (old mid new : D) (P : Files → Type 0) → LeavesOnly moment since old mid P
      → LeavesOnly moment since mid new P → LeavesOnly moment since old new P
  goes_on_by old mid new P first next = record {
    later = omega (arith, first.later, next.later);
    each = λ image left.
        ⊎_elim (first.each image) (λ p. p) (next.before (moment old) image first.later left);
    before = λ t image le left.
        ⊎_elim (first.before t image le) inr (
        next.before t image (omega (arith, le, first.later)) left
        );
  }

  -- what is weaker holds too
  pub weakened : (old new : D) (P Q : Files → Type 0) → LeavesOnly moment since old new P
      → ((image : Files) → P image → Q image) → LeavesOnly moment since old new Q
  weakened old new P Q so_far implies = record {
    later = so_far.later;
    each = λ image left. implies image (so_far.each image left);
    before = λ t image le left.
        ⊎_elim inl (λ p. inr (implies image p)) (so_far.before t image le left);
  }

  -- what an object keeps since it was opened goes on over a function, also where it then says more
  pub kept_since : (t : ℕ) (old new : D) (P Q R : Files → Type 0)
      → SinceThen moment since t old P → LeavesOnly moment since old new Q
      → ((image : Files) → P image → R image) → ((image : Files) → Q image → R image)
      → SinceThen moment since t new R
  kept_since t old new P Q R so_far next weaker there = record {
    later = omega (arith, so_far.later, next.later);
    each = λ image left.
        ⊎_elim (λ before. weaker image (so_far.each image before)) (λ q. there image q) (
        next.before t image so_far.later left
        );
  }
