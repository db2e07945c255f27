-- What a crash might have left before a call that lets it leave no more, and what it leaves then.
use Rattle.std.proofs.Common.{◌≡◌, ℕ, List, Option, Some, inl, inr, ⊎_elim, subst}
use Rattle.std.specs.Prelude.{IfSome}
use Rattle.clog_disk.specs.Files.{Files}
use Rattle.clog_disk.specs.Images.{Elapses, IsImage, LastsAll, LeavesOnly, Within}
use Rattle.clog_disk.proofs.Moments.{goes_on_by, weakened}
use Rattle.clog_crash.specs.Readings.{Reading}
use Rattle.clog_segments.specs.Opened.{WasLeftOr}
use Rattle.clog_segments.proofs.Outcomes.{one_call}

left_before : (old new : List ℕ → Option (List ℕ) → Type 0) (P : Files → Type 0)
    → Within old new → (image : Files) → WasLeftOr new P image → WasLeftOr old P image
left_before old new P within image =
    ⊎_elim (λ left. inl (λ name. within name _ (left name))) inr

module _ {D : Type 0} (moment : D → ℕ) (since : D → ℕ → Files → Type 0)
    (leaves : D → List ℕ → Option (List ℕ) → Type 0) (read_at : D → ℕ → Option Reading)
    (lasted_at : D → ℕ → Type 0) (old mid : D)
    (only_now : (image : Files) → since old (moment old) image → IsImage (leaves old) image)
    (within : Within (leaves old) (leaves mid))
    (time : Elapses moment since leaves read_at lasted_at old mid) where
  -- over the call
  pub left_yet : (P : Files → Type 0) → LeavesOnly moment since old mid (WasLeftOr (leaves old) P)
  left_yet P =
      one_call moment since leaves read_at lasted_at old mid (WasLeftOr (leaves old) P) only_now
      (λ image left. inl left) time (λ image left. inl (λ name. within name _ (left name)))

  -- and over more behind it
  pub left_then : (new : D) (P : Files → Type 0)
      → LeavesOnly moment since mid new (WasLeftOr (leaves mid) P)
      → LeavesOnly moment since old new (WasLeftOr (leaves old) P)
  left_then new P on =
      goes_on_by moment since old mid new (WasLeftOr (leaves old) P) (left_yet P)
      (weakened moment since mid new (WasLeftOr (leaves mid) P) (WasLeftOr (leaves old) P) on
      (left_before (leaves old) (leaves mid) P within))

  -- of which each image has P, or more
  pub left_or : (new : D) (P Q : Files → Type 0) → LeavesOnly moment since mid new P
      → ((image : Files) → P image → Q image)
      → LeavesOnly moment since old new (WasLeftOr (leaves old) Q)
  left_or new P Q on more =
      left_then new Q (weakened moment since mid new P (WasLeftOr (leaves mid) Q) on
      (λ image has. inr (more image has)))

-- what lasts of files that are told
pub lasting_told : (told : Option Files) (leaves : List ℕ → Option (List ℕ) → Type 0)
    (first : Files) → told ≡ Some first → IfSome told (λ f. LastsAll f leaves)
    → LastsAll first leaves
lasting_told told leaves first is lasts =
    subst (λ (o : Option Files). IfSome o (λ f. LastsAll f leaves)) is lasts
