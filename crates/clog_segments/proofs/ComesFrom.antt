-- What each image of a recovery holds: files of before, and such as it puts.
use Rattle.std.proofs.Common.{◌≡◌, ◌⊎◌, ℕ, inl, inr, List, Option, Some, sym, subst}
use Rattle.std.specs.FinMap as finmap
use Rattle.clog_disk.specs.Files.{Files}
use Rattle.clog_disk.specs.Images.{Elapses, IsImage, LastsAll, TurnsTo}
use Rattle.clog_disk.proofs.Moments.{goes_on_by, started}
use Rattle.clog_crash.specs.Readings.{Reading}
use Rattle.clog_segments.specs.Filing.{ComesFrom, IsRecoveryPut, LeavesFrom, StaysFrom}
use Rattle.clog_segments.proofs.Outcomes.{one_call}

-- where all of the folder lasts
pub lasts_from : (first : Files) (leaves : List ℕ → Option (List ℕ) → Type 0)
    → LastsAll first leaves → LeavesFrom first leaves
lasts_from first leaves lasts name bytes left = inl (sym (lasts name (Some bytes) left))

-- a file is perhaps put, or goes
pub turned_from : (first : Files) (old new : List ℕ → Option (List ℕ) → Type 0)
    (name : List ℕ) (what : Option (List ℕ)) → TurnsTo old new name what
    → ((bytes : List ℕ) → what ≡ Some bytes → IsRecoveryPut first name bytes)
    → LeavesFrom first old → LeavesFrom first new
turned_from first old new name what turns put from other bytes left =
    elim (turns other (Some bytes) left) [
      | inl was ↦ from other bytes was
      | inr now ↦
          subst (λ (n : List ℕ).
          (finmap.get first n ≡ Some bytes) ⊎ IsRecoveryPut first n bytes) (sym now.0)
          (inr (put bytes (sym now.1)))
    ]

pub images_from : (first : Files) (leaves : List ℕ → Option (List ℕ) → Type 0)
    → LeavesFrom first leaves → (image : Files) → IsImage leaves image → ComesFrom first image
images_from first leaves from image left name bytes there =
    from name bytes (subst (λ (o : Option (List ℕ)). leaves name o) there (left name))

module _ {D : Type 0} (moment : D → ℕ) (since : D → ℕ → Files → Type 0)
    (leaves : D → List ℕ → Option (List ℕ) → Type 0) (first : Files) where
  abbrev Stays : D → D → Type 0
  Stays old new = StaysFrom moment since leaves first old new

  -- one call of the disk
  pub call_from : (read_at : D → ℕ → Option Reading) (lasted_at : D → ℕ → Type 0) (old new : D)
      → ((image : Files) → since old (moment old) image → IsImage (leaves old) image)
      → Elapses moment since leaves read_at lasted_at old new → LeavesFrom first (leaves old)
      → LeavesFrom first (leaves new) → Stays old new
  call_from read_at lasted_at old new only time before after = record {
    now = after;
    meanwhile = one_call moment since leaves read_at lasted_at old new (ComesFrom first) only
        (images_from first (leaves old) before) time (images_from first (leaves new) after);
  }

  -- none
  pub still_from : (now : D)
      → ((image : Files) → since now (moment now) image → IsImage (leaves now) image)
      → LeavesFrom first (leaves now) → Stays now now
  still_from now only from = record {
    now = from;
    meanwhile = started moment since now (ComesFrom first) (λ image left.
        images_from first (leaves now) from image (only image left));
  }

  -- more of them
  pub then_from : (old mid new : D) → Stays old mid
      → (LeavesFrom first (leaves mid) → Stays mid new) → Stays old new
  then_from old mid new before next =
      let more = next before.now in
      record {
        now = more.now;
        meanwhile = goes_on_by moment since old mid new (ComesFrom first) before.meanwhile
            more.meanwhile;
      }
