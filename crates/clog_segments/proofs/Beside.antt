-- A table file comes or a segment goes, where the disk tells its files.
use Rattle.std.proofs.Common.{◌≡◌, ℕ, List, Option, Some, None, sym, subst}
use Rattle.std.specs.FinMap as finmap
use Rattle.clog_spec.specs.Names.{segment_name_of, table_name_of}
use Rattle.clog_disk.specs.Files.{Files, PutsAt}
use Rattle.clog_disk.specs.Images.{IsImage, LastsAs, TurnsTo}
use Rattle.clog_scan.specs.Cut.{Section}
use Rattle.clog_table.specs.declared.table_file.TableFile.{TableFile}
use Rattle.clog_crash.specs.Log.{Write}
use Rattle.clog_crash.specs.Readings.{Reading}
use Rattle.clog_crash.proofs.flush.Comes.{put_turns}
use Rattle.clog_crash.proofs.flush.Goes.{gone_turns}
use Rattle.clog_crash.proofs.flush.Turns.{turn_shows_all, resting_turns}
use Rattle.clog_segments.specs.Coming.{MayCome, MayGo}
use Rattle.clog_segments.specs.Resting.{RestsAt, ShowsBehind}

module _ (leaves later : List ℕ → Option (List ℕ) → Type 0) (r : Reading) (past : List Write)
    (id : ℕ) (old kept : List Section) (name : List ℕ) where
  -- ---- a table file comes, at a name that is its own

  module _ (file : TableFile) (sequence : ℕ) (bytes : List ℕ)
      (is : name ≡ table_name_of file.table.0 sequence)
      (turns : TurnsTo leaves later name (Some bytes)) where
    abbrev t : List ℕ
    t = table_name_of file.table.0 sequence

    pub comes_show : (told : Option Files)
        → MayCome told leaves r past id old kept file sequence bytes → (image : Files)
        → IsImage later image → ShowsBehind r past id old kept image
    comes_show None may image left = absurd may
    comes_show (Some f) may image left =
        turn_shows_all f (finmap.insert f t bytes) t (Some bytes) r past id old kept
        (put_turns f id old kept file sequence bytes may.0.rest.stored may.0.rest.in_files may.1)
        leaves later (subst (λ (n : List ℕ). TurnsTo leaves later n (Some bytes)) is turns) may.0
        image left

    pub rests_with : (told now : Option Files)
        → MayCome told leaves r past id old kept file sequence bytes
        → PutsAt told now name (Some bytes) → LastsAs later name (Some bytes)
        → RestsAt now later r past id old kept
    rests_with None now may puts lasts = absurd may
    rests_with (Some f) now may puts lasts =
        subst (λ (o : Option Files). RestsAt o later r past id old kept)
        (sym (subst (λ (n : List ℕ). PutsAt (Some f) now n (Some bytes)) is puts))
        (resting_turns f (finmap.insert f t bytes) t (Some bytes) r past id old kept
        (put_turns f id old kept file sequence bytes may.0.rest.stored may.0.rest.in_files may.1)
        leaves later (subst (λ (n : List ℕ). TurnsTo leaves later n (Some bytes)) is turns) may.0
        (subst (λ (n : List ℕ). LastsAs later n (Some bytes)) is lasts))

  -- ---- a segment goes

  module _ (other : ℕ) (is : name ≡ segment_name_of 6 other)
      (turns : TurnsTo leaves later name None) where
    abbrev u : List ℕ
    u = segment_name_of 6 other

    pub goes_show : (told : Option Files) → MayGo told leaves r past id old kept other
        → (image : Files) → IsImage later image → ShowsBehind r past id old kept image
    goes_show None may image left = absurd may
    goes_show (Some f) may image left =
        turn_shows_all f (finmap.remove f u) u None r past id old kept
        (gone_turns f id old kept other may.0.rest.stored may.0.rest.in_files may.1)
        leaves later (subst (λ (n : List ℕ). TurnsTo leaves later n None) is turns) may.0 image left

    pub rests_without : (told now : Option Files) → MayGo told leaves r past id old kept other
        → PutsAt told now name None → LastsAs later name None
        → RestsAt now later r past id old kept
    rests_without None now may puts lasts = absurd may
    rests_without (Some f) now may puts lasts =
        subst (λ (o : Option Files). RestsAt o later r past id old kept)
        (sym (subst (λ (n : List ℕ). PutsAt (Some f) now n None) is puts))
        (resting_turns f (finmap.remove f u) u None r past id old kept
        (gone_turns f id old kept other may.0.rest.stored may.0.rest.in_files may.1)
        leaves later (subst (λ (n : List ℕ). TurnsTo leaves later n None) is turns) may.0
        (subst (λ (n : List ℕ). LastsAs later n None) is lasts))

-- what may come or go is at rest
pub rests_for_file : (told : Option Files) (leaves : List ℕ → Option (List ℕ) → Type 0)
    (r : Reading) (past : List Write) (id : ℕ) (old kept : List Section) (file : TableFile)
    (sequence : ℕ) (bytes : List ℕ) → MayCome told leaves r past id old kept file sequence bytes
    → RestsAt told leaves r past id old kept
rests_for_file None leaves r past id old kept file sequence bytes may = absurd may
rests_for_file (Some f) leaves r past id old kept file sequence bytes may = may.0

pub rests_for_none : (told : Option Files) (leaves : List ℕ → Option (List ℕ) → Type 0)
    (r : Reading) (past : List Write) (id : ℕ) (old kept : List Section) (other : ℕ)
    → MayGo told leaves r past id old kept other → RestsAt told leaves r past id old kept
rests_for_none None leaves r past id old kept other may = absurd may
rests_for_none (Some f) leaves r past id old kept other may = may.0
