-- The log's segment is appended to and synced, where the disk tells its files.
use Rattle.std.proofs.Common.{
  ◌≡◌,
  ℕ,
  List,
  [],
  ◌++◌,
  length,
  Option,
  Some,
  None,
  sym,
  subst,
  append_assoc,
  IfSome,
  refl,
}
use Rattle.clog_spec.specs.Names.{segment_name_of}
use Rattle.clog_disk.specs.Files.{Files, AppendsTo}
use Rattle.clog_disk.specs.Images.{IsImage, Lasts, Tears, Within}
use Rattle.clog_scan.specs.Cut.{Section}
use Rattle.clog_crash.specs.Log.{Write, HasShown, logged_in}
use Rattle.clog_crash.specs.Readings.{Reading}
use Rattle.clog_crash.specs.Sections.{Brings}
use Rattle.clog_crash.proofs.life.Resting.{
  resting_keeps,
  resting_on,
  resting_settles,
  resting_shows,
  torn_shows_all,
}
use Rattle.clog_crash.proofs.life.Shown.{shown_longer}
use Rattle.clog_crash.proofs.rest.Keeping.{appended}
use Rattle.clog_segments.specs.Resting.{RestsAt, ShowsBehind}

-- each image now
pub rests_show : (told : Option Files) (leaves : List ℕ → Option (List ℕ) → Type 0) (r : Reading)
    (past : List Write) (id : ℕ) (old kept : List Section) → RestsAt told leaves r past id old kept
    → (image : Files) → IsImage leaves image → ShowsBehind r past id old kept image
rests_show None leaves r past id old kept rests image left = absurd rests
rests_show (Some f) leaves r past id old kept rests image left =
    resting_shows f leaves r past id old kept rests image left

-- and so where further sections are to be written
pub rests_show_more : (told : Option Files) (leaves : List ℕ → Option (List ℕ) → Type 0)
    (r : Reading) (past : List Write) (id : ℕ) (old kept new : List Section)
    → RestsAt told leaves r past id old kept → (image : Files) → IsImage leaves image
    → ShowsBehind r past id old (kept ++ new) image
rests_show_more told leaves r past id old kept new rests image left =
    let least = length (logged_in past old) in
    subst (λ (ss : List Section). HasShown r least past id ss image) (append_assoc old kept new)
    (shown_longer r least past id (old ++ kept) new image
    (rests_show told leaves r past id old kept rests image left))

-- nothing has changed
pub rests_on : (told now : Option Files) (leaves later : List ℕ → Option (List ℕ) → Type 0)
    (r : Reading) (past : List Write) (id : ℕ) (old kept : List Section) → now ≡ told
    → Within leaves later → RestsAt told leaves r past id old kept
    → RestsAt now later r past id old kept
rests_on None now leaves later r past id old kept same within rests = absurd rests
rests_on (Some f) now leaves later r past id old kept same within rests =
    subst (λ (o : Option Files). RestsAt o later r past id old kept) (sym same)
    (resting_on f leaves r past id old kept rests later within)

-- a call at a name that is the segment's
module _ (leaves later : List ℕ → Option (List ℕ) → Type 0) (r : Reading) (past : List Write)
    (id : ℕ) (old kept : List Section) (name : List ℕ) (is : name ≡ segment_name_of 6 id) where
  module _ (new : List Section) (bytes : List ℕ) (brings : Brings id old kept new bytes) where
    -- while bytes are appended, and where that has failed
    pub torn_show : (told : Option Files) → RestsAt told leaves r past id old kept
        → Tears told leaves later name (length bytes) → (image : Files) → IsImage later image
        → ShowsBehind r past id old (kept ++ new) image
    torn_show None rests tears image left = absurd rests
    torn_show (Some f) rests tears image left =
        torn_shows_all f leaves r past id old kept rests new bytes brings later
        (subst (λ (n : List ℕ). Tears (Some f) leaves later n (length bytes)) is tears) image left

    -- they are appended
    pub rests_kept : (told now : Option Files) → RestsAt told leaves r past id old kept
        → Tears told leaves later name (length bytes) → AppendsTo told now name bytes
        → RestsAt now later r past id old (kept ++ new)
    rests_kept None now rests tears appends = absurd rests
    rests_kept (Some f) now rests tears appends =
        subst (λ (o : Option Files). RestsAt o later r past id old (kept ++ new))
        (sym (appended f id old kept new bytes brings now rests.rest.in_files
        (subst (λ (n : List ℕ). AppendsTo (Some f) now n bytes) is appends)))
        (resting_keeps f leaves r past id old kept rests new bytes brings later
        (subst (λ (n : List ℕ). Tears (Some f) leaves later n (length bytes)) is tears))

  -- the segment is synced
  pub rests_settled : (told now : Option Files) → now ≡ told → Within leaves later
      → RestsAt told leaves r past id old kept → Lasts told later name
      → RestsAt now later r past id (old ++ kept) []
  rests_settled None now same within rests lasts = absurd rests
  rests_settled (Some f) now same within rests lasts =
      subst (λ (o : Option Files). RestsAt o later r past id (old ++ kept) []) (sym same)
      (resting_settles f leaves r past id old kept rests later within
      (subst (λ (n : List ℕ). Lasts (Some f) later n) is lasts))

-- what is so of the files where they are told
pub if_told : (told : Option Files) (P : Files → Type 0)
    → ((f : Files) → told ≡ Some f → P f) → IfSome told P
if_told None P h = tt
if_told (Some f) P h = h f refl
