-- A folder at rest, some time after the opening: what each call of the log's segment leaves of it.
use Rattle.std.proofs.Common.{
  ◌≡◌,
  ℕ,
  ◌<◌,
  ◌^◌,
  List,
  [],
  ◌∷◌,
  ◌++◌,
  length,
  Option,
  Some,
  refl,
  sym,
  ◌∙◌,
  ap,
  subst,
}
use Rattle.std.specs.FinMap as finmap
use Rattle.std.proofs.lemmas.List.{append-nil}
use Rattle.clog_spec.specs.Sizes.{header_size}
use Rattle.clog_spec.specs.Names.{segment_name_of}
use Rattle.clog_disk.specs.Files.{Files, bytes_at}
use Rattle.clog_disk.specs.Images.{IsImage, LastsAs, Tears, Within}
use Rattle.clog_disk.proofs.Named.{put_there}
use Rattle.clog_scan.specs.Cut.{Section, last_until}
use Rattle.clog_scan.specs.Segment.{Entry, entries_of}
use Rattle.clog_crash.specs.Covering.{Either, SameMerge}
use Rattle.clog_crash.specs.Log.{Write, HasShown, IsResting, logged_in}
use Rattle.clog_crash.specs.Readings.{Reading, RestoresIn, IsCellAmong}
use Rattle.clog_crash.specs.Rest.{IsAtRest, settled}
use Rattle.clog_crash.specs.Sections.{segment_bytes, Brings}
use Rattle.clog_crash.proofs.life.Shown.{written, logged_more, logged_rolled, shown_by}
use Rattle.clog_crash.proofs.rest.Firsts.{among_none, both_parts}
use Rattle.clog_crash.proofs.rest.Keeping.{keeps, rests_on, rest_shows, torn_shows}
use Rattle.clog_crash.proofs.rest.Rolling.{rolled}
use Rattle.clog_crash.proofs.rest.Settled.{all_restored, settled_is, settled_same}
use Rattle.clog_crash.proofs.rest.Settling.{settles}

-- it is at rest over another reading, which is the same
restores_over : (q q' r : Reading) (es es' : List Entry) → q ≡ q' → es ≡ es'
    → SameMerge (RestoresIn q) (Either (RestoresIn r) (IsCellAmong es))
    → SameMerge (RestoresIn q') (Either (RestoresIn r) (IsCellAmong es'))
restores_over q q' r es es' readings entries same =
    subst (λ (l : List Entry). SameMerge (RestoresIn q') (Either (RestoresIn r) (IsCellAmong l)))
    entries
    (subst (λ (x : Reading). SameMerge (RestoresIn x) (Either (RestoresIn r) (IsCellAmong es)))
    readings same)

-- at the opening
pub life_begins : (f : Files) (leaves : List ℕ → Option (List ℕ) → Type 0) (id : ℕ)
    → IsAtRest f leaves id [] [] → IsResting f leaves (bytes_at f) [] id [] []
life_begins f leaves id rest = record {
  rest = rest;
  restores = subst (λ (x : Reading).
      SameMerge (RestoresIn x) (Either (RestoresIn (bytes_at f)) (IsCellAmong [])))
      (sym (settled_is f id [] rest.in_files.reads)) (among_none (RestoresIn (bytes_at f)));
}

module _ (f : Files) (leaves : List ℕ → Option (List ℕ) → Type 0) (r : Reading)
    (past : List Write) (id : ℕ) (old kept : List Section)
    (resting : IsResting f leaves r past id old kept) where
  -- each image
  pub resting_shows : (image : Files) → IsImage leaves image
      → HasShown r (length (logged_in past old)) past id (old ++ kept) image
  resting_shows image left =
      shown_by f r past id old kept image resting.restores
      (rest_shows f leaves id old kept resting.rest image left)

  -- a call that leaves the files, and no further image
  pub resting_on : (now : List ℕ → Option (List ℕ) → Type 0) → Within leaves now
      → IsResting f now r past id old kept
  resting_on now within = record {
    rest = rests_on f leaves now id old kept within resting.rest;
    restores = resting.restores;
  }

  -- the kept sections are made to last
  pub resting_settles : (now : List ℕ → Option (List ℕ) → Type 0) → Within leaves now
      → LastsAs now (segment_name_of 6 id) (finmap.get f (segment_name_of 6 id))
      → IsResting f now r past id (old ++ kept) []
  resting_settles now within lasts =
      let more = entries_of (last_until header_size old) kept in
      let q = settled f id (old ++ kept) in
      record {
        rest = settles f id old kept leaves now resting.rest within lasts;
        restores = restores_over q q r (logged_in past old ++ more) (logged_in past (old ++ kept))
            refl (sym (logged_more past old kept))
            (both_parts (RestoresIn q) (RestoresIn (settled f id old)) (RestoresIn r)
            (logged_in past old) more
            (all_restored f id old kept kept resting.rest.stored resting.rest.in_files)
            resting.restores);
      }

  module _ (new : List Section) (bytes : List ℕ) (brings : Brings id old kept new bytes)
      (now : List ℕ → Option (List ℕ) → Type 0)
      (tears : Tears (Some f) leaves now (segment_name_of 6 id) (length bytes)) where
    -- each image while sections are appended, and where that has failed
    pub torn_shows_all : (image : Files) → IsImage now image
        → HasShown r (length (logged_in past old)) past id (old ++ (kept ++ new)) image
    torn_shows_all image left =
        shown_by f r past id old (kept ++ new) image resting.restores
        (torn_shows f id old kept new bytes brings leaves now resting.rest tears image left)

    -- the sections are appended
    pub resting_keeps : IsResting
        (finmap.insert f (segment_name_of 6 id) (segment_bytes id (old ++ (kept ++ new)))) now r
        past id old (kept ++ new)
    resting_keeps =
        let w = segment_bytes id (old ++ (kept ++ new)) in
        let g = finmap.insert f (segment_name_of 6 id) w in
        record {
          rest = keeps f id old kept new bytes brings leaves now resting.rest tears;
          restores = restores_over (settled f id old) (settled g id old) r
              (logged_in past old) (logged_in past old)
              (sym (settled_same f g id old (λ n apart.
              put_there f (segment_name_of 6 id) w n apart))) refl resting.restores;
        }

-- the log goes on in the next segment
pub resting_rolls : (f : Files) (leaves : List ℕ → Option (List ℕ) → Type 0) (r : Reading)
    (past : List Write) (id : ℕ) (s : Section) (ss : List Section) (next : ℕ) → id < next
    → next < 2 ^ 63 → IsResting f leaves r past id (s ∷ ss) []
    → IsResting f leaves r (past ++ written id (s ∷ ss) ∷ []) next [] []
resting_rolls f leaves r past id s ss next above fits resting =
    let all = s ∷ ss in
    let rest = rolled f leaves id s ss next above fits resting.rest in
    let reads : bytes_at f (segment_name_of 6 id) ≡ segment_bytes id all =
    resting.rest.in_files.reads ∙ ap (segment_bytes id) (append-nil all) in
    record {
      rest = rest;
      restores = restores_over (settled f id all) (settled f next []) r (logged_in past all)
          (logged_in (past ++ written id all ∷ []) [])
          (settled_is f id all reads ∙ sym (settled_is f next [] rest.in_files.reads))
          (sym (logged_rolled past id all)) resting.restores;
    }
