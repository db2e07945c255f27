-- Segments get archive names and go, where the disk tells its files.
use Rattle.std.proofs.Common.{
  ◌≡◌,
  ◌≢◌,
  ℕ,
  zero,
  suc,
  ◌+◌,
  ◌<◌,
  ◌^◌,
  List,
  [],
  ◌∷◌,
  ◌++◌,
  Option,
  Some,
  None,
  Contains,
  IfSome,
  refl,
  sym,
  ap,
  subst,
  ◌∙◌,
  inl,
  inr,
  append_assoc,
  arith,
}
use Rattle.std.specs.Prelude.{Bool, true, false, IsSome, Result, Ok, Err, option_map}
use Rattle.std.proofs.lemmas.Grind.{flat_map-append}
use Rattle.std.proofs.lemmas.List.{append-nil}
use Rattle.std.specs.FinMap as finmap
use Rattle.clog_spec.specs.Names.{
  IsArchiveName,
  IsSegmentName,
  archive_name_of,
  segment_name_of,
}
use Rattle.clog_base.proofs.Members.{here, further}
use Rattle.clog_disk.specs.declared.change.Change.{Change}
use Rattle.clog_disk.specs.declared.change.Change.TheVariants as change
use Rattle.clog_disk.specs.declared.disk.DiskFault.{DiskFault}
use Rattle.clog_disk.specs.declared.disk.DiskFault.TheVariants.{NoSuchFile}
use Rattle.clog_disk.specs.Causes.{Finds}
use Rattle.clog_disk.specs.Changes.{Adds}
use Rattle.clog_disk.specs.Files.{Files, PutsAt, at_name, with_at}
use Rattle.clog_disk.specs.Images.{IsImage, LastsAs, LastsLike, TurnsLike, TurnsTo, Within}
use Rattle.clog_disk.proofs.Named.{gone_there, put_there, same_or_other}
use Rattle.clog_scan.specs.Cut.{Section}
use Rattle.clog_scan.specs.Segment.{Entry, IsSegment}
use Rattle.clog_crash.specs.Changes.{DiffersAt}
use Rattle.clog_crash.specs.Flush.{IsCovered}
use Rattle.clog_crash.specs.Folder.{IsHeld}
use Rattle.clog_crash.specs.Log.{Write}
use Rattle.clog_crash.specs.Readings.{IsLoggedIn, Reading}
use Rattle.clog_crash.specs.Rest.{settled}
use Rattle.clog_crash.specs.Restore.{end_position}
use Rattle.clog_crash.proofs.OneMore.{bytes_of}
use Rattle.clog_crash.proofs.changes.Elsewhere.{skipped_now}
use Rattle.clog_crash.proofs.changes.Names.{is_named, one_id}
use Rattle.clog_crash.proofs.flush.Comes.{settled_differs}
use Rattle.clog_crash.proofs.flush.Goes.{reads_nothing}
use Rattle.clog_crash.proofs.flush.Linked.{
  IsUnread,
  archives_are_unread,
  link_turns,
  skipped_stays,
}
use Rattle.clog_crash.proofs.flush.Turns.{resting_turns, turn_shows_all}
use Rattle.clog_crash.proofs.life.Resting.{resting_on}
use Rattle.clog_crash.proofs.rest.Sectioned.{nothing_logged_in}
use Rattle.clog_crash.proofs.rest.Settled.{settled_there}
use Rattle.std.specs.List.{AllPairs}
use Rattle.clog_segments.specs.Coming.{MayGo}
use Rattle.clog_segments.specs.Discards.{
  AreBehind,
  AreDroppable,
  MayAllGo,
  NamesBy,
  all_go_by,
  all_gone_at,
  goes_by,
  gone_at,
  named_at,
  names_by,
}
use Rattle.clog_segments.specs.Resting.{RestsAt, ShowsBehind}
use Rattle.clog_segments.proofs.Recovered.{found_there}

module _ {A : Type 0} (R : A → A → Type 0) (x : A) (xs : List A) (order : AllPairs R (x ∷ xs)) where
  ahead : (y : A) → Contains xs y → R x y
  ahead y h = subst (λ k. R x k) h.2
      (order zero (suc h.0) y (omega arith) (let l = h.1 in omega arith))

  behind : AllPairs R xs
  behind i j d low inside = order (suc i) (suc j) d (omega (arith, low)) (omega (arith, inside))

-- ---- what is logged elsewhere was so before

logged_back : (name : List ℕ) (r q : Reading) (id : ℕ) (entry : Entry) → DiffersAt name r q
    → (segment_name_of 6 id ≡ name → ⊥) → IsLoggedIn q id entry → IsLoggedIn r id entry
logged_back name r q id entry others apart l = record {
  fits = l.fits;
  entries = l.entries;
  end = l.end;
  holds = subst (λ (b : List ℕ). IsSegment b id l.entries l.end)
      (others (segment_name_of 6 id) apart) l.holds;
  listed = l.listed;
}

-- ---- a segment is archived

pub archive_named : (id : ℕ) → id < 2 ^ 63 → IsArchiveName (archive_name_of id) id
archive_named id fits = record { form = refl; id_fits = fits }

unread : (id : ℕ) → id < 2 ^ 63 → IsUnread (archive_name_of id)
unread id fits = archives_are_unread (archive_name_of id) id (archive_named id fits)

-- no archive name is that of a segment
pub not_archived : (id other : ℕ) → id < 2 ^ 63 → other < 2 ^ 63
    → segment_name_of 6 other ≡ archive_name_of id → ⊥
not_archived id other fits fits' same =
    (unread id fits).no_segment 6 other
    (subst (λ (n : List ℕ). IsSegmentName n 6 other) same (is_named other fits'))

module _ (f : Files) (last : ℕ) (old : List Section) (id : ℕ) (bytes : List ℕ)
    (fits : id < 2 ^ 63) where
  abbrev a : List ℕ
  a = archive_name_of id

  abbrev g : Files
  g = finmap.insert f a bytes

  apart_reads : DiffersAt a (settled f last old) (settled g last old)
  apart_reads = settled_differs f g a last old (λ n apart. put_there f a bytes n apart)

  covered_beside : (other : ℕ) → other < 2 ^ 63 → IsCovered f last old other
      → IsCovered g last old other
  covered_beside other fits' c = record {
    below = c.below;
    covered = λ entry l pair cell.
        skipped_stays a (unread id fits) (settled f last old) (settled g last old) apart_reads
        pair.0.table (end_position other entry)
        (c.covered entry (logged_back a (settled f last old) (settled g last old) other entry
        apart_reads (not_archived id other fits fits') l) pair cell);
  }

module _ (leaves later : List ℕ → Option (List ℕ) → Type 0) (r : Reading) (past : List Write)
    (last : ℕ) (old kept : List Section) (base : ℕ) (ordinals : List ℕ) where
  abbrev May : Option Files → Type 0
  May told = MayAllGo told leaves r past last old kept base ordinals

  below_last : (f : Files) → May (Some f) → (o : ℕ) → Contains ordinals o → base + o < 2 ^ 63
  below_last f may o listed =
      omega (arith, (may.1 o listed).below, may.0.rest.stored.fits)

  module _ (id : ℕ) (fits : id < 2 ^ 63) (from to : List ℕ) (is : from ≡ segment_name_of 6 id)
      (to_is : to ≡ archive_name_of id) where
    abbrev u : List ℕ
    u = segment_name_of 6 id

    abbrev to_archive : List ℕ
    to_archive = archive_name_of id

    module _ (f : Files) (may : May (Some f)) (bytes : List ℕ)
        (there : finmap.get f u ≡ Some bytes) where
      abbrev h : Files
      h = finmap.insert f to_archive bytes

      turns_here : TurnsLike (Some f) leaves later from to
          → TurnsTo leaves later to_archive (Some bytes)
      turns_here turns =
          subst (λ (n : List ℕ). TurnsTo leaves later n (Some bytes)) to_is
          (subst (TurnsTo leaves later to) (ap (finmap.get f) is ∙ there) turns)

      shows : TurnsLike (Some f) leaves later from to → (image : Files) → IsImage later image
          → ShowsBehind r past last old kept image
      shows turns image left =
          turn_shows_all f h to_archive (Some bytes) r past last old kept
          (link_turns f last old kept to_archive bytes (unread id fits) may.0.rest.stored
          may.0.rest.in_files) leaves later (turns_here turns) may.0 image left

      rests : TurnsLike (Some f) leaves later from to → LastsLike (Some f) later from to
          → MayAllGo (Some h) later r past last old kept base ordinals
      rests turns lasts = (
        resting_turns f h to_archive (Some bytes) r past last old kept
            (link_turns f last old kept to_archive bytes (unread id fits) may.0.rest.stored
            may.0.rest.in_files) leaves later (turns_here turns) may.0
            (subst (λ (n : List ℕ). LastsAs later n (Some bytes)) to_is
            (subst (LastsAs later to) (ap (finmap.get f) is ∙ there) lasts)),
        λ o listed. covered_beside f last old id bytes fits (base + o)
            (below_last f may o listed) (may.1 o listed),
      )

    pub link_shows : (told : Option Files) → May told → IfSome told (λ f. IsHeld f u)
        → TurnsLike told leaves later from to → (image : Files) → IsImage later image
        → ShowsBehind r past last old kept image
    link_shows None may held turns image left = absurd may
    link_shows (Some f) may held turns image left =
        let there = bytes_of (finmap.get f u) held in
        shows f may there.0 there.1 turns image left

    pub link_rests : (told now : Option Files) → May told → IfSome told (λ f. IsHeld f u)
        → TurnsLike told leaves later from to → PutsAt told now to (at_name told from)
        → LastsLike told later from to
        → MayAllGo now later r past last old kept base ordinals
    link_rests None now may held turns puts lasts = absurd may
    link_rests (Some f) now may held turns puts lasts =
        let there = bytes_of (finmap.get f u) held in
        let put : now ≡ Some (finmap.insert f to_archive there.0) =
        puts ∙ ap (λ (o : Option (List ℕ)). Some (with_at f to o)) (ap (finmap.get f) is ∙ there.1)
        ∙ ap (λ (n : List ℕ). Some (finmap.insert f n there.0)) to_is in
        subst (λ (o : Option Files). MayAllGo o later r past last old kept base ordinals) (sym put)
        (rests f may there.0 there.1 turns lasts)

  -- nothing has changed
  pub all_rest_on : (told now : Option Files) → now ≡ told → Within leaves later → May told
      → MayAllGo now later r past last old kept base ordinals
  all_rest_on None now same within may = absurd may
  all_rest_on (Some f) now same within may =
      subst (λ (o : Option Files). MayAllGo o later r past last old kept base ordinals) (sym same)
      (resting_on f leaves r past last old kept may.0 later within, may.1)

-- what may all go is at rest
pub all_rest : (told : Option Files) (leaves : List ℕ → Option (List ℕ) → Type 0) (r : Reading)
    (past : List Write) (last : ℕ) (old kept : List Section) (base : ℕ) (ordinals : List ℕ)
    → MayAllGo told leaves r past last old kept base ordinals
    → RestsAt told leaves r past last old kept
all_rest None leaves r past last old kept base ordinals may = absurd may
all_rest (Some f) leaves r past last old kept base ordinals may = may.0

pub one_goes : (told : Option Files) (leaves : List ℕ → Option (List ℕ) → Type 0) (r : Reading)
    (past : List Write) (last : ℕ) (old kept : List Section) (base o : ℕ) (others : List ℕ)
    → MayAllGo told leaves r past last old kept base (o ∷ others)
    → MayGo told leaves r past last old kept (base + o)
one_goes None leaves r past last old kept base o others may = absurd may
one_goes (Some f) leaves r past last old kept base o others may =
    (may.0, may.1 o (here o others))

-- ---- a segment goes

module _ (f : Files) (last : ℕ) (old : List Section) (gone : ℕ) (fits : gone < 2 ^ 63) where
  abbrev v : List ℕ
  v = segment_name_of 6 gone

  abbrev w : Files
  w = finmap.remove f v

  gone_reads : DiffersAt v (settled f last old) (settled w last old)
  gone_reads = settled_differs f w v last old (λ n apart. gone_there f v n apart)

  -- what is covered stays so
  covered_without : (other : ℕ) → other < 2 ^ 63 → (v ≡ segment_name_of 6 last → ⊥)
      → IsCovered f last old other → IsCovered w last old other
  covered_without other fits' not_last c = record {
    below = c.below;
    covered = λ entry l pair cell.
        skipped_now (settled f last old) (settled w last old) gone fits gone_reads pair.0.table
        (end_position other entry) (c.covered entry (before entry l) pair cell);
  }
    where
      before : (entry : Entry) → IsLoggedIn (settled w last old) other entry
          → IsLoggedIn (settled f last old) other entry
      before entry l = elim (same_or_other (segment_name_of 6 other) v) [
        | inl same ↦ absurd (nothing_logged_in (settled w last old) other entry
            (ap (settled w last old) same ∙ settled_there w last old v not_last
            ∙ reads_nothing f v) l)
        | inr apart ↦ logged_back v (settled f last old) (settled w last old) other entry
            gone_reads apart l
      ]

pub others_go : (told now : Option Files) (leaves later : List ℕ → Option (List ℕ) → Type 0)
    (r : Reading) (past : List Write) (last : ℕ) (old kept : List Section) (base o : ℕ)
    (others : List ℕ) → MayAllGo told leaves r past last old kept base (o ∷ others)
    → PutsAt told now (segment_name_of 6 (base + o)) None
    → RestsAt now later r past last old kept
    → MayAllGo now later r past last old kept base others
others_go None now leaves later r past last old kept base o others may puts rests = absurd may
others_go (Some f) now leaves later r past last old kept base o others may puts rests =
    let gone = base + o in
    let first = may.1 o (here o others) in
    let fits : gone < 2 ^ 63 = omega (arith, first.below, may.0.rest.stored.fits) in
    subst (λ (t : Option Files). MayAllGo t later r past last old kept base others) (sym puts) (
      subst (λ (t : Option Files). RestsAt t later r past last old kept) puts rests,
      λ p listed.
          let c = may.1 p (further o others p listed) in
          covered_without f last old gone fits (base + p)
          (omega (arith, c.below, may.0.rest.stored.fits))
          (λ same. omega (arith, first.below, one_id last gone may.0.rest.stored.fits fits same)) c,
    )

-- ---- what becomes of the files

pub named_files : (told now : Option Files) (id : ℕ) (from to : List ℕ)
    → from ≡ segment_name_of 6 id → to ≡ archive_name_of id
    → PutsAt told now to (at_name told from) → now ≡ option_map (named_at true id) told
named_files None now id from to is to_is puts = puts
named_files (Some f) now id from to is to_is puts =
    puts ∙ ap (λ (n : List ℕ). Some (with_at f n (finmap.get f from))) to_is
    ∙ ap (λ (n : List ℕ). Some (with_at f (archive_name_of id) (finmap.get f n))) is

pub gone_files : (told mid now : Option Files) (archives : Bool) (id : ℕ)
    → mid ≡ option_map (named_at archives id) told
    → PutsAt mid now (segment_name_of 6 id) None → now ≡ option_map (gone_at archives id) told
gone_files None mid now archives id named puts =
    subst (λ (m : Option Files). PutsAt m now (segment_name_of 6 id) None) named puts
gone_files (Some f) mid now archives id named puts =
    subst (λ (m : Option Files). PutsAt m now (segment_name_of 6 id) None) named puts

-- what is there stays beside an archive name
held_beside : (archives : Bool) (id : ℕ) (f : Files) (n : List ℕ)
    → (n ≡ archive_name_of id → ⊥) → IsHeld f (segment_name_of 6 id) → IsHeld f n
    → IsHeld (named_at archives id f) n
held_beside false id f n apart own held = held
held_beside true id f n apart own held =
    let there = bytes_of (finmap.get f (segment_name_of 6 id)) own in
    subst (λ (o : Option (List ℕ)). IsHeld (with_at f (archive_name_of id) o) n) (sym there.1)
    (subst IsSome (sym (put_there f (archive_name_of id) there.0 n apart)) held)

pub still_there : (told mid : Option Files) (archives : Bool) (id : ℕ) → id < 2 ^ 63
    → mid ≡ option_map (named_at archives id) told
    → IfSome told (λ f. IsHeld f (segment_name_of 6 id))
    → IfSome mid (λ f. IsHeld f (segment_name_of 6 id))
still_there None mid archives id fits named there =
    subst (λ (m : Option Files). IfSome m (λ f. IsHeld f (segment_name_of 6 id))) (sym named) tt
still_there (Some f) mid archives id fits named there =
    subst (λ (m : Option Files). IfSome m (λ f. IsHeld f (segment_name_of 6 id))) (sym named)
    (held_beside archives id f (segment_name_of 6 id) (not_archived id id fits fits) there there)

-- the others are there once one has gone
pub others_there_still : (told now : Option Files) (archives : Bool) (base o : ℕ)
    (others : List ℕ) → AreDroppable told base (o ∷ others)
    → now ≡ option_map (gone_at archives (base + o)) told → AreDroppable now base others
others_there_still told now archives base o others are gone = record {
  fits = λ p listed. are.fits p (further o others p listed);
  ascending = behind (λ (a b : ℕ). a < b) o others are.ascending;
  there = λ p listed. there_after told now gone p listed (are.there o (here o others))
      (are.there p (further o others p listed));
}
  where
    id_apart : (p : ℕ) → Contains others p
        → segment_name_of 6 (base + p) ≡ segment_name_of 6 (base + o) → ⊥
    id_apart p listed same =
        omega (
          arith,
          ahead (λ (a b : ℕ). a < b) o others are.ascending p listed,
          one_id (base + o) (base + p) (are.fits o (here o others))
              (are.fits p (further o others p listed)) same,
        )

    there_after : (old new : Option Files) → new ≡ option_map (gone_at archives (base + o)) old
        → (p : ℕ) → Contains others p
        → IfSome old (λ f. IsHeld f (segment_name_of 6 (base + o)))
        → IfSome old (λ f. IsHeld f (segment_name_of 6 (base + p)))
        → IfSome new (λ f. IsHeld f (segment_name_of 6 (base + p)))
    there_after None new gone p listed own held =
        subst (λ (m : Option Files). IfSome m (λ f. IsHeld f (segment_name_of 6 (base + p))))
        (sym gone) tt
    there_after (Some f) new gone p listed own held =
        let mine = segment_name_of 6 (base + o) in
        let its = segment_name_of 6 (base + p) in
        subst (λ (m : Option Files). IfSome m (λ f. IsHeld f its)) (sym gone)
        (subst IsSome
        (sym (gone_there (named_at archives (base + o) f) mine its (id_apart p listed)))
        (held_beside archives (base + o) f its
        (not_archived (base + o) (base + p) (are.fits o (here o others))
        (are.fits p (further o others p listed))) own held))

-- ---- changes, one behind another

pub behind_none : (before now : Option (List Change)) → now ≡ before → AreBehind [] before now
behind_none None now same = same
behind_none (Some changes) now same = same ∙ ap Some (sym (append-nil changes))

pub behind_then : (first more : List Change) (before mid now : Option (List Change))
    → AreBehind first before mid → AreBehind more mid now → AreBehind (first ++ more) before now
behind_then first more None mid now one two =
    two ∙ ap (option_map (λ (changes : List Change). changes ++ more)) one
behind_then first more (Some changes) mid now one two =
    two ∙ ap (option_map (λ (changes : List Change). changes ++ more)) one
    ∙ ap Some (append_assoc changes first more)

-- a link that answered Ok is the archive name's
pub named_by : {T E : Type 0} (archives : Bool) (id : ℕ) (from to : List ℕ)
    (before now : Option (List Change)) (result : Result T E) → archives ≡ true
    → from ≡ segment_name_of 6 id → to ≡ archive_name_of id
    → Adds (change.Link from to) before now result → NamesBy archives id before now result
named_by archives id from to before now (Ok x) archived is to_is adds =
    adds ∙ ap (λ (c : Change). option_map (λ changes. changes ++ c ∷ []) before)
    (ap (λ (n : List ℕ). change.Link n to) is
    ∙ ap (change.Link (segment_name_of 6 id)) to_is)
    ∙ ap (λ (b : Bool). option_map (λ changes. changes ++ names_by b id) before) (sym archived)
named_by archives id from to before now (Err e) archived is to_is adds = adds

-- a name that is there is not missed
pub not_missing : {T : Type 0} (told : Option Files) (name : List ℕ) (result : Result T DiskFault)
    → Finds told name result → IfSome told (λ f. IsHeld f name) → result ≢ Err NoSuchFile
not_missing {T} told name result finds held missing =
    found_there told name held
    (subst (λ (r : Result T DiskFault). Finds told name r) missing finds)

-- one more has gone behind others
all_gone_more : (archives : Bool) (base : ℕ) (front : List ℕ) (o : ℕ) (f : Files)
    → all_gone_at archives base (front ++ o ∷ []) f
    ≡ gone_at archives (base + o) (all_gone_at archives base front f)
all_gone_more archives base [] o f = refl
all_gone_more archives base (p ∷ front) o f =
    all_gone_more archives base front o (gone_at archives (base + p) f)

-- others have gone, and then one
pub all_gone_then : (told mid now : Option Files) (archives : Bool) (base : ℕ) (front : List ℕ)
    (o : ℕ) → mid ≡ option_map (all_gone_at archives base front) told
    → now ≡ option_map (gone_at archives (base + o)) mid
    → now ≡ option_map (all_gone_at archives base (front ++ o ∷ [])) told
all_gone_then None mid now archives base front o first next =
    next ∙ ap (option_map (gone_at archives (base + o))) first
all_gone_then (Some f) mid now archives base front o first next =
    next ∙ ap (option_map (gone_at archives (base + o))) first
    ∙ ap Some (sym (all_gone_more archives base front o f))

pub all_gone_none : (told : Option Files) (archives : Bool) (base : ℕ)
    → told ≡ option_map (all_gone_at archives base []) told
all_gone_none None archives base = refl
all_gone_none (Some f) archives base = refl

-- the changes of the first ones and of the next
pub all_go_more : (archives : Bool) (base : ℕ) (front : List ℕ) (o : ℕ)
    (before mid now : Option (List Change)) → AreBehind (all_go_by archives base front) before mid
    → AreBehind (goes_by archives (base + o)) mid now
    → AreBehind (all_go_by archives base (front ++ o ∷ [])) before now
all_go_more archives base front o before mid now first next =
    subst (λ (changes : List Change). AreBehind changes before now)
    (ap (λ (l : List Change). all_go_by archives base front ++ l)
    (sym (append-nil (goes_by archives (base + o))))
    ∙ sym (flat_map-append (λ (p : ℕ). goes_by archives (base + p)) front (o ∷ [])))
    (behind_then (all_go_by archives base front) (goes_by archives (base + o)) before mid now first
    next)
