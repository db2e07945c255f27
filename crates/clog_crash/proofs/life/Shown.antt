-- What images have shown since an opening they show for good, however the log goes on.
use Rattle.std.proofs.Common.{
  ◌≡◌,
  ℕ,
  ◌+◌,
  ◌≤◌,
  List,
  [],
  ◌∷◌,
  ◌++◌,
  length,
  refl,
  sym,
  ◌∙◌,
  ap,
  subst,
  arith,
  append_assoc,
}
use Rattle.std.proofs.lemmas.List.{append-nil}
use Rattle.clog_spec.specs.Sizes.{header_size}
use Rattle.clog_spec.specs.Names.{segment_name_of}
use Rattle.clog_disk.specs.Files.{Files, bytes_at}
use Rattle.clog_scan.specs.Cut.{Section, last_until}
use Rattle.clog_scan.specs.Segment.{Entry, entries_of}
use Rattle.clog_scan.proofs.Appended.{entries_of-append}
use Rattle.clog_crash.specs.Chance.{NoChance}
use Rattle.clog_crash.specs.Covering.{Either, SameMerge}
use Rattle.clog_crash.specs.Log.{Write, entries_in, NoChances, HasShown, logged_in}
use Rattle.clog_crash.specs.Readings.{Reading, RestoresIn, IsCellAmong}
use Rattle.clog_crash.specs.Rest.{settled}
use Rattle.clog_crash.specs.Sections.{IsStored}
use Rattle.clog_crash.specs.Showing.{RestoresFirst, Shows}
use Rattle.clog_crash.proofs.rest.Firsts.{fewer, first_more, first_behind}

-- ---- logs

abbrev pub written : ℕ → List Section → Write
written id sections = record { id = id; sections = sections }

pub entries_in-append : (ws more : List Write)
    → entries_in (ws ++ more) ≡ entries_in ws ++ entries_in more
entries_in-append [] more = refl
entries_in-append (w ∷ ws) more =
    let first = entries_of header_size w.sections in
    ap (λ (es : List Entry). first ++ es) (entries_in-append ws more)
    ∙ sym (append_assoc first (entries_in ws) (entries_in more))

chance_in : (past : List Write) (w : Write) (next : List Write) (image : Files)
    → NoChances (past ++ w ∷ next) image
    → NoChance w.id w.sections (bytes_at image (segment_name_of 6 w.id))
chance_in [] w next image chances = chances.0
chance_in (v ∷ past) w next image chances = chance_in past w next image chances.1

-- the entries that last, and those of further sections
pub logged_more : (past : List Write) (old more : List Section)
    → logged_in past (old ++ more) ≡ logged_in past old ++ entries_of
    (last_until header_size old) more
logged_more past old more =
    ap (λ (es : List Entry). entries_in past ++ es) (entries_of-append header_size old more)
    ∙ sym (append_assoc (entries_in past) (entries_of header_size old)
    (entries_of (last_until header_size old) more))

-- those of earlier segments, once this one is among them
pub logged_rolled : (past : List Write) (id : ℕ) (sections : List Section)
    → logged_in (past ++ written id sections ∷ []) [] ≡ logged_in past sections
logged_rolled past id sections =
    append-nil (entries_in (past ++ written id sections ∷ []))
    ∙ entries_in-append past (written id sections ∷ [])
    ∙ ap (λ (es : List Entry). entries_in past ++ es) (append-nil (entries_of header_size sections))

-- ---- however the log goes on

-- fewer of the entries are enough
pub shown_fewer : (r : Reading) (less least : ℕ) (past : List Write) (id : ℕ)
    (sections : List Section) (image : Files) → less ≤ least
    → HasShown r least past id sections image → HasShown r less past id sections image
shown_fewer r less least past id sections image le shown log on chances =
    fewer r less least (entries_in log) image le (shown log on chances)

-- with further sections
pub shown_longer : (r : Reading) (least : ℕ) (past : List Write) (id : ℕ)
    (sections more : List Section) (image : Files) → HasShown r least past id sections image
    → HasShown r least past id (sections ++ more) image
shown_longer r least past id sections more image shown log on chances =
    let same : (sections ++ more) ++ on.more ≡ sections ++ (more ++ on.more) =
    append_assoc sections more on.more in
    shown log (record {
      more = more ++ on.more;
      next = on.next;
      is = on.is ∙ ap (λ (l : List Section). past ++ written id l ∷ on.next) same;
      stored = subst (IsStored id) same on.stored;
    }) chances

-- in the next segment
pub shown_rolled : (r : Reading) (least : ℕ) (past : List Write) (id next : ℕ)
    (sections : List Section) (image : Files) → IsStored id sections
    → HasShown r least past id sections image
    → HasShown r least (past ++ written id sections ∷ []) next [] image
shown_rolled r least past id next sections image stored shown log on chances =
    let none : sections ++ [] ≡ sections = append-nil sections in
    let w = written id sections in
    let behind = written next on.more ∷ on.next in
    shown log (record {
      more = [];
      next = behind;
      is = on.is ∙ append_assoc past (w ∷ []) behind
          ∙ ap (λ (l : List Section). past ++ written id l ∷ behind) (sym none);
      stored = subst (IsStored id) (sym none) stored;
    }) chances

-- ---- what is shown of the segment at hand

pub shown_by : (f : Files) (r : Reading) (past : List Write) (id : ℕ) (old more : List Section)
    (image : Files)
    → SameMerge (RestoresIn (settled f id old))
    (Either (RestoresIn r) (IsCellAmong (logged_in past old))) → Shows f id old more image
    → HasShown r (length (logged_in past old)) past id (old ++ more) image
shown_by f r past id old more image restores shows log on chances =
    let q = settled f id old in
    let first = logged_in past old in
    let later = more ++ on.more in
    let second = entries_of (last_until header_size old) later in
    let behind = entries_in on.next in
    let all : (old ++ more) ++ on.more ≡ old ++ later = append_assoc old more on.more in
    let b = bytes_at image (segment_name_of 6 id) in
    let chance : NoChance id (old ++ later) b =
    subst (λ (l : List Section). NoChance id l b) all
    (chance_in past (written id ((old ++ more) ++ on.more)) on.next image
    (subst (λ (l : List Write). NoChances l image) on.is chances)) in
    let here = shows on.more (subst (IsStored id) all on.stored) chance in
    let entries : entries_in log ≡ (first ++ second) ++ behind =
    ap entries_in on.is ∙ entries_in-append past (written id ((old ++ more) ++ on.more) ∷ on.next)
    ∙ ap (λ (l : List Section). entries_in past ++ (entries_of header_size l ++ behind)) all
    ∙ sym (append_assoc (entries_in past) (entries_of header_size (old ++ later)) behind)
    ∙ ap (λ (es : List Entry). es ++ behind) (logged_more past old later) in
    subst (λ (es : List Entry). RestoresFirst r (length first) es image) (sym entries)
    (first_more r (length first) (first ++ second) behind image
    (fewer r (length first) (length first + 0) (first ++ second) image (omega arith)
    (first_behind q r 0 first second image restores here)))
