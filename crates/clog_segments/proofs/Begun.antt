-- What a log keeps from its opening on.
use Rattle.std.proofs.Common.{
  ◌≡◌,
  ℕ,
  ◌≤◌,
  List,
  [],
  ◌∷◌,
  ◌++◌,
  append_assoc,
  take-append-drop,
  drop,
  length,
  take,
  Option,
  None,
  true,
  false,
  IfSome,
  refl,
  sym,
  ◌∙◌,
  ap,
  subst,
  inl,
  inr,
  arith,
}
use Rattle.std.specs.Prelude.{◌↔◌, ◌⊎◌, ◌<◌, ◌^◌, Bool, Contains, option_map}
use Rattle.std.proofs.lemmas.List.Elements.{Contains-push_cases}
use Rattle.clog_spec.specs.Names.{segment_name_of}
use Rattle.clog_disk.specs.Files.{Files, bytes_at}
use Rattle.clog_disk.specs.Images.{IsImage, IsLater, Lasts, LastsAll}
use Rattle.clog_scan.specs.Cut.{Section}
use Rattle.clog_crash.specs.Log.{Write}
use Rattle.clog_crash.specs.Readings.{Reading}
use Rattle.clog_crash.specs.Rest.{IsAtRest}
use Rattle.clog_crash.specs.Sections.{Brings, IsStored, segment_bytes}
use Rattle.clog_segments.specs.declared.sequences.Sequences.{Sequences}
use Rattle.clog_segments.specs.Life.{HasBegun, HasEnd, Lives, LivesOn, MayGoOnIn, State}
use Rattle.clog_segments.specs.Numbering.{KeepsSequences}
use Rattle.clog_segments.specs.Torn.{HandStands}
use Rattle.clog_segments.proofs.Ends.{end_rolled}
use Rattle.clog_segments.proofs.Lived.{lives_at_first, rest_at_first}
use Rattle.clog_segments.proofs.Torn.{end_stands}

-- the segment at hand, once it is one of the past
abbrev pub written : ℕ → List Section → Write
written id sections = record { id = id; sections = sections }

none_below : (w : Write) (P : Type 0) → Contains [] w → P
none_below w P among = absurd (omega (arith, among.1))

-- sections stand with one more that was brought
pub stored_more : (id k : ℕ) (ss : List Section) (x : Section) (bytes : List ℕ)
    → Brings id (take k ss) (drop k ss) (x ∷ []) bytes → IsStored id (ss ++ x ∷ [])
stored_more id k ss x bytes b =
    subst (IsStored id)
    (sym (append_assoc (take k ss) (drop k ss) (x ∷ []))
    ∙ ap (λ (l : List Section). l ++ x ∷ []) (take-append-drop k ss)) b.stored

module _ {D : Type 0} (files : D → Option Files) (moment : D → ℕ)
    (since : D → ℕ → Files → Type 0) (leaves : D → List ℕ → Option (List ℕ) → Type 0)
    (read_at : D → ℕ → Option Reading) (lasted_at : D → ℕ → Type 0) where
  pub begun : (disk first : D) (opened id : ℕ) (past : List Write) (sections : List Section)
      → opened ≡ moment disk → first ≡ disk → past ≡ [] → sections ≡ []
      → read_at disk (moment disk) ≡ option_map bytes_at (files disk)
      → ((image : Files) → since disk (moment disk) image → IsImage (leaves disk) image)
      → IfSome (files disk) (λ f. lasted_at disk (moment disk) ↔ LastsAll f (leaves disk))
      → HasEnd (files disk) id 0 []
      → IfSome (files disk) (λ f. LastsAll f (leaves disk) → (at : ℕ) → MayGoOnIn id [] at
      → IsAtRest f (leaves disk) at [] [])
      → HasBegun files moment since leaves read_at lasted_at (record {
        disk = disk;
        opened = opened;
        first = first;
        past = past;
        id = id;
        sections = sections;
        synced = 0;
        is_stopped = false;
      }) 0 None
  begun disk first opened id past sections now same none_past none reads only lasts end rests =
      record {
        began = omega (arith, now);
        few = omega arith;
        past_below = λ w among. none_below w (w.id < id)
            (subst (λ (l : List Write). Contains l w) none_past among);
        past_stored = λ w among. none_below w (IsStored w.id w.sections)
            (subst (λ (l : List Write). Contains l w) none_past among);
        stored = subst (IsStored id) (sym none) end.stored;
        stands = end_stands (files disk) id 0 0 sections (omega arith)
            (subst (λ (l : List Section). HasEnd (files disk) id 0 l) (sym none) end);
        ends = λ runs. subst (λ (l : List Section). HasEnd (files disk) id 0 l) (sym none) end;
        here = λ runs some all. absurd (let no = ap (λ (l : List Section). length l) none in
            omega (arith, no, some));
        sequences = λ runs. tt;
        lives = λ lasted.
            subst (λ (ps : List Write). Living first ps sections) (sym none_past)
            (subst (λ (l : List Section). Living first [] l) (sym none)
            (subst (λ (d : D). Living d [] []) (sym same)
            (lives_at_first files moment since leaves read_at lasted_at disk opened id now reads
            only
            (rest_at_first (files disk) (leaves disk) id (lasted_at disk (moment disk)) lasts rests
            (subst (λ (t : ℕ). lasted_at disk t) now lasted)))));
      }
    where
      Living : D → List Write → List Section → Type 0
      Living d ps l = Lives files moment since leaves read_at lasted_at (record {
        disk = disk;
        opened = opened;
        first = d;
        past = ps;
        id = id;
        sections = l;
        synced = 0;
        is_stopped = false;
      })

  -- a call by which the log stays in its segment
  pub begun_on : (s : State D) (size : ℕ) (disk : D) (sections : List Section) (synced : ℕ)
      (stopped : Bool) (size_now : ℕ) {known : Option Sequences} (known_now : Option Sequences)
      → HasBegun files moment since leaves read_at lasted_at s size known
      → IsLater moment read_at lasted_at s.disk disk → synced ≤ length sections
      → IsStored s.id sections
      → (stopped ≡ false → HasEnd (files disk) s.id size_now sections)
      → (stopped ≡ true → HandStands (files disk) s.id synced sections)
      → (stopped ≡ false → 0 < length sections → synced ≡ length sections
      → Lasts (files disk) (leaves disk) (segment_name_of 6 s.id))
      → (stopped ≡ false → KeepsSequences (files disk) known_now)
      → (Lives files moment since leaves read_at lasted_at s
      → LivesOn files moment since leaves read_at lasted_at s (record s {
        disk = disk;
        sections = sections;
        synced = synced;
        is_stopped = stopped;
      }))
      → HasBegun files moment since leaves read_at lasted_at (record s {
        disk = disk;
        sections = sections;
        synced = synced;
        is_stopped = stopped;
      }) size_now known_now
  begun_on s size disk sections synced stopped size_now known_now begun later few stored ends torn
      here
      knows on =
      record {
        began = omega (arith, begun.began, later.no_sooner);
        few = few;
        past_below = begun.past_below;
        past_stored = begun.past_stored;
        stored = stored;
        stands = by stopped refl;
        ends = ends;
        here = here;
        sequences = knows;
        lives = λ lasted.
            (on (begun.lives ((later.lasted_then s.opened begun.began).0 lasted))).lives;
      }
    where
      by : (b : Bool) → stopped ≡ b → HandStands (files disk) s.id synced sections
      by false runs = end_stands (files disk) s.id size_now synced sections few (ends runs)
      by true has = torn has

  -- it goes on in a further segment
  pub begun_rolled : (s : State D) (size next : ℕ) (past : List Write) (sections : List Section)
      {known : Option Sequences}
      → past ≡ s.past ++ written s.id s.sections ∷ [] → sections ≡ [] → s.id < next
      → next < 2 ^ 63 → s.is_stopped ≡ false
      → HasBegun files moment since leaves read_at lasted_at s size known
      → (Lives files moment since leaves read_at lasted_at s
      → LivesOn files moment since leaves read_at lasted_at s (record s {
        past = past;
        id = next;
        sections = sections;
        synced = 0;
      }))
      → HasBegun files moment since leaves read_at lasted_at (record s {
        past = past;
        id = next;
        sections = sections;
        synced = 0;
      }) 0 known
  begun_rolled s size next past sections past_is none over limit runs begun on = record {
    began = begun.began;
    few = omega arith;
    past_below = λ w among. elim (last_or w among) [
      | inl before ↦ let low = begun.past_below w before in omega (arith, low, over)
      | inr same ↦ omega (arith, ap (λ (x : Write). x.id) same, over)
    ];
    past_stored = λ w among. elim (last_or w among) [
      | inl before ↦ begun.past_stored w before
      | inr same ↦ subst (λ (x : Write). IsStored x.id x.sections) same end.stored
    ];
    stored = subst (IsStored next) (sym none) fresh.stored;
    stands = end_stands (files s.disk) next 0 0 sections (omega arith)
        (subst (λ (l : List Section). HasEnd (files s.disk) next 0 l) (sym none) fresh);
    ends = λ still. subst (λ (l : List Section). HasEnd (files s.disk) next 0 l) (sym none) fresh;
    here = λ still some all. absurd (let no = ap (λ (l : List Section). length l) none in
        omega (arith, no, some));
    sequences = begun.sequences;
    lives = λ lasted. (on (begun.lives lasted)).lives;
  }
    where
      end : HasEnd (files s.disk) s.id size s.sections
      end = begun.ends runs

      fresh : HasEnd (files s.disk) next 0 []
      fresh = end_rolled (files s.disk) s.id next size s.sections over limit end

      last_or : (w : Write) → Contains past w
          → Contains s.past w ⊎ (written s.id s.sections ≡ w)
      last_or w among =
          Contains-push_cases s.past (written s.id s.sections) w
          (subst (λ (l : List Write). Contains l w) past_is among)

  -- it goes on in a further segment, where this one has no section
  pub begun_skipped : (s : State D) (size next : ℕ) {known : Option Sequences} → s.sections ≡ []
      → s.id < next
      → next < 2 ^ 63 → s.is_stopped ≡ false
      → HasBegun files moment since leaves read_at lasted_at s size known
      → (Lives files moment since leaves read_at lasted_at s
      → LivesOn files moment since leaves read_at lasted_at s (record s { id = next }))
      → HasBegun files moment since leaves read_at lasted_at (record s { id = next }) size known
  begun_skipped s size next none over limit runs begun on = record {
    began = begun.began;
    few = begun.few;
    past_below = λ w among. let low = begun.past_below w among in omega (arith, low, over);
    past_stored = begun.past_stored;
    stored = subst (IsStored next) (sym none)
        (end_rolled (files s.disk) s.id next size s.sections over limit (begun.ends runs)).stored;
    stands = end_stands (files s.disk) next size s.synced s.sections begun.few end_there;
    ends = λ still. end_there;
    here = λ still some all. absurd (let no = ap (λ (l : List Section). length l) none in
        omega (arith, no, some));
    sequences = begun.sequences;
    lives = λ lasted. (on (begun.lives lasted)).lives;
  }
    where
      end_there : HasEnd (files s.disk) next size s.sections
      end_there =
          let end = begun.ends runs in
          let empty : size ≡ 0 =
          end.size_is ∙ ap (λ (l : List Section). length (segment_bytes s.id l)) none in
          subst (λ (l : List Section). HasEnd (files s.disk) next size l) (sym none)
          (subst (λ (k : ℕ). HasEnd (files s.disk) next k []) (sym empty)
          (end_rolled (files s.disk) s.id next size s.sections over limit end))
