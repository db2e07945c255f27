-- One name turns to another content, the folder restores the same, and what a crash leaves
-- meanwhile is one of both.
use Rattle.std.proofs.Common.{
  ◌≡◌,
  ℕ,
  inl,
  inr,
  List,
  ◌++◌,
  length,
  Option,
  refl,
  sym,
  ◌∙◌,
  ap,
  subst,
}
use Rattle.std.specs.FinMap as finmap
use Rattle.clog_spec.specs.Sizes.{header_size}
use Rattle.clog_spec.specs.Names.{segment_name_of}
use Rattle.clog_disk.specs.Files.{Files}
use Rattle.clog_disk.specs.Images.{IsImage, LastsAs, TurnsTo}
use Rattle.clog_disk.proofs.Named.{same_or_other}
use Rattle.clog_scan.specs.Cut.{Section, last_until}
use Rattle.clog_scan.specs.Segment.{entries_of}
use Rattle.clog_crash.specs.Covering.{Either, SameMerge}
use Rattle.clog_crash.specs.Log.{Write, HasShown, IsResting, logged_in}
use Rattle.clog_crash.specs.Readings.{Reading, RestoresIn, IsCellAmong}
use Rattle.clog_crash.specs.Rest.{IsAtRest, IsInFiles, Lasting, Tail, settled}
use Rattle.clog_crash.specs.Sections.{segment_bytes}
use Rattle.clog_crash.specs.Showing.{Shows}
use Rattle.clog_crash.proofs.changes.Covering.{merge_then}
use Rattle.clog_crash.proofs.life.Shown.{shown_by}
use Rattle.clog_crash.proofs.rest.Firsts.{first_over}
use Rattle.clog_crash.proofs.rest.Shown.{shown}

-- A folder becomes another at one name, which is not that of the segment that is written to. It
-- restores the same with the sections that last, and is one to which that segment may be written.
pub record Turns (f g : Files) (name : List ℕ) (what : Option (List ℕ)) (id : ℕ)
    (old kept : List Section) : Type 0 where
  pub apart : name ≡ segment_name_of 6 id → ⊥
  pub beside : (n : List ℕ) → (n ≡ name → ⊥) → finmap.get g n ≡ finmap.get f n
  pub here : finmap.get g name ≡ what
  pub same : SameMerge (RestoresIn (settled g id old)) (RestoresIn (settled f id old))
  pub in_files : IsInFiles g id old kept

-- what is left is this image alone
abbrev Single : Files → List ℕ → Option (List ℕ) → Type 0
Single image name left = left ≡ finmap.get image name

module _ (f g : Files) (name : List ℕ) (what : Option (List ℕ)) (id : ℕ) (old kept : List Section)
    (turn : Turns f g name what id old kept) (leaves now : List ℕ → Option (List ℕ) → Type 0)
    (turns : TurnsTo leaves now name what) (rest : IsAtRest f leaves id old kept) where
  abbrev s : List ℕ
  s = segment_name_of 6 id

  abbrev all : List Section
  all = old ++ kept

  apart_too : s ≡ name → ⊥
  apart_too same = turn.apart (sym same)

  from_before : (n : List ℕ) (left : Option (List ℕ)) → (n ≡ name → ⊥) → now n left
      → leaves n left
  from_before n left other has = elim (turns n left has) [
    | inl before ↦ before
    | inr turned ↦ absurd (other turned.0)
  ]

  -- ---- an image is one of before, or one of after

  module _ (image : Files) (left : IsImage now image) where
    tail_now : (o : Option (List ℕ)) → Single image s o
        → Tail (length (segment_bytes id old)) (segment_bytes id all) o
    tail_now o is =
        subst (λ (x : Option (List ℕ)).
        Tail (length (segment_bytes id old)) (segment_bytes id all) x) (sym is)
        (rest.lasting.tail (finmap.get image s)
        (from_before s (finmap.get image s) apart_too (left s)))

    elsewhere : (n : List ℕ) → (n ≡ s → ⊥) → (n ≡ name → ⊥)
        → finmap.get image n ≡ finmap.get f n
    elsewhere n other not =
        rest.lasting.others n other (finmap.get image n)
        (from_before n (finmap.get image n) not (left n))

    before_is : leaves name (finmap.get image name) → Lasting f (Single image) id old all
    before_is before = record {
      others = λ n other o is. elim (same_or_other n name) [
        | inl same ↦ is ∙ ap (finmap.get image) same
            ∙ rest.lasting.others name turn.apart (finmap.get image name) before
            ∙ ap (finmap.get f) (sym same)
        | inr not ↦ is ∙ elsewhere n other not
      ];
      tail = tail_now;
    }

    after_is : finmap.get image name ≡ what → Lasting g (Single image) id old all
    after_is turned = record {
      others = λ n other o is. elim (same_or_other n name) [
        | inl same ↦ is ∙ ap (finmap.get image) same ∙ turned ∙ sym turn.here
            ∙ ap (finmap.get g) (sym same)
        | inr not ↦ is ∙ elsewhere n other not ∙ sym (turn.beside n not)
      ];
      tail = tail_now;
    }

    from_after : Shows g id old kept image → Shows f id old kept image
    from_after shows later stored chance =
        first_over (settled g id old) (settled f id old) 0
        (entries_of (last_until header_size old) (kept ++ later)) image turn.same
        (shows later stored chance)

    pub turn_shows : Shows f id old kept image
    turn_shows = elim (turns name (finmap.get image name) (left name)) [
      | inl before ↦ shown f id old kept kept rest.in_files (Single image) (before_is before)
          image (λ n. refl)
      | inr turned ↦ from_after (shown g id old kept kept turn.in_files (Single image)
          (after_is turned.1) image (λ n. refl))
    ]

  -- ---- where the new content alone lasts

  pub turn_rests : LastsAs now name what → IsAtRest g now id old kept
  turn_rests lasts = record {
    stored = rest.stored;
    in_files = turn.in_files;
    lasting = record {
      others = λ n other o has. elim (same_or_other n name) [
        | inl same ↦ lasts o (subst (λ (m : List ℕ). now m o) same has) ∙ sym turn.here
            ∙ ap (finmap.get g) (sym same)
        | inr not ↦ rest.lasting.others n other o (from_before n o not has)
            ∙ sym (turn.beside n not)
      ];
      tail = λ o has. rest.lasting.tail o (from_before s o apart_too has);
    };
  }

-- ---- since the opening

module _ (f g : Files) (name : List ℕ) (what : Option (List ℕ)) (r : Reading)
    (past : List Write) (id : ℕ) (old kept : List Section)
    (turn : Turns f g name what id old kept) (leaves now : List ℕ → Option (List ℕ) → Type 0)
    (turns : TurnsTo leaves now name what) (resting : IsResting f leaves r past id old kept) where
  pub turn_shows_all : (image : Files) → IsImage now image
      → HasShown r (length (logged_in past old)) past id (old ++ kept) image
  turn_shows_all image left =
      shown_by f r past id old kept image resting.restores
      (turn_shows f g name what id old kept turn leaves now turns resting.rest image left)

  pub resting_turns : LastsAs now name what → IsResting g now r past id old kept
  resting_turns lasts = record {
    rest = turn_rests f g name what id old kept turn leaves now turns resting.rest lasts;
    restores = merge_then (RestoresIn (settled g id old)) (RestoresIn (settled f id old))
        (Either (RestoresIn r) (IsCellAmong (logged_in past old))) turn.same resting.restores;
  }
