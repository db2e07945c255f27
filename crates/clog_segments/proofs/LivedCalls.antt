-- What a store keeps true over its whole life: a section is appended, and sections are synced.
use Rattle.std.proofs.Common.{
  ◌≡◌,
  ℕ,
  ◌<◌,
  ◌≤◌,
  List,
  [],
  ◌∷◌,
  ◌++◌,
  length,
  take,
  drop,
  Option,
  Some,
  Bool,
  true,
  false,
  refl,
  sym,
  ◌∙◌,
  ap,
  subst,
  arith,
  length-append,
}
use Rattle.std.proofs.lemmas.List.{
  append-nil,
  take_all,
  drop_all,
  take-append-drop,
  take-append-le,
  drop-append-le,
}
use Rattle.clog_disk.specs.Files.{Files, SameTold}
use Rattle.clog_disk.specs.Images.{IsImage, IsLater, LeavesOnly}
use Rattle.clog_scan.specs.Cut.{Section, last_until}
use Rattle.clog_scan.specs.Segment.{entries_of}
use Rattle.clog_crash.specs.Log.{HasShown, IsResting, logged_in}
use Rattle.clog_crash.specs.Readings.{Reading}
use Rattle.clog_crash.proofs.life.Resting.{resting_shows}
use Rattle.clog_crash.proofs.life.Shown.{logged_more, shown_longer}
use Rattle.clog_segments.specs.Life.{
  BothTold,
  Lives,
  LivesOn,
  MayGoOnIn,
  Outlives,
  ShowsOn,
  State,
  lasting_in,
}
use Rattle.clog_segments.specs.Resting.{RestsAt, ShowsBehind}
use Rattle.clog_segments.proofs.Anywhere.{here_only, went_on}
use Rattle.clog_segments.proofs.Lived.{
  all_of,
  at_both,
  at_told,
  both,
  lasts_on,
  shown_on,
  told_before,
}

module _ {D : Type 0} (files : D → Option Files) (moment : D → ℕ)
    (since : D → ℕ → Files → Type 0) (leaves : D → List ℕ → Option (List ℕ) → Type 0)
    (read_at : D → ℕ → Option Reading) (lasted_at : D → ℕ → Type 0) where
  abbrev Living : State D → Type 0
  Living s = Lives files moment since leaves read_at lasted_at s

  abbrev LivingOn : State D → State D → Type 0
  LivingOn before now = LivesOn files moment since leaves read_at lasted_at before now

  abbrev Outliving : State D → State D → Type 0
  Outliving before now = Outlives files moment since read_at lasted_at before now

  module _ (s : State D) (new : D) (runs : s.is_stopped ≡ false) (lives : Living s)
      (counts : (image : Files) → IsImage (leaves new) image → since new (moment s.disk) image)
      (told : SameTold (files s.disk) (files new)) (later : IsLater moment read_at lasted_at s.disk
      new) where
    abbrev a : List Section
    a = take s.synced s.sections

    abbrev b : List Section
    b = drop s.synced s.sections

    read_before : (r : Reading) → read_at new s.opened ≡ Some r
        → read_at s.disk s.opened ≡ Some r
    read_before r read = sym (later.remembers s.opened lives.began) ∙ read

    rests_by : (f : Files) (r : Reading) → files s.disk ≡ Some f → read_at s.disk s.opened ≡ Some r
        → (at : ℕ) → MayGoOnIn s.id s.sections at
        → RestsAt (files s.disk) (leaves s.disk) r s.past at a b
    rests_by f r is read at may =
        subst (λ (o : Option Files). RestsAt o (leaves s.disk) r s.past at a b) (sym is)
        (at_both (files s.disk) (read_at s.disk s.opened) _ f r (lives.rests runs) is read at may)

    rests_then : (a' b' all : List Section)
        → ((at : ℕ) → MayGoOnIn s.id all at → MayGoOnIn s.id s.sections at)
        → ((at : ℕ) → MayGoOnIn s.id all at → (r : Reading)
        → RestsAt (files s.disk) (leaves s.disk) r s.past at a b
        → RestsAt (files new) (leaves new) r s.past at a' b')
        → BothTold (files new) (read_at new s.opened) (λ f r. (at : ℕ) → MayGoOnIn s.id all at
        → IsResting f (leaves new) r s.past at a' b')
    rests_then a' b' all before then =
        both (files new) (read_at new s.opened) _ (λ g r is read at may.
        let was = told_before (files s.disk) (files new) g told is in
        at_told (files new) g (λ f. IsResting f (leaves new) r s.past at a' b') is
        (then at may r (rests_by was.0 r was.1 (read_before r read) at (before at may))))

    began_still : s.opened ≤ moment new
    began_still = omega (arith, lives.began, later.no_sooner)

    -- each image of the call, which writes further sections or none
    shows_all : (more all : List Section) → s.sections ++ more ≡ all
        → ((at : ℕ) → MayGoOnIn s.id all at → (r : Reading)
        → RestsAt (files s.disk) (leaves s.disk) r s.past at a b
        → LeavesOnly moment since s.disk new (ShowsBehind r s.past at a (b ++ more)))
        → BothTold (files new) (read_at new s.opened) (λ f r. (at : ℕ) → MayGoOnIn s.id all at
        → ShowsOn r s.past s.id s.sections s.past at all
        × LeavesOnly moment since s.disk new (HasShown r (lasting_in s) s.past at all))
    shows_all more all are any =
        both (files new) (read_at new s.opened) _ (λ g r is read at may.
        let before = told_before (files s.disk) (files new) g told is in
        let was = went_on s.id s.sections more all are at may in (
          record {
            from = at;
            may = was;
            on = λ least image shown.
                subst (λ (l : List Section). HasShown r least s.past at l image) are
                (shown_longer r least s.past at s.sections more image shown);
          },
          subst (λ (l : List Section).
              LeavesOnly moment since s.disk new (HasShown r (lasting_in s) s.past at l))
              (all_of s.synced s.sections more ∙ are)
              (any at may r (rests_by before.0 r before.1 (read_before r read) at was)),
        ))

    module _ (x : Section)
        (any : (r : Reading) → RestsAt (files s.disk) (leaves s.disk) r s.past s.id a b
        → LeavesOnly moment since s.disk new (ShowsBehind r s.past s.id a (b ++ x ∷ []))) where
      abbrev longer : List Section
      longer = s.sections ++ x ∷ []

      front : take s.synced longer ≡ a
      front = take-append-le s.synced s.sections (x ∷ []) lives.few

      no_more : length (logged_in s.past (take s.synced longer)) ≤ length (logged_in s.past a)
      no_more = omega (arith, ap (λ (l : List Section). length (logged_in s.past l)) front)

      few_still : s.synced ≤ length longer
      few_still = omega (arith, lives.few, length-append s.sections (x ∷ []))

      some : 0 < length longer
      some = omega (arith, length-append s.sections (x ∷ []))

      outlives_by : (is_stopped : Bool)
          → Outliving s (record s { disk = new; sections = longer; is_stopped = is_stopped })
      outlives_by is_stopped = record {
        opened = refl;
        first = refl;
        told = told;
        later = later;
        no_fewer = omega (
          arith,
          ap (λ (l : List Section). length (logged_in s.past l)) front,
        );
        shown = shows_all (x ∷ []) longer refl (here_only s.id longer (λ at. (r : Reading)
            → RestsAt (files s.disk) (leaves s.disk) r s.past at a b
            → LeavesOnly moment since s.disk new (ShowsBehind r s.past at a (b ++ x ∷ []))) some
            any);
      }

      -- the disk has failed
      pub lives_torn : LivingOn s
          (record s { disk = new; sections = longer; is_stopped = true })
      lives_torn =
          let on = outlives_by true in
          record {
            lives = record {
              began = began_still;
              few = few_still;
              shown = shown_on files moment since leaves read_at lasted_at s (record s {
                disk = new;
                sections = longer;
                is_stopped = true;
              })
                  lives.began on lives.shown;
              lasts = lasts_on files moment since leaves read_at lasted_at s (record s {
                disk = new;
                sections = longer;
                is_stopped = true;
              })
                  counts no_more on;
              rests = λ going. let no : true ≡ false = going in cc;
            };
            outlives = on;
          }

      -- the section is kept
      pub lives_kept : ((r : Reading) → RestsAt (files s.disk) (leaves s.disk) r s.past s.id a b
          → RestsAt (files new) (leaves new) r s.past s.id a (b ++ x ∷ []))
          → LivingOn s (record s { disk = new; sections = longer })
      lives_kept kept =
          let on = outlives_by s.is_stopped in
          record {
            lives = record {
              began = began_still;
              few = few_still;
              shown = shown_on files moment since leaves read_at lasted_at s (record s {
                disk = new;
                sections = longer;
              }) lives.began on
                  lives.shown;
              lasts = lasts_on files moment since leaves read_at lasted_at s (record s {
                disk = new;
                sections = longer;
              }) counts no_more on;
              rests = λ going.
                  rests_then (take s.synced longer) (drop s.synced longer) longer
                  (went_on s.id s.sections (x ∷ []) longer refl)
                  (here_only s.id longer (λ at. (r : Reading)
                  → RestsAt (files s.disk) (leaves s.disk) r s.past at a b
                  → RestsAt (files new) (leaves new) r s.past at (take s.synced longer)
                  (drop s.synced longer)) some (λ r rests.
                  subst (λ (l : List Section).
                  RestsAt (files new) (leaves new) r s.past s.id (take s.synced longer) l)
                  (sym (drop-append-le s.synced s.sections (x ∷ []) lives.few))
                  (subst (λ (l : List Section).
                  RestsAt (files new) (leaves new) r s.past s.id l (b ++ x ∷ []))
                  (sym front) (kept r rests))));
            };
            outlives = on;
          }

    module _ (any : (at : ℕ) → MayGoOnIn s.id s.sections at → (r : Reading)
        → RestsAt (files s.disk) (leaves s.disk) r s.past at a b
        → LeavesOnly moment since s.disk new (ShowsBehind r s.past at a b)) where
      any_more : (at : ℕ) → MayGoOnIn s.id s.sections at → (r : Reading)
          → RestsAt (files s.disk) (leaves s.disk) r s.past at a b
          → LeavesOnly moment since s.disk new (ShowsBehind r s.past at a (b ++ []))
      any_more at may r rests =
          subst (λ (l : List Section).
          LeavesOnly moment since s.disk new (ShowsBehind r s.past at a l))
          (sym (append-nil b)) (any at may r rests)

      outlives_with : (synced : ℕ) (is_stopped : Bool)
          → length (logged_in s.past a) ≤ length (logged_in s.past (take synced s.sections))
          → Outliving s (record s { disk = new; synced = synced; is_stopped = is_stopped })
      outlives_with synced is_stopped no_fewer = record {
        opened = refl;
        first = refl;
        told = told;
        later = later;
        no_fewer = no_fewer;
        shown = shows_all [] s.sections (append-nil s.sections) any_more;
      }

      -- nothing has changed but that time has gone on
      pub lives_same : ((at : ℕ) → MayGoOnIn s.id s.sections at → (r : Reading)
          → RestsAt (files s.disk) (leaves s.disk) r s.past at a b
          → RestsAt (files new) (leaves new) r s.past at a b)
          → LivingOn s (record s { disk = new })
      lives_same same =
          let on = outlives_with s.synced s.is_stopped (omega arith) in
          record {
            lives = record {
              began = began_still;
              few = lives.few;
              shown = shown_on files moment since leaves read_at lasted_at s
                  (record s { disk = new })
                  lives.began on lives.shown;
              lasts = lasts_on files moment since leaves read_at lasted_at s
                  (record s { disk = new }) counts
                  (omega arith) on;
              rests = λ going. rests_then a b s.sections (λ at may. may) same;
            };
            outlives = on;
          }

      -- the disk has failed
      pub lives_stopped : LivingOn s (record s { disk = new; is_stopped = true })
      lives_stopped =
          let on = outlives_with s.synced true (omega arith) in
          record {
            lives = record {
              began = began_still;
              few = lives.few;
              shown = shown_on files moment since leaves read_at lasted_at s (record s {
                disk = new;
                is_stopped = true;
              }) lives.began on
                  lives.shown;
              lasts = lasts_on files moment since leaves read_at lasted_at s (record s {
                disk = new;
                is_stopped = true;
              }) counts (omega arith)
                  on;
              rests = λ going. let no : true ≡ false = going in cc;
            };
            outlives = on;
          }

      whole : take (length s.sections) s.sections ≡ a ++ b
      whole =
          take_all (length s.sections) s.sections (omega arith)
          ∙ sym (take-append-drop s.synced s.sections)

      lasts_more : length (logged_in s.past a)
          ≤ length (logged_in s.past (take (length s.sections) s.sections))
      lasts_more = omega (
        arith,
        ap (λ (l : List Section). length (logged_in s.past l)) whole,
        ap length (logged_more s.past a b),
        length-append (logged_in s.past a) (entries_of (last_until 20 a) b),
      )

      -- all sections last
      module _ (some : 0 < length s.sections) (lasts : (r : Reading)
          → RestsAt (files s.disk) (leaves s.disk) r s.past s.id a b
          → RestsAt (files new) (leaves new) r s.past s.id (a ++ b) []) where
        abbrev all : ℕ
        all = length s.sections

        rests_settled : BothTold (files new) (read_at new s.opened) (λ f r. (at : ℕ)
            → MayGoOnIn s.id s.sections at
            → IsResting f (leaves new) r s.past at (take all s.sections) (drop all s.sections))
        rests_settled =
            rests_then (take all s.sections) (drop all s.sections) s.sections (λ at may. may)
            (here_only s.id s.sections (λ at. (r : Reading)
            → RestsAt (files s.disk) (leaves s.disk) r s.past at a b
            → RestsAt (files new) (leaves new) r s.past at (take all s.sections)
            (drop all s.sections)) some (λ r rests.
            subst (λ (l : List Section).
            RestsAt (files new) (leaves new) r s.past s.id (take all s.sections) l)
            (sym (drop_all all s.sections (omega arith)))
            (subst (λ (l : List Section). RestsAt (files new) (leaves new) r s.past s.id l [])
            (sym whole) (lasts r rests))))

        pub lives_settled : LivingOn s (record s { disk = new; synced = all })
        lives_settled =
            let on = outlives_with all s.is_stopped lasts_more in
            record {
              lives = record {
                began = began_still;
                few = omega arith;
                shown = shown_on files moment since leaves read_at lasted_at s (record s {
                  disk = new;
                  synced = all;
                }) lives.began on
                    lives.shown;
                lasts = both (files new) (read_at new s.opened) _ (λ f r is read at may image left.
                    subst (λ (l : List Section).
                    HasShown r (length (logged_in s.past (take all s.sections))) s.past at l
                    image)
                    (take-append-drop all s.sections)
                    (resting_shows f (leaves new) r s.past at (take all s.sections)
                    (drop all s.sections)
                    (at_both (files new) (read_at new s.opened) _ f r rests_settled is read at may)
                    image left));
                rests = λ going. rests_settled;
              };
              outlives = on;
            }
