-- What a store keeps true over its whole life: its log goes on in a further segment.
use Rattle.std.proofs.Common.{
  ◌≡◌,
  ℕ,
  ◌<◌,
  ◌≤◌,
  ◌^◌,
  inl,
  inr,
  List,
  [],
  ◌∷◌,
  ◌++◌,
  length,
  take,
  Option,
  Some,
  false,
  refl,
  sym,
  ◌∙◌,
  ap,
  subst,
  arith,
}
use Rattle.std.proofs.lemmas.List.{append-nil, take_all, drop_all}
use Rattle.clog_disk.specs.Files.{Files}
use Rattle.clog_disk.specs.Images.{IsImage}
use Rattle.clog_disk.proofs.Moments.{started}
use Rattle.clog_disk.proofs.Telling.{same_told_self}
use Rattle.clog_scan.specs.Cut.{Section}
use Rattle.clog_crash.specs.Log.{HasShown, IsResting, logged_in}
use Rattle.clog_crash.specs.Readings.{Reading}
use Rattle.clog_crash.specs.Sections.{IsStored}
use Rattle.clog_crash.proofs.life.Resting.{resting_rolls, resting_shows}
use Rattle.clog_crash.proofs.life.Shown.{logged_rolled, shown_rolled, written}
use Rattle.clog_segments.specs.Life.{Lives, LivesOn, MayGoOnIn, Outlives, State, lasting_in}
use Rattle.clog_segments.proofs.Anywhere.{further_on}
use Rattle.clog_segments.proofs.Lived.{at_both, both, lasts_on, shown_on}

module _ {D : Type 0} (files : D → Option Files) (moment : D → ℕ)
    (since : D → ℕ → Files → Type 0) (leaves : D → List ℕ → Option (List ℕ) → Type 0)
    (read_at : D → ℕ → Option Reading) (lasted_at : D → ℕ → Type 0) where
  abbrev Living : State D → Type 0
  Living s = Lives files moment since leaves read_at lasted_at s

  abbrev LivingOn : State D → State D → Type 0
  LivingOn before now = LivesOn files moment since leaves read_at lasted_at before now

  abbrev Outliving : State D → State D → Type 0
  Outliving before now = Outlives files moment since read_at lasted_at before now

  module _ (s : State D) (next : ℕ) (runs : s.is_stopped ≡ false) (lives : Living s)
      (only : (image : Files) → since s.disk (moment s.disk) image
      → IsImage (leaves s.disk) image)
      (counts : (image : Files) → IsImage (leaves s.disk) image
      → since s.disk (moment s.disk) image) (above : s.id < next) (fits : next < 2 ^ 63) where
    abbrev rolled : State D
    rolled = record s {
      past = s.past ++ written s.id s.sections ∷ [];
      id = next;
      sections = [];
      synced = 0;
    }

    -- the log goes on in a further segment, where all sections of this one last
    module _ (x : Section) (xs : List Section) (are : s.sections ≡ x ∷ xs)
        (all : s.synced ≡ length s.sections) where
      all_last : take s.synced s.sections ≡ s.sections
      all_last = take_all s.synced s.sections (omega (arith, all))

      rests_whole : (f : Files) (r : Reading) → files s.disk ≡ Some f
          → read_at s.disk s.opened ≡ Some r
          → IsResting f (leaves s.disk) r s.past s.id s.sections []
      rests_whole f r is read =
          subst (λ (l : List Section). IsResting f (leaves s.disk) r s.past s.id l []) all_last
          (subst (λ (l : List Section).
          IsResting f (leaves s.disk) r s.past s.id (take s.synced s.sections) l)
          (drop_all s.synced s.sections (omega (arith, all)))
          (at_both (files s.disk) (read_at s.disk s.opened) _ f r (lives.rests runs) is read s.id
          (inl refl)))

      stored : (f : Files) (r : Reading)
          → IsResting f (leaves s.disk) r s.past s.id s.sections [] → IsStored s.id s.sections
      stored f r rest = subst (IsStored s.id) (append-nil s.sections) rest.rest.stored

      shows_now : (f : Files) (r : Reading)
          → IsResting f (leaves s.disk) r s.past s.id s.sections [] → (image : Files)
          → since s.disk (moment s.disk) image
          → HasShown r (lasting_in s) s.past s.id s.sections image
      shows_now f r rest image now =
          subst (λ (l : List Section).
          HasShown r (length (logged_in s.past l)) s.past s.id s.sections image) (sym all_last)
          (subst (λ (l : List Section).
          HasShown r (length (logged_in s.past s.sections)) s.past s.id l image)
          (append-nil s.sections)
          (resting_shows f (leaves s.disk) r s.past s.id s.sections [] rest image
          (only image now)))

      same_lasting : lasting_in rolled ≡ lasting_in s
      same_lasting =
          ap length (logged_rolled s.past s.id s.sections)
          ∙ sym (ap (λ (l : List Section). length (logged_in s.past l)) all_last)

      no_more_rolled : lasting_in rolled ≤ lasting_in s
      no_more_rolled = omega (arith, same_lasting)

      outlives_rolled : Outliving s rolled
      outlives_rolled = record {
        opened = refl;
        first = refl;
        told = same_told_self (files s.disk);
        later = record {
          no_sooner = omega arith;
          remembers = λ t le. refl;
          lasted_then = λ t le. (λ has. has, λ has. has);
        };
        no_fewer = omega (arith, same_lasting);
        shown = both (files s.disk) (read_at s.disk s.opened) _ (λ f r is read at may.
            let rest = rests_whole f r is read in
            let on = λ (least : ℕ) (image : Files) (shown :
            HasShown r least s.past s.id s.sections image).
            shown_rolled r least s.past s.id at s.sections image (stored f r rest) shown in (
              record { from = s.id; may = inl refl; on = on },
              started moment since s.disk
                  (HasShown r (lasting_in s) rolled.past at rolled.sections)
                  (λ image now. on (lasting_in s) image (shows_now f r rest image now)),
            ));
      }

      rolls_by : LivingOn s rolled
      rolls_by = record {
        lives = record {
          began = lives.began;
          few = omega arith;
          shown = shown_on files moment since leaves read_at lasted_at s rolled lives.began
              outlives_rolled
              lives.shown;
          lasts = lasts_on files moment since leaves read_at lasted_at s rolled
              (λ image left. counts image
              left) no_more_rolled
              outlives_rolled;
          rests = λ going. both (files s.disk) (read_at s.disk s.opened) _ (λ f r is read at may.
              let on = further_on s.id next above fits at may in
              subst (λ (l : List Section).
              IsResting f (leaves s.disk) r (s.past ++ written s.id l ∷ []) at [] []) (sym are)
              (resting_rolls f (leaves s.disk) r s.past s.id x xs at on.0 on.1
              (subst (λ (l : List Section). IsResting f (leaves s.disk) r s.past s.id l []) are
              (rests_whole f r is read))));
        };
        outlives = outlives_rolled;
      }

    pub lives_rolled : 0 < length s.sections → s.synced ≡ length s.sections → LivingOn s rolled
    lives_rolled some all = by s.sections refl
      where
        by : (ss : List Section) → s.sections ≡ ss → LivingOn s rolled
        by [] none = absurd (omega (arith, some, ap length none))
        by (x ∷ xs) are = rolls_by x xs are all

    -- the log goes on in a further segment, where this one has no section
    module _ (none : s.sections ≡ []) where
      abbrev skipped : State D
      skipped = record s { id = next }

      still : (at : ℕ) → MayGoOnIn next s.sections at → MayGoOnIn s.id s.sections at
      still at may =
          let on = further_on s.id next above fits at
          (subst (λ (l : List Section). MayGoOnIn next l at) none may) in
          inr (none, on.0, on.1)

      outlives_skipped : Outliving s skipped
      outlives_skipped = record {
        opened = refl;
        first = refl;
        told = same_told_self (files s.disk);
        later = record {
          no_sooner = omega arith;
          remembers = λ t le. refl;
          lasted_then = λ t le. (λ has. has, λ has. has);
        };
        no_fewer = omega arith;
        shown = both (files s.disk) (read_at s.disk s.opened) _ (λ f r is read at may. (
          record { from = at; may = still at may; on = λ least image shown. shown },
          started moment since s.disk (HasShown r (lasting_in s) s.past at s.sections)
              (λ image now. at_both (files s.disk) (read_at s.disk s.opened) _ f r lives.lasts is
              read at (still at may) image (only image now)),
        ));
      }

      pub lives_skipped : LivingOn s skipped
      lives_skipped = record {
        lives = record {
          began = lives.began;
          few = lives.few;
          shown = shown_on files moment since leaves read_at lasted_at s skipped lives.began
              outlives_skipped
              lives.shown;
          lasts = lasts_on files moment since leaves read_at lasted_at s skipped
              (λ image left. counts image
              left) (omega arith)
              outlives_skipped;
          rests = λ going. both (files s.disk) (read_at s.disk s.opened) _ (λ f r is read at may.
              at_both (files s.disk) (read_at s.disk s.opened) _ f r (lives.rests runs) is read at
              (still at may));
        };
        outlives = outlives_skipped;
      }
