-- What a store keeps true over its whole life, from state to state.
use Rattle.std.proofs.Common.{
  ◌≡◌,
  ℕ,
  ◌≤◌,
  List,
  [],
  ◌++◌,
  take,
  drop,
  Option,
  Some,
  None,
  false,
  IfSome,
  refl,
  sym,
  ◌∙◌,
  ap,
  subst,
  arith,
  append_assoc,
}
use Rattle.std.specs.Prelude.{◌↔◌, option_map}
use Rattle.std.proofs.lemmas.List.{take-append-drop}
use Rattle.clog_disk.specs.Files.{Files, Told, SameTold, bytes_at}
use Rattle.clog_disk.specs.Images.{IsImage, LastsAll, LeavesOnly}
use Rattle.clog_disk.proofs.Moments.{goes_on_by, later_still, started, weakened}
use Rattle.clog_disk.proofs.Telling.{same_told_self, same_told_then}
use Rattle.clog_crash.specs.Log.{HasShown, IsResting}
use Rattle.clog_crash.specs.Readings.{Reading}
use Rattle.clog_crash.specs.Rest.{IsAtRest}
use Rattle.clog_crash.proofs.life.Resting.{life_begins, resting_shows}
use Rattle.clog_crash.proofs.life.Shown.{shown_fewer}
use Rattle.clog_segments.specs.Life.{
  BothTold,
  Lives,
  LivesOn,
  MayGoOnIn,
  Outlives,
  ShownSince,
  State,
  lasting_in,
}

-- ---- where files and readings are told

pub both : (told : Option Files) (read : Option Reading) (P : Files → Reading → Type 0)
    → ((f : Files) (r : Reading) → told ≡ Some f → read ≡ Some r → P f r) → BothTold told read P
both None read P h = tt
both (Some f) None P h = tt
both (Some f) (Some r) P h = h f r refl refl

pub at_both : (told : Option Files) (read : Option Reading) (P : Files → Reading → Type 0)
    (f : Files)
    (r : Reading) → BothTold told read P → told ≡ Some f → read ≡ Some r → P f r
at_both told read P f r is t e =
    subst (λ (o : Option Reading). IfSome o (λ q. P f q)) e
    (subst (λ (o : Option Files). IfSome o (λ g. IfSome read (λ q. P g q))) t is)

pub told_before : (old new : Option Files) (g : Files) → SameTold old new → new ≡ Some g
    → (f : Files) × (old ≡ Some f)
told_before None new g same is = let no : None ≡ Some g = sym same ∙ is in cc
told_before (Some f) new g same is = (f, refl)

pub at_told : (o : Option Files) (f : Files) (P : Files → Type 0) → o ≡ Some f → Told o P → P f
at_told o f P is told = subst (λ (x : Option Files). Told x P) is told

pub same_told : (old new : Option Files) → new ≡ old → SameTold old new
same_told old new same =
    subst (λ (o : Option Files). SameTold old o) (sym same) (same_told_self old)

-- ---- parts of a list

pub all_of : {A : Type 0} (n : ℕ) (xs more : List A)
    → take n xs ++ (drop n xs ++ more) ≡ xs ++ more
all_of n xs more =
    sym (append_assoc (take n xs) (drop n xs) more)
    ∙ ap (λ l. l ++ more) (take-append-drop n xs)

-- a folder in which all lasts is at rest
pub rest_at_first : (told : Option Files) (leaves : List ℕ → Option (List ℕ) → Type 0) (id : ℕ)
    (lasted : Type 0) → IfSome told (λ f. lasted ↔ LastsAll f leaves)
    → IfSome told (λ f. LastsAll f leaves → (at : ℕ) → MayGoOnIn id [] at
    → IsAtRest f leaves at [] []) → lasted
    → IfSome told (λ f. (at : ℕ) → MayGoOnIn id [] at → IsAtRest f leaves at [] [])
rest_at_first None leaves id lasted law rests has = tt
rest_at_first (Some f) leaves id lasted law rests has = rests (law.0 has)

module _ {D : Type 0} (files : D → Option Files) (moment : D → ℕ)
    (since : D → ℕ → Files → Type 0) (leaves : D → List ℕ → Option (List ℕ) → Type 0)
    (read_at : D → ℕ → Option Reading) (lasted_at : D → ℕ → Type 0) where
  abbrev Living : State D → Type 0
  Living s = Lives files moment since leaves read_at lasted_at s

  abbrev LivingOn : State D → State D → Type 0
  LivingOn before now = LivesOn files moment since leaves read_at lasted_at before now

  abbrev Outliving : State D → State D → Type 0
  Outliving before now = Outlives files moment since read_at lasted_at before now

  -- ---- at the opening

  pub lives_at_first : (disk : D) (opened id : ℕ) → opened ≡ moment disk
      → read_at disk (moment disk) ≡ option_map bytes_at (files disk)
      → ((image : Files) → since disk (moment disk) image → IsImage (leaves disk) image)
      → IfSome (files disk) (λ f. (at : ℕ) → MayGoOnIn id [] at
      → IsAtRest f (leaves disk) at [] [])
      → Living (record {
        disk = disk;
        opened = opened;
        first = disk;
        past = [];
        id = id;
        sections = [];
        synced = 0;
        is_stopped = false;
      })
  lives_at_first disk opened id now reads only rest = record {
    began = omega (arith, now);
    few = omega arith;
    shown = both (files disk) (read_at disk opened) _ (λ f r is read at may.
        started moment since disk (HasShown r 0 [] at []) (λ image left.
        resting_shows f (leaves disk) r [] at [] [] (resting f r is read at may) image
        (only image left)));
    lasts = both (files disk) (read_at disk opened) _ (λ f r is read at may image left.
        resting_shows f (leaves disk) r [] at [] [] (resting f r is read at may) image left);
    rests = λ going. both (files disk) (read_at disk opened) _ (λ f r is read at may.
        resting f r is read at may);
  }
    where
      resting : (f : Files) (r : Reading) → files disk ≡ Some f → read_at disk opened ≡ Some r
          → (at : ℕ) → MayGoOnIn id [] at → IsResting f (leaves disk) r [] at [] []
      resting f r is read at may =
          let same : Some (bytes_at f) ≡ Some r =
          sym (ap (option_map bytes_at) is) ∙ sym reads ∙ ap (read_at disk) (sym now) ∙ read in
          subst (λ (o : Option Reading). IfSome o (λ q. IsResting f (leaves disk) q [] at [] []))
          same (life_begins f (leaves disk) at
          (subst (λ (o : Option Files). IfSome o (λ g. (at : ℕ) → MayGoOnIn id [] at
          → IsAtRest g (leaves disk) at [] [])) is rest at may))

  -- ---- from state to state

  -- a later state of what a still later one outlives
  module _ (a b c : State D) (began : a.opened ≤ moment a.disk) (first : Outliving a b)
      (next : Outliving b c) where
    read_mid : (r : Reading) → read_at c.disk c.opened ≡ Some r
        → read_at b.disk b.opened ≡ Some r
    read_mid r read =
        sym (next.later.remembers b.opened (omega (
          arith,
          began,
          first.opened,
          first.later.no_sooner,
        )))
        ∙ ap (read_at c.disk) (sym next.opened) ∙ read

    pub outlives_on : Outliving a c
    outlives_on = record {
      opened = next.opened ∙ first.opened;
      first = next.first ∙ first.first;
      told = same_told_then (files a.disk) (files b.disk) (files c.disk) first.told next.told;
      later = later_still moment read_at lasted_at a.disk b.disk c.disk first.later next.later;
      no_fewer = omega (arith, first.no_fewer, next.no_fewer);
      shown = both (files c.disk) (read_at c.disk c.opened) _ (λ g r is read at may.
          let before = told_before (files b.disk) (files c.disk) g next.told is in
          let All = HasShown r (lasting_in a) c.past at c.sections in
          let two = at_both (files c.disk) (read_at c.disk c.opened) _ g r next.shown is read at may
          in
          let mid = two.0.from in
          let one = at_both (files b.disk) (read_at b.disk b.opened) _ before.0 r first.shown
          before.1 (read_mid r read) mid two.0.may in (
            record {
              from = one.0.from;
              may = one.0.may;
              on = λ least image shown. two.0.on least image (one.0.on least image shown);
            },
            goes_on_by moment since a.disk b.disk c.disk All
                (weakened moment since a.disk b.disk
                (HasShown r (lasting_in a) b.past mid b.sections) All one.1
                (λ image shown. two.0.on (lasting_in a) image shown))
                (weakened moment since b.disk c.disk
                (HasShown r (lasting_in b) c.past at c.sections) All two.1
                (λ image shown. shown_fewer r (lasting_in a) (lasting_in b) c.past at c.sections
                image first.no_fewer shown)),
          ));
    }

  pub lives_further : (a b c : State D) → a.opened ≤ moment a.disk → LivingOn a b → LivingOn b c
      → LivingOn a c
  lives_further a b c began first next = record {
    lives = next.lives;
    outlives = outlives_on a b c began first.outlives next.outlives;
  }

  -- the earlier state is told otherwise
  pub lives_from : {a b now : State D} → a ≡ b → LivingOn a now → LivingOn b now
  lives_from {now = now} same on = subst (λ (s : State D). LivingOn s now) same on

  -- what images have shown since the opening they show still, and each image of a call shows what
  -- lasted before it
  pub shown_on : (a b : State D) → a.opened ≤ moment a.disk → Outliving a b
      → ShownSince files moment since read_at lasted_at a.first a.disk a.opened a.past a.id
      a.sections
      → ShownSince files moment since read_at lasted_at b.first b.disk b.opened b.past b.id
      b.sections
  shown_on a b began on shown =
      both (files b.disk) (read_at b.disk b.opened) _ (λ g r is read at may.
      let before = told_before (files a.disk) (files b.disk) g on.told is in
      let was : read_at a.disk a.opened ≡ Some r =
      sym (on.later.remembers a.opened began) ∙ ap (read_at b.disk) (sym on.opened) ∙ read in
      let Here = HasShown r 0 b.past at b.sections in
      let now = at_both (files b.disk) (read_at b.disk b.opened) _ g r on.shown is read at may in
      let from = now.0.from in
      subst (λ (d : D). LeavesOnly moment since d b.disk Here) (sym on.first)
      (goes_on_by moment since a.first a.disk b.disk Here
      (weakened moment since a.first a.disk (HasShown r 0 a.past from a.sections) Here
      (at_both (files a.disk) (read_at a.disk a.opened) _ before.0 r shown before.1 was from
      now.0.may)
      (λ image was. now.0.on 0 image was))
      (weakened moment since a.disk b.disk (HasShown r (lasting_in a) b.past at b.sections) Here
      now.1
      (λ image shows. shown_fewer r 0 (lasting_in a) b.past at b.sections image (omega arith)
      shows))))

  -- a call that does nothing
  pub lives_still : (s : State D)
      → ((image : Files) → since s.disk (moment s.disk) image → IsImage (leaves s.disk) image)
      → Living s → LivingOn s s
  lives_still s only lives = record {
    lives = lives;
    outlives = record {
      opened = refl;
      first = refl;
      told = same_told_self (files s.disk);
      later = record {
        no_sooner = omega arith;
        remembers = λ t le. refl;
        lasted_then = λ t le. (λ has. has, λ has. has);
      };
      no_fewer = omega arith;
      shown = both (files s.disk) (read_at s.disk s.opened) _ (λ f r is read at may. (
        record { from = at; may = may; on = λ least image shown. shown },
        started moment since s.disk (HasShown r (lasting_in s) s.past at s.sections)
            (λ image now. at_both (files s.disk) (read_at s.disk s.opened) _ f r lives.lasts is read
            at may image (only image now)),
      ));
    };
  }

  -- where no more lasts than before, each image of now shows what lasts
  pub lasts_on : (a b : State D)
      → ((image : Files) → IsImage (leaves b.disk) image → since b.disk (moment a.disk) image)
      → lasting_in b ≤ lasting_in a → Outliving a b
      → BothTold (files b.disk) (read_at b.disk b.opened) (λ f r. (at : ℕ)
      → MayGoOnIn b.id b.sections at → (image : Files) → IsImage (leaves b.disk) image
      → HasShown r (lasting_in b) b.past at b.sections image)
  lasts_on a b counts no_more on =
      both (files b.disk) (read_at b.disk b.opened) _ (λ f r is read at may image left.
      shown_fewer r (lasting_in b) (lasting_in a) b.past at b.sections image no_more
      ((at_both (files b.disk) (read_at b.disk b.opened) _ f r on.shown is read at may).1.each
      image (counts image left)))
