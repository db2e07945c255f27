-- What was so of applied lines is so once their disk was only looked at.
use Rattle.std.proofs.Common.{
  ◌≡◌,
  ℕ,
  ◌≤◌,
  List,
  length,
  map,
  Option,
  Some,
  None,
  inl,
  inr,
  ⊎_elim,
  refl,
  subst,
  sym,
  ◌∙◌,
  arith,
}
use Rattle.std.specs.Prelude.{IfSome, is_some, ◌⊎◌}
use Rattle.std.specs.FinMap as finmap
use Rattle.clog_io.specs.declared.clock.Clock.{Ghosts as ClockTells}
use Rattle.clog_disk.specs.declared.change.Change.{Change}
use Rattle.clog_disk.specs.declared.disk.Disk.{Ghosts as DiskTells}
use Rattle.clog_disk.specs.Files.{Files, SameTold, Told}
use Rattle.clog_disk.specs.Images.{IsImage, Within}
use Rattle.clog_mutation.specs.declared.mutation.Mutation.{Mutation}
use Rattle.clog_crash.specs.Log.{Write}
use Rattle.clog_folder.specs.Passing.{IsUntouched as IsDiskUntouched}
use Rattle.clog_words.specs.declared.request.ApplyOptions.{ApplyOptions}
use Rattle.clog_applied.specs.Filed.{BringsNoOther, KeepsOthers}
use Rattle.clog_applied.specs.History.{LoggedLine}
use Rattle.clog_closing.specs.Logs.{id_of}
use Rattle.clog_closing.specs.Written.{AreMadeFor}
use Rattle.clog_segments.specs.Opened.{CanBeOpened, RecoversAll}
use Rattle.clog_writers.specs.Left.{SaysShares}
use Rattle.clog_engine.specs.Logged.{
  AddsFirst,
  AreApplied,
  AreLogged,
  HasWrittenLog,
  IsRun,
  LeavesFirst,
  Turns,
}
use Rattle.clog_engine.specs.Outside.{Outside, outside_with}

if_some : {A : Type 0} (x : Option A) (P Q : A → Type 0) → ((a : A) → P a → Q a)
    → IfSome x P → IfSome x Q
if_some None P Q each has = tt
if_some (Some a) P Q each has = each a has

-- an image that restores at least so many restores at least none
adds_some : (before : Files) (ms : List Mutation) (least : ℕ) (image : Files)
    → AddsFirst before ms least image → AddsFirst before ms 0 image
adds_some before ms least image adds = record {
  n = adds.n;
  enough = omega arith;
  some = adds.some;
  restores = adds.restores;
  undamaged = adds.undamaged;
}

-- The first outside, and the same with a later disk, which was only looked at.
record IsOnward (o n : Outside) : Type 0 where
  files : n.files ≡ o.files
  changes : n.changes ≡ o.changes
  left : (image : Files) → IsImage o.leaves image → IsImage n.leaves image
  told : (moment : ℕ) → o.tells moment → n.tells moment
  files_now : n.files_now ≡ o.files_now
  changes_now : n.changes_now ≡ o.changes_now
  fewer : Within o.leaves_now n.leaves_now
  since : (image : Files) → n.since image → o.since image ⊎ IsImage o.leaves_now image

module _ (o n : Outside) (on : IsOnward o n) (options : ApplyOptions) (ms : List Mutation) where
  image_then : (image : Files) → IsImage n.leaves_now image → IsImage o.leaves_now image
  image_then image is = λ name. on.fewer name (finmap.get image name) (is name)

  written_on : (before : Files) (log : List Write) → HasWrittenLog o options before ms log
      → HasWrittenLog n options before ms log
  written_on before log w = record {
    between = w.between;
    recovered = subst (λ (c : Option (List Change)). RecoversAll before c w.between)
        (sym on.changes) w.recovered;
    added = w.added;
    changes_are = on.changes_now ∙ w.changes_are;
    base = w.base;
    base_new = w.base_new;
    made_for = subst (λ (f : Option Files). AreMadeFor (is_some options.flush_at) options.archive
        options.drain w.base options.writers ms f w.added) (sym on.files_now) w.made_for;
    brought = w.brought;
    rise = w.rise;
    new = w.new;
  }

  leaves_on : (before : Files) (least : ℕ) → LeavesFirst o options before ms least
      → LeavesFirst n options before ms least
  unfolding written_on
  leaves_on before least w = record {
    log = w.log;
    history = w.history;
    wrote = written_on before w.log w.wrote;
    says = w.says;
    since = λ image is. elim (on.since image is) [
      | inl then ↦ ⊎_elim (λ was. inl (on.left image was)) inr (w.since image then)
      | inr now ↦ inr (λ chances. adds_some before _ least image (w.now image now chances))
    ];
    now = λ image is chances. w.now image (image_then image is) chances;
    at_drain = λ none beyond image is chances.
        w.at_drain none beyond image (image_then image is) chances;
  }

  logged_on : (least : ℕ) → AreLogged o options ms least → AreLogged n options ms least
  logged_on least w = record {
    opened = subst (λ (f : Option Files). IfSome f CanBeOpened) (sym on.files) w.opened;
    told = subst (λ (f : Option Files). SameTold f n.files_now) (sym on.files)
        (subst (λ (f : Option Files). SameTold o.files f) (sym on.files_now) w.told);
    wrote = subst (λ (f : Option Files). IfSome f
        (λ before. (log : List Write) × (history : List LoggedLine)
        × HasWrittenLog n options before ms log × SaysShares options.writers ms log history
        × Told n.files_now (BringsNoOther (map id_of log) before))) (sym on.files)
        (if_some o.files _ _ (λ before is. (
          is.0,
          is.1,
          written_on before is.0 is.2,
          is.3,
          subst (λ (f : Option Files). Told f (BringsNoOther (map id_of is.0) before))
              (sym on.files_now) is.4,
        )) w.wrote);
    others = subst (λ (f : Option Files). IfSome f
        (λ before. Told n.files_now (KeepsOthers before))) (sym on.files)
        (subst (λ (f : Option Files). IfSome o.files
        (λ before. Told f (KeepsOthers before))) (sym on.files_now) w.others);
    lasts = subst (λ (f : Option Files). IfSome f
        (λ before. LeavesFirst n options before ms least)) (sym on.files)
        (if_some o.files _ _ (λ before has. leaves_on before least has) w.lasts);
  }

  run_on : (text : List ℕ) (before after : Files) (added : List Change)
      → IsRun o options ms text before after added → IsRun n options ms text before after added
  run_on text before after added r = record {
    closed = r.closed;
    moment = r.moment;
    told = on.told r.moment r.told;
    opened = r.opened;
    begins = r.begins;
    reach = r.reach;
    names = r.names;
    printed = r.printed;
    kept = r.kept;
  }

  turns_on : (text : List ℕ) → Turns o (IsRun o options ms text)
      → Turns n (IsRun n options ms text)
  turns_on text turns before made files changes =
      let b = turns before made (sym on.files ∙ files) (sym on.changes ∙ changes) in
      record {
        after = b.after;
        added = b.added;
        files_are = on.files_now ∙ b.files_are;
        changes_are = on.changes_now ∙ b.changes_are;
        is = run_on text before b.after b.added b.is;
      }

  applied_on : (text : List ℕ) → AreApplied o options ms text → AreApplied n options ms text
  applied_on text w = record {
    reported = w.reported;
    logged = logged_on (length ms) w.logged;
    run = turns_on text w.run;
  }

-- ---- of which a crash leaves none

module _ (o : Outside) (options : ApplyOptions) (ms : List Mutation) where
  leaves_less : (before : Files) (least : ℕ) → LeavesFirst o options before ms least
      → LeavesFirst o options before ms 0
  leaves_less before least w = record {
    log = w.log;
    history = w.history;
    wrote = w.wrote;
    says = w.says;
    since = w.since;
    now = λ image is chances. adds_some before _ least image (w.now image is chances);
    at_drain = w.at_drain;
  }

  pub logged_less : (least : ℕ) → AreLogged o options ms least → AreLogged o options ms 0
  logged_less least w = record {
    told = w.told;
    opened = w.opened;
    wrote = w.wrote;
    others = w.others;
    lasts = if_some o.files _ _ (λ before has. leaves_less before least has) w.lasts;
  }

-- ---- by a disk

module _ {D C : Type 0} (disk : DiskTells D) (clock : ClockTells C)
    (left left_now : Option (List ℕ)) (f g : ℕ) (start then now : D) (at : C)
    (later : disk.moment start ≤ disk.moment then)
    (still : IsDiskUntouched disk.files disk.changes disk.leaves disk.moment disk.since
    disk.read_at disk.lasted_at disk.faults then now) where
  abbrev first_at : Outside
  first_at = outside_with left left_now f g disk clock start then at

  abbrev next_at : Outside
  next_at = outside_with left left_now f g disk clock start now at

  is_onward : IsOnward first_at next_at
  is_onward = record {
    files = refl;
    changes = refl;
    left = λ image is. is;
    told = λ moment tells. tells;
    files_now = still.same.files;
    changes_now = still.changes_are;
    fewer = still.same.images.fewer;
    since = λ image is. elim (still.time.nothing_else (disk.moment start) image later is) [
      | inl old ↦ inl old
      | inr new ↦ inr (λ name.
          still.same.images.fewer name (finmap.get image name) (new name))
    ];
  }

  -- lines that were applied are so behind a look at the folder
  pub looked_behind : (options : ApplyOptions) (ms : List Mutation) (text : List ℕ)
      → AreApplied first_at options ms text → AreApplied next_at options ms text
  looked_behind options ms text = applied_on first_at next_at is_onward options ms text
