-- A log of sections goes on from state to state.
use Rattle.std.proofs.Common.{
  ◌≡◌,
  ℕ,
  List,
  Option,
  Bool,
  false,
  inl,
  inr,
  length,
  refl,
  sym,
  ◌∙◌,
  ap,
  subst,
  arith,
}
use Rattle.std.specs.Prelude.{Result, Ok, Err, OnOk, OnErr}
use Rattle.clog_disk.specs.Files.{Files}
use Rattle.clog_disk.specs.Images.{IsImage, IsLater}
use Rattle.clog_disk.proofs.Moments.{later_still}
use Rattle.clog_scan.specs.Cut.{Section}
use Rattle.clog_crash.specs.Readings.{Reading}
use Rattle.clog_segments.specs.declared.written.StoreFault.{StoreFault}
use Rattle.clog_segments.specs.declared.written.StoreFault.TheVariants.{Stopped, OutOfMemory}
use Rattle.clog_segments.specs.Life.{Lives, LivesOn, State}
use Rattle.clog_store.specs.NoteSteps.{GoesOn}
use Rattle.clog_segments.specs.Stepped.{HasLogCause, Keeps, Settles}
use Rattle.clog_segments.proofs.Lived.{lives_further, lives_still}
use Rattle.clog_segments.proofs.NamesKept.{names_rolled, names_still, names_then}

module _ {D : Type 0} (files : D → Option Files) (moment : D → ℕ)
    (since : D → ℕ → Files → Type 0) (leaves : D → List ℕ → Option (List ℕ) → Type 0)
    (read_at : D → ℕ → Option Reading) (lasted_at : D → ℕ → Type 0) where
  abbrev Going : State D → State D → Type 0
  Going a b = GoesOn files moment since leaves read_at lasted_at a b

  abbrev Living : State D → Type 0
  Living s = Lives files moment since leaves read_at lasted_at s

  abbrev LivingOn : State D → State D → Type 0
  LivingOn a b = LivesOn files moment since leaves read_at lasted_at a b

  later_same : (d : D) → IsLater moment read_at lasted_at d d
  later_same d = record {
    no_sooner = omega arith;
    remembers = λ t le. refl;
    lasted_then = λ t le. (λ has. has, λ has. has);
  }

  -- a call that does nothing
  pub goes_still : (s : State D)
      → ((image : Files) → since s.disk (moment s.disk) image → IsImage (leaves s.disk) image)
      → Going s s
  goes_still s only = record {
    opened = refl;
    first = refl;
    later = later_same s.disk;
    lives = λ lives.
        lives_still files moment since leaves read_at lasted_at s only lives;
    names = names_still files leaves s;
  }

  pub goes_then : (a b c : State D) → Going a b → Going b c → Going a c
  goes_then a b c first next = record {
    opened = next.opened ∙ first.opened;
    first = next.first ∙ first.first;
    later = later_still moment read_at lasted_at a.disk b.disk c.disk first.later next.later;
    lives = λ lives.
        let on = first.lives lives in
        lives_further files moment since leaves read_at lasted_at a b c lives.began on
        (next.lives on.lives);
    names = names_then files leaves a b c first.names next.names;
  }

  -- the disk is not called
  pub goes_rolled : {T : Type 0} (a b : State D) (rolled : State D) (result : Result T StoreFault)
      → ((image : Files) → since a.disk (moment a.disk) image → IsImage (leaves a.disk) image)
      → rolled.disk ≡ a.disk → rolled.opened ≡ a.opened → rolled.first ≡ a.first
      → rolled.is_stopped ≡ a.is_stopped
      → a.synced ≡ length a.sections → OnOk result (b ≡ rolled) → OnErr result (b ≡ a)
      → (Living a → OnOk result (LivingOn a b)) → Going a b
  goes_rolled a b rolled (Ok done) only same opened at_first stops all rolls refused
      lives = record {
        opened = ap (λ (s : State D). s.opened) rolls ∙ opened;
        first = ap (λ (s : State D). s.first) rolls ∙ at_first;
        later = subst (λ (d : D). IsLater moment read_at lasted_at a.disk d)
            (sym same ∙ sym (ap (λ (s : State D). s.disk) rolls)) (later_same a.disk);
        lives = lives;
        names = names_rolled files leaves a b (ap (λ (s : State D). s.disk) rolls ∙ same)
            (ap (λ (s : State D). s.is_stopped) rolls ∙ stops) all;
      }
  goes_rolled a b rolled (Err fault) only same opened at_first stops all rolls refused lives =
      subst (λ (s : State D). Going a s) (sym refused) (goes_still a only)

-- each call is of a log of the same opening, of a disk as it was then
pub settled_opened : {D T : Type 0} (a b : State D) (result : Result T StoreFault)
    → Settles a b result → (b.opened ≡ a.opened) × (b.first ≡ a.first)
settled_opened {D} a b (Ok done) settles =
    (ap (λ (s : State D). s.opened) settles, ap (λ (s : State D). s.first) settles)
settled_opened {D} a b (Err OutOfMemory) settles =
    (ap (λ (s : State D). s.opened) settles, ap (λ (s : State D). s.first) settles)
settled_opened {D} a b (Err Stopped) settles =
    (ap (λ (s : State D). s.opened) settles, ap (λ (s : State D). s.first) settles)

pub kept_opened : {D T : Type 0} (a b : State D) (section : Section) (result : Result T StoreFault)
    → Keeps a b section result → (b.opened ≡ a.opened) × (b.first ≡ a.first)
kept_opened {D} a b section (Ok done) keeps =
    (ap (λ (s : State D). s.opened) keeps, ap (λ (s : State D). s.first) keeps)
kept_opened {D} a b section (Err OutOfMemory) keeps =
    (ap (λ (s : State D). s.opened) keeps, ap (λ (s : State D). s.first) keeps)
kept_opened {D} a b section (Err Stopped) keeps = elim keeps [
  | inl was ↦ (ap (λ (s : State D). s.opened) was.1, ap (λ (s : State D). s.first) was.1)
  | inr torn ↦ (ap (λ (s : State D). s.opened) torn, ap (λ (s : State D). s.first) torn)
]

-- why the second of two calls did not do what it was called for, where the first did
pub cause_then : {T : Type 0} (stopped mid : Bool) (before between now : ℕ)
    (result : Result T StoreFault) → stopped ≡ false → mid ≡ false → between ≡ before
    → HasLogCause mid between now result → HasLogCause stopped before now result
cause_then stopped mid before between now result first next same cause =
    subst (λ (b : Bool). HasLogCause b before now result) (next ∙ sym first)
    (subst (λ (k : ℕ). HasLogCause mid k now result) same cause)
