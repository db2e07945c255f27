-- What a store has brought to a disk, and what that tells, where it told its files at the opening.
use Rattle.std.proofs.Common.{
  ◌≡◌,
  inl,
  inr,
  true,
  false,
  List,
  [],
  ◌++◌,
  take,
  append-nil,
  Option,
  Some,
  None,
  refl,
  sym,
  ◌∙◌,
  ap,
  subst,
}
use Rattle.std.specs.Prelude.{is_some, option_map}
use Rattle.std.proofs.Math.Seq.{take-nil}
use Rattle.std.proofs.lemmas.Bool.{true≢false}
use Rattle.std.proofs.lemmas.List.Elements.{Contains-push_cases}
use Rattle.clog_disk.specs.declared.change.Change.{Change}
use Rattle.clog_disk.specs.Files.{Files, SameTold}
use Rattle.clog_scan.specs.Cut.{Section}
use Rattle.clog_crash.specs.Grown.{Append, appends_of}
use Rattle.clog_crash.specs.Log.{Write}
use Rattle.clog_crash.specs.Runs.{placed_log}
use Rattle.clog_crash.specs.Sections.{IsStored}
use Rattle.path_core.specs.declared.note.EntryNote.{EntryNote}
use Rattle.clog_segments.specs.Grows.{IsGrown, segments_with}
use Rattle.clog_segments.specs.Life.{State}
use Rattle.clog_segments.specs.NoteLog.{IsNoteLog, NoteState}
use Rattle.clog_segments.specs.Notes.{places_of}
use Rattle.clog_segments.specs.StoreFolder.{IsSound}
use Rattle.clog_segments.specs.StoreState.{HasGrown}
use Rattle.clog_store.proofs.NoteGrows.{rises_with}
use Rattle.clog_closing.specs.Logs.{AreStoredInOrder}

some_of : {A : Type 0} (o : Option A) → is_some o ≡ true → (x : A) × (o ≡ Some x)
some_of (Some x) is = (x, refl)
some_of None is = absurd (true≢false (sym is))

-- while its disk has not failed, the changes have brought all sections
pub all_brought : {D : Type 0} (changes : D → Option (List Change)) (first : D) (log : State D)
    (growth : HasGrown changes first log) → log.is_stopped ≡ false
    → IsGrown (appends_of growth.added) log.past log.id log.sections
all_brought changes first log growth runs = elim growth.brought [
  | inl all ↦ subst (λ (l : List Section).
      IsGrown (appends_of growth.added) log.past log.id l) (sym all) growth.grown
  | inr torn ↦ absurd (true≢false (sym torn.2 ∙ runs))
]

pub in_order : {D : Type 0} (log : State D) (appends : List Append)
    → IsGrown appends log.past log.id log.sections → IsSound log
    → AreStoredInOrder (segments_with log.past log.id log.sections)
in_order log appends grows sound =
    let hand : Write = record { id = log.id; sections = log.sections } in
    record {
      stored = λ w among. elim (Contains-push_cases log.past hand w among) [
        | inl before ↦ sound.past_stored w before
        | inr same ↦ subst (λ (x : Write). IsStored x.id x.sections) same sound.stored
      ];
      rise = rises_with log.past hand grows.rise sound.below;
    }

-- where nothing is kept, its sections hold just what was logged
pub all_placed : {D : Type 0} (s : NoteState D) → IsNoteLog s → s.kept ≡ []
    → placed_log s.log.past s.log.id s.log.sections ≡ places_of s.base s.logged
all_placed s notes none =
    let shown = notes.stands.shown in
    notes.stands.all
    ∙ ap (places_of s.base) (ap (λ (l : List EntryNote). s.logged ++ l)
    (ap (take shown) none ∙ take-nil shown) ∙ append-nil s.logged)

-- what its disk tells now, where it told its files and its changes at the opening
pub record TellsNow (made later : List Change) (files : Option Files)
    (changes : Option (List Change)) : Type 0 where
  pub after : Files
  pub files_are : files ≡ Some after
  pub changes_are : changes ≡ Some (made ++ later)

pub tells_now : {D : Type 0} (files : D → Option Files) (changes : D → Option (List Change))
    → ((d : D) → is_some (changes d) ≡ is_some (files d)) → (first : D) (log : State D)
    (growth : HasGrown changes first log) (made : List Change) → changes first ≡ Some made
    → TellsNow made growth.added (files log.disk) (changes log.disk)
tells_now files changes tells first log growth made made_is =
    let later = growth.added in
    let changes_are : changes log.disk ≡ Some (made ++ later) =
    growth.changes_are ∙ ap (option_map (λ all. all ++ later)) made_is in
    let found = some_of (files log.disk) (sym (tells log.disk) ∙ ap is_some changes_are) in
    record { after = found.0; files_are = found.1; changes_are = changes_are }

-- so its files are told as before where its changes are
pub told_of : (before now : Option Files) (made made_now : Option (List Change))
    (added : List Change) → is_some made ≡ is_some before → is_some made_now ≡ is_some now
    → made_now ≡ option_map (λ all. all ++ added) made → SameTold before now
told_of None None made made_now added was tells is = refl
told_of None (Some g) None made_now added was tells is =
    absurd (true≢false (sym tells ∙ ap is_some is))
told_of None (Some g) (Some all) made_now added was tells is = absurd (true≢false was)
told_of (Some f) (Some g) made made_now added was tells is = tt
told_of (Some f) None None made_now added was tells is = absurd (true≢false (sym was))
told_of (Some f) None (Some all) made_now added was tells is =
    absurd (true≢false (sym (ap is_some is) ∙ tells))
