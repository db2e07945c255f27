-- The looking and the recovery joined: what is opened, what is refused, and what stays.
use Rattle.std.proofs.Common.{
  ◌≡◌,
  ℕ,
  ◌<◌,
  ◌≤◌,
  ◌^◌,
  List,
  [],
  ◌++◌,
  map,
  Option,
  Some,
  None,
  refl,
  sym,
  subst,
  ◌∙◌,
  inl,
  inr,
  arith,
}
use Rattle.std.specs.Prelude.{◌↔◌, Err, IfSome}
use Rattle.std.proofs.lemmas.Option.{none-some}
use Rattle.clog_base.specs.declared.cell.Cell.{Cell}
use Rattle.clog_base.specs.declared.cell.CellKey.{CellKey}
use Rattle.clog_base.specs.declared.position.Position.{Position}
use Rattle.clog_cells.proofs.Made.{merge_of}
use Rattle.clog_disk.specs.Files.{Files, Lists, SameTold, Told, bytes_at}
use Rattle.clog_disk.specs.Images.{LastsAll}
use Rattle.clog_crash.specs.Flush.{IsSameFolder, IsSettled}
use Rattle.clog_crash.specs.Folder.{cells_of_tables}
use Rattle.clog_crash.specs.Readings.{RestoresIn}
use Rattle.clog_crash.specs.Recovery.{NamesAny}
use Rattle.clog_crash.specs.Rest.{IsAtRest}
use Rattle.clog_crash.proofs.changes.Covering.{exactly}
use Rattle.clog_crash.proofs.rest.Opening.{at_opening}
use Rattle.clog_folder.specs.declared.fault.OpenFault.{OpenFault}
use Rattle.clog_folder.specs.declared.fault.OpenFault.TheVariants.{Disk, OutOfMemory}
use Rattle.clog_folder.specs.declared.tables.TableHeld.{TableHeld}
use Rattle.clog_folder.specs.Tables.{read_of}
use Rattle.replay_merge.proofs.Replayed.{restores}
use Rattle.clog_segments.specs.declared.opening.Known.{Known}
use Rattle.clog_segments.specs.Filing.{StepCause}
use Rattle.clog_segments.specs.Live.{IsLogOf}
use Rattle.clog_segments.specs.Named.{IsIdBase}
use Rattle.clog_segments.specs.Opened.{
  HasRows,
  IsKnown,
  IsOpened,
  IsRecovered,
  KeepsFolder,
  LeavesAlone,
  OpenRefused,
}
use Rattle.clog_segments.proofs.Live.{is_log}
use Rattle.clog_segments.proofs.Looking.{id_base, within}

-- ---- what stays

pub keeps_itself : (first : Files) → KeepsFolder first first
keeps_itself first = record {
  same = exactly (RestoresIn (bytes_at first)) (RestoresIn (bytes_at first))
      (λ pair. (λ x. x, λ x. x));
  undamaged = λ undamaged. undamaged;
}

pub keeps_same : (first now : Files) → IsSameFolder first now → KeepsFolder first now
keeps_same first now is = record { same = is.same; undamaged = λ before. is.undamaged }

pub told_keeps : (first : Files) (told : Option Files) → Told told (IsSameFolder first)
    → Told told (KeepsFolder first)
told_keeps first None is = absurd is
told_keeps first (Some now) is = keeps_same first now is

pub still_keeps : (first : Files) (old now : Option Files) → old ≡ Some first → now ≡ old
    → Told now (KeepsFolder first)
still_keeps first old now is same =
    subst (λ (o : Option Files). Told o (KeepsFolder first)) (sym (same ∙ is))
    (keeps_itself first)

-- ---- what is known

module _ (first : Files) (files : Option Files) (is : files ≡ Some first) (moment : ℕ)
    (known : Known) (is_known : IsKnown files moment known) where
  log : IsLogOf (Some first) is_known.tables known.cells known.top
  log = subst (λ (o : Option Files). IsLogOf o is_known.tables known.cells known.top) is
      is_known.log

  lists : Lists (Some first) known.names
  lists = subst (λ (o : Option Files). Lists o known.names) is is_known.lists

  pub known_above : (n : ℕ) → NamesAny first n → n < known.base
  known_above n named =
      (id_base first known.names lists is_known.tables log.told.read.are_tables moment known.base
      is_known.base_is).above n named

  pub is_opened : (told : Option Files) → Told told (IsRecovered first known.base)
      → Told told (IsOpened first moment known.base)
  is_opened None recovered = absurd recovered
  is_opened (Some now) recovered = record {
    within = within first log.told known.names moment known.base lists is_known.few
        is_known.base_is;
    is_base = id_base first known.names lists is_known.tables log.told.read.are_tables moment
        known.base is_known.base_is;
    recovered = recovered;
  }

pub base_low : (P : ℕ → Type 0) (moment base : ℕ) → IsIdBase P moment base → moment < 2 ^ 62
    → base < 2 ^ 62
base_low P moment base is low = elim is.base.one [
  | inl same ↦ omega (arith, same, low)
  | inr h ↦ let few = is.few h.0 h.1 in omega (arith, few, h.2)
]

pub base_fits : (P : ℕ → Type 0) (moment base : ℕ) → IsIdBase P moment base → moment < 2 ^ 62
    → base < 2 ^ 63
base_fits P moment base is low = elim is.base.one [
  | inl same ↦ omega (arith, same, low)
  | inr h ↦ let few = is.few h.0 h.1 in omega (arith, few, h.2)
]

pub at_rest : (first : Files) (files : Option Files) (moment : ℕ) (known : Known)
    → IsKnown files moment known → moment < 2 ^ 62 → (told : Option Files)
    (leaves : List ℕ → Option (List ℕ) → Type 0) → Told told (IsRecovered first known.base)
    → Told told (λ now. IsSettled now leaves)
    → Told told (λ now. IsAtRest now leaves known.base [] [])
at_rest first files moment known is_known low None leaves recovered settled = absurd settled
at_rest first files moment known is_known low (Some now) leaves recovered settled =
    at_opening now leaves known.base (base_fits _ moment known.base is_known.base_is low) settled
    recovered.no_segment recovered.below

-- where the folder is told then, it is told first
pub rests_told : (old now : Option Files) (leaves : List ℕ → Option (List ℕ) → Type 0) (base : ℕ)
    → SameTold old now
    → ((first : Files) → old ≡ Some first
    → Told now (λ f. IsAtRest f leaves base [] []))
    → IfSome now (λ f. LastsAll f leaves → IsAtRest f leaves base [] [])
rests_told old None leaves base same rests = tt
rests_told None (Some g) leaves base same rests =
    absurd (none-some g (sym same))
rests_told (Some f) (Some g) leaves base same rests = λ lasts. rests f refl

-- what lasts now is told of this moment
pub lasted_now : (now : Option Files) (leaves : List ℕ → Option (List ℕ) → Type 0)
    (lasted : Type 0) → IfSome now (λ f. lasted ↔ LastsAll f leaves)
    → Told now (λ f. LastsAll f leaves) → lasted
lasted_now None leaves lasted law lasts = absurd lasts
lasted_now (Some f) leaves lasted law lasts = law.1 lasts

pub exact_told : (told : Option Files) (leaves : List ℕ → Option (List ℕ) → Type 0)
    → Told told (λ now. IsSettled now leaves) → Told told (λ now. LastsAll now leaves)
exact_told None leaves settled = settled
exact_told (Some now) leaves settled = settled.exact

-- ---- what it restores to

-- a folder that was read restores to some rows
pub has_rows : (first : Files) {files : Option Files} {tables : List TableHeld}
    {cells : List (CellKey × Cell)} {top : Position} → files ≡ Some first
    → IsLogOf files tables cells top → HasRows first
has_rows first {files} {tables} {cells} {top} is log =
    let l = subst (λ (o : Option Files). IsLogOf o tables cells top) is log in
    let rows = merge_of (l.live.merged.cells ++ cells_of_tables (map read_of tables)) in (
      rows.0,
      restores first tables l.told.read.are_tables l.live.log
          (is_log tables l.ps cells l.live first l.told) l.live.merged l.live.taken rows.0 rows.1,
    )

-- ---- why it is refused

pub alone_of : (fault : OpenFault) (alone : Type 0) → alone
    → LeavesAlone {T = ℕ} alone (Err fault)
alone_of Disk alone is = tt
alone_of OutOfMemory alone is = tt
alone_of other alone is = is

pub step_refused : (files : Option Files) (first mid now : ℕ) (fault : OpenFault) → first ≤ mid
    → StepCause {T = Unit {0}} mid now (Err fault) → OpenRefused files first now fault
step_refused files first mid now Disk later cause = omega (arith, later, cause)
step_refused files first mid now OutOfMemory later cause = tt
step_refused files first mid now other later cause = absurd cause

pub step_alone : (mid now : ℕ) (fault : OpenFault) (alone : Type 0)
    → StepCause {T = Unit {0}} mid now (Err fault) → LeavesAlone {T = ℕ} alone (Err fault)
step_alone mid now Disk alone cause = tt
step_alone mid now OutOfMemory alone cause = tt
step_alone mid now other alone cause = absurd cause
