-- The steps of a recovery joined, where the disk tells its files.
use Rattle.std.proofs.Common.{
  ◌≡◌,
  ℕ,
  ◌<◌,
  List,
  [],
  Option,
  Some,
  None,
  Contains,
  IfSome,
  refl,
  sym,
  ◌∙◌,
  ap,
  subst,
}
use Rattle.std.specs.Prelude.{IsSome}
use Rattle.std.specs.FinMap as finmap
use Rattle.clog_spec.specs.Names.{IsSegmentName, segment_name_of}
use Rattle.clog_spec.specs.Sizes.{most_tables}
use Rattle.clog_base.specs.declared.cell.Cell.{Cell}
use Rattle.clog_base.specs.declared.cell.CellKey.{CellKey}
use Rattle.clog_base.specs.declared.position.Position.{Position}
use Rattle.clog_disk.specs.Files.{Files, Lists, SameTold, Told}
use Rattle.clog_crash.specs.Flush.{IsSameFolder, IsSettled}
use Rattle.clog_crash.specs.Folder.{IsHeld, IsNameOfSegment}
use Rattle.clog_crash.specs.Recovery.{NamesAny}
use Rattle.clog_crash.specs.Restore.{IsUndamaged}
use Rattle.clog_crash.proofs.OneMore.{bytes_of}
use Rattle.clog_crash.proofs.changes.Names.{is_named}
use Rattle.clog_crash.proofs.flush.Recovered.{same_itself}
use Rattle.clog_folder.specs.declared.tables.TableHeld.{TableHeld}
use Rattle.clog_folder.proofs.Listed.{held_of, listed_of}
use Rattle.clog_segments.specs.Beside.{StayButSegments}
use Rattle.clog_segments.specs.Coming.{AreGone, AreThere, IsRecovering, Recovers}
use Rattle.clog_segments.specs.Filing.{
  AreRecoveryPuts,
  FiledNow,
  IsFiledTo,
  IsFullFolder,
  IsReady,
  SettledTo,
}
use Rattle.clog_segments.specs.Live.{IsLogOf}
use Rattle.clog_segments.specs.Named.{AreSegmentIds}
use Rattle.clog_segments.specs.Opened.{IsRecovered, OthersStay, RecoversOnly}
use Rattle.clog_segments.proofs.Ended.{all_ids_covered, are_there, is_recovered, listed_id}
use Rattle.clog_segments.proofs.Filed.{filed_none}
use Rattle.clog_segments.proofs.Ready.{ready_of}

abbrev Pairs : Type 0
Pairs = List (CellKey × Cell)

-- ---- at the beginning

module _ (first : Files) (told : Option Files) (is : told ≡ Some first) {tables : List TableHeld}
    {cells : Pairs} {top : Position} (log : IsLogOf told tables cells top) where
  log_first : IsLogOf (Some first) tables cells top
  log_first = subst (λ (o : Option Files). IsLogOf o tables cells top) is log

  pub undamaged_first : IsUndamaged first
  undamaged_first = log_first.told.read.readable.undamaged refl

  pub same_told : Told told (IsSameFolder first)
  same_told =
      subst (λ (o : Option Files). Told o (IsSameFolder first)) (sym is)
      (same_itself first undamaged_first)

  pub begins : FiledNow first cells 0 told
  begins =
      subst (λ (o : Option Files). FiledNow first cells 0 o) (sym is)
      (filed_none first cells undamaged_first)

  pub begins_settled : (leaves : List ℕ → Option (List ℕ) → Type 0)
      → IsSettled first leaves → SettledTo first cells 0 told leaves
  begins_settled leaves settled =
      subst (λ (o : Option Files). SettledTo first cells 0 o leaves) (sym is)
      (filed_none first cells undamaged_first, settled)

  pub ready_told : (names : List (List ℕ)) → Lists told names → IsReady first names cells top
  ready_told names lists =
      let l = log_first in
      ready_of first tables l.ps l.told cells l.live top l.reaches names
      (subst (λ (o : Option Files). Lists o names) is lists)

-- A folder that was read: it is ready to be recovered, and no table's file has come yet.
pub record IsRead (first : Files) (told : Option Files) (names : List (List ℕ)) (cells : Pairs)
    (top : Position) : Type 1 where
  pub ready : IsReady first names cells top
  pub begun : FiledNow first cells 0 told
  pub settled : (leaves : List ℕ → Option (List ℕ) → Type 0) → IsSettled first leaves
      → SettledTo first cells 0 told leaves

pub is_read : (first : Files) {told : Option Files} {tables : List TableHeld}
    {names : List (List ℕ)} {cells : Pairs} {top : Position} → told ≡ Some first
    → IsLogOf told tables cells top → Lists told names → IsRead first told names cells top
is_read first {told} {tables} {names} is log lists = record {
  ready = ready_told first told is log names lists;
  begun = begins first told is log;
  settled = begins_settled first told is log;
}

-- the ids that were read stand in a slice
pub ids_are : {P : List ℕ → Type 0} {ids slice : List ℕ} → slice ≡ ids → AreSegmentIds P ids
    → AreSegmentIds P slice
ids_are {P} same are = subst (AreSegmentIds P) (sym same) are

-- ---- once the files have come

module _ (first : Files) (names : List (List ℕ)) (cells : Pairs) (top : Position)
    (ready : IsReady first names cells top) (ids : List ℕ)
    (are : AreSegmentIds (Contains names) ids) where
  held_name : (name : List ℕ) → Contains names name → IsHeld first name
  held_name = held_of first names ready.lists

  listed_name : (name : List ℕ) → IsHeld first name → Contains names name
  listed_name = listed_of first names ready.lists

  pub there_told : (told : Option Files) → FiledNow first cells most_tables told
      → IfSome told (λ now. AreThere now ids)
  there_told None filed = tt
  there_told (Some now) filed =
      are_there first now (Contains names) ids are (λ name version id listed named.
      let held = held_name name listed in (
        (ready.undamaged.segments name version id named held).0,
        subst (λ (o : Option (List ℕ)). IsSome o) (sym (filed.segments name version id named))
            held,
      ))

  pub recovers_told : (told : Option Files) → FiledNow first cells most_tables told
      → Recovers first told ids
  recovers_told None filed = absurd filed
  recovers_told (Some now) filed = (
    filed.same,
    all_ids_covered first names cells top ready now filed ids are held_name listed_name,
  )

  pub recovering_told : (told : Option Files) (leaves : List ℕ → Option (List ℕ) → Type 0)
      → SettledTo first cells most_tables told leaves → IsRecovering first told leaves ids
  recovering_told None leaves settled = absurd settled
  recovering_told (Some now) leaves settled = (
    settled.1,
    settled.0.same,
    all_ids_covered first names cells top ready now settled.0 ids are held_name listed_name,
  )

  pub recovered_told : (told now : Option Files) → FiledNow first cells most_tables told
      → AreGone told now ids → (base : ℕ) → ((n : ℕ) → NamesAny first n → n < base)
      → Told now (IsRecovered first base)
  recovered_told None now filed gone base above = absurd filed
  recovered_told (Some f) now filed gone base above =
      subst (λ (o : Option Files). Told o (IsRecovered first base)) (sym gone)
      (is_recovered first names cells top ready f filed ids are held_name listed_name base above)

-- ---- what is no segment stands, and what came was put

pub only_yet : (first : Files) (told : Option Files) → told ≡ Some first
    → Told told (RecoversOnly first)
only_yet first told is =
    subst (λ (o : Option Files). Told o (RecoversOnly first)) (sym is) (record {
      others = λ name bytes apart there. there;
      came = λ name bytes there absent.
          let no : Some bytes ≡ None = sym there ∙ absent in
          cc;
    })

pub full_same : (first : Files) (told : Option Files) → Told told (IsFullFolder first)
    → Told told (IsSameFolder first)
full_same first None is = absurd is
full_same first (Some now) is = is.0

pub full_only : (first : Files) (told : Option Files) → Told told (IsFullFolder first)
    → Told told (RecoversOnly first)
full_only first None is = absurd is
full_only first (Some now) is = record {
  others = λ name bytes apart there. is.1 name bytes there;
  came = is.2;
}

pub others_of : (first : Files) (told : Option Files) → Told told (RecoversOnly first)
    → Told told (OthersStay first)
others_of first None is = absurd is
others_of first (Some now) is = is.others

pub came_of : (first : Files) (told : Option Files) → Told told (RecoversOnly first)
    → Told told (AreRecoveryPuts first)
came_of first None is = absurd is
came_of first (Some now) is = is.came

module _ (first : Files) (names : List (List ℕ)) (cells : Pairs) (top : Position)
    (ready : IsReady first names cells top) (ids : List ℕ)
    (are : AreSegmentIds (Contains names) ids) where
  apart_from : (name : List ℕ) → (IsNameOfSegment name → ⊥) → (id : ℕ) → Contains ids id
      → name ≡ segment_name_of 6 id → ⊥
  apart_from name apart id listed same =
      let s = listed_id (Contains names) ids are id listed in
      apart (
        6,
        (
          id,
          subst (λ (n : List ℕ). IsSegmentName n 6 id) (sym same) (is_named id s.1.2.id_fits),
        ),
      )

  -- a name that was not there is that of no segment that goes
  new_apart : (name : List ℕ) → finmap.get first name ≡ None → (id : ℕ) → Contains ids id
      → name ≡ segment_name_of 6 id → ⊥
  new_apart name absent id listed same =
      let s = listed_id (Contains names) ids are id listed in
      let held = held_of first names ready.lists s.0 s.1.1 in
      let six = (ready.undamaged.segments s.0 s.1.0 id s.1.2 held).0 in
      let form : s.0 ≡ name =
      s.1.2.form ∙ ap (λ (v : ℕ). segment_name_of v id) six ∙ sym same in
      let there = bytes_of (finmap.get first s.0) held in
      let clash : None ≡ Some there.0 =
      sym absent ∙ ap (finmap.get first) (sym form) ∙ there.1 in
      cc

  only_then : (f : Files) (now : Option Files) → IsFiledTo first cells most_tables f
      → Told now (λ g. (name : List ℕ)
      → ((id : ℕ) → Contains ids id → name ≡ segment_name_of 6 id → ⊥)
      → finmap.get g name ≡ finmap.get f name) → Told now (RecoversOnly first)
  only_then f None filed stay = absurd stay
  only_then f (Some g) filed stay = record {
    others = λ name bytes apart there.
        stay name (apart_from name apart) ∙ filed.stand name bytes there;
    came = λ name bytes there absent.
        filed.came name bytes (sym (stay name (new_apart name absent)) ∙ there) absent;
  }

  pub only_told : (told now : Option Files) → FiledNow first cells most_tables told
      → StayButSegments ids told now → Told now (RecoversOnly first)
  only_told None now filed stay = absurd filed
  only_told (Some f) now filed stay = only_then f now filed (stay f refl)

-- where the disk tells no files there is nothing to show
pub if_told_first : (old told : Option Files) (P : Files → Type 0) → SameTold old told
    → ((first : Files) → old ≡ Some first → IfSome told P) → IfSome told P
if_told_first None told P same has =
    subst (λ (o : Option Files). IfSome o P) (sym same) tt
if_told_first (Some first) told P same has = has first refl

pub settled_end : (first : Files) (told : Option Files)
    (leaves : List ℕ → Option (List ℕ) → Type 0) → IsRecovering first told leaves []
    → Told told (λ now. IsSettled now leaves)
settled_end first None leaves is = absurd is
settled_end first (Some now) leaves is = is.0
