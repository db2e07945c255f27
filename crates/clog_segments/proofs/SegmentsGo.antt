-- A log stands while segments go that it has left.
use Rattle.std.proofs.Common.{
  ◌≡◌,
  ◌≢◌,
  ℕ,
  ◌+◌,
  ◌<◌,
  ◌^◌,
  List,
  [],
  ◌∷◌,
  ◌++◌,
  take,
  drop,
  get_or,
  length,
  Option,
  Some,
  None,
  Contains,
  IfSome,
  refl,
  sym,
  ap,
  subst,
  ◌∙◌,
  inl,
  inr,
  arith,
}
use Rattle.std.specs.Prelude.{Bool, true, false, Result, Err, option_map}
use Rattle.std.proofs.lemmas.List.{take-append-drop}
use Rattle.std.proofs.lemmas.List.Elements.{
  Contains-append_left,
  Contains-append_right,
  Contains-get_or,
}
use Rattle.std.specs.FinMap as finmap
use Rattle.clog_spec.specs.Names.{IsTableName, archive_name_of, segment_name_of}
use Rattle.clog_base.proofs.Members.{further, here}
use Rattle.clog_base.proofs.NameLaws.{archive_is_no_table}
use Rattle.clog_disk.specs.declared.disk.DiskFault.{DiskFault}
use Rattle.clog_disk.specs.declared.disk.DiskFault.TheVariants.{Failed, OutOfMemory}
use Rattle.clog_disk.specs.Files.{Files, SameTold}
use Rattle.clog_disk.specs.Images.{IsLater, Lasts, LeavesOnly}
use Rattle.clog_disk.proofs.Named.{gone_there}
use Rattle.clog_scan.specs.Cut.{Section}
use Rattle.clog_crash.specs.Flush.{IsCovered}
use Rattle.clog_crash.specs.Log.{Write}
use Rattle.clog_crash.specs.Readings.{Reading}
use Rattle.clog_crash.proofs.changes.Names.{not_segment, one_id}
use Rattle.clog_segments.specs.AtMost.{AddsOnly, HoldsMost, IsArchiveAmong}
use Rattle.clog_segments.specs.Beside.{
  ImagesBut,
  IsEitherName,
  IsOfGone,
  NamesSegment,
  StayButOne,
}
use Rattle.clog_segments.specs.Discards.{
  MayAllGo,
  all_gone_at,
  first_gone_at,
  gone_at,
  named_at,
  next_named_at,
}
use Rattle.clog_segments.specs.declared.sequences.Sequences.{Sequences}
use Rattle.clog_segments.specs.Life.{HasBegun, HasEnd, Lives, LivesOn, MayGoOnIn, State}
use Rattle.clog_segments.specs.Resting.{RestsAt, ShowsBehind}
use Rattle.clog_segments.specs.Torn.{HandStands}
use Rattle.clog_segments.proofs.AllGo.{all_rest, not_archived}
use Rattle.clog_segments.proofs.Anywhere.{covered_wherever}
use Rattle.clog_segments.proofs.AtMost.{low_of, most_gone}
use Rattle.clog_segments.proofs.OtherFiles.{
  CountsNow,
  IsAside,
  RestsStill,
  ShowsMeanwhile,
  StandElse,
  broken,
  broken_on,
  end_aside,
  lives_by,
  none_there,
  passed,
  passed_on,
  put_else,
}
use Rattle.clog_segments.proofs.Numbering.{keeps_by}
use Rattle.clog_segments.proofs.Torn.{stands_behind}

-- want of memory is no failure
pub not_failed : {A : Type 0} (result : Result A DiskFault) {fault : DiskFault}
    → result ≡ Err fault → fault ≡ OutOfMemory → result ≢ Err Failed
not_failed result is memory failed =
    let refused : result ≡ Err OutOfMemory = is ∙ ap Err memory in
    let no : Err OutOfMemory ≡ Err Failed = sym refused ∙ failed in
    cc

-- ---- the files

named_else : (is_named : Bool) (id : ℕ) (f : Files) (name : List ℕ)
    → (name ≡ archive_name_of id → ⊥)
    → finmap.get (named_at is_named id f) name ≡ finmap.get f name
named_else false id f name apart = refl
named_else true id f name apart =
    put_else f (archive_name_of id) (finmap.get f (segment_name_of 6 id)) name apart

gone_else : (archives : Bool) (id : ℕ) (f : Files) (name : List ℕ)
    → (name ≡ segment_name_of 6 id → ⊥) → (name ≡ archive_name_of id → ⊥)
    → finmap.get (gone_at archives id f) name ≡ finmap.get f name
gone_else archives id f name own archive =
    gone_there (named_at archives id f) (segment_name_of 6 id) name own
    ∙ named_else archives id f name archive

all_gone_else : (archives : Bool) (base : ℕ) (ordinals : List ℕ) (f : Files)
    → StandElse (IsOfGone base ordinals) f (all_gone_at archives base ordinals f)
all_gone_else archives base [] f name apart = refl
all_gone_else archives base (o ∷ ordinals) f name apart =
    all_gone_else archives base ordinals (gone_at archives (base + o) f) name
    (λ of. apart (of.0, further o ordinals of.0 of.1, of.2))
    ∙ gone_else archives (base + o) f name (λ is. apart (o, here o ordinals, inl is))
    (λ is. apart (o, here o ordinals, inr is))

next_else : (is_named : Bool) (base : ℕ) (ordinals : List ℕ) (f : Files)
    → StandElse (IsOfGone base ordinals) f (next_named_at is_named base ordinals f)
next_else is_named base [] f name apart = refl
next_else is_named base (o ∷ ordinals) f name apart =
    named_else is_named (base + o) f name (λ is. apart (o, here o ordinals, inr is))

first_gone_else : (archives : Bool) (base : ℕ) (ordinals : List ℕ) (n : ℕ) (is_named : Bool)
    (f : Files)
    → StandElse (IsOfGone base ordinals) f (first_gone_at archives base ordinals n is_named f)
first_gone_else archives base ordinals n is_named f name apart =
    let front = take n ordinals in
    let back = drop n ordinals in
    let within : (o : ℕ) → Contains (front ++ back) o → Contains ordinals o =
    λ o listed. subst (λ (l : List ℕ). Contains l o) (take-append-drop n ordinals) listed in
    next_else is_named base back (all_gone_at archives base front f) name
    (λ of. apart (of.0, within of.0 (Contains-append_right front back of.0 of.1), of.2))
    ∙ all_gone_else archives base front f name
    (λ of. apart (of.0, within of.0 (Contains-append_left front back of.0 of.1), of.2))

either_of : (archives : Bool) (id : ℕ) (name : List ℕ) → NamesSegment archives id name
    → IsEitherName id name
either_of archives id name names = elim names [ inl own ↦ inl own | inr archive ↦ inr archive.1 ]

-- older segments stand aside
gone_aside : (base : ℕ) (ordinals : List ℕ) (id : ℕ) → id < 2 ^ 63
    → ((o : ℕ) → Contains ordinals o → base + o < id) → IsAside (IsOfGone base ordinals) id
gone_aside base ordinals id fits low other from limit of =
    let under = low of.0 of.1 in
    elim of.2 [
      | inl own ↦
          let one = one_id (base + of.0) other (omega (arith, under, fits)) limit own in
          omega (arith, one, under, from)
      | inr archive ↦
          not_archived (base + of.0) other (omega (arith, under, fits)) limit archive
    ]

-- no name of theirs is a table file's
gone_no_table : (base : ℕ) (ordinals : List ℕ) (id : ℕ) → id < 2 ^ 63
    → ((o : ℕ) → Contains ordinals o → base + o < id) → (name : List ℕ) (table n : ℕ)
    → IsTableName name table n → IsOfGone base ordinals name → ⊥
gone_no_table base ordinals id fits low name table n named of =
    let under = low of.0 of.1 in
    elim of.2 [
      | inl own ↦ not_segment (base + of.0) name table n (omega (arith, under, fits)) named own
      | inr archive ↦ archive_is_no_table name (base + of.0) (record {
        form = archive;
        id_fits = omega (arith, under, fits);
      }) table n named
    ]

abbrev CoveredHere : Option Files → ℕ → List Section → ℕ → List ℕ → Type 0
CoveredHere told id old base ordinals = IfSome told (λ f. (o : ℕ) → Contains ordinals o
    → IsCovered f id old (base + o))

end_by : (told now : Option Files) (change : Files → Files) (id size : ℕ)
    (sections old : List Section) (base : ℕ) (ordinals : List ℕ)
    → CoveredHere told id old base ordinals
    → ((f : Files) → StandElse (IsOfGone base ordinals) f (change f))
    → now ≡ option_map change told → HasEnd told id size sections → HasEnd now id size sections
end_by None now change id size sections old base ordinals covered else same end =
    subst (λ (o : Option Files). HasEnd o id size sections) (sym same) end
end_by (Some f) now change id size sections old base ordinals covered else same end =
    subst (λ (o : Option Files). HasEnd o id size sections) (sym same)
    (end_aside (IsOfGone base ordinals) f (change f) id size sections (else f)
    (gone_aside base ordinals id end.stored.fits (λ o listed. (covered o listed).below)) end)

-- what lasts of the segment at hand does so still
lasts_by : (told now : Option Files) (change : Files → Files) (id : ℕ) (old : List Section)
    (base : ℕ) (ordinals : List ℕ) (leaves later : List ℕ → Option (List ℕ) → Type 0)
    → CoveredHere told id old base ordinals
    → ((f : Files) → StandElse (IsOfGone base ordinals) f (change f))
    → now ≡ option_map change told → ImagesBut (IsOfGone base ordinals) leaves later
    → id < 2 ^ 63 → Lasts told leaves (segment_name_of 6 id)
    → Lasts now later (segment_name_of 6 id)
lasts_by None now change id old base ordinals leaves later covered else same elsewhere fits was =
    subst (λ (o : Option Files). Lasts o later (segment_name_of 6 id)) (sym same) tt
lasts_by (Some f) now change id old base ordinals leaves later covered else same elsewhere fits
    was =
    let own = segment_name_of 6 id in
    let aside = gone_aside base ordinals id fits (λ o listed. (covered o listed).below) id
    (omega arith) fits in
    subst (λ (o : Option Files). Lasts o later own) (sym same)
    (λ left is. was left (elsewhere own left aside is) ∙ sym (else f own aside))

-- segments that may go may do so wherever the log may go on
go_wherever : (told : Option Files) (leaves : List ℕ → Option (List ℕ) → Type 0) (r : Reading)
    (past : List Write) (id size : ℕ) (sections : List Section) (synced : ℕ)
    (kept : List Section) (base : ℕ) (ordinals : List ℕ) → HasEnd told id size sections
    → CoveredHere told id (take synced sections) base ordinals → (at : ℕ)
    → MayGoOnIn id sections at → RestsAt told leaves r past at (take synced sections) kept
    → MayAllGo told leaves r past at (take synced sections) kept base ordinals
go_wherever None leaves r past id size sections synced kept base ordinals end covered at on rests =
    absurd rests
go_wherever (Some f) leaves r past id size sections synced kept base ordinals end covered at on
    rests = (
      rests,
      λ o listed. covered_wherever f id sections synced at on
          (λ none. (none_there f id size sections at on end none).0)
          (λ none. (none_there f id size sections at on end none).1) (base + o) (covered o listed),
    )

-- ---- the log

module _ {D : Type 0} {files : D → Option Files} {moment : D → ℕ}
    {since : D → ℕ → Files → Type 0} {leaves : D → List ℕ → Option (List ℕ) → Type 0}
    {read_at : D → ℕ → Option Reading} {lasted_at : D → ℕ → Type 0} {s shown : State D} {size : ℕ}
    {known : Option Sequences} (view : s ≡ shown)
    (keeps : HasBegun files moment since leaves read_at lasted_at s size known
    × HoldsMost files moment since leaves s)
    (runs : s.is_stopped ≡ false) (counts : CountsNow moment since leaves) (new : D)
    (told : SameTold (files s.disk) (files new))
    (later : IsLater moment read_at lasted_at s.disk new) (archives : Bool) (base : ℕ)
    (ordinals : List ℕ)
    (covered : CoveredHere (files shown.disk) shown.id (take shown.synced shown.sections) base
    ordinals)
    (any_moment : (r : Reading) (past : List Write) (last : ℕ) (old kept : List Section)
    → MayAllGo (files s.disk) (leaves s.disk) r past last old kept base ordinals
    → LeavesOnly moment since s.disk new (ShowsBehind r past last old kept))
    (elsewhere : ImagesBut (IsOfGone base ordinals) (leaves s.disk) (leaves new))
    (adds_only : (f : Files) → files s.disk ≡ Some f
    → AddsOnly files moment since leaves s.disk new
    (IsArchiveAmong (leaves s.disk) base ordinals)) where
  abbrev old : List Section
  old = take s.synced s.sections

  abbrev kept : List Section
  kept = drop s.synced s.sections

  abbrev Living : State D → Type 0
  Living t = Lives files moment since leaves read_at lasted_at t

  abbrev LivingOn : State D → Type 0
  LivingOn t = LivesOn files moment since leaves read_at lasted_at shown t

  abbrev Begun : State D → Type 0
  Begun t = HasBegun files moment since leaves read_at lasted_at t size known
      × HoldsMost files moment since leaves t

  -- these may still go
  abbrev GoOn : List ℕ → Type 0
  GoOn others =
      (r : Reading) (past : List Write) (last : ℕ) (old kept : List Section)
      → MayAllGo (files s.disk) (leaves s.disk) r past last old kept base ordinals
      → MayAllGo (files new) (leaves new) r past last old kept base others

  covered_first : CoveredHere (files s.disk) s.id old base ordinals
  covered_first =
      subst (λ (st : State D). CoveredHere (files st.disk) st.id (take st.synced st.sections) base
      ordinals) (sym view) covered

  may : (at : ℕ) → MayGoOnIn s.id s.sections at → (r : Reading)
      → RestsAt (files s.disk) (leaves s.disk) r s.past at old kept
      → MayAllGo (files s.disk) (leaves s.disk) r s.past at old kept base ordinals
  may at on r rests =
      go_wherever (files s.disk) (leaves s.disk) r s.past s.id size s.sections s.synced kept base
      ordinals (keeps.0.ends runs) covered_first at on rests

  any : ShowsMeanwhile files moment since leaves s new
  any at on r rests = any_moment r s.past at old kept (may at on r rests)

  rest_on : (others : List ℕ) → GoOn others → RestsStill files leaves s new
  rest_on others goes at on r rests =
      all_rest (files new) (leaves new) r s.past at old kept base others
      (goes r s.past at old kept (may at on r rests))

  most : (stopped : Bool)
      → HoldsMost files moment since leaves (record s { disk = new; is_stopped = stopped })
  most stopped =
      most_gone files moment since leaves s new base ordinals stopped runs told later.no_sooner
      adds_only (low_of (files s.disk) s.id old base ordinals covered_first) keeps.1

  -- some have gone, and others may still go
  gone_on : (others : List ℕ) → GoOn others → Living shown → LivingOn (record s { disk = new })
  gone_on others goes =
      lives_by view (passed_on keeps.0 runs counts new told later any (rest_on others goes))

  gone_by : (change : Files → Files) (others : List ℕ)
      → ((f : Files) → StandElse (IsOfGone base ordinals) f (change f)) → GoOn others
      → files new ≡ option_map change (files s.disk) → Begun (record s { disk = new })
  gone_by change others else goes same = (
    passed keeps.0 runs counts new told later any known (rest_on others goes)
        (end_by (files s.disk) (files new) change s.id size s.sections old base ordinals
        covered_first else same)
        (lasts_by (files s.disk) (files new) change s.id old base ordinals (leaves s.disk)
        (leaves new) covered_first else same elsewhere keeps.0.stored.fits)
        (keeps_by (files s.disk) (files new) known (IsOfGone base ordinals) change else
        (λ f is name table n named of. gone_no_table base ordinals s.id keeps.0.stored.fits
        (λ o listed. (subst (λ (o : Option Files). CoveredHere o s.id old base ordinals) is
        covered_first o listed).below) name table n named of) same),
    most s.is_stopped,
  )

  pub all_went : GoOn []
      → files new ≡ option_map (all_gone_at archives base ordinals) (files s.disk)
      → Begun (record s { disk = new })
  all_went goes same =
      gone_by (all_gone_at archives base ordinals) [] (all_gone_else archives base ordinals) goes
      same

  pub all_on : GoOn [] → Living shown → LivingOn (record s { disk = new })
  all_on goes = gone_on [] goes

  pub first_went : (n : ℕ) (is_named : Bool) → GoOn (drop n ordinals)
      → files new
      ≡ option_map (first_gone_at archives base ordinals n is_named) (files s.disk)
      → Begun (record s { disk = new })
  first_went n is_named goes same =
      gone_by (first_gone_at archives base ordinals n is_named) (drop n ordinals)
      (first_gone_else archives base ordinals n is_named) goes same

  pub first_on : (n : ℕ) → GoOn (drop n ordinals) → Living shown
      → LivingOn (record s { disk = new })
  first_on n goes = gone_on (drop n ordinals) goes

  -- the disk has failed
  pub some_on : Living shown → LivingOn (record s { disk = new; is_stopped = true })
  some_on = lives_by view (broken_on keeps.0 runs counts new told later any)

  -- what stands of the segment at hand
  hand : (change : Files → Files) (name : List ℕ) → IsOfGone base ordinals name
      → ((f : Files) → StandElse (IsOfGone base ordinals) f (change f))
      → StayButOne name (option_map change (files s.disk)) (files new)
      → HandStands (files new) s.id s.synced s.sections
  hand change name of else others =
      stands_behind (files s.disk) (files new) s.id s.synced s.sections name change told (λ f is.
      let aside = gone_aside base ordinals s.id keeps.0.stored.fits (λ o listed.
      (subst (λ (o : Option Files). CoveredHere o s.id old base ordinals) is covered_first o
      listed).below) s.id (omega arith) keeps.0.stored.fits in (
        else f (segment_name_of 6 s.id) aside,
        λ same. aside (subst (IsOfGone base ordinals) (sym same) of),
      )) others keeps.0.stands

  pub some_went : (n : ℕ) (is_named : Bool) (name : List ℕ) → n < length ordinals
      → NamesSegment archives (base + get_or ordinals n 0) name
      → StayButOne name
      (option_map (first_gone_at archives base ordinals n is_named) (files s.disk)) (files new)
      → Begun (record s { disk = new; is_stopped = true })
  some_went n is_named name inside names others = (
    broken keeps.0 runs counts new told later any
        (hand (first_gone_at archives base ordinals n is_named) name
        (get_or ordinals n 0, Contains-get_or ordinals n 0 inside, either_of archives _ name names)
        (first_gone_else archives base ordinals n is_named) others),
    most true,
  )
