-- A log stands while other files come and go: table files, and segments that it has left.
use Rattle.std.proofs.Common.{
  ◌≡◌,
  ℕ,
  ◌<◌,
  ◌^◌,
  List,
  [],
  take,
  drop,
  length,
  Option,
  Some,
  None,
  true,
  false,
  inl,
  inr,
  sym,
  ◌∙◌,
  ap,
  subst,
  arith,
}
use Rattle.std.specs.Prelude.{◌≤◌, IfSome, unwrap_or}
use Rattle.std.proofs.lemmas.Bool.{true≢false}
use Rattle.std.proofs.lemmas.List.{nil_from_length}
use Rattle.std.specs.FinMap as finmap
use Rattle.clog_spec.specs.Names.{segment_name_of, IsTableName}
use Rattle.clog_disk.specs.Files.{Files, SameTold, PutsAt, bytes_at, with_at}
use Rattle.clog_disk.specs.Images.{IsImage, IsLater, Lasts, LeavesOnly}
use Rattle.clog_disk.proofs.Named.{gone_there, put_there}
use Rattle.clog_scan.specs.Cut.{Section}
use Rattle.clog_table.specs.declared.table_file.TableFile.{TableFile}
use Rattle.clog_crash.specs.Log.{Write}
use Rattle.clog_crash.specs.Readings.{Reading}
use Rattle.clog_crash.specs.Sections.{segment_bytes}
use Rattle.clog_crash.proofs.changes.Names.{not_segment}
use Rattle.clog_segments.specs.declared.sequences.Sequences.{Sequences}
use Rattle.clog_segments.specs.Life.{HasBegun, HasEnd, Lives, LivesOn, MayGoOnIn, State}
use Rattle.clog_segments.specs.Numbering.{KeepsSequences}
use Rattle.clog_segments.specs.Resting.{RestsAt, ShowsBehind}
use Rattle.clog_segments.specs.Publishes.{IsTrueHere, MayPut}
use Rattle.clog_segments.specs.Torn.{HandStands}
use Rattle.clog_segments.proofs.Anywhere.{true_wherever}
use Rattle.clog_segments.proofs.Begun.{begun_on}
use Rattle.clog_segments.proofs.Lived.{lives_from}
use Rattle.clog_segments.proofs.LivedCalls.{lives_same, lives_stopped}

-- ---- the files

-- all names but those that have P stand as before
abbrev pub StandElse : (List ℕ → Type 0) → Files → Files → Type 0
StandElse P f g = (name : List ℕ) → (P name → ⊥) → finmap.get g name ≡ finmap.get f name

-- no name of the log's segment, and of none behind it, has P
abbrev pub IsAside : (List ℕ → Type 0) → ℕ → Type 0
IsAside P id = (other : ℕ) → id ≤ other → other < 2 ^ 63 → P (segment_name_of 6 other) → ⊥

pub put_else : (f : Files) (name : List ℕ) (what : Option (List ℕ))
    → StandElse (λ n. n ≡ name) f (with_at f name what)
put_else f name None other apart = gone_there f name other apart
put_else f name (Some bytes) other apart = put_there f name bytes other apart

pub end_aside : (P : List ℕ → Type 0) (f g : Files) (id size : ℕ) (sections : List Section)
    → StandElse P f g → IsAside P id → HasEnd (Some f) id size sections
    → HasEnd (Some g) id size sections
end_aside P f g id size sections stand aside end = record {
  stored = end.stored;
  size_is = end.size_is;
  here = end.here ∙ sym (ap length (same id (omega arith) end.stored.fits));
  reads = same id (omega arith) end.stored.fits ∙ end.reads;
  above = λ other over limit.
      end.above other over limit ∙ sym (ap length (same other (omega (arith, over)) limit));
}
  where
    same : (other : ℕ) → id ≤ other → other < 2 ^ 63
        → bytes_at g (segment_name_of 6 other) ≡ bytes_at f (segment_name_of 6 other)
    same other from limit =
        ap (λ (o : Option (List ℕ)). unwrap_or o []) (
        stand (segment_name_of 6 other) (aside other from limit)
        )

-- what is put at a name
pub end_beside : (told now : Option Files) (name : List ℕ) (what : Option (List ℕ)) (id size : ℕ)
    (sections : List Section) → PutsAt told now name what → IsAside (λ n. n ≡ name) id
    → HasEnd told id size sections → HasEnd now id size sections
end_beside None now name what id size sections puts aside end =
    subst (λ (o : Option Files). HasEnd o id size sections) (sym puts) end
end_beside (Some f) now name what id size sections puts aside end =
    subst (λ (o : Option Files). HasEnd o id size sections) (sym puts)
    (end_aside (λ n. n ≡ name) f (with_at f name what) id size sections (put_else f name what)
    aside end)

-- where the segment at hand has no section, nothing stands there, and wherever else the log may go
-- on
pub none_there : (f : Files) (id size : ℕ) (sections : List Section) (at : ℕ)
    → MayGoOnIn id sections at → HasEnd (Some f) id size sections → sections ≡ []
    → (bytes_at f (segment_name_of 6 id) ≡ []) × (bytes_at f (segment_name_of 6 at) ≡ [])
none_there f id size sections at may end none =
    let here : bytes_at f (segment_name_of 6 id) ≡ [] =
    end.reads ∙ ap (segment_bytes id) none in (
      here,
      elim may [
        | inl same ↦ subst (λ (k : ℕ). bytes_at f (segment_name_of 6 k) ≡ []) (sym same) here
        | inr far ↦ nil_from_length (bytes_at f (segment_name_of 6 at))
            (sym (end.above at far.1 far.2))
      ],
    )

-- a table file that is true of what lasts is so wherever the log may go on
pub put_wherever : (told : Option Files) (leaves : List ℕ → Option (List ℕ) → Type 0)
    (r : Reading) (past : List Write) (id size : ℕ) (sections : List Section) (synced : ℕ)
    (kept : List Section) (file : TableFile) (sequence : ℕ) → HasEnd told id size sections
    → IfSome told (λ f. IsTrueHere f id (take synced sections) file sequence)
    → (at : ℕ) → MayGoOnIn id sections at
    → RestsAt told leaves r past at (take synced sections) kept
    → MayPut told leaves r past at (take synced sections) kept file sequence
put_wherever None leaves r past id size sections synced kept file sequence end is at may rests =
    absurd rests
put_wherever (Some f) leaves r past id size sections synced kept file sequence end is at may
    rests = (
      rests,
      true_wherever f id sections synced at may
          (λ none. (none_there f id size sections at may end none).0)
          (λ none. (none_there f id size sections at may end none).1) file sequence is,
    )

-- a table file stands aside
pub table_aside : (id : ℕ) (name : List ℕ) (table sequence : ℕ) → IsTableName name table sequence
    → IsAside (λ n. n ≡ name) id
table_aside id name table sequence named other from limit same =
    not_segment other name table sequence limit named (sym same)

-- ---- the log

-- a moment of a disk is one of those since an earlier one
abbrev pub CountsNow : {D : Type 0} → (D → ℕ) → (D → ℕ → Files → Type 0)
    → (D → List ℕ → Option (List ℕ) → Type 0) → Type 0
CountsNow {D} moment since leaves =
    (d : D) (from : ℕ) (image : Files) → from ≤ moment d → IsImage (leaves d) image
    → since d from image

-- its disk becomes another, which is at rest with all that the log has
abbrev pub RestsStill : {D : Type 0} → (D → Option Files)
    → (D → List ℕ → Option (List ℕ) → Type 0) → State D → D → Type 0
RestsStill files leaves s new =
    (at : ℕ) → MayGoOnIn s.id s.sections at → (r : Reading)
    → RestsAt (files s.disk) (leaves s.disk) r s.past at (take s.synced s.sections)
    (drop s.synced s.sections)
    → RestsAt (files new) (leaves new) r s.past at (take s.synced s.sections)
    (drop s.synced s.sections)

-- and meanwhile each image shows what lasts
abbrev pub ShowsMeanwhile : {D : Type 0} → (D → Option Files) → (D → ℕ)
    → (D → ℕ → Files → Type 0) → (D → List ℕ → Option (List ℕ) → Type 0) → State D → D → Type 0
ShowsMeanwhile files moment since leaves s new =
    (at : ℕ) → MayGoOnIn s.id s.sections at → (r : Reading)
    → RestsAt (files s.disk) (leaves s.disk) r s.past at (take s.synced s.sections)
    (drop s.synced s.sections)
    → LeavesOnly moment since s.disk new (ShowsBehind r s.past at (take s.synced s.sections)
    (drop s.synced s.sections))

module _ {D : Type 0} {files : D → Option Files} {moment : D → ℕ}
    {since : D → ℕ → Files → Type 0} {leaves : D → List ℕ → Option (List ℕ) → Type 0}
    {read_at : D → ℕ → Option Reading} {lasted_at : D → ℕ → Type 0} {s : State D} {size : ℕ}
    {known : Option Sequences}
    (begun : HasBegun files moment since leaves read_at lasted_at s size known)
    (runs : s.is_stopped ≡ false) (counts : CountsNow moment since leaves) (new : D)
    (told : SameTold (files s.disk) (files new))
    (later : IsLater moment read_at lasted_at s.disk new)
    (any_moment : ShowsMeanwhile files moment since leaves s new) where
  abbrev Living : State D → Type 0
  Living t = Lives files moment since leaves read_at lasted_at t

  abbrev LivingOn : State D → Type 0
  LivingOn t = LivesOn files moment since leaves read_at lasted_at s t

  abbrev Begun : State D → Option Sequences → Type 0
  Begun t now = HasBegun files moment since leaves read_at lasted_at t size now

  counted : (image : Files) → IsImage (leaves new) image → since new (moment s.disk) image
  counted image left = counts new (moment s.disk) image later.no_sooner left

  -- it lives on
  pub passed_on : RestsStill files leaves s new → Living s → LivingOn (record s { disk = new })
  passed_on same lives =
      lives_same files moment since leaves read_at lasted_at s new runs lives counted told later
      any_moment same

  -- what it keeps
  pub passed : (now : Option Sequences) → RestsStill files leaves s new
      → (HasEnd (files s.disk) s.id size s.sections → HasEnd (files new) s.id size s.sections)
      → (Lasts (files s.disk) (leaves s.disk) (segment_name_of 6 s.id)
      → Lasts (files new) (leaves new) (segment_name_of 6 s.id))
      → (KeepsSequences (files s.disk) known → KeepsSequences (files new) now)
      → Begun (record s { disk = new }) now
  passed now same end still knows =
      begun_on files moment since leaves read_at lasted_at s size new s.sections s.synced
      s.is_stopped size now begun later begun.few begun.stored (λ going. end (begun.ends going))
      (λ stopped. absurd (true≢false (sym stopped ∙ runs)))
      (λ going some all. still (begun.here going some all)) (λ going. knows (begun.sequences going))
      (passed_on same)

  -- where the disk has failed
  pub broken_on : Living s → LivingOn (record s { disk = new; is_stopped = true })
  broken_on lives =
      lives_stopped files moment since leaves read_at lasted_at s new runs lives counted told later
      any_moment

  pub broken : HandStands (files new) s.id s.synced s.sections
      → Begun (record s { disk = new; is_stopped = true }) known
  broken stands =
      begun_on files moment since leaves read_at lasted_at s size new s.sections s.synced true size
      known begun later begun.few begun.stored (λ going. absurd (true≢false going))
      (λ stopped. stands) (λ going. absurd (true≢false going)) (λ going. absurd (true≢false going))
      broken_on

-- what lives on from its own fields does so from what its model shows of them
pub lives_by : {D : Type 0} {files : D → Option Files} {moment : D → ℕ}
    {since : D → ℕ → Files → Type 0} {leaves : D → List ℕ → Option (List ℕ) → Type 0}
    {read_at : D → ℕ → Option Reading} {lasted_at : D → ℕ → Type 0} {s shown now : State D}
    → s ≡ shown → (Lives files moment since leaves read_at lasted_at s
    → LivesOn files moment since leaves read_at lasted_at s now)
    → Lives files moment since leaves read_at lasted_at shown
    → LivesOn files moment since leaves read_at lasted_at shown now
lives_by {files = files} {moment = moment} {since = since} {leaves = leaves} {read_at = read_at}
    {lasted_at = lasted_at} view on lives =
    lives_from files moment since leaves read_at lasted_at view
    (on (subst (Lives files moment since leaves read_at lasted_at) (sym view) lives))
