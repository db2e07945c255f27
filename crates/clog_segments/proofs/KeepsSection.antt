-- A section more is put behind those of the segment at hand, which does not last yet.
use Rattle.std.proofs.Common.{
  ◌≡◌,
  ◌+◌,
  ℕ,
  List,
  [],
  ◌∷◌,
  ◌++◌,
  length,
  Option,
  Some,
  take,
  drop,
  true,
  false,
  refl,
  ap,
  sym,
  subst,
  ◌∙◌,
  length-append,
  arith,
}
use Rattle.std.specs.Prelude.{Bool}
use Rattle.std.proofs.lemmas.Bool.{true≢false}
use Rattle.clog_spec.specs.Names.{segment_name_of}
use Rattle.clog_disk.specs.Files.{AppendsTo, Files, MayAppend, SameTold}
use Rattle.clog_disk.specs.Images.{Elapses, IsImage, IsLater, LeavesOnly, Within}
use Rattle.clog_scan.specs.Cut.{Section}
use Rattle.clog_crash.specs.Log.{Write}
use Rattle.clog_crash.specs.Readings.{Reading}
use Rattle.clog_crash.specs.Sections.{Brings, IsStored}
use Rattle.clog_crash.proofs.changes.Names.{not_segment}
use Rattle.clog_segments.specs.declared.sequences.Sequences.{Sequences}
use Rattle.clog_segments.specs.AtMost.{AddsOnly, HoldsMost, IsUpToAt}
use Rattle.clog_segments.specs.Beside.{StayButOne}
use Rattle.clog_segments.specs.Life.{HasBegun, HasEnd, Lives, LivesOn, State}
use Rattle.clog_segments.specs.Resting.{RestsAt, ShowsBehind}
use Rattle.clog_segments.specs.Torn.{HandStands}
use Rattle.clog_segments.proofs.AtMost.{most_kept}
use Rattle.clog_segments.proofs.Begun.{begun_on, stored_more}
use Rattle.clog_segments.proofs.Ends.{end_more, spelled_more}
use Rattle.clog_segments.proofs.Lived.{lives_still}
use Rattle.clog_segments.proofs.LivedCalls.{lives_kept, lives_torn}
use Rattle.clog_segments.proofs.Numbering.{keeps_beside}
use Rattle.clog_segments.proofs.OtherFiles.{CountsNow, lives_by}
use Rattle.clog_segments.proofs.Torn.{stands_appended}
use Rattle.clog_segments.proofs.Untouched.{same_kept, same_on}

-- there was no room for it, and the disk was not called
pub unkept_on : {D : Type 0} {files : D → Option Files} {moment : D → ℕ}
    {since : D → ℕ → Files → Type 0} {leaves : D → List ℕ → Option (List ℕ) → Type 0}
    {read_at : D → ℕ → Option Reading} {lasted_at : D → ℕ → Type 0} {s shown : State D}
    {back : List Section} → s ≡ shown → back ≡ s.sections
    → ((d : D) (image : Files) → since d (moment d) image → IsImage (leaves d) image)
    → Lives files moment since leaves read_at lasted_at shown
    → LivesOn files moment since leaves read_at lasted_at shown (record s { sections = back })
unkept_on {files = files} {moment = moment} {since = since} {leaves = leaves} {read_at = read_at}
    {lasted_at = lasted_at} {s = s} view is_back only_now =
    lives_by view (λ lives. subst (λ (l : List Section).
    LivesOn files moment since leaves read_at lasted_at s (record s { sections = l })) (sym is_back)
    (lives_still files moment since leaves read_at lasted_at s (only_now s.disk) lives))

module _ {D : Type 0} {files : D → Option Files} {moment : D → ℕ}
    {since : D → ℕ → Files → Type 0} {leaves : D → List ℕ → Option (List ℕ) → Type 0}
    {read_at : D → ℕ → Option Reading} {lasted_at : D → ℕ → Type 0} {s shown : State D} {size : ℕ}
    {known : Option Sequences} (view : s ≡ shown)
    (keeps : HasBegun files moment since leaves read_at lasted_at s size known
    × HoldsMost files moment since leaves s)
    (runs : s.is_stopped ≡ false) (counts : CountsNow moment since leaves) (new : D) where
  abbrev old : List Section
  old = take s.synced s.sections

  abbrev kept : List Section
  kept = drop s.synced s.sections

  abbrev LivingOn : State D → Type 0
  LivingOn t =
      Lives files moment since leaves read_at lasted_at shown
      → LivesOn files moment since leaves read_at lasted_at shown t

  abbrev Keeping : State D → ℕ → Type 0
  Keeping t long =
      HasBegun files moment since leaves read_at lasted_at t long known
      × HoldsMost files moment since leaves t

  module _ {longer : List Section} (x : Section) (more : longer ≡ s.sections ++ x ∷ [])
      (bytes : List ℕ)
      (brings_now : Brings shown.id (take shown.synced shown.sections)
      (drop shown.synced shown.sections) (x ∷ []) bytes)
      (told : SameTold (files s.disk) (files new))
      (later : IsLater moment read_at lasted_at s.disk new)
      (any_moment : (r : Reading) (past : List Write) (old kept more : List Section)
      → Brings s.id old kept more bytes
      → RestsAt (files s.disk) (leaves s.disk) r past s.id old kept
      → LeavesOnly moment since s.disk new (ShowsBehind r past s.id old (kept ++ more))) where
    -- it is at rest with them
    abbrev Keeps : Type 0
    Keeps = (r : Reading) (past : List Write) (old kept more : List Section)
        → Brings s.id old kept more bytes
        → RestsAt (files s.disk) (leaves s.disk) r past s.id old kept
        → RestsAt (files new) (leaves new) r past s.id old (kept ++ more)

    brings : Brings s.id old kept (x ∷ []) bytes
    brings =
        subst (λ (st : State D). Brings st.id (take st.synced st.sections)
        (drop st.synced st.sections) (x ∷ []) bytes) (sym view) brings_now

    counted : (image : Files) → IsImage (leaves new) image → since new (moment s.disk) image
    counted image left = counts new (moment s.disk) image later.no_sooner left

    stored : IsStored s.id longer
    stored =
        subst (IsStored s.id) (sym more) (stored_more s.id s.synced s.sections x bytes brings)

    long : length longer ≡ length s.sections + 1
    long = ap length more ∙ length-append s.sections (x ∷ [])

    on : Keeps → Lives files moment since leaves read_at lasted_at s
        → LivesOn files moment since leaves read_at lasted_at s
        (record s { disk = new; sections = longer })
    on goes lives =
        subst (λ (l : List Section). LivesOn files moment since leaves read_at lasted_at s
        (record s { disk = new; sections = l })) (sym more)
        (lives_kept files moment since leaves read_at lasted_at s new runs lives counted told later
        x (λ r rests. any_moment r s.past old kept (x ∷ []) brings rests)
        (λ r rests. goes r s.past old kept (x ∷ []) brings rests))

    torn : Lives files moment since leaves read_at lasted_at s
        → LivesOn files moment since leaves read_at lasted_at s
        (record s { disk = new; sections = longer; is_stopped = true })
    torn lives =
        subst (λ (l : List Section). LivesOn files moment since leaves read_at lasted_at s
        (record s { disk = new; sections = l; is_stopped = true })) (sym more)
        (lives_torn files moment since leaves read_at lasted_at s new runs lives counted told later
        x (λ r rests. any_moment r s.past old kept (x ∷ []) brings rests))

    -- ---- that it lives on

    pub kept_on : Keeps → LivingOn (record s { disk = new; sections = longer })
    kept_on goes = lives_by view (on goes)

    pub failed_on : LivingOn (record s { disk = new; sections = longer; is_stopped = true })
    failed_on = lives_by view torn

    -- ---- what it keeps

    module _
        (adds_only : (f : Files) → files s.disk ≡ Some f
        → AddsOnly files moment since leaves s.disk new
        (IsUpToAt (segment_name_of 6 s.id) (size + length bytes))) where
      most : (stopped : Bool) → HoldsMost files moment since leaves (record s {
        disk = new;
        sections = longer;
        is_stopped = stopped;
      })
      most stopped =
          most_kept files moment since leaves s new x bytes size longer stopped runs more told
          later.no_sooner adds_only (keeps.0.ends runs).size_is brings keeps.1

      pub is_kept : Keeps → AppendsTo (files s.disk) (files new) (segment_name_of 6 s.id) bytes
          → StayButOne (segment_name_of 6 s.id) (files s.disk) (files new)
          → Keeping (record s { disk = new; sections = longer }) (size + length bytes)
      is_kept goes appends others = (
        begun_on files moment since leaves read_at lasted_at s size new longer s.synced s.is_stopped
            (size + length bytes) known keeps.0 later (omega (arith, keeps.0.few, long)) stored
            (λ going. subst (λ (l : List Section).
            HasEnd (files new) s.id (size + length bytes) l) (sym more)
            (end_more (files s.disk) (files new) s.id size s.synced s.sections x bytes appends
            brings (keeps.0.ends going)))
            (λ stopped. absurd (true≢false (sym stopped ∙ runs)))
            (λ going some all. absurd (omega (arith, all, keeps.0.few, long)))
            (λ going. keeps_beside (files s.disk) (files new) known (segment_name_of 6 s.id) told
            others (λ table n named. not_segment s.id (segment_name_of 6 s.id) table n
            keeps.0.stored.fits named refl) (keeps.0.sequences going)) (on goes),
        most s.is_stopped,
      )

      pub failed : MayAppend (files s.disk) (files new) (segment_name_of 6 s.id) (length bytes)
          → Keeping (record s { disk = new; sections = longer; is_stopped = true }) size
      failed maybe = (
        begun_on files moment since leaves read_at lasted_at s size new longer s.synced true size
            known keeps.0 later (omega (arith, keeps.0.few, long)) stored
            (λ going. absurd (true≢false going))
            (λ stopped. subst (λ (l : List Section). HandStands (files new) s.id s.synced l)
            (sym more)
            (stands_appended s.id s.synced s.sections x bytes
            (spelled_more s.id s.synced s.sections x bytes brings) keeps.0.few (files s.disk)
            (files new) size (keeps.0.ends runs) maybe))
            (λ going. absurd (true≢false going)) (λ going. absurd (true≢false going)) torn,
        most true,
      )

  -- it was refused for memory, and the section was taken back
  module _ {back : List Section} (is_back : back ≡ s.sections) (same : files new ≡ files s.disk)
      (fewer : Within (leaves s.disk) (leaves new))
      (time : Elapses moment since leaves read_at lasted_at s.disk new)
      (refuses : (r : Reading) (past : List Write) (at : ℕ) (old kept : List Section)
      → RestsAt (files s.disk) (leaves s.disk) r past at old kept
      → RestsAt (files new) (leaves new) r past at old kept
      × LeavesOnly moment since s.disk new (ShowsBehind r past at old kept)) where
    pub refused_on : LivingOn (record s { disk = new; sections = back })
    refused_on =
        lives_by view (subst (λ (l : List Section).
        Lives files moment since leaves read_at lasted_at s
        → LivesOn files moment since leaves read_at lasted_at s
        (record s { disk = new; sections = l })) (sym is_back)
        (same_on keeps runs counts new same fewer time
        (λ at on r rests. (refuses r s.past at old kept rests).1)
        (λ at on r rests. (refuses r s.past at old kept rests).0)))

    pub refused : Keeping (record s { disk = new; sections = back }) size
    refused =
        subst (λ (l : List Section). Keeping (record s { disk = new; sections = l }) size)
        (sym is_back)
        (same_kept keeps runs counts new same fewer time
        (λ at on r rests. (refuses r s.past at old kept rests).1)
        (λ at on r rests. (refuses r s.past at old kept rests).0))
