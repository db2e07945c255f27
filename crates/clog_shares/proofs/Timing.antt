-- In periodic mode: what a sync behind a write tells, and writes one after another.
use Rattle.std.proofs.Common.{◌≡◌, ◌⊎◌, ℕ, ◌<◌, inl, inr, List, [], ◌∷◌, map, Option, None, refl}
use Rattle.std.proofs.Common.{sym, ◌∙◌, subst, arith}
use Rattle.std.specs.Prelude.{Contains}
use Rattle.std.proofs.lemmas.Option.{none-some}
use Rattle.clog_base.proofs.Members.{here}
use Rattle.sync_core.specs.declared.SyncCore.{SyncCore}
use Rattle.sync_core.specs.declared.SyncCore.TheVariants.{Batch, Periodic}
use Rattle.sync_core.specs.Due.{IsDue}
use Rattle.path_core.specs.declared.event.Cursor.TheVariants.{Synced}
use Rattle.path_core.specs.declared.event.Place.TheVariants.{CursorWord}
use Rattle.path_core.specs.declared.note.EntryNote.{EntryNote}
use Rattle.path_rule.specs.declared.answer.SyncAnswer.{SyncAnswer}
use Rattle.path_rule.specs.declared.answer.SyncAnswer.TheVariants as sync
use Rattle.path_rule.specs.declared.view.OwnStep.{OwnStep}
use Rattle.path_rule.specs.declared.view.PathSize.{PathSize}
use Rattle.path_rule.specs.declared.view.View.{View}
use Rattle.path_rule.specs.Rule.{event_of}
use Rattle.path_table.specs.declared.trying.PathSeat.{PathSeat}
use Rattle.path_table.specs.Members.{view_of}
use Rattle.write_path.specs.declared.commit.Commit.{Commit}
use Rattle.write_path.specs.declared.commit.Commit.TheVariants.{Logged, Durable, Unsynced}
use Rattle.write_path.specs.declared.commit.Commit.TheVariants.{Spent as NoRoom}
use Rattle.write_path.specs.declared.prepared.Prepared.{Prepared}
use Rattle.path_flush.specs.OwnWrites.{writes_of}
use Rattle.write_path.specs.Ends.{IsLast}
use Rattle.path_flush.specs.Grown.{HasGrown}
use Rattle.write_path.specs.Receipts.{IsCommitted}
use Rattle.write_path.specs.Syncs.{Syncs}
use Rattle.write_path.proofs.Growing.{both}
use Rattle.write_path.proofs.Sealing.{found_in}
use Rattle.clog_shares.specs.declared.fault.WriteFault.{WriteFault}
use Rattle.clog_shares.specs.declared.fault.WriteFault.TheVariants.{OutOfMemory, Spent, Stopped}
use Rattle.clog_shares.specs.Shares.{refusal_in, refusal_of}
use Rattle.clog_shares.specs.Timed.{AreTimed, HasNotSynced, HasSynced, IsTimed, KnowsSynced}
use Rattle.clog_shares.specs.Timed.{SealsLast, SyncsWhenDue, TimesWrite}
use Rattle.clog_shares.proofs.Committing.{sealed_still}

-- ---- what a sync tells that was not refused

pub knows_synced : {K : Type 0} (w opened : ℕ) (v : View) (s : PathSeat K) (answer : SyncAnswer)
    → Syncs w opened v answer (view_of s.member) → refusal_of answer ≡ None → KnowsSynced s
knows_synced w opened v s (sync.Done key) S none = (key, S.answers.is.0, S.covers)
knows_synced w opened v s (sync.Stopped at_open now) S none =
    absurd (none-some (Stopped at_open now) (sym none))
knows_synced w opened v s sync.OutOfMemory S none = absurd (none-some OutOfMemory (sym none))

pub seals_last : {K : Type 0} (w opened : ℕ) (s t : PathSeat K) (answer : SyncAnswer)
    → Syncs w opened (view_of s.member) answer (view_of t.member) → refusal_of answer ≡ None
    → SealsLast s t
seals_last w opened s t (sync.Done key) S none = λ n listed last. (
  key,
  S.covers n (subst (λ (l : List EntryNote). Contains l n) (sym S.list) listed),
  found_in w n S.answers.puts (view_of s.member) (view_of t.member) S.answers.steps last
      (CursorWord Synced) key S.answers.now,
)
seals_last w opened s t (sync.Stopped at_open now) S none =
    absurd (none-some (Stopped at_open now) (sym none))
seals_last w opened s t sync.OutOfMemory S none = absurd (none-some OutOfMemory (sym none))

-- no sync is due in batch mode, where no write waits for one
pub none_due : (mode : SyncCore) (moment last : ℕ) → mode ≡ Batch → IsDue mode moment last 0 → ⊥
none_due mode moment last batch due =
    let less : 0 < 0 = subst (λ (m : SyncCore). IsDue m moment last 0) batch due in
    absurd (omega (arith, less))

-- ---- a write

-- a seat's list has one write more, which is its last
pub record LogsLast (before after : List OwnStep) : Type 0 where
  pub note : EntryNote
  pub list : writes_of after ≡ note ∷ writes_of before
  pub last : IsLast note (map event_of after)
  pub grown : HasGrown before after

pub logs_last : (size : PathSize) (w : ℕ) (before : List OwnStep) (p : Prepared) (v : View)
    (period : ℕ) (c : Commit) → IsCommitted (Periodic period) size w before p c v
    → refusal_in c ≡ None → LogsLast before v.trail
logs_last size w before p v period (Logged r) is none = record {
  note = is.logged.listed.note;
  list = is.logged.listed.list;
  last = is.logged.listed.last;
  grown = is.logged.grown;
}
logs_last size w before p v period (Durable r) is none = absurd is
logs_last size w before p v period (Unsynced r fault) is none = absurd is
logs_last size w before p v period (NoRoom back key) is none =
    absurd (none-some Spent (sym none))

module _ {K : Type 0} (tells : ℕ → Type 0) (mode : SyncCore) (last : ℕ) (before : List OwnStep)
    (s t : PathSeat K) (next : ℕ) (fault : Option WriteFault)
    (logs : LogsLast before (view_of s.member).trail) (none : fault ≡ None) where
  -- the write that was logged, behind the sync
  behind : (moment : ℕ)
      → (IsDue mode moment last 0 × HasSynced moment s t next fault)
      ⊎ ((IsDue mode moment last 0 → ⊥) × HasNotSynced last s t next fault)
      → tells moment → IsTimed tells mode last logs.note (view_of t.member).trail next
  behind moment (inl (due, has)) told = (
    moment,
    told,
    inl (
      due,
      has.next_is,
      has.seals none logs.note
          (subst (λ (l : List EntryNote). Contains l logs.note) (sym logs.list)
          (here logs.note (writes_of before))) logs.last,
    ),
  )
  behind moment (inr (not_due, has)) told = (moment, told, inr (not_due, has.next_is))

  pub times_write : writes_of (view_of t.member).trail ≡ writes_of (view_of s.member).trail
      → HasGrown (view_of s.member).trail (view_of t.member).trail
      → SyncsWhenDue tells mode last s t next fault
      → TimesWrite tells mode last before (view_of t.member).trail next
  times_write same grown (moment, told, one) = record {
    note = logs.note;
    list = same ∙ logs.list;
    grown = both before (view_of s.member).trail (view_of t.member).trail logs.grown grown;
    timed = behind moment one told;
  }

-- ---- writes one after another

module _ (tells : ℕ → Type 0) (mode : SyncCore) (since : ℕ) where
  pub none_timed : (trail : List OwnStep) → writes_of trail ≡ []
      → AreTimed tells mode since (writes_of trail) trail since
  none_timed trail none =
      subst (λ (l : List EntryNote). AreTimed tells mode since l trail since) (sym none) refl

  -- what is so stays so
  timed_still : (n : EntryNote) (before after : List OwnStep) (last next : ℕ)
      → HasGrown before after → IsTimed tells mode last n before next
      → IsTimed tells mode last n after next
  timed_still n before after last next G (moment, told, inl (due, is, sealed)) =
      (moment, told, inl (due, is, sealed_still n before after G sealed))
  timed_still n before after last next G (moment, told, inr (not_due, is)) =
      (moment, told, inr (not_due, is))

  all_still : (ns : List EntryNote) (before after : List OwnStep) (last : ℕ)
      → HasGrown before after → AreTimed tells mode since ns before last
      → AreTimed tells mode since ns after last
  all_still [] before after last G is = is
  all_still (n ∷ ns) before after last G (then, all, timed) = (
    then,
    all_still ns before after then G all,
    timed_still n before after then last G timed,
  )

  pub one_timed : (before after : List OwnStep) (last next : ℕ)
      → AreTimed tells mode since (writes_of before) before last
      → TimesWrite tells mode last before after next
      → AreTimed tells mode since (writes_of after) after next
  one_timed before after last next all T =
      subst (λ (l : List EntryNote). AreTimed tells mode since l after next) (sym T.list) (
        last,
        all_still (writes_of before) before after last T.grown all,
        T.timed,
      )

  -- what was so of a write is so behind what adds none
  pub times_on : (before then after : List OwnStep) (last next : ℕ)
      → writes_of after ≡ writes_of then → HasGrown then after
      → TimesWrite tells mode last before then next → TimesWrite tells mode last before after next
  times_on before then after last next same grown T = record {
    note = T.note;
    list = same ∙ T.list;
    grown = both before then after T.grown grown;
    timed = timed_still T.note then after last next grown T.timed;
  }

  -- and so it is of all
  pub timed_on : (before after : List OwnStep) (last : ℕ) → writes_of after ≡ writes_of before
      → HasGrown before after → AreTimed tells mode since (writes_of before) before last
      → AreTimed tells mode since (writes_of after) after last
  timed_on before after last same grown all =
      subst (λ (l : List EntryNote). AreTimed tells mode since l after last) (sym same)
      (all_still (writes_of before) before after last grown all)
