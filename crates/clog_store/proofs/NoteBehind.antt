-- A log of notes goes on behind its segment at hand, where that is among those that are due.
use Rattle.std.proofs.Common.{
  ◌≡◌,
  ℕ,
  ◌+◌,
  ◌<◌,
  ◌≤◌,
  ◌^◌,
  ◌∙◌,
  false,
  List,
  Contains,
  ap,
  sym,
  subst,
  arith,
}
use Rattle.std.specs.Prelude.{◌-◌}
use Rattle.path_core.specs.Keeper.{Holding, IsDue}
use Rattle.clog_due.specs.Dropping.{AreDue}
use Rattle.clog_segments.specs.NoteLog.{BeginsFrom, HasLog, IsNoteLog, NoteState}
use Rattle.clog_segments.specs.StoreFolder.{IsSound}
use Rattle.clog_store.proofs.FolderEnds.{due_at_hand}
use Rattle.clog_store.proofs.NoteDue.{base_low, begins_behind, due_at_most, due_limit}

-- the log as it stands inside and as it is seen, and the id of its segment at hand
module _ {D : Type 0} {s now : NoteState D} (view : s ≡ now) (is : IsNoteLog s)
    (runs : now.log.is_stopped ≡ false) {os : List ℕ}
    (due : (h : Holding) × (closed : ℕ) × HasLog now h × AreDue h closed os) {id : ℕ}
    (id_is : id ≡ s.log.id) (sound : IsSound s.log) where
  running : s.log.is_stopped ≡ false
  running = subst (λ (x : NoteState D). x.log.is_stopped ≡ false) (sym view) runs

  has : HasLog s due.0
  has = subst (λ (x : NoteState D). HasLog x due.0) (sym view) due.2

  is_due : (o : ℕ) → Contains os o → IsDue due.0 due.1 o
  is_due o among = (due.3.exact o).0 among

  base_is : s.base ≡ now.base
  base_is = ap (λ (x : NoteState D). x.base) view

  id_now : id ≡ now.log.id
  id_now = id_is ∙ ap (λ (x : NoteState D). x.log.id) view

  -- none that is due is later
  pub none_later : (o : ℕ) → Contains os o → now.base + o ≤ id
  none_later o among =
      let most = due_at_most s due.0 due.1 is has o (is_due o among) sound.below in
      omega (arith, most, id_is, base_is)

  -- each is earlier, where the one at hand is not due
  pub all_earlier : (Contains os (id - s.base) → ⊥) → (o : ℕ) → Contains os o
      → now.base + o < now.log.id
  all_earlier apart o among =
      let most = none_later o among in
      let not_here : now.base + o ≡ id → ⊥ = λ same.
      let at : o ≡ id - s.base = omega (arith, same, base_is) in
      apart (subst (Contains os) at among) in
      omega (arith, most, not_here, id_now)

  module _ (among : Contains os (id - s.base)) where
    here : s.base + (id - s.base) ≡ s.log.id
    here = omega (arith, base_low s is running, id_is)

    pub at_hand : now.base + (id - s.base) ≡ now.log.id
    at_hand = omega (arith, here, id_is, id_now, base_is)

    -- it may go on
    pub fits_behind : id + 1 < 2 ^ 63
    fits_behind =
        let limit = due_limit s due.0 due.1 is has (id - s.base) (is_due (id - s.base) among) in
        omega (arith, limit, here, id_is)

    pub none_written : now.written ≡ 0
    none_written =
        subst (λ (x : NoteState D). x.written ≡ 0) view
        (due_at_hand s due.0 due.1 sound is (is.held running) has (id - s.base)
        (is_due (id - s.base) among) here).0

    pub kept_behind : BeginsFrom now.base (id + 1) now.kept
    kept_behind =
        subst (λ (k : ℕ). BeginsFrom now.base (k + 1) now.kept) (sym id_is)
        (subst (λ (x : NoteState D). BeginsFrom x.base (s.log.id + 1) x.kept) view
        (begins_behind s due.0 due.1 is has (id - s.base) (is_due (id - s.base) among) here))
