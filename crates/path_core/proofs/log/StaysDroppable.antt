-- A droppable segment stays so in each allowed step: no entry is claimed or noted in it any more.
use Rattle.std.proofs.Common.{◌≡◌, ℕ, ◌<◌, ◌≤◌, ◌==◌, IsTrue, ap, ◌∙◌, subst, arith, ◌⊎◌}
use Rattle.std.specs.List.{Contains}
use Rattle.std.proofs.lemmas.Bool.{eq-eqb, eqb-true, and_parts}
use mathlib.Core.Logic.{inl, inr}
use Rattle.clog_base.specs.declared.position.Key.{Key}
use Rattle.op_core.specs.declared.count.Order.TheVariants.{Write, Append}
use Rattle.path_core.specs.declared.event.Carried.TheVariants.{Nothing, Deposit, Applied}
use Rattle.path_core.specs.declared.event.ClaimKind.TheVariants.{Entry}
use Rattle.path_core.specs.declared.event.Event.{Event}
use Rattle.path_core.specs.declared.event.Event.TheVariants.{Close, Claim}
use Rattle.path_core.specs.declared.state.PathState.{PathState}
use Rattle.path_core.specs.Parts.{is_entry, is_entry_in, touches}
use Rattle.path_core.specs.Allowed.{IsStep}
use Rattle.path_core.specs.Next.{next_of, claim_of}
use Rattle.path_core.specs.Lawful.{IsSized}
use Rattle.path_core.specs.LawfulOrders.{IsOrderly}
use Rattle.path_core.specs.declared.note.EntryNote.{EntryNote}
use Rattle.path_core.specs.declared.state.Claim.{Claim as ClaimOf}
use Rattle.path_core.specs.LawfulLog.{
  ClaimsTile,
  EachClaimNoted,
  entry_claim,
  OwnClaims,
  NotesAreClaims,
  LoggedAreNotes,
}
use Rattle.path_core.proofs.lists.Inserted.{insert_cases}
use Rattle.path_core.proofs.log.NextClaim.{entry_goes_on}
use Rattle.path_core.proofs.runs.Sizes.{as_many_tables}
use Rattle.path_core.specs.Droppable.{IsDroppable, is_in_file, is_of}
use Rattle.path_core.specs.Keys.{ordinal_of}
use Rattle.path_core.proofs.lists.Passing.{any_from, any_to}
use Rattle.path_core.proofs.log.KeepsNotes.{own_range, not_noted}
use Rattle.path_core.proofs.log.KeepsOwned.{claims_stay, claims_were, ClaimedNow}
use Rattle.path_core.proofs.log.LogGrows.{log_grows}
use Rattle.path_core.proofs.log.LoggedStay.{files_stay, logged_stays}

module _ (x : PathState) (sized : IsSized x) (T : ClaimsTile x) (O : IsOrderly x)
    (owned : OwnClaims x) (noted : EachClaimNoted x) (notes : NotesAreClaims x)
    (logged : LoggedAreNotes x) where
  entry_in : (o : ℕ) (c : ClaimOf) → IsTrue (is_entry_in o c)
      → IsTrue (is_entry c) × (ordinal_of c.start ≡ o)
  entry_in o c h = let r = and_parts (is_entry c) (ordinal_of c.start == o) h in
      (r.0, eqb-true (ordinal_of c.start) o r.1)

  -- no entry is claimed in a segment that is closed
  claimed_elsewhere : (by : ℕ) (from to : Key) → IsStep x (Claim by from to Entry) → (o : ℕ)
      → o < ordinal_of x.log → (c : ClaimOf) → claim_of x.capacity by from.0 to.0 Entry ≡ c
      → ordinal_of c.start ≡ o → ⊥
  claimed_elsewhere by from to a o closed c is at =
      let above = (entry_goes_on x by from to sized T a.row.3 a.row.4).above in
      let new = claim_of x.capacity by from.0 to.0 Entry in
      beyond x.log new.start o above closed (ap (λ (d : ClaimOf). ordinal_of d.start) is ∙ at)
    where
      beyond : (log start o : ℕ) → log ≤ start → o < ordinal_of log → ordinal_of start ≡ o → ⊥
      beyond log start o above closed at = absurd (omega arith)

  -- a note of a closed segment whose entries are logged was noted before
  noted_before : (by g : ℕ) (note : EntryNote) → IsStep x (Close by Append g (Deposit note))
      → (o : ℕ) → IsDroppable x o → ordinal_of note.start.0 ≡ o → ⊥
  noted_before by g note a o D at =
      let c = entry_claim note.writer.0 note.start.0 note.end.0 in
      let l = D.logged c (own_range x sized T O owned noted notes by g note a)
      (eq-eqb (ordinal_of note.start.0) o at) in
      let r = logged note.end.0 l in
      not_noted x sized T O owned noted notes by g note a r.0 r.1 r.2

  is_of_ordinal : (o t : ℕ) (n : EntryNote) → IsTrue (is_of o t n) → ordinal_of n.start.0 ≡ o
  is_of_ordinal o t n h = eqb-true (ordinal_of n.start.0) o
      (and_parts (ordinal_of n.start.0 == o) (touches n.tables t) h).0

  notes_were : (e : Event) → IsStep x e → (o : ℕ) → IsDroppable x o → (t : ℕ) (n : EntryNote)
      → IsTrue (is_of o t n) → Contains (next_of x e).notes n → Contains x.notes n
  notes_were (Close by Append g (Deposit note)) a o D t n is h = elim
      (insert_cases x.notes _ note n h) [
        | inl old ↦ old
        | inr new ↦ absurd (noted_before by g note a o D
            (ap (λ (m : EntryNote). ordinal_of m.start.0) new ∙ is_of_ordinal o t n is))
      ]
  notes_were (Close by Write g (Deposit note)) a o D t n is h = absurd a.row.1
  notes_were (Close by order g Nothing) a o D t n is h = h
  notes_were (Close by order g (Applied places)) a o D t n is h = h
  notes_were e a o D t n is h = h

  pub stays_droppable : (e : Event) → IsStep x e → (o : ℕ) → IsDroppable x o
      → IsDroppable (next_of x e) o
  stays_droppable e a o D = record {
    closed = let g = log_grows x sized T e a in let c = D.closed
        in higher x.log (next_of x e).log g c;
    has_entry = let r = any_to (is_entry_in o) x.claims D.has_entry in
        any_from (is_entry_in o) (next_of x e).claims r.0
        (claims_stay x e r.0 (entry_in o r.0 r.2).0 r.1) r.2;
    logged = λ c h entry. let i = entry_in o c entry in still_logged e a c entry
        (claims_were x e c i.0 h) i.1;
    filed = λ t n m below hn hm in_n in_m key low high.
        let r = any_to (is_in_file t key) x.files (D.filed t n m
        (subst (λ k. t < k) (as_many_tables x e) below)
        (notes_were e a o D t n in_n hn) (notes_were e a o D t m in_m hm) in_n in_m key low high) in
        any_from (is_in_file t key) (next_of x e).files r.0 (files_stay x e r.0 r.1) r.2;
  }
    where
      higher : (log after : ℕ) → log ≤ after → o < ordinal_of log → o < ordinal_of after
      higher log after g c = omega arith

      still_logged : (e : Event) → IsStep x e → (c : ClaimOf) → IsTrue (is_entry_in o c)
          → Contains x.claims c ⊎ ClaimedNow x e c
          → ordinal_of c.start ≡ o
          → Contains (next_of x e).logged c.end
      still_logged e a c entry (inl old) at = logged_stays x e c.end (D.logged c old entry)
      still_logged (Claim by from to Entry) a c entry (inr new) at =
          absurd (claimed_elsewhere by from to a o D.closed c new at)
      still_logged e a c entry (inr new) at = absurd new
