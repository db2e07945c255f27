-- Where there is no table file no segment has gone.
use Rattle.std.proofs.Common.{
  ◌≡◌,
  ℕ,
  ◌≤◌,
  ◌==◌,
  List,
  [],
  ◌∷◌,
  length,
  refl,
  sym,
  ap,
  ◌∙◌,
  subst,
  arith,
}
use Rattle.std.specs.List.{Contains, filter}
use Rattle.std.proofs.lemmas.Bool.{and_parts, eqb-true}
use mathlib.Core.Logic.{inl, inr}
use Rattle.clog_base.proofs.Members.{from_map, here}
use Rattle.clog_mutation.specs.declared.mutation.Update.{Update}
use Rattle.path_core.specs.declared.note.EntryNote.{EntryNote}
use Rattle.path_core.specs.declared.state.Claim.{Claim}
use Rattle.path_core.specs.declared.state.PathState.{PathState}
use Rattle.path_core.specs.declared.state.WrittenFile.{WrittenFile}
use Rattle.path_core.specs.Droppable.{IsDroppable}
use Rattle.path_core.specs.Keys.{ordinal_of}
use Rattle.path_core.specs.Lawful.{IsLawfulPath}
use Rattle.path_core.specs.LawfulLog.{entry_claim, is_at_most}
use Rattle.path_core.specs.Parts.{is_entry, is_entry_in}
use Rattle.path_core.proofs.files.DroppedInFiles.{is_in_file_of}
use Rattle.path_core.proofs.lists.Passing.{any_to, filter_from}
use Rattle.path_core.proofs.log.ClaimEnds.{entry_is_long, one_or_apart}

module _ (x : PathState) (L : IsLawfulPath x) (unfiled : x.files ≡ []) where
  no_file : (f : WrittenFile) → Contains x.files f → ⊥
  no_file f h = none_in (subst (λ (l : List WrittenFile). Contains l f) unfiled h)
    where
      none_in : Contains [] f → ⊥
      none_in q = absurd (omega (arith, q.0))

  -- a segment that may go has an entry that is a note
  note_of : (o : ℕ) → IsDroppable x o
      → (n : EntryNote) × Contains x.notes n × (ordinal_of n.start.0 ≡ o)
  note_of o D =
      let c = any_to (is_entry_in o) x.claims D.has_entry in
      let parts = and_parts (is_entry c.0) (ordinal_of c.0.start == o) c.2 in
      let logged = subst (λ (l : List ℕ). Contains l c.0.end) L.logged_is_the_synced_part.logged
      (D.logged c.0 c.1 c.2) in
      let found = from_map (λ (n : EntryNote). n.end.0) (filter (is_at_most x.synced) x.notes)
      c.0.end logged in
      let n = found.0 in
      let among = (filter_from (is_at_most x.synced) x.notes n found.1).0 in
      let T = L.claims_tile_the_log in
      let own = (L.notes_are_claims.each n among).claim in
      let d = entry_claim n.writer.0 n.start.0 n.end.0 in
      let long = entry_is_long x.capacity x.ordinals x.log x.claims T d own refl in
      let wide = entry_is_long x.capacity x.ordinals x.log x.claims T c.0 c.1 parts.0 in
      let ends = found.2 in
      let starts : n.start.0 ≡ c.0.start = elim (one_or_apart x.capacity x.ordinals x.log x.claims
      T c.0 d c.1 own) [
        | inl same ↦ sym (ap (λ (e : Claim). e.start) same)
        | inr apart ↦ elim apart [
          | inl low ↦ absurd (omega (arith, low, long, ends))
          | inr high ↦ absurd (omega (arith, high, wide, ends))
        ]
      ] in (
        n,
        among,
        ap ordinal_of starts ∙ eqb-true (ordinal_of c.0.start) o parts.1,
      )

  not_dropped : (o : ℕ) → Contains x.dropped o → ⊥
  not_dropped o h =
      let D = L.dropped_was_droppable.droppable o h in
      let n = note_of o D in
      let whole = (L.notes_are_claims.each n.0 n.1).whole in
      let u = first_of whole.mutation.updates whole.limits.some in
      let t = u.0.table.0 in
      let touched = (whole.tables t).1 (record { update = u.0; among = u.1; table = refl }) in
      let held = is_in_file_of x L o D n.0 t n.1 n.2 touched in
      no_file held.file held.among
    where
      first_of : (us : List Update) → 1 ≤ length us → (u : Update) × Contains us u
      first_of [] some = absurd (omega (arith, some))
      first_of (u ∷ us) some = (u, here u us)

  pub none_dropped : x.dropped ≡ []
  none_dropped = by x.dropped not_dropped
    where
      by : (l : List ℕ) → ((o : ℕ) → Contains l o → ⊥) → l ≡ []
      by [] none = refl
      by (o ∷ os) none = absurd (none o (here o os))
