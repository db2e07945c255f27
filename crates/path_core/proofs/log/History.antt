-- The notes are a history: in the order of the log, each in one segment, and apart.
use Rattle.std.proofs.Common.{◌≡◌, ◌+◌, ◌-◌, ◌≤◌, refl, sym, ◌∙◌, subst, arith, IsTrue}
use Rattle.std.specs.List.{Contains}
use Rattle.std.proofs.lemmas.List.{get_or_default}
use Rattle.path_core.specs.declared.note.EntryNote.{EntryNote}
use Rattle.path_core.specs.declared.state.Claim.{Claim}
use Rattle.path_core.specs.declared.state.PathState.{PathState}
use Rattle.path_core.specs.Keys.{offset_of, first_offset}
use Rattle.path_core.specs.Parts.{no_claim, is_entry}
use Rattle.path_core.specs.History.{IsInSegment, IsHistory}
use Rattle.path_core.specs.LawfulLog.{ClaimsTile, NotesAreClaims, claim_in, entry_claim}

module _ (x : PathState) (T : ClaimsTile x) (N : NotesAreClaims x) where
  -- a note lies in one segment, as its claim does
  in_segment : (n : EntryNote) → Contains x.notes n → IsInSegment x.capacity n
  in_segment n h =
      let I = N.each n h in
      let c = I.claim in
      let read : claim_in x.claims c.0 ≡ entry_claim n.writer.0 n.start.0 n.end.0
      = get_or_default x.claims c.0 no_claim _ c.1 ∙ c.2 in
      let range = subst (λ (d : Claim). (first_offset ≤ offset_of d.start)
      × (offset_of d.start + (d.end - d.start) ≤ x.capacity)) read
      (T.inside c.0 c.1 (subst (λ d. IsTrue (is_entry d)) (sym read) refl)) in
      let long = I.whole.long in
      record { behind_front = range.0; inside = let r = range.1 in omega arith; long = long }

  -- so the notes are a history
  pub is_history : IsHistory x.capacity x.notes
  is_history = record { each = in_segment; apart = N.in_order }
