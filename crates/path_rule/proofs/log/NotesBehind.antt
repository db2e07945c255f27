-- Where a note stands beside the synced key: it ends at or below it, or starts where the log goes
-- on behind it, or further on.
use Rattle.std.proofs.Common.{
  ◌≡◌,
  ℕ,
  ◌+◌,
  ◌-◌,
  ◌<◌,
  ◌≤◌,
  Bool,
  true,
  false,
  cond,
  not,
  refl,
  sym,
  ap,
  ◌∙◌,
  subst,
  ⊎_elim,
  arith,
}
use Rattle.std.specs.Prelude.{◌⊎◌}
use Rattle.std.specs.List.{Contains}
use Rattle.std.proofs.lemmas.Bool.{ltb-false}
use mathlib.Core.Logic.{dite, inl, inr}
use native.Mathlib.Decide.{ℕ_discrete, dec_lt}
use Rattle.path_core.specs.declared.event.ClaimKind.{ClaimKind}
use Rattle.path_core.specs.declared.event.ClaimKind.TheVariants.{Entry, Marker}
use Rattle.path_core.specs.declared.note.EntryNote.{EntryNote}
use Rattle.path_core.specs.declared.state.Claim.{Claim}
use Rattle.path_core.specs.declared.state.PathState.{PathState}
use Rattle.path_core.specs.Keys.{
  after,
  behind_marker,
  first_offset,
  fits,
  marker_end,
  marker_size,
  next_segment,
  offset_of,
}
use Rattle.path_core.specs.Lawful.{IsLawfulPath}
use Rattle.path_core.specs.LawfulLog.{claim_in}
use Rattle.path_core.specs.Parts.{is_marker, is_marker_kind}
use Rattle.path_core.proofs.lent.Beginnings.{is_marked, note_at}
use Rattle.path_core.proofs.lent.Numbers.{IsEntryAt, not_both, stands_entry, stands_marker}
use Rattle.path_core.proofs.log.ClaimEnds.{read_claim}
use Rattle.path_rule.proofs.log.Behind.{above_after, behind_is}

-- An entry behind a marker, at its end or further on, is behind where the log goes on.
behind_end : (capacity key start size : ℕ) → 30 ≤ size → first_offset ≤ offset_of start
    → offset_of start + size ≤ capacity → marker_end capacity key ≤ start
    → behind_marker capacity key ≤ start
behind_end capacity key start size least front inside above =
    by (fits capacity key marker_size) refl above
  where
    by : (b : Bool) → fits capacity key marker_size ≡ b
        → cond b (key + marker_size) key ≤ start
        → cond b (key + marker_size) (next_segment key) ≤ start
    by true f low = low
    by false f low = let no_room = ltb-false (offset_of key + marker_size) capacity f in
        omega arith

module _ (x : PathState) (L : IsLawfulPath x) (n : EntryNote) (among : Contains x.notes n) where
  at : (k : ℕ) × IsEntryAt x.claims n k
  at = note_at x L n among

  -- it is behind the front of a segment, and in one
  stands : (30 ≤ n.end.0 - n.start.0) × (first_offset ≤ offset_of n.start.0)
      × (offset_of n.start.0 + (n.end.0 - n.start.0) ≤ x.capacity)
  stands = let T = L.claims_tile_the_log in let E = at.1 in
      let S = stands_entry x.capacity x.ordinals x.log x.claims T at.0 E.inside E.what in
      let I = T.inside at.0 E.inside (ap (λ (k : ClaimKind). not (is_marker_kind k)) E.what) in
      let start = E.start in let end = E.end in let least = S.least in (
        subst (λ (q : ℕ × ℕ). 30 ≤ q.1 - q.0) (λ i. (start i, end i)) least,
        subst (λ (k : ℕ). first_offset ≤ offset_of k) start I.0,
        subst (λ (q : ℕ × ℕ). offset_of q.0 + (q.1 - q.0) ≤ x.capacity) (λ i. (start i, end i))
            I.1,
      )

  pub up_to_or_behind : (n.end.0 ≤ x.synced) ⊎ (after x.capacity x.synced ≤ n.start.0)
  up_to_or_behind = dite (ℕ_discrete x.synced 0)
      (λ none. inr (subst (λ (k : ℕ). after x.capacity k ≤ n.start.0) (sym none)
      (let f = stands.1 in omega arith)))
      (λ some. let M = L.synced_below_the_log.marker (omega arith) in
      let T = L.claims_tile_the_log in let E = at.1 in
      let read = read_claim x.capacity x.ordinals x.log x.claims T M.0 M.1 in
      let start : (claim_in x.claims M.1.0).start ≡ x.synced =
      ap (λ (c : Claim). c.start) read ∙ M.3 in
      let what : (claim_in x.claims M.1.0).what ≡ Marker = is_marked _
      (ap (λ (c : Claim). is_marker c) read ∙ M.2) in
      let S = stands_marker x.capacity x.ordinals x.log x.claims T M.1.0 M.1.1 what in
      dite (ℕ_discrete at.0 M.1.0)
      (λ same. absurd (not_both x.capacity x.ordinals x.log x.claims T M.1.0
      (subst (λ (k : ℕ). (claim_in x.claims k).what ≡ Entry) same E.what) what))
      (λ apart. dite (dec_lt at.0 M.1.0)
      (λ low. inl (let t = T.apart at.0 M.1.0 low M.1.1 in let e = E.end in omega arith))
      (λ high. inr (let t = T.apart M.1.0 at.0 (omega arith) E.inside in let s = E.start in
      let ends : (claim_in x.claims M.1.0).end ≡ marker_end x.capacity x.synced =
      S.ends ∙ ap (marker_end x.capacity) (sym S.starts ∙ start) in
      subst (λ (k : ℕ). k ≤ n.start.0) (sym (behind_is x.capacity x.synced (omega arith)))
      (behind_end x.capacity x.synced n.start.0 (n.end.0 - n.start.0) stands.0 stands.1 stands.2
      (omega arith))))))

  -- one that ends above the synced key starts at or above it
  pub starts_above : x.synced < n.end.0 → x.synced ≤ n.start.0
  starts_above above = ⊎_elim (λ low. absurd (omega arith))
      (λ behind. let up = above_after x.capacity x.synced in omega arith) up_to_or_behind

  -- and one that ends where the log goes on behind it, or below, ends at or below it
  pub ends_below : n.end.0 ≤ after x.capacity x.synced → n.end.0 ≤ x.synced
  ends_below low = ⊎_elim (λ l. l)
      (λ behind. absurd (let s = stands.0 in omega arith)) up_to_or_behind
