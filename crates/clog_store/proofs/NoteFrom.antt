-- No segment of a log of notes stands below its base.
use Rattle.std.proofs.Common.{
  ◌≡◌,
  ℕ,
  inl,
  inr,
  List,
  [],
  ◌∷◌,
  ◌++◌,
  Option,
  ◌∙◌,
  ap,
  subst,
  arith,
  append_assoc,
}
use Rattle.std.specs.Prelude.{Contains}
use Rattle.std.proofs.lemmas.List.Elements.{
  Contains-append_cases,
  Contains-append_left,
  Contains-push,
}
use Rattle.clog_disk.specs.Files.{Files}
use Rattle.clog_crash.specs.Log.{Write}
use Rattle.clog_segments.specs.Grows.{segments_with}
use Rattle.clog_segments.specs.Life.{State}
use Rattle.clog_segments.specs.NoteLog.{IsFrom, LeavesOthers}

module _ {D : Type 0} (base : ℕ) (before now : State D) where
  -- nothing of the segments has changed
  pub from_same : now ≡ record before { disk = now.disk; is_stopped = now.is_stopped }
      → IsFrom base before → IsFrom base now
  from_same same from w among =
      from w (subst (λ (x : State D). Contains (segments_with x.past x.id x.sections) w) same among)

  -- a sync, or a further segment
  pub from_on : (told told_now : Option Files) → LeavesOthers before now told told_now
      → IsFrom base before → IsFrom base now
  from_on told told_now leaves from w among =
      let hand : List Write = record { id = now.id; sections = now.sections } ∷ [] in
      let parts : segments_with now.past now.id now.sections
      ≡ before.past ++ segments_with leaves.more now.id now.sections =
      ap (λ (l : List Write). l ++ hand) leaves.past
      ∙ append_assoc before.past leaves.more hand in
      elim (Contains-append_cases before.past (segments_with leaves.more now.id now.sections) w
      (subst (λ (l : List Write). Contains l w) parts among)) [
        | inl old ↦
            from w (Contains-append_left before.past
            (record { id = before.id; sections = before.sections } ∷ []) w old)
        | inr new ↦
            let low = leaves.later w new in
            let least = from (record { id = before.id; sections = before.sections })
            (Contains-push before.past (record { id = before.id; sections = before.sections })) in
            omega (arith, low, least)
      ]
