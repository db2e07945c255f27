-- Each sealed write stands apart from its seat's later ones: what the seat claimed behind the
-- synced key that it found starts where the log went on behind the marker there, or further on.
use Rattle.std.proofs.Common.{
  ◌≡◌,
  ◌⊎◌,
  ℕ,
  ◌≤◌,
  List,
  [],
  ◌∷◌,
  ◌++◌,
  map,
  refl,
  sym,
  ap,
  ◌∙◌,
  subst,
  ⊎_elim,
  arith,
}
use Rattle.std.specs.List.{Contains}
use Rattle.std.proofs.lemmas.List.{map-append}
use mathlib.Core.Logic.{inl, inr}
use Rattle.path_core.specs.declared.event.ClaimKind.TheVariants.{Entry, Marker}
use Rattle.path_core.specs.declared.event.Cursor.TheVariants.{Synced}
use Rattle.path_core.specs.declared.event.Event.{Event}
use Rattle.path_core.specs.declared.event.Event.TheVariants.{Claim}
use Rattle.path_core.specs.declared.event.Place.TheVariants.{CursorWord}
use Rattle.path_core.specs.declared.note.EntryNote.{EntryNote}
use Rattle.path_core.specs.declared.state.PathState.{PathState}
use Rattle.path_core.specs.Keys.{after}
use Rattle.path_core.specs.Lawful.{IsLawfulPath}
use Rattle.path_core.specs.LawfulLog.{entry_claim}
use Rattle.path_core.specs.Runs.{Past}
use Rattle.path_core.proofs.log.ClaimEnds.{entry_is_long}
use Rattle.path_core.proofs.runs.EveryRun.{past_lawful}
use Rattle.path_rule.specs.declared.view.OwnStep.{OwnStep}
use Rattle.path_rule.specs.Finds.{FindsBy, Finds}
use Rattle.path_rule.specs.Rule.{event_of, steps_by}
use Rattle.path_rule.specs.Trails.{ClaimsPast, AllClaimPast, IsMark, TrailTells}
use Rattle.path_rule.proofs.log.Marks.{notes_around}
use Rattle.write_path.specs.Sealed.{AreSealed, AreSealedApart, IsSealed}
use Rattle.write_path.proofs.Histories.{noted, writes_are}
use Rattle.write_path.proofs.OwnClaims.{
  ClaimTo,
  ClaimsTo,
  LastEndsThem,
  ClaimsNote,
  HasClaim,
  of_last,
  older_end,
  claims_end,
  claim_made,
  own_noted,
}

has_parts : (m : EntryNote) (ls rs : List Event) → HasClaim m (ls ++ rs)
    → HasClaim m ls ⊎ HasClaim m rs
has_parts m [] rs H = inr H
has_parts m (e ∷ ls) rs H = ⊎_elim (λ now. inl (inl now))
    (λ old. ⊎_elim (λ l. inl (inr l)) (λ r. inr r) (has_parts m ls rs old)) H

claim_ends : (m : EntryNote) (key : ℕ) (es : List Event) → HasClaim m es → ClaimsTo key es
    → m.end.0 ≤ key
claim_ends m key [] H A = absurd H
claim_ends m key (e ∷ es) H A = ⊎_elim (λ now. one e now A.0)
    (λ old. claim_ends m key es old A.1) H
  where
    one : (e : Event) → ClaimsNote m e → ClaimTo key e → m.end.0 ≤ key
    one (Claim by from to Entry) C l = let is = C.1 in omega arith
    one (Claim by from to Marker) C l = absurd C
    one e C l = absurd C

-- no claim finds a synced key
claims_or_finds : (m : EntryNote) (key found : ℕ) (e : Event) → ClaimsNote m e
    → FindsBy (CursorWord Synced) key e found → ⊥
claims_or_finds m key found (Claim by from to what) C F = F
claims_or_finds m key found e C F = C

pub key_found : (key : ℕ) (newer : List OwnStep) (t : OwnStep) (older : List OwnStep)
    → FindsBy (CursorWord Synced) key t.event t.found
    → Finds (CursorWord Synced) key (newer ++ t ∷ older)
key_found key [] t older F = inl F
key_found key (u ∷ newer) t older F = inr (key_found key newer t older F)

-- a claim behind the step that found a synced key starts where the log goes on behind it
starts_past : (m : EntryNote) (capacity key : ℕ) (newer : List OwnStep) (t : OwnStep)
    (older : List OwnStep) → FindsBy (CursorWord Synced) key t.event t.found
    → AllClaimPast capacity (newer ++ t ∷ older) → HasClaim m (map event_of newer)
    → after capacity key ≤ m.start.0
starts_past m capacity key [] t older F A H = absurd H
starts_past m capacity key (u ∷ newer) t older F A H = ⊎_elim
    (λ now. one u.event A.0 now)
    (λ old. starts_past m capacity key newer t older F A.1 old) H
  where
    one : (e : Event) → ClaimsPast capacity e (newer ++ t ∷ older) → ClaimsNote m e
        → after capacity key ≤ m.start.0
    one (Claim by from to Entry) P C = let up = P key (key_found key newer t older F) in
        let low = C.0 in omega arith
    one (Claim by from to Marker) P C = absurd C
    one e P C = absurd C

module _ (capacity w : ℕ) (start x : PathState) (es : List Event) (ts : List OwnStep)
    (law : IsLawfulPath start) (bare : start.claims ≡ []) (past : Past start es x)
    (fit : x.capacity ≡ capacity) (own : map event_of ts ≡ steps_by w es)
    (T : TrailTells capacity x ts) where
  pub L : IsLawfulPath x
  L = past_lawful es start x law past

  -- the mark behind a sealed write
  pub mark_of : (n : EntryNote) (S : IsSealed n ts) → IsMark x S.0
  mark_of n S = let F = S.2 in T.synced S.0 (subst (Finds (CursorWord Synced) S.0) (sym F.cut)
      (key_found S.0 F.later F.step F.before F.found))

  abbrev pub behind_sealed : AreSealed capacity x.notes x.synced ts
  behind_sealed n S = record {
    key = S.0;
    behind = S.1;
    lasting = (mark_of n S).lasting;
    bare = λ k h. subst (λ c. (k.end.0 ≤ S.0) ⊎ (after c S.0 ≤ k.start.0)) fit
        (notes_around x L S.0 (mark_of n S) k h);
  }

  pub sealed_apart : AreSealedApart capacity x.notes x.synced ts
  sealed_apart n m S among behind =
      let key = S.0 in let F = S.2 in
      let events : map event_of ts ≡ map event_of F.later ++ F.step.event ∷ map event_of F.before =
      ap (map event_of) F.cut ∙ map-append event_of F.later (F.step ∷ F.before) in
      let noted_own = own_noted m w es start x past (subst (λ l. Contains l m)
      (writes_are ts ∙ ap noted own) among) in
      let claim = (L.notes_are_claims.each m noted_own.0).claim in
      let made : HasClaim m (map event_of F.later ++ F.step.event ∷ map event_of F.before) =
      subst (HasClaim m) (sym own ∙ events) (subst (λ z. HasClaim m (steps_by z es)) noted_own.1
      (claim_made m es start x bare past claim)) in
      let ends = (claims_end w es start x law past).lasts in
      let low = of_last (map event_of F.before) (older_end (F.step.event ∷ [])
      (map event_of F.before) (older_end (map event_of F.later)
      (F.step.event ∷ map event_of F.before) (subst LastEndsThem (sym own ∙ events) ends)))
      n F.last in
      let long = entry_is_long x.capacity x.ordinals x.log x.claims L.claims_tile_the_log
      (entry_claim m.writer.0 m.start.0 m.end.0) claim refl in record {
        mark = behind_sealed n S;
        before = ⊎_elim
            (λ newer. starts_past m capacity key F.later F.step F.before F.found
            (subst (AllClaimPast capacity) F.cut T.past) newer)
            (λ older. ⊎_elim
            (λ now. absurd (claims_or_finds m key F.step.found F.step.event now F.found))
            (λ old. absurd (let e = claim_ends m n.end.0 (map event_of F.before) old low in
            omega arith)) older)
            (has_parts m (map event_of F.later) (F.step.event ∷ map event_of F.before) made);
      }
