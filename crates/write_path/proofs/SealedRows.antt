-- The worked rows of sealed writes.
use Rattle.std.proofs.Common.{
  ◌≡◌,
  ℕ,
  ◌≤◌,
  List,
  [],
  ◌∷◌,
  ◌++◌,
  map,
  length,
  get_or,
  drop,
  refl,
  sym,
  ap,
  subst,
  arith,
}
use Rattle.std.proofs.lemmas.List.{length-append}
use Rattle.path_core.specs.declared.event.Cursor.TheVariants.{Synced}
use Rattle.path_core.specs.declared.event.Place.TheVariants.{CursorWord}
use Rattle.path_core.specs.declared.note.EntryNote.{EntryNote}
use Rattle.path_rule.specs.declared.view.OwnStep.{OwnStep}
use Rattle.path_rule.specs.Finds.{FindsBy}
use Rattle.path_rule.specs.Rule.{event_of}
use Rattle.write_path.specs.Ends.{IsLast}
use Rattle.write_path.specs.Sealed.{IsSealed}
use Rattle.write_path.specs.SealedRows.{logged, found_synced, behind_it, before_it, behind_a_claim}

pub seals_it : (n : EntryNote) (key : ℕ) → n.end.0 ≤ key → IsSealed n (behind_it n key)
seals_it n key reached = (
  key,
  reached,
  record {
    later = [];
    step = found_synced key;
    before = logged n ∷ [];
    cut = refl;
    last = refl;
    found = (refl, refl);
  },
)

-- a cut lies within the trail
too_long : (few : ℕ) (trail newer older : List OwnStep) (t : OwnStep) → length trail ≤ few
    → few ≤ length newer → trail ≡ newer ++ t ∷ older → ⊥
too_long few trail newer older t short long cut =
    let a = ap (λ (l : List OwnStep). length l) cut in let b = length-append newer (t ∷ older) in
    omega arith

-- where a trail is cut at its first, second or third step, that one found the key
abbrev At : ℕ → EntryNote → List OwnStep → ℕ → Type 0
At i n trail key = let t = get_or trail i (logged n) in
    FindsBy (CursorWord Synced) key t.event t.found

before_is_open : (n : EntryNote) (s key : ℕ) (newer older : List OwnStep) (t : OwnStep)
    → before_it n s ≡ newer ++ t ∷ older → IsLast n (map event_of older)
    → FindsBy (CursorWord Synced) key t.event t.found → ⊥
before_is_open n s key [] older t cut last found =
    subst (λ (l : List OwnStep). At 0 n l key) (sym cut) found
before_is_open n s key (a ∷ []) older t cut last found =
    subst (λ (l : List OwnStep). IsLast n (map event_of (drop 2 l))) (sym cut) last
before_is_open n s key (a ∷ b ∷ newer) older t cut last found =
    too_long 2 (before_it n s) (a ∷ b ∷ newer) older t (omega arith) (omega arith) cut

claim_is_open : (n : EntryNote) (from to s key : ℕ) (newer older : List OwnStep) (t : OwnStep)
    → behind_a_claim n from to s ≡ newer ++ t ∷ older → IsLast n (map event_of older)
    → FindsBy (CursorWord Synced) key t.event t.found → ⊥
claim_is_open n from to s key [] older t cut last found =
    subst (λ (l : List OwnStep). IsLast n (map event_of (drop 1 l))) (sym cut) last
claim_is_open n from to s key (a ∷ []) older t cut last found =
    subst (λ (l : List OwnStep). At 1 n l key) (sym cut) found
claim_is_open n from to s key (a ∷ b ∷ []) older t cut last found =
    subst (λ (l : List OwnStep). At 2 n l key) (sym cut) found
claim_is_open n from to s key (a ∷ b ∷ c ∷ newer) older t cut last found =
    too_long 3 (behind_a_claim n from to s) (a ∷ b ∷ c ∷ newer) older t (omega arith) (omega arith)
    cut

pub not_before : (n : EntryNote) (key : ℕ) → ¬ IsSealed n (before_it n key)
not_before n key S = before_is_open n key S.0 S.2.later S.2.before S.2.step S.2.cut S.2.last
    S.2.found

pub not_behind_a_claim : (n : EntryNote) (from to key : ℕ)
    → ¬ IsSealed n (behind_a_claim n from to key)
not_behind_a_claim n from to key S = claim_is_open n from to key S.0 S.2.later S.2.before S.2.step
    S.2.cut S.2.last S.2.found
