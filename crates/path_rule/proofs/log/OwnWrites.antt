-- Where the notes end that a seat deposited: each is a note of the state, so all end at or below
-- the log key; and where no entry was claimed since the last marker, at or below where that one
-- starts.
use Rattle.std.proofs.Common.{
  ◌≡◌,
  ◌≢◌,
  ℕ,
  ◌-◌,
  ◌≤◌,
  ◌==◌,
  cond,
  not,
  Bool,
  true,
  false,
  List,
  [],
  ◌∷◌,
  map,
  length,
  Option,
  Some,
  None,
  refl,
  sym,
  ap,
  ◌∙◌,
  subst,
  arith,
}
use Rattle.std.specs.List.{Contains}
use Rattle.std.specs.Option.{option_map, option_map_or}
use Rattle.std.proofs.lemmas.Bool.{false≢true}
use Rattle.std.proofs.lemmas.List.Elements.{Contains-get_or}
use Rattle.std.proofs.lemmas.Option.{none-some, same_Some}
use mathlib.Core.Logic.{dite}
use native.Mathlib.Decide.{dec_le}
use Rattle.path_core.specs.declared.event.Carried.TheVariants.{Nothing, Deposit, Applied}
use Rattle.path_core.specs.declared.event.Event.{Event}
use Rattle.path_core.specs.declared.event.Event.TheVariants.{
  Look,
  Register,
  Close,
  OpenGroup,
  MoveCurrent,
  Expire,
  Advance,
  Claim,
  Switch,
  Raise,
  Finalise,
  TakeTurn,
  GiveTurn,
  Put,
}
use Rattle.path_core.specs.declared.note.EntryNote.{EntryNote}
use Rattle.path_core.specs.declared.seat.LastMarker.{LastMarker}
use Rattle.path_core.specs.declared.state.Claim.{Claim as ClaimOf}
use Rattle.path_core.specs.declared.state.PathState.{PathState}
use Rattle.path_core.specs.Allowed.{is_entry_last}
use Rattle.path_core.specs.Holders.{behind_last}
use Rattle.path_core.specs.Keys.{behind_marker, first_offset}
use Rattle.path_core.specs.Lawful.{IsLawfulPath}
use Rattle.path_core.specs.LawfulLog.{claim_in}
use Rattle.path_core.specs.Next.{next_of}
use Rattle.path_core.specs.Parts.{
  no_claim,
  is_marker,
  is_marker_kind,
  kept_of,
  last_marker,
  last_kept,
}
use Rattle.path_core.specs.Runs.{Past}
use Rattle.path_core.specs.Words.{by_of}
use Rattle.path_core.proofs.lent.Beginnings.{note_at, entries_long}
use Rattle.path_core.proofs.lists.Inserted.{insert_new}
use Rattle.path_core.proofs.log.EntrySinceMarker.{entry_since_marker, at_last}
use Rattle.path_core.proofs.log.OwnNotes.{notes_stay}
use Rattle.path_rule.specs.declared.view.OwnStep.{OwnStep}
use Rattle.path_rule.specs.declared.view.View.{View}
use Rattle.path_rule.specs.Rounds.{EndsBelow, WroteBelow}
use Rattle.path_rule.specs.Rule.{Was, start_of, event_of, steps_by}

-- each note of a list ends at or below a key
abbrev NotesBelow : ℕ → List EntryNote → Type 0
NotesBelow key notes = (n : EntryNote) → Contains notes n → n.end.0 ≤ key

-- each of these events that is a deposit carries a note that does
abbrev AllBelow : ℕ → List Event → Type 0
AllBelow key [] = Unit {0}
AllBelow key (e ∷ es) = EndsBelow key e × AllBelow key es

-- a deposit's note is among the notes then
put_below : (x : PathState) (e : Event) (key : ℕ) → NotesBelow key (next_of x e).notes
    → EndsBelow key e
put_below x (Close by o g (Deposit note)) key B = B note (insert_new x.notes _ note)
put_below x (Close by o g Nothing) key B = tt
put_below x (Close by o g (Applied places)) key B = tt
put_below x (Look by at) key B = tt
put_below x (Register by o g) key B = tt
put_below x (OpenGroup by o g) key B = tt
put_below x (MoveCurrent by o g) key B = tt
put_below x (Expire by o g) key B = tt
put_below x (Advance by o g) key B = tt
put_below x (Claim by from to what) key B = tt
put_below x (Switch by t m part) key B = tt
put_below x (Raise by t m to) key B = tt
put_below x (Finalise by t m) key B = tt
put_below x (TakeTurn by turn) key B = tt
put_below x (GiveTurn by turn) key B = tt
put_below x (Put by cursor value) key B = tt

all_below : (start : PathState) (es : List Event) (x : PathState) (key : ℕ) → Past start es x
    → NotesBelow key x.notes → AllBelow key es
all_below start [] x key past B = tt
all_below start (e ∷ es) x key past B =
    let then : NotesBelow key (next_of past.0 e).notes =
    subst (λ (y : PathState). NotesBelow key y.notes) (sym past.4) B in (
      put_below past.0 e key then,
      all_below start es past.0 key past.1 (λ n h. then n (notes_stay past.0 e n h)),
    )

own_below : (w key : ℕ) (es : List Event) → AllBelow key es → AllBelow key (steps_by w es)
own_below w key [] A = tt
own_below w key (e ∷ es) A = choose (by_of e == w) (own_below w key es A.1)
  where
    choose : (b : Bool) → AllBelow key (steps_by w es)
        → AllBelow key (cond b (e ∷ steps_by w es) (steps_by w es))
    choose true rest = (A.0, rest)
    choose false rest = rest

told_below : (key : ℕ) (ts : List OwnStep) → AllBelow key (map event_of ts) → WroteBelow key ts
told_below key [] A = tt
told_below key (t ∷ ts) A = (A.0, told_below key ts A.1)

-- So all that a seat wrote ends at or below a key where all notes of a state of its do.
pub wrote_below : (v : View) (w : ℕ) (e : Event) (was : Was v w e) (key : ℕ)
    → ((n : EntryNote) → Contains was.core.notes n → n.end.0 ≤ key) → WroteBelow key v.trail
wrote_below v w e was key B = told_below key v.trail (subst (λ es. AllBelow key es) (sym was.mine)
    (own_below w key was.events (all_below (start_of v.size) was.events was.core key was.run B)))

module _ (x : PathState) (L : IsLawfulPath x) where
  pub below_log : (n : EntryNote) → Contains x.notes n → n.end.0 ≤ x.log
  below_log n h = let K = note_at x L n h in
      subst (λ k. k ≤ x.log) K.1.end (L.claims_tile_the_log.below_log K.0 K.1.inside)

  -- before an entry was claimed there is no note
  none_at_first : x.log ≤ first_offset → (n : EntryNote) → Contains x.notes n → ⊥
  none_at_first low n h = let K = note_at x L n h in
      let T = L.claims_tile_the_log in
      let entry = ap (λ k. not (is_marker_kind k)) K.1.what in
      let inside = (T.inside K.0 K.1.inside entry).0 in
      let long = entries_long x L K.0 K.1.inside K.1.what in
      let below = T.below_log K.0 K.1.inside in
      omega arith

  last_marks : is_entry_last x ≡ false → is_marker (claim_in x.claims (length x.claims - 1)) ≡ true
  last_marks e = by (is_marker (claim_in x.claims (length x.claims - 1))) e
    where
      by : (b : Bool) → not b ≡ false → b ≡ true
      by true e = refl
      by false e = absurd (false≢true (sym e))

  -- behind the last marker stands no entry, so all notes end at or below where it starts
  under_marker : (c : ClaimOf) → last_marker x ≡ Some c → is_entry_last x ≡ false
      → (n : EntryNote) → Contains x.notes n → n.end.0 ≤ c.start
  under_marker c h e n among =
      let K = note_at x L n among in let T = L.claims_tile_the_log in let l = K.1.inside in
      let last = length x.claims - 1 in let d = claim_in x.claims last in
      let marks = last_marks e in
      let other : K.0 ≢ last = λ same. false≢true (sym (ap is_marker_kind K.1.what)
      ∙ (ap (λ i. is_marker (claim_in x.claims i)) same ∙ marks)) in
      let apart = T.apart K.0 last (omega arith) (omega arith) in
      let ends = K.1.end in
      dite (dec_le c.start d.start)
      (λ above. let one = ap (λ (k : ClaimOf). k.start) (at_last x L c d h
      (Contains-get_or x.claims last no_claim (omega arith)) marks above) in omega arith)
      (λ below. omega arith)

  pub below_marker : (kept : Option LastMarker) → kept ≡ last_kept x.claims
      → x.log ≤ behind_last x.capacity kept → (n : EntryNote) → Contains x.notes n
      → n.end.0 ≤ option_map_or (λ (k : LastMarker). k.start) kept 0
  below_marker kept is low n h = by (last_marker x) refl kept is low
    where
      by : (o : Option ClaimOf) → last_marker x ≡ o → (kept : Option LastMarker)
          → kept ≡ option_map kept_of o → x.log ≤ behind_last x.capacity kept
          → n.end.0 ≤ option_map_or (λ (k : LastMarker). k.start) kept 0
      by None e None is low = absurd (none_at_first low n h)
      by None e (Some k) is low = absurd (none-some k (sym is))
      by (Some c) e None is low = absurd (none-some (kept_of c) is)
      by (Some c) e (Some k) is low =
          let starts : k.start ≡ c.start = ap (λ (m : LastMarker). m.start)
          (same_Some k (kept_of c) is) in
          subst (λ s. n.end.0 ≤ s) (sym starts) (under_marker c e (last (is_entry_last x) refl) n h)
        where
          last : (b : Bool) → is_entry_last x ≡ b → is_entry_last x ≡ false
          last true q = absurd (let above = (entry_since_marker x L c e).0 q in
              let starts = ap (λ s. behind_marker x.capacity s) (ap (λ (m : LastMarker). m.start)
              (same_Some k (kept_of c) is)) in omega arith)
          last false q = q
