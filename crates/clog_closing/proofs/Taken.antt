-- What a disk has taken of a log of notes, also where it has failed meanwhile: what is logged, and
-- the first of what is kept.
use Rattle.std.proofs.Common.{
  ◌≡◌,
  ℕ,
  ◌-◌,
  ◌+◌,
  ◌≤◌,
  inl,
  inr,
  List,
  [],
  ◌∷◌,
  ◌++◌,
  length,
  take,
  sym,
  ◌∙◌,
  ap,
  subst,
  arith,
  append_assoc,
  append-nil,
}
use Rattle.std.specs.Prelude.{drop}
use Rattle.std.specs.List.{AllPairs, flat_map}
use Rattle.std.proofs.lemmas.List.{
  length-append,
  length-map,
  nil_from_length,
  take-append-drop,
  take-append-le,
  take-map,
}
use Rattle.std.proofs.lemmas.List.Elements.{Contains-append_left}
use Rattle.std.proofs.Math.Seq.{take-append-add, take-append_seam}
use Rattle.clog_spec.specs.Sizes.{header_size}
use Rattle.clog_scan.specs.Cut.{Section, last_until}
use Rattle.clog_scan.specs.Segment.{entries_of}
use Rattle.clog_scan.proofs.Appended.{entries_of-append}
use Rattle.clog_crash.specs.Log.{Write}
use Rattle.clog_crash.specs.Runs.{Placed, placed, placed_log, placed_of}
use Rattle.clog_crash.proofs.life.Runs.{placed-append}
use Rattle.path_core.specs.declared.note.EntryNote.{EntryNote}
use Rattle.path_core.specs.History.{IsHistory}
use Rattle.path_core.proofs.lists.Heads.{ahead, behind}
use Rattle.clog_segments.specs.Grows.{AreBrought}
use Rattle.clog_segments.specs.NoteLog.{NoteState, Stands}
use Rattle.clog_segments.specs.Notes.{place_of, places_of}
use Rattle.clog_layout.proofs.Pairs.{pairs_cons, pairs_none}

-- ---- the first of a history

pairs_front : {A : Type 0} (R : A → A → Type 0) (xs ys : List A) → AllPairs R (xs ++ ys)
    → AllPairs R xs
pairs_front R [] ys all = pairs_none R
pairs_front R (x ∷ xs) ys all =
    pairs_cons R x xs
    (λ y h. ahead R x (xs ++ ys) all y (Contains-append_left xs ys y h))
    (pairs_front R xs ys (behind R x (xs ++ ys) all))

pub first_history : (capacity : ℕ) (first more : List EntryNote)
    → IsHistory capacity (first ++ more) → IsHistory capacity first
first_history capacity first more is = record {
  each = λ n h. is.each n (Contains-append_left first more n h);
  apart = pairs_front (λ (a b : EntryNote). a.end.0 ≤ b.start.0) first more is.apart;
}

-- ---- sections that hold more

placed_more : (past : List Write) (id : ℕ) (sections more : List Section)
    → placed_log past id (sections ++ more)
    ≡ placed_log past id sections ++ placed id (entries_of (last_until header_size sections) more)
placed_more past id sections more =
    let before = flat_map placed_of past in
    let old = entries_of header_size sections in
    let new = entries_of (last_until header_size sections) more in
    ap (λ l. before ++ placed id l) (entries_of-append header_size sections more)
    ∙ ap (λ (l : List Placed). before ++ l) (placed-append id old new)
    ∙ sym (append_assoc before (placed id old) (placed id new))

-- ---- the first of some notes, by their places

-- These are the places of what is logged and of the first of what is kept.
pub record IsTaken (base : ℕ) (logged kept : List EntryNote) (places : List Placed) : Type 0 where
  pub run : List EntryNote
  pub rest : List EntryNote
  pub kept_are : kept ≡ run ++ rest
  pub are : places ≡ places_of base (logged ++ run)

-- the first places of all of them
first_places : (base : ℕ) (logged kept : List EntryNote) (first more : List Placed)
    → length logged ≤ length first → first ++ more ≡ places_of base (logged ++ kept)
    → IsTaken base logged kept first
first_places base logged kept first more few whole =
    let k = length first - length logged in
    let long : length first ≡ length logged + k = omega (arith, few) in
    record {
      run = take k kept;
      rest = drop k kept;
      kept_are = sym (take-append-drop k kept);
      are = sym (take-append_seam first more) ∙ ap (take (length first)) whole
          ∙ take-map (place_of base) (length first) (logged ++ kept)
          ∙ ap (λ (i : ℕ). places_of base (take i (logged ++ kept))) long
          ∙ ap (places_of base) (take-append-add logged kept k);
    }

of_first : (base : ℕ) (logged kept : List EntryNote) (n : ℕ) (places : List Placed)
    → IsTaken base logged (take n kept) places → IsTaken base logged kept places
of_first base logged kept n places t = record {
  run = t.run;
  rest = t.rest ++ drop n kept;
  kept_are = sym (take-append-drop n kept)
      ∙ ap (λ (l : List EntryNote). l ++ drop n kept) t.kept_are
      ∙ append_assoc t.run t.rest (drop n kept);
  are = t.are;
}

-- where nothing is kept these are of what is logged
pub none_taken : (base : ℕ) (logged kept : List EntryNote) (places : List Placed)
    → (t : IsTaken base logged kept places) → kept ≡ [] → logged ++ t.run ≡ logged
none_taken base logged kept places t none =
    let long = length-append t.run t.rest in
    let no = ap length (sym t.kept_are ∙ none) in
    ap (λ (l : List EntryNote). logged ++ l)
    (nil_from_length t.run (omega (arith, long, no))) ∙ append-nil logged

-- ---- a log of notes

module _ {D : Type 0} (s : NoteState D) (stands : Stands s) where
  abbrev pub HasTaken : List Section → Type 0
  HasTaken part = IsTaken s.base s.logged s.kept (placed_log s.log.past s.log.id part)

  -- all sections
  whole : HasTaken s.log.sections
  whole = record {
    run = take stands.shown s.kept;
    rest = drop stands.shown s.kept;
    kept_are = sym (take-append-drop stands.shown s.kept);
    are = stands.all;
  }

  -- and the first of them, with all that lasts
  part_of : (part more : List Section) → s.log.sections ≡ part ++ more
      → s.log.synced ≤ length part → HasTaken part
  part_of part more is few =
      let past = s.log.past in
      let id = s.log.id in
      let old = take s.log.synced part in
      let late = drop s.log.synced part in
      let behind_old = placed id (entries_of (last_until header_size old) late) in
      let behind_part = placed id (entries_of (last_until header_size part) more) in
      let lasting = s.logged ++ take stands.lasting s.kept in
      let lasts : placed_log past id old ≡ places_of s.base lasting =
      ap (placed_log past id) (sym (take-append-le s.log.synced part more few))
      ∙ ap (λ (l : List Section). placed_log past id (take s.log.synced l)) (sym is)
      ∙ stands.lasts in
      let parted : placed_log past id part ≡ placed_log past id old ++ behind_old =
      ap (placed_log past id) (sym (take-append-drop s.log.synced part))
      ∙ placed_more past id old late in
      let many : length s.logged ≤ length (placed_log past id part) =
      omega (
        arith,
        ap length parted,
        length-append (placed_log past id old) behind_old,
        ap length lasts,
        length-map lasting (place_of s.base),
        length-append s.logged (take stands.lasting s.kept),
      ) in
      of_first s.base s.logged s.kept stands.shown (placed_log past id part)
      (first_places s.base s.logged (take stands.shown s.kept) (placed_log past id part)
      behind_part many
      (sym (placed_more past id part more) ∙ ap (placed_log past id) (sym is) ∙ stands.all))

  pub taken : (part : List Section) → AreBrought s.log part → HasTaken part
  taken part brought = elim brought [
    | inl same ↦ subst HasTaken same whole
    | inr torn ↦ part_of part (torn.0 ∷ []) torn.1 torn.3
  ]
