-- How far a run of lines reaches that pass over no segment: its segments, and its table files.
use Rattle.std.proofs.Common.{
  ◌≡◌,
  ℕ,
  ◌+◌,
  ◌-◌,
  ◌<◌,
  ◌≤◌,
  inl,
  inr,
  true,
  List,
  None,
  length,
  map,
  sym,
  ◌∙◌,
  ap,
  subst,
  arith,
}
use Rattle.std.specs.Prelude.{Contains}
use Rattle.std.specs.List.{AllPairs, range_with_len}
use Rattle.std.proofs.lemmas.Bool.{cases_lt}
use Rattle.clog_base.specs.declared.sizes.Sizes.{Sizes}
use Rattle.clog_base.specs.Positions.{ordinal_of, position_of}
use Rattle.clog_base.proofs.Members.{from_map}
use Rattle.clog_disk.specs.declared.change.Change.{Change}
use Rattle.clog_table.specs.declared.table_file.TableFile.{TableFile}
use Rattle.clog_words.specs.declared.request.ApplyOptions.{ApplyOptions}
use Rattle.path_core.specs.declared.note.EntryNote.{EntryNote}
use Rattle.path_core.specs.History.{IsHistory}
use Rattle.path_core.specs.Keeper.{Holding, PutFile}
use Rattle.path_core.specs.Keys.{after}
use Rattle.clog_segments.specs.NoteLog.{EndsThere}
use Rattle.clog_segments.specs.OnDisk.{file_on}
use Rattle.clog_store.proofs.FolderEnds.{after_at_most, after_first}
use Rattle.clog_applied.specs.Appended.{appended}
use Rattle.clog_applied.specs.Asked.{capacity_of}
use Rattle.clog_applied.specs.Filed.{first_of}
use Rattle.clog_applied.specs.History.{IsLawful, LoggedLine, logged_at}
use Rattle.clog_applied.specs.Onward.{EndsNear, HasWholeLog, ReachesNoFurther}
use Rattle.clog_layout.specs.Ends.{synced_to}
use Rattle.clog_layout.specs.Logged.{AreNotesOf}
use Rattle.clog_layout.proofs.Lines.{is_position}
use Rattle.clog_layout.proofs.Reaching.{has_last, is_range}
use Rattle.clog_closing.specs.Beside.{HasGoodDeeds}
use Rattle.clog_closing.specs.Drained.{HasBegun}
use Rattle.clog_closing.proofs.Tables.{line_of_note, note_of_line}

-- the notes pass over no segment: in each one up to that in which a note begins, one begins
abbrev pub PassesNone : List EntryNote → Type 0
PassesNone notes = (n : EntryNote) → Contains notes n → (o : ℕ) → o ≤ ordinal_of n.start.0
    → (m : EntryNote) × Contains notes m × (ordinal_of m.start.0 ≡ o)

-- ---- where table files end

module _ (base : ℕ) (sizes : Sizes) (laid : List EntryNote)
    (in_log : IsHistory sizes.capacity laid) (its : List LoggedLine)
    (said : AreNotesOf base laid its) where
  -- the file ends at most one segment behind that of this note
  near_one : (put : PutFile) → (n : EntryNote) → Contains laid n
      → ordinal_of put.upper ≤ ordinal_of n.start.0 + 1 → EndsNear its (file_on base put)
  near_one put n among near =
      let w = line_of_note base laid its said n among in
      let id = w.is.id in
      record { line = w.line; listed = w.listed; near = omega (arith, id, near) }

  -- which is the last one, or, where nothing was synced, any
  pub near_put : (capacity synced : ℕ) → (0 < synced → EndsThere synced laid) → (put : PutFile)
      → put.upper ≤ after capacity synced → (n : EntryNote) → Contains laid n
      → EndsNear its (file_on base put)
  near_put capacity synced ended put low n among = elim (cases_lt 0 synced) [
    | inl some ↦
        let e = ended some in
        let top = after_at_most capacity synced in
        let inside = in_log.each e.0 e.1 in
        let few = sizes.within.greatest_capacity in
        near_one put e.0 e.1 (omega (arith, low, top, e.2, inside.inside, inside.long, few))
    | inr none ↦
        let first = after_first capacity synced (omega (arith, none)) in
        near_one put n among (omega (arith, low, first))
  ]

-- ---- a run

module _ (sizes : Sizes) (h : Holding) (none_passed : PassesNone h.logged)
    (in_log : IsHistory sizes.capacity h.logged) (its : List LoggedLine)
    (said : AreNotesOf h.base h.logged its) where
  abbrev base : ℕ
  base = h.base

  abbrev laid : List EntryNote
  laid = h.logged

  -- a segment of a line is one of these, and each of these has a line, and ends with one
  abbrev pub EndWell : List Change → List ℕ → Type 0
  EndWell later ids =
      (i : ℕ) → Contains ids i
      → (w : LoggedLine) × Contains its w × (w.id ≡ i) × (length (appended later i) ≡ w.end)

  -- ---- segments

  module _ (later : List Change) (ids : List ℕ) (rise : AllPairs (λ (a b : ℕ). a < b) ids)
      (ends : EndWell later ids) (all : (w : LoggedLine) → Contains its w → Contains ids w.id)
    where
      low : (i : ℕ) → Contains ids i → base ≤ i
      low i listed =
          let l = ends i listed in
          let n = note_of_line base laid its said l.0 l.1 in
          omega (arith, n.is.id, l.2)

      down : (i : ℕ) → Contains ids i → (k : ℕ) → base ≤ k → k ≤ i → Contains ids k
      down i listed k le up =
          let l = ends i listed in
          let n = note_of_line base laid its said l.0 l.1 in
          let m = none_passed n.note n.listed (k - base) (omega (arith, n.is.id, l.2, le, up)) in
          let w = line_of_note base laid its said m.0 m.1 in
          subst (λ (j : ℕ). Contains ids j) (omega (arith, w.is.id, m.2, le))
          (all w.line w.listed)

      follow : ids ≡ range_with_len base (length ids)
      follow = is_range base ids rise low down

      fit : (capacity : ℕ) → IsLawful capacity its → (i : ℕ) → Contains ids i
          → length (appended later i) ≤ capacity
      fit capacity lawful i listed =
          let l = ends i listed in
          let inside = (lawful.each l.0 l.1).inside in
          omega (arith, l.3, inside)

  -- ---- table files

  module _ (good : HasGoodDeeds h) (ended : 0 < h.synced → EndsThere h.synced h.logged) where
    abbrev files : List TableFile
    files = map (file_on base) h.files

    near_it : (put : PutFile) → Contains h.files put → EndsNear its (file_on base put)
    near_it put among =
        let holds = good.for_some put among in
        near_put base sizes laid in_log its said h.sizes.capacity h.synced ended put
        (good.lasting put among) holds.note holds.among

    near : (file : TableFile) → Contains files file → EndsNear its file
    near file listed =
        let p = from_map (file_on base) h.files file listed in
        subst (EndsNear its) p.2 (near_it p.0 p.1)

    -- where each file that was put has the whole log
    module _ (begun : HasBegun h (synced_to laid)) where
      whole_put : (put : PutFile) → Contains h.files put
          → HasWholeLog base its (file_on base put)
      whole_put put among =
          let holds = good.for_some put among in
          let wide = begun.wide put among in
          let last = has_last base laid its said holds.note holds.among in
          let inside = in_log.each last.note last.among in
          let at : logged_at last.last ≡ position_of base last.note.end.0 =
          is_position base sizes.capacity last.note last.last sizes.within.greatest_capacity inside
          last.is in
          let id : base + ordinal_of 0 ≡ base = omega arith in
          let begins : position_of base 0 ≡ first_of base =
          λ i. record { id = id i; offset = 0 } in
          record {
            begins = ap (position_of base) wide.0 ∙ begins;
            front = last.front;
            last = last.last;
            parts = last.parts;
            ends = ap (position_of base) (wide.1 ∙ sym last.ends) ∙ sym at;
          }

      whole : (file : TableFile) → Contains files file → HasWholeLog base its file
      whole file listed =
          let p = from_map (file_on base) h.files file listed in
          subst (HasWholeLog base its) p.2 (whole_put p.0 p.1)

    -- ---- all of it

    pub reaches : (options : ApplyOptions) → IsLawful (capacity_of options) its
        → (later : List Change) (ids : List ℕ) → AllPairs (λ (a b : ℕ). a < b) ids
        → EndWell later ids → ((w : LoggedLine) → Contains its w → Contains ids w.id)
        → (options.drain ≡ true → options.flush_at ≡ None → HasBegun h (synced_to laid))
        → ReachesNoFurther options base later ids its files
    reaches options lawful later ids rise ends all wide = record {
      follow = follow later ids rise ends all;
      fit = fit later ids rise ends all (capacity_of options) lawful;
      near = near;
      whole = λ full flushless. whole (wide full flushless);
    }
