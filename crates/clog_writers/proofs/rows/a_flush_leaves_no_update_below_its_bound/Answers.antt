use Rattle.std.proofs.Common.{◌≡◌, ◌⊎◌, ℕ, ◌+◌, ◌*◌, ◌<◌, ◌≤◌, ⊎_elim, inl, inr, List, [], ◌∷◌}
use Rattle.std.proofs.Common.{◌++◌, refl, sym, ap, ◌∙◌, subst, arith}
use Rattle.std.proofs.lemmas.List.Sums.{sum_by-cons}
use Rattle.clog_base.proofs.Members.{here, only_one}
use Rattle.clog_mutation.proofs.Decoding.{stored_within}
use Rattle.clog_crash.specs.Worked.{the_mutation}
use Rattle.clog_crash.proofs.worked.Files.{stored}
use Rattle.clog_applied.specs.Flushed.{updates_in}
use Rattle.clog_applied.specs.History.{Line}
use Rattle.clog_notes.proofs.TableSets.{joined_holds}
use Rattle.path_core.specs.declared.note.EntryNote.{EntryNote}
use Rattle.path_rule.specs.declared.view.OwnStep.{OwnStep}
use Rattle.write_path.specs.ClosedFiles.{HasRetired}
use Rattle.clog_shares.specs.Shares.{AreWritesOf, IsWriteOf}
use Rattle.clog_shares.specs.Tallied.{IsFlushedOver, IsTallied, updates_for}
use Rattle.clog_writers.specs.WorkedTally.{flushed_one, logged_one, the_line, the_note}
use Rattle.clog_shares.proofs.Paying.{both_writes, more_updates}
use Rattle.clog_shares.proofs.SameLines.{same_lines}
use Rattle.clog_writers.proofs.WorkedUpdates.{some_update}
use Rattle.clog_writers.proofs.rows.a_flush_leaves_no_update_below_its_bound.Goals as goal

-- the note is what writer 0 deposited for the line
its : IsWriteOf 0 the_line the_note
its = record {
  by = refl;
  is = record {
    bytes = refl;
    tables = joined_holds the_mutation 1 (stored_within the_mutation stored).updates refl;
    told = refl;
    stored = stored;
  };
}

pub returns-clause-writes : goal.returns-clause-writes
returns-clause-writes g = refl

pub returns-clause-flushed : goal.returns-clause-flushed
returns-clause-flushed g = record {
  early = the_note ∷ [];
  late = [];
  parts = refl;
  flushed = inr (record {
    key = 60;
    flushed = record {
      memtable = 0;
      final = inr (inl (refl, refl, refl));
      least = 1;
      found = inl (refl, refl);
      retired = omega arith;
    };
    covers = λ n among.
        let is = ap (λ (m : EntryNote). m.end.0) (only_one the_note n among) in
        omega (arith, is);
  });
  front = the_line ∷ [];
  are_early = (its, tt);
  opened = omega arith;
  rest = [];
  are_late = tt;
  counted = refl;
}

pub returns-clause-unretired : goal.returns-clause-unretired
returns-clause-unretired g = record {
  early = [];
  late = the_note ∷ [];
  parts = refl;
  flushed = inl refl;
  front = [];
  are_early = tt;
  opened = omega arith;
  rest = the_line ∷ [];
  are_late = (its, tt);
  counted = refl;
}

-- lines of which the note is one have an update of the table
some_left : (rest : List Line) → AreWritesOf 0 rest (the_note ∷ []) → 0 ≡ updates_for 0 rest → ⊥
some_left [] are none = are
some_left (l ∷ ls) are none =
    let some = some_update l.mutation 0 ((are.0.is.tables 0).0 refl) in
    let sum = sum_by-cons (updates_in (record { 0 = 0 })) l ls in
    omega (arith, some, none, sum)

-- those that are known to be flushed, and the others, have one update of it together
together : (most count : ℕ) (trail : List OwnStep)
    → (T : IsTallied most 0 0 count (the_note ∷ []) trail)
    → updates_for 0 T.front + updates_for 0 T.rest ≡ 1
together most count trail T =
    let are = subst (AreWritesOf 0 (T.front ++ T.rest)) (sym T.parts)
    (both_writes 0 T.front T.rest T.early T.late T.are_early T.are_late) in
    let same = same_lines 0 (T.front ++ T.rest) (the_line ∷ []) (the_note ∷ []) are (its, tt) in
    sym (more_updates 0 T.front T.rest) ∙ ap (updates_for 0) same

-- where the first of some writes ends
end_of : List EntryNote → ℕ
end_of [] = 0
end_of (n ∷ ns) = n.end.0

-- where the table is known to be flushed to no key at or above the note's end, its update is left
left_of : (trail : List OwnStep)
    → ((key : ℕ) → HasRetired (record { 0 = 0 }) key trail → key < 60)
    → (early late : List EntryNote) (rest : List Line) → the_note ∷ [] ≡ early ++ late
    → (early ≡ []) ⊎ IsFlushedOver 0 early trail → AreWritesOf 0 rest late
    → 0 ≡ updates_for 0 rest → ⊥
unfolding end_of
left_of trail low [] late rest parts flushed are none =
    some_left rest (subst (AreWritesOf 0 rest) (sym parts) are) none
left_of trail low (n ∷ ns) late rest parts (inl nil) are none =
    let end : 60 ≡ n.end.0 = ap end_of parts in
    let no : n.end.0 ≡ 0 = ap end_of nil in
    omega (arith, end, no)
left_of trail low (n ∷ ns) late rest parts (inr F) are none =
    let end : 60 ≡ n.end.0 = ap end_of parts in
    let covered = F.covers n (here n ns) in
    let few = low F.key F.flushed in
    omega (arith, end, covered, few)

left_over : (trail : List OwnStep)
    → ((key : ℕ) → HasRetired (record { 0 = 0 }) key trail → key < 60)
    → IsTallied 1 0 0 0 (the_note ∷ []) trail → ⊥
left_over trail low T =
    left_of trail low T.early T.late T.rest T.parts T.flushed T.are_late T.counted

pub returns-clause-left : goal.returns-clause-left
returns-clause-left g =
    left_over logged_one (λ key H. absurd (⊎_elim (λ x. x) (λ x. x) H.final))

pub returns-clause-short : goal.returns-clause-short
returns-clause-short g = left_over (flushed_one 59) (λ key H.
    ⊎_elim (λ x. absurd x) (λ a. ⊎_elim (λ f. let is = f.2 in omega (arith, is))
    (λ b. ⊎_elim (λ x. absurd x) (λ d. ⊎_elim (λ x. absurd x) (λ e. ⊎_elim (λ x. absurd x)
    (λ h. ⊎_elim (λ x. absurd x) (λ i. ⊎_elim (λ x. absurd x) (λ j. ⊎_elim (λ x. absurd x)
    (λ x. absurd x) j) i) h) e) d) b) a) H.final)

pub returns-clause-more : goal.returns-clause-more
returns-clause-more g = λ T.
    let one = together 1 2 logged_one T in
    let count = T.counted in
    omega (arith, one, count)

pub returns-clause-unpaid : goal.returns-clause-unpaid
returns-clause-unpaid g = λ T.
    let one = together 2 0 (flushed_one 60) T in
    let opened : 2 * 1 ≤ updates_for 0 T.front = T.opened in
    omega (arith, one, opened)
