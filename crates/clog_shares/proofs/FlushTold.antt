-- What an answer of a flush tells its seat.
use Rattle.std.proofs.Common.{◌≡◌, ℕ, ◌≤◌, true, false, inl, inr, List, [], ◌++◌, get_or, length}
use Rattle.std.proofs.Common.{reverse, None, refl, sym, subst, arith, append-nil}
use Rattle.std.specs.Prelude.{Contains}
use Rattle.std.proofs.lemmas.Bool.{false≢true}
use Rattle.std.proofs.lemmas.Option.{none-some}
use Rattle.std.proofs.lemmas.List.Sorted.{Contains-permutation, IsPermutation-reverse}
use Rattle.std.proofs.lemmas.List.Sorted.{IsPermutation-sym}
use Rattle.path_core.specs.declared.event.Cursor.TheVariants.{Stopped as StoppedCursor}
use Rattle.path_core.specs.declared.event.Place.{Place}
use Rattle.path_core.specs.declared.event.Place.TheVariants.{CursorWord, TurnWord}
use Rattle.path_core.specs.declared.event.Turn.TheVariants.{Flush as FlushTurn}
use Rattle.path_core.specs.declared.note.EntryNote.{EntryNote}
use Rattle.path_rule.specs.declared.view.OwnStep.{OwnStep}
use Rattle.path_rule.specs.declared.view.PathSize.{PathSize}
use Rattle.path_rule.specs.declared.view.View.{View}
use Rattle.path_rule.specs.Calls.{FoundSince}
use Rattle.path_rule.specs.Finds.{Finds}
use Rattle.path_rule.proofs.seats.Answering.{found_after}
use Rattle.path_table.specs.declared.trying.PathSeat.{PathSeat}
use Rattle.path_table.specs.Members.{view_of}
use Rattle.path_flush.specs.declared.flush_answer.Flush.{Flush}
use Rattle.path_flush.specs.declared.flush_answer.Flush.TheVariants as flush
use Rattle.write_path.specs.ClosedFiles.{HasRetired}
use Rattle.path_flush.specs.OwnWrites.{writes_of}
use Rattle.path_flush.specs.Flushed.{Flushes, opened_by}
use Rattle.path_flush.specs.Grown.{HasGrown}
use Rattle.write_path.proofs.AnswerPromises.{by_answer}
use Rattle.clog_shares.specs.declared.fault.WriteFault.TheVariants.{OutOfMemory, Stopped}
use Rattle.clog_shares.specs.declared.tally.UpdateTally.{UpdateTally}
use Rattle.clog_shares.specs.Crews.{KnowsWhy}
use Rattle.clog_shares.specs.Shares.{is_finished, refusal_by}
use Rattle.clog_shares.specs.Tallied.{IsPaid, IsTallied}
use Rattle.clog_shares.specs.Tallies.{IsTried}
use Rattle.clog_shares.proofs.Committing.{risen}

pub flush_grows : (w t : ℕ) (v after : View) (a : Flush) → Flushes w t v a after
    → HasGrown v.trail after.trail
flush_grows w t v after a F = record { newer = F.steps.steps; is = F.steps.trail }

-- ---- why it was refused

module _ (before steps after : List OwnStep) (grown : after ≡ steps ++ before) where
  -- what was found at these steps is in the trail behind them
  in_trail : (at : Place) (value : ℕ) → Finds at value steps → Finds at value after
  in_trail at value found = subst (λ (l : List OwnStep). Finds at value l) (sym grown)
      (found_after at value steps before found)

pub flush_why : {K : Type 0} (size : PathSize) (w t : ℕ) (v : View) (s : PathSeat K) (a : Flush)
    → v.size ≡ size → Flushes w t v a (view_of s.member)
    → KnowsWhy size (refusal_by a) s
flush_why size w t v s (flush.Flushed lower upper) sized F = tt
flush_why size w t v s (flush.Empty key) sized F = tt
flush_why size w t v s (flush.Busy found) sized F = tt
flush_why size w t v s (flush.Stopped at_open now) sized F =
    let is = F.is in (
      subst (λ (z : PathSize). at_open ≡ z.at_open) sized is.0,
      in_trail v.trail F.steps.steps (view_of s.member).trail F.steps.trail
          (CursorWord StoppedCursor) now is.2,
      risen at_open now is.1,
    )
flush_why size w t v s flush.OutOfMemory sized F = tt

-- ---- what it tried

-- where it was not refused, none is due of the table, or another seat had the turn
pub tried : (w t : ℕ) (v after : View) (a : Flush) (tally now : UpdateTally)
    → Flushes w t v a after → refusal_by a ≡ None → now.most ≡ tally.most → 1 ≤ tally.most
    → (is_finished a ≡ true → get_or now.counts t 0 ≡ 0)
    → IsTried (length v.trail) now after.trail t
tried w t v after (flush.Flushed lower upper) tally now F none most some done =
    let no_more = done refl in inl (omega (arith, no_more, most, some))
tried w t v after (flush.Empty key) tally now F none most some done =
    let no_more = done refl in inl (omega (arith, no_more, most, some))
tried w t v after (flush.Busy found) tally now F none most some done =
    inr (subst (λ (n : ℕ).
    FoundSince (length v.trail) (TurnWord (FlushTurn (record { 0 = t }))) n after.trail) F.is.0
    F.is.1)
tried w t v after (flush.Stopped at_open count) tally now F none most some done =
    absurd (none-some (Stopped at_open count) (sym none))
tried w t v after flush.OutOfMemory tally now F none most some done =
    absurd (none-some OutOfMemory (sym none))

-- ---- what a finished one leaves

-- where all of a seat's writes are flushed of a table
none_left : (most w t key : ℕ) (trail : List OwnStep)
    → IsPaid most w t (reverse (writes_of trail)) trail → HasRetired (record { 0 = t }) key trail
    → ((n : EntryNote) → Contains (writes_of trail) n → n.end.0 ≤ key)
    → IsTallied most w t 0 (reverse (writes_of trail)) trail
none_left most w t key trail P F up = let writes = writes_of trail in record {
  early = reverse writes;
  late = [];
  parts = sym (append-nil (reverse writes));
  flushed = inr (record {
    key = key;
    flushed = F;
    covers = λ n among. up n
        (Contains-permutation (reverse writes) writes n
        (IsPermutation-sym writes (reverse writes) (IsPermutation-reverse writes)) among);
  });
  front = P.lines;
  are_early = P.are;
  opened = P.opened;
  rest = [];
  are_late = tt;
  counted = refl;
}

pub finished : (most w t : ℕ) (v after : View) (a : Flush) → is_finished a ≡ true
    → Flushes w t v a after → IsPaid most w t (reverse (writes_of after.trail)) after.trail
    → IsTallied most w t 0 (reverse (writes_of after.trail)) after.trail
finished most w t v after (flush.Flushed lower upper) done F paid =
    none_left most w t upper.0 after.trail paid
    (by_answer w (record { 0 = t }) (flush.Flushed lower upper) upper.0 v after refl F)
    F.is.1.covers
finished most w t v after (flush.Empty key) done F paid =
    none_left most w t key.0 after.trail paid
    (by_answer w (record { 0 = t }) (flush.Empty key) key.0 v after refl F) F.is.1.covers
finished most w t v after (flush.Busy found) done F paid = absurd (false≢true done)
finished most w t v after (flush.Stopped at_open now) done F paid = absurd (false≢true done)
finished most w t v after flush.OutOfMemory done F paid = absurd (false≢true done)

-- ---- where another seat has the turn

-- a flush that is neither finished nor refused opens no memtable
pub busy_opens : (a : Flush) → is_finished a ≡ false → refusal_by a ≡ None → opened_by a ≡ 0
busy_opens (flush.Flushed lower upper) other none = absurd (false≢true (sym other))
busy_opens (flush.Empty key) other none = absurd (false≢true (sym other))
busy_opens (flush.Busy found) other none = refl
busy_opens (flush.Stopped at_open now) other none =
    absurd (none-some (Stopped at_open now) (sym none))
busy_opens flush.OutOfMemory other none = absurd (none-some OutOfMemory (sym none))
