-- What an answer of a flush comes to when the path is closed.
use Rattle.std.proofs.Common.{ℕ, suc, ◌≤◌, List, [], ◌∷◌, ◌++◌, Option, Some, None, IsTrue, inl}
use Rattle.std.proofs.Common.{inr, refl, sym, ap, ◌∙◌, subst, ⊎_elim, arith}
use Rattle.std.specs.List.{Contains}
use Rattle.clog_base.specs.declared.cell.Table.{Table}
use Rattle.clog_base.specs.declared.position.Key.{Key}
use Rattle.path_core.specs.declared.event.Cursor.TheVariants.{OldestLive}
use Rattle.path_core.specs.declared.event.Place.TheVariants.{CursorWord}
use Rattle.path_core.specs.declared.note.EntryNote.{EntryNote}
use Rattle.path_core.specs.declared.state.Bound.{Bound}
use Rattle.path_core.specs.Keeper.{Holding, IsFiledIn}
use Rattle.path_core.specs.Parts.{key_of_bound, touches}
use Rattle.path_rule.specs.declared.view.OwnStep.{OwnStep}
use Rattle.path_rule.specs.declared.view.PathSize.{PathSize}
use Rattle.path_rule.specs.declared.view.View.{View}
use Rattle.path_rule.specs.Finds.{Finds}
use Rattle.path_rule.specs.FindsBounds.{FindsFinal, Retires as RetiresOne}
use Rattle.path_rule.proofs.seats.Answering.{found_before}
use Rattle.path_table.specs.declared.trying.PathSeat.{PathSeat}
use Rattle.path_table.specs.Members.{view_of}
use Rattle.path_flush.specs.declared.flush_answer.Flush.{Flush}
use Rattle.path_flush.specs.declared.flush_answer.Flush.TheVariants.{Flushed, Empty, Busy, Stopped}
use Rattle.path_flush.specs.declared.flush_answer.Flush.TheVariants.{OutOfMemory}
use Rattle.write_path.specs.ClosedFiles.{HasRetired}
use Rattle.write_path.specs.Closed.{IsOutcome}
use Rattle.path_flush.specs.OwnWrites.{writes_of}
use Rattle.path_flush.specs.Flushed.{Flushes}
use Rattle.path_flush.specs.FlushSteps.{Finalises, FlushSteps, Retires, retiring}
use Rattle.write_path.specs.Promised.{HasFileFrom, HasVoid, IsUpTo, WasFlushed}
use Rattle.path_flush.proofs.FilingGoes.{one_older}
use Rattle.path_flush.proofs.FinalKeys.{final_finds}
use Rattle.write_path.proofs.FlushPromises.{flushed_filed}
use Rattle.write_path.proofs.RetirePromises.{emptied_kept, final_kept, given_kept}

final_newer : (t m key : ℕ) (newer older : List OwnStep) → FindsFinal t m key newer
    → FindsFinal t m key (newer ++ older)
final_newer t m key [] older F = absurd F
final_newer t m key (s ∷ ss) older F =
    ⊎_elim (λ now. inl now) (λ rest. inr (final_newer t m key ss older rest)) F

-- what was made final in a call was found so
final_in : {n : ℕ} (w t m key : ℕ) (v after : View) (S : FlushSteps w t n v after)
    → Finalises w t m key S.steps → FindsFinal t m key after.trail
final_in w t m key v after S F = subst (λ (l : List OwnStep). FindsFinal t m key l) (sym S.trail)
    (final_newer t m key S.steps v.trail (final_finds w t m key S.steps F))

-- what was retired in a call is in the trail behind it
retired_in : (w : ℕ) (t : Table) (m : ℕ) (gave : Option ℕ) (v after : View)
    → Retires w t.0 m gave v after → RetiresOne t m gave after.trail
retired_in w t m gave v after R =
    subst (λ (l : List OwnStep). RetiresOne t m gave l) (sym R.put.is)
    (one_older t m gave R.put.newer (retiring w t.0 m gave ∷ R.before.trail)
    (inl (refl, refl, refl)))

least_in : (w : ℕ) (t : Table) (m : ℕ) (gave : Option ℕ) (v after : View)
    → Retires w t.0 m gave v after → Finds (CursorWord (OldestLive t)) (suc m) after.trail
least_in w t m gave v after R =
    subst (λ (l : List OwnStep). Finds (CursorWord (OldestLive t)) (suc m) l) (sym R.put.is)
    (found_before (CursorWord (OldestLive t)) (suc m) R.put.newer
    (retiring w t.0 m gave ∷ R.before.trail) (inl (refl, refl)))

is_flushed : {n : ℕ} (w : ℕ) (t : Table) (m key : ℕ) (gave : Option ℕ) (v after : View)
    (S : FlushSteps w t.0 n v after) → Finalises w t.0 m key S.steps → Retires w t.0 m gave v after
    → HasRetired t key after.trail
is_flushed w t m key gave v after S F R = record {
  memtable = m;
  final = final_in w t.0 m key v after S F;
  least = suc m;
  found = least_in w t m gave v after R;
  retired = omega arith;
}

pub by_answer : (w : ℕ) (t : Table) (a : Flush) (key : ℕ) (v after : View) → IsUpTo key a
    → Flushes w t.0 v a after → HasRetired t key after.trail
by_answer w t (Flushed lower upper) key v after up F =
    subst (λ (k : ℕ). HasRetired t k after.trail) up
    (is_flushed w t F.is.0 upper.0 (Some lower.0) v after F.steps F.is.1.set F.is.2.retires)
by_answer w t (Empty upper) key v after up F =
    subst (λ (k : ℕ). HasRetired t k after.trail) up
    (is_flushed w t F.is.0 upper.0 None v after F.steps F.is.1.set F.is.2.0)
by_answer w t (Busy found) key v after up F = absurd up
by_answer w t (Stopped at_open now) key v after up F = absurd up
by_answer w t OutOfMemory key v after up F = absurd up

pub answer_covered : {K : Type 0} (size : PathSize) (seats : List (PathSeat K)) (end : ℕ)
    (h : Holding) → IsOutcome size seats end h → (s : PathSeat K) → Contains seats s
    → (t : Table) (a : Flush) (key : ℕ) → IsUpTo key a
    → WasFlushed s.member.number t a (view_of s.member).trail
    → (other : PathSeat K) → Contains seats other
    → (n : EntryNote) → Contains (writes_of (view_of other.member).trail) n
    → IsTrue (touches n.tables t.0) → n.end.0 ≤ key → IsFiledIn h.files t.0 n.end.0
answer_covered size seats end h O s one t a key up W =
    flushed_filed size seats end h O s one t key W.after.trail
    (by_answer s.member.number t a key W.before W.after up W.flushes) W.since

pub answer_filed : {K : Type 0} (size : PathSize) (seats : List (PathSeat K)) (end : ℕ)
    (h : Holding) → IsOutcome size seats end h → (s : PathSeat K) → Contains seats s
    → (t : Table) (lower upper : Key)
    → WasFlushed s.member.number t (Flushed lower upper) (view_of s.member).trail
    → HasFileFrom h.files t.0 lower.0 upper.0
answer_filed size seats end h O s one t lower upper W = let w = s.member.number in
    let F = W.flushes in let m = F.is.0 in
    let G = (given_kept size seats end h O s one t m lower.0 W.after.trail
    (retired_in w t m (Some lower.0) W.before W.after F.is.2.retires) W.since).1 in
    let B = final_kept size seats end h O s one t.0 m upper.0 W.after.trail
    (final_in w t.0 m upper.0 W.before W.after F.steps F.is.1.set) W.since in record {
      file = G.file;
      among = G.among;
      of_table = G.of_table;
      begins = G.lower;
      ends = ap (λ (b : Bound). key_of_bound b) (sym G.upper ∙ B);
    }

pub answer_voided : {K : Type 0} (size : PathSize) (seats : List (PathSeat K)) (end : ℕ)
    (h : Holding) → (O : IsOutcome size seats end h) → (s : PathSeat K) → Contains seats s
    → (t : Table) (key : Key)
    → WasFlushed s.member.number t (Empty key) (view_of s.member).trail
    → HasVoid O.core t.0 key.0
answer_voided size seats end h O s one t key W = let w = s.member.number in
    let F = W.flushes in let m = F.is.0 in record {
      memtable = m;
      final = final_kept size seats end h O s one t.0 m key.0 W.after.trail
          (final_in w t.0 m key.0 W.before W.after F.steps F.is.1.set) W.since;
      empty = emptied_kept size seats end h O s one t m W.after.trail
          (retired_in w t m None W.before W.after F.is.2.0) W.since;
    }
