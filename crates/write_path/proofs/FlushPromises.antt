-- What a seat knows to be flushed lies in the keeper's files when the path is closed.
use Rattle.std.proofs.Common.{◌≡◌, ℕ, zero, suc, ◌<◌, ◌≤◌, List, [], ◌∷◌, ◌++◌, IsTrue, refl, sym}
use Rattle.std.proofs.Common.{ap, subst, ⊎_elim, arith}
use Rattle.std.specs.List.{Contains}
use Rattle.std.proofs.lemmas.List.Elements.{All-contains}
use Rattle.std.proofs.lemmas.List.Sorted.{Contains-permutation}
use mathlib.Core.Logic.{inl, inr}
use Rattle.clog_base.specs.declared.cell.Table.{Table}
use Rattle.clog_base.proofs.Members.{in_flat}
use Rattle.path_core.specs.declared.event.Cursor.TheVariants.{OldestLive}
use Rattle.path_core.specs.declared.event.Place.TheVariants.{CursorWord, Log}
use Rattle.path_core.specs.declared.note.EntryNote.{EntryNote}
use Rattle.path_core.specs.Keeper.{Holding, IsFiledIn, PutFile}
use Rattle.path_core.specs.Parts.{touches}
use Rattle.path_rule.specs.declared.view.OwnStep.{OwnStep}
use Rattle.path_rule.specs.declared.view.PathSize.{PathSize}
use Rattle.path_rule.specs.FindsBounds.{FindsFinal}
use Rattle.path_rule.proofs.seats.Answering.{found_before}
use Rattle.path_table.specs.declared.trying.PathSeat.{PathSeat}
use Rattle.path_table.specs.Members.{view_of}
use Rattle.write_path.specs.ClosedFiles.{CoversFlushed, HasRetired}
use Rattle.write_path.specs.Closed.{IsOutcome}
use Rattle.path_flush.specs.OwnWrites.{writes_of}
use Rattle.write_path.specs.FlushedRows.{file_to, flushed_at}
use Rattle.path_flush.specs.Grown.{HasGrown}
use Rattle.write_path.specs.SwitchedRows.{switched_at}

-- ---- on a trail that has grown

pub final_before : (t m key : ℕ) (newer older : List OwnStep) → FindsFinal t m key older
    → FindsFinal t m key (newer ++ older)
final_before t m key [] older F = F
final_before t m key (s ∷ ss) older F = inr (final_before t m key ss older F)

pub still_flushed : (t : Table) (key : ℕ) (newer trail : List OwnStep) → HasRetired t key trail
    → HasRetired t key (newer ++ trail)
still_flushed t key newer trail F = record {
  memtable = F.memtable;
  final = final_before t.0 F.memtable key newer trail F.final;
  least = F.least;
  found = found_before (CursorWord (OldestLive t)) F.least newer trail F.found;
  retired = F.retired;
}

-- ---- when the path is closed

-- Where a seat knew a memtable to be final at a key, and retired, each write of any seat that
-- touches the table and ends at or below the key lies in a file of the keeper.
pub flushed_filed : {K : Type 0} (size : PathSize) (seats : List (PathSeat K)) (end : ℕ)
    (h : Holding) → IsOutcome size seats end h → (s : PathSeat K) → Contains seats s
    → (t : Table) (key : ℕ) (before : List OwnStep) → HasRetired t key before
    → HasGrown before (view_of s.member).trail → (other : PathSeat K) → Contains seats other
    → (n : EntryNote) → Contains (writes_of (view_of other.member).trail) n
    → IsTrue (touches n.tables t.0) → n.end.0 ≤ key → IsFiledIn h.files t.0 n.end.0
flushed_filed {K} size seats end h O s one t key before F G other there n among touched low =
    All-contains (λ (s : PathSeat K). CoversFlushed O.core.notes h.files (view_of s.member).trail)
    seats s O.covered one t key
    (subst (HasRetired t key) (sym G.is) (still_flushed t key G.newer before F)) n
    (Contains-permutation _ _ n O.of_writes
    (in_flat (λ (s : PathSeat K). writes_of (view_of s.member).trail) seats other n there among))
    touched low

-- ---- worked rows

pub row_flushed : (key : ℕ) → HasRetired (record { 0 = 0 }) key (flushed_at key)
row_flushed key = record {
  memtable = 0;
  final = inr (inl (refl, refl, refl));
  least = 1;
  found = inl (refl, refl);
  retired = omega arith;
}

-- these steps made no memtable of another table final
row_table : (t m key to : ℕ) → FindsFinal t m to (flushed_at key) → t ≡ 0
row_table t m key to F = ⊎_elim (λ no. absurd no) (λ a. ⊎_elim (λ at. sym at.0)
    (λ b. ⊎_elim (λ no. absurd no) (λ c. ⊎_elim (λ no. absurd no)
    (λ d. ⊎_elim (λ no. absurd no) (λ e. ⊎_elim (λ no. absurd no) (λ f. ⊎_elim (λ no. absurd no)
    (λ no. absurd no) f) e) d) c) b) a) F

pub row_no_other : (key to : ℕ) → ¬ HasRetired (record { 0 = 1 }) to (flushed_at key)
row_no_other key to F = absurd (let is = row_table 1 F.memtable key to F.final in omega arith)

-- nor did a switch alone retire one
pub row_switched : (t : Table) (key to : ℕ) → ¬ HasRetired t to (switched_at 0 key)
row_switched t key to F = ⊎_elim (λ no. no) (λ a. ⊎_elim (λ no. no) (λ b. ⊎_elim
    (λ at. log_no at.0) (λ c. ⊎_elim (λ no. no) (λ d. ⊎_elim (λ no. no)
    (λ e. ⊎_elim (λ no. no) (λ no. no) e) d) c) b) a) F.found
  where
    log_no : Log ≡ CursorWord (OldestLive t) → ⊥
    log_no is = absurd (let q : Log ≡ CursorWord (OldestLive t) = is in cc)

module _ (key : ℕ) (n : EntryNote) where
  -- what is there is the one entry
  the_one : (m : EntryNote) → Contains (n ∷ []) m → n ≡ m
  the_one m (zero, inside, is) = is
  the_one m (suc k, inside, is) = absurd (omega arith)

  its_end : (m : EntryNote) → Contains (n ∷ []) m → n.end.0 ≡ m.end.0
  its_end m h = ap (λ (k : EntryNote). k.end.0) (the_one m h)

  pub row_filed : 0 < n.end.0 → n.end.0 ≤ key
      → CoversFlushed (n ∷ []) (file_to key) (flushed_at key)
  row_filed some low t to F m among touched below = let same = its_end m among in record {
    file = record { table = 0; lower = 0; upper = key; cells = [] };
    among = (0, omega arith, refl);
    of_table = sym (row_table t.0 F.memtable key to F.final);
    above = omega (arith, same, some);
    up_to = omega (arith, same, low);
  }

  pub row_bare : IsTrue (touches n.tables 0) → n.end.0 ≤ key
      → ¬ CoversFlushed (n ∷ []) [] (flushed_at key)
  row_bare touched low C = absurd (let I = C (record { 0 = 0 }) key (row_flushed key) n
      (0, omega arith, refl) touched low in let l = I.among.1 in omega arith)

  pub row_short : (upper : ℕ) → IsTrue (touches n.tables 0) → n.end.0 ≤ key → upper < n.end.0
      → ¬ CoversFlushed (n ∷ []) (file_to upper) (flushed_at key)
  row_short upper touched low under C = absurd (let I = C (record { 0 = 0 }) key
      (row_flushed key) n (0, omega arith, refl) touched low in
      let ends = ends_at I.file I.among in let up = I.up_to in omega arith)
    where
      ends_at : (f : PutFile) → Contains (file_to upper) f → upper ≡ f.upper
      ends_at f (zero, inside, is) = ap (λ (g : PutFile). g.upper) is
      ends_at f (suc k, inside, is) = absurd (omega arith)
