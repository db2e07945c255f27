-- What the steps by which a seat retired memtables tell when the path is closed.
use Rattle.std.proofs.Common.{
  ◌≡◌,
  ◌&&◌,
  ℕ,
  zero,
  suc,
  ◌<◌,
  ◌≤◌,
  true,
  false,
  not,
  List,
  [],
  ◌∷◌,
  ◌++◌,
  Option,
  Some,
  None,
  IsTrue,
  refl,
  sym,
  ap,
  ◌∙◌,
  subst,
  arith,
}
use Rattle.std.specs.List.{Contains, list_any}
use Rattle.std.proofs.lemmas.Bool.{false≢true}
use Rattle.std.proofs.lemmas.List.Elements.{All-contains}
use mathlib.Core.Logic.{inl, inr}
use Rattle.clog_base.specs.declared.cell.Table.{Table}
use Rattle.path_core.specs.declared.note.EntryNote.{EntryNote}
use Rattle.path_core.specs.declared.state.Bound.TheVariants.{Final}
use Rattle.path_core.specs.declared.state.PathState.{PathState}
use Rattle.path_core.specs.Keeper.{Holding, PutFile}
use Rattle.path_core.specs.Parts.{
  has_place,
  is_empty,
  is_placed_in,
  key_of_bound,
  memtable_of,
  touches,
}
use Rattle.path_core.proofs.lists.Passing.{any_from}
use Rattle.path_rule.specs.declared.view.OwnStep.{OwnStep}
use Rattle.path_rule.specs.declared.view.PathSize.{PathSize}
use Rattle.path_rule.specs.FindsBounds.{FindsFinal, Retires}
use Rattle.path_rule.specs.TrailRows.{retired}
use Rattle.path_rule.specs.Trails.{HoldsSome}
use Rattle.path_table.specs.declared.trying.PathSeat.{PathSeat}
use Rattle.path_table.specs.Members.{view_of}
use Rattle.write_path.specs.ClosedFiles.{
  AreEmpty,
  AreFinal,
  AreGiven,
  HasEntryBetween,
  IsGiven,
}
use Rattle.write_path.specs.Closed.{IsOutcome}
use Rattle.write_path.specs.FlushedRows.{file_between, file_to}
use Rattle.path_flush.specs.Grown.{HasGrown}
use Rattle.write_path.proofs.FlushPromises.{final_before}

-- ---- on a trail that has grown

retired_before : (t : Table) (m : ℕ) (gave : Option ℕ) (newer older : List OwnStep)
    → Retires t m gave older → Retires t m gave (newer ++ older)
retired_before t m gave [] older R = R
retired_before t m gave (s ∷ ss) older R = inr (retired_before t m gave ss older R)

-- ---- when the path is closed

module _ {K : Type 0} (size : PathSize) (seats : List (PathSeat K)) (end : ℕ) (h : Holding)
    (O : IsOutcome size seats end h) (s : PathSeat K) (one : Contains seats s) where
  pub final_kept : (t m key : ℕ) (before : List OwnStep) → FindsFinal t m key before
      → HasGrown before (view_of s.member).trail
      → (memtable_of O.core t m).bound ≡ Final (record { 0 = key })
  final_kept t m key before F G =
      All-contains (λ (s : PathSeat K). AreFinal O.core (view_of s.member).trail) seats s O.finals
      one t m key (subst (FindsFinal t m key) (sym G.is) (final_before t m key G.newer before F))

  pub emptied_kept : (t : Table) (m : ℕ) (before : List OwnStep) → Retires t m None before
      → HasGrown before (view_of s.member).trail → is_empty O.core t.0 m ≡ true
  emptied_kept t m before R G =
      All-contains (λ (s : PathSeat K). AreEmpty O.core (view_of s.member).trail) seats s O.emptied
      one t m (subst (Retires t m None) (sym G.is) (retired_before t m None G.newer before R))

  pub given_kept : (t : Table) (m lower : ℕ) (before : List OwnStep)
      → Retires t m (Some lower) before → HasGrown before (view_of s.member).trail
      → HoldsSome O.core t.0 m × IsGiven O.core h.files t.0 m lower
  given_kept t m lower before R G =
      All-contains (λ (s : PathSeat K). AreGiven O.core h.files (view_of s.member).trail) seats s
      O.given one t m lower (subst (Retires t m (Some lower)) (sym G.is)
      (retired_before t m (Some lower) G.newer before R))

-- ---- worked rows

-- the lone file is the one that is there
lone : (lower upper : ℕ) (f : PutFile) → Contains (file_between lower upper) f
    → (lower ≡ f.lower) × (upper ≡ f.upper)
lone lower upper f (zero, inside, is) =
    (ap (λ (g : PutFile). g.lower) is, ap (λ (g : PutFile). g.upper) is)
lone lower upper f (suc k, inside, is) = absurd (omega arith)

module _ (core : PathState) where
  pub row_given : (key : ℕ) → (memtable_of core 0 0).bound ≡ Final (record { 0 = key })
      → IsGiven core (file_to key) 0 0 0
  row_given key final = record {
    file = record { table = 0; lower = 0; upper = key; cells = [] };
    among = (0, omega arith, refl);
    of_table = refl;
    lower = refl;
    upper = final;
  }

  pub row_later : (upper : ℕ) → ¬ IsGiven core (file_between 7 upper) 0 0 0
  row_later upper G = absurd (let f = lone 7 upper G.file G.among in let at = f.0 in
      let is = G.lower in omega arith)

  pub row_other_end : (key upper : ℕ) → key < upper
      → (memtable_of core 0 0).bound ≡ Final (record { 0 = key })
      → ¬ IsGiven core (file_to upper) 0 0 0
  row_other_end key upper apart final G = absurd (let f = lone 0 upper G.file G.among in
      let at = f.1 in let q : Final (record { 0 = key }) ≡ Final (record { 0 = G.file.upper }) =
      sym final ∙ G.upper in let same : key ≡ G.file.upper = ap key_of_bound q in omega arith)

  pub row_bare : ¬ AreGiven core [] (retired 0 (Some 0))
  row_bare A = absurd (let G = (A (record { 0 = 0 }) 0 0 (inl (refl, refl, refl))).1 in
      let l = G.among.1 in omega arith)

  pub row_filled : (entry : ℕ)
      → Contains core.placed (record { table = 0; entry = entry; memtable = 0 })
      → ¬ AreEmpty core (retired 0 None)
  row_filled entry placed A = false≢true (sym (ap (λ b. not b
      && not (list_any (has_place 0 0) core.seats))
      (any_from (is_placed_in 0 0) core.placed (record { table = 0; entry = entry; memtable = 0 })
      placed refl))
      ∙ A (record { 0 = 0 }) 0 (inl (refl, refl, refl)))

module _ (key : ℕ) (n : EntryNote) where
  pub row_entry : IsTrue (touches n.tables 0) → 0 < n.end.0 → n.end.0 ≤ key
      → HasEntryBetween (n ∷ []) 0 0 key
  row_entry touched some low = record {
    note = n;
    among = (0, omega arith, refl);
    touched = touched;
    above = some;
    up_to = low;
  }

  its_end : (m : EntryNote) → Contains (n ∷ []) m → n.end.0 ≡ m.end.0
  its_end m (zero, inside, is) = ap (λ (k : EntryNote). k.end.0) is
  its_end m (suc k, inside, is) = absurd (omega arith)

  pub row_beyond : key < n.end.0 → ¬ HasEntryBetween (n ∷ []) 0 0 key
  row_beyond past E = absurd (let is = its_end E.note E.among in let up = E.up_to in omega arith)

  pub row_other : touches n.tables 0 ≡ false → ¬ HasEntryBetween (n ∷ []) 0 0 key
  row_other none E = false≢true (sym none ∙ subst (λ (k : ℕ). touches k 0 ≡ true)
      (sym (its_tables E.note E.among)) E.touched)
    where
      its_tables : (m : EntryNote) → Contains (n ∷ []) m → n.tables ≡ m.tables
      its_tables m (zero, inside, is) = ap (λ (k : EntryNote). k.tables) is
      its_tables m (suc k, inside, is) = absurd (omega arith)
