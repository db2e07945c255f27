-- The one entry of the worked rows of a keeper's deeds, and its cell.
use Rattle.std.proofs.Common.{
  ◌≡◌,
  ℕ,
  ◌<◌,
  ◌≤◌,
  inl,
  inr,
  List,
  [],
  ◌∷◌,
  refl,
  sym,
  ◌∙◌,
  ap,
  subst,
  arith,
  codes,
}
use Rattle.std.specs.Prelude.{◌==◌, Contains, IsTrue}
use Rattle.std.proofs.lemmas.Bool.{cases_eq, true≢false}
use Rattle.std.proofs.lemmas.Nat.Bits.{bit_at-pow_other}
use Rattle.clog_base.specs.declared.cell.Cell.{Cell}
use Rattle.clog_base.specs.declared.cell.CellKey.{CellKey}
use Rattle.clog_base.proofs.Members.{here, only_one}
use Rattle.clog_cells.specs.Merge.{IsMergeOf}
use Rattle.clog_cells.proofs.Merging.{of_itself, of_same}
use Rattle.clog_mutation.specs.declared.mutation.Mutation.{Mutation}
use Rattle.clog_mutation.specs.declared.mutation.Update.{Update}
use Rattle.clog_mutation.specs.Payload.{cells_of}
use Rattle.clog_mutation.proofs.Decoding.{stored_within}
use Rattle.clog_crash.specs.Worked.{a_deletion, first_table, logged, the_mutation}
use Rattle.clog_crash.proofs.worked.Files.{one_in_order, stored}
use Rattle.clog_memtable.proofs.Filled.{one_of}
use Rattle.path_core.specs.declared.note.EntryNote.{EntryNote}
use Rattle.path_core.specs.Droppable.{is_of}
use Rattle.path_core.specs.Keeper.{Holding, IsLoggedCell, PutFile}
use Rattle.path_core.specs.Parts.{touches}
use Rattle.path_core.specs.Whole.{IsWhole, Updates}
use Rattle.clog_segments.specs.Notes.{note_at}
use Rattle.clog_applied.proofs.rows.Empty.{all_of_one}

-- ---- its entry

abbrev pub n : EntryNote
n = note_at 28

abbrev the_update : Update
the_update = record { table = first_table; column = codes "cd"; cell = a_deletion }

-- it touches table 0 alone
pub table_zero : (t : ℕ) → IsTrue (touches 1 t) → t ≡ 0
table_zero t bit = elim (cases_eq t 0) [
  | inl same ↦ same
  | inr apart ↦
      absurd (true≢false (sym bit ∙ ap (λ (k : ℕ). k == 1) (bit_at-pow_other 0 t apart)))
]

updates_zero : (t : ℕ) → Updates the_mutation t → 0 ≡ t
updates_zero t u = ap (λ (v : Update). v.table.0) (only_one the_update u.update u.among) ∙ u.table

pub whole : IsWhole n
whole = record {
  mutation = the_mutation;
  limits = stored_within the_mutation stored;
  stored = stored;
  bytes = refl;
  long = refl;
  tables = λ t. (
    λ bit. record {
      update = the_update;
      among = here the_update [];
      table = sym (table_zero t bit);
    },
    λ u. subst (λ (k : ℕ). IsTrue (touches 1 k)) (updates_zero t u) refl,
  );
  some_table = omega arith;
}

-- it is of the segment 0 and of table 0 there
pub is_of_zero : (o t : ℕ) → 0 ≡ o → 0 ≡ t → IsTrue (is_of o t n)
is_of_zero o t here_is table_is =
    subst (λ (k : ℕ). IsTrue (is_of k t n)) here_is
    (subst (λ (k : ℕ). IsTrue (is_of 0 k n)) table_is refl)

-- ---- its cell

module _ (h : Holding) (logs : h.logged ≡ n ∷ []) (f : PutFile) where
  cell_is : (pair : CellKey × Cell) → IsLoggedCell h f pair → logged ≡ pair
  unfolding whole
  cell_is pair c =
      let same = only_one n c.note (subst (λ (l : List EntryNote). Contains l c.note) logs c.among)
      in
      only_one logged pair
      (subst (λ (m : Mutation). Contains (cells_of m) pair)
      (sym (one_of n c.note same whole c.whole)) c.listed)

  module _ (table_is : f.table ≡ 0) (above : f.lower < 60) (up_to : 60 ≤ f.upper) where
    its_cell : IsLoggedCell h f logged
    unfolding whole
    its_cell = record {
      note = n;
      among = subst (λ (l : List EntryNote). Contains l n) (sym logs) (here n []);
      whole = whole;
      listed = here logged [];
      of_table = sym table_is;
      above = above;
      up_to = up_to;
    }

    pub merged : IsMergeOf (IsLoggedCell h f) (logged ∷ [])
    merged =
        of_same (Contains (logged ∷ [])) (IsLoggedCell h f) (logged ∷ []) (λ pair. (
          λ among. all_of_one (IsLoggedCell h f) logged its_cell pair among,
          λ c. subst (λ (p : CellKey × Cell). Contains (logged ∷ []) p) (cell_is pair c)
              (here logged []),
        )) (of_itself (logged ∷ []) (one_in_order logged))

    -- a file without it is no merge
    pub not_empty : IsMergeOf (IsLoggedCell h f) [] → ⊥
    not_empty none = none.newest logged.0 logged.1 its_cell
