-- Cells of a table are gathered entry by entry.
use Rattle.std.proofs.Common.{◌≡◌, ◌++◌, ◌∷◌, [], List, ⊎_elim, sym, ap, subst}
use Rattle.std.specs.List.{Contains}
use Rattle.std.proofs.lemmas.List.Elements.{
  Contains-append_cases,
  Contains-append_left,
  Contains-append_right,
}
use Rattle.clog_base.specs.declared.cell.Cell.{Cell}
use Rattle.clog_base.specs.declared.cell.CellKey.{CellKey}
use Rattle.clog_base.specs.declared.cell.Table.{Table}
use Rattle.clog_base.proofs.Members.{here, nothing_there, only_one}
use Rattle.clog_cells.specs.Batches.{Adds, WerePut}
use Rattle.clog_cells.specs.Merge.{IsMerge, IsMergeOf, part_on}
use Rattle.clog_cells.specs.declared.batches.CellBatches.{CellBatches}
use Rattle.clog_cells.proofs.Merging.{of_same}
use Rattle.clog_cells.proofs.Parts.{members_of_part}
use Rattle.clog_mutation.specs.declared.mutation.Mutation.{Mutation}
use Rattle.clog_mutation.specs.Payload.{cells_of}
use Rattle.path_core.specs.declared.note.EntryNote.{EntryNote}
use Rattle.path_core.specs.Whole.{IsWhole}
use Rattle.clog_memtable.specs.Gathering.{IsCellOf, IsGathered}
use Rattle.clog_memtable.proofs.Filled.{one_of}

abbrev Pairs : Type 0
Pairs = List (CellKey × Cell)

same_table : (a b : Table) → a.0 ≡ b.0 → a ≡ b
same_table a b same = λ j. record { 0 = same j }

-- nothing is gathered from nothing
pub gathered_none : (t : Table) (cells : CellBatches) → WerePut [] cells → IsGathered t [] cells
gathered_none t cells none = record {
  pairs = [];
  put = none;
  exact = λ pair. (
    λ h. absurd (nothing_there pair h),
    λ c. absurd (nothing_there c.note c.among),
  );
}

-- one entry more
pub gathered_more : (t : Table) (notes : List EntryNote) (n : EntryNote) (cells new : CellBatches)
    → IsGathered t notes cells → (w : IsWhole n)
    → Adds (part_on t (cells_of w.mutation)) cells new → IsGathered t (notes ++ n ∷ []) new
gathered_more t notes n cells new G w step = let m = w.mutation in
    let more = part_on t (cells_of m) in record {
      pairs = G.pairs ++ more;
      put = step G.pairs G.put;
      exact = λ pair. (
        λ h. ⊎_elim
            (λ old. let c = (G.exact pair).0 old in record {
              note = c.note;
              among = Contains-append_left notes (n ∷ []) c.note c.among;
              whole = c.whole;
              listed = c.listed;
              of_table = c.of_table;
            })
            (λ last. let there = (members_of_part t (cells_of m) pair).0 last in record {
              note = n;
              among = Contains-append_right notes (n ∷ []) n (here n []);
              whole = w;
              listed = there.0;
              of_table = ap (λ (u : Table). u.0) there.1;
            })
            (Contains-append_cases G.pairs more pair h),
        λ c. ⊎_elim
            (λ old. Contains-append_left G.pairs more pair ((G.exact pair).1 (record {
              note = c.note;
              among = old;
              whole = c.whole;
              listed = c.listed;
              of_table = c.of_table;
            })))
            (λ last. Contains-append_right G.pairs more pair
            ((members_of_part t (cells_of m) pair).1 (
              subst (λ (k : Mutation). Contains (cells_of k) pair)
                  (sym (one_of n c.note (only_one n c.note last) w c.whole)) c.listed,
              same_table pair.0.table t c.of_table,
            )))
            (Contains-append_cases notes (n ∷ []) c.note c.among),
      );
    }

-- their merge is that of what the entries say
pub gathered_is : (t : Table) (notes : List EntryNote) (cells : CellBatches) (rows : Pairs)
    → (G : IsGathered t notes cells) → IsMerge G.pairs rows → IsMergeOf (IsCellOf notes t.0) rows
gathered_is t notes cells rows G = of_same (Contains G.pairs) (IsCellOf notes t.0) rows G.exact
