-- What the folder of the worked row restores to.
use Rattle.std.proofs.Common.{◌≡◌, ◌⊎◌, ◌↔◌, ◌<◌, ◌^◌, ℕ, [], ◌∷◌, inl, inr, subst, arith}
use Rattle.std.specs.Prelude.{Contains}
use Rattle.clog_spec.specs.Sizes.{most_tables}
use Rattle.clog_base.specs.declared.cell.Cell.{Cell}
use Rattle.clog_base.specs.declared.cell.CellKey.{CellKey}
use Rattle.clog_base.specs.declared.cell.Table.{Table}
use Rattle.clog_cells.proofs.Merging.{of_itself, of_same}
use Rattle.clog_crash.specs.Restore.{IsLoggedCell, IsRestored, IsSkipped, IsTableCell, Restores}
use Rattle.clog_crash.specs.Worked.{filed, first_table, second_table, logged, the_folder}
use Rattle.clog_base.proofs.Members.{here, further, first_or_further, only_one}
use Rattle.clog_crash.proofs.worked.Files.{
  filed_before_logged,
  logged_before_filed,
  one_in_order,
}
use Rattle.clog_crash.proofs.worked.Cells.{filed_is, is_filed, logged_cell_is}
use Rattle.clog_crash.proofs.worked.Skipping.{
  is_logged,
  its_end,
  not_kept,
  not_skipped,
  not_skipped_by_another,
}

pub skipped : IsRestored (the_folder first_table 60) (filed first_table ∷ [])
skipped =
    of_same (Contains (filed first_table ∷ [])) (Restores (the_folder first_table 60))
    (filed first_table ∷ []) (λ pair. (
      λ h. inl (subst (λ (p : CellKey × Cell). IsTableCell (the_folder first_table 60) p)
          (only_one (filed first_table) pair h)
          (is_filed first_table 60 (omega arith) (omega arith))),
      λ r. elim r [
        | inl cell ↦ subst (λ (p : CellKey × Cell). Contains (filed first_table ∷ []) p)
            (filed_is first_table 60 pair (omega arith) (omega arith) cell)
            (here (filed first_table) [])
        | inr cell ↦ absurd (not_kept pair cell)
      ],
    )) (of_itself (filed first_table ∷ []) (one_in_order (filed first_table)))

-- each of the two cells is restored, where the entry is not skipped
both : (table : Table) (upper : ℕ) → table.0 < most_tables → upper < 2 ^ 32
    → ¬ IsSkipped (the_folder table upper) first_table its_end → (pair : CellKey × Cell)
    → ((filed table ≡ pair) ⊎ (logged ≡ pair)) ↔ Restores (the_folder table upper) pair
both table upper few fits not_skipped pair = (
  λ one. elim one [
    | inl same ↦ inl (subst (λ (p : CellKey × Cell). IsTableCell (the_folder table upper) p) same
        (is_filed table upper few fits))
    | inr same ↦ inr (subst (λ (p : CellKey × Cell). IsLoggedCell (the_folder table upper) p) same
        (is_logged table upper few not_skipped))
  ],
  λ r. elim r [
    | inl cell ↦ inl (filed_is table upper pair few fits cell)
    | inr cell ↦ inr (logged_cell_is table upper pair few cell)
  ],
)

-- a list of two has each of them and no other
of_two : (x y pair : CellKey × Cell)
    → Contains (x ∷ y ∷ []) pair ↔ ((x ≡ pair) ⊎ (y ≡ pair))
of_two x y pair = (
  λ h. elim (first_or_further x (y ∷ []) pair h) [
    | inl same ↦ inl same
    | inr more ↦ inr (only_one y pair more)
  ],
  λ one. elim one [
    | inl same ↦ subst (λ (p : CellKey × Cell). Contains (x ∷ y ∷ []) p) same (here x (y ∷ []))
    | inr same ↦ subst (λ (p : CellKey × Cell). Contains (x ∷ y ∷ []) p) same
        (further x (y ∷ []) y (here y []))
  ],
)

pub kept : IsRestored (the_folder first_table 59) (filed first_table ∷ logged ∷ [])
kept =
    of_same (Contains (filed first_table ∷ logged ∷ [])) (Restores (the_folder first_table 59))
    (filed first_table ∷ logged ∷ []) (λ pair.
    let list = of_two (filed first_table) logged pair in
    let folder = both first_table 59 (omega arith) (omega arith) not_skipped pair in
    (λ h. folder.0 (list.0 h), λ r. list.1 (folder.1 r)))
    (of_itself (filed first_table ∷ logged ∷ []) filed_before_logged)

swapped : {A B : Type 0} → A ⊎ B → B ⊎ A
swapped one = elim one [
  | inl a ↦ inr a
  | inr b ↦ inl b
]

pub other_table : IsRestored (the_folder second_table 60) (logged ∷ filed second_table ∷ [])
other_table =
    of_same (Contains (logged ∷ filed second_table ∷ []))
    (Restores (the_folder second_table 60)) (logged ∷ filed second_table ∷ []) (λ pair.
    let list = of_two logged (filed second_table) pair in
    let folder = both second_table 60 (omega arith) (omega arith) not_skipped_by_another pair in
    (λ h. folder.0 (swapped (list.0 h)), λ r. list.1 (swapped (folder.1 r))))
    (of_itself (logged ∷ filed second_table ∷ []) logged_before_filed)
