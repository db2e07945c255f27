-- A segment that table files stand for may go.
use Rattle.std.proofs.Common.{ℕ, inl, inr, sym, subst}
use Rattle.std.specs.Prelude.{◌↔◌}
use Rattle.std.proofs.lemmas.Bool.{cases_eq}
use Rattle.clog_spec.specs.Names.{segment_name_of}
use Rattle.clog_base.specs.declared.cell.Cell.{Cell}
use Rattle.clog_base.specs.declared.cell.CellKey.{CellKey}
use Rattle.clog_crash.specs.Changes.{DiffersAt, Loses}
use Rattle.clog_crash.specs.Readings.{
  Reading,
  IsLoggedIn,
  IsSkippedIn,
  IsLoggedCellIn,
  RestoresIn,
}
use Rattle.clog_crash.specs.Restore.{end_position}
use Rattle.clog_crash.proofs.changes.Elsewhere.{logged_now, cell_now, still_logged, turned}

module _ (r q : Reading) (id : ℕ) (g : Loses r q id) where
  back : DiffersAt (segment_name_of 6 id) q r
  back = turned (segment_name_of 6 id) r q g.others

  stood : (pair : CellKey × Cell) → IsLoggedCellIn q pair → IsLoggedCellIn r pair
  stood pair c = still_logged q r id g.fits back pair c (elim (cases_eq c.id id) [
    | inr apart ↦ logged_now q r id g.fits back c.id c.entry apart c.logged
    | inl same ↦ absurd (g.none c.entry
        (subst (λ (n : ℕ). IsLoggedIn q n c.entry) same c.logged))
  ])

  stands : (pair : CellKey × Cell) → IsLoggedCellIn r pair → IsLoggedCellIn q pair
  stands pair c = still_logged r q id g.fits g.others pair c (elim (cases_eq c.id id) [
    | inr apart ↦ logged_now r q id g.fits g.others c.id c.entry apart c.logged
    | inl same ↦ absurd (c.kept (subst
        (λ (n : ℕ). IsSkippedIn r pair.0.table (end_position n c.entry)) (sym same)
        (g.covered c.entry (subst (λ (n : ℕ). IsLoggedIn r n c.entry) same c.logged) pair c.cell)))
  ])

  pub lost : (pair : CellKey × Cell) → RestoresIn q pair ↔ RestoresIn r pair
  lost pair = (
    λ restored. elim restored [
      | inl cell ↦ inl (cell_now q r id g.fits back pair cell)
      | inr logged ↦ inr (stood pair logged)
    ],
    λ restored. elim restored [
      | inl cell ↦ inl (cell_now r q id g.fits g.others pair cell)
      | inr logged ↦ inr (stands pair logged)
    ],
  )
