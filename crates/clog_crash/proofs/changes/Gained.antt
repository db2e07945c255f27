-- A segment that gains entries adds their cells, and changes nothing else.
use Rattle.std.proofs.Common.{ℕ, inl, inr, List, sym, subst}
use Rattle.std.specs.Prelude.{◌↔◌}
use Rattle.std.proofs.lemmas.Bool.{cases_eq}
use Rattle.std.proofs.lemmas.List.Elements.{
  Contains-append_left,
  Contains-append_right,
  Contains-append_cases,
}
use Rattle.clog_spec.specs.Names.{segment_name_of}
use Rattle.clog_base.specs.declared.cell.Cell.{Cell}
use Rattle.clog_base.specs.declared.cell.CellKey.{CellKey}
use Rattle.clog_scan.specs.Segment.{Entry}
use Rattle.clog_crash.specs.Changes.{DiffersAt, Gains}
use Rattle.clog_crash.specs.Covering.{Either}
use Rattle.clog_crash.specs.Readings.{
  Reading,
  IsLoggedIn,
  IsLoggedCellIn,
  RestoresIn,
  IsCellAmong,
}
use Rattle.clog_crash.specs.Restore.{end_position}
use Rattle.clog_crash.proofs.changes.Elsewhere.{
  skipped_now,
  logged_now,
  cell_now,
  still_logged,
  turned,
}

module _ (r q : Reading) (id : ℕ) (extra : List Entry) (g : Gains r q id extra) where
  back : DiffersAt (segment_name_of 6 id) q r
  back = turned (segment_name_of 6 id) r q g.others

  split : (pair : CellKey × Cell) → IsLoggedCellIn q pair
      → Either (RestoresIn r) (IsCellAmong extra) pair
  split pair c = elim (cases_eq c.id id) [
    | inr apart ↦ inl (inr (still_logged q r id g.fits back pair c
        (logged_now q r id g.fits back c.id c.entry apart c.logged)))
    | inl same ↦
        elim (Contains-append_cases g.old extra c.entry
        (g.now c.entry (subst (λ (n : ℕ). IsLoggedIn q n c.entry) same c.logged))) [
          | inl before ↦ inl (inr (still_logged q r id g.fits back pair c
              (subst (λ (n : ℕ). IsLoggedIn r n c.entry) (sym same) (g.stays c.entry before))))
          | inr new ↦ inr (record { entry = c.entry; listed = new; cell = c.cell })
        ]
  ]

  joined : (pair : CellKey × Cell) → IsLoggedCellIn r pair → IsLoggedCellIn q pair
  joined pair c = still_logged r q id g.fits g.others pair c (elim (cases_eq c.id id) [
    | inr apart ↦ logged_now r q id g.fits g.others c.id c.entry apart c.logged
    | inl same ↦ subst (λ (n : ℕ). IsLoggedIn q n c.entry) (sym same)
        (g.holds c.entry (Contains-append_left g.old extra c.entry
        (g.was c.entry (subst (λ (n : ℕ). IsLoggedIn r n c.entry) same c.logged))))
  ])

  added : (pair : CellKey × Cell) → IsCellAmong extra pair → IsLoggedCellIn q pair
  added pair c = record {
    id = id;
    entry = c.entry;
    logged = g.holds c.entry (Contains-append_right g.old extra c.entry c.listed);
    cell = c.cell;
    kept = λ skipped. g.live c.entry c.listed pair.0.table
        (skipped_now q r id g.fits back pair.0.table (end_position id c.entry) skipped);
  }

  pub gained : (pair : CellKey × Cell)
      → RestoresIn q pair ↔ Either (RestoresIn r) (IsCellAmong extra) pair
  gained pair = (
    λ restored. elim restored [
      | inl cell ↦ inl (inl (cell_now q r id g.fits back pair cell))
      | inr logged ↦ split pair logged
    ],
    λ either. elim either [
      | inl before ↦ elim before [
        | inl cell ↦ inl (cell_now r q id g.fits g.others pair cell)
        | inr logged ↦ inr (joined pair logged)
      ]
      | inr new ↦ inr (added pair new)
    ],
  )
