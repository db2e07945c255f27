use Rattle.std.proofs.Common.{◌≡◌, length, refl, sym, subst, arith}
use Rattle.clog_base.specs.declared.cell.Cell.{Cell}
use Rattle.clog_base.specs.declared.cell.CellKey.{CellKey}
use Rattle.clog_cells.specs.Merge.{AreInOrder}
use Rattle.clog_table.specs.RawFields.{fields_of, key_of, cell_of, pair_of}
use Rattle.clog_table.specs.Cells.{IsAbove, BeginsWithCell}
use Rattle.clog_table.proofs.Grammar.{no_cell, cell_takes}
use Rattle.clog_table.proofs.Keys.{Pairs, order_goes_on, last_is_above}
use Rattle.clog_table.proofs.decoding.take_cell.Goals as goal

pub returns-in_default : goal.returns-in_default
returns-in_default c = (
  refl,
  no_cell (length c.args.bytes.now) c.args.table c.args.bytes.now _ c.in_default.ensures,
)

pub returns-then-not-is_above : goal.returns-then-not-is_above
returns-then-not-is_above c =
    let old = c.args.cells.now in
    let fields = fields_of c.in-Ok.raw in
    let t = cell_takes (length c.args.bytes.now) c.args.table c.args.bytes.now
    c.in-Ok.rest.now fields (λ i. omega (arith, c.type_inv.bytes i)) c.in-Ok.ensures in (
      refl,
      record {
        next = pair_of c.args.table fields;
        behind = c.in-Ok.rest.now;
        found = record { stored = t.1; spelled = t.0 };
        disordered = λ order.
            let above = last_is_above old (key_of c.args.table fields) (cell_of fields) order in
            let above' = subst (IsAbove old) (sym c.in_ok-key.ensures) above in
            let clash = c.if-not-is_above.ensures.1
            (subst (λ (l : Pairs). IsAbove l c.in_ok-key.key) (sym c.entries.ensures.entries)
            above') in
            cc clash;
      },
    )

pub push-requires : goal.push-requires
push-requires c =
    order_goes_on c.args.cells.now c.in_ok-key.key c.in_ok-cell.cell c.entries.ensures.map.ordered
    (subst (λ (l : Pairs). IsAbove l c.in_ok-key.key) c.entries.ensures.entries
    (c.if-not-is_above.ensures.0 refl))

pub returns : goal.returns
returns c =
    let fields = fields_of c.in-Ok.raw in
    let t = cell_takes (length c.args.bytes.now) c.args.table c.args.bytes.now
    c.in-Ok.rest.now fields (λ i. omega (arith, c.type_inv.bytes i)) c.in-Ok.ensures in
    let pair : CellKey × Cell = (c.in_ok-key.key, c.in_ok-cell.cell) in
    let same : ◌≡◌ {A = CellKey × Cell} (pair_of c.args.table fields) pair =
    λ i. (sym c.in_ok-key.ensures i, sym c.in_ok-cell.ensures i) in
    let here : BeginsWithCell c.args.table c.args.bytes.now (pair_of c.args.table fields)
    c.in-Ok.rest.now =
    record { stored = t.1; spelled = t.0 } in
    record {
      next = pair;
      found = subst (λ (p : CellKey × Cell). BeginsWithCell c.args.table c.args.bytes.now p
          c.in-Ok.rest.now)
          same here;
      joined = c.in_ok-push.ensures;
      ordered = subst AreInOrder (sym c.in_ok-push.ensures)
          (order_goes_on c.args.cells.now c.in_ok-key.key c.in_ok-cell.cell
          c.entries.ensures.map.ordered
          (subst (λ (l : Pairs). IsAbove l c.in_ok-key.key) c.entries.ensures.entries
          (c.if-not-is_above.ensures.0 refl)));
    }
