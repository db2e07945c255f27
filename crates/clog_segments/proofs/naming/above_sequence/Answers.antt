use Rattle.std.proofs.Common.{ℕ, sym, ◌∙◌, subst}
use Rattle.std.proofs.lemmas.Bool.{true≢false}
use Rattle.clog_spec.specs.Names.{IsTableName}
use Rattle.clog_base.specs.declared.cell.Table.{Table}
use Rattle.clog_base.proofs.NameLaws.{one_table}
use Rattle.clog_crash.specs.Folder.{IsBase}
use Rattle.clog_segments.specs.Named.{HasSequence}
use Rattle.clog_segments.proofs.Ids.{above_one, none_above}
use Rattle.clog_segments.proofs.naming.above_sequence.Goals as goal

pub returns-then-is_one_table : goal.returns-then-is_one_table
returns-then-is_one_table c =
    let name = c.args.name.now in
    let same = c.is_one_table.ensures.0 c.if-is_one_table.true in
    let named : HasSequence c.args.table name c.in-Some.sequence =
    subst (λ (t : Table). IsTableName name t.0 c.in-Some.sequence) same c.in-Some.ensures in
    subst (λ (n : ℕ). IsBase (HasSequence c.args.table name) c.args.next n)
    (sym c.max.ensures)
    (above_one (HasSequence c.args.table name) c.args.next c.in-Some.sequence named
    (λ n h. (one_table name c.args.table.0 n c.args.table.0 c.in-Some.sequence h named).1))

pub returns : goal.returns
returns c =
    let name = c.args.name.now in
    none_above (HasSequence c.args.table name) c.args.next (λ n h.
    let one = one_table name c.in-Some.of.0 c.in-Some.sequence c.args.table.0 n c.in-Some.ensures h
    in true≢false (sym (c.is_one_table.ensures.1 (λ i. record { 0 = one.0 i }))
    ∙ c.if-is_one_table.false))
