use Rattle.std.proofs.Common.{◌≡◌, sym, ap, ap₂, subst, ◌∙◌}
use Rattle.std.specs.FinMap as finmap
use Rattle.clog_spec.specs.Names.{table_name_of}
use Rattle.clog_base.specs.declared.cell.Table.{Table}
use Rattle.clog_crash.specs.Folder.{IsBase}
use Rattle.clog_segments.specs.Named.{HasSequence, OneHas}
use Rattle.clog_segments.proofs.Ids.{one_base}
use Rattle.clog_segments.proofs.laws.a_recovery_puts_one_file_a_table.Goals as goal

pub returns : goal.returns
returns c first name bytes other more a b same =
    let sequences : a.sequence ≡ b.sequence =
    one_base (OneHas (HasSequence b.file.table) (finmap.keys first)) 1 a.sequence b.sequence
    (subst (λ (t : Table).
    IsBase (OneHas (HasSequence t) (finmap.keys first)) 1 a.sequence) same a.next) b.next in
    a.named.form
    ∙ ap₂ table_name_of (ap (λ (t : Table). t.0) same) sequences
    ∙ sym b.named.form
