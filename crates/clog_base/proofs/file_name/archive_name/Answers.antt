use Rattle.std.proofs.Common.{arith, ap, ◌∙◌, codes, refl, lit<, lit≤}
use Rattle.clog_spec.specs.Names.{is_name}
use Rattle.clog_base.proofs.Names.{numbered_is_name}
use Rattle.clog_base.proofs.file_name.archive_name.Goals as goal

pub padded-requires : goal.padded-requires
padded-requires c =
    ap is_name c.put_numbered-len.ensures.text
    ∙ numbered_is_name (codes "Archive-CommitLog-6-") c.args.id (codes ".log") (omega arith)
    refl refl (lit< tt) (lit≤ tt)
