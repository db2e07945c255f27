use Rattle.std.proofs.Common.{arith, ap, ◌∙◌, codes, refl, lit<, lit≤}
use Rattle.clog_spec.specs.Names.{is_name}
use Rattle.clog_base.proofs.Names.{two_numbered_is_name}
use Rattle.clog_base.proofs.file_name.versioned_name.Goals as goal

pub padded-requires : goal.padded-requires
padded-requires c =
    ap is_name c.put_two_numbered-len.ensures.text
    ∙ two_numbered_is_name (codes "CommitLog-") c.from.result c.args.id (codes ".log")
    (omega arith) (omega arith) refl refl (lit< tt) (lit≤ tt)
