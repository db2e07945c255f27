use Rattle.std.proofs.Common.{
  ◌≡◌,
  ℕ,
  List,
  true,
  false,
  codes,
  refl,
  ap,
  ◌∙◌,
  arith,
  lit<,
  lit≤,
}
use Rattle.clog_spec.specs.Names.{is_name, IsSegmentName}
use Rattle.clog_base.proofs.Names.{two_numbered_is_name}
use Rattle.clog_words.proofs.commands.segment_name.Goals as goal

segment_is_name : (name : List ℕ) (id : ℕ) → IsSegmentName name 6 id → is_name name ≡ true
segment_is_name name id segment =
    ap is_name segment.form
    ∙ two_numbered_is_name (codes "CommitLog-") 6 id (codes ".log") (omega arith)
    (omega (arith, segment.id_fits)) refl refl (lit< tt) (lit≤ tt)

pub returns-in_default : goal.returns-in_default
returns-in_default c id segment =
    let none : false ≡ true =
    c.in_default.ensures.made.1
    (ap is_name c.as_bytes.ensures.value ∙ segment_is_name c.args.word.now id segment) in
    cc
