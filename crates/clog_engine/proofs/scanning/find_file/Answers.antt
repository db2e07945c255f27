use Rattle.std.proofs.Common.{List, ℕ, refl, sym, subst, ◌∙◌}
use Rattle.clog_disk.specs.Files.{Lists}
use Rattle.clog_engine.proofs.SegmentFiles.{listed, unlisted}
use Rattle.clog_engine.proofs.scanning.find_file.Goals as goal

pub returns-in-Ok-clause-finds : goal.returns-in-Ok-clause-finds
returns-in-Ok-clause-finds g c =
    listed (g.D.Disk.files c.args.disk.now) c.as_slice.result.now c.args.name.now
    (subst (λ (l : List (List ℕ)). Lists (g.D.Disk.files c.args.disk.now) l)
    (sym c.as_slice.ensures) c.in-Ok.ensures.names)
    (sym c.contains.ensures.value ∙ c.if-contains.true)

pub returns-in-Ok-2-clause-finds : goal.returns-in-Ok-2-clause-finds
returns-in-Ok-2-clause-finds g c = (
  refl,
  unlisted (g.D.Disk.files c.args.disk.now) c.as_slice.result.now c.args.name.now
      (subst (λ (l : List (List ℕ)). Lists (g.D.Disk.files c.args.disk.now) l)
      (sym c.as_slice.ensures) c.in-Ok.ensures.names)
      (sym c.contains.ensures.value ∙ c.if-contains.false),
)
