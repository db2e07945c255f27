use Rattle.std.proofs.Common.{
  ◌≡◌,
  ◌∙◌,
  ℕ,
  ◌-◌,
  List,
  [],
  ◌∷◌,
  ◌++◌,
  length,
  ap,
  arith,
  length-append,
}
use Rattle.std.specs.Prelude.{slice_set}
use Rattle.std.proofs.Math.Seq.{set-append_seam}
use Rattle.clog_disk.specs.declared.stored.Undo.{Undo}
use Rattle.clog_disk.specs.declared.stored.Undo.TheVariants.{Was}
use Rattle.clog_disk.proofs.moved.note_moved.Goals as goal

pub returns-in-Some : goal.returns-in-Some
returns-in-Some c before last is =
    let u = c.args.undos.now in
    let x = Was c.args.name.now c.args.file in
    let size : u.len - 1 ≡ length before =
    omega (arith, u.ok.0, ap length is, length-append before (last ∷ [])) in
    ap (λ (l : List Undo). slice_set l (u.len - 1) x) is
    ∙ ap (λ (k : ℕ). slice_set (before ++ last ∷ []) k x) size
    ∙ set-append_seam before last [] x
