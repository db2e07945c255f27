-- A segment that was just put may be dropped.
use Rattle.std.proofs.Common.{
  ◌≡◌,
  ℕ,
  ◌+◌,
  ◌<◌,
  ◌^◌,
  List,
  [],
  ◌∷◌,
  Option,
  Some,
  sym,
  ap,
  subst,
  arith,
}
use Rattle.std.specs.Prelude.{IfSome, is_some}
use Rattle.std.specs.FinMap as finmap
use Rattle.clog_spec.specs.Names.{segment_name_of}
use Rattle.clog_base.proofs.Members.{only_one}
use Rattle.clog_disk.specs.Files.{Files}
use Rattle.clog_disk.proofs.Named.{put_here}
use Rattle.clog_crash.specs.Folder.{IsHeld}
use Rattle.clog_segments.specs.Discards.{AreDroppable}

pub one_droppable : (old : Files) (name bytes : List ℕ) (base : ℕ) (told : Option Files)
    → told ≡ Some (finmap.insert old name bytes) → name ≡ segment_name_of 6 (base + 0)
    → base < 2 ^ 63 → AreDroppable told base (0 ∷ [])
one_droppable old name bytes base told puts same low = record {
  fits = λ o among. omega (arith, only_one 0 o among, low);
  ascending = λ i j d less inside. absurd (omega (arith, less, inside));
  there = λ o among.
      subst (λ (k : ℕ). IfSome told (λ f. IsHeld f (segment_name_of 6 (base + k))))
      (only_one 0 o among)
      (subst (λ (x : Option Files). IfSome x (λ f. IsHeld f (segment_name_of 6 (base + 0))))
      (sym puts)
      (subst (IsHeld (finmap.insert old name bytes)) same
      (ap is_some (put_here old name bytes))));
}
