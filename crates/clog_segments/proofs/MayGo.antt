-- What stands at a name of a segment that was to go, where the disk has failed.
use Rattle.std.proofs.Common.{
  ◌≡◌,
  ℕ,
  inl,
  inr,
  List,
  Option,
  Some,
  None,
  refl,
  sym,
  ap,
  subst,
}
use Rattle.std.specs.Prelude.{Err, Ok, OnErr, Result}
use Rattle.std.specs.FinMap as finmap
use Rattle.clog_spec.specs.Names.{archive_name_of, segment_name_of}
use Rattle.clog_disk.specs.Files.{Files, MayPutAt, Told, at_name, with_at}
use Rattle.clog_disk.proofs.Named.{gone_here, put_here}
use Rattle.clog_segments.specs.Beside.{MayBeGoing, StandsAs}

at_put : (f : Files) (name : List ℕ) (what : Option (List ℕ))
    → finmap.get (with_at f name what) name ≡ what
at_put f name None = gone_here f name
at_put f name (Some bytes) = put_here f name bytes

-- nothing has changed, or something was put at the name
put_stands : (told now : Option Files) (name : List ℕ) (what : Option (List ℕ))
    (P : Files → Option (List ℕ) → Type 0) → MayPutAt told now name what
    → ((f : Files) → told ≡ Some f → P f (finmap.get f name))
    → ((f : Files) → told ≡ Some f → P f what) → StandsAs name P told now
put_stands told now name what P may still turned f is =
    elim (subst (λ (o : Option Files). MayPutAt o now name what) is may) [
      | inl same ↦ subst (λ (o : Option Files). Told o (λ g. P f (finmap.get g name))) (sym same)
          (still f is)
      | inr puts ↦ subst (λ (o : Option Files). Told o (λ g. P f (finmap.get g name))) (sym puts)
          (subst (P f) (sym (at_put f name what)) (turned f is))
    ]

-- its own name was to go
pub removed_stands : (told now : Option Files) (id : ℕ)
    → MayPutAt told now (segment_name_of 6 id) None
    → StandsAs (segment_name_of 6 id) (MayBeGoing id (segment_name_of 6 id)) told now
removed_stands told now id may =
    let own = segment_name_of 6 id in
    put_stands told now own None (MayBeGoing id own) may (λ f is. inl refl)
    (λ f is. inr (inl (refl, refl)))

-- its archive name was to come
pub linked_stands : {T E : Type 0} (told now : Option Files) (id : ℕ) (from to : List ℕ)
    → from ≡ segment_name_of 6 id → to ≡ archive_name_of id → (r : Result T E)
    → OnErr r (MayPutAt told now to (at_name told from))
    → OnErr r (StandsAs (archive_name_of id) (MayBeGoing id (archive_name_of id)) told now)
linked_stands told now id from to from_is to_is (Ok done) may = tt
linked_stands told now id from to from_is to_is (Err fault) may =
    let own = segment_name_of 6 id in
    let archive = archive_name_of id in
    let at : MayPutAt told now archive (at_name told own) =
    subst (λ (name : List ℕ). MayPutAt told now name (at_name told own)) to_is
    (subst (λ (name : List ℕ). MayPutAt told now to (at_name told name)) from_is may) in
    put_stands told now archive (at_name told own) (MayBeGoing id archive) at (λ f is. inl refl)
    (λ f is. inr (inr (refl, ap (λ (o : Option Files). at_name o own) is)))
