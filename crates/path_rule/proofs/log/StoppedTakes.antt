-- A stopped log takes no marker, and no group of the append order.
use Rattle.std.proofs.Common.{
  ◌≡◌,
  ℕ,
  ◌<◌,
  Bool,
  true,
  false,
  cond,
  List,
  [],
  ◌∷◌,
  map,
  length,
  refl,
  sym,
  ap,
  ◌∙◌,
  subst,
  arith,
  length-append,
  length-set,
}
use Rattle.std.specs.List.{filter}
use Rattle.std.proofs.lemmas.Bool.{false≢true}
use Rattle.std.proofs.lemmas.List.Elements.{filter-append}
use Rattle.op_core.specs.declared.count.Order.TheVariants.{Append, Write}
use Rattle.path_core.specs.declared.event.ClaimKind.TheVariants.{Entry, Marker}
use Rattle.path_core.specs.declared.event.Cursor.TheVariants.{OldestLive, Stopped, Synced}
use Rattle.path_core.specs.declared.event.Event.{Event}
use Rattle.path_core.specs.declared.event.Event.TheVariants.{
  Advance,
  Claim,
  Close,
  Expire,
  MoveCurrent,
  OpenGroup,
  Put,
  Register,
}
use Rattle.path_core.specs.declared.state.Claim.{Claim as ClaimOf}
use Rattle.path_core.specs.declared.state.PathState.{PathState}
use Rattle.path_core.specs.Allowed.{IsStep}
use Rattle.path_core.specs.Next.{barred_marker, claim_of, claims_after, groups_after, next_of}
use Rattle.path_core.specs.Parts.{is_marker}
use Rattle.path_core.specs.Runs.{Past}
use Rattle.path_core.proofs.log.MarkerSteps.{barred_is_marker}
use Rattle.path_rule.specs.Rule.{AreBuilt, IsBuilt}
use Rattle.path_rule.specs.Stopped.{TakesNothing}

-- a claim in front of each of two lists, where both count or neither does
one_more : (b m : Bool) (c d : ClaimOf) (cs ds : List ClaimOf) → b ≡ m → length ds ≡ length cs
    → length (cond b (d ∷ ds) ds) ≡ length (cond m (c ∷ cs) cs)
one_more true true c d cs ds same rest = omega (arith, rest)
one_more false false c d cs ds same rest = rest
one_more true false c d cs ds same rest = absurd (false≢true (sym same))
one_more false true c d cs ds same rest = absurd (false≢true same)

-- a marker that gets its barrier is a marker still
as_many : (by g : ℕ) (cs : List ClaimOf)
    → length (filter is_marker (map (barred_marker by g) cs)) ≡ length (filter is_marker cs)
as_many by g [] = refl
as_many by g (c ∷ cs) = one_more (is_marker (barred_marker by g c)) (is_marker c) c
    (barred_marker by g c) (filter is_marker cs) (filter is_marker (map (barred_marker by g) cs))
    (barred_is_marker by g c) (as_many by g cs)

module _ (opened : ℕ) (x : PathState) (stopped : 0 < x.stopped) where
  same_markers : (e : Event) → IsBuilt opened x e
      → length (filter is_marker (claims_after x e)) ≡ length (filter is_marker x.claims)
  same_markers (Claim by from to Marker) runs = absurd (omega (arith, stopped, runs))
  same_markers (Claim by from to Entry) runs = let more = ap (λ (l : List ClaimOf). length l)
      (filter-append is_marker x.claims (claim_of x.capacity by from.0 to.0 Entry ∷ []))
      ∙ length-append (filter is_marker x.claims) [] in omega (arith, more)
  same_markers (MoveCurrent by Append g) runs = as_many by x.append.current x.claims
  same_markers (MoveCurrent by Write g) runs = refl
  same_markers e runs = refl

  same_groups : (e : Event) → IsBuilt opened x e
      → length (groups_after Append x.append e).tallies ≡ length x.append.tallies
  same_groups (OpenGroup by Append g) runs = absurd (let none = runs.1 in
      omega (arith, stopped, none))
  same_groups (OpenGroup by Write g) runs = refl
  same_groups (Register by Append g) runs = length-set x.append.tallies g _
  same_groups (Register by Write g) runs = refl
  same_groups (Close by Append g carried) runs = length-set x.append.tallies g _
  same_groups (Close by Write g carried) runs = refl
  same_groups (Expire by Append g) runs = length-set x.append.tallies g _
  same_groups (Expire by Write g) runs = refl
  same_groups (MoveCurrent by Append g) runs = refl
  same_groups (MoveCurrent by Write g) runs = refl
  same_groups (Advance by Append g) runs = refl
  same_groups (Advance by Write g) runs = refl
  same_groups e runs = refl

  -- it stays stopped
  still : (e : Event) → IsStep x e → (next_of x e).stopped ≡ x.stopped
  still (Put by Stopped value) a = absurd (let none = a.row.2 in omega (arith, stopped, none))
  still (Put by Synced value) a = refl
  still (Put by (OldestLive t) value) a = refl
  still e a = refl

pub takes_nothing : (opened : ℕ) (es : List Event) (x y : PathState) (run : Past x es y)
    → AreBuilt opened x es y run → 0 < x.stopped → TakesNothing x y
takes_nothing opened [] x y run built above = subst (TakesNothing x) run
    (record { stopped = refl; markers = refl; groups = refl })
takes_nothing opened (e ∷ es) x y run built above =
    let T = takes_nothing opened es x run.0 run.1 built.1 above in
    let so = T.stopped in let stopped : 0 < run.0.stopped = omega (arith, so, above) in
    subst (TakesNothing x) run.4 (record {
      stopped = still opened run.0 stopped e run.3 ∙ T.stopped;
      markers = same_markers opened run.0 stopped e built.0 ∙ T.markers;
      groups = same_groups opened run.0 stopped e built.0 ∙ T.groups;
    })
