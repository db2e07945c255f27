-- The last marker of the log: which steps change it, and what they leave of it.
use Rattle.std.proofs.Common.{
  ◌≡◌,
  ℕ,
  Bool,
  true,
  false,
  ◌⊎◌,
  ◌||◌,
  ◌&&◌,
  ◌==◌,
  cond,
  List,
  [],
  ◌∷◌,
  map,
  Option,
  Some,
  None,
  refl,
  ap,
  ◌∙◌,
  subst,
}
use Rattle.std.specs.List.{list_any, fold}
use Rattle.std.specs.Option.{option_map}
use Rattle.std.proofs.lemmas.Bool.{and_right}
use Rattle.std.proofs.lemmas.List.Sums.{fold-append}
use Rattle.std.proofs.lemmas.Option.{none-some, same_Some}
use mathlib.Core.Logic.{inl, inr}
use Rattle.clog_base.specs.declared.position.Key.{Key}
use Rattle.op_core.specs.declared.count.Order.TheVariants.{Write, Append}
use Rattle.path_core.specs.declared.event.ClaimKind.TheVariants.{Entry, Marker}
use Rattle.path_core.specs.declared.event.Event.{Event}
use Rattle.path_core.specs.declared.event.Event.TheVariants.{MoveCurrent, Claim}
use Rattle.path_core.specs.declared.event.Turn.TheVariants.{Sync}
use Rattle.path_core.specs.declared.seat.Issue.TheVariants.{Rest, Opened}
use Rattle.path_core.specs.declared.state.Claim.{Claim as ClaimOf}
use Rattle.path_core.specs.declared.state.PathState.{PathState}
use Rattle.path_core.specs.Parts.{seat_of, last_marker, is_marker, HoldsTurn}
use Rattle.path_core.specs.Words.{by_of}
use Rattle.path_core.specs.Allowed.{IsStep, is_unbarred_marker}
use Rattle.path_core.specs.Next.{next_of, claim_of, barred_marker}
use Rattle.path_core.specs.Holders.{ChangesLastMarker}
use Rattle.path_core.proofs.orders.HeldTurns.{begun_is_held, held_holds}

-- The last marker of a list of claims.

abbrev pub later_marker : Option ClaimOf → ClaimOf → Option ClaimOf
later_marker o c = cond (is_marker c) (Some c) o

-- barriers that are given to markers
last_mapped : (f : ClaimOf → ClaimOf) → ((c : ClaimOf) → is_marker (f c) ≡ is_marker c)
    → (cs : List ClaimOf) (o : Option ClaimOf)
    → fold later_marker (option_map f o) (map f cs) ≡ option_map f (fold later_marker o cs)
last_mapped f same [] o = refl
last_mapped f same (c ∷ cs) o =
    ap (λ p. fold later_marker p (map f cs)) (choose (is_marker c) (same c))
    ∙ last_mapped f same cs (later_marker o c)
  where
    choose : (b : Bool) → is_marker (f c) ≡ b
        → cond (is_marker (f c)) (Some (f c)) (option_map f o)
        ≡ option_map f (cond b (Some c) o)
    choose true e = ap (λ (b : Bool). cond b (Some (f c)) (option_map f o)) e
    choose false e = ap (λ (b : Bool). cond b (Some (f c)) (option_map f o)) e

-- a claim that may get a barrier stays a marker, with its start and its writer
pub barred_is_marker : (by g : ℕ) (c : ClaimOf) → is_marker (barred_marker by g c) ≡ is_marker c
barred_is_marker by g c = choose (is_unbarred_marker by c)
  where
    choose : (b : Bool) → is_marker (cond b (record c { barrier = Some g }) c) ≡ is_marker c
    choose true = refl
    choose false = refl

pub barred_writer : (by g : ℕ) (c : ClaimOf) → (barred_marker by g c).by ≡ c.by
barred_writer by g c = choose (is_unbarred_marker by c)
  where
    choose : (b : Bool) → (cond b (record c { barrier = Some g }) c).by ≡ c.by
    choose true = refl
    choose false = refl

pub barred_start : (by g : ℕ) (c : ClaimOf) → (barred_marker by g c).start ≡ c.start
barred_start by g c = choose (is_unbarred_marker by c)
  where
    choose : (b : Bool) → (cond b (record c { barrier = Some g }) c).start ≡ c.start
    choose true = refl
    choose false = refl

-- the last marker is one
pub last_is_marker : (cs : List ClaimOf) (c : ClaimOf) → fold later_marker None cs ≡ Some c
    → is_marker c ≡ true
last_is_marker cs c h = found cs None (λ d q. absurd (none-some d q)) c h
  where
    found : (cs : List ClaimOf) (o : Option ClaimOf)
        → ((c : ClaimOf) → o ≡ Some c → is_marker c ≡ true) → (c : ClaimOf)
        → fold later_marker o cs ≡ Some c → is_marker c ≡ true
    found [] o known c h = known c h
    found (d ∷ cs) o known c h = found cs (later_marker o d) (choose (is_marker d) refl) c h
      where
        choose : (b : Bool) → is_marker d ≡ b → (c : ClaimOf) → cond b (Some d) o ≡ Some c
            → is_marker c ≡ true
        choose true e c q = subst (λ (k : ClaimOf). is_marker k ≡ true) (same_Some d c q) e
        choose false e c q = known c q

-- none of the seat's markers waits for a barrier after these
pub none_waits_now : (by g : ℕ) (cs : List ClaimOf)
    → list_any (is_unbarred_marker by) (map (barred_marker by g) cs) ≡ false
none_waits_now by g [] = refl
none_waits_now by g (c ∷ cs) =
    ap (λ (b : Bool). b || list_any (is_unbarred_marker by) (map (barred_marker by g) cs))
    (choose (is_unbarred_marker by c) refl) ∙ none_waits_now by g cs
  where
    choose : (b : Bool) → is_unbarred_marker by c ≡ b
        → is_unbarred_marker by (cond b (record c { barrier = Some g }) c) ≡ false
    choose true e = and_right (is_marker c && (c.by == by)) false refl
    choose false e = e

module _ (x : PathState) where
  -- any other step leaves it
  pub last_marker_stays : (e : Event) → (ChangesLastMarker e → ⊥)
      → last_marker (next_of x e) ≡ last_marker x
  last_marker_stays (Claim by from to Entry) other = fold-append later_marker None x.claims
      (claim_of x.capacity by from.0 to.0 Entry ∷ [])
  last_marker_stays (Claim by from to Marker) other = absurd (other tt)
  last_marker_stays (MoveCurrent by Append group) other = absurd (other tt)
  last_marker_stays (MoveCurrent by Write group) other = refl
  last_marker_stays e other = refl

  -- a marker that is claimed is the last one
  pub last_marker_claimed : (by : ℕ) (from to : Key)
      → last_marker (next_of x (Claim by from to Marker))
      ≡ Some (claim_of x.capacity by from.0 to.0 Marker)
  last_marker_claimed by from to = fold-append later_marker None x.claims
      (claim_of x.capacity by from.0 to.0 Marker ∷ [])

  -- its barrier is issued
  pub last_marker_barred : (by group : ℕ) → last_marker (next_of x (MoveCurrent by Append group))
      ≡ option_map (barred_marker by x.append.current) (last_marker x)
  last_marker_barred by group = last_mapped (barred_marker by x.append.current)
      (barred_is_marker by x.append.current) x.claims None

  -- who changes it holds the Sync turn
  pub changer_holds_sync : (e : Event) → IsStep x e → ChangesLastMarker e
      → HoldsTurn (seat_of x (by_of e)) Sync
  changer_holds_sync (Claim by from to Marker) a c = a.row.0
  changer_holds_sync (Claim by from to Entry) a c = absurd c
  changer_holds_sync (MoveCurrent by Append group) a c = held_holds (seat_of x by) (Opened Append)
      (begun_is_held (seat_of x by) (Opened Append)
      (λ q. let r : Opened Append ≡ Rest = q in cc) a.row.0)
  changer_holds_sync (MoveCurrent by Write group) a c = absurd c
  changer_holds_sync e a c = absurd c

  -- so it is left, or its holder changes it
  pub changes_by_holder : (e : Event) → IsStep x e → (last_marker (next_of x e) ≡ last_marker x)
      ⊎ (ChangesLastMarker e × HoldsTurn (seat_of x (by_of e)) Sync)
  changes_by_holder (Claim by from to Marker) a =
      inr (tt, changer_holds_sync (Claim by from to Marker) a tt)
  changes_by_holder (Claim by from to Entry) a =
      inl (last_marker_stays (Claim by from to Entry) (λ b. b))
  changes_by_holder (MoveCurrent by Append group) a =
      inr (tt, changer_holds_sync (MoveCurrent by Append group) a tt)
  changes_by_holder (MoveCurrent by Write group) a = inl refl
  changes_by_holder e a = inl refl
