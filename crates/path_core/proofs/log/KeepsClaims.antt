-- Claims tile the log: each allowed step keeps it.
use Rattle.std.proofs.Common.{
  ◌≡◌,
  ℕ,
  zero,
  suc,
  ◌+◌,
  ◌-◌,
  ◌<◌,
  ◌≤◌,
  Bool,
  true,
  false,
  cond,
  List,
  [],
  ◌∷◌,
  ◌++◌,
  length,
  get_or,
  map,
  not,
  Some,
  refl,
  sym,
  ap,
  ◌∙◌,
  subst,
  arith,
  IsTrue,
  length-append,
}
use Rattle.std.proofs.lemmas.List.{
  get_or_append_left,
  get_or_push,
  get_or-map,
  length-map,
  get_or_default,
}
use Rattle.path_core.proofs.lists.Replaced.{push_at}
use Rattle.path_core.specs.declared.event.ClaimKind.{ClaimKind}
use Rattle.path_core.specs.declared.event.ClaimKind.TheVariants.{Entry, Marker}
use Rattle.op_core.specs.declared.count.Order.TheVariants.{Write, Append}
use Rattle.path_core.specs.declared.event.Event.{Event}
use Rattle.path_core.specs.declared.event.Event.TheVariants.{
  Look,
  Register,
  Close,
  OpenGroup,
  MoveCurrent,
  Expire,
  Advance,
  Claim,
  Switch,
  Raise,
  Finalise,
  TakeTurn,
  GiveTurn,
  Put,
}
use Rattle.path_core.specs.declared.state.Claim.{Claim as ClaimOf}
use Rattle.path_core.specs.declared.state.PathState.{PathState}
use Rattle.path_core.specs.Parts.{no_claim, is_entry, is_marker, is_marker_kind}
use Rattle.path_core.specs.Allowed.{is_unbarred_marker, IsStep}
use Rattle.path_core.specs.Next.{claim_of, barred_marker, next_of}
use Rattle.path_core.specs.Lawful.{IsSized}
use Rattle.path_core.specs.Promises.{AreApart}
use Rattle.path_core.specs.LawfulLog.{
  ClaimsTile,
  TileTo,
  StandsAt,
  key_behind,
  key_before,
  claim_in,
}
use Rattle.path_core.specs.Keys.{offset_of, first_offset}
use Rattle.path_core.proofs.log.NextClaim.{GoesOn, entry_goes_on, marker_goes_on}

-- one more claim
module _ (capacity ordinals log behind : ℕ) (claims : List ClaimOf) (c : ClaimOf)
    (T : TileTo capacity ordinals log claims)
    (N : GoesOn capacity ordinals log claims c behind) where
  abbrev longer : List ClaimOf
  longer = claims ++ c ∷ []

  -- claims that were there stay
  old : (i : ℕ) → i < length claims → claim_in longer i ≡ claim_in claims i
  old i inside = get_or_append_left claims (c ∷ []) no_claim i inside

  last : claim_in longer (length claims) ≡ c
  last = get_or_push claims c no_claim (length claims) refl

  before : (i : ℕ) → i ≤ length claims → key_before capacity longer i ≡ key_before capacity claims i
  before zero inside = refl
  before (suc i) inside = ap (λ (d : ClaimOf). key_behind d.what capacity d.start d.end)
      (old i (omega arith))

  at_last : key_before capacity longer (length longer) ≡ key_behind c.what capacity c.start c.end
  at_last = let long : length longer ≡ suc (length claims) = length-append claims (c ∷ [])
      ∙ omega arith in
      ap (key_before capacity longer) long
      ∙ ap (λ (d : ClaimOf). key_behind d.what capacity d.start d.end) last

  pub tile_longer : TileTo capacity ordinals behind (claims ++ c ∷ [])
  tile_longer = record {
    stands = push_at claims c no_claim (λ i d.
        StandsAt d.what capacity ordinals (key_before capacity longer i) d.start d.end)
        (λ i h. rw (before i (omega arith)) (T.stands i h))
        (rw (before (length claims) (omega arith)) (rw (← T.log_is_behind) N.stands));
    log_is_behind = N.log_is_behind ∙ sym at_last;
    apart = λ i j l h. push_at claims c no_claim
        (λ j d. (i : ℕ) → i < j → (claim_in longer i).end ≤ d.start)
        (λ j h i l. rw (old i (omega arith)) (T.apart i j l h))
        (λ i l. rw (old i l) (let b = T.below_log i l in let a = N.above in omega arith)) j h i l;
    forward = push_at claims c no_claim (λ i d. d.start ≤ d.end) T.forward N.forward;
    below_log = push_at claims c no_claim (λ i d. d.end ≤ behind)
        (λ i h. let b = T.below_log i h in let a = N.above in let f = N.forward in
        let l = N.below_log in omega arith) N.below_log;
    inside = push_at claims c no_claim (λ i d. IsTrue (is_entry d)
        → (first_offset ≤ offset_of d.start)
        × (offset_of d.start + (d.end - d.start) ≤ capacity)) T.inside N.inside;
    entry_before = push_at claims c no_claim
        (λ i d. IsTrue (is_marker d) → (k : ℕ) × (i ≡ suc k)
        × IsTrue (is_entry (claim_in longer k)))
        (λ i h m. let r = T.entry_before i h m in let l = r.1 in
        (r.0, r.1, rw (old r.0 (omega arith)) r.2))
        (λ m. let r = N.entry_before m in let l = r.1 in
        (r.0, r.1, rw (old r.0 (omega arith)) r.2));
    log_behind_front = N.log_behind_front;
    log_inside = N.log_inside;
    few_ordinals = let long = length-append claims (c ∷ []) in let f = T.few_ordinals in
        let n = N.near in omega arith;
    within_ordinals = N.within_ordinals;
  }

-- Claims of the same ranges tile as well.
pub record IsSameRange (c d : ClaimOf) : Type 0 where
  pub what : c.what ≡ d.what
  pub start : c.start ≡ d.start
  pub end : c.end ≡ d.end

module _ (claims : List ClaimOf) (f : ClaimOf → ClaimOf) (same : (c : ClaimOf)
    → IsSameRange (f c) c) where
  mapped : (P : ClaimKind → ℕ → ℕ → Type 0) (i : ℕ) → i < length claims
      → P (claim_in claims i).what (claim_in claims i).start (claim_in claims i).end
      → P (claim_in (map f claims) i).what (claim_in (map f claims) i).start
      (claim_in (map f claims) i).end
  mapped P i inside p =
      let s = same (claim_in claims i) in
      subst (λ (c : ClaimOf). P c.what c.start c.end)
      (sym (get_or-map f claims i no_claim no_claim inside))
      (subst (λ w. P w (f (claim_in claims i)).start (f (claim_in claims i)).end) (sym s.what)
      (subst (λ a. P (claim_in claims i).what a (f (claim_in claims i)).end) (sym s.start)
      (subst (λ b. P (claim_in claims i).what (claim_in claims i).start b) (sym s.end) p)))

  same_before : (capacity i : ℕ) → i ≤ length claims
      → key_before capacity (map f claims) i ≡ key_before capacity claims i
  same_before capacity zero inside = refl
  same_before capacity (suc k) inside = mapped (λ w a b. key_behind w capacity a b
      ≡ key_behind (claim_in claims k).what capacity (claim_in claims k).start
      (claim_in claims k).end) k (omega arith) refl

  pub tile_mapped : (capacity ordinals log : ℕ) → TileTo capacity ordinals log claims
      → TileTo capacity ordinals log (map f claims)
  tile_mapped capacity ordinals log T =
      let long = length-map claims f in record {
        stands = λ i h. let g : i < length claims = omega arith in
            mapped (λ w a b. StandsAt w capacity ordinals
            (key_before capacity (map f claims) i) a b) i g
            (rw (same_before capacity i (omega arith)) (T.stands i g));
        log_is_behind = T.log_is_behind ∙ sym (ap (key_before capacity (map f claims)) long
            ∙ same_before capacity (length claims) (omega arith));
        apart = λ i j l h. mapped (λ _ a _. (claim_in (map f claims) i).end ≤ a) j (omega arith)
            (mapped (λ _ _ b. b ≤ (claim_in claims j).start) i (omega arith)
            (T.apart i j l (omega arith)));
        forward = λ i h. mapped (λ _ a b. a ≤ b) i (omega arith) (T.forward i (omega arith));
        below_log = λ i h. mapped (λ _ a b. b ≤ log) i (omega arith) (T.below_log i (omega arith));
        inside = λ i h. mapped (λ w a b. IsTrue (not (is_marker_kind w))
            → (first_offset ≤ offset_of a) × (offset_of a + (b - a) ≤ capacity)) i (omega arith)
            (T.inside i (omega arith));
        entry_before = λ i h. mapped (λ w _ _. IsTrue (is_marker_kind w)
            → (k : ℕ) × (i ≡ suc k) × IsTrue (is_entry (claim_in (map f claims) k))) i (omega arith)
            (λ m. let r = T.entry_before i (omega arith) m in let l = r.1 in
            (r.0, r.1, mapped (λ w _ _. IsTrue (not (is_marker_kind w))) r.0 (omega arith) r.2));
        log_behind_front = T.log_behind_front;
        log_inside = T.log_inside;
        few_ordinals = let e = T.few_ordinals in omega arith;
        within_ordinals = T.within_ordinals;
      }

same_when_barred : (by group : ℕ) (c : ClaimOf) → IsSameRange (barred_marker by group c) c
same_when_barred by group c = choose (is_unbarred_marker by c)
  where
    choose : (b : Bool) → IsSameRange (cond b (record c { barrier = Some group }) c) c
    choose true = record { what = refl; start = refl; end = refl }
    choose false = record { what = refl; start = refl; end = refl }

-- Each allowed step keeps that the claims tile the log.
pub keeps_claims : (x : PathState) → IsSized x → ClaimsTile x → (e : Event) → IsStep x e
    → ClaimsTile (next_of x e)
keeps_claims x sized T (Claim by from to Entry) a = tile_longer x.capacity x.ordinals x.log to.0
    x.claims (claim_of x.capacity by from.0 to.0 Entry) T
    (entry_goes_on x by from to sized T a.row.3 a.row.4)
keeps_claims x sized T (Claim by from to Marker) a = tile_longer x.capacity x.ordinals x.log to.0
    x.claims (claim_of x.capacity by from.0 to.0 Marker) T
    (marker_goes_on x by from to sized T a.row.1 a.row.2 a.row.3)
keeps_claims x sized T (MoveCurrent by Append group) a = tile_mapped x.claims
    (barred_marker by x.append.current) (same_when_barred by x.append.current)
    x.capacity x.ordinals x.log T
keeps_claims x sized T (MoveCurrent by Write group) a = T
keeps_claims x sized T (Look by at) a = T
keeps_claims x sized T (Register by order group) a = T
keeps_claims x sized T (Close by order group carried) a = T
keeps_claims x sized T (OpenGroup by order group) a = T
keeps_claims x sized T (Expire by order group) a = T
keeps_claims x sized T (Advance by order group) a = T
keeps_claims x sized T (Switch by table memtable part) a = T
keeps_claims x sized T (Raise by table memtable to) a = T
keeps_claims x sized T (Finalise by table memtable) a = T
keeps_claims x sized T (TakeTurn by turn) a = T
keeps_claims x sized T (GiveTurn by turn) a = T
keeps_claims x sized T (Put by cursor value) a = T

-- claims that tile the log do not overlap
pub are_apart : (capacity ordinals log : ℕ) (claims : List ClaimOf)
    → TileTo capacity ordinals log claims → AreApart claims
are_apart capacity ordinals log claims T i j d below inside =
    subst (λ (a : ClaimOf). a.end ≤ (get_or claims j d).start)
    (get_or_default claims i no_claim d (omega arith))
    (subst (λ (b : ClaimOf). (claim_in claims i).end ≤ b.start)
    (get_or_default claims j no_claim d inside) (T.apart i j below inside))
