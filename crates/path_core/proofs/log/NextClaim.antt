-- What is asked of one more claim, and that an allowed claim of an entry or of a marker meets it.
use Rattle.std.proofs.Common.{
  ◌≡◌,
  ℕ,
  suc,
  ◌+◌,
  ◌-◌,
  ◌/◌,
  ◌<◌,
  ◌≤◌,
  List,
  [],
  ◌∷◌,
  length,
  not,
  None,
  refl,
  sym,
  ap,
  ◌∙◌,
  subst,
  arith,
  IsTrue,
}
use Rattle.std.proofs.lemmas.Bool.{false≢true}
use Rattle.path_core.specs.declared.event.ClaimKind.{ClaimKind}
use Rattle.path_core.specs.declared.event.ClaimKind.TheVariants.{Entry, Marker}
use Rattle.clog_base.specs.declared.position.Key.{Key}
use Rattle.path_core.specs.declared.state.Claim.{Claim as ClaimOf}
use Rattle.path_core.specs.declared.state.PathState.{PathState}
use Rattle.path_core.specs.Parts.{is_entry, is_marker, is_marker_kind}
use Rattle.path_core.specs.Allowed.{is_entry_last}
use Rattle.path_core.specs.Next.{claim_of}
use Rattle.path_core.specs.Lawful.{IsSized}
use Rattle.path_core.specs.LawfulLog.{
  ClaimsTile,
  TileTo,
  StandsAt,
  EntryStandsAt,
  key_behind,
  key_before,
  claim_in,
}
use Rattle.path_core.specs.Keys.{
  ordinal_of,
  offset_of,
  first_offset,
  least_entry,
  entry_start,
  marker_end,
  behind_marker,
  claimed_size,
  MovesLog,
}
use Rattle.path_core.proofs.log.ClaimPlaces.{IsPlacedAt, entry_placed, marker_placed}

-- What is asked of one more claim, and of the log key behind it.
pub record GoesOn (capacity ordinals log : ℕ) (claims : List ClaimOf) (c : ClaimOf) (behind : ℕ) :
    Type 0 where
  pub stands : StandsAt c.what capacity ordinals log c.start c.end
  pub log_is_behind : behind ≡ key_behind c.what capacity c.start c.end
  pub above : log ≤ c.start
  pub forward : c.start ≤ c.end
  pub below_log : c.end ≤ behind
  pub inside : IsTrue (is_entry c)
      → (first_offset ≤ offset_of c.start) × (offset_of c.start + (c.end - c.start) ≤ capacity)
  pub entry_before : IsTrue (is_marker c)
      → (k : ℕ) × (length claims ≡ suc k) × IsTrue (is_entry (claim_in claims k))
  pub log_behind_front : first_offset ≤ offset_of behind
  pub log_inside : offset_of behind < capacity
  pub near : ordinal_of behind ≤ ordinal_of log + 1
  pub within_ordinals : ordinal_of behind ≤ ordinals

-- the claim of a range
abbrev claimed : ℕ → ℕ → ℕ → ClaimKind → ClaimOf
claimed by start end what = record {
  by = by;
  start = start;
  end = end;
  what = what;
  barrier = None;
}

-- an entry's claim of some bytes
entry_next : (capacity ordinals log by size start : ℕ) (claims : List ClaimOf)
    → capacity ≤ 33554432 → least_entry ≤ size → size ≤ capacity / 2
    → start ≡ entry_start capacity log size → IsPlacedAt capacity log size start
    → ordinal_of (start + size) < ordinals
    → GoesOn capacity ordinals log claims (claimed by start (start + size) Entry) (start + size)
entry_next capacity ordinals log by size start claims few least small starts P below =
    let d : start + size - start ≡ size = omega arith in
    let above = P.above in
    let front = P.behind_front in
    let room = P.room in
    let near = P.near in
    record {
      stands = record {
        least = omega arith;
        greatest = omega arith;
        starts = rw d starts;
        ends = rw d (ap (λ (n : ℕ). n + size) starts);
        segment = below;
      };
      log_is_behind = refl;
      above = above;
      forward = omega arith;
      below_log = omega arith;
      inside = λ _. (front, omega arith);
      entry_before = λ m. absurd (false≢true m);
      log_behind_front = omega arith;
      log_inside = omega arith;
      near = omega arith;
      within_ordinals = omega arith;
    }

pub entry_goes_on : (x : PathState) (by : ℕ) (from to : Key) → IsSized x → ClaimsTile x
    → from.0 ≡ x.log → MovesLog Entry x.capacity x.ordinals from.0 to.0
    → GoesOn x.capacity x.ordinals x.log x.claims (claim_of x.capacity by from.0 to.0 Entry) to.0
entry_goes_on x by from to sized T is moves =
    let size = claimed_size from.0 to.0 in
    let start = entry_start x.capacity x.log size in
    let placed = entry_placed x.capacity x.log size sized.limits.least_capacity moves.1
    T.log_behind_front in
    let ends : to.0 ≡ start + size
    = moves.2 ∙ ap (λ (k : ℕ). entry_start x.capacity k size + size) is in
    let starts : to.0 - size ≡ start = by_end to.0 size start ends in
    let new = entry_next x.capacity x.ordinals x.log by size start x.claims
    sized.limits.greatest_capacity moves.0 moves.1 refl placed (subst (λ
    (k : ℕ). ordinal_of k < x.ordinals) ends moves.3) in
    subst (λ (b : ℕ). GoesOn x.capacity x.ordinals x.log x.claims
    (claimed by (to.0 - size) b Entry) b) (sym ends)
    (subst (λ (a : ℕ). GoesOn x.capacity x.ordinals x.log x.claims
    (claimed by a (start + size) Entry) (start + size)) (sym starts) new)
  where
    by_end : (to size start : ℕ) → to ≡ start + size → to - size ≡ start
    by_end to size start e = omega arith

-- the entry that is the last claim, where one is
last_entry : (claims : List ClaimOf) → IsTrue (is_entry (claim_in claims (length claims - 1)))
    → (k : ℕ) × (length claims ≡ suc k) × IsTrue (is_entry (claim_in claims k))
last_entry [] m = absurd (false≢true m)
last_entry (c ∷ cs) m = (
  length cs,
  refl,
  subst (λ (k : ℕ). IsTrue (is_entry (claim_in (c ∷ cs) k)))
      (omega arith) m,
)

-- the log stands in a segment that there is, behind an entry
below_ordinals : (capacity ordinals log : ℕ) (claims : List ClaimOf)
    → TileTo capacity ordinals log claims → (k : ℕ) → length claims ≡ suc k
    → IsTrue (is_entry (claim_in claims k)) → ordinal_of log < ordinals
below_ordinals capacity ordinals log claims T k long entry =
    by (claim_in claims k).what refl (T.stands k (omega arith)) entry
  where
    behind : log ≡ key_before capacity claims (suc k)
    behind = T.log_is_behind ∙ ap (key_before capacity claims) long

    by : (what : ClaimKind) → (claim_in claims k).what ≡ what
        → StandsAt what capacity ordinals (key_before capacity claims k)
        (claim_in claims k).start (claim_in claims k).end
        → IsTrue (not (is_marker_kind what)) → ordinal_of log < ordinals
    by Entry e s entry = let l : log ≡ (claim_in claims k).end
        = behind ∙ ap (λ (w : ClaimKind). key_behind w capacity (claim_in claims k).start
        (claim_in claims k).end) e in let b = s.segment in
        subst (λ (n : ℕ). ordinal_of n < ordinals) (sym l) b
    by Marker e s entry = absurd (false≢true entry)

pub marker_goes_on : (x : PathState) (by : ℕ) (from to : Key) → IsSized x → ClaimsTile x
    → IsTrue (is_entry_last x)
    → from.0 ≡ x.log → MovesLog Marker x.capacity x.ordinals from.0 to.0
    → GoesOn x.capacity x.ordinals x.log x.claims (claim_of x.capacity by from.0 to.0 Marker) to.0
marker_goes_on x by from to sized T entry is moves =
    let placed = marker_placed x.capacity x.log sized.limits.least_capacity
    sized.limits.greatest_capacity T.log_behind_front in
    let last = last_entry x.claims entry in
    let room = below_ordinals x.capacity x.ordinals x.log x.claims T last.0 last.1 last.2 in
    let P : ℕ → ℕ → Type 0 = λ f b. GoesOn x.capacity x.ordinals x.log x.claims
    (claimed by f (marker_end x.capacity f) Marker) b in
    let new : P x.log (behind_marker x.capacity x.log) = record {
      stands = record { starts = refl; ends = refl };
      log_is_behind = refl;
      above = omega arith;
      forward = placed.forward;
      below_log = placed.behind_end;
      inside = λ m. absurd (false≢true m);
      entry_before = λ _. last;
      log_behind_front = placed.behind_front;
      log_inside = placed.inside;
      near = placed.near;
      within_ordinals = let n = placed.near in omega arith;
    } in
    subst (P from.0) (sym moves) (subst (λ (f : ℕ). P f (behind_marker x.capacity f)) (sym is) new)

-- an entry's claim ends above the log key
pub goes_above : (capacity ordinals log behind : ℕ) (claims : List ClaimOf) (c : ClaimOf)
    → GoesOn capacity ordinals log claims c behind → c.what ≡ Entry → log < c.end
goes_above capacity ordinals log behind claims c G is =
    let s : EntryStandsAt capacity ordinals log c.start c.end
    = subst (λ w. StandsAt w capacity ordinals log c.start c.end) is G.stands in
    let l = s.least in
    let a = G.above in
    omega arith

pub behind_log : (capacity ordinals log behind : ℕ) (claims : List ClaimOf) (c : ClaimOf)
    → GoesOn capacity ordinals log claims c behind → log ≤ behind
behind_log capacity ordinals log behind claims c G =
    let a = G.above in let f = G.forward in let b = G.below_log in omega arith
