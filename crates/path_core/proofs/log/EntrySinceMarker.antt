-- Whether an entry was claimed since the last marker, or before the first one, is told by the log
-- key; and no other marker starts at the last one or above it.
use Rattle.std.proofs.Common.{
  ◌≡◌,
  ℕ,
  zero,
  suc,
  ◌-◌,
  ◌<◌,
  ◌≤◌,
  ◌⊎◌,
  Bool,
  true,
  false,
  not,
  cond,
  List,
  [],
  ◌∷◌,
  length,
  Option,
  Some,
  None,
  refl,
  sym,
  ap,
  ◌∙◌,
  subst,
  arith,
}
use Rattle.std.specs.Prelude.{◌↔◌, IsTrue}
use Rattle.std.specs.List.{Contains, fold}
use Rattle.std.proofs.lemmas.Bool.{false≢true}
use Rattle.std.proofs.lemmas.Option.{none-some, same_Some}
use Rattle.std.proofs.lemmas.List.{get_or_past}
use mathlib.Core.Logic.{dite, inl, inr}
use native.Mathlib.Decide.{ℕ_discrete, dec_lt}
use Rattle.path_core.specs.declared.event.ClaimKind.{ClaimKind}
use Rattle.path_core.specs.declared.event.ClaimKind.TheVariants.{Entry, Marker}
use Rattle.path_core.specs.declared.state.Claim.{Claim as ClaimOf}
use Rattle.path_core.specs.declared.state.PathState.{PathState}
use Rattle.path_core.specs.Parts.{no_claim, is_marker_kind, is_marker, last_marker}
use Rattle.path_core.specs.Keys.{
  first_offset,
  next_segment,
  fits,
  entry_start,
  behind_marker,
}
use Rattle.path_core.specs.Allowed.{is_entry_last}
use Rattle.path_core.specs.Lawful.{IsLawfulPath}
use Rattle.path_core.specs.LawfulLog.{ClaimsTile, StandsAt, claim_in, key_behind, key_before}
use Rattle.path_core.proofs.log.ClaimEnds.{entry_long, read_claim}
use Rattle.path_core.proofs.log.MarkerSteps.{later_marker, last_is_marker}

-- none of the claims behind a first one is a marker
none_behind : (d : ClaimOf) (cs : List ClaimOf)
    → ((k : ℕ) → k < length cs → is_marker (claim_in cs k) ≡ false) → (k : ℕ) → 0 < k
    → k < length (d ∷ cs) → is_marker (claim_in (d ∷ cs) k) ≡ false
none_behind d cs none zero some inside = absurd (omega arith)
none_behind d cs none (suc k) some inside = none k (omega arith)

-- The last marker stands at a number, and behind it stand entries alone.
record IsLastAt (cs : List ClaimOf) (c : ClaimOf) : Type 0 where
  pub number : ℕ
  pub inside : number < length cs
  pub is : claim_in cs number ≡ c
  pub entries_behind : (k : ℕ) → number < k → k < length cs → is_marker (claim_in cs k) ≡ false

last_at : (cs : List ClaimOf) (o : Option ClaimOf) (c : ClaimOf) → fold later_marker o cs ≡ Some c
    → ((o ≡ Some c) × ((k : ℕ) → k < length cs → is_marker (claim_in cs k) ≡ false))
    ⊎ IsLastAt cs c
last_at [] o c h = inl (h, (λ k l. absurd (omega arith)))
last_at (d ∷ cs) o c h = elim (last_at cs (later_marker o d) c h) [
  | inr r ↦ inr (record {
    number = suc r.number;
    inside = let l = r.inside in omega arith;
    is = r.is;
    entries_behind = behind r;
  })
  | inl q ↦ choose (is_marker d) refl q.0 q.1
]
  where
    behind : (r : IsLastAt cs c) → (k : ℕ) → suc r.number < k → k < length (d ∷ cs)
        → is_marker (claim_in (d ∷ cs) k) ≡ false
    behind r zero low inside = absurd (omega arith)
    behind r (suc k) low inside = r.entries_behind k (omega arith) (omega arith)

    choose : (b : Bool) → is_marker d ≡ b → cond b (Some d) o ≡ Some c
        → ((k : ℕ) → k < length cs → is_marker (claim_in cs k) ≡ false)
        → ((o ≡ Some c) × ((k : ℕ) → k < length (d ∷ cs)
        → is_marker (claim_in (d ∷ cs) k) ≡ false)) ⊎ IsLastAt (d ∷ cs) c
    choose true e q none = inr (record {
      number = 0;
      inside = omega arith;
      is = same_Some d c q;
      entries_behind = none_behind d cs none;
    })
    choose false e q none = inl (q, all)
      where
        all : (k : ℕ) → k < length (d ∷ cs) → is_marker (claim_in (d ∷ cs) k) ≡ false
        all zero inside = e
        all (suc k) inside = none k (omega arith)

-- A list that has a marker has a last one.
last_stays : (cs : List ClaimOf) (d : ClaimOf) → fold later_marker (Some d) cs ≡ None → ⊥
last_stays [] d h = none-some d (sym h)
last_stays (e ∷ cs) d h = choose (is_marker e) (λ q. last_stays cs e q) (λ q. last_stays cs d q) h
  where
    choose : (b : Bool) → (fold later_marker (Some e) cs ≡ None → ⊥)
        → (fold later_marker (Some d) cs ≡ None → ⊥)
        → fold later_marker (cond b (Some e) (Some d)) cs ≡ None → ⊥
    choose true newer older q = newer q
    choose false newer older q = older q

-- So where there is no last one, there is none.
none_is_marker : (cs : List ClaimOf) → fold later_marker None cs ≡ None → (k : ℕ)
    → k < length cs → is_marker (claim_in cs k) ≡ false
none_is_marker [] h = λ k inside. absurd (omega arith)
none_is_marker (d ∷ cs) h = choose (is_marker d) refl h (λ q. none_is_marker cs q)
  where
    choose : (b : Bool) → is_marker d ≡ b → fold later_marker (cond b (Some d) None) cs ≡ None
        → (fold later_marker None cs ≡ None → (k : ℕ) → k < length cs
        → is_marker (claim_in cs k) ≡ false) → (k : ℕ) → k < length (d ∷ cs)
        → is_marker (claim_in (d ∷ cs) k) ≡ false
    choose true e q behind k inside = absurd (last_stays cs d q)
    choose false e q behind zero inside = e
    choose false e q behind (suc k) inside = behind q k (omega arith)

-- a claim that passes the test is a marker
marker_kind : (k : ClaimKind) → is_marker_kind k ≡ true → k ≡ Marker
marker_kind Entry t = absurd (false≢true t)
marker_kind Marker t = refl

module _ (x : PathState) (L : IsLawfulPath x) where
  abbrev T : ClaimsTile x
  T = L.claims_tile_the_log

  -- an entry begins at or above the log key that it is claimed at
  starts_above : (key size : ℕ) → key ≤ entry_start x.capacity key size
  starts_above key size = by (fits x.capacity key size)
    where
      by : (b : Bool) → key ≤ cond b key (next_segment key)
      by true = omega arith
      by false = omega arith

  -- an entry ends above that log key
  ends_above : (i : ℕ) → i < length x.claims → is_marker (claim_in x.claims i) ≡ false
      → key_before x.capacity x.claims i < x.log
  ends_above i inside entry = by (claim_in x.claims i).what entry (T.stands i inside)
      (T.below_log i inside)
    where
      by : (what : ClaimKind) → is_marker_kind what ≡ false
          → StandsAt what x.capacity x.ordinals (key_before x.capacity x.claims i)
          (claim_in x.claims i).start (claim_in x.claims i).end
          → (claim_in x.claims i).end ≤ x.log → key_before x.capacity x.claims i < x.log
      by Entry e s below = let least = s.least in let starts = s.starts in
          let above = starts_above (key_before x.capacity x.claims i)
          ((claim_in x.claims i).end - (claim_in x.claims i).start) in omega arith
      by Marker e s below = absurd (false≢true (sym e))

  pub entry_since_marker : (c : ClaimOf) → last_marker x ≡ Some c
      → IsTrue (is_entry_last x) ↔ (behind_marker x.capacity c.start < x.log)
  entry_since_marker c h = elim (last_at x.claims None c h) [
    | inl q ↦ absurd (none-some c q.0)
    | inr r ↦ (to r, from r)
  ]
    where
      -- the log key behind the last marker
      behind : (r : IsLastAt x.claims c)
          → key_before x.capacity x.claims (suc r.number) ≡ behind_marker x.capacity c.start
      behind r = ap (λ (k : ClaimKind).
          key_behind k x.capacity (claim_in x.claims r.number).start
          (claim_in x.claims r.number).end)
          (marker_kind (claim_in x.claims r.number).what
          (ap (λ (d : ClaimOf). is_marker d) r.is ∙ last_is_marker x.claims c h))
          ∙ ap (λ (d : ClaimOf). behind_marker x.capacity d.start) r.is

      to : IsLastAt x.claims c → IsTrue (is_entry_last x) → behind_marker x.capacity c.start < x.log
      to r entry = dite (dec_lt (suc r.number) (length x.claims))
          (λ l. subst (λ k. k < x.log) (behind r)
          (ends_above (suc r.number) l (r.entries_behind (suc r.number) (omega arith) l)))
          (λ past. absurd (let l = r.inside in
          let last : length x.claims - 1 ≡ r.number = omega arith in
          false≢true (sym (ap not (ap (λ i. is_marker (claim_in x.claims i)) last
          ∙ (ap (λ (d : ClaimOf). is_marker d) r.is ∙ last_is_marker x.claims c h))) ∙ entry)))

      from : IsLastAt x.claims c → behind_marker x.capacity c.start < x.log
          → IsTrue (is_entry_last x)
      from r above = dite (dec_lt (suc r.number) (length x.claims))
          (λ l. ap not (r.entries_behind (length x.claims - 1) (omega arith) (omega arith)))
          (λ past. absurd (let l = r.inside in
          let long : length x.claims ≡ suc r.number = omega arith in
          let log = T.log_is_behind ∙ ap (key_before x.capacity x.claims) long ∙ behind r in
          omega arith))

  -- A marker that starts at the last one or above it is the last one.
  pub at_last : (c d : ClaimOf) → last_marker x ≡ Some c → Contains x.claims d
      → is_marker d ≡ true → c.start ≤ d.start → c ≡ d
  at_last c d h among is above = elim (last_at x.claims None c h) [
    | inl q ↦ absurd (none-some c q.0)
    | inr r ↦ here r
  ]
    where
      read : claim_in x.claims among.0 ≡ d
      read = read_claim x.capacity x.ordinals x.log x.claims T d among

      marks : is_marker (claim_in x.claims among.0) ≡ true
      marks = ap (λ (d : ClaimOf). is_marker d) read ∙ is

      -- one before it ends before an entry that stands before it
      before : (r : IsLastAt x.claims c) → among.0 < r.number → ⊥
      before r less =
          let E = T.entry_before r.number r.inside
          (ap (λ (d : ClaimOf). is_marker d) r.is ∙ last_is_marker x.claims c h) in
          let next : r.number ≡ suc E.0 = E.1 in
          dite (ℕ_discrete among.0 E.0)
          (λ same. false≢true (sym (ap not (sym (ap (λ i. is_marker (claim_in x.claims i)) same)
          ∙ marks)) ∙ E.2))
          (λ other. let inside = r.inside in
          let long = entry_long x.capacity x.ordinals x.log x.claims T E.0 (omega arith) E.2 in
          let first = T.apart among.0 E.0 (omega arith) (omega arith) in
          let second = T.apart E.0 r.number (omega arith) r.inside in
          let forward = T.forward among.0 among.1 in
          let starts = ap (λ (d : ClaimOf). d.start) read in
          let ends = ap (λ (d : ClaimOf). d.start) r.is in omega arith)

      here : IsLastAt x.claims c → c ≡ d
      here r = dite (dec_lt among.0 r.number)
          (λ less. absurd (before r less))
          (λ past. dite (ℕ_discrete among.0 r.number)
          (λ same. sym r.is ∙ (sym (ap (claim_in x.claims) same) ∙ read))
          (λ other. absurd (false≢true (sym (r.entries_behind among.0 (omega arith) among.1)
          ∙ marks))))

  -- Before the first marker the log key tells of entries since the log began.
  pub entry_before_markers : last_marker x ≡ None
      → IsTrue (is_entry_last x) ↔ (first_offset < x.log)
  entry_before_markers h = (to, from)
    where
      entries : (k : ℕ) → k < length x.claims → is_marker (claim_in x.claims k) ≡ false
      entries = none_is_marker x.claims h

      to : IsTrue (is_entry_last x) → first_offset < x.log
      to entry = dite (dec_lt 0 (length x.claims))
          (λ some. ends_above 0 some (entries 0 some))
          (λ none. absurd (let past = get_or_past x.claims (length x.claims - 1) no_claim
          (omega arith) in
          false≢true (sym (ap (λ (d : ClaimOf). not (is_marker d)) past) ∙ entry)))

      from : first_offset < x.log → IsTrue (is_entry_last x)
      from above = dite (dec_lt 0 (length x.claims))
          (λ some. ap not (entries (length x.claims - 1) (omega arith)))
          (λ none. absurd (
          let empty : length x.claims ≡ 0 = omega arith in
          let log = T.log_is_behind ∙ ap (key_before x.capacity x.claims) empty in
          omega arith))
