-- Where a marker starts: it stays there, the log goes on behind it, and no entry stands in it.
use Rattle.std.proofs.Common.{
  ◌≡◌,
  ◌≢◌,
  ◌⊎◌,
  ℕ,
  zero,
  suc,
  ◌+◌,
  ◌-◌,
  ◌<◌,
  ◌≤◌,
  cond,
  Bool,
  true,
  false,
  ◌∷◌,
  [],
  length,
  refl,
  sym,
  ap,
  ◌∙◌,
  subst,
  arith,
  eq-eqb,
  ne_eqb,
}
use Rattle.std.specs.List.{Contains}
use Rattle.std.proofs.lemmas.Bool.{false≢true}
use Rattle.std.proofs.lemmas.List.{get_or_default}
use Rattle.std.proofs.lemmas.List.Elements.{Contains-append_left}
use mathlib.Core.Logic.{dite, inl, inr}
use native.Mathlib.Decide.{ℕ_discrete, dec_lt}
use Rattle.op_core.specs.declared.count.Order.TheVariants.{Write, Append}
use Rattle.path_core.specs.declared.event.ClaimKind.{ClaimKind}
use Rattle.path_core.specs.declared.event.ClaimKind.TheVariants.{Entry, Marker}
use Rattle.path_core.specs.declared.event.Event.{Event}
use Rattle.path_core.specs.declared.event.Event.TheVariants.{Claim, MoveCurrent}
use Rattle.path_core.specs.declared.note.EntryNote.{EntryNote}
use Rattle.path_core.specs.declared.state.Claim.{Claim as ClaimOf}
use Rattle.path_core.specs.declared.state.PathState.{PathState}
use Rattle.path_core.specs.Allowed.{IsStep}
use Rattle.path_core.specs.Keys.{
  after,
  behind_marker,
  entry_start,
  first_offset,
  fits,
  marker_size,
  next_segment,
}
use Rattle.path_core.specs.Lawful.{IsLawfulPath}
use Rattle.path_core.specs.LawfulLog.{
  ClaimsTile,
  StandsAt,
  claim_in,
  entry_claim,
  key_before,
  key_behind,
}
use Rattle.path_core.specs.Next.{next_of, claim_of, barred_marker}
use Rattle.path_core.specs.Parts.{no_claim, is_marker, is_marker_kind}
use Rattle.path_core.specs.Markers.{HasMarkerAt}
use Rattle.path_core.proofs.lists.Inserted.{map_old}
use Rattle.path_core.proofs.log.LogGrows.{synced_grows}
use Rattle.path_core.proofs.log.MarkerSteps.{barred_is_marker, barred_start}
use Rattle.path_rule.specs.Trails.{IsMark}

-- ---- a marker stays

pub marker_stays : (x : PathState) (e : Event) (key : ℕ) → HasMarkerAt x.claims key
    → HasMarkerAt (next_of x e).claims key
marker_stays x (Claim by from to what) key M = record {
  marker = M.marker;
  among = Contains-append_left x.claims (claim_of x.capacity by from.0 to.0 what ∷ []) M.marker
      M.among;
  is = M.is;
  start = M.start;
}
marker_stays x (MoveCurrent by Append group) key M = record {
  marker = barred_marker by x.append.current M.marker;
  among = map_old (barred_marker by x.append.current) x.claims M.marker M.among;
  is = barred_is_marker by x.append.current M.marker ∙ M.is;
  start = barred_start by x.append.current M.marker ∙ M.start;
}
marker_stays x (MoveCurrent by Write group) key M = M
marker_stays x e key M = M

pub mark_stays : (x : PathState) (e : Event) → IsStep x e → (key : ℕ) → IsMark x key
    → IsMark (next_of x e) key
mark_stays x e a key M = record {
  lasting = let g = synced_grows x e a in let l = M.lasting in omega arith;
  marker = λ some. marker_stays x e key (M.marker some);
}

-- ---- the log goes on behind it

-- no claim moves the log back
pub starts_above : (capacity key size : ℕ) → key ≤ entry_start capacity key size
starts_above capacity key size = by (fits capacity key size)
  where
    by : (b : Bool) → key ≤ cond b key (next_segment key)
    by true = omega arith
    by false = omega arith

pub behind_above : (capacity key : ℕ) → key ≤ behind_marker capacity key
behind_above capacity key = by (fits capacity key marker_size)
  where
    by : (b : Bool) → key ≤ cond b (key + marker_size) (next_segment key)
    by true = omega arith
    by false = omega arith

marks : (k : ClaimKind) → is_marker_kind k ≡ true → k ≡ Marker
marks Entry t = absurd (false≢true t)
marks Marker t = refl

module _ (x : PathState) (L : IsLawfulPath x) where
  pub synced_mark : IsMark x x.synced
  synced_mark = record {
    lasting = omega arith;
    marker = λ some. let M = L.synced_below_the_log.marker some in
        record { marker = M.0; among = M.1; is = M.2; start = M.3 };
  }

  abbrev T : ClaimsTile x
  T = L.claims_tile_the_log

  abbrev before : ℕ → ℕ
  before i = key_before x.capacity x.claims i

  -- a claim starts at or above where the log stood, and the log stands no lower behind it
  stands : (i : ℕ) → i < length x.claims
      → (before i ≤ (claim_in x.claims i).start) × ((claim_in x.claims i).start ≤ before (suc i))
  stands i l = by (claim_in x.claims i).what (T.stands i l) (T.forward i l)
    where
      by : (what : ClaimKind)
          → StandsAt what x.capacity x.ordinals (before i) (claim_in x.claims i).start
          (claim_in x.claims i).end → (claim_in x.claims i).start ≤ (claim_in x.claims i).end
          → (before i ≤ (claim_in x.claims i).start)
          × ((claim_in x.claims i).start
          ≤ key_behind what x.capacity (claim_in x.claims i).start (claim_in x.claims i).end)
      by Entry S f = (
        let starts = S.starts in
            let up = starts_above x.capacity (before i)
            ((claim_in x.claims i).end - (claim_in x.claims i).start) in omega arith,
        f,
      )
      by Marker S f = (
        let starts = S.starts in omega arith,
        behind_above x.capacity (claim_in x.claims i).start,
      )

  grows : (i n : ℕ) → i + n ≤ length x.claims → before i ≤ before (i + n)
  grows i zero l = let same : i ≡ i + 0 = omega arith in
      subst (λ k. before i ≤ before k) same (omega arith)
  grows i (suc n) l = let first = grows i n (omega arith) in
      let S = stands (i + n) (omega arith) in let a = S.0 in let b = S.1 in
      let same : suc (i + n) ≡ i + suc n = omega arith in
      subst (λ k. before i ≤ before k) same (omega arith)

  up_to : (i j : ℕ) → i ≤ j → j ≤ length x.claims → before i ≤ before j
  up_to i j le l = let n = j - i in
      subst (λ k. before i ≤ before k) (let s : i + (j - i) ≡ j = omega arith in s)
      (grows i n (omega arith))

  module _ (key : ℕ) (M : HasMarkerAt x.claims key) where
    abbrev at : ℕ
    at = M.among.0

    read : claim_in x.claims at ≡ M.marker
    read = get_or_default x.claims at no_claim M.marker M.among.1 ∙ M.among.2

    behind_is : before (suc at) ≡ behind_marker x.capacity key
    behind_is = ap (λ (k : ClaimKind). key_behind k x.capacity (claim_in x.claims at).start
        (claim_in x.claims at).end) (marks (claim_in x.claims at).what
        (ap (λ (c : ClaimOf). is_marker c) read ∙ M.is))
        ∙ ap (λ k. behind_marker x.capacity k) (ap (λ (c : ClaimOf). c.start) read ∙ M.start)

    behind_low : behind_marker x.capacity key ≤ x.log
    behind_low = let log = T.log_is_behind in let is = behind_is in
        let up = up_to (suc at) (length x.claims) (let l = M.among.1 in omega arith)
        (omega arith) in omega arith

    -- an entry ends in front of it, or begins behind it
    around : (n : EntryNote) → Contains x.notes n
        → (n.end.0 ≤ key) ⊎ (behind_marker x.capacity key ≤ n.start.0)
    around n h = let c = (L.notes_are_claims.each n h).claim in
        let entry : claim_in x.claims c.0 ≡ entry_claim n.writer.0 n.start.0 n.end.0 =
        get_or_default x.claims c.0 no_claim _ c.1 ∙ c.2 in
        let starts = ap (λ (d : ClaimOf). d.start) entry in
        let ends = ap (λ (d : ClaimOf). d.end) entry in
        let mark = ap (λ (d : ClaimOf). d.start) read ∙ M.start in
        dite (dec_lt c.0 at)
        (λ less. inl (let a = T.apart c.0 at less M.among.1 in omega arith))
        (λ past. dite (ℕ_discrete c.0 at)
        (λ same. absurd (false≢true (ap (λ (d : ClaimOf). is_marker d)
        (sym entry ∙ ap (claim_in x.claims) same ∙ read) ∙ M.is)))
        (λ other. inr (let is = behind_is in
        let up = up_to (suc at) c.0 (omega arith) (let l = c.1 in omega arith) in
        let S = (stands c.0 c.1).0 in omega arith)))

  -- the same of a synced key that was found
  after_some : (key : ℕ) → key ≢ 0 → after x.capacity key ≡ behind_marker x.capacity key
  after_some key some = ap (λ b. cond b first_offset (behind_marker x.capacity key))
      (ne_eqb key 0 some)

  after_none : (key : ℕ) → key ≡ 0 → after x.capacity key ≡ first_offset
  after_none key none = ap (λ b. cond b first_offset (behind_marker x.capacity key))
      (eq-eqb key 0 none)

  pub log_past : (key : ℕ) → IsMark x key → after x.capacity key ≤ x.log
  log_past key M = dite (ℕ_discrete key 0)
      (λ none. let is = after_none key none in
      let log = T.log_is_behind in let up = up_to 0 (length x.claims) (omega arith) (omega arith) in
      omega arith)
      (λ some. let is = after_some key some in
      let low = behind_low key (M.marker (omega arith)) in omega arith)

  pub notes_around : (key : ℕ) → IsMark x key → (n : EntryNote) → Contains x.notes n
      → (n.end.0 ≤ key) ⊎ (after x.capacity key ≤ n.start.0)
  notes_around key M n h = dite (ℕ_discrete key 0)
      (λ none. inr (let is = after_none key none in
      let c = (L.notes_are_claims.each n h).claim in
      let entry : claim_in x.claims c.0 ≡ entry_claim n.writer.0 n.start.0 n.end.0 =
      get_or_default x.claims c.0 no_claim _ c.1 ∙ c.2 in
      let starts = ap (λ (d : ClaimOf). d.start) entry in
      let up = up_to 0 c.0 (omega arith) (let l = c.1 in omega arith) in
      let S = (stands c.0 c.1).0 in omega arith))
      (λ some. subst (λ k. (n.end.0 ≤ key) ⊎ (k ≤ n.start.0)) (sym (after_some key some))
      (around key (M.marker (omega arith)) n h))
