-- The log passes over no segment: an entry begins in each one up to that of an entry. Only a claim
-- that finds no room moves it on, so behind an entry of the segment, and a marker stands behind an
-- entry itself.
use Rattle.std.proofs.Common.{
  ◌≡◌,
  ◌⊎◌,
  ℕ,
  zero,
  suc,
  ◌+◌,
  ◌-◌,
  ◌<◌,
  ◌≤◌,
  Bool,
  true,
  false,
  cond,
  not,
  List,
  [],
  ◌∷◌,
  length,
  IsTrue,
  None,
  refl,
  sym,
  ap,
  ◌∙◌,
  subst,
  arith,
}
use Rattle.std.specs.List.{Contains, filter}
use Rattle.std.proofs.lemmas.Bool.{false≢true, le-leb, leb-true, lt-ltb, ltb-true}
use Rattle.std.proofs.lemmas.List.{get_or_default}
use Rattle.std.proofs.lemmas.List.Elements.{Contains-get_or}
use mathlib.Core.Logic.{dite, inl, inr}
use native.Mathlib.Decide.{dec_lt}
use Rattle.path_core.specs.declared.event.ClaimKind.{ClaimKind}
use Rattle.path_core.specs.declared.event.ClaimKind.TheVariants.{Entry, Marker}
use Rattle.path_core.specs.declared.note.EntryNote.{EntryNote}
use Rattle.path_core.specs.declared.state.Claim.{Claim as ClaimOf}
use Rattle.path_core.specs.declared.state.PathState.{PathState}
use Rattle.path_core.specs.History.{IsHistory}
use Rattle.path_core.specs.Keeper.{Holding}
use Rattle.path_core.specs.Keys.{
  behind_marker,
  first_offset,
  fits,
  marker_size,
  next_segment,
  offset_of,
  ordinal_of,
}
use Rattle.path_core.specs.Lawful.{IsLawfulPath}
use Rattle.path_core.specs.LawfulLog.{
  ClaimsTile,
  EntryStandsAt,
  StandsAt,
  claim_in,
  entry_claim,
  is_at_most,
  key_before,
  key_behind,
}
use Rattle.path_core.specs.Parts.{is_entry, is_marker_kind, no_claim, seat_of}
use Rattle.path_core.proofs.lists.Heads.{ahead, first_in, first_or_later}
use Rattle.path_core.proofs.lists.Passing.{filter_from, kept_in}
use Rattle.path_core.proofs.log.ClaimEnds.{same_end}
use Rattle.path_core.proofs.log.ClaimPlaces.{entry_placed}
use Rattle.path_rule.specs.declared.view.PathSize.{PathSize}
use Rattle.path_table.specs.declared.trying.PathSeat.{PathSeat}
use Rattle.write_path.specs.Closed.{IsOutcome, PassesNoSegment}
use Rattle.write_path.proofs.FewSegments.{noted_end, walk}

-- one of the first claims is an entry that begins in the segment of an ordinal
pub record HasEntryIn (cs : List ClaimOf) (count o : ℕ) : Type 0 where
  pub at : ℕ
  pub early : at < count
  pub entry : IsTrue (is_entry (claim_in cs at))
  pub here : ordinal_of (claim_in cs at).start ≡ o

-- So does one in each segment below a log key, and in that of the key, unless this is its front.
pub record Fills (cs : List ClaimOf) (count key : ℕ) : Type 0 where
  pub below : (o : ℕ) → o < ordinal_of key → HasEntryIn cs count o
  pub here : HasEntryIn cs count (ordinal_of key) ⊎ (offset_of key ≡ first_offset)

-- ---- one claim more

module _ (cs : List ClaimOf) (i capacity : ℕ) (large : 4096 ≤ capacity)
    (small : capacity ≤ 33554432) where
  more : (o : ℕ) → HasEntryIn cs i o → HasEntryIn cs (suc i) o
  more o h = record {
    at = h.at;
    early = let l = h.early in omega (arith, l);
    entry = h.entry;
    here = h.here;
  }

  -- in front of the next segment, where one begins in that of the key
  up_to : (key o : ℕ) → Fills cs i key → HasEntryIn cs (suc i) (ordinal_of key)
      → o < ordinal_of key + 1 → HasEntryIn cs (suc i) o
  up_to key o F own l = dite (dec_lt o (ordinal_of key)) (λ low. more o (F.below o low))
      (λ no. subst (HasEntryIn cs (suc i)) (omega (arith, l, no)) own)

  -- an entry that finds no room is not the first of the segment
  own_one : (key size : ℕ) → size + 28 < capacity → Fills cs i key
      → fits capacity key size ≡ false → HasEntryIn cs (suc i) (ordinal_of key)
  own_one key size few F none = elim F.here [
    | inl e ↦ more (ordinal_of key) e
    | inr front ↦ absurd (false≢true (sym none
        ∙ lt-ltb (offset_of key + size) capacity (omega (arith, few, front))))
  ]

  by_entry : (ordinals key start end : ℕ) → first_offset ≤ offset_of key
      → EntryStandsAt capacity ordinals key start end → HasEntryIn cs (suc i) (ordinal_of start)
      → Fills cs i key → Fills cs (suc i) end
  by_entry ordinals key start end front S own F = by (fits capacity key (end - start)) refl S.starts
    where
      ends : end ≡ start + (end - start)
      ends = S.ends ∙ ap (λ k. k + (end - start)) (sym S.starts)

      room : offset_of start + (end - start) < capacity
      room = subst (λ k. offset_of k + (end - start) < capacity) (sym S.starts)
          (entry_placed capacity key (end - start) large S.greatest front).room

      stays : ordinal_of start ≡ ordinal_of end
      stays = let e = ends in let r = room in omega (arith, e, r, small)

      by : (b : Bool) → fits capacity key (end - start) ≡ b
          → start ≡ cond b key (next_segment key) → Fills cs (suc i) end
      by true e at = record {
        below = λ o l. more o (F.below o (let s = stays in omega (arith, l, s, at)));
        here = inl (subst (HasEntryIn cs (suc i)) stays own);
      }
      by false e at = record {
        below = λ o l. up_to key o F (own_one key (end - start)
            (let most = S.greatest in omega (arith, most, large)) F e)
            (let s = stays in omega (arith, l, s, at));
        here = inl (subst (HasEntryIn cs (suc i)) stays own);
      }

  by_marker : (key : ℕ) → HasEntryIn cs (suc i) (ordinal_of key) → Fills cs i key
      → Fills cs (suc i) (behind_marker capacity key)
  by_marker key own F = by (fits capacity key marker_size) refl
    where
      by : (b : Bool) → fits capacity key marker_size ≡ b
          → Fills cs (suc i) (cond b (key + marker_size) (next_segment key))
      by true e = let room = ltb-true (offset_of key + marker_size) capacity e in record {
        below = λ o l. more o (F.below o (omega (arith, l, room, small)));
        here = inl (subst (HasEntryIn cs (suc i)) (omega (arith, room, small)) own);
      }
      by false e = record {
        below = λ o l. up_to key o F own (omega (arith, l));
        here = inr (omega arith);
      }

-- ---- in a state where no seat has claimed anything that it did not deposit

-- an entry ends in the segment in which it begins
ends_there : (what : ClaimKind) (capacity start end : ℕ) → IsTrue (not (is_marker_kind what))
    → capacity ≤ 33554432 → start ≤ end → offset_of start + (end - start) ≤ capacity
    → ordinal_of start ≡ ordinal_of (key_behind what capacity start end)
ends_there Entry capacity start end entry small forward inside =
    omega (arith, small, forward, inside)
ends_there Marker capacity start end entry small forward inside = absurd (false≢true entry)

module _ (x : PathState) (L : IsLawfulPath x)
    (idle : (w : ℕ) → w < length x.seats → (seat_of x w).claim ≡ None) where
  T : ClaimsTile x
  T = L.claims_tile_the_log

  large : 4096 ≤ x.capacity
  large = L.sized.limits.least_capacity

  small : x.capacity ≤ 33554432
  small = L.sized.limits.greatest_capacity

  abbrev before : ℕ → ℕ
  before i = key_before x.capacity x.claims i

  behind_entry : (i : ℕ) → i < length x.claims → IsTrue (is_entry (claim_in x.claims i))
      → ordinal_of (claim_in x.claims i).start ≡ ordinal_of (before (suc i))
  behind_entry i l entry = ends_there (claim_in x.claims i).what x.capacity
      (claim_in x.claims i).start (claim_in x.claims i).end entry small (T.forward i l)
      (T.inside i l entry).1

  -- in front of a marker stands an entry, in the segment in which the marker is claimed
  ahead_of : (i : ℕ) → i < length x.claims → is_marker_kind (claim_in x.claims i).what ≡ true
      → HasEntryIn x.claims (suc i) (ordinal_of (before i))
  ahead_of i l marker = let e = T.entry_before i l marker in let after = e.1 in
      let low : e.0 < length x.claims = omega (arith, l, after) in record {
        at = e.0;
        early = omega (arith, after);
        entry = e.2;
        here = behind_entry e.0 low e.2 ∙ ap (λ k. ordinal_of (before k)) (sym after);
      }

  step : (i : ℕ) → i < length x.claims → Fills x.claims i (before i)
      → Fills x.claims (suc i) (before (suc i))
  step i l F = by (claim_in x.claims i).what refl (T.stands i l)
    where
      by : (what : ClaimKind) → (claim_in x.claims i).what ≡ what
          → StandsAt what x.capacity x.ordinals (before i) (claim_in x.claims i).start
          (claim_in x.claims i).end
          → Fills x.claims (suc i)
          (key_behind what x.capacity (claim_in x.claims i).start (claim_in x.claims i).end)
      by Entry is S = by_entry x.claims i x.capacity large small x.ordinals (before i)
          (claim_in x.claims i).start (claim_in x.claims i).end
          (walk x L idle i (omega (arith, l))).0 S (record {
            at = i;
            early = omega arith;
            entry = ap (λ (k : ClaimKind). not (is_marker_kind k)) is;
            here = refl;
          }) F
      by Marker is S = subst (λ k. Fills x.claims (suc i) (behind_marker x.capacity k))
          (sym S.starts) (by_marker x.claims i x.capacity large small (before i)
          (ahead_of i l (ap is_marker_kind is)) F)

  fills : (i : ℕ) → i ≤ length x.claims → Fills x.claims i (before i)
  fills zero l = record {
    below = λ o low. absurd (omega (arith, low));
    here = inr (omega arith);
  }
  fills (suc i) l = step i (omega (arith, l)) (fills i (omega (arith, l)))

  -- the note of an entry claim
  note_of : (i : ℕ) → i < length x.claims → IsTrue (is_entry (claim_in x.claims i))
      → (m : EntryNote) × Contains x.notes m × (m.start.0 ≡ (claim_in x.claims i).start)
  note_of i l entry = let c = claim_in x.claims i in
      let there = Contains-get_or x.claims i no_claim l in
      let m = noted_end x L idle c there entry in
      let own = (L.notes_are_claims.each m.0 m.1).claim in
      let same = same_end x.capacity x.ordinals x.log x.claims T
      (entry_claim m.0.writer.0 m.0.start.0 m.0.end.0) c own there refl entry m.2 in
      (m.0, m.1, ap (λ (d : ClaimOf). d.start) same)

  pub none_passed : PassesNoSegment x.notes
  none_passed n among o upto = dite (dec_lt o (ordinal_of n.start.0)) (λ low.
      let c = (L.notes_are_claims.each n among).claim in
      let read : claim_in x.claims c.0 ≡ entry_claim n.writer.0 n.start.0 n.end.0 =
      get_or_default x.claims c.0 no_claim _ c.1 ∙ c.2 in
      let start = ap (λ (d : ClaimOf). ordinal_of d.start) read in
      let inside = c.1 in
      let stays = behind_entry c.0 inside (ap (λ (d : ClaimOf). is_entry d) read) in
      let e = (fills (suc c.0) (omega (arith, inside))).below o (omega (arith, low, start, stays))
      in
      let early = e.early in let m = note_of e.at (omega (arith, early, inside)) e.entry in
      (m.0, m.1, ap ordinal_of m.2 ∙ e.here))
      (λ no. (n, among, omega (arith, no, upto)))

-- ---- of a history

module _ (capacity : ℕ) (small : capacity ≤ 33554432) where
  -- nor do its first entries, up to a key
  pub first_part : (key : ℕ) (ns : List EntryNote) → IsHistory capacity ns → PassesNoSegment ns
      → PassesNoSegment (filter (is_at_most key) ns)
  first_part key ns H P n h o upto = let kept = filter_from (is_at_most key) ns n h in
      dite (dec_lt o (ordinal_of n.start.0)) (λ low.
      let m = P n kept.0 o upto in let is = m.2 in
      let its = H.each m.0 m.1 in let inside = its.inside in let long = its.long in
      let last = (H.each n kept.0).long in let most = leb-true n.end.0 key kept.1 in (
        m.0,
        kept_in (is_at_most key) ns m.0 m.1 (le-leb m.0.end.0 key
            (omega (arith, small, low, is, inside, long, last, most))),
        m.2,
      ))
      (λ no. (n, h, omega (arith, no, upto)))

-- what the keeper of a closed path has logged passes over none
pub logged_passes_none : {K : Type 0} (size : PathSize) (seats : List (PathSeat K)) (end : ℕ)
    (h : Holding) → IsOutcome size seats end h → PassesNoSegment h.logged
logged_passes_none size seats end h O =
    subst PassesNoSegment (sym O.logged) (O.none_passed h.synced)

-- the first entry stands in the first segment
pub begins_first : (capacity : ℕ) (n : EntryNote) (ns : List EntryNote)
    → IsHistory capacity (n ∷ ns) → PassesNoSegment (n ∷ ns) → ordinal_of n.start.0 ≡ 0
begins_first capacity n ns H P = let m = P n (first_in n ns) 0 (omega arith) in
    elim (first_or_later n m.0 ns m.1) [
      | inl same ↦ ap (λ (k : EntryNote). ordinal_of k.start.0) same ∙ m.2
      | inr later ↦
          let above = ahead (λ (a b : EntryNote). a.end.0 ≤ b.start.0) n ns H.apart m.0 later in
          let long = (H.each n (first_in n ns)).long in let is = m.2 in
          omega (arith, above, long, is)
    ]

-- one entry in the second segment leaves the first one out
pub second_alone : (n : EntryNote) → ordinal_of n.start.0 ≡ 1 → ¬ PassesNoSegment (n ∷ [])
second_alone n at P = let m = P n (first_in n []) 0 (omega arith) in
    elim (first_or_later n m.0 [] m.1) [
      | inl same ↦ let is = ap (λ (k : EntryNote). ordinal_of k.start.0) same ∙ m.2 in
          absurd (omega (arith, at, is))
      | inr later ↦ absurd (let l = later.1 in omega (arith, l))
    ]
