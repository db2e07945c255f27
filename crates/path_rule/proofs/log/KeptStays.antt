-- What a keeper may have kept of a sync that was refused stays so at each step.
use Rattle.std.proofs.Common.{
  ◌≡◌,
  ℕ,
  ◌<◌,
  ◌≤◌,
  nat_lt,
  nat_le,
  ◌&&◌,
  Bool,
  true,
  false,
  cond,
  List,
  [],
  ◌∷◌,
  Option,
  Some,
  None,
  IsTrue,
  refl,
  sym,
  ap,
  ◌∙◌,
  ⊎_elim,
  arith,
}
use Rattle.std.specs.List.{Contains, count_by, filter, position_or_len}
use Rattle.std.specs.Option.{option_map}
use Rattle.std.proofs.lemmas.Bool.{eqb-true, lt-leb, leb-true, ltb-true}
use Rattle.std.proofs.lemmas.List.{get_or_default}
use Rattle.std.proofs.lemmas.Option.{none-some, same_Some}
use mathlib.Core.Logic.{dite, inl, inr}
use native.Mathlib.Decide.{dec_le}
use Rattle.op_core.specs.declared.count.Order.TheVariants.{Write, Append}
use Rattle.path_core.specs.declared.event.Carried.TheVariants.{Deposit}
use Rattle.path_core.specs.declared.event.ClaimKind.TheVariants.{Entry, Marker}
use Rattle.path_core.specs.declared.event.Event.{Event}
use Rattle.path_core.specs.declared.event.Event.TheVariants.{Close, Claim, MoveCurrent}
use Rattle.path_core.specs.declared.note.EntryNote.{EntryNote}
use Rattle.path_core.specs.declared.seat.LastMarker.{LastMarker}
use Rattle.path_core.specs.declared.state.Claim.{Claim as ClaimOf}
use Rattle.path_core.specs.declared.state.PathState.{PathState}
use Rattle.path_core.specs.Allowed.{IsStep}
use Rattle.path_core.specs.Lawful.{IsLawfulPath}
use Rattle.path_core.specs.LawfulLog.{is_note_at, is_at_most, entry_claim}
use Rattle.path_core.specs.Next.{next_of, is_between, claim_of, barred_marker}
use Rattle.path_core.specs.Parts.{no_claim, is_entry, last_marker}
use Rattle.path_core.proofs.lists.Replaced.{counted_in, counted_from}
use Rattle.path_core.proofs.log.Between.{filter_insert}
use Rattle.path_core.proofs.log.KeepsNotedOnce.{keeps_noted}
use Rattle.path_core.proofs.log.KeepsNotes.{not_noted, own_range}
use Rattle.path_core.proofs.log.KeepsOwned.{claims_were, claims_stay, ClaimedNow}
use Rattle.path_core.proofs.log.LogGrows.{claimed_above, synced_grows}
use Rattle.path_core.proofs.log.MarkerSteps.{
  barred_start,
  last_marker_stays,
  last_marker_claimed,
  last_marker_barred,
}
use Rattle.path_core.proofs.log.OwnNotes.{notes_stay}
use Rattle.path_core.specs.Parts.{kept_of, last_kept}
use Rattle.path_rule.specs.Kept.{IsDepositedTo, MayBeKept}
use Rattle.path_rule.specs.declared.lasting.Beside.{Beside}
use Rattle.path_rule.specs.declared.lasting.Filed.{Filed}
use Rattle.path_rule.specs.Lasts.{shown}
use Rattle.path_rule.proofs.log.Marks.{marker_stays}

-- no key is above one and not above a lesser one
between_none : (low key n : ℕ) → key ≤ low → (nat_lt low n && nat_le n key) ≡ false
between_none low key n le = by (nat_lt low n) (nat_le n key) refl refl
  where
    by : (a b : Bool) → nat_lt low n ≡ a → nat_le n key ≡ b → (a && b) ≡ false
    by false b p q = refl
    by true false p q = refl
    by true true p q = absurd (let f = ltb-true low n p in let g = leb-true n key q in omega arith)

and_no : (a b : Bool) → b ≡ false → (a && b) ≡ false
and_no true b is = is
and_no false b is = refl

-- where the log is lasting up to the key, nothing is kept
pub none_kept : (low key : ℕ) (l : List EntryNote) → key ≤ low → filter (is_between low key) l ≡ []
none_kept low key [] le = refl
none_kept low key (n ∷ ns) le =
    ap (λ (b : Bool). cond b (n ∷ filter (is_between low key) ns) (filter (is_between low key) ns))
    (between_none low key n.end.0 le) ∙ none_kept low key ns le

module _ (x : PathState) (L : IsLawfulPath x) where
  -- where all up to a key is noted, what is deposited now ends above it
  above_noted : (key : ℕ) → ((c : ClaimOf) → Contains x.claims c → IsTrue (is_entry c)
      → c.end ≤ key → count_by (is_note_at c.end) x.notes ≡ 1)
      → (by g : ℕ) (note : EntryNote) → IsStep x (Close by Append g (Deposit note))
      → key < note.end.0
  above_noted key noted by g note a = dite (dec_le note.end.0 key)
      (λ low. absurd (
      let one = noted (entry_claim note.writer.0 note.start.0 note.end.0)
      (own_range x L.sized L.claims_tile_the_log L.orders L.own_claim L.each_claim_noted_once
      L.notes_are_claims by g note a) refl low in
      let n = counted_from (is_note_at note.end.0) x.notes (omega arith) in
      not_noted x L.sized L.claims_tile_the_log L.orders L.own_claim L.each_claim_noted_once
      L.notes_are_claims by g note a n.0 n.1 (eqb-true n.0.end.0 note.end.0 n.2)))
      (λ n. omega arith)

  module _ (key : ℕ) (D : IsDepositedTo x key) where
    below_log : key ≤ x.log
    below_log = let read = get_or_default x.claims D.claimed.0 no_claim D.marker D.claimed.1
        ∙ D.claimed.2 in
        let f = L.claims_tile_the_log.forward D.claimed.0 D.claimed.1 in
        let b = L.claims_tile_the_log.below_log D.claimed.0 D.claimed.1 in
        let s = ap (λ (c : ClaimOf). c.start) read in let k = D.start in omega arith

    -- it is not above the last one
    not_above : (e : Event) → IsStep x e → (k : LastMarker)
        → last_kept (next_of x e).claims ≡ Some k → key ≤ k.start
    not_above (Claim by from to Entry) a k h = D.not_above k
        (ap (λ (o : Option ClaimOf). option_map kept_of o)
        (sym (last_marker_stays x (Claim by from to Entry) (λ f. f))) ∙ h)
    not_above (Claim by from to Marker) a k h =
        let is = same_Some (kept_of (claim_of x.capacity by from.0 to.0 Marker)) k
        (ap (λ (o : Option ClaimOf). option_map kept_of o)
        (sym (last_marker_claimed x by from to)) ∙ h) in
        let start = ap (λ (m : LastMarker). m.start) is in let at = a.row.1 in
        let low = below_log in omega arith
    not_above (MoveCurrent by Append group) a k h = by_last (last_marker x) refl
        (ap (λ (o : Option ClaimOf). option_map kept_of o)
        (sym (last_marker_barred x by group)) ∙ h)
      where
        by_last : (o : Option ClaimOf) → last_marker x ≡ o
            → option_map kept_of (option_map (barred_marker by x.append.current) o) ≡ Some k
            → key ≤ k.start
        by_last None is q = absurd (none-some k q)
        by_last (Some c) is q =
            let same = same_Some (kept_of (barred_marker by x.append.current c)) k q in
            let start = ap (λ (m : LastMarker). m.start) same in
            let kept = barred_start by x.append.current c in
            let low = D.not_above (kept_of c)
            (ap (λ (o : Option ClaimOf). option_map kept_of o) is) in omega arith
    not_above (MoveCurrent by Write group) a k h = D.not_above k h
    not_above e a k h = D.not_above k h

    -- an entry that is noted once stays so
    noted_still : (e : Event) → IsStep x e → (c : ClaimOf) → Contains x.claims c
        → IsTrue (is_entry c) → count_by (is_note_at c.end) x.notes ≡ 1
        → count_by (is_note_at c.end) (next_of x e).notes ≡ 1
    noted_still e a c h entry one =
        let n = counted_from (is_note_at c.end) x.notes (omega arith) in
        let some = counted_in (is_note_at c.end) (next_of x e).notes n.0
        (notes_stay x e n.0 n.1) n.2 in
        let once = (keeps_noted x L.sized L.claims_tile_the_log L.orders L.own_claim
        L.each_claim_noted_once L.notes_are_claims e a).once c (claims_stay x e c entry h) entry in
        omega arith

    -- what is claimed now ends above it
    claimed_later : (e : Event) → IsStep x e → (c : ClaimOf) → ClaimedNow x e c → c.end ≤ key → ⊥
    claimed_later (Claim by from to Entry) a c is low =
        let high = claimed_above x L.sized L.claims_tile_the_log by from to a in
        let end = ap (λ (d : ClaimOf). d.end) is in let s = below_log in omega arith
    claimed_later e a c is low = is

    stays_deposited : (e : Event) → IsStep x e → IsDepositedTo (next_of x e) key
    stays_deposited e a = let M = marker_stays x e key (record {
      marker = D.marker;
      among = D.claimed;
      is = D.is;
      start = D.start;
    }) in record {
      marker = M.marker;
      claimed = M.among;
      is = M.is;
      start = M.start;
      not_above = not_above e a;
      noted = λ c h entry low. ⊎_elim
          (λ old. noted_still e a c old entry (D.noted c old entry low))
          (λ new. absurd (claimed_later e a c new low)) (claims_were x e c entry h);
    }

  pub kept_stays : (e : Event) → IsStep x e → (key : ℕ) → MayBeKept x key
      → MayBeKept (next_of x e) key
  kept_stays e a key may = ⊎_elim (λ low. inl (let g = synced_grows x e a in omega arith))
      (λ D. inr (stays_deposited key D e a)) may

  -- a deposit leaves what is kept
  not_kept : (by g : ℕ) (note : EntryNote) → IsStep x (Close by Append g (Deposit note))
      → (key : ℕ) → MayBeKept x key → is_between x.synced key note ≡ false
  not_kept by g note a key may = ⊎_elim (λ low. between_none x.synced key note.end.0 low)
      (λ D. and_no (nat_lt x.synced note.end.0) (nat_le note.end.0 key)
      (lt-leb note.end.0 key (above_noted key D.noted by g note a))) may

  -- and what is lasting
  pub kept_same : (by g : ℕ) (note : EntryNote) (a : IsStep x (Close by Append g (Deposit note)))
      (o : Beside) (opened key : ℕ) (filed : Filed) (dropped : List ℕ) → MayBeKept x key
      → shown o opened key filed dropped x
      ≡ shown o opened key filed dropped (next_of x (Close by Append g (Deposit note)))
  kept_same by g note a o opened key filed dropped may =
      let at = position_or_len (λ (n : EntryNote). nat_lt note.start.0 n.start.0) x.notes in
      let above = above_noted x.synced L.logged_is_the_synced_part.gathered by g note a in
      let lasts = filter_insert (is_at_most x.synced) x.notes at note
      (lt-leb note.end.0 x.synced above) in
      let kept = filter_insert (is_between x.synced key) x.notes at note
      (not_kept by g note a key may) in
      λ j. record (shown o opened key filed dropped x) {
        logged = sym lasts j;
        kept = sym kept j;
      }
