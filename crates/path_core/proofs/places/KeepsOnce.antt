-- Each entry is placed in at most one memtable of a table, and only when its write closes: each
-- allowed step keeps it.
use Rattle.std.proofs.Common.{
  ◌≡◌,
  ℕ,
  ◌≤◌,
  ◌==◌,
  ◌&&◌,
  true,
  false,
  cond,
  Option,
  Some,
  None,
  is_some,
  refl,
  sym,
  ap,
  ◌∙◌,
  arith,
}
use Rattle.std.specs.Option.{option_map_or}
use Rattle.std.specs.List.{Contains, count_by}
use Rattle.std.proofs.lemmas.Bool.{false≢true, false_from_ne_true, and_parts, eq-eqb, eqb-true}
use Rattle.std.proofs.lemmas.List.Sums.{sum_by-append}
use Rattle.std.proofs.lemmas.Option.{none-some, same_Some}
use mathlib.Core.Logic.{dite, inl, inr}
use native.Mathlib.Decide.{ℕ_discrete, dec_lt}
use Rattle.op_core.specs.declared.count.Order.TheVariants.{Write, Append}
use Rattle.path_core.specs.declared.event.Carried.TheVariants.{Nothing, Deposit, Applied}
use Rattle.path_core.specs.declared.event.ClaimKind.TheVariants.{Entry, Marker}
use Rattle.path_core.specs.declared.event.Event.{Event}
use Rattle.path_core.specs.declared.event.Event.TheVariants.{Close, Claim}
use Rattle.path_core.specs.declared.seat.Range.{Range}
use Rattle.path_core.specs.declared.state.PathState.{PathState}
use Rattle.path_core.specs.declared.state.Placed.{Placed}
use Rattle.path_core.specs.Parts.{fresh_seat, seat_of, seat_table}
use Rattle.path_core.specs.Words.{by_of}
use Rattle.path_core.specs.Allowed.{IsStep}
use Rattle.path_core.specs.Next.{next_of, places_from, end_of_claim}
use Rattle.path_core.specs.Lawful.{IsLawfulLog, IsLawfulPlacing}
use Rattle.path_core.specs.LawfulLog.{is_write_of}
use Rattle.path_core.specs.LawfulPlaces.{
  is_placing,
  has_placed,
  PlacedOnce,
  HasPlace,
  ClosedIsPlaced,
  RunningAreUnplaced,
}
use Rattle.path_core.proofs.lists.Replaced.{counted_some, counted_in, none_counted_in}
use Rattle.path_core.proofs.log.ClaimEnds.{ends_below}
use Rattle.path_core.proofs.orders.OtherSteps.{columns_of}
use Rattle.path_core.proofs.seats.Columns.{each_seat, claim_after}
use Rattle.path_core.proofs.places.Closing.{placed_was, own_place, one_claimant}
use Rattle.path_core.proofs.log.LogGrows.{claimed_above}
use Rattle.path_core.proofs.lists.Counted.{one_counted, counted_there}
use Rattle.path_core.proofs.places.SeatPlaced.{one_each, placing_entry}

module _ (x : PathState) (Z : IsLawfulPlacing x) where
  abbrev L : IsLawfulLog x
  L = Z.core.log

  -- what is placed lies below the log key
  placed_low : (p : Placed) → Contains x.placed p → p.entry ≤ x.log
  placed_low p h = let I = (Z.places.placed p h).noted in let q = I.position in
      let l = ends_below x.capacity x.ordinals x.log x.claims L.claims_tile_the_log _
      (L.notes_are_claims.each I.note I.among).claim in omega arith

  -- Each allowed step keeps that a running write's entry is placed nowhere.
  pub keeps_unplaced : RunningAreUnplaced x → (e : Event) → IsStep x e
      → RunningAreUnplaced (next_of x e)
  keeps_unplaced U e a w r p claim h is = each_seat x e a.seat
      (λ _ s. (r : Range) → s.claim ≡ Some r → p.entry ≡ r.end → ⊥)
      (λ r c is. own e a r h (sym (columns_of x L.sized L.orders e a.is_there).claim ∙ c) is)
      (λ v other r c is. elim (placed_was x e p h) [
        | inl old ↦ U v r p c old is
        | inr now ↦ let I = own_place x Z (by_of e) p now in
            other (sym (one_claimant x Z (by_of e) v I.range r I.claim c (sym I.entry ∙ is)))
      ]) w r claim is
    where
      own : (e : Event) → IsStep x e → (r : Range) → Contains (next_of x e).placed p
          → claim_after (seat_of x (by_of e)).claim e ≡ Some r → p.entry ≡ r.end → ⊥
      own (Close by Write g carried) a r h c is = none-some r c
      own (Close by Append g carried) a r h c is = U by r p c h is
      own (Claim by from to Entry) a r h c is =
          let high = claimed_above x L.sized L.claims_tile_the_log by from to a in
          let end = ap (λ (q : Range). q.end) (same_Some _ r c) in
          let low = placed_low p h in
          absurd (omega arith)
      own (Claim by from to Marker) a r h c is = U by r p c h is
      own e a r h c is = U (by_of e) r p c h is

  -- Each allowed step keeps that each entry has at most one placing at a table.
  pub keeps_one : RunningAreUnplaced x → PlacedOnce x → (e : Event) → IsStep x e
      → (t entry : ℕ) → count_by (is_placing t entry) (next_of x e).placed ≤ 1
  keeps_one U S (Close by Write g (Applied places)) a t entry =
      let s = sum_by-append (λ p. cond (is_placing t entry p) 1 0) x.placed
      (places_from 0 (end_of_claim (seat_of x by)) (seat_of x by).tables) in
      let I = a.row.1.1 in
      let H = L.each_claim_noted_once.own by I.tables I.deposited in
      let one = one_each t entry 0 (end_of_claim (seat_of x by)) (seat_of x by).tables in
      let old = S t entry in
      dite (ℕ_discrete H.note.end.0 entry)
      (λ is. let none = none_counted_in (is_placing t entry) x.placed (λ p h.
      false_from_ne_true (is_placing t entry p)
      (λ q. U by _ p H.range h (placing_entry t entry p q ∙ sym is))) in omega arith)
      (λ other. let none = none_counted_in (is_placing t entry)
      (places_from 0 (end_of_claim (seat_of x by)) (seat_of x by).tables) (λ p h.
      false_from_ne_true (is_placing t entry p) (λ q. let O = own_place x Z by p h in
      other (ap (λ (k : Range). k.end) (same_Some _ O.range (sym H.range ∙ O.claim))
      ∙ sym O.entry ∙ placing_entry t entry p q))) in omega arith)
  keeps_one U S (Close by Write g Nothing) a t entry = let old = S t entry in omega arith
  keeps_one U S (Close by Write g (Deposit note)) a t entry = let old = S t entry in omega arith
  keeps_one U S (Close by Append g carried) a t entry = let old = S t entry in omega arith
  keeps_one U S e a t entry = let old = S t entry in omega arith

  -- a seat whose write has its place has a claim that ends at its entry
  placed_claim : (t entry w : ℕ) → has_placed t entry (seat_of x w) ≡ true
      → (r : Range) × ((seat_of x w).claim ≡ Some r) × (r.end ≡ entry)
  placed_claim t entry w h = by (seat_of x w).claim refl
      (and_parts (is_write_of entry (seat_of x w))
      (is_some (seat_table (seat_of x w) t).place) h).0
    where
      by : (claim : Option Range) → (seat_of x w).claim ≡ claim
          → option_map_or (λ (r : Range). r.end == entry) claim false ≡ true
          → (r : Range) × ((seat_of x w).claim ≡ Some r) × (r.end ≡ entry)
      by None e b = absurd (false≢true b)
      by (Some r) e b = (r, e, eqb-true r.end entry b)

  -- Each entry has at most one place, where running writes are unplaced and placings are single.
  pub placed_once : RunningAreUnplaced x
      → ((t entry : ℕ) → count_by (is_placing t entry) x.placed ≤ 1) → PlacedOnce x
  placed_once U one t entry =
      let seats : count_by (has_placed t entry) x.seats ≤ 1
      = one_counted (has_placed t entry) x.seats fresh_seat (λ v w _ _ g h.
      let q = placed_claim t entry v g in let r = placed_claim t entry w h in
      one_claimant x Z v w q.0 r.0 q.1 r.1 (q.2 ∙ sym r.2)) in
      let few = one t entry in
      dite (dec_lt 0 (count_by (has_placed t entry) x.seats))
      (λ some. let s = counted_there (has_placed t entry) x.seats fresh_seat some in
      let r = placed_claim t entry s.0 s.2 in
      let none = none_counted_in (is_placing t entry) x.placed
      (λ p h. false_from_ne_true (is_placing t entry p)
      (λ q. U s.0 r.0 p r.1 h (placing_entry t entry p q ∙ sym r.2))) in omega arith)
      (λ none. omega arith)

  -- an entry that has its place has exactly one
  pub one_place : PlacedOnce x → (t entry : ℕ) → HasPlace x t entry
      → count_by (is_placing t entry) x.placed ≡ 1
  one_place S t entry H =
      let some = counted_in (is_placing t entry) x.placed _ H.1
      (ap (λ b. b && (entry == entry)) (eq-eqb t t refl) ∙ eq-eqb entry entry refl) in
      let few = S t entry in
      omega arith

  -- A write that is closed has exactly one place for each of its tables.
  pub closed_is_placed : PlacedOnce x → ClosedIsPlaced x
  closed_is_placed S n t h nobody touched = one_place S t n.end.0 (Z.places.closed n t h
      (λ w r c is. let some = counted_some (is_write_of n.end.0) x.seats fresh_seat refl w
      (ap (λ (d : Option Range). option_map_or (λ (q : Range). q.end == n.end.0) d false) c
      ∙ eq-eqb r.end n.end.0 is) in absurd (omega arith)) touched)
