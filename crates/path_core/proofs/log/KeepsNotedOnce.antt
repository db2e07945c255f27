-- Each entry claim is noted once, or its seat has yet to deposit it: each allowed step keeps it.
use Rattle.std.proofs.Common.{
  ◌≡◌,
  ℕ,
  ◌+◌,
  ◌<◌,
  ◌==◌,
  Bool,
  false,
  nat_lt,
  ◌&&◌,
  cond,
  List,
  Option,
  Some,
  None,
  is_none,
  IsTrue,
  refl,
  sym,
  ap,
  ◌∙◌,
  subst,
  arith,
  ◌⊎◌,
}
use Rattle.std.specs.List.{count_by, Contains, position_or_len}
use Rattle.std.specs.Option.{option_map_or}
use Rattle.std.proofs.lemmas.Bool.{eq-eqb, ne_eqb, and_right}
use Rattle.std.proofs.lemmas.List.Sums.{sum_by-set, sum_by-insert}
use mathlib.Core.Logic.{inl, inr}
use Rattle.clog_base.specs.declared.position.Key.{Key}
use Rattle.op_core.specs.declared.count.Order.TheVariants.{Write, Append}
use Rattle.path_core.specs.declared.event.Carried.TheVariants.{Nothing, Deposit, Applied}
use Rattle.path_core.specs.declared.event.ClaimKind.TheVariants.{Entry, Marker}
use Rattle.path_core.specs.declared.event.Event.{Event}
use Rattle.path_core.specs.declared.event.Event.TheVariants.{Close, MoveCurrent, Claim}
use Rattle.path_core.specs.declared.seat.Range.{Range}
use Rattle.path_core.specs.declared.seat.Seat.{Seat}
use Rattle.path_core.specs.declared.state.PathState.{PathState}
use Rattle.path_core.specs.Parts.{fresh_seat, seat_of, is_entry}
use Rattle.path_core.specs.Words.{by_of}
use Rattle.path_core.specs.Allowed.{IsStep}
use Rattle.path_core.specs.Next.{next_of, claim_of, joined}
use Rattle.path_core.specs.Lawful.{IsSized}
use Rattle.path_core.specs.LawfulOrders.{IsOrderly}
use Rattle.path_core.proofs.seats.Columns.{own_after, claim_after, note_after}
use Rattle.path_core.specs.declared.note.EntryNote.{EntryNote}
use Rattle.path_core.specs.declared.state.Claim.{Claim as ClaimOf}
use Rattle.path_core.specs.LawfulLog.{
  ClaimsTile,
  is_undeposited,
  is_note_at,
  EachClaimNoted,
  OwnClaims,
  NotesAreClaims,
}
use Rattle.path_core.proofs.lists.Replaced.{none_counted, none_counted_in}
use Rattle.path_core.proofs.orders.OtherSteps.{columns_of}
use Rattle.path_core.proofs.log.ClaimEnds.{ends_below}
use Rattle.std.proofs.Math.Bool.{and-true}
use Rattle.path_core.proofs.log.LogGrows.{claimed_above}
use Rattle.path_core.proofs.log.KeepsOwned.{claims_were}
use Rattle.path_core.proofs.log.OwnNotes.{no_note, not_yet, keeps_own_note}

-- a seat with this claim and this note has yet to deposit what ends at a key
abbrev pub undeposited_by : ℕ → Option Range → Option ℕ → Bool
undeposited_by end claim note =
    option_map_or (λ (r : Range). r.end == end) claim false && is_none note

module _ (x : PathState) (sized : IsSized x) (T : ClaimsTile x) (O : IsOrderly x)
    (owned : OwnClaims x) (noted : EachClaimNoted x) (notes : NotesAreClaims x) where
  -- how the seats that have not deposited a claim change
  undeposited_after : (e : Event) → IsStep x e → (end : ℕ)
      → count_by (is_undeposited end) (next_of x e).seats
      + cond {A = ℕ} (is_undeposited end (seat_of x (by_of e))) 1 0
      ≡ count_by (is_undeposited end) x.seats
      + cond {A = ℕ} (undeposited_by end (claim_after (seat_of x (by_of e)).claim e)
      (note_after (seat_of x (by_of e)).note e)) 1 0
  undeposited_after e a end =
      let all = sum_by-set (λ (s : Seat). cond {A = ℕ} (is_undeposited end s) 1 0) x.seats (by_of e)
      (own_after x e) fresh_seat a.seat in
      let C = columns_of x sized O e a.is_there in
      let is : cond {A = ℕ} (is_undeposited end (own_after x e)) 1 0
      ≡ cond {A = ℕ} (undeposited_by end (claim_after (seat_of x (by_of e)).claim e)
      (note_after (seat_of x (by_of e)).note e)) 1 0
      = ap (λ c. cond {A = ℕ} (undeposited_by end c (own_after x e).note) 1 0) C.claim
      ∙ ap (λ n. cond {A = ℕ} (undeposited_by end (claim_after (seat_of x
      (by_of e)).claim e) n) 1 0)
      C.note in
      omega arith

  -- what a step leaves of a claim that was there
  once_stays : (e : Event) → IsStep x e → (next_of x e).notes ≡ x.notes → (c : ClaimOf)
      → IsTrue (is_entry c) → Contains x.claims c
      → undeposited_by c.end (claim_after (seat_of x (by_of e)).claim e)
      (note_after (seat_of x (by_of e)).note e) ≡ is_undeposited c.end (seat_of x (by_of e))
      → count_by (is_undeposited c.end) (next_of x e).seats
      + count_by (is_note_at c.end) (next_of x e).notes ≡ 1
  once_stays e a same_notes c entry h same =
      let u = undeposited_after e a c.end in
      let b = ap (λ (t : Bool). cond {A = ℕ} t 1 0) same in
      let n = ap (λ (l : List EntryNote). count_by (is_note_at c.end) l) same_notes in
      let o = noted.once c h entry in
      omega arith

  -- no seat has a claim that ends above the log key, and no note does
  none_above : (end : ℕ) → x.log < end → (count_by (is_undeposited end) x.seats ≡ 0)
      × (count_by (is_note_at end) x.notes ≡ 0)
  none_above end above = (
    none_counted (is_undeposited end) x.seats fresh_seat
        (λ w. by_seat w (seat_of x w).claim refl),
    none_counted_in (is_note_at end) x.notes
        (λ n h. ne_eqb n.end.0 end (λ e. let l = ends_below x.capacity x.ordinals x.log x.claims T
        _ (notes.each n h).claim in omega arith)),
  )
    where
      by_seat : (w : ℕ) (claim : Option Range) → (seat_of x w).claim ≡ claim
          → undeposited_by end claim (seat_of x w).note ≡ false
      by_seat w None e = refl
      by_seat w (Some r) e = ap (λ b. b && is_none (seat_of x w).note) (ne_eqb r.end end
          (λ is. let l = ends_below x.capacity x.ordinals x.log x.claims T _ (owned w r e) in
          omega arith))

  once_claimed : (by : ℕ) (from to : Key) (a : IsStep x (Claim by from to Entry)) (c : ClaimOf)
      → IsTrue (is_entry c) → Contains x.claims c ⊎ (claim_of x.capacity by from.0 to.0 Entry ≡ c)
      → count_by (is_undeposited c.end) (next_of x (Claim by from to Entry)).seats
      + count_by (is_note_at c.end) x.notes ≡ 1
  once_claimed by from to a c entry (inl old) =
      let above = claimed_above x sized T by from to a in
      let below = ends_below x.capacity x.ordinals x.log x.claims T c old in
      once_stays (Claim by from to Entry) a refl c entry old
      (ap (λ b. b && is_none (seat_of x by).note) (ne_eqb to.0 c.end (λ e. omega arith))
      ∙ sym (ap (λ cl. undeposited_by c.end cl (seat_of x by).note) a.row.2))
  once_claimed by from to a c entry (inr is) =
      subst (λ (k : ℕ). count_by (is_undeposited k) (next_of x (Claim by from to Entry)).seats
      + count_by (is_note_at k) x.notes ≡ 1) (ap (λ (d : ClaimOf). d.end) is)
      (let above = claimed_above x sized T by from to a in
      let u = undeposited_after (Claim by from to Entry) a to.0 in
      let before : cond {A = ℕ} (is_undeposited to.0 (seat_of x by)) 1 0 ≡ 0
      = ap (λ cl. cond {A = ℕ} (undeposited_by to.0 cl (seat_of x by).note) 1 0) a.row.2 in
      let now : cond {A = ℕ} ((to.0 == to.0) && is_none (seat_of x by).note) 1 0 ≡ 1
      = ap (λ b. cond {A = ℕ} (b && is_none (seat_of x by).note) 1 0) (eq-eqb to.0 to.0 refl)
      ∙ ap (λ (n : Option ℕ). cond {A = ℕ} (is_none n) 1 0) (no_note x O by a.row.2) in
      let none = none_above to.0 above in
      let n0 = none.0 in
      let n1 = none.1 in
      omega arith)

  once_deposited : (by g : ℕ) (note : EntryNote)
      (a : IsStep x (Close by Append g (Deposit note))) (c : ClaimOf)
      → IsTrue (is_entry c) → Contains x.claims c
      → count_by (is_undeposited c.end) (next_of x (Close by Append g (Deposit note))).seats
      + count_by (is_note_at c.end) (joined note x.notes) ≡ 1
  once_deposited by g note a c entry h =
      let e = Close by Append g (Deposit note) in
      let u = undeposited_after e a c.end in
      let before : cond {A = ℕ} (is_undeposited c.end (seat_of x by)) 1 0
      ≡ cond {A = ℕ} (note.end.0 == c.end) 1 0
      = ap (λ cl. cond {A = ℕ} (undeposited_by c.end cl (seat_of x by).note) 1 0) a.row.1.range
      ∙ ap (λ (n : Option ℕ). cond {A = ℕ} ((note.end.0 == c.end) && is_none n) 1 0)
      (not_yet x O by g a.row.0)
      ∙ ap (λ (b : Bool). cond {A = ℕ} b 1 0) (and-true (note.end.0 == c.end)) in
      let now : cond {A = ℕ} (undeposited_by c.end (seat_of x by).claim (Some note.tables)) 1 0 ≡ 0
      = ap (λ (b : Bool). cond {A = ℕ} b 1 0)
      (and_right (option_map_or (λ (r : Range). r.end == c.end) (seat_of x by).claim false)
      false refl) in
      let n = sum_by-insert (λ (n : EntryNote). cond {A = ℕ} (is_note_at c.end n) 1 0) x.notes
      (position_or_len (λ (n : EntryNote). nat_lt note.start.0 n.start.0) x.notes) note in
      let o = noted.once c h entry in
      omega arith

  keeps_once : (e : Event) → IsStep x e → (c : ClaimOf) → Contains (next_of x e).claims c
      → IsTrue (is_entry c) → count_by (is_undeposited c.end) (next_of x e).seats
      + count_by (is_note_at c.end) (next_of x e).notes ≡ 1
  keeps_once (Claim by from to Entry) a c h entry = once_claimed by from to a c entry
      (claims_were x (Claim by from to Entry) c entry h)
  keeps_once (Claim by from to Marker) a c h entry =
      elim (claims_were x (Claim by from to Marker) c entry h) [
        | inl old ↦ once_stays (Claim by from to Marker) a refl c entry old refl
        | inr b ↦ absurd b
      ]
  keeps_once (Close by Append g (Deposit note)) a c h entry = once_deposited by g note a c entry h
  keeps_once (Close by Append g Nothing) a c h entry =
      once_stays (Close by Append g Nothing) a refl c entry h refl
  keeps_once (Close by Append g (Applied places)) a c h entry = absurd a.row.1
  keeps_once (Close by Write g Nothing) a c h entry =
      once_stays (Close by Write g Nothing) a refl c entry h
      (sym (ap (λ cl. undeposited_by c.end cl (seat_of x by).note) a.row.1.1))
  keeps_once (Close by Write g (Deposit note)) a c h entry = absurd a.row.1
  keeps_once (Close by Write g (Applied places)) a c h entry =
      once_stays (Close by Write g (Applied places)) a refl c entry h
      (sym (ap (λ (n : Option ℕ). undeposited_by c.end (seat_of x by).claim n) a.row.1.1.deposited
      ∙ and_right _ false refl))
  keeps_once (MoveCurrent by Write g) a c h entry =
      once_stays (MoveCurrent by Write g) a refl c entry h refl
  keeps_once (MoveCurrent by Append g) a c h entry =
      elim (claims_were x (MoveCurrent by Append g) c entry h) [
        | inl old ↦ once_stays (MoveCurrent by Append g) a refl c entry old refl
        | inr b ↦ absurd b
      ]
  keeps_once e a c h entry = once_stays e a refl c entry h refl

  pub keeps_noted : (e : Event) → IsStep x e → EachClaimNoted (next_of x e)
  keeps_noted e a = record {
    once = keeps_once e a;
    own = keeps_own_note x sized O noted e a;
  }
