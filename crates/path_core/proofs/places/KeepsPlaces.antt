-- The entry of a write that is closed has its place at each of its tables: each allowed step keeps
-- it.
use Rattle.std.proofs.Common.{
  ◌≡◌,
  ◌≢◌,
  ℕ,
  ◌<◌,
  List,
  get_or,
  Option,
  Some,
  sym,
  ap,
  ◌∙◌,
  subst,
  arith,
  ◌≤◌,
  get_or-set_same,
  get_or-set_other,
  IsTrue,
}
use Rattle.std.specs.Option.{option_map_or}
use Rattle.std.proofs.lemmas.Option.{none-some, same_Some}
use mathlib.Core.Logic.{dite, inl, inr}
use native.Mathlib.Decide.{ℕ_discrete, dec_lt}
use Rattle.clog_base.specs.declared.cell.Table.{Table}
use Rattle.op_core.specs.declared.count.Order.TheVariants.{Write, Append}
use Rattle.path_core.specs.declared.event.Carried.{Carried}
use Rattle.path_core.specs.declared.event.Carried.TheVariants.{Nothing, Deposit, Applied}
use Rattle.path_core.specs.declared.event.ClaimKind.TheVariants.{Entry, Marker}
use Rattle.path_core.specs.declared.event.Event.{Event}
use Rattle.path_core.specs.declared.event.Event.TheVariants.{Close, Claim}
use Rattle.path_core.specs.declared.seat.Range.{Range}
use Rattle.path_core.specs.declared.seat.Seat.{Seat}
use Rattle.path_core.specs.declared.state.PathState.{PathState}
use Rattle.path_core.specs.Parts.{fresh_seat, seat_of, touches}
use Rattle.path_core.specs.Words.{by_of}
use Rattle.path_core.specs.Next.{next_of, places_from, end_of_claim}
use Rattle.path_core.specs.Allowed.{IsStep}
use Rattle.path_core.proofs.seats.Columns.{own_after, claim_after}
use Rattle.std.specs.List.{Contains}
use Rattle.std.proofs.lemmas.List.Elements.{Contains-append_left, Contains-append_right}
use Rattle.path_core.specs.declared.note.EntryNote.{EntryNote}
use Rattle.path_core.specs.declared.state.Placed.{Placed}
use Rattle.path_core.specs.Lawful.{IsLawfulLog, IsLawfulCore}
use Rattle.path_core.specs.LawfulPlaces.{HasPlace, PlacesAre}
use Rattle.std.proofs.lemmas.List.{get_or_default}
use Rattle.path_core.proofs.lists.Inserted.{insert_cases}
use Rattle.path_core.proofs.log.KeepsNotes.{note_long}
use Rattle.path_core.proofs.places.KeepsLater.{keeps_later, keeps_none_below}
use Rattle.path_core.proofs.places.KeepsPlaced.{placed_there, keeps_placed}
use Rattle.path_core.proofs.places.KeepsTries.{keeps_tries}
use Rattle.path_core.proofs.orders.OtherSteps.{columns_of}

module _ (x : PathState) (C : IsLawfulCore x) (P : PlacesAre x) where
  abbrev L : IsLawfulLog x
  L = C.log

  abbrev pub ClosesWrite : Event → Type 0
  ClosesWrite (Close by Write g carried) = Unit {0}
  ClosesWrite _ = ⊥

  -- notes that end at one key are one
  pub same_note : (a b : EntryNote) → Contains x.notes a → Contains x.notes b → a.end.0 ≡ b.end.0
      → a ≡ b
  same_note a b h g is = dite (ℕ_discrete h.0 g.0)
      (λ e. sym h.2 ∙ ap (λ k. get_or x.notes k a) e ∙ get_or_default x.notes g.0 a b g.1 ∙ g.2)
      (λ n. absurd (dite (dec_lt h.0 g.0)
      (λ l. let o = L.notes_are_claims.in_order h.0 g.0 a l g.1 in
      apart (get_or x.notes h.0 a) (get_or x.notes g.0 a) a b h.2
      (get_or_default x.notes g.0 a b g.1 ∙ g.2) o (long b g) is)
      (λ m. let o = L.notes_are_claims.in_order g.0 h.0 a (omega arith) h.1 in
      apart (get_or x.notes g.0 a) (get_or x.notes h.0 a) b a
      (get_or_default x.notes g.0 a b g.1 ∙ g.2) h.2 o (long a h) (sym is))))
    where
      long : (n : EntryNote) → Contains x.notes n → n.start.0 < n.end.0
      long n h = note_long x L.sized L.claims_tile_the_log L.orders L.own_claim
          L.each_claim_noted_once L.notes_are_claims n h

      apart : (u v a b : EntryNote) → u ≡ a → v ≡ b → u.end.0 ≤ v.start.0 → b.start.0 < b.end.0
          → a.end.0 ≡ b.end.0 → ⊥
      apart u v a b p q o l is = let e = ap (λ (n : EntryNote). n.end.0) p in
          let s = ap (λ (n : EntryNote). n.start.0) q in absurd (omega arith)

  pub placed_stays : (e : Event) (p : Placed) → Contains x.placed p
      → Contains (next_of x e).placed p
  placed_stays (Close by Write g (Applied places)) p h = Contains-append_left x.placed _ p h
  placed_stays (Close by Write g Nothing) p h = h
  placed_stays (Close by Write g (Deposit note)) p h = h
  placed_stays (Close by Append g carried) p h = h
  placed_stays e p h = h

  other_claim : (e : Event) (w : ℕ) → w ≢ by_of e → (seat_of (next_of x e) w).claim ≡
      (seat_of x w).claim
  other_claim e w n = ap (λ (s : Seat). s.claim)
      (get_or-set_other x.seats (by_of e) w (own_after x e) fresh_seat n)

  -- a claim stays but where its write closes
  still_claims : (e : Event) → IsStep x e → (ClosesWrite e → ⊥) → (w : ℕ) (r : Range)
      → (seat_of x w).claim ≡ Some r → (seat_of (next_of x e) w).claim ≡ Some r
  still_claims e a other w r h = dite (ℕ_discrete w (by_of e))
      (λ is. ap (λ k. (seat_of (next_of x e) k).claim) is
      ∙ ap (λ (s : Seat). s.claim)
      (get_or-set_same x.seats (by_of e) (own_after x e) fresh_seat a.seat)
      ∙ (columns_of x C.log.sized C.log.orders e a.is_there).claim
      ∙ own e a other (ap (λ k. (seat_of x k).claim) (sym is) ∙ h))
      (λ n. other_claim e w n ∙ h)
    where
      own : (e : Event) → IsStep x e → (ClosesWrite e → ⊥) → (seat_of x (by_of e)).claim ≡ Some r
          → claim_after (seat_of x (by_of e)).claim e ≡ Some r
      own (Close by Write g carried) a other h = absurd (other tt)
      own (Close by Append g carried) a other h = h
      own (Claim by from to Entry) a other h = absurd (none-some r (sym a.row.2 ∙ h))
      own (Claim by from to Marker) a other h = h
      own e a other h = h

  abbrev Nobody : PathState → ℕ → Type 0
  Nobody y end = (w : ℕ) (r : Range) → (seat_of y w).claim ≡ Some r → r.end ≡ end → ⊥

  has_still : (e : Event) (t end : ℕ) → HasPlace x t end → HasPlace (next_of x e) t end
  has_still e t end H = (H.0, placed_stays e _ H.1)

  -- a write that closes leaves the others
  others : (by g : ℕ) (carried : Carried) (end : ℕ)
      → ((r : Range) → (seat_of x by).claim ≡ Some r → r.end ≡ end → ⊥)
      → Nobody (next_of x (Close by Write g carried)) end → Nobody x end
  others by g carried end mine nobody w r h is = dite (ℕ_discrete w by)
      (λ e. mine r (ap (λ k. (seat_of x k).claim) (sym e) ∙ h) is)
      (λ n. nobody w r (other_claim (Close by Write g carried) w n ∙ h) is)

  closes_applied : (by g : ℕ) (places : List (Table × ℕ))
      → IsStep x (Close by Write g (Applied places)) → (n : EntryNote) (t : ℕ)
      → Contains x.notes n → Nobody (next_of x (Close by Write g (Applied places))) n.end.0
      → IsTrue (touches n.tables t)
      → HasPlace (next_of x (Close by Write g (Applied places))) t n.end.0
  closes_applied by g places a n t h nobody touched =
      let I = a.row.1.1 in
      let H = L.each_claim_noted_once.own by I.tables I.deposited in
      dite (ℕ_discrete H.note.end.0 n.end.0)
      (λ is. let same = same_note H.note n H.among h is in
      let mine : IsTrue (touches I.tables t) = subst (λ k. IsTrue (touches k t))
      (sym (ap (λ (m : EntryNote). m.tables) same) ∙ H.tables_are) touched in
      let place = I.each t mine in
      let T = P.tries by t in
      let l = (T.of_note place.0 (T.place_is_tried place.0 place.1)).3 in
      let few = L.sized.limits.few_tables in
      let long = L.sized.seats by in
      let end : end_of_claim (seat_of x by) ≡ n.end.0
      = ap (λ (c : Option Range). option_map_or (λ (r : Range). r.end) c 0) H.range ∙ is in (
        place.0,
        Contains-append_right x.placed _ _
            (subst (λ k. Contains (places_from 0 (end_of_claim (seat_of x by))
            (seat_of x by).tables)
            (record { table = t; entry = k; memtable = place.0 })) end
            (subst (λ k. Contains (places_from 0 (end_of_claim (seat_of x by))
            (seat_of x by).tables)
            (record { table = k; entry = end_of_claim (seat_of x by); memtable = place.0 }))
            (omega arith)
            (placed_there x C P 0 (end_of_claim (seat_of x by)) (seat_of x by).tables t place.0
            (omega arith)
            place.1))),
      ))
      (λ not. has_still (Close by Write g (Applied places)) t n.end.0 (P.closed n t h
      (others by g (Applied places) n.end.0
      (λ r c q. not (ap (λ (z : Range). z.end) (same_Some _ r (sym H.range ∙ c))
      ∙ q)) nobody) touched))

  -- where no write closes
  before : (e : Event) → IsStep x e → (ClosesWrite e → ⊥) → (n : EntryNote) (t : ℕ)
      → Contains x.notes n → Nobody (next_of x e) n.end.0 → IsTrue (touches n.tables t)
      → HasPlace (next_of x e) t n.end.0
  before e a other n t h nobody touched = has_still e t n.end.0 (P.closed n t h
      (λ w r c is. nobody w r (still_claims e a other w r c) is) touched)

  keeps_closed : (e : Event) → IsStep x e → (n : EntryNote) (t : ℕ)
      → Contains (next_of x e).notes n
      → Nobody (next_of x e) n.end.0 → IsTrue (touches n.tables t)
      → HasPlace (next_of x e) t n.end.0
  keeps_closed (Close by Write g (Applied places)) a n t h nobody touched =
      closes_applied by g places a n t h nobody touched
  keeps_closed (Close by Write g Nothing) a n t h nobody touched =
      has_still (Close by Write g Nothing) t n.end.0 (P.closed n t h (others by g Nothing n.end.0
      (λ r c q. none-some r (sym a.row.1.1 ∙ c)) nobody) touched)
  keeps_closed (Close by Write g (Deposit note)) a n t h nobody touched = absurd a.row.1
  keeps_closed (Close by Append g (Deposit note)) a n t h nobody touched = elim
      (insert_cases x.notes _ note n h) [
        | inl old ↦ before (Close by Append g (Deposit note)) a (λ b. b) n t old nobody touched
        | inr new ↦ absurd (nobody by _
            (still_claims (Close by Append g (Deposit note)) a (λ b. b) by _ a.row.1.range)
            (ap (λ (m : EntryNote). m.end.0) new))
      ]
  keeps_closed (Close by Append g Nothing) a n t h nobody touched =
      before (Close by Append g Nothing) a (λ b. b) n t h nobody touched
  keeps_closed (Close by Append g (Applied places)) a n t h nobody touched = absurd a.row.1
  keeps_closed e a n t h nobody touched = before e a (λ b. b) n t h nobody touched

  -- Each allowed step keeps what is tried and placed.
  pub keeps_places : (e : Event) → IsStep x e → PlacesAre (next_of x e)
  keeps_places e a = record {
    later_above = keeps_later x C P e a;
    none_below = keeps_none_below x C P e a;
    tries = keeps_tries x C P e a;
    placed = keeps_placed x C P e a;
    closed = keeps_closed e a;
  }
