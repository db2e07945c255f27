-- What writes try: each allowed step keeps it.
use Rattle.std.proofs.Common.{
  ◌≡◌,
  ℕ,
  ◌<◌,
  ◌&&◌,
  length,
  Option,
  Some,
  is_some,
  refl,
  sym,
  ap,
  ◌∙◌,
  subst,
}
use Rattle.std.proofs.Math.ListN.{get_or-map as get_or-map_default}
use mathlib.Core.Logic.{dite}
use native.Mathlib.Decide.{ℕ_discrete}
use Rattle.op_core.specs.declared.count.Order.TheVariants.{Write, Append}
use Rattle.path_core.specs.declared.event.Carried.TheVariants.{Nothing, Deposit, Applied}
use Rattle.path_core.specs.declared.event.ClaimKind.TheVariants.{Entry, Marker}
use Rattle.path_core.specs.declared.event.Cursor.TheVariants.{Synced, OldestLive, Stopped}
use Rattle.path_core.specs.declared.event.Event.{Event}
use Rattle.path_core.specs.declared.event.Event.TheVariants.{Look, Close, Claim, Raise}
use Rattle.path_core.specs.declared.event.Place.TheVariants.{Bound, CursorWord}
use Rattle.path_core.specs.declared.seat.FlushTurn.{FlushTurn}
use Rattle.path_core.specs.declared.seat.SeatTable.{SeatTable}
use Rattle.path_core.specs.declared.state.PathState.{PathState}
use Rattle.path_core.specs.Parts.{untouched, seat_of, seat_table, is_at, table_of, memtable_of}
use Rattle.path_core.specs.Words.{by_of}
use Rattle.path_core.specs.SeatParts.{
  at_table,
  in_flush,
  bound_found,
  tries_bound,
  begins_at,
  deposited_end,
  has_note_of,
  is_raising,
  raised_to,
}
use Rattle.path_core.specs.SeatAfter.{raised_as_writer, raised_as_holder, left_table}
use Rattle.path_core.specs.Next.{next_of}
use Rattle.path_core.specs.Allowed.{IsStep}
use Rattle.path_core.proofs.seats.Columns.{
  each_seat,
  own_after,
  at_table_same,
  at_table_other,
  seat_fits,
  claim_after,
  note_after,
}
use Rattle.path_core.specs.Lawful.{IsLawfulLog, IsLawfulCore}
use Rattle.path_core.specs.LawfulPlaces.{PlacesAre}
use Rattle.path_core.proofs.log.OwnNotes.{no_note, not_yet}
use Rattle.path_core.proofs.places.Tries.{tried_in}
use Rattle.path_core.proofs.orders.OtherSteps.{columns_of}
use Rattle.path_core.proofs.places.TriesStay.{
  none_tried,
  tries_at,
  Tries,
  own,
  moved,
  own_same,
  own_none,
}
use Rattle.path_core.proofs.places.LooksTry.{bound_tries, oldest_tries}
use Rattle.path_core.proofs.places.RaisesTry.{raise_tries, raise_again}

module _ (x : PathState) (C : IsLawfulCore x) (P : PlacesAre x) where
  abbrev L : IsLawfulLog x
  L = C.log

  -- where the acting seat's part of one table changes
  at_one : (e : Event) → IsStep x e → (u t : ℕ) → u < length x.tables → (f : SeatTable
      → SeatTable)
      → claim_after (own x e).claim e ≡ (own x e).claim
      → note_after (own x e).note e ≡ (own x e).note
      → seat_table (own_after x e) t ≡ seat_table (at_table u f (own x e)) t
      → (t ≡ u → Tries x e u (own x e).claim (own x e).note (tried_in (f (seat_table (own x e) u))))
      → Tries x e t (own_after x e).claim (own_after x e).note (tried_in (seat_table
      (own_after x e) t))
  at_one e a u t inside f c n is here = tries_at _ t _ _ _ _ _ _ _
      ((columns_of x L.sized L.orders e a.is_there).claim ∙ c)
      ((columns_of x L.sized L.orders e a.is_there).note ∙ n) (ap tried_in is)
      (dite (ℕ_discrete t u)
      (λ q. subst (λ k. Tries x e k (own x e).claim (own x e).note
      (tried_in (seat_table (at_table u f
      (own x e)) k)))
      (sym q) (subst (λ st. Tries x e u (own x e).claim (own x e).note (tried_in st))
      (sym (at_table_same u f (own x e) (seat_fits x L.sized u (by_of e) inside))) (here q)))
      (λ q. subst (λ st. Tries x e t (own x e).claim (own x e).note (tried_in st))
      (sym (at_table_other u t f (own x e) q)) (moved x C P e a (by_of e) t)))

  own_tries : (e : Event) → IsStep x e → (t : ℕ)
      → Tries x e t (own_after x e).claim (own_after x e).note (tried_in (seat_table
      (own_after x e) t))
  own_tries (Close by Write g carried) a t =
      let same = ap tried_in (get_or-map_default left_table (seat_of x by).tables t untouched) in
      none_tried _ t _ _ _ _ _ (ap (λ (p : Option ℕ × Option ℕ). p.0) same)
      (ap (λ (p : Option ℕ × Option ℕ). p.1) same)
  own_tries (Close by Append g (Deposit note)) a t =
      own_none x C P (Close by Append g (Deposit note)) a
      (λ b. b) t
      (not_yet x L.orders by g a.row.0)
  own_tries (Close by Append g Nothing) a t = own_same x C P (Close by Append g Nothing) a
      (λ b. b) t refl refl
  own_tries (Close by Append g (Applied places)) a t = absurd a.row.1
  own_tries (Claim by from to Entry) a t = own_none x C P (Claim by from to Entry) a (λ b. b) t
      (no_note x L.orders by a.row.2)
  own_tries (Claim by from to Marker) a t = own_same x C P (Claim by from to Marker) a
      (λ b. b) t refl refl
  own_tries (Look by (Bound table m)) a t = at_one (Look by
      (Bound table m)) a table.0 t a.is_there.0
      (λ (st : SeatTable). tries_bound (deposited_end (seat_of x by)) m
      (memtable_of x table.0 m).bound
      (bound_found m (memtable_of x table.0 m).bound st)) refl refl refl
      (λ _. bound_tries x C P by table.0 m (memtable_of x table.0 m).bound refl
      (deposited_end (seat_of x by)) refl)
  own_tries (Look by (CursorWord (OldestLive table))) a t =
      at_one (Look by (CursorWord (OldestLive table))) a table.0 t a.is_there
      (λ (st : SeatTable). begins_at (has_note_of (seat_of x by) table.0)
      (table_of x table.0).oldest_live
      (in_flush (λ (turn : FlushTurn).
      record turn { oldest_live = Some (table_of x table.0).oldest_live }) st)) refl refl refl
      (λ _. oldest_tries x C P by table.0 a.is_there
      (has_note_of (seat_of x by) table.0) refl _ refl)
  own_tries (Look by (CursorWord Synced)) a t = own_same x C P (Look by (CursorWord Synced)) a
      (λ b. b) t refl refl
  own_tries (Look by (CursorWord Stopped)) a t = own_same x C P (Look by (CursorWord Stopped)) a
      (λ b. b) t refl refl
  own_tries (Look by at) a t = own_same x C P (Look by at) a (λ b. b) t refl refl
  own_tries (Raise by table m to) a t = at_one (Raise by table m to) a table.0 t a.is_there.0
      (λ (st : SeatTable). raised_as_holder m to.0 (raised_as_writer (is_some (seat_of x by).note) m
      (memtable_of x table.0 m).bound (bound_found m (raised_to to.0
      (memtable_of x table.0 m).bound) st))) refl refl refl
      (λ _. raise_again x C P by table m to (is_some (seat_of x by).note
      && is_at (seat_table (seat_of x by) table.0).trying m
      && is_raising (memtable_of x table.0 m).bound)
      (raise_tries x C P by table m to a (memtable_of x table.0 m).bound refl
      (is_some (seat_of x by).note && is_at (seat_table (seat_of x by) table.0).trying m
      && is_raising (memtable_of x table.0 m).bound) refl))
  own_tries e a t = own_same x C P e a (λ b. b) t refl refl

  pub keeps_tries : (e : Event) → IsStep x e → (w t : ℕ)
      → Tries x e t (seat_of (next_of x e) w).claim (seat_of (next_of x e) w).note
      (tried_in (seat_table (seat_of (next_of x e) w) t))
  keeps_tries e a w t = each_seat x e a.seat
      (λ _ s. Tries x e t s.claim s.note (tried_in (seat_table s t))) (own_tries e a t)
      (λ v _. moved x C P e a v t) w
