-- Notes stay, and a deposited seat's note is its own: each allowed step keeps it. A seat in the
-- append order, and one without a claim, has deposited nothing.
use Rattle.std.proofs.Common.{◌≡◌, ℕ, Option, Some, None, refl, sym, ◌∙◌, subst}
use Rattle.std.specs.List.{Contains}
use Rattle.std.proofs.lemmas.Option.{none-some, same_Some}
use Rattle.op_core.specs.declared.count.Order.TheVariants.{Write, Append}
use Rattle.path_core.specs.declared.event.Carried.TheVariants.{Nothing, Deposit, Applied}
use Rattle.path_core.specs.declared.event.ClaimKind.TheVariants.{Entry, Marker}
use Rattle.path_core.specs.declared.event.Event.{Event}
use Rattle.path_core.specs.declared.event.Event.TheVariants.{Close, Claim}
use Rattle.path_core.specs.declared.seat.Range.{Range}
use Rattle.path_core.specs.declared.state.PathState.{PathState}
use Rattle.path_core.specs.Parts.{seat_of}
use Rattle.path_core.specs.Words.{by_of}
use Rattle.path_core.specs.Allowed.{IsStep}
use Rattle.path_core.specs.Next.{next_of}
use Rattle.path_core.specs.Lawful.{IsSized}
use Rattle.path_core.specs.LawfulOrders.{IsOrderly}
use Rattle.path_core.proofs.seats.Columns.{Columns, each_seat, own_after, claim_after, note_after}
use Rattle.path_core.specs.declared.note.EntryNote.{EntryNote}
use Rattle.path_core.specs.LawfulLog.{HasNote, EachClaimNoted}
use Rattle.path_core.proofs.lists.Inserted.{insert_old, insert_new}
use Rattle.path_core.proofs.orders.OtherSteps.{columns_of}
use Rattle.path_core.proofs.lists.Options.{none_is_not_some}

module _ (x : PathState) (O : IsOrderly x) where
  -- a seat without a claim has deposited nothing
  pub no_note : (w : ℕ) → (seat_of x w).claim ≡ None → (seat_of x w).note ≡ None
  no_note w none = by (seat_of x w).note refl
    where
      by : (note : Option ℕ) → (seat_of x w).note ≡ note → note ≡ None
      by None e = refl
      by (Some t) e = absurd (none_is_not_some none ((O.orders_nest w).deposited t e).1)

  -- a seat in the append order has deposited nothing
  pub not_yet : (w g : ℕ) → (seat_of x w).append ≡ Some g → (seat_of x w).note ≡ None
  not_yet w g inside = by (seat_of x w).note refl
    where
      by : (note : Option ℕ) → (seat_of x w).note ≡ note → note ≡ None
      by None e = refl
      by (Some t) e = absurd (none-some g (sym ((O.orders_nest w).deposited t e).0 ∙ inside))

module _ (x : PathState) where
  pub notes_stay : (e : Event) (n : EntryNote) → Contains x.notes n → Contains (next_of x e).notes n
  notes_stay (Close by order g (Deposit note)) n h = insert_old x.notes _ note n h
  notes_stay (Close by order g Nothing) n h = h
  notes_stay (Close by order g (Applied places)) n h = h
  notes_stay e n h = h

  note_stays : (e : Event) (claim : Option Range) (w t : ℕ) → HasNote x.notes claim w t
      → HasNote (next_of x e).notes claim w t
  note_stays e claim w t H = record {
    note = H.note;
    among = notes_stay e H.note H.among;
    writer = H.writer;
    tables_are = H.tables_are;
    range = H.range;
  }

  pub keeps_own_note : IsSized x → IsOrderly x → EachClaimNoted x → (e : Event) → IsStep x e
      → (w t : ℕ) → (seat_of (next_of x e) w).note ≡ Some t
      → HasNote (next_of x e).notes (seat_of (next_of x e) w).claim w t
  keeps_own_note sized O noted e a w = each_seat x e a.seat (λ w s. (t : ℕ) → s.note ≡ Some t
      → HasNote (next_of x e).notes s.claim w t)
      (λ t h. subst (λ c. HasNote (next_of x e).notes c (by_of e) t) (sym C.claim)
      (own e a t (sym C.note ∙ h))) (λ v _ t h. note_stays e _ v t (noted.own v t h)) w
    where
      C : Columns e (seat_of x (by_of e)) (own_after x e)
      C = columns_of x sized O e a.is_there

      own : (e : Event) → IsStep x e → (t : ℕ)
          → note_after (seat_of x (by_of e)).note e ≡ Some t
          → HasNote (next_of x e).notes (claim_after (seat_of x (by_of e)).claim e) (by_of e) t
      own (Close by Append g (Deposit note)) a t h = record {
        note = note;
        among = insert_new x.notes _ note;
        writer = a.row.1.writer;
        tables_are = same_Some note.tables t h;
        range = a.row.1.range;
      }
      own (Close by Append g Nothing) a t h =
          note_stays (Close by Append g Nothing) _ by t (noted.own by t h)
      own (Close by Append g (Applied places)) a t h = absurd a.row.1
      own (Close by Write g carried) a t h = absurd (none-some t h)
      own (Claim by from to Entry) a t h =
          absurd (none_is_not_some a.row.2 ((O.orders_nest by).deposited t h).1)
      own (Claim by from to Marker) a t h =
          note_stays (Claim by from to Marker) _ by t (noted.own by t h)
      own e a t h = note_stays e _ (by_of e) t (noted.own (by_of e) t h)
