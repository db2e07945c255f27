-- A write is put into its box of a memtable: what the seat knows between the two looks, and after.
use Rattle.std.proofs.Common.{
  ◌≡◌,
  ℕ,
  List,
  [],
  ◌∷◌,
  ◌++◌,
  Option,
  Some,
  None,
  set,
  sym,
  ap,
  ◌∙◌,
  subst,
}
use Rattle.std.specs.List.{Contains}
use Rattle.std.specs.Option.{option_map}
use Rattle.std.proofs.lemmas.List.{set-get_or}
use mathlib.Core.Logic.{inr}
use Rattle.atomic_table.specs.Table.{rest}
use Rattle.clog_base.specs.declared.cell.Table.{Table}
use Rattle.path_core.specs.declared.event.Event.TheVariants.{Look}
use Rattle.path_core.specs.declared.event.Place.TheVariants.{Newest}
use Rattle.path_core.specs.declared.note.EntryNote.{EntryNote}
use Rattle.path_core.specs.declared.seat.FlushTurn.{FlushTurn}
use Rattle.path_core.specs.declared.seat.Seat.{Seat}
use Rattle.path_core.specs.declared.seat.SeatTable.{SeatTable}
use Rattle.path_core.specs.declared.state.Placed.{Placed}
use Rattle.path_core.specs.Parts.{seat_table, untouched, HoldsNoTurn}
use Rattle.path_core.specs.SeatParts.{in_flush}
use Rattle.path_rule.specs.declared.slot.Slot.{Slot}
use Rattle.path_rule.specs.declared.slot.Slot.TheVariants.{Notes}
use Rattle.path_rule.specs.declared.view.Hands.{Hands}
use Rattle.path_rule.specs.declared.view.View.{View}
use Rattle.path_rule.specs.Applying.{put_there, MayApply, PutsNote}
use Rattle.path_rule.specs.HandsAfter.{with_applied, with_held}
use Rattle.path_rule.specs.Rule.{view_after, with_hands}

-- A table's part whose turn is not held stays.
in_no_flush : (f : FlushTurn → FlushTurn) (st : SeatTable) → st.flush ≡ None → in_flush f st ≡ st
in_no_flush f st free = ap (λ (o : Option FlushTurn). record st { flush = option_map f o }) free
    ∙ ap (λ (o : Option FlushTurn). record st { flush = o }) (sym free)

module _ (v : View) (w : ℕ) (t : Table) (n : ℕ) (h : Hands) where
  -- So a look at a table's newest memtable leaves the part of a seat that holds no turn.
  pub leaves_part : HoldsNoTurn v.part
      → (view_after (with_hands h v) (Look w (Newest t)) n).part ≡ v.part
  leaves_part free = ap (λ (l : List SeatTable). record v.part { tables = l })
      (ap (λ (st : SeatTable). set v.part.tables t.0 st)
      (in_no_flush (λ (turn : FlushTurn). record turn { newest = Some n }) (seat_table v.part t.0)
      (free.flush t.0)) ∙ set-get_or v.part.tables t.0 untouched)

  -- The write may be put into the box still.
  pub may_still : (note : EntryNote) (after : View) → HoldsNoTurn v.part
      → after ≡ view_after (with_hands h v) (Look w (Newest t)) n
      → h.applied ≡ v.hands.applied → MayApply v w t.0 note → MayApply after w t.0 note
  may_still note after free is same A = subst (λ (u : View). MayApply u w t.0 note) (sym is)
      (record {
        deposited = inr A.deposited;
        range = ap (λ (p : Seat). p.claim) (leaves_part free) ∙ A.range;
        tables = ap (λ (p : Seat). p.note) (leaves_part free) ∙ A.tables;
        writer = A.writer;
        fresh = λ a put. A.fresh a (subst (λ (l : List Placed). Contains l a) same put);
      })

-- Both looks together.
pub puts_note : (v mid after : View) (w : ℕ) (t : Table) (k first last b : ℕ)
    (held : List EntryNote) (note : EntryNote) → HoldsNoTurn v.part
    → mid ≡ view_after (with_hands (with_held b held v.hands) v) (Look w (Newest t)) first
    → after ≡ view_after (with_hands (with_applied (put_there t k note) mid.hands) mid)
    (Look w (Newest t)) last → PutsNote v w t k note after
puts_note v mid after w t k first last b held note free is then = record {
  first = first;
  last = last;
  trail = ap (λ (u : View). u.trail) then
      ∙ ap (λ (u : View). record { event = Look w (Newest t); found = last; filed = None }
      ∷ u.trail) is;
  part = ap (λ (u : View). u.part) then ∙ (leaves_part mid w t last
      (with_applied (put_there t k note) mid.hands)
      (subst HoldsNoTurn (sym part) free) ∙ part);
  hands = ap (λ (u : View). u.hands) then
      ∙ ap (λ (u : View). with_applied (put_there t k note) u.hands) is;
  role = ap (λ (u : View). u.role) then ∙ ap (λ (u : View). u.role) is;
  returned = ap (λ (u : View). u.returned) then ∙ ap (λ (u : View). u.returned) is;
  size = ap (λ (u : View). u.size) then ∙ ap (λ (u : View). u.size) is;
}
  where
    part : mid.part ≡ v.part
    part = ap (λ (u : View). u.part) is ∙ leaves_part v w t first (with_held b held v.hands) free

-- What was laid into the box, with the numbers and notes as they are named elsewhere.
pub laid_there : {K : Type 0} (x b : ℕ) (held held' copy : List EntryNote) (note : EntryNote)
    (me before : List (ℕ × Slot K)) → me ≡ (x, Notes (held ++ copy)) ∷ rest before → x ≡ b
    → held' ≡ held → copy ≡ note ∷ []
    → me ≡ (b, Notes (held' ++ note ∷ [])) ∷ rest me
laid_there x b held held' copy note me before laid is same one =
    laid ∙ (λ i. (is i, Notes (sym same i ++ one i)) ∷ sym (ap rest laid) i)
