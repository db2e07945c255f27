-- What steps on the words of a table, and looks at the log key, leave of its Flush turn's holder.
use Rattle.std.proofs.Common.{◌≡◌, ℕ, ◌<◌, ◌≤◌, Bool, cond, Option, is_some, refl, sym, ap, ◌∙◌}
use Rattle.std.proofs.Common.{subst, arith, None}
use Rattle.path_core.specs.declared.event.Cursor.TheVariants.{Synced, OldestLive, Stopped}
use Rattle.path_core.specs.declared.event.Event.{Event}
use Rattle.path_core.specs.declared.event.Event.TheVariants.{Look, Register, Close, OpenGroup}
use Rattle.path_core.specs.declared.event.Event.TheVariants.{MoveCurrent, Expire, Advance, Claim}
use Rattle.path_core.specs.declared.event.Event.TheVariants.{Switch, Raise, Finalise, TakeTurn}
use Rattle.path_core.specs.declared.event.Event.TheVariants.{GiveTurn, Put}
use Rattle.path_core.specs.declared.event.Place.TheVariants.{Count, Current, Oldest, Log, Newest}
use Rattle.path_core.specs.declared.event.Place.TheVariants.{Bound as BoundOf, TurnWord, CursorWord}
use Rattle.path_core.specs.declared.event.SwitchPart.TheVariants.{Clear, Open as OpenPart, Mark}
use Rattle.path_core.specs.declared.seat.Range.{Range}
use Rattle.path_core.specs.declared.seat.Seat.{Seat}
use Rattle.path_core.specs.Parts.{seat_table}
use Rattle.path_core.specs.SeatAfter.{Told, seat_after}
use Rattle.path_core.specs.Words.{place_of}
use Rattle.path_core.proofs.seats.Columns.{Columns, write_after, append_after, claim_after}
use Rattle.path_core.proofs.seats.Columns.{flush_after}
use Rattle.path_core.proofs.seats.StepColumns.{columns, FitsSeat}
use Rattle.path_rule.specs.declared.view.View.{View}
use Rattle.path_rule.specs.Calls.{Did}
use Rattle.path_rule.specs.Issued.{is_issue}
use Rattle.path_rule.specs.Layout.{reading_at}
use Rattle.path_rule.specs.Rule.{told_by}
use Rattle.path_rule.proofs.seats.Staying.{none_is}
use Rattle.path_flush.specs.FlushSteps.{FlushSteps, IsFlushStep}
use Rattle.path_flush.specs.FlushTurns.{IsHolder}
use Rattle.path_flush.proofs.FlushGoes.{at_most, next, one}

abbrev pub IsTableStep : Event → Type 0
IsTableStep (Look by (Newest t)) = Unit {0}
IsTableStep (Look by (CursorWord (OldestLive t))) = Unit {0}
IsTableStep (Look by (BoundOf t m)) = Unit {0}
IsTableStep (Look by Log) = Unit {0}
IsTableStep (Switch by t m part) = Unit {0}
IsTableStep (Raise by t m to) = Unit {0}
IsTableStep (Finalise by t m) = Unit {0}
IsTableStep _ = ⊥

-- what it leaves of a seat
pub record Small (e : Event) : Type 0 where
  pub write : (g : Option ℕ) → write_after g e ≡ g
  pub append : (g : Option ℕ) → append_after g e ≡ g
  pub claim : (r : Option Range) → claim_after r e ≡ r
  pub flush : (t : ℕ) (b : Bool) → flush_after t b e ≡ b
  pub fits : (s : Seat) → FitsSeat e s
  pub sync : (s : Seat) (n : ℕ) (told : Told)
      → (seat_after s e (reading_at (place_of e) n) told).sync ≡ s.sync

small : (e : Event) → ((g : Option ℕ) → write_after g e ≡ g)
    → ((g : Option ℕ) → append_after g e ≡ g) → ((r : Option Range) → claim_after r e ≡ r)
    → ((t : ℕ) (b : Bool) → flush_after t b e ≡ b) → ((s : Seat) → FitsSeat e s)
    → ((s : Seat) (n : ℕ) (told : Told)
    → (seat_after s e (reading_at (place_of e) n) told).sync ≡ s.sync) → Small e
small e w a c f s y = record {
  write = w;
  append = a;
  claim = c;
  flush = f;
  fits = s;
  sync = y;
}

pub is_small : (e : Event) → IsTableStep e → Small e
is_small (Look by (Newest t)) is = small (Look by (Newest t)) (λ g. refl) (λ g. refl) (λ r. refl)
    (λ u b. refl) (λ s. tt) (λ s n told. refl)
is_small (Look by (CursorWord (OldestLive t))) is = small (Look by (CursorWord (OldestLive t)))
    (λ g. refl) (λ g. refl) (λ r. refl) (λ u b. refl) (λ s. tt) (λ s n told. refl)
is_small (Look by (BoundOf t m)) is = small (Look by (BoundOf t m)) (λ g. refl) (λ g. refl)
    (λ r. refl) (λ u b. refl) (λ s. tt) (λ s n told. refl)
is_small (Look by Log) is = small (Look by Log) (λ g. refl) (λ g. refl) (λ r. refl)
    (λ u b. refl) (λ s. tt) (λ s n told. refl)
is_small (Switch by t m Clear) is = small (Switch by t m Clear) (λ g. refl) (λ g. refl)
    (λ r. refl) (λ u b. refl) (λ s. tt) (λ s n told. refl)
is_small (Switch by t m OpenPart) is = small (Switch by t m OpenPart) (λ g. refl) (λ g. refl)
    (λ r. refl) (λ u b. refl) (λ s. tt) (λ s n told. refl)
is_small (Switch by t m Mark) is = small (Switch by t m Mark) (λ g. refl) (λ g. refl)
    (λ r. refl) (λ u b. refl) (λ s. tt) (λ s n told. refl)
is_small (Raise by t m to) is = small (Raise by t m to) (λ g. refl) (λ g. refl) (λ r. refl)
    (λ u b. refl) (λ s. tt) (λ s n told. refl)
is_small (Finalise by t m) is = small (Finalise by t m) (λ g. refl) (λ g. refl) (λ r. refl)
    (λ u b. refl) (λ s. tt) (λ s n told. refl)
is_small (Look by (Count o g)) is = absurd is
is_small (Look by (Current o)) is = absurd is
is_small (Look by (Oldest o)) is = absurd is
is_small (Look by (TurnWord turn)) is = absurd is
is_small (Look by (CursorWord Synced)) is = absurd is
is_small (Look by (CursorWord Stopped)) is = absurd is
is_small (Register by o g) is = absurd is
is_small (Close by o g carried) is = absurd is
is_small (OpenGroup by o g) is = absurd is
is_small (MoveCurrent by o g) is = absurd is
is_small (Expire by o g) is = absurd is
is_small (Advance by o g) is = absurd is
is_small (Claim by from to what) is = absurd is
is_small (TakeTurn by turn) is = absurd is
is_small (GiveTurn by turn) is = absurd is
is_small (Put by cursor value) is = absurd is

pub issues_none : (e : Event) → IsTableStep e → cond (is_issue e) 1 0 ≤ 0
issues_none (OpenGroup by o g) is = absurd is
issues_none e is = omega arith

-- What steps on the words of tables leave of a seat that holds a table's turn.
pub record TableSteps (w t : ℕ) (v after : View) : Type 0 where
  pub made : FlushSteps w t 0 v after
  pub sync : after.part.sync ≡ v.part.sync
  pub hands : after.hands ≡ v.hands
  pub holder : IsHolder t v → IsHolder t after

pub holder_still : (t : ℕ) (e : Event) (v after : View) → Small e → Columns e v.part after.part
    → after.size ≡ v.size → IsHolder t v → IsHolder t after
holder_still t e v after P C size H = record {
  there = subst (λ z. t < z.tables) (sym size) H.there;
  held = C.flush t ∙ (P.flush t (is_some (seat_table v.part t).flush) ∙ H.held);
  others = λ u other. none_is (seat_table after.part u).flush
      (C.flush u ∙ (P.flush u (is_some (seat_table v.part u).flush)
      ∙ ap (λ o. is_some o) (H.others u other)));
  idle = record {
    write = C.write ∙ (P.write v.part.write ∙ H.idle.write);
    append = C.append ∙ (P.append v.part.append ∙ H.idle.append);
  };
  unclaimed = C.claim ∙ (P.claim v.part.claim ∙ H.unclaimed);
}

abbrev pub on_table : (w t : ℕ) (e : Event) (n : ℕ) (v after : View) → IsTableStep e
    → IsFlushStep w t e → Did v w e n after → TableSteps w t v after
on_table w t e n v after kind is d = let P = is_small e kind in
    let told = told_by None v.hands in record {
      made = at_most w v after (issues_none e kind)
          (one w e n v.hands v after is (record { view = d.view; was = d.was }));
      sync = ap (λ (u : View). u.part.sync) d.view ∙ P.sync v.part n told;
      hands = ap (λ (u : View). u.hands) d.view;
      holder = holder_still t e v after P
          (subst (λ (u : View). Columns e v.part u.part) (sym d.view)
          (columns e v.part (reading_at (place_of e) n) told (P.fits v.part)))
          (ap (λ (u : View). u.size) d.view);
    }

abbrev pub then_table : (w z t : ℕ) (v u after : View) → z ≡ w → TableSteps w t v u
    → TableSteps z t u after → TableSteps w t v after
then_table w z t v u after same A B = record {
  made = next w z v u after same A.made B.made;
  sync = B.sync ∙ A.sync;
  hands = B.hands ∙ A.hands;
  holder = λ H. B.holder (A.holder H);
}
