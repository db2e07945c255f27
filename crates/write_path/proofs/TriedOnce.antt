-- What one try leaves of a seat that has deposited its entry.
use Rattle.std.proofs.Common.{◌≡◌, ℕ, ◌<◌, ◌^◌, ◌≤◌, Bool, false, List, [], ◌∷◌, Some, None, sym}
use Rattle.std.proofs.Common.{ap, ◌∙◌, subst, arith}
use Rattle.atomic_table.specs.Seated.{TableId}
use Rattle.path_core.specs.declared.event.Event.{Event}
use Rattle.path_core.specs.declared.seat.Seat.{Seat}
use Rattle.path_core.specs.Parts.{HoldsNoTurn}
use Rattle.path_core.proofs.seats.Columns.{append_after, claim_after, flush_after, issue_after}
use Rattle.path_core.proofs.seats.Columns.{issue_held, note_after, write_after}
use Rattle.path_core.proofs.seats.StepColumns.{FitsSeat}
use Rattle.path_rule.specs.declared.slot.Slot.{Slot}
use Rattle.path_rule.specs.declared.view.PathSize.{PathSize}
use Rattle.path_rule.specs.declared.view.View.{View}
use Rattle.path_rule.specs.Calls.{Did}
use Rattle.path_rule.specs.Issued.{is_issue, is_open, issued_in, opened_in}
use Rattle.path_rule.proofs.seats.Staying.{view_columns, free_stays}
use Rattle.path_table.specs.Members.{IsOf, KeepsBoxes}
use Rattle.write_path.specs.declared.deposited.Deposited.{Deposited}
use Rattle.path_flush.specs.OwnWrites.{writes_of, with_write}
use Rattle.write_path.specs.Ends.{IsSameWrite, IsTry}
use Rattle.write_path.proofs.Paying.{one_more}

-- a step leaves what a seat knows of its write, and of its turns, issues no barrier and makes no
-- memtable
abbrev pub LeavesWrite : Event → Seat → Type 0
LeavesWrite e s = (write_after s.write e ≡ s.write) × (append_after s.append e ≡ s.append)
    × (claim_after s.claim e ≡ s.claim) × (note_after s.note e ≡ s.note)
    × (issue_after (issue_held s) e ≡ issue_held s)
    × ((t : ℕ) (b : Bool) → flush_after t b e ≡ b) × FitsSeat e s × (is_issue e ≡ false)
    × (is_open e ≡ false)

module _ {K : Type 0} where
  -- what is known of such a seat is so behind the step
  pub still_deposited : {e : Event} {n : ℕ} {v : View} {boxes : List (ℕ × Slot K)}
      → (s : Deposited K) → Did s.member.seat.me.0 s.member.number e n v
      → boxes ≡ s.member.seat.me.1 → LeavesWrite e s.member.seat.me.0.part
      → record {
        writes : v.part.write ≡ Some s.writing;
        left : v.part.append ≡ None;
        claims : v.part.claim ≡ Some (record { start = s.start.0; end = s.end.0 });
        noted : v.part.note ≡ Some s.tables;
        few : s.tables < 2 ^ v.size.tables;
        free : HoldsNoTurn v.part;
        bare : boxes ≡ [];
        rests : v.hands.memtable_box ≡ None;
        paid : opened_in v.trail ≤ issued_in v.trail;
      }
  still_deposited {e} {n} s d same L = let u = s.member.seat.me.0 in
      let C = view_columns u e n L.6 in record {
        writes = ap (λ (v : View). v.part.write) d.view ∙ (C.write ∙ (L.0 ∙ s.writes));
        left = ap (λ (v : View). v.part.append) d.view ∙ (C.append ∙ (L.1 ∙ s.left));
        claims = ap (λ (v : View). v.part.claim) d.view ∙ (C.claim ∙ (L.2 ∙ s.claims));
        noted = ap (λ (v : View). v.part.note) d.view ∙ (C.note ∙ (L.3 ∙ s.noted));
        few = subst (λ (n : ℕ). s.tables < 2 ^ n)
            (sym (ap (λ (v : View). v.size.tables) d.view)) s.few;
        free = subst (λ (v : View). HoldsNoTurn v.part) (sym d.view)
            (free_stays e u.part _ C L.4 L.5 s.free);
        bare = same ∙ s.bare;
        rests = ap (λ (v : View). v.hands.memtable_box) d.view ∙ s.rests;
        paid = let issues = ap (λ (v : View). issued_in v.trail) d.view
            ∙ one_more (is_issue e) (issued_in u.trail) L.7 in
            let opens = ap (λ (v : View). opened_in v.trail) d.view
            ∙ one_more (is_open e) (opened_in u.trail) L.8 in
            let before = s.paid in omega (arith, issues, opens, before);
      }

  -- so it is the same write, and has tried once
  pub tried_once : {id : TableId} {size : PathSize} {e : Event} {n : ℕ} {s s' : Deposited K}
      → IsOf id size s.member → KeepsBoxes s.member s'.member
      → Did s.member.seat.me.0 s.member.number e n s'.member.seat.me.0
      → IsTry s.member.number e → with_write e (writes_of s.member.seat.me.0.trail)
      ≡ writes_of s.member.seat.me.0.trail
      → (s'.writing ≡ s.writing) × (s'.start ≡ s.start) × (s'.end ≡ s.end)
      × (s'.tables ≡ s.tables) → IsSameWrite id size s s'
  tried_once {e = e} {n = n} of same d try writes fields = record {
    member = ((same.0 ∙ of.0, ap (λ (v : View). v.size) d.view ∙ of.1), same.1);
    writing = fields.0;
    start = fields.1;
    end = fields.2;
    tables = fields.3;
    list = ap (λ (v : View). writes_of v.trail) d.view ∙ writes;
    tried = record {
      tries = record { event = e; found = n; filed = None } ∷ [];
      are = (try, tt);
      trail = ap (λ (v : View). v.trail) d.view;
      hands = ap (λ (v : View). v.hands) d.view;
      returned = ap (λ (v : View). v.returned) d.view;
    };
  }
