use Rattle.std.proofs.Common.{◌≡◌, ℕ, ◌+◌, ◌*◌, ◌%◌, ◌^◌, ◌<◌, List, [], ◌∷◌, length, get_or, Some}
use Rattle.std.proofs.Common.{refl, sym, ap, ◌∙◌, subst, arith, map, inl, ◌≤◌}
use Rattle.atomic_table.specs.Table.{rest}
use Rattle.op_core.specs.declared.count.Order.TheVariants.{Append}
use Rattle.path_core.specs.declared.event.Carried.TheVariants.{Deposit}
use Rattle.path_core.specs.declared.event.Event.TheVariants.{Close}
use Rattle.path_core.specs.declared.note.EntryNote.{EntryNote}
use Rattle.path_rule.specs.declared.slot.Slot.{Slot}
use Rattle.path_rule.specs.declared.slot.Slot.TheVariants.{Notes}
use Rattle.path_rule.specs.declared.view.View.{View}
use Rattle.path_rule.specs.Applying.{HasDeposited}
use Rattle.path_rule.specs.Boxes.{box_of}
use Rattle.path_core.specs.Parts.{HoldsNoTurn}
use Rattle.path_rule.specs.Calls.{Did}
use Rattle.path_rule.specs.Rule.{event_of}
use Rattle.path_rule.specs.Issued.{issued_in, opened_in}
use Rattle.path_rule.proofs.seats.Staying.{view_columns, free_stays}
use Rattle.write_path.specs.Applies.{tables_left}
use Rattle.path_flush.specs.OwnWrites.{writes_of}
use Rattle.write_path.specs.Ends.{IsLast}
use Rattle.write_path.specs.Writes.{IsNoteOf}
use Rattle.write_path.proofs.UpdatesPut.{none_put}
use Rattle.write_path.proofs.BoxKept.{carries_notes, has_deposit}
use Rattle.write_path.proofs.NoteLaws.{is_depositable}
use Rattle.write_path.proofs.seats.WritePath.deposit.Goals as goal

pub put_notes-member-requires-clause-kept : goal.put_notes-member-requires-clause-kept
put_notes-member-requires-clause-kept g c =
    let s = c.args.seat in
    let at : 1 + 2 * c.from.result + s.group % 2 ≡ box_of s.member.number s.group =
    ap (λ (n : ℕ). 1 + 2 * n + s.group % 2) (c.from.ensures ∙ c.number-number.ensures) in
    carries_notes (1 + 2 * c.from.result + s.group % 2) s.member.seat.me
    (s.carries ∙ ap (λ (n : ℕ). (n, Notes s.member.seat.me.0.hands.notes) ∷ []) (sym at))

pub put_notes-member-requires-clause-few : goal.put_notes-member-requires-clause-few
put_notes-member-requires-clause-few g c =
    let P = c.requires.prepared in let C = c.claimed.ensures P.0 P.1 P.2 P.3 in
    let one = ap (λ (l : List EntryNote). length l) C.prepared.one in
    let few = c.args.seat.few in omega arith

pub deposit-found-requires-clause-note : goal.deposit-found-requires-clause-note
deposit-found-requires-clause-note g c =
    let P = c.requires.prepared in let C = c.claimed.ensures P.0 P.1 P.2 P.3 in
    let s = c.args.seat in let put = c.put_notes-member.ensures in let V = put.same.1 in
    let same = put.same.0.1 in
    let has = has_deposit s.group s.member c.put_notes-member.result
    (c.from.ensures ∙ c.number-number.ensures) same V put.kept C.prepared.one in
    let ready = is_depositable P.0 P.1 c.args.seat.start.0 c.number-number.result P.2
    c.claimed.new.self C in (
      C.prepared.note,
      ap (λ (v : View). v.part.claim) V ∙ (s.claims
          ∙ (λ i. Some (record { start = sym C.begins i; end = sym (C.ends ∙ P.4) i }))),
      C.by ∙ (c.number-number.ensures ∙ sym same),
      subst (λ (t : ℕ). C.prepared.note.tables < 2 ^ t)
          (P.5 ∙ sym (ap (λ (v : View). v.size.tables) V
          ∙ ap (λ z. z.tables) c.requires.table.1)) ready.below,
      ready.whole,
      has,
      C.ends ∙ P.4,
    )

pub invariant_of-seat : goal.invariant_of-seat
invariant_of-seat g c =
    let P = c.requires.prepared in let C = c.claimed.ensures P.0 P.1 P.2 P.3 in
    let s = c.args.seat in let put = c.put_notes-member.ensures in let V = put.same.1 in
    let same = put.same.0.1 in
    let has = has_deposit s.group s.member c.put_notes-member.result
    (c.from.ensures ∙ c.number-number.ensures) same V put.kept C.prepared.one in
    let d = c.deposit-found.ensures.step C.prepared.note has in record {
      writes = ap (λ (v : View). v.part.write) d.view
          ∙ (ap (λ (v : View). v.part.write) V ∙ s.writes);
      left = ap (λ (v : View). v.part.append) d.view;
      claims = ap (λ (v : View). v.part.claim) d.view
          ∙ (ap (λ (v : View). v.part.claim) V ∙ s.claims);
      noted = ap (λ (v : View). v.part.note) d.view
          ∙ ap (λ (n : ℕ). Some n) (sym (c.tables-tables.ensures C.prepared.note C.prepared.one));
      few = let ready = is_depositable P.0 P.1 c.args.seat.start.0 c.number-number.result P.2
          c.claimed.new.self C in
          let many = P.5 ∙ sym (ap (λ (v : View). v.size.tables) d.view
          ∙ (ap (λ (v : View). v.size.tables) V ∙ ap (λ z. z.tables) c.requires.table.1)) in
          subst (λ (q : ℕ × ℕ). q.0 < 2 ^ q.1) (λ i. (
            sym (c.tables-tables.ensures C.prepared.note C.prepared.one) i,
            many i,
          )) ready.below;
      free = let v = c.put_notes-member.result.seat.me.0 in
          let e = Close c.put_notes-member.result.number Append s.group (Deposit C.prepared.note) in
          let K = view_columns v e c.deposit-found.result tt in
          subst (λ (v : View). HoldsNoTurn v.part) (sym d.view)
          (free_stays e v.part _ K refl (λ t b. refl)
          (subst (λ (v : View). HoldsNoTurn v.part) (sym V) s.free));
      bare = c.deposit-found.ensures.same.2
          ∙ (ap (λ (l : List (ℕ × Slot g.row.K.Denot)). rest l) put.kept
          ∙ ap (λ (l : List (ℕ × Slot g.row.K.Denot)). rest l) s.carries);
      rests = c.deposit-found.ensures.rests;
      paid = subst (λ (v : View). opened_in v.trail ≤ issued_in v.trail) (sym d.view)
          (subst (λ (v : View). opened_in v.trail ≤ issued_in v.trail) (sym V) s.paid);
    }

pub returns-clause-same : goal.returns-clause-same
returns-clause-same g c =
    let P = c.requires.prepared in let C = c.claimed.ensures P.0 P.1 P.2 P.3 in
    let s = c.args.seat in let put = c.put_notes-member.ensures in let V = put.same.1 in
    let same = put.same.0.1 in
    let has = has_deposit s.group s.member c.put_notes-member.result
    (c.from.ensures ∙ c.number-number.ensures) same V put.kept C.prepared.one in
    let d = c.deposit-found.ensures.step C.prepared.note has in
    let home = c.deposit-found.ensures.same in (
      (
        (
          home.0 ∙ (put.same.0.0 ∙ c.requires.table.0),
          ap (λ (v : View). v.size) d.view ∙ (ap (λ (v : View). v.size) V ∙ c.requires.table.1),
        ),
        home.1 ∙ same,
      ),
      refl,
      refl,
      refl,
    )

pub returns-clause-step : goal.returns-clause-step
returns-clause-step g c =
    let P = c.requires.prepared in let C = c.claimed.ensures P.0 P.1 P.2 P.3 in
    let s = c.args.seat in let put = c.put_notes-member.ensures in let V = put.same.1 in
    let same = put.same.0.1 in
    let has = has_deposit s.group s.member c.put_notes-member.result
    (c.from.ensures ∙ c.number-number.ensures) same V put.kept C.prepared.one in
    let d = c.deposit-found.ensures.step C.prepared.note has in (
      C.prepared.note,
      c.deposit-found.result,
      subst (λ (q : View × ℕ). Did q.0 q.1 (Close q.1 Append s.group (Deposit C.prepared.note))
          c.deposit-found.result c.deposit-found.new.member.seat.me.0)
          (λ i. (V i, same i)) d,
      (λ sizes line m ready. let D = c.claimed.ensures sizes line m ready in
          subst (λ (n : EntryNote). IsNoteOf line m n)
          (ap (λ (l : List EntryNote). get_or l 0 C.prepared.note)
          (sym D.prepared.one ∙ C.prepared.one)) D.prepared.of),
    )

pub returns-clause-listed : goal.returns-clause-listed
returns-clause-listed g c =
    let P = c.requires.prepared in let C = c.claimed.ensures P.0 P.1 P.2 P.3 in
    let s = c.args.seat in let put = c.put_notes-member.ensures in let V = put.same.1 in
    let same = put.same.0.1 in
    let has = has_deposit s.group s.member c.put_notes-member.result
    (c.from.ensures ∙ c.number-number.ensures) same V put.kept C.prepared.one in
    let d = c.deposit-found.ensures.step C.prepared.note has in record {
      note = C.prepared.note;
      list = ap (λ (v : View). writes_of v.trail) d.view
          ∙ ap (λ (v : View). C.prepared.note ∷ writes_of v.trail) V;
      last = subst (λ (v : View). IsLast C.prepared.note (map event_of v.trail)) (sym d.view) refl;
      writer = C.by ∙ c.number-number.ensures;
      starts = C.begins;
      ends = C.ends ∙ P.4;
      tables_are = sym (c.tables-tables.ensures C.prepared.note C.prepared.one);
      of = λ sizes line m ready. let D = c.claimed.ensures sizes line m ready in
          subst (λ (n : EntryNote). IsNoteOf line m n)
          (ap (λ (l : List EntryNote). get_or l 0 C.prepared.note)
          (sym D.prepared.one ∙ C.prepared.one)) D.prepared.of;
    }

pub returns-clause-holds : goal.returns-clause-holds
returns-clause-holds g c =
    let P = c.requires.prepared in let C = c.claimed.ensures P.0 P.1 P.2 P.3 in
    let s = c.args.seat in let put = c.put_notes-member.ensures in let V = put.same.1 in
    let same = put.same.0.1 in
    let has = has_deposit s.group s.member c.put_notes-member.result
    (c.from.ensures ∙ c.number-number.ensures) same V put.kept C.prepared.one in
    let d = c.deposit-found.ensures.step C.prepared.note has in
    let none = c.deposit-found.ensures.unapplied C.prepared.note has in
    let n = C.prepared.note in
    let applied = c.deposit-found.new.member.seat.me.0.hands.applied in
    let tables = c.tables-tables.ensures n C.prepared.one in
    let ends = C.ends ∙ P.4 in record {
      note = n;
      deposited = subst (λ (v : View). HasDeposited n v.trail) (sym d.view) (inl refl);
      starts = C.begins;
      ends = ends;
      tables = sym tables;
      writer = C.by ∙ (c.number-number.ensures ∙ sym (c.deposit-found.ensures.same.1 ∙ same));
      copies = C.prepared.copies ∙ (none_put n n.end.0 applied none
          ∙ (λ i. map (λ (t : ℕ). n) (tables_left (sym tables i) (ends i) applied)));
    }

pub returns-clause-unapplied : goal.returns-clause-unapplied
returns-clause-unapplied g c =
    let P = c.requires.prepared in let C = c.claimed.ensures P.0 P.1 P.2 P.3 in
    let s = c.args.seat in let put = c.put_notes-member.ensures in let V = put.same.1 in
    let same = put.same.0.1 in
    let has = has_deposit s.group s.member c.put_notes-member.result
    (c.from.ensures ∙ c.number-number.ensures) same V put.kept C.prepared.one in
    let none = c.deposit-found.ensures.unapplied C.prepared.note has in
    λ a h is. absurd (none a h (is ∙ sym (C.ends ∙ P.4)))

pub returns-clause-untried : goal.returns-clause-untried
returns-clause-untried g c = λ t low. c.deposit-found.ensures.untried t
