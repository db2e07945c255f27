use Rattle.std.proofs.Common.{ℕ, ◌≡◌, ◌<◌, ◌^◌, List, [], ◌∷◌, length, map, take, drop, inr, Some}
use Rattle.std.proofs.Common.{refl, sym, ap, ◌∙◌, subst, arith, ◌≤◌}
use Rattle.path_core.specs.declared.note.EntryNote.{EntryNote}
use Rattle.path_core.specs.declared.seat.Seat.{Seat}
use Rattle.path_core.specs.declared.state.Placed.{Placed}
use Rattle.path_core.specs.Parts.{HoldsNoTurn}
use Rattle.path_rule.specs.declared.view.Hands.{Hands}
use Rattle.path_rule.specs.declared.view.OwnStep.{OwnStep}
use Rattle.path_rule.specs.declared.view.PathSize.{PathSize}
use Rattle.path_rule.specs.Applying.{looked, HasDeposited}
use Rattle.path_rule.specs.Issued.{issued_in, opened_in}
use Rattle.write_path.specs.Applies.{tables_left}
use Rattle.path_flush.specs.OwnWrites.{writes_of}
use Rattle.write_path.specs.Ends.{put_since}
use Rattle.write_path.proofs.UpdatesPut.{one_put}
use Rattle.write_path.proofs.seats.WritePath.apply.Goals as goal

-- The copies begin with one for this table, behind which are those for the rest.
pub take_first-copy-requires : goal.take_first-copy-requires
take_first-copy-requires g c =
    let s = c.args.seat in let H = c.requires.holds in
    let low = c.args.self.now.table.fits.few_tables in
    let first = H.copies ∙ one_put H.note s.tables s.end.0 c.args.table.0 c.args.memtable
    s.member.seat.me.0.hands.applied (omega (arith, c.requires.there.0, low)) c.requires.there.1
    c.requires.unapplied in
    let many = ap (λ (l : List EntryNote). length l) first in omega (arith, many)

pub apply_note-member-requires-clause-copy : goal.apply_note-member-requires-clause-copy
apply_note-member-requires-clause-copy g c =
    let s = c.args.seat in let H = c.requires.holds in
    let low = c.args.self.now.table.fits.few_tables in
    let first = H.copies ∙ one_put H.note s.tables s.end.0 c.args.table.0 c.args.memtable
    s.member.seat.me.0.hands.applied (omega (arith, c.requires.there.0, low)) c.requires.there.1
    c.requires.unapplied in (
      H.note,
      c.take_first-copy.ensures.first ∙ ap (λ (l : List EntryNote). take 1 l) first,
      record {
        deposited = H.deposited;
        range = s.claims ∙ (λ i. Some (record { start = sym H.starts i; end = sym H.ends i }));
        tables = s.noted ∙ ap (λ (n : ℕ). Some n) (sym H.tables);
        writer = H.writer;
        fresh = λ a h is. c.requires.unapplied a h (is ∙ H.ends);
      },
    )

pub invariant_of-result : goal.invariant_of-result
invariant_of-result g c =
    let s = c.args.seat in let H = c.requires.holds in
    let low = c.args.self.now.table.fits.few_tables in
    let first = H.copies ∙ one_put H.note s.tables s.end.0 c.args.table.0 c.args.memtable
    s.member.seat.me.0.hands.applied (omega (arith, c.requires.there.0, low)) c.requires.there.1
    c.requires.unapplied in
    let P = c.apply_note-member.ensures.puts H.note
    (c.take_first-copy.ensures.first ∙ ap (λ (l : List EntryNote). take 1 l) first) in record {
      writes = ap (λ (p : Seat). p.write) P.part ∙ s.writes;
      left = ap (λ (p : Seat). p.append) P.part ∙ s.left;
      claims = ap (λ (p : Seat). p.claim) P.part ∙ s.claims;
      noted = ap (λ (p : Seat). p.note) P.part ∙ s.noted;
      few = subst (λ (n : ℕ). s.tables < 2 ^ n) (sym (ap (λ (z : PathSize). z.tables) P.size))
          s.few;
      free = subst HoldsNoTurn (sym P.part) s.free;
      bare = c.apply_note-member.ensures.same.2 ∙ s.bare;
      rests = ap (λ (h : Hands). h.memtable_box) P.hands;
      paid = subst (λ (l : List OwnStep). opened_in l ≤ issued_in l) (sym P.trail) s.paid;
    }

pub returns-clause-same : goal.returns-clause-same
returns-clause-same g c =
    let s = c.args.seat in let H = c.requires.holds in
    let low = c.args.self.now.table.fits.few_tables in
    let first = H.copies ∙ one_put H.note s.tables s.end.0 c.args.table.0 c.args.memtable
    s.member.seat.me.0.hands.applied (omega (arith, c.requires.there.0, low)) c.requires.there.1
    c.requires.unapplied in
    let P = c.apply_note-member.ensures.puts H.note
    (c.take_first-copy.ensures.first ∙ ap (λ (l : List EntryNote). take 1 l) first) in
    let same = c.apply_note-member.ensures.same in record {
      member = ((same.0 ∙ c.requires.table.0, P.size ∙ c.requires.table.1), same.1);
      writing = refl;
      start = refl;
      end = refl;
      tables = refl;
      list = ap (λ (l : List OwnStep). writes_of l) P.trail;
      tried = record {
        tries = looked s.member.number c.args.table P.last
            ∷ looked s.member.number c.args.table P.first ∷ [];
        are = (refl, (refl, tt));
        trail = P.trail;
        hands = subst (λ (h : Hands). h ≡ put_since s.member.seat.me.0.hands h) (sym P.hands) refl;
        put = record {
          table = c.args.table.0;
          entry = H.note.end.0;
          memtable = c.args.memtable;
        } ∷ [];
        applied = ap (λ (h : Hands). h.applied) P.hands;
        returned = P.returned;
      };
    }

pub returns-clause-applied : goal.returns-clause-applied
returns-clause-applied g c =
    let s = c.args.seat in let H = c.requires.holds in
    let low = c.args.self.now.table.fits.few_tables in
    let first = H.copies ∙ one_put H.note s.tables s.end.0 c.args.table.0 c.args.memtable
    s.member.seat.me.0.hands.applied (omega (arith, c.requires.there.0, low)) c.requires.there.1
    c.requires.unapplied in
    let P = c.apply_note-member.ensures.puts H.note
    (c.take_first-copy.ensures.first ∙ ap (λ (l : List EntryNote). take 1 l) first) in
    ap (λ (h : Hands). h.applied) P.hands ∙ (λ i. record {
      table = c.args.table.0;
      entry = H.ends i;
      memtable = c.args.memtable;
    } ∷ s.member.seat.me.0.hands.applied)

pub returns-clause-part : goal.returns-clause-part
returns-clause-part g c =
    let s = c.args.seat in let H = c.requires.holds in
    let low = c.args.self.now.table.fits.few_tables in
    let first = H.copies ∙ one_put H.note s.tables s.end.0 c.args.table.0 c.args.memtable
    s.member.seat.me.0.hands.applied (omega (arith, c.requires.there.0, low)) c.requires.there.1
    c.requires.unapplied in
    let P = c.apply_note-member.ensures.puts H.note
    (c.take_first-copy.ensures.first ∙ ap (λ (l : List EntryNote). take 1 l) first) in P.part

pub returns-clause-holds : goal.returns-clause-holds
returns-clause-holds g c =
    let s = c.args.seat in let H = c.requires.holds in
    let low = c.args.self.now.table.fits.few_tables in
    let first = H.copies ∙ one_put H.note s.tables s.end.0 c.args.table.0 c.args.memtable
    s.member.seat.me.0.hands.applied (omega (arith, c.requires.there.0, low)) c.requires.there.1
    c.requires.unapplied in
    let P = c.apply_note-member.ensures.puts H.note
    (c.take_first-copy.ensures.first ∙ ap (λ (l : List EntryNote). take 1 l) first) in
    let put = ap (λ (h : Hands). h.applied) P.hands ∙ (λ i. record {
      table = c.args.table.0;
      entry = H.ends i;
      memtable = c.args.memtable;
    } ∷ s.member.seat.me.0.hands.applied) in record {
      note = H.note;
      deposited = subst (HasDeposited H.note) (sym P.trail) (inr (inr H.deposited));
      starts = H.starts;
      ends = H.ends;
      tables = H.tables;
      writer = H.writer ∙ sym c.apply_note-member.ensures.same.1;
      copies = c.take_first-copy.ensures.rest
          ∙ (ap (λ (l : List EntryNote). drop 1 l) first
          ∙ ap (λ (l : List Placed). map (λ (t : ℕ). H.note) (tables_left s.tables s.end.0 l))
          (sym put));
    }
