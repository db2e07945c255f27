use Rattle.std.proofs.Common.{
  ◌≡◌,
  ◌+◌,
  ◌++◌,
  [],
  ◌∷◌,
  if◌then◌else◌,
  sym,
  ap,
  ◌∙◌,
  subst,
  arith,
}
use Rattle.std.specs.Vec.{vec_len}
use Rattle.write_path.specs.Opened.{AreNew}
use Rattle.write_path.proofs.Handing.{one_new}
use Rattle.write_path.proofs.opening.hand_out.Goals as goal

pub loop-preserved : goal.loop-preserved
loop-preserved g c = let i = c.loop.invariant in let p = c.push.ensures in
    let n = c.next_seat-seat.ensures in let s = c.next_seat-seat.result in
    let xs = c.loop.seats.items in let t = c.args.table.now in
    let ok = c.if-is_err.ensures.negation in
    record {
      room = let more = p.capacity in let before = i.room in omega arith;
      many = subst (λ b. vec_len c.push.new.self
          ≡ (if b then vec_len c.loop.seats + 1 else vec_len c.loop.seats)) ok p.len
          ∙ ap (λ k. k + 1) i.many;
      made = n.opener.1 ∙ ap (λ k. k + 1) i.made;
      of = n.opener.0 ∙ i.of;
      size = n.opener.2 ∙ i.size;
      new = subst (AreNew t.table.shared.table_id t.size (c.loop.counter + 1))
          (sym (subst (λ b. c.push.new.self.items ≡ (if b then xs ++ s ∷ [] else xs)) ok p.items))
          (one_new t.table.shared.table_id t.size c.loop.counter xs s i.new n.seat
          (n.number ∙ i.made));
    }
