use Rattle.std.proofs.Common.{◌<◌, ◌≤◌, sym, ap, ◌∙◌, subst, arith}
use Rattle.atomic_table.specs.Table.{rest}
use Rattle.path_rule.specs.declared.view.PathSize.{PathSize}
use Rattle.path_flush.proofs.FlushReading.{
  is_carried,
  may_give,
  none_left,
  seen_no_more,
  sees_box,
  the_box,
}
use Rattle.path_flush.proofs.flush_reading.read_box.Goals as goal

pub take_read-requires-clause-reads : goal.take_read-requires-clause-reads
take_read-requires-clause-reads g c = let H = c.requires.reads in let more = c.requires.there.2 in
    let at = H.seen_to in
    (H.read, (H.reads, H.of_table, H.none_taken, omega (arith, more, at)))

pub box_number-number-requires : goal.box_number-number-requires
box_number-number-requires g c = let F = c.args.path.now.fits in
    let low = F.few_tables in let there = c.requires.there.0 in
    subst (λ (z : PathSize). (z.seats ≤ 64) × (c.args.seat < z.seats) × (c.args.table.0 < 16))
    (sym c.size.ensures) (F.few_writers, c.requires.there.2, omega (arith, low, there))

pub lend_read-member-requires-clause-held : goal.lend_read-member-requires-clause-held
lend_read-member-requires-clause-held g c = let H = c.requires.reads in
    let D = c.take_read.ensures.step H.read H.reads in (
      D.0,
      is_carried c.args.path.now.size.seats H c.args.member.seat.me
          c.take_read.new.member.seat.me D
          (the_box H c.size.ensures c.box_number-number.ensures),
    )

pub give_read-requires-clause-reads : goal.give_read-requires-clause-reads
give_read-requires-clause-reads g c = let H = c.requires.reads in
    let D = c.take_read.ensures.step H.read H.reads in let L = c.lend_read-member.ensures in
    let R = c.return_read-member in let taken = c.take_read.new.member.seat.me in
    let seats = c.args.path.now.size.seats in let m = c.args.member.seat.me in
    let box = the_box H c.size.ensures c.box_number-number.ensures in
    may_give seats H m taken R.result.seat.me D (R.ensures.same.1 ∙ L.same.1) box
    (sym (L.notes D.0 (is_carried seats H m taken D box))) R.ensures.notes

pub returns-clause-same : goal.returns-clause-same
returns-clause-same g c = let H = c.requires.reads in let T = c.take_read.ensures in
    let D = T.step H.read H.reads in let L = c.lend_read-member.ensures in
    let R = c.return_read-member.ensures in let G = c.give_read.ensures in
    let by = R.same.0.1 ∙ (L.same.0.1 ∙ T.same.1) in
    let S = sees_box c.args.path.now.size.seats H c.args.member.seat.me
    c.take_read.new.member.seat.me D (R.same.1 ∙ L.same.1) by G.step in (
      (
        (
          G.same.0 ∙ (R.same.0.0 ∙ (L.same.0.0 ∙ (T.same.0 ∙ c.requires.table.0))),
          S.size ∙ c.requires.table.1,
        ),
        G.same.1 ∙ by,
      ),
      G.same.2 ∙ (R.others ∙ (L.others ∙ ap (λ l. rest l) D.2.1)),
    )

pub returns-clause-steps : goal.returns-clause-steps
returns-clause-steps g c = let H = c.requires.reads in let T = c.take_read.ensures in
    let L = c.lend_read-member.ensures.same in let R = c.return_read-member.ensures.same in
    (sees_box c.args.path.now.size.seats H c.args.member.seat.me
    c.take_read.new.member.seat.me (T.step H.read H.reads) (R.1 ∙ L.1)
    (R.0.1 ∙ (L.0.1 ∙ T.same.1)) c.give_read.ensures.step).steps

pub returns-clause-reads : goal.returns-clause-reads
returns-clause-reads g c = let H = c.requires.reads in let T = c.take_read.ensures in
    let L = c.lend_read-member.ensures.same in let R = c.return_read-member.ensures.same in
    (sees_box c.args.path.now.size.seats H c.args.member.seat.me
    c.take_read.new.member.seat.me (T.step H.read H.reads) (R.1 ∙ L.1)
    (R.0.1 ∙ (L.0.1 ∙ T.same.1)) c.give_read.ensures.step).reads

pub returns-clause-void : goal.returns-clause-void
returns-clause-void g c = let H = c.requires.reads in let T = c.take_read.ensures in
    let L = c.lend_read-member.ensures in let R = c.return_read-member.ensures.same in
    let D = T.step H.read H.reads in let m = c.args.member.seat.me in
    let taken = c.take_read.new.member.seat.me in let seats = c.args.path.now.size.seats in
    let S = sees_box seats H m taken D (R.1 ∙ L.same.1) (R.0.1 ∙ (L.same.0.1 ∙ T.same.1))
    c.give_read.ensures.step in
    let lent = L.notes D.0 (is_carried seats H m taken D
    (the_box H c.size.ensures c.box_number-number.ensures)) in
    λ p q was has empty. seen_no_more H S.is lent
    (none_left c.lend_read-member.result.1 c.is_empty-empty.result c.is_empty-empty.ensures empty) p
    q was has
