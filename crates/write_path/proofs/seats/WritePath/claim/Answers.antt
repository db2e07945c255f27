use Rattle.std.proofs.Common.{◌∙◌, refl}
use Rattle.write_path.proofs.Growing.{again, claimed, keeps_first, keeps_on, spent}
use Rattle.write_path.proofs.Rooms.{no_room_here}
use Rattle.write_path.proofs.seats.WritePath.claim.Goals as goal

pub loop-init : goal.loop-init
loop-init g c = let t = c.args.self.now.table in record {
  next = tt;
  finite = tt;
  keeps = keeps_first t.table.shared.table_id t.size c.args.seat.member
      (c.requires.table.0, c.requires.table.1);
  writing = refl;
  group = refl;
}

pub returns-in-Claimed-clause-claim : goal.returns-in-Claimed-clause-claim
returns-in-Claimed-clause-claim g c = let t = c.args.self.now.table in
    let m = c.loop.seat.member in let I = c.loop.invariant in let r = c.in-Claimed in
    let s = r.claimed in (
      keeps_on t.table.shared.table_id t.size c.args.seat.member m s.member I.keeps
          (claimed t.table.shared.table_id t.size m s.member r.ensures.same.0 s.end.0
          r.ensures.step.1),
      r.ensures.same.1 ∙ I.writing,
      r.ensures.same.2 ∙ I.group,
      r.ensures.step.0,
    )

pub returns-in-Spent-clause-claim : goal.returns-in-Spent-clause-claim
returns-in-Spent-clause-claim g c = let t = c.args.self.now.table in
    let m = c.loop.seat.member in let I = c.loop.invariant in let r = c.in-Spent in
    let s = r.refused in (
      keeps_on t.table.shared.table_id t.size c.args.seat.member m s.member I.keeps
          (spent t.table.shared.table_id t.size m s.member r.ensures.same.0 c.args.size r.key.0
          r.ensures.step),
      r.ensures.same.1 ∙ I.writing,
      r.ensures.same.2 ∙ I.group,
      no_room_here t.size c.args.size r.key.0 m.number c.args.seat.member.seat.me.0.trail
          m.seat.me.0 s.member.seat.me.0 I.keeps.2 r.ensures.step,
    )

pub loop-preserved : goal.loop-preserved
loop-preserved g c = let t = c.args.self.now.table in let m = c.loop.seat.member in
    let I = c.loop.invariant in let r = c.in-Again in let m' = r.refused.member in record {
      next = tt;
      finite = tt;
      keeps = keeps_on t.table.shared.table_id t.size c.args.seat.member m m' I.keeps
          (again t.table.shared.table_id t.size m m' r.ensures.same.0 c.args.size
          r._seen.looked r._seen.found r.ensures.step);
      writing = r.ensures.same.1 ∙ I.writing;
      group = r.ensures.same.2 ∙ I.group;
    }
