use Rattle.std.proofs.Common.{arith}
use Rattle.path_rule.proofs.seats.Merging.{merges}
use Rattle.path_rule.specs.Lasts.{beside_of, shows_of}
use Rattle.path_table.proofs.table.PathTable.merge.Goals as goal

pub join_seat-requires : goal.join_seat-requires
join_seat-requires g c = let t = c.args.self.now in let m = c.args.first.now in
    let b = c.args.other in let wide = t.wide in let q = c.requires.other in
    let i = c.requires.idle in let k = t.table.shared.key.size in
    let o = beside_of (g.K.Keeper.holds t.table.shared.key.first.value) in (
      c.requires.first,
      q.0,
      q.1,
      omega arith,
      merges (shows_of g.K.Keeper.holds) o k m.seat.id
          m.seat.me.0 m.number m.role b.seat.id b.number b.seat.me.0 b.role
          i.0 i.1 c.requires.ended c.requires.free.flush,
    )
