use Rattle.std.proofs.Common.{◌-◌, length, take, drop, arith, sym, ap, subst, length-drop}
use Rattle.std.specs.Io.KnownBytes.{Appends}
use Rattle.clog_io.proofs.Written.{keeps_on, one_piece_more}
use Rattle.std.proofs.lemmas.List.{take_rest}
use Rattle.clog_io.proofs.sink.write_out.Goals.{in-Ok, in-Err}
use Rattle.clog_io.proofs.sink.write_out.Goals as goal

pub loop-preserved : goal.loop-preserved
loop-preserved g c =
    let bytes = c.args.bytes.now in
    let at = c.loop.at in
    let held = g.W.Write.contents c.args.writer.now in
    let new = g.W.Write.contents c.write.new.self in
    elim c.match-write.branch [
      | in-Ok w ↦ record {
        within = omega (
          arith,
          w.at-is,
          w.in-Ok.ensures.bound,
          ap length (take_rest bytes at),
          length-drop at bytes,
          c.loop.invariant.within,
        );
        taken = subst (λ k. Appends held new (take k bytes)) (sym w.at-is) (
            one_piece_more held (g.W.Write.contents c.loop.writer) new bytes
            (take (length bytes - at) (drop at bytes)) at w.in-Ok.count (take_rest bytes at)
            c.loop.invariant.taken w.in-Ok.ensures.bytes
            );
      }
      | in-Err w ↦ record {
        within = omega (arith, w.at-is, c.loop.invariant.within);
        taken = subst (λ k. Appends held new (take k bytes)) (sym w.at-is) (
            keeps_on held (g.W.Write.contents c.loop.writer) new (take at bytes)
            c.loop.invariant.taken w.in-Err.ensures.bytes
            );
      }
    ]
