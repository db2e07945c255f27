use Rattle.std.proofs.Common.{◌≡◌, ◌+◌, ◌<◌, length, set, sym, ap, ◌∙◌, subst, arith}
use Rattle.std.proofs.lemmas.List.{length-map, length_push}
use Rattle.std.proofs.lemmas.List.FromFn.{length-range_with_len}
use Rattle.path_table.specs.declared.trying.PathSeat.{PathSeat}
use Rattle.write_path.specs.Opened.{AreNew}
use Rattle.clog_shares.proofs.Seating.{
  SeatsFrom,
  all_ready,
  last_new,
  one_seated,
  seated_by,
  still_dealt,
}
use Rattle.clog_shares.proofs.crew.seat_all.Goals as goal

pub loop-seat-init : goal.loop-seat-init
loop-seat-init g c =
    let t = c.args.path.now.table in
    let items = c.args.seats.items in
    let long : length items ≡ t.size.seats =
    sym (length-map items (λ (p : PathSeat g.row.K.Denot). p.member.number))
    ∙ (ap length c.requires.seats.numbers ∙ length-range_with_len 0 t.size.seats) in
    let count = c.requires.dealt.2.count ∙ c.requires.sized.writers in record {
      seats = subst (λ k. AreNew t.table.shared.table_id t.size k items) (sym long)
          c.requires.seats;
      few = omega (arith, long);
      seated = record {
        count = count;
        each = λ i d from inside. absurd (omega (arith, from, inside, long, count));
      };
      dealt = λ flush ms dealt. dealt;
    }

pub loop-seat-preserved : goal.loop-seat-preserved
loop-seat-preserved g c =
    let t = c.args.path.now.table in
    let id = t.table.shared.table_id in
    let l = c.loop-seat in let I = l.invariant in
    let rest = c.pop.new.self.items in
    let s = c.in-Some.seat in
    let items = c.in-Some.ensures.items in
    let n = c.len-number.result in
    let now = c.take_seat.new.worker in
    let ws = l.workers in
    let long : length l.seats.items ≡ length rest + 1 = ap length items ∙ length_push rest s in
    let last = last_new id t.size (length l.seats.items) rest s
    (subst (AreNew id t.size (length l.seats.items)) items I.seats) long in
    let number : n ≡ length rest =
    (let is = c.len-number.ensures in let ok = c.pop.new.self.ok in omega (arith, is, ok)) in
    let next : length l.seats.items ≡ n + 1 = omega (arith, long, number) in
    let few = I.few in
    let count = I.seated.count in
    let low : n < length ws = omega (arith, few, next, count) in record {
      seats = last.others;
      few = omega (arith, long, few);
      seated = subst (λ k. SeatsFrom id t.size k (set ws n now)) number
          (one_seated id t.size n ws now (subst (λ k. SeatsFrom id t.size k ws) next I.seated)
          (seated_by id t.size n s now last.is_new (last.number_is ∙ sym number)
          c.take_seat.ensures.seat));
      dealt = λ flush ms dealt. still_dealt id t.size c.args.sizes flush ms n ws now
          c.index-workers-number.result low c.take_seat.ensures.writes c.take_seat.ensures.counts
          (I.dealt flush ms dealt);
    }

pub returns : goal.returns
returns g c = λ flush ms dealt.
    let t = c.args.path.now.table in
    let l = c.loop-seat in let I = l.invariant in
    let none : length l.seats.items ≡ 0 =
    (let is = c.in_default.ensures.cases.0 in let ok = l.seats.ok in omega (arith, is, ok)) in
    all_ready t.table.shared.table_id t.size c.args.sizes flush ms l.workers c.requires.sized
    (subst (λ k. SeatsFrom t.table.shared.table_id t.size k l.workers) none I.seated)
    (I.dealt flush ms dealt)
