use Rattle.std.proofs.Common.{◌≡◌, ◌++◌, ◌∷◌, [], List, map, length, sym, ap, ◌∙◌, subst, arith}
use Rattle.std.specs.List.{All, range_with_len}
use Rattle.std.proofs.lemmas.List.{append-nil, nil_from_length}
use Rattle.std.proofs.lemmas.List.Elements.{All-append, All-nil, All-cons, All-head, All-tail}
use Rattle.path_table.specs.declared.trying.PathSeat.{PathSeat}
use Rattle.path_table.specs.Members.{IsOf}
use Rattle.write_path.specs.Closed.{AreOf}
use Rattle.write_path.specs.Opened.{numbers_of}
use Rattle.path_threads.specs.declared.worker.Worker.{Worker}
use Rattle.path_threads.specs.Crews.{IsSeated, number_of}
use Rattle.path_threads.proofs.Crews.{has_seat, one_back, seat_in}
use Rattle.path_threads.proofs.crew.seats_of.Goals as goal

pub loop-worker-init : goal.loop-worker-init
loop-worker-init g c =
    let gives = c.into_iter-worker-iterator.ensures.into_iter_gives in
    let t = c.args.path.now.table in
    let none_yet = c.new-seats.ensures.items in record {
      each = subst (λ (l : List (PathSeat g.row.K.Denot)). AreOf t.table.shared.table_id t.size l)
          (sym none_yet) (All-nil (λ (s : PathSeat g.row.K.Denot).
          IsOf t.table.shared.table_id t.size s.member));
      left = subst (λ (l : List (Worker g.row.K.Denot)).
          All (IsSeated t.table.shared.table_id t.size) l)
          (sym gives.0) c.requires.each;
      numbers = (λ i. numbers_of (none_yet i) ++ map number_of (gives.0 i)) ∙ c.requires.numbers;
      count = let items = ap length gives.0 in omega (arith, items, gives.1, c.args.workers.ok);
    }

pub loop-worker-preserved-in-Continue-1 : goal.loop-worker-preserved-in-Continue-1
loop-worker-preserved-in-Continue-1 g c =
    let l = c.loop-worker in let I = l.invariant in let w = c.in-Some.worker in
    let s = c.in-Some-seat_of.seat in let is = sym c.seat_of.ensures ∙ c.in-Some-seat_of.is in
    let steps = c.in-Some.ensures.steps in
    let rest = c.next.new.self.rest.items in let t = c.args.path.now.table in
    let P = IsSeated t.table.shared.table_id t.size in
    let Q : PathSeat g.row.K.Denot → Type 0 = λ s. IsOf t.table.shared.table_id t.size s.member in
    let left : All P (w ∷ rest) =
    subst (λ (r : List (Worker g.row.K.Denot)). All P r) steps.0 I.left in
    let pushed : c.push.new.self.items ≡ l.seats.items ++ s ∷ [] = c.in_ok-push.ensures.items in
    record {
      each = subst (λ (r : List (PathSeat g.row.K.Denot)). All Q r) (sym pushed)
          (All-append Q l.seats.items (s ∷ []) I.each
          (All-cons Q s [] (seat_in t.table.shared.table_id t.size w s (All-head P w rest left)
          is) (All-nil Q)));
      left = All-tail P w rest left;
      numbers = ap (λ (r : List (PathSeat g.row.K.Denot)). numbers_of r ++ map number_of rest)
          pushed
          ∙ one_back l.seats.items w s rest (range_with_len 0 t.size.seats) is
          (ap (λ (r : List (Worker g.row.K.Denot)). numbers_of l.seats.items ++ map number_of r)
          (sym steps.0) ∙ I.numbers);
      count = let short = ap length steps.0 in omega (arith, short, steps.1, I.count);
    }

pub loop-worker-preserved : goal.loop-worker-preserved
loop-worker-preserved g c = let l = c.loop-worker in let t = c.args.path.now.table in
    let P = IsSeated t.table.shared.table_id t.size in
    absurd (has_seat t.table.shared.table_id t.size c.in-Some.worker
    (All-head P c.in-Some.worker c.next.new.self.rest.items
    (subst (λ (r : List (Worker g.row.K.Denot)). All P r) c.in-Some.ensures.steps.0
    l.invariant.left))
    (sym c.seat_of.ensures ∙ c.in_default.is))

pub returns : goal.returns
returns g c =
    let l = c.loop-worker in let I = l.invariant in let rest = l.worker-iterator.rest.items in
    let none_left : rest ≡ [] = nil_from_length rest
    (omega (arith, c.in-None.ensures.steps.0, I.count)) in record {
      of = I.each;
      numbers = sym (append-nil (numbers_of l.seats.items))
          ∙ (ap (λ (r : List (Worker g.row.K.Denot)). numbers_of l.seats.items ++ map number_of r)
          (sym none_left) ∙ I.numbers);
    }
