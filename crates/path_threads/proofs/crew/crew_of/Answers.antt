use Rattle.std.proofs.Common.{◌≡◌, ◌++◌, ◌∷◌, [], List, map, length, sym, ap, ◌∙◌}
use Rattle.std.proofs.Common.{subst, arith}
use Rattle.std.specs.List.{All, range_with_len}
use Rattle.std.proofs.lemmas.List.{append-nil, nil_from_length}
use Rattle.std.proofs.lemmas.List.Elements.{All-append, All-nil, All-cons, All-head, All-tail}
use Rattle.path_table.specs.declared.trying.PathSeat.{PathSeat}
use Rattle.write_path.specs.Opened.{IsNewSeat, numbers_of}
use Rattle.path_threads.specs.declared.worker.Worker.{Worker}
use Rattle.path_threads.specs.Crews.{IsSeated, number_of}
use Rattle.path_threads.proofs.Crews.{one_seated}
use Rattle.path_threads.proofs.crew.crew_of.Goals as goal

pub loop-seat-init : goal.loop-seat-init
loop-seat-init g c =
    let gives = c.into_iter-seat-iterator.ensures.into_iter_gives in
    let t = c.args.path.now.table in
    let none_yet = c.new-workers.ensures.items in record {
      each = subst (λ (l : List (Worker g.row.K.Denot)).
          All (IsSeated t.table.shared.table_id t.size) l)
          (sym none_yet) (All-nil (IsSeated t.table.shared.table_id t.size));
      left = subst (λ (l : List (PathSeat g.row.K.Denot)).
          All (IsNewSeat t.table.shared.table_id t.size) l) (sym gives.0) c.requires.each;
      numbers = (λ i. map number_of (none_yet i) ++ numbers_of (gives.0 i)) ∙ c.requires.numbers;
      count = let items = ap length gives.0 in omega (arith, items, gives.1, c.args.seats.ok);
    }

pub loop-seat-preserved : goal.loop-seat-preserved
loop-seat-preserved g c =
    let l = c.loop-seat in let I = l.invariant in let s = c.in-Some.seat in
    let steps = c.in-Some.ensures.steps in let rest = c.next.new.self.rest.items in
    let t = c.args.path.now.table in
    let P = IsSeated t.table.shared.table_id t.size in
    let N = IsNewSeat t.table.shared.table_id t.size in
    let left : All N (s ∷ rest) =
    subst (λ (r : List (PathSeat g.row.K.Denot)). All N r) steps.0 I.left in
    let w = c.new.result in
    let pushed : c.push.new.self.items ≡ l.workers.items ++ w ∷ [] = c.in_ok-push.ensures.items
    in record {
      each = subst (λ (r : List (Worker g.row.K.Denot)). All P r) (sym pushed)
          (All-append P l.workers.items (w ∷ []) I.each
          (All-cons P w [] (s, c.new.ensures, (All-head N s rest left).of_path) (All-nil P)));
      left = All-tail N s rest left;
      numbers = ap (λ (r : List (Worker g.row.K.Denot)). map number_of r ++ numbers_of rest) pushed
          ∙ one_seated l.workers.items w s rest (range_with_len 0 t.size.seats) c.new.ensures
          (ap (λ (r : List (PathSeat g.row.K.Denot)). map number_of l.workers.items ++ numbers_of r)
          (sym steps.0) ∙ I.numbers);
      count = let short = ap length steps.0 in omega (arith, short, steps.1, I.count);
    }

pub returns : goal.returns
returns g c =
    let l = c.loop-seat in let I = l.invariant in let rest = l.seat-iterator.rest.items in
    let none_left : rest ≡ [] = nil_from_length rest
    (omega (arith, c.in-None.ensures.steps.0, I.count)) in
    record {
      each = I.each;
      numbers = sym (append-nil (map number_of l.workers.items))
          ∙ (ap (λ (r : List (PathSeat g.row.K.Denot)).
          map number_of l.workers.items ++ numbers_of r)
          (sym none_left) ∙ I.numbers);
    }
