use Rattle.std.proofs.Common.{◌≡◌, ℕ, ◌+◌, ◌*◌, length, sym, ap, ◌∙◌, subst, arith}
use Rattle.std.specs.List.{All}
use Rattle.std.proofs.Math.Nat.{suc-mul}
use Rattle.std.proofs.lemmas.List.{length_push}
use Rattle.std.proofs.lemmas.List.Elements.{All-tail, All-push}
use Rattle.order_run.specs.Rounds.{HasMade, HasRead}
use Rattle.order_run.proofs.readers.read_all.Goals as goal

pub loop-part-preserved : goal.loop-part-preserved
loop-part-preserved g c =
    let l = c.loop-part in let I = l.invariant in
    let z = c.args.order.now.table.shared.table_id in let n : ℕ = c.args.rounds in
    let s = c.in-Some.ensures.steps in
    let p = c.in-Some.part in let rest = c.next.new.self.rest.items in
    let all = subst (All (HasRead z n)) s.0 I.left in
    let here : HasRead z n p = all 0 p (omega arith) in
    let short = ap length s.0 in
    let grown = c.push_reserved.ensures.items in record {
      left = All-tail (HasRead z n) p rest all;
      count = let k = I.count in let t = s.1 in omega arith;
      back = subst (All (HasMade z n)) (sym grown)
          (All-push (HasMade z n) l.back.items p.reader I.back here.0);
      room = let longer = ap length grown ∙ length_push l.back.items p.reader in
          let k = I.room in let same = c.push_reserved.ensures.capacity in omega arith;
      reads = let now : ℕ = length rest * n in
          let before : ℕ = length l.part-iterator.rest.items * n in
          let total : ℕ = length c.args.readers.items * n in
          let one : before ≡ now + n
          = ap (λ (k : ℕ). k * n) short ∙ suc-mul (length rest) n in
          let was : l.reads + before ≡ total = I.reads in let own = here.1 in omega arith;
    }
