use Rattle.std.proofs.Common.{refl, sym, ap, ◌∙◌, subst}
use Rattle.clog_base.specs.declared.position.Key.{Key}
use Rattle.path_core.specs.declared.state.Bound.TheVariants.{Final}
use Rattle.path_core.specs.Parts.{seat_table}
use Rattle.path_rule.specs.Accepted.{TriesBound}
use Rattle.path_table.specs.Members.{part_of}
use Rattle.write_path.specs.declared.accepting.Accept.{Accept}
use Rattle.write_path.specs.Ends.{answered, HasTried}
use Rattle.write_path.proofs.PlacedAt.{same_then}
use Rattle.write_path.proofs.Trying.{final_again, settled_answer}
use Rattle.write_path.proofs.seats.WritePath.accept_raising.Goals as goal

pub returns-in-Final-clause-same : goal.returns-in-Final-clause-same
returns-in-Final-clause-same g c = let t = c.args.self.now.table in
    same_then t.table.shared.table_id t.size c.args.seat.now c.raise_at.new.seat
    c.look_at-bound.new.seat c.raise_at.ensures.same c.look_at-bound.ensures.same

pub returns-in-Final-clause-answer : goal.returns-in-Final-clause-answer
returns-in-Final-clause-answer g c =
    let R = c.raise_at in let L = c.look_at-bound in let end = c.args.seat.now.end.0 in
    let after = seat_table (part_of L.new.seat.member) c.args.table.0 in
    let raised = ap (λ (k : Key). k.0) R.ensures.same.end in
    let looked = ap (λ (k : Key). k.0) L.ensures.same.end ∙ raised in
    let tries = subst (λ k. TriesBound k c.args.memtable L.result after) raised L.ensures.tries in
    let settled = final_again (Final c.in-Final.field-0) L.result refl
    (L.ensures.stays (Final c.in-Final.field-0) (c.in-Final.ensures.raises.final refl)) in
    subst (λ (a : Accept). HasTried end c.args.memtable a after)
    (sym (c.answer_of.ensures ∙ ap (λ k. answered k L.result) looked))
    (settled_answer end c.args.memtable L.result after tries settled)
