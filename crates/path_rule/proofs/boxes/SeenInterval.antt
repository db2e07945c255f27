-- What was seen of a memtable behind its barrier is its log interval.
use Rattle.std.proofs.Common.{◌≡◌, ℕ, false, Some, sym, subst, arith}
use Rattle.std.specs.List.{Contains}
use mathlib.Core.Option.{some}
use lib.ListN.{get_elem?}
use Rattle.atomic_table.specs.Table.{State}
use Rattle.path_core.proofs.places.HoldsInterval.{holds_interval}
use Rattle.path_core.proofs.runs.EveryRun.{placing_of}
use Rattle.path_rule.specs.declared.lasting.Beside.{Beside}
use Rattle.path_rule.specs.declared.lasting.Lasting.{Lasting}
use Rattle.path_rule.specs.declared.slot.Slot.{Slot}
use Rattle.path_rule.specs.declared.view.FlushRead.{FlushRead}
use Rattle.path_rule.specs.declared.view.PathSize.{PathSize}
use Rattle.path_rule.specs.declared.view.Role.TheVariants.{Steps}
use Rattle.path_rule.specs.declared.view.View.{View}
use Rattle.path_rule.specs.Memtables.{LiesAmong}
use Rattle.path_rule.specs.Rule.{Ruled}
use Rattle.path_rule.specs.Seen.{SeesItsInterval}
use Rattle.path_rule.proofs.boxes.ReadsStay.{read_live}
use Rattle.path_rule.proofs.moves.Moving.{core_lawful, reads_now}

module _ {K : Type 0} (shows : K → Lasting) (o : Beside) (size : PathSize) (s : State (Slot K) View)
    (r : Ruled shows o size s) (j w : ℕ) (v : View) (q : FlushRead)
    (at : get_elem? s.views j ≡ some v) (role : v.role ≡ Steps w) (is : v.hands.reading ≡ Some q)
    (unretired : q.retired ≡ false) (every : q.seen_to ≡ size.seats) where
  -- what was placed in the memtable was seen
  pub all_seen : (entry : ℕ) → Contains r.core.placed
      (record { table = q.table; entry = entry; memtable = q.memtable }) → LiesAmong q.seen entry
  all_seen entry placed = let M = r.memtables in
      let R = reads_now shows o size s r j w v at role q is in
      let live = read_live size.seats r.core v.part q R unretired in
      let K = M.kept (record { table = q.table; entry = entry; memtable = q.memtable }) placed
      (omega arith) in
      let S = M.sound K.by q.table q.memtable K.lies.0 R.few K.lies.1 in
      let low = K.inside in let by = S.writer in let all = every in (
        K.lies.0,
        R.all unretired K.lies.0 S.among (omega arith) (subst (λ (k : ℕ). Contains r.core.placed
            (record { table = q.table; entry = k; memtable = q.memtable })) (sym K.lies.2) placed),
        K.lies.2,
      )

  pub sees_its_interval : SeesItsInterval r.core q
  sees_its_interval = let law = core_lawful shows o size s r in
      let Z = placing_of r.core law in
      let R = reads_now shows o size s r j w v at role q is in record {
        among = λ n h. (R.sound n h).0;
        ends = λ entry.
            let H = holds_interval r.core Z.core Z.places q.table q.memtable R.passed entry in (
              (λ h. H.0 (subst (λ (k : ℕ). Contains r.core.placed
                  (record { table = q.table; entry = k; memtable = q.memtable })) h.2
                  (R.sound h.0 h.1).1)),
              (λ T. all_seen entry (H.1 T)),
            );
      }
