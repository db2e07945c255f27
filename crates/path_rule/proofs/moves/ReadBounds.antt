-- The holder of a Flush turn looks at the bound of the memtable that it reads, which is final.
use Rattle.std.proofs.lemmas.Option.{same_Some}
use Rattle.std.proofs.Common.{◌%◌, ◌≡◌, ℕ, ◌+◌, ◌*◌, ◌<◌, Some, refl, sym, ap, ◌∙◌, subst, arith}
use Rattle.std.proofs.Common.{false, None}
use Rattle.std.specs.Prelude.{slice_index}
use mathlib.Core.Option.{none}
use Rattle.atomic_table.specs.Table.{Me, step, Allows}
use Rattle.clog_base.specs.declared.cell.Table.{Table}
use Rattle.path_core.specs.declared.event.Event.TheVariants.{Look}
use Rattle.path_core.specs.declared.event.Place.TheVariants.{Bound}
use Rattle.path_core.specs.declared.state.Bound.TheVariants.{Final}
use Rattle.path_core.specs.Allowed.{IsStep}
use Rattle.path_core.specs.Parts.{HasPassedBarrier, memtable_of, table_of}
use Rattle.path_core.specs.SeatAfter.{seat_after}
use Rattle.path_core.proofs.tables.TableBounds.{final_at}
use Rattle.path_rule.specs.declared.lasting.Beside.{Beside}
use Rattle.path_rule.specs.declared.lasting.Lasting.{Lasting}
use Rattle.path_rule.specs.declared.slot.Slot.{Slot}
use Rattle.path_rule.specs.declared.view.FlushRead.{FlushRead}
use Rattle.path_rule.specs.declared.view.PathSize.{PathSize}
use Rattle.path_rule.specs.declared.view.Role.TheVariants.{Steps}
use Rattle.path_rule.specs.declared.view.View.{View}
use Rattle.path_rule.specs.ReadBound.{BoundRead}
use Rattle.path_rule.specs.Lasts.{shown}
use Rattle.path_rule.specs.Layout.{bound_word, reading_at}
use Rattle.path_rule.specs.Rule.{Ruled, told_by, view_after}
use Rattle.path_rule.specs.Told.{Made}
use Rattle.path_rule.proofs.boxes.HeldBoxes.{boxed_stay}
use Rattle.path_rule.proofs.boxes.ReadsStay.{read_live}
use Rattle.path_rule.proofs.moves.BoundSteps.{each_bound_name}
use Rattle.path_rule.proofs.moves.Looks.{acts, few_tables, within}
use Rattle.path_rule.proofs.moves.Moving.{core_lawful, reads_now}
use Rattle.path_rule.proofs.places.ShownSteps.{least_near}
use Rattle.path_rule.proofs.places.ReadBack.{bound_read, rows_stay}

module _ {K : Type 0} (shows : K → Lasting) (o : Beside) (size : PathSize) (slots id : ℕ)
    (m : Me (Slot K) View) (w : ℕ) (mine : m.0.role ≡ Steps w) where
  pub looks_read : (t : Table) (k : ℕ) (q : FlushRead) → m.0.hands.reading ≡ Some q
      → q.table ≡ t.0 → q.memtable ≡ k → q.retired ≡ false → t.0 < 16 → t.0 < m.0.size.tables
      → Allows (Ruled shows o size) slots id m (640 + 16 * (k % 4) + t.0) (λ n. n)
      (BoundRead (step slots (640 + 16 * (k % 4) + t.0) 0 0 none) m)
  looks_read t k q reads at of unretired few inside s r _ there _ =
      let n = slice_index s.words (640 + 16 * (k % 4) + t.0) in let x = r.core in
      let e = Look w (Bound t k) in let L = core_lawful shows o size s r in
      let R = reads_now shows o size s r id w m.0 there mine q reads in
      let passed = subst (λ (y : ℕ × ℕ). HasPassedBarrier x y.0 y.1) (λ i. (at i, of i))
      R.passed in let W = L.switches.tables t.0 in
      let live : (table_of x t.0).oldest_live ≡ k =
      ap (λ (c : ℕ). (table_of x c).oldest_live) (sym at)
      ∙ (read_live size.seats x m.0.part q R unretired ∙ of) in
      let made = W.bounds_rise.made in let least = W.bounds_rise.oldest_is_made in
      let f = final_at (memtable_of x t.0 k).bound
      (W.barrier_means_final k passed.group passed.issued) in
      let near = least_near x L t.0 k (sym live) in
      let word = r.words (Bound t k) (few, near) in
      let found : n ≡ bound_word (Final f.0) = word ∙ ap bound_word f.1 in
      let may : IsStep x e = record {
        seat = within shows o size slots id m w mine s r there;
        is_there = (
          few_tables shows o size slots id m w mine s r there t.0 inside,
          omega arith,
        );
        row = tt;
      } in
      acts shows o size slots id m w mine s r there e refl may tt tt (few, near)
      tt (rows_stay x e may (λ q. q) r.rows) n n word
      (ap (λ z. seat_after m.0.part e z (told_by None m.0.hands))
      (ap (reading_at (Bound t k)) word ∙ bound_read x L t k))
      word
      (λ C. boxed_stay shows size.seats x.notes
      (shown o size.at_open r.kept_to r.filed r.dropped x) x.claims x.claims x.append x.append
      s.homes s.views r.boxed id w m.0 (view_after m.0 e n) there mine refl refl refl
      (λ i g l _ _. (l, refl)) refl C.append C.issue refl) tt tt
      (BoundRead (step slots (640 + 16 * (k % 4) + t.0) 0 0 none) m n)
      (λ it z k' u role low q' reads' at' of' word'. let a : t.0 ≡ u.0 = omega arith in
      let same = same_Some q q' (sym reads ∙ reads') in
      each_bound_name shows o size slots id m w mine t k 0
      (λ z u k' key. (bound : ℕ) × (n ≡ bound_word (Final (record { 0 = bound })))
      × Made z (Look z (Bound u k')) n m (view_after m.0 e n, m.1))
      (f.0.0, found, ((refl, it), refl)) z u k' 0 role a
      (sym of ∙ (ap (λ (y : FlushRead). y.memtable) same ∙ of')) refl)
