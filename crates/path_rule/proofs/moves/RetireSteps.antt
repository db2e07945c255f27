-- The holder of a Flush turn retires a memtable in which nothing was placed.
use Rattle.std.proofs.Common.{◌≡◌, ℕ, suc, ◌+◌, ◌*◌, ◌<◌, Bool, true, cond, List, [], ◌∷◌, ◌++◌}
use Rattle.std.proofs.Common.{Some, None, is_some, refl, sym, ap, ◌∙◌, subst, arith}
use Rattle.std.specs.Prelude.{not}
use Rattle.std.specs.List.{Contains}
use Rattle.std.proofs.lemmas.Option.{none-some, same_Some}
use mathlib.Core.Logic.{inl}
use mathlib.Core.Option.{none}
use Rattle.atomic_table.specs.Table.{Me, step, keeps, Allows}
use Rattle.clog_base.specs.declared.cell.Table.{Table}
use Rattle.path_core.specs.declared.event.Cursor.TheVariants.{OldestLive}
use Rattle.path_core.specs.declared.event.Event.TheVariants.{Put}
use Rattle.path_core.specs.declared.event.Reading.TheVariants.{Number}
use Rattle.path_core.specs.declared.note.EntryNote.{EntryNote}
use Rattle.path_core.specs.declared.seat.Seat.{Seat as SeatOf}
use Rattle.path_core.specs.declared.state.PathState.{PathState}
use Rattle.path_core.specs.Allowed.{IsStep}
use Rattle.path_core.specs.Next.{next_of}
use Rattle.path_core.specs.Parts.{is_empty, seat_table, table_of, HasPassedBarrier}
use Rattle.path_core.specs.SeatAfter.{seat_after}
use Rattle.path_core.proofs.files.Retires.{next_file as file_next}
use Rattle.path_rule.specs.declared.lasting.Beside.{Beside}
use Rattle.path_rule.specs.declared.lasting.Lasting.{Lasting}
use Rattle.path_rule.specs.declared.slot.Slot.{Slot}
use Rattle.path_rule.specs.declared.view.FlushRead.{FlushRead}
use Rattle.path_rule.specs.declared.view.PathSize.{PathSize}
use Rattle.path_rule.specs.declared.view.Role.TheVariants.{Steps}
use Rattle.path_rule.specs.declared.view.View.{View}
use Rattle.path_rule.specs.Flushes.{Retired, SeesNone}
use Rattle.path_rule.specs.HandsAfter.{with_reading}
use Rattle.path_rule.specs.Lasts.{shown}
use Rattle.path_rule.specs.Retires.{RetiresEmptyIn}
use Rattle.path_rule.specs.Rule.{Ruled, Was, told_by, view_after, with_hands}
use Rattle.path_rule.specs.Told.{MadeAs}
use Rattle.path_rule.proofs.boxes.MemtableReads.{read_still, retabled}
use Rattle.path_rule.proofs.boxes.OtherBoxes.{boxed_other}
use Rattle.path_rule.proofs.boxes.ReadsStay.{read_live}
use Rattle.path_rule.proofs.boxes.SeenInterval.{all_seen}
use Rattle.path_rule.proofs.log.RestsEmpty.{rests_empty}
use Rattle.path_rule.proofs.moves.Looks.{few_tables, within}
use Rattle.path_rule.proofs.moves.Moving.{columns_now, core_lawful, kept_before, part_is}
use Rattle.path_rule.proofs.moves.Moving.{place_still, plays_with, reads_now, reads_then, was}
use Rattle.path_rule.proofs.moves.RetiredBoxes.{late_still}
use Rattle.path_rule.proofs.moves.TableTurns.{each_table_name}
use Rattle.path_rule.proofs.places.ReadBack.{rows_stay}

-- an empty memtable gives no file when it is retired
none_filed_now : (x : PathState) (w : ℕ) (t : Table) (f : ℕ)
    → is_empty x t.0 (table_of x t.0).oldest_live ≡ true
    → (next_of x (Put w (OldestLive t) f)).files ≡ x.files
none_filed_now x w t f empty = ap (λ (b : Bool). cond b x.files
    (x.files ++ file_next x t.0 ∷ [])) empty

module _ {K : Type 0} (shows : K → Lasting) (o : Beside) (size : PathSize) (slots id : ℕ)
    (m : Me (Slot K) View) (w : ℕ) (mine : m.0.role ≡ Steps w) where
  pub retires_empty : (t : Table) (k f : ℕ) → f ≡ suc k → SeesNone size.seats m.0.hands t.0 k
      → t.0 < 16
      → t.0 < m.0.size.tables
      → Allows (Ruled shows o size) slots id m (66 + 4 * t.0) (λ _. f)
      (λ _. Retired (step slots (66 + 4 * t.0) f 0 none) m f)
  retires_empty t k f up sees few inside s r _ there _ = let x = r.core in
      let q = sees.0 in let e = Put w (OldestLive t) f in
      let h = with_reading None m.0.hands in
      let v' = view_after (with_hands h m.0) e f in
      let law = core_lawful shows o size s r in
      let R = reads_now shows o size s r id w m.0 there mine q sees.1 in
      let live : (table_of x t.0).oldest_live ≡ k =
      ap (λ (c : ℕ). (table_of x c).oldest_live) (sym sees.2)
      ∙ (read_live size.seats x m.0.part q R sees.7 ∙ sees.3) in
      let passed : HasPassedBarrier x t.0 k = subst (λ (y : ℕ × ℕ). HasPassedBarrier x y.0 y.1)
      (λ i. (sees.2 i, sees.3 i)) R.passed in
      let empty : is_empty x t.0 (table_of x t.0).oldest_live ≡ true =
      subst (λ (c : ℕ). is_empty x t.0 c ≡ true) (sym live) (rests_empty x law t.0 k passed
      (λ entry placed. let seen = all_seen shows o size s r id w m.0 q there mine sees.1 sees.7
      sees.5 entry (subst (λ (y : ℕ × ℕ).
      Contains x.placed (record { table = y.0; entry = entry; memtable = y.1 }))
      (λ i. (sym sees.2 i, sym sees.3 i)) placed) in
      absurd (let l = (subst (λ (c : List EntryNote). Contains c seen.0) sees.6 seen.1).1 in
      omega arith))) in
      let may : IsStep x e = record {
        seat = within shows o size slots id m w mine s r there;
        is_there = few_tables shows o size slots id m w mine s r there t.0 inside;
        row = (
          ap (λ (p : SeatOf). is_some (seat_table p t.0).flush)
              (sym (part_is shows o size s r id w m.0 there mine))
              ∙ (ap (λ (c : ℕ). is_some (seat_table m.0.part c).flush) (sym sees.2)
              ∙ R.held),
          up ∙ ap suc (sym live),
          subst (λ (c : ℕ). HasPassedBarrier x t.0 c) (sym live) passed,
          inl empty,
        );
      } in let rows = rows_stay x e may (λ q. q) r.rows in
      let told = ap (λ (b : Bool). seat_after m.0.part e (Number 0)
      (record { files = b; marker = None })) (sym (ap not empty)) in
      let C = columns_now shows o size s r id w m.0 there mine e refl may tt tt few tt rows f
      f None h refl told in (
        v',
        keeps,
        tt,
        plays_with shows o size s r id w m.0 there mine e refl may tt tt few tt rows f
            f None h refl told
            (sym (ap not empty), λ lower gave. absurd (none-some lower gave))
            (none_filed_now x w t f empty) m.1 keeps
            (boxed_other shows size.seats x.notes (shown o size.at_open r.kept_to r.filed r.dropped
            x) x.claims
            x.append s.homes s.views r.boxed id m.0 v' there refl s.homes (λ b l. refl) C.append
            C.issue m.0.hands.memtable_box m.0.hands.held m.0.hands.applied None refl)
            (read_still size.seats x.notes x.placed (next_of x e).tables s.homes s.views
            (retabled size.seats x.notes x.placed x.tables (next_of x e).tables s.homes s.views
            r.memtables (kept_before shows o size s r e may tt)
            (late_still shows o size s r id w m.0 there mine q sees.1 sees.7 t sees.2 f may)) id w
            m.0 v' there mine refl C.note C.claim
            (place_still shows o size s r id w m.0 there mine e (Number 0) (told_by None h) tt)
            None refl (λ z b is taken. absurd (none-some z is))
            (λ z y j is bare. absurd (none-some z is))
            (λ b Q. none-some b (sym (ap (λ (z : FlushRead). z.taken)
            (same_reading Q.0 q Q.1 sees.1) ∙ sees.4) ∙ Q.2)))
            (reads_then shows o size s r id w m.0 there mine e refl may tt tt few tt rows f
            f None h refl told (λ z is. absurd (none-some z is))),
        λ z u role _ word. each_table_name shows o size slots id m w mine 66 t
            (λ z u. MadeAs z (Put z (OldestLive u) f) f
            (with_reading None m.0.hands) m.0 v' × (m.1 ≡ m.1)
            × ((was : Was m.0 z (Put z (OldestLive u) f))
            × ((j : ℕ) → f ≡ suc j → RetiresEmptyIn was.core u.0 j))) (
              (refl, was shows o size s r id w m.0 there mine e may tt),
              refl,
              (
                was shows o size s r id w m.0 there mine e may tt,
                (λ j next. let same : (table_of x t.0).oldest_live ≡ j = omega arith in
                    record {
                      least = same;
                      empty = subst (λ (c : ℕ). is_empty x t.0 c ≡ true) same empty;
                    }),
              ),
            ) z u role word,
      )
    where
      same_reading : (a b : FlushRead) → m.0.hands.reading ≡ Some a → m.0.hands.reading ≡ Some b
          → a ≡ b
      same_reading a b e e' = same_Some a b (sym e ∙ e')
