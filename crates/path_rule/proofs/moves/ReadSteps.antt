-- The holder of a Flush turn reads the boxes of a memtable behind its barrier.
use Rattle.std.proofs.Common.{◌≡◌, ◌≢◌, ℕ, zero, suc, ◌+◌, ◌*◌, ◌<◌, ⊎_elim, Bool, true, false}
use Rattle.std.proofs.Common.{cond, List, [], ◌∷◌, Option, set, Some, None, is_some, refl, sym, ap}
use Rattle.std.proofs.Common.{◌∙◌, subst, arith}
use Rattle.std.specs.Prelude.{slice_index}
use Rattle.std.specs.List.{Contains}
use Rattle.std.proofs.lemmas.Bool.{false≢true}
use Rattle.std.proofs.lemmas.List.Elements.{Contains-append_cases, Contains-append_left}
use Rattle.std.proofs.lemmas.List.Elements.{Contains-append_right}
use Rattle.std.proofs.lemmas.Option.{none-some, same_Some}
use mathlib.Core.Logic.{dite, inl}
use mathlib.Core.Option.{none, some, some-injective}
use native.Mathlib.Decide.{ℕ_discrete}
use lib.ListN.{get_elem?}
use Rattle.atomic_table.proofs.Lists.{set_else}
use Rattle.atomic_table.specs.Table.{State, Me, step, Act, keeps, takes, gives, put_back, rest}
use Rattle.atomic_table.specs.Table.{homes_after, stepped, Allows}
use Rattle.clog_base.specs.declared.cell.Table.{Table}
use Rattle.path_core.specs.declared.event.Event.TheVariants.{Look}
use Rattle.path_core.specs.declared.event.Place.{Place}
use Rattle.path_core.specs.declared.event.Place.TheVariants.{Newest}
use Rattle.path_core.specs.declared.event.Reading.TheVariants.{Number}
use Rattle.path_core.specs.declared.event.Turn.TheVariants.{Flush}
use Rattle.path_core.specs.declared.note.EntryNote.{EntryNote}
use Rattle.path_core.specs.declared.seat.FlushTurn.{FlushTurn}
use Rattle.path_core.specs.declared.seat.Seat.{Seat as SeatOf}
use Rattle.path_core.specs.declared.state.Placed.{Placed}
use Rattle.path_core.specs.Allowed.{IsStep}
use Rattle.path_core.specs.Parts.{seat_of, seat_table, table_of, HasPassedBarrier}
use Rattle.path_core.specs.SeatAfter.{seat_after}
use Rattle.path_core.specs.Whole.{IsWhole}
use Rattle.path_core.specs.Words.{reading, IsPlace}
use Rattle.path_core.proofs.places.KeepsPlaces.{same_note}
use Rattle.path_core.proofs.runs.EveryRun.{keeps_lawful, placing_of}
use Rattle.path_core.proofs.seats.Columns.{Columns}
use Rattle.path_rule.specs.declared.lasting.Beside.{Beside}
use Rattle.path_rule.specs.declared.lasting.Lasting.{Lasting}
use Rattle.path_rule.specs.declared.slot.Slot.{Slot}
use Rattle.path_rule.specs.declared.view.FlushRead.{FlushRead}
use Rattle.path_rule.specs.declared.view.Hands.{Hands}
use Rattle.path_rule.specs.declared.view.PathSize.{PathSize}
use Rattle.path_rule.specs.declared.view.Role.{Role}
use Rattle.path_rule.specs.declared.view.Role.TheVariants.{Opener, Steps, Spent}
use Rattle.path_rule.specs.declared.view.View.{View}
use Rattle.path_rule.specs.Boxes.{boxes, memtable_box, NotesAre}
use Rattle.path_rule.specs.Flushes.{next_box, EmptyingBegun, HasEmptied, MayRead, ReadBegun}
use Rattle.path_rule.specs.Flushes.{ReadEnded, ReadGiven, ReadTaken, TakesNone, TookRead}
use Rattle.path_rule.specs.HandsAfter.{box_read, box_seen, first_read, left_in, with_reading}
use Rattle.path_rule.specs.Lasts.{shown}
use Rattle.path_rule.specs.Layout.{reading_at, word_at, word_for, IsShown}
use Rattle.path_rule.specs.Memtables.{HasMemtables, IsEmptied, IsHome, IsKeptAt, PutsAs, ReadsBox}
use Rattle.path_rule.specs.Reads.{placed_at, ReadsAre, ReadsAs}
use Rattle.path_rule.specs.Rule.{Ruled, Was, told_by, view_after, with_hands}
use Rattle.path_rule.specs.Switches.{FlushOldest, MayBeginRead}
use Rattle.path_rule.specs.Told.{MadeAs}
use Rattle.path_rule.proofs.boxes.InItsBox.{runs_there}
use Rattle.path_rule.proofs.boxes.MemtableBack.{read_given}
use Rattle.path_rule.proofs.boxes.MemtableReads.{read_still, read_taken}
use Rattle.path_rule.proofs.boxes.OtherBoxes.{boxed_other}
use Rattle.path_rule.proofs.boxes.ReadsStay.{near_reads, none_reads, read_live, reads_on}
use Rattle.path_rule.proofs.boxes.TurnHeld.{held_stays}
use Rattle.path_rule.proofs.log.RestsEmpty.{retired_passed}
use Rattle.path_rule.proofs.moves.LeftMemtables.{begins_passed}
use Rattle.path_rule.proofs.moves.Looks.{few_tables, within}
use Rattle.path_rule.proofs.moves.MemtableSteps.{others_are, sized}
use Rattle.path_rule.proofs.moves.Moving.{columns_now, core_lawful, part_is, place_still}
use Rattle.path_rule.proofs.moves.Moving.{plays_with, puts_now, reads_now, reads_then, was}
use Rattle.path_rule.proofs.moves.SwitchSteps.{oldest_is}
use Rattle.path_rule.proofs.moves.TableTurns.{each_table_name}
use Rattle.path_rule.proofs.places.ReadBack.{read_back, rows_stay}

-- no box is in hand to be read
takes_none : (h : Hands) → TakesNone h → (b : ℕ) → ¬ ReadsBox h b
takes_none h free b R = none-some b (sym (free R.0 R.1) ∙ R.2)

module _ {K : Type 0} (shows : K → Lasting) (o : Beside) (size : PathSize) (slots id : ℕ)
    (m : Me (Slot K) View) (w : ℕ) (mine : m.0.role ≡ Steps w) where
  module _ (s : State (Slot K) View) (r : Ruled shows o size s)
      (there : get_elem? s.views id ≡ some m.0) where
    -- a look at a place, with what is read then
    looked : (at : Place) → IsShown r.core at → IsPlace r.core at → (q : Option FlushRead)
        → (a : Act (Slot K)) → let e = Look w at in
        let n = slice_index s.words (word_at at) in let h = with_reading q m.0.hands in
        let v' = view_after (with_hands h m.0) e n in
        ((b : ℕ) → b < boxes size.seats → get_elem? (homes_after s.homes m.1 a) b
        ≡ get_elem? s.homes b)
        → (Columns e m.0.part v'.part → HasMemtables size.seats r.core.notes r.core.placed
        r.core.tables (homes_after s.homes m.1 a) (set s.views id v'))
        → ((z : FlushRead) → q ≡ Some z → ReadsAre size.seats r.core m.0.part z)
        → Ruled shows o size (stepped s (word_at at) n id m.1 v' a) × Was m.0 w e
    looked at spot is_there q a below memtables reads = let x = r.core in let e = Look w at in
        let n = slice_index s.words (word_at at) in let h = with_reading q m.0.hands in
        let v' = view_after (with_hands h m.0) e n in
        let law = core_lawful shows o size s r in
        let found : n ≡ word_for at (reading x at) = r.words at spot in
        let may : IsStep x e = record {
          seat = within shows o size slots id m w mine s r there;
          is_there = is_there;
          row = tt;
        } in let rows = rows_stay x e may (λ q. q) r.rows in
        let told = ap (λ k. seat_after m.0.part e k (told_by None h))
        (ap (reading_at at) found ∙ read_back x law r.rows at spot) in
        let C = columns_now shows o size s r id w m.0 there mine e refl may tt tt spot tt rows n n
        None h found told in (
          plays_with shows o size s r id w m.0 there mine e refl may tt tt spot tt rows n n None h
              found told found refl m.1 a
              (boxed_other shows size.seats x.notes (shown o size.at_open r.kept_to r.filed
              r.dropped x) x.claims
              x.append s.homes s.views r.boxed id m.0 v' there refl (homes_after s.homes m.1 a)
              below C.append C.issue m.0.hands.memtable_box m.0.hands.held m.0.hands.applied q refl)
              (memtables C)
              (reads_then shows o size s r id w m.0 there mine e refl may tt tt spot tt rows n n
              None
              h found told (λ z is. let R = reads z is in
              reads_on x law e may (keeps_lawful x law e may tt) size.seats m.0.part v'.part z R
              (held_stays e m.0.part v'.part C z.table tt R.held)
              refl)),
          was shows o size s r id w m.0 there mine e may tt,
        )

    -- the same where no box moves, and none is in hand to be read
    looked_still : (at : Place) → IsShown r.core at → IsPlace r.core at → (q : Option FlushRead)
        → TakesNone m.0.hands → ((z : FlushRead) → q ≡ Some z → z.taken ≡ None)
        → ((z : FlushRead) → q ≡ Some z → ReadsAre size.seats r.core m.0.part z)
        → ((z : FlushRead) (y k : ℕ) → q ≡ Some z → IsEmptied size.seats z y k
        → r.memtables.contents (memtable_box size.seats y z.table k) ≡ [])
        → let e = Look w at in let n = slice_index s.words (word_at at) in
        let v' = view_after (with_hands (with_reading q m.0.hands) m.0) e n in
        Ruled shows o size (stepped s (word_at at) n id m.1 v' keeps) × Was m.0 w e
    looked_still at spot is_there q unread empty reads emptied = let x = r.core in
        let e = Look w at in
        let n = slice_index s.words (word_at at) in let h = with_reading q m.0.hands in
        let v' = view_after (with_hands h m.0) e n in
        looked at spot is_there q keeps (λ b l. refl)
        (λ C. read_still size.seats x.notes x.placed x.tables s.homes s.views r.memtables id w m.0
        v' there mine refl C.note C.claim
        (place_still shows o size s r id w m.0 there mine e (reading_at at n) (told_by None h) tt)
        q refl (λ z b is taken. absurd (none-some b (sym (empty z is) ∙ taken))) emptied
        (takes_none m.0.hands unread)) reads

    -- The box that is read next is of no place that a write has: none runs in a memtable that is
    -- read.
    unplaced : (q : FlushRead) → m.0.hands.reading ≡ Some q → (j y : ℕ) (u : View)
        → get_elem? s.views j ≡ some u → u.role ≡ Steps y → (t k : ℕ) → t < 16
        → (seat_table u.part t).place ≡ Some k
        → memtable_box size.seats y t k ≢ next_box size.seats q
    unplaced q is j y u e steps t k small place same =
        let R = reads_now shows o size s r id w m.0 there mine q is in let few = R.few in
        let table : t ≡ q.table = omega arith in
        none_reads r.core (core_lawful shows o size s r) y q.table k q.memtable
        (ap (λ (c : ℕ). (seat_table (seat_of r.core y) c).place) (sym table)
        ∙ (ap (λ (p : SeatOf). (seat_table p t).place)
        (sym (part_is shows o size s r j y u e steps)) ∙ place)) R.passed
        (near_reads size.seats r.core m.0.part q R) (omega arith)

    -- No other seat reads that box: only one holds the table's turn.
    alone : (q : FlushRead) → m.0.hands.reading ≡ Some q → (j : ℕ) (u : View) → j ≢ id
        → get_elem? s.views j ≡ some u → ¬ ReadsBox u.hands (next_box size.seats q)
    alone q is j u apart e Q = by u.role refl (r.reads j u e)
      where
        R : ReadsAre size.seats r.core m.0.part q
        R = reads_now shows o size s r id w m.0 there mine q is

        by : (ρ : Role) → u.role ≡ ρ → ReadsAs size.seats r.core u.part u.hands ρ → ⊥
        by (Opener n) is' S = none-some Q.0 (sym S ∙ Q.1)
        by Spent is' S = none-some Q.0 (sym S ∙ Q.1)
        by (Steps z) is' S = let H = S Q.0 Q.1 in
            let box = (H.next (next_box size.seats q) Q.2).0 in let few = R.few in
            let small = H.few in let table : Q.0.table ≡ q.table = omega arith in
            others_are shows o size slots id m w mine s r there j z u apart e is'
            ((core_lawful shows o size s r).orders.one_holder_a_turn.one
            (Flush (record { 0 = q.table })) z w
            (ap (λ (p : SeatOf). is_some (seat_table p q.table).flush)
            (sym (part_is shows o size s r j z u e is'))
            ∙ (ap (λ (k : ℕ). is_some (seat_table u.part k).flush) (sym table)
            ∙ H.held))
            (ap (λ (p : SeatOf). is_some (seat_table p q.table).flush)
            (sym (part_is shows o size s r id w m.0 there mine))
            ∙ R.held))

    -- So no seat has it in hand, where this one has none.
    next_home : (q : FlushRead) → m.0.hands.reading ≡ Some q → q.taken ≡ None
        → IsHome s.views (next_box size.seats q)
    next_home q is free j u e hand = by u.role refl (r.memtables.in_hands j u e)
      where
        reader : ReadsBox u.hands (next_box size.seats q) → ⊥
        reader Q = dite (ℕ_discrete j id)
            (λ same. let one : u ≡ m.0 = some-injective u m.0
            (sym e ∙ (ap (get_elem? s.views) same ∙ there)) in
            let read : Q.0 ≡ q = same_Some Q.0 q
            (sym Q.1 ∙ (ap (λ (v : View). v.hands.reading) one ∙ is)) in
            none-some (next_box size.seats q)
            (sym free ∙ (ap (λ (k : FlushRead). k.taken) (sym read) ∙ Q.2)))
            (λ apart. alone q is j u apart e Q)

        by : (ρ : Role) → u.role ≡ ρ → PutsAs r.memtables.contents size.seats u.part u.hands ρ → ⊥
        by (Opener n) is' P = ⊎_elim (λ has. none-some (next_box size.seats q) (sym P ∙ has))
            reader hand
        by Spent is' P = ⊎_elim (λ has. none-some (next_box size.seats q) (sym P ∙ has))
            reader hand
        by (Steps z) is' P = ⊎_elim (λ has.
            let I = (P.in_hand (next_box size.seats q) has).0 in
            unplaced q is j z u e is' I.table I.memtable I.few I.place (sym I.is)) reader hand

    -- what lies in the box that is read was placed in the memtable
    was_placed : (q : FlushRead) (b : ℕ) → m.0.hands.reading ≡ Some q → q.taken ≡ Some b
        → (n : EntryNote) → Contains q.held n
        → Contains r.core.notes n × Contains r.core.placed (placed_at q.table q.memtable n)
    was_placed q b is taken n h = let M = r.memtables in
        let law = core_lawful shows o size s r in
        let R = reads_now shows o size s r id w m.0 there mine q is in let N = R.next b taken in
        let P = puts_now shows o size s r id w m.0 there mine in
        let lies : Contains (M.contents (next_box size.seats q)) n =
        subst (λ (c : ℕ). Contains (M.contents c) n) N.0
        (subst (λ l. Contains l n) (P.reads q b is taken) h) in (
          (M.sound q.seen_to q.table q.memtable n R.few lies).among,
          ⊎_elim
              (λ p. let ring = p.ring in let late = p.late in
              let made = (law.places.placed _ p.among).accepted.made in
              let near = (law.switches.tables q.table).bounds_rise.one_behind in
              let low = (near_reads size.seats r.core m.0.part q R).0 in
              let high = (near_reads size.seats r.core m.0.part q R).1 in
              let same : p.memtable ≡ q.memtable = omega arith in
              subst (λ (k : ℕ). Contains r.core.placed
              (record { table = q.table; entry = n.end.0; memtable = k })) same p.among)
              (λ run. let H = runs_there shows o size s r q.seen_to q.table q.memtable n R.few lies
              run in absurd (none_reads r.core law q.seen_to q.table H.0 q.memtable H.2.place
              R.passed (near_reads size.seats r.core m.0.part q R) H.1))
              (M.settled q.seen_to q.table q.memtable n R.few lies),
        )

    -- What is placed in a memtable that is not retired lies in no box of a retired one.
    keeps_live : (q : FlushRead) → m.0.hands.reading ≡ Some q → (p : Placed) (by : ℕ)
        → Contains r.core.placed p → IsKeptAt r.core.tables p
        → memtable_box size.seats by p.table p.memtable ≡ next_box size.seats q
        → q.retired ≡ false
    keeps_live q is p by placed live same = let x = r.core in
        let law = core_lawful shows o size s r in
        let R = reads_now shows o size s r id w m.0 there mine q is in let few = R.few in
        let A = law.places.placed p placed in let inside = A.table in
        let limit = law.sized.limits.few_tables in
        let table : p.table ≡ q.table = omega arith in
        let made = A.accepted.made in
        let near = (law.switches.tables p.table).bounds_rise.one_behind in
        by_kind q.retired (λ drops.
        let at : (table_of x p.table).oldest_live ≡ suc q.memtable =
        ap (λ (c : ℕ). (table_of x c).oldest_live) table
        ∙ (R.live ∙ ap (λ (b : Bool). cond b (suc q.memtable) q.memtable) drops) in omega arith)
      where
        by_kind : (b : Bool) → (b ≡ true → ⊥) → b ≡ false
        by_kind false never = refl
        by_kind true never = absurd (never refl)

    -- and all that the box's seat wrote there lies in that of another one
    lies_there : (q : FlushRead) (b : ℕ) → m.0.hands.reading ≡ Some q → q.taken ≡ Some b
        → q.retired ≡ false → (n : EntryNote) → Contains r.core.notes n → n.writer.0 ≡ q.seen_to
        → Contains r.core.placed (placed_at q.table q.memtable n) → Contains q.held n
    lies_there q b is taken unretired n noted by placed = let M = r.memtables in
        let law = core_lawful shows o size s r in
        let R = reads_now shows o size s r id w m.0 there mine q is in let N = R.next b taken in
        let P = puts_now shows o size s r id w m.0 there mine in
        let low = read_live size.seats r.core m.0.part q R unretired in
        let K = M.kept (placed_at q.table q.memtable n) placed (omega arith) in
        let S = M.sound K.by q.table q.memtable K.lies.0 R.few K.lies.1 in
        let Z = placing_of r.core law in
        let one : K.lies.0 ≡ n = same_note r.core Z.core Z.places K.lies.0 n S.among noted K.lies.2
        in let seat : K.by ≡ q.seen_to =
        sym S.writer ∙ (ap (λ (k : EntryNote). k.writer.0) one ∙ by) in
        subst (λ l. Contains l n) (sym (P.reads q b is taken))
        (subst (λ (c : ℕ). Contains (M.contents c) n) (sym N.0)
        (subst (λ (y : ℕ × EntryNote).
        Contains (M.contents (memtable_box size.seats y.0 q.table q.memtable)) y.1)
        (λ i. (seat i, one i)) K.lies.1))

    -- the barrier of the memtable that may be read is passed
    passed_behind : (t k : ℕ) → HasEmptied size.seats m.0 t k → FlushOldest t m.0.part k
        → HasPassedBarrier r.core t k
    passed_behind t zero has oldest =
        begins_passed shows o size slots id m w mine s r there t 0 has.0 oldest
    passed_behind t (suc k) has oldest = let q = has.0 in
        let R = reads_now shows o size s r id w m.0 there mine q has.1 in
        subst (λ (y : ℕ × ℕ). HasPassedBarrier r.core y.0 (suc y.1)) (λ i. (has.2 i, has.3 i))
        (R.next_passed has.6)

    -- nothing is read yet of the least memtable that is not retired
    first_reads : (t k : ℕ) → HasEmptied size.seats m.0 t k → FlushOldest t m.0.part k → t < 16
        → ReadsAre size.seats r.core m.0.part (first_read t k false)
    first_reads t k has oldest few = record {
      few = few;
      held = ap (λ (f : Option FlushTurn). is_some f) oldest.1;
      passed = passed_behind t k has oldest;
      next_passed = λ drops. absurd (false≢true drops);
      live = sym (oldest_is shows o size slots id m w mine s r there t k oldest);
      next = λ b taken. absurd (none-some b taken);
      sound = λ n h. absurd (let l = h.1 in omega arith);
      all = λ unretired n h l. absurd (omega arith);
    }

    -- nor of the last retired one
    first_drops : (t k : ℕ) → MayBeginRead t m.0 (suc k) → FlushOldest t m.0.part (suc k) → t < 16
        → ReadsAre size.seats r.core m.0.part (first_read t k true)
    first_drops t k may oldest few = let live = oldest_is shows o size slots id m w mine s r there t
        (suc k) oldest in record {
          few = few;
          held = ap (λ (f : Option FlushTurn). is_some f) oldest.1;
          passed = retired_passed r.core (core_lawful shows o size s r) t k (omega arith);
          next_passed = λ _.
              begins_passed shows o size slots id m w mine s r there t (suc k) may oldest;
          live = sym live;
          next = λ b taken. absurd (none-some b taken);
          sound = λ n h. absurd (let l = h.1 in omega arith);
          all = λ unretired. absurd (false≢true (sym unretired));
        }

    -- the boxes of the memtable below are empty
    below_empty : (t k : ℕ) → HasEmptied size.seats m.0 t k → (y j : ℕ)
        → IsEmptied size.seats (first_read t k false) y j
        → r.memtables.contents (memtable_box size.seats y t j) ≡ []
    below_empty t zero has y j E = ⊎_elim (λ drops. absurd (false≢true drops.0))
        (λ reads. absurd (let l = reads.1 in omega arith)) E
    below_empty t (suc k) has y j E = let q = has.0 in let all = has.5 in ⊎_elim
        (λ drops. absurd (false≢true drops.0))
        (λ reads. let up = reads.1 in let low = reads.2 in let at = has.3 in
        subst (λ (c : ℕ). r.memtables.contents (memtable_box size.seats y c j) ≡ []) has.2
        ((puts_now shows o size s r id w m.0 there mine).emptied q y j has.1
        (inl (has.6, omega arith, omega arith)))) E

    -- the memtable by which it begins is told
    same_oldest : (t u : Table) (k k' : ℕ) → 64 + 4 * t.0 ≡ 64 + 4 * u.0
        → FlushOldest t.0 m.0.part k → FlushOldest u.0 m.0.part k' → k ≡ k'
    same_oldest t u k k' word oldest oldest' = let a : t.0 ≡ u.0 = omega arith in
        let one = oldest_is shows o size slots id m w mine s r there t.0 k oldest in
        let other = oldest_is shows o size slots id m w mine s r there t.0 k'
        (subst (λ (c : ℕ). FlushOldest c m.0.part k') (sym a) oldest') in omega arith

  emptied_none : (t k : ℕ) → HasEmptied size.seats m.0 t k → TakesNone m.0.hands
  emptied_none t zero has = has.1
  emptied_none t (suc k) has = λ q is. ap (λ (y : FlushRead). y.taken)
      (same_Some q has.0 (sym is ∙ has.1)) ∙ has.4

  begun : (t : Table) (k n : ℕ) (b : Bool) (v' : View) → MadeAs w (Look w (Newest t)) n
      (with_reading (Some (first_read t.0 k b)) m.0.hands) m.0 v' → (z k' : ℕ) (u : Table)
      → m.0.role ≡ Steps z → 64 + 4 * t.0 ≡ 64 + 4 * u.0 → k ≡ k'
      → MadeAs z (Look z (Newest u)) n (with_reading (Some (first_read u.0 k' b)) m.0.hands) m.0 v'
      × (m.1 ≡ m.1)
  begun t k n b v' made z k' u role word same = each_table_name shows o size slots id m w mine 64 t
      (λ z u. MadeAs z (Look z (Newest u)) n
      (with_reading (Some (first_read u.0 k' b)) m.0.hands) m.0 v' × (m.1 ≡ m.1)) (
        subst (λ (j : ℕ). MadeAs w (Look w (Newest t)) n
            (with_reading (Some (first_read t.0 j b)) m.0.hands) m.0 v') same made,
        refl,
      ) z u role word

  -- The boxes of the last retired memtable are emptied from now on.
  pub begins_emptying : (t : Table) (k : ℕ) → MayBeginRead t.0 m.0 (suc k)
      → FlushOldest t.0 m.0.part (suc k) → TakesNone m.0.hands → t.0 < 16 → t.0 < m.0.size.tables
      → Allows (Ruled shows o size) slots id m (64 + 4 * t.0) (λ n. n)
      (EmptyingBegun (step slots (64 + 4 * t.0) 0 0 none) m)
  begins_emptying t k may oldest unread few inside s r _ there _ =
      let n = slice_index s.words (64 + 4 * t.0) in let e = Look w (Newest t) in
      let q = first_read t.0 k true in let h = with_reading (Some q) m.0.hands in
      let v' = view_after (with_hands h m.0) e n in
      let did = looked_still s r there (Newest t) few
      (few_tables shows o size slots id m w mine s r there t.0 inside) (Some q) unread
      (λ z is. ap (λ (y : FlushRead). y.taken) (sym (same_Some q z is)))
      (λ z is. subst (ReadsAre size.seats r.core m.0.part) (same_Some q z is)
      (first_drops s r there t.0 k may oldest few))
      (λ z y j is. subst (λ (b : FlushRead). IsEmptied size.seats b y j
      → r.memtables.contents (memtable_box size.seats y b.table j) ≡ []) (same_Some q z is)
      (λ E. ⊎_elim (λ drops. absurd (let l = drops.2 in omega arith))
      (λ reads. absurd (false≢true (sym reads.0))) E)) in (
        v',
        keeps,
        tt,
        did.0,
        λ z k' u role _ word oldest'. begun t k n true v' (refl, did.1) z k' u role word
            (let same = same_oldest s r there t u (suc k) (suc k') word oldest oldest' in
            omega arith),
      )

  -- The least memtable that is not retired is read from now on.
  pub begins_read : (t : Table) (k : ℕ) → FlushOldest t.0 m.0.part k
      → HasEmptied size.seats m.0 t.0 k → t.0 < 16 → t.0 < m.0.size.tables
      → Allows (Ruled shows o size) slots id m (64 + 4 * t.0) (λ n. n)
      (ReadBegun (step slots (64 + 4 * t.0) 0 0 none) m)
  begins_read t k oldest has few inside s r _ there _ =
      let n = slice_index s.words (64 + 4 * t.0) in let e = Look w (Newest t) in
      let q = first_read t.0 k false in let h = with_reading (Some q) m.0.hands in
      let v' = view_after (with_hands h m.0) e n in
      let did = looked_still s r there (Newest t) few
      (few_tables shows o size slots id m w mine s r there t.0 inside) (Some q)
      (emptied_none t.0 k has)
      (λ z is. ap (λ (y : FlushRead). y.taken) (sym (same_Some q z is)))
      (λ z is. subst (ReadsAre size.seats r.core m.0.part) (same_Some q z is)
      (first_reads s r there t.0 k has oldest few))
      (λ z y j is. subst (λ (b : FlushRead). IsEmptied size.seats b y j
      → r.memtables.contents (memtable_box size.seats y b.table j) ≡ []) (same_Some q z is)
      (below_empty s r there t.0 k has y j)) in (
        v',
        keeps,
        tt,
        did.0,
        λ z k' u role _ word oldest'. begun t k n false v' (refl, did.1) z k' u role word
            (same_oldest s r there t u k k' word oldest oldest'),
      )

  pub ends_read : (t : Table) → TakesNone m.0.hands → t.0 < 16 → t.0 < m.0.size.tables
      → Allows (Ruled shows o size) slots id m (64 + 4 * t.0) (λ n. n)
      (ReadEnded (step slots (64 + 4 * t.0) 0 0 none) m)
  ends_read t unread few inside s r _ there _ =
      let n = slice_index s.words (64 + 4 * t.0) in let e = Look w (Newest t) in
      let h = with_reading None m.0.hands in
      let v' = view_after (with_hands h m.0) e n in
      let did = looked_still s r there (Newest t) few
      (few_tables shows o size slots id m w mine s r there t.0 inside) None unread
      (λ z is. absurd (none-some z is)) (λ z is. absurd (none-some z is))
      (λ z y j is. absurd (none-some z is)) in (
        v',
        keeps,
        tt,
        did.0,
        λ z u role _ word. each_table_name shows o size slots id m w mine 64 t
            (λ z u. MadeAs z (Look z (Newest u)) n (with_reading None m.0.hands) m.0 v'
            × (m.1 ≡ m.1)) ((refl, did.1), refl) z u role word,
      )

  pub takes_read : (t : Table) (q : FlushRead) → MayRead size.seats m.0.hands t.0 q
      → t.0 < 16 → t.0 < m.0.size.tables
      → Allows (Ruled shows o size) slots id m (64 + 4 * t.0) (λ n. n)
      (ReadTaken (step slots (64 + 4 * t.0) 0 0 none) m)
  takes_read t q reads small inside s r _ there _ =
      let n = slice_index s.words (64 + 4 * t.0) in let x = r.core in let e = Look w (Newest t) in
      let M = r.memtables in let box = next_box size.seats q in let held = M.contents box in
      let z = box_read box held q in let h = with_reading (Some z) m.0.hands in
      let v' = view_after (with_hands h m.0) e n in
      let R = reads_now shows o size s r id w m.0 there mine q reads.0 in let few = R.few in
      let more = reads.3 in
      let whole : (k : EntryNote) → Contains held k → IsWhole k =
      (λ k h. ((core_lawful shows o size s r).notes_are_claims.each k
      (M.sound q.seen_to q.table q.memtable k R.few h).among).whole) in
      let free : TakesNone m.0.hands = (λ p is. ap (λ (y : FlushRead). y.taken)
      (same_Some p q (sym is ∙ reads.0)) ∙ reads.2) in
      let home = M.at_home box (omega arith) (omega arith)
      (next_home s r there q reads.0 reads.2) in
      let did = looked s r there (Newest t) small
      (few_tables shows o size slots id m w mine s r there t.0 inside) (Some z) (takes box home.0)
      (λ b l. set_else s.homes box b none (λ q. absurd (omega arith)))
      (λ C. read_taken size.seats x.notes x.placed x.tables s.homes s.views M id w m.0 v'
      there mine refl C.note C.claim
      (place_still shows o size s r id w m.0 there mine e (Number n) (told_by None h) tt)
      (Some z) refl
      (λ y b is taken. let one : z ≡ y = same_Some z y is in
      ap (λ (k : FlushRead). k.held) (sym one) ∙ ap M.contents (same_Some box b
      (ap (λ (k : FlushRead). k.taken) one ∙ taken)))
      (λ y i j is. subst (λ (b : FlushRead). IsEmptied size.seats b i j
      → M.contents (memtable_box size.seats i b.table j) ≡ []) (same_Some z y is)
      ((puts_now shows o size s r id w m.0 there mine).emptied q i j reads.0))
      box z refl refl (takes_none m.0.hands free))
      (λ y is. subst (ReadsAre size.seats x m.0.part) (same_Some z y is) (record {
        few = R.few;
        held = R.held;
        passed = R.passed;
        next_passed = R.next_passed;
        live = R.live;
        next = λ b taken. (sym (same_Some box b taken), more);
        sound = R.sound;
        all = R.all;
      })) in (
        v',
        takes box home.0,
        home.1,
        did.0,
        λ z' u p role _ word is. each_table_name shows o size slots id m w mine 64 t
            (λ z' u. (ns : List EntryNote) × MadeAs z' (Look z' (Newest u)) n
            (with_reading (Some (box_read (next_box m.0.size.seats p) ns p)) m.0.hands) m.0 v'
            × TookRead (next_box m.0.size.seats p) ns m (v', (box, home.0) ∷ m.1))
            (subst (λ (y : ℕ × FlushRead). (ns : List EntryNote) × MadeAs w (Look w (Newest t)) n
            (with_reading (Some (box_read (next_box y.0 y.1) ns y.1)) m.0.hands) m.0 v'
            × TookRead (next_box y.0 y.1) ns m (v', (box, home.0) ∷ m.1))
            (λ i. (
              sym (ap (λ (y : PathSize). y.seats) (sized shows o size slots id m w mine s r there))
                  i,
              same_Some q p (sym reads.0 ∙ is) i,
            )) (held, (refl, did.1), (home.0, refl, home.2, whole))) z' u role word,
      )

  pub gives_read : (t : Table) (q : FlushRead) (b : ℕ) (y : Slot K) (cs : List (ℕ × Slot K))
      → m.0.hands.reading ≡ Some q → q.taken ≡ Some b → m.1 ≡ (b, y) ∷ cs
      → NotesAre y (left_in q) → t.0 < 16 → t.0 < m.0.size.tables
      → Allows (Ruled shows o size) slots id m (64 + 4 * t.0) (λ n. n)
      (ReadGiven (step slots (64 + 4 * t.0) 0 0 none) m)
  gives_read t q b y cs is taken holds kept small inside s r _ there _ =
      let n = slice_index s.words (64 + 4 * t.0) in let x = r.core in let e = Look w (Newest t) in
      let z = box_seen q in let h = with_reading (Some z) m.0.hands in
      let v' = view_after (with_hands h m.0) e n in
      let R = reads_now shows o size s r id w m.0 there mine q is in let few = R.few in
      let N = R.next b taken in let box = N.0 in let low = N.1 in let deep = r.deep in
      let did = looked s r there (Newest t) small
      (few_tables shows o size slots id m w mine s r there t.0 inside) (Some z) gives
      (λ c l. subst (λ k. get_elem? (put_back s.homes k) c ≡ get_elem? s.homes c) (sym holds)
      (set_else s.homes b c (some y) (λ same. absurd (omega arith))))
      (λ C. subst (λ k. HasMemtables size.seats x.notes x.placed x.tables (put_back s.homes k)
      (set s.views id v')) (sym holds)
      (read_given size.seats x.notes x.placed x.tables s.homes s.views r.memtables id w m.0 v'
      there mine refl C.note C.claim
      (place_still shows o size s r id w m.0 there mine e (Number n) (told_by None h) tt)
      q refl is b taken N.0
      (λ j i u e steps t k few place same. unplaced s r there q is j i u e steps t k few place
      (same ∙ N.0))
      (λ j u apart e. subst (λ (c : ℕ). ¬ ReadsBox u.hands c) (sym N.0)
      (alone s r there q is j u apart e))
      (λ p by placed live same. keeps_live s r there q is p by placed live (same ∙ N.0))
      y kept (omega arith)))
      (λ k is'. subst (ReadsAre size.seats x m.0.part) (same_Some z k is') (record {
        few = R.few;
        held = R.held;
        passed = R.passed;
        next_passed = R.next_passed;
        live = R.live;
        next = λ c taken'. absurd (none-some c taken');
        sound = λ n h. ⊎_elim (λ old. R.sound n old)
            (λ new. was_placed s r there q b is taken n new)
            (Contains-append_cases q.seen q.held n h);
        all = λ unretired n noted below placed. dite (ℕ_discrete n.writer.0 q.seen_to)
            (λ same. Contains-append_right q.seen q.held n
            (lies_there s r there q b is taken unretired n noted same placed))
            (λ apart. Contains-append_left q.seen q.held n
            (R.all unretired n noted (omega arith) placed));
      })) in (
        v',
        gives,
        tt,
        did.0,
        λ z' u p role _ word is'. each_table_name shows o size slots id m w mine 64 t
            (λ z' u. MadeAs z' (Look z' (Newest u)) n
            (with_reading (Some (box_seen p)) m.0.hands) m.0 v' × (rest m.1 ≡ rest m.1))
            (subst (λ (k : FlushRead). MadeAs w (Look w (Newest t)) n
            (with_reading (Some (box_seen k)) m.0.hands) m.0 v' × (rest m.1 ≡ rest m.1))
            (same_Some q p (sym is ∙ is')) ((refl, did.1), refl)) z' u role word,
      )
