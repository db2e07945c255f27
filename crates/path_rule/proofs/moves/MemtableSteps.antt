-- A writer takes its box of a memtable, and gives it back with its entry in it.
use Rattle.std.proofs.Common.{◌≡◌, ◌≢◌, ℕ, suc, ◌+◌, ◌*◌, ◌^◌, ◌<◌, ◌≤◌, ⊎_elim, List, [], ◌∷◌}
use Rattle.std.proofs.Common.{length, set, Some, None, IsTrue, refl, sym, ap, ◌∙◌, subst, arith}
use Rattle.std.specs.Prelude.{slice_index, ◌++◌}
use Rattle.std.proofs.lemmas.Option.{none-some, same_Some}
use mathlib.Core.Logic.{dite}
use mathlib.Core.Option.{none, some, some-injective}
use native.Mathlib.Decide.{ℕ_discrete}
use lib.ListN.{get_elem?}
use Rattle.atomic_table.proofs.Lists.{set_else}
use Rattle.atomic_table.specs.Table.{State, Me, step, Act, takes, gives, put_back, rest}
use Rattle.atomic_table.specs.Table.{homes_after, stepped, Allows}
use Rattle.clog_base.specs.declared.cell.Table.{Table}
use Rattle.path_core.specs.declared.event.Event.TheVariants.{Look}
use Rattle.path_core.specs.declared.event.Place.TheVariants.{Newest}
use Rattle.path_core.specs.declared.event.Reading.TheVariants.{Number}
use Rattle.path_core.specs.declared.note.EntryNote.{EntryNote}
use Rattle.path_core.specs.declared.seat.Seat.{Seat as SeatOf}
use Rattle.path_core.specs.Allowed.{IsStep}
use Rattle.path_core.specs.Parts.{seat_of, seat_table, table_of, touches, HasPassedBarrier}
use Rattle.path_core.specs.SeatAfter.{seat_after}
use Rattle.path_core.proofs.seats.Columns.{Columns}
use Rattle.path_rule.specs.declared.lasting.Beside.{Beside}
use Rattle.path_rule.specs.declared.lasting.Lasting.{Lasting}
use Rattle.path_rule.specs.declared.slot.Slot.{Slot}
use Rattle.path_rule.specs.declared.slot.Slot.TheVariants.{Notes}
use Rattle.path_rule.specs.declared.view.FlushRead.{FlushRead}
use Rattle.path_rule.specs.declared.view.Hands.{Hands}
use Rattle.path_rule.specs.declared.view.PathSize.{PathSize}
use Rattle.path_rule.specs.declared.view.Role.{Role}
use Rattle.path_rule.specs.declared.view.Role.TheVariants.{Opener, Steps, Spent}
use Rattle.path_rule.specs.declared.view.View.{View}
use Rattle.path_rule.specs.Applying.{put_there, MayApply, MemtableGiven, MemtableTaken, TookHeld}
use Rattle.path_rule.specs.Boxed.{Boxed}
use Rattle.path_rule.specs.Boxes.{memtable_box}
use Rattle.path_rule.specs.HandsAfter.{with_applied, with_held}
use Rattle.path_rule.specs.Lasts.{shown}
use Rattle.path_rule.specs.Memtables.{HasMemtables, IsEmptied, IsHome, IsOfBox, PutsAs, ReadsBox}
use Rattle.path_rule.specs.Reads.{ReadsAs}
use Rattle.path_rule.specs.Rule.{start_of, told_by, view_after, with_hands, Knows, Ruled, Was}
use Rattle.path_rule.specs.Told.{MadeAs}
use Rattle.path_rule.proofs.boxes.FewNotes.{few}
use Rattle.path_rule.proofs.boxes.MemtablePut.{memtable_given}
use Rattle.path_rule.proofs.boxes.MemtablesStay.{memtable_taken}
use Rattle.path_rule.proofs.boxes.OtherBoxes.{boxed_other}
use Rattle.path_rule.proofs.boxes.ReadsStay.{emptied_retired, near_reads, none_reads, place_live}
use Rattle.path_rule.proofs.log.Deposits.{deposited_noted}
use Rattle.path_rule.proofs.log.OwnWrites.{below_log}
use Rattle.path_rule.proofs.moves.AppendSteps.{low_seat}
use Rattle.path_rule.proofs.moves.Looks.{few_tables, within}
use Rattle.path_rule.proofs.moves.Moving.{columns_now, core_lawful, known, place_still, plays_with}
use Rattle.path_rule.proofs.moves.Moving.{reads_still, was}
use Rattle.path_rule.proofs.moves.StepFacts.{last_same, notes_first}
use Rattle.path_rule.proofs.moves.TableTurns.{each_table_name}
use Rattle.path_rule.proofs.places.ReadBack.{log_small, rows_stay}

module _ {K : Type 0} (shows : K → Lasting) (o : Beside) (size : PathSize) (slots id : ℕ)
    (m : Me (Slot K) View) (w : ℕ) (mine : m.0.role ≡ Steps w) where
  module _ (s : State (Slot K) View) (r : Ruled shows o size s)
      (there : get_elem? s.views id ≡ some m.0) where
    pub sized : m.0.size ≡ size
    sized = (known shows o size s r id w m.0 there mine).0

    -- another seat has another number
    pub others_are : (j z : ℕ) (u : View) → j ≢ id → get_elem? s.views j ≡ some u → u.role ≡ Steps z
        → z ≢ w
    others_are j z u apart at is same = apart
        (sym (subst (λ ρ. Knows r.core r.events r.owner r.made r.boss j ρ u.part u.trail
        u.returned) is (r.each_seat j u at).1).0.1
        ∙ (ap r.owner same ∙ (known shows o size s r id w m.0 there mine).1.1))

    -- No holder of a Flush turn reads the box of a place that the seat has: no write runs in a
    -- memtable that is read.
    never_read : (t k : ℕ) → t < 16 → (seat_table m.0.part t).place ≡ Some k → (j : ℕ) (u : View)
        → get_elem? s.views j ≡ some u → ¬ ReadsBox u.hands (memtable_box size.seats w t k)
    never_read t k few place j u e Q = by u.role (r.reads j u e)
      where
        by : (ρ : Role) → ReadsAs size.seats r.core u.part u.hands ρ → ⊥
        by (Opener n) R = none-some Q.0 (sym R ∙ Q.1)
        by Spent R = none-some Q.0 (sym R ∙ Q.1)
        by (Steps z) R = let H = R Q.0 Q.1 in
            let box = (H.next (memtable_box size.seats w t k) Q.2).0 in let small = H.few in
            let table : t ≡ Q.0.table = omega arith in
            none_reads r.core (core_lawful shows o size s r) w t k Q.0.memtable
            (ap (λ (p : SeatOf). (seat_table p t).place)
            (sym (known shows o size s r id w m.0 there mine).1.2) ∙ place)
            (subst (λ (q : ℕ). HasPassedBarrier r.core q Q.0.memtable) (sym table) H.passed)
            (subst (λ (q : ℕ). (Q.0.memtable ≤ (table_of r.core q).oldest_live)
            × ((table_of r.core q).oldest_live ≤ suc Q.0.memtable)) (sym table)
            (near_reads size.seats r.core u.part Q.0 H)) (omega arith)

    -- Nor did it empty that one: it emptied those of a retired memtable.
    never_emptied : (t k : ℕ) → t < 16 → (seat_table m.0.part t).place ≡ Some k → (j : ℕ)
        (u : View) → get_elem? s.views j ≡ some u → (q : FlushRead) (z i : ℕ)
        → u.hands.reading ≡ Some q → IsEmptied size.seats q z i
        → memtable_box size.seats z q.table i ≢ memtable_box size.seats w t k
    never_emptied t k few place j u e q z i is bare same = by u.role (r.reads j u e)
      where
        by : (ρ : Role) → ReadsAs size.seats r.core u.part u.hands ρ → ⊥
        by (Opener n) R = none-some q (sym R ∙ is)
        by Spent R = none-some q (sym R ∙ is)
        by (Steps y) R = let H = R q is in let small = H.few in
            let table : q.table ≡ t = omega arith in
            let gone = emptied_retired size.seats r.core u.part q H z i bare in
            let live = place_live r.core (core_lawful shows o size s r) w q.table k
            (ap (λ (c : ℕ). (seat_table (seat_of r.core w) c).place) table
            ∙ (ap (λ (p : SeatOf). (seat_table p t).place)
            (sym (known shows o size s r id w m.0 there mine).1.2) ∙ place)) in
            let least = live.0 in let most = live.1 in absurd (omega arith)

    -- the seat's own box is at home, where it has none in hand
    own_home : (t k : ℕ) → t < 16 → m.0.hands.memtable_box ≡ None
        → (seat_table m.0.part t).place ≡ Some k → IsHome s.views (memtable_box size.seats w t k)
    own_home t k few rests place j u e hand = ⊎_elim
        (λ has. by has u.role refl (r.memtables.in_hands j u e))
        (never_read t k few place j u e) hand
      where
        by : u.hands.memtable_box ≡ Some (memtable_box size.seats w t k) → (ρ : Role) → u.role ≡ ρ
            → PutsAs r.memtables.contents size.seats u.part u.hands ρ → ⊥
        by has (Opener n) is P = none-some (memtable_box size.seats w t k) (sym P ∙ has)
        by has Spent is P = none-some (memtable_box size.seats w t k) (sym P ∙ has)
        by has (Steps z) is P = let I = (P.in_hand (memtable_box size.seats w t k) has).0 in
            dite (ℕ_discrete j id)
            (λ same. let one : u ≡ m.0 = some-injective u m.0
            (sym e ∙ (ap (get_elem? s.views) same ∙ there)) in
            none-some (memtable_box size.seats w t k)
            (sym rests ∙ (ap (λ (v : View). v.hands.memtable_box) (sym one) ∙ has)))
            (λ apart. others_are j z u apart e is (let q = I.is in let l = I.few in omega arith))

    -- the seat's place is at a table of its note
    of_note : (t k : ℕ) → (seat_table m.0.part t).place ≡ Some k
        → (n : ℕ) × (m.0.part.note ≡ Some n) × IsTrue (touches n t)
    of_note t k place = let T = (core_lawful shows o size s r).places.tries w t in
        let is = ap (λ (p : SeatOf). (seat_table p t).place)
        (sym (known shows o size s r id w m.0 there mine).1.2) ∙ place in
        let n = T.of_note k (T.place_is_tried k is) in (
          n.0,
          ap (λ (p : SeatOf). p.note) (known shows o size s r id w m.0 there mine).1.2 ∙ n.1,
          n.2,
        )

    -- a look at the newest memtable of a table, with what the boxes tell then
    looked : (t : Table) → t.0 < 16 → t.0 < m.0.size.tables → (h : Hands) (a : Act (Slot K))
        → h.reading ≡ m.0.hands.reading
        → let e = Look w (Newest t) in let n = slice_index s.words (64 + 4 * t.0) in
        let v' = view_after (with_hands h m.0) e n in
        (Columns e m.0.part v'.part → Boxed shows size.seats r.core.notes
        (shown o size.at_open r.kept_to r.filed r.dropped r.core) r.core.claims r.core.append
        (homes_after s.homes m.1 a) (set s.views id v'))
        → (Columns e m.0.part v'.part → HasMemtables size.seats r.core.notes r.core.placed
        r.core.tables (homes_after s.homes m.1 a) (set s.views id v'))
        → Ruled shows o size (stepped s (64 + 4 * t.0) n id m.1 v' a) × Was m.0 w e
    looked t few inside h a reading boxed memtables = let x = r.core in let e = Look w (Newest t) in
        let n = slice_index s.words (64 + 4 * t.0) in
        let found : n ≡ (table_of x t.0).newest = r.words (Newest t) few in
        let may : IsStep x e = record {
          seat = within shows o size slots id m w mine s r there;
          is_there = few_tables shows o size slots id m w mine s r there t.0 inside;
          row = tt;
        } in let rows = rows_stay x e may (λ q. q) r.rows in
        let told = ap (λ k. seat_after m.0.part e (Number k) (told_by None h)) found in
        let C = columns_now shows o size s r id w m.0 there mine e refl may tt tt few tt rows n n
        None
        h found told in (
          plays_with shows o size s r id w m.0 there mine e refl may tt tt few tt rows n n None h
              found told found refl m.1 a (boxed C) (memtables C)
              (reads_still shows o size s r id w m.0 there mine e refl may tt tt few tt rows n n
              None
              h found told tt reading),
          was shows o size s r id w m.0 there mine e may tt,
        )

  -- It takes the box of its place at a table.
  pub takes_memtable : (t : Table) (k : ℕ) → m.0.hands.memtable_box ≡ None
      → (seat_table m.0.part t.0).place ≡ Some k → t.0 < 16 → t.0 < m.0.size.tables
      → Allows (Ruled shows o size) slots id m (64 + 4 * t.0) (λ n. n)
      (MemtableTaken (step slots (64 + 4 * t.0) 0 0 none) m)
  takes_memtable t k rests place small inside s r _ there _ =
      let n = slice_index s.words (64 + 4 * t.0) in let x = r.core in let e = Look w (Newest t) in
      let M = r.memtables in let law = core_lawful shows o size s r in
      let box = memtable_box size.seats w t.0 k in let held = M.contents box in
      let h = with_held box held m.0.hands in let v' = view_after (with_hands h m.0) e n in
      let low = low_seat shows o size slots id m w mine s r there in
      let home = M.at_home box (omega arith) (omega arith)
      (own_home s r there t.0 k small rests place) in
      let note = of_note s r there t.0 k place in
      let many : length held ≤ 2 ^ 62 = (let l = log_small x law in
      let f = few (suc x.log) held (λ key. M.once key box)
      (λ q in_it. let b = below_log x law q (M.sound w t.0 k q small in_it).among in omega arith) in
      omega arith) in
      let did = looked s r there t small inside h (takes box home.0) refl
      (λ C. boxed_other shows size.seats x.notes (shown o size.at_open r.kept_to r.filed r.dropped
      x) x.claims x.append s.homes s.views r.boxed id m.0 v' there refl (set s.homes box none)
      (λ b l. set_else s.homes box b none (λ q. absurd (omega arith))) C.append C.issue (Some box)
      held m.0.hands.applied m.0.hands.reading refl)
      (λ C. memtable_taken size.seats x.notes x.placed x.tables s.homes s.views M id m.0 v' there
      box w t.0 k refl small mine refl rests refl refl refl refl note.0 (C.note ∙ note.1) C.claim
      (place_still shows o size s r id w m.0 there mine e (Number n) (told_by None h) tt) place)
      in (
        v',
        takes box home.0,
        home.1,
        did.0,
        λ z k' u role _ word at. each_table_name shows o size slots id m w mine 64 t
            (λ z u. (k' : ℕ) → (seat_table m.0.part u.0).place ≡ Some k'
            → ((ns : List EntryNote) × MadeAs z (Look z (Newest u)) n
            (with_held (memtable_box m.0.size.seats z u.0 k') ns m.0.hands) m.0 v')
            × TookHeld (memtable_box m.0.size.seats z u.0 k') m (v', (box, home.0) ∷ m.1))
            (λ k' other. subst (λ (q : ℕ × ℕ).
            ((ns : List EntryNote) × MadeAs w (Look w (Newest t)) n
            (with_held (memtable_box q.1 w t.0 q.0) ns m.0.hands) m.0 v')
            × TookHeld (memtable_box q.1 w t.0 q.0) m (v', (box, home.0) ∷ m.1))
            (λ i. (
              same_Some k k' (sym place ∙ other) i,
              sym (ap (λ (y : PathSize). y.seats) (sized s r there)) i,
            )) (
              (held, (refl, did.1)),
              (home.0, refl, home.2, many),
            )) z u role word k' at,
      )

  -- It gives it back with its note.
  pub gives_memtable : (t : Table) (k : ℕ) (note : EntryNote) (cs : List (ℕ × Slot K))
      → (seat_table m.0.part t.0).place ≡ Some k
      → m.0.hands.memtable_box ≡ Some (memtable_box m.0.size.seats w t.0 k)
      → MayApply m.0 w t.0 note
      → m.1 ≡ (memtable_box m.0.size.seats w t.0 k, Notes (m.0.hands.held ++ note ∷ [])) ∷ cs
      → t.0 < 16 → t.0 < m.0.size.tables
      → Allows (Ruled shows o size) slots id m (64 + 4 * t.0) (λ n. n)
      (MemtableGiven (step slots (64 + 4 * t.0) 0 0 none) m)
  gives_memtable t k note cs place has applies holds small inside s r _ there _ =
      let n = slice_index s.words (64 + 4 * t.0) in let x = r.core in let e = Look w (Newest t) in
      let M = r.memtables in let new = put_there t k note in
      let box = memtable_box size.seats w t.0 k in let y = Notes (m.0.hands.held ++ note ∷ []) in
      let h = with_applied new m.0.hands in let v' = view_after (with_hands h m.0) e n in
      let low = low_seat shows o size slots id m w mine s r there in
      let same : memtable_box m.0.size.seats w t.0 k ≡ box =
      ap (λ (z : PathSize). memtable_box z.seats w t.0 k) (sized s r there) in
      let carried : m.1 ≡ (box, y) ∷ cs = holds ∙ (λ i. (same i, y) ∷ cs) in
      let did = looked s r there t small inside h gives refl
      (λ C. subst (λ l. Boxed shows size.seats x.notes (shown o size.at_open r.kept_to r.filed
      r.dropped x) x.claims x.append (put_back s.homes l) (set s.views id v')) (sym carried)
      (boxed_other shows size.seats x.notes (shown o size.at_open r.kept_to r.filed r.dropped x)
      x.claims x.append s.homes s.views r.boxed id m.0 v' there refl (set s.homes box (some y))
      (λ b l. set_else s.homes box b (some y) (λ q. absurd (omega arith))) C.append C.issue None
      [] (new ∷ m.0.hands.applied) m.0.hands.reading refl))
      (λ C. subst (λ l. HasMemtables size.seats x.notes x.placed x.tables (put_back s.homes l)
      (set s.views id v')) (sym carried)
      (memtable_given size.seats x.notes x.placed x.tables s.homes s.views M id m.0 v' there w t.0 k
      small low r.deep mine refl note (has ∙ ap (λ (b : ℕ). Some b) same) refl C.claim
      (place_still shows o size s r id w m.0 there mine e (Number n) (told_by None h) tt) place
      note.start.0 applies.range applies.fresh (belongs s r there) (others_are s r there)
      (never_read s r there t.0 k small place) (never_emptied s r there t.0 k small place))) in (
        v',
        gives,
        tt,
        did.0,
        λ z k' u other role _ word at laid. let one : note ≡ other = last_same m.0.hands.held note
            other (ap notes_first (sym holds ∙ laid)) in
            each_table_name shows o size slots id m w mine 64 t
            (λ z u. (k' : ℕ) → (seat_table m.0.part u.0).place ≡ Some k'
            → MadeAs z (Look z (Newest u)) n (with_applied (put_there u k' other) m.0.hands) m.0 v'
            × (rest m.1 ≡ rest m.1))
            (λ k' at'. subst (λ (q : ℕ × EntryNote). MadeAs w (Look w (Newest t)) n
            (with_applied (put_there t q.0 q.1) m.0.hands) m.0 v' × (rest m.1 ≡ rest m.1))
            (λ i. (same_Some k k' (sym place ∙ at') i, one i)) ((refl, did.1), refl))
            z u role word k' at,
      )
    where
      -- the note is one of the state, and of the box
      belongs : (s : State (Slot K) View) (r : Ruled shows o size s)
          → get_elem? s.views id ≡ some m.0 → IsOfBox r.core.notes w t.0 note
      belongs s r there = let N = of_note s r there t.0 k place in record {
        among = deposited_noted (start_of size) r.events r.core r.run w m.0.trail
            (known shows o size s r id w m.0 there mine).1.3 note applies.deposited;
        writer = applies.writer;
        touched = subst (λ (b : ℕ). IsTrue (touches b t.0))
            (same_Some N.0 note.tables (sym N.1 ∙ applies.tables)) N.2;
      }
