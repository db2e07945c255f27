-- What a step owes: a new view, an act on the boxes, the rule for the state that the step leaves,
-- and what it tells. First the looks at each place.
use Rattle.std.proofs.Common.{◌≡◌, ℕ, ◌<◌, length, set, Some, refl, sym, ap, ◌∙◌, subst, ⊎_elim}
use Rattle.std.proofs.Common.{arith, None}
use Rattle.std.specs.Prelude.{slice_index}
use Rattle.std.specs.List.{Contains}
use Rattle.std.proofs.lemmas.List.{length-replicate}
use mathlib.Core.Logic.{inr}
use mathlib.Core.Option.{none, some}
use lib.ListN.{get_elem?}
use Rattle.atomic_table.specs.Table.{State, Me, step, Act, keeps, Valid, stepped, Allows}
use Rattle.atomic_table.specs.Table.{carried_after}
use Rattle.op_core.specs.CountWords.{number_in}
use Rattle.op_core.specs.declared.count.Order.{Order}
use Rattle.op_core.specs.declared.count.Order.TheVariants.{Write, Append}
use Rattle.path_core.specs.declared.event.Cursor.TheVariants.{Synced, OldestLive, Stopped}
use Rattle.path_core.specs.declared.event.Event.{Event}
use Rattle.path_core.specs.declared.event.Event.TheVariants.{Look}
use Rattle.path_core.specs.declared.event.Place.{Place}
use Rattle.path_core.specs.declared.event.Place.TheVariants.{Count, Current, Oldest, Log, Newest}
use Rattle.path_core.specs.declared.event.Place.TheVariants.{Bound, TurnWord, CursorWord}
use Rattle.path_core.specs.declared.event.Turn.TheVariants.{Sync, Flush}
use Rattle.path_core.specs.declared.seat.Seat.{Seat as SeatOf}
use Rattle.path_core.specs.declared.seat.SyncTurn.{SyncTurn}
use Rattle.path_core.specs.declared.state.PathState.{PathState}
use Rattle.path_core.specs.declared.state.Placed.{Placed}
use Rattle.path_core.specs.Allowed.{IsStep}
use Rattle.path_core.specs.Frame.{left_by}
use Rattle.path_core.specs.Lawful.{IsLawfulPath}
use Rattle.path_core.specs.LawfulSeats.{GroupsExact}
use Rattle.path_core.specs.Next.{next_of, told_of}
use Rattle.path_core.specs.Parts.{seat_of, seat_table, table_of, found_of, fresh_table}
use Rattle.path_core.specs.SeatAfter.{seat_after}
use Rattle.path_core.specs.Whole.{CarriesWhole}
use Rattle.path_core.specs.Words.{reading, by_of, place_of, IsPlace}
use Rattle.path_core.proofs.frame.Runs.{past_sizes}
use Rattle.path_core.proofs.frame.Seats.{current_is_made}
use Rattle.path_core.proofs.seats.Columns.{Columns}
use Rattle.path_rule.specs.declared.lasting.Beside.{Beside}
use Rattle.path_rule.specs.declared.lasting.Lasting.{Lasting}
use Rattle.path_rule.specs.declared.slot.Slot.{Slot}
use Rattle.path_rule.specs.declared.view.PathSize.{PathSize}
use Rattle.path_rule.specs.declared.view.Role.TheVariants.{Steps}
use Rattle.path_rule.specs.declared.view.View.{View}
use Rattle.path_rule.specs.Boxed.{Boxed}
use Rattle.path_rule.specs.Lasts.{shown}
use Rattle.path_rule.specs.Layout.{word_at, ActsShown, IsShown, IsWord, word_for, reading_at}
use Rattle.path_rule.specs.Layout.{seen_at}
use Rattle.path_rule.specs.Memtables.{IsKeptAt, PutsAre}
use Rattle.path_rule.specs.Issued.{MayIssue}
use Rattle.path_rule.specs.Rule.{start_of, IsBuilt, Ruled, HasRows, told_by, view_after, Was}
use Rattle.path_rule.specs.Told.{Made, Looked}
use Rattle.path_rule.specs.Turns.{TurnOld, turn_groups, IsKnown, KnowsMemtable, Sighted}
use Rattle.path_rule.proofs.boxes.HeldBoxes.{boxed_stay}
use Rattle.path_rule.proofs.boxes.MemtablesStay.{puts_stay, runs_still}
use Rattle.path_rule.proofs.log.TrailMemtables.{ToldTrue}
use Rattle.path_rule.proofs.moves.LeavesWrites.{LeavesReading, LeavesWrite, claim_left, files_left}
use Rattle.path_rule.proofs.moves.LeavesWrites.{leaves_live, leaves_places, note_left, placed_left}
use Rattle.path_rule.proofs.moves.Moving.{core_lawful, known, part_is, inside, was, plays_with}
use Rattle.path_rule.proofs.moves.Moving.{columns_now, memtables_then, place_still, puts_now}
use Rattle.path_rule.proofs.moves.Moving.{still_kept, LiesPlaced, RunsOn, reads_still}
use Rattle.path_rule.proofs.moves.StepFacts.{same_seat, known_groups}
use Rattle.path_rule.proofs.places.ReadBack.{rows_stay, read_back}
use Rattle.path_rule.proofs.places.SamePlace.{same_seen}
use Rattle.path_rule.proofs.places.ShownSteps.{found_group, from_oldest, shown_number, tries_near}

module _ {K : Type 0} (shows : K → Lasting) (o : Beside) (size : PathSize) (slots id : ℕ) (m : Me
    (Slot K) View)
    (w : ℕ) (mine : m.0.role ≡ Steps w) where
  -- the view, the act and what they owe, where n is stored
  abbrev pub Owes : State (Slot K) View → ℕ → ℕ → (Me (Slot K) View → Type 0) → Type 0
  Owes s i n then = (v : View) × (a : Act (Slot K)) × Valid s.homes m.1 a
      × Ruled shows o size (stepped s i n id m.1 v a) × then (v, carried_after m.1 a)

  module _ (s : State (Slot K) View) (r : Ruled shows o size s)
      (there : get_elem? s.views id ≡ some m.0) where
    abbrev pub x : PathState
    x = r.core

    abbrev pub L : IsLawfulPath x
    L = core_lawful shows o size s r

    pub as_part : m.0.part ≡ seat_of x w
    as_part = part_is shows o size s r id w m.0 there mine

    pub within : w < length x.seats
    within = inside shows o size s r id w m.0 there mine

    pub few_tables : (t : ℕ) → t < m.0.size.tables → t < length x.tables
    few_tables t l = let z = past_sizes r.events (start_of size) x r.run in
        let k = (known shows o size s r id w m.0 there mine).0 in
        let long = z.tables ∙ length-replicate size.tables fresh_table in
        subst (λ n. t < n) (sym long) (subst (λ (q : PathSize). t < q.tables) k l)

    -- what a write tries is made
    has_memtable : (t k : ℕ) → KnowsMemtable m.0.part t k → k < length (table_of x t).memtables
    has_memtable t k e = let l = (L.switches.tables t).bounds_rise.made in
        let is = ap (λ (p : SeatOf). (seat_table p t).trying) (sym as_part) ∙ e in
        let T = L.places.tries w t in let n = T.of_note k is in
        let own = L.each_claim_noted_once.own w n.0 n.1 in
        let low = (T.above k _ is own.range).made in omega arith

    turn_exact : (o : Order) (t : SyncTurn) → m.0.part.sync ≡ Some t
        → GroupsExact x o (turn_groups o t)
    turn_exact Write t e = ((L.seats_know w).sync t
        (ap (λ (p : SeatOf). p.sync) (sym as_part) ∙ e)).write
    turn_exact Append t e = ((L.seats_know w).sync t
        (ap (λ (p : SeatOf). p.sync) (sym as_part) ∙ e)).append

    pub below : (at : Place) → Sighted m.0 at → IsPlace x at
    below (Count o g) h = let more = current_is_made x L o in let G = known_groups x L o w in
        let old = (L.orders.made_groups o).oldest in ⊎_elim
        (λ (e : (found_of o m.0.part).current ≡ Some g). let a = G.current g
        (ap (λ (p : SeatOf). (found_of o p).current) (sym as_part) ∙ e) in omega arith)
        (λ q. ⊎_elim
        (λ (e : (found_of o m.0.part).oldest ≡ Some g). let a = G.oldest g
        (ap (λ (p : SeatOf). (found_of o p).oldest) (sym as_part) ∙ e) in omega arith)
        (λ (t : TurnOld o m.0.part g). let a = (turn_exact o t.0 t.1).oldest g t.2 in omega arith)
        q) h
    below (Current o) h = tt
    below (Oldest o) h = tt
    below Log h = tt
    below (Newest t) h = few_tables t.0 h
    below (Bound t k) h = (few_tables t.0 h.0, has_memtable t.0 k h.1)
    below (TurnWord Sync) h = tt
    below (TurnWord (Flush t)) h = few_tables t.0 h
    below (CursorWord Synced) h = tt
    below (CursorWord Stopped) h = tt
    below (CursorWord (OldestLive t)) h = few_tables t.0 h

    -- a step at which no box moves
    pub acts_with : (e : Event) → by_of e ≡ w → IsStep x e → CarriesWhole e
        → IsBuilt size.at_open x e → ActsShown x e
        → MayIssue m.0.trail e → HasRows (next_of x e) → (n found : ℕ)
        → n ≡ word_for (place_of e) (left_by e (reading x (place_of e)))
        → seat_after m.0.part e (reading_at (place_of e) found) (told_by None m.0.hands)
        ≡ seat_after m.0.part e (reading x (place_of e)) (told_of x e)
        → ToldTrue x e found None
        → (Columns e m.0.part (view_after m.0 e found).part
        → Boxed shows size.seats (next_of x e).notes (shown o size.at_open r.kept_to r.filed
        r.dropped (next_of x e)) (next_of x
        e).claims
        (next_of x e).append s.homes (set s.views id (view_after m.0 e found)))
        → (Columns e m.0.part (view_after m.0 e found).part
        → PutsAre r.memtables.contents size.seats w (view_after m.0 e found).part m.0.hands)
        → ((p : Placed) → Contains (next_of x e).placed p → IsKeptAt (next_of x e).tables p
        → LiesPlaced shows o size s r p)
        → (Columns e m.0.part (view_after m.0 e found).part
        → RunsOn shows o size s r id w m.0 there mine e (view_after m.0 e found))
        → LeavesReading m.0.hands e → (then : Me (Slot K) View → Type 0)
        → (Was m.0 w e → then (view_after m.0 e found, m.1))
        → Owes s (word_at (place_of e)) n then
    acts_with e by may whole built spot spends rows n found now told true_told boxed puts kept runs
        quiet then ok =
        let C = columns_now shows o size s r id w m.0 there mine e by may whole
        built spot spends rows n found None m.0.hands now told in (
          view_after m.0 e found,
          keeps,
          tt,
          plays_with shows o size s r id w m.0 there mine e by may whole built spot spends rows n
              found None m.0.hands now told true_told (files_left x m.0.hands e quiet) m.1 keeps
              (boxed C)
              (memtables_then shows o size s r id w m.0 there mine e by may whole built spot spends
              rows n found None m.0.hands now told m.1 keeps tt refl refl refl (puts C) kept
              (runs C) (leaves_live m.0.hands e quiet))
              (reads_still shows o size s r id w m.0 there mine e by may whole built spot spends
              rows n found None m.0.hands now told quiet refl),
          ok (was shows o size s r id w m.0 there mine e may whole),
        )

    -- and where the seat's write stays
    pub acts : (e : Event) → by_of e ≡ w → IsStep x e → CarriesWhole e
        → IsBuilt size.at_open x e → ActsShown x e
        → MayIssue m.0.trail e → HasRows (next_of x e) → (n found : ℕ)
        → n ≡ word_for (place_of e) (left_by e (reading x (place_of e)))
        → seat_after m.0.part e (reading_at (place_of e) found) (told_by None m.0.hands)
        ≡ seat_after m.0.part e (reading x (place_of e)) (told_of x e)
        → ToldTrue x e found None
        → (Columns e m.0.part (view_after m.0 e found).part
        → Boxed shows size.seats (next_of x e).notes (shown o size.at_open r.kept_to r.filed
        r.dropped (next_of x e)) (next_of x
        e).claims
        (next_of x e).append s.homes (set s.views id (view_after m.0 e found)))
        → LeavesWrite e → LeavesReading m.0.hands e → (then : Me (Slot K) View → Type 0)
        → (Was m.0 w e → then (view_after m.0 e found, m.1))
        → Owes s (word_at (place_of e)) n then
    acts e by may whole built spot spends rows n found now told true_told boxed leaves quiet then
        ok =
        acts_with e by may whole built spot spends rows n found now told true_told boxed
        (λ C. puts_stay r.memtables.contents size.seats w m.0.part
        (view_after m.0 e found).part m.0.hands m.0.hands
        (C.note ∙ note_left m.0.part.note e leaves)
        (C.claim ∙ claim_left m.0.part.claim e leaves)
        (place_still shows o size s r id w m.0 there mine e (reading_at (place_of e) found)
        (told_by None m.0.hands) (leaves_places e leaves)) (refl, refl, refl, refl)
        (puts_now shows o size s r id w m.0 there mine))
        (still_kept shows o size s r e may built (placed_left x e leaves))
        (λ C z t k n few q R. inr (runs_still s.views id m.0 (view_after m.0 e found) there
        refl (C.claim ∙ claim_left m.0.part.claim e leaves) z n.end.0 R)) quiet then ok

    -- the place that a look finds, and what is read there
    record SeesAt (p : Place) (i n : ℕ) : Type 0 where
      pub is_there : IsPlace x p
      pub shown : IsShown x p
      pub same : word_at p ≡ i
      pub found : n ≡ word_for p (reading x p)

    as_is : (at : Place) → IsPlace x at → IsShown x at
        → SeesAt at (word_at at) (slice_index s.words (word_at at))
    as_is at is_there shown = record {
      is_there = is_there;
      shown = shown;
      same = refl;
      found = r.words at shown;
    }

    sees : (at : Place) → IsWord at → Sighted m.0 at
        → SeesAt (seen_at at (slice_index s.words (word_at at))) (word_at at)
        (slice_index s.words (word_at at))
    sees (Count o g) spot sighted = let F = found_group x L r.rows s.words r.words o g
        (below (Count o g) sighted) in
        subst (λ h. SeesAt (Count o h) (word_at (Count o g))
        (slice_index s.words (word_at (Count o g)))) (sym F.number) (record {
          is_there = F.shown.0;
          shown = F.shown;
          same = F.same;
          found = F.tells;
        })
    sees (Current o) spot h = as_is (Current o) (below (Current o) h) spot
    sees (Oldest o) spot h = as_is (Oldest o) (below (Oldest o) h) spot
    sees Log spot h = as_is Log (below Log h) spot
    sees (Newest t) spot h = as_is (Newest t) (below (Newest t) h) spot
    sees (Bound t k) spot h = as_is (Bound t k) (below (Bound t k) h) (
      spot,
      tries_near x L w t.0 k (ap (λ (p : SeatOf). (seat_table p t.0).trying) (sym as_part) ∙ h.1),
    )
    sees (TurnWord Sync) spot h = as_is (TurnWord Sync) (below (TurnWord Sync) h) spot
    sees (TurnWord (Flush t)) spot h =
        as_is (TurnWord (Flush t)) (below (TurnWord (Flush t)) h) spot
    sees (CursorWord Synced) spot h = as_is (CursorWord Synced) (below (CursorWord Synced) h) spot
    sees (CursorWord Stopped) spot h =
        as_is (CursorWord Stopped) (below (CursorWord Stopped) h) spot
    sees (CursorWord (OldestLive t)) spot h =
        as_is (CursorWord (OldestLive t)) (below (CursorWord (OldestLive t)) h) spot

    pub look_owes : (at : Place) → IsWord at → Sighted m.0 at → (then : Me (Slot K) View → Type 0)
        → let n = slice_index s.words (word_at at) in let p = seen_at at n in
        (Made w (Look w p) n m (view_after m.0 (Look w p) n, m.1)
        → ((was : Was m.0 w (Look w p)) × (word_for p (reading was.core p) ≡ n))
        → then (view_after m.0 (Look w p) n, m.1))
        → Owes s (word_at at) n then
    look_owes at spot sighted then give = let n = slice_index s.words (word_at at) in
        let p = seen_at at n in let S = sees at spot sighted in
        let may : IsStep x (Look w p) = record {
          seat = within;
          is_there = S.is_there;
          row = tt;
        } in
        subst (λ i. Owes s i n then) S.same
        (acts (Look w p) refl may tt tt S.shown tt (rows_stay x (Look w p) may (λ q. q) r.rows) n n
        S.found
        (ap (λ k. seat_after m.0.part (Look w p) k (told_by None m.0.hands))
        (ap (reading_at p) S.found ∙ read_back x L r.rows p S.shown))
        S.found
        (λ C. boxed_stay shows size.seats x.notes
        (shown o size.at_open r.kept_to r.filed r.dropped x) x.claims x.claims x.append x.append
        s.homes s.views r.boxed
        id w m.0
        (view_after m.0 (Look w p) n) there mine refl refl refl
        (λ i g l _ _. (l, refl)) refl C.append C.issue refl)
        tt tt then (λ u. give ((refl, u), refl)
        (was shows o size s r id w m.0 there mine (Look w p) may tt, sym S.found)))

    -- what is sighted is known
    known_at : (at : Place) → Sighted m.0 at → IsKnown m.0.part at
    known_at (Bound t k) h = h.1
    known_at (Count o g) h = tt
    known_at (Current o) h = tt
    known_at (Oldest o) h = tt
    known_at Log h = tt
    known_at (Newest t) h = tt
    known_at (TurnWord turn) h = tt
    known_at (CursorWord cursor) h = tt

    -- the oldest group, as the holder of the Sync turn knows it, is the one whose number stands at
    -- its word
    oldest_tells : (at : Place) (o : Order) (g : ℕ) → at ≡ Count o g → TurnOld o m.0.part g
        → number_in (slice_index s.words (word_at at)) ≡ g
    oldest_tells at o g is old = let last = (turn_exact o old.0 old.1).oldest g old.2 in
        let more = current_is_made x L o in let low = (L.orders.made_groups o).oldest in
        ap (λ q. number_in (slice_index s.words (word_at q))) is
        ∙ shown_number x L r.rows s.words r.words o g
        (from_oldest x L o g (omega arith) (omega arith))

  pub looks : (at : Place) → IsWord at → Sighted m.0 at
      → Allows (Ruled shows o size) slots id m (word_at at) (λ n. n)
      (Looked (step slots (word_at at) 0 0 none) m)
  looks at spot sighted s r _ there _ = let n = slice_index s.words (word_at at) in
      let p = seen_at at n in
      look_owes s r there at spot sighted (Looked (step slots (word_at at) 0 0 none) m n)
      (λ made seen z at' role word known is.
      let P : ℕ × Place → Type 0 = λ q. Made q.0 (Look q.0 q.1) n m
      (view_after m.0 (Look w p) n, m.1)
      × ((was : Was m.0 q.0 (Look q.0 q.1)) × (word_for q.1 (reading was.core q.1) ≡ n)) in
      let T = subst P (λ i. (
        same_seat m.0.role w z mine role i,
        same_seen m.0.part n at at' spot word (known_at s r there at sighted) known is i,
      ))
      (made, seen) in (
        T.0,
        T.1,
        λ o g at_count old. subst (λ i. number_in (slice_index s.words i) ≡ g) (sym is)
            (oldest_tells s r there at' o g at_count old),
      ))

  -- the same, where the word is told by an equation
  pub looks_at : (at : Place) → IsWord at → Sighted m.0 at → (i : ℕ) → i ≡ word_at at
      → Allows (Ruled shows o size) slots id m i (λ n. n) (Looked (step slots i 0 0 none) m)
  looks_at at spot sighted i is = subst
      (λ j. Allows (Ruled shows o size) slots id m j (λ n. n) (Looked (step slots j 0 0 none) m))
      (sym is) (looks at spot sighted)

  -- a step told for every number that the seat and the group may go by
  pub each_name : (g : ℕ) (P : ℕ → ℕ → Type 0) → P w g → (z h : ℕ) → m.0.role ≡ Steps z
      → g ≡ h → P z h
  each_name g P p z h role same =
      subst (λ (q : ℕ × ℕ). P q.0 q.1) (λ i. (same_seat m.0.role w z mine role i, same i)) p

  pub each_seat_name : (P : ℕ → Type 0) → P w → (z : ℕ) → m.0.role ≡ Steps z → P z
  each_seat_name P p z role = subst P (same_seat m.0.role w z mine role) p

  module _ (s : State (Slot K) View) (r : Ruled shows o size s)
      (there : get_elem? s.views id ≡ some m.0) where
    pub own_part : {A : Type 0} (f : SeatOf → A) (a : A) → f m.0.part ≡ a → f (seat_of r.core w) ≡ a
    own_part {A} f a e = ap f (sym (as_part s r there)) ∙ e
