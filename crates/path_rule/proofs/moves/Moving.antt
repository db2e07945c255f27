-- A step that the machine allows keeps the rule.
use Rattle.std.proofs.Common.{◌≡◌, ◌≢◌, ℕ, ◌<◌, true, Option, List, [], ◌∷◌, map, length, set, Some}
use Rattle.std.proofs.Common.{is_some, refl, sym, ap, ◌∙◌, subst, ⊎_elim, arith, length-set}
use Rattle.std.proofs.Common.{get_or-set_same, get_or-set_other}
use Rattle.std.specs.Prelude.{slice_index, ◌≤◌, ◌⊎◌}
use Rattle.std.specs.List.{Contains}
use mathlib.Core.Logic.{dite, inl, inr}
use mathlib.Core.Option.{some, none}
use mathlib.Core.Option as maybe
use native.Mathlib.Decide.{ℕ_discrete}
use lib.ListN.{get_elem?}
use Rattle.atomic_table.proofs.Lists.{at_set}
use Rattle.atomic_table.specs.Table.{State, Act, keeps, takes, gives, chain, carried_after}
use Rattle.atomic_table.specs.Table.{homes_after, stepped}
use Rattle.path_core.specs.declared.event.Event.{Event}
use Rattle.path_core.specs.declared.event.Cursor.TheVariants.{OldestLive, Stopped, Synced}
use Rattle.path_core.specs.declared.event.Event.TheVariants.{GiveTurn, Put}
use Rattle.path_core.specs.declared.event.Reading.{Reading}
use Rattle.path_core.specs.declared.event.Turn.TheVariants.{Sync, Flush}
use Rattle.path_core.specs.declared.note.EntryNote.{EntryNote}
use Rattle.path_core.specs.declared.seat.Seat.{Seat}
use Rattle.path_core.specs.declared.state.PathState.{PathState}
use Rattle.path_core.specs.declared.state.Placed.{Placed}
use Rattle.path_core.specs.Allowed.{IsStep}
use Rattle.path_core.specs.Frame.{left_by}
use Rattle.path_core.specs.Keeper.{HasRisen}
use Rattle.path_core.specs.Lawful.{IsLawfulPath}
use Rattle.path_core.specs.Next.{next_of, placed_after, told_of}
use Rattle.path_core.specs.Parts.{fresh_seat, seat_of, seat_table}
use Rattle.path_core.specs.Runs.{Past}
use Rattle.path_core.specs.SeatAfter.{Told, seat_after}
use Rattle.path_core.specs.Whole.{CarriesWhole}
use Rattle.path_core.specs.Words.{reading, by_of, place_of}
use Rattle.path_core.proofs.frame.Words.{other_seat, columns, same_elsewhere, left_here}
use Rattle.path_core.proofs.frame.Runs.{past_sizes}
use Rattle.path_core.proofs.log.OwnNotes.{notes_stay}
use Rattle.path_core.proofs.runs.EveryRun.{keeps_lawful, past_lawful, opening_lawful}
use Rattle.path_core.proofs.runs.Sizes.{as_many_seats}
use Rattle.path_core.proofs.seats.Columns.{own_after, Columns}
use Rattle.path_rule.specs.declared.lasting.Beside.{Beside}
use Rattle.path_rule.specs.declared.lasting.Filed.{Filed}
use Rattle.path_rule.specs.declared.lasting.Lasting.{Lasting}
use Rattle.path_rule.specs.declared.slot.Slot.{Slot}
use Rattle.path_rule.specs.declared.view.FlushRead.{FlushRead}
use Rattle.path_rule.specs.declared.view.Hands.{Hands}
use Rattle.path_rule.specs.declared.view.OwnStep.{OwnStep}
use Rattle.path_rule.specs.declared.view.PathSize.{PathSize}
use Rattle.path_rule.specs.declared.view.Returned.{Returned}
use Rattle.path_rule.specs.declared.view.Role.{Role}
use Rattle.path_rule.specs.declared.view.Role.TheVariants.{Opener, Steps, Spent}
use Rattle.path_rule.specs.declared.view.View.{View}
use Rattle.path_rule.specs.Boxed.{Boxed}
use Rattle.path_rule.specs.Boxes.{boxes, memtable_box}
use Rattle.path_rule.specs.Filing.{HasFiled}
use Rattle.path_rule.specs.Kept.{MayBeKept}
use Rattle.path_rule.specs.Lasts.{shown}
use Rattle.path_rule.specs.Layout.{word_at, ActsShown, word_for, reading_at}
use Rattle.path_rule.specs.Memtables.{HasMemtables, IsKeptAt, IsPlacedIn, IsPut, IsRunning, PutsAre}
use Rattle.path_rule.specs.Memtables.{PutsAs}
use Rattle.path_rule.specs.Issued.{MayIssue}
use Rattle.path_rule.specs.Reads.{ReadsAre, ReadsAs}
use Rattle.path_rule.specs.Rule.{start_of, IsFit, IsBuilt, event_of, steps_by, IsSeat, Knows}
use Rattle.path_rule.specs.Rule.{SizedAs, IsSized, HasRows, Ruled, told_by, view_with, with_hands}
use Rattle.path_rule.specs.Rule.{Was}
use Rattle.path_rule.proofs.boxes.MemtablesStay.{memtables_stay, puts_stay, runs_still, PlacesStay}
use Rattle.path_rule.proofs.boxes.MemtablesStay.{SameHeld}
use Rattle.path_rule.proofs.boxes.ReadsStay.{reads_on}
use Rattle.path_rule.proofs.boxes.TurnHeld.{held_stays, LeavesTurn}
use Rattle.path_rule.proofs.log.BuiltSteps.{still_risen}
use Rattle.path_rule.proofs.log.Issues.{few_still, paid_still, steps_other, steps_own}
use Rattle.path_rule.proofs.log.FilingStays.{filing_stays}
use Rattle.path_rule.specs.Trails.{TrailTells, ViewTells}
use Rattle.path_rule.proofs.log.KeptStays.{kept_stays}
use Rattle.path_rule.proofs.log.TrailMemtables.{ToldTrue}
use Rattle.path_rule.proofs.log.TrailsTell.{tells_more, view_still}
use Rattle.path_rule.proofs.moves.LeavesWrites.{LeavesLive, LeavesReading, LeavesWrite, MovesBelow}
use Rattle.path_rule.proofs.moves.LeavesWrites.{claim_left, files_left, leaves_live, leaves_places}
use Rattle.path_rule.proofs.moves.LeavesWrites.{live_moves, live_still, note_left, placed_left}
use Rattle.path_rule.proofs.moves.LeavesWrites.{placed_stays, same_above}
use Rattle.path_rule.proofs.seats.PlaceStays.{LeavesPlaces, place_stays}
use Rattle.path_rule.proofs.places.SamePlace.{same_place, in_rows, shown_word}
use Rattle.path_rule.proofs.places.ShownSteps.{shown_own, shown_was}

homes_length : {S : Type 0} (hs : List (maybe.Option S)) (cs : List (ℕ × S)) (a : Act S)
    → length (homes_after hs cs a) ≡ length hs
homes_length hs cs keeps = refl
homes_length hs cs (takes k y) = length-set hs k none
homes_length hs [] gives = refl
homes_length hs (c ∷ cs) gives = length-set hs c.0 (some c.1)
homes_length hs cs (chain a b) = homes_length (homes_after hs cs a) (carried_after cs a) b
    ∙ homes_length hs cs a

module _ {K : Type 0} (shows : K → Lasting) (o : Beside) (size : PathSize) (s : State (Slot K) View)
    (r : Ruled shows o size s) where
  pub core_lawful : IsLawfulPath r.core
  core_lawful = past_lawful r.events (start_of size) r.core
      (opening_lawful size.tables size.seats size.capacity size.ordinals size.base r.fit) r.run

  pub enough_boxes : boxes size.seats ≤ length s.homes
  enough_boxes = let d = r.deep in omega arith

  pub capacity_is : r.core.capacity ≡ size.capacity
  capacity_is = (past_sizes r.events (start_of size) r.core r.run).capacity

  -- what is placed lies in a box
  abbrev pub LiesPlaced : Placed → Type 0
  LiesPlaced p = IsPut r.memtables.contents size.seats p

  module _ (e : Event) (may : IsStep r.core e) (built : IsBuilt size.at_open r.core e) where
    -- what is not retired was not retired
    pub kept_before : (p : Placed) → IsKeptAt (next_of r.core e).tables p
        → IsKeptAt r.core.tables p
    kept_before p live = ⊎_elim (λ same. subst (λ (k : ℕ). k ≤ p.memtable) same live)
        (λ up. omega arith) (live_moves r.core e may p.table)

    -- so what was placed lies there still
    pub still_kept : placed_after r.core e ≡ r.core.placed → (p : Placed)
        → Contains (next_of r.core e).placed p → IsKeptAt (next_of r.core e).tables p
        → LiesPlaced p
    still_kept same p h live = r.memtables.kept p (subst (λ l. Contains l p) same h)
        (kept_before p live)

    -- and is where it was, where no memtable of the table is retired
    pub placed_still : (t k entry : ℕ) → LeavesLive t e
        → IsPlacedIn r.core.placed r.core.tables t k entry
        → IsPlacedIn (next_of r.core e).placed (next_of r.core e).tables t k entry
    placed_still t k entry leaves P = let live = live_still r.core e may t leaves in
        let late = P.late in record {
          memtable = P.memtable;
          ring = P.ring;
          among = placed_stays r.core e
              (record { table = t; entry = entry; memtable = P.memtable }) P.among;
          late = omega arith;
        }

  module _ (id w : ℕ) (v : View) (at : get_elem? s.views id ≡ some v)
      (mine : v.role ≡ Steps w) where
    -- what lies in a box of a running write is placed by the step, or its write runs still
    abbrev pub RunsOn : Event → View → Type 0
    RunsOn e v' = (z t k : ℕ) (n : EntryNote) → t < 16
        → Contains (r.memtables.contents (memtable_box size.seats z t k)) n
        → IsRunning s.views z n.end.0
        → IsPlacedIn (next_of r.core e).placed (next_of r.core e).tables t k n.end.0
        ⊎ IsRunning (set s.views id v') z n.end.0

    pub known : (v.size ≡ size) × IsSeat r.core r.events r.owner r.made r.boss id w v.part v.trail
    known = let k = r.each_seat id v at in (
      subst (λ ρ. SizedAs size ρ v.size) mine k.0,
      (subst (λ ρ. Knows r.core r.events r.owner r.made r.boss id ρ v.part v.trail v.returned)
          mine k.1).0,
    )

    pub part_is : v.part ≡ seat_of r.core w
    part_is = known.1.2

    -- what the seat knows of its boxes of memtables
    pub puts_now : PutsAre r.memtables.contents size.seats w v.part v.hands
    puts_now = subst (PutsAs r.memtables.contents size.seats v.part v.hands) mine
        (r.memtables.in_hands id v at)

    -- what it has read of a memtable
    pub reads_now : (q : FlushRead) → v.hands.reading ≡ Some q
        → ReadsAre size.seats r.core v.part q
    reads_now = subst (ReadsAs size.seats r.core v.part v.hands) mine (r.reads id v at)

    -- the places of its write stay until that is closed
    pub place_still : (e : Event) (found : Reading) (told : Told) → LeavesPlaces e
        → PlacesStay v.part (seat_after v.part e found told)
    place_still e found told leaves t k place = let T = core_lawful.places.tries w t in
        let is = ap (λ (p : Seat). (seat_table p t).place) (sym part_is) ∙ place in
        place_stays v.part e found told t k leaves
        (ap (λ (p : Seat). (seat_table p t).trying) part_is ∙ T.place_is_tried k is) place

    pub inside : w < length r.core.seats
    inside = let k = known.1.0 in let l = r.long in let e = r.enough in omega arith

    own_backs : (n : ℕ) (b : Returned) → get_elem? v.returned n ≡ some b
        → IsSeat r.core r.events r.owner r.made r.boss id b.number b.part b.trail × (b.number ≢ w)
    own_backs = (subst (λ ρ. Knows r.core r.events r.owner r.made r.boss id ρ v.part v.trail
        v.returned) mine (r.each_seat id v at).1).1

    abbrev pub was : (e : Event) → IsStep r.core e → CarriesWhole e → Was v w e
    was e may whole = let k = known in record {
      core = r.core;
      events = r.events;
      fit = subst IsFit (sym k.0) r.fit;
      run = subst (λ z. Past (start_of z) r.events r.core) (sym k.0) r.run;
      lawful = core_lawful;
      allowed = may;
      whole = whole;
      mine = k.1.3;
      part = k.1.2;
      rows = r.rows;
      risen = subst (λ (z : PathSize). 0 < r.core.stopped → HasRisen z.at_open r.core.stopped)
          (sym k.0) r.risen;
      tells = subst (λ (z : PathSize). TrailTells z.capacity r.core v.trail) (sym k.0)
          (r.tells id v at).own;
    }

    module _ (e : Event) (by : by_of e ≡ w) (may : IsStep r.core e) (whole : CarriesWhole e)
        (built : IsBuilt size.at_open r.core e) (spot : ActsShown r.core e)
        (spends : MayIssue v.trail e) (rows : HasRows (next_of r.core e)) (n found : ℕ)
        (filed : Option ℕ) (h : Hands)
        (now : n ≡ word_for (place_of e) (left_by e (reading r.core (place_of e))))
        (told : seat_after v.part e (reading_at (place_of e) found) (told_by filed h)
        ≡ seat_after v.part e (reading r.core (place_of e)) (told_of r.core e)) where
      abbrev x' : PathState
      x' = next_of r.core e

      abbrev v' : View
      v' = view_with (with_hands h v) e found filed

      abbrev es' : List Event
      es' = e ∷ r.events

      pub own_is : v'.part ≡ own_after r.core e
      own_is = told ∙ ap (λ p. seat_after p e (reading r.core (place_of e)) (told_of r.core e))
          (part_is ∙ ap (seat_of r.core) (sym by))

      part_now : v'.part ≡ seat_of x' w
      part_now = own_is ∙ (sym (get_or-set_same r.core.seats (by_of e)
          (own_after r.core e) fresh_seat may.seat) ∙ ap (seat_of x') by)

      pub columns_now : Columns e v.part v'.part
      columns_now = subst (λ p. Columns e v.part p) (sym own_is)
          (subst (λ p. Columns e p (own_after r.core e)) (ap (seat_of r.core) by ∙ sym part_is)
          (columns r.core core_lawful e may))

      trail_is : map event_of v'.trail ≡ steps_by w es'
      trail_is = ap (λ l. e ∷ l) known.1.3 ∙ sym (steps_own w r.events e by)

      not_mine : (j z : ℕ) (p : Seat) (t : List OwnStep) → z ≢ w
          → IsSeat r.core r.events r.owner r.made r.boss j z p t
          → IsSeat x' es' r.owner r.made r.boss j z p t
      not_mine j z p t apart k = (
        k.0,
        k.1,
        k.2 ∙ sym (other_seat r.core e z (λ e'. apart (e' ∙ by))),
        k.3 ∙ sym (steps_other z r.events e (λ e'. apart (sym e' ∙ by))),
      )

      other_is : (j z : ℕ) (p : Seat) (t : List OwnStep) → j ≢ id
          → IsSeat r.core r.events r.owner r.made r.boss j z p t
          → IsSeat x' es' r.owner r.made r.boss j z p t
      other_is j z p t n k = not_mine j z p t (λ e'. n (sym k.1 ∙ (ap r.owner e' ∙ known.1.1))) k

      others_know : (j : ℕ) (u : View) → j ≢ id
          → Knows r.core r.events r.owner r.made r.boss j u.role u.part u.trail u.returned
          → Knows x' es' r.owner r.made r.boss j u.role u.part u.trail u.returned
      others_know j u n k = by_role u.role k
        where
          by_role : (ρ : Role) → Knows r.core r.events r.owner r.made r.boss j ρ u.part u.trail
              u.returned → Knows x' es' r.owner r.made r.boss j ρ u.part u.trail u.returned
          by_role (Opener m) k = (
            k.0,
            k.1,
            λ i b e. other_is j b.number b.part b.trail n
                (k.2 i b e),
          )
          by_role Spent k = tt
          by_role (Steps z) k = (
            other_is j z u.part u.trail n k.0,
            λ i b e'. let q = k.1 i b e' in
                (other_is j b.number b.part b.trail n q.0, q.1),
          )

      -- the seat's trail tells of this step too, and those that it took in tell what they did
      own_tells : ToldTrue r.core e found filed → ViewTells size.capacity x' v'
      own_tells true_told = let old = r.tells id v at in record {
        own = tells_more size.capacity r.core core_lawful capacity_is e may
            (keeps_lawful r.core core_lawful e may whole) v.part found (told_by filed h)
            (told_of r.core e) told filed true_told v.trail old.own;
        returned = (view_still size.capacity r.core core_lawful capacity_is e may
            (keeps_lawful r.core core_lawful e may whole) v old).returned;
        free = old.free;
      }

      abbrev MemtablesThen : List (ℕ × Slot K) → Act (Slot K) → Type 0
      MemtablesThen cs a = HasMemtables size.seats x'.notes x'.placed x'.tables
          (homes_after s.homes cs a) (set s.views id v')

      -- the boxes of memtables, where none of them moves
      pub memtables_then : (cs : List (ℕ × Slot K)) (a : Act (Slot K))
          → MovesBelow (boxes size.seats) cs a → h.memtable_box ≡ v.hands.memtable_box
          → h.reading ≡ v.hands.reading → h.applied ≡ v.hands.applied
          → PutsAre r.memtables.contents size.seats w v'.part h
          → ((p : Placed) → Contains x'.placed p → IsKeptAt x'.tables p → LiesPlaced p)
          → RunsOn e v' → ((t : ℕ) → LeavesLive t e) → MemtablesThen cs a
      memtables_then cs a below held read applied puts kept runs live = memtables_stay size.seats
          r.core.notes x'.notes r.core.placed x'.placed r.core.tables x'.tables s.homes s.views
          r.memtables id v v' at (notes_stay r.core e) (homes_after s.homes cs a)
          (same_above (boxes size.seats) s.homes cs a below) held read applied
          (subst (PutsAs r.memtables.contents size.seats v'.part h) (sym mine) puts) kept
          (λ z t k n few q. ⊎_elim (λ p. inl (placed_still e may built t k n.end.0 (live t) p))
          (λ R. runs z t k n few q R) (r.memtables.settled z t k n few q))

      -- and the seat's write stays
      pub memtables_still : (cs : List (ℕ × Slot K)) (a : Act (Slot K)) → LeavesWrite e
          → SameHeld v.hands h → MovesBelow (boxes size.seats) cs a → LeavesReading v.hands e
          → MemtablesThen cs a
      memtables_still cs a leaves held below quiet = memtables_then cs a below held.0 held.3 held.2
          (puts_stay r.memtables.contents size.seats w v.part v'.part v.hands h
          (columns_now.note ∙ note_left v.part.note e leaves)
          (columns_now.claim ∙ claim_left v.part.claim e leaves)
          (place_still e (reading_at (place_of e) found) (told_by filed h) (leaves_places e leaves))
          held puts_now) (still_kept e may built (placed_left r.core e leaves))
          (λ z t k n few q R. inr (runs_still s.views id v v' at refl
          (columns_now.claim ∙ claim_left v.part.claim e leaves) z n.end.0 R))
          (leaves_live v.hands e quiet)

      -- what holders of Flush turns have read
      abbrev pub ReadsThen : Type 0
      ReadsThen = (j : ℕ) (u : View) → get_elem? (set s.views id v') j ≡ some u
          → ReadsAs size.seats x' u.part u.hands u.role

      next_lawful : IsLawfulPath x'
      next_lawful = keeps_lawful r.core core_lawful e may whole

      -- that of others stays so
      pub reads_then : ReadsAs size.seats x' v'.part h (Steps w) → ReadsThen
      reads_then own j u p = ⊎_elim
          (λ (t : (j ≡ id) × (v' ≡ u)). subst (λ (y : View).
          ReadsAs size.seats x' y.part y.hands y.role) t.1
          (subst (ReadsAs size.seats x' v'.part h) (sym mine) own))
          (λ (t : (j ≢ id) × (get_elem? s.views j ≡ some u)). other t.0 t.1 u.role refl
          (r.reads j u t.1))
          (at_set s.views id j v' u p)
        where
          -- it holds the turn of the table, so the step retires no memtable of it
          keeps_live : (d : Event) → IsStep r.core d → by_of d ≡ w → j ≢ id
              → get_elem? s.views j ≡ some u → (z : ℕ) → u.role ≡ Steps z → (q : FlushRead)
              → ReadsAre size.seats r.core u.part q → LeavesLive q.table d
          keeps_live (Put y (OldestLive t) value) a is apart there z role q R = λ same.
              let mine' = (subst (λ ρ. Knows r.core r.events r.owner r.made r.boss j ρ u.part
              u.trail u.returned) role (r.each_seat j u there).1).0 in
              apart (sym mine'.1 ∙ (ap r.owner (core_lawful.orders.one_holder_a_turn.one (Flush t)
              z w (ap (λ (p : Seat). is_some (seat_table p t.0).flush) (sym mine'.2)
              ∙ (ap (λ (k : ℕ). is_some (seat_table u.part k).flush) (sym same)
              ∙ R.held))
              (subst (λ (k : ℕ). is_some (seat_table (seat_of r.core k) t.0).flush ≡ true) is
              a.row.0)) ∙ known.1.1))
          keeps_live (Put y Synced value) a is apart there z role q R = tt
          keeps_live (Put y Stopped value) a is apart there z role q R = tt
          keeps_live d a is apart there z role q R = tt

          other : j ≢ id → get_elem? s.views j ≡ some u → (ρ : Role) → u.role ≡ ρ
              → ReadsAs size.seats r.core u.part u.hands ρ → ReadsAs size.seats x' u.part u.hands ρ
          other apart there (Opener k) is R = R
          other apart there Spent is R = R
          other apart there (Steps z) is R = λ q has. reads_on r.core core_lawful e may next_lawful
              size.seats u.part u.part q (R q has) (R q has).held
              (live_still r.core e may q.table (keeps_live e may by apart there z is q (R q has)))

      -- and that of the seat, where the step leaves it
      pub reads_still : LeavesReading v.hands e → h.reading ≡ v.hands.reading → ReadsThen
      reads_still leaves same = reads_then (λ q has. let before = sym same ∙ has in
          let R = reads_now q before in
          reads_on r.core core_lawful e may next_lawful size.seats v.part v'.part q R
          (held_stays e v.part v'.part columns_now q.table (leaves_turn e leaves q before) R.held)
          (live_still r.core e may q.table (leaves_live v.hands e leaves q.table)))
        where
          leaves_turn : (d : Event) → LeavesReading v.hands d → (q : FlushRead)
              → v.hands.reading ≡ Some q → LeavesTurn q.table d
          leaves_turn (GiveTurn by (Flush t)) leaves q has = leaves q has
          leaves_turn (GiveTurn by Sync) leaves q has = tt
          leaves_turn d leaves q has = tt

      -- with what the keeper may have kept up to a key, and what is in the boxes
      pub plays_all : ToldTrue r.core e found filed → (key : ℕ) → MayBeKept x' key
          → (put : Filed) (gone : List ℕ) → HasFiled o size x' put gone
          → (cs : List (ℕ × Slot K)) (a : Act (Slot K))
          → Boxed shows size.seats x'.notes (shown o size.at_open key put gone x') x'.claims
          x'.append (homes_after s.homes cs a) (set s.views id v') → MemtablesThen cs a → ReadsThen
          → Ruled shows o size (stepped s (word_at (place_of e)) n id cs v' a)
      plays_all true_told key may_be put gone filing cs a boxed memtables reads = record {
        core = x';
        events = es';
        owner = r.owner;
        made = r.made;
        boss = r.boss;
        run = (r.core, r.run, whole, may, refl);
        built = (built, r.built);
        fit = r.fit;
        wide = length-set s.words (word_at (place_of e)) n ∙ r.wide;
        rows = rows;
        few = few_still w r.events e by v.trail known.1.3 spends r.few;
        paid = paid_still w r.events e by v.trail known.1.3 spends r.paid;
        long = as_many_seats r.core e ∙ r.long;
        enough = r.enough;
        words = λ p seen. dite (ℕ_discrete (word_at p) (word_at (place_of e)))
            (λ is. let own = shown_own r.core core_lawful e may spot in
            let same = same_place x' next_lawful p (place_of e) seen own is in let wide = r.wide in
            let low = in_rows (place_of e) (shown_word x' (place_of e) own) in
            subst (λ q. slice_index (set s.words (word_at (place_of e)) n) (word_at q)
            ≡ word_for q (reading x' q)) (sym same)
            (get_or-set_same s.words (word_at (place_of e)) n 0 (omega arith)
            ∙ (now ∙ ap (word_for (place_of e)) (sym (left_here r.core core_lawful e may)))))
            (λ apart. get_or-set_other s.words (word_at (place_of e)) (word_at p) n 0 apart
            ∙ (r.words p (shown_was r.core core_lawful e may p seen (λ q. apart (ap word_at q)))
            ∙ ap (word_for p)
            (sym (same_elsewhere r.core core_lawful e may p (λ q. apart (ap word_at q))))));
        fresh = λ z l. let f = r.fresh z l in let below : w < r.made = known.1.0 in (
          steps_other z r.events e (λ q. absurd (omega arith)) ∙ f.0,
          other_seat r.core e z (λ q. absurd (omega arith)) ∙ f.1,
        );
        deep = homes_length s.homes cs a ∙ r.deep;
        kept_to = key;
        may_be_kept = may_be;
        filed = put;
        dropped = gone;
        filing = filing;
        unstepped = λ none_made. absurd (let q : e ∷ r.events ≡ [] = none_made in cc);
        tabled = r.tabled;
        boxed = boxed;
        memtables = memtables;
        reads = reads;
        risen = still_risen size.at_open r.core e built r.risen;
        each_seat = λ j u p. ⊎_elim
            (λ (t : (j ≡ id) × (v' ≡ u)). let P : ℕ × View
            → Type 0 = λ y. IsSized size y.1
            × Knows x' es' r.owner r.made r.boss y.0 y.1.role y.1.part y.1.trail y.1.returned in
            subst P (λ i. (sym t.0 i, t.1 i)) (
              subst (λ ρ. SizedAs size ρ v.size) (sym mine) known.0,
              subst
                  (λ ρ. Knows x' es' r.owner r.made r.boss id ρ v'.part v'.trail v'.returned)
                  (sym mine) (
                    (known.1.0, known.1.1, part_now, trail_is),
                    λ i b e'.
                        let q = own_backs i b e' in
                        (not_mine id b.number b.part b.trail q.1 q.0, q.1),
                  ),
            ))
            (λ (t : (j ≢ id) × (get_elem? s.views j ≡ some u)). let k = r.each_seat j u t.1 in
            (k.0, others_know j u t.0 k.1))
            (at_set s.views id j v' u p);
        tells = λ j u p. ⊎_elim
            (λ (t : (j ≡ id) × (v' ≡ u)). subst (λ (y : View). ViewTells size.capacity x' y) t.1
            (own_tells true_told))
            (λ (t : (j ≢ id) × (get_elem? s.views j ≡ some u)). view_still size.capacity r.core
            core_lawful capacity_is e may next_lawful u (r.tells j u t.1))
            (at_set s.views id j v' u p);
      }

      -- what was filed and dropped is what the state has still, where it gives no file
      filing_now : x'.files ≡ r.core.files → HasFiled o size x' r.filed r.dropped
      filing_now same = filing_stays r.core core_lawful size r.filed r.dropped e may same r.filing

      -- where no box of a memtable moves, and the seat's write stays
      pub plays_filed : ToldTrue r.core e found filed → (key : ℕ) → MayBeKept x' key
          → (put : Filed) (gone : List ℕ) → HasFiled o size x' put gone
          → (cs : List (ℕ × Slot K)) (a : Act (Slot K))
          → Boxed shows size.seats x'.notes (shown o size.at_open key put gone x') x'.claims
          x'.append (homes_after s.homes cs a) (set s.views id v') → LeavesWrite e
          → SameHeld v.hands h → MovesBelow (boxes size.seats) cs a → LeavesReading v.hands e
          → Ruled shows o size (stepped s (word_at (place_of e)) n id cs v' a)
      plays_filed true_told key may_be put gone filing cs a boxed leaves held below quiet =
          plays_all true_told key may_be put gone filing cs a boxed
          (memtables_still cs a leaves held below quiet) (reads_still quiet held.3)

      -- and nothing was filed or dropped
      pub plays_to : ToldTrue r.core e found filed → (key : ℕ) → MayBeKept x' key
          → (cs : List (ℕ × Slot K)) (a : Act (Slot K))
          → Boxed shows size.seats x'.notes (shown o size.at_open key r.filed r.dropped x')
          x'.claims x'.append (homes_after s.homes cs a) (set s.views id v') → LeavesWrite e
          → SameHeld v.hands h → MovesBelow (boxes size.seats) cs a → LeavesReading v.hands e
          → Ruled shows o size (stepped s (word_at (place_of e)) n id cs v' a)
      plays_to true_told key may_be cs a boxed leaves held below quiet = plays_filed true_told key
          may_be r.filed r.dropped (filing_now (files_left r.core v.hands e quiet)) cs a boxed
          leaves held below quiet

      kept_now : MayBeKept x' r.kept_to
      kept_now = kept_stays r.core core_lawful e may r.kept_to r.may_be_kept

      -- with what it may have kept before
      pub plays : ToldTrue r.core e found filed → (cs : List (ℕ × Slot K)) (a : Act (Slot K))
          → Boxed shows size.seats x'.notes (shown o size.at_open r.kept_to r.filed r.dropped x')
          x'.claims x'.append
          (homes_after s.homes cs a) (set s.views id v') → LeavesWrite e → SameHeld v.hands h
          → MovesBelow (boxes size.seats) cs a → LeavesReading v.hands e
          → Ruled shows o size (stepped s (word_at (place_of e)) n id cs v' a)
      plays true_told cs a boxed = plays_to true_told r.kept_to kept_now cs a boxed

      -- and what is in the boxes of memtables
      pub plays_with : ToldTrue r.core e found filed → x'.files ≡ r.core.files
          → (cs : List (ℕ × Slot K)) (a : Act (Slot K))
          → Boxed shows size.seats x'.notes (shown o size.at_open r.kept_to r.filed r.dropped x')
          x'.claims x'.append
          (homes_after s.homes cs a) (set s.views id v') → MemtablesThen cs a → ReadsThen
          → Ruled shows o size (stepped s (word_at (place_of e)) n id cs v' a)
      plays_with true_told same cs a boxed memtables reads = plays_all true_told r.kept_to kept_now
          r.filed r.dropped (filing_now same) cs a boxed memtables reads
