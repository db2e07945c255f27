-- A seat takes in another: it keeps its own number, and knows what the other knew.
use Rattle.std.proofs.Common.{◌≡◌, ◌≢◌, ℕ, Option, Some, None, List, ◌++◌, length, set, is_some}
use Rattle.std.proofs.Common.{refl, sym, ap, ◌∙◌, subst, ⊎_elim, arith}
use Rattle.std.proofs.lemmas.Bool.{false≢true}
use mathlib.Core.Logic.{dite}
use mathlib.Core.Option.{some, some-injective}
use native.Mathlib.Decide.{ℕ_discrete}
use lib.ListN.{get_elem?}
use Rattle.atomic_table.proofs.Lists.{at_set, set_here, set_else}
use Rattle.atomic_table.specs.Table.{State, Joins}
use Rattle.path_core.specs.declared.seat.FlushTurn.{FlushTurn}
use Rattle.path_core.specs.declared.seat.Range.{Range}
use Rattle.path_core.specs.declared.seat.Seat.{Seat}
use Rattle.path_core.specs.Parts.{HoldsNoTurn, seat_of, seat_table}
use Rattle.path_core.proofs.lists.Options.{none_is_not_some}
use Rattle.path_core.proofs.log.OwnNotes.{no_note}
use Rattle.path_rule.specs.declared.lasting.Beside.{Beside}
use Rattle.path_rule.specs.declared.lasting.Lasting.{Lasting}
use Rattle.path_rule.specs.declared.slot.Slot.{Slot}
use Rattle.path_rule.specs.declared.view.FlushRead.{FlushRead}
use Rattle.path_rule.specs.declared.view.OwnStep.{OwnStep}
use Rattle.path_rule.specs.declared.view.PathSize.{PathSize}
use Rattle.path_rule.specs.declared.view.Returned.{Returned}
use Rattle.path_rule.specs.declared.view.Role.{Role}
use Rattle.path_rule.specs.declared.view.Role.TheVariants.{Opener, Steps, Spent}
use Rattle.path_rule.specs.declared.view.View.{View}
use Rattle.path_rule.specs.Boxed.{HandsAs}
use Rattle.path_rule.specs.Boxes.{HoldsBox}
use Rattle.path_rule.specs.Lasts.{shown}
use Rattle.path_rule.specs.Memtables.{HasInHand, PutNotes, PutsAs}
use Rattle.path_rule.specs.Reads.{ReadsAs}
use Rattle.path_rule.specs.Rule.{IsSeat, Knows, IsSized, Ruled}
use Rattle.path_rule.specs.Sharing.{spent, told_by, taking}
use Rattle.path_rule.specs.Trails.{TrailTells, ViewTells}
use Rattle.path_rule.proofs.boxes.AtHome.{inside_list}
use Rattle.path_rule.proofs.boxes.MemtablesStay.{memtables_seen, none_in_hand, runs_else}
use Rattle.path_rule.proofs.boxes.MemtablesStay.{runs_still}
use Rattle.path_rule.proofs.boxes.SameBoxes.{reboxed, holds_none}
use Rattle.path_rule.proofs.log.TrailsTell.{none_tells}
use Rattle.path_rule.proofs.moves.Moving.{core_lawful, known, puts_now, reads_now}
use Rattle.path_rule.proofs.seats.Untaken.{untaken}
use Rattle.path_rule.proofs.seats.Dealing.{at_end, with_owner, owner_here, owner_else}

module _ {K : Type 0} (shows : K → Lasting) (o : Beside) (size : PathSize) (id : ℕ) (v : View)
    (q : ℕ)
    (role : v.role ≡ Steps q) (other w : ℕ) (u : View) (seat_is : u.role ≡ Steps w)
    (outside : u.part.append ≡ None) (free : u.part.sync ≡ None) (ended : u.part.write ≡ None)
    (unheld : (t : ℕ) → (seat_table u.part t).flush ≡ None) where
  merged : (s : State (Slot K) View) (r : Ruled shows o size s) → get_elem? s.views id ≡ some v
      → other ≢ id → get_elem? s.views other ≡ some u
      → Ruled shows o size (record {
        words = s.words;
        homes = s.homes;
        views = set
            (set s.views id (taking v u)) other spent;
      })
  merged s r at apart there =
      let bare : (b : ℕ) → ¬ HoldsBox u b =
      holds_none u outside free (untaken shows o size s r other w u there seat_is free) in let mine
      =
      subst (λ ρ. Knows r.core r.events r.owner r.made r.boss id ρ v.part v.trail v.returned) role
      (r.each_seat id v at).1 in
      let theirs : IsSeat r.core r.events r.owner r.made r.boss other w u.part u.trail =
      (subst (λ ρ. Knows r.core r.events r.owner r.made r.boss other ρ u.part u.trail
      u.returned) seat_is (r.each_seat other u there).1).0 in
      let owner' : ℕ → ℕ = with_owner r.owner w id in
      let new : Returned = record { number = w; part = u.part; trail = u.trail } in
      let still : (j z : ℕ) (p : Seat) (t : List OwnStep) → j ≢ other
      → IsSeat r.core r.events r.owner r.made r.boss j z p t
      → IsSeat r.core r.events owner' r.made r.boss j z p t =
      λ j z p t n k. (
        k.0,
        owner_else r.owner w id z (λ e. n (sym k.1 ∙ (ap r.owner e ∙ theirs.1)))
            ∙ k.1,
        k.2,
        k.3,
      ) in record {
        core = r.core;
        events = r.events;
        owner = owner';
        made = r.made;
        boss = r.boss;
        run = r.run;
        built = r.built;
        fit = r.fit;
        wide = r.wide;
        rows = r.rows;
        few = r.few;
        paid = r.paid;
        long = r.long;
        enough = r.enough;
        words = r.words;
        deep = r.deep;
        kept_to = r.kept_to;
        may_be_kept = r.may_be_kept;
        risen = r.risen;
        filed = r.filed;
        dropped = r.dropped;
        filing = r.filing;
        unstepped = r.unstepped;
        tabled = r.tabled;
        boxed = reboxed shows size.seats r.core.notes
            (shown o size.at_open r.kept_to r.filed r.dropped r.core) r.core.claims r.core.append
            s.homes s.views (set (set s.views id (taking v u)) other spent) r.boxed
            (λ b at_home j x e h. dite (ℕ_discrete j other)
            (λ same. bare b (subst (λ z. HoldsBox z b)
            (some-injective x u (sym e ∙ (ap (get_elem? s.views) same ∙ there))) h))
            (λ far. dite (ℕ_discrete j id)
            (λ same. at_home id (taking v u) (set_else (set s.views id (taking v u)) other id spent
            (λ e'. apart (sym e')) ∙ set_here s.views id (taking v u)
            (inside_list s.views id v at))
            (subst (λ z. HoldsBox z b) (some-injective x v
            (sym e ∙ (ap (get_elem? s.views) same ∙ at))) h))
            (λ apart'. at_home j x (set_else (set s.views id (taking v u)) other j spent far
            ∙ (set_else s.views id j (taking v u) apart' ∙ e)) h)))
            (λ j x e. let Hand : View → Type 0 = λ y. HandsAs r.boxed.contents
            (shown o size.at_open r.kept_to r.filed r.dropped r.core) r.boxed.pending
            r.boxed.progress r.core.append size.seats
            y.part
            y.hands y.role in ⊎_elim
            (λ (t : (j ≡ other) × (spent ≡ x)). subst Hand t.1 tt)
            (λ (t : (j ≢ other) × (get_elem? (set s.views id (taking v u)) j ≡ some x)). ⊎_elim
            (λ (k : (j ≡ id) × (taking v u ≡ x)). subst Hand k.1 (r.boxed.in_hands id v at))
            (λ (k : (j ≢ id) × (get_elem? s.views j ≡ some x)). r.boxed.in_hands j x k.1)
            (at_set s.views id j (taking v u) x t.1))
            (at_set (set s.views id (taking v u)) other j spent x e));
        memtables = memtables_seen size.seats r.core.notes r.core.placed r.core.tables s.homes
            s.views (set (set s.views id (taking v u)) other spent) r.memtables
            (λ b at_home j x e h. dite (ℕ_discrete j other)
            (λ same. none_in_hand u.hands b (rests s r there) (reads_none s r there)
            (subst (λ (y : View). HasInHand y.hands b)
            (some-injective x u (sym e ∙ (ap (get_elem? s.views) same ∙ there))) h))
            (λ far. dite (ℕ_discrete j id)
            (λ same. at_home id (taking v u) (set_else (set s.views id (taking v u)) other id spent
            (λ e'. apart (sym e')) ∙ set_here s.views id (taking v u)
            (inside_list s.views id v at)) (subst (λ (y : View). HasInHand y.hands b)
            (some-injective x v (sym e ∙ (ap (get_elem? s.views) same ∙ at))) h))
            (λ apart'. at_home j x (set_else (set s.views id (taking v u)) other j spent far
            ∙ (set_else s.views id j (taking v u) apart' ∙ e)) h)))
            (λ j x e. let Put : View → Type 0 = λ y. PutsAs r.memtables.contents size.seats y.part
            y.hands y.role in ⊎_elim
            (λ (t : (j ≡ other) × (spent ≡ x)). subst Put t.1 refl)
            (λ (t : (j ≢ other) × (get_elem? (set s.views id (taking v u)) j ≡ some x)). ⊎_elim
            (λ (k : (j ≡ id) × (taking v u ≡ x)). subst Put k.1 (r.memtables.in_hands id v at))
            (λ (k : (j ≢ id) × (get_elem? s.views j ≡ some x)). r.memtables.in_hands j x k.1)
            (at_set s.views id j (taking v u) x t.1))
            (at_set (set s.views id (taking v u)) other j spent x e))
            (λ z key R. runs_else (set s.views id (taking v u)) other u spent
            (set_else s.views id other (taking v u) apart ∙ there) (idle s r there) z key
            (runs_still s.views id v (taking v u) at refl refl z key R))
            (λ j x e. let Noted : View → Type 0 = λ y. PutNotes r.core.notes y.hands in ⊎_elim
            (λ (t : (j ≡ other) × (spent ≡ x)). subst Noted t.1
            (λ a h. absurd (let l = h.1 in omega arith)))
            (λ (t : (j ≢ other) × (get_elem? (set s.views id (taking v u)) j ≡ some x)). ⊎_elim
            (λ (k : (j ≡ id) × (taking v u ≡ x)). subst Noted k.1 (r.memtables.noted id v at))
            (λ (k : (j ≢ id) × (get_elem? s.views j ≡ some x)). r.memtables.noted j x k.1)
            (at_set s.views id j (taking v u) x t.1))
            (at_set (set s.views id (taking v u)) other j spent x e));
        reads = λ j x e. let Read : View → Type 0 = λ y. ReadsAs size.seats r.core y.part y.hands
            y.role in ⊎_elim
            (λ (t : (j ≡ other) × (spent ≡ x)). subst Read t.1 refl)
            (λ (t : (j ≢ other) × (get_elem? (set s.views id (taking v u)) j ≡ some x)). ⊎_elim
            (λ (k : (j ≡ id) × (taking v u ≡ x)). subst Read k.1 (r.reads id v at))
            (λ (k : (j ≢ id) × (get_elem? s.views j ≡ some x)). r.reads j x k.1)
            (at_set s.views id j (taking v u) x t.1))
            (at_set (set s.views id (taking v u)) other j spent x e);
        fresh = r.fresh;
        each_seat = λ j x e. ⊎_elim
            (λ (t : (j ≡ other) × (spent ≡ x)). let P : View
            → Type 0 = λ y. IsSized size y
            × Knows r.core r.events owner' r.made r.boss j y.role y.part y.trail y.returned in
            subst P t.1 (tt, tt))
            (λ (t : (j ≢ other) × (get_elem? (set s.views id (taking v u)) j ≡ some x)). ⊎_elim
            (λ (k : (j ≡ id) × (taking v u ≡ x)). let P : ℕ × View
            → Type 0 = λ y. IsSized size y.1
            × Knows r.core r.events owner' r.made r.boss y.0 y.1.role y.1.part y.1.trail
            y.1.returned in
            subst P (λ i. (sym k.0 i, k.1 i)) (
              (r.each_seat id v at).0,
              subst (λ (y : Role × Role). Knows r.core r.events owner' r.made r.boss id y.0 v.part
                  v.trail (v.returned ++ told_by y.1 u.part u.trail))
                  (λ i. (sym role i, sym seat_is i)) (
                    still id q v.part v.trail (λ e'. apart (sym e')) mine.0,
                    λ n b e'. ⊎_elim
                        (λ old. let h = mine.1 n b old in
                        (still id b.number b.part b.trail (λ e''. apart (sym e'')) h.0, h.1))
                        (λ (l : (new ≡ b) × (n ≡ length v.returned)). subst
                        (λ (c : Returned). IsSeat r.core r.events owner' r.made r.boss id c.number
                        c.part c.trail × (c.number ≢ q)) l.0 (
                          (theirs.0, owner_here r.owner w id, theirs.2, theirs.3),
                          λ e''. apart
                              (sym theirs.1 ∙ (ap r.owner e'' ∙ mine.0.1)),
                        ))
                        (at_end v.returned new b n e'),
                  ),
            ))
            (λ (k : (j ≢ id) × (get_elem? s.views j ≡ some x)). let old = r.each_seat j x k.1 in
            (old.0, rest_still s r j x t.0 (still j) old.1))
            (at_set s.views id j (taking v u) x t.1))
            (at_set (set s.views id (taking v u)) other j spent x e);
        tells = λ j x e. ⊎_elim
            (λ (t : (j ≡ other) × (spent ≡ x)). subst (λ (y : View).
            ViewTells size.capacity r.core y) t.1
            (none_tells size.capacity r.core spent refl refl))
            (λ (t : (j ≢ other) × (get_elem? (set s.views id (taking v u)) j ≡ some x)). ⊎_elim
            (λ (k : (j ≡ id) × (taking v u ≡ x)). subst (λ (y : View).
            ViewTells size.capacity r.core y) k.1
            (taken_tells s r (r.tells id v at) (r.tells other u there)))
            (λ (k : (j ≢ id) × (get_elem? s.views j ≡ some x)). r.tells j x k.1)
            (at_set s.views id j (taking v u) x t.1))
            (at_set (set s.views id (taking v u)) other j spent x e);
      }
    where
      -- it runs no write, so it has no box of a memtable in hand
      rests : (s : State (Slot K) View) (r : Ruled shows o size s)
          → get_elem? s.views other ≡ some u → u.hands.memtable_box ≡ None
      rests s r there = let law = core_lawful shows o size s r in
          let is = (known shows o size s r other w u there seat_is).1.2 in
          let out = ap (λ (p : Seat). p.write) (sym is) ∙ ended in
          (puts_now shows o size s r other w u there seat_is).rests
          (ap (λ (p : Seat). p.note) is ∙ no_note r.core law.orders w
          (unclaimed s r out (seat_of r.core w).claim refl))
        where
          unclaimed : (s : State (Slot K) View) (r : Ruled shows o size s)
              → (seat_of r.core w).write ≡ None → (c : Option Range)
              → (seat_of r.core w).claim ≡ c → (seat_of r.core w).claim ≡ None
          unclaimed s r out None e = e
          unclaimed s r out (Some q) e = absurd (none_is_not_some out
              (((core_lawful shows o size s r).orders.orders_nest w).claim q e))

      -- it holds no Flush turn, so it reads none
      reads_none : (s : State (Slot K) View) (r : Ruled shows o size s)
          → get_elem? s.views other ≡ some u → u.hands.reading ≡ None
      reads_none s r there = by u.hands.reading refl
        where
          by : (k : Option FlushRead) → u.hands.reading ≡ k → u.hands.reading ≡ None
          by None e = e
          by (Some k) e = let R = reads_now shows o size s r other w u there seat_is k e in
              absurd (false≢true (ap (λ (f : Option FlushTurn). is_some f) (sym (unheld k.table))
              ∙ R.held))

      -- so it has claimed nothing
      idle : (s : State (Slot K) View) (r : Ruled shows o size s)
          → get_elem? s.views other ≡ some u → u.part.claim ≡ None
      idle s r there = let is = (known shows o size s r other w u there seat_is).1.2 in
          by (seat_of r.core w).claim refl is
        where
          by : (c : Option Range) → (seat_of r.core w).claim ≡ c → u.part ≡ seat_of r.core w
              → u.part.claim ≡ None
          by None e is = ap (λ (p : Seat). p.claim) is ∙ e
          by (Some q) e is = absurd (none_is_not_some (ap (λ (p : Seat). p.write) (sym is) ∙ ended)
              (((core_lawful shows o size s r).orders.orders_nest w).claim q e))

      taken_tells : (s : State (Slot K) View) (r : Ruled shows o size s)
          → ViewTells size.capacity r.core v → ViewTells size.capacity r.core u
          → ViewTells size.capacity r.core (taking v u)
      taken_tells s r V U = record {
        own = V.own;
        returned = λ n b h. subst (λ (ρ : Role). get_elem? (v.returned
            ++ told_by ρ u.part u.trail) n ≡ some b → TrailTells size.capacity r.core b.trail)
            (sym seat_is) (λ q. ⊎_elim (λ old. V.returned n b old)
            (λ (l : (record { number = w; part = u.part; trail = u.trail } ≡ b)
            × (n ≡ length v.returned)). subst (λ (c : Returned).
            TrailTells size.capacity r.core c.trail) l.0 U.own)
            (at_end v.returned (record { number = w; part = u.part; trail = u.trail }) b n q)) h;
        free = λ n b h. subst (λ (ρ : Role). get_elem? (v.returned
            ++ told_by ρ u.part u.trail) n ≡ some b → HoldsNoTurn b.part) (sym seat_is)
            (λ q. ⊎_elim (λ old. V.free n b old)
            (λ (l : (record { number = w; part = u.part; trail = u.trail } ≡ b)
            × (n ≡ length v.returned)). subst (λ (c : Returned). HoldsNoTurn c.part) l.0
            (record { sync = free; flush = unheld }))
            (at_end v.returned (record { number = w; part = u.part; trail = u.trail }) b n q)) h;
      }

      rest_still : (s : State (Slot K) View) (r : Ruled shows o size s) (j : ℕ) (x : View)
          → j ≢ other
          → ((z : ℕ) (p : Seat) (t : List OwnStep) → j ≢ other
          → IsSeat r.core r.events r.owner r.made r.boss j z p t
          → IsSeat r.core r.events (with_owner r.owner w id) r.made r.boss j z p t)
          → Knows r.core r.events r.owner r.made r.boss j x.role x.part x.trail x.returned
          → Knows r.core r.events (with_owner r.owner w id) r.made r.boss j x.role x.part
          x.trail x.returned
      rest_still s r j x m still k = by_role x.role k
        where
          by_role : (ρ : Role) → Knows r.core r.events r.owner r.made r.boss j ρ x.part x.trail
              x.returned → Knows r.core r.events
              (with_owner r.owner w id) r.made r.boss j ρ x.part x.trail x.returned
          by_role (Opener z) k = (k.0, k.1, λ i b e. still b.number b.part b.trail m (k.2 i b e))
          by_role Spent k = tt
          by_role (Steps z) k = (
            still z x.part x.trail m k.0,
            λ i b e. let h = k.1 i b e in
                (still b.number b.part b.trail m h.0, h.1),
          )

  pub merges : Joins (Ruled shows o size) id v other u (taking v u) spent
  merges s r at apart there = merged s r at apart
      (⊎_elim (λ t. absurd (apart t.0)) (λ t. t.1) (at_set s.views id other (taking v u) u there))
