-- A seat is handed out: it has made no step.
use Rattle.std.proofs.Common.{◌≡◌, ◌≢◌, ◌⊎◌, ℕ, zero, suc, ◌<◌, eqb, cond, List, [], ◌∷◌, ◌++◌}
use Rattle.std.proofs.Common.{length, set, Some, None, is_some, refl, sym, ap, ◌∙◌, subst, ⊎_elim}
use Rattle.std.proofs.Common.{arith, eq-eqb, ne_eqb}
use Rattle.std.proofs.lemmas.Bool.{false≢true}
use Rattle.std.proofs.lemmas.Option.{none-some}
use mathlib.Core.Logic.{dite, inl, inr}
use mathlib.Core.Option.{some, some-injective, some-ne-none}
use native.Mathlib.Decide.{ℕ_discrete}
use lib.ListN.{get_elem?}
use Rattle.atomic_table.proofs.Lists.{at_set, set_else, at_longer}
use Rattle.atomic_table.specs.Table.{State, Splits}
use Rattle.path_core.specs.declared.event.Event.{Event}
use Rattle.path_core.specs.declared.seat.Seat.{Seat}
use Rattle.path_core.specs.declared.state.PathState.{PathState}
use Rattle.path_rule.specs.declared.lasting.Beside.{Beside}
use Rattle.path_rule.specs.declared.lasting.Lasting.{Lasting}
use Rattle.path_rule.specs.declared.slot.Slot.{Slot}
use Rattle.path_rule.specs.declared.view.OwnStep.{OwnStep}
use Rattle.path_rule.specs.declared.view.PathSize.{PathSize}
use Rattle.path_rule.specs.declared.view.Role.{Role}
use Rattle.path_rule.specs.declared.view.Role.TheVariants.{Opener, Steps, Spent}
use Rattle.path_rule.specs.declared.view.View.{View}
use Rattle.path_rule.specs.Boxed.{HandsAs}
use Rattle.path_rule.specs.Boxes.{HoldsAs, HoldsBox}
use Rattle.path_rule.specs.Lasts.{shown}
use Rattle.path_rule.specs.Memtables.{HasInHand, PutNotes, PutsAs}
use Rattle.path_rule.specs.Reads.{ReadsAs}
use Rattle.path_rule.specs.Rule.{IsSeat, Knows, SizedAs, IsSized, Ruled, new_seat}
use Rattle.path_rule.specs.Sharing.{one_on, handing, handed_by, handed}
use Rattle.path_rule.specs.Trails.{ViewTells}
use Rattle.path_rule.proofs.boxes.MemtablesStay.{memtables_seen, none_in_hand}
use Rattle.path_rule.proofs.boxes.SameBoxes.{reboxed}
use Rattle.path_rule.proofs.log.TrailsTell.{none_tells}

-- a function that has another number at one place
abbrev pub with_owner : (ℕ → ℕ) → ℕ → ℕ → ℕ → ℕ
with_owner f w j z = cond (eqb z w) j (f z)

pub owner_here : (f : ℕ → ℕ) (w j : ℕ) → with_owner f w j w ≡ j
owner_here f w j = ap (λ b. cond b j (f w)) (eq-eqb w w refl)

pub owner_else : (f : ℕ → ℕ) (w j z : ℕ) → z ≢ w → with_owner f w j z ≡ f z
owner_else f w j z n = ap (λ b. cond b j (f z)) (ne_eqb z w n)

pub at_end : {A : Type 0} (l : List A) (a b : A) (j : ℕ) → get_elem? (l ++ a ∷ []) j ≡ some b
    → (get_elem? l j ≡ some b) ⊎ ((a ≡ b) × (j ≡ length l))
at_end [] a b zero e = inr (some-injective a b e, refl)
at_end [] a b (suc j) e = absurd (some-ne-none b (sym e))
at_end (x ∷ xs) a b zero e = inl e
at_end (x ∷ xs) a b (suc j) e = ⊎_elim (λ h. inl h) (λ h. inr (h.0, ap suc h.1)) (at_end xs a b j e)

module _ {K : Type 0} (shows : K → Lasting) (o : Beside) (size : PathSize) (id : ℕ) (v : View)
    (k : ℕ)
    (role : v.role ≡ Opener k) where
  module _ (s : State (Slot K) View) (r : Ruled shows o size s)
      (at : get_elem? s.views id ≡ some v) where
    mine : Knows r.core r.events r.owner r.made r.boss id (Opener k) v.part v.trail v.returned
    mine = subst (λ ρ. Knows r.core r.events r.owner r.made r.boss id ρ v.part v.trail v.returned)
        role (r.each_seat id v at).1

    sized : v.size ≡ size
    sized = subst (λ ρ. SizedAs size ρ v.size) role (r.each_seat id v at).0

    abbrev Hand : View → Type 0
    Hand y = HandsAs r.boxed.contents (shown o size.at_open r.kept_to r.filed r.dropped r.core)
        r.boxed.pending
        r.boxed.progress
        r.core.append
        size.seats y.part y.hands y.role

    new_hands : (w : ℕ) (z : PathSize) → Hand (new_seat w z)
    new_hands w z = record {
      own = λ g e. absurd (let q : None ≡ Some g = e in cc);
      desk = λ e. absurd (false≢true e);
      other = λ b e. absurd (let q : None ≡ Some b = e in cc);
      swept = λ l. absurd (omega arith);
    }

    abbrev Put : View → Type 0
    Put y = PutsAs r.memtables.contents size.seats y.part y.hands y.role

    empty : v.hands.memtable_box ≡ None
    empty = subst (PutsAs r.memtables.contents size.seats v.part v.hands) role
        (r.memtables.in_hands id v at)

    unread : v.hands.reading ≡ None
    unread = subst (ReadsAs size.seats r.core v.part v.hands) role (r.reads id v at)

    abbrev Read : View → Type 0
    Read y = ReadsAs size.seats r.core y.part y.hands y.role

    new_reads : (w : ℕ) (z : PathSize) → Read (new_seat w z)
    new_reads w z = λ q e. absurd (none-some q e)

    no_step : (z : ℕ) → v.role ≡ Steps z → ⊥
    no_step z e = let q : Opener k ≡ Steps z = sym role ∙ e in cc

    new_puts : (w : ℕ) (z : PathSize) → Put (new_seat w z)
    new_puts w z = record {
      in_hand = λ b e. absurd (none-some b e);
      rests = λ e. refl;
      tables = λ a h. absurd (let l = h.1 in omega arith);
      applied = λ a q h. absurd (let l = h.1 in omega arith);
      running = λ q t m e. absurd (none-some q e);
      placed = λ a q h. absurd (let l = h.1 in omega arith);
      reads = λ q b e. absurd (none-some q e);
      emptied = λ q y j e. absurd (none-some q e);
    }

    abbrev Noted : View → Type 0
    Noted y = PutNotes r.core.notes y.hands

    new_noted : (w : ℕ) (z : PathSize) → Noted (new_seat w z)
    new_noted w z = λ a h. absurd (let l = h.1 in omega arith)

    handed_out : k < size.seats → Ruled shows o size
        (record {
          words = s.words;
          homes = s.homes;
          views = set s.views id (handing v)
              ++ handed v ∷ [];
        })
    handed_out more = let is : k ≡ r.made = mine.0 in
        let new : ℕ = length (set s.views id (handing v)) in
        let owner' : ℕ → ℕ = with_owner r.owner k new in let free = r.fresh k (omega arith) in
        record {
          core = r.core;
          events = r.events;
          owner = owner';
          made = suc k;
          boss = r.boss;
          run = r.run;
          built = r.built;
          fit = r.fit;
          wide = r.wide;
          rows = r.rows;
          few = r.few;
          paid = r.paid;
          long = r.long;
          enough = omega arith;
          words = r.words;
          deep = r.deep;
          kept_to = r.kept_to;
          may_be_kept = r.may_be_kept;
          risen = r.risen;
          filed = r.filed;
          dropped = r.dropped;
          filing = r.filing;
          unstepped = r.unstepped;
          tabled = r.tabled;
          boxed = reboxed shows size.seats r.core.notes
              (shown o size.at_open r.kept_to r.filed r.dropped r.core) r.core.claims r.core.append
              s.homes s.views (set s.views id (handing v) ++ handed v ∷ []) r.boxed
              (λ b free j u e h. dite (ℕ_discrete j id)
              (λ same. let u_is : u ≡ v = some-injective u v
              (sym e ∙ (ap (get_elem? s.views) same ∙ at)) in
              subst (HoldsAs v.part.append (is_some v.part.sync) v.hands.box_taken b) role
              (subst (λ z. HoldsBox z b) u_is h))
              (λ apart. free j u (at_longer (set s.views id (handing v)) (handed v ∷ []) j u
              (set_else s.views id j (handing v) apart ∙ e)) h))
              (λ j u e. ⊎_elim
              (λ old. ⊎_elim
              (λ (t : (j ≡ id) × (handing v ≡ u)). subst Hand t.1
              (subst (HandsAs r.boxed.contents
              (shown o size.at_open r.kept_to r.filed r.dropped r.core) r.boxed.pending
              r.boxed.progress r.core.append size.seats
              v.part
              v.hands) (sym (ap one_on role)) tt))
              (λ (t : (j ≢ id) × (get_elem? s.views j ≡ some u)). r.boxed.in_hands j u t.1)
              (at_set s.views id j (handing v) u old))
              (λ (t : (handed v ≡ u) × (j ≡ new)). subst Hand t.0
              (subst (λ ρ. Hand (handed_by ρ v.size)) (sym role) (new_hands k v.size)))
              (at_end (set s.views id (handing v)) (handed v) u j e));
          memtables = memtables_seen size.seats r.core.notes r.core.placed r.core.tables s.homes
              s.views (set s.views id (handing v) ++ handed v ∷ []) r.memtables
              (λ b free j u e h. dite (ℕ_discrete j id)
              (λ same. none_in_hand v.hands b empty unread
              (subst (λ (y : View). HasInHand y.hands b)
              (some-injective u v (sym e ∙ (ap (get_elem? s.views) same ∙ at))) h))
              (λ apart. free j u (at_longer (set s.views id (handing v)) (handed v ∷ []) j u
              (set_else s.views id j (handing v) apart ∙ e)) h))
              (λ j u e. ⊎_elim
              (λ old. ⊎_elim
              (λ (t : (j ≡ id) × (handing v ≡ u)). subst Put t.1
              (subst (PutsAs r.memtables.contents size.seats v.part v.hands)
              (sym (ap one_on role)) empty))
              (λ (t : (j ≢ id) × (get_elem? s.views j ≡ some u)). r.memtables.in_hands j u t.1)
              (at_set s.views id j (handing v) u old))
              (λ (t : (handed v ≡ u) × (j ≡ new)). subst Put t.0
              (subst (λ ρ. Put (handed_by ρ v.size)) (sym role) (new_puts k v.size)))
              (at_end (set s.views id (handing v)) (handed v) u j e))
              (λ z key R. let other : R.id ≢ id = (λ same. no_step z
              (ap (λ (y : View). y.role) (some-injective v R.view
              (sym at ∙ (ap (get_elem? s.views) (sym same) ∙ R.there))) ∙ R.role)) in record {
                id = R.id;
                view = R.view;
                range = R.range;
                there = at_longer (set s.views id (handing v)) (handed v ∷ []) R.id R.view
                    (set_else s.views id R.id (handing v) other ∙ R.there);
                role = R.role;
                claim = R.claim;
                ends = R.ends;
              })
              (λ j u e. ⊎_elim
              (λ old. ⊎_elim
              (λ (t : (j ≡ id) × (handing v ≡ u)). subst Noted t.1 (r.memtables.noted id v at))
              (λ (t : (j ≢ id) × (get_elem? s.views j ≡ some u)). r.memtables.noted j u t.1)
              (at_set s.views id j (handing v) u old))
              (λ (t : (handed v ≡ u) × (j ≡ new)). subst Noted t.0
              (subst (λ ρ. Noted (handed_by ρ v.size)) (sym role) (new_noted k v.size)))
              (at_end (set s.views id (handing v)) (handed v) u j e));
          reads = λ j u e. ⊎_elim
              (λ old. ⊎_elim
              (λ (t : (j ≡ id) × (handing v ≡ u)). subst Read t.1
              (subst (ReadsAs size.seats r.core v.part v.hands) (sym (ap one_on role)) unread))
              (λ (t : (j ≢ id) × (get_elem? s.views j ≡ some u)). r.reads j u t.1)
              (at_set s.views id j (handing v) u old))
              (λ (t : (handed v ≡ u) × (j ≡ new)). subst Read t.0
              (subst (λ ρ. Read (handed_by ρ v.size)) (sym role) (new_reads k v.size)))
              (at_end (set s.views id (handing v)) (handed v) u j e);
          fresh = λ z l. r.fresh z (omega arith);
          each_seat = λ j u e. ⊎_elim
              (λ old. ⊎_elim
              (λ (t : (j ≡ id) × (handing v ≡ u)). let P : ℕ × View
              → Type 0 = λ y. IsSized size y.1
              × Knows r.core r.events owner' (suc k) r.boss y.0 y.1.role y.1.part y.1.trail
              y.1.returned in
              subst P (λ i. (sym t.0 i, t.1 i))
              (subst (λ ρ. SizedAs size ρ v.size
              × Knows r.core r.events owner' (suc k) r.boss id ρ v.part v.trail v.returned)
              (sym (ap one_on role)) (
                sized,
                (
                  refl,
                  mine.1,
                  λ n b e'.
                      moved r.owner k new r.made is id b.number b.part b.trail r.core r.events
                      r.boss
                      (mine.2 n b e'),
                ),
              )))
              (λ (t : (j ≢ id) × (get_elem? s.views j ≡ some u)). let q = r.each_seat j u t.1 in
              (q.0, knows_still j u t.0 is q.1))
              (at_set s.views id j (handing v) u old))
              (λ (t : (handed v ≡ u) × (j ≡ new)). let P : ℕ × View
              → Type 0 = λ y. IsSized size y.1
              × Knows r.core r.events owner' (suc k) r.boss y.0 y.1.role y.1.part y.1.trail
              y.1.returned in
              subst P (λ i. (sym t.1 i, t.0 i))
              (subst (λ (q : Role × PathSize). IsSized size (handed_by q.0 q.1)
              × Knows r.core r.events owner' (suc k) r.boss new (handed_by q.0 q.1).role
              (handed_by q.0 q.1).part (handed_by q.0 q.1).trail (handed_by q.0 q.1).returned)
              (λ i. (sym role i, sym sized i)) (
                refl,
                (
                  (omega arith, owner_here r.owner k new, sym free.1, sym free.0),
                  λ n b e'.
                      absurd (some-ne-none b (sym e')),
                ),
              )))
              (at_end (set s.views id (handing v)) (handed v) u j e);
          tells = λ j u e. ⊎_elim
              (λ old. ⊎_elim
              (λ (t : (j ≡ id) × (handing v ≡ u)). subst (λ (y : View).
              ViewTells size.capacity r.core y) t.1 (let V = r.tells id v at in
              record { own = V.own; returned = V.returned; free = V.free }))
              (λ (t : (j ≢ id) × (get_elem? s.views j ≡ some u)). r.tells j u t.1)
              (at_set s.views id j (handing v) u old))
              (λ (t : (handed v ≡ u) × (j ≡ new)). subst (λ (y : View).
              ViewTells size.capacity r.core y) t.0 (subst (λ ρ.
              ViewTells size.capacity r.core (handed_by ρ v.size)) (sym role)
              (none_tells size.capacity r.core (new_seat k v.size) refl refl)))
              (at_end (set s.views id (handing v)) (handed v) u j e);
        }
      where
        moved : (owner : ℕ → ℕ) (k new made : ℕ) → k ≡ made
            → (j z : ℕ) (p : Seat) (t : List OwnStep) (c : PathState) (es : List Event) (boss : ℕ)
            → IsSeat c es owner made boss j z p t
            → IsSeat c es (with_owner owner k new) (suc k) boss j z p t
        moved owner k new made is j z p t c es boss q = let below : z < made = q.0 in
            (omega arith, owner_else owner k new z (λ e. absurd (omega arith)) ∙ q.1, q.2, q.3)

        knows_still : (j : ℕ) (u : View) → j ≢ id → k ≡ r.made
            → Knows r.core r.events r.owner r.made r.boss j u.role u.part u.trail u.returned
            → Knows r.core r.events (with_owner r.owner k (length (set s.views id (handing v))))
            (suc k) r.boss j u.role u.part u.trail u.returned
        knows_still j u n is q = by_role u.role q
          where
            by_role : (ρ : Role) → Knows r.core r.events r.owner r.made r.boss j ρ u.part u.trail
                u.returned → Knows r.core r.events
                (with_owner r.owner k (length (set s.views id (handing v))))
                (suc k) r.boss j ρ u.part u.trail u.returned
            by_role (Opener m) q = absurd (n (q.1 ∙ sym mine.1))
            by_role Spent q = tt
            by_role (Steps z) q = (
              moved r.owner k (length (set s.views id (handing v))) r.made is j z u.part u.trail
                  r.core r.events r.boss q.0,
              λ i b e. let h = q.1 i b e in (
                moved r.owner k
                    (length (set s.views id (handing v))) r.made is j b.number b.part b.trail r.core
                    r.events r.boss h.0,
                h.1,
              ),
            )

  pub deals : k < size.seats → Splits (Ruled shows o size) id v (handing v) (handed v)
  deals more s r at = handed_out s r at more
