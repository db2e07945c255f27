-- The boxes of memtables under a step that moves none of them, and under other views.
use Rattle.std.proofs.Common.{
  ◌≡◌,
  ◌≢◌,
  ℕ,
  ◌<◌,
  ◌≤◌,
  List,
  set,
  Some,
  None,
  sym,
  ap,
  ◌∙◌,
  subst,
  ⊎_elim,
}
use Rattle.std.specs.List.{Contains}
use Rattle.std.specs.Prelude.{◌⊎◌}
use mathlib.Core.Logic.{dite, inl, inr}
use mathlib.Core.Option.{some, none, some-injective}
use mathlib.Core.Option as maybe
use native.Mathlib.Decide.{ℕ_discrete}
use lib.ListN.{get_elem?}
use Rattle.atomic_table.proofs.Lists.{at_set, set_here, set_else}
use Rattle.path_core.specs.declared.note.EntryNote.{EntryNote}
use Rattle.path_core.specs.declared.seat.Range.{Range}
use Rattle.path_core.specs.declared.seat.Seat.{Seat}
use Rattle.path_core.specs.declared.state.Placed.{Placed}
use Rattle.path_core.specs.declared.state.TableState.{TableState}
use Rattle.path_core.specs.Parts.{seat_table}
use Rattle.path_rule.specs.declared.slot.Slot.{Slot}
use Rattle.path_rule.specs.declared.view.Hands.{Hands}
use Rattle.path_rule.specs.declared.view.Role.TheVariants.{Steps}
use Rattle.path_rule.specs.declared.view.View.{View}
use Rattle.path_rule.specs.Boxes.{boxes, memtable_box}
use Rattle.path_rule.specs.Memtables.{
  HasInHand,
  HasMemtables,
  HasPut,
  IsHome,
  IsKeptAt,
  IsOfBox,
  IsOwnBox,
  IsPlacedIn,
  IsPut,
  IsRunning,
  LiesAmong,
  PutNotes,
  PutsAre,
  PutsAs,
}
use Rattle.path_rule.proofs.boxes.AtHome.{inside_list}

-- what the seat has of its boxes of memtables is as it was
abbrev pub SameHeld : Hands → Hands → Type 0
SameHeld h h' = (h'.memtable_box ≡ h.memtable_box) × (h'.held ≡ h.held) × (h'.applied ≡ h.applied)
    × (h'.reading ≡ h.reading)

-- each place of the seat's write is as it was
abbrev pub PlacesStay : Seat → Seat → Type 0
PlacesStay p q = (t k : ℕ) → (seat_table p t).place ≡ Some k → (seat_table q t).place ≡ Some k

still_put : (t m entry : ℕ) (h h' : Hands) → h'.applied ≡ h.applied → HasPut h t m entry
    → HasPut h' t m entry
still_put t m entry h h' same H = record {
  put = H.put;
  among = subst (λ l. Contains l H.put) (sym same) H.among;
  table = H.table;
  ring = H.ring;
  ends = H.ends;
}

still_own : (seats w b : ℕ) (p q : Seat) → PlacesStay p q → IsOwnBox seats w p b
    → IsOwnBox seats w q b
still_own seats w b p q places H = record {
  table = H.table;
  memtable = H.memtable;
  few = H.few;
  is = H.is;
  place = places H.table H.memtable H.place;
}

-- What a seat knows of them stays, while its claim, its note and its places do.
pub puts_stay : (contents : ℕ → List EntryNote) (seats w : ℕ) (p q : Seat) (h h' : Hands)
    → q.note ≡ p.note → q.claim ≡ p.claim → PlacesStay p q → SameHeld h h'
    → PutsAre contents seats w p h → PutsAre contents seats w q h'
puts_stay contents seats w p q h h' note claim places same P = record {
  in_hand = λ b e. let H = P.in_hand b (sym same.0 ∙ e) in
      (still_own seats w b p q places H.0, same.1 ∙ H.1);
  rests = λ e. same.0 ∙ P.rests (sym note ∙ e);
  tables = λ a e. P.tables a (subst (λ l. Contains l a) same.2 e);
  applied = λ a r e c is. P.applied a r (subst (λ l. Contains l a) same.2 e) (sym claim ∙ c) is;
  running = λ r t m e few there. still_put t m r.end h h' same.2
      (P.running r t m (sym claim ∙ e) few there);
  placed = λ a r e c is. places a.table a.memtable
      (P.placed a r (subst (λ l. Contains l a) same.2 e) (sym claim ∙ c) is);
  reads = λ q b e taken. P.reads q b (sym same.3 ∙ e) taken;
  emptied = λ q z k e. P.emptied q z k (sym same.3 ∙ e);
}

none_some : {A : Type 0} (a : A) → None ≡ Some a → ⊥
none_some a e = cc

-- It runs no write any more, and has none in hand.
pub closed_puts : (contents : ℕ → List EntryNote) (seats w : ℕ) (p q : Seat) (h : Hands)
    → h.memtable_box ≡ None → q.claim ≡ None → PutsAre contents seats w p h
    → PutsAre contents seats w q h
closed_puts contents seats w p q h empty claim P = record {
  in_hand = λ b e. absurd (none_some b (sym empty ∙ e));
  rests = λ _. empty;
  tables = P.tables;
  applied = λ a r e c is. absurd (none_some r (sym claim ∙ c));
  running = λ r t m e few there. absurd (none_some r (sym claim ∙ e));
  placed = λ a r e c is. absurd (none_some r (sym claim ∙ c));
  reads = P.reads;
  emptied = P.emptied;
}

-- It has deposited its write, and has none in hand.
pub noted_puts : (contents : ℕ → List EntryNote) (seats w : ℕ) (p q : Seat) (h : Hands)
    → h.memtable_box ≡ None → q.claim ≡ p.claim → PlacesStay p q → PutsAre contents seats w p h
    → PutsAre contents seats w q h
noted_puts contents seats w p q h empty claim places P = record {
  in_hand = λ b e. absurd (none_some b (sym empty ∙ e));
  rests = λ _. empty;
  tables = P.tables;
  applied = λ a r e c is. P.applied a r e (sym claim ∙ c) is;
  running = λ r t m e. P.running r t m (sym claim ∙ e);
  placed = λ a r e c is. places a.table a.memtable (P.placed a r e (sym claim ∙ c) is);
  reads = P.reads;
  emptied = P.emptied;
}

-- It has claimed a range behind all that lies in its boxes, and behind what it put there.
pub claimed_puts : (contents : ℕ → List EntryNote) (seats w : ℕ) (p q : Seat) (h : Hands)
    → q.note ≡ p.note → PlacesStay p q → ((r : Range) (t m : ℕ) → q.claim ≡ Some r → t < 16
    → ¬ LiesAmong (contents (memtable_box seats w t m)) r.end)
    → ((r : Range) (a : Placed) → q.claim ≡ Some r → Contains h.applied a → a.entry ≢ r.end)
    → PutsAre contents seats w p h → PutsAre contents seats w q h
claimed_puts contents seats w p q h note places none_there unput P = record {
  in_hand = λ b e. let H = P.in_hand b e in (still_own seats w b p q places H.0, H.1);
  rests = λ e. P.rests (sym note ∙ e);
  tables = P.tables;
  applied = λ a r e c is. absurd (unput r a c e is);
  running = λ r t m e few there. absurd (none_there r t m e few there);
  placed = λ a r e c is. absurd (unput r a c e is);
  reads = P.reads;
  emptied = P.emptied;
}

-- Which writes run once the view of a seat is another.
module _ (views : List View) (id : ℕ) (v v' : View) (at : get_elem? views id ≡ some v) where
  -- that of another seat
  pub runs_there : (w entry : ℕ) (R : IsRunning views w entry) → R.id ≢ id
      → IsRunning (set views id v') w entry
  runs_there w entry R apart = record {
    id = R.id;
    view = R.view;
    range = R.range;
    there = set_else views id R.id v' apart ∙ R.there;
    role = R.role;
    claim = R.claim;
    ends = R.ends;
  }

  -- each, where the seat's claim stays
  pub runs_still : v'.role ≡ v.role → v'.part.claim ≡ v.part.claim → (w entry : ℕ)
      → IsRunning views w entry → IsRunning (set views id v') w entry
  runs_still role claim w entry R = dite (ℕ_discrete R.id id)
      (λ is. let same : R.view ≡ v = some-injective R.view v
      (sym R.there ∙ (ap (get_elem? views) is ∙ at)) in record {
        id = id;
        view = v';
        range = R.range;
        there = set_here views id v' (inside_list views id v at);
        role = role ∙ (ap (λ (z : View). z.role) (sym same) ∙ R.role);
        claim = claim ∙ (ap (λ (z : View). z.part.claim) (sym same) ∙ R.claim);
        ends = R.ends;
      })
      (λ apart. runs_there w entry R apart)

  -- each, where the seat had none
  pub runs_else : v.part.claim ≡ None → (w entry : ℕ) → IsRunning views w entry
      → IsRunning (set views id v') w entry
  runs_else bare w entry R = dite (ℕ_discrete R.id id)
      (λ is. let same : R.view ≡ v = some-injective R.view v
      (sym R.there ∙ (ap (get_elem? views) is ∙ at)) in
      absurd (none_some R.range (sym bare ∙ (ap (λ (z : View). z.part.claim) (sym same)
      ∙ R.claim))))
      (λ apart. runs_there w entry R apart)

-- what the seat has in hand it has still
pub still_in_hand : (h h' : Hands) (b : ℕ) → h'.memtable_box ≡ h.memtable_box
    → h'.reading ≡ h.reading → HasInHand h b → HasInHand h' b
still_in_hand h h' b box read has =
    ⊎_elim (λ e. inl (box ∙ e)) (λ R. inr (R.0, read ∙ R.1, R.2)) has

-- a seat that has none in hand and reads none
pub none_in_hand : (h : Hands) (b : ℕ) → h.memtable_box ≡ None → h.reading ≡ None → ¬ HasInHand h b
none_in_hand h b empty unread has = ⊎_elim (λ e. absurd (none_some b (sym empty ∙ e)))
    (λ R. absurd (none_some R.0 (sym unread ∙ R.1))) has

-- A seat's step: its view is another then.
module _ {K : Type 0} (seats : ℕ) (notes more : List EntryNote) (placed after : List Placed)
    (tables next : List TableState) (homes : List (maybe.Option (Slot K))) (views : List View)
    (M : HasMemtables seats notes placed tables homes views) (id : ℕ) (v v' : View)
    (at : get_elem? views id ≡ some v)
    (grows : (n : EntryNote) → Contains notes n → Contains more n) where
  -- what is at home after it was at home before, where the seat goes on to have it
  pub old_home : (b : ℕ) → (HasInHand v.hands b → HasInHand v'.hands b)
      → IsHome (set views id v') b → IsHome views b
  old_home b goes free j u e h = dite (ℕ_discrete j id)
      (λ is. let same : u ≡ v = some-injective u v (sym e ∙ (ap (get_elem? views) is ∙ at)) in
      free id v' (set_here views id v' (inside_list views id v at))
      (goes (subst (λ (z : View). HasInHand z.hands b) same h)))
      (λ apart. free j u (set_else views id j v' apart ∙ e) h)

  pub still_of : (w t : ℕ) (n : EntryNote) → IsOfBox notes w t n → IsOfBox more w t n
  still_of w t n S = record {
    among = grows n S.among;
    writer = S.writer;
    touched = S.touched;
  }

  -- what they put into the boxes are notes still
  pub all_noted : PutNotes more v'.hands → (j : ℕ) (u : View)
      → get_elem? (set views id v') j ≡ some u → PutNotes more u.hands
  all_noted own j u e a h = ⊎_elim
      (λ (t : (j ≡ id) × (v' ≡ u)).
      own a (subst (λ (z : View). Contains z.hands.applied a) (sym t.1) h))
      (λ (t : (j ≢ id) × (get_elem? views j ≡ some u)). let N = M.noted j u t.1 a h in
      (N.0, grows N.0 N.1, N.2))
      (at_set views id j v' u e)

  pub same_noted : v'.hands.applied ≡ v.hands.applied → PutNotes more v'.hands
  same_noted same a h = let N = M.noted id v at a (subst (λ l. Contains l a) same h) in
      (N.0, grows N.0 N.1, N.2)

  -- the seats' hands, with what is in the boxes then
  pub all_hands : (contents : ℕ → List EntryNote) → PutsAs contents seats v'.part v'.hands v'.role
      → ((j : ℕ) (u : View) → j ≢ id → get_elem? views j ≡ some u
      → PutsAs contents seats u.part u.hands u.role)
      → (j : ℕ) (u : View) → get_elem? (set views id v') j ≡ some u
      → PutsAs contents seats u.part u.hands u.role
  all_hands contents own others j u e = ⊎_elim
      (λ (t : (j ≡ id) × (v' ≡ u)).
      subst (λ (z : View). PutsAs contents seats z.part z.hands z.role) t.1 own)
      (λ (t : (j ≢ id) × (get_elem? views j ≡ some u)). others j u t.0 t.1)
      (at_set views id j v' u e)

  -- No box of a memtable moves.
  pub memtables_stay : (homes' : List (maybe.Option (Slot K)))
      → ((b : ℕ) → boxes seats ≤ b → get_elem? homes' b ≡ get_elem? homes b)
      → v'.hands.memtable_box ≡ v.hands.memtable_box → v'.hands.reading ≡ v.hands.reading
      → v'.hands.applied ≡ v.hands.applied
      → PutsAs M.contents seats v'.part v'.hands v'.role
      → ((p : Placed) → Contains after p → IsKeptAt next p → IsPut M.contents seats p)
      → ((w t m : ℕ) (n : EntryNote) → t < 16
      → Contains (M.contents (memtable_box seats w t m)) n
      → IsPlacedIn after next t m n.end.0 ⊎ IsRunning (set views id v') w n.end.0)
      → HasMemtables seats more after next homes' (set views id v')
  memtables_stay homes' same box read applied own kept settled = record {
    contents = M.contents;
    at_home = λ b low high free. let h = M.at_home b low high
        (old_home b (still_in_hand v.hands v'.hands b box read) free) in
        (h.0, same b low ∙ h.1, h.2);
    in_hands = all_hands M.contents own (λ j u _ e. M.in_hands j u e);
    kept = kept;
    sound = λ w t m n few h. still_of w t n (M.sound w t m n few h);
    settled = settled;
    once = M.once;
    within = M.within;
    noted = all_noted (same_noted applied);
  }

-- The seat takes one of its own.
module _ {K : Type 0} (seats : ℕ) (notes : List EntryNote) (placed : List Placed)
    (tables : List TableState) (homes : List (maybe.Option (Slot K))) (views : List View)
    (M : HasMemtables seats notes placed tables homes views) (id : ℕ) (v v' : View)
    (at : get_elem? views id ≡ some v) where
  pub memtable_taken : (box w t m : ℕ) → box ≡ memtable_box seats w t m → t < 16
      → v.role ≡ Steps w → v'.role ≡ v.role → v.hands.memtable_box ≡ None
      → v'.hands.memtable_box ≡ Some box → v'.hands.held ≡ M.contents box
      → v'.hands.applied ≡ v.hands.applied → v'.hands.reading ≡ v.hands.reading
      → (k : ℕ) → v'.part.note ≡ Some k
      → v'.part.claim ≡ v.part.claim → PlacesStay v.part v'.part
      → (seat_table v.part t).place ≡ Some m
      → HasMemtables seats notes placed tables (set homes box none) (set views id v')
  memtable_taken box w t m is few mine role empty has held applied read k noted claim places place =
      record {
        contents = M.contents;
        at_home = λ b low high free.
            let apart : b ≢ box = (λ e. free id v'
            (set_here views id v' (inside_list views id v at))
            (inl (has ∙ ap (λ (c : ℕ). Some c) (sym e)))) in
            let h = M.at_home b low high (old_home seats notes notes placed placed tables tables
            homes views M id v v' at (λ n q. q) b (λ h. ⊎_elim
            (λ e. absurd (none_some b (sym empty ∙ e)))
            (λ R. inr (R.0, read ∙ R.1, R.2)) h) free)
            in (h.0, set_else homes box b none apart ∙ h.1, h.2);
        in_hands = all_hands seats notes notes placed placed tables tables homes views M id v v' at
            (λ n q. q) M.contents own (λ j u _ e. M.in_hands j u e);
        kept = M.kept;
        sound = M.sound;
        settled = λ w t m n few h. ⊎_elim (λ p. inl p)
            (λ R. inr (runs_still views id v v' at role claim w n.end.0 R))
            (M.settled w t m n few h);
        once = M.once;
        within = M.within;
        noted = all_noted seats notes notes placed placed tables tables homes views M id v v' at
            (λ n q. q) (same_noted seats notes notes placed placed tables tables homes views M id v
            v' at (λ n q. q) applied);
      }
    where
      same_box : (a b : ℕ) → Some a ≡ Some b → a ≡ b
      same_box a b e = cc

      old : PutsAre M.contents seats w v.part v.hands
      old = subst (PutsAs M.contents seats v.part v.hands) mine (M.in_hands id v at)

      own : PutsAs M.contents seats v'.part v'.hands v'.role
      own = subst (PutsAs M.contents seats v'.part v'.hands) (sym (role ∙ mine)) (record {
        in_hand = λ b e. let here : box ≡ b = same_box box b (sym has ∙ e) in (
          record {
            table = t;
            memtable = m;
            few = few;
            is = sym here ∙ is;
            place = places t m place;
          },
          held ∙ ap M.contents here,
        );
        rests = λ e. absurd (none_some k (sym e ∙ noted));
        tables = λ a e. old.tables a (subst (λ l. Contains l a) applied e);
        applied = λ a r e c is.
            old.applied a r (subst (λ l. Contains l a) applied e) (sym claim ∙ c) is;
        running = λ r t m e few there. still_put t m r.end v.hands v'.hands applied
            (old.running r t m (sym claim ∙ e) few there);
        placed = λ a r e c is. places a.table a.memtable
            (old.placed a r (subst (λ l. Contains l a) applied e) (sym claim ∙ c) is);
        reads = λ q b e taken. old.reads q b (sym read ∙ e) taken;
        emptied = λ q z k e. old.emptied q z k (sym read ∙ e);
      })

-- Other views that have the same boxes.
pub memtables_seen : {K : Type 0} (seats : ℕ) (notes : List EntryNote) (placed : List Placed)
    (tables : List TableState) (homes : List (maybe.Option (Slot K))) (views after : List View)
    (M : HasMemtables seats notes placed tables homes views)
    → ((b : ℕ) → IsHome after b → IsHome views b)
    → ((j : ℕ) (u : View) → get_elem? after j ≡ some u
    → PutsAs M.contents seats u.part u.hands u.role)
    → ((w entry : ℕ) → IsRunning views w entry → IsRunning after w entry)
    → ((j : ℕ) (u : View) → get_elem? after j ≡ some u → PutNotes notes u.hands)
    → HasMemtables seats notes placed tables homes after
memtables_seen seats notes placed tables homes views after M free hands runs noted = record {
  contents = M.contents;
  at_home = λ b low high home. M.at_home b low high (free b home);
  in_hands = hands;
  kept = M.kept;
  sound = M.sound;
  settled = λ w t m n few h. ⊎_elim (λ p. inl p) (λ R. inr (runs w n.end.0 R))
      (M.settled w t m n few h);
  once = M.once;
  within = M.within;
  noted = noted;
}
