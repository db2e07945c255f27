-- A write that is accepted at one table after another, and puts its updates there.
use Rattle.std.proofs.Common.{
  ◌≡◌,
  ◌≢◌,
  ℕ,
  suc,
  ◌<◌,
  ◌^◌,
  List,
  [],
  ◌∷◌,
  ◌++◌,
  map,
  false,
  Option,
  Some,
  IsTrue,
  inl,
  inr,
  refl,
  sym,
  ap,
  ◌∙◌,
  subst,
  arith,
}
use Rattle.std.specs.List.{Contains}
use Rattle.std.specs.Option.{option_map_or}
use Rattle.std.proofs.lemmas.Bool.{false≢true}
use Rattle.std.proofs.lemmas.List.{append_assoc}
use mathlib.Core.Logic.{dite}
use native.Mathlib.Decide.{ℕ_discrete}
use Rattle.atomic_table.specs.Seated.{TableId}
use Rattle.clog_base.proofs.Members.{here, further, first_or_further}
use Rattle.clog_base.specs.declared.position.Key.{Key}
use Rattle.path_core.specs.declared.seat.Seat.{Seat}
use Rattle.path_core.specs.declared.seat.SeatTable.{SeatTable}
use Rattle.path_core.specs.declared.state.Placed.{Placed}
use Rattle.path_core.specs.Parts.{seat_table, touches}
use Rattle.path_rule.specs.declared.view.Hands.{Hands}
use Rattle.path_rule.specs.declared.view.OwnStep.{OwnStep}
use Rattle.path_rule.specs.declared.view.PathSize.{PathSize}
use Rattle.path_rule.specs.Applying.{AreApplied, HasDeposited}
use Rattle.path_rule.proofs.log.Deposits.{still_deposited}
use Rattle.path_table.specs.Members.{part_of, hands_of, IsOf}
use Rattle.write_path.specs.declared.deposited.Deposited.{Deposited}
use Rattle.write_path.specs.declared.prepared.Prepared.{Prepared}
use Rattle.write_path.specs.Applies.{
  tables_left,
  HoldsUpdates,
  IsAppliedBelow,
  IsUnappliedFrom,
}
use Rattle.write_path.specs.Ends.{put_since, AreTries, IsSameWrite, IsUntriedFrom, IsWriteStill}
use Rattle.write_path.proofs.PlacedAt.{are_both, untried_past}
use Rattle.write_path.proofs.SmallSets.{bit_below}

module _ {K : Type 0} (id : TableId) (size : PathSize) where
  pub still_itself : (s : Deposited K) → IsOf id size s.member → IsWriteStill id size s s
  still_itself s of = record {
    member = (of, refl);
    writing = refl;
    start = refl;
    end = refl;
    tables = refl;
    list = refl;
    tried = record {
      tries = [];
      are = tt;
      trail = refl;
      hands = refl;
      put = [];
      applied = refl;
      returned = refl;
    };
  }

  -- one that only tried
  pub still_tried : (s t : Deposited K) → IsSameWrite id size s t → IsWriteStill id size s t
  still_tried s t A = record {
    member = A.member;
    writing = A.writing;
    start = A.start;
    end = A.end;
    tables = A.tables;
    list = A.list;
    tried = record {
      tries = A.tried.tries;
      are = A.tried.are;
      trail = A.tried.trail;
      hands = subst (λ (h : Hands). h ≡ put_since (hands_of s.member) h) (sym A.tried.hands) refl;
      put = [];
      applied = ap (λ (h : Hands). h.applied) A.tried.hands;
      returned = A.tried.returned;
    };
  }

  pub still_then : (s t u : Deposited K) → IsWriteStill id size s t → IsWriteStill id size t u
      → IsWriteStill id size s u
  still_then s t u A B = record {
    member = (B.member.0, B.member.1 ∙ A.member.1);
    writing = B.writing ∙ A.writing;
    start = B.start ∙ A.start;
    end = B.end ∙ A.end;
    tables = B.tables ∙ A.tables;
    list = B.list ∙ A.list;
    tried = record {
      tries = B.tried.tries ++ A.tried.tries;
      are = are_both s.member.number B.tried.tries A.tried.tries
          (subst (λ w. AreTries w B.tried.tries) A.member.1 B.tried.are) A.tried.are;
      trail = B.tried.trail ∙ (ap (λ l. B.tried.tries ++ l) A.tried.trail
          ∙ sym (append_assoc B.tried.tries A.tried.tries s.member.seat.me.0.trail));
      hands = B.tried.hands
          ∙ ap (λ (h : Hands). put_since h (hands_of u.member)) A.tried.hands;
      put = B.tried.put ++ A.tried.put;
      applied = B.tried.applied ∙ (ap (λ l. B.tried.put ++ l) A.tried.applied
          ∙ sym (append_assoc B.tried.put A.tried.put (hands_of s.member).applied));
      returned = B.tried.returned ∙ A.tried.returned;
    };
  }

  -- What it has copies of, and what it has put, stay where it only tried.
  module _ (s t : Deposited K) (A : IsSameWrite id size s t) where
    pub holds_still : (p : Prepared) → HoldsUpdates s p → HoldsUpdates t p
    holds_still p H = record {
      note = H.note;
      deposited = subst (λ (l : List OwnStep). HasDeposited H.note l) (sym A.tried.trail)
          (still_deposited H.note A.tried.tries s.member.seat.me.0.trail H.deposited);
      starts = H.starts ∙ ap (λ (k : Key). k.0) (sym A.start);
      ends = H.ends ∙ ap (λ (k : Key). k.0) (sym A.end);
      tables = H.tables ∙ sym A.tables;
      writer = H.writer ∙ sym A.member.1;
      copies = H.copies ∙ (λ i. map (λ (t : ℕ). H.note) (tables_left (sym A.tables i)
          (ap (λ (k : Key). k.0) (sym A.end) i)
          (ap (λ (h : Hands). h.applied) (sym A.tried.hands) i)));
    }

    pub unapplied_still : (k : ℕ) → IsUnappliedFrom k s → IsUnappliedFrom k t
    unapplied_still k none a h is = none a
        (subst (λ (h : Hands). Contains h.applied a) A.tried.hands h)
        (is ∙ ap (λ (k : Key). k.0) A.end)

module _ {K : Type 0} (k : ℕ) (s : Deposited K) where
  -- a table that the write does not touch
  pub applied_past : touches s.tables k ≡ false → IsAppliedBelow k s → IsAppliedBelow (suc k) s
  applied_past untouched applied t low touched = dite (ℕ_discrete t k)
      (λ same. absurd (false≢true (sym (ap (λ (n : ℕ). touches s.tables n) same ∙ untouched)
      ∙ touched)))
      (λ apart. applied t (omega arith) touched)

  -- One at which it was accepted, and where its updates were put: the list of what was put before
  -- stands behind the new one.
  pub applied_here : (u : Deposited K) (m : ℕ) → u.tables ≡ s.tables → u.end.0 ≡ s.end.0
      → ((t : ℕ) → t ≢ k → seat_table (part_of u.member) t ≡ seat_table (part_of s.member) t)
      → (seat_table (part_of u.member) k).place ≡ Some m
      → (hands_of u.member).applied
      ≡ record { table = k; entry = s.end.0; memtable = m } ∷ (hands_of s.member).applied
      → IsAppliedBelow k s → IsAppliedBelow (suc k) u
  applied_here u m tables end others here_is put applied t low touched = dite (ℕ_discrete t k)
      (λ same. (
        m,
        ap (λ (n : ℕ). (seat_table (part_of u.member) n).place) same ∙ here_is,
        subst (λ (l : List Placed). Contains l (is_put u.end.0 m t)) (sym put)
            (subst (λ (q : ℕ × ℕ). Contains (is_put s.end.0 m k ∷ (hands_of s.member).applied)
            (is_put q.0 m q.1)) (λ i. (sym end i, sym same i))
            (here (is_put s.end.0 m k) (hands_of s.member).applied)),
      ))
      (λ apart. let p = applied t (omega arith)
      (subst (λ (n : ℕ). IsTrue (touches n t)) tables touched) in (
        p.0,
        ap (λ (st : SeatTable). st.place) (others t apart) ∙ p.1,
        subst (λ (l : List Placed). Contains l (is_put u.end.0 p.0 t)) (sym put)
            (further (is_put s.end.0 m k) (hands_of s.member).applied (is_put u.end.0 p.0 t)
            (subst (λ (e : ℕ). Contains (hands_of s.member).applied (is_put e p.0 t)) (sym end)
            p.2)),
      ))
    where
      is_put : ℕ → ℕ → ℕ → Placed
      is_put entry memtable table = record {
        table = table;
        entry = entry;
        memtable = memtable;
      }

  -- a table that is none of the write's changes nothing
  pub applied_untouched : touches s.tables k ≡ false → IsAppliedBelow k s → IsAppliedBelow (suc k) s
  applied_untouched none applied t low touched = dite (ℕ_discrete t k)
      (λ same. absurd (false≢true (sym none
      ∙ subst (λ (n : ℕ). IsTrue (touches s.tables n)) same touched)))
      (λ apart. applied t (omega arith) touched)

  -- what was put there is of no later table
  pub unapplied_past : (u : Deposited K) (m : ℕ) → u.end.0 ≡ s.end.0
      → (hands_of u.member).applied
      ≡ record { table = k; entry = s.end.0; memtable = m } ∷ (hands_of s.member).applied
      → IsUnappliedFrom k s → IsUnappliedFrom (suc k) u
  unapplied_past u m end put none a h is = elim (first_or_further _ _ a
      (subst (λ (l : List Placed). Contains l a) put h)) [
        | inl now ↦ (let at = ap (λ (b : Placed). b.table) now in omega (arith, at))
        | inr before ↦ (let low = none a before (is ∙ end) in omega (arith, low))
      ]

-- so it ends with its updates at each of its places
pub are_applied : {K : Type 0} (s : Deposited K) (k : ℕ) → s.member.seat.me.0.size.tables ≡ k
    → IsAppliedBelow k s → AreApplied (part_of s.member) (hands_of s.member)
are_applied s k many applied = record {
  range = record { start = s.start.0; end = s.end.0 };
  claimed = s.claims;
  each = λ t touched. let own = subst (λ (n : ℕ). IsTrue (touches n t))
      (ap (λ (o : Option ℕ). option_map_or (λ (tables : ℕ). tables) o 0) s.noted) touched in
      applied t (bit_below k s.tables t (subst (λ (n : ℕ). s.tables < 2 ^ n) many s.few) own) own;
}

-- Seat s tried memtables of table k, until one took the write, which is t then; and u is t once its
-- updates were put there.
module _ {K : Type 0} (id : TableId) (size : PathSize) (k : ℕ) (s t u : Deposited K) (m : ℕ)
    (tried : IsSameWrite id size s t)
    (others : (x : ℕ) → x ≢ k → seat_table (part_of t.member) x ≡ seat_table (part_of s.member) x)
    (place : (seat_table (part_of t.member) k).place ≡ Some m) (still : IsWriteStill id size t u)
    (put : (hands_of u.member).applied
    ≡ record { table = k; entry = t.end.0; memtable = m } ∷ (hands_of t.member).applied)
    (part : part_of u.member ≡ part_of t.member) where
  end_is : u.end.0 ≡ s.end.0
  end_is = ap (λ (e : Key). e.0) (still.end ∙ tried.end)

  put_is : (hands_of u.member).applied
      ≡ record { table = k; entry = s.end.0; memtable = m } ∷ (hands_of s.member).applied
  put_is = put ∙ (ap (λ (e : ℕ). record { table = k; entry = e; memtable = m }
      ∷ (hands_of t.member).applied) (ap (λ (e : Key). e.0) tried.end)
      ∙ ap (λ (h : Hands). record { table = k; entry = s.end.0; memtable = m } ∷ h.applied)
      tried.tried.hands)

  others_are : (x : ℕ) → x ≢ k
      → seat_table (part_of u.member) x ≡ seat_table (part_of s.member) x
  others_are x apart = ap (λ (p : Seat). seat_table p x) part ∙ others x apart

  pub placed_still : IsWriteStill id size s u
  placed_still = still_then id size s t u (still_tried id size s t tried) still

  pub placed_applied : IsAppliedBelow k s → IsAppliedBelow (suc k) u
  placed_applied = applied_here k s u m (still.tables ∙ tried.tables) end_is others_are
      (ap (λ (p : Seat). (seat_table p k).place) part ∙ place) put_is

  pub placed_untried : IsUntriedFrom k s → IsUntriedFrom (suc k) u
  placed_untried = untried_past k s u others_are

  pub placed_unapplied : IsUnappliedFrom k s → IsUnappliedFrom (suc k) u
  placed_unapplied = unapplied_past k s u m end_is put_is
