-- What a step leaves of a table for writes that are placed: what is final stays, and a memtable
-- lets in what it let in.
use Rattle.std.proofs.Common.{
  ◌≡◌,
  ℕ,
  suc,
  ◌++◌,
  ◌<◌,
  [],
  ◌∷◌,
  length,
  Some,
  refl,
  sym,
  ap,
  ◌∙◌,
  subst,
  arith,
  ◌⊎◌,
  ◌≤◌,
  max,
}
use Rattle.std.proofs.lemmas.Option.{same_Some}
use mathlib.Core.Logic.{inl}
use Rattle.op_core.specs.declared.count.Order.TheVariants.{Write, Append}
use Rattle.path_core.specs.declared.event.Cursor.TheVariants.{Synced, OldestLive, Stopped}
use Rattle.path_core.specs.declared.event.Event.{Event}
use Rattle.path_core.specs.declared.event.Event.TheVariants.{
  MoveCurrent,
  Switch,
  Raise,
  Finalise,
  Put,
}
use Rattle.path_core.specs.declared.event.SwitchPart.TheVariants.{Clear, Open, Mark}
use Rattle.path_core.specs.declared.state.PathState.{PathState}
use Rattle.path_core.specs.Parts.{
  seat_of,
  fresh_memtable,
  fresh_table,
  table_of,
  memtable_at,
  key_of_bound,
}
use Rattle.path_core.specs.declared.state.Bound.{Bound as BoundOf}
use Rattle.path_core.specs.declared.state.Bound.TheVariants.{Raising, Live, Final}
use Rattle.path_core.specs.SeatParts.{raised_to, made_final}
use Rattle.path_core.specs.Next.{next_of, with_memtable, with_bound}
use Rattle.clog_base.specs.declared.position.Key.{Key}
use Rattle.path_core.specs.declared.state.Memtable.{Memtable}
use Rattle.path_core.specs.declared.state.TableState.{TableState}
use Rattle.path_core.specs.Allowed.{IsStep}
use Rattle.path_core.specs.Lawful.{IsSized}
use Rattle.path_core.specs.LawfulLog.{ClaimsTile}
use Rattle.path_core.specs.LawfulOrders.{IsOrderly}
use Rattle.path_core.specs.LawfulTables.{SwitchesAre}
use Rattle.path_core.proofs.lists.Replaced.{put_at, default_put}
use Rattle.path_core.proofs.tables.WithBarriers.{
  barred_table,
  barred_at,
  bound_barred,
  mark_barred,
  barrier_before,
}
use Rattle.path_core.specs.LawfulPlaces.{IsAboveBefore, LetsIn, IsAccepted, TriesAbove}

-- How a table may move.
pub record TableMoves (log group : ℕ) (table after : TableState) : Type 0 where
  pub newest : table.newest ≤ after.newest
  pub finals : (m : ℕ) (u : Key) → (memtable_at table m).bound ≡ Final u
      → (memtable_at after m).bound ≡ Final u
  pub lets_in : (m entry : ℕ) → entry ≤ log → LetsIn (memtable_at table m) entry
      → LetsIn (memtable_at after m) entry
  -- a barrier was there, or is of a group
  pub barriers : (m g : ℕ) → (memtable_at after m).barrier ≡ Some g
      → ((memtable_at table m).barrier ≡ Some g) ⊎ (g ≡ group)

still : (log group : ℕ) (table : TableState) → TableMoves log group table table
still log group table = record {
  newest = omega arith;
  finals = λ m u e. e;
  lets_in = λ m entry low l. l;
  barriers = λ m g e. inl e;
}

-- a memtable with the same bound and mark
same_lets : (k n : Memtable) (entry : ℕ) → n.bound ≡ k.bound → n.mark ≡ k.mark → LetsIn k entry
    → LetsIn n entry
same_lets k n entry b m L = record {
  final = λ u e. L.final u (sym b ∙ e);
  raising = λ c mark e f. L.raising c mark (sym b ∙ e) (sym m ∙ f);
}

-- Accepted entries stay accepted.
module _ (log group : ℕ) (table after : TableState) (M : TableMoves log group table after) where
  above_stays : (m entry : ℕ) → IsAboveBefore table m entry → IsAboveBefore after m entry
  above_stays m entry A k e = let F = A k e in record {
    bound = F.bound;
    final = M.finals k F.bound F.final;
    below = F.below;
  }

  pub accepted_stays : (m entry : ℕ) → entry ≤ log → IsAccepted table m entry
      → IsAccepted after m entry
  accepted_stays m entry low A = record {
    made = let n = M.newest in let a = A.made in omega arith;
    above_before = above_stays m entry A.above_before;
    lets_in = M.lets_in m entry low A.lets_in;
  }

  pub tries_stay : (m entry : ℕ) → TriesAbove table m entry → TriesAbove after m entry
  tries_stay m entry A = record {
    made = let n = M.newest in let a = A.made in omega arith;
    above_before = above_stays m entry A.above_before;
  }

opens : (log group n : ℕ) (table : TableState) → n ≡ suc table.newest → TableMoves log group table
    (record table { newest = n; memtables = table.memtables ++ fresh_memtable ∷ [] })
opens log group n table is = record {
  newest = omega arith;
  finals = λ m u e. ap (λ (k : Memtable). k.bound) (default_put table.memtables fresh_memtable m)
      ∙ e;
  lets_in = λ m entry low L. subst (λ k. LetsIn k entry)
      (sym (default_put table.memtables fresh_memtable m)) L;
  barriers = λ m g e. inl (sym (ap (λ (k : Memtable). k.barrier)
      (default_put table.memtables fresh_memtable m)) ∙ e);
}

bars : (log group : ℕ) (table : TableState) → TableMoves log group table (barred_table group table)
bars log group table = record {
  newest = omega arith;
  finals = λ m u e. bound_barred group table m ∙ e;
  lets_in = λ m entry low L. same_lets (memtable_at table m) _ entry
      (bound_barred group table m) (mark_barred group table m) L;
  barriers = λ m g e. barrier_before group table m g e;
}

-- one memtable changes
changes : (log group m : ℕ) (table : TableState) (f : Memtable → Memtable)
    → m < length table.memtables
    → ((u : Key) → (memtable_at table m).bound ≡ Final u
    → (f (memtable_at table m)).bound ≡ Final u)
    → ((entry : ℕ) → entry ≤ log → LetsIn (memtable_at table m) entry
    → LetsIn (f (memtable_at table m)) entry)
    → (f (memtable_at table m)).barrier ≡ (memtable_at table m).barrier
    → TableMoves log group table (with_memtable table m f)
changes log group m table f inside finals lets barriers = record {
  newest = omega arith;
  finals = put_at table.memtables m (f (memtable_at table m)) fresh_memtable inside
      (λ n k. (u : Key) → (memtable_at table n).bound ≡ Final u → k.bound ≡ Final u) finals
      (λ n _ u e. e);
  lets_in = put_at table.memtables m (f (memtable_at table m)) fresh_memtable inside
      (λ n k. (entry : ℕ) → entry ≤ log → LetsIn (memtable_at table n) entry → LetsIn k entry) lets
      (λ n _ entry _ l. l);
  barriers = put_at table.memtables m (f (memtable_at table m)) fresh_memtable inside
      (λ n k. (g : ℕ) → k.barrier ≡ Some g → ((memtable_at table n).barrier ≡ Some g) ⊎ (g ≡ group))
      (λ g e. inl (sym barriers ∙ e)) (λ n _ g e. inl e);
}

marks : (log group m : ℕ) (table : TableState) → m < length table.memtables
    → (memtable_at table m).bound ≡ Live → TableMoves log group table (with_memtable table m
    (λ (k : Memtable). record k { bound = Raising (record { 0 = 0 }); mark = Some log }))
marks log group m table inside live = changes log group m table (λ (k : Memtable).
    record k { bound = Raising (record { 0 = 0 }); mark = Some log }) inside
    (λ u e. absurd (let q : Live ≡ Final u = sym live ∙ e in cc))
    (λ entry low L. record {
      final = λ u e. absurd (let q : Raising (record { 0 = 0 }) ≡ Final u = e in cc);
      raising = λ b mark e f. let same : log ≡ mark = same_Some log mark f in omega arith;
    })
    refl

raises : (log group m to : ℕ) (table : TableState) → m < length table.memtables
    → TableMoves log group table (with_memtable table m (with_bound (raised_to to)))
raises log group m to table inside = changes log group m table (with_bound (raised_to to)) inside
    (λ u e. ap (raised_to to) e)
    (λ entry low L. by (memtable_at table m).bound refl entry L) refl
  where
    by : (b : BoundOf) → (memtable_at table m).bound ≡ b → (entry : ℕ)
        → LetsIn (memtable_at table m) entry
        → LetsIn (with_bound (raised_to to) (memtable_at table m)) entry
    by Live e entry L = same_lets (memtable_at table m) _ entry (ap (raised_to to) e ∙ sym e) refl L
    by (Final k) e entry L = same_lets (memtable_at table m) _ entry (ap (raised_to to) e
        ∙ sym e) refl L
    by (Raising k) e entry L = record {
      final = λ u q. absurd (let r : Raising (record { 0 = max k.0 to }) ≡ Final u
          = sym (ap (raised_to to) e) ∙ q in cc);
      raising = λ b mark q f.
          let r : Raising (record { 0 = max k.0 to }) ≡ Raising b = sym (ap (raised_to to) e) ∙ q in
          let top : max k.0 to ≡ b.0 = ap key_of_bound r in
          let l = L.raising k mark e f in omega arith;
    }

finalises : (log group m : ℕ) (table : TableState) (b : Key) (key : ℕ) → m < length table.memtables
    → (memtable_at table m).bound ≡ Raising b → (memtable_at table m).mark ≡ Some key → key ≤ b.0
    → TableMoves log group table (with_memtable table m (with_bound made_final))
finalises log group m table b key inside is mark raised = changes log group m table
    (with_bound made_final) inside
    (λ u e. absurd (let q : Raising b ≡ Final u = sym is ∙ e in cc))
    (λ entry low L. record {
      final = λ u e. let r : Final b ≡ Final u = sym (ap made_final is) ∙ e in
          let same : b.0 ≡ u.0 = ap key_of_bound r in
          let l = L.raising b key is mark in omega arith;
      raising = λ c n e. absurd (let q : Final b ≡ Raising c = sym (ap made_final is) ∙ e in cc);
    })
    refl

module _ (x : PathState) (sized : IsSized x) (T : ClaimsTile x) (O : IsOrderly x)
    (W : SwitchesAre x) where
  -- each table moves so
  pub table_moves : (e : Event) → IsStep x e → (t : ℕ)
      → TableMoves x.log x.write.current (table_of x t) (table_of (next_of x e) t)
  table_moves (MoveCurrent by Write group) a t =
      barred_at x.write.current (seat_of x by).tables x.tables
      (λ tb. TableMoves x.log x.write.current (table_of x t) tb) t
      (still x.log x.write.current (table_of x t)) (bars x.log x.write.current (table_of x t))
  table_moves (MoveCurrent by Append group) a t = still x.log x.write.current (table_of x t)
  table_moves (Switch by table m Clear) a t = still x.log x.write.current (table_of x t)
  table_moves (Switch by table m Open) a t = put_at x.tables table.0 _ fresh_table a.is_there
      (λ u tb. TableMoves x.log x.write.current (table_of x u) tb) (opens x.log x.write.current m
      (table_of x table.0) a.row.2)
      (λ u _. still x.log x.write.current (table_of x u)) t
  table_moves (Switch by table m Mark) a t = put_at x.tables table.0 _ fresh_table a.is_there.0
      (λ u tb. TableMoves x.log x.write.current (table_of x u) tb)
      (marks x.log x.write.current m (table_of x table.0) a.is_there.1 a.row.2)
      (λ u _. still x.log x.write.current (table_of x u)) t
  table_moves (Raise by table m to) a t = put_at x.tables table.0 _ fresh_table a.is_there.0
      (λ u tb. TableMoves x.log x.write.current (table_of x u) tb)
      (raises x.log x.write.current m to.0 (table_of x table.0) a.is_there.1)
      (λ u _. still x.log x.write.current (table_of x u)) t
  table_moves (Finalise by table m) a t = let M = W.marked by table.0 _ a.row.marked in
      put_at x.tables table.0 _ fresh_table a.is_there.0
      (λ u tb. TableMoves x.log x.write.current (table_of x u) tb)
      (finalises x.log x.write.current m
      (table_of x table.0) M.bound M.mark a.is_there.1 M.raising M.marked
      (M.raised refl)) (λ u _. still x.log x.write.current (table_of x u)) t
  table_moves (Put by Synced value) a t = still x.log x.write.current (table_of x t)
  table_moves (Put by (OldestLive table) value) a t = put_at x.tables table.0 _ fresh_table
      a.is_there
      (λ u tb. TableMoves x.log x.write.current (table_of x u) tb)
      (record {
        newest = omega arith;
        finals = λ m u e. e;
        lets_in = λ m entry low l. l;
        barriers = λ m g e. inl e;
      })
      (λ u _. still x.log x.write.current (table_of x u)) t
  table_moves (Put by Stopped value) a t = still x.log x.write.current (table_of x t)
  table_moves e a t = still x.log x.write.current (table_of x t)
