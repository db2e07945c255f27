-- A barrier of the write order is wanted exactly where a stage says that a memtable waits.
use Rattle.std.proofs.Common.{
  ◌≡◌,
  ℕ,
  suc,
  ◌<◌,
  true,
  length,
  Option,
  Some,
  None,
  is_none,
  IsSome,
  refl,
  sym,
  ap,
  ◌∙◌,
  subst,
  arith,
}
use Rattle.std.specs.Prelude.{◌↔◌}
use Rattle.std.specs.Option.{option_map}
use Rattle.std.proofs.lemmas.Bool.{false≢true, and_from, and_parts}
use Rattle.std.proofs.lemmas.List.{get_or_default, get_or_past}
use Rattle.std.proofs.lemmas.Option.{none-some}
use mathlib.Core.Logic.{dite}
use native.Mathlib.Decide.{dec_lt, ℕ_discrete}
use Rattle.op_core.specs.declared.count.Order.TheVariants.{Write}
use Rattle.path_core.specs.declared.seat.FlushTurn.{FlushTurn}
use Rattle.path_core.specs.declared.seat.Switching.{Switching}
use Rattle.path_core.specs.declared.seat.Switching.TheVariants.{
  Settled,
  Begun,
  Marked as MarkedStage,
  Waiting,
  WithBarrier,
}
use Rattle.path_core.specs.declared.state.Memtable.{Memtable}
use Rattle.path_core.specs.declared.state.PathState.{PathState}
use Rattle.path_core.specs.declared.state.TableState.{TableState}
use Rattle.path_core.specs.Parts.{
  fresh_memtable,
  fresh_table,
  seat_of,
  seat_table,
  table_of,
  memtable_of,
  is_final,
  IsFinal,
}
use Rattle.path_core.specs.Allowed.{WantsBarrier, is_unbarred}
use Rattle.path_core.specs.Lawful.{IsLawfulPath}
use Rattle.path_core.specs.LawfulSeats.{StageIs}
use Rattle.path_core.specs.Holders.{HasWaiting}
use Rattle.path_core.proofs.lists.Passing.{any_from, any_to}
use Rattle.path_core.proofs.tables.StageTells.{
  final_from,
  final_to,
  held_stage,
  settled_at,
  stage_exact,
}

module _ (x : PathState) (L : IsLawfulPath x) where
  -- A final memtable without a barrier is the one below the newest.
  unbarred_is_last : (t m : ℕ) → t < length x.tables → m < length (table_of x t).memtables
      → IsFinal (memtable_of x t m).bound → (memtable_of x t m).barrier ≡ None
      → suc m ≡ (table_of x t).newest
  unbarred_is_last t m there inside final none =
      let R = (L.switches.tables t).bounds_rise in dite
      (dec_lt m (table_of x t).oldest_live)
      (λ low. absurd (none-some _ (sym none
      ∙ (L.retired_is_filed.each t m there low).passed.issued)))
      (λ high. dite (ℕ_discrete m (table_of x t).newest)
      (λ e. absurd (subst IsFinal R.newest_is_live (subst (λ n. IsFinal (memtable_of x t n).bound) e
      final)))
      (λ n. let made = R.made in let near = R.one_behind in omega arith))

  -- The stage of such a table is that its memtable waits.
  waits : (t m : ℕ) (stage : Switching) → StageIs x t stage → suc m ≡ (table_of x t).newest
      → IsFinal (memtable_of x t m).bound → (memtable_of x t m).barrier ≡ None
      → stage ≡ Waiting m
  waits t m Settled S last final none =
      absurd (none-some _ (sym none ∙ (settled_at x L t m last S).issued))
  waits t m (Begun n) B last final none =
      let newest = B.newest in let before = B.before in
      let same : B.below ≡ m = omega arith in
      absurd (subst IsFinal (ap (λ k. (memtable_of x t k).bound) (sym same) ∙ B.live) final)
  waits t m (MarkedStage k) M last final none =
      let below = M.below_newest in
      let same : k.memtable ≡ m = omega arith in
      absurd (subst IsFinal (ap (λ j. (memtable_of x t j).bound) (sym same) ∙ M.raising) final)
  waits t m (Waiting n) W last final none =
      let below = W.below_newest in let same : n ≡ m = omega arith in ap Waiting same
  waits t m (WithBarrier n group) H last final none =
      let below = H.below_newest in let same : m ≡ n = omega arith in
      absurd (none-some group (sym none ∙ ap (λ k. (memtable_of x t k).barrier) same ∙ H.issued))

  -- A barrier of the write order is wanted exactly where a stage says that a memtable waits.
  pub wanted_by_stage : (w : ℕ) → WantsBarrier Write x w ↔ HasWaiting (seat_of x w)
  wanted_by_stage w = (to, from)
    where
      to : WantsBarrier Write x w → HasWaiting (seat_of x w)
      to B =
          let found = any_to is_unbarred (table_of x B.table).memtables B.unbarred in
          let k = found.0 in
          let m = found.1.0 in
          let here : memtable_of x B.table m ≡ k = get_or_default (table_of x B.table).memtables m
          fresh_memtable k found.1.1 ∙ found.1.2 in
          let parts = and_parts (is_final k.bound) (is_none k.barrier) found.2 in
          let final = subst (λ (n : Memtable). IsFinal n.bound) (sym here)
          (final_from k.bound parts.0) in
          let none = ap (λ (n : Memtable). n.barrier) here ∙ none_is k.barrier parts.1 in
          let last = unbarred_is_last B.table m B.is_there found.1.1 final none in
          let stage = held_stage (seat_table (seat_of x w) B.table).flush B.held in
          record {
            table = B.table;
            memtable = m;
            waits = stage.1 ∙ ap Some (waits B.table m stage.0
                (stage_exact x L w B.table stage.0 stage.1) last final none);
          }
        where
          none_is : (o : Option ℕ) → is_none o ≡ true → o ≡ None
          none_is None t = refl
          none_is (Some g) t = absurd (false≢true t)

      from : HasWaiting (seat_of x w) → WantsBarrier Write x w
      from H =
          let W = stage_exact x L w H.table (Waiting H.memtable) H.waits in
          let made = (L.switches.tables H.table).bounds_rise.made in
          let below = W.below_newest in
          let inside : H.memtable < length (table_of x H.table).memtables = omega arith in
          record {
            table = H.table;
            is_there = there H.table (omega arith);
            held = held (seat_table (seat_of x w) H.table).flush H.waits;
            unbarred = any_from is_unbarred (table_of x H.table).memtables
                (memtable_of x H.table H.memtable) (
                  H.memtable,
                  inside,
                  sym (get_or_default (table_of x H.table).memtables H.memtable fresh_memtable
                      (memtable_of x H.table H.memtable) inside),
                )
                (and_from (is_final (memtable_of x H.table H.memtable).bound)
                (is_none (memtable_of x H.table H.memtable).barrier)
                (final_to (memtable_of x H.table H.memtable).bound W.final)
                (ap (λ (o : Option ℕ). is_none o) W.no_barrier));
          }
        where
          held : (o : Option FlushTurn) → option_map (λ (turn : FlushTurn). turn.stage) o
              ≡ Some (Waiting H.memtable) → IsSome o
          held None h = absurd (none-some _ h)
          held (Some turn) h = refl

          -- a table that there is not has made no memtable
          there : (t : ℕ) → 0 < (table_of x t).newest → t < length x.tables
          there t some = dite (dec_lt t (length x.tables)) (λ l. l)
              (λ past. absurd (let none : (table_of x t).newest ≡ 0
              = ap (λ (tb : TableState). tb.newest)
              (get_or_past x.tables t fresh_table (omega arith)) in omega arith))
