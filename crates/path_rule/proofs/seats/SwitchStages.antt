-- What the holder of a table's turn keeps of a switch after each of its steps.
use Rattle.std.proofs.Common.{◌≡◌, ◌≢◌, ℕ, ◌+◌, ◌-◌, ◌^◌, ◌<◌, ◌≤◌, max, Bool, true, false, length}
use Rattle.std.proofs.Common.{get_or, Option, Some, None, is_some, IsTrue, refl, sym, ap, ◌∙◌}
use Rattle.std.proofs.Common.{subst, arith, eq-eqb, get_or-set_same, get_or-set_other}
use Rattle.std.specs.Option.{option_map}
use Rattle.std.specs.Prelude.{◌&&◌, ◌||◌, if◌then◌else◌}
use Rattle.std.proofs.lemmas.Bool.{false≢true}
use Rattle.std.proofs.Math.ListN.{get_or-map as get_or-map_default}
use Rattle.clog_base.specs.declared.cell.Table.{Table}
use Rattle.clog_base.specs.declared.position.Key.{Key}
use Rattle.op_core.specs.declared.count.Order.{Order}
use Rattle.op_core.specs.declared.count.Order.TheVariants.{Append, Write}
use Rattle.op_core.specs.Tallies.{is_finished}
use Rattle.path_core.specs.declared.event.Cursor.TheVariants.{OldestLive}
use Rattle.path_core.specs.declared.event.Event.{Event}
use Rattle.path_core.specs.declared.event.Event.TheVariants.{Finalise, Look, MoveCurrent, Raise}
use Rattle.path_core.specs.declared.event.Event.TheVariants.{Switch}
use Rattle.path_core.specs.declared.event.Place.TheVariants.{Bound, Count, Current, CursorWord, Log}
use Rattle.path_core.specs.declared.event.Place.TheVariants.{Newest, Oldest}
use Rattle.path_core.specs.declared.event.SwitchPart.TheVariants.{Clear, Open, Mark}
use Rattle.path_core.specs.declared.seat.FlushTurn.{FlushTurn}
use Rattle.path_core.specs.declared.seat.FoundGroups.{FoundGroups}
use Rattle.path_core.specs.declared.seat.Marked.{Marked}
use Rattle.path_core.specs.declared.seat.Seat.{Seat}
use Rattle.path_core.specs.declared.seat.SeatTable.{SeatTable}
use Rattle.path_core.specs.declared.seat.Switching.{Switching}
use Rattle.path_core.specs.declared.seat.Switching.TheVariants.{Begun, Marked as MarkedStage}
use Rattle.path_core.specs.declared.seat.Switching.TheVariants.{Waiting, WithBarrier}
use Rattle.path_core.specs.declared.state.Bound.{Bound as BoundOf}
use Rattle.path_core.specs.declared.state.Bound.TheVariants.{Raising, Final}
use Rattle.path_core.specs.LawfulSeats.{IsRaisingFrom}
use Rattle.path_core.specs.Parts.{is_at, seat_table, stage_of, untouched}
use Rattle.path_core.specs.SeatAfter.{raised_stage}
use Rattle.path_core.specs.SeatParts.{barrier_issued, begins_at, bound_found, current_found}
use Rattle.path_core.specs.SeatParts.{finished_found, has_note_of, is_raising, keeps, key_found}
use Rattle.path_core.specs.SeatParts.{log_found, made_final, oldest_found, raised_to, with_barrier}
use Rattle.path_core.specs.Words.{reading}
use Rattle.path_core.proofs.tables.StageTells.{stage_exact}
use Rattle.path_rule.specs.declared.view.View.{View}
use Rattle.op_core.specs.CountWords.{tally_in}
use Rattle.path_rule.specs.Layout.{bound_in, bound_word, word_of}
use Rattle.path_rule.specs.Rule.{view_after, Was}
use Rattle.path_rule.specs.Switches.{FlushNewest, FlushOldest, FlushRaised}
use Rattle.path_rule.proofs.moves.SwitchSteps.{turn_at}
use Rattle.path_rule.proofs.seats.Accepting.{bound_is, table_inside}

abbrev stage_in : Option FlushTurn → Option Switching
stage_in o = option_map (λ (turn : FlushTurn). turn.stage) o

held_turn : (o : Option FlushTurn) → IsTrue (is_some o) → (turn : FlushTurn) × (o ≡ Some turn)
held_turn None h = absurd (false≢true h)
held_turn (Some turn) h = (turn, refl)

-- a change of the turn that sets its stage, behind one that leaves it
staged : (f : Switching → Switching) (g : FlushTurn → FlushTurn)
    → ((turn : FlushTurn) → (g turn).stage ≡ turn.stage) → (o : Option FlushTurn)
    → stage_in (option_map (λ (turn : FlushTurn). record turn { stage = f turn.stage })
    (option_map g o)) ≡ option_map f (stage_in o)
staged f g keeps None = refl
staged f g keeps (Some turn) = ap (λ k. Some (f k)) (keeps turn)

restaged : (f : Switching → Switching) (o : Option FlushTurn)
    → stage_in (option_map (λ (turn : FlushTurn). record turn { stage = f turn.stage }) o)
    ≡ option_map f (stage_in o)
restaged f None = refl
restaged f (Some turn) = refl

-- what a writer's place adds to a table leaves its turn
flush_kept : (c : Bool) (m : ℕ) (st : SeatTable)
    → (if c then record st { place = Some m } else st).flush ≡ st.flush
flush_kept true m st = refl
flush_kept false m st = refl

-- a look at the oldest live memtable changes what a write tries alone, besides the turn
begins_left : (b : Bool) (n : ℕ) (st : SeatTable) → (begins_at b n st).flush ≡ st.flush
begins_left false n st = refl
begins_left true n st = by (is_some st.trying)
  where
    by : (c : Bool) → (if c then st else record st { trying = Some n }).flush ≡ st.flush
    by true = refl
    by false = refl

-- the holder has raised what it marked, to the key that it found
raised_now : (f to : ℕ) (raised : Bool)
    → raised_stage f to (MarkedStage (record { memtable = f; key = Some to; raised = raised }))
    ≡ MarkedStage (record { memtable = f; key = Some to; raised = true })
raised_now f to raised =
    (λ i. MarkedStage (record {
      memtable = f;
      key = Some to;
      raised = raised || (eq-eqb f f refl i && eq-eqb to to refl i);
    })) ∙ ap (λ (c : Bool). MarkedStage (record { memtable = f; key = Some to; raised = c }))
    (by raised)
  where
    by : (c : Bool) → (c || (true && true)) ≡ true
    by true = refl
    by false = refl

-- what is found of an order's groups leaves the tables
keeps_tables : (o : Order) (f : FoundGroups → FoundGroups) (s : Seat)
    → (keeps o f s).tables ≡ s.tables
keeps_tables Write f s = refl
keeps_tables Append f s = refl

-- and so the stages of switches
pub current_stages : (v : View) (w n : ℕ) (o : Order) (t : ℕ)
    → stage_of (view_after v (Look w (Current o)) n).part t ≡ stage_of v.part t
current_stages v w n o t = ap (λ ts. stage_in (get_or ts t untouched).flush)
    (keeps_tables o (current_found n) v.part)

pub oldest_stages : (v : View) (w n : ℕ) (o : Order) (t : ℕ)
    → stage_of (view_after v (Look w (Oldest o)) n).part t ≡ stage_of v.part t
oldest_stages v w n o t = ap (λ ts. stage_in (get_or ts t untouched).flush)
    (keeps_tables o (oldest_found n) v.part)

pub count_stages : (v : View) (w n : ℕ) (o : Order) (g t : ℕ)
    → stage_of (view_after v (Look w (Count o g)) n).part t ≡ stage_of v.part t
count_stages v w n o g t = by (is_finished (tally_in n))
  where
    by : (b : Bool) → stage_in (get_or (if b then keeps o (finished_found g) v.part
        else v.part).tables t untouched).flush ≡ stage_of v.part t
    by true = ap (λ ts. stage_in (get_or ts t untouched).flush)
        (keeps_tables o (finished_found g) v.part)
    by false = refl

-- a memtable that waits has its barrier, once the next group is current
pub barrier_stage : (v : View) (w t g current f : ℕ) → stage_of v.part t ≡ Some (Waiting f)
    → stage_of (view_after v (MoveCurrent w Write g) current).part t
    ≡ Some (WithBarrier f current)
barrier_stage v w t g current f waits =
    ap (λ (st : SeatTable). stage_in st.flush)
    (get_or-map_default (barrier_issued current) v.part.tables t untouched)
    ∙ (restaged (with_barrier current) (seat_table v.part t).flush
    ∙ ap (λ o. option_map (with_barrier current) o) waits)

module _ (v : View) (w : ℕ) (t : Table) (few : t.0 < 16) where
  inside : (e : Event) → Was v w e → t.0 < length v.part.tables
  inside e was = table_inside v w e was t.0 few

  -- the holder found the newest memtable, and the least that is not retired

  pub newest_found : (n : ℕ) → Was v w (Look w (Newest t))
      → IsTrue (is_some (seat_table v.part t.0).flush)
      → FlushNewest t.0 (view_after v (Look w (Newest t)) n).part n
  newest_found n was held = let k = held_turn (seat_table v.part t.0).flush held in (
    record k.0 { newest = Some n },
    ap (λ (st : SeatTable). st.flush)
        (get_or-set_same v.part.tables t.0 _ untouched (inside _ was))
        ∙ ap (λ (o : Option FlushTurn). option_map (λ (turn : FlushTurn).
        record turn { newest = Some n }) o) k.1,
    refl,
  )

  pub newest_keeps : (n k : ℕ) → Was v w (Look w (Newest t)) → FlushOldest t.0 v.part k
      → FlushOldest t.0 (view_after v (Look w (Newest t)) n).part k
  newest_keeps n k was F = (
    record F.0 { newest = Some n },
    ap (λ (st : SeatTable). st.flush)
        (get_or-set_same v.part.tables t.0 _ untouched (inside _ was))
        ∙ ap (λ (o : Option FlushTurn). option_map (λ (turn : FlushTurn).
        record turn { newest = Some n }) o) F.1,
    F.2,
  )

  pub newest_small : (n : ℕ) (was : Was v w (Look w (Newest t)))
      → word_of (reading was.core (Newest t)) ≡ n → n < 2 ^ 47
  newest_small n was found = let made = (was.lawful.switches.tables t.0).bounds_rise.made in
      let rows = was.rows.memtables t.0 in omega arith

  pub newest_leaves : (n u : ℕ) → u ≢ t.0
      → seat_table (view_after v (Look w (Newest t)) n).part u ≡ seat_table v.part u
  newest_leaves n u apart = get_or-set_other v.part.tables t.0 u _ untouched apart

  pub least_found : (n : ℕ) → Was v w (Look w (CursorWord (OldestLive t)))
      → IsTrue (is_some (seat_table v.part t.0).flush)
      → FlushOldest t.0 (view_after v (Look w (CursorWord (OldestLive t))) n).part n
  least_found n was held = let k = held_turn (seat_table v.part t.0).flush held in (
    record k.0 { oldest_live = Some n },
    ap (λ (st : SeatTable). st.flush)
        (get_or-set_same v.part.tables t.0 _ untouched (inside _ was))
        ∙ (begins_left (has_note_of v.part t.0) n _
        ∙ ap (λ (o : Option FlushTurn). option_map (λ (turn : FlushTurn).
        record turn { oldest_live = Some n }) o) k.1),
    refl,
  )

  -- the stages of a switch

  pub opened_stage : (f : ℕ) → Was v w (Switch w t f Open) → (turn : FlushTurn)
      → (seat_table v.part t.0).flush ≡ Some turn
      → stage_of (view_after v (Switch w t f Open) f).part t.0 ≡ Some (Begun f)
  opened_stage f was turn is =
      ap (λ (st : SeatTable). stage_in st.flush)
      (get_or-set_same v.part.tables t.0 _ untouched (inside _ was))
      ∙ (staged (λ k. Begun f)
      (λ (turn : FlushTurn). record turn { newest = Some f; cleared = None })
      (λ turn. refl) (seat_table v.part t.0).flush
      ∙ ap (λ o. option_map (λ (k : Switching). Begun f) (stage_in o)) is)

  pub cleared_stage : (f n : ℕ) → Was v w (Switch w t f Clear)
      → stage_of (view_after v (Switch w t f Clear) n).part t.0 ≡ stage_of v.part t.0
  cleared_stage f n was =
      ap (λ (st : SeatTable). stage_in st.flush)
      (get_or-set_same v.part.tables t.0 _ untouched (inside _ was))
      ∙ by (seat_table v.part t.0).flush
    where
      by : (o : Option FlushTurn)
          → stage_in (option_map (λ (turn : FlushTurn). record turn { cleared = Some f }) o)
          ≡ stage_in o
      by None = refl
      by (Some turn) = refl

  pub clear_leaves : (f n u : ℕ) → u ≢ t.0
      → seat_table (view_after v (Switch w t f Clear) n).part u ≡ seat_table v.part u
  clear_leaves f n u apart = get_or-set_other v.part.tables t.0 u _ untouched apart

  pub marked_stage : (f n : ℕ) → Was v w (Switch w t f Mark) → (k : Switching)
      → stage_of v.part t.0 ≡ Some k
      → stage_of (view_after v (Switch w t f Mark) n).part t.0
      ≡ Some (MarkedStage (record { memtable = f; key = None; raised = false }))
  marked_stage f n was k is =
      let next : Switching = MarkedStage (record { memtable = f; key = None; raised = false }) in
      ap (λ (st : SeatTable). stage_in st.flush)
      (get_or-set_same v.part.tables t.0 _ untouched (inside _ was))
      ∙ (staged (λ k. next) (λ (turn : FlushTurn). record turn {
        bound = Some (record { memtable = f; bound = Raising (record { 0 = 0 }) });
      }) (λ turn. refl) (seat_table v.part t.0).flush
      ∙ ap (λ o. option_map (λ (k : Switching). next) o) is)

  pub found_stage : (f n : ℕ) (key : Option ℕ) (raised : Bool)
      → stage_of v.part t.0
      ≡ Some (MarkedStage (record { memtable = f; key = key; raised = raised }))
      → stage_of (view_after v (Look w Log) n).part t.0
      ≡ Some (MarkedStage (record { memtable = f; key = Some n; raised = raised }))
  found_stage f n key raised is =
      ap (λ (st : SeatTable). stage_in st.flush)
      (get_or-map_default (log_found n) v.part.tables t.0 untouched)
      ∙ (restaged (key_found n) (seat_table v.part t.0).flush
      ∙ ap (λ o. option_map (key_found n) o) is)

  pub raised_stage_now : (f n : ℕ) (key : Key) (raised : Bool) → Was v w (Raise w t f key)
      → stage_of v.part t.0
      ≡ Some (MarkedStage (record { memtable = f; key = Some key.0; raised = raised }))
      → stage_of (view_after v (Raise w t f key) n).part t.0
      ≡ Some (MarkedStage (record { memtable = f; key = Some key.0; raised = true }))
  raised_stage_now f n key raised was is =
      let b = bound_in n in let st = bound_found f (raised_to key.0 b) (seat_table v.part t.0) in
      let c = is_some v.part.note && is_at st.trying f && is_raising b in
      let set : FlushTurn → FlushTurn =
      λ turn. record turn { stage = raised_stage f key.0 turn.stage } in
      ap (λ (q : SeatTable). stage_in q.flush)
      (get_or-set_same v.part.tables t.0 _ untouched (inside _ was))
      ∙ (ap (λ o. stage_in (option_map set o)) (flush_kept c f st)
      ∙ (staged (raised_stage f key.0) (λ (turn : FlushTurn). record turn {
        bound = Some (record { memtable = f; bound = raised_to key.0 b });
      }) (λ turn. refl) (seat_table v.part t.0).flush
      ∙ (ap (λ o. option_map (raised_stage f key.0) o) is
      ∙ ap (λ k. Some k) (raised_now f key.0 raised))))

  -- The bound is at or above the key to which the holder raised it.
  pub raised_above : (f n : ℕ) (key : Key) (raised : Bool) (was : Was v w (Raise w t f key))
      → word_of (reading was.core (Bound t f)) ≡ n
      → stage_of v.part t.0
      ≡ Some (MarkedStage (record { memtable = f; key = Some key.0; raised = raised }))
      → FlushRaised t.0 (view_after v (Raise w t f key) n).part f key.0
  raised_above f n key raised was found is =
      let k : Marked = record { memtable = f; key = Some key.0; raised = raised } in
      let M = stage_exact was.core was.lawful w t.0 (MarkedStage k)
      (ap (λ p. stage_of p t.0) (sym was.part) ∙ is) in
      let b = bound_in n in let now : b ≡ Raising M.bound =
      bound_is v w t f n _ was found ∙ M.raising in
      let st = bound_found f (raised_to key.0 b) (seat_table v.part t.0) in
      let c = is_some v.part.note && is_at st.trying f && is_raising b in
      let set : FlushTurn → FlushTurn =
      λ turn. record turn { stage = raised_stage f key.0 turn.stage } in
      let turn = turn_at (seat_table v.part t.0).flush (MarkedStage k) is in
      let top : ℕ = max M.bound.0 key.0 in (
        record turn.0 {
          bound = Some (record { memtable = f; bound = Raising (record { 0 = top }) });
          stage = raised_stage f key.0 turn.0.stage;
        },
        top,
        ap (λ (q : SeatTable). q.flush)
            (get_or-set_same v.part.tables t.0 _ untouched (inside _ was))
            ∙ (ap (λ o. option_map set o) (flush_kept c f st)
            ∙ (λ i. option_map set (option_map (λ (turn : FlushTurn). record turn {
              bound = Some (record { memtable = f; bound = raised_to key.0 (now i) });
            }) (turn.1 i)))),
        refl,
        omega arith,
      )

  pub final_above : (f n key : ℕ) (least : Option ℕ) (was : Was v w (Finalise w t f))
      → word_of (reading was.core (Bound t f)) ≡ n
      → stage_of v.part t.0
      ≡ Some (MarkedStage (record { memtable = f; key = least; raised = true }))
      → FlushRaised t.0 v.part f key → key ≤ n - 2 ^ 62
  final_above f n key least was found is F =
      let k : Marked = record { memtable = f; key = least; raised = true } in
      let M = stage_exact was.core was.lawful w t.0 (MarkedStage k)
      (ap (λ p. stage_of p t.0) (sym was.part) ∙ is) in
      let E = ((was.lawful.seats_know w).flush t.0 F.0
      (ap (λ p. (seat_table p t.0).flush) (sym was.part) ∙ F.2)).bound _ F.3 in
      let low : F.1 ≤ M.bound.0 = subst (IsRaisingFrom F.1) M.raising E in
      let word : M.bound.0 + 2 ^ 62 ≡ n = ap bound_word (sym M.raising) ∙ found in
      let above = F.4 in omega arith

  pub final_stage : (f n : ℕ) → Was v w (Finalise w t f) → (k : Switching)
      → stage_of v.part t.0 ≡ Some k
      → stage_of (view_after v (Finalise w t f) n).part t.0 ≡ Some (Waiting f)
  final_stage f n was k is =
      ap (λ (st : SeatTable). stage_in st.flush)
      (get_or-set_same v.part.tables t.0 _ untouched (inside _ was))
      ∙ (staged (λ k. Waiting f) (λ (turn : FlushTurn). record turn {
        bound = Some (record { memtable = f; bound = made_final (bound_in n) });
      }) (λ turn. refl) (seat_table v.part t.0).flush
      ∙ ap (λ o. option_map (λ (k : Switching). Waiting f) o) is)

  -- the bound at which it was made final
  pub final_found : (f n : ℕ) (key : Option ℕ) (was : Was v w (Finalise w t f))
      → word_of (reading was.core (Bound t f)) ≡ n
      → stage_of v.part t.0
      ≡ Some (MarkedStage (record { memtable = f; key = key; raised = true }))
      → (n ≡ n - 2 ^ 62 + 2 ^ 62)
      × ((seat_table (view_after v (Finalise w t f) n).part t.0).bound
      ≡ Some (record { memtable = f; bound = Final (record { 0 = n - 2 ^ 62 }) }))
  final_found f n key was found is =
      let x = was.core in
      let k : Marked = record { memtable = f; key = key; raised = true } in
      let M = stage_exact x was.lawful w t.0 (MarkedStage k)
      (ap (λ p. stage_of p t.0) (sym was.part) ∙ is) in
      let raising = M.raising in
      let word : M.bound.0 + 2 ^ 62 ≡ n = ap bound_word (sym raising) ∙ found in
      let low : M.bound.0 ≡ n - 2 ^ 62 = omega arith in
      let now : bound_in n ≡ Raising (record { 0 = n - 2 ^ 62 }) =
      bound_is v w t f n _ was found ∙ (raising ∙ ap (λ q. Raising (record { 0 = q })) low) in (
        omega arith,
        ap (λ (st : SeatTable). st.bound)
            (get_or-set_same v.part.tables t.0 _ untouched (inside _ was))
            ∙ ap (λ (b : BoundOf). Some (record { memtable = f; bound = made_final b })) now,
      )

  -- at other tables nothing changes

  pub switch_leaves : (f n u : ℕ) → u ≢ t.0
      → (seat_table (view_after v (Switch w t f Open) n).part u ≡ seat_table v.part u)
      × (seat_table (view_after v (Switch w t f Mark) n).part u ≡ seat_table v.part u)
      × (seat_table (view_after v (Finalise w t f) n).part u ≡ seat_table v.part u)
  switch_leaves f n u apart = (
    get_or-set_other v.part.tables t.0 u _ untouched apart,
    get_or-set_other v.part.tables t.0 u _ untouched apart,
    get_or-set_other v.part.tables t.0 u _ untouched apart,
  )
