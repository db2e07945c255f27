-- What a flush knows behind a call of the keeper on the desk, and behind the put that retires a
-- memtable with its file.
use Rattle.std.proofs.Common.{
  ◌≡◌,
  ℕ,
  ◌<◌,
  List,
  ◌∷◌,
  Option,
  Some,
  is_some,
  Result,
  Ok,
  Err,
  OnErr,
  OnOk,
  refl,
  sym,
  ap,
  ◌∙◌,
  subst,
}
use Rattle.atomic_table.specs.Table.{Me, rest}
use Rattle.clog_base.specs.declared.cell.Cell.{Cell}
use Rattle.clog_base.specs.declared.cell.CellKey.{CellKey}
use Rattle.clog_base.specs.declared.cell.Table.{Table}
use Rattle.path_core.specs.declared.event.Cursor.TheVariants.{OldestLive}
use Rattle.path_core.specs.declared.event.Event.TheVariants.{Put}
use Rattle.path_core.specs.declared.keeper.KeeperFault.{KeeperFault}
use Rattle.path_core.specs.declared.keeper.KeeperFault.TheVariants.{
  Stopped as KeeperStopped,
  OutOfMemory as KeeperOutOfMemory,
}
use Rattle.path_core.specs.declared.seat.FlushTurn.{FlushTurn}
use Rattle.path_core.specs.declared.seat.Issue.TheVariants.{Rest}
use Rattle.path_core.specs.Parts.{seat_table, stage_of}
use Rattle.path_core.specs.SeatParts.{in_flush}
use Rattle.path_core.specs.Words.{place_of}
use Rattle.path_core.proofs.seats.Columns.{at_table_keeps, Columns}
use Rattle.path_core.proofs.seats.StepColumns.{columns}
use Rattle.path_rule.specs.declared.lasting.Lasting.{Lasting}
use Rattle.path_rule.specs.declared.slot.Slot.{Slot}
use Rattle.path_rule.specs.declared.view.Hands.{Hands}
use Rattle.path_rule.specs.declared.view.View.{View}
use Rattle.path_rule.specs.Boxes.{desk_box, DeskIs}
use Rattle.path_rule.specs.Calls.{FiledAs, Holds}
use Rattle.path_rule.specs.Filing.{MayPut, upper_of}
use Rattle.path_rule.specs.FilingTold.{CarriesFiled, next_file}
use Rattle.path_rule.specs.Layout.{reading_at}
use Rattle.path_rule.specs.Rule.{told_by}
use Rattle.path_rule.specs.SyncEnd.{stopped_by, TellsFaults}
use Rattle.path_rule.specs.TurnTold.{CarriesDesk}
use Rattle.path_rule.proofs.seats.Staying.{none_is}
use Rattle.path_flush.specs.FlushFilings.{HasTurns, TellsFault, stopped_after}
use Rattle.path_flush.specs.FlushTurns.{IsHolder}
use Rattle.path_flush.proofs.FlushReadSteps.{stage_in, staged}

-- ---- what the keeper answers

pub on_ok : {T E : Type 0} (r : Result T E) {P : Type 0} {x : T} → r ≡ Ok x → OnOk r P → P
on_ok r {P} is F = subst (λ k. OnOk k P) is F

pub on_err : {T E : Type 0} (r : Result T E) {P : Type 0} {e : E} → r ≡ Err e → OnErr r P → P
on_err r {P} is F = subst (λ k. OnErr k P) is F

pub stopped_so : {T : Type 0} (s : Option ℕ) (r : Result T KeeperFault) (fault : KeeperFault)
    → r ≡ Err fault → stopped_by s r ≡ stopped_after s fault
stopped_so {T} s r fault is = ap (λ (k : Result T KeeperFault). stopped_by s k) is ∙ by fault
  where
    by : (f : KeeperFault) → stopped_by {T = T} s (Err f) ≡ stopped_after s f
    by (KeeperStopped at_open now) = refl
    by KeeperOutOfMemory = refl

pub tells_so : {T : Type 0} (opened : ℕ) (r : Result T KeeperFault) (fault : KeeperFault)
    → r ≡ Err fault → TellsFaults opened r → TellsFault opened fault
tells_so {T} opened r fault is F = by fault (subst (λ (k : Result T KeeperFault).
    TellsFaults opened k) is F)
  where
    by : (f : KeeperFault) → TellsFaults {T = T} opened (Err f) → TellsFault opened f
    by (KeeperStopped at_open now) F = F
    by KeeperOutOfMemory F = tt

pub stopped_not : {T : Type 0} (s : Option ℕ) (r : Result T KeeperFault) (done : T) → r ≡ Ok done
    → stopped_by s r ≡ s
stopped_not {T} s r done is = ap (λ (k : Result T KeeperFault). stopped_by s k) is

module _ {K : Type 0} where
  -- a call of the keeper leaves the turns
  pub turns_same : (t : ℕ) (m m' : Me (Slot K) View) → m'.0 ≡ m.0 → rest m'.1 ≡ rest m.1
      → HasTurns t m → HasTurns t m'
  turns_same t m m' view others H = record {
    holder = subst (λ (v : View). IsHolder t v) (sym view) H.holder;
    holds = subst (λ (v : View). Holds Rest v) (sym view) H.holds;
    alone = others ∙ H.alone;
  }

module _ {K : Type 0} (shows : K → Lasting) where
  -- what it knows of the desk is so where neither changes
  pub desk_same : (m m' : Me (Slot K) View) → m'.0 ≡ m.0 → m'.1 ≡ m.1 → CarriesDesk shows m
      → CarriesDesk shows m'
  desk_same m m' view boxes C = (
    C.0,
    boxes ∙ (C.1 ∙ ap (λ (l : List (ℕ × Slot K)). (desk_box, C.0) ∷ rest l) (sym boxes)),
    subst (λ (v : View). DeskIs shows C.0 v.hands.lasting v.hands.pending v.hands.progress)
        (sym view) C.2,
  )

-- the file that is put goes on where the table's last one ended
pub put_at : (v u : View) (t lower upper : ℕ) (cells : List (CellKey × Cell)) → u ≡ v
    → lower ≡ upper_of t v.hands.lasting.filed.files
    → MayPut v.hands.lasting (next_file v.hands.lasting t upper cells)
    → MayPut u.hands.lasting
    (record { table = t; lower = lower; upper = upper; cells = cells })
put_at v u t lower upper cells view is P = subst (λ (x : View). MayPut x.hands.lasting
    (record { table = t; lower = lower; upper = upper; cells = cells })) (sym view)
    (subst (λ (k : ℕ). MayPut v.hands.lasting
    (record { table = t; lower = k; upper = upper; cells = cells })) (sym is) P)

pub filed_at : {K : Type 0} (shows : K → Lasting) (v : View) (m : Me (Slot K) View)
    (t lower upper : ℕ) (cells : List (CellKey × Cell)) → m.0 ≡ v
    → lower ≡ upper_of t v.hands.lasting.filed.files
    → CarriesFiled shows (record { table = t; lower = lower; upper = upper; cells = cells }) m
    → CarriesFiled shows (next_file m.0.hands.lasting t upper cells) m
filed_at shows v m t lower upper cells view is C = subst (λ (k : ℕ). CarriesFiled shows
    (record { table = t; lower = k; upper = upper; cells = cells }) m)
    (is ∙ ap (λ (x : View). upper_of t x.hands.lasting.filed.files) (sym view)) C

-- ---- behind the put

module _ (v after : View) (w n lower : ℕ) (t : Table) (value : ℕ) (h : Hands)
    (d : FiledAs v w (Put w (OldestLive t) value) n lower h after) where
  pub stage_filed : (u : ℕ) → stage_of after.part u ≡ stage_of v.part u
  stage_filed u = ap (λ (x : View). stage_of x.part u) d.view
      ∙ at_table_keeps t.0 u
      (in_flush (λ (turn : FlushTurn). record turn { oldest_live = Some value })) v.part stage_in
      (staged (λ (turn : FlushTurn). record turn { oldest_live = Some value }) (λ turn. refl)
      (seat_table v.part t.0).flush)

  cols : Columns (Put w (OldestLive t) value) v.part after.part
  cols = let e = Put w (OldestLive t) value in
      subst (λ (u : View). Columns e v.part u.part) (sym d.view)
      (columns e v.part (reading_at (place_of e) n) (told_by (Some lower) h) tt)

  pub holder_filed : (k : ℕ) → IsHolder k v → IsHolder k after
  holder_filed k H = record {
    there = subst (λ z. k < z.tables) (sym (ap (λ (u : View). u.size) d.view)) H.there;
    held = cols.flush k ∙ H.held;
    others = λ u other. none_is (seat_table after.part u).flush
        (cols.flush u ∙ ap (λ o. is_some o) (H.others u other));
    idle = record {
      write = cols.write ∙ H.idle.write;
      append = cols.append ∙ H.idle.append;
    };
    unclaimed = cols.claim ∙ H.unclaimed;
  }
